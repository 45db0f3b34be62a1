use Rattle.axiom_model.proofs.Turning.{turns_back-section}
use Rattle.axiom_model.proofs.graph.cut.Goals as goal

pub returns : goal.returns
returns c edges t =
    rw (c.in_ok-append.ensures, c.in_ok-cycle.ensures, c.in_ok-reversed.ensures, c.split_at-2.ensures.front, c.split_at-2.ensures.back)
    (turns_back-section edges c.args.path.now c.args.source c.place_of.result c.place_of_least.result c.split_at.result.1.now c.split_at.ensures.back c.place_of.ensures c.place_of_least.ensures.within c.place_of_least.ensures.least t)
