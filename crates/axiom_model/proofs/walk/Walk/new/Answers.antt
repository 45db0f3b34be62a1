use Rattle.axiom_model.proofs.Walking.{new_walk}
use Rattle.axiom_model.proofs.walk.Walk.new.Goals as goal

pub returns-clause-walk : goal.returns-clause-walk
returns-clause-walk c =
    rw (c.new.ensures, c.new-2.ensures, c.in_ok-marks.ensures)
    (new_walk c.args.edges.now c.in_ok-earlier.earlier c.in_ok-earlier.left c.args.nodes c.in_ok-earlier.ensures.earlier_len c.in_ok-earlier.ensures.left_len c.in_ok-earlier.ensures.earlier c.in_ok-earlier.ensures.left)
