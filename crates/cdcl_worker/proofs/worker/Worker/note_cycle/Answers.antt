use Rattle.std.proofs.Common.{◌≡◌, ◌<◌, length, arith, refl, sym, subst}
use Rattle.clause_exchange.specs.Steps.{mine}
use Rattle.std.proofs.lemmas.Result.{on_ok_weaker}
use Rattle.cdcl_worker.proofs.Learnt.{cycle_may}
use Rattle.cdcl_worker.proofs.worker.Worker.note_cycle.Goals as goal

pub note-requires-clause-may : goal.note-requires-clause-may
note-requires-clause-may c =
    let s = c.requires.searching in
    let room : length (mine c.args.seat.now.view).log < 1000001 = (let a = s.1.going.within in let b = s.1.going.few in omega arith) in
    cycle_may c.args.seat.now.view c.args.clause.now c.in_ok-lemma.lemma c.in_ok-lemma.ensures.same.1 c.in_ok-lemma.ensures.same.0 c.requires.cycle c.args.self.now.since c.in_ok-lemma.ensures.kind s.1.going.heeding c.requires.recent room c.requires.new

pub returns-clause-noted : goal.returns-clause-noted
returns-clause-noted c = on_ok_weaker c.note.result (λ h. (c.in_ok-lemma.lemma, h, c.in_ok-lemma.ensures.same.0, c.in_ok-lemma.ensures.same.1)) c.note.ensures.noted
