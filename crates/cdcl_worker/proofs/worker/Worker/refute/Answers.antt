use Rattle.std.proofs.Common.{◌≡◌, List, [], refl, sym, subst}
use Rattle.std.specs.Prelude.{Contains}
use Rattle.dg_base.specs.declared.Lit.{Lit}
use Rattle.clause_exchange.specs.Steps.{mine}
use Rattle.worker_log.specs.Newness.{knows}
use Rattle.cdcl_worker.proofs.Learnt.{empty_may}
use Rattle.cdcl_worker.proofs.Noted.{knows_lemma, left_noted, left_offered, offered_empty}
use Rattle.cdcl_worker.proofs.worker.Worker.refute.Goals as goal

pub note-requires-clause-may : goal.note-requires-clause-may
note-requires-clause-may c = empty_may c.args.seat.now.view _ c.args.self.now.since refl c.new.ensures c.requires.heeding c.requires.recent c.requires.room c.requires.refuted

pub offer-requires-clause-cause : goal.offer-requires-clause-cause
offer-requires-clause-cause c = subst (λ (ls : List Lit). Contains (knows (mine c.note.new.seat.view)) ls) c.new.ensures (knows_lemma _ (mine c.args.seat.now.view) (mine c.note.new.seat.view) c.in_ok-note.ensures.noted)

pub returns-clause-left : goal.returns-clause-left
returns-clause-left c = left_offered (mine c.args.seat.now.view) _ c.note.new.seat.view c.offer.new.seat.view _ c.offer.result (left_noted _ _ (mine c.args.seat.now.view) c.note.new.seat.view c.note.ensures.logging c.in_ok-note.ensures.noted) c.offer.ensures.stands

pub returns-clause-outcome : goal.returns-clause-outcome
returns-clause-outcome c = λ budget. offered_empty _ (mine c.args.seat.now.view) c.note.new.seat.view c.offer.new.seat.view c.offer.result c.in_ok-note.ensures.noted c.new.ensures c.requires.silent c.offer.ensures.stands
