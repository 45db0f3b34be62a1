use Rattle.std.proofs.Common.{refl}
use Rattle.clause_exchange.specs.Steps.{mine}
use Rattle.std.proofs.lemmas.Result.{on_ok_weaker}
use Rattle.worker_log.proofs.Testing.{may_refute, still_heeding, one_longer}
use Rattle.worker_log.proofs.tests.note_empty.Goals as goal

pub note-requires-clause-may : goal.note-requires-clause-may
note-requires-clause-may c = may_refute _ _ c.requires.yes c.requires.no c.new.ensures refl c.requires.heeding c.requires.few

pub returns-clause-heeding : goal.returns-clause-heeding
returns-clause-heeding c = on_ok_weaker c.note.result (λ h. still_heeding (mine c.args.seat.now.view) (mine c.note.new.seat.view) _ h c.requires.heeding) c.note.ensures.noted

pub returns-clause-longer : goal.returns-clause-longer
returns-clause-longer c = on_ok_weaker c.note.result (λ h. one_longer (mine c.args.seat.now.view) (mine c.note.new.seat.view) _ h) c.note.ensures.noted
