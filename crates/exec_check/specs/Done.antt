-- What the code holds of threads.
use Rattle.std.specs.Prelude.{◌≡◌, List, map}
use Rattle.axiom_model.specs.declared.ThreadPart.{ThreadPart}
use Rattle.axiom_model.specs.declared.Candidate.{Candidate}
use Rattle.c_check.specs.declared.checked.Checked.{Checked}
use Rattle.consistency.specs.declared.ThreadActions.{ThreadActions}
use Rattle.consistency.specs.Seen.{thread_seen, execution_seen}
use Rattle.exec_check.specs.declared.event_actions.EventAction.{EventAction}
use Rattle.exec_check.specs.declared.threads.Done.{Done}
use Rattle.exec_check.specs.Running.{acting, execution_in}
use Rattle.exec_check.specs.EventActions.{ListsActions}
use Rattle.exec_check.specs.ThreadTests.{seen_by, told_failing}

-- what each thread did, all actions with their events, and which thread fails
pub record HasDone (p : Checked) (ts : List ThreadPart) (d : Done) : Type 0 where
  pub seen : map thread_seen d.threads ≡ map (seen_by p) ts
  pub listed : ListsActions (acting p ts) d.event_actions
  pub failing : d.failing ≡ told_failing p ts

-- what each thread of a candidate did, and all its actions with their events
pub record Acts (p : Checked) (c : Candidate) (ts : List ThreadActions) (ws : List EventAction) : Type 0 where
  pub seen : execution_seen ts c.rf c.co ≡ execution_in p c
  pub listed : ListsActions (execution_in p c) ws
