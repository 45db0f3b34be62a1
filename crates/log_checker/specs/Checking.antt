-- A checker between entries.
use Rattle.std.specs.Prelude.{◌≡◌, ℕ, ◌↔◌, Bool, IsTrue, List, length}
use Rattle.cnf_problem.specs.declared.problem.Problem.{Problem}
use Rattle.lemma_log.specs.declared.Entry.{Entry}
use Rattle.unit_refuter.specs.Refuting.{IsReady, RefuterView}
use Rattle.log_checker.specs.Goodness.{EndsEmpty, IsGood, clauses_of}
use Rattle.log_checker.specs.Graphs.{AtomsView, AreFound}

-- a checker as contracts see it
pub record CheckerView : Type 0 where
  pub refuter : RefuterView
  pub atoms : AtomsView
  pub taken : ℕ
  pub ends_empty : Bool

-- the checker has taken these entries, which are a good log of this problem
pub record HasTaken (p : Problem) (entries : List Entry) (c : CheckerView) : Type 0 where
  pub good : IsGood p entries
  pub counted : c.taken ≡ length entries
  pub empty : IsTrue c.ends_empty ↔ EndsEmpty entries
  pub refuter : IsReady p (clauses_of entries) c.refuter
  pub atoms : AreFound p c.atoms
