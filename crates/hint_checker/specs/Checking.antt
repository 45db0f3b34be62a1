-- A checker of hinted logs between entries, and why it refuses one.
use Rattle.std.specs.Prelude.{◌≡◌, ⊤, List, []}
use Rattle.dg_base.specs.declared.Lit.{Lit}
use Rattle.cnf_problem.specs.declared.problem.Problem.{Problem}
use Rattle.lemma_log.specs.declared.Entry.{Entry}
use Rattle.lemma_log.specs.declared.hints.Hint.{Hint}
use Rattle.log_checker.specs.declared.refused.Refused.{Refused}
use Rattle.log_checker.specs.declared.refused.Refused.TheVariants.{OutOfMemory}
use Rattle.log_checker.specs.Graphs.{AreFound}
use Rattle.log_checker.specs.Refusals.{HintedEntryFails}
use Rattle.hint_checker.specs.declared.hinted.HintChecker.{HintChecker}

-- its set is empty and over the problem's variables, and it has the problem's atoms
pub record IsReadyFor (p : Problem) (c : HintChecker) : Type 0 where
  pub vars : c.set.vars ≡ p.vars
  pub empty : c.set.entries ≡ []
  pub atoms : AreFound p c.atoms

-- only want of memory is free
abbrev pub IsHintedEntryRefusal : Problem → List (List Lit) → Entry → List Hint → Refused → Type 0
IsHintedEntryRefusal p before e hints OutOfMemory = ⊤
IsHintedEntryRefusal p before e hints r = HintedEntryFails p before e hints r
