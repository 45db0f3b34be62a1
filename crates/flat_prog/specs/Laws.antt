-- What holds of every flat run, and a program by hand.
use Rattle.std.specs.Prelude.{◌≡◌, ◌≢◌, ℕ, List, [], ◌∷◌, ◌++◌, Some, None, length}
use Rattle.dg_base.specs.declared.Place.{Place}
use Rattle.dg_base.specs.declared.operators.Op.TheVariants as op
use Rattle.axiom_model.specs.declared.Action.TheVariants as action
use Rattle.flat_prog.specs.declared.Instance.{Instance}
use Rattle.flat_prog.specs.declared.FlatStep.{FlatStep}
use Rattle.flat_prog.specs.declared.FlatAct.{FlatAct}
use Rattle.flat_prog.specs.declared.FlatAct.TheVariants as act
use Rattle.flat_prog.specs.Runs.{Ended, Failed, FlatRun, FlatState, steps, go_on, flat_run}

-- the steps of two lists are made in turn: those of the second where the first lets the run go on
abbrev pub StepsGoOn : Type 0
StepsGoOn = (is : List Instance) (ts us : List FlatStep) (s : FlatState) → steps is (ts ++ us) s ≡ go_on (steps is ts s) (steps is us)

-- The run uses the first numbers of its script, and depends on no others: with any others behind them, or with none, it is the same.
-- It needs them all: on fewer it is short.
pub record UsesFirst (is : List Instance) (i : Instance) (arg handle : ℕ) (script : List ℕ) (r : FlatRun) : Type 0 where
  pub taken : List ℕ
  pub rest : List ℕ
  pub first : script ≡ taken ++ rest
  pub count : r.used ≡ length taken
  pub same : (others : List ℕ) → flat_run is i arg handle (taken ++ others) ≡ Some r
  pub needed : (some others : List ℕ) → taken ≡ some ++ others → others ≢ [] → flat_run is i arg handle some ≡ None

abbrev pub RunsUseFirst : Type 0
RunsUseFirst =
    (is : List Instance) (i : Instance) (arg handle : ℕ) (script : List ℕ) (r : FlatRun) → flat_run is i arg handle script ≡ Some r → UsesFirst is i arg handle script r

-- ---- the thread that reads cell 0, asserts that the value is not 0, and writes the value and one more

abbrev pub guarded : ℕ → FlatAct → FlatStep
guarded g a = record { guard = g; act = a }

abbrev pub place : Place
place = record { line = 3; col = 5 }

abbrev pub counts_up : Instance
counts_up = record {
  function = 0;
  locals = 7;
  steps =
      guarded 2 (act.Read 0 4)
      ∷ guarded 2 (act.Set 5 op.Equal (4 ∷ 3 ∷ []))
      ∷ guarded 5 (act.Fail place 0)
      ∷ guarded 2 (act.Set 6 op.Plus (4 ∷ 2 ∷ []))
      ∷ guarded 2 (act.Write 0 6)
      ∷ [];
}

-- what it does where it reads 41, where it reads 0, and where the script has no number
pub record CountsUp : Type 0 where
  pub counts : flat_run (counts_up ∷ []) counts_up 0 0 (41 ∷ []) ≡ Some (record { actions = action.Start ∷ action.Read 0 41 ∷ action.Write 0 42 ∷ action.End ∷ []; ending = Ended; used = 1 })
  pub fails : flat_run (counts_up ∷ []) counts_up 0 0 (0 ∷ 7 ∷ []) ≡ Some (record { actions = action.Start ∷ action.Read 0 0 ∷ []; ending = Failed place 0; used = 1 })
  pub short : flat_run (counts_up ∷ []) counts_up 0 0 [] ≡ None
