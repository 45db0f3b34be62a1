-- What holds of every run of a thread.
use Rattle.std.specs.Prelude.{◌≡◌, ◌≢◌, ℕ, ◌+◌, ◌*◌, ◌≤◌, List, [], ◌∷◌, ◌++◌, Option, Some, None, length, slice_get}
use Rattle.axiom_model.specs.declared.Action.{Action}
use Rattle.axiom_model.specs.declared.Action.TheVariants.{Create}
use Rattle.axiom_model.specs.declared.Event.{Event}
use Rattle.axiom_model.specs.Execution.{Execution, action_at}
use Rattle.axiom_model.specs.Failing.{Run}

-- The run uses the first numbers of its script, and depends on no others: on these with any others behind them, or with none,
-- the run is the same. It needs them all: on fewer there is no run.
pub record UsesOnly (runs : List ℕ → Option Run) (script : List ℕ) (r : Run) : Type 0 where
  pub taken : List ℕ
  pub rest : List ℕ
  pub first : script ≡ taken ++ rest
  pub count : r.used ≡ length taken
  pub same : (others : List ℕ) → runs (taken ++ others) ≡ Some r
  pub needed : (some others : List ℕ) → taken ≡ some ++ others → others ≢ [] → runs some ≡ None

-- the creates of a thread are numbered in their order, from the number behind n on; a handle is 64 times the thread's own and the number
abbrev pub IsNumbered : ℕ → ℕ → List Action → Type 0
IsNumbered own n [] = Unit {0}
IsNumbered own n (Create h f a ∷ acts) = (h ≡ 64 * own + n + 1) × IsNumbered own (n + 1) acts
IsNumbered own n (a ∷ acts) = IsNumbered own n acts

-- how many threads the actions create
abbrev pub creates_in : List Action → ℕ
creates_in [] = 0
creates_in (Create h f a ∷ acts) = 1 + creates_in acts
creates_in (a ∷ acts) = creates_in acts

-- each run creates at most 63 threads
abbrev pub CreatesFew : List Run → Type 0
CreatesFew rs = (k : ℕ) (r : Run) → slice_get rs k ≡ Some r → creates_in r.actions ≤ 63

-- no two actions create threads of one handle
abbrev pub CreatesOnce : Execution → Type 0
CreatesOnce x = (a b : Event) (h f g v w : ℕ) → action_at x a ≡ Some (Create h f v) → action_at x b ≡ Some (Create h g w) → a ≡ b
