-- Why a log is refused: the first entry that fails, with its evidence.
use Rattle.std.specs.Prelude.{◌≡◌, ◌<◌, ⊤, ℕ, List, ◌++◌, map, take, length, All, Some, slice_get}
use Rattle.dg_base.specs.declared.Lit.{Lit}
use Rattle.axiom_model.specs.Sorting.{GoesForward, IsOrderOf}
use Rattle.cnf_problem.specs.declared.problem.Graph.{Graph}
use Rattle.cnf_problem.specs.declared.problem.Graph.TheVariants.{Local, Global}
use Rattle.cnf_problem.specs.declared.problem.Problem.{Problem}
use Rattle.cnf_problem.specs.declared.problem.LemmaKind.TheVariants.{Unit as ByUnit, Cycle}
use Rattle.cnf_problem.specs.Literals.{IsOver, negated, var}
use Rattle.cnf_problem.specs.Edges.{EdgeIn}
use Rattle.lemma_log.specs.declared.Entry.{Entry}
use Rattle.lemma_log.specs.declared.hints.Hint.{Hint}
use Rattle.log_checker.specs.declared.refused.Refused.{Refused}
use Rattle.log_checker.specs.declared.refused.Refused.TheVariants.{BadNumber, NotImplied, BadHint, NoCycle, NoEmpty, OutOfMemory}
use Rattle.unit_refuter.specs.Refuting.{IsRest}
use Rattle.log_checker.specs.Goodness.{EndsEmpty, IsGood, clauses_of}
use Rattle.log_checker.specs.Graphs.{IsDenied}
use Rattle.log_checker.specs.Hints.{GoesWrong, IsGoodHinted, hints_at}

-- the first variable that the problem doesn't have
pub record IsBadNumber (vars : ℕ) (lits : List Lit) (v : ℕ) : Type 0 where
  pub place : ℕ
  pub literal : Lit
  pub there : slice_get lits place ≡ Some literal
  pub before : (k : ℕ) (l : Lit) → k < place → slice_get lits k ≡ Some l → IsOver vars l
  pub bad : ¬ IsOver vars literal
  pub named : v ≡ var literal

-- an order of all nodes in which each edge of the graph goes forward, where the atoms hold that the literals deny
pub record IsOrder (p : Problem) (lits : List Lit) (graph : Graph) (order : List ℕ) : Type 0 where
  pub all : IsOrderOf (length p.nodes) order
  pub forward : (x y : ℕ) → EdgeIn p (IsDenied lits) graph x y → GoesForward order (x, y)

-- the entry doesn't follow from the problem and these clauses
pub data EntryFails (p : Problem) (before : List (List Lit)) (e : Entry) : Refused → Type 0 where
  bad_number : (v : ℕ) → IsBadNumber p.vars e.lemma.lits v → EntryFails p before e (BadNumber e.ticket v)
  not_implied : (reached : List Lit) → All (IsOver p.vars) e.lemma.lits → e.lemma.kind ≡ ByUnit → IsRest (p.clauses ++ before) e.lemma.lits reached → EntryFails p before e (NotImplied e.ticket reached)
  no_cycle : (local global : List ℕ) → All (IsOver p.vars) e.lemma.lits → e.lemma.kind ≡ Cycle → IsOrder p e.lemma.lits Local local → IsOrder p e.lemma.lits Global global
      → EntryFails p before e (NoCycle e.ticket local global)

-- the first entry that fails, or, where none does, that the last one isn't empty
pub data Fails (p : Problem) (entries : List Entry) : Refused → Type 0 where
  entry_fails : (k : ℕ) (e : Entry) (r : Refused) → slice_get entries k ≡ Some e → IsGood p (take k entries) → EntryFails p (clauses_of (take k entries)) e r → Fails p entries r
  no_empty : IsGood p entries → ¬ EndsEmpty entries → Fails p entries (NoEmpty (length entries))

-- only want of memory is free
abbrev pub IsRefusal : Problem → List Entry → Refused → Type 0
IsRefusal p entries OutOfMemory = ⊤
IsRefusal p entries r = Fails p entries r

-- a refusal of one entry
abbrev pub IsEntryRefusal : Problem → List (List Lit) → Entry → Refused → Type 0
IsEntryRefusal p before e OutOfMemory = ⊤
IsEntryRefusal p before e r = EntryFails p before e r

-- the same of a hinted log: by unit propagation the first wrong hint is told
pub data HintedEntryFails (p : Problem) (before : List (List Lit)) (e : Entry) (hints : List Hint) : Refused → Type 0 where
  bad_number : (v : ℕ) → IsBadNumber p.vars e.lemma.lits v → HintedEntryFails p before e hints (BadNumber e.ticket v)
  bad_hint : (n : ℕ) → All (IsOver p.vars) e.lemma.lits → e.lemma.kind ≡ ByUnit → GoesWrong p before (map negated e.lemma.lits) hints n → HintedEntryFails p before e hints (BadHint e.ticket n)
  no_cycle : (local global : List ℕ) → All (IsOver p.vars) e.lemma.lits → e.lemma.kind ≡ Cycle → IsOrder p e.lemma.lits Local local → IsOrder p e.lemma.lits Global global
      → HintedEntryFails p before e hints (NoCycle e.ticket local global)

pub data HintedFails (p : Problem) (entries : List Entry) (hints : List (List Hint)) : Refused → Type 0 where
  entry_fails : (k : ℕ) (e : Entry) (r : Refused) → slice_get entries k ≡ Some e → IsGoodHinted p (take k entries) hints → HintedEntryFails p (clauses_of (take k entries)) e (hints_at hints k) r
      → HintedFails p entries hints r
  no_empty : IsGoodHinted p entries hints → ¬ EndsEmpty entries → HintedFails p entries hints (NoEmpty (length entries))

abbrev pub IsHintedRefusal : Problem → List Entry → List (List Hint) → Refused → Type 0
IsHintedRefusal p entries hints OutOfMemory = ⊤
IsHintedRefusal p entries hints r = HintedFails p entries hints r
