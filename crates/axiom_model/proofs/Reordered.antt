-- What the model says of an execution does not depend on the order of its pairs of reads and sources.
use Rattle.std.proofs.Common.{◌≡◌, ℕ, List, Some, map, refl, sym, ap, ◌∙◌, subst}
use Rattle.std.specs.Prelude.{slice_get, All, IsPermutation}
use Rattle.std.proofs.lemmas.List.Sorted.{All-permutation}
use Rattle.axiom_model.specs.declared.MemoryModel.{MemoryModel}
use Rattle.axiom_model.specs.declared.MemoryModel.TheVariants.{Sc, Tso, Pso}
use Rattle.axiom_model.specs.declared.Action.TheVariants.{Read}
use Rattle.axiom_model.specs.declared.Event.{Event}
use Rattle.axiom_model.specs.declared.RfPair.{RfPair}
use Rattle.axiom_model.specs.declared.Candidate.{Candidate}
use Rattle.axiom_model.specs.Execution.{Execution, action_at, Rf, Fr}
use Rattle.axiom_model.specs.WellMade.{Shape, ReadsOnce, IsWriteOrder, WellMade}
use Rattle.axiom_model.specs.Models.{Kept, in_thread, in_section, creates, joins, initial, GlobalRf, LocalEdge, GlobalEdge, Leaves, Consistent}
use Rattle.axiom_model.specs.Models as models
use Rattle.axiom_model.specs.Failing.{Runs, execution_of, AllowedExecution, FailingExecution}
use Rattle.axiom_model.specs.Reordered.{Reordered, ReorderedCandidate}
use Rattle.axiom_model.proofs.Orders.{cycle_map}
use Rattle.axiom_model.proofs.Permuted.{Moved, moved_from}

module _ (x : Execution) (pairs : List RfPair) (p : IsPermutation x.rf pairs) where
  abbrev y : Execution
  y = record { threads = x.threads; rf = pairs; co = x.co }

  abbrev moved : Moved x.rf pairs
  moved = moved_from x.rf pairs p

  reads_once : (s : Shape) (r : Event) (c v : ℕ) → ReadsOnce s x r c v → ReadsOnce s y r c v
  reads_once s r c v o = record {
    place = moved.to o.place;
    source = o.source;
    pair = moved.there o.place (record { reader = r; source = o.source }) o.pair;
    only = λ k q e same. sym (moved.again k) ∙ ap moved.to (o.only (moved.from k) q (moved.back k q e) same);
    writes = o.writes;
  }

  write_order : (c : ℕ) (l : List Event) → IsWriteOrder x c l → IsWriteOrder y c l
  write_order c l o = record { writes = o.writes; initial_first = o.initial_first; once = o.once; sound = o.sound; complete = o.complete }

  well_made : (s : Shape) → WellMade s x → WellMade s y
  well_made s w = record {
    has_main = w.has_main;
    rising = w.rising;
    known = w.known;
    none_bad = w.none_bad;
    created = w.created;
    creates = w.creates;
    reads = λ e c v a. reads_once s e c v (w.reads e c v a);
    readers = All-permutation (λ q. (c : ℕ) × (v : ℕ) × (action_at x q.reader ≡ Some (Read c v))) x.rf pairs p w.readers;
    lists = w.lists;
    orders = λ c l e. write_order c l (w.orders c l e);
    joins = w.joins;
  }

  -- each edge is one of the execution with the pairs in their first order
  rf_back : (a b : Event) → Rf y a b → Rf x a b
  rf_back a b r = (moved.from r.0, moved.back r.0 (record { reader = b; source = a }) r.1)

  fr_back : (a b : Event) → Fr y a b → Fr x a b
  fr_back a b f = record { cell = f.cell; value = f.value; source = f.source; reads = f.reads; from = rf_back f.source a f.from; later = f.later }

  kept_back : (m : MemoryModel) (a b : Event) → Kept m y a b → Kept m x a b
  kept_back m a b (in_thread o) = in_thread (record { before = o.before; first = o.first; second = o.second; is_first = o.is_first; is_second = o.is_second; holds = o.holds })
  kept_back m a b (in_section o s) = in_section (record { before = o.before; first = o.first; second = o.second; is_first = o.is_first; is_second = o.is_second; holds = o.holds }) s
  kept_back m a b (creates q r o) = creates q r o
  kept_back m a b (joins q o r) = joins q o r
  kept_back m a b (initial e) = initial e

  local_back : (a b : Event) → LocalEdge y a b → LocalEdge x a b
  local_back a b (models.LocalEdge.po o) = models.LocalEdge.po (record { before = o.before; first = o.first; second = o.second; is_first = o.is_first; is_second = o.is_second; holds = o.holds })
  local_back a b (models.LocalEdge.rf r) = models.LocalEdge.rf (rf_back a b r)
  local_back a b (models.LocalEdge.co c o) = models.LocalEdge.co c o
  local_back a b (models.LocalEdge.fr f) = models.LocalEdge.fr (fr_back a b f)

  source_back : (m : MemoryModel) (a b : Event) → GlobalRf m y a b → GlobalRf m x a b
  source_back Sc a b r = rf_back a b r
  source_back Tso a b r = (rf_back a b r.0, r.1)
  source_back Pso a b r = (rf_back a b r.0, r.1)

  global_back : (m : MemoryModel) (a b : Event) → GlobalEdge m y a b → GlobalEdge m x a b
  global_back m a b (models.GlobalEdge.kept k) = models.GlobalEdge.kept (kept_back m a b k)
  global_back m a b (models.GlobalEdge.rf r) = models.GlobalEdge.rf (source_back m a b r)
  global_back m a b (models.GlobalEdge.co c o) = models.GlobalEdge.co c o
  global_back m a b (models.GlobalEdge.fr f) = models.GlobalEdge.fr (fr_back a b f)

  consistent : (m : MemoryModel) → Consistent m x → Consistent m y
  consistent m c = record {
    local = λ l k. c.local (map (λ e. e) l) (cycle_map (LocalEdge y) (LocalEdge x) (λ e. e) local_back l k);
    global = λ l k. c.global (map (λ e. e) l) (cycle_map (GlobalEdge m y) (GlobalEdge m x) (λ e. e) (global_back m) l k);
    blocks = λ l k. c.blocks (map (λ q. q) l) (cycle_map (Leaves m y) (Leaves m x) (λ q. q) (λ q r e. (global_back m q.0 q.1 e.0, e.1, e.2)) l k);
  }

-- ---- executions and candidates

-- the second execution is the first with its own pairs
is_second : (x y : Execution) → Reordered x y → record { threads = x.threads; rf = y.rf; co = x.co } ≡ y
is_second x y r = ap (λ ts. record { threads = ts; rf = y.rf; co = x.co }) (sym r.threads) ∙ ap (λ co. record { threads = y.threads; rf = y.rf; co = co }) (sym r.orders)

pub well_made-reordered : (s : Shape) (x y : Execution) → Reordered x y → WellMade s x → WellMade s y
well_made-reordered s x y r w = subst (WellMade s) (is_second x y r) (well_made x y.rf r.pairs s w)

pub consistent-reordered : (m : MemoryModel) (x y : Execution) → Reordered x y → Consistent m x → Consistent m y
consistent-reordered m x y r c = subst (Consistent m) (is_second x y r) (consistent x y.rf r.pairs m c)

module _ (s : Shape) (runs : Runs) (m : MemoryModel) (c : Candidate) (pairs : List RfPair) (p : IsPermutation c.rf pairs) where
  abbrev d : Candidate
  d = record { threads = c.threads; rf = pairs; co = c.co }

  allowed : AllowedExecution s runs m c → AllowedExecution s runs m d
  allowed a = record {
    threads = a.threads;
    words = a.words;
    whole = a.whole;
    well_made = well_made (execution_of c a.threads) pairs p s a.well_made;
    consistent = consistent (execution_of c a.threads) pairs p m a.consistent;
  }

  failing : FailingExecution s runs m c → FailingExecution s runs m d
  unfolding allowed
  failing f = record { allowed = allowed f.allowed; fails = f.fails }

is_second_candidate : (c d : Candidate) → ReorderedCandidate c d → record { threads = c.threads; rf = d.rf; co = c.co } ≡ d
is_second_candidate c d r = ap (λ ts. record { threads = ts; rf = d.rf; co = c.co }) (sym r.threads) ∙ ap (λ co. record { threads = d.threads; rf = d.rf; co = co }) (sym r.orders)

pub allowed-reordered : (s : Shape) (runs : Runs) (m : MemoryModel) (c d : Candidate) → ReorderedCandidate c d → AllowedExecution s runs m c → AllowedExecution s runs m d
allowed-reordered s runs m c d r a = subst (AllowedExecution s runs m) (is_second_candidate c d r) (allowed s runs m c d.rf r.pairs a)

pub failing-reordered : (s : Shape) (runs : Runs) (m : MemoryModel) (c d : Candidate) → ReorderedCandidate c d → FailingExecution s runs m c → FailingExecution s runs m d
failing-reordered s runs m c d r f = subst (FailingExecution s runs m) (is_second_candidate c d r) (failing s runs m c d.rf r.pairs f)
