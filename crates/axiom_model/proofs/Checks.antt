-- A test that every edge of a written-out execution goes forward in a rank, and what it shows.
use Rattle.std.proofs.Common.{◌≡◌, ℕ, zero, suc, ◌<◌, ◌≤◌, List, [], ◌∷◌, Bool, true, not, ◌&&◌, ◌||◌, Option, Some, None, refl, sym, ap, subst, arith}
use Rattle.std.specs.Prelude.{slice_get, get_or, length, nat_eq, nat_lt, nat_le}
use Rattle.std.proofs.lemmas.Option.{slice_get-get_or}
use Rattle.std.specs.List.{list_all}
use Rattle.std.proofs.Common.{⊎_elim}
use Rattle.std.proofs.lemmas.Bool.{and_parts, and_from, eqb-true, ltb-true, leb-true, cases_Bool, or_cases}
use Rattle.axiom_model.specs.declared.MemoryModel.{MemoryModel}
use Rattle.axiom_model.specs.declared.MemoryModel.TheVariants.{Sc, Tso, Pso}
use Rattle.axiom_model.specs.declared.Action.{Action}
use Rattle.axiom_model.specs.declared.Action.TheVariants.{Read, Open, Create, Join, Start, End}
use Rattle.axiom_model.specs.declared.Event.{Event}
use Rattle.axiom_model.specs.declared.Event.TheVariants.{Initial, At}
use Rattle.axiom_model.specs.declared.RfPair.{RfPair}
use Rattle.axiom_model.specs.Execution.{Execution, actions_of, action_at, SameThread, Before, Rf, Precedes, Fr, OneSection, SameBlock}
use Rattle.axiom_model.specs.Models.{keeps, Kept, in_thread, in_section, creates, joins, initial, GlobalRf, LocalEdge, GlobalEdge, Leaves, Consistent, kept}
use Rattle.axiom_model.specs.Models as models
use Rattle.axiom_model.specs.Orders.{Forward}
use Rattle.axiom_model.proofs.Acceptance.{accepted-consistent}
use Rattle.dg_base.proofs.Lists.{list_all_at}
pub use Rattle.axiom_model.proofs.Each.{each_from, each, each_event}
pub use Rattle.axiom_model.proofs.PairTests.{implies, implies_at, is_of, is_of_at, same_thread, same_thread_from, before, before_at, same_option, same_cell, same_cell_at, starts, ends}
pub use Rattle.axiom_model.proofs.Sections.{opens, same_section, same_section-same_block, one_section-same_section}

-- ---- the tests of the edges: each is fine, by a test of its two ends

-- a test of an edge's two ends
abbrev pub Fine : Type 0
Fine = Event → Event → Bool

-- the edge goes forward in the rank
abbrev pub rises : (Event → ℕ) → Fine
rises rank a b = nat_lt (rank a) (rank b)

-- the kept pairs between actions
abbrev pub kept_test : MemoryModel → Fine → Event → Action → Event → Action → Bool
kept_test m fine a p b q =
    implies (before a b && keeps m p q) (fine a b) && implies (starts p q b) (fine a b) && implies (ends p q a) (fine a b)

-- program order inside a section
abbrev pub section_test : Execution → Fine → Event → Action → Event → Action → Bool
section_test x fine a p b q = implies (before a b && same_section x a b) (fine a b)

-- program order on one cell
abbrev pub local_test : Fine → Event → Action → Event → Action → Bool
local_test fine a p b q = implies (before a b && same_cell p q) (fine a b)

-- the test holds of each two actions
abbrev pub pairs : Execution → (Event → Action → Event → Action → Bool) → Bool
pairs x g = each x.threads (λ a p. each x.threads (λ b q. g a p b q))

pairs_at : (x : Execution) (g : Event → Action → Event → Action → Bool) → pairs x g ≡ true → (a : Event) (p : Action) (b : Event) (q : Action) → action_at x a ≡ Some p → action_at x b ≡ Some q → g a p b q ≡ true
pairs_at x g t a p b q h k = each_event x (λ c r. g a p c r) (each_event x (λ c r. each x.threads (λ b q. g c r b q)) t a p h) b q k

abbrev pub seen_by_all : MemoryModel → Event → Event → Bool
seen_by_all Sc s r = true
seen_by_all _ s r = not (same_thread s r)

-- the sources that all threads see at once
abbrev pub rf_test : MemoryModel → Fine → RfPair → Bool
rf_test m fine p = implies (seen_by_all m p.source p.reader) (fine p.source p.reader)

-- each event of a list and each later one
abbrev pub in_order : Fine → List Event → Bool
in_order fine [] = true
in_order fine (e ∷ es) = list_all (λ w. fine e w) es && in_order fine es

in_order_at : (fine : Fine) (l : List Event) → in_order fine l ≡ true → (a b : Event) → Precedes l a b → fine a b ≡ true
in_order_at fine [] t a b p = let e : None ≡ Some a = p.3 in cc
in_order_at fine (e ∷ es) t a b (zero, zero, l, h, k) = absurd (omega arith)
in_order_at fine (e ∷ es) t a b (zero, suc j, l, h, k) =
    let same : e ≡ a = cc in
    let r = list_all_at (λ w. fine e w) es (and_parts _ _ t).0 j b k in
    subst (λ z. fine z b ≡ true) same r
in_order_at fine (e ∷ es) t a b (suc i, zero, l, h, k) = absurd (omega arith)
in_order_at fine (e ∷ es) t a b (suc i, suc j, l, h, k) =
    in_order_at fine es (and_parts _ _ t).1 a b (i, j, omega arith, h, k)

-- the writes that are later than the source, by a rank in which each list of writes rises
abbrev pub fr_list : (Event → ℕ) → Fine → RfPair → Option (List Event) → Bool
fr_list rank fine p None = true
fr_list rank fine p (Some l) = list_all (λ w. nat_le (rank w) (rank p.source) || fine p.reader w) l

abbrev pub fr_on : (Event → ℕ) → Fine → Execution → RfPair → Option Action → Bool
fr_on rank fine x p (Some (Read c v)) = fr_list rank fine p (slice_get x.co c)
fr_on rank fine x p _ = true

abbrev pub fr_test : (Event → ℕ) → Fine → Execution → RfPair → Bool
fr_test rank fine x p = fr_on rank fine x p (action_at x p.reader)

fr_at : (rank : Event → ℕ) (fine : Fine) (x : Execution) → list_all (fr_test rank fine x) x.rf ≡ true → list_all (in_order (rises rank)) x.co ≡ true → (r w : Event) → Fr x r w → fine r w ≡ true
fr_at rank fine x t c r w f =
    let l = f.later.0 in
    let pair : RfPair = record { reader = r; source = f.source } in
    let one : fr_test rank fine x pair ≡ true = list_all_at (fr_test rank fine x) x.rf t f.from.0 pair f.from.1 in
    let two : fr_on rank fine x pair (Some (Read f.cell f.value)) ≡ true = subst (λ o. fr_on rank fine x pair o ≡ true) f.reads one in
    let three : fr_list rank fine pair (Some l) ≡ true = subst (λ o. fr_list rank fine pair o ≡ true) f.later.1 two in
    let p = f.later.2 in
    let four = list_all_at (λ z. nat_le (rank z) (rank f.source) || fine r z) l three p.1 w p.4 in
    let five : rank f.source < rank w = ltb-true (rank f.source) (rank w) (in_order_at (rises rank) l (list_all_at (in_order (rises rank)) x.co c f.cell l f.later.1) f.source w p) in
    ⊎_elim (λ e. let g : rank w ≤ rank f.source = leb-true (rank w) (rank f.source) e in absurd (omega arith)) (λ e. e) (or_cases _ _ four)

-- every edge of the local condition goes forward
pub record LocalPasses (x : Execution) (rank : Event → ℕ) : Type 0 where
  pub po : pairs x (local_test (rises rank)) ≡ true
  pub rf : list_all (rf_test Sc (rises rank)) x.rf ≡ true
  pub co : list_all (in_order (rises rank)) x.co ≡ true
  pub fr : list_all (fr_test rank (rises rank) x) x.rf ≡ true

-- every edge of the global condition is fine, and each list of writes rises in the rank
pub record AllFine (m : MemoryModel) (x : Execution) (rank : Event → ℕ) (fine : Fine) : Type 0 where
  pub kept : pairs x (kept_test m fine) ≡ true
  pub sections : pairs x (section_test x fine) ≡ true
  pub initial : each x.threads (λ b q. fine Initial b) ≡ true
  pub rf : list_all (rf_test m fine) x.rf ≡ true
  pub ranked : list_all (in_order (rises rank)) x.co ≡ true
  pub co : list_all (in_order fine) x.co ≡ true
  pub fr : list_all (fr_test rank fine x) x.rf ≡ true

-- every edge of the global condition goes forward
abbrev pub GlobalPasses : MemoryModel → Execution → (Event → ℕ) → Type 0
GlobalPasses m x rank = AllFine m x rank (rises rank)

-- tests that pass show that every edge of the local condition goes forward
pub local_forward : (x : Execution) (rank : Event → ℕ) → LocalPasses x rank → Forward rank (LocalEdge x)
local_forward x rank t a b (models.LocalEdge.po o) =
    let r = pairs_at x (local_test (rises rank)) t.po a o.first b o.second o.is_first o.is_second in
    ltb-true (rank a) (rank b) (implies_at _ _ r (and_from _ _ (before_at a b o.before) (same_cell_at o.first o.second o.holds)))
local_forward x rank t a b (models.LocalEdge.rf f) =
    ltb-true (rank a) (rank b) (list_all_at (rf_test Sc (rises rank)) x.rf t.rf f.0 (record { reader = b; source = a }) f.1)
local_forward x rank t a b (models.LocalEdge.co c o) =
    ltb-true (rank a) (rank b) (in_order_at (rises rank) o.0 (list_all_at (in_order (rises rank)) x.co t.co c o.0 o.1) a b o.2)
local_forward x rank t a b (models.LocalEdge.fr f) =
    ltb-true (rank a) (rank b) (fr_at rank (rises rank) x t.fr t.co a b f)

not_same : (a b : Event) → ¬ SameThread a b → not (same_thread a b) ≡ true
not_same a b n = ⊎_elim (λ e. absurd (n (same_thread_from a b e))) (λ e. ap not e) (cases_Bool (same_thread a b))

global_rf_at : (m : MemoryModel) (x : Execution) (s r : Event) → GlobalRf m x s r → Rf x s r × (seen_by_all m s r ≡ true)
global_rf_at Sc x s r g = (g, refl)
global_rf_at Tso x s r g = (g.0, not_same s r g.1)
global_rf_at Pso x s r g = (g.0, not_same s r g.1)

section_before : (x : Execution) (a b : Event) → Before a b → SameBlock x a b → same_section x a b ≡ true
section_before x Initial b p s = absurd p
section_before x (At h i) Initial p s = absurd p
section_before x (At h i) (At k j) p s =
    ⊎_elim (λ e. absurd (omega (arith, p.1, e))) (one_section-same_section x h k i j p.0) s.1

-- tests that pass show that every edge of the global condition is fine
pub edge_fine : (m : MemoryModel) (x : Execution) (rank : Event → ℕ) (fine : Fine) → AllFine m x rank fine → (a b : Event) → GlobalEdge m x a b → fine a b ≡ true
edge_fine m x rank fine t a b (models.GlobalEdge.kept (in_thread o)) =
    let r = pairs_at x (kept_test m fine) t.kept a o.first b o.second o.is_first o.is_second in
    implies_at _ _ (and_parts _ _ (and_parts _ _ r).0).0 (and_from _ _ (before_at a b o.before) o.holds)
edge_fine m x rank fine t a b (models.GlobalEdge.kept (in_section o s)) =
    let r = pairs_at x (section_test x fine) t.sections a o.first b o.second o.is_first o.is_second in
    implies_at _ _ r (and_from _ _ (before_at a b o.before) (section_before x a b o.before s))
edge_fine m x rank fine t a b (models.GlobalEdge.kept (creates {h = h} {f = f} {v = v} p q o)) =
    let r = pairs_at x (kept_test m fine) t.kept a (Create h f v) b Start p q in
    implies_at _ _ (and_parts _ _ (and_parts _ _ r).0).1 (is_of_at h b o)
edge_fine m x rank fine t a b (models.GlobalEdge.kept (joins {h = h} p o q)) =
    let r = pairs_at x (kept_test m fine) t.kept a End b (Join h) p q in
    implies_at _ _ (and_parts _ _ r).1 (is_of_at h a o)
edge_fine m x rank fine t a b (models.GlobalEdge.kept (initial {q = q} e)) =
    each_event x (λ c r. fine Initial c) t.initial b q e
edge_fine m x rank fine t a b (models.GlobalEdge.rf g) =
    let f = global_rf_at m x a b g in
    let r = list_all_at (rf_test m fine) x.rf t.rf f.0.0 (record { reader = b; source = a }) f.0.1 in
    implies_at _ _ r f.1
edge_fine m x rank fine t a b (models.GlobalEdge.co c o) =
    in_order_at fine o.0 (list_all_at (in_order fine) x.co t.co c o.0 o.1) a b o.2
edge_fine m x rank fine t a b (models.GlobalEdge.fr f) = fr_at rank fine x t.fr t.ranked a b f

-- tests by a rank that pass show that every edge of the global condition goes forward
pub global_forward : (m : MemoryModel) (x : Execution) (rank : Event → ℕ) → GlobalPasses m x rank → Forward rank (GlobalEdge m x)
global_forward m x rank t a b e = ltb-true (rank a) (rank b) (edge_fine m x rank (rises rank) t a b e)

-- ---- executions without sections

-- no action opens a section
abbrev pub no_sections : Execution → Bool
no_sections x = each x.threads (λ e a. not (opens a))

alone : (x : Execution) → no_sections x ≡ true → (a b : Event) → SameBlock x a b → (rank : Event → ℕ) → rank a ≡ rank b
alone x t Initial Initial s rank = refl
alone x t Initial (At k j) s rank = absurd s
alone x t (At h i) Initial s rank = absurd s
alone x t (At h i) (At k j) s rank =
    ⊎_elim (λ e. let g : At h i ≡ At k j = cc (s.0, e) in ap rank g) none s.1
  where
    none : OneSection (actions_of x.threads k) i j → rank (At h i) ≡ rank (At k j)
    none o =
        let f : not (opens Open) ≡ true = each_event x (λ e a. not (opens a)) t (At k o.0) Open o.1.opens in
        cc

-- a witness order for each of the two conditions shows that an execution without sections is consistent
pub consistent_from : (m : MemoryModel) (x : Execution) (local global : Event → ℕ) → LocalPasses x local → GlobalPasses m x global → no_sections x ≡ true → Consistent m x
consistent_from m x local global l g n =
    accepted-consistent m x local global global (record {
      local_forward = local_forward x local l;
      global_forward = global_forward m x global g;
      one_in_each_block = λ a b s. alone x n a b s global;
      block_forward = λ a b e. global_forward m x global g a b e.0;
    })

-- ---- executions with sections: a rank on blocks beside the rank on events

-- an edge stays in a block, or goes forward in the rank on blocks
abbrev pub stays_or_rises : (Event → Event → Bool) → (Event → ℕ) → Fine
stays_or_rises same rank a b = same a b || rises rank a b

-- witness orders for the two conditions on events and for the one on blocks, where `same` tells that two events are in one block
pub consistent_with_blocks : (m : MemoryModel) (x : Execution) (local global block : Event → ℕ) (same : Event → Event → Bool) → ((a b : Event) → same a b ≡ true → SameBlock x a b) → ((a b : Event) → SameBlock x a b → block a ≡ block b) → LocalPasses x local → GlobalPasses m x global → AllFine m x global (stays_or_rises same block) → Consistent m x
consistent_with_blocks m x local global block same sound one l g t =
    accepted-consistent m x local global block (record {
      local_forward = local_forward x local l;
      global_forward = global_forward m x global g;
      one_in_each_block = one;
      block_forward = rises_out;
    })
  where
    rises_out : (a b : Event) → GlobalEdge m x a b × (¬ SameBlock x a b) → block a < block b
    rises_out a b e =
        ⊎_elim (λ s. absurd (e.1 (sound a b s))) (λ r. ltb-true (block a) (block b) r) (or_cases (same a b) (rises block a b) (edge_fine m x global (stays_or_rises same block) t a b e.0))

-- the rank on blocks is one for the actions of a section
abbrev pub one_test : Execution → (Event → ℕ) → Event → Action → Event → Action → Bool
one_test x block a p b q = implies (same_section x a b) (nat_eq (block a) (block b))

one_from : (x : Execution) (block : Event → ℕ) → pairs x (one_test x block) ≡ true → (a b : Event) → SameBlock x a b → block a ≡ block b
one_from x block t Initial Initial s = refl
one_from x block t Initial (At k j) s = absurd s
one_from x block t (At h i) Initial s = absurd s
one_from x block t (At h i) (At k j) s =
    ⊎_elim (λ e. let g : At h i ≡ At k j = cc (s.0, e) in ap block g) joint s.1
  where
    action : (n : ℕ) → n < length (actions_of x.threads k) → slice_get (actions_of x.threads k) n ≡ Some (get_or (actions_of x.threads k) n Open)
    action n l = slice_get-get_or (actions_of x.threads k) n Open l

    joint : OneSection (actions_of x.threads k) i j → block (At h i) ≡ block (At k j)
    joint o =
        let first = subst (λ n. action_at x (At n i) ≡ Some (get_or (actions_of x.threads k) i Open)) (sym s.0) (action i o.1.there) in
        let r = pairs_at x (one_test x block) t (At h i) (get_or (actions_of x.threads k) i Open) (At k j) (get_or (actions_of x.threads k) j Open) first (action j o.2.there) in
        eqb-true (block (At h i)) (block (At k j)) (implies_at _ _ r (one_section-same_section x h k i j s.0 o))

-- witness orders for the two conditions on events and for the one on blocks show that an execution is consistent
pub consistent_by_sections : (m : MemoryModel) (x : Execution) (local global block : Event → ℕ) → LocalPasses x local → GlobalPasses m x global → pairs x (one_test x block) ≡ true → AllFine m x global (stays_or_rises (same_section x) block) → Consistent m x
consistent_by_sections m x local global block l g one t =
    consistent_with_blocks m x local global block (same_section x) (same_section-same_block x) (one_from x block one) l g t
