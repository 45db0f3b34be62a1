-- A literal worked in whole: the solver fits the problem with it, or as before.
use Rattle.std.proofs.Common.{◌≡◌, ℕ, ◌+◌, ◌<◌, ◌≤◌, ◌⊎◌, inl, inr, Bool, true, false, List, [], ◌∷◌, ◌++◌, take, length, refl, ap, sym, ◌∙◌, subst, arith}
use Rattle.std.specs.Prelude.{Option, Some, None, is_some, Contains, slice_get, All}
use Rattle.std.proofs.lemmas.Bool.{cases_lt}
use Rattle.std.proofs.lemmas.List.{length_push, length-take, take_all, take-take}
use Rattle.std.proofs.lemmas.Option.{slice_get_within}
use Rattle.dg_base.proofs.Lists.{one_answer, get_there, get_push_cases, contains_nothing, contains_place, get_nothing, place_of}
use Rattle.from_read.proofs.Kept.{take_get}
use Rattle.from_read.proofs.Deriving.{all_at}
use Rattle.cnf_problem.proofs.LemmaLaws.{cyclic_more}
use Rattle.dg_base.specs.declared.Lit.{Lit}
use Rattle.cnf_problem.specs.declared.problem.Graph.{Graph}
use Rattle.cnf_problem.specs.declared.problem.Graph.TheVariants.{Local, Global}
use Rattle.cnf_problem.specs.declared.problem.Atom.{Atom}
use Rattle.cnf_problem.specs.declared.problem.Problem.{Problem}
use Rattle.cnf_problem.specs.Chains.{AllFalse, IsUnassigned}
use Rattle.cnf_problem.specs.Edges.{EdgeIn, HasCycle}
use Rattle.cnf_problem.specs.Literals.{negated, IsOver}
use Rattle.cycle_detect.specs.Orders.{Held}
use Rattle.cycle_detect.specs.Parts.{EdgesView}
use Rattle.from_read.specs.Derivations.{IsDerived}
use Rattle.trail_state.specs.Trails.{HasValue}
use Rattle.order_solver.specs.declared.caused.Cause.{Cause}
use Rattle.order_solver.specs.declared.solver.Place.{Place}
use Rattle.order_solver.specs.Ordering.{GraphView, SolverView, Mark, IsTrueAtom, AreHeld, IsCounted, IsMarked, IsBelow, IsRoomy, IsOrdering, IsAcyclic, IsCycleClause, HasEdgeWith, ClosesNone, own_count, mark_now}
use Rattle.order_solver.specs.Parts.{graph_in, IsExplained}
use Rattle.order_solver.specs.Working.{IsPlaceOf, IsGrown, AreGrown, IsWorking, AreTrue, NoneTrue}
use Rattle.order_solver.proofs.Cycles.{no_cycle, explained_clause, explained_false}
use Rattle.order_solver.proofs.Deriving.{derived_as, derived_fewest}
use Rattle.order_solver.proofs.Grown.{first_part, contains_part}
use Rattle.order_solver.proofs.Holding.{cause_more, holding_held, held_holding}
use Rattle.order_solver.proofs.Undoing.{apart_cut, held_as}

-- ---- the first literals

-- the literals that are worked in, and the next one
abbrev pub lits_with : SolverView → List Lit
lits_with s = take (length s.marks + 1) s.asserted

-- an item of a first part is one of a longer one
part_more : {X : Type 0} (n m : ℕ) (xs : List X) (x : X) → n ≤ m → Contains (take n xs) x → Contains (take m xs) x
part_more {X} n m xs x h i =
    let k = place_of (take n xs) x i in
    let back : slice_get (take n (take m xs)) k.0 ≡ Some x = ap (λ (l : List X). slice_get l k.0) (take-take n m xs h) ∙ k.1 in
    contains_place (take m xs) k.0 x (take_get n (take m xs) k.0 x back).1

part_of : {X : Type 0} (n : ℕ) (xs : List X) (x : X) → Contains (take n xs) x → Contains xs x
part_of n xs x i =
    let k = place_of (take n xs) x i in
    contains_place xs k.0 x (take_get n xs k.0 x k.1).1

part_get : {X : Type 0} (n : ℕ) (xs : List X) (k : ℕ) (x : X) → k < n → slice_get xs k ≡ Some x → slice_get (take n xs) k ≡ Some x
part_get n xs k x low at =
    let within = slice_get_within xs k x at in
    let y = get_there (take n xs) k (omega (arith, length-take n xs)) in
    let same = one_answer (slice_get xs k) y.0 x (take_get n xs k y.0 y.1).1 at in
    y.1 ∙ ap Some same

-- one more
part_next : {X : Type 0} (n : ℕ) (xs : List X) (x y : X) → slice_get xs n ≡ Some y → Contains (take (n + 1) xs) x → Contains (take n xs) x ⊎ (x ≡ y)
part_next n xs x y at m =
    let k = place_of (take (n + 1) xs) x m in
    let there = take_get (n + 1) xs k.0 x k.1 in
    elim (cases_lt k.0 n) [
      | inl low ↦ inl (contains_place (take n xs) k.0 x (part_get n xs k.0 x low there.1))
      | inr high ↦
          let here : k.0 ≡ n = omega (arith, there.0) in
          inr (one_answer (slice_get xs n) x y (subst (λ (i : ℕ). slice_get xs i ≡ Some x) here there.1) at)
    ]

-- ---- before a literal is worked in

-- the marks tell of the present
present_held : (p : Problem) (s : SolverView) (place : Place) (g : Graph) → IsOrdering p s → s.stuck ≡ false → IsPlaceOf s place → AreHeld p (take (length s.marks) s.asserted) g (graph_in s g).edges (graph_in s g).causes
present_held p s place Local is going at =
    held_as p Local (take (length s.marks) s.asserted) (take (length s.marks) s.asserted) (take (length s.local.edges) s.local.edges) s.local.edges (take (length s.local.edges) s.local.causes) s.local.causes refl (take_all (length s.local.edges) s.local.edges (omega arith)) (take_all (length s.local.edges) s.local.causes (omega (arith, at.long Local))) (is.present going).local
present_held p s place Global is going at =
    held_as p Global (take (length s.marks) s.asserted) (take (length s.marks) s.asserted) (take (length s.global.edges) s.global.edges) s.global.edges (take (length s.global.edges) s.global.causes) s.global.causes refl (take_all (length s.global.edges) s.global.edges (omega arith)) (take_all (length s.global.edges) s.global.causes (omega (arith, at.long Global))) (is.present going).global

all_atoms : (s : SolverView) → take (length s.froms.true_atoms) s.froms.true_atoms ≡ s.froms.true_atoms
all_atoms s = take_all (length s.froms.true_atoms) s.froms.true_atoms (omega arith)

present_only : (p : Problem) (s : SolverView) → IsOrdering p s → s.stuck ≡ false → (a : ℕ) → Contains s.froms.true_atoms a → (x : Atom) × IsTrueAtom p (take (length s.marks) s.asserted) a x
present_only p s is going a m = (is.present going).only a (subst (λ (l : List ℕ). Contains l a) (sym (all_atoms s)) m)

present_few : (p : Problem) (s : SolverView) (place : Place) (g : Graph) → IsOrdering p s → s.stuck ≡ false → IsPlaceOf s place → length (graph_in s g).edges ≤ length p.fixed + own_count p s.froms.true_atoms + length s.froms.derived
present_few p s place Local is going at = subst (λ (l : List ℕ). IsCounted p s.froms l (length s.local.edges)) (all_atoms s) (is.present going).local_few s.froms.derived at.derived
present_few p s place Global is going at = subst (λ (l : List ℕ). IsCounted p s.froms l (length s.global.edges)) (all_atoms s) (is.present going).global_few s.froms.derived at.derived

present_roomy : (p : Problem) (s : SolverView) (g : Graph) → IsOrdering p s → IsRoomy p s.froms (graph_in s g)
present_roomy p s Local is = is.local
present_roomy p s Global is = is.global

-- so what is held is there where the next literal is true too
pub working_start : (p : Problem) (s : SolverView) (place : Place) → IsOrdering p s → s.stuck ≡ false → IsPlaceOf s place → IsWorking p (lits_with s) s
working_start p s place is going at =
    let n = length s.marks in
    let lits = take n s.asserted in
    let more : (l : Lit) → Contains lits l → Contains (lits_with s) l = λ l m. part_more n (n + 1) s.asserted l (omega arith) m in
    let only = present_only p s is going in
    record {
      nodes = is.nodes;
      kinds = is.kinds;
      derived = at.derived;
      only = λ a m. (let x = only a m in (x.0, (x.1.0, more x.0.lit x.1.1)));
      holding = λ g.
          let was = held_holding p lits s.froms g (graph_in s g).edges (graph_in s g).causes (present_held p s place g is going at) is.nodes is.kinds at.derived only in
          record {
            caused = λ i u v c e f. cause_more p lits (lits_with s) (record { graph = g; from = u; to = v }) c more (was.caused i u v c e f);
            fixed = was.fixed;
            own = was.own;
            derived = was.derived;
          };
      few = λ g. present_few p s place g is going at;
      roomy = λ g. present_roomy p s g is;
    }

-- the next literal is one of these, and over the problem's variables
pub next_in : (s : SolverView) (lit : Lit) → slice_get s.asserted (length s.marks) ≡ Some lit → Contains (lits_with s) lit
next_in s lit at = contains_place (lits_with s) (length s.marks) lit (part_get (length s.marks + 1) s.asserted (length s.marks) lit (omega arith) at)

pub next_over : (p : Problem) (s : SolverView) (lit : Lit) → IsOrdering p s → slice_get s.asserted (length s.marks) ≡ Some lit → IsOver p.vars lit
next_over p s lit is at = all_at (IsOver p.vars) s.asserted lit is.over (contains_place s.asserted (length s.marks) lit at)

-- none of its atoms is true yet
pub next_none : (p : Problem) (s : SolverView) (lit : Lit) → IsOrdering p s → s.stuck ≡ false → slice_get s.asserted (length s.marks) ≡ Some lit → NoneTrue p lit s
next_none p s lit is going at a x here same m =
    let n = length s.marks in
    let y = present_only p s is going a m in
    let is_x : y.0 ≡ x = one_answer (slice_get p.atoms a) y.0 x y.1.0 here in
    let in_lits : Contains (take n s.asserted) lit = subst (λ (l : Lit). Contains (take n s.asserted) l) (ap (λ (z : Atom). z.lit) is_x ∙ same) y.1.1 in
    let k = place_of (take n s.asserted) lit in_lits in
    let old = take_get n s.asserted k.0 lit k.1 in
    let equal = is.once k.0 n lit lit old.1 at refl in
    absurd (omega (arith, old.0, equal))

-- ---- behind a literal that was worked in

abbrev pub with_mark : SolverView → Mark → SolverView
with_mark s m = record { local = s.local; global = s.global; froms = s.froms; atoms = s.atoms; asserted = s.asserted; marks = s.marks ++ m ∷ []; stuck = s.stuck }

part_take : {X : Type 0} (n : ℕ) (xs ys : List X) → take (length xs) ys ≡ xs → n ≤ length xs → take n ys ≡ take n xs
part_take {X} n xs ys e h = sym (take-take n (length xs) ys h) ∙ ap (λ (l : List X). take n l) e

cause_take : (n : ℕ) (before after : GraphView) → IsGrown before after → n ≤ length before.edges → take n after.causes ≡ take n before.causes
cause_take n before after is h =
    sym (take-take n (length before.edges) after.causes h) ∙ ap (λ (l : List Cause). take n l) is.causes ∙ take-take n (length before.edges) before.causes h

-- what an earlier mark says stays
marked_grown : (p : Problem) (s held : SolverView) (m : Mark) (n : ℕ) (l : Mark) → AreGrown s held → IsMarked p s n l → IsMarked p (with_mark held m) n l
marked_grown p s held m n l more is =
    let low = first_part s.local.edges held.local.edges (more.graphs Local).edges in
    let high = first_part s.global.edges held.global.edges (more.graphs Global).edges in
    let atoms = part_take l.atoms s.froms.true_atoms held.froms.true_atoms more.true_atoms is.atoms_in in
    let lits : take n held.asserted ≡ take n s.asserted = ap (λ (z : List Lit). take n z) more.asserted in
    let counted : (count : ℕ) → IsCounted p s.froms (take l.atoms s.froms.true_atoms) count → IsCounted p held.froms (take l.atoms held.froms.true_atoms) count = λ count few derived d.
    (let here = few derived (derived_as s.froms.nodes held.froms.nodes s.froms.kinds held.froms.kinds (take l.atoms s.froms.true_atoms) derived more.nodes more.kinds (subst (λ (z : List ℕ). IsDerived (record held.froms { true_atoms = z; derived = derived })) atoms d)) in
    subst (λ (z : List ℕ). count ≤ length p.fixed + own_count p z + length derived) (sym atoms) here) in
    record {
      local_in = omega (arith, low, is.local_in);
      global_in = omega (arith, high, is.global_in);
      atoms_in = omega (arith, first_part s.froms.true_atoms held.froms.true_atoms more.true_atoms, is.atoms_in);
      local = held_as p Local (take n s.asserted) (take n held.asserted) (take l.local s.local.edges) (take l.local held.local.edges) (take l.local s.local.causes) (take l.local held.local.causes) (sym lits) (sym (part_take l.local s.local.edges held.local.edges (more.graphs Local).edges is.local_in)) (sym (cause_take l.local s.local held.local (more.graphs Local) is.local_in)) is.local;
      global = held_as p Global (take n s.asserted) (take n held.asserted) (take l.global s.global.edges) (take l.global held.global.edges) (take l.global s.global.causes) (take l.global held.global.causes) (sym lits) (sym (part_take l.global s.global.edges held.global.edges (more.graphs Global).edges is.global_in)) (sym (cause_take l.global s.global held.global (more.graphs Global) is.global_in)) is.global;
      local_few = counted l.local is.local_few;
      global_few = counted l.global is.global_few;
      only = λ a h. (let x = is.only a (subst (λ (z : List ℕ). Contains z a) atoms h) in (x.0, (x.1.0, subst (λ (z : List Lit). Contains z x.0.lit) (sym lits) x.1.1)));
      all = λ a x h. subst (λ (z : List ℕ). Contains z a) (sym atoms) (is.all a x (h.0, subst (λ (z : List Lit). Contains z x.lit) lits h.1));
    }

-- all that a graph holds is what its first so many edges are
held_whole : (p : Problem) (lits : List Lit) (g : Graph) (edges : List (ℕ × ℕ)) (causes : List Cause) → AreHeld p lits g edges causes → AreHeld p lits g (take (length edges) edges) (take (length edges) causes)
held_whole p lits g edges causes is =
    let all = take_all (length edges) edges (omega arith) in
    record {
      caused = λ i x y c e f. is.caused i x y c (take_get (length edges) edges i (x, y) e).1 (take_get (length edges) causes i c f).1;
      complete = λ x y h. subst (λ (l : List (ℕ × ℕ)). Held l x y) (sym all) (is.complete x y h);
    }

-- the true atoms are those of the literals
all_true : (p : Problem) (s held : SolverView) (lit : Lit) → IsOrdering p s → s.stuck ≡ false → slice_get s.asserted (length s.marks) ≡ Some lit → AreGrown s held → AreTrue p lit held → (a : ℕ) (x : Atom) → IsTrueAtom p (lits_with s) a x → Contains held.froms.true_atoms a
all_true p s held lit is going at more trues a x h =
    elim (part_next (length s.marks) s.asserted x.lit lit at h.1) [
      | inl old ↦ contains_part s.froms.true_atoms held.froms.true_atoms a more.true_atoms (subst (λ (l : List ℕ). Contains l a) (all_atoms s) ((is.present going).all a x (h.0, old)))
      | inr new ↦ trues a x h.0 new
    ]

-- what is held now
marked_now : (p : Problem) (s held : SolverView) (lit : Lit) (m : Mark) → IsOrdering p s → s.stuck ≡ false → slice_get s.asserted (length s.marks) ≡ Some lit → AreGrown s held → AreTrue p lit held → IsWorking p (lits_with s) held → IsMarked p (with_mark held m) (length s.marks + 1) (mark_now (with_mark held m))
marked_now p s held lit m is going at more trues works =
    let n = length s.marks + 1 in
    let lits : take n held.asserted ≡ lits_with s = ap (λ (z : List Lit). take n z) more.asserted in
    let all = all_true p s held lit is going at more trues in
    let now : (g : Graph) → AreHeld p (take n held.asserted) g (take (length (graph_in held g).edges) (graph_in held g).edges) (take (length (graph_in held g).edges) (graph_in held g).causes) = λ g.
    subst (λ (z : List Lit). AreHeld p z g (take (length (graph_in held g).edges) (graph_in held g).edges) (take (length (graph_in held g).edges) (graph_in held g).causes)) (sym lits)
    (held_whole p (lits_with s) g (graph_in held g).edges (graph_in held g).causes (holding_held p (lits_with s) held.froms g (graph_in held g).edges (graph_in held g).causes (works.holding g) works.nodes works.kinds works.derived all)) in
    let counted : (g : Graph) → IsCounted p held.froms (take (length held.froms.true_atoms) held.froms.true_atoms) (length (graph_in held g).edges) = λ g derived d.
    (let same = ap (λ (z : List ℕ). own_count p z) (all_atoms held) in
    let few = derived_fewest held.froms derived works.derived (subst (λ (z : List ℕ). IsDerived (record held.froms { true_atoms = z; derived = derived })) (all_atoms held) d) in
    omega (arith, works.few g, few, same)) in
    record {
      local_in = omega arith;
      global_in = omega arith;
      atoms_in = omega arith;
      local = now Local;
      global = now Global;
      local_few = counted Local;
      global_few = counted Global;
      only = λ a h. (let x = works.only a (subst (λ (z : List ℕ). Contains z a) (all_atoms held) h) in (x.0, (x.1.0, subst (λ (z : List Lit). Contains z x.0.lit) (sym lits) x.1.1)));
      all = λ a x h. subst (λ (z : List ℕ). Contains z a) (sym (all_atoms held)) (all a x (h.0, subst (λ (z : List Lit). Contains z x.lit) lits h.1));
    }

-- so the solver fits the problem, with a mark more
pub ordering_marked : (p : Problem) (s held : SolverView) (lit : Lit) (m : Mark) → IsOrdering p s → s.stuck ≡ false → slice_get s.asserted (length s.marks) ≡ Some lit → m ≡ mark_now s → AreGrown s held → AreTrue p lit held → IsWorking p (lits_with s) held → IsOrdering p (with_mark held m)
ordering_marked p s held lit m is going at here more trues works =
    let within = slice_get_within s.asserted (length s.marks) lit at in
    let count : length (held.marks ++ m ∷ []) ≡ length s.marks + 1 = (let old = ap (λ (z : List Mark). length z) more.marks in omega (arith, old, length_push held.marks m)) in
    record {
      over = subst (λ (z : List Lit). All (IsOver p.vars) z) (sym more.asserted) is.over;
      once = λ i j a b e f. is.once i j a b (ap (λ (z : List Lit). slice_get z i) (sym more.asserted) ∙ e) (ap (λ (z : List Lit). slice_get z j) (sym more.asserted) ∙ f);
      worked = (let long = ap (λ (z : List Lit). length z) more.asserted in omega (arith, long, count, within));
      nodes = works.nodes;
      kinds = works.kinds;
      codes = ap (λ (z : EdgesView). z.nodes) more.atoms ∙ is.codes;
      atoms = ap (λ (z : EdgesView). z.list) more.atoms ∙ is.atoms;
      local = works.roomy Local;
      global = works.roomy Global;
      stuck = λ e. (let bad : false ≡ true = sym going ∙ sym more.stuck ∙ e in absurd (let never : ⊥ = cc in never));
      marks = λ free k l e. elim (get_push_cases held.marks m k l e) [
        | inl old ↦ marked_grown p s held m k l more (is.marks going k l (ap (λ (z : List Mark). slice_get z k) (sym more.marks) ∙ old))
        | inr new ↦
            let place : k ≡ length s.marks = new.0 ∙ ap (λ (z : List Mark). length z) more.marks in
            let now : IsMarked p s k l = subst (λ (i : ℕ). IsMarked p s i l) (sym place) (subst (λ (z : Mark). IsMarked p s (length s.marks) z) (sym (new.1 ∙ here)) (is.present going)) in
            marked_grown p s held m k l more now
      ];
      present = λ free. subst (λ (i : ℕ). IsMarked p (with_mark held m) i (mark_now (with_mark held m))) (sym count) (marked_now p s held lit m is going at more trues works);
      rising = λ i j a b h e f. elim (get_push_cases held.marks m j b f) [
        | inl old ↦ elim (get_push_cases held.marks m i a e) [
          | inl also ↦ is.rising i j a b h (ap (λ (z : List Mark). slice_get z i) (sym more.marks) ∙ also) (ap (λ (z : List Mark). slice_get z j) (sym more.marks) ∙ old)
          | inr bad ↦ absurd (omega (arith, slice_get_within held.marks j b old, bad.0, h))
        ]
        | inr new ↦ elim (get_push_cases held.marks m i a e) [
          | inl old ↦
              let was = is.marks going i a (ap (λ (z : List Mark). slice_get z i) (sym more.marks) ∙ old) in
              subst (λ (z : Mark). IsBelow a z) (sym (new.1 ∙ here)) (was.local_in, was.global_in, was.atoms_in)
          | inr bad ↦ absurd (omega (arith, bad.0, new.0, h))
        ]
      ];
    }

-- ---- the clause

pub lits_apart : (p : Problem) (s : SolverView) (clause : List Lit) → IsOrdering p s → IsExplained p (lits_with s) clause → IsCycleClause p clause × AllFalse s.asserted clause
lits_apart p s clause is explained = (
  explained_clause p (lits_with s) clause (apart_cut s.asserted (length s.marks + 1) is.once) explained,
  λ m h. part_of (length s.marks + 1) s.asserted (negated m) (explained_false p (lits_with s) clause explained m h),
)

-- where the fixed edges have a cycle, the clause has no literal
pub stuck_clause : (p : Problem) (s : SolverView) → IsOrdering p s → s.stuck ≡ true → IsCycleClause p [] × AllFalse s.asserted []
stuck_clause p s is stuck = (
  record {
    over = λ k d h. absurd (omega arith);
    cyclic = cyclic_more p (Contains []) (λ l. Contains [] (negated l)) (λ l m. absurd (contains_nothing l m)) (is.stuck stuck).1;
    no_repeats = λ i j a b e. absurd (get_nothing i a e);
  },
  λ m h. absurd (contains_nothing m h),
)

-- ---- where all are worked in

-- the edges of the true literals have no cycle
pub all_acyclic : (p : Problem) (s : SolverView) (place : Place) → IsOrdering p s → s.stuck ≡ false → IsPlaceOf s place → length s.marks ≡ length s.asserted → IsAcyclic p s.asserted
all_acyclic p s place is going at worked cyclic =
    let g = cyclic.0 in
    let held = subst (λ (l : List Lit). AreHeld p l g (graph_in s g).edges (graph_in s g).causes) (take_all (length s.marks) s.asserted (omega (arith, worked))) (present_held p s place g is going at) in
    no_cycle (EdgeIn p (Contains s.asserted) g) (graph_in s g).edges held.complete (at.acyclic g) cyclic.1

-- where none of the atoms that were looked at closes one
pub closes_none : (p : Problem) (lits : List Lit) (n : ℕ) → length p.atoms ≤ n → ((k : ℕ) (x : Atom) (g : Graph) → k < n → slice_get p.atoms k ≡ Some x → IsUnassigned lits x.lit → ¬ HasCycle (λ u v. HasEdgeWith p lits x (record { graph = g; from = u; to = v }))) → ClosesNone p lits
closes_none p lits n all none x g m free =
    let k = place_of p.atoms x m in
    none k.0 x g (let h = slice_get_within p.atoms k.0 x k.1 in omega arith) k.1 free

-- ---- a look at each atom

-- the literal is unassigned exactly where it has no value
pub value_free : (lits : List Lit) (l : Lit) (o : Option Bool) → is_some o ≡ false → HasValue lits l o → IsUnassigned lits l
value_free lits l None e h = h
value_free lits l (Some b) e h = absurd (let never : ⊥ = cc in never)

pub value_taken : (lits : List Lit) (l : Lit) (o : Option Bool) → is_some o ≡ true → HasValue lits l o → ¬ IsUnassigned lits l
value_taken lits l None e h free = (let never : ⊥ = cc in never)
value_taken lits l (Some true) e h free = free.0 h.0
value_taken lits l (Some false) e h free = free.1 h.0

-- all is worked in, and none of the first so many atoms closes a cycle
pub record IsLooking (p : Problem) (lits : List Lit) (n : ℕ) (s : SolverView) : Type 0 where
  pub fits : IsOrdering p s
  pub asserted : s.asserted ≡ lits
  pub going : s.stuck ≡ false
  pub worked : length s.marks ≡ length s.asserted
  pub none : (k : ℕ) (x : Atom) (g : Graph) → k < n → slice_get p.atoms k ≡ Some x → IsUnassigned lits x.lit → ¬ HasCycle (λ u v. HasEdgeWith p lits x (record { graph = g; from = u; to = v }))

-- nor the next one
pub looking_next : (p : Problem) (lits : List Lit) (n : ℕ) (s new : SolverView) → IsLooking p lits n s → IsOrdering p new → new.asserted ≡ s.asserted → new.marks ≡ s.marks → new.stuck ≡ s.stuck → ((x : Atom) (g : Graph) → slice_get p.atoms n ≡ Some x → IsUnassigned lits x.lit → ¬ HasCycle (λ u v. HasEdgeWith p lits x (record { graph = g; from = u; to = v }))) → IsLooking p lits (n + 1) new
looking_next p lits n s new is fits asserted marks stuck here = record {
  fits = fits;
  asserted = asserted ∙ is.asserted;
  going = stuck ∙ is.going;
  worked = ap (λ (l : List Mark). length l) marks ∙ is.worked ∙ sym (ap (λ (l : List Lit). length l) asserted);
  none = λ k x g low at free. elim (cases_lt k n) [
    | inl old ↦ is.none k x g old at free
    | inr now ↦
        let same : k ≡ n = omega arith in
        here x g (subst (λ (i : ℕ). slice_get p.atoms i ≡ Some x) same at) free
  ];
}
