-- The line of each cell's writes.
use Rattle.std.proofs.Common.{◌≡◌, ℕ, zero, suc, ◌<◌, inl, inr, Bool, List, length, ap, ◌∙◌, subst, arith}
use Rattle.std.specs.Prelude.{Some, slice_get}
use Rattle.std.proofs.lemmas.Option.{slice_get_within}
use Rattle.dg_base.specs.declared.Lit.{Lit}
use Rattle.dg_base.proofs.Lists.{place_of, get_there, one_answer}
use Rattle.axiom_model.specs.declared.MemoryModel.{MemoryModel}
use Rattle.cnf_problem.specs.Problems.{IsConsistent}
use Rattle.cnf_problem.specs.declared.problem.Atom.{Atom}
use Rattle.cnf_problem.specs.declared.problem.Problem.{Problem}
use Rattle.memory_models.specs.declared.StaticEvent.{StaticEvent}
use Rattle.order_vars.specs.Links.{is_write}
use Rattle.encode_order.specs.Coherence.{IsBefore, IsOrderOfNodes, IsInitialOf, HasOneInitial, InitialsHappen, OrdersEvents}
use Rattle.encode_order.proofs.Lines.{AreSorted, line_below, sorted_at, sorted_from, same_lists, which_first}
use Rattle.encode_order.proofs.Before.{wanted_at, wanted_writes, writes_wanted, writes_linear, one_way, none_before_initial}

-- a sorted list stands in the order of a relation that goes one way
sorted_once : (R : ℕ → ℕ → Type 0) (nodes : List ℕ) → ((x y : ℕ) → R x y → R y x → ⊥) → AreSorted R nodes → (i j n : ℕ) → slice_get nodes i ≡ Some n → slice_get nodes j ≡ Some n → i ≡ j
sorted_once R nodes one sorted i j n at there =
    elim (which_first i j) [
      | inl below ↦ let around = sorted_at R nodes sorted i j n n below at there in absurd (one n n around around)
      | inr rest ↦ elim rest [
        | inl same ↦ same
        | inr above ↦ let around = sorted_at R nodes sorted j i n n above there at in absurd (one n n around around)
      ]
    ]

sorted_back : (R : ℕ → ℕ → Type 0) (nodes : List ℕ) → ((x y : ℕ) → R x y → R y x → ⊥) → AreSorted R nodes → (i j w v : ℕ) → slice_get nodes i ≡ Some w → slice_get nodes j ≡ Some v → R w v → i < j
sorted_back R nodes one sorted i j w v at there before =
    elim (which_first i j) [
      | inl below ↦ below
      | inr rest ↦ elim rest [
        | inl same ↦
            let nodes_same : w ≡ v = one_answer _ w v at (ap (λ (k : ℕ). slice_get nodes k) same ∙ there) in
            let around : R v v = subst (λ (z : ℕ). R z v) nodes_same before in
            absurd (one v v around around)
        | inr above ↦ absurd (one w v before (sorted_at R nodes sorted j i v w above there at))
      ]
    ]

pub ordered_writes : (m : MemoryModel) (es : List StaticEvent) (words : List (List Lit)) (p : Problem) (s : List Bool) → OrdersEvents m es words p → IsConsistent p s → HasOneInitial es → (c : ℕ)
    → (nodes : List ℕ) × IsOrderOfNodes es p.atoms s c nodes
ordered_writes m es words p s has consistent one c =
    let line = line_below (IsBefore p.atoms s) (wanted_at es s c) (length es) (writes_linear m es words p s has consistent one c) in
    let one_ways = one_way m es words p s has consistent in (
      line.nodes,
      record {
        once = sorted_once (IsBefore p.atoms s) line.nodes one_ways line.sorted;
        sound = λ n h. wanted_writes es s c n (line.sound n h).1;
        complete = λ n w. line.complete n (slice_get_within es n w.event w.there) (writes_wanted es s c n w);
        ordered = λ i j w v at there. (
          (λ below. sorted_at (IsBefore p.atoms s) line.nodes line.sorted i j w v below at there),
          sorted_back (IsBefore p.atoms s) line.nodes one_ways line.sorted i j w v at there,
        );
      },
    )

pub one_order : (es : List StaticEvent) (atoms : List Atom) (s : List Bool) (c : ℕ) (nodes others : List ℕ) → IsOrderOfNodes es atoms s c nodes → IsOrderOfNodes es atoms s c others → nodes ≡ others
one_order es atoms s c nodes others a b =
    same_lists (IsBefore atoms s) nodes others
    (λ x y x_in y_in there back.
    let i = place_of nodes x x_in in
    let j = place_of nodes y y_in in
    let up : i.0 < j.0 = (a.ordered i.0 j.0 x y i.1 j.1).1 there in
    let down : j.0 < i.0 = (a.ordered j.0 i.0 y x j.1 i.1).1 back in
    omega arith)
    (sorted_from (IsBefore atoms s) nodes (λ i j x y below at there. (a.ordered i j x y at there).0 below))
    (sorted_from (IsBefore atoms s) others (λ i j x y below at there. (b.ordered i j x y at there).0 below))
    (λ x h. b.complete x (a.sound x h))
    (λ x h. a.complete x (b.sound x h))

pub first_initial : (m : MemoryModel) (es : List StaticEvent) (words : List (List Lit)) (p : Problem) (s : List Bool) → OrdersEvents m es words p → InitialsHappen es s → (c n : ℕ) (nodes : List ℕ)
    → IsInitialOf es c n → IsOrderOfNodes es p.atoms s c nodes → slice_get nodes 0 ≡ Some n
first_initial m es words p s has happen c n nodes initial order = by_place place.0 place.1
  where
    place : (k : ℕ) × (slice_get nodes k ≡ Some n)
    place = place_of nodes n (order.complete n (record {
      event = initial.event;
      there = initial.there;
      happens = happen n initial.event initial.there initial.same_kind;
      writes = ap is_write initial.same_kind;
      same_cell = initial.same_cell;
    }))

    by_place : (k : ℕ) → slice_get nodes k ≡ Some n → slice_get nodes 0 ≡ Some n
    by_place zero at = at
    by_place (suc k) at =
        let long : suc k < length nodes = slice_get_within nodes (suc k) n at in
        let head = get_there nodes 0 (omega arith) in
        absurd (none_before_initial m es words p s has c head.0 n initial ((order.ordered 0 (suc k) head.0 n head.1 at).0 (omega arith)))
