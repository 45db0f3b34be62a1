-- The way along visits, from one to where the search began.
use Rattle.std.proofs.Common.{◌≡◌, ℕ, zero, suc, ◌+◌, ◌-◌, ◌<◌, ◌≤◌, inl, inr, Bool, List, [], ◌∷◌, ◌++◌, length, refl, ap, sym, ◌∙◌, subst, arith}
use Rattle.std.specs.Prelude.{Some, slice_get}
use Rattle.std.proofs.lemmas.List.{length_push}
use Rattle.std.proofs.lemmas.Option.{none-some, same_Some, slice_get_within}
use Rattle.dg_base.proofs.Lists.{get_append_left, get_push_cases, get_push_last, one_answer}
use Rattle.cycle_detect.specs.declared.search.Visit.{Visit}
use Rattle.cycle_detect.specs.Orders.{Held, IsClosed}
use Rattle.cycle_detect.specs.Parts.{AreVisits, IsVisitOf, IsTrace}

-- the way begins
pub trace_start : (visits : List Visit) (start : ℕ) (v : Visit) → slice_get visits start ≡ Some v → IsTrace visits start start (v.node ∷ [])
trace_start visits start v e = record {
  some = omega arith;
  first = λ u g. ap (λ (z : Visit). Some z.node) (one_answer (slice_get visits start) v u e g);
  last = λ u g. ap (λ (z : Visit). Some z.node) (one_answer (slice_get visits start) v u e g);
  leads = λ i x y a b. absurd (none_behind i y b);
  from = λ i x a. first_of i x a;
  once = λ i j x a b. let p = zero_of i x a in let q = zero_of j x b in omega arith;
  short = omega arith;
}
  where
    none_behind : (i y : ℕ) → slice_get (v.node ∷ []) (i + 1) ≡ Some y → ⊥
    none_behind i y b = let e : i + 1 ≡ suc i = omega arith in none-some y (subst (λ (k : ℕ). slice_get (v.node ∷ []) k ≡ Some y) e b)

    first_of : (i x : ℕ) → slice_get (v.node ∷ []) i ≡ Some x → (k : ℕ) × ((u : Visit) × (start ≤ k) × (slice_get visits k ≡ Some u) × (u.node ≡ x))
    first_of zero x a = (start, (v, omega arith, e, same_Some v.node x a))
    first_of (suc i) x a = absurd (none-some x a)

    zero_of : (i x : ℕ) → slice_get (v.node ∷ []) i ≡ Some x → i ≡ 0
    zero_of zero x a = refl
    zero_of (suc i) x a = absurd (none-some x a)

-- one visit further
pub trace_more : (visits : List Visit) (start at : ℕ) (nodes : List ℕ) (v w : Visit) → IsTrace visits start at nodes → 0 < at → slice_get visits at ≡ Some v → v.next < at → slice_get visits v.next ≡ Some w → ((i j : ℕ) (a b : Visit) → slice_get visits i ≡ Some a → slice_get visits j ≡ Some b → a.node ≡ b.node → i ≡ j) → IsTrace visits start v.next (nodes ++ w.node ∷ [])
trace_more visits start at nodes v w is pos here back there apart =
    let long = length_push nodes w.node in
    let fresh : (i x : ℕ) → slice_get nodes i ≡ Some x → x ≡ w.node → ⊥ = λ i x e s. let f = is.from i x e in let same : f.0 ≡ v.next = apart f.0 v.next f.1.0 w f.1.2 there (f.1.3 ∙ s) in omega (arith, f.1.1) in
    record {
      some = omega arith;
      first = λ u e. get_append_left nodes (w.node ∷ []) 0 u.node (is.first u e);
      last = λ u e.
          let same : w ≡ u = one_answer (slice_get visits v.next) w u there e in
          let place : length (nodes ++ w.node ∷ []) - 1 ≡ length nodes = omega arith in
          subst (λ (k : ℕ). slice_get (nodes ++ w.node ∷ []) k ≡ Some u.node) (sym place) (get_push_last nodes w.node ∙ ap (λ (z : Visit). Some z.node) same);
      leads = λ i x y a b. elim (get_push_cases nodes w.node (i + 1) y b) [
        | inl g ↦ elim (get_push_cases nodes w.node i x a) [
          | inl f ↦ is.leads i x y f g
          | inr r ↦ absurd (omega (arith, r.0, slice_get_within nodes (i + 1) y g))
        ]
        | inr r ↦ elim (get_push_cases nodes w.node i x a) [
          | inl f ↦
              let place : length nodes - 1 ≡ i = omega (arith, r.0) in
              let last = subst (λ (k : ℕ). slice_get nodes k ≡ Some v.node) place (is.last v here) in
              (at, (v, w, pos, here, there, one_answer (slice_get nodes i) v.node x last f, sym r.1))
          | inr q ↦ absurd (omega (arith, r.0, q.0))
        ]
      ];
      from = λ i x a. elim (get_push_cases nodes w.node i x a) [
        | inl f ↦ let g = is.from i x f in (g.0, (g.1.0, omega (arith, g.1.1), g.1.2, g.1.3))
        | inr r ↦ (v.next, (w, omega arith, there, sym r.1))
      ];
      once = λ i j x a b. elim (get_push_cases nodes w.node i x a) [
        | inl f ↦ elim (get_push_cases nodes w.node j x b) [
          | inl g ↦ is.once i j x f g
          | inr q ↦ absurd (fresh i x f q.1)
        ]
        | inr r ↦ elim (get_push_cases nodes w.node j x b) [
          | inl g ↦ absurd (fresh j x g r.1)
          | inr q ↦ omega (arith, r.0, q.0)
        ]
      ];
      short = omega (arith, is.short);
    }

-- the way from the visit of `to` is a cycle that an edge would close
pub trace_closed : (edges : List (ℕ × ℕ)) (places : List ℕ) (low from to at : ℕ) (visits : List Visit) (seen : List Bool) (nodes : List ℕ) → AreVisits edges places low from visits seen → IsVisitOf visits at to → IsTrace visits at 0 nodes → IsClosed edges from to nodes
trace_closed edges places low from to at visits seen nodes are there is =
    let root = first_there visits are.some in
    record {
      some = is.some;
      first = is.first there.0 there.1 ∙ ap (λ (k : ℕ). Some k) there.2;
      last = is.last root.0 root.1 ∙ ap (λ (k : ℕ). Some k) (are.root root.0 root.1);
      leads = λ i x y a b.
          let l = is.leads i x y a b in
          let v = l.1.0 in let w = l.1.1 in
          let t = are.tree l.0 v l.1.2 l.1.3 in
          let same : t.0 ≡ w = one_answer (slice_get visits v.next) t.0 w t.2 l.1.4 in
          let e : t.0.node ≡ y = ap (λ (z : Visit). z.node) same ∙ l.1.6 in
          subst (λ (k : ℕ). Held edges x k) e (subst (λ (k : ℕ). Held edges k t.0.node) l.1.5 t.3);
      once = is.once;
    }
  where
    first_there : (vs : List Visit) → 0 < length vs → (v : Visit) × (slice_get vs 0 ≡ Some v)
    first_there [] h = absurd (omega arith)
    first_there (v ∷ vs) h = (v, refl)
