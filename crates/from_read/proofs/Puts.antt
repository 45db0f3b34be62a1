-- Edges that are put one after another: what is there afterwards, and from where.
use Rattle.std.proofs.Common.{◌≡◌, ◌≢◌, ℕ, zero, suc, ◌<◌, ◌⊎◌, inl, inr, Bool, false, List, [], ◌∷◌, ◌++◌, refl, ap, sym, ◌∙◌, subst, arith, append_assoc}
use Rattle.std.specs.Prelude.{Some, Contains, slice_get, filter}
use Rattle.std.proofs.Common.{append-nil}
use Rattle.std.proofs.lemmas.Bool.{cases_Bool}
use Rattle.std.proofs.lemmas.Option.{none-some, same_Some}
use Rattle.dg_base.proofs.Lists.{contains_nothing, contains_head, contains_tail, contains_cases, contains_place, get_push_cases}
use Rattle.cycle_detect.proofs.Counting.{contains_left, contains_right, contains_either}
use Rattle.cnf_problem.specs.declared.problem.Edge.{Edge}
use Rattle.from_read.specs.declared.edge_set.DerivedEdge.{DerivedEdge}
use Rattle.from_read.specs.Parts.{HasEdge, IsPut, ArePut, ArePutFor}

-- ---- one edge

abbrev pub Grown : List DerivedEdge → List DerivedEdge → Type 0
Grown before after = (more : List DerivedEdge) × (after ≡ before ++ more)

pub grown_never : (xs : List DerivedEdge) → Grown xs xs
grown_never xs = ([], sym (append-nil xs))

pub grown_twice : (xs ys zs : List DerivedEdge) → Grown xs ys → Grown ys zs → Grown xs zs
grown_twice xs ys zs a b = (a.0 ++ b.0, b.1 ∙ (ap (λ (l : List DerivedEdge). l ++ b.0) a.1 ∙ append_assoc xs a.0 b.0))

pub grown_keeps : (xs ys : List DerivedEdge) (c : DerivedEdge) → Grown xs ys → Contains xs c → Contains ys c
grown_keeps xs ys c a m = subst (λ (l : List DerivedEdge). Contains l c) (sym a.1) (contains_left xs a.0 c m)

pub grown_edge : (xs ys : List DerivedEdge) (e : Edge) → Grown xs ys → HasEdge xs e → HasEdge ys e
grown_edge xs ys e a h = (h.0, grown_keeps xs ys h.0 a h.1, h.2)

put_grown : (before after : List DerivedEdge) (d : DerivedEdge) → IsPut before d after → Grown before after
put_grown before after d (inl h) = ([], h.1 ∙ sym (append-nil before))
put_grown before after d (inr h) = (d ∷ [], h.1)

put_has : (before after : List DerivedEdge) (d : DerivedEdge) → IsPut before d after → HasEdge after d.edge
put_has before after d (inl h) = (h.0.0, subst (λ (l : List DerivedEdge). Contains l h.0.0) (sym h.1) h.0.1, h.0.2)
put_has before after d (inr h) = (d, subst (λ (l : List DerivedEdge). Contains l d) (sym h.1) (contains_right before (d ∷ []) d (contains_head d [])), refl)

put_from : (before after : List DerivedEdge) (d c : DerivedEdge) → IsPut before d after → Contains after c → Contains before c ⊎ ((c ≡ d) × (¬ HasEdge before d.edge))
put_from before after d c (inl h) m = inl (subst (λ (l : List DerivedEdge). Contains l c) h.1 m)
put_from before after d c (inr h) m =
    elim (contains_either before (d ∷ []) c (subst (λ (l : List DerivedEdge). Contains l c) h.1 m)) [
      | inl a ↦ inl a
      | inr b ↦ elim (contains_cases d c [] b) [ inl e ↦ inr (e, h.0) | inr n ↦ absurd (contains_nothing c n) ]
    ]

-- no edge stands twice
abbrev pub EachOnce : List DerivedEdge → Type 0
EachOnce list = (i j : ℕ) (c d : DerivedEdge) → slice_get list i ≡ Some c → slice_get list j ≡ Some d → c.edge ≡ d.edge → i ≡ j

pub put_once : (before after : List DerivedEdge) (d : DerivedEdge) → IsPut before d after → EachOnce before → EachOnce after
put_once before after d (inl h) once = subst (λ (l : List DerivedEdge). EachOnce l) (sym h.1) once
put_once before after d (inr h) once = subst (λ (l : List DerivedEdge). EachOnce l) (sym h.1) (λ i j b c e f s.
    elim (get_push_cases before d i b e) [
      | inl p ↦ elim (get_push_cases before d j c f) [
        | inl q ↦ once i j b c p q s
        | inr q ↦ absurd (h.0 (b, contains_place before i b p, s ∙ ap (λ (z : DerivedEdge). z.edge) q.1))
      ]
      | inr p ↦ elim (get_push_cases before d j c f) [
        | inl q ↦ absurd (h.0 (c, contains_place before j c q, sym s ∙ ap (λ (z : DerivedEdge). z.edge) p.1))
        | inr q ↦ p.0 ∙ sym q.0
      ]
    ])

-- ---- some edges

pub puts_grown : (ds before after : List DerivedEdge) → ArePut ds before after → Grown before after
puts_grown [] before after e = ([], e ∙ sym (append-nil before))
puts_grown (d ∷ ds) before after w = grown_twice before w.0 after (put_grown before w.0 d w.1) (puts_grown ds w.0 after w.2)

pub puts_has : (ds before after : List DerivedEdge) (d : DerivedEdge) → ArePut ds before after → Contains ds d → HasEdge after d.edge
puts_has [] before after d w m = absurd (contains_nothing d m)
puts_has (c ∷ ds) before after d w m =
    elim (contains_cases c d ds m) [
      | inl e ↦ grown_edge w.0 after d.edge (puts_grown ds w.0 after w.2) (subst (λ (z : DerivedEdge). HasEdge w.0 z.edge) (sym e) (put_has before w.0 c w.1))
      | inr h ↦ puts_has ds w.0 after d w.2 h
    ]

pub puts_from : (ds before after : List DerivedEdge) (c : DerivedEdge) → ArePut ds before after → Contains after c → Contains before c ⊎ (Contains ds c × (¬ HasEdge before c.edge))
puts_from [] before after c e m = inl (subst (λ (l : List DerivedEdge). Contains l c) e m)
puts_from (d ∷ ds) before after c w m =
    elim (puts_from ds w.0 after c w.2 m) [
      | inl a ↦ elim (put_from before w.0 d c w.1 a) [
        | inl b ↦ inl b
        | inr b ↦ inr (subst (λ (z : DerivedEdge). Contains (d ∷ ds) z) (sym b.0) (contains_head d ds), subst (λ (z : DerivedEdge). ¬ HasEdge before z.edge) (sym b.0) b.1)
      ]
      | inr a ↦ inr (contains_tail d c ds a.0, λ h. a.1 (grown_edge before w.0 c.edge (put_grown before w.0 d w.1) h))
    ]

pub puts_once : (ds before after : List DerivedEdge) → ArePut ds before after → EachOnce before → EachOnce after
puts_once [] before after e once = subst (λ (l : List DerivedEdge). EachOnce l) (sym e) once
puts_once (d ∷ ds) before after w once = puts_once ds w.0 after w.2 (put_once before w.0 d w.1 once)

-- ---- the edges with one atom after another

pub for_grown : (f : ℕ → List DerivedEdge) (bs : List ℕ) (before after : List DerivedEdge) → ArePutFor f bs before after → Grown before after
for_grown f [] before after e = ([], e ∙ sym (append-nil before))
for_grown f (b ∷ bs) before after w = grown_twice before w.0 after (puts_grown (f b) before w.0 w.1) (for_grown f bs w.0 after w.2)

pub for_once : (f : ℕ → List DerivedEdge) (bs : List ℕ) (before after : List DerivedEdge) → ArePutFor f bs before after → EachOnce before → EachOnce after
for_once f [] before after e once = subst (λ (l : List DerivedEdge). EachOnce l) (sym e) once
for_once f (b ∷ bs) before after w once = for_once f bs w.0 after w.2 (puts_once (f b) before w.0 w.1 once)

pub for_has : (f : ℕ → List DerivedEdge) (bs : List ℕ) (before after : List DerivedEdge) (j b : ℕ) (d : DerivedEdge) → ArePutFor f bs before after → slice_get bs j ≡ Some b → Contains (f b) d → HasEdge after d.edge
for_has f [] before after j b d e g m = absurd (none-some b g)
for_has f (a ∷ bs) before after zero b d w g m =
    let same : a ≡ b = same_Some a b g in
    grown_edge w.0 after d.edge (for_grown f bs w.0 after w.2) (puts_has (f a) before w.0 d w.1 (subst (λ (z : ℕ). Contains (f z) d) (sym same) m))
for_has f (a ∷ bs) before after (suc j) b d w g m = for_has f bs w.0 after j b d w.2 g m

-- the first atom of these with which the edge is derived, where it was not there before
pub record IsNew (f : ℕ → List DerivedEdge) (bs : List ℕ) (before : List DerivedEdge) (c : DerivedEdge) : Type 0 where
  pub place : ℕ
  pub other : ℕ
  pub stands : slice_get bs place ≡ Some other
  pub gives : Contains (f other) c
  pub fresh : ¬ HasEdge before c.edge
  pub first : (i b : ℕ) (d : DerivedEdge) → i < place → slice_get bs i ≡ Some b → Contains (f b) d → d.edge ≢ c.edge

-- nor with the atom before these
earlier : (f : ℕ → List DerivedEdge) (b : ℕ) (bs : List ℕ) (before mid : List DerivedEdge) (c : DerivedEdge) → ArePut (f b) before mid → (new : IsNew f bs mid c) → (i k : ℕ) (d : DerivedEdge) → i < suc new.place → slice_get (b ∷ bs) i ≡ Some k → Contains (f k) d → d.edge ≢ c.edge
earlier f b bs before mid c w new zero k d h g n =
    let same : b ≡ k = same_Some b k g in
    let there = puts_has (f b) before mid d w (subst (λ (z : ℕ). Contains (f z) d) (sym same) n) in
    λ e. new.fresh (subst (λ (z : Edge). HasEdge mid z) e there)
earlier f b bs before mid c w new (suc i) k d h g n = new.first i k d (omega arith) g n

pub for_from : (f : ℕ → List DerivedEdge) (bs : List ℕ) (before after : List DerivedEdge) (c : DerivedEdge) → ArePutFor f bs before after → Contains after c → Contains before c ⊎ IsNew f bs before c
for_from f [] before after c e m = inl (subst (λ (l : List DerivedEdge). Contains l c) e m)
for_from f (b ∷ bs) before after c w m =
    elim (for_from f bs w.0 after c w.2 m) [
      | inl a ↦ elim (puts_from (f b) before w.0 c w.1 a) [
        | inl old ↦ inl old
        | inr new ↦ inr (record { place = 0; other = b; stands = refl; gives = new.0; fresh = new.1; first = λ i k d h g n. absurd (omega arith) })
      ]
      | inr a ↦ inr (record {
        place = suc a.place;
        other = a.other;
        stands = a.stands;
        gives = a.gives;
        fresh = λ h. a.fresh (grown_edge before w.0 c.edge (puts_grown (f b) before w.0 w.1) h);
        first = earlier f b bs before w.0 c w.1 a;
      })
    ]

-- atoms with which nothing is derived may be left out
pub for_all : (f : ℕ → List DerivedEdge) (test : ℕ → Bool) (bs : List ℕ) (before after : List DerivedEdge) → ((b : ℕ) → test b ≡ false → f b ≡ []) → ArePutFor f (filter test bs) before after → ArePutFor f bs before after
for_all f test [] before after none w = w
for_all f test (b ∷ bs) before after none w =
    elim (cases_Bool (test b)) [
      | inl holds ↦
          let v = rw holds at w in
          (v.0, v.1, for_all f test bs v.0 after none v.2)
      | inr fails ↦
          let v = rw fails at w in
          (before, subst (λ (l : List DerivedEdge). ArePut l before before) (sym (none b fails)) refl, for_all f test bs before after none v)
    ]

-- one atom more
pub for_more : (f : ℕ → List DerivedEdge) (bs : List ℕ) (b : ℕ) (before mid after : List DerivedEdge) → ArePutFor f bs before mid → ArePut (f b) mid after → ArePutFor f (bs ++ b ∷ []) before after
for_more f [] b before mid after e w = (after, subst (λ (l : List DerivedEdge). ArePut (f b) l after) e w, refl)
for_more f (a ∷ bs) b before mid after v w = (v.0, v.1, for_more f bs b v.0 mid after v.2 w)
