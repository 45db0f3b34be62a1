-- Which literals can be watched.
use Rattle.std.proofs.Common.{◌≡◌, ◌≢◌, ℕ, zero, suc, ◌<◌, ◌≤◌, ◌⊎◌, inl, inr, List, [], ◌∷◌, take, refl, ap, sym, ◌∙◌, subst, arith}
use Rattle.std.specs.Prelude.{Contains, slice_get, Some, None, if◌then◌else◌, ◌==◌}
use Rattle.std.proofs.lemmas.Bool.{cases_eq, cases_lt}
use Rattle.std.proofs.lemmas.Bool.Decides.{nat_tests}
use Rattle.dg_base.proofs.Lists.{contains_head, contains_tail, contains_nothing, contains_cases}
use Rattle.dg_base.specs.declared.Lit.{Lit}
use Rattle.cnf_problem.specs.Literals.{var, negated}
use Rattle.cnf_problem.specs.Chains.{IsFalse}
use Rattle.cnf_problem.proofs.Members.{contains_take}
use Rattle.cnf_problem.proofs.LiteralLaws.{var-negated}
use Rattle.trail_state.specs.Trails.{Assigned, Decided, Forced, TrailView, IsWell, true_lits, level, level_of, up_to}
use Rattle.clause_store.specs.Choosing.{HasRank, IsBest, IsChosen}
use Rattle.clause_store.specs.Stores.{CanBeWatched, IsNotFalseBelow}
use Rattle.clause_store.proofs.TrailLaws.{place_of}
use Rattle.clause_store.proofs.Turns.{take_more}
use Rattle.clause_store.proofs.Watches.{cut_within}

test_same : (v w x : ℕ) → v ≡ w → (if v == w then 0 else x) ≡ 0
test_same v w x e = grind (arith, nat_tests)

test_other : (v w x : ℕ) → v ≢ w → (if v == w then 0 else x) ≡ x
test_other v w x e = grind (arith, nat_tests)

-- the test takes the lesser of the two
test_least : (v w x : ℕ) → (if v == w then 0 else x) ≤ x
test_least v w x = elim (cases_eq v w) [ inl e ↦ rw (test_same v w x e) (omega arith) | inr e ↦ rw (test_other v w x e) (omega arith) ]

-- what is on the levels up to n was assigned on one of them
pub level_within : (n : ℕ) (entries : List Assigned) (m : Lit) → Contains (true_lits (up_to n entries)) m → level_of (var m) entries ≤ n
level_within n [] m c = absurd (contains_nothing m c)
level_within n (Forced l id ∷ es) m c =
    elim (contains_cases l m (true_lits (up_to n es)) c) [
      | inl e ↦ rw (test_same (var l) (var m) (level_of (var m) es) (ap var (sym e))) (omega arith)
      | inr r ↦ let q = level_within n es m r in let t = test_least (var l) (var m) (level_of (var m) es) in omega arith
    ]
level_within zero (Decided l ∷ es) m c = absurd (contains_nothing m c)
level_within (suc n) (Decided l ∷ es) m c =
    elim (contains_cases l m (true_lits (up_to n es)) c) [
      | inl e ↦ let t = test_same (var l) (var m) (level_of (var m) es) (ap var (sym e)) in omega arith
      | inr r ↦ let q = level_within n es m r in let t = test_least (var l) (var m) (level_of (var m) es) in omega arith
    ]

-- a variable of the trail is on the levels up to the one on which it was assigned, which is one of the trail's
pub level_reached : (n : ℕ) (entries : List Assigned) (m : Lit) → n ≡ level_of (var m) entries → Contains (true_lits entries) m → ((k : Lit) × Contains (true_lits (up_to n entries)) k × (var k ≡ var m)) × (n ≤ level entries)
level_reached n [] m h c = absurd (contains_nothing m c)
level_reached n (Forced l id ∷ es) m h c =
    elim (cases_eq (var l) (var m)) [
      | inl e ↦
          let t = test_same (var l) (var m) (level_of (var m) es) e in
          ((l, contains_head l (true_lits (up_to n es)), e), omega arith)
      | inr other ↦
          let t = test_other (var l) (var m) (level_of (var m) es) other in
          elim (contains_cases l m (true_lits es) c) [
            | inl e ↦ absurd (other (ap var (sym e)))
            | inr r ↦
                let q = level_reached n es m (omega arith) r in
                ((q.0.0, contains_tail l q.0.0 (true_lits (up_to n es)) q.0.1, q.0.2), q.1)
          ]
    ]
level_reached zero (Decided l ∷ es) m h c = absurd (omega arith)
level_reached (suc n) (Decided l ∷ es) m h c =
    elim (cases_eq (var l) (var m)) [
      | inl e ↦
          let t = test_same (var l) (var m) (level_of (var m) es) e in
          ((l, contains_head l (true_lits (up_to n es)), e), omega arith)
      | inr other ↦
          let t = test_other (var l) (var m) (level_of (var m) es) other in
          elim (contains_cases l m (true_lits es) c) [
            | inl e ↦ absurd (other (ap var (sym e)))
            | inr r ↦
                let q = level_reached n es m (omega arith) r in
                ((q.0.0, contains_tail l q.0.0 (true_lits (up_to n es)) q.0.1, q.0.2), omega (arith, q.1))
          ]
    ]

-- a literal that isn't false
pub rank_good : (entries : List Assigned) (l : Lit) → ¬ IsFalse (true_lits entries) l → HasRank entries l 2
rank_good entries l h = record {
  top = omega arith;
  good = λ e. h;
  bad = λ e. absurd (e refl);
  late = λ e n lt c. h (cut_within n entries (negated l) c);
  early = λ e. absurd (let q : 2 ≡ 0 = e in omega arith);
}

-- a literal that became false on the last level
pub rank_late : (entries : List Assigned) (l : Lit) → IsFalse (true_lits entries) l → level_of (var l) entries ≡ level entries → HasRank entries l 1
rank_late entries l f e = record {
  top = omega arith;
  good = λ q. absurd (let r : 1 ≡ 2 = q in omega arith);
  bad = λ q. f;
  late = λ q n lt c. (let w = level_within n entries (negated l) c in let v : var (negated l) ≡ var l = var-negated l in let s = ap (λ x. level_of x entries) v in omega arith);
  early = λ q. absurd (let r : 1 ≡ 0 = q in omega arith);
}

-- a literal that became false on a lower level
pub rank_early : (t : TrailView) (l : Lit) → IsWell t → IsFalse (true_lits t.entries) l → level_of (var l) t.entries ≢ level t.entries → HasRank t.entries l 0
rank_early t l well f other = record {
  top = omega arith;
  good = λ q. absurd (let r : 0 ≡ 2 = q in omega arith);
  bad = λ q. f;
  late = λ q. absurd (q refl);
  early = λ q below. early below;
}
  where
    early : IsNotFalseBelow t.entries l → ⊥
    early below =
        let r = level_reached (level_of (var (negated l)) t.entries) t.entries (negated l) refl f in
        let v : var (negated l) ≡ var l = var-negated l in
        let s = ap (λ x. level_of x t.entries) v in
        let lt : level_of (var (negated l)) t.entries < level t.entries = (let q = r.1 in omega arith) in
        let i = place_of (true_lits t.entries) r.0.0 (cut_within (level_of (var (negated l)) t.entries) t.entries r.0.0 r.0.1) in
        let j = place_of (true_lits t.entries) (negated l) f in
        let same = well.once i.0 j.0 r.0.0 (negated l) i.2 j.2 r.0.2 in
        let is : r.0.0 ≡ negated l = (let e : Some r.0.0 ≡ Some (negated l) = sym i.2 ∙ (rw (sym same) at j.2) in cc) in
        below (level_of (var (negated l)) t.entries) lt (subst (λ z. Contains (true_lits (up_to (level_of (var (negated l)) t.entries) t.entries)) z) is r.0.1)

-- a literal is good exactly where its rank is 2
pub rank_two : (entries : List Assigned) (l : Lit) (r : ℕ) → HasRank entries l r → ¬ IsFalse (true_lits entries) l → r ≡ 2
rank_two entries l r h n = elim (cases_eq r 2) [ inl e ↦ e | inr other ↦ absurd (n (h.bad other)) ]

-- and some rank is not 0 where it is false on no lower level
pub rank_some : (entries : List Assigned) (l : Lit) (r : ℕ) → HasRank entries l r → IsNotFalseBelow entries l → r ≢ 0
rank_some entries l r h below e = h.early e below

-- no literal yet
pub best_none : (entries : List Assigned) (except : Lit) → IsBest entries [] except (record { 0 = 0 }) 0
best_none entries except = record {
  none = λ e m c. absurd (contains_nothing m c);
  listed = λ e. absurd (e refl);
  apart = λ e. absurd (e refl);
  ranked = λ e. absurd (e refl);
  greatest = λ e. absurd (e refl);
}

-- the first so many are among one more
pub take_less : (xs : List Lit) (n : ℕ) (x : Lit) → Contains (take n xs) x → Contains (take (suc n) xs) x
take_less [] n x c = absurd (contains_nothing x (contains_take n [] x c))
take_less (y ∷ ys) zero x c = absurd (contains_nothing x c)
take_less (y ∷ ys) (suc n) x c =
    elim (contains_cases y x (take n ys) c) [
      | inl e ↦ subst (λ z. Contains (y ∷ take (suc n) ys) z) (sym e) (contains_head y (take (suc n) ys))
      | inr r ↦ contains_tail y x (take (suc n) ys) (take_less ys n x r)
    ]

-- one more literal, which is the exception
pub best_same : (entries : List Assigned) (clause : List Lit) (n : ℕ) (except best : Lit) (rank : ℕ) → slice_get clause n ≡ Some except → IsBest entries (take n clause) except best rank → IsBest entries (take (suc n) clause) except best rank
best_same entries clause n except best rank at b = record {
  none = λ e m c. elim (take_more clause n except m at c) [ inl s ↦ s | inr old ↦ b.none e m old ];
  listed = λ e. take_less clause n best (b.listed e);
  apart = b.apart;
  ranked = b.ranked;
  greatest = λ e m c. elim (take_more clause n except m at c) [ inl s ↦ inl s | inr old ↦ b.greatest e m old ];
}

-- one more literal, which is another one: the better of the two is kept
module _ (entries : List Assigned) (clause : List Lit) (n : ℕ) (except best lit : Lit) (rank r : ℕ)
    (at : slice_get clause n ≡ Some lit)
    (other : lit ≢ except)
    (real : lit.0 ≢ 0)
    (b : IsBest entries (take n clause) except best rank)
    (h : HasRank entries lit r)
  where
    pub best_new : (best.0 ≡ 0) ⊎ (rank < r) → IsBest entries (take (suc n) clause) except lit r
    best_new better = record {
      none = λ e. absurd (real e);
      listed = λ e. at_end clause n lit at;
      apart = λ e. other;
      ranked = λ e. h;
      greatest = λ e m c. elim (take_more clause n lit m at c) [
        | inl same ↦ inr (r, subst (λ z. HasRank entries z r) (sym same) h, omega arith)
        | inr old ↦ elim (cases_eq best.0 0) [
          | inl zero_best ↦ inl (b.none zero_best m old)
          | inr some ↦ elim (b.greatest some m old) [
            | inl s ↦ inl s
            | inr q ↦ elim better [
              | inl z ↦ absurd (some z)
              | inr lt ↦ inr (q.0, q.1, (let w = q.2 in omega arith))
            ]
          ]
        ]
      ];
    }
      where
        at_end : (xs : List Lit) (k : ℕ) (x : Lit) → slice_get xs k ≡ Some x → Contains (take (suc k) xs) x
        at_end [] k x e = absurd (let q : None ≡ Some x = e in cc)
        at_end (y ∷ ys) zero x e = subst (λ z. Contains (y ∷ take 0 ys) z) (let q : Some y ≡ Some x = e in cc) (contains_head y (take 0 ys))
        at_end (y ∷ ys) (suc k) x e = contains_tail y x (take (suc k) ys) (at_end ys k x e)

    pub best_old : best.0 ≢ 0 → r ≤ rank → IsBest entries (take (suc n) clause) except best rank
    best_old some le = record {
      none = λ e. absurd (some e);
      listed = λ e. take_less clause n best (b.listed e);
      apart = b.apart;
      ranked = b.ranked;
      greatest = λ e m c. elim (take_more clause n lit m at c) [
        | inl same ↦ inr (r, subst (λ z. HasRank entries z r) (sym same) h, le)
        | inr old ↦ b.greatest e m old
      ];
    }

-- the best literal, and the best other one
pub chosen : (t : TrailView) (clause : List Lit) (first second none_lit : Lit) (r s : ℕ) → none_lit.0 ≡ 0 → ((m : Lit) → Contains clause m → m.0 ≢ 0)
    → (0 < level t.entries → CanBeWatched t.entries clause)
    → IsBest t.entries clause none_lit first r → IsBest t.entries clause first second s → second.0 ≢ 0 → IsChosen t.entries clause first second
chosen t clause first second none_lit r s zero_lit real watchable one two some = record {
  both = λ e. absurd (first_some e);
  neither = λ e. absurd (some e);
  short = λ e. absurd (first_some e);
  first_listed = λ e. first_in;
  second_listed = λ e. second_in;
  apart = λ e q. two.apart some (sym q);
  first_below = λ e. below first r (one.ranked first_some) (λ above. (λ z. first_rank above z));
  second_below = λ e. below second s (two.ranked some) (λ above. (λ z. second_rank above z));
  here = λ e. elim (cases_eq s 2) [
    | inl good ↦ inl ((one.ranked first_some).good (first_two ((two.ranked some).good good)), (two.ranked some).good good)
    | inr bad ↦ inr (λ m c. elim (two.greatest some m c) [
      | inl same ↦ inl same
      | inr q ↦ inr (q.1.bad (λ w. bad (let le = q.2 in let top = (two.ranked some).top in omega arith)))
    ])
  ];
}
  where
    second_in : Contains clause second
    second_in = two.listed some

    first_some : first.0 ≢ 0
    first_some e = some (ap (λ (x : Lit). x.0) (one.none e second second_in) ∙ zero_lit)

    first_in : Contains clause first
    first_in = one.listed first_some

    not_none : (m : Lit) → Contains clause m → m ≢ none_lit
    not_none m c e = real m c (ap (λ (x : Lit). x.0) e ∙ zero_lit)

    first_two : ¬ IsFalse (true_lits t.entries) second → r ≡ 2
    first_two n = elim (one.greatest first_some second second_in) [
      | inl e ↦ absurd (not_none second second_in e)
      | inr q ↦ let two_is = rank_two t.entries second q.0 q.1 n in let le = q.2 in let top = (one.ranked first_some).top in omega arith
    ]

    second_rank : 0 < level t.entries → s ≡ 0 → ⊥
    second_rank above e =
        let w = watchable above in
        elim (two.greatest some w.first w.first_listed) [
          | inl x ↦ elim (two.greatest some w.second w.second_listed) [
            | inl y ↦ w.apart (x ∙ sym y)
            | inr q ↦ rank_some t.entries w.second q.0 q.1 w.second_below (let le = q.2 in omega arith)
          ]
          | inr q ↦ rank_some t.entries w.first q.0 q.1 w.first_below (let le = q.2 in omega arith)
        ]

    first_rank : 0 < level t.entries → r ≡ 0 → ⊥
    first_rank above e =
        let w = watchable above in
        elim (one.greatest first_some w.first w.first_listed) [
          | inl x ↦ not_none w.first w.first_listed x
          | inr q ↦ rank_some t.entries w.first q.0 q.1 w.first_below (let le = q.2 in omega arith)
        ]

    below : (l : Lit) (k : ℕ) → HasRank t.entries l k → (0 < level t.entries → k ≡ 0 → ⊥) → IsNotFalseBelow t.entries l
    below l k h some_rank n lt = h.late (some_rank (omega arith)) n lt

-- no other literal
pub chosen_none : (t : TrailView) (clause : List Lit) (first second none_lit : Lit) (s : ℕ) → none_lit.0 ≡ 0
    → (0 < level t.entries → CanBeWatched t.entries clause)
    → IsBest t.entries clause first second s → second.0 ≡ 0 → IsChosen t.entries clause none_lit none_lit
chosen_none t clause first second none_lit s zero_lit watchable two gone = record {
  both = λ e. e;
  neither = λ e. e;
  short = λ e. (level_zero, λ a b in_a in_b. two.none gone a in_a ∙ sym (two.none gone b in_b));
  first_listed = λ e. absurd (e zero_lit);
  second_listed = λ e. absurd (e zero_lit);
  apart = λ e. absurd (e zero_lit);
  first_below = λ e. absurd (e zero_lit);
  second_below = λ e. absurd (e zero_lit);
  here = λ e. absurd (e zero_lit);
}
  where
    level_zero : level t.entries ≡ 0
    level_zero = elim (cases_lt 0 (level t.entries)) [
      | inl above ↦ (let w = watchable above in absurd (w.apart (two.none gone w.first w.first_listed ∙ sym (two.none gone w.second w.second_listed))))
      | inr ge ↦ omega arith
    ]
