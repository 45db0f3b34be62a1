-- What one more mark and one fewer keep.
use Rattle.std.proofs.lemmas.List.Elements.{Contains-push_cases, Contains-append_left, Contains-append_right}
use Rattle.std.proofs.Common.{◌≡◌, ℕ, zero, suc, ◌+◌, ◌<◌, ◌^◌, inl, inr, Bool, true, false, List, [], ◌∷◌, ◌++◌, length, get_or, set, replicate, refl, ap, sym, ◌∙◌, subst, arith}
use Rattle.std.specs.Prelude.{Contains}
use Rattle.std.proofs.lemmas.Bool.{cases_eq, false≢true}
use Rattle.std.proofs.lemmas.List.{length-set, length-map, length-replicate}
use Rattle.dg_base.proofs.Lists.{place_of, contains_head}
use Rattle.dg_base.specs.declared.Lit.{Lit}
use Rattle.cnf_problem.specs.Literals.{var}
use Rattle.trail_state.specs.Trails.{TrailView, Assigned, lit_of, true_lits, level, level_of, IsAssigned, IsWell}
use Rattle.conflict_learn.specs.Marking.{is_marked, is_last, last_count, AreMarks, AddsMarks}
use Rattle.conflict_learn.proofs.Levels.{Once}
use Rattle.conflict_learn.proofs.Counting.{one_passes}
use Rattle.conflict_learn.proofs.Marks.{marked_alike, marked_same, marked_other, last_parts, count_marked, count_unmarked, count_elsewhere, last_count_le}

-- no variable stands twice on a trail
pub once_of : (t : TrailView) → IsWell t → Once (true_lits t.entries)
once_of t w = record { once = w.once }

-- an assigned variable has a mark
pub has_mark : (t : TrailView) (marks : List Bool) (count v : ℕ) → IsWell t → AreMarks t marks count → IsAssigned t.entries v → v < length marks
has_mark t marks count v w are (l, c, e) =
    let r = w.range l c in
    let s = are.sized in
    omega (arith, r.1)

-- where no variable is marked
pub no_marks : (t : TrailView) (n : ℕ) → n ≡ t.vars + 1 → length t.entries < 2 ^ 32 → AreMarks t (replicate n false) 0
no_marks t n e few = record {
  sized = length-replicate n false ∙ e ∙ (omega arith);
  above = λ l h. absurd (false≢true (sym (unmarked n (var l)) ∙ h));
  counted = none;
  few = few;
}
  where
    unmarked : (n v : ℕ) → get_or (replicate n false) v false ≡ false
    unmarked zero v = refl
    unmarked (suc n) zero = refl
    unmarked (suc n) (suc v) = unmarked n v

    none : 0 ≡ last_count (replicate n false) t.entries
    none =
        elim (cases_eq 0 (last_count (replicate n false) t.entries)) [
          | inl z ↦ z
          | inr some ↦
              let r = one_passes (is_last (replicate n false) t.entries) (true_lits t.entries) (omega arith) in
              absurd (false≢true (sym (unmarked n (var r.1)) ∙ (last_parts (replicate n false) t.entries r.1 r.3).0))
        ]

module _ (t : TrailView) (marks : List Bool) (count : ℕ) (l : Lit) (v : ℕ) (w : IsWell t) (are : AreMarks t marks count) where
  -- with a literal of the last level there is one more of that level
  pub one_more : IsAssigned t.entries (var l) → v ≡ var l → is_marked marks l ≡ false → level_of (var l) t.entries ≡ level t.entries → last_count (set marks v true) t.entries ≡ count + 1
  one_more (x, c, ex) e f top =
      let p = place_of (true_lits t.entries) x c in
      let r = count_marked marks t.entries p.0 x v (once_of t w) p.1 (ex ∙ sym e) (rw e (has_mark t marks count (var l) w are (x, c, ex))) (marked_alike marks x l ex ∙ f) (ap (λ z. level_of z t.entries) ex ∙ top) in
      let k = are.counted in
      omega arith

  -- so the count fits
  pub room_for_one : IsAssigned t.entries (var l) → v ≡ var l → is_marked marks l ≡ false → level_of (var l) t.entries ≡ level t.entries → count + 1 < 2 ^ 32
  room_for_one a e f top =
      let r = one_more a e f top in
      let s = last_count_le (set marks v true) t.entries in
      let n = length-map t.entries lit_of in
      let few = are.few in
      omega arith

  -- the marks with one more
  pub marks_with : (more : ℕ) → IsAssigned t.entries (var l) → v ≡ var l → 0 < level_of (var l) t.entries → last_count (set marks v true) t.entries ≡ more → AreMarks t (set marks v true) more
  marks_with more a e above counts = record {
    sized = length-set marks v true ∙ are.sized;
    above = λ m h. elim (cases_eq (var m) v) [
      | inl q ↦ (let s = ap (λ z. level_of z t.entries) (q ∙ e) in omega arith)
      | inr o ↦ are.above m (sym (marked_other marks v true m o) ∙ h)
    ];
    counted = sym counts;
    few = are.few;
  }

  -- a literal of a lower level is not counted
  pub as_many : v ≡ var l → (level_of (var l) t.entries ≡ level t.entries → ⊥) → last_count (set marks v true) t.entries ≡ count
  as_many e n = count_elsewhere marks t.entries v (rw e n) ∙ sym are.counted

  -- without a literal of the last level there is one fewer
  pub one_fewer : Contains (true_lits t.entries) l → v ≡ var l → is_last marks t.entries l ≡ true → suc (last_count (set marks v false) t.entries) ≡ count
  one_fewer c e last =
      let p = place_of (true_lits t.entries) l c in
      let r = count_unmarked marks t.entries p.0 l v (once_of t w) p.1 (sym e) (rw e (has_mark t marks count (var l) w are (l, c, refl))) last in
      sym (are.counted ∙ r)

  -- the marks with one fewer
  pub marks_without : (fewer : ℕ) → v < length marks → last_count (set marks v false) t.entries ≡ fewer → AreMarks t (set marks v false) fewer
  marks_without fewer lt counts = record {
    sized = length-set marks v false ∙ are.sized;
    above = λ m h. elim (cases_eq (var m) v) [
      | inl q ↦ absurd (false≢true (sym (marked_same marks v false m lt q) ∙ h))
      | inr o ↦ are.above m (sym (marked_other marks v false m o) ∙ h)
    ];
    counted = sym counts;
    few = are.few;
  }

-- marks of some literals and then of one more
pub adds_one : (es : List Assigned) (a b c : List Bool) (xs : List Lit) (x : Lit) → AddsMarks es a b xs → AddsMarks es b c (x ∷ []) → AddsMarks es a c (xs ++ x ∷ [])
adds_one es a b c xs x p q = record {
  stay = λ l h. q.stay l (p.stay l h);
  all = λ l h. elim (Contains-push_cases xs x l h) [
    | inl old ↦ elim (p.all l old) [ inl m ↦ inl (q.stay l m) | inr z ↦ inr z ]
    | inr e ↦ q.all l (subst (λ z. Contains (x ∷ []) z) e (contains_head x []))
  ];
  only = λ l h. elim (q.only l h) [
    | inl m ↦ elim (p.only l m) [ inl o ↦ inl o | inr (y, cy, e) ↦ inr (y, Contains-append_left xs (x ∷ []) y cy, e) ]
    | inr (y, cy, e) ↦ inr (y, Contains-append_right xs (x ∷ []) y cy, e)
  ];
}
