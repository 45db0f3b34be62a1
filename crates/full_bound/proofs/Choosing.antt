-- Where to cut: before the action of least rank that some thread loses.
use Rattle.std.proofs.Common.{◌≡◌, ℕ, zero, suc, ◌<◌, ◌≤◌, Some, Bool, true, false, cond, length, take, refl, sym, ap, ◌∙◌, subst, inl, inr, ◌⊎◌, ⊎_elim, arith}
use Rattle.std.specs.Prelude.{nat_eq, nat_lt, ◌&&◌, not, slice_get}
use Rattle.std.proofs.lemmas.Bool.{false≢true, cases_lt, cases_eq, cases_Bool, ltb-true, lt-ltb, cond-true, cond-false, and_parts, eq-eqb, ne_eqb}
use Rattle.std.proofs.lemmas.Option.{slice_get_within}
use Rattle.axiom_model.specs.declared.MemoryModel.{MemoryModel}
use Rattle.axiom_model.specs.declared.Action.TheVariants.{Read, Create, Join, Start, End}
use Rattle.axiom_model.specs.declared.Event.{Event}
use Rattle.axiom_model.specs.declared.Event.TheVariants.{Initial, At}
use Rattle.axiom_model.specs.WellMade.{Shape}
use Rattle.full_bound.specs.Lone.{is_opened}
use Rattle.full_bound.proofs.Worlds.{World, Exists, made_at, WritesTo, Edge, IsSound}
use Rattle.full_bound.proofs.Worlds as worlds
use Rattle.full_bound.proofs.Appending.{write_exists}
use Rattle.full_bound.proofs.Cutting.{IsKept, cut_acts, take_back, is_heavy, reads_closed, creates_closed, joins_closed, cut_closed}

module _ (m : MemoryModel) (s : Shape) (w : World) (sound : IsSound m s w) (L : ℕ → ℕ) (whole : (h : ℕ) → L h ≤ length (w.acts h))
    (starts : (h : ℕ) → 0 < length (w.acts h) → slice_get (w.acts h) 0 ≡ Some Start) (N : ℕ) (low : (h : ℕ) → 0 < length (w.acts h) → h < N) (F : ℕ) where
  -- what is kept of each thread
  pub record IsCut (S : ℕ) (n : ℕ → ℕ) : Type 0 where
    pub fits : (h : ℕ) → n h ≤ L h
    pub self : n S ≡ L S
    pub reads : (r : Event) (c v : ℕ) → made_at (cut_acts w.acts n) r ≡ Some (Read c v) → IsKept n (w.source r)
    pub creates : (h i k j f v : ℕ) → i < n h → slice_get (w.acts h) i ≡ Some Start → slice_get (w.acts k) j ≡ Some (Create h f v) → j < n k
    pub joins : (h i k j : ℕ) → j < n k → slice_get (w.acts k) j ≡ Some (Join h) → slice_get (w.acts h) i ≡ Some End → i < n h
    pub shut : (h : ℕ) → (h ≡ S → ⊥) → n h < length (w.acts h) → is_opened false (take (n h) (w.acts h)) ≡ false

  abbrev pub Found : Type 0
  Found = (S : ℕ) × (n : ℕ → ℕ) × IsCut S n × ((L S < length (w.acts S)) ⊎ (S ≡ F))

  -- ---- nothing is lost

  exists_kept : (e : Event) → Exists w.acts e → IsKept (λ h. length (w.acts h)) e
  exists_kept Initial x = tt
  exists_kept (At h i) x = x

  keep_all : ((h : ℕ) → L h ≡ length (w.acts h)) → Found
  keep_all all = (
    F,
    (λ h. length (w.acts h)),
    record {
      fits = λ h. omega (arith, all h);
      self = sym (all F);
      reads = λ r c v h. exists_kept (w.source r) (write_exists s w.acts (w.source r) c v (sound.values r c v (back r c v h)));
      creates = λ h i k j f v l a b. slice_get_within (w.acts k) j (Create h f v) b;
      joins = λ h i k j l a b. slice_get_within (w.acts h) i End b;
      shut = λ h ne l. absurd (omega (arith, l));
    },
    inr refl,
  ) where
    back : (r : Event) (c v : ℕ) → made_at (cut_acts w.acts (λ h. length (w.acts h))) r ≡ Some (Read c v) → made_at w.acts r ≡ Some (Read c v)
    back Initial c v h = h
    back (At k i) c v h = (take_back (length (w.acts k)) (w.acts k) i (Read c v) h).0

  -- ---- the greatest rank of a thread's first actions that are no writes

  abbrev heavy : ℕ → ℕ → Bool
  heavy h i = is_heavy (slice_get (w.acts h) i)

  abbrev higher : ℕ → ℕ → ℕ → Bool
  higher h i top = heavy h i && nat_lt top (w.block (At h i))

  peak : ℕ → ℕ → ℕ
  peak h zero = 0
  peak h (suc i) = cond (higher h i (peak h i)) (w.block (At h i)) (peak h i)

  peak_step : (h i : ℕ) → (higher h i (peak h i) ≡ true) × (peak h (suc i) ≡ w.block (At h i)) ⊎ (higher h i (peak h i) ≡ false) × (peak h (suc i) ≡ peak h i)
  unfolding peak
  peak_step h i =
      ⊎_elim (λ t. inl (t, cond-true (higher h i (peak h i)) (w.block (At h i)) (peak h i) t)) (λ f. inr (f, cond-false (higher h i (peak h i)) (w.block (At h i)) (peak h i) f)) (cases_Bool (higher h i (peak h i)))

  both_true : (a b : Bool) → a ≡ true → b ≡ true → (a && b) ≡ true
  both_true a b p q = ap (λ z. z && b) p ∙ q

  peak_rises : (h i : ℕ) → peak h i ≤ peak h (suc i)
  peak_rises h i = ⊎_elim (λ x. omega (arith, ltb-true (peak h i) (w.block (At h i)) (and_parts (heavy h i) (nat_lt (peak h i) (w.block (At h i))) x.0).1, x.1)) (λ x. omega (arith, x.1)) (peak_step h i)

  peak_bound : (h k i : ℕ) → i < k → heavy h i ≡ true → w.block (At h i) ≤ peak h k
  peak_bound h zero i l is = absurd (omega (arith, l))
  peak_bound h (suc k) i l is =
      ⊎_elim
      (λ e. subst (λ z. w.block (At h z) ≤ peak h (suc k)) (sym e) (here (subst (λ z. heavy h z ≡ true) e is)))
      (λ ne. let more = peak_bound h k i (⊎_elim (λ lt. lt) (λ ge. absurd (ne (omega (arith, ge, l)))) (cases_lt i k)) is in omega (arith, more, peak_rises h k))
      (cases_eq i k) where
        here : heavy h k ≡ true → w.block (At h k) ≤ peak h (suc k)
        here is =
            ⊎_elim (λ x. omega (arith, x.1))
            (λ x. ⊎_elim (λ lt. absurd (false≢true (sym x.0 ∙ both_true (heavy h k) (nat_lt (peak h k) (w.block (At h k))) is (lt-ltb (peak h k) (w.block (At h k)) lt)))) (λ le. omega (arith, le, x.1)) (cases_lt (peak h k) (w.block (At h k))))
            (peak_step h k)

  no_peak : (h : ℕ) → 0 < peak h zero → ⊥
  unfolding peak
  no_peak h x = omega (arith, x)

  peak_reached : (h k : ℕ) → 0 < peak h k → (j : ℕ) × (j < k) × (heavy h j ≡ true) × (w.block (At h j) ≡ peak h k)
  peak_reached h zero l = absurd (no_peak h l)
  peak_reached h (suc k) l =
      ⊎_elim
      (λ x. (k, omega arith, (and_parts (heavy h k) (nat_lt (peak h k) (w.block (At h k))) x.0).0, sym x.1))
      (λ x. let it = peak_reached h k (omega (arith, l, x.1)) in (it.0, omega (arith, it.1), it.2, it.3 ∙ sym x.1))
      (peak_step h k)

  -- ---- the first action that is no write and has such a rank

  module _ (R : ℕ) where
    abbrev late : ℕ → ℕ → Bool
    late h i = heavy h i && not (nat_lt (w.block (At h i)) R)

    first : ℕ → ℕ → ℕ
    first h zero = 0
    first h (suc k) = cond (nat_lt (first h k) k) (first h k) (cond (late h k) k (suc k))

    abbrev IsFirst : ℕ → ℕ → ℕ → Type 0
    IsFirst h k f = (f ≤ k) × ((i : ℕ) → i < f → late h i ≡ false) × (f < k → late h f ≡ true)

    first_is : (h k : ℕ) → IsFirst h k (first h k)
    unfolding first
    first_is h zero = (omega arith, (λ i l. absurd (omega (arith, l))), λ l. absurd (omega (arith, l)))
    first_is h (suc k) =
        let it = first_is h k in
        ⊎_elim
        (λ t.
        let lt : first h k < k = ltb-true (first h k) k t in
        subst (IsFirst h (suc k)) (sym (cond-true (nat_lt (first h k) k) (first h k) (cond (late h k) k (suc k)) t)) (omega (arith, lt), it.1, λ l. it.2 lt))
        (λ f.
        let at : first h k ≡ k = ⊎_elim (λ lt. absurd (false≢true (sym f ∙ lt-ltb (first h k) k lt))) (λ ge. omega (arith, ge, it.0)) (cases_lt (first h k) k) in
        subst (IsFirst h (suc k)) (sym (cond-false (nat_lt (first h k) k) (first h k) (cond (late h k) k (suc k)) f))
        (⊎_elim
        (λ y. subst (IsFirst h (suc k)) (sym (cond-true (late h k) k (suc k) y)) (omega arith, (λ i l. it.1 i (omega (arith, l, at))), λ l. y))
        (λ y. subst (IsFirst h (suc k)) (sym (cond-false (late h k) k (suc k) y))
        (omega arith, (λ i l. ⊎_elim (λ e. subst (λ z. late h z ≡ false) (sym e) y) (λ ne. it.1 i (⊎_elim (λ lt. omega (arith, lt, at)) (λ ge. absurd (ne (omega (arith, ge, l)))) (cases_lt i k))) (cases_eq i k)), λ l. absurd (omega (arith, l))))
        (cases_Bool (late h k))))
        (cases_Bool (nat_lt (first h k) k))

    not_late : (h i : ℕ) → late h i ≡ false → heavy h i ≡ true → w.block (At h i) < R
    not_late h i l is = ⊎_elim (λ lt. lt) (λ ge. absurd (false≢true (sym l ∙ is_late h i is ge))) (cases_lt (w.block (At h i)) R) where
      is_late : (h i : ℕ) → heavy h i ≡ true → R ≤ w.block (At h i) → late h i ≡ true
      is_late h i is ge = both_true (heavy h i) (not (nat_lt (w.block (At h i)) R)) is (above ge) where
        above : R ≤ w.block (At h i) → not (nat_lt (w.block (At h i)) R) ≡ true
        above ge = ⊎_elim (λ t. absurd (omega (arith, ltb-true (w.block (At h i)) R t, ge))) (λ f. ap not f) (cases_Bool (nat_lt (w.block (At h i)) R))

    is_late : (h i : ℕ) → late h i ≡ true → (heavy h i ≡ true) × (R ≤ w.block (At h i))
    is_late h i l =
        let parts = and_parts (heavy h i) (not (nat_lt (w.block (At h i)) R)) l in
        (parts.0, ⊎_elim (λ lt. absurd (false≢true (sym (ap not (lt-ltb (w.block (At h i)) R lt)) ∙ parts.1))) (λ ge. ge) (cases_lt (w.block (At h i)) R))

  -- ---- the least loss

  abbrev loss : ℕ → ℕ
  loss h = peak h (suc (L h))

  abbrev IsLost : ℕ → Type 0
  IsLost h = L h < length (w.acts h)

  loss_positive : (h : ℕ) → IsLost h → 0 < loss h
  loss_positive h l =
      let some : 0 < length (w.acts h) = omega (arith, l) in
      let is = starts h some in
      let e : Edge (Some m) s w.acts w.source w.global Initial (At h 0) = worlds.Edge.initial Start tt refl is in
      let up = sound.block_rises Initial (At h 0) e (λ z. z) in
      let bound = peak_bound h (suc (L h)) 0 (omega arith) (ap is_heavy is) in
      omega (arith, up, bound)

  cut_at : (S : ℕ) → IsLost S → ((h : ℕ) → IsLost h → loss S ≤ loss h) → Found
  cut_at S lost least = (
    S,
    n,
    record {
      fits = fits;
      self = self;
      reads = reads_closed m s w sound n S R before behind;
      creates = creates_closed m s w sound n S R before behind;
      joins = joins_closed m s w sound n S R before behind;
      shut = cut_closed m s w sound n S R before behind;
    },
    inl lost,
  ) where
    R : ℕ
    R = loss S

    n : ℕ → ℕ
    n h = cond (nat_eq h S) (L S) (first R h (length (w.acts h)))

    self : n S ≡ L S
    self = cond-true (nat_eq S S) (L S) (first R S (length (w.acts S))) (eq-eqb S S refl)

    other : (h : ℕ) → (h ≡ S → ⊥) → n h ≡ first R h (length (w.acts h))
    other h ne = cond-false (nat_eq h S) (L S) (first R h (length (w.acts h))) (ne_eqb h S ne)

    -- a late action bounds the first
    first_low : (h i : ℕ) → i < length (w.acts h) → heavy h i ≡ true → R ≤ w.block (At h i) → first R h (length (w.acts h)) ≤ i
    first_low h i l is high =
        ⊎_elim (λ lt. absurd (let small = not_late R h i ((first_is R h (length (w.acts h))).1 i lt) is in omega (arith, small, high))) (λ ge. ge) (cases_lt i (first R h (length (w.acts h))))

    fits : (h : ℕ) → n h ≤ L h
    fits h =
        ⊎_elim (λ e. subst (λ z. n z ≤ L z) (sym e) (omega (arith, self)))
        (λ ne. ⊎_elim
        (λ lost'.
        let it = peak_reached h (suc (L h)) (loss_positive h lost') in
        let small = first_low h it.0 (omega (arith, it.1, lost')) it.2 (omega (arith, it.3, least h lost')) in
        omega (arith, other h ne, small, it.1))
        (λ kept. omega (arith, other h ne, (first_is R h (length (w.acts h))).0, kept, whole h))
        (cases_lt (L h) (length (w.acts h))))
        (cases_eq h S)

    before : (h i : ℕ) → i < n h → heavy h i ≡ true → (w.block (At h i) ≤ R) × ((h ≡ S → ⊥) → w.block (At h i) < R)
    before h i l is =
        ⊎_elim
        (λ e.
        let low' : i < L S = omega (arith, subst (λ z. i < n z) e l, self) in
        let bound = peak_bound S (suc (L S)) i (omega (arith, low')) (subst (λ z. heavy z i ≡ true) e is) in
        (subst (λ z. w.block (At z i) ≤ R) (sym e) bound, λ ne. absurd (ne e)))
        (λ ne.
        let small = not_late R h i ((first_is R h (length (w.acts h))).1 i (omega (arith, l, other h ne))) is in
        (omega (arith, small), λ z. small))
        (cases_eq h S)

    behind : (h i : ℕ) → n h ≤ i → i < length (w.acts h) → (j : ℕ) × (j ≤ i) × (heavy h j ≡ true) × (R ≤ w.block (At h j))
    behind h i l up =
        ⊎_elim
        (λ e.
        let it = peak_reached S (suc (L S)) (loss_positive S lost) in
        let high : L S ≤ i = omega (arith, subst (λ z. n z ≤ i) e l, self) in
        subst (λ z. (j : ℕ) × (j ≤ i) × (heavy z j ≡ true) × (R ≤ w.block (At z j))) (sym e) (it.0, omega (arith, it.1, high), it.2, omega (arith, it.3)))
        (λ ne.
        let f = first_is R h (length (w.acts h)) in
        let late' = is_late R h (first R h (length (w.acts h))) (f.2 (omega (arith, other h ne, l, up))) in
        (first R h (length (w.acts h)), omega (arith, other h ne, l), late'.0, late'.1))
        (cases_eq h S)

  abbrev Least : ℕ → Type 0
  Least k = ((h : ℕ) → h < k → L h ≡ length (w.acts h)) ⊎ ((S : ℕ) × IsLost S × ((h : ℕ) → h < k → IsLost h → loss S ≤ loss h))

  least_of : (k : ℕ) → Least k
  least_of zero = inl (λ h l. absurd (omega (arith, l)))
  least_of (suc k) =
      ⊎_elim
      (λ lost. ⊎_elim
      (λ all. inr (k, lost, λ h l lost'. ⊎_elim (λ e. let same = ap loss e in omega (arith, same)) (λ ne. absurd (let e = all h (less h l ne) in omega (arith, e, lost'))) (cases_eq h k)))
      (λ it. ⊎_elim
      (λ lt. inr (k, lost, λ h l lost'. ⊎_elim (λ e. let same = ap loss e in omega (arith, same)) (λ ne. let more = it.2 h (less h l ne) lost' in omega (arith, more, lt)) (cases_eq h k)))
      (λ ge. inr (it.0, it.1, λ h l lost'. ⊎_elim (λ e. let same = ap loss e in omega (arith, same, ge)) (λ ne. it.2 h (less h l ne) lost') (cases_eq h k)))
      (cases_lt (loss k) (loss it.0)))
      (least_of k))
      (λ kept. ⊎_elim
      (λ all. inl (λ h l. ⊎_elim (λ e. subst (λ z. L z ≡ length (w.acts z)) (sym e) (omega (arith, kept, whole k))) (λ ne. all h (less h l ne)) (cases_eq h k)))
      (λ it. inr (it.0, it.1, λ h l lost'. ⊎_elim (λ e. absurd (let lk : L k < length (w.acts k) = subst IsLost e lost' in omega (arith, kept, lk))) (λ ne. it.2 h (less h l ne) lost') (cases_eq h k)))
      (least_of k))
      (cases_lt (L k) (length (w.acts k))) where
        less : (h : ℕ) → h < suc k → (h ≡ k → ⊥) → h < k
        less h l ne = ⊎_elim (λ lt. lt) (λ ge. absurd (ne (omega (arith, ge, l)))) (cases_lt h k)

  -- some cut
  pub found : Found
  found =
      ⊎_elim
      (λ all. keep_all (λ h. ⊎_elim (λ some. all h (low h some)) (λ none. omega (arith, none, whole h)) (cases_lt 0 (length (w.acts h)))))
      (λ it. cut_at it.0 it.1 (λ h lost. it.2 h (low h (omega (arith, lost))) lost))
      (least_of N)
