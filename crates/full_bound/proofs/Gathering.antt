-- Threads that are all over, gathered into a candidate: its parts and its events.
use Rattle.std.proofs.Common.{◌≡◌, ℕ, zero, suc, ◌<◌, List, [], ◌∷◌, ◌++◌, Option, Some, None, Bool, true, false, cond, length, map, refl, sym, ap, ◌∙◌, subst, inl, inr, ◌⊎◌, ⊎_elim, arith}
use Rattle.std.specs.Prelude.{nat_eq, slice_get, All}
use Rattle.std.proofs.lemmas.Bool.{false≢true, cases_eq, cases_lt, cases_Bool, eq-eqb, ne_eqb, cond-true, cond-false}
use Rattle.std.proofs.lemmas.Option.{none-some, slice_get_within}
use Rattle.dg_base.specs.declared.Place.{Place}
use Rattle.dg_base.proofs.Lists.{get_nothing}
use Rattle.axiom_model.specs.declared.MemoryModel.{MemoryModel}
use Rattle.axiom_model.specs.declared.Action.{Action}
use Rattle.axiom_model.specs.declared.Event.{Event}
use Rattle.axiom_model.specs.declared.Event.TheVariants.{Initial, At}
use Rattle.axiom_model.specs.declared.ThreadPart.{ThreadPart}
use Rattle.axiom_model.specs.Execution.{Thread, actions_of}
use Rattle.axiom_model.specs.Failing.{Run, RunsTo, thread_of, threads_of}
use Rattle.c_check.specs.declared.checked.Checked.{Checked}
use Rattle.run_model.specs.Threads.{thread_run}
use Rattle.run_laws.specs.Words.{IsWord}
use Rattle.full_bound.proofs.Worlds.{World, made_at}
use Rattle.full_bound.proofs.Standing.{IsOver, FailsAt, Parts, Fits}
use Rattle.full_bound.proofs.Appending.{made_exists}
use Rattle.full_bound.proofs.Ascending.{In, in_left, in_right, in_cases, Ascending, sort, sort_ascending, sort_sound, sort_complete}

pub record Pair : Type 0 where
  pub part : ThreadPart
  pub run : Run

abbrev pub thread_in : Pair → Thread
thread_in x = thread_of x.part x.run

pub threads_paired : (ps : List Pair) → threads_of (map (λ (x : Pair). x.part) ps) (map (λ (x : Pair). x.run) ps) ≡ map thread_in ps
threads_paired [] = refl
threads_paired (x ∷ ps) = ap (λ ts. thread_in x ∷ ts) (threads_paired ps)

module _ (p : Checked) (m : MemoryModel) (w : World) (who : Parts) (fits : Fits p m w who) (over : (h f v : ℕ) → who h ≡ Some (f, v) → IsOver p f h v (w.acts h)) where
  abbrev failing : FailsAt p w who
  failing = fits.fails

  pub record IsGood (x : Pair) : Type 0 where
    pub is : who x.part.handle ≡ Some (x.part.function, x.part.arg)
    pub runs : RunsTo (thread_run p) x.part x.run
    pub actions : x.run.actions ≡ w.acts x.part.handle
    pub not_bad : x.run.bad ≡ false
    pub words : All IsWord x.part.script
    pub fails : x.part.handle ≡ failing.handle → (place : Place) × (x.run.failed ≡ Some place)

  abbrev Goods : ℕ → Type 0
  Goods h = (x : Pair) × IsGood x × (x.part.handle ≡ h)

  good_of : (h f v : ℕ) → who h ≡ Some (f, v) → (o : IsOver p f h v (w.acts h)) → (h ≡ failing.handle → (place : Place) × (o.ran.run.failed ≡ Some place)) → Goods h
  good_of h f v is o fails = (
    record { part = record { handle = h; function = f; arg = v; script = o.ran.script }; run = o.ran.run },
    record { is = is; runs = (o.ran.runs, o.ran.all_used); actions = o.actions; not_bad = o.ran.not_bad; words = o.ran.words; fails = fails },
    refl,
  )

  good_at : (h : ℕ) (x : ℕ × ℕ) → who h ≡ Some x → Goods h
  good_at h x is =
      ⊎_elim
      (λ same. subst Goods (sym same) (good_of failing.handle failing.function failing.arg failing.is failing.over (λ z. (failing.place, failing.failed))))
      (λ ne. good_of h x.0 x.1 is (over h x.0 x.1 is) (λ z. absurd (ne z)))
      (cases_eq h failing.handle)

  one : (h : ℕ) (o : Option (ℕ × ℕ)) → who h ≡ o → List Pair
  one h None is = []
  one h (Some x) is = (good_at h x is).0 ∷ []

  pub pairs : ℕ → List Pair
  pairs zero = []
  pairs (suc n) = pairs n ++ one n (who n) refl

  abbrev handle_of : Pair → ℕ
  handle_of x = x.part.handle

  one_good : (h : ℕ) (o : Option (ℕ × ℕ)) (is : who h ≡ o) (x : Pair) → In Pair x (one h o is) → IsGood x × (x.part.handle ≡ h)
  unfolding one
  one_good h None is x y = absurd y
  one_good h (Some z) is x (inl y) = subst (λ q. IsGood q × (q.part.handle ≡ h)) (sym y) ((good_at h z is).1, (good_at h z is).2)
  one_good h (Some z) is x (inr y) = absurd y

  one_ascending : (h : ℕ) (o : Option (ℕ × ℕ)) (is : who h ≡ o) → Ascending Pair handle_of (one h o is)
  unfolding one
  one_ascending h None is = tt
  one_ascending h (Some z) is = ((λ y e. absurd e), tt)

  one_complete : (h : ℕ) (o : Option (ℕ × ℕ)) (is : who h ≡ o) (z : ℕ × ℕ) → o ≡ Some z → (x : Pair) × In Pair x (one h o is) × (x.part.handle ≡ h)
  unfolding one
  one_complete h None is z e = absurd (none-some z e)
  one_complete h (Some y) is z e = ((good_at h y is).0, inl refl, (good_at h y is).2)

  pub pairs_good : (n : ℕ) (x : Pair) → In Pair x (pairs n) → IsGood x × (x.part.handle < n)
  unfolding pairs
  pairs_good zero x y = absurd y
  pairs_good (suc n) x y =
      ⊎_elim (λ z. let g = pairs_good n x z in (g.0, omega (arith, g.1))) (λ z. let g = one_good n (who n) refl x z in (g.0, omega (arith, g.1)))
      (in_cases Pair x (pairs n) (one n (who n) refl) y)

  joined : (xs ys : List Pair) → Ascending Pair handle_of xs → Ascending Pair handle_of ys → ((x y : Pair) → In Pair x xs → In Pair y ys → handle_of x < handle_of y) → Ascending Pair handle_of (xs ++ ys)
  joined [] ys a b c = b
  joined (x ∷ xs) ys a b c = ((λ y h. ⊎_elim (λ z. a.0 y z) (λ z. c x y (inl refl) z) (in_cases Pair y xs ys h)), joined xs ys a.1 b (λ u v p q. c u v (inr p) q))

  pub pairs_ascending : (n : ℕ) → Ascending Pair handle_of (pairs n)
  unfolding pairs
  pairs_ascending zero = tt
  pairs_ascending (suc n) =
      joined (pairs n) (one n (who n) refl) (pairs_ascending n) (one_ascending n (who n) refl) (λ x y a b. omega (arith, (pairs_good n x a).1, (one_good n (who n) refl y b).1))

  pub pairs_complete : (n h : ℕ) (z : ℕ × ℕ) → h < n → who h ≡ Some z → (x : Pair) × In Pair x (pairs n) × (x.part.handle ≡ h)
  unfolding pairs
  pairs_complete zero h z low e = absurd (omega (arith, low))
  pairs_complete (suc n) h z low e =
      ⊎_elim
      (λ same.
      let x = one_complete n (who n) refl z (subst (λ q. who q ≡ Some z) same e) in
      (x.0, in_right Pair x.0 (pairs n) (one n (who n) refl) x.1, x.2 ∙ sym same))
      (λ ne.
      let x = pairs_complete n h z (⊎_elim (λ lt. lt) (λ ge. absurd (ne (omega (arith, ge, low)))) (cases_lt h n)) e in
      (x.0, in_left Pair x.0 (pairs n) (one n (who n) refl) x.1, x.2))
      (cases_eq h n)

  -- ---- actions

  abbrev Either : List Pair → ℕ → Type 0
  Either ps h = (actions_of (map thread_in ps) h ≡ w.acts h) ⊎ ((actions_of (map thread_in ps) h ≡ []) × ((x : Pair) → In Pair x ps → x.part.handle ≡ h → ⊥))

  either : (ps : List Pair) (h : ℕ) → ((x : Pair) → In Pair x ps → IsGood x) → Either ps h
  either [] h g = inr (refl, λ x y e. y)
  either (x ∷ ps) h g =
      ⊎_elim
      (λ same. inl (cond-true (nat_eq x.part.handle h) x.run.actions (actions_of (map thread_in ps) h) (eq-eqb x.part.handle h same) ∙ (g x (inl refl)).actions ∙ ap w.acts same))
      (λ ne.
      let skip = cond-false (nat_eq x.part.handle h) x.run.actions (actions_of (map thread_in ps) h) (ne_eqb x.part.handle h ne) in
      ⊎_elim (λ y. inl (skip ∙ y)) (λ y. inr (skip ∙ y.0, λ z i e. ⊎_elim (λ q. ne (subst (λ u. u.part.handle ≡ h) q e)) (λ q. y.1 z q e) i)) (either ps h (λ z i. g z (inr i))))
      (cases_eq x.part.handle h)

  module _ (N : ℕ) (low : (h : ℕ) (z : ℕ × ℕ) → who h ≡ Some z → h < N) where
    pub actions_same : (h : ℕ) → actions_of (map thread_in (pairs N)) h ≡ w.acts h
    actions_same h =
        ⊎_elim (λ x. x) (λ x. x.0 ∙ sym (empty x.1 (who h) refl)) (either (pairs N) h (λ x i. (pairs_good N x i).0)) where
          empty : ((x : Pair) → In Pair x (pairs N) → x.part.handle ≡ h → ⊥) → (o : Option (ℕ × ℕ)) → who h ≡ o → w.acts h ≡ []
          empty none None is = fits.none h is
          empty none (Some z) is = let x = pairs_complete N h z (low h z is) is in absurd (none x.0 x.1 x.2)

    -- ---- events

    own : ℕ → ℕ → List Event
    own h zero = []
    own h (suc n) = own h n ++ At h n ∷ []

    all_below : ℕ → List Event
    all_below zero = []
    all_below (suc n) = all_below n ++ own n (length (w.acts n))

    own_has : (h n i : ℕ) → i < n → In Event (At h i) (own h n)
    unfolding own
    own_has h zero i l = absurd (omega (arith, l))
    own_has h (suc n) i l =
        ⊎_elim (λ e. in_right Event (At h i) (own h n) (At h n ∷ []) (inl (ap (λ z. At h z) e)))
        (λ ne. in_left Event (At h i) (own h n) (At h n ∷ []) (own_has h n i (⊎_elim (λ lt. lt) (λ ge. absurd (ne (omega (arith, ge, l)))) (cases_lt i n)))) (cases_eq i n)

    below_has : (n h i : ℕ) → h < n → i < length (w.acts h) → In Event (At h i) (all_below n)
    unfolding all_below
    below_has zero h i l k = absurd (omega (arith, l))
    below_has (suc n) h i l k =
        ⊎_elim (λ e. in_right Event (At h i) (all_below n) (own n (length (w.acts n))) (subst (λ z. In Event (At z i) (own n (length (w.acts n)))) (sym e) (own_has n (length (w.acts n)) i (subst (λ z. i < length (w.acts z)) e k))))
        (λ ne. in_left Event (At h i) (all_below n) (own n (length (w.acts n))) (below_has n h i (⊎_elim (λ lt. lt) (λ ge. absurd (ne (omega (arith, ge, l)))) (cases_lt h n)) k)) (cases_eq h n)

    pub all_events : List Event
    all_events = all_below N

    pub events_complete : (e : Event) (a : Action) → made_at w.acts e ≡ Some a → In Event e all_events
    unfolding all_events
    events_complete Initial a x = absurd (none-some a x)
    events_complete (At h i) a x = below_has N h i (there (who h) refl) (slice_get_within (w.acts h) i a x) where
      there : (o : Option (ℕ × ℕ)) → who h ≡ o → h < N
      there None is = absurd (get_nothing i a (subst (λ (l : List Action). slice_get l i ≡ Some a) (fits.none h is) x))
      there (Some z) is = low h z is

    -- those whose action passes a test, in the order of their ranks
    abbrev passes : (Action → Bool) → Option Action → Bool
    passes test None = false
    passes test (Some a) = test a

    only : (Action → Bool) → List Event → List Event
    only test [] = []
    only test (e ∷ es) = cond (passes test (made_at w.acts e)) (e ∷ only test es) (only test es)

    passing : (test : Action → Bool) (o : Option Action) → passes test o ≡ true → (a : Action) × (o ≡ Some a) × (test a ≡ true)
    passing test None e = absurd (false≢true e)
    passing test (Some a) e = (a, refl, e)

    only_sound : (test : Action → Bool) (es : List Event) (e : Event) → In Event e (only test es) → In Event e es × ((a : Action) × (made_at w.acts e ≡ Some a) × (test a ≡ true))
    unfolding only
    only_sound test [] e h = absurd h
    only_sound test (x ∷ es) e h =
        ⊎_elim
        (λ t. ⊎_elim
        (λ q. (inl q, subst (λ z. (a : Action) × (made_at w.acts z ≡ Some a) × (test a ≡ true)) (sym q) (passing test (made_at w.acts x) t)))
        (λ q. let it = only_sound test es e q in (inr it.0, it.1))
        (subst (In Event e) (cond-true (passes test (made_at w.acts x)) (x ∷ only test es) (only test es) t) h))
        (λ f. let it = only_sound test es e (subst (In Event e) (cond-false (passes test (made_at w.acts x)) (x ∷ only test es) (only test es) f) h) in (inr it.0, it.1))
        (cases_Bool (passes test (made_at w.acts x)))

    only_complete : (test : Action → Bool) (es : List Event) (e : Event) (a : Action) → In Event e es → made_at w.acts e ≡ Some a → test a ≡ true → In Event e (only test es)
    unfolding only
    only_complete test [] e a h is t = absurd h
    only_complete test (x ∷ es) e a (inl h) is t =
        let yes : passes test (made_at w.acts x) ≡ true = ap (λ z. passes test (made_at w.acts z)) (sym h) ∙ ap (passes test) is ∙ t in
        subst (In Event e) (sym (cond-true (passes test (made_at w.acts x)) (x ∷ only test es) (only test es) yes)) (inl h)
    only_complete test (x ∷ es) e a (inr h) is t =
        let rest = only_complete test es e a h is t in
        ⊎_elim
        (λ y. subst (In Event e) (sym (cond-true (passes test (made_at w.acts x)) (x ∷ only test es) (only test es) y)) (inr rest))
        (λ y. subst (In Event e) (sym (cond-false (passes test (made_at w.acts x)) (x ∷ only test es) (only test es) y)) rest)
        (cases_Bool (passes test (made_at w.acts x)))

    pub chosen : (Action → Bool) → List Event
    chosen test = sort Event w.global (only test all_events)

    pub chosen_sound : (test : Action → Bool) (e : Event) → In Event e (chosen test) → (a : Action) × (made_at w.acts e ≡ Some a) × (test a ≡ true)
    unfolding chosen
    chosen_sound test e h = (only_sound test all_events e (sort_sound Event w.global (only test all_events) e h)).1

    pub chosen_complete : (test : Action → Bool) (e : Event) (a : Action) → made_at w.acts e ≡ Some a → test a ≡ true → In Event e (chosen test)
    unfolding chosen
    chosen_complete test e a is t =
        sort_complete Event w.global (only test all_events) (λ x y p q s.
        let one = (only_sound test all_events x p).1 in
        let two = (only_sound test all_events y q).1 in
        fits.sound.differ x y (made_exists w.acts x one.0 one.1) (made_exists w.acts y two.0 two.1) s)
        e (only_complete test all_events e a (events_complete e a is) is t)

    pub chosen_ascending : (test : Action → Bool) → Ascending Event w.global (chosen test)
    unfolding chosen
    chosen_ascending test = sort_ascending Event w.global (only test all_events)
