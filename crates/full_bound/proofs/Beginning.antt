-- A failing execution that is cut: its threads for the lower bound, each over or still to be ended.
use Rattle.std.proofs.Common.{◌≡◌, ◌≢◌, ℕ, zero, suc, ◌<◌, ◌≤◌, ◌^◌, List, [], ◌∷◌, ◌++◌, Option, Some, None, false, length, take, refl, sym, ap, ◌∙◌, subst, inl, inr, ◌⊎◌, ⊎_elim, append-nil, length-append, arith}
use Rattle.std.specs.Prelude.{slice_get, All, Contains}
use Rattle.std.proofs.lemmas.Bool.{cases_eq, cases_lt}
use Rattle.std.proofs.lemmas.Option.{same_Some, none-some, slice_get_within}
use Rattle.std.proofs.lemmas.List.{take_at, take-append-le}
use Rattle.std.proofs.lemmas.List.Elements.{All-contains}
use Rattle.dg_base.specs.declared.Place.{Place}
use Rattle.dg_base.proofs.Lists.{get_nothing, get_append_front, contains_place}
use Rattle.axiom_model.specs.declared.MemoryModel.{MemoryModel}
use Rattle.axiom_model.specs.declared.Action.{Action}
use Rattle.axiom_model.specs.declared.Action.TheVariants.{Read, Write, Create, Join, Start, End}
use Rattle.axiom_model.specs.declared.Event.{Event}
use Rattle.axiom_model.specs.declared.Event.TheVariants.{Initial, At}
use Rattle.axiom_model.specs.WellMade.{Shape}
use Rattle.axiom_model.specs.Failing.{Run}
use Rattle.c_check.specs.declared.checked.Checked.{Checked}
use Rattle.c_check.specs.WellFormed.{IsChecked}
use Rattle.run_model.specs.Laws.{UsesOnly}
use Rattle.run_model.specs.Programs.{shape_of}
use Rattle.run_model.specs.Threads.{thread_run}
use Rattle.run_model.proofs.Handles.{run_is_numbered}
use Rattle.run_model.proofs.Scripts.{run_uses_only}
use Rattle.run_model.proofs.Creates.{numbered_at}
use Rattle.run_laws.specs.Started.{main, created}
use Rattle.run_laws.specs.Belonging.{BelongsTo}
use Rattle.run_laws.specs.Words.{IsWord, IsOfWords, HasWordConstants}
use Rattle.run_laws.proofs.Belonging.{run_belongs}
use Rattle.run_laws.proofs.Framing.{run_framed}
use Rattle.run_laws.proofs.Started.{started_handles_low}
use Rattle.run_laws.proofs.WordRuns.{started_run_words}
use Rattle.full_bound.specs.Lone.{is_opened}
use Rattle.full_bound.specs.Alone.{CanEnd, IsThread}
use Rattle.full_bound.proofs.Worlds.{World, made_at, IsSound}
use Rattle.full_bound.proofs.Standing.{IsOver, FailsAt, Parts, IsLive, Stands}
use Rattle.full_bound.proofs.Cutting.{IsKept, cut_acts, take_back, take_kept, cut_world, cut_sound}
use Rattle.full_bound.proofs.CutSteps.{all_before}
use Rattle.full_bound.proofs.CutRuns.{thread_can_end, cut_run_can_end}

-- a Create of a handle in a list of actions, or none
abbrev HasCreate : List Action → ℕ → Type 0
HasCreate l h = (i : ℕ) × (f : ℕ) × (v : ℕ) × (slice_get l i ≡ Some (Create h f v))

abbrev NoCreate : List Action → ℕ → Type 0
NoCreate l h = (i f v : ℕ) → slice_get l i ≡ Some (Create h f v) → ⊥

later_create : (a : Action) (l : List Action) (h : ℕ) → ((f v : ℕ) → a ≡ Create h f v → ⊥) → HasCreate l h ⊎ NoCreate l h → HasCreate (a ∷ l) h ⊎ NoCreate (a ∷ l) h
later_create a l h ne (inl x) = inl (suc x.0, x.1, x.2, x.3)
later_create a l h ne (inr x) = inr by where
  by : NoCreate (a ∷ l) h
  by zero f v e = ne f v (same_Some a (Create h f v) e)
  by (suc i) f v e = x i f v e

find_create : (l : List Action) (h : ℕ) → HasCreate l h ⊎ NoCreate l h
find_create [] h = inr (λ i f v e. get_nothing i (Create h f v) e)
find_create (Create k g u ∷ l) h =
    ⊎_elim (λ e. inl (0, g, u, ap (λ z. Some (Create z g u)) e)) (λ ne. later_create (Create k g u) l h (λ f v e. ne (ap (λ (a : Action). created_by a) e)) (find_create l h)) (cases_eq k h) where
      created_by : Action → ℕ
      created_by (Create k g u) = k
      created_by a = 0
find_create (a ∷ l) h = later_create a l h (λ f v e. cc) (find_create l h)

module _ (p : Checked) (checked : IsChecked p) (constants : HasWordConstants p) (m : MemoryModel) (w : World) (sound : IsSound m (shape_of p.program) w)
    (L n : ℕ → ℕ) (S F N : ℕ) where
  abbrev s : Shape
  s = shape_of p.program

  -- a thread for the lower bound, which begins what the handle's thread did
  pub record Threaded (h : ℕ) : Type 0 where
    pub function : ℕ
    pub arg : ℕ
    pub script : List ℕ
    pub words : All IsWord script
    pub run : Run
    pub runs : thread_run p function h arg script ≡ Some run
    pub not_bad : run.bad ≡ false
    pub rest : List Action
    pub whole : w.acts h ≡ run.actions ++ rest
    pub size : L h ≡ length run.actions
    pub told : (L h < length (w.acts h)) ⊎ (h ≡ F) → (place : Place) × (run.failed ≡ Some place)
    pub made : h ≢ 0 → (e : Event) × (made_at w.acts e ≡ Some (Create h function arg))
    pub main : h ≡ 0 → (function ≡ s.main) × (arg ≡ 0)

  module _ (info : (h : ℕ) → Threaded h ⊎ (w.acts h ≡ [])) (fits : (h : ℕ) → n h ≤ L h) (self : n S ≡ L S)
      (reads : (r : Event) (c v : ℕ) → made_at (cut_acts w.acts n) r ≡ Some (Read c v) → IsKept n (w.source r))
      (creates : (h i k j f v : ℕ) → i < n h → slice_get (w.acts h) i ≡ Some Start → slice_get (w.acts k) j ≡ Some (Create h f v) → j < n k)
      (joins : (h i k j : ℕ) → j < n k → slice_get (w.acts k) j ≡ Some (Join h) → slice_get (w.acts h) i ≡ Some End → i < n h)
      (shut : (h : ℕ) → (h ≡ S → ⊥) → n h < length (w.acts h) → is_opened false (take (n h) (w.acts h)) ≡ false)
      (none_empty : (h : ℕ) → w.acts h ≡ [] → n h ≡ 0)
      (low : (h : ℕ) → 0 < length (w.acts h) → h < N)
      (has_main : Threaded 0) (main_known : s.main < s.functions) (fails : Threaded S) (told_fails : (L S < length (w.acts S)) ⊎ (S ≡ F))
      (waits : (e : Event) (h : ℕ) → made_at w.acts e ≡ Some (Join h) → (h ≢ 0) × ((i : ℕ) × (slice_get (w.acts h) i ≡ Some End))) where
    abbrev acts : ℕ → List Action
    acts = cut_acts w.acts n

    -- who a handle's thread is
    data Kind (h : ℕ) : Type 0 where
      begun : Threaded h → (0 < n h) ⊎ (h ≡ 0) → Kind h
      fresh : h ≢ 0 → n h ≡ 0 → (e : Event) (f v : ℕ) → made_at acts e ≡ Some (Create h f v) → Kind h
      absent : h ≢ 0 → n h ≡ 0 → ((e : Event) (f v : ℕ) → made_at acts e ≡ Some (Create h f v) → ⊥) → Kind h

    search_in : (k h : ℕ) → ((e : Event) × (f : ℕ) × (v : ℕ) × (made_at acts e ≡ Some (Create h f v))) ⊎ ((j : ℕ) → j < k → NoCreate (acts j) h)
    search_in zero h = inr (λ j l. absurd (omega (arith, l)))
    search_in (suc k) h =
        ⊎_elim (λ x. inl (At k x.0, x.1, x.2, x.3))
        (λ no_one. ⊎_elim (λ x. inl x)
        (λ others. inr (λ j l. ⊎_elim (λ e. subst (λ z. NoCreate (acts z) h) (sym e) no_one) (λ ne. others j (⊎_elim (λ lt. lt) (λ ge. absurd (ne (omega (arith, ge, l)))) (cases_lt j k))) (cases_eq j k))) (search_in k h))
        (find_create (acts k) h)

    some_low : (k j : ℕ) (a : Action) → slice_get (acts k) j ≡ Some a → k < N
    some_low k j a e = let it = take_back (n k) (w.acts k) j a e in let l = slice_get_within (w.acts k) j a it.0 in low k (omega (arith, l))

    kind_by : (h : ℕ) → h ≢ 0 → (0 < n h) ⊎ (n h ≤ 0) → Threaded h ⊎ (w.acts h ≡ []) → Kind h
    kind_by h ne (inl more) (inl t) = begun t (inl more)
    kind_by h ne (inl more) (inr e) = absurd (let z = none_empty h e in omega (arith, more, z))
    kind_by h ne (inr none) t =
        ⊎_elim (λ x. fresh ne (omega (arith, none)) x.0 x.1 x.2 x.3) (λ x. absent ne (omega (arith, none)) (λ e f v y. no_event x e f v y)) (search_in N h) where
          no_event : ((j : ℕ) → j < N → NoCreate (acts j) h) → (e : Event) (f v : ℕ) → made_at acts e ≡ Some (Create h f v) → ⊥
          no_event x Initial f v y = none-some (Create h f v) y
          no_event x (At k j) f v y = x k (some_low k j (Create h f v) y) j f v y

    kind : (h : ℕ) → Kind h
    kind h = ⊎_elim (λ e. subst Kind (sym e) (begun has_main (inr refl))) (λ ne. kind_by h ne (cases_lt 0 (n h)) (info h)) (cases_eq h 0)

    who_in : (h : ℕ) → Kind h → Option (ℕ × ℕ)
    who_in h (begun t x) = Some (t.function, t.arg)
    who_in h (fresh ne z e f v is) = Some (f, v)
    who_in h (absent ne z x) = None

    pub who : Parts
    who h = who_in h (kind h)

    -- a thread that has begun, or one that is only created
    abbrev Known : ℕ → ℕ × ℕ → Type 0
    Known h x = ((t : Threaded h) × ((t.function, t.arg) ≡ x) × ((0 < n h) ⊎ (h ≡ 0))) ⊎ ((n h ≡ 0) × (h ≢ 0) × ((e : Event) × (made_at acts e ≡ Some (Create h x.0 x.1))))

    known_in : (h : ℕ) (k : Kind h) (x : ℕ × ℕ) → who_in h k ≡ Some x → Known h x
    unfolding who_in
    known_in h (begun t y) x e = inl (t, same_Some (t.function, t.arg) x e, y)
    known_in h (fresh ne z ev f v is) x e = inr (z, ne, (ev, subst (λ (q : ℕ × ℕ). made_at acts ev ≡ Some (Create h q.0 q.1)) (same_Some (f, v) x e) is))
    known_in h (absent ne z y) x e = absurd (none-some x e)

    known_of : (h : ℕ) (x : ℕ × ℕ) → who h ≡ Some x → Known h x
    unfolding who
    known_of h x e = known_in h (kind h) x e

    begun_in : (h : ℕ) (k : Kind h) → 0 < n h → (t : Threaded h) × (who_in h k ≡ Some (t.function, t.arg))
    unfolding who_in
    begun_in h (begun t y) l = (t, refl)
    begun_in h (fresh ne z ev f v is) l = absurd (omega (arith, z, l))
    begun_in h (absent ne z y) l = absurd (omega (arith, z, l))

    -- a thread of which something is kept is known
    begun_of : (h : ℕ) → 0 < n h → (t : Threaded h) × (who h ≡ Some (t.function, t.arg))
    unfolding who
    begun_of h l = begun_in h (kind h) l

    created_in : (h : ℕ) (k : Kind h) (e : Event) (f v : ℕ) → made_at acts e ≡ Some (Create h f v) → (x : ℕ × ℕ) × (who_in h k ≡ Some x)
    unfolding who_in
    created_in h (begun t y) e f v is = ((t.function, t.arg), refl)
    created_in h (fresh ne z ev g u y) e f v is = ((g, u), refl)
    created_in h (absent ne z y) e f v is = absurd (y e f v is)

    -- the first action of a thread
    starts : (h : ℕ) (t : Threaded h) → slice_get (w.acts h) 0 ≡ Some Start
    starts h t =
        let fr = run_framed p t.function h t.arg t.script t.run t.runs in
        ap (λ (l : List Action). slice_get l 0) (t.whole ∙ ap (λ l. l ++ t.rest) fr.whole)

    made_of : (h : ℕ) (x : ℕ × ℕ) → who h ≡ Some x → h ≢ 0 → (e : Event) × (made_at acts e ≡ Some (Create h x.0 x.1))
    made_of h x e ne =
        ⊎_elim
        (λ y.
        let more : 0 < n h = ⊎_elim (λ l. l) (λ z. absurd (ne z)) y.2 in
        let c = y.0.made ne in
        (c.0, kept_create h x more y.0 c.0 (subst (λ (q : ℕ × ℕ). made_at w.acts c.0 ≡ Some (Create h q.0 q.1)) y.1 c.1)))
        (λ y. y.2)
        (known_of h x e) where
          kept_create : (h : ℕ) (x : ℕ × ℕ) → 0 < n h → (t : Threaded h) → (e : Event) → made_at w.acts e ≡ Some (Create h x.0 x.1) → made_at acts e ≡ Some (Create h x.0 x.1)
          kept_create h x more t Initial y = absurd (none-some (Create h x.0 x.1) y)
          kept_create h x more t (At k j) y = take_kept (n k) (w.acts k) j (Create h x.0 x.1) (creates h 0 k j x.0 x.1 more (starts h t) y) y

    thread_has : (h : ℕ) (t : Threaded h) (j : ℕ) (a : Action) → slice_get (acts h) j ≡ Some a → slice_get t.run.actions j ≡ Some a
    thread_has h t j a e =
        let it = take_back (n h) (w.acts h) j a e in
        let small : j < length t.run.actions = omega (arith, it.1, fits h, t.size) in
        sym (get_append_front t.run.actions t.rest j small) ∙ ap (λ (l : List Action). slice_get l j) (sym t.whole) ∙ it.0

    -- ---- threads are started

    abbrev IsOne : ℕ → ℕ × ℕ → Type 0
    IsOne h x = (d : ℕ) × IsThread p d x.0 h x.1

    main_one : (h : ℕ) (x : ℕ × ℕ) → h ≡ 0 → Known h x → IsOne h x
    main_one h x z (inr y) = absurd (y.1 z)
    main_one h x z (inl y) =
        let parts = y.0.main z in
        let same : (s.main, 0) ≡ x = ap (λ (q : ℕ). (q, 0)) (sym parts.0) ∙ ap (λ (q : ℕ). (y.0.function, q)) (sym parts.1) ∙ y.1 in
        subst (IsOne h) same (0, record { known = main_known; started = main; low = first z; word = omega arith }) where
          first : h ≡ 0 → h < 64 ^ 0
          first z = let one : h < 1 = omega (arith, z) in one

    below : (b h : ℕ) (x : ℕ × ℕ) → h < b → who h ≡ Some x → IsOne h x
    below zero h x l e = absurd (omega (arith, l))
    below (suc b) h x l e =
        ⊎_elim (λ z. main_one h x z (known_of h x e))
        (λ ne. let c = made_of h x e ne in by_create h x l c.0 c.1 (λ k y small is. below b k y small is))
        (cases_eq h 0) where
          by_create : (h : ℕ) (x : ℕ × ℕ) → h < suc b → (e : Event) → made_at acts e ≡ Some (Create h x.0 x.1) → ((k : ℕ) (y : ℕ × ℕ) → k < b → who k ≡ Some y → IsOne k y) → IsOne h x
          by_create h x l Initial y more = absurd (none-some (Create h x.0 x.1) y)
          by_create h x l (At k j) y more =
              let kept : j < n k = (take_back (n k) (w.acts k) j (Create h x.0 x.1) y).1 in
              let b' = begun_of k (omega (arith, kept)) in
              let t = b'.0 in
              let there = thread_has k t j (Create h x.0 x.1) y in
              let is = numbered_at h x.0 x.1 k 0 t.run.actions j (run_is_numbered p t.function k t.arg t.script t.run t.runs) there in
              let up = more k (t.function, t.arg) (omega (arith, is, l)) b'.1 in
              let it = up.1 in
              let made : Contains t.run.actions (Create h x.0 x.1) = contains_place t.run.actions j (Create h x.0 x.1) there in (
                suc up.0,
                record {
                  known = All-contains (BelongsTo s) t.run.actions (Create h x.0 x.1) (run_belongs p t.function k t.arg t.script t.run t.runs) made;
                  started = created up.0 t.function x.0 k t.arg h x.1 t.script t.run it.started t.runs made;
                  low = (started_handles_low p checked up.0 t.function k t.arg t.script t.run it.started it.low t.runs h x.0 x.1 made).0;
                  word = let z : IsOfWords (Create h x.0 x.1) = All-contains IsOfWords t.run.actions (Create h x.0 x.1) (started_run_words p checked constants up.0 t.function k t.arg t.script it.started it.low it.word t.words t.run t.runs) made in z.1;
                },
              )

    one_of : (h : ℕ) (x : ℕ × ℕ) → who h ≡ Some x → IsOne h x
    one_of h x e = below (suc h) h x (omega arith) e

    -- ---- what they can do

    over_at : (h : ℕ) (t : Threaded h) → n h ≡ L h → IsOver p t.function h t.arg (acts h)
    over_at h t all =
        let u : UsesOnly (thread_run p t.function h t.arg) t.script t.run = run_uses_only p t.function h t.arg t.script t.run t.runs in
        record {
          ran = record {
            script = u.taken;
            words = (all_before u.taken u.rest (subst (All IsWord) u.first t.words)).0;
            run = t.run;
            runs = ap (thread_run p t.function h t.arg) (sym (append-nil u.taken)) ∙ u.same [];
            all_used = u.count;
            not_bad = t.not_bad;
          };
          actions = sym (ap (take (n h)) t.whole ∙ take_at t.run.actions t.rest (n h) (omega (arith, all, t.size)));
        }

    live_of : (h : ℕ) (x : ℕ × ℕ) (d : ℕ) → IsThread p d x.0 h x.1 → Known h x → IsLive p x.0 h x.1 (acts h)
    live_of h x d it (inr y) =
        let none : acts h ≡ [] = ap (λ k. take k (w.acts h)) y.0 in
        inr (ap (is_opened false) none, subst (CanEnd p x.0 h x.1) (sym none) (thread_can_end p x.0 h x.1 d checked constants it))
    live_of h x d it (inl y) =
        subst (λ (q : ℕ × ℕ). IsLive p q.0 h q.1 (acts h)) y.1
        (⊎_elim
        (λ less.
        let t = y.0 in
        let short : n h < length t.run.actions = omega (arith, less, t.size) in
        let long : n h < length (w.acts h) = omega (arith, short, ap length t.whole, length-append t.run.actions t.rest) in
        let other : h ≡ S → ⊥ = λ z. let one : n h ≡ L h = subst (λ q. n q ≡ L q) (sym z) self in omega (arith, one, less) in
        let closed = shut h other long in
        let same : acts h ≡ take (n h) t.run.actions = ap (take (n h)) t.whole ∙ take-append-le (n h) t.run.actions t.rest (omega (arith, short)) in
        let thread : IsThread p d t.function h t.arg = subst (λ (q : ℕ × ℕ). IsThread p d q.0 h q.1) (sym y.1) it in
        inr (closed, subst (CanEnd p t.function h t.arg) (sym same) (cut_run_can_end p t.function h t.arg d checked constants thread t.script t.run t.words t.runs (n h) short (sym (ap (is_opened false) same) ∙ closed))))
        (λ all. inl (over_at h y.0 (omega (arith, all, fits h))))
        (cases_lt (n h) (L h)))

    -- what is written is a word
    pub write_word : (k j c v : ℕ) → slice_get (acts k) j ≡ Some (Write c v) → IsWord v
    write_word k j c v y =
        let kept : j < n k = (take_back (n k) (w.acts k) j (Write c v) y).1 in
        let b = begun_of k (omega (arith, kept)) in
        let t = b.0 in
        let up = one_of k (t.function, t.arg) b.1 in
        let z : IsOfWords (Write c v) = All-contains IsOfWords t.run.actions (Write c v) (started_run_words p checked constants up.0 t.function k t.arg t.script up.1.started up.1.low up.1.word t.words t.run t.runs)
        (contains_place t.run.actions j (Write c v) (thread_has k t j (Write c v) y)) in z

    main_in : (k : Kind 0) → who_in 0 k ≡ Some (s.main, 0)
    unfolding who_in
    main_in (begun t y) = let parts = t.main refl in ap (λ (q : ℕ). Some (q, t.arg)) parts.0 ∙ ap (λ (q : ℕ). Some (s.main, q)) parts.1
    main_in (fresh ne z ev f v is) = absurd (ne refl)
    main_in (absent ne z y) = absurd (ne refl)

    none_in : (h : ℕ) (k : Kind h) → who_in h k ≡ None → acts h ≡ []
    unfolding who_in
    none_in h (begun t y) e = absurd (none-some (t.function, t.arg) (sym e))
    none_in h (fresh ne z ev f v is) e = absurd (none-some (f, v) (sym e))
    none_in h (absent ne z y) e = ap (λ k. take k (w.acts h)) z

    failing : FailsAt p (cut_world m s w sound n reads) who
    unfolding over_at begun_of
    failing =
        let fr = run_framed p fails.function S fails.arg fails.script fails.run fails.runs in
        let some : 0 < n S = omega (arith, self, fails.size, ap length fr.whole) in
        let t = begun_of S some in
        let f = t.0.told told_fails in
        record { handle = S; function = t.0.function; arg = t.0.arg; is = t.1; over = over_at S t.0 self; place = f.0; failed = f.1 }

    pub stands : Stands p m (cut_world m s w sound n reads) who 0
    unfolding who
    stands = record {
      fits = record {
        sound = cut_sound m s w sound n reads;
        fails = failing;
        main = main_in (kind 0);
        none = λ h e. none_in h (kind h) e;
        made = λ h f v e ne. made_of h (f, v) e ne;
        known = λ e h f v y. created_in h (kind h) e f v y;
        joined = joined_in;
      };
      threads = λ h f v e. let it = one_of h (f, v) e in (it.0, it.1, live_of h (f, v) it.0 it.1 (known_of h (f, v) e));
      over = λ h f v l e. absurd (omega (arith, l));
    } where
      joined_in : (e : Event) (h : ℕ) → made_at acts e ≡ Some (Join h) → (h ≢ 0) × ((i : ℕ) × (made_at acts (At h i) ≡ Some End))
      joined_in Initial h y = absurd (none-some (Join h) y)
      joined_in (At k j) h y =
          let it = take_back (n k) (w.acts k) j (Join h) y in
          let x = waits (At k j) h it.0 in
          (x.0, (x.1.0, take_kept (n h) (w.acts h) x.1.0 End (joins h x.1.0 k j it.1 it.0 x.1.1) x.1.1))
