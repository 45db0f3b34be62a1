-- Over all events: a number above their ranks, and the last write of each cell.
use Rattle.std.proofs.Common.{◌≡◌, ℕ, zero, suc, ◌+◌, ◌<◌, ◌≤◌, List, Option, Some, None, length, refl, sym, ap, ◌∙◌, subst, inl, inr, ◌⊎◌, ⊎_elim, arith}
use Rattle.std.specs.Prelude.{slice_get}
use Rattle.std.proofs.lemmas.Bool.{cases_eq, cases_lt}
use Rattle.std.proofs.lemmas.Option.{same_Some, none-some}
use Rattle.dg_base.proofs.Lists.{get_there}
use Rattle.axiom_model.specs.declared.Action.{Action}
use Rattle.axiom_model.specs.declared.Action.TheVariants as action
use Rattle.axiom_model.specs.declared.Event.{Event}
use Rattle.axiom_model.specs.declared.Event.TheVariants.{Initial, At}
use Rattle.axiom_model.specs.WellMade.{Shape}
use Rattle.run_laws.specs.Words.{IsWord}
use Rattle.full_bound.proofs.Worlds.{World, Exists, WritesTo}
use Rattle.full_bound.proofs.Standing.{IsMemory}
use Rattle.full_bound.proofs.Appending.{write_exists}

module _ (acts : ℕ → List Action) (P : (Event → Type 0) → Type 0) (none : P (λ e. e ≡ Initial)) (more : (V : Event → Type 0) (f : Event) → P V → P (λ e. V e ⊎ (e ≡ f))) where
  own : (Event → Type 0) → ℕ → ℕ → Event → Type 0
  own V h zero = V
  own V h (suc n) = λ e. own V h n e ⊎ (e ≡ At h n)

  pub visited : ℕ → Event → Type 0
  visited zero = λ e. e ≡ Initial
  visited (suc k) = own (visited k) k (length (acts k))

  own_holds : (V : Event → Type 0) (h n : ℕ) → P V → P (own V h n)
  unfolding own
  own_holds V h zero x = x
  own_holds V h (suc n) x = more (own V h n) (At h n) (own_holds V h n x)

  pub all_hold : (k : ℕ) → P (visited k)
  unfolding visited
  all_hold zero = none
  all_hold (suc k) = own_holds (visited k) k (length (acts k)) (all_hold k)

  own_old : (V : Event → Type 0) (h n : ℕ) (e : Event) → V e → own V h n e
  unfolding own
  own_old V h zero e x = x
  own_old V h (suc n) e x = inl (own_old V h n e x)

  own_has : (V : Event → Type 0) (h n i : ℕ) → i < n → own V h n (At h i)
  unfolding own
  own_has V h zero i l = absurd (omega (arith, l))
  own_has V h (suc n) i l = ⊎_elim (λ e. inr (ap (λ z. At h z) e)) (λ ne. inl (own_has V h n i (⊎_elim (λ lt. lt) (λ ge. absurd (ne (omega (arith, ge, l)))) (cases_lt i n)))) (cases_eq i n)

  initial_in : (k : ℕ) → visited k Initial
  unfolding visited
  initial_in zero = refl
  initial_in (suc k) = own_old (visited k) k (length (acts k)) Initial (initial_in k)

  action_in : (k h i : ℕ) → h < k → i < length (acts h) → visited k (At h i)
  unfolding visited
  action_in zero h i l x = absurd (omega (arith, l))
  action_in (suc k) h i l x =
      ⊎_elim (λ e. subst (λ z. own (visited k) k (length (acts k)) (At z i)) (sym e) (own_has (visited k) k (length (acts k)) i (subst (λ z. i < length (acts z)) e x)))
      (λ ne. own_old (visited k) k (length (acts k)) (At h i) (action_in k h i (⊎_elim (λ lt. lt) (λ ge. absurd (ne (omega (arith, ge, l)))) (cases_lt h k)) x)) (cases_eq h k)

  pub all_visited : (N : ℕ) → ((h : ℕ) → 0 < length (acts h) → h < N) → (e : Event) → Exists acts e → visited N e
  all_visited N low Initial x = initial_in N
  all_visited N low (At h i) x = action_in N h i (low h (omega (arith, x))) x

module _ (w : World) (N : ℕ) (low : (h : ℕ) → 0 < length (w.acts h) → h < N) where
  record Top (V : Event → Type 0) : Type 0 where
    pub top : ℕ
    pub below : (e : Event) → V e → (w.local e < top) × (w.global e < top) × (w.block e < top)

  abbrev over : ℕ → Event → ℕ
  over t f = suc (t + (w.local f + (w.global f + w.block f)))

  more_top : (V : Event → Type 0) (f : Event) → Top V → Top (λ e. V e ⊎ (e ≡ f))
  more_top V f t = record {
    top = over t.top f;
    below = λ e x. ⊎_elim (λ y. let b = t.below e y in (omega (arith, b.0), omega (arith, b.1), omega (arith, b.2)))
        (λ y. (omega (arith, ap w.local y), omega (arith, ap w.global y), omega (arith, ap w.block y))) x;
  }

  first_top : Top (λ e. e ≡ Initial)
  first_top = record { top = over 0 Initial; below = λ e y. (omega (arith, ap w.local y), omega (arith, ap w.global y), omega (arith, ap w.block y)) }

  pub top_of : (top : ℕ) × ((e : Event) → Exists w.acts e → (w.local e < top) × (w.global e < top) × (w.block e < top))
  top_of =
      let t = all_hold w.acts Top first_top more_top N in
      (t.top, λ e x. t.below e (all_visited w.acts Top first_top more_top N low e x))

  module _ (s : Shape) (words : (e : Event) (c v : ℕ) → WritesTo s w.acts e c v → IsWord v) where
    module _ (c : ℕ) (cell : c < length s.initials) where
      record Best (V : Event → Type 0) : Type 0 where
        pub event : Event
        pub value : ℕ
        pub writes : WritesTo s w.acts event c value
        pub latest : (e : Event) (u : ℕ) → V e → WritesTo s w.acts e c u → w.global e ≤ w.global event

      first_best : Best (λ e. e ≡ Initial)
      first_best =
          let it = get_there s.initials c cell in
          record { event = Initial; value = it.0; writes = it.1; latest = λ e u x y. let same = ap w.global x in omega (arith, same) }

      -- what the event writes to the cell
      wrote : (f : Event) → ((v : ℕ) × WritesTo s w.acts f c v) ⊎ ((v : ℕ) → WritesTo s w.acts f c v → ⊥)
      wrote Initial = let it = get_there s.initials c cell in inl it
      wrote (At h i) = by (slice_get (w.acts h) i) refl where
        same_cell : (d v u : ℕ) → action.Write d v ≡ action.Write c u → d ≡ c
        same_cell d v u e = ap cell_of e where
          cell_of : Action → ℕ
          cell_of (action.Write z y) = z
          cell_of a = 0

        no_write : (a : Action) → ((v : ℕ) → a ≡ action.Write c v → ⊥) → slice_get (w.acts h) i ≡ Some a → (v : ℕ) → slice_get (w.acts h) i ≡ Some (action.Write c v) → ⊥
        no_write a never is v y = never v (same_Some a (action.Write c v) (sym is ∙ y))

        by_action : (a : Action) → slice_get (w.acts h) i ≡ Some a → ((v : ℕ) × WritesTo s w.acts (At h i) c v) ⊎ ((v : ℕ) → WritesTo s w.acts (At h i) c v → ⊥)
        by_action (action.Write d v) is =
            ⊎_elim (λ e. inl (v, is ∙ ap (λ z. Some (action.Write z v)) e)) (λ ne. inr (no_write (action.Write d v) (λ u y. ne (same_cell d v u y)) is)) (cases_eq d c)
        by_action a is = inr (no_write a (λ u y. cc) is)

        by : (o : Option Action) → slice_get (w.acts h) i ≡ o → ((v : ℕ) × WritesTo s w.acts (At h i) c v) ⊎ ((v : ℕ) → WritesTo s w.acts (At h i) c v → ⊥)
        by None is = inr (λ v y. none-some (action.Write c v) (sym is ∙ y))
        by (Some a) is = by_action a is

      more_best : (V : Event → Type 0) (f : Event) → Best V → Best (λ e. V e ⊎ (e ≡ f))
      more_best V f b =
          ⊎_elim
          (λ x. ⊎_elim
          (λ lt. record { event = f; value = x.0; writes = x.1; latest = λ e u y z. ⊎_elim (λ old. let o = b.latest e u old z in omega (arith, o, lt)) (λ same. let q = ap w.global same in omega (arith, q)) y })
          (λ ge. record { event = b.event; value = b.value; writes = b.writes; latest = λ e u y z. ⊎_elim (λ old. b.latest e u old z) (λ same. let q = ap w.global same in omega (arith, q, ge)) y })
          (cases_lt (w.global b.event) (w.global f)))
          (λ x. record { event = b.event; value = b.value; writes = b.writes; latest = λ e u y z. ⊎_elim (λ old. b.latest e u old z) (λ same. absurd (x u (subst (λ q. WritesTo s w.acts q c u) same z))) y })
          (wrote f)

      pub best : (e : Event) × (v : ℕ) × WritesTo s w.acts e c v × ((f : Event) (u : ℕ) → WritesTo s w.acts f c u → w.global f ≤ w.global e)
      best =
          let b = all_hold w.acts Best first_best more_best N in
          (b.event, b.value, b.writes, λ f u y. b.latest f u (all_visited w.acts Best first_best more_best N low f (write_exists s w.acts f c u y)) y)

    abbrev Cells : ℕ → Type 0
    Cells c = (c < length s.initials) ⊎ (length s.initials ≤ c)

    last_in : (c : ℕ) → Cells c → Event
    last_in c (inl l) = (best c l).0
    last_in c (inr g) = Initial

    mem_in : (c : ℕ) → Cells c → ℕ
    mem_in c (inl l) = (best c l).1
    mem_in c (inr g) = 0

    pub last_of : ℕ → Event
    last_of c = last_in c (cases_lt c (length s.initials))

    pub mem_of : ℕ → ℕ
    mem_of c = mem_in c (cases_lt c (length s.initials))

    in_writes : (c : ℕ) (x : Cells c) → c < length s.initials → WritesTo s w.acts (last_in c x) c (mem_in c x)
    unfolding last_in mem_in
    in_writes c (inl l) y = (best c l).2
    in_writes c (inr g) y = absurd (omega (arith, g, y))

    in_latest : (c : ℕ) (x : Cells c) → c < length s.initials → (e : Event) (u : ℕ) → WritesTo s w.acts e c u → w.global e ≤ w.global (last_in c x)
    unfolding last_in
    in_latest c (inl l) y e u z = (best c l).3 e u z
    in_latest c (inr g) y e u z = absurd (omega (arith, g, y))

    in_words : (c : ℕ) (x : Cells c) → IsWord (mem_in c x)
    unfolding mem_in
    in_words c (inl l) = words (best c l).0 c (best c l).1 (best c l).2
    in_words c (inr g) = omega arith

    pub memory_of : IsMemory s w last_of mem_of
    unfolding last_of mem_of
    memory_of = record {
      writes = λ c l. in_writes c (cases_lt c (length s.initials)) l;
      latest = λ c l e u z. in_latest c (cases_lt c (length s.initials)) l e u z;
      words = λ c. in_words c (cases_lt c (length s.initials));
    }
