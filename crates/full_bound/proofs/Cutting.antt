-- Executions that are cut.
use Rattle.std.proofs.Common.{◌≡◌, ℕ, zero, suc, ◌<◌, ◌≤◌, List, [], ◌∷◌, Option, Some, None, Bool, true, false, length, take, refl, sym, ap, ◌∙◌, subst, inl, inr, ⊎_elim, arith}
use Rattle.std.specs.Prelude.{slice_get}
use Rattle.std.proofs.lemmas.Bool.{false≢true, cases_lt, cases_eq, cases_Bool}
use Rattle.std.proofs.lemmas.Option.{none-some, slice_get_within}
use Rattle.dg_base.proofs.Lists.{get_nothing, get_there}
use Rattle.axiom_model.specs.declared.MemoryModel.{MemoryModel}
use Rattle.axiom_model.specs.declared.MemoryModel.TheVariants.{Sc, Tso, Pso}
use Rattle.axiom_model.specs.declared.Action.{Action}
use Rattle.axiom_model.specs.declared.Action.TheVariants.{Read, Write, Open, Close, Create, Join, Start, End}
use Rattle.axiom_model.specs.declared.Event.{Event}
use Rattle.axiom_model.specs.declared.Event.TheVariants.{Initial, At}
use Rattle.axiom_model.specs.Execution.{SameThread, InSection}
use Rattle.axiom_model.specs.Models.{keeps}
use Rattle.axiom_model.specs.WellMade.{Shape}
use Rattle.full_bound.specs.Lone.{is_opened}
use Rattle.full_bound.proofs.Worlds.{World, Exists, made_at, WritesTo, InBlock, Related, IsGlobal, IsSeen, Edge, IsSound}
use Rattle.full_bound.proofs.Worlds as worlds
use Rattle.full_bound.proofs.Appending.{made_exists, write_exists}
use Rattle.full_bound.proofs.Marks.{opened_has, HasOpen}

-- the event is kept where each thread keeps so many actions
abbrev pub IsKept : (ℕ → ℕ) → Event → Type 0
IsKept n Initial = Unit {0}
IsKept n (At h i) = i < n h

abbrev pub cut_acts : (ℕ → List Action) → (ℕ → ℕ) → ℕ → List Action
cut_acts acts n h = take (n h) (acts h)

pub take_back : (k : ℕ) (l : List Action) (i : ℕ) (a : Action) → slice_get (take k l) i ≡ Some a → (slice_get l i ≡ Some a) × (i < k)
take_back zero l i a e = absurd (get_nothing i a e)
take_back (suc k) [] i a e = absurd (get_nothing i a e)
take_back (suc k) (x ∷ l) zero a e = (e, omega arith)
take_back (suc k) (x ∷ l) (suc i) a e = let it = take_back k l i a e in (it.0, omega (arith, it.1))

pub take_kept : (k : ℕ) (l : List Action) (i : ℕ) (a : Action) → i < k → slice_get l i ≡ Some a → slice_get (take k l) i ≡ Some a
take_kept zero l i a low e = absurd (omega (arith, low))
take_kept (suc k) [] i a low e = absurd (get_nothing i a e)
take_kept (suc k) (x ∷ l) zero a low e = e
take_kept (suc k) (x ∷ l) (suc i) a low e = take_kept k l i a (omega (arith, low)) e

module _ (acts : ℕ → List Action) (n : ℕ → ℕ) where
  pub cut_back : (e : Event) (a : Action) → made_at (cut_acts acts n) e ≡ Some a → (made_at acts e ≡ Some a) × IsKept n e
  cut_back Initial a h = absurd (none-some a h)
  cut_back (At k i) a h = take_back (n k) (acts k) i a h

  pub cut_kept : (e : Event) (a : Action) → IsKept n e → made_at acts e ≡ Some a → made_at (cut_acts acts n) e ≡ Some a
  cut_kept Initial a k h = h
  cut_kept (At k i) a low h = take_kept (n k) (acts k) i a low h

  pub write_back : (s : Shape) (e : Event) (c v : ℕ) → WritesTo s (cut_acts acts n) e c v → WritesTo s acts e c v
  write_back s Initial c v h = h
  write_back s (At k i) c v h = (take_back (n k) (acts k) i (Write c v) h).0

  pub write_stays : (s : Shape) (e : Event) (c v : ℕ) → IsKept n e → WritesTo s acts e c v → WritesTo s (cut_acts acts n) e c v
  write_stays s Initial c v k h = h
  write_stays s (At k i) c v low h = take_kept (n k) (acts k) i (Write c v) low h

  exists_back : (e : Event) → Exists (cut_acts acts n) e → Exists acts e
  exists_back Initial x = tt
  exists_back (At k i) x = let it = get_there (take (n k) (acts k)) i x in slice_get_within (acts k) i it.0 (take_back (n k) (acts k) i it.0 it.1).0

  section_back : (k o i : ℕ) → InSection (take (n k) (acts k)) o i → InSection (acts k) o i
  section_back k o i x =
      let it = get_there (take (n k) (acts k)) i x.there in
      let inside = take_back (n k) (acts k) i it.0 it.1 in
      record {
        opens = (take_back (n k) (acts k) o Open x.opens).0;
        from = x.from;
        there = slice_get_within (acts k) i it.0 inside.0;
        unclosed = λ j p q y. x.unclosed j p q (take_kept (n k) (acts k) j Close (omega (arith, q, inside.1)) y);
      }

  section_stays : (k o i : ℕ) → i < length (take (n k) (acts k)) → InSection (acts k) o i → InSection (take (n k) (acts k)) o i
  section_stays k o i low x =
      let it = get_there (take (n k) (acts k)) i low in
      let inside = take_back (n k) (acts k) i it.0 it.1 in
      record {
        opens = take_kept (n k) (acts k) o Open (omega (arith, x.from, inside.1)) x.opens;
        from = x.from;
        there = low;
        unclosed = λ j p q y. x.unclosed j p q (take_back (n k) (acts k) j Close y).0;
      }

  block_back : (a b : Event) → InBlock (cut_acts acts n) a b → InBlock acts a b
  block_back Initial Initial h = tt
  block_back Initial (At k j) h = absurd h
  block_back (At k i) Initial h = absurd h
  block_back (At k i) (At l j) h = (h.0, ⊎_elim inl (λ z. inr (z.0, section_back l z.0 i z.1, section_back l z.0 j z.2)) h.1)

  block_stays : (a b : Event) → Exists (cut_acts acts n) a → Exists (cut_acts acts n) b → InBlock acts a b → InBlock (cut_acts acts n) a b
  block_stays Initial Initial x y h = tt
  block_stays Initial (At k j) x y h = absurd h
  block_stays (At k i) Initial x y h = absurd h
  block_stays (At k i) (At l j) x y h =
      let here : i < length (take (n l) (acts l)) = subst (λ z. i < length (take (n z) (acts z))) h.0 x in
      (h.0, ⊎_elim inl (λ z. inr (z.0, section_stays l z.0 i here z.1, section_stays l z.0 j y z.2)) h.1)

module _ (m : MemoryModel) (s : Shape) (w : World) (sound : IsSound m s w) (n : ℕ → ℕ) (closed : (r : Event) (c v : ℕ) → made_at (cut_acts w.acts n) r ≡ Some (Read c v) → IsKept n (w.source r)) where
  abbrev pub cut_world : World
  cut_world = record { acts = cut_acts w.acts n; source = w.source; local = w.local; global = w.global; block = w.block }

  abbrev cut : ℕ → List Action
  cut = cut_acts w.acts n

  edge_back : (k : Option MemoryModel) (a b : Event) → Edge k s cut w.source w.global a b → Edge k s w.acts w.source w.global a b
  edge_back k a b (worlds.Edge.in_thread p q z e f r) = worlds.Edge.in_thread p q z (cut_back w.acts n a p e).0 (cut_back w.acts n b q f).0 r
  edge_back k a b (worlds.Edge.in_section p q g z e f r) = worlds.Edge.in_section p q g z (cut_back w.acts n a p e).0 (cut_back w.acts n b q f).0 (block_back w.acts n a b r)
  edge_back k a b (worlds.Edge.creates h i f v g z e y) = worlds.Edge.creates h i f v g z (cut_back w.acts n a (Create h f v) e).0 (cut_back w.acts n b Start y).0
  edge_back k a b (worlds.Edge.joins h i g z e y) = worlds.Edge.joins h i g z (cut_back w.acts n a End e).0 (cut_back w.acts n b (Join h) y).0
  edge_back k a b (worlds.Edge.initial q g z e) = worlds.Edge.initial q g z (cut_back w.acts n b q e).0
  edge_back k a b (worlds.Edge.reads c v z e y) = worlds.Edge.reads c v z (cut_back w.acts n b (Read c v) e).0 y
  edge_back k a b (worlds.Edge.writes c u v p q l) = worlds.Edge.writes c u v (write_back w.acts n s a c u p) (write_back w.acts n s b c v q) l
  edge_back k a b (worlds.Edge.overtakes c u v p q l) = worlds.Edge.overtakes c u v (cut_back w.acts n a (Read c u) p).0 (write_back w.acts n s b c v q) l

  edge_first : (k : Option MemoryModel) (a b : Event) → Edge k s cut w.source w.global a b → Exists cut a
  edge_first k a b (worlds.Edge.in_thread p q z e f r) = made_exists cut a p e
  edge_first k a b (worlds.Edge.in_section p q g z e f r) = made_exists cut a p e
  edge_first k a b (worlds.Edge.creates h i f v g z e y) = made_exists cut a (Create h f v) e
  edge_first k a b (worlds.Edge.joins h i g z e y) = made_exists cut a End e
  edge_first k a b (worlds.Edge.initial q g z e) = subst (Exists cut) (sym z) tt
  edge_first k a b (worlds.Edge.reads c v z e y) = subst (Exists cut) (sym z) (write_exists s cut (w.source b) c v (write_stays w.acts n s (w.source b) c v (closed b c v e) (sound.values b c v (cut_back w.acts n b (Read c v) e).0)))
  edge_first k a b (worlds.Edge.writes c u v p q l) = write_exists s cut a c u p
  edge_first k a b (worlds.Edge.overtakes c u v p q l) = made_exists cut a (Read c u) p

  edge_last : (k : Option MemoryModel) (a b : Event) → Edge k s cut w.source w.global a b → Exists cut b
  edge_last k a b (worlds.Edge.in_thread p q z e f r) = made_exists cut b q f
  edge_last k a b (worlds.Edge.in_section p q g z e f r) = made_exists cut b q f
  edge_last k a b (worlds.Edge.creates h i f v g z e y) = made_exists cut b Start y
  edge_last k a b (worlds.Edge.joins h i g z e y) = made_exists cut b (Join h) y
  edge_last k a b (worlds.Edge.initial q g z e) = made_exists cut b q e
  edge_last k a b (worlds.Edge.reads c v z e y) = made_exists cut b (Read c v) e
  edge_last k a b (worlds.Edge.writes c u v p q l) = write_exists s cut b c v q
  edge_last k a b (worlds.Edge.overtakes c u v p q l) = write_exists s cut b c v q

  pub cut_sound : IsSound m s cut_world
  cut_sound = record {
    local_rises = λ a b h. sound.local_rises a b (edge_back None a b h);
    global_rises = λ a b h. sound.global_rises a b (edge_back (Some m) a b h);
    block_rises = λ a b h ne. sound.block_rises a b (edge_back (Some m) a b h) (λ z. ne (block_stays w.acts n a b (edge_first (Some m) a b h) (edge_last (Some m) a b h) z));
    one_block = λ a b h. sound.one_block a b (block_back w.acts n a b h);
    values = λ r c v h. write_stays w.acts n s (w.source r) c v (closed r c v h) (sound.values r c v (cut_back w.acts n r (Read c v) h).0);
    differ = λ a b p q e. sound.differ a b (exists_back w.acts n a p) (exists_back w.acts n b q) e;
  }

-- ---- what a rank cuts off

abbrev pub is_heavy : Option Action → Bool
is_heavy None = false
is_heavy (Some (Write c v)) = false
is_heavy (Some a) = true

heavy_keeps : (m : MemoryModel) (p q : Action) → is_heavy (Some p) ≡ true → keeps m p q ≡ true
heavy_keeps m (Write c v) q h = absurd (false≢true h)
heavy_keeps Sc p q h = refl
heavy_keeps Tso (Read c v) q h = refl
heavy_keeps Tso p q h = refl
heavy_keeps Pso p q h = refl

heavy_made : (o : Option Action) → is_heavy o ≡ true → (a : Action) × (o ≡ Some a)
heavy_made None h = absurd (false≢true h)
heavy_made (Some a) h = (a, refl)

module _ (m : MemoryModel) (s : Shape) (w : World) (sound : IsSound m s w) (n : ℕ → ℕ) (S R : ℕ)
    (before : (h i : ℕ) → i < n h → is_heavy (slice_get (w.acts h) i) ≡ true → (w.block (At h i) ≤ R) × ((h ≡ S → ⊥) → w.block (At h i) < R))
    (behind : (h i : ℕ) → n h ≤ i → i < length (w.acts h) → (j : ℕ) × (j ≤ i) × (is_heavy (slice_get (w.acts h) j) ≡ true) × (R ≤ w.block (At h j))) where
  -- along an edge the block's rank doesn't fall
  along : (a b : Event) → Edge (Some m) s w.acts w.source w.global a b → w.block a ≤ w.block b
  along a b e =
      ⊎_elim
      (λ gt. absurd (let less = sound.block_rises a b e (λ z. let same = sound.one_block a b z in omega (arith, gt, same)) in omega (arith, gt, less)))
      (λ le. le) (cases_lt (w.block b) (w.block a))

  -- two actions of a thread, of which the first is no write
  rises : (h i j : ℕ) (a : Action) → i < j → is_heavy (slice_get (w.acts h) i) ≡ true → slice_get (w.acts h) j ≡ Some a → Edge (Some m) s w.acts w.source w.global (At h i) (At h j)
  rises h i j a l heavy is =
      let p = heavy_made (slice_get (w.acts h) i) heavy in
      worlds.Edge.in_thread p.0 a (refl, l) p.1 is (heavy_keeps m p.0 a (ap is_heavy (sym p.1) ∙ heavy))

  -- what has a lower rank is kept
  low_kept : (h i : ℕ) (a : Action) → slice_get (w.acts h) i ≡ Some a → w.block (At h i) < R → i < n h
  low_kept h i a is low =
      ⊎_elim (λ lt. lt)
      (λ ge. absurd (
      let it = behind h i ge (slice_get_within (w.acts h) i a is) in
      ⊎_elim
      (λ lt. let less = along (At h it.0) (At h i) (rises h it.0 i a lt it.2 is) in omega (arith, less, low, it.3))
      (λ at. let same : it.0 ≡ i = omega (arith, at, it.1) in let high : R ≤ w.block (At h i) = subst (λ z. R ≤ w.block (At h z)) same it.3 in omega (arith, high, low))
      (cases_lt it.0 i)))
      (cases_lt i (n h))

  kept_event : (e : Event) (a : Action) → made_at w.acts e ≡ Some a → w.block e < R → IsKept n e
  kept_event Initial a h l = tt
  kept_event (At h i) a is l = low_kept h i a is l

  -- an edge between threads leads to a higher block
  between : (h i k j : ℕ) → (h ≡ k → ⊥) → Edge (Some m) s w.acts w.source w.global (At h i) (At k j) → w.block (At h i) < w.block (At k j)
  between h i k j ne e = sound.block_rises (At h i) (At k j) e (λ z. ne z.0)

  seen_by : (o : MemoryModel) (a b : Event) → (SameThread a b → ⊥) → IsSeen (Some o) a b
  seen_by Sc a b z = tt
  seen_by Tso a b z = z
  seen_by Pso a b z = z

  -- sources of what is kept
  source_kept : (k j : ℕ) (c v : ℕ) → j < n k → slice_get (w.acts k) j ≡ Some (Read c v) → (e : Event) → w.source (At k j) ≡ e → IsKept n e
  source_kept k j c v low is Initial src = tt
  source_kept k j c v low is (At h i) src =
      let writes : slice_get (w.acts h) i ≡ Some (Write c v) = subst (λ z. WritesTo s w.acts z c v) src (sound.values (At k j) c v is) in
      ⊎_elim
      (λ same.
      let there : slice_get (w.acts k) i ≡ Some (Write c v) = subst (λ z. slice_get (w.acts z) i ≡ Some (Write c v)) same writes in
      let from : At k i ≡ w.source (At k j) = ap (λ z. At z i) (sym same) ∙ sym src in
      let up = sound.local_rises (At k i) (At k j) (worlds.Edge.reads c v from is tt) in
      let small : i < j = ⊎_elim (λ lt. lt) (λ ge. absurd (⊎_elim
      (λ lt. let down = sound.local_rises (At k j) (At k i) (worlds.Edge.in_thread (Read c v) (Write c v) (refl, lt) is there (c, refl, refl)) in omega (arith, up, down))
      (λ le. let at : i ≡ j = omega (arith, ge, le) in let loop : w.local (At k i) ≡ w.local (At k j) = ap (λ z. w.local (At k z)) at in omega (arith, loop, up))
      (cases_lt j i))) (cases_lt i j) in
      subst (λ z. i < n z) (sym same) (omega (arith, small, low)))
      (λ ne.
      let e : Edge (Some m) s w.acts w.source w.global (At h i) (At k j) = worlds.Edge.reads c v (sym src) is (seen_by m (At h i) (At k j) (λ z. ne z)) in
      let less = between h i k j ne e in
      let high = (before k j low (ap is_heavy is)).0 in
      low_kept h i (Write c v) writes (omega (arith, less, high)))
      (cases_eq h k)

  pub reads_closed : (r : Event) (c v : ℕ) → made_at (cut_acts w.acts n) r ≡ Some (Read c v) → IsKept n (w.source r)
  reads_closed Initial c v h = absurd (none-some (Read c v) h)
  reads_closed (At k j) c v h = let it = take_back (n k) (w.acts k) j (Read c v) h in source_kept k j c v it.1 it.0 (w.source (At k j)) refl

  -- the Creates of a thread whose Start is kept
  pub creates_closed : (h i k j f v : ℕ) → i < n h → slice_get (w.acts h) i ≡ Some Start → slice_get (w.acts k) j ≡ Some (Create h f v) → j < n k
  creates_closed h i k j f v low start create =
      let e : Edge (Some m) s w.acts w.source w.global (At k j) (At h i) = worlds.Edge.creates h i f v tt refl create start in
      ⊎_elim
      (λ same.
      let here : slice_get (w.acts h) j ≡ Some (Create h f v) = subst (λ z. slice_get (w.acts z) j ≡ Some (Create h f v)) same create in
      let up : w.global (At h j) < w.global (At h i) = subst (λ z. w.global (At z j) < w.global (At h i)) same (sound.global_rises (At k j) (At h i) e) in
      let small : j < i = ⊎_elim (λ lt. lt) (λ ge. absurd (⊎_elim
      (λ lt. let down = sound.global_rises (At h i) (At h j) (rises h i j (Create h f v) lt (ap is_heavy start) here) in omega (arith, up, down))
      (λ le. let at : i ≡ j = omega (arith, ge, le) in let loop : w.global (At h i) ≡ w.global (At h j) = ap (λ z. w.global (At h z)) at in omega (arith, loop, up))
      (cases_lt i j))) (cases_lt j i) in
      subst (λ z. j < n z) (sym same) (omega (arith, small, low)))
      (λ ne. low_kept k j (Create h f v) create (let less = between k j h i ne e in let high = (before h i low (ap is_heavy start)).0 in omega (arith, less, high)))
      (cases_eq k h)

  -- the End of a thread for which a kept Join waits
  pub joins_closed : (h i k j : ℕ) → j < n k → slice_get (w.acts k) j ≡ Some (Join h) → slice_get (w.acts h) i ≡ Some End → i < n h
  joins_closed h i k j low join end =
      let e : Edge (Some m) s w.acts w.source w.global (At h i) (At k j) = worlds.Edge.joins h i tt refl end join in
      ⊎_elim
      (λ same.
      let here : slice_get (w.acts h) j ≡ Some (Join h) = subst (λ z. slice_get (w.acts z) j ≡ Some (Join h)) (sym same) join in
      let up : w.global (At h i) < w.global (At h j) = subst (λ z. w.global (At h i) < w.global (At z j)) (sym same) (sound.global_rises (At h i) (At k j) e) in
      let small : i < j = ⊎_elim (λ lt. lt) (λ ge. absurd (⊎_elim
      (λ lt. let down = sound.global_rises (At h j) (At h i) (rises h j i End lt (ap is_heavy here) end) in omega (arith, up, down))
      (λ le. let at : i ≡ j = omega (arith, ge, le) in let loop : w.global (At h i) ≡ w.global (At h j) = ap (λ z. w.global (At h z)) at in omega (arith, loop, up))
      (cases_lt j i))) (cases_lt i j) in
      let low' : j < n h = subst (λ z. j < n z) (sym same) low in omega (arith, small, low'))
      (λ ne. low_kept h i End end (let less = between h i k j ne e in let high = (before k j low (ap is_heavy join)).0 in omega (arith, less, high)))
      (cases_eq h k)

  -- other threads than one are cut outside of sections
  pub cut_closed : (h : ℕ) → (h ≡ S → ⊥) → n h < length (w.acts h) → is_opened false (take (n h) (w.acts h)) ≡ false
  cut_closed h ne low = ⊎_elim (λ o. absurd (inside (opened_has (take (n h) (w.acts h)) o))) (λ z. z) (cases_Bool (is_opened false (take (n h) (w.acts h)))) where
    inside : HasOpen (take (n h) (w.acts h)) → ⊥
    inside x =
        let o = x.0 in
        let there = take_back (n h) (w.acts h) o Open x.1 in
        let it = behind h (n h) (omega arith) low in
        let one : InBlock w.acts (At h o) (At h (n h)) = (
          refl,
          inr (
            o,
            record { opens = there.0; from = omega arith; there = slice_get_within (w.acts h) o Open there.0; unclosed = λ j p q y. omega (arith, p, q) },
            record { opens = there.0; from = omega (arith, there.1); there = low; unclosed = λ j p q y. x.2 j p (take_kept (n h) (w.acts h) j Close q y) },
          ),
        ) in
        let same = sound.one_block (At h o) (At h (n h)) one in
        let small = (before h o there.1 (ap is_heavy there.0)).1 ne in
        let end = get_there (w.acts h) (n h) low in
        ⊎_elim
        (λ lt. let less = along (At h it.0) (At h (n h)) (rises h it.0 (n h) end.0 lt it.2 end.1) in omega (arith, less, same, small, it.3))
        (λ ge. let at : it.0 ≡ n h = omega (arith, ge, it.1) in let high : R ≤ w.block (At h (n h)) = subst (λ z. R ≤ w.block (At h z)) at it.3 in omega (arith, high, same, small))
        (cases_lt it.0 (n h))
