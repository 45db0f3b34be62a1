-- One action more of one thread, behind all others.
use Rattle.std.proofs.Common.{◌≡◌, ℕ, suc, ◌+◌, ◌<◌, ◌≤◌, List, [], ◌∷◌, ◌++◌, Option, Some, None, Bool, true, false, cond, length, refl, sym, ap, ◌∙◌, subst, inl, inr, ◌⊎◌, ⊎_elim, length-append, arith}
use Rattle.std.specs.Prelude.{nat_eq, ◌&&◌, slice_get}
use Rattle.std.proofs.lemmas.Bool.{false≢true, cases_eq, cases_lt, cases_Bool, eqb-true, eq-eqb, ne_eqb, and_parts, cond-true, cond-false}
use Rattle.std.proofs.lemmas.Option.{none-some, slice_get_within}
use Rattle.dg_base.proofs.Lists.{get_append_left, get_push_cases, get_push_last, get_nothing}
use Rattle.axiom_model.specs.declared.MemoryModel.{MemoryModel}
use Rattle.axiom_model.specs.declared.Action.{Action}
use Rattle.axiom_model.specs.declared.Action.TheVariants.{Read, Write, Open, Close, Create, Join, Start, End}
use Rattle.axiom_model.specs.declared.Event.{Event}
use Rattle.axiom_model.specs.declared.Event.TheVariants.{Initial, At}
use Rattle.axiom_model.specs.Execution.{Before, InSection, OneSection}
use Rattle.axiom_model.specs.WellMade.{Shape}
use Rattle.full_bound.specs.Lone.{is_opened}
use Rattle.full_bound.proofs.Cuts.{opened_append}
use Rattle.full_bound.proofs.Marks.{open_shows, opened_has}
use Rattle.full_bound.proofs.Worlds.{World, Exists, made_at, WritesTo, InBlock, Edge, in_thread, in_section, creates, joins, initial, reads, writes, overtakes, IsSound}

pub made_exists : (acts : ℕ → List Action) (e : Event) (p : Action) → made_at acts e ≡ Some p → Exists acts e
made_exists acts Initial p x = tt
made_exists acts (At h i) p x = slice_get_within (acts h) i p x

pub write_exists : (s : Shape) (acts : ℕ → List Action) (e : Event) (c v : ℕ) → WritesTo s acts e c v → Exists acts e
write_exists s acts Initial c v x = tt
write_exists s acts (At h i) c v x = slice_get_within (acts h) i (Write c v) x

-- the event stands in the section that is open behind the thread's actions
abbrev pub InTail : (ℕ → List Action) → ℕ → Event → Type 0
InTail acts h Initial = ⊥
InTail acts h (At k i) = (k ≡ h) × (i < length (acts h)) × ((o : ℕ) × (o ≤ i) × (slice_get (acts h) o ≡ Some Open) × ((j : ℕ) → o ≤ j → slice_get (acts h) j ≡ Some Close → ⊥))

-- all ranks are below the top; the block of the next action is above all others, but for those of a section that is open
pub record IsReady (w : World) (h top next : ℕ) : Type 0 where
  pub below : (e : Event) → Exists w.acts e → (w.local e < top) × (w.global e < top) × (w.block e < top)
  pub under : next ≤ top
  pub others : (e : Event) → Exists w.acts e → (w.block e < next) ⊎ InTail w.acts h e
  pub tail : (e : Event) → InTail w.acts h e → w.block e ≡ next

-- what is asked of the action, and of a read's source
pub record IsNext (s : Shape) (w : World) (h : ℕ) (a : Action) (src : Event) : Type 0 where
  pub source : (c v : ℕ) → a ≡ Read c v → WritesTo s w.acts src c v
  pub last : (c v : ℕ) → a ≡ Read c v → (e : Event) (u : ℕ) → WritesTo s w.acts e c u → w.global e ≤ w.global src
  pub fresh : (k f v : ℕ) → a ≡ Create k f v → w.acts k ≡ []
  pub awaited : a ≡ End → (e : Event) → made_at w.acts e ≡ Some (Join h) → ⊥
  pub no_join : (k : ℕ) → a ≡ Join k → ⊥

abbrev pub acts_with : (ℕ → List Action) → ℕ → Action → ℕ → List Action
acts_with acts h a k = cond (nat_eq k h) (acts h ++ a ∷ []) (acts k)

abbrev pub is_new : (ℕ → List Action) → ℕ → Event → Bool
is_new acts h Initial = false
is_new acts h (At k i) = nat_eq k h && nat_eq i (length (acts h))

abbrev pub put : {A : Type 0} → (ℕ → List Action) → ℕ → A → (Event → A) → Event → A
put acts h x f e = cond (is_new acts h e) x (f e)

abbrev pub world_with : World → ℕ → Action → Event → ℕ → ℕ → World
world_with w h a src top next = record {
  acts = acts_with w.acts h a;
  source = put w.acts h src w.source;
  local = put w.acts h top w.local;
  global = put w.acts h top w.global;
  block = put w.acts h next w.block;
}

-- ---- where the last_event event stands

module _ (acts : ℕ → List Action) (h : ℕ) (a : Action) where
  abbrev n : ℕ
  n = length (acts h)

  abbrev last_event : Event
  last_event = At h n

  abbrev longer : ℕ → List Action
  longer = acts_with acts h a

  pub own_more : longer h ≡ acts h ++ a ∷ []
  own_more = cond-true (nat_eq h h) (acts h ++ a ∷ []) (acts h) (eq-eqb h h refl)

  pub other_more : (k : ℕ) → (k ≡ h → ⊥) → longer k ≡ acts k
  other_more k ne = cond-false (nat_eq k h) (acts h ++ a ∷ []) (acts k) (ne_eqb k h ne)

  pub new_made : made_at longer last_event ≡ Some a
  new_made = ap (λ (l : List Action). slice_get l n) own_more ∙ get_push_last (acts h) a

  pub new_is : is_new acts h last_event ≡ true
  new_is = ap (λ b. b && nat_eq n n) (eq-eqb h h refl) ∙ eq-eqb n n refl

  pub put_new : {A : Type 0} (x : A) (f : Event → A) → put acts h x f last_event ≡ x
  put_new x f = cond-true (is_new acts h last_event) x (f last_event) new_is

  pub put_old : {A : Type 0} (x : A) (f : Event → A) (e : Event) → is_new acts h e ≡ false → put acts h x f e ≡ f e
  put_old x f e o = cond-false (is_new acts h e) x (f e) o

  not_both : (b c : Bool) → ((b && c) ≡ true → ⊥) → (b && c) ≡ false
  not_both b c never = ⊎_elim (λ t. absurd (never t)) (λ f. f) (cases_Bool (b && c))

  pub exists_old : (e : Event) → Exists acts e → is_new acts h e ≡ false
  exists_old Initial x = refl
  exists_old (At k i) x = not_both (nat_eq k h) (nat_eq i n) (λ t.
      let parts = and_parts (nat_eq k h) (nat_eq i n) t in
      let same : k ≡ h = eqb-true k h parts.0 in
      let at : i ≡ n = eqb-true i n parts.1 in
      let low : i < length (acts h) = subst (λ z. i < length (acts z)) same x in
      omega (arith, low, at))

  pub kept_left : (k i : ℕ) (p : Action) → slice_get (acts k) i ≡ Some p → slice_get (longer k) i ≡ Some p
  kept_left k i p x =
      ⊎_elim (λ e. let it : slice_get (acts h) i ≡ Some p = subst (λ z. slice_get (acts z) i ≡ Some p) e x in subst (λ z. slice_get (longer z) i ≡ Some p) (sym e) (ap (λ (l : List Action). slice_get l i) own_more ∙ get_append_left (acts h) (a ∷ []) i p it))
      (λ ne. ap (λ (l : List Action). slice_get l i) (other_more k ne) ∙ x) (cases_eq k h)

  pub slice_cases : (k i : ℕ) (p : Action) → slice_get (longer k) i ≡ Some p → (slice_get (acts k) i ≡ Some p) ⊎ ((k ≡ h) × (i ≡ n) × (p ≡ a))
  slice_cases k i p x =
      ⊎_elim
      (λ e.
      let it : slice_get (acts h ++ a ∷ []) i ≡ Some p = sym (ap (λ (l : List Action). slice_get l i) own_more) ∙ subst (λ z. slice_get (longer z) i ≡ Some p) e x in
      ⊎_elim (λ y. inl (subst (λ z. slice_get (acts z) i ≡ Some p) (sym e) y)) (λ y. inr (e, y.0, y.1)) (get_push_cases (acts h) a i p it))
      (λ ne. inl (sym (ap (λ (l : List Action). slice_get l i) (other_more k ne)) ∙ x)) (cases_eq k h)

  same_event : (k i : ℕ) → k ≡ h → i ≡ n → At k i ≡ last_event
  same_event k i e f = ap (λ z. At z i) e ∙ ap (λ z. At h z) f

  pub made_cases : (e : Event) (p : Action) → made_at longer e ≡ Some p → (made_at acts e ≡ Some p) ⊎ ((e ≡ last_event) × (p ≡ a))
  made_cases Initial p x = absurd (none-some p x)
  made_cases (At k i) p x = ⊎_elim inl (λ y. inr (same_event k i y.0 y.1, y.2)) (slice_cases k i p x)

  pub made_kept : (e : Event) (p : Action) → made_at acts e ≡ Some p → made_at longer e ≡ Some p
  made_kept Initial p x = x
  made_kept (At k i) p x = kept_left k i p x

  pub write_cases : (s : Shape) (e : Event) (c v : ℕ) → WritesTo s longer e c v → WritesTo s acts e c v ⊎ ((e ≡ last_event) × (Write c v ≡ a))
  write_cases s Initial c v x = inl x
  write_cases s (At k i) c v x = ⊎_elim inl (λ y. inr (same_event k i y.0 y.1, y.2)) (slice_cases k i (Write c v) x)

  pub write_kept : (s : Shape) (e : Event) (c v : ℕ) → WritesTo s acts e c v → WritesTo s longer e c v
  write_kept s Initial c v x = x
  write_kept s (At k i) c v x = kept_left k i (Write c v) x

  pub length_more : (k : ℕ) → length (acts k) ≤ length (longer k)
  length_more k = ⊎_elim (λ e. subst (λ z. length (acts z) ≤ length (longer z)) (sym e) (omega (arith, ap length own_more, length-append (acts h) (a ∷ [])))) (λ ne. omega (arith, ap length (other_more k ne))) (cases_eq k h)

  pub exists_cases : (e : Event) → Exists longer e → Exists acts e ⊎ (e ≡ last_event)
  exists_cases Initial x = inl tt
  exists_cases (At k i) x =
      ⊎_elim
      (λ e.
      let low : i < length (longer h) = subst (λ z. i < length (longer z)) e x in
      ⊎_elim (λ lt. inl (subst (λ z. i < length (acts z)) (sym e) lt)) (λ ge. inr (same_event k i e (omega (arith, ge, low, ap length own_more, length-append (acts h) (a ∷ []))))) (cases_lt i n))
      (λ ne. inl (subst (λ (l : List Action). i < length l) (other_more k ne) x)) (cases_eq k h)

  -- ---- sections

  -- a section's place before the end
  section_back : (k o i : ℕ) → i < length (acts k) → InSection (longer k) o i → InSection (acts k) o i
  section_back k o i low x = record {
    opens = ⊎_elim (λ y. y) (λ y. absurd (let at : o ≡ n = y.1 in let small : i < length (acts h) = subst (λ z. i < length (acts z)) y.0 low in omega (arith, at, small, x.from))) (slice_cases k o Open x.opens);
    from = x.from;
    there = low;
    unclosed = λ j p q y. x.unclosed j p q (kept_left k j Close y);
  }

  section_on : (k o i : ℕ) → InSection (acts k) o i → InSection (longer k) o i
  section_on k o i x = record {
    opens = kept_left k o Open x.opens;
    from = x.from;
    there = omega (arith, x.there, length_more k);
    unclosed = λ j p q y. ⊎_elim (λ z. x.unclosed j p q z) (λ z.
        let at : j ≡ n = z.1 in let small : i < length (acts h) = subst (λ l. i < length (acts l)) z.0 x.there in omega (arith, at, small, q)) (slice_cases k j Close y);
  }

  pub block_back : (e f : Event) → Exists acts e → Exists acts f → InBlock longer e f → InBlock acts e f
  block_back Initial Initial x y b = tt
  block_back Initial (At k j) x y b = absurd b
  block_back (At k i) Initial x y b = absurd b
  block_back (At k i) (At l j) x y b =
      let low : i < length (acts l) = subst (λ z. i < length (acts z)) b.0 x in
      (b.0, ⊎_elim inl (λ z. inr (z.0, section_back l z.0 i low z.1, section_back l z.0 j y z.2)) b.1)

  pub block_on : (e f : Event) → InBlock acts e f → InBlock longer e f
  block_on Initial Initial b = tt
  block_on Initial (At k j) b = absurd b
  block_on (At k i) Initial b = absurd b
  block_on (At k i) (At l j) b = (b.0, ⊎_elim inl (λ z. inr (z.0, section_on l z.0 i z.1, section_on l z.0 j z.2)) b.1)

-- ---- edges

module _ (m : MemoryModel) (s : Shape) (w : World) (h : ℕ) (a : Action) (src : Event) (top next : ℕ) (sound : IsSound m s w) (ready : IsReady w h top next) (step : IsNext s w h a src) where
  abbrev old : ℕ → List Action
  old = w.acts

  abbrev more : ℕ → List Action
  more = acts_with w.acts h a

  abbrev new : Event
  new = At h (length (w.acts h))

  abbrev after : World
  after = world_with w h a src top next

  abbrev NewEdge : Option MemoryModel → Event → Event → Type 0
  NewEdge k = Edge k s after.acts after.source after.global

  abbrev OldEdge : Option MemoryModel → Event → Event → Type 0
  OldEdge k = Edge k s w.acts w.source w.global

  -- an edge is an old one, or leads to the new event
  abbrev Sorted : Option MemoryModel → Event → Event → Type 0
  Sorted k e f = (OldEdge k e f × Exists old e × Exists old f) ⊎ ((f ≡ new) × Exists old e)

  none_behind : (f : Event) → Before new f → Exists old f → ⊥
  none_behind Initial b x = b
  none_behind (At k j) b x = let low : j < length (old h) = subst (λ z. j < length (old z)) (sym b.0) x in omega (arith, low, b.1)

  not_self : Before new new → ⊥
  not_self b = omega (arith, b.1)

  source_old : (f : Event) (c v : ℕ) → made_at old f ≡ Some (Read c v) → after.source f ≡ w.source f
  source_old f c v x = put_old old h a src w.source f (exists_old old h a f (made_exists old f (Read c v) x))

  global_old : (e : Event) → Exists old e → after.global e ≡ w.global e
  global_old e x = put_old old h a top w.global e (exists_old old h a e x)

  source_exists : (f : Event) (c v : ℕ) → made_at old f ≡ Some (Read c v) → Exists old (w.source f)
  source_exists f c v x = write_exists s old (w.source f) c v (sound.values f c v x)

  at_new : (e : Event) → e ≡ new → after.global e ≡ top
  at_new e x = ap after.global x ∙ put_new old h a top w.global

  -- two actions in a thread
  pair : (k : Option MemoryModel) (e f : Event) (p q : Action) → Before e f → made_at more e ≡ Some p → made_at more f ≡ Some q
      → (made_at old e ≡ Some p → made_at old f ≡ Some q → OldEdge k e f) → Sorted k e f
  pair k e f p q b x y make =
      ⊎_elim
      (λ fo. ⊎_elim
      (λ eo. inl (make eo fo, made_exists old e p eo, made_exists old f q fo))
      (λ en. absurd (none_behind f (subst (λ z. Before z f) en.0 b) (made_exists old f q fo)))
      (made_cases old h a e p x))
      (λ fn. ⊎_elim
      (λ eo. inr (fn.0, made_exists old e p eo))
      (λ en. absurd (not_self (subst (λ z. Before z new) en.0 (subst (λ z. Before e z) fn.0 b))))
      (made_cases old h a e p x))
      (made_cases old h a f q y)

  sorted : (k : Option MemoryModel) (e f : Event) → NewEdge k e f → Sorted k e f
  sorted k e f (in_thread p q b x y r) = pair k e f p q b x y (λ eo fo. in_thread p q b eo fo r)
  sorted k e f (in_section p q g b x y z) = pair k e f p q b x y (λ eo fo. in_section p q g b eo fo (block_back old h a e f (made_exists old e p eo) (made_exists old f q fo) z))
  sorted k e f (creates h' i f' v g at x y) =
      ⊎_elim
      (λ fo. ⊎_elim
      (λ eo. inl (creates h' i f' v g at eo fo, made_exists old e (Create h' f' v) eo, made_exists old f Start fo))
      (λ en.
      let none : old h' ≡ [] = step.fresh h' f' v (sym en.1) in
      let there : slice_get (old h') i ≡ Some Start = subst (λ z. made_at old z ≡ Some Start) at fo in
      absurd (get_nothing i Start (subst (λ (l : List Action). slice_get l i ≡ Some Start) none there)))
      (made_cases old h a e (Create h' f' v) x))
      (λ fn. ⊎_elim
      (λ eo. inr (fn.0, made_exists old e (Create h' f' v) eo))
      (λ en. absurd (let clash : Create h' f' v ≡ Start = en.1 ∙ sym fn.1 in cc))
      (made_cases old h a e (Create h' f' v) x))
      (made_cases old h a f Start y)
  sorted k e f (joins h' i g at x y) =
      ⊎_elim
      (λ fo. ⊎_elim
      (λ eo. inl (joins h' i g at eo fo, made_exists old e End eo, made_exists old f (Join h') fo))
      (λ en.
      let same : h' ≡ h = handle_of (sym at ∙ en.0) in
      absurd (step.awaited (sym en.1) f (subst (λ z. made_at old f ≡ Some (Join z)) same fo)))
      (made_cases old h a e End x))
      (λ fn. absurd (step.no_join h' (sym fn.1)))
      (made_cases old h a f (Join h') y) where
        handle_of : At h' i ≡ new → h' ≡ h
        handle_of e = ap handle e where
          handle : Event → ℕ
          handle Initial = 0
          handle (At k j) = k
  sorted k e f (initial q g at y) = ⊎_elim (λ fo. inl (initial q g at fo, subst (Exists old) (sym at) tt, made_exists old f q fo)) (λ fn. inr (fn.0, subst (Exists old) (sym at) tt)) (made_cases old h a f q y)
  sorted k e f (reads c v at y seen) =
      ⊎_elim
      (λ fo.
      let same : e ≡ w.source f = at ∙ source_old f c v fo in
      inl (reads c v same fo seen, subst (Exists old) (sym same) (source_exists f c v fo), made_exists old f (Read c v) fo))
      (λ fn.
      let same : e ≡ src = at ∙ ap after.source fn.0 ∙ put_new old h a src w.source in
      inr (fn.0, subst (Exists old) (sym same) (write_exists s old src c v (step.source c v (sym fn.1)))))
      (made_cases old h a f (Read c v) y)
  sorted k e f (writes c u v x y lt) =
      ⊎_elim
      (λ fo.
      let there : Exists old f = write_exists s old f c v fo in
      ⊎_elim
      (λ eo.
      let here : Exists old e = write_exists s old e c u eo in
      let low : w.global e < w.global f = omega (arith, lt, global_old e here, global_old f there) in
      inl (writes c u v eo fo low, here, there))
      (λ en. absurd (omega (arith, lt, at_new e en.0, global_old f there, (ready.below f there).1)))
      (write_cases old h a s e c u x))
      (λ fn. ⊎_elim
      (λ eo. inr (fn.0, write_exists s old e c u eo))
      (λ en. absurd (omega (arith, lt, at_new e en.0, at_new f fn.0)))
      (write_cases old h a s e c u x))
      (write_cases old h a s f c v y)
  sorted k e f (overtakes c u v x y lt) =
      ⊎_elim
      (λ fo.
      let there : Exists old f = write_exists s old f c v fo in
      ⊎_elim
      (λ eo.
      let from : after.global (after.source e) ≡ w.global (w.source e) = ap after.global (source_old e c u eo) ∙ global_old (w.source e) (source_exists e c u eo) in
      let low : w.global (w.source e) < w.global f = omega (arith, lt, from, global_old f there) in
      inl (overtakes c u v eo fo low, made_exists old e (Read c u) eo, there))
      (λ en.
      let same : after.source e ≡ src = ap after.source en.0 ∙ put_new old h a src w.source in
      let from : after.global (after.source e) ≡ w.global src = ap after.global same ∙ global_old src (write_exists s old src c u (step.source c u (sym en.1))) in
      absurd (omega (arith, lt, from, global_old f there, step.last c u (sym en.1) f v fo)))
      (made_cases old h a e (Read c u) x))
      (λ fn. ⊎_elim
      (λ eo. inr (fn.0, made_exists old e (Read c u) eo))
      (λ en. absurd (let clash : Read c u ≡ Write c v = en.1 ∙ sym fn.1 in cc))
      (made_cases old h a e (Read c u) x))
      (write_cases old h a s f c v y)

  -- ---- ranks

  local_rises : (e f : Event) → NewEdge None e f → after.local e < after.local f
  local_rises e f x =
      ⊎_elim
      (λ y. let less = sound.local_rises e f y.0 in omega (arith, less, put_old old h a top w.local e (exists_old old h a e y.1), put_old old h a top w.local f (exists_old old h a f y.2)))
      (λ y. omega (arith, (ready.below e y.1).0, put_old old h a top w.local e (exists_old old h a e y.1), ap after.local y.0 ∙ put_new old h a top w.local))
      (sorted None e f x)

  global_rises : (e f : Event) → NewEdge (Some m) e f → after.global e < after.global f
  global_rises e f x =
      ⊎_elim
      (λ y. let less = sound.global_rises e f y.0 in omega (arith, less, global_old e y.1, global_old f y.2))
      (λ y. omega (arith, (ready.below e y.1).1, global_old e y.1, at_new f y.0))
      (sorted (Some m) e f x)

  -- the section that is open holds the new event
  tail_block : (e : Event) → InTail old h e → InBlock more e new
  tail_block Initial x = absurd x
  tail_block (At k i) x =
      let o = x.2.0 in
      let open_more : slice_get (more h) o ≡ Some Open = kept_left old h a h o Open x.2.2 in
      let none : (j : ℕ) → o ≤ j → j < length (old h) → slice_get (more h) j ≡ Some Close → ⊥ =
      λ j p q y. ⊎_elim (λ z. x.2.3 j p z) (λ z. omega (arith, q, z.1)) (slice_cases old h a h j Close y) in
      let size : length (more h) ≡ length (old h) + 1 = ap length (own_more old h a) ∙ length-append (old h) (a ∷ []) in (
        x.0,
        inr (
          o,
          record { opens = open_more; from = x.2.1; there = omega (arith, x.1, size); unclosed = λ j p q y. none j p (omega (arith, q, x.1)) y },
          record { opens = open_more; from = omega (arith, x.2.1, x.1); there = omega (arith, size); unclosed = λ j p q y. none j p q y },
        ),
      )

  block_tail : (e : Event) → Exists old e → InBlock more e new → InTail old h e
  block_tail Initial x b = absurd b
  block_tail (At k i) x b =
      let low : i < length (old h) = subst (λ z. i < length (old z)) b.0 x in
      ⊎_elim (λ same. absurd (omega (arith, same, low)))
      (λ z. (
        b.0,
        low,
        (
          z.0,
          z.1.from,
          ⊎_elim (λ y. y) (λ y. absurd (omega (arith, y.1, z.1.from, low))) (slice_cases old h a h z.0 Open z.1.opens),
          λ j p y. z.2.unclosed j p (slice_get_within (old h) j Close y) (kept_left old h a h j Close y),
        ),
      ))
      b.1

  block_old : (e : Event) → Exists old e → after.block e ≡ w.block e
  block_old e x = put_old old h a next w.block e (exists_old old h a e x)

  block_new : (e : Event) → e ≡ new → after.block e ≡ next
  block_new e x = ap after.block x ∙ put_new old h a next w.block

  block_rises : (e f : Event) → NewEdge (Some m) e f → (InBlock more e f → ⊥) → after.block e < after.block f
  block_rises e f x apart =
      ⊎_elim
      (λ y. let less = sound.block_rises e f y.0 (λ b. apart (block_on old h a e f b)) in omega (arith, less, block_old e y.1, block_old f y.2))
      (λ y. ⊎_elim (λ low. omega (arith, low, block_old e y.1, block_new f y.0)) (λ t. absurd (apart (subst (InBlock more e) (sym y.0) (tail_block e t)))) (ready.others e y.1))
      (sorted (Some m) e f x)

  one_of : (e f : Event) → Exists more e → Exists more f → InBlock more e f → InBlock more f e → after.block e ≡ after.block f
  one_of e f x y b c =
      ⊎_elim
      (λ eo. ⊎_elim
      (λ fo. block_old e eo ∙ sound.one_block e f (block_back old h a e f eo fo b) ∙ sym (block_old f fo))
      (λ fn. block_old e eo ∙ ready.tail e (block_tail e eo (subst (InBlock more e) fn b)) ∙ sym (block_new f fn))
      (exists_cases old h a f y))
      (λ en. ⊎_elim
      (λ fo. block_new e en ∙ sym (ready.tail f (block_tail f fo (subst (InBlock more f) en c))) ∙ sym (block_old f fo))
      (λ fn. block_new e en ∙ sym (block_new f fn))
      (exists_cases old h a f y))
      (exists_cases old h a e x)

  one_block : (e f : Event) → InBlock more e f → after.block e ≡ after.block f
  one_block Initial Initial b = refl
  one_block Initial (At k j) b = absurd b
  one_block (At k i) Initial b = absurd b
  one_block (At k i) (At l j) b =
      ⊎_elim
      (λ same. ap (λ z. after.block (At z i)) b.0 ∙ ap (λ z. after.block (At l z)) same)
      (λ z.
      let back : OneSection (more k) j i = subst (λ q. OneSection (more q) j i) (sym b.0) (z.0, z.2, z.1) in
      one_of (At k i) (At l j) (subst (λ q. i < length (more q)) (sym b.0) z.1.there) z.2.there b (sym b.0, inr back))
      b.1

  pub sound_after : IsSound m s after
  sound_after = record {
    local_rises = local_rises;
    global_rises = global_rises;
    block_rises = block_rises;
    one_block = one_block;
    values = λ r c v x.
        ⊎_elim
        (λ ro. subst (λ e. WritesTo s more e c v) (sym (source_old r c v ro)) (write_kept old h a s (w.source r) c v (sound.values r c v ro)))
        (λ rn. subst (λ e. WritesTo s more e c v) (sym (ap after.source rn.0 ∙ put_new old h a src w.source)) (write_kept old h a s src c v (step.source c v (sym rn.1))))
        (made_cases old h a r (Read c v) x);
    differ = λ e f x y same.
        ⊎_elim
        (λ eo. ⊎_elim
        (λ fo. sound.differ e f eo fo (sym (global_old e eo) ∙ same ∙ global_old f fo))
        (λ fn. absurd (omega (arith, same, global_old e eo, (ready.below e eo).1, at_new f fn)))
        (exists_cases old h a f y))
        (λ en. ⊎_elim
        (λ fo. absurd (omega (arith, same, global_old f fo, (ready.below f fo).1, at_new e en)))
        (λ fn. en ∙ sym fn)
        (exists_cases old h a f y))
        (exists_cases old h a e x);
  }

  -- ---- the next action

  local_old : (e : Event) → Exists old e → after.local e ≡ w.local e
  local_old e x = put_old old h a top w.local e (exists_old old h a e x)

  below_after : (e : Event) → Exists more e → (after.local e < suc top) × (after.global e < suc top) × (after.block e < suc top)
  below_after e x =
      ⊎_elim
      (λ eo. let b = ready.below e eo in (omega (arith, b.0, local_old e eo), omega (arith, b.1, global_old e eo), omega (arith, b.2, block_old e eo)))
      (λ en. (omega (arith, ap after.local en ∙ put_new old h a top w.local), omega (arith, at_new e en), omega (arith, block_new e en, ready.under)))
      (exists_cases old h a e x)

  size_more : length (more h) ≡ length (old h) + 1
  size_more = ap length (own_more old h a) ∙ length-append (old h) (a ∷ [])

  -- where no section is open behind it
  ready_closed : is_opened false (more h) ≡ false → IsReady after h (suc top) (suc top)
  ready_closed shut = record {
    below = below_after;
    under = omega arith;
    others = λ e x. inl (below_after e x).2;
    tail = λ e x. absurd (no_tail e x);
  } where
    no_tail : (e : Event) → InTail more h e → ⊥
    no_tail Initial x = x
    no_tail (At k i) x = false≢true (sym shut ∙ open_shows false (more h) x.2.0 x.2.2 x.2.3)

  -- where one is
  ready_open : is_opened false (more h) ≡ true → IsReady after h (suc top) next
  ready_open is =
      let found = opened_has (more h) is in
      record {
        below = below_after;
        under = omega (arith, ready.under);
        others = λ e x. ⊎_elim
            (λ eo. ⊎_elim (λ low. inl (omega (arith, low, block_old e eo))) (λ t. inr (kept_tail e t)) (ready.others e eo))
            (λ en. inr (subst (InTail more h) (sym en) (refl, omega (arith, size_more), (found.0, low_open found.0 found.1, found.1, found.2))))
            (exists_cases old h a e x);
        tail = λ e x. tail_after e x;
      } where
        no_close : a ≡ Close → ⊥
        no_close e =
            let shut : is_opened false (more h) ≡ false = ap (is_opened false) (own_more old h a ∙ ap (λ z. old h ++ z ∷ []) e) ∙ opened_append false (old h) (Close ∷ []) in
            false≢true (sym shut ∙ is)

        low_open : (o : ℕ) → slice_get (more h) o ≡ Some Open → o ≤ length (old h)
        low_open o e = omega (arith, slice_get_within (more h) o Open e, size_more)

        kept_tail : (e : Event) → InTail old h e → InTail more h e
        kept_tail Initial x = x
        kept_tail (At k i) x =
            (x.0, omega (arith, x.1, size_more), (x.2.0, x.2.1, kept_left old h a h x.2.0 Open x.2.2, λ j p y. ⊎_elim (λ z. x.2.3 j p z) (λ z. no_close (sym z.2)) (slice_cases old h a h j Close y)))

        tail_after : (e : Event) → InTail more h e → after.block e ≡ next
        tail_after Initial x = absurd x
        tail_after (At k i) x =
            ⊎_elim
            (λ low.
            let eo : Exists old (At k i) = subst (λ z. i < length (old z)) (sym x.0) low in
            let here : InTail old h (At k i) = (x.0, low, (x.2.0, x.2.1, ⊎_elim (λ y. y) (λ y. absurd (omega (arith, y.1, x.2.1, low))) (slice_cases old h a h x.2.0 Open x.2.2), λ j p y. x.2.3 j p (kept_left old h a h j Close y))) in
            block_old (At k i) eo ∙ ready.tail (At k i) here)
            (λ high.
            let at : i ≡ length (old h) = omega (arith, high, x.1, size_more) in
            block_new (At k i) (ap (λ z. At z i) x.0 ∙ ap (λ z. At h z) at))
            (cases_lt i (length (old h)))

  -- the next action stands behind it
  pub ready_after : (on : ℕ) × IsReady after h (suc top) on
  ready_after = ⊎_elim (λ o. (next, ready_open o)) (λ c. (suc top, ready_closed c)) (cases_Bool (is_opened false (more h)))
