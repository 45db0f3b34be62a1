-- A thread that runs alone behind all others goes on by one action.
use Rattle.std.proofs.Common.{◌≡◌, ◌≢◌, ℕ, zero, suc, ◌+◌, ◌*◌, ◌<◌, ◌≤◌, List, [], ◌∷◌, ◌++◌, Option, Some, None, Bool, true, false, cond, length, refl, sym, ap, ◌∙◌, subst, inl, inr, ◌⊎◌, ⊎_elim, length-append, append_assoc, append-nil, arith}
use Rattle.std.specs.Prelude.{nat_eq, slice_get, All, Contains}
use Rattle.std.specs.List.{AllByRecursion}
use Rattle.std.proofs.lemmas.Bool.{false≢true, cases_eq, cases_lt, eq-eqb, ne_eqb, cond-true, cond-false}
use Rattle.std.proofs.lemmas.Option.{same_Some, none-some, slice_get_within}
use Rattle.std.proofs.lemmas.List.Elements.{All-contains}
use Rattle.dg_base.proofs.Lists.{get_append_left, get_append_right, get_append_cases, get_nothing, contains_place}
use Rattle.axiom_model.specs.declared.MemoryModel.{MemoryModel}
use Rattle.axiom_model.specs.declared.Action.{Action}
use Rattle.axiom_model.specs.declared.Action.TheVariants.{Read, Write, Open, Close, Fence, Create, Join, Start, End}
use Rattle.axiom_model.specs.declared.Event.{Event}
use Rattle.axiom_model.specs.declared.Event.TheVariants.{Initial, At}
use Rattle.axiom_model.specs.WellMade.{Shape}
use Rattle.c_check.specs.declared.checked.Checked.{Checked}
use Rattle.c_check.specs.WellFormed.{IsChecked}
use Rattle.run_model.specs.Programs.{shape_of}
use Rattle.run_model.proofs.Handles.{run_is_numbered}
use Rattle.run_model.proofs.Creates.{numbered_at, before}
use Rattle.run_laws.specs.Started.{created}
use Rattle.run_laws.specs.Frames.{IsInner, last_of, IsFramed}
use Rattle.run_laws.specs.Belonging.{BelongsTo}
use Rattle.run_laws.specs.Words.{IsWord, IsOfWords, HasWordConstants}
use Rattle.run_laws.proofs.Belonging.{run_belongs}
use Rattle.run_laws.proofs.Framing.{run_framed}
use Rattle.run_laws.proofs.Started.{started_handles_low, started_creates_differ, creates_differ_in_a_run}
use Rattle.run_laws.proofs.WordRuns.{started_run_words}
use Rattle.full_bound.specs.Lone.{Memory, written, IsLone, is_opened}
use Rattle.full_bound.specs.Alone.{EndsAlone, CanEnd, IsThread}
use Rattle.full_bound.proofs.Worlds.{World, made_at, WritesTo}
use Rattle.full_bound.proofs.Standing.{Ran, IsOver, FailsAt, Parts, Fits, IsMemory, IsLive, Standing}
use Rattle.full_bound.proofs.Appending.{IsReady, InTail, IsNext, world_with, put_new, put_old, exists_old, made_cases, made_kept, write_cases, write_kept, write_exists, other_more, own_more, new_made, sound_after, ready_after}
use Rattle.full_bound.proofs.Marks.{open_shows}
use Rattle.full_bound.proofs.CutRuns.{thread_can_end}

-- the thread of a Create
abbrev pub who_with : Parts → Action → Parts
who_with who (Create k f v) h = cond (nat_eq h k) (Some (f, v)) (who h)
who_with who a h = who h

-- End stands last
pub ends_last : (acts : List Action) (ended : Bool) → IsFramed acts ended → (i : ℕ) → slice_get acts i ≡ Some End → (ended ≡ true) × (suc i ≡ length acts)
ends_last acts ended fr zero e = absurd (let clash : ◌≡◌ {A = Option Action} (Some Start) (Some End) = sym (ap (λ (l : List Action). slice_get l 0) fr.whole) ∙ e in cc)
ends_last acts ended fr (suc i) e =
    let it : slice_get (fr.inner ++ last_of ended) i ≡ Some End = sym (ap (λ (l : List Action). slice_get l (suc i)) fr.whole) ∙ e in
    ⊎_elim
    (λ x. absurd (no_end fr.inner i fr.others x))
    (λ x.
    let last = by_ended ended x.0 x.2 in
    (last.0, omega (arith, x.1, last.1, last.2, ap length fr.whole, length-append fr.inner (last_of ended))))
    (get_append_cases fr.inner (last_of ended) i End it) where
      no_end : (l : List Action) (j : ℕ) → AllByRecursion IsInner l → slice_get l j ≡ Some End → ⊥
      no_end [] j h x = get_nothing j End x
      no_end (a ∷ l) zero h x = let same : a ≡ End = same_Some a End x in subst IsInner same h.0
      no_end (a ∷ l) (suc j) h x = no_end l j h.1 x

      by_ended : (b : Bool) (j : ℕ) → slice_get (last_of b) j ≡ Some End → (b ≡ true) × (j ≡ 0) × (length (last_of b) ≡ 1)
      by_ended true zero x = (refl, refl, refl)
      by_ended true (suc j) x = absurd (get_nothing j End x)
      by_ended false j x = absurd (get_nothing j End x)

module _ (p : Checked) (checked : IsChecked p) (constants : HasWordConstants p) (m : MemoryModel) (H f arg d : ℕ) (it : IsThread p d f H arg) (ran : Ran p f H arg) where
  abbrev shape : Shape
  shape = shape_of p.program

  -- the thread has made some actions of its run, and the rest is made alone
  pub record Going (w : World) (who : Parts) (rest : List Action) : Type 0 where
    pub fits : Fits p m w who
    pub self : who H ≡ Some (f, arg)
    pub other : fits.fails.handle ≢ H
    pub threads : (h g v : ℕ) → h ≢ H → who h ≡ Some (g, v) → (e : ℕ) × IsThread p e g h v × IsLive p g h v (w.acts h)
    pub over : (h g v : ℕ) → h < H → who h ≡ Some (g, v) → IsOver p g h v (w.acts h)
    pub whole : ran.run.actions ≡ w.acts H ++ rest
    pub top : ℕ
    pub next : ℕ
    pub ready : IsReady w H top next
    pub last : ℕ → Event
    pub mem : Memory
    pub memory : IsMemory shape w last mem
    pub lone : IsLone mem rest

  run_word : All IsOfWords ran.run.actions
  run_word = started_run_words p checked constants d f H arg ran.script it.started it.low it.word ran.words ran.run ran.runs

  belongs : All (BelongsTo shape) ran.run.actions
  belongs = run_belongs p f H arg ran.script ran.run ran.runs

  module _ (w : World) (who : Parts) (a : Action) (rest : List Action) (g : Going w who (a ∷ rest)) where
    abbrev n : ℕ
    n = length (w.acts H)

    here : slice_get ran.run.actions n ≡ Some a
    here = ap (λ (l : List Action). slice_get l n) g.whole ∙ get_append_right (w.acts H) (a ∷ rest) n 0 (omega arith)

    has : (x : Action) → a ≡ x → Contains ran.run.actions x
    has x e = contains_place ran.run.actions n x (here ∙ ap (λ z. Some z) e)

    before_in : (i : ℕ) (x : Action) → slice_get (w.acts H) i ≡ Some x → slice_get ran.run.actions i ≡ Some x
    before_in i x e = ap (λ (l : List Action). slice_get l i) g.whole ∙ get_append_left (w.acts H) (a ∷ rest) i x e

    -- a run of another thread that begins with what it made
    zero_memory : (c : ℕ) → IsWord 0
    zero_memory c = omega arith

    own_run : (h v u : ℕ) → IsLive p v h u (w.acts h) → (r : Ran p v h u) × ((more : List Action) × (r.run.actions ≡ w.acts h ++ more))
    own_run h v u (inl o) = (o.ran, ([], o.actions ∙ sym (append-nil (w.acts h))))
    own_run h v u (inr c) =
        let x : EndsAlone p v h u (w.acts h) (λ c. 0) = c.1 (λ c. 0) zero_memory in
        (record { script = x.script; words = x.words; run = x.run; runs = x.runs; all_used = x.all_used; not_bad = x.not_bad }, (x.made, x.actions))

    -- the handle of a new thread is nobody's yet
    nobody : (k b v : ℕ) → a ≡ Create k b v → (o : Option (ℕ × ℕ)) → who k ≡ o → who k ≡ None
    nobody k b v e None is = is
    nobody k b v e (Some x) is =
        let above : k ≡ 64 * H + (0 + before ran.run.actions n) + 1 = numbered_at k b v H 0 ran.run.actions n (run_is_numbered p f H arg ran.script ran.run ran.runs) (here ∙ ap (λ z. Some z) e) in
        let c = g.fits.made k x.0 x.1 is (λ z. omega (arith, z, above)) in
        absurd (taken c.0 c.1) where
          taken : (e' : Event) → made_at w.acts e' ≡ Some (Create k x.0 x.1) → ⊥
          taken Initial y = none-some _ y
          taken (At j i) y = ⊎_elim (λ same. own (subst (λ z. slice_get (w.acts z) i ≡ Some (Create k x.0 x.1)) same y)) (λ ne. other ne (w_of (who j) refl)) (cases_eq j H) where
            own : slice_get (w.acts H) i ≡ Some (Create k x.0 x.1) → ⊥
            own z =
                let one = creates_differ_in_a_run p f H arg ran.script ran.run ran.runs i n k x.0 b x.1 v (before_in i (Create k x.0 x.1) z) (here ∙ ap (λ z. Some z) e) in
                omega (arith, one, slice_get_within (w.acts H) i (Create k x.0 x.1) z)

            w_of : (o : Option (ℕ × ℕ)) → who j ≡ o → (z : ℕ × ℕ) × (who j ≡ Some z)
            w_of None s = absurd (get_nothing i (Create k x.0 x.1) (subst (λ (l : List Action). slice_get l i ≡ Some (Create k x.0 x.1)) (g.fits.none j s) y))
            w_of (Some z) s = (z, s)

            other : (j ≡ H → ⊥) → (z : ℕ × ℕ) × (who j ≡ Some z) → ⊥
            other ne z =
                let t = g.threads j z.0.0 z.0.1 ne z.1 in
                let r = own_run j z.0.0 z.0.1 t.2 in
                let q : slice_get r.0.run.actions i ≡ Some (Create k x.0 x.1) = ap (λ (l : List Action). slice_get l i) r.1.1 ∙ get_append_left (w.acts j) r.1.0 i (Create k x.0 x.1) y in
                ne (started_creates_differ p checked t.0 d z.0.0 f j H z.0.1 arg r.0.script ran.script r.0.run ran.run t.1.started it.started r.0.runs ran.runs k x.0 b x.1 v
                (contains_place r.0.run.actions i (Create k x.0 x.1) q) (has (Create k b v) e))

    above : (k b v : ℕ) → a ≡ Create k b v → H < k
    above k b v e =
        let is : k ≡ 64 * H + (0 + before ran.run.actions n) + 1 = numbered_at k b v H 0 ran.run.actions n (run_is_numbered p f H arg ran.script ran.run ran.runs) (here ∙ ap (λ z. Some z) e) in
        omega (arith, is)

    -- ---- the threads

    abbrev who' : Parts
    who' = who_with who a

    who_same : (h : ℕ) (x : ℕ × ℕ) → who h ≡ Some x → who' h ≡ Some x
    who_same h x e = by_action a refl where
      by_action : (b : Action) → a ≡ b → who_with who b h ≡ Some x
      by_action (Create k q v) is =
          let ne : h ≡ k → ⊥ = λ same. none-some x (sym (nobody k q v is (who k) refl) ∙ subst (λ z. who z ≡ Some x) same e) in
          cond-false (nat_eq h k) (Some (q, v)) (who h) (ne_eqb h k ne) ∙ e
      by_action b is = e

    who_none : (h : ℕ) → who' h ≡ None → who h ≡ None
    who_none h e = none_of (who h) refl where
      none_of : (o : Option (ℕ × ℕ)) → who h ≡ o → who h ≡ None
      none_of None s = s
      none_of (Some x) s = absurd (none-some x (sym e ∙ who_same h x s))

    who_cases : (h : ℕ) (x : ℕ × ℕ) → who' h ≡ Some x → (who h ≡ Some x) ⊎ (a ≡ Create h x.0 x.1)
    who_cases h x e = by_action a refl e where
      by_action : (b : Action) → a ≡ b → who_with who b h ≡ Some x → (who h ≡ Some x) ⊎ (a ≡ Create h x.0 x.1)
      by_action (Create k q v) is y =
          ⊎_elim
          (λ same.
          let told : (q, v) ≡ x = same_Some (q, v) x (sym (cond-true (nat_eq h k) (Some (q, v)) (who h) (eq-eqb h k same)) ∙ y) in
          inr (is ∙ ap (λ z. Create z q v) (sym same) ∙ ap (λ (z : ℕ × ℕ). Create h z.0 z.1) told))
          (λ ne. inl (sym (cond-false (nat_eq h k) (Some (q, v)) (who h) (ne_eqb h k ne)) ∙ y))
          (cases_eq h k)
      by_action b is y = inl y

    who_new : (h q v : ℕ) → a ≡ Create h q v → who' h ≡ Some (q, v)
    who_new h q v e = ap (λ b. who_with who b h) e ∙ cond-true (nat_eq h h) (Some (q, v)) (who h) (eq-eqb h h refl)

    -- ---- the memory

    abbrev src_of : Action → Event
    src_of (Read c v) = g.last c
    src_of _ = Initial

    abbrev src : Event
    src = src_of a

    cell_read : (c v : ℕ) → a ≡ Read c v → c < length shape.initials
    cell_read c v e = All-contains (BelongsTo shape) ran.run.actions (Read c v) belongs (has (Read c v) e)

    value_read : (c v : ℕ) → a ≡ Read c v → v ≡ g.mem c
    value_read c v e = let l : IsLone g.mem (Read c v ∷ rest) = subst (λ z. IsLone g.mem (z ∷ rest)) e g.lone in l.0

    no_join : (k : ℕ) → a ≡ Join k → ⊥
    no_join k e = subst (λ z. IsLone g.mem (z ∷ rest)) e g.lone

    is_next : IsNext shape w H a src
    is_next = record {
      source = λ c v e. subst (λ z. WritesTo shape w.acts (src_of z) c v) (sym e) (subst (λ u. WritesTo shape w.acts (g.last c) c u) (sym (value_read c v e)) (g.memory.writes c (cell_read c v e)));
      last = λ c v e ev u x. subst (λ z. w.global ev ≤ w.global (src_of z)) (sym e) (g.memory.latest c (cell_read c v e) ev u x);
      fresh = λ k b v e. g.fits.none k (nobody k b v e (who k) refl);
      awaited = λ e ev x.
          let j = g.fits.joined ev H x in
          let fr = run_framed p f H arg ran.script ran.run ran.runs in
          let one = ends_last ran.run.actions ran.run.ended fr j.1.0 (before_in j.1.0 End j.1.1) in
          let two = ends_last ran.run.actions ran.run.ended fr n (here ∙ ap (λ z. Some z) e) in
          omega (arith, one.1, two.1, slice_get_within (w.acts H) j.1.0 End j.1.1);
      no_join = no_join;
    }

    abbrev w' : World
    w' = world_with w H a src g.top g.next

    acts_other : (h : ℕ) → (h ≡ H → ⊥) → w'.acts h ≡ w.acts h
    acts_other h ne = other_more w.acts H a h ne

    fits' : Fits p m w' who'
    fits' = record {
      sound = sound_after m shape w H a src g.top g.next g.fits.sound g.ready is_next;
      fails = record {
        handle = g.fits.fails.handle;
        function = g.fits.fails.function;
        arg = g.fits.fails.arg;
        is = who_same g.fits.fails.handle (g.fits.fails.function, g.fits.fails.arg) g.fits.fails.is;
        over = record { ran = g.fits.fails.over.ran; actions = g.fits.fails.over.actions ∙ sym (acts_other g.fits.fails.handle g.other) };
        place = g.fits.fails.place;
        failed = g.fits.fails.failed;
      };
      main = who_same 0 (shape.main, 0) g.fits.main;
      none = λ h e.
          let old : who h ≡ None = who_none h e in
          acts_other h (λ same. none-some (f, arg) (sym old ∙ subst (λ z. who z ≡ Some (f, arg)) (sym same) g.self)) ∙ g.fits.none h old;
      made = λ h q v e ne. ⊎_elim
          (λ old. let x = g.fits.made h q v old ne in (x.0, made_kept w.acts H a x.0 (Create h q v) x.1))
          (λ is. (At H n, new_made w.acts H a ∙ ap (λ z. Some z) is)) (who_cases h (q, v) e);
      known = λ ev h q v x. ⊎_elim
          (λ old. let y = g.fits.known ev h q v old in (y.0, who_same h y.0 y.1))
          (λ is. ((q, v), who_new h q v (sym is.1))) (made_cases w.acts H a ev (Create h q v) x);
      joined = λ ev h x. ⊎_elim
          (λ old. let y = g.fits.joined ev h old in (y.0, (y.1.0, made_kept w.acts H a (At h y.1.0) End y.1.1)))
          (λ is. absurd (no_join h (sym is.1))) (made_cases w.acts H a ev (Join h) x);
    }

    new_thread : (h q v : ℕ) → a ≡ Create h q v → IsThread p (suc d) q h v
    new_thread h q v e = record {
      known = All-contains (BelongsTo shape) ran.run.actions (Create h q v) belongs (has (Create h q v) e);
      started = created d f q H arg h v ran.script ran.run it.started ran.runs (has (Create h q v) e);
      low = (started_handles_low p checked d f H arg ran.script ran.run it.started it.low ran.runs h q v (has (Create h q v) e)).0;
      word = let x : IsOfWords (Create h q v) = All-contains IsOfWords ran.run.actions (Create h q v) run_word (has (Create h q v) e) in x.1;
    }

    abbrev last_by : Action → ℕ → Event
    last_by (Write c v) x = cond (nat_eq x c) (At H n) (g.last x)
    last_by b x = g.last x

    abbrev mem_by : Action → Memory
    mem_by (Write c v) = written g.mem c v
    mem_by b = g.mem

    lone_by : (b : Action) → IsLone g.mem (b ∷ rest) → IsLone (mem_by b) rest
    lone_by (Write c v) l = l
    lone_by (Read c v) l = l.1
    lone_by (Join k) l = absurd l
    lone_by Open l = l
    lone_by Close l = l
    lone_by Fence l = l
    lone_by (Create k q v) l = l
    lone_by Start l = l
    lone_by End l = l

    rank_old : (e : Event) (c u : ℕ) → WritesTo shape w.acts e c u → w'.global e ≡ w.global e
    rank_old e c u x = put_old w.acts H a g.top w.global e (exists_old w.acts H a e (write_exists shape w.acts e c u x))

    rank_new : w'.global (At H n) ≡ g.top
    rank_new = put_new w.acts H a g.top w.global

    -- a cell whose last write is as before
    same_cell : (c : ℕ) → c < length shape.initials → (last : Event) → last ≡ g.last c → (value : ℕ) → value ≡ g.mem c → WritesTo shape w'.acts last c value
    same_cell c low last e value e' =
        subst (λ z. WritesTo shape w'.acts z c value) (sym e) (subst (λ v. WritesTo shape w'.acts (g.last c) c v) (sym e') (write_kept w.acts H a shape (g.last c) c (g.mem c) (g.memory.writes c low)))

    latest_old : (c : ℕ) → c < length shape.initials → (last : Event) → last ≡ g.last c → (e : Event) (u : ℕ) → WritesTo shape w.acts e c u → w'.global e ≤ w'.global last
    latest_old c low last same e u x =
        let one = rank_old e c u x in
        let two = ap w'.global same ∙ rank_old (g.last c) c (g.mem c) (g.memory.writes c low) in
        omega (arith, one, two, g.memory.latest c low e u x)

    latest_new : (last : Event) → last ≡ At H n → (c : ℕ) (e : Event) (u : ℕ) → WritesTo shape w'.acts e c u → w'.global e ≤ w'.global last
    latest_new last same c e u x =
        let two = ap w'.global same ∙ rank_new in
        ⊎_elim
        (λ old. omega (arith, rank_old e c u old, two, (g.ready.below e (write_exists shape w.acts e c u old)).1))
        (λ is. omega (arith, ap w'.global is.0, rank_new, two))
        (write_cases w.acts H a shape e c u x)

    memory_other : (b : Action) → a ≡ b → (last_by b ≡ g.last) → (mem_by b ≡ g.mem) → ((c v : ℕ) → b ≡ Write c v → ⊥) → IsMemory shape w' (last_by b) (mem_by b)
    memory_other b e l m' never = record {
      writes = λ c low. same_cell c low (last_by b c) (ap (λ (z : ℕ → Event). z c) l) (mem_by b c) (ap (λ (z : Memory). z c) m');
      latest = λ c low ev u x. ⊎_elim
          (λ old. latest_old c low (last_by b c) (ap (λ (z : ℕ → Event). z c) l) ev u old)
          (λ is. absurd (never c u (sym e ∙ sym is.1)))
          (write_cases w.acts H a shape ev c u x);
      words = λ c. subst (λ (z : Memory). IsWord (z c)) (sym m') (g.memory.words c);
    }

    memory_by : (b : Action) → a ≡ b → IsMemory shape w' (last_by b) (mem_by b)
    memory_by (Write c v) e =
        let word : IsWord v = let x : IsOfWords (Write c v) = All-contains IsOfWords ran.run.actions (Write c v) run_word (has (Write c v) e) in x in
        let made : made_at w'.acts (At H n) ≡ Some (Write c v) = new_made w.acts H a ∙ ap (λ z. Some z) e in
        record {
          writes = λ x low. ⊎_elim
              (λ same. subst (λ z. WritesTo shape w'.acts z x (written g.mem c v x)) (sym (cond-true (nat_eq x c) (At H n) (g.last x) (eq-eqb x c same)))
              (subst (λ u. slice_get (w'.acts H) n ≡ Some (Write x u)) (sym (cond-true (nat_eq x c) v (g.mem x) (eq-eqb x c same))) (subst (λ z. slice_get (w'.acts H) n ≡ Some (Write z v)) (sym same) made)))
              (λ ne. same_cell x low (last_by (Write c v) x) (cond-false (nat_eq x c) (At H n) (g.last x) (ne_eqb x c ne)) (written g.mem c v x) (cond-false (nat_eq x c) v (g.mem x) (ne_eqb x c ne)))
              (cases_eq x c);
          latest = λ x low ev u y. ⊎_elim
              (λ same. latest_new (last_by (Write c v) x) (cond-true (nat_eq x c) (At H n) (g.last x) (eq-eqb x c same)) x ev u y)
              (λ ne. ⊎_elim
              (λ old. latest_old x low (last_by (Write c v) x) (cond-false (nat_eq x c) (At H n) (g.last x) (ne_eqb x c ne)) ev u old)
              (λ is. absurd (ne (let z : Write x u ≡ Write c v = is.1 ∙ e in ap (λ (q : Action). cell q) z)))
              (write_cases w.acts H a shape ev x u y))
              (cases_eq x c);
          words = λ x. ⊎_elim
              (λ same. subst IsWord (sym (cond-true (nat_eq x c) v (g.mem x) (eq-eqb x c same))) word)
              (λ ne. subst IsWord (sym (cond-false (nat_eq x c) v (g.mem x) (ne_eqb x c ne))) (g.memory.words x))
              (cases_eq x c);
        } where
          cell : Action → ℕ
          cell (Write z u) = z
          cell q = 0
    memory_by (Read c v) e = memory_other (Read c v) e refl refl (λ c u x. cc)
    memory_by Open e = memory_other Open e refl refl (λ c u x. cc)
    memory_by Close e = memory_other Close e refl refl (λ c u x. cc)
    memory_by Fence e = memory_other Fence e refl refl (λ c u x. cc)
    memory_by (Create k q v) e = memory_other (Create k q v) e refl refl (λ c u x. cc)
    memory_by (Join k) e = memory_other (Join k) e refl refl (λ c u x. cc)
    memory_by Start e = memory_other Start e refl refl (λ c u x. cc)
    memory_by End e = memory_other End e refl refl (λ c u x. cc)

    -- the thread has made the action
    pub goes_on : Going w' who' rest
    unfolding fits'
    goes_on =
        let on = ready_after m shape w H a src g.top g.next g.fits.sound g.ready is_next in
        record {
          fits = fits';
          self = who_same H (f, arg) g.self;
          other = g.other;
          threads = λ h q v ne e. ⊎_elim
              (λ old. let t = g.threads h q v ne old in (t.0, t.1, subst (IsLive p q h v) (sym (acts_other h ne)) t.2))
              (λ is.
              let none : w'.acts h ≡ [] = acts_other h ne ∙ g.fits.none h (nobody h q v is (who h) refl) in
              let thread : IsThread p (suc d) q h v = new_thread h q v is in
              (suc d, thread, inr (ap (is_opened false) none, subst (CanEnd p q h v) (sym none) (thread_can_end p q h v (suc d) checked constants thread))))
              (who_cases h (q, v) e);
          over = λ h q v low e. ⊎_elim
              (λ old. subst (IsOver p q h v) (sym (acts_other h (λ z. omega (arith, z, low)))) (g.over h q v low old))
              (λ is. absurd (omega (arith, above h q v is, low)))
              (who_cases h (q, v) e);
          whole = g.whole ∙ sym (append_assoc (w.acts H) (a ∷ []) rest) ∙ ap (λ (l : List Action). l ++ rest) (sym (own_more w.acts H a));
          top = suc g.top;
          next = on.0;
          ready = on.1;
          last = last_by a;
          mem = mem_by a;
          memory = memory_by a refl;
          lone = lone_by a g.lone;
        }

  -- it makes all that is left
  pub goes_through : (w : World) (who : Parts) (rest : List Action) → Going w who rest → (v : World) × (it : Parts) × Going v it []
  goes_through w who [] g = (w, who, g)
  goes_through w who (a ∷ rest) g = goes_through (w' w who a rest g) (who' w who a rest g) rest (goes_on w who a rest g)

  -- and then it is over
  pub finished : (w : World) (who : Parts) → Going w who [] → Standing p m w who (suc H)
  finished w who g =
      let mine : IsOver p f H arg (w.acts H) = record { ran = ran; actions = g.whole ∙ append-nil (w.acts H) } in
      let over_at : (q v : ℕ) → who H ≡ Some (q, v) → IsOver p q H v (w.acts H) =
      λ q v e. subst (λ (x : ℕ × ℕ). IsOver p x.0 H x.1 (w.acts H)) (same_Some (f, arg) (q, v) (sym g.self ∙ e)) mine in
      let thread_at : (q v : ℕ) → who H ≡ Some (q, v) → IsThread p d q H v = λ q v e. subst (λ (x : ℕ × ℕ). IsThread p d x.0 H x.1) (same_Some (f, arg) (q, v) (sym g.self ∙ e)) it in
      record {
        stands = record {
          fits = g.fits;
          threads = λ h q v e. ⊎_elim
              (λ same. subst (λ z. who z ≡ Some (q, v) → (n : ℕ) × IsThread p n q z v × IsLive p q z v (w.acts z)) (sym same) (λ y. (d, thread_at q v y, inl (over_at q v y))) e)
              (λ ne. g.threads h q v ne e)
              (cases_eq h H);
          over = λ h q v low e. ⊎_elim
              (λ same. subst (λ z. who z ≡ Some (q, v) → IsOver p q z v (w.acts z)) (sym same) (λ y. over_at q v y) e)
              (λ ne. g.over h q v (⊎_elim (λ lt. lt) (λ ge. absurd (ne (omega (arith, ge, low)))) (cases_lt h H)) e)
              (cases_eq h H);
        };
        top = g.top;
        below = g.ready.below;
        last = g.last;
        mem = g.mem;
        memory = g.memory;
      }

-- ---- all threads

module _ (p : Checked) (checked : IsChecked p) (constants : HasWordConstants p) (m : MemoryModel) where
  abbrev Found : ℕ → Type 0
  Found n = (w : World) × (who : Parts) × Standing p m w who n

  module _ (w : World) (who : Parts) (H : ℕ) (s : Standing p m w who H) where
    -- the thread is over already, or there is none
    stays : ((q v : ℕ) → who H ≡ Some (q, v) → IsOver p q H v (w.acts H)) → Standing p m w who (suc H)
    stays mine = record {
      stands = record {
        fits = s.stands.fits;
        threads = s.stands.threads;
        over = λ h q v low e. ⊎_elim
            (λ same. subst (λ z. who z ≡ Some (q, v) → IsOver p q z v (w.acts z)) (sym same) (λ y. mine q v y) e)
            (λ ne. s.stands.over h q v (⊎_elim (λ lt. lt) (λ ge. absurd (ne (omega (arith, ge, low)))) (cases_lt h H)) e)
            (cases_eq h H);
      };
      top = s.top;
      below = s.below;
      last = s.last;
      mem = s.mem;
      memory = s.memory;
    }

    runs_out : (s.stands.fits.fails.handle ≢ H) → (f v d : ℕ) → who H ≡ Some (f, v) → IsThread p d f H v → is_opened false (w.acts H) ≡ false → EndsAlone p f H v (w.acts H) s.mem → Found (suc H)
    runs_out ne' f v d is it shut x =
        let ran : Ran p f H v = record { script = x.script; words = x.words; run = x.run; runs = x.runs; all_used = x.all_used; not_bad = x.not_bad } in
        let no_tail : (e : Event) → InTail w.acts H e → ⊥ = tail_free in
        let g : Going p checked constants m H f v d it ran w who x.made = record {
          fits = s.stands.fits;
          self = is;
          other = ne';
          threads = λ h q u ne e. s.stands.threads h q u e;
          over = λ h q u low e. s.stands.over h q u low e;
          whole = x.actions;
          top = s.top;
          next = s.top;
          ready = record { below = s.below; under = omega arith; others = λ e y. inl (s.below e y).2; tail = λ e y. absurd (no_tail e y) };
          last = s.last;
          mem = s.mem;
          memory = s.memory;
          lone = x.lone;
        } in
        let there = goes_through p checked constants m H f v d it ran w who x.made g in
        (there.0, there.1, finished p checked constants m H f v d it ran there.0 there.1 there.2) where
          tail_free : (e : Event) → InTail w.acts H e → ⊥
          tail_free Initial y = y
          tail_free (At k i) y = false≢true (sym shut ∙ open_shows false (w.acts H) y.2.0 y.2.2 y.2.3)

    abbrev failing : FailsAt p w who
    failing = s.stands.fits.fails

    next_over : (o : Option (ℕ × ℕ)) → who H ≡ o → (failing.handle ≡ H) ⊎ (failing.handle ≡ H → ⊥) → Found (suc H)
    next_over None is c = (w, who, stays (λ q v e. absurd (none-some (q, v) (sym is ∙ e))))
    next_over (Some x) is (inl same) =
        let at : who H ≡ Some (failing.function, failing.arg) = subst (λ z. who z ≡ Some (failing.function, failing.arg)) same failing.is in
        let over : IsOver p failing.function H failing.arg (w.acts H) = subst (λ z. IsOver p failing.function z failing.arg (w.acts z)) same failing.over in
        (w, who, stays (λ q v e. subst (λ (y : ℕ × ℕ). IsOver p y.0 H y.1 (w.acts H)) (same_Some (failing.function, failing.arg) (q, v) (sym at ∙ e)) over))
    next_over (Some x) is (inr ne) =
        let t = s.stands.threads H x.0 x.1 is in
        ⊎_elim
        (λ over. (w, who, stays (λ q v e. subst (λ (y : ℕ × ℕ). IsOver p y.0 H y.1 (w.acts H)) (same_Some x (q, v) (sym is ∙ e)) over)))
        (λ can. runs_out ne x.0 x.1 t.0 is t.1 can.0 (can.1 s.mem s.memory.words))
        t.2

  -- all threads below a handle are ended
  pub all_over : (w : World) (who : Parts) → Standing p m w who 0 → (n : ℕ) → Found n
  all_over w who s zero = (w, who, s)
  all_over w who s (suc n) = let x = all_over w who s n in next_over x.0 x.1 n x.2 (x.1 n) refl (cases_eq x.2.stands.fits.fails.handle n)
