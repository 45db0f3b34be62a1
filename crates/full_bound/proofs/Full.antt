-- A failing execution for a larger bound gives one for a lower bound at which spent bounds are told.
use Rattle.std.proofs.Common.{◌≡◌, ◌≢◌, ℕ, suc, ◌<◌, ◌≤◌, ◌^◌, List, [], ◌∷◌, ◌++◌, Some, true, false, length, refl, sym, ap, ◌∙◌, subst, inl, inr, ◌⊎◌, ⊎_elim, length-append, arith, get_or}
use Rattle.std.specs.Prelude.{slice_get, All}
use Rattle.std.specs.List.{AllZip}
use Rattle.std.proofs.Math.Nat.{pow-le-pow_right}
use Rattle.std.proofs.Math.ListN.{length-take}
use Rattle.std.proofs.lemmas.Bool.{cases_order}
use Rattle.std.proofs.lemmas.Option.{same_Some, none-some, slice_get_within, get_or_from_slice_get}
use Rattle.std.proofs.lemmas.List.Elements.{All-contains}
use Rattle.dg_base.specs.declared.Place.{Place}
use Rattle.dg_base.proofs.Lists.{get_nothing, get_append_right, contains_place}
use Rattle.axiom_model.specs.declared.MemoryModel.{MemoryModel}
use Rattle.axiom_model.specs.declared.Action.{Action}
use Rattle.axiom_model.specs.declared.Action.TheVariants.{Write, Create, Join, Start, End}
use Rattle.axiom_model.specs.declared.Event.{Event}
use Rattle.axiom_model.specs.declared.Event.TheVariants.{Initial, At}
use Rattle.axiom_model.specs.declared.ThreadPart.{ThreadPart}
use Rattle.axiom_model.specs.declared.Candidate.{Candidate}
use Rattle.axiom_model.specs.Execution.{Thread, Execution, actions_of, action_at}
use Rattle.axiom_model.specs.WellMade.{Shape, WellMade}
use Rattle.axiom_model.specs.Failing.{Run, RunsTo, threads_of, execution_of, HasWords}
use Rattle.axiom_model.proofs.Threads.{actions_of-thread}
use Rattle.c_check.specs.declared.checked.Checked.{Checked}
use Rattle.c_check.specs.WellFormed.{IsChecked}
use Rattle.run_model.specs.Programs.{shape_of}
use Rattle.run_model.specs.Threads.{thread_run, ProgramFails}
use Rattle.run_laws.specs.Frames.{last_of}
use Rattle.run_laws.specs.Belonging.{BelongsTo}
use Rattle.run_laws.specs.Words.{IsWord, HasWordConstants}
use Rattle.run_laws.proofs.Belonging.{run_belongs}
use Rattle.run_laws.proofs.Framing.{run_framed}
use Rattle.run_laws.proofs.Started.{started_shallow}
use Rattle.full_bound.specs.Alone.{IsThread}
use Rattle.full_bound.specs.FullBound.{IsUpTo}
use Rattle.full_bound.proofs.Ranks.{ranks}
use Rattle.full_bound.proofs.Worlds.{World, Exists, made_at, WritesTo, IsSound}
use Rattle.full_bound.proofs.Standing.{IsOver, Parts, Stands, Standing}
use Rattle.full_bound.proofs.Lowering.{lower, Line, line_of, thread_there, find_thread}
use Rattle.full_bound.proofs.Ranking.{AcceptsAll, world, world_sound}
use Rattle.full_bound.proofs.Cutting.{cut_world}
use Rattle.full_bound.proofs.Choosing.{IsCut, found}
use Rattle.full_bound.proofs.Beginning.{Threaded, stands, write_word, who}
use Rattle.full_bound.proofs.Measuring.{top_of, last_of as last_write, mem_of, memory_of}
use Rattle.full_bound.proofs.Going.{all_over}
use Rattle.full_bound.proofs.Candidates.{candidate, gathered_fails}

all_at : {A : Type 0} (P : A → Type 0) (xs : List A) (k : ℕ) (x : A) → All P xs → slice_get xs k ≡ Some x → P x
all_at P xs k x h e = subst P (get_or_from_slice_get xs k x x e) (h k x (slice_get_within xs k x e))

-- ---- all threads of a cut execution are ended

module _ (p : Checked) (checked : IsChecked p) (constants : HasWordConstants p) (m : MemoryModel) (N : ℕ) (limit : N ≡ 2 ^ 24) where
  below_limit : (d f h v : ℕ) → IsThread p d f h v → h < N
  below_limit d f h v it =
      let shallow = started_shallow p checked d f it.started in
      let top : 64 ^ d ≤ 64 ^ 4 = pow-le-pow_right (omega arith) shallow in
      let same : 64 ^ 4 ≡ 2 ^ 24 = refl in
      omega (arith, top, same, it.low, limit)

  pub ended : (w : World) (who : Parts) → Standing p m w who 0 → (d : Candidate) × ProgramFails p m d
  ended w who s =
      let it = all_over p checked constants m w who s N in
      let v = it.0 in
      let all = it.1 in
      let st = it.2.stands in
      let low : (h : ℕ) (z : ℕ × ℕ) → all h ≡ Some z → h < N = λ h z e. let t = st.threads h z.0 z.1 e in below_limit t.0 z.0 h z.1 t.1 in
      let over : (h f a : ℕ) → all h ≡ Some (f, a) → IsOver p f h a (v.acts h) = λ h f a e. st.over h f a (low h (f, a) e) e in
      let known : (h f a : ℕ) → all h ≡ Some (f, a) → f < (shape_of p.program).functions = λ h f a e. (st.threads h f a e).1.known in
      (candidate p m v all st.fits over N low (omega (arith, limit)) known, gathered_fails p m v all st.fits over N low (omega (arith, limit)) known)

-- ---- the threads of a failing execution

module _ (p q : Checked) (checked : IsChecked p) (constants : HasWordConstants p) (words : All IsWord (shape_of p.program).initials) (full : p.full ≡ true) (same : q.program ≡ p.program) (more : p.k ≤ q.k)
    (m : MemoryModel) (c : Candidate) (rs : List Run) (has_words : HasWords c) (runs : AllZip (RunsTo (thread_run q)) c.threads rs) (made : WellMade (shape_of p.program) (execution_of c rs))
    (place : ℕ) (failed : Run) (at : Place) (is_failed : slice_get rs place ≡ Some failed) (fails : failed.failed ≡ Some at)
    (local global block : Event → ℕ) (accept : AcceptsAll m (execution_of c rs) local global block)
    (differ : (a b : Event) → Exists (actions_of (threads_of c.threads rs)) a → Exists (actions_of (threads_of c.threads rs)) b → global a ≡ global b → a ≡ b) where
  abbrev s : Shape
  s = shape_of p.program

  abbrev x : Execution
  x = execution_of c rs

  abbrev acts : ℕ → List Action
  acts = actions_of x.threads

  abbrev F : ℕ
  F = (thread_there (thread_run q) c.threads rs runs place failed is_failed).0.handle

  one_place : (j k : ℕ) (t u : Thread) → slice_get x.threads j ≡ Some t → slice_get x.threads k ≡ Some u → t.handle ≡ u.handle → j ≡ k
  one_place j k t u a b e =
      ⊎_elim (λ z. z)
      (λ z. absurd (⊎_elim (λ l. let low = less j k t u l a b in omega (arith, low, e)) (λ l. let low = less k j u t l b a in omega (arith, low, e)) z))
      (cases_order j k) where
        less : (j k : ℕ) (t u : Thread) → j < k → slice_get x.threads j ≡ Some t → slice_get x.threads k ≡ Some u → t.handle < u.handle
        less j k t u l a b =
            let h : (get_or x.threads j t).handle < (get_or x.threads k t).handle = made.rising j k t l (slice_get_within x.threads k u b) in
            let first : (get_or x.threads j t).handle ≡ t.handle = ap (λ (z : Thread). z.handle) (get_or_from_slice_get x.threads j t t a) in
            let second : (get_or x.threads k t).handle ≡ u.handle = ap (λ (z : Thread). z.handle) (get_or_from_slice_get x.threads k u t b) in
            omega (arith, h, first, second)

  -- what is known of a handle's thread
  record Base (h : ℕ) : Type 0 where
    pub function : ℕ
    pub arg : ℕ
    pub script : List ℕ
    pub script_words : All IsWord script
    pub run : Run
    pub ran : thread_run p function h arg script ≡ Some run
    pub not_bad : run.bad ≡ false
    pub rest : List Action
    pub whole : acts h ≡ run.actions ++ rest
    pub told : (length run.actions < length (acts h)) ⊎ (h ≡ F) → (place : Place) × (run.failed ≡ Some place)
    pub created : h ≢ 0 → (e : Event) × (made_at acts e ≡ Some (Create h function arg))
    pub main : h ≡ 0 → (function ≡ s.main) × (arg ≡ 0)
    pub known : function < s.functions
    pub low : h < 2 ^ 24

  looked : (e : Event) (a : Action) → action_at x e ≡ Some a → made_at acts e ≡ Some a
  looked Initial a h = absurd (none-some a h)
  looked (At h i) a e = e

  base_line : (k : ℕ) (t : Thread) → slice_get x.threads k ≡ Some t → (l : Line (thread_run q) c.threads rs k t) → Base l.part.handle
  base_line k t e l =
      let h = l.part.handle in
      let handle : l.part.handle ≡ t.handle = ap (λ (z : Thread). z.handle) l.same in
      let fine : l.run.bad ≡ false = ap (λ (z : Thread). z.bad) l.same ∙ all_at (λ (z : Thread). z.bad ≡ false) x.threads k t made.none_bad e in
      let lo = lower p q full same more l.part.function l.part.handle l.part.arg l.part.script l.run l.runs_to.0 fine in
      let mine : acts h ≡ l.run.actions = ap acts handle ∙ actions_of-thread x.threads made.rising k t e ∙ sym (ap (λ (z : Thread). z.actions) l.same) in
      let known = all_at (λ (z : Thread). (z.function < s.functions) × (z.handle < 2 ^ 24)) x.threads k t made.known e in
      let create = all_at (λ (z : Thread). z.handle ≢ 0 → (e : Event) × (action_at x e ≡ Some (Create z.handle z.function z.arg))) x.threads k t made.created e in
      record {
        function = l.part.function;
        arg = l.part.arg;
        script = l.part.script;
        script_words = all_at (λ (z : ThreadPart). All (λ v. v < 2 ^ 32) z.script) c.threads k l.part has_words l.is_part;
        run = lo.run;
        ran = lo.runs;
        not_bad = lo.not_bad;
        rest = lo.rest;
        whole = mine ∙ lo.whole;
        told = λ z. ⊎_elim
            (λ e'. ⊎_elim
            (λ lost. absurd (let size : length (acts h) ≡ length lo.run.actions = ap length mine ∙ ap (λ (r : Run). length r.actions) (sym e') in omega (arith, lost, size)))
            (λ is.
            let f = thread_there (thread_run q) c.threads rs runs place failed is_failed in
            let p' : k ≡ place = one_place k place t f.0 e f.1 (sym handle ∙ is) in
            let r' : l.run ≡ failed = same_Some l.run failed (sym l.is_run ∙ ap (λ j. slice_get rs j) p' ∙ is_failed) in
            (at, ap (λ (r : Run). r.failed) (e' ∙ r') ∙ fails)) z)
            (λ y. y) lo.ends;
        created = λ ne.
            let there = subst (λ (z : Thread). z.handle ≢ 0 → (e : Event) × (action_at x e ≡ Some (Create z.handle z.function z.arg))) (sym l.same) create ne in
            (there.0, looked there.0 (Create h l.part.function l.part.arg) there.1);
        main = λ zero.
            let mt = made.has_main in
            let p' : k ≡ mt.0 = one_place k mt.0 t mt.1 e mt.2 (sym handle ∙ zero ∙ sym mt.3) in
            let t' : t ≡ mt.1 = same_Some t mt.1 (sym e ∙ ap (λ j. slice_get x.threads j) p' ∙ mt.2) in
            (ap (λ (z : Thread). z.function) (l.same ∙ t') ∙ mt.4.0, ap (λ (z : Thread). z.arg) (l.same ∙ t') ∙ mt.4.1);
        known = (subst (λ (z : Thread). (z.function < s.functions) × (z.handle < 2 ^ 24)) (sym l.same) known).0;
        low = (subst (λ (z : Thread). (z.function < s.functions) × (z.handle < 2 ^ 24)) (sym l.same) known).1;
      }

  base_at : (k : ℕ) (t : Thread) → slice_get x.threads k ≡ Some t → Base t.handle
  base_at k t e = let l = line_of (thread_run q) c.threads rs runs k t e in subst Base (ap (λ (z : Thread). z.handle) l.same) (base_line k t e l)

  base : (h : ℕ) → Base h ⊎ (acts h ≡ [])
  base h = ⊎_elim (λ z. inl (subst Base z.3 (base_at z.0 z.1 z.2))) (λ z. inr z.0) (find_thread x.threads h)

  length_in : (h : ℕ) → Base h ⊎ (acts h ≡ []) → ℕ
  length_in h (inl b) = length b.run.actions
  length_in h (inr e) = 0

  L : ℕ → ℕ
  L h = length_in h (base h)

  length_low : (h : ℕ) (b : Base h ⊎ (acts h ≡ [])) → length_in h b ≤ length (acts h)
  unfolding length_in
  length_low h (inl b) = omega (arith, ap length b.whole, length-append b.run.actions b.rest)
  length_low h (inr e) = omega arith

  -- runs have a first action
  base_starts : (h : ℕ) (b : Base h) → (slice_get (acts h) 0 ≡ Some Start) × (0 < length b.run.actions)
  base_starts h b =
      let fr = run_framed p b.function h b.arg b.script b.run b.ran in
      (ap (λ (l : List Action). slice_get l 0) (b.whole ∙ ap (λ l. l ++ b.rest) fr.whole), omega (arith, ap length fr.whole))

  not_none : (h : ℕ) → Base h → acts h ≡ [] → ⊥
  not_none h b e = get_nothing 0 Start (subst (λ (l : List Action). slice_get l 0 ≡ Some Start) e (base_starts h b).0)

  some_base : (h : ℕ) → 0 < length (acts h) → Base h
  some_base h l = ⊎_elim (λ b. b) (λ e. absurd (omega (arith, l, ap length e))) (base h)

  -- ---- the execution with its ranks

  cells : (e : Event) (d v : ℕ) → action_at x e ≡ Some (Write d v) → d < length s.initials
  cells Initial d v h = absurd (none-some (Write d v) h)
  cells (At k i) d v h = in_thread (find_thread x.threads k) where
    in_thread : ((j : ℕ) × (t : Thread) × (slice_get x.threads j ≡ Some t) × (t.handle ≡ k)) ⊎ ((acts k ≡ []) × ((j : ℕ) (t : Thread) → slice_get x.threads j ≡ Some t → t.handle ≡ k → ⊥)) → d < length s.initials
    in_thread (inr z) = absurd (get_nothing i (Write d v) (subst (λ (l : List Action). slice_get l i ≡ Some (Write d v)) z.0 h))
    in_thread (inl z) =
        let l = line_of (thread_run q) c.threads rs runs z.0 z.1 z.2 in
        let mine : acts k ≡ l.run.actions = ap acts (sym z.3) ∙ actions_of-thread x.threads made.rising z.0 z.1 z.2 ∙ sym (ap (λ (z : Thread). z.actions) l.same) in
        let there : slice_get l.run.actions i ≡ Some (Write d v) = ap (λ (l : List Action). slice_get l i) (sym mine) ∙ h in
        let b : BelongsTo (shape_of q.program) (Write d v) = All-contains (BelongsTo (shape_of q.program)) l.run.actions (Write d v) (run_belongs q l.part.function l.part.handle l.part.arg l.part.script l.run l.runs_to.0) (contains_place l.run.actions i (Write d v) there) in
        subst (λ z. d < length (shape_of z).initials) same b

  abbrev w : World
  w = world m s x made local global block accept differ cells

  sound : IsSound m s w
  sound = world_sound m s x made local global block accept differ cells

  whole_L : (h : ℕ) → L h ≤ length (w.acts h)
  unfolding L
  whole_L h = length_low h (base h)

  starts_L : (h : ℕ) → 0 < length (w.acts h) → slice_get (w.acts h) 0 ≡ Some Start
  starts_L h l = (base_starts h (some_base h l)).0

  low_L : (h : ℕ) → 0 < length (w.acts h) → h < 2 ^ 24
  low_L h l = (some_base h l).low

  module _ (N : ℕ) (limit : N ≡ 2 ^ 24) where
    low_N : (h : ℕ) → 0 < length (w.acts h) → h < N
    low_N h l = omega (arith, low_L h l, limit)

    cut_found : (S : ℕ) × (n : ℕ → ℕ) × IsCut m s w sound L whole_L starts_L N low_N F S n × ((L S < length (w.acts S)) ⊎ (S ≡ F))
    cut_found = found m s w sound L whole_L starts_L N low_N F

    abbrev S : ℕ
    S = cut_found.0

    abbrev n : ℕ → ℕ
    n = cut_found.1

    abbrev It : ℕ → Type 0
    It h = Threaded p checked constants m w sound L n S F N h

    threaded_in : (h : ℕ) (b : Base h) → L h ≡ length b.run.actions → It h
    threaded_in h b size = record {
      function = b.function;
      arg = b.arg;
      script = b.script;
      words = b.script_words;
      run = b.run;
      runs = b.ran;
      not_bad = b.not_bad;
      rest = b.rest;
      whole = b.whole;
      size = size;
      told = λ z. b.told (⊎_elim (λ l. inl (omega (arith, l, size))) inr z);
      made = b.created;
      main = b.main;
    }

    info_by : (h : ℕ) (b : Base h ⊎ (acts h ≡ [])) → L h ≡ length_in h b → It h ⊎ (w.acts h ≡ [])
    unfolding length_in
    info_by h (inl b) e = inl (threaded_in h b e)
    info_by h (inr z) e = inr z

    info : (h : ℕ) → It h ⊎ (w.acts h ≡ [])
    unfolding L
    info h = info_by h (base h) refl

    thread_at : (h : ℕ) → Base h → It h
    thread_at h b = ⊎_elim (λ t. t) (λ e. absurd (not_none h b e)) (info h)

    main_base : Base 0
    main_base = let mt = made.has_main in subst Base mt.3 (base_at mt.0 mt.1 mt.2)

    failing_base : Base F
    failing_base = let f = thread_there (thread_run q) c.threads rs runs place failed is_failed in base_at place f.0 f.1

    chosen_base : (L S < length (w.acts S)) ⊎ (S ≡ F) → Base S
    chosen_base (inl l) = some_base S (omega (arith, l))
    chosen_base (inr e) = subst Base (sym e) failing_base

    main_low : s.main < s.functions
    main_low = let parts = main_base.main refl in subst (λ z. z < s.functions) parts.0 main_base.known

    waits : (e : Event) (h : ℕ) → made_at w.acts e ≡ Some (Join h) → (h ≢ 0) × ((i : ℕ) × (slice_get (w.acts h) i ≡ Some End))
    waits Initial h y = absurd (none-some (Join h) y)
    waits (At k j) h y =
        let z = made.joins (At k j) h y in
        let t = z.1 in
        let l = line_of (thread_run q) c.threads rs runs t.0 t.1 t.2 in
        let fr = run_framed q l.part.function l.part.handle l.part.arg l.part.script l.run l.runs_to.0 in
        let over : l.run.ended ≡ true = ap (λ (z : Thread). z.ended) l.same ∙ t.4 in
        let mine : acts h ≡ l.run.actions = ap acts (sym t.3) ∙ actions_of-thread x.threads made.rising t.0 t.1 t.2 ∙ sym (ap (λ (z : Thread). z.actions) l.same) in
        let last : slice_get (Start ∷ (fr.inner ++ last_of true)) (suc (length fr.inner)) ≡ Some End = get_append_right fr.inner (End ∷ []) (length fr.inner) 0 (omega arith) in
        (z.0, (suc (length fr.inner), ap (λ (l : List Action). slice_get l (suc (length fr.inner))) (mine ∙ fr.whole ∙ ap (λ b. Start ∷ (fr.inner ++ last_of b)) over) ∙ last))

    empty_none : (h : ℕ) → w.acts h ≡ [] → n h ≡ 0
    empty_none h e = omega (arith, cut_found.2.fits h, whole_L h, ap length e)

    abbrev Cut : World
    Cut = cut_world m s w sound n cut_found.2.reads

    abbrev parts : Parts
    parts = who p checked constants m w sound L n S F N info cut_found.2.fits cut_found.2.self cut_found.2.reads cut_found.2.creates cut_found.2.joins cut_found.2.shut empty_none low_N (thread_at 0 main_base) main_low (thread_at S (chosen_base cut_found.3)) cut_found.3 waits

    cut_stands : Stands p m Cut parts 0
    cut_stands = stands p checked constants m w sound L n S F N info cut_found.2.fits cut_found.2.self cut_found.2.reads cut_found.2.creates cut_found.2.joins cut_found.2.shut empty_none low_N (thread_at 0 main_base) main_low (thread_at S (chosen_base cut_found.3)) cut_found.3 waits

    cut_low : (h : ℕ) → 0 < length (Cut.acts h) → h < N
    cut_low h l = low_N h (omega (arith, l, length-take (n h) (w.acts h)))

    cut_words : (e : Event) (d v : ℕ) → WritesTo s Cut.acts e d v → IsWord v
    cut_words Initial d v y = all_at IsWord s.initials d v words y
    cut_words (At k j) d v y =
        write_word p checked constants m w sound L n S F N info cut_found.2.fits cut_found.2.self cut_found.2.reads cut_found.2.creates cut_found.2.joins cut_found.2.shut empty_none low_N (thread_at 0 main_base) main_low (thread_at S (chosen_base cut_found.3)) cut_found.3 waits k j d v y

    cut_standing : Standing p m Cut parts 0
    cut_standing =
        let t = top_of Cut N cut_low in
        record {
          stands = cut_stands;
          top = t.0;
          below = t.1;
          last = last_write Cut N cut_low s cut_words;
          mem = mem_of Cut N cut_low s cut_words;
          memory = memory_of Cut N cut_low s cut_words;
        }

    pub full_fails : (d : Candidate) × ProgramFails p m d
    full_fails = ended p checked constants m N limit Cut parts cut_standing

-- ---- the law

module _ (p q : Checked) (m : MemoryModel) (up : IsUpTo p q) (c : Candidate) (f : ProgramFails q m c) where
  abbrev whole : Execution
  whole = execution_of c f.allowed.threads

  made_here : WellMade (shape_of p.program) whole
  made_here = subst (λ z. WellMade (shape_of z) whole) up.program f.allowed.well_made

  -- with ranks
  found_by : (local global block : Event → ℕ) → AcceptsAll m whole local global block → ((a b : Event) → Exists (actions_of whole.threads) a → Exists (actions_of whole.threads) b → global a ≡ global b → a ≡ b) → (d : Candidate) × ProgramFails p m d
  found_by local global block accept differ =
      full_fails p q up.checked up.words.constants up.words.cells up.told up.program up.bound m c f.allowed.threads f.allowed.words f.allowed.whole made_here
      f.fails.0 f.fails.1 f.fails.2 f.fails.3 f.fails.4 local global block accept differ (2 ^ 24) refl

  handles_low : (h : ℕ) → 0 < length (actions_of whole.threads h) → h < 2 ^ 24
  handles_low h l =
      ⊎_elim
      (λ z.
      let known = all_at (λ (t : Thread). (t.function < (shape_of p.program).functions) × (t.handle < 2 ^ 24)) whole.threads z.0 z.1 made_here.known z.2 in
      subst (λ n. n < 2 ^ 24) z.3 known.1)
      (λ z. absurd (omega (arith, l, ap length z.0)))
      (find_thread whole.threads h)

  pub suffices : (d : Candidate) × ProgramFails p m d
  suffices = let r = ranks m whole f.allowed.consistent (2 ^ 24) handles_low in found_by r.local r.global r.block r.accepts r.differ
