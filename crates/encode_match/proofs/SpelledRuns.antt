-- The threads that an assignment spells have their runs.
use Rattle.std.proofs.Common.{◌≡◌, ℕ, zero, suc, ◌+◌, ◌<◌, ◌≤◌, ◌^◌, ⊎_elim, Bool, true, false, cond, ◌&&◌, nat_eq, List, [], ◌∷◌, ◌++◌, map, length, refl, ap, sym, ◌∙◌, subst, arith}
use Rattle.std.specs.Prelude.{Option, Some, slice_get, Contains, All}
use Rattle.std.specs.List.{AllZip}
use Rattle.std.proofs.lemmas.Bool.{cases_Bool, cases_eq, cond-true, cond-false, both_ways, and_parts, and_from, eqb-true, eq-eqb, false≢true}
use Rattle.std.proofs.lemmas.Option.{same_Some, slice_get_within}
use Rattle.std.proofs.lemmas.List.{length-map}
use Rattle.std.proofs.lemmas.List.Elements.{All-nil, All-cons, All-map, All-contains, Contains-append_left, Contains-append_right}
use Rattle.dg_base.specs.declared.Lit.{Lit}
use Rattle.dg_base.specs.Values.{is_true}
use Rattle.dg_base.proofs.Lists.{get_nothing, one_answer, get_append_right, get_map, contains_head}
use Rattle.axiom_model.specs.declared.MemoryModel.{MemoryModel}
use Rattle.axiom_model.specs.declared.ThreadPart.{ThreadPart}
use Rattle.axiom_model.specs.Failing.{Run, RunsTo}
use Rattle.bv_term.specs.declared.term.TermId.{TermId}
use Rattle.bv_term.specs.declared.term.Term.TheVariants.{Input}
use Rattle.bv_term.specs.Values.{IsListed}
use Rattle.bv_term.proofs.ValueLaws.{value_fits}
use Rattle.c_check.specs.declared.checked.Checked.{Checked}
use Rattle.c_check.specs.WellFormed.{IsChecked}
use Rattle.run_model.specs.Threads.{thread_run}
use Rattle.run_laws.specs.Started.{StartedHandlesAreLow}
use Rattle.cnf_problem.specs.Literals.{value}
use Rattle.bit_gates.specs.Words.{number}
use Rattle.bit_blast.specs.Blasting.{word_at, inputs_under}
use Rattle.flat_prog.specs.declared.Flat.{Flat}
use Rattle.loop_unroll.specs.Unrolled.{IsUnrolled}
use Rattle.ssa_form.specs.declared.Ssa.{Ssa}
use Rattle.ssa_form.specs.declared.SsaPart.{SsaPart}
use Rattle.ssa_form.specs.declared.SsaStep.{SsaStep}
use Rattle.ssa_form.specs.declared.SsaAct.{SsaAct}
use Rattle.ssa_form.specs.declared.SsaAct.TheVariants as act
use Rattle.ssa_form.specs.Parts.{Valuation, input_of, inputs_in, is_made, made_of, script_of}
use Rattle.ssa_form.specs.Form.{under}
use Rattle.memory_models.specs.declared.StaticEvent.{StaticEvent}
use Rattle.memory_models.specs.declared.StaticKind.{StaticKind}
use Rattle.memory_models.specs.declared.StaticKind.TheVariants as kind
use Rattle.memory_models.specs.declared.EventBits.{EventBits}
use Rattle.memory_models.specs.Events.{IsAt}
use Rattle.event_graph.specs.Graphs.{acting, guard_lit, event_of, events_of, bits_by, bits_in, bits_of, handle_in, value_term}
use Rattle.event_graph.specs.Laws.{IsSpelled}
use Rattle.event_graph.proofs.Acting.{acting_at}
use Rattle.event_graph.proofs.Opening.{acting_before}
use Rattle.event_graph.proofs.Origins.{first_of, section_at, NodeOf, node_of, acting_node, event_there, thread_acted, acted_of}
use Rattle.event_graph.proofs.Spelled.{words_fit, guard_made}
use Rattle.encode_match.specs.declared.Taken.{Taken}
use Rattle.encode_match.specs.declared.PartMap.{PartMap}
use Rattle.encode_match.specs.declared.Encoded.{Encoded}
use Rattle.encode_match.specs.Spelling.{script_in, is_start, starts, handles_in, thread_with, threads_from, threads_of}
use Rattle.encode_match.specs.Parts.{taken_by, taken_in, part_map, IsMadeOf}
use Rattle.encode_match.specs.Running.{IsRunning, RunsAsPart}
use Rattle.encode_match.specs.Directions.{SpelledThreadsRun}
use Rattle.encode_match.proofs.Acts.{not_initial}
use Rattle.encode_match.proofs.PartRuns.{all_at, instance_of, parts_run_as_threads}
use Rattle.encode_match.proofs.StartedParts.{running_parts_are_started}
use Rattle.encode_match.proofs.HoldingGraphs.{instance_is, spelled, kind_is, start_act}

-- ---- handles

handles_some : (s : List Bool) (i : ℕ) (es : List StaticEvent) (bs : List EventBits) (h n : ℕ) (e : StaticEvent) (b : EventBits) → slice_get es n ≡ Some e → slice_get bs n ≡ Some b → starts s i e ≡ true
    → ((k : ℕ) (d : StaticEvent) (c : EventBits) → slice_get es k ≡ Some d → slice_get bs k ≡ Some c → starts s i d ≡ true → number s c.bits ≡ h) → handles_in s i es bs ≡ h ∷ []
handles_some s i [] bs h n e b p q t all = absurd (get_nothing n e p)
handles_some s i (d ∷ es) [] h n e b p q t all = absurd (get_nothing n b q)
handles_some s i (d ∷ es) (c ∷ bs) h n e b p q t all =
    ⊎_elim
    (λ u. cond-true (starts s i d) (number s c.bits ∷ []) (handles_in s i es bs) u ∙ ap (λ (z : ℕ). z ∷ []) (all zero d c refl refl u))
    (λ u. cond-false (starts s i d) (number s c.bits ∷ []) (handles_in s i es bs) u
    ∙ later n p q u (λ r j l. handles_some s i es bs h r e b j l t (λ m x y f g z. all (suc m) x y f g z)))
    (cases_Bool (starts s i d))
  where
    later : (r : ℕ) → slice_get (d ∷ es) r ≡ Some e → slice_get (c ∷ bs) r ≡ Some b → starts s i d ≡ false
        → ((r : ℕ) → slice_get es r ≡ Some e → slice_get bs r ≡ Some b → handles_in s i es bs ≡ h ∷ []) → handles_in s i es bs ≡ h ∷ []
    later zero j l u go = absurd (both_ways (starts s i d) u (ap (starts s i) (same_Some d e j) ∙ t))
    later (suc r) j l u go = go r j l

handles_none : (s : List Bool) (i : ℕ) (es : List StaticEvent) (bs : List EventBits) → ((k : ℕ) (d : StaticEvent) → slice_get es k ≡ Some d → starts s i d ≡ false) → handles_in s i es bs ≡ []
handles_none s i [] bs all = refl
handles_none s i (d ∷ es) [] all = refl
handles_none s i (d ∷ es) (c ∷ bs) all =
    cond-false (starts s i d) (number s c.bits ∷ []) (handles_in s i es bs) (all zero d refl) ∙ handles_none s i es bs (λ k e h. all (suc k) e h)

start_kind : (k : StaticKind) → is_start k ≡ true → k ≡ kind.Start
start_kind kind.Start h = refl
start_kind kind.Initial h = absurd (false≢true h)
start_kind kind.Read h = absurd (false≢true h)
start_kind kind.Write h = absurd (false≢true h)
start_kind kind.Full h = absurd (false≢true h)
start_kind kind.End h = absurd (false≢true h)
start_kind kind.Join h = absurd (false≢true h)
start_kind (kind.Create i) h = absurd (false≢true h)

all_any : {A : Type 0} (P : A → Type 0) → ((a : A) → P a) → (xs : List A) → All P xs
all_any P f [] = All-nil P
all_any P f (x ∷ xs) = All-cons P x xs (f x) (all_any P f xs)

input_in : (ss : List SsaStep) (j : ℕ) (t : SsaStep) (u : TermId) → slice_get ss j ≡ Some t → Contains (input_of t.act) u → Contains (inputs_in ss) u
input_in [] j t u h c = absurd (get_nothing j t h)
input_in (d ∷ ss) zero t u h c = Contains-append_left (input_of d.act) (inputs_in ss) u (subst (λ (z : SsaStep). Contains (input_of z.act) u) (sym (same_Some d t h)) c)
input_in (d ∷ ss) (suc j) t u h c = Contains-append_right (input_of d.act) (inputs_in ss) u (input_in ss j t u h c)

-- ---- one form, its words and an assignment that spells them

module _ (flat : Flat) (f : Ssa) (words : List (List Lit)) (s : List Bool) (k : IsSpelled flat f words s) where
  abbrev es : List StaticEvent
  es = events_of f words

  abbrev bs : List EventBits
  bs = bits_of f words

  abbrev v : Valuation
  v = under (inputs_under s words) f

  pub word_value : (t : TermId) → IsListed f.terms t → number s (word_at words t.0) ≡ v t
  word_value t h = k.spelled t.0 h

  -- the bits of a step's node are those of the value that goes with it
  pub bits_there : (i j n : ℕ) (p : SsaPart) (t : SsaStep) → NodeOf f i j n p t → slice_get bs n ≡ Some (bits_by words (value_term p.handle t.act))
  bits_there i j n p t h =
      let a = acting_node f i j n p t h in
      let long : length (map (bits_by words) f.initials) ≡ length f.initials = length-map f.initials (bits_by words) in
      let at = a.1 in
      get_append_right (map (bits_by words) f.initials) (map (bits_in f.parts words) (acting f)) n a.0 (omega (arith, long, at))
      ∙ (get_map (bits_in f.parts words) (acting f) a.0 (acting_at i t (section_at f i j p) n) a.2
      ∙ ap (λ (o : Option SsaPart). Some (bits_by words (value_term (handle_in o) t.act))) h.part)

  abbrev first_step : SsaPart → SsaStep
  first_step p = record { guard = p.start; act = act.Start }

  -- the Start of a part
  record StartOf (i : ℕ) (p : SsaPart) : Type 0 where
    pub node : ℕ
    pub is : NodeOf f i 0 node p (first_step p)

  start_of : (i : ℕ) (p : SsaPart) → slice_get f.parts i ≡ Some p → StartOf i p
  start_of i p h =
      let of = (instance_of flat f i p k.form h).is_part in
      record { node = _; is = node_of f i 0 p (first_step p) h of.starts refl }

  abbrev start_event : ℕ → ℕ → SsaPart → StaticEvent
  start_event i n p = event_of words (acting_at i (first_step p) (section_at f i 0 p) n)

  start_true : (i : ℕ) (p : SsaPart) (n : ℕ) → NodeOf f i 0 n p (first_step p) → value s (start_event i n p).guard ≡ is_true (v p.start)
  start_true i p n h = guard_made flat f words s k i 0 p (first_step p) h.part h.there

  -- an event that is the Start of an instance is that of its part
  start_only : (i n r : ℕ) (p : SsaPart) (d : StaticEvent) → NodeOf f i 0 n p (first_step p) → IsAt es r d → is_start d.kind ≡ true → nat_eq d.instance i ≡ true → r ≡ n
  start_only i n r p d h at t q =
      let is_kind = start_kind d.kind t in
      let u = thread_acted f words r d (record { there = at; acts = not_initial d.kind kind.Start is_kind refl }) in
      let same : u.0 ≡ i = sym (instance_is f words u.0 r u.1 d u.2) ∙ eqb-true d.instance i q in
      let w = acted_of f words i u.0 r p u.1 d u.2 same h.part in
      let of = (instance_of flat f i p k.form h.part).is_part in
      let is_act = start_act w.step.act (sym (kind_is flat f words s k i r p d w) ∙ is_kind) in
      let first : w.place ≡ 0 = of.starts_once w.place w.step w.node.there is_act in
      let c : r ≡ first_of f i + acting_before 0 p.steps = subst (λ (z : ℕ). r ≡ first_of f i + acting_before z p.steps) first w.node.count in
      c ∙ sym h.count

  pub handles_running : (i : ℕ) (p : SsaPart) → IsRunning f v i p → handles_in s i es bs ≡ v p.handle ∷ []
  handles_running i p r =
      let o = start_of i p r.there in
      let of = (instance_of flat f i p k.form r.there).is_part in
      let listed : IsListed f.terms p.handle = all_at (IsListed f.terms) (p.start ∷ p.handle ∷ p.arg ∷ []) 1 p.handle of.listed refl in
      let now : value s (start_event i o.node p).guard ≡ true = start_true i p o.node o.is ∙ ap is_true r.starts in
      handles_some s i es bs (v p.handle) o.node (start_event i o.node p) (bits_by words p.handle) (event_there f words i 0 o.node p (first_step p) o.is) (bits_there i 0 o.node p (first_step p) o.is)
      (and_from (is_start kind.Start && nat_eq i i) (value s (start_event i o.node p).guard) (and_from (is_start kind.Start) (nat_eq i i) refl (eq-eqb i i refl)) now)
      (λ n d c at bits t.
      let parts = and_parts (is_start d.kind && nat_eq d.instance i) (value s d.guard) t in
      let both = and_parts (is_start d.kind) (nat_eq d.instance i) parts.0 in
      let one : n ≡ o.node = start_only i o.node n p d o.is at both.0 both.1 in
      let same : c ≡ bits_by words p.handle = one_answer (slice_get bs o.node) c (bits_by words p.handle) (subst (λ (z : ℕ). slice_get bs z ≡ Some c) one bits) (bits_there i 0 o.node p (first_step p) o.is) in
      ap (λ (z : EventBits). number s z.bits) same ∙ word_value p.handle listed)

  handles_sleeping : (i : ℕ) (p : SsaPart) → slice_get f.parts i ≡ Some p → v p.start ≡ 0 → handles_in s i es bs ≡ []
  handles_sleeping i p h z =
      let o = start_of i p h in
      let never : value s (start_event i o.node p).guard ≡ false = start_true i p o.node o.is ∙ ap is_true z in
      handles_none s i es bs
      (λ n d at. ⊎_elim
      (λ t.
      let parts = and_parts (is_start d.kind && nat_eq d.instance i) (value s d.guard) t in
      let both = and_parts (is_start d.kind) (nat_eq d.instance i) parts.0 in
      let one : n ≡ o.node = start_only i o.node n p d o.is at both.0 both.1 in
      let same : d ≡ start_event i o.node p = one_answer (slice_get es o.node) d (start_event i o.node p) (subst (λ (y : ℕ). slice_get es y ≡ Some d) one at) (event_there f words i 0 o.node p (first_step p) o.is) in
      absurd (both_ways (value s d.guard) (ap (λ (y : StaticEvent). value s y.guard) same ∙ never) parts.1))
      (λ t. t) (cases_Bool (starts s i d)))

  -- a part runs or sleeps, and its handles show it
  pub data Shown (i : ℕ) (p : SsaPart) : Type 0 where
    runs : IsRunning f v i p → handles_in s i es bs ≡ v p.handle ∷ [] → Shown i p
    sleeps : handles_in s i es bs ≡ [] → Shown i p

  pub shown : (i : ℕ) (p : SsaPart) → slice_get f.parts i ≡ Some p → Shown i p
  shown i p h =
      let of = (instance_of flat f i p k.form h).is_part in
      let low : v p.start ≤ 1 = all_at (λ (t : SsaStep). v t.guard ≤ 1) p.steps 0 (first_step p) (of.truths (inputs_under s words) (words_fit flat f words s k)) of.starts in
      ⊎_elim
      (λ z. sleeps (handles_sleeping i p h z))
      (λ n. let r : IsRunning f v i p = record { there = h; starts = omega (arith, low, n) } in runs r (handles_running i p r))
      (cases_eq (v p.start) 0)

  -- ---- scripts

  -- what is known of a step: its guard's literal, and the words of its inputs
  record Read (t : SsaStep) : Type 0 where
    pub guard : value s (guard_lit words t.guard) ≡ is_made v t
    pub input : (u : TermId) → Contains (input_of t.act) u → number s (word_at words u.0) ≡ v u

  inputs_made : (t : SsaStep) (ms : List SsaStep) (b : Bool) → inputs_in (cond b (t ∷ ms) ms) ≡ cond b (input_of t.act ++ inputs_in ms) (inputs_in ms)
  inputs_made t ms true = refl
  inputs_made t ms false = refl

  taken : (t : SsaStep) (a : SsaAct) (rest : List Taken) (us : List TermId) (b : Bool) → value s (guard_lit words t.guard) ≡ b → ((u : TermId) → Contains (input_of a) u → number s (word_at words u.0) ≡ v u) → script_in s rest ≡ map v us
      → script_in s (taken_by words t a ++ rest) ≡ map v (cond b (input_of a ++ us) us)
  taken t (act.Take u) rest us true e h r =
      cond-true (value s (guard_lit words t.guard)) (number s (word_at words u.0) ∷ script_in s rest) (script_in s rest) e
      ∙ (ap (λ (z : ℕ). z ∷ script_in s rest) (h u (contains_head u [])) ∙ ap (λ (l : List ℕ). v u ∷ l) r)
  taken t (act.Take u) rest us false e h r = cond-false (value s (guard_lit words t.guard)) (number s (word_at words u.0) ∷ script_in s rest) (script_in s rest) e ∙ r
  taken t (act.Read c u) rest us true e h r =
      cond-true (value s (guard_lit words t.guard)) (number s (word_at words u.0) ∷ script_in s rest) (script_in s rest) e
      ∙ (ap (λ (z : ℕ). z ∷ script_in s rest) (h u (contains_head u [])) ∙ ap (λ (l : List ℕ). v u ∷ l) r)
  taken t (act.Read c u) rest us false e h r = cond-false (value s (guard_lit words t.guard)) (number s (word_at words u.0) ∷ script_in s rest) (script_in s rest) e ∙ r
  taken t a rest us true e h r = r
  taken t a rest us false e h r = r

  script_read : (ss : List SsaStep) → ((j : ℕ) (t : SsaStep) → slice_get ss j ≡ Some t → Read t) → script_in s (taken_in words ss) ≡ script_of v ss
  script_read [] h = refl
  script_read (t ∷ ss) h =
      taken t t.act (taken_in words ss) (inputs_in (made_of v ss)) (is_made v t) (h zero t refl).guard (h zero t refl).input (script_read ss (λ j u e. h (suc j) u e))
      ∙ ap (map v) (sym (inputs_made t (made_of v ss) (is_made v t)))

  input_listed : (i j : ℕ) (p : SsaPart) (t : SsaStep) (u : TermId) → slice_get f.parts i ≡ Some p → slice_get p.steps j ≡ Some t → Contains (input_of t.act) u → IsListed f.terms u
  input_listed i j p t u h e c =
      let of = (instance_of flat f i p k.form h).is_part in
      slice_get_within f.terms u.0 Input (All-contains (λ (z : TermId). slice_get f.terms z.0 ≡ Some Input) (inputs_in p.steps) u of.inputs (input_in p.steps j t u e c))

  pub script_is : (i : ℕ) (p : SsaPart) → slice_get f.parts i ≡ Some p → script_in s (taken_in words p.steps) ≡ script_of v p.steps
  script_is i p h =
      script_read p.steps (λ j t e. record { guard = guard_made flat f words s k i j p t h e; input = λ u c. word_value u (input_listed i j p t u h e c) })

  -- ---- threads

  abbrev thread_at : SsaPart → ThreadPart
  thread_at p = thread_with s (part_map words p) (v p.handle)

  abbrev threads_in : ℕ → List SsaPart → List ThreadPart
  threads_in i ps = threads_from s i es bs (map (part_map words) ps)

  -- the parts of a list are those of the form from a place on
  abbrev AreFrom : ℕ → List SsaPart → Type 0
  AreFrom i ps = (j : ℕ) (p : SsaPart) → slice_get ps j ≡ Some p → slice_get f.parts (i + j) ≡ Some p

  pub first_from : (i : ℕ) (p : SsaPart) (ps : List SsaPart) → AreFrom i (p ∷ ps) → slice_get f.parts i ≡ Some p
  first_from i p ps h = let same : i + 0 ≡ i = omega arith in subst (λ (n : ℕ). slice_get f.parts n ≡ Some p) same (h zero p refl)

  pub rest_from : (i : ℕ) (p : SsaPart) (ps : List SsaPart) → AreFrom i (p ∷ ps) → AreFrom (i + 1) ps
  rest_from i p ps h j q e = let same : i + suc j ≡ (i + 1) + j = omega arith in subst (λ (n : ℕ). slice_get f.parts n ≡ Some q) same (h (suc j) q e)

  pub words_in : (p : SsaPart) → (i : ℕ) → slice_get f.parts i ≡ Some p → All (λ n. n < 2 ^ 32) (thread_at p).script
  words_in p i h =
      subst (λ l. All (λ n. n < 2 ^ 32) l) (sym (script_is i p h))
      (All-map (λ (n : ℕ). n < 2 ^ 32) v (inputs_in (made_of v p.steps))
      (all_any (λ (t : TermId). v t < 2 ^ 32) (λ t. value_fits f.terms (inputs_under s words) t k.form.terms (words_fit flat f words s k)) (inputs_in (made_of v p.steps))))

  module _ (p : Checked) (checked : IsChecked p) (un : IsUnrolled p flat) (lows : StartedHandlesAreLow) where
    -- a part that runs has its run
    pub run_of : (i : ℕ) (q : SsaPart) → IsRunning f v i q → RunsAsPart p f.parts v q
    run_of i q r =
        let w = words_fit flat f words s k in
        let started = running_parts_are_started lows p flat f (inputs_under s words) i q checked un k.form w r in
        parts_run_as_threads p flat f (inputs_under s words) i q un k.form w r started.few

    pub runs_to : (i : ℕ) (q : SsaPart) (r : IsRunning f v i q) → RunsTo (thread_run p) (thread_at q) (run_of i q r).run
    runs_to i q r =
        let u = run_of i q r in
        let of = (instance_of flat f i q k.form r.there).is_part in
        let listed : IsListed f.terms q.arg = all_at (IsListed f.terms) (q.start ∷ q.handle ∷ q.arg ∷ []) 2 q.arg of.listed refl in
        let script = script_is i q r.there in (
          ap (λ (n : ℕ). thread_run p q.function (v q.handle) n (script_in s (taken_in words q.steps))) (word_value q.arg listed)
              ∙ (ap (λ (l : List ℕ). thread_run p q.function (v q.handle) (v q.arg) l) script ∙ u.runs),
          u.used ∙ ap length (sym script),
        )

    pub record RunsIn (ts : List ThreadPart) : Type 0 where
      pub runs : List Run
      pub whole : AllZip (RunsTo (thread_run p)) ts runs
      pub of_words : All (λ (t : ThreadPart). All (λ n. n < 2 ^ 32) t.script) ts

    more_runs : (i : ℕ) (q : SsaPart) (ts : List ThreadPart) → slice_get f.parts i ≡ Some q → Shown i q → RunsIn ts → RunsIn (map (thread_with s (part_map words q)) (handles_in s i es bs) ++ ts)
    more_runs i q ts h (runs r e) rest =
        subst (λ (l : List ℕ). RunsIn (map (thread_with s (part_map words q)) l ++ ts)) (sym e)
        (record { runs = (run_of i q r).run ∷ rest.runs; whole = (runs_to i q r, rest.whole); of_words = All-cons (λ (t : ThreadPart). All (λ n. n < 2 ^ 32) t.script) (thread_at q) ts (words_in q i h) rest.of_words })
    more_runs i q ts h (sleeps e) rest = subst (λ (l : List ℕ). RunsIn (map (thread_with s (part_map words q)) l ++ ts)) (sym e) rest

    runs_from : (i : ℕ) (ps : List SsaPart) → AreFrom i ps → RunsIn (threads_in i ps)
    runs_from i [] h = record { runs = []; whole = tt; of_words = All-nil (λ (t : ThreadPart). All (λ n. n < 2 ^ 32) t.script) }
    runs_from i (q ∷ ps) h =
        let there = first_from i q ps h in
        more_runs i q (threads_in (i + 1) ps) there (shown i q there) (runs_from (i + 1) ps (rest_from i q ps h))

    pub all_run : RunsIn (threads_in 0 f.parts)
    all_run = runs_from 0 f.parts (λ j q e. let same : j ≡ 0 + j = omega arith in subst (λ (n : ℕ). slice_get f.parts n ≡ Some q) same e)

-- the threads that the map spells are those of the form's parts
pub threads_are : (m : MemoryModel) (flat : Flat) (x : Encoded) (s : List Bool) (made : IsMadeOf m flat x) → threads_of x s ≡ threads_from s 0 (events_of made.form made.words) (bits_of made.form made.words) (map (part_map made.words) made.form.parts)
threads_are m flat x s made =
    ap (λ (z : List StaticEvent). threads_from s 0 z x.map.graph.bits x.map.parts) made.events
    ∙ (ap (λ (z : List EventBits). threads_from s 0 (events_of made.form made.words) z x.map.parts) made.bits
    ∙ ap (λ (z : List PartMap). threads_from s 0 (events_of made.form made.words) (bits_of made.form made.words) z) made.parts)

-- each list of threads that an assignment of the words' clauses spells has its runs
pub spelled_threads_run : StartedHandlesAreLow → SpelledThreadsRun
spelled_threads_run lows p m flat x s c chain h same =
    let made = chain.made in
    let r = all_run flat made.form made.words s (spelled m flat x s made h) p chain.checked chain.unrolled lows in
    let e = same ∙ threads_are m flat x s made in
    record {
      runs = r.runs;
      whole = subst (λ (l : List ThreadPart). AllZip (RunsTo (thread_run p)) l r.runs) (sym e) r.whole;
      words = subst (λ (l : List ThreadPart). All (λ (t : ThreadPart). All (λ n. n < 2 ^ 32) t.script) l) (sym e) r.of_words;
    }
