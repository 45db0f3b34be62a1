-- The numbers of runs, and of the threads of a candidate, are words.
use Rattle.std.proofs.Common.{◌≡◌, ◌≢◌, ℕ, zero, suc, ◌+◌, ◌*◌, ◌^◌, ◌<◌, ◌≤◌, List, [], ◌∷◌, Option, Some, None, length, refl, sym, ap, ◌∙◌, subst, ⊎_elim, arith}
use Rattle.std.specs.Prelude.{slice_get, slice_index_or, All}
use Rattle.std.specs.List.{AllZip, AllByRecursion}
use Rattle.std.proofs.Math.Nat.{pow-le-pow_right}
use Rattle.std.proofs.lemmas.Bool.{cases_eq}
use Rattle.std.proofs.lemmas.Option.{same_Some, get_or_from_slice_get, slice_get_within, slice_get-get_or}
use Rattle.std.proofs.lemmas.List.Elements.{All-nil, recursion_from_All}
use Rattle.axiom_model.specs.declared.Action.{Action}
use Rattle.axiom_model.specs.declared.Action.TheVariants.{Create, Start}
use Rattle.axiom_model.specs.declared.Event.{Event}
use Rattle.axiom_model.specs.declared.Event.TheVariants.{Initial, At}
use Rattle.axiom_model.specs.declared.ThreadPart.{ThreadPart}
use Rattle.axiom_model.specs.declared.Candidate.{Candidate}
use Rattle.axiom_model.specs.Execution.{Thread, action_at}
use Rattle.axiom_model.specs.WellMade.{WellMade}
use Rattle.axiom_model.specs.Failing.{Run, Runs, RunsTo, HasWords, thread_of, threads_of, execution_of}
use Rattle.axiom_model.proofs.Threads.{Acts, acts_from, one_thread}
use Rattle.c_tree.specs.declared.program.Function.{Function}
use Rattle.c_check.specs.declared.checked.Checked.{Checked}
use Rattle.c_check.specs.WellFormed.{IsChecked}
use Rattle.run_model.specs.declared.state.Local.{Local}
use Rattle.run_model.specs.Steps.{State, Outcome, make}
use Rattle.run_model.specs.Calls.{Setting, finish}
use Rattle.run_model.specs.Programs.{setting_of, shape_of}
use Rattle.run_model.specs.Threads.{ShortRun, run_body, context_within, thread_steps, thread_run, short_run, begins}
use Rattle.run_model.specs.Laws.{IsNumbered, creates_in}
use Rattle.run_model.proofs.KeptMeaning.{kept_no_other}
use Rattle.run_model.proofs.KeptThread.{kept_thread}
use Rattle.run_model.proofs.Handles.{Adds, Numbers, numbers_keeps, state_in, run_is_numbered}
use Rattle.run_model.proofs.Creates.{numbered_at}
use Rattle.run_laws.specs.Leaves.{Leaf, Value, Called, in_functions}
use Rattle.run_laws.specs.Started.{IsStarted}
use Rattle.run_laws.specs.Words.{IsWord, IsWordIn, HasWordConstants, IsOfWords, IsCandidateOfWords}
use Rattle.run_laws.proofs.Joint.{anything, Known}
use Rattle.run_laws.proofs.JointBodies.{thread_body_carried}
use Rattle.run_laws.proofs.Told.{twice, Ran, RanShort, ran, ran_short}
use Rattle.run_laws.proofs.Started.{started_create_few, started_short_small, started_shallow}
use Rattle.run_laws.proofs.Reached.{all_few}
use Rattle.run_laws.proofs.Wording.{word_values, words_closed, Fine, Words_from, Gives, Worded, gives_and, gives_make, gives_finish, words_carried}

known_words : (xs : List Leaf) → AllByRecursion IsWordIn xs → Known word_values xs
known_words [] h = tt
known_words (Value n ∷ xs) h = (h.0, known_words xs h.1)
known_words (Called n ∷ xs) h = (tt, known_words xs h.1)

-- ---- runs

module _ (p : Checked) (f handle arg : ℕ) (script : List ℕ) (constants : HasWordConstants p) (argument : IsWord arg) (words : All IsWord script) where
  abbrev g : Setting
  g = setting_of p handle

  begun : Fine (begins script)
  begun = record { script = words; locals = All-nil (λ (l : Local). All IsWord l.cells); actions = All-nil IsOfWords }

  known : Known word_values (in_functions g.functions)
  known = known_words (in_functions g.functions) (recursion_from_All IsWordIn (in_functions g.functions) constants)

  thread_words : (most : ℕ) → 64 * handle + most < 2 ^ 32 → (h : Function) → slice_get g.functions f ≡ Some h → Gives most (Unit {0}) ⊥ anything (thread_steps g h arg)
  thread_words most limit h is =
      let n : ℕ = length g.functions in
      let body = thread_body_carried (twice p handle) word_values words_closed (Worded most) (words_carried most (twice p handle) limit refl) known n f h is arg argument in
      gives_and most (Unit {0}) anything anything (make Start) _ (gives_make most (Unit {0}) Start (λ _. tt))
      (gives_and most (Unit {0}) IsWord anything (run_body (context_within n g) h (arg ∷ [])) finish body (gives_finish most (Unit {0}) ⊥ anything))

  thread_numbered : (h : Function) → Adds handle (begins script) (state_in (thread_steps g h arg (begins script)))
  thread_numbered h = kept_thread handle (Numbers handle) (numbers_keeps handle) g refl (kept_no_other handle (Numbers handle) (numbers_keeps handle) g refl) (length g.functions) h arg (begins script)

  -- the handles that were given are known at the end
  abbrev OfWords : Outcome ⊥ → Type 0
  OfWords o = IsWord (64 * handle + creates_in (state_in o).actions) → All IsOfWords (state_in o).actions

  outcome_words : (o : Outcome ⊥) → Adds handle (begins script) (state_in o) → ((most : ℕ) → 64 * handle + most < 2 ^ 32 → Words_from most (Unit {0}) ⊥ anything (begins script) o) → OfWords o
  outcome_words o adds gives limit =
      let t : State = state_in o in
      let same : creates_in t.actions ≡ creates_in adds.made = ap creates_in adds.actions in
      let low : 64 * handle + t.created < 2 ^ 32 = omega (arith, same, adds.count, limit) in
      ((gives t.created low).1 tt begun (omega arith)).0.actions

  all_words : (h : Function) → slice_get g.functions f ≡ Some h → OfWords (thread_steps g h arg (begins script))
  all_words h is = outcome_words (thread_steps g h arg (begins script)) (thread_numbered h) (λ most limit. thread_words most limit h is (begins script))

  pub run_words : (r : Run) → thread_run p f handle arg script ≡ Some r → IsWord (64 * handle + creates_in r.actions) → All IsOfWords r.actions
  run_words r e =
      let it : Ran p f handle arg script r = ran p f handle arg script r e in
      subst (λ (r : Run). IsWord (64 * handle + creates_in r.actions) → All IsOfWords r.actions) it.run (subst OfWords it.goes (all_words it.function it.is))

  pub short_run_words : (s : ShortRun) → short_run p f handle arg script ≡ Some s → IsWord (64 * handle + creates_in s.actions) → All IsOfWords s.actions
  short_run_words s e =
      let it : RanShort p f handle arg script s = ran_short p f handle arg script s e in
      subst (λ (s : ShortRun). IsWord (64 * handle + creates_in s.actions) → All IsOfWords s.actions) it.run (subst OfWords it.goes (all_words it.function it.is))

-- ---- started functions

-- the handles behind a low one are words
few_low : (d handle n : ℕ) → d ≤ 4 → handle < 64 ^ d → n ≤ 63 → IsWord (64 * handle + n)
few_low d handle n shallow low few =
    let top : 64 ^ d ≤ 64 ^ 4 = pow-le-pow_right (omega arith) shallow in
    let same : 64 ^ 4 ≡ 2 ^ 24 = refl in
    omega (arith, low, top, same, few)

module _ (p : Checked) (checked : IsChecked p) (constants : HasWordConstants p) (d f handle arg : ℕ) (script : List ℕ) (started : IsStarted p d f) (low : handle < 64 ^ d) (argument : IsWord arg) (words : All IsWord script) where
  pub started_run_words : (r : Run) → thread_run p f handle arg script ≡ Some r → All IsOfWords r.actions
  started_run_words r e =
      run_words p f handle arg script constants argument words r e
      (few_low d handle (creates_in r.actions) (started_shallow p checked d f started) low (started_create_few p checked d f handle arg script r started e))

  pub started_short_run_words : (s : ShortRun) → short_run p f handle arg script ≡ Some s → All IsOfWords s.actions
  started_short_run_words s e =
      short_run_words p f handle arg script constants argument words s e
      (few_low d handle (creates_in s.actions) (started_shallow p checked d f started) low (started_short_small p checked d f handle arg script s started e).0)

-- ---- candidates

-- a thread, its part of the candidate and its run
record Line (runs : Runs) (ps : List ThreadPart) (rs : List Run) (k : ℕ) : Type 0 where
  pub part : ThreadPart
  pub run : Run
  pub is_part : slice_get ps k ≡ Some part
  pub is_run : slice_get rs k ≡ Some run
  pub is_thread : slice_get (threads_of ps rs) k ≡ Some (thread_of part run)
  pub runs_to : RunsTo runs part run

module _ (runs : Runs) where
  line : (ps : List ThreadPart) (rs : List Run) → AllZip (RunsTo runs) ps rs → (k : ℕ) → k < length ps → Line runs ps rs k
  line [] rs w k there = absurd (omega (arith, there))
  line (p ∷ ps) [] w k there = absurd w
  line (p ∷ ps) (r ∷ rs) w zero there = record { part = p; run = r; is_part = refl; is_run = refl; is_thread = refl; runs_to = w.0 }
  line (p ∷ ps) (r ∷ rs) w (suc k) there =
      let it : Line runs ps rs k = line ps rs w.1 k (omega (arith, there)) in
      record { part = it.part; run = it.run; is_part = it.is_part; is_run = it.is_run; is_thread = it.is_thread; runs_to = it.runs_to }

  as_long : (ps : List ThreadPart) (rs : List Run) → AllZip (RunsTo runs) ps rs → (length (threads_of ps rs) ≡ length ps) × (length rs ≡ length ps)
  as_long [] [] w = (refl, refl)
  as_long [] (r ∷ rs) w = absurd w
  as_long (p ∷ ps) [] w = absurd w
  as_long (p ∷ ps) (r ∷ rs) w = let it = as_long ps rs w.1 in (ap suc it.0, ap suc it.1)

all_at : {A : Type 0} (P : A → Type 0) (xs : List A) (k : ℕ) (x : A) → All P xs → slice_get xs k ≡ Some x → P x
all_at P xs k x h e = subst P (get_or_from_slice_get xs k x x e) (h k x (slice_get_within xs k x e))

pub all_from : {A : Type 0} (P : A → Type 0) (xs : List A) → ((k : ℕ) (x : A) → slice_get xs k ≡ Some x → P x) → All P xs
all_from P xs h k d there = h k (slice_index_or xs k d) (slice_get-get_or xs k d there)

module _ (p : Checked) (c : Candidate) (rs : List Run) (checked : IsChecked p) (constants : HasWordConstants p) (scripts : HasWords c) (runs : AllZip (RunsTo (thread_run p)) c.threads rs) (made : WellMade (shape_of p.program) (execution_of c rs)) where
  abbrev threads : List Thread
  threads = threads_of c.threads rs

  abbrev LineAt : ℕ → Type 0
  LineAt k = Line (thread_run p) c.threads rs k

  -- a run on a word is of words
  line_words : (k : ℕ) (l : LineAt k) → IsWord l.part.arg → All IsOfWords l.run.actions
  line_words k l argument =
      let low = all_at (λ (t : Thread). (t.function < (shape_of p.program).functions) × (t.handle < 2 ^ 24)) threads k (thread_of l.part l.run) made.known l.is_thread in
      let few : creates_in l.run.actions ≤ 63 = all_few p c rs checked runs made k l.run l.is_run in
      run_words p l.part.function l.part.handle l.part.arg l.part.script constants argument
      (all_at (λ (t : ThreadPart). All IsWord t.script) c.threads k l.part scripts l.is_part) l.run l.runs_to.0 (omega (arith, low.1, few))

  line_of : (k : ℕ) (t : Thread) → slice_get threads k ≡ Some t → (l : LineAt k) × (thread_of l.part l.run ≡ t)
  line_of k t e =
      let l : LineAt k = line (thread_run p) c.threads rs runs k (omega (arith, slice_get_within threads k t e, (as_long (thread_run p) c.threads rs runs).0)) in
      (l, same_Some (thread_of l.part l.run) t (sym l.is_thread ∙ e))

  -- the argument of a thread that another one creates
  created_word : (t u : Thread) (k i : ℕ) → slice_get threads k ≡ Some u → slice_get u.actions i ≡ Some (Create t.handle t.function t.arg) → IsWord u.arg → IsWord t.arg
  created_word t u k i e creates word =
      let it = line_of k u e in
      let acts : All IsOfWords u.actions = subst (λ (v : Thread). All IsOfWords v.actions) it.1 (line_words k it.0 (subst IsWord (sym (ap (λ (v : Thread). v.arg) it.1)) word)) in
      (all_at IsOfWords u.actions i (Create t.handle t.function t.arg) acts creates).1

  lower : (t u : Thread) (k i : ℕ) → slice_get threads k ≡ Some u → slice_get u.actions i ≡ Some (Create t.handle t.function t.arg) → u.handle < t.handle
  lower t u k i e creates =
      let it = line_of k u e in
      let own : IsNumbered it.0.part.handle 0 it.0.run.actions = run_is_numbered p it.0.part.function it.0.part.handle it.0.part.arg it.0.part.script it.0.run it.0.runs_to.0 in
      let numbered : IsNumbered u.handle 0 u.actions = subst (λ (v : Thread). IsNumbered v.handle 0 v.actions) it.1 own in
      omega (arith, numbered_at t.handle t.function t.arg u.handle 0 u.actions i numbered creates)

  main_word : (k : ℕ) (t : Thread) → slice_get threads k ≡ Some t → t.handle ≡ 0 → IsWord t.arg
  main_word k t e zero_is =
      let first = made.has_main in
      let same : first.1 ≡ t = one_thread threads made.rising first.0 k first.1 t first.2 e (first.3 ∙ sym zero_is) in
      let none : t.arg ≡ 0 = sym (ap (λ (u : Thread). u.arg) same) ∙ first.4.1 in
      subst IsWord (sym none) (omega arith)

  from_event : (t : Thread) (e : Event) → action_at (execution_of c rs) e ≡ Some (Create t.handle t.function t.arg) → ((k : ℕ) (u : Thread) → slice_get threads k ≡ Some u → u.handle < t.handle → IsWord u.arg) → IsWord t.arg
  from_event t Initial e rest = absurd (let no : ◌≡◌ {A = Option Action} None (Some (Create t.handle t.function t.arg)) = e in cc)
  from_event t (At h i) e rest =
      let it : Acts threads h i (Create t.handle t.function t.arg) = acts_from threads h i (Create t.handle t.function t.arg) e in
      created_word t it.thread it.place i it.there it.acts (rest it.place it.thread it.there (lower t it.thread it.place i it.there it.acts))

  abbrev IsCreated : Thread → Type 0
  IsCreated t = t.handle ≢ 0 → (e : Event) × (action_at (execution_of c rs) e ≡ Some (Create t.handle t.function t.arg))

  argument_at : (b k : ℕ) (t : Thread) → slice_get threads k ≡ Some t → t.handle < b → IsWord t.arg
  argument_at zero k t e low = absurd (omega (arith, low))
  argument_at (suc b) k t e low =
      ⊎_elim (main_word k t e) (λ other.
      let event = all_at IsCreated threads k t made.created e other in
      from_event t event.0 event.1 (λ j u there less. argument_at b j u there (omega (arith, less, low))))
      (cases_eq t.handle 0)

  line_argument : (k : ℕ) (l : LineAt k) → IsWord l.part.arg
  line_argument k l = argument_at (suc l.part.handle) k (thread_of l.part l.run) l.is_thread (omega arith)

  part_argument : (k : ℕ) (t : ThreadPart) → slice_get c.threads k ≡ Some t → IsWord t.arg
  part_argument k t e =
      let l : LineAt k = line (thread_run p) c.threads rs runs k (slice_get_within c.threads k t e) in
      subst (λ (q : ThreadPart). IsWord q.arg) (same_Some l.part t (sym l.is_part ∙ e)) (line_argument k l)

  run_actions : (k : ℕ) (r : Run) → slice_get rs k ≡ Some r → All IsOfWords r.actions
  run_actions k r e =
      let l : LineAt k = line (thread_run p) c.threads rs runs k (omega (arith, slice_get_within rs k r e, (as_long (thread_run p) c.threads rs runs).1)) in
      subst (λ (q : Run). All IsOfWords q.actions) (same_Some l.run r (sym l.is_run ∙ e)) (line_words k l (line_argument k l))

  pub candidate_words : IsCandidateOfWords c rs
  candidate_words = record {
    arguments = all_from (λ (t : ThreadPart). IsWord t.arg) c.threads part_argument;
    actions = all_from (λ (r : Run). All IsOfWords r.actions) rs run_actions;
  }
