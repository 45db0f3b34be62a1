-- An execution of a checked program has a text where its pairs stand in the order of their readers.
use Rattle.std.proofs.Common.{◌≡◌, ◌≢◌, ℕ, suc, ◌+◌, ◌<◌, ◌≤◌, ◌^◌, List, [], ◌∷◌, Bool, true, length, Some, refl, sym, ap, ◌∙◌, subst, ⊎_elim, inl, inr, arith}
use Rattle.std.specs.Prelude.{slice_get, get_or, All, ◌*◌}
use Rattle.std.specs.List.{AllByRecursion}
use Rattle.std.specs.List.Sorted.{IsNonDecreasingBy}
use Rattle.std.proofs.lemmas.Bool.{and_from, lt-ltb}
use Rattle.std.proofs.lemmas.List.{length-map}
use Rattle.std.proofs.lemmas.List.Elements.{All-contains}
use Rattle.std.proofs.lemmas.Option.{get_or_from_slice_get, none-some, slice_get_within}
use Rattle.dg_base.proofs.Lists.{contains_place, get_map}
use Rattle.axiom_model.specs.declared.Action.{Action}
use Rattle.axiom_model.specs.declared.Action.TheVariants.{Read}
use Rattle.axiom_model.specs.declared.Event.{Event}
use Rattle.axiom_model.specs.declared.Event.TheVariants.{At, Initial}
use Rattle.axiom_model.specs.declared.MemoryModel.{MemoryModel}
use Rattle.axiom_model.specs.declared.RfPair.{RfPair}
use Rattle.axiom_model.specs.declared.ThreadPart.{ThreadPart}
use Rattle.axiom_model.specs.declared.Candidate.{Candidate}
use Rattle.axiom_model.specs.Execution.{Execution, Thread, action_at}
use Rattle.axiom_model.specs.Failing.{Run, execution_of}
use Rattle.axiom_model.specs.WellMade.{WellMade}
use Rattle.axiom_model.proofs.Threads.{acts_from}
use Rattle.c_check.specs.declared.checked.CellInfo.{CellInfo}
use Rattle.c_check.specs.declared.checked.Checked.{Checked}
use Rattle.c_check.specs.PlainNames.{cell_names}
use Rattle.c_check.specs.WellFormed.{IsChecked}
use Rattle.run_model.specs.Programs.{shape_of}
use Rattle.run_model.specs.Threads.{ProgramAllows}
use Rattle.run_laws.specs.Lengths.{CandidatesAreShort, IsShort}
use Rattle.exec_check.specs.Conditions.{HasThreads}
use Rattle.exec_check.specs.First.{Below}
use Rattle.exec_check.specs.Running.{execution_in, run_by, runs_of, shape}
use Rattle.exec_check.proofs.Events.{at_most_cases, below_decides}
use Rattle.exec_check.proofs.Excluding.{runs_are}
use Rattle.exec_check.proofs.Shaped.{cells_shaped, functions_shaped, shape_is}
use Rattle.exec_check.proofs.Whole.{has_threads, part_at}
use Rattle.witness_text.specs.Spelling.{IsNumber, IsSpellable, event_before, handle_before, is_action, reader_before, rises, rises_from}
use Rattle.dg_top.specs.Pairs.{event_key, reader_key}

-- ---- lists

pub at_place : {A : Type 0} (P : A → Type 0) (xs : List A) (k : ℕ) (x : A) → All P xs → slice_get xs k ≡ Some x → P x
at_place P xs k x all e = All-contains P xs x all (contains_place xs k x e)

pub each_from_get : {A : Type 0} (P : A → Type 0) (xs : List A) → ((k : ℕ) (x : A) → slice_get xs k ≡ Some x → P x) → AllByRecursion P xs
each_from_get P [] h = tt
each_from_get P (x ∷ xs) h = (h 0 x refl, each_from_get P xs (λ k. h (suc k)))

rises_behind : {A : Type 0} (before : A → A → Bool) (x : A) (xs : List A) → ((k : ℕ) (y z : A) → slice_get (x ∷ xs) k ≡ Some y → slice_get (x ∷ xs) (suc k) ≡ Some z → before y z ≡ true) → rises_from before x xs ≡ true
rises_behind before x [] h = refl
rises_behind before x (y ∷ ys) h = and_from (before x y) (rises_from before y ys) (h 0 x y refl refl) (rises_behind before y ys (λ k. h (suc k)))

pub rises_where : {A : Type 0} (before : A → A → Bool) (xs : List A) → ((k : ℕ) (y z : A) → slice_get xs k ≡ Some y → slice_get xs (suc k) ≡ Some z → before y z ≡ true) → rises before xs ≡ true
rises_where before [] h = refl
rises_where before (x ∷ xs) h = rises_behind before x xs h

-- the keys of neighbours
key_rises : (key : RfPair → ℕ) (ps : List RfPair) (k : ℕ) (q r : RfPair) → IsNonDecreasingBy key ps → slice_get ps k ≡ Some q → slice_get ps (suc k) ≡ Some r → key q ≤ key r
key_rises key ps k q r h e f =
    let low = slice_get_within ps (suc k) r f in
    subst (λ (x : RfPair). key x ≤ key r) (get_or_from_slice_get ps k q q e) (subst (λ (y : RfPair). key (get_or ps k q) ≤ key y) (get_or_from_slice_get ps (suc k) r q f) (h k (suc k) q (omega arith) low))

-- ---- events

-- the event is an action of the execution
abbrev pub IsAction : Execution → Event → Type 0
IsAction x e = (a : Action) × (action_at x e ≡ Some a)

pub acts : (x : Execution) (e : Event) → IsAction x e → is_action e ≡ true
acts x Initial a = absurd (none-some a.0 a.1)
acts x (At h i) a = refl

-- the index of an action has 32 bits
abbrev HasIndex : Event → Type 0
HasIndex Initial = Unit {0}
HasIndex (At h i) = i < 2 ^ 32

not_behind : (h i k j : ℕ) → j < 2 ^ 32 → h * 2 ^ 32 + i ≤ k * 2 ^ 32 + j → Below (At k j) (At h i) → ⊥
not_behind h i k j small le (inl l) = omega arith
not_behind h i k j small le (inr s) = let same = s.0 in let less = s.1 in omega arith

-- two actions whose keys do not fall are in order
in_order : (x : Execution) (a b : Event) → IsAction x a → IsAction x b → HasIndex b → a ≢ b → event_key a ≤ event_key b → event_before a b ≡ true
in_order x Initial b e f small n le = absurd (none-some e.0 e.1)
in_order x (At h i) Initial e f small n le = absurd (none-some f.0 f.1)
in_order x (At h i) (At k j) e f small n le =
    ⊎_elim (λ most. ⊎_elim (λ s. absurd (n s)) (λ l. (below_decides (At h i) (At k j)).1 l) most) (λ l. absurd (not_behind h i k j small le l)) (at_most_cases (At h i) (At k j))

-- ---- the candidate

module _ (p : Checked) (m : MemoryModel) (c : Candidate) (allows : ProgramAllows p m c) where
  abbrev pub seen : Execution
  seen = execution_in p c

  same_runs : allows.threads ≡ runs_of p c.threads
  same_runs = runs_are p c.threads allows.threads allows.whole

  pub made : WellMade (shape p) seen
  made = subst (λ s. WellMade s seen) (sym (shape_is p)) (subst (λ rs. WellMade (shape_of p.program) (execution_of c rs)) same_runs allows.well_made)

  pub threads : HasThreads p c.threads
  threads = has_threads p c made

  pub reads_at : (k : ℕ) (q : RfPair) → slice_get c.rf k ≡ Some q → (d : ℕ) × (v : ℕ) × (action_at seen q.reader ≡ Some (Read d v))
  reads_at k q e = at_place (λ (r : RfPair). (d : ℕ) × (v : ℕ) × (action_at seen r.reader ≡ Some (Read d v))) c.rf k q made.readers e

  pub reader_acts : (k : ℕ) (q : RfPair) → slice_get c.rf k ≡ Some q → IsAction seen q.reader
  reader_acts k q e = let r = reads_at k q e in (Read r.0 r.1, r.2)

  pub readers_differ : (i j : ℕ) (q r : RfPair) → i ≢ j → slice_get c.rf i ≡ Some q → slice_get c.rf j ≡ Some r → q.reader ≢ r.reader
  readers_differ i j q r n e f s =
      let a = reads_at i q e in
      let once = made.reads q.reader a.0 a.1 a.2 in
      n (once.only i q e refl ∙ sym (once.only j r f (sym s)))

  -- where the runs are short, handles and indices of actions have 32 bits
  module _ (are_short : CandidatesAreShort) (checked : IsChecked p) where
    short : (k : ℕ) (r : Run) → slice_get (runs_of p c.threads) k ≡ Some r → length r.actions ≤ 2 ^ 32
    short = subst (λ (rs : List Run). (k : ℕ) (r : Run) → slice_get rs k ≡ Some r → length r.actions ≤ 2 ^ 32) same_runs
        (λ k r e. let few = at_place (λ (r : Run). IsShort r.actions) allows.threads k r (are_short p c allows.threads checked allows.whole allows.well_made) e in omega (arith, few))

    pub action_numbers : (h i : ℕ) (a : Action) → action_at seen (At h i) ≡ Some a → IsNumber h × IsNumber i
    action_numbers h i a e =
        let t = acts_from seen.threads h i a e in
        let part = part_at p c t.place t.thread t.there in
        let low = (threads.known t.place part.0 part.1).1 in
        let own = ap (λ (u : Thread). u.handle) part.2 ∙ t.same_handle in
        let within = slice_get_within t.thread.actions i a t.acts in
        let long = ap (λ (u : Thread). length u.actions) part.2 in
        let most = short t.place (run_by p part.0) (get_map (run_by p) c.threads t.place part.0 part.1) in
        (omega (arith, low, own), omega (arith, within, long, most))

    event_index : (e : Event) → IsAction seen e → HasIndex e
    event_index Initial a = tt
    event_index (At h i) a = (action_numbers h i a.0 a.1).1

    pub functions_known : AllByRecursion (λ (t : ThreadPart). t.function < length p.functions) c.threads
    functions_known = each_from_get (λ (t : ThreadPart). t.function < length p.functions) c.threads (λ k t e. let known = threads.known k t e in let functions = functions_shaped p checked in omega (arith, known.0, functions))

    pub handles_rise : rises handle_before c.threads ≡ true
    handles_rise = rises_where handle_before c.threads (λ k t u e f. lt-ltb t.handle u.handle (threads.rising (suc k) u f k t (omega arith) e))

    pub an_order_each : length c.co ≡ length (cell_names p.cells)
    an_order_each = made.lists ∙ ap (λ (l : List ℕ). length l) (cells_shaped p checked) ∙ length-map p.cells (λ (i : CellInfo). i.initial) ∙ sym (length-map p.cells (λ (i : CellInfo). i.name))

    neighbours : IsNonDecreasingBy reader_key c.rf → (k : ℕ) (q r : RfPair) → slice_get c.rf k ≡ Some q → slice_get c.rf (suc k) ≡ Some r → reader_before q r ≡ true
    neighbours h k q r e f =
        in_order seen q.reader r.reader (reader_acts k q e) (reader_acts (suc k) r f) (event_index r.reader (reader_acts (suc k) r f)) (readers_differ k (suc k) q r (λ s. omega arith) e f) (key_rises reader_key c.rf k q r h e f)

    pub spellable : IsNonDecreasingBy reader_key c.rf → IsSpellable p.functions (cell_names p.cells) c
    spellable sorted = record {
      known = functions_known;
      rising_handles = handles_rise;
      actions = each_from_get (λ (q : RfPair). is_action q.reader ≡ true) c.rf (λ k q e. acts seen q.reader (reader_acts k q e));
      rising_readers = rises_where reader_before c.rf (neighbours sorted);
      orders = an_order_each;
    }
