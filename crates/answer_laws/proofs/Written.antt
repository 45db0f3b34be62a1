-- An execution whose numbers have 32 bits has a text, with its pairs in the order of their readers.
use Rattle.std.proofs.Common.{◌≡◌, ◌≢◌, ℕ, ◌<◌, ◌≤◌, ◌^◌, ◌⊎◌, List, true, length, Some, refl, sym, ap, ◌∙◌, subst, ⊎_elim, inl, inr, arith}
use Rattle.std.specs.Prelude.{slice_get, All}
use Rattle.std.specs.List.{AllByRecursion}
use Rattle.std.proofs.lemmas.List.Elements.{All-from_recursion, recursion_from_All}
use Rattle.std.proofs.lemmas.List.Sorted.{All-permutation}
use Rattle.std.proofs.lemmas.Option.{none-some, same_Some}
use Rattle.axiom_model.specs.declared.Action.{Action}
use Rattle.axiom_model.specs.declared.Action.TheVariants.{Write}
use Rattle.axiom_model.specs.declared.Event.{Event}
use Rattle.axiom_model.specs.declared.Event.TheVariants.{At, Initial}
use Rattle.axiom_model.specs.declared.MemoryModel.{MemoryModel}
use Rattle.axiom_model.specs.declared.RfPair.{RfPair}
use Rattle.axiom_model.specs.declared.ThreadPart.{ThreadPart}
use Rattle.axiom_model.specs.declared.Candidate.{Candidate}
use Rattle.axiom_model.specs.Execution.{Execution, action_at}
use Rattle.axiom_model.specs.WellMade.{WellMade, Writes}
use Rattle.axiom_model.proofs.Reordered.{failing-reordered}
use Rattle.c_check.specs.declared.checked.Checked.{Checked}
use Rattle.c_check.specs.PlainNames.{cell_names}
use Rattle.c_check.specs.WellFormed.{IsChecked}
use Rattle.c_check.proofs.PlainNames.{all_map}
use Rattle.run_model.specs.Programs.{shape_of}
use Rattle.run_model.specs.Threads.{ProgramAllows, thread_run}
use Rattle.run_laws.specs.Lengths.{CandidatesAreShort}
use Rattle.run_laws.specs.Words.{CandidatesAreOfWords, IsCandidateOfWords, IsWord}
use Rattle.exec_check.specs.Running.{execution_in, shape}
use Rattle.exec_check.proofs.Events.{at_most_cases, below_decides}
use Rattle.exec_check.proofs.Shaped.{functions_shaped}
use Rattle.witness_text.specs.Spelling.{HasEventNumbers, HasNumbers, HasPairNumbers, HasThreadNumbers, IsNumber, IsSpellable, event_before, is_action, reader_before}
use Rattle.witness_text.specs.Witness.{witness_text}
use Rattle.dg_top.proofs.Spellable.{IsAction, action_numbers, acts, an_order_each, at_place, each_from_get, functions_known, handles_rise, made, reader_acts, readers_differ, reads_at, threads}
use Rattle.answer_laws.specs.Spelled.{AcceptedHasWordConstants, AllowedIsSpelled, FailingIsSpelled, IsSpelled}
use Rattle.answer_laws.proofs.Functions.{few_functions}
use Rattle.answer_laws.proofs.Sorting.{AllApart, Sorted, apart_from, sorted}

-- ---- events

-- of two actions one stands before the other
events_apart : (x : Execution) (a b : Event) → IsAction x a → IsAction x b → a ≢ b → (event_before a b ≡ true) ⊎ (event_before b a ≡ true)
events_apart x Initial b e f n = absurd (none-some e.0 e.1)
events_apart x (At h i) Initial e f n = absurd (none-some f.0 f.1)
events_apart x (At h i) (At k j) e f n =
    ⊎_elim (λ most. ⊎_elim (λ s. absurd (n s)) (λ l. inl ((below_decides (At h i) (At k j)).1 l)) most) (λ l. inr ((below_decides (At k j) (At h i)).1 l)) (at_most_cases (At h i) (At k j))

module _ (are_short : CandidatesAreShort) (p : Checked) (m : MemoryModel) (c : Candidate) (checked : IsChecked p) (few : length p.functions ≤ 65536) (allows : ProgramAllows p m c) (words : IsCandidateOfWords c allows.threads) where
  abbrev seen : Execution
  seen = execution_in p c

  whole : WellMade (shape p) seen
  whole = made p m c allows

  -- ---- numbers

  numbers_at : (h i : ℕ) (a : Action) → action_at seen (At h i) ≡ Some a → IsNumber h × IsNumber i
  numbers_at = action_numbers p m c allows are_short checked

  event_numbers : (e : Event) → IsAction seen e → HasEventNumbers e
  event_numbers Initial a = tt
  event_numbers (At h i) a = numbers_at h i a.0 a.1

  source_numbers : (e : Event) (d v : ℕ) → Writes (shape p) seen e d v → HasEventNumbers e
  source_numbers Initial d v w = tt
  source_numbers (At h i) d v w = numbers_at h i (Write d v) w

  thread_numbers : (k : ℕ) (t : ThreadPart) → slice_get c.threads k ≡ Some t → HasThreadNumbers t
  thread_numbers k t e =
      let known = (threads p m c allows).known k t e in
      let functions = functions_shaped p checked in
      record {
        handle = omega (arith, known.1);
        function = omega (arith, known.0, functions, few);
        arg = at_place (λ (u : ThreadPart). IsWord u.arg) c.threads k t words.arguments e;
        script = recursion_from_All IsNumber t.script (at_place (λ (u : ThreadPart). All (λ v. v < 2 ^ 32) u.script) c.threads k t allows.words e);
      }

  order_numbers : (n : ℕ) (l : List Event) → slice_get c.co n ≡ Some l → AllByRecursion HasEventNumbers l
  order_numbers n l e =
      let order = whole.orders n l e in
      subst (AllByRecursion HasEventNumbers) (sym order.initial_first)
      (tt, each_from_get HasEventNumbers order.writes (λ i w g. let v = order.sound i w g in event_numbers w (Write n v.0, v.1)))

  -- ---- pairs

  abbrev Fine : RfPair → Type 0
  Fine q = HasPairNumbers q × (is_action q.reader ≡ true)

  pair_fine : (k : ℕ) (q : RfPair) → slice_get c.rf k ≡ Some q → Fine q
  pair_fine k q e =
      let r = reads_at p m c allows k q e in
      let read = reader_acts p m c allows k q e in
      let once = whole.reads q.reader r.0 r.1 r.2 in
      let same : q ≡ record { reader = q.reader; source = once.source } = same_Some q (record { reader = q.reader; source = once.source }) (sym e ∙ ap (slice_get c.rf) (once.only k q e refl) ∙ once.pair) in
      let source = subst HasEventNumbers (sym (ap (λ (z : RfPair). z.source) same)) (source_numbers once.source r.0 r.1 once.writes) in
      ((event_numbers q.reader read, source), acts seen q.reader read)

  pairs_apart : AllApart reader_before c.rf
  pairs_apart = apart_from reader_before c.rf (λ i j q r n e f. events_apart seen q.reader r.reader (reader_acts p m c allows i q e) (reader_acts p m c allows j r f) (readers_differ p m c allows i j q r n e f))

  pairs : Sorted reader_before c.rf
  pairs = sorted reader_before c.rf pairs_apart

  pairs_fine : AllByRecursion Fine pairs.list
  pairs_fine = recursion_from_All Fine pairs.list (All-permutation Fine c.rf pairs.list pairs.moved (All-from_recursion Fine c.rf (each_from_get Fine c.rf pair_fine)))

  -- ---- the candidate with its pairs in order

  abbrev ordered : Candidate
  ordered = record c { rf = pairs.list }

  numbers : HasNumbers ordered
  numbers = record {
    threads = each_from_get HasThreadNumbers c.threads thread_numbers;
    rf = all_map Fine HasPairNumbers pairs.list (λ q f. f.0) pairs_fine;
    co = each_from_get (AllByRecursion HasEventNumbers) c.co order_numbers;
  }

  spellable : IsSpellable p.functions (cell_names p.cells) ordered
  spellable = record {
    known = functions_known p m c allows are_short checked;
    rising_handles = handles_rise p m c allows are_short checked;
    actions = all_map Fine (λ q. is_action q.reader ≡ true) pairs.list (λ q f. f.1) pairs_fine;
    rising_readers = pairs.rising;
    orders = an_order_each p m c allows are_short checked;
  }

  spelled : IsSpelled p c
  spelled = record {
    candidate = ordered;
    text = witness_text p.functions (cell_names p.cells) ordered;
    reordered = record { threads = refl; pairs = pairs.moved; orders = refl };
    spells = record { numbers = numbers; spellable = spellable; spelled = refl };
  }

module _ (of_words : CandidatesAreOfWords) (are_short : CandidatesAreShort) (constants : AcceptedHasWordConstants) where
  pub allowed_is_spelled : AllowedIsSpelled
  allowed_is_spelled bound full text p m c acc a =
      let words = of_words p c a.threads acc.checked (constants bound full text p acc) a.words a.whole a.well_made in
      spelled are_short p m c acc.checked (few_functions bound full text p acc) a words

pub failing_is_spelled : AllowedIsSpelled → FailingIsSpelled
failing_is_spelled allowed bound full text p m c acc x =
    let s = allowed bound full text p m c acc x.allowed in
    record { candidate = s.candidate; text = s.text; fails = failing-reordered (shape_of p.program) (thread_run p) m c s.candidate s.reordered x; spells = s.spells }
