-- Where an assignment of the values' clauses gives inputs under which each part whose thread is created plays a thread of a failing
-- execution, it spells the execution's threads, and matches them.
use Rattle.std.proofs.Common.{◌≡◌, ℕ, ◌+◌, ◌<◌, ◌≤◌, ⊎_elim, Bool, List, [], ◌∷◌, ◌++◌, map, length, refl, ap, sym, ◌∙◌, subst, arith}
use Rattle.std.specs.Prelude.{Some, slice_get, slice_index_or, Contains, All}
use Rattle.std.specs.List.{AllZip}
use Rattle.std.proofs.lemmas.Bool.{cases_eq, cases_order}
use Rattle.std.proofs.lemmas.Option.{slice_get_within}
use Rattle.dg_base.specs.declared.Lit.{Lit}
use Rattle.dg_base.proofs.Lists.{one_answer, place_of, contains_place, contains_nothing, contains_head, contains_tail, contains_cases}
use Rattle.axiom_model.specs.declared.Candidate.{Candidate}
use Rattle.axiom_model.specs.declared.MemoryModel.{MemoryModel}
use Rattle.axiom_model.specs.declared.ThreadPart.{ThreadPart}
use Rattle.axiom_model.specs.Failing.{Run, RunsTo, execution_of}
use Rattle.axiom_model.specs.WellMade.{WellMade}
use Rattle.bv_term.specs.declared.term.TermId.{TermId}
use Rattle.bv_term.specs.declared.term.Term.TheVariants.{Input}
use Rattle.bv_term.specs.Values.{IsListed}
use Rattle.c_check.specs.declared.checked.Checked.{Checked}
use Rattle.c_check.specs.WellFormed.{IsChecked}
use Rattle.run_model.specs.Programs.{shape_of}
use Rattle.run_model.specs.Threads.{thread_run, ProgramFails}
use Rattle.run_laws.specs.Started.{StartedHandlesAreLow, StartedCreateFew, StartedCreatesDiffer, CreatesDifferInARun}
use Rattle.bit_gates.specs.Words.{number}
use Rattle.bit_blast.specs.Blasting.{word_at, inputs_under}
use Rattle.flat_prog.specs.declared.Flat.{Flat}
use Rattle.loop_unroll.specs.Unrolled.{IsUnrolled}
use Rattle.ssa_form.specs.declared.Ssa.{Ssa}
use Rattle.ssa_form.specs.declared.SsaPart.{SsaPart}
use Rattle.ssa_form.specs.Parts.{Valuation, inputs_in}
use Rattle.ssa_form.specs.Form.{IsSsaOf, Agree, settled_terms, under}
use Rattle.ssa_form.specs.Laws.{ScriptsCanBeTaken, EarlierPartsStay, DoesTheSame}
use Rattle.memory_models.specs.declared.StaticEvent.{StaticEvent}
use Rattle.memory_models.specs.declared.EventBits.{EventBits}
use Rattle.event_graph.specs.Graphs.{events_of, bits_of}
use Rattle.event_graph.specs.Laws.{IsSpelled, EventsAreStatic, ActionsAreNodes, NodesAct, NodesAreInOrder, BlocksAreSections}
use Rattle.event_graph.proofs.Spelled.{words_fit}
use Rattle.encode_match.specs.declared.Encoded.{Encoded}
use Rattle.encode_match.specs.Spelling.{script_in, handles_in, thread_with, threads_from}
use Rattle.encode_match.specs.Parts.{taken_in, part_map, IsChain}
use Rattle.encode_match.specs.Running.{IsRunning}
use Rattle.encode_match.proofs.PartRuns.{instance_of, all_at}
use Rattle.encode_match.proofs.StartedParts.{RunsAreNumbered, handles_rise}
use Rattle.encode_match.proofs.HoldingGraphs.{spelled}
use Rattle.encode_match.proofs.SpelledRuns.{Shown, runs, sleeps, shown, handles_running, first_from, rest_from, word_value, script_is, threads_are}
use Rattle.encode_match.proofs.SpelledMatch.{spelled_threads_match}
use Rattle.encode_match.proofs.SecondInputs.{Played, moved}
use Rattle.encode_match.proofs.SecondThreads.{inputs_of}
use Rattle.encode_match.proofs.SecondLists.{Rise, one_list}
use Rattle.encode_match.proofs.SecondPlayed.{rises, is_played, played}
use Rattle.encode_match.proofs.SecondValues.{inputs_taken}
use Rattle.encode_match.proofs.SecondParts.{ThreadsTaken}

-- ---- the threads that an assignment spells

with_fields : (h g a : ℕ) (l : List ℕ) (t : ThreadPart) → h ≡ t.handle → g ≡ t.function → a ≡ t.arg → l ≡ t.script → record { handle = h; function = g; arg = a; script = l } ≡ t
with_fields h g a l t same_h same_g same_a same_l =
    ap (λ (z : ℕ). let u : ThreadPart = record { handle = z; function = g; arg = a; script = l } in u) same_h
    ∙ (ap (λ (z : ℕ). let u : ThreadPart = record { handle = t.handle; function = z; arg = a; script = l } in u) same_g
    ∙ (ap (λ (z : ℕ). let u : ThreadPart = record { handle = t.handle; function = t.function; arg = z; script = l } in u) same_a
    ∙ ap (λ (z : List ℕ). let u : ThreadPart = record { handle = t.handle; function = t.function; arg = t.arg; script = z } in u) same_l))

module _ (flat : Flat) (f : Ssa) (words : List (List Lit)) (s : List Bool) (k : IsSpelled flat f words s) where
  abbrev es : List StaticEvent
  es = events_of f words

  abbrev bs : List EventBits
  bs = bits_of f words

  abbrev v : Valuation
  v = under (inputs_under s words) f

  abbrev Running : ℕ → SsaPart → Type 0
  Running i q = IsRunning f v i q

  abbrev thread_at : SsaPart → ThreadPart
  thread_at q = thread_with s (part_map words q) (v q.handle)

  abbrev rest_threads : ℕ → List SsaPart → List ThreadPart
  rest_threads i ps = threads_from s i es bs (map (part_map words) ps)

  abbrev AreFrom : ℕ → List SsaPart → Type 0
  AreFrom i ps = (n : ℕ) (a : SsaPart) → slice_get ps n ≡ Some a → slice_get f.parts (i + n) ≡ Some a

  -- one part more: nothing, where it sleeps, or one more thread
  more : (P : List ThreadPart → Type 0) (i : ℕ) (q : SsaPart) (ts : List ThreadPart) → Shown flat f words s k i q → (Running i q → P (thread_at q ∷ ts)) → (handles_in s i es bs ≡ [] → P ts)
      → P (map (thread_with s (part_map words q)) (handles_in s i es bs) ++ ts)
  more P i q ts (runs r e) one none = subst (λ (l : List ℕ). P (map (thread_with s (part_map words q)) l ++ ts)) (sym e) (one r)
  more P i q ts (sleeps e) one none = subst (λ (l : List ℕ). P (map (thread_with s (part_map words q)) l ++ ts)) (sym e) (none e)

  -- the part of a thread, from number i on
  record OfPart (i : ℕ) (t : ThreadPart) : Type 0 where
    pub number : ℕ
    pub part : SsaPart
    pub from : i ≤ number
    pub running : Running number part
    pub is : thread_at part ≡ t

  of_part : (i : ℕ) (ps : List SsaPart) → AreFrom i ps → (t : ThreadPart) → Contains (rest_threads i ps) t → OfPart i t
  of_part i [] h t c = absurd (contains_nothing t c)
  of_part i (q ∷ ps) h t c =
      let ts = rest_threads (i + 1) ps in
      let go : Contains ts t → OfPart i t = λ d.
      let o = of_part (i + 1) ps (rest_from flat f words s k i q ps h) t d in record { number = o.number; part = o.part; from = omega (arith, o.from); running = o.running; is = o.is } in
      more (λ (l : List ThreadPart). Contains l t → OfPart i t) i q ts (shown flat f words s k i q (first_from flat f words s k i q ps h))
      (λ r d. ⊎_elim (λ e. record { number = i; part = q; from = omega arith; running = r; is = sym e }) go (contains_cases (thread_at q) t ts d))
      (λ e. go) c

  -- and back
  part_there : (j : ℕ) (q : SsaPart) → Running j q → (i : ℕ) (ps : List SsaPart) → AreFrom i ps → i ≤ j → j < i + length ps → Contains (rest_threads i ps) (thread_at q)
  part_there j q r i [] h l m = absurd (omega (arith, l, m))
  part_there j q r i (a ∷ ps) h l m =
      let ts = rest_threads (i + 1) ps in
      let there = first_from flat f words s k i a ps h in
      ⊎_elim
      (λ same.
      let one : a ≡ q = one_answer (slice_get f.parts j) a q (subst (λ (n : ℕ). slice_get f.parts n ≡ Some a) same there) r.there in
      more (λ (l : List ThreadPart). Contains l (thread_at q)) i a ts (shown flat f words s k i a there)
      (λ ra. subst (λ (z : SsaPart). Contains (thread_at z ∷ ts) (thread_at q)) (sym one) (contains_head (thread_at q) ts))
      (λ e. let n : 1 ≡ 0 = ap length (sym (handles_running flat f words s k i q (subst (λ (n : ℕ). Running n q) (sym same) r)) ∙ e) in absurd (omega (arith, n))))
      (λ n.
      let low : i + 1 ≤ j = ⊎_elim (λ e. absurd (n e)) (λ o. ⊎_elim (λ y. omega (arith, y)) (λ y. absurd (omega (arith, y, l))) o) (cases_order i j) in
      let go = part_there j q r (i + 1) ps (rest_from flat f words s k i a ps h) low (omega (arith, m)) in
      more (λ (l : List ThreadPart). Contains l (thread_at q)) i a ts (shown flat f words s k i a there)
      (λ ra. contains_tail (thread_at a) (thread_at q) ts go) (λ e. go))
      (cases_eq i j)

  from_start : AreFrom 0 f.parts
  from_start n a e = let same : n ≡ 0 + n = omega arith in subst (λ (z : ℕ). slice_get f.parts z ≡ Some a) same e

  -- a part's thread is the one that it plays
  plays_its : (ts : List ThreadPart) (j : ℕ) (q : SsaPart) → slice_get f.parts j ≡ Some q → (a : Played ts v q) → thread_at q ≡ a.asked.thread
  plays_its ts j q h a =
      let of = (instance_of flat f j q k.form h).is_part in
      let listed = all_at (IsListed f.terms) (q.start ∷ q.handle ∷ q.arg ∷ []) 2 q.arg of.listed refl in
      with_fields (v q.handle) q.function (number s (word_at words q.arg.0)) (script_in s (taken_in words q.steps)) a.asked.thread
      (sym a.asked.handle) (sym a.asked.function) (word_value flat f words s k q.arg listed ∙ sym a.asked.arg) (script_is flat f words s k j q h ∙ a.script)

  module _ (rise : (i j : ℕ) (a b : SsaPart) → Running i a → Running j b → i < j → v a.handle < v b.handle) where
    -- the spelled handles rise
    rise_from : (i : ℕ) (ps : List SsaPart) → AreFrom i ps → Rise (rest_threads i ps)
    rise_from i [] h = tt
    rise_from i (q ∷ ps) h =
        let from = rest_from flat f words s k i q ps h in
        let ts = rest_threads (i + 1) ps in
        let go = rise_from (i + 1) ps from in
        more Rise i q ts (shown flat f words s k i q (first_from flat f words s k i q ps h))
        (λ r. (λ u c. let o = of_part (i + 1) ps from u c in subst (λ (z : ThreadPart). v q.handle < z.handle) o.is (rise i o.number q o.part r o.running (omega (arith, o.from))), go))
        (λ e. go)

    -- where each part plays a thread of an execution, these are its threads
    pub same_threads : (p : Checked) (checked : IsChecked p) (un : IsUnrolled p flat) (c : Candidate) (rs : List Run) → AllZip (RunsTo (thread_run p)) c.threads rs
        → WellMade (shape_of p.program) (execution_of c rs) → RunsAreNumbered → StartedHandlesAreLow → ((i : ℕ) (q : SsaPart) → Running i q → Played c.threads v q) → c.threads ≡ rest_threads 0 f.parts
    same_threads p checked un c rs whole well counts lows play =
        let inputs = inputs_under s words in
        let fits = words_fit flat f words s k in
        one_list c.threads (rest_threads 0 f.parts) (rises p c.threads rs whole well.rising) (rise_from 0 f.parts from_start)
        (λ t h.
        let at = place_of c.threads t h in
        let o = played p checked c rs whole well counts flat f un k.form lows inputs fits play at.0 t at.1 in
        let within = slice_get_within f.parts o.number o.part o.running.there in
        subst (Contains (rest_threads 0 f.parts))
        (plays_its c.threads o.number o.part o.running.there (play o.number o.part o.running) ∙ is_played p checked c rs whole well counts flat f un k.form lows inputs fits play at.0 t at.1 o)
        (part_there o.number o.part o.running 0 f.parts from_start (omega arith) (omega (arith, within))))
        (λ t h.
        let o = of_part 0 f.parts from_start t h in
        let a = play o.number o.part o.running in
        subst (Contains c.threads) (sym (plays_its c.threads o.number o.part o.running.there a) ∙ o.is) (contains_place c.threads a.asked.place a.asked.thread a.asked.there))

-- ---- inputs under which terms have the same values

module _ (flat : Flat) (f : Ssa) (form : IsSsaOf flat f) (a b : ℕ → ℕ) (same : (t : TermId) → IsListed f.terms t → under b f t ≡ under a f t) where
  all_same : (ts : List TermId) → All (IsListed f.terms) ts → Agree f a b ts
  all_same ts h n d l = sym (same (slice_index_or ts n d) (h n d l))

  pub does_the_same : (i : ℕ) (q : SsaPart) → slice_get f.parts i ≡ Some q → DoesTheSame f q a b
  does_the_same i q h =
      let of = (instance_of flat f i q form h).is_part in
      record {
        begins = all_same (q.start ∷ q.handle ∷ q.arg ∷ []) of.listed;
        steps = λ n d l. all_same (settled_terms (slice_index_or q.steps n d)) (of.steps_listed n d l);
        inputs = all_same (inputs_in q.steps) (λ n d l. let t = slice_index_or (inputs_in q.steps) n d in slice_get_within f.terms t.0 Input (of.inputs n d l));
      }

  -- a part whose thread is created under the second is so under the first
  pub runs_too : (i : ℕ) (q : SsaPart) → IsRunning f (under b f) i q → IsRunning f (under a f) i q
  runs_too i q r =
      let of = (instance_of flat f i q form r.there).is_part in
      record { there = r.there; starts = sym (same q.start (all_at (IsListed f.terms) (q.start ∷ q.handle ∷ q.arg ∷ []) 0 q.start of.listed refl)) ∙ r.starts }

-- ---- the whole

-- an assignment of the values' clauses spells the threads of a failing execution, and matches them
pub threads_taken : StartedHandlesAreLow → StartedCreateFew → RunsAreNumbered → StartedCreatesDiffer → CreatesDifferInARun → ScriptsCanBeTaken → EarlierPartsStay
    → EventsAreStatic → ActionsAreNodes → NodesAct → NodesAreInOrder → BlocksAreSections
    → (p : Checked) (m : MemoryModel) (flat : Flat) (x : Encoded) (c : Candidate) (chain : IsChain p m flat x) (fails : ProgramFails p m c) → ThreadsTaken p m flat x c chain fails
threads_taken lows few numbered differ once takes stay static nodes act order sections p m flat x c chain fails =
    let made = chain.made in
    let f = made.form in
    let checked = chain.checked in
    let un = chain.unrolled in
    let form = made.is_form in
    let allowed = fails.allowed in
    let rs = allowed.threads in
    let all = inputs_of p checked c rs allowed.whole allowed.well_made numbered differ once flat f un form lows takes stay allowed.words in
    let o = inputs_taken m flat x made all.inputs all.words in
    let s = o.assignment in
    let k = spelled m flat x s made o.clauses in
    let inputs = inputs_under s made.words in
    let fits = words_fit flat f made.words s k in
    let play = λ (i : ℕ) (q : SsaPart) (r : IsRunning f (under inputs f) i q).
    moved p flat f checked un form lows takes stay c.threads rs allowed.whole allowed.words all.inputs inputs q (does_the_same flat f form all.inputs inputs o.same i q r.there)
    (all.play i q (runs_too flat f form all.inputs inputs o.same i q r)) in
    let rise = λ (i j : ℕ) (a b : SsaPart) (ra : IsRunning f (under inputs f) i a) (rb : IsRunning f (under inputs f) j b) (l : i < j). handles_rise lows few numbered p flat f inputs i j a b checked un form fits ra rb l in
    let threads = same_threads flat f made.words s k rise p checked un c rs allowed.whole allowed.well_made numbered lows play ∙ sym (threads_are m flat x s made) in
    record {
      assignment = s;
      values = o.values;
      clauses = o.clauses;
      threads = threads;
      matches = spelled_threads_match lows few numbered static nodes act order sections p m flat x s c rs chain o.clauses threads allowed.whole;
    }
