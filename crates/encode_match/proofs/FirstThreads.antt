-- The threads that an assignment spells, one by one.
use Rattle.std.proofs.Common.{◌≡◌, ℕ, zero, suc, ◌+◌, ◌<◌, ◌≤◌, ⊎_elim, Bool, List, [], ◌∷◌, ◌++◌, map, length, refl, ap, sym, ◌∙◌, subst, arith}
use Rattle.std.specs.Prelude.{Some, slice_get, All, AllPairs}
use Rattle.std.specs.List.{AllZip}
use Rattle.std.proofs.lemmas.Bool.{cases_eq, cases_order}
use Rattle.std.proofs.lemmas.Option.{slice_get_within}
use Rattle.std.proofs.lemmas.List.Elements.{All-nil, All-cons, All-get_or}
use Rattle.dg_base.specs.declared.Lit.{Lit}
use Rattle.dg_base.proofs.Lists.{one_answer}
use Rattle.axiom_model.specs.declared.ThreadPart.{ThreadPart}
use Rattle.axiom_model.specs.Execution.{Thread}
use Rattle.axiom_model.specs.Failing.{Run, RunsTo, thread_of, threads_of}
use Rattle.c_check.specs.declared.checked.Checked.{Checked}
use Rattle.run_model.specs.Threads.{thread_run}
use Rattle.bit_blast.specs.Blasting.{inputs_under}
use Rattle.flat_prog.specs.declared.Flat.{Flat}
use Rattle.ssa_form.specs.declared.Ssa.{Ssa}
use Rattle.ssa_form.specs.declared.SsaPart.{SsaPart}
use Rattle.ssa_form.specs.Parts.{Valuation}
use Rattle.ssa_form.specs.Form.{under}
use Rattle.memory_models.specs.declared.StaticEvent.{StaticEvent}
use Rattle.memory_models.specs.declared.EventBits.{EventBits}
use Rattle.event_graph.specs.Graphs.{events_of, bits_of}
use Rattle.event_graph.specs.Laws.{IsSpelled}
use Rattle.encode_match.specs.Spelling.{handles_in, thread_with, threads_from}
use Rattle.encode_match.specs.Parts.{part_map}
use Rattle.encode_match.specs.Running.{IsRunning}
use Rattle.encode_match.proofs.SpelledRuns.{Shown, runs, sleeps, shown, handles_running, first_from, rest_from}

-- one more in front of a list of pairs
pairs_cons : {A : Type 0} (R : A → A → Type 0) (x : A) (xs : List A) → All (R x) xs → AllPairs R xs → AllPairs R (x ∷ xs)
pairs_cons R x xs h g i zero d l m = absurd (omega (arith, l))
pairs_cons R x xs h g zero (suc j) d l m = All-get_or (R x) xs j d (omega (arith, m)) h
pairs_cons R x xs h g (suc i) (suc j) d l m = g i j d (omega (arith, l)) (omega (arith, m))

module _ (p : Checked) (flat : Flat) (f : Ssa) (words : List (List Lit)) (s : List Bool) (k : IsSpelled flat f words s) where
  abbrev es : List StaticEvent
  es = events_of f words

  abbrev bs : List EventBits
  bs = bits_of f words

  abbrev v : Valuation
  v = under (inputs_under s words) f

  abbrev Running : ℕ → SsaPart → Type 0
  Running i q = IsRunning f v i q

  abbrev pub thread_at : SsaPart → ThreadPart
  thread_at q = thread_with s (part_map words q) (v q.handle)

  abbrev rest_threads : ℕ → List SsaPart → List ThreadPart
  rest_threads i ps = threads_from s i es bs (map (part_map words) ps)

  abbrev Whole : List ThreadPart → List Run → Type 0
  Whole ts rs = AllZip (RunsTo (thread_run p)) ts rs

  abbrev AreFrom : ℕ → List SsaPart → Type 0
  AreFrom i ps = (n : ℕ) (a : SsaPart) → slice_get ps n ≡ Some a → slice_get f.parts (i + n) ≡ Some a

  -- what holds of the threads of a list of parts, whatever their runs
  abbrev Told : (List Thread → List Run → Type 0) → List ThreadPart → Type 0
  Told G ts = (rs : List Run) → Whole ts rs → G (threads_of ts rs) rs

  -- one part: nothing, where it sleeps, or one more thread
  told_more : (G : List Thread → List Run → Type 0) (i : ℕ) (q : SsaPart) (ts : List ThreadPart) → Shown flat f words s k i q
      → (Running i q → (run : Run) (rs : List Run) → RunsTo (thread_run p) (thread_at q) run → Whole ts rs → G (thread_of (thread_at q) run ∷ threads_of ts rs) (run ∷ rs))
      → (handles_in s i es bs ≡ [] → Told G ts) → Told G (map (thread_with s (part_map words q)) (handles_in s i es bs) ++ ts)
  told_more G i q ts (runs r e) one none = subst (λ (l : List ℕ). Told G (map (thread_with s (part_map words q)) l ++ ts)) (sym e) (told_one G q ts (one r))
    where
      told_one : (H : List Thread → List Run → Type 0) (a : SsaPart) (us : List ThreadPart) → ((run : Run) (rs : List Run) → RunsTo (thread_run p) (thread_at a) run → Whole us rs → H (thread_of (thread_at a) run ∷ threads_of us rs) (run ∷ rs)) → Told H (thread_at a ∷ us)
      told_one H a us go [] w = absurd w
      told_one H a us go (run ∷ rs) w = go run rs w.0 w.1
  told_more G i q ts (sleeps e) one none = subst (λ (l : List ℕ). Told G (map (thread_with s (part_map words q)) l ++ ts)) (sym e) (none e)

  -- each thread is that of a part that runs, with its run
  all_from : (P : Thread → Type 0) (i : ℕ) (ps : List SsaPart) → AreFrom i ps → ((j : ℕ) (q : SsaPart) → i ≤ j → Running j q → (run : Run) → RunsTo (thread_run p) (thread_at q) run → P (thread_of (thread_at q) run))
      → Told (λ ts rs. All P ts) (rest_threads i ps)
  all_from P i [] h each [] w = All-nil P
  all_from P i [] h each (r ∷ rs) w = absurd w
  all_from P i (q ∷ ps) h each rs w =
      let go = all_from P (i + 1) ps (rest_from flat f words s k i q ps h) (λ j a l. each j a (omega (arith, l))) in
      told_more (λ ts rs. All P ts) i q (rest_threads (i + 1) ps) (shown flat f words s k i q (first_from flat f words s k i q ps h))
      (λ r run us a b. All-cons P (thread_of (thread_at q) run) (threads_of (rest_threads (i + 1) ps) us) (each i q (omega arith) r run a) (go us b))
      (λ e. go) rs w

  -- each run is that of a part that runs
  runs_from : (P : Run → Type 0) (i : ℕ) (ps : List SsaPart) → AreFrom i ps → ((j : ℕ) (q : SsaPart) → Running j q → (run : Run) → RunsTo (thread_run p) (thread_at q) run → P run) → Told (λ ts rs. All P rs) (rest_threads i ps)
  runs_from P i [] h each [] w = All-nil P
  runs_from P i [] h each (r ∷ rs) w = absurd w
  runs_from P i (q ∷ ps) h each rs w =
      let go = runs_from P (i + 1) ps (rest_from flat f words s k i q ps h) each in
      told_more (λ ts rs. All P rs) i q (rest_threads (i + 1) ps) (shown flat f words s k i q (first_from flat f words s k i q ps h))
      (λ r run us a b. All-cons P run us (each i q r run a) (go us b))
      (λ e. go) rs w

  -- a relation of each part that runs to the later ones
  pairs_from : (R : Thread → Thread → Type 0) (i : ℕ) (ps : List SsaPart) → AreFrom i ps
      → ((j l : ℕ) (a b : SsaPart) → j < l → Running j a → Running l b → (u w : Run) → RunsTo (thread_run p) (thread_at a) u → RunsTo (thread_run p) (thread_at b) w → R (thread_of (thread_at a) u) (thread_of (thread_at b) w))
      → Told (λ ts rs. AllPairs R ts) (rest_threads i ps)
  pairs_from R i [] h each [] w = λ j l d a b. absurd (omega (arith, b))
  pairs_from R i [] h each (r ∷ rs) w = absurd w
  pairs_from R i (q ∷ ps) h each rs w =
      let from = rest_from flat f words s k i q ps h in
      let go = pairs_from R (i + 1) ps from each in
      told_more (λ ts rs. AllPairs R ts) i q (rest_threads (i + 1) ps) (shown flat f words s k i q (first_from flat f words s k i q ps h))
      (λ r run us a b. pairs_cons R (thread_of (thread_at q) run) (threads_of (rest_threads (i + 1) ps) us)
      (all_from (R (thread_of (thread_at q) run)) (i + 1) ps from (λ j c l rc z y. each i j q c (omega (arith, l)) r rc run z a y) us b) (go us b))
      (λ e. go) rs w

  -- the place of a part's thread
  pub record PlaceOf (q : SsaPart) (ts : List Thread) (rs : List Run) : Type 0 where
    pub place : ℕ
    pub run : Run
    pub runs_it : RunsTo (thread_run p) (thread_at q) run
    pub is_thread : slice_get ts place ≡ Some (thread_of (thread_at q) run)
    pub is_run : slice_get rs place ≡ Some run

  place_behind : (q : SsaPart) (t : Thread) (ts : List Thread) (r : Run) (rs : List Run) → PlaceOf q ts rs → PlaceOf q (t ∷ ts) (r ∷ rs)
  place_behind q t ts r rs h = record { place = suc h.place; run = h.run; runs_it = h.runs_it; is_thread = h.is_thread; is_run = h.is_run }

  place_from : (j : ℕ) (q : SsaPart) → Running j q → (i : ℕ) (ps : List SsaPart) → AreFrom i ps → i ≤ j → j < i + length ps → Told (PlaceOf q) (rest_threads i ps)
  place_from j q r i [] h l m rs w = absurd (omega (arith, l, m))
  place_from j q r i (a ∷ ps) h l m rs w =
      let there = first_from flat f words s k i a ps h in
      let from = rest_from flat f words s k i a ps h in
      ⊎_elim
      (λ same.
      let one : a ≡ q = one_answer (slice_get f.parts j) a q (subst (λ (n : ℕ). slice_get f.parts n ≡ Some a) same there) r.there in
      told_more (PlaceOf q) i a (rest_threads (i + 1) ps) (shown flat f words s k i a there)
      (λ ra run us c d. subst (λ (z : SsaPart). PlaceOf q (thread_of (thread_at z) run ∷ threads_of (rest_threads (i + 1) ps) us) (run ∷ us)) (sym one)
      (record { place = 0; run = run; runs_it = subst (λ (z : SsaPart). RunsTo (thread_run p) (thread_at z) run) one c; is_thread = refl; is_run = refl }))
      (λ e. absurd (no_handle (sym (handles_running flat f words s k i q (subst (λ (n : ℕ). Running n q) (sym same) r)) ∙ e))) rs w)
      (λ n.
      let low : i + 1 ≤ j = ⊎_elim (λ e. absurd (n e)) (λ o. ⊎_elim (λ y. omega (arith, y)) (λ y. absurd (omega (arith, y, l))) o) (cases_order i j) in
      let go = place_from j q r (i + 1) ps from low (omega (arith, m)) in
      told_more (PlaceOf q) i a (rest_threads (i + 1) ps) (shown flat f words s k i a there)
      (λ ra run us c d. place_behind q (thread_of (thread_at a) run) (threads_of (rest_threads (i + 1) ps) us) run us (go us d))
      (λ e. go) rs w)
      (cases_eq i j)
    where
      no_handle : {h : ℕ} → h ∷ [] ≡ [] → ⊥
      no_handle e = let n : 1 ≡ 0 = ap length e in omega (arith, n)

  -- ---- all of them

  from_start : AreFrom 0 f.parts
  from_start n a e = let same : n ≡ 0 + n = omega arith in subst (λ (z : ℕ). slice_get f.parts z ≡ Some a) same e

  pub all_threads : (P : Thread → Type 0) → ((j : ℕ) (q : SsaPart) → Running j q → (run : Run) → RunsTo (thread_run p) (thread_at q) run → P (thread_of (thread_at q) run))
      → (rs : List Run) → Whole (rest_threads 0 f.parts) rs → All P (threads_of (rest_threads 0 f.parts) rs)
  all_threads P each rs w = all_from P 0 f.parts from_start (λ j q l. each j q) rs w

  pub all_runs : (P : Run → Type 0) → ((j : ℕ) (q : SsaPart) → Running j q → (run : Run) → RunsTo (thread_run p) (thread_at q) run → P run)
      → (rs : List Run) → Whole (rest_threads 0 f.parts) rs → All P rs
  all_runs P each rs w = runs_from P 0 f.parts from_start each rs w

  pub all_pairs : (R : Thread → Thread → Type 0)
      → ((j l : ℕ) (a b : SsaPart) → j < l → Running j a → Running l b → (u w : Run) → RunsTo (thread_run p) (thread_at a) u → RunsTo (thread_run p) (thread_at b) w → R (thread_of (thread_at a) u) (thread_of (thread_at b) w))
      → (rs : List Run) → Whole (rest_threads 0 f.parts) rs → AllPairs R (threads_of (rest_threads 0 f.parts) rs)
  all_pairs R each rs w = pairs_from R 0 f.parts from_start each rs w

  pub place_of_part : (j : ℕ) (q : SsaPart) → Running j q → (rs : List Run) → Whole (rest_threads 0 f.parts) rs → PlaceOf q (threads_of (rest_threads 0 f.parts) rs) rs
  place_of_part j q r rs w = let n = slice_get_within f.parts j q r.there in place_from j q r 0 f.parts from_start (omega arith) (omega (arith, n)) rs w
