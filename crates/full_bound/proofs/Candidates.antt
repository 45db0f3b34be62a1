-- Threads that are all over, gathered into a candidate that fails.
use Rattle.std.proofs.Common.{◌≡◌, ◌≢◌, ℕ, zero, suc, ◌+◌, ◌<◌, ◌≤◌, ◌^◌, List, [], ◌∷◌, Option, Some, None, Bool, true, false, length, map, refl, sym, ap, ◌∙◌, subst, inl, inr, ◌⊎◌, arith, get_or}
use Rattle.std.specs.Prelude.{nat_eq, slice_get, All, AllPairs}
use Rattle.std.specs.List.{AllZip}
use Rattle.std.proofs.lemmas.Bool.{false≢true, eqb-true, eq-eqb}
use Rattle.std.proofs.lemmas.Option.{same_Some, none-some, slice_get-get_or}
use Rattle.dg_base.proofs.Lists.{get_nothing, get_map, get_from_map, get_there}
use Rattle.axiom_model.specs.declared.MemoryModel.{MemoryModel}
use Rattle.axiom_model.specs.declared.MemoryModel.TheVariants.{Sc, Tso, Pso}
use Rattle.axiom_model.specs.declared.Action.{Action}
use Rattle.axiom_model.specs.declared.Action.TheVariants.{Read, Write, Create, Join, Start, End}
use Rattle.axiom_model.specs.declared.Event.{Event}
use Rattle.axiom_model.specs.declared.Event.TheVariants.{Initial, At}
use Rattle.axiom_model.specs.declared.RfPair.{RfPair}
use Rattle.axiom_model.specs.declared.ThreadPart.{ThreadPart}
use Rattle.axiom_model.specs.declared.Candidate.{Candidate}
use Rattle.axiom_model.specs.Execution.{Thread, Execution, actions_of, action_at, IsOf, Rf, Co, Fr, OneSection, SameBlock}
use Rattle.axiom_model.specs.Models.{keeps, Kept, in_thread, in_section, creates, joins, initial, GlobalRf, LocalEdge, GlobalEdge, Consistent}
use Rattle.axiom_model.specs.Models as models
use Rattle.axiom_model.specs.WellMade.{Shape, Writes, SomeThread, ReadsOnce, IsWriteOrder, WellMade}
use Rattle.axiom_model.specs.Failing.{Run, RunsTo, threads_of, HasWords}
use Rattle.axiom_model.proofs.Acceptance.{accepted-consistent}
use Rattle.c_check.specs.declared.checked.Checked.{Checked}
use Rattle.run_model.specs.Programs.{shape_of}
use Rattle.run_model.specs.Threads.{thread_run, ProgramFails}
use Rattle.run_laws.proofs.Framing.{run_framed}
use Rattle.run_laws.proofs.WordRuns.{all_from}
use Rattle.full_bound.proofs.Worlds.{World, Exists, made_at, WritesTo, InBlock, Related, IsGlobal, IsSeen, Edge}
use Rattle.full_bound.proofs.Worlds as worlds
use Rattle.full_bound.proofs.Standing.{IsOver, Parts, Fits}
use Rattle.full_bound.proofs.Going.{ends_last}
use Rattle.full_bound.proofs.Ascending.{In, in_at, at_in, ascending_at, one_place}
use Rattle.full_bound.proofs.Gathering.{Pair, thread_in, threads_paired, IsGood, pairs, pairs_good, pairs_ascending, pairs_complete, actions_same, chosen, chosen_sound, chosen_complete, chosen_ascending}

abbrev is_read : Action → Bool
is_read (Read c v) = true
is_read a = false

abbrev is_write : ℕ → Action → Bool
is_write c (Write d v) = nat_eq d c
is_write c a = false

read_is : (a : Action) → is_read a ≡ true → (c : ℕ) × (v : ℕ) × (a ≡ Read c v)
read_is (Read c v) e = (c, v, refl)
read_is a e = absurd (false≢true e)

write_is : (c : ℕ) (a : Action) → is_write c a ≡ true → (v : ℕ) × (a ≡ Write c v)
write_is c (Write d v) e = (v, ap (λ z. Write z v) (eqb-true d c e))
write_is c a e = absurd (false≢true e)

module _ (p : Checked) (m : MemoryModel) (w : World) (who : Parts) (fits : Fits p m w who) (over : (h f v : ℕ) → who h ≡ Some (f, v) → IsOver p f h v (w.acts h))
    (N : ℕ) (low : (h : ℕ) (z : ℕ × ℕ) → who h ≡ Some z → h < N) (limit : N ≤ 2 ^ 24) (known : (h f v : ℕ) → who h ≡ Some (f, v) → f < (shape_of p.program).functions) where
  abbrev s : Shape
  s = shape_of p.program

  abbrev ps : List Pair
  ps = pairs p m w who fits over N

  abbrev some : (Action → Bool) → List Event
  some test = chosen p m w who fits over N low test

  cos : ℕ → List ℕ → List (List Event)
  cos c [] = []
  cos c (v ∷ vs) = (Initial ∷ some (is_write c)) ∷ cos (suc c) vs

  cos_length : (c : ℕ) (vs : List ℕ) → length (cos c vs) ≡ length vs
  unfolding cos
  cos_length c [] = refl
  cos_length c (v ∷ vs) = ap suc (cos_length (suc c) vs)

  cos_at : (c : ℕ) (vs : List ℕ) (k : ℕ) (l : List Event) → slice_get (cos c vs) k ≡ Some l → (l ≡ Initial ∷ some (is_write (c + k))) × (k < length vs)
  unfolding cos
  cos_at c [] k l e = absurd (get_nothing k l e)
  cos_at c (v ∷ vs) zero l e = let at : c ≡ c + 0 = omega arith in (sym (same_Some _ l e) ∙ ap (λ z. Initial ∷ some (is_write z)) at, omega arith)
  cos_at c (v ∷ vs) (suc k) l e =
      let it = cos_at (suc c) vs k l e in
      let at : suc c + k ≡ c + suc k = omega arith in
      (it.0 ∙ ap (λ z. Initial ∷ some (is_write z)) at, omega (arith, it.1))

  abbrev pair_of : Event → RfPair
  pair_of r = record { reader = r; source = w.source r }

  pub candidate : Candidate
  candidate = record { threads = map (λ (x : Pair). x.part) ps; rf = map pair_of (some is_read); co = cos 0 s.initials }

  abbrev rs : List Run
  rs = map (λ (x : Pair). x.run) ps

  abbrev x : Execution
  x = record { threads = threads_of (map (λ (x : Pair). x.part) ps) rs; rf = map pair_of (some is_read); co = cos 0 s.initials }

  acts_same : (h : ℕ) → actions_of x.threads h ≡ w.acts h
  acts_same h = ap (λ ts. actions_of ts h) (threads_paired ps) ∙ actions_same p m w who fits over N low h

  at_same : (e : Event) → action_at x e ≡ made_at w.acts e
  at_same Initial = refl
  at_same (At h i) = ap (λ (l : List Action). slice_get l i) (acts_same h)

  made : (e : Event) (a : Action) → action_at x e ≡ Some a → made_at w.acts e ≡ Some a
  made e a h = sym (at_same e) ∙ h

  seen : (e : Event) (a : Action) → made_at w.acts e ≡ Some a → action_at x e ≡ Some a
  seen e a h = at_same e ∙ h

  -- ---- threads

  record Thready (k : ℕ) (t : Thread) : Type 0 where
    pub pair : Pair
    pub there : slice_get ps k ≡ Some pair
    pub is : thread_in pair ≡ t
    pub good : IsGood p m w who fits over pair

  thready : (k : ℕ) (t : Thread) → slice_get x.threads k ≡ Some t → Thready k t
  thready k t e =
      let it = get_from_map thread_in ps k t (sym (ap (λ (ts : List Thread). slice_get ts k) (threads_paired ps)) ∙ e) in
      record { pair = it.0; there = it.1; is = it.2; good = (pairs_good p m w who fits over N it.0 (in_at Pair it.0 ps k it.1)).0 }

  -- a thread that is there
  record Has (h : ℕ) : Type 0 where
    pub place : ℕ
    pub pair : Pair
    pub there : slice_get x.threads place ≡ Some (thread_in pair)
    pub good : IsGood p m w who fits over pair
    pub same : pair.part.handle ≡ h
    pub run_there : slice_get rs place ≡ Some pair.run

  has : (h : ℕ) (z : ℕ × ℕ) → who h ≡ Some z → Has h
  has h z e =
      let it = pairs_complete p m w who fits over N h z (low h z e) e in
      let at = at_in Pair it.0 ps it.1 in
      record {
        place = at.0;
        pair = it.0;
        there = ap (λ (ts : List Thread). slice_get ts at.0) (threads_paired ps) ∙ get_map thread_in ps at.0 it.0 at.1;
        good = (pairs_good p m w who fits over N it.0 it.1).0;
        same = it.2;
        run_there = get_map (λ (x : Pair). x.run) ps at.0 it.0 at.1;
      }

  writes_on : (e : Event) (c v : ℕ) → WritesTo s w.acts e c v → Writes s x e c v
  writes_on Initial c v h = h
  writes_on (At k i) c v h = seen (At k i) (Write c v) h

  block_in : (a b : Event) → SameBlock x a b → InBlock w.acts a b
  block_in Initial Initial h = tt
  block_in Initial (At k j) h = absurd h
  block_in (At k i) Initial h = absurd h
  block_in (At k i) (At l j) h = subst (λ (acts : List Action). (k ≡ l) × ((i ≡ j) ⊎ OneSection acts i j)) (acts_same l) h

  block_out : (a b : Event) → InBlock w.acts a b → SameBlock x a b
  block_out Initial Initial h = tt
  block_out Initial (At k j) h = absurd h
  block_out (At k i) Initial h = absurd h
  block_out (At k i) (At l j) h = subst (λ (acts : List Action). (k ≡ l) × ((i ≡ j) ⊎ OneSection acts i j)) (sym (acts_same l)) h

  -- ---- edges

  abbrev Into : Option MemoryModel → Event → Event → Type 0
  Into k = Edge k s w.acts w.source w.global

  rf_at : (a r : Event) → Rf x a r → (a ≡ w.source r) × ((c : ℕ) × (v : ℕ) × (made_at w.acts r ≡ Some (Read c v)))
  rf_at a r h =
      let it = get_from_map pair_of (some is_read) h.0 (record { reader = r; source = a }) h.1 in
      let same : it.0 ≡ r = ap (λ (q : RfPair). q.reader) it.2 in
      let source : w.source it.0 ≡ a = ap (λ (q : RfPair). q.source) it.2 in
      let act = chosen_sound p m w who fits over N low is_read it.0 (in_at Event it.0 (some is_read) h.0 it.1) in
      let read = read_is act.0 act.2 in
      (sym source ∙ ap w.source same, (read.0, read.1, subst (λ e. made_at w.acts e ≡ Some (Read read.0 read.1)) same (act.1 ∙ ap (λ z. Some z) read.2)))

  -- a write of the cell at a place of its order
  placed : (c : ℕ) (l : List Event) → slice_get x.co c ≡ Some l → (i : ℕ) (e : Event) → slice_get l i ≡ Some e → (v : ℕ) × WritesTo s w.acts e c v
  placed c l h i e q =
      let it = cos_at 0 s.initials c l h in
      let cell : 0 + c ≡ c = omega arith in
      by i (subst (λ z. slice_get z i ≡ Some e) (it.0 ∙ ap (λ z. Initial ∷ some (is_write z)) cell) q) where
        written_at : (e : Event) (v : ℕ) → made_at w.acts e ≡ Some (Write c v) → WritesTo s w.acts e c v
        written_at Initial v z = absurd (none-some (Write c v) z)
        written_at (At k j) v z = z

        by : (i : ℕ) → slice_get (Initial ∷ some (is_write c)) i ≡ Some e → (v : ℕ) × WritesTo s w.acts e c v
        by zero z =
            let fits' = (cos_at 0 s.initials c l h).1 in
            let there = get_there s.initials c fits' in
            (there.0, subst (λ q. WritesTo s w.acts q c there.0) (same_Some Initial e z) there.1)
        by (suc i) z =
            let act = chosen_sound p m w who fits over N low (is_write c) e (in_at Event e (some (is_write c)) i z) in
            let it = write_is c act.0 act.2 in
            (it.0, written_at e it.0 (act.1 ∙ ap (λ z. Some z) it.1))

  initial_first : (e : Event) (a : Action) → made_at w.acts e ≡ Some a → w.global Initial < w.global e
  initial_first e a h = fits.sound.global_rises Initial e (worlds.Edge.initial a tt refl h)

  co_rises : (c : ℕ) (a b : Event) → Co x c a b → (u : ℕ) × (v : ℕ) × WritesTo s w.acts a c u × WritesTo s w.acts b c v × (w.global a < w.global b)
  co_rises c a b (l, h, (i, j, lt, p', q)) =
      let one = placed c l h i a p' in
      let two = placed c l h j b q in
      let it = cos_at 0 s.initials c l h in
      let cell : 0 + c ≡ c = omega arith in
      let whole = it.0 ∙ ap (λ z. Initial ∷ some (is_write z)) cell in
      (one.0, two.0, one.1, two.1, by i j lt (subst (λ z. slice_get z i ≡ Some a) whole p') (subst (λ z. slice_get z j ≡ Some b) whole q)) where
        by : (i j : ℕ) → i < j → slice_get (Initial ∷ some (is_write c)) i ≡ Some a → slice_get (Initial ∷ some (is_write c)) j ≡ Some b → w.global a < w.global b
        by zero zero l y z = omega (arith, l)
        by zero (suc j) l y z =
            let act = chosen_sound p m w who fits over N low (is_write c) b (in_at Event b (some (is_write c)) j z) in
            subst (λ q. w.global q < w.global b) (same_Some Initial a y) (initial_first b act.0 act.1)
        by (suc i) zero l y z = omega (arith, l)
        by (suc i) (suc j) l y z = ascending_at Event w.global (some (is_write c)) (chosen_ascending p m w who fits over N low (is_write c)) i j a b (omega (arith, l)) y z

  co_in : (k : Option MemoryModel) (c : ℕ) (a b : Event) → Co x c a b → Into k a b
  co_in k c a b h = let it = co_rises c a b h in worlds.Edge.writes c it.0 it.1 it.2 it.3 it.4

  fr_in : (k : Option MemoryModel) (a b : Event) → Fr x a b → Into k a b
  fr_in k a b h =
      let it = co_rises h.cell h.source b h.later in
      let from = rf_at h.source a h.from in
      worlds.Edge.overtakes h.cell h.value it.1 (made a (Read h.cell h.value) h.reads) it.3 (subst (λ z. w.global z < w.global b) from.0 it.4)

  local_in : (a b : Event) → LocalEdge x a b → Into None a b
  local_in a b (models.LocalEdge.po o) = worlds.Edge.in_thread o.first o.second o.before (made a o.first o.is_first) (made b o.second o.is_second) o.holds
  local_in a b (models.LocalEdge.rf h) = let it = rf_at a b h in worlds.Edge.reads it.1.0 it.1.1 it.0 it.1.2 tt
  local_in a b (models.LocalEdge.co c h) = co_in None c a b h
  local_in a b (models.LocalEdge.fr h) = fr_in None a b h

  global_rf_in : (m : MemoryModel) (a b : Event) → GlobalRf m x a b → Into (Some m) a b
  global_rf_in Sc a b h = let it = rf_at a b h in worlds.Edge.reads it.1.0 it.1.1 it.0 it.1.2 tt
  global_rf_in Tso a b h = let it = rf_at a b h.0 in worlds.Edge.reads it.1.0 it.1.1 it.0 it.1.2 h.1
  global_rf_in Pso a b h = let it = rf_at a b h.0 in worlds.Edge.reads it.1.0 it.1.1 it.0 it.1.2 h.1

  of_handle : (h : ℕ) (e : Event) → IsOf h e → (i : ℕ) × (e ≡ At h i)
  of_handle h Initial o = absurd o
  of_handle h (At k i) o = (i, ap (λ z. At z i) o)

  kept_in : (a b : Event) → Kept m x a b → Into (Some m) a b
  kept_in a b (in_thread o) = worlds.Edge.in_thread o.first o.second o.before (made a o.first o.is_first) (made b o.second o.is_second) o.holds
  kept_in a b (in_section o z) = worlds.Edge.in_section o.first o.second tt o.before (made a o.first o.is_first) (made b o.second o.is_second) (block_in a b z)
  kept_in a b (creates {h = h} {f = f} {v = v} y z o) = let it = of_handle h b o in worlds.Edge.creates h it.0 f v tt it.1 (made a (Create h f v) y) (made b Start z)
  kept_in a b (joins {h = h} y o z) = let it = of_handle h a o in worlds.Edge.joins h it.0 tt it.1 (made a End y) (made b (Join h) z)
  kept_in a b (initial {q = q} y) = worlds.Edge.initial q tt refl (made b q y)

  global_in : (a b : Event) → GlobalEdge m x a b → Into (Some m) a b
  global_in a b (models.GlobalEdge.kept h) = kept_in a b h
  global_in a b (models.GlobalEdge.rf h) = global_rf_in m a b h
  global_in a b (models.GlobalEdge.co c h) = co_in (Some m) c a b h
  global_in a b (models.GlobalEdge.fr h) = fr_in (Some m) a b h

  consistent : Consistent m x
  consistent = accepted-consistent m x w.local w.global w.block (record {
    local_forward = λ a b h. fits.sound.local_rises a b (local_in a b h);
    global_forward = λ a b h. fits.sound.global_rises a b (global_in a b h);
    one_in_each_block = λ a b h. fits.sound.one_block a b (block_in a b h);
    block_forward = λ a b h. fits.sound.block_rises a b (global_in a b h.0) (λ z. h.1 (block_out a b z));
  })

  -- ---- well made

  some_thread : (h : ℕ) (P : Thread → Type 0) (z : ℕ × ℕ) → who h ≡ Some z → ((q : Has h) → P (thread_in q.pair)) → SomeThread x h P
  some_thread h P z e f = let q = has h z e in (q.place, thread_in q.pair, q.there, q.same, f q)

  main_parts : (q : Has 0) → ((thread_in q.pair).function ≡ s.main) × ((thread_in q.pair).arg ≡ 0)
  main_parts q =
      let at : who 0 ≡ Some (q.pair.part.function, q.pair.part.arg) = subst (λ h. who h ≡ Some (q.pair.part.function, q.pair.part.arg)) q.same q.good.is in
      let same : (s.main, 0) ≡ (q.pair.part.function, q.pair.part.arg) = same_Some (s.main, 0) (q.pair.part.function, q.pair.part.arg) (sym fits.main ∙ at) in
      (sym (ap (λ (z : ℕ × ℕ). z.0) same), sym (ap (λ (z : ℕ × ℕ). z.1) same))

  all_threads : (P : Thread → Type 0) → ((k : ℕ) (y : Pair) → IsGood p m w who fits over y → P (thread_in y)) → All P x.threads
  all_threads P f = all_from P x.threads (λ k t e. let it = thready k t e in subst P it.is (f k it.pair it.good))

  rising : AllPairs (λ (t u : Thread). t.handle < u.handle) x.threads
  rising j k d l h =
      let one = thready j (get_or x.threads j d) (slice_get-get_or x.threads j d (omega (arith, l, h))) in
      let two = thready k (get_or x.threads k d) (slice_get-get_or x.threads k d h) in
      let less = ascending_at Pair (λ (y : Pair). y.part.handle) ps (pairs_ascending p m w who fits over N) j k one.pair two.pair l one.there two.there in
      omega (arith, less, ap (λ (t : Thread). t.handle) one.is, ap (λ (t : Thread). t.handle) two.is)

  reads_once : (e : Event) (c v : ℕ) → action_at x e ≡ Some (Read c v) → ReadsOnce s x e c v
  reads_once e c v h =
      let at = at_in Event e (some is_read) (chosen_complete p m w who fits over N low is_read e (Read c v) (made e (Read c v) h) refl) in
      record {
        place = at.0;
        source = w.source e;
        pair = get_map pair_of (some is_read) at.0 e at.1;
        only = λ k y q r.
            let it = get_from_map pair_of (some is_read) k y q in
            let same : it.0 ≡ e = ap (λ (z : RfPair). z.reader) it.2 ∙ r in
            one_place Event w.global (some is_read) (chosen_ascending p m w who fits over N low is_read) k at.0 e (subst (λ z. slice_get (some is_read) k ≡ Some z) same it.1) at.1;
        writes = writes_on (w.source e) c v (fits.sound.values e c v (made e (Read c v) h));
      }

  write_order : (c : ℕ) (l : List Event) → slice_get x.co c ≡ Some l → IsWriteOrder x c l
  write_order c l h =
      let it = cos_at 0 s.initials c l h in
      let cell : 0 + c ≡ c = omega arith in
      record {
        writes = some (is_write c);
        initial_first = it.0 ∙ ap (λ z. Initial ∷ some (is_write z)) cell;
        once = λ i j e q r. one_place Event w.global (some (is_write c)) (chosen_ascending p m w who fits over N low (is_write c)) i j e q r;
        sound = λ i e q.
            let act = chosen_sound p m w who fits over N low (is_write c) e (in_at Event e (some (is_write c)) i q) in
            let z = write_is c act.0 act.2 in
            (z.0, seen e (Write c z.0) (act.1 ∙ ap (λ a. Some a) z.1));
        complete = λ e v q. at_in Event e (some (is_write c)) (chosen_complete p m w who fits over N low (is_write c) e (Write c v) (made e (Write c v) q) (eq-eqb c c refl));
      }

  -- a thread with an End has come to its end
  has_ended : (h i : ℕ) (q : Has h) → made_at w.acts (At h i) ≡ Some End → q.pair.run.ended ≡ true
  has_ended h i q e =
      let fr = run_framed p q.pair.part.function q.pair.part.handle q.pair.part.arg q.pair.part.script q.pair.run q.good.runs.0 in
      let there : slice_get q.pair.run.actions i ≡ Some End = ap (λ (l : List Action). slice_get l i) (q.good.actions ∙ ap w.acts q.same) ∙ e in
      (ends_last q.pair.run.actions q.pair.run.ended fr i there).0

  there_is : (h i : ℕ) (a : Action) (o : Option (ℕ × ℕ)) → who h ≡ o → made_at w.acts (At h i) ≡ Some a → (z : ℕ × ℕ) × (who h ≡ Some z)
  there_is h i a None is e = absurd (get_nothing i a (subst (λ (l : List Action). slice_get l i ≡ Some a) (fits.none h is) e))
  there_is h i a (Some z) is e = (z, is)

  well_made : WellMade s x
  well_made = record {
    has_main = some_thread 0 (λ t. (t.function ≡ s.main) × (t.arg ≡ 0)) (s.main, 0) fits.main main_parts;
    rising = rising;
    known = all_threads (λ t. (t.function < s.functions) × (t.handle < 2 ^ 24)) (λ k y g.
        let less : y.part.handle < N = low y.part.handle (y.part.function, y.part.arg) g.is in
        (known y.part.handle y.part.function y.part.arg g.is, let a : y.part.handle < 2 ^ 24 = omega (arith, less, limit) in a));
    none_bad = all_threads (λ t. t.bad ≡ false) (λ k y g. g.not_bad);
    created = all_threads (λ t. t.handle ≢ 0 → (e : Event) × (action_at x e ≡ Some (Create t.handle t.function t.arg))) (λ k y g ne. let e = fits.made y.part.handle y.part.function y.part.arg g.is ne in (e.0, seen e.0 (Create y.part.handle y.part.function y.part.arg) e.1));
    creates = λ e h f v q. let it = fits.known e h f v (made e (Create h f v) q) in some_thread h (λ t. Unit {0}) it.0 it.1 (λ z. tt);
    reads = reads_once;
    readers = all_from (λ (z : RfPair). (c : ℕ) × (v : ℕ) × (action_at x z.reader ≡ Some (Read c v))) x.rf (λ k y q.
        let it = get_from_map pair_of (some is_read) k y q in
        let act = chosen_sound p m w who fits over N low is_read it.0 (in_at Event it.0 (some is_read) k it.1) in
        let read = read_is act.0 act.2 in
        (read.0, read.1, subst (λ (z : RfPair). action_at x z.reader ≡ Some (Read read.0 read.1)) it.2 (seen it.0 (Read read.0 read.1) (act.1 ∙ ap (λ z. Some z) read.2))));
    lists = cos_length 0 s.initials;
    orders = write_order;
    joins = λ e h q.
        let it = fits.joined e h (made e (Join h) q) in
        let is = there_is h it.1.0 End (who h) refl it.1.1 in
        (it.0, some_thread h (λ t. t.ended ≡ true) is.0 is.1 (λ z. has_ended h it.1.0 z it.1.1));
  }

  all_zip : (l : List Pair) → ((y : Pair) → In Pair y l → IsGood p m w who fits over y) → AllZip (RunsTo (thread_run p)) (map (λ (y : Pair). y.part) l) (map (λ (y : Pair). y.run) l)
  all_zip [] g = tt
  all_zip (y ∷ l) g = ((g y (inl refl)).runs, all_zip l (λ z i. g z (inr i)))

  words : HasWords candidate
  unfolding candidate
  words = all_from (λ (z : ThreadPart). All (λ v. v < 2 ^ 32) z.script) (map (λ (y : Pair). y.part) ps) (λ k t e.
      let it = get_from_map (λ (y : Pair). y.part) ps k t e in
      subst (λ (z : ThreadPart). All (λ v. v < 2 ^ 32) z.script) it.2 (pairs_good p m w who fits over N it.0 (in_at Pair it.0 ps k it.1)).0.words)

  pub gathered_fails : ProgramFails p m candidate
  unfolding candidate
  gathered_fails =
      let q = has fits.fails.handle (fits.fails.function, fits.fails.arg) fits.fails.is in
      let f = q.good.fails q.same in
      record {
        allowed = record {
          threads = rs;
          words = words;
          whole = all_zip ps (λ y i. (pairs_good p m w who fits over N y i).0);
          well_made = well_made;
          consistent = consistent;
        };
        fails = (q.place, q.pair.run, f.0, q.run_there, f.1);
      }
