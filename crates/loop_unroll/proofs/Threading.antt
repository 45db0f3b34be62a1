-- The instances of a program run as its threads do.
use Rattle.std.proofs.Common.{◌≡◌, ℕ, zero, suc, ◌+◌, ◌<◌, ◌≤◌, ◌^◌, inl, inr, List, [], ◌∷◌, ◌++◌, length, Option, Some, None, refl, sym, ap, ◌∙◌, subst, append_assoc, append-nil, length-append, arith}
use Rattle.std.proofs.lemmas.Bool.{ne_eqb, cond-false}
use Rattle.std.specs.Prelude.{cond, nat_eq, slice_get, option_map, All}
use Rattle.dg_base.specs.Values.{is_true}
use Rattle.dg_base.proofs.Lists.{get_append_left, get_append_right}
use Rattle.axiom_model.specs.declared.Action.TheVariants as action
use Rattle.axiom_model.specs.Failing.{Run}
use Rattle.c_tree.specs.declared.program.Function.{Function}
use Rattle.c_check.specs.declared.checked.Checked.{Checked}
use Rattle.c_check.specs.Sections.{unmatched_in_function}
use Rattle.run_model.specs.declared.state.Ending.{Ending}
use Rattle.run_model.specs.declared.state.Ending.TheVariants as ending
use Rattle.run_model.specs.declared.state.Halt.TheVariants as halt
use Rattle.run_model.specs.Steps.{State, Outcome, Step}
use Rattle.run_model.specs.Steps as machine
use Rattle.run_model.specs.Calls.{Setting, finish}
use Rattle.run_model.specs.Programs.{setting_of}
use Rattle.run_model.specs.Threads as threads
use Rattle.flat_prog.specs.declared.Instance.{Instance}
use Rattle.flat_prog.specs.Runs.{FlatState, Progress, Goes, Over, with_local, set_local, go_on, steps, function_in, function_at, first_values, run_seen, flat_run}
use Rattle.flat_prog.specs.Runs as runs
use Rattle.flat_prog.proofs.Steps.{steps_append}
use Rattle.emit_steps.specs.declared.state.Number.{Number}
use Rattle.emit_steps.specs.Emitting.{Emitted, one}
use Rattle.loop_unroll.specs.Stating.{context_within, instance_body}
use Rattle.emit_steps.specs.Instances.{begins, put_numbers, instance_of}
use Rattle.loop_unroll.specs.Whole.{emitted, IsEmitted, AreQueued, AreInstances}
use Rattle.loop_unroll.specs.Unrolled.{RunsAsThread}
use Rattle.emit_steps.proofs.Growth.{Each, Plain, plain_above, Above, Rising}
use Rattle.emit_steps.proofs.Adding.{Since}
use Rattle.loop_unroll.proofs.AddingFunctions.{NoMarks, adds_body, adds_calls, each_at}
use Rattle.emit_steps.proofs.Running.{local_same, local_other, Reaches, Machine, Constants, ran, Beside, ending_of, Follows}
use Rattle.emit_steps.proofs.Simulating.{Value, Held, ValueAt, Holds, Val}
use Rattle.loop_unroll.proofs.Invoking.{Calls, sim_body, sim_calls}

-- ---- numbers are put into their locals

-- the values behind that
abbrev put_values : List Number → (ℕ → ℕ) → ℕ → ℕ
put_values [] values = values
put_values (n ∷ ns) values = put_values ns (with_local values n.local n.value)

abbrev put_state : List Number → FlatState → FlatState
put_state ns t = record t { values = put_values ns t.values }

put : (is : List Instance) (ns : List Number) (t : FlatState) → t.values one ≡ 1 → Above 5 ns → steps is (put_numbers ns) t ≡ Goes (put_state ns t)
put is [] t live high = refl
put is (n ∷ ns) t live high =
    ap (λ v. go_on (cond (is_true v) (Goes (set_local n.local n.value t)) (Goes t)) (steps is (put_numbers ns))) live
    ∙ put is ns (set_local n.local n.value t) (local_other t.values n.local n.value one (λ same. absurd (omega (arith, high.0, same))) ∙ live) high.1

put_same : (ns : List Number) (values : ℕ → ℕ) (l : ℕ) → Plain ns l → put_values ns values l ≡ values l
put_same [] values l plain = refl
put_same (n ∷ ns) values l plain = put_same ns (with_local values n.local n.value) l plain.1 ∙ local_other values n.local n.value l (λ same. plain.0 (sym same))

put_low : (ns : List Number) (values : ℕ → ℕ) (l : ℕ) → Above 5 ns → l < 5 → put_values ns values l ≡ values l
put_low ns values l high low = put_same ns values l (plain_above ns l 5 low high)

put_held : (ns : List Number) (values : ℕ → ℕ) → Rising ns → Each (λ (n : Number). put_values ns values n.local ≡ n.value) ns
put_held [] values h = tt
put_held (n ∷ ns) values h = (
  put_same ns (with_local values n.local n.value) n.local (plain_above ns n.local (n.local + 1) (omega arith) h.0) ∙ local_same values n.local n.value,
  put_held ns (with_local values n.local n.value) h.1,
)

first_off : (arg handle l : ℕ) → 3 ≤ l → first_values arg handle l ≡ 0
first_off arg handle l high =
    cond-false (nat_eq l 0) arg (cond (nat_eq l 1) handle (cond (nat_eq l 2) 1 0)) (ne_eqb l 0 (λ same. absurd (omega (arith, high, same))))
    ∙ (cond-false (nat_eq l 1) handle (cond (nat_eq l 2) 1 0) (ne_eqb l 1 (λ same. absurd (omega (arith, high, same)))) ∙ cond-false (nat_eq l 2) 1 0 (ne_eqb l 2 (λ same. absurd (omega (arith, high, same)))))

-- ---- the queue

queued_length : (s : Setting) (n : ℕ) (fs : List ℕ) (is : List Instance) → AreQueued s n fs is → length fs ≤ length is
queued_length s n [] [] q = omega arith
queued_length s n [] (i ∷ is) q = absurd q
queued_length s n (f ∷ fs) [] q = absurd q
queued_length s n (f ∷ fs) (i ∷ is) q =
    let rest : length (fs ++ q.0.created) ≤ length is = queued_length s (n + length q.0.created) (fs ++ q.0.created) is q.3 in
    omega (arith, rest, length-append fs q.0.created)

-- who waits in the queue comes in its turn
queued_function : (s : Setting) (n : ℕ) (fs : List ℕ) (is : List Instance) → AreQueued s n fs is → (k f : ℕ) → slice_get fs k ≡ Some f → function_at is k ≡ f
queued_function s n [] [] q k f e = absurd (let no : ◌≡◌ {A = Option ℕ} None (Some f) = e in cc)
queued_function s n [] (i ∷ is) q k f e = absurd q
queued_function s n (g ∷ fs) [] q k f e = absurd q
queued_function s n (g ∷ fs) (i ∷ is) q zero f e = let same : g ≡ f = (let is : ◌≡◌ {A = Option ℕ} (Some g) (Some f) = e in cc) in ap (λ (x : Instance). x.function) q.2 ∙ same
queued_function s n (g ∷ fs) (i ∷ is) q (suc k) f e = queued_function s (n + length q.0.created) (fs ++ q.0.created) is q.3 k f (get_append_left fs q.0.created k f e)

pub each_all : {X : Type 0} (P : X → Type 0) (xs : List X) → Each P xs → All P xs
each_all P [] h k d low = absurd (omega arith)
each_all P (x ∷ xs) h zero d low = h.0
each_all P (x ∷ xs) h (suc k) d low = each_all P xs h.1 k d (omega arith)

-- ---- one instance

-- what the rest of a program's instances say of those that this one creates
pub record Names (is : List Instance) (n : ℕ) (z : Emitted) : Type 0 where
  pub few : length z.created < 2 ^ 24
  pub functions : (k f : ℕ) → slice_get z.created k ≡ Some f → function_at is (n + k) ≡ f

module _ (p : Checked) (emits : NoMarks (setting_of p 0)) (whole : Each (λ f. unmatched_in_function f ≡ None) (setting_of p 0).functions) where
  runs_marks : (handle : ℕ) → NoMarks (setting_of p handle)
  runs_marks handle = record { begins = emits.begins; ends = emits.ends }

  abbrev pub CallsAt : Machine → ℕ → Type 0
  CallsAt m n = Calls m (setting_of p 0).shared (setting_of p 0).functions p.k p.full n

  -- all calls that a thread makes stand at most so deep in one another
  abbrev depth : ℕ
  depth = length (setting_of p 0).functions

  body_since : (h : Function) (n : ℕ) → unmatched_in_function h ≡ None → Since (one ∷ []) (begins n) (emitted (setting_of p 0) h n)
  body_since h n matched = (adds_body (context_within depth (setting_of p 0)) (adds_calls (setting_of p 0) emits whole depth) emits h (0 ∷ []) one matched).add (begins n) tt

  module _ (is : List Instance) (h : Function) (n arg handle : ℕ) (script : List ℕ) (small : handle < 2 ^ 24) (matched : unmatched_in_function h ≡ None) (names : Names is n (emitted (setting_of p 0) h n)) where
    abbrev z : Emitted
    z = emitted (setting_of p 0) h n

    since : Since (one ∷ []) (begins n) z
    since = body_since h n matched

    high : Above 5 z.numbers
    high = subst (Above 5) (sym since.grown.numbers_behind) since.grown.numbers_above

    rising : Rising z.numbers
    rising = subst Rising (sym since.grown.numbers_behind) since.grown.rising

    abbrev start : FlatState
    start = put_state z.numbers (runs.begins arg handle script)

    abbrev m : Machine
    m = record { instances = is; last = z; first = n; handle = handle; start = start; small = small; few = names.few; high = high; named = names.functions }

    -- behind Start
    abbrev first_state : State
    first_state = record { locals = []; created = 0; depth = 0; script = script; used = 0; actions = action.Start ∷ [] }

    constants : Constants m start.values
    constants = record {
      own = put_low z.numbers (first_values arg handle) 1 high (omega arith);
      one = put_low z.numbers (first_values arg handle) 2 high (omega arith);
      none = put_low z.numbers (first_values arg handle) 3 high (omega arith);
      numbers = put_held z.numbers (first_values arg handle) rising;
    }

    beside : Beside m (begins n) start first_state
    beside = record {
      ran = refl;
      base = omega arith;
      neat = tt;
      stacked = omega arith;
      plain = λ l off. absurd off;
      constants = constants;
      idle = λ l low plain. put_same z.numbers (first_values arg handle) l plain ∙ first_off arg handle l (omega (arith, low));
      matches = tt;
      creates = put_low z.numbers (first_values arg handle) 4 high (omega arith);
      few = omega arith;
      numbered = omega arith;
      depth = refl;
      opened = λ deep. absurd (deep refl);
      script = refl;
      used = refl;
      actions = refl;
    }

    reaches_end : Reaches z z
    reaches_end = record { numbers = []; numbers_behind = sym (append-nil z.numbers); numbers_above = tt; created = []; created_behind = sym (append-nil z.created) }

    abbrev held : Held
    held = Value one 1 ∷ Value 0 arg ∷ []

    low_value : (l v : ℕ) → l < 4 → start.values l ≡ v → ValueAt [] (begins n) start l v
    low_value l v low is = (record { used = omega (arith, low); apart = λ off. off; other = λ same. absurd (omega (arith, low, same)) }, λ off. off, is)

    holds : Holds [] (begins n) start held
    holds = record {
      low = λ x off. absurd off;
      high = λ x off. absurd off;
      plain = λ x off. absurd off;
      apart = λ x off. absurd off;
      opened = λ deep off. off;
      all = (low_value one 1 (omega arith) constants.one, (low_value 0 arg (omega arith) (put_low z.numbers (first_values arg handle) 0 high (omega arith)), tt));
    }

    sims : CallsAt m depth
    sims = sim_calls m (setting_of p 0).shared (setting_of p 0).functions p.k p.full emits (runs_marks handle) whole depth

    body : Follows (Val []) m [] (begins n) start (instance_body (setting_of p 0) h (begins n)) (threads.run_body (threads.context_within depth (setting_of p handle)) h (arg ∷ []) first_state)
    body =
        (sim_body m (setting_of p 0).shared (setting_of p 0).functions p.k p.full emits (runs_marks handle) whole depth sims h matched (0 ∷ []) (arg ∷ []) [] held one (inl (refl, refl)) (inr (inl (refl, refl)), tt)).live
        (begins n) start first_state beside reaches_end holds

    over_seen : (x : Ending) (t : FlatState) (s : State) → t.used ≡ s.used → t.actions ≡ s.actions → run_seen (runs.flat_run_with (ending_of x) t) ≡ threads.run_with s.actions x s.used
    over_seen ending.Ended t s used actions = ap (λ n. threads.run_with t.actions ending.Ended n) used ∙ ap (λ acts. threads.run_with acts ending.Ended s.used) actions
    over_seen ending.Stopped t s used actions = ap (λ n. threads.run_with t.actions ending.Stopped n) used ∙ ap (λ acts. threads.run_with acts ending.Stopped s.used) actions
    over_seen (ending.Failed q) t s used actions = ap (λ n. threads.run_with t.actions (ending.Failed q) n) used ∙ ap (λ acts. threads.run_with acts (ending.Failed q) s.used) actions
    over_seen (ending.Bound q) t s used actions = ap (λ n. threads.run_with t.actions (ending.Bound q) n) used ∙ ap (λ acts. threads.run_with acts (ending.Bound q) s.used) actions
    over_seen ending.Bad t s used actions = ap (λ n. threads.run_with t.actions ending.Bad n) used ∙ ap (λ acts. threads.run_with acts ending.Bad s.used) actions

    run_seen_in : (l : ℕ) (o : Outcome ℕ) → Follows (Val []) m [] (begins n) start (l, z) o → option_map run_seen (runs.run_in (ran m z)) ≡ threads.run_in (Some (machine.go_on o (λ _. finish)))
    run_seen_in l (machine.Goes v r) w =
        ap (λ q. option_map run_seen (runs.run_in q)) w.beside.ran
        ∙ ap (λ (x : Run). Some x) (over_seen ending.Ended (runs.make action.End w.state) (record r { actions = r.actions ++ action.End ∷ [] }) w.beside.used (ap (λ acts. acts ++ action.End ∷ []) w.beside.actions))
    run_seen_in l (machine.Halts (halt.Over x) r) w = ap (λ q. option_map run_seen (runs.run_in q)) w.over ∙ ap (λ (y : Run). Some y) (over_seen x w.state r w.used w.actions)
    run_seen_in l (machine.Halts (halt.Short k) r) w = ap (λ q. option_map run_seen (runs.run_in q)) w.short

    -- what was emitted runs as the thread does
    runs_so : (f : ℕ) → slice_get (setting_of p 0).functions f ≡ Some h → option_map run_seen (flat_run is (instance_of f z) arg handle script) ≡ threads.thread_run p f handle arg script
    runs_so f found =
        let puts : steps is (put_numbers z.numbers ++ z.steps) (runs.begins arg handle script) ≡ ran m z =
        steps_append is (put_numbers z.numbers) z.steps (runs.begins arg handle script) ∙ ap (λ q. go_on q (steps is z.steps)) (put is z.numbers (runs.begins arg handle script) refl high) in
        ap (λ q. option_map run_seen (runs.run_in q)) puts
        ∙ (run_seen_in (instance_body (setting_of p 0) h (begins n)).0 (threads.run_body (threads.context_within depth (setting_of p handle)) h (arg ∷ []) first_state) body
        ∙ ap (λ (o : Option Function). threads.run_in (threads.outcome_of (setting_of p handle) o arg script)) (sym found))

  -- ---- all of them

  instance_runs : (is : List Instance) (n f : ℕ) (z : Emitted) (i : Instance) → IsEmitted (setting_of p 0) f n z → i ≡ instance_of f z → Names is n z → RunsAsThread p is i
  instance_runs is n f z i emission same names arg handle script small =
      let h : Function = emission.0 in
      let matched : unmatched_in_function h ≡ None = each_at (λ f. unmatched_in_function f ≡ None) (setting_of p 0).functions f h whole emission.1 in
      subst (λ (x : Instance). option_map run_seen (flat_run is x arg handle script) ≡ threads.thread_run p x.function handle arg script) (sym (same ∙ ap (instance_of f) emission.2))
      (runs_so is h n arg handle script small matched (subst (Names is n) emission.2 names) f emission.1)

  queue_runs : (all done : List Instance) (n : ℕ) (fs : List ℕ) (is : List Instance) → all ≡ done ++ is → n ≡ length done + length fs → length all < 2 ^ 24 → AreQueued (setting_of p 0) n fs is → Each (RunsAsThread p all) is
  queue_runs all done n [] [] same count small q = tt
  queue_runs all done n [] (i ∷ is) same count small q = absurd q
  queue_runs all done n (f ∷ fs) [] same count small q = absurd q
  queue_runs all done n (f ∷ fs) (i ∷ is) same count small q =
      let z : Emitted = q.0 in
      let waiting : length (fs ++ z.created) ≤ length is = queued_length (setting_of p 0) (n + length z.created) (fs ++ z.created) is q.3 in
      let total : length all ≡ length done + length (i ∷ is) = ap length same ∙ length-append done (i ∷ is) in
      let names : Names all n z = record {
        few = omega (arith, waiting, total, small, length-append fs z.created);
        functions = λ k g e.
            ap (λ (xs : List Instance). function_at xs (n + k)) same
            ∙ (ap function_in (get_append_right done (i ∷ is) (n + k) (suc (length fs + k)) (omega (arith, count)))
            ∙ queued_function (setting_of p 0) (n + length z.created) (fs ++ z.created) is q.3 (length fs + k) g (get_append_right fs z.created (length fs + k) k refl ∙ e));
      } in (
        instance_runs all n f z i q.1 q.2 names,
        queue_runs all (done ++ i ∷ []) (n + length z.created) (fs ++ z.created) is (same ∙ sym (append_assoc done (i ∷ []) is)) (omega (arith, count, length-append done (i ∷ []), length-append fs z.created)) small q.3,
      )

  -- the instances of a program run as its threads do
  pub instances_run : (main : ℕ) (is : List Instance) → AreInstances (setting_of p 0) main is → length is < 2 ^ 24 → All (RunsAsThread p is) is
  instances_run main is q small = each_all (RunsAsThread p is) is (queue_runs is [] 1 (main ∷ []) is refl (omega arith) small q)
