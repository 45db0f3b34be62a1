-- The built-in steps that other threads see do what the thread does.
use Rattle.std.proofs.Common.{◌≡◌, ℕ, zero, suc, ◌<◌, ◌≤◌, inl, inr, List, [], ◌∷◌, ◌++◌, Bool, true, false, refl, ap, subst, arith}
use Rattle.std.proofs.lemmas.Bool.{ne_eqb, ltb-true, ltb-false, lt-ltb, le-ltb}
use Rattle.std.specs.Prelude.{cond, nat_eq, nat_lt, not}
use Rattle.dg_base.specs.declared.Place.{Place}
use Rattle.dg_base.specs.declared.operators.Op.TheVariants as op
use Rattle.dg_base.specs.Values.{is_true, truth_of}
use Rattle.axiom_model.specs.declared.Action.TheVariants as action
use Rattle.run_model.specs.declared.state.Ending.{Ending}
use Rattle.run_model.specs.declared.state.Ending.TheVariants as ending
use Rattle.run_model.specs.declared.state.Halt.TheVariants as halt
use Rattle.run_model.specs.declared.state.Need.TheVariants.{Go, Truth}
use Rattle.run_model.specs.Steps.{State, Outcome, Step}
use Rattle.run_model.specs.Steps as machine
use Rattle.run_model.specs.Calls as calls
use Rattle.flat_prog.specs.declared.FlatAct.TheVariants as act
use Rattle.flat_prog.specs.Runs.{FlatState, Goes, Over, go_on, steps}
use Rattle.flat_prog.specs.Runs as runs
use Rattle.emit_steps.specs.Emitting.{Emitted, Emit, ◌>>=◌, ◌>>◌, pure, nothing, none, one, emit, set, unless, fail, stop, ask, outside}
use Rattle.emit_steps.specs.Pieces.{any, any_bool, no_value, join, assert, assume, exit_thread}
use Rattle.emit_steps.proofs.Growth.{Neat}
use Rattle.emit_steps.proofs.Adding.{since_none, adds_emit, adds_fail, adds_stop, adds_new}
use Rattle.emit_steps.proofs.AddingForms.{adds_exit}
use Rattle.emit_steps.proofs.Running.{Reaches, Machine, Beside, Follows}
use Rattle.emit_steps.proofs.Simulating.{Long, Value, Held, Val, Done, Sim, sim_then, next_value, next_done, sim_pure, ran_made, In, has_value, in_holds, sim_set, sim_quiet, sim_silent, AlwaysEnds, sim_halted}
use Rattle.emit_steps.proofs.Acting.{sim_skip, sim_make, sim_any}
use Rattle.emit_steps.proofs.Finding.{sim_none, sim_unless, sim_ends, sim_fail, sim_stop, only_off, fails_always}
use Rattle.emit_steps.proofs.Slots.{stops_always}

module _ (m : Machine) where
  long_pure : {A : Type 0} (a : A) (e : Emitted) → Neat e → Long e (pure a e).1
  long_pure a e neat = ([], since_none [] e neat)

  -- a call whose value is 0
  pub sim_no_value : (xs : List ℕ) (held : Held) (em : Emit (Unit {0})) (st : Step (Unit {0})) → Sim m Done xs held em st → Sim m (Val xs) xs held (no_value em) (machine.◌>>◌ st (machine.pure 0))
  sim_no_value xs held em st h = sim_then m {B = Unit {0}} Done (Val xs) xs held em st (λ _. pure none) (λ _. machine.pure 0) h (next_done m xs held (pure none) (machine.pure 0) (Val xs) (sim_none m xs held))

  -- one that ends the run
  pub sim_ended : (xs : List ℕ) (held : Held) (em : Emit (Unit {0})) (st : Step ℕ) → AlwaysEnds m st → Sim m {B = ℕ} Done xs held em st → Sim m (Val xs) xs held (no_value em) st
  sim_ended xs held em st ends h = sim_halted m (Val xs) xs held em (λ _. pure none) st ends h (λ _ e neat. long_pure none e neat)

  pub sim_stopped : (xs : List ℕ) (held : Held) (g : ℕ) → In m held g 1 → Sim m (Val xs) xs held (no_value (stop g)) machine.stop
  sim_stopped xs held g live = sim_ended xs held (stop g) machine.stop (stops_always m) (sim_stop m Done xs held g (inl live))

  pub sim_failed : (xs : List ℕ) (held : Held) (g : ℕ) (p : Place) → In m held g 1 → Sim m (Val xs) xs held (no_value (fail g p)) (machine.fail p)
  sim_failed xs held g p live = sim_ended xs held (fail g p) (machine.fail p) (fails_always m p) (sim_fail m Done xs held g p (inl live))

  -- ---- assertions

  asserted : (xs : List ℕ) (held : Held) (p : Place) (z : ℕ) (b : Bool) → In m held z (truth_of b) → Sim m (Val xs) xs held (fail z p >> pure none) (cond (not b) (machine.pure 0) (machine.fail p))
  asserted xs held p z true there = sim_failed xs held z p there
  asserted xs held p z false there =
      sim_silent m (Val xs) xs held (fail z p) (λ _. pure none) (machine.pure 0) (sim_skip m xs held (z ∷ []) (fail z p) (adds_fail (z ∷ []) z p (inl refl)) (λ l one. only_off m held l z there one)) (λ _. sim_none m xs held)

  pub sim_assert : (xs : List ℕ) (held : Held) (p : Place) (g v n : ℕ) → In m held g 1 → In m held v n → Sim m (Val xs) xs held (assert p g v) (cond (is_true n) (machine.pure 0) (machine.fail p))
  sim_assert xs held p g v n live has =
      sim_quiet m (Val xs) xs held (unless g v) (truth_of (nat_eq n 0)) (λ z. fail z p >> pure none) _ (sim_unless m xs held g v n (inl live) (inl has)) (λ z.
      asserted xs (Value z (truth_of (nat_eq n 0)) ∷ held) p z (nat_eq n 0) (inl (refl, refl)))

  assumed : (xs : List ℕ) (held : Held) (z : ℕ) (b : Bool) → In m held z (truth_of b) → Sim m (Val xs) xs held (stop z >> pure none) (cond (not b) (machine.pure 0) machine.stop)
  assumed xs held z true there = sim_stopped xs held z there
  assumed xs held z false there =
      sim_silent m (Val xs) xs held (stop z) (λ _. pure none) (machine.pure 0) (sim_skip m xs held (z ∷ []) (stop z) (adds_stop (z ∷ []) z (inl refl)) (λ l one. only_off m held l z there one)) (λ _. sim_none m xs held)

  pub sim_assume : (xs : List ℕ) (held : Held) (g v n : ℕ) → In m held g 1 → In m held v n → Sim m (Val xs) xs held (assume g v) (cond (is_true n) (machine.pure 0) machine.stop)
  sim_assume xs held g v n live has =
      sim_quiet m (Val xs) xs held (unless g v) (truth_of (nat_eq n 0)) (λ z. stop z >> pure none) _ (sim_unless m xs held g v n (inl live) (inl has)) (λ z.
      assumed xs (Value z (truth_of (nat_eq n 0)) ∷ held) z (nat_eq n 0) (inl (refl, refl)))

  -- ---- go numbers and bools

  bad_or : {C D : Type 0} (Q : Emitted → FlatState → C → D → Type 0) (xs : List ℕ) (held : Held) (z : ℕ) (f : Emit C) (st : Step D) → In m held z 0 → Sim m Q xs held f st → Sim m Q xs held (emit z act.Bad >> f) st
  bad_or Q xs held z f st there h = sim_silent m Q xs held (emit z act.Bad) (λ _. f) st (sim_skip m xs held (z ∷ []) (emit z act.Bad) (adds_emit (z ∷ []) z act.Bad (inl refl)) (λ l one. only_off m held l z there one)) (λ _. h)

  obeyed : (xs : List ℕ) (held : Held) (g t n : ℕ) → In m held g 1 → In m held t n → Sim m Done xs held (unless g t >>= (λ z. emit z act.Stop >> (set g op.NotEqual (t ∷ one ∷ []) >>= (λ b. emit b act.Bad)))) (machine.obey n)
  obeyed xs held g t zero live has =
      sim_quiet m Done xs held (unless g t) 1 _ (machine.ends ending.Stopped) (sim_unless m xs held g t 0 (inl live) (inl has)) (λ z.
      sim_halted m Done xs (Value z 1 ∷ held) (emit z act.Stop) (λ _. set g op.NotEqual (t ∷ one ∷ []) >>= (λ b. emit b act.Bad)) (machine.ends ending.Stopped) (λ s. (ending.Stopped, s, refl))
      (sim_ends m Done xs (Value z 1 ∷ held) z act.Stop ending.Stopped (inl (inl (refl, refl))) (λ u. refl))
      (λ _ e neat. (g ∷ [], (adds_new (g ∷ []) g op.NotEqual (t ∷ one ∷ []) (λ b. emit b act.Bad) (inl refl) (λ b. adds_emit (b ∷ g ∷ []) b act.Bad (inl refl))).add e neat)))
  obeyed xs held g t (suc zero) live has =
      sim_quiet m Done xs held (unless g t) 0 _ machine.nothing (sim_unless m xs held g t 1 (inl live) (inl has)) (λ z.
      let with_stop : Held = Value z 0 ∷ held in
      sim_silent m Done xs with_stop (emit z act.Stop) _ machine.nothing (sim_skip m xs with_stop (z ∷ []) (emit z act.Stop) (adds_emit (z ∷ []) z act.Stop (inl refl)) (λ l one. only_off m with_stop l z (inl (refl, refl)) one)) (λ _.
      sim_quiet m Done xs with_stop (set g op.NotEqual (t ∷ one ∷ [])) 0 _ machine.nothing (sim_set m xs with_stop g op.NotEqual (t ∷ one ∷ []) (1 ∷ 1 ∷ []) (inl (inr live)) (inl (inr has), (inr (inl (refl, refl)), tt))) (λ b.
      let all : Held = Value b 0 ∷ with_stop in
      sim_skip m xs all (b ∷ []) (emit b act.Bad) (adds_emit (b ∷ []) b act.Bad (inl refl)) (λ l one. only_off m all l b (inl (refl, refl)) one))))
  obeyed xs held g t (suc (suc n)) live has =
      let not_stop : truth_of (nat_eq (suc (suc n)) 0) ≡ 0 = ap truth_of (ne_eqb (suc (suc n)) 0 (λ same. absurd (omega arith))) in
      let is_bad : truth_of (not (nat_eq (suc (suc n)) 1)) ≡ 1 = ap (λ b. truth_of (not b)) (ne_eqb (suc (suc n)) 1 (λ same. absurd (omega arith))) in
      sim_quiet m Done xs held (unless g t) 0 _ (machine.ends ending.Bad) (subst (λ k. Sim m (Val xs) xs held (unless g t) (machine.pure k)) not_stop (sim_unless m xs held g t (suc (suc n)) (inl live) (inl has))) (λ z.
      let with_stop : Held = Value z 0 ∷ held in
      sim_silent m Done xs with_stop (emit z act.Stop) _ (machine.ends ending.Bad) (sim_skip m xs with_stop (z ∷ []) (emit z act.Stop) (adds_emit (z ∷ []) z act.Stop (inl refl)) (λ l one. only_off m with_stop l z (inl (refl, refl)) one)) (λ _.
      sim_quiet m Done xs with_stop (set g op.NotEqual (t ∷ one ∷ [])) 1 _ (machine.ends ending.Bad)
      (subst (λ k. Sim m (Val xs) xs with_stop (set g op.NotEqual (t ∷ one ∷ [])) (machine.pure k)) is_bad (sim_set m xs with_stop g op.NotEqual (t ∷ one ∷ []) (suc (suc n) ∷ 1 ∷ []) (inl (inr live)) (inl (inr has), (inr (inl (refl, refl)), tt)))) (λ b.
      sim_ends m Done xs (Value b 1 ∷ with_stop) b act.Bad ending.Bad (inl (inl (refl, refl))) (λ u. refl))))

  pub sim_ask : (xs : List ℕ) (held : Held) (g : ℕ) → In m held g 1 → Sim m Done xs held (ask g) machine.ask
  sim_ask xs held g live =
      sim_then m (Val xs) Done xs held (any g) (machine.take_number Go) (λ t. unless g t >>= (λ z. emit z act.Stop >> (set g op.NotEqual (t ∷ one ∷ []) >>= (λ b. emit b act.Bad)))) machine.obey (sim_any m xs held g Go (inl live))
      (next_value m xs held _ machine.obey Done (λ t n. obeyed xs (Value t n ∷ held) g t n (inr live) (inl (refl, refl))))

  bool_taken : (xs : List ℕ) (held : Held) (g v n : ℕ) (b : Bool) → nat_lt n 2 ≡ b → In m held g 1 → In m held v n → Sim m (Val xs) xs held (set g op.LessUint (one ∷ v ∷ []) >>= (λ z. emit z act.Bad >> pure v)) (cond b (machine.pure n) (machine.ends ending.Bad))
  bool_taken xs held g v n true is live has =
      let low : n < 2 = ltb-true n 2 is in
      sim_quiet m (Val xs) xs held (set g op.LessUint (one ∷ v ∷ [])) 0 _ (machine.pure n)
      (subst (λ k. Sim m (Val xs) xs held (set g op.LessUint (one ∷ v ∷ [])) (machine.pure (truth_of k))) (le-ltb 1 n (omega arith)) (sim_set m xs held g op.LessUint (one ∷ v ∷ []) (1 ∷ n ∷ []) (inl live) (inr (inl (refl, refl)), (inl has, tt)))) (λ z.
      bad_or (Val xs) xs (Value z 0 ∷ held) z (pure v) (machine.pure n) (inl (refl, refl)) (sim_pure m (Val xs) xs (Value z 0 ∷ held) v n (λ e t s b holds. in_holds m xs e t held v n holds.all.1 has)))
  bool_taken xs held g v n false is live has =
      let high : 2 ≤ n = ltb-false n 2 is in
      sim_quiet m (Val xs) xs held (set g op.LessUint (one ∷ v ∷ [])) 1 _ (machine.ends ending.Bad)
      (subst (λ k. Sim m (Val xs) xs held (set g op.LessUint (one ∷ v ∷ [])) (machine.pure (truth_of k))) (lt-ltb 1 n (omega arith)) (sim_set m xs held g op.LessUint (one ∷ v ∷ []) (1 ∷ n ∷ []) (inl live) (inr (inl (refl, refl)), (inl has, tt)))) (λ z.
      sim_halted m (Val xs) xs (Value z 1 ∷ held) (emit z act.Bad) (λ _. pure v) (machine.ends ending.Bad) (λ s. (ending.Bad, s, refl)) (sim_ends m Done xs (Value z 1 ∷ held) z act.Bad ending.Bad (inl (inl (refl, refl))) (λ u. refl)) (λ _ e neat. long_pure v e neat))

  pub sim_any_bool : (xs : List ℕ) (held : Held) (g : ℕ) → In m held g 1 → Sim m (Val xs) xs held (any_bool g) calls.any_bool
  sim_any_bool xs held g live =
      sim_then m (Val xs) (Val xs) xs held (any g) (machine.take_number Truth) (λ v. set g op.LessUint (one ∷ v ∷ []) >>= (λ z. emit z act.Bad >> pure v)) (λ n. cond (nat_lt n 2) (machine.pure n) (machine.ends ending.Bad)) (sim_any m xs held g Truth (inl live))
      (next_value m xs held _ _ (Val xs) (λ v n. bool_taken xs (Value v n ∷ held) g v n (nat_lt n 2) refl (inr live) (inl (refl, refl))))

  -- ---- outside of sections

  out_follows :
      (xs : List ℕ) (em : Emit (Unit {0})) (st : Step (Unit {0})) (e : Emitted) (t : FlatState) (s : State) (b c : Bool) → b ≡ c → Beside m e t s → Reaches (cond b em nothing e).1 m.last →
      (Reaches (em e).1 m.last → Follows {B = Unit {0}} Done m xs e t (em e) (st s)) → Follows {B = Unit {0}} Done m xs e t (cond b em nothing e) (cond c st machine.nothing s)
  out_follows xs em st e t s true true is b reach h = h reach
  out_follows xs em st e t s false false is b reach h = record { state = t; beside = b; kept = λ l used apart other free. refl; answer = tt }
  out_follows xs em st e t s true false is b reach h = absurd (let no : true ≡ false = is in cc)
  out_follows xs em st e t s false true is b reach h = absurd (let no : false ≡ true = is in cc)

  long_out : (em : Emit (Unit {0})) (e : Emitted) (b : Bool) → Neat e → Long e (em e).1 → Long e (cond b em nothing e).1
  long_out em e true neat h = h
  long_out em e false neat h = ([], since_none [] e neat)

  pub sim_outside : (xs : List ℕ) (held : Held) (em : Emit (Unit {0})) (st : Step (Unit {0})) → Sim m Done xs held em st → Sim m Done xs held (outside em) (machine.outside st)
  sim_outside xs held em st h = record {
    long = λ e neat. long_out em e (nat_eq e.depth 0) neat (h.long e neat);
    live = λ e t s b reach holds. out_follows xs em st e t s (nat_eq e.depth 0) (nat_eq s.depth 0) (ap (λ d. nat_eq d 0) b.depth) b reach (λ r. h.live e t s b r holds);
  }

  pub sim_join : (xs : List ℕ) (held : Held) (g v h : ℕ) → In m held g 1 → In m held v h → Sim m (Val xs) xs held (join g v) (calls.join h)
  sim_join xs held g v h live has =
      sim_then m {B = Unit {0}} Done (Val xs) xs held (outside (ask g)) (machine.outside machine.ask) (λ _. emit g (act.Join v) >> pure none) (λ _. machine.◌>>◌ (machine.make (action.Join h)) (machine.pure 0)) (sim_outside xs held (ask g) machine.ask (sim_ask xs held g live))
      (next_done m xs held _ _ (Val xs) (sim_no_value xs held (emit g (act.Join v)) (machine.make (action.Join h))
      (sim_make m xs held g (act.Join v) (action.Join h) (inl live) (λ e t s b holds. ap (λ k. Goes (runs.make (action.Join k) t)) (has_value m xs e t s held v h b holds (inl has))))))

  -- ---- the end of the thread

  left : (xs : List ℕ) (e : Emitted) (t : FlatState) (s : State) (g : ℕ) (b c : Bool) → b ≡ c → Beside m e t s → t.values g ≡ 1 → Follows {B = ℕ} Done m xs e t (emit g (cond b act.End act.Bad) e) (cond c calls.finish (machine.ends ending.Bad) s)
  left xs e t s g true true is b live = record { state = runs.make action.End t; over = ran_made m e t g act.End b.ran live; used = b.used; actions = ap (λ acts. acts ++ action.End ∷ []) b.actions }
  left xs e t s g false false is b live = record { state = t; over = ran_made m e t g act.Bad b.ran live; used = b.used; actions = b.actions }
  left xs e t s g true false is b live = absurd (let no : true ≡ false = is in cc)
  left xs e t s g false true is b live = absurd (let no : false ≡ true = is in cc)

  exit_case : (s : State) (b : Bool) → (x : Ending) × (r : State) × (◌≡◌ {A = Outcome ℕ} (cond b calls.finish (machine.ends ending.Bad) s) (machine.Halts (halt.Over x) r))
  exit_case s true = (ending.Ended, record s { actions = s.actions ++ action.End ∷ [] }, refl)
  exit_case s false = (ending.Bad, s, refl)

  exits_always : AlwaysEnds m {D = ℕ} calls.exit_thread
  exits_always s = exit_case s (nat_eq s.depth 0)

  pub sim_exit : (xs : List ℕ) (held : Held) (g : ℕ) → In m held g 1 → Sim m (Val xs) xs held (no_value (exit_thread g)) calls.exit_thread
  sim_exit xs held g live =
      sim_ended xs held (exit_thread g) calls.exit_thread exits_always (record {
        long = λ e neat. (g ∷ [], (adds_exit (g ∷ []) g (inl refl)).add e neat);
        live = λ e t s b reach holds. left xs e t s g (nat_eq e.depth 0) (nat_eq s.depth 0) (ap (λ d. nat_eq d 0) b.depth) b (has_value m xs e t s held g 1 b holds (inl live));
      })
