-- Two branches, of which one is taken, and the guard behind them.
use Rattle.std.proofs.Common.{◌≡◌, ℕ, ◌<◌, ◌≤◌, inl, inr, List, [], ◌∷◌, ◌++◌, refl, sym, ap, ◌∙◌, subst, append-nil, arith}
use Rattle.run_model.specs.declared.state.Flow.{Flow}
use Rattle.run_model.specs.declared.state.Flow.TheVariants.{Next as Onward, Broke, Continued, Returned}
use Rattle.run_model.specs.declared.state.Halt.TheVariants as halt
use Rattle.run_model.specs.Steps.{State, Outcome}
use Rattle.run_model.specs.Steps as machine
use Rattle.flat_prog.specs.declared.FlatAct.TheVariants as act
use Rattle.flat_prog.specs.Runs.{FlatState, Goes, set_local, go_on, steps}
use Rattle.emit_steps.specs.declared.state.Variable.{Variable}
use Rattle.loop_unroll.specs.declared.targets.Targets.{Targets}
use Rattle.emit_steps.specs.Emitting.{Emitted, Emit, ◌>>=◌, fresh, mark, join_guards}
use Rattle.emit_steps.proofs.Growth.{One, New, IsGuardOf, Neat}
use Rattle.emit_steps.proofs.Adding.{Since, fresh_new, adds_join}
use Rattle.loop_unroll.proofs.AddingBodies.{Left, AddsGuard, guard_then, guard_one, since_scoped}
use Rattle.emit_steps.proofs.Running.{local_same, local_other, Among, among_within, Reaches, reaches_before, Machine, ran, Beside, Kept, ran_more, not_made, ran_over, ran_short, ending_of, beside_dead, guard_zero}
use Rattle.emit_steps.proofs.Simulating.{Held, ValueAt, Holds, holds_behind, kept_then, kept_none, ran_made, beside_written, new_writable, new_safe}
use Rattle.loop_unroll.proofs.Flows.{written, Marked, Ran, Flowed, post_dead, guard_off, all_in_scope}

module _ (m : Machine) where
  -- the new guard, where control comes from the first place
  pub first_ran : (f : Emitted) (w : FlatState) (h k : ℕ) → ran m f ≡ Goes w → w.values h ≡ 1 → w.values k ≡ 0 → (k ≡ f.next → ⊥) → ran m (join_guards h k f).1 ≡ Goes (set_local f.next 1 w)
  first_ran f w h k run live off other =
      let f1 : Emitted = (fresh f).1 in
      let f2 : Emitted = (mark h f.next f1).1 in
      let there : ran m f2 ≡ Goes (set_local f.next 1 w) = ran_made m f1 w h (act.Put f.next 1) run live in
      ran_more m f2 (join_guards h k f).1 (record { guard = k; act = act.Put f.next 1 } ∷ []) refl
      ∙ (ap (λ p. go_on p (steps m.instances (record { guard = k; act = act.Put f.next 1 } ∷ []))) there
      ∙ not_made m.instances (record { guard = k; act = act.Put f.next 1 } ∷ []) (set_local f.next 1 w) (local_other w.values f.next 1 k other ∙ off, tt))

  -- and from the second
  pub second_ran : (f : Emitted) (w : FlatState) (h k : ℕ) → ran m f ≡ Goes w → w.values h ≡ 0 → w.values k ≡ 1 → ran m (join_guards h k f).1 ≡ Goes (set_local f.next 1 w)
  second_ran f w h k run off live =
      let f1 : Emitted = (fresh f).1 in
      let f2 : Emitted = (mark h f.next f1).1 in
      let there : ran m f2 ≡ Goes w =
      ran_more m f1 f2 (record { guard = h; act = act.Put f.next 1 } ∷ []) refl
      ∙ (ap (λ p. go_on p (steps m.instances (record { guard = h; act = act.Put f.next 1 } ∷ []))) run
      ∙ not_made m.instances (record { guard = h; act = act.Put f.next 1 } ∷ []) w (off, tt)) in
      ran_made m f2 w k (act.Put f.next 1) there live

  pub record Joined (t : Targets) (f i : Emitted) (w : FlatState) (j : ℕ) (s : State) : Type 0 where
    pub state : FlatState
    pub beside : Beside m i state s
    pub kept : Kept (written t) f w state
    pub live : ValueAt (written t) i state j 1
    pub marks : (x : ℕ) → One (written t) x → state.values x ≡ w.values x

  pub joined :
      (t : Targets) (held : Held) (f : Emitted) (w : FlatState) (s : State) (h k : ℕ) → Beside m f w s → Holds (written t) f w held → Reaches (join_guards h k f).1 m.last → ran m (join_guards h k f).1 ≡ Goes (set_local f.next 1 w) → Joined t f (join_guards h k f).1 w f.next s
  joined t held f w s h k b holds reach run =
      let gs : List ℕ = h ∷ k ∷ [] in
      let i : Emitted = (join_guards h k f).1 in
      let since : Since gs f i = (adds_join gs h k (inl refl) (inr (inl refl))).add f b.neat in
      let new : New f i f.next = fresh_new f b.neat in
      record {
        state = set_local f.next 1 w;
        beside = beside_written m gs f i w s f.next 1 since b (new_writable m f i w s f.next b reach new) run;
        kept = λ l used apart other free. local_other w.values f.next 1 l (λ same. absurd (omega arith));
        live = (new_safe m gs f i w s f.next since b new, λ some. let low : f.next < f.next = holds.low f.next some in absurd (omega arith), local_same w.values f.next 1);
        marks = λ x one. local_other w.values f.next 1 x (λ same. let low : x < f.next = holds.low x one in absurd (omega arith));
      }

  both_off : (w : FlatState) (h k l : ℕ) → w.values h ≡ 0 → w.values k ≡ 0 → One (h ∷ k ∷ []) l → w.values l ≡ 0
  both_off w h k l off_h off_k (inl same) = ap w.values same ∙ off_h
  both_off w h k l off_h off_k (inr (inl same)) = ap w.values same ∙ off_k
  both_off w h k l off_h off_k (inr (inr off)) = absurd off

  -- where control comes from neither, the new guard is 0
  pub not_joined : (f : Emitted) (w : FlatState) (s : State) (h k : ℕ) → Beside m f w s → Reaches (join_guards h k f).1 m.last → w.values h ≡ 0 → w.values k ≡ 0 → Beside m (join_guards h k f).1 w s × (w.values f.next ≡ 0)
  not_joined f w s h k b reach off_h off_k =
      let gs : List ℕ = h ∷ k ∷ [] in
      let since : Since gs f (join_guards h k f).1 = (adds_join gs h k (inl refl) (inr (inl refl))).add f b.neat in
      let new : New f (join_guards h k f).1 f.next = fresh_new f b.neat in (
        beside_dead m gs f (join_guards h k f).1 w s since reach b (λ l one. both_off w h k l off_h off_k one),
        guard_zero m gs f (join_guards h k f).1 w f.next reach b.idle b.constants.none (λ l one. both_off w h k l off_h off_k one) (inr (inr new)),
      )

  -- ---- a branch that is taken, and behind it one that is not

  marks_joined : (t : Targets) (f i : Emitted) (w : FlatState) (j : ℕ) (s : State) (x : Joined t f i w j s) → Marked t w 0 0 0 → Marked t x.state 0 0 0
  marks_joined t f i w j s x is = (x.marks t.done (inl refl) ∙ is.0, x.marks t.again (inr (inl refl)) ∙ is.1, x.marks t.result (inr (inr (inl refl))) ∙ is.2)

  other_guard : (z k : ℕ) (f i : Emitted) → z < i.next → 5 ≤ i.next → IsGuardOf (z ∷ []) f i k → k ≡ i.next → ⊥
  other_guard z k f i low high (inl (inl same)) is = absurd (omega arith)
  other_guard z k f i low high (inl (inr off)) is = absurd off
  other_guard z k f i low high (inr (inl same)) is = absurd (omega arith)
  other_guard z k f i low high (inr (inr new)) is = absurd (omega (arith, new.1))

  off_at : (z k : ℕ) (w : FlatState) → w.values z ≡ 0 → One (z ∷ []) k → w.values k ≡ 0
  off_at z k w off (inl same) = ap w.values same ∙ off
  off_at z k w off (inr none_there) = absurd none_there

  -- the rest behind a branch that did not come to its end
  left_out :
      (t : Targets) (e : Emitted) (u : FlatState) (f : Emitted) (h z : ℕ) (n : Emit ℕ) (flow : Flow) (s : State) → AddsGuard (z ∷ []) n → (flow ≡ Onward → ⊥) → Neat f → Reaches (join_guards h (n f).0 (n f).1).1 m.last → Ran m t e u f h flow s →
      ((w : FlatState) → Kept (written t) e u w → w.values z ≡ 0) → Ran m t e u (join_guards h (n f).0 (n f).1).1 (n f).1.next flow s
  left_out t e u f h z n flow s adds not neat reach w off =
      let vs : List Variable = e.scope ++ w.vars in
      let f5 : Emitted = (n f).1 in
      let k : ℕ = (n f).0 in
      let i : Emitted = (join_guards h k f5).1 in
      let left : Left (z ∷ []) f f5 k = adds.add f neat in
      let off_z : w.state.values z ≡ 0 = off w.state w.kept in
      let F : Emitted = record f { scope = vs } in
      let F5 : Emitted = record f5 { scope = vs } in
      let since : Since (z ∷ []) F F5 = since_scoped (z ∷ []) f f5 vs left.since in
      let joins : Since (h ∷ k ∷ []) f5 i = (adds_join (h ∷ k ∷ []) h k (inl refl) (inr (inl refl))).add f5 left.since.neat in
      let reach5 : Reaches f5 m.last = reaches_before (h ∷ k ∷ []) f5 i m.last joins.grown reach in
      let r5 : Reaches F5 m.last = record { numbers = reach5.numbers; numbers_behind = reach5.numbers_behind; numbers_above = reach5.numbers_above; created = reach5.created; created_behind = reach5.created_behind } in
      let RI : Reaches (join_guards h k F5).1 m.last = record { numbers = reach.numbers; numbers_behind = reach.numbers_behind; numbers_above = reach.numbers_above; created = reach.created; created_behind = reach.created_behind } in
      let b5 : Beside m F5 w.state s = beside_dead m (z ∷ []) F F5 w.state s since r5 w.beside (λ l one. off_at z l w.state off_z one) in
      let off_k : w.state.values k ≡ 0 = guard_zero m (z ∷ []) f f5 w.state k reach5 w.beside.idle w.beside.constants.none (λ l one. off_at z l w.state off_z one) left.out in
      let both : Beside m (join_guards h k F5).1 w.state s × (w.state.values f5.next ≡ 0) = not_joined F5 w.state s h k b5 RI (guard_off m t f w.state h flow not w.post) off_k in
      record {
        state = w.state;
        vars = w.vars;
        more = w.more;
        scope = joins.scope ∙ (left.since.scope ∙ w.scope);
        exact = w.exact;
        beside = both.0;
        kept = w.kept;
        post = post_dead m t f i w.state h f5.next flow not both.1 w.post;
      }

  -- the rest behind a branch that came to its end
  came_out :
      (t : Targets) (held : Held) (gs : List ℕ) (e : Emitted) (u : FlatState) (f : Emitted) (h z : ℕ) (n : Emit ℕ) (s : State) → Since gs e f → AddsGuard (z ∷ []) n → Reaches (join_guards h (n f).0 (n f).1).1 m.last → Holds (written t) e u held → z < e.next → Ran m t e u f h Onward s →
      ((w : FlatState) → Kept (written t) e u w → w.values z ≡ 0) → Ran m t e u (join_guards h (n f).0 (n f).1).1 (n f).1.next Onward s
  came_out t held gs e u f h z n s first adds reach holds low w off =
      let f5 : Emitted = (n f).1 in
      let k : ℕ = (n f).0 in
      let i : Emitted = (join_guards h k f5).1 in
      let b : Beside m f w.state s = all_in_scope m t e u f h s w in
      let left : Left (z ∷ []) f f5 k = adds.add f first.neat in
      let off_z : w.state.values z ≡ 0 = off w.state w.kept in
      let joins : Since (h ∷ k ∷ []) f5 i = (adds_join (h ∷ k ∷ []) h k (inl refl) (inr (inl refl))).add f5 left.since.neat in
      let reach5 : Reaches f5 m.last = reaches_before (h ∷ k ∷ []) f5 i m.last joins.grown reach in
      let b5 : Beside m f5 w.state s = beside_dead m (z ∷ []) f f5 w.state s left.since reach5 b (λ l one. off_at z l w.state off_z one) in
      let off_k : w.state.values k ≡ 0 = guard_zero m (z ∷ []) f f5 w.state k reach5 b.idle b.constants.none (λ l one. off_at z l w.state off_z one) left.out in
      let h4 : Holds (written t) f w.state held = holds_behind gs (written t) e f u w.state held first w.kept holds in
      let h5 : Holds (written t) f5 w.state held = holds_behind (z ∷ []) (written t) f f5 w.state w.state held left.since (kept_none (written t) f w.state) h4 in
      let other : k ≡ f5.next → ⊥ = other_guard z k f f5 (omega (arith, low, first.grown.next, left.since.grown.next)) b5.base left.out in
      let j : Joined t f5 i w.state f5.next s = joined t held f5 w.state s h k b5 h5 reach (first_ran f5 w.state h k b5.ran w.post.0.2 off_k other) in
      record {
        state = j.state;
        vars = [];
        more = [];
        scope = joins.scope ∙ (left.since.scope ∙ (first.scope ∙ sym (append-nil e.scope)));
        exact = λ _. refl;
        beside = subst (λ vs. Beside m (record i { scope = vs }) j.state s) (joins.scope ∙ (left.since.scope ∙ (first.scope ∙ sym (append-nil e.scope)))) j.beside;
        kept = kept_then gs (written t) e f u w.state j.state first w.kept (kept_then (z ∷ []) (written t) f f5 w.state w.state j.state left.since (kept_none (written t) f w.state) j.kept);
        post = (j.live, marks_joined t f5 i w.state f5.next s j w.post.1);
      }

  pub rest_since : (f : Emitted) (h z : ℕ) (n : Emit ℕ) → Neat f → AddsGuard (z ∷ []) n → Since (z ∷ h ∷ []) f (join_guards h (n f).0 (n f).1).1
  rest_since f h z n neat adds =
      (guard_then (z ∷ h ∷ []) n (join_guards h) (guard_one (z ∷ h ∷ []) z n (inl refl) adds) (λ k. adds_join (k ∷ z ∷ h ∷ []) h k (inr (inr (inl refl))) (inl refl))).add f neat

  -- a branch that is taken, then one that is not, and the guard behind both
  pub taken_first :
      (t : Targets) (held : Held) (gs : List ℕ) (e : Emitted) (u : FlatState) (em : Emit ℕ) (z : ℕ) (n : Emit ℕ) (o : Outcome Flow) → Since gs e (em e).1 → AddsGuard (z ∷ []) n → Reaches ((em >>= (λ h. n >>= join_guards h)) e).1 m.last → Holds (written t) e u held → z < e.next →
      ((w : FlatState) → Kept (written t) e u w → w.values z ≡ 0) → Flowed m t e u (em e) o → Flowed m t e u ((em >>= (λ h. n >>= join_guards h)) e) o
  taken_first t held gs e u em z n (machine.Goes Onward s) first adds reach holds low off w = came_out t held gs e u (em e).1 (em e).0 z n s first adds reach holds low w off
  taken_first t held gs e u em z n (machine.Goes Broke s) first adds reach holds low off w = left_out t e u (em e).1 (em e).0 z n Broke s adds (λ is. absurd (let no : Broke ≡ Onward = is in cc)) first.neat reach w off
  taken_first t held gs e u em z n (machine.Goes Continued s) first adds reach holds low off w = left_out t e u (em e).1 (em e).0 z n Continued s adds (λ is. absurd (let no : Continued ≡ Onward = is in cc)) first.neat reach w off
  taken_first t held gs e u em z n (machine.Goes (Returned v) s) first adds reach holds low off w = left_out t e u (em e).1 (em e).0 z n (Returned v) s adds (λ is. absurd (let no : Returned v ≡ Onward = is in cc)) first.neat reach w off
  taken_first t held gs e u em z n (machine.Halts (halt.Over x) s) first adds reach holds low off w =
      let rest : Since (z ∷ (em e).0 ∷ []) (em e).1 ((em >>= (λ h. n >>= join_guards h)) e).1 = rest_since (em e).1 (em e).0 z n first.neat adds in
      record { state = w.state; over = ran_over m (z ∷ (em e).0 ∷ []) (em e).1 ((em >>= (λ h. n >>= join_guards h)) e).1 (ending_of x) w.state rest.grown w.over; used = w.used; actions = w.actions }
  taken_first t held gs e u em z n (machine.Halts (halt.Short c) s) first adds reach holds low off w =
      let rest : Since (z ∷ (em e).0 ∷ []) (em e).1 ((em >>= (λ h. n >>= join_guards h)) e).1 = rest_since (em e).1 (em e).0 z n first.neat adds in
      record { state = w.state; short = ran_short m (z ∷ (em e).0 ∷ []) (em e).1 ((em >>= (λ h. n >>= join_guards h)) e).1 w.state rest.grown w.short }

  -- ---- a branch that is not taken, and behind it one that is

  new_off : (t : Targets) (e f : Emitted) (u w : FlatState) (s : State) (held : Held) (h : ℕ) → Beside m e u s → Holds (written t) e u held → f.scope ≡ e.scope → New e f h → u.values h ≡ 0 → Kept (written t) f u w → w.values h ≡ 0
  new_off t e f u w s held h b holds same new off kept =
      kept h new.1 (λ a. let within : (5 ≤ h) × (h < e.next) = among_within 5 e.scope e.next h b.stacked (subst (λ vs. Among vs h) same a) in absurd (omega (arith, within.1, new.0))) (λ is. absurd (omega (arith, b.base, new.0)))
      (λ some. let low : h < e.next = holds.low h some in absurd (omega (arith, new.0))) ∙ off

  -- the guard behind what was not taken stays 0
  pub stays_off :
      (t : Targets) (e f : Emitted) (u w : FlatState) (s : State) (held : Held) (z h : ℕ) → Beside m e u s → Holds (written t) e u held → f.scope ≡ e.scope → IsGuardOf (z ∷ []) e f h → u.values h ≡ 0 → w.values 3 ≡ 0 → w.values z ≡ 0 → Kept (written t) f u w → w.values h ≡ 0
  stays_off t e f u w s held z h b holds same (inl (inl is)) off off_none off_z kept = ap w.values is ∙ off_z
  stays_off t e f u w s held z h b holds same (inl (inr none_there)) off off_none off_z kept = absurd none_there
  stays_off t e f u w s held z h b holds same (inr (inl is)) off off_none off_z kept = ap w.values is ∙ off_none
  stays_off t e f u w s held z h b holds same (inr (inr new)) off off_none off_z kept = new_off t e f u w s held h b holds same new off kept

  -- where the second branch came to its end
  second_came :
      (t : Targets) (held : Held) (gs : List ℕ) (e : Emitted) (u : FlatState) (f : Emitted) (h k : ℕ) (s : State) → Since gs e f → Reaches (join_guards h k f).1 m.last → Holds (written t) e u held → Ran m t e u f k Onward s →
      ((w : FlatState) → Kept (written t) e u w → w.values 3 ≡ 0 → w.values h ≡ 0) → Ran m t e u (join_guards h k f).1 f.next Onward s
  second_came t held gs e u f h k s first reach holds w off =
      let i : Emitted = (join_guards h k f).1 in
      let b : Beside m f w.state s = all_in_scope m t e u f k s w in
      let h4 : Holds (written t) f w.state held = holds_behind gs (written t) e f u w.state held first w.kept holds in
      let joins : Since (h ∷ k ∷ []) f i = (adds_join (h ∷ k ∷ []) h k (inl refl) (inr (inl refl))).add f b.neat in
      let j : Joined t f i w.state f.next s = joined t held f w.state s h k b h4 reach (second_ran f w.state h k b.ran (off w.state w.kept b.constants.none) w.post.0.2) in
      record {
        state = j.state;
        vars = [];
        more = [];
        scope = joins.scope ∙ (first.scope ∙ sym (append-nil e.scope));
        exact = λ _. refl;
        beside = subst (λ vs. Beside m (record i { scope = vs }) j.state s) (joins.scope ∙ (first.scope ∙ sym (append-nil e.scope))) j.beside;
        kept = kept_then gs (written t) e f u w.state j.state first w.kept j.kept;
        post = (j.live, marks_joined t f i w.state f.next s j w.post.1);
      }

  -- where it did not
  second_left :
      (t : Targets) (e : Emitted) (u : FlatState) (f : Emitted) (h k : ℕ) (flow : Flow) (s : State) → (flow ≡ Onward → ⊥) → Neat f → Reaches (join_guards h k f).1 m.last → Ran m t e u f k flow s →
      ((w : FlatState) → Kept (written t) e u w → w.values 3 ≡ 0 → w.values h ≡ 0) → Ran m t e u (join_guards h k f).1 f.next flow s
  second_left t e u f h k flow s not neat reach w off =
      let F : Emitted = record f { scope = e.scope ++ w.vars } in
      let i : Emitted = (join_guards h k f).1 in
      let joins : Since (h ∷ k ∷ []) f i = (adds_join (h ∷ k ∷ []) h k (inl refl) (inr (inl refl))).add f neat in
      let RI : Reaches (join_guards h k F).1 m.last = record { numbers = reach.numbers; numbers_behind = reach.numbers_behind; numbers_above = reach.numbers_above; created = reach.created; created_behind = reach.created_behind } in
      let both : Beside m (join_guards h k F).1 w.state s × (w.state.values f.next ≡ 0) = not_joined F w.state s h k w.beside RI (off w.state w.kept w.beside.constants.none) (guard_off m t f w.state k flow not w.post) in
      record {
        state = w.state;
        vars = w.vars;
        more = w.more;
        scope = joins.scope ∙ w.scope;
        exact = w.exact;
        beside = both.0;
        kept = w.kept;
        post = post_dead m t f i w.state k f.next flow not both.1 w.post;
      }

  pub second_follows :
      (t : Targets) (held : Held) (gs : List ℕ) (e : Emitted) (u : FlatState) (em : Emit ℕ) (h : ℕ) (o : Outcome Flow) → Since gs e (em e).1 → Reaches ((em >>= join_guards h) e).1 m.last → Holds (written t) e u held →
      ((w : FlatState) → Kept (written t) e u w → w.values 3 ≡ 0 → w.values h ≡ 0) → Flowed m t e u (em e) o → Flowed m t e u ((em >>= join_guards h) e) o
  second_follows t held gs e u em h (machine.Goes Onward s) first reach holds off w = second_came t held gs e u (em e).1 h (em e).0 s first reach holds w off
  second_follows t held gs e u em h (machine.Goes Broke s) first reach holds off w = second_left t e u (em e).1 h (em e).0 Broke s (λ is. absurd (let no : Broke ≡ Onward = is in cc)) first.neat reach w off
  second_follows t held gs e u em h (machine.Goes Continued s) first reach holds off w = second_left t e u (em e).1 h (em e).0 Continued s (λ is. absurd (let no : Continued ≡ Onward = is in cc)) first.neat reach w off
  second_follows t held gs e u em h (machine.Goes (Returned v) s) first reach holds off w = second_left t e u (em e).1 h (em e).0 (Returned v) s (λ is. absurd (let no : Returned v ≡ Onward = is in cc)) first.neat reach w off
  second_follows t held gs e u em h (machine.Halts (halt.Over x) s) first reach holds off w =
      let hs : List ℕ = h ∷ (em e).0 ∷ [] in
      record { state = w.state; over = ran_over m hs (em e).1 ((em >>= join_guards h) e).1 (ending_of x) w.state ((adds_join hs h (em e).0 (inl refl) (inr (inl refl))).add (em e).1 first.neat).grown w.over; used = w.used; actions = w.actions }
  second_follows t held gs e u em h (machine.Halts (halt.Short n) s) first reach holds off w =
      let hs : List ℕ = h ∷ (em e).0 ∷ [] in
      record { state = w.state; short = ran_short m hs (em e).1 ((em >>= join_guards h) e).1 w.state ((adds_join hs h (em e).0 (inl refl) (inr (inl refl))).add (em e).1 first.neat).grown w.short }
