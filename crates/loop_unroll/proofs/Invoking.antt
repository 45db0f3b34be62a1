-- Calls of functions do what the thread does, as deep as calls may stand in one another; some are sections as a whole.
use Rattle.std.proofs.Common.{◌≡◌, ℕ, zero, suc, ◌-◌, inl, List, [], ◌∷◌, Bool, true, false, Option, Some, None, refl, sym, ◌∙◌, subst, arith}
use Rattle.std.specs.Prelude.{cond, slice_get}
use Rattle.c_tree.specs.declared.program.Function.{Function}
use Rattle.c_check.specs.declared.sections.Inside.TheVariants.{Outside}
use Rattle.c_check.specs.Sections.{unmatched_in_function}
use Rattle.run_model.specs.declared.state.Halt.TheVariants as halt
use Rattle.run_model.specs.declared.state.Shared.{Shared}
use Rattle.run_model.specs.Steps.{State, Outcome, Step}
use Rattle.run_model.specs.Steps as machine
use Rattle.run_model.specs.Calls.{Setting}
use Rattle.run_model.specs.Threads as threads
use Rattle.flat_prog.specs.Runs.{FlatState}
use Rattle.emit_steps.specs.Emitting.{Emitted, Emit, open_section, begin_section, end_section}
use Rattle.emit_steps.specs.Calling.{in_section, call_body, with_function}
use Rattle.loop_unroll.specs.Stating.{run_body, call_within, context_within}
use Rattle.emit_steps.proofs.Growth.{Each, Neat}
use Rattle.emit_steps.proofs.Adding.{Since, Adds}
use Rattle.emit_steps.proofs.AddingForms.{Opened, opens_section, closes_section, since_more}
use Rattle.loop_unroll.proofs.AddingFunctions.{NoMarks, lowered, adds_body, adds_in_section, adds_calls, each_at}
use Rattle.emit_steps.proofs.Running.{Machine, Reaches, reaches_before, Beside, Kept, Follows}
use Rattle.emit_steps.proofs.Simulating.{Held, ValueAt, Holds, Val, Done, value_behind, holds_behind, kept_then, Sim, In}
use Rattle.emit_steps.proofs.Routines.{sim_stopped}
use Rattle.emit_steps.proofs.Meanings.{InAll, setting, SimCalls, meaning_sim}
use Rattle.loop_unroll.proofs.Enclosing.{reaches_deep, value_deep, begin_follows, end_follows, holds_deeper}
use Rattle.loop_unroll.proofs.Blocks.{over_after, short_after}
use Rattle.loop_unroll.proofs.Executing.{sim_execute_all}
use Rattle.loop_unroll.proofs.Bodies.{sim_run_body}

module _ (m : Machine) where
  -- ---- a section around what keeps the depth

  -- what is emitted of it
  record Around (g : ℕ) (em : Emit ℕ) (e : Emitted) : Type 0 where
    opening : Opened (g ∷ []) g e (open_section g e).1
    inner : Since (g ∷ []) (begin_section g e).1 (em (begin_section g e).1).1
    deep : (em (begin_section g e).1).1.depth ≡ 0 → ⊥
    inside : Since (g ∷ []) (open_section g e).1 (record (em (begin_section g e).1).1 { depth = (em (begin_section g e).1).1.depth - 1 })
    closing : Since (g ∷ []) (record (em (begin_section g e).1).1 { depth = (em (begin_section g e).1).1.depth - 1 }) (end_section (em (begin_section g e).1).1).1

  around : (g : ℕ) (em : Emit ℕ) (e : Emitted) → Adds (g ∷ []) em → Neat e → Around g em e
  around g em e adds neat =
      let gs : List ℕ = g ∷ [] in
      let f0 : Emitted = (open_section g e).1 in
      let f1 : Emitted = (begin_section g e).1 in
      let f2 : Emitted = (em f1).1 in
      let low : Emitted = record f2 { depth = f2.depth - 1 } in
      let o : Opened gs g e f0 = opens_section gs g e (inl refl) neat in
      let s2 : Since gs f1 f2 = adds.add f1 o.since.neat in
      let same : f2.depth - 1 ≡ f0.depth = omega (arith, s2.grown.depth) in
      record {
        opening = o;
        inner = s2;
        deep = λ z. absurd (omega (arith, s2.grown.depth, z));
        inside = subst (λ n. Since gs f0 (record f2 { depth = n })) (sym same) (lowered gs f1 f2 f0.depth refl s2);
        closing = closes_section gs low s2.neat (λ z. inl (s2.grown.opened (λ n. absurd (omega (arith, n))) ∙ o.kept (sym o.since.grown.depth ∙ (sym same ∙ z))));
      }

  -- behind the close
  closed :
      (xs : List ℕ) (g : ℕ) (em : Emit ℕ) (e : Emitted) (t u : FlatState) (a v : ℕ) (o : Outcome (Unit {0})) → Around g em e → Kept xs e t u → ValueAt xs (em (begin_section g e).1).1 u a v →
      Follows {B = Unit {0}} Done m xs (record (em (begin_section g e).1).1 { depth = (em (begin_section g e).1).1.depth - 1 }) u (end_section (em (begin_section g e).1).1) o →
      Follows (Val xs) m xs e t (a, (end_section (em (begin_section g e).1).1).1) (machine.go_on o (λ _. machine.pure v))
  closed xs g em e t u a v (machine.Goes b r) x kept at w =
      let gs : List ℕ = g ∷ [] in
      let f2 : Emitted = (em (begin_section g e).1).1 in
      let low : Emitted = record f2 { depth = f2.depth - 1 } in
      record {
        state = w.state;
        beside = w.beside;
        kept = kept_then gs xs e low t u w.state (since_more gs e (open_section g e).1 low x.opening.since x.inside) kept w.kept;
        answer = value_behind gs xs low (end_section f2).1 u w.state a v x.closing w.kept (value_deep xs f2 (f2.depth - 1) u a v at);
      }
  closed xs g em e t u a v (machine.Halts (halt.Over k) r) x kept at w = record { state = w.state; over = w.over; used = w.used; actions = w.actions }
  closed xs g em e t u a v (machine.Halts (halt.Short n) r) x kept at w = record { state = w.state; short = w.short }

  -- behind what stands inside
  ended :
      (xs : List ℕ) (held : Held) (g : ℕ) (em : Emit ℕ) (e : Emitted) (t u : FlatState) (o : Outcome ℕ) → Around g em e → Kept xs e t u → Holds xs (begin_section g e).1 u held →
      Follows (Val xs) m xs (begin_section g e).1 u (em (begin_section g e).1) o →
      Follows (Val xs) m xs e t (in_section g em e) (machine.go_on o (λ v. machine.◌>>◌ machine.end_section (machine.pure v)))
  ended xs held g em e t u (machine.Goes v r) x kept holds w =
      let gs : List ℕ = g ∷ [] in
      let f0 : Emitted = (open_section g e).1 in
      let f1 : Emitted = (begin_section g e).1 in
      let f2 : Emitted = (em f1).1 in
      closed xs g em e t w.state (em f1).0 v (machine.end_section r) x (kept_then gs xs e f0 t u w.state x.opening.since kept w.kept) w.answer
      (end_follows m xs held f2 w.state r w.beside (holds_behind gs xs f1 f2 u w.state held x.inner w.kept holds) x.deep)
  ended xs held g em e t u (machine.Halts (halt.Over k) r) x kept holds w =
      let f2 : Emitted = (em (begin_section g e).1).1 in
      over_after m (g ∷ []) (record f2 { depth = f2.depth - 1 }) (end_section f2).1 k r x.closing.grown (record { state = w.state; over = w.over; used = w.used; actions = w.actions })
  ended xs held g em e t u (machine.Halts (halt.Short n) r) x kept holds w =
      let f2 : Emitted = (em (begin_section g e).1).1 in
      short_after m (g ∷ []) (record f2 { depth = f2.depth - 1 }) (end_section f2).1 x.closing.grown (record { state = w.state; short = w.short })

  -- behind the begin
  begun :
      (xs : List ℕ) (held : Held) (g : ℕ) (em : Emit ℕ) (st : Step ℕ) (e : Emitted) (t : FlatState) (o : Outcome (Unit {0})) → Around g em e → Sim m (Val xs) xs held em st → In m held g 1 → Reaches (em (begin_section g e).1).1 m.last → Holds xs e t held →
      Follows {B = Unit {0}} Done m xs e t (begin_section g e) o → Follows (Val xs) m xs e t (in_section g em e) (machine.go_on o (λ _. machine.◌>>=◌ st (λ v. machine.◌>>◌ machine.end_section (machine.pure v))))
  begun xs held g em st e t (machine.Goes a r) x sim live reach holds w =
      let gs : List ℕ = g ∷ [] in
      let f0 : Emitted = (open_section g e).1 in
      let f1 : Emitted = (begin_section g e).1 in
      let here : Holds xs f1 w.state held = holds_deeper m xs held g f0 w.state live (λ z. x.opening.kept (sym x.opening.since.grown.depth ∙ z)) (holds_behind gs xs e f0 t w.state held x.opening.since w.kept holds) in
      ended xs held g em e t w.state (st r) x w.kept here (sim.live f1 w.state r w.beside reach here)
  begun xs held g em st e t (machine.Halts (halt.Over k) r) x sim live reach holds w =
      let f2 : Emitted = (em (begin_section g e).1).1 in
      let low : Emitted = record f2 { depth = f2.depth - 1 } in
      let whole : Since (g ∷ []) (open_section g e).1 (end_section f2).1 = since_more (g ∷ []) (open_section g e).1 low (end_section f2).1 x.inside x.closing in
      over_after m (g ∷ []) (open_section g e).1 (end_section f2).1 k r whole.grown (record { state = w.state; over = w.over; used = w.used; actions = w.actions })
  begun xs held g em st e t (machine.Halts (halt.Short n) r) x sim live reach holds w =
      let f2 : Emitted = (em (begin_section g e).1).1 in
      let low : Emitted = record f2 { depth = f2.depth - 1 } in
      let whole : Since (g ∷ []) (open_section g e).1 (end_section f2).1 = since_more (g ∷ []) (open_section g e).1 low (end_section f2).1 x.inside x.closing in
      short_after m (g ∷ []) (open_section g e).1 (end_section f2).1 whole.grown (record { state = w.state; short = w.short })

  section_follows :
      (xs : List ℕ) (held : Held) (g : ℕ) (em : Emit ℕ) (st : Step ℕ) (e : Emitted) (t : FlatState) (s : State) → Around g em e → Sim m (Val xs) xs held em st → In m held g 1 → Beside m e t s → Reaches (in_section g em e).1 m.last → Holds xs e t held →
      Follows (Val xs) m xs e t (in_section g em e) (threads.in_section st s)
  section_follows xs held g em st e t s x sim live b reach holds =
      let f1 : Emitted = (begin_section g e).1 in
      let f2 : Emitted = (em f1).1 in
      let low : Emitted = record f2 { depth = f2.depth - 1 } in
      let reach2 : Reaches f2 m.last = reaches_deep f2 m.last (f2.depth - 1) (reaches_before (g ∷ []) low (end_section f2).1 m.last x.closing.grown reach) in
      begun xs held g em st e t (machine.begin_section s) x sim live reach2 holds (begin_follows m xs held g e t s live b (reaches_before (g ∷ []) f1 f2 m.last x.inner.grown reach2) holds)

  pub sim_section : (xs : List ℕ) (held : Held) (g : ℕ) (em : Emit ℕ) (st : Step ℕ) → In m held g 1 → Adds (g ∷ []) em → Sim m (Val xs) xs held em st → Sim m (Val xs) xs held (in_section g em) (threads.in_section st)
  sim_section xs held g em st live adds sim = record {
    long = λ e neat. (g ∷ [], (adds_in_section g em adds).add e neat);
    live = λ e t s b reach holds. section_follows xs held g em st e t s (around g em e adds b.neat) sim live b reach holds;
  }

  -- ---- calls

  module _ (shared : List Shared) (functions : List Function) (loops : ℕ) (full : Bool) where
    abbrev at : ℕ → Setting
    at h = setting m shared functions loops full h

    -- calls that stand at most so deep in one another do what the thread does
    abbrev pub Calls : ℕ → Type 0
    Calls n = SimCalls m shared functions loops full (call_within n (at 0)) (threads.call_within n (at m.handle))

    module _
        (emits : NoMarks (at 0)) (runs : NoMarks (at m.handle)) (whole : Each (λ f. unmatched_in_function f ≡ None) functions) where
      pub sim_body : (n : ℕ) → Calls n → (f : Function) → unmatched_in_function f ≡ None → (bs vs : List ℕ) (xs : List ℕ) (held : Held) (g : ℕ) → In m held g 1 → InAll m held bs vs →
          Sim m (Val xs) xs held (run_body (context_within n (at 0)) f bs g) (threads.run_body (threads.context_within n (at m.handle)) f vs)
      sim_body n sims f matched bs vs xs held g live there =
          sim_run_body m (context_within n (at 0)) (threads.context_within n (at m.handle)) sims.adds emits
          (λ ss h. sim_execute_all m (context_within n (at 0)) (threads.context_within n (at m.handle)) sims.adds emits runs refl refl (meaning_sim m shared functions loops full (call_within n (at 0)) (threads.call_within n (at m.handle)) sims) ss Outside h) f matched bs vs xs held g live there

      choice : (xs : List ℕ) (held : Held) (b : Bool) (m1 m2 : Emit ℕ) (s1 s2 : Step ℕ) → Sim m (Val xs) xs held m1 s1 → Sim m (Val xs) xs held m2 s2 → Sim m (Val xs) xs held (cond b m1 m2) (cond b s1 s2)
      choice xs held true m1 m2 s1 s2 h k = h
      choice xs held false m1 m2 s1 s2 h k = k

      found_sim : (n : ℕ) → Calls n → (i : ℕ) (o : Option Function) → slice_get functions i ≡ o → (bs vs : List ℕ) (xs : List ℕ) (held : Held) (g : ℕ) → In m held g 1 → InAll m held bs vs →
          Sim m (Val xs) xs held (with_function o g (λ h. call_body h g (run_body (context_within n (at 0)) h bs g))) (threads.with_function o (λ h. threads.call_body (threads.context_within n (at m.handle)) h vs))
      found_sim n sims i None is bs vs xs held g live there = sim_stopped m xs held g live
      found_sim n sims i (Some f) is bs vs xs held g live there =
          let matched : unmatched_in_function f ≡ None = each_at (λ f. unmatched_in_function f ≡ None) functions i f whole is in
          let body : Sim m (Val xs) xs held (run_body (context_within n (at 0)) f bs g) (threads.run_body (threads.context_within n (at m.handle)) f vs) = sim_body n sims f matched bs vs xs held g live there in
          choice xs held (threads.is_atomic f) (in_section g (run_body (context_within n (at 0)) f bs g)) (run_body (context_within n (at 0)) f bs g) (threads.in_section (threads.run_body (threads.context_within n (at m.handle)) f vs)) (threads.run_body (threads.context_within n (at m.handle)) f vs)
          (sim_section xs held g (run_body (context_within n (at 0)) f bs g) (threads.run_body (threads.context_within n (at m.handle)) f vs) live (adds_body (context_within n (at 0)) sims.adds emits f bs g matched) body) body

      -- at each depth
      pub sim_calls : (n : ℕ) → Calls n
      sim_calls zero = record { adds = adds_calls (at 0) emits whole zero; run = λ f bs vs xs held g live there. sim_stopped m xs held g live }
      sim_calls (suc n) = record {
        adds = adds_calls (at 0) emits whole (suc n);
        run = λ f bs vs xs held g live there. found_sim n (sim_calls n) f (slice_get functions f) refl bs vs xs held g live there;
      }
