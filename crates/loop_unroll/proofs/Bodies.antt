-- Bodies of functions with their parameters do what the thread does.
use Rattle.std.proofs.Common.{◌≡◌, ℕ, zero, suc, ◌+◌, ◌<◌, ◌≤◌, inl, inr, List, [], ◌∷◌, ◌++◌, false, None, map, refl, sym, ap, ◌∙◌, subst, arith}
use Rattle.std.specs.Prelude.{slice_get, unwrap_or}
use Rattle.dg_base.specs.declared.operators.Op.TheVariants as op
use Rattle.c_tree.specs.declared.stmt.Stmt.{Stmt}
use Rattle.c_tree.specs.declared.program.Param.{Param}
use Rattle.c_tree.specs.declared.program.Function.{Function}
use Rattle.c_tree.specs.Operators.{word_unsigned}
use Rattle.c_check.specs.declared.sections.Inside.TheVariants.{Outside}
use Rattle.c_check.specs.Sections.{in_block, sectioned, unmatched_in_function}
use Rattle.run_model.specs.declared.state.Flow.{Flow}
use Rattle.run_model.specs.declared.state.Flow.TheVariants.{Next as Onward, Broke, Continued, Returned}
use Rattle.run_model.specs.declared.state.Halt.TheVariants as halt
use Rattle.run_model.specs.Steps.{State, Outcome, Step}
use Rattle.run_model.specs.Steps as machine
use Rattle.run_model.specs.Calls as calls
use Rattle.run_model.specs.Statements as model
use Rattle.run_model.specs.Threads as threads
use Rattle.flat_prog.specs.Runs.{FlatState}
use Rattle.emit_steps.specs.declared.state.Variable.{Variable}
use Rattle.loop_unroll.specs.declared.targets.Targets.{Targets}
use Rattle.emit_steps.specs.Emitting.{Emitted, none, fresh, copy}
use Rattle.emit_steps.specs.Pieces as pieces
use Rattle.emit_steps.specs.Calling.{parameter, parameters}
use Rattle.loop_unroll.specs.Stating.{targets, execute_all, run_body}
use Rattle.emit_steps.proofs.Growth.{One, plain_below, Neat}
use Rattle.emit_steps.proofs.Adding.{Since, adds_fresh}
use Rattle.emit_steps.proofs.AddingForms.{since_more}
use Rattle.emit_steps.proofs.AddingExprs.{AddsCalls}
use Rattle.loop_unroll.proofs.AddingBodies.{Behind}
use Rattle.loop_unroll.proofs.AddingStatements.{adds_parameter, adds_parameters}
use Rattle.loop_unroll.proofs.AddingFunctions.{NoMarks, adds_body}
use Rattle.emit_steps.proofs.Running.{Among, among_within, stacked_more, matches_kept, Reaches, reaches_before, plain_in_end, Machine, Safe, Beside, Kept, WentOn, Follows, safe_behind, beside_dead}
use Rattle.emit_steps.proofs.Simulating.{Value, Held, ValueAt, Holds, Val, kept_none, Sim, In, in_holds, set_at}
use Rattle.emit_steps.proofs.Meanings.{InAll, ValsAt, with_values, vals_held, all_with, in_with, in_past}
use Rattle.loop_unroll.proofs.Flows.{Distinct, written, Marked, Post, Flowed, SimBody, holds_grown, kept_grown}
use Rattle.loop_unroll.proofs.Blocks.{behind_grown}
use Rattle.loop_unroll.proofs.Entering.{beside_entered}

module _ (m : Machine) where
  -- ---- parameters

  -- the emission and the thread stand beside one another, and what was used is kept
  record Passed (e : Emitted) (u : FlatState) (f : Emitted) (s : State) : Type 0 where
    state : FlatState
    beside : Beside m f state s
    kept : Kept [] e u state

  -- a parameter is a copy of its argument
  passed :
      (held : Held) (g : ℕ) (p : Param) (a v : ℕ) (e : Emitted) (u : FlatState) (s : State) → Beside m e u s → Reaches (parameter g p a e).1 m.last → Holds [] e u held → In m held g 1 → u.values a ≡ v →
      Passed e u (parameter g p a e).1 (record s { locals = s.locals ++ threads.parameter p v ∷ [] })
  passed held g p a v e u s b reach holds live value =
      let f : Emitted = (copy g a e).1 in
      let x : Variable = record { name = p.name; unsigned = word_unsigned p.word; first = e.next; count = 1 } in
      let there : Reaches f m.last = record { numbers = reach.numbers; numbers_behind = reach.numbers_behind; numbers_above = reach.numbers_above; created = reach.created; created_behind = reach.created_behind } in
      let w : WentOn (Val []) m [] e u f e.next (u.values a) s = set_at m [] held e u s g op.UnaryPlus (a ∷ []) b there holds (in_holds m [] e u held g 1 holds.all live).2 in
      record {
        state = w.state;
        beside = beside_entered m f w.state s x (threads.parameter p v) w.beside
            (record {
              behind = b.stacked;
              used = omega arith;
              plain = λ k low high. plain_in_end f m.last k there high (plain_below e.numbers k e.next low b.neat);
              opened = λ deep low high. let safe : Safe e e.opened = (b.opened deep).0 in absurd (omega (arith, safe.used, low));
            })
            refl refl (ap (λ y. y ∷ []) (sym (w.answer.2 ∙ value)));
        kept = w.kept;
      }

  -- an argument that is not there is 0
  arg_value : (held : Held) (bs vs : List ℕ) (i : ℕ) (e : Emitted) (u : FlatState) (s : State) → Beside m e u s → Holds [] e u held → InAll m held bs vs → u.values (unwrap_or (slice_get bs i) none) ≡ unwrap_or (slice_get vs i) 0
  arg_value held [] [] zero e u s b holds h = b.constants.none
  arg_value held [] [] (suc i) e u s b holds h = b.constants.none
  arg_value held [] (v ∷ vs) i e u s b holds h = absurd h
  arg_value held (a ∷ bs) [] i e u s b holds h = absurd h
  arg_value held (a ∷ bs) (v ∷ vs) zero e u s b holds h = (in_holds m [] e u held a v holds.all h.0).2
  arg_value held (a ∷ bs) (v ∷ vs) (suc i) e u s b holds h = arg_value held bs vs i e u s b holds h.1

  all_passed :
      (held : Held) (g i : ℕ) (ps : List Param) (bs vs : List ℕ) (e : Emitted) (u : FlatState) (s : State) → Beside m e u s → Reaches (parameters g i ps bs e).1 m.last → Holds [] e u held → In m held g 1 → InAll m held bs vs →
      Passed e u (parameters g i ps bs e).1 (record s { locals = threads.parameters s.locals i ps vs })
  all_passed held g i [] bs vs e u s b reach holds live there = record { state = u; beside = b; kept = kept_none [] e u }
  all_passed held g i (p ∷ ps) bs vs e u s b reach holds live there =
      let a : ℕ = unwrap_or (slice_get bs i) none in
      let v : ℕ = unwrap_or (slice_get vs i) 0 in
      let f : Emitted = (parameter g p a e).1 in
      let z : Emitted = (parameters g (i + 1) ps bs f).1 in
      let first : Behind (g ∷ []) e f none = (adds_parameter g p a).add e b.neat in
      let more : Behind (g ∷ []) f z none = (adds_parameters g (i + 1) ps bs).add f first.since.neat in
      let one : Passed e u f (record s { locals = s.locals ++ threads.parameter p v ∷ [] }) =
      passed held g p a v e u s b (reaches_before (g ∷ []) f z m.last (behind_grown (g ∷ []) f z none more) reach) holds live (arg_value held bs vs i e u s b holds there) in
      let rest : Passed f one.state z (record s { locals = threads.parameters (s.locals ++ threads.parameter p v ∷ []) (i + 1) ps vs }) =
      all_passed held g (i + 1) ps bs vs f one.state (record s { locals = s.locals ++ threads.parameter p v ∷ [] }) one.beside reach (holds_grown (g ∷ []) [] e f none u one.state held first one.kept holds) live there in
      record { state = rest.state; beside = rest.beside; kept = kept_grown (g ∷ []) [] e f none u one.state rest.state first one.kept rest.kept }

  -- ---- without the variables in scope

  nowhere : (e : Emitted) (u : FlatState) (s : State) → Beside m e u s → Beside m (record e { scope = [] }) u (record s { locals = [] })
  nowhere e u s b = record {
    ran = b.ran;
    base = b.base;
    neat = b.neat;
    stacked = b.base;
    plain = λ l off. absurd off;
    constants = b.constants;
    idle = b.idle;
    matches = tt;
    creates = b.creates;
    few = b.few;
    numbered = b.numbered;
    depth = b.depth;
    opened = λ deep. (record { used = (b.opened deep).0.used; apart = λ off. off; other = (b.opened deep).0.other }, (b.opened deep).1);
    script = b.script;
    used = b.used;
    actions = b.actions;
  }

  value_nowhere : (xs : List ℕ) (e : Emitted) (u : FlatState) (a v : ℕ) → ValueAt xs e u a v → ValueAt [] (record e { scope = [] }) u a v
  value_nowhere xs e u a v at = (record { used = at.0.used; apart = λ off. off; other = at.0.other }, λ off. off, at.2)

  vals_nowhere : (xs : List ℕ) (e : Emitted) (u : FlatState) (bs vs : List ℕ) → ValsAt m xs e u bs vs → ValsAt m [] (record e { scope = [] }) u bs vs
  vals_nowhere xs e u [] [] h = tt
  vals_nowhere xs e u [] (v ∷ vs) h = absurd h
  vals_nowhere xs e u (a ∷ bs) [] h = absurd h
  vals_nowhere xs e u (a ∷ bs) (v ∷ vs) h = (value_nowhere xs e u a v h.0, vals_nowhere xs e u bs vs h.1)

  -- ---- the locals of a call: its result, and where control leaves the body

  abbrev own_targets : Emitted → Targets
  own_targets f = targets (f.next + 1) (f.next + 1 + 1) f.next

  -- the emission behind these
  abbrev begun : Emitted → Emitted
  begun f = (fresh (fresh (fresh f).1).1).1

  distinct : (f : Emitted) → Distinct (own_targets f)
  distinct f = record { done_again = λ is. absurd (omega (arith, is)); done_result = λ is. absurd (omega (arith, is)); again_result = λ is. absurd (omega (arith, is)) }

  target_new : (f : Emitted) (x : ℕ) → One (written (own_targets f)) x → (f.next ≤ x) × (x < (begun f).next)
  target_new f x (inl is) = (omega (arith, is), omega (arith, is))
  target_new f x (inr (inl is)) = (omega (arith, is), omega (arith, is))
  target_new f x (inr (inr (inl is))) = (omega (arith, is), omega (arith, is))
  target_new f x (inr (inr (inr off))) = absurd off

  begun_since : (f : Emitted) → Neat f → Since [] f (begun f)
  begun_since f neat =
      let one : Since [] f (fresh f).1 = (adds_fresh [] 1).add f neat in
      let two : Since [] (fresh f).1 (fresh (fresh f).1).1 = (adds_fresh [] 1).add (fresh f).1 one.neat in
      since_more [] f (fresh f).1 (begun f) one (since_more [] (fresh f).1 (fresh (fresh f).1).1 (begun f) two ((adds_fresh [] 1).add (fresh (fresh f).1).1 two.neat))

  targets_held : (f : Emitted) (u : FlatState) (s : State) (g : ℕ) → Beside m f u s → ValueAt [] f u g 1 → Holds (written (own_targets f)) (begun f) u (Value g 1 ∷ [])
  targets_held f u s g b at = record {
    low = λ x one. (target_new f x one).1;
    high = λ x one. omega (arith, (target_new f x one).0, b.base);
    plain = λ x one. plain_below f.numbers x f.next (target_new f x one).0 b.neat;
    apart = λ x one a. let within : (5 ≤ x) × (x < f.next) = among_within 5 f.scope f.next x b.stacked a in absurd (omega (arith, within.1, (target_new f x one).0));
    opened = λ deep one. let safe : Safe f f.opened = (b.opened deep).0 in absurd (omega (arith, safe.used, (target_new f f.opened one).0));
    all = ((safe_behind [] f (begun f) g (begun_since f b.neat) at.0, λ one. absurd (omega (arith, at.0.used, (target_new f g one).0)), at.2), tt);
  }

  target_off : (f : Emitted) (u : FlatState) (s : State) (x : ℕ) → Beside m f u s → Reaches (begun f) m.last → One (written (own_targets f)) x → u.values x ≡ 0
  target_off f u s x b reach one = b.idle x (target_new f x one).0 (plain_in_end (begun f) m.last x reach (target_new f x one).1 (plain_below f.numbers x f.next (target_new f x one).0 b.neat))

  targets_off : (f : Emitted) (u : FlatState) (s : State) → Beside m f u s → Reaches (begun f) m.last → Marked (own_targets f) u 0 0 0
  targets_off f u s b reach = (target_off f u s (own_targets f).done b reach (inl refl), target_off f u s (own_targets f).again b reach (inr (inl refl)), target_off f u s (own_targets f).result b reach (inr (inr (inl refl))))

  -- the value of a call: 0 where the body comes to its end
  result_value : (t : Targets) (f : Emitted) (u : FlatState) (h : ℕ) (flow : Flow) → Post t f u h flow → u.values t.result ≡ threads.result_of flow
  result_value t f u h Onward post = post.1.2
  result_value t f u h Broke post = post.1.2
  result_value t f u h Continued post = post.1.2
  result_value t f u h (Returned v) post = post.1.2

  -- ---- behind a call

  -- what was used before the call is as it was
  record Untouched (e : Emitted) (u v : FlatState) : Type 0 where
    same : (l : ℕ) → l < e.next → (l ≡ 4 → ⊥) → v.values l ≡ u.values l

  -- the caller's variables come back
  beside_back :
      (gs : List ℕ) (e z : Emitted) (u v : FlatState) (s r : State) (vs : List Variable) → Since gs e (record z { scope = e.scope }) → Beside m e u s → Beside m (record z { scope = vs }) v r → Untouched e u v → Beside m (record z { scope = e.scope }) v (record r { locals = s.locals })
  beside_back gs e z u v s r vs since b w same = record {
    ran = w.ran;
    base = w.base;
    neat = w.neat;
    stacked = stacked_more 5 e.scope e.next z.next since.grown.next b.stacked;
    plain = b.plain;
    constants = w.constants;
    idle = w.idle;
    matches = matches_kept u.values v.values e.scope s.locals (λ l a. let within : (5 ≤ l) × (l < e.next) = among_within 5 e.scope e.next l b.stacked a in same.same l within.1 (λ is. absurd (omega (arith, within.0, is)))) b.matches;
    creates = w.creates;
    few = w.few;
    numbered = w.numbered;
    depth = w.depth;
    opened = λ deep.
        let there : e.depth ≡ 0 → ⊥ = λ n. deep (since.grown.depth ∙ n) in
        (subst (Safe (record z { scope = e.scope })) (sym (since.grown.opened there)) (safe_behind gs e (record z { scope = e.scope }) e.opened since (b.opened there).0), (w.opened deep).1);
    script = w.script;
    used = w.used;
    actions = w.actions;
  }

  module _
      (ec : pieces.Context) (rc : calls.Context) (adds : AddsCalls ec) (emits : NoMarks ec.setting)
      (body : (ss : List Stmt) → in_block false Outside (map sectioned ss) ≡ None → SimBody m (execute_all ec ss) (model.execute_all rc ss)) where
    came_back :
        (f : Function) (bs : List ℕ) (xs : List ℕ) (held : Held) (g : ℕ) (e : Emitted) (u : FlatState) (s : State) (w : FlatState) (f1 : Emitted) (h : ℕ) (z : Emitted) (o : Outcome Flow) →
        Since (g ∷ []) e (record z { scope = e.scope }) → Beside m e u s → Holds xs e u held → Behind (g ∷ []) (record e { scope = [] }) f1 none → Kept [] (record e { scope = [] }) u w → Neat f1 → 5 ≤ f1.next → (begun f1).next ≤ z.next →
        Flowed m (own_targets f1) (begun f1) w (h, z) o →
        Follows (Val xs) m xs e u (f1.next, record z { scope = e.scope }) (machine.go_on o (λ flow. machine.◌>>◌ (machine.change (λ r. record r { locals = s.locals })) (machine.pure (threads.result_of flow))))
    came_back f bs xs held g e u s w f1 h z (machine.Goes flow r) since b holds params kept neat base more ran =
        let same : Untouched e u ran.state = record {
          same = λ l used other.
              ran.kept l (omega (arith, used, params.since.grown.next))
              (λ a. absurd (omega (arith, used, (params.cells l (subst (λ vs. Among vs l) params.scope a)).0)))
              other (λ one. absurd (omega (arith, used, params.since.grown.next, (target_new f1 l one).0)))
              ∙ kept l used (λ off. off) other (λ off. off);
        } in
        record {
          state = ran.state;
          beside = beside_back (g ∷ []) e z u ran.state s r ((begun f1).scope ++ ran.vars) since b ran.beside same;
          kept = λ l used apart other free. same.same l used other;
          answer = (
            record {
              used = omega (arith, more);
              apart = λ a. let within : (5 ≤ f1.next) × (f1.next < e.next) = among_within 5 e.scope e.next f1.next b.stacked a in absurd (omega (arith, within.1, params.since.grown.next));
              other = λ is. absurd (omega (arith, base, is));
            },
            λ one. let low : f1.next < e.next = holds.low f1.next one in absurd (omega (arith, low, params.since.grown.next)),
            result_value (own_targets f1) z ran.state h flow ran.post,
          );
        }
    came_back f bs xs held g e u s w f1 h z (machine.Halts (halt.Over x) r) since b holds params kept neat base more ran = record { state = ran.state; over = ran.over; used = ran.used; actions = ran.actions }
    came_back f bs xs held g e u s w f1 h z (machine.Halts (halt.Short n) r) since b holds params kept neat base more ran = record { state = ran.state; short = ran.short }

    body_follows :
        (f : Function) → unmatched_in_function f ≡ None → (bs vs : List ℕ) (xs : List ℕ) (held : Held) (g : ℕ) → In m held g 1 → InAll m held bs vs → (e : Emitted) (u : FlatState) (s : State) → Beside m e u s → Reaches (run_body ec f bs g e).1 m.last → Holds xs e u held →
        Follows (Val xs) m xs e u (run_body ec f bs g e) (threads.run_body rc f vs s)
    body_follows f whole bs vs xs held g live there e u s b reach holds =
        let e0 : Emitted = record e { scope = [] } in
        let f1 : Emitted = (parameters g 0 f.params bs e0).1 in
        let f4 : Emitted = begun f1 in
        let t : Targets = own_targets f1 in
        let z : Emitted = (execute_all ec f.body t g f4).1 in
        let h : ℕ = (execute_all ec f.body t g f4).0 in
        let s1 : State = record s { locals = threads.parameters [] 0 f.params vs } in
        let sim : SimBody m (execute_all ec f.body) (model.execute_all rc f.body) = body f.body whole in
        let params : Behind (g ∷ []) e0 f1 none = (adds_parameters g 0 f.params bs).add e0 b.neat in
        let begins : Since [] f1 f4 = begun_since f1 params.since.neat in
        let behind : Behind (g ∷ []) f4 z h = (sim.adds t g).add f4 begins.neat in
        let last : Reaches z m.last = record { numbers = reach.numbers; numbers_behind = reach.numbers_behind; numbers_above = reach.numbers_above; created = reach.created; created_behind = reach.created_behind } in
        let reach4 : Reaches f4 m.last = reaches_before (g ∷ []) f4 z m.last (behind_grown (g ∷ []) f4 z h behind) last in
        let reach1 : Reaches f1 m.last = reaches_before [] f1 f4 m.last begins.grown reach4 in
        let vals : ValsAt m [] e0 u bs vs = vals_nowhere xs e u bs vs (vals_held m xs e u held bs vs holds.all there) in
        let alive : ValueAt [] e0 u g 1 = value_nowhere xs e u g 1 (in_holds m xs e u held g 1 holds.all live) in
        let own : Held = with_values m bs vs (Value g 1 ∷ []) in
        let own_holds : Holds [] e0 u own = record {
          low = λ x off. absurd off;
          high = λ x off. absurd off;
          plain = λ x off. absurd off;
          apart = λ x off. absurd off;
          opened = λ deep off. off;
          all = all_with m [] e0 u (Value g 1 ∷ []) bs vs (alive, tt) vals;
        } in
        let own_live : In m own g 1 = in_past m (Value g 1 ∷ []) bs vs g 1 (inl (refl, refl)) in
        let p : Passed e0 u f1 s1 = all_passed own g 0 f.params bs vs e0 u (record s { locals = [] }) (nowhere e u s b) reach1 own_holds own_live (in_with m [] e0 u (Value g 1 ∷ []) bs vs vals) in
        let at1 : ValueAt [] f1 p.state g 1 = in_holds m [] f1 p.state own g 1 (holds_grown (g ∷ []) [] e0 f1 none u p.state own params p.kept own_holds).all own_live in
        let b4 : Beside m f4 p.state s1 = beside_dead m [] f1 f4 p.state s1 begins reach4 p.beside (λ k off. absurd off) in
        came_back f bs xs held g e u s p.state f1 h z (model.execute_all rc f.body s1) ((adds_body ec adds emits f bs g whole).add e b.neat) b holds params p.kept params.since.neat p.beside.base behind.since.grown.next
        (sim.live t (distinct f1) (Value g 1 ∷ []) g (inl (refl, refl)) f4 p.state s1 b4 last (targets_held f1 p.state s1 g p.beside at1) (targets_off f1 p.state s1 p.beside reach4))

    -- the body of a function, with its parameters as its only variables
    pub sim_run_body :
        (f : Function) → unmatched_in_function f ≡ None → (bs vs : List ℕ) (xs : List ℕ) (held : Held) (g : ℕ) → In m held g 1 → InAll m held bs vs → Sim m (Val xs) xs held (run_body ec f bs g) (threads.run_body rc f vs)
    sim_run_body f whole bs vs xs held g live there = record {
      long = λ e neat. (g ∷ [], (adds_body ec adds emits f bs g whole).add e neat);
      live = λ e u s b reach holds. body_follows f whole bs vs xs held g live there e u s b reach holds;
    }
