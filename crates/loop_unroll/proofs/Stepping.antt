-- Statements: each form does what the thread does, where its parts do.
use Rattle.std.proofs.Common.{◌≡◌, ℕ, inl, List, [], ◌∷◌, map, false, Option, Some, None, refl, subst}
use Rattle.dg_base.specs.declared.Place.{Place}
use Rattle.c_tree.specs.declared.expr.Expr.{Expr}
use Rattle.c_tree.specs.declared.stmt.Stmt.{Stmt, map-Stmt}
use Rattle.c_tree.specs.declared.stmt.Stmt.TheOpen.{Stmt-F}
use Rattle.c_rules.specs.Names.{or_else}
use Rattle.c_rules.specs.Scopes.{First, unless as unless_first}
use Rattle.c_check.specs.declared.sections.Inside.{Inside}
use Rattle.c_check.specs.Sections.{is_outside, first_mark, mark_in_option, mark_in_for, Sectioned, in_block, in_a_loop, section_step, sectioned}
use Rattle.run_model.specs.declared.state.Flow.{Flow}
use Rattle.run_model.specs.declared.state.Flow.TheVariants.{Next as Onward, Broke, Continued, Returned}
use Rattle.run_model.specs.Steps.{State, Outcome, Step}
use Rattle.run_model.specs.Steps as machine
use Rattle.run_model.specs.Calls as calls
use Rattle.run_model.specs.Meaning as meanings
use Rattle.run_model.specs.Statements as model
use Rattle.loop_unroll.specs.declared.targets.Targets.{Targets}
use Rattle.emit_steps.specs.Emitting.{Emitted, Emit, ◌>>=◌, ◌>>◌, pure, nothing, none, one, copy_to, mark}
use Rattle.emit_steps.specs.Pieces as pieces
use Rattle.loop_unroll.specs.Stating.{Body, inside, eval_if, turns, do_turns, declare_all, begin_for, loop, do_loop, give, jump, stmt_step, execute, execute_all}
use Rattle.emit_steps.proofs.Marks.{both_none}
use Rattle.emit_steps.proofs.Adding.{Since, adds_pure, adds_copy, adds_mark}
use Rattle.loop_unroll.proofs.AddingBodies.{Left, AddsGuard, before_guard, guard_is, guard_none, behind_left}
use Rattle.emit_steps.proofs.AddingExprs.{AddsCalls}
use Rattle.loop_unroll.proofs.AddingStatements.{adds_turns, adds_do_turns}
use Rattle.emit_steps.proofs.Running.{reaches_before, Machine}
use Rattle.emit_steps.proofs.Simulating.{Held, Val, holds_behind, in_holds, Sim, go_on_twice}
use Rattle.emit_steps.proofs.Finding.{sim_one, sim_none}
use Rattle.emit_steps.proofs.Evaluating.{SimPiece}
use Rattle.loop_unroll.proofs.Flows.{written, Flowed, SimBody}
use Rattle.loop_unroll.proofs.Leaving.{holds_free, kept_more, marked_kept, flow_value, stays, breaks, goes_again, gives}
use Rattle.loop_unroll.proofs.Branching.{SimPart, part_body, inside_part, if_part}
use Rattle.loop_unroll.proofs.Looping.{SimValue, loop_part, turns_flow, do_turns_flow}
use Rattle.loop_unroll.proofs.Declaring.{scope_value, scope_body, scope_before, eval_value, scope_declare, scope_begin}

module _ (m : Machine) where
  -- the same statement, written in another way
  pub body_same : (b : Body) (st su : Step Flow) → ((s : State) → st s ≡ su s) → SimBody m b st → SimBody m b su
  body_same b st su same h = record {
    adds = h.adds;
    live = λ t d held g there e u s beside reach holds is. subst (λ o. Flowed m t e u (b t g e) o) (same s) (h.live t d held g there e u s beside reach holds is);
  }

  empty_part : SimPart m (λ t g. pure g) (machine.pure Onward)
  empty_part = record {
    adds = λ t g. guard_is (g ∷ []) g (inl refl);
    live = λ t d held g there e u s b reach holds is. stays m t e u s g b (in_holds m (written t) e u held g 1 holds.all there) is;
  }

  -- a value that does not count
  pub value_body : (em : ℕ → Emit ℕ) (st : Step ℕ) → SimValue m em st → SimBody m (λ t g. em g >> pure g) (machine.◌>>◌ st (machine.pure Onward))
  value_body em st h =
      body_same (λ t g. em g >> pure g) (machine.◌>>◌ (machine.◌>>◌ st machine.nothing) (machine.pure Onward)) (machine.◌>>◌ st (machine.pure Onward)) (λ s. go_on_twice m (st s) (λ _. machine.nothing) (λ _. machine.pure Onward))
      (scope_body m (λ g. em g >> nothing) (machine.◌>>◌ st machine.nothing) (scope_value m em st h))

  -- ---- what leaves

  give_adds : (t : Targets) (g v : ℕ) → AddsGuard (g ∷ []) (give t g v)
  give_adds t g v = before_guard (g ∷ []) (copy_to g t.result v) (λ _. pure none) (adds_copy (g ∷ []) g t.result v (inl refl)) (λ _. guard_none (g ∷ []))

  return_part : (em : ℕ → Emit ℕ) (st : Step ℕ) → SimValue m em st → SimPart m (λ t g. em g >>= give t g) (machine.◌>>=◌ st (λ v. machine.pure (Returned v)))
  return_part em st h = record {
    adds = λ t g. before_guard (g ∷ []) (em g) (give t g) (h.adds g) (give_adds t g);
    live = λ t d held g there e u s b reach holds is.
        let f : Emitted = (em g e).1 in
        let a : ℕ = (em g e).0 in
        let first : Since (g ∷ []) e f = (h.adds g).add e b.neat in
        let rest : Left (g ∷ []) f (give t g a f).1 (give t g a f).0 = (give_adds t g a).add f first.neat in
        flow_value m t (g ∷ []) (g ∷ []) e u (em g) (give t g) (λ v. machine.pure (Returned v)) (st s) first (behind_left (g ∷ []) f (give t g a f).1 (give t g a f).0 rest)
        (λ v w r beside kept at. gives m t d held g a v there f w r beside reach (holds_behind (g ∷ []) (written t) e f u w held first (kept_more (written t) e u w kept) holds) (marked_kept t e u w held 0 0 0 holds kept is) at.2)
        ((h.run [] held g there).live e u s b (reaches_before (g ∷ []) f (give t g a f).1 m.last rest.since.grown reach) (holds_free (written t) e u held holds));
  }

  jump_adds : (g to : ℕ) → AddsGuard (g ∷ []) (jump g to)
  jump_adds g to = before_guard (g ∷ []) (mark g to) (λ _. pure none) (adds_mark (g ∷ []) g to (inl refl)) (λ _. guard_none (g ∷ []))

  break_part : SimPart m (λ t g. jump g t.done) (machine.pure Broke)
  break_part = record { adds = λ t g. jump_adds g t.done; live = breaks m }

  continue_part : SimPart m (λ t g. jump g t.again) (machine.pure Continued)
  continue_part = record { adds = λ t g. jump_adds g t.again; live = goes_again m }

  -- ---- the forms

  module _
      (ec : pieces.Context) (rc : calls.Context) (adding : AddsCalls ec) (same_turns : ec.setting.turns ≡ rc.setting.turns) (same_full : ec.setting.full ≡ rc.setting.full)
      (sims : (x : Expr) → first_mark x ≡ None → SimPiece m (pieces.piece ec x) (meanings.meaning rc x)) where
    value_of_expr : (x : Expr) → first_mark x ≡ None → SimValue m (pieces.eval ec x) (meanings.eval rc x)
    value_of_expr x whole = eval_value m ec rc adding sims x whole

    -- an expression that may be left out
    value_if : (other n : ℕ) (o : Option Expr) → mark_in_option o ≡ None → ((xs : List ℕ) (held : Held) → Sim m (Val xs) xs held (pure other) (machine.pure n)) → SimValue m (eval_if ec other o) (model.eval_if rc n o)
    value_if other n None whole h = record { adds = λ k. adds_pure (k ∷ []) other; run = λ xs held g there. h xs held }
    value_if other n (Some x) whole h = record { adds = (value_of_expr x whole).adds; run = (value_of_expr x whole).run }

    pub loop_sim : (p : Place) (t e : Option Expr) (b : Body) (st : Step Flow) → mark_in_option t ≡ None → mark_in_option e ≡ None → SimBody m b st → SimPart m (loop ec p t e b) (model.turns rc p t e st)
    loop_sim p t e b st ht he hb =
        let test : SimValue m (eval_if ec one t) (model.eval_if rc 1 t) = value_if one 1 t ht (sim_one m) in
        let step : SimValue m (eval_if ec none e) (model.eval_if rc 0 e) = value_if none 0 e he (sim_none m) in
        subst (λ n. SimPart m (loop ec p t e b) (model.loop (calls.spend rc.setting p) n (model.eval_if rc 1 t) (model.scoped st) (machine.◌>>◌ (model.eval_if rc 0 e) machine.nothing))) same_turns
        (loop_part m (λ done result g. turns ec.setting p ec.setting.turns (eval_if ec one t) b (eval_if ec none e) done result g)
        (model.loop (calls.spend rc.setting p) ec.setting.turns (model.eval_if rc 1 t) (model.scoped st) (machine.◌>>◌ (model.eval_if rc 0 e) machine.nothing))
        (λ done result g. adds_turns ec.setting p ec.setting.turns (eval_if ec one t) b (eval_if ec none e) done result g test.adds (record { add = (inside_part m b st hb).adds }) step.adds)
        (λ done result other. turns_flow m done result other ec.setting rc.setting same_full p (eval_if ec one t) (model.eval_if rc 1 t) test b st hb (eval_if ec none e) (model.eval_if rc 0 e) step ec.setting.turns))

    pub do_loop_sim : (p : Place) (x : Expr) (b : Body) (st : Step Flow) → first_mark x ≡ None → SimBody m b st → SimPart m (do_loop ec p b x) (model.do_loop (calls.spend rc.setting p) rc.setting.turns (meanings.eval rc x) (model.scoped st))
    do_loop_sim p x b st hx hb =
        let test : SimValue m (pieces.eval ec x) (meanings.eval rc x) = value_of_expr x hx in
        subst (λ n. SimPart m (do_loop ec p b x) (model.do_loop (calls.spend rc.setting p) n (meanings.eval rc x) (model.scoped st))) same_turns
        (loop_part m (λ done result g. do_turns ec.setting p ec.setting.turns (pieces.eval ec x) b done result g) (model.do_loop (calls.spend rc.setting p) ec.setting.turns (meanings.eval rc x) (model.scoped st))
        (λ done result g. adds_do_turns ec.setting p ec.setting.turns (pieces.eval ec x) b done result g test.adds (record { add = (inside_part m b st hb).adds }))
        (λ done result other. do_turns_flow m done result other ec.setting rc.setting same_full p (pieces.eval ec x) (meanings.eval rc x) test b st hb ec.setting.turns))

    module _ (Part : Type 0) (stmt : Part → Stmt) (part : (y : Part) (i : Inside) → (sectioned (stmt y)).found i ≡ None → SimBody m (execute ec (stmt y)) (model.execute rc (stmt y))) where
      -- what is wanted of blocks
      abbrev pub SimBlocks : Type 0
      SimBlocks = (ys : List Part) (i : Inside) → in_block false i (map sectioned (map stmt ys)) ≡ None → SimBody m (inside (execute_all ec (map stmt ys))) (model.scoped (model.execute_all rc (map stmt ys)))

      -- a statement of which nothing is broken, from its parts
      pub step_sim :
          SimBlocks → (y : Stmt-F Part) (i : Inside) → (section_step (map-Stmt Stmt Sectioned sectioned (map-Stmt Part Stmt stmt y))).found i ≡ None →
          SimBody m (stmt_step ec (map-Stmt Stmt Body (execute ec) (map-Stmt Part Stmt stmt y))) (model.stmt_step rc (map-Stmt Stmt (Step Flow) (model.execute rc) (map-Stmt Part Stmt stmt y)))
      step_sim blocks (Stmt-F.Empty p) i h = part_body m _ _ empty_part
      step_sim blocks (Stmt-F.Expr p x) i h = value_body (pieces.eval ec x) (meanings.eval rc x) (value_of_expr x h)
      step_sim blocks (Stmt-F.Declare d) i h = scope_body m (λ g. declare_all ec d.word g d.declarators) (model.declare_all rc d.word d.declarators) (scope_declare m ec rc adding sims d.word d.declarators h)
      step_sim blocks (Stmt-F.Block p ys) i h = blocks ys i h
      step_sim blocks (Stmt-F.Label p n y) i h = part_body m _ _ (inside_part m (execute ec (stmt y)) (model.execute rc (stmt y)) (part y i h))
      step_sim blocks (Stmt-F.If p x y None) i h =
          let first : (first_mark x ≡ None) × (or_else ((sectioned (stmt y)).found i) None ≡ None) = both_none (first_mark x) _ h in
          let both : ((sectioned (stmt y)).found i ≡ None) × (◌≡◌ {A = First} None None) = both_none ((sectioned (stmt y)).found i) None first.1 in
          part_body m _ _ (if_part m (pieces.piece ec x) (meanings.meaning rc x) (execute ec (stmt y)) None (model.execute rc (stmt y)) None (sims x first.0) (part y i both.0) tt)
      step_sim blocks (Stmt-F.If p x y (Some z)) i h =
          let first : (first_mark x ≡ None) × (or_else ((sectioned (stmt y)).found i) ((sectioned (stmt z)).found i) ≡ None) = both_none (first_mark x) _ h in
          let both : ((sectioned (stmt y)).found i ≡ None) × ((sectioned (stmt z)).found i ≡ None) = both_none ((sectioned (stmt y)).found i) ((sectioned (stmt z)).found i) first.1 in
          part_body m _ _ (if_part m (pieces.piece ec x) (meanings.meaning rc x) (execute ec (stmt y)) (Some (execute ec (stmt z))) (model.execute rc (stmt y)) (Some (model.execute rc (stmt z))) (sims x first.0) (part y i both.0) (part z i both.1))
      step_sim blocks (Stmt-F.While p x y) i h =
          let both : (first_mark x ≡ None) × ((sectioned (stmt y)).found (in_a_loop i) ≡ None) = both_none (first_mark x) _ h in
          part_body m _ _ (loop_sim p (Some x) None (execute ec (stmt y)) (model.execute rc (stmt y)) both.0 refl (part y (in_a_loop i) both.1))
      step_sim blocks (Stmt-F.DoWhile p y x) i h =
          let both : ((sectioned (stmt y)).found (in_a_loop i) ≡ None) × (first_mark x ≡ None) = both_none _ (first_mark x) h in
          part_body m _ _ (do_loop_sim p x (execute ec (stmt y)) (model.execute rc (stmt y)) both.1 (part y (in_a_loop i) both.0))
      step_sim blocks (Stmt-F.For p first x e y) i h =
          let a : (mark_in_for first ≡ None) × (or_else (mark_in_option x) (or_else (mark_in_option e) ((sectioned (stmt y)).found (in_a_loop i))) ≡ None) = both_none (mark_in_for first) _ h in
          let b : (mark_in_option x ≡ None) × (or_else (mark_in_option e) ((sectioned (stmt y)).found (in_a_loop i)) ≡ None) = both_none (mark_in_option x) _ a.1 in
          let c : (mark_in_option e ≡ None) × ((sectioned (stmt y)).found (in_a_loop i) ≡ None) = both_none (mark_in_option e) _ b.1 in
          part_body m _ _ (inside_part m (λ t g. begin_for ec first g >> loop ec p x e (execute ec (stmt y)) t g) (machine.◌>>◌ (model.begin_for rc first) (model.turns rc p x e (model.execute rc (stmt y))))
          (scope_before m (begin_for ec first) (model.begin_for rc first) (loop ec p x e (execute ec (stmt y))) (model.turns rc p x e (model.execute rc (stmt y))) (scope_begin m ec rc adding sims first a.0)
          (part_body m _ _ (loop_sim p x e (execute ec (stmt y)) (model.execute rc (stmt y)) b.0 c.0 (part y (in_a_loop i) c.1)))))
      step_sim blocks (Stmt-F.Return p x) i h =
          let both : (unless_first (is_outside i) p ≡ None) × (mark_in_option x ≡ None) = both_none _ (mark_in_option x) h in
          part_body m _ _ (return_part (eval_if ec none x) (model.eval_if rc 0 x) (value_if none 0 x both.1 (sim_none m)))
      step_sim blocks (Stmt-F.Break p) i h = part_body m _ _ break_part
      step_sim blocks (Stmt-F.Continue p) i h = part_body m _ _ continue_part
