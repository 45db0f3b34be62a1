-- What is emitted for an expression without a begin or an end does what the expression means.
use Rattle.std.proofs.Common.{◌≡◌, ℕ, zero, suc, inl, inr, List, [], ◌∷◌, ◌++◌, Bool, true, false, Option, Some, None, map, refl, sym, ap, ◌∙◌, subst}
use Rattle.std.specs.Prelude.{cond, ◌||◌}
use Rattle.dg_base.specs.declared.Place.{Place}
use Rattle.dg_base.specs.Values.{value_of, is_true}
use Rattle.axiom_model.specs.declared.Action.TheVariants as action
use Rattle.c_tree.specs.declared.expr.Expr.{Expr, fold-roll-Expr, ind-Expr, map-Expr}
use Rattle.c_tree.specs.declared.expr.Expr.TheOpen.{Expr-F}
use Rattle.c_tree.specs.declared.expr.Expr.TheViews.{roll-Expr}
use Rattle.c_tree.specs.declared.program.Function.{Function}
use Rattle.c_tree.specs.Operators.{unary_op, unary_unsigned, binary_unsigned}
use Rattle.c_rules.specs.declared.builtin.Builtin.{Builtin}
use Rattle.c_rules.specs.declared.builtin.Builtin.TheVariants as b
use Rattle.c_rules.specs.Names.{Name, or_else, builtin_named}
use Rattle.c_rules.specs.Scopes.{First, first_of}
use Rattle.c_check.specs.Sections.{broken_call, mark_step, first_mark}
use Rattle.run_model.specs.declared.state.Shared.{Shared}
use Rattle.run_model.specs.declared.state.Slot.{Slot}
use Rattle.run_model.specs.declared.state.Slot.TheVariants as slot
use Rattle.run_model.specs.declared.state.Need.TheVariants.{Any}
use Rattle.run_model.specs.Steps.{State, Step}
use Rattle.run_model.specs.Steps as machine
use Rattle.run_model.specs.Cells as cells
use Rattle.run_model.specs.Calls.{Meaning, Setting, no_other, function_named, function_in}
use Rattle.run_model.specs.Calls as calls
use Rattle.run_model.specs.Meaning as meanings
use Rattle.flat_prog.specs.declared.FlatAct.TheVariants as act
use Rattle.flat_prog.specs.Runs.{FlatState}
use Rattle.emit_steps.specs.declared.state.Variable.{Variable}
use Rattle.emit_steps.specs.declared.state.Cell.{Cell}
use Rattle.emit_steps.specs.Emitting.{Emitted, Emit, ◌>>=◌, pure, none, emit, set, stop}
use Rattle.emit_steps.specs.Pieces as pieces
use Rattle.emit_steps.specs.Pieces.{Piece, read, find_cells, values_of}
use Rattle.emit_steps.proofs.Growth.{Each, Neat}
use Rattle.emit_steps.proofs.Marks.{both_none, IsPlainCall, plain_call}
use Rattle.emit_steps.proofs.AddingExprs.{adds_call}
use Rattle.emit_steps.proofs.Adding.{Adds, since_none, adds_pure, adds_then, adds_number, adds_set}
use Rattle.emit_steps.proofs.AddingForms.{AddsPiece, AddsCells, before_cells, adds_find, adds_value, adds_lvalue, adds_binary, adds_assign, adds_count, adds_choose, adds_no_argument}
use Rattle.emit_steps.proofs.Running.{Machine, Beside}
use Rattle.emit_steps.proofs.Simulating.{Long, Value, Points, Held, ValueAt, HeldAt, Val, Meant, Done, Sim, Next, sim_then, next_value, next_cells, sim_pure, In, in_holds, sim_set}
use Rattle.emit_steps.proofs.Acting.{sim_read, sim_make, sim_any}
use Rattle.emit_steps.proofs.Finding.{sim_number, sim_none}
use Rattle.emit_steps.proofs.Slots.{sim_find, sim_no_cell, name_type}
use Rattle.emit_steps.proofs.Evaluating.{SimPiece}
use Rattle.emit_steps.proofs.Binary.{sim_binary, sim_assign, Vals, sim_count, sim_choose}
use Rattle.emit_steps.proofs.Routines.{sim_no_value, sim_stopped, sim_failed, sim_assert, sim_assume, sim_any_bool, sim_join, sim_exit}
use Rattle.emit_steps.proofs.Locking.{sim_lock, sim_unlock}
use Rattle.emit_steps.proofs.Creating.{sim_create}

module _ (m : Machine) where
  -- ---- lists of arguments

  abbrev pub SimAll : List Piece → List Meaning → Type 0
  SimAll [] [] = Unit {0}
  SimAll [] (q ∷ qs) = ⊥
  SimAll (p ∷ ps) [] = ⊥
  SimAll (p ∷ ps) (q ∷ qs) = SimPiece m p q × SimAll ps qs

  all_add : (ps : List Piece) (qs : List Meaning) → SimAll ps qs → Each AddsPiece ps
  all_add [] [] h = tt
  all_add [] (q ∷ qs) h = absurd h
  all_add (p ∷ ps) [] h = absurd h
  all_add (p ∷ ps) (q ∷ qs) h = (h.0.adds, all_add ps qs h.1)

  no_argument_sim : SimPiece m pieces.no_argument calls.no_argument
  no_argument_sim = record {
    adds = adds_no_argument;
    run = λ xs held g live. sim_none m xs held;
    find = λ xs held g live. sim_no_cell m xs held g (inl live);
    unsigned = λ e t s b. refl;
    spelled = refl;
  }

  argument_sim : (ps : List Piece) (qs : List Meaning) (i : ℕ) → SimAll ps qs → SimPiece m (pieces.argument ps i) (calls.argument qs i)
  argument_sim [] [] zero h = no_argument_sim
  argument_sim [] [] (suc i) h = no_argument_sim
  argument_sim [] (q ∷ qs) i h = absurd h
  argument_sim (p ∷ ps) [] i h = absurd h
  argument_sim (p ∷ ps) (q ∷ qs) zero h = h.0
  argument_sim (p ∷ ps) (q ∷ qs) (suc i) h = argument_sim ps qs i h.1

  -- the locals hold the values
  abbrev pub InAll : Held → List ℕ → List ℕ → Type 0
  InAll held [] [] = Unit {0}
  InAll held [] (v ∷ vs) = ⊥
  InAll held (a ∷ bs) [] = ⊥
  InAll held (a ∷ bs) (v ∷ vs) = In m held a v × InAll held bs vs

  abbrev pub ValsAt : List ℕ → Emitted → FlatState → List ℕ → List ℕ → Type 0
  ValsAt xs f t [] [] = Unit {0}
  ValsAt xs f t [] (v ∷ vs) = ⊥
  ValsAt xs f t (a ∷ bs) [] = ⊥
  ValsAt xs f t (a ∷ bs) (v ∷ vs) = ValueAt xs f t a v × ValsAt xs f t bs vs

  abbrev pub with_values : List ℕ → List ℕ → Held → Held
  with_values [] vs held = held
  with_values (a ∷ bs) [] held = held
  with_values (a ∷ bs) (v ∷ vs) held = Value a v ∷ with_values bs vs held

  in_all_more : (a v : ℕ) (held : Held) (bs vs : List ℕ) → InAll held bs vs → InAll (Value a v ∷ held) bs vs
  in_all_more a v held [] [] h = tt
  in_all_more a v held [] (w ∷ vs) h = absurd h
  in_all_more a v held (c ∷ bs) [] h = absurd h
  in_all_more a v held (c ∷ bs) (w ∷ vs) h = (inr h.0, in_all_more a v held bs vs h.1)

  in_all_last : (a v : ℕ) (held : Held) (bs vs : List ℕ) → InAll held bs vs → In m held a v → InAll held (bs ++ a ∷ []) (vs ++ v ∷ [])
  in_all_last a v held [] [] h last = (last, tt)
  in_all_last a v held [] (w ∷ vs) h last = absurd h
  in_all_last a v held (c ∷ bs) [] h last = absurd h
  in_all_last a v held (c ∷ bs) (w ∷ vs) h last = (h.0, in_all_last a v held bs vs h.1 last)

  pub vals_held : (xs : List ℕ) (e : Emitted) (t : FlatState) (held : Held) (bs vs : List ℕ) → Each (HeldAt xs e t) held → InAll held bs vs → ValsAt xs e t bs vs
  vals_held xs e t held [] [] all h = tt
  vals_held xs e t held [] (v ∷ vs) all h = absurd h
  vals_held xs e t held (a ∷ bs) [] all h = absurd h
  vals_held xs e t held (a ∷ bs) (v ∷ vs) all h = (in_holds m xs e t held a v all h.0, vals_held xs e t held bs vs all h.1)

  pub all_with : (xs : List ℕ) (e : Emitted) (t : FlatState) (held : Held) (bs vs : List ℕ) → Each (HeldAt xs e t) held → ValsAt xs e t bs vs → Each (HeldAt xs e t) (with_values bs vs held)
  all_with xs e t held [] [] all h = all
  all_with xs e t held [] (v ∷ vs) all h = absurd h
  all_with xs e t held (a ∷ bs) [] all h = absurd h
  all_with xs e t held (a ∷ bs) (v ∷ vs) all h = (h.0, all_with xs e t held bs vs all h.1)

  pub in_with : (xs : List ℕ) (e : Emitted) (t : FlatState) (held : Held) (bs vs : List ℕ) → ValsAt xs e t bs vs → InAll (with_values bs vs held) bs vs
  in_with xs e t held [] [] h = tt
  in_with xs e t held [] (v ∷ vs) h = absurd h
  in_with xs e t held (a ∷ bs) [] h = absurd h
  in_with xs e t held (a ∷ bs) (v ∷ vs) h = (inl (refl, refl), in_all_more a v (with_values bs vs held) bs vs (in_with xs e t held bs vs h.1))

  pub in_past : (held : Held) (bs vs : List ℕ) (a v : ℕ) → In m held a v → In m (with_values bs vs held) a v
  in_past held [] vs a v h = h
  in_past held (c ∷ bs) [] a v h = h
  in_past held (c ∷ bs) (w ∷ vs) a v h = inr (in_past held bs vs a v h)

  sim_values : (xs : List ℕ) (held : Held) (done vals : List ℕ) (ps : List Piece) (qs : List Meaning) (g : ℕ) → SimAll ps qs → InAll held done vals → In m held g 1 → Sim m (ValsAt xs) xs held (values_of done ps g) (machine.in_turn vals (meanings.runs_of qs))
  sim_values xs held done vals [] [] g h there live = sim_pure m (ValsAt xs) xs held done vals (λ e t s b holds. vals_held xs e t held done vals holds.all there)
  sim_values xs held done vals [] (q ∷ qs) g h there live = absurd h
  sim_values xs held done vals (p ∷ ps) [] g h there live = absurd h
  sim_values xs held done vals (p ∷ ps) (q ∷ qs) g h there live =
      sim_then m (Val xs) (ValsAt xs) xs held (p.run g) q.run _ _ (h.0.run xs held g live) (next_value m xs held _ _ (ValsAt xs) (λ a v.
      sim_values xs (Value a v ∷ held) (done ++ a ∷ []) (vals ++ v ∷ []) ps qs g h.1 (in_all_last a v (Value a v ∷ held) done vals (in_all_more a v held done vals there) (inl (refl, refl))) (inr live)))

  next_values :
      {C D : Type 0} (xs : List ℕ) (held : Held) (f : List ℕ → Emit C) (k : List ℕ → Step D) (Q : Emitted → FlatState → C → D → Type 0) → ((bs : List ℕ) (e : Emitted) → Neat e → Long e (f bs e).1) →
      ((bs vs : List ℕ) → InAll (with_values bs vs held) bs vs → Sim m Q xs (with_values bs vs held) (f bs) (k vs)) → Next m (ValsAt xs) xs held f k Q
  next_values xs held f k Q long h = record {
    long = long;
    live = λ bs vs e t s b reach holds at.
        (h bs vs (in_with xs e t held bs vs at)).live e t s b reach (record { low = holds.low; high = holds.high; plain = holds.plain; apart = holds.apart; opened = holds.opened; all = all_with xs e t held bs vs holds.all at });
  }

  -- ---- calls

  module _ (shared : List Shared) (functions : List Function) (loops : ℕ) (full : Bool) where
    abbrev pub setting : ℕ → Setting
    setting h = record { shared = shared; functions = functions; turns = loops; full = full; handle = h; other = no_other }

    mutex_sim :
        (xs : List ℕ) (held : Held) (g : ℕ) (p : Piece) (q : Meaning) (f : List Cell → Emit (Unit {0})) (k : Slot → Step (Unit {0})) → SimPiece m p q → In m held g 1 →
        ((cs : List Cell) (x : Slot) → Sim m Done xs (Points cs x ∷ held) (f cs) (k x)) → Sim m (Val xs) xs held (p.find g >>= (λ cs. pieces.no_value (f cs))) (machine.◌>>=◌ q.find (λ x. machine.◌>>◌ (k x) (machine.pure 0)))
    mutex_sim xs held g p q f k h live sim =
        sim_then m (Meant xs) (Val xs) xs held (p.find g) q.find _ _ (h.find xs held g live) (next_cells m xs held _ _ (Val xs) (slot.Common 0) (λ cs x. sim_no_value m xs (Points cs x ∷ held) (f cs) (k x) (sim cs x)))

    valued : (xs : List ℕ) (held : Held) (g : ℕ) (p : Piece) (q : Meaning) (f : ℕ → Emit ℕ) (k : ℕ → Step ℕ) → SimPiece m p q → In m held g 1 → ((a v : ℕ) → Sim m (Val xs) xs (Value a v ∷ held) (f a) (k v)) →
        Sim m (Val xs) xs held (p.run g >>= f) (machine.◌>>=◌ q.run k)
    valued xs held g p q f k h live sim = sim_then m (Val xs) (Val xs) xs held (p.run g) q.run f k (h.run xs held g live) (next_value m xs held f k (Val xs) sim)

    builtin_sim : (xs : List ℕ) (held : Held) (p : Place) (c : Builtin) (ps : List Piece) (qs : List Meaning) (g : ℕ) → IsPlainCall c → SimAll ps qs → In m held g 1 → Sim m (Val xs) xs held (pieces.builtin_call (setting 0) p c ps g) (calls.builtin_call (setting m.handle) p c qs)
    builtin_sim xs held p b.PthreadCreate ps qs g plain h live =
        sim_then m (Meant xs) (Val xs) xs held ((pieces.argument ps 0).find g) (calls.argument qs 0).find _ _ ((argument_sim ps qs 0 h).find xs held g live) (next_cells m xs held _ _ (Val xs) (slot.Common 0) (λ cs x.
        valued xs (Points cs x ∷ held) g (pieces.argument ps 3) (calls.argument qs 3) _ _ (argument_sim ps qs 3 h) live (λ a v.
        subst (λ n. Sim m (Val xs) xs (Value a v ∷ Points cs x ∷ held) (pieces.create g cs (function_in (setting 0) (pieces.argument ps 2).spelled) a) (calls.create (setting m.handle) x (function_in (setting m.handle) n) v)) (argument_sim ps qs 2 h).spelled
        (sim_create m xs (Value a v ∷ Points cs x ∷ held) (setting m.handle) g (function_in (setting 0) (pieces.argument ps 2).spelled) a v cs x refl (inr live) (inl (refl, refl)) (inl (refl, refl))))))
    builtin_sim xs held p b.PthreadJoin ps qs g plain h live = valued xs held g (pieces.argument ps 0) (calls.argument qs 0) (pieces.join g) calls.join (argument_sim ps qs 0 h) live (λ a v. sim_join m xs (Value a v ∷ held) g a v (inr live) (inl (refl, refl)))
    builtin_sim xs held p b.PthreadExit ps qs g plain h live = valued xs held g (pieces.argument ps 0) (calls.argument qs 0) (λ _. pieces.no_value (pieces.exit_thread g)) (λ _. calls.exit_thread) (argument_sim ps qs 0 h) live (λ a v. sim_exit m xs (Value a v ∷ held) g (inr live))
    builtin_sim xs held p b.Exit ps qs g plain h live = valued xs held g (pieces.argument ps 0) (calls.argument qs 0) (λ _. pieces.no_value (stop g)) (λ _. machine.stop) (argument_sim ps qs 0 h) live (λ a v. sim_stopped m xs (Value a v ∷ held) g (inr live))
    builtin_sim xs held p b.Abort ps qs g plain h live = sim_stopped m xs held g live
    builtin_sim xs held p b.Lock ps qs g plain h live = mutex_sim xs held g (pieces.argument ps 0) (calls.argument qs 0) (pieces.lock_cells g) calls.lock_cell (argument_sim ps qs 0 h) live (λ cs x. sim_lock m xs (Points cs x ∷ held) g cs x (inl (refl, refl)) live)
    builtin_sim xs held p b.Unlock ps qs g plain h live = mutex_sim xs held g (pieces.argument ps 0) (calls.argument qs 0) (pieces.unlock_cells g) calls.unlock_cell (argument_sim ps qs 0 h) live (λ cs x. sim_unlock m xs (Points cs x ∷ held) g cs x (inl (refl, refl)) live)
    builtin_sim xs held p b.Init ps qs g plain h live = mutex_sim xs held g (pieces.argument ps 0) (calls.argument qs 0) (pieces.unlock_cells g) calls.unlock_cell (argument_sim ps qs 0 h) live (λ cs x. sim_unlock m xs (Points cs x ∷ held) g cs x (inl (refl, refl)) live)
    builtin_sim xs held p b.Destroy ps qs g plain h live =
        sim_then m (Meant xs) (Val xs) xs held ((pieces.argument ps 0).find g) (calls.argument qs 0).find (λ _. pure none) (λ _. machine.pure 0) ((argument_sim ps qs 0 h).find xs held g live)
        (next_cells m xs held (λ _. pure none) (λ _. machine.pure 0) (Val xs) (slot.Common 0) (λ cs x. sim_none m xs (Points cs x ∷ held)))
    builtin_sim xs held p b.Assert ps qs g plain h live = valued xs held g (pieces.argument ps 0) (calls.argument qs 0) (pieces.assert p g) (λ v. cond (is_true v) (machine.pure 0) (machine.fail p)) (argument_sim ps qs 0 h) live (λ a v. sim_assert m xs (Value a v ∷ held) p g a v (inr live) (inl (refl, refl)))
    builtin_sim xs held p b.Assume ps qs g plain h live = valued xs held g (pieces.argument ps 0) (calls.argument qs 0) (pieces.assume g) (λ v. cond (is_true v) (machine.pure 0) machine.stop) (argument_sim ps qs 0 h) live (λ a v. sim_assume m xs (Value a v ∷ held) g a v (inr live) (inl (refl, refl)))
    builtin_sim xs held p b.AssertFail ps qs g plain h live = sim_failed m xs held g p live
    builtin_sim xs held p b.ReachError ps qs g plain h live = sim_failed m xs held g p live
    builtin_sim xs held p b.AnyInt ps qs g plain h live = sim_any m xs held g Any (inl live)
    builtin_sim xs held p b.AnyUint ps qs g plain h live = sim_any m xs held g Any (inl live)
    builtin_sim xs held p b.AnyBool ps qs g plain h live = sim_any_bool m xs held g live
    builtin_sim xs held p b.Begin ps qs g plain h live = absurd plain
    builtin_sim xs held p b.Finish ps qs g plain h live = absurd plain
    builtin_sim xs held p b.Synchronize ps qs g plain h live = sim_no_value m xs held (emit g act.Fence) (machine.make action.Fence) (sim_make m xs held g act.Fence action.Fence (inl live) (λ e t s b holds. refl))

    -- what is emitted for calls of functions does what the calls do
    pub record SimCalls (em : ℕ → List ℕ → ℕ → Emit ℕ) (st : ℕ → List ℕ → Step ℕ) : Type 0 where
      pub adds : (f : ℕ) (bs : List ℕ) (g : ℕ) → Adds (g ∷ []) (em f bs g)
      pub run : (f : ℕ) (bs vs : List ℕ) (xs : List ℕ) (held : Held) (g : ℕ) → In m held g 1 → InAll held bs vs → Sim m (Val xs) xs held (em f bs g) (st f vs)

    module _ (em : ℕ → List ℕ → ℕ → Emit ℕ) (st : ℕ → List ℕ → Step ℕ) (sims : SimCalls em st) where
      abbrev pub emitting : pieces.Context
      emitting = record { setting = setting 0; call = em }

      abbrev pub running : calls.Context
      running = record { setting = setting m.handle; call = st }

      named_sim : (xs : List ℕ) (held : Held) (p : Place) (n : Name) (o : Option Builtin) (ps : List Piece) (qs : List Meaning) (g : ℕ) → builtin_named n ≡ o → broken_call p n ≡ None → SimAll ps qs → In m held g 1 →
          Sim m (Val xs) xs held (pieces.call_builtin (setting 0) p o ps g) (meanings.call_builtin (setting m.handle) p n o qs)
      named_sim xs held p n None ps qs g is whole parts live = sim_stopped m xs held g live
      named_sim xs held p n (Some c) ps qs g is whole parts live = builtin_sim xs held p c ps qs g (plain_call p n c whole is) parts live

      call_sim : (xs : List ℕ) (held : Held) (p : Place) (n : Name) (o : Option ℕ) (ps : List Piece) (qs : List Meaning) (g : ℕ) → broken_call p n ≡ None → SimAll ps qs → In m held g 1 → Sim m (Val xs) xs held (pieces.call emitting p n ps o g) (meanings.call running p n qs o)
      call_sim xs held p n (Some f) ps qs g whole parts live =
          sim_then m (ValsAt xs) (Val xs) xs held (values_of [] ps g) (machine.in_turn [] (meanings.runs_of qs)) (λ bs. em f bs g) (st f) (sim_values xs held [] [] ps qs g parts tt live)
          (next_values xs held (λ bs. em f bs g) (st f) (Val xs) (λ bs e neat. (g ∷ [], (sims.adds f bs g).add e neat)) (λ bs vs there. sims.run f bs vs xs (with_values bs vs held) g (in_past held bs vs g 1 live) there))
      call_sim xs held p n None ps qs g whole parts live = named_sim xs held p n (builtin_named n) ps qs g refl whole parts live

      -- ---- expressions

      abbrev Whole : Expr → Type 0
      Whole e = first_mark e ≡ None → SimPiece m (pieces.piece emitting e) (meanings.meaning running e)

      abbrev Part : Type 0
      Part = (e : Expr) × Whole e

      abbrev exprs : List Part → List Expr
      exprs ys = map (λ (y : Part). y.0) ys

      parts_sim : (ys : List Part) → first_of (map first_mark (exprs ys)) ≡ None → SimAll (map (pieces.piece emitting) (exprs ys)) (map (meanings.meaning running) (exprs ys))
      parts_sim [] h = tt
      parts_sim (y ∷ ys) h = let both : (first_mark y.0 ≡ None) × (first_of (map first_mark (exprs ys)) ≡ None) = both_none (first_mark y.0) (first_of (map first_mark (exprs ys))) h in (y.1 both.0, parts_sim ys both.1)

      value_sim :
          (u : List Variable → Bool) (v : State → Bool) (run : ℕ → Emit ℕ) (st : Step ℕ) → ((g : ℕ) → Adds (g ∷ []) (run g)) → ((xs : List ℕ) (held : Held) (g : ℕ) → In m held g 1 → Sim m (Val xs) xs held (run g) st) →
          ((e : Emitted) (t : FlatState) (s : State) → Beside m e t s → u e.scope ≡ v s) → SimPiece m (pieces.value u run) (meanings.value v st)
      value_sim u v run st adds sim same = record {
        adds = adds_value u run adds;
        run = sim;
        find = λ xs held g live. sim_no_cell m xs held g (inl live);
        unsigned = same;
        spelled = refl;
      }

      lvalue_sim :
          (n : Option Name) (u : List Variable → Bool) (v : State → Bool) (find : ℕ → Emit (List Cell)) (st : Step Slot) → ((g : ℕ) → AddsCells (g ∷ []) (find g)) → ((xs : List ℕ) (held : Held) (g : ℕ) → In m held g 1 → Sim m (Meant xs) xs held (find g) st) →
          ((e : Emitted) (t : FlatState) (s : State) → Beside m e t s → u e.scope ≡ v s) → SimPiece m (pieces.lvalue n u find) (meanings.lvalue n v st)
      lvalue_sim n u v find st adds sim same = record {
        adds = adds_lvalue n u find adds;
        run = λ xs held g live. sim_then m (Meant xs) (Val xs) xs held (find g) st read cells.read (sim xs held g live) (next_cells m xs held read cells.read (Val xs) (slot.Common 0) (λ cs x. sim_read m xs (Points cs x ∷ held) cs x (inl (refl, refl))));
        find = sim;
        unsigned = same;
        spelled = refl;
      }

      side : (xs : List ℕ) (e : Emitted) (t : FlatState) (a v : ℕ × ℕ) (left : Bool) → Vals m xs e t a v → ValueAt xs e t (cond left a.0 a.1) (cond left v.0 v.1)
      side xs e t a v true at = at.0
      side xs e t a v false at = at.1

      -- the value before, or the one behind
      counted : (xs : List ℕ) (held : Held) (em : Emit (ℕ × ℕ)) (step : Step (ℕ × ℕ)) (left : Bool) → Sim m (Vals m xs) xs held em step →
          Sim m (Val xs) xs held (em >>= (λ w. pure (cond left w.0 w.1))) (machine.◌>>=◌ step (λ w. machine.pure (cond left w.0 w.1)))
      counted xs held em step left sim =
          sim_then m (Vals m xs) (Val xs) xs held em step (λ w. pure (cond left w.0 w.1)) (λ w. machine.pure (cond left w.0 w.1)) sim (record {
            long = λ a e neat. ([], since_none [] e neat);
            live = λ a v e t s b reach holds at. record { state = t; beside = b; kept = λ l used apart other free. refl; answer = side xs e t a v left at };
          })

      layer : (y : Expr-F Part) → mark_step (map-Expr Expr First first_mark (map-Expr Part Expr (λ e. e.0) y)) ≡ None →
          SimPiece m (pieces.expr_step emitting (map-Expr Expr Piece (pieces.piece emitting) (map-Expr Part Expr (λ e. e.0) y))) (meanings.expr_step running (map-Expr Expr Meaning (meanings.meaning running) (map-Expr Part Expr (λ e. e.0) y)))
      layer (Expr-F.Name p n) h = lvalue_sim (Some n) _ _ _ _ (λ g. adds_find (g ∷ []) shared p n g None (inl refl)) (λ xs held g live. sim_find m xs held shared p n g None 0 live refl) (λ e t s b. name_type m shared n e t s b)
      layer (Expr-F.Number p v u) h = value_sim _ _ _ _ (λ g. adds_number (g ∷ []) v) (λ xs held g live. sim_number m xs held v) (λ e t s b. refl)
      layer (Expr-F.Text p) h = value_sim _ _ _ _ (λ g. adds_pure (g ∷ []) none) (λ xs held g live. sim_none m xs held) (λ e t s b. refl)
      layer (Expr-F.Bracket p e) h = e.1 h
      layer (Expr-F.Index p n x) h =
          lvalue_sim None _ _ _ _ (λ g. before_cells (g ∷ []) ((pieces.piece emitting x.0).run g) _ ((x.1 h).adds.run g) (λ v. adds_find (g ∷ []) shared p n g (Some v) (inl refl)))
          (λ xs held g live. sim_then m (Val xs) (Meant xs) xs held ((pieces.piece emitting x.0).run g) (meanings.meaning running x.0).run _ _ ((x.1 h).run xs held g live) (next_value m xs held _ _ (Meant xs) (λ a v.
          sim_find m xs (Value a v ∷ held) shared p n g (Some a) v (inr live) (inl (inl (refl, refl))))))
          (λ e t s b. name_type m shared n e t s b)
      layer (Expr-F.Call p n ys) h =
          let both : (broken_call p n ≡ None) × (first_of (map first_mark (exprs ys)) ≡ None) = both_none (broken_call p n) (first_of (map first_mark (exprs ys))) h in
          let parts : SimAll (map (pieces.piece emitting) (exprs ys)) (map (meanings.meaning running) (exprs ys)) = parts_sim ys both.1 in
          value_sim _ _ _ _ (λ g. adds_call emitting sims.adds p n (map (pieces.piece emitting) (exprs ys)) g (function_named (setting 0) n) both.0 (all_add (map (pieces.piece emitting) (exprs ys)) (map (meanings.meaning running) (exprs ys)) parts))
          (λ xs held g live. call_sim xs held p n (function_named (setting 0) n) (map (pieces.piece emitting) (exprs ys)) (map (meanings.meaning running) (exprs ys)) g both.0 parts live) (λ e t s b. refl)
      layer (Expr-F.Cast p w x) h = value_sim _ _ _ _ (λ g. (x.1 h).adds.run g) (x.1 h).run (λ e t s b. refl)
      layer (Expr-F.Unary p o x) h =
          value_sim _ _ _ _ (λ g. adds_then (g ∷ []) ((pieces.piece emitting x.0).run g) _ ((x.1 h).adds.run g) (λ v. adds_set (g ∷ []) g (unary_op o) (v ∷ []) (inl refl)))
          (λ xs held g live. valued xs held g (pieces.piece emitting x.0) (meanings.meaning running x.0) (λ v. set g (unary_op o) (v ∷ [])) (λ v. machine.pure (value_of (unary_op o) (v ∷ []))) (x.1 h) live (λ a v.
          sim_set m xs (Value a v ∷ held) g (unary_op o) (a ∷ []) (v ∷ []) (inl (inr live)) (inl (inl (refl, refl)), tt)))
          (λ e t s b. ap (unary_unsigned o) ((x.1 h).unsigned e t s b))
      layer (Expr-F.StepBefore p o x) h =
          value_sim _ _ _ _ (λ g. adds_then (g ∷ []) (pieces.count p o (pieces.piece emitting x.0) g) _ (adds_count p o (pieces.piece emitting x.0) (x.1 h).adds g) (λ w. adds_pure (g ∷ []) w.1))
          (λ xs held g live. counted xs held (pieces.count p o (pieces.piece emitting x.0) g) (meanings.count p o (meanings.meaning running x.0)) false (sim_count m p o (pieces.piece emitting x.0) (meanings.meaning running x.0) (x.1 h) xs held g live))
          (λ e t s b. (x.1 h).unsigned e t s b)
      layer (Expr-F.StepAfter p o x) h =
          value_sim _ _ _ _ (λ g. adds_then (g ∷ []) (pieces.count p o (pieces.piece emitting x.0) g) _ (adds_count p o (pieces.piece emitting x.0) (x.1 h).adds g) (λ w. adds_pure (g ∷ []) w.0))
          (λ xs held g live. counted xs held (pieces.count p o (pieces.piece emitting x.0) g) (meanings.count p o (meanings.meaning running x.0)) true (sim_count m p o (pieces.piece emitting x.0) (meanings.meaning running x.0) (x.1 h) xs held g live))
          (λ e t s b. (x.1 h).unsigned e t s b)
      layer (Expr-F.Binary p o x y) h =
          let both : (first_mark x.0 ≡ None) × (first_mark y.0 ≡ None) = both_none (first_mark x.0) (first_mark y.0) h in
          value_sim _ _ _ _ (λ g. adds_binary p o (pieces.piece emitting x.0) (pieces.piece emitting y.0) (x.1 both.0).adds (y.1 both.1).adds g)
          (λ xs held g live. sim_binary m p o (pieces.piece emitting x.0) (pieces.piece emitting y.0) (meanings.meaning running x.0) (meanings.meaning running y.0) (x.1 both.0) (y.1 both.1) xs held g live)
          (λ e t s b. ap (λ u. binary_unsigned o u ((pieces.piece emitting y.0).unsigned e.scope)) ((x.1 both.0).unsigned e t s b) ∙ ap (λ u. binary_unsigned o ((meanings.meaning running x.0).unsigned s) u) ((y.1 both.1).unsigned e t s b))
      layer (Expr-F.Choose p z x y) h =
          let first : (first_mark z.0 ≡ None) × (or_else (first_mark x.0) (first_mark y.0) ≡ None) = both_none (first_mark z.0) (or_else (first_mark x.0) (first_mark y.0)) h in
          let both : (first_mark x.0 ≡ None) × (first_mark y.0 ≡ None) = both_none (first_mark x.0) (first_mark y.0) first.1 in
          value_sim _ _ _ _ (λ g. adds_choose (pieces.piece emitting z.0) (pieces.piece emitting x.0) (pieces.piece emitting y.0) (z.1 first.0).adds (x.1 both.0).adds (y.1 both.1).adds g)
          (λ xs held g live. sim_choose m (pieces.piece emitting z.0) (pieces.piece emitting x.0) (pieces.piece emitting y.0) (meanings.meaning running z.0) (meanings.meaning running x.0) (meanings.meaning running y.0) (z.1 first.0) (x.1 both.0) (y.1 both.1) xs held g live)
          (λ e t s b. ap (λ u. u || (pieces.piece emitting y.0).unsigned e.scope) ((x.1 both.0).unsigned e t s b) ∙ ap (λ u. (meanings.meaning running x.0).unsigned s || u) ((y.1 both.1).unsigned e t s b))
      layer (Expr-F.Assign p o x y) h =
          let both : (first_mark x.0 ≡ None) × (first_mark y.0 ≡ None) = both_none (first_mark x.0) (first_mark y.0) h in
          value_sim _ _ _ _ (λ g. adds_assign p o (pieces.piece emitting x.0) (pieces.piece emitting y.0) (x.1 both.0).adds (y.1 both.1).adds g)
          (λ xs held g live. sim_assign m p o (pieces.piece emitting x.0) (pieces.piece emitting y.0) (meanings.meaning running x.0) (meanings.meaning running y.0) (x.1 both.0) (y.1 both.1) xs held g live)
          (λ e t s b. (x.1 both.0).unsigned e t s b)
      layer (Expr-F.Comma p x y) h =
          let both : (first_mark x.0 ≡ None) × (first_mark y.0 ≡ None) = both_none (first_mark x.0) (first_mark y.0) h in
          value_sim _ _ _ _ (λ g. adds_then (g ∷ []) ((pieces.piece emitting x.0).run g) _ ((x.1 both.0).adds.run g) (λ _. (y.1 both.1).adds.run g))
          (λ xs held g live. valued xs held g (pieces.piece emitting x.0) (meanings.meaning running x.0) (λ _. (pieces.piece emitting y.0).run g) (λ _. (meanings.meaning running y.0).run) (x.1 both.0) live (λ a v. (y.1 both.1).run xs (Value a v ∷ held) g (inr live)))
          (λ e t s b. (y.1 both.1).unsigned e t s b)
      layer (Expr-F.Address p x) h = record {
        adds = record { run = λ g. adds_pure (g ∷ []) none; find = (x.1 h).adds.find };
        run = λ xs held g live. sim_none m xs held;
        find = (x.1 h).find;
        unsigned = (x.1 h).unsigned;
        spelled = (x.1 h).spelled;
      }

      -- every expression without a begin or an end
      pub meaning_sim : (e : Expr) → first_mark e ≡ None → SimPiece m (pieces.piece emitting e) (meanings.meaning running e)
      meaning_sim =
          ind-Expr Whole (λ z y is.
          subst (λ (w : Expr-F Expr). Whole (roll-Expr w)) is (λ whole.
          subst (λ p. SimPiece m p (meanings.meaning running (roll-Expr (map-Expr Part Expr (λ e. e.0) y)))) (sym (fold-roll-Expr Piece (pieces.expr_step emitting) (map-Expr Part Expr (λ e. e.0) y)))
          (subst (λ q. SimPiece m (pieces.expr_step emitting (map-Expr Expr Piece (pieces.piece emitting) (map-Expr Part Expr (λ e. e.0) y))) q) (sym (fold-roll-Expr Meaning (meanings.expr_step running) (map-Expr Part Expr (λ e. e.0) y)))
          (layer y (sym (fold-roll-Expr First mark_step (map-Expr Part Expr (λ e. e.0) y)) ∙ whole)))))
