-- What the parts of every run keep, expressions, statements, calls and threads keep.
use Rattle.std.proofs.Common.{◌≡◌, ℕ, zero, suc, List, [], ◌∷◌, ◌++◌, Option, Some, None, Bool, false, map, refl, sym, ap, ◌∙◌, subst}
use Rattle.std.specs.Prelude.{◌||◌}
use Rattle.dg_base.specs.declared.Place.{Place}
use Rattle.dg_base.specs.Values.{value_of, is_true, truth_of}
use Rattle.axiom_model.specs.declared.Action.TheVariants.{Fence}
use Rattle.c_tree.specs.declared.expr.BinaryOp.{BinaryOp}
use Rattle.c_tree.specs.declared.expr.StepOp.{StepOp}
use Rattle.c_tree.specs.declared.expr.AssignOp.{AssignOp}
use Rattle.c_tree.specs.declared.expr.AssignOp.TheVariants.{Plain, With}
use Rattle.c_tree.specs.declared.expr.Expr.{Expr, fold-roll-Expr, ind-Expr, map-Expr}
use Rattle.c_tree.specs.declared.expr.Expr.TheOpen.{Expr-F}
use Rattle.c_tree.specs.declared.expr.Expr.TheViews.{roll-Expr}
use Rattle.c_tree.specs.Operators.{settles, step_op, unary_op, unary_unsigned, binary_unsigned, word_unsigned}
use Rattle.c_rules.specs.declared.builtin.Builtin.{Builtin}
use Rattle.c_rules.specs.declared.builtin.Builtin.TheVariants as b
use Rattle.c_rules.specs.Names.{Name, builtin_named}
use Rattle.run_model.specs.declared.state.Local.{Local}
use Rattle.run_model.specs.declared.state.Need.TheVariants.{Any}
use Rattle.run_model.specs.declared.state.Slot.{Slot}
use Rattle.run_model.specs.Steps.{State, Step, ◌>>◌, pure, look, make, begin_section, end_section, stop, fail, in_turn}
use Rattle.run_model.specs.Cells.{read, write, slot, unsigned_in, local_named}
use Rattle.run_model.specs.Calls.{Meaning, Setting, Context, no_other, function_named, function_in, lock_cell, unlock_cell, exit_thread, join, no_argument, argument, builtin_call}
use Rattle.run_model.specs.Meaning.{value, lvalue, operate, binary, assign, count, call, call_builtin, runs_of, result_unsigned, expr_step, meaning}
use Rattle.run_model.proofs.Kept.{Keeps, kept_then, kept_look, kept_cond, kept_stop, kept_fail, kept_begin, kept_finish_section, kept_read, kept_write, kept_slot, kept_lock, kept_unlock, kept_exit, kept_bool, kept_join, kept_operate}

-- a type that is made from two types which go by the locals alone
both_types : (o : Bool → Bool → Bool) (f g : State → Bool) (u w : List Local → Bool) → f ≡ (λ s. u s.locals) → g ≡ (λ s. w s.locals) → ◌≡◌ {A = State → Bool} (λ s. o (f s) (g s)) (λ s. o (u s.locals) (w s.locals))
both_types o f g u w e h =
    ap {B = State → Bool} (λ (z : State → Bool). λ s. o (z s) (g s)) e ∙ ap {B = State → Bool} (λ (z : State → Bool). λ s. o (u s.locals) (z s)) h

module _ (handle : ℕ) (P : (A : Type 0) → Step A → Type 0) (k : Keeps handle P) where
  -- a type that goes by the locals alone
  abbrev pub ByLocals : (State → Bool) → Type 0
  ByLocals f = (u : List Local → Bool) × (f ≡ (λ s. u s.locals))

  pub record KeptMeaning (m : Meaning) : Type 0 where
    pub run : P ℕ m.run
    pub find : P Slot m.find
    pub unsigned : ByLocals m.unsigned

  -- an expression with the proof that its meaning keeps the property
  abbrev pub Part : Context → Type 0
  Part cx = (e : Expr) × KeptMeaning (meaning cx e)

  -- each argument keeps the property
  abbrev pub KeptArguments : List Meaning → Type 0
  KeptArguments ms = (i : ℕ) → KeptMeaning (argument ms i)

  pub record KeptContext (cx : Context) : Type 0 where
    pub own : cx.setting.handle ≡ handle
    pub calls : (f : ℕ) (args : List ℕ) → P ℕ (cx.call f args)
    pub others : (n : Name) (ms : List Meaning) → KeptArguments ms → P ℕ (cx.setting.other n ms)

  -- where there is no other call
  pub kept_no_other : (g : Setting) → g.other ≡ no_other → (n : Name) (ms : List Meaning) → KeptArguments ms → P ℕ (g.other n ms)
  kept_no_other g only n ms h = subst (λ (o : Name → List Meaning → Step ℕ). P ℕ (o n ms)) (sym only) (kept_stop handle P k ℕ)

  kept_unsigned : (m : Meaning) → KeptMeaning m → P Bool (look m.unsigned)
  kept_unsigned m h = subst (λ (f : State → Bool). P Bool (look f)) (sym h.unsigned.1) (kept_look handle P k Bool (λ ls c d. h.unsigned.0 ls))

  kept_value : (f : State → Bool) (m : Step ℕ) → ByLocals f → P ℕ m → KeptMeaning (value f m)
  kept_value f m u p = record { run = p; find = kept_stop handle P k Slot; unsigned = u }

  kept_lvalue : (n : Option Name) (f : State → Bool) (m : Step Slot) → ByLocals f → P Slot m → KeptMeaning (lvalue n f m)
  kept_lvalue n f m u p = record { run = k.of_then Slot ℕ m read p (kept_read handle P k); find = p; unsigned = u }

  kept_pure : (v : ℕ) → P ℕ (pure v)
  kept_pure v = k.of_pure ℕ v

  -- ---- operators

  kept_binary : (p : Place) (o : BinaryOp) (m n : Meaning) → KeptMeaning m → KeptMeaning n → P ℕ (binary p o m n)
  kept_binary p o m n h i =
      k.of_then ℕ ℕ m.run _ h.run (λ x.
      kept_cond handle P k ℕ (settles o x) (pure (truth_of (is_true x))) _ (kept_pure (truth_of (is_true x)))
      (k.of_then ℕ ℕ n.run _ i.run (λ y.
      k.of_then Bool ℕ (look m.unsigned) _ (kept_unsigned m h) (λ u.
      k.of_then Bool ℕ (look n.unsigned) _ (kept_unsigned n i) (λ w.
      kept_operate handle P k p o u w x y)))))

  kept_stored : (c : Slot) (v : ℕ) → P ℕ (write c v >> pure v)
  kept_stored c v = kept_then handle P k (write c v) (pure v) (kept_write handle P k c v) (kept_pure v)

  kept_assign : (p : Place) (o : AssignOp) (m n : Meaning) → KeptMeaning m → KeptMeaning n → P ℕ (assign p o m n)
  kept_assign p Plain m n h i = k.of_then Slot ℕ m.find _ h.find (λ c. k.of_then ℕ ℕ n.run _ i.run (λ v. kept_stored c v))
  kept_assign p (With o) m n h i =
      k.of_then Slot ℕ m.find _ h.find (λ c.
      k.of_then ℕ ℕ (read c) _ (kept_read handle P k c) (λ old.
      k.of_then ℕ ℕ n.run _ i.run (λ v.
      k.of_then Bool ℕ (look m.unsigned) _ (kept_unsigned m h) (λ u.
      k.of_then Bool ℕ (look n.unsigned) _ (kept_unsigned n i) (λ w.
      k.of_then ℕ ℕ (operate p o u w old v) _ (kept_operate handle P k p o u w old v) (λ new. kept_stored c new))))))

  kept_count : (p : Place) (o : StepOp) (m : Meaning) → KeptMeaning m → P (ℕ × ℕ) (count p o m)
  kept_count p o m h =
      k.of_then Slot (ℕ × ℕ) m.find _ h.find (λ c.
      k.of_then ℕ (ℕ × ℕ) (read c) _ (kept_read handle P k c) (λ old.
      k.of_then Bool (ℕ × ℕ) (look m.unsigned) _ (kept_unsigned m h) (λ u.
      k.of_then ℕ (ℕ × ℕ) (operate p (step_op o) u false old 1) _ (kept_operate handle P k p (step_op o) u false old 1) (λ new.
      kept_then handle P k (write c new) (pure (old, new)) (kept_write handle P k c new) (k.of_pure (ℕ × ℕ) (old, new))))))

  -- ---- calls

  module _ (cx : Context) (keeps : KeptContext cx) where
    abbrev parts : List (Part cx) → List Meaning
    parts ys = map (meaning cx) (map (λ e. e.0) ys)

    kept_no_argument : KeptMeaning no_argument
    kept_no_argument = record { run = kept_pure 0; find = kept_stop handle P k Slot; unsigned = (λ ls. false, refl) }

    kept_argument : (ys : List (Part cx)) (i : ℕ) → KeptMeaning (argument (parts ys) i)
    kept_argument [] zero = kept_no_argument
    kept_argument [] (suc i) = kept_no_argument
    kept_argument (y ∷ ys) zero = y.1
    kept_argument (y ∷ ys) (suc i) = kept_argument ys i

    kept_in_turn : (done : List ℕ) (ys : List (Part cx)) → P (List ℕ) (in_turn done (runs_of (parts ys)))
    kept_in_turn done [] = k.of_pure (List ℕ) done
    kept_in_turn done (y ∷ ys) = k.of_then ℕ (List ℕ) (meaning cx y.0).run (λ v. in_turn (done ++ v ∷ []) (runs_of (parts ys))) y.1.run (λ v. kept_in_turn (done ++ v ∷ []) ys)

    kept_builtin : (p : Place) (c : Builtin) (ys : List (Part cx)) → P ℕ (builtin_call cx.setting p c (parts ys))
    kept_builtin p b.PthreadCreate ys =
        k.of_then Slot ℕ (argument (parts ys) 0).find _ (kept_argument ys 0).find (λ c.
        k.of_then ℕ ℕ (argument (parts ys) 3).run _ (kept_argument ys 3).run (λ v.
        k.of_create cx.setting keeps.own c (function_in cx.setting (argument (parts ys) 2).spelled) v))
    kept_builtin p b.PthreadJoin ys = k.of_then ℕ ℕ (argument (parts ys) 0).run join (kept_argument ys 0).run (kept_join handle P k)
    kept_builtin p b.PthreadExit ys = kept_then handle P k (argument (parts ys) 0).run exit_thread (kept_argument ys 0).run (kept_exit handle P k ℕ)
    kept_builtin p b.Exit ys = kept_then handle P k (argument (parts ys) 0).run stop (kept_argument ys 0).run (kept_stop handle P k ℕ)
    kept_builtin p b.Abort ys = kept_stop handle P k ℕ
    kept_builtin p b.Lock ys =
        k.of_then Slot ℕ (argument (parts ys) 0).find _ (kept_argument ys 0).find (λ c. kept_then handle P k (lock_cell c) (pure 0) (kept_lock handle P k c) (kept_pure 0))
    kept_builtin p b.Unlock ys =
        k.of_then Slot ℕ (argument (parts ys) 0).find _ (kept_argument ys 0).find (λ c. kept_then handle P k (unlock_cell c) (pure 0) (kept_unlock handle P k c) (kept_pure 0))
    kept_builtin p b.Init ys =
        k.of_then Slot ℕ (argument (parts ys) 0).find _ (kept_argument ys 0).find (λ c. kept_then handle P k (unlock_cell c) (pure 0) (kept_unlock handle P k c) (kept_pure 0))
    kept_builtin p b.Destroy ys = kept_then handle P k (argument (parts ys) 0).find (pure 0) (kept_argument ys 0).find (kept_pure 0)
    kept_builtin p b.Assert ys =
        k.of_then ℕ ℕ (argument (parts ys) 0).run _ (kept_argument ys 0).run (λ v. kept_cond handle P k ℕ (is_true v) (pure 0) (fail p) (kept_pure 0) (kept_fail handle P k ℕ p))
    kept_builtin p b.Assume ys =
        k.of_then ℕ ℕ (argument (parts ys) 0).run _ (kept_argument ys 0).run (λ v. kept_cond handle P k ℕ (is_true v) (pure 0) stop (kept_pure 0) (kept_stop handle P k ℕ))
    kept_builtin p b.AssertFail ys = kept_fail handle P k ℕ p
    kept_builtin p b.ReachError ys = kept_fail handle P k ℕ p
    kept_builtin p b.AnyInt ys = k.of_taking Any
    kept_builtin p b.AnyUint ys = k.of_taking Any
    kept_builtin p b.AnyBool ys = kept_bool handle P k
    kept_builtin p b.Begin ys = kept_then handle P k begin_section (pure 0) (kept_begin handle P k) (kept_pure 0)
    kept_builtin p b.Finish ys = kept_then handle P k end_section (pure 0) (kept_finish_section handle P k) (kept_pure 0)
    kept_builtin p b.Synchronize ys = kept_then handle P k (make Fence) (pure 0) (k.of_action Fence tt) (kept_pure 0)

    kept_call_builtin : (p : Place) (n : Name) (o : Option Builtin) (ys : List (Part cx)) → P ℕ (call_builtin cx.setting p n o (parts ys))
    kept_call_builtin p n None ys = keeps.others n (parts ys) (kept_argument ys)
    kept_call_builtin p n (Some c) ys = kept_builtin p c ys

    kept_call : (p : Place) (n : Name) (ys : List (Part cx)) (o : Option ℕ) → P ℕ (call cx p n (parts ys) o)
    kept_call p n ys (Some f) = k.of_then (List ℕ) ℕ (in_turn [] (runs_of (parts ys))) (cx.call f) (kept_in_turn [] ys) (keeps.calls f)
    kept_call p n ys None = kept_call_builtin p n (builtin_named n) ys

    -- ---- expressions

    kept_layer : (y : Expr-F (Part cx)) → KeptMeaning (expr_step cx (map-Expr Expr Meaning (meaning cx) (map-Expr (Part cx) Expr (λ e. e.0) y)))
    kept_layer (Expr-F.Name p n) = kept_lvalue (Some n) _ _ (λ ls. unsigned_in cx.setting.shared n ls (local_named ls n), refl) (kept_slot handle P k cx.setting.shared p n 0)
    kept_layer (Expr-F.Number p v u) = kept_value _ _ (λ ls. u, refl) (kept_pure v)
    kept_layer (Expr-F.Text p) = kept_value _ _ (λ ls. false, refl) (kept_pure 0)
    kept_layer (Expr-F.Bracket p e) = e.1
    kept_layer (Expr-F.Index p n e) =
        kept_lvalue None _ _ (λ ls. unsigned_in cx.setting.shared n ls (local_named ls n), refl)
        (k.of_then ℕ Slot (meaning cx e.0).run (slot cx.setting.shared p n) e.1.run (kept_slot handle P k cx.setting.shared p n))
    kept_layer (Expr-F.Call p n es) = kept_value _ _ (λ ls. result_unsigned cx.setting n (function_named cx.setting n), refl) (kept_call p n es (function_named cx.setting n))
    kept_layer (Expr-F.Cast p w e) = kept_value _ _ (λ ls. word_unsigned w, refl) e.1.run
    kept_layer (Expr-F.Unary p o e) =
        kept_value _ _ (λ ls. unary_unsigned o (e.1.unsigned.0 ls), ap {B = State → Bool} (λ (f : State → Bool). λ s. unary_unsigned o (f s)) e.1.unsigned.1)
        (k.of_then ℕ ℕ (meaning cx e.0).run (λ v. pure (value_of (unary_op o) (v ∷ []))) e.1.run (λ v. kept_pure (value_of (unary_op o) (v ∷ []))))
    kept_layer (Expr-F.StepBefore p o e) =
        kept_value _ _ e.1.unsigned (k.of_then (ℕ × ℕ) ℕ (count p o (meaning cx e.0)) (λ w. pure w.1) (kept_count p o (meaning cx e.0) e.1) (λ w. kept_pure w.1))
    kept_layer (Expr-F.StepAfter p o e) =
        kept_value _ _ e.1.unsigned (k.of_then (ℕ × ℕ) ℕ (count p o (meaning cx e.0)) (λ w. pure w.0) (kept_count p o (meaning cx e.0) e.1) (λ w. kept_pure w.0))
    kept_layer (Expr-F.Binary p o e f) =
        kept_value _ _
        (λ ls. binary_unsigned o (e.1.unsigned.0 ls) (f.1.unsigned.0 ls), both_types (binary_unsigned o) _ _ _ _ e.1.unsigned.1 f.1.unsigned.1)
        (kept_binary p o (meaning cx e.0) (meaning cx f.0) e.1 f.1)
    kept_layer (Expr-F.Choose p t e f) =
        kept_value _ _
        (λ ls. e.1.unsigned.0 ls || f.1.unsigned.0 ls, both_types (λ u w. u || w) _ _ _ _ e.1.unsigned.1 f.1.unsigned.1)
        (k.of_then ℕ ℕ (meaning cx t.0).run _ t.1.run (λ x. kept_cond handle P k ℕ (is_true x) (meaning cx e.0).run (meaning cx f.0).run e.1.run f.1.run))
    kept_layer (Expr-F.Assign p o e f) = kept_value _ _ e.1.unsigned (kept_assign p o (meaning cx e.0) (meaning cx f.0) e.1 f.1)
    kept_layer (Expr-F.Comma p e f) = kept_value _ _ f.1.unsigned (kept_then handle P k (meaning cx e.0).run (meaning cx f.0).run e.1.run f.1.run)
    kept_layer (Expr-F.Address p e) = record { run = kept_pure 0; find = e.1.find; unsigned = e.1.unsigned }

    -- every expression keeps the property
    pub kept_meaning : (e : Expr) → KeptMeaning (meaning cx e)
    kept_meaning =
        ind-Expr (λ e. KeptMeaning (meaning cx e)) (λ x y is.
        subst (λ (z : Expr-F Expr). KeptMeaning (meaning cx (roll-Expr z))) is
        (subst KeptMeaning (sym (fold-roll-Expr Meaning (expr_step cx) (map-Expr (Part cx) Expr (λ e. e.0) y))) (kept_layer y)))
