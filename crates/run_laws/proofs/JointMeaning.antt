-- What the parts of two runs relate, expressions do.
use Rattle.std.proofs.Common.{◌≡◌, ℕ, zero, suc, List, [], ◌∷◌, ◌++◌, Option, Some, None, Bool, true, false, map, refl, sym, ap, ◌∙◌, subst}
use Rattle.std.specs.Prelude.{◌||◌, ◌&&◌, nat_eq}
use Rattle.dg_base.specs.declared.Place.{Place}
use Rattle.dg_base.specs.Values.{value_of, is_true, truth_of}
use Rattle.axiom_model.specs.declared.Action.TheVariants.{Fence}
use Rattle.c_tree.specs.declared.expr.BinaryOp.{BinaryOp}
use Rattle.c_tree.specs.declared.expr.StepOp.{StepOp}
use Rattle.c_tree.specs.declared.expr.AssignOp.{AssignOp}
use Rattle.c_tree.specs.declared.expr.AssignOp.TheVariants.{Plain, With}
use Rattle.c_tree.specs.declared.expr.Expr.{Expr, fold-roll-Expr, ind-Expr, map-Expr}
use Rattle.c_tree.specs.declared.expr.Expr.TheOpen.{Expr-F}
use Rattle.c_tree.specs.declared.expr.Expr.TheViews.{roll-Expr}
use Rattle.c_tree.specs.Operators.{settles, step_op, divides, unary_op, unary_unsigned, binary_op, binary_unsigned, word_unsigned}
use Rattle.c_rules.specs.declared.builtin.Builtin.{Builtin}
use Rattle.c_rules.specs.declared.builtin.Builtin.TheVariants as b
use Rattle.c_rules.specs.Names.{Name, builtin_named}
use Rattle.run_model.specs.declared.state.Local.{Local}
use Rattle.run_model.specs.declared.state.Slot.{Slot}
use Rattle.run_model.specs.Steps.{State, Step, ◌>>=◌, ◌>>◌, pure, look, make, begin_section, end_section, stop, fail, in_turn}
use Rattle.run_model.specs.Cells.{read, write, slot, unsigned_in, local_named}
use Rattle.run_model.specs.Calls.{Meaning, Context, function_named, function_in, create, lock_cell, unlock_cell, exit_thread, join, no_argument, argument, builtin_call}
use Rattle.run_model.specs.Meaning.{value, lvalue, operate, binary, assign, count, call, call_builtin, runs_of, result_unsigned, expr_step, meaning}
use Rattle.run_laws.specs.Leaves.{Leaf, in_all, leaves, leaves_step}
use Rattle.run_laws.proofs.Joint.{Two, one, two, Values, anything, Words, Known, known_left, known_right, words-append, Closed, Premised, Also, Carries, still, both_then, both_look, both_cond}

module _ (g : Two) (v : Values) (c : Closed v) (R : Premised) (k : Carries g v R) where
  -- whatever is known
  abbrev Always : (A : Type 0) → (A → Type 0) → Step A → Step A → Type 0
  Always A Q m n = R (Unit {0}) A Q m n

  pub record Meets (m n : Meaning) : Type 0 where
    pub run : Always ℕ v.word m.run n.run
    pub find : Always Slot v.cell m.find n.find
    pub unsigned : List Local → Bool
    pub left : m.unsigned ≡ (λ s. unsigned s.locals)
    pub right : n.unsigned ≡ (λ s. unsigned s.locals)
    pub spelled : m.spelled ≡ n.spelled

  types_meet : (m n : Meaning) → Meets m n → Always Bool anything (look m.unsigned) (look n.unsigned)
  types_meet m n h =
      let plain : Always Bool anything (look (λ s. h.unsigned s.locals)) (look (λ s. h.unsigned s.locals)) = both_look g v R k (Unit {0}) Bool anything h.unsigned (λ ls _. tt) in
      subst (λ (f : State → Bool). Always Bool anything (look f) (look n.unsigned)) (sym h.left)
      (subst (λ (f : State → Bool). Always Bool anything (look (λ s. h.unsigned s.locals)) (look f)) (sym h.right) plain)

  values_meet : (u : List Local → Bool) (m n : Step ℕ) → Always ℕ v.word m n → Meets (value (λ s. u s.locals) m) (value (λ s. u s.locals) n)
  values_meet u m n p = record { run = p; find = k.of_stop Slot v.cell; unsigned = u; left = refl; right = refl; spelled = refl }

  -- with types that go by the locals alone
  typed_meet : (u : List Local → Bool) (f h : State → Bool) (m n : Step ℕ) → f ≡ (λ s. u s.locals) → h ≡ (λ s. u s.locals) → Always ℕ v.word m n → Meets (value f m) (value h n)
  typed_meet u f h m n d e p = record { run = p; find = k.of_stop Slot v.cell; unsigned = u; left = d; right = e; spelled = refl }

  lvalues_meet : (o : Option Name) (u : List Local → Bool) (m n : Step Slot) → Always Slot v.cell m n → Meets (lvalue o (λ s. u s.locals) m) (lvalue o (λ s. u s.locals) n)
  lvalues_meet o u m n p = record { run = k.of_then _ Slot ℕ v.cell v.word m n read read p (λ s. k.of_read _ s (λ z. z.last)); find = p; unsigned = u; left = refl; right = refl; spelled = refl }

  gives : (C : Type 0) (x : ℕ) → (C → v.word x) → R C ℕ v.word (pure x) (pure x)
  gives C x h = k.of_pure C ℕ v.word x h

  gives_zero : (C : Type 0) → R C ℕ v.word (pure 0) (pure 0)
  gives_zero C = gives C 0 (λ _. c.zero_word)

  truths : (b : Bool) → v.word (truth_of b)
  truths true = c.one_word
  truths false = c.zero_word

  -- ---- operators

  operate_meets : (C : Type 0) (p : Place) (o : BinaryOp) (u w : Bool) (x y : ℕ) → (C → v.word x) → (C → v.word y) → R C ℕ v.word (operate p o u w x y) (operate p o u w x y)
  operate_meets C p o u w x y h i =
      both_cond g v R k C ℕ v.word (divides o && nat_eq y 0) (fail p) (pure (value_of (binary_op o u w) (x ∷ y ∷ []))) (fail p) (pure (value_of (binary_op o u w) (x ∷ y ∷ [])))
      (still g v R k (k.of_fail ℕ v.word p)) (gives C (value_of (binary_op o u w) (x ∷ y ∷ [])) (λ z. c.operators (binary_op o u w) (x ∷ y ∷ []) (h z, (i z, tt))))

  binary_meets : (p : Place) (o : BinaryOp) (m n f h : Meaning) → Meets m f → Meets n h → Always ℕ v.word (binary p o m n) (binary p o f h)
  binary_meets p o m n f h d e =
      k.of_then _ ℕ ℕ v.word v.word m.run f.run _ _ d.run (λ x.
      both_cond g v R k _ ℕ v.word (settles o x) (pure (truth_of (is_true x))) _ (pure (truth_of (is_true x))) _ (gives _ (truth_of (is_true x)) (λ _. truths (is_true x)))
      (k.of_then _ ℕ ℕ v.word v.word n.run h.run _ _ (still g v R k e.run) (λ y.
      k.of_then _ Bool ℕ anything v.word (look m.unsigned) (look f.unsigned) _ _ (still g v R k (types_meet m f d)) (λ u.
      k.of_then _ Bool ℕ anything v.word (look n.unsigned) (look h.unsigned) _ _ (still g v R k (types_meet n h e)) (λ w.
      operate_meets _ p o u w x y (λ z. z.others.others.others.last) (λ z. z.others.others.last))))))

  stored_meets : (C : Type 0) (s : Slot) (x : ℕ) → (C → v.cell s) → (C → v.word x) → R C ℕ v.word (write s x >> pure x) (write s x >> pure x)
  stored_meets C s x h i = both_then g v R k C anything v.word (write s x) (write s x) (pure x) (pure x) (k.of_write C s x h i) (gives C x i)

  assign_meets : (p : Place) (o : AssignOp) (m n f h : Meaning) → Meets m f → Meets n h → Always ℕ v.word (assign p o m n) (assign p o f h)
  assign_meets p Plain m n f h d e =
      k.of_then _ Slot ℕ v.cell v.word m.find f.find _ _ d.find (λ s.
      k.of_then _ ℕ ℕ v.word v.word n.run h.run _ _ (still g v R k e.run) (λ x. stored_meets _ s x (λ z. z.others.last) (λ z. z.last)))
  assign_meets p (With o) m n f h d e =
      k.of_then _ Slot ℕ v.cell v.word m.find f.find _ _ d.find (λ s.
      k.of_then _ ℕ ℕ v.word v.word (read s) (read s) _ _ (k.of_read _ s (λ z. z.last)) (λ old.
      k.of_then _ ℕ ℕ v.word v.word n.run h.run _ _ (still g v R k e.run) (λ x.
      k.of_then _ Bool ℕ anything v.word (look m.unsigned) (look f.unsigned) _ _ (still g v R k (types_meet m f d)) (λ u.
      k.of_then _ Bool ℕ anything v.word (look n.unsigned) (look h.unsigned) _ _ (still g v R k (types_meet n h e)) (λ w.
      k.of_then _ ℕ ℕ v.word v.word (operate p o u w old x) (operate p o u w old x) _ _ (operate_meets _ p o u w old x (λ z. z.others.others.others.last) (λ z. z.others.others.last)) (λ new.
      stored_meets _ s new (λ z. z.others.others.others.others.others.last) (λ z. z.last)))))))

  abbrev BothWords : ℕ × ℕ → Type 0
  BothWords w = v.word w.0 × v.word w.1

  count_meets : (p : Place) (o : StepOp) (m f : Meaning) → Meets m f → Always (ℕ × ℕ) BothWords (count p o m) (count p o f)
  count_meets p o m f d =
      k.of_then _ Slot (ℕ × ℕ) v.cell BothWords m.find f.find _ _ d.find (λ s.
      k.of_then _ ℕ (ℕ × ℕ) v.word BothWords (read s) (read s) _ _ (k.of_read _ s (λ z. z.last)) (λ old.
      k.of_then _ Bool (ℕ × ℕ) anything BothWords (look m.unsigned) (look f.unsigned) _ _ (still g v R k (types_meet m f d)) (λ u.
      k.of_then _ ℕ (ℕ × ℕ) v.word BothWords (operate p (step_op o) u false old 1) (operate p (step_op o) u false old 1) _ _ (operate_meets _ p (step_op o) u false old 1 (λ z. z.others.last) (λ _. c.one_word)) (λ new.
      both_then g v R k _ anything BothWords (write s new) (write s new) (pure (old, new)) (pure (old, new)) (k.of_write _ s new (λ z. z.others.others.others.last) (λ z. z.last))
      (k.of_pure _ (ℕ × ℕ) BothWords (old, new) (λ z. (z.others.others.last, z.last)))))))

  -- ---- calls

  module _ (called other : ℕ → List ℕ → Step ℕ) (calls : (f : ℕ) (args : List ℕ) → R (Words v args) ℕ v.word (called f args) (other f args)) where
    abbrev pub cx : Context
    cx = record { setting = one g; call = called }

    abbrev pub cy : Context
    cy = record { setting = two g; call = other }

    abbrev pub ExprMeets : Expr → Type 0
    ExprMeets e = Known v (leaves e) → Meets (meaning cx e) (meaning cy e)

    abbrev Part : Type 0
    Part = (e : Expr) × ExprMeets e

    abbrev exprs : List Part → List Expr
    exprs ys = map (λ e. e.0) ys

    abbrev lefts : List Part → List Meaning
    lefts ys = map (meaning cx) (exprs ys)

    abbrev rights : List Part → List Meaning
    rights ys = map (meaning cy) (exprs ys)

    abbrev AllKnown : List Part → Type 0
    AllKnown ys = Known v (in_all (map leaves (exprs ys)))

    no_argument_meets : Meets no_argument no_argument
    no_argument_meets = values_meet (λ ls. false) (pure 0) (pure 0) (gives_zero (Unit {0}))

    argument_meets : (ys : List Part) → AllKnown ys → (i : ℕ) → Meets (argument (lefts ys) i) (argument (rights ys) i)
    argument_meets [] h zero = no_argument_meets
    argument_meets [] h (suc i) = no_argument_meets
    argument_meets (y ∷ ys) h zero = y.1 (known_left v (leaves y.0) (in_all (map leaves (exprs ys))) h)
    argument_meets (y ∷ ys) h (suc i) = argument_meets ys (known_right v (leaves y.0) (in_all (map leaves (exprs ys))) h) i

    in_turn_meets : (C : Type 0) (done : List ℕ) → (C → Words v done) → (ys : List Part) → AllKnown ys → R C (List ℕ) (Words v) (in_turn done (runs_of (lefts ys))) (in_turn done (runs_of (rights ys)))
    in_turn_meets C done words [] h = k.of_pure C (List ℕ) (Words v) done words
    in_turn_meets C done words (y ∷ ys) h =
        k.of_then C ℕ (List ℕ) v.word (Words v) (meaning cx y.0).run (meaning cy y.0).run (λ x. in_turn (done ++ x ∷ []) (runs_of (lefts ys))) (λ x. in_turn (done ++ x ∷ []) (runs_of (rights ys)))
        (still g v R k (y.1 (known_left v (leaves y.0) (in_all (map leaves (exprs ys))) h)).run)
        (λ x. in_turn_meets (Also C (v.word x)) (done ++ x ∷ []) (λ z. words-append v done (x ∷ []) (words z.others) (z.last, tt)) ys (known_right v (leaves y.0) (in_all (map leaves (exprs ys))) h))

    -- a step behind an argument's evaluation, and one behind the finding of its cell
    behind_run : (C : Type 0) (ys : List Part) → AllKnown ys → (i : ℕ) (f h : ℕ → Step ℕ) → ((x : ℕ) → R (Also C (v.word x)) ℕ v.word (f x) (h x)) → R C ℕ v.word ((argument (lefts ys) i).run >>= f) ((argument (rights ys) i).run >>= h)
    behind_run C ys known i f h p = k.of_then C ℕ ℕ v.word v.word (argument (lefts ys) i).run (argument (rights ys) i).run f h (still g v R k (argument_meets ys known i).run) p

    behind_find : (ys : List Part) → AllKnown ys → (f h : Slot → Step ℕ) → ((s : Slot) → R (Also (Unit {0}) (v.cell s)) ℕ v.word (f s) (h s)) → Always ℕ v.word ((argument (lefts ys) 0).find >>= f) ((argument (rights ys) 0).find >>= h)
    behind_find ys known f h p = k.of_then (Unit {0}) Slot ℕ v.cell v.word (argument (lefts ys) 0).find (argument (rights ys) 0).find f h (argument_meets ys known 0).find p

    then_zero : (C : Type 0) (m : Step (Unit {0})) → R C (Unit {0}) anything m m → R C ℕ v.word (m >> pure 0) (m >> pure 0)
    then_zero C m p = both_then g v R k C anything v.word m m (pure 0) (pure 0) p (gives_zero C)

    create_meets : (C : Type 0) (s : Slot) (n o : Option Name) (x : ℕ) → n ≡ o → (C → v.cell s) → (C → v.word x) → R C ℕ v.word (create (one g) s (function_in (one g) n) x) (create (two g) s (function_in (two g) o) x)
    create_meets C s n o x e h i = subst (λ (o : Option Name). R C ℕ v.word (create (one g) s (function_in (one g) n) x) (create (two g) s (function_in (two g) o) x)) e (k.of_create C s n x h i)

    builtin_meets : (p : Place) (n : Name) (d : Builtin) (ys : List Part) → v.calls n → builtin_named n ≡ Some d → AllKnown ys → Always ℕ v.word (builtin_call (one g) p d (lefts ys)) (builtin_call (two g) p d (rights ys))
    builtin_meets p n b.PthreadCreate ys c e h =
        behind_find ys h _ _ (λ s.
        behind_run _ ys h 3 _ _ (λ x.
        create_meets _ s (argument (lefts ys) 2).spelled (argument (rights ys) 2).spelled x (argument_meets ys h 2).spelled (λ z. z.others.last) (λ z. z.last)))
    builtin_meets p n b.PthreadJoin ys c e h = behind_run _ ys h 0 join join (λ x. k.of_join _ x (λ z. z.last))
    builtin_meets p n b.PthreadExit ys c e h = behind_run _ ys h 0 (λ _. exit_thread) (λ _. exit_thread) (λ _. still g v R k k.of_exit)
    builtin_meets p n b.Exit ys c e h = behind_run _ ys h 0 (λ _. stop) (λ _. stop) (λ _. still g v R k (k.of_stop ℕ v.word))
    builtin_meets p n b.Abort ys c e h = k.of_stop ℕ v.word
    builtin_meets p n b.Lock ys c e h = behind_find ys h _ _ (λ s. then_zero _ (lock_cell s) (k.of_lock _ s (λ z. z.last)))
    builtin_meets p n b.Unlock ys c e h = behind_find ys h _ _ (λ s. then_zero _ (unlock_cell s) (k.of_unlock _ s (λ z. z.last)))
    builtin_meets p n b.Init ys c e h = behind_find ys h _ _ (λ s. then_zero _ (unlock_cell s) (k.of_unlock _ s (λ z. z.last)))
    builtin_meets p n b.Destroy ys c e h = behind_find ys h (λ _. pure 0) (λ _. pure 0) (λ _. gives_zero _)
    builtin_meets p n b.Assert ys c e h =
        behind_run _ ys h 0 _ _ (λ x. both_cond g v R k _ ℕ v.word (is_true x) (pure 0) (fail p) (pure 0) (fail p) (gives_zero _) (still g v R k (k.of_fail ℕ v.word p)))
    builtin_meets p n b.Assume ys c e h =
        behind_run _ ys h 0 _ _ (λ x. both_cond g v R k _ ℕ v.word (is_true x) (pure 0) stop (pure 0) stop (gives_zero _) (still g v R k (k.of_stop ℕ v.word)))
    builtin_meets p n b.AssertFail ys c e h = k.of_fail ℕ v.word p
    builtin_meets p n b.ReachError ys c e h = k.of_fail ℕ v.word p
    builtin_meets p n b.AnyInt ys c e h = k.of_any
    builtin_meets p n b.AnyUint ys c e h = k.of_any
    builtin_meets p n b.AnyBool ys c e h = k.of_bool
    builtin_meets p n b.Begin ys c e h = then_zero _ begin_section (k.of_begin n c e)
    builtin_meets p n b.Finish ys c e h = then_zero _ end_section (k.of_end n c e)
    builtin_meets p n b.Synchronize ys c e h = then_zero _ (make Fence) k.of_fence

    call_builtin_meets : (p : Place) (n : Name) (o : Option Builtin) (ys : List Part) → v.calls n → builtin_named n ≡ o → AllKnown ys → Always ℕ v.word (call_builtin (one g) p n o (lefts ys)) (call_builtin (two g) p n o (rights ys))
    call_builtin_meets p n None ys called e h = k.of_stop ℕ v.word
    call_builtin_meets p n (Some d) ys called e h = builtin_meets p n d ys called e h

    call_meets : (p : Place) (n : Name) (o : Option ℕ) (ys : List Part) → v.calls n → AllKnown ys → Always ℕ v.word (call cx p n (lefts ys) o) (call cy p n (rights ys) o)
    call_meets p n (Some f) ys name h =
        k.of_then _ (List ℕ) ℕ (Words v) v.word (in_turn [] (runs_of (lefts ys))) (in_turn [] (runs_of (rights ys))) (called f) (other f) (in_turn_meets _ [] (λ _. tt) ys h)
        (λ args. k.of_more (Words v args) _ ℕ v.word (called f args) (other f args) (λ z. z.last) (calls f args))
    call_meets p n None ys name h = call_builtin_meets p n (builtin_named n) ys name refl h

    -- ---- expressions

    abbrev Layer : Expr-F Part → Type 0
    Layer y =
        Known v (leaves_step (map-Expr Expr (List Leaf) leaves (map-Expr Part Expr (λ e. e.0) y)))
        → Meets (expr_step cx (map-Expr Expr Meaning (meaning cx) (map-Expr Part Expr (λ e. e.0) y))) (expr_step cy (map-Expr Expr Meaning (meaning cy) (map-Expr Part Expr (λ e. e.0) y)))

    unary_type : (o : Bool → Bool) (m : State → Bool) (u : List Local → Bool) → m ≡ (λ s. u s.locals) → ◌≡◌ {A = State → Bool} (λ s. o (m s)) (λ s. o (u s.locals))
    unary_type o m u e = ap {B = State → Bool} (λ (z : State → Bool). λ s. o (z s)) e

    both_types : (o : Bool → Bool → Bool) (f h : State → Bool) (u w : List Local → Bool) → f ≡ (λ s. u s.locals) → h ≡ (λ s. w s.locals) → ◌≡◌ {A = State → Bool} (λ s. o (f s) (h s)) (λ s. o (u s.locals) (w s.locals))
    both_types o f h u w e i = ap {B = State → Bool} (λ (z : State → Bool). λ s. o (z s) (h s)) e ∙ ap {B = State → Bool} (λ (z : State → Bool). λ s. o (u s.locals) (z s)) i

    layer : (y : Expr-F Part) → Layer y
    layer (Expr-F.Name p n) h = lvalues_meet (Some n) (λ ls. unsigned_in g.shared n ls (local_named ls n)) (slot g.shared p n 0) (slot g.shared p n 0) (k.of_slot p n 0)
    layer (Expr-F.Number p x u) h = values_meet (λ ls. u) (pure x) (pure x) (gives _ x (λ _. h.0))
    layer (Expr-F.Text p) h = values_meet (λ ls. false) (pure 0) (pure 0) (gives_zero _)
    layer (Expr-F.Bracket p e) h = e.1 h
    layer (Expr-F.Index p n e) h =
        lvalues_meet None (λ ls. unsigned_in g.shared n ls (local_named ls n)) _ _
        (k.of_then _ ℕ Slot v.word v.cell (meaning cx e.0).run (meaning cy e.0).run (slot g.shared p n) (slot g.shared p n) (e.1 h).run (λ i. still g v R k (k.of_slot p n i)))
    layer (Expr-F.Call p n es) h =
        values_meet (λ ls. result_unsigned (one g) n (function_named (one g) n)) _ _ (call_meets p n (function_named (one g) n) es h.0 h.1)
    layer (Expr-F.Cast p w e) h = values_meet (λ ls. word_unsigned w) _ _ (e.1 h).run
    layer (Expr-F.Unary p o e) h =
        let it = e.1 h in
        typed_meet (λ ls. unary_unsigned o (it.unsigned ls)) _ _ _ _ (unary_type (unary_unsigned o) _ it.unsigned it.left) (unary_type (unary_unsigned o) _ it.unsigned it.right)
        (k.of_then _ ℕ ℕ v.word v.word (meaning cx e.0).run (meaning cy e.0).run (λ x. pure (value_of (unary_op o) (x ∷ []))) (λ x. pure (value_of (unary_op o) (x ∷ []))) it.run
        (λ x. gives _ (value_of (unary_op o) (x ∷ [])) (λ z. c.operators (unary_op o) (x ∷ []) (z.last, tt))))
    layer (Expr-F.StepBefore p o e) h =
        let it = e.1 h in
        typed_meet it.unsigned _ _ _ _ it.left it.right
        (k.of_then _ (ℕ × ℕ) ℕ BothWords v.word (count p o (meaning cx e.0)) (count p o (meaning cy e.0)) (λ w. pure w.1) (λ w. pure w.1) (count_meets p o _ _ it) (λ w. gives _ w.1 (λ z. z.last.1)))
    layer (Expr-F.StepAfter p o e) h =
        let it = e.1 h in
        typed_meet it.unsigned _ _ _ _ it.left it.right
        (k.of_then _ (ℕ × ℕ) ℕ BothWords v.word (count p o (meaning cx e.0)) (count p o (meaning cy e.0)) (λ w. pure w.0) (λ w. pure w.0) (count_meets p o _ _ it) (λ w. gives _ w.0 (λ z. z.last.0)))
    layer (Expr-F.Binary p o e f) h =
        let it = e.1 (known_left v (leaves e.0) (leaves f.0) h) in
        let that = f.1 (known_right v (leaves e.0) (leaves f.0) h) in
        typed_meet (λ ls. binary_unsigned o (it.unsigned ls) (that.unsigned ls)) _ _ _ _
        (both_types (binary_unsigned o) _ _ it.unsigned that.unsigned it.left that.left) (both_types (binary_unsigned o) _ _ it.unsigned that.unsigned it.right that.right)
        (binary_meets p o _ _ _ _ it that)
    layer (Expr-F.Choose p t e f) h =
        let test = t.1 (known_left v (leaves t.0) (leaves e.0 ++ leaves f.0) h) in
        let others = known_right v (leaves t.0) (leaves e.0 ++ leaves f.0) h in
        let it = e.1 (known_left v (leaves e.0) (leaves f.0) others) in
        let that = f.1 (known_right v (leaves e.0) (leaves f.0) others) in
        typed_meet (λ ls. it.unsigned ls || that.unsigned ls) _ _ _ _
        (both_types (λ u w. u || w) _ _ it.unsigned that.unsigned it.left that.left) (both_types (λ u w. u || w) _ _ it.unsigned that.unsigned it.right that.right)
        (k.of_then _ ℕ ℕ v.word v.word (meaning cx t.0).run (meaning cy t.0).run _ _ test.run (λ x.
        both_cond g v R k _ ℕ v.word (is_true x) (meaning cx e.0).run (meaning cx f.0).run (meaning cy e.0).run (meaning cy f.0).run (still g v R k it.run) (still g v R k that.run)))
    layer (Expr-F.Assign p o e f) h =
        let it = e.1 (known_left v (leaves e.0) (leaves f.0) h) in
        let that = f.1 (known_right v (leaves e.0) (leaves f.0) h) in
        typed_meet it.unsigned _ _ _ _ it.left it.right (assign_meets p o _ _ _ _ it that)
    layer (Expr-F.Comma p e f) h =
        let it = e.1 (known_left v (leaves e.0) (leaves f.0) h) in
        let that = f.1 (known_right v (leaves e.0) (leaves f.0) h) in
        typed_meet that.unsigned _ _ _ _ that.left that.right
        (both_then g v R k _ v.word v.word (meaning cx e.0).run (meaning cy e.0).run (meaning cx f.0).run (meaning cy f.0).run it.run that.run)
    layer (Expr-F.Address p e) h =
        let it = e.1 h in
        record { run = gives_zero _; find = it.find; unsigned = it.unsigned; left = it.left; right = it.right; spelled = it.spelled }

    rolled : (y : Expr-F Part) → ExprMeets (roll-Expr (map-Expr Part Expr (λ e. e.0) y))
    rolled y h =
        let z : Expr-F Expr = map-Expr Part Expr (λ e. e.0) y in
        let it : Meets (expr_step cx (map-Expr Expr Meaning (meaning cx) z)) (expr_step cy (map-Expr Expr Meaning (meaning cy) z)) = layer y (subst (Known v) (fold-roll-Expr (List Leaf) leaves_step z) h) in
        subst (λ (m : Meaning). Meets m (meaning cy (roll-Expr z))) (sym (fold-roll-Expr Meaning (expr_step cx) z))
        (subst (λ (n : Meaning). Meets (expr_step cx (map-Expr Expr Meaning (meaning cx) z)) n) (sym (fold-roll-Expr Meaning (expr_step cy) z)) it)

    -- every expression is related
    pub meaning_meets : (e : Expr) → ExprMeets e
    meaning_meets = ind-Expr ExprMeets (λ x y is. subst (λ (z : Expr-F Expr). ExprMeets (roll-Expr z)) is (rolled y))
