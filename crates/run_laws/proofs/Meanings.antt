-- What forms make, by what their parts make.
use Rattle.std.proofs.Common.{◌≡◌, ℕ, ◌*◌, ◌≤◌, List, [], ◌∷◌, Option, Bool, false, refl, arith}
use Rattle.dg_base.specs.declared.Place.{Place}
use Rattle.dg_base.specs.Values.{value_of, is_true, truth_of}
use Rattle.axiom_model.specs.declared.Action.TheVariants.{Fence}
use Rattle.c_tree.specs.declared.expr.BinaryOp.{BinaryOp}
use Rattle.c_tree.specs.declared.expr.StepOp.{StepOp}
use Rattle.c_tree.specs.declared.expr.AssignOp.{AssignOp}
use Rattle.c_tree.specs.declared.expr.AssignOp.TheVariants.{Plain, With}
use Rattle.c_tree.specs.Operators.{settles, step_op, binary_op}
use Rattle.c_rules.specs.declared.builtin.Builtin.{Builtin}
use Rattle.c_rules.specs.declared.builtin.Builtin.TheVariants as b
use Rattle.c_rules.specs.Names.{Name}
use Rattle.c_check.specs.Counts.{exact, Cost, reading, accessing, assign_accesses}
use Rattle.run_model.specs.declared.state.Slot.{Slot}
use Rattle.run_model.specs.declared.state.Need.TheVariants.{Any}
use Rattle.run_model.specs.Steps.{State, Step, ◌>>=◌, ◌>>◌, pure, look, make, begin_section, end_section, stop, fail}
use Rattle.run_model.specs.Cells.{read, write}
use Rattle.run_model.specs.Calls.{Meaning, Context, lock_cell, unlock_cell, exit_thread, join, no_argument, argument, builtin_call}
use Rattle.run_model.specs.Meaning.{value, lvalue, operate, binary, assign, count}
use Rattle.run_laws.proofs.Growing.{Size, size_of, actions, none, plus, Fits, anything, Touches, touches_more, any_cell, Calm, within_more, within_weaker, calm_then, behind, before, within_cond, calm_pure, calm_look, within_stop, within_fail, calm_taking, calm_make, calm_begin, calm_end, calm_read, calm_write, calm_lock, calm_unlock, calm_exit, calm_bool, calm_join}

module _ (q : ℕ → Type 0) (ns : List Name) where
  -- any value, and the same names
  abbrev pub still : {A : Type 0} → A → List Name → Type 0
  still x ks = Unit {0} × (ks ≡ ns)

  -- a step that keeps the names and asks nothing of its value
  abbrev pub Makes : Size → (A : Type 0) → Step A → Type 0
  Makes n A m = Calm q n ns A anything m

  -- A meaning whose evaluation makes what the expression costs, and at most one action beside what its parts cost; the finding of
  -- its cell makes what its parts cost.
  pub record Limited (c : Cost) (m : Meaning) : Type 0 where
    pub run : Makes (size_of (reading exact c)) ℕ m.run
    pub once : Makes (plus (size_of c.parts) (actions 1)) ℕ m.run
    pub find : Calm q (size_of c.parts) ns Slot (Touches c.access.accesses) m.find

  -- the same for an argument of a built-in call
  pub record Argument (n : Size) (m : Meaning) : Type 0 where
    pub run : Makes n ℕ m.run
    pub find : Makes n Slot m.find

  pub makes_more : (a n : Size) (A : Type 0) (m : Step A) → Fits a n → Makes a A m → Makes n A m
  makes_more a n A m low h = within_more q a n ns A still m low h

  pub any_found : (a n : Size) (k : ℕ) (m : Step Slot) → Fits a n → Calm q a ns Slot (Touches k) m → Makes n Slot m
  any_found a n k m low h = makes_more a n Slot m low (within_weaker q a ns Slot (λ x ks. Touches k x × (ks ≡ ns)) still m (λ x ks given. (tt, given.1)) h)

  pub argument_more : (a n : Size) (m : Meaning) → Fits a n → Argument a m → Argument n m
  argument_more a n m low h = record { run = makes_more a n ℕ m.run low h.run; find = makes_more a n Slot m.find low h.find }

  -- what names no cell
  pub worth : (c : Cost) (a : Size) (u : State → Bool) (m : Step ℕ) → Fits a (size_of c.parts) → Makes a ℕ m → Limited c (value u m)
  worth c a u m low h = record {
    run = makes_more a (size_of (reading exact c)) ℕ m (omega (arith, low.0), omega (arith, low.1)) h;
    once = makes_more a (plus (size_of c.parts) (actions 1)) ℕ m (omega (arith, low.0), omega (arith, low.1)) h;
    find = within_stop q (size_of c.parts) ns Slot (λ x ks. Touches c.access.accesses x × (ks ≡ ns));
  }

  read_found : (c : Cost) (k : ℕ) (n : Size) (m : Step Slot) → Fits (plus (size_of c.parts) (actions k)) n → ((x : Slot) → Touches c.access.accesses x → Touches k x)
      → Calm q (size_of c.parts) ns Slot (Touches c.access.accesses) m → Makes n ℕ (m >>= read)
  read_found c k n m low touched h =
      calm_then q (size_of c.parts) (actions k) n ns Slot ℕ (Touches c.access.accesses) still m read low h (λ x t. calm_read q (actions k) ns x (touched x t))

  -- what names a cell
  pub limited_lvalue : (c : Cost) (sp : Option Name) (u : State → Bool) (m : Step Slot) → Calm q (size_of c.parts) ns Slot (Touches c.access.accesses) m → Limited c (lvalue sp u m)
  limited_lvalue c sp u m h = record {
    run = read_found c (4 * c.access.accesses) (size_of (reading exact c)) m (omega arith, omega arith) (λ x t. touches_more c.access.accesses (4 * c.access.accesses) x (omega arith) t) h;
    once = read_found c 1 (plus (size_of c.parts) (actions 1)) m (omega arith, omega arith) (λ x t. any_cell x) h;
    find = h;
  }

  -- ---- operators

  operates : (p : Place) (o : BinaryOp) (u w : Bool) (x y : ℕ) → Makes none ℕ (operate p o u w x y)
  operates p o u w x y = within_cond q none ns ℕ still _ (fail p) (pure (value_of (binary_op o u w) (x ∷ y ∷ []))) (within_fail q none ns ℕ still p) (calm_pure q none ns ℕ anything (value_of (binary_op o u w) (x ∷ y ∷ [])) tt)

  looks : (u : State → Bool) → Makes none Bool (look u)
  looks u = calm_look q none ns Bool anything u (λ s e. tt)

  pub limited_binary : (x y n : Size) (p : Place) (o : BinaryOp) (l r : Meaning) → Fits (plus x y) n → Makes x ℕ l.run → Makes y ℕ r.run → Makes n ℕ (binary p o l r)
  limited_binary x y n p o l r low h k =
      calm_then q x y n ns ℕ ℕ anything still l.run _ low h (λ v _.
      within_cond q y ns ℕ still (settles o v) (pure (truth_of (is_true v))) _ (calm_pure q y ns ℕ anything (truth_of (is_true v)) tt)
      (behind q y ns ℕ ℕ anything still r.run _ k (λ w _.
      before q none ns Bool ℕ anything still (look l.unsigned) _ (looks l.unsigned) (λ u _.
      before q none ns Bool ℕ anything still (look r.unsigned) _ (looks r.unsigned) (λ z _. operates p o u z v w)))))

  stores : (n : Size) (c : Slot) (v : ℕ) → Touches n.actions c → Makes n ℕ (write c v >> pure v)
  stores n c v t = behind q n ns (Unit {0}) ℕ anything still (write c v) (λ _. pure v) (calm_write q n ns c v t) (λ _ _. calm_pure q none ns ℕ anything v tt)

  -- an assignment to what costs this
  pub limited_assign : (x : Cost) (y n : Size) (p : Place) (o : AssignOp) (l r : Meaning) → Fits (plus (size_of (accessing exact (assign_accesses o) x)) y) n
      → Calm q (size_of x.parts) ns Slot (Touches x.access.accesses) l.find → Makes y ℕ r.run → Makes n ℕ (assign p o l r)
  limited_assign x y n p Plain l r low h k =
      let one : Size = actions (4 * x.access.accesses) in
      calm_then q (size_of x.parts) (plus y one) n ns Slot ℕ (Touches x.access.accesses) still l.find _ (omega (arith, low.0), omega (arith, low.1)) h (λ c t.
      calm_then q y one (plus y one) ns ℕ ℕ anything still r.run _ (omega arith, omega arith) k (λ v _.
      stores one c v (touches_more x.access.accesses (4 * x.access.accesses) c (omega arith) t)))
  limited_assign x y n p (With o) l r low h k =
      let one : Size = actions (4 * x.access.accesses) in
      calm_then q (size_of x.parts) (plus one (plus y one)) n ns Slot ℕ (Touches x.access.accesses) still l.find _ (omega (arith, low.0), omega (arith, low.1)) h (λ c t.
      let touched : Touches (4 * x.access.accesses) c = touches_more x.access.accesses (4 * x.access.accesses) c (omega arith) t in
      calm_then q one (plus y one) (plus one (plus y one)) ns ℕ ℕ anything still (read c) _ (omega arith, omega arith) (calm_read q one ns c touched) (λ old _.
      calm_then q y one (plus y one) ns ℕ ℕ anything still r.run _ (omega arith, omega arith) k (λ v _.
      before q one ns Bool ℕ anything still (look l.unsigned) _ (looks l.unsigned) (λ u _.
      before q one ns Bool ℕ anything still (look r.unsigned) _ (looks r.unsigned) (λ z _.
      before q one ns ℕ ℕ anything still (operate p o u z old v) _ (operates p o u z old v) (λ new _. stores one c new touched))))))

  pub limited_count : (x : Cost) (n : Size) (p : Place) (o : StepOp) (l : Meaning) → Fits (size_of (accessing exact 2 x)) n → Calm q (size_of x.parts) ns Slot (Touches x.access.accesses) l.find → Makes n (ℕ × ℕ) (count p o l)
  limited_count x n p o l low h =
      let one : Size = actions (4 * x.access.accesses) in
      calm_then q (size_of x.parts) (plus one one) n ns Slot (ℕ × ℕ) (Touches x.access.accesses) still l.find _ (omega (arith, low.0), omega (arith, low.1)) h (λ c t.
      let touched : Touches (4 * x.access.accesses) c = touches_more x.access.accesses (4 * x.access.accesses) c (omega arith) t in
      calm_then q one one (plus one one) ns ℕ (ℕ × ℕ) anything still (read c) _ (omega arith, omega arith) (calm_read q one ns c touched) (λ old _.
      before q one ns Bool (ℕ × ℕ) anything still (look l.unsigned) _ (looks l.unsigned) (λ u _.
      before q one ns ℕ (ℕ × ℕ) anything still (operate p (step_op o) u false old 1) _ (operates p (step_op o) u false old 1) (λ new _.
      behind q one ns (Unit {0}) (ℕ × ℕ) anything still (write c new) _ (calm_write q one ns c new touched) (λ _ _. calm_pure q none ns (ℕ × ℕ) anything (old, new) tt)))))

  -- ---- calls

  pub argument_none : (n : Size) → Argument n no_argument
  argument_none n = record { run = calm_pure q n ns ℕ anything 0 tt; find = within_stop q n ns Slot still }

  module _ (a n : Size) (low : Fits (plus a (actions 4)) n) where
    -- behind an argument at most four actions are made
    behind_run : (m : Step ℕ) (f : ℕ → Step ℕ) → Makes a ℕ m → ((v : ℕ) → Makes (actions 4) ℕ (f v)) → Makes n ℕ (m >>= f)
    behind_run m f h k = calm_then q a (actions 4) n ns ℕ ℕ anything still m f low h (λ v _. k v)

    behind_find : (m : Step Slot) (f : Slot → Step ℕ) → Makes a Slot m → ((c : Slot) → Makes (actions 4) ℕ (f c)) → Makes n ℕ (m >>= f)
    behind_find m f h k = calm_then q a (actions 4) n ns Slot ℕ anything still m f low h (λ c _. k c)

    then_zero : (k : ℕ) (m : Step (Unit {0})) → k ≤ 4 → Makes (actions k) (Unit {0}) m → Makes (actions 4) ℕ (m >> pure 0)
    then_zero k m few h =
        calm_then q (actions k) none (actions 4) ns (Unit {0}) ℕ anything still m (λ _. pure 0) (omega arith, omega (arith, few)) h (λ _ _. calm_pure q none ns ℕ anything 0 tt)

    alone : (k : ℕ) (m : Step ℕ) → k ≤ 4 → Makes (actions k) ℕ m → Makes n ℕ m
    alone k m few h = makes_more (actions k) n ℕ m (omega (arith, low.0), omega (arith, low.1, few)) h

    -- a built-in call but pthread_create, by its first argument
    pub limited_builtin : (cx : Context) (p : Place) (c : Builtin) (ms : List Meaning) → (c ≡ b.PthreadCreate → Makes n ℕ (builtin_call cx.setting p c ms)) → Argument a (argument ms 0) → Makes n ℕ (builtin_call cx.setting p c ms)
    limited_builtin cx p b.PthreadCreate ms h x = h refl
    limited_builtin cx p b.PthreadJoin ms h x = behind_run (argument ms 0).run join x.run (λ v. makes_more (actions 1) (actions 4) ℕ (join v) (omega arith, omega arith) (calm_join q ns v))
    limited_builtin cx p b.PthreadExit ms h x = behind_run (argument ms 0).run (λ _. exit_thread) x.run (λ _. makes_more (actions 1) (actions 4) ℕ exit_thread (omega arith, omega arith) (calm_exit q ns))
    limited_builtin cx p b.Exit ms h x = behind_run (argument ms 0).run (λ _. stop) x.run (λ _. within_stop q (actions 4) ns ℕ still)
    limited_builtin cx p b.Abort ms h x = within_stop q n ns ℕ still
    limited_builtin cx p b.Lock ms h x = behind_find (argument ms 0).find _ x.find (λ c. then_zero 4 (lock_cell c) (omega arith) (calm_lock q ns c))
    limited_builtin cx p b.Unlock ms h x = behind_find (argument ms 0).find _ x.find (λ c. then_zero 4 (unlock_cell c) (omega arith) (calm_unlock q ns c))
    limited_builtin cx p b.Init ms h x = behind_find (argument ms 0).find _ x.find (λ c. then_zero 4 (unlock_cell c) (omega arith) (calm_unlock q ns c))
    limited_builtin cx p b.Destroy ms h x = behind_find (argument ms 0).find (λ _. pure 0) x.find (λ _. calm_pure q (actions 4) ns ℕ anything 0 tt)
    limited_builtin cx p b.Assert ms h x =
        behind_run (argument ms 0).run _ x.run (λ v. within_cond q (actions 4) ns ℕ still (is_true v) (pure 0) (fail p) (calm_pure q (actions 4) ns ℕ anything 0 tt) (within_fail q (actions 4) ns ℕ still p))
    limited_builtin cx p b.Assume ms h x =
        behind_run (argument ms 0).run _ x.run (λ v. within_cond q (actions 4) ns ℕ still (is_true v) (pure 0) stop (calm_pure q (actions 4) ns ℕ anything 0 tt) (within_stop q (actions 4) ns ℕ still))
    limited_builtin cx p b.AssertFail ms h x = within_fail q n ns ℕ still p
    limited_builtin cx p b.ReachError ms h x = within_fail q n ns ℕ still p
    limited_builtin cx p b.AnyInt ms h x = calm_taking q n ns Any
    limited_builtin cx p b.AnyUint ms h x = calm_taking q n ns Any
    limited_builtin cx p b.AnyBool ms h x = calm_bool q n ns
    limited_builtin cx p b.Begin ms h x = alone 4 (begin_section >> pure 0) (omega arith) (then_zero 1 begin_section (omega arith) (calm_begin q ns))
    limited_builtin cx p b.Finish ms h x = alone 4 (end_section >> pure 0) (omega arith) (then_zero 1 end_section (omega arith) (calm_end q ns))
    limited_builtin cx p b.Synchronize ms h x = alone 4 (make Fence >> pure 0) (omega arith) (then_zero 1 (make Fence) (omega arith) (calm_make q (actions 1) ns Fence tt (omega arith)))
