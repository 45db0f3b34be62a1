-- Steps use at most so many numbers of the script.
use Rattle.std.proofs.Common.{ℕ, zero, suc, ◌+◌, ◌-◌, ◌≤◌, List, [], ◌∷◌, Option, Some, None, Bool, true, false, length, arith}
use Rattle.std.specs.Prelude.{cond, nat_eq, nat_lt}
use Rattle.dg_base.specs.declared.Place.{Place}
use Rattle.dg_base.specs.Values.{is_true, truth_of, value_of}
use Rattle.axiom_model.specs.declared.Action.{Action}
use Rattle.axiom_model.specs.declared.Action.TheVariants as action
use Rattle.c_tree.specs.declared.expr.BinaryOp.{BinaryOp}
use Rattle.c_tree.specs.declared.expr.StepOp.{StepOp}
use Rattle.c_tree.specs.declared.expr.AssignOp.{AssignOp}
use Rattle.c_tree.specs.declared.expr.AssignOp.TheVariants.{Plain, With}
use Rattle.c_tree.specs.Operators.{settles, step_op, binary_op}
use Rattle.c_rules.specs.declared.builtin.Builtin.{Builtin}
use Rattle.c_rules.specs.declared.builtin.Builtin.TheVariants as b
use Rattle.c_rules.specs.Names.{Name}
use Rattle.run_model.specs.declared.state.Ending.{Ending}
use Rattle.run_model.specs.declared.state.Ending.TheVariants.{Bad}
use Rattle.run_model.specs.declared.state.Local.{Local}
use Rattle.run_model.specs.declared.state.Flow.{Flow}
use Rattle.run_model.specs.declared.state.Flow.TheVariants.{Next}
use Rattle.run_model.specs.declared.state.Need.{Need}
use Rattle.run_model.specs.declared.state.Need.TheVariants.{ReadOf, Go, Truth, Any}
use Rattle.run_model.specs.declared.state.Shared.{Shared}
use Rattle.run_model.specs.declared.state.Slot.{Slot}
use Rattle.run_model.specs.declared.state.Slot.TheVariants.{Own, Common}
use Rattle.run_model.specs.Steps.{State, Outcome, Goes, Halts, Step, go_on, ◌>>=◌, ◌>>◌, pure, nothing, look, change, ends, make, take_from, take_number, obey, ask, outside, open_section, begin_section, end_section, stop, fail}
use Rattle.run_model.specs.Cells.{read, write, slot, slot_in, slot_in_shared, shared_named, local_named, cells_at}
use Rattle.run_model.specs.Calls.{Setting, Meaning, spend, hold, lock_cell, unlock_cell, finish, exit_thread, any_bool, create, join, function_in, argument, builtin_call}
use Rattle.run_model.specs.Meaning.{operate, binary, assign, count}
use Rattle.run_model.specs.Statements.{leaves, unless_left, loop, do_loop}
use Rattle.run_laws.specs.Turns.{used_in}

-- from any state
pub record Uses (n : ℕ) (A : Type 0) (m : Step A) : Type 0 where
  pub fits : (s : State) → used_in (m s) ≤ s.used + n

pub uses_more : (a n : ℕ) (A : Type 0) (m : Step A) → a ≤ n → Uses a A m → Uses n A m
uses_more a n A m low h = record { fits = λ s. omega (arith, low, h.fits s) }

sum_on : (a n : ℕ) (A B : Type 0) (f : A → Step B) (s : State) → ((x : A) → Uses n B (f x)) → (o : Outcome A) → used_in o ≤ s.used + a → used_in (go_on o f) ≤ s.used + (a + n)
sum_on a n A B f s h (Goes x t) one = omega (arith, one, (h x).fits t)
sum_on a n A B f s h (Halts e t) one = omega (arith, one)

-- one step after the other
pub uses_sum : (a n : ℕ) (A B : Type 0) (m : Step A) (f : A → Step B) → Uses a A m → ((x : A) → Uses n B (f x)) → Uses (a + n) B (m >>= f)
uses_sum a n A B m f p h = record { fits = λ s. sum_on a n A B f s h (m s) (p.fits s) }

pub behind : (n : ℕ) (A B : Type 0) (m : Step A) (f : A → Step B) → Uses n A m → ((x : A) → Uses 0 B (f x)) → Uses n B (m >>= f)
behind n A B m f p h = record { fits = λ s. omega (arith, (uses_sum n 0 A B m f p h).fits s) }

pub before : (n : ℕ) (A B : Type 0) (m : Step A) (f : A → Step B) → Uses 0 A m → ((x : A) → Uses n B (f x)) → Uses n B (m >>= f)
before n A B m f p h = record { fits = λ s. omega (arith, (uses_sum 0 n A B m f p h).fits s) }

pub uses_cond : (n : ℕ) (A : Type 0) (c : Bool) (x y : Step A) → Uses n A x → Uses n A y → Uses n A (cond c x y)
uses_cond n A true x y p q = p
uses_cond n A false x y p q = q

-- ---- steps that use none

pub uses_pure : (n : ℕ) (A : Type 0) (a : A) → Uses n A (pure a)
uses_pure n A a = record { fits = λ s. omega arith }

pub uses_look : (n : ℕ) (A : Type 0) (f : State → A) → Uses n A (look f)
uses_look n A f = record { fits = λ s. omega arith }

pub uses_stop : (n : ℕ) (A : Type 0) → Uses n A stop
uses_stop n A = record { fits = λ s. omega arith }

pub uses_fail : (n : ℕ) (A : Type 0) (p : Place) → Uses n A (fail p)
uses_fail n A p = record { fits = λ s. omega arith }

uses_end : (n : ℕ) (A : Type 0) (e : Ending) → Uses n A (ends e)
uses_end n A e = record { fits = λ s. omega arith }

pub uses_spend : (n : ℕ) (A : Type 0) (g : Setting) (p : Place) → Uses n A (spend g p)
uses_spend n A g p = record { fits = λ s. omega arith }

pub uses_nothing : (n : ℕ) → Uses n (Unit {0}) nothing
uses_nothing n = record { fits = λ s. omega arith }

pub uses_make : (n : ℕ) (a : Action) → Uses n (Unit {0}) (make a)
uses_make n a = record { fits = λ s. omega arith }

pub uses_locals : (n : ℕ) (f : List Local → List Local) → Uses n (Unit {0}) (change (λ s. record s { locals = f s.locals }))
uses_locals n f = record { fits = λ s. omega arith }

uses_depth : (n : ℕ) (f : ℕ → ℕ) → Uses n (Unit {0}) (change (λ s. record s { depth = f s.depth }))
uses_depth n f = record { fits = λ s. omega arith }

uses_shared : (n : ℕ) (p : Place) (o : Option Shared) (i : ℕ) → Uses n Slot (slot_in_shared p o i)
uses_shared n p None i = uses_stop n Slot
uses_shared n p (Some v) i = uses_cond n Slot (nat_lt i v.count) (pure (Common (v.first + i))) (fail p) (uses_pure n Slot (Common (v.first + i))) (uses_fail n Slot p)

uses_slot_in : (n : ℕ) (shared : List Shared) (p : Place) (name : Name) (o : Option ℕ) (i : ℕ) → Uses n Slot (slot_in shared p name o i)
uses_slot_in n shared p name None i = record { fits = λ s. (uses_shared n p (shared_named shared name) i).fits s }
uses_slot_in n shared p name (Some l) i = record { fits = λ s. (uses_cond n Slot (nat_lt i (length (cells_at s.locals l))) (pure (Own l i)) (fail p) (uses_pure n Slot (Own l i)) (uses_fail n Slot p)).fits s }

pub uses_slot : (n : ℕ) (shared : List Shared) (p : Place) (name : Name) (i : ℕ) → Uses n Slot (slot shared p name i)
uses_slot n shared p name i = record { fits = λ s. (uses_slot_in n shared p name (local_named s.locals name) i).fits s }

pub uses_write : (n : ℕ) (c : Slot) (v : ℕ) → Uses n (Unit {0}) (write c v)
uses_write n (Own i j) v = record { fits = λ s. omega arith }
uses_write n (Common c) v = record { fits = λ s. omega arith }

pub uses_operate : (n : ℕ) (p : Place) (o : BinaryOp) (u w : Bool) (x y : ℕ) → Uses n ℕ (operate p o u w x y)
uses_operate n p o u w x y = uses_cond n ℕ _ (fail p) (pure (value_of (binary_op o u w) (x ∷ y ∷ []))) (uses_fail n ℕ p) (uses_pure n ℕ (value_of (binary_op o u w) (x ∷ y ∷ [])))

pub uses_create : (n : ℕ) (g : Setting) (c : Slot) (f x : ℕ) → Uses n ℕ (create g c f x)
uses_create n g (Own i j) f x = record { fits = λ s. omega arith }
uses_create n g (Common c) f x = record { fits = λ s. omega arith }

pub uses_finish : (n : ℕ) (A : Type 0) → Uses n A finish
uses_finish n A = record { fits = λ s. omega arith }

pub uses_exit : (n : ℕ) → Uses n ℕ exit_thread
uses_exit n = record { fits = λ s. (uses_cond n ℕ (nat_eq s.depth 0) finish (ends Bad) (uses_finish n ℕ) (uses_end n ℕ Bad)).fits s }

uses_outside : (n : ℕ) (m : Step (Unit {0})) → Uses n (Unit {0}) m → Uses n (Unit {0}) (outside m)
uses_outside n m p = record { fits = λ s. (uses_cond n (Unit {0}) (nat_eq s.depth 0) m nothing p (uses_nothing n)).fits s }

uses_close : (n : ℕ) → Uses n (Unit {0}) (outside (make action.Close))
uses_close n = uses_outside n (make action.Close) (uses_make n action.Close)

-- ---- steps that use one, or two

taken_uses : (n : Need) (s : State) (xs : List ℕ) → used_in (take_from n xs s) ≤ s.used + 1
taken_uses n s [] = omega arith
taken_uses n s (x ∷ xs) = omega arith

pub uses_taking : (n : Need) → Uses 1 ℕ (take_number n)
uses_taking n = record { fits = λ s. taken_uses n s s.script }

uses_obey : (n : ℕ) → Uses 0 (Unit {0}) (obey n)
uses_obey zero = record { fits = λ s. omega arith }
uses_obey (suc zero) = record { fits = λ s. omega arith }
uses_obey (suc (suc n)) = record { fits = λ s. omega arith }

uses_ask : Uses 1 (Unit {0}) ask
uses_ask = behind 1 ℕ (Unit {0}) (take_number Go) obey (uses_taking Go) uses_obey

uses_open : Uses 1 (Unit {0}) open_section
uses_open = uses_outside 1 (ask >> make action.Open) (behind 1 (Unit {0}) (Unit {0}) ask (λ _. make action.Open) uses_ask (λ _. uses_make 0 action.Open))

pub uses_read : (c : Slot) → Uses 1 ℕ (read c)
uses_read (Own i j) = record { fits = λ s. omega arith }
uses_read (Common c) =
    behind 1 ℕ ℕ (take_number (ReadOf c)) (λ x. make (action.Read c x) >> pure x) (uses_taking (ReadOf c))
    (λ x. before 0 (Unit {0}) ℕ (make (action.Read c x)) (λ _. pure x) (uses_make 0 (action.Read c x)) (λ _. uses_pure 0 ℕ x))

uses_hold : (c : Slot) → Uses 1 (Unit {0}) (hold c)
uses_hold (Own i j) = record { fits = λ s. omega arith }
uses_hold (Common m) =
    behind 1 ℕ (Unit {0}) (take_number (ReadOf m)) _ (uses_taking (ReadOf m)) (λ v.
    before 0 (Unit {0}) (Unit {0}) (make (action.Read m v)) _ (uses_make 0 (action.Read m v)) (λ _.
    before 0 (Unit {0}) (Unit {0}) (cond (nat_eq v 0) nothing (ends Bad)) (λ _. make (action.Write m 1)) (uses_cond 0 (Unit {0}) (nat_eq v 0) nothing (ends Bad) (uses_nothing 0) (uses_end 0 (Unit {0}) Bad)) (λ _. uses_make 0 (action.Write m 1))))

uses_lock : (c : Slot) → Uses 2 (Unit {0}) (lock_cell c)
uses_lock c =
    uses_more (1 + 1) 2 (Unit {0}) (lock_cell c) (omega arith)
    (uses_sum 1 1 (Unit {0}) (Unit {0}) open_section (λ _. hold c >> outside (make action.Close)) uses_open
    (λ _. behind 1 (Unit {0}) (Unit {0}) (hold c) (λ _. outside (make action.Close)) (uses_hold c) (λ _. uses_close 0)))

uses_unlock : (c : Slot) → Uses 0 (Unit {0}) (unlock_cell c)
uses_unlock c =
    before 0 (Unit {0}) (Unit {0}) (outside (make action.Open)) _ (uses_outside 0 (make action.Open) (uses_make 0 action.Open)) (λ _.
    before 0 (Unit {0}) (Unit {0}) (write c 0) (λ _. outside (make action.Close)) (uses_write 0 c 0) (λ _. uses_close 0))

pub uses_begin : Uses 1 (Unit {0}) begin_section
uses_begin = behind 1 (Unit {0}) (Unit {0}) open_section _ uses_open (λ _. uses_depth 0 (λ d. d + 1))

pub uses_end_section : Uses 0 (Unit {0}) end_section
uses_end_section = before 0 (Unit {0}) (Unit {0}) (change (λ s. record s { depth = s.depth - 1 })) (λ _. outside (make action.Close)) (uses_depth 0 (λ d. d - 1)) (λ _. uses_close 0)

uses_bool : Uses 1 ℕ any_bool
uses_bool = behind 1 ℕ ℕ (take_number Truth) _ (uses_taking Truth) (λ v. uses_cond 0 ℕ (nat_lt v 2) (pure v) (ends Bad) (uses_pure 0 ℕ v) (uses_end 0 ℕ Bad))

uses_join : (h : ℕ) → Uses 1 ℕ (join h)
uses_join h =
    behind 1 (Unit {0}) ℕ (outside ask) _ (uses_outside 1 ask uses_ask) (λ _. before 0 (Unit {0}) ℕ (make (action.Join h)) (λ _. pure 0) (uses_make 0 (action.Join h)) (λ _. uses_pure 0 ℕ 0))

-- ---- operators

pub uses_binary : (a n : ℕ) (p : Place) (o : BinaryOp) (l r : Meaning) → Uses a ℕ l.run → Uses n ℕ r.run → Uses (a + n) ℕ (binary p o l r)
uses_binary a n p o l r h k =
    uses_sum a n ℕ ℕ l.run _ h (λ v.
    uses_cond n ℕ (settles o v) (pure (truth_of (is_true v))) _ (uses_pure n ℕ (truth_of (is_true v)))
    (behind n ℕ ℕ r.run _ k (λ w.
    before 0 Bool ℕ (look l.unsigned) _ (uses_look 0 Bool l.unsigned) (λ u.
    before 0 Bool ℕ (look r.unsigned) _ (uses_look 0 Bool r.unsigned) (λ z. uses_operate 0 p o u z v w)))))

uses_store : (n : ℕ) (c : Slot) (v : ℕ) → Uses n ℕ (write c v >> pure v)
uses_store n c v = before n (Unit {0}) ℕ (write c v) (λ _. pure v) (uses_write 0 c v) (λ _. uses_pure n ℕ v)

pub uses_assign : (a n : ℕ) (p : Place) (o : AssignOp) (l r : Meaning) → Uses a Slot l.find → Uses n ℕ r.run → Uses (a + (1 + n)) ℕ (assign p o l r)
uses_assign a n p Plain l r h k =
    uses_sum a (1 + n) Slot ℕ l.find _ h (λ c. uses_more n (1 + n) ℕ _ (omega arith) (behind n ℕ ℕ r.run _ k (λ v. uses_store 0 c v)))
uses_assign a n p (With o) l r h k =
    uses_sum a (1 + n) Slot ℕ l.find _ h (λ c.
    uses_sum 1 n ℕ ℕ (read c) _ (uses_read c) (λ old.
    behind n ℕ ℕ r.run _ k (λ v.
    before 0 Bool ℕ (look l.unsigned) _ (uses_look 0 Bool l.unsigned) (λ u.
    before 0 Bool ℕ (look r.unsigned) _ (uses_look 0 Bool r.unsigned) (λ z.
    before 0 ℕ ℕ (operate p o u z old v) _ (uses_operate 0 p o u z old v) (λ new. uses_store 0 c new))))))

pub uses_count : (a : ℕ) (p : Place) (o : StepOp) (l : Meaning) → Uses a Slot l.find → Uses (a + 1) (ℕ × ℕ) (count p o l)
uses_count a p o l h =
    uses_sum a 1 Slot (ℕ × ℕ) l.find _ h (λ c.
    behind 1 ℕ (ℕ × ℕ) (read c) _ (uses_read c) (λ old.
    before 0 Bool (ℕ × ℕ) (look l.unsigned) _ (uses_look 0 Bool l.unsigned) (λ u.
    before 0 ℕ (ℕ × ℕ) (operate p (step_op o) u false old 1) _ (uses_operate 0 p (step_op o) u false old 1) (λ new.
    before 0 (Unit {0}) (ℕ × ℕ) (write c new) _ (uses_write 0 c new) (λ _. uses_pure 0 (ℕ × ℕ) (old, new))))))

-- ---- built-in calls: each argument uses at most so many, and the call two more than two of them

module _ (n : ℕ) (ms : List Meaning) (runs : (i : ℕ) → Uses n ℕ (argument ms i).run) (finds : (i : ℕ) → Uses n Slot (argument ms i).find) where
  abbrev all : ℕ
  all = n + (n + 2)

  behind_run : (f : ℕ → Step ℕ) → ((v : ℕ) → Uses 2 ℕ (f v)) → Uses all ℕ ((argument ms 0).run >>= f)
  behind_run f h = record { fits = λ s. omega (arith, (uses_sum n 2 ℕ ℕ (argument ms 0).run f (runs 0) h).fits s) }

  behind_find : (f : Slot → Step ℕ) → ((c : Slot) → Uses (n + 2) ℕ (f c)) → Uses all ℕ ((argument ms 0).find >>= f)
  behind_find f h = uses_sum n (n + 2) Slot ℕ (argument ms 0).find f (finds 0) h

  then_zero : (k : ℕ) (m : Step (Unit {0})) → k ≤ 2 → Uses k (Unit {0}) m → (a : ℕ) → 2 ≤ a → Uses a ℕ (m >> pure 0)
  then_zero k m low h a room = record { fits = λ s. omega (arith, low, room, (behind k (Unit {0}) ℕ m (λ _. pure 0) h (λ _. uses_pure 0 ℕ 0)).fits s) }

  pub uses_builtin : (g : Setting) (p : Place) (c : Builtin) → Uses all ℕ (builtin_call g p c ms)
  uses_builtin g p b.PthreadCreate =
      behind_find _ (λ c. uses_sum n 2 ℕ ℕ (argument ms 3).run _ (runs 3) (λ v. uses_create 2 g c (function_in g (argument ms 2).spelled) v))
  uses_builtin g p b.PthreadJoin = behind_run join (λ v. uses_more 1 2 ℕ (join v) (omega arith) (uses_join v))
  uses_builtin g p b.PthreadExit = behind_run (λ _. exit_thread) (λ _. uses_exit 2)
  uses_builtin g p b.Exit = behind_run (λ _. stop) (λ _. uses_stop 2 ℕ)
  uses_builtin g p b.Abort = uses_stop all ℕ
  uses_builtin g p b.Lock = behind_find _ (λ c. then_zero 2 (lock_cell c) (omega arith) (uses_lock c) (n + 2) (omega arith))
  uses_builtin g p b.Unlock = behind_find _ (λ c. then_zero 0 (unlock_cell c) (omega arith) (uses_unlock c) (n + 2) (omega arith))
  uses_builtin g p b.Init = behind_find _ (λ c. then_zero 0 (unlock_cell c) (omega arith) (uses_unlock c) (n + 2) (omega arith))
  uses_builtin g p b.Destroy = behind_find (λ _. pure 0) (λ _. uses_pure (n + 2) ℕ 0)
  uses_builtin g p b.Assert = behind_run _ (λ v. uses_cond 2 ℕ (is_true v) (pure 0) (fail p) (uses_pure 2 ℕ 0) (uses_fail 2 ℕ p))
  uses_builtin g p b.Assume = behind_run _ (λ v. uses_cond 2 ℕ (is_true v) (pure 0) stop (uses_pure 2 ℕ 0) (uses_stop 2 ℕ))
  uses_builtin g p b.AssertFail = uses_fail all ℕ p
  uses_builtin g p b.ReachError = uses_fail all ℕ p
  uses_builtin g p b.AnyInt = uses_more 1 all ℕ (take_number Any) (omega arith) (uses_taking Any)
  uses_builtin g p b.AnyUint = uses_more 1 all ℕ (take_number Any) (omega arith) (uses_taking Any)
  uses_builtin g p b.AnyBool = uses_more 1 all ℕ any_bool (omega arith) uses_bool
  uses_builtin g p b.Begin = then_zero 1 begin_section (omega arith) uses_begin all (omega arith)
  uses_builtin g p b.Finish = then_zero 0 end_section (omega arith) uses_end_section all (omega arith)
  uses_builtin g p b.Synchronize = then_zero 0 (make action.Fence) (omega arith) (uses_make 0 action.Fence) all (omega arith)

-- ---- loops: how many a loop uses whose test, body and step use so many

abbrev pub turned : ℕ → ℕ → ℕ → ℕ → ℕ
turned zero t n e = t + 0
turned (suc k) t n e = t + (n + (e + turned k t n e))

abbrev pub do_turned : ℕ → ℕ → ℕ → ℕ
do_turned zero t n = 0
do_turned (suc k) t n = n + (t + do_turned k t n)

unless_uses : (n : ℕ) (o : Option Flow) (m : Step Flow) → Uses n Flow m → Uses n Flow (unless_left o m)
unless_uses n None m h = h
unless_uses n (Some f) m h = uses_pure n Flow f

pub loop_uses : (z : Step Flow) → Uses 0 Flow z → (t n e k : ℕ) (test : Step ℕ) (body : Step Flow) (step : Step (Unit {0})) → Uses t ℕ test → Uses n Flow body → Uses e (Unit {0}) step → Uses (turned k t n e) Flow (loop z k test body step)
loop_uses z o t n e zero test body step g h i = uses_sum t 0 ℕ Flow test _ g (λ v. uses_cond 0 Flow (is_true v) z (pure Next) o (uses_pure 0 Flow Next))
loop_uses z o t n e (suc k) test body step g h i =
    let rest : ℕ = turned k t n e in
    uses_sum t (n + (e + rest)) ℕ Flow test _ g (λ v.
    uses_cond (n + (e + rest)) Flow (is_true v) _ (pure Next)
    (uses_sum n (e + rest) Flow Flow body _ h (λ f.
    unless_uses (e + rest) (leaves f) (step >> loop z k test body step) (uses_sum e rest (Unit {0}) Flow step (λ _. loop z k test body step) i (λ _. loop_uses z o t n e k test body step g h i))))
    (uses_pure (n + (e + rest)) Flow Next))

pub do_loop_uses : (z : Step Flow) → Uses 0 Flow z → (t n k : ℕ) (test : Step ℕ) (body : Step Flow) → Uses t ℕ test → Uses n Flow body → Uses (do_turned k t n) Flow (do_loop z k test body)
do_loop_uses z o t n zero test body g h = o
do_loop_uses z o t n (suc k) test body g h =
    let rest : ℕ = do_turned k t n in
    uses_sum n (t + rest) Flow Flow body _ h (λ f.
    unless_uses (t + rest) (leaves f) _
    (uses_sum t rest ℕ Flow test _ g (λ v. uses_cond rest Flow (is_true v) (do_loop z k test body) (pure Next) (do_loop_uses z o t n k test body g h) (uses_pure rest Flow Next))))
