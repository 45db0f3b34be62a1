-- A property of steps that the parts of every run have, every run has: an induction over all forms.
use Rattle.std.proofs.Common.{◌≡◌, ℕ, zero, suc, ◌+◌, ◌-◌, List, [], ◌∷◌, Option, Some, None, Bool, true, false, length}
use Rattle.std.specs.Prelude.{cond, nat_eq, nat_lt, slice_get, unwrap_or}
use Rattle.dg_base.specs.declared.Place.{Place}
use Rattle.dg_base.specs.Values.{value_of}
use Rattle.axiom_model.specs.declared.Action.{Action}
use Rattle.axiom_model.specs.declared.Action.TheVariants.{Read, Write, Open, Close, Create, Join, End}
use Rattle.c_tree.specs.declared.expr.BinaryOp.{BinaryOp}
use Rattle.c_tree.specs.Operators.{binary_op}
use Rattle.c_rules.specs.Names.{Name}
use Rattle.run_model.specs.declared.state.Ending.{Ending}
use Rattle.run_model.specs.declared.state.Ending.TheVariants.{Ended, Stopped, Failed, Bound, Bad}
use Rattle.run_model.specs.declared.state.Local.{Local}
use Rattle.run_model.specs.declared.state.Shared.{Shared}
use Rattle.run_model.specs.declared.state.Need.{Need}
use Rattle.run_model.specs.declared.state.Need.TheVariants.{ReadOf, Go, Truth}
use Rattle.run_model.specs.declared.state.Slot.{Slot}
use Rattle.run_model.specs.declared.state.Slot.TheVariants.{Own, Common}
use Rattle.run_model.specs.Steps.{Step, ◌>>=◌, ◌>>◌, pure, nothing, look, change, ends, make, take_number, obey, ask, outside, open_section, begin_section, end_section, stop, fail}
use Rattle.run_model.specs.Cells.{cells_at, with_cell, local_named, shared_named, read, write, slot, slot_in, slot_in_shared}
use Rattle.run_model.specs.Calls.{Setting, spend, hold, lock_cell, unlock_cell, finish, exit_thread, any_bool, create, join}
use Rattle.run_model.specs.Meaning.{operate}

-- the action creates no thread
abbrev pub IsPlain : Action → Type 0
IsPlain (Create h f a) = ⊥
IsPlain _ = Unit {0}

-- The property holds of the parts that all steps of a thread with this handle are made of. A step that goes by a value that is
-- read off the state reads no more than the locals, the creates done and the depth.
pub record Keeps (handle : ℕ) (P : (A : Type 0) → Step A → Type 0) : Type 1 where
  pub of_pure : (A : Type 0) (a : A) → P A (pure a)
  pub of_then : (A B : Type 0) (m : Step A) (f : A → Step B) → P A m → ((a : A) → P B (f a)) → P B (m >>= f)
  pub of_choice : (A T : Type 0) (g : List Local → ℕ → ℕ → T) (f : T → Step A) → ((t : T) → P A (f t)) → P A (λ s. f (g s.locals s.created s.depth) s)
  pub of_end : (A : Type 0) (e : Ending) → P A (ends e)
  pub of_taking : (n : Need) → P ℕ (take_number n)
  pub of_locals : (f : List Local → List Local) → P (Unit {0}) (change (λ s. record s { locals = f s.locals }))
  pub of_depth : (f : ℕ → ℕ) → P (Unit {0}) (change (λ s. record s { depth = f s.depth }))
  pub of_action : (a : Action) → IsPlain a → P (Unit {0}) (make a)
  pub of_create : (g : Setting) → g.handle ≡ handle → (v : Slot) (f arg : ℕ) → P ℕ (create g v f arg)

module _ (handle : ℕ) (P : (A : Type 0) → Step A → Type 0) (k : Keeps handle P) where
  pub kept_then : {A B : Type 0} (m : Step A) (n : Step B) → P A m → P B n → P B (m >> n)
  kept_then {A = A} {B = B} m n p q = k.of_then A B m (λ _. n) p (λ _. q)

  pub kept_nothing : P (Unit {0}) nothing
  kept_nothing = k.of_pure (Unit {0}) tt

  pub kept_look : (A : Type 0) (g : List Local → ℕ → ℕ → A) → P A (look (λ s. g s.locals s.created s.depth))
  kept_look A g = k.of_choice A A g (λ a. pure a) (λ a. k.of_pure A a)

  pub kept_cond : (A : Type 0) (b : Bool) (m n : Step A) → P A m → P A n → P A (cond b m n)
  kept_cond A true m n p q = p
  kept_cond A false m n p q = q

  pub kept_stop : (A : Type 0) → P A stop
  kept_stop A = k.of_choice A Ending (λ ls c d. cond (nat_eq d 0) Stopped Bad) (λ e. ends e) (λ e. k.of_end A e)

  pub kept_fail : (A : Type 0) (p : Place) → P A (fail p)
  kept_fail A p = k.of_end A (Failed p)

  pub kept_spend : (A : Type 0) (g : Setting) (p : Place) → P A (spend g p)
  kept_spend A g p = k.of_choice A Ending (λ ls c d. cond g.full (Bound p) (cond (nat_eq d 0) Stopped Bad)) (λ e. ends e) (λ e. k.of_end A e)

  pub kept_outside : (m : Step (Unit {0})) → P (Unit {0}) m → P (Unit {0}) (outside m)
  kept_outside m p =
      k.of_choice (Unit {0}) Bool (λ ls c d. nat_eq d 0) (λ b. cond b m nothing) (λ b. kept_cond (Unit {0}) b m nothing p kept_nothing)

  pub kept_obey : (n : ℕ) → P (Unit {0}) (obey n)
  kept_obey zero = k.of_end (Unit {0}) Stopped
  kept_obey (suc zero) = kept_nothing
  kept_obey (suc (suc n)) = k.of_end (Unit {0}) Bad

  pub kept_ask : P (Unit {0}) ask
  kept_ask = k.of_then ℕ (Unit {0}) (take_number Go) obey (k.of_taking Go) kept_obey

  pub kept_open : P (Unit {0}) open_section
  kept_open = kept_outside (ask >> make Open) (kept_then ask (make Open) kept_ask (k.of_action Open tt))

  pub kept_close : P (Unit {0}) (outside (make Close))
  kept_close = kept_outside (make Close) (k.of_action Close tt)

  pub kept_begin : P (Unit {0}) begin_section
  kept_begin = kept_then open_section (change (λ s. record s { depth = s.depth + 1 })) kept_open (k.of_depth (λ d. d + 1))

  pub kept_finish_section : P (Unit {0}) end_section
  kept_finish_section = kept_then (change (λ s. record s { depth = s.depth - 1 })) (outside (make Close)) (k.of_depth (λ d. d - 1)) kept_close

  -- ---- cells

  pub kept_read : (c : Slot) → P ℕ (read c)
  kept_read (Own i j) = kept_look ℕ (λ ls c d. unwrap_or (slice_get (cells_at ls i) j) 0)
  kept_read (Common c) =
      k.of_then ℕ ℕ (take_number (ReadOf c)) (λ v. make (Read c v) >> pure v) (k.of_taking (ReadOf c))
      (λ v. kept_then (make (Read c v)) (pure v) (k.of_action (Read c v) tt) (k.of_pure ℕ v))

  pub kept_write : (c : Slot) (v : ℕ) → P (Unit {0}) (write c v)
  kept_write (Own i j) v = k.of_locals (λ ls. with_cell ls i j v)
  kept_write (Common c) v = k.of_action (Write c v) tt

  pub kept_slot_in_shared : (p : Place) (o : Option Shared) (i : ℕ) → P Slot (slot_in_shared p o i)
  kept_slot_in_shared p None i = kept_stop Slot
  kept_slot_in_shared p (Some v) i = kept_cond Slot (nat_lt i v.count) (pure (Common (v.first + i))) (fail p) (k.of_pure Slot (Common (v.first + i))) (kept_fail Slot p)

  pub kept_slot_in : (shared : List Shared) (p : Place) (n : Name) (o : Option ℕ) (i : ℕ) → P Slot (slot_in shared p n o i)
  kept_slot_in shared p n None i = kept_slot_in_shared p (shared_named shared n) i
  kept_slot_in shared p n (Some l) i =
      k.of_choice Slot Bool (λ ls c d. nat_lt i (length (cells_at ls l))) (λ b. cond b (pure (Own l i)) (fail p))
      (λ b. kept_cond Slot b (pure (Own l i)) (fail p) (k.of_pure Slot (Own l i)) (kept_fail Slot p))

  pub kept_slot : (shared : List Shared) (p : Place) (n : Name) (i : ℕ) → P Slot (slot shared p n i)
  kept_slot shared p n i = k.of_choice Slot (Option ℕ) (λ ls c d. local_named ls n) (λ o. slot_in shared p n o i) (λ o. kept_slot_in shared p n o i)

  -- ---- built-in steps

  pub kept_hold : (c : Slot) → P (Unit {0}) (hold c)
  kept_hold (Own i j) = kept_nothing
  kept_hold (Common m) =
      k.of_then ℕ (Unit {0}) (take_number (ReadOf m)) (λ v. make (Read m v) >> (cond (nat_eq v 0) nothing (ends Bad) >> make (Write m 1))) (k.of_taking (ReadOf m))
      (λ v. kept_then (make (Read m v)) (cond (nat_eq v 0) nothing (ends Bad) >> make (Write m 1)) (k.of_action (Read m v) tt)
      (kept_then (cond (nat_eq v 0) nothing (ends Bad)) (make (Write m 1)) (kept_cond (Unit {0}) (nat_eq v 0) nothing (ends Bad) kept_nothing (k.of_end (Unit {0}) Bad)) (k.of_action (Write m 1) tt)))

  pub kept_lock : (c : Slot) → P (Unit {0}) (lock_cell c)
  kept_lock c = kept_then open_section (hold c >> outside (make Close)) kept_open (kept_then (hold c) (outside (make Close)) (kept_hold c) kept_close)

  pub kept_unlock : (c : Slot) → P (Unit {0}) (unlock_cell c)
  kept_unlock c =
      kept_then (outside (make Open)) (write c 0 >> outside (make Close)) (kept_outside (make Open) (k.of_action Open tt))
      (kept_then (write c 0) (outside (make Close)) (kept_write c 0) kept_close)

  pub kept_finish : (A : Type 0) → P A finish
  kept_finish A = k.of_then (Unit {0}) A (make End) (λ _. ends Ended) (k.of_action End tt) (λ _. k.of_end A Ended)

  pub kept_exit : (A : Type 0) → P A exit_thread
  kept_exit A = k.of_choice A Bool (λ ls c d. nat_eq d 0) (λ b. cond b finish (ends Bad)) (λ b. kept_cond A b finish (ends Bad) (kept_finish A) (k.of_end A Bad))

  pub kept_bool : P ℕ any_bool
  kept_bool =
      k.of_then ℕ ℕ (take_number Truth) (λ v. cond (nat_lt v 2) (pure v) (ends Bad)) (k.of_taking Truth)
      (λ v. kept_cond ℕ (nat_lt v 2) (pure v) (ends Bad) (k.of_pure ℕ v) (k.of_end ℕ Bad))

  pub kept_join : (h : ℕ) → P ℕ (join h)
  kept_join h =
      kept_then (outside ask) (make (Join h) >> pure 0) (kept_outside ask kept_ask) (kept_then (make (Join h)) (pure 0) (k.of_action (Join h) tt) (k.of_pure ℕ 0))

  pub kept_operate : (p : Place) (o : BinaryOp) (u w : Bool) (a b : ℕ) → P ℕ (operate p o u w a b)
  kept_operate p o u w a b = kept_cond ℕ _ (fail p) (pure (value_of (binary_op o u w) (a ∷ b ∷ []))) (kept_fail ℕ p) (k.of_pure ℕ (value_of (binary_op o u w) (a ∷ b ∷ [])))
