-- A relation of steps that the parts of two runs have, the two runs have: an induction over all forms. The runs are of one
-- program, of a thread with one handle, for two bounds on loops. A property of one run is a relation that looks at the left side.
-- A relation may have a part that holds of steps on any values, and a part that holds on those that are asked for: it is told
-- what is known of the values at hand, and each step is related whatever is known (`Premised`). Most have one part (`Relation`).
use Rattle.std.proofs.Common.{◌≡◌, ℕ, ◌≤◌, List, [], ◌∷◌, ◌++◌, Option, Some, Bool, true, false, ◌⊎◌, ⊎_elim, inl, inr, take}
use Rattle.std.specs.Prelude.{cond, replicate}
use Rattle.std.specs.List.{AllByRecursion}
use Rattle.dg_base.specs.declared.Place.{Place}
use Rattle.dg_base.specs.declared.operators.Op.{Op}
use Rattle.dg_base.specs.Values.{value_of}
use Rattle.axiom_model.specs.declared.Action.TheVariants.{Fence}
use Rattle.c_tree.specs.declared.program.Param.{Param}
use Rattle.c_tree.specs.declared.program.Function.{Function}
use Rattle.c_rules.specs.declared.builtin.Builtin.TheVariants as b
use Rattle.c_rules.specs.Names.{Name, builtin_named}
use Rattle.c_check.proofs.PlainNames.{all_front, all_back}
use Rattle.run_model.specs.declared.state.Flow.{Flow}
use Rattle.run_model.specs.declared.state.Flow.TheVariants.{Returned}
use Rattle.run_model.specs.declared.state.Local.{Local}
use Rattle.run_model.specs.declared.state.Shared.{Shared}
use Rattle.run_model.specs.declared.state.Need.TheVariants.{Any}
use Rattle.run_model.specs.declared.state.Slot.{Slot}
use Rattle.run_model.specs.declared.state.Slot.TheVariants.{Own}
use Rattle.run_model.specs.Steps.{Outcome, Goes, Halts, Step, ◌>>=◌, ◌>>◌, pure, nothing, look, change, make, take_number, begin_section, end_section, stop, fail}
use Rattle.run_model.specs.Cells.{read, write, slot}
use Rattle.run_model.specs.Calls.{Setting, no_other, spend, function_in, lock_cell, unlock_cell, exit_thread, any_bool, create, join}
use Rattle.run_model.specs.Threads.{parameters, in_section}
use Rattle.run_laws.specs.Leaves.{Leaf, Value, Called}

-- ---- two settings

-- what the two sides have in common, then the bound of each and whether it tells a spent one
pub record Two : Type 0 where
  pub shared : List Shared
  pub functions : List Function
  pub handle : ℕ
  pub turns : ℕ
  pub full : Bool
  pub other_turns : ℕ
  pub other_full : Bool

abbrev pub one : Two → Setting
one g = record { shared = g.shared; functions = g.functions; turns = g.turns; full = g.full; handle = g.handle; other = no_other }

abbrev pub two : Two → Setting
two g = record { shared = g.shared; functions = g.functions; turns = g.other_turns; full = g.other_full; handle = g.handle; other = no_other }

-- ---- values

-- what holds of each value, of each cell that is found, of the locals, and of each name that is called
pub record Values : Type 1 where
  pub word : ℕ → Type 0
  pub cell : Slot → Type 0
  pub locals : List Local → Type 0
  pub calls : Name → Type 0

abbrev pub anything : {A : Type 0} → A → Type 0
anything a = Unit {0}

-- where nothing is asked
abbrev pub no_values : Values
no_values = record { word = anything; cell = anything; locals = anything; calls = anything }

abbrev pub Words : Values → List ℕ → Type 0
Words v [] = Unit {0}
Words v (x ∷ xs) = v.word x × Words v xs

-- the value of a `return`
abbrev pub Leaves : Values → Flow → Type 0
Leaves v (Returned x) = v.word x
Leaves v _ = Unit {0}

-- the constants are such values, and the called names are such
abbrev pub AtLeaf : Values → Leaf → Type 0
AtLeaf v (Value x) = v.word x
AtLeaf v (Called n) = v.calls n

abbrev pub Known : Values → List Leaf → Type 0
Known v xs = AllByRecursion (AtLeaf v) xs

pub known_left : (v : Values) (xs ys : List Leaf) → Known v (xs ++ ys) → Known v xs
known_left v xs ys h = all_front (AtLeaf v) xs ys h

pub known_right : (v : Values) (xs ys : List Leaf) → Known v (xs ++ ys) → Known v ys
known_right v xs ys h = all_back (AtLeaf v) xs ys h

pub nothing_known : (xs : List Leaf) → Known no_values xs
nothing_known [] = tt
nothing_known (Value x ∷ xs) = (tt, nothing_known xs)
nothing_known (Called n ∷ xs) = (tt, nothing_known xs)

pub words-append : (v : Values) (xs ys : List ℕ) → Words v xs → Words v ys → Words v (xs ++ ys)
words-append v [] ys h i = i
words-append v (x ∷ xs) ys h i = (h.0, words-append v xs ys h.1 i)

-- operators give such values of such values, and locals keep what holds of them
pub record Closed (v : Values) : Type 0 where
  pub zero_word : v.word 0
  pub one_word : v.word 1
  pub operators : (o : Op) (xs : List ℕ) → Words v xs → v.word (value_of o xs)
  pub enters : (name : Name) (unsigned : Bool) (n : ℕ) (ls : List Local) → v.locals ls → v.locals (ls ++ record { name = name; unsigned = unsigned; cells = replicate n 0 } ∷ [])
  pub takes : (n : ℕ) (ls : List Local) → v.locals ls → v.locals (take n ls)
  pub begins : (ps : List Param) (xs : List ℕ) → Words v xs → v.locals (parameters [] 0 ps xs)

pub no_values_closed : Closed no_values
no_values_closed = record { zero_word = tt; one_word = tt; operators = λ o xs h. tt; enters = λ n u c ls h. tt; takes = λ n ls h. tt; begins = λ ps xs h. tt }

-- what a step that goes on gives
abbrev pub Ok : {A : Type 0} → (A → Type 0) → Outcome A → Type 0
Ok Q (Goes a t) = Q a
Ok Q (Halts h t) = Unit {0}

pub ok_any : {A : Type 0} (o : Outcome A) → Ok anything o
ok_any (Goes a t) = tt
ok_any (Halts h t) = tt

-- ---- relations

abbrev pub Relation : Type 1
Relation = (A : Type 0) → (A → Type 0) → Step A → Step A → Type 0

-- the same, with what is known of the values at hand
abbrev pub Premised : Type 1
Premised = Type 0 → Relation

-- one thing more is known
pub record Also (C D : Type 0) : Type 0 where
  pub others : C
  pub last : D

-- a step whose spent bound on the left is related to whatever the right side does with more turns
abbrev pub Passes : Two → Values → Relation → Type 0
Passes g v R = (p : Place) (m n : Step Flow) → R Flow (Leaves v) m n → R Flow (Leaves v) (spend (one g) p) n

-- The relation holds of the parts that all steps are made of; a value that a step goes on with is one of those asked for.
pub record Relates (g : Two) (v : Values) (R : Relation) : Type 1 where
  pub of_pure : (A : Type 0) (Q : A → Type 0) (a : A) → Q a → R A Q (pure a) (pure a)
  pub of_then : (A B : Type 0) (P : A → Type 0) (Q : B → Type 0) (m n : Step A) (f h : A → Step B) → R A P m n → ((a : A) → P a → R B Q (f a) (h a)) → R B Q (m >>= f) (n >>= h)
  pub of_choice : (A T : Type 0) (Q : A → Type 0) (c : List Local → T) (f h : T → Step A) → ((ls : List Local) → v.locals ls → R A Q (f (c ls)) (h (c ls))) → R A Q (λ s. f (c s.locals) s) (λ s. h (c s.locals) s)
  pub of_locals : (c : List Local → List Local) → ((ls : List Local) → v.locals ls → v.locals (c ls)) → R (Unit {0}) anything (change (λ s. record s { locals = c s.locals })) (change (λ s. record s { locals = c s.locals }))
  pub of_fail : (A : Type 0) (Q : A → Type 0) (p : Place) → R A Q (fail p) (fail p)
  pub of_stop : (A : Type 0) (Q : A → Type 0) → R A Q stop stop
  pub of_any : R ℕ v.word (take_number Any) (take_number Any)
  pub of_bool : R ℕ v.word any_bool any_bool
  pub of_slot : (p : Place) (n : Name) (i : ℕ) → R Slot v.cell (slot g.shared p n i) (slot g.shared p n i)
  pub of_read : (c : Slot) → v.cell c → R ℕ v.word (read c) (read c)
  pub of_write : (c : Slot) (x : ℕ) → v.cell c → v.word x → R (Unit {0}) anything (write c x) (write c x)
  pub of_own : (i j x : ℕ) → v.word x → R (Unit {0}) anything (write (Own i j) x) (write (Own i j) x)
  pub of_lock : (c : Slot) → v.cell c → R (Unit {0}) anything (lock_cell c) (lock_cell c)
  pub of_unlock : (c : Slot) → v.cell c → R (Unit {0}) anything (unlock_cell c) (unlock_cell c)
  pub of_begin : R (Unit {0}) anything begin_section begin_section
  pub of_end : R (Unit {0}) anything end_section end_section
  pub of_exit : R ℕ v.word exit_thread exit_thread
  pub of_create : (c : Slot) (n : Option Name) (x : ℕ) → v.cell c → v.word x → R ℕ v.word (create (one g) c (function_in (one g) n) x) (create (two g) c (function_in (two g) n) x)
  pub of_join : (h : ℕ) → v.word h → R ℕ v.word (join h) (join h)
  pub of_fence : R (Unit {0}) anything (make Fence) (make Fence)
  pub of_spend : (p : Place) → R Flow (Leaves v) (spend (one g) p) (spend (two g) p)
  pub of_turns : (g.other_turns ≡ g.turns) ⊎ ((g.turns ≤ g.other_turns) × Passes g v R)

-- the same, with what is known: it goes on to the step behind, which is related whatever the value is
pub record Carries (g : Two) (v : Values) (R : Premised) : Type 1 where
  pub of_more : (C D A : Type 0) (Q : A → Type 0) (m n : Step A) → (D → C) → R C A Q m n → R D A Q m n
  pub of_pure : (C A : Type 0) (Q : A → Type 0) (a : A) → (C → Q a) → R C A Q (pure a) (pure a)
  pub of_then : (C A B : Type 0) (P : A → Type 0) (Q : B → Type 0) (m n : Step A) (f h : A → Step B) → R C A P m n → ((a : A) → R (Also C (P a)) B Q (f a) (h a)) → R C B Q (m >>= f) (n >>= h)
  pub of_choice : (C A T : Type 0) (Q : A → Type 0) (c : List Local → T) (f h : T → Step A) → ((ls : List Local) → R (Also C (v.locals ls)) A Q (f (c ls)) (h (c ls))) → R C A Q (λ s. f (c s.locals) s) (λ s. h (c s.locals) s)
  pub of_locals : (C : Type 0) (c : List Local → List Local) → (C → (ls : List Local) → v.locals ls → v.locals (c ls)) → R C (Unit {0}) anything (change (λ s. record s { locals = c s.locals })) (change (λ s. record s { locals = c s.locals }))
  pub of_fail : (A : Type 0) (Q : A → Type 0) (p : Place) → R (Unit {0}) A Q (fail p) (fail p)
  pub of_stop : (A : Type 0) (Q : A → Type 0) → R (Unit {0}) A Q stop stop
  pub of_any : R (Unit {0}) ℕ v.word (take_number Any) (take_number Any)
  pub of_bool : R (Unit {0}) ℕ v.word any_bool any_bool
  pub of_slot : (p : Place) (n : Name) (i : ℕ) → R (Unit {0}) Slot v.cell (slot g.shared p n i) (slot g.shared p n i)
  pub of_read : (C : Type 0) (c : Slot) → (C → v.cell c) → R C ℕ v.word (read c) (read c)
  pub of_write : (C : Type 0) (c : Slot) (x : ℕ) → (C → v.cell c) → (C → v.word x) → R C (Unit {0}) anything (write c x) (write c x)
  pub of_own : (C : Type 0) (i j x : ℕ) → (C → v.word x) → R C (Unit {0}) anything (write (Own i j) x) (write (Own i j) x)
  pub of_lock : (C : Type 0) (c : Slot) → (C → v.cell c) → R C (Unit {0}) anything (lock_cell c) (lock_cell c)
  pub of_unlock : (C : Type 0) (c : Slot) → (C → v.cell c) → R C (Unit {0}) anything (unlock_cell c) (unlock_cell c)
  pub of_begin : (n : Name) → v.calls n → builtin_named n ≡ Some b.Begin → R (Unit {0}) (Unit {0}) anything begin_section begin_section
  pub of_end : (n : Name) → v.calls n → builtin_named n ≡ Some b.Finish → R (Unit {0}) (Unit {0}) anything end_section end_section
  pub of_section : (C : Type 0) (m n : Step ℕ) → R C ℕ v.word m n → R C ℕ v.word (in_section m) (in_section n)
  pub of_exit : R (Unit {0}) ℕ v.word exit_thread exit_thread
  pub of_create : (C : Type 0) (c : Slot) (n : Option Name) (x : ℕ) → (C → v.cell c) → (C → v.word x) → R C ℕ v.word (create (one g) c (function_in (one g) n) x) (create (two g) c (function_in (two g) n) x)
  pub of_join : (C : Type 0) (h : ℕ) → (C → v.word h) → R C ℕ v.word (join h) (join h)
  pub of_fence : R (Unit {0}) (Unit {0}) anything (make Fence) (make Fence)
  pub of_spend : (p : Place) → R (Unit {0}) Flow (Leaves v) (spend (one g) p) (spend (two g) p)
  pub of_turns : (g.other_turns ≡ g.turns) ⊎ ((g.turns ≤ g.other_turns) × Passes g v (R (Unit {0})))

-- where a relation needs all that is known
abbrev pub premised : Relation → Premised
premised R C A Q m n = C → R A Q m n

pub carries : (g : Two) (v : Values) (R : Relation) → Relates g v R → Carries g v (premised R)
carries g v R k = record {
  of_more = λ C D A Q m n less p d. p (less d);
  of_pure = λ C A Q a h w. k.of_pure A Q a (h w);
  of_then = λ C A B P Q m n f h p i w. k.of_then A B P Q m n f h (p w) (λ a q. i a (record { others = w; last = q }));
  of_choice = λ C A T Q c f h p w. k.of_choice A T Q c f h (λ ls q. p ls (record { others = w; last = q }));
  of_locals = λ C c h w. k.of_locals c (h w);
  of_fail = λ A Q p w. k.of_fail A Q p;
  of_stop = λ A Q w. k.of_stop A Q;
  of_any = λ w. k.of_any;
  of_bool = λ w. k.of_bool;
  of_slot = λ p n i w. k.of_slot p n i;
  of_read = λ C c h w. k.of_read c (h w);
  of_write = λ C c x h i w. k.of_write c x (h w) (i w);
  of_own = λ C i j x h w. k.of_own i j x (h w);
  of_lock = λ C c h w. k.of_lock c (h w);
  of_unlock = λ C c h w. k.of_unlock c (h w);
  of_begin = λ n h e w. k.of_begin;
  of_end = λ n h e w. k.of_end;
  of_section = λ C m n p w.
      k.of_then (Unit {0}) ℕ anything v.word begin_section begin_section _ _ k.of_begin (λ _ _.
      k.of_then ℕ ℕ v.word v.word m n _ _ (p w) (λ x wx.
      k.of_then (Unit {0}) ℕ anything v.word end_section end_section (λ _. pure x) (λ _. pure x) k.of_end (λ _ _. k.of_pure ℕ v.word x wx)));
  of_exit = λ w. k.of_exit;
  of_create = λ C c n x h i w. k.of_create c n x (h w) (i w);
  of_join = λ C h i w. k.of_join h (i w);
  of_fence = λ w. k.of_fence;
  of_spend = λ p w. k.of_spend p;
  of_turns = ⊎_elim inl (λ h. inr (h.0, λ p m n q w. h.1 p m n (q tt))) k.of_turns;
}

module _ (g : Two) (v : Values) (R : Premised) (k : Carries g v R) where
  -- whatever is known
  pub still : {C A : Type 0} {Q : A → Type 0} {m n : Step A} → R (Unit {0}) A Q m n → R C A Q m n
  still {C = C} {A = A} {Q = Q} {m = m} {n = n} p = k.of_more (Unit {0}) C A Q m n (λ _. tt) p

  pub both_then : {A B : Type 0} (C : Type 0) (P : A → Type 0) (Q : B → Type 0) (m n : Step A) (f h : Step B) → R C A P m n → R C B Q f h → R C B Q (m >> f) (n >> h)
  both_then {A = A} {B = B} C P Q m n f h p q = k.of_then C A B P Q m n (λ _. f) (λ _. h) p (λ a. k.of_more C (Also C (P a)) B Q f h (λ w. w.others) q)

  pub both_nothing : R (Unit {0}) (Unit {0}) anything nothing nothing
  both_nothing = k.of_pure (Unit {0}) (Unit {0}) anything tt (λ _. tt)

  pub both_look : (C A : Type 0) (Q : A → Type 0) (c : List Local → A) → ((ls : List Local) → v.locals ls → Q (c ls)) → R C A Q (look (λ s. c s.locals)) (look (λ s. c s.locals))
  both_look C A Q c h = k.of_choice C A A Q c (λ a. pure a) (λ a. pure a) (λ ls. k.of_pure (Also C (v.locals ls)) A Q (c ls) (λ w. h ls w.last))

  pub both_cond : (C A : Type 0) (Q : A → Type 0) (b : Bool) (m n f h : Step A) → R C A Q m f → R C A Q n h → R C A Q (cond b m n) (cond b f h)
  both_cond C A Q true m n f h p q = p
  both_cond C A Q false m n f h p q = q
