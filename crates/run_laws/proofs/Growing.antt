-- Steps that make at most so many actions, create at most so many threads and only threads of some functions, and leave locals of
-- known names.
use Rattle.std.proofs.Common.{◌≡◌, ℕ, zero, suc, ◌+◌, ◌-◌, ◌*◌, ◌≤◌, List, [], ◌∷◌, ◌++◌, Option, Some, None, Bool, true, false, length, refl, sym, ap, ◌∙◌, subst, arith, append-nil, append_assoc, length-append}
use Rattle.std.specs.Prelude.{cond, nat_eq, nat_lt}
use Rattle.dg_base.specs.declared.Place.{Place}
use Rattle.axiom_model.specs.declared.Action.{Action}
use Rattle.axiom_model.specs.declared.Action.TheVariants.{Read, Write, Open, Close, Create, Join, End}
use Rattle.c_rules.specs.Names.{Name}
use Rattle.c_check.specs.declared.counts.Counts.{Counts}
use Rattle.run_model.specs.declared.state.Ending.{Ending}
use Rattle.run_model.specs.declared.state.Ending.TheVariants.{Ended, Bad, Failed}
use Rattle.run_model.specs.declared.state.Local.{Local}
use Rattle.run_model.specs.declared.state.Need.{Need}
use Rattle.run_model.specs.declared.state.Need.TheVariants.{ReadOf, Go, Truth}
use Rattle.run_model.specs.declared.state.Shared.{Shared}
use Rattle.run_model.specs.declared.state.Slot.{Slot}
use Rattle.run_model.specs.declared.state.Slot.TheVariants.{Own, Common}
use Rattle.run_model.specs.Steps.{State, Outcome, Goes, Halts, Step, go_on, ◌>>=◌, ◌>>◌, pure, nothing, look, change, ends, make, take_from, take_number, obey, ask, outside, open_section, begin_section, end_section, stop, fail}
use Rattle.run_model.specs.Cells.{cells_at, with_cell, read, write, slot, slot_in, slot_in_shared, shared_named, local_named}
use Rattle.run_model.specs.Calls.{Setting, spend, hold, lock_cell, unlock_cell, finish, exit_thread, any_bool, create, join}
use Rattle.run_model.specs.Laws.{creates_in}
use Rattle.run_model.proofs.Kept.{IsPlain}
use Rattle.run_model.proofs.Handles.{creates_in-append, state_in}
use Rattle.run_laws.proofs.Naming.{names, cell_names}

-- ---- actions

-- the threads that these actions create are of such functions
abbrev pub CreatesOf : (ℕ → Type 0) → List Action → Type 0
CreatesOf q [] = Unit {0}
CreatesOf q (Create h f a ∷ acts) = q f × CreatesOf q acts
CreatesOf q (a ∷ acts) = CreatesOf q acts

plain_none : (a : Action) → IsPlain a → creates_in (a ∷ []) ≡ 0
plain_none (Create h f v) p = absurd p
plain_none _ p = refl

-- ---- sizes

-- how many threads actions create, and how many actions there are
pub record Size : Type 0 where
  pub creates : ℕ
  pub actions : ℕ

-- what counts allow: an access to a shared cell, a call, an argument and an operator make at most four actions each
abbrev pub size_of : Counts → Size
size_of c = record { creates = c.creates; actions = 4 * (c.accesses + c.weight) }

abbrev pub actions : ℕ → Size
actions n = record { creates = 0; actions = n }

abbrev pub none : Size
none = actions 0

abbrev pub plus : Size → Size → Size
plus a b = record { creates = a.creates + b.creates; actions = a.actions + b.actions }

abbrev pub Fits : Size → Size → Type 0
Fits a n = (a.creates ≤ n.creates) × (a.actions ≤ n.actions)

-- ---- what steps go on with

abbrev pub anything : {A : Type 0} → A → Type 0
anything a = Unit {0}

-- what holds of the value and the names of the locals
abbrev pub Given : {A : Type 0} → (A → List Name → Type 0) → Outcome A → Type 0
Given Q (Goes x t) = Q x (names t.locals)
Given Q (Halts e t) = Unit {0}

-- a cell of which an access is counted: a shared one makes an action
abbrev pub Touches : ℕ → Slot → Type 0
Touches n (Own i j) = Unit {0}
Touches n (Common c) = 1 ≤ n

pub touches_more : (a b : ℕ) (c : Slot) → a ≤ b → Touches a c → Touches b c
touches_more a b (Own i j) low h = tt
touches_more a b (Common c) low h = omega (arith, low, h)

pub any_cell : (c : Slot) → Touches 1 c
any_cell (Own i j) = tt
any_cell (Common c) = omega arith

module _ (q : ℕ → Type 0) where
  of_both : (xs ys : List Action) → CreatesOf q xs → CreatesOf q ys → CreatesOf q (xs ++ ys)
  of_both [] ys g h = h
  of_both (Create h f a ∷ xs) ys g k = (g.0, of_both xs ys g.1 k)
  of_both (x ∷ xs) ys g h = of_both xs ys g h

  of_none : (xs : List Action) → creates_in xs ≡ 0 → CreatesOf q xs
  of_none [] e = tt
  of_none (Create h f a ∷ xs) e = absurd (omega (arith, e))
  of_none (x ∷ xs) e = of_none xs e

  -- ---- states

  -- from one state to another at most so many actions are made and threads created, each of such a function
  pub record Grows (n : Size) (s t : State) : Type 0 where
    pub made : List Action
    pub actions : t.actions ≡ s.actions ++ made
    pub few : creates_in made ≤ n.creates
    pub short : length made ≤ n.actions
    pub fine : CreatesOf q made

  grows_none : (n : Size) (s t : State) → s.actions ≡ t.actions → Grows n s t
  grows_none n s t e = record { made = []; actions = sym e ∙ sym (append-nil s.actions); few = omega arith; short = omega arith; fine = tt }

  grows_both : (a b n : Size) (s t u : State) → Grows a s t → Grows b t u → Fits (plus a b) n → Grows n s u
  grows_both a b n s t u one two low = record {
    made = one.made ++ two.made;
    actions = two.actions ∙ ap (λ xs. xs ++ two.made) one.actions ∙ append_assoc s.actions one.made two.made;
    few = omega (arith, one.few, two.few, creates_in-append one.made two.made, low.0);
    short = omega (arith, one.short, two.short, length-append one.made two.made, low.1);
    fine = of_both one.made two.made one.fine two.fine;
  }

  grows_more : (a n : Size) (s t : State) → Grows a s t → Fits a n → Grows n s t
  grows_more a n s t one low = record {
    made = one.made;
    actions = one.actions;
    few = omega (arith, one.few, low.0);
    short = omega (arith, one.short, low.1);
    fine = one.fine;
  }

  -- ---- steps

  -- a step of this size, where locals have these names; and what holds of its value and of the names of the locals behind it
  pub record Within (n : Size) (ns : List Name) (A : Type 0) (Q : A → List Name → Type 0) (m : Step A) : Type 0 where
    pub adds : (s : State) → names s.locals ≡ ns → Grows n s (state_in (m s))
    pub gives : (s : State) → names s.locals ≡ ns → Given Q (m s)

  -- one that keeps the names
  abbrev pub Calm : Size → List Name → (A : Type 0) → (A → Type 0) → Step A → Type 0
  Calm n ns A P m = Within n ns A (λ x ks. P x × (ks ≡ ns)) m

  pub within_more : (a n : Size) (ns : List Name) (A : Type 0) (Q : A → List Name → Type 0) (m : Step A) → Fits a n → Within a ns A Q m → Within n ns A Q m
  within_more a n ns A Q m low h = record { adds = λ s e. grows_more a n s (state_in (m s)) (h.adds s e) low; gives = h.gives }

  weaker_at : (A : Type 0) (P Q : A → List Name → Type 0) → ((x : A) (ks : List Name) → P x ks → Q x ks) → (o : Outcome A) → Given P o → Given Q o
  weaker_at A P Q less (Goes x t) h = less x (names t.locals) h
  weaker_at A P Q less (Halts e t) h = tt

  pub within_weaker : (n : Size) (ns : List Name) (A : Type 0) (P Q : A → List Name → Type 0) (m : Step A) → ((x : A) (ks : List Name) → P x ks → Q x ks) → Within n ns A P m → Within n ns A Q m
  within_weaker n ns A P Q m less h = record { adds = h.adds; gives = λ s e. weaker_at A P Q less (m s) (h.gives s e) }

  module _ (a b n : Size) (A B : Type 0) (P : A → List Name → Type 0) (Q : B → List Name → Type 0) (f : A → Step B) (low : Fits (plus a b) n) (h : (x : A) (ks : List Name) → P x ks → Within b ks B Q (f x)) where
    then_adds : (s : State) (o : Outcome A) → Grows a s (state_in o) → Given P o → Grows n s (state_in (go_on o f))
    then_adds s (Goes x t) one given = grows_both a b n s t (state_in (f x t)) one ((h x (names t.locals) given).adds t refl) low
    then_adds s (Halts e t) one given = grows_more a n s t one (omega (arith, low.0), omega (arith, low.1))

    then_gives : (o : Outcome A) → Given P o → Given Q (go_on o f)
    then_gives (Goes x t) given = (h x (names t.locals) given).gives t refl
    then_gives (Halts e t) given = tt

  pub within_then : (a b n : Size) (ns : List Name) (A B : Type 0) (P : A → List Name → Type 0) (Q : B → List Name → Type 0) (m : Step A) (f : A → Step B)
      → Fits (plus a b) n → Within a ns A P m → ((x : A) (ks : List Name) → P x ks → Within b ks B Q (f x)) → Within n ns B Q (m >>= f)
  within_then a b n ns A B P Q m f low p h = record {
    adds = λ s e. then_adds a b n A B P Q f low h s (m s) (p.adds s e) (p.gives s e);
    gives = λ s e. then_gives a b n A B P Q f low h (m s) (p.gives s e);
  }

  -- behind a step that keeps the names
  pub calm_then : (a b n : Size) (ns : List Name) (A B : Type 0) (P : A → Type 0) (Q : B → List Name → Type 0) (m : Step A) (f : A → Step B)
      → Fits (plus a b) n → Calm a ns A P m → ((x : A) → P x → Within b ns B Q (f x)) → Within n ns B Q (m >>= f)
  calm_then a b n ns A B P Q m f low p h =
      within_then a b n ns A B (λ x ks. P x × (ks ≡ ns)) Q m f low p (λ x ks given. subst (λ (ks : List Name). Within b ks B Q (f x)) (sym given.1) (h x given.0))

  -- steps behind which, or before which, nothing is made
  pub behind : (n : Size) (ns : List Name) (A B : Type 0) (P : A → Type 0) (Q : B → List Name → Type 0) (m : Step A) (f : A → Step B)
      → Calm n ns A P m → ((x : A) → P x → Within none ns B Q (f x)) → Within n ns B Q (m >>= f)
  behind n ns A B P Q m f p h = calm_then n none n ns A B P Q m f (omega arith, omega arith) p h

  pub before : (n : Size) (ns : List Name) (A B : Type 0) (P : A → Type 0) (Q : B → List Name → Type 0) (m : Step A) (f : A → Step B)
      → Calm none ns A P m → ((x : A) → P x → Within n ns B Q (f x)) → Within n ns B Q (m >>= f)
  before n ns A B P Q m f p h = calm_then none n n ns A B P Q m f (omega arith, omega arith) p h

  pub within_cond : (n : Size) (ns : List Name) (A : Type 0) (Q : A → List Name → Type 0) (c : Bool) (x y : Step A) → Within n ns A Q x → Within n ns A Q y → Within n ns A Q (cond c x y)
  within_cond n ns A Q true x y g h = g
  within_cond n ns A Q false x y g h = h

  -- a step that goes by what is read off the state
  pub within_choice : (n : Size) (ns : List Name) (A T : Type 0) (Q : A → List Name → Type 0) (g : State → T) (f : T → Step A) → ((t : T) → Within n ns A Q (f t)) → Within n ns A Q (λ s. f (g s) s)
  within_choice n ns A T Q g f h = record { adds = λ s e. (h (g s)).adds s e; gives = λ s e. (h (g s)).gives s e }

  -- ---- steps that make nothing

  pub calm_pure : (n : Size) (ns : List Name) (A : Type 0) (P : A → Type 0) (a : A) → P a → Calm n ns A P (pure a)
  calm_pure n ns A P a h = record { adds = λ s e. grows_none n s s refl; gives = λ s e. (h, e) }

  pub within_pure : (n : Size) (ns : List Name) (A : Type 0) (Q : A → List Name → Type 0) (a : A) → Q a ns → Within n ns A Q (pure a)
  within_pure n ns A Q a h = record { adds = λ s e. grows_none n s s refl; gives = λ s e. subst (Q a) (sym e) h }

  pub calm_nothing : (n : Size) (ns : List Name) → Calm n ns (Unit {0}) anything nothing
  calm_nothing n ns = calm_pure n ns (Unit {0}) anything tt tt

  pub calm_look : (n : Size) (ns : List Name) (A : Type 0) (P : A → Type 0) (f : State → A) → ((s : State) → names s.locals ≡ ns → P (f s)) → Calm n ns A P (look f)
  calm_look n ns A P f h = record { adds = λ s e. grows_none n s s refl; gives = λ s e. (h s e, e) }

  -- the locals change
  pub within_locals : (n : Size) (ns : List Name) (Q : Unit {0} → List Name → Type 0) (f : List Local → List Local) → ((ls : List Local) → names ls ≡ ns → Q tt (names (f ls)))
      → Within n ns (Unit {0}) Q (change (λ s. record s { locals = f s.locals }))
  within_locals n ns Q f h = record { adds = λ s e. grows_none n s (record s { locals = f s.locals }) refl; gives = λ s e. h s.locals e }

  pub within_stop : (n : Size) (ns : List Name) (A : Type 0) (Q : A → List Name → Type 0) → Within n ns A Q stop
  within_stop n ns A Q = record { adds = λ s e. grows_none n s s refl; gives = λ s e. tt }

  pub within_end : (n : Size) (ns : List Name) (A : Type 0) (Q : A → List Name → Type 0) (x : Ending) → Within n ns A Q (ends x)
  within_end n ns A Q x = record { adds = λ s e. grows_none n s s refl; gives = λ s e. tt }

  pub within_fail : (n : Size) (ns : List Name) (A : Type 0) (Q : A → List Name → Type 0) (p : Place) → Within n ns A Q (fail p)
  within_fail n ns A Q p = within_end n ns A Q (Failed p)

  pub within_spend : (n : Size) (ns : List Name) (A : Type 0) (Q : A → List Name → Type 0) (g : Setting) (p : Place) → Within n ns A Q (spend g p)
  within_spend n ns A Q g p = record { adds = λ s e. grows_none n s s refl; gives = λ s e. tt }

  module _ (n : Size) (ns : List Name) (need : Need) where
    taking_adds : (s : State) (xs : List ℕ) → Grows n s (state_in (take_from need xs s))
    taking_adds s [] = grows_none n s s refl
    taking_adds s (x ∷ xs) = grows_none n s _ refl

    taking_gives : (s : State) (xs : List ℕ) → names s.locals ≡ ns → Given (λ (x : ℕ) (ks : List Name). Unit {0} × (ks ≡ ns)) (take_from need xs s)
    taking_gives s [] e = tt
    taking_gives s (x ∷ xs) e = (tt, e)

    pub calm_taking : Calm n ns ℕ anything (take_number need)
    calm_taking = record { adds = λ s e. taking_adds s s.script; gives = λ s e. taking_gives s s.script e }

  calm_depth : (n : Size) (ns : List Name) (f : ℕ → ℕ) → Calm n ns (Unit {0}) anything (change (λ s. record s { depth = f s.depth }))
  calm_depth n ns f = record { adds = λ s e. grows_none n s (record s { depth = f s.depth }) refl; gives = λ s e. (tt, e) }

  -- ---- actions

  -- an action that is no create
  pub calm_make : (n : Size) (ns : List Name) (a : Action) → IsPlain a → 1 ≤ n.actions → Calm n ns (Unit {0}) anything (make a)
  calm_make n ns a plain low = record {
    adds = λ s e. record {
      made = a ∷ [];
      actions = refl;
      few = omega (arith, plain_none a plain);
      short = omega (arith, low);
      fine = of_none (a ∷ []) (plain_none a plain);
    };
    gives = λ s e. (tt, e);
  }

  calm_outside : (n : Size) (ns : List Name) (m : Step (Unit {0})) → Calm n ns (Unit {0}) anything m → Calm n ns (Unit {0}) anything (outside m)
  calm_outside n ns m h = within_choice n ns (Unit {0}) Bool (λ x ks. Unit {0} × (ks ≡ ns)) (λ s. nat_eq s.depth 0) (λ b. cond b m nothing) (λ b. within_cond n ns (Unit {0}) (λ x ks. Unit {0} × (ks ≡ ns)) b m nothing h (calm_nothing n ns))

  calm_obey : (n : Size) (ns : List Name) (v : ℕ) → Calm n ns (Unit {0}) anything (obey v)
  calm_obey n ns zero = record { adds = λ s e. grows_none n s s refl; gives = λ s e. tt }
  calm_obey n ns (suc zero) = calm_nothing n ns
  calm_obey n ns (suc (suc v)) = record { adds = λ s e. grows_none n s s refl; gives = λ s e. tt }

  calm_ask : (ns : List Name) → Calm none ns (Unit {0}) anything ask
  calm_ask ns = behind none ns ℕ (Unit {0}) anything _ (take_number Go) obey (calm_taking none ns Go) (λ v _. calm_obey none ns v)

  calm_open : (ns : List Name) → Calm (actions 1) ns (Unit {0}) anything open_section
  calm_open ns =
      calm_outside (actions 1) ns (ask >> make Open)
      (before (actions 1) ns (Unit {0}) (Unit {0}) anything _ ask (λ _. make Open) (calm_ask ns) (λ _ _. calm_make (actions 1) ns Open tt (omega arith)))

  calm_close : (ns : List Name) → Calm (actions 1) ns (Unit {0}) anything (outside (make Close))
  calm_close ns = calm_outside (actions 1) ns (make Close) (calm_make (actions 1) ns Close tt (omega arith))

  pub calm_begin : (ns : List Name) → Calm (actions 1) ns (Unit {0}) anything begin_section
  calm_begin ns = behind (actions 1) ns (Unit {0}) (Unit {0}) anything _ open_section _ (calm_open ns) (λ _ _. calm_depth none ns (λ d. d + 1))

  pub calm_end : (ns : List Name) → Calm (actions 1) ns (Unit {0}) anything end_section
  calm_end ns =
      before (actions 1) ns (Unit {0}) (Unit {0}) anything _ (change (λ s. record s { depth = s.depth - 1 })) (λ _. outside (make Close)) (calm_depth none ns (λ d. d - 1)) (λ _ _. calm_close ns)

  -- ---- cells

  pub calm_read : (n : Size) (ns : List Name) (c : Slot) → Touches n.actions c → Calm n ns ℕ anything (read c)
  calm_read n ns (Own i j) h = record { adds = λ s e. grows_none n s s refl; gives = λ s e. (tt, e) }
  calm_read n ns (Common c) h =
      before n ns ℕ ℕ anything _ (take_number (ReadOf c)) (λ v. make (Read c v) >> pure v) (calm_taking none ns (ReadOf c))
      (λ v _. behind n ns (Unit {0}) ℕ anything _ (make (Read c v)) (λ _. pure v) (calm_make n ns (Read c v) tt h) (λ _ _. calm_pure none ns ℕ anything v tt))

  pub calm_write : (n : Size) (ns : List Name) (c : Slot) (v : ℕ) → Touches n.actions c → Calm n ns (Unit {0}) anything (write c v)
  calm_write n ns (Own i j) v h = within_locals n ns (λ x ks. Unit {0} × (ks ≡ ns)) (λ ls. with_cell ls i j v) (λ ls e. (tt, cell_names ls i j v ∙ e))
  calm_write n ns (Common c) v h = calm_make n ns (Write c v) tt h

  -- where no local has the name, an access is counted
  abbrev pub Found : ℕ → List Name → Name → Type 0
  Found k ns name = (ls : List Local) → names ls ≡ ns → local_named ls name ≡ None → 1 ≤ k

  module _ (n : Size) (ns : List Name) (k : ℕ) (p : Place) where
    shared_touches : (o : Option Shared) (i : ℕ) → 1 ≤ k → Calm n ns Slot (Touches k) (slot_in_shared p o i)
    shared_touches None i h = record { adds = λ s e. grows_none n s s refl; gives = λ s e. tt }
    shared_touches (Some v) i h =
        within_cond n ns Slot (λ x ks. Touches k x × (ks ≡ ns)) (nat_lt i v.count) (pure (Common (v.first + i))) (fail p) (calm_pure n ns Slot (Touches k) (Common (v.first + i)) h) (within_fail n ns Slot (λ x ks. Touches k x × (ks ≡ ns)) p)

    slot_touches : (shared : List Shared) (name : Name) (i : ℕ) (o : Option ℕ) → (o ≡ None → 1 ≤ k) → Calm n ns Slot (Touches k) (slot_in shared p name o i)
    slot_touches shared name i None h = shared_touches (shared_named shared name) i (h refl)
    slot_touches shared name i (Some l) h =
        within_choice n ns Slot Bool (λ x ks. Touches k x × (ks ≡ ns)) (λ s. nat_lt i (length (cells_at s.locals l))) (λ b. cond b (pure (Own l i)) (fail p)) (λ b.
        within_cond n ns Slot (λ x ks. Touches k x × (ks ≡ ns)) b (pure (Own l i)) (fail p) (calm_pure n ns Slot (Touches k) (Own l i) tt) (within_fail n ns Slot (λ x ks. Touches k x × (ks ≡ ns)) p))

    pub calm_slot : (shared : List Shared) (name : Name) (i : ℕ) → Found k ns name → Calm n ns Slot (Touches k) (slot shared p name i)
    calm_slot shared name i h = record {
      adds = λ s e. (slot_touches shared name i (local_named s.locals name) (h s.locals e)).adds s e;
      gives = λ s e. (slot_touches shared name i (local_named s.locals name) (h s.locals e)).gives s e;
    }

  -- ---- built-in steps

  calm_hold : (ns : List Name) (c : Slot) → Calm (actions 2) ns (Unit {0}) anything (hold c)
  calm_hold ns (Own i j) = calm_nothing (actions 2) ns
  calm_hold ns (Common m) =
      before (actions 2) ns ℕ (Unit {0}) anything _ (take_number (ReadOf m)) _ (calm_taking none ns (ReadOf m)) (λ v _.
      calm_then (actions 1) (actions 1) (actions 2) ns (Unit {0}) (Unit {0}) anything _ (make (Read m v)) _ (omega arith, omega arith) (calm_make (actions 1) ns (Read m v) tt (omega arith)) (λ _ _.
      before (actions 1) ns (Unit {0}) (Unit {0}) anything _ (cond (nat_eq v 0) nothing (ends Bad)) (λ _. make (Write m 1))
      (within_cond none ns (Unit {0}) (λ x ks. Unit {0} × (ks ≡ ns)) (nat_eq v 0) nothing (ends Bad) (calm_nothing none ns) (within_end none ns (Unit {0}) (λ x ks. Unit {0} × (ks ≡ ns)) Bad))
      (λ _ _. calm_make (actions 1) ns (Write m 1) tt (omega arith))))

  pub calm_lock : (ns : List Name) (c : Slot) → Calm (actions 4) ns (Unit {0}) anything (lock_cell c)
  calm_lock ns c =
      calm_then (actions 1) (actions 3) (actions 4) ns (Unit {0}) (Unit {0}) anything _ open_section (λ _. hold c >> outside (make Close)) (omega arith, omega arith) (calm_open ns) (λ _ _.
      calm_then (actions 2) (actions 1) (actions 3) ns (Unit {0}) (Unit {0}) anything _ (hold c) (λ _. outside (make Close)) (omega arith, omega arith) (calm_hold ns c) (λ _ _. calm_close ns))

  pub calm_unlock : (ns : List Name) (c : Slot) → Calm (actions 4) ns (Unit {0}) anything (unlock_cell c)
  calm_unlock ns c =
      calm_then (actions 1) (actions 2) (actions 4) ns (Unit {0}) (Unit {0}) anything _ (outside (make Open)) (λ _. write c 0 >> outside (make Close)) (omega arith, omega arith)
      (calm_outside (actions 1) ns (make Open) (calm_make (actions 1) ns Open tt (omega arith))) (λ _ _.
      calm_then (actions 1) (actions 1) (actions 2) ns (Unit {0}) (Unit {0}) anything _ (write c 0) (λ _. outside (make Close)) (omega arith, omega arith) (calm_write (actions 1) ns c 0 (any_cell c)) (λ _ _. calm_close ns))

  pub within_finish : (ns : List Name) (A : Type 0) (Q : A → List Name → Type 0) → Within (actions 1) ns A Q finish
  within_finish ns A Q = behind (actions 1) ns (Unit {0}) A anything Q (make End) (λ _. ends Ended) (calm_make (actions 1) ns End tt (omega arith)) (λ _ _. within_end none ns A Q Ended)

  pub calm_exit : (ns : List Name) → Calm (actions 1) ns ℕ anything exit_thread
  calm_exit ns =
      within_choice (actions 1) ns ℕ Bool (λ x ks. Unit {0} × (ks ≡ ns)) (λ s. nat_eq s.depth 0) (λ b. cond b finish (ends Bad)) (λ b.
      within_cond (actions 1) ns ℕ (λ x ks. Unit {0} × (ks ≡ ns)) b finish (ends Bad) (within_finish ns ℕ (λ x ks. Unit {0} × (ks ≡ ns))) (within_end (actions 1) ns ℕ (λ x ks. Unit {0} × (ks ≡ ns)) Bad))

  pub calm_bool : (n : Size) (ns : List Name) → Calm n ns ℕ anything any_bool
  calm_bool n ns =
      behind n ns ℕ ℕ anything _ (take_number Truth) _ (calm_taking n ns Truth) (λ v _.
      within_cond none ns ℕ (λ x ks. Unit {0} × (ks ≡ ns)) (nat_lt v 2) (pure v) (ends Bad) (calm_pure none ns ℕ anything v tt) (within_end none ns ℕ (λ x ks. Unit {0} × (ks ≡ ns)) Bad))

  pub calm_join : (ns : List Name) (h : ℕ) → Calm (actions 1) ns ℕ anything (join h)
  calm_join ns h =
      before (actions 1) ns (Unit {0}) ℕ anything _ (outside ask) _ (calm_outside none ns ask (calm_ask ns)) (λ _ _.
      behind (actions 1) ns (Unit {0}) ℕ anything _ (make (Join h)) (λ _. pure 0) (calm_make (actions 1) ns (Join h) tt (omega arith)) (λ _ _. calm_pure none ns ℕ anything 0 tt))

  -- a create of such a function
  pub calm_create : (g : Setting) (ns : List Name) (v : Slot) (f arg : ℕ) → q f → Calm (record { creates = 1; actions = 2 }) ns ℕ anything (create g v f arg)
  calm_create g ns (Own i j) f arg h = record {
    adds = λ s e. record { made = Create (64 * g.handle + s.created + 1) f arg ∷ []; actions = refl; few = omega arith; short = omega arith; fine = (h, tt) };
    gives = λ s e. (tt, cell_names s.locals i j (64 * g.handle + s.created + 1) ∙ e);
  }
  calm_create g ns (Common c) f arg h = record {
    adds = λ s e. record {
      made = Write c (64 * g.handle + s.created + 1) ∷ Create (64 * g.handle + s.created + 1) f arg ∷ [];
      actions = append_assoc s.actions _ _;
      few = omega arith;
      short = omega arith;
      fine = (h, tt);
    };
    gives = λ s e. (tt, e);
  }
