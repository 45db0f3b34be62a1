-- What steps do to the depth of sections and to their marks.
use Rattle.std.proofs.Common.{◌≡◌, ℕ, zero, suc, ◌+◌, ◌-◌, ◌*◌, List, [], ◌∷◌, ◌++◌, Option, Some, None, Bool, true, false, refl, sym, subst, arith}
use Rattle.std.specs.Prelude.{cond, nat_eq, nat_lt}
use Rattle.std.proofs.lemmas.Bool.{false≢true, ne_eqb}
use Rattle.dg_base.specs.declared.Place.{Place}
use Rattle.axiom_model.specs.declared.Action.{Action}
use Rattle.axiom_model.specs.declared.Action.TheVariants as action
use Rattle.c_rules.specs.Names.{Name}
use Rattle.run_model.specs.declared.state.Ending.{Ending}
use Rattle.run_model.specs.declared.state.Ending.TheVariants.{Stopped, Bound, Bad}
use Rattle.run_model.specs.declared.state.Halt.TheVariants.{Over, Short}
use Rattle.run_model.specs.declared.state.Local.{Local}
use Rattle.run_model.specs.declared.state.Need.{Need}
use Rattle.run_model.specs.declared.state.Need.TheVariants.{ReadOf, Go, Truth}
use Rattle.run_model.specs.declared.state.Shared.{Shared}
use Rattle.run_model.specs.declared.state.Slot.{Slot}
use Rattle.run_model.specs.declared.state.Slot.TheVariants.{Own, Common}
use Rattle.run_model.specs.Steps.{State, Outcome, Goes, Halts, Step, go_on, ◌>>=◌, ◌>>◌, pure, nothing, look, change, ends, make, take_from, take_number, obey, ask, outside, open_section, begin_section, end_section, stop, fail}
use Rattle.run_model.specs.Cells.{read, write, slot, slot_in, slot_in_shared, shared_named, local_named}
use Rattle.run_model.specs.Calls.{Setting, hold, lock_cell, unlock_cell, finish, exit_thread, any_bool, create, join, spend}
use Rattle.run_model.specs.Threads.{has_ended, in_section}
use Rattle.run_laws.specs.Sections.{AreInTurn, HasSections}
use Rattle.run_laws.proofs.Joint.{anything}
use Rattle.run_laws.proofs.Framing.{quiet, quiet_bound}

-- ---- marks

in_turn-append : (b c d : Bool) (xs ys : List Action) → AreInTurn b xs c → AreInTurn c ys d → AreInTurn b (xs ++ ys) d
in_turn-append b c d [] ys p q = subst (λ x. AreInTurn x ys d) (sym p) q
in_turn-append b c d (action.Open ∷ xs) ys p q = (p.0, in_turn-append true c d xs ys p.1 q)
in_turn-append b c d (action.Close ∷ xs) ys p q = (p.0, in_turn-append false c d xs ys p.1 q)
in_turn-append b c d (x ∷ xs) ys p q = in_turn-append b c d xs ys p q

-- the action neither opens nor closes a section
abbrev pub IsMarkless : Action → Type 0
IsMarkless action.Open = ⊥
IsMarkless action.Close = ⊥
IsMarkless _ = Unit {0}

one_markless : (b : Bool) (a : Action) → IsMarkless a → AreInTurn b (a ∷ []) b
one_markless b action.Open h = absurd h
one_markless b action.Close h = absurd h
one_markless b _ h = refl

behind_markless : (b : Bool) (xs : List Action) (a : Action) → IsMarkless a → AreInTurn false xs b → AreInTurn false (xs ++ a ∷ []) b
behind_markless b xs a h p = in_turn-append false b b xs (a ∷ []) p (one_markless b a h)

-- ---- where a run stands

-- the depth, and whether a section is open
pub record Spot : Type 0 where
  pub depth : ℕ
  pub opened : Bool

-- between steps a section is open where the depth is not 0
abbrev pub at : ℕ → Spot
at zero = record { depth = 0; opened = false }
at (suc n) = record { depth = suc n; opened = true }

pub record IsAt (x : Spot) (s : State) : Type 0 where
  pub depth : s.depth ≡ x.depth
  pub marks : AreInTurn false s.actions x.opened

-- where a step goes on it stands there, with such a value; where it ends the run, the marks stand in turn
abbrev pub Comes : {A : Type 0} → Spot → (A → Type 0) → Outcome A → Type 0
Comes y Q (Goes a t) = IsAt y t × Q a
Comes y Q (Halts (Over e) t) = HasSections t.actions (has_ended e)
Comes y Q (Halts (Short n) t) = HasSections t.actions false

-- a step leads from one spot to another
abbrev pub Leads : Spot → Spot → (A : Type 0) → (A → Type 0) → Step A → Type 0
Leads x y A Q m = (s : State) → IsAt x s → Comes y Q (m s)

then_comes : (y z : Spot) (A B : Type 0) (P : A → Type 0) (Q : B → Type 0) (f : A → Step B) → ((a : A) → P a → Leads y z B Q (f a)) → (o : Outcome A) → Comes y P o → Comes z Q (go_on o f)
then_comes y z A B P Q f rest (Goes a t) one = rest a one.1 t one.0
then_comes y z A B P Q f rest (Halts (Over e) t) one = one
then_comes y z A B P Q f rest (Halts (Short n) t) one = one

pub leads_then : (x y z : Spot) (A B : Type 0) (P : A → Type 0) (Q : B → Type 0) (m : Step A) (f : A → Step B) → Leads x y A P m → ((a : A) → P a → Leads y z B Q (f a)) → Leads x z B Q (m >>= f)
leads_then x y z A B P Q m f p rest s here = then_comes y z A B P Q f rest (m s) (p s here)

pub leads_and : {A B : Type 0} (x y z : Spot) (P : A → Type 0) (Q : B → Type 0) (m : Step A) (n : Step B) → Leads x y A P m → Leads y z B Q n → Leads x z B Q (m >> n)
leads_and {A = A} {B = B} x y z P Q m n p q = leads_then x y z A B P Q m (λ _. n) p (λ _ _. q)

pub leads_pure : (x : Spot) (A : Type 0) (Q : A → Type 0) (a : A) → Q a → Leads x x A Q (pure a)
leads_pure x A Q a q s here = (here, q)

pub leads_nothing : (x : Spot) → Leads x x (Unit {0}) anything nothing
leads_nothing x s here = (here, tt)

pub leads_cond : (x y : Spot) (A : Type 0) (Q : A → Type 0) (b : Bool) (m n : Step A) → Leads x y A Q m → Leads x y A Q n → Leads x y A Q (cond b m n)
leads_cond x y A Q true m n p q = p
leads_cond x y A Q false m n p q = q

-- a run that stops may do so in a section
stopped : (x : Spot) (s : State) → IsAt x s → HasSections s.actions false
stopped x s here = record { opened = x.opened; in_turn = here.marks; closed = λ e. absurd (false≢true e) }

stopped_by : (x : Spot) (s : State) (e : Ending) → has_ended e ≡ false → IsAt x s → HasSections s.actions (has_ended e)
stopped_by x s e h here = subst (λ (b : Bool). HasSections s.actions b) (sym h) (stopped x s here)

leads_ends : (x y : Spot) (A : Type 0) (Q : A → Type 0) (e : Ending) → has_ended e ≡ false → Leads x y A Q (ends e)
leads_ends x y A Q e h s here = stopped_by x s e h here

pub leads_stop : (x y : Spot) (A : Type 0) (Q : A → Type 0) → Leads x y A Q stop
leads_stop x y A Q s here = stopped_by x s (cond (nat_eq s.depth 0) Stopped Bad) (quiet (nat_eq s.depth 0)) here

pub leads_fail : (x y : Spot) (A : Type 0) (Q : A → Type 0) (p : Place) → Leads x y A Q (fail p)
leads_fail x y A Q p s here = stopped x s here

pub leads_spend : (x y : Spot) (A : Type 0) (Q : A → Type 0) (g : Setting) (p : Place) → Leads x y A Q (spend g p)
leads_spend x y A Q g p s here = stopped_by x s (cond g.full (Bound p) (cond (nat_eq s.depth 0) Stopped Bad)) (quiet_bound p g.full (nat_eq s.depth 0)) here

taking_comes : (x : Spot) (n : Need) (s : State) (xs : List ℕ) → IsAt x s → Comes x anything (take_from n xs s)
taking_comes x n s [] here = stopped x s here
taking_comes x n s (v ∷ vs) here = (record { depth = here.depth; marks = here.marks }, tt)

pub leads_taking : (x : Spot) (n : Need) → Leads x x ℕ anything (take_number n)
leads_taking x n s here = taking_comes x n s s.script here

pub leads_make : (x : Spot) (a : Action) → IsMarkless a → Leads x x (Unit {0}) anything (make a)
leads_make x a h s here = (record { depth = here.depth; marks = behind_markless x.opened s.actions a h here.marks }, tt)

pub leads_locals : (x : Spot) (f : List Local → List Local) → Leads x x (Unit {0}) anything (change (λ s. record s { locals = f s.locals }))
leads_locals x f s here = (record { depth = here.depth; marks = here.marks }, tt)

pub leads_look : (x : Spot) (A : Type 0) (f : List Local → A) → Leads x x A anything (look (λ s. f s.locals))
leads_look x A f s here = (here, tt)

-- ---- sections

-- a spot at this depth, with a section open or not
abbrev spot : ℕ → Bool → Spot
spot d b = record { depth = d; opened = b }

leads_opening : (d : ℕ) → Leads (spot d false) (spot d true) (Unit {0}) anything (make action.Open)
leads_opening d s here = (record { depth = here.depth; marks = in_turn-append false false true s.actions (action.Open ∷ []) here.marks (refl, refl) }, tt)

leads_closing : (d : ℕ) → Leads (spot d true) (spot d false) (Unit {0}) anything (make action.Close)
leads_closing d s here = (record { depth = here.depth; marks = in_turn-append false true false s.actions (action.Close ∷ []) here.marks (refl, refl) }, tt)

-- at depth 0 the step is made, at any other it is not
outside_made : (b : Bool) (y : Spot) (m : Step (Unit {0})) → Leads (spot 0 b) y (Unit {0}) anything m → Leads (spot 0 b) y (Unit {0}) anything (outside m)
outside_made b y m p s here = subst (λ (n : ℕ). Comes y anything (cond (nat_eq n 0) m nothing s)) (sym here.depth) (p s here)

not_outside : (n : ℕ) (b : Bool) (s : State) → IsAt (spot (suc n) b) s → nat_eq s.depth 0 ≡ false
not_outside n b s here = ne_eqb s.depth 0 (λ e. absurd (omega (arith, e, here.depth)))

outside_left : (n : ℕ) (b : Bool) (m : Step (Unit {0})) → Leads (spot (suc n) b) (spot (suc n) b) (Unit {0}) anything (outside m)
outside_left n b m s here = subst (λ (t : Bool). Comes (spot (suc n) b) anything (cond t m nothing s)) (sym (not_outside n b s here)) (here, tt)

leads_obey : (x : Spot) (n : ℕ) → Leads x x (Unit {0}) anything (obey n)
leads_obey x zero = leads_ends x x (Unit {0}) anything Stopped refl
leads_obey x (suc zero) = leads_nothing x
leads_obey x (suc (suc n)) = leads_ends x x (Unit {0}) anything Bad refl

leads_ask : (x : Spot) → Leads x x (Unit {0}) anything ask
leads_ask x = leads_then x x x ℕ (Unit {0}) anything anything (take_number Go) obey (leads_taking x Go) (λ n _. leads_obey x n)

leads_open : Leads (spot 0 false) (spot 0 true) (Unit {0}) anything open_section
leads_open = outside_made false (spot 0 true) (ask >> make action.Open) (leads_and (spot 0 false) (spot 0 false) (spot 0 true) anything anything ask (make action.Open) (leads_ask (spot 0 false)) (leads_opening 0))

deeper : (d : ℕ) → Leads (spot d true) (spot (suc d) true) (Unit {0}) anything (change (λ s. record s { depth = s.depth + 1 }))
deeper d s here = (record { depth = omega (arith, here.depth); marks = here.marks }, tt)

less_deep : (d : ℕ) → Leads (spot (suc d) true) (spot d true) (Unit {0}) anything (change (λ s. record s { depth = s.depth - 1 }))
less_deep d s here = (record { depth = omega (arith, here.depth); marks = here.marks }, tt)

pub leads_begin : (d : ℕ) → Leads (at d) (at (suc d)) (Unit {0}) anything begin_section
leads_begin zero = leads_and (spot 0 false) (spot 0 true) (spot 1 true) anything anything open_section (change (λ s. record s { depth = s.depth + 1 })) leads_open (deeper 0)
leads_begin (suc d) =
    leads_and (spot (suc d) true) (spot (suc d) true) (spot (suc (suc d)) true) anything anything open_section (change (λ s. record s { depth = s.depth + 1 })) (outside_left d true (ask >> make action.Open)) (deeper (suc d))

pub leads_end : (d : ℕ) → Leads (at (suc d)) (at d) (Unit {0}) anything end_section
leads_end zero =
    leads_and (spot 1 true) (spot 0 true) (spot 0 false) anything anything (change (λ s. record s { depth = s.depth - 1 })) (outside (make action.Close)) (less_deep 0) (outside_made true (spot 0 false) (make action.Close) (leads_closing 0))
leads_end (suc d) =
    leads_and (spot (suc (suc d)) true) (spot (suc d) true) (spot (suc d) true) anything anything (change (λ s. record s { depth = s.depth - 1 })) (outside (make action.Close)) (less_deep (suc d)) (outside_left d true (make action.Close))

pub leads_section : (d : ℕ) (m : Step ℕ) → Leads (at (suc d)) (at (suc d)) ℕ anything m → Leads (at d) (at d) ℕ anything (in_section m)
leads_section d m p =
    leads_and (at d) (at (suc d)) (at d) anything anything begin_section (m >>= (λ x. end_section >> pure x)) (leads_begin d)
    (leads_then (at (suc d)) (at (suc d)) (at d) ℕ ℕ anything anything m (λ x. end_section >> pure x) p (λ x _.
    leads_and (at (suc d)) (at d) (at d) anything anything end_section (pure x) (leads_end d) (leads_pure (at d) ℕ anything x tt)))

-- ---- cells

pub leads_read : (x : Spot) (c : Slot) → Leads x x ℕ anything (read c)
leads_read x (Own i j) s here = (here, tt)
leads_read x (Common c) s here =
    leads_then x x x ℕ ℕ anything anything (take_number (ReadOf c)) (λ v. make (action.Read c v) >> pure v) (leads_taking x (ReadOf c))
    (λ v _. leads_and x x x anything anything (make (action.Read c v)) (pure v) (leads_make x (action.Read c v) tt) (leads_pure x ℕ anything v tt)) s here

pub leads_write : (x : Spot) (c : Slot) (v : ℕ) → Leads x x (Unit {0}) anything (write c v)
leads_write x (Own i j) v s here = (record { depth = here.depth; marks = here.marks }, tt)
leads_write x (Common c) v s here = leads_make x (action.Write c v) tt s here

leads_shared : (x : Spot) (p : Place) (o : Option Shared) (i : ℕ) → Leads x x Slot anything (slot_in_shared p o i)
leads_shared x p None i = leads_stop x x Slot anything
leads_shared x p (Some v) i = leads_cond x x Slot anything (nat_lt i v.count) (pure (Common (v.first + i))) (fail p) (leads_pure x Slot anything (Common (v.first + i)) tt) (leads_fail x x Slot anything p)

leads_slot_in : (x : Spot) (shared : List Shared) (p : Place) (n : Name) (o : Option ℕ) (i : ℕ) → Leads x x Slot anything (slot_in shared p n o i)
leads_slot_in x shared p n None i s here = leads_shared x p (shared_named shared n) i s here
leads_slot_in x shared p n (Some l) i s here = leads_cond x x Slot anything _ (pure (Own l i)) (fail p) (leads_pure x Slot anything (Own l i) tt) (leads_fail x x Slot anything p) s here

pub leads_slot : (x : Spot) (shared : List Shared) (p : Place) (n : Name) (i : ℕ) → Leads x x Slot anything (slot shared p n i)
leads_slot x shared p n i s here = leads_slot_in x shared p n (local_named s.locals n) i s here

-- ---- built-in steps

leads_hold : (x : Spot) (c : Slot) → Leads x x (Unit {0}) anything (hold c)
leads_hold x (Own i j) = leads_nothing x
leads_hold x (Common m) =
    leads_then x x x ℕ (Unit {0}) anything anything (take_number (ReadOf m)) _ (leads_taking x (ReadOf m)) (λ v _.
    leads_and x x x anything anything (make (action.Read m v)) _ (leads_make x (action.Read m v) tt)
    (leads_and x x x anything anything (cond (nat_eq v 0) nothing (ends Bad)) (make (action.Write m 1)) (leads_cond x x (Unit {0}) anything (nat_eq v 0) nothing (ends Bad) (leads_nothing x) (leads_ends x x (Unit {0}) anything Bad refl))
    (leads_make x (action.Write m 1) tt)))

-- a section around a step, or the step alone where a section is open
around : (m : Step (Unit {0})) → ((x : Spot) → Leads x x (Unit {0}) anything m) → (o : Step (Unit {0})) → Leads (spot 0 false) (spot 0 true) (Unit {0}) anything (outside o) → (d : ℕ) → Leads (at d) (at d) (Unit {0}) anything (outside o >> (m >> outside (make action.Close)))
around m p o q zero =
    leads_and (spot 0 false) (spot 0 true) (spot 0 false) anything anything (outside o) (m >> outside (make action.Close)) q
    (leads_and (spot 0 true) (spot 0 true) (spot 0 false) anything anything m (outside (make action.Close)) (p (spot 0 true)) (outside_made true (spot 0 false) (make action.Close) (leads_closing 0)))
around m p o q (suc d) =
    leads_and (at (suc d)) (at (suc d)) (at (suc d)) anything anything (outside o) (m >> outside (make action.Close)) (outside_left d true o)
    (leads_and (at (suc d)) (at (suc d)) (at (suc d)) anything anything m (outside (make action.Close)) (p (at (suc d))) (outside_left d true (make action.Close)))

pub leads_lock : (c : Slot) (d : ℕ) → Leads (at d) (at d) (Unit {0}) anything (lock_cell c)
leads_lock c d = around (hold c) (λ x. leads_hold x c) (ask >> make action.Open) leads_open d

pub leads_unlock : (c : Slot) (d : ℕ) → Leads (at d) (at d) (Unit {0}) anything (unlock_cell c)
leads_unlock c d = around (write c 0) (λ x. leads_write x c 0) (make action.Open) (outside_made false (spot 0 true) (make action.Open) (leads_opening 0)) d

pub leads_finish : (y : Spot) (A : Type 0) (Q : A → Type 0) → Leads (at 0) y A Q finish
leads_finish y A Q s here = record { opened = false; in_turn = behind_markless false s.actions action.End tt here.marks; closed = λ _. refl }

pub leads_exit : (d : ℕ) → Leads (at d) (at d) ℕ anything exit_thread
leads_exit zero s here = subst (λ (n : ℕ). Comes {A = ℕ} (at 0) anything (cond (nat_eq n 0) finish (ends Bad) s)) (sym here.depth) (leads_finish (at 0) ℕ anything s here)
leads_exit (suc d) s here = subst (λ (t : Bool). Comes {A = ℕ} (at (suc d)) anything (cond t finish (ends Bad) s)) (sym (not_outside d true s here)) (stopped (at (suc d)) s here)

pub leads_bool : (x : Spot) → Leads x x ℕ anything any_bool
leads_bool x =
    leads_then x x x ℕ ℕ anything anything (take_number Truth) (λ v. cond (nat_lt v 2) (pure v) (ends Bad)) (leads_taking x Truth)
    (λ v _. leads_cond x x ℕ anything (nat_lt v 2) (pure v) (ends Bad) (leads_pure x ℕ anything v tt) (leads_ends x x ℕ anything Bad refl))

waited : (d : ℕ) → Leads (at d) (at d) (Unit {0}) anything (outside ask)
waited zero = outside_made false (at 0) ask (leads_ask (at 0))
waited (suc d) = outside_left d true ask

pub leads_join : (h d : ℕ) → Leads (at d) (at d) ℕ anything (join h)
leads_join h d =
    leads_and {B = ℕ} (at d) (at d) (at d) anything anything (outside ask) (make (action.Join h) >> pure 0) (waited d)
    (leads_and {B = ℕ} (at d) (at d) (at d) anything anything (make (action.Join h)) (pure 0) (leads_make (at d) (action.Join h) tt) (leads_pure (at d) ℕ anything 0 tt))

pub leads_create : (x : Spot) (g : Setting) (c : Slot) (f v : ℕ) → Leads x x ℕ anything (create g c f v)
leads_create x g (Own i j) f v s here = (record { depth = here.depth; marks = behind_markless x.opened s.actions (action.Create (64 * g.handle + s.created + 1) f v) tt here.marks }, tt)
leads_create x g (Common c) f v s here = (
  record {
    depth = here.depth;
    marks =
        behind_markless x.opened (s.actions ++ action.Write c (64 * g.handle + s.created + 1) ∷ []) (action.Create (64 * g.handle + s.created + 1) f v) tt
        (behind_markless x.opened s.actions (action.Write c (64 * g.handle + s.created + 1)) tt here.marks);
  },
  tt,
)
