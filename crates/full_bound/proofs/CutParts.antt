-- The parts that every run is made of can be cut, and ended alone.
use Rattle.std.proofs.Common.{◌≡◌, ℕ, zero, suc, ◌+◌, ◌-◌, ◌*◌, ◌<◌, ◌≤◌, ◌^◌, List, [], ◌∷◌, ◌++◌, Option, Some, None, Bool, true, false, length, take, refl, sym, ap, ◌∙◌, subst, append_assoc, append-nil, inl, inr, ◌⊎◌, ⊎_elim, length-append, arith}
use Rattle.std.specs.Prelude.{cond, nat_eq, nat_lt, slice_get, unwrap_or}
use Rattle.std.specs.List.{AllByRecursion}
use Rattle.std.proofs.lemmas.List.{take_at, take-append-le}
use Rattle.std.proofs.lemmas.List.Elements.{All-nil, All-cons}
use Rattle.std.proofs.lemmas.Bool.{false≢true, cases_eq, cases_lt, eqb-true}
use Rattle.dg_base.specs.declared.Place.{Place}
use Rattle.axiom_model.specs.declared.Action.{Action}
use Rattle.axiom_model.specs.declared.Action.TheVariants as action
use Rattle.c_rules.specs.Names.{Name}
use Rattle.run_model.specs.declared.state.Ending.{Ending}
use Rattle.run_model.specs.declared.state.Ending.TheVariants.{Ended, Stopped, Failed, Bound, Bad}
use Rattle.run_model.specs.declared.state.Flow.{Flow}
use Rattle.run_model.specs.declared.state.Halt.TheVariants.{Over}
use Rattle.run_model.specs.declared.state.Local.{Local}
use Rattle.run_model.specs.declared.state.Shared.{Shared}
use Rattle.run_model.specs.declared.state.Need.{Need}
use Rattle.run_model.specs.declared.state.Need.TheVariants.{ReadOf, Truth, Any}
use Rattle.run_model.specs.declared.state.Slot.{Slot}
use Rattle.run_model.specs.declared.state.Slot.TheVariants.{Own, Common}
use Rattle.run_model.specs.Steps.{State, Outcome, Goes, Halts, Step, go_on, ◌>>◌, pure, nothing, change, ends, make, take_from, take_number, ask, outside, open_section, begin_section, end_section, stop, fail}
use Rattle.run_model.specs.Cells.{read, write, slot, slot_in, slot_in_shared, shared_named, local_named, cells_at, with_cell}
use Rattle.run_model.specs.Calls.{Setting, spend, hold, lock_cell, unlock_cell, finish, exit_thread, any_bool, create, join}
use Rattle.run_model.specs.Threads.{is_bad}
use Rattle.run_model.proofs.Kept.{kept_stop, kept_spend, kept_read, kept_lock, kept_begin, kept_exit, kept_bool, kept_join}
use Rattle.run_model.proofs.Handles.{Numbers, numbers_keeps, state_in}
use Rattle.run_model.proofs.Scripts.{Reads, IsReader, reader_keeps, with_script}
use Rattle.run_laws.specs.Short.{IsBehind}
use Rattle.run_laws.specs.Words.{IsWord}
use Rattle.run_laws.proofs.Joint.{anything, Ok, ok_any}
use Rattle.run_laws.proofs.Levels.{IsMarkless}
use Rattle.full_bound.specs.Lone.{Memory, IsLone, is_opened}
use Rattle.full_bound.proofs.Cuts.{opened_append, with_rest, Takes, IsFine, Alone, Level, LevelIn, CutsAt, Cuts, Ends}
use Rattle.full_bound.proofs.CutSteps.{ends_then}

-- ---- marks

marks_kept : (b : Bool) (xs : List Action) → AllByRecursion IsMarkless xs → is_opened b xs ≡ b
marks_kept b [] h = refl
marks_kept b (action.Open ∷ xs) h = absurd h.0
marks_kept b (action.Close ∷ xs) h = absurd h.0
marks_kept b (action.Read c v ∷ xs) h = marks_kept b xs h.1
marks_kept b (action.Write c v ∷ xs) h = marks_kept b xs h.1
marks_kept b (action.Fence ∷ xs) h = marks_kept b xs h.1
marks_kept b (action.Create i f v ∷ xs) h = marks_kept b xs h.1
marks_kept b (action.Join i ∷ xs) h = marks_kept b xs h.1
marks_kept b (action.Start ∷ xs) h = marks_kept b xs h.1
marks_kept b (action.End ∷ xs) h = marks_kept b xs h.1

marks_taken : (n : ℕ) (xs : List Action) → AllByRecursion IsMarkless xs → AllByRecursion IsMarkless (take n xs)
marks_taken zero xs h = tt
marks_taken (suc n) [] h = tt
marks_taken (suc n) (x ∷ xs) h = (h.0, marks_taken n xs h.1)

take_behind : (xs ys : List Action) (k : ℕ) → take (length xs + k) (xs ++ ys) ≡ xs ++ take k ys
take_behind [] ys k = ap (λ n. take n ys) (omega arith)
take_behind (x ∷ xs) ys k =
    let same : suc (length xs) + k ≡ suc (length xs + k) = omega arith in
    ap (λ n. take n (x ∷ xs ++ ys)) same ∙ ap (λ zs. x ∷ zs) (take_behind xs ys k)

-- in an open section it stays open up to the last of the further actions
walled : (xs inner tail : List Action) (n : ℕ) → is_opened false xs ≡ true → AllByRecursion IsMarkless inner → length tail ≤ 1 → length xs ≤ n → n < length (xs ++ (inner ++ tail))
    → is_opened false (take n (xs ++ (inner ++ tail))) ≡ true
walled xs inner tail n o m short low high =
    let k : ℕ = n - length xs in
    let at : n ≡ length xs + k = omega (arith, low) in
    let fits : k ≤ length inner = omega (arith, high, low, short, length-append xs (inner ++ tail), length-append inner tail) in
    let cut : take n (xs ++ (inner ++ tail)) ≡ xs ++ take k inner =
    ap (λ i. take i (xs ++ (inner ++ tail))) at ∙ take_behind xs (inner ++ tail) k ∙ ap (λ zs. xs ++ zs) (take-append-le k inner tail fits) in
    ap (is_opened false) cut ∙ opened_append false xs (take k inner) ∙ ap (λ b. is_opened b (take k inner)) o ∙ marks_kept true (take k inner) (marks_taken k inner m)

-- ---- what the parts keep

adds_by : (handle : ℕ) (A : Type 0) (m : Step A) → Numbers handle A m → (s : State) → IsBehind s.actions (state_in (m s)).actions
adds_by handle A m h s = ((h s).made, (h s).actions)

takes_from : (A : Type 0) (m : Step A) (s : State) (o : Outcome A) → Reads A m s o → Takes A m s o
takes_from A m s (Goes a t) h = record { taken = h.taken; first = h.first; same = h.same }
takes_from A m s (Halts h t) r = tt

takes_by : (A : Type 0) (m : Step A) → IsReader A m → (s : State) → Takes A m s (m s)
takes_by A m h s = takes_from A m s (m s) (h s)

-- a step from one state to another leaves it in its section, or outside
level_kept : (s t : State) (made : List Action) → t.actions ≡ s.actions ++ made → AllByRecursion IsMarkless made → t.depth ≡ s.depth → Level s → Level t
level_kept s t made e m d (inl z) = inl (ap (λ n. nat_eq n 0) d ∙ z)
level_kept s t made e m d (inr o) = inr (ap (is_opened false) e ∙ opened_append false s.actions made ∙ ap (λ b. is_opened b made) o ∙ marks_kept true made m)

-- ---- cuts

-- a cut before the first action
cut_start : (A : Type 0) (m : Step A) (s : State) (acts : List Action) → Level s → IsBehind s.actions acts → ((mem : Memory) → nat_eq s.depth 0 ≡ true → Alone A m s s.actions mem) → CutsAt A m s acts (length s.actions)
cut_start A m s acts l b alone =
    let same : take (length s.actions) acts ≡ s.actions = ap (take (length s.actions)) b.1 ∙ take_at s.actions b.0 (length s.actions) refl in
    subst (λ (ys : List Action). (mem : Memory) → (is_opened false ys ≡ true) ⊎ Alone A m s ys mem) (sym same) (λ mem. ⊎_elim (λ z. inr (alone mem z)) inl l)

-- a step of at most one action
cut_one : (A : Type 0) (m : Step A) (s : State) (acts made : List Action) → acts ≡ s.actions ++ made → length made ≤ 1 → Level s → ((mem : Memory) → nat_eq s.depth 0 ≡ true → Alone A m s s.actions mem) → Cuts A m s acts
cut_one A m s acts made e short l alone n low high =
    let same : n ≡ length s.actions = omega (arith, low, high, short, ap length e, length-append s.actions made) in
    subst (λ i. CutsAt A m s acts i) (sym same) (cut_start A m s acts l (made, e) alone)

-- the further actions, at most one, are no marks, and the depth stays
pub record Few (s t : State) : Type 0 where
  pub made : List Action
  pub actions : t.actions ≡ s.actions ++ made
  pub short : length made ≤ 1
  pub markless : AllByRecursion IsMarkless made
  pub depth : t.depth ≡ s.depth

no_more : (s t : State) → t.actions ≡ s.actions → t.depth ≡ s.depth → Few s t
no_more s t e d = record { made = []; actions = e ∙ sym (append-nil s.actions); short = omega arith; markless = tt; depth = d }

one_more : (s t : State) (a : Action) → t.actions ≡ s.actions ++ a ∷ [] → IsMarkless a → t.depth ≡ s.depth → Few s t
one_more s t a e m d = record { made = a ∷ []; actions = e; short = omega arith; markless = (m, tt); depth = d }

few_level : {A : Type 0} (s : State) (o : Outcome A) → Few s (state_in o) → Level s → LevelIn o
few_level s (Goes a t) h l = level_kept s t h.made h.actions h.markless h.depth l
few_level s (Halts e t) h l = tt

pub ends_few : (handle : ℕ) (A : Type 0) (Q : A → Type 0) (m : Step A) → Numbers handle A m → IsReader A m → ((s : State) → Ok Q (m s)) → ((s : State) → Few s (state_in (m s)))
    → ((s : State) (mem : Memory) → nat_eq s.depth 0 ≡ true → Alone A m s s.actions mem) → Ends A Q m
ends_few handle A Q m n r g few alone = record {
  gives = g;
  adds = adds_by handle A m n;
  takes = takes_by A m r;
  level = λ s l. few_level s (m s) (few s) l;
  alone = alone;
  cuts = λ s l w. cut_one A m s (state_in (m s)).actions (few s).made (few s).actions (few s).short l (alone s);
}

-- ---- steps that end

zero_word : IsWord 0
zero_word = omega arith

-- a step that needs no number to go on alone
done_none : (A : Type 0) (m : Step A) (s : State) (mem : Memory) (made : List Action) (out : Outcome A) → ((others : List ℕ) → m (with_script s others) ≡ with_rest out others)
    → (state_in out).actions ≡ s.actions ++ made → IsLone mem made → IsFine out → Alone A m s s.actions mem
done_none A m s mem made out r e l f = inl (record { script = []; words = All-nil IsWord; made = made; out = out; runs = r; actions = e; lone = l; fine = f })

-- one that takes a 0
done_zero : (A : Type 0) (m : Step A) (s : State) (mem : Memory) (out : Outcome A) → ((others : List ℕ) → m (with_script s (0 ∷ others)) ≡ with_rest out others)
    → (state_in out).actions ≡ s.actions → IsFine out → Alone A m s s.actions mem
done_zero A m s mem out r e f = inl (record { script = 0 ∷ []; words = All-cons IsWord 0 [] zero_word (All-nil IsWord); made = []; out = out; runs = r; actions = e ∙ sym (append-nil s.actions); lone = tt; fine = f })

not_bad : (b : Bool) → b ≡ true → is_bad (cond b Stopped Bad) ≡ false
not_bad true e = refl
not_bad false e = absurd (false≢true e)

not_bad_spent : (b c : Bool) (p : Place) → c ≡ true → is_bad (cond b (Bound p) (cond c Stopped Bad)) ≡ false
not_bad_spent true c p e = refl
not_bad_spent false c p e = not_bad c e

pub ends_pure : (A : Type 0) (Q : A → Type 0) (a : A) → Q a → Ends A Q (pure a)
ends_pure A Q a h =
    ends_few 0 A Q (pure a) ((numbers_keeps 0).of_pure A a) ((reader_keeps 0).of_pure A a) (λ s. h) (λ s. no_more s s refl refl)
    (λ s mem l. done_none A (pure a) s mem [] (Goes a s) (λ others. refl) (sym (append-nil s.actions)) tt l)

pub ends_end : (A : Type 0) (Q : A → Type 0) (e : Ending) → is_bad e ≡ false → Ends A Q (ends e)
ends_end A Q e h =
    ends_few 0 A Q (ends e) ((numbers_keeps 0).of_end A e) ((reader_keeps 0).of_end A e) (λ s. tt) (λ s. no_more s s refl refl)
    (λ s mem l. done_none A (ends e) s mem [] (Halts (Over e) s) (λ others. refl) (sym (append-nil s.actions)) tt h)

pub ends_stop : (A : Type 0) (Q : A → Type 0) → Ends A Q stop
ends_stop A Q =
    ends_few 0 A Q stop (kept_stop 0 (Numbers 0) (numbers_keeps 0) A) (kept_stop 0 IsReader (reader_keeps 0) A) (λ s. tt) (λ s. no_more s s refl refl)
    (λ s mem l. done_none A stop s mem [] (Halts (Over (cond (nat_eq s.depth 0) Stopped Bad)) s) (λ others. refl) (sym (append-nil s.actions)) tt (not_bad (nat_eq s.depth 0) l))

pub ends_spend : (g : Setting) (p : Place) (Q : Flow → Type 0) → Ends Flow Q (spend g p)
ends_spend g p Q =
    ends_few 0 Flow Q (spend g p) (kept_spend 0 (Numbers 0) (numbers_keeps 0) Flow g p) (kept_spend 0 IsReader (reader_keeps 0) Flow g p) (λ s. tt) (λ s. no_more s s refl refl)
    (λ s mem l. done_none Flow (spend g p) s mem [] (Halts (Over (cond g.full (Bound p) (cond (nat_eq s.depth 0) Stopped Bad))) s) (λ others. refl) (sym (append-nil s.actions)) tt
    (not_bad_spent g.full (nat_eq s.depth 0) p l))

pub ends_locals : (c : List Local → List Local) → Ends (Unit {0}) anything (change (λ s. record s { locals = c s.locals }))
ends_locals c =
    ends_few 0 (Unit {0}) anything (change (λ s. record s { locals = c s.locals })) ((numbers_keeps 0).of_locals c) ((reader_keeps 0).of_locals c) (λ s. tt) (λ s. no_more s _ refl refl)
    (λ s mem l. done_none (Unit {0}) (change (λ s. record s { locals = c s.locals })) s mem [] (Goes tt (record s { locals = c s.locals })) (λ others. refl) (sym (append-nil s.actions)) tt l)

-- an action that is no mark, no read and no wait
abbrev pub IsSimple : Action → Type 0
IsSimple action.Open = ⊥
IsSimple action.Close = ⊥
IsSimple (action.Read c v) = ⊥
IsSimple (action.Join h) = ⊥
IsSimple _ = Unit {0}

simple_markless : (a : Action) → IsSimple a → IsMarkless a
simple_markless action.Open h = absurd h
simple_markless action.Close h = absurd h
simple_markless _ h = tt

simple_lone : (mem : Memory) (a : Action) → IsSimple a → IsLone mem (a ∷ [])
simple_lone mem (action.Read c v) h = absurd h
simple_lone mem (action.Join i) h = absurd h
simple_lone mem (action.Write c v) h = tt
simple_lone mem action.Open h = tt
simple_lone mem action.Close h = tt
simple_lone mem action.Fence h = tt
simple_lone mem (action.Create i f v) h = tt
simple_lone mem action.Start h = tt
simple_lone mem action.End h = tt

make_alone : (a : Action) (s : State) (mem : Memory) → IsLone mem (a ∷ []) → nat_eq s.depth 0 ≡ true → Alone (Unit {0}) (make a) s s.actions mem
make_alone a s mem lone l = done_none (Unit {0}) (make a) s mem (a ∷ []) (Goes tt (record s { actions = s.actions ++ a ∷ [] })) (λ others. refl) refl lone l

adds_make : (a : Action) (s : State) → IsBehind s.actions (state_in (make a s)).actions
adds_make a s = (a ∷ [], refl)

takes_make : (a : Action) (s : State) → Takes (Unit {0}) (make a) s (make a s)
takes_make a s = record { taken = []; first = refl; same = λ others. refl }

pub ends_make : (a : Action) → IsSimple a → Ends (Unit {0}) anything (make a)
ends_make a h = record {
  gives = λ s. tt;
  adds = adds_make a;
  takes = takes_make a;
  level = λ s l. level_kept s (record s { actions = s.actions ++ a ∷ [] }) (a ∷ []) refl (simple_markless a h, tt) refl l;
  alone = λ s mem l. make_alone a s mem (simple_lone mem a h) l;
  cuts = λ s l w. cut_one (Unit {0}) (make a) s (s.actions ++ a ∷ []) (a ∷ []) refl (omega arith) l (λ mem z. make_alone a s mem (simple_lone mem a h) z);
}

-- ---- steps that take a number

pub ends_any : Ends ℕ anything (take_number Any)
ends_any =
    ends_few 0 ℕ anything (take_number Any) ((numbers_keeps 0).of_taking Any) ((reader_keeps 0).of_taking Any) (λ s. ok_any (take_number Any s)) (λ s. taken_few Any s s.script)
    (λ s mem l. done_zero ℕ (take_number Any) s mem (Goes 0 (record s { used = s.used + 1 })) (λ others. refl) refl l) where
      taken_few : (n : Need) (s : State) (xs : List ℕ) → Few s (state_in (take_from n xs s))
      taken_few n s [] = no_more s s refl refl
      taken_few n s (x ∷ xs) = no_more s _ refl refl

pub ends_bool : Ends ℕ anything any_bool
ends_bool =
    ends_few 0 ℕ anything any_bool (kept_bool 0 (Numbers 0) (numbers_keeps 0)) (kept_bool 0 IsReader (reader_keeps 0)) (λ s. ok_any (any_bool s)) (λ s. bool_few s s.script)
    (λ s mem l. done_zero ℕ any_bool s mem (Goes 0 (record s { used = s.used + 1 })) (λ others. refl) refl l) where
      chosen_few : (b : Bool) (x : ℕ) (s t : State) → t.actions ≡ s.actions → t.depth ≡ s.depth → Few s (state_in {A = ℕ} (cond b (pure x) (ends Bad) t))
      chosen_few true x s t e d = no_more s t e d
      chosen_few false x s t e d = no_more s t e d

      bool_few : (s : State) (xs : List ℕ) → Few s (state_in (go_on (take_from Truth xs s) (λ v. cond (nat_lt v 2) (pure v) (ends Bad))))
      bool_few s [] = no_more s s refl refl
      bool_few s (x ∷ xs) = chosen_few (nat_lt x 2) x s _ refl refl

pub ends_read : (c : Slot) → Ends ℕ anything (read c)
ends_read c =
    ends_few 0 ℕ anything (read c) (kept_read 0 (Numbers 0) (numbers_keeps 0) c) (kept_read 0 IsReader (reader_keeps 0) c) (λ s. ok_any (read c s)) (read_few c) (read_alone c) where
      taken_few : (c : ℕ) (s : State) (xs : List ℕ) → Few s (state_in {A = ℕ} (go_on (take_from (ReadOf c) xs s) (λ v. make (action.Read c v) >> pure v)))
      taken_few c s [] = no_more s s refl refl
      taken_few c s (x ∷ xs) = one_more s _ (action.Read c x) refl tt refl

      read_few : (c : Slot) (s : State) → Few s (state_in (read c s))
      read_few (Own i j) s = no_more s s refl refl
      read_few (Common c) s = taken_few c s s.script

      read_alone : (c : Slot) (s : State) (mem : Memory) → nat_eq s.depth 0 ≡ true → Alone ℕ (read c) s s.actions mem
      read_alone (Own i j) s mem l = done_none ℕ (read (Own i j)) s mem [] (Goes (unwrap_or (slice_get (cells_at s.locals i) j) 0) s) (λ others. refl) (sym (append-nil s.actions)) tt l
      read_alone (Common c) s mem l =
          ⊎_elim
          (λ w. inl (record {
            script = mem c ∷ [];
            words = All-cons IsWord (mem c) [] w (All-nil IsWord);
            made = action.Read c (mem c) ∷ [];
            out = Goes (mem c) (record s { used = s.used + 1; actions = s.actions ++ action.Read c (mem c) ∷ [] });
            runs = λ others. refl;
            actions = refl;
            lone = (refl, tt);
            fine = l;
          }))
          (λ w. inr (record {
            script = [];
            words = All-nil IsWord;
            made = [];
            cell = c;
            no_word = λ h. let low : mem c < 2 ^ 32 = h in absurd (omega (arith, low, w));
            need = ReadOf c;
            state = with_script s [];
            runs = refl;
            actions = sym (append-nil s.actions);
            lone = tt;
          }))
          (cases_lt (mem c) (2 ^ 32))

pub ends_write : (c : Slot) (x : ℕ) → Ends (Unit {0}) anything (write c x)
ends_write (Own i j) x = ends_locals (λ ls. with_cell ls i j x)
ends_write (Common c) x = ends_make (action.Write c x) tt

-- ---- steps that look at the locals

-- a step that goes by the locals
module _ (A T : Type 0) (Q : A → Type 0) (c : List Local → T) (f : T → Step A) (h : (ls : List Local) → Ends A Q (f (c ls))) where
  abbrev by : Step A
  by = λ s. f (c s.locals) s

  by_takes : (s : State) (o : Outcome A) → Takes A (f (c s.locals)) s o → Takes A by s o
  by_takes s (Goes a t) x = record { taken = x.taken; first = x.first; same = x.same }
  by_takes s (Halts e t) x = tt

  by_alone : (s : State) (acts : List Action) (mem : Memory) → Alone A (f (c s.locals)) s acts mem → Alone A by s acts mem
  by_alone s acts mem (inl d) = inl (record { script = d.script; words = d.words; made = d.made; out = d.out; runs = d.runs; actions = d.actions; lone = d.lone; fine = d.fine })
  by_alone s acts mem (inr d) = inr (record { script = d.script; words = d.words; made = d.made; cell = d.cell; no_word = d.no_word; need = d.need; state = d.state; runs = d.runs; actions = d.actions; lone = d.lone })

  pub ends_choice : Ends A Q by
  ends_choice = record {
    gives = λ s. (h s.locals).gives s;
    adds = λ s. (h s.locals).adds s;
    takes = λ s. by_takes s (f (c s.locals) s) ((h s.locals).takes s);
    level = λ s l. (h s.locals).level s l;
    alone = λ s mem l. by_alone s s.actions mem ((h s.locals).alone s mem l);
    cuts = λ s l w n low high mem. ⊎_elim inl (λ x. inr (by_alone s (take n (state_in (by s)).actions) mem x)) ((h s.locals).cuts s l w n low high mem);
  }

pub ends_cond : (A : Type 0) (Q : A → Type 0) (b : Bool) (m n : Step A) → Ends A Q m → Ends A Q n → Ends A Q (cond b m n)
ends_cond A Q true m n p q = p
ends_cond A Q false m n p q = q

ends_shared : (p : Place) (o : Option Shared) (i : ℕ) → Ends Slot anything (slot_in_shared p o i)
ends_shared p None i = ends_stop Slot anything
ends_shared p (Some v) i = ends_cond Slot anything (nat_lt i v.count) (pure (Common (v.first + i))) (fail p) (ends_pure Slot anything (Common (v.first + i)) tt) (ends_end Slot anything (Failed p) refl)

ends_slot_in : (shared : List Shared) (p : Place) (n : Name) (o : Option ℕ) (i : ℕ) → Ends Slot anything (slot_in shared p n o i)
ends_slot_in shared p n None i = ends_shared p (shared_named shared n) i
ends_slot_in shared p n (Some l) i =
    ends_choice Slot Bool anything (λ ls. nat_lt i (length (cells_at ls l))) (λ b. cond b (pure (Own l i)) (fail p))
    (λ ls. ends_cond Slot anything (nat_lt i (length (cells_at ls l))) (pure (Own l i)) (fail p) (ends_pure Slot anything (Own l i) tt) (ends_end Slot anything (Failed p) refl))

pub ends_slot : (shared : List Shared) (p : Place) (n : Name) (i : ℕ) → Ends Slot anything (slot shared p n i)
ends_slot shared p n i = ends_choice Slot (Option ℕ) anything (λ ls. local_named ls n) (λ o. slot_in shared p n o i) (λ ls. ends_slot_in shared p n (local_named ls n) i)

-- ---- sections

-- a mark at depth 0 alone
abbrev mark_by : (a : Action) (b : Bool) (s : State) → IsBehind s.actions (state_in (cond b (make a) nothing s)).actions
mark_by a true s = (a ∷ [], refl)
mark_by a false s = ([], sym (append-nil s.actions))

mark_short : (a : Action) (b : Bool) (s : State) → length (mark_by a b s).0 ≤ 1
mark_short a true s = omega arith
mark_short a false s = omega arith

mark_takes : (a : Action) (b : Bool) (s : State) → nat_eq s.depth 0 ≡ b → Takes (Unit {0}) (outside (make a)) s (cond b (make a) nothing s)
mark_takes a true s e = record { taken = []; first = refl; same = λ others. ap (λ z. cond z (make a) nothing (with_script s others)) e }
mark_takes a false s e = record { taken = []; first = refl; same = λ others. ap (λ z. cond z (make a) nothing (with_script s others)) e }

mark_gives : (a : Action) (b : Bool) (s : State) → Ok anything (cond b (make a) nothing s)
mark_gives a true s = tt
mark_gives a false s = tt

mark_level : (a : Action) (b : Bool) (s : State) → nat_eq s.depth 0 ≡ b → Level s → LevelIn (cond b (make a) nothing s)
mark_level a true s e l = inl e
mark_level a false s e l = l

mark_alone : (a : Action) (s : State) (mem : Memory) → IsLone mem (a ∷ []) → nat_eq s.depth 0 ≡ true → Alone (Unit {0}) (outside (make a)) s s.actions mem
mark_alone a s mem lone e =
    done_none (Unit {0}) (outside (make a)) s mem (a ∷ []) (Goes tt (record s { actions = s.actions ++ a ∷ [] })) (λ others. ap (λ z. cond z (make a) nothing (with_script s others)) e) refl lone e

ends_mark : (a : Action) → ((mem : Memory) → IsLone mem (a ∷ [])) → Ends (Unit {0}) anything (outside (make a))
ends_mark a lone = record {
  gives = λ s. mark_gives a (nat_eq s.depth 0) s;
  adds = λ s. mark_by a (nat_eq s.depth 0) s;
  takes = λ s. mark_takes a (nat_eq s.depth 0) s refl;
  level = λ s l. mark_level a (nat_eq s.depth 0) s refl l;
  alone = λ s mem l. mark_alone a s mem (lone mem) l;
  cuts = λ s l w. cut_one (Unit {0}) (outside (make a)) s _ (mark_by a (nat_eq s.depth 0) s).0 (mark_by a (nat_eq s.depth 0) s).1 (mark_short a (nat_eq s.depth 0) s) l (λ mem z. mark_alone a s mem (lone mem) z);
}

ends_and : (A B : Type 0) (P : A → Type 0) (Q : B → Type 0) (m : Step A) (n : Step B) → Ends A P m → Ends B Q n → Ends B Q (m >> n)
ends_and A B P Q m n p q = ends_then A B P Q m (λ _. n) p (λ _ _. q)

pub ends_unlock : (c : Slot) → Ends (Unit {0}) anything (unlock_cell c)
ends_unlock c =
    ends_and (Unit {0}) (Unit {0}) anything anything (outside (make action.Open)) (write c 0 >> outside (make action.Close)) (ends_mark action.Open (λ mem. tt))
    (ends_and (Unit {0}) (Unit {0}) anything anything (write c 0) (outside (make action.Close)) (ends_write c 0) (ends_mark action.Close (λ mem. tt)))

-- the depth falls
less_zero : (n : ℕ) → nat_eq n 0 ≡ true → nat_eq (n - 1) 0 ≡ true
less_zero n e = let z : n ≡ 0 = eqb-true n 0 e in ap (λ i. nat_eq (i - 1) 0) z

less_level : (s : State) → Level s → Level (record s { depth = s.depth - 1 })
less_level s (inl z) = inl (less_zero s.depth z)
less_level s (inr o) = inr o

ends_less : Ends (Unit {0}) anything (change (λ s. record s { depth = s.depth - 1 }))
ends_less = record {
  gives = λ s. tt;
  adds = λ s. ([], sym (append-nil s.actions));
  takes = λ s. record { taken = []; first = refl; same = λ others. refl };
  level = less_level;
  alone = λ s mem l. done_none (Unit {0}) (change (λ s. record s { depth = s.depth - 1 })) s mem [] (Goes tt (record s { depth = s.depth - 1 })) (λ others. refl) (sym (append-nil s.actions)) tt (less_zero s.depth l);
  cuts = λ s l w n low high. absurd (omega (arith, low, high));
}

pub ends_finish_section : Ends (Unit {0}) anything end_section
ends_finish_section = ends_and (Unit {0}) (Unit {0}) anything anything (change (λ s. record s { depth = s.depth - 1 })) (outside (make action.Close)) ends_less (ends_mark action.Close (λ mem. tt))

-- what an Open behind a go number does
abbrev Opens : State → Outcome (Unit {0}) → Type 0
Opens s (Goes a t) = (t.depth ≡ s.depth) × (((nat_eq s.depth 0 ≡ true) × (t.actions ≡ s.actions ++ action.Open ∷ [])) ⊎ ((nat_eq s.depth 0 ≡ false) × (t.actions ≡ s.actions)))
Opens s (Halts h t) = t.actions ≡ s.actions

opens_by : (b : Bool) (s : State) (xs : List ℕ) → nat_eq s.depth 0 ≡ b → Opens s (cond b (ask >> make action.Open) nothing (with_script s xs))
opens_by true s [] e = refl
opens_by true s (zero ∷ xs) e = refl
opens_by true s (suc zero ∷ xs) e = (refl, inl (e, refl))
opens_by true s (suc (suc x) ∷ xs) e = refl
opens_by false s xs e = (refl, inr (e, refl))

opens : (s : State) → Opens s (open_section s)
opens s = opens_by (nat_eq s.depth 0) s s.script refl

-- a section is open behind it
is_open : (s t : State) → Level s → Opens s (Goes tt t) → is_opened false t.actions ≡ true
is_open s t l (d, inl (z, e)) = ap (is_opened false) e ∙ opened_append false s.actions (action.Open ∷ [])
is_open s t (inl y) (d, inr (z, e)) = absurd (false≢true (sym z ∙ y))
is_open s t (inr o) (d, inr (z, e)) = ap (is_opened false) e ∙ o

is_short : (s t : State) → Opens s (Goes tt t) → length t.actions ≤ length s.actions + 1
is_short s t (d, inl (z, e)) = omega (arith, ap length e, length-append s.actions (action.Open ∷ []))
is_short s t (d, inr (z, e)) = omega (arith, ap length e)

-- a step that begins with it stops alone
stops_alone : (A : Type 0) (m : Step A) (s : State) (mem : Memory) → nat_eq s.depth 0 ≡ true → Alone A (open_section >> m) s s.actions mem
stops_alone A m s mem e =
    done_zero A (open_section >> m) s mem (Halts (Over Stopped) (record s { used = s.used + 1 }))
    (λ others. ap (λ z. go_on (cond z (ask >> make action.Open) nothing (with_script s (0 ∷ others))) (λ _. m)) e) refl refl

begin_level : (s : State) (o : Outcome (Unit {0})) → Opens s o → Level s → LevelIn (go_on o (λ _. change (λ s. record s { depth = s.depth + 1 })))
begin_level s (Goes a t) h l = inr (is_open s t l h)
begin_level s (Halts e t) h l = tt

begin_made : (s : State) (o : Outcome (Unit {0})) → Opens s o → (made : List Action) × ((state_in (go_on o (λ _. change (λ s. record s { depth = s.depth + 1 })))).actions ≡ s.actions ++ made) × (length made ≤ 1)
begin_made s (Goes a t) (d, inl (z, e)) = (action.Open ∷ [], e, omega arith)
begin_made s (Goes a t) (d, inr (z, e)) = ([], e ∙ sym (append-nil s.actions), omega arith)
begin_made s (Halts h t) e = ([], e ∙ sym (append-nil s.actions), omega arith)

pub ends_begin : Ends (Unit {0}) anything begin_section
ends_begin = record {
  gives = λ s. ok_any (begin_section s);
  adds = adds_by 0 (Unit {0}) begin_section (kept_begin 0 (Numbers 0) (numbers_keeps 0));
  takes = takes_by (Unit {0}) begin_section (kept_begin 0 IsReader (reader_keeps 0));
  level = λ s l. begin_level s (open_section s) (opens s) l;
  alone = λ s mem l. stops_alone (Unit {0}) (change (λ s. record s { depth = s.depth + 1 })) s mem l;
  cuts = λ s l w.
      let it = begin_made s (open_section s) (opens s) in
      cut_one (Unit {0}) begin_section s (state_in (begin_section s)).actions it.0 it.1 it.2 l (λ mem z. stops_alone (Unit {0}) (change (λ s. record s { depth = s.depth + 1 })) s mem z);
}

-- ---- locks

record Held (s t : State) : Type 0 where
  pub inner : List Action
  pub actions : t.actions ≡ s.actions ++ inner
  pub markless : AllByRecursion IsMarkless inner
  pub depth : t.depth ≡ s.depth

held_by : (m v : ℕ) (b : Bool) (s : State) → Held s (state_in ((cond b nothing (ends Bad) >> make (action.Write m 1)) (record s { used = s.used + 1; actions = s.actions ++ action.Read m v ∷ [] })))
held_by m v true s = record { inner = action.Read m v ∷ action.Write m 1 ∷ []; actions = append_assoc s.actions _ _; markless = (tt, (tt, tt)); depth = refl }
held_by m v false s = record { inner = action.Read m v ∷ []; actions = refl; markless = (tt, tt); depth = refl }

held_at : (m : ℕ) (s : State) (xs : List ℕ) → Held s (state_in (hold (Common m) (with_script s xs)))
held_at m s [] = record { inner = []; actions = sym (append-nil s.actions); markless = tt; depth = refl }
held_at m s (x ∷ xs) = let it = held_by m x (nat_eq x 0) (with_script s xs) in record { inner = it.inner; actions = it.actions; markless = it.markless; depth = it.depth }

held : (c : Slot) (s : State) → Held s (state_in (hold c s))
held (Own i j) s = record { inner = []; actions = sym (append-nil s.actions); markless = tt; depth = refl }
held (Common m) s = held_at m s s.script

-- what a lock makes: at most its Open, and then no mark but the last
record Locked (s : State) (acts : List Action) : Type 0 where
  pub first : List Action
  pub opened : is_opened false first ≡ true
  pub short : length first ≤ length s.actions + 1
  pub inner : List Action
  pub markless : AllByRecursion IsMarkless inner
  pub tail : List Action
  pub last : length tail ≤ 1
  pub whole : acts ≡ first ++ (inner ++ tail)

closed_on : (t : State) (o : Outcome (Unit {0})) → Held t (state_in o) → (tail : List Action) × ((state_in (go_on o (λ _. outside (make action.Close)))).actions ≡ (state_in o).actions ++ tail) × (length tail ≤ 1)
closed_on t (Goes a u) h = ((mark_by action.Close (nat_eq u.depth 0) u).0, (mark_by action.Close (nat_eq u.depth 0) u).1, mark_short action.Close (nat_eq u.depth 0) u)
closed_on t (Halts e u) h = ([], sym (append-nil u.actions), omega arith)

locked_on : (c : Slot) (s : State) (o : Outcome (Unit {0})) → Opens s o → Level s
    → ((state_in (go_on o (λ _. hold c >> outside (make action.Close)))).actions ≡ s.actions) ⊎ Locked s (state_in (go_on o (λ _. hold c >> outside (make action.Close)))).actions
locked_on c s (Halts e t) h l = inl h
locked_on c s (Goes a t) h l =
    let it = held c t in
    let end = closed_on t (hold c t) it in
    inr (record {
      first = t.actions;
      opened = is_open s t l h;
      short = is_short s t h;
      inner = it.inner;
      markless = it.markless;
      tail = end.0;
      last = end.2;
      whole = end.1 ∙ ap (λ ys. ys ++ end.0) it.actions ∙ append_assoc t.actions it.inner end.0;
    })

held_level : (t : State) (o : Outcome (Unit {0})) → Held t (state_in o) → Level t → LevelIn (go_on o (λ _. outside (make action.Close)))
held_level t (Goes a u) h l = mark_level action.Close (nat_eq u.depth 0) u refl (level_kept t u h.inner h.actions h.markless h.depth l)
held_level t (Halts e u) h l = tt

locked_level : (c : Slot) (s : State) (o : Outcome (Unit {0})) → Opens s o → Level s → LevelIn (go_on o (λ _. hold c >> outside (make action.Close)))
locked_level c s (Goes a t) h l = held_level t (hold c t) (held c t) (inr (is_open s t l h))
locked_level c s (Halts e t) h l = tt

lock_alone : (c : Slot) (s : State) (mem : Memory) → nat_eq s.depth 0 ≡ true → Alone (Unit {0}) (lock_cell c) s s.actions mem
lock_alone c s mem l = stops_alone (Unit {0}) (hold c >> outside (make action.Close)) s mem l

locked_cuts : (c : Slot) (s : State) (acts : List Action) → IsBehind s.actions acts → (acts ≡ s.actions) ⊎ Locked s acts → Level s → Cuts (Unit {0}) (lock_cell c) s acts
locked_cuts c s acts b (inl e) l n low high = absurd (omega (arith, ap length e, low, high))
locked_cuts c s acts b (inr k) l n low high =
    ⊎_elim
    (λ same. subst (λ i. CutsAt (Unit {0}) (lock_cell c) s acts i) same (cut_start (Unit {0}) (lock_cell c) s acts l b (lock_alone c s)))
    (λ other mem. inl (
    let more : length k.first ≤ n = let ne : length s.actions ≡ n → ⊥ = other in let lt : length s.actions < n = strictly (length s.actions) n low ne in omega (arith, lt, k.short) in
    ap (λ ys. is_opened false (take n ys)) k.whole ∙ walled k.first k.inner k.tail n k.opened k.markless k.last more (subst (λ (ys : List Action). n < length ys) k.whole high)))
    (cases_eq (length s.actions) n) where
      strictly : (i j : ℕ) → i ≤ j → (i ≡ j → ⊥) → i < j
      strictly i j h ne = ⊎_elim (λ lt. lt) (λ ge. absurd (ne (omega (arith, h, ge)))) (cases_lt i j)

pub ends_lock : (c : Slot) → Ends (Unit {0}) anything (lock_cell c)
ends_lock c = record {
  gives = λ s. ok_any (lock_cell c s);
  adds = adds_by 0 (Unit {0}) (lock_cell c) (kept_lock 0 (Numbers 0) (numbers_keeps 0) c);
  takes = takes_by (Unit {0}) (lock_cell c) (kept_lock 0 IsReader (reader_keeps 0) c);
  level = λ s l. locked_level c s (open_section s) (opens s) l;
  alone = lock_alone c;
  cuts = λ s l w. locked_cuts c s (state_in (lock_cell c s)).actions (adds_by 0 (Unit {0}) (lock_cell c) (kept_lock 0 (Numbers 0) (numbers_keeps 0) c) s) (locked_on c s (open_section s) (opens s) l) l;
}

-- ---- threads

pub ends_finish : (A : Type 0) (Q : A → Type 0) → Ends A Q finish
ends_finish A Q = ends_and (Unit {0}) A anything Q (make action.End) (ends Ended) (ends_make action.End tt) (ends_end A Q Ended refl)

exit_made : (b : Bool) (s : State) → (made : List Action) × ((state_in {A = ℕ} (cond b finish (ends Bad) s)).actions ≡ s.actions ++ made) × (length made ≤ 1)
exit_made true s = (action.End ∷ [], refl, omega arith)
exit_made false s = ([], sym (append-nil s.actions), omega arith)

exit_level : (b : Bool) (s : State) → LevelIn {A = ℕ} (cond b finish (ends Bad) s)
exit_level true s = tt
exit_level false s = tt

exit_alone : (s : State) (mem : Memory) → nat_eq s.depth 0 ≡ true → Alone ℕ exit_thread s s.actions mem
exit_alone s mem e =
    done_none ℕ exit_thread s mem (action.End ∷ []) (Halts (Over Ended) (record s { actions = s.actions ++ action.End ∷ [] }))
    (λ others. ap (λ z. cond z finish (ends Bad) (with_script s others)) e) refl tt refl

pub ends_exit : Ends ℕ anything exit_thread
ends_exit = record {
  gives = λ s. ok_any (exit_thread s);
  adds = adds_by 0 ℕ exit_thread (kept_exit 0 (Numbers 0) (numbers_keeps 0) ℕ);
  takes = takes_by ℕ exit_thread (kept_exit 0 IsReader (reader_keeps 0) ℕ);
  level = λ s l. exit_level (nat_eq s.depth 0) s;
  alone = exit_alone;
  cuts = λ s l w. let it = exit_made (nat_eq s.depth 0) s in cut_one ℕ exit_thread s (state_in (exit_thread s)).actions it.0 it.1 it.2 l (exit_alone s);
}

join_few : (h : ℕ) (b : Bool) (s : State) (xs : List ℕ) → Few s (state_in {A = ℕ} (go_on (cond b ask nothing (with_script s xs)) (λ _. make (action.Join h) >> pure 0)))
join_few h true s [] = no_more s _ refl refl
join_few h true s (zero ∷ xs) = no_more s _ refl refl
join_few h true s (suc zero ∷ xs) = one_more s _ (action.Join h) refl tt refl
join_few h true s (suc (suc x) ∷ xs) = no_more s _ refl refl
join_few h false s xs = one_more s _ (action.Join h) refl tt refl

pub ends_join : (h : ℕ) → Ends ℕ anything (join h)
ends_join h =
    ends_few 0 ℕ anything (join h) (kept_join 0 (Numbers 0) (numbers_keeps 0) h) (kept_join 0 IsReader (reader_keeps 0) h) (λ s. ok_any (join h s)) (λ s. join_few h (nat_eq s.depth 0) s s.script)
    (λ s mem l. done_zero ℕ (join h) s mem (Halts (Over Stopped) (record s { used = s.used + 1 }))
    (λ others. ap (λ z. go_on (cond z ask nothing (with_script s (0 ∷ others))) (λ _. make (action.Join h) >> pure 0)) l) refl refl)

-- a thread is created, with a write of its handle before where that is shared
module _ (g : Setting) (c f x : ℕ) where
  abbrev named : State → ℕ
  named s = 64 * g.handle + s.created + 1

  abbrev behind_create : State → State
  behind_create s = record s { created = s.created + 1; actions = (s.actions ++ action.Write c (named s) ∷ []) ++ action.Create (named s) f x ∷ [] }

  abbrev creating : Step ℕ
  creating = create g (Common c) f x

  create_alone : (s : State) (mem : Memory) → nat_eq s.depth 0 ≡ true → Alone ℕ creating s s.actions mem
  create_alone s mem l =
      done_none ℕ creating s mem (action.Write c (named s) ∷ action.Create (named s) f x ∷ []) (Goes 0 (behind_create s)) (λ others. refl) (append_assoc s.actions _ _) tt l

  create_middle : (s : State) (mem : Memory) → nat_eq s.depth 0 ≡ true → Alone ℕ creating s (s.actions ++ action.Write c (named s) ∷ []) mem
  create_middle s mem l = inl (record {
    script = [];
    words = All-nil IsWord;
    made = action.Create (named s) f x ∷ [];
    out = Goes 0 (behind_create s);
    runs = λ others. refl;
    actions = refl;
    lone = tt;
    fine = l;
  })

  create_cuts : (s : State) → Level s → Cuts ℕ creating s (behind_create s).actions
  create_cuts s l n low high =
      let before : List Action = s.actions ++ action.Write c (named s) ∷ [] in
      let acts : List Action = (behind_create s).actions in
      let b : IsBehind s.actions acts = (action.Write c (named s) ∷ action.Create (named s) f x ∷ [], append_assoc s.actions _ _) in
      ⊎_elim
      (λ same. subst (λ i. CutsAt ℕ creating s acts i) same (cut_start ℕ creating s acts l b (create_alone s)))
      (λ other.
      let size : length before ≡ length s.actions + 1 = length-append s.actions (action.Write c (named s) ∷ []) in
      let lt : length s.actions < n = below (length s.actions) n low other in
      let at : n ≡ length before = omega (arith, lt, high, size, length-append before (action.Create (named s) f x ∷ [])) in
      let cut : take n acts ≡ before = ap (λ i. take i acts) at ∙ take_at before (action.Create (named s) f x ∷ []) (length before) refl in
      subst (λ (ys : List Action). (mem : Memory) → (is_opened false ys ≡ true) ⊎ Alone ℕ creating s ys mem) (sym cut)
      (λ mem. ⊎_elim (λ z. inr (create_middle s mem z)) (λ o. inl (opened_append false s.actions (action.Write c (named s) ∷ []) ∙ o)) l))
      (cases_eq (length s.actions) n) where
        below : (i j : ℕ) → i ≤ j → (i ≡ j → ⊥) → i < j
        below i j h ne = ⊎_elim (λ lt. lt) (λ ge. absurd (ne (omega (arith, h, ge)))) (cases_lt i j)

  ends_create_shared : Ends ℕ anything creating
  ends_create_shared = record {
    gives = λ s. tt;
    adds = adds_by g.handle ℕ creating ((numbers_keeps g.handle).of_create g refl (Common c) f x);
    takes = takes_by ℕ creating ((reader_keeps g.handle).of_create g refl (Common c) f x);
    level = λ s l. level_kept s (behind_create s) (action.Write c (named s) ∷ action.Create (named s) f x ∷ []) (append_assoc s.actions _ _) (tt, (tt, tt)) refl l;
    alone = create_alone;
    cuts = λ s l w. create_cuts s l;
  }

pub ends_create : (g : Setting) (c : Slot) (f x : ℕ) → Ends ℕ anything (create g c f x)
ends_create g (Common c) f x = ends_create_shared g c f x
ends_create g (Own i j) f x =
    ends_few g.handle ℕ anything (create g (Own i j) f x) ((numbers_keeps g.handle).of_create g refl (Own i j) f x) ((reader_keeps g.handle).of_create g refl (Own i j) f x) (λ s. tt)
    (λ s. one_more s _ (action.Create (64 * g.handle + s.created + 1) f x) refl tt refl)
    (λ s mem l. done_none ℕ (create g (Own i j) f x) s mem (action.Create (64 * g.handle + s.created + 1) f x ∷ [])
    (Goes 0 (record s { created = s.created + 1; locals = with_cell s.locals i j (64 * g.handle + s.created + 1); actions = s.actions ++ action.Create (64 * g.handle + s.created + 1) f x ∷ [] })) (λ others. refl) refl tt l)
