-- The numbers of a run are words, as long as the handles that it gives are.
use Rattle.std.proofs.Common.{◌≡◌, ℕ, zero, suc, ◌+◌, ◌-◌, ◌*◌, ◌<◌, ◌≤◌, ◌^◌, List, [], ◌∷◌, ◌++◌, Option, Some, None, Bool, true, false, set, refl, subst, inl, arith}
use Rattle.std.specs.Prelude.{cond, nat_eq, nat_lt, slice_get, unwrap_or, slice_index, replicate, All}
use Rattle.std.proofs.lemmas.Option.{slice_get_within, get_or_from_slice_get}
use Rattle.std.proofs.lemmas.List.Elements.{All-nil, All-head, All-tail, All-push, All-set, All-replicate, All-take}
use Rattle.dg_base.specs.declared.Place.{Place}
use Rattle.dg_base.proofs.Fits.{operator_fits}
use Rattle.axiom_model.specs.declared.Action.{Action}
use Rattle.axiom_model.specs.declared.Action.TheVariants as action
use Rattle.c_tree.specs.declared.program.Param.{Param}
use Rattle.c_rules.specs.Names.{Name}
use Rattle.run_model.specs.declared.state.Ending.{Ending}
use Rattle.run_model.specs.declared.state.Ending.TheVariants.{Ended, Bad}
use Rattle.run_model.specs.declared.state.Local.{Local}
use Rattle.run_model.specs.declared.state.Need.{Need}
use Rattle.run_model.specs.declared.state.Need.TheVariants.{ReadOf, Go, Truth, Any}
use Rattle.run_model.specs.declared.state.Shared.{Shared}
use Rattle.run_model.specs.declared.state.Slot.{Slot}
use Rattle.run_model.specs.declared.state.Slot.TheVariants.{Own, Common}
use Rattle.run_model.specs.Steps.{State, Outcome, Goes, Halts, Step, go_on, ◌>>=◌, ◌>>◌, pure, nothing, change, ends, make, take_from, take_number, obey, ask, outside, open_section, begin_section, end_section, stop, fail}
use Rattle.run_model.specs.Cells.{cells_in, cells_at, with_cell_in, with_cell, read, write, slot, slot_in, slot_in_shared, shared_named, local_named}
use Rattle.run_model.specs.Calls.{Setting, hold, lock_cell, unlock_cell, finish, exit_thread, any_bool, create, join, function_in, spend}
use Rattle.run_model.specs.Threads.{parameter, parameters, in_section}
use Rattle.run_model.proofs.Handles.{state_in}
use Rattle.run_laws.specs.Words.{IsWord, IsOfWords}
use Rattle.run_laws.proofs.Joint.{Two, one, anything, Values, Words, Closed, Leaves, Ok, Premised, Also, Carries}

-- ---- values

abbrev pub AreWordLocals : List Local → Type 0
AreWordLocals ls = All (λ (l : Local). All IsWord l.cells) ls

abbrev pub word_values : Values
word_values = record { word = IsWord; cell = anything; locals = AreWordLocals; calls = anything }

word_at : (xs : List ℕ) (i : ℕ) → Words word_values xs → IsWord (slice_index xs i)
word_at [] zero h = omega arith
word_at [] (suc i) h = omega arith
word_at (x ∷ xs) zero h = h.0
word_at (x ∷ xs) (suc i) h = word_at xs i h.1

word_if : (xs : List ℕ) (i : ℕ) → Words word_values xs → IsWord (unwrap_or (slice_get xs i) 0)
word_if [] zero h = omega arith
word_if [] (suc i) h = omega arith
word_if (x ∷ xs) zero h = h.0
word_if (x ∷ xs) (suc i) h = word_if xs i h.1

parameters_words : (done : List Local) (i : ℕ) (ps : List Param) (xs : List ℕ) → AreWordLocals done → Words word_values xs → AreWordLocals (parameters done i ps xs)
parameters_words done i [] xs h words = h
parameters_words done i (p ∷ ps) xs h words =
    let l : Local = parameter p (unwrap_or (slice_get xs i) 0) in
    parameters_words (done ++ l ∷ []) (i + 1) ps xs
    (All-push (λ (l : Local). All IsWord l.cells) done l h (All-push IsWord [] (unwrap_or (slice_get xs i) 0) (All-nil IsWord) (word_if xs i words))) words

pub words_closed : Closed word_values
words_closed = record {
  zero_word = omega arith;
  one_word = omega arith;
  operators = λ o xs h. operator_fits o (slice_index xs 0) (slice_index xs 1) (slice_index xs 2) (word_at xs 0 h) (word_at xs 1 h) (word_at xs 2 h);
  enters = λ n u c ls h. All-push (λ (l : Local). All IsWord l.cells) ls (record { name = n; unsigned = u; cells = replicate c 0 }) h (All-replicate IsWord c 0 (omega arith));
  takes = λ n ls h. All-take (λ (l : Local). All IsWord l.cells) n ls h;
  begins = λ ps xs h. parameters_words [] 0 ps xs (All-nil (λ (l : Local). All IsWord l.cells)) h;
}

-- ---- cells of locals

found_words : (o : Option Local) (ls : List Local) (i : ℕ) → slice_get ls i ≡ o → AreWordLocals ls → All IsWord (cells_in o)
found_words None ls i e h = All-nil IsWord
found_words (Some l) ls i e h = subst (λ (l : Local). All IsWord l.cells) (get_or_from_slice_get ls i l l e) (h i l (slice_get_within ls i l e))

value_word : (o : Option ℕ) (xs : List ℕ) (j : ℕ) → slice_get xs j ≡ o → All IsWord xs → IsWord (unwrap_or o 0)
value_word None xs j e h = omega arith
value_word (Some x) xs j e h = subst IsWord (get_or_from_slice_get xs j x x e) (h j x (slice_get_within xs j x e))

own_word : (ls : List Local) (i j : ℕ) → AreWordLocals ls → IsWord (unwrap_or (slice_get (cells_at ls i) j) 0)
own_word ls i j h = value_word (slice_get (cells_at ls i) j) (cells_at ls i) j refl (found_words (slice_get ls i) ls i refl h)

with_word_in : (o : Option Local) (ls : List Local) (i j x : ℕ) → slice_get ls i ≡ o → AreWordLocals ls → IsWord x → AreWordLocals (with_cell_in ls i j x o)
with_word_in None ls i j x e h w = h
with_word_in (Some l) ls i j x e h w =
    All-set (λ (l : Local). All IsWord l.cells) ls i (record l { cells = set l.cells j x }) (All-set IsWord l.cells j x w (found_words (Some l) ls i e h)) h

with_word : (ls : List Local) (i j x : ℕ) → AreWordLocals ls → IsWord x → AreWordLocals (with_cell ls i j x)
with_word ls i j x h w = with_word_in (slice_get ls i) ls i j x refl h w

-- ---- states

-- the script, the locals and the actions are of words
pub record Fine (s : State) : Type 0 where
  pub script : All IsWord s.script
  pub locals : AreWordLocals s.locals
  pub actions : All IsOfWords s.actions

module _ (most : ℕ) where
  -- No create is undone; and from words a step comes to words, where no more than so many threads were created.
  abbrev pub Words_from : (C A : Type 0) → (A → Type 0) → State → Outcome A → Type 0
  Words_from C A Q s o = (s.created ≤ (state_in o).created) × (C → Fine s → (state_in o).created ≤ most → Fine (state_in o) × Ok Q o)

  abbrev pub Gives : (C A : Type 0) → (A → Type 0) → Step A → Type 0
  Gives C A Q m = (s : State) → Words_from C A Q s (m s)

  abbrev pub Worded : Premised
  Worded C A Q m n = Gives C A Q m

  then_words : (C A B : Type 0) (P : A → Type 0) (Q : B → Type 0) (f : A → Step B) (s : State) → ((a : A) → Gives (Also C (P a)) B Q (f a)) → (o : Outcome A) → Words_from C A P s o → Words_from C B Q s (go_on o f)
  then_words C A B P Q f s rest (Goes a t) one =
      let two : Words_from (Also C (P a)) B Q t (f a t) = rest a t in (
        omega (arith, one.0, two.0),
        λ c fine low. let it = one.1 c fine (omega (arith, two.0, low)) in two.1 (record { others = c; last = it.1 }) it.0 low,
      )
  then_words C A B P Q f s rest (Halts e t) one = (one.0, λ c fine low. ((one.1 c fine low).0, tt))

  pub gives_then : (C A B : Type 0) (P : A → Type 0) (Q : B → Type 0) (m : Step A) (f : A → Step B) → Gives C A P m → ((a : A) → Gives (Also C (P a)) B Q (f a)) → Gives C B Q (m >>= f)
  gives_then C A B P Q m f p rest s = then_words C A B P Q f s rest (m s) (p s)

  pub gives_more : (C D A : Type 0) (Q : A → Type 0) (m : Step A) → (D → C) → Gives C A Q m → Gives D A Q m
  gives_more C D A Q m less p s = ((p s).0, λ d fine low. (p s).1 (less d) fine low)

  pub gives_and : {A B : Type 0} (C : Type 0) (P : A → Type 0) (Q : B → Type 0) (m : Step A) (n : Step B) → Gives C A P m → Gives C B Q n → Gives C B Q (m >> n)
  gives_and {A = A} {B = B} C P Q m n p q = gives_then C A B P Q m (λ _. n) p (λ a. gives_more C (Also C (P a)) B Q n (λ z. z.others) q)

  gives_pure : (C A : Type 0) (Q : A → Type 0) (a : A) → (C → Q a) → Gives C A Q (pure a)
  gives_pure C A Q a h s = (omega arith, λ c fine low. (fine, h c))

  gives_nothing : (C : Type 0) → Gives C (Unit {0}) anything nothing
  gives_nothing C = gives_pure C (Unit {0}) anything tt (λ _. tt)

  gives_cond : (C A : Type 0) (Q : A → Type 0) (b : Bool) (m n : Step A) → Gives C A Q m → Gives C A Q n → Gives C A Q (cond b m n)
  gives_cond C A Q true m n p q = p
  gives_cond C A Q false m n p q = q

  gives_end : (C A : Type 0) (Q : A → Type 0) (e : Ending) → Gives C A Q (ends e)
  gives_end C A Q e s = (omega arith, λ c fine low. (fine, tt))

  gives_stop : (C A : Type 0) (Q : A → Type 0) → Gives C A Q stop
  gives_stop C A Q s = (omega arith, λ c fine low. (fine, tt))

  gives_spend : (C A : Type 0) (Q : A → Type 0) (g : Setting) (p : Place) → Gives C A Q (spend g p)
  gives_spend C A Q g p s = (omega arith, λ c fine low. (fine, tt))

  taking_words : (C : Type 0) (n : Need) (s : State) (xs : List ℕ)
      → (s.created ≤ (state_in (take_from n xs s)).created) × (C → Fine s → All IsWord xs → Fine (state_in (take_from n xs s)) × Ok IsWord (take_from n xs s))
  taking_words C n s [] = (omega arith, λ c fine words. (fine, tt))
  taking_words C n s (x ∷ xs) = (omega arith, λ c fine words. (record { script = All-tail IsWord x xs words; locals = fine.locals; actions = fine.actions }, All-head IsWord x xs words))

  gives_taking : (C : Type 0) (n : Need) → Gives C ℕ IsWord (take_number n)
  gives_taking C n s = let it = taking_words C n s s.script in (it.0, λ c fine low. it.1 c fine fine.script)

  pub gives_make : (C : Type 0) (a : Action) → (C → IsOfWords a) → Gives C (Unit {0}) anything (make a)
  gives_make C a h s = (omega arith, λ c fine low. (record { script = fine.script; locals = fine.locals; actions = All-push IsOfWords s.actions a fine.actions (h c) }, tt))

  gives_locals : (C : Type 0) (f : List Local → List Local) → (C → (ls : List Local) → AreWordLocals ls → AreWordLocals (f ls)) → Gives C (Unit {0}) anything (change (λ s. record s { locals = f s.locals }))
  gives_locals C f h s = (omega arith, λ c fine low. (record { script = fine.script; locals = h c s.locals fine.locals; actions = fine.actions }, tt))

  gives_depth : (C : Type 0) (f : ℕ → ℕ) → Gives C (Unit {0}) anything (change (λ s. record s { depth = f s.depth }))
  gives_depth C f s = (omega arith, λ c fine low. (record { script = fine.script; locals = fine.locals; actions = fine.actions }, tt))

  gives_choice : (C A T : Type 0) (Q : A → Type 0) (c : List Local → T) (f : T → Step A) → ((ls : List Local) → Gives (Also C (AreWordLocals ls)) A Q (f (c ls))) → Gives C A Q (λ s. f (c s.locals) s)
  gives_choice C A T Q c f p s = ((p s.locals s).0, λ z fine low. (p s.locals s).1 (record { others = z; last = fine.locals }) fine low)

  -- ---- sections

  gives_outside : (C : Type 0) (m : Step (Unit {0})) → Gives C (Unit {0}) anything m → Gives C (Unit {0}) anything (outside m)
  gives_outside C m p s = gives_cond C (Unit {0}) anything (nat_eq s.depth 0) m nothing p (gives_nothing C) s

  gives_obey : (C : Type 0) (n : ℕ) → Gives C (Unit {0}) anything (obey n)
  gives_obey C zero s = (omega arith, λ c fine low. (fine, tt))
  gives_obey C (suc zero) s = (omega arith, λ c fine low. (fine, tt))
  gives_obey C (suc (suc n)) s = (omega arith, λ c fine low. (fine, tt))

  gives_ask : (C : Type 0) → Gives C (Unit {0}) anything ask
  gives_ask C = gives_then C ℕ (Unit {0}) IsWord anything (take_number Go) obey (gives_taking C Go) (λ n. gives_obey _ n)

  gives_open : (C : Type 0) → Gives C (Unit {0}) anything open_section
  gives_open C = gives_outside C (ask >> make action.Open) (gives_and C anything anything ask (make action.Open) (gives_ask C) (gives_make C action.Open (λ _. tt)))

  gives_close : (C : Type 0) → Gives C (Unit {0}) anything (outside (make action.Close))
  gives_close C = gives_outside C (make action.Close) (gives_make C action.Close (λ _. tt))

  gives_begin : (C : Type 0) → Gives C (Unit {0}) anything begin_section
  gives_begin C = gives_and C anything anything open_section (change (λ s. record s { depth = s.depth + 1 })) (gives_open C) (gives_depth C (λ d. d + 1))

  gives_finish_section : (C : Type 0) → Gives C (Unit {0}) anything end_section
  gives_finish_section C = gives_and C anything anything (change (λ s. record s { depth = s.depth - 1 })) (outside (make action.Close)) (gives_depth C (λ d. d - 1)) (gives_close C)

  gives_section : (C : Type 0) (m : Step ℕ) → Gives C ℕ IsWord m → Gives C ℕ IsWord (in_section m)
  gives_section C m p =
      gives_and C anything IsWord begin_section _ (gives_begin C)
      (gives_then C ℕ ℕ IsWord IsWord m _ p (λ x. gives_and _ anything IsWord end_section (pure x) (gives_finish_section _) (gives_pure _ ℕ IsWord x (λ z. z.last))))

  -- ---- cells

  gives_read : (C : Type 0) (c : Slot) → Gives C ℕ IsWord (read c)
  gives_read C (Own i j) s = (omega arith, λ c fine low. (fine, own_word s.locals i j fine.locals))
  gives_read C (Common c) s =
      gives_then C ℕ ℕ IsWord IsWord (take_number (ReadOf c)) (λ x. make (action.Read c x) >> pure x) (gives_taking C (ReadOf c))
      (λ x. gives_and _ anything IsWord (make (action.Read c x)) (pure x) (gives_make _ (action.Read c x) (λ z. z.last)) (gives_pure _ ℕ IsWord x (λ z. z.last))) s

  gives_write : (C : Type 0) (c : Slot) (x : ℕ) → (C → IsWord x) → Gives C (Unit {0}) anything (write c x)
  gives_write C (Own i j) x w s = (omega arith, λ c fine low. (record { script = fine.script; locals = with_word s.locals i j x fine.locals (w c); actions = fine.actions }, tt))
  gives_write C (Common c) x w s = gives_make C (action.Write c x) w s

  gives_shared : (C : Type 0) (p : Place) (o : Option Shared) (i : ℕ) → Gives C Slot anything (slot_in_shared p o i)
  gives_shared C p None i = gives_stop C Slot anything
  gives_shared C p (Some v) i =
      gives_cond C Slot anything (nat_lt i v.count) (pure (Common (v.first + i))) (fail p) (gives_pure C Slot anything (Common (v.first + i)) (λ _. tt)) (λ s. (omega arith, λ c fine low. (fine, tt)))

  gives_slot_in : (C : Type 0) (shared : List Shared) (p : Place) (n : Name) (o : Option ℕ) (i : ℕ) → Gives C Slot anything (slot_in shared p n o i)
  gives_slot_in C shared p n None i s = gives_shared C p (shared_named shared n) i s
  gives_slot_in C shared p n (Some l) i s =
      gives_cond C Slot anything _ (pure (Own l i)) (fail p) (gives_pure C Slot anything (Own l i) (λ _. tt)) (λ s. (omega arith, λ c fine low. (fine, tt))) s

  gives_slot : (C : Type 0) (shared : List Shared) (p : Place) (n : Name) (i : ℕ) → Gives C Slot anything (slot shared p n i)
  gives_slot C shared p n i s = gives_slot_in C shared p n (local_named s.locals n) i s

  -- ---- built-in steps

  gives_hold : (C : Type 0) (c : Slot) → Gives C (Unit {0}) anything (hold c)
  gives_hold C (Own i j) = gives_nothing C
  gives_hold C (Common m) =
      gives_then C ℕ (Unit {0}) IsWord anything (take_number (ReadOf m)) _ (gives_taking C (ReadOf m)) (λ x.
      gives_and _ anything anything (make (action.Read m x)) _ (gives_make _ (action.Read m x) (λ z. z.last))
      (gives_and _ anything anything (cond (nat_eq x 0) nothing (ends Bad)) (make (action.Write m 1)) (gives_cond _ (Unit {0}) anything (nat_eq x 0) nothing (ends Bad) (gives_nothing _) (gives_end _ (Unit {0}) anything Bad))
      (gives_make _ (action.Write m 1) (λ _. omega arith))))

  gives_lock : (C : Type 0) (c : Slot) → Gives C (Unit {0}) anything (lock_cell c)
  gives_lock C c = gives_and C anything anything open_section (hold c >> outside (make action.Close)) (gives_open C) (gives_and C anything anything (hold c) (outside (make action.Close)) (gives_hold C c) (gives_close C))

  gives_unlock : (C : Type 0) (c : Slot) → Gives C (Unit {0}) anything (unlock_cell c)
  gives_unlock C c =
      gives_and C anything anything (outside (make action.Open)) (write c 0 >> outside (make action.Close)) (gives_outside C (make action.Open) (gives_make C action.Open (λ _. tt)))
      (gives_and C anything anything (write c 0) (outside (make action.Close)) (gives_write C c 0 (λ _. omega arith)) (gives_close C))

  pub gives_finish : (C A : Type 0) (Q : A → Type 0) → Gives C A Q finish
  gives_finish C A Q = gives_and C anything Q (make action.End) (ends Ended) (gives_make C action.End (λ _. tt)) (gives_end C A Q Ended)

  gives_exit : (C : Type 0) → Gives C ℕ IsWord exit_thread
  gives_exit C s = gives_cond C ℕ IsWord (nat_eq s.depth 0) finish (ends Bad) (gives_finish C ℕ IsWord) (gives_end C ℕ IsWord Bad) s

  gives_bool : (C : Type 0) → Gives C ℕ IsWord any_bool
  gives_bool C =
      gives_then C ℕ ℕ IsWord IsWord (take_number Truth) (λ v. cond (nat_lt v 2) (pure v) (ends Bad)) (gives_taking C Truth)
      (λ v. gives_cond _ ℕ IsWord (nat_lt v 2) (pure v) (ends Bad) (gives_pure _ ℕ IsWord v (λ z. z.last)) (gives_end _ ℕ IsWord Bad))

  gives_join : (C : Type 0) (h : ℕ) → (C → IsWord h) → Gives C ℕ IsWord (join h)
  gives_join C h w =
      gives_and {B = ℕ} C anything IsWord (outside ask) (make (action.Join h) >> pure 0) (gives_outside C ask (gives_ask C))
      (gives_and {B = ℕ} C anything IsWord (make (action.Join h)) (pure 0) (gives_make C (action.Join h) w) (gives_pure C ℕ IsWord 0 (λ _. omega arith)))

  gives_create : (C : Type 0) (g : Setting) → 64 * g.handle + most < 2 ^ 32 → (c : Slot) (f x : ℕ) → (C → IsWord x) → Gives C ℕ IsWord (create g c f x)
  gives_create C g limit (Own i j) f x w s = (
    omega arith,
    λ c fine low.
        let h : IsWord (64 * g.handle + s.created + 1) = omega (arith, limit, low) in (
          record {
            script = fine.script;
            locals = with_word s.locals i j (64 * g.handle + s.created + 1) fine.locals h;
            actions = All-push IsOfWords s.actions (action.Create (64 * g.handle + s.created + 1) f x) fine.actions (h, w c);
          },
          omega arith,
        ),
  )
  gives_create C g limit (Common m) f x w s = (
    omega arith,
    λ c fine low.
        let h : IsWord (64 * g.handle + s.created + 1) = omega (arith, limit, low) in (
          record {
            script = fine.script;
            locals = fine.locals;
            actions =
                All-push IsOfWords (s.actions ++ action.Write m (64 * g.handle + s.created + 1) ∷ []) (action.Create (64 * g.handle + s.created + 1) f x)
                (All-push IsOfWords s.actions (action.Write m (64 * g.handle + s.created + 1)) fine.actions h) (h, w c);
          },
          omega arith,
        ),
  )

  -- the parts of all steps give words
  pub words_carried : (g : Two) → 64 * g.handle + most < 2 ^ 32 → g.other_turns ≡ g.turns → Carries g word_values Worded
  words_carried g limit same = record {
    of_more = λ C D A Q m n less p. gives_more C D A Q m less p;
    of_pure = gives_pure;
    of_then = λ C A B P Q m n f h p i. gives_then C A B P Q m f p i;
    of_choice = λ C A T Q c f h p. gives_choice C A T Q c f p;
    of_locals = gives_locals;
    of_fail = λ A Q p s. (omega arith, λ c fine low. (fine, tt));
    of_stop = λ A Q. gives_stop (Unit {0}) A Q;
    of_any = gives_taking (Unit {0}) Any;
    of_bool = gives_bool (Unit {0});
    of_slot = λ p n i. gives_slot (Unit {0}) g.shared p n i;
    of_read = λ C c h. gives_read C c;
    of_write = λ C c x h w. gives_write C c x w;
    of_own = λ C i j x w. gives_write C (Own i j) x w;
    of_lock = λ C c h. gives_lock C c;
    of_unlock = λ C c h. gives_unlock C c;
    of_begin = λ n h e. gives_begin (Unit {0});
    of_end = λ n h e. gives_finish_section (Unit {0});
    of_section = λ C m n p. gives_section C m p;
    of_exit = gives_exit (Unit {0});
    of_create = λ C c n x h w. gives_create C (one g) limit c (function_in (one g) n) x w;
    of_join = gives_join;
    of_fence = gives_make (Unit {0}) action.Fence (λ _. tt);
    of_spend = λ p. gives_spend (Unit {0}) _ (Leaves word_values) (one g) p;
    of_turns = inl same;
  }
