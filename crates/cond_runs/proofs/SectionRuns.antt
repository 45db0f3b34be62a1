-- What the bodies of the sections do.
use Rattle.std.proofs.Common.{◌≡◌, ◌∙◌, ℕ, ◌+◌, ◌-◌, List, [], ◌∷◌, ◌++◌, Bool, true, false, refl, ap, sym, subst, add-zero, arith}
use Rattle.std.specs.Prelude.{Option, Some, None, cond, codes, nat_eq, ◌&&◌, not, length, take as keep}
use Rattle.std.specs.Str.{bytes_eq}
use Rattle.std.proofs.lemmas.Bool.{ne_eqb}
use Rattle.c_tree.specs.declared.expr.TypeWord.TheVariants as type
use Rattle.c_tree.specs.declared.stmt.Decl.{Decl}
use Rattle.c_tree.specs.declared.stmt.Initialiser.TheVariants.{One}
use Rattle.c_rules.specs.Names.{or_else}
use Rattle.run_model.specs.declared.state.Halt.TheVariants.{Short, Over}
use Rattle.run_model.specs.declared.state.Ending.TheVariants.{Stopped, Bad}
use Rattle.axiom_model.specs.declared.Action.{Action}
use Rattle.run_model.specs.declared.state.Slot.{Slot}
use Rattle.run_model.specs.declared.state.Shared.{Shared}
use Rattle.dg_base.specs.declared.Place.{Place}
use Rattle.dg_base.specs.Values.{is_true}
use Rattle.axiom_model.specs.declared.Action.TheVariants.{Read, Write, Close}
use Rattle.c_tree.specs.declared.expr.BinaryOp.TheVariants as op
use Rattle.c_tree.specs.declared.expr.AssignOp.TheVariants.{Plain}
use Rattle.c_tree.specs.declared.expr.Expr.{Expr, fold-roll-Expr}
use Rattle.c_tree.specs.declared.expr.Expr.TheVariants as e
use Rattle.c_tree.specs.declared.expr.Expr.TheOpen.{Expr-F}
use Rattle.c_tree.specs.declared.stmt.Stmt.{Stmt, fold-roll-Stmt}
use Rattle.c_tree.specs.declared.stmt.Stmt.TheVariants as s
use Rattle.c_tree.specs.declared.stmt.Stmt.TheOpen.{Stmt-F}
use Rattle.c_rules.specs.Names.{Name}
use Rattle.run_model.specs.declared.state.Flow.{Flow}
use Rattle.run_model.specs.declared.state.Flow.TheVariants.{Next}
use Rattle.run_model.specs.declared.state.Local.{Local}
use Rattle.run_model.specs.declared.state.Slot.TheVariants.{Common}
use Rattle.run_model.specs.declared.state.Need.TheVariants.{ReadOf}
use Rattle.run_model.specs.Steps.{State, Outcome, Goes, Halts, Step, ◌>>=◌, ◌>>◌, pure, nothing, look, go_on, make, change, outside, open_section, end_section, ends, stop}
use Rattle.run_model.specs.Cells.{read, write, slot, slot_in, slot_in_shared, shared_named, name_unsigned}
use Rattle.run_model.specs.Calls.{Meaning, Context, function_named}
use Rattle.run_model.specs.Meaning.{meaning, expr_step, call, value, lvalue, binary, assign, eval}
use Rattle.run_model.specs.Statements.{execute, stmt_step, execute_all, then_next, sequence, scoped, store_from}
use Rattle.run_model.specs.Statements.{enter as enter_local}
use Rattle.run_model.specs.Threads.{in_section, run_body, is_atomic, result_of}
use Rattle.cond_lower.specs.Lowering.{waiting, tokens, enter_body, init_body, broadcast_body, signal_body, take_body, assume, call_of, give_one, set_less, less_one, hold, held, give_all, variable, one, plus, nought, set, one_more, none_of, section}
use Rattle.cond_runs.specs.Rows.{read_cell, sum, less, as_section}
use Rattle.cond_runs.specs.Sections.{SeenAlike, HasCells, section_of, RunsAs, EnterIsRow, InitIsRow, BroadcastIsRow, SignalIsRow, TakeIsRow, counter_at}

-- `x = e;`, by the finding of the cell and the evaluation of the value
abbrev store : Step Slot → Step ℕ → Step Flow
store find run = (find >>= (λ c. run >>= (λ v. write c v >> pure v))) >> pure Next

module _ (cx : Context) where
  name_means : (p : Place) (n : Name) → meaning cx (variable p n) ≡ lvalue (Some n) (name_unsigned cx.setting.shared n) (slot cx.setting.shared p n 0)
  name_means p n = ap (meaning cx) (sym (e.rolls-Name p n)) ∙ fold-roll-Expr Meaning (expr_step cx) (Expr-F.Name p n)

  one_means : (p : Place) → meaning cx (one p) ≡ value (λ u. false) (pure 1)
  one_means p = ap (meaning cx) (sym (e.rolls-Number p 1 false)) ∙ fold-roll-Expr Meaning (expr_step cx) (Expr-F.Number p 1 false)

  pub nought_means : (p : Place) → meaning cx (nought p) ≡ value (λ u. false) (pure 0)
  nought_means p = ap (meaning cx) (sym (e.rolls-Number p 0 false)) ∙ fold-roll-Expr Meaning (expr_step cx) (Expr-F.Number p 0 false)

  plus_means : (p : Place) (x y : Expr) → (meaning cx (plus p x y)).run ≡ binary p op.Plus (meaning cx x) (meaning cx y)
  plus_means p x y = ap (λ (z : Expr). (meaning cx z).run) (sym (e.rolls-Binary p op.Plus x y)) ∙ ap (λ (m : Meaning). m.run) (fold-roll-Expr Meaning (expr_step cx) (Expr-F.Binary p op.Plus x y))

  assign_means : (p : Place) (x y : Expr) → eval cx (e.Assign p Plain x y) ≡ assign p Plain (meaning cx x) (meaning cx y)
  assign_means p x y = ap (λ (z : Expr). (meaning cx z).run) (sym (e.rolls-Assign p Plain x y)) ∙ ap (λ (m : Meaning). m.run) (fold-roll-Expr Meaning (expr_step cx) (Expr-F.Assign p Plain x y))

  set_means : (p : Place) (n : Name) (x : Expr) → execute cx (set p n x) ≡ store (slot cx.setting.shared p n 0) (meaning cx x).run
  set_means p n x =
      ap (execute cx) (sym (s.rolls-Expr p (e.Assign p Plain (variable p n) x)))
      ∙ fold-roll-Stmt (Step Flow) (stmt_step cx) (Stmt-F.Expr p (e.Assign p Plain (variable p n) x))
      ∙ ap (λ (m : Step ℕ). m >> pure Next) (assign_means p (variable p n) x ∙ ap (λ (l : Meaning). assign p Plain l (meaning cx x)) (name_means p n))

  more_means : (p : Place) (n : Name)
      → execute cx (one_more p n) ≡ store (slot cx.setting.shared p n 0) (binary p op.Plus (lvalue (Some n) (name_unsigned cx.setting.shared n) (slot cx.setting.shared p n 0)) (value (λ u. false) (pure 1)))
  more_means p n =
      set_means p n (plus p (variable p n) (one p))
      ∙ ap (store (slot cx.setting.shared p n 0)) (plus_means p (variable p n) (one p)
      ∙ ap (λ (m : Meaning). binary p op.Plus m (meaning cx (one p))) (name_means p n)
      ∙ ap (λ (m : Meaning). binary p op.Plus (lvalue (Some n) (name_unsigned cx.setting.shared n) (slot cx.setting.shared p n 0)) m) (one_means p))

  none_means : (p : Place) (n : Name) → execute cx (none_of p n) ≡ store (slot cx.setting.shared p n 0) (pure 0)
  none_means p n = set_means p n (nought p) ∙ ap (λ (m : Meaning). store (slot cx.setting.shared p n 0) m.run) (nought_means p)

-- ---- states without locals

abbrev at : ℕ → ℕ → List ℕ → ℕ → List Action → State
at cr d sc us ac = record { locals = []; created = cr; depth = d; script = sc; used = us; actions = ac }

slot_goes : (shared : List Shared) (p : Place) (n : Name) (c : ℕ) → shared_named shared n ≡ Some (counter_at n c)
    → (cr d : ℕ) (sc : List ℕ) (us : ℕ) (ac : List Action) → slot shared p n 0 (at cr d sc us ac) ≡ Goes (Common c) (at cr d sc us ac)
slot_goes shared p n c h cr d sc us ac =
    ap (λ (v : Option Shared). slot_in_shared p v 0 (at cr d sc us ac)) h ∙ ap (λ (m : ℕ). Goes (Common m) (at cr d sc us ac)) (add-zero c)

-- ---- sections

-- what goes on inside is the same, but for the depth, and gives 0
abbrev Inside : Outcome ℕ → Outcome (Unit {0}) → Type 0
Inside (Goes a x) (Goes b y) = (a ≡ 0) × (x ≡ record y { depth = y.depth + 1 })
Inside (Halts h x) (Halts k y) = (h ≡ k) × (x.actions ≡ y.actions) × (x.used ≡ y.used)
Inside _ _ = ⊥

pub alike_refl : {A : Type 0} (r : Outcome A) → SeenAlike r r
alike_refl (Goes a x) = (refl, refl)
alike_refl (Halts h x) = (refl, refl, refl)

-- behind what went on inside
leave : (x y : State) (a : ℕ) → a ≡ 0 → x ≡ record y { depth = y.depth + 1 }
    → SeenAlike ((end_section >> pure a) x) ((outside (make Close) >> pure 0) y)
leave x y a za e =
    let less : (y.depth + 1) - 1 ≡ y.depth = omega arith in
    let same : (end_section >> pure a) x ≡ (outside (make Close) >> pure 0) y =
    ap (λ (b : ℕ). (end_section >> pure b) x) za ∙ ap (λ (z : State). (end_section >> pure 0) z) e
    ∙ ap (λ (d : ℕ). (outside (make Close) >> pure 0) (record y { depth = d })) less in
    subst (λ (r : Outcome ℕ). SeenAlike r ((outside (make Close) >> pure 0) y)) (sym same) (alike_refl ((outside (make Close) >> pure 0) y))

leaves_alike : (m : Outcome ℕ) (n : Outcome (Unit {0})) → Inside m n
    → SeenAlike (go_on m (λ a. end_section >> pure a)) (go_on (go_on n (λ _. outside (make Close))) (λ _. pure 0))
leaves_alike (Goes a x) (Goes b y) h = leave x y a h.0 h.1
leaves_alike (Halts k x) (Halts l y) h = h
leaves_alike (Goes a x) (Halts l y) h = absurd h
leaves_alike (Halts k x) (Goes b y) h = absurd h

sectioned : (m : Step ℕ) (n : Step (Unit {0})) → ((u : State) → Inside (m (record u { depth = u.depth + 1 })) (n u))
    → (s : State) → SeenAlike (in_section m s) ((as_section n >> pure 0) s)
sectioned m n h s =
    elim (open_section s) as (λ (r : Outcome (Unit {0})). SeenAlike (go_on (go_on r (λ _. change (λ (z : State). record z { depth = z.depth + 1 }))) (λ _. m >>= (λ a. end_section >> pure a)))
    (go_on (go_on r (λ _. n >> outside (make Close))) (λ _. pure 0)))
    [ Goes a u ↦ leaves_alike (m (record u { depth = u.depth + 1 })) (n u) (h u) | Halts k u ↦ (refl, refl, refl) ]

is_section : (c kind : Name) (p : Place) (body : List Stmt) → is_atomic (section_of p (section c kind) body) ≡ true
unfolding is_atomic
is_section c kind p body = refl

-- the body of a section runs in a state of its own
runs_as : (cx : Context) (p : Place) (c kind : Name) (body : List Stmt) (n : Step (Unit {0}))
    → ((u : State) → Inside (run_body cx (section_of p (section c kind) body) [] (record u { depth = u.depth + 1 })) (n u))
    → RunsAs cx (section_of p (section c kind) body) (as_section n)
runs_as cx p c kind body n h s =
    subst (λ (b : Bool). SeenAlike (cond b (in_section (run_body cx (section_of p (section c kind) body) [])) (run_body cx (section_of p (section c kind) body) []) s) ((as_section n >> pure 0) s))
    (sym (is_section c kind p body)) (sectioned (run_body cx (section_of p (section c kind) body) []) n h s)

-- the locals come back
abbrev back : List Local → Flow → Step ℕ
back ls flow = change (λ (z : State). record z { locals = ls }) >> pure (result_of flow)

-- ---- one thread more waits

abbrev increments : ℕ → Step (Unit {0})
increments w = do
  v ← read_cell w
  make (Write w (sum v 1))

more_runs : (cx : Context) (p : Place) (n : Name) (c : ℕ) → shared_named cx.setting.shared n ≡ Some (counter_at n c)
    → (cr d : ℕ) (sc : List ℕ) (us : ℕ) (ac : List Action) → execute cx (one_more p n) (at cr d sc us ac) ≡ (increments c >> pure Next) (at cr d sc us ac)
more_runs cx p n c h cr d [] us ac = ap (λ (m : Step Flow). m (at cr d [] us ac)) (more_means cx p n) ∙ simp (slot_goes cx.setting.shared p n c h cr d [] us ac)
more_runs cx p n c h cr d (v ∷ vs) us ac = ap (λ (m : Step Flow). m (at cr d (v ∷ vs) us ac)) (more_means cx p n) ∙ simp (slot_goes cx.setting.shared p n c h cr d (v ∷ vs) us ac)

enter_inside : (cx : Context) (p : Place) (c : Name) (w : ℕ) → shared_named cx.setting.shared (waiting c) ≡ Some (counter_at (waiting c) w)
    → (ls : List Local) (cr d : ℕ) (sc : List ℕ) (us : ℕ) (ac : List Action)
    → Inside (go_on (execute_all cx (enter_body p c) (at cr (d + 1) sc us ac)) (back ls)) (increments w (record { locals = ls; created = cr; depth = d; script = sc; used = us; actions = ac }))
enter_inside cx p c w h ls cr d [] us ac =
    subst (λ (r : Outcome Flow). Inside (go_on (go_on r (λ f. then_next f (pure Next))) (back ls)) (increments w (record { locals = ls; created = cr; depth = d; script = []; used = us; actions = ac })))
    (sym (more_runs cx p (waiting c) w h cr (d + 1) [] us ac)) (refl, refl, refl)
enter_inside cx p c w h ls cr d (v ∷ vs) us ac =
    subst (λ (r : Outcome Flow). Inside (go_on (go_on r (λ f. then_next f (pure Next))) (back ls)) (increments w (record { locals = ls; created = cr; depth = d; script = v ∷ vs; used = us; actions = ac })))
    (sym (more_runs cx p (waiting c) w h cr (d + 1) (v ∷ vs) us ac)) (refl, refl)

pub enter_is_row : EnterIsRow
enter_is_row cx p c w t h = runs_as cx p c (codes ".enter") (enter_body p c) (increments w) (λ u. enter_inside cx p c w h.waits u.locals u.created u.depth u.script u.used u.actions)

-- ---- the counters begin anew

none_runs : (cx : Context) (p : Place) (n : Name) (c : ℕ) → shared_named cx.setting.shared n ≡ Some (counter_at n c)
    → (cr d : ℕ) (sc : List ℕ) (us : ℕ) (ac : List Action) → execute cx (none_of p n) (at cr d sc us ac) ≡ Goes Next (at cr d sc us (ac ++ Write c 0 ∷ []))
none_runs cx p n c h cr d sc us ac = ap (λ (m : Step Flow). m (at cr d sc us ac)) (none_means cx p n) ∙ simp (slot_goes cx.setting.shared p n c h cr d sc us ac)

init_inside : (cx : Context) (p : Place) (c : Name) (w t : ℕ) → HasCells cx.setting.shared c w t
    → (ls : List Local) (cr d : ℕ) (sc : List ℕ) (us : ℕ) (ac : List Action)
    → Inside (go_on (execute_all cx (init_body p c) (at cr (d + 1) sc us ac)) (back ls)) ((make (Write w 0) >> make (Write t 0)) (record { locals = ls; created = cr; depth = d; script = sc; used = us; actions = ac }))
init_inside cx p c w t h ls cr d sc us ac =
    let both : execute_all cx (init_body p c) (at cr (d + 1) sc us ac) ≡ Goes Next (at cr (d + 1) sc us (ac ++ Write w 0 ∷ [] ++ Write t 0 ∷ [])) =
    ap (λ (r : Outcome Flow). go_on r (λ f. then_next f (sequence (execute cx (none_of p (tokens c)) ∷ [])))) (none_runs cx p (waiting c) w h.waits cr (d + 1) sc us ac)
    ∙ ap (λ (r : Outcome Flow). go_on r (λ f. then_next f (pure Next))) (none_runs cx p (tokens c) t h.gives cr (d + 1) sc us (ac ++ Write w 0 ∷ [])) in
    subst (λ (r : Outcome Flow). Inside (go_on r (back ls)) ((make (Write w 0) >> make (Write t 0)) (record { locals = ls; created = cr; depth = d; script = sc; used = us; actions = ac })))
    (sym both) (refl, refl)

pub init_is_row : InitIsRow
init_is_row cx p c w t h =
    runs_as cx p c (codes ".init") (init_body p c) (make (Write w 0) >> make (Write t 0)) (λ u. init_inside cx p c w t h u.locals u.created u.depth u.script u.used u.actions)

-- ---- a local that holds what was read

abbrev held_at : ℕ → ℕ → ℕ → List ℕ → ℕ → List Action → State
held_at v cr d sc us ac = record { locals = record { name = held; unsigned = true; cells = v ∷ [] } ∷ []; created = cr; depth = d; script = sc; used = us; actions = ac }

and_false : (b : Bool) → (b && false) ≡ false
and_false true = refl
and_false false = refl

not_waiting : (c : Name) → bytes_eq held (waiting c) ≡ false
not_waiting [] = refl
not_waiting (x ∷ []) = and_false (nat_eq 118 x)
not_waiting (x ∷ y ∷ ys) = and_false (nat_eq 118 x)

not_tokens : (c : Name) → bytes_eq held (tokens c) ≡ false
not_tokens [] = refl
not_tokens (x ∷ []) = and_false (nat_eq 118 x)
not_tokens (x ∷ y ∷ ys) = and_false (nat_eq 118 x)

slot_beside : (shared : List Shared) (p : Place) (n : Name) (c : ℕ) → shared_named shared n ≡ Some (counter_at n c) → bytes_eq held n ≡ false
    → (v cr d : ℕ) (sc : List ℕ) (us : ℕ) (ac : List Action) → slot shared p n 0 (held_at v cr d sc us ac) ≡ Goes (Common c) (held_at v cr d sc us ac)
slot_beside shared p n c h other v cr d sc us ac =
    ap (λ (b : Bool). slot_in shared p n (or_else None (cond b (Some 0) None)) 0 (held_at v cr d sc us ac)) other
    ∙ ap (λ (o : Option Shared). slot_in_shared p o 0 (held_at v cr d sc us ac)) h ∙ ap (λ (m : ℕ). Goes (Common m) (held_at v cr d sc us ac)) (add-zero c)

-- `unsigned v = n;`, by the evaluation of n
abbrev declared : Step ℕ → Step Flow
declared run = (look (λ z. length z.locals) >>= (λ l. enter_local type.Uint held 1 >> store_from l 0 (run ∷ []))) >> nothing >> pure Next

module _ (cx : Context) where
  hold_means : (p : Place) (n : Name) → execute cx (hold p n) ≡ declared (slot cx.setting.shared p n 0 >>= read)
  hold_means p n =
      let d : Decl = record { word = type.Uint; declarators = record { place = p; name = held; size = None; initialiser = Some (One (variable p n)) } ∷ [] } in
      ap (execute cx) (sym (s.rolls-Declare d)) ∙ fold-roll-Stmt (Step Flow) (stmt_step cx) (Stmt-F.Declare d) ∙ ap (λ (m : Meaning). declared m.run) (name_means cx p n)

  give_means : (p : Place) (n : Name)
      → execute cx (give_all p n) ≡ store (slot cx.setting.shared p n 0) (binary p op.Plus (lvalue (Some n) (name_unsigned cx.setting.shared n) (slot cx.setting.shared p n 0)) (lvalue (Some held) (name_unsigned cx.setting.shared held) (slot cx.setting.shared p held 0)))
  give_means p n =
      set_means cx p n (plus p (variable p n) (variable p held))
      ∙ ap (store (slot cx.setting.shared p n 0)) (plus_means cx p (variable p n) (variable p held)
      ∙ ap (λ (m : Meaning). binary p op.Plus m (meaning cx (variable p held))) (name_means cx p n)
      ∙ ap (λ (m : Meaning). binary p op.Plus (lvalue (Some n) (name_unsigned cx.setting.shared n) (slot cx.setting.shared p n 0)) m) (name_means cx p held))

  module _ (p : Place) (n : Name) (c : ℕ) (h : shared_named cx.setting.shared n ≡ Some (counter_at n c)) (other : bytes_eq held n ≡ false) where
    hold_short : (cr d us : ℕ) (ac : List Action) → execute cx (hold p n) (at cr d [] us ac) ≡ Halts (Short (ReadOf c)) (held_at 0 cr d [] us ac)
    hold_short cr d us ac = ap (λ (m : Step Flow). m (at cr d [] us ac)) (hold_means p n) ∙ simp (slot_beside cx.setting.shared p n c h other 0 cr d [] us ac)

    hold_goes : (v : ℕ) (vs : List ℕ) (cr d us : ℕ) (ac : List Action)
        → execute cx (hold p n) (at cr d (v ∷ vs) us ac) ≡ Goes Next (held_at v cr d vs (us + 1) (ac ++ Read c v ∷ []))
    hold_goes v vs cr d us ac = ap (λ (m : Step Flow). m (at cr d (v ∷ vs) us ac)) (hold_means p n) ∙ simp (slot_beside cx.setting.shared p n c h other 0 cr d (v ∷ vs) us ac)

    none_held : (v cr d : ℕ) (sc : List ℕ) (us : ℕ) (ac : List Action) → execute cx (none_of p n) (held_at v cr d sc us ac) ≡ Goes Next (held_at v cr d sc us (ac ++ Write c 0 ∷ []))
    none_held v cr d sc us ac = ap (λ (m : Step Flow). m (held_at v cr d sc us ac)) (none_means cx p n) ∙ simp (slot_beside cx.setting.shared p n c h other v cr d sc us ac)

    give_short : (v cr d us : ℕ) (ac : List Action) → execute cx (give_all p n) (held_at v cr d [] us ac) ≡ Halts (Short (ReadOf c)) (held_at v cr d [] us ac)
    give_short v cr d us ac = ap (λ (m : Step Flow). m (held_at v cr d [] us ac)) (give_means p n) ∙ simp (slot_beside cx.setting.shared p n c h other v cr d [] us ac)

    give_goes : (v x : ℕ) (xs : List ℕ) (cr d us : ℕ) (ac : List Action)
        → execute cx (give_all p n) (held_at v cr d (x ∷ xs) us ac) ≡ Goes Next (held_at v cr d xs (us + 1) (ac ++ Read c x ∷ [] ++ Write c (sum x v) ∷ []))
    give_goes v x xs cr d us ac = ap (λ (m : Step Flow). m (held_at v cr d (x ∷ xs) us ac)) (give_means p n) ∙ simp (slot_beside cx.setting.shared p n c h other v cr d (x ∷ xs) us ac)

-- one statement, and then the others
abbrev then_all : List (Step Flow) → Outcome Flow → Outcome Flow
then_all ms r = go_on r (λ f. then_next f (sequence ms))

-- ---- each waiting thread is given a token

abbrev gives_all : ℕ → ℕ → Step (Unit {0})
gives_all w t = do
  v ← read_cell w
  make (Write w 0)
  u ← read_cell t
  make (Write t (sum u v))

module _ (cx : Context) (p : Place) (c : Name) (w t : ℕ) (h : HasCells cx.setting.shared c w t) where
  broadcast_inside : (ls : List Local) (cr d : ℕ) (sc : List ℕ) (us : ℕ) (ac : List Action)
      → Inside (go_on (execute_all cx (broadcast_body p c) (at cr (d + 1) sc us ac)) (back ls)) (gives_all w t (record { locals = ls; created = cr; depth = d; script = sc; used = us; actions = ac }))
  broadcast_inside ls cr d [] us ac =
      subst (λ (r : Outcome Flow). Inside (go_on (then_all (execute cx (none_of p (waiting c)) ∷ execute cx (give_all p (tokens c)) ∷ []) r) (back ls)) (gives_all w t (record { locals = ls; created = cr; depth = d; script = []; used = us; actions = ac })))
      (sym (hold_short cx p (waiting c) w h.waits (not_waiting c) cr (d + 1) us ac)) (refl, refl, refl)
  broadcast_inside ls cr d (v ∷ []) us ac =
      let all : execute_all cx (broadcast_body p c) (at cr (d + 1) (v ∷ []) us ac) ≡ Halts (Short (ReadOf t)) (held_at v cr (d + 1) [] (us + 1) (ac ++ Read w v ∷ [] ++ Write w 0 ∷ [])) =
      ap (then_all (execute cx (none_of p (waiting c)) ∷ execute cx (give_all p (tokens c)) ∷ [])) (hold_goes cx p (waiting c) w h.waits (not_waiting c) v [] cr (d + 1) us ac)
      ∙ ap (then_all (execute cx (give_all p (tokens c)) ∷ [])) (none_held cx p (waiting c) w h.waits (not_waiting c) v cr (d + 1) [] (us + 1) (ac ++ Read w v ∷ []))
      ∙ ap (then_all []) (give_short cx p (tokens c) t h.gives (not_tokens c) v cr (d + 1) (us + 1) (ac ++ Read w v ∷ [] ++ Write w 0 ∷ [])) in
      subst (λ (r : Outcome Flow). Inside (go_on r (back ls)) (gives_all w t (record { locals = ls; created = cr; depth = d; script = v ∷ []; used = us; actions = ac })))
      (sym all) (refl, refl, refl)
  broadcast_inside ls cr d (v ∷ x ∷ xs) us ac =
      let all : execute_all cx (broadcast_body p c) (at cr (d + 1) (v ∷ x ∷ xs) us ac)
      ≡ Goes Next (held_at v cr (d + 1) xs (us + 1 + 1) (ac ++ Read w v ∷ [] ++ Write w 0 ∷ [] ++ Read t x ∷ [] ++ Write t (sum x v) ∷ [])) =
      ap (then_all (execute cx (none_of p (waiting c)) ∷ execute cx (give_all p (tokens c)) ∷ [])) (hold_goes cx p (waiting c) w h.waits (not_waiting c) v (x ∷ xs) cr (d + 1) us ac)
      ∙ ap (then_all (execute cx (give_all p (tokens c)) ∷ [])) (none_held cx p (waiting c) w h.waits (not_waiting c) v cr (d + 1) (x ∷ xs) (us + 1) (ac ++ Read w v ∷ []))
      ∙ ap (then_all []) (give_goes cx p (tokens c) t h.gives (not_tokens c) v x xs cr (d + 1) (us + 1) (ac ++ Read w v ∷ [] ++ Write w 0 ∷ [])) in
      subst (λ (r : Outcome Flow). Inside (go_on r (back ls)) (gives_all w t (record { locals = ls; created = cr; depth = d; script = v ∷ x ∷ xs; used = us; actions = ac })))
      (sym all) (refl, refl)

pub broadcast_is_row : BroadcastIsRow
broadcast_is_row cx p c w t h =
    runs_as cx p c (codes ".broadcast") (broadcast_body p c) (gives_all w t) (λ u. broadcast_inside cx p c w t h u.locals u.created u.depth u.script u.used u.actions)

-- ---- one waiting thread is given a token

module _ (cx : Context) where
  less_means : (p : Place) (n : Name)
      → execute cx (set_less p n) ≡ store (slot cx.setting.shared p n 0) (binary p op.Minus (lvalue (Some held) (name_unsigned cx.setting.shared held) (slot cx.setting.shared p held 0)) (value (λ u. false) (pure 1)))
  less_means p n =
      set_means cx p n (less_one p)
      ∙ ap (store (slot cx.setting.shared p n 0))
      (ap (λ (z : Expr). (meaning cx z).run) (sym (e.rolls-Binary p op.Minus (variable p held) (one p)))
      ∙ ap (λ (m : Meaning). m.run) (fold-roll-Expr Meaning (expr_step cx) (Expr-F.Binary p op.Minus (variable p held) (one p)))
      ∙ ap (λ (m : Meaning). binary p op.Minus m (meaning cx (one p))) (name_means cx p held)
      ∙ ap (λ (m : Meaning). binary p op.Minus (lvalue (Some held) (name_unsigned cx.setting.shared held) (slot cx.setting.shared p held 0)) m) (one_means cx p))

  if_means : (p : Place) (a : Stmt)
      → execute cx (s.If p (variable p held) a None) ≡ ((slot cx.setting.shared p held 0 >>= read) >>= (λ v. cond (is_true v) (scoped (execute cx a)) (pure Next)))
  if_means p a =
      ap (execute cx) (sym (s.rolls-If p (variable p held) a None)) ∙ fold-roll-Stmt (Step Flow) (stmt_step cx) (Stmt-F.If p (variable p held) a None)
      ∙ ap (λ (m : Meaning). m.run >>= (λ v. cond (is_true v) (scoped (execute cx a)) (pure Next))) (name_means cx p held)

  block_means : (p : Place) (a b : Stmt) → execute cx (s.Block p (a ∷ b ∷ [])) ≡ scoped (sequence (execute cx a ∷ execute cx b ∷ []))
  block_means p a b = ap (execute cx) (sym (s.rolls-Block p (a ∷ b ∷ []))) ∙ fold-roll-Stmt (Step Flow) (stmt_step cx) (Stmt-F.Block p (a ∷ b ∷ []))

  module _ (p : Place) (n : Name) (c : ℕ) (h : shared_named cx.setting.shared n ≡ Some (counter_at n c)) (other : bytes_eq held n ≡ false) where
    less_held : (v cr d : ℕ) (sc : List ℕ) (us : ℕ) (ac : List Action) → execute cx (set_less p n) (held_at v cr d sc us ac) ≡ Goes Next (held_at v cr d sc us (ac ++ Write c (less v) ∷ []))
    less_held v cr d sc us ac = ap (λ (m : Step Flow). m (held_at v cr d sc us ac)) (less_means p n) ∙ simp (slot_beside cx.setting.shared p n c h other v cr d sc us ac)

    more_short : (v cr d us : ℕ) (ac : List Action) → execute cx (one_more p n) (held_at v cr d [] us ac) ≡ Halts (Short (ReadOf c)) (held_at v cr d [] us ac)
    more_short v cr d us ac = ap (λ (m : Step Flow). m (held_at v cr d [] us ac)) (more_means cx p n) ∙ simp (slot_beside cx.setting.shared p n c h other v cr d [] us ac)

    more_goes : (v x : ℕ) (xs : List ℕ) (cr d us : ℕ) (ac : List Action)
        → execute cx (one_more p n) (held_at v cr d (x ∷ xs) us ac) ≡ Goes Next (held_at v cr d xs (us + 1) (ac ++ Read c x ∷ [] ++ Write c (sum x 1) ∷ []))
    more_goes v x xs cr d us ac = ap (λ (m : Step Flow). m (held_at v cr d (x ∷ xs) us ac)) (more_means cx p n) ∙ simp (slot_beside cx.setting.shared p n c h other v cr d (x ∷ xs) us ac)

abbrev gives_one : ℕ → ℕ → ℕ → Step (Unit {0})
gives_one w t v = do
  make (Write w (less v))
  u ← read_cell t
  make (Write t (sum u 1))

abbrev gives : ℕ → ℕ → Step (Unit {0})
gives w t = do
  v ← read_cell w
  cond (nat_eq v 0) nothing (gives_one w t v)

module _ (cx : Context) (p : Place) (c : Name) (w t : ℕ) (h : HasCells cx.setting.shared c w t) where
  given_short : (v cr d us : ℕ) (ac : List Action)
      → scoped (execute cx (give_one p c)) (held_at v cr d [] us ac) ≡ Halts (Short (ReadOf t)) (held_at v cr d [] us (ac ++ Write w (less v) ∷ []))
  given_short v cr d us ac =
      ap (λ (m : Step Flow). scoped m (held_at v cr d [] us ac)) (block_means cx p (set_less p (waiting c)) (one_more p (tokens c)))
      ∙ ap (λ (r : Outcome Flow). go_on (go_on (then_all (execute cx (one_more p (tokens c)) ∷ []) r) (λ f. change (λ (z : State). record z { locals = keep 1 z.locals }) >> pure f)) (λ f. change (λ (z : State). record z { locals = keep 1 z.locals }) >> pure f))
      (less_held cx p (waiting c) w h.waits (not_waiting c) v cr d [] us ac)
      ∙ ap (λ (r : Outcome Flow). go_on (go_on (then_all [] r) (λ f. change (λ (z : State). record z { locals = keep 1 z.locals }) >> pure f)) (λ f. change (λ (z : State). record z { locals = keep 1 z.locals }) >> pure f))
      (more_short cx p (tokens c) t h.gives (not_tokens c) v cr d us (ac ++ Write w (less v) ∷ []))

  given_goes : (v x : ℕ) (xs : List ℕ) (cr d us : ℕ) (ac : List Action)
      → scoped (execute cx (give_one p c)) (held_at v cr d (x ∷ xs) us ac) ≡ Goes Next (held_at v cr d xs (us + 1) (ac ++ Write w (less v) ∷ [] ++ Read t x ∷ [] ++ Write t (sum x 1) ∷ []))
  given_goes v x xs cr d us ac =
      ap (λ (m : Step Flow). scoped m (held_at v cr d (x ∷ xs) us ac)) (block_means cx p (set_less p (waiting c)) (one_more p (tokens c)))
      ∙ ap (λ (r : Outcome Flow). go_on (go_on (then_all (execute cx (one_more p (tokens c)) ∷ []) r) (λ f. change (λ (z : State). record z { locals = keep 1 z.locals }) >> pure f)) (λ f. change (λ (z : State). record z { locals = keep 1 z.locals }) >> pure f))
      (less_held cx p (waiting c) w h.waits (not_waiting c) v cr d (x ∷ xs) us ac)
      ∙ ap (λ (r : Outcome Flow). go_on (go_on (then_all [] r) (λ f. change (λ (z : State). record z { locals = keep 1 z.locals }) >> pure f)) (λ f. change (λ (z : State). record z { locals = keep 1 z.locals }) >> pure f))
      (more_goes cx p (tokens c) t h.gives (not_tokens c) v x xs cr d us (ac ++ Write w (less v) ∷ []))

  -- behind the test of what was read
  tested : (b : Bool) (ls : List Local) (v cr d : ℕ) (sc : List ℕ) (us : ℕ) (ac : List Action)
      → Inside (go_on (then_all [] (cond (not b) (scoped (execute cx (give_one p c))) (pure Next) (held_at v cr (d + 1) sc us ac))) (back ls))
      (cond b nothing (gives_one w t v) (record { locals = ls; created = cr; depth = d; script = sc; used = us; actions = ac }))
  tested true ls v cr d sc us ac = (refl, refl)
  tested false ls v cr d [] us ac =
      subst (λ (r : Outcome Flow). Inside (go_on (then_all [] r) (back ls)) (gives_one w t v (record { locals = ls; created = cr; depth = d; script = []; used = us; actions = ac })))
      (sym (given_short v cr (d + 1) us ac)) (refl, refl, refl)
  tested false ls v cr d (x ∷ xs) us ac =
      subst (λ (r : Outcome Flow). Inside (go_on (then_all [] r) (back ls)) (gives_one w t v (record { locals = ls; created = cr; depth = d; script = x ∷ xs; used = us; actions = ac })))
      (sym (given_goes v x xs cr (d + 1) us ac)) (refl, refl)

  signal_inside : (ls : List Local) (cr d : ℕ) (sc : List ℕ) (us : ℕ) (ac : List Action)
      → Inside (go_on (execute_all cx (signal_body p c) (at cr (d + 1) sc us ac)) (back ls)) (gives w t (record { locals = ls; created = cr; depth = d; script = sc; used = us; actions = ac }))
  signal_inside ls cr d [] us ac =
      subst (λ (r : Outcome Flow). Inside (go_on (then_all (execute cx (s.If p (variable p held) (give_one p c) None) ∷ []) r) (back ls)) (gives w t (record { locals = ls; created = cr; depth = d; script = []; used = us; actions = ac })))
      (sym (hold_short cx p (waiting c) w h.waits (not_waiting c) cr (d + 1) us ac)) (refl, refl, refl)
  signal_inside ls cr d (v ∷ vs) us ac =
      subst (λ (r : Outcome Flow). Inside (go_on (then_all (execute cx (s.If p (variable p held) (give_one p c) None) ∷ []) r) (back ls)) (gives w t (record { locals = ls; created = cr; depth = d; script = v ∷ vs; used = us; actions = ac })))
      (sym (hold_goes cx p (waiting c) w h.waits (not_waiting c) v vs cr (d + 1) us ac))
      (subst (λ (m : Step Flow). Inside (go_on (then_all [] (m (held_at v cr (d + 1) vs (us + 1) (ac ++ Read w v ∷ [])))) (back ls)) (gives w t (record { locals = ls; created = cr; depth = d; script = v ∷ vs; used = us; actions = ac })))
      (sym (if_means cx p (give_one p c))) (tested (nat_eq v 0) ls v cr d vs (us + 1) (ac ++ Read w v ∷ [])))

pub signal_is_row : SignalIsRow
signal_is_row cx p c w t h =
    runs_as cx p c (codes ".signal") (signal_body p c) (gives w t) (λ u. signal_inside cx p c w t h u.locals u.created u.depth u.script u.used u.actions)

-- ---- a token is taken

abbrev nought_step : Step ℕ
nought_step = pure 0

module _ (cx : Context) (free : function_named cx.setting (codes "__VERIFIER_assume") ≡ None) where
  assume_means : (p : Place) → execute cx (assume p) ≡ (((slot cx.setting.shared p held 0 >>= read) >>= (λ v. cond (is_true v) nought_step stop)) >> pure Next)
  assume_means p =
      let x : Expr = call_of p (codes "__VERIFIER_assume") (variable p held ∷ []) in
      ap (execute cx) (sym (s.rolls-Expr p x))
      ∙ fold-roll-Stmt (Step Flow) (stmt_step cx) (Stmt-F.Expr p x)
      ∙ ap (λ (z : Expr). (meaning cx z).run >> pure Next) (sym (e.rolls-Call p (codes "__VERIFIER_assume") (variable p held ∷ [])))
      ∙ ap (λ (m : Meaning). m.run >> pure Next) (fold-roll-Expr Meaning (expr_step cx) (Expr-F.Call p (codes "__VERIFIER_assume") (variable p held ∷ [])))
      ∙ ap (λ (f : Option ℕ). call cx p (codes "__VERIFIER_assume") (meaning cx (variable p held) ∷ []) f >> pure Next) free
      ∙ ap (λ (m : Meaning). (m.run >>= (λ v. cond (is_true v) nought_step stop)) >> pure Next) (name_means cx p held)

deep : (d : ℕ) → nat_eq (d + 1) 0 ≡ false
deep d = ne_eqb (d + 1) 0 (λ same. absurd (omega (arith, same)))

abbrev takes_one : ℕ → Step (Unit {0})
takes_one t = do
  v ← read_cell t
  cond (nat_eq v 0) (ends Bad) nothing
  make (Write t (less v))

module _ (cx : Context) (p : Place) (c : Name) (w t : ℕ) (h : HasCells cx.setting.shared c w t) (free : function_named cx.setting (codes "__VERIFIER_assume") ≡ None) where
  -- behind the test of what was read
  taken : (b : Bool) (ls : List Local) (v cr d : ℕ) (sc : List ℕ) (us : ℕ) (ac : List Action)
      → Inside (go_on (then_all (execute cx (set_less p (tokens c)) ∷ []) ((cond (not b) nought_step stop >> pure Next) (held_at v cr (d + 1) sc us ac))) (back ls))
      ((cond b (ends Bad) nothing >> make (Write t (less v))) (record { locals = ls; created = cr; depth = d; script = sc; used = us; actions = ac }))
  taken true ls v cr d sc us ac = (ap (λ (z : Bool). Over (cond z Stopped Bad)) (deep d), refl, refl)
  taken false ls v cr d sc us ac =
      subst (λ (r : Outcome Flow). Inside (go_on (then_all [] r) (back ls)) (make (Write t (less v)) (record { locals = ls; created = cr; depth = d; script = sc; used = us; actions = ac })))
      (sym (less_held cx p (tokens c) t h.gives (not_tokens c) v cr (d + 1) sc us ac)) (refl, refl)

  take_inside : (ls : List Local) (cr d : ℕ) (sc : List ℕ) (us : ℕ) (ac : List Action)
      → Inside (go_on (execute_all cx (take_body p c) (at cr (d + 1) sc us ac)) (back ls)) (takes_one t (record { locals = ls; created = cr; depth = d; script = sc; used = us; actions = ac }))
  take_inside ls cr d [] us ac =
      subst (λ (r : Outcome Flow). Inside (go_on (then_all (execute cx (assume p) ∷ execute cx (set_less p (tokens c)) ∷ []) r) (back ls)) (takes_one t (record { locals = ls; created = cr; depth = d; script = []; used = us; actions = ac })))
      (sym (hold_short cx p (tokens c) t h.gives (not_tokens c) cr (d + 1) us ac)) (refl, refl, refl)
  take_inside ls cr d (v ∷ vs) us ac =
      subst (λ (r : Outcome Flow). Inside (go_on (then_all (execute cx (assume p) ∷ execute cx (set_less p (tokens c)) ∷ []) r) (back ls)) (takes_one t (record { locals = ls; created = cr; depth = d; script = v ∷ vs; used = us; actions = ac })))
      (sym (hold_goes cx p (tokens c) t h.gives (not_tokens c) v vs cr (d + 1) us ac))
      (subst (λ (m : Step Flow). Inside (go_on (then_all (execute cx (set_less p (tokens c)) ∷ []) (m (held_at v cr (d + 1) vs (us + 1) (ac ++ Read t v ∷ [])))) (back ls)) (takes_one t (record { locals = ls; created = cr; depth = d; script = v ∷ vs; used = us; actions = ac })))
      (sym (assume_means cx free p)) (taken (nat_eq v 0) ls v cr d vs (us + 1) (ac ++ Read t v ∷ [])))

pub take_is_row : TakeIsRow
take_is_row cx p c w t h free =
    runs_as cx p c (codes ".take") (take_body p c) (takes_one t) (λ u. take_inside cx p c w t h free u.locals u.created u.depth u.script u.used u.actions)
