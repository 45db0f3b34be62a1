-- What the parts of two runs relate, statements, calls of functions and bodies do.
use Rattle.std.proofs.Common.{◌≡◌, ℕ, zero, suc, ◌+◌, ◌≤◌, List, [], ◌∷◌, ◌++◌, Option, Some, None, ◌⊎◌, map, length, take, refl, sym, subst, ⊎_elim, inl, inr, arith}
use Rattle.std.specs.Prelude.{slice_get, replicate, cond}
use Rattle.dg_base.specs.declared.Place.{Place}
use Rattle.dg_base.specs.Values.{is_true}
use Rattle.c_tree.specs.declared.expr.TypeWord.{TypeWord}
use Rattle.c_tree.specs.declared.expr.TypeWord.TheVariants as type
use Rattle.c_tree.specs.declared.expr.Expr.{Expr}
use Rattle.c_tree.specs.declared.stmt.Initialiser.{Initialiser}
use Rattle.c_tree.specs.declared.stmt.Initialiser.TheVariants.{One, Braces}
use Rattle.c_tree.specs.declared.stmt.Declarator.{Declarator}
use Rattle.c_tree.specs.declared.stmt.Start.{Start}
use Rattle.c_tree.specs.declared.stmt.Start.TheVariants as start
use Rattle.c_tree.specs.declared.stmt.Stmt.{Stmt, fold-roll-Stmt, ind-Stmt, map-Stmt}
use Rattle.c_tree.specs.declared.stmt.Stmt.TheOpen.{Stmt-F}
use Rattle.c_tree.specs.declared.stmt.Stmt.TheViews.{roll-Stmt}
use Rattle.c_tree.specs.declared.program.Function.{Function}
use Rattle.c_tree.specs.Operators.{word_unsigned}
use Rattle.c_check.specs.Limits.{cell_count}
use Rattle.run_model.specs.declared.state.Local.{Local}
use Rattle.run_model.specs.declared.state.Flow.{Flow}
use Rattle.run_model.specs.declared.state.Flow.TheVariants.{Next, Broke, Continued, Returned}
use Rattle.run_model.specs.declared.state.Need.TheVariants.{Any}
use Rattle.run_model.specs.declared.state.Slot.TheVariants.{Own}
use Rattle.run_model.specs.Steps.{Step, ◌>>=◌, ◌>>◌, pure, nothing, look, change, take_number}
use Rattle.run_model.specs.Cells.{write}
use Rattle.run_model.specs.Calls.{Context, spend}
use Rattle.run_model.specs.Meaning.{eval}
use Rattle.run_model.specs.Statements.{then_next, scoped, after_body, loop, do_loop, first_values, store_from, enter, declare_one, declare_all, eval_if, begin_for, turns, stmt_step, execute, execute_all}
use Rattle.run_model.specs.Threads.{parameters, result_of, run_body, is_atomic, in_section, call_body, with_function, call_within, context_within}
use Rattle.run_laws.specs.Leaves.{Leaf, in_all, leaves, in_option, in_start, in_declarators, in_for, stmt_leaves, in_stmt, in_body, in_functions}
use Rattle.run_laws.proofs.Joint.{Two, one, two, Values, anything, Words, Leaves, Known, known_left, known_right, Closed, Relation, Relates, Premised, Passes, Carries, premised, carries, still, both_then, both_nothing, both_look, both_cond}
use Rattle.run_laws.proofs.JointMeaning.{meaning_meets}

module _ (g : Two) (v : Values) (c : Closed v) (R : Premised) (k : Carries g v R) where
  -- whatever is known
  abbrev Always : (A : Type 0) → (A → Type 0) → Step A → Step A → Type 0
  Always A Q m n = R (Unit {0}) A Q m n

  -- ---- loops

  abbrev FlowMeets : Step Flow → Step Flow → Type 0
  FlowMeets m n = Always Flow (Leaves v) m n

  next_meets : (C : Type 0) → R C Flow (Leaves v) (pure Next) (pure Next)
  next_meets C = k.of_pure C Flow (Leaves v) Next (λ _. tt)

  then_next_meets : (C : Type 0) (f : Flow) → (C → Leaves v f) → (m n : Step Flow) → R C Flow (Leaves v) m n → R C Flow (Leaves v) (then_next f m) (then_next f n)
  then_next_meets C Next h m n p = p
  then_next_meets C Broke h m n p = k.of_pure C Flow (Leaves v) Broke (λ _. tt)
  then_next_meets C Continued h m n p = k.of_pure C Flow (Leaves v) Continued (λ _. tt)
  then_next_meets C (Returned x) h m n p = k.of_pure C Flow (Leaves v) (Returned x) h

  after_body_meets : (C : Type 0) (f : Flow) → (C → Leaves v f) → (m n : Step Flow) → R C Flow (Leaves v) m n → R C Flow (Leaves v) (after_body f m) (after_body f n)
  after_body_meets C Next h m n p = p
  after_body_meets C Broke h m n p = next_meets C
  after_body_meets C Continued h m n p = p
  after_body_meets C (Returned x) h m n p = k.of_pure C Flow (Leaves v) (Returned x) h

  -- the bounds of the two sides: the same, or the right one is higher, and a spent bound on the left is passed
  abbrev Turned : ℕ → ℕ → Type 0
  Turned i j = (j ≡ i) ⊎ ((i ≤ j) × Passes g v Always)

  fewer : (i j : ℕ) → Turned (suc i) (suc j) → Turned i j
  fewer i j t = ⊎_elim (λ e. inl (omega (arith, e))) (λ h. inr (omega (arith, h.0), h.1)) t

  none_left : {A : Type 0} (j : ℕ) → ((Passes g v Always) → A) → Turned zero (suc j) → A
  none_left j f t = ⊎_elim (λ e. absurd (omega (arith, e))) (λ h. f h.1) t

  not_fewer : {A : Type 0} (i : ℕ) → Turned (suc i) zero → A
  not_fewer i t = ⊎_elim (λ e. absurd (omega (arith, e))) (λ h. absurd (omega (arith, h.0))) t

  module _ (p : Place) (t u : Step ℕ) (test : Always ℕ v.word t u) (b d : Step Flow) (body : FlowMeets b d) where
    abbrev spent_left : Step Flow
    spent_left = spend (one g) p

    abbrev spent_right : Step Flow
    spent_right = spend (two g) p

    tested_meets : (m n : Step Flow) → FlowMeets m n → FlowMeets (t >>= (λ x. cond (is_true x) m (pure Next))) (u >>= (λ x. cond (is_true x) n (pure Next)))
    tested_meets m n h =
        k.of_then _ ℕ Flow v.word (Leaves v) t u (λ x. cond (is_true x) m (pure Next)) (λ x. cond (is_true x) n (pure Next)) test
        (λ x. both_cond g v R k _ Flow (Leaves v) (is_true x) m (pure Next) n (pure Next) (still g v R k h) (next_meets _))

    turned_meets : (m n : Step Flow) → FlowMeets m n → FlowMeets (b >>= (λ f. after_body f m)) (d >>= (λ f. after_body f n))
    turned_meets m n h = k.of_then _ Flow Flow (Leaves v) (Leaves v) b d (λ f. after_body f m) (λ f. after_body f n) body (λ f. after_body_meets _ f (λ z. z.last) m n (still g v R k h))

    do_loop_meets : (j i : ℕ) → Turned i j → FlowMeets (do_loop spent_left i t b) (do_loop spent_right j u d)
    do_loop_meets zero zero h = k.of_spend p
    do_loop_meets zero (suc i) h = not_fewer i h
    do_loop_meets (suc j) zero h =
        none_left j (λ passes.
        passes p (do_loop spent_left (suc j) t b) (do_loop spent_right (suc j) u d)
        (turned_meets _ _ (tested_meets (do_loop spent_left j t b) (do_loop spent_right j u d) (do_loop_meets j j (inl refl))))) h
    do_loop_meets (suc j) (suc i) h = turned_meets _ _ (tested_meets (do_loop spent_left i t b) (do_loop spent_right j u d) (do_loop_meets j i (fewer i j h)))

    module _ (e f : Step (Unit {0})) (step : Always (Unit {0}) anything e f) where
      stepped_meets : (m n : Step Flow) → FlowMeets m n → FlowMeets (e >> m) (f >> n)
      stepped_meets m n h = both_then g v R k _ anything (Leaves v) e f m n step h

      loop_meets : (j i : ℕ) → Turned i j → FlowMeets (loop spent_left i t b e) (loop spent_right j u d f)
      loop_meets zero zero h = tested_meets spent_left spent_right (k.of_spend p)
      loop_meets zero (suc i) h = not_fewer i h
      loop_meets (suc j) zero h =
          tested_meets spent_left _
          (none_left j (λ passes.
          passes p _ _ (turned_meets _ _ (stepped_meets (loop spent_left j t b e) (loop spent_right j u d f) (loop_meets j j (inl refl))))) h)
      loop_meets (suc j) (suc i) h = tested_meets _ _ (turned_meets _ _ (stepped_meets (loop spent_left i t b e) (loop spent_right j u d f) (loop_meets j i (fewer i j h))))

  module _ (called other : ℕ → List ℕ → Step ℕ) (calls : (f : ℕ) (args : List ℕ) → R (Words v args) ℕ v.word (called f args) (other f args)) where
    abbrev cx : Context
    cx = record { setting = one g; call = called }

    abbrev cy : Context
    cy = record { setting = two g; call = other }

    pub eval_meets : (e : Expr) → Known v (leaves e) → Always ℕ v.word (eval cx e) (eval cy e)
    eval_meets e h = (meaning_meets g v c R k called other calls e h).run

    pub eval_if_meets : (x : ℕ) → v.word x → (o : Option Expr) → Known v (in_option o) → Always ℕ v.word (eval_if cx x o) (eval_if cy x o)
    eval_if_meets x w None h = k.of_pure _ ℕ v.word x (λ _. w)
    eval_if_meets x w (Some e) h = eval_meets e h

    -- ---- declarations

    abbrev Stores : Step (Unit {0}) → Step (Unit {0}) → Type 0
    Stores m n = Always (Unit {0}) anything m n

    store_meets : (l j : ℕ) (m n : Step ℕ) (rest more : Step (Unit {0})) → Always ℕ v.word m n → Stores rest more → Stores (m >>= (λ x. write (Own l j) x >> rest)) (n >>= (λ x. write (Own l j) x >> more))
    store_meets l j m n rest more p q =
        k.of_then _ ℕ (Unit {0}) v.word anything m n (λ x. write (Own l j) x >> rest) (λ x. write (Own l j) x >> more) p
        (λ x. both_then g v R k _ anything anything (write (Own l j) x) (write (Own l j) x) rest more (k.of_own _ l j x (λ z. z.last)) (still g v R k q))

    store_taken_meets : (l j n : ℕ) → Stores (store_from l j (replicate n (take_number Any))) (store_from l j (replicate n (take_number Any)))
    store_taken_meets l j zero = both_nothing g v R k
    store_taken_meets l j (suc n) =
        store_meets l j (take_number Any) (take_number Any) (store_from l (j + 1) (replicate n (take_number Any))) (store_from l (j + 1) (replicate n (take_number Any))) k.of_any (store_taken_meets l (j + 1) n)

    store_all_meets : (l j : ℕ) (es : List Expr) → Known v (in_all (map leaves es)) → Stores (store_from l j (map (eval cx) es)) (store_from l j (map (eval cy) es))
    store_all_meets l j [] h = both_nothing g v R k
    store_all_meets l j (e ∷ es) h =
        store_meets l j (eval cx e) (eval cy e) (store_from l (j + 1) (map (eval cx) es)) (store_from l (j + 1) (map (eval cy) es))
        (eval_meets e (known_left v (leaves e) (in_all (map leaves es)) h)) (store_all_meets l (j + 1) es (known_right v (leaves e) (in_all (map leaves es)) h))

    store_one_meets : (l : ℕ) (e : Expr) → Known v (leaves e) → Stores (store_from l 0 (eval cx e ∷ [])) (store_from l 0 (eval cy e ∷ []))
    store_one_meets l e h = store_meets l 0 (eval cx e) (eval cy e) nothing nothing (eval_meets e h) (both_nothing g v R k)

    first_values_meet : (l : ℕ) (w : TypeWord) (n : ℕ) (o : Option Initialiser) → Known v (in_start o) → Stores (store_from l 0 (first_values cx w n o)) (store_from l 0 (first_values cy w n o))
    first_values_meet l type.Thread n None h = both_nothing g v R k
    first_values_meet l type.Int n None h = store_taken_meets l 0 n
    first_values_meet l type.Uint n None h = store_taken_meets l 0 n
    first_values_meet l type.Void n None h = store_taken_meets l 0 n
    first_values_meet l type.VoidPointer n None h = store_taken_meets l 0 n
    first_values_meet l type.Mutex n None h = store_taken_meets l 0 n
    first_values_meet l type.Cond n None h = store_taken_meets l 0 n
    first_values_meet l w n (Some (One e)) h = store_one_meets l e h
    first_values_meet l w n (Some (Braces es)) h = store_all_meets l 0 es h

    declare_one_meets : (w : TypeWord) (d : Declarator) → Known v (in_start d.initialiser) → Stores (declare_one cx w d) (declare_one cy w d)
    declare_one_meets w d h =
        k.of_then _ ℕ (Unit {0}) anything anything (look (λ s. length s.locals)) (look (λ s. length s.locals)) _ _ (both_look g v R k _ ℕ anything (λ ls. length ls) (λ ls _. tt)) (λ l.
        both_then g v R k _ anything anything (enter w d.name (cell_count d)) (enter w d.name (cell_count d)) (store_from l 0 (first_values cx w (cell_count d) d.initialiser)) (store_from l 0 (first_values cy w (cell_count d) d.initialiser))
        (k.of_locals _ (λ ls. ls ++ record { name = d.name; unsigned = word_unsigned w; cells = replicate (cell_count d) 0 } ∷ []) (λ _ ls p. c.enters d.name (word_unsigned w) (cell_count d) ls p))
        (still g v R k (first_values_meet l w (cell_count d) d.initialiser h)))

    pub declare_meets : (w : TypeWord) (ds : List Declarator) → Known v (in_declarators ds) → Stores (declare_all cx w ds) (declare_all cy w ds)
    declare_meets w [] h = both_nothing g v R k
    declare_meets w (d ∷ ds) h =
        both_then g v R k _ anything anything (declare_one cx w d) (declare_one cy w d) (declare_all cx w ds) (declare_all cy w ds)
        (declare_one_meets w d (known_left v (in_start d.initialiser) (in_declarators ds) h)) (declare_meets w ds (known_right v (in_start d.initialiser) (in_declarators ds) h))

    pub begin_for_meets : (t : Start) → Known v (in_for t) → Stores (begin_for cx t) (begin_for cy t)
    begin_for_meets start.Nothing h = both_nothing g v R k
    begin_for_meets (start.Expr e) h = both_then g v R k _ v.word anything (eval cx e) (eval cy e) nothing nothing (eval_meets e h) (both_nothing g v R k)
    begin_for_meets (start.Declare d) h = declare_meets d.word d.declarators h

    scoped_meets : (m n : Step Flow) → FlowMeets m n → FlowMeets (scoped m) (scoped n)
    scoped_meets m n p =
        k.of_then _ ℕ Flow anything (Leaves v) (look (λ s. length s.locals)) (look (λ s. length s.locals)) _ _ (both_look g v R k _ ℕ anything (λ ls. length ls) (λ ls _. tt)) (λ l.
        k.of_then _ Flow Flow (Leaves v) (Leaves v) m n _ _ (still g v R k p) (λ f.
        both_then g v R k _ anything (Leaves v) (change (λ s. record s { locals = take l s.locals })) (change (λ s. record s { locals = take l s.locals })) (pure f) (pure f)
        (k.of_locals _ (λ ls. take l ls) (λ _ ls q. c.takes l ls q)) (k.of_pure _ Flow (Leaves v) f (λ z. z.last))))

    -- ---- statements

    turns_meet : (p : Place) (t e : Option Expr) (m n : Step Flow) → Known v (in_option t) → Known v (in_option e) → FlowMeets m n → FlowMeets (turns cx p t e m) (turns cy p t e n)
    turns_meet p t e m n h i q =
        loop_meets p (eval_if cx 1 t) (eval_if cy 1 t) (eval_if_meets 1 c.one_word t h) (scoped m) (scoped n) (scoped_meets m n q)
        (eval_if cx 0 e >> nothing) (eval_if cy 0 e >> nothing)
        (both_then g v R k _ v.word anything (eval_if cx 0 e) (eval_if cy 0 e) nothing nothing (eval_if_meets 0 c.zero_word e i) (both_nothing g v R k))
        g.other_turns g.turns k.of_turns

    abbrev StmtMeets : Stmt → Type 0
    StmtMeets s = Known v (in_stmt s) → FlowMeets (execute cx s) (execute cy s)

    abbrev Piece : Type 0
    Piece = (s : Stmt) × StmtMeets s

    abbrev stmts : List Piece → List Stmt
    stmts ys = map (λ e. e.0) ys

    sequence_meets : (ys : List Piece) → Known v (in_all (map in_stmt (stmts ys))) → FlowMeets (execute_all cx (stmts ys)) (execute_all cy (stmts ys))
    sequence_meets [] h = next_meets _
    sequence_meets (y ∷ ys) h =
        k.of_then _ Flow Flow (Leaves v) (Leaves v) (execute cx y.0) (execute cy y.0) (λ f. then_next f (execute_all cx (stmts ys))) (λ f. then_next f (execute_all cy (stmts ys)))
        (y.1 (known_left v (in_stmt y.0) (in_all (map in_stmt (stmts ys))) h))
        (λ f. then_next_meets _ f (λ z. z.last) (execute_all cx (stmts ys)) (execute_all cy (stmts ys)) (still g v R k (sequence_meets ys (known_right v (in_stmt y.0) (in_all (map in_stmt (stmts ys))) h))))

    abbrev Form : Stmt-F Piece → Type 0
    Form y =
        Known v (stmt_leaves (map-Stmt Stmt (List Leaf) in_stmt (map-Stmt Piece Stmt (λ e. e.0) y)))
        → FlowMeets (stmt_step cx (map-Stmt Stmt (Step Flow) (execute cx) (map-Stmt Piece Stmt (λ e. e.0) y))) (stmt_step cy (map-Stmt Stmt (Step Flow) (execute cy) (map-Stmt Piece Stmt (λ e. e.0) y)))

    if_meets : (t : Expr) (m n f h : Step Flow) → Known v (leaves t) → FlowMeets m f → FlowMeets n h → FlowMeets (eval cx t >>= (λ x. cond (is_true x) m n)) (eval cy t >>= (λ x. cond (is_true x) f h))
    if_meets t m n f h p q r =
        k.of_then _ ℕ Flow v.word (Leaves v) (eval cx t) (eval cy t) (λ x. cond (is_true x) m n) (λ x. cond (is_true x) f h) (eval_meets t p) (λ x. both_cond g v R k _ Flow (Leaves v) (is_true x) m n f h (still g v R k q) (still g v R k r))

    form : (y : Stmt-F Piece) → Form y
    form (Stmt-F.Empty p) h = next_meets _
    form (Stmt-F.Expr p e) h = both_then g v R k _ v.word (Leaves v) (eval cx e) (eval cy e) (pure Next) (pure Next) (eval_meets e h) (next_meets _)
    form (Stmt-F.Declare d) h = both_then g v R k _ anything (Leaves v) (declare_all cx d.word d.declarators) (declare_all cy d.word d.declarators) (pure Next) (pure Next) (declare_meets d.word d.declarators h) (next_meets _)
    form (Stmt-F.Block p ys) h = scoped_meets (execute_all cx (stmts ys)) (execute_all cy (stmts ys)) (sequence_meets ys h)
    form (Stmt-F.Label p n y) h = scoped_meets (execute cx y.0) (execute cy y.0) (y.1 h)
    form (Stmt-F.If p t y None) h =
        if_meets t (scoped (execute cx y.0)) (pure Next) (scoped (execute cy y.0)) (pure Next) (known_left v (leaves t) (in_stmt y.0 ++ []) h)
        (scoped_meets (execute cx y.0) (execute cy y.0) (y.1 (known_left v (in_stmt y.0) [] (known_right v (leaves t) (in_stmt y.0 ++ []) h)))) (next_meets _)
    form (Stmt-F.If p t y (Some z)) h =
        let both = known_right v (leaves t) (in_stmt y.0 ++ in_stmt z.0) h in
        if_meets t (scoped (execute cx y.0)) (scoped (execute cx z.0)) (scoped (execute cy y.0)) (scoped (execute cy z.0)) (known_left v (leaves t) (in_stmt y.0 ++ in_stmt z.0) h)
        (scoped_meets (execute cx y.0) (execute cy y.0) (y.1 (known_left v (in_stmt y.0) (in_stmt z.0) both)))
        (scoped_meets (execute cx z.0) (execute cy z.0) (z.1 (known_right v (in_stmt y.0) (in_stmt z.0) both)))
    form (Stmt-F.While p t y) h =
        turns_meet p (Some t) None (execute cx y.0) (execute cy y.0) (known_left v (leaves t) (in_stmt y.0) h) tt (y.1 (known_right v (leaves t) (in_stmt y.0) h))
    form (Stmt-F.DoWhile p y t) h =
        do_loop_meets p (eval cx t) (eval cy t) (eval_meets t (known_right v (in_stmt y.0) (leaves t) h)) (scoped (execute cx y.0)) (scoped (execute cy y.0))
        (scoped_meets (execute cx y.0) (execute cy y.0) (y.1 (known_left v (in_stmt y.0) (leaves t) h))) g.other_turns g.turns k.of_turns
    form (Stmt-F.For p first t e y) h =
        let behind = known_right v (in_for first) (in_option t ++ (in_option e ++ in_stmt y.0)) h in
        let rest = known_right v (in_option t) (in_option e ++ in_stmt y.0) behind in
        scoped_meets (begin_for cx first >> turns cx p t e (execute cx y.0)) (begin_for cy first >> turns cy p t e (execute cy y.0))
        (both_then g v R k _ anything (Leaves v) (begin_for cx first) (begin_for cy first) (turns cx p t e (execute cx y.0)) (turns cy p t e (execute cy y.0))
        (begin_for_meets first (known_left v (in_for first) (in_option t ++ (in_option e ++ in_stmt y.0)) h))
        (turns_meet p t e (execute cx y.0) (execute cy y.0) (known_left v (in_option t) (in_option e ++ in_stmt y.0) behind) (known_left v (in_option e) (in_stmt y.0) rest) (y.1 (known_right v (in_option e) (in_stmt y.0) rest))))
    form (Stmt-F.Return p e) h =
        k.of_then _ ℕ Flow v.word (Leaves v) (eval_if cx 0 e) (eval_if cy 0 e) (λ x. pure (Returned x)) (λ x. pure (Returned x)) (eval_if_meets 0 c.zero_word e h) (λ x. k.of_pure _ Flow (Leaves v) (Returned x) (λ z. z.last))
    form (Stmt-F.Break p) h = k.of_pure _ Flow (Leaves v) Broke (λ _. tt)
    form (Stmt-F.Continue p) h = k.of_pure _ Flow (Leaves v) Continued (λ _. tt)

    rolled : (y : Stmt-F Piece) → StmtMeets (roll-Stmt (map-Stmt Piece Stmt (λ e. e.0) y))
    rolled y h =
        let z : Stmt-F Stmt = map-Stmt Piece Stmt (λ e. e.0) y in
        let it : FlowMeets (stmt_step cx (map-Stmt Stmt (Step Flow) (execute cx) z)) (stmt_step cy (map-Stmt Stmt (Step Flow) (execute cy) z)) = form y (subst (Known v) (fold-roll-Stmt (List Leaf) stmt_leaves z) h) in
        subst (λ (m : Step Flow). FlowMeets m (execute cy (roll-Stmt z))) (sym (fold-roll-Stmt (Step Flow) (stmt_step cx) z))
        (subst (λ (n : Step Flow). FlowMeets (stmt_step cx (map-Stmt Stmt (Step Flow) (execute cx) z)) n) (sym (fold-roll-Stmt (Step Flow) (stmt_step cy) z)) it)

    execute_meets : (s : Stmt) → StmtMeets s
    execute_meets = ind-Stmt StmtMeets (λ x y is. subst (λ (z : Stmt-F Stmt). StmtMeets (roll-Stmt z)) is (rolled y))

    body_meets : (ss : List Stmt) → Known v (in_all (map in_stmt ss)) → FlowMeets (execute_all cx ss) (execute_all cy ss)
    body_meets [] h = next_meets _
    body_meets (s ∷ ss) h =
        k.of_then _ Flow Flow (Leaves v) (Leaves v) (execute cx s) (execute cy s) (λ f. then_next f (execute_all cx ss)) (λ f. then_next f (execute_all cy ss))
        (execute_meets s (known_left v (in_stmt s) (in_all (map in_stmt ss)) h))
        (λ f. then_next_meets _ f (λ z. z.last) (execute_all cx ss) (execute_all cy ss) (still g v R k (body_meets ss (known_right v (in_stmt s) (in_all (map in_stmt ss)) h))))

    result_word : (f : Flow) → Leaves v f → v.word (result_of f)
    result_word Next h = c.zero_word
    result_word Broke h = c.zero_word
    result_word Continued h = c.zero_word
    result_word (Returned x) h = h

    -- a function's body is related, on such arguments
    pub run_body_meets : (f : Function) → Known v (in_body f) → (args : List ℕ) → R (Words v args) ℕ v.word (run_body cx f args) (run_body cy f args)
    run_body_meets f h args =
        k.of_then _ (List Local) ℕ v.locals v.word (look (λ s. s.locals)) (look (λ s. s.locals)) _ _ (both_look g v R k _ (List Local) v.locals (λ ls. ls) (λ ls p. p)) (λ outer.
        both_then g v R k _ anything v.word (change (λ s. record s { locals = parameters [] 0 f.params args })) (change (λ s. record s { locals = parameters [] 0 f.params args })) _ _ (k.of_locals _ (λ ls. parameters [] 0 f.params args) (λ z ls _. c.begins f.params args z.others))
        (k.of_then _ Flow ℕ (Leaves v) v.word (execute_all cx f.body) (execute_all cy f.body) _ _ (still g v R k (body_meets f.body h)) (λ flow.
        both_then g v R k _ anything v.word (change (λ s. record s { locals = outer })) (change (λ s. record s { locals = outer })) (pure (result_of flow)) (pure (result_of flow)) (k.of_locals _ (λ ls. outer) (λ z ls _. z.others.last)) (k.of_pure _ ℕ v.word (result_of flow) (λ z. result_word flow z.last)))))

    call_body_meets : (f : Function) → Known v (in_body f) → (args : List ℕ) → R (Words v args) ℕ v.word (call_body cx f args) (call_body cy f args)
    call_body_meets f h args =
        both_cond g v R k _ ℕ v.word (is_atomic f) (in_section (run_body cx f args)) (run_body cx f args) (in_section (run_body cy f args)) (run_body cy f args)
        (k.of_section _ (run_body cx f args) (run_body cy f args) (run_body_meets f h args))
        (run_body_meets f h args)

  -- ---- calls

  module _ (known : Known v (in_functions g.functions)) where
    function_known : (fs : List Function) (i : ℕ) (f : Function) → slice_get fs i ≡ Some f → Known v (in_functions fs) → Known v (in_body f)
    function_known [] zero f e h = absurd (let no : ◌≡◌ {A = Option Function} None (Some f) = e in cc)
    function_known [] (suc i) f e h = absurd (let no : ◌≡◌ {A = Option Function} None (Some f) = e in cc)
    function_known (d ∷ fs) zero f e h = let same : d ≡ f = cc in subst (λ (x : Function). Known v (in_body x)) same (known_left v (in_body d) (in_functions fs) h)
    function_known (d ∷ fs) (suc i) f e h = function_known fs i f e (known_right v (in_body d) (in_functions fs) h)

    with_meets : (n : ℕ) (o : Option Function) → ((f : Function) → o ≡ Some f → Known v (in_body f)) → (args : List ℕ)
        → ((f : ℕ) (xs : List ℕ) → R (Words v xs) ℕ v.word (call_within n (one g) f xs) (call_within n (two g) f xs))
        → R (Words v args) ℕ v.word (with_function o (λ h. call_body (context_within n (one g)) h args)) (with_function o (λ h. call_body (context_within n (two g)) h args))
    with_meets n None h args rest = still g v R k (k.of_stop ℕ v.word)
    with_meets n (Some f) h args rest = call_body_meets (call_within n (one g)) (call_within n (two g)) rest f (h f refl) args

    calls_meet : (n f : ℕ) (args : List ℕ) → R (Words v args) ℕ v.word (call_within n (one g) f args) (call_within n (two g) f args)
    calls_meet zero f args = still g v R k (k.of_stop ℕ v.word)
    calls_meet (suc n) f args = with_meets n (slice_get g.functions f) (λ h e. function_known g.functions f h e known) args (calls_meet n)

    -- the body of a thread is related
    pub thread_body_carried : (n i : ℕ) (f : Function) → slice_get g.functions i ≡ Some f → (arg : ℕ) → v.word arg → Always ℕ v.word (run_body (context_within n (one g)) f (arg ∷ [])) (run_body (context_within n (two g)) f (arg ∷ []))
    thread_body_carried n i f e arg w =
        k.of_more (Words v (arg ∷ [])) (Unit {0}) ℕ v.word _ _ (λ _. (w, tt)) (run_body_meets (call_within n (one g)) (call_within n (two g)) (calls_meet n) f (function_known g.functions i f e known) (arg ∷ []))

-- the same, where a relation needs all that is known
pub thread_body_meets : (g : Two) (v : Values) (c : Closed v) (R : Relation) (k : Relates g v R) → Known v (in_functions g.functions) → (n i : ℕ) (f : Function) → slice_get g.functions i ≡ Some f
    → (arg : ℕ) → v.word arg → R ℕ v.word (run_body (context_within n (one g)) f (arg ∷ [])) (run_body (context_within n (two g)) f (arg ∷ []))
thread_body_meets g v c R k known n i f e arg w = thread_body_carried g v c (premised R) (carries g v R k) known n i f e arg w tt
