-- Statements, calls of functions and bodies end at the depth at which they began, by the rule on sections.
use Rattle.std.proofs.Common.{◌≡◌, ℕ, zero, suc, List, [], ◌∷◌, Option, Some, None, Bool, true, false, ◌&&◌, ◌||◌, cond, map, length, take, refl, sym, ap, ◌∙◌, subst, inl}
use Rattle.std.specs.Prelude.{slice_get}
use Rattle.std.specs.Str.{bytes_eq}
use Rattle.std.proofs.lemmas.Bool.{false≢true, and_parts}
use Rattle.std.proofs.lemmas.Slice.Eq.{bytes_eq-Decides}
use Rattle.dg_base.specs.declared.Place.{Place}
use Rattle.dg_base.specs.Values.{is_true}
use Rattle.axiom_model.specs.declared.Action.TheVariants as action
use Rattle.c_tree.specs.declared.expr.Expr.{Expr, fold-roll-Expr, map-Expr, out-Expr, roll-out-Expr}
use Rattle.c_tree.specs.declared.expr.Expr.TheOpen.{Expr-F}
use Rattle.c_tree.specs.declared.stmt.Start.{Start}
use Rattle.c_tree.specs.declared.stmt.Stmt.{Stmt, fold-roll-Stmt, ind-Stmt, map-Stmt}
use Rattle.c_tree.specs.declared.stmt.Stmt.TheOpen.{Stmt-F}
use Rattle.c_tree.specs.declared.stmt.Stmt.TheViews.{roll-Stmt}
use Rattle.c_tree.specs.declared.expr.TypeWord.{TypeWord}
use Rattle.c_tree.specs.declared.stmt.Declarator.{Declarator}
use Rattle.c_tree.specs.declared.program.Function.{Function}
use Rattle.c_rules.specs.declared.builtin.Builtin.{Builtin}
use Rattle.c_rules.specs.declared.builtin.Builtin.TheVariants as b
use Rattle.c_rules.specs.Names.{Name, or_else, builtin_named}
use Rattle.c_rules.specs.Scopes.{First, unless}
use Rattle.c_check.specs.declared.sections.Inside.{Inside}
use Rattle.c_check.specs.declared.sections.Inside.TheVariants.{Outside, InSection, InItsLoop}
use Rattle.c_check.specs.declared.sections.Mark.{Mark}
use Rattle.c_check.specs.declared.sections.Mark.TheVariants.{Begins, Ends, Neither}
use Rattle.c_check.specs.Sections.{is_outside, may_jump, in_a_loop, begin_name, end_name, mark_in, mark_of, first_mark, mark_in_option, mark_in_declarators, mark_in_for, Sectioned, unmarked, is_marked, some_marked, behind_mark, broken_there, in_block, section_step, sectioned, unmatched_in_function, unmatched_in}
use Rattle.c_check.specs.declared.checked.Checked.{Checked}
use Rattle.run_model.specs.declared.state.Flow.{Flow}
use Rattle.run_model.specs.declared.state.Flow.TheVariants.{Next, Broke, Continued, Returned}
use Rattle.run_model.specs.declared.state.Local.{Local}
use Rattle.run_model.specs.declared.state.Need.TheVariants.{Any}
use Rattle.run_model.specs.declared.state.Slot.TheVariants.{Own}
use Rattle.run_model.specs.Steps.{Step, ◌>>=◌, ◌>>◌, pure, nothing, look, change, begin_section, end_section}
use Rattle.run_model.specs.Calls.{Meaning, Context, function_named, function_in, spend}
use Rattle.run_model.specs.Meaning.{call, call_builtin, expr_step, meaning, eval}
use Rattle.run_model.specs.Statements.{then_next, scoped, after_body, loop, do_loop, declare_all, eval_if, begin_for, turns, stmt_step, execute, execute_all}
use Rattle.run_model.specs.Threads.{parameters, result_of, run_body, is_atomic, in_section, call_body, with_function, call_within, context_within}
use Rattle.run_laws.proofs.Joint.{Two, one, anything, Leaves, Relation, premised, Carries}
use Rattle.run_laws.proofs.JointBodies.{eval_meets, eval_if_meets, declare_meets, begin_for_meets}
use Rattle.run_laws.proofs.Told.{twice}
use Rattle.run_laws.proofs.Expressions.{both_none, holds_at}
use Rattle.run_laws.proofs.Unmarked.{unmarked_values, unmarked_closed, quiet, option_quiet, declarators_quiet, for_quiet, no_begin, no_finish}
use Rattle.run_laws.proofs.Levels.{Spot, at, Leads, leads_then, leads_and, leads_pure, leads_nothing, leads_cond, leads_stop, leads_fail, leads_spend, leads_taking, leads_make, leads_locals, leads_look, leads_begin, leads_end, leads_section, leads_read, leads_write, leads_slot, leads_lock, leads_unlock, leads_exit, leads_bool, leads_join, leads_create}

-- at each depth the step ends where it began
abbrev Level : Relation
Level A Q m n = (d : ℕ) → Leads (at d) (at d) A Q m

any_level : (A : Type 0) (m n : Step A) → ((x : Spot) → Leads x x A anything m) → Level A anything m n
any_level A m n h d = h (at d)

level_carried : (p : Checked) (handle : ℕ) → Carries (twice p handle) unmarked_values (premised Level)
level_carried p handle = record {
  of_more = λ C D A Q m n less h d. h (less d);
  of_pure = λ C A Q a h c d. leads_pure (at d) A Q a (h c);
  of_then = λ C A B P Q m n f h one rest c d. leads_then (at d) (at d) (at d) A B P Q m f (one c d) (λ a q. rest a (record { others = c; last = q }) d);
  of_choice = λ C A T Q c f h rest k d s here. rest s.locals (record { others = k; last = tt }) d s here;
  of_locals = λ C f h c d. leads_locals (at d) f;
  of_fail = λ A Q w c d. leads_fail (at d) (at d) A Q w;
  of_stop = λ A Q c d. leads_stop (at d) (at d) A Q;
  of_any = λ c d. leads_taking (at d) Any;
  of_bool = λ c d. leads_bool (at d);
  of_slot = λ w n i c d. leads_slot (at d) (twice p handle).shared w n i;
  of_read = λ C c h k d. leads_read (at d) c;
  of_write = λ C c x h i k d. leads_write (at d) c x;
  of_own = λ C i j x h k d. leads_write (at d) (Own i j) x;
  of_lock = λ C c h k d. leads_lock c d;
  of_unlock = λ C c h k d. leads_unlock c d;
  of_begin = λ n h e. absurd (no_begin n h e);
  of_end = λ n h e. absurd (no_finish n h e);
  of_section = λ C m n h c d. leads_section d m (h c (suc d));
  of_exit = λ c d. leads_exit d;
  of_create = λ C c n x h i k d. leads_create (at d) (one (twice p handle)) c (function_in (one (twice p handle)) n) x;
  of_join = λ C h i k d. leads_join h d;
  of_fence = λ c d. leads_make (at d) action.Fence tt;
  of_spend = λ w c d. leads_spend (at d) (at d) Flow (Leaves unmarked_values) (one (twice p handle)) w;
  of_turns = inl refl;
}

-- ---- what may leave a statement

abbrev Allowed : Inside → Flow → Type 0
Allowed Outside f = Unit {0}
Allowed InSection Next = Unit {0}
Allowed InSection _ = ⊥
Allowed InItsLoop (Returned v) = ⊥
Allowed InItsLoop _ = Unit {0}

next_allowed : (i : Inside) → Allowed i Next
next_allowed Outside = tt
next_allowed InSection = tt
next_allowed InItsLoop = tt

-- a statement that stands there ends at the depth at which it began, and leaves as it may
abbrev Holds : Inside → Step Flow → Type 0
Holds i m = (d : ℕ) → Leads (at d) (at d) Flow (Allowed i) m

next_holds : (i : Inside) → Holds i (pure Next)
next_holds i d = leads_pure (at d) Flow (Allowed i) Next (next_allowed i)

scoped_holds : (i : Inside) (m : Step Flow) → Holds i m → Holds i (scoped m)
scoped_holds i m h d =
    leads_then (at d) (at d) (at d) ℕ Flow anything (Allowed i) (look (λ s. length s.locals)) (λ l. m >>= (λ f. change (λ s. record s { locals = take l s.locals }) >> pure f)) (leads_look (at d) ℕ (λ ls. length ls)) (λ l _.
    leads_then (at d) (at d) (at d) Flow Flow (Allowed i) (Allowed i) m (λ f. change (λ s. record s { locals = take l s.locals }) >> pure f) (h d) (λ f ok.
    leads_and (at d) (at d) (at d) anything (Allowed i) (change (λ s. record s { locals = take l s.locals })) (pure f) (leads_locals (at d) (λ ls. take l ls)) (leads_pure (at d) Flow (Allowed i) f ok)))

then_next_leads : (i : Inside) (f : Flow) → Allowed i f → (m : Step Flow) (d : ℕ) → Leads (at d) (at d) Flow (Allowed i) m → Leads (at d) (at d) Flow (Allowed i) (then_next f m)
then_next_leads i Next ok m d p = p
then_next_leads i Broke ok m d p = leads_pure (at d) Flow (Allowed i) Broke ok
then_next_leads i Continued ok m d p = leads_pure (at d) Flow (Allowed i) Continued ok
then_next_leads i (Returned v) ok m d p = leads_pure (at d) Flow (Allowed i) (Returned v) ok

-- ---- loops

returned_allowed : (i : Inside) (v : ℕ) → Allowed (in_a_loop i) (Returned v) → Allowed i (Returned v)
returned_allowed Outside v ok = tt
returned_allowed InSection v ok = absurd ok
returned_allowed InItsLoop v ok = absurd ok

after_body_leads : (i : Inside) (f : Flow) → Allowed (in_a_loop i) f → (m : Step Flow) (d : ℕ) → Leads (at d) (at d) Flow (Allowed i) m → Leads (at d) (at d) Flow (Allowed i) (after_body f m)
after_body_leads i Next ok m d p = p
after_body_leads i Broke ok m d p = next_holds i d
after_body_leads i Continued ok m d p = p
after_body_leads i (Returned v) ok m d p = leads_pure (at d) Flow (Allowed i) (Returned v) (returned_allowed i v ok)

module _ (i : Inside) (z : Step Flow) (t : Step ℕ) (m : Step Flow) (spent : Holds i z) (test : Level ℕ anything t t) (body : Holds (in_a_loop i) m) where
  tested : (n : Step Flow) → Holds i n → Holds i (t >>= (λ v. cond (is_true v) n (pure Next)))
  tested n h d =
      leads_then (at d) (at d) (at d) ℕ Flow anything (Allowed i) t (λ v. cond (is_true v) n (pure Next)) (test d)
      (λ v _. leads_cond (at d) (at d) Flow (Allowed i) (is_true v) n (pure Next) (h d) (next_holds i d))

  turned : (n : Step Flow) → Holds i n → Holds i (m >>= (λ f. after_body f n))
  turned n h d = leads_then (at d) (at d) (at d) Flow Flow (Allowed (in_a_loop i)) (Allowed i) m (λ f. after_body f n) (body d) (λ f ok. after_body_leads i f ok n d (h d))

  do_loop_holds : (n : ℕ) → Holds i (do_loop z n t m)
  do_loop_holds zero = spent
  do_loop_holds (suc n) = turned _ (tested (do_loop z n t m) (do_loop_holds n))

  loop_holds : (e : Step (Unit {0})) → Level (Unit {0}) anything e e → (n : ℕ) → Holds i (loop z n t m e)
  loop_holds e step zero = tested z spent
  loop_holds e step (suc n) = tested _ (turned _ (λ d. leads_and (at d) (at d) (at d) anything (Allowed i) e (loop z n t m e) (step d) (loop_holds e step n d)))

-- ---- marks of statements

marked_begin : (p q : Place) (n : Name) (t : Bool) → bytes_eq begin_name n ≡ t → cond t (Begins p) (cond (bytes_eq end_name n) (Ends p) Neither) ≡ Begins q → begin_name ≡ n
marked_begin p q n true e h = (bytes_eq-Decides begin_name n).0 e
marked_begin p q n false e h = by (bytes_eq end_name n) h
  where
    by : (u : Bool) → cond u (Ends p) Neither ≡ Begins q → begin_name ≡ n
    by true h = absurd (let no : Ends p ≡ Begins q = h in cc)
    by false h = absurd (let no : Neither ≡ Begins q = h in cc)

marked_end : (p q : Place) (n : Name) (t : Bool) → cond t (Begins p) (cond (bytes_eq end_name n) (Ends p) Neither) ≡ Ends q → end_name ≡ n
marked_end p q n true h = absurd (let no : Begins p ≡ Ends q = h in cc)
marked_end p q n false h = by (bytes_eq end_name n) refl h
  where
    by : (u : Bool) → bytes_eq end_name n ≡ u → cond u (Ends p) Neither ≡ Ends q → end_name ≡ n
    by true e h = (bytes_eq-Decides end_name n).0 e
    by false e h = absurd (let no : Neither ≡ Ends q = h in cc)

module _ (p : Checked) (handle : ℕ) (no_begins : function_named (one (twice p handle)) begin_name ≡ None) (no_ends : function_named (one (twice p handle)) end_name ≡ None) where
  abbrev g : Two
  g = twice p handle

  module _ (called : ℕ → List ℕ → Step ℕ) (calls : (f : ℕ) (args : List ℕ) → Level ℕ anything (called f args) (called f args)) where
    abbrev cx : Context
    cx = record { setting = one g; call = called }

    -- ---- what has no mark

    eval_level : (e : Expr) → first_mark e ≡ None → Level ℕ anything (eval cx e) (eval cx e)
    eval_level e h = eval_meets g unmarked_values unmarked_closed (premised Level) (level_carried p handle) called called (λ f args _. calls f args) e (quiet e h) tt

    eval_if_level : (x : ℕ) (o : Option Expr) → mark_in_option o ≡ None → Level ℕ anything (eval_if cx x o) (eval_if cx x o)
    eval_if_level x o h = eval_if_meets g unmarked_values unmarked_closed (premised Level) (level_carried p handle) called called (λ f args _. calls f args) x tt o (option_quiet o h) tt

    declare_level : (w : TypeWord) (ds : List Declarator) → mark_in_declarators ds ≡ None → Level (Unit {0}) anything (declare_all cx w ds) (declare_all cx w ds)
    declare_level w ds h = declare_meets g unmarked_values unmarked_closed (premised Level) (level_carried p handle) called called (λ f args _. calls f args) w ds (declarators_quiet ds h) tt

    begin_for_level : (t : Start) → mark_in_for t ≡ None → Level (Unit {0}) anything (begin_for cx t) (begin_for cx t)
    begin_for_level t h = begin_for_meets g unmarked_values unmarked_closed (premised Level) (level_carried p handle) called called (λ f args _. calls f args) t (for_quiet t h) tt

    -- ---- marks

    abbrev IsNext : Flow → Type 0
    IsNext f = f ≡ Next

    begin_call : (q : Place) (args : List Meaning) (d : ℕ) → Leads (at d) (at (suc d)) ℕ anything (call cx q begin_name args (function_named (one g) begin_name))
    begin_call q args d =
        let built : builtin_named begin_name ≡ Some b.Begin = refl in
        subst (λ (o : Option ℕ). Leads (at d) (at (suc d)) ℕ anything (call cx q begin_name args o)) (sym no_begins)
        (subst (λ (o : Option Builtin). Leads (at d) (at (suc d)) ℕ anything (call_builtin (one g) q begin_name o args)) (sym built)
        (leads_and (at d) (at (suc d)) (at (suc d)) anything anything begin_section (pure 0) (leads_begin d) (leads_pure (at (suc d)) ℕ anything 0 tt)))

    end_call : (q : Place) (args : List Meaning) (d : ℕ) → Leads (at (suc d)) (at d) ℕ anything (call cx q end_name args (function_named (one g) end_name))
    end_call q args d =
        let built : builtin_named end_name ≡ Some b.Finish = refl in
        subst (λ (o : Option ℕ). Leads (at (suc d)) (at d) ℕ anything (call cx q end_name args o)) (sym no_ends)
        (subst (λ (o : Option Builtin). Leads (at (suc d)) (at d) ℕ anything (call_builtin (one g) q end_name o args)) (sym built)
        (leads_and (at (suc d)) (at d) (at d) anything anything end_section (pure 0) (leads_end d) (leads_pure (at d) ℕ anything 0 tt)))

    begin_form : (x : Expr-F Expr) (q : Place) → mark_in x ≡ Begins q → (d : ℕ) → Leads (at d) (at (suc d)) ℕ anything (expr_step cx (map-Expr Expr Meaning (meaning cx) x)).run
    begin_form (Expr-F.Call w n es) q e d =
        subst (λ (m : Name). Leads (at d) (at (suc d)) ℕ anything (call cx w m (map (meaning cx) es) (function_named (one g) m))) (marked_begin w q n (bytes_eq begin_name n) refl e) (begin_call w (map (meaning cx) es) d)
    begin_form _ q e d = absurd (let no : Neither ≡ Begins q = e in cc)

    end_form : (x : Expr-F Expr) (q : Place) → mark_in x ≡ Ends q → (d : ℕ) → Leads (at (suc d)) (at d) ℕ anything (expr_step cx (map-Expr Expr Meaning (meaning cx) x)).run
    end_form (Expr-F.Call w n es) q e d =
        subst (λ (m : Name). Leads (at (suc d)) (at d) ℕ anything (call cx w m (map (meaning cx) es) (function_named (one g) m))) (marked_end w q n (bytes_eq begin_name n) e) (end_call w (map (meaning cx) es) d)
    end_form _ q e d = absurd (let no : Neither ≡ Ends q = e in cc)

    -- the meaning of an expression by its outermost form
    outermost : (x : Expr) → eval cx x ≡ (expr_step cx (map-Expr Expr Meaning (meaning cx) (out-Expr x))).run
    outermost x =
        ap (λ (z : Expr). eval cx z) (sym (roll-out-Expr x)) ∙ ap (λ (m : Meaning). m.run) (fold-roll-Expr Meaning (expr_step cx) (out-Expr x))

    begins_section : (x : Expr) (q : Place) → mark_of x ≡ Begins q → (d : ℕ) → Leads (at d) (at (suc d)) Flow IsNext (eval cx x >> pure Next)
    begins_section x q e d =
        leads_and (at d) (at (suc d)) (at (suc d)) anything IsNext (eval cx x) (pure Next)
        (subst (λ (m : Step ℕ). Leads (at d) (at (suc d)) ℕ anything m) (sym (outermost x)) (begin_form (out-Expr x) q e d)) (leads_pure (at (suc d)) Flow IsNext Next refl)

    ends_section : (x : Expr) (q : Place) → mark_of x ≡ Ends q → (d : ℕ) → Leads (at (suc d)) (at d) Flow IsNext (eval cx x >> pure Next)
    ends_section x q e d =
        leads_and (at (suc d)) (at d) (at d) anything IsNext (eval cx x) (pure Next)
        (subst (λ (m : Step ℕ). Leads (at (suc d)) (at d) ℕ anything m) (sym (outermost x)) (end_form (out-Expr x) q e d)) (leads_pure (at d) Flow IsNext Next refl)

    -- ---- statements

    -- where nothing is broken the statement ends at its depth; a begin goes one deeper, and an end comes back
    record Sections (x : Sectioned) (m : Step Flow) : Type 0 where
      pub plain : (i : Inside) → x.found i ≡ None → Holds i m
      pub begins : (q : Place) → x.mark ≡ Begins q → (d : ℕ) → Leads (at d) (at (suc d)) Flow IsNext m
      pub ends : (q : Place) → x.mark ≡ Ends q → (d : ℕ) → Leads (at (suc d)) (at d) Flow IsNext m

    abbrev HasSections : Stmt → Type 0
    HasSections t = Sections (sectioned t) (execute cx t)

    abbrev Piece : Type 0
    Piece = (t : Stmt) × HasSections t

    abbrev stmts : List Piece → List Stmt
    stmts ys = map (λ e. e.0) ys

    abbrev marks : List Piece → List Sectioned
    marks ys = map sectioned (stmts ys)

    -- the depth of the statements of a block in which a section is open or not
    abbrev inside : Bool → ℕ → ℕ
    inside false d = d
    inside true d = suc d

    module _ (i : Inside) where
      -- the rest of a block ends at the block's depth; an open section has its end there
      abbrev Rest : List Piece → Type 0
      Rest ys = (opened : Bool) → (opened ≡ true → some_marked (marks ys) ≡ true) → in_block opened i (marks ys) ≡ None → (d : ℕ) → Leads (at (inside opened d)) (at d) Flow (Allowed i) (execute_all cx (stmts ys))

      -- behind a statement in an open section there is a way on alone
      open_next : (f : Flow) → Allowed InSection f → (m : Step Flow) (x y : Spot) → Leads x y Flow (Allowed i) m → Leads x y Flow (Allowed i) (then_next f m)
      open_next Next ok m x y p = p
      open_next Broke ok m x y p = absurd ok
      open_next Continued ok m x y p = absurd ok
      open_next (Returned v) ok m x y p = absurd ok

      marked_next : (f : Flow) → IsNext f → (m : Step Flow) (x y : Spot) → Leads x y Flow (Allowed i) m → Leads x y Flow (Allowed i) (then_next f m)
      marked_next f e m x y p = subst (λ (h : Flow). Leads x y Flow (Allowed i) (then_next h m)) (sym e) p

      one_more : (y : Piece) (ys : List Piece) → Rest ys → (opened : Bool) (k : Mark) → (sectioned y.0).mark ≡ k → (opened ≡ true → (is_marked k || some_marked (marks ys)) ≡ true)
          → broken_there opened i (some_marked (marks ys)) (sectioned y.0).found k ≡ None → in_block (behind_mark opened k) i (marks ys) ≡ None → (d : ℕ)
          → Leads (at (inside opened d)) (at d) Flow (Allowed i) (execute cx y.0 >>= (λ f. then_next f (execute_all cx (stmts ys))))
      one_more y ys rest false (Begins q) is later here behind d =
          let ok = and_parts (is_outside i) (some_marked (marks ys)) (holds_at (is_outside i && some_marked (marks ys)) q here) in
          leads_then (at d) (at (suc d)) (at d) Flow Flow IsNext (Allowed i) (execute cx y.0) (λ f. then_next f (execute_all cx (stmts ys))) (y.1.begins q is d)
          (λ f next. marked_next f next (execute_all cx (stmts ys)) (at (suc d)) (at d) (rest true (λ _. ok.1) behind d))
      one_more y ys rest true (Begins q) is later here behind d =
          absurd (false≢true (and_parts (is_outside i) false (holds_at (is_outside i && false) q here)).1)
      one_more y ys rest false (Ends q) is later here behind d =
          absurd (false≢true (and_parts (is_outside i) false (holds_at (is_outside i && false) q here)).1)
      one_more y ys rest true (Ends q) is later here behind d =
          leads_then (at (suc d)) (at d) (at d) Flow Flow IsNext (Allowed i) (execute cx y.0) (λ f. then_next f (execute_all cx (stmts ys))) (y.1.ends q is d)
          (λ f next. marked_next f next (execute_all cx (stmts ys)) (at d) (at d) (rest false (λ no. absurd (false≢true no)) behind d))
      one_more y ys rest false Neither is later here behind d =
          leads_then (at d) (at d) (at d) Flow Flow (Allowed i) (Allowed i) (execute cx y.0) (λ f. then_next f (execute_all cx (stmts ys))) (y.1.plain i here d)
          (λ f ok. then_next_leads i f ok (execute_all cx (stmts ys)) d (rest false (λ no. absurd (false≢true no)) behind d))
      one_more y ys rest true Neither is later here behind d =
          leads_then (at (suc d)) (at (suc d)) (at d) Flow Flow (Allowed InSection) (Allowed i) (execute cx y.0) (λ f. then_next f (execute_all cx (stmts ys))) (y.1.plain InSection here (suc d))
          (λ f ok. open_next f ok (execute_all cx (stmts ys)) (at (suc d)) (at d) (rest true later behind d))

      sequence_leads : (ys : List Piece) → Rest ys
      sequence_leads [] false later e d = next_holds i d
      sequence_leads [] true later e d = absurd (false≢true (later refl))
      sequence_leads (y ∷ ys) opened later e d =
          let parts = both_none (broken_there opened i (some_marked (marks ys)) (sectioned y.0).found (sectioned y.0).mark) (in_block (behind_mark opened (sectioned y.0).mark) i (marks ys)) e in
          one_more y ys (sequence_leads ys) opened (sectioned y.0).mark refl later parts.0 parts.1 d

      block_holds : (ys : List Piece) → in_block false i (marks ys) ≡ None → Holds i (execute_all cx (stmts ys))
      block_holds ys e d = sequence_leads ys false (λ no. absurd (false≢true no)) e d

      spent_holds : (w : Place) → Holds i (spend (one g) w)
      spent_holds w d = leads_spend (at d) (at d) Flow (Allowed i) (one g) w

      if_holds : (t : Expr) (m n : Step Flow) → first_mark t ≡ None → Holds i m → Holds i n → Holds i (eval cx t >>= (λ v. cond (is_true v) m n))
      if_holds t m n e h k d =
          leads_then (at d) (at d) (at d) ℕ Flow anything (Allowed i) (eval cx t) (λ v. cond (is_true v) m n) (eval_level t e d) (λ v _. leads_cond (at d) (at d) Flow (Allowed i) (is_true v) m n (h d) (k d))

      turns_hold : (w : Place) (t e : Option Expr) (m : Step Flow) → mark_in_option t ≡ None → mark_in_option e ≡ None → Holds (in_a_loop i) m → Holds i (turns cx w t e m)
      turns_hold w t e m h k body =
          loop_holds i (spend (one g) w) (eval_if cx 1 t) (scoped m) (spent_holds w) (eval_if_level 1 t h) (scoped_holds (in_a_loop i) m body) (eval_if cx 0 e >> nothing)
          (λ d. leads_and (at d) (at d) (at d) anything anything (eval_if cx 0 e) nothing (eval_if_level 0 e k d) (leads_nothing (at d))) (one g).turns

      returned_holds : (w : Place) (o : Option Expr) → or_else (unless (is_outside i) w) (mark_in_option o) ≡ None → Allowed i (Returned 0) → Holds i (eval_if cx 0 o >>= (λ v. pure (Returned v)))
      returned_holds w o e ok d =
          leads_then (at d) (at d) (at d) ℕ Flow anything (Allowed i) (eval_if cx 0 o) (λ v. pure (Returned v)) (eval_if_level 0 o (both_none (unless (is_outside i) w) (mark_in_option o) e).1 d)
          (λ v _. leads_pure (at d) Flow (Allowed i) (Returned v) (any_value i v ok))
        where
          any_value : (i : Inside) (v : ℕ) → Allowed i (Returned 0) → Allowed i (Returned v)
          any_value Outside v ok = tt
          any_value InSection v ok = absurd ok
          any_value InItsLoop v ok = absurd ok

    may_return : (i : Inside) (w : Place) (o : Option Expr) → or_else (unless (is_outside i) w) (mark_in_option o) ≡ None → Allowed i (Returned 0)
    may_return Outside w o e = tt
    may_return InSection w o e = absurd (false≢true (holds_at false w (both_none (unless false w) (mark_in_option o) e).0))
    may_return InItsLoop w o e = absurd (false≢true (holds_at false w (both_none (unless false w) (mark_in_option o) e).0))

    may_break : (i : Inside) (w : Place) → unless (may_jump i) w ≡ None → Allowed i Broke × Allowed i Continued
    may_break Outside w e = (tt, tt)
    may_break InSection w e = absurd (false≢true (holds_at false w e))
    may_break InItsLoop w e = (tt, tt)

    unmarked_sections : (f : Inside → First) (m : Step Flow) → ((i : Inside) → f i ≡ None → Holds i m) → Sections (unmarked f) m
    unmarked_sections f m h = record {
      plain = h;
      begins = λ q e. absurd (let no : Neither ≡ Begins q = e in cc);
      ends = λ q e. absurd (let no : Neither ≡ Ends q = e in cc);
    }

    abbrev kids : Stmt-F Piece → Stmt-F Stmt
    kids y = map-Stmt Piece Stmt (λ e. e.0) y

    form : (y : Stmt-F Piece) → Sections (section_step (map-Stmt Stmt Sectioned sectioned (kids y))) (stmt_step cx (map-Stmt Stmt (Step Flow) (execute cx) (kids y)))
    form (Stmt-F.Empty w) = unmarked_sections _ _ (λ i e. next_holds i)
    form (Stmt-F.Expr w x) = record {
      plain = λ i e d. leads_and (at d) (at d) (at d) anything (Allowed i) (eval cx x) (pure Next) (eval_level x e d) (next_holds i d);
      begins = begins_section x;
      ends = ends_section x;
    }
    form (Stmt-F.Declare ds) =
        unmarked_sections _ _ (λ i e d. leads_and (at d) (at d) (at d) anything (Allowed i) (declare_all cx ds.word ds.declarators) (pure Next) (declare_level ds.word ds.declarators e d) (next_holds i d))
    form (Stmt-F.Block w ys) = unmarked_sections _ _ (λ i e. scoped_holds i (execute_all cx (stmts ys)) (block_holds i ys e))
    form (Stmt-F.Label w n y) = unmarked_sections _ _ (λ i e. scoped_holds i (execute cx y.0) (y.1.plain i e))
    form (Stmt-F.If w t y None) =
        unmarked_sections _ _ (λ i e.
        let parts = both_none (first_mark t) (or_else ((sectioned y.0).found i) None) e in
        if_holds i t (scoped (execute cx y.0)) (pure Next) parts.0 (scoped_holds i (execute cx y.0) (y.1.plain i (both_none ((sectioned y.0).found i) None parts.1).0)) (next_holds i))
    form (Stmt-F.If w t y (Some z)) =
        unmarked_sections _ _ (λ i e.
        let parts = both_none (first_mark t) (or_else ((sectioned y.0).found i) ((sectioned z.0).found i)) e in
        let both = both_none ((sectioned y.0).found i) ((sectioned z.0).found i) parts.1 in
        if_holds i t (scoped (execute cx y.0)) (scoped (execute cx z.0)) parts.0 (scoped_holds i (execute cx y.0) (y.1.plain i both.0)) (scoped_holds i (execute cx z.0) (z.1.plain i both.1)))
    form (Stmt-F.While w t y) =
        unmarked_sections _ _ (λ i e.
        let parts = both_none (first_mark t) ((sectioned y.0).found (in_a_loop i)) e in
        turns_hold i w (Some t) None (execute cx y.0) parts.0 refl (y.1.plain (in_a_loop i) parts.1))
    form (Stmt-F.DoWhile w y t) =
        unmarked_sections _ _ (λ i e.
        let parts = both_none ((sectioned y.0).found (in_a_loop i)) (first_mark t) e in
        do_loop_holds i (spend (one g) w) (eval cx t) (scoped (execute cx y.0)) (spent_holds i w) (eval_level t parts.1) (scoped_holds (in_a_loop i) (execute cx y.0) (y.1.plain (in_a_loop i) parts.0)) (one g).turns)
    form (Stmt-F.For w first t x y) =
        unmarked_sections _ _ (λ i e.
        let parts = both_none (mark_in_for first) (or_else (mark_in_option t) (or_else (mark_in_option x) ((sectioned y.0).found (in_a_loop i)))) e in
        let rest = both_none (mark_in_option t) (or_else (mark_in_option x) ((sectioned y.0).found (in_a_loop i))) parts.1 in
        let last = both_none (mark_in_option x) ((sectioned y.0).found (in_a_loop i)) rest.1 in
        scoped_holds i (begin_for cx first >> turns cx w t x (execute cx y.0)) (λ d.
        leads_and (at d) (at d) (at d) anything (Allowed i) (begin_for cx first) (turns cx w t x (execute cx y.0)) (begin_for_level first parts.0 d) (turns_hold i w t x (execute cx y.0) rest.0 last.0 (y.1.plain (in_a_loop i) last.1) d)))
    form (Stmt-F.Return w x) = unmarked_sections _ _ (λ i e. returned_holds i w x e (may_return i w x e))
    form (Stmt-F.Break w) = unmarked_sections _ _ (λ i e d. leads_pure (at d) Flow (Allowed i) Broke (may_break i w e).0)
    form (Stmt-F.Continue w) = unmarked_sections _ _ (λ i e d. leads_pure (at d) Flow (Allowed i) Continued (may_break i w e).1)

    rolled : (z : Stmt-F Stmt) → Sections (section_step (map-Stmt Stmt Sectioned sectioned z)) (stmt_step cx (map-Stmt Stmt (Step Flow) (execute cx) z)) → HasSections (roll-Stmt z)
    rolled z h =
        subst (λ (x : Sectioned). Sections x (execute cx (roll-Stmt z))) (sym (fold-roll-Stmt Sectioned section_step z))
        (subst (λ (m : Step Flow). Sections (section_step (map-Stmt Stmt Sectioned sectioned z)) m) (sym (fold-roll-Stmt (Step Flow) (stmt_step cx) z)) h)

    stmt_sections : (t : Stmt) → HasSections t
    stmt_sections = ind-Stmt HasSections (λ z y is. rolled z (subst (λ (z : Stmt-F Stmt). Sections (section_step (map-Stmt Stmt Sectioned sectioned z)) (stmt_step cx (map-Stmt Stmt (Step Flow) (execute cx) z))) is (form y)))

    -- the statements, each with its proof
    pieces : List Stmt → List Piece
    pieces [] = []
    pieces (t ∷ ts) = (t, stmt_sections t) ∷ pieces ts

    pieces_are : (ts : List Stmt) → stmts (pieces ts) ≡ ts
    unfolding pieces
    pieces_are [] = refl
    pieces_are (t ∷ ts) = ap (λ (l : List Stmt). t ∷ l) (pieces_are ts)

    body_holds : (ts : List Stmt) → in_block false Outside (map sectioned ts) ≡ None → Holds Outside (execute_all cx ts)
    body_holds ts = subst (λ (l : List Stmt). in_block false Outside (map sectioned l) ≡ None → Holds Outside (execute_all cx l)) (pieces_are ts) (block_holds Outside (pieces ts))

    -- ---- functions

    pub run_body_level : (f : Function) → unmatched_in_function f ≡ None → (args : List ℕ) → Level ℕ anything (run_body cx f args) (run_body cx f args)
    run_body_level f e args d =
        let own : Step (Unit {0}) = change (λ s. record s { locals = parameters [] 0 f.params args }) in
        let back : List Local → Flow → Step ℕ = λ outer flow. change (λ s. record s { locals = outer }) >> pure (result_of flow) in
        leads_then (at d) (at d) (at d) (List Local) ℕ anything anything (look (λ s. s.locals)) (λ outer. own >> (execute_all cx f.body >>= back outer)) (leads_look (at d) (List Local) (λ ls. ls)) (λ outer _.
        leads_and (at d) (at d) (at d) anything anything own (execute_all cx f.body >>= back outer) (leads_locals (at d) (λ ls. parameters [] 0 f.params args))
        (leads_then (at d) (at d) (at d) Flow ℕ (Allowed Outside) anything (execute_all cx f.body) (back outer) (body_holds f.body e d) (λ flow _.
        leads_and (at d) (at d) (at d) anything anything (change (λ s. record s { locals = outer })) (pure (result_of flow)) (leads_locals (at d) (λ ls. outer)) (leads_pure (at d) ℕ anything (result_of flow) tt))))

    call_body_level : (f : Function) → unmatched_in_function f ≡ None → (args : List ℕ) → Level ℕ anything (call_body cx f args) (call_body cx f args)
    call_body_level f e args d =
        leads_cond (at d) (at d) ℕ anything (is_atomic f) (in_section (run_body cx f args)) (run_body cx f args) (leads_section d (run_body cx f args) (run_body_level f e args (suc d))) (run_body_level f e args d)

  -- ---- calls

  module _ (matched : unmatched_in g.functions ≡ None) where
    function_matched : (fs : List Function) (i : ℕ) (f : Function) → slice_get fs i ≡ Some f → unmatched_in fs ≡ None → unmatched_in_function f ≡ None
    function_matched [] zero f e h = absurd (let no : ◌≡◌ {A = Option Function} None (Some f) = e in cc)
    function_matched [] (suc i) f e h = absurd (let no : ◌≡◌ {A = Option Function} None (Some f) = e in cc)
    function_matched (x ∷ fs) zero f e h = let same : x ≡ f = cc in subst (λ (y : Function). unmatched_in_function y ≡ None) same (both_none (unmatched_in_function x) (unmatched_in fs) h).0
    function_matched (x ∷ fs) (suc i) f e h = function_matched fs i f e (both_none (unmatched_in_function x) (unmatched_in fs) h).1

    with_level : (n : ℕ) (o : Option Function) → ((f : Function) → o ≡ Some f → unmatched_in_function f ≡ None) → (args : List ℕ) → ((f : ℕ) (xs : List ℕ) → Level ℕ anything (call_within n (one g) f xs) (call_within n (one g) f xs))
        → Level ℕ anything (with_function o (λ h. call_body (context_within n (one g)) h args)) (with_function o (λ h. call_body (context_within n (one g)) h args))
    with_level n None h args rest d = leads_stop (at d) (at d) ℕ anything
    with_level n (Some f) h args rest d = call_body_level (call_within n (one g)) rest f (h f refl) args d

    calls_level : (n f : ℕ) (args : List ℕ) → Level ℕ anything (call_within n (one g) f args) (call_within n (one g) f args)
    calls_level zero f args d = leads_stop (at d) (at d) ℕ anything
    calls_level (suc n) f args d = with_level n (slice_get g.functions f) (λ h e. function_matched g.functions f h e matched) args (calls_level n) d

    -- the body of a thread ends at the depth at which it began
    pub thread_body_level : (n i : ℕ) (f : Function) → slice_get g.functions i ≡ Some f → (args : List ℕ) (d : ℕ) → Leads (at d) (at d) ℕ anything (run_body (context_within n (one g)) f args)
    thread_body_level n i f e args d = run_body_level (call_within n (one g)) (calls_level n) f (function_matched g.functions i f e matched) args d
