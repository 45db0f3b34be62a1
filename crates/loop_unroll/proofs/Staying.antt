-- How control may leave a statement of a thread, by where it stands: inside a section it comes to the end of each. And what a begin
-- and an end of a section do there.
use Rattle.std.proofs.Common.{◌≡◌, ℕ, zero, suc, List, [], ◌∷◌, Option, Some, None, Bool, true, false, map, length, take, refl, sym, ap, ◌∙◌, subst}
use Rattle.std.proofs.lemmas.Bool.{both_ways}
use Rattle.std.specs.Prelude.{cond}
use Rattle.dg_base.specs.declared.Place.{Place}
use Rattle.dg_base.specs.Values.{is_true}
use Rattle.c_tree.specs.declared.expr.Expr.{Expr, fold-roll-Expr, map-Expr, out-Expr, roll-out-Expr}
use Rattle.c_tree.specs.declared.expr.Expr.TheOpen.{Expr-F}
use Rattle.c_tree.specs.declared.stmt.Stmt.{Stmt, fold-roll-Stmt, ind-Stmt, map-Stmt}
use Rattle.c_tree.specs.declared.stmt.Stmt.TheOpen.{Stmt-F}
use Rattle.c_tree.specs.declared.stmt.Stmt.TheViews.{roll-Stmt}
use Rattle.c_rules.specs.Names.{Name, or_else}
use Rattle.c_rules.specs.Scopes.{First, unless}
use Rattle.c_check.specs.declared.sections.Inside.{Inside}
use Rattle.c_check.specs.declared.sections.Inside.TheVariants.{Outside, InSection, InItsLoop}
use Rattle.c_check.specs.declared.sections.Mark.{Mark}
use Rattle.c_check.specs.declared.sections.Mark.TheVariants.{Begins, Ends, Neither}
use Rattle.c_check.specs.Sections.{is_outside, may_jump, in_a_loop, behind_mark, begin_name, end_name, mark_in, first_mark, mark_in_option, mark_in_for, Sectioned, unmarked, some_marked, broken_there, in_block, section_step, sectioned}
use Rattle.run_model.specs.declared.state.Flow.{Flow}
use Rattle.run_model.specs.declared.state.Flow.TheVariants.{Next as Onward, Broke, Continued, Returned}
use Rattle.run_model.specs.Steps.{State, Outcome, Step}
use Rattle.run_model.specs.Steps as machine
use Rattle.run_model.specs.Calls.{Meaning, Context, function_named, spend}
use Rattle.run_model.specs.Meaning.{call, expr_step, meaning, eval}
use Rattle.run_model.specs.Statements.{then_next, scoped, after_body, loop, do_loop, eval_if, turns, stmt_step, execute, execute_all}
use Rattle.emit_steps.proofs.Marks.{both_none, holds_at, begin_call, end_call}
use Rattle.loop_unroll.proofs.AddingFunctions.{NoMarks}

-- ---- how control may leave

abbrev pub Allowed : Inside → Flow → Type 0
Allowed Outside f = Unit {0}
Allowed InSection Onward = Unit {0}
Allowed InSection _ = ⊥
Allowed InItsLoop (Returned v) = ⊥
Allowed InItsLoop _ = Unit {0}

onward_allowed : (i : Inside) → Allowed i Onward
onward_allowed Outside = tt
onward_allowed InSection = tt
onward_allowed InItsLoop = tt

abbrev pub LeavesAs : Inside → Outcome Flow → Type 0
LeavesAs i (machine.Goes f s) = Allowed i f
LeavesAs i (machine.Halts h s) = Unit {0}

-- from whatever state
pub record Stays (i : Inside) (st : Step Flow) : Type 0 where
  pub at : (s : State) → LeavesAs i (st s)

-- the flow in a section
pub only_onward : (f : Flow) → Allowed InSection f → f ≡ Onward
only_onward Onward ok = refl
only_onward Broke ok = absurd ok
only_onward Continued ok = absurd ok
only_onward (Returned v) ok = absurd ok

stays_pure : (i : Inside) (f : Flow) → Allowed i f → Stays i (machine.pure f)
stays_pure i f ok = record { at = λ s. ok }

stays_spend : (i : Inside) (cx : Context) (p : Place) → Stays i (spend cx.setting p)
stays_spend i cx p = record { at = λ s. tt }

stays_cond : (i : Inside) (b : Bool) (m n : Step Flow) → Stays i m → Stays i n → Stays i (cond b m n)
stays_cond i true m n h k = h
stays_cond i false m n h k = k

after : {A : Type 0} (i : Inside) (o : Outcome A) (f : A → Step Flow) → ((a : A) → Stays i (f a)) → LeavesAs i (machine.go_on o f)
after i (machine.Goes a s) f h = (h a).at s
after i (machine.Halts x s) f h = tt

-- whatever comes first
stays_then : {A : Type 0} (i : Inside) (st : Step A) (f : A → Step Flow) → ((a : A) → Stays i (f a)) → Stays i (machine.◌>>=◌ st f)
stays_then i st f h = record { at = λ s. after i (st s) f h }

flow_after : (i j : Inside) (o : Outcome Flow) (f : Flow → Step Flow) → LeavesAs i o → ((w : Flow) → Allowed i w → Stays j (f w)) → LeavesAs j (machine.go_on o f)
flow_after i j (machine.Goes w s) f ok h = (h w ok).at s
flow_after i j (machine.Halts x s) f ok h = tt

stays_flow : (i j : Inside) (st : Step Flow) (f : Flow → Step Flow) → Stays i st → ((w : Flow) → Allowed i w → Stays j (f w)) → Stays j (machine.◌>>=◌ st f)
stays_flow i j st f k h = record { at = λ s. flow_after i j (st s) f (k.at s) h }

stays_scoped : (i : Inside) (st : Step Flow) → Stays i st → Stays i (scoped st)
stays_scoped i st h = record {
  at = λ s. flow_after i i (st s) (λ f. machine.◌>>◌ (machine.change (λ r. record r { locals = take (length s.locals) r.locals })) (machine.pure f)) (h.at s) (λ w ok. record { at = λ r. ok });
}

-- one statement behind the other
then_stays : (i : Inside) (w : Flow) (st : Step Flow) → Allowed i w → Stays i st → Stays i (then_next w st)
then_stays i Onward st ok h = h
then_stays i Broke st ok h = stays_pure i Broke ok
then_stays i Continued st ok h = stays_pure i Continued ok
then_stays i (Returned v) st ok h = stays_pure i (Returned v) ok

onward_stays : (i : Inside) (w : Flow) (st : Step Flow) → Allowed InSection w → Stays i st → Stays i (then_next w st)
onward_stays i w st ok h = subst (λ (f : Flow). Stays i (then_next f st)) (sym (only_onward w ok)) h

-- ---- loops

returned_allowed : (i : Inside) (v : ℕ) → Allowed (in_a_loop i) (Returned v) → Allowed i (Returned v)
returned_allowed Outside v ok = tt
returned_allowed InSection v ok = absurd ok
returned_allowed InItsLoop v ok = absurd ok

body_stays : (i : Inside) (w : Flow) (st : Step Flow) → Allowed (in_a_loop i) w → Stays i st → Stays i (after_body w st)
body_stays i Onward st ok h = h
body_stays i Broke st ok h = stays_pure i Onward (onward_allowed i)
body_stays i Continued st ok h = h
body_stays i (Returned v) st ok h = stays_pure i (Returned v) (returned_allowed i v ok)

tested : (i : Inside) (test : Step ℕ) (st : Step Flow) → Stays i st → Stays i (machine.◌>>=◌ test (λ v. cond (is_true v) st (machine.pure Onward)))
tested i test st h = stays_then i test (λ v. cond (is_true v) st (machine.pure Onward)) (λ v. stays_cond i (is_true v) st (machine.pure Onward) h (stays_pure i Onward (onward_allowed i)))

stays_loop : (i : Inside) (spent : Step Flow) (n : ℕ) (test : Step ℕ) (body : Step Flow) (step : Step (Unit {0})) → Stays i spent → Stays (in_a_loop i) body → Stays i (loop spent n test body step)
stays_loop i spent zero test body step hs hb = tested i test spent hs
stays_loop i spent (suc n) test body step hs hb =
    tested i test (machine.◌>>=◌ body (λ f. after_body f (machine.◌>>◌ step (loop spent n test body step))))
    (stays_flow (in_a_loop i) i body (λ f. after_body f (machine.◌>>◌ step (loop spent n test body step))) hb
    (λ w ok. body_stays i w (machine.◌>>◌ step (loop spent n test body step)) ok (stays_then i step (λ _. loop spent n test body step) (λ _. stays_loop i spent n test body step hs hb))))

stays_do : (i : Inside) (spent : Step Flow) (n : ℕ) (test : Step ℕ) (body : Step Flow) → Stays i spent → Stays (in_a_loop i) body → Stays i (do_loop spent n test body)
stays_do i spent zero test body hs hb = hs
stays_do i spent (suc n) test body hs hb =
    stays_flow (in_a_loop i) i body (λ f. after_body f (machine.◌>>=◌ test (λ v. cond (is_true v) (do_loop spent n test body) (machine.pure Onward)))) hb
    (λ w ok. body_stays i w (machine.◌>>=◌ test (λ v. cond (is_true v) (do_loop spent n test body) (machine.pure Onward))) ok (tested i test (do_loop spent n test body) (stays_do i spent n test body hs hb)))

module _ (cx : Context) (marks : NoMarks cx.setting) where
  -- ---- begins and ends

  -- what a call does, and then the statement's end
  abbrev pub then_ends : Step (Unit {0}) → Step Flow
  then_ends st = machine.◌>>◌ (machine.◌>>◌ st (machine.pure {A = ℕ} 0)) (machine.pure Onward)

  begin_named : (p : Place) (n : Name) (ms : List Meaning) (s : State) → begin_name ≡ n → call cx p n ms (function_named cx.setting n) s ≡ machine.◌>>◌ machine.begin_section (machine.pure {A = ℕ} 0) s
  begin_named p n ms s same =
      subst (λ k. call cx p k ms (function_named cx.setting k) s ≡ machine.◌>>◌ machine.begin_section (machine.pure {A = ℕ} 0) s) same
      (subst (λ (o : Option ℕ). call cx p begin_name ms o s ≡ machine.◌>>◌ machine.begin_section (machine.pure {A = ℕ} 0) s) (sym marks.begins) refl)

  end_named : (p : Place) (n : Name) (ms : List Meaning) (s : State) → end_name ≡ n → call cx p n ms (function_named cx.setting n) s ≡ machine.◌>>◌ machine.end_section (machine.pure {A = ℕ} 0) s
  end_named p n ms s same =
      subst (λ k. call cx p k ms (function_named cx.setting k) s ≡ machine.◌>>◌ machine.end_section (machine.pure {A = ℕ} 0) s) same
      (subst (λ (o : Option ℕ). call cx p end_name ms o s ≡ machine.◌>>◌ machine.end_section (machine.pure {A = ℕ} 0) s) (sym marks.ends) refl)

  begin_at : (z : Expr-F Expr) (q : Place) (s : State) → mark_in z ≡ Begins q → (expr_step cx (map-Expr Expr Meaning (meaning cx) z)).run s ≡ machine.◌>>◌ machine.begin_section (machine.pure {A = ℕ} 0) s
  begin_at (Expr-F.Call p n ys) q s h = begin_named p n (map (meaning cx) ys) s (begin_call p q n h)
  begin_at _ q s h = absurd (let no : Neither ≡ Begins q = h in cc)

  end_at : (z : Expr-F Expr) (q : Place) (s : State) → mark_in z ≡ Ends q → (expr_step cx (map-Expr Expr Meaning (meaning cx) z)).run s ≡ machine.◌>>◌ machine.end_section (machine.pure {A = ℕ} 0) s
  end_at (Expr-F.Call p n ys) q s h = end_named p n (map (meaning cx) ys) s (end_call p q n h)
  end_at _ q s h = absurd (let no : Neither ≡ Ends q = h in cc)

  eval_out : (x : Expr) (s : State) → eval cx x s ≡ (expr_step cx (map-Expr Expr Meaning (meaning cx) (out-Expr x))).run s
  eval_out x s = ap (λ y. (meaning cx y).run s) (sym (roll-out-Expr x)) ∙ ap (λ (m : Meaning). m.run s) (fold-roll-Expr Meaning (expr_step cx) (out-Expr x))

  -- ---- the forms

  -- how control leaves a statement in which nothing is broken; and what a begin and an end do
  pub record StaysForm (x : Sectioned) (st : Step Flow) : Type 0 where
    pub plain : (i : Inside) → x.found i ≡ None → Stays i st
    pub begins : (p : Place) → x.mark ≡ Begins p → (s : State) → st s ≡ then_ends machine.begin_section s
    pub ends : (p : Place) → x.mark ≡ Ends p → (s : State) → st s ≡ then_ends machine.end_section s

  abbrev pub StaysAt : Stmt → Type 0
  StaysAt s = StaysForm (sectioned s) (execute cx s)

  form_of : (found : Inside → First) (st : Step Flow) → ((i : Inside) → found i ≡ None → Stays i st) → StaysForm (unmarked found) st
  form_of found st h = record {
    plain = h;
    begins = λ p is s. absurd (let no : Neither ≡ Begins p = is in cc);
    ends = λ p is s. absurd (let no : Neither ≡ Ends p = is in cc);
  }

  expr_form : (p : Place) (x : Expr) → StaysForm (section_step (Stmt-F.Expr p x)) (stmt_step cx (Stmt-F.Expr p x))
  expr_form p x = record {
    plain = λ i h. stays_then i (eval cx x) (λ _. machine.pure Onward) (λ _. stays_pure i Onward (onward_allowed i));
    begins = λ q is s. ap (λ (o : Outcome ℕ). machine.go_on o (λ _. machine.pure Onward)) (eval_out x s ∙ begin_at (out-Expr x) q s is);
    ends = λ q is s. ap (λ (o : Outcome ℕ). machine.go_on o (λ _. machine.pure Onward)) (eval_out x s ∙ end_at (out-Expr x) q s is);
  }

  abbrev Part : Type 0
  Part = (s : Stmt) × StaysAt s

  abbrev stmts : List Part → List Stmt
  stmts ys = map (λ (y : Part). y.0) ys

  -- ---- sequences

  -- a begin and an end come to their end
  marked_onward : (s : State) (st : Step (Unit {0})) (o : Outcome Flow) → o ≡ then_ends st s → LeavesAs InSection o
  marked_onward s st o is = subst (LeavesAs InSection) (sym is) (after InSection (machine.go_on (st s) (λ _. machine.pure {A = ℕ} 0)) (λ _. machine.pure Onward) (λ _. stays_pure InSection Onward tt))

  stays_begin : (y : Part) (p : Place) → (sectioned y.0).mark ≡ Begins p → Stays InSection (execute cx y.0)
  stays_begin y p is = record { at = λ s. marked_onward s machine.begin_section (execute cx y.0 s) (y.1.begins p is s) }

  stays_end : (y : Part) (p : Place) → (sectioned y.0).mark ≡ Ends p → Stays InSection (execute cx y.0)
  stays_end y p is = record { at = λ s. marked_onward s machine.end_section (execute cx y.0 s) (y.1.ends p is s) }

  behind_onward : (i : Inside) (st more : Step Flow) → Stays InSection st → Stays i more → Stays i (machine.◌>>=◌ st (λ f. then_next f more))
  behind_onward i st more h k = stays_flow InSection i st (λ f. then_next f more) h (λ w ok. onward_stays i w more ok k)

  one_more :
      (i : Inside) (y : Part) (ys : List Part) (opened : Bool) (q : Mark) → (sectioned y.0).mark ≡ q → broken_there opened i (some_marked (map sectioned (stmts ys))) (sectioned y.0).found q ≡ None → Stays i (execute_all cx (stmts ys)) →
      Stays i (machine.◌>>=◌ (execute cx y.0) (λ f. then_next f (execute_all cx (stmts ys))))
  one_more i y ys opened (Begins p) is here rest = behind_onward i (execute cx y.0) (execute_all cx (stmts ys)) (stays_begin y p is) rest
  one_more i y ys opened (Ends p) is here rest = behind_onward i (execute cx y.0) (execute_all cx (stmts ys)) (stays_end y p is) rest
  one_more i y ys true Neither is here rest = behind_onward i (execute cx y.0) (execute_all cx (stmts ys)) (y.1.plain InSection here) rest
  one_more i y ys false Neither is here rest = stays_flow i i (execute cx y.0) (λ f. then_next f (execute_all cx (stmts ys))) (y.1.plain i here) (λ w ok. then_stays i w (execute_all cx (stmts ys)) ok rest)

  sequence_stays : (i : Inside) (ys : List Part) (opened : Bool) → in_block opened i (map sectioned (stmts ys)) ≡ None → Stays i (execute_all cx (stmts ys))
  sequence_stays i [] opened h = stays_pure i Onward (onward_allowed i)
  sequence_stays i (y ∷ ys) opened h =
      let both : (broken_there opened i (some_marked (map sectioned (stmts ys))) (sectioned y.0).found (sectioned y.0).mark ≡ None) × (in_block (behind_mark opened (sectioned y.0).mark) i (map sectioned (stmts ys)) ≡ None) = both_none _ _ h in
      one_more i y ys opened (sectioned y.0).mark refl both.0 (sequence_stays i ys (behind_mark opened (sectioned y.0).mark) both.1)

  -- ---- the others

  stays_if : (i : Inside) (x : Expr) (m n : Step Flow) → Stays i m → Stays i n → Stays i (machine.◌>>=◌ (eval cx x) (λ v. cond (is_true v) m n))
  stays_if i x m n h k = stays_then i (eval cx x) (λ v. cond (is_true v) m n) (λ v. stays_cond i (is_true v) m n h k)

  stays_turns : (i : Inside) (p : Place) (t e : Option Expr) (st : Step Flow) → Stays (in_a_loop i) st → Stays i (turns cx p t e st)
  stays_turns i p t e st h = stays_loop i (spend cx.setting p) cx.setting.turns (eval_if cx 1 t) (scoped st) (machine.◌>>◌ (eval_if cx 0 e) machine.nothing) (stays_spend i cx p) (stays_scoped (in_a_loop i) st h)

  returned : (i : Inside) (p : Place) (v : ℕ) → unless (is_outside i) p ≡ None → Allowed i (Returned v)
  returned Outside p v h = tt
  returned InSection p v h = absurd (both_ways false refl (holds_at false p h))
  returned InItsLoop p v h = absurd (both_ways false refl (holds_at false p h))

  jumps : (i : Inside) (p : Place) → unless (may_jump i) p ≡ None → Allowed i Broke × Allowed i Continued
  jumps Outside p h = (tt, tt)
  jumps InSection p h = absurd (both_ways false refl (holds_at false p h))
  jumps InItsLoop p h = (tt, tt)

  layer : (y : Stmt-F Part) → StaysForm (section_step (map-Stmt Stmt Sectioned sectioned (map-Stmt Part Stmt (λ e. e.0) y))) (stmt_step cx (map-Stmt Stmt (Step Flow) (execute cx) (map-Stmt Part Stmt (λ e. e.0) y)))
  layer (Stmt-F.Empty p) = form_of _ _ (λ i h. stays_pure i Onward (onward_allowed i))
  layer (Stmt-F.Expr p x) = expr_form p x
  layer (Stmt-F.Declare d) = form_of _ _ (λ i h. stays_then i _ (λ _. machine.pure Onward) (λ _. stays_pure i Onward (onward_allowed i)))
  layer (Stmt-F.Block p ys) = form_of _ _ (λ i h. stays_scoped i (execute_all cx (stmts ys)) (sequence_stays i ys false h))
  layer (Stmt-F.Label p n y) = form_of _ _ (λ i h. stays_scoped i (execute cx y.0) (y.1.plain i h))
  layer (Stmt-F.If p x y None) = form_of _ _ (λ i h.
      let first : (first_mark x ≡ None) × (or_else ((sectioned y.0).found i) None ≡ None) = both_none (first_mark x) _ h in
      let both : ((sectioned y.0).found i ≡ None) × (◌≡◌ {A = First} None None) = both_none ((sectioned y.0).found i) None first.1 in
      stays_if i x (scoped (execute cx y.0)) (machine.pure Onward) (stays_scoped i (execute cx y.0) (y.1.plain i both.0)) (stays_pure i Onward (onward_allowed i)))
  layer (Stmt-F.If p x y (Some z)) = form_of _ _ (λ i h.
      let first : (first_mark x ≡ None) × (or_else ((sectioned y.0).found i) ((sectioned z.0).found i) ≡ None) = both_none (first_mark x) _ h in
      let both : ((sectioned y.0).found i ≡ None) × ((sectioned z.0).found i ≡ None) = both_none ((sectioned y.0).found i) ((sectioned z.0).found i) first.1 in
      stays_if i x (scoped (execute cx y.0)) (scoped (execute cx z.0)) (stays_scoped i (execute cx y.0) (y.1.plain i both.0)) (stays_scoped i (execute cx z.0) (z.1.plain i both.1)))
  layer (Stmt-F.While p x y) = form_of _ _ (λ i h.
      let both : (first_mark x ≡ None) × ((sectioned y.0).found (in_a_loop i) ≡ None) = both_none (first_mark x) _ h in
      stays_turns i p (Some x) None (execute cx y.0) (y.1.plain (in_a_loop i) both.1))
  layer (Stmt-F.DoWhile p y x) = form_of _ _ (λ i h.
      let both : ((sectioned y.0).found (in_a_loop i) ≡ None) × (first_mark x ≡ None) = both_none _ (first_mark x) h in
      stays_do i (spend cx.setting p) cx.setting.turns (eval cx x) (scoped (execute cx y.0)) (stays_spend i cx p) (stays_scoped (in_a_loop i) (execute cx y.0) (y.1.plain (in_a_loop i) both.0)))
  layer (Stmt-F.For p first x e y) = form_of _ _ (λ i h.
      let a : (mark_in_for first ≡ None) × (or_else (mark_in_option x) (or_else (mark_in_option e) ((sectioned y.0).found (in_a_loop i))) ≡ None) = both_none (mark_in_for first) _ h in
      let b : (mark_in_option x ≡ None) × (or_else (mark_in_option e) ((sectioned y.0).found (in_a_loop i)) ≡ None) = both_none (mark_in_option x) _ a.1 in
      let c : (mark_in_option e ≡ None) × ((sectioned y.0).found (in_a_loop i) ≡ None) = both_none (mark_in_option e) _ b.1 in
      stays_scoped i _ (stays_then i _ (λ _. turns cx p x e (execute cx y.0)) (λ _. stays_turns i p x e (execute cx y.0) (y.1.plain (in_a_loop i) c.1))))
  layer (Stmt-F.Return p x) = form_of _ _ (λ i h.
      let both : (unless (is_outside i) p ≡ None) × (mark_in_option x ≡ None) = both_none _ (mark_in_option x) h in
      stays_then i (eval_if cx 0 x) (λ v. machine.pure (Returned v)) (λ v. stays_pure i (Returned v) (returned i p v both.0)))
  layer (Stmt-F.Break p) = form_of _ _ (λ i h. stays_pure i Broke (jumps i p h).0)
  layer (Stmt-F.Continue p) = form_of _ _ (λ i h. stays_pure i Continued (jumps i p h).1)

  -- every statement
  pub stays : (s : Stmt) → StaysAt s
  stays =
      ind-Stmt StaysAt (λ z y is.
      subst (λ (w : Stmt-F Stmt). StaysAt (roll-Stmt w)) is
      (subst (λ x. StaysForm x (execute cx (roll-Stmt (map-Stmt Part Stmt (λ e. e.0) y)))) (sym (fold-roll-Stmt Sectioned section_step (map-Stmt Part Stmt (λ e. e.0) y)))
      (subst (StaysForm (section_step (map-Stmt Stmt Sectioned sectioned (map-Stmt Part Stmt (λ e. e.0) y)))) (sym (fold-roll-Stmt (Step Flow) (stmt_step cx) (map-Stmt Part Stmt (λ e. e.0) y))) (layer y))))
