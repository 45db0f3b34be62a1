-- Statements whose sections stand as they should, bodies and calls of functions add steps under their guards.
use Rattle.std.proofs.Common.{◌≡◌, ℕ, zero, suc, ◌+◌, ◌-◌, inl, inr, List, [], ◌∷◌, map, Bool, true, false, Option, Some, None, refl, sym, ap, ◌∙◌, subst, arith}
use Rattle.std.proofs.lemmas.Bool.{and_parts, both_ways}
use Rattle.std.specs.Prelude.{slice_get, ◌&&◌, ◌||◌}
use Rattle.dg_base.specs.declared.Place.{Place}
use Rattle.c_tree.specs.declared.expr.Expr.{Expr, fold-roll-Expr, map-Expr, out-Expr, roll-out-Expr}
use Rattle.c_tree.specs.declared.expr.Expr.TheOpen.{Expr-F}
use Rattle.c_tree.specs.declared.stmt.Stmt.{Stmt, fold-roll-Stmt, ind-Stmt, map-Stmt}
use Rattle.c_tree.specs.declared.stmt.Stmt.TheOpen.{Stmt-F}
use Rattle.c_tree.specs.declared.stmt.Stmt.TheViews.{roll-Stmt}
use Rattle.c_tree.specs.declared.program.Function.{Function}
use Rattle.c_rules.specs.Names.{Name, or_else}
use Rattle.c_rules.specs.Scopes.{First, unless as unless_first}
use Rattle.c_check.specs.declared.sections.Inside.{Inside}
use Rattle.c_check.specs.declared.sections.Inside.TheVariants.{Outside, InSection}
use Rattle.c_check.specs.declared.sections.Mark.{Mark}
use Rattle.c_check.specs.declared.sections.Mark.TheVariants.{Begins, Ends, Neither}
use Rattle.c_check.specs.Sections.{is_outside, behind_mark, begin_name, end_name, mark_in, first_mark, mark_in_option, mark_in_for, Sectioned, some_marked, unmarked, broken_there, in_block, in_a_loop, section_step, sectioned, unmatched_in_function}
use Rattle.run_model.specs.Calls.{Setting, function_named}
use Rattle.run_model.specs.Threads.{is_atomic}
use Rattle.loop_unroll.specs.declared.targets.Targets.{Targets}
use Rattle.emit_steps.specs.Emitting.{Emitted, Emit, ◌>>◌, pure, none, one, fresh, stop, apart, open_section, begin_section, close_section, end_section, copy_to, mark}
use Rattle.emit_steps.specs.Pieces.{Piece, Context, eval, call, expr_step, piece}
use Rattle.emit_steps.specs.Calling.{parameters, in_section, call_body, with_function}
use Rattle.loop_unroll.specs.Stating.{Body, sequence, either, give, loop, eval_if, declare_all, begin_for, targets, stmt_step, execute, execute_all, statements, run_body, context_within}
use Rattle.emit_steps.proofs.Growth.{Each, One, IsGuardOf, Neat}
use Rattle.emit_steps.proofs.Marks.{both_none, holds_at, begin_call, end_call, rest_marked}
use Rattle.emit_steps.proofs.Adding.{Since, Adds, since_under, adds_pure, adds_then, adds_cond, adds_fresh, adds_copy, adds_mark, adds_stop}
use Rattle.emit_steps.proofs.AddingForms.{Opened, opens_section, closes_section, since_more}
use Rattle.emit_steps.proofs.AddingExprs.{AddsCalls}
use Rattle.loop_unroll.proofs.AddingBodies.{before_guard, guard_is, guard_none, since_scoped, Behind, AddsBehind, adds_left, behind_left, behind_then, behind_next, scoped_left}
use Rattle.loop_unroll.proofs.AddingStatements.{AddsScope, behind_out, scope_adds, scope_then, scope_guard, scope_behind, AddsInside, adds_either, adds_eval, adds_eval_if, adds_loop, adds_do_loop, adds_declare, adds_begin_for, adds_parameters}

-- no function is named as a begin or an end
pub record NoMarks (s : Setting) : Type 0 where
  pub begins : function_named s begin_name ≡ None
  pub ends : function_named s end_name ≡ None

-- seen from a depth that is one less
pub lowered : (gs : List ℕ) (e f : Emitted) (d : ℕ) → e.depth ≡ d + 1 → Since gs e f → Since gs (record e { depth = d }) (record f { depth = d })
lowered gs e f d is h = record {
  grown = record {
    next = h.grown.next;
    numbers = h.grown.numbers;
    numbers_behind = h.grown.numbers_behind;
    numbers_above = h.grown.numbers_above;
    numbers_below = h.grown.numbers_below;
    rising = h.grown.rising;
    created = h.grown.created;
    created_behind = h.grown.created_behind;
    instances = h.grown.instances;
    steps = h.grown.steps;
    steps_behind = h.grown.steps_behind;
    guards = h.grown.guards;
    depth = refl;
    opened = λ _. h.grown.opened (λ z. absurd (omega (arith, is, z)));
  };
  scope = h.scope;
  neat = h.neat;
}

behind_lowered : (gs : List ℕ) (e f : Emitted) (h d : ℕ) → e.depth ≡ d + 1 → Behind gs e f h → Behind gs (record e { depth = d }) (record f { depth = d }) h
behind_lowered gs e f h d is b = record {
  vars = b.vars;
  scope = b.scope;
  since = lowered gs e (record f { scope = e.scope }) d is b.since;
  stacked = b.stacked;
  cells = b.cells;
  out = b.out;
}

out_more : (gs hs : List ℕ) (e f : Emitted) (h : ℕ) → ((k : ℕ) → One hs k → One gs k) → IsGuardOf hs e f h → IsGuardOf gs e f h
out_more gs hs e f h outer (inl some) = inl (outer h some)
out_more gs hs e f h outer (inr new) = inr new

behind_under : (gs hs : List ℕ) (e f : Emitted) (h : ℕ) → Neat e → ((k : ℕ) → One hs k → One gs k) → Behind hs e f h → Behind gs e f h
behind_under gs hs e f h neat outer b = record {
  vars = b.vars;
  scope = b.scope;
  since = since_under gs hs e (record f { scope = e.scope }) neat outer b.since;
  stacked = b.stacked;
  cells = b.cells;
  out = out_more gs hs e f h outer b.out;
}

twice : (g k : ℕ) → One (g ∷ g ∷ []) k → One (g ∷ []) k
twice g k (inl same) = inl same
twice g k (inr one) = one

module _ (cx : Context) (calls : AddsCalls cx) (marks : NoMarks cx.setting) where
  -- what a statement adds, where nothing is broken in it; and what a begin and an end are
  pub record SoundForm (x : Sectioned) (b : Body) : Type 0 where
    pub plain : (i : Inside) → x.found i ≡ None → (t : Targets) (g : ℕ) → AddsBehind (g ∷ []) (b t g)
    pub begins : (p : Place) → x.mark ≡ Begins p → (t : Targets) (g : ℕ) (e : Emitted) → b t g e ≡ (g, (begin_section g e).1)
    pub ends : (p : Place) → x.mark ≡ Ends p → (t : Targets) (g : ℕ) (e : Emitted) → b t g e ≡ (g, (end_section e).1)

  abbrev pub Sound : Stmt → Type 0
  Sound s = SoundForm (sectioned s) (execute cx s)

  pub sound_inside : (s : Stmt) (i : Inside) → Sound s → (sectioned s).found i ≡ None → AddsInside (execute cx s)
  sound_inside s i h whole = record { add = λ t g. scoped_left (g ∷ []) (execute cx s t g) (h.plain i whole t g) }

  -- ---- sequences

  abbrev pub Sounds : List Stmt → Type 0
  Sounds ss = Each Sound ss

  -- behind a begin the section's guard is kept, and its end closes it
  pub record Sequence (ss : List Stmt) : Type 0 where
    pub closed : (i : Inside) → in_block false i (map sectioned ss) ≡ None → (t : Targets) (g : ℕ) → AddsBehind (g ∷ []) (execute_all cx ss t g)
    pub opened :
        (i : Inside) → in_block true i (map sectioned ss) ≡ None → some_marked (map sectioned ss) ≡ true → (t : Targets) (g k d : ℕ) (e : Emitted) → Neat e → e.depth ≡ d + 1 → (d ≡ 0 → e.opened ≡ k) →
        Behind (k ∷ g ∷ []) (record e { depth = d }) (execute_all cx ss t g e).1 (execute_all cx ss t g e).0

  begun :
      (ss : List Stmt) (i : Inside) (t : Targets) (g : ℕ) (e : Emitted) → Sequence ss → in_block true i (map sectioned ss) ≡ None → some_marked (map sectioned ss) ≡ true → Neat e →
      Behind (g ∷ []) e (execute_all cx ss t g (begin_section g e).1).1 (execute_all cx ss t g (begin_section g e).1).0
  begun ss i t g e rest whole follows neat =
      let o : Opened (g ∷ []) g e (open_section g e).1 = opens_section (g ∷ []) g e (inl refl) neat in
      let f : Emitted = (begin_section g e).1 in
      let inner : Behind (g ∷ g ∷ []) (open_section g e).1 (execute_all cx ss t g f).1 (execute_all cx ss t g f).0 =
      rest.opened i whole follows t g g (open_section g e).1.depth f o.since.neat refl (λ z. o.kept (sym o.since.grown.depth ∙ z)) in
      behind_then (g ∷ []) (g ∷ g ∷ []) e (open_section g e).1 (execute_all cx ss t g f).1 g (execute_all cx ss t g f).0
      (behind_left (g ∷ []) e (open_section g e).1 g (record { since = o.since; out = inl (inl refl) })) (λ l one. inl (twice g l one)) inner

  ended :
      (ss : List Stmt) (i : Inside) (t : Targets) (g k d : ℕ) (e : Emitted) → Sequence ss → in_block false i (map sectioned ss) ≡ None → Neat e → e.depth ≡ d + 1 → (d ≡ 0 → e.opened ≡ k) →
      Behind (k ∷ g ∷ []) (record e { depth = d }) (execute_all cx ss t g (end_section e).1).1 (execute_all cx ss t g (end_section e).1).0
  ended ss i t g k d e rest whole neat is under =
      let low : Emitted = record e { depth = e.depth - 1 } in
      let f : Emitted = (close_section low).1 in
      let same : e.depth - 1 ≡ d = omega (arith, is) in
      let closing : Since (k ∷ g ∷ []) low f = closes_section (k ∷ g ∷ []) low neat (λ z. inl (under (sym same ∙ z))) in
      let inner : Behind (g ∷ []) f (execute_all cx ss t g f).1 (execute_all cx ss t g f).0 = (rest.closed i whole t g).add f closing.neat in
      subst (λ n. Behind (k ∷ g ∷ []) (record e { depth = n }) (execute_all cx ss t g f).1 (execute_all cx ss t g f).0) same
      (behind_then (k ∷ g ∷ []) (g ∷ []) low f (execute_all cx ss t g f).1 g (execute_all cx ss t g f).0
      (behind_left (k ∷ g ∷ []) low f g (record { since = closing; out = inl (inr (inl refl)) })) (λ l one. inl (inr one)) inner)

  no_none : {A : Type 0} (p : Place) (b : Bool) → unless_first b p ≡ None → b ≡ false → A
  no_none p b h is = absurd (both_ways b is (holds_at b p h))

  closed_case :
      (s : Stmt) (ss : List Stmt) (i : Inside) (k : Mark) → (sectioned s).mark ≡ k → Sound s → Sequence ss → or_else (broken_there false i (some_marked (map sectioned ss)) (sectioned s).found k) (in_block (behind_mark false k) i (map sectioned ss)) ≡ None →
      (t : Targets) (g : ℕ) (e : Emitted) → Neat e → Behind (g ∷ []) e (execute_all cx (s ∷ ss) t g e).1 (execute_all cx (s ∷ ss) t g e).0
  closed_case s ss i (Begins p) is h rest whole t g e neat =
      let both : (broken_there false i (some_marked (map sectioned ss)) (sectioned s).found (Begins p) ≡ None) × (in_block true i (map sectioned ss) ≡ None) = both_none _ _ whole in
      let follows : some_marked (map sectioned ss) ≡ true = (and_parts (is_outside i) (true && some_marked (map sectioned ss)) (holds_at (is_outside i && (true && some_marked (map sectioned ss))) p both.0)).1 in
      subst (λ (o : ℕ × Emitted). Behind (g ∷ []) e (sequence (map (execute cx) ss) t o.0 o.1).1 (sequence (map (execute cx) ss) t o.0 o.1).0) (sym (h.begins p is t g e)) (begun ss i t g e rest both.1 follows neat)
  closed_case s ss i (Ends p) is h rest whole t g e neat =
      let both : (broken_there false i (some_marked (map sectioned ss)) (sectioned s).found (Ends p) ≡ None) × (in_block false i (map sectioned ss) ≡ None) = both_none _ _ whole in
      absurd (both_ways false refl ((and_parts (is_outside i) false (holds_at (is_outside i && false) p both.0)).1))
  closed_case s ss i Neither is h rest whole t g e neat =
      let both : ((sectioned s).found i ≡ None) × (in_block false i (map sectioned ss) ≡ None) = both_none _ _ whole in
      (behind_next (g ∷ []) (execute cx s t g) (sequence (map (execute cx) ss) t) (h.plain i both.0 t g) (λ k. rest.closed i both.1 t k)).add e neat

  one_of : (k j g : ℕ) (e f : Emitted) (l : ℕ) → IsGuardOf (g ∷ []) e f j → One (k ∷ j ∷ []) l → IsGuardOf (k ∷ g ∷ []) e f l
  one_of k j g e f l out (inl same) = inl (inl same)
  one_of k j g e f l out (inr (inl same)) = subst (IsGuardOf (k ∷ g ∷ []) e f) (sym same) (out_more (k ∷ g ∷ []) (g ∷ []) e f j (λ n one. inr one) out)
  one_of k j g e f l out (inr (inr off)) = absurd off

  opened_case :
      (s : Stmt) (ss : List Stmt) (i : Inside) (q : Mark) → (sectioned s).mark ≡ q → Sound s → Sequence ss → or_else (broken_there true i (some_marked (map sectioned ss)) (sectioned s).found q) (in_block (behind_mark true q) i (map sectioned ss)) ≡ None →
      (q ≡ Neither → some_marked (map sectioned ss) ≡ true) → (t : Targets) (g k d : ℕ) (e : Emitted) → Neat e → e.depth ≡ d + 1 → (d ≡ 0 → e.opened ≡ k) →
      Behind (k ∷ g ∷ []) (record e { depth = d }) (execute_all cx (s ∷ ss) t g e).1 (execute_all cx (s ∷ ss) t g e).0
  opened_case s ss i (Begins p) is h rest whole follows t g k d e neat deep under =
      let both : (broken_there true i (some_marked (map sectioned ss)) (sectioned s).found (Begins p) ≡ None) × (in_block true i (map sectioned ss) ≡ None) = both_none _ _ whole in
      absurd (both_ways false refl ((and_parts false (some_marked (map sectioned ss)) (and_parts (is_outside i) (false && some_marked (map sectioned ss)) (holds_at (is_outside i && (false && some_marked (map sectioned ss))) p both.0)).1).0))
  opened_case s ss i (Ends p) is h rest whole follows t g k d e neat deep under =
      let both : (broken_there true i (some_marked (map sectioned ss)) (sectioned s).found (Ends p) ≡ None) × (in_block false i (map sectioned ss) ≡ None) = both_none _ _ whole in
      subst (λ (o : ℕ × Emitted). Behind (k ∷ g ∷ []) (record e { depth = d }) (sequence (map (execute cx) ss) t o.0 o.1).1 (sequence (map (execute cx) ss) t o.0 o.1).0) (sym (h.ends p is t g e)) (ended ss i t g k d e rest both.1 neat deep under)
  opened_case s ss i Neither is h rest whole follows t g k d e neat deep under =
      let both : ((sectioned s).found InSection ≡ None) × (in_block true i (map sectioned ss) ≡ None) = both_none _ _ whole in
      let f : Emitted = (execute cx s t g e).1 in
      let j : ℕ = (execute cx s t g e).0 in
      let first : Behind (g ∷ []) e f j = (h.plain InSection both.0 t g).add e neat in
      let is_deep : e.depth ≡ 0 → ⊥ = λ z. absurd (omega (arith, deep, z)) in
      let inner : Behind (k ∷ j ∷ []) (record f { depth = d }) (execute_all cx ss t j f).1 (execute_all cx ss t j f).0 =
      rest.opened i both.1 (follows refl) t j k d f first.since.neat (first.since.grown.depth ∙ deep) (λ z. first.since.grown.opened is_deep ∙ under z) in
      behind_then (k ∷ g ∷ []) (k ∷ j ∷ []) (record e { depth = d }) (record f { depth = d }) (execute_all cx ss t j f).1 j (execute_all cx ss t j f).0
      (behind_under (k ∷ g ∷ []) (g ∷ []) (record e { depth = d }) (record f { depth = d }) j neat (λ l one. inr one) (behind_lowered (g ∷ []) e f j d deep first))
      (λ l one. one_of k j g (record e { depth = d }) (record f { depth = d }) l first.out one) inner

  pub sequenced : (ss : List Stmt) → Sounds ss → Sequence ss
  sequenced [] h = record {
    closed = λ i whole t g. adds_left (g ∷ []) (pure g) (guard_is (g ∷ []) g (inl refl));
    opened = λ i whole follows t g k d e neat is under. absurd (both_ways false refl follows);
  }
  sequenced (s ∷ ss) h =
      let rest : Sequence ss = sequenced ss h.1 in
      record {
        closed = λ i whole t g. record { add = λ e neat. closed_case s ss i (sectioned s).mark refl h.0 rest whole t g e neat };
        opened = λ i whole follows t g k d e neat is under. opened_case s ss i (sectioned s).mark refl h.0 rest whole (rest_marked (sectioned s).mark (some_marked (map sectioned ss)) follows) t g k d e neat is under;
      }

  -- ---- the forms

  form_of : (found : Inside → First) (b : Body) → ((i : Inside) → found i ≡ None → (t : Targets) (g : ℕ) → AddsBehind (g ∷ []) (b t g)) → SoundForm (unmarked found) b
  form_of found b h = record {
    plain = h;
    begins = λ p is t g e. absurd (let no : Neither ≡ Begins p = is in cc);
    ends = λ p is t g e. absurd (let no : Neither ≡ Ends p = is in cc);
  }

  begin_named : (p : Place) (n : Name) (ms : List Piece) (g : ℕ) (e : Emitted) → begin_name ≡ n → (call cx p n ms (function_named cx.setting n) g e).1 ≡ (begin_section g e).1
  begin_named p n ms g e same =
      subst (λ k. (call cx p k ms (function_named cx.setting k) g e).1 ≡ (begin_section g e).1) same
      (subst (λ (o : Option ℕ). (call cx p begin_name ms o g e).1 ≡ (begin_section g e).1) (sym marks.begins) refl)

  end_named : (p : Place) (n : Name) (ms : List Piece) (g : ℕ) (e : Emitted) → end_name ≡ n → (call cx p n ms (function_named cx.setting n) g e).1 ≡ (end_section e).1
  end_named p n ms g e same =
      subst (λ k. (call cx p k ms (function_named cx.setting k) g e).1 ≡ (end_section e).1) same
      (subst (λ (o : Option ℕ). (call cx p end_name ms o g e).1 ≡ (end_section e).1) (sym marks.ends) refl)

  begin_at : (z : Expr-F Expr) (q : Place) (g : ℕ) (e : Emitted) → mark_in z ≡ Begins q → ((expr_step cx (map-Expr Expr Piece (piece cx) z)).run g e).1 ≡ (begin_section g e).1
  begin_at (Expr-F.Call p n ys) q g e h = begin_named p n (map (piece cx) ys) g e (begin_call p q n h)
  begin_at _ q g e h = absurd (let no : Neither ≡ Begins q = h in cc)

  end_at : (z : Expr-F Expr) (q : Place) (g : ℕ) (e : Emitted) → mark_in z ≡ Ends q → ((expr_step cx (map-Expr Expr Piece (piece cx) z)).run g e).1 ≡ (end_section e).1
  end_at (Expr-F.Call p n ys) q g e h = end_named p n (map (piece cx) ys) g e (end_call p q n h)
  end_at _ q g e h = absurd (let no : Neither ≡ Ends q = h in cc)

  eval_out : (x : Expr) (g : ℕ) (e : Emitted) → eval cx x g e ≡ (expr_step cx (map-Expr Expr Piece (piece cx) (out-Expr x))).run g e
  eval_out x g e = ap (λ y. (piece cx y).run g e) (sym (roll-out-Expr x)) ∙ ap (λ (m : Piece). m.run g e) (fold-roll-Expr Piece (expr_step cx) (out-Expr x))

  expr_form : (p : Place) (x : Expr) → SoundForm (section_step (Stmt-F.Expr p x)) (stmt_step cx (Stmt-F.Expr p x))
  expr_form p x = record {
    plain = λ i whole t g. adds_left (g ∷ []) (eval cx x g >> pure g) (before_guard (g ∷ []) (eval cx x g) (λ _. pure g) (adds_eval cx calls x g whole) (λ _. guard_is (g ∷ []) g (inl refl)));
    begins = λ q is t g e. ap (λ f. (g, f)) (ap (λ (o : ℕ × Emitted). o.1) (eval_out x g e) ∙ begin_at (out-Expr x) q g e is);
    ends = λ q is t g e. ap (λ f. (g, f)) (ap (λ (o : ℕ × Emitted). o.1) (eval_out x g e) ∙ end_at (out-Expr x) q g e is);
  }

  abbrev Part : Type 0
  Part = (s : Stmt) × Sound s

  abbrev stmts : List Part → List Stmt
  stmts ys = map (λ (y : Part). y.0) ys

  parts_sound : (ys : List Part) → Sounds (stmts ys)
  parts_sound [] = tt
  parts_sound (y ∷ ys) = (y.1, parts_sound ys)

  layer : (y : Stmt-F Part) → SoundForm (section_step (map-Stmt Stmt Sectioned sectioned (map-Stmt Part Stmt (λ e. e.0) y))) (stmt_step cx (map-Stmt Stmt Body (execute cx) (map-Stmt Part Stmt (λ e. e.0) y)))
  layer (Stmt-F.Empty p) = form_of _ _ (λ i h t g. adds_left (g ∷ []) (pure g) (guard_is (g ∷ []) g (inl refl)))
  layer (Stmt-F.Expr p x) = expr_form p x
  layer (Stmt-F.Declare d) = form_of _ _ (λ i h t g. scope_guard (g ∷ []) (declare_all cx d.word g d.declarators) g (inl refl) (adds_declare cx calls d.word g d.declarators h))
  layer (Stmt-F.Block p ys) = form_of _ _ (λ i h t g. adds_left (g ∷ []) _ (scoped_left (g ∷ []) (execute_all cx (stmts ys) t g) ((sequenced (stmts ys) (parts_sound ys)).closed i h t g)))
  layer (Stmt-F.Label p n y) = form_of _ _ (λ i h t g. adds_left (g ∷ []) _ ((sound_inside y.0 i y.1 h).add t g))
  layer (Stmt-F.If p x y None) = form_of _ _ (λ i h t g.
      let first : (first_mark x ≡ None) × (or_else ((sectioned y.0).found i) None ≡ None) = both_none (first_mark x) _ h in
      let both : ((sectioned y.0).found i ≡ None) × (◌≡◌ {A = First} None None) = both_none ((sectioned y.0).found i) None first.1 in
      adds_left (g ∷ []) _ (before_guard (g ∷ []) (eval cx x g) (either (execute cx y.0) None t g) (adds_eval cx calls x g first.0) (λ v. adds_either (execute cx y.0) None (sound_inside y.0 i y.1 both.0) (λ u k. guard_is (k ∷ []) k (inl refl)) t g v)))
  layer (Stmt-F.If p x y (Some z)) = form_of _ _ (λ i h t g.
      let first : (first_mark x ≡ None) × (or_else ((sectioned y.0).found i) ((sectioned z.0).found i) ≡ None) = both_none (first_mark x) _ h in
      let both : ((sectioned y.0).found i ≡ None) × ((sectioned z.0).found i ≡ None) = both_none ((sectioned y.0).found i) ((sectioned z.0).found i) first.1 in
      adds_left (g ∷ []) _ (before_guard (g ∷ []) (eval cx x g) (either (execute cx y.0) (Some (execute cx z.0)) t g) (adds_eval cx calls x g first.0) (λ v.
      adds_either (execute cx y.0) (Some (execute cx z.0)) (sound_inside y.0 i y.1 both.0) (λ u k. (sound_inside z.0 i z.1 both.1).add u k) t g v)))
  layer (Stmt-F.While p x y) = form_of _ _ (λ i h t g.
      let both : (first_mark x ≡ None) × ((sectioned y.0).found (in_a_loop i) ≡ None) = both_none (first_mark x) _ h in
      adds_left (g ∷ []) _ (adds_loop cx calls p (Some x) None (execute cx y.0) t g both.0 refl (sound_inside y.0 (in_a_loop i) y.1 both.1)))
  layer (Stmt-F.DoWhile p y x) = form_of _ _ (λ i h t g.
      let both : ((sectioned y.0).found (in_a_loop i) ≡ None) × (first_mark x ≡ None) = both_none _ (first_mark x) h in
      adds_left (g ∷ []) _ (adds_do_loop cx calls p (execute cx y.0) x t g both.1 (sound_inside y.0 (in_a_loop i) y.1 both.0)))
  layer (Stmt-F.For p first x e y) = form_of _ _ (λ i h t g.
      let a : (mark_in_for first ≡ None) × (or_else (mark_in_option x) (or_else (mark_in_option e) ((sectioned y.0).found (in_a_loop i))) ≡ None) = both_none (mark_in_for first) _ h in
      let b : (mark_in_option x ≡ None) × (or_else (mark_in_option e) ((sectioned y.0).found (in_a_loop i)) ≡ None) = both_none (mark_in_option x) _ a.1 in
      let c : (mark_in_option e ≡ None) × ((sectioned y.0).found (in_a_loop i) ≡ None) = both_none (mark_in_option e) _ b.1 in
      adds_left (g ∷ []) _ (scoped_left (g ∷ []) (begin_for cx first g >> loop cx p x e (execute cx y.0) t g)
      (scope_behind (g ∷ []) (begin_for cx first g) (loop cx p x e (execute cx y.0) t g) (adds_begin_for cx calls first g a.0) (adds_left (g ∷ []) _ (adds_loop cx calls p x e (execute cx y.0) t g b.0 c.0 (sound_inside y.0 (in_a_loop i) y.1 c.1))))))
  layer (Stmt-F.Return p x) = form_of _ _ (λ i h t g.
      let both : (unless_first (is_outside i) p ≡ None) × (mark_in_option x ≡ None) = both_none _ (mark_in_option x) h in
      adds_left (g ∷ []) _ (before_guard (g ∷ []) (eval_if cx none x g) (give t g) (adds_eval_if cx calls none x g both.1) (λ v. before_guard (g ∷ []) (copy_to g t.result v) (λ _. pure none) (adds_copy (g ∷ []) g t.result v (inl refl)) (λ _. guard_none (g ∷ [])))))
  layer (Stmt-F.Break p) = form_of _ _ (λ i h t g. adds_left (g ∷ []) _ (before_guard (g ∷ []) (mark g t.done) (λ _. pure none) (adds_mark (g ∷ []) g t.done (inl refl)) (λ _. guard_none (g ∷ []))))
  layer (Stmt-F.Continue p) = form_of _ _ (λ i h t g. adds_left (g ∷ []) _ (before_guard (g ∷ []) (mark g t.again) (λ _. pure none) (adds_mark (g ∷ []) g t.again (inl refl)) (λ _. guard_none (g ∷ []))))

  -- every statement
  pub sound : (s : Stmt) → Sound s
  sound =
      ind-Stmt Sound (λ z y is.
      subst (λ (w : Stmt-F Stmt). Sound (roll-Stmt w)) is
      (subst (λ x. SoundForm x (execute cx (roll-Stmt (map-Stmt Part Stmt (λ e. e.0) y)))) (sym (fold-roll-Stmt Sectioned section_step (map-Stmt Part Stmt (λ e. e.0) y)))
      (subst (SoundForm (section_step (map-Stmt Stmt Sectioned sectioned (map-Stmt Part Stmt (λ e. e.0) y)))) (sym (fold-roll-Stmt Body (stmt_step cx) (map-Stmt Part Stmt (λ e. e.0) y))) (layer y))))

  pub all_sound : (ss : List Stmt) → Sounds ss
  all_sound [] = tt
  all_sound (s ∷ ss) = (sound s, all_sound ss)

  -- ---- bodies

  behind_scope : {m : Emit ℕ} (gs : List ℕ) → AddsBehind gs m → AddsScope gs m
  behind_scope {m = m} gs h = record { add = λ e neat. behind_out gs e (m e).1 (m e).0 none (h.add e neat) (inr (inl refl)) }

  adds_statements : (ss : List Stmt) (g : ℕ) → in_block false Outside (map sectioned ss) ≡ None → AddsScope (g ∷ []) (statements cx ss g)
  adds_statements ss g whole =
      scope_then (g ∷ []) fresh _ (scope_adds (g ∷ []) fresh (adds_fresh (g ∷ []) 1)) (λ result.
      scope_then (g ∷ []) fresh _ (scope_adds (g ∷ []) fresh (adds_fresh (g ∷ []) 1)) (λ done.
      scope_then (g ∷ []) fresh _ (scope_adds (g ∷ []) fresh (adds_fresh (g ∷ []) 1)) (λ again.
      scope_then (g ∷ []) (execute_all cx ss (targets done again result) g) _ (behind_scope (g ∷ []) ((sequenced ss (all_sound ss)).closed Outside whole (targets done again result) g)) (λ _.
      scope_adds (g ∷ []) (pure result) (adds_pure (g ∷ []) result)))))

  adds_apart : (gs : List ℕ) (m : Emit ℕ) → AddsScope gs m → Adds gs (apart m)
  adds_apart gs m h = record {
    add = λ e neat.
        let inner : Emitted = record e { scope = [] } in
        since_scoped gs inner (record (m inner).1 { scope = [] }) e.scope (h.add inner neat).since;
  }

  pub adds_body : (f : Function) (args : List ℕ) (g : ℕ) → unmatched_in_function f ≡ None → Adds (g ∷ []) (run_body cx f args g)
  adds_body f args g whole =
      adds_apart (g ∷ []) (parameters g 0 f.params args >> statements cx f.body g) (scope_then (g ∷ []) (parameters g 0 f.params args) (λ _. statements cx f.body g) (adds_parameters g 0 f.params args) (λ _. adds_statements f.body g whole))

-- ---- calls

-- a section around what keeps the depth
pub adds_in_section : (g : ℕ) (m : Emit ℕ) → Adds (g ∷ []) m → Adds (g ∷ []) (in_section g m)
adds_in_section g m h = record {
  add = λ e neat.
      let gs : List ℕ = g ∷ [] in
      let o : Opened gs g e (open_section g e).1 = opens_section gs g e (inl refl) neat in
      let f0 : Emitted = (open_section g e).1 in
      let f1 : Emitted = (begin_section g e).1 in
      let f2 : Emitted = (m f1).1 in
      let s2 : Since gs f1 f2 = h.add f1 o.since.neat in
      let low : Emitted = record f2 { depth = f2.depth - 1 } in
      let same : f2.depth - 1 ≡ f0.depth = omega (arith, s2.grown.depth) in
      let inner : Since gs f0 low = subst (λ n. Since gs f0 (record f2 { depth = n })) (sym same) (lowered gs f1 f2 f0.depth refl s2) in
      let deep : f1.depth ≡ 0 → ⊥ = λ z. absurd (omega (arith, z)) in
      since_more gs e f0 (close_section low).1 o.since (since_more gs f0 low (close_section low).1 inner
      (closes_section gs low s2.neat (λ z. inl (s2.grown.opened deep ∙ o.kept (sym o.since.grown.depth ∙ (sym same ∙ z))))));
}

pub each_at : {X : Type 0} (P : X → Type 0) (xs : List X) (i : ℕ) (x : X) → Each P xs → slice_get xs i ≡ Some x → P x
each_at P [] i x h e = absurd (let no : ◌≡◌ {A = Option _} None (Some x) = e in cc)
each_at P (y ∷ xs) zero x h e = let same : y ≡ x = (let is : ◌≡◌ {A = Option _} (Some y) (Some x) = e in cc) in subst P same h.0
each_at P (y ∷ xs) (suc i) x h e = each_at P xs i x h.1 e

module _ (s : Setting) (marks : NoMarks s) (whole : Each (λ f. unmatched_in_function f ≡ None) s.functions) where
  found_adds : (n : ℕ) (args : List ℕ) (g i : ℕ) (o : Option Function) → slice_get s.functions i ≡ o → AddsCalls (context_within n s) → Adds (g ∷ []) (with_function o g (λ h. call_body h g (run_body (context_within n s) h args g)))
  found_adds n args g i None is calls = adds_then (g ∷ []) (stop g) (λ _. pure none) (adds_stop (g ∷ []) g (inl refl)) (λ _. adds_pure (g ∷ []) none)
  found_adds n args g i (Some f) is calls =
      let body : Adds (g ∷ []) (run_body (context_within n s) f args g) = adds_body (context_within n s) calls marks f args g (each_at (λ f. unmatched_in_function f ≡ None) s.functions i f whole is) in
      adds_cond (g ∷ []) (is_atomic f) (in_section g (run_body (context_within n s) f args g)) (run_body (context_within n s) f args g) (adds_in_section g (run_body (context_within n s) f args g) body) body

  -- calls of functions add steps under their guards
  pub adds_calls : (n : ℕ) → AddsCalls (context_within n s)
  adds_calls zero f args g = adds_then (g ∷ []) (stop g) (λ _. pure none) (adds_stop (g ∷ []) g (inl refl)) (λ _. adds_pure (g ∷ []) none)
  adds_calls (suc n) f args g = found_adds n args g f (slice_get s.functions f) refl (adds_calls n)
