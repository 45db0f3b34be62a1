-- What is emitted for statements whose sections stand as they should is laid.
use Rattle.std.proofs.Common.{◌≡◌, ℕ, zero, suc, ◌+◌, ◌-◌, ◌<◌, ◌≤◌, inl, List, [], ◌∷◌, map, true, false, Option, Some, None, refl, sym, ap, ◌∙◌, subst, arith}
use Rattle.std.proofs.lemmas.Bool.{and_parts, both_ways}
use Rattle.std.specs.Prelude.{slice_get, ◌&&◌, ◌||◌}
use Rattle.c_tree.specs.declared.expr.Expr.{Expr}
use Rattle.c_tree.specs.declared.stmt.Stmt.{Stmt, fold-roll-Stmt, ind-Stmt, map-Stmt}
use Rattle.c_tree.specs.declared.stmt.Stmt.TheOpen.{Stmt-F}
use Rattle.c_tree.specs.declared.stmt.Stmt.TheViews.{roll-Stmt}
use Rattle.c_tree.specs.declared.program.Function.{Function}
use Rattle.c_rules.specs.Names.{or_else}
use Rattle.c_rules.specs.Scopes.{First, unless as unless_first}
use Rattle.c_check.specs.declared.sections.Inside.{Inside}
use Rattle.c_check.specs.declared.sections.Inside.TheVariants.{Outside, InSection}
use Rattle.c_check.specs.declared.sections.Mark.{Mark}
use Rattle.c_check.specs.declared.sections.Mark.TheVariants.{Begins, Ends, Neither}
use Rattle.c_check.specs.Sections.{is_outside, behind_mark, first_mark, mark_in_option, mark_in_for, Sectioned, some_marked, unmarked, broken_there, in_block, in_a_loop, section_step, sectioned, unmatched_in_function}
use Rattle.run_model.specs.Calls.{Setting}
use Rattle.run_model.specs.Threads.{is_atomic}
use Rattle.flat_prog.specs.declared.FlatAct.TheVariants as act
use Rattle.emit_steps.specs.Emitting.{Emitted, Emit, ◌>>=◌, ◌>>◌, pure, none, fresh, emit, when, unless, join_guards, stop, apart, ask, open_there, open_section, begin_section, close_section, end_section, copy_to, mark}
use Rattle.emit_steps.specs.Pieces.{Context, eval}
use Rattle.emit_steps.specs.Calling.{parameters, in_section, call_body, with_function}
use Rattle.emit_steps.proofs.Growth.{Each}
use Rattle.emit_steps.proofs.Marks.{both_none, holds_at, rest_marked}
use Rattle.emit_steps.proofs.AddingExprs.{AddsCalls}
use Rattle.emit_steps.proofs.Laying.{Stretch, Site, Out, In}
use Rattle.emit_steps.proofs.Shaping.{Spare, Laid, Since, Does, bind, bind_at, since_then, does_pure, does_cond, Any, Low, Fresh, Guard, low_later, spare_later, guard_later, fresh_guard, fresh_spare, none_guard, does_fresh, does_copy, does_mark, does_when, does_unless, does_join, does_stop, does_ask}
use Rattle.emit_steps.proofs.ShapingForms.{Deep, SharedFit, deep_later}
use Rattle.emit_steps.proofs.ShapingCalls.{does_outside, does_not_outside, push, push_guard, since_pop, guard_open, does_open, does_close}
use Rattle.emit_steps.proofs.ShapingPieces.{EachLow, ShapedCalls}
use Rattle.loop_unroll.specs.declared.targets.Targets.{Targets}
use Rattle.loop_unroll.specs.Stating.{Body, sequence, inside, if_any, either, give, loop, eval_if, declare_all, begin_for, targets, stmt_step, execute, execute_all, statements, run_body, context_within}
use Rattle.loop_unroll.proofs.AddingFunctions.{NoMarks, Sound, sound}
use Rattle.loop_unroll.proofs.ShapingLoops.{TargetsFit, NoTarget, targets_later, fresh_no_target, none_no_target, Next, fresh_next, does_scoped, does_apart, laid_apart, guard_apart, ShapedBody, shaped_inside, does_eval, does_eval_if, shaped_loop, shaped_do_loop, does_declare, does_begin_for, does_parameters}

-- the site behind a begin that stands under the guard o, where so many locals are used
abbrev pub inner : Site → ℕ → ℕ → Site
inner (Out rs) o k = In o k ((o, k) ∷ rs)
inner (In g j rs) o k = In g j rs

module _ (cells first : ℕ) where
  -- ---- depths

  laid_depth : (s : Site) (f : Emitted) (d : ℕ) → Laid cells first s f → Laid cells first s (record f { depth = d })
  laid_depth s f d h = record { base = h.base; neat = h.neat; above = h.above; steps = h.steps; scope = h.scope; site = h.site }

  guard_depth : (s : Site) (f : Emitted) (d g : ℕ) → Guard cells first s g f → Guard cells first s g (record f { depth = d })
  guard_depth s f d g x = record { used = x.used; at = x.at; other = x.other; apart = x.apart }

  -- seen from another depth
  since_lowered : (s : Site) (e f : Emitted) (d : ℕ) → Since cells first s e f → Since cells first s (record e { depth = d }) (record f { depth = d })
  since_lowered s e f d h = record {
    next = h.next;
    numbers = h.numbers;
    numbers_behind = h.numbers_behind;
    numbers_above = h.numbers_above;
    vars = h.vars;
    scope = h.scope;
    cells_new = h.cells_new;
    depth = refl;
    laid = laid_depth s f d h.laid;
  }

  -- the depth that was
  since_same : (s : Site) (e f : Emitted) → Since cells first s e f → Since cells first s e (record f { depth = e.depth })
  since_same s e f h = record {
    next = h.next;
    numbers = h.numbers;
    numbers_behind = h.numbers_behind;
    numbers_above = h.numbers_above;
    vars = h.vars;
    scope = h.scope;
    cells_new = h.cells_new;
    depth = refl;
    laid = laid_depth s f e.depth h.laid;
  }

  -- ---- a begin

  begun_open : (rs : List Stretch) (e : Emitted) (g : ℕ) → Laid cells first (Out rs) e → e.depth ≡ 0 → Guard cells first (Out rs) g e → Since cells first (In g e.next ((g, e.next) ∷ rs)) e (open_section g e).1
  begun_open rs e g h deep guard =
      let k : ℕ = e.next in
      let qs : List Stretch = (g, k) ∷ rs in
      let g1 : Guard cells first (Out qs) g e = push_guard cells first rs e g k guard in
      let opened : Does cells first (In g k qs) e (ask g >> open_there g) (Any cells first) =
      bind_at cells first (Out qs) (In g k qs) e (ask g) (λ _. open_there g) (does_ask cells first (Out qs) e g (push cells first rs e g h guard) g1) (λ _ f since _.
      does_open cells first qs f g k since.laid (guard_later cells first (Out qs) (Out qs) e f g since g1) (inl (refl, refl)))
      in (does_outside cells first (In g k qs) e (ask g >> open_there g) deep opened).since

  begun : (s : Site) (e : Emitted) (g : ℕ) → Laid cells first s e → Deep s e.depth → Guard cells first s g e → Since cells first (inner s g e.next) e (open_section g e).1
  begun (Out rs) e g h deep guard = begun_open rs e g h deep guard
  begun (In o k rs) e g h deep guard = (does_not_outside cells first (In o k rs) e (ask g >> open_there g) deep h).since

  guard_inner : (s : Site) (e : Emitted) (g k : ℕ) → Guard cells first s g e → Guard cells first (inner s g k) g e
  guard_inner (Out rs) e g k x = guard_open cells first ((g, k) ∷ rs) g k g e (push_guard cells first rs e g k x)
  guard_inner (In o j rs) e g k x = x

  guard_outer : (s : Site) (e : Emitted) (o k h : ℕ) → Guard cells first (inner s o k) h e → Guard cells first s h e
  guard_outer (Out rs) e o k h x = record { used = x.used; at = x.at.1; other = x.other; apart = x.apart }
  guard_outer (In g j rs) e o k h x = x

  spare_inner : (s : Site) (n g k l : ℕ) → (l ≡ g → ⊥) → Spare s n l → Spare (inner s g k) n l
  spare_inner (Out rs) n g k l other x = record { high = x.high; used = x.used; apart = (other, x.apart) }
  spare_inner (In o j rs) n g k l other x = x

  spare_outer : (s : Site) (n g k l : ℕ) → Spare (inner s g k) n l → Spare s n l
  spare_outer (Out rs) n g k l x = record { high = x.high; used = x.used; apart = x.apart.1 }
  spare_outer (In o j rs) n g k l x = x

  targets_inner : (s : Site) (n g k : ℕ) (t : Targets) → NoTarget t g → TargetsFit s n t → TargetsFit (inner s g k) n t
  targets_inner s n g k t other x = record {
    done = spare_inner s n g k t.done (λ same. other.done (sym same)) x.done;
    again = spare_inner s n g k t.again (λ same. other.again (sym same)) x.again;
    result = spare_inner s n g k t.result (λ same. other.result (sym same)) x.result;
  }

  targets_outer : (s : Site) (n g k : ℕ) (t : Targets) → TargetsFit (inner s g k) n t → TargetsFit s n t
  targets_outer s n g k t x = record { done = spare_outer s n g k t.done x.done; again = spare_outer s n g k t.again x.again; result = spare_outer s n g k t.result x.result }

  deep_inner : (s : Site) (o k d : ℕ) → (d ≡ 0 → ⊥) → Deep (inner s o k) d
  deep_inner (Out rs) o k d deep = deep
  deep_inner (In g j rs) o k d deep = deep

  -- ---- an end

  closed : (s : Site) (e : Emitted) (o k : ℕ) → Laid cells first (inner s o k) e → Deep s e.depth → Guard cells first (inner s o k) o e → Since cells first s e (close_section e).1
  closed (Out rs) e o k h deep guard =
      let qs : List Stretch = (o, k) ∷ rs in
      since_pop cells first (o, k) rs e (close_section e).1 (does_outside cells first (Out qs) e (λ x. emit x.opened act.Close x) deep (does_close cells first qs e o k h guard)).since
  closed (In g j rs) e o k h deep guard = (does_not_outside cells first (In g j rs) e (λ x. emit x.opened act.Close x) deep h).since

  -- the section closes, seen from the depth outside of it
  pub ended : (s : Site) (e : Emitted) (o k d : ℕ) → e.depth ≡ d + 1 → Deep s d → Laid cells first (inner s o k) e → Guard cells first (inner s o k) o e → Since cells first s (record e { depth = d }) (end_section e).1
  ended s e o k d is deep h guard =
      let same : d ≡ e.depth - 1 = omega (arith, is) in
      subst (λ n. Since cells first s (record e { depth = d }) (close_section (record e { depth = n })).1) same
      (closed s (record e { depth = d }) o k (laid_depth (inner s o k) e d h) deep (guard_depth (inner s o k) e d o guard))

  -- ---- calls that are sections

  pub does_in_section :
      (s : Site) (e : Emitted) (g : ℕ) (m : Emit ℕ) → Laid cells first s e → Deep s e.depth → Guard cells first s g e →
      ((r : Site) (f : Emitted) → Laid cells first r f → Deep r f.depth → Guard cells first r g f → f.next ≡ f.next → e.next ≤ f.next → Does cells first r f m (Low cells first)) → Does cells first s e (in_section g m) (Low cells first)
  does_in_section s e g m h deep guard hm =
      let k : ℕ = e.next in
      let r : Site = inner s g k in
      let f0 : Emitted = (open_section g e).1 in
      let s0 : Since cells first r e f0 = begun s e g h deep guard in
      let f1 : Emitted = record f0 { depth = f0.depth + 1 } in
      let g0 : Guard cells first r g f0 = guard_later cells first r r e f0 g s0 (guard_inner s e g k guard) in
      let g1 : Guard cells first r g f1 = guard_depth r f0 (f0.depth + 1) g g0 in
      let d : Does cells first r f1 m (Low cells first) = hm r f1 (laid_depth r f0 (f0.depth + 1) s0.laid) (deep_inner s g k f1.depth (λ z. absurd (omega (arith, z)))) g1 refl s0.next in
      let f2 : Emitted = (m f1).1 in
      let low : Since cells first r (record f0 { depth = e.depth }) (record f2 { depth = e.depth }) = since_lowered r f1 f2 e.depth d.since in
      let to : Since cells first r e (record f2 { depth = e.depth }) = since_then cells first r r e (record f0 { depth = e.depth }) (record f2 { depth = e.depth }) (since_same r e f0 s0) low in
      let is : f2.depth ≡ e.depth + 1 = d.since.depth ∙ ap (λ x. x + 1) s0.depth in
      let close : Since cells first s (record f2 { depth = e.depth }) (end_section f2).1 = ended s f2 g k e.depth is deep d.since.laid (guard_later cells first r r f1 f2 g d.since g1) in
      let whole : Since cells first s e (end_section f2).1 = since_then cells first r s e (record f2 { depth = e.depth }) (end_section f2).1 to close in
      record { since = whole; gives = low_later cells first s (record f2 { depth = e.depth }) (end_section f2).1 (m f1).0 close d.gives }

  module _ (cx : Context) (adds : AddsCalls cx) (calls : ShapedCalls cells first cx) (fit : SharedFit cells cx.setting.shared) (marks : NoMarks cx.setting) where
    -- a statement in which nothing is broken
    pub record ShapedForm (x : Sectioned) (b : Body) : Type 0 where
      pub plain : (i : Inside) → x.found i ≡ None → ShapedBody cells first b

    abbrev pub ShapedStmt : Stmt → Type 0
    ShapedStmt s = ShapedForm (sectioned s) (execute cx s)

    abbrev ShapedAll : List Stmt → Type 0
    ShapedAll ss = Each ShapedStmt ss

    -- ---- sequences

    record Sequence (ss : List Stmt) : Type 0 where
      closed_there : (i : Inside) → in_block false i (map sectioned ss) ≡ None → ShapedBody cells first (execute_all cx ss)
      opened_there :
          (i : Inside) → in_block true i (map sectioned ss) ≡ None → some_marked (map sectioned ss) ≡ true → (s : Site) (t : Targets) (g o k d : ℕ) (e : Emitted) → e.depth ≡ d + 1 → Deep s d →
          Laid cells first (inner s o k) e → Guard cells first (inner s o k) g e → Guard cells first (inner s o k) o e → TargetsFit (inner s o k) e.next t → NoTarget t g →
          Since cells first s (record e { depth = d }) (execute_all cx ss t g e).1 × Next cells first s t (execute_all cx ss t g e).0 (execute_all cx ss t g e).1

    after_begin :
        (ss : List Stmt) (i : Inside) (s : Site) (e : Emitted) (t : Targets) (g : ℕ) → Sequence ss → in_block true i (map sectioned ss) ≡ None → some_marked (map sectioned ss) ≡ true → Laid cells first s e → Deep s e.depth → Guard cells first s g e → TargetsFit s e.next t → NoTarget t g →
        Since cells first s e (execute_all cx ss t g (begin_section g e).1).1 × Next cells first s t (execute_all cx ss t g (begin_section g e).1).0 (execute_all cx ss t g (begin_section g e).1).1
    after_begin ss i s e t g rest whole follows h deep guard tf apart =
        let k : ℕ = e.next in
        let r : Site = inner s g k in
        let f0 : Emitted = (open_section g e).1 in
        let s0 : Since cells first r e f0 = begun s e g h deep guard in
        let f1 : Emitted = record f0 { depth = f0.depth + 1 } in
        let g1 : Guard cells first r g f1 = guard_depth r f0 (f0.depth + 1) g (guard_later cells first r r e f0 g s0 (guard_inner s e g k guard)) in
        let t1 : TargetsFit r f1.next t = targets_later cells first r r e f0 t s0 (targets_inner s e.next g k t apart tf) in
        let is : f1.depth ≡ e.depth + 1 = ap (λ x. x + 1) s0.depth in
        let it : Since cells first s (record f1 { depth = e.depth }) (execute_all cx ss t g f1).1 × Next cells first s t (execute_all cx ss t g f1).0 (execute_all cx ss t g f1).1 =
        rest.opened_there i whole follows s t g g k e.depth f1 is deep (laid_depth r f0 (f0.depth + 1) s0.laid) g1 g1 t1 apart in
        (since_then cells first r s e (record f0 { depth = e.depth }) (execute_all cx ss t g f1).1 (since_same r e f0 s0) it.0, it.1)

    after_end :
        (ss : List Stmt) (i : Inside) (s : Site) (t : Targets) (g o k d : ℕ) (e : Emitted) → Sequence ss → in_block false i (map sectioned ss) ≡ None → e.depth ≡ d + 1 → Deep s d → Laid cells first (inner s o k) e → Guard cells first (inner s o k) g e → Guard cells first (inner s o k) o e →
        TargetsFit (inner s o k) e.next t → NoTarget t g →
        Since cells first s (record e { depth = d }) (execute_all cx ss t g (end_section e).1).1 × Next cells first s t (execute_all cx ss t g (end_section e).1).0 (execute_all cx ss t g (end_section e).1).1
    after_end ss i s t g o k d e rest whole is deep h guard own tf apart =
        let low : Emitted = record e { depth = d } in
        let f : Emitted = (end_section e).1 in
        let close : Since cells first s low f = ended s e o k d is deep h own in
        let g1 : Guard cells first s g f = guard_later cells first s s low f g close (guard_depth s e d g (guard_outer s e o k g guard)) in
        let d1 : Does cells first s f (execute_all cx ss t g) (Next cells first s t) =
        (rest.closed_there i whole).run s f t g close.laid (deep_later cells first s s low f close deep) g1 (targets_later cells first s s low f t close (targets_outer s e.next o k t tf)) apart in
        (since_then cells first s s low f (execute_all cx ss t g f).1 close d1.since, d1.gives)

    closed_case :
        (x : Stmt) (ss : List Stmt) (i : Inside) (k : Mark) → (sectioned x).mark ≡ k → Sound cx adds marks x → ShapedStmt x → Sequence ss → or_else (broken_there false i (some_marked (map sectioned ss)) (sectioned x).found k) (in_block (behind_mark false k) i (map sectioned ss)) ≡ None →
        (s : Site) (e : Emitted) (t : Targets) (g : ℕ) → Laid cells first s e → Deep s e.depth → Guard cells first s g e → TargetsFit s e.next t → NoTarget t g →
        Does cells first s e (execute_all cx (x ∷ ss) t g) (Next cells first s t)
    closed_case x ss i (Begins p) is sounds shaped rest whole s e t g h deep guard tf apart =
        let both : (broken_there false i (some_marked (map sectioned ss)) (sectioned x).found (Begins p) ≡ None) × (in_block true i (map sectioned ss) ≡ None) = both_none _ _ whole in
        let follows : some_marked (map sectioned ss) ≡ true = (and_parts (is_outside i) (true && some_marked (map sectioned ss)) (holds_at (is_outside i && (true && some_marked (map sectioned ss))) p both.0)).1 in
        let it : Since cells first s e (execute_all cx ss t g (begin_section g e).1).1 × Next cells first s t (execute_all cx ss t g (begin_section g e).1).0 (execute_all cx ss t g (begin_section g e).1).1 = after_begin ss i s e t g rest both.1 follows h deep guard tf apart in
        let there : execute cx x t g e ≡ (g, (begin_section g e).1) = sounds.begins p is t g e in
        record {
          since = subst (λ (o : ℕ × Emitted). Since cells first s e (sequence (map (execute cx) ss) t o.0 o.1).1) (sym there) it.0;
          gives = subst (λ (o : ℕ × Emitted). Next cells first s t (sequence (map (execute cx) ss) t o.0 o.1).0 (sequence (map (execute cx) ss) t o.0 o.1).1) (sym there) it.1;
        }
    closed_case x ss i (Ends p) is sounds shaped rest whole s e t g h deep guard tf apart =
        let both : (broken_there false i (some_marked (map sectioned ss)) (sectioned x).found (Ends p) ≡ None) × (in_block false i (map sectioned ss) ≡ None) = both_none _ _ whole in
        absurd (both_ways false refl ((and_parts (is_outside i) false (holds_at (is_outside i && false) p both.0)).1))
    closed_case x ss i Neither is sounds shaped rest whole s e t g h deep guard tf apart =
        let both : ((sectioned x).found i ≡ None) × (in_block false i (map sectioned ss) ≡ None) = both_none _ _ whole in
        bind cells first s e (execute cx x t g) (sequence (map (execute cx) ss) t) ((shaped.plain i both.0).run s e t g h deep guard tf apart) (λ j f since next.
        (rest.closed_there i both.1).run s f t j since.laid (deep_later cells first s s e f since deep) next.guard (targets_later cells first s s e f t since tf) next.apart)

    opened_case :
        (x : Stmt) (ss : List Stmt) (i : Inside) (q : Mark) → (sectioned x).mark ≡ q → Sound cx adds marks x → ShapedStmt x → Sequence ss → or_else (broken_there true i (some_marked (map sectioned ss)) (sectioned x).found q) (in_block (behind_mark true q) i (map sectioned ss)) ≡ None →
        (q ≡ Neither → some_marked (map sectioned ss) ≡ true) → (s : Site) (t : Targets) (g o k d : ℕ) (e : Emitted) → e.depth ≡ d + 1 → Deep s d → Laid cells first (inner s o k) e → Guard cells first (inner s o k) g e → Guard cells first (inner s o k) o e →
        TargetsFit (inner s o k) e.next t → NoTarget t g →
        Since cells first s (record e { depth = d }) (execute_all cx (x ∷ ss) t g e).1 × Next cells first s t (execute_all cx (x ∷ ss) t g e).0 (execute_all cx (x ∷ ss) t g e).1
    opened_case x ss i (Begins p) is sounds shaped rest whole follows s t g o k d e deep_is deep h guard own tf apart =
        let both : (broken_there true i (some_marked (map sectioned ss)) (sectioned x).found (Begins p) ≡ None) × (in_block true i (map sectioned ss) ≡ None) = both_none _ _ whole in
        absurd (both_ways false refl ((and_parts false (some_marked (map sectioned ss)) (and_parts (is_outside i) (false && some_marked (map sectioned ss)) (holds_at (is_outside i && (false && some_marked (map sectioned ss))) p both.0)).1).0))
    opened_case x ss i (Ends p) is sounds shaped rest whole follows s t g o k d e deep_is deep h guard own tf apart =
        let both : (broken_there true i (some_marked (map sectioned ss)) (sectioned x).found (Ends p) ≡ None) × (in_block false i (map sectioned ss) ≡ None) = both_none _ _ whole in
        subst (λ (w : ℕ × Emitted). Since cells first s (record e { depth = d }) (sequence (map (execute cx) ss) t w.0 w.1).1 × Next cells first s t (sequence (map (execute cx) ss) t w.0 w.1).0 (sequence (map (execute cx) ss) t w.0 w.1).1) (sym (sounds.ends p is t g e))
        (after_end ss i s t g o k d e rest both.1 deep_is deep h guard own tf apart)
    opened_case x ss i Neither is sounds shaped rest whole follows s t g o k d e deep_is deep h guard own tf apart =
        let both : ((sectioned x).found InSection ≡ None) × (in_block true i (map sectioned ss) ≡ None) = both_none _ _ whole in
        let r : Site = inner s o k in
        let f : Emitted = (execute cx x t g e).1 in
        let j : ℕ = (execute cx x t g e).0 in
        let m : Does cells first r e (execute cx x t g) (Next cells first r t) =
        (shaped.plain InSection both.0).run r e t g h (deep_inner s o k e.depth (λ z. absurd (omega (arith, deep_is, z)))) guard tf apart in
        let it : Since cells first s (record f { depth = d }) (execute_all cx ss t j f).1 × Next cells first s t (execute_all cx ss t j f).0 (execute_all cx ss t j f).1 =
        rest.opened_there i both.1 (follows refl) s t j o k d f (m.since.depth ∙ deep_is) deep m.since.laid m.gives.guard (guard_later cells first r r e f o m.since own) (targets_later cells first r r e f t m.since tf) m.gives.apart in
        (since_then cells first r s (record e { depth = d }) (record f { depth = d }) (execute_all cx ss t j f).1 (since_lowered r e f d m.since) it.0, it.1)

    sequenced : (ss : List Stmt) → ShapedAll ss → Sequence ss
    sequenced [] hs = record {
      closed_there = λ i whole. record { run = λ s e t g h deep guard tf apart. does_pure cells first (Next cells first s t) s e g h (record { guard = guard; apart = apart }) };
      opened_there = λ i whole follows s t g o k d e is deep h guard own tf apart. absurd (both_ways false refl follows);
    }
    sequenced (x ∷ ss) hs =
        let rest : Sequence ss = sequenced ss hs.1 in
        record {
          closed_there = λ i whole. record { run = λ s e t g h deep guard tf apart. closed_case x ss i (sectioned x).mark refl (sound cx adds marks x) hs.0 rest whole s e t g h deep guard tf apart };
          opened_there = λ i whole follows s t g o k d e is deep h guard own tf apart. opened_case x ss i (sectioned x).mark refl (sound cx adds marks x) hs.0 rest whole (rest_marked (sectioned x).mark (some_marked (map sectioned ss)) follows) s t g o k d e is deep h guard own tf apart;
        }

    -- ---- the forms

    abbrev Part : Type 0
    Part = (x : Stmt) × ShapedStmt x

    abbrev stmts : List Part → List Stmt
    stmts ys = map (λ (y : Part). y.0) ys

    parts_shaped : (ys : List Part) → ShapedAll (stmts ys)
    parts_shaped [] = tt
    parts_shaped (y ∷ ys) = (y.1, parts_shaped ys)

    next_later : (s : Site) (e f : Emitted) (t : Targets) (h : ℕ) → Since cells first s e f → Next cells first s t h e → Next cells first s t h f
    next_later s e f t h since x = record { guard = guard_later cells first s s e f h since x.guard; apart = x.apart }

    -- an emission, and the guard behind it is the one before
    then_same : (s : Site) (e : Emitted) (t : Targets) (g : ℕ) (m : Emit (Unit {0})) → Guard cells first s g e → NoTarget t g → Does cells first s e m (Any cells first) → Does cells first s e (m >> pure g) (Next cells first s t)
    then_same s e t g m guard apart d =
        bind cells first s e m (λ _. pure g) d (λ _ f since _. does_pure cells first (Next cells first s t) s f g since.laid (record { guard = guard_later cells first s s e f g since guard; apart = apart }))

    then_none : (s : Site) (e : Emitted) (t : Targets) (m : Emit (Unit {0})) → TargetsFit s e.next t → Does cells first s e m (Any cells first) → Does cells first s e (m >> pure none) (Next cells first s t)
    then_none s e t m tf d =
        bind cells first s e m (λ _. pure none) d (λ _ f since _. does_pure cells first (Next cells first s t) s f none since.laid (record { guard = none_guard cells first s f since.laid; apart = none_no_target cells first s e.next t tf }))

    does_either :
        (a : Body) (c : Option Body) → ShapedBody cells first (inside a) → ShapedBody cells first (if_any c) → (s : Site) (e : Emitted) (t : Targets) (g v : ℕ) → Laid cells first s e → Deep s e.depth → Guard cells first s g e → TargetsFit s e.next t → v < e.next →
        Does cells first s e (either a c t g v) (Next cells first s t)
    does_either a c ha hc s e t g v h deep guard tf low =
        bind cells first s e (when g v) _ (does_when cells first s e g v h guard low) (λ on f since onew.
        let on1 : Guard cells first s on f = fresh_guard cells first s e f on h onew in
        let on_apart : NoTarget t on = fresh_no_target cells first s e f t on tf onew in
        let t1 : TargetsFit s f.next t = targets_later cells first s s e f t since tf in
        bind cells first s f (unless g v) _ (does_unless cells first s f g v since.laid (guard_later cells first s s e f g since guard) (low_later cells first s e f v since low)) (λ off f2 since2 fnew.
        let off2 : Guard cells first s off f2 = fresh_guard cells first s f f2 off since.laid fnew in
        let off_apart : NoTarget t off = fresh_no_target cells first s f f2 t off t1 fnew in
        let t2 : TargetsFit s f2.next t = targets_later cells first s s f f2 t since2 t1 in
        let d2 : Deep s f2.depth = deep_later cells first s s f f2 since2 (deep_later cells first s s e f since deep) in
        bind cells first s f2 (inside a t on) _ (ha.run s f2 t on since2.laid d2 (guard_later cells first s s f f2 on since2 on1) t2 on_apart) (λ x f3 since3 xnext.
        let d3 : Deep s f3.depth = deep_later cells first s s f2 f3 since3 d2 in
        let t3 : TargetsFit s f3.next t = targets_later cells first s s f2 f3 t since3 t2 in
        bind cells first s f3 (if_any c t off) _ (hc.run s f3 t off since3.laid d3 (guard_later cells first s s f2 f3 off since3 off2) t3 off_apart) (λ y f4 since4 ynext.
        let d : Does cells first s f4 (join_guards x y) (Fresh cells first f4) = does_join cells first s f4 x y since4.laid (guard_later cells first s s f3 f4 x since4 xnext.guard) ynext.guard in
        record { since = d.since; gives = fresh_next cells first s f4 (join_guards x y f4).1 t (join_guards x y f4).0 since4.laid (targets_later cells first s s f3 f4 t since4 t3) d.gives }))))

    form_of : (found : Inside → First) (b : Body) → ((i : Inside) → found i ≡ None → ShapedBody cells first b) → ShapedForm (unmarked found) b
    form_of found b h = record { plain = h }

    if_none : ShapedBody cells first (if_any None)
    if_none = record { run = λ s e t g h deep guard tf apart. does_pure cells first (Next cells first s t) s e g h (record { guard = guard; apart = apart }) }

    if_some : (b : Body) → ShapedBody cells first (inside b) → ShapedBody cells first (if_any (Some b))
    if_some b hb = record { run = λ s e t g h deep guard tf apart. hb.run s e t g h deep guard tf apart }

    shaped_if : (x : Expr) (a : Body) (c : Option Body) → first_mark x ≡ None → ShapedBody cells first (inside a) → ShapedBody cells first (if_any c) → ShapedBody cells first (λ t g. eval cx x g >>= either a c t g)
    shaped_if x a c whole ha hc = record {
      run = λ s e t g h deep guard tf apart.
          bind cells first s e (eval cx x g) (either a c t g) (does_eval cells first cx calls fit x whole s e g h deep guard) (λ v f since low.
          does_either a c ha hc s f t g v since.laid (deep_later cells first s s e f since deep) (guard_later cells first s s e f g since guard) (targets_later cells first s s e f t since tf) low);
    }

    layer : (y : Stmt-F Part) → ShapedForm (section_step (map-Stmt Stmt Sectioned sectioned (map-Stmt Part Stmt (λ e. e.0) y))) (stmt_step cx (map-Stmt Stmt Body (execute cx) (map-Stmt Part Stmt (λ e. e.0) y)))
    layer (Stmt-F.Empty p) = form_of _ _ (λ i w. record { run = λ s e t g h deep guard tf apart. does_pure cells first (Next cells first s t) s e g h (record { guard = guard; apart = apart }) })
    layer (Stmt-F.Expr p x) = record {
      plain = λ i w. record {
        run = λ s e t g h deep guard tf apart.
            bind cells first s e (eval cx x g) (λ _. pure g) (does_eval cells first cx calls fit x w s e g h deep guard) (λ _ f since _.
            does_pure cells first (Next cells first s t) s f g since.laid (record { guard = guard_later cells first s s e f g since guard; apart = apart }));
      };
    }
    layer (Stmt-F.Declare d) = form_of _ _ (λ i w. record {
      run = λ s e t g h deep guard tf apart. then_same s e t g (declare_all cx d.word g d.declarators) guard apart (does_declare cells first cx calls fit s e d.word g d.declarators w h deep guard);
    })
    layer (Stmt-F.Block p ys) = form_of _ _ (λ i w. record {
      run = λ s e t g h deep guard tf apart. does_scoped cells first s e t (execute_all cx (stmts ys) t g) (((sequenced (stmts ys) (parts_shaped ys)).closed_there i w).run s e t g h deep guard tf apart);
    })
    layer (Stmt-F.Label p n y) = form_of _ _ (λ i w. shaped_inside cells first (execute cx y.0) (y.1.plain i w))
    layer (Stmt-F.If p x y None) = form_of _ _ (λ i w.
        let one_of : (first_mark x ≡ None) × (or_else ((sectioned y.0).found i) None ≡ None) = both_none (first_mark x) _ w in
        let both : ((sectioned y.0).found i ≡ None) × (◌≡◌ {A = First} None None) = both_none ((sectioned y.0).found i) None one_of.1 in
        shaped_if x (execute cx y.0) None one_of.0 (shaped_inside cells first (execute cx y.0) (y.1.plain i both.0)) if_none)
    layer (Stmt-F.If p x y (Some z)) = form_of _ _ (λ i w.
        let one_of : (first_mark x ≡ None) × (or_else ((sectioned y.0).found i) ((sectioned z.0).found i) ≡ None) = both_none (first_mark x) _ w in
        let both : ((sectioned y.0).found i ≡ None) × ((sectioned z.0).found i ≡ None) = both_none ((sectioned y.0).found i) ((sectioned z.0).found i) one_of.1 in
        shaped_if x (execute cx y.0) (Some (execute cx z.0)) one_of.0 (shaped_inside cells first (execute cx y.0) (y.1.plain i both.0)) (if_some (execute cx z.0) (shaped_inside cells first (execute cx z.0) (z.1.plain i both.1))))
    layer (Stmt-F.While p x y) = form_of _ _ (λ i w.
        let both : (first_mark x ≡ None) × ((sectioned y.0).found (in_a_loop i) ≡ None) = both_none (first_mark x) _ w in
        shaped_loop cells first cx calls fit p (Some x) None (execute cx y.0) both.0 refl (y.1.plain (in_a_loop i) both.1))
    layer (Stmt-F.DoWhile p y x) = form_of _ _ (λ i w.
        let both : ((sectioned y.0).found (in_a_loop i) ≡ None) × (first_mark x ≡ None) = both_none _ (first_mark x) w in
        shaped_do_loop cells first cx calls fit p (execute cx y.0) x both.1 (y.1.plain (in_a_loop i) both.0))
    layer (Stmt-F.For p start x z y) = form_of _ _ (λ i w.
        let a : (mark_in_for start ≡ None) × (or_else (mark_in_option x) (or_else (mark_in_option z) ((sectioned y.0).found (in_a_loop i))) ≡ None) = both_none (mark_in_for start) _ w in
        let b : (mark_in_option x ≡ None) × (or_else (mark_in_option z) ((sectioned y.0).found (in_a_loop i)) ≡ None) = both_none (mark_in_option x) _ a.1 in
        let c : (mark_in_option z ≡ None) × ((sectioned y.0).found (in_a_loop i) ≡ None) = both_none (mark_in_option z) _ b.1 in
        record {
          run = λ s e t g h deep guard tf apart.
              does_scoped cells first s e t (begin_for cx start g >> loop cx p x z (execute cx y.0) t g)
              (bind cells first s e (begin_for cx start g) (λ _. loop cx p x z (execute cx y.0) t g) (does_begin_for cells first cx calls fit s e start g a.0 h deep guard) (λ _ f since _.
              (shaped_loop cells first cx calls fit p x z (execute cx y.0) b.0 c.0 (y.1.plain (in_a_loop i) c.1)).run s f t g since.laid (deep_later cells first s s e f since deep) (guard_later cells first s s e f g since guard) (targets_later cells first s s e f t since tf) apart));
        })
    layer (Stmt-F.Return p x) = form_of _ _ (λ i w.
        let both : (unless_first (is_outside i) p ≡ None) × (mark_in_option x ≡ None) = both_none _ (mark_in_option x) w in
        record {
          run = λ s e t g h deep guard tf apart.
              bind cells first s e (eval_if cx none x g) (give t g) (does_eval_if cells first cx calls fit none x (omega arith) both.1 s e g h deep guard) (λ v f since low.
              let t1 : TargetsFit s f.next t = targets_later cells first s s e f t since tf in
              then_none s f t (copy_to g t.result v) t1 (does_copy cells first s f g t.result v since.laid (guard_later cells first s s e f g since guard) t1.result low));
        })
    layer (Stmt-F.Break p) = form_of _ _ (λ i w. record { run = λ s e t g h deep guard tf apart. then_none s e t (mark g t.done) tf (does_mark cells first s e g t.done h guard tf.done) })
    layer (Stmt-F.Continue p) = form_of _ _ (λ i w. record { run = λ s e t g h deep guard tf apart. then_none s e t (mark g t.again) tf (does_mark cells first s e g t.again h guard tf.again) })

    -- every statement
    pub shaped_stmt : (x : Stmt) → ShapedStmt x
    shaped_stmt =
        ind-Stmt ShapedStmt (λ z y is.
        subst (λ (w : Stmt-F Stmt). ShapedStmt (roll-Stmt w)) is
        (subst (λ x. ShapedForm x (execute cx (roll-Stmt (map-Stmt Part Stmt (λ e. e.0) y)))) (sym (fold-roll-Stmt Sectioned section_step (map-Stmt Part Stmt (λ e. e.0) y)))
        (subst (ShapedForm (section_step (map-Stmt Stmt Sectioned sectioned (map-Stmt Part Stmt (λ e. e.0) y)))) (sym (fold-roll-Stmt Body (stmt_step cx) (map-Stmt Part Stmt (λ e. e.0) y))) (layer y))))

    all_shaped : (ss : List Stmt) → ShapedAll ss
    all_shaped [] = tt
    all_shaped (x ∷ ss) = (shaped_stmt x, all_shaped ss)

    -- ---- bodies

    does_statements : (s : Site) (e : Emitted) (ss : List Stmt) (g : ℕ) → in_block false Outside (map sectioned ss) ≡ None → Laid cells first s e → Deep s e.depth → Guard cells first s g e → Does cells first s e (statements cx ss g) (Low cells first)
    does_statements s e ss g whole h deep guard =
        bind cells first s e fresh _ (does_fresh cells first s e h) (λ result f since rnew.
        bind cells first s f fresh _ (does_fresh cells first s f since.laid) (λ done f2 since2 dnew.
        bind cells first s f2 fresh _ (does_fresh cells first s f2 since2.laid) (λ again f3 since3 anew.
        let t : Targets = targets done again result in
        let both : Since cells first s f f3 = since_then cells first s s f f2 f3 since2 since3 in
        let all : Since cells first s e f3 = since_then cells first s s e f f3 since both in
        let tf : TargetsFit s f3.next t = record {
          done = spare_later cells first s s f2 f3 done since3 (fresh_spare cells first s f f2 done since.laid dnew);
          again = fresh_spare cells first s f2 f3 again since2.laid anew;
          result = spare_later cells first s s f f3 result both (fresh_spare cells first s e f result h rnew);
        } in
        let apart : NoTarget t g = record {
          done = λ same. absurd (omega (arith, dnew.new, since.next, guard.used, same));
          again = λ same. absurd (omega (arith, anew.new, since2.next, since.next, guard.used, same));
          result = λ same. absurd (omega (arith, rnew.new, guard.used, same));
        } in
        bind cells first s f3 (execute_all cx ss t g) (λ _. pure result)
        (((sequenced ss (all_shaped ss)).closed_there Outside whole).run s f3 t g since3.laid (deep_later cells first s s e f3 all deep) (guard_later cells first s s e f3 g all guard) tf apart) (λ _ f4 since4 _.
        does_pure cells first (Low cells first) s f4 result since4.laid (low_later cells first s f3 f4 result since4 tf.result.used)))))

    pub does_body : (s : Site) (e : Emitted) (f : Function) (args : List ℕ) (g : ℕ) → unmatched_in_function f ≡ None → Laid cells first s e → Deep s e.depth → Guard cells first s g e → EachLow cells first args e → Does cells first s e (run_body cx f args g) (Low cells first)
    does_body s e f args g whole h deep guard low =
        let e0 : Emitted = record e { scope = [] } in
        does_apart cells first s e (parameters g 0 f.params args >> statements cx f.body g) h
        (bind cells first s e0 (parameters g 0 f.params args) (λ _. statements cx f.body g) (does_parameters cells first s e0 g 0 f.params args (laid_apart cells first s e h) (guard_apart cells first s e g guard) low) (λ _ e2 since _.
        does_statements s e2 f.body g whole since.laid (deep_later cells first s s e0 e2 since deep) (guard_later cells first s s e0 e2 g since (guard_apart cells first s e g guard))))

  -- ---- calls

  each_at : {X : Type 0} (P : X → Type 0) (xs : List X) (i : ℕ) (x : X) → Each P xs → slice_get xs i ≡ Some x → P x
  each_at P [] i x h e = absurd (let off : ◌≡◌ {A = Option _} None (Some x) = e in cc)
  each_at P (y ∷ xs) zero x h e = let same : y ≡ x = (let is : ◌≡◌ {A = Option _} (Some y) (Some x) = e in cc) in subst P same h.0
  each_at P (y ∷ xs) (suc i) x h e = each_at P xs i x h.1 e

  low_since : (e f : Emitted) (args : List ℕ) → e.next ≤ f.next → EachLow cells first args e → EachLow cells first args f
  low_since e f [] le h = tt
  low_since e f (a ∷ args) le h = (omega (arith, h.0), low_since e f args le h.1)

  module _ (st : Setting) (marks : NoMarks st) (whole : Each (λ f. unmatched_in_function f ≡ None) st.functions) (adds : (n : ℕ) → AddsCalls (context_within n st)) (fit : SharedFit cells st.shared) where
    does_found :
        (n i : ℕ) (o : Option Function) → slice_get st.functions i ≡ o → ShapedCalls cells first (context_within n st) → (args : List ℕ) (s : Site) (e : Emitted) (g : ℕ) → Laid cells first s e → Deep s e.depth → Guard cells first s g e → EachLow cells first args e →
        Does cells first s e (with_function o g (λ h. call_body h g (run_body (context_within n st) h args g))) (Low cells first)
    does_found n i None is calls args s e g h deep guard low = bind cells first s e (stop g) (λ _. pure none) (does_stop cells first s e g h guard) (λ _ f since _. does_pure cells first (Low cells first) s f none since.laid (omega (arith, since.laid.base)))
    does_found n i (Some f) is calls args s e g h deep guard low =
        let cx : Context = context_within n st in
        let matched : unmatched_in_function f ≡ None = each_at (λ f. unmatched_in_function f ≡ None) st.functions i f whole is in
        does_cond cells first s e (is_atomic f) (in_section g (run_body cx f args g)) (run_body cx f args g)
        (does_in_section s e g (run_body cx f args g) h deep guard (λ r f2 h2 deep2 guard2 same le. does_body cx (adds n) calls fit marks r f2 f args g matched h2 deep2 guard2 (low_since e f2 args le low)))
        (does_body cx (adds n) calls fit marks s e f args g matched h deep guard low)

    -- calls of functions
    pub shaped_calls : (n : ℕ) → ShapedCalls cells first (context_within n st)
    shaped_calls zero f args s e g h deep guard low = bind cells first s e (stop g) (λ _. pure none) (does_stop cells first s e g h guard) (λ _ f since _. does_pure cells first (Low cells first) s f none since.laid (omega (arith, since.laid.base)))
    shaped_calls (suc n) f args s e g h deep guard low = does_found n f (slice_get st.functions f) refl (shaped_calls n) args s e g h deep guard low
