-- What is emitted for built-in calls and for expressions without a begin or an end is laid.
use Rattle.std.proofs.Common.{◌≡◌, ℕ, zero, suc, ◌+◌, ◌<◌, inl, List, [], ◌∷◌, ◌++◌, map, Bool, true, false, Option, Some, None, refl, sym, ap, ◌∙◌, subst, append-nil, arith}
use Rattle.std.specs.Prelude.{cond, nat_eq}
use Rattle.dg_base.specs.declared.Place.{Place}
use Rattle.dg_base.specs.declared.operators.Op.TheVariants as op
use Rattle.c_tree.specs.declared.expr.Expr.{Expr, fold-roll-Expr, ind-Expr, map-Expr}
use Rattle.c_tree.specs.declared.expr.Expr.TheOpen.{Expr-F}
use Rattle.c_tree.specs.declared.expr.Expr.TheViews.{roll-Expr}
use Rattle.c_tree.specs.Operators.{unary_op}
use Rattle.c_rules.specs.declared.builtin.Builtin.{Builtin}
use Rattle.c_rules.specs.declared.builtin.Builtin.TheVariants as b
use Rattle.c_rules.specs.Names.{Name, or_else, builtin_named}
use Rattle.c_rules.specs.Scopes.{First, first_of}
use Rattle.c_check.specs.Sections.{broken_call, mark_step, first_mark}
use Rattle.run_model.specs.Calls.{Setting, function_in, function_named}
use Rattle.flat_prog.specs.declared.FlatAct.TheVariants as act
use Rattle.emit_steps.specs.declared.state.Cell.{Cell}
use Rattle.emit_steps.specs.declared.state.Cell.TheVariants.{Own, Common}
use Rattle.emit_steps.specs.Emitting.{Emitted, Emit, ◌>>=◌, ◌>>◌, pure, own_handle, one, none, creates, fresh, number, emit, set, when, unless, fail, outside, stop, ask, open_there, close_section}
use Rattle.emit_steps.specs.Pieces.{Piece, Context, read, write_cell, write, count, no_argument, argument, common_in, hold_cells, lock_cells, unlock_cells, exit_thread, any, any_bool, name_instance, next_handle, create, no_value, join, assert, assume, builtin_call, call_builtin, values_of, call, expr_step, piece}
use Rattle.emit_steps.proofs.Growth.{Each, each_append, each_map}
use Rattle.emit_steps.proofs.Marks.{IsPlainCall, both_none, plain_call}
use Rattle.emit_steps.proofs.Laying.{Stretch, Site, Out, In, Has, Moves}
use Rattle.flat_prog.specs.Sections.{Acts}
use Rattle.emit_steps.proofs.Shaping.{Spare, Laid, Since, Does, bind, bind_at, since_then, does_pure, Any, Low, Guard, low_later, guard_later, fresh_guard, fresh_spare, creates_spare, does_fresh, does_number, laid_step, does_emit, does_set, two_low, does_when, does_unless, does_fail, does_stop, does_ask, one_low}
use Rattle.emit_steps.proofs.ShapingForms.{one_argument, Deep, Cells, cells_later, does_read, does_write, does_no_cell, does_find, SharedFit, Shaped, shaped_value, shaped_lvalue, deep_later, fresh_low}
use Rattle.emit_steps.proofs.ShapingCalls.{shaped_binary, does_assign, does_count, does_choose, does_outside, does_not_outside, push, push_guard, does_pop, guard_open, cells_open, does_open, does_close}

module _ (cells first : ℕ) where
  pub does_no_value : (s : Site) (e : Emitted) (m : Emit (Unit {0})) → Does cells first s e m (Any cells first) → Does cells first s e (no_value m) (Low cells first)
  does_no_value s e m d = bind cells first s e m (λ _. pure none) d (λ _ f since _. does_pure cells first (Low cells first) s f none since.laid (omega (arith, since.laid.base)))

  -- ---- mutexes

  common_fit : (s : Site) (cs : List Cell) (e : Emitted) → Cells cells first s cs e → Cells cells first s (common_in cs) e
  common_fit s [] e h = tt
  common_fit s (Own g l ∷ cs) e h = common_fit s cs e h.1
  common_fit s (Common g c ∷ cs) e h = (h.0, common_fit s cs e h.1)

  does_hold_cells : (s : Site) (e : Emitted) (g : ℕ) (cs : List Cell) → Laid cells first s e → Guard cells first s g e → Cells cells first s cs e → Does cells first s e (hold_cells g cs) (Any cells first)
  does_hold_cells s e g cs h guard fit =
      bind cells first s e (read cs) _ (does_read cells first s e cs h fit) (λ v f since vnew.
      bind cells first s f (when g v) _ (does_when cells first s f g v since.laid (guard_later cells first s s e f g since guard) vnew.used) (λ held f2 since2 hnew.
      bind cells first s f2 (emit held act.Bad) _ (does_emit cells first s f2 held act.Bad since2.laid (fresh_guard cells first s f f2 held since.laid hnew) tt tt tt) (λ _ f3 since3 _.
      let fit3 : Cells cells first s cs f3 = cells_later cells first s f2 f3 cs since3 (cells_later cells first s f f2 cs since2 (cells_later cells first s e f cs since fit)) in
      does_write cells first s f3 cs one since3.laid fit3 (omega (arith, since3.laid.base)))))

  -- a section of its own, where none is open: a stretch began with its guard
  section_out :
      (rs : List Stretch) (e : Emitted) (g k : ℕ) (opening middle : Emit (Unit {0})) → e.depth ≡ 0 → Guard cells first (Out rs) g e → Does cells first (In g k rs) e opening (Any cells first) →
      ((f : Emitted) → Since cells first (In g k rs) e f → Guard cells first (In g k rs) g f → Does cells first (In g k rs) f middle (Any cells first)) →
      Does cells first (Out rs) e (outside opening >> (middle >> close_section)) (Any cells first)
  section_out rs e g k opening middle z guard opened dm =
      bind_at cells first (In g k rs) (Out rs) e (outside opening) _ (does_outside cells first (In g k rs) e opening z opened) (λ _ f since _.
      let g1 : Guard cells first (In g k rs) g f = guard_later cells first (In g k rs) (In g k rs) e f g since (guard_open cells first rs g k g e guard) in
      bind_at cells first (In g k rs) (Out rs) f middle (λ _. close_section) (dm f since g1) (λ _ f2 since2 _.
      does_outside cells first (Out rs) f2 (λ x. emit x.opened act.Close x) (since2.depth ∙ (since.depth ∙ z)) (does_close cells first rs f2 g k since2.laid (guard_later cells first (In g k rs) (In g k rs) f f2 g since2 g1))))

  -- inside a section
  section_in :
      (s : Site) (e : Emitted) (opening middle : Emit (Unit {0})) → (e.depth ≡ 0 → ⊥) → Laid cells first s e → ((f : Emitted) → Since cells first s e f → Does cells first s f middle (Any cells first)) →
      Does cells first s e (outside opening >> (middle >> close_section)) (Any cells first)
  section_in s e opening middle deep h dm =
      bind cells first s e (outside opening) _ (does_not_outside cells first s e opening deep h) (λ _ f since _.
      bind cells first s f middle (λ _. close_section) (dm f since) (λ _ f2 since2 _.
      does_not_outside cells first s f2 (λ x. emit x.opened act.Close x) (λ z. deep (sym since.depth ∙ (sym since2.depth ∙ z))) since2.laid))

  -- the cells are found in a stretch that begins with them
  module _ (m : Piece) (shaped : Shaped cells first m) (opening : ℕ → Emit (Unit {0})) (middle : ℕ → List Cell → Emit (Unit {0})) where
    abbrev Opening : Type 0
    Opening = (rs : List Stretch) (e : Emitted) (g k : ℕ) → Laid cells first (Out rs) e → Guard cells first (Out rs) g e → Has rs g k → Does cells first (In g k rs) e (opening g) (Any cells first)

    abbrev Middle : Type 0
    Middle = (s : Site) (e : Emitted) (g : ℕ) (cs : List Cell) → Laid cells first s e → Guard cells first s g e → Cells cells first s cs e → Does cells first s e (middle g cs) (Any cells first)

    does_section : Opening → Middle → (s : Site) (e : Emitted) (g : ℕ) → Laid cells first s e → Deep s e.depth → Guard cells first s g e → Does cells first s e (m.find g >>= (λ cs. no_value (outside (opening g) >> (middle g cs >> close_section)))) (Low cells first)
    does_section op mid (Out rs) e g h deep guard =
        let k : ℕ = e.next in
        let qs : List Stretch = (g, k) ∷ rs in
        does_pop cells first (g, k) rs e _
        (bind cells first (Out qs) e (m.find g) _ (shaped.find (Out qs) e g (push cells first rs e g h guard) deep (push_guard cells first rs e g k guard)) (λ cs f since fit.
        let g1 : Guard cells first (Out qs) g f = guard_later cells first (Out qs) (Out qs) e f g since (push_guard cells first rs e g k guard) in
        does_no_value (Out qs) f _
        (section_out qs f g k (opening g) (middle g cs) (since.depth ∙ deep) g1 (op qs f g k since.laid g1 (inl (refl, refl))) (λ f2 since2 g2.
        mid (In g k qs) f2 g cs since2.laid g2 (cells_later cells first (In g k qs) f f2 cs since2 (cells_open cells first qs g k f cs fit))))))
    does_section op mid (In o k rs) e g h deep guard =
        bind cells first (In o k rs) e (m.find g) _ (shaped.find (In o k rs) e g h deep guard) (λ cs f since fit.
        let g1 : Guard cells first (In o k rs) g f = guard_later cells first (In o k rs) (In o k rs) e f g since guard in
        does_no_value (In o k rs) f _
        (section_in (In o k rs) f (opening g) (middle g cs) (λ z. deep (sym since.depth ∙ z)) since.laid (λ f2 since2.
        mid (In o k rs) f2 g cs since2.laid (guard_later cells first (In o k rs) (In o k rs) f f2 g since2 g1) (cells_later cells first (In o k rs) f f2 cs since2 fit))))

  opens_asking : (rs : List Stretch) (e : Emitted) (g k : ℕ) → Laid cells first (Out rs) e → Guard cells first (Out rs) g e → Has rs g k → Does cells first (In g k rs) e (ask g >> open_there g) (Any cells first)
  opens_asking rs e g k h guard has =
      bind_at cells first (Out rs) (In g k rs) e (ask g) (λ _. open_there g) (does_ask cells first (Out rs) e g h guard) (λ _ f since _. does_open cells first rs f g k since.laid (guard_later cells first (Out rs) (Out rs) e f g since guard) has)

  does_lock : (s : Site) (e : Emitted) (g : ℕ) (m : Piece) → Shaped cells first m → Laid cells first s e → Deep s e.depth → Guard cells first s g e → Does cells first s e (m.find g >>= (λ cs. no_value (lock_cells g cs))) (Low cells first)
  does_lock s e g m shaped h deep guard =
      does_section m shaped (λ g. ask g >> open_there g) (λ g cs. hold_cells g (common_in cs)) opens_asking (λ s e g cs h guard fit. does_hold_cells s e g (common_in cs) h guard (common_fit s cs e fit)) s e g h deep guard

  does_unlock : (s : Site) (e : Emitted) (g : ℕ) (m : Piece) → Shaped cells first m → Laid cells first s e → Deep s e.depth → Guard cells first s g e → Does cells first s e (m.find g >>= (λ cs. no_value (unlock_cells g cs))) (Low cells first)
  does_unlock s e g m shaped h deep guard =
      does_section m shaped open_there (λ g cs. write cs none) (λ rs e g k h guard has. does_open cells first rs e g k h guard has) (λ s e g cs h guard fit. does_write cells first s e cs none h fit (omega (arith, h.base))) s e g h deep guard

  -- ---- threads

  write_named : (cs : List Cell) (v : ℕ) (e : Emitted) (i : ℕ) (created : List ℕ) → (write cs v (record e { instances = i; created = created })).1 ≡ record (write cs v e).1 { instances = i; created = created }
  write_named [] v e i created = refl
  write_named (Own g l ∷ cs) v e i created = write_named cs v (write_cell v (Own g l) e).1 i created
  write_named (Common g c ∷ cs) v e i created = write_named cs v (write_cell v (Common g c) e).1 i created

  write_steady : (cs : List Cell) (v : ℕ) (e : Emitted) → (write cs v e).1.instances ≡ e.instances
  write_steady [] v e = refl
  write_steady (Own g l ∷ cs) v e = write_steady cs v (write_cell v (Own g l) e).1
  write_steady (Common g c ∷ cs) v e = write_steady cs v (write_cell v (Common g c) e).1

  -- the instance is named before, and created behind
  created_since : (s : Site) (e : Emitted) (g h arg f : ℕ) (i : ℕ) (created : List ℕ) → Laid cells first s e → Guard cells first s g e → h < e.next → arg < e.next → i ≡ e.instances
      → Since cells first s e (emit g (act.Create i h arg) (record e { instances = i + 1; created = created })).1
  created_since s e g h arg f i created laid guard hlow alow same = record {
    next = omega arith;
    numbers = [];
    numbers_behind = sym (append-nil e.numbers);
    numbers_above = tt;
    vars = [];
    scope = sym (append-nil e.scope);
    cells_new = λ l none. absurd none;
    depth = refl;
    laid = record {
      base = laid.base;
      neat = laid.neat;
      above = laid.above;
      steps = laid_step cells first s s e g (act.Create i h arg) (i + 1) laid guard (hlow, alow) tt (create_moves s g i h arg) (same, ap (λ x. x + 1) same);
      scope = laid.scope;
      site = laid.site;
    };
  }
    where
      create_moves : (s : Site) (g i h arg : ℕ) → Moves s Acts g s
      create_moves (Out rs) g i h arg = refl
      create_moves (In o k rs) g i h arg = refl

  does_next : (s : Site) (e : Emitted) (g : ℕ) → Laid cells first s e → Guard cells first s g e → Does cells first s e (next_handle g) (Low cells first)
  does_next s e g h guard =
      bind cells first s e (number 64) _ (does_number cells first s e 64 h) (λ c f since clow.
      let g1 : Guard cells first s g f = guard_later cells first s s e f g since guard in
      bind cells first s f (set g op.Times (own_handle ∷ c ∷ [])) _ (does_set cells first s f g op.Times (own_handle ∷ c ∷ []) since.laid g1 refl (two_low cells first f.next own_handle c (omega (arith, since.laid.base)) clow)) (λ a f2 since2 anew.
      let g2 : Guard cells first s g f2 = guard_later cells first s s f f2 g since2 g1 in
      bind cells first s f2 (set g op.Plus (a ∷ creates ∷ [])) _ (does_set cells first s f2 g op.Plus (a ∷ creates ∷ []) since2.laid g2 refl (two_low cells first f2.next a creates anew.used (omega (arith, since2.laid.base)))) (λ q f3 since3 qnew.
      fresh_low cells first s f3 (does_set cells first s f3 g op.Plus (q ∷ one ∷ []) since3.laid (guard_later cells first s s f2 f3 g since3 g2) refl (two_low cells first f3.next q one qnew.used (omega (arith, since3.laid.base)))))))

  does_named : (s : Site) (e : Emitted) (g : ℕ) (cs : List Cell) (f h arg : ℕ) → Laid cells first s e → Guard cells first s g e → Cells cells first s cs e → h < e.next → arg < e.next
      → Does cells first s e (name_instance f >>= (λ i. emit g (act.Set creates op.Plus (creates ∷ one ∷ [])) >> (write cs h >> (emit g (act.Create i h arg) >> pure none)))) (Low cells first)
  does_named s e g cs f h arg laid guard fit hlow alow =
      let spare : Spare s e.next creates = creates_spare cells first s e laid in
      let d : Does cells first s e (emit g (act.Set creates op.Plus (creates ∷ one ∷ []))) (Any cells first) = does_emit cells first s e g (act.Set creates op.Plus (creates ∷ one ∷ [])) laid guard tt (spare.used, refl, two_low cells first e.next creates one spare.used (omega (arith, laid.base))) spare in
      let e2 : Emitted = (emit g (act.Set creates op.Plus (creates ∷ one ∷ [])) e).1 in
      let w : Does cells first s e2 (write cs h) (Any cells first) = does_write cells first s e2 cs h d.since.laid (cells_later cells first s e e2 cs d.since fit) (low_later cells first s e e2 h d.since hlow) in
      let e3 : Emitted = (write cs h e2).1 in
      let both : Since cells first s e e3 = since_then cells first s s e e2 e3 d.since w.since in
      let last : Since cells first s e3 (emit g (act.Create e.instances h arg) (record e3 { instances = e.instances + 1; created = e.created ++ f ∷ [] })).1 =
      created_since s e3 g h arg f e.instances (e.created ++ f ∷ []) both.laid (guard_later cells first s s e e3 g both guard) (low_later cells first s e e3 h both hlow) (low_later cells first s e e3 arg both alow) (sym (write_steady cs h e2)) in
      let all : Since cells first s e (emit g (act.Create e.instances h arg) (record e3 { instances = e.instances + 1; created = e.created ++ f ∷ [] })).1 = since_then cells first s s e e3 _ both last in
      let whole : Since cells first s e (emit g (act.Create e.instances h arg) (write cs h (record e2 { instances = e.instances + 1; created = e.created ++ f ∷ [] })).1).1 =
      subst (λ (x : Emitted). Since cells first s e (emit g (act.Create e.instances h arg) x).1) (sym (write_named cs h e2 (e.instances + 1) (e.created ++ f ∷ []))) all in
      record { since = whole; gives = omega (arith, whole.laid.base) }

  does_create : (s : Site) (e : Emitted) (g : ℕ) (cs : List Cell) (f arg : ℕ) → Laid cells first s e → Guard cells first s g e → Cells cells first s cs e → arg < e.next → Does cells first s e (create g cs f arg) (Low cells first)
  does_create s e g cs f arg laid guard fit alow =
      bind cells first s e (next_handle g) _ (does_next s e g laid guard) (λ h e2 since hlow. does_named s e2 g cs f h arg since.laid (guard_later cells first s s e e2 g since guard) (cells_later cells first s e e2 cs since fit) hlow (low_later cells first s e e2 arg since alow))

  does_any : (s : Site) (e : Emitted) (g : ℕ) → Laid cells first s e → Guard cells first s g e → Does cells first s e (any g) (Low cells first)
  does_any s e g h guard =
      bind cells first s e fresh _ (does_fresh cells first s e h) (λ v f since vnew.
      bind cells first s f (emit g (act.Take v)) (λ _. pure v) (does_emit cells first s f g (act.Take v) since.laid (guard_later cells first s s e f g since guard) tt vnew.used (fresh_spare cells first s e f v h vnew)) (λ _ f2 since2 _.
      does_pure cells first (Low cells first) s f2 v since2.laid (low_later cells first s f f2 v since2 vnew.used)))

  does_any_bool : (s : Site) (e : Emitted) (g : ℕ) → Laid cells first s e → Guard cells first s g e → Does cells first s e (any_bool g) (Low cells first)
  does_any_bool s e g h guard =
      bind cells first s e (any g) _ (does_any s e g h guard) (λ v f since vlow.
      bind cells first s f (set g op.LessUint (one ∷ v ∷ [])) _ (does_set cells first s f g op.LessUint (one ∷ v ∷ []) since.laid (guard_later cells first s s e f g since guard) refl (two_low cells first f.next one v (omega (arith, since.laid.base)) vlow)) (λ bad f2 since2 bnew.
      bind cells first s f2 (emit bad act.Bad) (λ _. pure v) (does_emit cells first s f2 bad act.Bad since2.laid (fresh_guard cells first s f f2 bad since.laid bnew) tt tt tt) (λ _ f3 since3 _.
      does_pure cells first (Low cells first) s f3 v since3.laid (low_later cells first s f2 f3 v since3 (low_later cells first s f f2 v since2 vlow)))))

  does_exit : (s : Site) (e : Emitted) (g : ℕ) (t : Bool) → Laid cells first s e → Guard cells first s g e → Does cells first s e (emit g (cond t act.End act.Bad)) (Any cells first)
  does_exit s e g true h guard = does_emit cells first s e g act.End h guard tt tt tt
  does_exit s e g false h guard = does_emit cells first s e g act.Bad h guard tt tt tt

  does_exit_thread : (s : Site) (e : Emitted) (g : ℕ) → Laid cells first s e → Guard cells first s g e → Does cells first s e (exit_thread g) (Any cells first)
  does_exit_thread s e g h guard = let d : Does cells first s e (emit g (cond (nat_eq e.depth 0) act.End act.Bad)) (Any cells first) = does_exit s e g (nat_eq e.depth 0) h guard in record { since = d.since; gives = tt }

  asks : (s : Site) (e : Emitted) (g : ℕ) → Laid cells first s e → Deep s e.depth → Guard cells first s g e → Does cells first s e (outside (ask g)) (Any cells first)
  asks (Out rs) e g h deep guard = does_outside cells first (Out rs) e (ask g) deep (does_ask cells first (Out rs) e g h guard)
  asks (In o k rs) e g h deep guard = does_not_outside cells first (In o k rs) e (ask g) deep h

  does_join_thread : (s : Site) (e : Emitted) (g v : ℕ) → Laid cells first s e → Deep s e.depth → Guard cells first s g e → v < e.next → Does cells first s e (join g v) (Low cells first)
  does_join_thread s e g v h deep guard low =
      does_no_value s e (outside (ask g) >> emit g (act.Join v))
      (bind cells first s e (outside (ask g)) (λ _. emit g (act.Join v)) (asks s e g h deep guard) (λ _ f since _. does_emit cells first s f g (act.Join v) since.laid (guard_later cells first s s e f g since guard) tt (low_later cells first s e f v since low) tt))

  does_assert : (s : Site) (e : Emitted) (p : Place) (g v : ℕ) → Laid cells first s e → Guard cells first s g e → v < e.next → Does cells first s e (assert p g v) (Low cells first)
  does_assert s e p g v h guard low =
      does_no_value s e (unless g v >>= (λ z. fail z p)) (bind cells first s e (unless g v) (λ z. fail z p) (does_unless cells first s e g v h guard low) (λ z f since new. does_fail cells first s f z p since.laid (fresh_guard cells first s e f z h new)))

  does_assume : (s : Site) (e : Emitted) (g v : ℕ) → Laid cells first s e → Guard cells first s g e → v < e.next → Does cells first s e (assume g v) (Low cells first)
  does_assume s e g v h guard low =
      does_no_value s e (unless g v >>= stop) (bind cells first s e (unless g v) stop (does_unless cells first s e g v h guard low) (λ z f since new. does_stop cells first s f z since.laid (fresh_guard cells first s e f z h new)))

  -- ---- built-in calls

  shaped_none : Shaped cells first no_argument
  shaped_none = record { run = λ s e g h deep guard. does_pure cells first (Low cells first) s e none h (omega (arith, h.base)); find = λ s e g h deep guard. does_no_cell cells first s e g h guard }

  shaped_argument : (ms : List Piece) (i : ℕ) → Each (Shaped cells first) ms → Shaped cells first (argument ms i)
  shaped_argument [] zero h = shaped_none
  shaped_argument [] (suc i) h = shaped_none
  shaped_argument (m ∷ ms) zero h = h.0
  shaped_argument (m ∷ ms) (suc i) h = shaped_argument ms i h.1

  does_builtin : (s : Site) (e : Emitted) (st : Setting) (p : Place) (c : Builtin) (ms : List Piece) (g : ℕ) → IsPlainCall c → Each (Shaped cells first) ms → Laid cells first s e → Deep s e.depth → Guard cells first s g e → Does cells first s e (builtin_call st p c ms g) (Low cells first)
  does_builtin s e st p b.PthreadCreate ms g plain hs h deep guard =
      bind cells first s e ((argument ms 0).find g) _ ((shaped_argument ms 0 hs).find s e g h deep guard) (λ cs f since fit.
      let g1 : Guard cells first s g f = guard_later cells first s s e f g since guard in
      bind cells first s f ((argument ms 3).run g) _ ((shaped_argument ms 3 hs).run s f g since.laid (deep_later cells first s s e f since deep) g1) (λ v f2 since2 vlow.
      does_create s f2 g cs (function_in st (argument ms 2).spelled) v since2.laid (guard_later cells first s s f f2 g since2 g1) (cells_later cells first s f f2 cs since2 fit) vlow))
  does_builtin s e st p b.PthreadJoin ms g plain hs h deep guard =
      bind cells first s e ((argument ms 0).run g) (join g) ((shaped_argument ms 0 hs).run s e g h deep guard) (λ v f since vlow. does_join_thread s f g v since.laid (deep_later cells first s s e f since deep) (guard_later cells first s s e f g since guard) vlow)
  does_builtin s e st p b.PthreadExit ms g plain hs h deep guard =
      bind cells first s e ((argument ms 0).run g) _ ((shaped_argument ms 0 hs).run s e g h deep guard) (λ _ f since vlow. does_no_value s f (exit_thread g) (does_exit_thread s f g since.laid (guard_later cells first s s e f g since guard)))
  does_builtin s e st p b.Exit ms g plain hs h deep guard =
      bind cells first s e ((argument ms 0).run g) _ ((shaped_argument ms 0 hs).run s e g h deep guard) (λ _ f since vlow. does_no_value s f (stop g) (does_stop cells first s f g since.laid (guard_later cells first s s e f g since guard)))
  does_builtin s e st p b.Abort ms g plain hs h deep guard = does_no_value s e (stop g) (does_stop cells first s e g h guard)
  does_builtin s e st p b.Lock ms g plain hs h deep guard = does_lock s e g (argument ms 0) (shaped_argument ms 0 hs) h deep guard
  does_builtin s e st p b.Unlock ms g plain hs h deep guard = does_unlock s e g (argument ms 0) (shaped_argument ms 0 hs) h deep guard
  does_builtin s e st p b.Init ms g plain hs h deep guard = does_unlock s e g (argument ms 0) (shaped_argument ms 0 hs) h deep guard
  does_builtin s e st p b.Destroy ms g plain hs h deep guard =
      bind cells first s e ((argument ms 0).find g) _ ((shaped_argument ms 0 hs).find s e g h deep guard) (λ cs f since fit. does_pure cells first (Low cells first) s f none since.laid (omega (arith, since.laid.base)))
  does_builtin s e st p b.Assert ms g plain hs h deep guard =
      bind cells first s e ((argument ms 0).run g) (assert p g) ((shaped_argument ms 0 hs).run s e g h deep guard) (λ v f since vlow. does_assert s f p g v since.laid (guard_later cells first s s e f g since guard) vlow)
  does_builtin s e st p b.Assume ms g plain hs h deep guard =
      bind cells first s e ((argument ms 0).run g) (assume g) ((shaped_argument ms 0 hs).run s e g h deep guard) (λ v f since vlow. does_assume s f g v since.laid (guard_later cells first s s e f g since guard) vlow)
  does_builtin s e st p b.AssertFail ms g plain hs h deep guard = does_no_value s e (fail g p) (does_fail cells first s e g p h guard)
  does_builtin s e st p b.ReachError ms g plain hs h deep guard = does_no_value s e (fail g p) (does_fail cells first s e g p h guard)
  does_builtin s e st p b.AnyInt ms g plain hs h deep guard = does_any s e g h guard
  does_builtin s e st p b.AnyUint ms g plain hs h deep guard = does_any s e g h guard
  does_builtin s e st p b.AnyBool ms g plain hs h deep guard = does_any_bool s e g h guard
  does_builtin s e st p b.Begin ms g plain hs h deep guard = absurd plain
  does_builtin s e st p b.Finish ms g plain hs h deep guard = absurd plain
  does_builtin s e st p b.Synchronize ms g plain hs h deep guard = does_no_value s e (emit g act.Fence) (does_emit cells first s e g act.Fence h guard tt tt tt)

  -- ---- calls of functions

  abbrev pub EachLow : List ℕ → Emitted → Type 0
  EachLow vs e = Each (λ v. v < e.next) vs

  pub each_later : (s : Site) (e f : Emitted) (vs : List ℕ) → Since cells first s e f → EachLow vs e → EachLow vs f
  each_later s e f vs h x = each_map (λ v. v < e.next) (λ v. v < f.next) (λ v y. low_later cells first s e f v h y) vs x

  does_values : (s : Site) (e : Emitted) (done : List ℕ) (ms : List Piece) (g : ℕ) → Each (Shaped cells first) ms → Laid cells first s e → Deep s e.depth → Guard cells first s g e → EachLow done e → Does cells first s e (values_of done ms g) EachLow
  does_values s e done [] g hs h deep guard low = does_pure cells first EachLow s e done h low
  does_values s e done (m ∷ ms) g hs h deep guard low =
      bind cells first s e (m.run g) _ (hs.0.run s e g h deep guard) (λ v f since vlow.
      does_values s f (done ++ v ∷ []) ms g hs.1 since.laid (deep_later cells first s s e f since deep) (guard_later cells first s s e f g since guard) (each_append (λ v. v < f.next) done (v ∷ []) (each_later s e f done since low) (vlow, tt)))

  -- what is emitted for calls of functions is laid
  abbrev pub ShapedCalls : Context → Type 0
  ShapedCalls cx = (f : ℕ) (args : List ℕ) (s : Site) (e : Emitted) (g : ℕ) → Laid cells first s e → Deep s e.depth → Guard cells first s g e → EachLow args e → Does cells first s e (cx.call f args g) (Low cells first)

  module _ (cx : Context) (calls : ShapedCalls cx) (fit : SharedFit cells cx.setting.shared) where
    abbrev Whole : Expr → Type 0
    Whole e = first_mark e ≡ None → Shaped cells first (piece cx e)

    abbrev Part : Type 0
    Part = (e : Expr) × Whole e

    abbrev exprs : List Part → List Expr
    exprs ys = map (λ (y : Part). y.0) ys

    parts_shaped : (ys : List Part) → first_of (map first_mark (exprs ys)) ≡ None → Each (Shaped cells first) (map (piece cx) (exprs ys))
    parts_shaped [] h = tt
    parts_shaped (y ∷ ys) h = let both : (first_mark y.0 ≡ None) × (first_of (map first_mark (exprs ys)) ≡ None) = both_none (first_mark y.0) (first_of (map first_mark (exprs ys))) h in (y.1 both.0, parts_shaped ys both.1)

    does_plain : (s : Site) (e : Emitted) (p : Place) (n : Name) (ms : List Piece) (g : ℕ) (o : Option Builtin) → builtin_named n ≡ o → broken_call p n ≡ None → Each (Shaped cells first) ms → Laid cells first s e → Deep s e.depth → Guard cells first s g e
        → Does cells first s e (call_builtin cx.setting p o ms g) (Low cells first)
    does_plain s e p n ms g None is whole hs h deep guard = does_no_value s e (stop g) (does_stop cells first s e g h guard)
    does_plain s e p n ms g (Some c) is whole hs h deep guard = does_builtin s e cx.setting p c ms g (plain_call p n c whole is) hs h deep guard

    does_call : (s : Site) (e : Emitted) (p : Place) (n : Name) (ms : List Piece) (g : ℕ) (o : Option ℕ) → broken_call p n ≡ None → Each (Shaped cells first) ms → Laid cells first s e → Deep s e.depth → Guard cells first s g e → Does cells first s e (call cx p n ms o g) (Low cells first)
    does_call s e p n ms g (Some f) whole hs h deep guard =
        bind cells first s e (values_of [] ms g) _ (does_values s e [] ms g hs h deep guard tt) (λ vs e2 since low. calls f vs s e2 g since.laid (deep_later cells first s s e e2 since deep) (guard_later cells first s s e e2 g since guard) low)
    does_call s e p n ms g None whole hs h deep guard = does_plain s e p n ms g (builtin_named n) refl whole hs h deep guard

    layer : (y : Expr-F Part) → mark_step (map-Expr Expr First first_mark (map-Expr Part Expr (λ e. e.0) y)) ≡ None → Shaped cells first (expr_step cx (map-Expr Expr Piece (piece cx) (map-Expr Part Expr (λ e. e.0) y)))
    layer (Expr-F.Name p n) w = shaped_lvalue cells first (Some n) _ _ (λ s e g h deep guard. does_find cells first s e cx.setting.shared p n g None fit h guard (λ l no_index. absurd (let off : ◌≡◌ {A = Option ℕ} None (Some l) = no_index in cc)))
    layer (Expr-F.Number p v u) w = shaped_value cells first _ _ (λ s e g h deep guard. does_number cells first s e v h)
    layer (Expr-F.Text p) w = shaped_value cells first _ _ (λ s e g h deep guard. does_pure cells first (Low cells first) s e none h (omega (arith, h.base)))
    layer (Expr-F.Bracket p x) w = x.1 w
    layer (Expr-F.Index p n x) w = shaped_lvalue cells first None _ _ (λ s e g h deep guard.
        bind cells first s e ((piece cx x.0).run g) _ ((x.1 w).run s e g h deep guard) (λ v f since vlow.
        does_find cells first s f cx.setting.shared p n g (Some v) fit since.laid (guard_later cells first s s e f g since guard) (λ l is. let same : v ≡ l = (let whole : ◌≡◌ {A = Option ℕ} (Some v) (Some l) = is in cc) in subst (λ k. k < f.next) same vlow)))
    layer (Expr-F.Call p n ys) w =
        let both : (broken_call p n ≡ None) × (first_of (map first_mark (exprs ys)) ≡ None) = both_none (broken_call p n) (first_of (map first_mark (exprs ys))) w in
        shaped_value cells first _ _ (λ s e g h deep guard. does_call s e p n (map (piece cx) (exprs ys)) g (function_named cx.setting n) both.0 (parts_shaped ys both.1) h deep guard)
    layer (Expr-F.Cast p t x) w = shaped_value cells first _ _ (λ s e g h deep guard. (x.1 w).run s e g h deep guard)
    layer (Expr-F.Unary p o x) w = shaped_value cells first _ _ (λ s e g h deep guard.
        bind cells first s e ((piece cx x.0).run g) _ ((x.1 w).run s e g h deep guard) (λ v f since vlow.
        fresh_low cells first s f (does_set cells first s f g (unary_op o) (v ∷ []) since.laid (guard_later cells first s s e f g since guard) (sym (one_argument o)) (one_low cells first f.next v vlow))))
    layer (Expr-F.StepBefore p o x) w = shaped_value cells first _ _ (λ s e g h deep guard.
        bind cells first s e (count p o (piece cx x.0) g) _ (does_count cells first s e p o (piece cx x.0) g (x.1 w) h deep guard) (λ v f since low. does_pure cells first (Low cells first) s f v.1 since.laid low.1))
    layer (Expr-F.StepAfter p o x) w = shaped_value cells first _ _ (λ s e g h deep guard.
        bind cells first s e (count p o (piece cx x.0) g) _ (does_count cells first s e p o (piece cx x.0) g (x.1 w) h deep guard) (λ v f since low. does_pure cells first (Low cells first) s f v.0 since.laid low.0))
    layer (Expr-F.Binary p o x y) w =
        let both : (first_mark x.0 ≡ None) × (first_mark y.0 ≡ None) = both_none (first_mark x.0) (first_mark y.0) w in
        shaped_value cells first _ _ (λ s e g h deep guard. shaped_binary cells first (λ vs. true) p o (piece cx x.0) (piece cx y.0) (x.1 both.0) (y.1 both.1) s e g h deep guard)
    layer (Expr-F.Choose p t x y) w =
        let one_of : (first_mark t.0 ≡ None) × (or_else (first_mark x.0) (first_mark y.0) ≡ None) = both_none (first_mark t.0) (or_else (first_mark x.0) (first_mark y.0)) w in
        let both : (first_mark x.0 ≡ None) × (first_mark y.0 ≡ None) = both_none (first_mark x.0) (first_mark y.0) one_of.1 in
        shaped_value cells first _ _ (λ s e g h deep guard. does_choose cells first s e (piece cx t.0) (piece cx x.0) (piece cx y.0) g (t.1 one_of.0) (x.1 both.0) (y.1 both.1) h deep guard)
    layer (Expr-F.Assign p o x y) w =
        let both : (first_mark x.0 ≡ None) × (first_mark y.0 ≡ None) = both_none (first_mark x.0) (first_mark y.0) w in
        shaped_value cells first _ _ (λ s e g h deep guard. does_assign cells first s e p o (piece cx x.0) (piece cx y.0) g (x.1 both.0) (y.1 both.1) h deep guard)
    layer (Expr-F.Comma p x y) w =
        let both : (first_mark x.0 ≡ None) × (first_mark y.0 ≡ None) = both_none (first_mark x.0) (first_mark y.0) w in
        shaped_value cells first _ _ (λ s e g h deep guard.
        bind cells first s e ((piece cx x.0).run g) _ ((x.1 both.0).run s e g h deep guard) (λ _ f since _. (y.1 both.1).run s f g since.laid (deep_later cells first s s e f since deep) (guard_later cells first s s e f g since guard)))
    layer (Expr-F.Address p x) w = record { run = λ s e g h deep guard. does_pure cells first (Low cells first) s e none h (omega (arith, h.base)); find = (x.1 w).find }

    pub shaped_piece : (e : Expr) → first_mark e ≡ None → Shaped cells first (piece cx e)
    shaped_piece =
        ind-Expr Whole (λ x y is.
        subst (λ (z : Expr-F Expr). Whole (roll-Expr z)) is (λ whole.
        subst (Shaped cells first) (sym (fold-roll-Expr Piece (expr_step cx) (map-Expr Part Expr (λ e. e.0) y)))
        (layer y (sym (fold-roll-Expr First mark_step (map-Expr Part Expr (λ e. e.0) y)) ∙ whole))))
