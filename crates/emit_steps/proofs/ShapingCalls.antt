-- What is emitted for operators, sections and built-in calls is laid.
use Rattle.std.proofs.Common.{◌≡◌, ℕ, ◌<◌, inl, inr, List, [], ◌∷◌, Bool, true, false, refl, sym, subst, append-nil, arith}
use Rattle.std.proofs.lemmas.Bool.{eq-eqb, ne_eqb}
use Rattle.std.specs.Prelude.{cond, nat_eq}
use Rattle.dg_base.specs.declared.Place.{Place}
use Rattle.dg_base.specs.declared.operators.Op.TheVariants as op
use Rattle.c_tree.specs.declared.expr.StepOp.{StepOp}
use Rattle.c_tree.specs.declared.expr.BinaryOp.{BinaryOp}
use Rattle.c_tree.specs.declared.expr.BinaryOp.TheVariants as binary
use Rattle.c_tree.specs.declared.expr.AssignOp.{AssignOp}
use Rattle.c_tree.specs.declared.expr.AssignOp.TheVariants.{Plain as PlainAssign, With}
use Rattle.c_tree.specs.Operators.{step_op}
use Rattle.flat_prog.specs.declared.FlatAct.TheVariants as act
use Rattle.emit_steps.specs.declared.state.Variable.{Variable}
use Rattle.emit_steps.specs.declared.state.Cell.{Cell}
use Rattle.emit_steps.specs.declared.state.Cell.TheVariants.{Own, Common}
use Rattle.emit_steps.specs.Emitting.{Emitted, Emit, ◌>>=◌, pure, nothing, one, none, fresh, emit, copy_to, when, unless, outside, open_there}
use Rattle.emit_steps.specs.Pieces.{Piece, read, write, typed, operate, binary_run, assign, count, choose}
use Rattle.emit_steps.proofs.Growth.{each_map}
use Rattle.emit_steps.proofs.Running.{Among}
use Rattle.emit_steps.proofs.Laying.{Stretch, Site, Out, In, Has, all_has, lays_shift}
use Rattle.emit_steps.proofs.Shaping.{Spare, Laid, Since, Does, bind, since_none, does_pure, Any, Low, Guard, low_later, spare_later, guard_later, fresh_guard, fresh_spare, does_fresh, laid_step, does_emit, two_low, does_copy, does_when, does_unless}
use Rattle.emit_steps.proofs.ShapingForms.{Deep, CellFits, Cells, cells_later, does_read, does_write, Shaped, deep_later, fresh_low, does_operate, does_typed}

outside_zero : (d : ℕ) → d ≡ 0 → nat_eq d 0 ≡ true
outside_zero d z = eq-eqb d 0 z

module _ (cells first : ℕ) where
  -- ---- operators

  does_both : (s : Site) (e : Emitted) (p : Place) (o : BinaryOp) (l r : Piece) (g : ℕ) → Shaped cells first l → Shaped cells first r → Laid cells first s e → Deep s e.depth → Guard cells first s g e
      → Does cells first s e (l.run g >>= (λ x. r.run g >>= typed p o l r g x)) (Low cells first)
  does_both s e p o l r g hl hr h deep guard =
      bind cells first s e (l.run g) _ (hl.run s e g h deep guard) (λ x f since xlow.
      let g1 : Guard cells first s g f = guard_later cells first s s e f g since guard in
      bind cells first s f (r.run g) (typed p o l r g x) (hr.run s f g since.laid (deep_later cells first s s e f since deep) g1) (λ y f2 since2 ylow.
      does_typed cells first s f2 p o l r g x y since2.laid (guard_later cells first s s f f2 g since2 g1) (low_later cells first s f f2 x since2 xlow) ylow))

  does_binary : (s : Site) (e : Emitted) (p : Place) (o : BinaryOp) (l r : Piece) (g : ℕ) → Shaped cells first l → Shaped cells first r → Laid cells first s e → Deep s e.depth → Guard cells first s g e → Does cells first s e (binary_run p o l r g) (Low cells first)
  does_binary s e p binary.LogicAnd l r g hl hr h deep guard =
      bind cells first s e (l.run g) _ (hl.run s e g h deep guard) (λ x f since xlow.
      let d1 : Deep s f.depth = deep_later cells first s s e f since deep in
      bind cells first s f (when g x) _ (does_when cells first s f g x since.laid (guard_later cells first s s e f g since guard) xlow) (λ c f2 since2 new.
      let d2 : Deep s f2.depth = deep_later cells first s s f f2 since2 d1 in
      let c2 : Guard cells first s c f2 = fresh_guard cells first s f f2 c since.laid new in
      bind cells first s f2 (r.run c) _ (hr.run s f2 c since2.laid d2 c2) (λ y f3 since3 ylow.
      fresh_low cells first s f3 (does_when cells first s f3 c y since3.laid (guard_later cells first s s f2 f3 c since3 c2) ylow))))
  does_binary s e p binary.LogicOr l r g hl hr h deep guard =
      bind cells first s e (l.run g) _ (hl.run s e g h deep guard) (λ x f since xlow.
      let g1 : Guard cells first s g f = guard_later cells first s s e f g since guard in
      let d1 : Deep s f.depth = deep_later cells first s s e f since deep in
      bind cells first s f (when g x) _ (does_when cells first s f g x since.laid g1 xlow) (λ v f2 since2 vnew.
      let g2 : Guard cells first s g f2 = guard_later cells first s s f f2 g since2 g1 in
      let d2 : Deep s f2.depth = deep_later cells first s s f f2 since2 d1 in
      let v2 : Spare s f2.next v = fresh_spare cells first s f f2 v since.laid vnew in
      bind cells first s f2 (unless g x) _ (does_unless cells first s f2 g x since2.laid g2 (low_later cells first s f f2 x since2 xlow)) (λ c f3 since3 cnew.
      let c3 : Guard cells first s c f3 = fresh_guard cells first s f2 f3 c since2.laid cnew in
      let d3 : Deep s f3.depth = deep_later cells first s s f2 f3 since3 d2 in
      bind cells first s f3 (r.run c) _ (hr.run s f3 c since3.laid d3 c3) (λ y f4 since4 ylow.
      let v4 : Spare s f4.next v = spare_later cells first s s f3 f4 v since4 (spare_later cells first s s f2 f3 v since3 v2) in
      bind cells first s f4 (emit c (act.Set v op.NotEqual (y ∷ none ∷ []))) (λ _. pure v)
      (does_emit cells first s f4 c (act.Set v op.NotEqual (y ∷ none ∷ [])) since4.laid (guard_later cells first s s f3 f4 c since4 c3) tt (v4.used, refl, two_low cells first f4.next y none ylow (omega (arith, since4.laid.base))) v4) (λ _ f5 since5 _.
      does_pure cells first (Low cells first) s f5 v since5.laid (low_later cells first s f4 f5 v since5 v4.used))))))
  does_binary s e p binary.BitOr l r g hl hr h deep guard = does_both s e p binary.BitOr l r g hl hr h deep guard
  does_binary s e p binary.BitXor l r g hl hr h deep guard = does_both s e p binary.BitXor l r g hl hr h deep guard
  does_binary s e p binary.BitAnd l r g hl hr h deep guard = does_both s e p binary.BitAnd l r g hl hr h deep guard
  does_binary s e p binary.Equal l r g hl hr h deep guard = does_both s e p binary.Equal l r g hl hr h deep guard
  does_binary s e p binary.NotEqual l r g hl hr h deep guard = does_both s e p binary.NotEqual l r g hl hr h deep guard
  does_binary s e p binary.Less l r g hl hr h deep guard = does_both s e p binary.Less l r g hl hr h deep guard
  does_binary s e p binary.Greater l r g hl hr h deep guard = does_both s e p binary.Greater l r g hl hr h deep guard
  does_binary s e p binary.AtMost l r g hl hr h deep guard = does_both s e p binary.AtMost l r g hl hr h deep guard
  does_binary s e p binary.AtLeast l r g hl hr h deep guard = does_both s e p binary.AtLeast l r g hl hr h deep guard
  does_binary s e p binary.ShiftLeft l r g hl hr h deep guard = does_both s e p binary.ShiftLeft l r g hl hr h deep guard
  does_binary s e p binary.ShiftRight l r g hl hr h deep guard = does_both s e p binary.ShiftRight l r g hl hr h deep guard
  does_binary s e p binary.Plus l r g hl hr h deep guard = does_both s e p binary.Plus l r g hl hr h deep guard
  does_binary s e p binary.Minus l r g hl hr h deep guard = does_both s e p binary.Minus l r g hl hr h deep guard
  does_binary s e p binary.Times l r g hl hr h deep guard = does_both s e p binary.Times l r g hl hr h deep guard
  does_binary s e p binary.Divide l r g hl hr h deep guard = does_both s e p binary.Divide l r g hl hr h deep guard
  does_binary s e p binary.Remainder l r g hl hr h deep guard = does_both s e p binary.Remainder l r g hl hr h deep guard

  pub shaped_binary : (u : List Variable → Bool) (p : Place) (o : BinaryOp) (l r : Piece) → Shaped cells first l → Shaped cells first r → (s : Site) (e : Emitted) (g : ℕ) → Laid cells first s e → Deep s e.depth → Guard cells first s g e → Does cells first s e (binary_run p o l r g) (Low cells first)
  shaped_binary u p o l r hl hr s e g h deep guard = does_binary s e p o l r g hl hr h deep guard

  pub does_assign : (s : Site) (e : Emitted) (p : Place) (o : AssignOp) (l r : Piece) (g : ℕ) → Shaped cells first l → Shaped cells first r → Laid cells first s e → Deep s e.depth → Guard cells first s g e → Does cells first s e (assign p o l r g) (Low cells first)
  does_assign s e p PlainAssign l r g hl hr h deep guard =
      bind cells first s e (l.find g) _ (hl.find s e g h deep guard) (λ cs f since fit.
      bind cells first s f (r.run g) _ (hr.run s f g since.laid (deep_later cells first s s e f since deep) (guard_later cells first s s e f g since guard)) (λ v f2 since2 vlow.
      bind cells first s f2 (write cs v) (λ _. pure v) (does_write cells first s f2 cs v since2.laid (cells_later cells first s f f2 cs since2 fit) vlow) (λ _ f3 since3 _.
      does_pure cells first (Low cells first) s f3 v since3.laid (low_later cells first s f2 f3 v since3 vlow))))
  does_assign s e p (With o) l r g hl hr h deep guard =
      bind cells first s e (l.find g) _ (hl.find s e g h deep guard) (λ cs f since fit.
      let g1 : Guard cells first s g f = guard_later cells first s s e f g since guard in
      bind cells first s f (read cs) _ (does_read cells first s f cs since.laid fit) (λ old f2 since2 onew.
      let g2 : Guard cells first s g f2 = guard_later cells first s s f f2 g since2 g1 in
      bind cells first s f2 (r.run g) _ (hr.run s f2 g since2.laid (deep_later cells first s s f f2 since2 (deep_later cells first s s e f since deep)) g2) (λ v f3 since3 vlow.
      bind cells first s f3 (typed p o l r g old v) _ (does_typed cells first s f3 p o l r g old v since3.laid (guard_later cells first s s f2 f3 g since3 g2) (low_later cells first s f2 f3 old since3 onew.used) vlow) (λ new f4 since4 nlow.
      let fit4 : Cells cells first s cs f4 = cells_later cells first s f3 f4 cs since4 (cells_later cells first s f2 f3 cs since3 (cells_later cells first s f f2 cs since2 fit)) in
      bind cells first s f4 (write cs new) (λ _. pure new) (does_write cells first s f4 cs new since4.laid fit4 nlow) (λ _ f5 since5 _.
      does_pure cells first (Low cells first) s f5 new since5.laid (low_later cells first s f4 f5 new since5 nlow))))))

  abbrev pub BothLow : ℕ × ℕ → Emitted → Type 0
  BothLow w f = (w.0 < f.next) × (w.1 < f.next)

  pub does_count : (s : Site) (e : Emitted) (p : Place) (o : StepOp) (l : Piece) (g : ℕ) → Shaped cells first l → Laid cells first s e → Deep s e.depth → Guard cells first s g e → Does cells first s e (count p o l g) BothLow
  does_count s e p o l g hl h deep guard =
      bind cells first s e (l.find g) _ (hl.find s e g h deep guard) (λ cs f since fit.
      let g1 : Guard cells first s g f = guard_later cells first s s e f g since guard in
      bind cells first s f (read cs) _ (does_read cells first s f cs since.laid fit) (λ old f2 since2 onew.
      let g2 : Guard cells first s g f2 = guard_later cells first s s f f2 g since2 g1 in
      let fit2 : Cells cells first s cs f2 = cells_later cells first s f f2 cs since2 fit in
      let d : Does cells first s f2 (operate p (step_op o) (l.unsigned f2.scope) false g old one) (Low cells first) = does_operate cells first s f2 p (step_op o) (l.unsigned f2.scope) false g old one since2.laid g2 onew.used (omega (arith, since2.laid.base)) in
      bind cells first s f2 (λ e. operate p (step_op o) (l.unsigned e.scope) false g old one e) _ (record { since = d.since; gives = d.gives }) (λ new f3 since3 nlow.
      bind cells first s f3 (write cs new) (λ _. pure (old, new)) (does_write cells first s f3 cs new since3.laid (cells_later cells first s f2 f3 cs since3 fit2) nlow) (λ _ f4 since4 _.
      does_pure cells first BothLow s f4 (old, new) since4.laid (low_later cells first s f3 f4 old since4 (low_later cells first s f2 f3 old since3 onew.used), low_later cells first s f3 f4 new since4 nlow)))))

  pub does_choose : (s : Site) (e : Emitted) (t l r : Piece) (g : ℕ) → Shaped cells first t → Shaped cells first l → Shaped cells first r → Laid cells first s e → Deep s e.depth → Guard cells first s g e → Does cells first s e (choose t l r g) (Low cells first)
  does_choose s e t l r g ht hl hr h deep guard =
      bind cells first s e (t.run g) _ (ht.run s e g h deep guard) (λ x f since xlow.
      let g1 : Guard cells first s g f = guard_later cells first s s e f g since guard in
      let d1 : Deep s f.depth = deep_later cells first s s e f since deep in
      bind cells first s f (when g x) _ (does_when cells first s f g x since.laid g1 xlow) (λ a f2 since2 anew.
      let g2 : Guard cells first s g f2 = guard_later cells first s s f f2 g since2 g1 in
      let a2 : Guard cells first s a f2 = fresh_guard cells first s f f2 a since.laid anew in
      let d2 : Deep s f2.depth = deep_later cells first s s f f2 since2 d1 in
      bind cells first s f2 (unless g x) _ (does_unless cells first s f2 g x since2.laid g2 (low_later cells first s f f2 x since2 xlow)) (λ c f3 since3 cnew.
      let a3 : Guard cells first s a f3 = guard_later cells first s s f2 f3 a since3 a2 in
      let c3 : Guard cells first s c f3 = fresh_guard cells first s f2 f3 c since2.laid cnew in
      let d3 : Deep s f3.depth = deep_later cells first s s f2 f3 since3 d2 in
      bind cells first s f3 fresh _ (does_fresh cells first s f3 since3.laid) (λ v f4 since4 vnew.
      let a4 : Guard cells first s a f4 = guard_later cells first s s f3 f4 a since4 a3 in
      let c4 : Guard cells first s c f4 = guard_later cells first s s f3 f4 c since4 c3 in
      let d4 : Deep s f4.depth = deep_later cells first s s f3 f4 since4 d3 in
      let v4 : Spare s f4.next v = fresh_spare cells first s f3 f4 v since3.laid vnew in
      bind cells first s f4 (l.run a) _ (hl.run s f4 a since4.laid d4 a4) (λ y f5 since5 ylow.
      let c5 : Guard cells first s c f5 = guard_later cells first s s f4 f5 c since5 c4 in
      let v5 : Spare s f5.next v = spare_later cells first s s f4 f5 v since5 v4 in
      bind cells first s f5 (copy_to a v y) _ (does_copy cells first s f5 a v y since5.laid (guard_later cells first s s f4 f5 a since5 a4) v5 ylow) (λ _ f6 since6 _.
      let c6 : Guard cells first s c f6 = guard_later cells first s s f5 f6 c since6 c5 in
      let d6 : Deep s f6.depth = deep_later cells first s s f5 f6 since6 (deep_later cells first s s f4 f5 since5 d4) in
      let v6 : Spare s f6.next v = spare_later cells first s s f5 f6 v since6 v5 in
      bind cells first s f6 (r.run c) _ (hr.run s f6 c since6.laid d6 c6) (λ z f7 since7 zlow.
      let v7 : Spare s f7.next v = spare_later cells first s s f6 f7 v since7 v6 in
      bind cells first s f7 (copy_to c v z) (λ _. pure v) (does_copy cells first s f7 c v z since7.laid (guard_later cells first s s f6 f7 c since7 c6) v7 zlow) (λ _ f8 since8 _.
      does_pure cells first (Low cells first) s f8 v since8.laid (low_later cells first s f7 f8 v since8 v7.used)))))))))

  -- ---- stretches and sections

  pub does_outside : (s : Site) (e : Emitted) (m : Emit (Unit {0})) → e.depth ≡ 0 → Does cells first s e m (Any cells first) → Does cells first s e (outside m) (Any cells first)
  does_outside s e m z d =
      record { since = subst (λ (t : Bool). Since cells first s e (cond t m nothing e).1) (sym (outside_zero e.depth z)) d.since; gives = tt }

  pub does_not_outside : (s : Site) (e : Emitted) (m : Emit (Unit {0})) → (e.depth ≡ 0 → ⊥) → Laid cells first s e → Does cells first s e (outside m) (Any cells first)
  does_not_outside s e m deep h =
      record { since = subst (λ (t : Bool). Since cells first s e (cond t m nothing e).1) (sym (ne_eqb e.depth 0 deep)) (since_none cells first s e h); gives = tt }

  spare_pushed : (rs : List Stretch) (g k n l : ℕ) → (l ≡ g → ⊥) → Spare (Out rs) n l → Spare (Out ((g, k) ∷ rs)) n l
  spare_pushed rs g k n l other x = record { high = x.high; used = x.used; apart = (other, x.apart) }

  -- a stretch begins
  pub push : (rs : List Stretch) (e : Emitted) (g : ℕ) → Laid cells first (Out rs) e → Guard cells first (Out rs) g e → Laid cells first (Out ((g, e.next) ∷ rs)) e
  push rs e g h guard = record {
    base = h.base;
    neat = h.neat;
    above = h.above;
    steps = lays_shift cells e.numbers 5 first (Out []) e.steps e.next e.instances (Out rs) (Out ((g, e.next) ∷ rs)) (inr (omega arith), all_has e.next rs rs (λ g k x. x)) h.steps;
    scope = λ l a. spare_pushed rs g e.next e.next l (λ same. guard.apart (subst (Among e.scope) same a)) (h.scope l a);
    site = record { older = ((guard.used, omega arith, guard.other), h.site.older); kept = tt };
  }

  pub push_guard : (rs : List Stretch) (e : Emitted) (g k : ℕ) → Guard cells first (Out rs) g e → Guard cells first (Out ((g, k) ∷ rs)) g e
  push_guard rs e g k guard = record { used = guard.used; at = (inl refl, guard.at); other = guard.other; apart = guard.apart }

  spare_popped : (p : Stretch) (rs : List Stretch) (n l : ℕ) → Spare (Out (p ∷ rs)) n l → Spare (Out rs) n l
  spare_popped p rs n l x = record { high = x.high; used = x.used; apart = x.apart.1 }

  -- it ends
  pub pop : (p : Stretch) (rs : List Stretch) (e : Emitted) → Laid cells first (Out (p ∷ rs)) e → Laid cells first (Out rs) e
  pop p rs e h = record {
    base = h.base;
    neat = h.neat;
    above = h.above;
    steps = lays_shift cells e.numbers 5 first (Out []) e.steps e.next e.instances (Out (p ∷ rs)) (Out rs) (all_has e.next (p ∷ rs) rs (λ g k x. inr x)) h.steps;
    scope = λ l a. spare_popped p rs e.next l (h.scope l a);
    site = record { older = h.site.older.1; kept = tt };
  }

  pub since_pop : (p : Stretch) (rs : List Stretch) (e f : Emitted) → Since cells first (Out (p ∷ rs)) e f → Since cells first (Out rs) e f
  since_pop p rs e f h = record {
    next = h.next;
    numbers = h.numbers;
    numbers_behind = h.numbers_behind;
    numbers_above = h.numbers_above;
    vars = h.vars;
    scope = h.scope;
    cells_new = h.cells_new;
    depth = h.depth;
    laid = pop p rs f h.laid;
  }

  pub does_pop : {A : Type 0} {P : A → Emitted → Type 0} (p : Stretch) (rs : List Stretch) (e : Emitted) (m : Emit A) → Does cells first (Out (p ∷ rs)) e m P → Does cells first (Out rs) e m P
  does_pop p rs e m d = record { since = since_pop p rs e (m e).1 d.since; gives = d.gives }

  pub guard_open : (rs : List Stretch) (g k h : ℕ) (e : Emitted) → Guard cells first (Out rs) h e → Guard cells first (In g k rs) h e
  guard_open rs g k h e x = record { used = x.used; at = x.at; other = x.other; apart = x.apart }

  pub guard_close : (rs : List Stretch) (g k h : ℕ) (e : Emitted) → Guard cells first (In g k rs) h e → Guard cells first (Out rs) h e
  guard_close rs g k h e x = record { used = x.used; at = x.at; other = x.other; apart = x.apart }

  spare_open : (rs : List Stretch) (g k n l : ℕ) → Spare (Out rs) n l → Spare (In g k rs) n l
  spare_open rs g k n l x = record { high = x.high; used = x.used; apart = x.apart }

  spare_close : (rs : List Stretch) (g k n l : ℕ) → Spare (In g k rs) n l → Spare (Out rs) n l
  spare_close rs g k n l x = record { high = x.high; used = x.used; apart = x.apart }

  cell_open : (rs : List Stretch) (g k : ℕ) (e : Emitted) (c : Cell) → CellFits cells first (Out rs) e c → CellFits cells first (In g k rs) e c
  cell_open rs g k e (Own h l) x = (guard_open rs g k h e x.0, spare_open rs g k e.next l x.1)
  cell_open rs g k e (Common h c) x = (guard_open rs g k h e x.0, x.1)

  pub cells_open : (rs : List Stretch) (g k : ℕ) (e : Emitted) (cs : List Cell) → Cells cells first (Out rs) cs e → Cells cells first (In g k rs) cs e
  cells_open rs g k e cs x = each_map (CellFits cells first (Out rs) e) (CellFits cells first (In g k rs) e) (λ c y. cell_open rs g k e c y) cs x

  -- a section opens
  pub does_open : (rs : List Stretch) (e : Emitted) (g k : ℕ) → Laid cells first (Out rs) e → Guard cells first (Out rs) g e → Has rs g k → Does cells first (In g k rs) e (open_there g) (Any cells first)
  does_open rs e g k h guard has = record {
    since = record {
      next = omega arith;
      numbers = [];
      numbers_behind = sym (append-nil e.numbers);
      numbers_above = tt;
      vars = [];
      scope = sym (append-nil e.scope);
      cells_new = λ l none. absurd none;
      depth = refl;
      laid = record {
        base = h.base;
        neat = h.neat;
        above = h.above;
        steps = laid_step cells first (Out rs) (In g k rs) e g act.Open e.instances h guard tt tt (k, has, refl) refl;
        scope = λ l a. spare_open rs g k e.next l (h.scope l a);
        site = record { older = h.site.older; kept = (refl, has) };
      };
    };
    gives = tt;
  }

  -- it closes
  pub does_close : (rs : List Stretch) (e : Emitted) (g k : ℕ) → Laid cells first (In g k rs) e → Guard cells first (In g k rs) g e → Does cells first (Out rs) e (λ x. emit x.opened act.Close x) (Any cells first)
  does_close rs e g k h guard =
      let same : e.opened ≡ g = h.site.kept.0 in
      let own : Guard cells first (In g k rs) e.opened e = subst (λ x. Guard cells first (In g k rs) x e) (sym same) guard in
      record {
        since = record {
          next = omega arith;
          numbers = [];
          numbers_behind = sym (append-nil e.numbers);
          numbers_above = tt;
          vars = [];
          scope = sym (append-nil e.scope);
          cells_new = λ l none. absurd none;
          depth = refl;
          laid = record {
            base = h.base;
            neat = h.neat;
            above = h.above;
            steps = laid_step cells first (In g k rs) (Out rs) e e.opened act.Close e.instances h own tt tt (same, refl) refl;
            scope = λ l a. spare_close rs g k e.next l (h.scope l a);
            site = record { older = h.site.older; kept = tt };
          };
        };
        gives = tt;
      }
