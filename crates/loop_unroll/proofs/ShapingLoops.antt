-- What is emitted for loops, declarations and parameters is laid.
use Rattle.std.proofs.Common.{◌≡◌, ℕ, zero, suc, ◌+◌, ◌<◌, ◌≤◌, ◌⊎◌, inl, inr, List, [], ◌∷◌, ◌++◌, length, take, map, Bool, true, false, Option, Some, None, refl, sym, ap, ◌∙◌, subst, append_assoc, append-nil, arith}
use Rattle.std.proofs.lemmas.Bool.{ltb-true}
use Rattle.std.specs.Prelude.{cond, nat_lt, slice_get, unwrap_or}
use Rattle.dg_base.specs.declared.Place.{Place}
use Rattle.dg_base.specs.declared.operators.Op.TheVariants as op
use Rattle.c_tree.specs.declared.expr.TypeWord.{TypeWord}
use Rattle.c_tree.specs.declared.expr.TypeWord.TheVariants as type
use Rattle.c_tree.specs.declared.expr.Expr.{Expr}
use Rattle.c_tree.specs.declared.stmt.Initialiser.{Initialiser}
use Rattle.c_tree.specs.declared.stmt.Initialiser.TheVariants.{One as Single, Braces}
use Rattle.c_tree.specs.declared.stmt.Declarator.{Declarator}
use Rattle.c_tree.specs.declared.stmt.Start.{Start}
use Rattle.c_tree.specs.declared.stmt.Start.TheVariants as start
use Rattle.c_tree.specs.declared.program.Param.{Param}
use Rattle.c_tree.specs.Operators.{word_unsigned}
use Rattle.c_rules.specs.Names.{Name, or_else}
use Rattle.c_rules.specs.Scopes.{First, first_of}
use Rattle.c_check.specs.Limits.{cell_count}
use Rattle.c_check.specs.Sections.{first_mark, mark_in_option, mark_in_start, mark_in_declarator, mark_in_declarators, mark_in_for}
use Rattle.run_model.specs.Calls.{Setting}
use Rattle.flat_prog.specs.declared.FlatAct.TheVariants as act
use Rattle.emit_steps.specs.declared.state.Variable.{Variable}
use Rattle.emit_steps.specs.Emitting.{Emitted, Emit, ◌>>=◌, pure, nothing, none, one, fresh_cells, fresh, emit, copy, copy_to, mark, when, unless, join_guards, stop, scoped, apart}
use Rattle.emit_steps.specs.Pieces.{Context, eval}
use Rattle.emit_steps.specs.Calling.{enter, parameter, parameters}
use Rattle.emit_steps.proofs.Growth.{each_map}
use Rattle.emit_steps.proofs.Marks.{both_none}
use Rattle.emit_steps.proofs.Running.{Among}
use Rattle.emit_steps.proofs.Laying.{Site}
use Rattle.emit_steps.proofs.Shaping.{Spare, Laid, Since, Does, bind, since_then, does_pure, does_cond, Any, Low, Fresh, Guard, low_later, spare_later, guard_later, fresh_guard, fresh_spare, fresh_later, fresh_before, does_cells, fresh_is, does_fresh, does_emit, does_set, one_low, does_copy, does_mark, does_when, does_unless, does_join, does_stop}
use Rattle.emit_steps.proofs.ShapingForms.{Deep, SharedFit, deep_later}
use Rattle.emit_steps.proofs.ShapingPieces.{EachLow, ShapedCalls, shaped_piece}
use Rattle.loop_unroll.specs.declared.targets.Targets.{Targets}
use Rattle.loop_unroll.specs.Stating.{Body, inside, eval_if, spend, leave, targets, one_turn, turns, do_turns, take_cells, store_value, store_values, first_values, declare_one, declare_all, begin_for, loop, do_loop}
use Rattle.loop_unroll.proofs.AddingBodies.{among_append, take_front}

-- the targets may be written
pub record TargetsFit (s : Site) (n : ℕ) (t : Targets) : Type 0 where
  pub done : Spare s n t.done
  pub again : Spare s n t.again
  pub result : Spare s n t.result

-- the guard is none of the targets
pub record NoTarget (t : Targets) (g : ℕ) : Type 0 where
  pub done : g ≡ t.done → ⊥
  pub again : g ≡ t.again → ⊥
  pub result : g ≡ t.result → ⊥

among_left : (vs ws : List Variable) (l : ℕ) → Among vs l → Among (vs ++ ws) l
among_left [] ws l h = absurd h
among_left (v ∷ vs) ws l (inl here) = inl here
among_left (v ∷ vs) ws l (inr there) = inr (among_left vs ws l there)

module _ (cells first : ℕ) where
  pub targets_later : (s r : Site) (e f : Emitted) (t : Targets) → Since cells first r e f → TargetsFit s e.next t → TargetsFit s f.next t
  targets_later s r e f t h x = record { done = spare_later cells first s r e f t.done h x.done; again = spare_later cells first s r e f t.again h x.again; result = spare_later cells first s r e f t.result h x.result }

  pub fresh_no_target : (s : Site) (e f : Emitted) (t : Targets) (v : ℕ) → TargetsFit s e.next t → Fresh cells first e v f → NoTarget t v
  fresh_no_target s e f t v x new = record {
    done = λ same. absurd (omega (arith, new.new, x.done.used, same));
    again = λ same. absurd (omega (arith, new.new, x.again.used, same));
    result = λ same. absurd (omega (arith, new.new, x.result.used, same));
  }

  pub none_no_target : (s : Site) (n : ℕ) (t : Targets) → TargetsFit s n t → NoTarget t none
  none_no_target s n t x = record {
    done = λ same. absurd (omega (arith, x.done.high, same));
    again = λ same. absurd (omega (arith, x.again.high, same));
    result = λ same. absurd (omega (arith, x.result.high, same));
  }

  -- the guard of what follows
  pub record Next (s : Site) (t : Targets) (h : ℕ) (f : Emitted) : Type 0 where
    pub guard : Guard cells first s h f
    pub apart : NoTarget t h

  pub fresh_next : (s : Site) (e f : Emitted) (t : Targets) (v : ℕ) → Laid cells first s e → TargetsFit s e.next t → Fresh cells first e v f → Next s t v f
  fresh_next s e f t v h x new = record { guard = fresh_guard cells first s e f v h new; apart = fresh_no_target s e f t v x new }

  -- ---- scopes

  laid_scope : (s : Site) (f : Emitted) (vs : List Variable) → Laid cells first s f → ((l : ℕ) → Among vs l → Spare s f.next l) → Laid cells first s (record f { scope = vs })
  laid_scope s f vs h spare = record { base = h.base; neat = h.neat; above = h.above; steps = h.steps; scope = spare; site = h.site }

  guard_scope : (s : Site) (f : Emitted) (vs : List Variable) (g : ℕ) → Guard cells first s g f → (Among vs g → ⊥) → Guard cells first s g (record f { scope = vs })
  guard_scope s f vs g x apart = record { used = x.used; at = x.at; other = x.other; apart = apart }

  since_scope : (s : Site) (e f : Emitted) → Since cells first s e f → Since cells first s e (record f { scope = e.scope })
  since_scope s e f h = record {
    next = h.next;
    numbers = h.numbers;
    numbers_behind = h.numbers_behind;
    numbers_above = h.numbers_above;
    vars = [];
    scope = sym (append-nil e.scope);
    cells_new = λ l none. absurd none;
    depth = h.depth;
    laid = laid_scope s f e.scope h.laid (λ l a. h.laid.scope l (subst (λ vs. Among vs l) (sym h.scope) (among_left e.scope h.vars l a)));
  }

  pub does_scoped : (s : Site) (e : Emitted) (t : Targets) (m : Emit ℕ) → Does cells first s e m (Next s t) → Does cells first s e (scoped m) (Next s t)
  does_scoped s e t m d =
      let f : Emitted = (m e).1 in
      let same : take (length e.scope) f.scope ≡ e.scope = ap (take (length e.scope)) d.since.scope ∙ take_front e.scope d.since.vars in
      record {
        since = subst (λ vs. Since cells first s e (record f { scope = vs })) (sym same) (since_scope s e f d.since);
        gives =
            subst (λ vs. Next s t (m e).0 (record f { scope = vs })) (sym same)
            (record { guard = guard_scope s f e.scope (m e).0 d.gives.guard (λ a. d.gives.guard.apart (subst (λ vs. Among vs (m e).0) (sym d.since.scope) (among_left e.scope d.since.vars (m e).0 a))); apart = d.gives.apart });
      }

  -- the emission with no variables in scope
  pub does_apart : (s : Site) (e : Emitted) (m : Emit ℕ) → Laid cells first s e → Does cells first s (record e { scope = [] }) m (Low cells first) → Does cells first s e (apart m) (Low cells first)
  does_apart s e m h d =
      let inner : Emitted = record e { scope = [] } in
      record {
        since = record {
          next = d.since.next;
          numbers = d.since.numbers;
          numbers_behind = d.since.numbers_behind;
          numbers_above = d.since.numbers_above;
          vars = [];
          scope = sym (append-nil e.scope);
          cells_new = λ l none. absurd none;
          depth = d.since.depth;
          laid = laid_scope s (m inner).1 e.scope d.since.laid (λ l a. spare_later cells first s s inner (m inner).1 l d.since (h.scope l a));
        };
        gives = d.gives;
      }

  pub laid_apart : (s : Site) (e : Emitted) → Laid cells first s e → Laid cells first s (record e { scope = [] })
  laid_apart s e h = laid_scope s e [] h (λ l none. absurd none)

  pub guard_apart : (s : Site) (e : Emitted) (g : ℕ) → Guard cells first s g e → Guard cells first s g (record e { scope = [] })
  guard_apart s e g x = guard_scope s e [] g x (λ none. none)

  -- a variable comes into scope, whose cells are new
  among_entered : (vs ws : List Variable) (v : Variable) (l n : ℕ) → (Among ws l → n ≤ l) → n ≤ v.first → Among (ws ++ v ∷ []) l → n ≤ l
  among_entered vs [] v l n h le (inl here) = omega (arith, here.0)
  among_entered vs [] v l n h le (inr off) = absurd off
  among_entered vs (w ∷ ws) v l n h le (inl here) = h (inl here)
  among_entered vs (w ∷ ws) v l n h le (inr there) = among_entered vs ws v l n (λ a. h (inr a)) le there

  entered_spare : (s : Site) (f : Emitted) (v : Variable) (l : ℕ) → Laid cells first s f → ((k : ℕ) → v.first ≤ k → k < v.first + v.count → Spare s f.next k) → Among f.scope l ⊎ Among (v ∷ []) l → Spare s f.next l
  entered_spare s f v l h spare (inl old) = h.scope l old
  entered_spare s f v l h spare (inr (inl here)) = spare l here.0 here.1
  entered_spare s f v l h spare (inr (inr off)) = absurd off

  since_entered :
      (s : Site) (e f : Emitted) (w : TypeWord) (name : Name) (l n : ℕ) → Since cells first s e f → e.next ≤ l → ((k : ℕ) → l ≤ k → k < l + n → Spare s f.next k) → Since cells first s e (enter w name l n f).1
  since_entered s e f w name l n h low spare =
      let v : Variable = record { name = name; unsigned = word_unsigned w; first = l; count = n } in
      record {
        next = h.next;
        numbers = h.numbers;
        numbers_behind = h.numbers_behind;
        numbers_above = h.numbers_above;
        vars = h.vars ++ v ∷ [];
        scope = ap (λ vs. vs ++ v ∷ []) h.scope ∙ append_assoc e.scope h.vars (v ∷ []);
        cells_new = λ k a. among_entered e.scope h.vars v k e.next (h.cells_new k) low a;
        depth = h.depth;
        laid = laid_scope s f (f.scope ++ v ∷ []) h.laid (λ k a. entered_spare s f v k h.laid spare (among_append f.scope (v ∷ []) k a));
      }

  -- ---- loops

  does_spend : (s : Site) (e : Emitted) (st : Setting) (p : Place) (g : ℕ) → Laid cells first s e → Guard cells first s g e → Does cells first s e (spend st p g) (Any cells first)
  does_spend s e st p g h guard = does_cond cells first s e st.full (emit g (act.Fail p 1)) (stop g) (does_emit cells first s e g (act.Fail p 1) h guard tt tt tt) (does_stop cells first s e g h guard)

  does_leave : (s : Site) (e : Emitted) (done g v : ℕ) → Laid cells first s e → Guard cells first s g e → Spare s e.next done → v < e.next → Does cells first s e (leave done g v) (Fresh cells first e)
  does_leave s e done g v h guard spare low =
      bind cells first s e (unless g v) _ (does_unless cells first s e g v h guard low) (λ out f since new.
      bind cells first s f (mark out done) (λ _. when g v) (does_mark cells first s f out done since.laid (fresh_guard cells first s e f out h new) (spare_later cells first s s e f done since spare)) (λ _ f2 since2 _.
      let both : Since cells first s e f2 = since_then cells first s s e f f2 since since2 in
      let d : Does cells first s f2 (when g v) (Fresh cells first f2) = does_when cells first s f2 g v since2.laid (guard_later cells first s s e f2 g both guard) (low_later cells first s e f2 v both low) in
      record { since = d.since; gives = fresh_before cells first s e f2 (when g v f2).1 (when g v f2).0 both d.gives }))

  -- a body, under a guard that is none of its targets
  pub record ShapedBody (b : Body) : Type 0 where
    pub run : (s : Site) (e : Emitted) (t : Targets) (g : ℕ) → Laid cells first s e → Deep s e.depth → Guard cells first s g e → TargetsFit s e.next t → NoTarget t g → Does cells first s e (b t g) (Next s t)

  pub shaped_inside : (b : Body) → ShapedBody b → ShapedBody (inside b)
  shaped_inside b h = record { run = λ s e t g laid deep guard fit apart. does_scoped s e t (b t g) (h.run s e t g laid deep guard fit apart) }

  does_turn :
      (s : Site) (e : Emitted) (body : Body) (done result g : ℕ) → ShapedBody body → Laid cells first s e → Deep s e.depth → Guard cells first s g e → Spare s e.next done → Spare s e.next result → (g ≡ done → ⊥) → (g ≡ result → ⊥) →
      Does cells first s e (one_turn body done result g) (Fresh cells first e)
  does_turn s e body done result g hb h deep guard sdone sresult ndone nresult =
      bind cells first s e fresh _ (does_fresh cells first s e h) (λ again f since new.
      let t : Targets = targets done again result in
      let sagain : Spare s f.next again = fresh_spare cells first s e f again h new in
      bind cells first s f (inside body t g) _
      ((shaped_inside body hb).run s f t g since.laid (deep_later cells first s s e f since deep) (guard_later cells first s s e f g since guard)
      (record { done = spare_later cells first s s e f done since sdone; again = sagain; result = spare_later cells first s s e f result since sresult })
      (record { done = ndone; again = λ same. absurd (omega (arith, new.new, guard.used, same)); result = nresult })) (λ out f2 since2 next.
      let both : Since cells first s e f2 = since_then cells first s s e f f2 since since2 in
      let d : Does cells first s f2 (join_guards out again) (Fresh cells first f2) = does_join cells first s f2 out again since2.laid next.guard (guard_later cells first s s f f2 again since2 (fresh_guard cells first s e f again h new)) in
      record { since = d.since; gives = fresh_before cells first s e f2 (join_guards out again f2).1 (join_guards out again f2).0 both d.gives }))

  abbrev pub ShapedTest : (ℕ → Emit ℕ) → Type 0
  ShapedTest test = (s : Site) (e : Emitted) (g : ℕ) → Laid cells first s e → Deep s e.depth → Guard cells first s g e → Does cells first s e (test g) (Low cells first)

  older : (e f : Emitted) (v x : ℕ) → Fresh cells first e v f → x < e.next → v ≡ x → ⊥
  older e f v x new low same = absurd (omega (arith, new.new, low, same))

  does_turns :
      (s : Site) (e : Emitted) (st : Setting) (p : Place) (n : ℕ) (test : ℕ → Emit ℕ) (body : Body) (step : ℕ → Emit ℕ) (done result g : ℕ) → ShapedTest test → ShapedBody body → ShapedTest step → Laid cells first s e → Deep s e.depth → Guard cells first s g e →
      Spare s e.next done → Spare s e.next result → Does cells first s e (turns st p n test body step done result g) (Any cells first)
  does_turns s e st p zero test body step done result g ht hb hs h deep guard sdone sresult =
      bind cells first s e (test g >>= leave done g) (spend st p)
      (bind cells first s e (test g) (leave done g) (ht s e g h deep guard) (λ v f since vlow.
      let d : Does cells first s f (leave done g v) (Fresh cells first f) = does_leave s f done g v since.laid (guard_later cells first s s e f g since guard) (spare_later cells first s s e f done since sdone) vlow in
      record { since = d.since; gives = fresh_before cells first s e f (leave done g v f).1 (leave done g v f).0 since d.gives }))
      (λ on f since new. does_spend s f st p on since.laid (fresh_guard cells first s e f on h new))
  does_turns s e st p (suc n) test body step done result g ht hb hs h deep guard sdone sresult =
      bind cells first s e (test g) _ (ht s e g h deep guard) (λ v f since vlow.
      let d1 : Deep s f.depth = deep_later cells first s s e f since deep in
      let done1 : Spare s f.next done = spare_later cells first s s e f done since sdone in
      let result1 : Spare s f.next result = spare_later cells first s s e f result since sresult in
      bind cells first s f (leave done g v) _ (does_leave s f done g v since.laid (guard_later cells first s s e f g since guard) done1 vlow) (λ on f2 since2 onew.
      let d2 : Deep s f2.depth = deep_later cells first s s f f2 since2 d1 in
      let done2 : Spare s f2.next done = spare_later cells first s s f f2 done since2 done1 in
      let result2 : Spare s f2.next result = spare_later cells first s s f f2 result since2 result1 in
      bind cells first s f2 (one_turn body done result on) _
      (does_turn s f2 body done result on hb since2.laid d2 (fresh_guard cells first s f f2 on since.laid onew) done2 result2 (older f f2 on done onew done1.used) (older f f2 on result onew result1.used)) (λ j f3 since3 jnew.
      let d3 : Deep s f3.depth = deep_later cells first s s f2 f3 since3 d2 in
      let j3 : Guard cells first s j f3 = fresh_guard cells first s f2 f3 j since2.laid jnew in
      bind cells first s f3 (step j) (λ _. turns st p n test body step done result j) (hs s f3 j since3.laid d3 j3) (λ _ f4 since4 _.
      let both : Since cells first s f2 f4 = since_then cells first s s f2 f3 f4 since3 since4 in
      does_turns s f4 st p n test body step done result j ht hb hs since4.laid (deep_later cells first s s f3 f4 since4 d3) (guard_later cells first s s f3 f4 j since4 j3) (spare_later cells first s s f2 f4 done both done2) (spare_later cells first s s f2 f4 result both result2)))))

  does_do_turns :
      (s : Site) (e : Emitted) (st : Setting) (p : Place) (n : ℕ) (test : ℕ → Emit ℕ) (body : Body) (done result g : ℕ) → ShapedTest test → ShapedBody body → Laid cells first s e → Deep s e.depth → Guard cells first s g e →
      Spare s e.next done → Spare s e.next result → (g ≡ done → ⊥) → (g ≡ result → ⊥) → Does cells first s e (do_turns st p n test body done result g) (Any cells first)
  does_do_turns s e st p zero test body done result g ht hb h deep guard sdone sresult ndone nresult = does_spend s e st p g h guard
  does_do_turns s e st p (suc n) test body done result g ht hb h deep guard sdone sresult ndone nresult =
      bind cells first s e (one_turn body done result g) _ (does_turn s e body done result g hb h deep guard sdone sresult ndone nresult) (λ j f since jnew.
      let d1 : Deep s f.depth = deep_later cells first s s e f since deep in
      let j1 : Guard cells first s j f = fresh_guard cells first s e f j h jnew in
      bind cells first s f (test j) _ (ht s f j since.laid d1 j1) (λ v f2 since2 vlow.
      let both : Since cells first s e f2 = since_then cells first s s e f f2 since since2 in
      let done2 : Spare s f2.next done = spare_later cells first s s e f2 done both sdone in
      let result2 : Spare s f2.next result = spare_later cells first s s e f2 result both sresult in
      bind cells first s f2 (leave done j v) _ (does_leave s f2 done j v since2.laid (guard_later cells first s s f f2 j since2 j1) done2 vlow) (λ on f3 since3 onew.
      does_do_turns s f3 st p n test body done result on ht hb since3.laid (deep_later cells first s s f2 f3 since3 (deep_later cells first s s f f2 since2 d1)) (fresh_guard cells first s f2 f3 on since2.laid onew)
      (spare_later cells first s s f2 f3 done since3 done2) (spare_later cells first s s f2 f3 result since3 result2) (older f2 f3 on done onew done2.used) (older f2 f3 on result onew result2.used))))

  module _ (cx : Context) (calls : ShapedCalls cells first cx) (fit : SharedFit cells cx.setting.shared) where
    pub does_eval : (x : Expr) → first_mark x ≡ None → ShapedTest (eval cx x)
    does_eval x whole s e g h deep guard = (shaped_piece cells first cx calls fit x whole).run s e g h deep guard

    pub does_eval_if : (other : ℕ) (o : Option Expr) → other < 5 → mark_in_option o ≡ None → ShapedTest (eval_if cx other o)
    does_eval_if other None low whole s e g h deep guard = does_pure cells first (Low cells first) s e other h (omega (arith, h.base))
    does_eval_if other (Some x) low whole s e g h deep guard = does_eval x whole s e g h deep guard

    pub shaped_loop : (p : Place) (x y : Option Expr) (b : Body) → mark_in_option x ≡ None → mark_in_option y ≡ None → ShapedBody b → ShapedBody (loop cx p x y b)
    shaped_loop p x y b hx hy hb = record {
      run = λ s e t g h deep guard tf apart.
          bind cells first s e fresh _ (does_fresh cells first s e h) (λ done f since new.
          bind cells first s f (turns cx.setting p cx.setting.turns (eval_if cx one x) b (eval_if cx none y) done t.result g) (λ _. pure done)
          (does_turns s f cx.setting p cx.setting.turns (eval_if cx one x) b (eval_if cx none y) done t.result g (does_eval_if one x (omega arith) hx) hb (does_eval_if none y (omega arith) hy) since.laid (deep_later cells first s s e f since deep) (guard_later cells first s s e f g since guard)
          (fresh_spare cells first s e f done h new) (spare_later cells first s s e f t.result since tf.result)) (λ _ f2 since2 _.
          does_pure cells first (Next s t) s f2 done since2.laid (fresh_next s e f2 t done h tf (fresh_later cells first s e f f2 done since2 new))));
    }

    pub shaped_do_loop : (p : Place) (b : Body) (x : Expr) → first_mark x ≡ None → ShapedBody b → ShapedBody (do_loop cx p b x)
    shaped_do_loop p b x hx hb = record {
      run = λ s e t g h deep guard tf apart.
          bind cells first s e fresh _ (does_fresh cells first s e h) (λ done f since new.
          bind cells first s f (do_turns cx.setting p cx.setting.turns (eval cx x) b done t.result g) (λ _. pure done)
          (does_do_turns s f cx.setting p cx.setting.turns (eval cx x) b done t.result g (does_eval x hx) hb since.laid (deep_later cells first s s e f since deep) (guard_later cells first s s e f g since guard)
          (fresh_spare cells first s e f done h new) (spare_later cells first s s e f t.result since tf.result) (λ same. absurd (omega (arith, new.new, guard.used, same))) apart.result) (λ _ f2 since2 _.
          does_pure cells first (Next s t) s f2 done since2.laid (fresh_next s e f2 t done h tf (fresh_later cells first s e f f2 done since2 new))));
    }

    -- ---- declarations

    abbrev Cells : Site → Emitted → ℕ → ℕ → Type 0
    Cells s e l n = (k : ℕ) → l ≤ k → k < l + n → Spare s e.next k

    cells_kept : (s : Site) (e f : Emitted) (l n : ℕ) → Since cells first s e f → Cells s e l n → Cells s f l n
    cells_kept s e f l n h x = λ k low high. spare_later cells first s s e f k h (x k low high)

    does_take : (s : Site) (e : Emitted) (g l n : ℕ) → Laid cells first s e → Guard cells first s g e → Cells s e l n → Does cells first s e (take_cells g l n) (Any cells first)
    does_take s e g l zero h guard room = does_pure cells first (Any cells first) s e tt h tt
    does_take s e g l (suc n) h guard room =
        let spare : Spare s e.next l = room l (omega arith) (omega arith) in
        bind cells first s e (emit g (act.Take l)) _ (does_emit cells first s e g (act.Take l) h guard tt spare.used spare) (λ _ f since _.
        does_take s f g (l + 1) n since.laid (guard_later cells first s s e f g since guard) (λ k low high. spare_later cells first s s e f k since (room k (omega arith) (omega arith))))

    does_stored : (s : Site) (e : Emitted) (g l n j v : ℕ) (b : Bool) → nat_lt j n ≡ b → Laid cells first s e → Guard cells first s g e → Cells s e l n → v < e.next → Does cells first s e (cond b (copy_to g (l + j) v) nothing) (Any cells first)
    does_stored s e g l n j v true is h guard room low = let lt : j < n = ltb-true j n is in does_copy cells first s e g (l + j) v h guard (room (l + j) (omega arith) (omega arith)) low
    does_stored s e g l n j v false is h guard room low = does_pure cells first (Any cells first) s e tt h tt

    does_store : (s : Site) (e : Emitted) (g l n j : ℕ) (es : List Expr) → first_of (map first_mark es) ≡ None → Laid cells first s e → Deep s e.depth → Guard cells first s g e → Cells s e l n → Does cells first s e (store_values cx g l n j es) (Any cells first)
    does_store s e g l n j [] whole h deep guard room = does_pure cells first (Any cells first) s e tt h tt
    does_store s e g l n j (x ∷ es) whole h deep guard room =
        let both : (first_mark x ≡ None) × (first_of (map first_mark es) ≡ None) = both_none (first_mark x) (first_of (map first_mark es)) whole in
        bind cells first s e (eval cx x g) _ (does_eval x both.0 s e g h deep guard) (λ v f since vlow.
        let g1 : Guard cells first s g f = guard_later cells first s s e f g since guard in
        bind cells first s f (store_value g l n j v) _ (does_stored s f g l n j v (nat_lt j n) refl since.laid g1 (cells_kept s e f l n since room) vlow) (λ _ f2 since2 _.
        let all : Since cells first s e f2 = since_then cells first s s e f f2 since since2 in
        does_store s f2 g l n (j + 1) es both.1 since2.laid (deep_later cells first s s e f2 all deep) (guard_later cells first s s e f2 g all guard) (cells_kept s e f2 l n all room)))

    single_whole : (x : Expr) → first_mark x ≡ None → first_of (map first_mark (x ∷ [])) ≡ None
    single_whole x h = subst (λ (o : First). or_else o None ≡ None) (sym h) refl

    does_first : (s : Site) (e : Emitted) (w : TypeWord) (g l n : ℕ) (o : Option Initialiser) → mark_in_start o ≡ None → Laid cells first s e → Deep s e.depth → Guard cells first s g e → Cells s e l n → Does cells first s e (first_values cx w g l n o) (Any cells first)
    does_first s e type.Thread g l n None whole h deep guard room = does_pure cells first (Any cells first) s e tt h tt
    does_first s e type.Int g l n None whole h deep guard room = does_take s e g l n h guard room
    does_first s e type.Uint g l n None whole h deep guard room = does_take s e g l n h guard room
    does_first s e type.Void g l n None whole h deep guard room = does_take s e g l n h guard room
    does_first s e type.VoidPointer g l n None whole h deep guard room = does_take s e g l n h guard room
    does_first s e type.Mutex g l n None whole h deep guard room = does_take s e g l n h guard room
    does_first s e type.Cond g l n None whole h deep guard room = does_take s e g l n h guard room
    does_first s e w g l n (Some (Single x)) whole h deep guard room = does_store s e g l n 0 (x ∷ []) (single_whole x whole) h deep guard room
    does_first s e w g l n (Some (Braces es)) whole h deep guard room = does_store s e g l n 0 es whole h deep guard room

    does_declare_one : (s : Site) (e : Emitted) (w : TypeWord) (g : ℕ) (d : Declarator) → mark_in_declarator d ≡ None → Laid cells first s e → Deep s e.depth → Guard cells first s g e → Does cells first s e (declare_one cx w g d) (Any cells first)
    does_declare_one s e w g d whole h deep guard =
        let n : ℕ = cell_count d in
        let f : Emitted = (fresh_cells n e).1 in
        let made : Does cells first s e (fresh_cells n) _ = does_cells cells first s e n h in
        let room : Cells s f e.next n = λ k low high. fresh_spare cells first s e f k h (fresh_is cells first s e f k h low (omega arith) refl refl) in
        let f2 : Emitted = (enter w d.name e.next n f).1 in
        let since : Since cells first s e f2 = since_entered s e f w d.name e.next n made.since (omega arith) room in
        let rest : Does cells first s f2 (first_values cx w g e.next n d.initialiser) (Any cells first) =
        does_first s f2 w g e.next n d.initialiser (both_none (mark_in_option d.size) (mark_in_start d.initialiser) whole).1 since.laid (deep_later cells first s s e f2 since deep) (guard_later cells first s s e f2 g since guard) (λ k low high. let x : Spare s f.next k = room k low high in record { high = x.high; used = x.used; apart = x.apart })
        in record { since = since_then cells first s s e f2 _ since rest.since; gives = tt }

    pub does_declare : (s : Site) (e : Emitted) (w : TypeWord) (g : ℕ) (ds : List Declarator) → mark_in_declarators ds ≡ None → Laid cells first s e → Deep s e.depth → Guard cells first s g e → Does cells first s e (declare_all cx w g ds) (Any cells first)
    does_declare s e w g [] whole h deep guard = does_pure cells first (Any cells first) s e tt h tt
    does_declare s e w g (d ∷ ds) whole h deep guard =
        let both : (mark_in_declarator d ≡ None) × (mark_in_declarators ds ≡ None) = both_none (mark_in_declarator d) (mark_in_declarators ds) whole in
        bind cells first s e (declare_one cx w g d) _ (does_declare_one s e w g d both.0 h deep guard) (λ _ f since _.
        does_declare s f w g ds both.1 since.laid (deep_later cells first s s e f since deep) (guard_later cells first s s e f g since guard))

    pub does_begin_for : (s : Site) (e : Emitted) (t : Start) (g : ℕ) → mark_in_for t ≡ None → Laid cells first s e → Deep s e.depth → Guard cells first s g e → Does cells first s e (begin_for cx t g) (Any cells first)
    does_begin_for s e start.Nothing g whole h deep guard = does_pure cells first (Any cells first) s e tt h tt
    does_begin_for s e (start.Expr x) g whole h deep guard = bind cells first s e (eval cx x g) (λ _. nothing) (does_eval x whole s e g h deep guard) (λ _ f since _. does_pure cells first (Any cells first) s f tt since.laid tt)
    does_begin_for s e (start.Declare d) g whole h deep guard = does_declare s e d.word g d.declarators whole h deep guard

  -- ---- parameters

  value_low : (vs : List ℕ) (i : ℕ) (e : Emitted) → 5 ≤ e.next → EachLow cells first vs e → unwrap_or (slice_get vs i) none < e.next
  value_low [] i e base h = omega arith
  value_low (v ∷ vs) zero e base h = h.0
  value_low (v ∷ vs) (suc i) e base h = value_low vs i e base h.1

  does_parameter : (s : Site) (e : Emitted) (g : ℕ) (p : Param) (from : ℕ) → Laid cells first s e → Guard cells first s g e → from < e.next → Does cells first s e (parameter g p from) (Any cells first)
  does_parameter s e g p from h guard low =
      let d : Does cells first s e (copy g from) (Fresh cells first e) = does_set cells first s e g op.UnaryPlus (from ∷ []) h guard refl (one_low cells first e.next from low) in
      let f : Emitted = (copy g from e).1 in
      let spare : Spare s f.next e.next = fresh_spare cells first s e f e.next h d.gives in
      record { since = since_entered s e f p.word p.name e.next 1 d.since (omega arith) (λ k low high. let same : e.next ≡ k = omega arith in subst (Spare s f.next) same spare); gives = tt }

  each_kept : (s : Site) (e f : Emitted) (vs : List ℕ) → Since cells first s e f → EachLow cells first vs e → EachLow cells first vs f
  each_kept s e f vs h x = each_map (λ v. v < e.next) (λ v. v < f.next) (λ v y. low_later cells first s e f v h y) vs x

  pub does_parameters : (s : Site) (e : Emitted) (g i : ℕ) (ps : List Param) (vs : List ℕ) → Laid cells first s e → Guard cells first s g e → EachLow cells first vs e → Does cells first s e (parameters g i ps vs) (Any cells first)
  does_parameters s e g i [] vs h guard low = does_pure cells first (Any cells first) s e tt h tt
  does_parameters s e g i (p ∷ ps) vs h guard low =
      bind cells first s e (parameter g p (unwrap_or (slice_get vs i) none)) _ (does_parameter s e g p (unwrap_or (slice_get vs i) none) h guard (value_low vs i e h.base low)) (λ _ f since _.
      does_parameters s f g (i + 1) ps vs since.laid (guard_later cells first s s e f g since guard) (each_kept s e f vs since low))
