-- Loops, declarations and parameters add steps under their guards.
use Rattle.std.proofs.Common.{◌≡◌, ℕ, zero, suc, ◌+◌, ◌<◌, ◌≤◌, ◌⊎◌, inl, inr, List, [], ◌∷◌, ◌++◌, map, Option, Some, None, refl, sym, ap, ◌∙◌, subst, arith}
use Rattle.std.specs.Prelude.{nat_lt, slice_get, unwrap_or}
use Rattle.dg_base.specs.declared.Place.{Place}
use Rattle.dg_base.specs.declared.operators.Op.TheVariants as op
use Rattle.c_tree.specs.declared.expr.TypeWord.{TypeWord}
use Rattle.c_tree.specs.declared.expr.TypeWord.TheVariants as type
use Rattle.c_tree.specs.declared.expr.Expr.{Expr}
use Rattle.c_tree.specs.declared.stmt.Initialiser.{Initialiser}
use Rattle.c_tree.specs.declared.stmt.Initialiser.TheVariants.{One as Single, Braces}
use Rattle.c_tree.specs.declared.stmt.Declarator.{Declarator}
use Rattle.c_tree.specs.declared.stmt.Start.{Start}
use Rattle.c_tree.specs.declared.stmt.Start.TheVariants as start
use Rattle.c_tree.specs.declared.program.Param.{Param}
use Rattle.c_tree.specs.Operators.{word_unsigned}
use Rattle.c_rules.specs.Names.{Name}
use Rattle.c_rules.specs.Scopes.{first_of}
use Rattle.c_check.specs.Limits.{cell_count}
use Rattle.c_check.specs.Sections.{first_mark, mark_in_option, mark_in_start, mark_in_declarator, mark_in_declarators, mark_in_for}
use Rattle.run_model.specs.Calls.{Setting}
use Rattle.flat_prog.specs.declared.FlatAct.TheVariants as act
use Rattle.emit_steps.specs.declared.state.Variable.{Variable}
use Rattle.loop_unroll.specs.declared.targets.Targets.{Targets}
use Rattle.emit_steps.specs.Emitting.{Emitted, Emit, ◌>>=◌, ◌>>◌, pure, nothing, none, one, fresh_cells, fresh, emit, copy, copy_to, mark, when, unless, stop}
use Rattle.emit_steps.specs.Pieces.{Context, eval}
use Rattle.emit_steps.specs.Calling.{enter, parameter, parameters}
use Rattle.loop_unroll.specs.Stating.{Body, inside, eval_if, spend, leave, targets, one_turn, turns, do_turns, take_cells, store_value, store_values, first_values, declare_one, declare_all, begin_for, if_any, loop, do_loop, either}
use Rattle.emit_steps.proofs.Growth.{Plain, plain_below, plain_behind, New, One, IsGuardOf, Neat, Grown}
use Rattle.emit_steps.proofs.Marks.{both_none}
use Rattle.emit_steps.proofs.Adding.{Since, Adds, since_none, adds_one, adds_pure, adds_nothing, adds_then, adds_cond, adds_fresh, adds_emit, adds_set, adds_copy, adds_mark, adds_stop}
use Rattle.emit_steps.proofs.AddingForms.{since_more}
use Rattle.emit_steps.proofs.AddingExprs.{AddsCalls, adds_piece}
use Rattle.loop_unroll.proofs.AddingBodies.{AddsGuard, guard_then, guard_guard, before_guard, guard_is, guard_fresh, guard_set, guard_join, guard_one, since_scoped, grown_scoped, Behind, AddsBehind, behind_left, behind_then}

-- ---- scopes that grow, where no guard counts

pub record AddsScope {A : Type 0} (gs : List ℕ) (m : Emit A) : Type 0 where
  pub add : (e : Emitted) → Neat e → Behind gs e (m e).1 none

pub behind_out : (gs : List ℕ) (e f : Emitted) (h k : ℕ) → Behind gs e f h → IsGuardOf gs e f k → Behind gs e f k
behind_out gs e f h k b out = record { vars = b.vars; scope = b.scope; since = b.since; stacked = b.stacked; cells = b.cells; out = out }

pub scope_adds : {A : Type 0} (gs : List ℕ) (m : Emit A) → Adds gs m → AddsScope gs m
scope_adds gs m h = record { add = λ e neat. behind_left gs e (m e).1 none (record { since = h.add e neat; out = inr (inl refl) }) }

pub scope_then : {A B : Type 0} (gs : List ℕ) (m : Emit A) (f : A → Emit B) → AddsScope gs m → ((a : A) → AddsScope gs (f a)) → AddsScope gs (m >>= f)
scope_then gs m f h rest = record {
  add = λ e neat.
      let first : Behind gs e (m e).1 none = h.add e neat in
      behind_then gs gs e (m e).1 (f (m e).0 (m e).1).1 none none first (λ k one. inl one) ((rest (m e).0).add (m e).1 first.since.neat);
}

-- a guard behind it
pub scope_guard : (gs : List ℕ) (m : Emit (Unit {0})) (g : ℕ) → One gs g → AddsScope gs m → AddsBehind gs (m >> pure g)
scope_guard gs m g there h = record { add = λ e neat. behind_out gs e (m e).1 none g (h.add e neat) (inl there) }

-- a statement in a scope that grew
pub scope_behind : (gs : List ℕ) (m : Emit (Unit {0})) (f : Emit ℕ) → AddsScope gs m → AddsBehind gs f → AddsBehind gs (m >> f)
scope_behind gs m f h k = record {
  add = λ e neat.
      let first : Behind gs e (m e).1 none = h.add e neat in
      behind_then gs gs e (m e).1 (f (m e).1).1 none (f (m e).1).0 first (λ l one. inl one) (k.add (m e).1 first.since.neat);
}

cell_new : (gs hs : List ℕ) (e f h : Emitted) (n l : ℕ) → e.next + n ≤ f.next → Neat e → Since gs e f → Grown hs f h → Plain f.numbers l → ((e.next ≤ l) × (l < e.next + n)) ⊎ ⊥ → New e h l
cell_new gs hs e f h n l room neat a grown plain (inr off) = absurd off
cell_new gs hs e f h n l room neat a grown plain (inl x) = (x.0, omega (arith, x.1, room, grown.next), plain_behind hs f h l grown (omega (arith, x.1, room)) plain)

cell_at : (gs : List ℕ) (e f h : Emitted) (n l : ℕ) → e.next + n ≤ f.next → Neat e → Since gs e f → Grown gs f h → ((k : ℕ) → e.next ≤ k → k < e.next + n → Plain f.numbers k) → ((e.next ≤ l) × (l < e.next + n)) ⊎ ⊥ → New e h l
cell_at gs e f h n l room neat a grown plain (inl x) = cell_new gs gs e f h n l room neat a grown (plain l x.0 x.1) (inl x)
cell_at gs e f h n l room neat a grown plain (inr off) = absurd off

-- a variable whose cells are new comes into scope, and then more is emitted
entered :
    (gs : List ℕ) (e f h : Emitted) (w : TypeWord) (name : Name) (n : ℕ) → Since gs e f → e.next + n ≤ f.next → Neat e → f.scope ≡ e.scope → ((l : ℕ) → e.next ≤ l → l < e.next + n → Plain f.numbers l) → Since gs (enter w name e.next n f).1 h → Behind gs e h none
entered gs e f h w name n a room neat same plain b =
    let v : Variable = record { name = name; unsigned = word_unsigned w; first = e.next; count = n } in
    let grown : Grown gs f h = grown_scoped gs (enter w name e.next n f).1 h f.scope h.scope b.grown in
    record {
      vars = v ∷ [];
      scope = b.scope ∙ ap (λ vs. vs ++ v ∷ []) same;
      since = since_more gs e f (record h { scope = e.scope }) a (subst (λ vs. Since gs (record f { scope = vs }) (record h { scope = e.scope })) (sym same) (since_scoped gs (enter w name e.next n f).1 h e.scope b));
      stacked = (omega arith, omega (arith, room, b.grown.next));
      cells = λ l x. cell_at gs e f h n l room neat a grown plain x;
      out = inr (inl refl);
    }

-- ---- loops

pub adds_leave : (done g v : ℕ) → AddsGuard (g ∷ []) (leave done g v)
adds_leave done g v =
    guard_guard (g ∷ []) (unless g v) _ (guard_set (g ∷ []) g op.Equal (v ∷ none ∷ []) (inl refl)) (λ out.
    before_guard (out ∷ g ∷ []) (mark out done) (λ _. when g v) (adds_mark (out ∷ g ∷ []) out done (inl refl)) (λ _. guard_set (out ∷ g ∷ []) g op.NotEqual (v ∷ none ∷ []) (inr (inl refl))))

pub adds_spend : (s : Setting) (p : Place) (g : ℕ) → Adds (g ∷ []) (spend s p g)
adds_spend s p g = adds_cond (g ∷ []) s.full (emit g (act.Fail p 1)) (stop g) (adds_emit (g ∷ []) g (act.Fail p 1) (inl refl)) (adds_stop (g ∷ []) g (inl refl))

-- a body inside of another statement
pub record AddsInside (b : Body) : Type 0 where
  pub add : (t : Targets) (g : ℕ) → AddsGuard (g ∷ []) (inside b t g)

pub adds_turn : (body : Body) → AddsInside body → (done result g : ℕ) → AddsGuard (g ∷ []) (one_turn body done result g)
adds_turn body h done result g =
    guard_guard (g ∷ []) fresh _ (guard_fresh (g ∷ [])) (λ again.
    guard_guard (again ∷ g ∷ []) (inside body (targets done again result) g) _ (guard_one (again ∷ g ∷ []) g (inside body (targets done again result) g) (inr (inl refl)) (h.add (targets done again result) g)) (λ out.
    guard_join (out ∷ again ∷ g ∷ []) out again (inl refl) (inr (inl refl))))

pub adds_turns :
    (s : Setting) (p : Place) (n : ℕ) (test : ℕ → Emit ℕ) (body : Body) (step : ℕ → Emit ℕ) (done result g : ℕ) → ((k : ℕ) → Adds (k ∷ []) (test k)) → AddsInside body → ((k : ℕ) → Adds (k ∷ []) (step k)) →
    Adds (g ∷ []) (turns s p n test body step done result g)
adds_turns s p zero test body step done result g ht hb hs =
    guard_then (g ∷ []) (test g >>= leave done g) (spend s p) (before_guard (g ∷ []) (test g) (leave done g) (ht g) (λ v. adds_leave done g v)) (λ on. adds_one (on ∷ g ∷ []) on (spend s p on) (inl refl) (adds_spend s p on))
adds_turns s p (suc n) test body step done result g ht hb hs =
    adds_then (g ∷ []) (test g) _ (ht g) (λ v.
    guard_then (g ∷ []) (leave done g v) _ (adds_leave done g v) (λ on.
    guard_then (on ∷ g ∷ []) (one_turn body done result on) _ (guard_one (on ∷ g ∷ []) on (one_turn body done result on) (inl refl) (adds_turn body hb done result on)) (λ j.
    adds_then (j ∷ on ∷ g ∷ []) (step j) _ (adds_one (j ∷ on ∷ g ∷ []) j (step j) (inl refl) (hs j)) (λ _.
    adds_one (j ∷ on ∷ g ∷ []) j (turns s p n test body step done result j) (inl refl) (adds_turns s p n test body step done result j ht hb hs)))))

pub adds_do_turns :
    (s : Setting) (p : Place) (n : ℕ) (test : ℕ → Emit ℕ) (body : Body) (done result g : ℕ) → ((k : ℕ) → Adds (k ∷ []) (test k)) → AddsInside body → Adds (g ∷ []) (do_turns s p n test body done result g)
adds_do_turns s p zero test body done result g ht hb = adds_spend s p g
adds_do_turns s p (suc n) test body done result g ht hb =
    guard_then (g ∷ []) (one_turn body done result g) _ (adds_turn body hb done result g) (λ j.
    adds_then (j ∷ g ∷ []) (test j) _ (adds_one (j ∷ g ∷ []) j (test j) (inl refl) (ht j)) (λ v.
    guard_then (j ∷ g ∷ []) (leave done j v) _ (guard_one (j ∷ g ∷ []) j (leave done j v) (inl refl) (adds_leave done j v)) (λ on.
    adds_one (on ∷ j ∷ g ∷ []) on (do_turns s p n test body done result on) (inl refl) (adds_do_turns s p n test body done result on ht hb))))

-- two branches, the first of which stands under a guard of its own
pub adds_either : (a : Body) (c : Option Body) → AddsInside a → ((t : Targets) (g : ℕ) → AddsGuard (g ∷ []) (if_any c t g)) → (t : Targets) (g v : ℕ) → AddsGuard (g ∷ []) (either a c t g v)
adds_either a c ha hc t g v =
    guard_guard (g ∷ []) (when g v) _ (guard_set (g ∷ []) g op.NotEqual (v ∷ none ∷ []) (inl refl)) (λ yes_guard.
    guard_guard (yes_guard ∷ g ∷ []) (unless g v) _ (guard_set (yes_guard ∷ g ∷ []) g op.Equal (v ∷ none ∷ []) (inr (inl refl))) (λ no_guard.
    guard_guard (no_guard ∷ yes_guard ∷ g ∷ []) (inside a t yes_guard) _ (guard_one (no_guard ∷ yes_guard ∷ g ∷ []) yes_guard (inside a t yes_guard) (inr (inl refl)) (ha.add t yes_guard)) (λ h.
    guard_guard (h ∷ no_guard ∷ yes_guard ∷ g ∷ []) (if_any c t no_guard) _ (guard_one (h ∷ no_guard ∷ yes_guard ∷ g ∷ []) no_guard (if_any c t no_guard) (inr (inl refl)) (hc t no_guard)) (λ k.
    guard_join (k ∷ h ∷ no_guard ∷ yes_guard ∷ g ∷ []) h k (inr (inl refl)) (inl refl)))))

module _ (cx : Context) (calls : AddsCalls cx) where
  pub adds_eval : (e : Expr) (g : ℕ) → first_mark e ≡ None → Adds (g ∷ []) (eval cx e g)
  adds_eval e g whole = (adds_piece cx calls e whole).run g

  pub adds_eval_if : (other : ℕ) (o : Option Expr) (g : ℕ) → mark_in_option o ≡ None → Adds (g ∷ []) (eval_if cx other o g)
  adds_eval_if other None g whole = adds_pure (g ∷ []) other
  adds_eval_if other (Some e) g whole = adds_eval e g whole

  pub adds_loop : (p : Place) (t e : Option Expr) (b : Body) (k : Targets) (g : ℕ) → mark_in_option t ≡ None → mark_in_option e ≡ None → AddsInside b → AddsGuard (g ∷ []) (loop cx p t e b k g)
  adds_loop p t e b k g ht he hb =
      guard_guard (g ∷ []) fresh _ (guard_fresh (g ∷ [])) (λ done.
      before_guard (done ∷ g ∷ []) (turns cx.setting p cx.setting.turns (eval_if cx one t) b (eval_if cx none e) done k.result g) (λ _. pure done)
      (adds_one (done ∷ g ∷ []) g _ (inr (inl refl)) (adds_turns cx.setting p cx.setting.turns (eval_if cx one t) b (eval_if cx none e) done k.result g (λ j. adds_eval_if one t j ht) hb (λ j. adds_eval_if none e j he)))
      (λ _. guard_is (done ∷ g ∷ []) done (inl refl)))

  pub adds_do_loop : (p : Place) (b : Body) (x : Expr) (k : Targets) (g : ℕ) → first_mark x ≡ None → AddsInside b → AddsGuard (g ∷ []) (do_loop cx p b x k g)
  adds_do_loop p b x k g hx hb =
      guard_guard (g ∷ []) fresh _ (guard_fresh (g ∷ [])) (λ done.
      before_guard (done ∷ g ∷ []) (do_turns cx.setting p cx.setting.turns (eval cx x) b done k.result g) (λ _. pure done)
      (adds_one (done ∷ g ∷ []) g _ (inr (inl refl)) (adds_do_turns cx.setting p cx.setting.turns (eval cx x) b done k.result g (λ j. adds_eval x j hx) hb))
      (λ _. guard_is (done ∷ g ∷ []) done (inl refl)))

  -- ---- declarations

  adds_take : (g l n : ℕ) → Adds (g ∷ []) (take_cells g l n)
  adds_take g l zero = adds_nothing (g ∷ [])
  adds_take g l (suc n) = adds_then (g ∷ []) (emit g (act.Take l)) _ (adds_emit (g ∷ []) g (act.Take l) (inl refl)) (λ _. adds_take g (l + 1) n)

  adds_store : (g l n j : ℕ) (es : List Expr) → first_of (map first_mark es) ≡ None → Adds (g ∷ []) (store_values cx g l n j es)
  adds_store g l n j [] h = adds_nothing (g ∷ [])
  adds_store g l n j (e ∷ es) h =
      let both : (first_mark e ≡ None) × (first_of (map first_mark es) ≡ None) = both_none (first_mark e) (first_of (map first_mark es)) h in
      adds_then (g ∷ []) (eval cx e g) _ (adds_eval e g both.0) (λ v.
      adds_then (g ∷ []) (store_value g l n j v) _ (adds_cond (g ∷ []) (nat_lt j n) (copy_to g (l + j) v) nothing (adds_copy (g ∷ []) g (l + j) v (inl refl)) (adds_nothing (g ∷ []))) (λ _. adds_store g l n (j + 1) es both.1))

  adds_single : (g l n : ℕ) (e : Expr) → first_mark e ≡ None → Adds (g ∷ []) (store_values cx g l n 0 (e ∷ []))
  adds_single g l n e h =
      adds_then (g ∷ []) (eval cx e g) _ (adds_eval e g h) (λ v.
      adds_then (g ∷ []) (store_value g l n 0 v) _ (adds_cond (g ∷ []) (nat_lt 0 n) (copy_to g (l + 0) v) nothing (adds_copy (g ∷ []) g (l + 0) v (inl refl)) (adds_nothing (g ∷ []))) (λ _. adds_nothing (g ∷ [])))

  adds_first : (w : TypeWord) (g l n : ℕ) (o : Option Initialiser) → mark_in_start o ≡ None → Adds (g ∷ []) (first_values cx w g l n o)
  adds_first type.Thread g l n None h = adds_nothing (g ∷ [])
  adds_first type.Int g l n None h = adds_take g l n
  adds_first type.Uint g l n None h = adds_take g l n
  adds_first type.Void g l n None h = adds_take g l n
  adds_first type.VoidPointer g l n None h = adds_take g l n
  adds_first type.Mutex g l n None h = adds_take g l n
  adds_first type.Cond g l n None h = adds_take g l n
  adds_first w g l n (Some (Single e)) h = adds_single g l n e h
  adds_first w g l n (Some (Braces es)) h = adds_store g l n 0 es h

  pub adds_declare_one : (w : TypeWord) (g : ℕ) (d : Declarator) → mark_in_declarator d ≡ None → AddsScope (g ∷ []) (declare_one cx w g d)
  adds_declare_one w g d h = record {
    add = λ e neat.
        let n : ℕ = cell_count d in
        let f : Emitted = (fresh_cells n e).1 in
        let a : Since (g ∷ []) e f = (adds_fresh (g ∷ []) n).add e neat in
        entered (g ∷ []) e f (declare_one cx w g d e).1 w d.name n a (omega arith) neat refl (λ l low high. plain_below e.numbers l e.next low neat) ((adds_first w g e.next n d.initialiser (both_none (mark_in_option d.size) (mark_in_start d.initialiser) h).1).add (enter w d.name e.next n f).1 a.neat);
  }

  pub adds_declare : (w : TypeWord) (g : ℕ) (ds : List Declarator) → mark_in_declarators ds ≡ None → AddsScope (g ∷ []) (declare_all cx w g ds)
  adds_declare w g [] h = scope_adds (g ∷ []) nothing (adds_nothing (g ∷ []))
  adds_declare w g (d ∷ ds) h =
      let both : (mark_in_declarator d ≡ None) × (mark_in_declarators ds ≡ None) = both_none (mark_in_declarator d) (mark_in_declarators ds) h in
      scope_then (g ∷ []) (declare_one cx w g d) (λ _. declare_all cx w g ds) (adds_declare_one w g d both.0) (λ _. adds_declare w g ds both.1)

  pub adds_begin_for : (t : Start) (g : ℕ) → mark_in_for t ≡ None → AddsScope (g ∷ []) (begin_for cx t g)
  adds_begin_for start.Nothing g h = scope_adds (g ∷ []) nothing (adds_nothing (g ∷ []))
  adds_begin_for (start.Expr e) g h = scope_adds (g ∷ []) _ (adds_then (g ∷ []) (eval cx e g) (λ _. nothing) (adds_eval e g h) (λ _. adds_nothing (g ∷ [])))
  adds_begin_for (start.Declare d) g h = adds_declare d.word g d.declarators h

-- ---- parameters

pub adds_parameter : (g : ℕ) (p : Param) (from : ℕ) → AddsScope (g ∷ []) (parameter g p from)
adds_parameter g p from = record {
  add = λ e neat.
      let f : Emitted = (copy g from e).1 in
      let a : Since (g ∷ []) e f = (adds_set (g ∷ []) g op.UnaryPlus (from ∷ []) (inl refl)).add e neat in
      entered (g ∷ []) e f (enter p.word p.name e.next 1 f).1 p.word p.name 1 a (omega arith) neat refl (λ l low high. plain_below e.numbers l e.next low neat) (since_none (g ∷ []) (enter p.word p.name e.next 1 f).1 a.neat);
}

pub adds_parameters : (g i : ℕ) (ps : List Param) (vs : List ℕ) → AddsScope (g ∷ []) (parameters g i ps vs)
adds_parameters g i [] vs = scope_adds (g ∷ []) nothing (adds_nothing (g ∷ []))
adds_parameters g i (p ∷ ps) vs = scope_then (g ∷ []) (parameter g p (unwrap_or (slice_get vs i) none)) (λ _. parameters g (i + 1) ps vs) (adds_parameter g p (unwrap_or (slice_get vs i) none)) (λ _. adds_parameters g (i + 1) ps vs)
