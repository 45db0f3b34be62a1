-- Expressions as statements, returns and jumps do what the thread does.
use Rattle.std.proofs.Common.{◌≡◌, ℕ, ◌≤◌, inl, inr, List, [], ◌∷◌, refl, sym, ap, ◌∙◌, subst, append-nil, arith}
use Rattle.dg_base.specs.declared.operators.Op.TheVariants as op
use Rattle.run_model.specs.declared.state.Flow.{Flow}
use Rattle.run_model.specs.declared.state.Flow.TheVariants.{Next as Onward, Broke, Continued, Returned}
use Rattle.run_model.specs.declared.state.Halt.TheVariants as halt
use Rattle.run_model.specs.declared.state.Slot.{Slot}
use Rattle.run_model.specs.Steps.{State, Outcome, Step}
use Rattle.run_model.specs.Steps as machine
use Rattle.flat_prog.specs.declared.FlatAct.{FlatAct}
use Rattle.flat_prog.specs.declared.FlatAct.TheVariants as act
use Rattle.flat_prog.specs.Runs.{FlatState, Goes, with_local, set_local}
use Rattle.emit_steps.specs.declared.state.Cell.{Cell}
use Rattle.loop_unroll.specs.declared.targets.Targets.{Targets}
use Rattle.emit_steps.specs.Emitting.{Emitted, Emit, ◌>>◌, pure, none, emit, copy_to}
use Rattle.loop_unroll.specs.Stating.{give, jump}
use Rattle.emit_steps.proofs.Growth.{each_map, One}
use Rattle.emit_steps.proofs.Adding.{Since, adds_emit, guard_of}
use Rattle.loop_unroll.proofs.AddingBodies.{Behind, behind_left, grown_scoped}
use Rattle.emit_steps.proofs.Running.{local_same, local_other, Reaches, plain_in_end, Machine, ran, Beside, Kept, ending_of, Follows, ran_over, ran_short}
use Rattle.emit_steps.proofs.Simulating.{Item, Value, Points, Declared, Held, ValueAt, Denotes, HeldAt, Holds, Val, kept_none, In, in_holds, ran_made, Writable, beside_written}
use Rattle.loop_unroll.proofs.Flows.{Distinct, written, Marked, Post, Flowed, flow_before}

-- ---- nothing is written

value_free : (xs : List ℕ) (e : Emitted) (t : FlatState) (a v : ℕ) → ValueAt xs e t a v → ValueAt [] e t a v
value_free xs e t a v at = (at.0, λ off. absurd off, at.2)

denotes_free : (xs : List ℕ) (e : Emitted) (t : FlatState) (cs : List Cell) (x : Slot) → Denotes xs e t cs x → Denotes [] e t cs x
denotes_free xs e t [] x d = absurd d
denotes_free xs e t (c ∷ cs) x (inl on) = inl (value_free xs e t (guard_of c) 1 on.0, on.1, each_map (λ d. ValueAt xs e t (guard_of d) 0) (λ d. ValueAt [] e t (guard_of d) 0) (λ d at. value_free xs e t (guard_of d) 0 at) cs on.2)
denotes_free xs e t (c ∷ cs) x (inr off) = inr (value_free xs e t (guard_of c) 0 off.0, denotes_free xs e t cs x off.1)

item_free : (xs : List ℕ) (e : Emitted) (t : FlatState) (p : Item) → HeldAt xs e t p → HeldAt [] e t p
item_free xs e t (Value a v) at = value_free xs e t a v at
item_free xs e t (Points cs x) at = denotes_free xs e t cs x at
item_free xs e t (Declared i v) at = at

-- what is held where some locals are written is held where none is
pub holds_free : (xs : List ℕ) (e : Emitted) (t : FlatState) (held : Held) → Holds xs e t held → Holds [] e t held
holds_free xs e t held h = record {
  low = λ x off. absurd off;
  high = λ x off. absurd off;
  plain = λ x off. absurd off;
  apart = λ x off. absurd off;
  opened = λ deep off. off;
  all = each_map (HeldAt xs e t) (HeldAt [] e t) (λ p at. item_free xs e t p at) held h.all;
}

pub kept_more : (xs : List ℕ) (e : Emitted) (t u : FlatState) → Kept [] e t u → Kept xs e t u
kept_more xs e t u kept l used apart other free = kept l used apart other (λ off. off)

one_done : (t : Targets) → One (written t) t.done
one_done t = inl refl

one_again : (t : Targets) → One (written t) t.again
one_again t = inr (inl refl)

one_result : (t : Targets) → One (written t) t.result
one_result t = inr (inr (inl refl))

target_kept : (t : Targets) (e : Emitted) (u v : FlatState) (held : Held) (x : ℕ) → One (written t) x → Holds (written t) e u held → Kept [] e u v → v.values x ≡ u.values x
target_kept t e u v held x there h kept = kept x (h.low x there) (h.apart x there) (λ same. let high : 5 ≤ x = h.high x there in absurd (omega arith)) (λ off. off)

-- an expression leaves the targets as they are
pub marked_kept : (t : Targets) (e : Emitted) (u v : FlatState) (held : Held) (a b c : ℕ) → Holds (written t) e u held → Kept [] e u v → Marked t u a b c → Marked t v a b c
marked_kept t e u v held a b c h kept is =
    (target_kept t e u v held t.done (one_done t) h kept ∙ is.0, target_kept t e u v held t.again (one_again t) h kept ∙ is.1, target_kept t e u v held t.result (one_result t) h kept ∙ is.2)

module _ (m : Machine) where
  -- a value, and then a statement that goes by it
  pub flow_value :
      (t : Targets) (gs hs : List ℕ) (e : Emitted) (u : FlatState) (em : Emit ℕ) (f : ℕ → Emit ℕ) (k : ℕ → Step Flow) (o : Outcome ℕ) → Since gs e (em e).1 → Behind hs (em e).1 (f (em e).0 (em e).1).1 (f (em e).0 (em e).1).0 →
      ((v : ℕ) (w : FlatState) (r : State) → Beside m (em e).1 w r → Kept [] e u w → ValueAt [] (em e).1 w (em e).0 v → Flowed m t (em e).1 w (f (em e).0 (em e).1) (k v r)) →
      Follows (Val []) m [] e u (em e) o → Flowed m t e u (f (em e).0 (em e).1) (machine.go_on o k)
  flow_value t gs hs e u em f k (machine.Goes v r) since rest next w =
      flow_before m gs t e (em e).1 none u w.state (f (em e).0 (em e).1) (k v r) (behind_left gs e (em e).1 none (record { since = since; out = inr (inl refl) })) (kept_more (written t) e u w.state w.kept) (next v w.state r w.beside w.kept w.answer)
  flow_value t gs hs e u em f k (machine.Halts (halt.Over x) r) since rest next w =
      record { state = w.state; over = ran_over m hs (em e).1 (f (em e).0 (em e).1).1 (ending_of x) w.state (grown_scoped hs (em e).1 (record (f (em e).0 (em e).1).1 { scope = (em e).1.scope }) (em e).1.scope (f (em e).0 (em e).1).1.scope rest.since.grown) w.over; used = w.used; actions = w.actions }
  flow_value t gs hs e u em f k (machine.Halts (halt.Short n) r) since rest next w =
      record { state = w.state; short = ran_short m hs (em e).1 (f (em e).0 (em e).1).1 w.state (grown_scoped hs (em e).1 (record (f (em e).0 (em e).1).1 { scope = (em e).1.scope }) (em e).1.scope (f (em e).0 (em e).1).1.scope rest.since.grown) w.short }

  -- what stays where it is: control comes to the end
  pub stays : (t : Targets) (e : Emitted) (u : FlatState) (s : State) (g : ℕ) → Beside m e u s → ValueAt (written t) e u g 1 → Marked t u 0 0 0 → Flowed m t e u (pure g e) (machine.Goes Onward s)
  stays t e u s g b live is = record {
    state = u;
    vars = [];
    more = [];
    scope = sym (append-nil e.scope);
    exact = λ _. refl;
    beside = subst (λ vs. Beside m (record e { scope = vs }) u s) (sym (append-nil e.scope)) b;
    kept = kept_none (written t) e u;
    post = (live, is);
  }

  -- a target is written, and nothing is behind
  pub leaves :
      (t : Targets) (held : Held) (e : Emitted) (u : FlatState) (s : State) (g x v : ℕ) (a : FlatAct) (flow : Flow) → One (written t) x → Beside m e u s → Reaches (emit g a e).1 m.last → Holds (written t) e u held →
      ran m (emit g a e).1 ≡ Goes (set_local x v u) → (flow ≡ Onward → ⊥) → Post t (emit g a e).1 (set_local x v u) none flow → Flowed m t e u ((emit g a >> pure none) e) (machine.Goes flow s)
  leaves t held e u s g x v a flow there b reach h run not post =
      let f : Emitted = (emit g a e).1 in
      let since : Since (g ∷ []) e f = (adds_emit (g ∷ []) g a (inl refl)).add e b.neat in
      let may : Writable m e f x = record {
        high = h.high x there;
        used = h.low x there;
        plain = plain_in_end f m.last x reach (h.low x there) (h.plain x there);
        apart = h.apart x there;
        opened = λ deep same. h.opened deep (subst (One (written t)) (sym same) there);
      } in
      record {
        state = set_local x v u;
        vars = [];
        more = [];
        scope = sym (append-nil e.scope);
        exact = λ _. refl;
        beside = subst (λ vs. Beside m (record f { scope = vs }) (set_local x v u) s) (sym (append-nil e.scope)) (beside_written m (g ∷ []) e f u s x v since b may run);
        kept = λ l used apart other free. local_other u.values x v l (λ same. free (subst (One (written t)) (sym same) there));
        post = post;
      }

  -- the local that holds 0 still does
  none_kept : (t : Targets) (e : Emitted) (u : FlatState) (s : State) (held : Held) (x v : ℕ) → One (written t) x → Beside m e u s → Holds (written t) e u held → with_local u.values x v none ≡ 0
  none_kept t e u s held x v there b h = local_other u.values x v 3 (λ same. let high : 5 ≤ x = h.high x there in absurd (omega arith)) ∙ b.constants.none

  pub breaks : (t : Targets) → Distinct t → (held : Held) (g : ℕ) → In m held g 1 → (e : Emitted) (u : FlatState) (s : State) → Beside m e u s → Reaches (jump g t.done e).1 m.last → Holds (written t) e u held → Marked t u 0 0 0 → Flowed m t e u (jump g t.done e) (machine.Goes Broke s)
  breaks t d held g live e u s b reach h is =
      leaves t held e u s g t.done 1 (act.Put t.done 1) Broke (one_done t) b reach h (ran_made m e u g (act.Put t.done 1) b.ran (in_holds m (written t) e u held g 1 h.all live).2) (λ same. absurd (let no : Broke ≡ Onward = same in cc)) (
        none_kept t e u s held t.done 1 (one_done t) b h,
        (local_same u.values t.done 1, local_other u.values t.done 1 t.again (λ same. d.done_again (sym same)) ∙ is.1, local_other u.values t.done 1 t.result (λ same. d.done_result (sym same)) ∙ is.2),
      )

  pub goes_again : (t : Targets) → Distinct t → (held : Held) (g : ℕ) → In m held g 1 → (e : Emitted) (u : FlatState) (s : State) → Beside m e u s → Reaches (jump g t.again e).1 m.last → Holds (written t) e u held → Marked t u 0 0 0 → Flowed m t e u (jump g t.again e) (machine.Goes Continued s)
  goes_again t d held g live e u s b reach h is =
      leaves t held e u s g t.again 1 (act.Put t.again 1) Continued (one_again t) b reach h (ran_made m e u g (act.Put t.again 1) b.ran (in_holds m (written t) e u held g 1 h.all live).2) (λ same. absurd (let no : Continued ≡ Onward = same in cc)) (
        none_kept t e u s held t.again 1 (one_again t) b h,
        (local_other u.values t.again 1 t.done d.done_again ∙ is.0, local_same u.values t.again 1, local_other u.values t.again 1 t.result (λ same. d.again_result (sym same)) ∙ is.2),
      )

  -- the value goes to the result
  pub gives : (t : Targets) → Distinct t → (held : Held) (g a v : ℕ) → In m held g 1 → (e : Emitted) (u : FlatState) (s : State) → Beside m e u s → Reaches (give t g a e).1 m.last → Holds (written t) e u held → Marked t u 0 0 0 → u.values a ≡ v → Flowed m t e u (give t g a e) (machine.Goes (Returned v) s)
  gives t d held g a v live e u s b reach h is value =
      let run : ran m (copy_to g t.result a e).1 ≡ Goes (set_local t.result (u.values a) u) = ran_made m e u g (act.Set t.result op.UnaryPlus (a ∷ [])) b.ran (in_holds m (written t) e u held g 1 h.all live).2 in
      leaves t held e u s g t.result v (act.Set t.result op.UnaryPlus (a ∷ [])) (Returned v) (one_result t) b reach h (run ∙ ap (λ w. Goes (set_local t.result w u)) value) (λ same. absurd (let no : Returned v ≡ Onward = same in cc)) (
        none_kept t e u s held t.result v (one_result t) b h,
        (local_other u.values t.result v t.done d.done_result ∙ is.0, local_other u.values t.result v t.again d.again_result ∙ is.1, local_same u.values t.result v),
      )
