-- Statements that leave no variable in scope, and branches: what is emitted does what the thread does.
use Rattle.std.proofs.Common.{◌≡◌, ℕ, ◌<◌, ◌≤◌, inl, inr, List, [], ◌∷◌, Bool, true, false, Option, Some, None, refl, ap, ◌∙◌, arith}
use Rattle.std.specs.Prelude.{cond, nat_eq, not}
use Rattle.dg_base.specs.declared.operators.Op.TheVariants as op
use Rattle.dg_base.specs.Values.{is_true, truth_of}
use Rattle.run_model.specs.declared.state.Flow.{Flow}
use Rattle.run_model.specs.Steps.{State, Outcome, Step}
use Rattle.run_model.specs.Steps as machine
use Rattle.run_model.specs.Calls.{Meaning}
use Rattle.run_model.specs.Statements as model
use Rattle.flat_prog.specs.Runs.{FlatState}
use Rattle.loop_unroll.specs.declared.targets.Targets.{Targets}
use Rattle.emit_steps.specs.Emitting.{Emitted, Emit, ◌>>=◌, none, when, unless, join_guards}
use Rattle.emit_steps.specs.Pieces.{Piece}
use Rattle.loop_unroll.specs.Stating.{Body, inside, if_any, either}
use Rattle.emit_steps.proofs.Growth.{One}
use Rattle.emit_steps.proofs.Adding.{Since, Adds, adds_set, adds_join}
use Rattle.emit_steps.proofs.AddingForms.{since_more}
use Rattle.loop_unroll.proofs.AddingBodies.{Left, AddsGuard, guard_then, before_guard, guard_is, guard_one, behind_left, adds_left, scoped_left}
use Rattle.loop_unroll.proofs.AddingStatements.{adds_either}
use Rattle.emit_steps.proofs.Running.{Reaches, reaches_before, Machine, Beside, Kept, WentOn, beside_dead, guard_zero}
use Rattle.emit_steps.proofs.Simulating.{Value, in_holds, Held, ValueAt, Holds, Val, holds_behind, value_behind, kept_then, kept_none, In}
use Rattle.emit_steps.proofs.Finding.{sim_when, sim_unless}
use Rattle.emit_steps.proofs.Evaluating.{SimPiece}
use Rattle.loop_unroll.proofs.Flows.{Distinct, written, Marked, Flowed, SimBody, scoped_flow, flow_before}
use Rattle.loop_unroll.proofs.Leaving.{holds_free, kept_more, marked_kept, flow_value, stays}
use Rattle.loop_unroll.proofs.Joining.{rest_since, taken_first, second_follows, stays_off}

-- more is held
pub holds_more : (xs : List ℕ) (e : Emitted) (t : FlatState) (held : Held) (a v : ℕ) → ValueAt xs e t a v → Holds xs e t held → Holds xs e t (Value a v ∷ held)
holds_more xs e t held a v at h = record { low = h.low; high = h.high; plain = h.plain; apart = h.apart; opened = h.opened; all = (at, h.all) }

-- a value that is in a local which was new is in none of those that are written
pub value_new : (xs : List ℕ) (e f : Emitted) (t u : FlatState) (held : Held) (a v : ℕ) → Holds xs e t held → e.next ≤ a → ValueAt [] f u a v → ValueAt xs f u a v
value_new xs e f t u held a v h new at = (at.0, λ some. let low : a < e.next = h.low a some in absurd (omega arith), at.2)

pub one_zero : (y l : ℕ) (u : FlatState) → u.values y ≡ 0 → One (y ∷ []) l → u.values l ≡ 0
one_zero y l u off (inl same) = ap u.values same ∙ off
one_zero y l u off (inr none_there) = absurd none_there

module _ (m : Machine) where
  -- a statement that leaves no variable in scope
  pub record SimPart (b : Body) (st : Step Flow) : Type 0 where
    pub adds : (t : Targets) (g : ℕ) → AddsGuard (g ∷ []) (b t g)
    pub live :
        (t : Targets) → Distinct t → (held : Held) (g : ℕ) → In m held g 1 → (e : Emitted) (u : FlatState) (s : State) → Beside m e u s → Reaches (b t g e).1 m.last → Holds (written t) e u held → Marked t u 0 0 0 →
        Flowed m t e u (b t g e) (st s)

  pub part_body : (b : Body) (st : Step Flow) → SimPart b st → SimBody m b st
  part_body b st h = record { adds = λ t g. adds_left (g ∷ []) (b t g) (h.adds t g); live = h.live }

  -- a statement in a scope of its own
  pub inside_part : (b : Body) (st : Step Flow) → SimBody m b st → SimPart (inside b) (model.scoped st)
  inside_part b st h = record {
    adds = λ t g. scoped_left (g ∷ []) (b t g) (h.adds t g);
    live = λ t d held g there e u s beside reach holds is.
        scoped_flow m t e u s (b t g) st beside (h.live t d held g there e u s beside (record { numbers = reach.numbers; numbers_behind = reach.numbers_behind; numbers_above = reach.numbers_above; created = reach.created; created_behind = reach.created_behind }) holds is);
  }

  -- a statement that may be absent
  abbrev pub SimSome : Option Body → Option (Step Flow) → Type 0
  SimSome None None = Unit {0}
  SimSome None (Some st) = ⊥
  SimSome (Some b) None = ⊥
  SimSome (Some b) (Some st) = SimBody m b st

  pub any_part : (c : Option Body) (st : Option (Step Flow)) → SimSome c st → SimPart (if_any c) (model.if_any st)
  any_part None None h = record {
    adds = λ t g. guard_is (g ∷ []) g (inl refl);
    live = λ t d held g there e u s b reach holds is. stays m t e u s g b (in_holds m (written t) e u held g 1 holds.all there) is;
  }
  any_part None (Some st) h = absurd h
  any_part (Some b) None h = absurd h
  any_part (Some b) (Some st) h = inside_part b st h

  -- ---- one of two

  -- what stands behind the guards of two statements
  tail_adds : (p q : Emit ℕ) (y z : ℕ) → AddsGuard (y ∷ []) p → AddsGuard (z ∷ []) q → Adds (y ∷ z ∷ []) (p >>= (λ h. q >>= join_guards h))
  tail_adds p q y z hp hq =
      guard_then (y ∷ z ∷ []) p _ (guard_one (y ∷ z ∷ []) y p (inl refl) hp) (λ h.
      guard_then (h ∷ y ∷ z ∷ []) q (join_guards h) (guard_one (h ∷ y ∷ z ∷ []) z q (inr (inr (inl refl))) hq) (λ k. adds_join (k ∷ h ∷ y ∷ z ∷ []) h k (inr (inl refl)) (inl refl)))

  -- two statements, each under a guard of its own, of which one is 1
  pub chosen :
      (p q : Body) (sp sq : Step Flow) → SimPart p sp → SimPart q sq → (t : Targets) → Distinct t → (held : Held) (y z : ℕ) (b : Bool) (e : Emitted) (u : FlatState) (s : State) → Beside m e u s →
      Reaches ((p t y >>= (λ h. q t z >>= join_guards h)) e).1 m.last → Holds (written t) e u held → ValueAt (written t) e u y (truth_of (not b)) → ValueAt (written t) e u z (truth_of b) → Marked t u 0 0 0 →
      Flowed m t e u ((p t y >>= (λ h. q t z >>= join_guards h)) e) (cond (not b) sp sq s)
  chosen p q sp sq hp hq t d held y z false e u s b reach holds on off is =
      let left : Left (y ∷ []) e (p t y e).1 (p t y e).0 = (hp.adds t y).add e b.neat in
      let rest : Since (z ∷ (p t y e).0 ∷ []) (p t y e).1 ((p t y >>= (λ h. q t z >>= join_guards h)) e).1 = rest_since m (p t y e).1 (p t y e).0 z (q t z) left.since.neat (hq.adds t z) in
      taken_first m t held (y ∷ []) e u (p t y) z (q t z) (sp s) left.since (hq.adds t z) reach holds off.0.used (λ w kept. kept z off.0.used off.0.apart off.0.other off.1 ∙ off.2)
      (hp.live t d (Value y 1 ∷ held) y (inl (refl, refl)) e u s b (reaches_before (z ∷ (p t y e).0 ∷ []) (p t y e).1 ((p t y >>= (λ h. q t z >>= join_guards h)) e).1 m.last rest.grown reach) (holds_more (written t) e u held y 1 on holds) is)
  chosen p q sp sq hp hq t d held y z true e u s b reach holds off on is =
      let f : Emitted = (p t y e).1 in
      let h : ℕ = (p t y e).0 in
      let left : Left (y ∷ []) e f h = (hp.adds t y).add e b.neat in
      let second : Left (z ∷ []) f (q t z f).1 (q t z f).0 = (hq.adds t z).add f left.since.neat in
      let hs : List ℕ = h ∷ (q t z f).0 ∷ [] in
      let joins : Since hs (q t z f).1 (join_guards h (q t z f).0 (q t z f).1).1 = (adds_join hs h (q t z f).0 (inl refl) (inr (inl refl))).add (q t z f).1 second.since.neat in
      let reach_q : Reaches (q t z f).1 m.last = reaches_before hs (q t z f).1 (join_guards h (q t z f).0 (q t z f).1).1 m.last joins.grown reach in
      let reach_p : Reaches f m.last = reaches_before (z ∷ []) f (q t z f).1 m.last second.since.grown reach_q in
      let same : Kept (written t) e u u = kept_none (written t) e u in
      let b_f : Beside m f u s = beside_dead m (y ∷ []) e f u s left.since reach_p b (λ l one. one_zero y l u off.2 one) in
      let h_f : Holds (written t) f u held = holds_behind (y ∷ []) (written t) e f u u held left.since same holds in
      let on_f : ValueAt (written t) f u z 1 = value_behind (y ∷ []) (written t) e f u u z 1 left.since same on in
      let off_f : ValueAt (written t) f u y 0 = value_behind (y ∷ []) (written t) e f u u y 0 left.since same off in
      let off_h : u.values h ≡ 0 = guard_zero m (y ∷ []) e f u h reach_p b.idle b.constants.none (λ l one. one_zero y l u off.2 one) left.out in
      flow_before m (y ∷ []) t e f h u u ((q t z >>= join_guards h) f) (sq s) (behind_left (y ∷ []) e f h left) same
      (second_follows m t held (z ∷ []) f u (q t z) h (sq s) second.since reach h_f
      (λ w kept zero_there. stays_off m t e f u w s held y h b holds left.since.scope left.out off_h zero_there (kept y off_f.0.used off_f.0.apart off_f.0.other off_f.1 ∙ off_f.2) kept)
      (hq.live t d (Value z 1 ∷ held) z (inl (refl, refl)) f u s b_f reach_q (holds_more (written t) f u held z 1 on_f h_f) is))

  -- the guards of both branches, and what is behind them
  pub either_flow :
      (a : Body) (c : Option Body) (sa : Step Flow) (sc : Option (Step Flow)) → SimBody m a sa → SimSome c sc → (t : Targets) → Distinct t → (held : Held) (g x v : ℕ) → In m held g 1 → (e : Emitted) (u : FlatState) (s : State) → Beside m e u s →
      Reaches (either a c t g x e).1 m.last → Holds (written t) e u held → Marked t u 0 0 0 → ValueAt [] e u x v → Flowed m t e u (either a c t g x e) (cond (is_true v) (model.scoped sa) (model.if_any sc) s)
  either_flow a c sa sc ha hc t d held g x v there e u s b reach holds is at =
      let p : SimPart (inside a) (model.scoped sa) = inside_part a sa ha in
      let q : SimPart (if_any c) (model.if_any sc) = any_part c sc hc in
      let before : Held = Value x v ∷ held in
      let e1 : Emitted = (when g x e).1 in
      let e2 : Emitted = (unless g x e1).1 in
      let y : ℕ = e.next in
      let z : ℕ = e1.next in
      let gs : List ℕ = g ∷ [] in
      let s1 : Since gs e e1 = (adds_set gs g op.NotEqual (x ∷ none ∷ []) (inl refl)).add e b.neat in
      let s2 : Since gs e1 e2 = (adds_set gs g op.Equal (x ∷ none ∷ []) (inl refl)).add e1 s1.neat in
      let tail : Since (y ∷ z ∷ []) e2 (either a c t g x e).1 = (tail_adds (inside a t y) (if_any c t z) y z (p.adds t y) (q.adds t z)).add e2 s2.neat in
      let reach2 : Reaches e2 m.last = reaches_before (y ∷ z ∷ []) e2 (either a c t g x e).1 m.last tail.grown reach in
      let reach1 : Reaches e1 m.last = reaches_before gs e1 e2 m.last s2.grown reach2 in
      let h0 : Holds [] e u before = holds_more [] e u held x v at (holds_free (written t) e u held holds) in
      let w1 : WentOn (Val []) m [] e u e1 y (truth_of (is_true v)) s = (sim_when m [] before g x v (inl (inr there)) (inl (inl (refl, refl)))).live e u s b reach1 h0 in
      let h1 : Holds [] e1 w1.state before = holds_behind gs [] e e1 u w1.state before s1 w1.kept h0 in
      let w2 : WentOn (Val []) m [] e1 w1.state e2 z (truth_of (nat_eq v 0)) s = (sim_unless m [] before g x v (inl (inr there)) (inl (inl (refl, refl)))).live e1 w1.state s w1.beside reach2 h1 in
      let kept : Kept [] e u w2.state = kept_then gs [] e e1 u w1.state w2.state s1 w1.kept w2.kept in
      let both : Since gs e e2 = since_more gs e e1 e2 s1 s2 in
      let h2 : Holds (written t) e2 w2.state held = holds_behind gs (written t) e e2 u w2.state held both (kept_more (written t) e u w2.state kept) holds in
      let at_y : ValueAt (written t) e2 w2.state y (truth_of (is_true v)) = value_new (written t) e e2 u w2.state held y (truth_of (is_true v)) holds (omega arith) (value_behind gs [] e1 e2 w1.state w2.state y (truth_of (is_true v)) s2 w2.kept w1.answer) in
      let at_z : ValueAt (written t) e2 w2.state z (truth_of (nat_eq v 0)) = value_new (written t) e e2 u w2.state held z (truth_of (nat_eq v 0)) holds s1.grown.next w2.answer in
      flow_before m gs t e e2 none u w2.state (either a c t g x e) (cond (is_true v) (model.scoped sa) (model.if_any sc) s) (behind_left gs e e2 none (record { since = both; out = inr (inl refl) })) (kept_more (written t) e u w2.state kept)
      (chosen (inside a) (if_any c) (model.scoped sa) (model.if_any sc) p q t d held y z (nat_eq v 0) e2 w2.state s w2.beside reach h2 at_y at_z (marked_kept t e u w2.state held 0 0 0 holds kept is))

  -- a test, and then one of two statements
  pub if_part :
      (x : Piece) (y : Meaning) (a : Body) (c : Option Body) (sa : Step Flow) (sc : Option (Step Flow)) → SimPiece m x y → SimBody m a sa → SimSome c sc →
      SimPart (λ t g. x.run g >>= either a c t g) (machine.◌>>=◌ y.run (λ v. cond (is_true v) (model.scoped sa) (model.if_any sc)))
  if_part x y a c sa sc h ha hc =
      let branches : (t : Targets) (g v : ℕ) → AddsGuard (g ∷ []) (either a c t g v) = adds_either a c (record { add = (inside_part a sa ha).adds }) (any_part c sc hc).adds in
      record {
        adds = λ t g. before_guard (g ∷ []) (x.run g) (either a c t g) (h.adds.run g) (branches t g);
        live = λ t d held g there e u s b reach holds is.
            let f : Emitted = (x.run g e).1 in
            let k : ℕ = (x.run g e).0 in
            let first : Since (g ∷ []) e f = (h.adds.run g).add e b.neat in
            let rest : Left (g ∷ []) f (either a c t g k f).1 (either a c t g k f).0 = (branches t g k).add f first.neat in
            flow_value m t (g ∷ []) (g ∷ []) e u (x.run g) (either a c t g) (λ v. cond (is_true v) (model.scoped sa) (model.if_any sc)) (y.run s) first (behind_left (g ∷ []) f (either a c t g k f).1 (either a c t g k f).0 rest)
            (λ v w r beside kept at.
            either_flow a c sa sc ha hc t d held g k v there f w r beside reach (holds_behind (g ∷ []) (written t) e f u w held first (kept_more (written t) e u w kept) holds) (marked_kept t e u w held 0 0 0 holds kept is) at)
            ((h.run [] held g there).live e u s b (reaches_before (g ∷ []) f (either a c t g k f).1 m.last rest.since.grown reach) (holds_free (written t) e u held holds));
      }
