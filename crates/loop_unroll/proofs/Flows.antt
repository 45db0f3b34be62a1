-- How statements leave off: the relation between what is emitted for a statement and its run, in a scope that may grow.
use Rattle.std.proofs.Common.{◌≡◌, ℕ, suc, ◌+◌, ◌<◌, ◌≤◌, ◌⊎◌, inl, inr, List, [], ◌∷◌, ◌++◌, length, take, refl, sym, ap, ◌∙◌, subst, append_assoc, append-nil, arith}
use Rattle.std.specs.Prelude.{slice_get}
use Rattle.dg_base.proofs.Lists.{get_append_left}
use Rattle.run_model.specs.declared.state.Flow.{Flow}
use Rattle.run_model.specs.declared.state.Flow.TheVariants.{Next as Onward, Broke, Continued, Returned}
use Rattle.run_model.specs.declared.state.Halt.TheVariants as halt
use Rattle.run_model.specs.declared.state.Local.{Local}
use Rattle.run_model.specs.declared.state.Slot.{Slot}
use Rattle.run_model.specs.declared.state.Slot.TheVariants as slot
use Rattle.run_model.specs.Steps.{State, Outcome, Step}
use Rattle.run_model.specs.Steps as machine
use Rattle.run_model.specs.Statements as model
use Rattle.flat_prog.specs.Runs.{FlatState}
use Rattle.emit_steps.specs.declared.state.Variable.{Variable}
use Rattle.emit_steps.specs.declared.state.Cell.{Cell}
use Rattle.emit_steps.specs.declared.state.Cell.TheVariants.{Own, Common}
use Rattle.loop_unroll.specs.declared.targets.Targets.{Targets}
use Rattle.emit_steps.specs.Emitting.{Emitted, Emit, scoped}
use Rattle.loop_unroll.specs.Stating.{Body}
use Rattle.emit_steps.proofs.Growth.{each_map, plain_behind, One, Grown}
use Rattle.emit_steps.proofs.Adding.{Since, guard_of}
use Rattle.loop_unroll.proofs.AddingBodies.{Behind, AddsBehind, grown_scoped, since_scoped, take_front, among_append}
use Rattle.emit_steps.proofs.Running.{Among, Stacked, stacked_low, guard_zero, Matches, Reaches, Machine, Safe, Beside, Kept, ending_of, WentOver, WentShort, ran_over, ran_short, beside_dead}
use Rattle.emit_steps.proofs.Simulating.{Item, Value, Points, Declared, Held, ValueAt, IsAt, Denotes, HeldAt, Holds, In}

-- ---- what lasts where the scope grows

in_neither : (e : Emitted) (vars : List Variable) (l : ℕ) → ((k : ℕ) → Among vars k → e.next ≤ k) → l < e.next → (Among e.scope l → ⊥) → Among e.scope l ⊎ Among vars l → ⊥
in_neither e vars l high used apart (inl old) = apart old
in_neither e vars l high used apart (inr new) = absurd (omega (arith, high l new))

not_among : (gs : List ℕ) (e f : Emitted) (h l : ℕ) → Behind gs e f h → l < e.next → (Among e.scope l → ⊥) → Among f.scope l → ⊥
not_among gs e f h l b used apart a = in_neither e b.vars l (λ k x. (b.cells k x).0) used apart (among_append e.scope b.vars l (subst (λ vs. Among vs l) b.scope a))

pub safe_grown : (gs : List ℕ) (e f : Emitted) (h l : ℕ) → Behind gs e f h → Safe e l → Safe f l
safe_grown gs e f h l b safe = record { used = omega (arith, safe.used, b.since.grown.next); apart = not_among gs e f h l b safe.used safe.apart; other = safe.other }

value_grown : (gs xs : List ℕ) (e f : Emitted) (h : ℕ) (t u : FlatState) (a v : ℕ) → Behind gs e f h → Kept xs e t u → ValueAt xs e t a v → ValueAt xs f u a v
value_grown gs xs e f h t u a v b kept at = (safe_grown gs e f h a b at.0, at.1, kept a at.0.used at.0.apart at.0.other at.1 ∙ at.2)

at_grown : (vs ws : List Variable) (c : Cell) (x : Slot) → IsAt vs c x → IsAt (vs ++ ws) c x
at_grown vs ws (Own g l) (slot.Own i j) at = (at.0, get_append_left vs ws i at.0 at.1, at.2, at.3)
at_grown vs ws (Own g l) (slot.Common d) at = absurd at
at_grown vs ws (Common g c) (slot.Own i j) at = absurd at
at_grown vs ws (Common g c) (slot.Common d) at = at

denotes_grown : (gs xs : List ℕ) (e f : Emitted) (h : ℕ) (t u : FlatState) (cs : List Cell) (x : Slot) → Behind gs e f h → Kept xs e t u → Denotes xs e t cs x → Denotes xs f u cs x
denotes_grown gs xs e f h t u [] x b kept d = absurd d
denotes_grown gs xs e f h t u (c ∷ cs) x b kept (inl on) =
    inl (
      value_grown gs xs e f h t u (guard_of c) 1 b kept on.0,
      subst (λ vs. IsAt vs c x) (sym b.scope) (at_grown e.scope b.vars c x on.1),
      each_map (λ d. ValueAt xs e t (guard_of d) 0) (λ d. ValueAt xs f u (guard_of d) 0) (λ d at. value_grown gs xs e f h t u (guard_of d) 0 b kept at) cs on.2,
    )
denotes_grown gs xs e f h t u (c ∷ cs) x b kept (inr off) = inr (value_grown gs xs e f h t u (guard_of c) 0 b kept off.0, denotes_grown gs xs e f h t u cs x b kept off.1)

item_grown : (gs xs : List ℕ) (e f : Emitted) (h : ℕ) (t u : FlatState) (p : Item) → Behind gs e f h → Kept xs e t u → HeldAt xs e t p → HeldAt xs f u p
item_grown gs xs e f h t u (Value a v) b kept at = value_grown gs xs e f h t u a v b kept at
item_grown gs xs e f h t u (Points cs x) b kept at = denotes_grown gs xs e f h t u cs x b kept at
item_grown gs xs e f h t u (Declared i v) b kept at = ap (λ vs. slice_get vs i) b.scope ∙ get_append_left e.scope b.vars i v at

pub holds_grown : (gs xs : List ℕ) (e f : Emitted) (h : ℕ) (t u : FlatState) (held : Held) → Behind gs e f h → Kept xs e t u → Holds xs e t held → Holds xs f u held
holds_grown gs xs e f h t u held b kept holds = record {
  low = λ x one. let le : x < e.next = holds.low x one in omega (arith, b.since.grown.next);
  high = holds.high;
  plain = λ x one. plain_behind gs e f x (grown_scoped gs e (record f { scope = e.scope }) e.scope f.scope b.since.grown) (holds.low x one) (holds.plain x one);
  apart = λ x one. not_among gs e f h x b (holds.low x one) (holds.apart x one);
  opened = λ deep some.
      let there : e.depth ≡ 0 → ⊥ = λ z. deep (b.since.grown.depth ∙ z) in
      holds.opened there (subst (One xs) (b.since.grown.opened there) some);
  all = each_map (HeldAt xs e t) (HeldAt xs f u) (λ p at. item_grown gs xs e f h t u p b kept at) held holds.all;
}

pub kept_grown : (gs xs : List ℕ) (e f : Emitted) (h : ℕ) (t u w : FlatState) → Behind gs e f h → Kept xs e t u → Kept xs f u w → Kept xs e t w
kept_grown gs xs e f h t u w b a c l used apart other free =
    c l (omega (arith, b.since.grown.next)) (not_among gs e f h l b used apart) other free ∙ a l used apart other free

-- ---- how a statement leaves off

-- what is written where control leaves: the three are different
pub record Distinct (t : Targets) : Type 0 where
  pub done_again : t.done ≡ t.again → ⊥
  pub done_result : t.done ≡ t.result → ⊥
  pub again_result : t.again ≡ t.result → ⊥

abbrev pub written : Targets → List ℕ
written t = t.done ∷ t.again ∷ t.result ∷ []

-- the values of these three
abbrev pub Marked : Targets → FlatState → ℕ → ℕ → ℕ → Type 0
Marked t u a b c = (u.values t.done ≡ a) × (u.values t.again ≡ b) × (u.values t.result ≡ c)

-- the guard behind a statement is 1 where control comes to its end; else it is 0, and the way that control takes is marked
abbrev pub Post : Targets → Emitted → FlatState → ℕ → Flow → Type 0
Post t f u h Onward = ValueAt (written t) f u h 1 × Marked t u 0 0 0
Post t f u h Broke = (u.values h ≡ 0) × Marked t u 1 0 0
Post t f u h Continued = (u.values h ≡ 0) × Marked t u 0 1 0
Post t f u h (Returned v) = (u.values h ≡ 0) × Marked t u 0 0 v

-- the variables that were declared where control did not come are no variables of the thread
pub record Ran (m : Machine) (t : Targets) (e : Emitted) (u : FlatState) (f : Emitted) (h : ℕ) (flow : Flow) (s : State) : Type 0 where
  pub state : FlatState
  pub vars : List Variable
  pub more : List Variable
  pub scope : f.scope ≡ e.scope ++ (vars ++ more)
  pub exact : flow ≡ Onward → more ≡ []
  pub beside : Beside m (record f { scope = e.scope ++ vars }) state s
  pub kept : Kept (written t) e u state
  pub post : Post t f state h flow

abbrev pub Flowed : Machine → Targets → Emitted → FlatState → ℕ × Emitted → Outcome Flow → Type 0
Flowed m t e u o (machine.Goes flow s) = Ran m t e u o.1 o.0 flow s
Flowed m t e u o (machine.Halts (halt.Over x) s) = WentOver m o.1 x s
Flowed m t e u o (machine.Halts (halt.Short n) s) = WentShort m o.1

module _ (m : Machine) where
  pub record SimBody (b : Body) (st : Step Flow) : Type 0 where
    pub adds : (t : Targets) (g : ℕ) → AddsBehind (g ∷ []) (b t g)
    pub live :
        (t : Targets) → Distinct t → (held : Held) (g : ℕ) → In m held g 1 → (e : Emitted) (u : FlatState) (s : State) → Beside m e u s → Reaches (b t g e).1 m.last → Holds (written t) e u held → Marked t u 0 0 0 →
        Flowed m t e u (b t g e) (st s)

  -- ---- one statement after the other

  -- what control does not reach
  pub post_dead : (t : Targets) (f i : Emitted) (u : FlatState) (h k : ℕ) (flow : Flow) → (flow ≡ Onward → ⊥) → u.values k ≡ 0 → Post t f u h flow → Post t i u k flow
  post_dead t f i u h k Onward not zero_there post = absurd (not refl)
  post_dead t f i u h k Broke not zero_there post = (zero_there, post.1)
  post_dead t f i u h k Continued not zero_there post = (zero_there, post.1)
  post_dead t f i u h k (Returned v) not zero_there post = (zero_there, post.1)

  pub guard_off : (t : Targets) (f : Emitted) (u : FlatState) (h : ℕ) (flow : Flow) → (flow ≡ Onward → ⊥) → Post t f u h flow → u.values h ≡ 0
  guard_off t f u h Onward not post = absurd (not refl)
  guard_off t f u h Broke not post = post.0
  guard_off t f u h Continued not post = post.0
  guard_off t f u h (Returned v) not post = post.0

  -- ---- scopes

  among_front : (vs ws : List Variable) (l : ℕ) → Among vs l → Among (vs ++ ws) l
  among_front [] ws l none_there = absurd none_there
  among_front (v ∷ vs) ws l (inl here) = inl here
  among_front (v ∷ vs) ws l (inr there) = inr (among_front vs ws l there)

  stacked_front : (low : ℕ) (vs ws : List Variable) (high : ℕ) → Stacked low (vs ++ ws) high → Stacked low vs high
  stacked_front low [] ws high h = stacked_low low ws high h
  stacked_front low (v ∷ vs) ws high h = (h.0, stacked_front (v.first + v.count) vs ws high h.1)

  matches_front : (f : ℕ → ℕ) (vs ws : List Variable) (ls : List Local) → Matches f (vs ++ ws) ls → Matches f vs (take (length vs) ls)
  matches_front f [] ws ls h = tt
  matches_front f (v ∷ vs) ws [] h = absurd h
  matches_front f (v ∷ vs) ws (l ∷ ls) h = (h.0, h.1, h.2, matches_front f vs ws ls h.3)

  pub same_length : (f : ℕ → ℕ) (vs : List Variable) (ls : List Local) → Matches f vs ls → length ls ≡ length vs
  same_length f [] [] h = refl
  same_length f [] (l ∷ ls) h = absurd h
  same_length f (v ∷ vs) [] h = absurd h
  same_length f (v ∷ vs) (l ∷ ls) h = ap suc (same_length f vs ls h.3)

  -- the variables that were declared last are gone
  beside_front : (i : Emitted) (vs ws : List Variable) (u : FlatState) (s : State) → Beside m (record i { scope = vs ++ ws }) u s → Beside m (record i { scope = vs }) u (record s { locals = take (length vs) s.locals })
  beside_front i vs ws u s b = record {
    ran = b.ran;
    base = b.base;
    neat = b.neat;
    stacked = stacked_front 5 vs ws i.next b.stacked;
    plain = λ l a. b.plain l (among_front vs ws l a);
    constants = b.constants;
    idle = b.idle;
    matches = matches_front u.values vs ws s.locals b.matches;
    creates = b.creates;
    few = b.few;
    numbered = b.numbered;
    depth = b.depth;
    opened = λ deep. (record { used = (b.opened deep).0.used; apart = λ a. (b.opened deep).0.apart (among_front vs ws i.opened a); other = (b.opened deep).0.other }, (b.opened deep).1);
    script = b.script;
    used = b.used;
    actions = b.actions;
  }

  post_scoped : (t : Targets) (f : Emitted) (vs : List Variable) (u : FlatState) (h : ℕ) (flow : Flow) → ((l : ℕ) → Among vs l → Among f.scope l) → Post t f u h flow → Post t (record f { scope = vs }) u h flow
  post_scoped t f vs u h Onward inside_it post = ((record { used = post.0.0.used; apart = λ a. post.0.0.apart (inside_it h a); other = post.0.0.other }, post.0.1, post.0.2), post.1)
  post_scoped t f vs u h Broke inside_it post = post
  post_scoped t f vs u h Continued inside_it post = post
  post_scoped t f vs u h (Returned v) inside_it post = post

  -- a statement in a scope of its own
  scoped_case :
      (t : Targets) (e : Emitted) (u : FlatState) (s : State) (em : Emit ℕ) (o : Outcome Flow) → length s.locals ≡ length e.scope → Flowed m t e u (em e) o →
      Flowed m t e u (scoped em e) (machine.go_on o (λ f. machine.◌>>◌ (machine.change (λ r. record r { locals = take (length s.locals) r.locals })) (machine.pure f)))
  scoped_case t e u s em (machine.Goes flow r) same w =
      let i : Emitted = (em e).1 in
      let cut : take (length e.scope) i.scope ≡ e.scope = ap (take (length e.scope)) w.scope ∙ take_front e.scope (w.vars ++ w.more) in
      let front : (l : ℕ) → Among (take (length e.scope) i.scope) l → Among i.scope l =
      λ l a. subst (λ vs. Among vs l) (sym w.scope) (among_front e.scope (w.vars ++ w.more) l (subst (λ vs. Among vs l) cut a)) in
      record {
        state = w.state;
        vars = [];
        more = [];
        scope = cut ∙ sym (append-nil e.scope);
        exact = λ is. refl;
        beside = subst (λ vs. Beside m (record i { scope = vs }) w.state (record r { locals = take (length s.locals) r.locals })) (sym (append-nil e.scope))
            (subst (λ n. Beside m (record i { scope = e.scope }) w.state (record r { locals = take n r.locals })) (sym same) (beside_front i e.scope w.vars w.state r w.beside));
        kept = w.kept;
        post = post_scoped t i (take (length e.scope) i.scope) w.state (em e).0 flow front w.post;
      }
  scoped_case t e u s em (machine.Halts (halt.Over x) r) same w = record { state = w.state; over = w.over; used = w.used; actions = w.actions }
  scoped_case t e u s em (machine.Halts (halt.Short n) r) same w = record { state = w.state; short = w.short }

  pub scoped_flow : (t : Targets) (e : Emitted) (u : FlatState) (s : State) (em : Emit ℕ) (st : Step Flow) → Beside m e u s → Flowed m t e u (em e) (st s) → Flowed m t e u (scoped em e) (model.scoped st s)
  scoped_flow t e u s em st b w = scoped_case t e u s em (st s) (same_length u.values e.scope s.locals b.matches) w

  -- ---- one behind the other

  -- what a run from f did, it did from e
  pub flow_before : (gs : List ℕ) (t : Targets) (e f : Emitted) (h : ℕ) (u v : FlatState) (o : ℕ × Emitted) (r : Outcome Flow) → (b : Behind gs e f h) → Kept (written t) e u v → Flowed m t f v o r → Flowed m t e u o r
  flow_before gs t e f h u v o (machine.Goes flow s) b kept w = record {
    state = w.state;
    vars = b.vars ++ w.vars;
    more = w.more;
    scope = w.scope ∙ (ap (λ vs. vs ++ (w.vars ++ w.more)) b.scope ∙ (append_assoc e.scope b.vars (w.vars ++ w.more) ∙ ap (λ vs. e.scope ++ vs) (sym (append_assoc b.vars w.vars w.more))));
    exact = w.exact;
    beside = subst (λ vs. Beside m (record o.1 { scope = vs }) w.state s) (ap (λ vs. vs ++ w.vars) b.scope ∙ append_assoc e.scope b.vars w.vars) w.beside;
    kept = kept_grown gs (written t) e f h u v w.state b kept w.kept;
    post = w.post;
  }
  flow_before gs t e f h u v o (machine.Halts (halt.Over x) s) b kept w = w
  flow_before gs t e f h u v o (machine.Halts (halt.Short n) s) b kept w = w

  -- where control came to the end of what stands before, all of its variables are the thread's
  pub all_in_scope : (t : Targets) (e : Emitted) (u : FlatState) (f : Emitted) (h : ℕ) (s : State) (w : Ran m t e u f h Onward s) → Beside m f w.state s
  all_in_scope t e u f h s w =
      let whole : e.scope ++ w.vars ≡ f.scope = ap (λ vs. e.scope ++ vs) (sym (append-nil w.vars) ∙ ap (λ vs. w.vars ++ vs) (sym (w.exact refl))) ∙ sym w.scope in
      subst (λ vs. Beside m (record f { scope = vs }) w.state s) whole w.beside

  off_one : (u : FlatState) (h l : ℕ) → u.values h ≡ 0 → One (h ∷ []) l → u.values l ≡ 0
  off_one u h l off (inl same) = ap u.values same ∙ off
  off_one u h l off (inr none_there) = absurd none_there

  -- the guard behind what is not reached is 0
  pub out_off : (t : Targets) (f i : Emitted) (u : FlatState) (s : State) (h k : ℕ) (vs : List Variable) → u.values h ≡ 0 → Beside m (record f { scope = vs }) u s → Behind (h ∷ []) f i k → Reaches i m.last → u.values k ≡ 0
  out_off t f i u s h k vs off b behind reach = guard_zero m (h ∷ []) f i u k reach b.idle b.constants.none (λ l one. off_one u h l off one) behind.out

  -- the rest is not reached
  flow_dead :
      (t : Targets) (e f i : Emitted) (u : FlatState) (h k : ℕ) (flow : Flow) (s : State) → (flow ≡ Onward → ⊥) → Behind (h ∷ []) f i k → Reaches i m.last → Ran m t e u f h flow s → Ran m t e u i k flow s
  flow_dead t e f i u h k flow s not b reach w =
      let off : w.state.values h ≡ 0 = guard_off t f w.state h flow not w.post in
      let since : Since (h ∷ []) (record f { scope = e.scope ++ w.vars }) (record i { scope = e.scope ++ w.vars }) = since_scoped (h ∷ []) f (record i { scope = f.scope }) (e.scope ++ w.vars) b.since in
      let reach_scoped : Reaches (record i { scope = e.scope ++ w.vars }) m.last = record { numbers = reach.numbers; numbers_behind = reach.numbers_behind; numbers_above = reach.numbers_above; created = reach.created; created_behind = reach.created_behind } in
      record {
        state = w.state;
        vars = w.vars;
        more = w.more ++ b.vars;
        scope = b.scope ∙ (ap (λ vs. vs ++ b.vars) w.scope ∙ (append_assoc e.scope (w.vars ++ w.more) b.vars ∙ ap (λ vs. e.scope ++ vs) (append_assoc w.vars w.more b.vars)));
        exact = λ is. absurd (not is);
        beside = beside_dead m (h ∷ []) (record f { scope = e.scope ++ w.vars }) (record i { scope = e.scope ++ w.vars }) w.state s since reach_scoped w.beside (λ l one. off_one w.state h l off one);
        kept = w.kept;
        post = post_dead t f i w.state h k flow not (out_off t f i w.state s h k (e.scope ++ w.vars) off w.beside b reach) w.post;
      }

  pub grown_of : (f i : Emitted) (h k : ℕ) → Behind (h ∷ []) f i k → Grown (h ∷ []) f i
  grown_of f i h k b = grown_scoped (h ∷ []) f (record i { scope = f.scope }) f.scope i.scope b.since.grown

  pub flow_then :
      (t : Targets) (gs : List ℕ) (e : Emitted) (u : FlatState) (em : Emit ℕ) (f : ℕ → Emit ℕ) (k : Step Flow) (o : Outcome Flow) → Behind gs e (em e).1 (em e).0 → ((h : ℕ) → AddsBehind (h ∷ []) (f h)) → Reaches (f (em e).0 (em e).1).1 m.last →
      ((v : FlatState) (r : State) → Beside m (em e).1 v r → Kept (written t) e u v → ValueAt (written t) (em e).1 v (em e).0 1 → Marked t v 0 0 0 → Flowed m t (em e).1 v (f (em e).0 (em e).1) (k r)) →
      Flowed m t e u (em e) o → Flowed m t e u (f (em e).0 (em e).1) (machine.go_on o (λ w. model.then_next w k))
  flow_then t gs e u em f k (machine.Goes Onward r) b adds reach next w =
      flow_before gs t e (em e).1 (em e).0 u w.state (f (em e).0 (em e).1) (k r) b w.kept (next w.state r (all_in_scope t e u (em e).1 (em e).0 r w) w.kept w.post.0 w.post.1)
  flow_then t gs e u em f k (machine.Goes Broke r) b adds reach next w = flow_dead t e (em e).1 (f (em e).0 (em e).1).1 u (em e).0 (f (em e).0 (em e).1).0 Broke r (λ is. absurd (let no : Broke ≡ Onward = is in cc)) ((adds (em e).0).add (em e).1 b.since.neat) reach w
  flow_then t gs e u em f k (machine.Goes Continued r) b adds reach next w = flow_dead t e (em e).1 (f (em e).0 (em e).1).1 u (em e).0 (f (em e).0 (em e).1).0 Continued r (λ is. absurd (let no : Continued ≡ Onward = is in cc)) ((adds (em e).0).add (em e).1 b.since.neat) reach w
  flow_then t gs e u em f k (machine.Goes (Returned n) r) b adds reach next w = flow_dead t e (em e).1 (f (em e).0 (em e).1).1 u (em e).0 (f (em e).0 (em e).1).0 (Returned n) r (λ is. absurd (let no : Returned n ≡ Onward = is in cc)) ((adds (em e).0).add (em e).1 b.since.neat) reach w
  flow_then t gs e u em f k (machine.Halts (halt.Over x) r) b adds reach next w =
      let more : Behind ((em e).0 ∷ []) (em e).1 (f (em e).0 (em e).1).1 (f (em e).0 (em e).1).0 = (adds (em e).0).add (em e).1 b.since.neat in
      record { state = w.state; over = ran_over m ((em e).0 ∷ []) (em e).1 (f (em e).0 (em e).1).1 (ending_of x) w.state (grown_of (em e).1 (f (em e).0 (em e).1).1 (em e).0 (f (em e).0 (em e).1).0 more) w.over; used = w.used; actions = w.actions }
  flow_then t gs e u em f k (machine.Halts (halt.Short n) r) b adds reach next w =
      let more : Behind ((em e).0 ∷ []) (em e).1 (f (em e).0 (em e).1).1 (f (em e).0 (em e).1).0 = (adds (em e).0).add (em e).1 b.since.neat in
      record { state = w.state; short = ran_short m ((em e).0 ∷ []) (em e).1 (f (em e).0 (em e).1).1 w.state (grown_of (em e).1 (f (em e).0 (em e).1).1 (em e).0 (f (em e).0 (em e).1).0 more) w.short }
