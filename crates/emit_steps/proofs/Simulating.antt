-- Emissions that do what steps of a thread do, one after the other.
use Rattle.std.proofs.Common.{◌≡◌, ℕ, ◌+◌, ◌<◌, ◌≤◌, ◌⊎◌, inl, inr, List, [], ◌∷◌, ◌++◌, length, map, Some, refl, sym, ap, ◌∙◌, subst, length-append, arith}
use Rattle.std.specs.Prelude.{cond, slice_get}
use Rattle.dg_base.specs.Values.{value_of, is_true}
use Rattle.dg_base.specs.declared.operators.Op.{Op}
use Rattle.axiom_model.specs.declared.Action.{Action}
use Rattle.run_model.specs.declared.state.Ending.{Ending}
use Rattle.run_model.specs.declared.state.Halt.TheVariants as halt
use Rattle.run_model.specs.declared.state.Slot.{Slot}
use Rattle.run_model.specs.declared.state.Slot.TheVariants as slot
use Rattle.run_model.specs.Steps.{State, Outcome, Step}
use Rattle.run_model.specs.Steps as machine
use Rattle.flat_prog.specs.declared.FlatAct.{FlatAct}
use Rattle.flat_prog.specs.declared.FlatAct.TheVariants as act
use Rattle.flat_prog.specs.Runs.{FlatState, Progress, Goes, Over, with_local, set_local, step, go_on, steps}
use Rattle.flat_prog.specs.Runs as runs
use Rattle.emit_steps.specs.declared.state.Variable.{Variable}
use Rattle.emit_steps.specs.declared.state.Cell.{Cell}
use Rattle.emit_steps.specs.declared.state.Cell.TheVariants.{Own, Common}
use Rattle.emit_steps.specs.Emitting.{Emitted, Emit, ◌>>=◌, pure, none, one, own_handle, fresh, emit, set}
use Rattle.emit_steps.proofs.Growth.{Each, each_map, Plain, plain_behind, New, One, Neat}
use Rattle.emit_steps.proofs.Adding.{Since, since_none, since_then, since_under, fresh_new, adds_set, guard_of}
use Rattle.emit_steps.proofs.AddingForms.{one_behind, one_front}
use Rattle.emit_steps.proofs.Running.{local_same, local_other, Among, Stacked, stacked_more, among_within, PlainCells, Matches, matches_kept, Reaches, reaches_before, plain_in_end, Machine, Constants, constants_kept, ran, Safe, Beside, Kept, ending_of, WentOn, WentOver, Follows, ran_more, ran_over, ran_short, safe_behind}

-- ---- what is emitted, under whatever guards

abbrev pub Long : Emitted → Emitted → Type 0
Long e f = (gs : List ℕ) × Since gs e f

pub long_then : (e f h : Emitted) → Neat e → Long e f → Long f h → Long e h
long_then e f h neat a b =
    let gs : List ℕ = a.0 ++ b.0 in (
      gs,
      since_then gs gs e f h (since_under gs a.0 e f neat (λ k one. one_front a.0 b.0 k one) a.1) (λ k one. inl one)
          (since_under gs b.0 f h a.1.neat (λ k one. one_behind a.0 b.0 k one) b.1),
    )

-- ---- what is held: values of locals that nothing changes, and cells that are found

-- a value that a local holds; cells, of which one is meant; a variable in scope, by its number
pub data Item : Type 0 where
  Value : ℕ → ℕ → Item
  Points : List Cell → Slot → Item
  Declared : ℕ → Variable → Item

abbrev pub Held : Type 0
Held = List Item

-- the local holds the value; it is none of those that are written
abbrev pub ValueAt : List ℕ → Emitted → FlatState → ℕ → ℕ → Type 0
ValueAt xs e t a v = Safe e a × (One xs a → ⊥) × (t.values a ≡ v)

-- the cell is the slot of the thread
abbrev pub IsAt : List Variable → Cell → Slot → Type 0
IsAt vs (Own g l) (slot.Own i j) = (v : Variable) × (slice_get vs i ≡ Some v) × (j < v.count) × (l ≡ v.first + j)
IsAt vs (Own g l) (slot.Common d) = ⊥
IsAt vs (Common g c) (slot.Own i j) = ⊥
IsAt vs (Common g c) (slot.Common d) = c ≡ d

-- of these cells one is meant, which is the slot
abbrev pub Denotes : List ℕ → Emitted → FlatState → List Cell → Slot → Type 0
Denotes xs e t [] x = ⊥
Denotes xs e t (c ∷ cs) x =
    (ValueAt xs e t (guard_of c) 1 × IsAt e.scope c x × Each (λ d. ValueAt xs e t (guard_of d) 0) cs) ⊎ (ValueAt xs e t (guard_of c) 0 × Denotes xs e t cs x)

abbrev pub HeldAt : List ℕ → Emitted → FlatState → Item → Type 0
HeldAt xs e t (Value a v) = ValueAt xs e t a v
HeldAt xs e t (Points cs x) = Denotes xs e t cs x
HeldAt xs e t (Declared i v) = slice_get e.scope i ≡ Some v

pub record Holds (xs : List ℕ) (e : Emitted) (t : FlatState) (held : Held) : Type 0 where
  pub low : (x : ℕ) → One xs x → x < e.next
  pub high : (x : ℕ) → One xs x → 5 ≤ x
  pub plain : (x : ℕ) → One xs x → Plain e.numbers x
  pub apart : (x : ℕ) → One xs x → Among e.scope x → ⊥
  pub opened : (e.depth ≡ 0 → ⊥) → One xs e.opened → ⊥
  pub all : Each (HeldAt xs e t) held

-- a value that is in a local, and cells that are found
abbrev pub Val : List ℕ → Emitted → FlatState → ℕ → ℕ → Type 0
Val xs f t a v = ValueAt xs f t a v

abbrev pub Meant : List ℕ → Emitted → FlatState → List Cell → Slot → Type 0
Meant xs f t cs x = Denotes xs f t cs x

abbrev pub Done : {A B : Type 0} → Emitted → FlatState → A → B → Type 0
Done f t a b = Unit {0}

pub value_behind : (gs xs : List ℕ) (e f : Emitted) (t u : FlatState) (a v : ℕ) → Since gs e f → Kept xs e t u → ValueAt xs e t a v → ValueAt xs f u a v
value_behind gs xs e f t u a v h kept at = (safe_behind gs e f a h at.0, at.1, kept a at.0.used at.0.apart at.0.other at.1 ∙ at.2)

pub denotes_behind : (gs xs : List ℕ) (e f : Emitted) (t u : FlatState) (cs : List Cell) (x : Slot) → Since gs e f → Kept xs e t u → Denotes xs e t cs x → Denotes xs f u cs x
denotes_behind gs xs e f t u [] x h kept d = absurd d
denotes_behind gs xs e f t u (c ∷ cs) x h kept (inl on) =
    inl (
      value_behind gs xs e f t u (guard_of c) 1 h kept on.0,
      subst (λ vs. IsAt vs c x) (sym h.scope) on.1,
      each_map (λ d. ValueAt xs e t (guard_of d) 0) (λ d. ValueAt xs f u (guard_of d) 0) (λ d at. value_behind gs xs e f t u (guard_of d) 0 h kept at) cs on.2,
    )
denotes_behind gs xs e f t u (c ∷ cs) x h kept (inr off) = inr (value_behind gs xs e f t u (guard_of c) 0 h kept off.0, denotes_behind gs xs e f t u cs x h kept off.1)

pub held_behind : (gs xs : List ℕ) (e f : Emitted) (t u : FlatState) (p : Item) → Since gs e f → Kept xs e t u → HeldAt xs e t p → HeldAt xs f u p
held_behind gs xs e f t u (Value a v) h kept at = value_behind gs xs e f t u a v h kept at
held_behind gs xs e f t u (Points cs x) h kept at = denotes_behind gs xs e f t u cs x h kept at
held_behind gs xs e f t u (Declared i v) h kept at = ap (λ vs. slice_get vs i) h.scope ∙ at

pub holds_behind : (gs xs : List ℕ) (e f : Emitted) (t u : FlatState) (held : Held) → Since gs e f → Kept xs e t u → Holds xs e t held → Holds xs f u held
holds_behind gs xs e f t u held h kept holds = record {
  low = λ x one. let le : x < e.next = holds.low x one in omega (arith, h.grown.next);
  high = holds.high;
  plain = λ x one. plain_behind gs e f x h.grown (holds.low x one) (holds.plain x one);
  apart = λ x one a. holds.apart x one (subst (λ vs. Among vs x) h.scope a);
  opened = λ deep some.
      let there : e.depth ≡ 0 → ⊥ = λ z. deep (h.grown.depth ∙ z) in
      holds.opened there (subst (One xs) (h.grown.opened there) some);
  all = each_map (HeldAt xs e t) (HeldAt xs f u) (λ p at. held_behind gs xs e f t u p h kept at) held holds.all;
}

pub kept_none : (xs : List ℕ) (e : Emitted) (t : FlatState) → Kept xs e t t
kept_none xs e t l used apart other free = refl

pub kept_then : (gs xs : List ℕ) (e f : Emitted) (t u w : FlatState) → Since gs e f → Kept xs e t u → Kept xs f u w → Kept xs e t w
kept_then gs xs e f t u w h a b l used apart other free =
    b l (omega (arith, h.grown.next)) (λ k. apart (subst (λ vs. Among vs l) h.scope k)) other free ∙ a l used apart other free

-- ---- simulation

module _ (m : Machine) where
  -- the emission does what the step does
  pub record Sim {A B : Type 0} (R : Emitted → FlatState → A → B → Type 0) (xs : List ℕ) (held : Held) (em : Emit A) (st : Step B) : Type 0 where
    pub long : (e : Emitted) → Neat e → Long e (em e).1
    pub live : (e : Emitted) (t : FlatState) (s : State) → Beside m e t s → Reaches (em e).1 m.last → Holds xs e t held → Follows R m xs e t (em e) (st s)

  -- what follows, by the answers of what came before
  pub record Next {A B C D : Type 0} (R : Emitted → FlatState → A → B → Type 0) (xs : List ℕ) (held : Held) (f : A → Emit C) (k : B → Step D) (Q : Emitted → FlatState → C → D → Type 0) : Type 0 where
    pub long : (a : A) (e : Emitted) → Neat e → Long e (f a e).1
    pub live : (a : A) (b : B) (e : Emitted) (t : FlatState) (s : State) → Beside m e t s → Reaches (f a e).1 m.last → Holds xs e t held → R e t a b → Follows Q m xs e t (f a e) (k b s)

  pub follows_after :
      {A B : Type 0} (Q : Emitted → FlatState → A → B → Type 0) (gs xs : List ℕ) (e f : Emitted) (t u : FlatState) (o : A × Emitted) (r : Outcome B) →
      Since gs e f → Kept xs e t u → Follows Q m xs f u o r → Follows Q m xs e t o r
  follows_after Q gs xs e f t u o (machine.Goes b s) h kept w = record { state = w.state; beside = w.beside; kept = kept_then gs xs e f t u w.state h kept w.kept; answer = w.answer }
  follows_after Q gs xs e f t u o (machine.Halts (halt.Over x) s) h kept w = w
  follows_after Q gs xs e f t u o (machine.Halts (halt.Short n) s) h kept w = w

  reaches_through : (gs : List ℕ) (e f : Emitted) → Since gs e f → Reaches f m.last → Reaches e m.last
  reaches_through gs e f h r = reaches_before gs e f m.last h.grown r

  then_follows :
      {A B C D : Type 0} (R : Emitted → FlatState → A → B → Type 0) (Q : Emitted → FlatState → C → D → Type 0) (xs : List ℕ) (held : Held) (em : Emit A) (f : A → Emit C) (k : B → Step D) (e : Emitted) (t : FlatState) (r : Outcome B) →
      Next R xs held f k Q → Long e (em e).1 → Reaches (f (em e).0 (em e).1).1 m.last → Holds xs e t held → Follows R m xs e t (em e) r → Follows Q m xs e t (f (em e).0 (em e).1) (machine.go_on r k)
  then_follows R Q xs held em f k e t (machine.Goes b s) next long reach holds w =
      follows_after Q long.0 xs e (em e).1 t w.state (f (em e).0 (em e).1) (k b s) long.1 w.kept
      (next.live (em e).0 b (em e).1 w.state s w.beside reach (holds_behind long.0 xs e (em e).1 t w.state held long.1 w.kept holds) w.answer)
  then_follows R Q xs held em f k e t (machine.Halts (halt.Over x) s) next long reach holds w =
      let more : Long (em e).1 (f (em e).0 (em e).1).1 = next.long (em e).0 (em e).1 long.1.neat in
      record { state = w.state; over = ran_over m more.0 (em e).1 (f (em e).0 (em e).1).1 (ending_of x) w.state more.1.grown w.over; used = w.used; actions = w.actions }
  then_follows R Q xs held em f k e t (machine.Halts (halt.Short n) s) next long reach holds w =
      let more : Long (em e).1 (f (em e).0 (em e).1).1 = next.long (em e).0 (em e).1 long.1.neat in
      record { state = w.state; short = ran_short m more.0 (em e).1 (f (em e).0 (em e).1).1 w.state more.1.grown w.short }

  pub sim_then :
      {A B C D : Type 0} (R : Emitted → FlatState → A → B → Type 0) (Q : Emitted → FlatState → C → D → Type 0) (xs : List ℕ) (held : Held) (em : Emit A) (st : Step B) (f : A → Emit C) (k : B → Step D) →
      Sim R xs held em st → Next R xs held f k Q → Sim Q xs held (em >>= f) (machine.◌>>=◌ st k)
  sim_then R Q xs held em st f k first next = record {
    long = λ e neat. let one : Long e (em e).1 = first.long e neat in long_then e (em e).1 (f (em e).0 (em e).1).1 neat one (next.long (em e).0 (em e).1 one.1.neat);
    live = λ e t s beside reach holds.
        let one : Long e (em e).1 = first.long e beside.neat in
        let more : Long (em e).1 (f (em e).0 (em e).1).1 = next.long (em e).0 (em e).1 one.1.neat in
        then_follows R Q xs held em f k e t (st s) next one reach holds (first.live e t s beside (reaches_through more.0 (em e).1 (f (em e).0 (em e).1).1 more.1 reach) holds);
  }

  -- a value is held by what follows
  pub next_value :
      {C D : Type 0} (xs : List ℕ) (held : Held) (f : ℕ → Emit C) (k : ℕ → Step D) (Q : Emitted → FlatState → C → D → Type 0) →
      ((a v : ℕ) → Sim Q xs (Value a v ∷ held) (f a) (k v)) → Next (Val xs) xs held f k Q
  next_value xs held f k Q h = record {
    long = λ a e neat. (h a 0).long e neat;
    live = λ a v e t s beside reach holds at. (h a v).live e t s beside reach (record { low = holds.low; high = holds.high; plain = holds.plain; apart = holds.apart; opened = holds.opened; all = (at, holds.all) });
  }

  -- cells that were found are held by what follows
  pub next_cells :
      {C D : Type 0} (xs : List ℕ) (held : Held) (f : List Cell → Emit C) (k : Slot → Step D) (Q : Emitted → FlatState → C → D → Type 0) → Slot →
      ((cs : List Cell) (x : Slot) → Sim Q xs (Points cs x ∷ held) (f cs) (k x)) → Next (Meant xs) xs held f k Q
  next_cells xs held f k Q some h = record {
    long = λ cs e neat. (h cs some).long e neat;
    live = λ cs x e t s beside reach holds at. (h cs x).live e t s beside reach (record { low = holds.low; high = holds.high; plain = holds.plain; apart = holds.apart; opened = holds.opened; all = (at, holds.all) });
  }

  -- what follows does not go by the answers
  pub next_done :
      {A B C D : Type 0} (xs : List ℕ) (held : Held) (f : Emit C) (k : Step D) (Q : Emitted → FlatState → C → D → Type 0) →
      Sim Q xs held f k → Next {A = A} {B = B} Done xs held (λ _. f) (λ _. k) Q
  next_done xs held f k Q h = record {
    long = λ a e neat. h.long e neat;
    live = λ a b e t s beside reach holds at. h.live e t s beside reach holds;
  }

  -- less is held
  pub sim_less : {A B : Type 0} (R : Emitted → FlatState → A → B → Type 0) (xs : List ℕ) (p : Item) (held : Held) (em : Emit A) (st : Step B) → Sim R xs held em st → Sim R xs (p ∷ held) em st
  sim_less R xs p held em st h = record {
    long = h.long;
    live = λ e t s beside reach holds. h.live e t s beside reach (record { low = holds.low; high = holds.high; plain = holds.plain; apart = holds.apart; opened = holds.opened; all = holds.all.1 });
  }

  pub sim_pure : {A B : Type 0} (R : Emitted → FlatState → A → B → Type 0) (xs : List ℕ) (held : Held) (a : A) (b : B) → ((e : Emitted) (t : FlatState) (s : State) → Beside m e t s → Holds xs e t held → R e t a b) → Sim R xs held (pure a) (machine.pure b)
  sim_pure R xs held a b h = record {
    long = λ e neat. ([], since_none [] e neat);
    live = λ e t s beside reach holds. record { state = t; beside = beside; kept = kept_none xs e t; answer = h e t s beside holds };
  }

  -- ---- one step

  pub ran_made : (e : Emitted) (t : FlatState) (g : ℕ) (a : FlatAct) → ran m e ≡ Goes t → t.values g ≡ 1 → ran m (emit g a e).1 ≡ go_on (runs.act m.instances a t) (steps m.instances [])
  ran_made e t g a run live =
      ran_more m e (emit g a e).1 (record { guard = g; act = a } ∷ []) refl
      ∙ (ap (λ p. go_on p (steps m.instances (record { guard = g; act = a } ∷ []))) run
      ∙ ap (λ v. go_on (cond (is_true v) (runs.act m.instances a t) (Goes t)) (steps m.instances [])) live)

  opened_kept : (gs : List ℕ) (e f : Emitted) (t u : FlatState) → Since gs e f → ((e.depth ≡ 0 → ⊥) → Safe e e.opened × (t.values e.opened ≡ 1)) → ((e.depth ≡ 0 → ⊥) → u.values e.opened ≡ t.values e.opened)
      → (f.depth ≡ 0 → ⊥) → Safe f f.opened × (u.values f.opened ≡ 1)
  opened_kept gs e f t u h before same deep =
      let there : e.depth ≡ 0 → ⊥ = λ z. deep (h.grown.depth ∙ z) in
      let is : f.opened ≡ e.opened = h.grown.opened there in
      (subst (Safe f) (sym is) (safe_behind gs e f e.opened h (before there).0), ap u.values is ∙ (same there ∙ (before there).1))

  -- what stays beside a run that goes on, where a step changes values of locals
  pub record Changes (e f : Emitted) (t u : FlatState) (s r : State) : Type 0 where
    pub ran : ran m f ≡ Goes u
    pub constants : Constants m u.values
    pub idle : (l : ℕ) → f.next ≤ l → Plain m.last.numbers l → u.values l ≡ 0
    pub matches : Matches u.values e.scope r.locals
    pub creates : u.values 4 ≡ r.created
    pub few : r.created ≤ length f.created
    pub depth : r.depth ≡ s.depth
    pub opened : (e.depth ≡ 0 → ⊥) → u.values e.opened ≡ t.values e.opened
    pub script : u.script ≡ r.script
    pub used : u.used ≡ r.used
    pub actions : u.actions ≡ r.actions

  pub beside_next : (gs : List ℕ) (e f : Emitted) (t u : FlatState) (s r : State) → Since gs e f → Beside m e t s → Changes e f t u s r → Beside m f u r
  beside_next gs e f t u s r h b c = record {
    ran = c.ran;
    base = omega (arith, b.base, h.grown.next);
    neat = h.neat;
    stacked = subst (λ vs. Stacked 5 vs f.next) (sym h.scope) (stacked_more 5 e.scope e.next f.next h.grown.next b.stacked);
    plain = subst (PlainCells m.last.numbers) (sym h.scope) b.plain;
    constants = c.constants;
    idle = c.idle;
    matches = subst (λ vs. Matches u.values vs r.locals) (sym h.scope) c.matches;
    creates = c.creates;
    few = c.few;
    numbered = omega (arith, b.numbered, h.grown.instances, ap length h.grown.created_behind, length-append e.created h.grown.created);
    depth = h.grown.depth ∙ (b.depth ∙ sym c.depth);
    opened = opened_kept gs e f t u h b.opened c.opened;
    script = c.script;
    used = c.used;
    actions = c.actions;
  }

  pub few_kept : (gs : List ℕ) (e f : Emitted) (t : FlatState) (s : State) → Since gs e f → Beside m e t s → s.created ≤ length f.created
  few_kept gs e f t s h b = omega (arith, b.few, ap length h.grown.created_behind, length-append e.created h.grown.created)

  -- a local that may be written: it holds nothing that is told elsewhere
  pub record Writable (e f : Emitted) (to : ℕ) : Type 0 where
    pub high : 5 ≤ to
    pub used : to < f.next
    pub plain : Plain m.last.numbers to
    pub apart : Among e.scope to → ⊥
    pub opened : (e.depth ≡ 0 → ⊥) → e.opened ≡ to → ⊥

  -- a local is written, and what else the step does is what the thread does
  abbrev pub wrote : FlatState → ℕ → ℕ → List ℕ → ℕ → List Action → FlatState
  wrote t to v script used actions = record { values = with_local t.values to v; script = script; used = used; actions = actions }

  abbrev pub goes_on_with : State → List ℕ → ℕ → List Action → State
  goes_on_with s script used actions = record s { script = script; used = used; actions = actions }

  pub beside_wrote :
      (gs : List ℕ) (e f : Emitted) (t : FlatState) (s : State) (to v : ℕ) (ss rs : List ℕ) (n k : ℕ) (acts made : List Action) →
      Since gs e f → Beside m e t s → Writable e f to → ss ≡ rs → n ≡ k → acts ≡ made → ran m f ≡ Goes (wrote t to v ss n acts) → Beside m f (wrote t to v ss n acts) (goes_on_with s rs k made)
  beside_wrote gs e f t s to v ss rs n k acts made h b w same_script same_used same_actions run =
      beside_next gs e f t (wrote t to v ss n acts) s (goes_on_with s rs k made) h b (record {
        ran = run;
        constants = constants_kept m t.values to v (omega (arith, w.high)) w.plain b.constants;
        idle = λ l le plain. local_other t.values to v l (λ e. absurd (omega (arith, w.used))) ∙ b.idle l (omega (arith, h.grown.next)) plain;
        matches = matches_kept t.values (with_local t.values to v) e.scope s.locals (λ l a. local_other t.values to v l (λ same. w.apart (subst (Among e.scope) same a))) b.matches;
        creates = local_other t.values to v 4 (λ e. absurd (omega (arith, w.high))) ∙ b.creates;
        few = few_kept gs e f t s h b;
        depth = refl;
        opened = λ deep. local_other t.values to v e.opened (w.opened deep);
        script = same_script;
        used = same_used;
        actions = same_actions;
      })

  pub beside_written : (gs : List ℕ) (e f : Emitted) (t : FlatState) (s : State) (to v : ℕ) → Since gs e f → Beside m e t s → Writable e f to → ran m f ≡ Goes (set_local to v t) → Beside m f (set_local to v t) s
  beside_written gs e f t s to v h b w run = beside_wrote gs e f t s to v t.script s.script t.used s.used t.actions s.actions h b w b.script b.used b.actions run

  -- a new local may be written
  pub new_writable : (e f : Emitted) (t : FlatState) (s : State) (l : ℕ) → Beside m e t s → Reaches f m.last → New e f l → Writable e f l
  new_writable e f t s l b r new = record {
    high = omega (arith, b.base, new.0);
    used = new.1;
    plain = plain_in_end f m.last l r new.1 new.2;
    apart = λ a. let within : (5 ≤ l) × (l < e.next) = among_within 5 e.scope e.next l b.stacked a in absurd (omega (arith, within.1, new.0));
    opened = λ deep same. let safe : Safe e e.opened = (b.opened deep).0 in absurd (omega (arith, safe.used, new.0));
  }

  -- and is safe
  pub new_safe : (gs : List ℕ) (e f : Emitted) (t : FlatState) (s : State) (l : ℕ) → Since gs e f → Beside m e t s → New e f l → Safe f l
  new_safe gs e f t s l h b new = record {
    used = new.1;
    apart = λ a. let within : (5 ≤ l) × (l < e.next) = among_within 5 e.scope e.next l b.stacked (subst (λ vs. Among vs l) h.scope a) in absurd (omega (arith, within.1, new.0));
    other = λ same. absurd (omega (arith, b.base, new.0));
  }

  -- ---- values

  abbrev pub In : Held → ℕ → ℕ → Type 0
  In [] a v = ⊥
  In (Value b w ∷ ps) a v = ((b ≡ a) × (w ≡ v)) ⊎ In ps a v
  In (Points cs x ∷ ps) a v = In ps a v
  In (Declared i w ∷ ps) a v = In ps a v

  -- the cells mean the slot
  abbrev pub Finds : Held → List Cell → Slot → Type 0
  Finds [] ds y = ⊥
  Finds (Value b w ∷ ps) ds y = Finds ps ds y
  Finds (Points cs x ∷ ps) ds y = ((cs ≡ ds) × (x ≡ y)) ⊎ Finds ps ds y
  Finds (Declared i w ∷ ps) ds y = Finds ps ds y

  -- the variable of this number is in scope
  abbrev pub Sees : Held → ℕ → Variable → Type 0
  Sees [] i v = ⊥
  Sees (Value b w ∷ ps) i v = Sees ps i v
  Sees (Points cs x ∷ ps) i v = Sees ps i v
  Sees (Declared j w ∷ ps) i v = ((j ≡ i) × (w ≡ v)) ⊎ Sees ps i v

  -- the local holds the value: it is held, or is one that nobody writes
  abbrev pub Has : Held → ℕ → ℕ → Type 0
  Has held a v = In held a v ⊎ (((a ≡ one) × (v ≡ 1)) ⊎ (((a ≡ none) × (v ≡ 0)) ⊎ ((a ≡ own_handle) × (v ≡ m.handle))))

  pub in_holds : (xs : List ℕ) (e : Emitted) (t : FlatState) (held : Held) (a v : ℕ) → Each (HeldAt xs e t) held → In held a v → ValueAt xs e t a v
  in_holds xs e t [] a v h there = absurd there
  in_holds xs e t (Value b w ∷ ps) a v h (inl same) = subst (λ c. ValueAt xs e t c v) same.0 (subst (λ u. ValueAt xs e t b u) same.1 h.0)
  in_holds xs e t (Value b w ∷ ps) a v h (inr rest) = in_holds xs e t ps a v h.1 rest
  in_holds xs e t (Points cs x ∷ ps) a v h there = in_holds xs e t ps a v h.1 there
  in_holds xs e t (Declared i w ∷ ps) a v h there = in_holds xs e t ps a v h.1 there

  pub finds_holds : (xs : List ℕ) (e : Emitted) (t : FlatState) (held : Held) (cs : List Cell) (x : Slot) → Each (HeldAt xs e t) held → Finds held cs x → Denotes xs e t cs x
  finds_holds xs e t [] cs x h there = absurd there
  finds_holds xs e t (Value b w ∷ ps) cs x h there = finds_holds xs e t ps cs x h.1 there
  finds_holds xs e t (Points ds y ∷ ps) cs x h (inl same) = subst (λ c. Denotes xs e t c x) same.0 (subst (λ z. Denotes xs e t ds z) same.1 h.0)
  finds_holds xs e t (Points ds y ∷ ps) cs x h (inr rest) = finds_holds xs e t ps cs x h.1 rest
  finds_holds xs e t (Declared i w ∷ ps) cs x h there = finds_holds xs e t ps cs x h.1 there

  pub sees_holds : (xs : List ℕ) (e : Emitted) (t : FlatState) (held : Held) (i : ℕ) (v : Variable) → Each (HeldAt xs e t) held → Sees held i v → slice_get e.scope i ≡ Some v
  sees_holds xs e t [] i v h there = absurd there
  sees_holds xs e t (Value b w ∷ ps) i v h there = sees_holds xs e t ps i v h.1 there
  sees_holds xs e t (Points cs x ∷ ps) i v h there = sees_holds xs e t ps i v h.1 there
  sees_holds xs e t (Declared j w ∷ ps) i v h (inl same) = subst (λ k. slice_get e.scope k ≡ Some v) same.0 (h.0 ∙ ap (λ (u : Variable). Some u) same.1)
  sees_holds xs e t (Declared j w ∷ ps) i v h (inr rest) = sees_holds xs e t ps i v h.1 rest

  -- what holds because of what is held is held too
  pub sim_also : {A B : Type 0} (R : Emitted → FlatState → A → B → Type 0) (xs : List ℕ) (p : Item) (held : Held) (em : Emit A) (st : Step B) →
      ((e : Emitted) (t : FlatState) (s : State) → Beside m e t s → Holds xs e t held → HeldAt xs e t p) → Sim R xs (p ∷ held) em st → Sim R xs held em st
  sim_also R xs p held em st also h = record {
    long = h.long;
    live = λ e t s b reach holds. h.live e t s b reach (record { low = holds.low; high = holds.high; plain = holds.plain; apart = holds.apart; opened = holds.opened; all = (also e t s b holds, holds.all) });
  }

  pub has_value : (xs : List ℕ) (e : Emitted) (t : FlatState) (s : State) (held : Held) (a v : ℕ) → Beside m e t s → Holds xs e t held → Has held a v → t.values a ≡ v
  has_value xs e t s held a v b holds (inl there) = (in_holds xs e t held a v holds.all there).2
  has_value xs e t s held a v b holds (inr (inl same)) = ap t.values same.0 ∙ (b.constants.one ∙ sym same.1)
  has_value xs e t s held a v b holds (inr (inr (inl same))) = ap t.values same.0 ∙ (b.constants.none ∙ sym same.1)
  has_value xs e t s held a v b holds (inr (inr (inr same))) = ap t.values same.0 ∙ (b.constants.own ∙ sym same.1)

  abbrev pub HasAll : Held → List ℕ → List ℕ → Type 0
  HasAll held [] [] = Unit {0}
  HasAll held [] (v ∷ vs) = ⊥
  HasAll held (a ∷ bs) [] = ⊥
  HasAll held (a ∷ bs) (v ∷ vs) = Has held a v × HasAll held bs vs

  pub has_values : (xs : List ℕ) (e : Emitted) (t : FlatState) (s : State) (held : Held) (args vs : List ℕ) → Beside m e t s → Holds xs e t held → HasAll held args vs → map t.values args ≡ vs
  has_values xs e t s held [] [] b holds h = refl
  has_values xs e t s held [] (v ∷ vs) b holds h = absurd h
  has_values xs e t s held (a ∷ bs) [] b holds h = absurd h
  has_values xs e t s held (a ∷ bs) (v ∷ vs) b holds h =
      ap (λ x. x ∷ map t.values bs) (has_value xs e t s held a v b holds h.0) ∙ ap (λ ys. v ∷ ys) (has_values xs e t s held bs vs b holds h.1)

  -- a new local has the operator's value
  pub sim_set : (xs : List ℕ) (held : Held) (g : ℕ) (o : Op) (args vs : List ℕ) → Has held g 1 → HasAll held args vs → Sim (Val xs) xs held (set g o args) (machine.pure (value_of o vs))
  sim_set xs held g o args vs live has = record {
    long = λ e neat. (g ∷ [], (adds_set (g ∷ []) g o args (inl refl)).add e neat);
    live = λ e t s b reach holds.
        let f : Emitted = (set g o args e).1 in
        let since : Since (g ∷ []) e f = (adds_set (g ∷ []) g o args (inl refl)).add e b.neat in
        let new : New e f e.next = fresh_new e b.neat in
        let v : ℕ = value_of o (map t.values args) in
        let is : v ≡ value_of o vs = ap (λ ys. value_of o ys) (has_values xs e t s held args vs b holds has) in
        let run : ran m f ≡ Goes (set_local e.next v t) = ran_made (fresh e).1 t g (act.Set e.next o args) b.ran (has_value xs e t s held g 1 b holds live) in
        record {
          state = set_local e.next v t;
          beside = beside_written (g ∷ []) e f t s e.next v since b (new_writable e f t s e.next b reach new) run;
          kept = λ l used apart other free. local_other t.values e.next v l (λ same. absurd (omega arith));
          answer = (new_safe (g ∷ []) e f t s e.next since b new, λ some. let low : e.next < e.next = holds.low e.next some in absurd (omega arith), local_same t.values e.next v ∙ is);
        };
  }

  -- an emission beside which the thread does nothing, and whose value is known
  pub sim_quiet :
      {C D : Type 0} (Q : Emitted → FlatState → C → D → Type 0) (xs : List ℕ) (held : Held) (em : Emit ℕ) (v : ℕ) (f : ℕ → Emit C) (st : Step D) →
      Sim (Val xs) xs held em (machine.pure v) → ((a : ℕ) → Sim Q xs (Value a v ∷ held) (f a) st) → Sim Q xs held (em >>= f) st
  sim_quiet Q xs held em v f st first rest = record {
    long = λ e neat. let one : Long e (em e).1 = first.long e neat in long_then e (em e).1 (f (em e).0 (em e).1).1 neat one ((rest (em e).0).long (em e).1 one.1.neat);
    live = λ e t s beside reach holds.
        let one : Long e (em e).1 = first.long e beside.neat in
        let more : Long (em e).1 (f (em e).0 (em e).1).1 = (rest (em e).0).long (em e).1 one.1.neat in
        let w : WentOn (Val xs) m xs e t (em e).1 (em e).0 v s = first.live e t s beside (reaches_through more.0 (em e).1 (f (em e).0 (em e).1).1 more.1 reach) holds in
        let after : Holds xs (em e).1 w.state held = holds_behind one.0 xs e (em e).1 t w.state held one.1 w.kept holds in
        follows_after Q one.0 xs e (em e).1 t w.state (f (em e).0 (em e).1) (st s) one.1 w.kept
        ((rest (em e).0).live (em e).1 w.state s w.beside reach (record { low = after.low; high = after.high; plain = after.plain; apart = after.apart; opened = after.opened; all = (w.answer, after.all) }));
  }

  -- an emission beside which the thread does nothing, and which has no value that counts
  pub sim_silent :
      {A C D : Type 0} (Q : Emitted → FlatState → C → D → Type 0) (xs : List ℕ) (held : Held) (em : Emit A) (f : A → Emit C) (st : Step D) →
      Sim {B = Unit {0}} Done xs held em (machine.pure tt) → ((a : A) → Sim Q xs held (f a) st) → Sim Q xs held (em >>= f) st
  sim_silent Q xs held em f st first rest = record {
    long = λ e neat. let one : Long e (em e).1 = first.long e neat in long_then e (em e).1 (f (em e).0 (em e).1).1 neat one ((rest (em e).0).long (em e).1 one.1.neat);
    live = λ e t s beside reach holds.
        let one : Long e (em e).1 = first.long e beside.neat in
        let more : Long (em e).1 (f (em e).0 (em e).1).1 = (rest (em e).0).long (em e).1 one.1.neat in
        let w : WentOn {B = Unit {0}} Done m xs e t (em e).1 (em e).0 tt s = first.live e t s beside (reaches_through more.0 (em e).1 (f (em e).0 (em e).1).1 more.1 reach) holds in
        follows_after Q one.0 xs e (em e).1 t w.state (f (em e).0 (em e).1) (st s) one.1 w.kept
        ((rest (em e).0).live (em e).1 w.state s w.beside reach (holds_behind one.0 xs e (em e).1 t w.state held one.1 w.kept holds));
  }

  -- a step that always ends the run
  abbrev pub AlwaysEnds : {D : Type 0} → Step D → Type 0
  AlwaysEnds st = (s : State) → (x : Ending) × (r : State) × (st s ≡ machine.Halts (halt.Over x) r)

  over_again :
      {A C D : Type 0} (Q : Emitted → FlatState → C → D → Type 0) (xs : List ℕ) (em : Emit A) (f : A → Emit C) (e : Emitted) (t : FlatState) (s : State) (x : Ending) (o : Outcome D) →
      o ≡ machine.Halts (halt.Over x) s → Long (em e).1 (f (em e).0 (em e).1).1 → Follows {B = D} Done m xs e t (em e) o → Follows Q m xs e t (f (em e).0 (em e).1) o
  over_again {D = D} Q xs em f e t s x o is more w =
      let over : WentOver m (em e).1 x s = subst (λ (r : Outcome D). Follows {B = D} Done m xs e t (em e) r) is w in
      subst (λ (r : Outcome D). Follows Q m xs e t (f (em e).0 (em e).1) r) (sym is)
      (record { state = over.state; over = ran_over m more.0 (em e).1 (f (em e).0 (em e).1).1 (ending_of x) over.state more.1.grown over.over; used = over.used; actions = over.actions })

  -- behind it whatever is emitted is not reached
  pub sim_halted :
      {A C D : Type 0} (Q : Emitted → FlatState → C → D → Type 0) (xs : List ℕ) (held : Held) (em : Emit A) (f : A → Emit C) (st : Step D) →
      AlwaysEnds st → Sim {B = D} Done xs held em st → ((a : A) (e : Emitted) → Neat e → Long e (f a e).1) → Sim Q xs held (em >>= f) st
  sim_halted Q xs held em f st ends first rest = record {
    long = λ e neat. let one : Long e (em e).1 = first.long e neat in long_then e (em e).1 (f (em e).0 (em e).1).1 neat one (rest (em e).0 (em e).1 one.1.neat);
    live = λ e t s beside reach holds.
        let one : Long e (em e).1 = first.long e beside.neat in
        let more : Long (em e).1 (f (em e).0 (em e).1).1 = rest (em e).0 (em e).1 one.1.neat in
        over_again Q xs em f e t (ends s).1 (ends s).0 (st s) (ends s).2 more (first.live e t s beside (reaches_through more.0 (em e).1 (f (em e).0 (em e).1).1 more.1 reach) holds);
  }

  go_on_pure : {B : Type 0} (o : Outcome B) → machine.go_on o (λ b. machine.pure b) ≡ o
  go_on_pure (machine.Goes b s) = refl
  go_on_pure (machine.Halts h s) = refl

  -- a step and then its value is the step
  pub sim_unit : {A B : Type 0} (R : Emitted → FlatState → A → B → Type 0) (xs : List ℕ) (held : Held) (em : Emit A) (st : Step B) → Sim R xs held em (machine.◌>>=◌ st (λ b. machine.pure b)) → Sim R xs held em st
  sim_unit {B = B} R xs held em st h = record {
    long = h.long;
    live = λ e t s b reach holds. subst (λ (o : Outcome B). Follows R m xs e t (em e) o) (go_on_pure (st s)) (h.live e t s b reach holds);
  }

  -- what follows, where it is known at the place where the first emission stands
  pub follows_then :
      {A B C D : Type 0} (R : Emitted → FlatState → A → B → Type 0) (Q : Emitted → FlatState → C → D → Type 0) (xs : List ℕ) (held : Held) (em : Emit A) (f : A → Emit C) (k : B → Step D) (e : Emitted) (t : FlatState) (o : Outcome B) →
      Long e (em e).1 → Long (em e).1 (f (em e).0 (em e).1).1 → Holds xs e t held →
      ((b : B) (u : FlatState) (r : State) → Beside m (em e).1 u r → Holds xs (em e).1 u held → R (em e).1 u (em e).0 b → Follows Q m xs (em e).1 u (f (em e).0 (em e).1) (k b r)) →
      Follows R m xs e t (em e) o → Follows Q m xs e t (f (em e).0 (em e).1) (machine.go_on o k)
  follows_then R Q xs held em f k e t (machine.Goes b s) long more holds next w =
      follows_after Q long.0 xs e (em e).1 t w.state (f (em e).0 (em e).1) (k b s) long.1 w.kept (next b w.state s w.beside (holds_behind long.0 xs e (em e).1 t w.state held long.1 w.kept holds) w.answer)
  follows_then R Q xs held em f k e t (machine.Halts (halt.Over x) s) long more holds next w =
      record { state = w.state; over = ran_over m more.0 (em e).1 (f (em e).0 (em e).1).1 (ending_of x) w.state more.1.grown w.over; used = w.used; actions = w.actions }
  follows_then R Q xs held em f k e t (machine.Halts (halt.Short n) s) long more holds next w =
      record { state = w.state; short = ran_short m more.0 (em e).1 (f (em e).0 (em e).1).1 w.state more.1.grown w.short }

  -- a new local has the operator's value of what the arguments hold there
  pub set_at :
      (xs : List ℕ) (held : Held) (e : Emitted) (t : FlatState) (s : State) (g : ℕ) (o : Op) (args : List ℕ) → Beside m e t s → Reaches (set g o args e).1 m.last → Holds xs e t held → t.values g ≡ 1 →
      WentOn (Val xs) m xs e t (set g o args e).1 e.next (value_of o (map t.values args)) s
  set_at xs held e t s g o args b reach holds live =
      let f : Emitted = (set g o args e).1 in
      let since : Since (g ∷ []) e f = (adds_set (g ∷ []) g o args (inl refl)).add e b.neat in
      let new : New e f e.next = fresh_new e b.neat in
      let v : ℕ = value_of o (map t.values args) in
      let run : ran m f ≡ Goes (set_local e.next v t) = ran_made (fresh e).1 t g (act.Set e.next o args) b.ran live in
      record {
        state = set_local e.next v t;
        beside = beside_written (g ∷ []) e f t s e.next v since b (new_writable e f t s e.next b reach new) run;
        kept = λ l used apart other free. local_other t.values e.next v l (λ same. absurd (omega arith));
        answer = (new_safe (g ∷ []) e f t s e.next since b new, λ some. let low : e.next < e.next = holds.low e.next some in absurd (omega arith), local_same t.values e.next v);
      }

  -- the same step, written in another way
  pub sim_same : {A B : Type 0} (R : Emitted → FlatState → A → B → Type 0) (xs : List ℕ) (held : Held) (em : Emit A) (st su : Step B) → ((s : State) → st s ≡ su s) → Sim R xs held em st → Sim R xs held em su
  sim_same {B = B} R xs held em st su same h = record {
    long = h.long;
    live = λ e t s b reach holds. subst (λ (o : Outcome B). Follows R m xs e t (em e) o) (same s) (h.live e t s b reach holds);
  }

  pub go_on_twice : {A B C : Type 0} (o : Outcome A) (f : A → Step B) (k : B → Step C) → machine.go_on (machine.go_on o f) k ≡ machine.go_on o (λ a. machine.◌>>=◌ (f a) k)
  go_on_twice (machine.Goes a s) f k = refl
  go_on_twice (machine.Halts h s) f k = refl
