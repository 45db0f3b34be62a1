-- The flat run of what was emitted so far beside the run of a thread.
use Rattle.std.proofs.Common.{◌≡◌, ℕ, zero, suc, ◌+◌, ◌<◌, ◌≤◌, ◌^◌, ◌⊎◌, inl, inr, List, [], ◌∷◌, ◌++◌, length, Some, refl, sym, ap, ◌∙◌, subst, append_assoc, length-append, arith}
use Rattle.std.proofs.lemmas.Bool.{eq-eqb, ne_eqb, cond-true, cond-false}
use Rattle.std.specs.Prelude.{cond, nat_eq, slice_get}
use Rattle.dg_base.specs.Values.{is_true}
use Rattle.run_model.specs.declared.state.Ending.{Ending}
use Rattle.run_model.specs.declared.state.Ending.TheVariants as ending
use Rattle.run_model.specs.declared.state.Halt.TheVariants as halt
use Rattle.run_model.specs.declared.state.Local.{Local}
use Rattle.run_model.specs.Steps.{State, Outcome, Step}
use Rattle.run_model.specs.Steps as machine
use Rattle.flat_prog.specs.declared.Instance.{Instance}
use Rattle.flat_prog.specs.declared.FlatStep.{FlatStep}
use Rattle.flat_prog.specs.Runs.{FlatEnding, FlatState, Progress, Goes, Over, Short, Ended, Stopped, Broken, Failed, with_local, act, go_on, steps, function_at}
use Rattle.flat_prog.proofs.Steps.{steps_append}
use Rattle.emit_steps.specs.declared.state.Number.{Number}
use Rattle.emit_steps.specs.declared.state.Variable.{Variable}
use Rattle.emit_steps.specs.Emitting.{Emitted, none, own_handle, creates}
use Rattle.emit_steps.proofs.Growth.{Each, each_append, each_map, Plain, plain_above, Above, One, IsGuardOf, Neat, Grown}
use Rattle.emit_steps.proofs.Adding.{Since}

-- ---- values of locals

pub local_same : (values : ℕ → ℕ) (to v : ℕ) → with_local values to v to ≡ v
local_same values to v = cond-true (nat_eq to to) v (values to) (eq-eqb to to refl)

pub local_other : (values : ℕ → ℕ) (to v l : ℕ) → (l ≡ to → ⊥) → with_local values to v l ≡ values l
local_other values to v l other = cond-false (nat_eq l to) v (values l) (ne_eqb l to other)

-- ---- where variables are

-- the local is a cell of one of these variables
abbrev pub Among : List Variable → ℕ → Type 0
Among [] l = ⊥
Among (v ∷ vs) l = ((v.first ≤ l) × (l < v.first + v.count)) ⊎ Among vs l

-- the cells of variables stand one behind the other, from one local on and up to one
abbrev pub Stacked : ℕ → List Variable → ℕ → Type 0
Stacked low [] high = low ≤ high
Stacked low (v ∷ vs) high = (low ≤ v.first) × Stacked (v.first + v.count) vs high

-- and they hold no number
abbrev pub PlainCells : List Number → List Variable → Type 0
PlainCells ns vs = (l : ℕ) → Among vs l → Plain ns l

-- the values of so many locals from one on
abbrev pub values_from : (ℕ → ℕ) → ℕ → ℕ → List ℕ
values_from values first zero = []
values_from values first (suc n) = values first ∷ values_from values (first + 1) n

-- the variables in scope are the locals of the thread, with their values
abbrev pub Matches : (ℕ → ℕ) → List Variable → List Local → Type 0
Matches values [] [] = Unit {0}
Matches values [] (l ∷ ls) = ⊥
Matches values (v ∷ vs) [] = ⊥
Matches values (v ∷ vs) (l ∷ ls) = (v.name ≡ l.name) × (v.unsigned ≡ l.unsigned) × (l.cells ≡ values_from values v.first v.count) × Matches values vs ls

pub stacked_low : (low : ℕ) (vs : List Variable) (high : ℕ) → Stacked low vs high → low ≤ high
stacked_low low [] high h = h
stacked_low low (v ∷ vs) high h = let rest : v.first + v.count ≤ high = stacked_low (v.first + v.count) vs high h.1 in omega (arith, h.0)

pub stacked_more : (low : ℕ) (vs : List Variable) (high more : ℕ) → high ≤ more → Stacked low vs high → Stacked low vs more
stacked_more low [] high more le h = omega arith
stacked_more low (v ∷ vs) high more le h = (h.0, stacked_more (v.first + v.count) vs high more le h.1)

pub among_within : (low : ℕ) (vs : List Variable) (high l : ℕ) → Stacked low vs high → Among vs l → (low ≤ l) × (l < high)
among_within low [] high l h none = absurd none
among_within low (v ∷ vs) high l h (inl here) =
    let rest : v.first + v.count ≤ high = stacked_low (v.first + v.count) vs high h.1 in
    (omega (arith, h.0, here.0), omega (arith, here.1))
among_within low (v ∷ vs) high l h (inr there) =
    let rest : (v.first + v.count ≤ l) × (l < high) = among_within (v.first + v.count) vs high l h.1 there in
    (omega (arith, h.0, rest.0), rest.1)

-- the same values where the cells keep theirs
pub values_kept : (f g : ℕ → ℕ) (first n : ℕ) → ((l : ℕ) → first ≤ l → l < first + n → g l ≡ f l) → values_from g first n ≡ values_from f first n
values_kept f g first zero h = refl
values_kept f g first (suc n) h =
    let head : g first ≡ f first = h first (omega arith) (omega arith) in
    let tail : values_from g (first + 1) n ≡ values_from f (first + 1) n = values_kept f g (first + 1) n (λ l a b. h l (omega arith) (omega arith)) in
    ap (λ x. x ∷ values_from g (first + 1) n) head ∙ ap (λ xs. f first ∷ xs) tail

pub matches_kept : (f g : ℕ → ℕ) (vs : List Variable) (ls : List Local) → ((l : ℕ) → Among vs l → g l ≡ f l) → Matches f vs ls → Matches g vs ls
matches_kept f g [] [] h m = tt
matches_kept f g [] (l ∷ ls) h m = absurd m
matches_kept f g (v ∷ vs) [] h m = absurd m
matches_kept f g (v ∷ vs) (l ∷ ls) h m =
    (m.0, m.1, m.2 ∙ sym (values_kept f g v.first v.count (λ k a b. h k (inl (a, b)))), matches_kept f g vs ls (λ k a. h k (inr a)) m.3)

-- ---- what an emission leads to

-- the emission goes on to this one in the end: more numbers behind, in locals that were not used, and more instances named
pub record Reaches (e z : Emitted) : Type 0 where
  pub numbers : List Number
  pub numbers_behind : z.numbers ≡ e.numbers ++ numbers
  pub numbers_above : Above e.next numbers
  pub created : List ℕ
  pub created_behind : z.created ≡ e.created ++ created

pub reaches_before : (gs : List ℕ) (e f z : Emitted) → Grown gs e f → Reaches f z → Reaches e z
reaches_before gs e f z a b = record {
  numbers = a.numbers ++ b.numbers;
  numbers_behind = b.numbers_behind ∙ (ap (λ ns. ns ++ b.numbers) a.numbers_behind ∙ append_assoc e.numbers a.numbers b.numbers);
  numbers_above =
      each_append (λ (n : Number). e.next ≤ n.local) a.numbers b.numbers a.numbers_above
      (each_map (λ (n : Number). f.next ≤ n.local) (λ (n : Number). e.next ≤ n.local) (λ n c. omega (arith, a.next)) b.numbers b.numbers_above);
  created = a.created ++ b.created;
  created_behind = b.created_behind ∙ (ap (λ ns. ns ++ b.created) a.created_behind ∙ append_assoc e.created a.created b.created);
}

-- a local that was used and holds none of the numbers so far holds none in the end
pub plain_in_end : (e z : Emitted) (l : ℕ) → Reaches e z → l < e.next → Plain e.numbers l → Plain z.numbers l
plain_in_end e z l r used plain =
    subst (λ ns. Plain ns l) (sym r.numbers_behind) (each_append (λ (n : Number). n.local ≡ l → ⊥) e.numbers r.numbers plain (plain_above r.numbers l e.next used r.numbers_above))

-- ---- the machine

-- what a flat run of an instance goes by: the instances, what is emitted of this one in the end, the number that its first Create
-- names, the thread's handle, and the state in which its steps begin
pub record Machine : Type 0 where
  pub instances : List Instance
  pub last : Emitted
  pub first : ℕ
  pub handle : ℕ
  pub start : FlatState
  pub small : handle < 2 ^ 24
  pub few : length last.created < 2 ^ 24
  pub high : Above 5 last.numbers
  pub named : (k f : ℕ) → slice_get last.created k ≡ Some f → function_at instances (first + k) ≡ f

-- the locals that nobody writes
pub record Constants (m : Machine) (values : ℕ → ℕ) : Type 0 where
  pub own : values own_handle ≡ m.handle
  pub one : values 2 ≡ 1
  pub none : values 3 ≡ 0
  pub numbers : Each (λ (n : Number). values n.local ≡ n.value) m.last.numbers

each_kept : (f g : ℕ → ℕ) (ns : List Number) → Each (λ (n : Number). g n.local ≡ f n.local) ns → Each (λ (n : Number). f n.local ≡ n.value) ns → Each (λ (n : Number). g n.local ≡ n.value) ns
each_kept f g [] h k = tt
each_kept f g (n ∷ ns) h k = (h.0 ∙ k.0, each_kept f g ns h.1 k.1)

pub constants_kept : (m : Machine) (values : ℕ → ℕ) (to v : ℕ) → 4 ≤ to → Plain m.last.numbers to → Constants m values → Constants m (with_local values to v)
constants_kept m values to v high plain c = record {
  own = local_other values to v 1 (λ e. absurd (omega arith)) ∙ c.own;
  one = local_other values to v 2 (λ e. absurd (omega arith)) ∙ c.one;
  none = local_other values to v 3 (λ e. absurd (omega arith)) ∙ c.none;
  numbers =
      each_kept values (with_local values to v) m.last.numbers
      (each_map (λ (n : Number). n.local ≡ to → ⊥) (λ (n : Number). with_local values to v n.local ≡ values n.local) (λ n other. local_other values to v n.local other) m.last.numbers plain) c.numbers;
}

-- how far the steps so far run
abbrev pub ran : Machine → Emitted → Progress
ran m e = steps m.instances e.steps m.start

-- a local that was used and is no cell of a variable in scope, and not the number of creates: it keeps its value
pub record Safe (e : Emitted) (l : ℕ) : Type 0 where
  pub used : l < e.next
  pub apart : Among e.scope l → ⊥
  pub other : l ≡ creates → ⊥

-- the emission and the flat state on one side, the thread's state on the other
pub record Beside (m : Machine) (e : Emitted) (t : FlatState) (s : State) : Type 0 where
  pub ran : ran m e ≡ Goes t
  pub base : 5 ≤ e.next
  pub neat : Neat e
  pub stacked : Stacked 5 e.scope e.next
  pub plain : PlainCells m.last.numbers e.scope
  pub constants : Constants m t.values
  pub idle : (l : ℕ) → e.next ≤ l → Plain m.last.numbers l → t.values l ≡ 0
  pub matches : Matches t.values e.scope s.locals
  pub creates : t.values 4 ≡ s.created
  pub few : s.created ≤ length e.created
  pub numbered : e.instances ≡ m.first + length e.created
  pub depth : e.depth ≡ s.depth
  pub opened : (e.depth ≡ 0 → ⊥) → Safe e e.opened × (t.values e.opened ≡ 1)
  pub script : t.script ≡ s.script
  pub used : t.used ≡ s.used
  pub actions : t.actions ≡ s.actions

-- locals that were used keep their values, but for these, the cells of variables in scope and the number of creates
abbrev pub Kept : List ℕ → Emitted → FlatState → FlatState → Type 0
Kept xs e t u = (l : ℕ) → l < e.next → (Among e.scope l → ⊥) → (l ≡ 4 → ⊥) → (One xs l → ⊥) → u.values l ≡ t.values l

abbrev pub ending_of : Ending → FlatEnding
ending_of ending.Ended = Ended
ending_of ending.Stopped = Stopped
ending_of (ending.Failed p) = Failed p 0
ending_of (ending.Bound p) = Failed p 1
ending_of ending.Bad = Broken

-- the flat run does what the thread does
pub record WentOn {A B : Type 0} (R : Emitted → FlatState → A → B → Type 0) (m : Machine) (xs : List ℕ) (e : Emitted) (t : FlatState) (f : Emitted) (a : A) (b : B) (s : State) : Type 0 where
  pub state : FlatState
  pub beside : Beside m f state s
  pub kept : Kept xs e t state
  pub answer : R f state a b

pub record WentOver (m : Machine) (f : Emitted) (x : Ending) (s : State) : Type 0 where
  pub state : FlatState
  pub over : ran m f ≡ Over (ending_of x) state
  pub used : state.used ≡ s.used
  pub actions : state.actions ≡ s.actions

pub record WentShort (m : Machine) (f : Emitted) : Type 0 where
  pub state : FlatState
  pub short : ran m f ≡ Short state

abbrev pub Follows : {A B : Type 0} → (Emitted → FlatState → A → B → Type 0) → Machine → List ℕ → Emitted → FlatState → A × Emitted → Outcome B → Type 0
Follows R m xs e t o (machine.Goes b s) = WentOn R m xs e t o.1 o.0 b s
Follows R m xs e t o (machine.Halts (halt.Over x) s) = WentOver m o.1 x s
Follows R m xs e t o (machine.Halts (halt.Short n) s) = WentShort m o.1

-- ---- steps that are added

-- where the steps so far go on, the run goes on with those that are added
pub ran_more : (m : Machine) (e f : Emitted) (us : List FlatStep) → f.steps ≡ e.steps ++ us → ran m f ≡ go_on (ran m e) (steps m.instances us)
ran_more m e f us behind = ap (λ ts. steps m.instances ts m.start) behind ∙ steps_append m.instances e.steps us m.start

pub ran_over : (m : Machine) (gs : List ℕ) (e f : Emitted) (x : FlatEnding) (t : FlatState) → Grown gs e f → ran m e ≡ Over x t → ran m f ≡ Over x t
ran_over m gs e f x t g over = ran_more m e f g.steps g.steps_behind ∙ ap (λ p. go_on p (steps m.instances g.steps)) over

pub ran_short : (m : Machine) (gs : List ℕ) (e f : Emitted) (t : FlatState) → Grown gs e f → ran m e ≡ Short t → ran m f ≡ Short t
ran_short m gs e f t g short = ran_more m e f g.steps g.steps_behind ∙ ap (λ p. go_on p (steps m.instances g.steps)) short

-- steps whose guards are 0 are not made
pub not_made : (is : List Instance) (us : List FlatStep) (t : FlatState) → Each (λ (u : FlatStep). t.values u.guard ≡ 0) us → steps is us t ≡ Goes t
not_made is [] t h = refl
not_made is (u ∷ us) t h =
    ap (λ p. go_on p (steps is us)) (ap (λ v. cond (is_true v) (act is u.act t) (Goes t)) h.0) ∙ not_made is us t h.1

-- a guard of what is emitted is 0 where the guards of the emission are
pub guard_zero : (m : Machine) (gs : List ℕ) (e f : Emitted) (t : FlatState) (l : ℕ) → Reaches f m.last → ((k : ℕ) → e.next ≤ k → Plain m.last.numbers k → t.values k ≡ 0)
    → t.values 3 ≡ 0 → ((k : ℕ) → One gs k → t.values k ≡ 0) → IsGuardOf gs e f l → t.values l ≡ 0
guard_zero m gs e f t l r idle off dead (inl some) = dead l some
guard_zero m gs e f t l r idle off dead (inr (inl same)) = ap t.values same ∙ off
guard_zero m gs e f t l r idle off dead (inr (inr new)) = idle l new.0 (plain_in_end f m.last l r new.1 new.2)

-- what stands under guards that are 0 does nothing
pub ran_dead : (m : Machine) (gs : List ℕ) (e f : Emitted) (t : FlatState) (s : State) → Grown gs e f → Reaches f m.last → Beside m e t s → ((k : ℕ) → One gs k → t.values k ≡ 0) → ran m f ≡ Goes t
ran_dead m gs e f t s g r b dead =
    ran_more m e f g.steps g.steps_behind
    ∙ (ap (λ p. go_on p (steps m.instances g.steps)) b.ran
    ∙ not_made m.instances g.steps t
    (each_map (λ (u : FlatStep). IsGuardOf gs e f u.guard) (λ (u : FlatStep). t.values u.guard ≡ 0) (λ u h. guard_zero m gs e f t u.guard r b.idle b.constants.none dead h) g.steps g.guards))

pub safe_behind : (gs : List ℕ) (e f : Emitted) (l : ℕ) → Since gs e f → Safe e l → Safe f l
safe_behind gs e f l h safe = record { used = omega (arith, h.grown.next, safe.used); apart = λ a. safe.apart (subst (λ vs. Among vs l) h.scope a); other = safe.other }

opened_after : (gs : List ℕ) (e f : Emitted) (t : FlatState) → Since gs e f → ((e.depth ≡ 0 → ⊥) → Safe e e.opened × (t.values e.opened ≡ 1)) → (f.depth ≡ 0 → ⊥) → Safe f f.opened × (t.values f.opened ≡ 1)
opened_after gs e f t h before deep =
    let there : e.depth ≡ 0 → ⊥ = λ z. deep (h.grown.depth ∙ z) in
    let same : f.opened ≡ e.opened = h.grown.opened there in
    (subst (Safe f) (sym same) (safe_behind gs e f e.opened h (before there).0), ap t.values same ∙ (before there).1)

-- the thread's state stays beside the emission
pub beside_dead : (m : Machine) (gs : List ℕ) (e f : Emitted) (t : FlatState) (s : State) → Since gs e f → Reaches f m.last → Beside m e t s → ((k : ℕ) → One gs k → t.values k ≡ 0) → Beside m f t s
beside_dead m gs e f t s h r b dead = record {
  ran = ran_dead m gs e f t s h.grown r b dead;
  base = omega (arith, b.base, h.grown.next);
  neat = h.neat;
  stacked = subst (λ vs. Stacked 5 vs f.next) (sym h.scope) (stacked_more 5 e.scope e.next f.next h.grown.next b.stacked);
  plain = subst (PlainCells m.last.numbers) (sym h.scope) b.plain;
  constants = b.constants;
  idle = λ l le plain. b.idle l (omega (arith, le, h.grown.next)) plain;
  matches = subst (λ vs. Matches t.values vs s.locals) (sym h.scope) b.matches;
  creates = b.creates;
  few = omega (arith, b.few, ap length h.grown.created_behind, length-append e.created h.grown.created);
  numbered = omega (arith, b.numbered, h.grown.instances, ap length h.grown.created_behind, length-append e.created h.grown.created);
  depth = h.grown.depth ∙ b.depth;
  opened = opened_after gs e f t h b.opened;
  script = b.script;
  used = b.used;
  actions = b.actions;
}
