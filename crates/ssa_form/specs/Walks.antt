-- The walk over the steps of an instance. No public contract cites it.
use Rattle.std.specs.Prelude.{◌≡◌, ℕ, List, [], ◌∷◌, ◌++◌, Bool, true, false, cond, Option, Some, None, map, slice_get, All}
use Rattle.dg_base.specs.Values.{value_of, truth_of, is_true}
use Rattle.bv_term.specs.declared.term.TermId.{TermId}
use Rattle.bv_term.specs.declared.term.Term.{Term}
use Rattle.bv_term.specs.declared.term.Term.TheVariants.{Input}
use Rattle.bv_term.specs.Values.{AreWords, IsListed, value as term_value}
use Rattle.flat_prog.specs.declared.Instance.{Instance}
use Rattle.flat_prog.specs.declared.FlatStep.{FlatStep}
use Rattle.flat_prog.specs.declared.FlatAct.{FlatAct}
use Rattle.flat_prog.specs.declared.FlatAct.TheVariants as flat
use Rattle.flat_prog.specs.Runs.{with_local, first_values}
use Rattle.ssa_form.specs.declared.SsaStep.{SsaStep}
use Rattle.ssa_form.specs.declared.SsaPart.{SsaPart}
use Rattle.ssa_form.specs.declared.SsaAct.{SsaAct}
use Rattle.ssa_form.specs.declared.SsaAct.TheVariants.{Take, Read, Write, Open, Close, Fence, Create, Join, Start, End, Stop, Bad, Fail}
use Rattle.ssa_form.specs.declared.walk.Named.{Named}
use Rattle.ssa_form.specs.Parts.{Valuation, inputs_in, terms_of}

-- ---- what a step of an instance is

-- what an act is in single assignment; nothing, where it only changes a local
abbrev pub act_by : FlatAct → Named → Option SsaAct
act_by (flat.Set to op args) n = None
act_by (flat.Put to v) n = None
act_by (flat.Take to) n = Some (Take n.first)
act_by (flat.Read c to) n = Some (Read c n.first)
act_by (flat.Write c from) n = Some (Write c n.first)
act_by flat.Open n = Some Open
act_by flat.Close n = Some Close
act_by flat.Fence n = Some Fence
act_by (flat.Create i handle arg) n = Some (Create i n.first n.second)
act_by (flat.Join from) n = Some (Join n.first)
act_by flat.End n = Some End
act_by flat.Stop n = Some Stop
act_by flat.Bad n = Some Bad
act_by (flat.Fail p tag) n = Some (Fail p tag)

-- the local that an act changes
abbrev pub target : FlatAct → Option ℕ
target (flat.Set to op args) = Some to
target (flat.Put to v) = Some to
target (flat.Take to) = Some to
target (flat.Read c to) = Some to
target _ = None

-- whether a run is over behind an act
abbrev pub is_end : FlatAct → Bool
is_end flat.End = true
is_end flat.Stop = true
is_end flat.Bad = true
is_end (flat.Fail p tag) = true
is_end _ = false

-- the act takes a number
abbrev pub is_taking : FlatAct → Bool
is_taking (flat.Take to) = true
is_taking (flat.Read c to) = true
is_taking _ = false

-- where the locals have these values, the terms have those of the act
abbrev pub Says : Valuation → (ℕ → ℕ) → FlatAct → Named → Type 0
Says v locals (flat.Set to op args) n = v n.first ≡ value_of op (map locals args)
Says v locals (flat.Put to x) n = v n.first ≡ x
Says v locals (flat.Write c from) n = v n.first ≡ locals from
Says v locals (flat.Create i handle arg) n = (v n.first ≡ locals handle) × (v n.second ≡ locals arg)
Says v locals (flat.Join from) n = v n.first ≡ locals from
Says v locals _ n = Unit {0}

-- the steps that are made of an act under a guard
abbrev pub steps_by : TermId → Option SsaAct → List SsaStep
steps_by guard None = []
steps_by guard (Some a) = record { guard = guard; act = a } ∷ []

-- the values with the target changed, if there is one
abbrev pub changed : (ℕ → ℕ) → Option ℕ → ℕ → ℕ → ℕ
changed locals None n = locals
changed locals (Some to) n = with_local locals to n

-- ---- parts that follow instances

-- inputs that fit 32 bits
pub record Words : Type 0 where
  pub inputs : ℕ → ℕ
  pub fit : AreWords inputs

-- the values of terms
abbrev pub values : List Term → Words → Valuation
values terms w t = term_value w.inputs terms t

-- the value of the guard of a step, where a local has a value and the run goes on or not
abbrev pub guard_value : ℕ → ℕ → ℕ
guard_value alive local = cond (is_true alive) (truth_of (is_true local)) 0

-- whether the run goes on behind a step
abbrev pub alive_behind : FlatAct → ℕ → ℕ → ℕ
alive_behind a alive local = cond (is_end a) (cond (is_true local) 0 alive) alive

-- the locals behind a step
abbrev pub locals_behind : Valuation → (ℕ → ℕ) → FlatStep → Named → ℕ → ℕ
locals_behind v locals t n = cond (is_true (locals t.guard)) (changed locals (target t.act) (v n.first)) locals

-- The first of the steps follow this step of an instance, and the rest follow what is behind it. What the locals' values are, and
-- whether the run goes on, depends on the inputs.
pub record FollowsStep (terms : List Term) (t : FlatStep) (locals : Words → ℕ → ℕ) (alive : Words → ℕ) (ss : List SsaStep) (Behind : (Words → ℕ → ℕ) → (Words → ℕ) → List SsaStep → Type 0) : Type 0 where
  pub guard : TermId
  pub named : Named
  pub rest : List SsaStep
  pub steps : ss ≡ steps_by guard (act_by t.act named) ++ rest
  pub made : (w : Words) → values terms w guard ≡ guard_value (alive w) (locals w t.guard)
  pub says : (w : Words) → Says (values terms w) (locals w) t.act named
  pub behind : Behind (λ w. locals_behind (values terms w) (locals w) t named) (λ w. alive_behind t.act (alive w) (locals w t.guard)) rest

-- the thread comes to its end where the run goes on behind the last step
pub record FollowsEnd (terms : List Term) (alive : Words → ℕ) (ss : List SsaStep) : Type 0 where
  pub guard : TermId
  pub steps : ss ≡ record { guard = guard; act = End } ∷ []
  pub made : (w : Words) → values terms w guard ≡ alive w

-- the steps follow those of an instance
abbrev pub Follows : List Term → List FlatStep → (Words → ℕ → ℕ) → (Words → ℕ) → List SsaStep → Type 0
Follows terms [] locals alive ss = FollowsEnd terms alive ss
Follows terms (t ∷ ts) locals alive ss = FollowsStep terms t locals alive ss (Follows terms ts)

-- the terms of a part
abbrev pub terms_in : SsaStep → List TermId
terms_in s = s.guard ∷ terms_of s.act

-- the terms of steps are among these, and their inputs are inputs
pub record AreListed (terms : List Term) (ss : List SsaStep) : Type 0 where
  pub each : All (λ (s : SsaStep). All (IsListed terms) (terms_in s)) ss
  pub inputs : All (λ (t : TermId). slice_get terms t.0 ≡ Some Input) (inputs_in ss)

-- the part follows the instance
pub record IsWalked (terms : List Term) (i : Instance) (p : SsaPart) : Type 0 where
  pub function : p.function ≡ i.function
  pub listed : All (IsListed terms) (p.start ∷ p.handle ∷ p.arg ∷ [])
  pub rest : List SsaStep
  pub steps : p.steps ≡ record { guard = p.start; act = Start } ∷ rest
  pub are_listed : AreListed terms p.steps
  pub follows : Follows terms i.steps (λ w. first_values (values terms w p.arg) (values terms w p.handle)) (λ w. values terms w p.start) rest
