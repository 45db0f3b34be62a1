-- The state of a walk, and what each part of a step does to it. No public contract cites it.
use Rattle.std.specs.Prelude.{◌≡◌, ℕ, ◌<◌, ◌≤◌, List, [], ◌∷◌, ◌++◌, true, cond, Option, Some, None, IfSome, length, map, slice_get, slice_index_or, nat_eq, All}
use Rattle.dg_base.specs.declared.operators.Op.{Op}
use Rattle.dg_base.specs.Values.{value_of, truth_of, is_true}
use Rattle.bv_term.specs.declared.term.TermId.{TermId}
use Rattle.bv_term.specs.declared.term.Term.{Term}
use Rattle.bv_term.specs.declared.term.Term.TheVariants.{Input}
use Rattle.bv_term.specs.Values.{IsListed, IsConstant, Grows, value as term_value}
use Rattle.flat_prog.specs.declared.Instance.{Instance}
use Rattle.flat_prog.specs.declared.FlatStep.{FlatStep}
use Rattle.flat_prog.specs.declared.FlatAct.{FlatAct}
use Rattle.flat_prog.specs.Shape.{ActFits, StepFits, InstanceFits}
use Rattle.ssa_form.specs.declared.SsaStep.{SsaStep}
use Rattle.ssa_form.specs.declared.SsaPart.{SsaPart}
use Rattle.ssa_form.specs.declared.SsaAct.{SsaAct}
use Rattle.ssa_form.specs.declared.SsaAct.TheVariants.{Create, Start}
use Rattle.ssa_form.specs.declared.walk.Begin.{Begin}
use Rattle.ssa_form.specs.declared.walk.Guard.{Guard}
use Rattle.ssa_form.specs.declared.walk.Named.{Named}
use Rattle.ssa_form.specs.declared.walk.Walk.{Walk}
use Rattle.ssa_form.specs.Parts.{Valuation, inputs_in}
use Rattle.ssa_form.specs.Walks.{Words, values, guard_value, alive_behind, is_taking, Says, steps_by, changed, Follows, FollowsStep, AreListed, IsWalked}

-- ---- the state

-- the values of the locals
abbrev pub locals_of : Valuation → List TermId → ℕ → ℕ
locals_of v ts l = slice_index_or (map v ts) l 0

-- those of a walk under inputs
abbrev pub locals_under : Words → Walk → ℕ → ℕ
locals_under x w = locals_of (values w.terms x) w.values

-- the term is this number
pub record IsNumber (terms : List Term) (t : TermId) (n : ℕ) : Type 0 where
  pub listed : IsListed terms t
  pub constant : IsConstant terms t n
  pub value : (inputs : ℕ → ℕ) → term_value inputs terms t ≡ n

-- what a guard's terms are
pub record IsGuard (w : Walk) (g : Guard) : Type 0 where
  pub local : g.local < length w.values
  pub holds_listed : IsListed w.terms g.holds
  pub made_listed : IsListed w.terms g.made
  pub holds : (x : Words) → values w.terms x g.holds ≡ truth_of (is_true (locals_under x w g.local))
  pub made : (x : Words) → values w.terms x g.made ≡ guard_value (values w.terms x w.alive) (locals_under x w g.local)

-- the terms that a thread begins with are among these
abbrev pub IsBeginListed : List Term → Begin → Type 0
IsBeginListed terms b = All (IsListed terms) (b.start ∷ b.handle ∷ b.arg ∷ [])

pub record IsWalk (w : Walk) : Type 0 where
  pub zero : IsNumber w.terms w.zero 0
  pub one : IsNumber w.terms w.one 1
  pub created : All (IsBeginListed w.terms) w.created
  pub locals : All (IsListed w.terms) w.values
  pub alive : IsListed w.terms w.alive
  pub last : IfSome w.last (IsGuard w)
  pub steps : AreListed w.terms w.steps

-- ---- parts of a step

-- an act and a step of an instance with so many locals, and some number of cells
abbrev pub HasLocals : ℕ → FlatAct → Type 0
HasLocals locals a = (cells : ℕ) × ActFits locals cells a

abbrev pub IsWithin : ℕ → FlatStep → Type 0
IsWithin locals t = (cells : ℕ) × StepFits locals cells t

-- only terms were added, and perhaps another guard is the last one
pub record OnlyTerms (a b : Walk) : Type 0 where
  pub grows : Grows a.terms b.terms
  pub zero : b.zero ≡ a.zero
  pub one : b.one ≡ a.one
  pub created : b.created ≡ a.created
  pub locals : b.values ≡ a.values
  pub alive : b.alive ≡ a.alive
  pub steps : b.steps ≡ a.steps

-- the guard of a local
pub record IsGuardOf (a b : Walk) (local : ℕ) (g : Guard) : Type 0 where
  pub walk : IsWalk b
  pub only : OnlyTerms a b
  pub same : g.local ≡ local
  pub last : b.last ≡ Some g
  pub guard : IsGuard b g

-- the operator's value of these locals
pub record IsApplied (a b : Walk) (op : Op) (args : List ℕ) (t : TermId) : Type 0 where
  pub only : b ≡ record a { terms = b.terms }
  pub grows : Grows a.terms b.terms
  pub listed : IsListed b.terms t
  pub value : (x : Words) → values b.terms x t ≡ value_of op (map (locals_under x a) args)

-- the terms of an act; a number that is taken is a new input
pub record AreNamed (a b : Walk) (act : FlatAct) (n : Named) : Type 0 where
  pub only : b ≡ record a { terms = b.terms }
  pub grows : Grows a.terms b.terms
  pub first : IsListed b.terms n.first
  pub second : IsListed b.terms n.second
  pub says : (x : Words) → Says (values b.terms x) (locals_under x a) act n
  pub input : is_taking act ≡ true → slice_get b.terms n.first.0 ≡ Some Input
  pub fresh : is_taking act ≡ true → length a.terms ≤ n.first.0

-- what the threads that a step creates begin with
abbrev pub begins_by : TermId → SsaAct → List Begin
begins_by guard (Create i handle arg) = record { start = guard; handle = handle; arg = arg } ∷ []
begins_by guard _ = []

abbrev pub begins_in : List SsaStep → List Begin
begins_in [] = []
begins_in (s ∷ ss) = begins_by s.guard s.act ++ begins_in ss

abbrev pub begins_in_all : List SsaPart → List Begin
begins_in_all [] = []
begins_in_all (p ∷ ps) = begins_in p.steps ++ begins_in_all ps

-- the step that there may be is noted
abbrev pub noted : Walk → TermId → Option SsaAct → Walk
noted w guard act = record w { created = w.created ++ begins_in (steps_by guard act); steps = w.steps ++ steps_by guard act }

-- the local that there may be has the term's value where the guard holds
pub record IsChanged (a b : Walk) (g : Guard) (to : Option ℕ) (t : TermId) : Type 0 where
  pub walk : IsWalk b
  pub grows : Grows a.terms b.terms
  pub zero : b.zero ≡ a.zero
  pub one : b.one ≡ a.one
  pub created : b.created ≡ a.created
  pub alive : b.alive ≡ a.alive
  pub steps : b.steps ≡ a.steps
  pub count : length b.values ≡ length a.values
  pub locals : (x : Words) → locals_under x b ≡ cond (is_true (locals_under x a g.local)) (changed (locals_under x a) to (values a.terms x t)) (locals_under x a)
  pub none : to ≡ None → b ≡ a

-- the run is over where the guard holds
pub record IsFinished (a b : Walk) (g : Guard) : Type 0 where
  pub walk : IsWalk b
  pub grows : Grows a.terms b.terms
  pub zero : b.zero ≡ a.zero
  pub one : b.one ≡ a.one
  pub created : b.created ≡ a.created
  pub locals : b.values ≡ a.values
  pub steps : b.steps ≡ a.steps
  pub alive : (x : Words) → values b.terms x b.alive ≡ cond (is_true (locals_under x a g.local)) 0 (values a.terms x a.alive)

-- the same, where the act ends a run
pub record IsLeft (a b : Walk) (g : Guard) (act : FlatAct) : Type 0 where
  pub walk : IsWalk b
  pub grows : Grows a.terms b.terms
  pub zero : b.zero ≡ a.zero
  pub one : b.one ≡ a.one
  pub created : b.created ≡ a.created
  pub locals : b.values ≡ a.values
  pub steps : b.steps ≡ a.steps
  pub alive : (x : Words) → values b.terms x b.alive ≡ alive_behind act (values a.terms x a.alive) (locals_under x a g.local)

-- ---- steps, parts, the whole

-- no input stands at two places
abbrev pub AreOwn : List TermId → Type 0
AreOwn ts = (m n : ℕ) (t : TermId) → slice_get ts m ≡ Some t → slice_get ts n ≡ Some t → m ≡ n

-- inputs that stand behind others of these terms are none of them
abbrev pub StayOwn : List Term → List TermId → Type 0
StayOwn terms more = (ts : List TermId) → All (IsListed terms) ts → AreOwn ts → AreOwn (ts ++ more)

-- whatever follows what is behind it, the added steps follow the step
pub record IsStepped (a b : Walk) (t : FlatStep) : Type 0 where
  pub walk : IsWalk b
  pub grows : Grows a.terms b.terms
  pub zero : b.zero ≡ a.zero
  pub one : b.one ≡ a.one
  pub count : length b.values ≡ length a.values
  pub added : List SsaStep
  pub steps : b.steps ≡ a.steps ++ added
  pub created : b.created ≡ a.created ++ begins_in added
  pub own : StayOwn a.terms (inputs_in added)
  pub follows : (terms : List Term) (ts : List FlatStep) (ss : List SsaStep) → Grows b.terms terms
      → Follows terms ts (λ x. locals_of (values terms x) b.values) (λ x. values terms x b.alive) ss
      → FollowsStep terms t (λ x. locals_of (values terms x) a.values) (λ x. values terms x a.alive) (added ++ ss) (Follows terms ts)

abbrev pub IsInstance : Instance → Type 0
IsInstance i = (cells : ℕ) × InstanceFits cells i

-- the terms of the locals where a thread begins
abbrev pub first_term : Walk → Begin → ℕ → TermId
first_term w b l = cond (nat_eq l 0) b.arg (cond (nat_eq l 1) b.handle (cond (nat_eq l 2) w.one w.zero))

abbrev pub AreFirst : Walk → Begin → List TermId → Type 0
AreFirst w b ts = (l : ℕ) → l < length ts → slice_get ts l ≡ Some (first_term w b l)

-- an instance with so many locals is begun
pub record IsEntered (a b : Walk) (locals : ℕ) (begin : Begin) : Type 0 where
  pub walk : IsWalk b
  pub terms : b.terms ≡ a.terms
  pub zero : b.zero ≡ a.zero
  pub one : b.one ≡ a.one
  pub created : b.created ≡ a.created
  pub count : length b.values ≡ locals
  pub first : AreFirst a begin b.values
  pub alive : b.alive ≡ begin.start
  pub steps : b.steps ≡ record { guard = begin.start; act = Start } ∷ []

-- what a part begins with
abbrev pub begin_of : SsaPart → Begin
begin_of p = record { start = p.start; handle = p.handle; arg = p.arg }

-- the instance is walked
pub record IsParted (a b : Walk) (i : Instance) (begin : Begin) (p : SsaPart) : Type 0 where
  pub walk : IsWalk b
  pub steps : b.steps ≡ []
  pub grows : Grows a.terms b.terms
  pub zero : b.zero ≡ a.zero
  pub one : b.one ≡ a.one
  pub created : b.created ≡ a.created ++ begins_in p.steps
  pub begins : begin_of p ≡ begin
  pub own : StayOwn a.terms (inputs_in p.steps)
  pub walked : (terms : List Term) → Grows b.terms terms → IsWalked terms i p
