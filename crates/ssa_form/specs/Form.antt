-- When terms and steps are the single assignment form of a flat program.
use Rattle.std.specs.Prelude.{◌≡◌, ◌≢◌, ℕ, ◌<◌, ◌≤◌, List, [], ◌∷◌, false, Some, None, length, map, slice_get, take, All}
use Rattle.std.specs.List.{AllZip}
use Rattle.bv_term.specs.declared.term.TermId.{TermId}
use Rattle.bv_term.specs.declared.term.Term.TheVariants.{Input}
use Rattle.bv_term.specs.Values.{IsListed, IsConstant, AreTerms, AreWords, value}
use Rattle.flat_prog.specs.declared.Flat.{Flat}
use Rattle.flat_prog.specs.declared.Instance.{Instance}
use Rattle.flat_prog.specs.Sections.{AreInTurn, KeepsSections}
use Rattle.flat_prog.specs.Shape.{counted}
use Rattle.flat_prog.specs.Runs.{FlatRun, flat_run}
use Rattle.ssa_form.specs.declared.Ssa.{Ssa}
use Rattle.ssa_form.specs.declared.SsaPart.{SsaPart}
use Rattle.ssa_form.specs.declared.SsaStep.{SsaStep}
use Rattle.ssa_form.specs.declared.SsaAct.TheVariants.{Create, Start}
use Rattle.ssa_form.specs.Parts.{Valuation, inputs_in, inputs_in_all, terms_of, created_in, created_in_all, cells_of, marks_of, is_made, script_of, actions_of, ending_by, ending_of}

-- the value of each term under inputs
abbrev pub under : (ℕ → ℕ) → Ssa → Valuation
under inputs x t = value inputs x.terms t

-- the part runs as its instance does, on the numbers that it takes, all of which the run uses
pub record RunsAs (is : List Instance) (i : Instance) (ps : List SsaPart) (v : Valuation) (p : SsaPart) : Type 0 where
  pub run : FlatRun
  pub runs : flat_run is i (v p.arg) (v p.handle) (script_of v p.steps) ≡ Some run
  pub actions : run.actions ≡ actions_of ps v p
  pub ending : ending_of v p ≡ Some run.ending
  pub used : run.used ≡ length (script_of v p.steps)

-- two choices of inputs give these terms the same values
abbrev pub Agree : Ssa → (ℕ → ℕ) → (ℕ → ℕ) → List TermId → Type 0
Agree x a b ts = All (λ t. under a x t ≡ under b x t) ts

-- the terms of a step but the number that it takes
abbrev pub settled_terms : SsaStep → List TermId
settled_terms s = s.guard ∷ terms_of s.act

-- the first n steps
abbrev pub first_steps : ℕ → SsaPart → List SsaStep
first_steps n p = take n p.steps

-- what holds of each part, with its instance
pub record IsPartOf (f : Flat) (x : Ssa) (i : Instance) (p : SsaPart) : Type 0 where
  pub same_function : p.function ≡ i.function
  -- the terms are terms of the form, the cells the program's
  pub listed : All (IsListed x.terms) (p.start ∷ p.handle ∷ p.arg ∷ [])
  pub steps_listed : All (λ s. All (IsListed x.terms) (s.guard ∷ terms_of s.act)) p.steps
  pub inputs : All (λ t. slice_get x.terms t.0 ≡ Some Input) (inputs_in p.steps)
  pub cells : All (λ s. All (λ c. c < length f.initials) (cells_of s.act)) p.steps
  -- the first step is Start, and no other is
  pub starts : slice_get p.steps 0 ≡ Some (record { guard = p.start; act = Start })
  pub starts_once : (n : ℕ) (s : SsaStep) → slice_get p.steps n ≡ Some s → s.act ≡ Start → n ≡ 0
  -- guards are 0 or 1, and all are 0 where the thread is not created
  pub truths : (inputs : ℕ → ℕ) → AreWords inputs → All (λ s. under inputs x s.guard ≤ 1) p.steps
  pub asleep : (inputs : ℕ → ℕ) → AreWords inputs → under inputs x p.start ≡ 0 → All (λ s. under inputs x s.guard ≡ 0) p.steps
  -- behind an ending no step is made
  pub over : (inputs : ℕ → ℕ) (k l : ℕ) (s t : SsaStep) → AreWords inputs → k < l → slice_get p.steps k ≡ Some s → slice_get p.steps l ≡ Some t
      → ending_by s.act ≢ None → under inputs x s.guard ≡ 1 → under inputs x t.guard ≡ 0
  -- what a step does rests on the numbers that the steps before it take, on the handle and on the argument
  pub settled : (a b : ℕ → ℕ) (n : ℕ) (s : SsaStep) → AreWords a → AreWords b → slice_get p.steps n ≡ Some s
      → Agree x a b (p.start ∷ p.handle ∷ p.arg ∷ []) → Agree x a b (inputs_in (first_steps n p)) → Agree x a b (settled_terms s)
  -- sections
  pub closed : AreInTurn false (marks_of p.steps)
  pub held : (inputs : ℕ → ℕ) → AreWords inputs → KeepsSections (marks_of p.steps) (map (is_made (under inputs x)) p.steps)
  -- where the thread is created, its run is the instance's
  pub runs : (inputs : ℕ → ℕ) → AreWords inputs → under inputs x p.start ≡ 1 → RunsAs f.instances i x.parts (under inputs x) p

-- a Create step names the part that it starts
pub record StartsPart (x : Ssa) (s : SsaStep) (n : ℕ) (handle arg : TermId) : Type 0 where
  pub part : SsaPart
  pub there : slice_get x.parts n ≡ Some part
  pub start : part.start ≡ s.guard
  pub same_handle : part.handle ≡ handle
  pub same_arg : part.arg ≡ arg

pub record IsSsaOf (f : Flat) (x : Ssa) : Type 0 where
  -- each term stands behind its arguments
  pub terms : AreTerms x.terms
  pub parts : AllZip (IsPartOf f x) f.instances x.parts
  pub initials : AllZip (λ v t. IsConstant x.terms t v) f.initials x.initials
  -- main is created, with handle 0 and argument 0
  pub main : (p : SsaPart) → slice_get x.parts 0 ≡ Some p
      → IsConstant x.terms p.start 1 × IsConstant x.terms p.handle 0 × IsConstant x.terms p.arg 0
  -- each other part is created by one step, of an earlier part, first in first out
  pub in_turn : 0 ∷ created_in_all x.parts ≡ counted 0 x.parts
  pub later : (i j k : ℕ) (p : SsaPart) → slice_get x.parts i ≡ Some p → slice_get (created_in p.steps) k ≡ Some j → i < j
  pub created : (i n k : ℕ) (p : SsaPart) (s : SsaStep) (handle arg : TermId) → slice_get x.parts i ≡ Some p → slice_get p.steps k ≡ Some s
      → s.act ≡ Create n handle arg → StartsPart x s n handle arg
  -- each number that is taken is an input of its own
  pub own_inputs : (m n : ℕ) (t : TermId) → slice_get (inputs_in_all x.parts) m ≡ Some t → slice_get (inputs_in_all x.parts) n ≡ Some t → m ≡ n
