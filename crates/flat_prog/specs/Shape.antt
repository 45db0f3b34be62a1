-- What holds of every flat program.
use Rattle.std.specs.Prelude.{◌≡◌, ℕ, ◌+◌, ◌<◌, ◌≤◌, List, [], ◌∷◌, ◌++◌, true, false, Some, length, map, slice_get, All}
use Rattle.dg_base.specs.Values.{arity}
use Rattle.flat_prog.specs.declared.Flat.{Flat}
use Rattle.flat_prog.specs.declared.Instance.{Instance}
use Rattle.flat_prog.specs.declared.FlatStep.{FlatStep}
use Rattle.flat_prog.specs.declared.FlatAct.{FlatAct}
use Rattle.flat_prog.specs.declared.FlatAct.TheVariants.{Set, Put, Take, Read, Write, Open, Close, Create, Join, Stop, Bad, Fail}
use Rattle.flat_prog.specs.Sections.{Mark, Opens, Closes, Acts, Silent, AreInTurn, IsSection, KeepsSections}
use Rattle.flat_prog.specs.Runs.{FlatState, Goes, steps, begins, made_in}

-- the numbers of locals are among the first so many, those of cells among so many, and an operator has as many arguments as it takes
abbrev pub ActFits : ℕ → ℕ → FlatAct → Type 0
ActFits locals cells (Set to op args) = (to < locals) × (length args ≡ arity op) × All (λ a. a < locals) args
ActFits locals cells (Put to v) = to < locals
ActFits locals cells (Take to) = to < locals
ActFits locals cells (Read c to) = (c < cells) × (to < locals)
ActFits locals cells (Write c from) = (c < cells) × (from < locals)
ActFits locals cells (Create i handle arg) = (handle < locals) × (arg < locals)
ActFits locals cells (Join from) = from < locals
ActFits locals cells _ = Unit {0}

abbrev pub StepFits : ℕ → ℕ → FlatStep → Type 0
StepFits locals cells t = (t.guard < locals) × ActFits locals cells t.act

pub record InstanceFits (cells : ℕ) (i : Instance) : Type 0 where
  pub locals : 3 ≤ i.locals
  pub steps : All (StepFits i.locals cells) i.steps

-- ---- creates

-- the instances that a step creates
abbrev pub created_by : FlatAct → List ℕ
created_by (Create i handle arg) = i ∷ []
created_by _ = []

abbrev pub created_in : List FlatStep → List ℕ
created_in [] = []
created_in (t ∷ ts) = created_by t.act ++ created_in ts

abbrev pub created_in_all : List Instance → List ℕ
created_in_all [] = []
created_in_all (i ∷ is) = created_in i.steps ++ created_in_all is

-- the numbers from n on, one for each item
abbrev pub counted : {A : Type 0} → ℕ → List A → List ℕ
counted n [] = []
counted n (x ∷ xs) = n ∷ counted (n + 1) xs

-- each instance but main's is created by one step, of an earlier instance; in the order of the text of the instances, first in first out
pub record CreatesInTurn (is : List Instance) : Type 0 where
  pub in_turn : 0 ∷ created_in_all is ≡ counted 0 is
  pub later : (i j k : ℕ) (x : Instance) → slice_get is i ≡ Some x → slice_get (created_in x.steps) k ≡ Some j → i < j

-- ---- sections

abbrev pub mark_of : FlatAct → Mark
mark_of Open = Opens
mark_of Close = Closes
mark_of (Set to op args) = Silent
mark_of (Put to v) = Silent
mark_of (Take to) = Silent
mark_of Stop = Silent
mark_of Bad = Silent
mark_of (Fail p tag) = Silent
mark_of _ = Acts

abbrev pub marks_of : List FlatStep → List Mark
marks_of ts = map (λ (t : FlatStep). mark_of t.act) ts

abbrev pub SectionsClose : Instance → Type 0
SectionsClose i = AreInTurn false (marks_of i.steps)

-- in each run
abbrev pub SectionsHold : List Instance → Instance → Type 0
SectionsHold is i = (arg handle : ℕ) (script : List ℕ) → KeepsSections (marks_of i.steps) (made_in is i arg handle script)

-- a run that comes to its end behind the last step has made the close of each section whose open it made
abbrev pub SectionsEnd : List Instance → Instance → Type 0
SectionsEnd is i =
    (arg handle : ℕ) (script : List ℕ) (s : FlatState) (o c : ℕ) → steps is i.steps (begins arg handle script) ≡ Goes s → IsSection (marks_of i.steps) o c
    → slice_get (made_in is i arg handle script) o ≡ Some true → slice_get (made_in is i arg handle script) c ≡ Some true

-- ---- the whole

pub record IsFlat (f : Flat) : Type 0 where
  pub fits : All (InstanceFits (length f.initials)) f.instances
  pub creates : CreatesInTurn f.instances
  pub closed : All SectionsClose f.instances
  pub held : All (SectionsHold f.instances) f.instances
  pub ended : All (SectionsEnd f.instances) f.instances
