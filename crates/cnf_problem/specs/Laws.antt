-- What holds of every problem, whatever a search does.
use Rattle.std.specs.Prelude.{◌≡◌, Bool, List, [], ◌++◌, length, Contains}
use Rattle.dg_base.specs.declared.Lit.{Lit}
use Rattle.cnf_problem.specs.declared.problem.Problem.{Problem}
use Rattle.cnf_problem.specs.declared.problem.Lemma.{Lemma}
use Rattle.cnf_problem.specs.Literals.{IsSatisfied, AreSatisfied}
use Rattle.cnf_problem.specs.Chains.{IsFixpoint, AllFalse, Reaches, ReachesConflict, IsNew, others}
use Rattle.cnf_problem.specs.Problems.{IsConsistent, Follows, FollowInTurn}
use Rattle.cnf_problem.specs.Formulas.{Formula, HasValue, Extends, AddsFree}

-- each element of the first list is in the second
abbrev pub IsWithin : {A : Type 0} → List A → List A → Type 0
IsWithin {A} xs ys = (x : A) → Contains xs x → Contains ys x

-- a lemma that follows is true in each consistent assignment in which the clauses before it are true
abbrev pub FollowingIsTrue : Type 0
FollowingIsTrue =
    (p : Problem) (clauses : List (List Lit)) (lemma : Lemma) (assignment : List Bool)
    → Follows p clauses lemma → IsConsistent p assignment → AreSatisfied assignment clauses → IsSatisfied assignment lemma.lits

-- a lemma that follows from some clauses follows from more
abbrev pub FollowsFromMore : Type 0
FollowsFromMore =
    (p : Problem) (clauses more : List (List Lit)) (lemma : Lemma) → IsWithin clauses more → Follows p clauses lemma → Follows p more lemma

-- where lemmas that follow in turn have the empty clause, no assignment is consistent
abbrev pub RefutedHasNoAssignment : Type 0
RefutedHasNoAssignment =
    (p : Problem) (lemmas : List Lemma) (lemma : Lemma) (assignment : List Bool)
    → FollowInTurn p [] lemmas → Contains lemmas lemma → lemma.lits ≡ [] → ¬ IsConsistent p assignment

-- what a unit chain from literals of a fixpoint makes true is in the fixpoint
abbrev pub FixpointHasChains : Type 0
FixpointHasChains =
    (clauses : List (List Lit)) (lits start : List Lit) (l : Lit) → IsFixpoint clauses lits → IsWithin start lits → Reaches clauses start l → Contains lits l

-- and it makes no clause false
abbrev pub FixpointHasNoConflict : Type 0
FixpointHasNoConflict =
    (clauses : List (List Lit)) (lits start : List Lit) → IsFixpoint clauses lits → IsWithin start lits → ¬ ReachesConflict clauses start

-- a lemma is new where one of its literals isn't true at a fixpoint, and the others are false there
abbrev pub FixpointMakesNew : Type 0
FixpointMakesNew =
    (clauses : List (List Lit)) (lits lemma : List Lit) (l : Lit)
    → IsFixpoint clauses lits → Contains lemma l → ¬ Contains lits l → AllFalse lits (others l lemma) → IsNew clauses lemma

-- a new lemma is none of the clauses, so of lemmas that are new in turn no two have the same literals
abbrev pub NewIsNotListed : Type 0
NewIsNotListed = (clauses : List (List Lit)) (lemma : List Lit) → IsNew clauses lemma → ¬ Contains clauses lemma

-- what extends a formula in two steps extends it
abbrev pub ExtendsInSteps : Type 0
ExtendsInSteps = (f g h : Formula) → Extends f g → Extends g h → Extends f h

-- a free variable extends a formula
abbrev pub FreeExtends : Type 0
FreeExtends = (f g : Formula) → AddsFree f g → Extends f g

-- each assignment that makes a formula's clauses true extends to one of a formula that extends it
abbrev pub ExtendsAssignments : Type 0
ExtendsAssignments =
    (f g : Formula) (assignment : List Bool) → Extends f g → length assignment ≡ f.vars → AreSatisfied assignment f.clauses
    → (more : List Bool) × (length (assignment ++ more) ≡ g.vars) × AreSatisfied (assignment ++ more) g.clauses

-- a gate keeps its value when the formula is extended
abbrev pub ExtendsValues : Type 0
ExtendsValues =
    (f g : Formula) (l : Lit) (gate : List Bool → Bool) → Extends f g → HasValue f.clauses l gate → HasValue g.clauses l gate
