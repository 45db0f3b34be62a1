use Rattle.std.specs.Prelude.{◌≡◌, ⊤, Bool, true, List, [], ◌∷◌, ◌++◌, length, map, Contains, All}
use Rattle.dg_base.specs.declared.Lit.{Lit}
use Rattle.cnf_problem.specs.declared.problem.Problem.{Problem}
use Rattle.cnf_problem.specs.declared.problem.Lemma.{Lemma}
use Rattle.cnf_problem.specs.declared.problem.LemmaKind.{LemmaKind}
use Rattle.cnf_problem.specs.declared.problem.LemmaKind.TheVariants.{Unit, Cycle}
use Rattle.cnf_problem.specs.Literals.{negated, value, IsOver, AreSatisfied}
use Rattle.cnf_problem.specs.Chains.{ReachesConflict}
use Rattle.cnf_problem.specs.Edges.{IsCyclic}

-- one truth value per variable, under which each clause is true and neither graph has a cycle
pub record IsConsistent (p : Problem) (assignment : List Bool) : Type 0 where
  pub values : length assignment ≡ p.vars
  pub clauses : AreSatisfied assignment p.clauses
  pub acyclic : ¬ IsCyclic p (λ l. value assignment l ≡ true)

-- what the kind of a lemma asks: from the negated literals a unit chain makes a clause false; or the atoms whose negations it lists have a cycle
abbrev pub FollowsBy : LemmaKind → Problem → List (List Lit) → List Lit → Type 0
FollowsBy Unit p clauses lits = ReachesConflict (p.clauses ++ clauses) (map negated lits)
FollowsBy Cycle p clauses lits = IsCyclic p (λ l. Contains lits (negated l))

-- the lemma follows from the problem and the clauses
pub record Follows (p : Problem) (clauses : List (List Lit)) (lemma : Lemma) : Type 0 where
  pub variables : All (IsOver p.vars) lemma.lits
  pub cause : FollowsBy lemma.kind p clauses lemma.lits

-- each lemma in turn follows from the problem, the clauses and the lemmas before it
abbrev pub FollowInTurn : Problem → List (List Lit) → List Lemma → Type 0
FollowInTurn p clauses [] = ⊤
FollowInTurn p clauses (lemma ∷ lemmas) = Follows p clauses lemma × FollowInTurn p (clauses ++ lemma.lits ∷ []) lemmas
