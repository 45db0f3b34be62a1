-- What a look at a clause finds, where the literals of a set are true.
use Rattle.std.specs.Prelude.{List}
use Rattle.dg_base.specs.declared.Lit.{Lit}
use Rattle.cnf_problem.specs.declared.problem.Problem.{Problem}
use Rattle.cnf_problem.specs.Chains.{AllFalse}
use Rattle.lemma_log.specs.declared.hints.Hint.{Hint}
use Rattle.log_checker.specs.Hints.{Gives, IsRightLast, IsRightNext}
use Rattle.hint_checker.specs.declared.look.Finding.{Finding}
use Rattle.hint_checker.specs.declared.look.Finding.TheVariants.{False, Gives as Giving, Neither}

-- what was found of a clause
abbrev pub IsFinding : List Lit → List Lit → Finding → Type 0
IsFinding set clause False = AllFalse set clause
IsFinding set clause (Giving l) = Gives set clause l
IsFinding set clause Neither = (¬ AllFalse set clause) × ((l : Lit) → ¬ Gives set clause l)

-- what was found of the clause that a hint names: the hint is right at the end, or right before others, or neither
abbrev pub IsFindingAt : Problem → List (List Lit) → List Lit → Hint → Finding → Type 0
IsFindingAt p before set h False = IsRightLast p before set h
IsFindingAt p before set h (Giving l) = IsRightNext p before set h l
IsFindingAt p before set h Neither = (¬ IsRightLast p before set h) × ((l : Lit) → ¬ IsRightNext p before set h l)
