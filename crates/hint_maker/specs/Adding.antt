-- What stands between the entries of a log.
use Rattle.std.specs.Prelude.{◌≡◌, ◌+◌, List, All, length}
use Rattle.dg_base.specs.declared.Lit.{Lit}
use Rattle.cnf_problem.specs.declared.problem.Problem.{Problem}
use Rattle.cnf_problem.specs.Literals.{IsOver}
use Rattle.unit_refuter.specs.Refuting.{IsReady}
use Rattle.hint_maker.specs.declared.adding.Hinter.{Hinter}
use Rattle.hint_maker.specs.Walking.{NoneIsMarked}

-- the refuter knows these clauses, which are over the problem's variables, and no variable is marked
pub record IsReadyFor (p : Problem) (clauses : List (List Lit)) (h : Hinter) : Type 0 where
  pub ready : IsReady p clauses h.refuter
  pub over : All (All (IsOver p.vars)) clauses
  pub room : length h.marks.items ≡ p.vars + 1
  pub none : NoneIsMarked h.marks.items
