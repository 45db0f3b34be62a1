-- Numbers of 32 bits, as the types of an entry's parts have them.
use Rattle.std.specs.Prelude.{◌≡◌, ⊤, ◌≤◌, Bool, true}
use Rattle.std.specs.List.{AllByRecursion}
use Rattle.cnf_problem.specs.Literals.{var}
use Rattle.cnf_problem.specs.declared.problem.LemmaKind.TheVariants.{Unit as ByUnit}
use Rattle.lemma_log.specs.declared.hints.Hint.{Hint}
use Rattle.lemma_log.specs.declared.hints.Hint.TheVariants.{Clause, Ticket}
use Rattle.cnf_problem.specs.declared.problem.Head.{Head}
use Rattle.log_text.specs.declared.stage.HeadLine.{HeadLine}
use Rattle.log_text.specs.declared.stage.HeadLine.TheVariants.{Model, Unroll, Vars, Clauses, Nodes, Atoms}
use Rattle.log_text.specs.Formats.{Row}
use Rattle.log_text.specs.Spelling.{IsNumber}

abbrev pub IsHintNumber : Hint → Type 0
IsHintNumber (Clause n) = IsNumber n
IsHintNumber (Ticket n) = IsNumber n

-- the literals, and the hints that are written
pub record HasRowNumbers (hinted : Bool) (r : Row) : Type 0 where
  pub lits : AllByRecursion (λ l. var l ≤ 2147483647) r.lits
  pub hints : hinted ≡ true → r.kind ≡ ByUnit → AllByRecursion IsHintNumber r.hints

-- the number of a head's line
abbrev pub IsHeadNumber : Head → HeadLine → Type 0
IsHeadNumber h Model = ⊤
IsHeadNumber h Unroll = IsNumber h.unroll
IsHeadNumber h Vars = IsNumber h.vars
IsHeadNumber h Clauses = IsNumber h.clauses
IsHeadNumber h Nodes = IsNumber h.nodes
IsHeadNumber h Atoms = IsNumber h.atoms

abbrev pub HasHeadNumbers : Head → Type 0
HasHeadNumbers h = (at : HeadLine) → IsHeadNumber h at
