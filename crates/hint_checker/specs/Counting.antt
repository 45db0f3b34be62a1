-- How many literals a check by hints may look at.
use Rattle.std.specs.Prelude.{ℕ, zero, suc, ◌+◌, List, Option, Some, None, length, sum_by, take, slice_get}
use Rattle.dg_base.specs.declared.Lit.{Lit}
use Rattle.cnf_problem.specs.declared.problem.Problem.{Problem}
use Rattle.cnf_problem.specs.declared.problem.LemmaKind.{LemmaKind}
use Rattle.cnf_problem.specs.declared.problem.LemmaKind.TheVariants.{Unit as ByUnit, Cycle}
use Rattle.lemma_log.specs.declared.Entry.{Entry}
use Rattle.lemma_log.specs.declared.hints.Hint.{Hint}
use Rattle.log_checker.specs.Goodness.{clauses_of}
use Rattle.log_checker.specs.Hints.{hints_at, named}

abbrev pub length_of : Option (List Lit) → ℕ
length_of None = 0
length_of (Some clause) = length clause

-- the literals of the clause that a hint names
abbrev pub literals_named : Problem → List (List Lit) → Hint → ℕ
literals_named p before h = length_of (named p before h)

abbrev pub literals_of_hints : Problem → List (List Lit) → List Hint → ℕ
literals_of_hints p before hints = sum_by (λ h. literals_named p before h) hints

-- a lemma by unit propagation: its own literals and those of its hinted clauses; a cycle lemma: none
abbrev pub most_looks : LemmaKind → Problem → List (List Lit) → List Lit → List Hint → ℕ
most_looks ByUnit p before lits hints = length lits + literals_of_hints p before hints
most_looks Cycle p before lits hints = 0

-- the entry at this place, if there is one
abbrev pub most_looks_at : Problem → List Entry → List (List Hint) → ℕ → Option Entry → ℕ
most_looks_at p entries hints k None = 0
most_looks_at p entries hints k (Some e) = most_looks e.lemma.kind p (clauses_of (take k entries)) e.lemma.lits (hints_at hints k)

-- the first so many entries of a log
abbrev pub most_looks_in : Problem → List Entry → List (List Hint) → ℕ → ℕ
most_looks_in p entries hints zero = 0
most_looks_in p entries hints (suc k) = most_looks_in p entries hints k + most_looks_at p entries hints k (slice_get entries k)
