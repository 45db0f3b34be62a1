-- Good logs.
use Rattle.std.specs.Prelude.{◌≡◌, List, [], ◌∷◌, ◌++◌, map}
use Rattle.dg_base.specs.declared.Lit.{Lit}
use Rattle.cnf_problem.specs.declared.problem.Problem.{Problem}
use Rattle.cnf_problem.specs.declared.problem.Lemma.{Lemma}
use Rattle.cnf_problem.specs.Problems.{FollowInTurn}
use Rattle.lemma_log.specs.declared.Entry.{Entry}

abbrev pub lemmas_of : List Entry → List Lemma
lemmas_of entries = map (λ (e : Entry). e.lemma) entries

-- the clauses of the entries
abbrev pub clauses_of : List Entry → List (List Lit)
clauses_of entries = map (λ (e : Entry). e.lemma.lits) entries

-- each entry follows, by its kind, from the problem and the entries before it
abbrev pub IsGood : Problem → List Entry → Type 0
IsGood p entries = FollowInTurn p [] (lemmas_of entries)

-- the last entry is the empty clause
pub record EndsEmpty (entries : List Entry) : Type 0 where
  pub before : List Entry
  pub last : Entry
  pub parts : entries ≡ before ++ last ∷ []
  pub empty : last.lemma.lits ≡ []
