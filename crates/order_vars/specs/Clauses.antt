-- The clauses of one link.
use Rattle.std.specs.Prelude.{ℕ, List, [], ◌∷◌, ◌++◌}
use Rattle.dg_base.specs.declared.Lit.{Lit}
use Rattle.cnf_problem.specs.Literals.{negated}
use Rattle.cnf_problem.specs.Formulas.{Formula}
use Rattle.memory_models.specs.declared.StaticEvent.{StaticEvent}
use Rattle.order_vars.specs.Links.{Link, reading, beginning, rivalry, joining}
use Rattle.order_vars.specs.Atoms.{event_at}
use Rattle.order_vars.specs.Holding.{word_at}

-- the formula with these clauses behind its own
abbrev pub with_clauses : Formula → List (List Lit) → Formula
with_clauses f added = record { vars = f.vars; clauses = f.clauses ++ added }

abbrev pub guard_at : List StaticEvent → ℕ → Lit
guard_at es n = (event_at es n).guard

-- the literal's events happen where it is true
abbrev pub both_clauses : Lit → Lit → Lit → List (List Lit)
both_clauses l a b = (negated l ∷ a ∷ []) ∷ (negated l ∷ b ∷ []) ∷ []

-- two bits agree where the literal is true
abbrev pub bit_clauses : Lit → Lit → Lit → List (List Lit)
bit_clauses l a b = (negated l ∷ negated a ∷ b ∷ []) ∷ (negated l ∷ a ∷ negated b ∷ []) ∷ []

-- the bits agree where the literal is true
abbrev pub same_clauses : Lit → List Lit → List Lit → List (List Lit)
same_clauses l [] bs = []
same_clauses l (a ∷ rest) [] = []
same_clauses l (a ∷ rest) (b ∷ bs) = (negated l ∷ negated a ∷ b ∷ []) ∷ (negated l ∷ a ∷ negated b ∷ []) ∷ same_clauses l rest bs

abbrev pub link_clauses : List StaticEvent → List (List Lit) → Link → List (List Lit)
link_clauses es words (reading w r l) = both_clauses l (guard_at es w) (guard_at es r) ++ same_clauses l (word_at words w) (word_at words r)
link_clauses es words (beginning i w l) = []
link_clauses es words (rivalry w v l back) =
    both_clauses l (guard_at es w) (guard_at es v) ++ both_clauses back (guard_at es w) (guard_at es v)
    ++ (negated (guard_at es w) ∷ negated (guard_at es v) ∷ l ∷ back ∷ []) ∷ []
link_clauses es words (joining e j l) =
    both_clauses l (guard_at es e) (guard_at es j) ++ same_clauses l (word_at words e) (word_at words j)
    ++ (negated l ∷ word_at words j) ∷ []
