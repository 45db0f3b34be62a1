-- That each lemma of a number was new when it was appended, by what is kept of the number.
use Rattle.std.specs.Prelude.{◌≡◌, ◌≢◌, ℕ, ◌≤◌, List, [], ◌∷◌, ◌++◌, length, take, slice_get, Some}
use Rattle.dg_base.specs.declared.Lit.{Lit}
use Rattle.cnf_problem.specs.declared.problem.Problem.{Problem}
use Rattle.cnf_problem.specs.Chains.{IsNew}
use Rattle.search_core.specs.declared.Entry.{Entry}
use Rattle.search_core.specs.Core.{lits_of}
use Rattle.clause_exchange.specs.declared.rule.Received.{Received}
use Rattle.clause_exchange.specs.declared.rule.RowView.{RowView}
use Rattle.clause_exchange.specs.declared.rule.Part.{Part}
use Rattle.clause_exchange.specs.Steps.{reading, received_lits}

-- what a number knows: the clauses of its log and of what it read
abbrev pub knows : Part → List (List Lit)
knows part = lits_of part.log ++ received_lits (reading part.rows)

-- the first so many entries that are known of each row
abbrev pub first_known : List ℕ → List RowView → List Received
first_known [] rows = []
first_known (n ∷ ns) [] = []
first_known (n ∷ ns) (r ∷ rows) = take n r.known ++ first_known ns rows

-- what a number knew when it appended entry k: its log before it, and what it might read of each row then, by the numbers that are kept with the entry
abbrev pub knew : Part → ℕ → Entry → List (List Lit)
knew part k e = lits_of (take k part.log) ++ received_lits (first_known e.seen part.rows)

-- the numbers are one for each row, and so many entries are known there
pub record AreSeen (rows : List RowView) (seen : List ℕ) : Type 0 where
  pub wide : length seen ≡ length rows
  pub known : (j n : ℕ) (r : RowView) → slice_get seen j ≡ Some n → slice_get rows j ≡ Some r → n ≤ length r.known

-- entry k of the log was new over the problem and what the number knew then, unless it is empty
pub record WasNew (p : Problem) (part : Part) (k : ℕ) (e : Entry) : Type 0 where
  pub seen : AreSeen part.rows e.seen
  pub new : e.lemma.lits ≢ [] → IsNew (p.clauses ++ knew part k e) e.lemma.lits

-- each entry of the log was
abbrev pub WereNew : Problem → Part → Type 0
WereNew p part = (k : ℕ) (e : Entry) → slice_get part.log k ≡ Some e → WasNew p part k e
