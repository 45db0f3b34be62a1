-- How a view is split in two, and how two are joined.
use Rattle.std.specs.Prelude.{ℕ, true, not, nat_lt, List, [], ◌++◌, filter, None}
use Rattle.std.proofs.Common.{lit≤, lit<, not-suc-le-zero}
use Rattle.cnf_problem.specs.declared.problem.Problem.{Problem}
use Rattle.clause_exchange.specs.declared.rule.Part.{Part}
use Rattle.clause_exchange.specs.declared.rule.View.{View}

-- the numbers below the cut
abbrev pub below : ℕ → List Part → List Part
below cut parts = filter (λ (q : Part). nat_lt q.number cut) parts

-- the numbers from the cut on
abbrev pub from_on : ℕ → List Part → List Part
from_on cut parts = filter (λ (q : Part). not (nat_lt q.number cut)) parts

-- the view with other numbers, which is about to do nothing
abbrev pub with_parts : View → List Part → View
with_parts v parts = record { problem = v.problem; workers = v.workers; share_words = v.share_words; parts = parts; announced = None; cut = 0; spent = v.spent }

-- the two views after a split
abbrev pub left_of : View → View
left_of v = with_parts v (below v.cut v.parts)

abbrev pub right_of : View → View
right_of v = with_parts v (from_on v.cut v.parts)

-- a view with all that two have
abbrev pub joined : View → View → View
joined v w = with_parts v (v.parts ++ w.parts)

-- the problem with nothing in it
abbrev pub no_problem : Problem
no_problem = record {
  vars = 0;
  clauses = [];
  nodes = [];
  atoms = [];
  fixed = [];
  over = record { few_vars = lit≤ tt; few_clauses = lit< tt; each_literal = λ k d h. absurd (not-suc-le-zero h) };
  graphs = record {
    few_nodes = lit< tt;
    few_atoms = lit< tt;
    blocks = λ k d h. absurd (not-suc-le-zero h);
    each_atom = λ k d h. absurd (not-suc-le-zero h);
    each_edge = λ k d h. absurd (not-suc-le-zero h);
  };
}

-- the view of a seat that was joined to another
abbrev pub spent_view : View
spent_view = record { problem = no_problem; workers = 0; share_words = 0; parts = []; announced = None; cut = 0; spent = true }
