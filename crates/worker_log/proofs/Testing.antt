-- What the tests' problem and seats are.
use Rattle.std.proofs.Common.{◌≡◌, ℕ, ◌+◌, ◌<◌, inl, inr, List, [], ◌∷◌, ◌++◌, map, length, lit<, lit≤, refl, ap, sym, ◌∙◌, subst, arith, Some, slice_get}
use Rattle.std.specs.Prelude.{Contains}
use Rattle.std.proofs.lemmas.List.{length-append}
use Rattle.std.proofs.lemmas.List.Elements.{All-nil, All-same, Contains-append_left}
use Rattle.dg_base.proofs.Lists.{contains_head, contains_nothing, contains_cases}
use Rattle.dg_base.specs.declared.Lit.{Lit}
use Rattle.cnf_problem.specs.declared.problem.Lemma.{Lemma}
use Rattle.cnf_problem.specs.declared.problem.LemmaKind.TheVariants.{Unit as ByUnit}
use Rattle.cnf_problem.specs.declared.problem.Problem.{Problem}
use Rattle.cnf_problem.specs.Literals.{negated, IsOver}
use Rattle.cnf_problem.specs.Chains.{ReachesConflict, step, done}
use Rattle.cnf_problem.specs.Formulas.{true_lit}
use Rattle.cnf_problem.specs.Problems.{FollowsBy}
use Rattle.clause_exchange.specs.declared.rule.Part.{Part}
use Rattle.clause_exchange.specs.declared.rule.View.{View}
use Rattle.clause_exchange.specs.Rule.{blank_part, new_view}
use Rattle.clause_exchange.specs.Steps.{mine}
use Rattle.clause_exchange.specs.Splits.{with_parts, below, from_on}
use Rattle.clause_exchange.specs.Calls.{Cuts}
use Rattle.worker_log.specs.Newness.{knows}
use Rattle.worker_log.specs.Logs.{LogView, empty_log, IsUnused}
use Rattle.worker_log.specs.Keeping.{IsHeeding, MayNote, Notes}
use Rattle.worker_log.proofs.Beginning.{unused_blank}

abbrev false_lit : Lit
false_lit = record { 0 = 3 }

true_is_false : negated false_lit ≡ true_lit
unfolding negated
true_is_false = refl

refutes : (clauses : List (List Lit)) → Contains clauses (true_lit ∷ []) → Contains clauses (false_lit ∷ []) → ReachesConflict clauses []
refutes clauses is_true is_false = record {
  reached = true_lit ∷ [];
  chain = step {lits = []} (true_lit ∷ []) true_lit is_true (contains_head true_lit []) (λ m h. elim (contains_cases true_lit m [] h) [ inl same ↦ inl same | inr none ↦ absurd (contains_nothing m none) ]) done;
  clause = false_lit ∷ [];
  listed = is_false;
  conflict = λ m h. elim (contains_cases false_lit m [] h) [
    | inl same ↦ subst (λ (l : Lit). Contains (true_lit ∷ []) l) (sym (ap negated same ∙ true_is_false)) (contains_head true_lit [])
    | inr none ↦ absurd (contains_nothing m none)
  ];
}

-- the empty lemma may be noted where the problem has a variable and its negation as clauses
pub may_refute : (v : View) (l : Lemma) → Contains v.problem.clauses (true_lit ∷ []) → Contains v.problem.clauses (record { 0 = 3 } ∷ []) → l.lits ≡ [] → l.kind ≡ ByUnit → IsHeeding (mine v) 0 → length (mine v).log < 1024 → MayNote v l
may_refute v l is_true is_false lits kind heeding few = record {
  since = 0;
  heeding = heeding;
  recent = omega arith;
  room = omega arith;
  follows = record {
    variables = All-same (IsOver v.problem.vars) l.lits [] lits (All-nil (IsOver v.problem.vars));
    cause =
        subst (λ k. FollowsBy k v.problem (knows (mine v)) l.lits) (sym kind)
        (subst (λ ls. ReachesConflict (v.problem.clauses ++ knows (mine v)) (map negated ls)) (sym lits)
        (refutes (v.problem.clauses ++ knows (mine v)) (Contains-append_left v.problem.clauses (knows (mine v)) (true_lit ∷ []) is_true) (Contains-append_left v.problem.clauses (knows (mine v)) (false_lit ∷ []) is_false)));
  };
  new = λ some. absurd (some lits);
}

-- after a lemma is noted the rows are as they were, and the log is longer by one
pub still_heeding : (before after : Part) (l : Lemma) → Notes l before after → IsHeeding before 0 → IsHeeding after 0
still_heeding before after l notes heeding = λ j r lt at.
    let h = heeding j r (let n = ap length notes.rows in omega arith) (subst (λ rs. slice_get rs j ≡ Some r) notes.rows at) in
    (h.0, λ apart. h.1 (λ e. apart (e ∙ sym notes.number)))

pub one_longer : (before after : Part) (l : Lemma) → Notes l before after → length after.log ≡ length before.log + 1
one_longer before after l notes = let a = ap length notes.log in let b = length-append before.log (notes.entry ∷ []) in omega arith

-- two seats of one number each, out of two numbers
pub cut_two : (p : Problem) (words : ℕ) (v : View) → v ≡ new_view p 2 words → Cuts v 1
cut_two p words v e = subst (λ (u : View). Cuts u 1) (sym e) ((blank_part 2 0, (0, lit< tt, refl), lit< tt), (blank_part 2 1, (1, lit< tt, refl), lit≤ tt))

pub left_unused : (p : Problem) (words : ℕ) (w : LogView) (v l : View) → v ≡ new_view p 2 words → l ≡ with_parts v (below 1 v.parts) → w ≡ empty_log 0 2 → IsUnused w l
left_unused p words w v l e is log = unused_blank p 2 words 0 w l log (is ∙ ap (λ (u : View). with_parts u (below 1 u.parts)) e)

pub right_unused : (p : Problem) (words : ℕ) (w : LogView) (v r : View) → v ≡ new_view p 2 words → r ≡ with_parts v (from_on 1 v.parts) → w ≡ empty_log 1 2 → IsUnused w r
right_unused p words w v r e is log = unused_blank p 2 words 1 w r log (is ∙ ap (λ (u : View). with_parts u (from_on 1 u.parts)) e)

-- the problem of a seat that was split off
pub left_problem : (p : Problem) (words : ℕ) (v l : View) → v ≡ new_view p 2 words → l ≡ with_parts v (below 1 v.parts) → p ≡ l.problem
left_problem p words v l e is = sym (ap (λ (u : View). u.problem) is ∙ ap (λ (u : View). u.problem) e)
