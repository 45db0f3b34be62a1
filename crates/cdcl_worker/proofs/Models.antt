-- That a trail on which all is assigned is a consistent assignment.
use Rattle.std.proofs.Common.{◌≡◌, ℕ, ◌≤◌, ◌⊎◌, inl, inr, Bool, true, false, not, List, [], ◌∷◌, ◌++◌, length, ap, sym, ◌∙◌, subst}
use Rattle.std.specs.Prelude.{Contains, All}
use Rattle.std.proofs.lemmas.List.Elements.{All-contains, Contains-append_left}
use Rattle.dg_base.proofs.Lists.{contains_head, contains_tail, contains_nothing, contains_cases}
use Rattle.dg_base.specs.declared.Lit.{Lit}
use Rattle.cnf_problem.specs.declared.problem.Atom.{Atom}
use Rattle.cnf_problem.specs.declared.problem.Edge.{Edge}
use Rattle.cnf_problem.specs.declared.problem.Problem.{Problem}
use Rattle.cnf_problem.specs.Bounds.{IsAtomOver}
use Rattle.cnf_problem.specs.Edges.{HasEdge, fixed, own, derived}
use Rattle.cnf_problem.specs.Literals.{var, negated, value, IsOver, IsSatisfied, AreSatisfied}
use Rattle.cnf_problem.specs.Problems.{IsConsistent}
use Rattle.cnf_problem.proofs.LemmaLaws.{path_more}
use Rattle.cnf_problem.proofs.LiteralLaws.{negated-negated, value-negated}
use Rattle.trail_state.specs.Trails.{Assigned, true_lits, IsAssigned}
use Rattle.trail_state.proofs.Assigning.{same_or_negated}
use Rattle.order_solver.specs.Ordering.{IsAcyclic}
use Rattle.cdcl_worker.proofs.Fresh.{fixpoint_of_same}
use Rattle.cnf_problem.specs.Chains.{IsFalse, AllFalse, IsFixpoint}

-- some literal of the clause is true, or all are false
some_true : (lits clause : List Lit) → ((l : Lit) → Contains clause l → Contains lits l ⊎ IsFalse lits l) → ((l : Lit) × Contains clause l × Contains lits l) ⊎ AllFalse lits clause
some_true lits [] all = inr (λ l m. absurd (contains_nothing l m))
some_true lits (x ∷ xs) all = elim (all x (contains_head x xs)) [
  | inl holds ↦ inl (x, contains_head x xs, holds)
  | inr fails ↦ elim (some_true lits xs (λ l m. all l (contains_tail x l xs m))) [
    | inl r ↦ inl (r.0, contains_tail x r.0 xs r.1, r.2)
    | inr rest ↦ inr (λ l m. elim (contains_cases x l xs m) [ inl same ↦ subst (λ (y : Lit). IsFalse lits y) (sym same) fails | inr k ↦ rest l k ])
  ]
]

-- where no clause is false and each of their literals is assigned, each clause is true under an assignment that has the true literals
pub model_satisfies : (clauses : List (List Lit)) (lits : List Lit) (assignment : List Bool) → IsFixpoint clauses lits → ((l : Lit) → Contains lits l → value assignment l ≡ true)
    → ((clause : List Lit) (l : Lit) → Contains clauses clause → Contains clause l → Contains lits l ⊎ IsFalse lits l) → AreSatisfied assignment clauses
model_satisfies clauses lits assignment fixpoint true_lits all = λ clause listed. elim (some_true lits clause (λ l m. all clause l listed m)) [
  | inl r ↦ (r.0, r.1, true_lits r.0 r.2)
  | inr wrong ↦ absurd (fixpoint.no_conflict clause listed wrong)
]

-- an edge whose atoms hold in one way is there where they hold in another
edge_at : (p : Problem) (P Q : Lit → Type 0) (e : Edge) → ((a : Atom) → Contains p.atoms a → P a.lit → Q a.lit) → HasEdge p P e → HasEdge p Q e
edge_at p P Q e holds (fixed m) = fixed m
edge_at p P Q e holds (own a m h there) = own a m (holds a m h) there
edge_at p P Q e holds (derived a b m h k i there) = derived a b m (holds a m h) k (holds b k i) there

module _ (p : Problem) (entries : List Assigned) (all : (v : ℕ) → 1 ≤ v → v ≤ p.vars → IsAssigned entries v) where
  -- each literal of the problem's variables is true or false
  true_or_false : (l : Lit) → IsOver p.vars l → Contains (true_lits entries) l ⊎ IsFalse (true_lits entries) l
  true_or_false l over =
      let r = all (var l) over.0 over.1 in
      elim (same_or_negated l r.0 (sym r.2)) [
        | inl same ↦ inl (subst (λ (x : Lit). Contains (true_lits entries) x) (sym same) r.1)
        | inr other ↦ inr (subst (λ (x : Lit). Contains (true_lits entries) x) (sym (ap negated other ∙ negated-negated r.0)) r.1)
      ]

  module _ (values : List Bool) (each : (l : Lit) → Contains (true_lits entries) l → value values l ≡ true) where
    -- what is true under the values is on the trail
    true_there : (l : Lit) → IsOver p.vars l → value values l ≡ true → Contains (true_lits entries) l
    true_there l over holds = elim (true_or_false l over) [
      | inl there ↦ there
      | inr wrong ↦ (let e : not (value values l) ≡ true = sym (value-negated values l) ∙ each (negated l) wrong in let f : not true ≡ true = ap not (sym holds) ∙ e in absurd cc)
    ]

    pub consistent : (added : List (List Lit)) → IsFixpoint (p.clauses ++ added) (true_lits entries) → IsAcyclic p (true_lits entries) → length values ≡ p.vars → IsConsistent p values
    consistent added fixpoint acyclic long = record {
      values = long;
      clauses = model_satisfies p.clauses (true_lits entries) values (fixpoint_of_same (p.clauses ++ added) p.clauses (true_lits entries) (λ c m. Contains-append_left p.clauses added c m) fixpoint) each
          (λ clause l listed m. true_or_false l (All-contains (IsOver p.vars) clause l (All-contains (λ c. All (IsOver p.vars) c) p.clauses clause p.over.each_literal listed) m));
      acyclic = λ cyclic. acyclic (
        cyclic.0,
        (
          cyclic.1.0,
          path_more _ _
              (λ x y edge. edge_at p (λ l. value values l ≡ true) (Contains (true_lits entries)) _ (λ a m h. true_there a.lit (All-contains (IsAtomOver p.vars (length p.nodes)) p.atoms a p.graphs.each_atom m).lit h) edge) cyclic.1.1,
        ),
      );
    }
