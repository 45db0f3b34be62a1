-- At which levels the literals of a false clause stand.
use Rattle.std.proofs.Common.{◌≡◌, ◌≢◌, ℕ, zero, suc, ◌-◌, ◌<◌, ◌≤◌, ◌⊎◌, inl, inr, List, [], ◌∷◌, refl, ap, sym, ◌∙◌, subst, arith}
use Rattle.std.specs.Prelude.{Contains}
use Rattle.std.proofs.lemmas.Bool.{cases_eq}
use Rattle.dg_base.proofs.Lists.{contains_head, contains_tail, contains_nothing, contains_cases}
use Rattle.dg_base.specs.declared.Lit.{Lit}
use Rattle.cnf_problem.specs.Literals.{var, negated}
use Rattle.cnf_problem.specs.Chains.{IsFalse, AllFalse, IsFixpoint}
use Rattle.cnf_problem.proofs.LiteralLaws.{var-negated}
use Rattle.trail_state.specs.Trails.{Assigned, Decided, Forced, true_lits, level, level_of, up_to, IsAssigned, IsWell, TrailView}
use Rattle.trail_state.specs.Forcing.{FixpointBelow}
use Rattle.clause_store.proofs.TrailLaws.{well_free}
use Rattle.conflict_learn.proofs.Levels.{Once, level_of-le-level, level_of-forced_same, level_of-forced_other, level_of-decided_same, level_of-decided_other}
use Rattle.conflict_learn.proofs.Asserting.{false_up_to}

-- some literal of the clause has this level, or all have lower ones
at_or_below : (n : ℕ) (entries : List Assigned) (clause : List Lit) → ((l : Lit) → Contains clause l → level_of (var l) entries ≤ n)
    → ((l : Lit) × Contains clause l × (level_of (var l) entries ≡ n)) ⊎ ((l : Lit) → Contains clause l → level_of (var l) entries < n)
at_or_below n entries [] most = inr (λ l m. absurd (contains_nothing l m))
at_or_below n entries (x ∷ xs) most = elim (cases_eq (level_of (var x) entries) n) [
  | inl e ↦ inl (x, contains_head x xs, e)
  | inr apart ↦ elim (at_or_below n entries xs (λ l m. most l (contains_tail x l xs m))) [
    | inl r ↦ inl (r.0, contains_tail x r.0 xs r.1, r.2)
    | inr rest ↦ inr (λ l m. elim (contains_cases x l xs m) [
      | inl same ↦ (let a = most x (contains_head x xs) in let b = ap (λ (y : Lit). level_of (var y) entries) same in omega arith)
      | inr k ↦ rest l k
    ])
  ]
]

-- a clause that is false on a trail whose lower levels are fixpoints has a literal of the last level
pub of_last_level : (clauses : List (List Lit)) (entries : List Assigned) (clause : List Lit) → Once (true_lits entries) → 0 < level entries → FixpointBelow clauses entries → Contains clauses clause → AllFalse (true_lits entries) clause
    → (l : Lit) × Contains clause l × (level_of (var l) entries ≡ level entries)
of_last_level clauses entries clause once above fixpoint listed wrong = elim (at_or_below (level entries) entries clause (λ l m. level_of-le-level (var l) entries)) [
  | inl r ↦ r
  | inr below ↦
      let n = level entries - 1 in
      let low : AllFalse (true_lits (up_to n entries)) clause = (λ l m. false_up_to n entries l once (wrong l m) (let b = below l m in omega arith)) in
      absurd ((fixpoint n (omega arith)).no_conflict clause listed low)
]

-- a variable of a level that a cut has keeps it there
pub level_of-up_to : (n v : ℕ) (entries : List Assigned) → level_of v entries ≤ n → level_of v (up_to n entries) ≡ level_of v entries
level_of-up_to n v [] le = refl
level_of-up_to n v (Forced l id ∷ es) le = elim (cases_eq (var l) v) [
  | inl same ↦ level_of-forced_same v id l (up_to n es) same ∙ sym (level_of-forced_same v id l es same)
  | inr apart ↦
      let e = level_of-forced_other v id l es apart in
      level_of-forced_other v id l (up_to n es) apart ∙ level_of-up_to n v es (omega arith) ∙ sym e
]
level_of-up_to zero v (Decided l ∷ es) le = elim (cases_eq (var l) v) [
  | inl same ↦ (let e = level_of-decided_same v l es same in absurd (omega arith))
  | inr apart ↦ (let e = level_of-decided_other v l es apart in absurd (omega arith))
]
level_of-up_to (suc n) v (Decided l ∷ es) le = elim (cases_eq (var l) v) [
  | inl same ↦ level_of-decided_same v l (up_to n es) same ∙ sym (level_of-decided_same v l es same)
  | inr apart ↦
      let e = level_of-decided_other v l es apart in
      level_of-decided_other v l (up_to n es) apart ∙ ap suc (level_of-up_to n v es (omega arith)) ∙ sym e
]

-- a false literal's variable is assigned
pub false_assigned : (entries : List Assigned) (l : Lit) → IsFalse (true_lits entries) l → IsAssigned entries (var l)
false_assigned entries l wrong = (negated l, wrong, var-negated l)

-- a false literal is not true
pub false_untrue : (t : TrailView) (l : Lit) → IsWell t → IsFalse (true_lits t.entries) l → Contains (true_lits t.entries) l → ⊥
false_untrue t l well wrong right = well_free t well l right wrong

-- no variable stands twice on a trail
pub once_of : (t : TrailView) → IsWell t → Once (true_lits t.entries)
once_of t well = record { once = well.once }
