-- The truth values that a trail gives its variables.
use Rattle.std.proofs.Common.{◌≡◌, ◌≢◌, ℕ, ◌+◌, ◌≤◌, ◌⊎◌, inl, inr, Bool, true, false, not, List, [], ◌∷◌, ◌++◌, length, refl, ap, sym, ◌∙◌, subst, arith}
use Rattle.std.specs.Prelude.{Contains, MatchBool}
use Rattle.std.proofs.lemmas.List.{length-append}
use Rattle.std.proofs.lemmas.Bool.{cases_eq}
use Rattle.dg_base.specs.declared.Lit.{Lit}
use Rattle.cnf_problem.specs.Formulas.{Formula}
use Rattle.cnf_problem.specs.Literals.{var, negated, positive, value, IsOver}
use Rattle.cnf_problem.proofs.LiteralLaws.{value-negated}
use Rattle.cnf_problem.proofs.GateLaws.{new_value, older_value}
use Rattle.trail_state.specs.Trails.{TrailView, true_lits, IsWell}
use Rattle.trail_state.proofs.Assigning.{same_or_negated}
use Rattle.clause_store.proofs.TrailLaws.{well_free}

-- so many variables have the truth values that make these literals true
pub record AreTruths (lits : List Lit) (n : ℕ) (values : List Bool) : Type 0 where
  pub long : length values ≡ n
  pub each : (l : Lit) → Contains lits l → var l ≤ n → value values l ≡ true

here_is : (l : Lit) (n : ℕ) → var l ≡ n + 1 → var l ≡ var (positive (n + 1))
here_is l n here = omega arith

-- the next variable's literal is true, or its negation is, or neither
next_true : (lits : List Lit) (n : ℕ) (values : List Bool) (b : Bool) (l : Lit) → length values ≡ n → Contains lits l → var l ≡ n + 1 → ((m : Lit) → Contains lits m → Contains lits (negated m) → ⊥)
    → MatchBool b (Contains lits (positive (n + 1))) (Contains lits (positive (n + 1)) → ⊥) → value (values ++ b ∷ []) l ≡ true
next_true lits n values true l long has here apart tells =
    elim (same_or_negated l (positive (n + 1)) (here_is l n here)) [
      | inl same ↦ subst (λ (x : Lit). value (values ++ true ∷ []) x ≡ true) (sym same) (new_value (record { vars = n; clauses = [] }) values true long)
      | inr other ↦ absurd (apart (positive (n + 1)) tells (subst (λ (x : Lit). Contains lits x) other has))
    ]
next_true lits n values false l long has here apart tells =
    elim (same_or_negated l (positive (n + 1)) (here_is l n here)) [
      | inl same ↦ absurd (tells (subst (λ (x : Lit). Contains lits x) same has))
      | inr other ↦
          subst (λ (x : Lit). value (values ++ false ∷ []) x ≡ true) (sym other)
          (value-negated (values ++ false ∷ []) (positive (n + 1)) ∙ ap not (new_value (record { vars = n; clauses = [] }) values false long))
    ]

pub truths_none : (t : TrailView) → IsWell t → AreTruths (true_lits t.entries) 0 []
truths_none t well = record { long = refl; each = λ l m le. (let r = (well.range l m).0 in absurd (omega arith)) }

pub truths_next : (t : TrailView) (n : ℕ) (values : List Bool) (b : Bool) → IsWell t → AreTruths (true_lits t.entries) n values
    → MatchBool b (Contains (true_lits t.entries) (positive (n + 1))) (Contains (true_lits t.entries) (positive (n + 1)) → ⊥) → AreTruths (true_lits t.entries) (n + 1) (values ++ b ∷ [])
truths_next t n values b well truths tells = record {
  long = (let e = length-append values (b ∷ []) in let f = truths.long in omega arith);
  each = λ l m le. elim (cases_eq (var l) (n + 1)) [
    | inl e ↦ next_true (true_lits t.entries) n values b l truths.long m e (well_free t well) tells
    | inr ne ↦
        let r = well.range l m in
        let low : var l ≤ n = omega arith in
        older_value (record { vars = n; clauses = [] }) values b l truths.long (r.0, low) ∙ truths.each l m low
  ];
}

pub truths_all : (t : TrailView) (n : ℕ) (values : List Bool) → IsWell t → t.vars ≤ n → AreTruths (true_lits t.entries) n values → (l : Lit) → Contains (true_lits t.entries) l → value values l ≡ true
truths_all t n values well le truths l m = truths.each l m (let r = (well.range l m).1 in omega arith)
