use Rattle.std.specs.Prelude.{◌≡◌, ◌≢◌, ◌⊎◌, ℕ, ◌≤◌, List, Contains}
use Rattle.dg_base.specs.declared.Lit.{Lit}
use Rattle.cnf_problem.specs.Chains.{IsFalse, OthersFalse}
use Rattle.trail_state.specs.Trails.{Assigned, true_lits, level}
use Rattle.clause_store.specs.Stores.{IsNotFalseBelow, IsShort}

-- how well a literal can be watched: 2 where it isn't false, 1 where it is false, but on no lower level, and 0 elsewhere
pub record HasRank (entries : List Assigned) (l : Lit) (rank : ℕ) : Type 0 where
  pub top : rank ≤ 2
  pub good : rank ≡ 2 → ¬ IsFalse (true_lits entries) l
  pub bad : rank ≢ 2 → IsFalse (true_lits entries) l
  pub late : rank ≢ 0 → IsNotFalseBelow entries l
  pub early : rank ≡ 0 → ¬ IsNotFalseBelow entries l

-- no literal of the clause but one can be watched better than this one; it has the code 0 where there is no other
pub record IsBest (entries : List Assigned) (clause : List Lit) (except best : Lit) (rank : ℕ) : Type 0 where
  pub none : best.0 ≡ 0 → (m : Lit) → Contains clause m → m ≡ except
  pub listed : best.0 ≢ 0 → Contains clause best
  pub apart : best.0 ≢ 0 → best ≢ except
  pub ranked : best.0 ≢ 0 → HasRank entries best rank
  pub greatest : best.0 ≢ 0 → (m : Lit) → Contains clause m → (m ≡ except) ⊎ ((r : ℕ) × HasRank entries m r × (r ≤ rank))

-- the literals that a new clause's links watch: two different ones that are false on no lower level, the others being false where one of the two is; or, on level 0, none for a clause without two different literals
pub record IsChosen (entries : List Assigned) (clause : List Lit) (a b : Lit) : Type 0 where
  pub both : a.0 ≡ 0 → b.0 ≡ 0
  pub neither : b.0 ≡ 0 → a.0 ≡ 0
  pub short : a.0 ≡ 0 → (level entries ≡ 0) × IsShort clause
  pub first_listed : a.0 ≢ 0 → Contains clause a
  pub second_listed : a.0 ≢ 0 → Contains clause b
  pub apart : a.0 ≢ 0 → a ≢ b
  pub first_below : a.0 ≢ 0 → IsNotFalseBelow entries a
  pub second_below : a.0 ≢ 0 → IsNotFalseBelow entries b
  pub here : a.0 ≢ 0 → (¬ IsFalse (true_lits entries) a × ¬ IsFalse (true_lits entries) b) ⊎ OthersFalse (true_lits entries) clause a
