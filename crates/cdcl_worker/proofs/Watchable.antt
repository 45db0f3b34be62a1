-- Why a clause that a search adds can be watched at its level.
use Rattle.std.proofs.Common.{◌≡◌, ◌≢◌, ℕ, min, ◌<◌, ◌≤◌, List, ap, sym, ◌∙◌, subst, arith}
use Rattle.std.specs.Prelude.{Contains}
use Rattle.dg_base.specs.declared.Lit.{Lit}
use Rattle.cnf_problem.specs.Literals.{var, negated}
use Rattle.cnf_problem.specs.Chains.{IsFalse, IsUnassigned}
use Rattle.trail_state.specs.Trails.{Assigned, true_lits, level, level_of, up_to}
use Rattle.trail_state.proofs.Cuts.{cut_within, up_to-up_to, level-up_to_min}
use Rattle.clause_store.specs.Stores.{IsNotFalseBelow, CanBeWatched}
use Rattle.conflict_learn.proofs.Asserting.{false_from_up_to}

-- a literal that is unassigned is false on no lower level
pub free_is_not_below : (entries : List Assigned) (l : Lit) → IsUnassigned (true_lits entries) l → IsNotFalseBelow entries l
free_is_not_below entries l free = λ n lt wrong. free.1 (cut_within n entries (negated l) wrong)

-- nor is one of the present level
pub last_is_not_below : (entries : List Assigned) (l : Lit) → level_of (var l) entries ≡ level entries → IsNotFalseBelow entries l
last_is_not_below entries l last = λ n lt wrong. (let le = false_from_up_to n entries l wrong in absurd (omega arith))

-- a clause with an unassigned literal and one of the present level
pub free_and_last : (entries : List Assigned) (clause : List Lit) (l m : Lit) → Contains clause l → Contains clause m → l ≢ m → IsUnassigned (true_lits entries) l → level_of (var m) entries ≡ level entries → CanBeWatched entries clause
free_and_last entries clause l m has_l has_m apart free last = record {
  first = l;
  second = m;
  apart = apart;
  first_listed = has_l;
  second_listed = has_m;
  first_below = free_is_not_below entries l free;
  second_below = last_is_not_below entries m last;
}

-- a clause with two literals of the present level
pub two_of_last : (entries : List Assigned) (clause : List Lit) (l m : Lit) → Contains clause l → Contains clause m → l ≢ m → level_of (var l) entries ≡ level entries → level_of (var m) entries ≡ level entries → CanBeWatched entries clause
two_of_last entries clause l m has_l has_m apart last_l last_m = record {
  first = l;
  second = m;
  apart = apart;
  first_listed = has_l;
  second_listed = has_m;
  first_below = last_is_not_below entries l last_l;
  second_below = last_is_not_below entries m last_m;
}

-- ---- once the trail is undone

-- a literal of the level of a cut or a higher one is false on no lower level
pub high_is_not_below : (n : ℕ) (entries : List Assigned) (l : Lit) → n ≤ level_of (var l) entries → IsNotFalseBelow (up_to n entries) l
high_is_not_below n entries l high = λ k lt wrong.
    let cut = level-up_to_min n entries in
    let le : k ≤ n = omega arith in
    let here = subst (λ (es : List Assigned). IsFalse (true_lits es) l) (up_to-up_to k n entries le) wrong in
    let low = false_from_up_to k entries l here in
    absurd (omega arith)

-- a literal that is unassigned is so in a cut
pub free_in_cut : (n : ℕ) (entries : List Assigned) (l : Lit) → IsUnassigned (true_lits entries) l → IsUnassigned (true_lits (up_to n entries)) l
free_in_cut n entries l free = (λ m. free.0 (cut_within n entries l m), λ m. free.1 (cut_within n entries (negated l) m))

-- two different literals that are false on no level below the cut
pub two_in_cut : (n : ℕ) (entries : List Assigned) (clause : List Lit) (l m : Lit) → Contains clause l → Contains clause m → l ≢ m → IsNotFalseBelow (up_to n entries) l → IsNotFalseBelow (up_to n entries) m → CanBeWatched (up_to n entries) clause
two_in_cut n entries clause l m has_l has_m apart below_l below_m = record {
  first = l;
  second = m;
  apart = apart;
  first_listed = has_l;
  second_listed = has_m;
  first_below = below_l;
  second_below = below_m;
}
