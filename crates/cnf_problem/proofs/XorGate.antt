-- Whether exactly one of two literals is true.
use Rattle.std.proofs.Common.{◌≡◌, ◌+◌, Bool, true, false, not, ◌||◌, List, [], ◌∷◌, ◌++◌, length, refl, arith}
use Rattle.std.specs.Prelude.{All}
use Rattle.std.specs.Bool.{xor}
use mathlib.Core.Bool.{xor as the_xor}
use Rattle.std.proofs.lemmas.List.Elements.{All-from_recursion}
use Rattle.dg_base.specs.declared.Lit.{Lit}
use Rattle.cnf_problem.specs.Literals.{positive, negated, value, IsOver, AreSatisfied}
use Rattle.cnf_problem.specs.Formulas.{Formula, IsBuilt, IsGate}
use Rattle.cnf_problem.proofs.LiteralLaws.{value-negated}
use Rattle.cnf_problem.proofs.Assignments.{over_more, over_next, over-negated, over_three, satisfied_each, each_satisfied}
use Rattle.cnf_problem.proofs.GateLaws.{defined, gate_of_new, new_value, older_value}

-- the new variable is true exactly where one of the two literals is
abbrev pub xor_clauses : Lit → Lit → Lit → List (List Lit)
xor_clauses out a b = (negated out ∷ a ∷ b ∷ []) ∷ (negated out ∷ negated a ∷ negated b ∷ []) ∷ (out ∷ negated a ∷ b ∷ []) ∷ (out ∷ a ∷ negated b ∷ []) ∷ []

-- the clauses leave the new variable no other value
xor_sound : (out a b : Bool)
    → (not out || (a || (b || false))) ≡ true
    → (not out || (not a || (not b || false))) ≡ true
    → (out || (not a || (b || false))) ≡ true
    → (out || (a || (not b || false))) ≡ true
    → out ≡ xor a b
unfolding the_xor
xor_sound true true true p0 p1 p2 p3 = cc
xor_sound true true false p0 p1 p2 p3 = refl
xor_sound true false true p0 p1 p2 p3 = refl
xor_sound true false false p0 p1 p2 p3 = cc
xor_sound false true true p0 p1 p2 p3 = refl
xor_sound false true false p0 p1 p2 p3 = cc
xor_sound false false true p0 p1 p2 p3 = cc
xor_sound false false false p0 p1 p2 p3 = refl

-- and that value makes them true
xor_complete : (a b : Bool)
    → ((not (xor a b) || (a || (b || false))) ≡ true)
    × ((not (xor a b) || (not a || (not b || false))) ≡ true)
    × (((xor a b) || (not a || (b || false))) ≡ true)
    × (((xor a b) || (a || (not b || false))) ≡ true)
unfolding the_xor
xor_complete true true = (refl, refl, refl, refl)
xor_complete true false = (refl, refl, refl, refl)
xor_complete false true = (refl, refl, refl, refl)
xor_complete false false = (refl, refl, refl, refl)

-- they are over the older variables and the new one
pub xor_over : (f : Formula) (a b : Lit) → IsOver f.vars a → IsOver f.vars b → All (All (IsOver (f.vars + 1))) (xor_clauses (positive (f.vars + 1)) a b)
xor_over f a b over_a over_b =
    let new = over_next f.vars in
    let not_new = over-negated (f.vars + 1) (positive (f.vars + 1)) new in
    let has_a = over_more f.vars (f.vars + 1) a (omega arith) over_a in
    let not_a = over-negated (f.vars + 1) a has_a in
    let has_b = over_more f.vars (f.vars + 1) b (omega arith) over_b in
    let not_b = over-negated (f.vars + 1) b has_b in
    All-from_recursion (All (IsOver (f.vars + 1))) (xor_clauses (positive (f.vars + 1)) a b) (
      over_three (f.vars + 1) (negated (positive (f.vars + 1))) a b not_new has_a has_b,
      (
        over_three (f.vars + 1) (negated (positive (f.vars + 1))) (negated a) (negated b) not_new not_a not_b,
        (
          over_three (f.vars + 1) (positive (f.vars + 1)) (negated a) b new not_a has_b,
          (
            over_three (f.vars + 1) (positive (f.vars + 1)) a (negated b) new has_a not_b,
            tt,
          ),
        ),
      ),
    )

-- the new variable is the exclusive or
pub xor_gate : (f : Formula) (a b : Lit) → IsBuilt f → IsOver f.vars a → IsOver f.vars b → IsGate f (defined f (xor_clauses (positive (f.vars + 1)) a b)) (positive (f.vars + 1)) (λ s. xor (value s a) (value s b))
xor_gate f a b built over_a over_b = gate_of_new f (xor_clauses (positive (f.vars + 1)) a b) (λ s. xor (value s a) (value s b)) built sound complete
  where
    sound : (s : List Bool) → AreSatisfied s (xor_clauses (positive (f.vars + 1)) a b) → value s (positive (f.vars + 1)) ≡ (xor (value s a) (value s b))
    sound s h =
        let each = simp value-negated at (satisfied_each s (xor_clauses (positive (f.vars + 1)) a b) h) in
        xor_sound (value s (positive (f.vars + 1))) (value s a) (value s b) each.0 each.1.0 each.1.1.0 each.1.1.1.0

    complete : (s : List Bool) → length s ≡ f.vars → AreSatisfied (s ++ (xor (value s a) (value s b)) ∷ []) (xor_clauses (positive (f.vars + 1)) a b)
    complete s e =
        let truth : Bool = xor (value s a) (value s b) in
        let each = xor_complete (value s a) (value s b) in
        let new = new_value f s truth e in
        let has_a = older_value f s truth a e over_a in
        let has_b = older_value f s truth b e over_b in
        each_satisfied (s ++ truth ∷ []) (xor_clauses (positive (f.vars + 1)) a b) (simp (value-negated, new, has_a, has_b) (each.0, (each.1, (each.2, (each.3, tt)))))
