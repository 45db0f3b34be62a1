-- The conjunction of two literals.
use Rattle.std.proofs.Common.{◌≡◌, ◌+◌, Bool, true, false, not, ◌&&◌, ◌||◌, List, [], ◌∷◌, ◌++◌, length, refl, arith}
use Rattle.std.specs.Prelude.{All}
use Rattle.std.proofs.lemmas.List.Elements.{All-from_recursion}
use Rattle.dg_base.specs.declared.Lit.{Lit}
use Rattle.cnf_problem.specs.Literals.{positive, negated, value, IsOver, AreSatisfied}
use Rattle.cnf_problem.specs.Formulas.{Formula, IsBuilt, IsGate}
use Rattle.cnf_problem.proofs.LiteralLaws.{value-negated}
use Rattle.cnf_problem.proofs.Assignments.{over_more, over_next, over-negated, over_two, over_three, satisfied_each, each_satisfied}
use Rattle.cnf_problem.proofs.GateLaws.{defined, gate_of_new, new_value, older_value}

-- the new variable is true exactly where both literals are
abbrev pub and_clauses : Lit → Lit → Lit → List (List Lit)
and_clauses out a b = (negated out ∷ a ∷ []) ∷ (negated out ∷ b ∷ []) ∷ (out ∷ negated a ∷ negated b ∷ []) ∷ []

-- the clauses leave the new variable no other value
and_sound : (out a b : Bool)
    → (not out || (a || false)) ≡ true
    → (not out || (b || false)) ≡ true
    → (out || (not a || (not b || false))) ≡ true
    → out ≡ (a && b)
and_sound true true true p0 p1 p2 = refl
and_sound true true false p0 p1 p2 = cc
and_sound true false true p0 p1 p2 = cc
and_sound true false false p0 p1 p2 = cc
and_sound false true true p0 p1 p2 = cc
and_sound false true false p0 p1 p2 = refl
and_sound false false true p0 p1 p2 = refl
and_sound false false false p0 p1 p2 = refl

-- and that value makes them true
and_complete : (a b : Bool)
    → ((not (a && b) || (a || false)) ≡ true)
    × ((not (a && b) || (b || false)) ≡ true)
    × (((a && b) || (not a || (not b || false))) ≡ true)
and_complete true true = (refl, refl, refl)
and_complete true false = (refl, refl, refl)
and_complete false true = (refl, refl, refl)
and_complete false false = (refl, refl, refl)

-- they are over the older variables and the new one
pub and_over : (f : Formula) (a b : Lit) → IsOver f.vars a → IsOver f.vars b → All (All (IsOver (f.vars + 1))) (and_clauses (positive (f.vars + 1)) a b)
and_over f a b over_a over_b =
    let new = over_next f.vars in
    let not_new = over-negated (f.vars + 1) (positive (f.vars + 1)) new in
    let has_a = over_more f.vars (f.vars + 1) a (omega arith) over_a in
    let not_a = over-negated (f.vars + 1) a has_a in
    let has_b = over_more f.vars (f.vars + 1) b (omega arith) over_b in
    let not_b = over-negated (f.vars + 1) b has_b in
    All-from_recursion (All (IsOver (f.vars + 1))) (and_clauses (positive (f.vars + 1)) a b) (
      over_two (f.vars + 1) (negated (positive (f.vars + 1))) a not_new has_a,
      (
        over_two (f.vars + 1) (negated (positive (f.vars + 1))) b not_new has_b,
        (
          over_three (f.vars + 1) (positive (f.vars + 1)) (negated a) (negated b) new not_a not_b,
          tt,
        ),
      ),
    )

-- the new variable is the conjunction
pub and_gate : (f : Formula) (a b : Lit) → IsBuilt f → IsOver f.vars a → IsOver f.vars b → IsGate f (defined f (and_clauses (positive (f.vars + 1)) a b)) (positive (f.vars + 1)) (λ s. value s a && value s b)
and_gate f a b built over_a over_b = gate_of_new f (and_clauses (positive (f.vars + 1)) a b) (λ s. value s a && value s b) built sound complete
  where
    sound : (s : List Bool) → AreSatisfied s (and_clauses (positive (f.vars + 1)) a b) → value s (positive (f.vars + 1)) ≡ (value s a && value s b)
    sound s h =
        let each = simp value-negated at (satisfied_each s (and_clauses (positive (f.vars + 1)) a b) h) in
        and_sound (value s (positive (f.vars + 1))) (value s a) (value s b) each.0 each.1.0 each.1.1.0

    complete : (s : List Bool) → length s ≡ f.vars → AreSatisfied (s ++ (value s a && value s b) ∷ []) (and_clauses (positive (f.vars + 1)) a b)
    complete s e =
        let truth : Bool = value s a && value s b in
        let each = and_complete (value s a) (value s b) in
        let new = new_value f s truth e in
        let has_a = older_value f s truth a e over_a in
        let has_b = older_value f s truth b e over_b in
        each_satisfied (s ++ truth ∷ []) (and_clauses (positive (f.vars + 1)) a b) (simp (value-negated, new, has_a, has_b) (each.0, (each.1, (each.2, tt))))
