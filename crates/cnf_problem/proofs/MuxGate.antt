-- The choice between two literals.
use Rattle.std.proofs.Common.{◌≡◌, ◌+◌, Bool, true, false, not, ◌||◌, List, [], ◌∷◌, ◌++◌, length, refl, arith}
use Rattle.std.specs.Prelude.{All, if◌then◌else◌}
use Rattle.std.proofs.lemmas.List.Elements.{All-from_recursion}
use Rattle.dg_base.specs.declared.Lit.{Lit}
use Rattle.cnf_problem.specs.Literals.{positive, negated, value, IsOver, AreSatisfied}
use Rattle.cnf_problem.specs.Formulas.{Formula, IsBuilt, IsGate}
use Rattle.cnf_problem.proofs.LiteralLaws.{value-negated}
use Rattle.cnf_problem.proofs.Assignments.{over_more, over_next, over-negated, over_three, satisfied_each, each_satisfied}
use Rattle.cnf_problem.proofs.GateLaws.{defined, gate_of_new, new_value, older_value}

-- the new variable is a where c is true, and b elsewhere
abbrev pub mux_clauses : Lit → Lit → Lit → Lit → List (List Lit)
mux_clauses out c a b = (negated c ∷ negated a ∷ out ∷ []) ∷ (negated c ∷ a ∷ negated out ∷ []) ∷ (c ∷ negated b ∷ out ∷ []) ∷ (c ∷ b ∷ negated out ∷ []) ∷ []

-- the clauses leave the new variable no other value
mux_sound : (out c a b : Bool)
    → (not c || (not a || (out || false))) ≡ true
    → (not c || (a || (not out || false))) ≡ true
    → (c || (not b || (out || false))) ≡ true
    → (c || (b || (not out || false))) ≡ true
    → out ≡ (if c then a else b)
mux_sound true true true true p0 p1 p2 p3 = refl
mux_sound true true true false p0 p1 p2 p3 = refl
mux_sound true true false true p0 p1 p2 p3 = cc
mux_sound true true false false p0 p1 p2 p3 = cc
mux_sound true false true true p0 p1 p2 p3 = refl
mux_sound true false true false p0 p1 p2 p3 = cc
mux_sound true false false true p0 p1 p2 p3 = refl
mux_sound true false false false p0 p1 p2 p3 = cc
mux_sound false true true true p0 p1 p2 p3 = cc
mux_sound false true true false p0 p1 p2 p3 = cc
mux_sound false true false true p0 p1 p2 p3 = refl
mux_sound false true false false p0 p1 p2 p3 = refl
mux_sound false false true true p0 p1 p2 p3 = cc
mux_sound false false true false p0 p1 p2 p3 = refl
mux_sound false false false true p0 p1 p2 p3 = cc
mux_sound false false false false p0 p1 p2 p3 = refl

-- and that value makes them true
mux_complete : (c a b : Bool)
    → ((not c || (not a || ((if c then a else b) || false))) ≡ true)
    × ((not c || (a || (not (if c then a else b) || false))) ≡ true)
    × ((c || (not b || ((if c then a else b) || false))) ≡ true)
    × ((c || (b || (not (if c then a else b) || false))) ≡ true)
mux_complete true true true = (refl, refl, refl, refl)
mux_complete true true false = (refl, refl, refl, refl)
mux_complete true false true = (refl, refl, refl, refl)
mux_complete true false false = (refl, refl, refl, refl)
mux_complete false true true = (refl, refl, refl, refl)
mux_complete false true false = (refl, refl, refl, refl)
mux_complete false false true = (refl, refl, refl, refl)
mux_complete false false false = (refl, refl, refl, refl)

-- they are over the older variables and the new one
pub mux_over : (f : Formula) (c a b : Lit) → IsOver f.vars c → IsOver f.vars a → IsOver f.vars b → All (All (IsOver (f.vars + 1))) (mux_clauses (positive (f.vars + 1)) c a b)
mux_over f c a b over_c over_a over_b =
    let new = over_next f.vars in
    let not_new = over-negated (f.vars + 1) (positive (f.vars + 1)) new in
    let has_c = over_more f.vars (f.vars + 1) c (omega arith) over_c in
    let not_c = over-negated (f.vars + 1) c has_c in
    let has_a = over_more f.vars (f.vars + 1) a (omega arith) over_a in
    let not_a = over-negated (f.vars + 1) a has_a in
    let has_b = over_more f.vars (f.vars + 1) b (omega arith) over_b in
    let not_b = over-negated (f.vars + 1) b has_b in
    All-from_recursion (All (IsOver (f.vars + 1))) (mux_clauses (positive (f.vars + 1)) c a b) (
      over_three (f.vars + 1) (negated c) (negated a) (positive (f.vars + 1)) not_c not_a new,
      (
        over_three (f.vars + 1) (negated c) a (negated (positive (f.vars + 1))) not_c has_a not_new,
        (
          over_three (f.vars + 1) c (negated b) (positive (f.vars + 1)) has_c not_b new,
          (
            over_three (f.vars + 1) c b (negated (positive (f.vars + 1))) has_c has_b not_new,
            tt,
          ),
        ),
      ),
    )

-- the new variable is the choice
pub mux_gate : (f : Formula) (c a b : Lit) → IsBuilt f → IsOver f.vars c → IsOver f.vars a → IsOver f.vars b → IsGate f (defined f (mux_clauses (positive (f.vars + 1)) c a b)) (positive (f.vars + 1)) (λ s. if value s c then value s a else value s b)
mux_gate f c a b built over_c over_a over_b = gate_of_new f (mux_clauses (positive (f.vars + 1)) c a b) (λ s. if value s c then value s a else value s b) built sound complete
  where
    sound : (s : List Bool) → AreSatisfied s (mux_clauses (positive (f.vars + 1)) c a b) → value s (positive (f.vars + 1)) ≡ (if value s c then value s a else value s b)
    sound s h =
        let each = simp value-negated at (satisfied_each s (mux_clauses (positive (f.vars + 1)) c a b) h) in
        mux_sound (value s (positive (f.vars + 1))) (value s c) (value s a) (value s b) each.0 each.1.0 each.1.1.0 each.1.1.1.0

    complete : (s : List Bool) → length s ≡ f.vars → AreSatisfied (s ++ (if value s c then value s a else value s b) ∷ []) (mux_clauses (positive (f.vars + 1)) c a b)
    complete s e =
        let truth : Bool = if value s c then value s a else value s b in
        let each = mux_complete (value s c) (value s a) (value s b) in
        let new = new_value f s truth e in
        let has_c = older_value f s truth c e over_c in
        let has_a = older_value f s truth a e over_a in
        let has_b = older_value f s truth b e over_b in
        each_satisfied (s ++ truth ∷ []) (mux_clauses (positive (f.vars + 1)) c a b) (simp (value-negated, new, has_c, has_a, has_b) (each.0, (each.1, (each.2, (each.3, tt)))))
