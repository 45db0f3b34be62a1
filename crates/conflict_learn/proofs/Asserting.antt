-- The clause of the marked literals is asserting, once one literal of the last level is left.
use Rattle.std.proofs.Common.{◌≡◌, ℕ, ◌<◌, ◌≤◌, inl, inr, Bool, List, ◌∷◌, map, ap, sym, ◌∙◌, subst, arith}
use Rattle.std.specs.Prelude.{Contains, slice_get, Some}
use Rattle.dg_base.proofs.Lists.{place_of, contains_place, contains_from_filter, contains_map}
use Rattle.dg_base.specs.declared.Lit.{Lit}
use Rattle.cnf_problem.specs.Literals.{var, negated}
use Rattle.cnf_problem.specs.Chains.{IsUnassigned}
use Rattle.cnf_problem.proofs.ChainLaws.{conflict_more}
use Rattle.cnf_problem.proofs.LiteralLaws.{var-negated, negated-negated}
use Rattle.trail_state.specs.Trails.{TrailView, Assigned, true_lits, level, level_of, up_to}
use Rattle.trail_state.specs.Forcing.{AreForced, reasons}
use Rattle.conflict_learn.specs.Learning.{IsAsserting, IsLearnt}
use Rattle.conflict_learn.specs.Marking.{is_marked, is_last, marked_lits, last_count, AreMarks, MarksFollow, IsCollected}
use Rattle.conflict_learn.proofs.Counting.{one_passes, only_one}
use Rattle.conflict_learn.proofs.Levels.{Once, in_up_to, from_up_to}
use Rattle.conflict_learn.proofs.Marks.{last_parts, last_from, marked_negated}
use Rattle.conflict_learn.proofs.Resolving.{without_ground}

-- a literal whose negation is true up to level n is of such a level
pub false_from_up_to : (n : ℕ) (es : List Assigned) (l : Lit) → Contains (true_lits (up_to n es)) (negated l) → level_of (var l) es ≤ n
false_from_up_to n es l c =
    let r = from_up_to n es (negated l) c in
    let e = ap (λ v. level_of v es) (var-negated l) in
    omega arith

-- a literal of a higher level is unassigned up to level n
pub unassigned_above : (n : ℕ) (es : List Assigned) (l : Lit) → n < level_of (var l) es → IsUnassigned (true_lits (up_to n es)) l
unassigned_above n es l lt =
    (λ c. (let r = from_up_to n es l c in omega arith), λ c. (let r = false_from_up_to n es l c in omega arith))

-- a false literal of a level up to n is false up to level n
pub false_up_to : (n : ℕ) (es : List Assigned) (l : Lit) → Once (true_lits es) → Contains (true_lits es) (negated l) → level_of (var l) es ≤ n → Contains (true_lits (up_to n es)) (negated l)
false_up_to n es l h c le =
    let e = ap (λ v. level_of v es) (var-negated l) in
    in_up_to n es (negated l) h c (omega arith)

-- the literal of the last level, which the clause has
pub record Unique (es : List Assigned) (lits : List Lit) : Type 0 where
  pub literal : Lit
  pub listed : Contains lits literal
  pub of_last : level_of (var literal) es ≡ level es
  pub alone : (m : Lit) → Contains lits m → level_of (var m) es ≡ level es → m ≡ literal

-- there is one, where the count is 1
pub unique_from : (es : List Assigned) (marks : List Bool) (lits : List Lit) (back : ℕ) → Once (true_lits es) → last_count marks es ≡ 1 → IsCollected es marks lits back → Unique es lits
unique_from es marks lits back h one collected =
    let r = one_passes (is_last marks es) (true_lits es) (omega arith) in
    let parts = last_parts marks es r.1 r.3 in
    record {
      literal = negated r.1;
      listed = collected.all r.1 (contains_place (true_lits es) r.0 r.1 r.2) parts.0;
      of_last = ap (λ v. level_of v es) (var-negated r.1) ∙ parts.1;
      alone = λ m c top.
          let q = collected.marked m c in
          let p = place_of (true_lits es) (negated m) q.0 in
          let t = last_from marks es (negated m) (marked_negated marks m ∙ q.1) (ap (λ v. level_of v es) (var-negated m) ∙ top) in
          let same = only_one (is_last marks es) (true_lits es) p.0 r.0 (negated m) r.1 one p.1 t r.2 r.3 in
          let at : slice_get (true_lits es) r.0 ≡ Some (negated m) = subst (λ k. slice_get (true_lits es) k ≡ Some (negated m)) same p.1 in
          let here = r.2 in
          let s : negated m ≡ r.1 = cc in
          sym (negated-negated m) ∙ ap negated s;
    }

-- the clause asserts its literal of the last level at the greatest level of the others
pub asserts_at_back : (es : List Assigned) (marks : List Bool) (lits : List Lit) (back : ℕ) → Once (true_lits es) → Unique es lits → IsCollected es marks lits back → IsAsserting es lits back
asserts_at_back es marks lits back h u collected =
    let last = u.of_last in
    let low = collected.lower in (
      u.literal,
      u.listed,
      unassigned_above back es u.literal (omega arith),
      λ m c. elim (collected.bound m c) [
        | inl le ↦ inr (false_up_to back es m h (collected.marked m c).0 (omega arith))
        | inr top ↦ inl (u.alone m c top)
      ],
    )

-- and at no lower level
pub asserts_no_lower : (es : List Assigned) (marks : List Bool) (lits : List Lit) (back k : ℕ) → Unique es lits → IsCollected es marks lits back → k < back → IsAsserting es lits k → ⊥
asserts_no_lower es marks lits back k u collected lt (l, c, free, others) =
    elim collected.reached [
      | inl none ↦ omega arith
      | inr (m, cm, at) ↦
          let low = collected.lower in
          let last = u.of_last in
          elim (others m cm) [
            | inr f ↦ (let r = false_from_up_to k es m f in omega arith)
            | inl em ↦ elim (others u.literal u.listed) [
              | inr f ↦ (let r = false_from_up_to k es u.literal f in omega arith)
              | inl eu ↦ (let e = ap (λ (x : Lit). level_of (var x) es) (em ∙ sym eu) in omega arith)
            ]
          ]
    ]

-- the collected clause is what is to be learnt
pub learnt_from : (t : TrailView) (clauses : List (List Lit)) (conflict : List Lit) (marks : List Bool) (count : ℕ) (lits : List Lit) (back : ℕ)
    → Once (true_lits t.entries) → AreForced clauses t.entries → AreMarks t marks count → count ≡ 1 → MarksFollow clauses t.entries conflict marks → IsCollected t.entries marks lits back
    → IsLearnt clauses t.entries conflict lits back
learnt_from t clauses conflict marks count lits back h forced are one follows collected =
    let u = unique_from t.entries marks lits back h (sym are.counted ∙ one) collected in
    record {
      follows = conflict_more (conflict ∷ reasons clauses t.entries) (conflict ∷ reasons clauses t.entries) (marked_lits marks t.entries) (map negated lits) (λ x c. c)
          (λ x c. let r = contains_from_filter (is_marked marks) (true_lits t.entries) x c in subst (λ z. Contains (map negated lits) z) (negated-negated x) (contains_map negated lits (negated x) (collected.all x r.0 r.1)))
          (without_ground clauses t.entries conflict marks forced follows);
      refuted = λ m c. (collected.marked m c).0;
      lower = collected.lower;
      asserts = asserts_at_back t.entries marks lits back h u collected;
      least = λ k lt a. asserts_no_lower t.entries marks lits back k u collected lt a;
      above_ground = λ l c. are.above l (collected.marked l c).1;
      reached = collected.reached;
      no_repeats = collected.no_repeats;
    }
