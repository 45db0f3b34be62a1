-- Watched clauses: quiet once all was taken, and kept by each call of the trail.
use Rattle.std.proofs.Common.{◌≡◌, ◌≢◌, ℕ, suc, ◌<◌, ◌≤◌, ◌⊎◌, inl, inr, List, [], ◌∷◌, ◌++◌, length, refl, ap, sym, ◌∙◌, subst, arith}
use Rattle.std.specs.Prelude.{Contains}
use Rattle.std.proofs.lemmas.List.{take_all, length-map, take-append-le, map-append}
use Rattle.std.proofs.lemmas.List.Elements.{Contains-append_left}
use Rattle.std.proofs.lemmas.Bool.{cases_lt}
use Rattle.dg_base.specs.declared.Lit.{Lit}
use Rattle.cnf_problem.specs.Literals.{negated}
use Rattle.cnf_problem.specs.Chains.{IsFalse, AllFalse, OthersFalse, IsUnassigned, IsFixpoint}
use Rattle.cnf_problem.proofs.Members.{contains_take}
use Rattle.trail_state.specs.Trails.{Assigned, Decided, Forced, true_lits, level, up_to}
use Rattle.clause_store.specs.Watching.{GuardsBelow, GuardsHere}
use Rattle.clause_store.specs.Visiting.{IsFree}
use Rattle.trail_state.proofs.Cuts.{up_to-up_to, level-up_to, up_to-append, up_to-decided, up_to_front}

-- the clause has the two literals, each of which guards the other as far as the trail was taken
pub record IsWatched (entries : List Assigned) (taken : ℕ) (clause : List Lit) (a b : Lit) : Type 0 where
  pub first : Contains clause a
  pub second : Contains clause b
  pub different : a ≢ b
  pub forth : GuardsHere entries taken a b
  pub back : GuardsHere entries taken b a

-- the clause is watched, or one of its literals is true
abbrev pub IsQuiet : List Assigned → List Lit → Type 0
IsQuiet entries clause =
    ((a : Lit) × (b : Lit) × IsWatched entries (length entries) clause a b) ⊎ ((l : Lit) × Contains clause l × Contains (true_lits entries) l)

-- where all was taken, a guard says of a false literal that the other one is true
pub guard_at_end : (entries : List Assigned) (a b : Lit) → GuardsHere entries (length entries) a b → IsFalse (true_lits entries) a → Contains (true_lits entries) b
guard_at_end entries a b g f =
    g (rw (take_all (length entries) (true_lits entries) (rw length-map (omega arith))) f)

pub watched_not_false : (entries : List Assigned) (clause : List Lit) (a b : Lit) → IsFree entries → IsWatched entries (length entries) clause a b → AllFalse (true_lits entries) clause → ⊥
watched_not_false entries clause a b free w all =
    free b (guard_at_end entries a b w.forth (all a w.first)) (all b w.second)

pub watched_not_unit : (entries : List Assigned) (clause : List Lit) (a b l : Lit) → IsFree entries → IsWatched entries (length entries) clause a b → OthersFalse (true_lits entries) clause l → IsUnassigned (true_lits entries) l → ⊥
watched_not_unit entries clause a b l free w others unassigned =
    elim (others a w.first) [
      | inl e ↦ elim (others b w.second) [
        | inl f ↦ w.different (e ∙ sym f)
        | inr b_false ↦ unassigned.0 (subst (λ z. Contains (true_lits entries) z) e (guard_at_end entries b a w.back b_false))
      ]
      | inr a_false ↦
          let b_true = guard_at_end entries a b w.forth a_false in
          elim (others b w.second) [
            | inl f ↦ unassigned.0 (subst (λ z. Contains (true_lits entries) z) f b_true)
            | inr b_false ↦ free b b_true b_false
          ]
    ]

-- if each clause is watched or true, no clause is false and none is unit
pub fixpoint_from_quiet : (entries : List Assigned) (clauses : List (List Lit)) → IsFree entries → ((clause : List Lit) → Contains clauses clause → IsQuiet entries clause) → IsFixpoint clauses (true_lits entries)
fixpoint_from_quiet entries clauses free w = record {
  no_conflict = λ clause c all. elim (w clause c) [
    | inl r ↦ watched_not_false entries clause r.0 r.1 free r.2 all
    | inr r ↦ free r.0 r.2 (all r.0 r.1)
  ];
  no_unit = λ clause l c m others unassigned. elim (w clause c) [
    | inl r ↦ watched_not_unit entries clause r.0 r.1 l free r.2 others unassigned
    | inr r ↦ elim (others r.0 r.1) [
      | inl e ↦ unassigned.0 (subst (λ z. Contains (true_lits entries) z) e r.2)
      | inr f ↦ free r.0 r.2 f
    ]
  ];
}

-- a cut has no literal that the trail has not
pub cut_within : (n : ℕ) (entries : List Assigned) (l : Lit) → Contains (true_lits (up_to n entries)) l → Contains (true_lits entries) l
cut_within n entries l c =
    let r = up_to_front n entries in
    subst (λ z. Contains (true_lits z) l) r.1 (rw map-append (Contains-append_left (true_lits (up_to n entries)) (true_lits r.0) l c))

-- undoing: the guards of the lower levels are the guards of the cut
pub below_after_undo : (n : ℕ) (entries : List Assigned) (a b : Lit) → n ≤ level entries → GuardsBelow entries a b → GuardsBelow (up_to n entries) a b
below_after_undo n entries a b le g m lt c =
    let e = level-up_to n entries le in
    let same = up_to-up_to m n entries (omega arith) in
    rw same (g m (omega arith) (rw same at c))

pub here_after_undo : (n : ℕ) (entries : List Assigned) (taken : ℕ) (a b : Lit) → n < level entries → GuardsBelow entries a b → GuardsHere (up_to n entries) taken a b
here_after_undo n entries taken a b lt g c = g n lt (contains_take taken (true_lits (up_to n entries)) (negated a) c)

-- assigning: nothing is lost
pub below_after_assign : (entries : List Assigned) (l a b : Lit) (id : ℕ) → GuardsBelow entries a b → GuardsBelow (entries ++ Forced l id ∷ []) a b
below_after_assign entries l a b id g n lt c =
    let e = level_forced entries in
    let same = up_to-append n entries (Forced l id ∷ []) (omega arith) in
    rw same (g n (omega arith) (rw same at c))
  where
    level_forced : (xs : List Assigned) → level (xs ++ Forced l id ∷ []) ≡ level xs
    level_forced [] = refl
    level_forced (Forced m i ∷ xs) = level_forced xs
    level_forced (Decided m ∷ xs) = ap suc (level_forced xs)

pub here_after_more : (entries more : List Assigned) (taken : ℕ) (a b : Lit) → taken ≤ length entries → GuardsHere entries taken a b → GuardsHere (entries ++ more) taken a b
here_after_more entries more taken a b le g c =
    rw map-append
    (Contains-append_left (true_lits entries) (true_lits more) b
    (g (rw (map-append, take-append-le taken (true_lits entries) (true_lits more) (rw length-map le)) at c)))

-- deciding, once all was taken: the level that ends keeps its guards
pub below_after_decide : (entries : List Assigned) (l a b : Lit) → GuardsBelow entries a b → GuardsHere entries (length entries) a b → GuardsBelow (entries ++ Decided l ∷ []) a b
below_after_decide entries l a b below here n lt c =
    elim (cases_lt n (level entries)) [
      | inl lower ↦ let same = up_to-append n entries (Decided l ∷ []) lower in rw same (below n lower (rw same at c))
      | inr ge ↦
          let e : n ≡ level entries = (let k = level_decided entries in omega arith) in
          let same = up_to-decided entries (Decided l) n e l refl in
          rw same (guard_at_end entries a b here (rw same at c))
    ]
  where
    level_decided : (xs : List Assigned) → level (xs ++ Decided l ∷ []) ≡ suc (level xs)
    level_decided [] = refl
    level_decided (Forced m i ∷ xs) = level_decided xs
    level_decided (Decided m ∷ xs) = ap suc (level_decided xs)
