-- What a derived trail shows: its literals are those of a unit chain.
use Rattle.std.proofs.Common.{◌≡◌, ℕ, zero, suc, ◌+◌, ◌<◌, ◌≤◌, ◌⊎◌, inl, inr, List, [], ◌∷◌, ◌++◌, length, map, take, refl, ap, sym, ◌∙◌, subst, arith}
use Rattle.std.specs.Prelude.{Contains, Some, slice_get, slice_index}
use Rattle.std.specs.List.Sorted.{IsStrictlyIncreasing}
use Rattle.std.proofs.lemmas.List.{append-nil, length-map, map-append, take-append-le, take_all}
use Rattle.std.proofs.lemmas.List.Elements.{Contains-append_cases, Contains-append_left, Contains-append_right}
use Rattle.std.proofs.lemmas.Option.{get_or_from_slice_get, slice_get_within}
use Rattle.std.proofs.lemmas.Bool.{cases_eq, cases_lt}
use Rattle.dg_base.specs.declared.Lit.{Lit}
use Rattle.dg_base.proofs.Lists.{contains_cases, contains_head, contains_map, contains_place, contains_tail, get_from_map, get_map, get_nothing, get_push_cases, get_there, place_of}
use Rattle.cnf_problem.specs.Literals.{negated, var}
use Rattle.cnf_problem.specs.Chains.{ReachesConflict, done, step}
use Rattle.cnf_problem.specs.Laws.{IsWithin}
use Rattle.cnf_problem.proofs.ChainLaws.{conflict_more, others_false_more}
use Rattle.cnf_problem.proofs.LiteralLaws.{negated-negated, var-negated}
use Rattle.trail_state.specs.Forcing.{AddsForced, AreForced, Forces, IsConflict, none, one}
use Rattle.trail_state.specs.Trails.{Assigned, Decided, Forced, level, lit_of, true_lits}
use Rattle.trail_state.proofs.Assigning.{not_own_negation}
use Rattle.unit_refuter.specs.Refuting.{AreDerived, Denies, first, next, nothing}

-- ---- lists

-- one more of a list's front
pub take_next : {X : Type 0} (xs : List X) (n : ℕ) (x : X) → slice_get xs n ≡ Some x → take (suc n) xs ≡ take n xs ++ x ∷ []
take_next [] n x e = absurd (get_nothing n x e)
take_next (y ∷ ys) zero x e = let s : y ≡ x = cc in ap (λ z. z ∷ []) s
take_next (y ∷ ys) (suc n) x e = ap (λ z. y ∷ z) (take_next ys n x e)

-- rising numbers rise from each place to each later one
pub rising_lt : (xs : List ℕ) → IsStrictlyIncreasing xs → (i j : ℕ) → i < j → j < length xs → slice_index xs i < slice_index xs j
rising_lt xs h i zero lt w = absurd (omega arith)
rising_lt xs h i (suc j) lt w =
    let e : j + 1 ≡ suc j = omega arith in
    let up : slice_index xs j < slice_index xs (suc j) = subst (λ z. slice_index xs j < slice_index xs z) e (h j (omega arith)) in
    elim (cases_eq i j) [
      | inl same ↦ subst (λ z. slice_index xs z < slice_index xs (suc j)) (sym same) up
      | inr other ↦ let r = rising_lt xs h i j (omega arith) (omega arith) in omega arith
    ]

pub var_at : (lits : List Lit) (k : ℕ) (l : Lit) → slice_get lits k ≡ Some l → slice_index (map var lits) k ≡ var l
var_at lits k l e = get_or_from_slice_get (map var lits) k (var l) 0 (get_map var lits k l e)

-- where the variables rise, no literal is there with its negation
pub rising_apart : (lits : List Lit) (l : Lit) → IsStrictlyIncreasing (map var lits) → Contains lits l → Contains lits (negated l) → ⊥
rising_apart lits l h c d =
    let p = place_of lits l c in
    let q = place_of lits (negated l) d in
    let a = var_at lits p.0 l p.1 in
    let b = var_at lits q.0 (negated l) q.1 in
    let v = var-negated l in
    let pw : p.0 < length (map var lits) = subst (λ z. p.0 < z) (sym (length-map lits var)) (slice_get_within lits p.0 l p.1) in
    let qw : q.0 < length (map var lits) = subst (λ z. q.0 < z) (sym (length-map lits var)) (slice_get_within lits q.0 (negated l) q.1) in
    elim (cases_eq p.0 q.0) [
      | inl same ↦ let s : Some l ≡ Some (negated l) = sym p.1 ∙ ap (λ z. slice_get lits z) same ∙ q.1 in not_own_negation l cc
      | inr other ↦ apart p.0 q.0 a b v pw qw other
    ]
  where
    apart : (i j : ℕ) → slice_index (map var lits) i ≡ var l → slice_index (map var lits) j ≡ var (negated l) → var (negated l) ≡ var l → i < length (map var lits) → j < length (map var lits) → (i ≡ j → ⊥) → ⊥
    apart i j a b v pw qw other =
        elim (cases_lt i j) [
          | inl lt ↦ let r = rising_lt (map var lits) h i j lt qw in omega arith
          | inr ge ↦ let r = rising_lt (map var lits) h j i (omega arith) pw in omega arith
        ]

-- ---- derived trails

-- on level 0 nothing was decided
no_decision : (entries : List Assigned) (i : ℕ) (l : Lit) → level entries ≡ 0 → slice_get entries i ≡ Some (Decided l) → ⊥
no_decision [] i l h e = get_nothing i (Decided l) e
no_decision (Forced m id ∷ entries) zero l h e = cc
no_decision (Forced m id ∷ entries) (suc i) l h e = no_decision entries i l h e
no_decision (Decided m ∷ entries) i l h e = absurd (omega arith)

-- a trail of level 0 is derived, whatever is denied
pub ground_derived : (cs : List (List Lit)) (lits : List Lit) (entries : List Assigned) → level entries ≡ 0 → AreForced cs entries → AreDerived cs lits entries
ground_derived cs lits entries h f i (Decided l) e = absurd (no_decision entries i l h e)
ground_derived cs lits entries h f i (Forced l id) e = inr (id, refl, f i id l e)

-- and what is derived where nothing is denied is forced
pub derived_forced : (cs : List (List Lit)) (entries : List Assigned) → AreDerived cs [] entries → AreForced cs entries
derived_forced cs entries d i id l e =
    elim (d i (Forced l id) e) [
      | inl c ↦ absurd (nothing_there c)
      | inr f ↦ let same : f.0 ≡ id = cc in subst (λ z. Forces cs z (true_lits (take i entries)) l) same f.2
    ]
  where
    nothing_there : Contains [] (negated l) → ⊥
    nothing_there c = absurd (omega arith)

-- one more entry
pub derived_push : (cs : List (List Lit)) (lits : List Lit) (entries : List Assigned) (a : Assigned) → AreDerived cs lits entries
    → Contains lits (negated (lit_of a)) ⊎ ((id : ℕ) × (a ≡ Forced (lit_of a) id) × Forces cs id (true_lits entries) (lit_of a))
    → AreDerived cs lits (entries ++ a ∷ [])
derived_push cs lits entries a d here i b e =
    elim (get_push_cases entries a i b e) [
      | inl old ↦ elim (d i b old) [
        | inl c ↦ inl c
        | inr f ↦ inr (f.0, f.1, subst (λ z. Forces cs f.0 (true_lits z) (lit_of b)) (sym (front old)) f.2)
      ]
      | inr last ↦ elim (moved last.1) [
        | inl c ↦ inl c
        | inr f ↦ inr (f.0, f.1, subst (λ z. Forces cs f.0 (true_lits z) (lit_of b)) (sym (whole last.0)) f.2)
      ]
    ]
  where
    front : slice_get entries i ≡ Some b → take i (entries ++ a ∷ []) ≡ take i entries
    front old = let w = slice_get_within entries i b old in take-append-le i entries (a ∷ []) (omega arith)

    whole : i ≡ length entries → take i (entries ++ a ∷ []) ≡ entries
    whole h = take-append-le i entries (a ∷ []) (omega arith) ∙ take_all i entries (omega arith)

    moved : b ≡ a → Contains lits (negated (lit_of b)) ⊎ ((id : ℕ) × (b ≡ Forced (lit_of b) id) × Forces cs id (true_lits entries) (lit_of b))
    moved same = subst (λ z. Contains lits (negated (lit_of z)) ⊎ ((id : ℕ) × (z ≡ Forced (lit_of z) id) × Forces cs id (true_lits entries) (lit_of z))) (sym same) here

-- negations of the denied literals are derived
pub denied_derived : (cs : List (List Lit)) (lits : List Lit) (ground entries : List Assigned) → Denies lits ground entries → AreDerived cs lits ground → AreDerived cs lits entries
denied_derived cs lits ground entries nothing d = d
denied_derived cs lits ground entries (first m c h) d = derived_push cs lits ground (Decided (negated m)) d (inl (subst (λ z. Contains lits z) (sym (negated-negated m)) c))
denied_derived cs lits ground entries (next {entries = before} m c h more) d =
    derived_push cs lits before (Forced (negated m) 0) (denied_derived cs lits ground before more d) (inl (subst (λ z. Contains lits z) (sym (negated-negated m)) c))

-- and so is what clauses force
pub added_derived : (cs : List (List Lit)) (lits : List Lit) (entries after : List Assigned) → AddsForced cs entries after → AreDerived cs lits entries → AreDerived cs lits after
added_derived cs lits entries after none d = d
added_derived cs lits entries after (one l id f more) d = added_derived cs lits (entries ++ Forced l id ∷ []) after more (derived_push cs lits entries (Forced l id) d (inr (id, refl, f)))

-- ---- unit chains

-- what is false by a front of the trail and the negations is false by a chain from the negations
chain_back : (cs : List (List Lit)) (lits : List Lit) (entries : List Assigned) (n : ℕ) → AreDerived cs lits entries → n ≤ length entries
    → ReachesConflict cs (map negated lits ++ true_lits (take n entries)) → ReachesConflict cs (map negated lits)
chain_back cs lits entries zero d w q = subst (λ z. ReachesConflict cs z) (append-nil (map negated lits)) q
chain_back cs lits entries (suc n) d w q =
    let there = get_there entries n (omega arith) in
    chain_back cs lits entries n d (omega arith) (without there.0 there.1 (d n there.0 there.1))
  where
    longer : (a : Assigned) → slice_get entries n ≡ Some a → true_lits (take (suc n) entries) ≡ true_lits (take n entries) ++ lit_of a ∷ []
    longer a e = ap true_lits (take_next entries n a e) ∙ map-append lit_of (take n entries) (a ∷ [])

    within : (a : Assigned) → slice_get entries n ≡ Some a → IsWithin (map negated lits ++ true_lits (take (suc n) entries)) (lit_of a ∷ (map negated lits ++ true_lits (take n entries)))
    within a e x c =
        elim (Contains-append_cases (map negated lits) (true_lits (take (suc n) entries)) x c) [
          | inl denied ↦ contains_tail (lit_of a) x (map negated lits ++ true_lits (take n entries)) (Contains-append_left (map negated lits) (true_lits (take n entries)) x denied)
          | inr more ↦ elim (Contains-append_cases (true_lits (take n entries)) (lit_of a ∷ []) x (subst (λ z. Contains z x) (longer a e) more)) [
            | inl old ↦ contains_tail (lit_of a) x (map negated lits ++ true_lits (take n entries)) (Contains-append_right (map negated lits) (true_lits (take n entries)) x old)
            | inr last ↦ elim (contains_cases (lit_of a) x [] last) [
              | inl same ↦ subst (λ z. Contains (lit_of a ∷ (map negated lits ++ true_lits (take n entries))) z) (sym same) (contains_head (lit_of a) (map negated lits ++ true_lits (take n entries)))
              | inr gone ↦ absurd (get_nothing (place_of [] x gone).0 x (place_of [] x gone).1)
            ]
          ]
        ]

    without : (a : Assigned) → slice_get entries n ≡ Some a → Contains lits (negated (lit_of a)) ⊎ ((id : ℕ) × (a ≡ Forced (lit_of a) id) × Forces cs id (true_lits (take n entries)) (lit_of a))
        → ReachesConflict cs (map negated lits ++ true_lits (take n entries))
    without a e (inl c) =
        let here : Contains (map negated lits) (lit_of a) = subst (λ z. Contains (map negated lits) z) (negated-negated (lit_of a)) (contains_map negated lits (negated (lit_of a)) c) in
        conflict_more cs cs (map negated lits ++ true_lits (take (suc n) entries)) (map negated lits ++ true_lits (take n entries)) (λ x h. h) (λ x h.
        elim (contains_cases (lit_of a) x (map negated lits ++ true_lits (take n entries)) (within a e x h)) [
          | inl same ↦ Contains-append_left (map negated lits) (true_lits (take n entries)) x (subst (λ z. Contains (map negated lits) z) (sym same) here)
          | inr old ↦ old
        ]) q
    without a e (inr f) =
        let r = conflict_more cs cs (map negated lits ++ true_lits (take (suc n) entries)) (lit_of a ∷ (map negated lits ++ true_lits (take n entries))) (λ x h. h) (within a e) q in
        let by = f.2 in
        record {
          reached = r.reached;
          chain = step by.clause (lit_of a) (contains_place cs f.0 by.clause by.named) by.has
              (others_false_more (true_lits (take n entries)) (map negated lits ++ true_lits (take n entries)) by.clause (lit_of a) (λ x h. Contains-append_right (map negated lits) (true_lits (take n entries)) x h) by.others_false) r.chain;
          clause = r.clause;
          listed = r.listed;
          conflict = r.conflict;
        }

-- a clause that is false on a derived trail is false by a unit chain from the negations
pub conflict_reached : (cs : List (List Lit)) (lits : List Lit) (entries : List Assigned) (id : ℕ) → AreDerived cs lits entries → IsConflict cs id (true_lits entries) → ReachesConflict cs (map negated lits)
conflict_reached cs lits entries id d q =
    chain_back cs lits entries (length entries) d (omega arith) (record {
      reached = map negated lits ++ true_lits (take (length entries) entries);
      chain = done;
      clause = q.clause;
      listed = contains_place cs id q.clause q.named;
      conflict = λ m c. Contains-append_right (map negated lits) (true_lits (take (length entries) entries)) (negated m) (subst (λ z. Contains (true_lits z) (negated m)) (sym (take_all (length entries) entries (omega arith))) (q.conflict m c));
    })

-- where a denied literal is true on a derived trail, its reason is false
pub satisfied_reached : (cs : List (List Lit)) (lits : List Lit) (entries : List Assigned) (l : Lit) → IsStrictlyIncreasing (map var lits) → AreDerived cs lits entries → Contains lits l → Contains (true_lits entries) l
    → ReachesConflict cs (map negated lits)
satisfied_reached cs lits entries l rising d listed there =
    let p = place_of (true_lits entries) l there in
    let a = get_from_map lit_of entries p.0 l p.1 in
    elim (d p.0 a.0 a.1) [
      | inl c ↦ absurd (rising_apart lits l rising listed (subst (λ z. Contains lits (negated z)) a.2 c))
      | inr f ↦ by_reason p.0 a.0 a.1 a.2 f.0 f.2
    ]
  where
    by_reason : (i : ℕ) (a : Assigned) → slice_get entries i ≡ Some a → lit_of a ≡ l → (id : ℕ) → Forces cs id (true_lits (take i entries)) (lit_of a) → ReachesConflict cs (map negated lits)
    by_reason i a e same id by =
        let w = slice_get_within entries i a e in
        chain_back cs lits entries i d (omega arith) (record {
          reached = map negated lits ++ true_lits (take i entries);
          chain = done;
          clause = by.clause;
          listed = contains_place cs id by.clause by.named;
          conflict = λ m c. elim (by.others_false m c) [
            | inl own ↦ Contains-append_left (map negated lits) (true_lits (take i entries)) (negated m) (contains_map negated lits m (subst (λ z. Contains lits z) (sym (own ∙ same)) listed))
            | inr gone ↦ Contains-append_right (map negated lits) (true_lits (take i entries)) (negated m) gone
          ];
        })
