-- Making negations true: what it keeps of a trail and of the watches.
use Rattle.std.proofs.Common.{◌≡◌, ℕ, zero, suc, ◌+◌, ◌<◌, ◌≤◌, ◌⊎◌, inl, inr, Some, List, [], ◌∷◌, ◌++◌, length, get_or, refl, ap, sym, ◌∙◌, subst, arith}
use Rattle.std.specs.Prelude.{All, Contains, slice_get}
use Rattle.std.proofs.lemmas.List.{length-append, map-append}
use Rattle.std.proofs.lemmas.List.Elements.{Contains-append_left, Contains-append_right}
use Rattle.std.proofs.lemmas.Bool.{cases_eq}
use Rattle.std.proofs.lemmas.Option.{slice_get-get_or}
use Rattle.dg_base.proofs.Lists.{contains_head, contains_place, one_answer}
use Rattle.dg_base.specs.declared.Lit.{Lit}
use Rattle.cnf_problem.specs.Literals.{negated}
use Rattle.cnf_problem.specs.declared.problem.Problem.{Problem}
use Rattle.trail_state.specs.Forcing.{AddsForced, none, one}
use Rattle.trail_state.specs.Trails.{Assigned, Decided, Forced, TrailView, level, lit_of, true_lits, up_to}
use Rattle.trail_state.proofs.Cuts.{level-decided, level-forced, up_to-append, up_to-decided, up_to_all}
use Rattle.clause_store.specs.Stores.{IsSettled, IsWatching, StoreView, clauses_of}
use Rattle.clause_store.proofs.TrailLaws.{assigned, decided}
use Rattle.unit_refuter.specs.Refuting.{Denies, first, next, nothing}

-- the trail has what it had
pub denied_within : (lits : List Lit) (ground entries : List Assigned) (l : Lit) → Denies lits ground entries → Contains (true_lits ground) l → Contains (true_lits entries) l
denied_within lits ground entries l nothing c = c
denied_within lits ground entries l (first m listed h) c =
    subst (λ z. Contains z l) (sym (map-append lit_of ground (Decided (negated m) ∷ []))) (Contains-append_left (true_lits ground) (negated m ∷ []) l c)
denied_within lits ground entries l (next {entries = before} m listed h more) c =
    subst (λ z. Contains z l) (sym (map-append lit_of before (Forced (negated m) 0 ∷ []))) (Contains-append_left (true_lits before) (negated m ∷ []) l (denied_within lits ground before l more c))

denied_longer : (lits : List Lit) (ground entries : List Assigned) → Denies lits ground entries → length ground ≤ length entries
denied_longer lits ground entries nothing = omega arith
denied_longer lits ground entries (first m listed h) = omega (arith, length-append ground (Decided (negated m) ∷ []))
denied_longer lits ground entries (next {entries = before} m listed h more) = let r = denied_longer lits ground before more in omega (arith, length-append before (Forced (negated m) 0 ∷ []))

-- either nothing was denied, or one level was begun
pub denied_level : (lits : List Lit) (ground entries : List Assigned) → level ground ≡ 0 → Denies lits ground entries
    → ((level entries ≡ 0) × (entries ≡ ground)) ⊎ ((level entries ≡ 1) × (up_to 0 entries ≡ ground))
denied_level lits ground entries z nothing = inl (z, refl)
denied_level lits ground entries z (first m listed h) =
    inr (level-decided ground (negated m) ∙ ap (λ n. n + 1) z, up_to-decided ground (Decided (negated m)) 0 (sym z) (negated m) refl)
denied_level lits ground entries z (next {entries = before} m listed h more) =
    inr (level-forced before (negated m) 0 ∙ h, up_to-append 0 before (Forced (negated m) 0 ∷ []) (omega arith) ∙ below (denied_level lits ground before z more))
  where
    below : ((level before ≡ 0) × (before ≡ ground)) ⊎ ((level before ≡ 1) × (up_to 0 before ≡ ground)) → up_to 0 before ≡ ground
    below (inl p) = absurd (omega (arith, p.0))
    below (inr p) = p.1

-- one more negation: the first begins a level
pub deny_first : (lits : List Lit) (ground entries : List Assigned) (m : Lit) → level ground ≡ 0 → Denies lits ground entries → Contains lits m → level entries ≡ 0 → Denies lits ground (entries ++ Decided (negated m) ∷ [])
deny_first lits ground entries m z d listed low =
    elim (denied_level lits ground entries z d) [
      | inl p ↦ subst (λ x. Denies lits ground (x ++ Decided (negated m) ∷ [])) (sym p.1) (first m listed z)
      | inr p ↦ absurd (omega (arith, p.0))
    ]

pub deny_next : (lits : List Lit) (ground entries : List Assigned) (m : Lit) → level ground ≡ 0 → Denies lits ground entries → Contains lits m → (level entries ≡ 0 → ⊥) → Denies lits ground (entries ++ Forced (negated m) 0 ∷ [])
deny_next lits ground entries m z d listed high =
    elim (denied_level lits ground entries z d) [
      | inl p ↦ absurd (high p.0)
      | inr p ↦ next m listed p.0 d
    ]

-- an entry that is put is there, and those before it stay
pub put_there : (entries : List Assigned) (a : Assigned) → Contains (true_lits (entries ++ a ∷ [])) (lit_of a)
put_there entries a = subst (λ z. Contains z (lit_of a)) (sym (map-append lit_of entries (a ∷ []))) (Contains-append_right (true_lits entries) (lit_of a ∷ []) (lit_of a) (contains_head (lit_of a) []))

pub put_stays : (entries : List Assigned) (a : Assigned) (l : Lit) → Contains (true_lits entries) l → Contains (true_lits (entries ++ a ∷ [])) l
put_stays entries a l c = subst (λ z. Contains z l) (sym (map-append lit_of entries (a ∷ []))) (Contains-append_left (true_lits entries) (lit_of a ∷ []) l c)

-- what holds of the literals before a place and of that at the place
pub each_next : {X : Type 0} (xs : List X) (P : X → Type 0) (i : ℕ) (x : X) → slice_get xs i ≡ Some x → ((k : ℕ) (y : X) → k < i → slice_get xs k ≡ Some y → P y) → P x
    → (k : ℕ) (y : X) → k < i + 1 → slice_get xs k ≡ Some y → P y
each_next xs P i x at before here k y h e =
    elim (cases_eq k i) [
      | inl same ↦ subst P (one_answer (slice_get xs i) x y at (subst (λ z. slice_get xs z ≡ Some y) same e)) here
      | inr other ↦ before k y (omega arith) e
    ]

pub each_all : {X : Type 0} (xs : List X) (P : X → Type 0) (n : ℕ) → length xs ≤ n → ((k : ℕ) (y : X) → k < n → slice_get xs k ≡ Some y → P y) → All P xs
each_all xs P n h each k d w = each k (get_or xs k d) (omega arith) (slice_get-get_or xs k d w)

-- the watches go on to fit
pub denied_watching : (p : Problem) (s : StoreView) (t : TrailView) (lits : List Lit) (entries : List Assigned) → Denies lits t.entries entries → IsWatching p s t → IsSettled p s t
    → IsWatching p s (record t { entries = entries })
denied_watching p s t lits entries nothing w settled = w
denied_watching p s t lits entries (first m listed h) w settled = decided (clauses_of p s) p.vars s.links s.examined t (negated m) w settled.examined settled.taken
denied_watching p s t lits entries (next {entries = before} m listed h more) w settled =
    let longer = denied_longer lits t.entries before more in
    let taken = settled.taken in
    assigned (clauses_of p s) p.vars s.links s.examined (record t { entries = before }) (negated m) 0 (denied_watching p s t lits before more w settled) (omega arith)

-- all of the trail was taken, and it did not get shorter
pub denied_taken : (p : Problem) (s : StoreView) (t : TrailView) (lits : List Lit) (entries : List Assigned) → Denies lits t.entries entries → IsSettled p s t → t.taken ≤ length entries
denied_taken p s t lits entries d settled = let longer = denied_longer lits t.entries entries d in let taken = settled.taken in omega arith

-- ---- literals that clauses force

pub added_within : (cs : List (List Lit)) (entries after : List Assigned) (l : Lit) → AddsForced cs entries after → Contains (true_lits entries) l → Contains (true_lits after) l
added_within cs entries after l none c = c
added_within cs entries after l (one m id f more) c =
    added_within cs (entries ++ Forced m id ∷ []) after l more (subst (λ z. Contains z l) (sym (map-append lit_of entries (Forced m id ∷ []))) (Contains-append_left (true_lits entries) (m ∷ []) l c))

pub added_level : (cs : List (List Lit)) (entries after : List Assigned) → AddsForced cs entries after → level after ≡ level entries
added_level cs entries after none = refl
added_level cs entries after (one m id f more) = added_level cs (entries ++ Forced m id ∷ []) after more ∙ level-forced entries m id

pub added_above : (cs : List (List Lit)) (entries after : List Assigned) → AddsForced cs entries after → 0 < level entries → up_to 0 after ≡ up_to 0 entries
added_above cs entries after none h = refl
added_above cs entries after (one m id f more) h =
    added_above cs (entries ++ Forced m id ∷ []) after more (subst (λ z. 0 < z) (sym (level-forced entries m id)) h) ∙ up_to-append 0 entries (Forced m id ∷ []) h

-- a trail of level 0 is its own cut
pub ground_cut : (entries : List Assigned) → level entries ≡ 0 → up_to 0 entries ≡ entries
ground_cut entries h = up_to_all 0 entries (omega arith)

-- ---- the turns of denying

-- the negations of the first so many literals were made true
pub record IsPassed (lits : List Lit) (old now : TrailView) (n : ℕ) : Type 0 where
  pub denies : Denies lits old.entries now.entries
  pub same : now ≡ record old { entries = now.entries }
  pub all : (k : ℕ) (m : Lit) → k < n → slice_get lits k ≡ Some m → Contains (true_lits now.entries) (negated m)

pub passed_none : (lits : List Lit) (t : TrailView) → IsPassed lits t t 0
passed_none lits t = record { denies = nothing; same = refl; all = λ k m h e. absurd (omega arith) }

-- a negation is true already
pub passed_true : (lits : List Lit) (old now : TrailView) (i : ℕ) (lit : Lit) → slice_get lits i ≡ Some lit → IsPassed lits old now i → Contains (true_lits now.entries) (negated lit) → IsPassed lits old now (i + 1)
passed_true lits old now i lit at p there = record {
  denies = p.denies;
  same = p.same;
  all = each_next lits (λ m. Contains (true_lits now.entries) (negated m)) i lit at p.all there;
}

-- an entry is put that makes it true
passed_put : (lits : List Lit) (old now : TrailView) (i : ℕ) (lit : Lit) (a : Assigned) → slice_get lits i ≡ Some lit → IsPassed lits old now i → lit_of a ≡ negated lit → Denies lits old.entries (now.entries ++ a ∷ [])
    → IsPassed lits old (record now { entries = now.entries ++ a ∷ [] }) (i + 1)
passed_put lits old now i lit a at p is d = record {
  denies = d;
  same = ap (λ (t : TrailView). let u : TrailView = record t { entries = now.entries ++ a ∷ [] } in u) p.same;
  all = each_next lits (λ m. Contains (true_lits (now.entries ++ a ∷ [])) (negated m)) i lit at (λ k m h e. put_stays now.entries a (negated m) (p.all k m h e))
      (subst (λ z. Contains (true_lits (now.entries ++ a ∷ [])) z) is (put_there now.entries a));
}

pub passed_first : (lits : List Lit) (old now after : TrailView) (i : ℕ) (lit d : Lit) → slice_get lits i ≡ Some lit → level old.entries ≡ 0 → IsPassed lits old now i → d ≡ negated lit → level now.entries ≡ 0
    → after ≡ record now { entries = now.entries ++ Decided d ∷ [] } → IsPassed lits old after (i + 1)
passed_first lits old now after i lit d at ground p is low put =
    let listed = contains_place lits i lit at in
    let denies = subst (λ z. Denies lits old.entries (now.entries ++ Decided z ∷ [])) (sym is) (deny_first lits old.entries now.entries lit ground p.denies listed low) in
    subst (λ t. IsPassed lits old t (i + 1)) (sym put) (passed_put lits old now i lit (Decided d) at p is denies)

pub passed_next : (lits : List Lit) (old now after : TrailView) (i : ℕ) (lit d : Lit) → slice_get lits i ≡ Some lit → level old.entries ≡ 0 → IsPassed lits old now i → d ≡ negated lit → (level now.entries ≡ 0 → ⊥)
    → after ≡ record now { entries = now.entries ++ Forced d 0 ∷ [] } → IsPassed lits old after (i + 1)
passed_next lits old now after i lit d at ground p is high put =
    let listed = contains_place lits i lit at in
    let denies = subst (λ z. Denies lits old.entries (now.entries ++ Forced z 0 ∷ [])) (sym is) (deny_next lits old.entries now.entries lit ground p.denies listed high) in
    subst (λ t. IsPassed lits old t (i + 1)) (sym put) (passed_put lits old now i lit (Forced d 0) at p is denies)

-- ---- levels

pub denied_none : (lits : List Lit) (ground entries : List Assigned) → level ground ≡ 0 → Denies lits ground entries → level entries ≡ 0 → entries ≡ ground
denied_none lits ground entries z d low = elim (denied_level lits ground entries z d) [ inl p ↦ p.1 | inr p ↦ absurd (omega (arith, p.0)) ]

pub above_zero : (n : ℕ) → (n ≡ 0 → ⊥) → 0 < n
above_zero zero h = absurd (h refl)
above_zero (suc n) h = omega arith
