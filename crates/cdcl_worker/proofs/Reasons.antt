-- That reasons go on to force the literals of a trail, whatever a search does.
use Rattle.std.proofs.Common.{◌≡◌, ℕ, zero, suc, ◌<◌, ◌≤◌, inl, inr, List, [], ◌∷◌, ◌++◌, length, take, refl, ap, sym, ◌∙◌, subst, arith, Some, slice_get}
use Rattle.std.proofs.lemmas.List.{take-take, take-append-le, take_at}
use Rattle.std.proofs.lemmas.Option.{slice_get_within}
use Rattle.dg_base.proofs.Lists.{get_nothing, get_append_left, get_push_cases}
use Rattle.dg_base.specs.declared.Lit.{Lit}
use Rattle.cnf_problem.specs.Chains.{OthersFalse}
use Rattle.trail_state.specs.Trails.{Assigned, Decided, Forced, true_lits, up_to}
use Rattle.trail_state.specs.Forcing.{Forces, AreForced, AddsForced, none, one}
use Rattle.trail_state.proofs.Cuts.{up_to_take}

-- what stands in the beginning of a list stands in the list
pub get_taken : {X : Type 0} (n : ℕ) (xs : List X) (i : ℕ) (x : X) → slice_get (take n xs) i ≡ Some x → (i < n) × (slice_get xs i ≡ Some x)
get_taken zero xs i x at = absurd (get_nothing i x at)
get_taken (suc n) [] i x at = absurd (get_nothing i x at)
get_taken (suc n) (y ∷ ys) zero x at = (omega arith, at)
get_taken (suc n) (y ∷ ys) (suc i) x at = let r = get_taken n ys i x at in (let a = r.0 in omega arith, r.1)

module _ (clauses : List (List Lit)) where
  -- the entries before some place
  forced_front : (n : ℕ) (entries : List Assigned) → AreForced clauses entries → AreForced clauses (take n entries)
  forced_front n entries forced = λ i id l at.
      let r = get_taken n entries i (Forced l id) at in
      let before : take i (take n entries) ≡ take i entries = (let le : i ≤ n = (let a = r.0 in omega arith) in take-take i n entries le) in
      subst (λ (es : List Assigned). Forces clauses id (true_lits es) l) (sym before) (forced i id l r.1)

  -- the entries of the lower levels
  pub forced_up_to : (n : ℕ) (entries : List Assigned) → AreForced clauses entries → AreForced clauses (up_to n entries)
  forced_up_to n entries forced = subst (λ (es : List Assigned). AreForced clauses es) (sym (up_to_take n entries)) (forced_front (length (up_to n entries)) entries forced)

  -- clauses that are added
  pub forced_more : (more : List (List Lit)) (entries : List Assigned) → AreForced clauses entries → AreForced (clauses ++ more) entries
  forced_more more entries forced = λ i id l at.
      let f = forced i id l at in
      record { clause = f.clause; named = get_append_left clauses more id f.clause f.named; has = f.has; others_false = f.others_false }

  -- a decision
  pub forced_decided : (entries : List Assigned) (d : Lit) → AreForced clauses entries → AreForced clauses (entries ++ Decided d ∷ [])
  forced_decided entries d forced = λ i id l at. elim (get_push_cases entries (Decided d) i (Forced l id) at) [
    | inl old ↦
        let le = slice_get_within entries i (Forced l id) old in
        subst (λ (es : List Assigned). Forces clauses id (true_lits es) l) (sym (take-append-le i entries (Decided d ∷ []) (omega arith))) (forced i id l old)
    | inr last ↦ (let e = last.1 in cc)
  ]

  -- a literal that a clause forces
  forced_one : (entries : List Assigned) (m : Lit) (k : ℕ) → Forces clauses k (true_lits entries) m → AreForced clauses entries → AreForced clauses (entries ++ Forced m k ∷ [])
  forced_one entries m k force forced = λ i id l at. elim (get_push_cases entries (Forced m k) i (Forced l id) at) [
    | inl old ↦
        let le = slice_get_within entries i (Forced l id) old in
        subst (λ (es : List Assigned). Forces clauses id (true_lits es) l) (sym (take-append-le i entries (Forced m k ∷ []) (omega arith))) (forced i id l old)
    | inr last ↦
        let same : l ≡ m = (let e = last.1 in cc) in
        let number : id ≡ k = (let e = last.1 in cc) in
        let before : take i (entries ++ Forced m k ∷ []) ≡ entries = ap (λ n. take n (entries ++ Forced m k ∷ [])) last.0 ∙ take_at entries (Forced m k ∷ []) (length entries) refl in
        subst (λ (es : List Assigned). Forces clauses id (true_lits es) l) (sym before)
        (subst (λ n. Forces clauses n (true_lits entries) l) (sym number) (subst (λ x. Forces clauses k (true_lits entries) x) (sym same) force))
  ]

  -- literals that are added with their reasons
  pub forced_adds : {before after : List Assigned} → AddsForced clauses before after → AreForced clauses before → AreForced clauses after
  forced_adds none forced = forced
  forced_adds {before} (one m k force rest) forced = forced_adds rest (forced_one before m k force forced)
