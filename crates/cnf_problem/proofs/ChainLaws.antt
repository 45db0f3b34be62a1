-- Unit chains: more clauses and more true literals reach at least as much, and a set that no clause adds to holds all that a chain reaches.
use Rattle.std.proofs.Common.{◌≡◌, ◌⊎◌, inl, inr, Bool, true, false, not, List, [], ◌∷◌, map, refl, ap, sym, ◌∙◌, subst, arith}
use Rattle.std.specs.Prelude.{Contains, filter, ◌==◌}
use Rattle.std.proofs.lemmas.Bool.Decides.{nat_tests}
use Rattle.dg_base.proofs.Lists.{contains_head, contains_tail, contains_nothing, contains_cases, contains_map, contains_from_map}
use Rattle.dg_base.specs.declared.Lit.{Lit}
use Rattle.cnf_problem.specs.Literals.{negated, value, IsSatisfied, AllTrue}
use Rattle.cnf_problem.specs.Chains.{AllFalse, OthersFalse, UnitChain, done, step, ReachesConflict, Reaches, IsNew, others, IsFixpoint}
use Rattle.cnf_problem.specs.Laws.{IsWithin}
use Rattle.cnf_problem.proofs.Members.{contains_or_not}
use Rattle.cnf_problem.proofs.LiteralLaws.{lit_eq_or_not, same_lit, negated-negated, value-negated}

-- one more element on both sides
pub within_cons : {X : Type 0} (x : X) (xs ys : List X) → IsWithin xs ys → IsWithin (x ∷ xs) (x ∷ ys)
within_cons x xs ys w y h =
    elim (contains_cases x y xs h) [
      | inl e ↦ subst (λ z. Contains (x ∷ ys) z) (sym e) (contains_head x ys)
      | inr m ↦ contains_tail x y ys (w y m)
    ]

-- one more element that is there already
pub within_both : {X : Type 0} (x : X) (xs ys : List X) → Contains ys x → IsWithin xs ys → IsWithin (x ∷ xs) ys
within_both x xs ys c w y h =
    elim (contains_cases x y xs h) [
      | inl e ↦ subst (λ z. Contains ys z) (sym e) c
      | inr m ↦ w y m
    ]

-- where more literals are true, a false clause stays false
pub all_false_more : (xs ys clause : List Lit) → IsWithin xs ys → AllFalse xs clause → AllFalse ys clause
all_false_more xs ys clause w f m c = w (negated m) (f m c)

-- and so do the other literals of a clause
pub others_false_more : (xs ys clause : List Lit) (l : Lit) → IsWithin xs ys → OthersFalse xs clause l → OthersFalse ys clause l
others_false_more xs ys clause l w f m c =
    elim (f m c) [ inl e ↦ inl e | inr h ↦ inr (w (negated m) h) ]

-- a chain stays one over more clauses and from more literals, and then ends with at least as many
pub chain_more : {cs ds : List (List Lit)} {xs ends : List Lit} (ys : List Lit) → IsWithin cs ds → IsWithin xs ys → UnitChain cs xs ends → (more : List Lit) × UnitChain ds ys more × IsWithin ends more
chain_more ys w v done = (ys, done, v)
chain_more {xs = xs} ys w v (step clause l listed member others_false rest) =
    let r = chain_more (l ∷ ys) w (within_cons l xs ys v) rest in
    (r.0, step clause l (w clause listed) member (others_false_more xs ys clause l v others_false) r.1, r.2)

-- more clauses and literals reach a conflict too
pub conflict_more : (cs ds : List (List Lit)) (xs ys : List Lit) → IsWithin cs ds → IsWithin xs ys → ReachesConflict cs xs → ReachesConflict ds ys
conflict_more cs ds xs ys w v h =
    let r = chain_more ys w v h.chain in
    record { reached = r.0; chain = r.1; clause = h.clause; listed = w h.clause h.listed; conflict = all_false_more h.reached r.0 h.clause r.2 h.conflict }

-- where each clause that is unit has its literal true already, no chain leaves the set
pub record IsClosed (cs : List (List Lit)) (lits : List Lit) : Type 0 where
  pub has : (clause : List Lit) (l : Lit) → Contains cs clause → Contains clause l → OthersFalse lits clause l → Contains lits l

-- a chain from literals of a closed set stays in it
pub chain_within : {cs : List (List Lit)} {xs ends : List Lit} (lits : List Lit) → IsClosed cs lits → IsWithin xs lits → UnitChain cs xs ends → IsWithin ends lits
chain_within lits closed v done = v
chain_within {xs = xs} lits closed v (step clause l listed member others_false rest) =
    let here = closed.has clause l listed member (others_false_more xs lits clause l v others_false) in
    chain_within lits closed (within_both l xs lits here v) rest

-- a fixpoint is closed
pub closed_from_fixpoint : (cs : List (List Lit)) (lits : List Lit) → IsFixpoint cs lits → IsClosed cs lits
closed_from_fixpoint cs lits fixpoint = record {
  has = λ clause l listed member others_false.
      elim (contains_or_not lit_eq_or_not lits l) [
        | inl here ↦ here
        | inr missing ↦ elim (contains_or_not lit_eq_or_not lits (negated l)) [
          | inl false_here ↦ absurd (fixpoint.no_conflict clause listed (λ m c. elim (others_false m c) [ inl e ↦ subst (λ z. Contains lits (negated z)) (sym e) false_here | inr h ↦ h ]))
          | inr unknown ↦ absurd (fixpoint.no_unit clause l listed member others_false (missing, unknown))
        ]
      ];
}

-- a chain from literals of a fixpoint stays in it, and makes no clause false
pub fixpoint_reached : (cs : List (List Lit)) (lits start : List Lit) (l : Lit) → IsFixpoint cs lits → IsWithin start lits → Reaches cs start l → Contains lits l
fixpoint_reached cs lits start l fixpoint within h = chain_within lits (closed_from_fixpoint cs lits fixpoint) within h.chain l h.made

-- and makes no clause false
pub fixpoint_no_conflict : (cs : List (List Lit)) (lits start : List Lit) → IsFixpoint cs lits → IsWithin start lits → ReachesConflict cs start → ⊥
fixpoint_no_conflict cs lits start fixpoint within h =
    fixpoint.no_conflict h.clause h.listed
    (all_false_more h.reached lits h.clause (chain_within lits (closed_from_fixpoint cs lits fixpoint) within h.chain) h.conflict)

-- over a fixpoint, a lemma is new if one of its literals isn't true there and the others are false there
pub new_from_fixpoint : (cs : List (List Lit)) (lits clause : List Lit) (l : Lit) → IsFixpoint cs lits → Contains clause l → (Contains lits l → ⊥) → AllFalse lits (others l clause) → IsNew cs clause
new_from_fixpoint cs lits clause l fixpoint member missing others_false =
    let start : IsWithin (map negated (others l clause)) lits = (λ x h. let r = contains_from_map negated (others l clause) x h in subst (λ z. Contains lits z) (sym r.2) (others_false r.0 r.1)) in
    record {
      literal = l;
      listed = member;
      not_implied = λ h. missing (fixpoint_reached cs lits (map negated (others l clause)) l fixpoint start h);
      no_conflict = fixpoint_no_conflict cs lits (map negated (others l clause)) fixpoint start;
    }

-- what is true under an assignment stays true along a chain
pub chain_sound : {cs : List (List Lit)} {xs ends : List Lit} (a : List Bool) → ((clause : List Lit) → Contains cs clause → IsSatisfied a clause) → AllTrue a xs → UnitChain cs xs ends → AllTrue a ends
chain_sound a sat t done = t
chain_sound {xs = xs} a sat t (step clause l listed member others_false rest) =
    let s = sat clause listed in
    let here : value a l ≡ true = elim (others_false s.0 s.1) [
      | inl e ↦ subst (λ z. value a z ≡ true) e s.2
      | inr h ↦ absurd (not_both a s.0 s.2 (t (negated s.0) h))
    ] in
    chain_sound a sat (λ m c. elim (contains_cases l m xs c) [ inl e ↦ subst (λ z. value a z ≡ true) (sym e) here | inr k ↦ t m k ]) rest
  where
    not_both : (a : List Bool) (m : Lit) → value a m ≡ true → value a (negated m) ≡ true → ⊥
    not_both a m p q = let e = value-negated a m in cc

-- clauses that are true under an assignment reach no conflict from literals that are
pub conflict_sound : (cs : List (List Lit)) (xs : List Lit) (a : List Bool) → ((clause : List Lit) → Contains cs clause → IsSatisfied a clause) → AllTrue a xs → ReachesConflict cs xs → ⊥
conflict_sound cs xs a sat t h =
    let s = sat h.clause h.listed in
    let p = s.2 in
    let q = chain_sound a sat t h.chain (negated s.0) (h.conflict s.0 s.1) in
    let e = value-negated a s.0 in
    cc

-- what a test keeps
pub contains_filter : {X : Type 0} (test : X → Bool) (xs : List X) (x : X) → Contains xs x → test x ≡ true → Contains (filter test xs) x
contains_filter test [] x c e = absurd (contains_nothing x c)
contains_filter test (y ∷ ys) x c e = by_test (test y) refl (contains_cases y x ys c) (λ m. contains_filter test ys x m e)
  where
    by_test : (b : Bool) → test y ≡ b → (x ≡ y) ⊎ Contains ys x → (Contains ys x → Contains (filter test ys) x) → Contains (filter test (y ∷ ys)) x
    by_test true q (inl same) later = rw q (subst (λ z. Contains (y ∷ filter test ys) z) (sym same) (contains_head y (filter test ys)))
    by_test true q (inr m) later = rw q (contains_tail y x (filter test ys) (later m))
    by_test false q (inl same) later = absurd (let f = ap test same in let g = e in cc)
    by_test false q (inr m) later = rw q (later m)

-- the negations of the other literals leave a clause unit, or false
pub others_false_in : (l : Lit) (lits : List Lit) → OthersFalse (map negated (others l lits)) lits l
others_false_in l lits m c =
    elim (lit_eq_or_not m l) [
      | inl e ↦ inl e
      | inr apart ↦ inr (contains_map negated (others l lits) m (contains_filter (λ x. not (x.0 == l.0)) lits m c (tested (λ e. apart (same_lit m l e)))))
    ]
  where
    tested : (m.0 ≡ l.0 → ⊥) → not (m.0 == l.0) ≡ true
    tested n = grind (arith, nat_tests)

-- a lemma that is listed already is not new, so the lemmas of a spent worker all differ
pub new_differs : (cs : List (List Lit)) (lits : List Lit) → Contains cs lits → IsNew cs lits → ⊥
new_differs cs lits listed new =
    new.not_implied (record {
      reached = new.literal ∷ map negated (others new.literal lits);
      chain = step lits new.literal listed new.listed (others_false_in new.literal lits) done;
      made = contains_head new.literal (map negated (others new.literal lits));
    })

-- a clause of the list follows from it at once
pub listed_follows : (cs : List (List Lit)) (clause : List Lit) → Contains cs clause → ReachesConflict cs (map negated clause)
listed_follows cs clause listed = record {
  reached = map negated clause;
  chain = done;
  clause = clause;
  listed = listed;
  conflict = λ m c. contains_map negated clause m c;
}

-- resolution: what follows without the negation of a literal, and with the others of a clause that forces it, follows too
pub resolve : (cs : List (List Lit)) (old new clause : List Lit) (l : Lit) → Contains cs clause → Contains clause l
    → ((m : Lit) → Contains clause m → (m ≡ l) ⊎ Contains new m)
    → ((m : Lit) → Contains old m → (m ≡ negated l) ⊎ Contains new m)
    → ReachesConflict cs (map negated old) → ReachesConflict cs (map negated new)
resolve cs old new clause l listed member from_clause from_old h =
    let within : IsWithin (map negated old) (l ∷ map negated new) = (λ x c.
    let r = contains_from_map negated old x c in
    elim (from_old r.0 r.1) [
      | inl e ↦ subst (λ z. Contains (l ∷ map negated new) z) (sym (r.2 ∙ ap negated e ∙ negated-negated l)) (contains_head l (map negated new))
      | inr m ↦ contains_tail l x (map negated new) (subst (λ z. Contains (map negated new) z) (sym r.2) (contains_map negated new r.0 m))
    ]) in
    let q = conflict_more cs cs (map negated old) (l ∷ map negated new) (λ x c. c) within h in
    record {
      reached = q.reached;
      chain = step clause l listed member (λ m c. elim (from_clause m c) [ inl e ↦ inl e | inr n ↦ inr (contains_map negated new m n) ]) q.chain;
      clause = q.clause;
      listed = q.listed;
      conflict = q.conflict;
    }
