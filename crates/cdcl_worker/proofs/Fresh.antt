-- That the lemmas of a search follow from what its number knows, and are new over it.
use Rattle.std.proofs.Common.{◌≡◌, ◌≢◌, ℕ, ◌⊎◌, inl, inr, true, not, List, [], ◌∷◌, ◌++◌, map, refl, ap, sym, ◌∙◌, subst, arith, Option, Some, None, slice_get}
use Rattle.std.specs.Prelude.{Contains, ◌==◌}
use Rattle.std.proofs.lemmas.Bool.Decides.{nat_tests}
use Rattle.dg_base.proofs.Lists.{contains_from_filter, contains_map, contains_from_map, contains_head, contains_nothing, contains_cases, contains_place}
use Rattle.dg_base.specs.declared.Lit.{Lit}
use Rattle.cnf_problem.specs.Literals.{negated}
use Rattle.cnf_problem.specs.Laws.{IsWithin}
use Rattle.cnf_problem.specs.Chains.{IsFalse, AllFalse, OthersFalse, IsUnassigned, IsFixpoint, IsNew, Reaches, ReachesConflict, others}
use Rattle.cnf_problem.proofs.ChainLaws.{new_from_fixpoint, conflict_more, chain_more, contains_filter}
use Rattle.trail_state.specs.Trails.{Assigned, Decided, Forced}
use Rattle.trail_state.specs.Forcing.{reasons}

-- a fixpoint of some clauses is one of the same clauses in another order
pub fixpoint_of_same : (cs ds : List (List Lit)) (lits : List Lit) → IsWithin ds cs → IsFixpoint cs lits → IsFixpoint ds lits
fixpoint_of_same cs ds lits within fixpoint = record {
  no_conflict = λ clause m. fixpoint.no_conflict clause (within clause m);
  no_unit = λ clause l m. fixpoint.no_unit clause l (within clause m);
}

-- no number is another one than itself
never_other : (n : ℕ) → not (n == n) ≡ true → ⊥
never_other n bad = grind (arith, nat_tests)

-- the other literals are other ones
other_differs : (l m : Lit) (lits : List Lit) → Contains (others l lits) m → Contains lits m × (m ≢ l)
other_differs l m lits h =
    let r = contains_from_filter (λ (x : Lit). not (x.0 == l.0)) lits m h in
    (r.0, λ e. never_other l.0 (subst (λ (x : Lit). not (x.0 == l.0) ≡ true) e r.1))

-- a clause with one unassigned literal, the others being false, is new at a fixpoint
pub new_where_unit : (clauses : List (List Lit)) (lits clause : List Lit) (l : Lit) → IsFixpoint clauses lits → Contains clause l → IsUnassigned lits l → OthersFalse lits clause l → IsNew clauses clause
new_where_unit clauses lits clause l fixpoint has free wrong =
    new_from_fixpoint clauses lits clause l fixpoint has free.0
    (λ m h. let r = other_differs l m clause h in elim (wrong m r.0) [ inl same ↦ absurd (r.1 same) | inr false_m ↦ false_m ])

-- a clause that is false and not empty is new at a fixpoint on which no literal and its negation are true
pub new_where_false : (clauses : List (List Lit)) (lits clause : List Lit) (l : Lit) → IsFixpoint clauses lits → Contains clause l → (Contains lits l → ⊥) → AllFalse lits clause → IsNew clauses clause
new_where_false clauses lits clause l fixpoint has untrue wrong = new_from_fixpoint clauses lits clause l fixpoint has untrue (λ m h. wrong m (other_differs l m clause h).0)

-- ---- what follows

-- a clause that is a reason is one of the clauses
reason_listed : (clauses : List (List Lit)) (entries : List Assigned) (clause : List Lit) → Contains (reasons clauses entries) clause → Contains clauses clause
reason_listed clauses [] clause m = absurd (contains_nothing clause m)
reason_listed clauses (Decided d ∷ es) clause m = reason_listed clauses es clause m
reason_listed clauses (Forced l id ∷ es) clause m = by_reason (slice_get clauses id) refl m (reason_listed clauses es clause)
  where
    by_reason : (o : Option (List Lit)) → slice_get clauses id ≡ o → Contains (reasons clauses (Forced l id ∷ es)) clause → (Contains (reasons clauses es) clause → Contains clauses clause) → Contains clauses clause
    by_reason None e m rest = rest (rw e at m)
    by_reason (Some c) e m rest = elim (contains_cases c clause (reasons clauses es) (rw e at m)) [ inl same ↦ subst (λ x. Contains clauses x) (sym same) (contains_place clauses id c e) | inr k ↦ rest k ]

-- the clauses that are reasons are clauses of the search
pub reasons_within : (clauses : List (List Lit)) (entries : List Assigned) → IsWithin (reasons clauses entries) clauses
reasons_within clauses entries = λ clause m. reason_listed clauses entries clause m

-- what follows from a clause that is known and from reasons follows from what is known
pub follows_from_known : (clauses : List (List Lit)) (entries : List Assigned) (conflict start end : List Lit) → Contains clauses conflict → IsWithin start end → ReachesConflict (conflict ∷ reasons clauses entries) start → ReachesConflict clauses end
follows_from_known clauses entries conflict start end listed within =
    conflict_more (conflict ∷ reasons clauses entries) clauses start end
    (λ c m. elim (contains_cases conflict c (reasons clauses entries) m) [ inl same ↦ subst (λ x. Contains clauses x) (sym same) listed | inr k ↦ reasons_within clauses entries c k ]) within

-- the negations of literals in another order
pub negated_within : (lits more : List Lit) → IsWithin lits more → IsWithin (map negated lits) (map negated more)
negated_within lits more within = λ l m.
    let r = contains_from_map negated lits l m in
    subst (λ x. Contains (map negated more) x) (sym r.2) (contains_map negated more r.0 (within r.0 r.1))

-- ---- the same literals in another order

-- what is reached from some literals is reached from more
reaches_more : (clauses : List (List Lit)) (xs ys : List Lit) (l : Lit) → IsWithin xs ys → Reaches clauses xs l → Reaches clauses ys l
reaches_more clauses xs ys l within h =
    let r = chain_more ys (λ (c : List Lit) m. m) within h.chain in
    record { reached = r.0; chain = r.1; made = r.2 l h.made }

-- the other literals of fewer are among the others of more
others_within : (l : Lit) (lits more : List Lit) → IsWithin lits more → IsWithin (others l lits) (others l more)
others_within l lits more within = λ x m.
    let r = contains_from_filter (λ (y : Lit). not (y.0 == l.0)) lits x m in
    contains_filter (λ (y : Lit). not (y.0 == l.0)) more x (within x r.0) r.1

-- a lemma stays new in another order
pub new_in_order : (clauses : List (List Lit)) (lits more : List Lit) → IsWithin lits more → IsWithin more lits → IsNew clauses lits → IsNew clauses more
new_in_order clauses lits more there back new =
    let less = negated_within (others new.literal more) (others new.literal lits) (others_within new.literal more lits back) in
    record {
      literal = new.literal;
      listed = there new.literal new.listed;
      not_implied = λ h. new.not_implied (reaches_more clauses (map negated (others new.literal more)) (map negated (others new.literal lits)) new.literal less h);
      no_conflict = λ h. new.no_conflict (conflict_more clauses clauses (map negated (others new.literal more)) (map negated (others new.literal lits)) (λ c m. m) less h);
    }

-- nothing is within no literals
pub within_nothing : (lits : List Lit) → IsWithin lits [] → lits ≡ []
within_nothing [] within = refl
within_nothing (l ∷ lits) within = absurd (contains_nothing l (within l (contains_head l lits)))

-- a lemma with a literal is not empty
pub some_literal : (lits : List Lit) (l : Lit) → Contains lits l → lits ≢ []
some_literal lits l has = λ none. contains_nothing l (subst (λ x. Contains x l) none has)
