-- What follows is true: a lemma holds in each consistent assignment in which the clauses that it follows from hold.
use Rattle.std.proofs.Common.{◌≡◌, ℕ, ◌⊎◌, inl, inr, Bool, true, false, not, List, [], ◌∷◌, ◌++◌, map, refl, ap, sym, ◌∙◌, subst}
use Rattle.std.specs.Prelude.{Contains}
use Rattle.std.proofs.Common.{append_assoc, append-nil}
use Rattle.std.proofs.lemmas.List.Elements.{Contains-append_left, Contains-append_right, Contains-append_cases, Contains-push_cases}
use Rattle.dg_base.proofs.Lists.{contains_head, contains_tail, contains_nothing, contains_cases, contains_from_map}
use Rattle.dg_base.specs.declared.Lit.{Lit}
use Rattle.cnf_problem.specs.declared.problem.Edge.{Edge}
use Rattle.cnf_problem.specs.declared.problem.Problem.{Problem}
use Rattle.cnf_problem.specs.declared.problem.Lemma.{Lemma}
use Rattle.cnf_problem.specs.declared.problem.LemmaKind.{LemmaKind}
use Rattle.cnf_problem.specs.declared.problem.LemmaKind.TheVariants.{Unit as ByUnit, Cycle as ByCycle}
use Rattle.cnf_problem.specs.Literals.{negated, value, IsSatisfied}
use Rattle.cnf_problem.specs.Edges.{HasEdge, fixed, own, derived, Path, last, then, EdgeIn, IsCyclic}
use Rattle.cnf_problem.specs.Problems.{IsConsistent, FollowsBy, Follows, FollowInTurn}
use Rattle.cnf_problem.specs.Laws.{IsWithin}
use Rattle.cnf_problem.proofs.LiteralLaws.{negated-negated, value-negated}
use Rattle.cnf_problem.proofs.ChainLaws.{conflict_more, conflict_sound}

-- a literal of the clause is true, or all of them are false
pub some_true_or_all_false : (a : List Bool) (lits : List Lit) → IsSatisfied a lits ⊎ ((l : Lit) → Contains lits l → value a l ≡ false)
some_true_or_all_false a [] = inr (λ l h. absurd (contains_nothing l h))
some_true_or_all_false a (x ∷ xs) = by_value (value a x) refl (some_true_or_all_false a xs)
  where
    by_value : (b : Bool) → value a x ≡ b → IsSatisfied a xs ⊎ ((l : Lit) → Contains xs l → value a l ≡ false) → IsSatisfied a (x ∷ xs) ⊎ ((l : Lit) → Contains (x ∷ xs) l → value a l ≡ false)
    by_value true e r = inl (x, contains_head x xs, e)
    by_value false e (inl (l, h, t)) = inl (l, contains_tail x l xs h, t)
    by_value false e (inr f) = inr (λ l h. elim (contains_cases x l xs h) [ inl same ↦ subst (λ z. value a z ≡ false) (sym same) e | inr m ↦ f l m ])

-- more literals that hold bring at least as many edges
pub edge_more : (p : Problem) (P Q : Lit → Type 0) (e : Edge) → ((l : Lit) → P l → Q l) → HasEdge p P e → HasEdge p Q e
edge_more p P Q e w (fixed h) = fixed h
edge_more p P Q e w (own a listed holds member) = own a listed (w a.lit holds) member
edge_more p P Q e w (derived a b la ha lb hb member) = derived a b la (w a.lit ha) lb (w b.lit hb) member

-- along more edges there are at least as many paths
pub path_more : (E F : ℕ → ℕ → Type 0) {x y : ℕ} → ((x y : ℕ) → E x y → F x y) → Path E x y → Path F x y
path_more E F w (last {x = x} {y = y} e) = last (w x y e)
path_more E F w (then {x = x} {y = y} e rest) = then (w x y e) (path_more E F w rest)

-- and at least as many cycles
pub cyclic_more : (p : Problem) (P Q : Lit → Type 0) → ((l : Lit) → P l → Q l) → IsCyclic p P → IsCyclic p Q
cyclic_more p P Q w (graph, (n, way)) =
    (graph, (n, path_more (EdgeIn p P graph) (EdgeIn p Q graph) (λ x y. edge_more p P Q (record { graph = graph; from = x; to = y }) w) way))

-- a lemma follows from more clauses too
pub follows_more : (p : Problem) (cs ds : List (List Lit)) (lemma : Lemma) → IsWithin cs ds → Follows p cs lemma → Follows p ds lemma
follows_more p cs ds lemma w h = record { variables = h.variables; cause = by_kind lemma.kind lemma.lits h.cause }
  where
    by_kind : (kind : LemmaKind) (lits : List Lit) → FollowsBy kind p cs lits → FollowsBy kind p ds lits
    by_kind ByUnit lits c = conflict_more (p.clauses ++ cs) (p.clauses ++ ds) (map negated lits) (map negated lits) (λ x h. elim (Contains-append_cases p.clauses cs x h) [ inl m ↦ Contains-append_left p.clauses ds x m | inr m ↦ Contains-append_right p.clauses ds x (w x m) ]) (λ x h. h) c
    by_kind ByCycle lits c = c

-- a lemma that follows is true in each consistent assignment in which the clauses are true
pub follows_sound : (p : Problem) (cs : List (List Lit)) (a : List Bool) (lemma : Lemma) → IsConsistent p a → ((clause : List Lit) → Contains cs clause → IsSatisfied a clause) → Follows p cs lemma → IsSatisfied a lemma.lits
follows_sound p cs a lemma ok sat h =
    elim (some_true_or_all_false a lemma.lits) [
      | inl t ↦ t
      | inr f ↦ absurd (by_kind lemma.kind lemma.lits f h.cause)
    ]
  where
    negation_true : (l : Lit) → value a l ≡ false → value a (negated l) ≡ true
    negation_true l e = let n = value-negated a l in n ∙ ap not e

    by_kind : (kind : LemmaKind) (lits : List Lit) → ((l : Lit) → Contains lits l → value a l ≡ false) → FollowsBy kind p cs lits → ⊥
    by_kind ByUnit lits f c =
        conflict_sound (p.clauses ++ cs) (map negated lits) a
        (λ clause h. elim (Contains-append_cases p.clauses cs clause h) [ inl m ↦ ok.clauses clause m | inr m ↦ sat clause m ])
        (λ x h. let r = contains_from_map negated lits x h in subst (λ z. value a z ≡ true) (sym r.2) (negation_true r.0 (f r.0 r.1)))
        c
    by_kind ByCycle lits f c =
        ok.acyclic (cyclic_more p (λ l. Contains lits (negated l)) (λ l. value a l ≡ true)
        (λ l h. subst (λ z. value a z ≡ true) (negated-negated l) (negation_true (negated l) (f (negated l) h))) c)

-- all lemmas of a list that follow in turn are true in each such assignment
pub in_turn_sound : (p : Problem) (cs : List (List Lit)) (a : List Bool) (lemmas : List Lemma) → IsConsistent p a → ((clause : List Lit) → Contains cs clause → IsSatisfied a clause) → FollowInTurn p cs lemmas → (lemma : Lemma) → Contains lemmas lemma → IsSatisfied a lemma.lits
in_turn_sound p cs a [] ok sat h lemma m = absurd (contains_nothing lemma m)
in_turn_sound p cs a (x ∷ xs) ok sat (first, rest) lemma m =
    let here = follows_sound p cs a x ok sat first in
    elim (contains_cases x lemma xs m) [
      | inl e ↦ subst (λ (z : Lemma). IsSatisfied a z.lits) (sym e) here
      | inr k ↦ in_turn_sound p (cs ++ x.lits ∷ []) a xs ok (λ clause c. elim (Contains-push_cases cs x.lits clause c) [ inl old ↦ sat clause old | inr same ↦ subst (λ z. IsSatisfied a z) same here ]) rest lemma k
    ]

-- a list that follows in turn and has the empty clause shows that no assignment is consistent
pub refuted : (p : Problem) (lemmas : List Lemma) → FollowInTurn p [] lemmas → (lemma : Lemma) → Contains lemmas lemma → lemma.lits ≡ [] → (a : List Bool) → IsConsistent p a → ⊥
refuted p lemmas h lemma m e a ok =
    let s = in_turn_sound p [] a lemmas ok (λ clause c. absurd (contains_nothing clause c)) h lemma m in
    contains_nothing s.0 (subst (λ lits. Contains lits s.0) e s.1)

-- a list that follows in turn, and then one more
pub in_turn_push : (p : Problem) (cs : List (List Lit)) (lemmas : List Lemma) (lemma : Lemma) → FollowInTurn p cs lemmas → Follows p (cs ++ map (λ (x : Lemma). x.lits) lemmas) lemma → FollowInTurn p cs (lemmas ++ lemma ∷ [])
in_turn_push p cs [] lemma h f = (rw append-nil at f, tt)
in_turn_push p cs (x ∷ xs) lemma (first, rest) f = (first, in_turn_push p (cs ++ x.lits ∷ []) xs lemma rest (rw append_assoc f))
