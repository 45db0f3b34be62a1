-- Right hints and unit chains.
use Rattle.std.proofs.Common.{◌≡◌, ◌≢◌, inl, inr, ℕ, suc, zero, List, [], ◌∷◌, ◌++◌, map, Some, refl, sym, subst, ap, ◌∙◌}
use Rattle.std.specs.Prelude.{Contains}
use Rattle.std.proofs.lemmas.List.Elements.{Contains-append_left, Contains-append_right, Contains-append_cases}
use Rattle.dg_base.proofs.Lists.{contains_place, place_of}
use Rattle.dg_base.specs.declared.Lit.{Lit}
use Rattle.cnf_problem.specs.declared.problem.Problem.{Problem}
use Rattle.cnf_problem.specs.declared.problem.LemmaKind.{LemmaKind}
use Rattle.cnf_problem.specs.declared.problem.LemmaKind.TheVariants.{Unit as ByUnit, Cycle}
use Rattle.cnf_problem.specs.Literals.{negated}
use Rattle.cnf_problem.specs.Chains.{AllFalse, OthersFalse, ReachesConflict, UnitChain, done, step}
use Rattle.cnf_problem.specs.Laws.{IsWithin}
use Rattle.cnf_problem.specs.Problems.{FollowsBy}
use Rattle.cnf_problem.proofs.ChainLaws.{all_false_more, others_false_more, within_both, within_cons}
use Rattle.cnf_problem.proofs.LiteralLaws.{lit_eq_or_not}
use Rattle.cnf_problem.proofs.Members.{contains_or_not}
use Rattle.lemma_log.specs.declared.hints.Hint.{Hint}
use Rattle.lemma_log.specs.declared.hints.Hint.TheVariants.{Clause, Ticket}
use Rattle.log_checker.specs.Hints.{AreRight, Gives, GoesWrong, HintedBy, IsRightNext, named}
use Rattle.log_checker.specs.Hints.AreRight.{last, next}
use Rattle.log_checker.specs.Hints.GoesWrong.{none, at_last, at_next, later}
use Rattle.log_checker.specs.Laws.{FollowingHasHints, HintedFollows, OneWrongPosition, WrongIsNotRight}

-- a clause that a hint names is one of the problem's or of the entries'; and each of these has a hint
named_listed : (p : Problem) (before : List (List Lit)) (h : Hint) (clause : List Lit) → named p before h ≡ Some clause → Contains (p.clauses ++ before) clause
named_listed p before (Clause zero) clause e = cc
named_listed p before (Clause (suc n)) clause e = Contains-append_left p.clauses before clause (contains_place p.clauses n clause e)
named_listed p before (Ticket t) clause e = Contains-append_right p.clauses before clause (contains_place before t clause e)

listed_named : (p : Problem) (before : List (List Lit)) (clause : List Lit) → Contains (p.clauses ++ before) clause → (h : Hint) × (named p before h ≡ Some clause)
listed_named p before clause c =
    elim (Contains-append_cases p.clauses before clause c) [
      | inl d ↦ let k = place_of p.clauses clause d in (Clause (suc k.0), k.1)
      | inr d ↦ let k = place_of before clause d in (Ticket k.0, k.1)
    ]

-- right hints are a unit chain that makes a clause false
pub conflict_of : {p : Problem} {before : List (List Lit)} {set : List Lit} {hints : List Hint} → AreRight p before set hints → ReachesConflict (p.clauses ++ before) set
conflict_of {p = p} {before = before} {set = set} (last h clause is false) = record { reached = set; chain = done; clause = clause; listed = named_listed p before h clause is; conflict = false }
conflict_of {p = p} {before = before} (next h clause l is gives rest) =
    let r = conflict_of rest in
    record { reached = r.reached; chain = step clause l (named_listed p before h clause is) gives.has gives.others r.chain; clause = r.clause; listed = r.listed; conflict = r.conflict }

pub hinted_follows : HintedFollows
hinted_follows p before e hints h = record { variables = h.variables; cause = by_kind e.lemma.kind h.cause }
  where
    by_kind : (k : LemmaKind) → HintedBy k p before e.lemma.lits hints → FollowsBy k p before e.lemma.lits
    by_kind ByUnit c = conflict_of c
    by_kind Cycle c = c

-- a clause whose last literal is false too is false
all_false : (set clause : List Lit) (l : Lit) → OthersFalse set clause l → Contains set (negated l) → AllFalse set clause
all_false set clause l others c m d =
    elim (others m d) [ inl e ↦ subst (λ x. Contains set (negated x)) (sym e) c | inr f ↦ f ]

-- each unit chain that makes a clause false has right hints: steps that say nothing new are left out, and the first false clause ends it
hints_of : {p : Problem} {before : List (List Lit)} {xs ends : List Lit} (set clause : List Lit) → UnitChain (p.clauses ++ before) xs ends → IsWithin xs set → Contains (p.clauses ++ before) clause → AllFalse ends clause
    → (hints : List Hint) × AreRight p before set hints
hints_of {p = p} {before = before} {xs = xs} set clause done w listed false =
    let h = listed_named p before clause listed in
    (h.0 ∷ [], last h.0 clause h.1 (all_false_more xs set clause w false))
hints_of {p = p} {before = before} {xs = xs} set clause (step d l d_listed has others rest) w listed false =
    let here = others_false_more xs set d l w others in
    let h = listed_named p before d d_listed in
    elim (contains_or_not lit_eq_or_not set l) [
      | inl c ↦ hints_of set clause rest (within_both l xs set c w) listed false
      | inr n ↦ elim (contains_or_not lit_eq_or_not set (negated l)) [
        | inl c ↦ (h.0 ∷ [], last h.0 d h.1 (all_false set d l here c))
        | inr m ↦ let r = hints_of (l ∷ set) clause rest (within_cons l xs set w) listed false in
            (h.0 ∷ r.0, next h.0 d l h.1 (record { has = has; free = (n, m); others = here }) r.1)
      ]
    ]

pub following_has_hints : FollowingHasHints
following_has_hints p before lemma unit follows =
    let cause : ReachesConflict (p.clauses ++ before) (map negated lemma.lits) = subst (λ k. FollowsBy k p before lemma.lits) unit follows.cause in
    hints_of (map negated lemma.lits) cause.clause cause.chain (λ x c. c) cause.listed cause.conflict

right_nonempty : {p : Problem} {before : List (List Lit)} {set : List Lit} {hints : List Hint} → AreRight p before set hints → hints ≢ []
right_nonempty (last h clause is false) e = cc
right_nonempty (next h clause l is gives rest) e = cc

-- a clause makes one literal true at most
one_given : (set clause : List Lit) (l m : Lit) → Gives set clause l → Gives set clause m → l ≡ m
one_given set clause l m g h =
    elim (h.others l g.has) [ inl e ↦ e | inr f ↦ absurd (g.free.1 f) ]

same_next : (p : Problem) (before : List (List Lit)) (set : List Lit) (h : Hint) (l m : Lit) → IsRightNext p before set h l → IsRightNext p before set h m → l ≡ m
same_next p before set h l m a b =
    let both : Some a.clause ≡ Some b.clause = sym a.is ∙ b.is in
    let same : a.clause ≡ b.clause = cc in
    one_given set b.clause l m (subst (λ c. Gives set c l) same a.gives) b.gives

pub wrong_is_not_right : WrongIsNotRight
wrong_is_not_right p before set hints n none r = right_nonempty r refl
wrong_is_not_right p before set hints n (at_last h not) (last k clause is false) = not (record { clause = clause; is = is; false = false })
wrong_is_not_right p before set hints n (at_last h not) (next k clause l is gives rest) = right_nonempty rest refl
wrong_is_not_right p before set hints n (at_next h more some not) (last k clause is false) = some refl
wrong_is_not_right p before set hints n (at_next h more some not) (next k clause l is gives rest) = not l (record { clause = clause; is = is; gives = gives })
wrong_is_not_right p before set hints n (later h more l m some right wrong) (last k clause is false) = some refl
wrong_is_not_right p before set hints n (later h more l m some right wrong) (next k clause j is gives rest) =
    let same = same_next p before set h j l (record { clause = clause; is = is; gives = gives }) right in
    wrong_is_not_right p before (l ∷ set) more m wrong (subst (λ x. AreRight p before (x ∷ set) more) same rest)

nothing_wrong : {p : Problem} {before : List (List Lit)} {set : List Lit} (n : ℕ) → GoesWrong p before set [] n → n ≡ 0
nothing_wrong n none = refl

-- hints go wrong at one position
pub one_wrong_position : OneWrongPosition
one_wrong_position p before set hints n m none w = sym (nothing_wrong m w)
one_wrong_position p before set hints n m (at_last h not) (at_last k also) = refl
one_wrong_position p before set hints n m (at_last h not) (at_next k more some also) = refl
one_wrong_position p before set hints n m (at_last h not) (later k more l j some right wrong) = absurd (some refl)
one_wrong_position p before set hints n m (at_next h more some not) (at_last k also) = refl
one_wrong_position p before set hints n m (at_next h more some not) (at_next k others also neither) = refl
one_wrong_position p before set hints n m (at_next h more some not) (later k others l j also right wrong) = absurd (not l right)
one_wrong_position p before set hints n m (later h more l i some right wrong) (at_last k also) = absurd (some refl)
one_wrong_position p before set hints n m (later h more l i some right wrong) (at_next k others also not) = absurd (not l right)
one_wrong_position p before set hints n m (later h more l i some right wrong) (later k others j o also righter worse) =
    let same = same_next p before set h j l righter right in
    ap suc (one_wrong_position p before (l ∷ set) more i o wrong (subst (λ x. GoesWrong p before (x ∷ set) more o) same worse))
