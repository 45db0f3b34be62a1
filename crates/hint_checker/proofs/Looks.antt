-- What a look finds with one more literal, and at a hint.
use Rattle.std.proofs.Common.{◌≡◌, ◌≢◌, ◌⊎◌, inl, inr, ℕ, suc, zero, ◌-◌, List, [], ◌∷◌, ◌++◌, Some, None, refl, sym, subst, ap, ◌∙◌}
use Rattle.std.specs.Prelude.{Contains, slice_get}
use Rattle.std.proofs.Math.Numerals.{sub-one}
use Rattle.std.proofs.lemmas.List.Elements.{Contains-append_left, Contains-append_right, Contains-append_cases}
use Rattle.dg_base.proofs.Lists.{contains_cases, contains_head, contains_nothing, not_none, one_answer}
use Rattle.dg_base.specs.declared.Lit.{Lit}
use Rattle.cnf_problem.specs.declared.problem.Problem.{Problem}
use Rattle.cnf_problem.specs.Literals.{negated}
use Rattle.cnf_problem.specs.Chains.{AllFalse, IsUnassigned, OthersFalse}
use Rattle.cnf_problem.proofs.LiteralLaws.{lit_eq_or_not}
use Rattle.cnf_problem.proofs.Members.{contains_or_not}
use Rattle.lemma_log.specs.declared.hints.Hint.{Hint}
use Rattle.lemma_log.specs.declared.hints.Hint.TheVariants.{Clause}
use Rattle.log_checker.specs.Hints.{Gives, named}
use Rattle.hint_checker.specs.Findings.{IsFinding, IsFindingAt}
use Rattle.hint_checker.specs.declared.look.Finding.{Finding}
use Rattle.hint_checker.specs.declared.look.Finding.TheVariants.{False, Gives as Giving, Neither}

-- a literal of a clause with one more is one of the clause's or that one
pub push_cases : (clause : List Lit) (l m : Lit) → Contains (clause ++ l ∷ []) m → Contains clause m ⊎ (m ≡ l)
push_cases clause l m c =
    elim (Contains-append_cases clause (l ∷ []) m c) [
      | inl d ↦ inl d
      | inr d ↦ elim (contains_cases l m [] d) [ inl e ↦ inr e | inr n ↦ absurd (contains_nothing m n) ]
    ]

last_of : (clause : List Lit) (l : Lit) → Contains (clause ++ l ∷ []) l
last_of clause l = Contains-append_right clause (l ∷ []) l (contains_head l [])

-- no literal at all is false
pub nothing_found : (set : List Lit) → IsFinding set [] False
nothing_found set m c = absurd (contains_nothing m c)

-- a clause with one more that is false
false_more : (set clause : List Lit) (l : Lit) → Contains set (negated l) → AllFalse set clause → AllFalse set (clause ++ l ∷ [])
false_more set clause l f all m c =
    elim (push_cases clause l m c) [ inl d ↦ all m d | inr e ↦ subst (λ x. Contains set (negated x)) (sym e) f ]

gives_more : (set clause : List Lit) (l m : Lit) → Contains set (negated l) → Gives set clause m → Gives set (clause ++ l ∷ []) m
gives_more set clause l m f gives = record {
  has = Contains-append_left clause (l ∷ []) m gives.has;
  free = gives.free;
  others = λ x c. elim (push_cases clause l x c) [ inl d ↦ gives.others x d | inr e ↦ inr (subst (λ y. Contains set (negated y)) (sym e) f) ];
}

-- a clause that gives nothing gives nothing with one more
pub neither_more : (set clause : List Lit) (l : Lit) → IsFinding set clause Neither → IsFinding set (clause ++ l ∷ []) Neither
neither_more set clause l neither = ((λ all. neither.0 (λ m c. all m (Contains-append_left clause (l ∷ []) m c))), gives_none)
  where
    gives_none : (m : Lit) → Gives set (clause ++ l ∷ []) m → ⊥
    gives_none m gives =
        let front : OthersFalse set clause m = λ x c. gives.others x (Contains-append_left clause (l ∷ []) x c) in
        elim (contains_or_not lit_eq_or_not clause m) [
          | inl c ↦ neither.1 m (record { has = c; free = gives.free; others = front })
          | inr n ↦ neither.0 (λ x c. elim (front x c) [ inl e ↦ absurd (n (subst (λ y. Contains clause y) e c)) | inr f ↦ f ])
        ]

pub with_false : (set clause : List Lit) (l : Lit) (f : Finding) → Contains set (negated l) → IsFinding set clause f → IsFinding set (clause ++ l ∷ []) f
with_false set clause l False n found = false_more set clause l n found
with_false set clause l (Giving m) n found = gives_more set clause l m n found
with_false set clause l Neither n found = neither_more set clause l found

-- a true literal is neither false nor unassigned
pub with_true : (set clause : List Lit) (l : Lit) → Contains set l → ¬ Contains set (negated l) → IsFinding set (clause ++ l ∷ []) Neither
with_true set clause l c not =
    let here = last_of clause l in
    ((λ all. not (all l here)), (λ m gives. elim (gives.others l here) [ inl e ↦ gives.free.0 (subst (λ x. Contains set x) e c) | inr f ↦ not f ]))

pub first_unassigned : (set clause : List Lit) (l : Lit) → IsUnassigned set l → AllFalse set clause → Gives set (clause ++ l ∷ []) l
first_unassigned set clause l free all = record {
  has = last_of clause l;
  free = free;
  others = λ m c. elim (push_cases clause l m c) [ inl d ↦ inr (all m d) | inr e ↦ inl e ];
}

pub same_unassigned : (set clause : List Lit) (l m : Lit) → m ≡ l → Gives set clause m → Gives set (clause ++ l ∷ []) m
same_unassigned set clause l m same gives = record {
  has = Contains-append_left clause (l ∷ []) m gives.has;
  free = gives.free;
  others = λ x c. elim (push_cases clause l x c) [ inl d ↦ gives.others x d | inr e ↦ inl (e ∙ sym same) ];
}

pub second_unassigned : (set clause : List Lit) (l m : Lit) → m ≢ l → IsUnassigned set l → Gives set clause m → IsFinding set (clause ++ l ∷ []) Neither
second_unassigned set clause l m apart free gives =
    let here = last_of clause l in
    let there = Contains-append_left clause (l ∷ []) m gives.has in (
      (λ all. free.1 (all l here)),
      (λ x g. elim (g.others l here) [
        | inl e ↦ elim (g.others m there) [ inl d ↦ apart (d ∙ sym e) | inr f ↦ gives.free.1 f ]
        | inr f ↦ free.1 f
      ]),
    )

-- a hint of a problem's clause, which counts from 1
pub named_clause : (p : Problem) (before : List (List Lit)) (n : ℕ) → n ≢ 0 → named p before (Clause n) ≡ slice_get p.clauses (n - 1)
named_clause p before zero not = absurd (not refl)
named_clause p before (suc n) not = ap (λ k. slice_get p.clauses k) (sym (sub-one (suc n)))

-- what is found of the clause is found at the hint that names it
pub found_at : (p : Problem) (before : List (List Lit)) (set clause : List Lit) (h : Hint) (f : Finding) → named p before h ≡ Some clause → IsFinding set clause f → IsFindingAt p before set h f
found_at p before set clause h False is found = record { clause = clause; is = is; false = found }
found_at p before set clause h (Giving l) is found = record { clause = clause; is = is; gives = found }
found_at p before set clause h Neither is found = (
  (λ r. found.0 (subst (λ c. AllFalse set c) (one_answer (named p before h) r.clause clause r.is is) r.false)),
  (λ l r. found.1 l (subst (λ c. Gives set c l) (one_answer (named p before h) r.clause clause r.is is) r.gives)),
)

-- a hint that names no clause is right nowhere
pub not_named : (p : Problem) (before : List (List Lit)) (set : List Lit) (h : Hint) → named p before h ≡ None → IsFindingAt p before set h Neither
not_named p before set h none = ((λ r. not_none (named p before h) r.clause none r.is), (λ l r. not_none (named p before h) r.clause none r.is))
