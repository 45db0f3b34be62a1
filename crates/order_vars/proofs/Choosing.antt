-- The choices of a read or join: the literals of the links that lead to it.
use Rattle.std.proofs.Common.{◌≡◌, ℕ, inl, inr, ◌⊎◌, List, [], ◌∷◌, ◌++◌, sym, subst}
use Rattle.std.specs.Prelude.{Contains}
use Rattle.std.proofs.lemmas.List.Elements.{Contains-append_left, Contains-append_right, Contains-append_cases}
use Rattle.dg_base.specs.declared.Lit.{Lit}
use Rattle.dg_base.proofs.Lists.{contains_head, contains_cases, contains_nothing}
use Rattle.cnf_problem.specs.Literals.{negated}
use Rattle.memory_models.specs.declared.StaticEvent.{StaticEvent}
use Rattle.order_vars.specs.Links.{Link, reading, beginning, rivalry, joining, to_of}
use Rattle.order_vars.specs.Growing.{IsInto, AreChoices, own_choices}
use Rattle.order_vars.proofs.Growth.{one_listed, into_left}

-- the literal of a link that leads to an event
own_into : (x : Link) (n : ℕ) (l : Lit) → to_of x ≡ n → Contains (own_choices x) l → IsInto (x ∷ []) n l
own_into (reading w r m) n l to h =
    elim (contains_cases m l [] h) [
      | inl e ↦ (w, inl (subst (λ z. Contains (reading w r m ∷ []) (reading w z l)) to (subst (λ z. Contains (reading w r m ∷ []) (reading w r z)) (sym e) (contains_head (reading w r m) []))))
      | inr none ↦ absurd (contains_nothing l none)
    ]
own_into (beginning i w m) n l to h = absurd (contains_nothing l h)
own_into (rivalry w v m back) n l to h = absurd (contains_nothing l h)
own_into (joining e j m) n l to h =
    elim (contains_cases m l [] h) [
      | inl same ↦ (e, inr (subst (λ z. Contains (joining e j m ∷ []) (joining e z l)) to (subst (λ z. Contains (joining e j m ∷ []) (joining e j z)) (sym same) (contains_head (joining e j m) []))))
      | inr none ↦ absurd (contains_nothing l none)
    ]

into_right : (links more : List Link) (n : ℕ) (l : Lit) → IsInto more n l → IsInto (links ++ more) n l
into_right links more n l (a, h) = (
  a,
  elim h [
    | inl r ↦ inl (Contains-append_right links more (reading a n l) r)
    | inr j ↦ inr (Contains-append_right links more (joining a n l) j)
  ],
)

-- a link that has this literal adds it
reading_own : (x : Link) (a n : ℕ) (l : Lit) → reading a n l ≡ x → Contains (own_choices x) l
reading_own x a n l e = subst (λ z. Contains (own_choices z) l) e (contains_head l [])

joining_own : (x : Link) (a n : ℕ) (l : Lit) → joining a n l ≡ x → Contains (own_choices x) l
joining_own x a n l e = subst (λ z. Contains (own_choices z) l) e (contains_head l [])

into_cases : (links : List Link) (x : Link) (n : ℕ) (l : Lit) → IsInto (links ++ x ∷ []) n l → IsInto links n l ⊎ Contains (own_choices x) l
into_cases links x n l (a, h) =
    elim h [
      | inl r ↦ elim (Contains-append_cases links (x ∷ []) (reading a n l) r) [
        | inl old ↦ inl (a, inl old)
        | inr new ↦ inr (reading_own x a n l (one_listed x (reading a n l) new))
      ]
      | inr j ↦ elim (Contains-append_cases links (x ∷ []) (joining a n l) j) [
        | inl old ↦ inl (a, inr old)
        | inr new ↦ inr (joining_own x a n l (one_listed x (joining a n l) new))
      ]
    ]

-- before the first link into an event
pub no_choices : (es : List StaticEvent) (links : List Link) (n : ℕ) (guard : Lit) → ((l : Lit) → ¬ IsInto links n l) → AreChoices es links n guard (negated guard ∷ [])
no_choices es links n guard none = record {
  sound = λ l h. elim (contains_cases (negated guard) l [] h) [ inl e ↦ inl e | inr behind ↦ absurd (contains_nothing l behind) ];
  denied = contains_head (negated guard) [];
  complete = λ l into. absurd (none l into);
}

-- one more link
pub choices_more : (es : List StaticEvent) (links : List Link) (x : Link) (n : ℕ) (guard : Lit) (choices : List Lit)
    → to_of x ≡ n → AreChoices es links n guard choices → AreChoices es (links ++ x ∷ []) n guard (choices ++ own_choices x)
choices_more es links x n guard choices to are = record {
  sound = λ l h. elim (Contains-append_cases choices (own_choices x) l h) [
    | inl old ↦ elim (are.sound l old) [ inl e ↦ inl e | inr into ↦ inr (into_left links (x ∷ []) n l into) ]
    | inr new ↦ inr (into_right links (x ∷ []) n l (own_into x n l to new))
  ];
  denied = Contains-append_left choices (own_choices x) (negated guard) are.denied;
  complete = λ l into. elim (into_cases links x n l into) [
    | inl old ↦ Contains-append_left choices (own_choices x) l (are.complete l old)
    | inr new ↦ Contains-append_right choices (own_choices x) l new
  ];
}
