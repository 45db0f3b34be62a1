-- Marks of variables.
use Rattle.std.proofs.Common.{◌≡◌, ◌≢◌, inl, inr, ℕ, ◌<◌, Bool, true, false, List, [], ◌∷◌, ◌++◌, length, set, refl, sym, subst, ◌∙◌, get_or-set_same, get_or-set_other}
use Rattle.std.specs.Prelude.{Contains}
use Rattle.std.proofs.lemmas.List.{length-set}
use Rattle.std.proofs.lemmas.List.Elements.{Contains-append_left, Contains-append_right}
use Rattle.std.proofs.lemmas.Bool.{cases_eq}
use Rattle.dg_base.proofs.Lists.{contains_head, contains_nothing}
use Rattle.dg_base.specs.declared.Lit.{Lit}
use Rattle.cnf_problem.specs.Literals.{var}
use Rattle.hint_maker.specs.Walking.{AddsMarks, is_marked}
use Rattle.hint_maker.proofs.Fronts.{push_cases}

pub marked_same : (marks : List Bool) (v : ℕ) (b : Bool) → v < length marks → is_marked (set marks v b) v ≡ b
marked_same marks v b w = get_or-set_same marks v b false w

pub marked_other : (marks : List Bool) (v w : ℕ) (b : Bool) → w ≢ v → is_marked (set marks v b) w ≡ is_marked marks w
marked_other marks v w b apart = get_or-set_other marks v w b false apart

-- nothing was marked for no literals
pub adds_none : (lits : List Lit) (marks : List Bool) → AddsMarks lits [] marks marks
adds_none lits marks = record {
  sized = refl;
  kept = λ v m. m;
  each = λ m c. absurd (contains_nothing m c);
  only = λ v m. inl m;
}

-- one more literal of the clause, which is one of the lemma's or is not
pub adds_listed : (lits clause : List Lit) (old new : List Bool) (l : Lit) → Contains lits l → AddsMarks lits clause old new → AddsMarks lits (clause ++ l ∷ []) old new
adds_listed lits clause old new l listed a = record {
  sized = a.sized;
  kept = a.kept;
  each = λ m c not. elim (push_cases clause l m c) [ inl d ↦ a.each m d not | inr e ↦ absurd (not (subst (λ x. Contains lits x) (sym e) listed)) ];
  only = λ v m. elim (a.only v m) [ inl old ↦ inl old | inr w ↦ inr (w.0, Contains-append_left clause (l ∷ []) w.0 w.1, w.2, w.3) ];
}

pub adds_marked : (lits clause : List Lit) (old new : List Bool) (l : Lit) → ¬ Contains lits l → var l < length new → AddsMarks lits clause old new → AddsMarks lits (clause ++ l ∷ []) old (set new (var l) true)
adds_marked lits clause old new l other room a = record {
  sized = length-set new (var l) true ∙ a.sized;
  kept = λ v m. up v (a.kept v m);
  each = λ m c not. elim (push_cases clause l m c) [
    | inl d ↦ up (var m) (a.each m d not)
    | inr e ↦ subst (λ x. is_marked (set new (var l) true) (var x) ≡ true) (sym e) (marked_same new (var l) true room)
  ];
  only = λ v m. elim (cases_eq v (var l)) [
    | inl e ↦ inr (l, Contains-append_right clause (l ∷ []) l (contains_head l []), other, sym e)
    | inr n ↦ elim (a.only v (sym (marked_other new (var l) v true n) ∙ m)) [ inl old ↦ inl old | inr w ↦ inr (w.0, Contains-append_left clause (l ∷ []) w.0 w.1, w.2, w.3) ]
  ];
}
  where
    up : (v : ℕ) → is_marked new v ≡ true → is_marked (set new (var l) true) v ≡ true
    up v m = elim (cases_eq v (var l)) [
      | inl e ↦ subst (λ w. is_marked (set new (var l) true) w ≡ true) (sym e) (marked_same new (var l) true room)
      | inr n ↦ marked_other new (var l) v true n ∙ m
    ]

-- a mark that is taken back
pub still_marked : (marks : List Bool) (v w : ℕ) → v < length marks → is_marked (set marks v false) w ≡ true → (w ≢ v) × (is_marked marks w ≡ true)
still_marked marks v w room m =
    elim (cases_eq w v) [
      | inl e ↦ let f : is_marked (set marks v false) w ≡ false = subst (λ x. is_marked (set marks v false) x ≡ false) (sym e) (marked_same marks v false room) in let no : false ≡ true = sym f ∙ m in absurd (cc)
      | inr n ↦ (n, sym (marked_other marks v w false n) ∙ m)
    ]

pub not_marked : (marks : List Bool) (v : ℕ) → ¬ (is_marked marks v ≡ true) → is_marked marks v ≡ false
not_marked marks v not = by (is_marked marks v) refl
  where
    by : (b : Bool) → is_marked marks v ≡ b → is_marked marks v ≡ false
    by true e = absurd (not e)
    by false e = e
