-- The atoms of each literal, as chains from the last one back.
use Rattle.std.proofs.Common.{◌≡◌, ◌≢◌, ℕ, zero, suc, ◌+◌, ◌*◌, ◌<◌, ◌≤◌, ◌⊎◌, ◌↔◌, inl, inr, Some, List, [], ◌∷◌, ◌++◌, length, replicate, set, get_or, ap, sym, ◌∙◌, subst, arith}
use Rattle.std.specs.Prelude.{All, Contains, slice_get}
use Rattle.std.proofs.lemmas.Bool.{cases_eq, cases_lt}
use Rattle.std.proofs.lemmas.List.Elements.{All-contains, Contains-append_left, Contains-append_right, Contains-push_cases}
use Rattle.std.proofs.lemmas.Option.{slice_get-get_or, slice_get_within}
use Rattle.std.proofs.lemmas.List.{length_push}
use Rattle.dg_base.specs.declared.Lit.{Lit}
use Rattle.dg_base.proofs.Lists.{contains_head, contains_place, get_nothing, get_push_cases, get_set_cases, get_there, one_answer, place_of}
use Rattle.cnf_problem.specs.Bounds.{IsAtomOver}
use Rattle.cnf_problem.specs.Literals.{IsOver, negated}
use Rattle.cnf_problem.specs.declared.problem.Atom.{Atom}
use Rattle.cnf_problem.specs.declared.problem.Problem.{Problem}
use Rattle.cnf_problem.proofs.LiteralLaws.{negated-negated, same_lit}
use Rattle.log_checker.specs.Graphs.{AreDenied, AreFound, AtomsView, IsLastAtom}

-- the heads of all chains, over the first so many atoms
abbrev pub AreHeads : List Atom → List ℕ → ℕ → Type 0
AreHeads atoms last n = (code q : ℕ) → slice_get last code ≡ Some q → IsLastAtom atoms code n q

abbrev pub AreLinks : List Atom → List ℕ → Type 0
AreLinks atoms earlier = (k q : ℕ) (a : Atom) → slice_get atoms k ≡ Some a → slice_get earlier k ≡ Some q → IsLastAtom atoms a.lit.0 k q

-- ---- how they are made

pub no_heads : (atoms : List Atom) (last : List ℕ) → ((code q : ℕ) → slice_get last code ≡ Some q → q ≡ 0) → AreHeads atoms last 0
no_heads atoms last zeros code q e =
    let z = zeros code q e in
    record { within = omega arith; there = λ r a s. absurd (omega (arith, s)); none = λ k a low high. absurd (omega arith) }

-- one more atom is the last one of its literal
pub heads_more : (atoms : List Atom) (last : List ℕ) (i : ℕ) (a : Atom) → slice_get atoms i ≡ Some a → AreHeads atoms last i → AreHeads atoms (set last a.lit.0 (i + 1)) (i + 1)
heads_more atoms last i a at heads code q e =
    elim (get_set_cases last a.lit.0 code (i + 1) q e) [
      | inl own ↦ mine own.0 own.1
      | inr other ↦ old other.0 (heads code q other.1)
    ]
  where
    mine : code ≡ a.lit.0 → q ≡ i + 1 → IsLastAtom atoms code (i + 1) q
    mine same is = record {
      within = omega arith;
      there = λ r b s g.
          let here : r ≡ i = omega arith in
          let both = one_answer (slice_get atoms i) a b at (subst (λ z. slice_get atoms z ≡ Some b) here g) in
          sym (ap (λ (z : Atom). z.lit.0) both) ∙ sym same;
      none = λ k b low high. absurd (omega arith);
    }

    old : code ≢ a.lit.0 → IsLastAtom atoms code i q → IsLastAtom atoms code (i + 1) q
    old ne was = record {
      within = let w = was.within in omega arith;
      there = was.there;
      none = λ k b low high g is.
          elim (cases_eq k i) [
            | inl same ↦ ne (sym is ∙ sym (ap (λ (z : Atom). z.lit.0) (one_answer (slice_get atoms i) a b at (subst (λ z. slice_get atoms z ≡ Some b) same g))))
            | inr other ↦ was.none k b low (omega arith) g is
          ];
    }

-- and is linked to the one before it
pub links_more : (atoms : List Atom) (last earlier : List ℕ) (i p : ℕ) (a : Atom) → slice_get atoms i ≡ Some a → length earlier ≡ i → slice_get last a.lit.0 ≡ Some p → AreHeads atoms last i → AreLinks atoms earlier
    → AreLinks atoms (earlier ++ p ∷ [])
links_more atoms last earlier i p a at long head heads links k q b g e =
    elim (get_push_cases earlier p k q e) [
      | inl old ↦ links k q b g old
      | inr new ↦
          let here : k ≡ i = new.0 ∙ long in
          let both : a ≡ b = one_answer (slice_get atoms i) a b at (subst (λ z. slice_get atoms z ≡ Some b) here g) in
          subst (λ (z : Atom). IsLastAtom atoms z.lit.0 k q) both (subst (λ z. IsLastAtom atoms a.lit.0 z q) (sym here) (subst (λ z. IsLastAtom atoms a.lit.0 i z) (sym new.1) (heads a.lit.0 p head)))
    ]

-- ---- how they are walked

-- an atom of this literal stands at the place
abbrev pub IsAtomOf : List Atom → Lit → ℕ → Type 0
IsAtomOf atoms lit k = (a : Atom) × (slice_get atoms k ≡ Some a) × (a.lit ≡ lit)

-- on the way back from the last atom of a literal: those from n on were put
pub record IsWalked (atoms : List Atom) (lit : Lit) (old now : List ℕ) (next : ℕ) : Type 0 where
  pub n : ℕ
  pub within : n ≤ length atoms
  pub last : IsLastAtom atoms lit.0 n next
  pub to : (k : ℕ) → Contains now k → Contains old k ⊎ IsAtomOf atoms lit k
  pub kept : (k : ℕ) → Contains old k → Contains now k
  pub put : (k : ℕ) → n ≤ k → IsAtomOf atoms lit k → Contains now k

pub walk_begins : (p : Problem) (v : AtomsView) (lit : Lit) (old : List ℕ) (next : ℕ) → AreFound p v → slice_get v.last lit.0 ≡ Some next → IsWalked p.atoms lit old old next
walk_begins p v lit old next found e = record {
  n = length p.atoms;
  within = omega arith;
  last = found.heads lit.0 next e;
  to = λ k c. inl c;
  kept = λ k c. c;
  put = λ k far a. absurd (let w = slice_get_within p.atoms k a.0 a.1 in omega arith);
}

pub walk_goes_on : (p : Problem) (v : AtomsView) (lit : Lit) (old now : List ℕ) (next q more : ℕ) → AreFound p v → IsWalked p.atoms lit old now next → next ≡ suc q → slice_get v.earlier q ≡ Some more
    → IsWalked p.atoms lit old (now ++ q ∷ []) more
walk_goes_on p v lit old now next q more found w is link =
    let inside = w.last.within in
    let far = w.within in
    let a = get_there p.atoms q (omega arith) in
    let mine : a.0.lit.0 ≡ lit.0 = w.last.there q a.0 is a.1 in
    let same : a.0.lit ≡ lit = same_lit a.0.lit lit mine in
    record {
      n = q;
      within = omega arith;
      last = subst (λ z. IsLastAtom p.atoms z q more) mine (found.links q more a.0 a.1 link);
      to = λ k c. elim (Contains-push_cases now q k c) [
        | inl before ↦ w.to k before
        | inr here ↦ inr (a.0, subst (λ z. slice_get p.atoms z ≡ Some a.0) here a.1, same)
      ];
      kept = λ k c. Contains-append_left now (q ∷ []) k (w.kept k c);
      put = λ k from b. elim (cases_eq k q) [
        | inl here ↦ subst (λ z. Contains (now ++ q ∷ []) z) (sym here) (Contains-append_right now (q ∷ []) q (contains_head q []))
        | inr other ↦ Contains-append_left now (q ∷ []) k (elim (cases_lt k w.n) [
          | inl near ↦ absurd (w.last.none k b.0 (omega arith) near b.1 (ap (λ (z : Lit). z.0) b.2))
          | inr beyond ↦ w.put k beyond b
        ])
      ];
    }

pub walk_ends : (atoms : List Atom) (lit : Lit) (old now : List ℕ) (next : ℕ) → IsWalked atoms lit old now next → next ≡ 0 → (k : ℕ) → Contains now k ↔ (Contains old k ⊎ IsAtomOf atoms lit k)
walk_ends atoms lit old now next w z k = (
  w.to k,
  (λ c.
      elim c [
        | inl o ↦ w.kept k o
        | inr a ↦ elim (cases_lt k w.n) [
          | inl near ↦ absurd (w.last.none k a.0 (omega arith) near a.1 (ap (λ (y : Lit). y.0) a.2))
          | inr beyond ↦ w.put k beyond a
        ]
      ]),
)

-- ---- the atoms that a lemma denies

-- the places are those of the atoms whose negations are among these literals
pub denied_nothing : (p : Problem) → AreDenied p [] []
denied_nothing p = record {
  within = λ k c. absurd (get_nothing (place_of [] k c).0 k (place_of [] k c).1);
  each = λ k a e. ((λ c. absurd (get_nothing (place_of [] k c).0 k (place_of [] k c).1)), (λ c. absurd (get_nothing (place_of [] (negated a.lit) c).0 (negated a.lit) (place_of [] (negated a.lit) c).1)));
}

pub denied_more : (p : Problem) (front : List Lit) (lit : Lit) (old now : List ℕ) → AreDenied p front old → ((k : ℕ) → Contains now k ↔ (Contains old k ⊎ IsAtomOf p.atoms (negated lit) k)) → AreDenied p (front ++ lit ∷ []) now
denied_more p front lit old now was put = record {
  within = λ k c. elim ((put k).0 c) [
    | inl o ↦ was.within k o
    | inr a ↦ slice_get_within p.atoms k a.0 a.1
  ];
  each = λ k a e. (
    (λ c. elim ((put k).0 c) [
      | inl o ↦ Contains-append_left front (lit ∷ []) (negated a.lit) ((was.each k a e).0 o)
      | inr b ↦
          let same : a.lit ≡ negated lit = ap (λ (z : Atom). z.lit) (one_answer (slice_get p.atoms k) a b.0 e b.1) ∙ b.2 in
          Contains-append_right front (lit ∷ []) (negated a.lit) (subst (λ z. Contains (lit ∷ []) z) (sym (ap negated same ∙ negated-negated lit)) (contains_head lit []))
    ]),
    (λ c. elim (Contains-push_cases front lit (negated a.lit) c) [
      | inl o ↦ (put k).1 (inl ((was.each k a e).1 o))
      | inr last ↦ (put k).1 (inr (a, e, sym (negated-negated a.lit) ∙ ap negated (sym last)))
    ]),
  );
}

pub zeros_only : (n code q : ℕ) → slice_get (replicate n 0) code ≡ Some q → q ≡ 0
zeros_only zero code q e = absurd (get_nothing code q e)
zeros_only (suc n) zero q e = cc
zeros_only (suc n) (suc code) q e = zeros_only n code q e

-- a literal of an atom has a place among the heads
pub code_fits : (p : Problem) (k : ℕ) (a : Atom) → slice_get p.atoms k ≡ Some a → a.lit.0 < 2 * p.vars + 2
code_fits p k a e =
    let over = (All-contains (IsAtomOver p.vars (length p.nodes)) p.atoms a p.graphs.each_atom (contains_place p.atoms k a e)).lit in
    let high = over.1 in
    omega arith

-- places that are denied are places of atoms
pub places_within : (p : Problem) (lits : List Lit) (places : List ℕ) → AreDenied p lits places → All (λ k. k < length p.atoms) places
places_within p lits places denied k d w = denied.within (get_or places k d) (contains_place places k (get_or places k d) (slice_get-get_or places k d w))

pub pushed_long : (x : ℕ) (old new : List ℕ) (n : ℕ) → new ≡ old ++ x ∷ [] → length old ≡ n → length new ≡ n + 1
pushed_long x old new n e h = ap length e ∙ (length_push old x ∙ ap (λ m. m + 1) h)

pub pushed_links : (x : ℕ) (atoms : List Atom) (last earlier new : List ℕ) (i : ℕ) (a : Atom) → slice_get atoms i ≡ Some a → length earlier ≡ i → AreHeads atoms last i → AreLinks atoms earlier → new ≡ earlier ++ x ∷ []
    → slice_get last a.lit.0 ≡ Some x → AreLinks atoms new
pushed_links x atoms last earlier new i a at long heads links e head = subst (λ z. AreLinks atoms z) (sym e) (links_more atoms last earlier i x a at long head heads links)

pub lit_fits : (vars : ℕ) (l : Lit) → IsOver vars l → l.0 < 2 * vars + 2
lit_fits vars l over = let high = over.1 in omega arith

-- each step of a walk leads to an earlier place
pub walk_falls : (p : Problem) (v : AtomsView) (q more : ℕ) → AreFound p v → q < length p.atoms → slice_get v.earlier q ≡ Some more → more ≤ q
walk_falls p v q more found w link = let a = get_there p.atoms q w in (found.links q more a.0 a.1 link).within
