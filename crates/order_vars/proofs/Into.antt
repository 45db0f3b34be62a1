-- The links into one event, one after another.
use Rattle.std.proofs.Common.{◌≡◌, ℕ, ◌+◌, ◌≤◌, inl, inr, ◌⊎◌, List, [], ◌∷◌, ◌++◌, length, ap, sym, ◌∙◌, subst, arith}
use Rattle.std.specs.Prelude.{All}
use Rattle.std.proofs.lemmas.List.Elements.{All-weaker, All-append, All-from_recursion}
use Rattle.dg_base.specs.declared.Lit.{Lit}
use Rattle.axiom_model.specs.declared.MemoryModel.{MemoryModel}
use Rattle.cnf_problem.specs.declared.problem.Atom.{Atom}
use Rattle.cnf_problem.specs.Literals.{negated, IsOver}
use Rattle.cnf_problem.specs.Formulas.{Formula}
use Rattle.cnf_problem.proofs.Assignments.{over_more, over-negated}
use Rattle.memory_models.specs.declared.StaticEvent.{StaticEvent}
use Rattle.memory_models.specs.declared.StaticKind.TheVariants as kind
use Rattle.memory_models.specs.Events.{IsAt}
use Rattle.order_vars.specs.Links.{Link, reading, beginning, rivalry, joining}
use Rattle.order_vars.specs.Atoms.{link_atoms, atoms_of}
use Rattle.order_vars.specs.Orders.{AreEventsOver, IsLinkOver}
use Rattle.order_vars.specs.Growing.{IsMet, Grown, AreChoices, own_choices, IsLinked, apart, tied, Built}
use Rattle.order_vars.proofs.Growth.{grown_apart, grown_link, grown_on, grown_choice}
use Rattle.order_vars.proofs.Choosing.{no_choices, choices_more}
use Rattle.order_vars.proofs.Adding.{atoms_push}

-- what is built so far, with the choices of the event whose links grow
pub record BuiltInto (m : MemoryModel) (es : List StaticEvent) (words : List (List Lit)) (base new : Formula) (atoms : List Atom) (choices : List Lit) (guard : Lit) (n k : ℕ) : Type 0 where
  pub links : List Link
  pub grown : Grown es words base new links n k
  pub are_atoms : atoms ≡ atoms_of m es links
  pub are_choices : AreChoices es links n guard choices

-- ---- before the first link

not_met : (n a : ℕ) → IsMet n 0 a n → ⊥
not_met n a met = elim met [ inl h ↦ absurd (omega arith) | inr h ↦ absurd (omega (arith, h.1)) ]

pub into_none : (m : MemoryModel) (es : List StaticEvent) (words : List (List Lit)) (base new : Formula) (atoms : List Atom) (choices : List Lit) (guard : Lit) (n : ℕ)
    → choices ≡ negated guard ∷ [] → Built m es words base new atoms n 0 → BuiltInto m es words base new atoms choices guard n 0
into_none m es words base new atoms choices guard n e far = record {
  links = far.links;
  grown = far.grown;
  are_atoms = far.are_atoms;
  are_choices = subst (λ cs. AreChoices es far.links n guard cs) (sym e) (no_choices es far.links n guard (λ l into. elim into.1 [
    | inl r ↦ not_met n into.0 (far.grown.sound (reading into.0 n l) r).2
    | inr j ↦ not_met n into.0 (far.grown.sound (joining into.0 n l) j).2
  ]));
}

pub first_choice : (none choices : List Lit) (x guard : Lit) → none ≡ [] → choices ≡ none ++ x ∷ [] → x ≡ negated guard → choices ≡ negated guard ∷ []
first_choice none choices x guard empty pushed is = pushed ∙ ap (λ cs. cs ++ x ∷ []) empty ∙ ap (λ z. z ∷ []) is

pub first_over : (n : ℕ) (choices : List Lit) (guard : Lit) → choices ≡ negated guard ∷ [] → IsOver n guard → All (IsOver n) choices
first_over n choices guard e over = subst (λ cs. All (IsOver n) cs) (sym e) (All-from_recursion (IsOver n) (negated guard ∷ []) (over-negated n guard over, tt))

-- ---- one more pair

pub into_link : (m : MemoryModel) (es : List StaticEvent) (words : List (List Lit)) (base old new : Formula) (atoms after : List Atom) (choices behind : List Lit) (guard : Lit) (n k : ℕ)
    → AreEventsOver old.vars es words → IsLinked m es words old new atoms after choices behind k n
    → BuiltInto m es words base old atoms choices guard n k → BuiltInto m es words base new after behind guard n (k + 1)
into_link m es words base old new atoms after choices behind guard n k over (apart none e1 e2 e3) far = record {
  links = far.links;
  grown = subst (λ g. Grown es words base g far.links n (k + 1)) (sym e1) (grown_apart es words base old far.links n k far.grown none);
  are_atoms = e2 ∙ far.are_atoms;
  are_choices = subst (λ cs. AreChoices es far.links n guard cs) (sym e3) far.are_choices;
}
into_link m es words base old new atoms after choices behind guard n k over (tied x from to has added e2 e3) far = record {
  links = far.links ++ x ∷ [];
  grown = grown_link es words base old new far.links x old.vars n k over from to has far.grown added;
  are_atoms = e2 ∙ ap (λ more. more ++ link_atoms m es x) far.are_atoms ∙ sym (atoms_push m es far.links x);
  are_choices = subst (λ cs. AreChoices es (far.links ++ x ∷ []) n guard cs) (sym e3) (choices_more es far.links x n guard choices to far.are_choices);
}

pub linked_grows : (m : MemoryModel) (es : List StaticEvent) (words : List (List Lit)) (old new : Formula) (atoms after : List Atom) (choices behind : List Lit) (k n : ℕ)
    → IsLinked m es words old new atoms after choices behind k n → old.vars ≤ new.vars
linked_grows m es words old new atoms after choices behind k n (apart none e1 e2 e3) = let e = ap (λ (f : Formula). f.vars) e1 in omega arith
linked_grows m es words old new atoms after choices behind k n (tied x from to has added e2 e3) = added.grows

-- what a link adds to the choices is over the new variables
own_over : (n : ℕ) (x : Link) → IsLinkOver n x → All (IsOver n) (own_choices x)
own_over n (reading w r l) over = All-from_recursion (IsOver n) (l ∷ []) (over, tt)
own_over n (beginning i w l) over = All-from_recursion (IsOver n) [] tt
own_over n (rivalry w v l back) over = All-from_recursion (IsOver n) [] tt
own_over n (joining e j l) over = All-from_recursion (IsOver n) (l ∷ []) (over, tt)

pub linked_over : (m : MemoryModel) (es : List StaticEvent) (words : List (List Lit)) (old new : Formula) (atoms after : List Atom) (choices behind : List Lit) (k n : ℕ)
    → IsLinked m es words old new atoms after choices behind k n → All (IsOver old.vars) choices → All (IsOver new.vars) behind
linked_over m es words old new atoms after choices behind k n (apart none e1 e2 e3) over =
    subst (λ (f : Formula). All (IsOver f.vars) behind) (sym e1) (subst (λ cs. All (IsOver old.vars) cs) (sym e3) over)
linked_over m es words old new atoms after choices behind k n (tied x from to has added e2 e3) over =
    subst (λ cs. All (IsOver new.vars) cs) (sym e3) (All-append (IsOver new.vars) choices (own_choices x)
    (All-weaker (IsOver old.vars) (IsOver new.vars) (λ l o. over_more old.vars new.vars l added.grows o) choices over)
    (own_over new.vars x added.over))

-- ---- behind the last pair

pub into_choice : (m : MemoryModel) (es : List StaticEvent) (words : List (List Lit)) (base new last : Formula) (atoms : List Atom) (choices said : List Lit) (n k : ℕ) (e : StaticEvent)
    → IsAt es n e → (e.kind ≡ kind.Read) ⊎ (e.kind ≡ kind.Join) → k ≡ length es → said ≡ choices → last ≡ record { vars = new.vars; clauses = new.clauses ++ said ∷ [] }
    → BuiltInto m es words base new atoms choices e.guard n k → Built m es words base last atoms (n + 1) 0
into_choice m es words base new last atoms choices said n k e at kinds all same made far = record {
  links = far.links;
  grown = grown_choice es words base new last far.links n e choices at kinds far.are_choices (ap (λ (f : Formula). f.vars) made)
      (ap (λ (f : Formula). f.clauses) made ∙ ap (λ cs. new.clauses ++ cs ∷ []) same) (subst (λ j. Grown es words base new far.links n j) all far.grown);
  are_atoms = far.are_atoms;
}

pub into_plain : (m : MemoryModel) (es : List StaticEvent) (words : List (List Lit)) (base new last : Formula) (atoms : List Atom) (choices : List Lit) (guard : Lit) (n k : ℕ) (e : StaticEvent)
    → IsAt es n e → ¬ ((e.kind ≡ kind.Read) ⊎ (e.kind ≡ kind.Join)) → k ≡ length es → last ≡ new
    → BuiltInto m es words base new atoms choices guard n k → Built m es words base last atoms (n + 1) 0
into_plain m es words base new last atoms choices guard n k e at other all same far = record {
  links = far.links;
  grown = subst (λ g. Grown es words base g far.links (n + 1) 0) (sym same) (grown_on es words base new far.links n e at other (subst (λ j. Grown es words base new far.links n j) all far.grown));
  are_atoms = far.are_atoms;
}
