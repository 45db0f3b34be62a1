-- What is built so far: all links into the events before a place, and those into the event there from the events before another.
use Rattle.std.specs.Prelude.{◌≡◌, ℕ, ◌<◌, ◌≤◌, ◌⊎◌, List, [], ◌∷◌, ◌++◌, Bool, true, length, Contains, AllPairs, ◌↔◌}
use Rattle.dg_base.specs.declared.Lit.{Lit}
use Rattle.cnf_problem.specs.Literals.{value, negated, AreSatisfied}
use Rattle.cnf_problem.specs.Formulas.{Formula}
use Rattle.memory_models.specs.declared.StaticEvent.{StaticEvent}
use Rattle.memory_models.specs.declared.StaticKind.TheVariants as kind
use Rattle.memory_models.specs.Events.{IsAt}
use Rattle.order_vars.specs.Links.{Link, reading, beginning, rivalry, joining, MayRead, MayBegin, AreRivals, MayJoin, IsLink, from_of, to_of, ComeInOrder}
use Rattle.axiom_model.specs.declared.MemoryModel.{MemoryModel}
use Rattle.cnf_problem.specs.declared.problem.Atom.{Atom}
use Rattle.order_vars.specs.Atoms.{link_atoms, atoms_of}
use Rattle.order_vars.specs.Holding.{LinkHolds}
use Rattle.order_vars.specs.Clauses.{link_clauses}
use Rattle.order_vars.specs.Orders.{IsLinkOver, Choice, Chosen}

-- the pair was met before place k at place n
abbrev pub IsMet : ℕ → ℕ → ℕ → ℕ → Type 0
IsMet n k a b = (b < n) ⊎ ((b ≡ n) × (a < k))

-- each link that there may be from a to b is there
pub record HasLinksAt (es : List StaticEvent) (links : List Link) (a b : ℕ) : Type 0 where
  pub reads : MayRead es a b → (l : Lit) × Contains links (reading a b l)
  pub begins : MayBegin es a b → (l : Lit) × Contains links (beginning a b l)
  pub rivals : AreRivals es a b → (l : Lit) × (back : Lit) × Contains links (rivalry a b l back)
  pub joins : MayJoin es a b → (l : Lit) × Contains links (joining a b l)

-- the literal of a source or an end that the event at b may have
abbrev pub IsInto : List Link → ℕ → Lit → Type 0
IsInto links b l = (a : ℕ) × (Contains links (reading a b l) ⊎ Contains links (joining a b l))

-- a read or join that happens has a source or an end
abbrev pub HasSome : List Bool → List StaticEvent → List Link → ℕ → Type 0
HasSome s es links b =
    (e : StaticEvent) → IsAt es b e → (e.kind ≡ kind.Read) ⊎ (e.kind ≡ kind.Join) → value s e.guard ≡ true → (l : Lit) × IsInto links b l × (value s l ≡ true)

-- what the clauses so far say
pub record Held (es : List StaticEvent) (words : List (List Lit)) (links : List Link) (n : ℕ) (s : List Bool) : Type 0 where
  pub each : (x : Link) → Contains links x → LinkHolds s es words x
  pub some : (b : ℕ) → b < n → HasSome s es links b

pub record Grown (es : List StaticEvent) (words : List (List Lit)) (old new : Formula) (links : List Link) (n k : ℕ) : Type 0 where
  pub sound : (x : Link) → Contains links x → IsLink es x × IsLinkOver new.vars x × IsMet n k (from_of x) (to_of x)
  pub complete : (a b : ℕ) → IsMet n k a b → HasLinksAt es links a b
  pub once : AllPairs ComeInOrder links
  pub grows : old.vars ≤ new.vars
  pub added : List (List Lit)
  pub clauses : new.clauses ≡ old.clauses ++ added
  pub exact : (s : List Bool) → AreSatisfied s added ↔ Held es words links n s
  pub free : (s : List Bool) (c : Choice) → length s ≡ old.vars → Chosen new links s c

-- one more link: its clauses, and any choice of its truth values
pub record AddsLink (es : List StaticEvent) (words : List (List Lit)) (old new : Formula) (x : Link) : Type 0 where
  pub is : IsLink es x
  pub over : IsLinkOver new.vars x
  pub grows : old.vars ≤ new.vars
  pub clauses : new.clauses ≡ old.clauses ++ link_clauses es words x
  pub free : (s : List Bool) (c : Choice) → length s ≡ old.vars → Chosen new (x ∷ []) s c

-- the clause of a read or join: the event doesn't happen, or one of its literals is true
pub record AreChoices (es : List StaticEvent) (links : List Link) (n : ℕ) (guard : Lit) (choices : List Lit) : Type 0 where
  pub sound : (l : Lit) → Contains choices l → (l ≡ negated guard) ⊎ IsInto links n l
  pub denied : Contains choices (negated guard)
  pub complete : (l : Lit) → IsInto links n l → Contains choices l

-- the literals that a link adds to the choices of the event that it leads to
abbrev pub own_choices : Link → List Lit
own_choices (reading w r l) = l ∷ []
own_choices (beginning i w l) = []
own_choices (rivalry w v l back) = []
own_choices (joining e j l) = l ∷ []

-- what one pair adds: nothing where it isn't tied, or one link with its clauses, atoms and choices
pub data IsLinked (m : MemoryModel) (es : List StaticEvent) (words : List (List Lit)) (old new : Formula) (atoms after : List Atom) (choices behind : List Lit) (k n : ℕ) : Type 0 where
  apart : HasLinksAt es [] k n → new ≡ old → after ≡ atoms → behind ≡ choices → IsLinked m es words old new atoms after choices behind k n
  tied : (x : Link) → from_of x ≡ k → to_of x ≡ n → HasLinksAt es (x ∷ []) k n → AddsLink es words old new x → after ≡ atoms ++ link_atoms m es x → behind ≡ choices ++ own_choices x
      → IsLinked m es words old new atoms after choices behind k n

-- some links have grown, and these are their atoms
pub record Built (m : MemoryModel) (es : List StaticEvent) (words : List (List Lit)) (base new : Formula) (atoms : List Atom) (n k : ℕ) : Type 0 where
  pub links : List Link
  pub grown : Grown es words base new links n k
  pub are_atoms : atoms ≡ atoms_of m es links
