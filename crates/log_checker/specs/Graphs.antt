-- The graphs of a lemma: the atoms that it denies, and the edges that are there where these hold.
use Rattle.std.specs.Prelude.{◌≡◌, ◌≢◌, ℕ, suc, ◌≤◌, ◌<◌, ◌*◌, ◌+◌, ◌↔◌, List, length, Contains, Some, slice_get}
use Rattle.dg_base.specs.declared.Lit.{Lit}
use Rattle.cnf_problem.specs.declared.problem.Atom.{Atom}
use Rattle.cnf_problem.specs.declared.problem.Problem.{Problem}
use Rattle.cnf_problem.specs.Literals.{negated}

-- p is one more than the last place below n of an atom of the literal with this code, or 0 where there is none
pub record IsLastAtom (atoms : List Atom) (code n p : ℕ) : Type 0 where
  pub within : p ≤ n
  pub there : (q : ℕ) (a : Atom) → p ≡ suc q → slice_get atoms q ≡ Some a → a.lit.0 ≡ code
  pub none : (k : ℕ) (a : Atom) → p ≤ k → k < n → slice_get atoms k ≡ Some a → a.lit.0 ≢ code

-- the atoms of each literal as a chain: by its code one more than the place of the last one, and by each atom's place one more than that of the one before it; 0 where there is none
pub record AtomsView : Type 0 where
  pub last : List ℕ
  pub earlier : List ℕ

-- the chains are those of the problem's atoms
pub record AreFound (p : Problem) (v : AtomsView) : Type 0 where
  pub codes : length v.last ≡ 2 * p.vars + 2
  pub atoms : length v.earlier ≡ length p.atoms
  pub heads : (code q : ℕ) → slice_get v.last code ≡ Some q → IsLastAtom p.atoms code (length p.atoms) q
  pub links : (k q : ℕ) (a : Atom) → slice_get p.atoms k ≡ Some a → slice_get v.earlier k ≡ Some q → IsLastAtom p.atoms a.lit.0 k q

-- a literal is true where the lemma's are all false
abbrev pub IsDenied : List Lit → Lit → Type 0
IsDenied lits l = Contains lits (negated l)

-- the places are those of the atoms that the lemma denies
pub record AreDenied (p : Problem) (lits : List Lit) (places : List ℕ) : Type 0 where
  pub within : (k : ℕ) → Contains places k → k < length p.atoms
  pub each : (k : ℕ) (a : Atom) → slice_get p.atoms k ≡ Some a → Contains places k ↔ IsDenied lits a.lit
