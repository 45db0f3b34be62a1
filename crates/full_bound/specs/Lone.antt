-- What a thread does that runs alone behind all others.
use Rattle.std.specs.Prelude.{◌≡◌, ℕ, List, [], ◌∷◌, Bool, true, false, cond, nat_eq}
use Rattle.axiom_model.specs.declared.Action.{Action}
use Rattle.axiom_model.specs.declared.Action.TheVariants.{Read, Write, Open, Close, Join}

-- a value for each cell
abbrev pub Memory : Type 0
Memory = ℕ → ℕ

-- the value of each cell behind a write
abbrev pub written : Memory → ℕ → ℕ → Memory
written mem c v d = cond (nat_eq d c) v (mem d)

-- the value of each cell behind the actions
abbrev pub memory_behind : Memory → List Action → Memory
memory_behind mem [] = mem
memory_behind mem (Write c v ∷ acts) = memory_behind (written mem c v) acts
memory_behind mem (a ∷ acts) = memory_behind mem acts

-- each read has the value that was written last, and no thread is waited for
abbrev pub IsLone : Memory → List Action → Type 0
IsLone mem [] = Unit {0}
IsLone mem (Read c v ∷ acts) = (v ≡ mem c) × IsLone mem acts
IsLone mem (Write c v ∷ acts) = IsLone (written mem c v) acts
IsLone mem (Join h ∷ acts) = ⊥
IsLone mem (a ∷ acts) = IsLone mem acts

-- whether a section is open behind the actions, by whether one is open before them
abbrev pub is_opened : Bool → List Action → Bool
is_opened b [] = b
is_opened b (Open ∷ acts) = is_opened true acts
is_opened b (Close ∷ acts) = is_opened false acts
is_opened b (a ∷ acts) = is_opened b acts
