-- What is found by its name.
use Rattle.std.specs.Prelude.{ℕ, ◌+◌, List, [], ◌∷◌, cond, Option, Some, None}
use Rattle.std.specs.Str.{bytes_eq}
use Rattle.c_rules.specs.Names.{Name, or_else}

-- the first item with this name
abbrev pub find : {A : Type 0} → (A → Name) → List A → Name → Option A
find name [] n = None
find name (x ∷ xs) n = cond (bytes_eq (name x) n) (Some x) (find name xs n)

-- the number of the first item with this name, where the list's first has the number i
abbrev pub first_named : {A : Type 0} → (A → Name) → ℕ → List A → Name → Option ℕ
first_named name i [] n = None
first_named name i (x ∷ xs) n = cond (bytes_eq (name x) n) (Some i) (first_named name (i + 1) xs n)

-- the number of the last item with this name
abbrev pub last_named : {A : Type 0} → (A → Name) → ℕ → List A → Name → Option ℕ
last_named name i [] n = None
last_named name i (x ∷ xs) n = or_else (last_named name (i + 1) xs n) (cond (bytes_eq (name x) n) (Some i) None)
