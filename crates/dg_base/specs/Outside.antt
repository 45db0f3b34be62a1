-- What is said of a desk: its files, what it printed, and its faults.
use Rattle.std.specs.Prelude.{◌≡◌, ◌≢◌, ◌⊎◌, ℕ, ◌+◌, ◌-◌, ◌^◌, ◌<◌, ◌≤◌, List, [], ◌∷◌, ◌++◌, Option, Some, None, Result, Ok, Err, if◌then◌else◌, bytes_eq, length, min, take, unwrap_or}
use Rattle.dg_base.specs.declared.outside.Trouble.{Trouble}
use Rattle.dg_base.specs.declared.outside.Trouble.TheVariants.{Failed, Long}
use Rattle.dg_base.specs.declared.outside.Operation.{Operation}
use Rattle.dg_base.specs.declared.outside.Operation.TheVariants.{Nothing}
use Rattle.dg_base.specs.declared.outside.FileEntry.{FileEntry}
use Rattle.dg_base.specs.declared.outside.TheConstants.{LONGEST_FILE}

-- how many calls answered Failed, and the operation and the name of the last of them
pub record Faults : Type 0 where
  pub count : ℕ
  pub operation : Operation
  pub name : List ℕ

abbrev pub no_faults : Faults
no_faults = record { count = 0; operation = Nothing; name = [] }

-- one fault more, of this operation on this name; the count stands still at the end of the numbers of 64 bits
abbrev pub one_more : Operation → List ℕ → Faults → Faults
one_more operation name before = record { count = min (before.count + 1) (2 ^ 64 - 1); operation = operation; name = name }

-- the count is greater than before, or stands at the end of the numbers of 64 bits
abbrev pub Rose : ℕ → ℕ → Type 0
Rose before now = (before < now) ⊎ ((before ≤ now) × (now ≡ 2 ^ 64 - 1))

-- a fault of this operation on this name came
pub record IsFault (operation : Operation) (name : List ℕ) (before now : Faults) : Type 0 where
  pub rose : Rose before.count now.count
  pub operation_is : now.operation ≡ operation
  pub name_is : now.name ≡ name

-- Failed comes only with a fault of this operation on this name, and any other answer without a fault
abbrev pub HasCause : {T : Type 0} → Operation → List ℕ → Faults → Faults → Result T Trouble → Type 0
HasCause operation name before now (Ok v) = now ≡ before
HasCause operation name before now (Err Failed) = IsFault operation name before now
HasCause operation name before now (Err _) = now ≡ before

-- the fact holds where the value is told
abbrev pub Told : {A : Type 0} → (A → Type 0) → Option A → Type 0
Told P None = Unit {0}
Told P (Some a) = P a

-- what was told before is told now, and changed like this
abbrev pub Changes : {A : Type 0} → (A → A → Type 0) → Option A → Option A → Type 0
Changes R None now = Unit {0}
Changes R (Some a) None = ⊥
Changes R (Some a) (Some b) = R a b

-- what was told before is told now, and is the same
abbrev pub Unchanged : {A : Type 0} → Option A → Option A → Type 0
Unchanged before now = Changes (λ a b. b ≡ a) before now

-- the bytes of the file with this name, where there is one: the first of that name
abbrev pub file_in : List FileEntry → List ℕ → Option (List ℕ)
file_in [] name = None
file_in (f ∷ fs) name = if bytes_eq f.name name then Some f.bytes else file_in fs name

-- the bytes of the file with this name; a name that the files don't hold stands for the empty file
abbrev pub contents : List FileEntry → List ℕ → List ℕ
contents fs name = unwrap_or (file_in fs name) []

-- a fetch of these bytes: all of them, or Long exactly where they are too many
abbrev pub Fetches : List ℕ → List ℕ → Result (Unit {0}) Trouble → Type 0
Fetches bytes into (Ok v) = (into ≡ bytes) × (length bytes ≤ LONGEST_FILE)
Fetches bytes into (Err Long) = LONGEST_FILE < length bytes
Fetches bytes into (Err _) = Unit {0}

-- the file after a keep: these bytes, or after a refusal a prefix of them or what it held
abbrev pub KeptAt : List ℕ → Result (Unit {0}) Trouble → Option (List ℕ) → Option (List ℕ) → Type 0
KeptAt bytes (Ok v) before now = now ≡ Some bytes
KeptAt bytes (Err t) before now = (now ≡ before) ⊎ ((n : ℕ) × (now ≡ Some (take n bytes)))

-- a keep of these bytes as the file of this name: every other file is as before
pub record Keeps (name bytes : List ℕ) (result : Result (Unit {0}) Trouble) (before now : List FileEntry) : Type 0 where
  pub this : KeptAt bytes result (file_in before name) (file_in now name)
  pub others : (other : List ℕ) → other ≢ name → file_in now other ≡ file_in before other

-- a print of these bytes: all, a prefix where it fails, none for want of memory
abbrev pub Prints : List ℕ → Result (Unit {0}) Trouble → List ℕ → List ℕ → Type 0
Prints bytes (Ok v) before now = now ≡ before ++ bytes
Prints bytes (Err Failed) before now = (n : ℕ) × (now ≡ before ++ take n bytes)
Prints bytes (Err _) before now = now ≡ before
