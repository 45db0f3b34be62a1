use Rattle.std.specs.Prelude.{◌≡◌, ◌≢◌, ℕ, ◌+◌, ◌<◌, ◌≤◌, List, length, slice_index, Contains}

-- a set of variables among the first so many
pub record HeapView : Type 0 where
  pub vars : ℕ
  pub members : List ℕ

-- the smaller list has the members of the larger one but this variable, which it had once
pub record IsWithout (v : ℕ) (larger smaller : List ℕ) : Type 0 where
  pub had : Contains larger v
  pub gone : ¬ Contains smaller v
  pub kept : (u : ℕ) → Contains larger u → u ≢ v → Contains smaller u
  pub from : (u : ℕ) → Contains smaller u → Contains larger u
  pub count : length larger ≡ length smaller + 1

-- two lists have the same members, as often in all
pub record IsReordered (before after : List ℕ) : Type 0 where
  pub kept : (u : ℕ) → Contains before u → Contains after u
  pub from : (u : ℕ) → Contains after u → Contains before u
  pub count : length after ≡ length before

-- the list has exactly the variables from 1 to `vars`
pub record IsFull (vars : ℕ) (members : List ℕ) : Type 0 where
  pub has : (v : ℕ) → 1 ≤ v → v ≤ vars → Contains members v
  pub from : (v : ℕ) → Contains members v → (1 ≤ v) × (v ≤ vars)
  pub count : length members ≡ vars

-- the place of a variable that is no item
abbrev pub nowhere : ℕ
nowhere = 4294967295

-- there is a place for each variable and for 0; the items are variables, and the places tell where each stands, once
pub record IsPlaced (items places : List ℕ) : Type 0 where
  pub small : length places ≤ 2147483648
  pub few : length items < length places
  pub range : (i : ℕ) → i < length items → (1 ≤ slice_index items i) × (slice_index items i < length places)
  pub forth : (i : ℕ) → i < length items → slice_index places (slice_index items i) ≡ i
  pub back : (v : ℕ) → v < length places → slice_index places v ≢ nowhere → (slice_index places v < length items) × (slice_index items (slice_index places v) ≡ v)
