-- What a run leaves: its status, what it printed, and the files.
use Rattle.std.specs.Prelude.{◌≡◌, ℕ, List, [], ◌∷◌, ◌++◌, Option, Some, None, Ok, Err, IsTrue, ◌==◌, take}
use Rattle.std.specs.List.{list_any}
use Rattle.dg_base.specs.declared.outside.FileEntry.{FileEntry}
use Rattle.dg_base.specs.declared.outside.Trouble.TheVariants.{Failed}
use Rattle.dg_base.specs.Outside.{Changes, Keeps, Unchanged}
use Rattle.word_settings.specs.Settings.{Word}
use Rattle.dg_top.specs.Answers.{Allowed, Answer, Kept, status_of, text_of}

-- these bytes were appended
abbrev pub Appended : List ℕ → List ℕ → List ℕ → Type 0
Appended text before now = now ≡ before ++ text

-- the kept file has its bytes, and every other file is as before
abbrev pub HasKept : Option Kept → List FileEntry → List FileEntry → Type 0
HasKept None before now = now ≡ before
HasKept (Some k) before now = Keeps k.name k.bytes (Ok tt) before now

-- the kept file has a prefix of its bytes or what it had, and every other file is as before
abbrev pub MayHaveKept : Option Kept → List FileEntry → List FileEntry → Type 0
MayHaveKept None before now = now ≡ before
MayHaveKept (Some k) before now = Keeps k.name k.bytes (Err Failed) before now

-- What a run leaves, by its status: an allowed answer was printed whole, and its file was kept; or nothing was done, after a failed fetch;
-- or nothing was printed, where the keep failed; or a prefix of an allowed answer, whose file was kept, where the print failed; or nothing
-- was printed, for want of memory, before anything was kept or after.
pub data Outcome (words : List Word) (files : List FileEntry) (left : Option (List FileEntry)) (before now : Option (List ℕ)) : ℕ → Type 0 where
  answered : (a : Answer) (kept : Option Kept) → Allowed words files a kept → Changes (HasKept kept) (Some files) left → Changes (Appended (text_of a)) before now
      → Outcome words files left before now (status_of a)
  unfetched : Unchanged (Some files) left → Unchanged before now → Outcome words files left before now 5
  unkept : (a : Answer) (k : Kept) → Allowed words files a (Some k) → Changes (MayHaveKept (Some k)) (Some files) left → Unchanged before now → Outcome words files left before now 6
  unprinted : (a : Answer) (kept : Option Kept) (n : ℕ) → Allowed words files a kept → Changes (HasKept kept) (Some files) left
      → Changes (Appended (take n (text_of a))) before now → Outcome words files left before now 6
  no_memory : Unchanged (Some files) left → Unchanged before now → Outcome words files left before now 7
  no_memory_behind : (a : Answer) (kept : Option Kept) → Allowed words files a kept → Changes (MayHaveKept kept) (Some files) left → Unchanged before now
      → Outcome words files left before now 7

-- the statuses there are
abbrev pub statuses : List ℕ
statuses = 0 ∷ 1 ∷ 2 ∷ 3 ∷ 4 ∷ 5 ∷ 6 ∷ 7 ∷ []

abbrev pub IsStatus : ℕ → Type 0
IsStatus status = IsTrue (list_any (λ s. s == status) statuses)
