-- What contracts see of the desks in memory.
use Rattle.std.specs.Prelude.{◌≡◌, ℕ, ◌+◌, ◌-◌, ◌/◌, ◌^◌, min, List, [], Bool, true, false, Result, Ok, Err, bytes_eq, length, nat_eq, take}
use Rattle.std.specs.List.{list_any}
use Rattle.dg_base.specs.declared.outside.FileEntry.{FileEntry}
use Rattle.dg_base.specs.declared.outside.Operation.{Operation}
use Rattle.dg_base.specs.declared.outside.Trouble.{Trouble}
use Rattle.dg_base.specs.declared.outside.Trouble.TheVariants.{Failed, Long, OutOfMemory}
use Rattle.dg_base.specs.Outside.{Faults, no_faults, one_more}

-- an honest desk: its files and what was printed
pub record HonestState : Type 0 where
  pub files : List FileEntry
  pub printed : List ℕ

-- a desk that fails by a list: the files, what was printed, the faults, the numbers of the calls that are to
-- fail, and the calls so far
pub record MemState : Type 0 where
  pub files : List FileEntry
  pub printed : List ℕ
  pub faults : Faults
  pub failing : List ℕ
  pub calls : ℕ

abbrev pub empty_desk : HonestState
empty_desk = record { files = []; printed = [] }

abbrev pub nothing_yet : MemState
nothing_yet = record { files = []; printed = []; faults = no_faults; failing = []; calls = 0 }

-- all but the files is as before
abbrev pub KeepsAllButFiles : MemState → MemState → Type 0
KeepsAllButFiles old new = new ≡ record old { files = new.files }

-- a test for the files of this name
abbrev pub is_named : List ℕ → FileEntry → Bool
is_named name f = bytes_eq f.name name

-- the number of the next call; it stands still at the end of the numbers of 32 bits
abbrev pub next_call : MemState → ℕ
next_call d = min (d.calls + 1) (2 ^ 32 - 1)

-- whether the next call is to fail: its number was given
abbrev pub next_fails : MemState → Bool
next_fails d = list_any (λ n. nat_eq n (next_call d)) d.failing

-- the desk with one call more
abbrev pub counted : MemState → MemState
counted d = record d { calls = next_call d }

-- the desk after a call that kept its files and printed nothing: where it answered Failed, with one fault more
abbrev pub after : Operation → List ℕ → MemState → Result (Unit {0}) Trouble → MemState
after operation name d (Ok v) = counted d
after operation name d (Err Failed) = record (counted d) { faults = one_more operation name d.faults }
after operation name d (Err _) = counted d

-- Failed exactly where the test holds, for which want of memory alone may come
abbrev pub FailsWhere : Bool → Result (Unit {0}) Trouble → Type 0
FailsWhere fails (Ok v) = fails ≡ false
FailsWhere fails (Err Failed) = fails ≡ true
FailsWhere fails (Err Long) = fails ≡ false
FailsWhere fails (Err OutOfMemory) = Unit {0}

-- what a print appends: all of the bytes, the first half of them where it fails, rounded down, and nothing for want of memory
abbrev pub printed_part : List ℕ → Result (Unit {0}) Trouble → List ℕ
printed_part bytes (Ok v) = bytes
printed_part bytes (Err Failed) = take (length bytes / 2) bytes
printed_part bytes (Err _) = []
