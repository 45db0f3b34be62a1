-- What a worker keeps of its number, and what is kept of it in the exchange.
use Rattle.std.specs.Prelude.{◌≡◌, ℕ, List, [], length, replicate, slice_get, Contains, Some}
use Rattle.search_core.specs.declared.Entry.{Entry}
use Rattle.lemma_log.specs.declared.Entry as Logged
use Rattle.clause_exchange.specs.declared.rule.RowView.{RowView}
use Rattle.clause_exchange.specs.declared.rule.Part.{Part}
use Rattle.clause_exchange.specs.declared.rule.View.{View}
use Rattle.clause_exchange.specs.Spelling.{whole_within}
use Rattle.clause_exchange.specs.Steps.{mine}
use Rattle.clause_exchange.specs.Calls.{HasOne, AllShared}

-- a worker's log as contracts see it: its number, its entries, and how many entries it read of each row
pub record LogView : Type 0 where
  pub number : ℕ
  pub entries : List Logged.Entry
  pub reads : List ℕ

-- a worker's entry is one that is kept of its number
pub record IsEntryOf (number : ℕ) (entry : Logged.Entry) (kept : Entry) : Type 0 where
  pub ticket : entry.ticket ≡ kept.ticket
  pub worker : entry.worker ≡ number
  pub lemma_is : entry.lemma ≡ kept.lemma

-- a worker's entries are the log that is kept of its number
pub record IsLogOf (number : ℕ) (entries : List Logged.Entry) (kept : List Entry) : Type 0 where
  pub long : length entries ≡ length kept
  pub each : (k : ℕ) (a : Logged.Entry) (e : Entry) → slice_get entries k ≡ Some a → slice_get kept k ≡ Some e → IsEntryOf number a e

-- the numbers of entries read of each row; of the own row none
pub record AreReads (part : Part) (reads : List ℕ) : Type 0 where
  pub wide : length reads ≡ length part.rows
  pub each : (j n : ℕ) (r : RowView) → slice_get reads j ≡ Some n → slice_get part.rows j ≡ Some r → length (whole_within r.loaded r.known) ≡ n
  pub own : slice_get reads part.number ≡ Some 0

-- no two of the entries have the same ticket
abbrev pub TicketsDiffer : List Entry → Type 0
TicketsDiffer entries = (i j : ℕ) (d e : Entry) → slice_get entries i ≡ Some d → slice_get entries j ≡ Some e → d.ticket ≡ e.ticket → i ≡ j

-- the worker's log and readings are those of its number; what the number shared is of its log, each ticket once; and each entry is shared, too long, or without room in the row
pub record IsBooked (w : LogView) (v : View) : Type 0 where
  pub one : HasOne v
  pub number : w.number ≡ (mine v).number
  pub log : IsLogOf w.number w.entries (mine v).log
  pub reads : AreReads (mine v) w.reads
  pub tickets : TicketsDiffer (mine v).shared
  pub own : (e : Entry) → Contains (mine v).shared e → Contains (mine v).log e
  pub shared : AllShared v.share_words (mine v)

-- the number has done nothing that counts: no entry in its log, none shared, no word of a row loaded, nothing offered
pub record IsIdle (v : View) : Type 0 where
  pub one : HasOne v
  pub log : (mine v).log ≡ []
  pub shared : (mine v).shared ≡ []
  pub unread : (j : ℕ) (r : RowView) → slice_get (mine v).rows j ≡ Some r → r.loaded ≡ 0
  pub offers : (mine v).offers ≡ []

-- a log of a number among so many, without entries or readings
abbrev pub empty_log : ℕ → ℕ → LogView
empty_log number workers = record { number = number; entries = []; reads = replicate workers 0 }

-- the log was made for the seat's number, and neither was used
abbrev pub IsUnused : LogView → View → Type 0
IsUnused w v = (w ≡ empty_log (mine v).number v.workers) × IsIdle v
