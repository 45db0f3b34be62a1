-- Logs put together by their tickets.
use Rattle.std.specs.Prelude.{◌≡◌, ◌⊎◌, ℕ, ◌<◌, ◌^◌, List, length, sum_by, slice_get, Some}
use Rattle.lemma_log.specs.declared.Entry.{Entry}
use Rattle.lemma_log.specs.declared.merging.Spot.{Spot}

-- entry k of log i
abbrev pub IsLogged : List (List Entry) → ℕ → ℕ → Entry → Type 0
IsLogged logs i k e = (log : List Entry) × (slice_get logs i ≡ Some log) × (slice_get log k ≡ Some e)

-- each ticket below the number of entries stands in exactly one log, once, and no other does
pub record AreOnce (logs : List (List Entry)) : Type 0 where
  pub few : sum_by length logs < 2 ^ 32
  pub below : (i k : ℕ) (e : Entry) → IsLogged logs i k e → e.ticket < sum_by length logs
  pub found : (t : ℕ) → t < sum_by length logs → (i : ℕ) × (k : ℕ) × (e : Entry) × IsLogged logs i k e × (e.ticket ≡ t)
  pub once : (i j k m : ℕ) (d e : Entry) → IsLogged logs i k d → IsLogged logs j m e → d.ticket ≡ e.ticket → (i ≡ j) × (k ≡ m)

-- the same ticket, worker, kind and literals
pub record IsCopy (a b : Entry) : Type 0 where
  pub ticket : a.ticket ≡ b.ticket
  pub worker : a.worker ≡ b.worker
  pub kind : a.lemma.kind ≡ b.lemma.kind
  pub lits : a.lemma.lits ≡ b.lemma.lits

-- the log has each entry of the logs once, at its ticket, and no others
pub record IsMerged (logs : List (List Entry)) (merged : List Entry) : Type 0 where
  pub all : length merged ≡ sum_by length logs
  pub each : (i k : ℕ) (e : Entry) → IsLogged logs i k e → (f : Entry) × (slice_get merged e.ticket ≡ Some f) × IsCopy f e

-- each entry that stands in a log before log i, or in log i before place k, is at its ticket
abbrev pub ArePlaced : List (List Entry) → ℕ → ℕ → List Spot → Type 0
ArePlaced logs i k spots = (j m : ℕ) (e : Entry) → IsLogged logs j m e → (j < i) ⊎ ((j ≡ i) × (m < k)) → slice_get spots e.ticket ≡ Some (record { log = j; at = m })

-- each ticket has the log and the place of its entry
abbrev pub AreSpots : List (List Entry) → List Spot → Type 0
AreSpots logs spots = (j m : ℕ) (e : Entry) → IsLogged logs j m e → slice_get spots e.ticket ≡ Some (record { log = j; at = m })
