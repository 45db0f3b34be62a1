-- What each step tells its caller, and when it may be made.
use Rattle.std.specs.Prelude.{◌≡◌, ◌≢◌, ℕ, zero, suc, ◌+◌, ◌<◌, ◌≤◌, Bool, false, List, [], ◌∷◌, ◌++◌, map, length, slice_get, slice_index_or, slice_set, All, Contains, Option, Some, None}
use mathlib.Core.Option.{some}
use mathlib.Core.List.{IsPrefix}
use Rattle.atomic_table.specs.Table.{Me, Step}
use Rattle.dg_base.specs.declared.Lit.{Lit}
use Rattle.cnf_problem.specs.declared.problem.Lemma.{Lemma}
use Rattle.cnf_problem.specs.declared.problem.Problem.{Problem}
use Rattle.cnf_problem.specs.Literals.{IsOver}
use Rattle.cnf_problem.specs.Problems.{Follows, IsConsistent}
use Rattle.search_core.specs.declared.Entry.{Entry}
use Rattle.search_core.specs.declared.Verdict.{Verdict}
use Rattle.search_core.specs.declared.Verdict.TheVariants.{Safe, Unsafe}
use Rattle.search_core.specs.Core.{lits_of}
use Rattle.clause_exchange.specs.declared.rule.Received.{Received}
use Rattle.clause_exchange.specs.declared.rule.RowView.{RowView}
use Rattle.clause_exchange.specs.declared.rule.Part.{Part}
use Rattle.clause_exchange.specs.declared.rule.View.{View}
use Rattle.clause_exchange.specs.Spelling.{received_of, spelled, spelled_entry, whole_within, IsPlain}
use Rattle.clause_exchange.specs.Rule.{row_start, verdict_of, blank_part, blank_row}

-- the view of one number with another part, which has announced nothing
abbrev pub with_part : View → Part → View
with_part v part = record { problem = v.problem; workers = v.workers; share_words = v.share_words; parts = part ∷ []; announced = None; cut = v.cut; spent = v.spent }

-- the view has one number, of which this is kept
pub record IsOne (v : View) (part : Part) : Type 0 where
  pub live : v.spent ≡ false
  pub one : v.parts ≡ part ∷ []

-- the lemma that is announced is kept
abbrev pub Announces : Step Lemma → Me Lemma View → ℕ → Me Lemma View → Type 0
Announces step before found after =
    (lemma : Lemma) × (step.said ≡ some lemma) × (after.1 ≡ before.1) × (after.0 ≡ record before.0 { announced = Some lemma })

-- where the seat is about to be split is kept
abbrev pub Cuts : Step Lemma → Me Lemma View → ℕ → Me Lemma View → Type 0
Cuts step before found after = (after.1 ≡ before.1) × (after.0 ≡ record before.0 { cut = step.word })

-- what is kept of each number of the view is told to be one thing
abbrev pub Agrees : Step Lemma → Me Lemma View → ℕ → Me Lemma View → Type 0
Agrees step before found after =
    (after.1 ≡ before.1) × (after.0 ≡ before.0)
    × ((a b : Part) → Contains before.0.parts a → Contains before.0.parts b → a.number ≡ b.number → a ≡ b)

-- the part with one more entry in its log
abbrev pub with_entry : Part → ℕ → Lemma → Part
with_entry part ticket lemma = record {
  number = part.number;
  log = part.log ++ record { ticket = ticket; lemma = lemma; seen = map (λ (r : RowView). length r.known) part.rows } ∷ [];
  shared = part.shared;
  stored = part.stored;
  rows = part.rows;
  seen = part.seen;
  offers = part.offers;
  loads = part.loads;
}

-- the ticket is above that of each entry
abbrev pub IsAbove : ℕ → List Entry → Type 0
IsAbove ticket entries = (e : Entry) → Contains entries e → e.ticket < ticket

-- the lemma that was announced is in the log, at the ticket found, which is above those of the log
abbrev pub Appends : Step Lemma → Me Lemma View → ℕ → Me Lemma View → Type 0
Appends step before found after =
    (after.1 ≡ before.1) × (found ≤ 16000016)
    × ((part : Part) → before.0.parts ≡ part ∷ [] → IsAbove found part.log)
    × ((lemma : Lemma) (part : Part) → before.0.announced ≡ Some lemma → before.0.parts ≡ part ∷ [] → after.0 ≡ with_part before.0 (with_entry part found lemma))

-- what was read of each row, without the kinds
abbrev pub reading : List RowView → List Received
reading [] = []
reading (r ∷ rows) = whole_within r.loaded r.known ++ reading rows

-- the clauses of what was read
abbrev pub received_lits : List Received → List (List Lit)
received_lits received = map (λ (h : Received). h.lits) received

-- the lemma follows from the log and the reading, the log has room, what was looked at is read, and each other row was looked at within the last 1024 entries
pub record MayAppend (p : Problem) (v : View) (part : Part) (lemma : Lemma) : Type 0 where
  pub one : IsOne v part
  pub room : length part.log < 1000001
  pub follows : Follows p (lits_of part.log ++ received_lits (reading part.rows)) lemma
  pub read : (j : ℕ) (r : RowView) → slice_get part.rows j ≡ Some r → r.loaded ≡ length (spelled r.known)
  pub looked : (j : ℕ) (r : RowView) → j ≢ part.number → slice_get part.rows j ≡ Some r → length part.log < r.log_then + 1024

-- the part with another row
abbrev pub with_row : Part → ℕ → RowView → Part
with_row part j r = record { number = part.number; log = part.log; shared = part.shared; stored = part.stored; rows = slice_set part.rows j r; seen = part.seen; offers = part.offers; loads = part.loads }

-- the row after a look that found these entries
abbrev pub looked_at : RowView → List Received → ℕ → RowView
looked_at r known log_then = record { known = known; loaded = r.loaded; log_then = log_then; looks = r.looks + 1 }

-- a look tells how many words the row has, and the view keeps the entries that these spell
abbrev pub Looks : Step Lemma → Me Lemma View → ℕ → Me Lemma View → Type 0
Looks step before found after =
    (after.1 ≡ before.1)
    × ((j : ℕ) (part : Part) (r : RowView) → step.word ≡ 2 + j → before.0.parts ≡ part ∷ [] → slice_get part.rows j ≡ Some r
    → (known : List Received) × (found ≡ length (spelled known)) × (found ≤ before.0.share_words) × IsPrefix r.known known
    × (after.0 ≡ with_part before.0 (with_row part j (looked_at r known (length part.log)))))

-- the row with one more word loaded
abbrev pub loaded_more : RowView → RowView
loaded_more r = record { known = r.known; loaded = r.loaded + 1; log_then = r.log_then; looks = r.looks }

-- a load of the next word of a row finds the word that spells what is known, and each entry there can be told from its words, with literals over the problem's variables
abbrev pub Loads : Step Lemma → Me Lemma View → ℕ → Me Lemma View → Type 0
Loads step before found after =
    (after.1 ≡ before.1)
    × ((j : ℕ) (part : Part) (r : RowView) → step.word ≡ row_start before.0.workers before.0.share_words j + r.loaded → before.0.parts ≡ part ∷ [] → slice_get part.rows j ≡ Some r → r.loaded < length (spelled r.known)
    → (slice_get (spelled r.known) r.loaded ≡ Some found) × ((h : Received) → Contains r.known h → IsPlain h)
    × ((h : Received) → Contains r.known h → All (IsOver before.0.problem.vars) h.lits)
    × (after.0 ≡ with_part before.0 (with_row part j (loaded_more r))))

-- the part with one more word stored behind its row
abbrev pub with_word : Part → ℕ → Part
with_word part word = record { number = part.number; log = part.log; shared = part.shared; stored = part.stored ++ word ∷ []; rows = part.rows; seen = part.seen; offers = part.offers; loads = part.loads }

abbrev pub Stores : Step Lemma → Me Lemma View → ℕ → Me Lemma View → Type 0
Stores step before found after = (after.1 ≡ before.1) × ((part : Part) → before.0.parts ≡ part ∷ [] → after.0 ≡ with_part before.0 (with_word part step.first))

-- the part where the words stored are those of one more shared entry
abbrev pub with_shared : Part → Entry → Part
with_shared part e = record { number = part.number; log = part.log; shared = part.shared ++ e ∷ []; stored = []; rows = part.rows; seen = part.seen; offers = part.offers; loads = part.loads }

-- the entry of the log that the stored words spell is shared
abbrev pub Shares : Step Lemma → Me Lemma View → ℕ → Me Lemma View → Type 0
Shares step before found after =
    (after.1 ≡ before.1)
    × ((part : Part) (e : Entry) → before.0.parts ≡ part ∷ [] → Contains part.log e → length e.lemma.lits ≤ 32 → part.stored ≡ spelled_entry (received_of e)
    → after.0 ≡ with_part before.0 (with_shared part e))

-- the stored words spell an entry of the log
pub record MayShare (v : View) (part : Part) (e : Entry) : Type 0 where
  pub one : IsOne v part
  pub listed : Contains part.log e
  pub plain : IsPlain (received_of e)
  pub spelled : part.stored ≡ spelled_entry (received_of e)

-- an entry of the log with this ticket and these literals
pub record IsOfLog (part : Part) (ticket : ℕ) (lits : List Lit) (e : Entry) : Type 0 where
  pub listed : Contains part.log e
  pub ticket_is : ticket ≡ e.ticket
  pub lits_are : lits ≡ e.lemma.lits

-- the part after a load of the verdict
abbrev pub seeing : Part → Option Verdict → Part
seeing part v = record { number = part.number; log = part.log; shared = part.shared; stored = part.stored; rows = part.rows; seen = v; offers = part.offers; loads = part.loads + 1 }

-- a load of the verdict's word
abbrev pub Sees : Step Lemma → Me Lemma View → ℕ → Me Lemma View → Type 0
Sees step before found after =
    (after.1 ≡ before.1) × (found < 3) × ((part : Part) → before.0.parts ≡ part ∷ [] → after.0 ≡ with_part before.0 (seeing part (verdict_of found)))

-- the word after an offer
abbrev pub offered_to : ℕ → ℕ → ℕ
offered_to zero code = code
offered_to (suc n) code = suc n

-- the code of a verdict
abbrev pub code_of : Verdict → ℕ
code_of Safe = 1
code_of Unsafe = 2

-- the part after an offer, with the verdict that stands
abbrev pub offering : Part → Verdict → Option Verdict → Part
offering part v stands = record { number = part.number; log = part.log; shared = part.shared; stored = part.stored; rows = part.rows; seen = stands; offers = part.offers ++ v ∷ []; loads = part.loads }

-- an offer tells the verdict that stands
abbrev pub Offers : Step Lemma → Me Lemma View → ℕ → Me Lemma View → Type 0
Offers step before found after =
    (after.1 ≡ before.1) × (found < 3)
    × ((part : Part) (v : Verdict) → before.0.parts ≡ part ∷ [] → step.second ≡ code_of v → after.0 ≡ with_part before.0 (offering part v (verdict_of (offered_to found step.second))))

-- what an offer rests on: a consistent assignment, or the empty clause in the log or the reading
abbrev pub HasCause : Problem → Part → Verdict → Type 0
HasCause p part Unsafe = (assignment : List Bool) × IsConsistent p assignment
HasCause p part Safe = Contains (lits_of part.log ++ received_lits (reading part.rows)) []

pub record MayOffer (p : Problem) (v : View) (part : Part) (verdict : Verdict) : Type 0 where
  pub one : IsOne v part
  pub cause : HasCause p part verdict

-- the part with these words stored behind its row
abbrev pub with_stored : Part → List ℕ → Part
with_stored part words = record { number = part.number; log = part.log; shared = part.shared; stored = words; rows = part.rows; seen = part.seen; offers = part.offers; loads = part.loads }

-- what is kept of the one number of a view
abbrev pub mine : View → Part
mine v = slice_index_or v.parts 0 (blank_part 0 0)

-- the row with so many words loaded
abbrev pub with_loaded : RowView → ℕ → RowView
with_loaded r loaded = record { known = r.known; loaded = loaded; log_then = r.log_then; looks = r.looks }

-- this entry is known of the row, and the loads have come to its word i
pub record IsAt (r : RowView) (h : Received) (i : ℕ) : Type 0 where
  pub before : List Received
  pub later : List Received
  pub all : r.known ≡ before ++ h ∷ later
  pub place : r.loaded ≡ length (spelled before) + i

-- what is known of a row
abbrev pub row_of : Part → ℕ → RowView
row_of part row = slice_index_or part.rows row blank_row

abbrev pub no_lit : Lit
no_lit = record { 0 = 0 }
