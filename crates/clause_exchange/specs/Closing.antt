-- What is known once the exchange is closed with a seat that has all numbers.
use Rattle.std.specs.Prelude.{◌≡◌, ◌≢◌, ℕ, ◌<◌, [], map, length, slice_get, Contains, Option, Some, None}
use mathlib.Core.List.{IsPrefix}
use Rattle.cnf_problem.specs.Problems.{Follows}
use Rattle.search_core.specs.declared.Entry.{Entry}
use Rattle.search_core.specs.declared.Verdict.{Verdict}
use Rattle.search_core.specs.declared.Verdict.TheVariants.{Unsafe}
use Rattle.search_core.specs.Core.{Worker, IsReached, worker}
use Rattle.search_core.specs.Core
use Rattle.search_core.specs.CoreLaws.{clauses_below}
use Rattle.clause_exchange.specs.declared.rule.RowView.{RowView}
use Rattle.clause_exchange.specs.declared.rule.Part.{Part}
use Rattle.clause_exchange.specs.declared.rule.View.{View}
use Rattle.clause_exchange.specs.Spelling.{all_received, whole_within}
use Rattle.clause_exchange.specs.Rule.{worker_of, IsReceived}

-- the view has all numbers
abbrev pub HasAll : View → Type 0
HasAll v = (k : ℕ) → k < v.workers → (part : Part) × Contains v.parts part × (part.number ≡ k)

-- a state of the core that some events lead to: it has this next ticket and verdict, and its workers are as the view keeps them
pub record IsShown (v : View) (next : ℕ) (verdict : Option Verdict) : Type 0 where
  pub core : Core.State
  pub reached : IsReached v.problem v.workers core
  pub ticket : core.next ≡ next
  pub found : core.verdict ≡ verdict
  pub count : length core.workers ≡ v.workers
  pub shown : (part : Part) → Contains v.parts part → (part.number < v.workers) × (worker core part.number ≡ worker_of part)
  pub one : (a b : Part) → Contains v.parts a → Contains v.parts b → a.number ≡ b.number → a ≡ b

-- a verdict that a number saw, at a load or as an offer's answer, is this one
abbrev pub SeenStands : View → Option Verdict → Type 0
SeenStands v verdict = (part : Part) (u : Verdict) → Contains v.parts part → part.seen ≡ Some u → verdict ≡ Some u

-- where a number made an offer there is a verdict
abbrev pub OfferStands : View → Option Verdict → Type 0
OfferStands v verdict = (part : Part) (u : Verdict) → Contains v.parts part → Contains part.offers u → verdict ≢ None

-- a number offered the verdict
abbrev pub WasOffered : View → Verdict → Type 0
WasOffered v verdict = (part : Part) × Contains v.parts part × Contains part.offers verdict

-- entry k of the log of a number of the view
abbrev pub HasEntry : View → Part → ℕ → Entry → Type 0
HasEntry v part k e = Contains v.parts part × (slice_get part.log k ≡ Some e)

-- a log has the empty clause
abbrev pub HasEmptyClause : View → Type 0
HasEmptyClause v = (part : Part) × (k : ℕ) × (e : Entry) × HasEntry v part k e × (e.lemma.lits ≡ [])

-- each ticket below the next one is in exactly one log, once, and no others are in a log
pub record TicketsAreIn (v : View) (next : ℕ) : Type 0 where
  pub found : (t : ℕ) → t < next → (part : Part) × (k : ℕ) × (e : Entry) × HasEntry v part k e × (e.ticket ≡ t)
  pub below : (part : Part) (k : ℕ) (e : Entry) → HasEntry v part k e → e.ticket < next
  pub once : (a b : Part) (k m : ℕ) (e f : Entry) → HasEntry v a k e → HasEntry v b m f → e.ticket ≡ f.ticket → (a ≡ b) × (k ≡ m)

-- each entry follows from the problem and the entries with lower tickets
abbrev pub EntriesFollow : View → Type 0
EntriesFollow v = (part : Part) (k : ℕ) (e : Entry) → HasEntry v part k e → Follows v.problem (clauses_below e.ticket (map worker_of v.parts)) e.lemma

-- what a number read of another's row are the first entries that the other shared
abbrev pub ReadsWereShared : View → Type 0
ReadsWereShared v =
    (a b : Part) (r : RowView) → Contains v.parts a → Contains v.parts b → slice_get a.rows b.number ≡ Some r → IsPrefix (whole_within r.loaded r.known) (all_received b.shared)

-- what the last words say of a view
pub record IsClosed (v : View) (next : ℕ) (verdict : Option Verdict) : Type 0 where
  pub state : IsShown v next verdict
  pub seen : SeenStands v verdict
  pub offered : OfferStands v verdict
  pub unsafe : HasAll v → verdict ≡ Some Unsafe → WasOffered v Unsafe
  pub received : (a b : Part) (r : RowView) → Contains v.parts a → Contains v.parts b → slice_get a.rows b.number ≡ Some r → IsReceived r b
