-- The workers of a search, before, while and after they work.
use Rattle.std.specs.Prelude.{◌≡◌, ◌≢◌, ℕ, ◌+◌, ◌<◌, ◌≤◌, List, [], ◌∷◌, ◌++◌, ◌^◌, Bool, map, length, take, slice_get, Contains, Option, Some}
use Rattle.cnf_problem.specs.declared.problem.Problem.{Problem}
use Rattle.lemma_log.specs.declared.Entry as Logged
use Rattle.search_core.specs.declared.Verdict.{Verdict}
use Rattle.search_core.specs.declared.Verdict.TheVariants.{Safe, Unsafe}
use Rattle.clause_exchange.specs.declared.rule.Part.{Part}
use Rattle.clause_exchange.specs.declared.rule.View.{View}
use Rattle.clause_exchange.specs.Rule.{new_view, blank_part}
use Rattle.clause_exchange.specs.Splits.{with_parts}
use Rattle.clause_exchange.specs.Seats.{ExchangeId, exchange_of}
use Rattle.clause_exchange.specs.Steps.{mine}
use Rattle.clause_exchange.specs.Calls.{HasOne, IsNumbered}
use Rattle.clause_exchange.specs.Closing.{IsShown, TicketsAreIn, SeenStands, OfferStands, WasOffered, HasEmptyClause, ReadsWereShared}
use Rattle.worker_log.specs.Logs.{IsLogOf, AreReads}
use Rattle.cdcl_worker.specs.declared.worker.Outcome.TheVariants.{Model, OutOfMemory}
use Rattle.cdcl_worker.specs.Outcomes.{IsOutcome}
use Rattle.cdcl_worker.specs.Searching.{IsFresh}
use Rattle.verdict_run.specs.declared.decision.Report.{Report}
use Rattle.verdict_run.specs.declared.jobs.Ended.{Ended}
use Rattle.verdict_run.specs.declared.jobs.Job.{Job}

-- a worker that has not yet worked, with a seat of its number that has done nothing
pub record IsJob (id : ExchangeId) (job : Job) : Type 0 where
  pub same : exchange_of job.seat ≡ id
  pub blank : job.seat.view ≡ with_parts (new_view id.problem id.workers id.share_words) (blank_part id.workers (mine job.seat.view).number ∷ [])
  pub fresh : IsFresh id.problem (mine job.seat.view).number id.workers job.ended.worker

-- some of so many workers, the greatest number first
pub record AreJobs (id : ExchangeId) (jobs : List Job) : Type 0 where
  pub each : (k : ℕ) (job : Job) → slice_get jobs k ≡ Some job → IsJob id job
  pub numbers : (k : ℕ) (job : Job) → slice_get jobs k ≡ Some job → (mine job.seat.view).number + k + 1 ≡ id.workers

-- what a worker that has worked leaves of its number
pub record IsSearch (p : Problem) (budget : ℕ) (part : Part) (ended : Ended) : Type 0 where
  pub log : IsLogOf part.number ended.worker.log.entries part.log
  pub reads : AreReads part ended.worker.log.reads
  pub before : Part
  pub outcome : IsOutcome p budget before part ended.outcome

-- a worker that has worked with its seat
pub record HasWorked (id : ExchangeId) (budget : ℕ) (job : Job) : Type 0 where
  pub same : exchange_of job.seat ≡ id
  pub one : HasOne job.seat.view
  pub search : IsSearch id.problem budget (mine job.seat.view) job.ended

-- all of the workers, the greatest number first
pub record HaveWorked (id : ExchangeId) (budget : ℕ) (jobs : List Job) : Type 0 where
  pub each : (k : ℕ) (job : Job) → slice_get jobs k ≡ Some job → HasWorked id budget job
  pub numbers : (k : ℕ) (job : Job) → slice_get jobs k ≡ Some job → (mine job.seat.view).number + k + 1 ≡ id.workers

-- behind the first jobs, which are left, the last ones are taken apart, the last of all first
pub record AreTaken (jobs left : List Job) (parts : List Part) (ends : List Ended) : Type 0 where
  pub taken : List Job
  pub left_is : jobs ≡ left ++ taken
  pub parts_long : length parts ≡ length taken
  pub ends_long : length ends ≡ length taken
  pub part : (k m : ℕ) (job : Job) → slice_get jobs k ≡ Some job → k + m + 1 ≡ length jobs → m < length taken → slice_get parts m ≡ Some (mine job.seat.view)
  pub ended : (k m : ℕ) (job : Job) → slice_get jobs k ≡ Some job → k + m + 1 ≡ length jobs → m < length taken → slice_get ends m ≡ Some job.ended

-- the workers have worked, by their numbers, and this is what the last words say
pub record HasEnded (p : Problem) (workers budget : ℕ) (v : View) (next : ℕ) (verdict : Option Verdict) (ends : List Ended) : Type 0 where
  pub problem : v.problem ≡ p
  pub workers_are : v.workers ≡ workers
  pub few : next < 2 ^ 32
  pub parts : length v.parts ≡ workers
  pub long : length ends ≡ workers
  pub numbers : (k : ℕ) (part : Part) → slice_get v.parts k ≡ Some part → part.number ≡ k
  pub searches : (k : ℕ) (part : Part) (ended : Ended) → slice_get v.parts k ≡ Some part → slice_get ends k ≡ Some ended → IsSearch p budget part ended
  pub numbered : (part : Part) → Contains v.parts part → IsNumbered v.workers part
  pub state : IsShown v next verdict
  pub tickets : TicketsAreIn v next
  pub unsafe : verdict ≡ Some Unsafe → WasOffered v Unsafe
  pub safe : verdict ≡ Some Safe → HasEmptyClause v
  pub seen : SeenStands v verdict
  pub offered : OfferStands v verdict
  pub reads : ReadsWereShared v

-- the logs of the workers
abbrev pub logs_of : List Ended → List (List Logged.Entry)
logs_of ends = map (λ (e : Ended). e.worker.log.entries) ends

-- from this place on no worker has a model
abbrev pub NoModelFrom : ℕ → List Ended → Type 0
NoModelFrom from ends = (k : ℕ) (e : Ended) (a : List Bool) → from ≤ k → slice_get ends k ≡ Some e → e.outcome ≢ Model a

-- from this place on the first worker that has a model has this one
pub record IsFirstModel (from : ℕ) (ends : List Ended) (assignment : List Bool) : Type 0 where
  pub place : ℕ
  pub behind : from ≤ place
  pub ended : Ended
  pub is : slice_get ends place ≡ Some ended
  pub model : ended.outcome ≡ Model assignment
  pub none : (k : ℕ) (e : Ended) (a : List Bool) → from ≤ k → k < place → slice_get ends k ≡ Some e → e.outcome ≢ Model a

-- some worker answered want of memory
abbrev pub SomeWant : List Ended → Type 0
SomeWant ends = (k : ℕ) × (e : Ended) × (slice_get ends k ≡ Some e) × (e.outcome ≡ OutOfMemory)

-- the report has the numbers of worker i
pub record IsReportOf (i : ℕ) (ended : Ended) (r : Report) : Type 0 where
  pub worker_is : r.worker ≡ i
  pub entries : r.entries ≡ length ended.worker.log.entries
  pub reads : r.reads ≡ ended.worker.log.reads

-- there is one of each worker
pub record AreReports (ends : List Ended) (reports : List Report) : Type 0 where
  pub count : length reports ≡ length ends
  pub each : (i : ℕ) (ended : Ended) (r : Report) → slice_get ends i ≡ Some ended → slice_get reports i ≡ Some r → IsReportOf i ended r

-- some entry has the empty clause
abbrev pub HasEmpty : List Logged.Entry → Type 0
HasEmpty entries = (k : ℕ) × (e : Logged.Entry) × (slice_get entries k ≡ Some e) × (e.lemma.lits ≡ [])

-- the entry at this place has the empty clause, and none before it
pub record IsFirstEmpty (entries : List Logged.Entry) (place : ℕ) : Type 0 where
  pub entry : Logged.Entry
  pub is : slice_get entries place ≡ Some entry
  pub empty : entry.lemma.lits ≡ []
  pub first : (k : ℕ) (e : Logged.Entry) → k < place → slice_get entries k ≡ Some e → e.lemma.lits ≢ []

-- the entries up to the first empty clause
pub record IsCut (entries left : List Logged.Entry) : Type 0 where
  pub place : ℕ
  pub first : IsFirstEmpty entries place
  pub left_is : left ≡ take (place + 1) entries
