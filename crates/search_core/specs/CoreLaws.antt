use Rattle.std.specs.Prelude.{◌≡◌, ℕ, ◌<◌, ◌≤◌, ⊤, Bool, List, [], ◌∷◌, ◌++◌, map, length, sum_by, nat_lt, if◌then◌else◌, slice_get, slice_index, Contains, Option, Some, None}
use Rattle.dg_base.specs.declared.Lit.{Lit}
use Rattle.cnf_problem.specs.declared.problem.Problem.{Problem}
use Rattle.cnf_problem.specs.Literals.{IsSatisfied}
use Rattle.cnf_problem.specs.Problems.{IsConsistent, Follows, FollowInTurn}
use Rattle.search_core.specs.declared.Verdict.{Verdict}
use Rattle.search_core.specs.declared.Verdict.TheVariants.{Safe, Unsafe}
use Rattle.search_core.specs.declared.Entry.{Entry}
use Rattle.search_core.specs.Core.{Worker, State, Event, Offer, worker, IsReached, MayHappen, after, run}

-- entry k of worker i's log
abbrev pub IsEntry : State → ℕ → ℕ → Entry → Type 0
IsEntry s i k e = slice_get (worker s i).log k ≡ Some e

-- the clauses of the entries with lower tickets
abbrev pub lower_of : ℕ → List Entry → List (List Lit)
lower_of t [] = []
lower_of t (e ∷ es) = if nat_lt e.ticket t then e.lemma.lits ∷ lower_of t es else lower_of t es

abbrev pub clauses_below : ℕ → List Worker → List (List Lit)
clauses_below t [] = []
clauses_below t (w ∷ ws) = lower_of t w.log ++ clauses_below t ws

-- the tickets below the next one are each in exactly one log, once, and no others are in a log
pub record TicketsOnce (s : State) : Type 0 where
  pub below : (i k : ℕ) (e : Entry) → IsEntry s i k e → e.ticket < s.next
  pub found : (t : ℕ) → t < s.next → (i : ℕ) × (k : ℕ) × (e : Entry) × IsEntry s i k e × (e.ticket ≡ t)
  pub once : (i j k m : ℕ) (e f : Entry) → IsEntry s i k e → IsEntry s j m f → e.ticket ≡ f.ticket → (i ≡ j) × (k ≡ m)

-- each entry follows from the problem and the entries of all logs with lower tickets
abbrev pub EachFollows : Problem → State → Type 0
EachFollows p s = (i k : ℕ) (e : Entry) → IsEntry s i k e → Follows p (clauses_below e.ticket s.workers) e.lemma

-- each entry is true in each consistent assignment
abbrev pub EachIsTrue : Problem → State → Type 0
EachIsTrue p s = (i k : ℕ) (e : Entry) → IsEntry s i k e → (assignment : List Bool) → IsConsistent p assignment → IsSatisfied assignment e.lemma.lits

-- shared entries are of the worker's own log, and what may be read was shared
abbrev pub SharedIsOwn : State → Type 0
SharedIsOwn s =
    (i : ℕ) → ((e : Entry) → Contains (worker s i).shared e → Contains (worker s i).log e) × ((j : ℕ) → slice_index (worker s i).may_read j ≤ length (worker s j).shared)

-- the problem has no consistent assignment
abbrev pub IsRefuted : Problem → Type 0
IsRefuted p = (assignment : List Bool) → ¬ IsConsistent p assignment

-- the verdict Unsafe stands only where some assignment is consistent; Safe only where some log has the empty clause, and then no assignment is
abbrev pub IsRight : Problem → State → Option Verdict → Type 0
IsRight p s None = ⊤
IsRight p s (Some Unsafe) = (assignment : List Bool) × IsConsistent p assignment
IsRight p s (Some Safe) = ((i : ℕ) × (k : ℕ) × (e : Entry) × IsEntry s i k e × (e.lemma.lits ≡ [])) × IsRefuted p

-- the entries of all logs in the order of their tickets
pub record IsMerged (s : State) (merged : List Entry) : Type 0 where
  pub all : length merged ≡ s.next
  pub each : (k : ℕ) (e : Entry) → slice_get merged k ≡ Some e → (e.ticket ≡ k) × ((i : ℕ) × (m : ℕ) × IsEntry s i m e)

-- such a list exists, and any such list is a good log: each entry follows from those before it
abbrev pub MergedIsGood : Problem → State → Type 0
MergedIsGood p s =
    ((merged : List Entry) × IsMerged s merged) × ((merged : List Entry) → IsMerged s merged → FollowInTurn p [] (map (λ (e : Entry). e.lemma) merged))

-- what holds of the core at every moment
pub record IsSound (p : Problem) (s : State) : Type 0 where
  pub tickets : TicketsOnce s
  -- the logs have as many entries together as tickets were drawn
  pub total : sum_by (λ (w : Worker). length w.log) s.workers ≡ s.next
  pub follows : EachFollows p s
  pub valid : EachIsTrue p s
  pub shared : SharedIsOwn s
  pub verdict : IsRight p s s.verdict
  pub merged : MergedIsGood p s

-- after any list of events from the start it holds
abbrev pub SoundAfterEvents : Type 0
SoundAfterEvents = (p : Problem) (n : ℕ) (s : State) → IsReached p n s → IsSound p s

-- each kind of event keeps it, from any state where it holds
abbrev pub SoundIsKept : Type 0
SoundIsKept = (p : Problem) (s : State) (event : Event) → IsSound p s → MayHappen p s event → IsSound p (after s event)

-- no two opposite offers may happen, not even in two runs on one problem
abbrev pub NoOppositeOffers : Type 0
NoOppositeOffers =
    (p : Problem) (n m : ℕ) (s t : State) → IsReached p n s → IsReached p m t → (i j : ℕ) → MayHappen p s (Offer i Safe) → MayHappen p t (Offer j Unsafe) → ⊥

-- a verdict that stands stays
abbrev pub VerdictStays : Type 0
VerdictStays = (s : State) (events : List Event) (v : Verdict) → s.verdict ≡ Some v → (run events s).verdict ≡ Some v
