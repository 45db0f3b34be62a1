-- The laws that make the encoding, over the records of the crates below alone. No public contract cites them.
use Rattle.std.specs.Prelude.{◌≡◌, List, Bool, length}
use Rattle.std.specs.List.{AllZip}
use Rattle.axiom_model.specs.declared.Candidate.{Candidate}
use Rattle.axiom_model.specs.declared.MemoryModel.{MemoryModel}
use Rattle.axiom_model.specs.Execution.{Execution}
use Rattle.axiom_model.specs.Failing.{Run, RunsTo, HasWords, execution_of, SomeFails}
use Rattle.axiom_model.specs.WellMade.{WellMade}
use Rattle.c_check.specs.declared.checked.Checked.{Checked}
use Rattle.run_model.specs.Programs.{shape_of}
use Rattle.run_model.specs.Threads.{thread_run, ProgramFails}
use Rattle.flat_prog.specs.declared.Flat.{Flat}
use Rattle.cnf_problem.specs.Literals.{AreSatisfied}
use Rattle.cnf_problem.specs.Problems.{IsConsistent}
use Rattle.order_vars.specs.Links.{Link}
use Rattle.encode_match.specs.declared.Encoded.{Encoded}
use Rattle.encode_match.specs.Spelling.{Spells, threads_of}
use Rattle.encode_match.specs.Encoding.{SameButForOrder, IsEncoding}
use Rattle.encode_match.specs.Parts.{IsChain}
use Rattle.encode_match.specs.Matching.{GraphHolds, MatchesThreads, Matches, SameCycles}

-- ---- nodes and events

-- the graphs of a problem hold where its clauses are true, with the chain's links
pub record GraphOf (m : MemoryModel) (x : Encoded) (s : List Bool) (links : List Link) : Type 0 where
  pub graph : GraphHolds m x s
  pub same_links : graph.links ≡ links

abbrev pub GraphsHold : Type 0
GraphsHold =
    (p : Checked) (m : MemoryModel) (flat : Flat) (x : Encoded) (s : List Bool) (chain : IsChain p m flat x)
    → AreSatisfied s x.problem.clauses → GraphOf m x s chain.made.orders.links

-- each list of threads that an assignment of the values' clauses spells has its runs, one for each thread, of words
pub record RunsOf (p : Checked) (x : Encoded) (s : List Bool) (c : Candidate) : Type 0 where
  pub runs : List Run
  pub whole : AllZip (RunsTo (thread_run p)) c.threads runs
  pub words : HasWords c

abbrev pub SpelledThreadsRun : Type 0
SpelledThreadsRun =
    (p : Checked) (m : MemoryModel) (flat : Flat) (x : Encoded) (s : List Bool) (c : Candidate) (chain : IsChain p m flat x)
    → AreSatisfied s chain.made.blasted.clauses → c.threads ≡ threads_of x s → RunsOf p x s c

-- and these match, whatever the relations
abbrev pub SpelledThreadsMatch : Type 0
SpelledThreadsMatch =
    (p : Checked) (m : MemoryModel) (flat : Flat) (x : Encoded) (s : List Bool) (c : Candidate) (runs : List Run) (chain : IsChain p m flat x)
    → AreSatisfied s chain.made.blasted.clauses → c.threads ≡ threads_of x s → AllZip (RunsTo (thread_run p)) c.threads runs
    → MatchesThreads x s (execution_of c runs)

-- ---- cycles

-- what matches has cycles in both or in neither
abbrev pub CyclesAgree : Type 0
CyclesAgree = (m : MemoryModel) (x : Encoded) (s : List Bool) (e : Execution) (g : GraphHolds m x s) → Matches x s g.links e → SameCycles m x s e

-- ---- both directions

-- a candidate that an assignment spells and matches, whose threads run as it says, which is well made and fails
pub record MatchOf (p : Checked) (x : Encoded) (s : List Bool) (links : List Link) : Type 0 where
  pub candidate : Candidate
  pub spelled : Spells x s candidate
  pub words : HasWords candidate
  pub runs : List Run
  pub whole : AllZip (RunsTo (thread_run p)) candidate.threads runs
  pub matches : Matches x s links (execution_of candidate runs)
  pub well_made : WellMade (shape_of p.program) (execution_of candidate runs)
  pub fails : SomeFails runs

-- each consistent assignment has one
abbrev pub AssignmentsMatch : Type 0
AssignmentsMatch =
    (p : Checked) (m : MemoryModel) (flat : Flat) (x : Encoded) (s : List Bool) (chain : IsChain p m flat x)
    → IsConsistent x.problem s → MatchOf p x s chain.made.orders.links

-- an assignment of the clauses that matches a failing execution, and spells it up to the order of its pairs
pub record AssignmentOf (p : Checked) (m : MemoryModel) (x : Encoded) (links : List Link) (c : Candidate) (fails : ProgramFails p m c) : Type 0 where
  pub assignment : List Bool
  pub values : length assignment ≡ x.problem.vars
  pub clauses : AreSatisfied assignment x.problem.clauses
  pub matches : Matches x assignment links (execution_of c fails.allowed.threads)
  pub sorted : Candidate
  pub same : SameButForOrder c sorted
  pub spelled : Spells x assignment sorted

-- each failing execution has one
abbrev pub FailuresMatch : Type 0
FailuresMatch =
    (p : Checked) (m : MemoryModel) (flat : Flat) (x : Encoded) (c : Candidate) (chain : IsChain p m flat x) (fails : ProgramFails p m c)
    → AssignmentOf p m x chain.made.orders.links c fails

-- a consistent assignment spells one candidate at most
abbrev pub SpelledOnce : Type 0
SpelledOnce =
    (p : Checked) (m : MemoryModel) (flat : Flat) (x : Encoded) (s : List Bool) (c d : Candidate) → IsChain p m flat x
    → IsConsistent x.problem s → Spells x s c → Spells x s d → c ≡ d

-- the whole, from these
abbrev pub ChainEncodes : Type 0
ChainEncodes = (p : Checked) (m : MemoryModel) (flat : Flat) (x : Encoded) → IsChain p m flat x → IsEncoding p x
