-- Each failing execution has an assignment that makes the clauses true, matches it and spells it.
use Rattle.std.proofs.Common.{◌≡◌, Bool, List, ◌++◌, sym, ◌∙◌}
use Rattle.axiom_model.specs.declared.MemoryModel.{MemoryModel}
use Rattle.axiom_model.specs.declared.Candidate.{Candidate}
use Rattle.c_check.specs.declared.checked.Checked.{Checked}
use Rattle.run_model.specs.Threads.{ProgramFails}
use Rattle.run_laws.specs.Started.{StartedHandlesAreLow, StartedCreateFew, StartedCreatesDiffer, CreatesDifferInARun}
use Rattle.run_laws.specs.Frames.{RunsAreFramed}
use Rattle.cnf_problem.specs.Literals.{AreSatisfied}
use Rattle.flat_prog.specs.declared.Flat.{Flat}
use Rattle.ssa_form.specs.Laws.{ScriptsCanBeTaken, EarlierPartsStay}
use Rattle.event_graph.specs.Laws.{EventsAreStatic, EventsArePossible, ActionsAreNodes, NodesAct, NodesAreInOrder, BlocksAreSections}
use Rattle.encode_order.specs.Choices.{ChoicesCanBeMade}
use Rattle.encode_match.specs.declared.Encoded.{Encoded}
use Rattle.encode_match.specs.Spelling.{threads_of}
use Rattle.encode_match.specs.Parts.{IsChain}
use Rattle.encode_match.specs.Directions.{FailuresMatch}
use Rattle.encode_match.proofs.StartedParts.{RunsAreNumbered}
use Rattle.encode_match.proofs.HoldingGraphs.{graphs_hold}
use Rattle.encode_match.proofs.SpelledMatch.{spelled_threads}
use Rattle.encode_match.proofs.First.{assignments_match}
use Rattle.encode_match.proofs.SecondTaken.{threads_taken}
use Rattle.encode_match.proofs.SecondEndings.{endings_hold}
use Rattle.encode_match.proofs.SecondKept.{are_events_over, all_clauses, clauses_up, threads_same, event_up, event_down}
use Rattle.encode_match.proofs.SecondNodes.{Played}
use Rattle.encode_match.proofs.SecondChoice.{makes}
use Rattle.encode_match.proofs.SecondMatch.{matches_now}
use Rattle.encode_match.proofs.SecondSpells.{assignment_of}

-- an assignment that spells the threads of a failing execution plays it
played : StartedHandlesAreLow → StartedCreateFew → RunsAreNumbered → EventsAreStatic → ActionsAreNodes → NodesAct → NodesAreInOrder → BlocksAreSections
    → (p : Checked) (m : MemoryModel) (flat : Flat) (x : Encoded) (c : Candidate) (chain : IsChain p m flat x) (fails : ProgramFails p m c) (s : List Bool)
    → AreSatisfied s chain.made.blasted.clauses → c.threads ≡ threads_of x s → Played p m flat x chain c fails.allowed.threads s
played lows few numbered static nodes act order sections p m flat x c chain fails s clauses same =
    let t = spelled_threads lows few numbered static nodes act order sections p m flat x s c fails.allowed.threads chain clauses same fails.allowed.whole in
    record {
      whole = fails.allowed.whole;
      well_made = fails.allowed.well_made;
      clauses = clauses;
      matches = t.matches;
      own_ends = t.own_ends;
      over = are_events_over m flat x chain.made;
    }

-- each failing execution has an assignment
pub failures_match : StartedHandlesAreLow → StartedCreateFew → RunsAreNumbered → RunsAreFramed → StartedCreatesDiffer → CreatesDifferInARun → ScriptsCanBeTaken → EarlierPartsStay
    → EventsAreStatic → EventsArePossible → ActionsAreNodes → NodesAct → NodesAreInOrder → BlocksAreSections → ChoicesCanBeMade → FailuresMatch
failures_match lows few numbered framed differ once takes stay static possible nodes act order sections choices p m flat x c chain fails =
    let made = chain.made in
    let t = threads_taken lows few numbered differ once takes stay static nodes act order sections p m flat x c chain fails in
    let s = t.assignment in
    let k = played lows few numbered static nodes act order sections p m flat x c chain fails s t.clauses t.threads in
    let by = makes k choices framed t.values in
    let now = s ++ by.more in
    let clauses = clauses_up m flat x made s by.more t.values t.clauses in
    let threads = t.threads ∙ sym (threads_same m flat x made s by.more t.values) in
    let u = played lows few numbered static nodes act order sections p m flat x c chain fails now clauses threads in
    let endings = endings_hold lows p m flat x c chain fails now clauses threads in
    assignment_of (graphs_hold static possible) (assignments_match lows few numbered framed static possible nodes act order sections) p m flat x c chain fails now
    (by.values ∙ sym made.vars)
    (all_clauses m flat x made now clauses by.clauses endings)
    threads
    (matches_now k by u (event_up m flat x made s by.more t.values) (event_down m flat x made s by.more t.values) framed)
