-- Each consistent assignment spells a candidate that matches, is well made and fails.
use Rattle.std.proofs.Common.{◌≡◌, ℕ, ◌<◌, Bool, List, map, ap, ◌∙◌, subst}
use Rattle.std.specs.List.{AllZip}
use Rattle.axiom_model.specs.declared.MemoryModel.{MemoryModel}
use Rattle.axiom_model.specs.declared.ThreadPart.{ThreadPart}
use Rattle.axiom_model.specs.declared.Candidate.{Candidate}
use Rattle.axiom_model.specs.Execution.{Execution}
use Rattle.axiom_model.specs.Failing as failing
use Rattle.axiom_model.specs.Failing.{Run, RunsTo, execution_of, SomeFails}
use Rattle.axiom_model.specs.WellMade.{WellMade}
use Rattle.c_check.specs.declared.checked.Checked.{Checked}
use Rattle.run_model.specs.Programs.{shape_of}
use Rattle.run_model.specs.Threads.{thread_run}
use Rattle.run_laws.specs.Started.{StartedHandlesAreLow, StartedCreateFew}
use Rattle.run_laws.specs.Frames.{RunsAreFramed}
use Rattle.cnf_problem.specs.Literals.{AreSatisfied}
use Rattle.cnf_problem.specs.Problems.{IsConsistent}
use Rattle.bit_blast.specs.Blasting.{inputs_under}
use Rattle.flat_prog.specs.declared.Flat.{Flat}
use Rattle.ssa_form.specs.declared.SsaPart.{SsaPart}
use Rattle.ssa_form.specs.Form.{under}
use Rattle.event_graph.specs.Graphs.{events_of, bits_of}
use Rattle.event_graph.specs.Laws.{IsSpelled, EventsAreStatic, EventsArePossible, ActionsAreNodes, NodesAct, NodesAreInOrder, BlocksAreSections}
use Rattle.event_graph.proofs.Spelled.{words_fit}
use Rattle.order_vars.specs.Links.{Link}
use Rattle.order_vars.specs.Holding.{OrderHolds}
use Rattle.encode_match.specs.declared.Encoded.{Encoded}
use Rattle.encode_match.specs.Spelling.{Spells, threads_from}
use Rattle.encode_match.specs.Parts.{part_map, ending_clauses, words_of, IsChain}
use Rattle.encode_match.specs.Running.{IsRunning}
use Rattle.encode_match.specs.Matching.{GraphHolds, Matches}
use Rattle.encode_match.specs.Directions.{RunsOf, MatchOf, AssignmentsMatch}
use Rattle.encode_match.proofs.StartedParts.{RunsAreNumbered, handles_rise}
use Rattle.encode_match.proofs.HoldingGraphs.{satisfied_second, blasted_clauses, order_clauses, spelled, graphs_hold}
use Rattle.encode_match.proofs.SpelledRuns.{threads_are, spelled_threads_run}
use Rattle.encode_match.proofs.SpelledMatch.{ThreadsMatch, spelled_threads}
use Rattle.encode_match.proofs.FirstCandidate.{spelled_candidate}
use Rattle.encode_match.proofs.FirstMatch.{rf_field, rf_back_field, co_field, co_back_field}
use Rattle.encode_match.proofs.FirstReads.{reads_field, readers_field, lists_field, is_write_order}
use Rattle.encode_match.proofs.FirstJoins.{joins_field, joins_back_field, joined_field}
use Rattle.encode_match.proofs.FirstShape.{has_main_field, rising_field, known_field, created_field, creates_field, none_bad_field, some_fails}

module _ (p : Checked) (m : MemoryModel) (flat : Flat) (x : Encoded) (s : List Bool) (chain : IsChain p m flat x) (con : IsConsistent x.problem s) (g : GraphHolds m x s) (k : IsSpelled flat chain.made.form chain.made.words s)
    (c : Candidate) (sp : Spells x s c) (r : RunsOf p x s c) (t : ThreadsMatch x s (execution_of c r.runs)) (lows : StartedHandlesAreLow) (few : StartedCreateFew) (numbered : RunsAreNumbered) (framed : RunsAreFramed) where
  abbrev e : Execution
  e = execution_of c r.runs

  abbrev links : List Link
  links = chain.made.orders.links

  abbrev form_threads : List ThreadPart
  form_threads = threads_from s 0 (events_of chain.made.form chain.made.words) (bits_of chain.made.form chain.made.words) (map (part_map chain.made.words) chain.made.form.parts)

  holds : OrderHolds x.map.graph.events (words_of x.map.graph.bits) links s
  holds = (chain.made.orders.exact s).0 (order_clauses m flat x s chain.made con.clauses)

  is_matching : Matches x s links e
  is_matching = record {
    threads = t.matches;
    rf = rf_field m flat x s chain.made g con c sp r.runs;
    rf_back = rf_back_field m flat x s chain.made g con c sp r.runs;
    co = co_field m flat x s chain.made g con c sp r.runs;
    co_back = co_back_field m flat x s chain.made g con c sp r.runs;
    joins = joins_field p framed x s links (λ l h. (chain.made.orders.sound l h).0) holds c r.runs r.whole t.matches t.own_ends;
    joins_back = joins_back_field p framed x s links (λ l h. (chain.made.orders.sound l h).0) holds c r.runs r.whole t.matches t.own_ends;
  }

  -- ---- well made

  parts_same : c.threads ≡ form_threads
  parts_same = sp.threads ∙ threads_are m flat x s chain.made

  threads_same : e.threads ≡ failing.threads_of form_threads r.runs
  threads_same = ap (λ (l : List ThreadPart). failing.threads_of l r.runs) parts_same

  whole_same : AllZip (RunsTo (thread_run p)) form_threads r.runs
  whole_same = subst (λ (l : List ThreadPart). AllZip (RunsTo (thread_run p)) l r.runs) parts_same r.whole

  rise : (i j : ℕ) (a b : SsaPart) → IsRunning chain.made.form (under (inputs_under s chain.made.words) chain.made.form) i a → IsRunning chain.made.form (under (inputs_under s chain.made.words) chain.made.form) j b → i < j
      → under (inputs_under s chain.made.words) chain.made.form a.handle < under (inputs_under s chain.made.words) chain.made.form b.handle
  rise i j a b ra rb l =
      handles_rise lows few numbered p flat chain.made.form (inputs_under s chain.made.words) i j a b chain.checked chain.unrolled chain.made.is_form (words_fit flat chain.made.form chain.made.words s k) ra rb l

  endings : AreSatisfied s (ending_clauses chain.made.words chain.made.form.parts)
  endings = satisfied_second s chain.made.ordered.clauses (ending_clauses chain.made.words chain.made.form.parts) (subst (AreSatisfied s) chain.made.clauses con.clauses)

  is_well_made : WellMade (shape_of p.program) e
  is_well_made = record {
    has_main = has_main_field p flat chain.made.form chain.made.words s k chain.checked chain.unrolled lows rise e r.runs threads_same whole_same;
    rising = rising_field p flat chain.made.form chain.made.words s k chain.checked chain.unrolled lows rise e r.runs threads_same whole_same;
    known = known_field p flat chain.made.form chain.made.words s k chain.checked chain.unrolled lows rise e r.runs threads_same whole_same;
    none_bad = none_bad_field p flat chain.made.form chain.made.words s k chain.checked chain.unrolled lows rise e r.runs threads_same whole_same endings;
    created = created_field p flat chain.made.form chain.made.words s k chain.checked chain.unrolled lows rise e r.runs threads_same whole_same;
    creates = creates_field p flat chain.made.form chain.made.words s k chain.checked chain.unrolled lows rise e r.runs threads_same whole_same;
    reads = reads_field p m flat x s chain.unrolled chain.made k g con c sp r.runs t.matches;
    readers = readers_field p m flat x s chain.unrolled chain.made k g con c sp r.runs t.matches;
    lists = lists_field p m flat x s chain.unrolled chain.made k g con c sp r.runs t.matches;
    orders = is_write_order p m flat x s chain.unrolled chain.made k g con c sp r.runs t.matches;
    joins = joined_field p framed x s links (λ l h. (chain.made.orders.sound l h).0) holds c r.runs r.whole t.matches t.own_ends;
  }

  fails : SomeFails r.runs
  fails = some_fails p flat chain.made.form chain.made.words s k chain.checked chain.unrolled lows rise e r.runs threads_same whole_same endings

  match_of : MatchOf p x s links
  match_of = record { candidate = c; spelled = sp; words = r.words; runs = r.runs; whole = r.whole; matches = is_matching; well_made = is_well_made; fails = fails }

-- each consistent assignment spells a candidate that matches, is well made and fails
pub assignments_match : StartedHandlesAreLow → StartedCreateFew → RunsAreNumbered → RunsAreFramed → EventsAreStatic → EventsArePossible → ActionsAreNodes → NodesAct → NodesAreInOrder → BlocksAreSections → AssignmentsMatch
assignments_match lows few numbered framed static possible nodes act order sections p m flat x s chain con =
    let blasted = blasted_clauses m flat x s chain.made con.clauses in
    let g = (graphs_hold static possible p m flat x s chain con.clauses).graph in
    let d = spelled_candidate m flat x s chain.made g con in
    let r = spelled_threads_run lows p m flat x s d.0 chain blasted d.1.threads in
    let t = spelled_threads lows few numbered static nodes act order sections p m flat x s d.0 r.runs chain blasted d.1.threads r.whole in
    match_of p m flat x s chain con g (spelled m flat x s chain.made blasted) d.0 d.1 r t lows few numbered framed
