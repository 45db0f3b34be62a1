use Rattle.std.proofs.Common.{◌≡◌, ◌++◌, map, drop}
use Rattle.event_graph.specs.Graphs.{guard_lit}
use Rattle.encode_match.specs.Parts.{bad_by, fail_by, guards_in}
use Rattle.encode.proofs.endings.Endings.add_steps.Given as goal

abbrev pub invariant-loop-step : goal.invariant-loop-step
invariant-loop-step l = record {
  bad : l.self.bad ++ map (guard_lit l.words) (guards_in bad_by (drop l.step-index l.steps)) ≡ l.initial.self.bad ++ map (guard_lit l.words) (guards_in bad_by l.steps);
  fails : l.self.fails ++ map (guard_lit l.words) (guards_in fail_by (drop l.step-index l.steps)) ≡ l.initial.self.fails ++ map (guard_lit l.words) (guards_in fail_by l.steps);
}
