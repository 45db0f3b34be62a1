use Rattle.std.proofs.Common.{◌≡◌, ◌++◌, map, drop}
use Rattle.event_graph.specs.Graphs.{guard_lit}
use Rattle.encode_match.specs.Parts.{bad_by, fail_by, guards_of}
use Rattle.encode.proofs.endings.endings_of.Given as goal

abbrev pub invariant-loop-part : goal.invariant-loop-part
invariant-loop-part l = record {
  bad : l.endings.bad ++ map (guard_lit l.words) (guards_of bad_by (drop l.part-index l.parts)) ≡ map (guard_lit l.words) (guards_of bad_by l.parts);
  fails : l.endings.fails ++ map (guard_lit l.words) (guards_of fail_by (drop l.part-index l.parts)) ≡ map (guard_lit l.words) (guards_of fail_by l.parts);
}
