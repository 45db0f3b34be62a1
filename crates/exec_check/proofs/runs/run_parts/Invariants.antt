use Rattle.std.proofs.Common.{◌≡◌, ◌++◌, ◌<◌, ◌^◌, map, drop, true, false, All}
use Rattle.std.specs.List.{AllWithin}
use Rattle.axiom_model.specs.declared.ThreadPart.{ThreadPart}
use Rattle.c_rules.specs.Names.{or_else}
use Rattle.consistency.specs.Seen.{thread_seen}
use Rattle.exec_check.specs.ThreadTests as tests
use Rattle.exec_check.proofs.runs.run_parts.Given as goal

abbrev pub invariant-loop-part : goal.invariant-loop-part
invariant-loop-part l = record {
  words : AllWithin (λ (t : ThreadPart). All (λ v. v < 2 ^ 32) t.script) l.parts 0 l.part-index;
  wrong : tests.first_wrong l.checked (drop l.part-index l.parts) ≡ tests.first_wrong l.checked l.parts;
  seen : map thread_seen l.threads ++ map (tests.seen_by l.checked) (drop l.part-index l.parts) ≡ map (tests.seen_by l.checked) l.parts;
  first : or_else l.first (tests.first_failing false l.checked (drop l.part-index l.parts)) ≡ tests.first_failing false l.checked l.parts;
  bound : or_else l.bound (tests.first_failing true l.checked (drop l.part-index l.parts)) ≡ tests.first_failing true l.checked l.parts;
}
