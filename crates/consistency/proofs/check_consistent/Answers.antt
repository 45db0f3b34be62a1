use Rattle.std.proofs.Common.{◌∙◌}
use Rattle.consistency.specs.declared.Inconsistent.TheVariants.{LocalCycle, GlobalCycle, BlockCycle}
use Rattle.consistency.specs.declared.relations.Condition.TheVariants.{Local, Global}
use Rattle.consistency.specs.Seen.{execution_seen}
use Rattle.consistency.specs.Relations.{Edge}
use Rattle.consistency.proofs.Deciding.{evidence_breaks, ends_below, lists_of, blocks_numbered, none_found, one_found, no_blocks_found, blocks_found}
use Rattle.consistency.proofs.check_consistent.Goals as goal

pub event_cycle-requires-clause-ends : goal.event_cycle-requires-clause-ends
event_cycle-requires-clause-ends c =
    ends_below c.as_slice-nodes.result.now (Edge Local (execution_seen c.args.threads.now c.args.rf.now c.args.co.now)) c.as_slice.result.now (lists_of c.args.threads.now c.args.rf.now c.args.co.now c.requires c.as_slice-nodes.result.now (c.as_slice-nodes.ensures ∙ c.in_ok-nodes.ensures.nodes) Local c.as_slice.result.now (c.as_slice.ensures ∙ c.in_ok-local.ensures))

pub returns-in-Some-clause-evidence : goal.returns-in-Some-clause-evidence
returns-in-Some-clause-evidence c =
    one_found c.args.threads.now c.args.rf.now c.args.co.now c.requires c.as_slice-nodes.result.now (c.as_slice-nodes.ensures ∙ c.in_ok-nodes.ensures.nodes) Local c.as_slice.result.now c.in_ok-cycle.field-0 c.in-Some.cycle (c.as_slice.ensures ∙ c.in_ok-local.ensures) c.in_ok-cycle.ensures c.in-Some.is

pub returns-in-Some-clause-first_broken : goal.returns-in-Some-clause-first_broken
returns-in-Some-clause-first_broken c =
    evidence_breaks c.args.model (execution_seen c.args.threads.now c.args.rf.now c.args.co.now) (LocalCycle c.in-Some.cycle)
    (one_found c.args.threads.now c.args.rf.now c.args.co.now c.requires c.as_slice-nodes.result.now (c.as_slice-nodes.ensures ∙ c.in_ok-nodes.ensures.nodes) Local c.as_slice.result.now c.in_ok-cycle.field-0 c.in-Some.cycle (c.as_slice.ensures ∙ c.in_ok-local.ensures) c.in_ok-cycle.ensures c.in-Some.is)

pub event_cycle-requires-2-clause-ends : goal.event_cycle-requires-2-clause-ends
event_cycle-requires-2-clause-ends c =
    ends_below c.as_slice-nodes.result.now (Edge (Global c.args.model) (execution_seen c.args.threads.now c.args.rf.now c.args.co.now)) c.as_slice-2.result.now (lists_of c.args.threads.now c.args.rf.now c.args.co.now c.requires c.as_slice-nodes.result.now (c.as_slice-nodes.ensures ∙ c.in_ok-nodes.ensures.nodes) (Global c.args.model) c.as_slice-2.result.now (c.as_slice-2.ensures ∙ c.in_ok-global.ensures))

pub returns-in-Some-2-clause-evidence : goal.returns-in-Some-2-clause-evidence
returns-in-Some-2-clause-evidence c =
    (none_found c.args.threads.now c.args.rf.now c.args.co.now c.requires c.as_slice-nodes.result.now (c.as_slice-nodes.ensures ∙ c.in_ok-nodes.ensures.nodes) Local c.as_slice.result.now c.in_ok-cycle.field-0 (c.as_slice.ensures ∙ c.in_ok-local.ensures) c.in_ok-cycle.ensures c.in_default.not-Some, one_found c.args.threads.now c.args.rf.now c.args.co.now c.requires c.as_slice-nodes.result.now (c.as_slice-nodes.ensures ∙ c.in_ok-nodes.ensures.nodes) (Global c.args.model) c.as_slice-2.result.now c.in_ok-cycle-2.field-0 c.in-Some-2.cycle (c.as_slice-2.ensures ∙ c.in_ok-global.ensures) c.in_ok-cycle-2.ensures c.in-Some-2.is)

pub returns-in-Some-2-clause-first_broken : goal.returns-in-Some-2-clause-first_broken
returns-in-Some-2-clause-first_broken c =
    evidence_breaks c.args.model (execution_seen c.args.threads.now c.args.rf.now c.args.co.now) (GlobalCycle c.in-Some-2.cycle)
    (none_found c.args.threads.now c.args.rf.now c.args.co.now c.requires c.as_slice-nodes.result.now (c.as_slice-nodes.ensures ∙ c.in_ok-nodes.ensures.nodes) Local c.as_slice.result.now c.in_ok-cycle.field-0 (c.as_slice.ensures ∙ c.in_ok-local.ensures) c.in_ok-cycle.ensures c.in_default.not-Some, one_found c.args.threads.now c.args.rf.now c.args.co.now c.requires c.as_slice-nodes.result.now (c.as_slice-nodes.ensures ∙ c.in_ok-nodes.ensures.nodes) (Global c.args.model) c.as_slice-2.result.now c.in_ok-cycle-2.field-0 c.in-Some-2.cycle (c.as_slice-2.ensures ∙ c.in_ok-global.ensures) c.in_ok-cycle-2.ensures c.in-Some-2.is)

pub block_cycle-requires-clause-ends : goal.block_cycle-requires-clause-ends
block_cycle-requires-clause-ends c =
    ends_below c.as_slice-nodes.result.now (Edge (Global c.args.model) (execution_seen c.args.threads.now c.args.rf.now c.args.co.now)) c.as_slice-3.result.now (lists_of c.args.threads.now c.args.rf.now c.args.co.now c.requires c.as_slice-nodes.result.now (c.as_slice-nodes.ensures ∙ c.in_ok-nodes.ensures.nodes) (Global c.args.model) c.as_slice-3.result.now (c.as_slice-3.ensures ∙ c.in_ok-global.ensures))

pub block_cycle-requires-clause-blocks : goal.block_cycle-requires-clause-blocks
block_cycle-requires-clause-blocks c =
    blocks_numbered c.args.threads.now c.args.rf.now c.args.co.now c.requires c.as_slice-nodes.result.now (c.as_slice-nodes.ensures ∙ c.in_ok-nodes.ensures.nodes)

pub returns-in-Some-3-clause-evidence : goal.returns-in-Some-3-clause-evidence
returns-in-Some-3-clause-evidence c =
    (none_found c.args.threads.now c.args.rf.now c.args.co.now c.requires c.as_slice-nodes.result.now (c.as_slice-nodes.ensures ∙ c.in_ok-nodes.ensures.nodes) Local c.as_slice.result.now c.in_ok-cycle.field-0 (c.as_slice.ensures ∙ c.in_ok-local.ensures) c.in_ok-cycle.ensures c.in_default.not-Some, none_found c.args.threads.now c.args.rf.now c.args.co.now c.requires c.as_slice-nodes.result.now (c.as_slice-nodes.ensures ∙ c.in_ok-nodes.ensures.nodes) (Global c.args.model) c.as_slice-2.result.now c.in_ok-cycle-2.field-0 (c.as_slice-2.ensures ∙ c.in_ok-global.ensures) c.in_ok-cycle-2.ensures c.in_default-2.not-Some, blocks_found c.args.threads.now c.args.rf.now c.args.co.now c.requires c.as_slice-nodes.result.now (c.as_slice-nodes.ensures ∙ c.in_ok-nodes.ensures.nodes) c.args.model c.as_slice-3.result.now c.in_ok-ends.field-0 c.in-Some-3.ends (c.as_slice-3.ensures ∙ c.in_ok-global.ensures) c.in_ok-ends.ensures c.in-Some-3.is)

pub returns-in-Some-3-clause-first_broken : goal.returns-in-Some-3-clause-first_broken
returns-in-Some-3-clause-first_broken c =
    evidence_breaks c.args.model (execution_seen c.args.threads.now c.args.rf.now c.args.co.now) (BlockCycle c.in-Some-3.ends)
    (none_found c.args.threads.now c.args.rf.now c.args.co.now c.requires c.as_slice-nodes.result.now (c.as_slice-nodes.ensures ∙ c.in_ok-nodes.ensures.nodes) Local c.as_slice.result.now c.in_ok-cycle.field-0 (c.as_slice.ensures ∙ c.in_ok-local.ensures) c.in_ok-cycle.ensures c.in_default.not-Some, none_found c.args.threads.now c.args.rf.now c.args.co.now c.requires c.as_slice-nodes.result.now (c.as_slice-nodes.ensures ∙ c.in_ok-nodes.ensures.nodes) (Global c.args.model) c.as_slice-2.result.now c.in_ok-cycle-2.field-0 (c.as_slice-2.ensures ∙ c.in_ok-global.ensures) c.in_ok-cycle-2.ensures c.in_default-2.not-Some, blocks_found c.args.threads.now c.args.rf.now c.args.co.now c.requires c.as_slice-nodes.result.now (c.as_slice-nodes.ensures ∙ c.in_ok-nodes.ensures.nodes) c.args.model c.as_slice-3.result.now c.in_ok-ends.field-0 c.in-Some-3.ends (c.as_slice-3.ensures ∙ c.in_ok-global.ensures) c.in_ok-ends.ensures c.in-Some-3.is)

pub returns-clause-consistent : goal.returns-clause-consistent
returns-clause-consistent c = record {
  local = none_found c.args.threads.now c.args.rf.now c.args.co.now c.requires c.as_slice-nodes.result.now (c.as_slice-nodes.ensures ∙ c.in_ok-nodes.ensures.nodes) Local c.as_slice.result.now c.in_ok-cycle.field-0 (c.as_slice.ensures ∙ c.in_ok-local.ensures) c.in_ok-cycle.ensures c.in_default.not-Some;
  global = none_found c.args.threads.now c.args.rf.now c.args.co.now c.requires c.as_slice-nodes.result.now (c.as_slice-nodes.ensures ∙ c.in_ok-nodes.ensures.nodes) (Global c.args.model) c.as_slice-2.result.now c.in_ok-cycle-2.field-0 (c.as_slice-2.ensures ∙ c.in_ok-global.ensures) c.in_ok-cycle-2.ensures c.in_default-2.not-Some;
  blocks = no_blocks_found c.args.threads.now c.args.rf.now c.args.co.now c.requires c.as_slice-nodes.result.now (c.as_slice-nodes.ensures ∙ c.in_ok-nodes.ensures.nodes) c.args.model c.as_slice-3.result.now c.in_ok-ends.field-0 (c.as_slice-3.ensures ∙ c.in_ok-global.ensures) c.in_ok-ends.ensures c.in_default-3.not-Some;
}
