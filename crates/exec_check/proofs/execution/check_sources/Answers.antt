use Rattle.std.proofs.Common.{Some, None, sym, ◌∙◌}
use Rattle.exec_check.proofs.Stages as stages
use Rattle.exec_check.proofs.execution.check_sources.Goals as goal

pub returns-in-Some-clause-broken : goal.returns-in-Some-clause-broken
returns-in-Some-clause-broken c =
    let p = c.args.checked.now in
    let k = c.args.candidate.now in
    let ws = c.args.event_actions.now in
    let first = stages.sources_told (Some c.in-Some.event) p.cells c.as_slice.result.now ws k.rf c.as_slice-2.result.now c.as_slice.ensures c.as_slice-2.ensures (sym c.bad_source.ensures ∙ c.in-Some.is) in
    λ m. (c.requires.children, stages.sources_break p k ws c.in-Some.event c.requires.checked c.requires.listed first)

pub returns-in-None-clause-sourced : goal.returns-in-None-clause-sourced
returns-in-None-clause-sourced c =
    let p = c.args.checked.now in
    let k = c.args.candidate.now in
    let ws = c.args.event_actions.now in
    let none = stages.sources_told None p.cells c.as_slice.result.now ws k.rf c.as_slice-2.result.now c.as_slice.ensures c.as_slice-2.ensures (sym c.bad_source.ensures ∙ c.in-None.is) in
    stages.sources_hold p k ws c.requires.checked c.requires.listed c.requires.children none
