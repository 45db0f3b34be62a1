use Rattle.program_verdict.proofs.Deciding.{is_safe, is_unknown, safe_workers, unknown_workers}
use Rattle.program_verdict.proofs.decide_program.Goals as goal

pub wanted_text-requires-clause-workers : goal.wanted_text-requires-clause-workers
wanted_text-requires-clause-workers g c =
    let x = c.in_ok-encoded in
    safe_workers c.args.checked.now c.args.model c.args.effort.now x.encoded c.in_ok-log.field-0 c.in-Safe.log x.ensures.same_model c.in_ok-log.ensures c.in-Safe.is c.requires.effort.few_workers

pub returns-in-Safe : goal.returns-in-Safe
returns-in-Safe g c =
    let x = c.in_ok-encoded in
    is_safe c.args.checked.now c.args.model c.args.effort.now x.encoded c.in_ok-log.field-0 c.in-Safe.log x.ensures.same_model c.in_ok-log.ensures c.in-Safe.is
    c.refuted_has_no_assignment.ensures c.encodings_decide.ensures.without x.ensures.encodes x.ensures.chain c.args.wants_log c.in_ok-text-in-Safe.text c.in_ok-text-in-Safe.ensures

pub wanted_text-requires-in-Unknown-clause-workers : goal.wanted_text-requires-in-Unknown-clause-workers
wanted_text-requires-in-Unknown-clause-workers g c =
    let x = c.in_ok-encoded in
    let u = c.in-Unknown in
    unknown_workers c.args.checked.now c.args.model c.args.effort.now x.encoded c.in_ok-log.field-0 u.log x.ensures.same_model c.in_ok-log.ensures u.reports u.is c.requires.effort.few_workers

pub returns : goal.returns
returns g c =
    let x = c.in_ok-encoded in
    let u = c.in-Unknown in
    is_unknown c.args.checked.now c.args.model c.args.effort.now x.encoded c.in_ok-log.field-0 u.log x.ensures.same_model c.in_ok-log.ensures u.reports u.is
    x.ensures.encodes x.ensures.chain c.args.wants_log c.in_ok-text-in-Unknown.text c.in_ok-text-in-Unknown.ensures
