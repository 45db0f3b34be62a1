use Rattle.program_verdict.specs.declared.Failure.{Failure}
use Rattle.dg_top.specs.Answers.{Unsafe, unsafe}
use Rattle.dg_top.specs.Replies.{IsFailureReply, IsOneOf, IsUnsafe}
use Rattle.dg_top.proofs.Texts.{if_ok}
use Rattle.dg_top.proofs.Spellable.{spellable}
use Rattle.dg_top.proofs.Verdicts.{reordered_fails, reordered_first}
use Rattle.dg_top.proofs.verify.show_failure.Goals as goal

pub returns : goal.returns
returns c =
    let m = c.args.model in
    let p = c.args.checked.now in
    let f = c.args.failure in
    let d = c.in_ok-candidate.candidate in
    let same : Failure = record f { candidate = d } in
    let fails = reordered_fails p m f.candidate d c.in_ok-candidate.ensures.reordered c.requires.failure.fails in
    let first = reordered_first p m f.candidate d c.in_ok-candidate.ensures.reordered c.requires.failure.fails fails f.handle f.place f.bound c.requires.failure.first in
    if_ok c.unsafe_at.result (IsUnsafe p same c.args.witness.now) (IsOneOf (IsFailureReply m p c.args.witness.now)) (λ r told. record {
      answer = Unsafe told.witness f.handle f.place f.bound;
      kept = told.kept;
      allowed = λ effort log. unsafe d told.witness f.handle f.place f.bound told.kept told.spells fails first told.keeps;
      spelled = told.spelled;
    }) c.unsafe_at.ensures

pub unsafe_at-requires : goal.unsafe_at-requires
unsafe_at-requires c =
    let m = c.args.model in
    let p = c.args.checked.now in
    let d = c.in_ok-candidate.candidate in
    let fails = reordered_fails p m c.args.failure.candidate d c.in_ok-candidate.ensures.reordered c.requires.failure.fails in
    spellable p m d fails.allowed c.runs_are_short.ensures.of_candidates c.requires.checked c.in_ok-candidate.ensures.sorted
