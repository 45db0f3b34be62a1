use Rattle.std.proofs.Common.{List, IfOk, subst, sym}
use Rattle.std.specs.Prelude.{is_some, option_map}
use Rattle.verdict_run.specs.declared.decision.Report.{Report}
use Rattle.program_log.specs.Logs.{IsHintedText}
use Rattle.program_verdict.specs.declared.ProgramVerdict.TheVariants as verdict
use Rattle.program_verdict.specs.Verdicts.{IsKeptProof}
use Rattle.dg_top.specs.Answers.{IsVerdict, KeepsIn, Safe, Unknown, effort_of, safe, unknown}
use Rattle.dg_top.specs.Replies.{IsOneOf, Spells, kept_of}
use Rattle.dg_top.proofs.Texts.{if_ok}
use Rattle.dg_top.proofs.Verdicts.{keeps, same_verdict}
use Rattle.dg_top.proofs.verify.decide.Goals as goal

pub returns-in_ok-kept-in-Safe : goal.returns-in_ok-kept-in-Safe
returns-in_ok-kept-in-Safe g c =
    let s = c.args.settings.now in
    let p = c.args.checked.now in
    let log = c.args.log.now in
    let kept = option_map kept_of c.in_ok-kept-in-Safe.kept in
    let told = same_verdict p s.model c.effort_of-effort.result (effort_of s) c.is_some.result (is_some log) c.in_ok-text.field-0 (verdict.Safe c.in-Safe.text) c.effort_of-effort.ensures c.is_some.ensures c.in-Safe.is c.in_ok-text.ensures in
    let into = subst (KeepsIn (IsKeptProof p s.model) log) (sym c.in_ok-kept-in-Safe.ensures) (keeps (IsKeptProof p s.model) log c.in-Safe.text told.1) in
    if_ok c.safe.result (Spells Safe kept) (IsOneOf (IsVerdict s.model (effort_of s) p log c.args.witness.now)) (λ r spelled. record {
      answer = Safe;
      kept = kept;
      allowed = safe kept told.0 into;
      spelled = spelled;
    }) c.safe.ensures

pub returns-in_ok-kept-in-Unknown : goal.returns-in_ok-kept-in-Unknown
returns-in_ok-kept-in-Unknown g c =
    let s = c.args.settings.now in
    let p = c.args.checked.now in
    let log = c.args.log.now in
    let reports = c.in-Unknown.reports in
    let kept = option_map kept_of c.in_ok-kept-in-Unknown.kept in
    let told = same_verdict p s.model c.effort_of-effort.result (effort_of s) c.is_some.result (is_some log) c.in_ok-text.field-0 (verdict.Unknown reports c.in-Unknown.text) c.effort_of-effort.ensures c.is_some.ensures c.in-Unknown.is c.in_ok-text.ensures in
    let text = IsHintedText p told.0.encoded told.0.log in
    let into = subst (KeepsIn text log) (sym c.in_ok-kept-in-Unknown.ensures) (keeps text log c.in-Unknown.text told.1) in
    if_ok c.unknown.result (Spells (Unknown reports) kept) (IsOneOf (IsVerdict s.model (effort_of s) p log c.args.witness.now)) (λ r spelled. record {
      answer = Unknown reports;
      kept = kept;
      allowed = unknown reports kept told.0 into;
      spelled = spelled;
    }) (subst (λ (l : List Report). IfOk c.unknown.result (Spells (Unknown l) kept)) c.as_slice.ensures c.unknown.ensures)
