use Rattle.std.proofs.Common.{◌≢◌, None, refl}
use Rattle.exec_check.specs.declared.Reject.TheVariants.{OutOfMemory}
use Rattle.program_verdict.proofs.Deciding.{first_of}
use Rattle.dg_top.specs.Answers.{Failing, Rejected, failing, rejected}
use Rattle.dg_top.specs.Replies.{IsOneOf, OfWitness, Spells}
use Rattle.dg_top.proofs.Texts.{if_ok}
use Rattle.dg_top.proofs.replay.replay_candidate.Goals as goal

pub returns-in-Ok : goal.returns-in-Ok
returns-in-Ok c =
    let p = c.args.checked.now in
    let f = c.in-Ok.failing in
    let x = c.in-Ok.ensures.fails in
    if_ok c.failing_at.result (Spells (Failing f.handle f.place f.bound) None) (IsOneOf (OfWitness c.args.model p c.args.witness.now)) (λ r spelled. record {
      answer = Failing f.handle f.place f.bound;
      kept = None;
      allowed = (failing c.args.candidate.now f.handle f.place f.bound c.requires.spelled x (first_of p c.args.model c.args.candidate.now x f.handle f.place f.bound c.in-Ok.ensures.first), refl);
      spelled = spelled;
    }) c.failing_at.ensures

pub returns-in-Err : goal.returns-in-Err
returns-in-Err c =
    let p = c.args.checked.now in
    let e = c.in-Err.why in
    if_ok c.reject.result (λ r. Spells (Rejected p e) None r × (e ≢ OutOfMemory)) (IsOneOf (OfWitness c.args.model p c.args.witness.now)) (λ r told. record {
      answer = Rejected p e;
      kept = None;
      allowed = (rejected c.args.candidate.now e c.requires.spelled c.in-Err.ensures.broken told.1, refl);
      spelled = told.0;
    }) c.reject.ensures
