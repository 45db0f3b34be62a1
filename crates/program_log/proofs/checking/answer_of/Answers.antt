use Rattle.std.proofs.Common.{ℕ, List, subst}
use Rattle.program_log.specs.declared.answers.LogAnswer.{LogAnswer}
use Rattle.program_log.specs.declared.answers.LogAnswer.TheVariants.{Refused}
use Rattle.program_log.specs.Heads.{head_of}
use Rattle.program_log.specs.Logs.{IsAnswerFor}
use Rattle.program_log.specs.Pieces.{IsWhole}
use Rattle.program_log.proofs.Ending.{failed_refused, hinted_accepted, hinted_in_order, hinted_matched, hinted_refused, is_other, plain_accepted, plain_refused}
use Rattle.program_log.proofs.Standings.{told_so}
use Rattle.program_log.proofs.checking.answer_of.Goals as goal

pub check_collected-requires-clause-in_order : goal.check_collected-requires-clause-in_order
check_collected-requires-clause-in_order c =
    let p = c.args.checked.now in
    let x = c.args.encoded.now in
    let text = c.requires.whole.0 in
    hinted_in_order p x text c.requires.numbers c.in-Hinted.entries c.in-Hinted.hints (subst (IsWhole x.problem (head_of p x) text) c.in-Hinted.is c.requires.whole.1)

pub check_collected-requires-clause-matched : goal.check_collected-requires-clause-matched
check_collected-requires-clause-matched c =
    let p = c.args.checked.now in
    let x = c.args.encoded.now in
    let text = c.requires.whole.0 in
    hinted_matched p x text c.requires.numbers c.in-Hinted.entries c.in-Hinted.hints (subst (IsWhole x.problem (head_of p x) text) c.in-Hinted.is c.requires.whole.1)

pub returns-in-Other : goal.returns-in-Other
returns-in-Other c text h =
    let p = c.args.checked.now in
    let x = c.args.encoded.now in
    is_other p x text c.in-Other.other c.other_problem.result c.other_problem.ensures (subst (IsWhole x.problem (head_of p x) text) c.in-Other.is h)

pub returns-in-Failed : goal.returns-in-Failed
returns-in-Failed c =
    let p = c.args.checked.now in
    let x = c.args.encoded.now in
    let why = c.in-Failed.why in
    let Told = λ (a : LogAnswer). (text : List ℕ) → IsWhole x.problem (head_of p x) text c.args.standing → IsAnswerFor p x text a in
    told_so c.refused.result (Refused why) why Told c.refused.ensures.is c.refused.ensures.told
    (λ not text h. failed_refused p x text c.requires.numbers why (subst (IsWhole x.problem (head_of p x) text) c.in-Failed.is h))

pub returns-in-Ok : goal.returns-in-Ok
returns-in-Ok c text h =
    let p = c.args.checked.now in
    let x = c.args.encoded.now in
    plain_accepted p x text c.requires.numbers c.in-Plain.checker c.in-Ok.accepted.entries (λ es taken. c.in-Ok.ensures.ok x.problem es taken) (subst (IsWhole x.problem (head_of p x) text) c.in-Plain.is h)

pub returns-in-Err : goal.returns-in-Err
returns-in-Err c =
    let p = c.args.checked.now in
    let x = c.args.encoded.now in
    let why = c.in-Err.why in
    let Told = λ (a : LogAnswer). (text : List ℕ) → IsWhole x.problem (head_of p x) text c.args.standing → IsAnswerFor p x text a in
    told_so c.refused-in-Err.result (Refused why) why Told c.refused-in-Err.ensures.is c.refused-in-Err.ensures.told
    (λ not text h. plain_refused p x text c.requires.numbers c.in-Plain.checker why (λ es taken. c.in-Err.ensures.refused x.problem es taken) not (subst (IsWhole x.problem (head_of p x) text) c.in-Plain.is h))

pub returns-in-Ok-check_collected : goal.returns-in-Ok-check_collected
returns-in-Ok-check_collected c text h =
    let p = c.args.checked.now in
    let x = c.args.encoded.now in
    let told = c.in-Ok-check_collected.ensures in
    hinted_accepted p x text c.requires.numbers c.in-Hinted.entries c.in-Hinted.hints c.in-Ok-check_collected.accepted.entries told.good told.ends_empty told.count (subst (IsWhole x.problem (head_of p x) text) c.in-Hinted.is h)

pub returns-in-Err-check_collected : goal.returns-in-Err-check_collected
returns-in-Err-check_collected c =
    let p = c.args.checked.now in
    let x = c.args.encoded.now in
    let why = c.in-Err-check_collected.why in
    let r = c.refused-in-Err-check_collected in
    let Told = λ (a : LogAnswer). (text : List ℕ) → IsWhole x.problem (head_of p x) text c.args.standing → IsAnswerFor p x text a in
    told_so r.result (Refused why) why Told r.ensures.is r.ensures.told
    (λ not text h. hinted_refused p x text c.requires.numbers c.in-Hinted.entries c.in-Hinted.hints why c.in-Err-check_collected.ensures.refused not (subst (IsWhole x.problem (head_of p x) text) c.in-Hinted.is h))
