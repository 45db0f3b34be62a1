use Rattle.std.proofs.Common.{◌≡◌, subst}
use Rattle.cnf_problem.specs.declared.problem.Head.{Head}
use Rattle.log_text.specs.Formats.{head_lines}
use Rattle.program_log.specs.Heads.{IsCompared, head_of}
use Rattle.program_log.proofs.Answering.{no_other, other_heads, refused_log, same_head}
use Rattle.program_log.proofs.proving.prove_log.Goals as goal

pub returns-in-Some : goal.returns-in-Some
returns-in-Some c text s =
    let p = c.args.checked.now in
    let x = c.args.encoded.now in
    let compared = subst (λ (h : Head). IsCompared (head_lines c.args.theirs.now) (head_lines h) c.in_ok-other.field-0) c.head_of-ours.ensures.is c.in_ok-other.ensures in
    let first = subst (IsCompared (head_lines c.args.theirs.now) (head_lines (head_of p x))) c.in-Some.is compared in
    other_heads p x c.args.theirs.now c.args.log text c.in-Some.other c.other_problem.result first c.other_problem.ensures s

pub returns-in_ok-refused-in-Err : goal.returns-in_ok-refused-in-Err
returns-in_ok-refused-in-Err c text s =
    let p = c.args.checked.now in
    let x = c.args.encoded.now in
    let theirs = c.args.theirs.now in
    let not = c.in_default.not-Some in
    let same = subst (λ (h : Head). head_lines theirs ≡ head_lines h) c.head_of-ours.ensures.is (no_other (head_lines theirs) (head_lines c.head_of-ours.result) c.in_ok-other.field-0 c.in_ok-other.ensures not) in
    refused_log p x c.args.log text c.in-Err.why c.in_ok-refused-in-Err.field-0 c.in-Err.ensures.refused c.in_ok-refused-in-Err.ensures.told c.in_ok-refused-in-Err.ensures.is (same_head theirs (head_of p x) c.args.log text same c.head_of-ours.ensures.can s)
