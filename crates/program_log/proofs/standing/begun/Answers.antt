use Rattle.std.proofs.Common.{Bool, [], refl, subst}
use Rattle.log_text.specs.Formats.{head_lines}
use Rattle.program_log.specs.Heads.{IsCompared}
use Rattle.program_log.specs.Pieces.{IsHeadOf}
use Rattle.program_log.proofs.Answering.{no_other}
use Rattle.program_log.proofs.standing.begun.Goals as goal

pub returns-in-Some : goal.returns-in-Some
returns-in-Some c fed known =
    let first = subst (IsCompared (head_lines c.args.theirs.now) (head_lines c.args.ours.now)) c.in-Some.is c.in_ok-other.ensures in
    record { head = c.args.theirs.now; hinted = c.args.hinted; known = known; first = first }

pub returns : goal.returns
returns c fed known =
    let theirs = c.args.theirs.now in
    let same = no_other (head_lines theirs) (head_lines c.args.ours.now) c.in_ok-other.field-0 c.in_ok-other.ensures c.in_default.not-Some in
    record {
      head = theirs;
      known = subst (λ (b : Bool). IsHeadOf fed theirs b) c.if-hinted.false known;
      same = same;
      entries = [];
      hints = [];
      rows = refl;
      one_each = refl;
      holds = c.in_ok-new.ensures;
    }
