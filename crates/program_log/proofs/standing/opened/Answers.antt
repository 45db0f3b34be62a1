use Rattle.std.proofs.Common.{[], sym, ◌∙◌}
use Rattle.program_log.proofs.Readings.{head_known}
use Rattle.program_log.proofs.standing.opened.Goals as goal

pub returns : goal.returns
returns c fed read =
    c.in_ok-begun.ensures fed (head_known c.args.reader.now fed [] c.in-Some.theirs c.in-Some-hinted.hinted read (sym c.head.ensures ∙ c.in-Some.is) (sym c.hinted.ensures ∙ c.in-Some-hinted.is))
