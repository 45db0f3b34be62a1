use Rattle.std.proofs.Common.{ap, get_or}
use Rattle.ssa_form.proofs.Growing.{guard_of}
use Rattle.ssa_form.proofs.walk.Walk.guard.Goals as goal

pub returns-2 : goal.returns-2
returns-2 c =
    guard_of c.args.self.now c.make.new.self c.make-2.new.self c.args.local _ c.in_ok-holds.holds c.in_ok-made.made (record { 0 = 0 }) c.requires.walk c.requires.local
    (ap (λ l. get_or l c.args.local (record { 0 = 0 })) c.as_slice.ensures)
    c.in_ok-holds.ensures.grows c.in_ok-holds.ensures.listed c.in_ok-holds.ensures.value c.in_ok-made.ensures.grows c.in_ok-made.ensures.listed c.in_ok-made.ensures.value
