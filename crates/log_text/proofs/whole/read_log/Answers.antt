use Rattle.std.proofs.Common.{refl}
use Rattle.log_text.proofs.Logs.{in_order, plain_told}
use Rattle.log_text.proofs.whole.read_log.Goals as goal

pub invariant_of-result : goal.invariant_of-result
invariant_of-result c = let s = c.in_ok-head.ensures.read in record { in_order = in_order c.in_ok-head.entries c.in_ok-head.field-0-3 s.writable.in_turn s.writable.few }

pub returns-clause-read : goal.returns-clause-read
returns-clause-read c =
    let s = c.in_ok-head.ensures.read in
    plain_told _ c.in_ok-head.head c.in_ok-head.field-0-1 c.in_ok-head.entries c.in_ok-head.field-0-3 c.args.text.now (s.format refl) s
