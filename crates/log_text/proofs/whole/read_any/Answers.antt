use Rattle.log_text.proofs.Logs.{hints_for, in_order, plain_told}
use Rattle.log_text.proofs.whole.read_any.Goals as goal

pub invariant_of-log : goal.invariant_of-log
invariant_of-log c = let s = c.in_ok-head.ensures.read in record { in_order = in_order c.in_ok-head.entries c.in_ok-head.hints s.writable.in_turn s.writable.few }

pub invariant_of-result : goal.invariant_of-result
invariant_of-result c =
    let s = c.in_ok-head.ensures.read in
    record { matched = hints_for c.in_ok-head.hinted c.in_ok-head.entries c.in_ok-head.hints c.in_ok-head.ensures.one_each s.writable.rows }

pub invariant_of-log-else-hinted : goal.invariant_of-log-else-hinted
invariant_of-log-else-hinted c = let s = c.in_ok-head.ensures.read in record { in_order = in_order c.in_ok-head.entries c.in_ok-head.hints s.writable.in_turn s.writable.few }

pub returns-else-hinted-clause-read : goal.returns-else-hinted-clause-read
returns-else-hinted-clause-read c = plain_told _ c.in_ok-head.head c.in_ok-head.hinted c.in_ok-head.entries c.in_ok-head.hints c.args.text.now c.if-hinted.false c.in_ok-head.ensures.read
