use Rattle.std.proofs.Common.{◌≡◌, Some}
use Rattle.line_text.specs.Words.{Cut, cut}
use Rattle.line_text.proofs.Bytes.{lacking_cut}
use Rattle.log_text.proofs.Passing.{stops_before, taken_more}
use Rattle.log_text.proofs.run.Run.lines.Goals as goal

pub returns-then-not-branch-clause-done : goal.returns-then-not-branch-clause-done
returns-then-not-branch-clause-done c =
    let p : Cut = record { front = c.in-Some.line.now; behind = c.in-Some.behind.now } in
    let line : cut 10 c.loop-line.rest.now ≡ Some p = c.in-Some.ensures in
    let stops = rw c.if-not-branch.true at c.in_ok-line.ensures in
    stops_before c.loop-line.self c.line.new.self c.loop-line.rest.now p line stops

pub loop-line-preserved : goal.loop-line-preserved
loop-line-preserved c =
    let p : Cut = record { front = c.in-Some.line.now; behind = c.in-Some.behind.now } in
    let line : cut 10 c.loop-line.rest.now ≡ Some p = c.in-Some.ensures in
    let taken = rw c.if-not-branch.false at c.in_ok-line.ensures in
    taken_more c.args.self.now c.loop-line.self c.line.new.self c.args.bytes.now c.loop-line.rest.now p line taken c.loop-line.invariant

pub returns-clause-done : goal.returns-clause-done
returns-clause-done c = lacking_cut 10 c.loop-line.rest.now c.in_default.ensures
