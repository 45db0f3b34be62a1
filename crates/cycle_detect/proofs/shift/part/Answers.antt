use Rattle.std.proofs.Common.{◌<◌, ◌+◌, length, ap, arith}
use Rattle.std.proofs.lemmas.List.{get_or_read}
use Rattle.std.proofs.lemmas.List.Edits.{paste_more}
use Rattle.std.proofs.lemmas.List.Sums.{length-filter}
use Rattle.std.specs.Prelude.{not}
use Rattle.cycle_detect.specs.Parts.{is_seen}
use Rattle.cycle_detect.proofs.shift.part.Goals as goal

pub loop-i-preserved : goal.loop-i-preserved
loop-i-preserved g c =
    let d = c.gather-write.new.nodes in
    let s = c.gather-write.new.aside.items in
    let at = c.gather-write.result in
    let i = c.loop-i.i in
    let long = c.gather-write.new.aside.ok.0 in
    let h : i < length s = omega (arith, c.loop-i-test.true, c.len-i-end.ensures) in
    let room : at + i < length d = omega (arith, c.gather-write.ensures.count, c.gather-write.auto.nodes) in
    let read = get_or_read s i c.index.result.now h c.index.ensures 0 in
    record {
      pasted = rw (c.loop-i.invariant.pasted, read) (paste_more d at s i 0 room h);
      ticks = omega (arith, c.tick.ensures, c.loop-i.invariant.ticks);
    }

pub returns-clause-steps : goal.returns-clause-steps
returns-clause-steps g c =
    let s = c.gather-write.new.aside.items in
    let long = c.gather-write.new.aside.ok.0 in
    let aside = ap length c.gather-write.ensures.aside in
    omega (arith, c.loop-i.invariant.ticks, c.loop-i.auto.i-end, c.loop-i-test.false, c.len-i-end.ensures, c.gather-write.ensures.steps, aside, length-filter (λ n. not (is_seen c.args.seen.now n)) c.args.nodes.now)
