use Rattle.std.proofs.Common.{arith}
use Rattle.decode.proofs.Numbering.{begun, below}
use Rattle.decode.proofs.values.word_number.Goals as goal

pub loop-place-init : goal.loop-place-init
loop-place-init c = begun c.args.truths.now c.args.word.now 32 (omega (arith, c.told-word))

pub overflow_mul-number : goal.overflow_mul-number
overflow_mul-number c =
    let low = below c.args.truths.now c.args.word.now c.loop-place.place (omega (arith, c.told-word)) c.loop-place-test.true in
    omega (arith, low, c.loop-place.invariant)

pub overflow_add-number : goal.overflow_add-number
overflow_add-number c =
    let low = below c.args.truths.now c.args.word.now c.loop-place.place (omega (arith, c.told-word)) c.loop-place-test.true in
    omega (arith, low, c.loop-place.invariant, c.bit.ensures.low)
