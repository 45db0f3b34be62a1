use Rattle.std.proofs.Common.{arith}
use Rattle.std.proofs.Common.{◌∙◌, refl}
use Rattle.std.proofs.lemmas.List.{length-set, length-replicate}
use Rattle.bit_gates.proofs.Moved.{down_more, down_made}
use Rattle.bit_gates.proofs.words.moved_down.Goals as goal

pub loop-i-init : goal.loop-i-init
loop-i-init c = record { long = length-replicate 32 c.args.fill; front = refl; back = refl }

pub loop-i-preserved : goal.loop-i-preserved
loop-i-preserved c =
    let more = down_more c.args.places c.loop-i.i c.args.word.now c.loop-i.moved c.args.fill (record { 0 = 0 }) (omega arith) c.loop-i.invariant.long (omega arith) c.loop-i.invariant.front c.loop-i.invariant.back in
    record { long = length-set c.loop-i.moved _ _ ∙ c.loop-i.invariant.long; front = more.0; back = more.1 }

pub returns : goal.returns
returns c = down_made c.args.places c.loop-i.i c.args.word.now c.loop-i.moved c.args.fill c.requires (omega arith) (omega arith) c.loop-i.invariant.front c.loop-i.invariant.back
