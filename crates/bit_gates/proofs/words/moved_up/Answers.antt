use Rattle.std.proofs.Common.{arith}
use Rattle.std.proofs.Common.{◌∙◌}
use Rattle.std.proofs.lemmas.List.{length-set, length-replicate}
use Rattle.bit_gates.proofs.Moved.{up_none, up_more, up_made}
use Rattle.bit_gates.proofs.words.moved_up.Goals as goal

pub loop-i-init : goal.loop-i-init
loop-i-init c = record { long = length-replicate 32 c.args.fill; so_far = up_none c.args.places c.args.word.now c.args.fill c.requires }

pub loop-i-preserved : goal.loop-i-preserved
loop-i-preserved c = record {
  long = length-set c.loop-i.moved _ _ ∙ c.loop-i.invariant.long;
  so_far = up_more c.args.places c.loop-i.i c.args.word.now c.loop-i.moved c.args.fill (record { 0 = 0 }) (omega arith) c.loop-i.invariant.long (omega arith) c.loop-i.invariant.so_far;
}

pub returns : goal.returns
returns c = up_made c.args.places c.loop-i.i c.args.word.now c.loop-i.moved c.args.fill c.requires (omega arith) c.loop-i.invariant.long c.loop-i.invariant.so_far
