use Rattle.std.proofs.Common.{arith}
use Rattle.std.proofs.Common.{refl}
use Rattle.bit_gates.proofs.Arith.{twice}
use Rattle.bit_gates.proofs.Steps.{bit_over, lit_more, word_more}
use Rattle.bit_gates.proofs.Shifts.{down_over}
use Rattle.bit_gates.proofs.Amounts.{few_places, right_none, right_more, right_made}
use Rattle.bit_gates.proofs.shift.shift_right.Goals as goal

pub loop-j-init : goal.loop-j-init
loop-j-init c = record { moved = right_none _ c.args.a.now c.args.amount.now c.args.fill c.requires.first; places = refl }

pub moved_down-lower-requires : goal.moved_down-lower-requires
moved_down-lower-requires c = let few = few_places c.loop-j.j c.loop-j-test.true in let e = c.loop-j.invariant.places in omega arith

pub choose_word-requires-clause-choice : goal.choose_word-requires-clause-choice
choose_word-requires-clause-choice c = bit_over _ c.args.amount.now c.loop-j.j (record { 0 = 0 }) (omega arith) (word_more _ _ c.args.amount.now c.loop-j.invariant.moved.extends c.requires.second)

pub choose_word-requires-clause-first : goal.choose_word-requires-clause-first
choose_word-requires-clause-first c = let few = few_places c.loop-j.j c.loop-j-test.true in let e = c.loop-j.invariant.places in
    down_over _ c.loop-j.places c.loop-j.word c.moved_down-lower.result c.args.fill (omega arith) c.loop-j.invariant.moved.over (lit_more _ _ c.args.fill c.loop-j.invariant.moved.extends c.requires.third) c.moved_down-lower.ensures

pub choose_word-requires-clause-second : goal.choose_word-requires-clause-second
choose_word-requires-clause-second c = c.loop-j.invariant.moved.over

pub overflow_mul-places : goal.overflow_mul-places
overflow_mul-places c = let few = few_places c.loop-j.j c.loop-j-test.true in let e = c.loop-j.invariant.places in omega arith

pub loop-j-preserved : goal.loop-j-preserved
loop-j-preserved c = record {
  moved = right_more _ _ _ c.args.a.now c.args.amount.now c.loop-j.word c.moved_down-lower.result _ c.args.fill (record { 0 = 0 }) c.loop-j.j c.loop-j.places c.loop-j-test.true c.loop-j.invariant.places c.requires.first.0 c.requires.second.0 c.moved_down-lower.ensures c.loop-j.invariant.moved c.in_ok-word.ensures;
  places = let e = c.loop-j.invariant.places in let more = twice c.loop-j.j in omega arith;
}

pub returns : goal.returns
returns c = right_made _ _ c.args.a.now c.args.amount.now _ c.args.fill c.loop-j.j (omega arith) c.requires.second.0 c.loop-j.invariant.moved
