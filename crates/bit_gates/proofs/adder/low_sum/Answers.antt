use Rattle.std.proofs.Common.{◌≡◌, ◌+◌, take, subst, arith}
use Rattle.dg_base.specs.Values.{truth_of}
use Rattle.cnf_problem.specs.Literals.{value}
use Rattle.bit_gates.specs.Words.{number, IsSum}
use Rattle.bit_gates.proofs.Sums.{no_sum, sum_more}
use Rattle.bit_gates.proofs.Steps.{bit_over, word_more}
use Rattle.bit_gates.proofs.adder.low_sum.Goals as goal

pub loop-i-init : goal.loop-i-init
loop-i-init c = no_sum _ c.args.a.now c.args.b.now _ c.args.carry c.constant-word.ensures.over c.requires.third

pub loop-i-preserved : goal.loop-i-preserved
loop-i-preserved c = sum_more _ _ _ _ c.args.a.now c.args.b.now _ c.args.carry _ _ (record { 0 = 0 }) (record { 0 = 0 }) c.loop-i.i (omega arith) c.requires.first.0 c.requires.second.0 c.loop-i.invariant c.in_ok-place.ensures

pub returns : goal.returns
returns c =
    let all : c.loop-i.i ≡ c.args.bits = omega arith in
    subst (λ n. IsSum c.args.gates.now c.loop-i.gates c.loop-i.word c.loop-i.next n (λ s. number s (take n c.args.a.now) + number s (take n c.args.b.now) + truth_of (value s c.args.carry))) all c.loop-i.invariant

pub bit_sum-requires-clause-first : goal.bit_sum-requires-clause-first
bit_sum-requires-clause-first c = bit_over _ c.args.a.now c.loop-i.i (record { 0 = 0 }) (omega arith) (word_more _ _ c.args.a.now c.loop-i.invariant.extends c.requires.first)

pub bit_sum-requires-clause-second : goal.bit_sum-requires-clause-second
bit_sum-requires-clause-second c = bit_over _ c.args.b.now c.loop-i.i (record { 0 = 0 }) (omega arith) (word_more _ _ c.args.b.now c.loop-i.invariant.extends c.requires.second)

pub bit_sum-requires-clause-third : goal.bit_sum-requires-clause-third
bit_sum-requires-clause-third c = c.loop-i.invariant.carry_over
