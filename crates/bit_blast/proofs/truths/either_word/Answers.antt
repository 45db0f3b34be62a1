use Rattle.std.proofs.Common.{not, ◌&&◌, ◌||◌}
use Rattle.dg_base.specs.Values.{is_true}
use Rattle.bit_gates.specs.Words.{number}
use Rattle.bit_gates.proofs.Steps.{lit_more, word_more}
use Rattle.bit_blast.proofs.OperatorGates.{flagged_not, neither_gate, not_both_not, opposite_over}
use Rattle.bit_blast.proofs.truths.either_word.Goals as goal

pub any-requires-2 : goal.any-requires-2
any-requires-2 c = word_more _ _ c.args.b.now c.in_ok-first.ensures.extends c.requires.second

pub and-requires-clause-first : goal.and-requires-clause-first
and-requires-clause-first c = opposite_over _ c.in_ok-first.first c.negated.result c.negated.ensures.value (lit_more _ _ c.in_ok-first.first c.in_ok-second.ensures.extends c.in_ok-first.ensures.over)

pub and-requires-clause-second : goal.and-requires-clause-second
and-requires-clause-second c = opposite_over _ c.in_ok-second.second c.negated-2.result c.negated-2.ensures.value c.in_ok-second.ensures.over

pub returns : goal.returns
returns c =
    let neither = neither_gate _ _ _ _ c.args.a.now c.args.b.now c.in_ok-first.first c.in_ok-second.second c.negated.result c.negated-2.result c.in_ok-neither.neither c.negated.ensures.value c.negated-2.ensures.value
    c.in_ok-first.ensures c.in_ok-second.ensures c.in_ok-neither.ensures.gate in
    flagged_not _ _ c.flag.result c.in_ok-neither.neither c.negated-3.result (λ s. not (is_true (number s c.args.a.now)) && not (is_true (number s c.args.b.now)))
    (λ s. is_true (number s c.args.a.now) || is_true (number s c.args.b.now)) c.negated-3.ensures.value neither c.flag.ensures.over c.flag.ensures.exact
    (λ s. not_both_not (is_true (number s c.args.a.now)) (is_true (number s c.args.b.now)))
