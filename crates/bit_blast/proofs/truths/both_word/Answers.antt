use Rattle.std.proofs.Common.{refl, ◌&&◌}
use Rattle.dg_base.specs.Values.{is_true}
use Rattle.bit_gates.specs.Words.{number}
use Rattle.bit_gates.proofs.Steps.{lit_more, word_more}
use Rattle.bit_blast.proofs.OperatorGates.{flagged, both_gate}
use Rattle.bit_blast.proofs.truths.both_word.Goals as goal

pub any-requires-2 : goal.any-requires-2
any-requires-2 c = word_more _ _ c.args.b.now c.in_ok-first.ensures.extends c.requires.second

pub and-requires-clause-first : goal.and-requires-clause-first
and-requires-clause-first c = lit_more _ _ c.in_ok-first.first c.in_ok-second.ensures.extends c.in_ok-first.ensures.over

pub and-requires-clause-second : goal.and-requires-clause-second
and-requires-clause-second c = c.in_ok-second.ensures.over

pub returns : goal.returns
returns c =
    let both = both_gate _ _ _ _ c.args.a.now c.args.b.now c.in_ok-first.first c.in_ok-second.second c.in_ok-both.both c.in_ok-first.ensures c.in_ok-second.ensures c.in_ok-both.ensures.gate in
    flagged _ _ c.flag.result c.in_ok-both.both (λ s. is_true (number s c.args.a.now) && is_true (number s c.args.b.now)) (λ s. is_true (number s c.args.a.now) && is_true (number s c.args.b.now)) both c.flag.ensures.over c.flag.ensures.exact
    (λ s. refl)
