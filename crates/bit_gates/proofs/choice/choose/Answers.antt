use Rattle.bit_gates.proofs.Choices.{choose_or, choose_and, choose_both, choose_implied}
use Rattle.bit_gates.proofs.choice.choose.Goals as goal

pub returns-then-is_either : goal.returns-then-is_either
returns-then-is_either c = choose_or _ _ c.constant-yes.result c.args.c c.args.a c.args.b c.or.result c.constant-yes.ensures.exact (c.is_either.ensures.0 c.if-is_either.true) c.or.ensures

pub returns-then-is_either-2 : goal.returns-then-is_either-2
returns-then-is_either-2 c =
    choose_and _ _ c.constant-no.result c.args.c c.args.a c.args.b c.negated-then-is_either-2.result c.negated.result c.and.result c.constant-no.ensures.exact
    c.negated-then-is_either-2.ensures.value c.negated.ensures.value (c.is_either-else-is_either.ensures.0 c.if-is_either-2.true) c.and.ensures.gate

pub returns-then-is_either-3 : goal.returns-then-is_either-3
returns-then-is_either-3 c =
    choose_both _ _ c.constant-no.result c.args.c c.args.a c.args.b c.and-then-is_either-3.result c.constant-no.ensures.exact (c.is_either-else-is_either-2.ensures.0 c.if-is_either-3.true) c.and-then-is_either-3.ensures.gate

pub returns-then-is_either-4 : goal.returns-then-is_either-4
returns-then-is_either-4 c =
    choose_implied _ _ c.constant-yes.result c.args.c c.args.a c.args.b c.negated-then-is_either-4.result c.negated-else-is_either-3.result c.or-then-is_either-4.result c.constant-yes.ensures.exact
    c.negated-then-is_either-4.ensures.value c.negated-else-is_either-3.ensures.value (c.is_either-else-is_either-3.ensures.0 c.if-is_either-4.true) c.or-then-is_either-4.ensures
