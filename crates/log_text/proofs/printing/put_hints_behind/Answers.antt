use Rattle.std.proofs.Common.{[], ◌∷◌}
use Rattle.log_text.proofs.Parts.{ends_with, hint_parts}
use Rattle.log_text.proofs.printing.put_hints_behind.Goals as goal

pub returns-in_ok-put_hints-in-Unit-clause-text : goal.returns-in_ok-put_hints-in-Unit-clause-text
returns-in_ok-put_hints-in-Unit-clause-text c =
    ends_with c.put.result _ _ _ _ (32 ∷ 48 ∷ []) c.put.ensures.appended c.in_ok-put_hints-in-Unit.ensures.text (hint_parts c.args.out.now.items c.args.hinted c.args.kind c.args.hints.now c.if-not-hinted.false c.in-Unit.is)
