use Rattle.std.proofs.Common.{◌-◌, ◌≤◌, get_or, sym, ap, subst}
use Rattle.c_expr.specs.Parser as spec
use Rattle.c_expr.proofs.Answering.{Ends, stop_ends, end_ends, form_small}
use Rattle.c_expr.proofs.parser.expr.Goals as goal
use Rattle.c_expr.proofs.parser.expr.Goals.{After-drop-stack-inside, After-drop-stack-inside-in-Ok}

stopped : (c : After-drop-stack-inside) → Ends (spec.form_level c.args.form) (200 - c.args.above) c.args.tokens.now c.args.at c.answer.result
stopped c =
    subst (λ f. Ends f (200 - c.args.above) c.args.tokens.now c.args.at c.answer.result) c.level.ensures
    (stop_ends c.level.result (200 - c.args.above) (subst (λ f. f ≤ 2) (sym c.level.ensures) (form_small c.args.form)) c.args.tokens.now c.as_slice-list.result.now c.as_slice-list.ensures c.args.at c.loop-next.next
    c.index-list-next.result (get_or c.as_slice-list.result.now c.loop-next.next c.index-list-next-in-Ok-Stop.result) (spec.seen c.loop-next.reading c.loop-next.stack) c.in-Ok-Stop.tree c.answer.result c.loop-next.invariant.after c.loop-next-test.true
    c.index-list-next.is (ap (λ u. get_or c.as_slice-list.result.now c.loop-next.next u) c.index-list-next-in-Ok-Stop.is) c.loop-next.invariant.runs (rw c.in-Ok-Stop.field-0-is at c.in-Ok-Stop.ensures) c.answer.ensures)

ended : (c : After-drop-stack-inside-in-Ok) → Ends (spec.form_level c.args.form) (200 - c.args.above) c.args.tokens.now c.args.at c.answer-in-Ok.result
ended c =
    subst (λ f. Ends f (200 - c.args.above) c.args.tokens.now c.args.at c.answer-in-Ok.result) c.level.ensures
    (end_ends c.level.result (200 - c.args.above) (subst (λ f. f ≤ 2) (sym c.level.ensures) (form_small c.args.form)) c.args.tokens.now c.as_slice-list.result.now c.as_slice-list.ensures c.args.at c.loop-next.next
    (spec.seen c.loop-next.reading c.loop-next.stack) c.in-Ok.tree c.answer-in-Ok.result c.loop-next.invariant.after c.loop-next.invariant.within c.loop-next-test.false c.loop-next.invariant.runs c.in-Ok.ensures c.answer-in-Ok.ensures)

pub returns-in-Ok-Stop-clause-found : goal.returns-in-Ok-Stop-clause-found
returns-in-Ok-Stop-clause-found c = (stopped c).found

pub returns-in-Ok-Stop-clause-refused : goal.returns-in-Ok-Stop-clause-refused
returns-in-Ok-Stop-clause-refused c = (stopped c).refused

pub returns-in-Ok-clause-found : goal.returns-in-Ok-clause-found
returns-in-Ok-clause-found c = (ended c).found

pub returns-in-Ok-clause-refused : goal.returns-in-Ok-clause-refused
returns-in-Ok-clause-refused c = (ended c).refused
