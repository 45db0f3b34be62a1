use Rattle.std.proofs.Common.{◌≡◌, ◌<◌, Some, None, length, get_or, sym, ap, subst, arith}
use Rattle.std.proofs.lemmas.Result.{IfOk-weaker, IfErr-weaker}
use Rattle.dg_base.specs.declared.refusal.Refusal.TheVariants.{Syntax}
use Rattle.c_stmt.specs.Machine.{step, seen, finish}
use Rattle.c_stmt.specs.Programs.{HasCause, ReadsProgram}
use Rattle.c_stmt.proofs.Looping as looping
use Rattle.c_stmt.proofs.parser.parse.Goals as goal

pub loop-next-init : goal.loop-next-init
loop-next-init c = record { within = omega arith; reached = looping.loop_starts c.as_slice-list.result.now c.new.result c.new-2.result c.new.ensures c.new-2.ensures }

pub returns-in-Ok-Stop-clause-refused : goal.returns-in-Ok-Stop-clause-refused
returns-in-Ok-Stop-clause-refused c =
    let list = c.as_slice-list.result.now in
    let u = seen c.loop-next.position c.loop-next.read in
    looping.loop_stop c.args.tokens.now list c.loop-next.next c.index-list-next.result (get_or list c.loop-next.next c.index-list-next-in-Ok-Stop.result) u c.as_slice-list.ensures c.loop-next-test.true
    c.index-list-next.is (ap (λ t. get_or list c.loop-next.next t) c.index-list-next-in-Ok-Stop.is) (looping.stopped_at c.in-Ok-Stop.field-0 c.step_outside.new.read (step c.index-list-next.result u) c.in-Ok-Stop.field-0-is c.in-Ok-Stop.ensures)
    c.loop-next.invariant.reached

pub loop-next-preserved-in-Ok-Go : goal.loop-next-preserved-in-Ok-Go
loop-next-preserved-in-Ok-Go c =
    let list = c.as_slice-list.result.now in
    let u = seen c.loop-next.position c.loop-next.read in
    let lt = c.loop-next-test.true in record {
      within = omega (arith, lt);
      reached = looping.loop_token list c.loop-next.next c.index-list-next.result u (seen c.in-Ok-Go.more c.step_outside.new.read) lt c.index-list-next.is
          (looping.gone_on c.in-Ok-Go.field-0 c.step_outside.new.read (step c.index-list-next.result u) c.in-Ok-Go.more c.in-Ok-Go.field-0-is c.in-Ok-Go.ensures) c.loop-next.invariant.reached;
    }

pub expression-requires-clause-room : goal.expression-requires-clause-room
expression-requires-clause-room c =
    let list = c.as_slice-list.result.now in
    let u = seen c.loop-next.position c.loop-next.read in
    looping.loop_fits list c.loop-next.next c.index-list-next.result u (seen c.in-Ok-Ask.asked c.step_outside.new.read) c.in-Ok-Ask.form c.in-Ok-Ask.above
    (looping.asked_for c.in-Ok-Ask.field-0 c.step_outside.new.read (step c.index-list-next.result u) c.in-Ok-Ask.asked c.in-Ok-Ask.form c.in-Ok-Ask.above c.in-Ok-Ask.field-0-is c.in-Ok-Ask.ensures) c.loop-next.invariant.reached

pub returns-in-Err-expression-clause-refused : goal.returns-in-Err-expression-clause-refused
returns-in-Err-expression-clause-refused c =
    let list = c.as_slice-list.result.now in
    let u = seen c.loop-next.position c.loop-next.read in
    looping.loop_ends c.args.tokens.now list c.loop-next.next c.index-list-next.result u (seen c.in-Ok-Ask.asked c.step_outside.new.read) c.in-Ok-Ask.form c.in-Ok-Ask.above c.in-Err-expression.refusal c.as_slice-list.ensures c.loop-next-test.true
    c.index-list-next.is (looping.asked_for c.in-Ok-Ask.field-0 c.step_outside.new.read (step c.index-list-next.result u) c.in-Ok-Ask.asked c.in-Ok-Ask.form c.in-Ok-Ask.above c.in-Ok-Ask.field-0-is c.in-Ok-Ask.ensures)
    c.in-Err-expression.ensures.refused c.loop-next.invariant.reached

pub returns-in-None-clause-refused : goal.returns-in-None-clause-refused
returns-in-None-clause-refused c =
    let list = c.as_slice-list.result.now in
    let u = seen c.loop-next.position c.loop-next.read in
    let end = c.in-Ok.found.1 in
    looping.loop_shut c.args.tokens.now list c.loop-next.next end c.index-list-next.result (get_or list c.loop-next.next c.index-list-next-in-Ok-Ask.result) c.index-list-end.result (get_or list end c.index-list-end-in-None.result) u
    (seen c.in-Ok-Ask.asked c.step_outside.new.read) c.in-Ok-Ask.form c.in-Ok-Ask.above c.in-Ok.found.0 c.as_slice-list.ensures c.loop-next-test.true c.index-list-next.is (ap (λ t. get_or list c.loop-next.next t) c.index-list-next-in-Ok-Ask.is)
    (subst (λ l. end < length l) (sym c.as_slice-list.ensures) c.in-Ok.ensures.found.1) c.index-list-end.is (ap (λ t. get_or list end t) c.index-list-end-in-None.is)
    (looping.asked_for c.in-Ok-Ask.field-0 c.step_outside.new.read (step c.index-list-next.result u) c.in-Ok-Ask.asked c.in-Ok-Ask.form c.in-Ok-Ask.above c.in-Ok-Ask.field-0-is c.in-Ok-Ask.ensures) c.in-Ok.ensures.found.0
    (looping.not_gone c.in-Ok-shut.stepped c.shut.new.read _ c.in-None.ensures.none c.in-Ok-shut.ensures) c.loop-next.invariant.reached

pub loop-next-preserved : goal.loop-next-preserved
loop-next-preserved c =
    let list = c.as_slice-list.result.now in
    let u = seen c.loop-next.position c.loop-next.read in
    let end = c.in-Ok.found.1 in
    let lt = subst (λ l. end < length l) (sym c.as_slice-list.ensures) c.in-Ok.ensures.found.1 in record {
      within = omega (arith, lt);
      reached = looping.loop_expression c.args.tokens.now list c.loop-next.next end c.index-list-next.result (get_or list c.loop-next.next c.index-list-next-in-Ok-Ask.result) c.index-list-end.result u
          (seen c.in-Ok-Ask.asked c.step_outside.new.read) (seen c.in-Some.more c.shut.new.read) c.in-Ok-Ask.form c.in-Ok-Ask.above c.in-Ok.found.0 c.as_slice-list.ensures c.loop-next-test.true c.index-list-next.is
          (ap (λ t. get_or list c.loop-next.next t) c.index-list-next-in-Ok-Ask.is) lt c.index-list-end.is
          (looping.asked_for c.in-Ok-Ask.field-0 c.step_outside.new.read (step c.index-list-next.result u) c.in-Ok-Ask.asked c.in-Ok-Ask.form c.in-Ok-Ask.above c.in-Ok-Ask.field-0-is c.in-Ok-Ask.ensures) c.in-Ok.ensures.found.0
          (looping.gone_on c.in-Ok-shut.stepped c.shut.new.read _ c.in-Some.more c.in-Some.ensures.some c.in-Ok-shut.ensures) c.loop-next.invariant.reached;
    }

pub returns-clause-found : goal.returns-clause-found
returns-clause-found c =
    IfOk-weaker c.finished.result (λ g. finish (seen c.loop-next.position c.loop-next.read) ≡ Some g) (ReadsProgram c.args.tokens.now.list)
    (λ g done. looping.loop_found c.args.tokens.now c.as_slice-list.result.now c.loop-next.next (seen c.loop-next.position c.loop-next.read) g c.as_slice-list.ensures c.loop-next-test.false done c.loop-next.invariant.reached) c.finished.ensures.found

pub returns-clause-refused : goal.returns-clause-refused
returns-clause-refused c =
    IfErr-weaker c.finished.result (λ e. (e ≡ Syntax c.args.tokens.now.end) × (finish (seen c.loop-next.position c.loop-next.read) ≡ None)) (HasCause c.args.tokens.now)
    (λ e h. looping.loop_end c.args.tokens.now c.as_slice-list.result.now c.loop-next.next (seen c.loop-next.position c.loop-next.read) e c.as_slice-list.ensures c.loop-next-test.false h c.loop-next.invariant.reached) c.finished.ensures.refused
