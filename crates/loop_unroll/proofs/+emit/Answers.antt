use Rattle.std.proofs.Common.{◌≡◌, sym, ap, ◌∙◌}
use Rattle.std.specs.Prelude.{option_copied}
use Rattle.emit_steps.specs.Emitting.{one, none}
use Rattle.emit_steps.specs.Pieces.{Context, piece, read, write}
use Rattle.emit_steps.specs.Tables.{setting_at}
use Rattle.loop_unroll.specs.Stating.{Body, targets, loop, run_body, eval_if, execute}
use Rattle.loop_unroll.specs.Whole.{context_at}
use Rattle.loop_unroll.proofs.Calling.{call_plain}
use Rattle.loop_unroll.proofs.Emissions.{assign_with, turn_made, for_made, for_stmt}
use Rattle.loop_unroll.proofs.+emit.Goals as goal

pub calls::call_body-returns : goal.calls::call_body-returns
calls::call_body-returns t c =
    call_plain c.body-2.result c.body-2.new.emitter c.args.function.now c.args.guard (run_body (context_at c.args.table.now) c.args.function.now c.args.values.now c.args.guard) c.args.emitter.now
    (sym c.if-is_atomic.false ∙ c.is_atomic.ensures) c.body-2.ensures

pub expressions::assign-returns : goal.expressions::assign-returns
expressions::assign-returns t c =
    assign_with c.args.place c.args.op c.in-With.op (piece (context_at c.args.table.now) c.args.target.now) (piece (context_at c.args.table.now) c.args.value.now) c.args.guard c.args.emitter.now c.cells.new.emitter c.read.new.self c.eval-in-With.new.emitter
    c.typed.new.emitter c.write-in-With.new.self c.in_ok-cells.cells c.in_ok-old-in-With.old c.in_ok-v-in-With.v c.in_ok-new-in-With.new c.in-With.is c.in_ok-cells.ensures
    (let same : c.as_slice-in-With.result.now ≡ c.in_ok-cells.cells = cc (c.as_slice-in-With.ensures) in c.in_ok-old-in-With.ensures ∙ ap (λ cs. read cs c.cells.new.emitter) same) c.in_ok-v-in-With.ensures c.in_ok-new-in-With.ensures
    (let same : c.as_slice-in-With-2.result.now ≡ c.in_ok-cells.cells = cc (c.as_slice-in-With-2.ensures) in c.in_ok-write-in-With.ensures ∙ ap (λ cs. write cs c.in_ok-new-in-With.new c.typed.new.emitter) same)

pub statements::exec-returns-in_ok-behind-in-For : goal.statements::exec-returns-in_ok-behind-in-For
statements::exec-returns-in_ok-behind-in-For t c =
    let cx : Context = context_at c.args.table.now in
    let turned =
    c.in_ok-behind-in-For.ensures
    ∙ (ap (λ x. loop cx c.in-For.place x (option_copied c.part-in-For.result) (execute cx c.get-in-For.result.now) (targets 0 0 c.args.targets.result) c.args.guard c.begin_for.new.emitter) c.part.ensures
    ∙ (ap (λ z. loop cx c.in-For.place c.in-For.test z (execute cx c.get-in-For.result.now) (targets 0 0 c.args.targets.result) c.args.guard c.begin_for.new.emitter) c.part-in-For.ensures
    ∙ ap (λ b. loop cx c.in-For.place c.in-For.test c.in-For.step (execute cx b) (targets 0 0 c.args.targets.result) c.args.guard c.begin_for.new.emitter) c.get-in-For.ensures)) in
    ap (λ e. (c.in_ok-behind-in-For.behind, e)) c.leave_scope-in-For.ensures
    ∙ (for_made cx c.in-For.place c.in-For.start c.in-For.test c.in-For.step (execute cx c.in-For.body) c.args.targets c.args.guard c.in_ok-behind-in-For.behind c.scope_size-outer-in-For.result c.args.emitter.now c.begin_for.new.emitter c.turns-in-For.new.emitter
    c.scope_size-outer-in-For.ensures c.in_ok-begin_for-in-For.ensures turned
    ∙ (ap (λ (b : Body). b c.args.targets c.args.guard c.args.emitter.now) (sym (for_stmt cx c.in-For.place c.in-For.start c.in-For.test c.in-For.step c.in-For.body)) ∙ ap (λ s. execute cx s c.args.targets c.args.guard c.args.emitter.now) (sym c.in-For.is)))

pub statements::turns-loop-turn-preserved : goal.statements::turns-loop-turn-preserved
statements::turns-loop-turn-preserved t c =
    turn_made (setting_at c.args.table.now) c.args.place c.args.table.now.turns c.loop-turn._turn (eval_if (context_at c.args.table.now) one (option_copied c.args.test)) (execute (context_at c.args.table.now) c.args.body.now)
    (eval_if (context_at c.args.table.now) none (option_copied c.args.step)) c.in_ok-done.done c.args.value c.loop-turn.here c.in_ok-v.v c.in_ok-on.on c.in_ok-here.here c.in_ok-optional.field-0 c.loop-turn.emitter c.optional.new.emitter c.leave.new.emitter
    c.one_turn.new.emitter c.optional-in-loop-turn.new.emitter _ c.loop-turn-test.true c.loop-turn.invariant c.in_ok-v.ensures c.in_ok-on.ensures c.in_ok-here.ensures c.in_ok-optional.ensures
