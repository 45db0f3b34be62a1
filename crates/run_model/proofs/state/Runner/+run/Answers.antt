use Rattle.std.proofs.Common.{sym, ◌∙◌}
use Rattle.run_model.specs.Running.{context_at}
use Rattle.run_model.proofs.Calling.{call_plain}
use Rattle.run_model.proofs.state.Runner.+run.Goals as goal

pub call_body-returns : goal.call_body-returns
call_body-returns t c =
    call_plain c.body-2.result c.body-2.new.self (context_at c.args.table.now) c.args.function.now c.args.values.now c.args.self.now (sym c.if-is_atomic.false ∙ c.is_atomic.ensures) c.body-2.ensures
