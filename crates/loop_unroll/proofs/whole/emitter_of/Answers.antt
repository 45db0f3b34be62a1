use Rattle.std.proofs.Common.{sym}
use Rattle.emit_steps.specs.Tables.{setting_at}
use Rattle.loop_unroll.proofs.Emissions.{emitted_there}
use Rattle.loop_unroll.proofs.whole.emitter_of.Goals as goal

pub returns-in_ok-body-in-Some : goal.returns-in_ok-body-in-Some
returns-in_ok-body-in-Some c = (
  c.in-Some.function.now,
  sym c.in-Some.ensures,
  emitted_there (setting_at c.args.table.now) c.args.table.now.calls c.in-Some.function.now c.args.first c.in_ok-body-in-Some.field-0 c.body.new.emitter c.new-emitter.result c.requires c.new-emitter.ensures c.in_ok-body-in-Some.ensures,
)
