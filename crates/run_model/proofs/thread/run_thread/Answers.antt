use Rattle.std.proofs.Common.{rules}
use Rattle.run_model.proofs.Telling.{told_of, told_ran, told_short}
use Rattle.run_model.proofs.thread.run_thread.Goals as goal

pub returns-clause-ran : goal.returns-clause-ran
returns-clause-ran c =
    told_ran c.args.checked.now c.args.function c.args.handle c.args.arg c.args.script.now c.told.result
    (told_of c.args.checked.now c.args.function c.args.handle c.args.arg c.args.script.now c.in-Some.function.now c.told.result
    c.as_slice.result.now c.as_slice-items.result.now c.count_functions.result _ (search rules) (search rules) c.as_slice-items.ensures c.count_functions.ensures (search rules) (c.told.ensures _ c.thread-stop.ensures))

pub returns-clause-short : goal.returns-clause-short
returns-clause-short c =
    told_short c.args.checked.now c.args.function c.args.handle c.args.arg c.args.script.now c.told.result
    (told_of c.args.checked.now c.args.function c.args.handle c.args.arg c.args.script.now c.in-Some.function.now c.told.result
    c.as_slice.result.now c.as_slice-items.result.now c.count_functions.result _ (search rules) (search rules) c.as_slice-items.ensures c.count_functions.ensures (search rules) (c.told.ensures _ c.thread-stop.ensures))
