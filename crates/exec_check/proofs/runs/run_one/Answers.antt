use Rattle.std.proofs.Common.{◌≡◌, ◌≢◌, ◌<◌, length, inr, subst, sym, ◌∙◌}
use Rattle.run_model.specs.Threads.{short_run}
use Rattle.run_model.specs.Running.{run_of, IsShort}
use Rattle.exec_check.specs.Running.{run_told}
use Rattle.exec_check.proofs.Shaped.{functions_are}
use Rattle.exec_check.proofs.Ran.{told_short, told_ran, wrong_short, wrong_long, wrong_bad, wrong_not}
use Rattle.exec_check.proofs.runs.run_one.Goals as goal

pub run_thread-requires-clause-function : goal.run_thread-requires-clause-function
run_thread-requires-clause-function c = subst (λ n. c.args.part.now.function < n) (functions_are c.args.checked.now) c.requires.0

pub returns-in-Err-ScriptShort-clause-wrong : goal.returns-in-Err-ScriptShort-clause-wrong
returns-in-Err-ScriptShort-clause-wrong c =
    let p = c.args.checked.now in
    let t = c.args.part.now in
    let h = subst (λ e. IsShort c.as_slice-script.result.now (short_run p t.function t.handle t.arg c.as_slice-script.result.now) e) c.in-Err-ScriptShort.field-0-is c.in-Err-ScriptShort.ensures.short in
    inr (wrong_short c.args.part.now (run_told c.args.checked.now c.args.part.now) (told_short c.args.checked.now c.args.part.now c.as_slice-script.result.now c.in-Err-ScriptShort.field-0-0 c.as_slice-script.ensures h.1))

pub returns-then-run-script-clause-wrong : goal.returns-then-run-script-clause-wrong
returns-then-run-script-clause-wrong c =
    let told = told_ran c.args.checked.now c.args.part.now c.as_slice-script.result.now (run_of c.in-Ok.run') c.as_slice-script.ensures c.in-Ok.ensures.ran in
    let n : c.in-Ok.run'.used ≢ length c.args.part.now.script = subst (λ l. c.in-Ok.run'.used ≢ length l) c.as_slice-script.ensures c.if-run-script.true in
    inr (wrong_long c.args.part.now (run_told c.args.checked.now c.args.part.now) (run_of c.in-Ok.run') told n)

pub returns-then-is_bad-clause-wrong : goal.returns-then-is_bad-clause-wrong
returns-then-is_bad-clause-wrong c =
    let told = told_ran c.args.checked.now c.args.part.now c.as_slice-script.result.now (run_of c.in-Ok.run') c.as_slice-script.ensures c.in-Ok.ensures.ran in
    let n : c.in-Ok.run'.used ≡ length c.args.part.now.script = subst (λ l. c.in-Ok.run'.used ≡ length l) c.as_slice-script.ensures c.if-run-script.false in
    inr (wrong_bad c.args.part.now (run_told c.args.checked.now c.args.part.now) (run_of c.in-Ok.run') told n (sym c.is_bad.ensures ∙ c.if-is_bad.true))

pub returns-clause-told : goal.returns-clause-told
returns-clause-told c = told_ran c.args.checked.now c.args.part.now c.as_slice-script.result.now (run_of c.in-Ok.run') c.as_slice-script.ensures c.in-Ok.ensures.ran

pub returns-clause-well : goal.returns-clause-well
returns-clause-well c =
    let told = told_ran c.args.checked.now c.args.part.now c.as_slice-script.result.now (run_of c.in-Ok.run') c.as_slice-script.ensures c.in-Ok.ensures.ran in
    let n : c.in-Ok.run'.used ≡ length c.args.part.now.script = subst (λ l. c.in-Ok.run'.used ≡ length l) c.as_slice-script.ensures c.if-run-script.false in
    wrong_not c.args.part.now (run_told c.args.checked.now c.args.part.now) (run_of c.in-Ok.run') told n (sym c.is_bad.ensures ∙ c.if-is_bad.false)
