use Rattle.cond_runs.proofs.CallRuns.{calls_are_rows}
use Rattle.cond_runs.proofs.ProgramCalls.{programs_call_rows}
use Rattle.cond_runs.proofs.laws.calls_are_rows.Goals as goal

pub returns : goal.returns
returns c = record { called = calls_are_rows; programs = programs_call_rows }
