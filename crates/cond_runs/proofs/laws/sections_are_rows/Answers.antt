use Rattle.cond_runs.proofs.SectionRuns.{enter_is_row, take_is_row, signal_is_row, broadcast_is_row, init_is_row}
use Rattle.cond_runs.proofs.laws.sections_are_rows.Goals as goal

pub returns : goal.returns
returns c = record { enter = enter_is_row; take = take_is_row; signal = signal_is_row; broadcast = broadcast_is_row; init = init_is_row }
