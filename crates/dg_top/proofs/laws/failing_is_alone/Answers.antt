use Rattle.dg_top.proofs.Alone.{failing_alone}
use Rattle.dg_top.proofs.laws.failing_is_alone.Goals as goal

pub returns : goal.returns
returns c = failing_alone c.one_checked.ensures c.accepted_or_refused.ensures c.names_are_plain.ensures c.one_candidate.ensures c.failing_executions_break_nothing.ensures
