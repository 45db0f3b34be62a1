use Rattle.std.proofs.Common.{◌≡◌, ◌++◌, drop}
use Rattle.std.specs.Prelude.{flat_map}
use Rattle.dg_top.specs.Answers.{report_line}
use Rattle.dg_top.proofs.text.put_reports.Given as goal

-- what is written, with what is still to be written, is what was there with all
abbrev pub invariant-loop-report : goal.invariant-loop-report
invariant-loop-report l = record { text : l.out.items ++ flat_map report_line (drop l.report-index l.reports) ≡ l.fn.out.items ++ flat_map report_line l.reports }
