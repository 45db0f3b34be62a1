-- The runs of a candidate's threads, and what the memory models see of them.
use Rattle.std.specs.Prelude.{List, [], map, false, Option, None, unwrap_or}
use Rattle.axiom_model.specs.declared.ThreadPart.{ThreadPart}
use Rattle.axiom_model.specs.declared.Candidate.{Candidate}
use Rattle.axiom_model.specs.WellMade.{Shape}
use Rattle.axiom_model.specs.Execution.{Execution}
use Rattle.axiom_model.specs.Failing.{Run, execution_of}
use Rattle.c_check.specs.declared.checked.Checked.{Checked}
use Rattle.run_model.specs.Programs.{shape_of}
use Rattle.run_model.specs.Threads.{thread_run}

-- the run of a thread on its script; none where the script is too short
unfoldable pub run_told : Checked → ThreadPart → Option Run
run_told p t = thread_run p t.function t.handle t.arg t.script

abbrev pub no_run : Run
no_run = record { actions = []; ended = false; bad = false; failed = None; bound = false; used = 0 }

-- the same; no actions where the script is too short
abbrev pub run_by : Checked → ThreadPart → Run
run_by p t = unwrap_or (run_told p t) no_run

abbrev pub runs_of : Checked → List ThreadPart → List Run
runs_of p ts = map (run_by p) ts

-- what the memory models see of a candidate
abbrev pub execution_in : Checked → Candidate → Execution
execution_in p c = execution_of c (runs_of p c.threads)

-- threads alone, without sources and orders
abbrev pub alone : List ThreadPart → Candidate
alone ts = record { threads = ts; rf = []; co = [] }

-- what the memory models see of them
abbrev pub acting : Checked → List ThreadPart → Execution
acting p ts = execution_in p (alone ts)

-- what the memory models see of a program
unfoldable pub shape : Checked → Shape
shape p = shape_of p.program
