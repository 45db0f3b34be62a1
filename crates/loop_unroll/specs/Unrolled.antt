-- When a flat program is a checked program's.
use Rattle.std.specs.Prelude.{◌≡◌, ℕ, ◌<◌, ◌^◌, List, Some, option_map, slice_get, All}
use Rattle.c_check.specs.declared.checked.Checked.{Checked}
use Rattle.run_model.specs.Programs.{shape_of}
use Rattle.run_model.specs.Threads.{thread_run}
use Rattle.flat_prog.specs.declared.Flat.{Flat}
use Rattle.flat_prog.specs.declared.Instance.{Instance}
use Rattle.flat_prog.specs.Runs.{flat_run, run_seen}
use Rattle.flat_prog.specs.Shape.{IsFlat}

-- the instance runs as a thread of its function: with each argument and handle, on each script, one is short where the other is
abbrev pub RunsAsThread : Checked → List Instance → Instance → Type 0
RunsAsThread p is i =
    (arg handle : ℕ) (script : List ℕ) → handle < 2 ^ 24 → option_map run_seen (flat_run is i arg handle script) ≡ thread_run p i.function handle arg script

pub record IsUnrolled (p : Checked) (f : Flat) : Type 0 where
  pub flat : IsFlat f
  pub main : (i : Instance) → slice_get f.instances 0 ≡ Some i → i.function ≡ (shape_of p.program).main
  pub functions : All (λ i. i.function < (shape_of p.program).functions) f.instances
  pub cells : f.initials ≡ (shape_of p.program).initials
  pub runs : All (RunsAsThread p f.instances) f.instances
