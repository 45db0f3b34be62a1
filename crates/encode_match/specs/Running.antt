-- What the parts of a form do as threads of the program. No public contract cites it.
use Rattle.std.specs.Prelude.{◌≡◌, ℕ, ◌<◌, ◌^◌, List, Some, length, slice_get}
use Rattle.axiom_model.specs.Failing.{Run}
use Rattle.bv_term.specs.Values.{AreWords}
use Rattle.c_check.specs.declared.checked.Checked.{Checked}
use Rattle.c_check.specs.WellFormed.{IsChecked}
use Rattle.run_model.specs.Threads.{thread_run}
use Rattle.run_laws.specs.Started.{IsStarted}
use Rattle.flat_prog.specs.declared.Flat.{Flat}
use Rattle.flat_prog.specs.Runs.{FlatEnding, has_ended, is_broken, failed_at}
use Rattle.loop_unroll.specs.Unrolled.{IsUnrolled}
use Rattle.ssa_form.specs.declared.Ssa.{Ssa}
use Rattle.ssa_form.specs.declared.SsaPart.{SsaPart}
use Rattle.ssa_form.specs.Parts.{Valuation, script_of, actions_of, ending_of}
use Rattle.ssa_form.specs.Form.{IsSsaOf, under}

-- the part's thread is created
pub record IsRunning (f : Ssa) (v : Valuation) (i : ℕ) (part : SsaPart) : Type 0 where
  pub there : slice_get f.parts i ≡ Some part
  pub starts : v part.start ≡ 1

-- the run of the part's thread, which uses the numbers that the part takes
pub record RunsAsPart (p : Checked) (ps : List SsaPart) (v : Valuation) (part : SsaPart) : Type 0 where
  pub run : Run
  pub runs : thread_run p part.function (v part.handle) (v part.arg) (script_of v part.steps) ≡ Some run
  pub used : run.used ≡ length (script_of v part.steps)
  pub actions : run.actions ≡ actions_of ps v part
  pub ending : FlatEnding
  pub ends : ending_of v part ≡ Some ending
  pub ended : run.ended ≡ has_ended ending
  pub bad : run.bad ≡ is_broken ending
  pub failed : run.failed ≡ failed_at ending

-- a part whose thread is created runs as that thread
abbrev pub PartsRunAsThreads : Type 0
PartsRunAsThreads =
    (p : Checked) (flat : Flat) (f : Ssa) (inputs : ℕ → ℕ) (i : ℕ) (part : SsaPart)
    → IsUnrolled p flat → IsSsaOf flat f → AreWords inputs → IsRunning f (under inputs f) i part → under inputs f part.handle < 2 ^ 24
    → RunsAsPart p f.parts (under inputs f) part

-- the part's function is started, behind so many creations, which its handle shows
pub record IsStartedPart (p : Checked) (v : Valuation) (part : SsaPart) : Type 0 where
  pub depth : ℕ
  pub started : IsStarted p depth part.function
  pub low : v part.handle < 64 ^ depth
  pub few : v part.handle < 2 ^ 24

-- so it is for each part whose thread is created
abbrev pub RunningPartsAreStarted : Type 0
RunningPartsAreStarted =
    (p : Checked) (flat : Flat) (f : Ssa) (inputs : ℕ → ℕ) (i : ℕ) (part : SsaPart)
    → IsChecked p → IsUnrolled p flat → IsSsaOf flat f → AreWords inputs → IsRunning f (under inputs f) i part → IsStartedPart p (under inputs f) part

-- and their handles rise with their numbers
abbrev pub HandlesRise : Type 0
HandlesRise =
    (p : Checked) (flat : Flat) (f : Ssa) (inputs : ℕ → ℕ) (i j : ℕ) (a b : SsaPart)
    → IsChecked p → IsUnrolled p flat → IsSsaOf flat f → AreWords inputs → IsRunning f (under inputs f) i a → IsRunning f (under inputs f) j b → i < j
    → under inputs f a.handle < under inputs f b.handle
