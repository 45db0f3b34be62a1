-- From what is decided of a program to the answer.
use Rattle.std.proofs.Common.{◌≡◌, ℕ, Bool, List, Option, Some, None, refl, subst, sym}
use Rattle.std.specs.Prelude.{is_some}
use Rattle.std.proofs.lemmas.Bool.{false≢true}
use Rattle.dg_base.specs.declared.Place.{Place}
use Rattle.axiom_model.specs.declared.Candidate.{Candidate}
use Rattle.axiom_model.specs.declared.MemoryModel.{MemoryModel}
use Rattle.axiom_model.specs.declared.ThreadPart.{ThreadPart}
use Rattle.axiom_model.specs.Failing.{FailsFirst, Run}
use Rattle.axiom_model.specs.Reordered.{ReorderedCandidate}
use Rattle.axiom_model.proofs.Reordered.{failing-reordered}
use Rattle.c_check.specs.declared.checked.Checked.{Checked}
use Rattle.run_model.specs.Programs.{shape_of}
use Rattle.run_model.specs.Threads.{ProgramFails, thread_run}
use Rattle.exec_check.specs.Running.{runs_of}
use Rattle.exec_check.proofs.Excluding.{runs_are}
use Rattle.program_verdict.specs.declared.Effort.{Effort}
use Rattle.program_verdict.specs.declared.ProgramVerdict.{ProgramVerdict}
use Rattle.program_verdict.specs.Verdicts.{IsVerdictOf, IsWhereWanted}
use Rattle.program_verdict.proofs.Deciding.{first_of}
use Rattle.word_settings.specs.Settings.{Word}
use Rattle.dg_top.specs.Answers.{KeepsIn, bytes, nothing}
use Rattle.dg_top.specs.Replies.{kept_in}

-- a failing execution fails with its pairs in another order, by the same thread
pub reordered_fails : (p : Checked) (m : MemoryModel) (c d : Candidate) → ReorderedCandidate c d → ProgramFails p m c → ProgramFails p m d
reordered_fails p m c d = failing-reordered (shape_of p.program) (thread_run p) m c d

same_threads : (c d : Candidate) (rs : List Run) (h : ℕ) (at : Place) (bound : Bool) → d.threads ≡ c.threads → FailsFirst c rs h at bound → FailsFirst d rs h at bound
same_threads c d rs h at bound same f = record {
  number = f.number;
  part = f.part;
  run = f.run;
  is_part = rw same f.is_part;
  is_run = f.is_run;
  handle_is = f.handle_is;
  fails = f.fails;
  not_before = f.not_before;
  no_assertion = f.no_assertion;
}

pub reordered_first : (p : Checked) (m : MemoryModel) (c d : Candidate) (r : ReorderedCandidate c d) (x : ProgramFails p m c) (y : ProgramFails p m d) (h : ℕ) (at : Place) (bound : Bool)
    → FailsFirst c x.allowed.threads h at bound → FailsFirst d y.allowed.threads h at bound
reordered_first p m c d r x y h at bound f =
    let of_runs : FailsFirst c (runs_of p c.threads) h at bound = subst (λ (rs : List Run). FailsFirst c rs h at bound) (runs_are p c.threads x.allowed.threads x.allowed.whole) f in
    let of_same : FailsFirst c (runs_of p d.threads) h at bound = subst (λ (ts : List ThreadPart). FailsFirst c (runs_of p ts) h at bound) (sym r.threads) of_runs in
    first_of p m d y h at bound (same_threads c d (runs_of p d.threads) h at bound r.threads of_same)

-- a text that is there where a file is named is kept in it
pub keeps : (P : List ℕ → Type 0) (file : Option Word) (text : Option (List ℕ)) → IsWhereWanted (is_some file) P text → KeepsIn P file (kept_in file text)
keeps P None None w = nothing
keeps P None (Some text) w = absurd (false≢true w.0)
keeps P (Some name) None w = absurd (false≢true (sym w))
keeps P (Some name) (Some text) w = bytes name text w.1

-- this text, where a file is named
pub keeps_this : (file : Option Word) (text : List ℕ) → KeepsIn (λ t. t ≡ text) file (kept_in file (Some text))
keeps_this None text = nothing
keeps_this (Some name) text = bytes name text refl

-- what is said of a verdict is said of the one that it is
pub same_verdict : (p : Checked) (m : MemoryModel) (e f : Effort) (wanted wants : Bool) (v w : ProgramVerdict) → e ≡ f → wanted ≡ wants → v ≡ w → IsVerdictOf p m e wanted v → IsVerdictOf p m f wants w
same_verdict p m e f wanted wants v w same_effort same_wish is h =
    subst (IsVerdictOf p m f wants) is (subst (λ (b : Bool). IsVerdictOf p m f b v) same_wish (subst (λ (x : Effort). IsVerdictOf p m x wanted v) same_effort h))
