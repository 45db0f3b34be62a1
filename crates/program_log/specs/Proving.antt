-- What a whole text is for a program.
use Rattle.std.specs.Prelude.{◌≡◌, ◌≢◌, ℕ, List, length}
use Rattle.c_check.specs.declared.checked.Checked.{Checked}
use Rattle.cnf_problem.specs.declared.problem.Problem.{Problem}
use Rattle.encode_match.specs.declared.Encoded.{Encoded}
use Rattle.lemma_log.specs.declared.hints.AnyLog.{AnyLog}
use Rattle.lemma_log.specs.declared.hints.AnyLog.TheVariants.{Plain, Hinted}
use Rattle.log_checker.specs.declared.refused.Refused.{Refused}
use Rattle.log_checker.specs.Refusals.{IsHintedRefusal, IsRefusal}
use Rattle.program_log.specs.declared.answers.LogAnswer.TheVariants.{Accepted}
use Rattle.program_log.specs.declared.proving.Proved.{Proved}
use Rattle.program_log.specs.declared.proving.Proved.TheVariants.{Proof, Other}
use Rattle.program_log.specs.Logs.{IsAnswerFor, IsProofText, entries_of}

-- only want of memory is free
abbrev pub IsLogRefusal : Problem → AnyLog → Refused → Type 0
IsLogRefusal q (Plain log) r = IsRefusal q log.entries r
IsLogRefusal q (Hinted h) r = IsHintedRefusal q h.log.entries h.hints r

-- a log that is accepted, with the number of its entries; or another answer
abbrev pub IsProved : Checked → Encoded → List ℕ → Proved → Type 0
IsProved p x text (Proof n log) = IsProofText p x log text × (n ≡ length (entries_of log))
IsProved p x text (Other a) = IsAnswerFor p x text a × ((n : ℕ) → a ≢ Accepted n)
