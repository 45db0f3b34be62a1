-- What holds of all answers to logs.
use Rattle.std.specs.Prelude.{◌≡◌, ℕ, List, length}
use Rattle.axiom_model.specs.declared.Candidate.{Candidate}
use Rattle.axiom_model.specs.declared.MemoryModel.{MemoryModel}
use Rattle.c_check.specs.declared.checked.Checked.{Checked}
use Rattle.run_model.specs.Threads.{ProgramFails}
use Rattle.encode_match.specs.declared.Encoded.{Encoded}
use Rattle.lemma_log.specs.declared.Entry.{Entry}
use Rattle.log_checker.specs.Goodness.{EndsEmpty}
use Rattle.program_log.specs.declared.answers.LogAnswer.{LogAnswer}
use Rattle.program_log.specs.declared.answers.LogAnswer.TheVariants.{Accepted}
use Rattle.program_log.specs.declared.answers.Migration.TheVariants.{Migrated}
use Rattle.program_log.specs.Logs.{IsAnswerFor, IsChainOf, IsCheck, IsHintedText, IsMigration}

-- no execution of the program fails under the model
abbrev pub IsSafe : Checked → MemoryModel → Type 0
IsSafe p m = (c : Candidate) → ¬ ProgramFails p m c

abbrev pub AcceptedIsSafe : Type 0
AcceptedIsSafe = (m : MemoryModel) (p : Checked) (text : List ℕ) (n : ℕ) → IsCheck m p text (Accepted n) → IsSafe p m

abbrev pub MigratedIsSafe : Type 0
MigratedIsSafe = (m : MemoryModel) (p : Checked) (old new : List ℕ) (n : ℕ) → IsMigration m p old (Migrated n new) → IsSafe p m

-- a kept text whose last entry is the empty clause is accepted
abbrev pub KeptIsAccepted : Type 0
KeptIsAccepted =
    (m : MemoryModel) (p : Checked) (x : Encoded) (entries : List Entry) (text : List ℕ)
    → IsChainOf p m x → IsHintedText p x entries text → EndsEmpty entries → IsCheck m p text (Accepted (length entries))

-- for one problem, a text that may be accepted is answered with nothing else
abbrev pub AcceptedIsAlone : Type 0
AcceptedIsAlone = (p : Checked) (x : Encoded) (text : List ℕ) (n : ℕ) (a : LogAnswer) → IsAnswerFor p x text (Accepted n) → IsAnswerFor p x text a → a ≡ Accepted n
