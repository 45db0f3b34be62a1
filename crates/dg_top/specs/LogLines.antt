-- How it is printed what a log is for a program.
use Rattle.std.specs.Prelude.{ℕ, List, [], ◌∷◌, ◌++◌, codes, decimal}
use Rattle.log_checker.specs.declared.refused.Refused.{Refused}
use Rattle.log_checker.specs.declared.refused.Refused.TheVariants as refusal
use Rattle.program_log.specs.declared.answers.LogAnswer.{LogAnswer}
use Rattle.program_log.specs.declared.answers.LogAnswer.TheVariants as answer

-- why a log is refused: a ticket with a variable or the position of a hint, a ticket, or how many entries there are; want of memory is
-- never printed
abbrev pub refused_text : Refused → List ℕ
refused_text (refusal.BadNumber ticket variable) = codes "BadNumber " ++ decimal ticket ++ codes " " ++ decimal variable
refused_text (refusal.NotImplied ticket lits) = codes "NotImplied " ++ decimal ticket
refused_text (refusal.BadHint ticket position) = codes "BadHint " ++ decimal ticket ++ codes " " ++ decimal position
refused_text (refusal.NoCycle ticket local global) = codes "NoCycle " ++ decimal ticket
refused_text (refusal.NoEmpty entries) = codes "NoEmpty " ++ decimal entries
refused_text refusal.OutOfMemory = []

-- the line in which the log's head differs, as it stands there and as it stands in the problem's
abbrev pub other_text : ℕ → List ℕ → List ℕ → List ℕ
other_text line theirs ours = codes "REFUSED OtherProblem " ++ decimal line ++ (10 ∷ []) ++ codes "log " ++ theirs ++ (10 ∷ []) ++ codes "here " ++ ours ++ (10 ∷ [])

abbrev pub log_answer_text : LogAnswer → List ℕ
log_answer_text (answer.Accepted entries) = codes "ACCEPTED " ++ decimal entries ++ (10 ∷ [])
log_answer_text (answer.OtherProblem line theirs ours) = other_text line theirs ours
log_answer_text (answer.Refused why) = codes "REFUSED " ++ refused_text why ++ (10 ∷ [])
log_answer_text (answer.BadLog line) = codes "refused G1 LogText " ++ decimal line ++ (10 ∷ [])

abbrev pub log_status : LogAnswer → ℕ
log_status (answer.Accepted entries) = 0
log_status (answer.OtherProblem line theirs ours) = 1
log_status (answer.Refused why) = 1
log_status (answer.BadLog line) = 4
