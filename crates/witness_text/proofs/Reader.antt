-- The machine of witnesses.
use Rattle.std.proofs.Common.{ℕ, List, []}
use Rattle.axiom_model.specs.declared.Candidate.{Candidate}
use Rattle.line_text.proofs.Reading.{Reader}
use Rattle.witness_text.specs.declared.reading.Reading.{Reading}
use Rattle.witness_text.specs.Machine.{ended, start, step}

abbrev pub reader : List (List ℕ) → List (List ℕ) → Reader Candidate Reading
reader fs cs = record { start = start; step = step fs cs; value = λ r. ended r [] }
