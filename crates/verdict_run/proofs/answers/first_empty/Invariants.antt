use Rattle.std.proofs.Common.{◌≡◌, ◌≢◌, ℕ, ◌<◌, []}
use Rattle.std.specs.Prelude.{slice_get, Some}
use Rattle.lemma_log.specs.declared.Entry.{Entry}
use Rattle.verdict_run.proofs.answers.first_empty.Given as goal

abbrev pub invariant-loop-place : goal.invariant-loop-place
invariant-loop-place l = (k : ℕ) (e : Entry) → k < l.place → slice_get l.entries k ≡ Some e → e.lemma.lits ≢ []
