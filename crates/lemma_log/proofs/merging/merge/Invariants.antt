use Rattle.std.proofs.Common.{◌≡◌, length}
use Rattle.std.specs.Prelude.{ℕ, Some, slice_get}
use Rattle.lemma_log.specs.declared.Entry.{Entry}
use Rattle.lemma_log.specs.Merging.{IsLogged, IsCopy}
use Rattle.lemma_log.proofs.merging.merge.Given as goal

abbrev pub invariant-loop-spot : goal.invariant-loop-spot
invariant-loop-spot l = record {
  long : length l.entries ≡ l.spot-index;
  copies : (t : ℕ) (f : Entry) → slice_get l.entries t ≡ Some f → (e : Entry) × ((i : ℕ) × (k : ℕ) × IsLogged l.logs i k e) × (e.ticket ≡ t) × IsCopy f e;
}
