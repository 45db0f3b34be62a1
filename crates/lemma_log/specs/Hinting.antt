-- Which lists of hints go with which entries.
use Rattle.std.specs.Prelude.{◌≡◌, ℕ, List, [], length, slice_get, Some}
use Rattle.cnf_problem.specs.declared.problem.LemmaKind.TheVariants.{Cycle}
use Rattle.lemma_log.specs.declared.Entry.{Entry}
use Rattle.lemma_log.specs.declared.hints.Hint.{Hint}

-- one list for each entry, which is empty for a cycle lemma
pub record AreHintsFor (entries : List Entry) (hints : List (List Hint)) : Type 0 where
  pub one_each : length hints ≡ length entries
  pub none_for_cycles : (k : ℕ) (e : Entry) (hs : List Hint) → slice_get entries k ≡ Some e → slice_get hints k ≡ Some hs → e.lemma.kind ≡ Cycle → hs ≡ []
