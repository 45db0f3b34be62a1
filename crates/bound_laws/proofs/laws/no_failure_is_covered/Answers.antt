use Rattle.bound_laws.proofs.Covered.{no_failure_covers}
use Rattle.bound_laws.proofs.laws.no_failure_is_covered.Goals as goal

pub returns : goal.returns
returns c = no_failure_covers c.accepted_texts_have_words_only.ensures c.full_bound_suffices.ensures
