use Rattle.bound_laws.proofs.Initials.{words_only}
use Rattle.bound_laws.proofs.laws.accepted_texts_have_words_only.Goals as goal

pub returns : goal.returns
returns c = words_only c.accepted_texts_have_word_constants.ensures
