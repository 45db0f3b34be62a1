use Rattle.answer_laws.proofs.Written.{allowed_is_spelled}
use Rattle.answer_laws.proofs.laws.allowed_is_spelled.Goals as goal

pub returns : goal.returns
returns c = allowed_is_spelled c.candidates_are_of_words.ensures c.runs_are_short.ensures.of_candidates c.accepted_texts_have_word_constants.ensures
