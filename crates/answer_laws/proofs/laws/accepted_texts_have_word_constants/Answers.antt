use Rattle.answer_laws.proofs.Constants.{accepted_constants}
use Rattle.answer_laws.proofs.laws.accepted_texts_have_word_constants.Goals as goal

pub returns : goal.returns
returns c = accepted_constants
