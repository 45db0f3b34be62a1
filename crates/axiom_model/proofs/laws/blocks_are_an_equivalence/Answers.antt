use Rattle.axiom_model.proofs.Blocks.{same_block_trans}
use Rattle.axiom_model.proofs.laws.blocks_are_an_equivalence.Goals as goal

pub returns-clause-transitive : goal.returns-clause-transitive
returns-clause-transitive c = same_block_trans
