use Rattle.clause_store.specs.Stores.{clauses_of}
use Rattle.clause_store.proofs.TrailLaws.{fixpoint_below}
use Rattle.clause_store.proofs.laws.watched_is_fixpoint_below.Goals as goal

pub returns : goal.returns
returns c p s t w well = fixpoint_below (clauses_of p s) p.vars s.links s.examined t w well
