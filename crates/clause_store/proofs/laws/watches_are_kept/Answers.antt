use Rattle.clause_store.specs.Stores.{clauses_of}
use Rattle.clause_store.proofs.TrailLaws.{decided, assigned, undone}
use Rattle.clause_store.proofs.laws.watches_are_kept.Goals as goal

pub returns-clause-deciding : goal.returns-clause-deciding
returns-clause-deciding c p s t l w settled well = decided (clauses_of p s) p.vars s.links s.examined t l w settled.examined settled.taken

pub returns-clause-assigning : goal.returns-clause-assigning
returns-clause-assigning c p s t l id w well = assigned (clauses_of p s) p.vars s.links s.examined t l id w well.taken

pub returns-clause-undoing : goal.returns-clause-undoing
returns-clause-undoing c p s t u n w well un = undone (clauses_of p s) p.vars s.links s.examined t u n w well.taken un
