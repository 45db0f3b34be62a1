use Rattle.std.proofs.Common.{◌≡◌, ◌++◌, ◌/◌, [], sym, subst}
use Rattle.std.proofs.lemmas.Option.{get_or_from_slice_get}
use Rattle.std.specs.Prelude.{Contains}
use Rattle.cnf_problem.proofs.LiteralLaws.{same_lit}
use Rattle.clause_store.specs.Watching.{clause_of, twin, watched}
use Rattle.clause_store.proofs.watch_lists.visit_next.Goals.{After-clause_at}
use Rattle.clause_store.proofs.watch_lists.visit_next.Goals as goal

-- the clause of the link
same_clause : (c : After-clause_at) → clause_of (c.args.first.now ++ c.args.added.now) c.args.link ≡ c.clause_at.result.now
same_clause c = get_or_from_slice_get (c.args.first.now ++ c.args.added.now) (c.args.link / 2) c.clause_at.result.now [] c.clause_at.ensures

pub owner-requires : goal.owner-requires
owner-requires c = c.requires.own

pub twin-requires : goal.twin-requires
twin-requires c = c.requires.small

pub owner-requires-2 : goal.owner-requires-2
owner-requires-2 c = rw c.twin.ensures c.requires.twin_own

pub clause_at-requires : goal.clause_at-requires
clause_at-requires c = c.requires.half

-- the two literals that it watches
here_is : (c : After-clause_at) → watched c.args.links.now.owner_of c.args.link ≡ record { 0 = c.owner.result }
here_is c = same_lit (watched c.args.links.now.owner_of c.args.link) (record { 0 = c.owner.result }) (sym c.owner.ensures)

other_is : (c : After-clause_at) → watched c.args.links.now.owner_of (twin c.args.link) ≡ record { 0 = c.owner-2.result }
other_is c = same_lit (watched c.args.links.now.owner_of (twin c.args.link)) (record { 0 = c.owner-2.result }) (rw (← c.twin.ensures) (sym c.owner-2.ensures))

pub visit_clause-requires-clause-over : goal.visit_clause-requires-clause-over
visit_clause-requires-clause-over c l m = c.requires.over l (subst (λ z. Contains z l) (sym (same_clause c)) m)

pub visit_clause-requires-clause-listed : goal.visit_clause-requires-clause-listed
visit_clause-requires-clause-listed c =
    subst (λ z. Contains c.clause_at.result.now z) (other_is c) (subst (λ z. Contains z (watched c.args.links.now.owner_of (twin c.args.link))) (same_clause c) c.requires.twin_listed)

pub returns-clause-done : goal.returns-clause-done
returns-clause-done c = let b = (goal.at.returns-clause-done c).After-clause_at in rw (same_clause b, here_is b, other_is b) c.visit_clause.ensures.done
