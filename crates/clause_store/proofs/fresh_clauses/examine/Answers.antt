use Rattle.std.proofs.Common.{◌≡◌, ◌++◌, ◌*◌, sym, subst, ◌∙◌}
use Rattle.std.specs.Prelude.{Contains}
use Rattle.cnf_problem.proofs.LiteralLaws.{same_lit}
use Rattle.clause_store.specs.Watching.{clause_of, watched}
use Rattle.clause_store.proofs.Known.{first_clause, first_listed}
use Rattle.clause_store.proofs.fresh_clauses.examine.Goals.{After-clause_at}
use Rattle.clause_store.proofs.fresh_clauses.examine.Goals as goal

same_clause : (c : After-clause_at) → clause_of (c.args.first.now ++ c.args.added.now) (2 * c.args.id) ≡ c.clause_at.result.now
same_clause c = first_clause (c.args.first.now ++ c.args.added.now) c.args.id c.clause_at.result.now c.clause_at.ensures

same_watch : (c : After-clause_at) → watched c.args.links.now.owner_of (2 * c.args.id) ≡ record { 0 = c.owner.result }
same_watch c = same_lit (watched c.args.links.now.owner_of (2 * c.args.id)) (record { 0 = c.owner.result }) (sym c.owner.ensures)

pub look_whole-requires-clause-over : goal.look_whole-requires-clause-over
look_whole-requires-clause-over c l m = c.requires.watched.room.range (2 * c.args.id) l (subst (λ z. Contains z l) (sym (same_clause c)) m)

pub look_whole-requires-clause-listed : goal.look_whole-requires-clause-listed
look_whole-requires-clause-listed c real =
    let there = first_listed (c.args.first.now ++ c.args.added.now) c.args.trail.now.vars c.args.links.now c.args.id c.args.id c.args.trail.now c.requires.watched c.requires.within (λ z. real (c.owner.ensures ∙ z)) in
    subst (λ z. Contains c.clause_at.result.now z) (same_watch c) (subst (λ z. Contains z (watched c.args.links.now.owner_of (2 * c.args.id))) (same_clause c) there)

pub returns-clause-looked : goal.returns-clause-looked
returns-clause-looked c =
    let b = (goal.at.returns-clause-looked c).After-clause_at in
    rw (same_clause b, same_watch b) c.look_whole.ensures.looked
