use Rattle.std.proofs.Common.{◌≡◌, List, subst}
use Rattle.std.proofs.lemmas.List.Elements.{All-contains}
use Rattle.cnf_problem.specs.Literals.{IsOver}
use Rattle.lemma_log.specs.declared.Entry.{Entry}
use Rattle.cdcl_worker.specs.Searching.{IsLast}
use Rattle.cdcl_worker.proofs.worker.Worker.keep_last.Goals as goal

pub add-requires-clause-watching : goal.add-requires-clause-watching
add-requires-clause-watching c = rw (← c.self.view_is) at c.requires.watching

pub add-requires-clause-over : goal.add-requires-clause-over
add-requires-clause-over c =
    let over = rw (← c.self.view_is) at c.requires.over in
    let lits = c.last_lits-lits.result.now in
    let last = subst (λ (es : List Entry). IsLast es lits) c.entries.ensures c.last_lits-lits.ensures in
    λ l m. All-contains (IsOver c.self.inside.trail.vars) lits l (over lits last) m

pub add-requires-clause-watchable : goal.add-requires-clause-watchable
add-requires-clause-watchable c =
    let can = rw (← c.self.view_is) at c.requires.watchable in
    let lits = c.last_lits-lits.result.now in
    let last = subst (λ (es : List Entry). IsLast es lits) c.entries.ensures c.last_lits-lits.ensures in
    λ above. can above lits last

pub returns-clause-added : goal.returns-clause-added
returns-clause-added c =
    let lits = c.last_lits-lits.result.now in
    let last = subst (λ (es : List Entry). IsLast es lits) c.entries.ensures c.last_lits-lits.ensures in
    rw (← c.self.view_is) (lits, last, c.in_ok-add.ensures.added)
