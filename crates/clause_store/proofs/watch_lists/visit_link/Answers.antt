use Rattle.std.proofs.Common.{◌≡◌, suc, sym, ◌∙◌, ◌++◌, true, false, ◌/◌, ◌+◌, add-one}
use Rattle.std.specs.Prelude.{is_some}
use Rattle.std.proofs.lemmas.List.{length-set}
use Rattle.trail_state.specs.Forcing.{AddsForced, none}
use Rattle.clause_store.specs.Watching.{IsRoomy, clause_of, twin, watched}
use Rattle.clause_store.specs.Visiting.{IsVisiting, IsAt, IsPlaced}
use Rattle.clause_store.proofs.Visits.{link_facts, visited_next, skipped, at_done, done_listed, done_refuted, done_forced, code_within, roomy_set}
use Rattle.clause_store.proofs.watch_lists.visit_link.Goals.{Start, After-visit_next-visit, After-put_back-after, After-put_back}
use Rattle.clause_store.proofs.watch_lists.visit_link.Goals as goal

at_start : (c : Start) → IsPlaced (c.args.first.now ++ c.args.added.now) c.args.trail.now.vars c.args.links.now.next c.args.links.now.heads c.args.links.now.owner_of c.args.link
at_start c =
    link_facts (c.args.first.now ++ c.args.added.now) c.args.trail.now.vars c.args.trail.now.entries c.args.trail.now.taken c.args.p
    c.args.links.now.next c.args.links.now.heads c.args.links.now.owner_of c.args.link (c.args.left + 1) (is_some c.args.conflict) c.requires.roomy c.requires.at c.requires.more c.requires.visiting

pub owner-owner-requires : goal.owner-owner-requires
owner-owner-requires c = (at_start (goal.at.owner-owner-requires c).Start).own

pub put_back-requires-clause-link : goal.put_back-requires-clause-link
put_back-requires-clause-link c = (at_start (goal.at.put_back-requires-clause-link c).Start).within

pub put_back-requires-clause-owner : goal.put_back-requires-clause-owner
put_back-requires-clause-owner c = rw c.owner-owner.ensures ((at_start (goal.at.put_back-requires-clause-owner c).Start).owner)

pub put_back-after-requires-clause-link : goal.put_back-after-requires-clause-link
put_back-after-requires-clause-link c = (at_start (goal.at.put_back-after-requires-clause-link c).Start).within

pub put_back-after-requires-clause-owner : goal.put_back-after-requires-clause-owner
put_back-after-requires-clause-owner c =
    let f = at_start (goal.at.put_back-after-requires-clause-owner c).Start in
    code_within (c.args.first.now ++ c.args.added.now) c.args.trail.now.vars c.args.links.now.next c.args.links.now.heads c.args.link c.visit_next-visit.result.watch c.requires.roomy
    (done_listed (clause_of (c.args.first.now ++ c.args.added.now) c.args.link) c.args.trail.now.entries c.visit_next-visit.new.trail.entries (c.args.link / 2) (watched c.args.links.now.owner_of c.args.link) (watched c.args.links.now.owner_of (twin c.args.link)) c.visit_next-visit.result.watch c.visit_next-visit.result.refuted f.listed c.visit_next-visit.ensures.done)

pub returns-then-is_some-clause-roomy : goal.returns-then-is_some-clause-roomy
returns-then-is_some-clause-roomy c =
    rw (c.put_back.ensures.next, c.put_back.ensures.heads) (roomy_set (c.args.first.now ++ c.args.added.now) c.args.trail.now.vars c.args.links.now.next c.args.links.now.heads _ _ (length-set _ _ _) (length-set _ _ _) c.requires.roomy)

pub returns-then-is_some-clause-visiting : goal.returns-then-is_some-clause-visiting
returns-then-is_some-clause-visiting c =
    let some : is_some c.args.conflict ≡ true = sym c.is_some.ensures ∙ c.if-is_some.true in
    let v : IsVisiting (c.args.first.now ++ c.args.added.now) c.args.trail.now.entries c.args.trail.now.taken c.args.p c.args.links.now.next c.args.links.now.heads c.args.links.now.owner_of c.args.link (suc c.args.left) true = rw (add-one, some) at c.requires.visiting in
    rw (c.put_back.ensures.next, c.put_back.ensures.heads, c.put_back.ensures.owners, c.put_back.ensures.after, some, c.owner-owner.ensures)
    (skipped (c.args.first.now ++ c.args.added.now) c.args.trail.now.vars c.args.trail.now.entries c.args.trail.now.taken c.args.p c.args.links.now.next c.args.links.now.heads c.args.links.now.owner_of c.args.link c.args.left c.requires.roomy c.requires.at c.requires.more v)

-- the visit after the next link
after_visit : (c : After-put_back-after) → is_some c.args.conflict ≡ false → IsVisiting (c.args.first.now ++ c.args.added.now) c.visit_next-visit.new.trail.entries c.visit_next-visit.new.trail.taken c.args.p c.put_back-after.new.self.next c.put_back-after.new.self.heads c.put_back-after.new.self.owner_of c.put_back-after.result c.args.left c.visit_next-visit.result.refuted
after_visit c calm =
    let v : IsVisiting (c.args.first.now ++ c.args.added.now) c.args.trail.now.entries c.args.trail.now.taken c.args.p c.args.links.now.next c.args.links.now.heads c.args.links.now.owner_of c.args.link (suc c.args.left) false = rw (add-one, calm) at c.requires.visiting in
    rw (c.put_back-after.ensures.next, c.put_back-after.ensures.heads, c.put_back-after.ensures.owners, c.put_back-after.ensures.after, c.visit_next-visit.ensures.taken)
    (visited_next (c.args.first.now ++ c.args.added.now) c.args.trail.now.vars c.args.trail.now.entries c.visit_next-visit.new.trail.entries c.args.trail.now.taken c.args.p c.args.links.now.next c.args.links.now.heads c.args.links.now.owner_of c.args.link c.args.left (c.args.link / 2) c.visit_next-visit.result.watch c.visit_next-visit.result.refuted c.requires.roomy c.requires.at c.requires.more v c.visit_next-visit.ensures.done)

roomy_after : (c : After-put_back-after) → IsRoomy (c.args.first.now ++ c.args.added.now) c.visit_next-visit.new.trail.vars c.put_back-after.new.self.next c.put_back-after.new.self.heads
roomy_after c =
    rw (c.put_back-after.ensures.next, c.put_back-after.ensures.heads, c.visit_next-visit.ensures.vars) (roomy_set (c.args.first.now ++ c.args.added.now) c.args.trail.now.vars c.args.links.now.next c.args.links.now.heads _ _ (length-set _ _ _) (length-set _ _ _) c.requires.roomy)

at_after : (c : After-put_back-after) → IsAt c.visit_next-visit.new.trail.entries c.visit_next-visit.new.trail.taken c.args.p
at_after c =
    rw c.visit_next-visit.ensures.taken
    (at_done (clause_of (c.args.first.now ++ c.args.added.now) c.args.link) c.args.trail.now.entries c.visit_next-visit.new.trail.entries c.args.trail.now.taken (c.args.link / 2) c.args.p (watched c.args.links.now.owner_of c.args.link) (watched c.args.links.now.owner_of (twin c.args.link)) c.visit_next-visit.result.watch c.visit_next-visit.result.refuted c.requires.at c.visit_next-visit.ensures.done)

pub returns-then-visit-clause-roomy : goal.returns-then-visit-clause-roomy
returns-then-visit-clause-roomy c = roomy_after (goal.at.returns-then-visit-clause-roomy c).After-put_back-after

pub returns-then-visit-clause-at : goal.returns-then-visit-clause-at
returns-then-visit-clause-at c = at_after (goal.at.returns-then-visit-clause-at c).After-put_back-after

pub returns-then-visit-clause-visiting : goal.returns-then-visit-clause-visiting
returns-then-visit-clause-visiting c =
    let calm : is_some c.args.conflict ≡ false = sym c.is_some.ensures ∙ c.if-is_some.false in
    rw (← c.if-visit.true) (after_visit (goal.at.returns-then-visit-clause-visiting c).After-put_back-after calm)

pub returns-then-visit-clause-refuted : goal.returns-then-visit-clause-refuted
returns-then-visit-clause-refuted c =
    let clauses = c.args.first.now ++ c.args.added.now in
    record {
      clause = clause_of clauses c.args.link;
      named = (at_start (goal.at.returns-then-visit-clause-refuted c).Start).named;
      conflict = done_refuted (clause_of clauses c.args.link) c.args.trail.now.entries c.visit_next-visit.new.trail.entries (c.args.link / 2) (watched c.args.links.now.owner_of c.args.link) (watched c.args.links.now.owner_of (twin c.args.link)) c.visit_next-visit.result.watch c.visit_next-visit.result.refuted c.visit_next-visit.ensures.done c.if-visit.true;
    }

-- what was forced at the next link
forced_after : (c : After-put_back-after) → AddsForced (c.args.first.now ++ c.args.added.now) c.args.trail.now.entries c.visit_next-visit.new.trail.entries
forced_after c =
    let clauses = c.args.first.now ++ c.args.added.now in
    let f = link_facts (c.args.first.now ++ c.args.added.now) c.args.trail.now.vars c.args.trail.now.entries c.args.trail.now.taken c.args.p c.args.links.now.next c.args.links.now.heads c.args.links.now.owner_of c.args.link (c.args.left + 1) (is_some c.args.conflict) c.requires.roomy c.requires.at c.requires.more c.requires.visiting in
    done_forced clauses (clause_of clauses c.args.link) c.args.trail.now.entries c.visit_next-visit.new.trail.entries (c.args.link / 2) (watched c.args.links.now.owner_of c.args.link) (watched c.args.links.now.owner_of (twin c.args.link)) c.visit_next-visit.result.watch c.visit_next-visit.result.refuted f.named f.twin_listed c.visit_next-visit.ensures.done

pub returns-then-visit-clause-forced : goal.returns-then-visit-clause-forced
returns-then-visit-clause-forced c = forced_after (goal.at.returns-then-visit-clause-forced c).After-put_back-after

pub returns-else-visit-clause-forced : goal.returns-else-visit-clause-forced
returns-else-visit-clause-forced c = forced_after (goal.at.returns-else-visit-clause-forced c).After-put_back-after

pub returns-then-is_some-clause-forced : goal.returns-then-is_some-clause-forced
returns-then-is_some-clause-forced c = none

pub returns-then-is_some-clause-long : goal.returns-then-is_some-clause-long
returns-then-is_some-clause-long c = rw c.put_back.ensures.next (length-set _ _ _)

pub returns-then-visit-clause-long : goal.returns-then-visit-clause-long
returns-then-visit-clause-long c = rw c.put_back-after.ensures.next (length-set _ _ _)

pub returns-else-visit-clause-long : goal.returns-else-visit-clause-long
returns-else-visit-clause-long c = rw c.put_back-after.ensures.next (length-set _ _ _)

pub returns-else-visit-clause-roomy : goal.returns-else-visit-clause-roomy
returns-else-visit-clause-roomy c = roomy_after (goal.at.returns-else-visit-clause-roomy c).After-put_back-after

pub returns-else-visit-clause-at : goal.returns-else-visit-clause-at
returns-else-visit-clause-at c = at_after (goal.at.returns-else-visit-clause-at c).After-put_back-after

pub returns-else-visit-clause-visiting : goal.returns-else-visit-clause-visiting
returns-else-visit-clause-visiting c =
    let calm : is_some c.args.conflict ≡ false = sym c.is_some.ensures ∙ c.if-is_some.false in
    rw (← c.if-visit.false) (after_visit (goal.at.returns-else-visit-clause-visiting c).After-put_back-after calm)

pub visit_next-visit-requires : goal.visit_next-visit-requires
visit_next-visit-requires c = at_start (goal.at.visit_next-visit-requires c).Start
