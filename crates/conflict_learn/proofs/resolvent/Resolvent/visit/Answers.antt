use Rattle.std.proofs.Common.{◌≡◌, subst, arith}
use Rattle.std.specs.Prelude.{slice_get, Some}
use Rattle.std.proofs.lemmas.Option.{slice_get_within}
use Rattle.dg_base.proofs.Lists.{contains_place}
use Rattle.trail_state.specs.Trails.{true_lits}
use Rattle.conflict_learn.proofs.Marks.{last_parts, last_from}
use Rattle.conflict_learn.proofs.Resolving.{resolvent_follows}
use Rattle.conflict_learn.proofs.Steps.{once_of}
use Rattle.conflict_learn.proofs.Walk.{met_by_read, reason_assigned, resolved_below}
use Rattle.conflict_learn.proofs.resolvent.Resolvent.visit.Goals as goal

pub returns-in_default-clause-below : goal.returns-in_default-clause-below
returns-in_default-clause-below g c =
    let r = c.requires in
    let m = met_by_read (g.R.Reasons.clauses c.args.reasons.now) c.args.trail.now c.args.self.now.marked.items c.args.self.now.last c.args.i c.var.result c.lit_at-lit.result c.index.result.now r.well r.marks r.forced r.below r.several c.lit_at-lit.ensures c.var.ensures c.index.ensures c.if-not-index.false in
    let why = m.why in
    let e = c.in_default.ensures in
    absurd (cc)

pub clause-requires : goal.clause-requires
clause-requires g c =
    let r = c.requires in
    let m = met_by_read (g.R.Reasons.clauses c.args.reasons.now) c.args.trail.now c.args.self.now.marked.items c.args.self.now.last c.args.i c.var.result c.lit_at-lit.result c.index.result.now r.well r.marks r.forced r.below r.several c.lit_at-lit.ensures c.var.ensures c.index.ensures c.if-not-index.false in
    let why = m.why in
    let e = c.in-Some.ensures in
    let same : c.in-Some.reason.0 ≡ m.id = cc in
    let within = slice_get_within (g.R.Reasons.clauses c.args.reasons.now) m.id m.forced.clause m.forced.named in
    omega arith

pub add-requires-clause-assigned : goal.add-requires-clause-assigned
add-requires-clause-assigned g c =
    let r = c.requires in
    let clauses = g.R.Reasons.clauses c.args.reasons.now in
    let m = met_by_read clauses c.args.trail.now c.args.self.now.marked.items c.args.self.now.last c.args.i c.var.result c.lit_at-lit.result c.index.result.now r.well r.marks r.forced r.below r.several c.lit_at-lit.ensures c.var.ensures c.index.ensures c.if-not-index.false in
    let why = m.why in
    let e = c.in-Some.ensures in
    let same : c.in-Some.reason.0 ≡ m.id = cc in
    let named = subst (λ k. slice_get clauses k ≡ Some c.clause.result.now) same c.clause.ensures in
    reason_assigned clauses c.args.trail.now.entries c.clause.result.now c.args.i m.id c.lit_at-lit.result m.forced named (contains_place (true_lits c.args.trail.now.entries) c.args.i c.lit_at-lit.result c.lit_at-lit.ensures)

pub unmark-requires-clause-listed : goal.unmark-requires-clause-listed
unmark-requires-clause-listed g c = contains_place (true_lits c.args.trail.now.entries) c.args.i c.lit_at-lit.result c.lit_at-lit.ensures

pub unmark-requires-clause-marked : goal.unmark-requires-clause-marked
unmark-requires-clause-marked g c =
    let r = c.requires in
    let m = met_by_read (g.R.Reasons.clauses c.args.reasons.now) c.args.trail.now c.args.self.now.marked.items c.args.self.now.last c.args.i c.var.result c.lit_at-lit.result c.index.result.now r.well r.marks r.forced r.below r.several c.lit_at-lit.ensures c.var.ensures c.index.ensures c.if-not-index.false in
    let parts = last_parts c.args.self.now.marked.items c.args.trail.now.entries c.lit_at-lit.result m.last in
    last_from c.add.new.self.marked.items c.args.trail.now.entries c.lit_at-lit.result (c.add.ensures.adds.stay c.lit_at-lit.result parts.0) parts.1

pub returns-clause-below : goal.returns-clause-below
returns-clause-below g c =
    let r = c.requires in
    let clauses = g.R.Reasons.clauses c.args.reasons.now in
    let m = met_by_read clauses c.args.trail.now c.args.self.now.marked.items c.args.self.now.last c.args.i c.var.result c.lit_at-lit.result c.index.result.now r.well r.marks r.forced r.below r.several c.lit_at-lit.ensures c.var.ensures c.index.ensures c.if-not-index.false in
    let why = m.why in
    let e = c.in-Some.ensures in
    let same : c.in-Some.reason.0 ≡ m.id = cc in
    let named = subst (λ k. slice_get clauses k ≡ Some c.clause.result.now) same c.clause.ensures in
    resolved_below clauses c.args.trail.now c.clause.result.now c.args.self.now.marked.items c.add.new.self.marked.items c.unmark.new.self.marked.items c.args.i m.id c.lit_at-lit.result
    (once_of c.args.trail.now r.well) r.below c.lit_at-lit.ensures m.forced named c.add.ensures.adds c.unmark.ensures.gone c.unmark.ensures.others

pub returns-clause-follow : goal.returns-clause-follow
returns-clause-follow g c =
    let r = c.requires in
    let clauses = g.R.Reasons.clauses c.args.reasons.now in
    let m = met_by_read clauses c.args.trail.now c.args.self.now.marked.items c.args.self.now.last c.args.i c.var.result c.lit_at-lit.result c.index.result.now r.well r.marks r.forced r.below r.several c.lit_at-lit.ensures c.var.ensures c.index.ensures c.if-not-index.false in
    let why = m.why in
    let e = c.in-Some.ensures in
    let same : c.in-Some.reason.0 ≡ m.id = cc in
    let named = subst (λ k. slice_get clauses k ≡ Some c.clause.result.now) same c.clause.ensures in
    resolvent_follows clauses c.args.trail.now.entries c.clause.result.now c.args.self.now.marked.items c.add.new.self.marked.items c.unmark.new.self.marked.items c.args.i m.id c.lit_at-lit.result
    (once_of c.args.trail.now r.well) r.forced m.entry named c.add.ensures.adds c.unmark.ensures.others
