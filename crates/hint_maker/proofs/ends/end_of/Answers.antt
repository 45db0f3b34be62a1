use Rattle.std.proofs.Common.{◌≡◌, None, Some, ap, ◌∙◌, subst}
use Rattle.dg_base.proofs.Lists.{one_answer}
use Rattle.std.specs.Prelude.{slice_get}
use Rattle.dg_base.specs.declared.Lit.{Lit}
use Rattle.cnf_problem.specs.Literals.{var}
use Rattle.trail_state.specs.Trails.{reason_of, true_lits}
use Rattle.unit_refuter.specs.declared.refuter.Denied.{Denied}
use Rattle.hint_maker.specs.Walking.{IsRefuted}
use Rattle.hint_maker.proofs.Reasons.{end_at_conflict, end_at_own, own_forced, reason_there}
use Rattle.hint_maker.proofs.ends.end_of.Goals as goal

pub unreachable-requires : goal.unreachable-requires
unreachable-requires c =
    let t = c.args.trail.now in
    let i = c.in-Some.before in
    let first = c.in-Some.ensures.some in
    let f = own_forced c.requires.refuted.0 c.args.lits.now t.entries i first.literal c.requires.rising c.requires.refuted.1 first.there first.listed in
    let same : c.lit_at.result ≡ first.literal = one_answer (slice_get (true_lits t.entries) i) c.lit_at.result first.literal c.lit_at.ensures first.there in
    let no : None ≡ Some f.id = c.in-None-reason_of.ensures ∙ (ap (λ (x : Lit). reason_of (var x) t.entries) same ∙ reason_there t i first.literal f.id c.len-whole.ensures.well f.there) in
    cc

pub unreachable-requires-in-Satisfied : goal.unreachable-requires-in-Satisfied
unreachable-requires-in-Satisfied c =
    let d = c.requires.refuted in
    let true_one = subst (λ (z : Denied). IsRefuted d.0 c.args.lits.now c.args.trail.now.entries z) c.in-Satisfied.is d.2 in
    c.in-None.ensures.none true_one.0 true_one.2 true_one.1

pub returns-in-Some-reason_of-clause-end : goal.returns-in-Some-reason_of-clause-end
returns-in-Some-reason_of-clause-end c clauses derived refuted =
    let t = c.args.trail.now in
    let i = c.in-Some.before in
    let first = c.in-Some.ensures.some in
    let f = own_forced clauses c.args.lits.now t.entries i first.literal c.requires.rising derived first.there first.listed in
    let same : c.lit_at.result ≡ first.literal = one_answer (slice_get (true_lits t.entries) i) c.lit_at.result first.literal c.lit_at.ensures first.there in
    let both : Some c.in-Some-reason_of.clause.0 ≡ Some f.id = c.in-Some-reason_of.ensures ∙ (ap (λ (x : Lit). reason_of (var x) t.entries) same ∙ reason_there t i first.literal f.id c.len-whole.ensures.well f.there) in
    let is : c.in-Some-reason_of.clause.0 ≡ f.id = cc in
    end_at_own clauses c.args.lits.now t.entries i first f c.in-Some-reason_of.clause is

pub returns-in-Conflict-clause-end : goal.returns-in-Conflict-clause-end
returns-in-Conflict-clause-end c clauses derived refuted =
    let es = c.args.trail.now.entries in
    end_at_conflict clauses c.args.lits.now es c.in-Conflict.clause c.len-whole.result c.len-whole.ensures.count c.in-None.ensures.none (subst (λ (z : Denied). IsRefuted clauses c.args.lits.now es z) c.in-Conflict.is refuted)
