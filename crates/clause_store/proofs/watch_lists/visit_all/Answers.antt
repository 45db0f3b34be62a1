use Rattle.std.proofs.Common.{◌≡◌, ◌≤◌, ◌-◌, ◌+◌, ◌++◌, ap, sym, ◌∙◌, refl, arith, length}
use Rattle.std.specs.Prelude.{is_some}
use Rattle.std.proofs.lemmas.List.{length-set}
use Rattle.cnf_problem.specs.Literals.{negated as negation}
use Rattle.dg_base.specs.declared.Lit.{Lit}
use Rattle.trail_state.specs.Forcing.{none}
use Rattle.clause_store.proofs.Visits.{begins, forced_then, roomy_set, visiting_more, visiting_none_left}
use Rattle.clause_store.proofs.watch_lists.visit_all.Goals as goal

pub take_out-link-requires : goal.take_out-link-requires
take_out-link-requires c = rw c.negated.ensures.value c.requires.head

pub loop-i-init : goal.loop-i-init
loop-i-init c =
    let clauses = c.args.first.now ++ c.args.added.now in
    let old = c.args.links.now in
    let code : c.negated.result.0 ≡ (negation c.args.p).0 = ap (λ (l : Lit). l.0) c.negated.ensures.value in
    let whole : c.len-count.result - 0 ≡ length old.next = omega (arith, c.len-count.ensures, ap length c.take_out-link.ensures.next) in
    let start = begins clauses c.args.trail.now.entries c.args.trail.now.taken c.args.p old.next old.heads old.owner_of c.requires.head c.requires.owing in
    record {
      room = c.len-count.ensures;
      roomy = rw (c.take_out-link.ensures.next, c.take_out-link.ensures.heads) (roomy_set clauses c.args.trail.now.vars old.next old.heads old.next _ refl (length-set _ _ _) c.requires.roomy);
      at = c.requires.at;
      visiting = rw (c.take_out-link.ensures.next, c.take_out-link.ensures.heads, c.take_out-link.ensures.owners, c.take_out-link.ensures.first, code, whole) start;
      refuted = tt;
      forced = none;
      taken = refl;
      vars = refl;
    }

pub loop-i-preserved : goal.loop-i-preserved
loop-i-preserved c =
    let one_less : c.len-count.result - (c.loop-i.i + 1) ≡ c.len-count.result - c.loop-i.i - 1 = omega arith in
    let e = c.visit_link-after.ensures in
    record {
      room = c.loop-i.invariant.room ∙ sym e.long;
      roomy = e.roomy;
      at = e.at;
      visiting = rw one_less e.visiting;
      refuted = e.refuted;
      forced = forced_then _ _ _ _ c.loop-i.invariant.forced e.forced;
      taken = e.taken ∙ c.loop-i.invariant.taken;
      vars = e.vars ∙ c.loop-i.invariant.vars;
    }

pub visit_link-after-requires-clause-visiting : goal.visit_link-after-requires-clause-visiting
visit_link-after-requires-clause-visiting c =
    let back : c.len-count.result - c.loop-i.i - 1 + 1 ≡ c.len-count.result - c.loop-i.i = omega (arith, c.loop-i-test.true) in
    rw back c.loop-i.invariant.visiting

pub returns-then-link-clause-visiting : goal.returns-then-link-clause-visiting
returns-then-link-clause-visiting c =
    let l = c.loop-i.links in
    let enough : c.len-count.result - c.loop-i.i ≤ length l.next = omega (arith, c.loop-i.invariant.room) in
    rw c.if-link.true at
    (visiting_more (c.args.first.now ++ c.args.added.now) c.loop-i.trail.entries c.loop-i.trail.taken c.args.p l.next l.heads l.owner_of c.loop-i.link (c.len-count.result - c.loop-i.i) (length l.next) (is_some c.loop-i.conflict) enough c.loop-i.invariant.visiting)

pub returns-after-loop-i-clause-visiting : goal.returns-after-loop-i-clause-visiting
returns-after-loop-i-clause-visiting c =
    let l = c.loop-i.links in
    let enough : c.len-count.result - c.loop-i.i ≤ length l.next = omega (arith, c.loop-i.invariant.room) in
    let over : c.len-count.result - c.loop-i.i ≡ 0 = omega (arith, c.loop-i-test.false) in
    let ended = visiting_none_left (c.args.first.now ++ c.args.added.now) c.loop-i.trail.entries c.loop-i.trail.taken c.args.p l.next l.heads l.owner_of c.loop-i.link (c.len-count.result - c.loop-i.i) (is_some c.loop-i.conflict) over c.loop-i.invariant.visiting in
    rw ended at
    (visiting_more (c.args.first.now ++ c.args.added.now) c.loop-i.trail.entries c.loop-i.trail.taken c.args.p l.next l.heads l.owner_of c.loop-i.link (c.len-count.result - c.loop-i.i) (length l.next) (is_some c.loop-i.conflict) enough c.loop-i.invariant.visiting)
