use Rattle.std.proofs.Common.{◌≡◌, ◌-◌, ◌+◌, arith, ap, sym, subst, ◌∙◌, Some, length}
use Rattle.std.specs.Prelude.{slice_get}
use Rattle.std.proofs.lemmas.Option.{slice_get_within, same_Some}
use Rattle.axiom_model.specs.declared.walk.Mark.TheVariants.{Closed}
use Rattle.axiom_model.specs.Sorting.{HasEdge}
use Rattle.axiom_model.proofs.Walking.{top_left, edge_at, looked_at, ends_at, one_top}
use Rattle.axiom_model.proofs.walk.Walk.step.Goals as goal

pub link_of-link-requires : goal.link_of-link-requires
link_of-link-requires c = top_left c.args.edges.now c.args.self.now c.args.node c.requires.walk c.requires.top

pub close-requires-clause-passed : goal.close-requires-clause-passed
close-requires-clause-passed c = c.link_of-link.ensures ∙ ap Some c.if-link-eq0.true

pub source_of-source-requires : goal.source_of-source-requires
source_of-source-requires c =
    let e = edge_at c.args.edges.now c.args.self.now c.args.node c.link_of-link.result c.requires.walk c.link_of-link.ensures c.if-link-eq0.false in
    slice_get_within c.args.edges.now (c.link_of-link.result - 1) (e.0, c.args.node) e.1

pub mark_of-requires : goal.mark_of-requires
mark_of-requires c =
    (ends_at c.args.edges.now (length c.args.self.now.marks) (c.link_of-link.result - 1) c.source_of-source.result c.source_of-source.ensures.0 c.requires.ends c.source_of-source.ensures.1).0

pub open-requires-clause-fresh : goal.open-requires-clause-fresh
open-requires-clause-fresh c = c.in-New.ensures

pub open-requires-clause-leads : goal.open-requires-clause-leads
open-requires-clause-leads c v t =
    let e = looked_at c.args.edges.now c.args.self.now c.args.node c.link_of-link.result c.source_of-source.result c.requires.walk c.link_of-link.ensures c.if-link-eq0.false c.source_of-source.ensures in
    subst (λ x. HasEdge c.args.edges.now c.source_of-source.result x) (one_top c.args.self.now.path c.args.node v c.requires.top t) (c.link_of-link.result - 1, e)

pub pass-requires-clause-within : goal.pass-requires-clause-within
pass-requires-clause-within c =
    slice_get_within c.args.edges.now (c.link_of-link.result - 1) (c.source_of-source.result, c.source_of-source.ensures.0) c.source_of-source.ensures.1

pub pass-requires-clause-last : goal.pass-requires-clause-last
pass-requires-clause-last c =
    let n = c.if-link-eq0.false in
    let e : c.link_of-link.result ≡ c.link_of-link.result - 1 + 1 = omega arith in
    c.link_of-link.ensures ∙ ap Some e

pub pass-requires-clause-closed : goal.pass-requires-clause-closed
pass-requires-clause-closed c u e =
    let same : (c.source_of-source.result, c.source_of-source.ensures.0) ≡ (u, c.args.node) = same_Some (c.source_of-source.result, c.source_of-source.ensures.0) (u, c.args.node) (sym c.source_of-source.ensures.1 ∙ e) in
    subst (λ x. slice_get c.args.self.now.marks x ≡ Some Closed) (ap (λ p. p.0) same) c.in-Closed.ensures

pub returns-in-Open-clause-back : goal.returns-in-Open-clause-back
returns-in-Open-clause-back c =
    let e = looked_at c.args.edges.now c.args.self.now c.args.node c.link_of-link.result c.source_of-source.result c.requires.walk c.link_of-link.ensures c.if-link-eq0.false c.source_of-source.ensures in
    let r = c.requires.walk.open_path c.source_of-source.result c.in-Open.ensures in
    record {
      steps = c.requires.walk.path;
      once = c.requires.walk.path_once;
      place = r.0;
      there = r.1;
      back = λ v t. subst (λ x. HasEdge c.args.edges.now c.source_of-source.result x) (one_top c.args.self.now.path c.args.node v c.requires.top t) (c.link_of-link.result - 1, e);
    }
