use Rattle.std.proofs.Common.{◌≢◌, ℕ, inl, inr, refl, ap, ◌∙◌}
use Rattle.std.specs.Prelude.{slice_get}
use Rattle.dg_base.proofs.Lists.{one_answer, place_of}
use Rattle.cycle_detect.specs.Parts.{IsLastInto}
use Rattle.cycle_detect.proofs.Searching.{link_held, link_before, link_smaller, left_more}
use Rattle.cycle_detect.proofs.edges.Edges.find.Goals as goal

last : (c : goal.After-before-next) → IsLastInto c.args.self.now.list c.args.to c.in-Some.id c.before-next.result
last c =
    let r = c.ends-source.result in
    let h = link_held c.args.self.now.list c.args.to c.in-Some.id r.0 r.1 c.loop-next.next c.loop-next.invariant.link c.in-Some.is c.ends-source.ensures.edge in
    link_before c.args.self.now.list c.args.to c.in-Some.id r.0 r.1 c.before-next.result h.0 c.ends-source.ensures.edge c.before-next.ensures

pub loop-next-smaller : goal.loop-next-smaller
loop-next-smaller c = link_smaller c.args.self.now.list c.args.to c.in-Some.id c.loop-next.next c.before-next.result c.in-Some.is (last c)

pub loop-next-preserved : goal.loop-next-preserved
loop-next-preserved c = record {
  link = λ k e. ((last c).found k e).1;
  left = λ j x e. left_more c.args.self.now.list c.args.to c.in-Some.id c.loop-next.next c.before-next.result (λ _. Unit {0}) (λ (z : ℕ). z ≢ c.args.from) c.in-Some.is (last c)
      (λ z f _ s. c.if-source-from.false (ap (λ (p : ℕ × ℕ). p.0) (one_answer (slice_get c.args.self.now.list c.in-Some.id) c.ends-source.result (z, c.args.to) c.ends-source.ensures.edge f) ∙ s))
      (λ i z f _. c.loop-next.invariant.left i z f) j x e tt;
}

pub returns : goal.returns
returns c = λ m.
    let p = place_of c.args.self.now.list (c.args.from, c.args.to) m in
    elim (c.loop-next.invariant.left p.0 c.args.from p.1) [
      | inl other ↦ other refl
      | inr r ↦ let bad = r.1 in let never : ⊥ = cc in never
    ]
