use Rattle.std.proofs.Common.{◌≡◌, ◌-◌, inl, inr, suc, refl, ◌∙◌, arith}
use Rattle.std.proofs.lemmas.Bool.{cases_lt}
use Rattle.cnf_problem.specs.Literals.{var}
use Rattle.conflict_learn.proofs.Collecting.{collected_none, collected_all, collected_other, collected_more}
use Rattle.conflict_learn.proofs.Levels.{level_of-le-level}
use Rattle.conflict_learn.proofs.Steps.{once_of}
use Rattle.conflict_learn.proofs.Walk.{read_mark}
use Rattle.conflict_learn.proofs.resolvent.Resolvent.learnt.Goals as goal

pub loop-i-init : goal.loop-i-init
loop-i-init c = record {
  within = omega arith;
  collected = rw c.new-lits.ensures (collected_none c.args.trail.now.entries c.args.self.now.marked.items c.len-i.result c.len-i.ensures.count c.requires.above);
}

pub loop-i-preserved-then-level : goal.loop-i-preserved-then-level
loop-i-preserved-then-level c =
    let s = c.args.self.now in
    let t = c.args.trail.now in
    let p = c.lit_at-lit.ensures in
    let down : suc (c.loop-i.i - 1) ≡ c.loop-i.i = omega arith in
    let marked = read_mark t s.marked.items s.last (c.loop-i.i - 1) c.var.result c.lit_at-lit.result c.index.result.now c.requires.well c.requires.marks p c.var.ensures c.index.ensures ∙ c.if-index.true in
    let here = c.level_of-level.ensures in
    let top = c.level.ensures in
    let best = c.max-back.ensures in
    let low = c.loop-i.invariant.collected.lower in
    record {
      within = omega arith;
      collected = rw (c.in_ok-push.ensures.ok, c.negated.ensures.value)
          (collected_more t.entries s.marked.items c.loop-i.i (c.loop-i.i - 1) c.lit_at-lit.result c.loop-i.lits c.loop-i.back c.max-back.result down p marked (once_of t c.requires.well)
          (omega arith) (omega arith) (inl (omega arith)) (elim (cases_lt c.loop-i.back c.level_of-level.result) [ inl lt ↦ inr (omega arith) | inr ge ↦ inl (omega arith) ])
          c.loop-i.invariant.collected);
    }

pub loop-i-preserved-else-level : goal.loop-i-preserved-else-level
loop-i-preserved-else-level c =
    let s = c.args.self.now in
    let t = c.args.trail.now in
    let p = c.lit_at-lit.ensures in
    let down : suc (c.loop-i.i - 1) ≡ c.loop-i.i = omega arith in
    let marked = read_mark t s.marked.items s.last (c.loop-i.i - 1) c.var.result c.lit_at-lit.result c.index.result.now c.requires.well c.requires.marks p c.var.ensures c.index.ensures ∙ c.if-index.true in
    let here = c.level_of-level.ensures in
    let top = c.level.ensures in
    let bound = level_of-le-level (var c.lit_at-lit.result) t.entries in
    record {
      within = omega arith;
      collected = rw (c.in_ok-push.ensures.ok, c.negated.ensures.value)
          (collected_more t.entries s.marked.items c.loop-i.i (c.loop-i.i - 1) c.lit_at-lit.result c.loop-i.lits c.loop-i.back c.loop-i.back down p marked (once_of t c.requires.well)
          c.loop-i.invariant.collected.lower (omega arith) (inr (omega arith)) (inl refl) c.loop-i.invariant.collected);
    }

pub loop-i-preserved : goal.loop-i-preserved
loop-i-preserved c =
    let s = c.args.self.now in
    let t = c.args.trail.now in
    let p = c.lit_at-lit.ensures in
    let down : suc (c.loop-i.i - 1) ≡ c.loop-i.i = omega arith in
    let free = read_mark t s.marked.items s.last (c.loop-i.i - 1) c.var.result c.lit_at-lit.result c.index.result.now c.requires.well c.requires.marks p c.var.ensures c.index.ensures ∙ c.if-index.false in
    record {
      within = omega arith;
      collected = collected_other t.entries s.marked.items c.loop-i.i (c.loop-i.i - 1) c.lit_at-lit.result c.loop-i.lits c.loop-i.back down p free c.loop-i.invariant.collected;
    }

pub returns : goal.returns
returns c = collected_all c.args.trail.now.entries c.args.self.now.marked.items c.loop-i.i c.loop-i.lits c.loop-i.back (omega arith) c.loop-i.invariant.collected
