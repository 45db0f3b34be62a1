use Rattle.std.proofs.Common.{◌<◌, length, arith}
use Rattle.std.proofs.lemmas.List.{take_more}
use Rattle.dg_base.specs.declared.Lit.{Lit}
use Rattle.conflict_learn.proofs.Steps.{adds_one}
use Rattle.conflict_learn.proofs.resolvent.Resolvent.add.Goals as goal

pub loop-lit-preserved : goal.loop-lit-preserved
loop-lit-preserved c =
    let zero_lit : Lit = record { 0 = 0 } in
    let inside : c.loop-lit.lit-index < length c.args.clause.now = omega arith in
    record {
      marks = c.mark.ensures.marks;
      adds = rw (take_more c.args.clause.now c.loop-lit.lit-index zero_lit inside) (adds_one _ _ _ _ _ _ c.loop-lit.invariant.adds c.mark.ensures.adds);
      grows = omega arith;
    }
