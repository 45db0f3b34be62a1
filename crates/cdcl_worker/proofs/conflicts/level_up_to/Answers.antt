use Rattle.std.proofs.Common.{inr, ◌∙◌, sym, refl, arith}
use Rattle.std.proofs.lemmas.List.Elements.{Contains-get_or}
use Rattle.cdcl_worker.proofs.Found.{value_assigned, none_assigned, greatest_next, greatest_all}
use Rattle.cdcl_worker.proofs.conflicts.level_up_to.Goals as goal
use Rattle.cdcl_worker.proofs.conflicts.level_up_to.Goals.{then-is_some+then-level-most+then-level-greatest, then-is_some+else-level-most, else-level-most-via-then-level-most+else-level-greatest, else-level-most-via-else-level-most, else-is_some}

pub level_of-level-requires : goal.level_of-level-requires
level_of-level-requires c = value_assigned _ _ c.value.result c.value.ensures (sym c.if-is_some.ensures)

pub loop-lit-preserved : goal.loop-lit-preserved
loop-lit-preserved c =
    elim c.if-is_some.branch [
      | then-is_some+then-level-most+then-level-greatest w ↦ record {
        within = omega arith;
        greatest = greatest_next c.args.trail.now.entries c.args.clause.now c.args.most c.loop-lit.lit-index c.loop-lit.greatest c.if-is_some.greatest (record { 0 = 0 }) c.loop-lit.invariant.greatest (omega arith) (λ assigned few. (let e = w.level_of-level.ensures in omega arith));
        reached = inr (_, Contains-get_or c.args.clause.now c.loop-lit.lit-index _ c.loop-lit-test.true, value_assigned _ _ c.value.result c.value.ensures (sym w.if-is_some.ensures), sym w.level_of-level.ensures ∙ sym w.greatest-is);
      }
      | then-is_some+else-level-most w ↦ elim w.else-level-most.branch [
        | else-level-most-via-then-level-most+else-level-greatest x ↦ record {
          within = omega arith;
          greatest = greatest_next c.args.trail.now.entries c.args.clause.now c.args.most c.loop-lit.lit-index c.loop-lit.greatest c.if-is_some.greatest (record { 0 = 0 }) c.loop-lit.invariant.greatest (omega arith) (λ assigned few. (let e = w.level_of-level.ensures in omega arith));
          reached = rw w.greatest-is c.loop-lit.invariant.reached;
        }
        | else-level-most-via-else-level-most x ↦ record {
          within = omega arith;
          greatest = greatest_next c.args.trail.now.entries c.args.clause.now c.args.most c.loop-lit.lit-index c.loop-lit.greatest c.if-is_some.greatest (record { 0 = 0 }) c.loop-lit.invariant.greatest (omega arith) (λ assigned few. (let e = w.level_of-level.ensures in omega arith));
          reached = rw w.greatest-is c.loop-lit.invariant.reached;
        }
      ]
      | else-is_some w ↦ record {
        within = omega arith;
        greatest = greatest_next c.args.trail.now.entries c.args.clause.now c.args.most c.loop-lit.lit-index c.loop-lit.greatest c.if-is_some.greatest (record { 0 = 0 }) c.loop-lit.invariant.greatest (omega arith) (λ assigned few. absurd (none_assigned _ _ c.value.result c.value.ensures (sym w.if-is_some.ensures) assigned));
        reached = rw w.greatest-is c.loop-lit.invariant.reached;
      }
    ]

pub returns-clause-greatest : goal.returns-clause-greatest
returns-clause-greatest c = greatest_all _ _ _ c.loop-lit.lit-index c.loop-lit.greatest (omega arith) c.loop-lit.invariant.greatest
