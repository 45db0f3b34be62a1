use Rattle.std.proofs.Common.{◌≡◌, ◌⊎◌, inl, inr, arith, subst}
use Rattle.std.proofs.lemmas.Bool.{cases_lt}
use Rattle.std.proofs.lemmas.List.{get_or_default}
use Rattle.cnf_problem.specs.Chains.{IsFalse}
use Rattle.dg_base.specs.declared.Lit.{Lit}
use Rattle.trail_state.specs.Trails.{true_lits}
use Rattle.clause_store.proofs.new_watch.look.Goals as goal

pub loop-i-preserved : goal.loop-i-preserved
loop-i-preserved c k d h =
    elim (cases_lt k c.loop-i.i) [
      | inl lt ↦ c.loop-i.invariant k d lt
      | inr ge ↦
          let e : k ≡ c.loop-i.i = omega arith in
          let zero_lit : Lit = record { 0 = 0 } in
          let P : Lit → Type 0 = λ x. (x ≡ c.args.other) ⊎ IsFalse (true_lits c.args.trail.now.entries) x in
          rw e (subst P (get_or_default c.args.clause.now c.loop-i.i zero_lit d c.loop-i-test.true) c.if-can_watch.ensures)
    ]
