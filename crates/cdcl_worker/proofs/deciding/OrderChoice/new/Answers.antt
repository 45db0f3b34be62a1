use Rattle.std.proofs.Common.{◌<◌, All, length, sym, subst, arith}
use Rattle.std.proofs.lemmas.List.Elements.{All-push}
use Rattle.std.proofs.lemmas.List.Sorted.{All-permutation}
use Rattle.cnf_problem.specs.Literals.{IsOver}
use Rattle.cdcl_worker.specs.declared.deciding.Ranked.{Ranked}
use Rattle.cdcl_worker.proofs.deciding.OrderChoice.new.Goals as goal

pub loop-one-preserved : goal.loop-one-preserved
loop-one-preserved c =
    let P : Ranked → Type 0 = λ r. IsOver c.args.problem.now.vars r.lit in
    let sorted = All-permutation P c.loop-atom.ranked.items c.sort_unstable_by_key.new.self.items c.sort_unstable_by_key.ensures.permutation c.loop-atom.invariant in
    let each : All P c.deref-one-items.result.now = subst (λ xs. All P xs) (sym c.deref-one-items.ensures.value) sorted in
    let lt : c.loop-one.one-index < length c.deref-one-items.result.now = omega arith in
    rw c.in_ok-push-2.ensures.items (All-push (IsOver c.args.problem.now.vars) c.loop-one.lits.items _ c.loop-one.invariant (each c.loop-one.one-index _ lt))
