use Rattle.std.proofs.Common.{rules, List, subst}
use Rattle.std.specs.List.Sorted.{IsPermutation}
use Rattle.std.proofs.lemmas.List.Sorted.{IsNonDecreasingBy-from_sort_by_key}
use Rattle.dg_base.specs.declared.Lit.{Lit}
use Rattle.worker_log.proofs.Sorting.{variables_rise, same_members}
use Rattle.worker_log.proofs.lemmas.sorted.Goals as goal

pub returns-clause-rising : goal.returns-clause-rising
returns-clause-rising c =
    let order = subst (λ (l : List Lit). IsPermutation l c.sort_unstable_by_key.new.self.items) c.in_ok-sorted.ensures.items c.sort_unstable_by_key.ensures.permutation in
    variables_rise c.args.lits.now c.sort_unstable_by_key.new.self.items c.requires order
    (IsNonDecreasingBy-from_sort_by_key (λ (l : Lit). l.0) c.sort_unstable_by_key.new.self.items c.sort_unstable_by_key.ensures.sorted (λ a r f q. search rules))

pub returns-clause-same : goal.returns-clause-same
returns-clause-same c =
    same_members c.args.lits.now c.sort_unstable_by_key.new.self.items (subst (λ (l : List Lit). IsPermutation l c.sort_unstable_by_key.new.self.items) c.in_ok-sorted.ensures.items c.sort_unstable_by_key.ensures.permutation)
