use Rattle.std.proofs.Common.{rules, List, refl, subst, sym}
use Rattle.std.specs.List.Sorted.{IsNonDecreasingBy, IsPermutation}
use Rattle.std.proofs.lemmas.List.Sorted.{IsNonDecreasingBy-from_sort_by_key}
use Rattle.axiom_model.specs.declared.RfPair.{RfPair}
use Rattle.dg_top.specs.Pairs.{reader_key}
use Rattle.dg_top.proofs.pairs.in_reader_order.Goals as goal

pub returns-clause-reordered : goal.returns-clause-reordered
returns-clause-reordered c =
    let sorted = c.sort_unstable_by_key.new.self.items in
    let copied = subst (λ (l : List RfPair). IsPermutation l sorted) c.in_ok-sorted.ensures.items c.sort_unstable_by_key.ensures.permutation in
    let given = subst (λ (l : List RfPair). IsPermutation l sorted) c.as_slice.ensures copied in
    record { threads = refl; pairs = subst (λ (l : List RfPair). IsPermutation c.args.candidate.rf l) (sym c.from_vec.ensures) given; orders = refl }

pub returns-clause-sorted : goal.returns-clause-sorted
returns-clause-sorted c =
    subst (λ (l : List RfPair). IsNonDecreasingBy reader_key l) (sym c.from_vec.ensures)
    (IsNonDecreasingBy-from_sort_by_key reader_key c.sort_unstable_by_key.new.self.items c.sort_unstable_by_key.ensures.sorted (λ a r f q. search rules))
