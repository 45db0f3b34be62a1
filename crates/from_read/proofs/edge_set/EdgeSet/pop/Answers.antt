use Rattle.std.proofs.Common.{◌≡◌, ◌-◌, ℕ, length, take, ap, ◌∙◌, arith}
use Rattle.from_read.proofs.Ends.{ends_long, ends_pop}
use Rattle.from_read.proofs.edge_set.EdgeSet.pop.Goals as goal

pub invariant_of-self : goal.invariant_of-self
invariant_of-self c =
    let i = c.self.inside in
    let at = i.list.ok.0 in
    let long = ends_long i.list.items i.ends.list c.self.invariant.0 in
    let count : length i.ends.list - 1 ≡ c.len.result - 1 = omega (arith, c.len.ensures, at, long) in
    rw (c.pop.ensures, c.truncate.ensures.items) (
      ap (λ (k : ℕ). take k i.ends.list) count ∙ ends_pop i.list.items i.ends.list (c.len.result - 1) c.self.invariant.0,
      omega (arith, c.self.invariant.1, c.truncate.ensures.capacity),
      c.self.invariant.2,
    )
