use Rattle.from_read.proofs.Deriving.{at_kind}
use Rattle.from_read.proofs.pairs.put_all.Goals as goal

pub returns-in-ReadFrom : goal.returns-in-ReadFrom
returns-in-ReadFrom c =
    let k = at_kind c.args.kinds.now c.args.atom _ _ c.requires.atom c.in-ReadFrom.is in
    record {
      read = λ w r e. c.put_read.ensures.put;
      order = λ u v e. (let never : ⊥ = cc in absurd never);
      plain = λ e. (let never : ⊥ = cc in absurd never);
      fine = c.put_read.ensures.fine;
    }

pub returns-in-WriteOrder : goal.returns-in-WriteOrder
returns-in-WriteOrder c =
    let k = at_kind c.args.kinds.now c.args.atom _ _ c.requires.atom c.in-WriteOrder.is in
    record {
      read = λ w r e. (let never : ⊥ = cc in absurd never);
      order = λ u v e. c.put_order.ensures.put;
      plain = λ e. (let never : ⊥ = cc in absurd never);
      fine = c.put_order.ensures.fine;
    }
