use Rattle.std.proofs.Common.{◌∙◌, ℕ, ◌<◌, List, length, get_or, ap, arith}
use Rattle.decode.proofs.Reading.{ranks_more, length_ranks, ranks_made}
use Rattle.decode.proofs.tables.ranks.Goals as goal

pub loop-atom-preserved : goal.loop-atom-preserved
loop-atom-preserved c =
    let s = c.args.truths.now in
    let a = c.atom-item.result in
    record {
      counted = ap (λ (l : List ℕ). length l) c.count_write.ensures ∙ (length_ranks s a.lit c.loop-atom.ranks a.kind ∙ c.loop-atom.invariant.counted);
      each = λ v h.
          let there : v < length c.loop-atom.ranks = omega (arith, h, c.loop-atom.invariant.counted) in
          ap (λ (l : List ℕ). get_or l v 0) c.count_write.ensures
          ∙ ranks_more s c.args.atoms.now c.loop-atom.atom-index a c.loop-atom.ranks v c.loop-atom-test.true c.atom-item.is there (c.loop-atom.invariant.each v h);
    }

pub returns : goal.returns
returns c = record {
  counted = c.loop-atom.invariant.counted;
  each = λ v h. ranks_made c.args.truths.now c.args.atoms.now c.loop-atom.atom-index c.loop-atom.ranks v (omega (arith, c.loop-atom-test.false)) (omega (arith, h, c.loop-atom.invariant.counted)) (c.loop-atom.invariant.each v h);
}
