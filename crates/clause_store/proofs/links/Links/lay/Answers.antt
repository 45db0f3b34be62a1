use Rattle.std.proofs.Common.{◌≡◌, length, arith}
use Rattle.clause_store.proofs.Laying.{laid}
use Rattle.clause_store.proofs.links.Links.lay.Goals as goal

pub returns-clause-laid : goal.returns-clause-laid
returns-clause-laid c =
    let n : c.len-count.result ≡ length c.args.self.now.next = c.len-count.ensures in
    let test = c.if-count.false in
    let one = c.put_back.ensures in
    let two = c.put_back-2.ensures in
    laid c.args.self.now c.grow.new.self c.put_back.new.self c.put_back-2.new.self c.args.a c.args.b (omega arith) c.requires.a_within c.requires.b_within c.requires.long
    c.in_ok-grow.ensures.next c.in_ok-grow.ensures.heads c.in_ok-grow.ensures.owners
    (rw n at one.next) (rw n at one.heads) (rw n at one.owners)
    (rw n at two.next) (rw n at two.heads) (rw n at two.owners)
