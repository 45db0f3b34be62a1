use Rattle.std.proofs.Common.{arith}
use Rattle.std.proofs.lemmas.List.{length-take}
use Rattle.cnf_problem.proofs.FlatLaws.{pieces_take, ends_take, cut_up_to}
use Rattle.cnf_problem.proofs.clauses.Clauses.truncate.Goals as goal

pub start_of-end-requires : goal.start_of-end-requires
start_of-end-requires c = rw c.deref.ensures.value (cut_up_to c.self.inside.lits.items c.self.inside.ends.items c.args.self.now c.args.len c.self.view_is c.requires)

pub invariant_of-self : goal.invariant_of-self
invariant_of-self c =
    let le = cut_up_to c.self.inside.lits.items c.self.inside.ends.items c.args.self.now c.args.len c.self.view_is c.requires in
    rw (c.truncate.ensures.items, c.truncate-2.ensures.items, c.start_of-end.ensures, c.deref.ensures.value)
    ((
      ends_take c.self.inside.lits.items 0 c.self.inside.ends.items c.args.len c.self.invariant.0 le,
      omega (arith, length-take c.args.len c.self.inside.ends.items),
    ))

pub returns : goal.returns
returns c =
    let le = cut_up_to c.self.inside.lits.items c.self.inside.ends.items c.args.self.now c.args.len c.self.view_is c.requires in
    rw (c.truncate.ensures.items, c.truncate-2.ensures.items, c.start_of-end.ensures, c.deref.ensures.value, ← c.self.view_is)
    (pieces_take c.self.inside.lits.items 0 c.self.inside.ends.items c.args.len c.self.invariant.0 le)
