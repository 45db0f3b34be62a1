use Rattle.std.proofs.Common.{◌≡◌, ◌++◌, length, arith, length-append}
use Rattle.std.proofs.lemmas.List.{length_push}
use Rattle.cnf_problem.proofs.FlatLaws.{pieces_push, ends_push}
use Rattle.cnf_problem.proofs.clauses.Clauses.push.Goals as goal

behind : (c : goal.In_ok-push) → c.in_ok-end.end ≡ length (c.self.inside.lits.items ++ c.args.lits.now)
behind c =
    let long = c.self.inside.lits.ok.0 in
    omega (arith, length-append c.self.inside.lits.items c.args.lits.now, c.in_ok-end.ensures.end, c.len.ensures)

pub invariant_of-self-2 : goal.invariant_of-self-2
invariant_of-self-2 c =
    rw (c.in_ok-push.ensures.items, c.in_ok-extend_from_slice.ensures.items, c.in_ok-reserve.ensures.items, behind c)
    ((
      ends_push c.self.inside.lits.items c.args.lits.now 0 c.self.inside.ends.items c.self.invariant.0,
      let long = c.self.inside.ends.ok.0 in omega (arith, length_push c.self.inside.ends.items (length (c.self.inside.lits.items ++ c.args.lits.now)), c.in_ok-end.ensures.few, c.len-2.ensures),
    ))

pub returns-clause-ok : goal.returns-clause-ok
returns-clause-ok c =
    rw (c.in_ok-push.ensures.items, c.in_ok-extend_from_slice.ensures.items, c.in_ok-reserve.ensures.items, behind c, ← c.self.view_is)
    (pieces_push c.self.inside.lits.items c.args.lits.now 0 c.self.inside.ends.items c.self.invariant.0)
