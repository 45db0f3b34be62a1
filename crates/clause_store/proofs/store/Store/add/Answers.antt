use Rattle.std.proofs.Common.{◌++◌, ◌<◌, append_assoc, arith, length}
use Rattle.clause_store.proofs.Adding.{added, chosen_within}
use Rattle.clause_store.proofs.store.Store.add.Goals.{After-choose}
use Rattle.clause_store.proofs.store.Store.add.Goals as goal

-- the chosen literals have heads
heads_within : (c : After-choose) → (c.choose.result.0.0 < length c.self.inside.links.heads) × (c.choose.result.1.0 < length c.self.inside.links.heads)
heads_within c =
    let v = rw (← c.self.view_is) at c.requires.watching.1 in
    let k = chosen_within c.args.trail.now.vars c.args.lits.now c.args.trail.now.entries c.choose.result.0 c.choose.result.1 c.requires.over c.choose.ensures in
    let codes = v.room.codes in
    let vars = v.same_vars in
    (omega (arith, k.0), omega (arith, k.1))

pub lay-requires-clause-a_within : goal.lay-requires-clause-a_within
lay-requires-clause-a_within c = (heads_within (goal.at.lay-requires-clause-a_within c).After-choose).0

pub lay-requires-clause-b_within : goal.lay-requires-clause-b_within
lay-requires-clause-b_within c = (heads_within (goal.at.lay-requires-clause-b_within c).After-choose).1

pub returns-clause-watching : goal.returns-clause-watching
returns-clause-watching c p w =
    let v = rw (← c.self.view_is) at w in
    let more = added (p.clauses ++ c.self.inside.added) p.vars c.self.inside.links c.lay.new.self c.self.inside.examined c.args.trail.now c.args.lits.now c.choose.result.0 c.choose.result.1 v c.in_default.ensures.laid (rw v.same_vars at c.requires.over) c.choose.ensures in
    rw c.in_ok-push.ensures.ok (rw append_assoc at more)
