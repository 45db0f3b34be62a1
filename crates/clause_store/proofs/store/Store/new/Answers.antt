use Rattle.std.proofs.Common.{[], take, ap, arith}
use Rattle.trail_state.specs.Trails.{TrailView}
use Rattle.clause_store.specs.Choosing.{IsChosen}
use Rattle.clause_store.specs.NewWatch.{AreOver}
use Rattle.clause_store.proofs.Adding.{added, chosen_within, clause_over, nothing_added, one_more}
use Rattle.clause_store.proofs.store.Store.new.Goals.{After-get, After-choose}
use Rattle.clause_store.proofs.store.Store.new.Goals as goal

-- the clause is over the problem's variables
over : (c : After-get) → AreOver c.args.problem.now.vars c.get.result.now
over c = clause_over c.args.problem.now.vars c.args.problem.now.clauses c.loop-id.id c.get.result.now c.args.problem.now.over.each_literal c.get.ensures

-- its watches were chosen under the empty trail
chosen : (c : After-choose) → IsChosen [] c.get.result.now c.choose.result.0 c.choose.result.1
chosen c = rw (ap (λ (t : TrailView). t.entries) c.in_ok-trail.ensures) at c.choose.ensures

pub loop-id-init : goal.loop-id-init
loop-id-init c = nothing_added c.args.problem.now.vars c.in_ok-links.links c.in_ok-links.ensures.next c.in_ok-links.ensures.heads c.in_ok-links.ensures.owners

pub choose-requires-clause-over : goal.choose-requires-clause-over
choose-requires-clause-over c l m =
    rw (ap (λ (t : TrailView). t.vars) c.in_ok-trail.ensures) (over (goal.at.choose-requires-clause-over c).After-get l m)

pub lay-requires-clause-a_within : goal.lay-requires-clause-a_within
lay-requires-clause-a_within c =
    let k = chosen_within c.args.problem.now.vars c.get.result.now [] c.choose.result.0 c.choose.result.1 (over (goal.at.lay-requires-clause-a_within c).After-get) (chosen (goal.at.lay-requires-clause-a_within c).After-choose) in
    omega (arith, k.0, c.loop-id.invariant.room.codes)

pub lay-requires-clause-b_within : goal.lay-requires-clause-b_within
lay-requires-clause-b_within c =
    let k = chosen_within c.args.problem.now.vars c.get.result.now [] c.choose.result.0 c.choose.result.1 (over (goal.at.lay-requires-clause-b_within c).After-get) (chosen (goal.at.lay-requires-clause-b_within c).After-choose) in
    omega (arith, k.1, c.loop-id.invariant.room.codes)

pub loop-id-preserved : goal.loop-id-preserved
loop-id-preserved c =
    let vars = c.args.problem.now.vars in
    let start : TrailView = record { vars = c.args.problem.now.vars; entries = []; taken = 0 } in
    let more = added (take c.loop-id.id c.args.problem.now.clauses) c.args.problem.now.vars c.loop-id.links c.lay.new.self 0 start c.get.result.now c.choose.result.0 c.choose.result.1 c.loop-id.invariant c.in_ok-lay.ensures.laid (over (goal.at.loop-id-preserved c).After-get) (chosen (goal.at.loop-id-preserved c).After-choose) in
    rw (one_more c.args.problem.now.clauses c.loop-id.id c.get.result.now c.get.ensures) more
