use Rattle.std.proofs.Common.{◌-◌, length, sym, ap, ◌∙◌, arith}
use Rattle.std.proofs.lemmas.List.{length-take}
use Rattle.trail_state.specs.Trails.{TrailView, level}
use Rattle.trail_state.proofs.Cuts.{up_to_all, up_to_short, level-le-length}
use Rattle.trail_state.proofs.trail.Trail.undo_to.Goals as goal

pub returns-then-self-level-clause-entries : goal.returns-then-self-level-clause-entries
returns-then-self-level-clause-entries c =
    let here = ap (λ (z : TrailView). level z.entries) c.self.view_is in
    sym (up_to_all c.args.level c.args.self.now.entries (omega (arith, here, c.self.invariant.at_level)))

pub loop-self-preserved : goal.loop-self-preserved
loop-self-preserved c =
    let es = c.loop-self.self.entries in
    let some = level-le-length es in
    let after = ap (λ (z : TrailView). z.entries) c.undo_last.ensures in
    let long = ap (λ (z : TrailView). length z.entries) c.undo_last.ensures in
    record {
      entries_stay = rw after (up_to_short c.args.level es (omega (arith, c.level.ensures)) ∙ c.loop-self.invariant.entries_stay);
      taken_stay = omega (arith, ap (λ (z : TrailView). z.taken) c.undo_last.ensures, long, length-take (length es - 1) es, c.loop-self.invariant.taken_stay);
      vars_stay = ap (λ (z : TrailView). z.vars) c.undo_last.ensures ∙ c.loop-self.invariant.vars_stay;
    }

pub returns-clause-entries : goal.returns-clause-entries
returns-clause-entries c =
    sym (up_to_all c.args.level c.loop-self.self.entries (omega (arith, c.level.ensures))) ∙ c.loop-self.invariant.entries_stay
