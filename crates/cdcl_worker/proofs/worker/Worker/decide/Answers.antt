use Rattle.std.proofs.Common.{◌∷◌, ◌++◌, [], ap, ◌∙◌}
use Rattle.trail_state.specs.Trails.{Decided, TrailView}
use Rattle.cdcl_worker.specs.Outcomes.{WorkerView}
use Rattle.cdcl_worker.proofs.Come.{come_decided}
use Rattle.cdcl_worker.proofs.worker.Worker.decide.Goals as goal

pub returns-clause-come : goal.returns-clause-come
returns-clause-come c =
    let was = c.self.view_is in
    let decided : WorkerView → TrailView = λ w. record w.trail { entries = w.trail.entries ++ Decided c.args.lit ∷ [] } in
    come_decided c.args.problem.now c.args.self.now _ c.args.lit
    (ap (λ (w : WorkerView). w.log) was) (ap (λ (w : WorkerView). w.since) was) (c.decide.ensures ∙ ap decided was)
    (ap (λ (w : WorkerView). w.store) was) (ap (λ (w : WorkerView). w.order) was) (ap (λ (w : WorkerView). w.choice) was)
    c.requires.watching c.requires.settled
