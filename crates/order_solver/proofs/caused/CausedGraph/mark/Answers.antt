use Rattle.order_solver.proofs.caused.CausedGraph.mark.Goals as goal

pub returns-clause-within : goal.returns-clause-within
returns-clause-within c = rw (← c.self.view_is) (λ x y held. c.mark.ensures.kept.within x y held)
