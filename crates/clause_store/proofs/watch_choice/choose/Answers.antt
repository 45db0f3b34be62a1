use Rattle.std.proofs.Common.{refl, arith}
use Rattle.clause_store.proofs.Ranks.{chosen, chosen_none}
use Rattle.clause_store.proofs.watch_choice.choose.Goals as goal

pub returns-then-second-eq0 : goal.returns-then-second-eq0
returns-then-second-eq0 c =
    chosen_none c.args.trail.now c.args.clause.now c.best_watch.result.0 c.best_watch-2.result.0 (record { 0 = 0 }) c.best_watch-2.result.1 refl c.requires.watchable c.best_watch-2.ensures c.if-second-eq0.true

pub returns-else-second-eq0 : goal.returns-else-second-eq0
returns-else-second-eq0 c =
    chosen c.args.trail.now c.args.clause.now c.best_watch.result.0 c.best_watch-2.result.0 (record { 0 = 0 }) c.best_watch.result.1 c.best_watch-2.result.1 refl
    (λ m h z. (let o = (c.requires.over m h).0 in omega arith)) c.requires.watchable c.best_watch.ensures c.best_watch-2.ensures c.if-second-eq0.false
