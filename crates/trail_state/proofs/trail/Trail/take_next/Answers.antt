use Rattle.std.proofs.Common.{length, ap, sym, arith}
use Rattle.trail_state.specs.Trails.{TrailView}
use Rattle.trail_state.proofs.Values.{lit_read, entries_long}
use Rattle.trail_state.proofs.trail.Trail.take_next.Goals as goal

pub returns-clause-next : goal.returns-clause-next
returns-clause-next c =
    let t = c.self.inside in
    let long = ap (λ (z : TrailView). length z.entries) c.self.view_is in
    rw (c.lit-lit.ensures, ← c.self.view_is) (sym (lit_read t.entries.items t.taken c.index.result.now (omega (arith, long, entries_long t.entries.items, c.len.ensures.count)) c.index.ensures))
