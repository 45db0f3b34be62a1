use Rattle.std.proofs.Common.{arith}
use Rattle.trail_state.proofs.Values.{lit_read, entries_long}
use Rattle.trail_state.proofs.trail.Trail.lit_at.Goals as goal

pub returns : goal.returns
returns c =
    let t = c.self.inside in
    let h = rw (← c.self.view_is) at c.requires in
    rw (c.lit.ensures, ← c.self.view_is) (lit_read t.entries.items c.args.i c.index.result.now (omega (arith, h, entries_long t.entries.items)) c.index.ensures)
