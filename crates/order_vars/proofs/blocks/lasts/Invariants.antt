use Rattle.std.proofs.Common.{◌≡◌, length}
use Rattle.order_vars.proofs.Lasting.{AreLasts}
use Rattle.order_vars.proofs.blocks.lasts.Given as goal

abbrev pub invariant-loop-place : goal.invariant-loop-place
invariant-loop-place l = record {
  counted : l.count ≡ length l.events;
  far : AreLasts l.events l.lasts l.place;
}
