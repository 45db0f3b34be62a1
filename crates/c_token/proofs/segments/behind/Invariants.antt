use Rattle.std.proofs.Common.{◌≡◌, ◌+◌, ◌≤◌, drop}
use Rattle.c_token.specs.Pieces.{behind}
use Rattle.c_token.proofs.segments.behind.Given as goal

abbrev pub invariant-loop-b : goal.invariant-loop-b
invariant-loop-b l = record {
  line : l.here.line ≤ l.fn.place.line + l.b-index;
  col : l.here.col ≤ l.fn.place.col + l.b-index;
  place : behind l.here (drop l.b-index l.text) ≡ behind l.fn.place l.text;
}
