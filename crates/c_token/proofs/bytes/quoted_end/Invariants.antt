use Rattle.std.proofs.Common.{◌≡◌, ◌-◌, ◌≤◌, false, drop, length}
use Rattle.c_token.specs.Bytes.{quoted_end}
use Rattle.c_token.proofs.bytes.quoted_end.Given as goal

abbrev pub invariant-loop-at : goal.invariant-loop-at
invariant-loop-at l = record {
  within : l.at ≤ length l.text;
  ends_alike : quoted_end l.escaped l.at (drop l.at l.text) ≡ quoted_end false 1 (drop 1 l.text);
}

abbrev pub decreases-loop-at : goal.decreases-loop-at
decreases-loop-at l = length l.text - l.at
