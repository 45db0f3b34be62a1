use Rattle.std.proofs.Common.{◌≡◌, length, take}
use Rattle.bv_term.specs.Values.{AreConstants}
use Rattle.bv_term.proofs.terms.Terms.constants.Given as goal

abbrev pub invariant-loop-i : goal.invariant-loop-i
invariant-loop-i l = record { room : length l.values ≡ 3; so_far : AreConstants l.self (take l.i l.args) (take l.i l.values) }
