-- One more cell of an array.
use Rattle.std.proofs.Common.{◌≡◌, ℕ, suc, ◌+◌, ◌-◌, ◌<◌, List, Bool, ap, arith}
use Rattle.emit_steps.specs.declared.state.Cell.{Cell}
use Rattle.emit_steps.specs.Emitting.{Emitted}
use Rattle.emit_steps.specs.Pieces.{cells_where}

pub cell_left : (cs : List Cell) (own : Bool) (n j g i first : ℕ) (e : Emitted) → j < n → cells_where cs own g i first j (n - j) e ≡ cells_where cs own g i first j (suc (n - (j + 1))) e
cell_left cs own n j g i first e h = let same : n - j ≡ suc (n - (j + 1)) = omega arith in ap (λ k. cells_where cs own g i first j k e) same
