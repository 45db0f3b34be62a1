-- One more cell, one more turn.
use Rattle.std.proofs.Common.{◌≡◌, ℕ, suc, ◌+◌, ◌-◌, ◌<◌, ap, arith}
use Rattle.dg_base.specs.declared.Place.{Place}
use Rattle.run_model.specs.Calls.{Setting}
use Rattle.emit_steps.specs.Emitting.{Emitted, Emit}
use Rattle.loop_unroll.specs.Stating.{Body, turns, do_turns, take_cells}

pub one_more : (n i g l : ℕ) (e : Emitted) → i < n → take_cells g l (n - i) e ≡ take_cells g l (suc (n - (i + 1))) e
one_more n i g l e h = let same : n - i ≡ suc (n - (i + 1)) = omega arith in ap (λ k. take_cells g l k e) same

pub turn_left : (s : Setting) (p : Place) (n i : ℕ) (t : ℕ → Emit ℕ) (b : Body) (u : ℕ → Emit ℕ) (d r g : ℕ) (e : Emitted) → i < n → turns s p (n - i) t b u d r g e ≡ turns s p (suc (n - (i + 1))) t b u d r g e
turn_left s p n i t b u d r g e h = let same : n - i ≡ suc (n - (i + 1)) = omega arith in ap (λ k. turns s p k t b u d r g e) same

pub do_turn_left : (s : Setting) (p : Place) (n i : ℕ) (t : ℕ → Emit ℕ) (b : Body) (d r g : ℕ) (e : Emitted) → i < n → do_turns s p (n - i) t b d r g e ≡ do_turns s p (suc (n - (i + 1))) t b d r g e
do_turn_left s p n i t b d r g e h = let same : n - i ≡ suc (n - (i + 1)) = omega arith in ap (λ k. do_turns s p k t b d r g e) same
