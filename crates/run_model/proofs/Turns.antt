-- One more cell, one more turn.
use Rattle.std.proofs.Common.{◌≡◌, ℕ, suc, ◌+◌, ◌-◌, ◌<◌, ap, arith}
use Rattle.std.specs.Prelude.{replicate}
use Rattle.run_model.specs.declared.state.Flow.{Flow}
use Rattle.run_model.specs.Steps.{State, Step}
use Rattle.run_model.specs.Statements.{store_from, loop, do_loop}

pub one_more : (n i l j : ℕ) (m : Step ℕ) (s : State) → i < n → store_from l j (replicate (n - i) m) s ≡ store_from l j (replicate (suc (n - (i + 1))) m) s
one_more n i l j m s h = let e : n - i ≡ suc (n - (i + 1)) = omega arith in ap (λ k. store_from l j (replicate k m) s) e

pub one_turn : (spent : Step Flow) (n i : ℕ) (t : Step ℕ) (b : Step Flow) (e : Step (Unit {0})) (s : State) → i < n → loop spent (n - i) t b e s ≡ loop spent (suc (n - (i + 1))) t b e s
one_turn spent n i t b e s h = let same : n - i ≡ suc (n - (i + 1)) = omega arith in ap (λ k. loop spent k t b e s) same

pub one_do_turn : (spent : Step Flow) (n i : ℕ) (t : Step ℕ) (b : Step Flow) (s : State) → i < n → do_loop spent (n - i) t b s ≡ do_loop spent (suc (n - (i + 1))) t b s
one_do_turn spent n i t b s h = let same : n - i ≡ suc (n - (i + 1)) = omega arith in ap (λ k. do_loop spent k t b s) same
