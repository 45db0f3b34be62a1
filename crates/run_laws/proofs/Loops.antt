-- Loops make at most what their parts make in all turns.
use Rattle.std.proofs.Common.{ℕ, zero, suc, ◌+◌, ◌*◌, ◌≤◌, List, Option, Some, None, arith}
use Rattle.dg_base.specs.Values.{is_true}
use Rattle.c_rules.specs.Names.{Name}
use Rattle.run_model.specs.declared.state.Flow.{Flow}
use Rattle.run_model.specs.declared.state.Flow.TheVariants.{Next}
use Rattle.run_model.specs.Steps.{Step, ◌>>◌, pure}
use Rattle.run_model.specs.Statements.{leaves, unless_left, loop, do_loop}
use Rattle.run_laws.proofs.Growing.{Size, none, plus, anything, calm_then, within_cond, calm_pure}
use Rattle.run_laws.proofs.Meanings.{still, Makes, makes_more}

no_turn : (t s b : ℕ) → t + 0 ≤ (0 + 1) * t + (0 * s + 0 * b)
no_turn t s b = grind arith

one_turn : (n t s b : ℕ) → t + (b + (s + ((n + 1) * t + (n * s + n * b)))) ≤ (suc n + 1) * t + (suc n * s + suc n * b)
one_turn n t s b = grind arith

one_do_turn : (n t b : ℕ) → b + (t + n * (b + t)) ≤ suc n * (b + t)
one_do_turn n t b = grind arith

-- so many times
abbrev pub times : ℕ → Size → Size
times n a = record { creates = n * a.creates; actions = n * a.actions }

module _ (q : ℕ → Type 0) (ns : List Name) where
  unless_makes : (n : Size) (o : Option Flow) (m : Step Flow) → Makes q ns n Flow m → Makes q ns n Flow (unless_left o m)
  unless_makes n None m h = h
  unless_makes n (Some f) m h = calm_pure q n ns Flow anything f tt

  -- a loop, by what its test, body and step make
  pub loop_makes : (z : Step Flow) → Makes q ns none Flow z → (t b s : Size) (n : ℕ) (test : Step ℕ) (body : Step Flow) (step : Step (Unit {0})) → Makes q ns t ℕ test → Makes q ns b Flow body → Makes q ns s (Unit {0}) step
      → Makes q ns (plus (times (n + 1) t) (plus (times n s) (times n b))) Flow (loop z n test body step)
  loop_makes z o t b s zero test body step g h k =
      calm_then q t none (plus (times (0 + 1) t) (plus (times 0 s) (times 0 b))) ns ℕ Flow anything (still q ns) test _ (no_turn t.creates s.creates b.creates, no_turn t.actions s.actions b.actions) g (λ v _.
      within_cond q none ns Flow (still q ns) (is_true v) z (pure Next) o (calm_pure q none ns Flow anything Next tt))
  loop_makes z o t b s (suc n) test body step g h k =
      let rest : Size = plus (times (n + 1) t) (plus (times n s) (times n b)) in
      calm_then q t (plus b (plus s rest)) (plus (times (suc n + 1) t) (plus (times (suc n) s) (times (suc n) b))) ns ℕ Flow anything (still q ns) test _
      (one_turn n t.creates s.creates b.creates, one_turn n t.actions s.actions b.actions) g (λ v _.
      within_cond q (plus b (plus s rest)) ns Flow (still q ns) (is_true v) _ (pure Next)
      (calm_then q b (plus s rest) (plus b (plus s rest)) ns Flow Flow anything (still q ns) body _ (omega arith, omega arith) h (λ f _.
      unless_makes (plus s rest) (leaves f) (step >> loop z n test body step)
      (calm_then q s rest (plus s rest) ns (Unit {0}) Flow anything (still q ns) step (λ _. loop z n test body step) (omega arith, omega arith) k (λ _ _. loop_makes z o t b s n test body step g h k))))
      (calm_pure q (plus b (plus s rest)) ns Flow anything Next tt))

  pub do_loop_makes : (z : Step Flow) → Makes q ns none Flow z → (t b : Size) (n : ℕ) (test : Step ℕ) (body : Step Flow) → Makes q ns t ℕ test → Makes q ns b Flow body → Makes q ns (times n (plus b t)) Flow (do_loop z n test body)
  do_loop_makes z o t b zero test body g h = makes_more q ns none (times 0 (plus b t)) Flow z (omega arith, omega arith) o
  do_loop_makes z o t b (suc n) test body g h =
      let rest : Size = times n (plus b t) in
      calm_then q b (plus t rest) (times (suc n) (plus b t)) ns Flow Flow anything (still q ns) body _ (one_do_turn n t.creates b.creates, one_do_turn n t.actions b.actions) h (λ f _.
      unless_makes (plus t rest) (leaves f) _
      (calm_then q t rest (plus t rest) ns ℕ Flow anything (still q ns) test _ (omega arith, omega arith) g (λ v _.
      within_cond q rest ns Flow (still q ns) (is_true v) (do_loop z n test body) (pure Next) (do_loop_makes z o t b n test body g h) (calm_pure q rest ns Flow anything Next tt))))
