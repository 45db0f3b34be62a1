-- The two links of a clause.
use Rattle.std.proofs.Common.{◌≡◌, ◌≢◌, ℕ, ◌+◌, ◌-◌, ◌*◌, ◌/◌, ◌%◌, ◌<◌, inl, inr, arith}
use Rattle.std.proofs.lemmas.Bool.Decides.{nat_tests}
use Rattle.cnf_problem.proofs.LiteralLaws.{parity}
use Rattle.clause_store.specs.Watching.{twin}

-- behind an even link
pub twin-even : (k : ℕ) → k % 2 ≡ 0 → twin k ≡ k + 1
unfolding twin
twin-even k e = grind (arith, nat_tests)

-- before an odd link
pub twin-odd : (k : ℕ) → k % 2 ≡ 1 → twin k ≡ k - 1
unfolding twin
twin-odd k e = grind (arith, nat_tests)

-- a twin's twin is the link itself
pub twin-twin : (k : ℕ) → twin (twin k) ≡ k
twin-twin k =
    elim (parity k) [
      | inl e ↦ let n = twin-even k e in let odd : twin k % 2 ≡ 1 = rw n (omega arith) in rw (twin-odd (twin k) odd, n) (omega arith)
      | inr e ↦ let n = twin-odd k e in let even : twin k % 2 ≡ 0 = rw n (omega arith) in rw (twin-even (twin k) even, n) (omega arith)
    ]

-- both are of one clause
pub twin-half : (k : ℕ) → twin k / 2 ≡ k / 2
twin-half k =
    elim (parity k) [
      | inl e ↦ rw (twin-even k e) (omega arith)
      | inr e ↦ rw (twin-odd k e) (omega arith)
    ]

-- both are below the end
pub twin-within : (k n : ℕ) → k < 2 * n → twin k < 2 * n
twin-within k n h =
    elim (parity k) [
      | inl e ↦ rw (twin-even k e) (omega arith)
      | inr e ↦ rw (twin-odd k e) (omega arith)
    ]

-- no link is its own twin
pub twin-other : (k : ℕ) → twin k ≢ k
twin-other k e =
    elim (parity k) [
      | inl p ↦ let n = twin-even k p in omega arith
      | inr p ↦ let n = twin-odd k p in omega arith
    ]
