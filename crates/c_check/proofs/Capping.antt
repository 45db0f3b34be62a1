-- Capping goes through sums.
use Rattle.std.proofs.Common.{◌≡◌, ◌∙◌, ◌≤◌, ◌<◌, ◌⊎◌, inl, inr, ℕ, zero, suc, ◌+◌, ◌*◌, min, max, refl, ap, arith}
use Rattle.std.proofs.Math.Nat.{mul-le-mul_left}
use Rattle.c_tree.specs.Level.{capped}
use Rattle.c_check.specs.declared.counts.Counts.{Counts}
use Rattle.c_check.specs.Counts.{exact}
use Rattle.c_check.specs.Capped.{capped_counts, capped_sums}
use Rattle.c_check.proofs.Adding.{same_counts}

cap-add : (a b : ℕ) → capped (capped a + capped b) ≡ capped (a + b)
cap-add a b = omega arith

cap-max : (a b : ℕ) → max (capped a) (capped b) ≡ capped (max a b)
cap-max a b = omega arith

cap-next : (a : ℕ) → capped (1 + capped a) ≡ capped (1 + a)
cap-next a = omega arith

cap-small : (a m : ℕ) → a ≤ m → min a m ≡ a
cap-small a m h = omega arith

cap-large : (a b m : ℕ) → m ≤ a → m ≤ b → min a m ≡ min b m
cap-large a b m h k = omega arith

times_by : (n a m : ℕ) → (a ≤ m) ⊎ (m < a) → min (n * min a m) m ≡ min (n * a) m
times_by n a m (inl h) = ap (λ x. min (n * x) m) (cap-small a m h)
times_by zero a m (inr h) = omega arith
times_by (suc n) a m (inr h) =
    let e : min a m ≡ m = omega arith in
    let p : m ≤ suc n * m = grind arith in
    let q : suc n * m ≤ suc n * a = mul-le-mul_left (suc n) (omega arith) in
    ap (λ x. min (suc n * x) m) e ∙ cap-large (suc n * m) (suc n * a) m p (omega arith)

either : (a m : ℕ) → (a ≤ m) ⊎ (m < a)
either a m = grind arith

cap-times : (n a : ℕ) → capped (n * capped a) ≡ capped (n * a)
cap-times n a = times_by n a _ (either a _)

pub capped-together : (x y : Counts) → capped_sums.together (capped_counts x) (capped_counts y) ≡ capped_counts (exact.together x y)
unfolding capped_sums
capped-together x y =
    same_counts _ _ (cap-add x.creates y.creates) (cap-add x.threads y.threads) (cap-max x.depth y.depth) (cap-max x.most y.most)
    (cap-add x.accesses y.accesses) (cap-add x.weight y.weight)

pub capped-times : (n : ℕ) (x : Counts) → capped_sums.times n (capped_counts x) ≡ capped_counts (exact.times n x)
unfolding capped_sums
capped-times n x =
    same_counts _ _ (cap-times n x.creates) (cap-times n x.threads) refl refl (cap-times n x.accesses) (cap-times n x.weight)

pub capped-new_thread : (x : Counts) → capped_sums.new_thread (capped_counts x) ≡ capped_counts (exact.new_thread x)
unfolding capped_sums
capped-new_thread x = same_counts _ _ refl (cap-next x.threads) (cap-next x.depth) (cap-max x.creates x.most) refl refl

pub capped-accesses : (n : ℕ) → capped_sums.accesses n ≡ capped_counts (exact.accesses n)
unfolding capped_sums
capped-accesses n = refl

pub capped-weight : (n : ℕ) → capped_sums.weight n ≡ capped_counts (exact.weight n)
unfolding capped_sums
capped-weight n = refl

-- two parts that are capped come to their sum capped
pub both : (a b x y : Counts) → a ≡ capped_counts x → b ≡ capped_counts y → capped_sums.together a b ≡ capped_counts (exact.together x y)
both a b x y h k = ap (λ (z : Counts). capped_sums.together z b) h ∙ (ap (capped_sums.together (capped_counts x)) k ∙ capped-together x y)

pub more : (n : ℕ) (a x : Counts) → a ≡ capped_counts x → capped_sums.times n a ≡ capped_counts (exact.times n x)
more n a x h = ap (capped_sums.times n) h ∙ capped-times n x
