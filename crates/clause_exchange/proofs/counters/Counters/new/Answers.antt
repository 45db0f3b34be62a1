use Rattle.std.proofs.Common.{◌≡◌, ℕ, zero, suc, ◌<◌, ◌≤◌, inl, inr, true, false, replicate, get_or, refl, sym, ◌∙◌, arith}
use Rattle.std.proofs.lemmas.Bool.{cases_lt}
use Rattle.clause_exchange.proofs.Opening.{all_zero}
use Rattle.clause_exchange.proofs.counters.Counters.new.Goals as goal

all_true : (n k : ℕ) → k < n → get_or (replicate n true) k false ≡ true
all_true zero k lt = absurd (omega arith)
all_true (suc n) zero lt = refl
all_true (suc n) (suc k) lt = all_true n k (omega arith)

none_behind : (n k : ℕ) → n ≤ k → get_or (replicate n true) k false ≡ false
none_behind zero k le = refl
none_behind (suc n) zero le = absurd (omega arith)
none_behind (suc n) (suc k) le = none_behind n k (omega arith)

pub returns : goal.returns
returns c =
    let out = c.without.ensures in
    record {
      first = λ k lt. out.before k lt ∙ all_true 16 k (let few = c.requires in omega arith);
      only = λ k own. elim (cases_lt k c.args.workers) [
        | inl lt ↦ lt
        | inr ge ↦ elim (cases_lt k 16) [
          | inl few ↦ absurd (let e : false ≡ true = sym (out.inside k ge few) ∙ own in cc)
          | inr far ↦ absurd (let e : false ≡ true = sym (none_behind 16 k far) ∙ (sym (out.behind k far) ∙ own) in cc)
        ]
      ];
      written = λ k. all_zero 16 k;
      looked = λ i. all_zero 256 i;
      loaded = λ i. all_zero 256 i;
    }
