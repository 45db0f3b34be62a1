-- New variables, one behind another.
use Rattle.std.proofs.Common.{◌≡◌, ◌≢◌, ℕ, zero, suc, ◌+◌, ◌*◌, ◌/◌, ◌%◌, ◌^◌, ◌<◌, inl, inr, Bool, false, List, [], ◌∷◌, ◌++◌, length, take, set, get_or, refl, ap, sym, ◌∙◌, subst, arith, get_or-set_other, get_or-set_same}
use Rattle.std.specs.Prelude.{All, Contains, replicate, nat_eq}
use Rattle.std.proofs.lemmas.Bool.{cases_lt}
use Rattle.std.proofs.lemmas.List.{append-nil, append_assoc, length-set, length-replicate, length-take-le, take_more, take_all, get_or-append-add}
use Rattle.std.proofs.lemmas.List.Elements.{All-set, All-replicate}
use Rattle.dg_base.specs.declared.Lit.{Lit}
use Rattle.dg_base.specs.Values.{truth_of}
use Rattle.cnf_problem.specs.Literals.{value, positive, IsOver, IsSatisfied}
use Rattle.cnf_problem.specs.Formulas.{Formula, Extension, AddsFree}
use Rattle.cnf_problem.proofs.Assignments.{value-positive, each_satisfied, over_next}
use Rattle.cnf_problem.proofs.GateLaws.{extends_free}
use Rattle.bit_gates.specs.Words.{number, AddsWord}
use Rattle.bit_gates.proofs.Steps.{all_more}

-- the first so many literals of a word are new variables
pub record NewSoFar (f g : Formula) (w : List Lit) (i : ℕ) : Type 0 where
  pub vars : g.vars ≡ f.vars + i
  pub clauses : g.clauses ≡ f.clauses
  pub long : length w ≡ 32
  pub over : All (IsOver g.vars) w
  pub lits : (k : ℕ) (d : Lit) → k < i → get_or w k d ≡ positive (f.vars + k + 1)
  pub choice : (s bits : List Bool) → length s ≡ f.vars → length bits ≡ i → Extension f g [] s bits

-- an assignment as it is
extends_by_none : (f : Formula) (s bits : List Bool) → length s ≡ f.vars → length bits ≡ 0 → Extension f f [] s bits
extends_by_none f s [] e none = record {
  values = ap length (append-nil s) ∙ e;
  satisfied = each_satisfied (s ++ []) [] tt;
  kept = λ clause listed h. subst (λ z. IsSatisfied z clause) (sym (append-nil s)) h;
}
extends_by_none f s (b ∷ bits) e none = absurd (omega arith)

pub none_new : (f : Formula) (always : Lit) → IsOver f.vars always → NewSoFar f f (replicate 32 always) 0
none_new f always over = record {
  vars = omega arith;
  clauses = refl;
  long = length-replicate 32 always;
  over = All-replicate (IsOver f.vars) 32 always over;
  lits = λ k d h. absurd (omega arith);
  choice = extends_by_none f;
}

-- one more truth value behind an extension
extends_by_one : (f g h : Formula) (s bits : List Bool) (b : Bool) → g.clauses ≡ f.clauses → Extension f g [] s bits → Extension g h [] (s ++ bits) (b ∷ []) → Extension f h [] s (bits ++ b ∷ [])
extends_by_one f g h s bits b same one two =
    let turned : (s ++ bits) ++ b ∷ [] ≡ s ++ (bits ++ b ∷ []) = append_assoc s bits (b ∷ []) in
    record {
      values = subst (λ z. length z ≡ h.vars) turned two.values;
      satisfied = each_satisfied (s ++ (bits ++ b ∷ [])) [] tt;
      kept = λ clause listed sat. subst (λ z. IsSatisfied z clause) turned
          (two.kept clause (subst (λ cs. Contains cs clause) (sym same) listed) (one.kept clause listed sat));
    }

pub new_more : (f g h : Formula) (w : List Lit) (i : ℕ) (l : Lit) → i < 32 → NewSoFar f g w i → l ≡ positive (g.vars + 1) → AddsFree g h → NewSoFar f h (set w i l) (i + 1)
new_more f g h w i l within far e free = record {
  vars = let a = far.vars in let b = free.vars in omega arith;
  clauses = free.clauses ∙ far.clauses;
  long = length-set w i l ∙ far.long;
  over = All-set (IsOver h.vars) w i l (subst (λ z. IsOver h.vars z) (sym e) (subst (λ n. IsOver n (positive (g.vars + 1))) (sym free.vars) (over_next g.vars))) (all_more g h w (extends_free g h free) far.over);
  lits = λ k d below. elim (cases_lt k i) [
    | inl lower ↦ let apart : k ≢ i = omega arith in get_or-set_other w i k l d apart ∙ far.lits k d lower
    | inr upper ↦
        let same : k ≡ i = omega arith in
        let long = far.long in
        let vars = far.vars in
        ap (λ n. get_or (set w i l) n d) same ∙ get_or-set_same w i l d (omega arith) ∙ e ∙ ap (λ n. positive n) (omega arith)
  ];
  choice = λ s bits long some.
      let short : length (take i bits) ≡ i = length-take-le i bits (omega arith) in
      let split : bits ≡ take i bits ++ get_or bits i false ∷ [] = sym (take_all (i + 1) bits (omega arith)) ∙ take_more bits i false (omega arith) in
      let one = far.choice s (take i bits) long short in
      subst (λ z. Extension f h [] s z) (sym split)
      (extends_by_one f g h s (take i bits) (get_or bits i false) far.clauses one (free.extension (s ++ take i bits) (get_or bits i false) one.values));
}

-- the bits of a number, the least first
bits_of : ℕ → ℕ → List Bool
bits_of zero n = []
bits_of (suc k) n = nat_eq (n % 2) 1 ∷ bits_of k (n / 2)

length-bits_of : (k n : ℕ) → length (bits_of k n) ≡ k
unfolding bits_of
length-bits_of zero n = refl
length-bits_of (suc k) n = ap suc (length-bits_of k (n / 2))

-- the variables from one on spell the truth values that stand there
spelled : (t : List Bool) (k base n : ℕ) (w : List Lit) → length w ≡ k → n < 2 ^ k
    → ((i : ℕ) (d : Lit) → i < k → get_or w i d ≡ positive (base + i + 1)) → ((i : ℕ) → i < k → get_or t (base + i) false ≡ get_or (bits_of k n) i false)
    → number t w ≡ n
unfolding bits_of
spelled t zero base n [] e h lits values = omega arith
spelled t zero base n (l ∷ ls) e h lits values = absurd (omega arith)
spelled t (suc k) base n [] e h lits values = absurd (omega arith)
spelled t (suc k) base n (l ∷ ls) e h lits values =
    let double : 2 ^ suc k ≡ 2 * 2 ^ k = omega arith in
    let below : n < 2 * 2 ^ k = rw (← double) h in
    let rest = spelled t k (base + 1) (n / 2) ls (omega arith) (omega arith)
    (λ i d within. lits (suc i) d (omega arith) ∙ ap (λ m. positive m) (omega arith))
    (λ i within. ap (λ m. get_or t m false) (omega arith) ∙ values (suc i) (omega arith)) in
    let lit : l ≡ positive (base + 0 + 1) = lits 0 l (omega arith) in
    let bit : value t l ≡ nat_eq (n % 2) 1 =
    ap (value t) lit ∙ value-positive t (base + 0 + 1) ∙ ap (λ m. get_or t m false) (omega arith) ∙ values 0 (omega arith) in
    rw (bit, rest) (parts (n % 2) (omega arith) (omega arith))
  where
    parts : (r : ℕ) → r < 2 → r + 2 * (n / 2) ≡ n → truth_of (nat_eq r 1) + 2 * (n / 2) ≡ n
    parts zero h e = e
    parts (suc zero) h e = e
    parts (suc (suc r)) h e = absurd (omega arith)

-- the whole word
pub word_added : (f g : Formula) (w : List Lit) (i : ℕ) → i ≡ 32 → NewSoFar f g w i → AddsWord f g w
word_added f g w i e far = record {
  over = (far.long, far.over);
  grows = let a = far.vars in omega arith;
  clauses = far.clauses;
  choice = λ s n long below.
      let bits = bits_of 32 n in
      let size : length (bits_of 32 n) ≡ i = length-bits_of 32 n ∙ sym e in (
        bits_of 32 n,
        far.choice s (bits_of 32 n) long size,
        spelled (s ++ bits_of 32 n) 32 f.vars n w far.long below
            (λ k d within. far.lits k d (omega arith))
            (λ k within. ap (λ m. get_or (s ++ bits_of 32 n) (m + k) false) (sym long) ∙ get_or-append-add s (bits_of 32 n) k false),
      );
}
