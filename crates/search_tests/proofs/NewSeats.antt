-- The numbers of seats that do nothing but being split and joined.
use Rattle.std.proofs.Common.{◌≡◌, List, ℕ, zero, suc, ◌+◌, [], ◌∷◌, ◌++◌, lit<, lit≤, sym, ◌∙◌, ap, subst, arith, refl}
use Rattle.cnf_problem.specs.declared.problem.Problem.{Problem}
use Rattle.clause_exchange.specs.declared.rule.Part.{Part}
use Rattle.clause_exchange.specs.declared.rule.View.{View}
use Rattle.clause_exchange.specs.Rule.{blank_part, new_view}
use Rattle.clause_exchange.specs.Steps.{mine}
use Rattle.clause_exchange.specs.Splits.{with_parts, below, from_on}
use Rattle.clause_exchange.specs.Calls.{HasOne, Cuts}
use Rattle.clause_exchange.specs.Closing.{HasAll}
use Rattle.clause_exchange.proofs.Seating.{blank_listed}

-- the first seat has all numbers
pub has_all_new : (p : Problem) (n share_words : ℕ) (v : View) → v ≡ new_view p n share_words → HasAll v
has_all_new p n share_words v e = subst HasAll (sym e) all
  where
    all : HasAll (new_view p n share_words)
    all k lt = (blank_part n (0 + k), blank_listed n 0 n k lt, (let e : 0 + k ≡ k = omega arith in e))

-- four numbers in two halves
lower : (p : Problem) (w : ℕ) (v l : View) → v ≡ new_view p 4 w → l ≡ with_parts v (below 2 v.parts) → l ≡ with_parts (new_view p 4 w) (blank_part 4 0 ∷ blank_part 4 1 ∷ [])
lower p w v l e is = is ∙ ap (λ (u : View). with_parts u (below 2 u.parts)) e

upper : (p : Problem) (w : ℕ) (v r : View) → v ≡ new_view p 4 w → r ≡ with_parts v (from_on 2 v.parts) → r ≡ with_parts (new_view p 4 w) (blank_part 4 2 ∷ blank_part 4 3 ∷ [])
upper p w v r e is = is ∙ ap (λ (u : View). with_parts u (from_on 2 u.parts)) e

-- and each half again
pub zeroth_seat : (p : Problem) (w : ℕ) (v l s : View) → v ≡ new_view p 4 w → l ≡ with_parts v (below 2 v.parts) → s ≡ with_parts l (below 1 l.parts) → s ≡ with_parts (new_view p 4 w) (blank_part 4 0 ∷ [])
zeroth_seat p w v l s e el is = is ∙ ap (λ (u : View). with_parts u (below 1 u.parts)) (lower p w v l e el)

pub first_seat : (p : Problem) (w : ℕ) (v l s : View) → v ≡ new_view p 4 w → l ≡ with_parts v (below 2 v.parts) → s ≡ with_parts l (from_on 1 l.parts) → s ≡ with_parts (new_view p 4 w) (blank_part 4 1 ∷ [])
first_seat p w v l s e el is = is ∙ ap (λ (u : View). with_parts u (from_on 1 u.parts)) (lower p w v l e el)

pub second_seat : (p : Problem) (w : ℕ) (v r s : View) → v ≡ new_view p 4 w → r ≡ with_parts v (from_on 2 v.parts) → s ≡ with_parts r (below 3 r.parts) → s ≡ with_parts (new_view p 4 w) (blank_part 4 2 ∷ [])
second_seat p w v r s e er is = is ∙ ap (λ (u : View). with_parts u (below 3 u.parts)) (upper p w v r e er)

pub third_seat : (p : Problem) (w : ℕ) (v r s : View) → v ≡ new_view p 4 w → r ≡ with_parts v (from_on 2 v.parts) → s ≡ with_parts r (from_on 3 r.parts) → s ≡ with_parts (new_view p 4 w) (blank_part 4 3 ∷ [])
third_seat p w v r s e er is = is ∙ ap (λ (u : View). with_parts u (from_on 3 u.parts)) (upper p w v r e er)

-- where these cuts may be made
pub cut_at_two : (p : Problem) (w : ℕ) (v : View) → v ≡ new_view p 4 w → Cuts v 2
cut_at_two p w v e = subst (λ (u : View). Cuts u 2) (sym e) ((blank_part 4 0, (0, lit< tt, refl), lit< tt), (blank_part 4 3, (3, lit< tt, refl), lit≤ tt))

pub cut_at_one : (p : Problem) (w : ℕ) (v l : View) → v ≡ new_view p 4 w → l ≡ with_parts v (below 2 v.parts) → Cuts l 1
cut_at_one p w v l e is = subst (λ (u : View). Cuts u 1) (sym (lower p w v l e is)) ((blank_part 4 0, (0, lit< tt, refl), lit< tt), (blank_part 4 1, (1, lit< tt, refl), lit≤ tt))

pub cut_at_three : (p : Problem) (w : ℕ) (v r : View) → v ≡ new_view p 4 w → r ≡ with_parts v (from_on 2 v.parts) → Cuts r 3
cut_at_three p w v r e is = subst (λ (u : View). Cuts u 3) (sym (upper p w v r e is)) ((blank_part 4 2, (0, lit< tt, refl), lit< tt), (blank_part 4 3, (1, lit< tt, refl), lit≤ tt))

-- four seats of one number each, joined in another order: number 1 did something, and the others nothing
pub all_joined : (p : Problem) (w : ℕ) (zeroth one second third a b c : View)
    → zeroth ≡ with_parts (new_view p 4 w) (blank_part 4 0 ∷ []) → HasOne one → (mine one).number ≡ 1
    → second ≡ with_parts (new_view p 4 w) (blank_part 4 2 ∷ []) → third ≡ with_parts (new_view p 4 w) (blank_part 4 3 ∷ [])
    → a ≡ with_parts third (third.parts ++ zeroth.parts) → b ≡ with_parts a (a.parts ++ second.parts) → c ≡ with_parts b (b.parts ++ one.parts) → HasAll c
all_joined p w zeroth one second third a b c w0 w1 number w2 w3 ea eb ec =
    let wa : a ≡ with_parts (new_view p 4 w) (blank_part 4 3 ∷ blank_part 4 0 ∷ []) = ea ∙ (ap (λ (u : View). with_parts u (u.parts ++ zeroth.parts)) w3 ∙ ap (λ (u : View). with_parts (new_view p 4 w) ((blank_part 4 3 ∷ []) ++ u.parts)) w0) in
    let wb : b ≡ with_parts (new_view p 4 w) (blank_part 4 3 ∷ blank_part 4 0 ∷ blank_part 4 2 ∷ []) = eb ∙ (ap (λ (u : View). with_parts u (u.parts ++ second.parts)) wa ∙ ap (λ (u : View). with_parts (new_view p 4 w) ((blank_part 4 3 ∷ blank_part 4 0 ∷ []) ++ u.parts)) w2) in
    let wc : c ≡ with_parts (new_view p 4 w) (blank_part 4 3 ∷ blank_part 4 0 ∷ blank_part 4 2 ∷ mine one ∷ []) = ec ∙ (ap (λ (u : View). with_parts u (u.parts ++ one.parts)) wb ∙ ap (λ (ps : List Part). with_parts (new_view p 4 w) ((blank_part 4 3 ∷ blank_part 4 0 ∷ blank_part 4 2 ∷ []) ++ ps)) w1) in
    subst HasAll (sym wc) by_number
  where
    by_number : HasAll (with_parts (new_view p 4 w) (blank_part 4 3 ∷ blank_part 4 0 ∷ blank_part 4 2 ∷ mine one ∷ []))
    by_number zero lt = (blank_part 4 0, (1, lit< tt, refl), refl)
    by_number (suc zero) lt = (mine one, (3, lit< tt, refl), number)
    by_number (suc (suc zero)) lt = (blank_part 4 2, (2, lit< tt, refl), refl)
    by_number (suc (suc (suc zero))) lt = (blank_part 4 3, (0, lit< tt, refl), refl)
    by_number (suc (suc (suc (suc k)))) lt = absurd (omega arith)
