-- A list has one longest run, so that a text which is parsed has one tree and one rest.
use Rattle.std.proofs.Common.{◌≡◌, ◌⊎◌, inl, inr, List, [], ◌∷◌, ◌++◌, refl, sym, ◌∙◌, append_assoc}
use Rattle.token_list.specs.declared.Token.{Token}
use Rattle.c_expr.specs.Expressions.{IsLongestRun}
use Rattle.c_expr.proofs.Holding.{shorter}

-- the first list is a proper front of the second, where rest is what follows it
pub record IsFront (a b rest : List Token) : Type 0 where
  pub token : Token
  pub more : List Token
  pub after : List Token
  pub longer : a ++ token ∷ more ≡ b
  pub follows : rest ≡ token ∷ after

-- two fronts of one list are the same, or one is a front of the other
pub fronts : (a b s t : List Token) → a ++ s ≡ b ++ t → ((a ≡ b) × (s ≡ t)) ⊎ (IsFront a b s ⊎ IsFront b a t)
fronts [] [] s t is = inl (refl, is)
fronts [] (u ∷ b) s t is = inr (inl (record { token = u; more = b; after = b ++ t; longer = refl; follows = is }))
fronts (u ∷ a) [] s t is = inr (inr (record { token = u; more = a; after = a ++ s; longer = refl; follows = sym is }))
fronts (u ∷ a) (v ∷ b) s t is =
    let head : u ≡ v = cc in let tail : a ++ s ≡ b ++ t = cc in
    further u v a b s t head (fronts a b s t tail)
  where
    further : (u v : Token) (a b s t : List Token) → u ≡ v → ((a ≡ b) × (s ≡ t)) ⊎ (IsFront a b s ⊎ IsFront b a t)
        → ((u ∷ a ≡ v ∷ b) × (s ≡ t)) ⊎ (IsFront (u ∷ a) (v ∷ b) s ⊎ IsFront (v ∷ b) (u ∷ a) t)
    further u v a b s t head (inl e) = let first = e.0 in inl (cc, e.1)
    further u v a b s t head (inr (inl h)) = let l = h.longer in inr (inl (record { token = h.token; more = h.more; after = h.after; longer = cc; follows = h.follows }))
    further u v a b s t head (inr (inr h)) = let l = h.longer in inr (inr (record { token = h.token; more = h.more; after = h.after; longer = cc; follows = h.follows }))

no_front : {f n : _} {list a b s t : List Token} → IsLongestRun f n list a s → IsLongestRun f n list b t → IsFront a b s → ⊥
no_front {f = f} {n = n} {a = a} x y h =
    x.ends h.token h.after h.follows (shorter f n (a ++ h.token ∷ []) h.more _ (append_assoc a (h.token ∷ []) h.more ∙ h.longer) y.begins)

-- a list has one longest run
pub one_run : {f n : _} {list a b s t : List Token} → IsLongestRun f n list a s → IsLongestRun f n list b t → (a ≡ b) × (s ≡ t)
one_run {a = a} {b = b} {s = s} {t = t} x y = by (fronts a b s t (x.all ∙ sym y.all))
  where
    by : ((a ≡ b) × (s ≡ t)) ⊎ (IsFront a b s ⊎ IsFront b a t) → (a ≡ b) × (s ≡ t)
    by (inl e) = e
    by (inr (inl h)) = absurd (no_front x y h)
    by (inr (inr h)) = absurd (no_front y x h)
