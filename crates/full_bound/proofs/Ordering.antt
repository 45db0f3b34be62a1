-- A relation without cycles on a finite list has an order in which each pair goes forward.
use Rattle.std.proofs.Common.{◌≡◌, ℕ, suc, ◌<◌, List, [], ◌∷◌, ◌++◌, Bool, true, false, cond, refl, sym, ap, ◌∙◌, subst, inl, inr, ◌⊎◌, ⊎_elim, arith}
use Rattle.std.proofs.lemmas.Bool.{false≢true, cases_Bool, cond-true, cond-false}
use Rattle.axiom_model.specs.Cycles.{Chain, NoCycle}
use Rattle.full_bound.proofs.Ascending.{In}

abbrev pub Not : Type 0 → Type 0
Not A = A → ⊥

module _ (E : Type 0) where
  -- chains in turn
  chains : (R : E → E → Type 0) (a b c : E) (xs ys : List E) → Chain R a xs b → Chain R b ys c → Chain R a (xs ++ b ∷ ys) c
  chains R a b c [] ys p q = (p, q)
  chains R a b c (x ∷ xs) ys p q = (p.0, chains R x b c xs ys p.1 q)

  -- a pair, or one by way of e
  abbrev Around : (E → E → Type 0) → E → E → E → Type 0
  Around R e a b = R a b ⊎ (R a e × R e b)

  around_chain : (R : E → E → Type 0) (e a b : E) → Around R e a b → (l : List E) × Chain R a l b
  around_chain R e a b (inl r) = ([], r)
  around_chain R e a b (inr r) = (e ∷ [], r)

  expand : (R : E → E → Type 0) (e a b : E) (l : List E) → Chain (Around R e) a l b → (k : List E) × Chain R a k b
  expand R e a b [] h = around_chain R e a b h
  expand R e a b (x ∷ l) h =
      let one = around_chain R e a x h.0 in
      let two = expand R e x b l h.1 in
      (one.0 ++ x ∷ two.0, chains R a x b one.0 two.0 one.1 two.1)

  no_cycle_around : (R : E → E → Type 0) (e : E) → NoCycle R → NoCycle (Around R e)
  no_cycle_around R e none [] h = h
  no_cycle_around R e none (x ∷ l) h = let it = expand R e x x l h in none (x ∷ it.0) it.1

  -- no element leads to itself or to one before it
  abbrev pub Forwards : (E → E → Type 0) → List E → Type 0
  Forwards R [] = Unit {0}
  Forwards R (x ∷ l) = (R x x → ⊥) × ((y : E) → In E y l → R y x → ⊥) × Forwards R l

  forwards_weaker : (R Q : E → E → Type 0) → ((a b : E) → R a b → Q a b) → (l : List E) → Forwards Q l → Forwards R l
  forwards_weaker R Q h [] f = tt
  forwards_weaker R Q h (x ∷ l) f = ((λ r. f.0 (h x x r)), (λ y i r. f.1 y i (h y x r)), forwards_weaker R Q h l f.2)

  abbrev pub Decided : (E → E → Type 0) → List E → Type 0
  Decided R l = (a : E) → In E a l → (b : E) → In E b l → R a b ⊎ Not (R a b)

  -- an order of the same elements
  pub record IsOrder (R : E → E → Type 0) (l o : List E) : Type 0 where
    pub sound : (e : E) → In E e o → In E e l
    pub complete : (e : E) → In E e l → In E e o
    pub forwards : Forwards R o

  -- e stands before the first element to which it leads
  module _ (R : E → E → Type 0) (e : E) (itself : R e e → ⊥) where
    record Put (o : List E) : Type 0 where
      pub list : List E
      pub sound : (y : E) → In E y list → (y ≡ e) ⊎ In E y o
      pub kept : (y : E) → In E y o → In E y list
      pub has : In E e list
      pub forwards : Forwards R list

    puts : (o : List E) → Forwards (Around R e) o → ((b : E) → In E b o → R e b ⊎ Not (R e b)) → Put o
    puts [] f d = record { list = e ∷ []; sound = λ y i. i; kept = λ y i. absurd i; has = inl refl; forwards = (itself, (λ y i r. i), tt) }
    puts (x ∷ o) f d =
        ⊎_elim
        (λ leads. record {
          list = e ∷ x ∷ o;
          sound = λ y i. i;
          kept = λ y i. inr i;
          has = inl refl;
          forwards = (itself, (λ y i r. ⊎_elim (λ s. f.0 (inr (subst (λ z. R z e) s r, leads))) (λ j. f.1 y j (inr (r, leads))) i), forwards_weaker R (Around R e) (λ a b r. inl r) (x ∷ o) f);
        })
        (λ not.
        let it = puts o f.2 (λ b i. d b (inr i)) in
        record {
          list = x ∷ it.list;
          sound = λ y i. ⊎_elim (λ s. inr (inl s)) (λ j. ⊎_elim inl (λ k. inr (inr k)) (it.sound y j)) i;
          kept = λ y i. ⊎_elim inl (λ j. inr (it.kept y j)) i;
          has = inr it.has;
          forwards = ((λ r. f.0 (inl r)), (λ y i r. ⊎_elim (λ s. not (subst (λ z. R z x) s r)) (λ j. f.1 y j (inl r)) (it.sound y i)), it.forwards);
        })
        (d x (inl refl))

  around_decided : (R : E → E → Type 0) (e a b : E) → R a b ⊎ Not (R a b) → R a e ⊎ Not (R a e) → R e b ⊎ Not (R e b) → Around R e a b ⊎ Not (Around R e a b)
  around_decided R e a b (inl r) y z = inl (inl r)
  around_decided R e a b (inr n) (inl r) (inl q) = inl (inr (r, q))
  around_decided R e a b (inr n) (inl r) (inr k) = inr (λ z. ⊎_elim n (λ y. k y.1) z)
  around_decided R e a b (inr n) (inr k) z = inr (λ z. ⊎_elim n (λ y. k y.0) z)

  pub order_of : (l : List E) (R : E → E → Type 0) → NoCycle R → Decided R l → (o : List E) × IsOrder R l o
  order_of [] R none d = ([], record { sound = λ e i. i; complete = λ e i. i; forwards = tt })
  order_of (e ∷ l) R none d =
      let decided : Decided (Around R e) l = λ a i b j. around_decided R e a b (d a (inr i) b (inr j)) (d a (inr i) e (inl refl)) (d e (inl refl) b (inr j)) in
      let rest = order_of l (Around R e) (no_cycle_around R e none) decided in
      let it = puts R e (λ r. none (e ∷ []) r) rest.0 rest.1.forwards (λ b i. d e (inl refl) b (inr (rest.1.sound b i))) in (
        it.list,
        record {
          sound = λ y i. ⊎_elim (λ s. inl s) (λ j. inr (rest.1.sound y j)) (it.sound y i);
          complete = λ y i. ⊎_elim (λ s. subst (λ z. In E z it.list) (sym s) it.has) (λ j. it.kept y (rest.1.complete y j)) i;
          forwards = it.forwards;
        },
      )

  -- ---- ranks

  -- the place of the first element that passes a test
  pub place : (E → Bool) → List E → ℕ
  place test [] = 0
  place test (x ∷ l) = cond (test x) 0 (suc (place test l))

  -- of the two first elements that pass two tests, the one that leads to the other stands before it
  pub place_less : (R : E → E → Type 0) (l : List E) (f g : E → Bool) → Forwards R l → ((y z : E) → In E y l → In E z l → f y ≡ true → g z ≡ true → R y z)
      → ((y : E) × In E y l × (f y ≡ true)) → ((z : E) × In E z l × (g z ≡ true)) → place f l < place g l
  unfolding place
  place_less R [] f g fw h y z = absurd y.1
  place_less R (x ∷ l) f g fw h y z =
      ⊎_elim
      (λ gx. absurd (⊎_elim (λ s. fw.0 (subst (λ q. R q x) s (h y.0 x y.1 (inl refl) y.2 gx))) (λ i. fw.1 y.0 i (h y.0 x y.1 (inl refl) y.2 gx)) y.1))
      (λ gx.
      let second = cond-false (g x) 0 (suc (place g l)) gx in
      ⊎_elim
      (λ fx. let first = cond-true (f x) 0 (suc (place f l)) fx in omega (arith, first, second))
      (λ fx.
      let first = cond-false (f x) 0 (suc (place f l)) fx in
      let less = place_less R l f g fw.2 (λ a b i j p q. h a b (inr i) (inr j) p q) (later f x l y fx) (later g x l z gx) in
      omega (arith, first, second, less))
      (cases_Bool (f x)))
      (cases_Bool (g x)) where
        later : (t : E → Bool) (x : E) (l : List E) → ((y : E) × In E y (x ∷ l) × (t y ≡ true)) → t x ≡ false → (y : E) × In E y l × (t y ≡ true)
        later t x l y off = ⊎_elim (λ s. absurd (false≢true (sym off ∙ ap t (sym s) ∙ y.2))) (λ i. (y.0, i, y.2)) y.1

  pub place_same : (l : List E) (f g : E → Bool) → ((y : E) → In E y l → f y ≡ g y) → place f l ≡ place g l
  unfolding place
  place_same [] f g h = refl
  place_same (x ∷ l) f g h = ap (λ b. cond b 0 (suc (place f l))) (h x (inl refl)) ∙ ap (λ n. cond (g x) 0 (suc n)) (place_same l f g (λ y i. h y (inr i)))

  -- first elements at one place are one
  pub place_one : (l : List E) (f g : E → Bool) → ((y : E) × In E y l × (f y ≡ true)) → ((z : E) × In E z l × (g z ≡ true)) → place f l ≡ place g l → (y : E) × (f y ≡ true) × (g y ≡ true)
  unfolding place
  place_one [] f g y z e = absurd y.1
  place_one (x ∷ l) f g y z e =
      ⊎_elim
      (λ fx. ⊎_elim (λ gx. (x, fx, gx)) (λ gx. absurd (let one = cond-true (f x) 0 (suc (place f l)) fx in let two = cond-false (g x) 0 (suc (place g l)) gx in omega (arith, e, one, two))) (cases_Bool (g x)))
      (λ fx. ⊎_elim (λ gx. absurd (let one = cond-false (f x) 0 (suc (place f l)) fx in let two = cond-true (g x) 0 (suc (place g l)) gx in omega (arith, e, one, two)))
      (λ gx.
      let one = cond-false (f x) 0 (suc (place f l)) fx in
      let two = cond-false (g x) 0 (suc (place g l)) gx in
      place_one l f g (later f y fx) (later g z gx) (omega (arith, e, one, two))) (cases_Bool (g x)))
      (cases_Bool (f x)) where
        later : (t : E → Bool) → ((y : E) × In E y (x ∷ l) × (t y ≡ true)) → t x ≡ false → (y : E) × In E y l × (t y ≡ true)
        later t y off = ⊎_elim (λ s. absurd (false≢true (sym off ∙ ap t (sym s) ∙ y.2))) (λ i. (y.0, i, y.2)) y.1
