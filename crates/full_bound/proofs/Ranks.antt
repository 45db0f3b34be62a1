-- A consistent execution has ranks.
use Rattle.std.proofs.Common.{◌≡◌, ℕ, zero, suc, ◌<◌, List, [], ◌∷◌, ◌++◌, Bool, true, false, length, refl, sym, ap, ◌∙◌, subst, inl, inr, ◌⊎◌, ⊎_elim, arith}
use Rattle.std.proofs.lemmas.Bool.{false≢true, cases_Bool, cases_eq, cases_lt}
use Rattle.axiom_model.specs.declared.MemoryModel.{MemoryModel}
use Rattle.axiom_model.specs.declared.Action.{Action}
use Rattle.axiom_model.specs.declared.Event.{Event}
use Rattle.axiom_model.specs.declared.Event.TheVariants.{Initial, At}
use Rattle.axiom_model.specs.Cycles.{Chain, NoCycle}
use Rattle.axiom_model.specs.Execution.{Execution, actions_of, SameBlock}
use Rattle.axiom_model.specs.Models.{LocalEdge, GlobalEdge, Leaves, Consistent}
use Rattle.axiom_model.proofs.Blocks.{same_block_sym, same_block_trans}
use Rattle.full_bound.proofs.Worlds.{Exists}
use Rattle.full_bound.proofs.Ascending.{In, in_left, in_right}
use Rattle.full_bound.proofs.Ordering.{Not, Decided, IsOrder, order_of, place, place_less, place_same, place_one}
use Rattle.full_bound.proofs.Deciding.{Dec, dec_and, dec_not, dec_by, dec_in, dec_block, dec_local, dec_global}
use Rattle.full_bound.proofs.Ranking.{is_event, event_same, event_is, AcceptsAll}

module _ (m : MemoryModel) (x : Execution) (consistent : Consistent m x) (N : ℕ) (low : (h : ℕ) → 0 < length (actions_of x.threads h) → h < N) where
  abbrev acts : ℕ → List Action
  acts = actions_of x.threads

  own : ℕ → ℕ → List Event
  own h zero = []
  own h (suc n) = At h n ∷ own h n

  all : ℕ → List Event
  all zero = Initial ∷ []
  all (suc k) = own k (length (acts k)) ++ all k

  own_has : (h n i : ℕ) → i < n → In Event (At h i) (own h n)
  unfolding own
  own_has h zero i l = absurd (omega (arith, l))
  own_has h (suc n) i l = ⊎_elim (λ e. inl (ap (λ z. At h z) e)) (λ ne. inr (own_has h n i (⊎_elim (λ lt. lt) (λ ge. absurd (ne (omega (arith, ge, l)))) (cases_lt i n)))) (cases_eq i n)

  initial_in : (k : ℕ) → In Event Initial (all k)
  unfolding all
  initial_in zero = inl refl
  initial_in (suc k) = in_right Event Initial (own k (length (acts k))) (all k) (initial_in k)

  action_in : (k h i : ℕ) → h < k → i < length (acts h) → In Event (At h i) (all k)
  unfolding all
  action_in zero h i l z = absurd (omega (arith, l))
  action_in (suc k) h i l z =
      ⊎_elim (λ e. in_left Event (At h i) (own k (length (acts k))) (all k) (subst (λ y. In Event (At y i) (own k (length (acts k)))) (sym e) (own_has k (length (acts k)) i (subst (λ y. i < length (acts y)) e z))))
      (λ ne. in_right Event (At h i) (own k (length (acts k))) (all k) (action_in k h i (⊎_elim (λ lt. lt) (λ ge. absurd (ne (omega (arith, ge, l)))) (cases_lt h k)) z)) (cases_eq h k)

  l : List Event
  l = all N

  there : (e : Event) → Exists acts e → In Event e l
  unfolding l
  there Initial z = initial_in N
  there (At h i) z = action_in N h i (low h (omega (arith, z))) z

  -- ---- blocks

  abbrev Crosses : Event → Event → Type 0
  Crosses a b = (p : Event) × (q : Event) × SameBlock x a p × GlobalEdge m x p q × (SameBlock x p q → ⊥) × SameBlock x q b × In Event p l × In Event q l

  abbrev Step : Event × Event → Event × Event → Type 0
  Step = Leaves m x

  crossing : (a b : Event) (xs : List Event) → Chain Crosses a xs b → (q : Event × Event) → SameBlock x b q.0 → (p : Event × Event) × (ps : List (Event × Event)) × SameBlock x a p.0 × Chain Step p ps q
  crossing a b [] h q s = ((h.0, h.1), [], h.2, (h.3, h.4, same_block_trans x h.1 b q.0 h.5 s))
  crossing a b (y ∷ xs) h q s =
      let it = crossing y b xs h.1 q s in
      let c = h.0 in
      ((c.0, c.1), it.0 ∷ it.1, c.2, ((c.3, c.4, same_block_trans x c.1 y it.0.0 c.5 it.2), it.3))

  no_crossing : NoCycle Crosses
  no_crossing [] h = h
  no_crossing (y ∷ []) h = consistent.blocks ((h.0, h.1) ∷ []) (h.3, h.4, same_block_trans x h.1 y h.0 h.5 h.2)
  no_crossing (y ∷ z ∷ ys) h =
      let c = h.0 in
      let it = crossing z y ys h.1 (c.0, c.1) c.2 in
      consistent.blocks ((c.0, c.1) ∷ it.0 ∷ it.1) ((c.3, c.4, same_block_trans x c.1 z it.0.0 c.5 it.2), it.3)

  -- ---- ranks, where all is decided

  pub record Ranked : Type 0 where
    pub local : Event → ℕ
    pub global : Event → ℕ
    pub block : Event → ℕ
    pub accepts : AcceptsAll m x local global block
    pub differ : (a b : Event) → Exists acts a → Exists acts b → global a ≡ global b → a ≡ b

  member : (e : Event) (k : List Event) → In Event e k ⊎ Not (In Event e k)
  member e [] = inr (λ z. z)
  member e (y ∷ k) =
      ⊎_elim (λ t. inl (inl (event_same e y t)))
      (λ f. ⊎_elim (λ i. inl (inr i)) (λ n. inr (λ z. ⊎_elim (λ s. false≢true (sym f ∙ ap (is_event e) (sym s) ∙ event_is e)) n z)) (member e k)) (cases_Bool (is_event e y))

  -- the same event, or two that are there
  same_or : (a b : Event) → SameBlock x a b → (a ≡ b) ⊎ (Exists acts a × Exists acts b)
  same_or Initial Initial s = inl refl
  same_or Initial (At k j) s = absurd s
  same_or (At h i) Initial s = absurd s
  same_or (At h i) (At k j) s =
      ⊎_elim (λ e. inl (ap (λ z. At z i) s.0 ∙ ap (λ z. At k z) e)) (λ z. inr (subst (λ y. i < length (acts y)) (sym s.0) z.1.there, z.2.there)) s.1

  itself : (a : Event) → SameBlock x a a
  itself Initial = tt
  itself (At h i) = (refl, inl refl)

  module _ (locals : Decided Event (LocalEdge x) l) (globals : Decided Event (GlobalEdge m x) l) (crosses : Decided Event Crosses l) (blocks : Decided Event (SameBlock x) l) where
    of_local : (o : List Event) × IsOrder Event (LocalEdge x) l o
    of_local = order_of Event l (LocalEdge x) consistent.local locals

    of_global : (o : List Event) × IsOrder Event (GlobalEdge m x) l o
    of_global = order_of Event l (GlobalEdge m x) consistent.global globals

    of_blocks : (o : List Event) × IsOrder Event Crosses l o
    of_blocks = order_of Event l Crosses no_crossing crosses

    is : Event → Event → Bool
    is e y = is_event y e

    is_self : (e : Event) → is e e ≡ true
    unfolding is
    is_self e = event_is e

    is_same : (e y : Event) → is e y ≡ true → y ≡ e
    unfolding is
    is_same e y t = event_same y e t

    rank_less : (R : Event → Event → Type 0) (o : (o : List Event) × IsOrder Event R l o) (a b : Event) → Exists acts a → Exists acts b → R a b → place Event (is a) o.0 < place Event (is b) o.0
    rank_less R o a b p q r =
        place_less Event R o.0 (is a) (is b) o.1.forwards (λ y z i j f g. subst (λ u. R u z) (sym (is_same a y f)) (subst (R a) (sym (is_same b z g)) r))
        (a, o.1.complete a (there a p), is_self a) (b, o.1.complete b (there b q), is_self b)

    together_in : (y e : Event) → In Event y l ⊎ Not (In Event y l) → In Event e l ⊎ Not (In Event e l) → Bool
    together_in y e (inl i) (inl j) = ⊎_elim (λ s. true) (λ n. false) (blocks y i e j)
    together_in y e (inl i) (inr n) = false
    together_in y e (inr n) z = false

    together : Event → Event → Bool
    together e y = together_in y e (member y l) (member e l)

    yes_in : (y e : Event) (i : In Event y l ⊎ Not (In Event y l)) (j : In Event e l ⊎ Not (In Event e l)) → together_in y e i j ≡ true → SameBlock x y e
    unfolding together_in
    yes_in y e (inl i) (inl j) t = decided (blocks y i e j) t where
      decided : (d : SameBlock x y e ⊎ Not (SameBlock x y e)) → ⊎_elim (λ s. true) (λ n. false) d ≡ true → SameBlock x y e
      decided (inl s) t = s
      decided (inr n) t = absurd (false≢true t)
    yes_in y e (inl i) (inr n) t = absurd (false≢true t)
    yes_in y e (inr n) z t = absurd (false≢true t)

    in_yes : (y e : Event) (i : In Event y l ⊎ Not (In Event y l)) (j : In Event e l ⊎ Not (In Event e l)) → In Event y l → In Event e l → SameBlock x y e → together_in y e i j ≡ true
    unfolding together_in
    in_yes y e (inl i) (inl j) p q s = decided (blocks y i e j) where
      decided : (d : SameBlock x y e ⊎ Not (SameBlock x y e)) → ⊎_elim (λ s. true) (λ n. false) d ≡ true
      decided (inl z) = refl
      decided (inr n) = absurd (n s)
    in_yes y e (inl i) (inr n) p q s = absurd (n q)
    in_yes y e (inr n) z p q s = absurd (n p)

    together_yes : (e y : Event) → together e y ≡ true → SameBlock x y e
    unfolding together
    together_yes e y t = yes_in y e (member y l) (member e l) t

    yes_together : (e y : Event) → In Event y l → In Event e l → SameBlock x y e → together e y ≡ true
    unfolding together
    yes_together e y p q s = in_yes y e (member y l) (member e l) p q s

    block_less : (a b : Event) → Exists acts a → Exists acts b → GlobalEdge m x a b → (SameBlock x a b → ⊥) → place Event (together a) of_blocks.0 < place Event (together b) of_blocks.0
    block_less a b p q e ne =
        place_less Event Crosses of_blocks.0 (together a) (together b) of_blocks.1.forwards
        (λ y z i j f g. (a, b, together_yes a y f, e, ne, same_block_sym x z b (together_yes b z g), there a p, there b q))
        (a, of_blocks.1.complete a (there a p), yes_together a a (there a p) (there a p) (itself a)) (b, of_blocks.1.complete b (there b q), yes_together b b (there b q) (there b q) (itself b))

    one_rank : (a b : Event) → SameBlock x a b → place Event (together a) of_blocks.0 ≡ place Event (together b) of_blocks.0
    one_rank a b s =
        ⊎_elim (λ e. ap (λ z. place Event (together z) of_blocks.0) e)
        (λ z. place_same Event of_blocks.0 (together a) (together b) (λ y i.
        let iy = of_blocks.1.sound y i in
        let ia = there a z.0 in
        let ib = there b z.1 in
        ⊎_elim
        (λ t. t ∙ sym (yes_together b y iy ib (same_block_trans x y a b (together_yes a y t) s)))
        (λ f. ⊎_elim (λ t. absurd (false≢true (sym f ∙ yes_together a y iy ia (same_block_trans x y b a (together_yes b y t) (same_block_sym x a b s))))) (λ g. f ∙ sym g) (cases_Bool (together b y)))
        (cases_Bool (together a y))))
        (same_or a b s)

    ranked : Ranked
    ranked = record {
      local = λ e. place Event (is e) of_local.0;
      global = λ e. place Event (is e) of_global.0;
      block = λ e. place Event (together e) of_blocks.0;
      accepts = record {
        local_forward = rank_less (LocalEdge x) of_local;
        global_forward = rank_less (GlobalEdge m x) of_global;
        one_in_each_block = one_rank;
        block_forward = block_less;
      };
      differ = λ a b p q e.
          let it = place_one Event of_global.0 (is a) (is b) (a, of_global.1.complete a (there a p), is_self a) (b, of_global.1.complete b (there b q), is_self b) e in
          sym (is_same a it.0 it.1) ∙ is_same b it.0 it.2;
    }

  crosses_decided : (a b : Event) → Dec (Crosses a b)
  crosses_decided a b =
      dec_by ((p : Event) × In Event p l × ((q : Event) × In Event q l × (SameBlock x a p × (GlobalEdge m x p q × ((SameBlock x p q → ⊥) × SameBlock x q b))))) (Crosses a b)
      (λ z. (z.0, z.2.0, z.2.2.0, z.2.2.1.0, z.2.2.1.1.0, z.2.2.1.1.1, z.1, z.2.1))
      (λ z. (z.0, z.6, (z.1, z.7, (z.2, (z.3, (z.4, z.5))))))
      (dec_in Event (λ p. (q : Event) × In Event q l × (SameBlock x a p × (GlobalEdge m x p q × ((SameBlock x p q → ⊥) × SameBlock x q b)))) l
      (λ p i. dec_in Event (λ q. SameBlock x a p × (GlobalEdge m x p q × ((SameBlock x p q → ⊥) × SameBlock x q b))) l
      (λ q j. dec_and _ _ (dec_block x a p) (dec_and _ _ (dec_global x m p q) (dec_and _ _ (dec_not _ (dec_block x p q)) (dec_block x q b))))))

  pub ranks : Ranked
  ranks = ranked (λ a i b j. dec_local x a b) (λ a i b j. dec_global x m a b) (λ a i b j. crosses_decided a b) (λ a i b j. dec_block x a b)
