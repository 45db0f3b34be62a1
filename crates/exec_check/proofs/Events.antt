-- The order of events.
use Rattle.std.proofs.Common.{◌≡◌, true, false, ◌&&◌, Option, Some, None, refl, sym, ap, subst, ⊎_elim, inl, inr, Decides, arith}
use Rattle.std.specs.Prelude.{nat_eq, nat_lt, ◌⊎◌}
use Rattle.std.proofs.lemmas.Bool.{and_parts, and_from, eqb-true, eq-eqb, cases_order, cases_Bool, cond-true, cond-false}
use Rattle.std.proofs.lemmas.Bool.Decides.{Decides-eqb, Decides-ltb, Decides-and, Decides-or}
use Rattle.std.proofs.lemmas.Option.{same_Some}
use Rattle.axiom_model.specs.declared.Event.{Event}
use Rattle.axiom_model.specs.declared.Event.TheVariants.{Initial, At}
use Rattle.exec_check.specs.First.{Below}
use Rattle.consistency.specs.Edges.{same_event}
use Rattle.exec_check.specs.EventActions.{is_below}
use Rattle.exec_check.specs.ActionTests.{lesser}

pub same_decides : (a b : Event) → Decides (same_event a b) (a ≡ b)
same_decides Initial Initial = (λ t. refl, λ e. refl)
same_decides Initial (At k j) = (λ t. cc, λ e. cc)
same_decides (At h i) Initial = (λ t. cc, λ e. cc)
same_decides (At h i) (At k j) =
    (λ t. let p = and_parts (nat_eq h k) (nat_eq i j) t in let e : h ≡ k = eqb-true h k p.0 in let f : i ≡ j = eqb-true i j p.1 in cc, λ e. let f : h ≡ k = cc in let g : i ≡ j = cc in and_from (nat_eq h k) (nat_eq i j) (eq-eqb h k f) (eq-eqb i j g))

pub below_decides : (a b : Event) → Decides (is_below a b) (Below a b)
below_decides Initial Initial = (λ t. cc, λ b. absurd b)
below_decides Initial (At k j) = (λ t. tt, λ b. refl)
below_decides (At h i) Initial = (λ t. cc, λ b. absurd b)
below_decides (At h i) (At k j) =
    Decides-or (nat_lt h k) (nat_eq h k && nat_lt i j) (Decides-ltb h k) (Decides-and (nat_eq h k) (nat_lt i j) (Decides-eqb h k) (Decides-ltb i j))

pub not_below_both : (a b : Event) → Below a b → Below b a → ⊥
not_below_both Initial Initial p q = p
not_below_both Initial (At k j) p q = q
not_below_both (At h i) Initial p q = p
not_below_both (At h i) (At k j) p q = ⊎_elim (λ x. ⊎_elim (λ y. omega arith) (λ y. omega (arith, y.0)) q) (λ x. ⊎_elim (λ y. omega (arith, x.0)) (λ y. omega (arith, x.1, y.1)) q) p

pub not_below_self : (a : Event) → Below a a → ⊥
not_below_self a b = not_below_both a a b b

pub below_trans : (a b c : Event) → Below a b → Below b c → Below a c
below_trans Initial Initial c p q = absurd p
below_trans Initial (At k j) Initial p q = absurd q
below_trans Initial (At k j) (At l m) p q = tt
below_trans (At h i) Initial c p q = absurd p
below_trans (At h i) (At k j) Initial p q = absurd q
below_trans (At h i) (At k j) (At l m) p q =
    ⊎_elim (λ x. ⊎_elim (λ y. inl (omega arith)) (λ y. inl (omega (arith, y.0))) q) (λ x. ⊎_elim (λ y. inl (omega (arith, x.0))) (λ y. inr (omega (arith, x.0, y.0), omega (arith, x.1, y.1))) q) p

-- the first is the second or comes before it
abbrev pub AtMost : Event → Event → Type 0
AtMost a b = (a ≡ b) ⊎ Below a b

pub at_most_cases : (a b : Event) → AtMost a b ⊎ Below b a
at_most_cases Initial Initial = inl (inl refl)
at_most_cases Initial (At k j) = inl (inr tt)
at_most_cases (At h i) Initial = inr tt
at_most_cases (At h i) (At k j) =
    ⊎_elim (λ e. ⊎_elim (λ f. inl (inl cc)) (λ l. ⊎_elim (λ b. inl (inr (inr (e, b)))) (λ b. inr (inr (sym e, b))) l) (cases_order i j)) (λ l. ⊎_elim (λ b. inl (inr (inl b))) (λ b. inr (inl b)) l) (cases_order h k)

pub below_most : (a b c : Event) → Below a b → AtMost b c → Below a c
below_most a b c p q = ⊎_elim (λ e. subst (λ z. Below a z) e p) (λ l. below_trans a b c p l) q

pub most_trans : (a b c : Event) → AtMost a b → AtMost b c → AtMost a c
most_trans a b c p q = ⊎_elim (λ e. subst (λ z. AtMost z c) (sym e) q) (λ l. inr (below_most a b c l q)) p

-- ---- the lesser of two events

pub lesser-is : (o : Option Event) (e : Event) → (o ≡ Some (lesser o e)) ⊎ (e ≡ lesser o e)
lesser-is None e = inr refl
lesser-is (Some f) e =
    ⊎_elim (λ t. inr (sym (cond-true (is_below e f) e f t))) (λ t. inl (ap Some (sym (cond-false (is_below e f) e f t)))) (cases_Bool (is_below e f))

pub lesser-second : (o : Option Event) (e : Event) → AtMost (lesser o e) e
lesser-second None e = inl refl
lesser-second (Some f) e =
    ⊎_elim (λ t. inl (cond-true (is_below e f) e f t)) (λ t. subst (λ z. AtMost z e) (sym (cond-false (is_below e f) e f t)) (⊎_elim (λ m. m) (λ b. absurd (clash t b)) (at_most_cases f e))) (cases_Bool (is_below e f))
  where
    clash : is_below e f ≡ false → Below e f → ⊥
    clash t b = let u : is_below e f ≡ true = (below_decides e f).1 b in cc

pub lesser-first : (o : Option Event) (e f : Event) → o ≡ Some f → AtMost (lesser o e) f
lesser-first None e f g = cc
lesser-first (Some d) e f g =
    let same : d ≡ f = same_Some d f g in
    subst (λ z. AtMost (lesser (Some d) e) z) same (⊎_elim (λ t. subst (λ z. AtMost z d) (sym (cond-true (is_below e d) e d t)) (inr ((below_decides e d).0 t))) (λ t. inl (cond-false (is_below e d) e d t)) (cases_Bool (is_below e d)))
