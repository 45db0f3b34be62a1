-- The pairs of events that reads-from, coherence and from-read give.
use Rattle.std.proofs.Common.{◌≡◌, ℕ, zero, suc, List, [], ◌∷◌, true, Option, Some, None, refl, sym, ap, ◌∙◌, subst, ⊎_elim, arith}
use Rattle.std.specs.Prelude.{slice_get, nat_eq}
use Rattle.std.proofs.lemmas.Bool.{and_parts, and_from, eqb-true, eq-eqb, cases_Bool, cond-true, cond-false}
use Rattle.std.proofs.lemmas.Option.{none-some, same_Some}
use Rattle.axiom_model.specs.declared.Event.{Event}
use Rattle.axiom_model.specs.declared.Event.TheVariants.{Initial, At}
use Rattle.axiom_model.specs.declared.RfPair.{RfPair}
use Rattle.axiom_model.specs.Sorting.{HasEdge}
use Rattle.consistency.specs.declared.numbering.Node.{Node}
use Rattle.consistency.specs.declared.relations.Condition.{Condition}
use Rattle.consistency.specs.declared.links.Link.{Link}
use Rattle.consistency.specs.Numbering.{place_of}
use Rattle.consistency.specs.Relations.{sees}
use Rattle.consistency.specs.Edges.{one, link, source_links, follow_links, order_links, co_links, same_event, next_behind, next_of, next_in, cell_in, link_to, later_links, between, numbered_links}
use Rattle.consistency.proofs.Members.{Has, has_left, has_right, has_cases, has_none, has_one, one_has}

-- ---- from sources to reads

pub source_has : (c : Condition) (rf : List RfPair) (k : ℕ) (p : RfPair) → slice_get rf k ≡ Some p → sees c p ≡ true → Has (source_links c rf) (link p.source p.reader)
source_has c [] k p e t = absurd (none-some p e)
source_has c (q ∷ rf) zero p e t =
    let same : q ≡ p = same_Some q p e in
    subst (λ z. Has (source_links c (q ∷ rf)) (link z.source z.reader)) same
    (has_left (one (sees c q) (link q.source q.reader)) (source_links c rf) (link q.source q.reader) (has_one (sees c q) (link q.source q.reader) (subst (λ z. sees c z ≡ true) (sym same) t)))
source_has c (q ∷ rf) (suc k) p e t = has_right (one (sees c q) (link q.source q.reader)) (source_links c rf) (link p.source p.reader) (source_has c rf k p e t)

pub source_sound : (c : Condition) (rf : List RfPair) (l : Link) → Has (source_links c rf) l → (k : ℕ) × (p : RfPair) × (slice_get rf k ≡ Some p) × (sees c p ≡ true) × (link p.source p.reader ≡ l)
source_sound c [] l h = absurd (has_none l h)
source_sound c (q ∷ rf) l h =
    ⊎_elim
    (λ g. let o = one_has (sees c q) (link q.source q.reader) l g in (0, q, refl, o.0, o.1))
    (λ g. let r = source_sound c rf l g in (suc r.0, r.1, r.2, r.3, r.4))
    (has_cases (one (sees c q) (link q.source q.reader)) (source_links c rf) l h)

-- ---- from each write to the next

-- the link leads from an event of the list to the next
abbrev pub Adjacent : List Event → Event → Event → Type 0
Adjacent l a b = (i : ℕ) × (slice_get l i ≡ Some a) × (slice_get l (suc i) ≡ Some b)

follow_has : (e : Event) (es : List Event) (i : ℕ) (a b : Event) → slice_get (e ∷ es) i ≡ Some a → slice_get es i ≡ Some b → Has (follow_links e es) (link a b)
follow_has e [] i a b p q = absurd (none-some b q)
follow_has e (f ∷ fs) zero a b p q =
    let x : e ≡ a = same_Some e a p in
    let y : f ≡ b = same_Some f b q in
    (0, ap Some (subst (λ z. link e f ≡ link z f) x refl ∙ ap (λ z. link a z) y))
follow_has e (f ∷ fs) (suc i) a b p q = let r = follow_has f fs i a b p q in (suc r.0, r.1)

follow_sound : (e : Event) (es : List Event) (l : Link) → Has (follow_links e es) l → Adjacent (e ∷ es) l.source l.target
follow_sound e [] l h = absurd (has_none l h)
follow_sound e (f ∷ fs) l (zero, h) = let same : link e f ≡ l = same_Some (link e f) l h in (0, ap (λ z. Some z.source) same, ap (λ z. Some z.target) same)
follow_sound e (f ∷ fs) l (suc k, h) = let r = follow_sound f fs l (k, h) in (suc r.0, r.1, r.2)

order_has : (l : List Event) (a b : Event) → Adjacent l a b → Has (order_links l) (link a b)
order_has [] a b h = absurd (none-some a h.1)
order_has (e ∷ es) a b h = follow_has e es h.0 a b h.1 h.2

order_sound : (l : List Event) (k : Link) → Has (order_links l) k → Adjacent l k.source k.target
order_sound [] k h = absurd (has_none k h)
order_sound (e ∷ es) k h = follow_sound e es k h

pub co_has : (co : List (List Event)) (c : ℕ) (l : List Event) (a b : Event) → slice_get co c ≡ Some l → Adjacent l a b → Has (co_links co) (link a b)
co_has [] c l a b e h = absurd (none-some l e)
co_has (m ∷ ls) zero l a b e h =
    let same : l ≡ m = sym (same_Some m l e) in
    has_left (order_links m) (co_links ls) (link a b) (order_has m a b (subst (λ z. Adjacent z a b) same h))
co_has (m ∷ ls) (suc c) l a b e h = has_right (order_links m) (co_links ls) (link a b) (co_has ls c l a b e h)

pub co_sound : (co : List (List Event)) (k : Link) → Has (co_links co) k → (c : ℕ) × (l : List Event) × (slice_get co c ≡ Some l) × Adjacent l k.source k.target
co_sound [] k h = absurd (has_none k h)
co_sound (m ∷ ls) k h =
    ⊎_elim
    (λ g. (0, m, refl, order_sound m k g))
    (λ g. let r = co_sound ls k g in (suc r.0, r.1, r.2, r.3))
    (has_cases (order_links m) (co_links ls) k h)

-- ---- the event right behind another

pub same_event-eq : (a b : Event) → same_event a b ≡ true → a ≡ b
same_event-eq Initial Initial t = refl
same_event-eq Initial (At k j) t = cc
same_event-eq (At h i) Initial t = cc
same_event-eq (At h i) (At k j) t =
    let p = and_parts (nat_eq h k) (nat_eq i j) t in
    let a : h ≡ k = eqb-true h k p.0 in
    let b : i ≡ j = eqb-true i j p.1 in
    cc

eq-same_event : (a : Event) → same_event a a ≡ true
eq-same_event Initial = refl
eq-same_event (At h i) = and_from (nat_eq h h) (nat_eq i i) (eq-eqb h h refl) (eq-eqb i i refl)

first_of : (es : List Event) (w : Event) (i : ℕ) → i ≡ 0 → slice_get es i ≡ Some w → slice_get es 0 ≡ Some w
first_of es w i z e = subst (λ k. slice_get es k ≡ Some w) z e

pub next_sound : (l : List Event) (s w : Event) → next_behind l s ≡ Some w → Adjacent l s w
next_sound [] s w h = absurd (none-some w h)
next_sound (e ∷ es) s w h =
    ⊎_elim
    (λ t. (0, ap Some (same_event-eq e s t), sym (cond-true (same_event e s) (slice_get es 0) (next_behind es s) t) ∙ h))
    (λ t. let r = next_sound es s w (sym (cond-false (same_event e s) (slice_get es 0) (next_behind es s) t) ∙ h) in (suc r.0, r.1, r.2))
    (cases_Bool (same_event e s))

pub next_has : (l : List Event) (i : ℕ) (s w : Event) → slice_get l i ≡ Some s → slice_get l (suc i) ≡ Some w → ((j : ℕ) → slice_get l j ≡ Some s → j ≡ i) → next_behind l s ≡ Some w
next_has [] i s w e f u = absurd (none-some s e)
next_has (d ∷ es) zero s w e f u =
    let t : same_event d s ≡ true = subst (λ z. same_event d z ≡ true) (same_Some d s e) (eq-same_event d) in
    cond-true (same_event d s) (slice_get es 0) (next_behind es s) t ∙ f
next_has (d ∷ es) (suc i) s w e f u =
    ⊎_elim
    (λ t. let g : 0 ≡ suc i = u 0 (ap Some (same_event-eq d s t)) in absurd (omega arith))
    (λ t. cond-false (same_event d s) (slice_get es 0) (next_behind es s) t ∙ next_has es i s w e f (λ j h. let g : suc j ≡ suc i = u (suc j) h in omega arith))
    (cases_Bool (same_event d s))

-- ---- from reads to the write right behind the source

link_to_has : (e : Event) (o : Option Event) (w : Event) → o ≡ Some w → Has (link_to e o) (link e w)
link_to_has e None w h = absurd (none-some w h)
link_to_has e (Some f) w h = (0, ap (λ z. Some (link e z)) (same_Some f w h))

to_link : (e : Event) (o : Option Event) (l : Link) → Has (link_to e o) l → (w : Event) × (o ≡ Some w) × (link e w ≡ l)
to_link e None l h = absurd (has_none l h)
to_link e (Some f) l (zero, h) = (f, refl, same_Some (link e f) l h)
to_link e (Some f) l (suc k, h) = absurd (none-some l h)

-- the event right behind the source of the pair
abbrev pub next_for : List Node → List (List Event) → RfPair → Option Event
next_for nodes co p = next_in co (cell_in nodes p.reader) p.source

pub later_has : (nodes : List Node) (co : List (List Event)) (rf : List RfPair) (k : ℕ) (p : RfPair) (w : Event) → slice_get rf k ≡ Some p → next_for nodes co p ≡ Some w → Has (later_links nodes co rf) (link p.reader w)
later_has nodes co [] k p w e h = absurd (none-some p e)
later_has nodes co (q ∷ rf) zero p w e h =
    let same : p ≡ q = sym (same_Some q p e) in
    has_left (link_to q.reader (next_for nodes co q)) (later_links nodes co rf) (link p.reader w)
    (subst (λ z. Has (link_to z.reader (next_for nodes co z)) (link p.reader w)) same (link_to_has p.reader (next_for nodes co p) w h))
later_has nodes co (q ∷ rf) (suc k) p w e h = has_right (link_to q.reader (next_for nodes co q)) (later_links nodes co rf) (link p.reader w) (later_has nodes co rf k p w e h)

pub later_sound : (nodes : List Node) (co : List (List Event)) (rf : List RfPair) (l : Link) → Has (later_links nodes co rf) l → (k : ℕ) × (p : RfPair) × (w : Event) × (slice_get rf k ≡ Some p) × (next_for nodes co p ≡ Some w) × (link p.reader w ≡ l)
later_sound nodes co [] l h = absurd (has_none l h)
later_sound nodes co (q ∷ rf) l h =
    ⊎_elim
    (λ g. let t = to_link q.reader (next_for nodes co q) l g in (0, q, t.0, refl, t.1, t.2))
    (λ g. let r = later_sound nodes co rf l g in (suc r.0, r.1, r.2, r.3, r.4, r.5))
    (has_cases (link_to q.reader (next_for nodes co q)) (later_links nodes co rf) l h)

-- the cell's order and the place in it
pub next_in_sound : (co : List (List Event)) (o : Option ℕ) (s w : Event) → next_in co o s ≡ Some w → (c : ℕ) × (l : List Event) × (o ≡ Some c) × (slice_get co c ≡ Some l) × Adjacent l s w
next_in_sound co None s w h = absurd (none-some w h)
next_in_sound co (Some c) s w h = in_order (slice_get co c) refl h
  where
    in_order : (m : Option (List Event)) → slice_get co c ≡ m → next_of m s ≡ Some w → (d : ℕ) × (l : List Event) × (Some c ≡ Some d) × (slice_get co d ≡ Some l) × Adjacent l s w
    in_order None e g = absurd (none-some w g)
    in_order (Some l) e g = (c, l, refl, e, next_sound l s w g)

pub next_in_has : (co : List (List Event)) (c : ℕ) (l : List Event) (s w : Event) → slice_get co c ≡ Some l → next_behind l s ≡ Some w → next_in co (Some c) s ≡ Some w
next_in_has co c l s w e h = ap (λ m. next_of m s) e ∙ h

-- ---- links between numbered events

between_has : (o p : Option ℕ) (a b : ℕ) → o ≡ Some a → p ≡ Some b → HasEdge (between o p) a b
between_has o p a b e f = subst (λ z. HasEdge (between z p) a b) (sym e) (subst (λ z. HasEdge (between (Some a) z) a b) (sym f) (0, refl))

between_sound : (o p : Option ℕ) (a b : ℕ) → HasEdge (between o p) a b → (o ≡ Some a) × (p ≡ Some b)
between_sound (Some c) (Some d) a b (zero, h) = let same : (c, d) ≡ (a, b) = same_Some (c, d) (a, b) h in (ap (λ z. Some z.0) same, ap (λ z. Some z.1) same)
between_sound (Some c) (Some d) a b (suc k, h) = absurd (none-some (a, b) h)
between_sound (Some c) None a b h = absurd (none-some (a, b) h.1)
between_sound None p a b h = absurd (none-some (a, b) h.1)

pub numbered_has : (nodes : List Node) (ls : List Link) (l : Link) (a b : ℕ) → Has ls l → place_of nodes l.source ≡ Some a → place_of nodes l.target ≡ Some b → HasEdge (numbered_links nodes ls) a b
numbered_has nodes [] l a b h p q = absurd (has_none l h)
numbered_has nodes (m ∷ ls) l a b (zero, h) p q =
    let same : l ≡ m = sym (same_Some m l h) in
    has_left (between (place_of nodes m.source) (place_of nodes m.target)) (numbered_links nodes ls) (a, b)
    (between_has (place_of nodes m.source) (place_of nodes m.target) a b (subst (λ z. place_of nodes z.source ≡ Some a) same p) (subst (λ z. place_of nodes z.target ≡ Some b) same q))
numbered_has nodes (m ∷ ls) l a b (suc k, h) p q = has_right (between (place_of nodes m.source) (place_of nodes m.target)) (numbered_links nodes ls) (a, b) (numbered_has nodes ls l a b (k, h) p q)

pub numbered_sound : (nodes : List Node) (ls : List Link) (a b : ℕ) → HasEdge (numbered_links nodes ls) a b → (l : Link) × Has ls l × (place_of nodes l.source ≡ Some a) × (place_of nodes l.target ≡ Some b)
numbered_sound nodes [] a b h = absurd (none-some (a, b) h.1)
numbered_sound nodes (m ∷ ls) a b h =
    ⊎_elim
    (λ g. let t = between_sound (place_of nodes m.source) (place_of nodes m.target) a b g in (m, (0, refl), t.0, t.1))
    (λ g. let r = numbered_sound nodes ls a b g in (r.0, (suc r.1.0, r.1.1), r.2, r.3))
    (has_cases (between (place_of nodes m.source) (place_of nodes m.target)) (numbered_links nodes ls) (a, b) h)
