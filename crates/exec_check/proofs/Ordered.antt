-- The order of the writes of each cell.
use Rattle.std.proofs.Common.{◌≡◌, ℕ, zero, suc, ◌+◌, ◌<◌, ◌≤◌, List, [], ◌∷◌, length, Bool, true, false, not, ◌&&◌, cond, Some, None, refl, sym, ap, ◌∙◌, subst, ⊎_elim, inl, inr, Decides, arith}
use Rattle.std.specs.Prelude.{slice_get, nat_lt, ◌⊎◌, get_or}
use Rattle.std.specs.List.{list_all}
use Rattle.std.proofs.lemmas.Bool.{cases_Bool, and_parts, and_cases, ltb-true, ltb-false, cases_lt}
use Rattle.std.proofs.lemmas.Bool.Decides.{Decides-eqb, Decides-and, Decides-or, Decides-not, not_from_Decides}
use Rattle.std.proofs.lemmas.Option.{none-some, same_Some, slice_get_within, slice_get_past, slice_get-get_or}
use Rattle.axiom_model.specs.declared.Action.{Action}
use Rattle.axiom_model.specs.declared.Action.TheVariants.{Read, Write, Open, Close, Fence, Create, Join, Start, End}
use Rattle.axiom_model.specs.declared.Event.{Event}
use Rattle.axiom_model.specs.declared.Event.TheVariants.{Initial}
use Rattle.axiom_model.specs.Execution.{Execution, action_at}
use Rattle.axiom_model.specs.WellMade.{Shape, IsWriteOrder}
use Rattle.exec_check.specs.declared.event_actions.EventAction.{EventAction}
use Rattle.exec_check.specs.First.{FirstNumber}
use Rattle.exec_check.specs.Conditions.{HasOrder}
use Rattle.consistency.specs.Edges.{same_event}
use Rattle.exec_check.specs.EventActions.{event_action, ListsActions}
use Rattle.exec_check.specs.ActionTests.{has_event, no_repeats, writes_cell, is_write, is_listed, orders_cell, bad_order_from}
use Rattle.exec_check.proofs.Listed.{any_decides, all_decides, cond_none, cond_either}
use Rattle.exec_check.proofs.Events.{same_decides}
use Rattle.exec_check.proofs.ActionList.{any_action}

-- ---- one list

abbrev Has : List Event → Event → Type 0
Has l e = (k : ℕ) × (slice_get l k ≡ Some e)

has_decides : (l : List Event) (e : Event) → Decides (has_event l e) (Has l e)
has_decides l e =
    let d = any_decides (same_event e) (λ f. e ≡ f) (same_decides e) l in
    (λ t. let r = d.0 t in (r.0, r.2 ∙ ap Some (sym r.3)), λ h. d.1 (h.0, e, h.1, refl))

abbrev Once : List Event → Type 0
Once l = (i j : ℕ) (e : Event) → slice_get l i ≡ Some e → slice_get l j ≡ Some e → i ≡ j

once_on : (e : Event) (es : List Event) → ¬ Has es e → Once es → Once (e ∷ es)
once_on e es n o zero zero f g h = refl
once_on e es n o zero (suc j) f g h = absurd (n (j, h ∙ ap Some (sym (same_Some e f g))))
once_on e es n o (suc i) zero f g h = absurd (n (i, g ∙ ap Some (sym (same_Some e f h))))
once_on e es n o (suc i) (suc j) f g h = ap suc (o i j f g h)

once_decides : (l : List Event) → Decides (no_repeats l) (Once l)
once_decides [] = (λ t i j e g h. absurd (none-some e g), λ o. refl)
once_decides (e ∷ es) =
    let rec = once_decides es in
    let d = Decides-and (not (has_event es e)) (no_repeats es) (Decides-not (has_event es e) (has_decides es e)) rec in
    (λ t. let r = d.0 t in once_on e es r.0 r.1, λ o. d.1 ((λ h. let z : 0 ≡ suc h.0 = o 0 (suc h.0) e refl h.1 in absurd (omega arith)), (λ i j f g h. let z : suc i ≡ suc j = o (suc i) (suc j) f g h in omega arith)))

abbrev WritesCell : ℕ → Action → Type 0
WritesCell c a = (v : ℕ) × (a ≡ Write c v)

cell_decides : (c : ℕ) (a : Action) → Decides (writes_cell c a) (WritesCell c a)
cell_decides c (Write d v) =
    let e = Decides-eqb d c in
    (λ t. (v, ap (λ n. Write n v) (e.0 t)), λ h. let g = h.1 in let same : d ≡ c = cc in e.1 same)
cell_decides c (Read d v) = (λ t. cc, λ h. let g = h.1 in cc)
cell_decides c Open = (λ t. cc, λ h. let g = h.1 in cc)
cell_decides c Close = (λ t. cc, λ h. let g = h.1 in cc)
cell_decides c Fence = (λ t. cc, λ h. let g = h.1 in cc)
cell_decides c (Create k f v) = (λ t. cc, λ h. let g = h.1 in cc)
cell_decides c (Join k) = (λ t. cc, λ h. let g = h.1 in cc)
cell_decides c Start = (λ t. cc, λ h. let g = h.1 in cc)
cell_decides c End = (λ t. cc, λ h. let g = h.1 in cc)

write_decides : (x : Execution) (ws : List EventAction) → ListsActions x ws → (c : ℕ) (e : Event) → Decides (is_write ws c e) ((v : ℕ) × (action_at x e ≡ Some (Write c v)))
write_decides x ws h c e =
    let d = any_action x ws (writes_cell c) (WritesCell c) h (cell_decides c) e in
    (λ t. let r = d.0 t in (r.2.0, r.1 ∙ ap Some r.2.1), λ g. d.1 (Write c g.0, g.1, (g.0, refl)))

abbrev IsListed : ℕ → List Event → EventAction → Type 0
IsListed c l w = (¬ WritesCell c w.action) ⊎ Has l w.event

listed_decides : (c : ℕ) (l : List Event) (w : EventAction) → Decides (is_listed c l w) (IsListed c l w)
listed_decides c l w =
    Decides-or (not (writes_cell c w.action)) (has_event l w.event) (Decides-not (writes_cell c w.action) (cell_decides c w.action)) (has_decides l w.event)

pub order_decides : (x : Execution) (ws : List EventAction) → ListsActions x ws → (c : ℕ) (l : List Event) → Decides (orders_cell ws c l) (IsWriteOrder x c l)
order_decides x ws h c [] = (λ t. cc, λ o. let e = o.initial_first in cc)
order_decides x ws h c (e ∷ es) = (there, back)
  where
    all : Decides (orders_cell ws c (e ∷ es)) ((Initial ≡ e) × (Once es × (((k : ℕ) (f : Event) → slice_get es k ≡ Some f → (v : ℕ) × (action_at x f ≡ Some (Write c v))) × ((k : ℕ) (w : EventAction) → slice_get ws k ≡ Some w → IsListed c es w))))
    all =
        Decides-and (same_event Initial e) (no_repeats es && (list_all (is_write ws c) es && list_all (is_listed c es) ws)) (same_decides Initial e)
        (Decides-and (no_repeats es) (list_all (is_write ws c) es && list_all (is_listed c es) ws) (once_decides es) (Decides-and (list_all (is_write ws c) es) (list_all (is_listed c es) ws) (all_decides (is_write ws c) (λ f. (v : ℕ) × (action_at x f ≡ Some (Write c v))) (write_decides x ws h c) es) (all_decides (is_listed c es) (IsListed c es) (listed_decides c es) ws)))

    there : orders_cell ws c (e ∷ es) ≡ true → IsWriteOrder x c (e ∷ es)
    there t =
        let r = all.0 t in
        record {
          writes = es;
          initial_first = ap (λ f. f ∷ es) (sym r.0);
          once = r.1.0;
          sound = r.1.1.0;
          complete = λ f v a. let q = h.complete f (Write c v) a in ⊎_elim (λ n. absurd (n (v, refl))) (λ g. g) (r.1.1.1 q.0 (event_action f (Write c v)) q.1);
        }

    back : IsWriteOrder x c (e ∷ es) → orders_cell ws c (e ∷ es) ≡ true
    back o =
        let same : o.writes ≡ es = let i = o.initial_first in cc in
        let first : Initial ≡ e = let i = o.initial_first in cc in
        all.1 (first, (subst Once same o.once, (subst (λ l. (k : ℕ) (f : Event) → slice_get l k ≡ Some f → (v : ℕ) × (action_at x f ≡ Some (Write c v))) same o.sound, λ k w g. ⊎_elim (λ t. let v = (cell_decides c w.action).0 t in inr (let q = o.complete w.event v.0 (h.sound k w g ∙ ap Some v.1) in (q.0, subst (λ l. slice_get l q.0 ≡ Some w.event) same q.1))) (λ t. inl (not_from_Decides (writes_cell c w.action) (cell_decides c w.action) t)) (cases_Bool (writes_cell c w.action)))))

-- ---- all lists

-- from a number on, as many lists as there are cells left, each in order
record InOrder (ws : List EventAction) (cells c : ℕ) (ls : List (List Event)) : Type 0 where
  many : c ≤ cells → c + length ls ≡ cells
  each : (n : ℕ) (l : List Event) → slice_get ls n ≡ Some l → orders_cell ws (c + n) l ≡ true

in_order : (ws : List EventAction) (cells c : ℕ) (ls : List (List Event)) → bad_order_from ws cells c ls ≡ None → InOrder ws cells c ls
in_order ws cells c [] e = record { many = λ l. many (cells_left (nat_lt c cells) e) l; each = λ n l g. absurd (none-some l g) }
  where
    cells_left : (b : Bool) → cond b (Some c) None ≡ None → b ≡ false
    cells_left true e = absurd (none-some c (sym e))
    cells_left false e = refl

    many : nat_lt c cells ≡ false → c ≤ cells → c + length {A = List Event} [] ≡ cells
    many b l = let g : cells ≤ c = ltb-false c cells b in omega arith
in_order ws cells c (m ∷ ls) e =
    let f = cond_none (nat_lt c cells && orders_cell ws c m) (bad_order_from ws cells (c + 1) ls) c e in
    let p = and_parts (nat_lt c cells) (orders_cell ws c m) f.0 in
    let below : c < cells = ltb-true c cells p.0 in
    let r = in_order ws cells (c + 1) ls f.1 in
    record { many = λ l. let g : c + 1 + length ls ≡ cells = r.many (omega arith) in omega arith; each = each_on p.1 r.each }
  where
    each_on : orders_cell ws c m ≡ true → ((n : ℕ) (l : List Event) → slice_get ls n ≡ Some l → orders_cell ws (c + 1 + n) l ≡ true) → (n : ℕ) (l : List Event) → slice_get (m ∷ ls) n ≡ Some l → orders_cell ws (c + n) l ≡ true
    each_on t h zero l g =
        let z : c ≡ c + 0 = omega arith in subst (λ n. orders_cell ws n l ≡ true) z (subst (λ k. orders_cell ws c k ≡ true) (same_Some m l g) t)
    each_on t h (suc n) l g =
        let z : c + 1 + n ≡ c + suc n = omega arith in subst (λ k. orders_cell ws k l ≡ true) z (h n l g)

-- the first number that is out of order: those before it are cells with their orders; it has no list and is a cell, or has a list and is no cell or out of order
record FirstBadOrder (ws : List EventAction) (cells c : ℕ) (ls : List (List Event)) (d : ℕ) : Type 0 where
  place : ℕ
  number : d ≡ c + place
  cause : ((place ≡ length ls) × (d < cells)) ⊎ ((l : List Event) × (slice_get ls place ≡ Some l) × ((cells ≤ d) ⊎ (orders_cell ws d l ≡ false)))
  before : (n : ℕ) → n < place → (l : List Event) × (slice_get ls n ≡ Some l) × (c + n < cells) × (orders_cell ws (c + n) l ≡ true)

first_bad_order_on : (ws : List EventAction) (cells c : ℕ) (m : List Event) (ls : List (List Event)) (d : ℕ) → c < cells → orders_cell ws c m ≡ true → FirstBadOrder ws cells (c + 1) ls d → FirstBadOrder ws cells c (m ∷ ls) d
first_bad_order_on ws cells c m ls d l t r = record {
  place = suc r.place;
  number = omega (arith, r.number);
  cause = ⊎_elim (λ h. let p = h.0 in inl (omega arith, h.1)) (λ h. inr (h.0, h.1, h.2)) r.cause;
  before = before;
}
  where
    before : (n : ℕ) → n < suc r.place → (k : List Event) × (slice_get (m ∷ ls) n ≡ Some k) × (c + n < cells) × (orders_cell ws (c + n) k ≡ true)
    before zero b = let z : c ≡ c + 0 = omega arith in (m, refl, omega arith, subst (λ n. orders_cell ws n m ≡ true) z t)
    before (suc n) b =
        let q = r.before n (omega arith) in
        let z : c + 1 + n ≡ c + suc n = omega arith in
        let s : c + 1 + n < cells = q.2 in
        (q.0, q.1, omega arith, subst (λ k. orders_cell ws k q.0 ≡ true) z q.3)

first_bad_order : (ws : List EventAction) (cells c : ℕ) (ls : List (List Event)) (d : ℕ) → bad_order_from ws cells c ls ≡ Some d → FirstBadOrder ws cells c ls d
first_bad_order ws cells c [] d e =
    let r = missing (nat_lt c cells) e in
    record { place = 0; number = omega (arith, r.1); cause = inl (refl, (let b : c < cells = ltb-true c cells r.0 in omega (arith, r.1))); before = λ n b. absurd (omega arith) }
  where
    missing : (b : Bool) → cond b (Some c) None ≡ Some d → (b ≡ true) × (c ≡ d)
    missing true e = (refl, same_Some c d e)
    missing false e = absurd (none-some d e)
first_bad_order ws cells c (m ∷ ls) d e =
    ⊎_elim
    (λ h. let p = and_parts (nat_lt c cells) (orders_cell ws c m) h.0 in first_bad_order_on ws cells c m ls d (ltb-true c cells p.0) p.1 (first_bad_order ws cells (c + 1) ls d h.1))
    (λ h. record { place = 0; number = omega (arith, h.1); cause = inr (m, refl, ⊎_elim (λ b. let g : cells ≤ c = ltb-false c cells b in inl (omega (arith, h.1))) (λ b. inr (subst (λ n. orders_cell ws n m ≡ false) h.1 b)) (and_cases (nat_lt c cells) (orders_cell ws c m) h.0)); before = λ n b. absurd (omega arith) })
    (cond_either (nat_lt c cells && orders_cell ws c m) (bad_order_from ws cells (c + 1) ls) c d e)

-- ---- of an execution

pub orders_none : (s : Shape) (x : Execution) (ws : List EventAction) (cells : ℕ) → cells ≡ length s.initials → ListsActions x ws → bad_order_from ws cells 0 x.co ≡ None → (n : ℕ) → HasOrder s x n
orders_none s x ws cells i h e n =
    let r = in_order ws cells 0 x.co e in
    let many : 0 + length x.co ≡ cells = r.many (omega arith) in
    record {
      of_cell = λ b. (get_or x.co n [], slice_get-get_or x.co n [] (omega arith), (order_decides x ws h n (get_or x.co n [])).0 (let z : 0 + n ≡ n = omega arith in subst (λ k. orders_cell ws k (get_or x.co n []) ≡ true) z (r.each n (get_or x.co n []) (slice_get-get_or x.co n [] (omega arith)))));
      no_more = λ b. slice_get_past x.co n (omega arith);
    }

pub orders_some : (s : Shape) (x : Execution) (ws : List EventAction) (cells d : ℕ) → cells ≡ length s.initials → ListsActions x ws → bad_order_from ws cells 0 x.co ≡ Some d → FirstNumber (HasOrder s x) d
orders_some s x ws cells d i h e = record { broken = broken; before = before }
  where
    first : FirstBadOrder ws cells 0 x.co d
    first = first_bad_order ws cells 0 x.co d e

    number : d ≡ first.place
    number = omega (arith, first.number)

    broken : HasOrder s x d → ⊥
    broken o =
        ⊎_elim
        (λ g. let b : d < length s.initials = omega (arith, g.1) in let q = o.of_cell b in let w : d < length x.co = slice_get_within x.co d q.0 q.1 in omega (arith, g.0, number))
        (λ g. let there : slice_get x.co d ≡ Some g.0 = subst (λ n. slice_get x.co n ≡ Some g.0) (sym number) g.1 in ⊎_elim (λ b. none-some g.0 (sym (o.no_more (omega arith)) ∙ there)) (λ f. misordered g.0 there f (cases_lt d (length s.initials))) g.2)
        first.cause
      where
        misordered : (l : List Event) → slice_get x.co d ≡ Some l → orders_cell ws d l ≡ false → (d < length s.initials) ⊎ (length s.initials ≤ d) → ⊥
        misordered l g f c =
            ⊎_elim (λ b. let q = o.of_cell b in let same : q.0 ≡ l = same_Some q.0 l (sym q.1 ∙ g) in not_from_Decides (orders_cell ws d l) (order_decides x ws h d l) f (subst (IsWriteOrder x d) same q.2)) (λ b. none-some l (sym (o.no_more b) ∙ g)) c

    before : (n : ℕ) → n < d → HasOrder s x n
    before n b =
        let q = first.before n (omega (arith, number)) in
        let z : 0 + n ≡ n = omega arith in
        let less : 0 + n < cells = q.2 in
        record {
          of_cell = λ c. (q.0, q.1, (order_decides x ws h n q.0).0 (subst (λ k. orders_cell ws k q.0 ≡ true) z q.3));
          no_more = λ c. absurd (omega arith);
        }
