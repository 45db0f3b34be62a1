-- The truth values that make a choice.
use Rattle.std.proofs.Common.{◌≡◌, ℕ, ◌<◌, ◌⊎◌, inl, inr, Bool, true, List, [], ◌∷◌, ◌++◌, map, length, refl, ap, sym, ◌∙◌, subst, arith}
use Rattle.std.specs.Prelude.{Contains, All, ◌↔◌}
use Rattle.std.proofs.lemmas.List.Elements.{All-contains, All-get_or}
use Rattle.std.proofs.lemmas.Option.{slice_get_within}
use Rattle.dg_base.specs.declared.Lit.{Lit}
use Rattle.dg_base.proofs.Lists.{contains_head, contains_tail, contains_place, one_answer}
use Rattle.axiom_model.specs.declared.MemoryModel.{MemoryModel}
use Rattle.cnf_problem.specs.Literals.{value, IsOver}
use Rattle.cnf_problem.proofs.Assignments.{value-append}
use Rattle.cnf_problem.specs.declared.problem.Problem.{Problem}
use Rattle.memory_models.specs.declared.StaticEvent.{StaticEvent}
use Rattle.memory_models.specs.Events.{IsAt}
use Rattle.order_vars.specs.Links.{Link, reading, beginning, rivalry, joining, MayRead, MayBegin, AreRivals}
use Rattle.order_vars.specs.Atoms.{read_atom, order_atom}
use Rattle.order_vars.specs.Holding.{Happens, BothHappen, SameBits, HasTrueBit, LinkHolds, OrderHolds, word_at}
use Rattle.order_vars.specs.Orders.{AreEventsOver, Choice, Chosen}
use Rattle.encode_order.specs.Coherence.{IsBefore, OrdersEvents}
use Rattle.encode_order.specs.Sources.{MayComeFrom}
use Rattle.encode_order.specs.Choices.{IsFitting, IsChosenBefore, Makes}
use Rattle.encode_order.proofs.Before.{Ordering, begun, first, second, before_link, listed_atom}
use Rattle.encode_order.proofs.Reading.{read_link}

-- ---- more truth values change nothing older

event_over : (es : List StaticEvent) (words : List (List Lit)) (vars n : ℕ) (e : StaticEvent) → AreEventsOver vars es words → IsAt es n e → IsOver vars e.guard
event_over es words vars n e over at = All-contains (λ (x : StaticEvent). IsOver vars x.guard) es e over.guards (contains_place es n e at)

guard_kept : (es : List StaticEvent) (words : List (List Lit)) (s t : List Bool) (n : ℕ) (e : StaticEvent) → AreEventsOver (length s) es words → IsAt es n e → value (s ++ t) e.guard ≡ value s e.guard
guard_kept es words s t n e over at = value-append s t e.guard (event_over es words (length s) n e over at)

happens_more : (es : List StaticEvent) (words : List (List Lit)) (s t : List Bool) (n : ℕ) → AreEventsOver (length s) es words → Happens s es n → Happens (s ++ t) es n
happens_more es words s t n over (e, at, holds) = (e, at, guard_kept es words s t n e over at ∙ holds)

happens_less : (es : List StaticEvent) (words : List (List Lit)) (s t : List Bool) (n : ℕ) → AreEventsOver (length s) es words → Happens (s ++ t) es n → Happens s es n
happens_less es words s t n over (e, at, holds) = (e, at, sym (guard_kept es words s t n e over at) ∙ holds)

both_more : (es : List StaticEvent) (words : List (List Lit)) (s t : List Bool) (a b : ℕ) → AreEventsOver (length s) es words → BothHappen s es a b → BothHappen (s ++ t) es a b
both_more es words s t a b over both = (happens_more es words s t a over both.0, happens_more es words s t b over both.1)

values_kept : (s t : List Bool) (ls : List Lit) → ((l : Lit) → Contains ls l → IsOver (length s) l) → map (value (s ++ t)) ls ≡ map (value s) ls
values_kept s t [] over = refl
values_kept s t (l ∷ ls) over =
    ap (λ (b : Bool). b ∷ map (value (s ++ t)) ls) (value-append s t l (over l (contains_head l ls)))
    ∙ ap (λ (bs : List Bool). value s l ∷ bs) (values_kept s t ls (λ k h. over k (contains_tail l k ls h)))

-- the literals of an event's value
word_over : (es : List StaticEvent) (words : List (List Lit)) (vars n : ℕ) → AreEventsOver vars es words → n < length es → (l : Lit) → Contains (word_at words n) l → IsOver vars l
word_over es words vars n over within l h =
    let count = over.count in
    let word = All-get_or (λ (w : List Lit). (length w ≡ 32) × All (IsOver vars) w) words n [] (omega arith) over.each in
    All-contains (IsOver vars) (word_at words n) l word.1 h

word_kept : (es : List StaticEvent) (words : List (List Lit)) (s t : List Bool) (n : ℕ) → AreEventsOver (length s) es words → Happens s es n → map (value (s ++ t)) (word_at words n) ≡ map (value s) (word_at words n)
word_kept es words s t n over (e, at, holds) = values_kept s t (word_at words n) (word_over es words (length s) n over (slice_get_within es n e at))

bits_more : (es : List StaticEvent) (words : List (List Lit)) (s t : List Bool) (a b : ℕ) → AreEventsOver (length s) es words → BothHappen s es a b → SameBits s words a b → SameBits (s ++ t) words a b
bits_more es words s t a b over both same = word_kept es words s t a over both.0 ∙ same ∙ sym (word_kept es words s t b over both.1)

bit_more : (es : List StaticEvent) (words : List (List Lit)) (s t : List Bool) (n : ℕ) → AreEventsOver (length s) es words → Happens s es n → HasTrueBit s words n → HasTrueBit (s ++ t) words n
bit_more es words s t n over (e, at, holds) (l, listed, bit) =
    (l, listed, value-append s t l (word_over es words (length s) n over (slice_get_within es n e at) l listed) ∙ bit)

-- ---- the choice holds

either_more : {A B C D : Type 0} → (A → C) → (B → D) → A ⊎ B → C ⊎ D
either_more f g (inl a) = inl (f a)
either_more f g (inr b) = inr (g b)

module _ (m : MemoryModel) (es : List StaticEvent) (words : List (List Lit)) (p : Problem) (has : OrdersEvents m es words p) (s : List Bool) (c : Choice) (over : AreEventsOver (length s) es words)
    (fits : IsFitting es words s c) (made : Chosen has.new has.orders.links s c) where
  link_chosen : (x : Link) → Contains has.orders.links x → LinkHolds (s ++ made.more) es words x
  link_chosen (reading w r l) listed = λ true_lit.
      let chosen : value (s ++ made.more) l ≡ c.source w r = made.chosen (reading w r l) listed in
      let holds = fits.sources w r (has.orders.sound (reading w r l) listed).0 (sym chosen ∙ true_lit) in
      (both_more es words s made.more w r over holds.0, bits_more es words s made.more w r over holds.0 holds.1)
  link_chosen (beginning i w l) listed = tt
  link_chosen (rivalry w v l back) listed =
      let chosen = made.chosen (rivalry w v l back) listed in
      let orders = fits.orders w v (has.orders.sound (rivalry w v l back) listed).0 in (
        (λ true_lit. both_more es words s made.more w v over (orders.0 (inl (sym chosen.0 ∙ true_lit)))),
        (λ true_lit. both_more es words s made.more w v over (orders.0 (inr (sym chosen.1 ∙ true_lit)))),
        (λ both. either_more (λ before. chosen.0 ∙ before) (λ behind. chosen.1 ∙ behind)
            (orders.1 (happens_less es words s made.more w over both.0, happens_less es words s made.more v over both.1))),
      )
  link_chosen (joining n j l) listed = λ true_lit.
      let chosen : value (s ++ made.more) l ≡ c.waits n j = made.chosen (joining n j l) listed in
      let holds = fits.ends n j (has.orders.sound (joining n j l) listed).0 (sym chosen ∙ true_lit) in
      (both_more es words s made.more n j over holds.0, bits_more es words s made.more n j over holds.0 holds.1, bit_more es words s made.more j over holds.0.1 holds.2)

  order_chosen : OrderHolds es words has.orders.links (s ++ made.more)
  order_chosen = record {
    each = link_chosen;
    some_source = λ r e at reads guard.
        let source = fits.some_source r e at reads (sym (guard_kept es words s made.more r e over at) ∙ guard) in
        let link = has.orders.complete.reads source.0 r source.1 in
        (source.0, link.0, link.1, made.chosen (reading source.0 r link.0) link.1 ∙ source.2);
    some_end = λ j e at joins guard.
        let end = fits.some_end j e at joins (sym (guard_kept es words s made.more j e over at) ∙ guard) in
        let link = has.orders.complete.joins end.0 j end.1 in
        (end.0, link.0, link.1, made.chosen (joining end.0 j link.0) link.1 ∙ end.2);
  }

  -- a true atom of a source is a chosen one
  read_chosen : (w r : ℕ) → MayComeFrom p.atoms (s ++ made.more) w r ↔ (MayRead es w r × (c.source w r ≡ true))
  read_chosen w r = (
    (λ h.
        let by = read_link m es words p (s ++ made.more) has w r h in
        let chosen : value (s ++ made.more) h.atom.lit ≡ c.source w r = made.chosen (reading w r h.atom.lit) by.listed in
        ((has.orders.sound (reading w r h.atom.lit) by.listed).0, sym chosen ∙ h.holds)),
    (λ h.
        let link = has.orders.complete.reads w r h.0 in
        record {
          atom = read_atom m es link.0 w r;
          listed = listed_atom m es words p has (reading w r link.0) (read_atom m es link.0 w r) link.1 (contains_head (read_atom m es link.0 w r) []);
          same_kind = refl;
          holds = made.chosen (reading w r link.0) link.1 ∙ h.1;
        }),
  )

  -- a true order atom is a chosen one
  order_said : (w v : ℕ) (h : IsBefore p.atoms (s ++ made.more) w v) → Ordering has.orders.links h.atom.lit w v → IsChosenBefore es s c w v
  order_said w v h (begun listed) =
      let is = (has.orders.sound (beginning w v h.atom.lit) listed).0 in
      let guard = is.1 in
      inl (is.0, happens_less es words s made.more v over (guard.0, guard.1, sym (ap (value (s ++ made.more)) guard.2) ∙ h.holds))
  order_said w v h (first back listed) =
      let chosen = made.chosen (rivalry w v h.atom.lit back) listed in
      inr (inl (has.orders.sound (rivalry w v h.atom.lit back) listed).0, sym chosen.0 ∙ h.holds)
  order_said w v h (second front listed) =
      let chosen = made.chosen (rivalry v w front h.atom.lit) listed in
      inr (inr (has.orders.sound (rivalry v w front h.atom.lit) listed).0, sym chosen.1 ∙ h.holds)

  begin_made : (w v : ℕ) → MayBegin es w v → Happens s es v → IsBefore p.atoms (s ++ made.more) w v
  begin_made w v may happens =
      let link = has.orders.complete.begins w v may in
      let guard = (has.orders.sound (beginning w v link.0) link.1).0.1 in
      let more = happens_more es words s made.more v over happens in
      let same : guard.0 ≡ more.0 = one_answer _ guard.0 more.0 guard.1 more.1 in
      record {
        atom = order_atom es link.0 w v;
        listed = listed_atom m es words p has (beginning w v link.0) (order_atom es link.0 w v) link.1 (contains_head (order_atom es link.0 w v) []);
        same_kind = refl;
        holds = ap (value (s ++ made.more)) guard.2 ∙ ap (λ (e : StaticEvent). value (s ++ made.more) e.guard) same ∙ more.2;
      }

  rivals_made : (w v : ℕ) → AreRivals es w v → c.before w v ≡ true → IsBefore p.atoms (s ++ made.more) w v
  rivals_made w v rivals before =
      let link = has.orders.complete.rivals w v rivals in
      record {
        atom = order_atom es link.0 w v;
        listed = listed_atom m es words p has (rivalry w v link.0 link.1) (order_atom es link.0 w v) link.2 (contains_head (order_atom es link.0 w v) (order_atom es link.1 v w ∷ []));
        same_kind = refl;
        holds = (made.chosen (rivalry w v link.0 link.1) link.2).0 ∙ before;
      }

  rivals_turned : (w v : ℕ) → AreRivals es v w → c.before w v ≡ true → IsBefore p.atoms (s ++ made.more) w v
  rivals_turned w v rivals before =
      let link = has.orders.complete.rivals v w rivals in
      record {
        atom = order_atom es link.1 w v;
        listed = listed_atom m es words p has (rivalry v w link.0 link.1) (order_atom es link.1 w v) link.2
            (contains_tail (order_atom es link.0 v w) (order_atom es link.1 w v) (order_atom es link.1 w v ∷ []) (contains_head (order_atom es link.1 w v) []));
        same_kind = refl;
        holds = (made.chosen (rivalry v w link.0 link.1) link.2).1 ∙ before;
      }

  before_made : (w v : ℕ) → IsChosenBefore es s c w v → IsBefore p.atoms (s ++ made.more) w v
  before_made w v (inl begins) = begin_made w v begins.0 begins.1
  before_made w v (inr rivals) = elim rivals.0 [
    | inl straight ↦ rivals_made w v straight rivals.1
    | inr turned ↦ rivals_turned w v turned rivals.1
  ]

pub choice_made : (m : MemoryModel) (es : List StaticEvent) (words : List (List Lit)) (p : Problem) (has : OrdersEvents m es words p) (s : List Bool) (c : Choice)
    → AreEventsOver has.old.vars es words → length s ≡ has.old.vars → IsFitting es words s c → Makes m es words p has s c
choice_made m es words p has s c over_old long fits =
    let over : AreEventsOver (length s) es words = subst (λ (n : ℕ). AreEventsOver n es words) (sym long) over_old in
    let made = has.orders.free s c long in
    record {
      more = made.more;
      values = made.values;
      clauses = (has.orders.exact (s ++ made.more)).1 (order_chosen m es words p has s c over fits made);
      reads = read_chosen m es words p has s c over fits made;
      orders = λ w v. (
        (λ h. order_said m es words p has s c over fits made w v h (before_link m es words p (s ++ made.more) has w v h)),
        before_made m es words p has s c over fits made w v,
      );
      joins = λ n j l listed. made.chosen (joining n j l) listed;
    }
