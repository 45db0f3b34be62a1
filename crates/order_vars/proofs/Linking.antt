-- What the clauses of one link say.
use Rattle.std.proofs.Common.{◌≡◌, ℕ, Bool, true, List, [], ◌∷◌, ◌++◌, length, sym, ◌∙◌, subst, arith}
use Rattle.std.specs.Prelude.{All}
use Rattle.std.proofs.lemmas.Option.{slice_get_within, get_or_from_slice_get}
use Rattle.std.proofs.lemmas.List.Elements.{All-get_or}
use Rattle.dg_base.specs.declared.Lit.{Lit}
use Rattle.cnf_problem.specs.Literals.{value, negated, AreSatisfied, IsOver}
use Rattle.memory_models.specs.declared.StaticEvent.{StaticEvent}
use Rattle.memory_models.specs.declared.StaticKind.TheVariants as kind
use Rattle.memory_models.specs.Events.{IsAt}
use Rattle.order_vars.specs.Links.{Link, reading, beginning, rivalry, joining, IsLink}
use Rattle.order_vars.specs.Atoms.{event_at}
use Rattle.order_vars.specs.Holding.{Happens, BothHappen, LinkHolds, word_at}
use Rattle.order_vars.specs.Clauses.{guard_at, both_clauses, same_clauses, link_clauses}
use Rattle.order_vars.specs.Orders.{AreEventsOver}
use Rattle.order_vars.proofs.Implying.{satisfied_parts, satisfied_both, satisfied_none, satisfied_first, satisfied_one, then_rest, from_rest, two_true, two_satisfied, both_say, both_hold, same_say, same_hold}

-- ---- an event happens where its guard is true

-- what stands at a place, also read with a default
pub at_event : (es : List StaticEvent) (n : ℕ) (e : StaticEvent) → IsAt es n e → event_at es n ≡ e
at_event es n e h = get_or_from_slice_get es n e (record { instance = 0; kind = kind.Full; cell = 0; guard = record { 0 = 3 }; block = n }) h

pub happens_from : (s : List Bool) (es : List StaticEvent) (n : ℕ) (e : StaticEvent) → IsAt es n e → value s (guard_at es n) ≡ true → Happens s es n
happens_from s es n e h v = (e, h, subst (λ (x : StaticEvent). value s x.guard ≡ true) (at_event es n e h) v)

pub happens_value : (s : List Bool) (es : List StaticEvent) (n : ℕ) → Happens s es n → value s (guard_at es n) ≡ true
happens_value s es n (e, h, v) = subst (λ (x : StaticEvent). value s x.guard ≡ true) (sym (at_event es n e h)) v

-- ---- the ends of a link

-- both events of a link are there
pub record AreThere (es : List StaticEvent) (a b : ℕ) : Type 0 where
  pub first : StaticEvent
  pub second : StaticEvent
  pub is_first : IsAt es a first
  pub is_second : IsAt es b second

pub both_from : (s : List Bool) (es : List StaticEvent) (a b : ℕ) → AreThere es a b → (value s (guard_at es a) ≡ true) × (value s (guard_at es b) ≡ true) → BothHappen s es a b
both_from s es a b there v = (happens_from s es a there.first there.is_first v.0, happens_from s es b there.second there.is_second v.1)

pub both_values : (s : List Bool) (es : List StaticEvent) (a b : ℕ) → BothHappen s es a b → (value s (guard_at es a) ≡ true) × (value s (guard_at es b) ≡ true)
both_values s es a b h = (happens_value s es a h.0, happens_value s es b h.1)

-- the words of two events that are there are equally long
pub same_length : (vars : ℕ) (es : List StaticEvent) (words : List (List Lit)) (a b : ℕ) → AreEventsOver vars es words → AreThere es a b → length (word_at words a) ≡ length (word_at words b)
same_length vars es words a b over there =
    let count = over.count in
    let x = slice_get_within es a there.first there.is_first in
    let y = slice_get_within es b there.second there.is_second in
    let one = All-get_or (λ (w : List Lit). (length w ≡ 32) × All (IsOver vars) w) words a [] (omega arith) over.each in
    let two = All-get_or (λ (w : List Lit). (length w ≡ 32) × All (IsOver vars) w) words b [] (omega arith) over.each in
    one.0 ∙ sym two.0

-- ---- the clauses say it

pub link_says : (vars : ℕ) (es : List StaticEvent) (words : List (List Lit)) (s : List Bool) (x : Link) → AreEventsOver vars es words → IsLink es x → AreSatisfied s (link_clauses es words x) → LinkHolds s es words x
link_says vars es words s (reading w r l) over is sat = λ e.
    let there : AreThere es w r = record { first = is.1.event; second = is.2.event; is_first = is.1.there; is_second = is.2.there } in
    let p = satisfied_parts s (both_clauses l (guard_at es w) (guard_at es r)) (same_clauses l (word_at words w) (word_at words r)) sat in
    (both_from s es w r there (both_say s l (guard_at es w) (guard_at es r) p.0 e), same_say s l (word_at words w) (word_at words r) (same_length vars es words w r over there) p.1 e)
link_says vars es words s (beginning i w l) over is sat = tt
link_says vars es words s (rivalry w v l back) over is sat =
    let there : AreThere es w v = record { first = is.1.event; second = is.2.event; is_first = is.1.there; is_second = is.2.there } in
    let a = guard_at es w in
    let b = guard_at es v in
    let p = satisfied_parts s (both_clauses l a b ++ both_clauses back a b) ((negated a ∷ negated b ∷ l ∷ back ∷ []) ∷ []) sat in
    let q = satisfied_parts s (both_clauses l a b) (both_clauses back a b) p.0 in
    let some = (satisfied_first s (negated a ∷ negated b ∷ l ∷ back ∷ []) [] p.1).0 in (
      (λ e. both_from s es w v there (both_say s l a b q.0 e)),
      (λ e. both_from s es w v there (both_say s back a b q.1 e)),
      (λ h. let v = both_values s es w v h in two_true s l back (then_rest s b (l ∷ back ∷ []) (then_rest s a (negated b ∷ l ∷ back ∷ []) some v.0) v.1)),
    )
link_says vars es words s (joining e j l) over is sat = λ t.
    let there : AreThere es e j = record { first = is.0.event; second = is.1.event; is_first = is.0.there; is_second = is.1.there } in
    let a = guard_at es e in
    let b = guard_at es j in
    let p = satisfied_parts s (both_clauses l a b ++ same_clauses l (word_at words e) (word_at words j)) ((negated l ∷ word_at words j) ∷ []) sat in
    let q = satisfied_parts s (both_clauses l a b) (same_clauses l (word_at words e) (word_at words j)) p.0 in
    let some = (satisfied_first s (negated l ∷ word_at words j) [] p.1).0 in (
      both_from s es e j there (both_say s l a b q.0 t),
      same_say s l (word_at words e) (word_at words j) (same_length vars es words e j over there) q.1 t,
      then_rest s l (word_at words j) some t,
    )

-- ---- and hold where it is so

pub link_held : (es : List StaticEvent) (words : List (List Lit)) (s : List Bool) (x : Link) → IsLink es x → LinkHolds s es words x → AreSatisfied s (link_clauses es words x)
link_held es words s (reading w r l) is holds =
    satisfied_both s (both_clauses l (guard_at es w) (guard_at es r)) (same_clauses l (word_at words w) (word_at words r))
    (both_hold s l (guard_at es w) (guard_at es r) (λ e. both_values s es w r (holds e).0))
    (same_hold s l (word_at words w) (word_at words r) (λ e. (holds e).1))
link_held es words s (beginning i w l) is holds = satisfied_none s
link_held es words s (rivalry w v l back) is holds =
    let there : AreThere es w v = record { first = is.1.event; second = is.2.event; is_first = is.1.there; is_second = is.2.there } in
    let a = guard_at es w in
    let b = guard_at es v in
    satisfied_both s (both_clauses l a b ++ both_clauses back a b) ((negated a ∷ negated b ∷ l ∷ back ∷ []) ∷ [])
    (satisfied_both s (both_clauses l a b) (both_clauses back a b)
    (both_hold s l a b (λ e. both_values s es w v (holds.0 e)))
    (both_hold s back a b (λ e. both_values s es w v (holds.1 e))))
    (satisfied_one s (negated a ∷ negated b ∷ l ∷ back ∷ []) (from_rest s a (negated b ∷ l ∷ back ∷ []) (λ x. from_rest s b (l ∷ back ∷ []) (λ y.
    two_satisfied s l back (holds.2 (both_from s es w v there (x, y)))))))
link_held es words s (joining e j l) is holds =
    let a = guard_at es e in
    let b = guard_at es j in
    satisfied_both s (both_clauses l a b ++ same_clauses l (word_at words e) (word_at words j)) ((negated l ∷ word_at words j) ∷ [])
    (satisfied_both s (both_clauses l a b) (same_clauses l (word_at words e) (word_at words j))
    (both_hold s l a b (λ t. both_values s es e j (holds t).0))
    (same_hold s l (word_at words e) (word_at words j) (λ t. (holds t).1)))
    (satisfied_one s (negated l ∷ word_at words j) (from_rest s l (word_at words j) (λ t. (holds t).2)))
