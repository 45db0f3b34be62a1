-- The guards and words of events, by their places.
use Rattle.std.proofs.Common.{◌≡◌, ℕ, ◌<◌, ◌≤◌, List, [], length, map, get_or, ap, sym, subst, arith}
use Rattle.std.specs.Prelude.{All}
use Rattle.std.proofs.lemmas.List.{get_or-map, get_or_default, length-map}
use Rattle.std.proofs.lemmas.List.Elements.{All-get_or, All-weaker}
use Rattle.dg_base.specs.declared.Lit.{Lit}
use Rattle.cnf_problem.specs.Literals.{IsOver}
use Rattle.cnf_problem.proofs.Assignments.{over_more}
use Rattle.memory_models.specs.declared.StaticEvent.{StaticEvent}
use Rattle.memory_models.specs.declared.StaticKind.TheVariants as kind
use Rattle.memory_models.specs.declared.EventBits.{EventBits}
use Rattle.order_vars.specs.Holding.{word_at}
use Rattle.order_vars.specs.Clauses.{guard_at}
use Rattle.order_vars.specs.Orders.{AreEventsOver}

-- the events' literals are over more variables too
pub events_more : (n m : ℕ) (es : List StaticEvent) (words : List (List Lit)) → n ≤ m → AreEventsOver n es words → AreEventsOver m es words
events_more n m es words h over = record {
  guards = All-weaker (λ (e : StaticEvent). IsOver n e.guard) (λ (e : StaticEvent). IsOver m e.guard) (λ e o. over_more n m e.guard h o) es over.guards;
  count = over.count;
  each = All-weaker (λ (w : List Lit). (length w ≡ 32) × All (IsOver n) w) (λ (w : List Lit). (length w ≡ 32) × All (IsOver m) w)
      (λ w o. (o.0, All-weaker (IsOver n) (IsOver m) (λ l k. over_more n m l h k) w o.1)) words over.each;
}

-- the words of values
abbrev pub words_of : List EventBits → List (List Lit)
words_of values = map (λ v. v.bits) values

-- a guard, also read with another default
pub guard_read : (es : List StaticEvent) (k : ℕ) (d : StaticEvent) → k < length es → (get_or es k d).guard ≡ guard_at es k
guard_read es k d h = ap (λ (e : StaticEvent). e.guard) (get_or_default es k d (record { instance = 0; kind = kind.Full; cell = 0; guard = record { 0 = 3 }; block = k }) h)

pub guard_over : (n : ℕ) (es : List StaticEvent) (words : List (List Lit)) (k : ℕ) (d : StaticEvent) → AreEventsOver n es words → k < length es → IsOver n (get_or es k d).guard
guard_over n es words k d over h = All-get_or (λ (e : StaticEvent). IsOver n e.guard) es k d h over.guards

-- each event has a value
pub has_value : (n : ℕ) (es : List StaticEvent) (values : List EventBits) (k : ℕ) → AreEventsOver n es (words_of values) → k < length es → k < length values
has_value n es values k over h = let a = over.count in let b = length-map values (λ (v : EventBits). v.bits) in omega arith

-- the bits of a value are its word
pub word_read : (n : ℕ) (es : List StaticEvent) (values : List EventBits) (k : ℕ) (d : EventBits) → AreEventsOver n es (words_of values) → k < length es → (get_or values k d).bits ≡ word_at (words_of values) k
word_read n es values k d over h = sym (get_or-map (λ (v : EventBits). v.bits) values k d [] (has_value n es values k over h))

pub word_over : (n : ℕ) (es : List StaticEvent) (values : List EventBits) (k : ℕ) (d : EventBits) → AreEventsOver n es (words_of values) → k < length es → All (IsOver n) (get_or values k d).bits
word_over n es values k d over h =
    let count = over.count in
    subst (λ w. All (IsOver n) w) (sym (word_read n es values k d over h))
    (All-get_or (λ (w : List Lit). (length w ≡ 32) × All (IsOver n) w) (words_of values) k [] (omega arith) over.each).1
