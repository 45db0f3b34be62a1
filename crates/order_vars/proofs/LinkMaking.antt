-- Links as they are made: fresh variables, and then their clauses, group by group.
use Rattle.std.proofs.Common.{◌≡◌, ℕ, ◌+◌, ◌<◌, ◌≤◌, List, [], ◌∷◌, ◌++◌, length, get_or, ap, ◌∙◌, sym, subst, arith}
use Rattle.std.proofs.lemmas.List.{append_assoc, append-nil}
use Rattle.std.specs.Prelude.{All}
use Rattle.dg_base.specs.declared.Lit.{Lit}
use Rattle.cnf_problem.specs.declared.problem.Atom.{Atom}
use Rattle.cnf_problem.specs.Literals.{positive, negated, IsOver}
use Rattle.cnf_problem.specs.Formulas.{Formula, AddsFree}
use Rattle.memory_models.specs.declared.StaticEvent.{StaticEvent}
use Rattle.memory_models.specs.declared.EventBits.{EventBits}
use Rattle.order_vars.specs.Links.{reading, beginning, rivalry, joining, MayRead, MayBegin, AreRivals, MayJoin, IsGuardOf}
use Rattle.order_vars.specs.Clauses.{with_clauses, both_clauses, same_clauses, link_clauses}
use Rattle.order_vars.specs.Orders.{AreEventsOver, IsChosen}
use Rattle.order_vars.specs.Growing.{AddsLink}
use Rattle.order_vars.proofs.Growth.{one_listed}
use Rattle.order_vars.proofs.Adding.{adds_reading, adds_rivalry, adds_joining}
use Rattle.order_vars.proofs.EventWords.{events_more, words_of, guard_read, word_read, word_over}

-- two groups of clauses, one after the other
two_groups : (f g h : Formula) (p q : List (List Lit)) → g ≡ with_clauses f p → h ≡ with_clauses g q → h ≡ with_clauses f (p ++ q)
two_groups f g h p q first second =
    second ∙ ap (λ (x : Formula). with_clauses x q) first ∙ ap (λ cs. let x : Formula = record { vars = f.vars; clauses = cs } in x) (append_assoc f.clauses p q)

pub grows_once : (f g i : Formula) (p : List (List Lit)) → AddsFree f g → i ≡ with_clauses g p → f.vars ≤ i.vars
grows_once f g i p free first = let a = free.vars in let b = ap (λ (x : Formula). x.vars) first in omega arith

pub grows_twice : (f g i k : Formula) (p q : List (List Lit)) → AddsFree f g → i ≡ with_clauses g p → k ≡ with_clauses i q → f.vars ≤ k.vars
grows_twice f g i k p q free first second = let a = grows_once f g i p free first in let b = ap (λ (x : Formula). x.vars) second in omega arith

-- the bits of an event's value are over more variables too
pub bits_later : (n m : ℕ) (es : List StaticEvent) (values : List EventBits) (k : ℕ) (d : EventBits) → n ≤ m → AreEventsOver n es (words_of values) → k < length es → All (IsOver m) (get_or values k d).bits
bits_later n m es values k d low over h = word_over m es values k d (events_more n m es (words_of values) low over) h

-- two atoms, one after the other
pub two_atoms : (a b c : List Atom) (x y u v : Atom) → x ≡ u → y ≡ v → b ≡ a ++ x ∷ [] → c ≡ b ++ y ∷ [] → c ≡ a ++ u ∷ v ∷ []
two_atoms a b c x y u v ex ey first second = second ∙ ap (λ z. z ++ y ∷ []) first ∙ append_assoc a (x ∷ []) (y ∷ []) ∙ ap (λ z. a ++ z ∷ y ∷ []) ex ∙ ap (λ z. a ++ u ∷ z ∷ []) ey

pub source_added : (es : List StaticEvent) (values : List EventBits) (f g i h : Formula) (w r : ℕ) (d : StaticEvent) (v : EventBits) (l : Lit)
    → AreEventsOver f.vars es (words_of values) → w < length es → r < length es → MayRead es w r → l ≡ positive (f.vars + 1) → AddsFree f g
    → i ≡ with_clauses g (both_clauses l (get_or es w d).guard (get_or es r d).guard)
    → h ≡ with_clauses i (same_clauses l (get_or values w v).bits (get_or values r v).bits)
    → AddsLink es (words_of values) f h (reading w r l)
source_added es values f g i h w r d v l over inw inr may e free both same =
    let a = guard_read es w d inw in
    let b = guard_read es r d inr in
    let x = word_read f.vars es values w v over inw in
    let y = word_read f.vars es values r v over inr in
    let p = both_clauses l (get_or es w d).guard (get_or es r d).guard in
    let q = same_clauses l (get_or values w v).bits (get_or values r v).bits in
    let made = two_groups g i h p q both same in
    let clauses : p ++ q ≡ link_clauses es (words_of values) (reading w r l) = cc in
    adds_reading es (words_of values) f g h w r l may e free (ap (λ (z : Formula). z.vars) made) (ap (λ (z : Formula). z.clauses) made ∙ ap (λ cs. g.clauses ++ cs) clauses)

pub end_added : (es : List StaticEvent) (values : List EventBits) (f g i k h : Formula) (n j : ℕ) (d : StaticEvent) (v : EventBits) (l : Lit)
    → AreEventsOver f.vars es (words_of values) → n < length es → j < length es → MayJoin es n j → l ≡ positive (f.vars + 1) → AddsFree f g
    → i ≡ with_clauses g (both_clauses l (get_or es n d).guard (get_or es j d).guard)
    → k ≡ with_clauses i (same_clauses l (get_or values n v).bits (get_or values j v).bits)
    → h ≡ with_clauses k ((negated l ∷ (get_or values j v).bits) ∷ [])
    → AddsLink es (words_of values) f h (joining n j l)
end_added es values f g i k h n j d v l over inn inj may e free both same some =
    let a = guard_read es n d inn in
    let b = guard_read es j d inj in
    let x = word_read f.vars es values n v over inn in
    let y = word_read f.vars es values j v over inj in
    let p = both_clauses l (get_or es n d).guard (get_or es j d).guard in
    let q = same_clauses l (get_or values n v).bits (get_or values j v).bits in
    let o = (negated l ∷ (get_or values j v).bits) ∷ [] in
    let made = two_groups g k h (p ++ q) o (two_groups g i k p q both same) some in
    let clauses : (p ++ q) ++ o ≡ link_clauses es (words_of values) (joining n j l) = cc in
    adds_joining es (words_of values) f g h n j l may e free (ap (λ (z : Formula). z.vars) made) (ap (λ (z : Formula). z.clauses) made ∙ ap (λ cs. g.clauses ++ cs) clauses)

pub rivals_added : (es : List StaticEvent) (words : List (List Lit)) (f g u i k h : Formula) (w v : ℕ) (d : StaticEvent) (l back : Lit)
    → w < length es → v < length es → AreRivals es w v → l ≡ positive (f.vars + 1) → AddsFree f g → back ≡ positive (g.vars + 1) → AddsFree g u
    → i ≡ with_clauses u (both_clauses l (get_or es w d).guard (get_or es v d).guard)
    → k ≡ with_clauses i (both_clauses back (get_or es w d).guard (get_or es v d).guard)
    → h ≡ with_clauses k ((negated (get_or es w d).guard ∷ negated (get_or es v d).guard ∷ l ∷ back ∷ []) ∷ [])
    → AddsLink es words f h (rivalry w v l back)
rivals_added es words f g u i k h w v d l back inw inv may e free e2 free2 both both2 some =
    let a = guard_read es w d inw in
    let b = guard_read es v d inv in
    let p = both_clauses l (get_or es w d).guard (get_or es v d).guard in
    let q = both_clauses back (get_or es w d).guard (get_or es v d).guard in
    let o = (negated (get_or es w d).guard ∷ negated (get_or es v d).guard ∷ l ∷ back ∷ []) ∷ [] in
    let made = two_groups u k h (p ++ q) o (two_groups u i k p q both both2) some in
    let clauses : (p ++ q) ++ o ≡ link_clauses es words (rivalry w v l back) = cc in
    adds_rivalry es words f g u h w v l back may e free e2 free2 (ap (λ (z : Formula). z.vars) made) (ap (λ (z : Formula). z.clauses) made ∙ ap (λ cs. u.clauses ++ cs) clauses)

-- a write behind the initial one: no variable and no clause
pub begin_added : (es : List StaticEvent) (words : List (List Lit)) (f : Formula) (i w : ℕ) (l : Lit) → MayBegin es i w → IsGuardOf es w l → IsOver f.vars l → AddsLink es words f f (beginning i w l)
begin_added es words f i w l may guard over = record {
  is = (may, guard);
  over = over;
  grows = omega arith;
  clauses = sym (append-nil f.clauses);
  free = λ s c long. record {
    more = [];
    values = ap length (append-nil s) ∙ long;
    chosen = λ x listed. subst (λ z. IsChosen (s ++ []) c z) (sym (one_listed (beginning i w l) x listed)) tt;
  };
}
