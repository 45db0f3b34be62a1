-- A cell's line, as far as a walk has come.
use Rattle.std.proofs.Common.{◌≡◌, ℕ, ◌+◌, ◌<◌, ⊎_elim, List, [], ◌∷◌, ◌++◌, Bool, true, false, nat_eq, Some, length, get_or, refl, ap, sym, ◌∙◌, subst, arith}
use Rattle.std.specs.Prelude.{slice_get, ◌&&◌}
use Rattle.std.proofs.lemmas.Bool.{cases_lt, eq-eqb, eqb-true}
use Rattle.std.proofs.lemmas.Option.{same_Some, slice_get_within, slice_get-get_or}
use Rattle.dg_base.proofs.Lists.{get_there, one_answer, get_push_cases}
use Rattle.axiom_model.specs.declared.Event.{Event}
use Rattle.cnf_problem.specs.Literals.{value}
use Rattle.memory_models.specs.declared.StaticEvent.{StaticEvent}
use Rattle.memory_models.specs.Events.{IsAt}
use Rattle.order_vars.specs.Links.{is_write}
use Rattle.encode_order.specs.Coherence.{WritesCell}
use Rattle.decode.specs.Relations.{is_cell_write, IsAdded, AreApart, IsLineOf}

pub line_more : (s : List Bool) (es : List StaticEvent) (places : List Event) (ranks : List ℕ) (c n : ℕ) (e : StaticEvent) (rank : ℕ) (place : Event) (line next : List Event)
    → length places ≡ length es → AreApart s es ranks c → IsAt es n e → slice_get ranks n ≡ Some rank → slice_get places n ≡ Some place
    → IsAdded (is_cell_write s c e) rank place line next → IsLineOf s es places ranks c n line → IsLineOf s es places ranks c (n + 1) next
line_more s es places ranks c n e rank place line next long apart there at_rank at_place added l = record {
  placed = placed;
  short = λ m all. added.short m (l.short m all) (λ t. all n rank (writes t) at_rank);
}
  where
    writes : is_cell_write s c e ≡ true → WritesCell es s c n
    writes t = record {
      event = e;
      there = there;
      happens = (parts t).2;
      writes = (parts t).0;
      same_cell = eqb-true e.cell c (parts t).1;
    }
      where
        three : (a b d : Bool) → ((a && b) && d) ≡ true → (a ≡ true) × (b ≡ true) × (d ≡ true)
        three true true true h = (refl, refl, refl)
        three true true false h = absurd (cc)
        three true false d h = absurd (cc)
        three false b d h = absurd (cc)

        parts : is_cell_write s c e ≡ true → (is_write e.kind ≡ true) × (nat_eq e.cell c ≡ true) × (value s e.guard ≡ true)
        parts h = three (is_write e.kind) (nat_eq e.cell c) (value s e.guard) h

    is_one : WritesCell es s c n → is_cell_write s c e ≡ true
    is_one w =
        let same : w.event ≡ e = one_answer (slice_get es n) w.event e w.there there in
        let cell : w.event.cell ≡ c = w.same_cell in
        ap (λ (z : StaticEvent). is_cell_write s c z) (sym same)
        ∙ (ap (λ (b : Bool). (b && nat_eq w.event.cell c) && value s w.event.guard) w.writes
        ∙ (ap (λ (b : Bool). (true && b) && value s w.event.guard) (eq-eqb w.event.cell c cell) ∙ ap (λ (b : Bool). (true && true) && b) w.happens))

    placed : (w k : ℕ) → w < n + 1 → WritesCell es s c w → slice_get ranks w ≡ Some k → slice_get next k ≡ slice_get places w
    placed w k h is r =
        ⊎_elim
        (λ before.
        let pl = get_there places w (let far = slice_get_within es w is.event is.there in omega (arith, far, long)) in
        let here = l.placed w k before is r ∙ pl.1 in
        let kept = added.kept k (λ t e. let same : w ≡ n = apart w n k is (writes t) r (at_rank ∙ ap (λ (j : ℕ). Some j) (sym e)) in absurd (omega (arith, same, before))) (slice_get_within line k pl.0 here) in
        kept ∙ l.placed w k before is r)
        (λ behind.
        let same : w ≡ n = omega (arith, h, behind) in
        let one = is_one (subst (λ (j : ℕ). WritesCell es s c j) same is) in
        let number : rank ≡ k = same_Some rank k (sym at_rank ∙ (ap (λ (j : ℕ). slice_get ranks j) (sym same) ∙ r)) in
        ap (λ (j : ℕ). slice_get next j) (sym number) ∙ (added.there one ∙ (sym at_place ∙ ap (λ (j : ℕ). slice_get places j) (sym same))))
        (cases_lt w n)

-- the same at what a walk reads
pub line_step : (s : List Bool) (es : List StaticEvent) (places : List Event) (ranks : List ℕ) (c n : ℕ) (d : StaticEvent) (f : Event) (line next : List Event)
    → n < length es → length places ≡ length es → length ranks ≡ length es → AreApart s es ranks c
    → IsAdded (is_cell_write s c (get_or es n d)) (get_or ranks n 0) (get_or places n f) line next → IsLineOf s es places ranks c n line → IsLineOf s es places ranks c (n + 1) next
line_step s es places ranks c n d f line next low long ranked apart added l =
    line_more s es places ranks c n (get_or es n d) (get_or ranks n 0) (get_or places n f) line next long apart (slice_get-get_or es n d low)
    (slice_get-get_or ranks n 0 (omega (arith, low, ranked))) (slice_get-get_or places n f (omega (arith, low, long))) added l

-- one more line
pub lines_push : (s : List Bool) (es : List StaticEvent) (places : List Event) (ranks : List ℕ) (n : ℕ) (lines : List (List Event)) (y : List Event) → length lines ≡ n
    → ((c : ℕ) (line : List Event) → slice_get lines c ≡ Some line → IsLineOf s es places ranks c (length es) line) → IsLineOf s es places ranks n (length es) y
    → (c : ℕ) (line : List Event) → slice_get (lines ++ y ∷ []) c ≡ Some line → IsLineOf s es places ranks c (length es) line
lines_push s es places ranks n lines y long each last c line h =
    ⊎_elim
    (λ q. each c line q)
    (λ q.
    let here : n ≡ c = sym long ∙ sym q.0 in
    subst (λ (l : List Event). IsLineOf s es places ranks c (length es) l) (sym q.1) (subst (λ (k : ℕ). IsLineOf s es places ranks k (length es) y) here last))
    (get_push_cases lines y c line h)
