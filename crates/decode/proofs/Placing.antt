-- The events of nodes, as far as a walk has come.
use Rattle.std.proofs.Common.{◌≡◌, ℕ, zero, suc, ◌+◌, ◌<◌, ◌≤◌, ⊎_elim, List, [], ◌∷◌, ◌++◌, Bool, true, false, cond, nat_eq, Option, Some, None, length, get_or, set, unwrap_or, refl, ap, sym, ◌∙◌, add-one, arith}
use Rattle.std.specs.Prelude.{slice_get, ◌&&◌, not}
use Rattle.std.proofs.lemmas.Bool.{cases_lt}
use Rattle.std.proofs.lemmas.List.{length-append, length-set}
use Rattle.std.proofs.lemmas.Option.{same_Some, get_or_from_slice_get, slice_get-get_or, slice_get_within}
use Rattle.dg_base.specs.Values.{truth_of}
use Rattle.bit_gates.proofs.Numbers.{truth_below}
use Rattle.dg_base.proofs.Lists.{get_append_front, get_push_last}
use Rattle.axiom_model.specs.declared.Event.{Event}
use Rattle.axiom_model.specs.declared.Event.TheVariants.{Initial, At}
use Rattle.cnf_problem.specs.Literals.{value}
use Rattle.memory_models.specs.declared.StaticEvent.{StaticEvent}
use Rattle.memory_models.specs.declared.StaticKind.{StaticKind}
use Rattle.memory_models.specs.declared.StaticKind.TheVariants as kind
use Rattle.memory_models.specs.Events.{IsAt, IsOfThread}
use Rattle.event_graph.specs.Laws.{count_before, earlier, happens_in, is_initial}
use Rattle.event_graph.proofs.Counting.{count_up}
use Rattle.decode.specs.Tables.{acts, place_by, indices_behind, AreNumbered, ArePlaces}
use Rattle.decode.proofs.Bumping.{bump}

-- the event of a node, by the handles of the instances
abbrev pub event_with : List Bool → List StaticEvent → List (Option ℕ) → ℕ → StaticEvent → Event
event_with s es hs n e = cond (acts s e) (At (unwrap_or (get_or hs e.instance None) 0) (earlier s e.instance n es)) Initial

-- the events of the first n nodes
pub record ArePlaced (s : List Bool) (es : List StaticEvent) (hs : List (Option ℕ)) (n : ℕ) (places : List Event) : Type 0 where
  pub counted : length places ≡ n
  pub each : (m : ℕ) (e : StaticEvent) → m < n → IsAt es m e → slice_get places m ≡ Some (event_with s es hs m e)

pub placed_more : (s : List Bool) (es : List StaticEvent) (hs : List (Option ℕ)) (n : ℕ) (places : List Event) (e : StaticEvent) (place : Event)
    → IsAt es n e → place ≡ event_with s es hs n e → ArePlaced s es hs n places → ArePlaced s es hs (n + 1) (places ++ place ∷ [])
placed_more s es hs n places e place there is p = record {
  counted = let long = length-append places (place ∷ []) in let so = p.counted in omega (arith, long, so);
  each = each;
}
  where
    each : (m : ℕ) (f : StaticEvent) → m < n + 1 → IsAt es m f → slice_get (places ++ place ∷ []) m ≡ Some (event_with s es hs m f)
    each m f h at =
        let long = p.counted in
        ⊎_elim
        (λ q. get_append_front places (place ∷ []) m (omega (arith, q, long)) ∙ p.each m f q at)
        (λ q.
        let same : m ≡ length places = omega (arith, h, q, long) in
        let here : m ≡ n = omega (arith, same, long) in
        let eq : e ≡ f = same_Some e f (sym there ∙ ap (λ (k : ℕ). slice_get es k) (sym here) ∙ at) in
        ap (λ (k : ℕ). slice_get (places ++ place ∷ []) k) same
        ∙ get_push_last places place
        ∙ ap (λ (z : Event). Some z) (is ∙ ap (λ (k : ℕ). event_with s es hs k e) (sym here) ∙ ap (event_with s es hs m) eq))
        (cases_lt m n)

-- ---- counts

swap : (a b c : Bool) → ((not a && b) && c) ≡ (b && (not a && c))
swap true true true = refl
swap true true false = refl
swap true false true = refl
swap true false false = refl
swap false true true = refl
swap false true false = refl
swap false false true = refl
swap false false false = refl

pub counts_more : (s : List Bool) (es : List StaticEvent) (counts : List ℕ) (n i : ℕ) (e : StaticEvent)
    → IsAt es n e → i < length counts → get_or counts i 0 ≡ earlier s i n es → get_or (indices_behind s e counts) i 0 ≡ earlier s i (n + 1) es
counts_more s es counts n i e there low so =
    bump counts e.instance i low (acts s e) ∙ (ap (λ (b : Bool). get_or counts i 0 + truth_of b) (sym (swap (is_initial e.kind) (nat_eq e.instance i) (value s e.guard)))
    ∙ (ap (λ (k : ℕ). k + truth_of (happens_in s i e)) so ∙ (sym (count_up (happens_in s i) n es e there) ∙ ap (λ (k : ℕ). earlier s i k es) (sym (add-one n)))))

length_behind : (s : List Bool) (e : StaticEvent) (counts : List ℕ) → length (indices_behind s e counts) ≡ length counts
length_behind s e counts = by (acts s e)
  where
    by : (b : Bool) → length (cond b (set counts e.instance (get_or counts e.instance 0 + 1)) counts) ≡ length counts
    by true = length-set counts e.instance (get_or counts e.instance 0 + 1)
    by false = refl

count_few : {X : Type 0} (p : X → Bool) (n : ℕ) (xs : List X) → count_before p n xs ≤ n
count_few p zero xs = omega arith
count_few p (suc n) [] = omega arith
count_few p (suc n) (x ∷ xs) = let one = truth_below (p x) in let rest = count_few p n xs in omega (arith, one, rest)

pub earlier_few : (s : List Bool) (i n : ℕ) (es : List StaticEvent) → earlier s i n es ≤ n
earlier_few s i n es = count_few (happens_in s i) n es

-- ---- what a walk reads

not_true : (a b : Bool) → (not a && b) ≡ true → (a ≡ false) × (b ≡ true)
not_true false true h = (refl, refl)
not_true false false h = absurd (cc)
not_true true b h = absurd (cc)

acts_thread : (s : List Bool) (es : List StaticEvent) (n : ℕ) (e : StaticEvent) → IsAt es n e → acts s e ≡ true → IsOfThread es n e × (value s e.guard ≡ true)
acts_thread s es n e at h =
    let q = not_true (is_initial e.kind) (value s e.guard) h in
    (record { there = at; acts = λ k. let first : is_initial e.kind ≡ true = ap is_initial k in let second = q.0 in absurd (cc) }, q.1)

place_is : (s : List Bool) (es : List StaticEvent) (hs : List (Option ℕ)) (n : ℕ) (e : StaticEvent) (counts : List ℕ) → IsAt es n e → AreNumbered s es (length hs)
    → ((i : ℕ) → i < length hs → get_or counts i 0 ≡ earlier s i n es) → place_by s e hs counts ≡ event_with s es hs n e
place_is s es hs n e counts at numbered so = by (acts s e) refl
  where
    by : (b : Bool) → acts s e ≡ b
        → cond b (At (unwrap_or (get_or hs e.instance None) 0) (get_or counts e.instance 0)) Initial ≡ cond b (At (unwrap_or (get_or hs e.instance None) 0) (earlier s e.instance n es)) Initial
    by true h =
        let q = acts_thread s es n e at h in
        ap (λ (k : ℕ). At (unwrap_or (get_or hs e.instance None) 0) k) (so e.instance (numbered n e q.0 q.1))
    by false h = refl

pub place_step : (s : List Bool) (es : List StaticEvent) (hs : List (Option ℕ)) (n : ℕ) (d : StaticEvent) (counts : List ℕ) (places : List Event) (place : Event)
    → n < length es → AreNumbered s es (length hs) → ((i : ℕ) → i < length hs → get_or counts i 0 ≡ earlier s i n es)
    → place ≡ place_by s (get_or es n d) hs counts → ArePlaced s es hs n places → ArePlaced s es hs (n + 1) (places ++ place ∷ [])
place_step s es hs n d counts places place low numbered so is p =
    let at = slice_get-get_or es n d low in
    placed_more s es hs n places (get_or es n d) place at (is ∙ place_is s es hs n (get_or es n d) counts at numbered so) p

pub counts_step : (s : List Bool) (es : List StaticEvent) (n i : ℕ) (d : StaticEvent) (counts after : List ℕ)
    → n < length es → i < length counts → get_or counts i 0 ≡ earlier s i n es → after ≡ indices_behind s (get_or es n d) counts → get_or after i 0 ≡ earlier s i (n + 1) es
counts_step s es n i d counts after low there so is =
    ap (λ (l : List ℕ). get_or l i 0) is ∙ counts_more s es counts n i (get_or es n d) (slice_get-get_or es n d low) there so

pub length_step : (s : List Bool) (es : List StaticEvent) (n : ℕ) (d : StaticEvent) (counts after : List ℕ) → after ≡ indices_behind s (get_or es n d) counts → length after ≡ length counts
length_step s es n d counts after is = ap (λ (l : List ℕ). length l) is ∙ length_behind s (get_or es n d) counts

pub places_made : (s : List Bool) (es : List StaticEvent) (hs : List (Option ℕ)) (n : ℕ) (places : List Event) → n ≡ length es → ArePlaced s es hs n places → ArePlaces s es hs places
places_made s es hs n places whole p = record {
  counted = p.counted ∙ whole;
  initial = λ m e at k.
      let low = slice_get_within es m e at in
      let none : acts s e ≡ false = ap (λ (b : Bool). not b && value s e.guard) (ap is_initial k) in
      p.each m e (omega (arith, low, whole)) at ∙ ap (λ (b : Bool). Some (cond b (At (unwrap_or (get_or hs e.instance None) 0) (earlier s e.instance m es)) Initial)) none;
  action = λ m e h of made there.
      let low = slice_get_within es m e of.there in
      let some : acts s e ≡ true = ap (λ (b : Bool). not b && value s e.guard) (not_kind e.kind of.acts) ∙ made in
      let known : get_or hs e.instance None ≡ h = get_or_from_slice_get hs e.instance h None there in
      p.each m e (omega (arith, low, whole)) of.there
      ∙ (ap (λ (b : Bool). Some (cond b (At (unwrap_or (get_or hs e.instance None) 0) (earlier s e.instance m es)) Initial)) some
      ∙ ap (λ (o : Option ℕ). Some (At (unwrap_or o 0) (earlier s e.instance m es))) known);
}
  where
    not_kind : (k : StaticKind) → ¬ (k ≡ kind.Initial) → is_initial k ≡ false
    not_kind kind.Initial h = absurd (h refl)
    not_kind _ h = refl
