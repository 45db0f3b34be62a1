-- Each block's last event, as it is stored at the block's place.
use Rattle.std.proofs.Common.{◌≡◌, ◌≢◌, ℕ, suc, zero, ◌+◌, ◌<◌, ◌≤◌, ◌⊎◌, inl, inr, Bool, true, false, cond, nat_eq, List, [], ◌∷◌, ◌++◌, length, set, take, get_or, refl, ap, sym, ◌∙◌, arith, get_or-set_other, get_or-set_same}
use Rattle.std.proofs.lemmas.Bool.{eq-eqb, eqb-true}
use Rattle.std.proofs.lemmas.List.{take_more, length_push, length-set, take_all, get_or_append_left, get_or_push}
use Rattle.std.proofs.lemmas.Option.{slice_get-get_or}
use Rattle.memory_models.specs.declared.StaticEvent.{StaticEvent}
use Rattle.memory_models.specs.Events.{IsAt}
use Rattle.cnf_problem.specs.declared.problem.Node.{Node}
use Rattle.order_vars.specs.Atoms.{last_in, node_of, nodes_in}
use Rattle.order_vars.proofs.EventNodes.{nodes_push}
use Rattle.order_vars.proofs.EventLasts.{last_more}

-- ---- numbers

same_test : (x b : ℕ) → x ≡ b → nat_eq x b ≡ true
same_test x b e = eq-eqb x b e

other_test : (x b : ℕ) → x ≢ b → nat_eq x b ≡ false
other_test x b apart = by_test (nat_eq x b) refl
  where
    by_test : (t : Bool) → nat_eq x b ≡ t → nat_eq x b ≡ false
    by_test true e = absurd (apart (eqb-true x b e))
    by_test false e = e

-- equal or not
pub same_or_not : (x b : ℕ) → (x ≡ b) ⊎ (x ≢ b)
same_or_not x b = by_test (nat_eq x b) refl
  where
    by_test : (t : Bool) → nat_eq x b ≡ t → (x ≡ b) ⊎ (x ≢ b)
    by_test true e = inl (eqb-true x b e)
    by_test false e = inr (λ same. let yes = same_test x b same in absurd (cc))

-- ---- events

-- no event before a place is of a block that begins there or behind
last_before : (b found n i : ℕ) (es : List StaticEvent) → ((k : ℕ) (e : StaticEvent) → IsAt es k e → e.block ≤ n + k) → n + i ≤ b → last_in b found n (take i es) ≡ found
last_before b found n zero [] own below = refl
last_before b found n (suc i) [] own below = refl
last_before b found n zero (e ∷ es) own below = refl
last_before b found n (suc i) (e ∷ es) own below =
    let low : e.block ≤ n + 0 = own 0 e refl in
    let apart : e.block ≢ b = omega arith in
    ap (λ t. last_in b (cond t n found) (n + 1) (take i es)) (other_test e.block b apart)
    ∙ last_before b found (n + 1) i es (λ k f at. let h : f.block ≤ n + suc k = own (suc k) f at in omega arith) (omega arith)

-- the last events of the blocks that begin before a place, among the events before it
pub record AreLasts (es : List StaticEvent) (lasts : List ℕ) (i : ℕ) : Type 0 where
  pub long : length lasts ≡ i
  pub each : (b : ℕ) → b < i → get_or lasts b 0 ≡ last_in b b 0 (take i es)

pub lasts_more : (es : List StaticEvent) (lasts : List ℕ) (i : ℕ) (d : StaticEvent) → ((k : ℕ) (e : StaticEvent) → IsAt es k e → e.block ≤ k) → i < length es
    → AreLasts es lasts i → AreLasts es (set (lasts ++ i ∷ []) (get_or es i d).block i) (i + 1)
lasts_more es lasts i d own within far = record {
  long = long-set ∙ long-push;
  each = λ b below. elim (same_or_not (get_or es i d).block b) [
    | inl same ↦ here b below same
    | inr apart ↦ there b below apart
  ];
}
  where
    long-push : length (lasts ++ i ∷ []) ≡ i + 1
    long-push = length_push lasts i ∙ ap (λ n. n + 1) far.long

    long-set : length (set (lasts ++ i ∷ []) (get_or es i d).block i) ≡ length (lasts ++ i ∷ [])
    long-set = length-set (lasts ++ i ∷ []) (get_or es i d).block i

    here : (b : ℕ) → b < i + 1 → (get_or es i d).block ≡ b → get_or (set (lasts ++ i ∷ []) (get_or es i d).block i) b 0 ≡ last_in b b 0 (take (i + 1) es)
    here b below same =
        let low : b < length (lasts ++ i ∷ []) = let l = long-push in omega arith in
        ap (λ n. get_or (set (lasts ++ i ∷ []) n i) b 0) same ∙ get_or-set_same (lasts ++ i ∷ []) b i 0 low
        ∙ sym (last_more es b i d within ∙ ap (λ t. cond t i (last_in b b 0 (take i es))) (same_test (get_or es i d).block b same))

    there : (b : ℕ) → b < i + 1 → (get_or es i d).block ≢ b → get_or (set (lasts ++ i ∷ []) (get_or es i d).block i) b 0 ≡ last_in b b 0 (take (i + 1) es)
    there b below apart =
        get_or-set_other (lasts ++ i ∷ []) (get_or es i d).block b i 0 (λ e. apart (sym e))
        ∙ kept b below
        ∙ sym (last_more es b i d within ∙ ap (λ t. cond t i (last_in b b 0 (take i es))) (other_test (get_or es i d).block b apart))
      where
        kept : (b : ℕ) → b < i + 1 → get_or (lasts ++ i ∷ []) b 0 ≡ last_in b b 0 (take i es)
        kept b below = elim (same_or_not b i) [
          | inl same ↦ ap (λ n. get_or (lasts ++ i ∷ []) n 0) same ∙ get_or_push lasts i 0 i far.long
              ∙ sym (ap (λ n. last_in n n 0 (take i es)) same ∙ last_before i i 0 i es (λ k e at. let h = own k e at in omega arith) (omega arith))
          | inr other ↦ get_or_append_left lasts (i ∷ []) 0 b (let l = far.long in omega arith) ∙ far.each b (omega arith)
        ]

-- all events' blocks
pub lasts_all : (es : List StaticEvent) (lasts : List ℕ) (i b : ℕ) → i ≡ length es → AreLasts es lasts i → b < length es → get_or lasts b 0 ≡ last_in b b 0 es
lasts_all es lasts i b all far below =
    far.each b (omega arith) ∙ ap (λ (xs : List StaticEvent). last_in b b 0 xs) (take_all i es (omega arith))

-- ---- nodes

-- the event at a place is of a block that begins at one
pub block_within : (es : List StaticEvent) (i : ℕ) (d : StaticEvent) → ((k : ℕ) (e : StaticEvent) → IsAt es k e → e.block ≤ k) → i < length es → (get_or es i d).block < length es
block_within es i d own within = let h = own i (get_or es i d) (slice_get-get_or es i d within) in omega arith

-- one more node
pub nodes_more : (es : List StaticEvent) (nodes : List Node) (i : ℕ) (d : StaticEvent) (last : ℕ) → i < length es → nodes ≡ nodes_in es (take i es)
    → last ≡ last_in (get_or es i d).block (get_or es i d).block 0 es
    → nodes ++ record { block = (get_or es i d).block; first = (get_or es i d).block; last = last } ∷ [] ≡ nodes_in es (take (i + 1) es)
nodes_more es nodes i d last within far e =
    let event : StaticEvent = get_or es i d in
    ap (λ (n : ℕ). nodes ++ record { block = event.block; first = event.block; last = n } ∷ []) e
    ∙ ap (λ (ns : List Node). ns ++ node_of es event ∷ []) far
    ∙ sym (ap (λ (xs : List StaticEvent). nodes_in es xs) (take_more es i d within) ∙ nodes_push es (take i es) event)

pub nodes_all : (es : List StaticEvent) (i : ℕ) → length es ≤ i → nodes_in es (take i es) ≡ nodes_in es es
nodes_all es i h = ap (λ (xs : List StaticEvent). nodes_in es xs) (take_all i es h)

-- one more node, where each block's last event is stored
pub nodes_more_by : (es : List StaticEvent) (nodes : List Node) (ends : List ℕ) (i : ℕ) (d : StaticEvent) → ((k : ℕ) (e : StaticEvent) → IsAt es k e → e.block ≤ k) → i < length es
    → nodes ≡ nodes_in es (take i es) → ((b : ℕ) → b < length es → get_or ends b 0 ≡ last_in b b 0 es)
    → nodes ++ record { block = (get_or es i d).block; first = (get_or es i d).block; last = get_or ends (get_or es i d).block 0 } ∷ [] ≡ nodes_in es (take (i + 1) es)
nodes_more_by es nodes ends i d own within far each =
    nodes_more es nodes i d (get_or ends (get_or es i d).block 0) within far (each (get_or es i d).block (block_within es i d own within))
