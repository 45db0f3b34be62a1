-- What the sieve holds of the tokens that the pass keeps.
use Rattle.std.proofs.Common.{◌≡◌, ℕ, ◌+◌, Bool, true, false, cond, not, List, [], ◌∷◌, ◌++◌, map, length, take, drop, min, ◌-◌, nat_lt, append-nil, Option, Some, None, find, refl, sym, ap, subst, ◌∙◌, arith, length-append}
use Rattle.std.proofs.lemmas.Bool.{cond_both, ltb-true, ltb-false}
use Rattle.std.proofs.lemmas.List.{length-map, take-map, drop-map, take-append-le, take_all}
use Rattle.std.proofs.lemmas.List.Folds.{find-append}
use Rattle.std.specs.Option.{option_or}
use Rattle.dg_base.specs.declared.Place.{Place}
use Rattle.token_list.specs.declared.Token.{Token}
use Rattle.c_token.specs.declared.sieve.TheConstants.{MAX_TOKENS}
use Rattle.c_token.specs.declared.skim.Context.{Context}
use Rattle.c_token.specs.declared.skim.Region.{Region}
use Rattle.c_token.specs.declared.words.Word.{Word}
use Rattle.c_token.specs.Dropping.{is_dropped}
use Rattle.c_token.specs.Macros.{all_at}
use Rattle.c_token.specs.Seen.{token}
use Rattle.c_token.specs.Sieving.{State, with_word, hold, again, hold_again, keep_found, keep_if, feed, Has}
use Rattle.c_token.specs.Skimming.{Skim, class_of, context_after, judged, put_last, fed}
use Rattle.c_token.specs.Tokens.{is_unsupported}

-- one more token, where there is room for it
take_last : {A : Type 0} (m : ℕ) (xs : List A) (x : A) → take m (xs ++ x ∷ []) ≡ cond (nat_lt (length xs) m) (take m xs ++ x ∷ []) (take m xs)
take_last m xs x =
    let len : length (xs ++ x ∷ []) ≡ length xs + 1 = length-append xs (x ∷ []) in
    cond_both (nat_lt (length xs) m) (take m xs ++ x ∷ []) (take m xs) (λ r. take m (xs ++ x ∷ []) ≡ r)
    (λ t. let l = ltb-true (length xs) m t in take_all m (xs ++ x ∷ []) (omega arith) ∙ ap (λ l. l ++ x ∷ []) (sym (take_all m xs (omega arith))))
    (λ t. take-append-le m xs (x ∷ []) (ltb-false (length xs) m t))

-- the first token that isn't supported is found, or the state has what is kept
abbrev pub HasBy : Option Token → State → Skim → Type 0
HasBy (Some u) s k = find is_unsupported k.kept ≡ Some u
HasBy None s k = Has s k

abbrev pub Holds : State → Skim → Type 0
Holds s k = HasBy s.unsupported s k

-- the state, elsewhere
abbrev moved_state : Context → Region → State → State
moved_state m r s = record s { context = m; region = r }

still : (m : Context) (r : Region) (s : State) (k : Skim) → Has s k → s.unsupported ≡ None → Holds (moved_state m r s) (record { context = m; region = r; kept = k.kept })
still m r s k h none = subst (λ o. HasBy o (moved_state m r s) (record { context = m; region = r; kept = k.kept })) (sym none) (record {
  context = refl;
  region = refl;
  supported = h.supported;
  words = h.words;
  count = h.count;
})

last_found : (k : Skim) (t : Token) → find is_unsupported k.kept ≡ None → find is_unsupported (k.kept ++ t ∷ []) ≡ cond (is_unsupported t) (Some t) None
last_found k t h = find-append is_unsupported k.kept (t ∷ []) ∙ ap (λ o. option_or o (find is_unsupported (t ∷ []))) h

held : (m : Context) (r : Region) (s : State) (k : Skim) (t : Token) → Has s k → s.unsupported ≡ None → is_unsupported t ≡ false
    → Holds (hold (moved_state m r s) t) (record { context = m; region = r; kept = k.kept ++ t ∷ [] })
held m r s k t h none ok = step s.holds refl
  where
    found : find is_unsupported (k.kept ++ t ∷ []) ≡ None
    found = last_found k t h.supported ∙ ap (λ b. cond b (Some t) None) ok

    after : Skim
    after = record { context = m; region = r; kept = k.kept ++ t ∷ [] }

    step : (b : Bool) → s.holds ≡ b → Holds (cond b (with_word (moved_state m r s) t) (moved_state m r s)) after
    step true e = subst (λ o. HasBy o (with_word (moved_state m r s) t) after) (sym none) (record {
      context = refl;
      region = refl;
      supported = found;
      words = λ i. rw (h.words e, h.count e) (sym (take_last MAX_TOKENS k.kept t));
      count = λ i. let len : length (k.kept ++ t ∷ []) ≡ length k.kept + 1 = length-append k.kept (t ∷ []) in ap (λ n. n + 1) (h.count e) ∙ sym len;
    })
    step false e = subst (λ o. HasBy o (moved_state m r s) after) (sym none) (record {
      context = refl;
      region = refl;
      supported = found;
      words = λ i. cc (e, i);
      count = λ i. cc (e, i);
    })

kept_or_not : (d : Bool) (m : Context) (r : Region) (s : State) (k : Skim) (t : Token) → Has s k → s.unsupported ≡ None
    → Holds (keep_if d (moved_state m r s) t) (record { context = m; region = r; kept = put_last d t k.kept })
kept_or_not false m r s k t h none = still m r s k h none
kept_or_not true m r s k t h none = step (is_dropped t)
  where
    found : (b : Bool) → is_unsupported t ≡ b
        → Holds (cond b (record (moved_state m r s) { unsupported = Some t }) (hold (moved_state m r s) t)) (record { context = m; region = r; kept = k.kept ++ t ∷ [] })
    found true e = last_found k t h.supported ∙ ap (λ b. cond b (Some t) None) e
    found false e = held m r s k t h none e

    step : (x : Bool) → Holds (cond x (moved_state m r s) (keep_found s.unsupported (moved_state m r s) t)) (record { context = m; region = r; kept = cond (not x) (k.kept ++ t ∷ []) k.kept })
    step true = still m r s k h none
    step false = subst (λ o. Holds (keep_found o (moved_state m r s) t) (record { context = m; region = r; kept = k.kept ++ t ∷ [] })) (sym none) (found (is_unsupported t) refl)

-- a token is fed
pub holds_fed : (b : Bool) (s : State) (k : Skim) (t : Token) → Has s k → s.unsupported ≡ None → Holds (feed b s t) (fed b k t)
holds_fed b s k t h none =
    let here = kept_or_not (judged k.context.in_extern b k.context.last k.region (class_of t)).keeps (context_after k.context (class_of t)) (judged k.context.in_extern b k.context.last k.region (class_of t)).region s k t h none in
    let all : (m : Context) (r : Region) → Type 0 = λ m r. Holds
    (keep_if (judged m.in_extern b m.last r (class_of t)).keeps (record s { context = context_after m (class_of t); region = (judged m.in_extern b m.last r (class_of t)).region }) t) (fed b k t) in
    subst (λ m. all m s.region) (sym h.context) (subst (λ r. all k.context r) (sym h.region) here)

-- some tokens stand before others
abbrev pub Grown : List Token → List Token → Type 0
Grown old new = (more : List Token) × (new ≡ old ++ more)

-- feeding holds one more token, or none
pub feed_grown : (b : Bool) (s : State) (t : Token) → Grown s.words (feed b s t).words
feed_grown b s t = step (judged s.context.in_extern b s.context.last s.region (class_of t)).keeps
  where
    next : State
    next = record s { context = context_after s.context (class_of t); region = (judged s.context.in_extern b s.context.last s.region (class_of t)).region }

    same : Grown s.words s.words
    same = ([], sym (append-nil s.words))

    fits : (r : Bool) → Grown s.words (cond r (s.words ++ t ∷ []) s.words)
    fits true = (t ∷ [], refl)
    fits false = same

    room : (h : Bool) → Grown s.words (cond h (with_word next t) next).words
    room true = fits (nat_lt s.count MAX_TOKENS)
    room false = same

    found : (u : Bool) → Grown s.words (cond u (record next { unsupported = Some t }) (hold next t)).words
    found true = same
    found false = room s.holds

    by : (o : Option Token) → Grown s.words (keep_found o next t).words
    by (Some u) = same
    by None = found (is_unsupported t)

    dropped : (d : Bool) → Grown s.words (cond d next (keep_found s.unsupported next t)).words
    dropped true = same
    dropped false = by s.unsupported

    step : (d : Bool) → Grown s.words (keep_if d next t).words
    step true = dropped (is_dropped t)
    step false = same

-- words that are held once more, by the tokens that they are
pub again_is : (words : List Word) (first count n : ℕ) (place : Place) → n ≡ min count (MAX_TOKENS - length words) → all_at place (map token (take n (drop first words))) ≡ again first count place (map token words)
again_is words first count n place e =
    let len : length (map token words) ≡ length words = length-map words token in
    ap (all_at place)
    (sym (take-map token n (drop first words))
    ∙ (ap (take n) (sym (drop-map token first words)) ∙ ap (λ m. take m (drop first (map token words))) (e ∙ ap (λ m. min count (MAX_TOKENS - m)) (sym len))))

pub held_again : (s w : State) (words : List Token) (first count n : ℕ) (place : Place) → w ≡ s → s.holds ≡ true → words ≡ s.words ++ again first count place s.words → n ≡ s.count + count
    → record w { words = words; count = n } ≡ hold_again first count place s
held_again s w words first count n place same holds is counted =
    ap (λ (x : State). record x { words = words; count = n }) same
    ∙ (ap (λ (ws : List Token). record s { words = ws; count = n }) (is ∙ sym (ap (λ b. cond b (s.words ++ again first count place s.words) s.words) holds))
    ∙ ap (λ (m : ℕ). record s { words = cond s.holds (s.words ++ again first count place s.words) s.words; count = m }) (counted ∙ sym (ap (λ b. cond b (s.count + count) s.count) holds)))

-- feeding changes nothing of what is held
pub feed_holds : (b : Bool) (s : State) (t : Token) → (feed b s t).holds ≡ s.holds
feed_holds b s t = step (judged s.context.in_extern b s.context.last s.region (class_of t)).keeps
  where
    next : State
    next = record s { context = context_after s.context (class_of t); region = (judged s.context.in_extern b s.context.last s.region (class_of t)).region }

    room : (h : Bool) → (cond h (with_word next t) next).holds ≡ s.holds
    room true = refl
    room false = refl

    found : (u : Bool) → (cond u (record next { unsupported = Some t }) (hold next t)).holds ≡ s.holds
    found true = refl
    found false = room s.holds

    by : (o : Option Token) → (keep_found o next t).holds ≡ s.holds
    by (Some u) = refl
    by None = found (is_unsupported t)

    dropped : (d : Bool) → (cond d next (keep_found s.unsupported next t)).holds ≡ s.holds
    dropped true = refl
    dropped false = by s.unsupported

    step : (d : Bool) → (keep_if d next t).holds ≡ s.holds
    step true = dropped (is_dropped t)
    step false = refl
