-- Each step of a search leads to what comes of all tokens.
use Rattle.std.proofs.Common.{◌≡◌, ℕ, zero, suc, ◌+◌, ◌-◌, ◌<◌, ◌≤◌, Bool, true, false, cond, List, [], ◌∷◌, ◌++◌, length, take, drop, get_or, nat_lt, slice_get, find, min, unwrap_or, Option, Some, None, is_some, option_map, refl, sym, ap, subst, ◌∙◌, arith, append-nil, length-append, ⊎_elim, Result, Ok, Err, OnOk, MatchOption}
use Rattle.std.proofs.lemmas.Bool.{cases_lt, lt-ltb, le-ltb}
use Rattle.std.proofs.lemmas.List.{map-append, length-map, length-drop, length-take, length-take-le, take_all, take-take, take-map, take-append-le, drop-append-le}
use Rattle.std.proofs.lemmas.List.Elements.{All-cons, All-same}
use Rattle.std.proofs.lemmas.List.Folds.{find-append}
use Rattle.std.proofs.lemmas.Map.Views.{All-map-IsPermutation, All-values-set_value}
use Rattle.std.specs.List.{All, IsAmong}
use Rattle.std.specs.List.Sorted.{IsPermutation}
use Rattle.std.specs.Map.{set_value, values_of}
use Rattle.std.specs.Option.{option_or}
use Rattle.dg_base.specs.declared.Place.{Place}
use Rattle.token_list.specs.declared.Token.{Token}
use Rattle.c_token.specs.declared.macros.Macro.{Macro}
use Rattle.c_token.specs.declared.macros.Use.{Use}
use Rattle.c_token.specs.declared.macros.Use.TheVariants.{Macro as MacroUse}
use Rattle.c_token.specs.declared.search.Entry.{Entry}
use Rattle.c_token.specs.declared.search.Frame.{Frame}
use Rattle.c_token.specs.declared.search.Passage.{Passage}
use Rattle.c_token.specs.declared.sieve.TheConstants.{MAX_TOKENS}
use Rattle.c_token.specs.declared.skim.Context.{Context}
use Rattle.c_token.specs.declared.skim.Effect.{Effect}
use Rattle.c_token.specs.declared.skim.Kind.{Kind}
use Rattle.c_token.specs.declared.skim.Region.{Region}
use Rattle.c_token.specs.declared.skim.Region.TheVariants.{Dead}
use Rattle.c_token.specs.Macros.{put_at, all_at}
use Rattle.c_token.specs.Searching.{uses_in, uses_of, next_use, next_frame, body_at, rest_of, before, passed, AreAmong, IsPassage, left_passage, repeated, AreBegun, resumed, Leads, LeadsBy, Seeking}
use Rattle.c_token.specs.Sieving.{State, Has, feed, again}
use Rattle.c_token.specs.Skimming.{Skim, extern_behind, context_behind, ahead, opened, bounded, fed, run, effect}
use Rattle.c_token.specs.Tables.{use_tokens, all_tokens, IsTable}
use Rattle.c_token.specs.Tokens.{is_unsupported, is_unsupported_name}
use Rattle.c_token.proofs.Effects.{context_is}
use Rattle.c_token.proofs.Ends.{all_at_again, macro_here, next_tokens, got_in}
use Rattle.c_token.proofs.Holding.{Holds, HasBy, Grown, holds_fed, feed_grown, feed_holds}
use Rattle.c_token.proofs.Running.{run_append, run_dead, run_alike, run_moved, run_keeps, moved, extern_at, ahead_at, opened_at}

-- ---- what is found stays found
found_first : (xs ys : List Token) (t : Token) → find is_unsupported xs ≡ Some t → find is_unsupported (xs ++ ys) ≡ Some t
found_first xs ys t h = find-append is_unsupported xs ys ∙ ap (λ o. option_or o (find is_unsupported ys)) h

pub run_found : (j : ℕ) (k : Skim) (us : List Token) (t : Token) → find is_unsupported k.kept ≡ Some t → find is_unsupported (run j k us).kept ≡ Some t
run_found j k us t h = let more = run_keeps j k us in ap (find is_unsupported) more.1 ∙ found_first k.kept more.0 t h

resumed_found : (macros : List Macro) (bodies : List (List Token)) (place : Place) (fs : List Frame) (k : Skim) (t : Token) → find is_unsupported k.kept ≡ Some t
    → find is_unsupported (resumed macros bodies place fs k).kept ≡ Some t
resumed_found macros bodies place [] k t h = h
resumed_found macros bodies place (f ∷ fs) k t h =
    resumed_found macros bodies place fs (run f.entry.behind k (rest_of macros bodies place f)) t (run_found f.entry.behind k (rest_of macros bodies place f) t h)

unsupported_at : (p : Place) (t : Token) → is_unsupported (put_at p t) ≡ is_unsupported t
unfolding is_unsupported is_unsupported_name
unsupported_at p t = refl

none_found_at : (p : Place) (ts : List Token) → find is_unsupported ts ≡ None → find is_unsupported (all_at p ts) ≡ None
none_found_at p [] h = refl
none_found_at p (t ∷ ts) h = ap (λ b. cond b (Some (put_at p t)) (find is_unsupported (all_at p ts))) (unsupported_at p t) ∙ step (is_unsupported t) h (none_found_at p ts)
  where
    step : (b : Bool) → cond b (Some t) (find is_unsupported ts) ≡ None → (find is_unsupported ts ≡ None → find is_unsupported (all_at p ts) ≡ None)
        → cond b (Some (put_at p t)) (find is_unsupported (all_at p ts)) ≡ None
    step true e f = cc
    step false e f = f e

none_found_back : (p : Place) (ts : List Token) → find is_unsupported (all_at p ts) ≡ None → find is_unsupported ts ≡ None
none_found_back p [] h = refl
none_found_back p (t ∷ ts) h =
    step (is_unsupported t) (ap (λ b. cond b (Some (put_at p t)) (find is_unsupported (all_at p ts))) (sym (unsupported_at p t)) ∙ h) (none_found_back p ts)
  where
    step : (b : Bool) → cond b (Some (put_at p t)) (find is_unsupported (all_at p ts)) ≡ None → (find is_unsupported (all_at p ts) ≡ None → find is_unsupported ts ≡ None)
        → cond b (Some t) (find is_unsupported ts) ≡ None
    step true e f = cc
    step false e f = f e

none_behind : (xs ys : List Token) → find is_unsupported (xs ++ ys) ≡ None → find is_unsupported ys ≡ None
none_behind xs ys h = step (find is_unsupported xs) (sym (find-append is_unsupported xs ys) ∙ h)
  where
    step : (o : Option Token) → option_or o (find is_unsupported ys) ≡ None → find is_unsupported ys ≡ None
    step None e = e
    step (Some t) e = cc

-- ---- a macro's tokens with others kept before them
abbrev outer : Place → List Token → Skim → Skim
outer place out k = moved place out k

passed_from : (bodies : List (List Token)) (place : Place) (e : Entry) (out : List Token)
    → run e.behind (before e out) (body_at place bodies e.number) ≡ outer place out (passed bodies e)
passed_from bodies place e out =
    ap (λ us. run e.behind (before e us) (body_at place bodies e.number)) (sym (append-nil out)) ∙ run_moved e.behind place out (before e []) (get_or bodies e.number [])

length_at : (p : Place) (ts : List Token) → length (all_at p ts) ≡ length ts
length_at p ts = length-map ts (put_at p)

-- ---- which tokens are held
-- the first of a list, where they are fewer than were asked for, are all of it
short_take : (n : ℕ) (ts : List Token) → length (take n ts) < n → take n ts ≡ ts
short_take n ts h =
    ⊎_elim
    (λ less. take_all n ts (omega arith))
    (λ more. let len = length-take-le n ts more in absurd (omega arith))
    (cases_lt (length ts) n)

take_over : (n : ℕ) (xs ys : List Token) → length xs ≤ n → take n (xs ++ ys) ≡ xs ++ take (n - length xs) ys
take_over n [] ys h = let e : n ≡ n - 0 = omega arith in ap (λ k. take k ys) e
take_over zero (x ∷ xs) ys h = absurd (omega arith)
take_over (suc n) (x ∷ xs) ys h =
    let e : n - length xs ≡ suc n - length (x ∷ xs) = omega arith in
    ap (λ us. x ∷ us) (take_over n xs ys (omega arith)) ∙ ap (λ k. x ∷ xs ++ take k ys) e

take_twice : (m n : ℕ) (ts : List Token) → take m (take n ts) ≡ take (min n m) ts
take_twice m n ts =
    ⊎_elim
    (λ less. let e : m ≡ min n m = omega arith in take-take m n ts (omega arith) ∙ ap (λ k. take k ts) e)
    (λ more. let len = length-take n ts in let e : n ≡ min n m = omega arith in take_all m (take n ts) (omega arith) ∙ ap (λ k. take k ts) e)
    (cases_lt m n)

-- tokens that are among some are among more
passage_more : (bodies : List (List Token)) (holds : Bool) (words more : List Token) (p : Passage) → IsPassage bodies holds words p → IsPassage bodies holds (words ++ more) p
passage_more bodies holds words more p is = record {
  context = is.context;
  region = is.region;
  supported = is.supported;
  count = is.count;
  held = λ h small.
      let len = length-append words more in
      let here = is.held h (omega arith) in
      let fits = here.0 in
      let left = length-drop p.first words in
      let same : take p.count (drop p.first (words ++ more)) ≡ take p.count (drop p.first words) =
      ap (take p.count) (drop-append-le p.first words more (omega arith)) ∙ take-append-le p.count (drop p.first words) more (omega arith) in
      (omega arith, λ q. ap (all_at q) same ∙ here.1 q);
}

pub all_more : (bodies : List (List Token)) (holds : Bool) (old new : List Token) (known : List Passage) → Grown old new → All (IsPassage bodies holds old) known → All (IsPassage bodies holds new) known
all_more bodies holds old new known grown all =
    λ k d h. subst (λ ws. IsPassage bodies holds ws (get_or known k d)) (sym grown.1) (passage_more bodies holds old grown.0 (get_or known k d) (all k d h))

-- the tokens that a passage kept, once more, as many as there is room for
again_kept : (bodies : List (List Token)) (place : Place) (p : Passage) (words out : List Token) → words ≡ take MAX_TOKENS out → length (passed bodies p.entry).kept ≡ p.count
    → (length words < MAX_TOKENS → AreAmong words p (passed bodies p.entry).kept) → words ++ again p.first p.count place words ≡ take MAX_TOKENS (out ++ all_at place (passed bodies p.entry).kept)
again_kept bodies place p words out first count held =
    ⊎_elim
    (λ small.
    let all : words ≡ out = first ∙ short_take MAX_TOKENS out (subst (λ ts. length ts < MAX_TOKENS) first small) in
    let room = MAX_TOKENS - length words in
    let some : again p.first p.count place words ≡ take room (all_at place kept) =
    ap (all_at place) (sym (take_twice room p.count (drop p.first words)))
    ∙ (sym (take-map (put_at place) room (take p.count (drop p.first words))) ∙ ap (take room) ((held small).1 place)) in
    ap (λ ts. words ++ ts) some ∙ (sym (take_over MAX_TOKENS words (all_at place kept) (omega arith)) ∙ ap (λ ts. take MAX_TOKENS (ts ++ all_at place kept)) all))
    (λ large.
    let none : min p.count (MAX_TOKENS - length words) ≡ 0 = omega arith in
    let many : MAX_TOKENS ≤ length out = long_take out (subst (λ ts. MAX_TOKENS ≤ length ts) first large) in
    ap (λ n. words ++ all_at place (take n (drop p.first words))) none ∙ (append-nil words ∙ (first ∙ sym (take-append-le MAX_TOKENS out (all_at place kept) many))))
    (cases_lt (length words) MAX_TOKENS)
  where
    kept : List Token
    kept = (passed bodies p.entry).kept

    long_take : (ts : List Token) → MAX_TOKENS ≤ length (take MAX_TOKENS ts) → MAX_TOKENS ≤ length ts
    long_take ts h = ⊎_elim (λ less. let all = ap length (take_all MAX_TOKENS ts (omega arith)) in absurd (omega arith)) (λ more. more) (cases_lt (length ts) MAX_TOKENS)

-- a macro is passed again
pub has_repeated : (bodies : List (List Token)) (place : Place) (holds : Bool) (p : Passage) (s : State) (out : List Token) → IsPassage bodies holds s.words p → s.holds ≡ holds → find is_unsupported out ≡ None
    → (s.holds ≡ true → s.words ≡ take MAX_TOKENS out) → (s.holds ≡ true → s.count ≡ length out) → Has (repeated place p s) (outer place out (passed bodies p.entry))
has_repeated bodies place holds p s out is same none words count = record {
  context = sym is.context;
  region = sym is.region;
  supported = find-append is_unsupported out (all_at place (passed bodies p.entry).kept) ∙ (ap (λ o. option_or o (find is_unsupported (all_at place (passed bodies p.entry).kept))) none ∙ none_found_at place (passed bodies p.entry).kept is.supported);
  words = λ h.
      ap (λ b. cond b (s.words ++ again p.first p.count place s.words) s.words) h ∙ again_kept bodies place p s.words out (words h) (is.count (sym same ∙ h)) (λ small. is.held (sym same ∙ h) small);
  count = λ h.
      ap (λ b. cond b (s.count + p.count) s.count) h
      ∙ (let more = is.count (sym same ∙ h) in let len = length-append out (all_at place (passed bodies p.entry).kept) in omega (arith, count h, more, len, length_at place (passed bodies p.entry).kept));
}

-- what is known of a macro that is left
pub passage_left : (bodies : List (List Token)) (place : Place) (holds : Bool) (f : Frame) (s : State) (k : Skim) (out : List Token) → Has s k → s.holds ≡ holds → (holds ≡ true → length out ≡ f.count)
    → k ≡ run f.entry.behind (before f.entry out) (body_at place bodies f.entry.number) → IsPassage bodies holds s.words (left_passage s f)
passage_left bodies place holds f s k out has same count is =
    let all : k ≡ outer place out (passed bodies f.entry) = is ∙ passed_from bodies place f.entry out in
    let kept : k.kept ≡ out ++ all_at place (passed bodies f.entry).kept = ap (λ (x : Skim). x.kept) all in
    record {
      context = sym (has.context ∙ ap (λ (x : Skim). x.context) all);
      region = sym (has.region ∙ ap (λ (x : Skim). x.region) all);
      supported = none_found_back place (passed bodies f.entry).kept (none_behind out (all_at place (passed bodies f.entry).kept) (ap (find is_unsupported) (sym kept) ∙ has.supported));
      count = λ h.
          let here = has.count (same ∙ h) in
          let len = ap length kept ∙ length-append out (all_at place (passed bodies f.entry).kept) in
          omega (arith, here, len, count h, length_at place (passed bodies f.entry).kept);
      held = λ h small.
          let here = has.count (same ∙ h) in
          let first = count h in
          let taken : s.words ≡ take MAX_TOKENS k.kept = has.words (same ∙ h) in
          let held : s.words ≡ out ++ all_at place (passed bodies f.entry).kept = taken ∙ (short_take MAX_TOKENS k.kept (subst (λ ts. length ts < MAX_TOKENS) taken small) ∙ kept) in
          let long = ap length kept ∙ length-append out (all_at place (passed bodies f.entry).kept) in
          let words = ap length held ∙ length-append out (all_at place (passed bodies f.entry).kept) in (
            omega arith,
            λ q.
                ap (λ ts. all_at q (take (s.count - f.count) (drop f.count ts))) held
                ∙ (ap (λ n. all_at q (take (s.count - f.count) (drop n (out ++ all_at place (passed bodies f.entry).kept)))) (sym first)
                ∙ (ap (λ ts. all_at q (take (s.count - f.count) ts)) (drop-append-len out (all_at place (passed bodies f.entry).kept))
                ∙ (ap (all_at q) (take_all (s.count - f.count) (all_at place (passed bodies f.entry).kept) (omega arith)) ∙ all_at_again q place (passed bodies f.entry).kept))),
          );
    }
  where
    drop-append-len : (xs ys : List Token) → drop (length xs) (xs ++ ys) ≡ ys
    drop-append-len [] ys = refl
    drop-append-len (x ∷ xs) ys = drop-append-len xs ys

-- ---- steps, where nothing is found yet
-- a use's tokens are at its own place
pub tokens_at : (bodies : List (List Token)) (place q : Place) (n : ℕ) → all_at place (use_tokens bodies (MacroUse n q)) ≡ body_at place bodies n
tokens_at bodies place q n = all_at_again place q (get_or bodies n [])

-- the state moves on, to what comes of the tokens before the frames
leads_on : (macros : List Macro) (bodies : List (List Token)) (place : Place) (s new : State) (fs : List Frame) (j : ℕ) (us : List Token) (w : Skim) (l : Leads macros bodies place s fs j us w)
    → new.holds ≡ s.holds → (k : Skim) → run j l.now us ≡ k → Has new k → Leads macros bodies place new fs 0 [] w
leads_on macros bodies place s new fs j us w l same k e has = record {
  now = k;
  has = has;
  begun = subst (λ h. AreBegun macros bodies place h fs k) (sym same) (subst (AreBegun macros bodies place s.holds fs) e l.begun);
  is = ap (resumed macros bodies place fs) (sym e) ∙ l.is;
}

-- a token is fed
pub leads_fed : (macros : List Macro) (bodies : List (List Token)) (place : Place) (s new : State) (fs : List Frame) (j b : ℕ) (t : Token) (w : Skim) → Leads macros bodies place s fs j (t ∷ []) w
    → s.unsupported ≡ None → b ≡ bounded j → new ≡ feed (nat_lt 0 b) s t → new.holds ≡ s.holds → LeadsBy new.unsupported macros bodies place new fs 0 [] w
leads_fed macros bodies place s new fs j b t w l none e is same = by new.unsupported refl
  where
    test : nat_lt 0 b ≡ nat_lt 0 j
    test =
        ⊎_elim
        (λ some. let other : 0 < b = omega arith in lt-ltb 0 b other ∙ sym (lt-ltb 0 j some))
        (λ nothing. let other : b ≤ 0 = omega arith in le-ltb 0 b other ∙ sym (le-ltb 0 j nothing))
        (cases_lt 0 j)

    there : Holds new (fed (nat_lt 0 j) l.now t)
    there = subst (λ (x : State). Holds x (fed (nat_lt 0 j) l.now t)) (sym (is ∙ ap (λ c. feed c s t) test)) (holds_fed (nat_lt 0 j) s l.now t l.has none)

    by : (o : Option Token) → new.unsupported ≡ o → LeadsBy o macros bodies place new fs 0 [] w
    by (Some u) h =
        let found : find is_unsupported (fed (nat_lt 0 j) l.now t).kept ≡ Some u = subst (λ o. HasBy o new (fed (nat_lt 0 j) l.now t)) h there in
        ap (λ (x : Skim). find is_unsupported x.kept) (sym l.is) ∙ resumed_found macros bodies place fs (fed (nat_lt 0 j) l.now t) u found
    by None h = leads_on macros bodies place s new fs j (t ∷ []) w l same (fed (nat_lt 0 j) l.now t) refl (subst (λ o. HasBy o new (fed (nat_lt 0 j) l.now t)) h there)

-- tokens that don't end what is left out
pub leads_skipped : (macros : List Macro) (bodies : List (List Token)) (place : Place) (s new : State) (fs : List Frame) (j n : ℕ) (w : Skim) (kind : Kind) (depth c o : ℕ)
    → Leads macros bodies place s fs j (body_at place bodies n) w → s.region ≡ Dead kind depth → c ≡ ahead 0 s.context.in_extern (get_or bodies n []) → o ≡ opened s.context.in_extern (get_or bodies n [])
    → c ≤ depth → new ≡ record s { context = context_behind s.context (get_or bodies n []); region = Dead kind (depth - c + o) } → Leads macros bodies place new fs 0 [] w
leads_skipped macros bodies place s new fs j n w kind depth c o l dead closers openers fits is =
    let body = get_or bodies n [] in
    let out : List Token = l.now.kept in
    let here : l.now ≡ moved place out (record { context = s.context; region = Dead kind depth; kept = [] }) =
    ap (λ m. record { context = m; region = l.now.region; kept = out }) (sym l.has.context)
    ∙ (ap (λ r. record { context = s.context; region = r; kept = out }) (sym l.has.region ∙ dead) ∙ ap (λ us. record { context = s.context; region = Dead kind depth; kept = us }) (sym (append-nil out))) in
    let fit : ahead 0 s.context.in_extern body ≤ depth = omega arith in
    let depths : depth - ahead 0 s.context.in_extern body + opened s.context.in_extern body ≡ depth - c + o = ap (λ x. depth - x + opened s.context.in_extern body) (sym closers) ∙ ap (λ x. depth - c + x) (sym openers) in
    let gone : run j l.now (body_at place bodies n) ≡ record { context = context_behind s.context body; region = Dead kind (depth - c + o); kept = out } =
    ap (λ (x : Skim). run j x (body_at place bodies n)) here
    ∙ (run_moved j place out (record { context = s.context; region = Dead kind depth; kept = [] }) body
    ∙ (ap (moved place out) (run_dead j s.context kind depth [] body fit)
    ∙ (ap (λ us. record { context = context_behind s.context body; region = Dead kind (depth - ahead 0 s.context.in_extern body + opened s.context.in_extern body); kept = us }) (append-nil out)
    ∙ ap (λ i. record { context = context_behind s.context body; region = Dead kind i; kept = out }) depths))) in
    leads_on macros bodies place s new fs j (body_at place bodies n) w l (ap (λ (x : State). x.holds) is) (record { context = context_behind s.context body; region = Dead kind (depth - c + o); kept = out }) gone
    (subst (λ (x : State). Has x (record { context = context_behind s.context body; region = Dead kind (depth - c + o); kept = out })) (sym is)
    (record { context = refl; region = refl; supported = l.has.supported; words = l.has.words; count = l.has.count }))

-- what closes behind a macro counts only as far as the macro opens it
abbrev pub IsEntry : State → List (List Token) → ℕ → ℕ → Entry → Type 0
IsEntry s bodies n j e = (e.number ≡ n) × (e.context ≡ s.context) × (e.region ≡ s.region) × (e.behind ≡ min j (opened s.context.in_extern (get_or bodies n [])))

entered : (macros : List Macro) (bodies : List (List Token)) (place : Place) (s : State) (fs : List Frame) (j n : ℕ) (w : Skim) (e : Entry) (l : Leads macros bodies place s fs j (body_at place bodies n) w)
    → IsEntry s bodies n j e → (run j l.now (body_at place bodies n) ≡ run e.behind l.now (body_at place bodies e.number)) × (l.now ≡ before e l.now.kept)
entered macros bodies place s fs j n w e l i =
    let opens : opened l.now.context.in_extern (body_at place bodies n) ≡ opened s.context.in_extern (get_or bodies n []) =
    ap (λ (m : Context). opened m.in_extern (body_at place bodies n)) (sym l.has.context) ∙ opened_at place s.context.in_extern (get_or bodies n []) in
    let behind = i.3 in
    let alike : min j (opened l.now.context.in_extern (body_at place bodies n)) ≡ min e.behind (opened l.now.context.in_extern (body_at place bodies n)) = omega arith in (
      run_alike j e.behind l.now (body_at place bodies n) alike ∙ ap (λ x. run e.behind l.now (body_at place bodies x)) (sym i.0),
      ap (λ m. record { context = m; region = l.now.region; kept = l.now.kept }) (sym (i.1 ∙ l.has.context)) ∙ ap (λ r. record { context = e.context; region = r; kept = l.now.kept }) (sym (i.2 ∙ l.has.region)),
    )

-- a macro is passed that was passed before
pub leads_repeated : (macros : List Macro) (bodies : List (List Token)) (place : Place) (holds : Bool) (s new : State) (fs : List Frame) (j n : ℕ) (w : Skim) (e : Entry) (p : Passage)
    → Leads macros bodies place s fs j (body_at place bodies n) w → IsEntry s bodies n j e → p.entry ≡ e → IsPassage bodies holds s.words p → s.holds ≡ holds → new ≡ repeated place p s
    → Leads macros bodies place new fs 0 [] w
leads_repeated macros bodies place holds s new fs j n w e p l i known is same new_is =
    let out : List Token = l.now.kept in
    let begin = entered macros bodies place s fs j n w e l i in
    let gone : run j l.now (body_at place bodies n) ≡ outer place out (passed bodies p.entry) =
    begin.0
    ∙ (ap (λ (x : Skim). run e.behind x (body_at place bodies e.number)) begin.1 ∙ (passed_from bodies place e out ∙ ap (λ (x : Entry). outer place out (passed bodies x)) (sym known))) in
    leads_on macros bodies place s new fs j (body_at place bodies n) w l (ap (λ (x : State). x.holds) new_is) (outer place out (passed bodies p.entry)) gone
    (subst (λ (x : State). Has x (outer place out (passed bodies p.entry))) (sym new_is) (has_repeated bodies place holds p s out is same l.has.supported l.has.words l.has.count))

uses_here : (macros : List Macro) (bodies : List (List Token)) (n : ℕ) → IsTable macros bodies → n < length macros → all_tokens bodies (uses_of macros n) ≡ get_or bodies n []
uses_here macros bodies n t h = step (slice_get macros n) refl
  where
    step : (o : Option Macro) → slice_get macros n ≡ o → all_tokens bodies (uses_in o) ≡ get_or bodies n []
    step None e = absurd (none_above macros n h e)
      where
        none_above : (ms : List Macro) (k : ℕ) → k < length ms → slice_get ms k ≡ None → ⊥
        none_above [] k h e = omega arith
        none_above (m ∷ ms) zero h e = cc
        none_above (m ∷ ms) (suc k) h e = none_above ms k (omega arith) e
    step (Some m) e = (macro_here macros bodies n m t e).tokens

-- a macro is begun
pub leads_begun : (macros : List Macro) (bodies : List (List Token)) (place : Place) (s : State) (fs : List Frame) (j n : ℕ) (w : Skim) (f : Frame) → IsTable macros bodies → n < length macros
    → Leads macros bodies place s fs j (body_at place bodies n) w → IsEntry s bodies n j f.entry → f.next ≡ 0 → f.count ≡ s.count → Leads macros bodies place s (f ∷ fs) 0 [] w
leads_begun macros bodies place s fs j n w f t within l i first count =
    let begin = entered macros bodies place s fs j n w f.entry l i in
    let rest : rest_of macros bodies place f ≡ body_at place bodies f.entry.number =
    ap (λ x. all_at place (all_tokens bodies (drop x (uses_of macros f.entry.number)))) first
    ∙ (ap (λ x. all_at place (all_tokens bodies (uses_of macros x))) i.0 ∙ (ap (all_at place) (uses_here macros bodies n t within) ∙ ap (body_at place bodies) (sym i.0))) in
    let gone : run j l.now (body_at place bodies n) ≡ run f.entry.behind l.now (rest_of macros bodies place f) = begin.0 ∙ ap (run f.entry.behind l.now) (sym rest) in
    record {
      now = l.now;
      has = l.has;
      begun = (
        record {
          out = l.now.kept;
          is = ap (run f.entry.behind l.now) rest ∙ ap (λ (x : Skim). run f.entry.behind x (body_at place bodies f.entry.number)) begin.1;
          count = λ h. sym (l.has.count h) ∙ sym count;
        },
        subst (AreBegun macros bodies place s.holds fs) gone l.begun,
      );
      is = ap (resumed macros bodies place fs) (sym gone) ∙ l.is;
    }

got_none : {A : Type 0} (xs : List A) (n : ℕ) → slice_get xs n ≡ None → drop n xs ≡ []
got_none [] zero e = refl
got_none [] (suc n) e = refl
got_none (x ∷ xs) zero e = cc
got_none (x ∷ xs) (suc n) e = got_none xs n e

-- a macro at its end is left
pub leads_left : (macros : List Macro) (bodies : List (List Token)) (place : Place) (holds : Bool) (s : State) (fs : List Frame) (w : Skim) (f : Frame) → Leads macros bodies place s (f ∷ fs) 0 [] w
    → s.holds ≡ holds → next_use macros f ≡ None → Leads macros bodies place s fs 0 [] w × IsPassage bodies holds s.words (left_passage s f)
leads_left macros bodies place holds s fs w f l same end =
    let nothing : rest_of macros bodies place f ≡ [] = ap (λ us. all_at place (all_tokens bodies us)) (got_none (uses_of macros f.entry.number) f.next end) in
    let stays : run f.entry.behind l.now (rest_of macros bodies place f) ≡ l.now = ap (run f.entry.behind l.now) nothing in (
      record { now = l.now; has = l.has; begun = subst (AreBegun macros bodies place s.holds fs) stays l.begun.1; is = ap (resumed macros bodies place fs) (sym stays) ∙ l.is },
      passage_left bodies place holds f s l.now l.begun.0.out l.has same (λ h. l.begun.0.count (same ∙ h)) (sym stays ∙ l.begun.0.is),
    )

-- the next use of a macro stands before what is left of it then
pub leads_next : (macros : List Macro) (bodies : List (List Token)) (place : Place) (s : State) (fs : List Frame) (w : Skim) (f : Frame) (u : Use) → Leads macros bodies place s (f ∷ fs) 0 [] w → next_use macros f ≡ Some u
    → Leads macros bodies place s (next_frame f ∷ fs)
    (ahead f.entry.behind (extern_behind s.context.in_extern (use_tokens bodies u)) (all_tokens bodies (drop (f.next + 1) (uses_of macros f.entry.number)))) (all_at place (use_tokens bodies u)) w
leads_next macros bodies place s fs w f u l e =
    let uses = uses_of macros f.entry.number in
    let us = all_at place (use_tokens bodies u) in
    let got = got_in uses f.next u e in
    let rest = all_tokens bodies (drop (f.next + 1) uses) in
    let split : rest_of macros bodies place f ≡ us ++ rest_of macros bodies place (next_frame f) =
    ap (all_at place) (next_tokens bodies uses f.next u got.0 ∙ ap (λ x. use_tokens bodies x ++ rest) got.1) ∙ map-append (put_at place) (use_tokens bodies u) rest in
    let j = ahead f.entry.behind (extern_behind s.context.in_extern (use_tokens bodies u)) rest in
    let same : ahead f.entry.behind (extern_behind l.now.context.in_extern us) (rest_of macros bodies place (next_frame f)) ≡ j =
    ahead_at place f.entry.behind (extern_behind l.now.context.in_extern us) rest
    ∙ ap (λ b. ahead f.entry.behind b rest) (extern_at place l.now.context.in_extern (use_tokens bodies u) ∙ ap (λ (m : Context). extern_behind m.in_extern (use_tokens bodies u)) (sym l.has.context)) in
    let gone : run f.entry.behind l.now (rest_of macros bodies place f) ≡ run f.entry.behind (run j l.now us) (rest_of macros bodies place (next_frame f)) =
    ap (run f.entry.behind l.now) split
    ∙ (run_append f.entry.behind l.now us (rest_of macros bodies place (next_frame f)) ∙ ap (λ i. run f.entry.behind (run i l.now us) (rest_of macros bodies place (next_frame f))) same) in
    record {
      now = l.now;
      has = l.has;
      begun = (
        record { out = l.begun.0.out; is = sym gone ∙ l.begun.0.is; count = l.begun.0.count },
        subst (AreBegun macros bodies place s.holds fs) gone l.begun.1,
      );
      is = ap (resumed macros bodies place fs) (sym gone) ∙ l.is;
    }

-- ---- the same of a search
-- what is found stays so
pub seeks_found : (macros : List Macro) (bodies : List (List Token)) (place : Place) (holds : Bool) (s : State) (known : List Passage) (fs gs : List Frame) (i j : ℕ) (us vs : List Token) (w : Skim)
    → Seeking macros bodies place holds s known fs j us w → is_some s.unsupported ≡ true → Seeking macros bodies place holds s known gs i vs w
seeks_found macros bodies place holds s known fs gs i j us vs w h e = record { holds_same = h.holds_same; passages = h.passages; leads = step s.unsupported h.leads e }
  where
    step : (o : Option Token) → LeadsBy o macros bodies place s fs j us w → is_some o ≡ true → LeadsBy o macros bodies place s gs i vs w
    step (Some t) l e = l
    step None l e = cc

open_leads : (macros : List Macro) (bodies : List (List Token)) (place : Place) (holds : Bool) (s : State) (known : List Passage) (fs : List Frame) (j : ℕ) (us : List Token) (w : Skim)
    → Seeking macros bodies place holds s known fs j us w → s.unsupported ≡ None → Leads macros bodies place s fs j us w
open_leads macros bodies place holds s known fs j us w h none = subst (λ o. LeadsBy o macros bodies place s fs j us w) none h.leads

seeks_open : (macros : List Macro) (bodies : List (List Token)) (place : Place) (holds : Bool) (s : State) (known : List Passage) (fs : List Frame) (j : ℕ) (us : List Token) (w : Skim) → s.holds ≡ holds
    → All (IsPassage bodies holds s.words) known → s.unsupported ≡ None → Leads macros bodies place s fs j us w → Seeking macros bodies place holds s known fs j us w
seeks_open macros bodies place holds s known fs j us w same all none l = record { holds_same = same; passages = all; leads = subst (λ o. LeadsBy o macros bodies place s fs j us w) (sym none) l }

pub seeks_fed : (macros : List Macro) (bodies : List (List Token)) (place : Place) (holds : Bool) (s new : State) (known : List Passage) (fs : List Frame) (j b : ℕ) (t : Token) (w : Skim)
    → Seeking macros bodies place holds s known fs j (t ∷ []) w → s.unsupported ≡ None → b ≡ bounded j → new ≡ feed (nat_lt 0 b) s t → Seeking macros bodies place holds new known fs 0 [] w
seeks_fed macros bodies place holds s new known fs j b t w h none e is =
    let same : new.holds ≡ s.holds = ap (λ (x : State). x.holds) is ∙ feed_holds (nat_lt 0 b) s t in
    record {
      holds_same = same ∙ h.holds_same;
      passages = all_more bodies holds s.words new.words known (subst (λ (x : State). Grown s.words x.words) (sym is) (feed_grown (nat_lt 0 b) s t)) h.passages;
      leads = leads_fed macros bodies place s new fs j b t w (open_leads macros bodies place holds s known fs j (t ∷ []) w h none) none e is same;
    }

pub seeks_skipped : (macros : List Macro) (bodies : List (List Token)) (place : Place) (holds : Bool) (s new : State) (known : List Passage) (fs : List Frame) (j n : ℕ) (w : Skim) (kind : Kind) (depth c o : ℕ)
    → Seeking macros bodies place holds s known fs j (body_at place bodies n) w → s.unsupported ≡ None → s.region ≡ Dead kind depth → c ≡ ahead 0 s.context.in_extern (get_or bodies n [])
    → o ≡ opened s.context.in_extern (get_or bodies n []) → c ≤ depth → new ≡ record s { context = context_behind s.context (get_or bodies n []); region = Dead kind (depth - c + o) }
    → Seeking macros bodies place holds new known fs 0 [] w
seeks_skipped macros bodies place holds s new known fs j n w kind depth c o h none dead closers openers fits is =
    let grown : Grown s.words new.words = ([], ap (λ (x : State). x.words) is ∙ sym (append-nil s.words)) in
    seeks_open macros bodies place holds new known fs 0 [] w (ap (λ (x : State). x.holds) is ∙ h.holds_same) (all_more bodies holds s.words new.words known grown h.passages) (ap (λ (x : State). x.unsupported) is ∙ none)
    (leads_skipped macros bodies place s new fs j n w kind depth c o (open_leads macros bodies place holds s known fs j (body_at place bodies n) w h none) dead closers openers fits is)

pub seeks_repeated : (macros : List Macro) (bodies : List (List Token)) (place : Place) (holds : Bool) (s new : State) (known : List Passage) (fs : List Frame) (j n : ℕ) (w : Skim) (e : Entry) (p : Passage)
    → Seeking macros bodies place holds s known fs j (body_at place bodies n) w → s.unsupported ≡ None → IsEntry s bodies n j e → p.entry ≡ e → IsAmong known p → new ≡ repeated place p s
    → Seeking macros bodies place holds new known fs 0 [] w
seeks_repeated macros bodies place holds s new known fs j n w e p h none i same among is =
    let P : Passage → Type 0 = IsPassage bodies holds s.words in
    let valid : IsPassage bodies holds s.words p = subst P (sym among.1.1) (h.passages among.0 p among.1.0) in
    let grown : Grown s.words new.words = subst (λ (x : State). Grown s.words x.words) (sym is) (fits s.holds) in
    seeks_open macros bodies place holds new known fs 0 [] w (ap (λ (x : State). x.holds) is ∙ h.holds_same) (all_more bodies holds s.words new.words known grown h.passages) (ap (λ (x : State). x.unsupported) is ∙ none)
    (leads_repeated macros bodies place holds s new fs j n w e p (open_leads macros bodies place holds s known fs j (body_at place bodies n) w h none) i same valid h.holds_same is)
  where
    fits : (b : Bool) → Grown s.words (cond b (s.words ++ again p.first p.count place s.words) s.words)
    fits true = (again p.first p.count place s.words, refl)
    fits false = ([], sym (append-nil s.words))

pub seeks_begun : (macros : List Macro) (bodies : List (List Token)) (place : Place) (holds : Bool) (s : State) (known : List Passage) (fs : List Frame) (j n : ℕ) (w : Skim) (f : Frame) → IsTable macros bodies
    → n < length macros → Seeking macros bodies place holds s known fs j (body_at place bodies n) w → s.unsupported ≡ None → IsEntry s bodies n j f.entry → f.next ≡ 0 → f.count ≡ s.count
    → Seeking macros bodies place holds s known (f ∷ fs) 0 [] w
seeks_begun macros bodies place holds s known fs j n w f t within h none i first count =
    seeks_open macros bodies place holds s known (f ∷ fs) 0 [] w h.holds_same h.passages none
    (leads_begun macros bodies place s fs j n w f t within (open_leads macros bodies place holds s known fs j (body_at place bodies n) w h none) i first count)

pub seeks_left : (macros : List Macro) (bodies : List (List Token)) (place : Place) (holds : Bool) (s : State) (known after : List Passage) (fs : List Frame) (w : Skim) (f : Frame)
    → Seeking macros bodies place holds s known (f ∷ fs) 0 [] w → s.unsupported ≡ None → next_use macros f ≡ None
    → (All (IsPassage bodies holds s.words) known → IsPassage bodies holds s.words (left_passage s f) → All (IsPassage bodies holds s.words) after) → Seeking macros bodies place holds s after fs 0 [] w
seeks_left macros bodies place holds s known after fs w f h none end put =
    let there = leads_left macros bodies place holds s fs w f (open_leads macros bodies place holds s known (f ∷ fs) 0 [] w h none) h.holds_same end in
    seeks_open macros bodies place holds s after fs 0 [] w h.holds_same (put h.passages there.1) none there.0

-- how many brackets close behind the next use
abbrev pub next_closers : List Macro → List (List Token) → State → Frame → Use → ℕ
next_closers macros bodies s f u = ahead f.entry.behind (extern_behind s.context.in_extern (use_tokens bodies u)) (all_tokens bodies (drop (f.next + 1) (uses_of macros f.entry.number)))

pub seeks_next : (macros : List Macro) (bodies : List (List Token)) (place : Place) (holds : Bool) (s : State) (known : List Passage) (fs : List Frame) (w : Skim) (f : Frame) (u : Use)
    → Seeking macros bodies place holds s known (f ∷ fs) 0 [] w → s.unsupported ≡ None → next_use macros f ≡ Some u
    → Seeking macros bodies place holds s known (next_frame f ∷ fs) (next_closers macros bodies s f u) (all_at place (use_tokens bodies u)) w
seeks_next macros bodies place holds s known fs w f u h none e =
    seeks_open macros bodies place holds s known (next_frame f ∷ fs) (next_closers macros bodies s f u) (all_at place (use_tokens bodies u)) w h.holds_same h.passages none
    (leads_next macros bodies place s fs w f u (open_leads macros bodies place holds s known (f ∷ fs) 0 [] w h none) e)

-- ---- a macro is entered
-- the region behind tokens with this effect that don't end what is left out
abbrev pub RegionBehind : Region → Effect → Region → Type 0
RegionBehind old e new = (kind : Kind) × ((n : ℕ) × ((old ≡ Dead kind n) × ((c d : ℕ) → e.closers ≡ bounded c → e.openers ≡ bounded d → (c ≤ n) × (new ≡ Dead kind (n - c + d)))))

pub seeks_passed : (macros : List Macro) (bodies : List (List Token)) (place : Place) (holds : Bool) (s new : State) (known : List Passage) (fs : List Frame) (j n : ℕ) (w : Skim) (e : Effect) (r : Region)
    → Seeking macros bodies place holds s known fs j (body_at place bodies n) w → s.unsupported ≡ None → e ≡ effect s.context.in_extern (get_or bodies n []) → RegionBehind s.region e r
    → new ≡ record s { context = record { in_extern = e.in_extern; last = unwrap_or e.last s.context.last }; region = r } → Seeking macros bodies place holds new known fs 0 [] w
seeks_passed macros bodies place holds s new known fs j n w e r h none is behind same =
    let body = get_or bodies n [] in
    let there = behind.1.1.1 (ahead 0 s.context.in_extern body) (opened s.context.in_extern body) (ap (λ (x : Effect). x.closers) is) (ap (λ (x : Effect). x.openers) is) in
    let context : record { in_extern = e.in_extern; last = unwrap_or e.last s.context.last } ≡ context_behind s.context body =
    ap (λ (x : Effect). record { in_extern = x.in_extern; last = unwrap_or x.last s.context.last }) is ∙ sym (context_is s.context body) in
    seeks_skipped macros bodies place holds s new known fs j n w behind.0 behind.1.0 (ahead 0 s.context.in_extern body) (opened s.context.in_extern body) h none behind.1.1.0 refl refl there.0
    (same ∙ (ap (λ (m : Context). record s { context = m; region = r }) context ∙ ap (λ (x : Region). record s { context = context_behind s.context body; region = x }) there.1))

-- the entry of a macro
pub is_entry : (s : State) (bodies : List (List Token)) (n j b least m : ℕ) (e : Effect) (entry : Entry) → e ≡ effect s.context.in_extern (get_or bodies n []) → b ≡ bounded j → least ≡ min b e.openers
    → ((x : ℕ) → least ≡ bounded x → m ≡ x) → entry ≡ record { number = n; context = s.context; region = s.region; behind = m } → IsEntry s bodies n j entry
is_entry s bodies n j b least m e entry is from lowest exact same =
    let o = opened s.context.in_extern (get_or bodies n []) in
    let openers : e.openers ≡ bounded o = ap (λ (x : Effect). x.openers) is in
    let behind : m ≡ min j o = exact (min j o) (omega arith) in (
      ap (λ (x : Entry). x.number) same,
      ap (λ (x : Entry). x.context) same,
      ap (λ (x : Entry). x.region) same,
      ap (λ (x : Entry). x.behind) same ∙ behind,
    )

-- ---- results of calls
pub on_ok : {T E : Type 0} (r : Result T E) (H G : Type 0) → (H → G) → OnOk r H → OnOk r G
on_ok (Ok x) H G f h = f h
on_ok (Err e) H G f h = h

pub on_ok_thrice : {T E : Type 0} (r : Result T E) (H I J G : Type 0) → (H → I → J → G) → OnOk r H → OnOk r I → OnOk r J → OnOk r G
on_ok_thrice (Ok x) H I J G f h i j = f h i j
on_ok_thrice (Err e) H I J G f h i j = h

pub no_word : {A B : Type 0} (f : A → B) (o : Option A) → is_some o ≡ false → option_map f o ≡ None
no_word f None h = refl
no_word f (Some x) h = cc

-- one more passage
pub all_put : {K : Type 0} (P : Passage → Type 0) (test : K → Bool) (es fs : List (K × Passage)) (k : K) (v : Passage) (old : Option Passage)
    → MatchOption old (IsPermutation ((k, v) ∷ es) fs) (λ _. fs ≡ set_value test es v) → All P (values_of es) → P v → All P (values_of fs)
all_put P test es fs k v None p a h = All-map-IsPermutation (λ e. e.1) P ((k, v) ∷ es) fs p (All-cons P v (values_of es) h a)
all_put P test es fs k v (Some o) p a h = All-same P (values_of fs) (values_of (set_value test es v)) (ap values_of p) (All-values-set_value test P es v a h)
