-- The pass keeps what is left by the definition.
use Rattle.std.proofs.Common.{◌≡◌, ℕ, ◌+◌, ◌-◌, ◌<◌, ◌≤◌, Bool, true, false, cond, not, ◌&&◌, nat_eq, nat_lt, List, [], ◌∷◌, ◌++◌, Option, Some, None, is_some, option_map, codes, refl, sym, ap, ◌∙◌, arith, append_assoc, append-nil, ⊎_elim}
use Rattle.std.proofs.lemmas.Bool.{lt-ltb, le-ltb, ne_eqb, eqb-true, eqb-false, cases_lt}
use Rattle.token_list.specs.declared.Token.{Token}
use Rattle.c_token.specs.declared.skim.Class.{Class}
use Rattle.c_token.specs.declared.skim.Class.TheVariants.{Extern, Semicolon, Main, Attribute, Open, Close, Plain}
use Rattle.c_token.specs.declared.skim.Judgement.{Judgement}
use Rattle.c_token.specs.declared.skim.Kind.{Kind}
use Rattle.c_token.specs.declared.skim.Kind.TheVariants.{Parameters, Group}
use Rattle.c_token.specs.declared.skim.Last.{Last}
use Rattle.c_token.specs.declared.skim.Last.TheVariants as last
use Rattle.c_token.specs.declared.skim.Region.{Region}
use Rattle.c_token.specs.declared.skim.Region.TheVariants.{Live, Dead}
use Rattle.c_token.specs.Dropping.{says, no_extern, past_semicolon, no_parameters, past_parameters, closes, no_attribute, past_attribute, past_group, is_dropped, no_words, kept}
use Rattle.c_token.specs.Skimming.{class_of, extern_after, bracket, ahead, judged, context_after, Skim, put_last, goes_to, fed, run, beginning}
use Rattle.c_token.proofs.Closing.{says_one, behind_close, behind_group, closes_behind, past_group_behind}

-- what a class says of a token
abbrev is_open : Class → Bool
is_open Open = true
is_open _ = false

abbrev is_close : Class → Bool
is_close Close = true
is_close _ = false

abbrev is_extern : Class → Bool
is_extern Extern = true
is_extern _ = false

abbrev is_semicolon : Class → Bool
is_semicolon Semicolon = true
is_semicolon _ = false

abbrev is_main : Class → Bool
is_main Main = true
is_main _ = false

abbrev is_attribute : Class → Bool
is_attribute Attribute = true
is_attribute _ = false

record Sorted (t : Token) (c : Class) : Type 0 where
  opens : says (codes "(") t ≡ is_open c
  shuts : says (codes ")") t ≡ is_close c
  begins : says (codes "extern") t ≡ is_extern c
  ends : says (codes ";") t ≡ is_semicolon c
  is_main_word : says (codes "main") t ≡ is_main c
  is_attribute_word : says (codes "__attribute__") t ≡ is_attribute c

sorted : (t : Token) → Sorted t (class_of t)
unfolding class_of
sorted t = step_open (says (codes "(") t) refl
  where
    step_attribute : says (codes "(") t ≡ false → says (codes ")") t ≡ false → says (codes "extern") t ≡ false → says (codes ";") t ≡ false → says (codes "main") t ≡ false
        → (b : Bool) → says (codes "__attribute__") t ≡ b → Sorted t (cond b Attribute Plain)
    step_attribute o c e s m true h = record { opens = o; shuts = c; begins = e; ends = s; is_main_word = m; is_attribute_word = h }
    step_attribute o c e s m false h = record { opens = o; shuts = c; begins = e; ends = s; is_main_word = m; is_attribute_word = h }

    step_main : says (codes "(") t ≡ false → says (codes ")") t ≡ false → says (codes "extern") t ≡ false → says (codes ";") t ≡ false
        → (b : Bool) → says (codes "main") t ≡ b → Sorted t (cond b Main (cond (says (codes "__attribute__") t) Attribute Plain))
    step_main o c e s true h = record { opens = o; shuts = c; begins = e; ends = s; is_main_word = h; is_attribute_word = says_one (codes "main") (codes "__attribute__") t refl h }
    step_main o c e s false h = step_attribute o c e s h (says (codes "__attribute__") t) refl

    step_semicolon : says (codes "(") t ≡ false → says (codes ")") t ≡ false → says (codes "extern") t ≡ false
        → (b : Bool) → says (codes ";") t ≡ b → Sorted t (cond b Semicolon (cond (says (codes "main") t) Main (cond (says (codes "__attribute__") t) Attribute Plain)))
    step_semicolon o c e true h = record {
      opens = o;
      shuts = c;
      begins = e;
      ends = h;
      is_main_word = says_one (codes ";") (codes "main") t refl h;
      is_attribute_word = says_one (codes ";") (codes "__attribute__") t refl h;
    }
    step_semicolon o c e false h = step_main o c e h (says (codes "main") t) refl

    step_extern : says (codes "(") t ≡ false → says (codes ")") t ≡ false
        → (b : Bool) → says (codes "extern") t ≡ b
        → Sorted t (cond b Extern (cond (says (codes ";") t) Semicolon (cond (says (codes "main") t) Main (cond (says (codes "__attribute__") t) Attribute Plain))))
    step_extern o c true h = record {
      opens = o;
      shuts = c;
      begins = h;
      ends = says_one (codes "extern") (codes ";") t refl h;
      is_main_word = says_one (codes "extern") (codes "main") t refl h;
      is_attribute_word = says_one (codes "extern") (codes "__attribute__") t refl h;
    }
    step_extern o c false h = step_semicolon o c h (says (codes ";") t) refl

    step_close : says (codes "(") t ≡ false
        → (b : Bool) → says (codes ")") t ≡ b
        → Sorted t (cond b Close (cond (says (codes "extern") t) Extern (cond (says (codes ";") t) Semicolon (cond (says (codes "main") t) Main (cond (says (codes "__attribute__") t) Attribute Plain)))))
    step_close o true h = record {
      opens = o;
      shuts = h;
      begins = says_one (codes ")") (codes "extern") t refl h;
      ends = says_one (codes ")") (codes ";") t refl h;
      is_main_word = says_one (codes ")") (codes "main") t refl h;
      is_attribute_word = says_one (codes ")") (codes "__attribute__") t refl h;
    }
    step_close o false h = step_extern o h (says (codes "extern") t) refl

    step_open : (b : Bool) → says (codes "(") t ≡ b
        → Sorted t
        (cond b Open (cond (says (codes ")") t) Close (cond (says (codes "extern") t) Extern (cond (says (codes ";") t) Semicolon (cond (says (codes "main") t) Main (cond (says (codes "__attribute__") t) Attribute Plain))))))
    step_open true h = record {
      opens = h;
      shuts = says_one (codes "(") (codes ")") t refl h;
      begins = says_one (codes "(") (codes "extern") t refl h;
      ends = says_one (codes "(") (codes ";") t refl h;
      is_main_word = says_one (codes "(") (codes "main") t refl h;
      is_attribute_word = says_one (codes "(") (codes "__attribute__") t refl h;
    }
    step_open false h = step_close h (says (codes ")") t) refl

-- what passes `extern`
abbrev extern_rest : Bool → List Token → List Token
extern_rest false ts = no_extern ts
extern_rest true ts = past_semicolon ts

-- no token of these is `extern`
abbrev Free : List Token → Type 0
Free [] = Unit {0}
Free (t ∷ ts) = (is_extern (class_of t) ≡ false) × Free ts

free_rest : (e : Bool) (ts : List Token) → Free (extern_rest e ts)
free_rest false [] = tt
free_rest true [] = tt
free_rest false (t ∷ ts) = step (says (codes "extern") t) refl (free_rest true ts) (free_rest false ts)
  where
    step : (b : Bool) → says (codes "extern") t ≡ b → Free (past_semicolon ts) → Free (no_extern ts) → Free (cond b (past_semicolon ts) (t ∷ no_extern ts))
    step true h x y = x
    step false h x y = (sym (sorted t).begins ∙ h, y)
free_rest true (t ∷ ts) = step (says (codes ";") t) (free_rest false ts) (free_rest true ts)
  where
    step : (b : Bool) → Free (no_extern ts) → Free (past_semicolon ts) → Free (cond b (no_extern ts) (past_semicolon ts))
    step true x y = x
    step false x y = y

extern_is : (c : Class) → is_extern c ≡ true → c ≡ Extern
extern_is Extern h = refl
extern_is _ h = cc

stays_outside : (c : Class) → is_extern c ≡ false → extern_after false c ≡ false
stays_outside Extern h = cc
stays_outside _ h = refl

inside_rest : (t : Token) (ts : List Token) → extern_rest true (t ∷ ts) ≡ extern_rest (extern_after true (class_of t)) ts
inside_rest t ts = ap (λ b. cond b (no_extern ts) (past_semicolon ts)) (sorted t).ends ∙ step (class_of t)
  where
    step : (c : Class) → cond (is_semicolon c) (no_extern ts) (past_semicolon ts) ≡ extern_rest (extern_after true c) ts
    step Semicolon = refl
    step _ = refl

begin_rest : (t : Token) (ts : List Token) → is_extern (class_of t) ≡ true → extern_rest false (t ∷ ts) ≡ past_semicolon ts
begin_rest t ts h = ap (λ b. cond b (past_semicolon ts) (t ∷ no_extern ts)) ((sorted t).begins ∙ h)

outside_rest : (t : Token) (ts : List Token) → is_extern (class_of t) ≡ false → extern_rest false (t ∷ ts) ≡ t ∷ no_extern ts
outside_rest t ts h = ap (λ b. cond b (past_semicolon ts) (t ∷ no_extern ts)) ((sorted t).begins ∙ h)

ahead_free : (k : ℕ) (e : Bool) (ts : List Token) → ahead k false (extern_rest e ts) ≡ ahead k e ts
ahead_free k false [] = refl
ahead_free k true [] = refl
ahead_free k true (t ∷ ts) = ap (ahead k false) (inside_rest t ts) ∙ ahead_free k (extern_after true (class_of t)) ts
ahead_free k false (t ∷ ts) = step (is_extern (class_of t)) refl (ahead_free k true ts) (ahead_free k false ts)
  where
    step : (b : Bool) → is_extern (class_of t) ≡ b → ahead k false (past_semicolon ts) ≡ ahead k true ts → ahead k false (no_extern ts) ≡ ahead k false ts
        → ahead k false (extern_rest false (t ∷ ts)) ≡ ahead k false (t ∷ ts)
    step true h x y =
        ap (ahead k false) (begin_rest t ts h)
        ∙ (x ∙ ap (λ c. bracket false c (ahead k (extern_after false c) ts)) (sym (extern_is (class_of t) h)))
    step false h x y =
        ap (ahead k false) (outside_rest t ts h)
        ∙ (ap (λ e. bracket false (class_of t) (ahead k e (no_extern ts))) (stays_outside (class_of t) h)
        ∙ (ap (bracket false (class_of t)) y
        ∙ ap (λ e. bracket false (class_of t) (ahead k e ts)) (sym (stays_outside (class_of t) h))))

judged_extern : (b : Bool) (l : Last) (r : Region) → judged false b l r Extern ≡ record { keeps = false; region = r }
judged_extern b l Live = refl
judged_extern b l (Dead kind n) = refl

abbrev at_context : Bool → Last → Region → List Token → Skim
at_context e l r out = record { context = record { in_extern = e; last = l }; region = r; kept = out }

-- ranges of `extern` may be left out first
run_free : (k : ℕ) (e : Bool) (l : Last) (r : Region) (out ts : List Token) → (run k (at_context e l r out) ts).kept ≡ (run k (at_context false l r out) (extern_rest e ts)).kept
run_free k false l r out [] = refl
run_free k true l r out [] = refl
run_free k true l r out (t ∷ ts) =
    run_free k (extern_after true (class_of t)) l r out ts ∙ ap (λ us. (run k (at_context false l r out) us).kept) (sym (inside_rest t ts))
run_free k false l r out (t ∷ ts) = step (is_extern (class_of t)) refl (λ e m s us. run_free k e m s us ts)
  where
    step : (b : Bool) → is_extern (class_of t) ≡ b
        → ((e : Bool) (m : Last) (s : Region) (us : List Token) → (run k (at_context e m s us) ts).kept ≡ (run k (at_context false m s us) (extern_rest e ts)).kept)
        → (run k (at_context false l r out) (t ∷ ts)).kept ≡ (run k (at_context false l r out) (extern_rest false (t ∷ ts))).kept
    step true h ih =
        ap (λ c. (run k (goes_to (context_after (record { in_extern = false; last = l }) c) (judged false (nat_lt 0 (ahead k (extern_after false c) ts)) l r c) t out) ts).kept) (extern_is (class_of t) h)
        ∙ (ap (λ (j : Judgement). (run k (goes_to (record { in_extern = true; last = l }) j t out) ts).kept) (judged_extern (nat_lt 0 (ahead k true ts)) l r)
        ∙ (ih true l r out ∙ ap (λ us. (run k (at_context false l r out) us).kept) (sym (begin_rest t ts h))))
    step false h ih =
        let outside = stays_outside (class_of t) h in
        let m = context_after (record { in_extern = false; last = l }) (class_of t) in
        let test : nat_lt 0 (ahead k (extern_after false (class_of t)) ts) ≡ nat_lt 0 (ahead k (extern_after false (class_of t)) (no_extern ts)) =
        ap (λ e. nat_lt 0 (ahead k e ts)) outside ∙ (ap (nat_lt 0) (sym (ahead_free k false ts)) ∙ ap (λ e. nat_lt 0 (ahead k e (no_extern ts))) (sym outside)) in
        let j : Judgement = judged false (nat_lt 0 (ahead k (extern_after false (class_of t)) (no_extern ts))) l r (class_of t) in
        ap (λ b. (run k (fed b (at_context false l r out) t) ts).kept) test
        ∙ (ih (extern_after false (class_of t)) m.last j.region (put_last j.keeps t out)
        ∙ (ap (λ e. (run k (at_context false m.last j.region (put_last j.keeps t out)) (extern_rest e ts)).kept) outside
        ∙ (ap (λ e. (run k (at_context e m.last j.region (put_last j.keeps t out)) (no_extern ts)).kept) (sym outside)
        ∙ ap (λ us. (run k (at_context false l r out) us).kept) (sym (outside_rest t ts h)))))

-- ---- without `extern`
abbrev close_at : Bool → Bool → ℕ → List Token → Option (List Token)
close_at o r n us = cond o (behind_close (n + 1) us) (cond r (cond (nat_eq n 0) (Some us) (behind_close (n - 1) us)) (behind_close n us))

close_next : (t : Token) (c : Class) → Sorted t c → (n : ℕ) (us : List Token) → behind_close n (t ∷ us) ≡ close_at (is_open c) (is_close c) n us
close_next t c s n us = ap (λ o. close_at o (says (codes ")") t) n us) s.opens ∙ ap (λ r. close_at (is_open c) r n us) s.shuts

parameters_plain : (b : Bool) (t : Token) (c : Class) → Sorted t c → is_open c ≡ false → (us : List Token) → no_parameters b (t ∷ us) ≡ t ∷ no_parameters (is_main c) us
parameters_plain true t c s h us =
    ap (λ o. cond o (t ∷ past_parameters 0 us) (t ∷ no_parameters (says (codes "main") t) us)) (s.opens ∙ h) ∙ ap (λ m. t ∷ no_parameters m us) s.is_main_word
parameters_plain false t c s h us = ap (λ m. t ∷ no_parameters m us) s.is_main_word

parameters_open : (t : Token) → Sorted t Open → (us : List Token) → no_parameters true (t ∷ us) ≡ t ∷ past_parameters 0 us
parameters_open t s us = ap (λ o. cond o (t ∷ past_parameters 0 us) (t ∷ no_parameters (says (codes "main") t) us)) s.opens

parameters_shut : (t : Token) → Sorted t Open → (us : List Token) → no_parameters false (t ∷ us) ≡ t ∷ no_parameters false us
parameters_shut t s us = ap (λ m. t ∷ no_parameters m us) s.is_main_word

abbrev past_at : Bool → Bool → Token → ℕ → List Token → List Token
past_at o r t j us = cond o (past_parameters (j + 1) us) (cond r (cond (nat_eq j 0) (t ∷ no_parameters false us) (past_parameters (j - 1) us)) (past_parameters j us))

past_next : (t : Token) (c : Class) → Sorted t c → (j : ℕ) (us : List Token) → past_parameters j (t ∷ us) ≡ past_at (is_open c) (is_close c) t j us
past_next t c s j us = ap (λ o. past_at o (says (codes ")") t) t j us) s.opens ∙ ap (λ r. past_at (is_open c) r t j us) s.shuts

-- what stands behind a bracket, without parameters
abbrev bare : Option (List Token) → Option (List Token)
bare o = option_map (no_parameters false) o

record Behind (us : List Token) : Type 0 where
  outside : (b : Bool) (n : ℕ) → behind_close n (no_parameters b us) ≡ bare (behind_close n us)
  inside : (j n : ℕ) → behind_close (n + 1) (past_parameters j us) ≡ bare (behind_close (n + 1 + j) us)

behind_outside : (t : Token) (us : List Token) (c : Class) → Sorted t c → Behind us → (b : Bool) (n : ℕ) → behind_close n (no_parameters b (t ∷ us)) ≡ bare (close_at (is_open c) (is_close c) n us)
behind_outside t us Open s ih true n =
    ap (behind_close n) (parameters_open t s us)
    ∙ (close_next t Open s n (past_parameters 0 us) ∙ (ih.inside 0 n ∙ (let e : n + 1 + 0 ≡ n + 1 = omega arith in ap (λ i. bare (behind_close i us)) e)))
behind_outside t us Open s ih false n = ap (behind_close n) (parameters_shut t s us) ∙ (close_next t Open s n (no_parameters false us) ∙ ih.outside false (n + 1))
behind_outside t us Close s ih b n = ap (behind_close n) (parameters_plain b t Close s refl us) ∙ (close_next t Close s n (no_parameters false us) ∙ step (nat_eq n 0))
  where
    step : (z : Bool) → cond z (Some (no_parameters false us)) (behind_close (n - 1) (no_parameters false us)) ≡ bare (cond z (Some us) (behind_close (n - 1) us))
    step true = refl
    step false = ih.outside false (n - 1)
behind_outside t us Main s ih b n = ap (behind_close n) (parameters_plain b t Main s refl us) ∙ (close_next t Main s n (no_parameters true us) ∙ ih.outside true n)
behind_outside t us Extern s ih b n = ap (behind_close n) (parameters_plain b t Extern s refl us) ∙ (close_next t Extern s n (no_parameters false us) ∙ ih.outside false n)
behind_outside t us Semicolon s ih b n = ap (behind_close n) (parameters_plain b t Semicolon s refl us) ∙ (close_next t Semicolon s n (no_parameters false us) ∙ ih.outside false n)
behind_outside t us Attribute s ih b n = ap (behind_close n) (parameters_plain b t Attribute s refl us) ∙ (close_next t Attribute s n (no_parameters false us) ∙ ih.outside false n)
behind_outside t us Plain s ih b n = ap (behind_close n) (parameters_plain b t Plain s refl us) ∙ (close_next t Plain s n (no_parameters false us) ∙ ih.outside false n)

behind_inside : (t : Token) (us : List Token) (c : Class) → Sorted t c → Behind us → (j n : ℕ) → behind_close (n + 1) (past_at (is_open c) (is_close c) t j us) ≡ bare (close_at (is_open c) (is_close c) (n + 1 + j) us)
behind_inside t us Open s ih j n = ih.inside (j + 1) n ∙ (let e : n + 1 + (j + 1) ≡ n + 1 + j + 1 = omega arith in ap (λ i. bare (behind_close i us)) e)
behind_inside t us Close s ih j n = step (nat_eq j 0) (nat_eq (n + 1 + j) 0) refl (ne_eqb (n + 1 + j) 0 (λ e. omega arith))
  where
    step : (z y : Bool) → nat_eq j 0 ≡ z → y ≡ false
        → behind_close (n + 1) (cond z (t ∷ no_parameters false us) (past_parameters (j - 1) us)) ≡ bare (cond y (Some us) (behind_close (n + 1 + j - 1) us))
    step z true e f = cc
    step true false e f =
        let none = eqb-true j 0 e in
        let same : n + 1 - 1 ≡ n + 1 + j - 1 = omega arith in
        close_next t Close s (n + 1) (no_parameters false us)
        ∙ (ap (λ b. cond b (Some (no_parameters false us)) (behind_close (n + 1 - 1) (no_parameters false us))) (ne_eqb (n + 1) 0 (λ e. omega arith))
        ∙ (ih.outside false (n + 1 - 1) ∙ ap (λ i. bare (behind_close i us)) same))
    step false false e f =
        let some = eqb-false j 0 e in
        let same : n + 1 + (j - 1) ≡ n + 1 + j - 1 = omega arith in
        ih.inside (j - 1) n ∙ ap (λ i. bare (behind_close i us)) same
behind_inside t us _ s ih j n = ih.inside j n

behind : (us : List Token) → Behind us
behind [] = record { outside = λ b n. refl; inside = λ j n. refl }
behind (t ∷ us) =
    let s = sorted t in
    let ih = behind us in
    record {
      outside = λ b n. behind_outside t us (class_of t) s ih b n ∙ ap bare (sym (close_next t (class_of t) s n us));
      inside = λ j n.
          ap (behind_close (n + 1)) (past_next t (class_of t) s j us)
          ∙ (behind_inside t us (class_of t) s ih j n ∙ ap bare (sym (close_next t (class_of t) s (n + 1 + j) us)));
    }

-- a bracket is closed where more close than are open
closed_ahead : (n : ℕ) (us : List Token) → Free us → is_some (behind_close n us) ≡ nat_lt n (ahead 0 false us)
closed_ahead n [] f = sym (le-ltb n 0 (omega arith))
closed_ahead n (t ∷ us) f =
    ap is_some (close_next t (class_of t) (sorted t) n us)
    ∙ (step (class_of t) f.0 (λ i. closed_ahead i us f.1) ∙ ap (λ e. nat_lt n (bracket false (class_of t) (ahead 0 e us))) (sym (stays_outside (class_of t) f.0)))
  where
    alike : (a b c d : ℕ) → (a < b → c < d) → (b ≤ a → d ≤ c) → nat_lt a b ≡ nat_lt c d
    alike a b c d h g = ⊎_elim (λ lt. lt-ltb a b lt ∙ sym (lt-ltb c d (h lt))) (λ le. le-ltb a b le ∙ sym (le-ltb c d (g le))) (cases_lt a b)

    at_close : (z : Bool) → nat_eq n 0 ≡ z → ((i : ℕ) → is_some (behind_close i us) ≡ nat_lt i (ahead 0 false us)) → is_some (cond z (Some us) (behind_close (n - 1) us)) ≡ nat_lt n (ahead 0 false us + 1)
    at_close true e ih = let none = eqb-true n 0 e in sym (lt-ltb n (ahead 0 false us + 1) (omega arith))
    at_close false e ih = let some = eqb-false n 0 e in ih (n - 1) ∙ alike (n - 1) (ahead 0 false us) n (ahead 0 false us + 1) (λ h. omega arith) (λ h. omega arith)

    step : (c : Class) → is_extern c ≡ false → ((i : ℕ) → is_some (behind_close i us) ≡ nat_lt i (ahead 0 false us)) → is_some (close_at (is_open c) (is_close c) n us) ≡ nat_lt n (bracket false c (ahead 0 false us))
    step Open h ih = ih (n + 1) ∙ alike (n + 1) (ahead 0 false us) n (ahead 0 false us - 1) (λ h. omega arith) (λ h. omega arith)
    step Close h ih = at_close (nat_eq n 0) refl ih
    step _ h ih = ih n

-- ---- what is left of tokens, by what stands before them
abbrev live_rest : Last → List Token → List Token
live_rest last.Other us = no_attribute (no_parameters false us)
live_rest last.Main us = no_attribute (no_parameters true us)
live_rest last.Attribute us = past_attribute (no_parameters false us)

abbrev group_rest : Option (List Token) → List Token
group_rest None = []
group_rest (Some us) = no_attribute (no_parameters false us)

abbrev region_rest : Last → Region → List Token → List Token
region_rest l Live us = live_rest l us
region_rest l (Dead Parameters n) us = no_attribute (past_parameters n us)
region_rest l (Dead Group n) us = group_rest (behind_close n us)

attribute_next : (t : Token) (c : Class) → Sorted t c → (us : List Token) → no_attribute (t ∷ us) ≡ cond (is_attribute c) (past_attribute us) (t ∷ no_attribute us)
attribute_next t c s us = ap (λ a. cond a (past_attribute us) (t ∷ no_attribute us)) s.is_attribute_word

past_attribute_next : (t : Token) (c : Class) → Sorted t c → (us : List Token)
    → past_attribute (t ∷ us) ≡ cond (is_open c && closes 0 us) (past_group 0 us) (cond (is_attribute c) (past_attribute us) (t ∷ no_attribute us))
past_attribute_next t c s us =
    ap (λ o. cond (o && closes 0 us) (past_group 0 us) (cond (says (codes "__attribute__") t) (past_attribute us) (t ∷ no_attribute us))) s.opens
    ∙ ap (λ a. cond (is_open c && closes 0 us) (past_group 0 us) (cond a (past_attribute us) (t ∷ no_attribute us))) s.is_attribute_word

-- a token that opens no bracket
live_plain : (l : Last) (t : Token) (c : Class) → Sorted t c → is_open c ≡ false → (us : List Token)
    → live_rest l (t ∷ us) ≡ cond (is_attribute c) (past_attribute (no_parameters (is_main c) us)) (t ∷ no_attribute (no_parameters (is_main c) us))
live_plain last.Other t c s h us = ap no_attribute (parameters_plain false t c s h us) ∙ attribute_next t c s (no_parameters (is_main c) us)
live_plain last.Main t c s h us = ap no_attribute (parameters_plain true t c s h us) ∙ attribute_next t c s (no_parameters (is_main c) us)
live_plain last.Attribute t c s h us =
    let vs = no_parameters (is_main c) us in
    ap past_attribute (parameters_plain false t c s h us)
    ∙ (past_attribute_next t c s vs ∙ ap (λ o. cond (o && closes 0 vs) (past_group 0 vs) (cond (is_attribute c) (past_attribute vs) (t ∷ no_attribute vs))) h)

keeps_token : (out : List Token) (t : Token) (ts : List Token) → put_last true t out ++ no_words ts ≡ out ++ no_words (t ∷ ts)
keeps_token out t ts = step (is_dropped t)
  where
    step : (b : Bool) → cond (not b) (out ++ t ∷ []) out ++ no_words ts ≡ out ++ cond b (no_words ts) (t ∷ no_words ts)
    step true = refl
    step false = append_assoc out (t ∷ []) (no_words ts)

-- the pass over these tokens keeps what is left
abbrev Keeps : List Token → Type 0
Keeps us = (l : Last) (r : Region) (out : List Token) → (run 0 (at_context false l r out) us).kept ≡ out ++ no_words (region_rest l r us)

-- it does so behind this token
abbrev KeepsBehind : Token → Class → List Token → Last → Region → List Token → Type 0
KeepsBehind t c us l r out =
    (run 0 (goes_to (record { in_extern = false; last = (context_after (record { in_extern = false; last = l }) c).last }) (judged false (nat_lt 0 (ahead 0 false us)) l r c) t out) us).kept
    ≡ out ++ no_words (region_rest l r (t ∷ us))

kept_token : (t : Token) (us : List Token) (out : List Token) (l m : Last) (r s : Region) → Keeps us → region_rest l r (t ∷ us) ≡ t ∷ region_rest m s us
    → (run 0 (at_context false m s (put_last true t out)) us).kept ≡ out ++ no_words (region_rest l r (t ∷ us))
kept_token t us out l m r s ih e = ih m s (put_last true t out) ∙ (keeps_token out t (region_rest m s us) ∙ ap (λ vs. out ++ no_words vs) (sym e))

dropped_token : (t : Token) (us : List Token) (out : List Token) (l m : Last) (r s : Region) → Keeps us → region_rest l r (t ∷ us) ≡ region_rest m s us
    → (run 0 (at_context false m s out) us).kept ≡ out ++ no_words (region_rest l r (t ∷ us))
dropped_token t us out l m r s ih e = ih m s out ∙ ap (λ vs. out ++ no_words vs) (sym e)

group_here : (us : List Token) → past_group 0 (no_parameters false us) ≡ group_rest (behind_close 0 us)
group_here us = past_group_behind 0 (no_parameters false us) ∙ (ap behind_group ((behind us).outside false 0) ∙ step (behind_close 0 us))
  where
    step : (o : Option (List Token)) → behind_group (bare o) ≡ group_rest o
    step None = refl
    step (Some vs) = refl

closes_here : (us : List Token) → Free us → closes 0 (no_parameters false us) ≡ nat_lt 0 (ahead 0 false us)
closes_here us f = closes_behind 0 (no_parameters false us) ∙ (ap is_some ((behind us).outside false 0) ∙ (step (behind_close 0 us) ∙ closed_ahead 0 us f))
  where
    step : (o : Option (List Token)) → is_some (bare o) ≡ is_some o
    step None = refl
    step (Some vs) = refl

live_open : (t : Token) (us : List Token) (l : Last) (out : List Token) → Sorted t Open → Free us → Keeps us → KeepsBehind t Open us l Live out
live_open t us last.Other out s f ih =
    kept_token t us out last.Other last.Other Live Live ih (ap no_attribute (parameters_shut t s us) ∙ attribute_next t Open s (no_parameters false us))
live_open t us last.Main out s f ih =
    kept_token t us out last.Main last.Other Live (Dead Parameters 0) ih (ap no_attribute (parameters_open t s us) ∙ attribute_next t Open s (past_parameters 0 us))
live_open t us last.Attribute out s f ih = step (nat_lt 0 (ahead 0 false us)) refl
  where
    here : past_attribute (no_parameters false (t ∷ us))
        ≡ cond (nat_lt 0 (ahead 0 false us)) (past_group 0 (no_parameters false us)) (t ∷ no_attribute (no_parameters false us))
    here =
        ap past_attribute (parameters_shut t s us)
        ∙ (past_attribute_next t Open s (no_parameters false us)
        ∙ ap (λ b. cond b (past_group 0 (no_parameters false us)) (t ∷ no_attribute (no_parameters false us))) (closes_here us f))

    step : (b : Bool) → nat_lt 0 (ahead 0 false us) ≡ b
        → (run 0 (goes_to (record { in_extern = false; last = last.Other }) (judged false b last.Attribute Live Open) t out) us).kept
        ≡ out ++ no_words (region_rest last.Attribute Live (t ∷ us))
    step true e =
        dropped_token t us out last.Attribute last.Other Live (Dead Group 0) ih
        (here ∙ (ap (λ b. cond b (past_group 0 (no_parameters false us)) (t ∷ no_attribute (no_parameters false us))) e ∙ group_here us))
    step false e =
        kept_token t us out last.Attribute last.Other Live Live ih
        (here ∙ ap (λ b. cond b (past_group 0 (no_parameters false us)) (t ∷ no_attribute (no_parameters false us))) e)

keeps_live : (t : Token) (c : Class) (us : List Token) (l : Last) (out : List Token) → Sorted t c → is_extern c ≡ false → Free us → Keeps us → KeepsBehind t c us l Live out
keeps_live t Open us l out s h f ih = live_open t us l out s f ih
keeps_live t Extern us l out s h f ih = cc
keeps_live t Attribute us l out s h f ih = dropped_token t us out l last.Attribute Live Live ih (live_plain l t Attribute s refl us)
keeps_live t Main us l out s h f ih = kept_token t us out l last.Main Live Live ih (live_plain l t Main s refl us)
keeps_live t Close us l out s h f ih = kept_token t us out l last.Other Live Live ih (live_plain l t Close s refl us)
keeps_live t Semicolon us l out s h f ih = kept_token t us out l last.Other Live Live ih (live_plain l t Semicolon s refl us)
keeps_live t Plain us l out s h f ih = kept_token t us out l last.Other Live Live ih (live_plain l t Plain s refl us)

parameters_close : (t : Token) (us : List Token) (l : Last) (n : ℕ) (out : List Token) → Sorted t Close → Keeps us → KeepsBehind t Close us l (Dead Parameters n) out
parameters_close t us l n out s ih = step (nat_eq n 0) (past_next t Close s n us)
  where
    step : (z : Bool) → past_parameters n (t ∷ us) ≡ cond z (t ∷ no_parameters false us) (past_parameters (n - 1) us)
        → (run 0 (goes_to (record { in_extern = false; last = last.Other }) (cond z (record { keeps = true; region = Live }) (record { keeps = false; region = Dead Parameters (n - 1) })) t out) us).kept
        ≡ out ++ no_words (no_attribute (past_parameters n (t ∷ us)))
    step true e = kept_token t us out l last.Other (Dead Parameters n) Live ih (ap no_attribute e ∙ attribute_next t Close s (no_parameters false us))
    step false e = dropped_token t us out l last.Other (Dead Parameters n) (Dead Parameters (n - 1)) ih (ap no_attribute e)

group_close : (t : Token) (us : List Token) (l : Last) (n : ℕ) (out : List Token) → Sorted t Close → Keeps us → KeepsBehind t Close us l (Dead Group n) out
group_close t us l n out s ih = step (nat_eq n 0) (close_next t Close s n us)
  where
    step : (z : Bool) → behind_close n (t ∷ us) ≡ cond z (Some us) (behind_close (n - 1) us)
        → (run 0 (goes_to (record { in_extern = false; last = last.Other }) (cond z (record { keeps = false; region = Live }) (record { keeps = false; region = Dead Group (n - 1) })) t out) us).kept
        ≡ out ++ no_words (group_rest (behind_close n (t ∷ us)))
    step true e = dropped_token t us out l last.Other (Dead Group n) Live ih (ap group_rest e)
    step false e = dropped_token t us out l last.Other (Dead Group n) (Dead Group (n - 1)) ih (ap group_rest e)

keeps_dead : (t : Token) (c : Class) (us : List Token) (l : Last) (kind : Kind) (n : ℕ) (out : List Token) → Sorted t c → Keeps us → KeepsBehind t c us l (Dead kind n) out
keeps_dead t Open us l Parameters n out s ih = dropped_token t us out l last.Other (Dead Parameters n) (Dead Parameters (n + 1)) ih (ap no_attribute (past_next t Open s n us))
keeps_dead t Open us l Group n out s ih = dropped_token t us out l last.Other (Dead Group n) (Dead Group (n + 1)) ih (ap group_rest (close_next t Open s n us))
keeps_dead t Close us l Parameters n out s ih = parameters_close t us l n out s ih
keeps_dead t Close us l Group n out s ih = group_close t us l n out s ih
keeps_dead t Extern us l Parameters n out s ih = dropped_token t us out l l (Dead Parameters n) (Dead Parameters n) ih (ap no_attribute (past_next t Extern s n us))
keeps_dead t Extern us l Group n out s ih = dropped_token t us out l l (Dead Group n) (Dead Group n) ih (ap group_rest (close_next t Extern s n us))
keeps_dead t Semicolon us l Parameters n out s ih = dropped_token t us out l last.Other (Dead Parameters n) (Dead Parameters n) ih (ap no_attribute (past_next t Semicolon s n us))
keeps_dead t Semicolon us l Group n out s ih = dropped_token t us out l last.Other (Dead Group n) (Dead Group n) ih (ap group_rest (close_next t Semicolon s n us))
keeps_dead t Main us l Parameters n out s ih = dropped_token t us out l last.Main (Dead Parameters n) (Dead Parameters n) ih (ap no_attribute (past_next t Main s n us))
keeps_dead t Main us l Group n out s ih = dropped_token t us out l last.Main (Dead Group n) (Dead Group n) ih (ap group_rest (close_next t Main s n us))
keeps_dead t Attribute us l Parameters n out s ih = dropped_token t us out l last.Attribute (Dead Parameters n) (Dead Parameters n) ih (ap no_attribute (past_next t Attribute s n us))
keeps_dead t Attribute us l Group n out s ih = dropped_token t us out l last.Attribute (Dead Group n) (Dead Group n) ih (ap group_rest (close_next t Attribute s n us))
keeps_dead t Plain us l Parameters n out s ih = dropped_token t us out l last.Other (Dead Parameters n) (Dead Parameters n) ih (ap no_attribute (past_next t Plain s n us))
keeps_dead t Plain us l Group n out s ih = dropped_token t us out l last.Other (Dead Group n) (Dead Group n) ih (ap group_rest (close_next t Plain s n us))

pub keeps : (us : List Token) → Free us → Keeps us
keeps [] f = λ l r out. step l r out
  where
    step : (l : Last) (r : Region) (out : List Token) → out ≡ out ++ no_words (region_rest l r [])
    step last.Other Live out = sym (append-nil out)
    step last.Main Live out = sym (append-nil out)
    step last.Attribute Live out = sym (append-nil out)
    step l (Dead Parameters n) out = sym (append-nil out)
    step l (Dead Group n) out = sym (append-nil out)
keeps (t ∷ us) f = λ l r out.
    ap (λ e. (run 0 (goes_to (record { in_extern = e; last = (context_after (record { in_extern = false; last = l }) (class_of t)).last }) (judged false (nat_lt 0 (ahead 0 e us)) l r (class_of t)) t out) us).kept)
    (stays_outside (class_of t) f.0)
    ∙ step l r out (keeps us f.1)
  where
    step : (l : Last) (r : Region) (out : List Token) → Keeps us → KeepsBehind t (class_of t) us l r out
    step l Live out ih = keeps_live t (class_of t) us l out (sorted t) f.0 f.1 ih
    step l (Dead kind n) out ih = keeps_dead t (class_of t) us l kind n out (sorted t) ih

-- what the pass keeps of all tokens is what is left of them
pub run_kept : (ts : List Token) → (run 0 beginning ts).kept ≡ kept ts
run_kept ts = run_free 0 false last.Other Live [] ts ∙ keeps (no_extern ts) (free_rest false ts) last.Other Live []
