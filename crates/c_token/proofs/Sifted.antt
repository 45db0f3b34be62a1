-- A search between two uses, and what it has found in the end.
use Rattle.std.proofs.Common.{◌≡◌, ℕ, ◌+◌, ◌<◌, Bool, List, [], ◌++◌, length, take, drop, get_or, find, Option, Some, None, refl, sym, ap, subst, ◌∙◌}
use Rattle.std.proofs.lemmas.List.Elements.{All-nil}
use Rattle.std.specs.HashMap.{values}
use Rattle.std.specs.List.{All}
use Rattle.dg_base.specs.declared.Place.{Place}
use Rattle.token_list.specs.declared.Token.{Token}
use Rattle.c_token.specs.declared.macros.Macro.{Macro}
use Rattle.c_token.specs.declared.macros.Use.{Use}
use Rattle.c_token.specs.declared.macros.Use.TheVariants.{Plain, Macro as MacroUse}
use Rattle.c_token.specs.declared.search.Frame.{Frame}
use Rattle.c_token.specs.declared.search.Search.{Search}
use Rattle.c_token.specs.declared.sieve.TheConstants.{MAX_TOKENS}
use Rattle.c_token.specs.declared.skim.Context.{Context}
use Rattle.c_token.specs.Dropping.{kept}
use Rattle.c_token.specs.Macros.{all_at}
use Rattle.c_token.specs.Searching.{use_place, frames_of, IsPassage, LeadsBy, Seeks, Sifts}
use Rattle.c_token.specs.Sieving.{State, state, Has}
use Rattle.c_token.specs.Sieving as sieving
use Rattle.c_token.specs.Skimming.{Skim, extern_behind, ahead, bounded, run, beginning}
use Rattle.c_token.specs.Tables.{use_tokens, all_tokens}
use Rattle.c_token.specs.Tokens.{is_unsupported}
use Rattle.c_token.proofs.Ends.{next_tokens}
use Rattle.c_token.proofs.Holding.{HasBy}
use Rattle.c_token.proofs.Kept.{run_kept}
use Rattle.c_token.proofs.Passing.{run_found, tokens_at}
use Rattle.c_token.proofs.Running.{run_append}

-- no macro is begun, and what follows leads to what comes of all tokens
pub record Between (bodies : List (List Token)) (holds : Bool) (s : Search) (rest all : List Token) : Type 0 where
  pub now : Skim
  pub holds_same : s.sieve.holds ≡ holds
  pub passages : All (IsPassage bodies holds (state s.sieve).words) (values s.passages)
  pub by : HasBy (state s.sieve).unsupported (state s.sieve) now
  pub leads : run 0 now rest ≡ run 0 beginning all

-- before the first use
pub between_start : (bodies : List (List Token)) (holds : Bool) (s : Search) (all : List Token) → state s.sieve ≡ sieving.beginning holds → values s.passages ≡ [] → Between bodies holds s all all
between_start bodies holds s all is none = record {
  now = beginning;
  holds_same = ap (λ (x : State). x.holds) is;
  passages = subst (All (IsPassage bodies holds (state s.sieve).words)) (sym none) (All-nil (IsPassage bodies holds (state s.sieve).words));
  by = subst (λ (x : State). HasBy x.unsupported x beginning) (sym is) (record { context = refl; region = refl; supported = refl; words = λ h. refl; count = λ h. refl });
  leads = refl;
}

own_place : (bodies : List (List Token)) (u : Use) → all_at (use_place u) (use_tokens bodies u) ≡ use_tokens bodies u
own_place bodies (Plain word) = refl
own_place bodies (MacroUse n p) = tokens_at bodies p p n

-- how many brackets close behind a use
abbrev pub closers : List (List Token) → Skim → Use → List Token → ℕ
closers bodies k u rest = ahead 0 (extern_behind k.context.in_extern (use_tokens bodies u)) rest

-- a use's tokens come next
pub between_use : (macros : List Macro) (bodies : List (List Token)) (holds : Bool) (s : Search) (u : Use) (rest all : List Token) (b : Between bodies holds s (use_tokens bodies u ++ rest) all) → (fs : List Frame) → fs ≡ []
    → Seeks macros bodies (use_place u) holds s fs (closers bodies b.now u rest) (all_at (use_place u) (use_tokens bodies u)) (run (closers bodies b.now u rest) b.now (use_tokens bodies u))
between_use macros bodies holds s u rest all b fs none = subst (λ us. Seeks macros bodies (use_place u) holds s fs (closers bodies b.now u rest) us (run (closers bodies b.now u rest) b.now (use_tokens bodies u))) (sym (own_place bodies u))
    (subst (λ gs. Seeks macros bodies (use_place u) holds s gs (closers bodies b.now u rest) (use_tokens bodies u) (run (closers bodies b.now u rest) b.now (use_tokens bodies u))) (sym none)
    (record { holds_same = b.holds_same; passages = b.passages; leads = step (state s.sieve).unsupported b.by }))
  where
    step : (o : Option Token) → HasBy o (state s.sieve) b.now
        → LeadsBy o macros bodies (use_place u) (state s.sieve) [] (closers bodies b.now u rest) (use_tokens bodies u) (run (closers bodies b.now u rest) b.now (use_tokens bodies u))
    step (Some t) h = run_found (closers bodies b.now u rest) b.now (use_tokens bodies u) t h
    step None h = record { now = b.now; has = h; begun = tt; is = refl }

-- the number of brackets that close, by the sieve's modes
pub closers_known : (bodies : List (List Token)) (s : State) (k : Skim) (u : Use) (rest : List Token) (n : ℕ) → HasBy s.unsupported s k
    → n ≡ bounded (ahead 0 (extern_behind s.context.in_extern (use_tokens bodies u)) rest) → s.unsupported ≡ None → n ≡ bounded (closers bodies k u rest)
closers_known bodies s k u rest n h e none =
    let has : Has s k = subst (λ o. HasBy o s k) none h in
    e ∙ ap (λ (m : Context). bounded (ahead 0 (extern_behind m.in_extern (use_tokens bodies u)) rest)) has.context

-- a use is passed
pub between_next : (macros : List Macro) (bodies : List (List Token)) (place : Place) (holds : Bool) (old new : Search) (u : Use) (rest all : List Token) (b : Between bodies holds old (use_tokens bodies u ++ rest) all) → (fs : List Frame) → fs ≡ []
    → Seeks macros bodies place holds new fs 0 [] (run (closers bodies b.now u rest) b.now (use_tokens bodies u)) → Between bodies holds new rest all
between_next macros bodies place holds old new u rest all b fs none s =
    let w = run (closers bodies b.now u rest) b.now (use_tokens bodies u) in
    let s' = subst (λ gs. Seeks macros bodies place holds new gs 0 [] w) none s in
    record {
      now = w;
      holds_same = s'.holds_same;
      passages = s'.passages;
      by = step w (state new.sieve).unsupported s'.leads;
      leads = sym (run_append 0 b.now (use_tokens bodies u) rest) ∙ b.leads;
    }
  where
    step : (w : Skim) (o : Option Token) → LeadsBy o macros bodies place (state new.sieve) [] 0 [] w → HasBy o (state new.sieve) w
    step w (Some t) h = h
    step w None h = subst (Has (state new.sieve)) h.is h.has

pub between_step : (macros : List Macro) (bodies : List (List Token)) (holds : Bool) (uses : List Use) (i next : ℕ) (d : Use) (place : Place) (old mid new : Search) (all : List Token) (n : ℕ) → place ≡ use_place (get_or uses i d)
    → i < length uses → next ≡ i + 1 → Between bodies holds old (all_tokens bodies (drop i uses)) all → frames_of old ≡ []
    → n ≡ bounded (ahead 0 (extern_behind old.sieve.context.in_extern (use_tokens bodies (get_or uses i d))) (all_tokens bodies (drop next uses)))
    → ((j : ℕ) (w : Skim) → ((state old.sieve).unsupported ≡ None → n ≡ bounded j) → Seeks macros bodies place holds old (frames_of old) j (all_at place (use_tokens bodies (get_or uses i d))) w
    → Seeks macros bodies place holds mid (frames_of mid) 0 [] w)
    → ((w : Skim) → Seeks macros bodies place holds mid (frames_of mid) 0 [] w → Seeks macros bodies place holds new (frames_of new) 0 [] w) → frames_of new ≡ []
    → Between bodies holds new (all_tokens bodies (drop (i + 1) uses)) all
between_step macros bodies holds uses i next d place old mid new all n at within is_next b begun closed pass finish ended =
    let u = get_or uses i d in
    let rest = all_tokens bodies (drop (i + 1) uses) in
    let here = subst (λ ts. Between bodies holds old ts all) (next_tokens bodies uses i d within) b in
    let j = closers bodies here.now u rest in
    let w = run j here.now (use_tokens bodies u) in
    let counted = subst (λ (k : ℕ). n ≡ bounded (ahead 0 (extern_behind old.sieve.context.in_extern (use_tokens bodies u)) (all_tokens bodies (drop k uses)))) is_next closed in
    let known = closers_known bodies (state old.sieve) here.now u rest n here.by counted in
    let there = subst (λ (p : Place). Seeks macros bodies p holds old (frames_of old) j (all_at p (use_tokens bodies u)) w) (sym at) (between_use macros bodies holds old u rest all here (frames_of old) begun) in
    between_next macros bodies place holds old new u rest all here (frames_of new) ended (finish w (pass j w known there))

-- behind the last use
pub sifted : (bodies : List (List Token)) (holds : Bool) (s : Search) (all : List Token) → Between bodies holds s [] all → Sifts holds all (state s.sieve)
sifted bodies holds s all b = step (state s.sieve).unsupported refl b.by
  where
    is : b.now.kept ≡ kept all
    is = ap (λ (k : Skim). k.kept) b.leads ∙ run_kept all

    step : (o : Option Token) → (state s.sieve).unsupported ≡ o → HasBy o (state s.sieve) b.now → Sifts holds all (state s.sieve)
    step (Some t) e h = record {
      unsupported = e ∙ (sym h ∙ ap (find is_unsupported) is);
      words = λ i none. cc (e, none);
      count = λ i none. cc (e, none);
    }
    step None e h = record {
      unsupported = e ∙ (sym h.supported ∙ ap (find is_unsupported) is);
      words = λ i none. h.words (b.holds_same ∙ i) ∙ ap (take MAX_TOKENS) is;
      count = λ i none. h.count (b.holds_same ∙ i) ∙ ap length is;
    }
