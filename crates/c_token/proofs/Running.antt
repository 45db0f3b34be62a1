-- Laws of the pass over a list of tokens.
use Rattle.std.proofs.Common.{◌≡◌, ℕ, ◌+◌, ◌-◌, ◌<◌, ◌≤◌, Bool, true, false, cond, not, ◌&&◌, nat_lt, List, [], ◌∷◌, ◌++◌, refl, sym, ap, ◌∙◌, arith, min, append_assoc, append-nil}
use Rattle.std.proofs.lemmas.Bool.{lt-ltb, le-ltb, ne_eqb, cases_lt}
use Rattle.dg_base.specs.declared.Place.{Place}
use Rattle.token_list.specs.declared.Token.{Token}
use Rattle.c_token.specs.declared.skim.Class.{Class}
use Rattle.c_token.specs.declared.skim.Class.TheVariants.{Open, Close}
use Rattle.c_token.specs.declared.skim.Context.{Context}
use Rattle.c_token.specs.declared.skim.Judgement.{Judgement}
use Rattle.c_token.specs.declared.skim.Kind.{Kind}
use Rattle.c_token.specs.declared.skim.Last.{Last}
use Rattle.c_token.specs.declared.skim.Region.{Region}
use Rattle.c_token.specs.declared.skim.Region.TheVariants.{Live, Dead}
use Rattle.c_token.specs.Dropping.{is_dropped}
use Rattle.c_token.specs.Macros.{put_at, all_at}
use Rattle.c_token.specs.Skimming.{class_of, extern_after, extern_behind, context_after, context_behind, bracket, ahead, open_more, opened, is_parameters, judged, Skim, put_last, goes_to, fed, run}
use Rattle.c_token.proofs.Effects.{ahead_append, ahead_is}
use Rattle.std.proofs.Common.{⊎_elim}
use Rattle.std.proofs.lemmas.List.{map-append}

-- one list behind another
pub run_append : (k : ℕ) (s : Skim) (a b : List Token) → run k s (a ++ b) ≡ run k (run (ahead k (extern_behind s.context.in_extern a) b) s a) b
run_append k s [] b = refl
run_append k s (t ∷ ts) b =
    let f = extern_after s.context.in_extern (class_of t) in
    let j = ahead k (extern_behind f ts) b in
    let go : Bool → Skim = λ c. fed c s t in
    ap (λ n. run k (go (nat_lt 0 n)) (ts ++ b)) (ahead_append k f ts b) ∙ run_append k (go (nat_lt 0 (ahead j f ts))) ts b

pub run_context : (k : ℕ) (s : Skim) (ts : List Token) → (run k s ts).context ≡ context_behind s.context ts
run_context k s [] = refl
run_context k s (t ∷ ts) = run_context k (fed (nat_lt 0 (ahead k (extern_after s.context.in_extern (class_of t)) ts)) s t) ts

-- the number of brackets that are open behind a token of what is left out
pub record Sinks (e closed : Bool) (l : Last) (kind : Kind) (n : ℕ) (cl : Class) (c o : ℕ) : Type 0 where
  pub next : ℕ
  pub is : judged e closed l (Dead kind n) cl ≡ record { keeps = false; region = Dead kind next }
  pub fits : c ≤ next
  pub same : next - c + o ≡ n - bracket e cl c + open_more e cl c o

sinks : (e closed : Bool) (l : Last) (kind : Kind) (n : ℕ) (cl : Class) (c o : ℕ) → bracket e cl c ≤ n → Sinks e closed l kind n cl c o
sinks true closed l kind n cl c o h = record { next = n; is = refl; fits = h; same = refl }
sinks false closed l kind n Open c o h = record { next = n + 1; is = refl; fits = omega arith; same = omega arith }
sinks false closed l kind n Close c o h = record {
  next = n - 1;
  is = ap (λ b. cond b (record { keeps = is_parameters kind; region = Live }) (record { keeps = false; region = Dead kind (n - 1) })) (ne_eqb n 0 (λ e. omega arith));
  fits = omega arith;
  same = omega arith;
}
sinks false closed l kind n _ c o h = record { next = n; is = refl; fits = h; same = refl }

-- tokens that don't close what is left out
pub run_dead : (k : ℕ) (m : Context) (kind : Kind) (n : ℕ) (out ts : List Token) → ahead 0 m.in_extern ts ≤ n
    → run k (record { context = m; region = Dead kind n; kept = out }) ts
    ≡ record { context = context_behind m ts; region = Dead kind (n - ahead 0 m.in_extern ts + opened m.in_extern ts); kept = out }
run_dead k m kind n out [] h = let e : n ≡ n - 0 + 0 = omega arith in ap (λ j. record { context = m; region = Dead kind j; kept = out }) e
run_dead k m kind n out (t ∷ ts) h =
    let f = extern_after m.in_extern (class_of t) in
    let closed = nat_lt 0 (ahead k f ts) in
    let s = sinks m.in_extern closed m.last kind n (class_of t) (ahead 0 f ts) (opened f ts) h in
    ap (λ (j : Judgement). run k (goes_to (context_after m (class_of t)) j t out) ts) s.is
    ∙ (run_dead k (context_after m (class_of t)) kind s.next out ts s.fits
    ∙ ap (λ j. record { context = context_behind (context_after m (class_of t)) ts; region = Dead kind j; kept = out }) s.same)

more_opened : (e : Bool) (cl : Class) (c o i j : ℕ) → min i (open_more e cl c o) ≡ min j (open_more e cl c o) → min i o ≡ min j o
more_opened true cl c o i j h = h
more_opened false Open c o i j h = omega arith
more_opened false _ c o i j h = h

same_test : (c o i j : ℕ) → min i (o + (1 - c)) ≡ min j (o + (1 - c)) → nat_lt 0 (c + (i - o)) ≡ nat_lt 0 (c + (j - o))
same_test c o i j h =
    ⊎_elim
    (λ some. let other : 0 < c + (j - o) = omega arith in lt-ltb 0 (c + (i - o)) some ∙ sym (lt-ltb 0 (c + (j - o)) other))
    (λ none. let other : c + (j - o) ≤ 0 = omega arith in le-ltb 0 (c + (i - o)) none ∙ sym (le-ltb 0 (c + (j - o)) other))
    (cases_lt 0 (c + (i - o)))

-- only a bracket that opens asks what closes behind
judged_dead_any : (a b : Bool) (l : Last) (kind : Kind) (n : ℕ) (cl : Class) → judged false a l (Dead kind n) cl ≡ judged false b l (Dead kind n) cl
judged_dead_any a b l kind n cl = refl

judged_alike : (e : Bool) (l : Last) (r : Region) (cl : Class) (c o i j : ℕ) → min i (open_more e cl c o) ≡ min j (open_more e cl c o)
    → judged e (nat_lt 0 (c + (i - o))) l r cl ≡ judged e (nat_lt 0 (c + (j - o))) l r cl
judged_alike true l r cl c o i j h = refl
judged_alike false l (Dead kind n) cl c o i j h = refl
judged_alike false l Live Open c o i j h = ap (λ b. judged false b l Live Open) (same_test c o i j h)
judged_alike false l Live _ c o i j h = refl

-- more closers behind than the tokens open change nothing
pub run_alike : (i j : ℕ) (s : Skim) (ts : List Token) → min i (opened s.context.in_extern ts) ≡ min j (opened s.context.in_extern ts) → run i s ts ≡ run j s ts
run_alike i j s [] h = refl
run_alike i j s (t ∷ ts) h =
    let f = extern_after s.context.in_extern (class_of t) in
    let c = ahead 0 f ts in
    let o = opened f ts in
    let m = context_after s.context (class_of t) in
    let first : judged s.context.in_extern (nat_lt 0 (ahead i f ts)) s.context.last s.region (class_of t) ≡ judged s.context.in_extern (nat_lt 0 (ahead j f ts)) s.context.last s.region (class_of t) =
    ap (λ n. judged s.context.in_extern (nat_lt 0 n) s.context.last s.region (class_of t)) (ahead_is i f ts)
    ∙ (judged_alike s.context.in_extern s.context.last s.region (class_of t) c o i j h
    ∙ ap (λ n. judged s.context.in_extern (nat_lt 0 n) s.context.last s.region (class_of t)) (sym (ahead_is j f ts))) in
    ap (λ (w : Judgement). run i (goes_to m w t s.kept) ts) first
    ∙ run_alike i j (goes_to m (judged s.context.in_extern (nat_lt 0 (ahead j f ts)) s.context.last s.region (class_of t)) t s.kept) ts
    (more_opened s.context.in_extern (class_of t) c o i j h)

-- ---- places
pub class_at : (p : Place) (t : Token) → class_of (put_at p t) ≡ class_of t
unfolding class_of
class_at p t = refl

dropped_at : (p : Place) (t : Token) → is_dropped (put_at p t) ≡ is_dropped t
unfolding is_dropped
dropped_at p t = refl

pub extern_at : (p : Place) (e : Bool) (ts : List Token) → extern_behind e (all_at p ts) ≡ extern_behind e ts
extern_at p e [] = refl
extern_at p e (t ∷ ts) = ap (λ c. extern_behind (extern_after e c) (all_at p ts)) (class_at p t) ∙ extern_at p (extern_after e (class_of t)) ts

pub ahead_at : (p : Place) (k : ℕ) (e : Bool) (ts : List Token) → ahead k e (all_at p ts) ≡ ahead k e ts
ahead_at p k e [] = refl
ahead_at p k e (t ∷ ts) =
    ap (λ c. bracket e c (ahead k (extern_after e c) (all_at p ts))) (class_at p t) ∙ ap (bracket e (class_of t)) (ahead_at p k (extern_after e (class_of t)) ts)

pub opened_at : (p : Place) (e : Bool) (ts : List Token) → opened e (all_at p ts) ≡ opened e ts
opened_at p e [] = refl
opened_at p e (t ∷ ts) =
    let f = extern_after e (class_of t) in
    ap (λ c. open_more e c (ahead 0 (extern_after e c) (all_at p ts)) (opened (extern_after e c) (all_at p ts))) (class_at p t)
    ∙ (ap (λ n. open_more e (class_of t) n (opened f (all_at p ts))) (ahead_at p 0 f ts) ∙ ap (open_more e (class_of t) (ahead 0 f ts)) (opened_at p f ts))

-- the same at a place, behind other tokens that are kept
abbrev pub moved : Place → List Token → Skim → Skim
moved p out s = record { context = s.context; region = s.region; kept = out ++ all_at p s.kept }

put_moved : (p : Place) (out : List Token) (b : Bool) (t : Token) (ts : List Token) → put_last b (put_at p t) (out ++ all_at p ts) ≡ out ++ all_at p (put_last b t ts)
put_moved p out b t ts = ap (λ d. cond (b && not d) ((out ++ all_at p ts) ++ put_at p t ∷ []) (out ++ all_at p ts)) (dropped_at p t) ∙ step (b && not (is_dropped t))
  where
    step : (d : Bool) → cond d ((out ++ all_at p ts) ++ put_at p t ∷ []) (out ++ all_at p ts) ≡ out ++ all_at p (cond d (ts ++ t ∷ []) ts)
    step true = append_assoc out (all_at p ts) (put_at p t ∷ []) ∙ ap (λ us. out ++ us) (sym (map-append (put_at p) ts (t ∷ [])))
    step false = refl

fed_moved : (p : Place) (out : List Token) (b : Bool) (s : Skim) (t : Token) → fed b (moved p out s) (put_at p t) ≡ moved p out (fed b s t)
fed_moved p out b s t =
    ap (λ c. goes_to (context_after s.context c) (judged s.context.in_extern b s.context.last s.region c) (put_at p t) (out ++ all_at p s.kept)) (class_at p t)
    ∙ ap (λ us. record { context = context_after s.context (class_of t); region = (judged s.context.in_extern b s.context.last s.region (class_of t)).region; kept = us })
    (put_moved p out (judged s.context.in_extern b s.context.last s.region (class_of t)).keeps t s.kept)

pub run_moved : (k : ℕ) (p : Place) (out : List Token) (s : Skim) (ts : List Token) → run k (moved p out s) (all_at p ts) ≡ moved p out (run k s ts)
run_moved k p out s [] = refl
run_moved k p out s (t ∷ ts) =
    let f = extern_after s.context.in_extern (class_of t) in
    let test : nat_lt 0 (ahead k (extern_after s.context.in_extern (class_of (put_at p t))) (all_at p ts)) ≡ nat_lt 0 (ahead k f ts) =
    ap (λ c. nat_lt 0 (ahead k (extern_after s.context.in_extern c) (all_at p ts))) (class_at p t) ∙ ap (nat_lt 0) (ahead_at p k f ts) in
    ap (λ b. run k (fed b (moved p out s) (put_at p t)) (all_at p ts)) test
    ∙ (ap (λ (u : Skim). run k u (all_at p ts)) (fed_moved p out (nat_lt 0 (ahead k f ts)) s t) ∙ run_moved k p out (fed (nat_lt 0 (ahead k f ts)) s t) ts)

-- what is kept stays
pub run_keeps : (k : ℕ) (s : Skim) (ts : List Token) → (more : List Token) × ((run k s ts).kept ≡ s.kept ++ more)
run_keeps k s [] = ([], sym (append-nil s.kept))
run_keeps k s (t ∷ ts) =
    let f = extern_after s.context.in_extern (class_of t) in
    let j : Judgement = judged s.context.in_extern (nat_lt 0 (ahead k f ts)) s.context.last s.region (class_of t) in
    let first = put_keeps j.keeps t s.kept in
    let rest = run_keeps k (goes_to (context_after s.context (class_of t)) j t s.kept) ts in
    (first.0 ++ rest.0, rest.1 ∙ (ap (λ us. us ++ rest.0) first.1 ∙ append_assoc s.kept first.0 rest.0))
  where
    put_keeps : (b : Bool) (t : Token) (ts : List Token) → (more : List Token) × (put_last b t ts ≡ ts ++ more)
    put_keeps b t ts = step (b && not (is_dropped t))
      where
        step : (d : Bool) → (more : List Token) × (cond d (ts ++ t ∷ []) ts ≡ ts ++ more)
        step true = (t ∷ [], refl)
        step false = ([], sym (append-nil ts))
