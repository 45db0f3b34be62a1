-- What is left of a list of tokens, by one pass that knows of each bracket behind `__attribute__` whether it is closed. No
-- public contract cites these: the proofs tie them to what is left.
use Rattle.std.specs.Prelude.{◌≡◌, ℕ, ◌+◌, ◌-◌, ◌^◌, Bool, true, false, not, ◌&&◌, ◌==◌, nat_lt, min, if◌then◌else◌, List, [], ◌∷◌, ◌++◌, Option, Some, None, unwrap_or, codes}
use Rattle.std.specs.Option.{option_or}
use Rattle.token_list.specs.declared.Token.{Token}
use Rattle.c_token.specs.declared.skim.Class.{Class}
use Rattle.c_token.specs.declared.skim.Class.TheVariants.{Extern, Semicolon, Main, Attribute, Open, Close, Plain}
use Rattle.c_token.specs.declared.skim.Last.{Last}
use Rattle.c_token.specs.declared.skim.Last.TheVariants as last
use Rattle.c_token.specs.declared.skim.Context.{Context}
use Rattle.c_token.specs.declared.skim.Kind.{Kind}
use Rattle.c_token.specs.declared.skim.Kind.TheVariants.{Parameters, Group}
use Rattle.c_token.specs.declared.skim.Region.{Region}
use Rattle.c_token.specs.declared.skim.Region.TheVariants.{Live, Dead}
use Rattle.c_token.specs.declared.skim.Judgement.{Judgement}
use Rattle.c_token.specs.declared.skim.Effect.{Effect}
use Rattle.c_token.specs.declared.skim.Effects.{Effects}
use Rattle.c_token.specs.Dropping.{says, is_dropped}

-- what a token is here
unfoldable pub class_of : Token → Class
class_of t =
    if says (codes "(") t then Open
    else (if says (codes ")") t then Close
    else (if says (codes "extern") t then Extern
    else (if says (codes ";") t then Semicolon
    else (if says (codes "main") t then Main
    else (if says (codes "__attribute__") t then Attribute else Plain)))))

-- whether a range of `extern` is open behind a token
abbrev pub extern_after : Bool → Class → Bool
extern_after true Semicolon = false
extern_after true _ = true
extern_after false Extern = true
extern_after false _ = false

abbrev pub extern_behind : Bool → List Token → Bool
extern_behind e [] = e
extern_behind e (t ∷ ts) = extern_behind (extern_after e (class_of t)) ts

-- a token as the last one outside ranges of `extern`
abbrev pub last_after : Bool → Class → Option Last
last_after true _ = None
last_after false Extern = None
last_after false Main = Some last.Main
last_after false Attribute = Some last.Attribute
last_after false _ = Some last.Other

abbrev pub last_of : Bool → List Token → Option Last
last_of e [] = None
last_of e (t ∷ ts) = option_or (last_of (extern_after e (class_of t)) ts) (last_after e (class_of t))

abbrev pub context_after : Context → Class → Context
context_after m c = record { in_extern = extern_after m.in_extern c; last = unwrap_or (last_after m.in_extern c) m.last }

abbrev pub context_behind : Context → List Token → Context
context_behind m [] = m
context_behind m (t ∷ ts) = context_behind (context_after m (class_of t)) ts

-- how many brackets close before a token and behind that aren't opened there, where n do behind the token
abbrev pub bracket : Bool → Class → ℕ → ℕ
bracket true _ n = n
bracket false Open n = n - 1
bracket false Close n = n + 1
bracket false _ n = n

-- how many brackets close in these tokens and behind that aren't opened there, where k do behind the tokens
abbrev pub ahead : ℕ → Bool → List Token → ℕ
ahead k e [] = k
ahead k e (t ∷ ts) = bracket e (class_of t) (ahead k (extern_after e (class_of t)) ts)

-- one more token before tokens that close c brackets and open o
abbrev pub open_more : Bool → Class → ℕ → ℕ → ℕ
open_more true _ c o = o
open_more false Open c o = o + (1 - c)
open_more false _ c o = o

-- how many brackets these tokens open and don't close
abbrev pub opened : Bool → List Token → ℕ
opened e [] = 0
opened e (t ∷ ts) = open_more e (class_of t) (ahead 0 (extern_after e (class_of t)) ts) (opened (extern_after e (class_of t)) ts)

abbrev pub is_parameters : Kind → Bool
is_parameters Parameters = true
is_parameters Group = false

-- a bracket that opens outside what is left out: is it closed, and what stands before it?
abbrev pub judged_open : Bool → Last → Judgement
judged_open closed last.Main = record { keeps = true; region = Dead Parameters 0 }
judged_open true last.Attribute = record { keeps = false; region = Dead Group 0 }
judged_open false last.Attribute = record { keeps = true; region = Live }
judged_open closed last.Other = record { keeps = true; region = Live }

abbrev pub judged_live : Bool → Last → Class → Judgement
judged_live closed l Open = judged_open closed l
judged_live closed l Extern = record { keeps = false; region = Live }
judged_live closed l Attribute = record { keeps = false; region = Live }
judged_live closed l _ = record { keeps = true; region = Live }

abbrev pub judged_dead : Kind → ℕ → Class → Judgement
judged_dead kind n Open = record { keeps = false; region = Dead kind (n + 1) }
judged_dead kind n Close = if n == 0 then record { keeps = is_parameters kind; region = Live } else record { keeps = false; region = Dead kind (n - 1) }
judged_dead kind n _ = record { keeps = false; region = Dead kind n }

abbrev pub judged_outside : Bool → Last → Region → Class → Judgement
judged_outside closed l Live c = judged_live closed l c
judged_outside closed l (Dead kind n) c = judged_dead kind n c

-- whether a token is kept, and the region behind it
abbrev pub judged : Bool → Bool → Last → Region → Class → Judgement
judged true closed l r c = record { keeps = false; region = r }
judged false closed l r c = judged_outside closed l r c

-- the tokens so far: what they say of the next one, and those of them that are kept
pub record Skim : Type 0 where
  pub context : Context
  pub region : Region
  pub kept : List Token

abbrev pub beginning : Skim
beginning = record { context = record { in_extern = false; last = last.Other }; region = Live; kept = [] }

abbrev pub put_last : Bool → Token → List Token → List Token
put_last keeps t ts = if keeps && not (is_dropped t) then ts ++ t ∷ [] else ts

abbrev pub goes_to : Context → Judgement → Token → List Token → Skim
goes_to m j t ts = record { context = m; region = j.region; kept = put_last j.keeps t ts }

-- the next token, where a bracket closes behind it that isn't opened there, or none does
abbrev pub fed : Bool → Skim → Token → Skim
fed closed s t = goes_to (context_after s.context (class_of t)) (judged s.context.in_extern closed s.context.last s.region (class_of t)) t s.kept

-- these tokens, where k brackets close behind them that aren't opened there
abbrev pub run : ℕ → Skim → List Token → Skim
run k s [] = s
run k s (t ∷ ts) = run k (fed (nat_lt 0 (ahead k (extern_after s.context.in_extern (class_of t)) ts)) s t) ts

-- a number as it is held: up to 2^64 - 1
abbrev pub bounded : ℕ → ℕ
bounded n = min n (2 ^ 64 - 1)

abbrev pub effect : Bool → List Token → Effect
effect e ts = record { closers = bounded (ahead 0 e ts); openers = bounded (opened e ts); in_extern = extern_behind e ts; last = last_of e ts }

-- what tokens do to what stands around them, outside ranges of `extern` and in one
abbrev pub effects : List Token → Effects
effects ts = record { outside = effect false ts; inside = effect true ts }

abbrev pub effect_in : Bool → Effects → Effect
effect_in false e = e.outside
effect_in true e = e.inside

-- r is the effect of f's tokens and s's behind them
pub record Joins (f s r : Effect) : Type 0 where
  pub closers : (a b c : ℕ) → f.closers ≡ bounded a → f.openers ≡ bounded b → s.closers ≡ bounded c → r.closers ≡ bounded (a + (c - b))
  pub openers : (b c d : ℕ) → f.openers ≡ bounded b → s.closers ≡ bounded c → s.openers ≡ bounded d → r.openers ≡ bounded (d + (b - c))
  pub in_extern : r.in_extern ≡ s.in_extern
  pub last : r.last ≡ option_or s.last f.last
