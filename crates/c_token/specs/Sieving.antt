-- What the sieve holds of the tokens that are left. No public contract cites these: the proofs tie them to what is left.
use Rattle.std.specs.Prelude.{◌≡◌, ℕ, ◌+◌, ◌-◌, Bool, true, nat_lt, min, if◌then◌else◌, List, [], ◌∷◌, ◌++◌, map, length, take, drop, find, Option, Some, None, option_map}
use Rattle.dg_base.specs.declared.Place.{Place}
use Rattle.token_list.specs.declared.Token.{Token}
use Rattle.c_token.specs.declared.sieve.Sieve.{Sieve}
use Rattle.c_token.specs.declared.sieve.TheConstants.{MAX_TOKENS}
use Rattle.c_token.specs.declared.skim.Context.{Context}
use Rattle.c_token.specs.declared.skim.Region.{Region}
use Rattle.c_token.specs.Dropping.{is_dropped}
use Rattle.c_token.specs.Macros.{all_at}
use Rattle.c_token.specs.Seen.{token}
use Rattle.c_token.specs.Skimming.{Skim, class_of, context_after, judged}
use Rattle.c_token.specs.Skimming as skimming
use Rattle.c_token.specs.Tokens.{is_unsupported}

-- a sieve, with the bytes that its words borrow
pub record State : Type 0 where
  pub context : Context
  pub region : Region
  pub holds : Bool
  pub words : List Token
  pub count : ℕ
  pub unsupported : Option Token

abbrev pub state : Sieve → State
state s = record {
  context = s.context;
  region = s.region;
  holds = s.holds;
  words = map token s.words.items;
  count = s.count;
  unsupported = option_map token s.unsupported;
}

abbrev pub beginning : Bool → State
beginning holds = record {
  context = skimming.beginning.context;
  region = skimming.beginning.region;
  holds = holds;
  words = [];
  count = 0;
  unsupported = None;
}

abbrev pub with_word : State → Token → State
with_word s t = record s { words = if nat_lt s.count MAX_TOKENS then s.words ++ t ∷ [] else s.words; count = s.count + 1 }

abbrev pub hold : State → Token → State
hold s t = if s.holds then with_word s t else s

abbrev pub keep_found : Option Token → State → Token → State
keep_found (Some u) s t = s
keep_found None s t = if is_unsupported t then record s { unsupported = Some t } else hold s t

-- keeps a token, if it says anything
abbrev pub keep : State → Token → State
keep s t = if is_dropped t then s else keep_found s.unsupported s t

abbrev pub keep_if : Bool → State → Token → State
keep_if b s t = if b then keep s t else s

-- the next token, where a bracket that opens here is closed or isn't
abbrev pub feed : Bool → State → Token → State
feed closed s t =
    let j = judged s.context.in_extern closed s.context.last s.region (class_of t) in
    keep_if j.keeps (record s { context = context_after s.context (class_of t); region = j.region }) t

-- So many of these tokens, from this one on, at a place: as many as there is room for.
abbrev pub again : ℕ → ℕ → Place → List Token → List Token
again first count place words = all_at place (take (min count (MAX_TOKENS - length words)) (drop first words))

-- holds tokens once more that are held
abbrev pub hold_again : ℕ → ℕ → Place → State → State
hold_again first count place s = record s {
  words = if s.holds then s.words ++ again first count place s.words else s.words;
  count = if s.holds then s.count + count else s.count;
}

-- the state has what is kept: all of it up to the limit, or only nothing that isn't supported
pub record Has (s : State) (k : Skim) : Type 0 where
  pub context : s.context ≡ k.context
  pub region : s.region ≡ k.region
  pub supported : find is_unsupported k.kept ≡ None
  pub words : s.holds ≡ true → s.words ≡ take MAX_TOKENS k.kept
  pub count : s.holds ≡ true → s.count ≡ length k.kept
