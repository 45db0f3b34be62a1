-- Macros by number. No public contract cites these: the proofs tie them to what is read.
use Rattle.std.specs.Prelude.{◌≡◌, ℕ, ◌-◌, ◌<◌, ◌≤◌, Bool, true, nat_eq, nat_lt, if◌then◌else◌, IsTrue, List, [], ◌∷◌, length, drop, bytes_eq, flat_map, slice_get, slice_index_or, Option, Some, None}
use Rattle.std.specs.List.{list_all}
use Rattle.token_list.specs.declared.Token.{Token}
use Rattle.std.specs.HashMap.{get}
use denote.Bor.{Bor}
use lib.Pointwise.{pointwise}
use Rattle.c_token.specs.declared.macros.Reader.{Reader}
use Rattle.c_token.specs.declared.macros.Macro.{Macro}
use Rattle.c_token.specs.declared.macros.Use.{Use}
use Rattle.c_token.specs.declared.macros.Use.TheVariants.{Plain, Macro as MacroUse}
use Rattle.c_token.specs.declared.skim.Effects.{Effects}
use Rattle.c_token.specs.declared.words.Word.{Word}
use Rattle.c_token.specs.Bytes.{capped}
use Rattle.c_token.specs.Macros.{Definition, Reading, bodies_of, all_at}
use Rattle.c_token.specs.Seen.{token}
use Rattle.c_token.specs.Skimming.{effects}

-- the tokens of a use, where macros have these bodies
abbrev pub use_tokens : List (List Token) → Use → List Token
use_tokens bodies (Plain word) = token word ∷ []
use_tokens bodies (MacroUse n place) = all_at place (slice_index_or bodies n [])

abbrev pub all_tokens : List (List Token) → List Use → List Token
all_tokens bodies uses = flat_map (use_tokens bodies) uses

-- a token, or a use of one of the first n macros
abbrev pub is_below : ℕ → Use → Bool
is_below n (Plain word) = true
is_below n (MacroUse k place) = nat_lt k n

abbrev pub AllBelow : ℕ → List Use → Type 0
AllBelow n uses = IsTrue (list_all (is_below n) uses)

-- the last of these uses, of none to all, have these effects
abbrev pub AreEnds : List (List Token) → List Use → List Effects → Type 0
AreEnds bodies uses ends = (j : ℕ) → j ≤ length uses → slice_get ends j ≡ Some (effects (all_tokens bodies (drop (length uses - j) uses)))

-- a macro with this body, whose uses are of macros before it
pub record IsMacro (bodies : List (List Token)) (n : ℕ) (m : Macro) (body : List Token) : Type 0 where
  pub tokens : all_tokens bodies m.uses ≡ body
  pub count : m.count ≡ capped (length body)
  pub below : AllBelow n m.uses
  pub ends : AreEnds bodies m.uses m.ends

-- these macros have these bodies
pub record IsTable (macros : List Macro) (bodies : List (List Token)) : Type 0 where
  pub len : length macros ≡ length bodies
  pub at : (k : ℕ) (d : Macro) → k < length macros → IsMacro bodies k (slice_index_or macros k d) (slice_index_or bodies k [])

-- the number of the newest macro of a name
abbrev pub number_of : List Definition → List ℕ → Option ℕ
number_of [] name = None
number_of (m ∷ ms) name = if bytes_eq m.name name then Some (length ms) else number_of ms name

abbrev pub use_at : Word → Option ℕ → Use
use_at word None = Plain word
use_at word (Some n) = MacroUse n word.place

-- the macro that gives the same tokens as this one, which has these uses, if it gives any
abbrev pub root_by : ℕ → Use → ℕ
root_by n (Plain word) = n
root_by n (MacroUse k place) = k

abbrev pub root_in : ℕ → List Use → Option ℕ
root_in n [] = None
root_in n (u ∷ []) = Some (root_by n u)
root_in n (u ∷ v ∷ us) = Some n

-- whether two names are the same
abbrev pub same_name : Bor (List ℕ) → Bor (List ℕ) → Bool
same_name x y = pointwise nat_eq x.now y.now

-- the macro whose line is being read
abbrev pub IsPending : List (List Token) → Option (Bor (List ℕ)) → List Use → Option Definition → Type 0
IsPending bodies None uses None = Unit {0}
IsPending bodies (Some name) uses (Some m) = (name.now ≡ m.name) × (all_tokens bodies uses ≡ m.body)
IsPending bodies name uses m = ⊥

-- the reader has read this
pub record Reads (reader : Reader) (r : Reading) : Type 0 where
  pub table : IsTable reader.macros (bodies_of r.macros)
  pub numbers : (q : Bor (List ℕ)) → get same_name reader.numbers q ≡ number_of r.macros q.now
  pub uses : all_tokens (bodies_of r.macros) reader.uses ≡ r.words
  pub uses_below : AllBelow (length reader.macros) reader.uses
  pub pending : IsPending (bodies_of r.macros) reader.pending reader.body r.pending
  pub body_below : AllBelow (length reader.macros) reader.body

abbrev pub IsReader : Reader → Type 0
IsReader reader = (r : Reading) × Reads reader r
