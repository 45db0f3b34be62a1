-- One pass over the tokens of uses of macros, where a macro isn't passed twice in the same region. No public contract cites
-- these: the proofs tie them to what is left.
use Rattle.std.specs.Prelude.{◌≡◌, ◌⊎◌, ℕ, ◌+◌, ◌-◌, ◌<◌, ◌≤◌, Bool, true, List, [], ◌∷◌, reverse, length, drop, take, find, slice_get, slice_index_or, Option, Some, None}
use Rattle.std.specs.HashMap.{values}
use Rattle.std.specs.List.{All}
use Rattle.dg_base.specs.declared.Place.{Place}
use Rattle.token_list.specs.declared.Token.{Token}
use Rattle.c_token.specs.declared.macros.Macro.{Macro}
use Rattle.c_token.specs.declared.macros.Use.{Use}
use Rattle.c_token.specs.declared.macros.Use.TheVariants.{Plain, Macro as MacroUse}
use Rattle.c_token.specs.declared.search.Entry.{Entry}
use Rattle.c_token.specs.declared.search.Frame.{Frame}
use Rattle.c_token.specs.declared.search.Passage.{Passage}
use Rattle.c_token.specs.declared.search.Search.{Search}
use Rattle.c_token.specs.declared.sieve.TheConstants.{MAX_TOKENS}
use Rattle.c_token.specs.Dropping.{kept}
use Rattle.c_token.specs.Macros.{all_at}
use Rattle.c_token.specs.Sieving.{State, state, hold_again, Has}
use Rattle.c_token.specs.Skimming.{Skim, run}
use Rattle.c_token.specs.Tables.{all_tokens, AllBelow}
use Rattle.c_token.specs.Tokens.{is_unsupported}

abbrev pub use_place : Use → Place
use_place (Plain word) = word.place
use_place (MacroUse n place) = place

-- ---- the macros that are begun, the innermost first
abbrev pub frames_of : Search → List Frame
frames_of s = reverse s.frames.items

abbrev pub uses_in : Option Macro → List Use
uses_in None = []
uses_in (Some m) = m.uses

abbrev pub uses_of : List Macro → ℕ → List Use
uses_of macros n = uses_in (slice_get macros n)

abbrev pub next_use : List Macro → Frame → Option Use
next_use macros f = slice_get (uses_of macros f.entry.number) f.next

abbrev pub next_frame : Frame → Frame
next_frame f = record { entry = f.entry; next = f.next + 1; count = f.count }

-- a macro may be begun
abbrev pub Grows : ℕ → List Frame → List Frame → Type 0
Grows n old new = (new ≡ old) ⊎ ((f : Frame) × ((f.entry.number ≡ n) × (f.next ≡ 0) × (new ≡ f ∷ old)))

abbrev pub GrowsBy : Use → List Frame → List Frame → Type 0
GrowsBy (Plain word) old new = new ≡ old
GrowsBy (MacroUse n place) old new = Grows n old new

-- a macro is left, or gone on with
abbrev pub GoesOn : List Macro → Frame → List Frame → List Frame → Type 0
GoesOn macros f old new = (new ≡ old) ⊎ ((u : Use) × ((next_use macros f ≡ Some u) × GrowsBy u (next_frame f ∷ old) new))

-- a macro, and some of its uses
abbrev pub IsFrame : List Macro → Frame → Type 0
IsFrame macros f = f.next ≤ length (uses_of macros f.entry.number)

abbrev pub FramesFit : List Macro → List Frame → Type 0
FramesFit macros [] = Unit {0}
FramesFit macros (f ∷ fs) = IsFrame macros f × FramesFit macros fs

-- each macro's uses are of macros before it
abbrev pub IsOrdered : List Macro → Type 0
IsOrdered macros = (n : ℕ) → AllBelow n (uses_of macros n)

-- ---- what the macros that are begun lead to
abbrev pub body_at : Place → List (List Token) → ℕ → List Token
body_at place bodies n = all_at place (slice_index_or bodies n [])

-- the tokens of a macro's uses from the next one on
abbrev pub rest_of : List Macro → List (List Token) → Place → Frame → List Token
rest_of macros bodies place f = all_at place (all_tokens bodies (drop f.next (uses_of macros f.entry.number)))

-- before a macro, with these tokens kept
abbrev pub before : Entry → List Token → Skim
before e out = record { context = e.context; region = e.region; kept = out }

-- what comes of a macro's tokens, with nothing kept before them
abbrev pub passed : List (List Token) → Entry → Skim
passed bodies e = run e.behind (before e []) (slice_index_or bodies e.number [])

-- some of these tokens are the ones that a passage kept, at other places
abbrev pub AreAmong : List Token → Passage → List Token → Type 0
AreAmong words p kept = (p.first + p.count ≤ length words) × ((place : Place) → all_at place (take p.count (drop p.first words)) ≡ all_at place kept)

-- what is known of a macro is so, and its tokens are among those that are held, unless these are too many
pub record IsPassage (bodies : List (List Token)) (holds : Bool) (words : List Token) (p : Passage) : Type 0 where
  pub context : (passed bodies p.entry).context ≡ p.context
  pub region : (passed bodies p.entry).region ≡ p.region
  pub supported : find is_unsupported (passed bodies p.entry).kept ≡ None
  pub count : holds ≡ true → length (passed bodies p.entry).kept ≡ p.count
  pub held : holds ≡ true → length words < MAX_TOKENS → AreAmong words p (passed bodies p.entry).kept

-- what is known of a macro when it is left
abbrev pub left_passage : State → Frame → Passage
left_passage s f = record { entry = f.entry; context = s.context; region = s.region; first = f.count; count = s.count - f.count }

-- a macro is passed that was passed before
abbrev pub repeated : Place → Passage → State → State
repeated place p s = hold_again p.first p.count place (record s { context = p.context; region = p.region })

-- the rest of a macro leads to what comes of all of it
pub record IsBegun (macros : List Macro) (bodies : List (List Token)) (place : Place) (holds : Bool) (f : Frame) (k : Skim) : Type 0 where
  pub out : List Token
  pub is : run f.entry.behind k (rest_of macros bodies place f) ≡ run f.entry.behind (before f.entry out) (body_at place bodies f.entry.number)
  pub count : holds ≡ true → length out ≡ f.count

abbrev pub AreBegun : List Macro → List (List Token) → Place → Bool → List Frame → Skim → Type 0
AreBegun macros bodies place holds [] k = Unit {0}
AreBegun macros bodies place holds (f ∷ fs) k =
    IsBegun macros bodies place holds f k × AreBegun macros bodies place holds fs (run f.entry.behind k (rest_of macros bodies place f))

-- what comes of the macros that are begun
abbrev pub resumed : List Macro → List (List Token) → Place → List Frame → Skim → Skim
resumed macros bodies place [] k = k
resumed macros bodies place (f ∷ fs) k = resumed macros bodies place fs (run f.entry.behind k (rest_of macros bodies place f))

-- these tokens, behind which so many brackets close, and then the macros that are begun lead to this
pub record Leads (macros : List Macro) (bodies : List (List Token)) (place : Place) (s : State) (fs : List Frame) (j : ℕ) (us : List Token) (w : Skim) : Type 0 where
  pub now : Skim
  pub has : Has s now
  pub begun : AreBegun macros bodies place s.holds fs (run j now us)
  pub is : resumed macros bodies place fs (run j now us) ≡ w

-- or the first token that isn't supported is found
abbrev pub LeadsBy : Option Token → List Macro → List (List Token) → Place → State → List Frame → ℕ → List Token → Skim → Type 0
LeadsBy (Some t) macros bodies place s fs j us w = find is_unsupported w.kept ≡ Some t
LeadsBy None macros bodies place s fs j us w = Leads macros bodies place s fs j us w

pub record Seeking (macros : List Macro) (bodies : List (List Token)) (place : Place) (holds : Bool) (s : State) (known : List Passage) (fs : List Frame) (j : ℕ) (us : List Token) (w : Skim) : Type 0 where
  pub holds_same : s.holds ≡ holds
  pub passages : All (IsPassage bodies holds s.words) known
  pub leads : LeadsBy s.unsupported macros bodies place s fs j us w

abbrev pub Seeks : List Macro → List (List Token) → Place → Bool → Search → List Frame → ℕ → List Token → Skim → Type 0
Seeks macros bodies place holds s fs j us w = Seeking macros bodies place holds (state s.sieve) (values s.passages) fs j us w

-- What is left of these tokens: the first that isn't supported; and where there is none and they are held, the first ones
-- and their number.
pub record Sifts (holds : Bool) (all : List Token) (s : State) : Type 0 where
  pub unsupported : s.unsupported ≡ find is_unsupported (kept all)
  pub words : holds ≡ true → s.unsupported ≡ None → s.words ≡ take MAX_TOKENS (kept all)
  pub count : holds ≡ true → s.unsupported ≡ None → s.count ≡ length (kept all)
