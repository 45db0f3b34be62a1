-- Which candidates have a text, which text spells which, and where a text that spells none goes wrong.
use Rattle.std.specs.Prelude.{◌≡◌, ℕ, ◌^◌, ◌<◌, Bool, true, false, nat_lt, ◌&&◌, ◌||◌, ◌==◌, List, [], ◌∷◌, length}
use Rattle.std.specs.List.{AllByRecursion}
use Rattle.axiom_model.specs.declared.Event.{Event}
use Rattle.axiom_model.specs.declared.Event.TheVariants.{Initial, At}
use Rattle.axiom_model.specs.declared.RfPair.{RfPair}
use Rattle.axiom_model.specs.declared.ThreadPart.{ThreadPart}
use Rattle.axiom_model.specs.declared.Candidate.{Candidate}
use Rattle.c_check.specs.PlainNames.{HasPlainNames}
use Rattle.line_text.specs.Lines.{NoProperPrefix, OneValue}
use Rattle.witness_text.specs.Witness.{witness_text}

-- The numbers of a candidate have 32 bits.
abbrev pub IsNumber : ℕ → Type 0
IsNumber n = n < 2 ^ 32

abbrev pub HasEventNumbers : Event → Type 0
HasEventNumbers Initial = Unit {0}
HasEventNumbers (At h i) = IsNumber h × IsNumber i

abbrev pub HasPairNumbers : RfPair → Type 0
HasPairNumbers p = HasEventNumbers p.reader × HasEventNumbers p.source

pub record HasThreadNumbers (p : ThreadPart) : Type 0 where
  pub handle : IsNumber p.handle
  pub function : IsNumber p.function
  pub arg : IsNumber p.arg
  pub script : AllByRecursion IsNumber p.script

pub record HasNumbers (c : Candidate) : Type 0 where
  pub threads : AllByRecursion HasThreadNumbers c.threads
  pub rf : AllByRecursion HasPairNumbers c.rf
  pub co : AllByRecursion (AllByRecursion HasEventNumbers) c.co

-- whether each of a list stands before the next one
abbrev pub rises_from : {A : Type 0} → (A → A → Bool) → A → List A → Bool
rises_from before x [] = true
rises_from before x (y ∷ ys) = before x y && rises_from before y ys

abbrev pub rises : {A : Type 0} → (A → A → Bool) → List A → Bool
rises before [] = true
rises before (x ∷ xs) = rises_from before x xs

abbrev pub handle_before : ThreadPart → ThreadPart → Bool
handle_before p q = nat_lt p.handle q.handle

-- by handle and index; an initial write stands before and behind nothing
abbrev pub event_before : Event → Event → Bool
event_before Initial y = false
event_before (At h i) Initial = false
event_before (At h i) (At k j) = nat_lt h k || (h == k && nat_lt i j)

abbrev pub reader_before : RfPair → RfPair → Bool
reader_before p q = event_before p.reader q.reader

abbrev pub is_action : Event → Bool
is_action Initial = false
is_action (At h i) = true

-- A candidate that has a text: each function is one of the program, handles rise strictly, the readers are actions and rise
-- strictly by handle and index, and each cell has an order.
pub record IsSpellable (functions cells : List (List ℕ)) (c : Candidate) : Type 0 where
  pub known : AllByRecursion (λ (p : ThreadPart). p.function < length functions) c.threads
  pub rising_handles : rises handle_before c.threads ≡ true
  pub actions : AllByRecursion (λ (p : RfPair). is_action p.reader ≡ true) c.rf
  pub rising_readers : rises reader_before c.rf ≡ true
  pub orders : length c.co ≡ length cells

-- The text spells this candidate.
pub record Spells (functions cells : List (List ℕ)) (c : Candidate) (text : List ℕ) : Type 0 where
  pub numbers : HasNumbers c
  pub spellable : IsSpellable functions cells c
  pub spelled : text ≡ witness_text functions cells c

-- a text spells at most one candidate
abbrev pub OneCandidate : Type 0
OneCandidate = (functions cells : List (List ℕ)) → HasPlainNames functions cells → OneValue (Spells functions cells)

-- no spelling is a proper prefix of another
abbrev pub NoPrefix : Type 0
NoPrefix = (functions cells : List (List ℕ)) → HasPlainNames functions cells → NoProperPrefix (Spells functions cells)
