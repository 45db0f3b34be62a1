-- How a log stands while its text is read in pieces. No public contract cites this.
use Rattle.std.specs.Prelude.{◌≡◌, ◌<◌, ⊤, ℕ, Bool, true, false, List, [], ◌++◌, length, Option, Some, None, slice_get, take}
use Rattle.cnf_problem.specs.declared.problem.Head.{Head}
use Rattle.cnf_problem.specs.declared.problem.Problem.{Problem}
use Rattle.lemma_log.specs.declared.Entry.{Entry}
use Rattle.lemma_log.specs.declared.hints.Hint.{Hint}
use Rattle.log_checker.specs.declared.refused.Refused.{Refused as Refusal}
use Rattle.log_checker.specs.Checking.{HasTaken}
use Rattle.log_checker.specs.Goodness.{IsGood, clauses_of}
use Rattle.log_checker.specs.Refusals.{EntryFails}
use Rattle.log_text.specs.Fed.{HasRead, ReaderView}
use Rattle.log_text.specs.Formats.{Row, Written, head_lines}
use Rattle.log_text.specs.Machine.{head_of, hinted_of}
use Rattle.log_text.specs.Spelling.{Spells, hinted_rows}
use Rattle.program_log.specs.declared.heads.OtherLine.{OtherLine}
use Rattle.program_log.specs.declared.standing.Standing.{Standing}
use Rattle.program_log.specs.declared.standing.Standing.TheVariants.{Other, Plain, Hinted, Failed}
use Rattle.program_log.specs.Heads.{FirstOther}

-- ---- heads

-- each log whose text begins with these bytes has this head, and hints or not
abbrev pub IsHeadOf : List ℕ → Head → Bool → Type 0
IsHeadOf fed head hinted = (w : Written) (more : List ℕ) → Spells false w (fed ++ more) → (w.head ≡ head) × (w.hinted ≡ hinted)

-- the log has this head, and hints or not
abbrev pub IsItsHead : Written → Head → Bool → Type 0
IsItsHead w head hinted = (w.head ≡ head) × (w.hinted ≡ hinted)

-- fewer lines were read than a head has
abbrev pub IsUnknown : ReaderView → Type 0
IsUnknown r = (head : Head) (hinted : Bool) → head_of r.stage ≡ Some head → hinted_of r.stage ≡ Some hinted → ⊥

-- ---- entries

-- one of these entries fails, and those before it are a good log
pub record OneFails (q : Problem) (entries : List Entry) (r : Refusal) : Type 0 where
  pub place : ℕ
  pub entry : Entry
  pub there : slice_get entries place ≡ Some entry
  pub good : IsGood q (take place entries)
  pub fails : EntryFails q (clauses_of (take place entries)) entry r

-- The log is of the same problem, with hints or not, and these are its entries so far, of which this holds. What is known of its head is
-- the parameter `Known`.
pub record IsOfSame (ours : Head) (Known : Head → Bool → Type 0) (given : List Row) (hinted : Bool) (Holds : List Entry → List (List Hint) → Type 0) : Type 0 where
  pub head : Head
  pub known : Known head hinted
  pub same : head_lines head ≡ head_lines ours
  pub entries : List Entry
  pub hints : List (List Hint)
  pub rows : hinted_rows entries hints ≡ given
  pub one_each : length hints ≡ length entries
  pub holds : Holds entries hints

-- the log is of another problem
pub record IsOfOther (ours : Head) (Known : Head → Bool → Type 0) (o : OtherLine) : Type 0 where
  pub head : Head
  pub hinted : Bool
  pub known : Known head hinted
  pub first : FirstOther (head_lines head) (head_lines ours) o.place o.theirs o.ours

-- so a log stands of which these entries were given
abbrev pub IsStanding : Problem → Head → (Head → Bool → Type 0) → List Row → Standing → Type 0
IsStanding q ours Known given (Other o) = IsOfOther ours Known o
IsStanding q ours Known given (Plain c) = IsOfSame ours Known given false (λ entries hints. HasTaken q entries c)
IsStanding q ours Known given (Hinted es hs) = IsOfSame ours Known given true (λ entries hints. (entries ≡ es) × (hints ≡ hs))
IsStanding q ours Known given (Failed r) = IsOfSame ours Known given false (λ entries hints. OneFails q entries r)

-- so the entries of a log without hints stand
abbrev pub IsChecked : Problem → List Entry → Standing → Type 0
IsChecked q entries (Other o) = ⊥
IsChecked q entries (Plain c) = HasTaken q entries c
IsChecked q entries (Hinted es hs) = ⊥
IsChecked q entries (Failed r) = OneFails q entries r

-- the entry comes next
pub record IsNext (e : Entry) (taken : ℕ) : Type 0 where
  pub ticket : e.ticket ≡ taken
  pub room : taken < 4294967295

abbrev pub MayTake : Problem → Entry → Standing → Type 0
MayTake q e (Plain c) = ((entries : List Entry) × HasTaken q entries c) × IsNext e c.taken
MayTake q e s = ⊤

-- ---- between pieces

-- a reader that was fed these bytes, and how the log stands by the entries that it gave
pub record HasStanding (q : Problem) (ours : Head) (r : ReaderView) (fed : List ℕ) (s : Standing) : Type 0 where
  pub given : List Row
  pub read : HasRead false r fed given
  pub standing : IsStanding q ours (IsHeadOf fed) given s

-- the head was read, or not yet
abbrev pub IsBegun : Problem → Head → ReaderView → List ℕ → Option Standing → Type 0
IsBegun q ours r fed None = IsUnknown r
IsBegun q ours r fed (Some s) = IsStanding q ours (IsHeadOf fed) [] s

-- a piece was fed
abbrev pub IsFed : Problem → Head → ReaderView → List ℕ → Option Standing → Type 0
IsFed q ours r fed None = HasRead false r fed []
IsFed q ours r fed (Some s) = HasStanding q ours r fed s

-- and its entries were taken
abbrev pub IsBetween : Problem → Head → ReaderView → List ℕ → Option Standing → Type 0
IsBetween q ours r fed None = HasRead false r fed [] × IsUnknown r
IsBetween q ours r fed (Some s) = HasStanding q ours r fed s × (r.ready ≡ [])

-- the whole text is that of a log, which stands so
pub record IsWhole (q : Problem) (ours : Head) (text : List ℕ) (s : Standing) : Type 0 where
  pub log : Written
  pub spelled : Spells false log text
  pub standing : IsStanding q ours (IsItsHead log) log.rows s
