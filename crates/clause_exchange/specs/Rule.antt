-- What holds of the words and the views between any two steps.
use Rattle.std.specs.Prelude.{◌≡◌, ◌≢◌, ℕ, zero, suc, ◌+◌, ◌*◌, ◌<◌, ◌≤◌, false, List, [], ◌∷◌, ◌++◌, map, length, replicate, slice_index, slice_get, Contains, Option, Some, None}
use mathlib.Core.Option.{some}
use mathlib.Core.List.{IsPrefix}
use lib.ListN.{get_elem?}
use Rattle.atomic_table.specs.Table.{State}
use Rattle.cnf_problem.specs.declared.problem.Lemma.{Lemma}
use Rattle.cnf_problem.specs.declared.problem.Problem.{Problem}
use Rattle.search_core.specs.declared.Verdict.{Verdict}
use Rattle.search_core.specs.declared.Verdict.TheVariants.{Safe, Unsafe}
use Rattle.search_core.specs.Core.{Worker, IsReached, worker}
use Rattle.search_core.specs.Core
use Rattle.clause_exchange.specs.declared.rule.Received.{Received}
use Rattle.clause_exchange.specs.declared.rule.RowView.{RowView}
use Rattle.clause_exchange.specs.declared.rule.Part.{Part}
use Rattle.clause_exchange.specs.declared.rule.View.{View}
use Rattle.clause_exchange.specs.declared.rule.Setup.{Setup}
use Rattle.clause_exchange.specs.Spelling.{all_received, spelled, IsPlain}

-- a row of which nothing is known
abbrev pub blank_row : RowView
blank_row = record { known = []; loaded = 0; log_then = 0; looks = 0 }

-- a number that has done nothing
abbrev pub blank_part : ℕ → ℕ → Part
blank_part n number = record { number = number; log = []; shared = []; stored = []; rows = replicate n blank_row; seen = None; offers = []; loads = 0 }

-- so many numbers from one on
abbrev pub blank_parts : ℕ → ℕ → ℕ → List Part
blank_parts n from zero = []
blank_parts n from (suc count) = blank_part n from ∷ blank_parts n (suc from) count

-- the view of all numbers, which have done nothing
abbrev pub new_view : Problem → ℕ → ℕ → View
new_view p n share_words = record { problem = p; workers = n; share_words = share_words; parts = blank_parts n 0 n; announced = None; cut = 0; spent = false }

-- the first seat has all numbers
abbrev pub first_view : Setup → View
first_view s = new_view s.problem.now s.workers s.share_words

-- the worker of the core that is kept so: what it may read of a row are the entries that it knows there
abbrev pub worker_of : Part → Worker
worker_of part = record { log = part.log; shared = part.shared; may_read = map (λ (r : RowView). length r.known) part.rows; looked = map (λ (r : RowView). r.log_then) part.rows }

-- the verdict of a word
abbrev pub verdict_of : ℕ → Option Verdict
verdict_of zero = None
verdict_of (suc zero) = Some Safe
verdict_of (suc (suc n)) = Some Unsafe

-- the state of the core that the words and what is kept of each number show
abbrev pub core_of : List ℕ → List Part → Core.State
core_of words parts = record { workers = map worker_of parts; next = slice_index words 0; verdict = verdict_of (slice_index words 1) }

-- the words of a number's row: the entries that it shared, and what it stored behind them
abbrev pub row_words : Part → List ℕ
row_words part = spelled (all_received part.shared) ++ part.stored

-- where row k begins, for n rows of so many words
abbrev pub row_start : ℕ → ℕ → ℕ → ℕ
row_start n share_words k = 2 + n + k * share_words

-- number k's count and row are as it is kept
pub record IsRow (n share_words : ℕ) (words : List ℕ) (k : ℕ) (part : Part) : Type 0 where
  pub count : slice_index words (2 + k) ≡ length (spelled (all_received part.shared))
  pub fits : length (row_words part) ≤ share_words
  pub begins : (m : ℕ) → m < length (row_words part) → slice_index words (row_start n share_words k + m) ≡ slice_index (row_words part) m
  pub plain : (h : Received) → Contains (all_received part.shared) h → IsPlain h
  pub short : length part.log ≤ 1000001
  pub wide : length part.rows ≡ n

-- what is known of another number's row are the first entries that it shared, of whose words some were loaded
pub record IsReceived (r : RowView) (other : Part) : Type 0 where
  pub known : IsPrefix r.known (all_received other.shared)
  pub loaded : r.loaded ≤ length (spelled r.known)

-- the verdict that a number has seen stands; where one was offered some verdict stands, and Unsafe stands only where it was offered
pub record IsVerdict (word : ℕ) (parts : List Part) : Type 0 where
  pub small : word < 3
  pub seen : (k : ℕ) (part : Part) (v : Verdict) → slice_get parts k ≡ Some part → part.seen ≡ Some v → verdict_of word ≡ Some v
  pub offered : (k : ℕ) (part : Part) (v : Verdict) → slice_get parts k ≡ Some part → Contains part.offers v → word ≢ 0
  pub unsafe : word ≡ 2 → (k : ℕ) × (part : Part) × (slice_get parts k ≡ Some part) × Contains part.offers Unsafe

-- what is kept of the numbers, beside the words
pub record IsKept (p : Problem) (n share_words : ℕ) (words : List ℕ) (parts : List Part) : Type 0 where
  pub size : length words ≡ 2 + n + n * share_words
  pub numbers : length parts ≡ n
  pub few : n ≤ 16
  pub verdict : IsVerdict (slice_index words 1) parts
  pub reached : IsReached p n (core_of words parts)
  pub rows : (k : ℕ) (part : Part) → slice_get parts k ≡ Some part → IsRow n share_words words k part
  pub received : (k j : ℕ) (part other : Part) (r : RowView) → slice_get parts k ≡ Some part → slice_get parts j ≡ Some other → slice_get part.rows j ≡ Some r → IsReceived r other

-- a view has what is kept of a number
pub record Has (views : List View) (number id : ℕ) (part : Part) : Type 0 where
  pub view : View
  pub there : get_elem? views id ≡ some view
  pub live : view.spent ≡ false
  pub listed : Contains view.parts part
  pub is : part.number ≡ number

-- the views share out what is kept of the numbers, each number to one view
pub record AreShared (p : Problem) (n share_words : ℕ) (views : List View) (parts : List Part) : Type 0 where
  pub told : (id : ℕ) (v : View) → get_elem? views id ≡ some v → v.spent ≡ false → (v.problem ≡ p) × (v.workers ≡ n) × (v.share_words ≡ share_words)
  pub same : (k id : ℕ) (part : Part) → Has views k id part → slice_get parts k ≡ Some part
  pub once : (k a b : ℕ) (x y : Part) → Has views k a x → Has views k b y → a ≡ b
  pub each : (k : ℕ) (part : Part) → slice_get parts k ≡ Some part → (id : ℕ) × Has views k id part

-- what holds between any two steps, of a problem, so many workers, and rows of so many words
pub record HoldsFor (p : Problem) (n share_words : ℕ) (s : State Lemma View) : Type 0 where
  pub parts : List Part
  pub views : AreShared p n share_words s.views parts
  pub kept : IsKept p n share_words s.words parts

abbrev pub Holds : Setup → State Lemma View → Type 0
Holds setup s = HoldsFor setup.problem.now setup.workers setup.share_words s
