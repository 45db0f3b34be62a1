-- A seat that shares each entry as soon as it is appended, and has read what it saw.
use Rattle.std.specs.Prelude.{◌≡◌, ◌≢◌, ℕ, suc, ◌+◌, ◌≤◌, length, slice_get, Some}
use Rattle.clause_exchange.specs.declared.rule.RowView.{RowView}
use Rattle.clause_exchange.specs.declared.rule.View.{View}
use Rattle.clause_exchange.specs.Steps.{mine}
use Rattle.clause_exchange.specs.Calls.{HasOne, AllShared, IsAllRead}

-- so many lemmas that follow may be appended, where the entry of each is shared before the next
pub record IsReady (v : View) (count : ℕ) : Type 0 where
  pub one : HasOne v
  pub wide : length (mine v).rows ≡ v.workers
  pub room : length (mine v).log + count ≤ 1000001
  pub shared : AllShared v.share_words (mine v)
  pub read : (j : ℕ) (r : RowView) → slice_get (mine v).rows j ≡ Some r → IsAllRead r
  pub looked : (j : ℕ) (r : RowView) → j ≢ (mine v).number → slice_get (mine v).rows j ≡ Some r → length (mine v).log + count ≤ r.log_then + 1024

-- the number is the same, and one lemma more is in the log
pub record GoesOn (v w : View) : Type 0 where
  pub number : (mine w).number ≡ (mine v).number
  pub longer : length (mine w).log ≡ suc (length (mine v).log)
  pub ready : (n : ℕ) → IsReady v (suc n) → IsReady w n
