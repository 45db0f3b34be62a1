-- A log and a seat that were not used yet.
use Rattle.std.proofs.Common.{◌≡◌, ℕ, [], ◌∷◌, refl, ap, sym, subst}
use Rattle.cnf_problem.specs.declared.problem.Problem.{Problem}
use Rattle.clause_exchange.specs.declared.rule.RowView.{RowView}
use Rattle.clause_exchange.specs.declared.rule.View.{View}
use Rattle.clause_exchange.specs.Rule.{blank_row, blank_part, new_view}
use Rattle.clause_exchange.specs.Splits.{with_parts}
use Rattle.clause_exchange.proofs.Opening.{there_same}
use Rattle.worker_log.specs.Logs.{LogView, empty_log, IsUnused}

-- a new log beside a seat of one number that has done nothing
pub unused_blank : (p : Problem) (n words k : ℕ) (w : LogView) (v : View) → w ≡ empty_log k n → v ≡ with_parts (new_view p n words) (blank_part n k ∷ []) → IsUnused w v
unused_blank p n words k w v is e =
    subst (λ (u : View). IsUnused w u) (sym e)
    (is, record { one = refl; log = refl; shared = refl; unread = λ j r at. ap (λ (x : RowView). x.loaded) (there_same n j blank_row r at); offers = refl })
