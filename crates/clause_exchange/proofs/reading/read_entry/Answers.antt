use Rattle.std.proofs.Common.{◌≡◌, ◌+◌, ◌*◌, ◌<◌, inl, inr, ◌∙◌, ℕ, List, length, get_or, set, slice_get, Some, arith, ap}
use Rattle.std.proofs.lemmas.Bool.{cases_eq}
use Rattle.std.proofs.lemmas.List.{length-set, get_or-set_same, get_or-set_other}
use Rattle.dg_base.specs.declared.Lit.{Lit}
use Rattle.clause_exchange.specs.declared.rule.Part.{Part}
use Rattle.clause_exchange.specs.declared.rule.RowView.{RowView}
use Rattle.clause_exchange.specs.declared.rule.View.{View}
use Rattle.clause_exchange.specs.Steps.{mine, row_of, with_part, with_row, with_loaded, no_lit}
use Rattle.clause_exchange.proofs.Decoding.{same_lits}
use Rattle.clause_exchange.proofs.Listed.{write_twice, row_written}
use Rattle.clause_exchange.proofs.reading.read_entry.Goals as goal

-- one more pair stands in its place
pair_written : (xs ys : List Lit) (i : ℕ) (a b : ℕ) → length xs ≡ 32 → 2 * i + 1 < 32 → ((k : ℕ) → k < 2 * i → k < length ys → (get_or xs k no_lit).0 ≡ (get_or ys k no_lit).0) → a ≡ (get_or ys (2 * i) no_lit).0 → (2 * i + 1 < length ys → b ≡ (get_or ys (2 * i + 1) no_lit).0)
    → (k : ℕ) → k < 2 * (i + 1) → k < length ys → (get_or (set (set xs (2 * i) (record { 0 = a })) (2 * i + 1) (record { 0 = b })) k no_lit).0 ≡ (get_or ys k no_lit).0
pair_written xs ys i a b long inside old first second k lt within =
    let one : List Lit = set xs (2 * i) (record { 0 = a }) in
    elim (cases_eq k (2 * i + 1)) [
      | inl e ↦ rw e (ap (λ (l : Lit). l.0) (get_or-set_same (set xs (2 * i) (record { 0 = a })) (2 * i + 1) (record { 0 = b }) no_lit (let n = length-set xs (2 * i) (record { 0 = a }) in omega arith)) ∙ second (omega arith))
      | inr other ↦
          let skip = ap (λ (l : Lit). l.0) (get_or-set_other (set xs (2 * i) (record { 0 = a })) (2 * i + 1) k (record { 0 = b }) no_lit other) in
          elim (cases_eq k (2 * i)) [
            | inl e ↦ skip ∙ (rw e (ap (λ (l : Lit). l.0) (get_or-set_same xs (2 * i) (record { 0 = a }) no_lit (omega arith)) ∙ first))
            | inr apart ↦ skip ∙ (ap (λ (l : Lit). l.0) (get_or-set_other xs (2 * i) k (record { 0 = a }) no_lit apart) ∙ old k (omega arith) within)
          ]
    ]

-- the view after one more load
loaded_again : (v w : View) (part : Part) (row : ℕ) (r : RowView) (n m k : ℕ) → slice_get part.rows row ≡ Some r → v ≡ with_part w (with_row part row (with_loaded r n)) → m + 1 ≡ k
    → with_part v (with_row (mine v) row (with_loaded (row_of (mine v) row) (m + 1))) ≡ with_part w (with_row part row (with_loaded r k))
loaded_again v w part row r n m k at view e =
    ap (λ (u : View). with_part u (with_row (mine u) row (with_loaded (row_of (mine u) row) (m + 1)))) view
    ∙ ap (λ (x : RowView). with_part w (with_row (with_row part row (with_loaded r n)) row (with_loaded x (m + 1)))) (row_written part.rows row r (with_loaded r n) at)
    ∙ ap (λ rows. with_part w (record { number = part.number; log = part.log; shared = part.shared; stored = part.stored; rows = rows; seen = part.seen; offers = part.offers; loads = part.loads })) (write_twice part.rows row (with_loaded r n) (with_loaded r (m + 1)))
    ∙ ap (λ j. with_part w (with_row part row (with_loaded r j))) e

pub loop-i-preserved : goal.loop-i-preserved
loop-i-preserved g c =
    let inv = c.loop-i.invariant in
    let step = c.load_pair-first.ensures in
    let few = c.load_head-ticket.ensures.few in
    let t = c.loop-i-test.true in (
      step.same ∙ inv.0,
      step.slots ∙ inv.1,
      step.view ∙ loaded_again c.loop-i.seat.me.0 c.args.seat.now.me.0 g.told.0.0 c.args.row g.told.0.1 (c.args.loaded + 1 + c.loop-i.i) (c.args.loaded + 1 + c.loop-i.i) (c.args.loaded + 1 + (c.loop-i.i + 1)) c.requires.1.1.1.0.0 inv.2 (omega arith),
      inv.3,
      inv.4,
      inv.5,
      length-set (set c.loop-i.into.lits (2 * c.loop-i.i) (record { 0 = c.load_pair-first.result.0 })) (2 * c.loop-i.i + 1) (record { 0 = c.load_pair-first.result.1 }) ∙ (length-set c.loop-i.into.lits (2 * c.loop-i.i) (record { 0 = c.load_pair-first.result.0 }) ∙ inv.6),
      pair_written c.loop-i.into.lits g.told.1.lits c.loop-i.i c.load_pair-first.result.0 c.load_pair-first.result.1 inv.6 (omega arith) inv.7 step.first step.second,
    )

pub returns-clause-lits : goal.returns-clause-lits
returns-clause-lits g c =
    let inv = c.loop-i.invariant in
    let few = c.load_head-ticket.ensures.few in
    let len = c.load_head-ticket.ensures.entry.1 in
    let t = c.loop-i-test.false in
    let same = inv.5 in
    let long = inv.6 in
    same_lits c.loop-i.into.len c.loop-i.into.lits g.told.1.lits (omega arith) (omega arith) (λ k lt. inv.7 k (omega arith) (omega arith))
