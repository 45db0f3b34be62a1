use Rattle.std.proofs.Common.{◌≢◌, ◌≡◌, ◌+◌, ◌*◌, ◌<◌, set, length, ap, sym, ◌∙◌, subst, refl, arith}
use Rattle.std.specs.Prelude.{slice_index}
use Rattle.std.proofs.lemmas.List.{get_or-set_same, get_or-set_other}
use Rattle.clause_exchange.specs.declared.rule.View.{View}
use Rattle.clause_exchange.specs.declared.counters.Counters.{Counters}
use Rattle.clause_exchange.specs.Seats.{SeatState, IsTied, cell}
use Rattle.clause_exchange.specs.Calls.{HasOne}
use Rattle.clause_exchange.specs.Steps.{mine, row_of, looked_at}
use Rattle.clause_exchange.proofs.Tying.{one_number, one_tied, row_there, tied_row, whole_looked}
use Rattle.clause_exchange.proofs.exchange.Exchange.look.Goals as goal

pub invariant_of-seat : goal.invariant_of-seat
invariant_of-seat c =
    let s = c.seat.inside in
    let same = sym (ap (λ (q : SeatState). q.view) c.seat.view_is) in
    let one = subst HasOne same c.requires.one in
    let inside = subst (λ (u : View). c.args.row < u.workers) same c.requires.row.0 in
    let other = subst (λ (u : View). c.args.row ≢ (mine u).number) same c.requires.row.1 in
    let v = s.token.me.0 in
    let k = s.number in
    let t = c.seat.invariant.0 in
    let told = c.load_count-words.ensures in
    let found = told.known in
    let here = one_number v k s.counters t one in
    let h = one_tied v k s.counters t one in
    let r = row_of (mine v) c.args.row in
    let old = h.rows c.args.row r (row_there v k s.counters t one c.args.row inside) in
    let place : cell (mine v).number c.args.row ≡ cell k c.args.row = (let n = here in omega arith) in
    let words = c.load_count-words.result in
    let d : Counters = record { owns = s.counters.owns; written = s.counters.written; looked = set s.counters.looked (16 * k + c.args.row) words; loaded = s.counters.loaded } in
    let wrote = get_or-set_same s.counters.looked (16 * k + c.args.row) words 0 (let a = t.few in let b = h.within in omega arith) in (
      subst (λ u. IsTied u k d) (sym found.4)
          (tied_row v k s.counters t one d c.args.row (looked_at r found.0 (length (mine v).log)) refl refl inside other
          (λ i apart. (get_or-set_other s.counters.looked (16 * k + c.args.row) i words 0 apart, refl))
          (record {
            looked_is = wrote ∙ found.1;
            fits = (let a = found.2 in let b = wrote in omega arith);
            loaded_is = ap (λ m. slice_index s.counters.loaded m) (sym place) ∙ old.loaded_is;
            whole = whole_looked r found.0 (length (mine v).log) old.whole found.3;
          })),
      told.slots ∙ c.seat.invariant.1,
    )
