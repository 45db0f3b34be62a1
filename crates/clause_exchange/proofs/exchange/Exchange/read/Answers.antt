use Rattle.std.proofs.Common.{◌≢◌, ◌+◌, ◌*◌, ◌<◌, set, length, ap, sym, ◌∙◌, subst, refl, arith}
use Rattle.std.specs.Prelude.{slice_index, All}
use Rattle.std.proofs.lemmas.List.{get_or-set_same, get_or-set_other}
use Rattle.cnf_problem.specs.Literals.{IsOver}
use Rattle.clause_exchange.specs.declared.rule.View.{View}
use Rattle.clause_exchange.specs.declared.counters.Counters.{Counters}
use Rattle.clause_exchange.specs.Spelling.{entry_size}
use Rattle.clause_exchange.specs.Seats.{SeatState, ExchangeId, IsTied, cell, exchange_of}
use Rattle.clause_exchange.specs.Calls.{HasOne, after_read}
use Rattle.clause_exchange.specs.Steps.{mine, row_of, with_loaded, with_row, with_part, IsAt}
use Rattle.clause_exchange.proofs.Tying.{one_number, one_tied, row_there, row_tied, tied_row, next_of, next_at, whole_read}
use Rattle.clause_exchange.proofs.exchange.Exchange.read.Goals as goal

pub read_entry-requires : goal.read_entry-requires
read_entry-requires c =
    let s = c.seat.inside in
    let same = sym (ap (λ (q : SeatState). q.view) c.seat.view_is) in
    let one = subst HasOne same c.requires.one in
    let inside = subst (λ (u : View). c.args.row < u.workers) same c.requires.row.0 in
    let e = ap exchange_of c.seat.view_is ∙ (c.requires.same ∙ sym c.self.view_is) in
    let workers = ap (λ (x : ExchangeId). x.workers) e in
    let share_words = ap (λ (x : ExchangeId). x.share_words) e in
    let v = s.token.me.0 in
    let t = c.seat.invariant.0 in
    let row = row_tied v s.number s.counters t one c.args.row inside in (
      ap (λ (x : ExchangeId). x.table) e,
      (
        record { live = t.live; one = one },
        (
          (workers, share_words),
          (
            (row_there v s.number s.counters t one c.args.row inside, subst (λ n. c.args.row < n) workers inside),
            (
              next_at (row_of (mine v) c.args.row) (slice_index s.counters.loaded (cell s.number c.args.row)) (slice_index s.counters.looked (cell s.number c.args.row)) row.whole row.loaded_is row.looked_is c.if-loaded-seat.false,
              (row.loaded_is, (let a = row.looked_is in let b = row.fits in let d = share_words in omega arith)),
            ),
          ),
        ),
      ),
    )

pub invariant_of-seat : goal.invariant_of-seat
invariant_of-seat c =
    let s = c.seat.inside in
    let same = sym (ap (λ (q : SeatState). q.view) c.seat.view_is) in
    let one = subst HasOne same c.requires.one in
    let inside = subst (λ (u : View). c.args.row < u.workers) same c.requires.row.0 in
    let other = subst (λ (u : View). c.args.row ≢ (mine u).number) same c.requires.row.1 in
    let v = s.token.me.0 in
    let k = s.number in
    let t = c.seat.invariant.0 in
    let row = row_tied v k s.counters t one c.args.row inside in
    let r = row_of (mine v) c.args.row in
    let told = c.read_entry.ensures in
    let words = c.read_entry.result in
    let loaded = slice_index s.counters.loaded (cell k c.args.row) in
    let at = next_at r loaded (slice_index s.counters.looked (cell k c.args.row)) row.whole row.loaded_is row.looked_is c.if-loaded-seat.false in
    let here = one_number v k s.counters t one in
    let within = (one_tied v k s.counters t one).within in
    let d : Counters = record { owns = s.counters.owns; written = s.counters.written; looked = s.counters.looked; loaded = set s.counters.loaded (16 * k + c.args.row) words } in
    let wrote = get_or-set_same s.counters.loaded (16 * k + c.args.row) words 0 (let few = t.few in let b = within in let n = here in omega arith) in (
      subst (λ u. IsTied u k d) (sym told.view)
          (tied_row v k s.counters t one d c.args.row (with_loaded r words) refl refl inside other
          (λ i apart. (refl, get_or-set_other s.counters.loaded (16 * k + c.args.row) i words 0 apart))
          (record {
            looked_is = row.looked_is;
            fits = row.fits;
            loaded_is = wrote;
            whole = whole_read r (next_of loaded r.known) words at (told.loaded ∙ ap (λ m. m + entry_size (length (next_of loaded r.known).lits)) row.loaded_is);
          })),
      told.slots ∙ c.seat.invariant.1,
    )

pub returns-clause-read : goal.returns-clause-read
returns-clause-read c =
    let s = c.seat.inside in
    let seen = ap (λ (q : SeatState). q.view) c.seat.view_is in
    let one = subst HasOne (sym seen) c.requires.one in
    let inside = subst (λ (u : View). c.args.row < u.workers) (sym seen) c.requires.row.0 in
    let v = s.token.me.0 in
    let k = s.number in
    let t = c.seat.invariant.0 in
    let row = row_tied v k s.counters t one c.args.row inside in
    let r = row_of (mine v) c.args.row in
    let told = c.read_entry.ensures in
    let loaded = slice_index s.counters.loaded (cell k c.args.row) in
    let h = next_of loaded r.known in
    let at = next_at r loaded (slice_index s.counters.looked (cell k c.args.row)) row.whole row.loaded_is row.looked_is c.if-loaded-seat.false in
    let words = told.loaded ∙ ap (λ m. m + entry_size (length h.lits)) row.loaded_is in (
      h,
      record {
        next = subst (λ (u : View). IsAt (row_of (mine u) c.args.row) h 0) seen at;
        ticket = told.ticket.0;
        worker = told.ticket.1;
        len = told.len.0;
        few = told.len.1;
        lits = told.lits;
        over = subst (λ (u : View). All (IsOver u.problem.vars) h.lits) seen told.over;
      },
      told.view ∙ (ap (λ m. with_part v (with_row (mine v) c.args.row (with_loaded r m))) words ∙ ap (λ (u : View). after_read u c.args.row h) seen),
    )
