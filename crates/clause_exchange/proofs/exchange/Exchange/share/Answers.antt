use Rattle.std.proofs.Common.{◌+◌, ◌≤◌, set, length, ap, sym, ◌∙◌, subst, refl, arith}
use Rattle.std.specs.Prelude.{slice_index}
use Rattle.atomic_table.specs.Seated.{TableId}
use Rattle.cnf_problem.specs.declared.problem.Lemma.{Lemma}
use Rattle.clause_exchange.specs.declared.rule.View.{View}
use Rattle.clause_exchange.specs.declared.counters.Counters.{Counters}
use Rattle.clause_exchange.specs.Spelling.{entry_size}
use Rattle.clause_exchange.specs.Seats.{SeatState, ExchangeId, IsTied, exchange_of}
use Rattle.clause_exchange.specs.Calls.{HasOne, IsLogged, after_share}
use Rattle.clause_exchange.specs.Steps.{mine, IsOfLog}
use Rattle.clause_exchange.proofs.Tying.{one_number, one_tied, words_tied, tied_shared}
use Rattle.clause_exchange.proofs.exchange.Exchange.share.Goals as goal

pub share_entry-requires : goal.share_entry-requires
share_entry-requires c =
    let s = c.seat.inside in
    let seen = ap (λ (q : SeatState). q.view) c.seat.view_is in
    let one = subst HasOne (sym seen) c.requires.one in
    let v = s.token.me.0 in
    let t = c.seat.invariant.0 in
    let e = c.requires.logged.0 in
    let logged = subst (λ (u : View). IsLogged (mine u) c.args.entry.now e) (sym seen) c.requires.logged.1 in
    let lits = c.as_slice-lits.result.now in
    let is : IsOfLog (mine v) c.args.entry.now.ticket lits e = record { listed = logged.listed; ticket_is = sym logged.ticket_is; lits_are = c.as_slice-lits.ensures ∙ ap (λ (l : Lemma). l.lits) (sym logged.lemma_is) } in
    let here = one_number v s.number s.counters t one in
    let h = one_tied v s.number s.counters t one in
    let same = ap exchange_of c.seat.view_is ∙ (c.requires.same ∙ sym c.self.view_is) in
    let workers = ap (λ (x : ExchangeId). x.workers) same in
    let share_words = ap (λ (x : ExchangeId). x.share_words) same in
    let short : length lits ≤ 32 = (let a = c.if-lits-gt32.false in omega arith) in
    let room : slice_index s.counters.written s.number + entry_size (length lits) ≤ c.self.inside.board.share_words = (
    let a = c.if-needed-self.false in
    let w = ap (λ k. slice_index s.counters.written k) here in
    let b = h.written_is in
    let d = h.fits in
    let f = share_words in
    omega arith
    ) in (
      ap (λ (x : ExchangeId). x.table) same,
      (
        record { live = t.live; one = one },
        (
          (workers, share_words),
          (
            (here, (let a = h.within in let b = here in let d = workers in omega arith)),
            ((e, is), (short, (h.idle, (words_tied v s.number s.counters t one, room)))),
          ),
        ),
      ),
    )

pub invariant_of-seat : goal.invariant_of-seat
invariant_of-seat c =
    let s = c.seat.inside in
    let seen = ap (λ (q : SeatState). q.view) c.seat.view_is in
    let one = subst HasOne (sym seen) c.requires.one in
    let v = s.token.me.0 in
    let t = c.seat.invariant.0 in
    let e = c.requires.logged.0 in
    let logged = subst (λ (u : View). IsLogged (mine u) c.args.entry.now e) (sym seen) c.requires.logged.1 in
    let lits = c.as_slice-lits.result.now in
    let is : IsOfLog (mine v) c.args.entry.now.ticket lits e = record { listed = logged.listed; ticket_is = sym logged.ticket_is; lits_are = c.as_slice-lits.ensures ∙ ap (λ (l : Lemma). l.lits) (sym logged.lemma_is) } in
    let here = one_number v s.number s.counters t one in
    let h = one_tied v s.number s.counters t one in
    let told = c.share_entry.ensures in
    let size = ap length is.lits_are in
    let same = ap exchange_of c.seat.view_is ∙ (c.requires.same ∙ sym c.self.view_is) in
    let share_words = ap (λ (x : ExchangeId). x.share_words) same in
    let d : Counters = record { owns = s.counters.owns; written = set s.counters.written s.number c.share_entry.result; looked = s.counters.looked; loaded = s.counters.loaded } in (
      subst (λ u. IsTied u s.number d) (sym (told.shared e is))
          (tied_shared v s.number s.counters t one d e refl refl refl
          (ap (λ m. set s.counters.written s.number m) (told.written ∙ ap (λ n. slice_index s.counters.written s.number + entry_size n) size))
          (omega arith)
          (
          let a = c.if-needed-self.false in
          let w = ap (λ k. slice_index s.counters.written k) here in
          let b = h.written_is in
          let d = h.fits in
          let f = share_words in
          omega arith
          )),
      told.slots ∙ c.seat.invariant.1,
    )

pub returns-clause-same : goal.returns-clause-same
returns-clause-same c =
    let s = c.seat.inside in
    let seen = ap (λ (q : SeatState). q.view) c.seat.view_is in
    let one = subst HasOne (sym seen) c.requires.one in
    let v = s.token.me.0 in
    let t = c.seat.invariant.0 in
    let e = c.requires.logged.0 in
    let logged = subst (λ (u : View). IsLogged (mine u) c.args.entry.now e) (sym seen) c.requires.logged.1 in
    let lits = c.as_slice-lits.result.now in
    let is : IsOfLog (mine v) c.args.entry.now.ticket lits e = record { listed = logged.listed; ticket_is = sym logged.ticket_is; lits_are = c.as_slice-lits.ensures ∙ ap (λ (l : Lemma). l.lits) (sym logged.lemma_is) } in
    let told = c.share_entry.ensures in
    ap (λ (u : View). exchange_of (record { table = c.share_entry.new.seat.table_id; view = u })) (told.shared e is)
    ∙ (ap (λ (i : TableId). exchange_of (record { table = i; view = v })) told.same ∙ ap exchange_of c.seat.view_is)

pub returns-clause-shared : goal.returns-clause-shared
returns-clause-shared c =
    λ e logged.
    let seen = ap (λ (q : SeatState). q.view) c.seat.view_is in
    let here = subst (λ (u : View). IsLogged (mine u) c.args.entry.now e) (sym seen) logged in
    let lits = c.as_slice-lits.result.now in
    let is : IsOfLog (mine c.seat.inside.token.me.0) c.args.entry.now.ticket lits e = record { listed = here.listed; ticket_is = sym here.ticket_is; lits_are = c.as_slice-lits.ensures ∙ ap (λ (l : Lemma). l.lits) (sym here.lemma_is) } in
    c.share_entry.ensures.shared e is ∙ ap (λ (u : View). after_share u e) seen
