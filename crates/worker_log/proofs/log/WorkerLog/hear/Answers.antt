use Rattle.std.proofs.Common.{◌≡◌, ◌<◌, Bool, ap, sym, ◌∙◌, subst, arith, length}
use Rattle.std.specs.Prelude.{MatchBool}
use Rattle.clause_exchange.specs.declared.rule.RowView.{RowView}
use Rattle.clause_exchange.specs.declared.rule.View.{View}
use Rattle.clause_exchange.specs.Spelling.{spelled}
use Rattle.clause_exchange.specs.Seats.{ExchangeId}
use Rattle.clause_exchange.specs.Steps.{mine, row_of}
use Rattle.clause_exchange.specs.Calls.{IsOther, IsAllRead}
use Rattle.worker_log.specs.Newness.{knows}
use Rattle.worker_log.specs.Keeping.{IsLogging, OnlyRow, AreHeard, unread}
use Rattle.worker_log.proofs.Hearing.{logging_looked, looked_row, knows_looked, seen_row, only_row, only_row_then}
use Rattle.worker_log.proofs.log.WorkerLog.hear.Goals as goal

pub loop-more-init : goal.loop-more-init
loop-more-init c =
    let w = c.args.self.now in
    let v = c.args.seat.now.view in
    let row = c.args.row in
    let here = c.requires.logging in
    let other = c.requires.row in
    let known = c.look.ensures.known.0 in
    let found = c.look.ensures.known.1 in
    let e = c.look.ensures.known.2 in
    let at_row = looked_row w v row here other known found.more in
    record {
      same = c.look.ensures.same;
      logging = subst (λ (x : View). IsLogging w x) (sym e) (logging_looked w v row here other known found.more);
      row = subst (λ (x : View). IsOther x row) (sym e) other;
      small = (
          let now = ap (λ (x : View). length (spelled (row_of (mine x) row).known)) e in
          let is = ap (λ (x : RowView). length (spelled x.known)) at_row in
          let words = found.words_are in
          omega arith
          );
      only = subst (λ (x : View). OnlyRow row (mine v) (mine x)) (sym e) (only_row (mine v) row (seen_row v row known));
      looked = subst (λ (x : View). (row_of (mine x) row).log_then ≡ length (mine x).log) (sym e) (ap (λ (r : RowView). r.log_then) at_row);
      heard = λ start h. subst (λ (x : View). AreHeard v.problem.vars c.args.heard.now start (knows (mine x))) (sym e) (subst (λ k. AreHeard v.problem.vars c.args.heard.now start k) (sym (knows_looked w v row here other known found.more)) h);
      done = λ f. cc;
    }

pub loop-more-preserved : goal.loop-more-preserved
loop-more-preserved c =
    let row = c.args.row in
    let inv = c.loop-more.invariant in
    let told = c.read_next.ensures in
    let vars = ap (λ (x : ExchangeId). x.problem.vars) inv.same in
    record {
      same = told.same ∙ inv.same;
      logging = told.logging;
      row = ((let a = ap (λ (x : ExchangeId). x.workers) told.same in let b = inv.row.0 in omega arith), λ e. inv.row.1 (e ∙ told.only.only.number));
      small = (let a = ap (λ hs. length (spelled hs)) told.known in let b = inv.small in omega arith);
      only = only_row_then row (mine c.args.seat.now.view) (mine c.loop-more.seat.view) (mine c.read_next.new.seat.view) inv.only told.only;
      looked = told.looked ∙ (inv.looked ∙ ap length (sym told.only.only.log));
      heard = λ start h.
          subst (λ n. AreHeard n c.read_next.new.heard start (knows (mine c.read_next.new.seat.view))) vars
          (c.in_ok-more.ensures.heard start (subst (λ n. AreHeard n c.loop-more.heard start (knows (mine c.loop-more.seat.view))) (sym vars) (inv.heard start h)));
      done = λ f. subst (λ (b : Bool). MatchBool b (unread (row_of (mine c.read_next.new.seat.view) row) < unread (row_of (mine c.loop-more.seat.view) row)) (IsAllRead (row_of (mine c.read_next.new.seat.view) row))) f c.in_ok-more.ensures.more;
    }
