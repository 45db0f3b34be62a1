use Rattle.std.proofs.Common.{get_or, arith, add-one}
use Rattle.std.proofs.lemmas.List.{take_all, get_or_default}
use Rattle.std.proofs.lemmas.Option.{slice_get-get_or}
use Rattle.dg_base.specs.declared.Lit.{Lit}
use Rattle.clause_store.proofs.Ranks.{best_none, best_same, best_new, best_old}
use Rattle.clause_store.proofs.watch_choice.best_watch.Goals.{then-is_other+then-is_better, then-is_other+else-is_better, else-is_other}
use Rattle.clause_store.proofs.watch_choice.best_watch.Goals as goal

pub loop-i-init : goal.loop-i-init
loop-i-init c = best_none c.args.trail.now.entries c.args.except

pub loop-i-preserved : goal.loop-i-preserved
loop-i-preserved c =
    let entries = c.args.trail.now.entries in
    let no_lit : Lit = record { 0 = 0 } in
    let at = slice_get-get_or c.args.clause.now c.loop-i.i no_lit c.loop-i-test.true in
    elim c.if-is_other.branch [
      | then-is_other+then-is_better w ↦
          rw (add-one, w.best-is, w.best_rank-is)
          (best_new entries c.args.clause.now c.loop-i.i c.args.except c.loop-i.best (get_or c.args.clause.now c.loop-i.i no_lit) c.loop-i.best_rank w.rank-rank.result at w.if-is_other.ensures
          (λ z. (let o = (c.requires.over (get_or c.args.clause.now c.loop-i.i no_lit) (c.loop-i.i, c.loop-i-test.true, get_or_default c.args.clause.now c.loop-i.i (get_or c.args.clause.now c.loop-i.i no_lit) no_lit c.loop-i-test.true)).0 in omega arith))
          c.loop-i.invariant w.rank-rank.ensures w.if-is_better.ensures)
      | then-is_other+else-is_better w ↦
          rw (add-one, w.best-is, w.best_rank-is)
          (best_old entries c.args.clause.now c.loop-i.i c.args.except c.loop-i.best (get_or c.args.clause.now c.loop-i.i no_lit) c.loop-i.best_rank w.rank-rank.result at w.if-is_other.ensures
          (λ z. (let o = (c.requires.over (get_or c.args.clause.now c.loop-i.i no_lit) (c.loop-i.i, c.loop-i-test.true, get_or_default c.args.clause.now c.loop-i.i (get_or c.args.clause.now c.loop-i.i no_lit) no_lit c.loop-i-test.true)).0 in omega arith))
          c.loop-i.invariant w.rank-rank.ensures w.if-is_better.ensures.0 w.if-is_better.ensures.1)
      | else-is_other w ↦
          rw (add-one, w.best-is, w.best_rank-is)
          (best_same entries c.args.clause.now c.loop-i.i c.args.except c.loop-i.best c.loop-i.best_rank (rw w.if-is_other.ensures at at) c.loop-i.invariant)
    ]

pub returns : goal.returns
returns c = rw (take_all c.loop-i.i c.args.clause.now c.loop-i-test.false) at c.loop-i.invariant
