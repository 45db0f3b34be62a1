use Rattle.std.proofs.Common.{◌≡◌, ◌<◌, length, get_or, refl, arith}
use Rattle.std.proofs.lemmas.Bool.Decides.{nat_tests}
use Rattle.std.proofs.lemmas.List.{get_or_default}
use Rattle.dg_base.specs.declared.Lit.{Lit}
use Rattle.clause_store.specs.Visiting.{refuted}
use Rattle.clause_store.proofs.Visits.{contrary}
use Rattle.clause_store.proofs.fresh_clauses.look_whole.Goals as goal

pub returns-then-is_empty-clause-looked : goal.returns-then-is_empty-clause-looked
returns-then-is_empty-clause-looked c =
    let e = c.is_empty.ensures in
    let t = c.if-is_empty.true in
    let zero : length c.args.clause.now ≡ 0 = grind (arith, nat_tests) in
    record {
      other = c.args.watch;
      to = c.args.watch;
      done = refuted (λ m there. let h = there.1 in absurd (omega arith));
      listed = λ q. absurd (contrary q);
      watching = λ real. refl;
    }

pub returns-clause-looked : goal.returns-clause-looked
returns-clause-looked c =
    let e = c.is_empty.ensures in
    let t = c.if-is_empty.false in
    let no_lit : Lit = record { 0 = 0 } in
    let some : 0 < length c.args.clause.now = grind (arith, nat_tests) in
    record {
      other = get_or c.args.clause.now 0 no_lit;
      to = c.visit_clause-2.result.watch;
      done = c.visit_clause-2.ensures.done;
      listed = λ q. (0, some, get_or_default c.args.clause.now 0 (get_or c.args.clause.now 0 no_lit) no_lit some);
      watching = λ real. absurd (real c.if-watch-ne0.false);
    }
