use Rattle.std.proofs.Common.{None, Some, subst}
use Rattle.program_log.specs.Logs.{IsMigration}
use Rattle.dg_top.specs.Answers.{IsMigrated, Kept, Migrated, OfLog, migrated, refused}
use Rattle.dg_top.specs.Replies.{IsOneOf, Spells, kept_of}
use Rattle.dg_top.proofs.Texts.{if_ok}
use Rattle.dg_top.proofs.migrate.migrate_log.Goals as goal

pub returns-in_ok-kept-in-Migrated : goal.returns-in_ok-kept-in-Migrated
returns-in_ok-kept-in-Migrated c =
    let m = c.args.model in
    let p = c.args.checked.now in
    let old = c.args.old.now in
    let new = c.args.new.now in
    let n = c.in-Migrated.entries in
    let text = c.in-Migrated.text in
    let is = subst (IsMigration m p old) c.in-Migrated.is c.in_ok-entries.ensures in
    let kept : Kept = record { name = new; bytes = text } in
    if_ok c.migrated.result (Spells (Migrated n) (Some (kept_of c.in_ok-kept-in-Migrated.kept))) (IsOneOf (IsMigrated m p old new)) (λ r told. record {
      answer = Migrated n;
      kept = Some kept;
      allowed = migrated n text is;
      spelled = subst (λ (k : Kept). Spells (Migrated n) (Some k) r) c.in_ok-kept-in-Migrated.ensures told;
    }) c.migrated.ensures

pub returns-in-Refused : goal.returns-in-Refused
returns-in-Refused c =
    let m = c.args.model in
    let p = c.args.checked.now in
    let old = c.args.old.now in
    let a = c.in-Refused.answer in
    let is = subst (IsMigration m p old) c.in-Refused.is c.in_ok-entries.ensures in
    if_ok c.of_log.result (Spells (OfLog a) None) (IsOneOf (IsMigrated m p old c.args.new.now)) (λ r told. record {
      answer = OfLog a;
      kept = None;
      allowed = refused a is;
      spelled = told;
    }) c.of_log.ensures
