use Rattle.std.proofs.Common.{false, subst}
use Rattle.program_log.specs.Heads.{head_of}
use Rattle.program_log.specs.Logs.{migrated, refused}
use Rattle.program_log.specs.Proving.{IsProved}
use Rattle.program_log.proofs.Writing.{have_workers}
use Rattle.program_log.proofs.migrating.migrate_text.Goals as goal

pub anew-requires-clause-workers : goal.anew-requires-clause-workers
anew-requires-clause-workers c =
    let p = c.args.checked.now in
    let x = c.in_ok-encoded.encoded in
    let told = subst (IsProved p x c.args.text.now) c.in-Proof.is c.in_ok-entries.ensures in
    have_workers (head_of p x) c.in-Proof.log (c.read_can_be_printed.ensures false (head_of p x) c.in-Proof.log c.args.text.now told.0.spelled)

pub returns-in-Proof : goal.returns-in-Proof
returns-in-Proof c =
    let p = c.args.checked.now in
    let x = c.in_ok-encoded in
    let told = subst (IsProved p x.encoded c.args.text.now) c.in-Proof.is c.in_ok-entries.ensures in
    record { encoded = x.encoded; chain = x.ensures.chain; answer = migrated _ _ (record { log = c.in-Proof.log; proof = told.0; kept = c.in_ok-new-in-Proof.ensures; counted = told.1 }) }

pub returns : goal.returns
returns c =
    let p = c.args.checked.now in
    let x = c.in_ok-encoded in
    let told = subst (IsProved p x.encoded c.args.text.now) c.in-Other.is c.in_ok-entries.ensures in
    record { encoded = x.encoded; chain = x.ensures.chain; answer = refused c.in-Other.answer told.0 told.1 }
