use Rattle.std.proofs.Common.{ℕ, IfOk, None, refl, subst}
use Rattle.witness_text.specs.Faults.{IsFaultOf}
use Rattle.c_check.specs.PlainNames.{cell_names}
use Rattle.witness_text.specs.declared.reading.WitnessFault.{WitnessFault}
use Rattle.dg_top.specs.Answers.{BadWitness, bad_witness}
use Rattle.dg_top.specs.Replies.{IsOneOf, OfWitness, Spells}
use Rattle.dg_top.proofs.Texts.{if_ok}
use Rattle.dg_top.proofs.replay.replay_witness.Goals as goal

pub returns-in-Err-WitnessText : goal.returns-in-Err-WitnessText
returns-in-Err-WitnessText c =
    let p = c.args.checked.now in
    let line = c.in-Err-WitnessText.line in
    if_ok c.bad_witness.result (Spells (BadWitness line) None) (IsOneOf (OfWitness c.args.model p c.args.witness.now)) (λ r spelled. record {
      answer = BadWitness line;
      kept = None;
      allowed = (bad_witness line (subst (λ (f : WitnessFault). IsFaultOf p.functions (cell_names p.cells) c.args.witness.now f) c.in-Err-WitnessText.field-0-is c.in-Err-WitnessText.ensures.refused), refl);
      spelled = spelled;
    }) (subst (λ (l : ℕ). IfOk c.bad_witness.result (Spells (BadWitness l) None)) c.in-Err-WitnessText.line-is c.bad_witness.ensures)
