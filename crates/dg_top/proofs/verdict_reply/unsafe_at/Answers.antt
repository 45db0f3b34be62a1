use Rattle.std.proofs.Common.{◌≡◌, arith, refl, sym, subst}
use Rattle.std.specs.Prelude.{option_map}
use Rattle.std.proofs.lemmas.Grind.{common_steps}
use Rattle.c_check.specs.PlainNames.{cell_names}
use Rattle.witness_text.specs.Spelling.{Spells}
use Rattle.dg_top.specs.Answers.{KeepsIn}
use Rattle.dg_top.specs.Replies.{kept_of}
use Rattle.dg_top.proofs.Verdicts.{keeps_this}
use Rattle.dg_top.proofs.verdict_reply.unsafe_at.Goals as goal

pub returns : goal.returns
returns c =
    let p = c.args.checked.now in
    let file = c.args.file.now in
    let text = c.as_slice-2.result.now in
    record {
      witness = text;
      kept = option_map kept_of c.in_ok-kept.kept;
      spells = subst (Spells p.functions (cell_names p.cells) c.args.failure.now.candidate) (sym c.as_slice-2.ensures) c.in_ok-witness.ensures;
      keeps = subst (KeepsIn (λ t. t ≡ text) file) (sym c.in_ok-kept.ensures) (keeps_this file text);
      spelled = record { status = refl; text = grind (arith, common_steps); keeps = refl };
    }
