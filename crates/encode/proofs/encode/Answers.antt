use Rattle.std.proofs.lemmas.Result.{IfOk-weaker}
use Rattle.flat_prog.specs.declared.Flat.{Flat}
use Rattle.ssa_form.specs.Form.{IsSsaOf}
use Rattle.encode_match.specs.declared.Encoded.{Encoded}
use Rattle.encode_match.specs.Encoding.{IsEncoding}
use Rattle.encode_match.specs.Parts.{IsMadeOf}
use Rattle.encode.proofs.encode.Goals as goal

pub returns-clause-encodes : goal.returns-clause-encodes
returns-clause-encodes c =
    let f = c.in_ok-form.ensures in
    IfOk-weaker c.encode_form.result (λ (x : Encoded). (flat : Flat) → IsSsaOf flat c.in_ok-form.form → IsMadeOf c.args.model flat x) (λ (x : Encoded). IsEncoding c.args.checked.now x)
    (λ (x : Encoded) made. c.chain_encodes.ensures c.args.checked.now c.args.model f.0 x (record { checked = c.requires; unrolled = f.1; made = made f.0 f.2 }))
    c.encode_form.ensures
