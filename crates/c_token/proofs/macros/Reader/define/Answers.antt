use Rattle.std.proofs.Common.{cond, refl, Some, ap, ◌∙◌}
use Rattle.std.specs.HashMap.{get}
use Rattle.c_token.proofs.Defining.{made_from, reads_define}
use Rattle.c_token.specs.Macros.{bodies_of}
use Rattle.c_token.specs.Tables.{same_name}
use Rattle.c_token.proofs.macros.Reader.define.Goals as goal

pub returns : goal.returns
returns c = λ r h.
    let made = made_from _ _ (bodies_of r.macros) c.in_ok-made.made _ _ c.as_slice.ensures c.replace-body.ensures.value (c.in_ok-made.ensures (bodies_of r.macros)) h.table in
    reads_define c.args.self.now _ r c.in-Some.name c.in_ok-made.made h c.in-Some.is c.in_ok-push.ensures.ok made
    (λ q. c.in_ok-insert.ensures.updates.0 q ∙ ap (λ k. cond (same_name c.in-Some.name q) (Some k) (get same_name c.args.self.now.numbers q)) c.len-number.ensures) refl
    (c.replace-body.ensures.after ∙ c.new.ensures) refl
