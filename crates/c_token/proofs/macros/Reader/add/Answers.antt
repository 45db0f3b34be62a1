use Rattle.std.proofs.Common.{sym, ◌∙◌}
use Rattle.c_token.proofs.Defining.{reads_body, reads_use, reads_nothing}
use Rattle.c_token.proofs.macros.Reader.add.Goals as goal

pub returns-in_default : goal.returns-in_default
returns-in_default c = λ r h. reads_nothing c.args.self.now r _ h (c.in_default.ensures r h)

pub returns-in_ok-push : goal.returns-in_ok-push
returns-in_ok-push c = λ r h.
    let used = c.in-Some.ensures r h in
    reads_body c.args.self.now r c.push.new.self c.in-Some.one _ h (sym c.is_some.ensures ∙ c.if-is_some.true) c.in_ok-push.ensures.ok used.0 used.1

pub returns-in_ok-push-2 : goal.returns-in_ok-push-2
returns-in_ok-push-2 c = λ r h.
    let used = c.in-Some.ensures r h in
    reads_use c.args.self.now r c.push-else-is_some.new.self c.in-Some.one _ h (sym c.is_some.ensures ∙ c.if-is_some.false) c.in_ok-push-2.ensures.ok used.0 used.1
