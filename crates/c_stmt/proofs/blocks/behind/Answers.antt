use Rattle.std.proofs.Common.{reverse, ap, ◌∙◌, subst}
use Rattle.std.specs.Prelude.{IfOk}
use Rattle.c_expr.specs.Words.{word_of}
use Rattle.c_stmt.specs.Machine as machine
use Rattle.c_stmt.proofs.blocks.behind.Goals as goal

pub returns : goal.returns
returns c =
    subst (λ (h : machine.Held). IfOk c.behind_closed.result (λ r. machine.StepGives r c.behind_closed.new.read (machine.behind_closed (word_of c.args.token.now) c.args.token.now c.args.read.now.items h.tree h.stack)))
    (c.in_ok-body.ensures ∙ ap (λ b. machine.close b c.args.body (reverse c.args.read.now.stack)) (c.is_else.ensures ∙ ap machine.is_else c.word_of.ensures))
    c.behind_closed.ensures
