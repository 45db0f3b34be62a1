use Rattle.std.proofs.Common.{refl, sym, ◌∙◌}
use Rattle.c_token.proofs.Defining.{used_root, used_nothing, used_plain}
use Rattle.c_token.proofs.macros.Reader.use_of.Goals as goal

pub returns-in_default : goal.returns-in_default
returns-in_default c = λ r h. (used_plain c.args.self.now r c.args.word h (sym c.is_name.ensures ∙ c.if-not-is_name.false) (sym c.in_default.ensures), refl)

pub returns-in-Some-root : goal.returns-in-Some-root
returns-in-Some-root c = λ r h.
    used_root c.args.self.now r c.args.word c.in-Some.number c.in-Some-root.root h (sym c.is_name.ensures ∙ c.if-not-is_name.false) (sym c.in-Some.ensures) (sym c.in-Some-root.ensures)

pub returns-in-None : goal.returns-in-None
returns-in-None c = λ r h. used_nothing c.args.self.now r c.args.word c.in-Some.number h (sym c.is_name.ensures ∙ c.if-not-is_name.false) (sym c.in-Some.ensures) (sym c.in-None.ensures)
