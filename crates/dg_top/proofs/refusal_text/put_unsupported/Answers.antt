use Rattle.std.proofs.Common.{◌≡◌, ◌++◌, append_assoc, ◌∙◌}
use Rattle.std.specs.Prelude.{codes}
use Rattle.dg_top.specs.RefusalText.{place_text}
use Rattle.line_text.proofs.Texts.{on_ok, then_part}
use Rattle.dg_top.proofs.refusal_text.put_unsupported.Goals as goal

pub returns : goal.returns
returns c = on_ok c.put-2.result _ _ whole c.put-2.ensures.appended
  where
    whole : c.put-2.new.out.items ≡ c.put.new.out.items ++ c.args.word.now → c.put-2.new.out.items ≡ c.args.out.now.items ++ (codes "E2 Unsupported " ++ place_text c.args.place ++ codes " " ++ c.args.word.now)
    whole e = then_part c.args.word.now (then_part (codes " ") c.in_ok-put_placed.ensures c.in_ok-put.ensures.appended) e ∙ simp append_assoc
