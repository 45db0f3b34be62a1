use Rattle.std.proofs.Common.{◌≡◌, ◌++◌, append_assoc, ◌∙◌}
use Rattle.std.specs.Prelude.{codes}
use Rattle.line_text.proofs.Texts.{on_ok, then_part}
use Rattle.dg_top.specs.LogLines.{other_text}
use Rattle.dg_top.proofs.log_reply.put_other.Goals as goal

pub returns : goal.returns
returns c = on_ok c.put-5.result _ _ whole c.put-5.ensures.appended
  where
    whole : c.put-5.new.out.items ≡ c.put-4.new.out.items ++ codes "\n" → c.put-5.new.out.items ≡ c.args.out.now.items ++ other_text c.args.line c.args.theirs.now c.args.ours.now
    whole e =
        let log = then_part (codes "\nlog ") c.in_ok-put_numbered.ensures c.in_ok-put.ensures.appended in
        let theirs = then_part c.args.theirs.now log c.in_ok-put-2.ensures.appended in
        let here = then_part (codes "\nhere ") theirs c.in_ok-put-3.ensures.appended in
        let ours = then_part c.args.ours.now here c.in_ok-put-4.ensures.appended in
        then_part (codes "\n") ours e ∙ simp append_assoc
