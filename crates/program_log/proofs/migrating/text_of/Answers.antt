use Rattle.std.proofs.Common.{false, refl, subst, sym}
use Rattle.std.proofs.lemmas.Result.{IfOk-weaker}
use Rattle.cnf_problem.specs.declared.problem.Head.{Head}
use Rattle.lemma_log.specs.declared.hints.AnyLog.TheVariants.{Hinted}
use Rattle.log_text.specs.Spelling.{HasHead, Spells, written}
use Rattle.program_log.specs.Logs.{IsHintedText}
use Rattle.program_log.proofs.Writing.{entries_can, hints_can}
use Rattle.program_log.proofs.migrating.text_of.Goals as goal

pub print_hinted-requires-clause-log : goal.print_hinted-requires-clause-log
print_hinted-requires-clause-log c =
    let h = c.args.hinted.now in
    let can = subst HasHead (sym c.head_of-head.ensures.is) c.head_of-head.ensures.can in
    record { model = can.model; entries_can = entries_can c.args.encoded.now.problem h.log.entries h.hints c.requires.good c.requires.workers }

pub print_hinted-requires-clause-hints : goal.print_hinted-requires-clause-hints
print_hinted-requires-clause-hints c =
    let h = c.args.hinted.now in
    hints_can c.args.encoded.now.problem h.log.entries h.hints h.matched c.requires.good

pub returns : goal.returns
returns c =
    let p = c.args.checked.now in
    let x = c.args.encoded.now in
    let h = c.args.hinted.now in
    IfOk-weaker c.print_hinted.result (Spells false (written c.head_of-head.result (Hinted h))) (IsHintedText p x h.log.entries)
    (λ text s. record { hinted = h; same = refl; good = c.requires.good; spelled = subst (λ (d : Head). Spells false (written d (Hinted h)) text) c.head_of-head.ensures.is s })
    c.print_hinted.ensures.spells
