use Rattle.std.proofs.Common.{◌≤◌, ℕ, List, [], ◌∷◌, ◌++◌, ap, subst, ◌∙◌}
use Rattle.std.specs.Prelude.{if◌then◌else◌}
use Rattle.std.specs.List.{AllByRecursion}
use Rattle.dg_base.specs.declared.Lit.{Lit}
use Rattle.cnf_problem.specs.Literals.{var}
use Rattle.line_text.specs.Words.{shown}
use Rattle.line_text.proofs.Texts.{then_part}
use Rattle.log_text.specs.Formats.{Row, hint_words, kind_text, lit_text}
use Rattle.log_text.specs.Numbers.{HasRowNumbers}
use Rattle.log_text.specs.Spelling.{row_of}
use Rattle.log_text.proofs.Parts.{always, ends_with, row_parts}
use Rattle.log_text.proofs.printing.put_row.Goals as goal

pub returns-clause-text : goal.returns-clause-text
returns-clause-text c =
    let r : Row = row_of c.args.entry.now c.args.hints.now in
    let a = c.in_ok-put_number.ensures.appended in
    let b = then_part (32 ∷ []) a c.in_ok-put.ensures.appended in
    let d = then_part _ b c.in_ok-put_number-2.ensures.appended in
    let e = then_part (32 ∷ []) d c.in_ok-put-2.ensures.appended in
    let f = then_part (kind_text r.kind) e c.in_ok-put_kind.ensures in
    let g = then_part (shown lit_text r.lits) f (c.in_ok-put_lits.ensures.text ∙ ap (λ l. c.put_kind.new.out.items ++ shown lit_text l) c.as_slice.ensures) in
    let h = then_part (32 ∷ 48 ∷ []) g c.in_ok-put-3.ensures.appended in
    let i = then_part (shown (λ (w : List ℕ). w) (if c.args.hinted then hint_words r.kind r.hints else [])) h c.in_ok-put_hints_behind.ensures.text in
    ends_with c.put-4.result _ _ _ _ (10 ∷ []) c.put-4.ensures.appended i (row_parts c.args.out.now.items c.args.hinted r)

pub returns-clause-numbers : goal.returns-clause-numbers
returns-clause-numbers c =
    let r : Row = row_of c.args.entry.now c.args.hints.now in
    let lits = subst (AllByRecursion (λ (l : Lit). var l ≤ 2147483647)) c.as_slice.ensures c.in_ok-put_lits.ensures.numbers in
    always c.put-4.result (HasRowNumbers c.args.hinted r) (record { lits = lits; hints = c.in_ok-put_hints_behind.ensures.numbers })
