use Rattle.std.proofs.Common.{List, sym, subst}
use Rattle.dg_base.specs.declared.Lit.{Lit}
use Rattle.ssa_form.specs.declared.SsaPart.{SsaPart}
use Rattle.encode.specs.Words.{AllHaveGuards, HaveParts}
use Rattle.encode.proofs.Fitting.{have_parts, have_guards}
use Rattle.encode.proofs.prepare.Goals as goal

pub part_maps-requires : goal.part_maps-requires
part_maps-requires c =
    subst (λ (ps : List SsaPart). HaveParts c.as_slice-words.result.now ps) (sym c.as_slice.ensures)
    (subst (λ (ws : List (List Lit)). HaveParts ws c.args.form.now.parts) (sym c.as_slice-words.ensures)
    (have_parts c.requires.flat c.args.form.now c.in_ok-bits.bits.words c.requires.form c.in_ok-bits.ensures.count))

pub endings_of-requires : goal.endings_of-requires
endings_of-requires c =
    subst (λ (ps : List SsaPart). AllHaveGuards c.as_slice-words.result.now ps) (sym c.as_slice-2.ensures)
    (subst (λ (ws : List (List Lit)). AllHaveGuards ws c.args.form.now.parts) (sym c.as_slice-words.ensures)
    (have_guards c.requires.flat c.args.form.now c.in_ok-bits.bits.words c.requires.form c.in_ok-bits.ensures.count))
