use Rattle.std.proofs.Common.{◌≡◌, inl, inr, ◌∙◌, List, true, false, Some, get_or, take, sym, subst}
use Rattle.std.specs.Prelude.{Contains, slice_get}
use Rattle.std.proofs.lemmas.List.{take_all}
use Rattle.std.proofs.lemmas.Option.{slice_get-get_or}
use Rattle.dg_base.proofs.Lists.{contains_nothing}
use Rattle.dg_base.specs.declared.Lit.{Lit}
use Rattle.trail_state.specs.Trails.{true_lits}
use Rattle.hint_maker.proofs.Fronts.{push_cases, taken_more}
use Rattle.hint_maker.proofs.ends.is_any_true.Goals as goal

pub loop-lit-init : goal.loop-lit-init
loop-lit-init c m n = absurd (contains_nothing m n)

pub loop-lit-preserved : goal.loop-lit-preserved
loop-lit-preserved c m in_more holds =
    let lits = c.args.lits.now in
    let i = c.loop-lit.lit-index in
    let lit : Lit = get_or lits i (record { 0 = 0 }) in
    let at : slice_get lits i ≡ Some lit = slice_get-get_or lits i (record { 0 = 0 }) c.loop-lit-test.true in
    elim (push_cases (take i lits) lit m (subst (λ z. Contains z m) (taken_more lits i lit at) in_more)) [
      | inl d ↦ c.loop-lit.invariant m d holds
      | inr e ↦ let two : true ≡ false = sym (c.is_true.ensures.1 (subst (λ (x : Lit). Contains (true_lits c.args.trail.now.entries) x) e holds)) ∙ c.if-is_true.false in absurd (cc)
    ]

pub returns : goal.returns
returns c none l listed = c.loop-lit.invariant l (subst (λ (z : List Lit). Contains z l) (sym (take_all c.loop-lit.lit-index c.args.lits.now c.loop-lit-test.false)) listed)
