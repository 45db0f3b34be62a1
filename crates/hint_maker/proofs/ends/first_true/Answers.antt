use Rattle.std.proofs.Common.{◌≡◌, inl, inr, ◌≤◌, true, false, length, add-one, ◌∙◌, sym, subst, take, arith}
use Rattle.std.specs.Prelude.{Contains}
use Rattle.std.proofs.lemmas.List.{take_all}
use Rattle.dg_base.proofs.Lists.{get_from_map}
use Rattle.dg_base.specs.declared.Lit.{Lit}
use Rattle.trail_state.specs.Trails.{lit_of, true_lits}
use Rattle.hint_maker.proofs.Fronts.{front_cases}
use Rattle.hint_maker.proofs.ends.first_true.Goals as goal

pub loop-i-preserved : goal.loop-i-preserved
loop-i-preserved c m in_more listed =
    let es = c.args.trail.now.entries in
    let i = c.loop-i.i in
    let a = get_from_map lit_of es i c.lit_at.result c.lit_at.ensures in
    elim (front_cases es i a.0 m a.1 (subst (λ k. Contains (true_lits (take k es)) m) (add-one i) in_more)) [
      | inl d ↦ c.loop-i.invariant m d listed
      | inr e ↦ let two : true ≡ false = sym (c.is_listed.ensures.1 (subst (λ (x : Lit). Contains c.args.lits.now x) (e ∙ a.2) listed)) ∙ c.if-is_listed.false in absurd (cc)
    ]

pub returns-clause-none : goal.returns-clause-none
returns-clause-none c l there listed =
    let es = c.args.trail.now.entries in
    let done : length es ≤ c.loop-i.i = omega (arith, c.loop-i-test.false, c.len-i-end.ensures.count) in
    c.loop-i.invariant l (subst (λ (z : _). Contains (true_lits z) l) (sym (take_all c.loop-i.i es done)) there) listed
