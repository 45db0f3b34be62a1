use Rattle.std.proofs.Common.{sym, subst, take, get_or, List, ◌+◌, ◌++◌, ◌∷◌, [], ℕ}
use Rattle.std.specs.List.{AllZip}
use Rattle.std.proofs.lemmas.List.{take_more}
use Rattle.bv_term.specs.declared.term.TermId.{TermId}
use Rattle.bv_term.specs.Values.{IsConstant}
use Rattle.bv_term.proofs.ValueLaws.{grows_steps}
use Rattle.ssa_form.proofs.Parting.{constants_more}
use Rattle.ssa_form.proofs.assign.initials.Goals as goal

pub loop-value-preserved : goal.loop-value-preserved
loop-value-preserved c =
    let i = c.loop-value.value-index in
    let vs = c.args.values.now in
    let v : ℕ = get_or vs i 0 in
    let t = c.constant.new.self in
    let more = constants_more c.loop-value.terms t (take i vs) c.loop-value.initials v c.in_ok-term.term c.in_ok-term.ensures.grows c.loop-value.invariant.constants c.in_ok-term.ensures.constant in
    let front = subst (λ (l : List ℕ). AllZip (λ w u. IsConstant t u w) l (c.loop-value.initials ++ c.in_ok-term.term ∷ [])) (sym (take_more vs i 0 c.loop-value-test.true)) more in
    record {
      constants = subst (λ (l : List TermId). AllZip (λ w u. IsConstant t u w) (take (i + 1) vs) l) (sym c.in_ok-push.ensures.ok) front;
      grows = grows_steps c.args.terms.now c.loop-value.terms t c.loop-value.invariant.grows c.in_ok-term.ensures.grows;
    }
