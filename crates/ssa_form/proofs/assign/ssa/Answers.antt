use Rattle.std.proofs.Common.{◌≡◌, ◌∙◌, ap, sym, subst, take, drop, get_or, length, List, [], ◌∷◌, ◌++◌, ◌+◌, ◌<◌, ◌≤◌, length-drop, arith}
use Rattle.std.specs.Prelude.{ℕ, slice_get, Some}
use Rattle.std.specs.List.{AllZip}
use Rattle.std.proofs.lemmas.List.{take_more, take_all, take-append-drop}
use Rattle.bv_term.specs.Values.{IsConstant, AreTerms}
use Rattle.flat_prog.specs.declared.Instance.{Instance}
use Rattle.flat_prog.specs.Shape.{CreatesInTurn}
use Rattle.ssa_form.specs.declared.Ssa.{Ssa}
use Rattle.ssa_form.specs.declared.SsaPart.{SsaPart}
use Rattle.ssa_form.specs.declared.walk.Begin.{Begin}
use Rattle.ssa_form.specs.States.{IsBeginListed}
use Rattle.ssa_form.proofs.Following.{at_all}
use Rattle.ssa_form.proofs.Assembly.{is_form}
use Rattle.ssa_form.proofs.Parting.{AreWalked, has_begin, one_more_walked, walked_form}
use Rattle.ssa_form.proofs.assign.ssa.Goals as goal

pub nth-begin-requires : goal.nth-begin-requires
nth-begin-requires c =
    let is = c.args.flat.now.instances in
    let i = c.loop-instance.instance-index in
    let within : i < length is = omega (arith, c.loop-instance-test.true, ap (λ (l : List Instance). length l) c.as_slice-instance-items.ensures) in
    let turn : CreatesInTurn (take i is ++ drop i is) = subst CreatesInTurn (sym (take-append-drop i is)) c.requires.creates in
    let long = length-drop i is in
    let room = has_begin (take i is) (drop i is) c.loop-instance.walk c.loop-instance.parts c.loop-instance.invariant turn (omega arith) in
    omega (arith, room, c.len.ensures, ap (λ (l : List Begin). length l) c.as_slice.ensures)

pub part-requires-clause-begin : goal.part-requires-clause-begin
part-requires-clause-begin c =
    let w = c.loop-instance.walk in
    let here : slice_get w.created c.len.result ≡ Some c.nth-begin.result = ap (λ l. slice_get l c.len.result) (sym c.as_slice.ensures) ∙ c.nth-begin.ensures in
    at_all (IsBeginListed w.terms) w.created c.len.result c.nth-begin.result c.loop-instance.invariant.walk.created here

pub loop-instance-preserved : goal.loop-instance-preserved
loop-instance-preserved c =
    let is = c.args.flat.now.instances in
    let i = c.loop-instance.instance-index in
    let t = c.instance-item.result in
    let within : i < length is = omega (arith, c.loop-instance-test.true, ap (λ (l : List Instance). length l) c.as_slice-instance-items.ensures) in
    let same : get_or is i t ≡ t = sym (c.instance-item.is ∙ ap (λ l. get_or l i t) c.as_slice-instance-items.ensures) in
    let next : take (i + 1) is ≡ take i is ++ t ∷ [] = take_more is i t within ∙ ap (λ x. take i is ++ x ∷ []) same in
    let begin : slice_get c.loop-instance.walk.created (length c.loop-instance.parts) ≡ Some c.nth-begin.result =
    ap (λ l. slice_get l (length c.loop-instance.parts)) (sym c.as_slice.ensures) ∙ ap (λ n. slice_get c.as_slice.result.now n) (sym c.len.ensures) ∙ c.nth-begin.ensures in
    let more = one_more_walked (take i is) t c.loop-instance.walk c.part.new.walk c.loop-instance.parts c.in_ok-part.part c.nth-begin.result c.loop-instance.invariant begin c.in_ok-part.ensures in
    let pushed = subst (λ (l : List SsaPart). AreWalked (take i is ++ t ∷ []) c.part.new.walk l) (sym c.in_ok-push.ensures.ok) more in
    subst (λ (l : List Instance). AreWalked l c.part.new.walk c.push.new.self) (sym next) pushed

pub returns : goal.returns
returns c =
    let f = c.args.flat.now in
    let i = c.loop-instance.instance-index in
    let past : length f.instances ≤ i = omega (arith, c.loop-instance-test.false, ap (λ (l : List Instance). length l) c.as_slice-instance-items.ensures) in
    let all = subst (λ (l : List Instance). AreWalked l c.loop-instance.walk c.loop-instance.parts) (take_all i f.instances past) c.loop-instance.invariant in
    let are : AreTerms c.initials.new.terms = subst AreTerms c.terms.view_is c.terms.invariant in
    let x : Ssa = record { terms = c.initials.new.terms; parts = c.loop-instance.parts; initials = c.in_ok-initials.initials } in
    let initials = subst (λ (l : List ℕ). AllZip (λ v t. IsConstant c.initials.new.terms t v) l c.in_ok-initials.initials) c.as_slice-2.ensures c.in_ok-initials.ensures.constants in
    is_form f x c.requires (walked_form f c.loop-instance.walk x all c.in_ok-initials.ensures.grows are initials)
