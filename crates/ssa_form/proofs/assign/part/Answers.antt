use Rattle.std.proofs.Common.{◌≡◌, ◌∙◌, ap, sym, subst, take, get_or, length, List, [], ◌∷◌, ◌++◌, ◌+◌, ◌<◌, ◌≤◌, refl, arith}
use Rattle.std.proofs.lemmas.List.{take_more, take_all}
use Rattle.flat_prog.specs.declared.FlatStep.{FlatStep}
use Rattle.ssa_form.specs.declared.SsaStep.{SsaStep}
use Rattle.ssa_form.specs.declared.SsaPart.{SsaPart}
use Rattle.ssa_form.specs.declared.walk.Walk.{Walk}
use Rattle.ssa_form.specs.States.{IsParted}
use Rattle.ssa_form.proofs.Parting.{IsWalking, walking_starts, walking_more, parted}
use Rattle.ssa_form.proofs.assign.part.Goals as goal

pub loop-step-init : goal.loop-step-init
loop-step-init c = walking_starts c.args.walk.now c.enter.new.walk c.args.instance.now.locals c.args.begin c.requires.fits.1.locals c.in_ok-enter.ensures

pub loop-step-preserved : goal.loop-step-preserved
loop-step-preserved c =
    let i = c.loop-step.step-index in
    let ts = c.args.instance.now.steps in
    let t = c.step-item.result in
    let more = walking_more c.args.walk.now c.loop-step.walk c.step.new.self c.args.instance.now.locals c.args.begin (take i ts) t c.loop-step.invariant c.in_ok-step.ensures in
    let within : i < length ts = omega (arith, c.loop-step-test.true, ap (λ (l : List FlatStep). length l) c.as_slice-step-items.ensures) in
    let same : get_or ts i t ≡ t = sym (c.step-item.is ∙ ap (λ l. get_or l i t) c.as_slice-step-items.ensures) in
    let next : take (i + 1) ts ≡ take i ts ++ t ∷ [] = take_more ts i t within ∙ ap (λ x. take i ts ++ x ∷ []) same in
    subst (λ l. IsWalking c.args.walk.now c.step.new.self c.args.instance.now.locals c.args.begin l) (sym next) more

pub returns : goal.returns
returns c =
    let a = c.args.walk.now in
    let b = c.loop-step.walk in
    let ts = c.args.instance.now.steps in
    let i = c.loop-step.step-index in
    let past : length ts ≤ i = omega (arith, c.loop-step-test.false, ap (λ (l : List FlatStep). length l) c.as_slice-step-items.ensures) in
    let p : SsaPart = record {
      function = c.args.instance.now.function;
      start = c.args.begin.start;
      handle = c.args.begin.handle;
      arg = c.args.begin.arg;
      steps = c.replace-steps.result;
    } in
    let made =
    parted a b c.args.instance.now c.args.begin (take i ts) p c.requires.begin (take_all i ts past) c.loop-step.invariant refl refl
    (c.replace-steps.ensures.value ∙ ap (λ (z : Walk). z.steps) c.in_ok-emit.ensures) in
    subst (λ (l : List SsaStep). IsParted a (record c.emit.new.self { steps = l }) c.args.instance.now c.args.begin p) (sym (c.replace-steps.ensures.after ∙ c.new.ensures))
    (subst (λ (z : Walk). IsParted a (record z { steps = [] }) c.args.instance.now c.args.begin p) (sym c.in_ok-emit.ensures) made)
