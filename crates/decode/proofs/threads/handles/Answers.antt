use Rattle.std.proofs.Common.{◌≡◌, ◌∙◌, ℕ, ◌+◌, ◌-◌, ◌<◌, Option, Some, length, drop, subst, arith}
use Rattle.std.specs.Prelude.{slice_get}
use Rattle.encode_match.specs.Spelling.{handles_in}
use Rattle.decode.specs.Tables.{listed}
use Rattle.decode.proofs.Handing.{handles_more, handles_begun}
use Rattle.decode.proofs.threads.handles.Goals as goal

pub loop-place-init : goal.loop-place-init
loop-place-init c = record {
  counted = c.in_ok-handles.ensures.counted;
  each = λ i h at. handles_begun c.args.truths.now c.args.events.now c.args.bits.now i h (c.in_ok-handles.ensures.none i h at);
}

pub loop-place-preserved : goal.loop-place-preserved
loop-place-preserved c =
    let s = c.args.truths.now in
    let es = c.args.events.now in
    let bs = c.args.bits.now in
    let at = c.loop-place.place in
    let p = at - 1 in
    let next : at ≡ p + 1 = omega (arith, c.loop-place-test.true) in
    let low : p < length es = omega (arith, c.loop-place-test.true, c.loop-place.auto.place) in
    let so = subst (λ (n : ℕ). (i : ℕ) (h : Option ℕ) → slice_get c.loop-place.handles i ≡ Some h → listed h ≡ handles_in s i (drop n es) (drop n bs)) next c.loop-place.invariant.each in
    record {
      counted = c.note_handle.ensures.counted ∙ c.loop-place.invariant.counted;
      each = handles_more s es bs p _ _ c.loop-place.handles c.note_handle.new.handles low c.requires c.note_handle.ensures.counted c.note_handle.ensures.each so;
    }
