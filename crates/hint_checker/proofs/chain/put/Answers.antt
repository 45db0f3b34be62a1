use Rattle.std.proofs.Common.{◌≡◌, ◌<◌, [], ◌∷◌, refl, ap, sym, ◌∙◌, arith}
use Rattle.trail_state.specs.Trails.{Decided, Forced, TrailView, level, up_to}
use Rattle.trail_state.proofs.Cuts.{up_to-append, up_to-decided, up_to_all}
use Rattle.hint_checker.proofs.chain.put.Goals as goal

pub returns-then-level-eq0-clause-above : goal.returns-then-level-eq0-clause-above
returns-then-level-eq0-clause-above c =
    let es = c.args.set.now.entries in
    let low : level es ≡ 0 = sym c.level.ensures ∙ c.if-level-eq0.true in
    let nothing : es ≡ [] = sym (up_to_all 0 es (omega arith)) ∙ c.requires.above in
    ap (λ (t : TrailView). up_to 0 t.entries) c.decide.ensures ∙ (up_to-decided es (Decided c.args.lit) 0 (sym low) c.args.lit refl ∙ nothing)

pub returns-else-level-eq0-clause-above : goal.returns-else-level-eq0-clause-above
returns-else-level-eq0-clause-above c =
    let es = c.args.set.now.entries in
    let high : 0 < level es = omega (arith, c.level.ensures, c.if-level-eq0.false) in
    ap (λ (t : TrailView). up_to 0 t.entries) c.assign.ensures ∙ (up_to-append 0 es (Forced c.args.lit 0 ∷ []) high ∙ c.requires.above)
