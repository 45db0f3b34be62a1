use Rattle.std.proofs.Common.{◌≡◌, length, ◌-◌, slice_get, sym, ap, ◌∙◌}
use Rattle.c_token.proofs.Ends.{ends_some, ends_none, got_or, got_past}
use Rattle.c_token.proofs.macros.effects_behind.Goals as goal

pub returns-in-Some : goal.returns-in-Some
returns-in-Some c = λ bodies are h.
    let here = got_or c.args.ends.now c.saturating_sub.result c.in-Some.effects.now c.in-Some.ensures.lookup.3.0 c.in-Some.ensures.lookup.1 in
    let place : c.saturating_sub.result ≡ length c.args.uses.now - c.args.first = c.saturating_sub.ensures in
    ends_some bodies c.args.uses.now c.args.ends.now c.args.first c.in-Some.effects.now are h (ap (slice_get c.args.ends.now) (sym place) ∙ here)

pub returns-in-None : goal.returns-in-None
returns-in-None c = λ bodies are h.
    let here = got_past c.args.ends.now c.saturating_sub.result c.in-None.ensures.lookup.3 in
    let place : c.saturating_sub.result ≡ length c.args.uses.now - c.args.first = c.saturating_sub.ensures in
    ends_none bodies c.args.uses.now c.args.ends.now c.args.first are h (ap (slice_get c.args.ends.now) (sym place) ∙ here)
