use Rattle.std.proofs.Common.{◌<◌, IsTrue, length, subst}
use Rattle.std.proofs.lemmas.Bool.{ltb-true}
use Rattle.c_token.specs.declared.macros.Use.{Use}
use Rattle.c_token.specs.Tables.{is_below}
use Rattle.c_token.proofs.Ends.{effects_used, use_effects_are}
use Rattle.c_token.proofs.macros.use_effects.Goals as goal

pub returns-in-Macro : goal.returns-in-Macro
returns-in-Macro c = λ bodies t.
    let within : c.in-Macro.number < length c.args.macros.now =
    ltb-true c.in-Macro.number (length c.args.macros.now) (subst (λ (u : Use). IsTrue (is_below (length c.args.macros.now) u)) c.in-Macro.is c.requires) in
    use_effects_are c.args.macros.now bodies c.in-Macro.number c.in-Macro.field-1 c.args.one.now c.effects_behind.result c.in-Macro.is
    (effects_used c.args.macros.now bodies c.in-Macro.number c.index-macros-number.result _ _ c.effects_behind.result t within c.index-macros-number.is c.as_slice.ensures c.as_slice-in-Macro.ensures (c.effects_behind.ensures bodies))
