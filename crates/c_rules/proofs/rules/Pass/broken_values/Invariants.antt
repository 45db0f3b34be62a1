use Rattle.std.proofs.Common.{◌≡◌, drop, map}
use Rattle.c_rules.specs.Names as names
use Rattle.c_rules.specs.Scopes as scopes
use Rattle.c_rules.specs.Types as types
use Rattle.c_rules.proofs.rules.Pass.broken_values.Given as goal

abbrev pub invariant-loop-value : goal.invariant-loop-value
invariant-loop-value l =
    names.or_else l.found (scopes.first_of (map (types.broken_value (names.meaning_of (names.functions_of l.self.items.now) l.scope) l.word) (drop l.value-index l.values)))
    ≡ scopes.first_of (map (types.broken_value (names.meaning_of (names.functions_of l.self.items.now) l.scope) l.word) l.values)
