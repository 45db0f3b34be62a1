use Rattle.std.proofs.Common.{◌≡◌, drop, map}
use Rattle.c_rules.specs.Names as names
use Rattle.c_rules.specs.Types as types
use Rattle.c_rules.proofs.rules.Pass.+broken_in.Given as goal

abbrev pub invariant-broken_arguments-loop-i : goal.invariant-broken_arguments-loop-i
invariant-broken_arguments-loop-i l =
    names.or_else l.found (types.broken_arguments (types.roles_in l.meaning) l.i (map (types.judged (names.meaning_of (names.functions_of l.self.items.now) l.scope)) (drop l.i l.args)))
    ≡ types.broken_arguments (types.roles_in l.meaning) 0 (map (types.judged (names.meaning_of (names.functions_of l.self.items.now) l.scope)) l.args)
