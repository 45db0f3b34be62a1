use Rattle.std.proofs.Common.{◌≡◌, drop, map}
use Rattle.c_rules.specs.Names as names
use Rattle.c_rules.specs.Scopes as scopes
use Rattle.c_rules.proofs.rules.Pass.+unknown_in.Given as goal

abbrev pub invariant-unknown_in_all-loop-expr : goal.invariant-unknown_in_all-loop-expr
invariant-unknown_in_all-loop-expr l =
    names.or_else l.found (scopes.first_of (map (scopes.unknown_in (scopes.is_known (names.functions_of l.self.items.now) l.scope l.starts_mutex)) (drop l.expr-index l.exprs)))
    ≡ scopes.first_of (map (scopes.unknown_in (scopes.is_known (names.functions_of l.self.items.now) l.scope l.starts_mutex)) l.exprs)
