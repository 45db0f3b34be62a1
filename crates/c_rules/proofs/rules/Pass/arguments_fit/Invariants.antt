use Rattle.std.proofs.Common.{◌≡◌, drop}
use Rattle.c_rules.specs.Names as names
use Rattle.c_rules.specs.BuiltIns as builtins
use Rattle.c_rules.specs.Types as types
use Rattle.c_rules.proofs.rules.Pass.arguments_fit.Given as goal

abbrev pub invariant-loop-i : goal.invariant-loop-i
invariant-loop-i l = types.arguments_fit (names.meaning_of (names.functions_of l.self.items.now) l.scope) (builtins.role_of l.builtin) l.i (drop l.i l.args) ≡ types.arguments_fit (names.meaning_of (names.functions_of l.self.items.now) l.scope) (builtins.role_of l.builtin) 0 l.args
