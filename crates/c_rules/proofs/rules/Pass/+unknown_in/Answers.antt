use Rattle.c_rules.specs.Names as names
use Rattle.c_rules.specs.Scopes as scopes
use Rattle.c_rules.proofs.Table.{found_index}
use Rattle.c_rules.proofs.rules.Pass.+unknown_in.Goals as goal

pub unknown_in-returns-in-Index : goal.unknown_in-returns-in-Index
unknown_in-returns-in-Index t c =
    found_index (scopes.is_known (names.functions_of c.args.self.now.items.now) c.args.scope.now c.args.starts_mutex)
    _ _ _ _ _ _ _ _ _ c.earlier.ensures c.unknown_name-in-Index.ensures c.as_slice-in-Index.ensures c.unknown_in.ensures c.get.ensures c.in-Index.is
