use Rattle.c_rules.specs.Names as names
use Rattle.c_rules.proofs.JudgedTable.{index_found, call_found, address_found}
use Rattle.c_rules.proofs.rules.Pass.+broken_in.Goals as goal

pub broken_in-returns-in-Index : goal.broken_in-returns-in-Index
broken_in-returns-in-Index t c =
    index_found (names.meaning_of (names.functions_of c.args.self.now.items.now) c.args.scope.now)
    _ _ _ _ _ _ _ _ _ _ _ _ c.earlier.ensures c.unless-in-Index.ensures c.index_fits.ensures c.meaning_of-meaning-in-Index.ensures c.as_slice-in-Index.ensures
    c.broken_in-in-Index.ensures c.get-in-Index.ensures c.in-Index.is

pub broken_in-returns-in-Call : goal.broken_in-returns-in-Call
broken_in-returns-in-Call t c =
    call_found (names.meaning_of (names.functions_of c.args.self.now.items.now) c.args.scope.now)
    _ _ _ _ _ _ _ _ _ _ _ _ _ c.earlier-in-Call.ensures c.unless-in-Call.ensures c.call_fits-fits.ensures c.meaning_of-meaning-in-Call.ensures c.as_slice-in-Call.ensures
    c.broken_arguments-before.ensures c.as_slice-in-Call-2.ensures c.as_slice-in-Call-3.ensures c.in-Call.is

pub broken_in-returns-in-Address : goal.broken_in-returns-in-Address
broken_in-returns-in-Address t c =
    address_found (names.meaning_of (names.functions_of c.args.self.now.items.now) c.args.scope.now)
    _ _ _ _ _ _ _ _ _ _ _ c.earlier-in-Address.ensures c.unless-in-Address.ensures c.address_fits.ensures c.get-in-Address-2.ensures
    c.broken_in-in-Address.ensures c.behind_address.ensures c.get-in-Address.ensures c.in-Address.is
