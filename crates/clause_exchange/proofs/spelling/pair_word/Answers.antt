use Rattle.std.proofs.Common.{◌+◌, ◌*◌, arith}
use Rattle.std.proofs.lemmas.Option.{slice_get-get_or}
use Rattle.dg_base.specs.declared.Lit.{Lit}
use Rattle.clause_exchange.proofs.Words.{pair_there, last_there}
use Rattle.clause_exchange.proofs.spelling.pair_word.Goals as goal

abbrev none : Lit
none = record { 0 = 0 }

pub returns-then-i-lits : goal.returns-then-i-lits
returns-then-i-lits c =
    let lits = c.args.lits.now in
    pair_there lits c.args.i _ _ (slice_get-get_or lits (2 * c.args.i) none c.requires) (slice_get-get_or lits (2 * c.args.i + 1) none c.if-i-lits.true)

pub returns-else-i-lits : goal.returns-else-i-lits
returns-else-i-lits c =
    let lits = c.args.lits.now in
    last_there lits c.args.i _ (slice_get-get_or lits (2 * c.args.i) none c.requires) (let a = c.requires in let b = c.if-i-lits.false in omega arith)
