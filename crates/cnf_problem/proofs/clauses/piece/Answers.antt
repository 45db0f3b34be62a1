use Rattle.std.proofs.Common.{◌∙◌, ap, Some, [], List}
use Rattle.std.proofs.lemmas.Option.{slice_get-get_or}
use Rattle.cnf_problem.specs.Flat.{pieces}
use Rattle.dg_base.specs.declared.Lit.{Lit}
use Rattle.cnf_problem.proofs.FlatLaws.{length-pieces, piece_at}
use Rattle.cnf_problem.proofs.clauses.piece.Goals as goal

pub returns : goal.returns
returns c =
    let none : List Lit = [] in
    rw (c.bounds-start.ensures.start, c.bounds-start.ensures.end)
    (slice_get-get_or (pieces c.args.lits.now 0 c.args.ends.now) c.args.i none (rw length-pieces c.requires.within)
    ∙ ap Some (piece_at c.args.lits.now 0 c.args.ends.now c.args.i none c.requires.within))
