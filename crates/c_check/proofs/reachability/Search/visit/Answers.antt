use Rattle.std.proofs.Common.{List, ℕ, ◌<◌, length, subst, sym}
use Rattle.std.specs.Prelude.{All}
use Rattle.c_check.proofs.Edges.{row_bounded}
use Rattle.c_check.proofs.reachability.Search.visit.Goals as goal

pub mark_all-requires : goal.mark_all-requires
mark_all-requires c =
    subst (λ (l : List ℕ). All (λ v. v < length c.args.self.now.marks) l) (sym c.as_slice.ensures)
    (row_bounded c.args.rows.now c.args.number _ c.in-Some.row.now c.requires.closed (sym c.in-Some.ensures) c.requires.size)
