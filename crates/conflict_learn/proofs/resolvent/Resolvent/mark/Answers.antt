use Rattle.std.proofs.Common.{◌≡◌, ◌<◌, ◌+◌, length, false, sym, ◌∙◌, arith}
use Rattle.std.proofs.lemmas.List.{get_or_read}
use Rattle.conflict_learn.specs.Marking.{is_marked}
use Rattle.conflict_learn.proofs.Steps.{has_mark, one_more, as_many, room_for_one, marks_with}
use Rattle.conflict_learn.proofs.resolvent.Resolvent.mark.Goals as goal

pub overflow_add-self : goal.overflow_add-self
overflow_add-self c =
    let s = c.args.self.now in
    let t = c.args.trail.now in
    let lt : c.var-at.result < length s.marked.items = rw c.var-at.ensures (has_mark t s.marked.items s.last _ c.requires.well c.requires.marks c.requires.assigned) in
    let free : is_marked s.marked.items c.args.lit ≡ false = rw (← c.var-at.ensures) (sym (get_or_read s.marked.items c.var-at.result c.index.result.now lt c.index.ensures false) ∙ c.if-index.false) in
    let fits = room_for_one t s.marked.items s.last c.args.lit c.var-at.result c.requires.well c.requires.marks c.requires.assigned c.var-at.ensures free (sym c.level_of-level.ensures ∙ c.if-level.true ∙ c.level.ensures) in
    omega arith

pub returns-then-level-clause-marks : goal.returns-then-level-clause-marks
returns-then-level-clause-marks c =
    let s = c.args.self.now in
    let t = c.args.trail.now in
    let lt : c.var-at.result < length s.marked.items = rw c.var-at.ensures (has_mark t s.marked.items s.last _ c.requires.well c.requires.marks c.requires.assigned) in
    let free : is_marked s.marked.items c.args.lit ≡ false = rw (← c.var-at.ensures) (sym (get_or_read s.marked.items c.var-at.result c.index.result.now lt c.index.ensures false) ∙ c.if-index.false) in
    let is = c.level_of-level.ensures in
    marks_with t s.marked.items s.last c.args.lit c.var-at.result c.requires.well c.requires.marks (s.last + 1) c.requires.assigned c.var-at.ensures (omega arith)
    (one_more t s.marked.items s.last c.args.lit c.var-at.result c.requires.well c.requires.marks c.requires.assigned c.var-at.ensures free (sym is ∙ c.if-level.true ∙ c.level.ensures))

pub returns-else-level-clause-marks : goal.returns-else-level-clause-marks
returns-else-level-clause-marks c =
    let s = c.args.self.now in
    let t = c.args.trail.now in
    let is = c.level_of-level.ensures in
    let top = c.level.ensures in
    marks_with t s.marked.items s.last c.args.lit c.var-at.result c.requires.well c.requires.marks s.last c.requires.assigned c.var-at.ensures (omega arith)
    (as_many t s.marked.items s.last c.args.lit c.var-at.result c.requires.well c.requires.marks c.var-at.ensures (λ e. omega arith))
