use Rattle.std.proofs.Common.{◌<◌, ◌-◌, length, refl, arith}
use Rattle.conflict_learn.proofs.Steps.{has_mark, one_fewer, marks_without}
use Rattle.conflict_learn.proofs.resolvent.Resolvent.unmark.Goals as goal

pub overflow_sub-self : goal.overflow_sub-self
overflow_sub-self c =
    let s = c.args.self.now in
    let r = one_fewer c.args.trail.now s.marked.items s.last c.args.lit c.var.result c.requires.well c.requires.marks c.requires.listed c.var.ensures c.requires.marked in
    omega arith

pub returns-clause-marks : goal.returns-clause-marks
returns-clause-marks c =
    let s = c.args.self.now in
    let t = c.args.trail.now in
    let r = one_fewer t s.marked.items s.last c.args.lit c.var.result c.requires.well c.requires.marks c.requires.listed c.var.ensures c.requires.marked in
    let lt : c.var.result < length s.marked.items = rw c.var.ensures (has_mark t s.marked.items s.last _ c.requires.well c.requires.marks (c.args.lit, c.requires.listed, refl)) in
    marks_without t s.marked.items s.last c.args.lit c.var.result c.requires.well c.requires.marks (s.last - 1) lt (omega arith)

pub returns-clause-fewer : goal.returns-clause-fewer
returns-clause-fewer c =
    let s = c.args.self.now in
    let r = one_fewer c.args.trail.now s.marked.items s.last c.args.lit c.var.result c.requires.well c.requires.marks c.requires.listed c.var.ensures c.requires.marked in
    omega arith
