use Rattle.std.proofs.Common.{sym, ◌∙◌}
use Rattle.cnf_problem.specs.Literals.{negated}
use Rattle.cnf_problem.proofs.LiteralLaws.{var-negated}
use Rattle.clause_store.proofs.Ranks.{rank_good, rank_late, rank_early}
use Rattle.clause_store.proofs.watch_choice.rank.Goals as goal

pub level_of-requires : goal.level_of-requires
level_of-requires c = (negated c.args.lit, c.if-not-is_false.ensures, var-negated c.args.lit)

pub returns-then-level_of-level : goal.returns-then-level_of-level
returns-then-level_of-level c = rank_late c.args.trail.now.entries c.args.lit c.if-not-is_false.ensures (sym c.level_of.ensures ∙ c.if-level_of-level.true ∙ c.level.ensures)

pub returns-else-level_of-level : goal.returns-else-level_of-level
returns-else-level_of-level c = rank_early c.args.trail.now c.args.lit c.requires.well c.if-not-is_false.ensures (λ e. c.if-level_of-level.false (c.level_of.ensures ∙ e ∙ sym c.level.ensures))

pub returns-then-not-is_false : goal.returns-then-not-is_false
returns-then-not-is_false c = rank_good c.args.trail.now.entries c.args.lit c.if-not-is_false.ensures
