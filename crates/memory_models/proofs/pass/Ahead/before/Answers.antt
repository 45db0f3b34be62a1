use Rattle.std.proofs.Common.{nat_eq}
use Rattle.std.specs.HashMap.{get}
use Rattle.memory_models.proofs.Passing.{same_thread, thread_ends}
use Rattle.memory_models.proofs.pass.Ahead.before.Goals as goal

pub returns-then-goes_on : goal.returns-then-goes_on
returns-then-goes_on c = λ m fixed fences stands.
    same_thread m c.args.events.now c.args.place c.args.self.strong c.args.self.weak (get nat_eq c.args.self.next) fixed fences (c.goes_on.ensures.0 c.if-goes_on.true) stands

pub returns-else-goes_on : goal.returns-else-goes_on
returns-else-goes_on c = λ m fixed fences stands.
    thread_ends m c.args.events.now c.args.place c.new.result.strong c.new.result.weak (get nat_eq c.new.result.next) fixed fences c.requires.are (λ t. let on = c.goes_on.ensures.1 t in let off = c.if-goes_on.false in cc) stands.built c.new.ensures.strong c.new.ensures.weak c.new.ensures.next
