use Rattle.std.proofs.Common.{nat_eq, ◌∙◌}
use Rattle.std.specs.HashMap.{get}
use Rattle.std.proofs.lemmas.Option.{slice_get-get_or}
use Rattle.memory_models.proofs.Passing.{passed, passed_initial}
use Rattle.memory_models.proofs.pass.pass.Goals as goal

pub returns-then-is_initial : goal.returns-then-is_initial
returns-then-is_initial c =
    passed_initial c.args.model c.args.events.now c.args.place _ c.args.ahead.now.strong c.args.ahead.now.weak (get nat_eq c.args.ahead.now.next) c.args.edges.now.fixed c.args.edges.now.fences c.requires.are (slice_get-get_or c.args.events.now c.args.place _ c.requires.within)
    (c.is_initial.ensures.0 c.if-is_initial.true) c.requires.behind

pub returns : goal.returns
returns c =
    passed c.args.model c.args.events.now c.args.place _ c.args.ahead.now.strong c.access.new.self.strong c.enter.new.self.strong c.args.ahead.now.weak c.access.new.self.weak c.enter.new.self.weak (get nat_eq c.args.ahead.now.next) (get nat_eq c.enter.new.self.next)
    c.args.edges.now.fixed c.access.new.fixed c.link_out.new.edges.fixed c.args.edges.now.fences c.link_out.new.edges.fences c.requires.are (slice_get-get_or c.args.events.now c.args.place _ c.requires.within)
    (λ q. let t = c.is_initial.ensures.1 q in let f = c.if-is_initial.false in cc) c.requires.behind c.in_ok-access.ensures.fixed c.in_ok-access.ensures.strong c.in_ok-access.ensures.weak
    (c.in_ok-link_out.ensures _ (slice_get-get_or c.args.events.now c.args.place _ c.requires.within)) c.in_ok-enter.ensures.strong c.in_ok-enter.ensures.weak (λ k. c.in_ok-enter.ensures.next k ∙ c.in_ok-access.ensures.next k)
