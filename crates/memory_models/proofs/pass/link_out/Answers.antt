use Rattle.std.proofs.Common.{◌+◌, arith}
use Rattle.std.proofs.lemmas.Option.{slice_get_within, slice_get-get_or}
use Rattle.memory_models.specs.Roles.{role_of}
use Rattle.memory_models.proofs.Adding.{out_inner, out_leaves}
use Rattle.memory_models.proofs.pass.link_out.Goals as goal

pub overflow_add-place : goal.overflow_add-place
overflow_add-place c =
    let o = c.block_goes_on.ensures.0 c.if-block_goes_on.true in
    let w = slice_get_within c.args.events.now (c.args.place + 1) o.second o.is_second in
    omega (arith, w, c.requires.few)

pub returns-then-block_goes_on : goal.returns-then-block_goes_on
returns-then-block_goes_on c = λ e at.
    out_inner c.args.events.now c.args.place e (role_of c.args.model c.args.place e) c.args.ahead.now.strong c.args.ahead.now.weak c.args.edges.now.fixed c.push.new.self c.args.edges.now.fences (c.block_goes_on.ensures.0 c.if-block_goes_on.true) c.in_ok-push.ensures.ok

pub returns : goal.returns
returns c = λ e at.
    out_leaves c.args.model c.args.events.now c.args.place e _ c.of.result c.args.ahead.now.strong c.args.ahead.now.weak c.args.edges.now.fixed c.leave.new.edges.fixed c.args.edges.now.fences c.leave.new.edges.fences at (slice_get-get_or c.args.events.now c.args.place _ c.requires.within)
    (λ o. let t = c.block_goes_on.ensures.1 o in let f = c.if-block_goes_on.false in cc) c.of.ensures c.in_ok-leave.ensures.fixed c.in_ok-leave.ensures.fences
