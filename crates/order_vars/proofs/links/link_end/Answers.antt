use Rattle.order_vars.proofs.LinkMaking.{grows_once, grows_twice, bits_later, end_added}
use Rattle.order_vars.proofs.links.link_end.Goals as goal

pub same_bits-requires-clause-first : goal.same_bits-requires-clause-first
same_bits-requires-clause-first c = bits_later c.args.gates.now.vars _ c.args.scene.now.events.now c.args.scene.now.values.now c.args.end _
    (grows_once c.args.gates.now _ _ _ c.in_ok-lit.ensures.free c.in_ok-both_happen.ensures) c.requires.over c.requires.end

pub same_bits-requires-clause-second : goal.same_bits-requires-clause-second
same_bits-requires-clause-second c = bits_later c.args.gates.now.vars _ c.args.scene.now.events.now c.args.scene.now.values.now c.args.join _
    (grows_once c.args.gates.now _ _ _ c.in_ok-lit.ensures.free c.in_ok-both_happen.ensures) c.requires.over c.requires.join

pub some_bit-requires-clause-bits : goal.some_bit-requires-clause-bits
some_bit-requires-clause-bits c = bits_later c.args.gates.now.vars _ c.args.scene.now.events.now c.args.scene.now.values.now c.args.join _
    (grows_twice c.args.gates.now _ _ _ _ _ c.in_ok-lit.ensures.free c.in_ok-both_happen.ensures c.in_ok-same_bits.ensures) c.requires.over c.requires.join

pub returns-clause-added : goal.returns-clause-added
returns-clause-added c = end_added c.args.scene.now.events.now c.args.scene.now.values.now c.args.gates.now _ _ _ _ c.args.end c.args.join _ _ _
    c.requires.over c.requires.end c.requires.join c.requires.tied c.in_ok-lit.ensures.lit c.in_ok-lit.ensures.free
    c.in_ok-both_happen.ensures c.in_ok-same_bits.ensures c.in_ok-some_bit.ensures
