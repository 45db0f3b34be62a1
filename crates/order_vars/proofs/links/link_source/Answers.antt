use Rattle.order_vars.proofs.LinkMaking.{grows_once, bits_later, source_added}
use Rattle.order_vars.proofs.links.link_source.Goals as goal

pub same_bits-requires-clause-first : goal.same_bits-requires-clause-first
same_bits-requires-clause-first c = bits_later c.args.gates.now.vars _ c.args.scene.now.events.now c.args.scene.now.values.now c.args.write _
    (grows_once c.args.gates.now _ _ _ c.in_ok-lit.ensures.free c.in_ok-both_happen.ensures) c.requires.over c.requires.write

pub same_bits-requires-clause-second : goal.same_bits-requires-clause-second
same_bits-requires-clause-second c = bits_later c.args.gates.now.vars _ c.args.scene.now.events.now c.args.scene.now.values.now c.args.read _
    (grows_once c.args.gates.now _ _ _ c.in_ok-lit.ensures.free c.in_ok-both_happen.ensures) c.requires.over c.requires.read

pub returns-clause-added : goal.returns-clause-added
returns-clause-added c = source_added c.args.scene.now.events.now c.args.scene.now.values.now c.args.gates.now _ _ _ c.args.write c.args.read _ _ _
    c.requires.over c.requires.write c.requires.read c.requires.tied c.in_ok-lit.ensures.lit c.in_ok-lit.ensures.free c.in_ok-both_happen.ensures c.in_ok-same_bits.ensures
