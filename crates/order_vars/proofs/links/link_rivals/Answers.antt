use Rattle.order_vars.proofs.EventWords.{words_of}
use Rattle.order_vars.proofs.LinkMaking.{two_atoms, rivals_added}
use Rattle.order_vars.proofs.links.link_rivals.Goals as goal

pub returns : goal.returns
returns c = (
  rivals_added c.args.scene.now.events.now (words_of c.args.scene.now.values.now) c.args.gates.now _ _ _ _ _ c.args.first c.args.second _ _ _
      c.requires.first c.requires.second c.requires.tied c.in_ok-lit.ensures.lit c.in_ok-lit.ensures.free c.in_ok-back.ensures.lit c.in_ok-back.ensures.free
      c.in_ok-both_happen.ensures c.in_ok-both_happen-2.ensures c.in_ok-some_order.ensures,
  two_atoms c.args.atoms.now _ _ _ _ _ _ c.in_ok-order_atom.ensures c.in_ok-order_atom-2.ensures c.in_ok-push.ensures.ok c.in_ok-push-2.ensures.ok,
)
