use Rattle.std.proofs.Common.{◌≡◌, ◌+◌, arith, suc, Some, subst, add-one, refl}
use Rattle.std.specs.Prelude.{slice_get, get_or}
use Rattle.std.proofs.lemmas.Option.{slice_get_within, slice_get-get_or}
use Rattle.axiom_model.proofs.Walking.{pass_keeps, left_less}
use Rattle.axiom_model.proofs.walk.Walk.pass.Goals as goal

link_is : (c : goal.After-set) → slice_get c.args.self.now.left c.args.node ≡ Some (suc c.args.place)
link_is c = subst (λ n. slice_get c.args.self.now.left c.args.node ≡ Some n) (add-one c.args.place) c.requires.last

earlier_is : (c : goal.After-set) → slice_get c.args.self.now.earlier c.args.place ≡ Some (get_or c.args.self.now.earlier c.args.place 0)
earlier_is c = slice_get-get_or c.args.self.now.earlier c.args.place 0 (let h = c.requires.walk.earlier_len in let k = c.requires.within in omega arith)

pub set-requires : goal.set-requires
set-requires c = slice_get_within c.args.self.now.left c.args.node (c.args.place + 1) c.requires.last

pub returns-clause-walk : goal.returns-clause-walk
returns-clause-walk c =
    rw (c.set.ensures, c.as_slice.ensures)
    (pass_keeps c.args.edges.now c.args.self.now c.args.node c.args.place (get_or c.args.self.now.earlier c.args.place 0) c.requires.walk (link_is c) c.requires.closed (earlier_is c))

pub returns-clause-less : goal.returns-clause-less
returns-clause-less c =
    let e = c.requires.walk.left c.args.node (suc c.args.place) (link_is c) c.args.place refl in
    let l = (c.requires.walk.links c.args.place e.0 c.args.node (get_or c.args.self.now.earlier c.args.place 0) e.1 (earlier_is c)).within in
    let h = left_less c.args.self.now.left c.args.node c.args.place (get_or c.args.self.now.earlier c.args.place 0) (link_is c) l in
    rw (c.set.ensures, c.as_slice.ensures) (omega (arith, h))
