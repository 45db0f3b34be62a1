use Rattle.std.proofs.Common.{◌≡◌, suc, ◌-◌, ◌<◌, length, refl, sym, subst, arith}
use Rattle.std.proofs.lemmas.Option.{slice_get_read}
use Rattle.log_checker.specs.Graphs.{AreFound, AtomsView}
use Rattle.log_checker.proofs.Atoms.{IsWalked, lit_fits, walk_begins, walk_ends, walk_falls, walk_goes_on}
use Rattle.log_checker.proofs.denied.AtomsByLit.put_places.Goals as goal

pub loop-next-init : goal.loop-next-init
loop-next-init c =
    let p = c.args.problem.now in
    let lit = c.args.lit in
    let v : AtomsView = record { last = c.self.inside.last.items; earlier = c.self.inside.earlier.items } in
    let found = subst (λ (z : AtomsView). AreFound p z) (sym c.self.view_is) c.requires.found in
    let codes = found.codes in
    let fits = lit_fits p.vars lit c.requires.over in
    let w : lit.0 < length v.last = omega arith in
    walk_begins p v lit c.args.places.now.items c.index-next.result.now found (slice_get_read v.last (length v.last) lit.0 c.index-next.result.now refl w c.index-next.ensures)

pub loop-next-preserved : goal.loop-next-preserved
loop-next-preserved c =
    let p = c.args.problem.now in
    let lit = c.args.lit in
    let old = c.args.places.now.items in
    let now = c.loop-next.places.items in
    let next = c.loop-next.next in
    let v : AtomsView = record { last = c.self.inside.last.items; earlier = c.self.inside.earlier.items } in
    let found = subst (λ (z : AtomsView). AreFound p z) (sym c.self.view_is) c.requires.found in
    let more = c.index-next-in-loop-next.result.now in
    let long = found.atoms in
    let near = c.loop-next.invariant.last.within in
    let far = c.loop-next.invariant.within in
    let some = c.loop-next-test.true in
    let w : next - 1 < length v.earlier = omega arith in
    let is : next ≡ suc (next - 1) = omega arith in
    let link = slice_get_read v.earlier (length v.earlier) (next - 1) more refl w c.index-next-in-loop-next.ensures in
    subst (λ z. IsWalked p.atoms lit old z more) (sym c.in_ok-push.ensures.items) (walk_goes_on p v lit old now next (next - 1) more found c.loop-next.invariant is link)

pub loop-next-smaller : goal.loop-next-smaller
loop-next-smaller c =
    let p = c.args.problem.now in
    let next = c.loop-next.next in
    let v : AtomsView = record { last = c.self.inside.last.items; earlier = c.self.inside.earlier.items } in
    let found = subst (λ (z : AtomsView). AreFound p z) (sym c.self.view_is) c.requires.found in
    let more = c.index-next-in-loop-next.result.now in
    let long = found.atoms in
    let near = c.loop-next.invariant.last.within in
    let far = c.loop-next.invariant.within in
    let some = c.loop-next-test.true in
    let w : next - 1 < length v.earlier = omega arith in
    let there : next - 1 < length p.atoms = omega arith in
    let link = slice_get_read v.earlier (length v.earlier) (next - 1) more refl w c.index-next-in-loop-next.ensures in
    let falls = walk_falls p v (next - 1) more found there link in
    omega arith

pub returns : goal.returns
returns c =
    let none = c.loop-next-test.false in
    let z : c.loop-next.next ≡ 0 = omega arith in
    walk_ends c.args.problem.now.atoms c.args.lit c.args.places.now.items c.loop-next.places.items c.loop-next.next c.loop-next.invariant z
