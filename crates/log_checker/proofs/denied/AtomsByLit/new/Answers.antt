use Rattle.std.proofs.Common.{◌≡◌, ◌+◌, ◌*◌, ◌<◌, Some, length, ap, refl, subst, arith, rules}
use Rattle.std.specs.Prelude.{slice_get}
use Rattle.std.proofs.Math.ListN.{length-set}
use Rattle.std.proofs.lemmas.Option.{slice_get_read}
use Rattle.dg_base.proofs.Lists.{get_nothing}
use Rattle.log_checker.proofs.Atoms.{code_fits, heads_more, no_heads, pushed_links, pushed_long, zeros_only}
use Rattle.log_checker.proofs.denied.AtomsByLit.new.Goals as goal

pub loop-i-init : goal.loop-i-init
loop-i-init c =
    let vec = c.in_ok-last.last.ok.0 in
    record {
      codes = omega (arith, c.in_ok-last.ensures.len);
      long = ap length c.new-earlier.ensures.items;
      heads = no_heads c.args.problem.now.atoms c.in_ok-last.last.items (λ code q e. zeros_only (2 * c.args.problem.now.vars + 2) code q (subst (λ z. slice_get z code ≡ Some q) (c.in_ok-last.ensures.items_if_clones_equal (search rules)) e));
      links = λ k q a e f. absurd (get_nothing k q (subst (λ z. slice_get z k ≡ Some q) c.new-earlier.ensures.items f));
    }

pub index-requires : goal.index-requires
index-requires c =
    let p = c.args.problem.now in
    let a = c.atom-item.result in
    let at : slice_get p.atoms c.loop-i.i ≡ Some a = subst (λ z. slice_get z c.loop-i.i ≡ Some a) c.as_slice-atom-items.ensures (slice_get_read c.as_slice-atom-items.result.now (length c.as_slice-atom-items.result.now) c.loop-i.i a refl c.loop-i-test.true c.atom-item.is) in
    let fits : a.lit.0 < 2 * p.vars + 2 = code_fits p c.loop-i.i a at in
    let vec = c.loop-i.last.ok.0 in
    let codes = c.loop-i.invariant.codes in
    omega arith

pub index_mut-requires : goal.index_mut-requires
index_mut-requires c =
    let p = c.args.problem.now in
    let a = c.atom-item.result in
    let at : slice_get p.atoms c.loop-i.i ≡ Some a = subst (λ z. slice_get z c.loop-i.i ≡ Some a) c.as_slice-atom-items.ensures (slice_get_read c.as_slice-atom-items.result.now (length c.as_slice-atom-items.result.now) c.loop-i.i a refl c.loop-i-test.true c.atom-item.is) in
    let fits : a.lit.0 < 2 * p.vars + 2 = code_fits p c.loop-i.i a at in
    let vec = c.loop-i.last.ok.0 in
    let codes = c.loop-i.invariant.codes in
    omega arith

pub loop-i-preserved : goal.loop-i-preserved
loop-i-preserved c =
    let p = c.args.problem.now in
    let a = c.atom-item.result in
    let i = c.loop-i.i in
    let at : slice_get p.atoms i ≡ Some a = subst (λ z. slice_get z i ≡ Some a) c.as_slice-atom-items.ensures (slice_get_read c.as_slice-atom-items.result.now (length c.as_slice-atom-items.result.now) i a refl c.loop-i-test.true c.atom-item.is) in
    let inv = c.loop-i.invariant in
    let fits : a.lit.0 < 2 * p.vars + 2 = code_fits p i a at in
    let codes = inv.codes in
    let inside : a.lit.0 < length c.loop-i.last.items = omega arith in
    record {
      codes = simp length-set inv.codes;
      long = pushed_long _ c.loop-i.earlier.items c.push.new.self.items i c.in_ok-push.ensures.items inv.long;
      heads = heads_more p.atoms c.loop-i.last.items i a at inv.heads;
      links = pushed_links _ p.atoms c.loop-i.last.items c.loop-i.earlier.items c.push.new.self.items i a at inv.long inv.heads inv.links c.in_ok-push.ensures.items (slice_get_read c.loop-i.last.items (length c.loop-i.last.items) a.lit.0 c.index.result.now refl inside c.index.ensures);
    }
