use Rattle.std.proofs.Common.{◌≡◌, ◌+◌, None, replicate, arith, rules, refl}
use Rattle.std.proofs.lemmas.List.{get_or-replicate}
use Rattle.std.specs.Vec.{vec_capacity}
use Rattle.trail_state.proofs.Kept.{parts_new}
use Rattle.trail_state.proofs.trail.Trail.new.Goals as goal

all_none : (c : goal.In_ok-new) → c.in_ok-from_elem.field-0.items ≡ replicate (c.args.vars + 1) None
all_none c = c.in_ok-from_elem.ensures.items_if_clones_equal (search rules)

pub invariant_of-result : goal.invariant_of-result
invariant_of-result c =
    let v = c.in_ok-from_elem.field-0.ok.0 in
    let o = c.in_ok-from_elem-2.field-0.ok.0 in
    let p = c.in_ok-from_elem-3.field-0.ok.0 in
    rw (c.in_ok-new.ensures.vars, c.in_ok-with_capacity.ensures.items)
    (parts_new c.args.vars 0 (vec_capacity c.in_ok-with_capacity.field-0) c.in_ok-from_elem.field-0.items c.in_ok-from_elem-2.field-0.items c.in_ok-from_elem-3.field-0.items c.in_ok-new.field-0.members c.requires refl (omega (arith, c.in_ok-with_capacity.ensures.exact)) (omega (arith, c.in_ok-from_elem.ensures.len)) (λ n le. rw (all_none c) (get_or-replicate (c.args.vars + 1) n None None (omega arith))) (omega (arith, c.in_ok-from_elem-2.ensures.len)) (omega (arith, c.in_ok-from_elem-3.ensures.len)) c.in_ok-new.ensures.members)
