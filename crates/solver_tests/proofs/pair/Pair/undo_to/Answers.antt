use Rattle.std.proofs.Common.{◌≡◌, ◌≤◌, ℕ, List, take, length, ap, sym, ◌∙◌, arith}
use Rattle.std.proofs.lemmas.List.{length-map}
use Rattle.dg_base.specs.declared.Lit.{Lit}
use Rattle.trail_state.specs.Trails.{Assigned, lit_of, true_lits, up_to}
use Rattle.solver_tests.proofs.Driving.{up_to_prefix, up_to_shorter}
use Rattle.solver_tests.proofs.pair.Pair.undo_to.Goals as goal

pub undo_to-requires-2 : goal.undo_to-requires-2
undo_to-requires-2 c =
    let entries = c.self.inside.trail.entries in
    let kept = ap (λ (l : List Assigned). length l) c.undo_to.ensures.entries in
    let lits = ap (λ (l : List Lit). length l) c.self.invariant.asserted in
    record { within = omega (arith, c.len-count.ensures.count, kept, up_to_shorter c.args.level entries, lits, length-map entries lit_of) }

pub invariant_of-self : goal.invariant_of-self
invariant_of-self c =
    let i = c.self.inside in
    let kept = up_to c.args.level i.trail.entries in
    let count : c.len-count.result ≡ length kept = c.len-count.ensures.count ∙ ap (λ (l : List Assigned). length l) c.undo_to.ensures.entries in
    record {
      fits = c.undo_to-2.ensures.fits i.problem c.self.invariant.fits;
      vars = c.undo_to.ensures.vars ∙ c.self.invariant.vars;
      asserted = c.undo_to-2.ensures.asserted
          ∙ ap (λ (n : ℕ). take n i.solver.asserted) count
          ∙ ap (λ (l : List Lit). take (length kept) l) c.self.invariant.asserted
          ∙ up_to_prefix c.args.level i.trail.entries
          ∙ sym (ap true_lits c.undo_to.ensures.entries);
    }
