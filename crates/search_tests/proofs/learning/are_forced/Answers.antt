use Rattle.std.proofs.Common.{◌≡◌, inl, inr, subst, sym, arith}
use Rattle.std.proofs.lemmas.Bool.{cases_lt}
use Rattle.std.specs.Prelude.{slice_get, Some, take}
use Rattle.std.proofs.lemmas.Option.{slice_get_within}
use Rattle.trail_state.specs.Trails.{Forced, true_lits}
use Rattle.trail_state.specs.Forcing.{Forces}
use Rattle.search_tests.proofs.learning.are_forced.Goals as goal

pub loop-i-preserved : goal.loop-i-preserved
loop-i-preserved c = λ k id m lt e.
    elim (cases_lt k c.loop-i.i) [
      | inl older ↦ c.loop-i.invariant k id m older e
      | inr ge ↦
          let same : k ≡ c.loop-i.i = omega arith in
          let here = c.is_forced.ensures c.if-not-is_forced.false id m (subst (λ j. slice_get c.args.trail.now.entries j ≡ Some (Forced m id)) same e) in
          subst (λ j. Forces c.args.rules.now.clauses id (true_lits (take j c.args.trail.now.entries)) m) (sym same) here
    ]

pub returns : goal.returns
returns c = λ _ k id m e.
    let lt = slice_get_within c.args.trail.now.entries k (Forced m id) e in
    c.loop-i.invariant k id m (omega arith) e
