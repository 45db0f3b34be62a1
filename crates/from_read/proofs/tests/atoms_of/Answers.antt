use Rattle.std.proofs.Common.{◌≡◌, List, [], ◌∷◌, ◌++◌, ℕ, length, ap, sym, subst, arith, rules}
use Rattle.std.specs.Prelude.{All}
use Rattle.cnf_problem.specs.declared.problem.Atom.{Atom}
use Rattle.cnf_problem.specs.declared.problem.Edge.{Edge}
use Rattle.cnf_problem.specs.Bounds.{IsAtomOver, IsBetween}
use Rattle.from_read.proofs.Deriving.{all_push, pushed_long}
use Rattle.from_read.proofs.tests.atoms_of.Goals as goal

pub loop-kind-preserved : goal.loop-kind-preserved
loop-kind-preserved c =
    let list = c.loop-kind.list in
    let pushed = c.in_ok-push.ensures.ok in
    let long = pushed_long list c.push.new.self _ pushed in
    let none : All (IsBetween c.args.nodes) c.new.result = subst (λ (l : List Edge). All (IsBetween c.args.nodes) l) (sym c.new.ensures) (λ k d h. absurd (omega arith)) in
    record {
      long = omega (arith, long, c.loop-kind.invariant.long);
      over = λ vars is. subst (λ (l : List Atom). All (IsAtomOver vars c.args.nodes) l) (sym pushed) (all_push (IsAtomOver vars c.args.nodes) list _ (c.loop-kind.invariant.over vars is) (record { lit = is; kind = c.is_over.ensures (search (rules, c.if-not-is_over.false)); edges = none }));
    }
