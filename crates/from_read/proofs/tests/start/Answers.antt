use Rattle.std.proofs.Common.{◌≡◌, ◌≤◌, List, [], ℕ, length, map, ap, sym, subst, arith}
use Rattle.std.specs.Prelude.{All}
use Rattle.std.proofs.lemmas.List.{length-map}
use Rattle.cnf_problem.specs.declared.problem.Atom.{Atom}
use Rattle.cnf_problem.specs.declared.problem.Node.{Node}
use Rattle.cnf_problem.specs.declared.problem.AtomKind.{AtomKind}
use Rattle.cnf_problem.specs.declared.problem.Edge.{Edge}
use Rattle.cnf_problem.specs.Literals.{IsOver}
use Rattle.cnf_problem.specs.Formulas.{Formula}
use Rattle.cnf_problem.specs.Bounds.{IsAtomOver, IsBetween, IsNodeOf}
use Rattle.from_read.proofs.tests.start.Goals as goal

pub finish-requires : goal.finish-requires
finish-requires c =
    let nodes = c.in_ok-node_list.field-0 in
    let long = c.in_ok-node_list.ensures.long in
    let vars = ap (λ (v : Formula). v.vars) c.gates.view_is in
    let o = c.constant-lit.ensures.over in
    let over : IsOver c.gates.inside.vars c.constant-lit.result = (o.0, omega (arith, o.1, vars)) in
    record {
      few_nodes = omega (arith, long, c.if-nodes-gt1000.false);
      few_atoms = omega (arith, c.in_ok-atoms.ensures.long, c.if-kinds-gt1000.false);
      blocks = subst (λ (n : ℕ). All (IsNodeOf n) nodes) (sym long) c.in_ok-node_list.ensures.over;
      each_atom = subst (λ (n : ℕ). All (IsAtomOver c.gates.inside.vars n) c.in_ok-atoms.atoms) (sym long) (c.in_ok-atoms.ensures.over c.gates.inside.vars over);
      each_edge = rw c.new-2.ensures (λ k d h. absurd (omega arith));
    }

pub returns-clause-kinds : goal.returns-clause-kinds
returns-clause-kinds c =
    let atoms = ap (λ (l : List Atom). length l) c.in_ok-problem.ensures.graphs.1 in
    let kinds = ap (λ (l : List AtomKind). length l) c.in_ok-froms.ensures.kinds in
    omega (arith, atoms, kinds, length-map c.in_ok-problem.problem.atoms (λ (a : Atom). a.kind), c.in_ok-atoms.ensures.long)
