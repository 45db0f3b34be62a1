use Rattle.std.proofs.Common.{◌≡◌, ◌<◌, ◌^◌, ◌++◌, List, length, map, ap, sym, ◌∙◌, subst, arith}
use Rattle.cnf_problem.specs.Bounds.{AreGraphs}
use Rattle.cnf_problem.specs.declared.problem.Atom.{Atom}
use Rattle.cnf_problem.specs.declared.problem.Edge.{Edge}
use Rattle.cnf_problem.specs.declared.problem.Node.{Node}
use Rattle.memory_models.specs.declared.FenceEdge.{FenceEdge}
use Rattle.order_vars.specs.Atoms.{nodes_of}
use Rattle.encode_match.specs.Parts.{fence_atom}
use Rattle.encode.proofs.Fitting.{graphs_fit}
use Rattle.encode.proofs.graphs.problem_of.Goals as goal

pub finish-requires : goal.finish-requires
finish-requires c =
    let es = c.args.events.now in
    let fences = c.in_ok-edges.edges.fences in
    let whole = c.args.order.atoms ++ map fence_atom fences in
    let edges = c.in_ok-edges.edges.fixed ++ c.args.order.fixed in
    let atoms : c.add_fences.new.atoms ≡ whole = c.in_ok-add_fences.ensures ∙ ap (λ (fs : List FenceEdge). c.args.order.atoms ++ map fence_atom fs) c.as_slice.ensures in
    let fixed : c.append.new.self ≡ edges = c.in_ok-append.ensures in
    let long = ap (λ (l : List Atom). length l) atoms in
    let few_events : length es < 2 ^ 32 = omega (arith, c.in_ok-number_all.ensures) in
    let few_atoms : length whole < 2 ^ 32 = omega (arith, long, c.in_ok-number_all-2.ensures, c.len.ensures) in
    let g = graphs_fit c.args.model es c.args.gates.vars c.args.order.atoms c.args.order.fixed c.in_ok-edges.edges.fixed fences c.requires.events c.requires.orders c.in_ok-edges.ensures few_events few_atoms in
    subst (λ (ns : List Node). AreGraphs c.args.gates.vars ns c.add_fences.new.atoms c.append.new.self) (sym c.in_ok-nodes.ensures)
    (subst (λ (l : List Atom). AreGraphs c.args.gates.vars (nodes_of es) l c.append.new.self) (sym atoms)
    (subst (λ (l : List Edge). AreGraphs c.args.gates.vars (nodes_of es) whole l) (sym fixed) g))
