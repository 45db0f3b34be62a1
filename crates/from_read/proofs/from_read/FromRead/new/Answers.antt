use Rattle.std.proofs.Common.{◌≡◌, ◌*◌, ◌+◌, ◌<◌, ◌++◌, ◌∷◌, [], ℕ, List, map, take, length, ap, sym, ◌∙◌, subst, arith, get_or}
use Rattle.std.specs.Prelude.{All}
use Rattle.std.proofs.lemmas.List.{length-map, length-take, map-append, take_all, take_more}
use Rattle.cnf_problem.specs.declared.problem.Node.{Node}
use Rattle.cnf_problem.specs.declared.problem.Atom.{Atom}
use Rattle.cnf_problem.specs.declared.problem.AtomKind.{AtomKind}
use Rattle.cnf_problem.specs.Bounds.{IsNodeOf, nodes_of}
use Rattle.from_read.specs.Parts.{EdgeSetView, IsEnough, IsFine}
use Rattle.from_read.proofs.Stacks.{kinds_over, parts_none, fine_none}
use Rattle.from_read.proofs.from_read.FromRead.new.Goals as goal

abbrev kind_of : Atom → AtomKind
kind_of a = a.kind

pub push_reserved-requires : goal.push_reserved-requires
push_reserved-requires c =
    let p = c.args.problem.now in
    let atoms_are : c.as_slice-atom-items.result.now ≡ p.atoms = c.as_slice-atom-items.ensures in
    let count = ap (λ (l : List Atom). length l) atoms_are in
    let long = c.loop-atom.kinds.ok.0 in
    let made = ap (λ (l : List AtomKind). length l) c.loop-atom.invariant.made in
    omega (arith, long, made, length-map (take c.loop-atom.atom-index p.atoms) kind_of, length-take c.loop-atom.atom-index p.atoms, c.loop-atom.invariant.room, c.len-count.ensures, c.loop-atom-test.true, count)

pub loop-atom-preserved : goal.loop-atom-preserved
loop-atom-preserved c =
    let p = c.args.problem.now in
    let atoms_are : c.as_slice-atom-items.result.now ≡ p.atoms = c.as_slice-atom-items.ensures in
    let count = ap (λ (l : List Atom). length l) atoms_are in
    let k = c.loop-atom.atom-index in
    let x = c.atom-item.result in
    let is : x ≡ get_or p.atoms k x = c.atom-item.is ∙ ap (λ (l : List Atom). get_or l k x) atoms_are in
    let h : k < length p.atoms = omega (arith, count, c.loop-atom-test.true) in
    let more : map kind_of (take (k + 1) p.atoms) ≡ map kind_of (take k p.atoms) ++ kind_of x ∷ [] = ap (λ (l : List Atom). map kind_of l) (take_more p.atoms k x h) ∙ map-append kind_of (take k p.atoms) (get_or p.atoms k x ∷ []) ∙ ap (λ (y : Atom). map kind_of (take k p.atoms) ++ kind_of y ∷ []) (sym is) in
    record {
      made = c.push_reserved.ensures.items ∙ ap (λ (l : List AtomKind). l ++ kind_of x ∷ []) c.loop-atom.invariant.made ∙ sym more;
      room = c.push_reserved.ensures.capacity ∙ c.loop-atom.invariant.room;
    }

pub room_for-requires-clause-few : goal.room_for-requires-clause-few
room_for-requires-clause-few c =
    let p = c.args.problem.now in
    let nodes_is : c.in_ok-nodes.nodes.items ≡ p.nodes = c.in_ok-nodes.ensures.items ∙ c.as_slice.ensures in
    let long = c.in_ok-nodes.nodes.ok.0 in
    let long_nodes = ap (λ (l : List Node). length l) nodes_is in
    omega (arith, c.len.ensures, long, long_nodes, p.graphs.few_nodes)

pub room_for-requires-clause-over : goal.room_for-requires-clause-over
room_for-requires-clause-over c =
    let p = c.args.problem.now in
    let nodes_is : c.in_ok-nodes.nodes.items ≡ p.nodes = c.in_ok-nodes.ensures.items ∙ c.as_slice.ensures in
    let atoms_are : c.as_slice-atom-items.result.now ≡ p.atoms = c.as_slice-atom-items.ensures in
    let count = ap (λ (l : List Atom). length l) atoms_are in
    let kinds_are : c.loop-atom.kinds.items ≡ map kind_of p.atoms = c.loop-atom.invariant.made ∙ ap (λ (l : List Atom). map kind_of l) (take_all c.loop-atom.atom-index p.atoms (omega (arith, count, c.loop-atom-test.false))) in
    let long_kinds = ap (λ (l : List AtomKind). length l) kinds_are in
    let long_map = length-map p.atoms kind_of in
    let long = c.in_ok-nodes.nodes.ok.0 in
    let long_nodes = ap (λ (l : List Node). length l) nodes_is in
    let over = kinds_over p.vars (length p.nodes) p.atoms p.graphs.each_atom in
    let count_is : c.len.result ≡ length p.nodes = omega (arith, c.len.ensures, long, long_nodes) in
    let one : All (λ (k : AtomKind). All (λ (n : ℕ). n < c.len.result) (nodes_of k)) (map kind_of p.atoms) = subst (λ (m : ℕ). All (λ (k : AtomKind). All (λ (n : ℕ). n < m) (nodes_of k)) (map kind_of p.atoms)) (sym count_is) over in
    subst (λ (l : List AtomKind). All (λ (k : AtomKind). All (λ (n : ℕ). n < c.len.result) (nodes_of k)) l) (sym (c.deref.ensures.value ∙ kinds_are)) one

pub invariant_of-result : goal.invariant_of-result
invariant_of-result c =
    let p = c.args.problem.now in
    let nodes_is : c.in_ok-nodes.nodes.items ≡ p.nodes = c.in_ok-nodes.ensures.items ∙ c.as_slice.ensures in
    let atoms_are : c.as_slice-atom-items.result.now ≡ p.atoms = c.as_slice-atom-items.ensures in
    let count = ap (λ (l : List Atom). length l) atoms_are in
    let kinds_are : c.loop-atom.kinds.items ≡ map kind_of p.atoms = c.loop-atom.invariant.made ∙ ap (λ (l : List Atom). map kind_of l) (take_all c.loop-atom.atom-index p.atoms (omega (arith, count, c.loop-atom-test.false))) in
    let long_kinds = ap (λ (l : List AtomKind). length l) kinds_are in
    let long_map = length-map p.atoms kind_of in
    let long = c.in_ok-nodes.nodes.ok.0 in
    let long_nodes = ap (λ (l : List Node). length l) nodes_is in
    let nodes = c.in_ok-nodes.nodes.items in
    let kinds = c.loop-atom.kinds.items in
    let room = c.in_ok-room.room in
    let blocks : All (IsNodeOf (length nodes)) nodes = subst (λ (l : List Node). All (IsNodeOf (length l)) l) (sym nodes_is) p.graphs.blocks in
    let all = kinds_over p.vars (length p.nodes) p.atoms p.graphs.each_atom in
    let one : All (λ (k : AtomKind). All (λ (n : ℕ). n < length nodes) (nodes_of k)) (map kind_of p.atoms) = subst (λ (l : List Node). All (λ (k : AtomKind). All (λ (n : ℕ). n < length l) (nodes_of k)) (map kind_of p.atoms)) (sym nodes_is) all in
    let over : All (λ (k : AtomKind). All (λ (n : ℕ). n < length nodes) (nodes_of k)) kinds = subst (λ (l : List AtomKind). All (λ (k : AtomKind). All (λ (n : ℕ). n < length nodes) (nodes_of k)) l) (sym kinds_are) one in
    let enough : IsEnough nodes kinds room = subst (λ (l : List AtomKind). IsEnough nodes l room) c.deref.ensures.value (c.in_ok-room.ensures nodes) in
    let count_is : c.len-2.result ≡ length nodes = omega (arith, c.len-2.ensures, long) in
    let fine : IsFine nodes kinds (record { nodes = 2 * c.len-2.result; limit = room; list = [] }) = subst (λ (m : ℕ). IsFine nodes kinds (record { nodes = 2 * m; limit = room; list = [] })) (sym count_is) (fine_none nodes kinds room blocks over enough) in
    rw (c.in_ok-new.ensures, c.in_ok-with_capacity.ensures.items, c.in_ok-with_capacity-2.ensures.items, c.in_ok-with_capacity-3.ensures.items, c.in_ok-with_capacity-4.ensures.items) (
      parts_none nodes kinds,
      fine,
      enough,
      omega (arith, long_kinds, long_map, p.graphs.few_atoms),
      omega (arith, long_kinds, long_map, c.len-count.ensures, c.in_ok-with_capacity.ensures.exact),
      omega (arith, long_kinds, long_map, c.len-count.ensures, c.in_ok-with_capacity-2.ensures.exact),
      omega (arith, long_kinds, long_map, c.len-count.ensures, c.in_ok-with_capacity-3.ensures.exact),
      omega (arith, long_kinds, long_map, c.len-count.ensures, c.in_ok-with_capacity-4.ensures.exact),
    )

pub returns-clause-nodes : goal.returns-clause-nodes
returns-clause-nodes c =
    let p = c.args.problem.now in
    let nodes_is : c.in_ok-nodes.nodes.items ≡ p.nodes = c.in_ok-nodes.ensures.items ∙ c.as_slice.ensures in
    nodes_is

pub returns-clause-kinds : goal.returns-clause-kinds
returns-clause-kinds c =
    let p = c.args.problem.now in
    let atoms_are : c.as_slice-atom-items.result.now ≡ p.atoms = c.as_slice-atom-items.ensures in
    let count = ap (λ (l : List Atom). length l) atoms_are in
    let kinds_are : c.loop-atom.kinds.items ≡ map kind_of p.atoms = c.loop-atom.invariant.made ∙ ap (λ (l : List Atom). map kind_of l) (take_all c.loop-atom.atom-index p.atoms (omega (arith, count, c.loop-atom-test.false))) in
    let long_kinds = ap (λ (l : List AtomKind). length l) kinds_are in
    let long_map = length-map p.atoms kind_of in
    kinds_are

pub returns-clause-none : goal.returns-clause-none
returns-clause-none c = (c.in_ok-with_capacity.ensures.items, ap (λ (s : EdgeSetView). s.list) c.in_ok-new.ensures)
