-- The solver under one asserted literal more, and under fewer.
use Rattle.std.proofs.Common.{◌≡◌, ◌≢◌, ℕ, ◌-◌, ◌<◌, ◌≤◌, inl, inr, Bool, false, List, [], ◌∷◌, ◌++◌, map, take, length, ap, sym, ◌∙◌, subst, arith}
use Rattle.std.specs.Prelude.{Some, Contains, slice_get, All}
use Rattle.std.proofs.lemmas.Bool.{cases_Bool}
use Rattle.std.proofs.lemmas.List.{length_push, length-take, length-map, take_all, take-take, take-append-le}
use Rattle.std.proofs.lemmas.Option.{slice_get_within, get_or_from_slice_get}
use Rattle.dg_base.proofs.Lists.{get_there, get_from_map, contains_place, contains_from_map}
use Rattle.cycle_detect.proofs.Counting.{distinct_once}
use Rattle.cycle_detect.specs.Parts.{EdgesView}
use Rattle.from_read.proofs.Enough.{no_longer, numbers, has_number, length_numbers}
use Rattle.dg_base.specs.declared.Lit.{Lit}
use Rattle.cnf_problem.specs.declared.problem.Node.{Node}
use Rattle.cnf_problem.specs.declared.problem.AtomKind.{AtomKind}
use Rattle.cnf_problem.specs.declared.problem.Graph.{Graph}
use Rattle.cnf_problem.specs.declared.problem.Graph.TheVariants.{Local, Global}
use Rattle.cnf_problem.specs.declared.problem.Problem.{Problem}
use Rattle.cnf_problem.specs.Literals.{var, IsOver}
use Rattle.cnf_problem.specs.Chains.{IsUnassigned}
use Rattle.from_read.specs.declared.edge_set.DerivedEdge.{DerivedEdge}
use Rattle.from_read.specs.Derivations.{FromReadView, IsDerived}
use Rattle.from_read.proofs.Deriving.{all_at, all_push}
use Rattle.from_read.proofs.Kept.{take_get}
use Rattle.trail_state.proofs.Assigning.{same_or_negated}
use Rattle.order_solver.specs.declared.caused.Cause.{Cause}
use Rattle.order_solver.specs.Ordering.{GraphView, SolverView, Mark, AreHeld, IsCounted, IsMarked, IsBelow, IsRoomy, IsOrdering, mark_now}
use Rattle.order_solver.specs.Parts.{cut_graph}
use Rattle.order_solver.specs.Working.{IsGrown, AreGrown}
use Rattle.order_solver.proofs.Cycles.{apart_push}

-- ---- other literals asserted

abbrev pub with_asserted : SolverView → List Lit → SolverView
with_asserted s l = record { local = s.local; global = s.global; froms = s.froms; atoms = s.atoms; asserted = l; marks = s.marks; stuck = s.stuck }

-- a mark speaks of the first literals alone
pub marked_lits : (p : Problem) (s : SolverView) (l : List Lit) (n : ℕ) (m : Mark) → take n l ≡ take n s.asserted → IsMarked p s n m → IsMarked p (with_asserted s l) n m
marked_lits p s l n m e is = record {
  local_in = is.local_in;
  global_in = is.global_in;
  atoms_in = is.atoms_in;
  local = subst (λ (z : List Lit). AreHeld p z Local (take m.local s.local.edges) (take m.local s.local.causes)) (sym e) is.local;
  global = subst (λ (z : List Lit). AreHeld p z Global (take m.global s.global.edges) (take m.global s.global.causes)) (sym e) is.global;
  local_few = is.local_few;
  global_few = is.global_few;
  only = λ a h. (let x = is.only a h in (x.0, (x.1.0, subst (λ (z : List Lit). Contains z x.0.lit) (sym e) x.1.1)));
  all = λ a x h. is.all a x (h.0, subst (λ (z : List Lit). Contains z x.lit) e h.1);
}

-- so as long as those of each mark stay, the solver fits the problem
pub ordering_lits : (p : Problem) (s : SolverView) (l : List Lit) → IsOrdering p s → All (IsOver p.vars) l → ((i j : ℕ) (a b : Lit) → slice_get l i ≡ Some a → slice_get l j ≡ Some b → var a ≡ var b → i ≡ j) → length s.marks ≤ length l → ((n : ℕ) → n ≤ length s.marks → take n l ≡ take n s.asserted) → IsOrdering p (with_asserted s l)
ordering_lits p s l is over once worked same = record {
  over = over;
  once = once;
  worked = worked;
  nodes = is.nodes;
  kinds = is.kinds;
  codes = is.codes;
  atoms = is.atoms;
  local = is.local;
  global = is.global;
  stuck = is.stuck;
  marks = λ free n m at. marked_lits p s l n m (same n (let h = slice_get_within s.marks n m at in omega arith)) (is.marks free n m at);
  present = λ free. marked_lits p s l (length s.marks) (mark_now s) (same (length s.marks) (omega arith)) (is.present free);
  rising = is.rising;
}

-- ---- one more

pub free_var : (lits : List Lit) (l m : Lit) → IsUnassigned lits l → Contains lits m → var m ≢ var l
free_var lits l m free h e =
    elim (same_or_negated m l e) [
      | inl same ↦ free.0 (subst (λ (z : Lit). Contains lits z) same h)
      | inr other ↦ free.1 (subst (λ (z : Lit). Contains lits z) other h)
    ]

pub ordering_push : (p : Problem) (s : SolverView) (l : Lit) → IsOrdering p s → IsOver p.vars l → IsUnassigned s.asserted l → IsOrdering p (with_asserted s (s.asserted ++ l ∷ []))
ordering_push p s l is over free =
    ordering_lits p s (s.asserted ++ l ∷ []) is
    (all_push (IsOver p.vars) s.asserted l is.over over)
    (apart_push s.asserted l is.once (λ m h. free_var s.asserted l m free h))
    (omega (arith, length_push s.asserted l, is.worked))
    (λ n h. take-append-le n s.asserted (l ∷ []) (omega (arith, h, is.worked)))

-- ---- fewer

all_cut : (p : Problem) (lits : List Lit) (n : ℕ) → All (IsOver p.vars) lits → All (IsOver p.vars) (take n lits)
all_cut p lits n over k d h =
    let x = get_there (take n lits) k h in
    let at = take_get n lits k x.0 x.1 in
    let one = all_at (IsOver p.vars) lits x.0 over (contains_place lits k x.0 at.1) in
    subst (IsOver p.vars) (sym (get_or_from_slice_get (take n lits) k x.0 d x.1)) one

pub apart_cut : (lits : List Lit) (n : ℕ) → ((i j : ℕ) (a b : Lit) → slice_get lits i ≡ Some a → slice_get lits j ≡ Some b → var a ≡ var b → i ≡ j) → (i j : ℕ) (a b : Lit) → slice_get (take n lits) i ≡ Some a → slice_get (take n lits) j ≡ Some b → var a ≡ var b → i ≡ j
apart_cut lits n once i j a b e f same = once i j a b (take_get n lits i a e).1 (take_get n lits j b f).1 same

-- where no worked literal goes
pub ordering_shorter : (p : Problem) (s : SolverView) (n : ℕ) → IsOrdering p s → length s.marks ≤ n → n ≤ length s.asserted → IsOrdering p (with_asserted s (take n s.asserted))
ordering_shorter p s n is low high =
    ordering_lits p s (take n s.asserted) is (all_cut p s.asserted n is.over) (apart_cut s.asserted n is.once) (omega (arith, length-take n s.asserted, low, high)) (λ k h. take-take k n s.asserted (omega (arith, h, low)))

-- the solver cut at a mark
abbrev pub cut_at : SolverView → ℕ → Mark → FromReadView → SolverView
cut_at s n m froms = record {
  local = cut_graph m.local s.local;
  global = cut_graph m.global s.global;
  froms = froms;
  atoms = s.atoms;
  asserted = take n s.asserted;
  marks = take n s.marks;
  stuck = s.stuck;
}

-- the derivation cut at a mark
pub record IsCutTo (m : Mark) (before after : FromReadView) : Type 0 where
  pub nodes : after.nodes ≡ before.nodes
  pub kinds : after.kinds ≡ before.kinds
  pub atoms : after.true_atoms ≡ take m.atoms before.true_atoms

counted_cut : (p : Problem) (before after : FromReadView) (m : Mark) (atoms : List ℕ) (count : ℕ) → IsCutTo m before after → IsCounted p before atoms count → IsCounted p after atoms count
counted_cut p before after m atoms count cut is derived d =
    let one : IsDerived (record { nodes = before.nodes; kinds = after.kinds; true_atoms = atoms; derived = derived }) = subst (λ (z : List Node). IsDerived (record { nodes = z; kinds = after.kinds; true_atoms = atoms; derived = derived })) cut.nodes d in
    is derived (subst (λ (z : List AtomKind). IsDerived (record { nodes = before.nodes; kinds = z; true_atoms = atoms; derived = derived })) cut.kinds one)

roomy_cut : (p : Problem) (before after : FromReadView) (m : Mark) (n : ℕ) (g : GraphView) → IsCutTo m before after → IsRoomy p before g → IsRoomy p after (cut_graph n g)
roomy_cut p before after m n g cut is = (
  is.0,
  λ atoms derived d.
      let one : IsDerived (record { nodes = before.nodes; kinds = after.kinds; true_atoms = atoms; derived = derived }) = subst (λ (z : List Node). IsDerived (record { nodes = z; kinds = after.kinds; true_atoms = atoms; derived = derived })) cut.nodes d in
      is.1 atoms derived (subst (λ (z : List AtomKind). IsDerived (record { nodes = before.nodes; kinds = z; true_atoms = atoms; derived = derived })) cut.kinds one),
)

pub held_as : (p : Problem) (g : Graph) (lits lits2 : List Lit) (edges edges2 : List (ℕ × ℕ)) (causes causes2 : List Cause) → lits ≡ lits2 → edges ≡ edges2 → causes ≡ causes2 → AreHeld p lits g edges causes → AreHeld p lits2 g edges2 causes2
held_as p g lits lits2 edges edges2 causes causes2 a b c is =
    let one = subst (λ (z : List Lit). AreHeld p z g edges causes) a is in
    let two = subst (λ (z : List (ℕ × ℕ)). AreHeld p lits2 g z causes) b one in
    subst (λ (z : List Cause). AreHeld p lits2 g edges2 z) c two

pub mark_of : (a x b y c z : ℕ) → a ≡ x → b ≡ y → c ≡ z → ◌≡◌ {A = Mark} (record { local = a; global = b; atoms = c }) (record { local = x; global = y; atoms = z })
mark_of a x b y c z e f g = cc

same_mark : (m l : Mark) → l.local ≡ m.local → l.global ≡ m.global → l.atoms ≡ m.atoms → m ≡ l
same_mark m l a b c = mark_of m.local l.local m.global l.global m.atoms l.atoms (sym a) (sym b) (sym c)

present_as : (p : Problem) (s : SolverView) (n : ℕ) (m : Mark) (k : ℕ) (l : Mark) → n ≡ k → l.local ≡ m.local → l.global ≡ m.global → l.atoms ≡ m.atoms → IsMarked p s n m → IsMarked p s k l
present_as p s n m k l e a b c is = subst (λ (z : Mark). IsMarked p s k z) (same_mark m l a b c) (subst (λ (z : ℕ). IsMarked p s z m) e is)

-- what an earlier mark says stays
marked_cut : (p : Problem) (s : SolverView) (n k : ℕ) (m l : Mark) (froms : FromReadView) → IsCutTo m s.froms froms → m.local ≤ length s.local.edges → m.global ≤ length s.global.edges → m.atoms ≤ length s.froms.true_atoms → k ≤ n → IsBelow l m → IsMarked p s k l → IsMarked p (cut_at s n m froms) k l
marked_cut p s n k m l froms cut a b c h below is =
    let lits : take k (take n s.asserted) ≡ take k s.asserted = take-take k n s.asserted h in
    let edges_l : take l.local (take m.local s.local.edges) ≡ take l.local s.local.edges = take-take l.local m.local s.local.edges below.0 in
    let causes_l : take l.local (take m.local s.local.causes) ≡ take l.local s.local.causes = take-take l.local m.local s.local.causes below.0 in
    let edges_g : take l.global (take m.global s.global.edges) ≡ take l.global s.global.edges = take-take l.global m.global s.global.edges below.1 in
    let causes_g : take l.global (take m.global s.global.causes) ≡ take l.global s.global.causes = take-take l.global m.global s.global.causes below.1 in
    let atoms : take l.atoms froms.true_atoms ≡ take l.atoms s.froms.true_atoms = ap (λ (z : List ℕ). take l.atoms z) cut.atoms ∙ take-take l.atoms m.atoms s.froms.true_atoms below.2 in
    let long = ap (λ (z : List ℕ). length z) cut.atoms in
    record {
      local_in = omega (arith, length-take m.local s.local.edges, below.0, a);
      global_in = omega (arith, length-take m.global s.global.edges, below.1, b);
      atoms_in = omega (arith, long, length-take m.atoms s.froms.true_atoms, below.2, c);
      local = held_as p Local (take k s.asserted) (take k (take n s.asserted)) (take l.local s.local.edges) (take l.local (take m.local s.local.edges)) (take l.local s.local.causes) (take l.local (take m.local s.local.causes)) (sym lits) (sym edges_l) (sym causes_l) is.local;
      global = held_as p Global (take k s.asserted) (take k (take n s.asserted)) (take l.global s.global.edges) (take l.global (take m.global s.global.edges)) (take l.global s.global.causes) (take l.global (take m.global s.global.causes)) (sym lits) (sym edges_g) (sym causes_g) is.global;
      local_few = counted_cut p s.froms froms m (take l.atoms froms.true_atoms) l.local cut (subst (λ (z : List ℕ). IsCounted p s.froms z l.local) (sym atoms) is.local_few);
      global_few = counted_cut p s.froms froms m (take l.atoms froms.true_atoms) l.global cut (subst (λ (z : List ℕ). IsCounted p s.froms z l.global) (sym atoms) is.global_few);
      only = λ q h. (let x = is.only q (subst (λ (z : List ℕ). Contains z q) atoms h) in (x.0, (x.1.0, subst (λ (z : List Lit). Contains z x.0.lit) (sym lits) x.1.1)));
      all = λ q x h. subst (λ (z : List ℕ). Contains z q) (sym atoms) (is.all q x (h.0, subst (λ (z : List Lit). Contains z x.lit) lits h.1));
    }

-- where a mark is undone to
pub ordering_cut : (p : Problem) (s : SolverView) (n : ℕ) (m : Mark) (froms : FromReadView) → IsOrdering p s → slice_get s.marks n ≡ Some m → IsCutTo m s.froms froms → IsOrdering p (cut_at s n m froms)
ordering_cut p s n m froms is at cut =
    let within = slice_get_within s.marks n m at in
    let count : length (take n s.marks) ≡ n = omega (arith, length-take n s.marks, within) in
    let not_stuck : s.stuck ≡ false = elim (cases_Bool s.stuck) [
      | inl stuck ↦ (let none = ap (λ (z : List Mark). length z) (is.stuck stuck).0 in absurd (omega (arith, none, within)))
      | inr free ↦ free
    ] in
    let here = is.marks not_stuck n m at in
    let now = marked_cut p s n n m m froms cut here.local_in here.global_in here.atoms_in (omega arith) (omega arith, omega arith, omega arith) here in
    record {
      over = all_cut p s.asserted n is.over;
      once = apart_cut s.asserted n is.once;
      worked = omega (arith, count, length-take n s.asserted, is.worked, within);
      nodes = cut.nodes ∙ is.nodes;
      kinds = cut.kinds ∙ is.kinds;
      codes = is.codes;
      atoms = is.atoms;
      local = roomy_cut p s.froms froms m m.local s.local cut is.local;
      global = roomy_cut p s.froms froms m m.global s.global cut is.global;
      stuck = λ s_is. (let none = ap (λ (z : List Mark). length z) (is.stuck s_is).0 in absurd (omega (arith, none, within)));
      marks = λ free k l e.
          let t = take_get n s.marks k l e in
          marked_cut p s n k m l froms cut here.local_in here.global_in here.atoms_in (omega (arith, t.0)) (is.rising k n l m t.0 t.1 at) (is.marks not_stuck k l t.1);
      present = λ free. present_as p (cut_at s n m froms) n m (length (take n s.marks)) (mark_now (cut_at s n m froms)) (sym count)
          (omega (arith, length-take m.local s.local.edges, here.local_in))
          (omega (arith, length-take m.global s.global.edges, here.global_in))
          (omega (arith, ap (λ (z : List ℕ). length z) cut.atoms, length-take m.atoms s.froms.true_atoms, here.atoms_in))
          now;
      rising = λ i j a b h e f. is.rising i j a b h (take_get n s.marks i a e).1 (take_get n s.marks j b f).1;
    }

-- ---- as the code has it

pub ordering_as : (p : Problem) (s : SolverView) (local global : GraphView) (froms : FromReadView) (atoms : EdgesView) (asserted : List Lit) (marks : List Mark) (stuck : Bool) → local ≡ s.local → global ≡ s.global → froms ≡ s.froms → atoms ≡ s.atoms → asserted ≡ s.asserted → marks ≡ s.marks → stuck ≡ s.stuck → IsOrdering p s → IsOrdering p (record { local = local; global = global; froms = froms; atoms = atoms; asserted = asserted; marks = marks; stuck = stuck })
ordering_as p s local global froms atoms asserted marks stuck a b c d e f g is =
    let one = subst (λ (z : GraphView). IsOrdering p (record { local = z; global = s.global; froms = s.froms; atoms = s.atoms; asserted = s.asserted; marks = s.marks; stuck = s.stuck })) (sym a) is in
    let two = subst (λ (z : GraphView). IsOrdering p (record { local = local; global = z; froms = s.froms; atoms = s.atoms; asserted = s.asserted; marks = s.marks; stuck = s.stuck })) (sym b) one in
    let three = subst (λ (z : FromReadView). IsOrdering p (record { local = local; global = global; froms = z; atoms = s.atoms; asserted = s.asserted; marks = s.marks; stuck = s.stuck })) (sym c) two in
    let four = subst (λ (z : EdgesView). IsOrdering p (record { local = local; global = global; froms = froms; atoms = z; asserted = s.asserted; marks = s.marks; stuck = s.stuck })) (sym d) three in
    let five = subst (λ (z : List Lit). IsOrdering p (record { local = local; global = global; froms = froms; atoms = atoms; asserted = z; marks = s.marks; stuck = s.stuck })) (sym e) four in
    let six = subst (λ (z : List Mark). IsOrdering p (record { local = local; global = global; froms = froms; atoms = atoms; asserted = asserted; marks = z; stuck = s.stuck })) (sym f) five in
    subst (λ (z : Bool). IsOrdering p (record { local = local; global = global; froms = froms; atoms = atoms; asserted = asserted; marks = marks; stuck = z })) (sym g) six

-- there are no more asserted literals than variables
abbrev below_var : Lit → ℕ
below_var l = var l - 1

pub few_lits : (vars : ℕ) (lits : List Lit) → All (IsOver vars) lits → ((i j : ℕ) (a b : Lit) → slice_get lits i ≡ Some a → slice_get lits j ≡ Some b → var a ≡ var b → i ≡ j) → length lits ≤ vars
few_lits vars lits over once =
    let few = no_longer (map below_var lits) (numbers vars)
    (distinct_once (map below_var lits) (λ i j n e f.
    let a = get_from_map below_var lits i n e in
    let b = get_from_map below_var lits j n f in
    let p = all_at (IsOver vars) lits a.0 over (contains_place lits i a.0 a.1) in
    let q = all_at (IsOver vars) lits b.0 over (contains_place lits j b.0 b.1) in
    once i j a.0 b.0 a.1 b.1 (omega (arith, a.2, b.2, p.0, q.0))))
    (λ n m.
    let a = contains_from_map below_var lits n m in
    let p = all_at (IsOver vars) lits a.0 over a.1 in
    has_number vars n (omega (arith, a.2, p.0, p.1))) in
    omega (arith, few, length_numbers vars, length-map lits below_var)

pub room_lits : (p : Problem) (s : SolverView) (l : Lit) → IsOrdering p s → IsOver p.vars l → IsUnassigned s.asserted l → length s.asserted < p.vars
room_lits p s l is over free =
    let next = ordering_push p s l is over free in
    omega (arith, few_lits p.vars (s.asserted ++ l ∷ []) next.over next.once, length_push s.asserted l)

-- ---- what the order does not speak of

-- other cycles last found, and another derived list
abbrev pub recycled : SolverView → List ℕ → List ℕ → List DerivedEdge → SolverView
recycled s local global derived = record {
  local = record s.local { cycle = local };
  global = record s.global { cycle = global };
  froms = record s.froms { derived = derived };
  atoms = s.atoms;
  asserted = s.asserted;
  marks = s.marks;
  stuck = s.stuck;
}

marked_recycled : (p : Problem) (s : SolverView) (local global : List ℕ) (derived : List DerivedEdge) (n : ℕ) (m : Mark) → IsMarked p s n m → IsMarked p (recycled s local global derived) n m
marked_recycled p s local global derived n m is = record {
  local_in = is.local_in;
  global_in = is.global_in;
  atoms_in = is.atoms_in;
  local = is.local;
  global = is.global;
  local_few = is.local_few;
  global_few = is.global_few;
  only = is.only;
  all = is.all;
}

pub ordering_recycled : (p : Problem) (s : SolverView) (local global : List ℕ) (derived : List DerivedEdge) → IsOrdering p s → IsOrdering p (recycled s local global derived)
ordering_recycled p s local global derived is = record {
  over = is.over;
  once = is.once;
  worked = is.worked;
  nodes = is.nodes;
  kinds = is.kinds;
  codes = is.codes;
  atoms = is.atoms;
  local = is.local;
  global = is.global;
  stuck = is.stuck;
  marks = λ free n m at. marked_recycled p s local global derived n m (is.marks free n m at);
  present = λ free. marked_recycled p s local global derived (length s.marks) (mark_now s) (is.present free);
  rising = is.rising;
}

graph_of : (n m r q : ℕ) (e f : List (ℕ × ℕ)) (c d : List Cause) (y : List ℕ) → n ≡ m → r ≡ q → e ≡ f → c ≡ d → ◌≡◌ {A = GraphView} (record { nodes = n; room = r; edges = e; causes = c; cycle = y }) (record { nodes = m; room = q; edges = f; causes = d; cycle = y })
graph_of n m r q e f c d y a b g h = cc

-- a graph whose newer edges are off again is as it was, but for the cycle
pub cut_back : (before after : GraphView) → length before.causes ≡ length before.edges → IsGrown before after → cut_graph (length before.edges) after ≡ record before { cycle = after.cycle }
cut_back before after long is = graph_of after.nodes before.nodes after.room before.room (take (length before.edges) after.edges) before.edges (take (length before.edges) after.causes) before.causes after.cycle is.nodes is.room is.edges (is.causes ∙ take_all (length before.edges) before.causes (omega (arith, long)))

froms_as : (n m : List Node) (k l : List AtomKind) (t u : List ℕ) (d : List DerivedEdge) → n ≡ m → k ≡ l → t ≡ u → ◌≡◌ {A = FromReadView} (record { nodes = n; kinds = k; true_atoms = t; derived = d }) (record { nodes = m; kinds = l; true_atoms = u; derived = d })
froms_as n m k l t u d a b c = cc

froms_of : (f : FromReadView) (g : FromReadView) → g.nodes ≡ f.nodes → g.kinds ≡ f.kinds → g.true_atoms ≡ f.true_atoms → g ≡ record f { derived = g.derived }
froms_of f g a b c = froms_as g.nodes f.nodes g.kinds f.kinds g.true_atoms f.true_atoms g.derived a b c

-- so the solver fits the problem as before
pub ordering_back : (p : Problem) (s held new : SolverView) (m : Mark) → IsOrdering p s → m.local ≡ length s.local.edges → m.global ≡ length s.global.edges → m.atoms ≡ length s.froms.true_atoms → length s.local.causes ≡ length s.local.edges → length s.global.causes ≡ length s.global.edges → AreGrown s held → new.local ≡ cut_graph m.local held.local → new.global ≡ cut_graph m.global held.global → IsCutTo m held.froms new.froms → new.atoms ≡ held.atoms → new.asserted ≡ held.asserted → new.marks ≡ held.marks → new.stuck ≡ held.stuck → IsOrdering p new
ordering_back p s held new m is ml mg ma ll lg more el eg cut ea er em es =
    let local = el ∙ ap (λ (n : ℕ). cut_graph n held.local) ml ∙ cut_back s.local held.local ll (more.graphs Local) in
    let global = eg ∙ ap (λ (n : ℕ). cut_graph n held.global) mg ∙ cut_back s.global held.global lg (more.graphs Global) in
    let true_atoms = cut.atoms ∙ ap (λ (n : ℕ). take n held.froms.true_atoms) ma ∙ more.true_atoms in
    let froms = froms_of s.froms new.froms (cut.nodes ∙ more.nodes) (cut.kinds ∙ more.kinds) true_atoms in
    ordering_as p (recycled s held.local.cycle held.global.cycle new.froms.derived) new.local new.global new.froms new.atoms new.asserted new.marks new.stuck local global froms (ea ∙ more.atoms) (er ∙ more.asserted) (em ∙ more.marks) (es ∙ more.stuck) (ordering_recycled p s held.local.cycle held.global.cycle new.froms.derived is)
