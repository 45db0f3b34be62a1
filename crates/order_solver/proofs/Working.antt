-- A literal worked in, atom by atom.
use Rattle.std.proofs.Common.{◌≡◌, ℕ, ◌+◌, ◌≤◌, ◌⊎◌, inl, inr, true, false, List, [], ◌∷◌, ◌++◌, map, length, ap, sym, ◌∙◌, subst, arith}
use Rattle.std.specs.Prelude.{Option, Some, None, IfNone, MatchOption, is_some, Contains, slice_get}
use Rattle.std.proofs.lemmas.Bool.{cases_lt}
use Rattle.std.proofs.lemmas.Option.{same_Some, slice_get_within}
use Rattle.dg_base.proofs.Lists.{not_none, one_answer, get_map, get_from_map, get_there, contains_nothing, contains_cases, contains_head}
use Rattle.cycle_detect.proofs.Counting.{contains_left, contains_right, contains_either}
use Rattle.dg_base.specs.declared.Lit.{Lit}
use Rattle.cnf_problem.specs.declared.problem.Graph.{Graph}
use Rattle.cnf_problem.specs.declared.problem.Edge.{Edge}
use Rattle.cnf_problem.specs.declared.problem.Atom.{Atom}
use Rattle.cnf_problem.specs.declared.problem.Problem.{Problem}
use Rattle.cycle_detect.specs.Orders.{Held}
use Rattle.cycle_detect.specs.Parts.{EdgesView, IsLastInto}
use Rattle.from_read.specs.Derivations.{FromReadView, IsDerived}
use Rattle.order_solver.specs.declared.caused.Cause.{Cause}
use Rattle.order_solver.specs.declared.explain.Closing.{Closing}
use Rattle.order_solver.specs.Ordering.{SolverView, IsCause, own_at, own_count}
use Rattle.order_solver.specs.Parts.{graph_in, AreCaused, IsExtended, IsOwnClosing, IsRest, HasAtom}
use Rattle.order_solver.specs.Working.{AreGrown, IsWorking, IsNext, IsOwnHeld, IsClosing, AreTrue, NoneTrue}
use Rattle.order_solver.proofs.Deriving.{roomy_as, own_push, own_next}
use Rattle.order_solver.proofs.Grown.{grown_held, are_grown_then, own_grown}

-- ---- what a call answers

pub none_of : {A : Type 0} (o : Option A) (P : Type 0) → is_some o ≡ false → IfNone o P → P
none_of None P e h = h
none_of (Some x) P e h = absurd (let never : ⊥ = cc in never)

pub none_then : {A : Type 0} (o : Option A) (P Q : Type 0) → IfNone o P → (P → Q) → IfNone o Q
none_then None P Q h f = f h
none_then (Some x) P Q h f = h

pub some_of : {A : Type 0} (o : Option A) (P R : Type 0) (Q : A → Type 0) → is_some o ≡ true → MatchOption o P Q → MatchOption o R Q
some_of None P R Q e h = absurd (let never : ⊥ = cc in never)
some_of (Some x) P R Q e h = h

-- ---- an atom's own edges

-- each graph has the problem's nodes, and room for them
pub own_room : (p : Problem) (lits : List Lit) (a : ℕ) (s : SolverView) (g : Graph) → IsWorking p lits s → IsNext p lits a s → length (graph_in s g).edges + own_at p.atoms a ≤ (graph_in s g).room
own_room p lits a s g is next =
    let all = own_next p lits a s s.froms.true_atoms is next in
    omega (arith, all, own_push p s.froms.true_atoms a, is.few g, (is.roomy g).1 s.froms.true_atoms s.froms.derived is.derived)

-- an atom's own edges, once tried: those of each graph have causes still
own_caused : (p : Problem) (lits : List Lit) (a k : ℕ) (before after : SolverView) (g : Graph) → IsWorking p lits before → HasAtom p a lits → IsExtended p a g k (graph_in before g) (graph_in after g) → AreCaused p lits g (graph_in after g).edges (graph_in after g).causes
own_caused p lits a k before after g is has more = more.caused lits has (is.holding g).caused

-- all of them are held
pub own_held : (p : Problem) (lits : List Lit) (a : ℕ) (before after : SolverView) → IsWorking p lits before → IsNext p lits a before → ((g : Graph) → IsExtended p a g (own_at p.atoms a) (graph_in before g) (graph_in after g)) → IsRest before after → ((x : Atom) (e : Edge) → slice_get p.atoms a ≡ Some x → Contains x.edges e → Held (graph_in after e.graph).edges e.from e.to) → IsOwnHeld p lits a after
own_held p lits a before after is next more rest own =
    let grown = own_grown p a (own_at p.atoms a) before after more rest in
    let back : after.froms ≡ before.froms = rest.froms in
    record {
      next = record {
        below = next.below;
        free = λ m. next.free (subst (λ (f : FromReadView). Contains f.true_atoms a) back m);
        has = next.has;
      };
      worked = record {
        nodes = grown.nodes ∙ is.nodes;
        kinds = grown.kinds ∙ is.kinds;
        derived = subst (λ (f : FromReadView). IsDerived f) (sym back) is.derived;
        only = λ b m. is.only b (subst (λ (f : FromReadView). Contains f.true_atoms b) back m);
        holding = λ g. record {
          caused = own_caused p lits a (own_at p.atoms a) before after g is next.has (more g);
          fixed = λ e m same. grown_held (graph_in before g) (graph_in after g) e.from e.to (grown.graphs g) ((is.holding g).fixed e m same);
          own = λ b x e m at inside same. grown_held (graph_in before g) (graph_in after g) e.from e.to (grown.graphs g) ((is.holding g).own b x e (subst (λ (f : FromReadView). Contains f.true_atoms b) back m) at inside same);
          derived = λ d m same. grown_held (graph_in before g) (graph_in after g) d.edge.from d.edge.to (grown.graphs g) ((is.holding g).derived d (subst (λ (f : FromReadView). Contains f.derived d) back m) same);
        };
        few = λ g.
            let atoms = ap (λ (f : FromReadView). own_count p (f.true_atoms ++ a ∷ [])) back in
            let derived = ap (λ (f : FromReadView). length f.derived) back in
            omega (arith, atoms, derived, own_push p before.froms.true_atoms a, is.few g, (more g).few);
        roomy = λ g. roomy_as p before.froms after.froms (graph_in before g) (graph_in after g) grown.nodes grown.kinds (grown.graphs g) (is.roomy g);
      };
      own = own;
    }

-- one would close a cycle
pub own_closing : (p : Problem) (lits : List Lit) (a k : ℕ) (before after : SolverView) (closing : Closing) → IsWorking p lits before → IsNext p lits a before → ((g : Graph) → IsExtended p a g k (graph_in before g) (graph_in after g)) → IsOwnClosing p a after closing → IsClosing p lits after closing
own_closing p lits a k before after closing is next more own =
    let g = closing.edge.graph in
    let x = get_there p.atoms a next.below in
    record {
      nodes = (more g).nodes ∙ (is.roomy g).0;
      caused = own_caused p lits a k before after g is next.has (more g);
      cause = subst (λ (c : Cause). IsCause p lits closing.edge c) (sym own.cause) (x.0, (x.1, next.has x.0 x.1), own.own x.0 x.1);
      closed = own.closed;
    }

-- ---- the atoms of a literal

-- for each atom an edge from its literal's code to itself
abbrev pub codes_of : Problem → List (ℕ × ℕ)
codes_of p = map (λ a. (a.lit.0, a.lit.0)) p.atoms

same_code : (l m : Lit) → l.0 ≡ m.0 → l ≡ m
same_code l m e = ap (λ (n : ℕ). (let r : Lit = record { 0 = n } in r)) e

-- such an edge is that of an atom with the literal
pub code_atom : (p : Problem) (lit : Lit) (k z : ℕ) → slice_get (codes_of p) k ≡ Some (z, lit.0) → (x : Atom) × (slice_get p.atoms k ≡ Some x) × (x.lit ≡ lit)
code_atom p lit k z e =
    let x = get_from_map (λ (a : Atom). let q : ℕ × ℕ = (a.lit.0, a.lit.0) in q) p.atoms k (z, lit.0) e in
    (x.0, x.1, same_code x.0.lit lit (ap (λ (q : ℕ × ℕ). q.1) x.2))

pub atom_code : (p : Problem) (lit : Lit) (k : ℕ) (x : Atom) → slice_get p.atoms k ≡ Some x → x.lit ≡ lit → slice_get (codes_of p) k ≡ Some (lit.0, lit.0)
atom_code p lit k x at same =
    get_map (λ (a : Atom). let q : ℕ × ℕ = (a.lit.0, a.lit.0) in q) p.atoms k x at ∙ ap (λ (l : Lit). (let q : ℕ × ℕ = (l.0, l.0) in Some q)) same

-- the atoms of a literal behind the next one are true, and it and those before it are not
pub record IsWalking (p : Problem) (lit : Lit) (next : Option ℕ) (before now : SolverView) : Type 0 where
  pub grown : AreGrown before now
  pub codes : now.atoms.list ≡ codes_of p
  pub link : (k : ℕ) → next ≡ Some k → (z : ℕ) × (slice_get (codes_of p) k ≡ Some (z, lit.0))
  pub left : (j z : ℕ) → slice_get (codes_of p) j ≡ Some (z, lit.0) → Contains now.froms.true_atoms j ⊎ ((k : ℕ) × (next ≡ Some k) × (j ≤ k))
  pub free : (j k z : ℕ) → slice_get (codes_of p) j ≡ Some (z, lit.0) → next ≡ Some k → j ≤ k → ¬ Contains now.froms.true_atoms j
  pub working : (lits : List Lit) → IsWorking p lits before → Contains lits lit → IsWorking p lits now

-- the next atom
pub walking_next : (p : Problem) (lits : List Lit) (lit : Lit) (id : ℕ) (next : Option ℕ) (before now : SolverView) → IsWalking p lit next before now → next ≡ Some id → Contains lits lit → IsNext p lits id now
walking_next p lits lit id next before now is at has =
    let l = is.link id at in
    let x = code_atom p lit id l.0 l.1 in
    record {
      below = slice_get_within p.atoms id x.0 x.1;
      free = is.free id id l.0 l.1 at (omega arith);
      has = λ y f. subst (λ (m : Lit). Contains lits m) (sym x.2 ∙ ap (λ (z : Atom). z.lit) (one_answer (slice_get p.atoms id) x.0 y x.1 f)) has;
    }

-- where it was held too
pub walking_more : (p : Problem) (lit : Lit) (id : ℕ) (next link : Option ℕ) (before now after : SolverView) → IsWalking p lit next before now → next ≡ Some id → AreGrown now after → after.froms.true_atoms ≡ now.froms.true_atoms ++ id ∷ [] → ((lits : List Lit) → IsWorking p lits now → IsNext p lits id now → IsWorking p lits after) → IsLastInto (codes_of p) lit.0 id link → IsWalking p lit link before after
walking_more p lit id next link before now after is at more put works last = record {
  grown = are_grown_then before now after is.grown more;
  codes = ap (λ (z : EdgesView). z.list) more.atoms ∙ is.codes;
  link = λ k e. (last.found k e).1;
  left = λ j z e. elim (is.left j z e) [
    | inl done ↦ inl (subst (λ (l : List ℕ). Contains l j) (sym put) (contains_left now.froms.true_atoms (id ∷ []) j done))
    | inr r ↦
        let same : r.0 ≡ id = same_Some r.0 id (sym r.1 ∙ at) in
        elim (cases_lt j id) [
          | inl low ↦ inr (last.last j z low e)
          | inr high ↦
              let here : j ≡ id = omega (arith, r.2, same) in
              inl (subst (λ (l : List ℕ). Contains l j) (sym put) (contains_right now.froms.true_atoms (id ∷ []) j (subst (λ (n : ℕ). Contains (id ∷ []) n) (sym here) (contains_head id []))))
        ]
  ];
  free = λ j k z e f low m.
      let below = (last.found k f).0 in
      elim (contains_either now.froms.true_atoms (id ∷ []) j (subst (λ (l : List ℕ). Contains l j) put m)) [
        | inl old ↦ is.free j id z e at (omega arith) old
        | inr new ↦ elim (contains_cases id j [] new) [
          | inl same ↦ absurd (omega arith)
          | inr n ↦ contains_nothing j n
        ]
      ];
  working = λ lits was has. works lits (is.working lits was has) (walking_next p lits lit id next before now is at has);
}

-- at the end each is true
pub walking_done : (p : Problem) (lit : Lit) (next : Option ℕ) (before now : SolverView) → IsWalking p lit next before now → next ≡ None → AreTrue p lit now
walking_done p lit next before now is none a x at same =
    elim (is.left a lit.0 (atom_code p lit a x at same)) [
      | inl done ↦ done
      | inr r ↦ absurd (not_none next r.0 none r.1)
    ]

-- at the beginning none is
pub walking_start : (p : Problem) (lit : Lit) (next : Option ℕ) (before : SolverView) → AreGrown before before → before.atoms.list ≡ codes_of p → NoneTrue p lit before → IsLastInto before.atoms.list lit.0 (length before.atoms.list) next → IsWalking p lit next before before
walking_start p lit next before grown codes none last =
    let is : IsLastInto (codes_of p) lit.0 (length (codes_of p)) next = subst (λ (l : List (ℕ × ℕ)). IsLastInto l lit.0 (length l) next) codes last in
    record {
      grown = grown;
      codes = codes;
      link = λ k e. (is.found k e).1;
      left = λ j z e. inr (is.last j z (slice_get_within (codes_of p) j (z, lit.0) e) e);
      free = λ j k z e f low. (let x = code_atom p lit j z e in none j x.0 x.1 x.2);
      working = λ lits was has. was;
    }
