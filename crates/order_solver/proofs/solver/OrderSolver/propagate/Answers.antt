use Rattle.std.proofs.Common.{◌≡◌, ◌<◌, ◌≤◌, ◌+◌, ◌∙◌, not, List, length, get_or, refl, ap, sym, subst, arith}
use Rattle.std.specs.Prelude.{Option, Some, MatchOption, slice_get}
use Rattle.std.proofs.lemmas.Option.{slice_get_read}
use Rattle.dg_base.proofs.Lists.{one_answer}
use Rattle.dg_base.specs.declared.Lit.{Lit}
use Rattle.cnf_problem.specs.declared.problem.Graph.{Graph}
use Rattle.cnf_problem.specs.declared.problem.Atom.{Atom}
use Rattle.cnf_problem.specs.Chains.{AllFalse, IsUnassigned}
use Rattle.cnf_problem.specs.Edges.{HasCycle}
use Rattle.trail_state.specs.Trails.{true_lits}
use Rattle.order_solver.specs.Ordering.{SolverView, IsAcyclic, ClosesNone, IsCycleClause, IsUnit, HasEdgeWith}
use Rattle.order_solver.proofs.Checking.{IsLooking, looking_next, closes_none, value_free, value_taken}
use Rattle.order_solver.proofs.solver.OrderSolver.propagate.Goals as goal
use Rattle.order_solver.proofs.solver.OrderSolver.propagate.Goals.{then-is_none+in_ok-clause-2+in_default-2, else-is_none}

pub returns-in-Some-clause-step : goal.returns-in-Some-clause-step
returns-in-Some-clause-step g c =
    let p = c.args.problem.now in
    let s = c.args.self.now in
    let here = subst (λ (o : Option (List Lit)). MatchOption o (IsAcyclic p s.asserted) (λ clause. IsCycleClause p clause × AllFalse s.asserted clause)) c.in-Some.is c.in_ok-clause.ensures.found in
    subst (λ (l : List Lit). IsCycleClause p c.in-Some.clause × AllFalse l c.in-Some.clause) c.requires.asserted here

pub look_at-requires-clause-free : goal.look_at-requires-clause-free
look_at-requires-clause-free g c = λ x f.
    let p = c.args.problem.now in
    let s = c.args.self.now in
    let now = c.loop-atom.self in
    let n = c.loop-atom.atom in
    let was = c.loop-atom.invariant in
    let item = c.said-item.result in
    let items_are = c.as_slice-said-items.ensures in
    let within : n < length p.atoms = (let long = ap (λ (l : List Atom). length l) items_are in omega (arith, long, c.loop-atom-test.true)) in
    let at : slice_get p.atoms n ≡ Some item = slice_get_read p.atoms (length p.atoms) n item refl within (c.said-item.is ∙ ap (λ (l : List Atom). get_or l n item) items_are) in
    let lits = true_lits c.args.trail.now.entries in
    let free = value_free lits item.lit c.value.result (c.is_none.ensures ∙ ap not c.if-is_none.true) c.value.ensures in
    let same : item ≡ x = one_answer (slice_get p.atoms n) item x at f in
    let here : IsUnassigned lits x.lit = subst (λ (z : Atom). IsUnassigned lits z.lit) same free in
    subst (λ (l : List Lit). IsUnassigned l x.lit) (sym (was.asserted ∙ c.requires.asserted)) here

pub returns-in-Some-2-clause-step : goal.returns-in-Some-2-clause-step
returns-in-Some-2-clause-step g c =
    let p = c.args.problem.now in
    let now = c.loop-atom.self in
    let here = subst (λ (o : Option (List Lit)). MatchOption o ((x : Atom) (h : Graph) → slice_get p.atoms c.loop-atom.atom ≡ Some x → ¬ HasCycle (λ u v. HasEdgeWith p now.asserted x (record { graph = h; from = u; to = v }))) (λ clause. IsCycleClause p clause × IsUnit now.asserted clause)) c.in-Some-2.is c.in_ok-clause-2.ensures.found in
    subst (λ (l : List Lit). IsCycleClause p c.in-Some-2.clause × IsUnit l c.in-Some-2.clause) (c.loop-atom.invariant.asserted ∙ c.requires.asserted) here

pub loop-atom-preserved : goal.loop-atom-preserved
loop-atom-preserved g c =
    let p = c.args.problem.now in
    let s = c.args.self.now in
    let now = c.loop-atom.self in
    let n = c.loop-atom.atom in
    let was = c.loop-atom.invariant in
    let item = c.said-item.result in
    let items_are = c.as_slice-said-items.ensures in
    let within : n < length p.atoms = (let long = ap (λ (l : List Atom). length l) items_are in omega (arith, long, c.loop-atom-test.true)) in
    let at : slice_get p.atoms n ≡ Some item = slice_get_read p.atoms (length p.atoms) n item refl within (c.said-item.is ∙ ap (λ (l : List Atom). get_or l n item) items_are) in
    let lits = true_lits c.args.trail.now.entries in
    elim c.if-is_none.branch [
      | then-is_none+in_ok-clause-2+in_default-2 w ↦
          let new = w.look_at.new.self in
          let told = w.look_at.ensures in
          let found = subst (λ (o : Option (List Lit)). MatchOption o ((x : Atom) (h : Graph) → slice_get p.atoms n ≡ Some x → ¬ HasCycle (λ u v. HasEdgeWith p now.asserted x (record { graph = h; from = u; to = v }))) (λ clause. IsCycleClause p clause × IsUnit now.asserted clause)) w.in_default-2.is w.in_ok-clause-2.ensures.found in
          let here : (x : Atom) (h : Graph) → slice_get p.atoms n ≡ Some x → IsUnassigned s.asserted x.lit → ¬ HasCycle (λ u v. HasEdgeWith p s.asserted x (record { graph = h; from = u; to = v })) = λ x h f free. subst (λ (l : List Lit). ¬ HasCycle (λ u v. HasEdgeWith p l x (record { graph = h; from = u; to = v }))) was.asserted (found x h f) in
          subst (λ (z : SolverView). IsLooking p s.asserted (n + 1) z) (sym w.self-is) (looking_next p s.asserted n now new was told.fits told.rest.0 told.rest.1 told.rest.2 here)
      | else-is_none w ↦
          let taken = value_taken lits item.lit c.value.result (c.is_none.ensures ∙ ap not w.if-is_none.false) c.value.ensures in
          let here : (x : Atom) (h : Graph) → slice_get p.atoms n ≡ Some x → IsUnassigned s.asserted x.lit → ¬ HasCycle (λ u v. HasEdgeWith p s.asserted x (record { graph = h; from = u; to = v })) = λ x h f free.
          (let same : x ≡ item = one_answer (slice_get p.atoms n) x item f at in
          let bad = subst (λ (l : List Lit). IsUnassigned l item.lit) c.requires.asserted (subst (λ (z : Atom). IsUnassigned s.asserted z.lit) same free) in
          absurd (taken bad)) in
          subst (λ (z : SolverView). IsLooking p s.asserted (n + 1) z) (sym w.self-is) (looking_next p s.asserted n now now was was.fits refl refl refl here)
    ]

pub returns-clause-step : goal.returns-clause-step
returns-clause-step g c =
    let p = c.args.problem.now in
    let s = c.args.self.now in
    let n = c.loop-atom.atom in
    let was = c.loop-atom.invariant in
    let all : length p.atoms ≤ n = (let long = ap (λ (l : List Atom). length l) c.as_slice-said-items.ensures in omega (arith, long, c.loop-atom-test.false)) in
    let acyclic = subst (λ (o : Option (List Lit)). MatchOption o (IsAcyclic p s.asserted) (λ clause. IsCycleClause p clause × AllFalse s.asserted clause)) c.in_default.is c.in_ok-clause.ensures.found in
    subst (λ (l : List Lit). IsAcyclic p l × ClosesNone p l) c.requires.asserted (acyclic, closes_none p s.asserted n all was.none)
