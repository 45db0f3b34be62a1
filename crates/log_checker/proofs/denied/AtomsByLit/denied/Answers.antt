use Rattle.std.proofs.Common.{◌≡◌, ℕ, ◌≤◌, ◌⊎◌, ◌↔◌, Some, get_or, take, ap, sym, ◌∙◌, subst, add-one}
use Rattle.std.specs.Prelude.{Contains, slice_get}
use Rattle.std.proofs.lemmas.Option.{slice_get-get_or}
use Rattle.dg_base.specs.declared.Lit.{Lit}
use Rattle.unit_refuter.proofs.Chaining.{take_next}
use Rattle.log_checker.specs.Graphs.{AreDenied}
use Rattle.log_checker.proofs.Atoms.{IsAtomOf, denied_more}
use Rattle.log_checker.proofs.denied.AtomsByLit.denied.Goals as goal

pub put_places-requires-clause-over : goal.put_places-requires-clause-over
put_places-requires-clause-over c =
    subst (λ v. (1 ≤ v) × (v ≤ c.args.problem.now.vars)) (sym c.negated.ensures.variable) (c.requires.over c.loop-lit.lit-index (record { 0 = 0 }) c.loop-lit-test.true)

pub loop-lit-preserved : goal.loop-lit-preserved
loop-lit-preserved c =
    let p = c.args.problem.now in
    let lits = c.args.lits.now in
    let i = c.loop-lit.lit-index in
    let lit : Lit = get_or lits i (record { 0 = 0 }) in
    let at : slice_get lits i ≡ Some lit = slice_get-get_or lits i (record { 0 = 0 }) c.loop-lit-test.true in
    let old = c.loop-lit.places.items in
    let now = c.put_places.new.places.items in
    let put : (k : ℕ) → Contains now k ↔ (Contains old k ⊎ IsAtomOf p.atoms c.negated.result k) = c.in_ok-put_places.ensures in
    let more = denied_more p (take i lits) lit old now c.loop-lit.invariant (subst (λ z. (k : ℕ) → Contains now k ↔ (Contains old k ⊎ IsAtomOf p.atoms z k)) c.negated.ensures.value put) in
    subst (λ z. AreDenied p z now) (sym (ap (λ z. take z lits) (add-one i) ∙ take_next lits i lit at)) more
