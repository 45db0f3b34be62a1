use Rattle.std.proofs.Common.{List, Bool, length, map, ap, sym, ◌∙◌, subst}
use Rattle.std.specs.Prelude.{All}
use Rattle.std.specs.List.Sorted.{IsStrictlyIncreasing}
use Rattle.std.proofs.lemmas.List.{with_items_is}
use Rattle.dg_base.specs.declared.Lit.{Lit}
use Rattle.clause_store.specs.Stores.{clauses_of}
use Rattle.cnf_problem.specs.Literals.{IsOver, negated, var}
use Rattle.unit_refuter.specs.Refuting.{AreDerived}
use Rattle.trail_state.specs.Trails.{TrailView}
use Rattle.hint_maker.specs.Lean.{AreLean}
use Rattle.hint_maker.specs.Walking.{IsEnd, IsRefuted, NoneIsMarked}
use Rattle.hint_maker.proofs.Turns.{have_room, raised_stored, refuted_as, stored_over}
use Rattle.hint_maker.proofs.adding.Hinter.unit.Goals as goal

pub refute-denied-requires-clause-clause : goal.refute-denied-requires-clause-clause
refute-denied-requires-clause-clause c = record {
  over = subst (λ z. All (IsOver c.args.problem.now.vars) z) (sym c.as_slice-lits.ensures) c.requires.ready.2.variables;
  rising = subst (λ (z : List Lit). IsStrictlyIncreasing (map var z)) (sym c.as_slice-lits.ensures) c.args.entry.now.lemma.rising;
}

pub end_of-end-requires-clause-refuted : goal.end_of-end-requires-clause-refuted
end_of-end-requires-clause-refuted c =
    let p = c.args.problem.now in
    let r = c.refute-denied.new.self in
    let lits = c.as_slice-lits.result.now in
    let d = c.requires.ready in
    let back = sym c.trail.ensures in
    let is = refuted_as p d.0 c.args.entry.now r c.refute-denied.result lits c.as_slice-lits.ensures c.requires.kind d.2 (c.refute-denied.ensures.outcome d.0 d.1.ready) in
    (clauses_of p r.store, subst (λ (z : TrailView). AreDerived (clauses_of p r.store) lits z.entries) back c.refute-denied.ensures.derived, subst (λ (z : TrailView). IsRefuted (clauses_of p r.store) lits z.entries c.refute-denied.result) back is)

pub chain-requires-clause-end : goal.chain-requires-clause-end
chain-requires-clause-end c =
    let p = c.args.problem.now in
    let r = c.refute-denied.new.self in
    let lits = c.as_slice-lits.result.now in
    let d = c.requires.ready in
    let back = sym c.trail.ensures in
    let is = refuted_as p d.0 c.args.entry.now r c.refute-denied.result lits c.as_slice-lits.ensures c.requires.kind d.2 (c.refute-denied.ensures.outcome d.0 d.1.ready) in
    subst (λ (z : TrailView). IsEnd (clauses_of p r.store) lits z.entries c.end_of-end.result) c.trail.ensures
    (c.end_of-end.ensures.end (clauses_of p r.store) (subst (λ (z : TrailView). AreDerived (clauses_of p r.store) lits z.entries) back c.refute-denied.ensures.derived)
    (subst (λ (z : TrailView). IsRefuted (clauses_of p r.store) lits z.entries c.refute-denied.result) back is))

pub chain-requires-clause-room : goal.chain-requires-clause-room
chain-requires-clause-room c =
    let p = c.args.problem.now in
    let r = c.refute-denied.new.self in
    let d = c.requires.ready in
    have_room p (clauses_of p r.store) (length c.as_mut_slice-marks.result.now) (ap (λ (z : List Bool). length z) c.as_mut_slice-marks.ensures.value ∙ d.1.room)
    (stored_over p d.0 r (raised_stored p d.0 r (c.refute-denied.ensures.raised d.0 d.1.ready)) d.1.over)

pub returns-clause-ready : goal.returns-clause-ready
returns-clause-ready c clauses ready =
    let is = with_items_is c.args.self.now.marks c.chain.new.marks (c.in_ok-hints.ensures.sized ∙ c.as_mut_slice-marks.ensures.len) in
    record {
      ready = c.restore.ensures c.args.problem.now clauses (c.refute-denied.ensures.raised clauses ready.ready);
      over = ready.over;
      room = ap (λ (z : List Bool). length z) is ∙ (c.in_ok-hints.ensures.sized ∙ (ap (λ (z : List Bool). length z) c.as_mut_slice-marks.ensures.value ∙ ready.room));
      none = subst (λ (z : List Bool). NoneIsMarked z) (sym is) c.in_ok-hints.ensures.none;
    }

pub returns-clause-lean : goal.returns-clause-lean
returns-clause-lean c clauses ready follows =
    let p = c.args.problem.now in
    let r = c.refute-denied.new.self in
    let hints = c.in_ok-hints.hints in
    let s = raised_stored p clauses r (c.refute-denied.ensures.raised clauses ready.ready) in
    subst (λ (z : List Lit). AreLean p clauses (map negated z) hints) c.as_slice-lits.ensures
    (subst (λ (z : List (List Lit)). AreLean p z (map negated c.as_slice-lits.result.now) hints) (sym s.known) (c.in_ok-hints.ensures.lean s.further))
