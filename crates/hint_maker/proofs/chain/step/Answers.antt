use Rattle.std.proofs.Common.{◌≡◌, ◌<◌, false, List, [], ◌∷◌, ◌++◌, length, reverse, set, arith, None, Some, refl, ap, sym, ◌∙◌, subst}
use Rattle.std.specs.Prelude.{All, slice_get}
use Rattle.std.proofs.lemmas.List.{reverse-append}
use Rattle.std.proofs.lemmas.List.Elements.{All-contains}
use Rattle.std.proofs.lemmas.Option.{slice_get_within}
use Rattle.lemma_log.specs.declared.hints.Hint.{Hint}
use Rattle.dg_base.proofs.Lists.{contains_place, get_from_map, one_answer}
use Rattle.dg_base.specs.declared.Lit.{Lit}
use Rattle.clause_store.specs.Stores.{clauses_of}
use Rattle.cnf_problem.specs.Literals.{var}
use Rattle.trail_state.specs.Trails.{TrailView, lit_of, reason_of, true_lits}
use Rattle.hint_maker.specs.Walking.{AddsMarks, AreMarked, IsTail, is_marked}
use Rattle.hint_maker.proofs.Reasons.{marked_forced, named_further, reason_is, reason_there}
use Rattle.hint_maker.proofs.Walking.{passed_marked, passed_tail, taken_marked, taken_tail}
use Rattle.hint_maker.proofs.chain.step.Goals as goal

pub returns-then-not-is_needed-clause-marked : goal.returns-then-not-is_needed-clause-marked
returns-then-not-is_needed-clause-marked c =
    let es = c.args.refuter.now.trail.entries in
    let at = subst (λ (z : TrailView). slice_get (true_lits z.entries) c.args.place ≡ Some c.lit_at-lit.result) c.trail.ensures c.lit_at-lit.ensures in
    let b = get_from_map lit_of es c.args.place c.lit_at-lit.result at in
    let none = ap (λ (x : Lit). is_marked c.args.marks.now (var x)) b.2 ∙ (sym c.is_needed.ensures ∙ c.if-not-is_needed.true) in
    passed_marked c.args.lits.now es c.args.marks.now c.args.place b.0 b.1 none c.requires.marked

pub returns-then-not-is_needed-clause-tail : goal.returns-then-not-is_needed-clause-tail
returns-then-not-is_needed-clause-tail c further tail =
    let es = c.args.refuter.now.trail.entries in
    let at = subst (λ (z : TrailView). slice_get (true_lits z.entries) c.args.place ≡ Some c.lit_at-lit.result) c.trail.ensures c.lit_at-lit.ensures in
    let b = get_from_map lit_of es c.args.place c.lit_at-lit.result at in
    let none = ap (λ (x : Lit). is_marked c.args.marks.now (var x)) b.2 ∙ (sym c.is_needed.ensures ∙ c.if-not-is_needed.true) in
    passed_tail c.args.problem.now _ c.args.lits.now es c.args.marks.now c.args.place b.0 _ b.1 none tail

pub reason_of-requires : goal.reason_of-requires
reason_of-requires c =
    let lit = c.lit_at-lit.result in
    let at = subst (λ (z : TrailView). slice_get (true_lits z.entries) c.args.place ≡ Some lit) (c.trail.ensures ∙ sym c.trail-2.ensures) c.lit_at-lit.ensures in
    (lit, contains_place (true_lits c.trail-2.result.now.entries) c.args.place lit at, refl)

pub unreachable-requires : goal.unreachable-requires
unreachable-requires c =
    let t = c.args.refuter.now.trail in
    let lit = c.lit_at-lit.result in
    let at = subst (λ (z : TrailView). slice_get (true_lits z.entries) c.args.place ≡ Some lit) c.trail.ensures c.lit_at-lit.ensures in
    let f = marked_forced (clauses_of c.args.problem.now c.args.refuter.now.store) c.args.lits.now t.entries c.args.marks.now c.args.place lit c.requires.derived at c.requires.marked (sym c.is_needed.ensures ∙ c.if-not-is_needed.false) in
    let no : None ≡ Some f.id = c.in_default.ensures ∙ (ap (λ (z : TrailView). reason_of (var lit) z.entries) c.trail-2.ensures ∙ reason_there t c.args.place lit f.id c.requires.well f.there) in
    cc

pub clause-requires : goal.clause-requires
clause-requires c =
    let clauses = clauses_of c.args.problem.now c.args.refuter.now.store in
    let t = c.args.refuter.now.trail in
    let lit = c.lit_at-lit.result in
    let at = subst (λ (z : TrailView). slice_get (true_lits z.entries) c.args.place ≡ Some lit) c.trail.ensures c.lit_at-lit.ensures in
    let f = marked_forced clauses c.args.lits.now t.entries c.args.marks.now c.args.place lit c.requires.derived at c.requires.marked (sym c.is_needed.ensures ∙ c.if-not-is_needed.false) in
    let is = reason_is clauses t c.trail-2.result.now c.args.place lit f c.in-Some.reason.0 c.requires.well c.trail-2.ensures c.in-Some.ensures in
    subst (λ k. k < length clauses) (sym is) (slice_get_within clauses f.id f.forces.clause f.forces.named)

pub mark-requires : goal.mark-requires
mark-requires c =
    let clauses = clauses_of c.args.problem.now c.args.refuter.now.store in
    All-contains (All (λ (m : Lit). var m < length c.args.marks.now)) clauses c.clause.result.now c.requires.room (contains_place clauses c.in-Some.reason.0 c.clause.result.now c.clause.ensures)

pub returns-clause-marked : goal.returns-clause-marked
returns-clause-marked c =
    let clauses = clauses_of c.args.problem.now c.args.refuter.now.store in
    let t = c.args.refuter.now.trail in
    let lit = c.lit_at-lit.result in
    let at = subst (λ (z : TrailView). slice_get (true_lits z.entries) c.args.place ≡ Some lit) c.trail.ensures c.lit_at-lit.ensures in
    let f = marked_forced clauses c.args.lits.now t.entries c.args.marks.now c.args.place lit c.requires.derived at c.requires.marked (sym c.is_needed.ensures ∙ c.if-not-is_needed.false) in
    let is = reason_is clauses t c.trail-2.result.now c.args.place lit f c.in-Some.reason.0 c.requires.well c.trail-2.ensures c.in-Some.ensures in
    let same : c.clause.result.now ≡ f.forces.clause = one_answer (slice_get clauses f.id) c.clause.result.now f.forces.clause (subst (λ k. slice_get clauses k ≡ Some c.clause.result.now) is c.clause.ensures) f.forces.named in
    let adds = subst (λ (z : List Lit). AddsMarks c.args.lits.now z c.args.marks.now c.mark.new.marks) same c.mark.ensures in
    let low = All-contains (λ (m : Lit). var m < length c.args.marks.now) f.forces.clause lit (All-contains (All (λ (m : Lit). var m < length c.args.marks.now)) clauses f.forces.clause c.requires.room (contains_place clauses f.id f.forces.clause f.forces.named)) f.forces.has in
    let room : var lit < length c.mark.new.marks = omega (arith, low, c.mark.ensures.sized) in
    subst (λ v. AreMarked c.args.lits.now t.entries (set c.mark.new.marks v false) c.args.place) (sym c.var.ensures)
    (taken_marked c.args.problem.now c.args.refuter.now.store.added c.args.lits.now t c.args.place f.id lit c.hint_of.result clauses f.forces c.args.marks.now c.mark.new.marks c.requires.well f.there c.requires.marked adds room)

pub returns-clause-tail : goal.returns-clause-tail
returns-clause-tail c further tail =
    let p = c.args.problem.now in
    let before = c.args.refuter.now.store.added ++ further in
    let clauses = clauses_of c.args.problem.now c.args.refuter.now.store in
    let t = c.args.refuter.now.trail in
    let lit = c.lit_at-lit.result in
    let at = subst (λ (z : TrailView). slice_get (true_lits z.entries) c.args.place ≡ Some lit) c.trail.ensures c.lit_at-lit.ensures in
    let here = sym c.is_needed.ensures ∙ c.if-not-is_needed.false in
    let f = marked_forced clauses c.args.lits.now t.entries c.args.marks.now c.args.place lit c.requires.derived at c.requires.marked here in
    let is = reason_is clauses t c.trail-2.result.now c.args.place lit f c.in-Some.reason.0 c.requires.well c.trail-2.ensures c.in-Some.ensures in
    let same : c.clause.result.now ≡ f.forces.clause = one_answer (slice_get clauses f.id) c.clause.result.now f.forces.clause (subst (λ k. slice_get clauses k ≡ Some c.clause.result.now) is c.clause.ensures) f.forces.named in
    let adds = subst (λ (z : List Lit). AddsMarks c.args.lits.now z c.args.marks.now c.mark.new.marks) same c.mark.ensures in
    let low = All-contains (λ (m : Lit). var m < length c.args.marks.now) f.forces.clause lit (All-contains (All (λ (m : Lit). var m < length c.args.marks.now)) clauses f.forces.clause c.requires.room (contains_place clauses f.id f.forces.clause f.forces.named)) f.forces.has in
    let room : var lit < length c.mark.new.marks = omega (arith, low, c.mark.ensures.sized) in
    let names = named_further p c.args.refuter.now.store.added further c.hint_of.result c.in-Some.reason.0 f.forces.clause c.hint_of.ensures (ap (λ k. slice_get clauses k) is ∙ f.forces.named) in
    let turned : reverse c.push.new.self.items ≡ c.hint_of.result ∷ reverse c.args.back.now.items = ap (λ (z : List Hint). reverse z) c.in_ok-push.ensures.items ∙ reverse-append c.args.back.now.items (c.hint_of.result ∷ []) in
    subst (λ (hs : List Hint). IsTail p before c.args.lits.now t.entries (set c.mark.new.marks c.var.result false) c.args.place hs) (sym turned)
    (subst (λ v. IsTail p before c.args.lits.now t.entries (set c.mark.new.marks v false) c.args.place (c.hint_of.result ∷ reverse c.args.back.now.items)) (sym c.var.ensures)
    (taken_tail p before c.args.lits.now t c.args.place f.id lit c.hint_of.result clauses f.forces c.args.marks.now c.mark.new.marks (reverse c.args.back.now.items) c.requires.well f.there c.requires.marked adds room c.requires.apart here names tail))
