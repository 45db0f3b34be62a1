use Rattle.std.proofs.Common.{◌≡◌, ◌<◌, ◌-◌, suc, List, [], ◌∷◌, ◌++◌, length, reverse, map, ap, sym, ◌∙◌, subst, arith}
use Rattle.std.specs.Prelude.{All, slice_get}
use Rattle.std.proofs.lemmas.List.Elements.{All-contains}
use Rattle.std.proofs.lemmas.Option.{slice_get_within}
use Rattle.dg_base.proofs.Lists.{contains_place, one_answer}
use Rattle.dg_base.specs.declared.Lit.{Lit}
use Rattle.clause_store.specs.Stores.{clauses_of}
use Rattle.cnf_problem.specs.Literals.{negated, var}
use Rattle.lemma_log.specs.declared.hints.Hint.{Hint}
use Rattle.hint_maker.specs.Lean.{AreLean}
use Rattle.hint_maker.specs.Walking.{AddsMarks, AreMarked, IsTail}
use Rattle.hint_maker.proofs.Fronts.{front_wider}
use Rattle.hint_maker.proofs.Reasons.{named_further}
use Rattle.hint_maker.proofs.Walking.{begun_marked, begun_tail, none_left, whole_chain}
use Rattle.hint_maker.proofs.chain.chain.Goals as goal

pub clause-requires : goal.clause-requires
clause-requires c = slice_get_within (clauses_of c.args.problem.now c.args.refuter.now.store) c.args.end.clause.0 c.requires.end.clause c.requires.end.named

pub mark-requires : goal.mark-requires
mark-requires c =
    let clauses = clauses_of c.args.problem.now c.args.refuter.now.store in
    All-contains (All (λ (m : Lit). var m < length c.args.marks.now)) clauses c.clause.result.now c.requires.room (contains_place clauses c.args.end.clause.0 c.clause.result.now c.clause.ensures)

pub loop-place-init : goal.loop-place-init
loop-place-init c =
    let p = c.args.problem.now in
    let store = c.args.refuter.now.store in
    let clauses = clauses_of p store in
    let t = c.args.refuter.now.trail in
    let e = c.requires.end in
    let h = c.hint_of.result in
    let same : c.clause.result.now ≡ e.clause = one_answer (slice_get clauses c.args.end.clause.0) c.clause.result.now e.clause c.clause.ensures e.named in
    let adds = subst (λ (z : List Lit). AddsMarks c.args.lits.now z c.args.marks.now c.mark.new.marks) same c.mark.ensures in
    let pushed : c.push.new.self.items ≡ h ∷ [] = c.in_ok-push.ensures.items ∙ ap (λ (z : List Hint). z ++ h ∷ []) c.new-back.ensures.items in
    record {
      below = omega arith;
      sized = c.mark.ensures.sized;
      marked = begun_marked clauses c.args.lits.now t c.args.end c.args.marks.now c.mark.new.marks e c.requires.well c.requires.none adds;
      tail = λ further. subst (λ (hs : List Hint). IsTail p (store.added ++ further) c.args.lits.now t.entries c.mark.new.marks c.args.end.before (reverse hs)) (sym pushed)
          (begun_tail p (store.added ++ further) clauses c.args.lits.now t c.args.end c.args.marks.now c.mark.new.marks h e c.requires.well c.requires.none adds (named_further p store.added further h c.args.end.clause.0 e.clause c.hint_of.ensures e.named));
    }

pub step-requires-clause-place : goal.step-requires-clause-place
step-requires-clause-place c = let w = c.requires.end.within in let b = c.loop-place.invariant.below in omega arith

pub step-requires-clause-apart : goal.step-requires-clause-apart
step-requires-clause-apart c l there =
    let at = c.loop-place.place in
    c.requires.end.apart l (front_wider c.args.refuter.now.trail.entries (suc (at - 1)) c.args.end.before l (omega (arith, c.loop-place.invariant.below)) there)

pub step-requires-clause-room : goal.step-requires-clause-room
step-requires-clause-room c = subst (λ n. All (All (λ (m : Lit). var m < n)) (clauses_of c.args.problem.now c.args.refuter.now.store)) (sym c.loop-place.invariant.sized) c.requires.room

pub step-requires-clause-marked : goal.step-requires-clause-marked
step-requires-clause-marked c =
    let at = c.loop-place.place in
    let next : at ≡ suc (at - 1) = omega arith in
    subst (λ n. AreMarked c.args.lits.now c.args.refuter.now.trail.entries c.loop-place.marks n) next c.loop-place.invariant.marked

pub loop-place-preserved : goal.loop-place-preserved
loop-place-preserved c =
    let at = c.loop-place.place in
    let next : at ≡ suc (at - 1) = omega arith in
    record {
      below = omega (arith, c.loop-place.invariant.below);
      sized = c.step.auto.marks ∙ c.loop-place.invariant.sized;
      marked = c.in_ok-step.ensures.marked;
      tail = λ further. c.in_ok-step.ensures.tail further
          (subst (λ n. IsTail c.args.problem.now (c.args.refuter.now.store.added ++ further) c.args.lits.now c.args.refuter.now.trail.entries c.loop-place.marks n (reverse c.loop-place.back.items)) next (c.loop-place.invariant.tail further));
    }

pub returns-clause-none : goal.returns-clause-none
returns-clause-none c =
    let es = c.args.refuter.now.trail.entries in
    let first : c.loop-place.place ≡ 0 = omega arith in
    none_left c.args.lits.now es c.loop-place.marks (subst (λ n. AreMarked c.args.lits.now es c.loop-place.marks n) first c.loop-place.invariant.marked)

pub returns-clause-lean : goal.returns-clause-lean
returns-clause-lean c further =
    let p = c.args.problem.now in
    let before = c.args.refuter.now.store.added ++ further in
    let es = c.args.refuter.now.trail.entries in
    let first : c.loop-place.place ≡ 0 = omega arith in
    let lean = whole_chain p before c.args.lits.now es c.loop-place.marks (reverse c.loop-place.back.items) (subst (λ n. IsTail p before c.args.lits.now es c.loop-place.marks n (reverse c.loop-place.back.items)) first (c.loop-place.invariant.tail further)) in
    subst (λ (hs : List Hint). AreLean p before (map negated c.args.lits.now) hs) (sym (c.from_vec.ensures ∙ c.reverse.ensures.items)) lean
