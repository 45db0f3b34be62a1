use Rattle.std.proofs.Common.{◌≡◌, ◌≤◌, ◌+◌, List, ◌++◌, ◌∷◌, [], Some, length, take, refl, ap, sym, ◌∙◌, subst, arith}
use Rattle.std.specs.Prelude.{slice_get}
use Rattle.std.proofs.lemmas.Option.{slice_get_read}
use Rattle.std.proofs.lemmas.List.{take_all}
use Rattle.lemma_log.specs.Hinting.{AreHintsFor}
use Rattle.lemma_log.specs.declared.hints.Hint.{Hint}
use Rattle.log_checker.specs.Hints.{IsGoodHinted}
use Rattle.hint_maker.specs.Lean.{AreAllLean}
use Rattle.hint_maker.proofs.Fronts.{taken_more}
use Rattle.dg_base.specs.declared.Lit.{Lit}
use Rattle.lemma_log.specs.declared.Entry.{Entry}
use Rattle.log_checker.specs.Goodness.{clauses_of}
use Rattle.log_checker.proofs.Evidence.{in_turn_at}
use Rattle.hint_maker.specs.Adding.{IsReadyFor}
use Rattle.hint_maker.proofs.Turns.{AreHintedTo, clauses_more, hinted_more, whole_few, whole_good, whole_lean, whole_matched}
use Rattle.hint_maker.proofs.adding.add_hints.Goals as goal

pub hints-requires : goal.hints-requires
hints-requires c =
    let p = c.args.problem.now in
    let entries = c.args.log.now.entries in
    let i = c.loop-entry.entry-index in
    let e = c.entry-item.result in
    let at = subst (λ (z : List Entry). slice_get z i ≡ Some e) c.as_slice-entry-items.ensures (slice_get_read c.as_slice-entry-items.result.now (length c.as_slice-entry-items.result.now) i e refl c.loop-entry-test.true c.entry-item.is) in
    let follows = in_turn_at p [] entries i e c.requires at in
    record { ready = (clauses_of (take i entries), c.loop-entry.invariant.ready, follows) }

pub add-requires : goal.add-requires
add-requires c =
    let p = c.args.problem.now in
    let entries = c.args.log.now.entries in
    let i = c.loop-entry.entry-index in
    let e = c.entry-item.result in
    let at = subst (λ (z : List Entry). slice_get z i ≡ Some e) c.as_slice-entry-items.ensures (slice_get_read c.as_slice-entry-items.result.now (length c.as_slice-entry-items.result.now) i e refl c.loop-entry-test.true c.entry-item.is) in
    let follows = in_turn_at p [] entries i e c.requires at in
    record { ready = (p, (clauses_of (take i entries), c.in_ok-hints.ensures.ready (clauses_of (take i entries)) c.loop-entry.invariant.ready, follows.variables)) }

pub loop-entry-preserved : goal.loop-entry-preserved
loop-entry-preserved c =
    let p = c.args.problem.now in
    let entries = c.args.log.now.entries in
    let i = c.loop-entry.entry-index in
    let e = c.entry-item.result in
    let at = subst (λ (z : List Entry). slice_get z i ≡ Some e) c.as_slice-entry-items.ensures (slice_get_read c.as_slice-entry-items.result.now (length c.as_slice-entry-items.result.now) i e refl c.loop-entry-test.true c.entry-item.is) in
    let follows = in_turn_at p [] entries i e c.requires at in
    let before = clauses_of (take i entries) in
    record {
      ready = subst (λ (z : List (List Lit)). IsReadyFor p z c.add.new.self) (sym (clauses_more entries i e at))
          (c.in_ok-add.ensures p before (c.in_ok-hints.ensures.ready before c.loop-entry.invariant.ready) follows.variables);
      again = c.in_ok-push-2.ensures.ok ∙ (ap (λ (x : Entry). c.loop-entry.entries ++ x ∷ []) c.in_ok-copied.ensures ∙ (ap (λ (z : List Entry). z ++ e ∷ []) c.loop-entry.invariant.again ∙ sym (taken_more entries i e at)));
      hinted = subst (λ (hs : List (List Hint)). AreHintedTo p entries hs (i + 1)) (sym c.in_ok-push.ensures.ok)
          (hinted_more p entries c.loop-entry.hints i e c.in_ok-hints.field-0 at c.loop-entry.invariant.hinted (λ unit. c.in_ok-hints.ensures.lean unit before c.loop-entry.invariant.ready follows) c.in_ok-hints.ensures.none);
    }

pub invariant_of-result-2 : goal.invariant_of-result-2
invariant_of-result-2 c =
    let p = c.args.problem.now in
    let entries = c.args.log.now.entries in
    let i = c.loop-entry.entry-index in
    let high = subst (λ (z : List Entry). i ≤ length z) c.as_slice-entry-items.ensures c.loop-entry.auto.entry-index-end in
    let done = subst (λ (z : List Entry). length z ≤ i) c.as_slice-entry-items.ensures c.loop-entry-test.false in
    let same : length entries ≡ i = omega (arith, high, done) in
    let again : c.loop-entry.entries ≡ entries = c.loop-entry.invariant.again ∙ take_all i entries done in
    record { matched = subst (λ (z : List Entry). AreHintsFor z c.loop-entry.hints) (sym again) (whole_matched p entries c.loop-entry.hints i same c.loop-entry.invariant.hinted) }

pub returns-clause-good : goal.returns-clause-good
returns-clause-good c =
    let p = c.args.problem.now in
    let entries = c.args.log.now.entries in
    let i = c.loop-entry.entry-index in
    let high = subst (λ (z : List Entry). i ≤ length z) c.as_slice-entry-items.ensures c.loop-entry.auto.entry-index-end in
    let done = subst (λ (z : List Entry). length z ≤ i) c.as_slice-entry-items.ensures c.loop-entry-test.false in
    let same : length entries ≡ i = omega (arith, high, done) in
    let again : c.loop-entry.entries ≡ entries = c.loop-entry.invariant.again ∙ take_all i entries done in
    subst (λ (z : List Entry). IsGoodHinted p z c.loop-entry.hints) (sym again) (whole_good p entries c.loop-entry.hints c.requires (whole_lean p entries c.loop-entry.hints i done c.loop-entry.invariant.hinted))

pub returns-clause-lean : goal.returns-clause-lean
returns-clause-lean c =
    let p = c.args.problem.now in
    let entries = c.args.log.now.entries in
    let i = c.loop-entry.entry-index in
    let high = subst (λ (z : List Entry). i ≤ length z) c.as_slice-entry-items.ensures c.loop-entry.auto.entry-index-end in
    let done = subst (λ (z : List Entry). length z ≤ i) c.as_slice-entry-items.ensures c.loop-entry-test.false in
    let same : length entries ≡ i = omega (arith, high, done) in
    let again : c.loop-entry.entries ≡ entries = c.loop-entry.invariant.again ∙ take_all i entries done in
    subst (λ (z : List Entry). AreAllLean p z c.loop-entry.hints) (sym again) (whole_lean p entries c.loop-entry.hints i done c.loop-entry.invariant.hinted)

pub returns-clause-few : goal.returns-clause-few
returns-clause-few c =
    let p = c.args.problem.now in
    let entries = c.args.log.now.entries in
    let i = c.loop-entry.entry-index in
    let high = subst (λ (z : List Entry). i ≤ length z) c.as_slice-entry-items.ensures c.loop-entry.auto.entry-index-end in
    let done = subst (λ (z : List Entry). length z ≤ i) c.as_slice-entry-items.ensures c.loop-entry-test.false in
    let same : length entries ≡ i = omega (arith, high, done) in
    let again : c.loop-entry.entries ≡ entries = c.loop-entry.invariant.again ∙ take_all i entries done in
    whole_few p entries c.loop-entry.hints i same c.requires c.loop-entry.invariant.hinted
