use Rattle.std.proofs.Common.{◌≡◌, ◌<◌, ◌≤◌, ◌+◌, List, Some, length, refl, sym, subst, take, arith}
use Rattle.std.specs.Prelude.{All, IfErr, slice_get}
use Rattle.std.proofs.lemmas.Option.{slice_get_read, slice_get_within}
use Rattle.std.proofs.lemmas.Result.{err_from_is_err_and}
use Rattle.cnf_problem.specs.Literals.{IsOver}
use Rattle.lemma_log.specs.declared.Entry.{Entry}
use Rattle.lemma_log.specs.declared.hints.Hint.{Hint}
use Rattle.log_checker.specs.Goodness.{EndsEmpty, clauses_of}
use Rattle.log_checker.specs.Hints.{FollowsHinted, IsGoodHinted, hints_at}
use Rattle.log_checker.specs.Refusals.{IsHintedRefusal}
use Rattle.log_checker.specs.declared.refused.Refused.{Refused}
use Rattle.log_checker.specs.declared.refused.Refused.TheVariants.{NoEmpty}
use Rattle.log_checker.proofs.Outcomes.{always_ok, if_err}
use Rattle.hint_checker.specs.Checking.{IsHintedEntryRefusal}
use Rattle.hint_checker.specs.Counting.{most_looks}
use Rattle.hint_checker.proofs.Logs.{front_over, good_more, good_whole, hints_read, looks_more, looks_rise, refused_at, refused_at_end}
use Rattle.hint_checker.proofs.hinted.check_hinted.Goals as goal

pub entry-requires-clause-before : goal.entry-requires-clause-before
entry-requires-clause-before g c =
    let p = c.args.problem.now in
    let entries = c.args.log.now.log.entries in
    let i = c.loop-i.i in
    subst (λ (z : List Entry). All (All (IsOver p.vars)) (clauses_of (take i z))) (sym c.as_slice-entries.ensures) (front_over p entries c.args.log.now.hints i c.loop-i.invariant.good)

pub returns-in_err-entry-clause-refused : goal.returns-in_err-entry-clause-refused
returns-in_err-entry-clause-refused g c =
    let p = c.args.problem.now in
    let entries = c.args.log.now.log.entries in
    let hints = c.args.log.now.hints in
    let i = c.loop-i.i in
    let items = c.as_slice-entries.result.now in
    let item = c.index-entries-i.result in
    let at = subst (λ (z : List Entry). slice_get z i ≡ Some item) c.as_slice-entries.ensures (slice_get_read items (length items) i item refl c.loop-i-test.true c.index-entries-i.is) in
    let within : i < length hints = omega (arith, c.args.log.now.matched.one_each, slice_get_within entries i item at) in
    let got : c.as_slice-hints.result.now ≡ hints_at hints i = hints_read hints c.as_slice.result.now c.index-as_slice-i.result c.as_slice-hints.result.now i c.as_slice.ensures within c.index-as_slice-i.is c.as_slice-hints.ensures in
    let r = c.in_err-entry.field-0.0 in
    let said = subst (λ (z : List Entry). IsHintedEntryRefusal p (clauses_of (take i z)) item (hints_at hints i) r) c.as_slice-entries.ensures
    (subst (λ (hs : List Hint). IsHintedEntryRefusal p (clauses_of (take i items)) item hs r) got c.in_err-entry.ensures.refused) in
    let e = err_from_is_err_and c.from_residual-in_err-entry.result c.from_residual-in_err-entry.ensures.1 in
    rw (e.1, e.2) (refused_at p entries hints i item r at c.loop-i.invariant.good said)

pub returns-in_err-entry-clause-steps : goal.returns-in_err-entry-clause-steps
returns-in_err-entry-clause-steps g c =
    let p = c.args.problem.now in
    let entries = c.args.log.now.log.entries in
    let hints = c.args.log.now.hints in
    let i = c.loop-i.i in
    let items = c.as_slice-entries.result.now in
    let item = c.index-entries-i.result in
    let at = subst (λ (z : List Entry). slice_get z i ≡ Some item) c.as_slice-entries.ensures (slice_get_read items (length items) i item refl c.loop-i-test.true c.index-entries-i.is) in
    let within : i < length hints = omega (arith, c.args.log.now.matched.one_each, slice_get_within entries i item at) in
    let got : c.as_slice-hints.result.now ≡ hints_at hints i = hints_read hints c.as_slice.result.now c.index-as_slice-i.result c.as_slice-hints.result.now i c.as_slice.ensures within c.index-as_slice-i.is c.as_slice-hints.ensures in
    let looked = subst (λ (z : List Entry). c.entry.new.steps ≤ c.loop-i.steps + most_looks item.lemma.kind p (clauses_of (take i z)) item.lemma.lits (hints_at hints i)) c.as_slice-entries.ensures
    (subst (λ (hs : List Hint). c.entry.new.steps ≤ c.loop-i.steps + most_looks item.lemma.kind p (clauses_of (take i items)) item.lemma.lits hs) got c.entry.ensures.steps) in
    let next = looks_more p entries hints i item at in
    let so_far = c.loop-i.invariant.steps in
    let rise = looks_rise p entries hints (i + 1) (length entries) (omega (arith, slice_get_within entries i item at)) in
    omega (arith, looked, next, so_far, rise)

pub loop-i-preserved : goal.loop-i-preserved
loop-i-preserved g c =
    let p = c.args.problem.now in
    let entries = c.args.log.now.log.entries in
    let hints = c.args.log.now.hints in
    let i = c.loop-i.i in
    let items = c.as_slice-entries.result.now in
    let item = c.index-entries-i.result in
    let at = subst (λ (z : List Entry). slice_get z i ≡ Some item) c.as_slice-entries.ensures (slice_get_read items (length items) i item refl c.loop-i-test.true c.index-entries-i.is) in
    let within : i < length hints = omega (arith, c.args.log.now.matched.one_each, slice_get_within entries i item at) in
    let got : c.as_slice-hints.result.now ≡ hints_at hints i = hints_read hints c.as_slice.result.now c.index-as_slice-i.result c.as_slice-hints.result.now i c.as_slice.ensures within c.index-as_slice-i.is c.as_slice-hints.ensures in
    let looked = subst (λ (z : List Entry). c.entry.new.steps ≤ c.loop-i.steps + most_looks item.lemma.kind p (clauses_of (take i z)) item.lemma.lits (hints_at hints i)) c.as_slice-entries.ensures
    (subst (λ (hs : List Hint). c.entry.new.steps ≤ c.loop-i.steps + most_looks item.lemma.kind p (clauses_of (take i items)) item.lemma.lits hs) got c.entry.ensures.steps) in
    let next = looks_more p entries hints i item at in
    let so_far = c.loop-i.invariant.steps in
    let follows = subst (λ (z : List Entry). FollowsHinted p (clauses_of (take i z)) item (hints_at hints i)) c.as_slice-entries.ensures
    (subst (λ (hs : List Hint). FollowsHinted p (clauses_of (take i items)) item hs) got c.in_ok-entry.ensures.follows) in
    record {
      good = good_more p entries hints i item at c.loop-i.invariant.good follows;
      ready = c.in_ok-entry.ensures.ready;
      steps = omega (arith, looked, next, so_far);
    }

pub returns-clause-good : goal.returns-clause-good
returns-clause-good g c =
    let p = c.args.problem.now in
    let entries = c.args.log.now.log.entries in
    let hints = c.args.log.now.hints in
    let done = subst (λ (z : List Entry). length z ≤ c.loop-i.i) c.as_slice-entries.ensures c.loop-i-test.false in
    always_ok c.accepted.result (IsGoodHinted p entries hints) (good_whole p entries hints c.loop-i.i done c.loop-i.invariant.good)

pub returns-clause-refused : goal.returns-clause-refused
returns-clause-refused g c =
    let p = c.args.problem.now in
    let entries = c.args.log.now.log.entries in
    let hints = c.args.log.now.hints in
    let done = subst (λ (z : List Entry). length z ≤ c.loop-i.i) c.as_slice-entries.ensures c.loop-i-test.false in
    let good = good_whole p entries hints c.loop-i.i done c.loop-i.invariant.good in
    let said = subst (λ (z : List Entry). IfErr c.accepted.result (λ (r : Refused). (¬ EndsEmpty z) × (r ≡ NoEmpty (length z)))) c.as_slice-entries.ensures c.accepted.ensures.refused in
    if_err c.accepted.result (λ (r : Refused). (¬ EndsEmpty entries) × (r ≡ NoEmpty (length entries))) (IsHintedRefusal p entries hints) (λ r h. refused_at_end p entries hints r good h.0 h.1) said
