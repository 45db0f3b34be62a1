use Rattle.std.proofs.Common.{◌≡◌, Some, List, ◌++◌, ◌∷◌, [], drop, get_or, map, suc, take, ap, sym, ◌∙◌, subst, arith}
use Rattle.std.specs.Prelude.{slice_get}
use Rattle.std.proofs.lemmas.List.{length-take, nil_from_length, take_all}
use Rattle.std.proofs.lemmas.Option.{slice_get-get_or}
use Rattle.cnf_problem.specs.Literals.{IsOver, negated}
use Rattle.lemma_log.specs.declared.hints.Hint.{Hint}
use Rattle.lemma_log.specs.declared.hints.Hint.TheVariants.{Clause}
use Rattle.trail_state.specs.Trails.{true_lits}
use Rattle.log_checker.specs.Goodness.{clauses_of}
use Rattle.log_checker.specs.Hints.{GoesWrong}
use Rattle.log_checker.specs.Hints.GoesWrong.{none}
use Rattle.hint_checker.specs.Counting.{literals_of_hints}
use Rattle.hint_checker.proofs.Following.{IsRightSoFar, front_next, looks_next, looks_within, next_over, not_last, not_next, one_longer, one_more, push_not_nil, right_last, split_at, wrong_last, wrong_next}
use Rattle.hint_checker.proofs.chain.wrong_hint.Goals as goal

pub returns-in_default-clause-position : goal.returns-in_default-clause-position
returns-in_default-clause-position g c =
    let p = c.args.problem.now in
    let before = clauses_of c.args.before.now in
    let start = map negated c.args.lits.now in
    let nothing : c.args.hints.now ≡ [] = nil_from_length c.args.hints.now c.in_default.ensures.cases in
    subst (λ (hs : List Hint). GoesWrong p before start hs 0) (sym nothing) none

pub put-requires-clause-over : goal.put-requires-clause-over
put-requires-clause-over g c =
    let p = c.args.problem.now in
    subst (λ n. IsOver n c.in-Gives.lit) (sym c.loop-hint.invariant.vars)
    (next_over p (clauses_of c.args.before.now) (true_lits c.loop-hint.set.entries) _ c.in-Gives.lit c.requires.before c.in-Gives.ensures.finding)

pub returns-in_default-look_at : goal.returns-in_default-look_at
returns-in_default-look_at g c =
    let p = c.args.problem.now in
    let before = clauses_of c.args.before.now in
    let start = map negated c.args.lits.now in
    let set = true_lits c.loop-hint.set.entries in
    let hints = c.args.hints.now in
    let front = c.in-Some.front.now in
    let last = c.in-Some.last.now in
    let i = c.loop-hint.hint-index in
    let h : Hint = get_or front i (Clause 0) in
    let at : slice_get front i ≡ Some h = slice_get-get_or front i (Clause 0) c.loop-hint-test.true in
    let rest = drop (suc i) front ++ last ∷ [] in
    let parts : take i front ++ h ∷ rest ≡ hints = split_at front (last ∷ []) i h at ∙ sym c.in-Some.ensures.cases.0 in
    let place = c.position.ensures in
    let count = c.loop-hint.invariant.count in
    let within = c.loop-hint-test.true in
    let looks = looks_within p before (take i front) rest hints h parts in
    let now = c.look_at.ensures.steps in
    let so_far = c.loop-hint.invariant.steps in
    record {
      position = wrong_next p before start set (take i front) rest hints h c.position.result c.loop-hint.invariant.so_far parts (push_not_nil (drop (suc i) front) last)
          (not_next p before set h c.look_at.result c.look_at.ensures.finding c.in_default-look_at.not-Gives) (omega (arith, place, count, within, length-take i front));
      above = c.loop-hint.invariant.above;
      vars = c.loop-hint.invariant.vars ∙ sym c.requires.vars;
      steps = omega (arith, looks, now, so_far);
    }

pub loop-hint-preserved : goal.loop-hint-preserved
loop-hint-preserved g c =
    let p = c.args.problem.now in
    let before = clauses_of c.args.before.now in
    let start = map negated c.args.lits.now in
    let set = true_lits c.loop-hint.set.entries in
    let front = c.in-Some.front.now in
    let i = c.loop-hint.hint-index in
    let h : Hint = get_or front i (Clause 0) in
    let at : slice_get front i ≡ Some h = slice_get-get_or front i (Clause 0) c.loop-hint-test.true in
    let next = sym (front_next front i h at) in
    let longer = one_longer c.loop-hint.set.entries c.put.new.set.entries c.in-Gives.lit c.put.ensures.lits in
    let count = c.loop-hint.invariant.count in
    let now = c.look_at.ensures.steps in
    let so_far = c.loop-hint.invariant.steps in
    let looks = looks_next p before (take i front) h in
    let looked = ap (λ (hs : List Hint). literals_of_hints p before hs) next in
    record {
      so_far = subst (λ (hs : List Hint). IsRightSoFar p before start hs (true_lits c.put.new.set.entries)) next
          (one_more p before start set (true_lits c.put.new.set.entries) (take i front) h c.in-Gives.lit c.in-Gives.ensures.finding c.put.ensures.lits c.loop-hint.invariant.so_far);
      count = omega (arith, longer, count);
      above = c.put.ensures.above;
      vars = c.put.ensures.vars ∙ c.loop-hint.invariant.vars;
      steps = omega (arith, looks, looked, now, so_far);
    }

pub returns-in-False-clause-position : goal.returns-in-False-clause-position
returns-in-False-clause-position g c =
    let front = c.in-Some.front.now in
    let i = c.loop-hint.hint-index in
    let parts : take i front ++ c.in-Some.last.now ∷ [] ≡ c.args.hints.now = ap (λ (hs : List Hint). hs ++ c.in-Some.last.now ∷ []) (take_all i front c.loop-hint-test.false) ∙ sym c.in-Some.ensures.cases.0 in
    right_last c.args.problem.now (clauses_of c.args.before.now) (map negated c.args.lits.now) (true_lits c.loop-hint.set.entries) (take i front) c.args.hints.now c.in-Some.last.now c.loop-hint.invariant.so_far parts c.in-False.ensures.finding

pub returns-in_default-look_at-2 : goal.returns-in_default-look_at-2
returns-in_default-look_at-2 g c =
    let p = c.args.problem.now in
    let before = clauses_of c.args.before.now in
    let set = true_lits c.loop-hint.set.entries in
    let hints = c.args.hints.now in
    let front = c.in-Some.front.now in
    let last = c.in-Some.last.now in
    let i = c.loop-hint.hint-index in
    let parts : take i front ++ last ∷ [] ≡ hints = ap (λ (hs : List Hint). hs ++ last ∷ []) (take_all i front c.loop-hint-test.false) ∙ sym c.in-Some.ensures.cases.0 in
    let place = c.position-in_default-look_at-2.ensures in
    let count = c.loop-hint.invariant.count in
    let looks = looks_within p before (take i front) [] hints last parts in
    let now = c.look_at-2.ensures.steps in
    let so_far = c.loop-hint.invariant.steps in
    record {
      position = wrong_last p before (map negated c.args.lits.now) set (take i front) hints last c.position-in_default-look_at-2.result c.loop-hint.invariant.so_far parts
          (not_last p before set last c.look_at-2.result c.look_at-2.ensures.finding c.in_default-look_at-2.not-False) (omega (arith, place, count, length-take i front));
      above = c.loop-hint.invariant.above;
      vars = c.loop-hint.invariant.vars ∙ sym c.requires.vars;
      steps = omega (arith, looks, now, so_far);
    }
