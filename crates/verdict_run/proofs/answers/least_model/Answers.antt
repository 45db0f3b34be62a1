use Rattle.std.proofs.Common.{◌≡◌, [], ◌∷◌, length, sym, subst, arith}
use Rattle.std.specs.Prelude.{MatchOption}
use Rattle.std.proofs.lemmas.List.{append-nil}
use Rattle.std.proofs.lemmas.Option.{slice_get_within}
use Rattle.verdict_run.specs.Searches.{NoModelFrom, IsFirstModel}
use Rattle.verdict_run.proofs.Gathering.{apart, found_model, model_more, length_more}
use Rattle.verdict_run.proofs.answers.least_model.Goals as goal

pub loop-worker-init : goal.loop-worker-init
loop-worker-init c = record {
  rest = ([], sym (append-nil c.args.ends.items));
  model = λ k e a from at. absurd (let within = slice_get_within c.args.ends.items k e at in omega arith);
}

pub loop-worker-preserved : goal.loop-worker-preserved
loop-worker-preserved c =
    let rest = c.loop-worker.invariant.rest in
    let e = c.in-Some.field-0 in
    let all = apart c.args.ends.items c.loop-worker.ends.items c.pop.new.self.items rest.0 e rest.1 c.in-Some.ensures.items in
    record {
      rest = (e ∷ rest.0, all);
      model = model_more c.args.ends.items c.pop.new.self.items rest.0 e all c.in_default-outcome.not-Model c.loop-worker.model
          (subst (λ n. MatchOption c.loop-worker.model (NoModelFrom n c.args.ends.items) (IsFirstModel n c.args.ends.items)) (length_more c.loop-worker.ends.items c.pop.new.self.items e c.in-Some.ensures.items) c.loop-worker.invariant.model);
    }

pub loop-worker-preserved-in-Model : goal.loop-worker-preserved-in-Model
loop-worker-preserved-in-Model c =
    let rest = c.loop-worker.invariant.rest in
    let e = c.in-Some.field-0 in
    let all = apart c.args.ends.items c.loop-worker.ends.items c.pop.new.self.items rest.0 e rest.1 c.in-Some.ensures.items in
    record { rest = (e ∷ rest.0, all); model = found_model c.args.ends.items c.pop.new.self.items rest.0 e c.in-Model.assignment all c.in-Model.is }

pub returns : goal.returns
returns c =
    let none : length c.loop-worker.ends.items ≡ 0 = omega (arith, c.in_default.ensures.cases.0, c.loop-worker.ends.ok.0) in
    subst (λ n. MatchOption c.loop-worker.model (NoModelFrom n c.args.ends.items) (IsFirstModel n c.args.ends.items)) none c.loop-worker.invariant.model
