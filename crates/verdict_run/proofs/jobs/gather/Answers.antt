use Rattle.std.proofs.Common.{◌≡◌, [], ◌∷◌, ◌++◌, List, length, ap, sym, ◌∙◌, subst, arith}
use Rattle.std.specs.Prelude.{Some, slice_get}
use Rattle.clause_exchange.specs.declared.rule.Part.{Part}
use Rattle.clause_exchange.specs.declared.rule.View.{View}
use Rattle.verdict_run.specs.declared.jobs.Ended.{Ended}
use Rattle.verdict_run.specs.Searches.{AreTaken}
use Rattle.verdict_run.proofs.Gathering.{one_taken, first_taken, none_left, get_middle, apart}
use Rattle.verdict_run.proofs.jobs.gather.Goals as goal

pub loop-seat-init : goal.loop-seat-init
loop-seat-init c =
    let job = c.in-Some.field-0 in
    let there : slice_get c.args.jobs.items (length c.pop.new.self.items) ≡ Some job = get_middle c.args.jobs.items c.pop.new.self.items [] job c.in-Some.ensures.items in
    record {
      same = c.requires.same _ job there;
      taken = first_taken c.args.jobs.items c.pop.new.self.items job job.seat.view.parts c.push.new.self.items c.in-Some.ensures.items (c.requires.one _ job there) (c.in_ok-push.ensures.items ∙ ap (λ (es : List Ended). es ++ job.ended ∷ []) c.new-ends.ensures.items);
    }

pub join-requires : goal.join-requires
join-requires c = record {
  same = c.loop-seat.invariant.same;
  other =
      let taken = c.loop-seat.invariant.taken in
      let job = c.in-Some-pop.field-0 in
      c.requires.same _ job (get_middle c.args.jobs.items c.pop-in-loop-seat.new.self.items taken.taken job (apart c.args.jobs.items c.loop-seat.jobs.items c.pop-in-loop-seat.new.self.items taken.taken job taken.left_is c.in-Some-pop.ensures.items));
}

pub loop-seat-preserved : goal.loop-seat-preserved
loop-seat-preserved c =
    let taken = c.loop-seat.invariant.taken in
    let job = c.in-Some-pop.field-0 in
    let there = get_middle c.args.jobs.items c.pop-in-loop-seat.new.self.items taken.taken job (apart c.args.jobs.items c.loop-seat.jobs.items c.pop-in-loop-seat.new.self.items taken.taken job taken.left_is c.in-Some-pop.ensures.items) in
    let parts = ap (λ (v : View). v.parts) c.join.ensures.both ∙ ap (λ (ps : List Part). c.loop-seat.all.view.parts ++ ps) (c.requires.one _ job there) in
    record {
      same = c.join.ensures.same ∙ c.loop-seat.invariant.same;
      taken = subst (λ ps. AreTaken c.args.jobs.items c.pop-in-loop-seat.new.self.items ps c.push-in-Some-pop.new.self.items) (sym parts)
          (subst (AreTaken c.args.jobs.items c.pop-in-loop-seat.new.self.items _) (sym c.in_ok-push-2.ensures.items)
          (one_taken c.args.jobs.items c.loop-seat.jobs.items c.pop-in-loop-seat.new.self.items job c.loop-seat.all.view.parts c.loop-seat.ends.items taken c.in-Some-pop.ensures.items));
    }

pub returns : goal.returns
returns c = record {
  same = c.loop-seat.invariant.same;
  taken = none_left c.args.jobs.items c.loop-seat.jobs.items c.loop-seat.all.view.parts c.loop-seat.ends.items (omega (arith, c.in_default-pop.ensures.cases.0, c.loop-seat.jobs.ok.0)) c.loop-seat.invariant.taken;
}
