use Rattle.std.proofs.Common.{◌≡◌, ◌+◌, [], length, take, sym, ap, ◌∙◌, subst, arith}
use Rattle.std.proofs.lemmas.List.{append-nil, take_all, take-append-le}
use Rattle.std.proofs.lemmas.Option.{slice_get_within}
use Rattle.verdict_run.specs.Searches.{HasEmpty, IsFirstEmpty}
use Rattle.verdict_run.proofs.Places.{popped, first_in_order}
use Rattle.verdict_run.proofs.answers.cut.Goals as goal

pub first_empty-last-requires : goal.first_empty-last-requires
first_empty-last-requires c = subst HasEmpty (sym c.as_slice.ensures) c.requires

pub loop-entries-init : goal.loop-entries-init
loop-entries-init c =
    let first = c.first_empty-last.ensures in
    let within = slice_get_within c.as_slice.result.now c.first_empty-last.result first.entry first.is in
    record {
      enough = omega (arith, within, ap length c.as_slice.ensures);
      rest = ([], sym (append-nil c.args.log.entries));
    }

pub loop-entries-preserved-in-loop-entries : goal.loop-entries-preserved-in-loop-entries
loop-entries-preserved-in-loop-entries c =
    let rest = c.loop-entries.invariant.rest in
    let left = popped c.args.log.entries c.loop-entries.entries c.pop.new.self rest.0 c.pop.result (c.first_empty-last.result + 1) c.pop.ensures (omega (arith, c.loop-entries-test.true, c.len.ensures)) rest.1 in
    record { enough = left.0; rest = left.1 }

pub invariant_of-result : goal.invariant_of-result
invariant_of-result c =
    let rest = c.loop-entries.invariant.rest in
    record { in_order = first_in_order c.args.log.entries c.loop-entries.entries rest.0 rest.1 c.args.log.in_order }

pub returns : goal.returns
returns c =
    let last = c.first_empty-last.result in
    let rest = c.loop-entries.invariant.rest in
    let long : length c.loop-entries.entries ≡ last + 1 = omega (arith, c.loop-entries-test.false, c.len.ensures, c.loop-entries.invariant.enough) in
    record {
      place = last;
      first = subst (λ es. IsFirstEmpty es last) c.as_slice.ensures c.first_empty-last.ensures;
      left_is =
          sym (take_all (last + 1) c.loop-entries.entries (omega (arith, long))) ∙ sym (take-append-le (last + 1) c.loop-entries.entries rest.0 (omega (arith, long)))
          ∙ ap (take (last + 1)) (sym rest.1);
    }
