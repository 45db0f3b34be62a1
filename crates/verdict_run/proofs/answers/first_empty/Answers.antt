use Rattle.std.proofs.Common.{◌≢◌, [], length, refl, sym, ◌∙◌}
use Rattle.std.proofs.lemmas.Option.{slice_get_read}
use Rattle.lemma_log.specs.declared.Entry.{Entry}
use Rattle.verdict_run.proofs.Places.{next_place, not_false}
use Rattle.verdict_run.proofs.answers.first_empty.Goals as goal

pub loop-place-preserved : goal.loop-place-preserved
loop-place-preserved c =
    let at = slice_get_read c.args.entries.now (length c.args.entries.now) c.loop-place.place c.index-entries-place.result refl c.loop-place-test.true c.index-entries-place.is in
    next_place (λ (e : Entry). e.lemma.lits ≢ []) c.args.entries.now c.loop-place.place c.index-entries-place.result at c.loop-place.invariant (λ e. not_false (sym c.if-is_empty.false ∙ c.is_empty.ensures.1 e))

pub returns-then-is_empty : goal.returns-then-is_empty
returns-then-is_empty c = record {
  entry = c.index-entries-place.result;
  is = slice_get_read c.args.entries.now (length c.args.entries.now) c.loop-place.place c.index-entries-place.result refl c.loop-place-test.true c.index-entries-place.is;
  empty = c.is_empty.ensures.0 c.if-is_empty.true;
  first = c.loop-place.invariant;
}
