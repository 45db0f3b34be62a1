use Rattle.std.proofs.Common.{◌-◌, length, refl, sym, take}
use Rattle.hint_checker.proofs.Logs.{last_parts}
use Rattle.hint_checker.proofs.hinted.accepted.Goals as goal

pub returns-then-is_empty-clause-ok : goal.returns-then-is_empty-clause-ok
returns-then-is_empty-clause-ok c =
    let entries = c.args.entries.now in (
      record {
        before = take (length entries - 1) entries;
        last = c.in-Some.entry.now;
        parts = last_parts entries c.in-Some.entry.now (sym c.in-Some.ensures.value);
        empty = c.is_empty.ensures.0 c.if-is_empty.true;
      },
      refl,
    )
