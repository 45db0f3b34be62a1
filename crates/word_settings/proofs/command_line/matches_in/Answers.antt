use Rattle.std.proofs.Common.{◌∙◌, inl, inr, map}
use Rattle.clap.specs.Simple.{app_of}
use Rattle.clap.specs.Values.{kind_of}
use Rattle.word_settings.proofs.Matching.{none_taken, one_refused, rows_taken}
use Rattle.word_settings.proofs.command_line.matches_in.Goals as goal

pub returns-in-Ok : goal.returns-in-Ok
returns-in-Ok c =
    let words = map (λ s. s.now) c.args.words.now in
    let parse = c.try_get_matches_from in
    record {
      taken = none_taken (app_of c.in_ok-command.field-0) words parse.result c.in_ok-command.ensures c.in-Ok.matches parse.ensures.kinds c.in-Ok.is;
      found = rows_taken (app_of c.in_ok-command.field-0) words parse.result c.in_ok-command.ensures c.in-Ok.matches parse.ensures.matches c.in-Ok.is;
      fault = tt;
    }

pub returns-in-Err : goal.returns-in-Err
returns-in-Err c =
    let words = map (λ s. s.now) c.args.words.now in
    let parse = c.try_get_matches_from in
    record {
      taken = tt;
      found = tt;
      fault = elim (one_refused (app_of c.in_ok-command.field-0) words parse.result c.in_ok-command.ensures c.in-Err.error parse.ensures.kinds c.in-Err.is) [
        | inl memory ↦ inl (c.fault_of.ensures.memory (c.kind.ensures ∙ memory))
        | inr one ↦ elim c.fault_of.ensures.own [
          | inl lacks ↦ inl lacks
          | inr own ↦ inr (c.kind.result, own, rw c.kind.ensures one)
        ]
      ];
    }
