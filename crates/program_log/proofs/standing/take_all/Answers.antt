use Rattle.std.proofs.Common.{◌∷◌, [], ◌++◌}
use Rattle.log_text.specs.Spelling.{row_of}
use Rattle.program_log.proofs.Standings.{may_take}
use Rattle.program_log.proofs.standing.take_all.Goals as goal

pub take_one-requires : goal.take_one-requires
take_one-requires c =
    let ours = c.requires.0 in
    let fed = c.requires.1.0 in
    may_take c.args.problem.now ours c.loop-entry.reader fed c.loop-entry.now c.in-Some.entry c.in-Some.hints c.next_hints.new.self.ready c.in-Some.ensures.next.0 (c.loop-entry.invariant ours fed c.requires.1.1)

pub loop-entry-preserved : goal.loop-entry-preserved
loop-entry-preserved c ours fed begun =
    let was = c.loop-entry.invariant ours fed begun in
    record {
      given = was.given ++ row_of c.in-Some.entry c.in-Some.hints ∷ [];
      read = c.in-Some.ensures.reads _ fed was.given was.read;
      standing = c.in_ok-now.ensures ours fed was.given was.standing;
    }
