use Rattle.std.proofs.Common.{◌≡◌, take}
use Rattle.log_checker.specs.Goodness.{clauses_of}
use Rattle.hint_maker.specs.Adding.{IsReadyFor}
use Rattle.hint_maker.proofs.Turns.{AreHintedTo}
use Rattle.hint_maker.proofs.adding.add_hints.Given as goal

-- the entries passed have their hints
abbrev pub invariant-loop-entry : goal.invariant-loop-entry
invariant-loop-entry l = record {
  ready : IsReadyFor l.problem (clauses_of (take l.entry-index l.log.entries)) l.hinter;
  again : l.entries ≡ take l.entry-index l.log.entries;
  hinted : AreHintedTo l.problem l.log.entries l.hints l.entry-index;
}
