use Rattle.std.proofs.Common.{◌≡◌, ◌++◌, drop}
use Rattle.c_check.specs.Recursion.{called_in_declarators}
use Rattle.c_check.specs.Graph.{numbers_of}
use Rattle.c_check.proofs.calls.Gatherer.declarators.Given as goal

abbrev pub invariant-loop-declarator : goal.invariant-loop-declarator
invariant-loop-declarator l =
    l.into ++ numbers_of l.self.items.now (called_in_declarators (drop l.declarator-index l.declarators))
    ≡ l.fn.into ++ numbers_of l.self.items.now (called_in_declarators l.declarators)
