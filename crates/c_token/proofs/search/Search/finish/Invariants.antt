use Rattle.std.proofs.Common.{List, [], Bool}
use Rattle.token_list.specs.declared.Token.{Token}
use Rattle.c_token.specs.Searching.{frames_of, FramesFit, Seeks}
use Rattle.c_token.specs.Skimming.{Skim}
use Rattle.c_token.specs.Tables.{IsTable}
use Rattle.c_token.proofs.Hunting.{base_of, weight}
use Rattle.c_token.proofs.search.Search.finish.Given as goal

abbrev pub invariant-loop-frame : goal.invariant-loop-frame
invariant-loop-frame l = record {
  fit : FramesFit l.macros (frames_of l.self);
  seeks : (bodies : List (List Token)) (holds : Bool) (w : Skim) → IsTable l.macros bodies → Seeks l.macros bodies l.place holds l.fn.self (frames_of l.fn.self) 0 [] w
      → Seeks l.macros bodies l.place holds l.self (frames_of l.self) 0 [] w;
}

abbrev pub decreases-loop-frame : goal.decreases-loop-frame
decreases-loop-frame l = weight (base_of l.macros) l.macros (frames_of l.self)
