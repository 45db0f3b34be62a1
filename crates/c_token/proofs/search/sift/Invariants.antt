use Rattle.std.proofs.Common.{◌≡◌, List, [], drop}
use Rattle.token_list.specs.declared.Token.{Token}
use Rattle.c_token.specs.Searching.{frames_of}
use Rattle.c_token.specs.Tables.{all_tokens, IsTable}
use Rattle.c_token.proofs.Sifted.{Between}
use Rattle.c_token.proofs.search.sift.Given as goal

abbrev pub invariant-loop-index : goal.invariant-loop-index
invariant-loop-index l = record {
  frames : frames_of l.search ≡ [];
  between : (bodies : List (List Token)) → IsTable l.macros bodies → Between bodies l.holds l.search (all_tokens bodies (drop l.index l.uses)) (all_tokens bodies l.uses);
}
