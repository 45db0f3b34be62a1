use Rattle.std.proofs.Common.{◌≡◌, List, length, take}
use Rattle.token_list.specs.declared.Token.{Token}
use Rattle.c_token.specs.Bytes.{capped}
use Rattle.c_token.specs.Tables.{all_tokens, IsTable}
use Rattle.c_token.proofs.macros.count_of.Given as goal

abbrev pub invariant-loop-one : goal.invariant-loop-one
invariant-loop-one l = (bodies : List (List Token)) → IsTable l.macros bodies → l.count ≡ capped (length (all_tokens bodies (take l.one-index l.uses)))
