use Rattle.std.proofs.Common.{◌≡◌, List, drop}
use Rattle.token_list.specs.declared.Token.{Token}
use Rattle.c_token.specs.Tables.{IsTable}
use Rattle.c_token.specs.Tokens.{first_long}
use Rattle.c_token.proofs.lexer.first_long.Given as goal

abbrev pub invariant-loop-one : goal.invariant-loop-one
invariant-loop-one l = (bodies : List (List Token)) → IsTable l.macros bodies → first_long (drop l.one-index bodies) ≡ first_long bodies
