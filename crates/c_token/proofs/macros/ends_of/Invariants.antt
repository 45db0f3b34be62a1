use Rattle.std.proofs.Common.{◌≡◌, ◌+◌, ◌-◌, ◌≤◌, List, length, drop}
use Rattle.token_list.specs.declared.Token.{Token}
use Rattle.c_token.specs.Skimming.{effects}
use Rattle.c_token.specs.Tables.{all_tokens, IsTable}
use Rattle.c_token.proofs.Ends.{EndsFrom}
use Rattle.c_token.proofs.macros.ends_of.Given as goal

abbrev pub invariant-loop-first : goal.invariant-loop-first
invariant-loop-first l = record {
  within : l.first ≤ length l.uses;
  len : length l.ends ≡ length l.uses - l.first + 1;
  behind : (bodies : List (List Token)) → IsTable l.macros bodies → l.behind ≡ effects (all_tokens bodies (drop l.first l.uses));
  ends : (bodies : List (List Token)) → IsTable l.macros bodies → EndsFrom bodies l.uses l.first l.ends;
}

abbrev pub decreases-loop-first : goal.decreases-loop-first
decreases-loop-first l = l.first
