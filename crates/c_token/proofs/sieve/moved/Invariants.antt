use Rattle.std.proofs.Common.{◌≡◌, map, take}
use Rattle.c_token.specs.Macros.{all_at}
use Rattle.c_token.specs.Seen.{token}
use Rattle.c_token.proofs.sieve.moved.Given as goal

abbrev pub invariant-loop-word : goal.invariant-loop-word
invariant-loop-word l = map token l.list.items ≡ all_at l.place (map token (take l.word-index l.words))
