use Rattle.std.proofs.Common.{◌≡◌, drop, map}
use Rattle.c_token.specs.Bytes.{first_front}
use Rattle.c_token.proofs.bytes.first_front.Given as goal

abbrev pub invariant-loop-word : goal.invariant-loop-word
invariant-loop-word l = first_front (map (λ w. w.now) (drop l.word-index l.words)) l.text ≡ first_front (map (λ w. w.now) l.words) l.text
