-- Parts of texts behind one another, and what follows from an Ok.
use Rattle.std.proofs.Common.{◌≡◌, ℕ, List, ◌++◌, Result, Ok, Err, append_assoc}
use Rattle.std.specs.Prelude.{IfOk}

pub if_ok : {T E : Type 0} (r : Result T E) (P Q : T → Type 0) → ((v : T) → P v → Q v) → IfOk r P → IfOk r Q
if_ok (Ok v) P Q f p = f v p
if_ok (Err e) P Q f p = p

-- five and seven parts behind what was there
pub five_parts : (o a b c d e : List ℕ) → ((((o ++ a) ++ b) ++ c) ++ d) ++ e ≡ o ++ ((((a ++ b) ++ c) ++ d) ++ e)
five_parts o a b c d e = simp append_assoc

pub seven_parts : (o a b c d e f g : List ℕ) → ((((((o ++ a) ++ b) ++ c) ++ d) ++ e) ++ f) ++ g ≡ o ++ ((((((a ++ b) ++ c) ++ d) ++ e) ++ f) ++ g)
seven_parts o a b c d e f g = simp append_assoc
