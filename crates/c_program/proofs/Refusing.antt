-- Each layer's refusal is the text's.
use Rattle.std.proofs.Common.{◌≡◌, ◌≢◌, List, ℕ, Result, Ok, Err, refl, sym, ◌∙◌, ⊎_elim}
use Rattle.dg_base.specs.declared.refusal.Refusal.{Refusal}
use Rattle.dg_base.specs.declared.refusal.Refusal.TheVariants as refusal
use Rattle.token_list.specs.declared.Tokens.{Tokens}
use Rattle.c_token.specs.Tokens as lexing
use Rattle.c_stmt.specs.Programs.{HasCause}
use Rattle.c_program.specs.Accepting.{IsRefused, no_program}

-- what is answered with tokens or a refusal is the text's answer
pub lexed : (r a : Result Tokens Refusal) (tokens : Tokens) → lexing.Gives r a → r ≡ Ok tokens → a ≡ Ok tokens
lexed r a tokens g e = ⊎_elim (λ h. absurd cc) (λ h. sym h ∙ e) g

pub unlexed : (r a : Result Tokens Refusal) (e : Refusal) → lexing.Gives r a → r ≡ Err e → e ≢ refusal.OutOfMemory → a ≡ Err e
unlexed r a e g h n = ⊎_elim (λ m. absurd (n cc)) (λ m. sym m ∙ h) g

-- the parser's refusal
pub unread : (text : List ℕ) (tokens : Tokens) → lexing.answer text ≡ Ok tokens → (e : Refusal) → HasCause tokens e → e ≢ refusal.OutOfMemory → (bound : ℕ) → IsRefused bound text e
unread text tokens l (refusal.Syntax place) h n bound = no_program tokens place l h
unread text tokens l refusal.OutOfMemory h n bound = absurd (n refl)
unread text tokens l (refusal.BadByte p) h n bound = absurd h
unread text tokens l (refusal.Unsupported p w) h n bound = absurd h
unread text tokens l refusal.NoMain h n bound = absurd h
unread text tokens l (refusal.Duplicate p) h n bound = absurd h
unread text tokens l (refusal.Unknown p) h n bound = absurd h
unread text tokens l (refusal.BadType p) h n bound = absurd h
unread text tokens l (refusal.UnmatchedAtomic p) h n bound = absurd h
unread text tokens l (refusal.Recursion p) h n bound = absurd h
unread text tokens l (refusal.Limit k m) h n bound = absurd h
