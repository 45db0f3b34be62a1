-- Which checked program a text is, and why a text is refused.
use Rattle.std.specs.Prelude.{◌≡◌, ◌≢◌, ℕ, Bool, List, Ok, Err}
use Rattle.dg_base.specs.declared.Place.{Place}
use Rattle.dg_base.specs.declared.refusal.Refusal.{Refusal}
use Rattle.dg_base.specs.declared.refusal.Refusal.TheVariants.{Syntax, OutOfMemory}
use Rattle.token_list.specs.declared.Tokens.{Tokens}
use Rattle.c_token.specs.Tokens.{answer}
use Rattle.c_tree.specs.declared.program.Program.{Program}
use Rattle.c_stmt.specs.Programs.{HasCause, ReadsProgram}
use Rattle.c_check.specs.declared.checked.Checked.{Checked}
use Rattle.c_check.specs.WellFormed.{IsBound, IsChecked, IsFirstRefusal}
use Rattle.c_check.specs.PlainNames.{HasPlainNames, cell_names}

-- the text's tokens are this program
pub record IsRead (text : List ℕ) (program : Program) : Type 0 where
  pub tokens : Tokens
  pub lexed : answer text ≡ Ok tokens
  pub read : ReadsProgram tokens.list program

-- the text is this program, checked for the bound, with spent bounds told or not
pub record IsAccepted (bound : ℕ) (full : Bool) (text : List ℕ) (p : Checked) : Type 0 where
  pub read : IsRead text p.program
  pub checked : IsChecked p
  pub for_bound : p.k ≡ bound
  pub for_full : p.full ≡ full

-- The first refusal of a text, in this order: of its tokens (too long, a bad byte, a word that is not supported, a long macro,
-- too many tokens); of the grammar; of the checks on the program (names, types, sections, recursion, limits).
pub data IsRefused (bound : ℕ) (text : List ℕ) : Refusal → Type 0 where
  no_tokens : (e : Refusal) → answer text ≡ Err e → IsRefused bound text e
  no_program : (tokens : Tokens) (place : Place) → answer text ≡ Ok tokens → HasCause tokens (Syntax place) → IsRefused bound text (Syntax place)
  broken : (program : Program) (e : Refusal) → IsRead text program → IsFirstRefusal bound program e → e ≢ OutOfMemory → IsRefused bound text e

-- a text is one program at most
abbrev pub OneProgramOfText : Type 0
OneProgramOfText = (text : List ℕ) (x y : Program) → IsRead text x → IsRead text y → x ≡ y

-- no text is both accepted and refused for a bound
abbrev pub NotBoth : Type 0
NotBoth = (bound : ℕ) (full : Bool) (text : List ℕ) (p : Checked) (e : Refusal) → IsAccepted bound full text p → IsRefused bound text e → ⊥

-- and none is neither
abbrev pub NotNeither : Type 0
NotNeither = (bound : ℕ) (full : Bool) (text : List ℕ) → IsBound bound → ((p : Checked) → IsAccepted bound full text p → ⊥) → ((e : Refusal) → IsRefused bound text e → ⊥) → ⊥

-- what is accepted has plain names
abbrev pub NamesArePlain : Type 0
NamesArePlain = (bound : ℕ) (full : Bool) (text : List ℕ) (p : Checked) → IsAccepted bound full text p → HasPlainNames p.functions (cell_names p.cells)

-- a text has one checked program at most
abbrev pub OneChecked : Type 0
OneChecked = (bound : ℕ) (full : Bool) (text : List ℕ) (p q : Checked) → IsAccepted bound full text p → IsAccepted bound full text q → p ≡ q

-- a text has one refusal at most
abbrev pub OneRefusal : Type 0
OneRefusal = (bound : ℕ) (text : List ℕ) (e f : Refusal) → IsRefused bound text e → IsRefused bound text f → e ≡ f
