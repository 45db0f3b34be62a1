-- A text is one checked program at most, and is not refused where it is accepted.
use Rattle.std.proofs.Common.{◌≡◌, ℕ, Bool, List, Ok, sym, ap, ◌∙◌, subst}
use Rattle.token_list.specs.declared.Tokens.{Tokens}
use Rattle.c_token.specs.Tokens.{answer}
use Rattle.c_stmt.specs.Programs.{OneProgram, ReadsProgram}
use Rattle.c_check.specs.declared.checked.Checked.{Checked}
use Rattle.c_check.specs.Checked.{function_names, cells_of}
use Rattle.c_check.specs.WellFormed.{IsWellFormed}
use Rattle.c_program.specs.Accepting.{IsAccepted, NotBoth, OneChecked, OneProgramOfText, broken, no_program, no_tokens}
use Rattle.c_program.proofs.FirstRefusal.{is_broken, well_formed_holds}

pub same_tokens : (text : List ℕ) (s t : Tokens) → answer text ≡ Ok s → answer text ≡ Ok t → s ≡ t
same_tokens text s t e f = cc

pub one_program_of_text : OneProgram → OneProgramOfText
one_program_of_text one text x y h k =
    one k.tokens.list x y (subst (λ (t : Tokens). ReadsProgram t.list x) (same_tokens text h.tokens k.tokens h.lexed k.lexed) h.read) k.read

-- a checked program is its parts
same_checked : (p q : Checked) → p.program ≡ q.program → p.functions ≡ q.functions → p.cells ≡ q.cells → p.k ≡ q.k → p.full ≡ q.full → p ≡ q
same_checked p q e f g h j = λ i. record { program = e i; functions = f i; cells = g i; k = h i; full = j i }

pub one_checked : OneProgram → OneChecked
one_checked one bound full text p q a b =
    let same : p.program ≡ q.program = one_program_of_text one text p.program q.program a.read b.read in
    same_checked p q same (a.checked.functions ∙ (ap function_names same ∙ sym b.checked.functions)) (a.checked.cells ∙ (ap cells_of same ∙ sym b.checked.cells)) (a.for_bound ∙ sym b.for_bound) (a.for_full ∙ sym b.for_full)

-- what is accepted is well formed for the bound
pub well_formed : {bound : ℕ} {full : Bool} {text : List ℕ} {p : Checked} → IsAccepted bound full text p → IsWellFormed bound p.program
well_formed {p = p} a = subst (λ k. IsWellFormed k p.program) a.for_bound a.checked.well_formed

pub not_both : OneProgram → NotBoth
not_both one bound full text p _ a (no_tokens e h) = let lexed = a.read.lexed in absurd cc
not_both one bound full text p _ a (no_program tokens place lexed cause) =
    cause.3 p.program (subst (λ (t : Tokens). ReadsProgram t.list p.program) (same_tokens text a.read.tokens tokens a.read.lexed lexed) a.read.read)
not_both one bound full text p _ a (broken other e read first n) =
    let same = one_program_of_text one text p.program other a.read read in
    is_broken bound other e first n (well_formed_holds bound other e (subst (IsWellFormed bound) same (well_formed a)))
