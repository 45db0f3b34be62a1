-- The answer to a text that was read and checked whole.
use Rattle.std.proofs.Common.{◌≡◌, ◌≢◌, ℕ, ◌+◌, false, List, ◌∷◌, [], ◌++◌, map, Option, Some, None, refl, sym, ◌∙◌, ap, subst}
use Rattle.line_text.specs.Lines.{Refuses, text_of}
use Rattle.c_check.specs.declared.checked.Checked.{Checked}
use Rattle.cnf_problem.specs.declared.problem.Head.{Head}
use Rattle.cnf_problem.specs.declared.problem.Problem.{Problem}
use Rattle.encode_match.specs.declared.Encoded.{Encoded}
use Rattle.lemma_log.specs.declared.Entry.{Entry}
use Rattle.lemma_log.specs.declared.hints.Hint.{Hint}
use Rattle.lemma_log.specs.declared.hints.AnyLog.{AnyLog}
use Rattle.lemma_log.specs.declared.hints.AnyLog.TheVariants.{Plain, Hinted}
use Rattle.log_text.specs.Formats.{Written, first_line, head_lines, last_line, row_line}
use Rattle.log_text.specs.Spelling.{HasHead, Spells, written}
use Rattle.log_checker.specs.declared.refused.Refused.{Refused as Refusal}
use Rattle.log_checker.specs.declared.refused.Refused.TheVariants as refusal
use Rattle.log_checker.specs.Refusals.{Fails, HintedFails, IsHintedRefusal, IsRefusal}
use Rattle.program_log.specs.declared.answers.LogAnswer.{LogAnswer}
use Rattle.program_log.specs.declared.answers.LogAnswer.TheVariants.{Accepted, OtherProblem, Refused, BadLog}
use Rattle.program_log.specs.declared.heads.OtherLine.{OtherLine}
use Rattle.program_log.specs.Heads.{FirstOther, IsCompared, head_of}
use Rattle.program_log.specs.Logs.{IsAnswerFor, IsLogText, LogFails, bad_log, other_problem, refused}
use Rattle.program_log.specs.Proving.{IsLogRefusal}

-- an answer that is not that the log is accepted
abbrev pub IsOther : Checked → Encoded → List ℕ → LogAnswer → Type 0
IsOther p x text a = IsAnswerFor p x text a × ((n : ℕ) → a ≢ Accepted n)

-- ---- heads

pub written_head : (h : Head) (log : AnyLog) → (written h log).head ≡ h
written_head h (Plain log) = refl
written_head h (Hinted log) = refl

-- the text with another head whose lines read the same
pub with_head : (w : Written) (h : Head) (text : List ℕ) → head_lines w.head ≡ head_lines h → HasHead h → Spells false w text → Spells false (record w { head = h }) text
with_head w h text same can s = record {
  writable = record { head = can; few = s.writable.few; in_turn = s.writable.in_turn; rows = s.writable.rows };
  format = s.format;
  spelled = s.spelled ∙ ap (λ (ls : List (List ℕ)). text_of (first_line w.hinted ∷ (ls ++ (map (row_line w.hinted) w.rows ++ last_line ∷ [])))) same;
}

pub same_head : (theirs ours : Head) (log : AnyLog) (text : List ℕ) → head_lines theirs ≡ head_lines ours → HasHead ours → Spells false (written theirs log) text → Spells false (written ours log) text
same_head theirs ours (Plain log) text same can s = with_head (written theirs (Plain log)) ours text same can s
same_head theirs ours (Hinted h) text same can s = with_head (written theirs (Hinted h)) ours text same can s

-- no line differs
pub no_other : (theirs ours : List (List ℕ)) (o : Option OtherLine) → IsCompared theirs ours o → ((x : OtherLine) → o ≡ Some x → ⊥) → theirs ≡ ours
no_other theirs ours None h not = h
no_other theirs ours (Some x) h not = absurd (not x refl)

pub other_heads : (p : Checked) (x : Encoded) (theirs : Head) (log : AnyLog) (text : List ℕ) (o : OtherLine) (a : LogAnswer)
    → FirstOther (head_lines theirs) (head_lines (head_of p x)) o.place o.theirs o.ours → a ≡ OtherProblem (o.place + 2) o.theirs o.ours → Spells false (written theirs log) text → IsOther p x text a
other_heads p x theirs log text o a first is s =
    let at : FirstOther (head_lines (written theirs log).head) (head_lines (head_of p x)) o.place o.theirs o.ours =
    subst (λ (h : Head). FirstOther (head_lines h) (head_lines (head_of p x)) o.place o.theirs o.ours) (sym (written_head theirs log)) first in
    (subst (IsAnswerFor p x text) (sym is) (other_problem (written theirs log) o.place o.theirs o.ours s at), λ n e. cc)

-- ---- refusals

plain_fails : (q : Problem) (es : List Entry) (r : Refusal) → IsRefusal q es r → r ≢ refusal.OutOfMemory → Fails q es r
plain_fails q es (refusal.BadNumber t v) h not = h
plain_fails q es (refusal.NotImplied t reached) h not = h
plain_fails q es (refusal.BadHint t n) h not = h
plain_fails q es (refusal.NoCycle t local global) h not = h
plain_fails q es (refusal.NoEmpty n) h not = h
plain_fails q es refusal.OutOfMemory h not = absurd (not refl)

hinted_fails : (q : Problem) (es : List Entry) (hs : List (List Hint)) (r : Refusal) → IsHintedRefusal q es hs r → r ≢ refusal.OutOfMemory → HintedFails q es hs r
hinted_fails q es hs (refusal.BadNumber t v) h not = h
hinted_fails q es hs (refusal.NotImplied t reached) h not = h
hinted_fails q es hs (refusal.BadHint t n) h not = h
hinted_fails q es hs (refusal.NoCycle t local global) h not = h
hinted_fails q es hs (refusal.NoEmpty n) h not = h
hinted_fails q es hs refusal.OutOfMemory h not = absurd (not refl)

log_fails : (q : Problem) (log : AnyLog) (r : Refusal) → IsLogRefusal q log r → r ≢ refusal.OutOfMemory → LogFails q log r
log_fails q (Plain log) r h not = plain_fails q log.entries r h not
log_fails q (Hinted l) r h not = hinted_fails q l.log.entries l.hints r h not

pub refused_log : (p : Checked) (x : Encoded) (log : AnyLog) (text : List ℕ) (r : Refusal) (a : LogAnswer) → IsLogRefusal x.problem log r → r ≢ refusal.OutOfMemory → a ≡ Refused r → IsLogText p x log text → IsOther p x text a
refused_log p x log text r a h not is s = (subst (IsAnswerFor p x text) (sym is) (refused log r s (log_fails x.problem log r h not)), λ n e. cc)

pub bad_text : (p : Checked) (x : Encoded) (text : List ℕ) (line : ℕ) → Refuses (Spells false) text line → IsOther p x text (BadLog line)
bad_text p x text line r = (bad_log line r, λ n e. cc)
