-- The lines of a text hold no line feed, where the names in them are plain.
use Rattle.std.proofs.Common.{◌≡◌, ℕ, suc, zero, ◌+◌, true, Bool, false, cond, eqb, List, [], ◌∷◌, ◌++◌, map, refl, ap, sym, ◌∙◌, arith}
use Rattle.std.specs.Prelude.{flat_map, decimal}
use Rattle.std.specs.List.{AllByRecursion}
use Rattle.axiom_model.specs.declared.Event.{Event}
use Rattle.axiom_model.specs.declared.RfPair.{RfPair}
use Rattle.axiom_model.specs.declared.ThreadPart.{ThreadPart}
use Rattle.axiom_model.specs.declared.Candidate.{Candidate}
use Rattle.c_check.specs.PlainNames.{HasPlainNames}
use Rattle.c_check.specs.PlainNames as plain
use Rattle.c_check.proofs.PlainNames.{all_append, all_map}
use Rattle.line_text.specs.Words.{lacks, shown}
use Rattle.line_text.specs.Lines.{IsLine}
use Rattle.line_text.proofs.Bytes.{lacks_append}
use Rattle.line_text.proofs.Digits.{decimal_lacks}
use Rattle.witness_text.specs.Witness.{co_line, co_lines, event_text, events_text, last_line, name_at, rf_line, script_line, thread_line, thread_lines, witness_lines}
use Rattle.witness_text.specs.Spelling.{HasEventNumbers, HasNumbers, HasPairNumbers, HasThreadNumbers, IsNumber}
use Rattle.witness_text.proofs.Spelled.{event_lacks}

-- one definition of a missing byte is the other
same_lack : (b : ℕ) (x : List ℕ) → plain.lacks b x ≡ lacks b x
same_lack b [] = refl
same_lack b (c ∷ x) = ap (λ rest. cond (eqb c b) false rest) (same_lack b x)

pub all_lack : (b : ℕ) (names : List (List ℕ)) → AllByRecursion (λ name. plain.lacks b name ≡ true) names → AllByRecursion (λ name. lacks b name ≡ true) names
all_lack b [] h = tt
all_lack b (name ∷ names) h = (sym (same_lack b name) ∙ h.0, all_lack b names h.1)

name_plain : (names : List (List ℕ)) (i : ℕ) → AllByRecursion IsLine names → IsLine (name_at names i)
name_plain [] i h = refl
name_plain (n ∷ names) zero h = h.0
name_plain (n ∷ names) (suc i) h = name_plain names i h.1

shown_plain : {A : Type 0} (show : A → List ℕ) (vs : List A) → AllByRecursion (λ v. IsLine (show v)) vs → IsLine (shown show vs)
shown_plain show [] h = refl
shown_plain show (v ∷ vs) h = lacks_append 10 (show v) (shown show vs) h.0 (shown_plain show vs h.1)

event_plain : (e : Event) → HasEventNumbers e → IsLine (event_text e)
event_plain e h = event_lacks 10 e (omega arith) refl h

decimal_plain : (n : ℕ) → IsNumber n → IsLine (decimal n)
decimal_plain n h = decimal_lacks 10 n (omega arith) h

threads_plain : (fs : List (List ℕ)) → AllByRecursion IsLine fs → (ps : List ThreadPart) → AllByRecursion HasThreadNumbers ps → AllByRecursion IsLine (flat_map (thread_lines fs) ps)
threads_plain fs names [] h = tt
threads_plain fs names (p ∷ ps) h =
    let n = h.0 in
    let arg : IsLine (32 ∷ decimal p.arg) = decimal_plain p.arg n.arg in
    let behind : IsLine (32 ∷ (name_at fs p.function ++ 32 ∷ decimal p.arg)) = lacks_append 10 (name_at fs p.function) (32 ∷ decimal p.arg) (name_plain fs p.function names) arg in
    let first : IsLine (thread_line fs p.handle p.function p.arg) = lacks_append 10 (decimal p.handle) (32 ∷ (name_at fs p.function ++ 32 ∷ decimal p.arg)) (decimal_plain p.handle n.handle) behind in
    let script : IsLine (script_line p.script) = shown_plain decimal p.script (all_map IsNumber (λ v. IsLine (decimal v)) p.script decimal_plain n.script) in
    (first, (script, threads_plain fs names ps h.1))

pairs_plain : (ps : List RfPair) → AllByRecursion HasPairNumbers ps → AllByRecursion IsLine (map rf_line ps)
pairs_plain [] h = tt
pairs_plain (p ∷ ps) h =
    let line : IsLine (rf_line p) = lacks_append 10 (event_text p.reader) (32 ∷ event_text p.source) (event_plain p.reader h.0.0) (event_plain p.source h.0.1) in
    (line, pairs_plain ps h.1)

orders_plain : (cs : List (List ℕ)) → AllByRecursion IsLine cs → (i : ℕ) (os : List (List Event)) → AllByRecursion (AllByRecursion HasEventNumbers) os → AllByRecursion IsLine (co_lines cs i os)
orders_plain cs names i [] h = tt
orders_plain cs names i (es ∷ os) h =
    let line : IsLine (co_line (name_at cs i) es) =
    lacks_append 10 (name_at cs i) (events_text es) (name_plain cs i names) (shown_plain event_text es (all_map HasEventNumbers (λ e. IsLine (event_text e)) es event_plain h.0)) in
    (line, orders_plain cs names (i + 1) os h.1)

pub lines_plain : (fs cs : List (List ℕ)) (c : Candidate) → HasPlainNames fs cs → HasNumbers c → AllByRecursion IsLine (witness_lines fs cs c)
lines_plain fs cs c names n =
    let orders = co_lines cs 0 c.co ++ last_line ∷ [] in (
      refl,
      all_append IsLine (flat_map (thread_lines fs) c.threads) (map rf_line c.rf ++ orders) (threads_plain fs (all_lack 10 fs names.no_feed) c.threads n.threads)
          (all_append IsLine (map rf_line c.rf) orders (pairs_plain c.rf n.rf) (all_append IsLine (co_lines cs 0 c.co) (last_line ∷ []) (orders_plain cs (all_lack 10 cs names.no_feed_in_cells) 0 c.co n.co) (refl, tt))),
    )
