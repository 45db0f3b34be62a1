-- Logs as what a text tells, and back.
use Rattle.std.proofs.Common.{◌≡◌, ℕ, zero, suc, ◌+◌, ◌^◌, ◌<◌, ◌≤◌, Bool, true, false, List, [], ◌∷◌, ◌++◌, length, drop, get_or, Some, refl, ap, sym, ◌∙◌, subst, append_assoc, length-append, arith}
use Rattle.std.specs.Prelude.{slice_get, slice_index_or, All}
use Rattle.std.specs.List.{AllByRecursion}
use Rattle.std.proofs.lemmas.List.Elements.{All-from_recursion, recursion_from_All}
use Rattle.dg_base.specs.declared.Lit.{Lit}
use Rattle.cnf_problem.specs.Literals.{IsOver, var}
use Rattle.cnf_problem.specs.declared.problem.Head.{Head}
use Rattle.cnf_problem.specs.declared.problem.LemmaKind.{LemmaKind}
use Rattle.cnf_problem.specs.declared.problem.LemmaKind.TheVariants.{Unit as ByUnit, Cycle}
use Rattle.lemma_log.specs.Hinting.{AreHintsFor}
use Rattle.lemma_log.specs.Tickets.{AreInOrder}
use Rattle.lemma_log.specs.declared.Entry.{Entry}
use Rattle.lemma_log.specs.declared.hints.Hint.{Hint}
use Rattle.lemma_log.specs.declared.hints.Hint.TheVariants.{Clause, Ticket}
use Rattle.lemma_log.specs.declared.hints.AnyLog.TheVariants.{Plain, Hinted}
use Rattle.lemma_log.specs.declared.Log.{Log}
use Rattle.lemma_log.specs.declared.hints.HintedEntry.{HintedEntry}
use Rattle.lemma_log.specs.declared.hints.HintedLog.{HintedLog}
use Rattle.log_text.specs.declared.stage.HeadLine.TheVariants.{Unroll, Vars, Clauses, Nodes, Atoms}
use Rattle.log_text.specs.Formats.{Row, Written, log_text}
use Rattle.log_text.specs.Laws.{ReadCanBePrinted}
use Rattle.log_text.specs.Numbers.{HasHeadNumbers, HasRowNumbers, IsHintNumber}
use Rattle.log_text.specs.Spelling.{AreHintsWritable, AreInTurn, HasHead, IsEntryWritable, IsHintFromOne, IsHintWritten, IsLogWritable, IsRowWritten, Spells, hinted_rows, plain_rows, row_of, rows_of, written}

-- ---- entries and rows

pub rows_len : (es : List Entry) (hs : List (List Hint)) → length (hinted_rows es hs) ≡ length es
rows_len [] hs = refl
rows_len (e ∷ es) [] = let h = rows_len es [] in omega arith
rows_len (e ∷ es) (h ∷ hs) = let k = rows_len es hs in omega arith

pub rows_push : (es : List Entry) (hs : List (List Hint)) (e : Entry) (h : List Hint) → length hs ≡ length es → hinted_rows (es ++ e ∷ []) (hs ++ h ∷ []) ≡ hinted_rows es hs ++ row_of e h ∷ []
rows_push [] [] e h same = refl
rows_push [] (k ∷ hs) e h same = absurd (omega arith)
rows_push (d ∷ es) [] e h same = absurd (omega arith)
rows_push (d ∷ es) (k ∷ hs) e h same = ap (λ l. row_of d k ∷ l) (rows_push es hs e h (omega arith))

-- without hints
pub rows_plain : (es : List Entry) → hinted_rows es [] ≡ plain_rows es
rows_plain [] = refl
rows_plain (e ∷ es) = ap (λ l. row_of e [] ∷ l) (rows_plain es)

pub written_plain : (es : List Entry) (hs : List (List Hint)) → AllByRecursion (IsRowWritten false) (hinted_rows es hs) → hinted_rows es hs ≡ plain_rows es
written_plain [] hs h = refl
written_plain (e ∷ es) [] h = ap (λ l. row_of e [] ∷ l) (written_plain es [] h.1)
written_plain (e ∷ es) (k ∷ hs) h =
    let none : k ≡ [] = (h.0).plain refl in
    ap (λ l. row_of e k ∷ l) (written_plain es hs h.1) ∙ ap (λ l. row_of e l ∷ plain_rows es) none

drop_nil : (n : ℕ) → drop {A = List Hint} n [] ≡ []
drop_nil zero = refl
drop_nil (suc n) = refl

-- the entries from this place on
pub rows_at : (es : List Entry) (hs : List (List Hint)) (at : ℕ) (e : Entry) → at < length es → e ≡ get_or es at e → hinted_rows (drop at es) (drop at hs) ≡ row_of e (slice_index_or hs at []) ∷ hinted_rows (drop (suc at) es) (drop (suc at) hs)
rows_at [] hs at e within is = absurd (omega arith)
rows_at (d ∷ es) [] zero e within is = ap (λ x. row_of x [] ∷ hinted_rows es []) (sym is)
rows_at (d ∷ es) (h ∷ hs) zero e within is = ap (λ x. row_of x h ∷ hinted_rows es hs) (sym is)
rows_at (d ∷ es) [] (suc at) e within is = ap (λ l. hinted_rows (drop at es) l) (sym (drop_nil at)) ∙ rows_at es [] at e (omega arith) is
rows_at (d ∷ es) (h ∷ hs) (suc at) e within is = rows_at es hs at e (omega arith) is

-- ---- from a text to a log

ticket_at : (n : ℕ) (es : List Entry) (hs : List (List Hint)) → AreInTurn n (hinted_rows es hs) → (k : ℕ) (e : Entry) → slice_get es k ≡ Some e → e.ticket ≡ n + k
ticket_at n [] hs h k e g = cc
ticket_at n (d ∷ es) [] h zero e g = let same : d ≡ e = cc in subst (λ (x : Entry). x.ticket ≡ n + 0) same (h.0 ∙ omega arith)
ticket_at n (d ∷ es) (x ∷ hs) h zero e g = let same : d ≡ e = cc in subst (λ (y : Entry). y.ticket ≡ n + 0) same (h.0 ∙ omega arith)
ticket_at n (d ∷ es) [] h (suc k) e g = ticket_at (n + 1) es [] h.1 k e g ∙ omega arith
ticket_at n (d ∷ es) (x ∷ hs) h (suc k) e g = ticket_at (n + 1) es hs h.1 k e g ∙ omega arith

pub in_order : (es : List Entry) (hs : List (List Hint)) → AreInTurn 0 (hinted_rows es hs) → length (hinted_rows es hs) < 2 ^ 32 → AreInOrder es
in_order es hs h few = record { few = omega (arith, rows_len es hs); each = λ k e g. ticket_at 0 es hs h k e g ∙ omega arith }

none_for_cycle : (hinted : Bool) (es : List Entry) (hs : List (List Hint)) → AllByRecursion (IsRowWritten hinted) (hinted_rows es hs) → (k : ℕ) (e : Entry) (x : List Hint) → slice_get es k ≡ Some e → slice_get hs k ≡ Some x → e.lemma.kind ≡ Cycle → x ≡ []
none_for_cycle hinted [] hs h k e x f g c = cc
none_for_cycle hinted (d ∷ es) [] h k e x f g c = cc
none_for_cycle hinted (d ∷ es) (y ∷ hs) h zero e x f g c =
    let first : d ≡ e = cc in
    let second : y ≡ x = cc in
    sym second ∙ (h.0).cycle (ap (λ (z : Entry). z.lemma.kind) first ∙ c)
none_for_cycle hinted (d ∷ es) (y ∷ hs) h (suc k) e x f g c = none_for_cycle hinted es hs h.1 k e x f g c

pub hints_for : (hinted : Bool) (es : List Entry) (hs : List (List Hint)) → length hs ≡ length es → AllByRecursion (IsRowWritten hinted) (hinted_rows es hs) → AreHintsFor es hs
hints_for hinted es hs same h = record { one_each = same; none_for_cycles = none_for_cycle hinted es hs h }

-- ---- from a log to a text

turn_from : (n : ℕ) (es : List Entry) (hs : List (List Hint)) → ((k : ℕ) (e : Entry) → slice_get es k ≡ Some e → e.ticket ≡ n + k) → AreInTurn n (hinted_rows es hs)
turn_from n [] hs h = tt
turn_from n (e ∷ es) [] h = (h 0 e refl ∙ omega arith, turn_from (n + 1) es [] (λ k d g. h (suc k) d g ∙ omega arith))
turn_from n (e ∷ es) (x ∷ hs) h = (h 0 e refl ∙ omega arith, turn_from (n + 1) es hs (λ k d g. h (suc k) d g ∙ omega arith))

pub in_turn : (es : List Entry) (hs : List (List Hint)) → AreInOrder es → AreInTurn 0 (hinted_rows es hs)
in_turn es hs h = turn_from 0 es hs (λ k e g. h.each k e g ∙ omega arith)

lits_over : (ls : List Lit) → AllByRecursion (λ l. 1 ≤ var l) ls → AllByRecursion (λ l. var l ≤ 2147483647) ls → AllByRecursion (IsOver 2147483647) ls
lits_over [] low high = tt
lits_over (l ∷ ls) low high = ((low.0, high.0), lits_over ls low.1 high.1)

hint_written : (h : Hint) → IsHintFromOne h → IsHintNumber h → IsHintWritten h
hint_written (Clause n) low number = (low, number)
hint_written (Ticket n) low number = number

hints_written : (hs : List Hint) → AllByRecursion IsHintFromOne hs → AllByRecursion IsHintNumber hs → AllByRecursion IsHintWritten hs
hints_written [] low number = tt
hints_written (h ∷ hs) low number = (hint_written h low.0 number.0, hints_written hs low.1 number.1)

row_written : (hinted : Bool) (e : Entry) (hints : List Hint) → IsEntryWritable e → AllByRecursion IsHintFromOne hints → (hinted ≡ false → hints ≡ []) → (e.lemma.kind ≡ Cycle → hints ≡ []) → HasRowNumbers hinted (row_of e hints) → IsRowWritten hinted (row_of e hints)
row_written hinted e hints can low plain cycle numbers = record {
  worker = can.worker;
  literals = lits_over e.lemma.lits (recursion_from_All (λ l. 1 ≤ var l) e.lemma.lits can.variables) numbers.lits;
  rising = e.lemma.rising;
  hints = written hinted refl e.lemma.kind refl;
  plain = plain;
  cycle = cycle;
}
  where
    written : (b : Bool) → hinted ≡ b → (k : LemmaKind) → e.lemma.kind ≡ k → AllByRecursion IsHintWritten hints
    written false f k g = subst (AllByRecursion IsHintWritten) (sym (plain f)) tt
    written true f Cycle g = subst (AllByRecursion IsHintWritten) (sym (cycle g)) tt
    written true f ByUnit g = hints_written hints low (numbers.hints f g)

pub plain_written : (es : List Entry) → AllByRecursion IsEntryWritable es → AllByRecursion (HasRowNumbers false) (hinted_rows es []) → AllByRecursion (IsRowWritten false) (hinted_rows es [])
plain_written [] can numbers = tt
plain_written (e ∷ es) can numbers = (row_written false e [] can.0 tt (λ _. refl) (λ _. refl) numbers.0, plain_written es can.1 numbers.1)

pub hinted_written : (es : List Entry) (hs : List (List Hint)) → AllByRecursion IsEntryWritable es → AllByRecursion (All IsHintFromOne) hs → AreHintsFor es hs → AllByRecursion (HasRowNumbers true) (hinted_rows es hs) → AllByRecursion (IsRowWritten true) (hinted_rows es hs)
hinted_written [] hs can low fits numbers = tt
hinted_written (e ∷ es) [] can low fits numbers = let same = fits.one_each in absurd (omega arith)
hinted_written (e ∷ es) (h ∷ hs) can low fits numbers =
    let behind : AreHintsFor es hs = record { one_each = (let same = fits.one_each in omega arith); none_for_cycles = λ k d x f g c. fits.none_for_cycles (suc k) d x f g c } in
    (row_written true e h can.0 (recursion_from_All IsHintFromOne h low.0) (λ f. cc) (fits.none_for_cycles 0 e h refl refl) numbers.0, hinted_written es hs can.1 low.1 behind numbers.1)

head_good : (h : Head) → h.model ≤ 2 → HasHeadNumbers h → HasHead h
head_good h model numbers = record { model = model; unroll = numbers Unroll; vars = numbers Vars; clauses = numbers Clauses; nodes = numbers Nodes; atoms = numbers Atoms }

pub spells_plain : (head : Head) (log : Log) (text : List ℕ) → IsLogWritable head log.entries → HasHeadNumbers head → AllByRecursion (HasRowNumbers false) (hinted_rows log.entries [])
    → text ≡ log_text (record { hinted = false; head = head; rows = hinted_rows log.entries [] }) → Spells true (written head (Plain log)) text
spells_plain head log text can numbers rows e =
    let entries = log.entries in
    let few = (log.in_order).few in
    let same = rows_plain entries in
    let good = plain_written entries (recursion_from_All IsEntryWritable entries can.entries_can) rows in
    let w : Written = record { hinted = false; head = head; rows = hinted_rows entries [] } in
    let spelled : Spells true w text = record {
      writable = record { head = head_good head can.model numbers; few = omega (arith, rows_len entries [], few); in_turn = in_turn entries [] log.in_order; rows = good };
      format = λ _. refl;
      spelled = e;
    } in
    subst (λ (rs : List Row). Spells true (record { hinted = false; head = head; rows = rs }) text) same spelled

pub spells_hinted : (head : Head) (h : HintedLog) (text : List ℕ) → IsLogWritable head h.log.entries → AreHintsWritable h.hints → HasHeadNumbers head → AllByRecursion (HasRowNumbers true) (hinted_rows h.log.entries h.hints)
    → text ≡ log_text (record { hinted = true; head = head; rows = hinted_rows h.log.entries h.hints }) → Spells false (written head (Hinted h)) text
spells_hinted head h text can low numbers rows e =
    let entries = h.log.entries in
    let few = (h.log.in_order).few in
    record {
      writable = record {
        head = head_good head can.model numbers;
        few = omega (arith, rows_len entries h.hints, few);
        in_turn = in_turn entries h.hints h.log.in_order;
        rows = hinted_written entries h.hints (recursion_from_All IsEntryWritable entries can.entries_can) (recursion_from_All (All IsHintFromOne) h.hints low) h.matched rows;
      };
      format = λ n. cc;
      spelled = e;
    }

-- ---- what was read can be printed

from_one : (ls : List Lit) → AllByRecursion (IsOver 2147483647) ls → AllByRecursion (λ l. 1 ≤ var l) ls
from_one [] h = tt
from_one (l ∷ ls) h = (h.0.0, from_one ls h.1)

entry_writable : (hinted : Bool) (e : Entry) (hints : List Hint) → IsRowWritten hinted (row_of e hints) → IsEntryWritable e
entry_writable hinted e hints h = record { worker = h.worker; variables = All-from_recursion (λ l. 1 ≤ var l) e.lemma.lits (from_one e.lemma.lits h.literals) }

entries_writable : (hinted : Bool) (es : List Entry) (hs : List (List Hint)) → AllByRecursion (IsRowWritten hinted) (hinted_rows es hs) → AllByRecursion IsEntryWritable es
entries_writable hinted [] hs h = tt
entries_writable hinted (e ∷ es) [] h = (entry_writable hinted e [] h.0, entries_writable hinted es [] h.1)
entries_writable hinted (e ∷ es) (x ∷ hs) h = (entry_writable hinted e x h.0, entries_writable hinted es hs h.1)

hint_from_one : (h : Hint) → IsHintWritten h → IsHintFromOne h
hint_from_one (Clause n) h = h.0
hint_from_one (Ticket n) h = tt

list_from_one : (hs : List Hint) → AllByRecursion IsHintWritten hs → AllByRecursion IsHintFromOne hs
list_from_one [] h = tt
list_from_one (x ∷ hs) h = (hint_from_one x h.0, list_from_one hs h.1)

hints_writable : (hinted : Bool) (es : List Entry) (hs : List (List Hint)) → length hs ≡ length es → AllByRecursion (IsRowWritten hinted) (hinted_rows es hs) → AllByRecursion (All IsHintFromOne) hs
hints_writable hinted es [] same h = tt
hints_writable hinted [] (x ∷ hs) same h = absurd (omega arith)
hints_writable hinted (e ∷ es) (x ∷ hs) same h = (All-from_recursion IsHintFromOne x (list_from_one x (h.0).hints), hints_writable hinted es hs (omega arith) h.1)

pub read_can_be_printed : ReadCanBePrinted
read_can_be_printed b head (Plain log) text s =
    let rows = subst (AllByRecursion (IsRowWritten false)) (sym (rows_plain log.entries)) (s.writable.rows) in
    record { model = (s.writable).head.model; entries_can = All-from_recursion IsEntryWritable log.entries (entries_writable false log.entries [] rows) }
read_can_be_printed b head (Hinted h) text s =
    let entries = h.log.entries in (
      record { model = (s.writable).head.model; entries_can = All-from_recursion IsEntryWritable entries (entries_writable true entries h.hints s.writable.rows) },
      All-from_recursion (All IsHintFromOne) h.hints (hints_writable true entries h.hints h.matched.one_each s.writable.rows),
    )

-- ---- entries that are taken in turn

pub take_turn : (es : List Entry) (hs : List (List Hint)) (e : Entry) (h : List Hint) (ready rest : List HintedEntry) (all : List Row) → length hs ≡ length es → ready ≡ record { entry = e; hints = h } ∷ rest → hinted_rows es hs ++ rows_of ready ≡ all
    → hinted_rows (es ++ e ∷ []) (hs ++ h ∷ []) ++ rows_of rest ≡ all
take_turn es hs e h ready rest all same is was =
    ap (λ l. l ++ rows_of rest) (rows_push es hs e h same) ∙ (append_assoc (hinted_rows es hs) (row_of e h ∷ []) (rows_of rest) ∙ (ap (λ l. hinted_rows es hs ++ rows_of l) (sym is) ∙ was))

pub one_more_each : (es : List Entry) (hs : List (List Hint)) (e : Entry) (h : List Hint) → length hs ≡ length es → length (hs ++ h ∷ []) ≡ length (es ++ e ∷ [])
one_more_each es hs e h same =
    let left : length (hs ++ h ∷ []) ≡ length hs + 1 = length-append hs (h ∷ []) in
    let right : length (es ++ e ∷ []) ≡ length es + 1 = length-append es (e ∷ []) in
    omega (arith, left, right, same)

-- what a text without hints tells
pub plain_told : (b : Bool) (head : Head) (hinted : Bool) (es : List Entry) (hs : List (List Hint)) (text : List ℕ) → hinted ≡ false → Spells b (record { hinted = hinted; head = head; rows = hinted_rows es hs }) text
    → Spells b (record { hinted = false; head = head; rows = plain_rows es }) text
plain_told b head hinted es hs text e s =
    let plain = subst (λ (h : Bool). Spells b (record { hinted = h; head = head; rows = hinted_rows es hs }) text) e s in
    subst (λ (rs : List Row). Spells b (record { hinted = false; head = head; rows = rs }) text) (written_plain es hs plain.writable.rows) plain
