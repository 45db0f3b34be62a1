-- A reader between pieces.
use Rattle.std.proofs.Common.{◌≡◌, ◌≢◌, ℕ, ◌+◌, ◌≤◌, min, List, [], ◌∷◌, ◌++◌, length, Bool, true, false, Option, Some, None, Ok, Err, refl, ap, sym, ◌∙◌, subst, append_assoc, append-nil, length-append, arith}
use Rattle.std.specs.Prelude.{IfErr, MatchOption, OnOk, Result, is_some, unwrap_or}
use Rattle.std.specs.List.{AllByRecursion}
use Rattle.line_text.specs.Words.{Cut, cut, given}
use Rattle.line_text.specs.Lines.{BeginsWhole, IsLine, Refuses, RefusesLines, text_of}
use Rattle.line_text.proofs.Bytes.{cut_at, cut_lacking, lacking_cut, lacks_append}
use Rattle.line_text.proofs.Reading.{Reached, Reader, longest_before, longest_end, longest_more, reached_fed, reached_start, read_end, refused_end, refused_run, run, run_append}
use Rattle.line_text.proofs.Texts.{text_of_append}
use Rattle.cnf_problem.specs.declared.problem.Head.{Head}
use Rattle.lemma_log.specs.declared.hints.HintedEntry.{HintedEntry}
use Rattle.log_text.specs.declared.stage.Stage.{Stage}
use Rattle.log_text.specs.declared.stage.Stage.TheVariants.{Format, InHead, Body, End}
use Rattle.log_text.specs.declared.reading.LogFault.{LogFault}
use Rattle.log_text.specs.declared.reading.LogFault.TheVariants.{LogText, OutOfMemory as NoMemory}
use Rattle.log_text.specs.Faults.{IsFaultOf, IsFaultOfLines, IsKept}
use Rattle.log_text.specs.Fed.{GoesOn, HasRead, HasReadOn, ReaderView, StopsThere, Tells}
use Rattle.log_text.specs.Formats.{Row, Written}
use Rattle.log_text.specs.Machine.{Reading, Step, has_ended, head_of, hinted_of, no_head, read_line, read_lines, start, step, with_row}
use Rattle.log_text.specs.Spelling.{Spells, rows_of}
use Rattle.log_text.proofs.Listed.{all_append}
use Rattle.log_text.proofs.Spelled.{machine, reads_logs, run_is, value_at, value_of}

-- ---- runs over several lines

-- several lines more were read
pub reached_lines : {V S : Type 0} (m : Reader V S) (text : List ℕ) (lines : List (List ℕ)) (rest : List ℕ) (s t : S) (n k : ℕ) → Reached m text (text_of lines ++ rest) s n → AllByRecursion IsLine lines → run m s lines ≡ Some t
    → k ≡ min (n + length lines) 4294967295 → Reached m text rest t k
reached_lines m text lines rest s t n k h whole ran number =
    let was = h.number_is in
    let long : length (h.lines ++ lines) ≡ length h.lines + length lines = length-append h.lines lines in
    record {
      lines = h.lines ++ lines;
      all = h.all ∙ (sym (append_assoc (text_of h.lines) (text_of lines) rest) ∙ ap (λ l. l ++ rest) (sym (text_of_append h.lines lines)));
      whole = all_append IsLine h.lines lines h.whole whole;
      ran = run_append m m.start h.lines lines ∙ (ap (λ o. given o (λ u. run m u lines)) h.ran ∙ ran);
      number_is = omega (arith, long, was, number);
    }

-- entries that were read before stay in front
row_front : (front rows : List Row) (o : Option Row) → with_row (front ++ rows) o ≡ front ++ with_row rows o
row_front front rows None = refl
row_front front rows (Some r) = append_assoc front rows (r ∷ [])

line_front : (front rows : List Row) (s : Stage) (line : List ℕ) (t : Reading) → read_line (record { stage = s; rows = rows }) line ≡ Some t → read_line (record { stage = s; rows = front ++ rows }) line ≡ Some (record { stage = t.stage; rows = front ++ t.rows })
line_front front rows s line t = split (step s line)
  where
    split : (o : Option Step) → given o (λ (u : Step). let r : Reading = record { stage = u.stage; rows = with_row rows u.gives } in Some r) ≡ Some t
        → given o (λ (u : Step). let r : Reading = record { stage = u.stage; rows = with_row (front ++ rows) u.gives } in Some r) ≡ Some (record { stage = t.stage; rows = front ++ t.rows })
    split None e = cc
    split (Some u) e =
        let now : Reading = record { stage = u.stage; rows = with_row rows u.gives } in
        let same : now ≡ t = cc in
        ap (λ (l : List Row). let r : Reading = record { stage = u.stage; rows = l } in Some r) (row_front front rows u.gives) ∙ ap (λ (g : Reading). let r : Reading = record { stage = g.stage; rows = front ++ g.rows } in Some r) same

lines_front : (front : List Row) (lines : List (List ℕ)) (g t : Reading) → read_lines g lines ≡ Some t → read_lines (record { stage = g.stage; rows = front ++ g.rows }) lines ≡ Some (record { stage = t.stage; rows = front ++ t.rows })
lines_front front [] g t e =
    let same : g ≡ t = cc in
    ap (λ (u : Reading). let r : Reading = record { stage = u.stage; rows = front ++ u.rows } in Some r) same
lines_front front (line ∷ lines) g t e = split (read_line g line) refl e (lines_front front lines)
  where
    split : (o : Option Reading) → read_line g line ≡ o → given o (λ u. read_lines u lines) ≡ Some t
        → ((u v : Reading) → read_lines u lines ≡ Some v → read_lines (record { stage = u.stage; rows = front ++ u.rows }) lines ≡ Some (record { stage = v.stage; rows = front ++ v.rows }))
        → read_lines (record { stage = g.stage; rows = front ++ g.rows }) (line ∷ lines) ≡ Some (record { stage = t.stage; rows = front ++ t.rows })
    split None k f more = cc
    split (Some u) k f more = ap (λ (o : Option Reading). given o (λ v. read_lines v lines)) (line_front front g.rows g.stage line u k) ∙ more u t f

rows_append : (a b : List HintedEntry) → rows_of (a ++ b) ≡ rows_of a ++ rows_of b
rows_append [] b = refl
rows_append (x ∷ a) b = ap (λ l. rows_of (x ∷ []) ++ l) (rows_append a b)

-- ---- what a reader has read

-- where it is, with the entries that were given
abbrev reading_of : ReaderView → List Row → Reading
reading_of r given_rows = record { stage = r.stage; rows = given_rows ++ rows_of r.ready }

reached_of : (b : Bool) (r : ReaderView) (fed : List ℕ) (rows : List Row) → (h : HasRead b r fed rows) → Reached (machine b) fed h.rest (reading_of r rows) r.number
reached_of b r fed rows h =
    let all = h.run in
    record { lines = h.lines; all = all.all; whole = all.whole; ran = run_is b (start b) h.lines ∙ h.read; number_is = h.number }

read_whole : (b : Bool) (r : ReaderView) (fed : List ℕ) (rows : List Row) (rest : List ℕ) → Reached (machine b) fed rest (reading_of r rows) r.number → r.fault ≡ None → r.held ≡ rest → IsLine rest → HasRead b r fed rows
read_whole b r fed rows rest h none held plain = record {
  lines = h.lines;
  rest = rest;
  run = longest_end (machine b) (Spells b) fed rest (reading_of r rows) r.number (reads_logs b) h (cut_lacking 10 rest plain);
  read = sym (run_is b (start b) h.lines) ∙ h.ran;
  number = h.number_is;
  held = λ _. (held, plain);
  fault = λ line e. let no : None ≡ Some line = sym none ∙ e in cc;
}

stops_reading : (r : ReaderView) (rows : List Row) (line : List ℕ) → step r.stage line ≡ None → read_line (reading_of r rows) line ≡ None
stops_reading r rows line e = ap (λ (o : Option Step). given o (λ (u : Step). let t : Reading = record { stage = u.stage; rows = with_row (rows ++ rows_of r.ready) u.gives } in Some t)) e

read_stopped : (b : Bool) (r : ReaderView) (fed : List ℕ) (rows : List Row) (rest : List ℕ) → Reached (machine b) fed rest (reading_of r rows) r.number → (line : ℕ) → r.fault ≡ Some line → line ≡ r.number → GoesOn rest → StopsThere r.stage rest → HasRead b r fed rows
read_stopped b r fed rows rest h line some number on stop =
    let p : Cut = record { front = on.next; behind = on.more } in
    let here : cut 10 rest ≡ Some p = ap (cut 10) on.goes_on ∙ cut_at 10 on.next on.more on.is_line in
    record {
      lines = h.lines;
      rest = rest;
      run = longest_before (machine b) (Spells b) fed rest (reading_of r rows) r.number p (reads_logs b) h here (stops_reading r rows p.front (stop p here));
      read = sym (run_is b (start b) h.lines) ∙ h.ran;
      number = h.number_is;
      held = λ none. let no : None ≡ Some line = sym none ∙ some in cc;
      fault = λ l e. let same : Some line ≡ Some l = sym some ∙ e in let is : line ≡ l = cc in (sym is ∙ number, on);
    }

pub begins_of : (b : Bool) (r : ReaderView) (fed : List ℕ) (rows : List Row) → HasRead b r fed rows → r.fault ≡ None → BeginsWhole (Spells b) fed
begins_of b r fed rows h none =
    let all = h.run in
    record { lines = h.lines; rest = h.rest; all = all.all; whole = all.whole; last = (h.held none).1; begins = all.begins }

pub refused_of : (b : Bool) (r : ReaderView) (fed : List ℕ) (rows : List Row) (line : ℕ) → HasRead b r fed rows → r.fault ≡ Some line → RefusesLines (Spells b) fed line
refused_of b r fed rows line h some =
    let f = h.fault line some in
    let on = f.1 in
    refused_run (Spells b) fed h.lines h.rest on.next on.more line h.run on.is_line on.goes_on (f.0 ∙ h.number)

-- ---- one piece more

-- once it was refused
pub fed_refused : (b : Bool) (r : ReaderView) (fed piece : List ℕ) (rows : List Row) (line : ℕ) → r.fault ≡ Some line → HasRead b r fed rows → HasRead b r (fed ++ piece) rows
fed_refused b r fed piece rows line some h =
    let f = h.fault line some in
    let on = f.1 in
    record {
      lines = h.lines;
      rest = h.rest ++ piece;
      run = longest_more (Spells b) fed h.lines h.rest on.next on.more piece h.run on.is_line on.goes_on;
      read = h.read;
      number = h.number;
      held = λ none. let no : None ≡ Some line = sym none ∙ some in cc;
      fault = λ l e. ((h.fault l e).0, record { next = on.next; more = on.more ++ piece; is_line = on.is_line; goes_on = ap (λ x. x ++ piece) on.goes_on ∙ append_assoc on.next (10 ∷ on.more) piece });
    }

-- a piece without a line feed
pub fed_held : (b : Bool) (old new : ReaderView) (fed piece : List ℕ) (rows : List Row) → old.fault ≡ None → cut 10 piece ≡ None → new ≡ record old { held = old.held ++ piece } → HasRead b old fed rows → HasRead b new (fed ++ piece) rows
fed_held b old new fed piece rows none no_feed same h =
    let held = h.held none in
    let now : ReaderView = record old { held = old.held ++ piece } in
    let plain : IsLine (h.rest ++ piece) = lacks_append 10 h.rest piece held.1 (lacking_cut 10 piece no_feed) in
    let reached = reached_fed (machine b) fed h.rest piece (reading_of old rows) old.number (reached_of b old fed rows h) in
    subst (λ r. HasRead b r (fed ++ piece) rows) (sym same) (read_whole b now (fed ++ piece) rows (h.rest ++ piece) reached none (ap (λ x. x ++ piece) held.0) plain)

-- a piece with whole lines
pub fed_on : (b : Bool) (old new : ReaderView) (fed piece bytes : List ℕ) (rows : List Row) → old.fault ≡ None → bytes ≡ old.held ++ piece → HasReadOn old new bytes → HasRead b old fed rows → HasRead b new (fed ++ piece) rows
fed_on b old new fed piece bytes rows none are on h =
    let held = h.held none in
    let first = reached_fed (machine b) fed h.rest piece (reading_of old rows) old.number (reached_of b old fed rows h) in
    let was = h.number in
    let small : old.number ≤ 4294967295 = omega arith in
    let whole : h.rest ++ piece ≡ text_of on.lines ++ on.rest = ap (λ x. x ++ piece) (sym held.0) ∙ (sym are ∙ on.all) in
    let before = rows ++ rows_of old.ready in
    let ran = lines_front before on.lines (record { stage = old.stage; rows = [] }) (record { stage = new.stage; rows = rows_of on.fresh }) on.read in
    let all : before ++ rows_of on.fresh ≡ rows ++ rows_of new.ready = append_assoc rows (rows_of old.ready) (rows_of on.fresh) ∙ ap (λ l. rows ++ l) (sym (ap rows_of on.ready ∙ rows_append old.ready on.fresh)) in
    let from : reading_of old rows ≡ record { stage = old.stage; rows = before ++ [] } = ap (λ (l : List Row). let r : Reading = record { stage = old.stage; rows = l } in r) (sym (append-nil before)) in
    let into : Some (record { stage = new.stage; rows = before ++ rows_of on.fresh }) ≡ Some (reading_of new rows) = ap (λ (l : List Row). let r : Reading = record { stage = new.stage; rows = l } in Some r) all in
    let run_on : run (machine b) (reading_of old rows) on.lines ≡ Some (reading_of new rows) = run_is b (reading_of old rows) on.lines ∙ (ap (λ g. read_lines g on.lines) from ∙ (ran ∙ into)) in
    let reached = reached_lines (machine b) (fed ++ piece) on.lines on.rest (reading_of old rows) (reading_of new rows) old.number new.number (subst (λ l. Reached (machine b) (fed ++ piece) l (reading_of old rows) old.number) whole first) on.whole run_on (on.number small) in
    by_fault new.fault refl reached
  where
    by_fault : (o : Option ℕ) → new.fault ≡ o → Reached (machine b) (fed ++ piece) on.rest (reading_of new rows) new.number → HasRead b new (fed ++ piece) rows
    by_fault None e reached = let k = on.held e in read_whole b new (fed ++ piece) rows on.rest reached e k.0 k.1
    by_fault (Some line) e reached = let f = on.fault line e in read_stopped b new (fed ++ piece) rows on.rest reached line e f.0 f.1 f.2

-- ---- entries that are given

pub given_next : (b : Bool) (old new : ReaderView) (fed : List ℕ) (rows : List Row) (e : HintedEntry) → old.ready ≡ e ∷ new.ready → new ≡ record old { ready = new.ready } → HasRead b old fed rows → HasRead b new fed (rows ++ rows_of (e ∷ []))
given_next b old new fed rows e ready same h =
    let now : ReaderView = record old { ready = new.ready } in
    let all : rows ++ rows_of old.ready ≡ (rows ++ rows_of (e ∷ [])) ++ rows_of new.ready = ap (λ l. rows ++ rows_of l) ready ∙ sym (append_assoc rows (rows_of (e ∷ [])) (rows_of new.ready)) in
    subst (λ r. HasRead b r fed (rows ++ rows_of (e ∷ []))) (sym same) (record {
      lines = h.lines;
      rest = h.rest;
      run = h.run;
      read = h.read ∙ ap (λ (l : List Row). let r : Reading = record { stage = old.stage; rows = l } in Some r) all;
      number = h.number;
      held = h.held;
      fault = h.fault;
    })

-- ---- the end

ends_well : (b : Bool) (r : ReaderView) (fed : List ℕ) (rows : List Row) (w : Written) → r.fault ≡ None → r.held ≡ [] → value_of (reading_of r rows) ≡ Some w → HasRead b r fed rows → Spells b w fed
ends_well b r fed rows w none empty value h =
    let held = h.held none in
    read_end (machine b) (Spells b) fed h.rest (reading_of r rows) r.number w (reads_logs b) (reached_of b r fed rows h) value (sym held.0 ∙ empty)

ends_badly : (b : Bool) (r : ReaderView) (fed : List ℕ) (rows : List Row) → r.fault ≡ None → ((w : Written) → value_of (reading_of r rows) ≡ Some w → r.held ≡ [] → ⊥) → HasRead b r fed rows → Refuses (Spells b) fed r.number
ends_badly b r fed rows none other h =
    let held = h.held none in
    refused_end (machine b) (Spells b) fed h.rest (reading_of r rows) r.number (reads_logs b) (reached_of b r fed rows h) (cut_lacking 10 h.rest held.1) (λ w value empty. other w value (held.0 ∙ empty))

pub given_all : (b : Bool) (old new : ReaderView) (fed : List ℕ) (rows : List Row) → new ≡ record old { ready = [] } → HasRead b old fed rows → HasRead b new fed (rows ++ rows_of old.ready)
given_all b old new fed rows same h =
    let now : ReaderView = record old { ready = [] } in
    subst (λ r. HasRead b r fed (rows ++ rows_of old.ready)) (sym same) (record {
      lines = h.lines;
      rest = h.rest;
      run = h.run;
      read = h.read ∙ ap (λ (l : List Row). let r : Reading = record { stage = old.stage; rows = l } in Some r) (sym (append-nil (rows ++ rows_of old.ready)));
      number = h.number;
      held = h.held;
      fault = h.fault;
    })

-- ---- the start

pub read_nothing : (b : Bool) (r : ReaderView) → r.stage ≡ Format b → r.number ≡ 1 → r.held ≡ [] → r.ready ≡ [] → r.fault ≡ None → HasRead b r [] []
read_nothing b r at number held ready none =
    let into = λ (s : Stage) (l : List HintedEntry). let g : Reading = record { stage = s; rows = rows_of l } in g in
    let same : start b ≡ reading_of r [] = ap (λ (s : Stage). into s []) (sym at) ∙ ap (λ (l : List HintedEntry). into r.stage l) (sym ready) in
    let first = subst (λ g. Reached (machine b) [] [] g 1) same (reached_start (machine b) []) in
    read_whole b r [] [] [] (subst (λ n. Reached (machine b) [] [] (reading_of r []) n) (sym number) first) none held refl

-- the last line was read, and nothing stands behind it
pub ended_well : (b : Bool) (r : ReaderView) (fed : List ℕ) (rows : List Row) → r.fault ≡ None → has_ended r.stage r.held ≡ true → HasRead b r fed rows → (w : Written) × Spells b w fed × Tells r rows w
ended_well b r fed rows none ended h = split r.stage r.held refl refl ended
  where
    split : (s : Stage) (l : List ℕ) → r.stage ≡ s → r.held ≡ l → has_ended s l ≡ true → (w : Written) × Spells b w fed × Tells r rows w
    split (Format c) l e f k = cc
    split (InHead hinted at g) l e f k = cc
    split (Body hinted g next) l e f k = cc
    split (End hinted g) (x ∷ l) e f k = cc
    split (End hinted g) [] e f k =
        let w : Written = record { hinted = hinted; head = g; rows = rows ++ rows_of r.ready } in
        let value : value_of (reading_of r rows) ≡ Some w = ap (λ (s : Stage). value_at s (rows ++ rows_of r.ready)) e in
        (w, ends_well b r fed rows w none f value h, record { rows = refl; head = ap head_of e; hinted = ap hinted_of e })

pub ended_badly : (b : Bool) (r : ReaderView) (fed : List ℕ) (rows : List Row) → r.fault ≡ None → has_ended r.stage r.held ≡ false → HasRead b r fed rows → Refuses (Spells b) fed r.number
ended_badly b r fed rows none ended h = ends_badly b r fed rows none (λ w value empty. split r.stage r.held refl empty ended w value) h
  where
    split : (s : Stage) (l : List ℕ) → r.stage ≡ s → l ≡ [] → has_ended s l ≡ false → (w : Written) → value_at s (rows ++ rows_of r.ready) ≡ Some w → ⊥
    split (Format c) l e f k w v = cc
    split (InHead hinted at g) l e f k w v = cc
    split (Body hinted g next) l e f k w v = cc
    split (End hinted g) [] e f k w v = cc
    split (End hinted g) (x ∷ l) e f k w v = cc

-- ---- what a call of `feed` answers

pub ok_begins : (result : Result (Unit {0}) LogFault) (old new : ReaderView) (piece : List ℕ)
    → (result ≢ Err NoMemory → (b : Bool) (fed : List ℕ) (rows : List Row) → HasRead b old fed rows → HasRead b new (fed ++ piece) rows) → OnOk result (new.fault ≡ None)
    → OnOk result ((b : Bool) (fed : List ℕ) (rows : List Row) → HasRead b old fed rows → BeginsWhole (Spells b) (fed ++ piece))
ok_begins (Ok v) old new piece reads none = λ b fed rows h. begins_of b new (fed ++ piece) rows (reads (λ e. cc) b fed rows h) none
ok_begins (Err e) old new piece reads none = tt

pub err_refuses : (result : Result (Unit {0}) LogFault) (old new : ReaderView) (piece : List ℕ)
    → (result ≢ Err NoMemory → (b : Bool) (fed : List ℕ) (rows : List Row) → HasRead b old fed rows → HasRead b new (fed ++ piece) rows) → IfErr result (IsKept new.fault)
    → IfErr result (λ e. (b : Bool) (fed : List ℕ) (rows : List Row) → HasRead b old fed rows → IsFaultOfLines b (fed ++ piece) e)
err_refuses (Ok v) old new piece reads kept = tt
err_refuses (Err NoMemory) old new piece reads kept = λ b fed rows h. tt
err_refuses (Err (LogText line)) old new piece reads kept = λ b fed rows h. refused_of b new (fed ++ piece) rows line (reads (λ e. cc) b fed rows h) kept

-- a search that found nothing
pub none_of : {A : Type 0} (o : Option A) (P : Type 0) (Q : A → Type 0) → MatchOption o P Q → is_some o ≡ false → P
none_of None P Q h e = h
none_of (Some x) P Q h e = cc

pub nothing : (l : List ℕ) → length l ≡ 0 → l ≡ []
nothing [] e = refl
nothing (x ∷ l) e = absurd (omega arith)

-- ---- a whole text

pub lines_fault : (b : Bool) (text : List ℕ) (e : LogFault) → IsFaultOfLines b text e → IsFaultOf b text e
lines_fault b text (LogText line) h = h.refuses
lines_fault b text NoMemory h = tt

pub whole_told : (b : Bool) (text : List ℕ) (r : ReaderView) (rows all : List Row) (hinted : Bool) (head : Head) → ((w : Written) × Spells b w text × Tells r rows w) → hinted ≡ unwrap_or (hinted_of r.stage) false → head ≡ unwrap_or (head_of r.stage) no_head
    → all ≡ rows ++ rows_of r.ready → Spells b (record { hinted = hinted; head = head; rows = all }) text
whole_told b text r rows all hinted head t h g same =
    let w = t.0 in
    let told = t.2 in
    let first : w.hinted ≡ hinted = sym (h ∙ ap (λ (o : Option Bool). unwrap_or o false) told.hinted) in
    let second : w.head ≡ head = sym (g ∙ ap (λ (o : Option Head). unwrap_or o no_head) told.head) in
    let third : w.rows ≡ all = told.rows ∙ sym same in
    let made = λ (x : Bool) (y : Head) (z : List Row). let v : Written = record { hinted = x; head = y; rows = z } in v in
    let is : w ≡ made hinted head all = ap (λ x. made x w.head w.rows) first ∙ (ap (λ y. made hinted y w.rows) second ∙ ap (λ z. made hinted head z) third) in
    subst (λ v. Spells b v text) is t.1
