-- The machine of logs reads exactly the spellings of logs.
use Rattle.std.proofs.Common.{◌≡◌, ℕ, suc, ◌+◌, ◌^◌, ◌<◌, Bool, true, false, not, ◌&&◌, cond, List, [], ◌∷◌, ◌++◌, map, length, Option, Some, None, refl, ap, sym, ◌∙◌, subst, append_assoc, append-nil, length-append, arith}
use Rattle.std.specs.Prelude.{◌↔◌, IsNone, bytes_eq}
use Rattle.std.specs.List.{AllByRecursion}
use Rattle.std.proofs.lemmas.Bool.{and_parts}
use Rattle.std.proofs.lemmas.Slice.Eq.{bytes_eq-Decides}
use Rattle.cnf_problem.specs.declared.problem.Head.{Head}
use Rattle.line_text.specs.Words.{given, lacks, shown}
use Rattle.line_text.specs.Lines.{Begins, IsLine, text_of}
use Rattle.line_text.proofs.Bytes.{lacks_append}
use Rattle.line_text.proofs.Reading.{Reader, Reads, run}
use Rattle.line_text.proofs.Texts.{all_push, text_of_append}
use Rattle.log_text.specs.declared.stage.HeadLine.{HeadLine}
use Rattle.log_text.specs.declared.stage.HeadLine.TheVariants.{Model, Unroll, Vars, Clauses, Nodes, Atoms}
use Rattle.log_text.specs.declared.stage.Stage.{Stage}
use Rattle.log_text.specs.declared.stage.Stage.TheVariants.{Format, InHead, Body, End}
use Rattle.log_text.specs.Formats.{Row, Written, first_line, head_line, head_lines, last_line, log_lines, row_line, row_words, spaced}
use Rattle.log_text.specs.Lines.{row_in}
use Rattle.log_text.specs.Machine.{Reading, Step, behind, head_of, head_with, hinted_of, no_head, or_entry, read_line, read_lines, start, with_row}
use Rattle.log_text.specs.Spelling.{AreInTurn, HasHead, IsRowWritten, IsWritable, Spells}
use Rattle.log_text.proofs.Listed.{all_append}
use Rattle.log_text.proofs.Heads.{filled, head_line_lacks, head_with_of, head_with_told}
use Rattle.log_text.proofs.Rows.{row_of_line, row_told, words_lack}

abbrev pub value_at : Stage → List Row → Option Written
value_at (Format b) rows = None
value_at (InHead hinted at h) rows = None
value_at (Body hinted h next) rows = None
value_at (End hinted h) rows = Some (record { hinted = hinted; head = h; rows = rows })

abbrev pub value_of : Reading → Option Written
value_of g = value_at g.stage g.rows

abbrev pub machine : Bool → Reader Written Reading
machine plain_only = record { start = start plain_only; step = read_line; value = value_of }

abbrev reading : Stage → List Row → Reading
reading s rows = record { stage = s; rows = rows }

pub run_is : (b : Bool) (g : Reading) (lines : List (List ℕ)) → run (machine b) g lines ≡ read_lines g lines
run_is b g [] = refl
run_is b g (line ∷ lines) = split (read_line g line) (λ t. run_is b t lines)
  where
    split : (o : Option Reading) → ((t : Reading) → run (machine b) t lines ≡ read_lines t lines) → given o (λ t. run (machine b) t lines) ≡ given o (λ t. read_lines t lines)
    split None more = refl
    split (Some t) more = more t

same_bytes : (a b : List ℕ) → bytes_eq a b ≡ true → a ≡ b
same_bytes a b = (bytes_eq-Decides a b).0

-- ---- the lines of a log are read to the end

first_step : (b hinted : Bool) → (b ≡ true → hinted ≡ false) → read_line (start b) (first_line hinted) ≡ Some (reading (InHead hinted Model no_head) [])
first_step b false h = refl
first_step false true h = refl
first_step true true h = let no : true ≡ false = h refl in cc

head_step : (hinted : Bool) (at : HeadLine) (h g : Head) (rows : List Row) → HasHead g → read_line (reading (InHead hinted at h) rows) (head_line g at) ≡ Some (reading (behind hinted at (filled at h g)) rows)
head_step hinted at h g rows k =
    ap (λ (o : Option Head). given (or_entry (InHead hinted at h) (head_line g at) (given o (λ x. Some (behind hinted at x)))) (λ (s : Step). let r : Reading = record { stage = s.stage; rows = with_row rows s.gives } in Some r)) (head_with_of at h g k)

then_run : (b : Bool) (g t : Reading) (line : List ℕ) (lines : List (List ℕ)) → read_line g line ≡ Some t → run (machine b) g (line ∷ lines) ≡ run (machine b) t lines
then_run b g t line lines e = ap (λ (o : Option Reading). given o (λ u. run (machine b) u lines)) e

-- the lines of a head from this one on
abbrev back_lines : HeadLine → Head → List (List ℕ)
back_lines Model h = head_lines h
back_lines Unroll h = head_line h Unroll ∷ head_line h Vars ∷ head_line h Clauses ∷ head_line h Nodes ∷ head_line h Atoms ∷ []
back_lines Vars h = head_line h Vars ∷ head_line h Clauses ∷ head_line h Nodes ∷ head_line h Atoms ∷ []
back_lines Clauses h = head_line h Clauses ∷ head_line h Nodes ∷ head_line h Atoms ∷ []
back_lines Nodes h = head_line h Nodes ∷ head_line h Atoms ∷ []
back_lines Atoms h = head_line h Atoms ∷ []

run_head : (b hinted : Bool) (g : Head) (rest : List (List ℕ)) → HasHead g → run (machine b) (reading (InHead hinted Model no_head) []) (head_lines g ++ rest) ≡ run (machine b) (reading (Body hinted g 0) []) rest
run_head b hinted g rest k =
    let one = filled Model no_head g in
    let two = filled Unroll one g in
    let three = filled Vars two g in
    let four = filled Clauses three g in
    let five = filled Nodes four g in
    then_run b (reading (InHead hinted Model no_head) []) (reading (InHead hinted Unroll one) []) (head_line g Model) (back_lines Unroll g ++ rest) (head_step hinted Model no_head g [] k)
    ∙ (then_run b (reading (InHead hinted Unroll one) []) (reading (InHead hinted Vars two) []) (head_line g Unroll) (back_lines Vars g ++ rest) (head_step hinted Unroll one g [] k)
    ∙ (then_run b (reading (InHead hinted Vars two) []) (reading (InHead hinted Clauses three) []) (head_line g Vars) (back_lines Clauses g ++ rest) (head_step hinted Vars two g [] k)
    ∙ (then_run b (reading (InHead hinted Clauses three) []) (reading (InHead hinted Nodes four) []) (head_line g Clauses) (back_lines Nodes g ++ rest) (head_step hinted Clauses three g [] k)
    ∙ (then_run b (reading (InHead hinted Nodes four) []) (reading (InHead hinted Atoms five) []) (head_line g Nodes) (back_lines Atoms g ++ rest) (head_step hinted Nodes four g [] k)
    ∙ then_run b (reading (InHead hinted Atoms five) []) (reading (Body hinted g 0) []) (head_line g Atoms) rest (head_step hinted Atoms five g [] k)))))

row_is_not_last : (hinted : Bool) (next : ℕ) (line : List ℕ) (r : Row) → row_in hinted next line ≡ Some r → bytes_eq line last_line ≡ false
row_is_not_last hinted next line r e = split (bytes_eq line last_line) refl
  where
    split : (b : Bool) → bytes_eq line last_line ≡ b → b ≡ false
    split false k = refl
    split true k =
        let none : row_in hinted next last_line ≡ None = refl in
        let there : row_in hinted next line ≡ None = ap (row_in hinted next) (same_bytes line last_line k) ∙ none in
        cc

row_step : (hinted : Bool) (h : Head) (next : ℕ) (rows : List Row) (line : List ℕ) (r : Row) → row_in hinted next line ≡ Some r → read_line (reading (Body hinted h next) rows) line ≡ Some (reading (Body hinted h (next + 1)) (rows ++ r ∷ []))
row_step hinted h next rows line r e = rw (row_is_not_last hinted next line r e, e) refl

run_rows : (b hinted : Bool) (h : Head) (next : ℕ) (rows more : List Row) (rest : List (List ℕ)) → AreInTurn next more → AllByRecursion (IsRowWritten hinted) more → next + length more < 2 ^ 32
    → run (machine b) (reading (Body hinted h next) rows) (map (row_line hinted) more ++ rest) ≡ run (machine b) (reading (Body hinted h (next + length more)) (rows ++ more)) rest
run_rows b hinted h next rows [] rest t k few =
    let same : next ≡ next + 0 = omega arith in
    ap (λ n. run (machine b) (reading (Body hinted h n) rows) rest) same ∙ ap (λ l. run (machine b) (reading (Body hinted h (next + 0)) l) rest) (sym (append-nil rows))
run_rows b hinted h next rows (r ∷ more) rest t k few =
    let here : row_in hinted next (row_line hinted r) ≡ Some r = subst (λ n. row_in hinted n (row_line hinted r) ≡ Some r) t.0 (row_of_line hinted r k.0 (omega (arith, t.0))) in
    let same : (next + 1) + length more ≡ next + suc (length more) = omega arith in
    then_run b (reading (Body hinted h next) rows) (reading (Body hinted h (next + 1)) (rows ++ r ∷ [])) (row_line hinted r) (map (row_line hinted) more ++ rest) (row_step hinted h next rows (row_line hinted r) r here)
    ∙ (run_rows b hinted h (next + 1) (rows ++ r ∷ []) more rest t.1 k.1 (omega arith)
    ∙ (ap (λ n. run (machine b) (reading (Body hinted h n) ((rows ++ r ∷ []) ++ more)) rest) same
    ∙ ap (λ l. run (machine b) (reading (Body hinted h (next + suc (length more))) l) rest) (append_assoc rows (r ∷ []) more)))

run_all : (b : Bool) (w : Written) → IsWritable w → (b ≡ true → w.hinted ≡ false) → run (machine b) (start b) (log_lines w) ≡ Some (reading (End w.hinted w.head) w.rows)
run_all b w h format =
    let rows = map (row_line w.hinted) w.rows ++ last_line ∷ [] in
    then_run b (start b) (reading (InHead w.hinted Model no_head) []) (first_line w.hinted) (head_lines w.head ++ rows) (first_step b w.hinted format)
    ∙ (run_head b w.hinted w.head rows h.head ∙ run_rows b w.hinted w.head 0 [] w.rows (last_line ∷ []) h.in_turn h.rows (omega (arith, h.few)))

-- ---- the lines hold no line feed

shown_lacks : (ws : List (List ℕ)) → AllByRecursion (λ w. lacks 10 w ≡ true) ws → lacks 10 (shown (λ (v : List ℕ). v) ws) ≡ true
shown_lacks [] h = refl
shown_lacks (w ∷ ws) h = lacks_append 10 w (shown (λ (v : List ℕ). v) ws) h.0 (shown_lacks ws h.1)

spaced_lacks : (ws : List (List ℕ)) → AllByRecursion (λ w. lacks 10 w ≡ true) ws → lacks 10 (spaced ws) ≡ true
spaced_lacks [] h = refl
spaced_lacks (w ∷ ws) h = lacks_append 10 w (shown (λ (v : List ℕ). v) ws) h.0 (shown_lacks ws h.1)

rows_lack : (hinted : Bool) (next : ℕ) (rows : List Row) → AreInTurn next rows → AllByRecursion (IsRowWritten hinted) rows → next + length rows < 2 ^ 32 → AllByRecursion IsLine (map (row_line hinted) rows)
rows_lack hinted next [] t k few = tt
rows_lack hinted next (r ∷ rows) t k few = (spaced_lacks (row_words hinted r) (words_lack 10 hinted r (omega arith) (omega (arith, t.0)) k.0), rows_lack hinted (next + 1) rows t.1 k.1 (omega arith))

first_lacks : (hinted : Bool) → lacks 10 (first_line hinted) ≡ true
first_lacks false = refl
first_lacks true = refl

lines_whole : (w : Written) → IsWritable w → AllByRecursion IsLine (log_lines w)
lines_whole w h =
    let head = λ (at : HeadLine). head_line_lacks w.head at h.head in
    let rows = all_push IsLine (map (row_line w.hinted) w.rows) last_line (rows_lack w.hinted 0 w.rows h.in_turn h.rows (omega (arith, h.few))) refl in
    (first_lacks w.hinted, all_append IsLine (head_lines w.head) (map (row_line w.hinted) w.rows ++ last_line ∷ []) (head Model, (head Unroll, (head Vars, (head Clauses, (head Nodes, (head Atoms, tt)))))) rows)

-- ---- what was read are the first lines of a log

-- the lines of a head before this one
abbrev front_lines : HeadLine → Head → List (List ℕ)
front_lines Model h = []
front_lines Unroll h = head_line h Model ∷ []
front_lines Vars h = head_line h Model ∷ head_line h Unroll ∷ []
front_lines Clauses h = head_line h Model ∷ head_line h Unroll ∷ head_line h Vars ∷ []
front_lines Nodes h = head_line h Model ∷ head_line h Unroll ∷ head_line h Vars ∷ head_line h Clauses ∷ []
front_lines Atoms h = head_line h Model ∷ head_line h Unroll ∷ head_line h Vars ∷ head_line h Clauses ∷ head_line h Nodes ∷ []

both_lines : (at : HeadLine) (h : Head) → front_lines at h ++ back_lines at h ≡ head_lines h
both_lines Model h = refl
both_lines Unroll h = refl
both_lines Vars h = refl
both_lines Clauses h = refl
both_lines Nodes h = refl
both_lines Atoms h = refl

same_front : (at : HeadLine) (h g : Head) → front_lines at (filled at h g) ≡ front_lines at h
same_front Model h g = refl
same_front Unroll h g = refl
same_front Vars h g = refl
same_front Clauses h g = refl
same_front Nodes h g = refl
same_front Atoms h g = refl

abbrev made : Bool → Head → List Row → Written
made hinted h rows = record { hinted = hinted; head = h; rows = rows }

record IsInHead (b : Bool) (lines : List (List ℕ)) (rows : List Row) (hinted : Bool) (at : HeadLine) (h : Head) : Type 0 where
  pub format : b ≡ true → hinted ≡ false
  pub head : HasHead h
  pub no_rows : rows ≡ []
  pub lines_are : lines ≡ first_line hinted ∷ front_lines at h

record IsInBody (b : Bool) (lines : List (List ℕ)) (rows : List Row) (hinted : Bool) (h : Head) (next : ℕ) : Type 0 where
  pub format : b ≡ true → hinted ≡ false
  pub writable : IsWritable (made hinted h rows)
  pub next_is : next ≡ length rows
  pub lines_are : lines ≡ first_line hinted ∷ (head_lines h ++ map (row_line hinted) rows)

record IsEnded (b : Bool) (lines : List (List ℕ)) (rows : List Row) (hinted : Bool) (h : Head) : Type 0 where
  pub format : b ≡ true → hinted ≡ false
  pub writable : IsWritable (made hinted h rows)
  pub lines_are : lines ≡ log_lines (made hinted h rows)

abbrev HoldsAt : Bool → List (List ℕ) → List Row → Stage → Type 0
HoldsAt b lines rows (Format c) = (c ≡ b) × (lines ≡ []) × (rows ≡ [])
HoldsAt b lines rows (InHead hinted at h) = IsInHead b lines rows hinted at h
HoldsAt b lines rows (Body hinted h next) = IsInBody b lines rows hinted h next
HoldsAt b lines rows (End hinted h) = IsEnded b lines rows hinted h

-- a reading of these lines
record Holds (b : Bool) (lines : List (List ℕ)) (g : Reading) : Type 0 where
  pub at_stage : HoldsAt b lines g.rows g.stage

no_head_good : HasHead no_head
no_head_good = record { model = omega arith; unroll = omega arith; vars = omega arith; clauses = omega arith; nodes = omega arith; atoms = omega arith }

-- the first line
format_holds : (b c : Bool) (lines : List (List ℕ)) (rows : List Row) (line : List ℕ) (t : Reading) → HoldsAt b lines rows (Format c) → read_line (reading (Format c) rows) line ≡ Some t → Holds b (lines ++ line ∷ []) t
format_holds b c lines rows line t h = plain (bytes_eq line (first_line false)) refl
  where
    started : (hinted : Bool) → (b ≡ true → hinted ≡ false) → line ≡ first_line hinted → reading (InHead hinted Model no_head) rows ≡ t → Holds b (lines ++ line ∷ []) t
    started hinted format text same =
        subst (Holds b (lines ++ line ∷ [])) same (record { at_stage = record { format = format; head = no_head_good; no_rows = h.2; lines_are = ap (λ l. l ++ line ∷ []) h.1 ∙ ap (λ x. x ∷ []) text } })

    hinted_first : (d : Bool) → c ≡ d → (u : Bool) → (bytes_eq line (first_line true) && not d) ≡ u
        → given (or_entry (Format c) line (cond u (Some (InHead true Model no_head)) None)) (λ (s : Step). let r : Reading = record { stage = s.stage; rows = with_row rows s.gives } in Some r) ≡ Some t → Holds b (lines ++ line ∷ []) t
    hinted_first d k false f e = cc
    hinted_first d k true f e =
        let p = and_parts (bytes_eq line (first_line true)) (not d) f in
        started true (format d k p.1) (same_bytes line (first_line true) p.0) (cc)
      where
        format : (d : Bool) → c ≡ d → not d ≡ true → b ≡ true → true ≡ false
        format false k n is = let same = h.0 in cc
        format true k n is = cc

    plain : (u : Bool) → bytes_eq line (first_line false) ≡ u
        → given (or_entry (Format c) line (cond u (Some (InHead false Model no_head)) (cond (bytes_eq line (first_line true) && not c) (Some (InHead true Model no_head)) None))) (λ (s : Step). let r : Reading = record { stage = s.stage; rows = with_row rows s.gives } in Some r) ≡ Some t
        → Holds b (lines ++ line ∷ []) t
    plain false k e = hinted_first c refl (bytes_eq line (first_line true) && not c) refl e
    plain true k e = started false (λ _. refl) (same_bytes line (first_line false) k) (cc)

-- a line of the head
head_holds : (b hinted : Bool) (at : HeadLine) (h : Head) (lines : List (List ℕ)) (rows : List Row) (line : List ℕ) (t : Reading) → IsInHead b lines rows hinted at h → read_line (reading (InHead hinted at h) rows) line ≡ Some t
    → Holds b (lines ++ line ∷ []) t
head_holds b hinted at h lines rows line t k = split (head_with at h line) refl
  where
    after : (next : HeadLine) (g : Head) → HasHead g → lines ++ line ∷ [] ≡ first_line hinted ∷ (front_lines next g ++ head_line g next ∷ []) → HoldsAt b (lines ++ line ∷ []) rows (behind hinted next g)
    after Model g good all = record { format = k.format; head = good; no_rows = k.no_rows; lines_are = all }
    after Unroll g good all = record { format = k.format; head = good; no_rows = k.no_rows; lines_are = all }
    after Vars g good all = record { format = k.format; head = good; no_rows = k.no_rows; lines_are = all }
    after Clauses g good all = record { format = k.format; head = good; no_rows = k.no_rows; lines_are = all }
    after Nodes g good all = record { format = k.format; head = good; no_rows = k.no_rows; lines_are = all }
    after Atoms g good all =
        let none = sym k.no_rows in
        record {
          format = k.format;
          writable = record {
            head = good;
            few = subst (λ (l : List Row). length l < 2 ^ 32) none (omega arith);
            in_turn = subst (AreInTurn 0) none tt;
            rows = subst (AllByRecursion (IsRowWritten hinted)) none tt;
          };
          next_is = ap (λ (l : List Row). length l) none;
          lines_are = all ∙ ap (λ (l : List Row). first_line hinted ∷ (head_lines g ++ map (row_line hinted) l)) none;
        }

    split : (o : Option Head) → head_with at h line ≡ o
        → given (or_entry (InHead hinted at h) line (given o (λ x. Some (behind hinted at x)))) (λ (s : Step). let r : Reading = record { stage = s.stage; rows = with_row rows s.gives } in Some r) ≡ Some t → Holds b (lines ++ line ∷ []) t
    split None f e = cc
    split (Some g) f e =
        let told = head_with_told at h line g f in
        let same : reading (behind hinted at g) rows ≡ t = cc in
        let front : front_lines at h ≡ front_lines at g = sym (ap (front_lines at) told.filled_is ∙ same_front at h g) in
        let all : lines ++ line ∷ [] ≡ first_line hinted ∷ (front_lines at g ++ head_line g at ∷ []) =
        ap (λ l. l ++ line ∷ []) k.lines_are ∙ (ap (λ l. first_line hinted ∷ (l ++ line ∷ [])) front ∙ ap (λ x. first_line hinted ∷ (front_lines at g ++ x ∷ [])) told.text) in
        subst (Holds b (lines ++ line ∷ [])) same (record { at_stage = after at g (told.good k.head) all })

map_push : (hinted : Bool) (rows : List Row) (r : Row) → map (row_line hinted) (rows ++ r ∷ []) ≡ map (row_line hinted) rows ++ row_line hinted r ∷ []
map_push hinted [] r = refl
map_push hinted (x ∷ rows) r = ap (λ l. row_line hinted x ∷ l) (map_push hinted rows r)

in_turn_push : (next : ℕ) (rows : List Row) (r : Row) → AreInTurn next rows → r.ticket ≡ next + length rows → AreInTurn next (rows ++ r ∷ [])
in_turn_push next [] r h e = (omega (arith, e), tt)
in_turn_push next (x ∷ rows) r h e = (h.0, in_turn_push (next + 1) rows r h.1 (omega (arith, e)))

-- an entry, or the last line
body_holds : (b hinted : Bool) (h : Head) (next : ℕ) (lines : List (List ℕ)) (rows : List Row) (line : List ℕ) (t : Reading) → IsInBody b lines rows hinted h next → read_line (reading (Body hinted h next) rows) line ≡ Some t
    → Holds b (lines ++ line ∷ []) t
body_holds b hinted h next lines rows line t k = split (bytes_eq line last_line) refl
  where
    entry : (o : Option Row) → row_in hinted next line ≡ o
        → given (given o (λ r. let s : Step = record { stage = Body hinted h (next + 1); gives = Some r } in Some s)) (λ (s : Step). let r : Reading = record { stage = s.stage; rows = with_row rows s.gives } in Some r) ≡ Some t → Holds b (lines ++ line ∷ []) t
    entry None f e = cc
    entry (Some r) f e =
        let same : reading (Body hinted h (next + 1)) (rows ++ r ∷ []) ≡ t = cc in
        let told = row_told hinted next line r f in
        let was = k.writable in
        let long : length (rows ++ r ∷ []) ≡ length rows + 1 = length-append rows (r ∷ []) in
        let ticket = told.ticket in
        let small = told.small in
        let next_was = k.next_is in
        let all : lines ++ line ∷ [] ≡ first_line hinted ∷ (head_lines h ++ map (row_line hinted) (rows ++ r ∷ [])) =
        ap (λ l. l ++ line ∷ []) k.lines_are ∙ (ap (λ x. first_line hinted ∷ ((head_lines h ++ map (row_line hinted) rows) ++ x ∷ [])) told.text
        ∙ ap (λ l. first_line hinted ∷ l) (append_assoc (head_lines h) (map (row_line hinted) rows) (row_line hinted r ∷ []) ∙ ap (λ l. head_lines h ++ l) (sym (map_push hinted rows r)))) in
        subst (Holds b (lines ++ line ∷ [])) same (record {
          at_stage = record {
            format = k.format;
            writable = record {
              head = was.head;
              few = omega (arith, long);
              in_turn = in_turn_push 0 rows r was.in_turn (omega arith);
              rows = all_push (IsRowWritten hinted) rows r was.rows told.good;
            };
            next_is = omega (arith, long);
            lines_are = all;
          };
        })

    split : (u : Bool) → bytes_eq line last_line ≡ u
        → given (or_entry (Body hinted h next) line (cond u (Some (End hinted h)) None)) (λ (s : Step). let r : Reading = record { stage = s.stage; rows = with_row rows s.gives } in Some r) ≡ Some t → Holds b (lines ++ line ∷ []) t
    split false f e = entry (row_in hinted next line) refl e
    split true f e =
        let same : reading (End hinted h) rows ≡ t = cc in
        let all : lines ++ line ∷ [] ≡ log_lines (made hinted h rows) =
        ap (λ l. l ++ line ∷ []) k.lines_are ∙ (ap (λ x. first_line hinted ∷ ((head_lines h ++ map (row_line hinted) rows) ++ x ∷ [])) (same_bytes line last_line f)
        ∙ ap (λ l. first_line hinted ∷ l) (append_assoc (head_lines h) (map (row_line hinted) rows) (last_line ∷ []))) in
        subst (Holds b (lines ++ line ∷ [])) same (record { at_stage = record { format = k.format; writable = k.writable; lines_are = all } })

stage_holds : (b : Bool) (s : Stage) (lines : List (List ℕ)) (rows : List Row) (line : List ℕ) (t : Reading) → HoldsAt b lines rows s → read_line (reading s rows) line ≡ Some t → Holds b (lines ++ line ∷ []) t
stage_holds b (Format c) lines rows line t h e = format_holds b c lines rows line t h e
stage_holds b (InHead hinted at g) lines rows line t h e = head_holds b hinted at g lines rows line t h e
stage_holds b (Body hinted g next) lines rows line t h e = body_holds b hinted g next lines rows line t h e
stage_holds b (End hinted g) lines rows line t h e = cc

run_holds : (b : Bool) (lines before : List (List ℕ)) (g t : Reading) → Holds b before g → run (machine b) g lines ≡ Some t → Holds b (before ++ lines) t
run_holds b [] before g t h e =
    let same : g ≡ t = cc in
    subst (λ l. Holds b l t) (sym (append-nil before)) (subst (Holds b before) same h)
run_holds b (line ∷ lines) before g t h e = split (read_line g line) refl e (run_holds b lines)
  where
    split : (o : Option Reading) → read_line g line ≡ o → given o (λ u. run (machine b) u lines) ≡ Some t
        → ((front : List (List ℕ)) (u v : Reading) → Holds b front u → run (machine b) u lines ≡ Some v → Holds b (front ++ lines) v) → Holds b (before ++ line ∷ lines) t
    split None k f more = cc
    split (Some u) k f more = subst (λ l. Holds b l t) (append_assoc before (line ∷ []) lines) (more (before ++ line ∷ []) u t (stage_holds b g.stage before g.rows line u h.at_stage k) f)

all_hold : (b : Bool) (lines : List (List ℕ)) (t : Reading) → run (machine b) (start b) lines ≡ Some t → Holds b lines t
all_hold b lines t e = run_holds b lines [] (start b) t (record { at_stage = (refl, refl, refl) }) e

-- ---- the machine reads the spellings

begins_with : (b : Bool) (w : Written) (lines rest : List (List ℕ)) → IsWritable w → (b ≡ true → w.hinted ≡ false) → lines ++ rest ≡ log_lines w → Begins (Spells b) lines
begins_with b w lines rest h format e = record {
  value = w;
  more = text_of rest;
  spelled = record { writable = h; format = format; spelled = sym (text_of_append lines rest) ∙ ap text_of e };
}

begins_at : (b : Bool) (s : Stage) (lines : List (List ℕ)) (rows : List Row) → HoldsAt b lines rows s → Begins (Spells b) lines
begins_at b (Format c) lines rows h =
    let w = made false no_head [] in
    begins_with b w lines (log_lines w) (record { head = no_head_good; few = omega arith; in_turn = tt; rows = tt }) (λ _. refl) (ap (λ l. l ++ log_lines w) h.1)
begins_at b (InHead hinted at g) lines rows h =
    let w = made hinted g [] in
    let last = last_line ∷ [] in
    begins_with b w lines (back_lines at g ++ last) (record { head = h.head; few = omega arith; in_turn = tt; rows = tt }) h.format
    (ap (λ l. l ++ (back_lines at g ++ last)) h.lines_are
    ∙ ap (λ l. first_line hinted ∷ l) (sym (append_assoc (front_lines at g) (back_lines at g) last) ∙ ap (λ l. l ++ last) (both_lines at g)))
begins_at b (Body hinted g next) lines rows h =
    let last = last_line ∷ [] in
    begins_with b (made hinted g rows) lines last h.writable h.format
    (ap (λ l. l ++ last) h.lines_are ∙ ap (λ l. first_line hinted ∷ l) (append_assoc (head_lines g) (map (row_line hinted) rows) last))
begins_at b (End hinted g) lines rows h = begins_with b (made hinted g rows) lines [] h.writable h.format (append-nil lines ∙ h.lines_are)

spelled_at : (b : Bool) (s : Stage) (lines : List (List ℕ)) (rows : List Row) (v : Written) → HoldsAt b lines rows s → value_at s rows ≡ Some v → Spells b v (text_of lines)
spelled_at b (Format c) lines rows v h e = cc
spelled_at b (InHead hinted at g) lines rows v h e = cc
spelled_at b (Body hinted g next) lines rows v h e = cc
spelled_at b (End hinted g) lines rows v h e =
    let same : made hinted g rows ≡ v = cc in
    subst (λ w. Spells b w (text_of lines)) same (record { writable = h.writable; format = h.format; spelled = ap text_of h.lines_are })

ends_at : (s : Stage) (rows : List Row) (v : Written) (line : List ℕ) → value_at s rows ≡ Some v → read_line (reading s rows) line ≡ None
ends_at (Format c) rows v line e = cc
ends_at (InHead hinted at g) rows v line e = cc
ends_at (Body hinted g next) rows v line e = cc
ends_at (End hinted g) rows v line e = refl

pub reads_logs : (b : Bool) → Reads (machine b) (Spells b)
reads_logs b = record {
  read = λ w text s. record {
    lines = log_lines w;
    all = s.spelled;
    whole = lines_whole w s.writable;
    last = reading (End w.hinted w.head) w.rows;
    ran = run_all b w s.writable s.format;
    value = refl;
  };
  begins = λ lines t e. begins_at b t.stage lines t.rows (all_hold b lines t e).at_stage;
  spelled = λ lines t v e k. spelled_at b t.stage lines t.rows v (all_hold b lines t e).at_stage k;
  ends = λ t v line e. ends_at t.stage t.rows v line e;
}

-- ---- what is known behind how many lines

known_at : (b : Bool) (s : Stage) (lines : List (List ℕ)) (rows : List Row) → HoldsAt b lines rows s → (IsNone (head_of s) ↔ (length lines < 7)) × (IsNone (hinted_of s) ↔ (length lines < 1))
known_at b (Format c) lines rows h =
    let long : length lines ≡ 0 = ap (λ (l : List (List ℕ)). length l) h.1 in
    ((λ _. omega arith, λ _. refl), (λ _. omega arith, λ _. refl))
known_at b (InHead hinted at g) lines rows h =
    let long : length lines ≡ suc (length (front_lines at g)) = ap (λ (l : List (List ℕ)). length l) h.lines_are in
    let few : length (front_lines at g) < 6 = front_few at g in
    ((λ _. omega arith, λ _. refl), (λ n. absurd (cc), λ n. absurd (omega arith)))
  where
    front_few : (at : HeadLine) (g : Head) → length (front_lines at g) < 6
    front_few Model g = omega arith
    front_few Unroll g = omega arith
    front_few Vars g = omega arith
    front_few Clauses g = omega arith
    front_few Nodes g = omega arith
    front_few Atoms g = omega arith
known_at b (Body hinted g next) lines rows h =
    let more = map (row_line hinted) rows in
    let long : length lines ≡ 7 + length more = ap (λ (l : List (List ℕ)). length l) h.lines_are ∙ omega arith in
    ((λ n. absurd (cc), λ n. absurd (omega arith)), (λ n. absurd (cc), λ n. absurd (omega arith)))
known_at b (End hinted g) lines rows h =
    let more = map (row_line hinted) rows ++ last_line ∷ [] in
    let long : length lines ≡ 7 + length more = ap (λ (l : List (List ℕ)). length l) h.lines_are ∙ omega arith in
    ((λ n. absurd (cc), λ n. absurd (omega arith)), (λ n. absurd (cc), λ n. absurd (omega arith)))

pub known_behind : (b : Bool) (lines : List (List ℕ)) (t : Reading) → read_lines (start b) lines ≡ Some t → (IsNone (head_of t.stage) ↔ (length lines < 7)) × (IsNone (hinted_of t.stage) ↔ (length lines < 1))
known_behind b lines t e = known_at b t.stage lines t.rows (all_hold b lines t (run_is b (start b) lines ∙ e)).at_stage
