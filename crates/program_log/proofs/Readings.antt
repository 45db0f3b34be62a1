-- What the lines that were read tell of each log that begins with them: its head, its format and its first entries.
use Rattle.std.proofs.Common.{◌≡◌, ℕ, ◌+◌, Bool, true, false, cond, List, [], ◌∷◌, ◌++◌, length, Option, Some, None, refl, ap, sym, ◌∙◌, subst, append_assoc, append-nil, length-append, arith}
use Rattle.std.specs.Prelude.{bytes_eq}
use Rattle.std.specs.List.{AllByRecursion}
use Rattle.dg_base.proofs.Lists.{one_answer}
use Rattle.line_text.specs.Words.{given}
use Rattle.line_text.specs.Lines.{IsLine, text_of}
use Rattle.line_text.proofs.Reading.{run, run_append}
use Rattle.line_text.proofs.Texts.{text_front}
use Rattle.cnf_problem.specs.declared.problem.Head.{Head}
use Rattle.lemma_log.specs.declared.Entry.{Entry}
use Rattle.lemma_log.specs.declared.hints.Hint.{Hint}
use Rattle.lemma_log.specs.declared.hints.HintedEntry.{HintedEntry}
use Rattle.log_text.specs.declared.stage.HeadLine.{HeadLine}
use Rattle.log_text.specs.declared.stage.HeadLine.TheVariants.{Model, Unroll, Vars, Clauses, Nodes, Atoms}
use Rattle.log_text.specs.declared.stage.Stage.{Stage}
use Rattle.log_text.specs.declared.stage.Stage.TheVariants.{Format, InHead, Body, End}
use Rattle.log_text.specs.Fed.{HasRead, ReaderView}
use Rattle.log_text.specs.Formats.{Row, Written, last_line}
use Rattle.log_text.specs.Lines.{row_in}
use Rattle.log_text.specs.Machine.{Reading, Step, behind, head_of, head_with, hinted_of, or_entry, read_line, read_lines, start, step, with_row}
use Rattle.log_text.specs.Spelling.{AreInTurn, Spells, row_of, rows_of}
use Rattle.log_text.proofs.Spelled.{machine, reads_logs, run_is, value_at}
use Rattle.program_log.specs.Pieces.{IsHeadOf, IsNext, IsUnknown}

-- ---- a machine that reads on

-- what was known stays
record Keeps (s t : Stage) : Type 0 where
  head : (h : Head) → head_of s ≡ Some h → head_of t ≡ Some h
  hinted : (b : Bool) → hinted_of s ≡ Some b → hinted_of t ≡ Some b

record ReadsOn (g t : Reading) : Type 0 where
  more : List Row
  rows : t.rows ≡ g.rows ++ more
  keeps : Keeps g.stage t.stage

behind_hinted : (hinted : Bool) (at : HeadLine) (h : Head) → hinted_of (behind hinted at h) ≡ Some hinted
behind_hinted hinted Model h = refl
behind_hinted hinted Unroll h = refl
behind_hinted hinted Vars h = refl
behind_hinted hinted Clauses h = refl
behind_hinted hinted Nodes h = refl
behind_hinted hinted Atoms h = refl

in_head : (hinted : Bool) (at : HeadLine) (h : Head) (line : List ℕ) (u : Step) → step (InHead hinted at h) line ≡ Some u → Keeps (InHead hinted at h) u.stage
in_head hinted at h line u = split (head_with at h line)
  where
    split : (o : Option Head) → or_entry (InHead hinted at h) line (given o (λ g. Some (behind hinted at g))) ≡ Some u → Keeps (InHead hinted at h) u.stage
    split None e = cc
    split (Some g) e =
        let next : Step = record { stage = behind hinted at g; gives = None } in
        let same : next ≡ u = cc in
        subst (λ (v : Step). Keeps (InHead hinted at h) v.stage) same (record {
          head = λ x k. let no : None ≡ Some x = k in cc;
          hinted = λ b k. behind_hinted hinted at g ∙ k;
        })

in_body : (hinted : Bool) (h : Head) (next : ℕ) (line : List ℕ) (u : Step) → step (Body hinted h next) line ≡ Some u → Keeps (Body hinted h next) u.stage
in_body hinted h next line u = split (bytes_eq line last_line)
  where
    entry : (o : Option Row) → given o (λ r. let s : Step = record { stage = Body hinted h (next + 1); gives = Some r } in Some s) ≡ Some u → Keeps (Body hinted h next) u.stage
    entry None e = cc
    entry (Some r) e =
        let there : Step = record { stage = Body hinted h (next + 1); gives = Some r } in
        let same : there ≡ u = cc in
        subst (λ (v : Step). Keeps (Body hinted h next) v.stage) same (record { head = λ x k. k; hinted = λ b k. k })

    split : (b : Bool) → or_entry (Body hinted h next) line (cond b (Some (End hinted h)) None) ≡ Some u → Keeps (Body hinted h next) u.stage
    split false e = entry (row_in hinted next line) e
    split true e =
        let there : Step = record { stage = End hinted h; gives = None } in
        let same : there ≡ u = cc in
        subst (λ (v : Step). Keeps (Body hinted h next) v.stage) same (record { head = λ x k. k; hinted = λ b k. k })

step_keeps : (s : Stage) (line : List ℕ) (u : Step) → step s line ≡ Some u → Keeps s u.stage
step_keeps (Format c) line u e = record { head = λ x k. (let no : None ≡ Some x = k in cc); hinted = λ b k. (let no : None ≡ Some b = k in cc) }
step_keeps (InHead hinted at h) line u e = in_head hinted at h line u e
step_keeps (Body hinted h next) line u e = in_body hinted h next line u e
step_keeps (End hinted h) line u e = cc

more_rows : (rows : List Row) (o : Option Row) → (more : List Row) × (with_row rows o ≡ rows ++ more)
more_rows rows None = ([], sym (append-nil rows))
more_rows rows (Some r) = (r ∷ [], refl)

line_on : (g t : Reading) (line : List ℕ) → read_line g line ≡ Some t → ReadsOn g t
line_on g t line = split (step g.stage line) refl
  where
    split : (o : Option Step) → step g.stage line ≡ o → given o (λ (s : Step). let r : Reading = record { stage = s.stage; rows = with_row g.rows s.gives } in Some r) ≡ Some t → ReadsOn g t
    split None k e = cc
    split (Some u) k e =
        let now : Reading = record { stage = u.stage; rows = with_row g.rows u.gives } in
        let same : now ≡ t = cc in
        let m = more_rows g.rows u.gives in
        subst (ReadsOn g) same (record { more = m.0; rows = m.1; keeps = step_keeps g.stage line u k })

lines_on : (lines : List (List ℕ)) (g t : Reading) → read_lines g lines ≡ Some t → ReadsOn g t
lines_on [] g t e =
    let same : g ≡ t = cc in
    subst (ReadsOn g) same (record { more = []; rows = sym (append-nil g.rows); keeps = record { head = λ h k. k; hinted = λ b k. k } })
lines_on (line ∷ lines) g t e = split (read_line g line) refl e (lines_on lines)
  where
    split : (o : Option Reading) → read_line g line ≡ o → given o (λ u. read_lines u lines) ≡ Some t → ((u v : Reading) → read_lines u lines ≡ Some v → ReadsOn u v) → ReadsOn g t
    split None k f more = cc
    split (Some u) k f more =
        let a = line_on g u line k in
        let b = more u t f in
        record {
          more = a.more ++ b.more;
          rows = b.rows ∙ (ap (λ l. l ++ b.more) a.rows ∙ append_assoc g.rows a.more b.more);
          keeps = record { head = λ h k. b.keeps.head h (a.keeps.head h k); hinted = λ h k. b.keeps.hinted h (a.keeps.hinted h k) };
        }

-- ---- a log that begins with the lines

record IsFrontOf (g : Reading) (w : Written) : Type 0 where
  more : List Row
  rows : w.rows ≡ g.rows ++ more
  head : (h : Head) → head_of g.stage ≡ Some h → w.head ≡ h
  hinted : (b : Bool) → hinted_of g.stage ≡ Some b → w.hinted ≡ b

record IsEnd (s : Stage) (rows : List Row) (w : Written) : Type 0 where
  head : head_of s ≡ Some w.head
  hinted : hinted_of s ≡ Some w.hinted
  rows_are : rows ≡ w.rows

ended : (s : Stage) (rows : List Row) (w : Written) → value_at s rows ≡ Some w → IsEnd s rows w
ended (Format c) rows w e = cc
ended (InHead hinted at h) rows w e = cc
ended (Body hinted h next) rows w e = cc
ended (End hinted h) rows w e =
    let all : Written = record { hinted = hinted; head = h; rows = rows } in
    let same : all ≡ w = cc in
    record { head = ap (λ (v : Written). Some v.head) same; hinted = ap (λ (v : Written). Some v.hinted) same; rows_are = ap (λ (v : Written). v.rows) same }

front_of : (lines : List (List ℕ)) (g : Reading) (w : Written) (more : List ℕ) → AllByRecursion IsLine lines → read_lines (start false) lines ≡ Some g → Spells false w (text_of lines ++ more) → IsFrontOf g w
front_of lines g w more whole e s =
    let m = machine false in
    let r = (reads_logs false).read w (text_of lines ++ more) s in
    let f = text_front lines r.lines more whole r.whole r.all in
    let here : run m (start false) lines ≡ Some g = run_is false (start false) lines ∙ e in
    let through : run m (start false) (lines ++ f.rest) ≡ run m g f.rest = run_append m (start false) lines f.rest ∙ ap (λ (o : Option Reading). given o (λ t. run m t f.rest)) here in
    let ran : run m g f.rest ≡ Some r.last = sym through ∙ (ap (λ l. run m (start false) l) (sym f.all) ∙ r.ran) in
    let on = lines_on f.rest g r.last (sym (run_is false g f.rest) ∙ ran) in
    let end = ended r.last.stage r.last.rows w r.value in
    record {
      more = on.more;
      rows = sym end.rows_are ∙ on.rows;
      head = λ h k. one_answer (head_of r.last.stage) w.head h end.head (on.keeps.head h k);
      hinted = λ b k. one_answer (hinted_of r.last.stage) w.hinted b end.hinted (on.keeps.hinted b k);
    }

-- ---- readers

abbrev reading : ReaderView → List Row → Reading
reading r rows = record { stage = r.stage; rows = rows ++ rows_of r.ready }

pub head_known : (r : ReaderView) (fed : List ℕ) (rows : List Row) (head : Head) (hinted : Bool) → HasRead false r fed rows → head_of r.stage ≡ Some head → hinted_of r.stage ≡ Some hinted → IsHeadOf fed head hinted
head_known r fed rows head hinted h a b w more s =
    let all = h.run in
    let text = ap (λ l. l ++ more) all.all ∙ append_assoc (text_of h.lines) h.rest more in
    let f = front_of h.lines (reading r rows) w (h.rest ++ more) all.whole h.read (subst (Spells false w) text s) in
    (f.head head a, f.hinted hinted b)

-- nothing was fed
pub nothing_known : (r : ReaderView) (rows : List Row) → HasRead false r [] rows → IsUnknown r
nothing_known r rows h = by_lines h.lines h.rest (h.run).all h.read
  where
    by_lines : (lines : List (List ℕ)) (rest : List ℕ) → [] ≡ text_of lines ++ rest → read_lines (start false) lines ≡ Some (reading r rows) → IsUnknown r
    by_lines [] rest e f =
        let same : start false ≡ reading r rows = cc in
        λ head hinted k l. (let no : None ≡ Some head = ap (λ (g : Reading). head_of g.stage) same ∙ k in cc)
    by_lines ([] ∷ lines) rest e f = absurd (cc)
    by_lines ((x ∷ line) ∷ lines) rest e f = absurd (cc)

ticket_at : (next : ℕ) (a : List Row) (r : Row) (b : List Row) → AreInTurn next (a ++ r ∷ b) → r.ticket ≡ next + length a
ticket_at next [] r b h = h.0 ∙ omega arith
ticket_at next (x ∷ a) r b h = ticket_at (next + 1) a r b h.1 ∙ omega arith

-- the entry that a reader gives next
pub next_entry : (r : ReaderView) (fed : List ℕ) (rows : List Row) (e : Entry) (hints : List Hint) (rest : List HintedEntry) → HasRead false r fed rows → r.ready ≡ record { entry = e; hints = hints } ∷ rest → IsNext e (length rows)
next_entry r fed rows e hints rest h ready =
    let begins = (h.run).begins in
    let w = begins.value in
    let can = (begins.spelled).writable in
    let f = front_of h.lines (reading r rows) w begins.more (h.run).whole h.read begins.spelled in
    let here = row_of e hints in
    let behind = rows_of rest ++ f.more in
    let all : w.rows ≡ rows ++ here ∷ behind = f.rows ∙ (ap (λ l. (rows ++ rows_of l) ++ f.more) ready ∙ append_assoc rows (here ∷ rows_of rest) f.more) in
    let long = ap (λ (l : List Row). length l) all ∙ length-append rows (here ∷ behind) in
    record {
      ticket = ticket_at 0 rows here behind (subst (AreInTurn 0) all can.in_turn) ∙ omega arith;
      room = omega (arith, long, can.few);
    }
