-- A run over whole lines.
use Rattle.std.proofs.Common.{◌≡◌, ℕ, ◌+◌, List, [], ◌∷◌, ◌++◌, length, Option, Some, None, refl, ap, sym, ◌∙◌, subst, length-append, arith}
use Rattle.line_text.specs.Words.{Cut, cut, given}
use Rattle.line_text.specs.Lines.{IsLine, text_of}
use Rattle.line_text.proofs.Bytes.{cut_at, cut_from}
use Rattle.line_text.proofs.Texts.{all_push, front_line}
use Rattle.log_text.specs.declared.run.Run.{Run}
use Rattle.lemma_log.specs.declared.hints.HintedEntry.{HintedEntry}
use Rattle.log_text.specs.declared.stage.Stage.{Stage}
use Rattle.log_text.specs.Fed.{HasReadOn, ReaderView}
use Rattle.log_text.specs.Spelling.{rows_of}
use Rattle.log_text.specs.Machine.{Reading, read_line, read_lines, step}
use Rattle.log_text.specs.Running.{HasTaken, HasTakenLines, StopsAt, StopsBefore, reading_of}

read_push : (lines : List (List ℕ)) (line : List ℕ) (g t u : Reading) → read_lines g lines ≡ Some t → read_line t line ≡ Some u → read_lines g (lines ++ line ∷ []) ≡ Some u
read_push [] line g t u e f =
    let same : g ≡ t = cc in
    ap (λ (x : Reading). given (read_line x line) (λ v. Some v)) same ∙ ap (λ (o : Option Reading). given o (λ v. Some v)) f
read_push (l ∷ lines) line g t u e f = split (read_line g l) refl e (read_push lines line)
  where
    split : (o : Option Reading) → read_line g l ≡ o → given o (λ v. read_lines v lines) ≡ Some t
        → ((x y z : Reading) → read_lines x lines ≡ Some y → read_line y line ≡ Some z → read_lines x (lines ++ line ∷ []) ≡ Some z) → given (read_line g l) (λ v. read_lines v (lines ++ line ∷ [])) ≡ Some u
    split None k h more = cc
    split (Some v) k h more = ap (λ (o : Option Reading). given o (λ w. read_lines w (lines ++ line ∷ []))) k ∙ more v t u h f

pub taken_none : (r : Run) (bytes : List ℕ) → HasTakenLines r r bytes bytes
taken_none r bytes = record { lines = []; all = refl; whole = tt; read = refl; counted = λ k. omega arith }

pub taken_more : (old mid new : Run) (bytes rest : List ℕ) (p : Cut) → cut 10 rest ≡ Some p → HasTaken mid new p.front → HasTakenLines old mid bytes rest → HasTakenLines old new bytes p.behind
taken_more old mid new bytes rest p e taken h =
    let parts = cut_from 10 rest p e in
    let long : length (h.lines ++ p.front ∷ []) ≡ length h.lines + 1 = length-append h.lines (p.front ∷ []) in
    let count = taken.counted in
    record {
      lines = h.lines ++ p.front ∷ [];
      all = h.all ∙ (ap (λ l. text_of h.lines ++ l) parts.parts ∙ front_line h.lines p.front p.behind);
      whole = all_push IsLine h.lines p.front h.whole parts.front;
      read = read_push h.lines p.front (reading_of old) (reading_of mid) (reading_of new) h.read taken.read;
      counted = λ k. let before = h.counted k in omega (arith, long, count, before);
    }

pub taken_same : (old mid new : Run) (bytes rest line : List ℕ) → StopsAt mid new line → HasTakenLines old mid bytes rest → HasTakenLines old new bytes rest
taken_same old mid new bytes rest line s h = subst (λ r. HasTakenLines old r bytes rest) (sym s.same) h

pub stops_before : (mid new : Run) (rest : List ℕ) (p : Cut) → cut 10 rest ≡ Some p → StopsAt mid new p.front → StopsBefore new rest
stops_before mid new rest p e s =
    let parts = cut_from 10 rest p e in
    record { next = p.front; more = p.behind; is_line = parts.front; goes_on = parts.parts; stops = subst (λ (r : Run). step r.stage p.front ≡ None) (sym s.same) s.stops }

-- a reader that took a run's lines, and stopped
pub read_on_stopped : (old new : ReaderView) (first last : Run) (bytes rest : List ℕ) → first.stage ≡ old.stage → first.number ≡ old.number → first.fresh.items ≡ [] → HasTakenLines first last bytes rest → StopsBefore last rest
    → new.stage ≡ last.stage → new.number ≡ last.number → new.ready ≡ old.ready ++ last.fresh.items → new.fault ≡ Some last.number → HasReadOn old new bytes
read_on_stopped old new first last bytes rest stage number nothing t s into count ready fault =
    let from : record { stage = old.stage; rows = [] } ≡ reading_of first =
    ap (λ (x : Stage). let g : Reading = record { stage = x; rows = [] } in g) (sym stage) ∙ ap (λ (l : List HintedEntry). let g : Reading = record { stage = first.stage; rows = rows_of l } in g) (sym nothing) in
    let onto : Some (reading_of last) ≡ Some (record { stage = new.stage; rows = rows_of last.fresh.items }) = ap (λ (x : Stage). let g : Reading = record { stage = x; rows = rows_of last.fresh.items } in Some g) (sym into) in
    let p : Cut = record { front = s.next; behind = s.more } in
    let here : cut 10 rest ≡ Some p = ap (cut 10) s.goes_on ∙ cut_at 10 s.next s.more s.is_line in
    record {
      lines = t.lines;
      rest = rest;
      fresh = last.fresh.items;
      all = t.all;
      whole = t.whole;
      read = ap (λ g. read_lines g t.lines) from ∙ (t.read ∙ onto);
      ready = ready;
      number = λ k. let counted = t.counted (omega arith) in omega (arith, counted);
      held = λ none. let no : None ≡ Some last.number = sym none ∙ fault in cc;
      fault = λ line e.
          let same : Some last.number ≡ Some line = sym fault ∙ e in
          let is : last.number ≡ line = cc in (
            sym is ∙ sym count,
            record { next = s.next; more = s.more; is_line = s.is_line; goes_on = s.goes_on },
            λ q f.
                let one : Some p ≡ Some q = sym here ∙ f in
                let front : p ≡ q = cc in
                ap (λ (x : Stage). step x q.front) into ∙ subst (λ (z : Cut). step last.stage z.front ≡ None) front s.stops,
          );
    }
