-- The loop over the pieces of a text.
use Rattle.std.proofs.Common.{◌≡◌, ℕ, zero, suc, ◌+◌, ◌-◌, ◌<◌, ◌≤◌, Bool, true, false, cond, List, [], ◌∷◌, ◌++◌, length, take, drop, Some, None, Result, Ok, Err, refl, sym, ap, ◌∙◌, arith, append_assoc, append-nil, length-append, length-drop, length-take-le, nat_eq}
use Rattle.dg_base.specs.declared.Place.{Place}
use Rattle.c_token.specs.declared.pieces.Front.{Front}
use Rattle.c_token.specs.declared.pieces.Mode.{Mode}
use Rattle.c_token.specs.declared.pieces.Mode.TheVariants.{LineStart}
use Rattle.c_token.specs.Pieces.{front, mode_after, beginning, behind, Segment, put, cut, segments, all_segments}

-- with these segments in front
abbrev pub put_all : List Segment → Result (List Segment) Place → Result (List Segment) Place
put_all ss (Ok more) = Ok (ss ++ more)
put_all ss (Err p) = Err p

put_none : (r : Result (List Segment) Place) → put_all [] r ≡ r
put_none (Ok more) = refl
put_none (Err p) = refl

put_last : (ss : List Segment) (s : Segment) (r : Result (List Segment) Place) → put_all ss (put s r) ≡ put_all (ss ++ s ∷ []) r
put_last ss s (Ok more) = ap Ok (simp append_assoc)
put_last ss s (Err p) = refl

-- the place behind one byte
abbrev past_byte : Bool → Place → Place
past_byte t p = cond t (record { line = p.line + 1; col = 1 }) (record { line = p.line; col = p.col + 1 })

past_byte_fits : (t : Bool) (p : Place) → ((past_byte t p).line ≤ p.line + 1) × ((past_byte t p).col ≤ p.col + 1)
past_byte_fits true p = (omega arith, omega arith)
past_byte_fits false p = (omega arith, omega arith)

-- lines and columns go no further than the bytes
behind_fits : (p : Place) (w : List ℕ) → ((behind p w).line ≤ p.line + length w) × ((behind p w).col ≤ p.col + length w)
behind_fits p [] = (omega arith, omega arith)
behind_fits p (b ∷ bs) =
    let step = past_byte_fits (nat_eq b 10) p in
    let more = behind_fits (past_byte (nat_eq b 10) p) bs in
    (omega (arith, step.0, more.0), omega (arith, step.1, more.1))

-- a text is split as far as this: these segments, and a rest that begins in this mode at this place
pub record Splits (text : List ℕ) (done : List Segment) (mode : Mode) (place : Place) (rest : List ℕ) : Type 0 where
  pub fuel : length done + length rest ≤ length text
  pub goes : put_all done (segments (length text - length done) mode place rest) ≡ all_segments text
  pub line : place.line + length rest ≤ length text + 1
  pub col : place.col + length rest ≤ length text + 1

pub splits_none : (text : List ℕ) → Splits text [] LineStart beginning text
splits_none text =
    let fuel : length text - 0 ≡ length text = omega arith in
    record { fuel = omega arith; goes = put_none _ ∙ ap (λ n. segments n LineStart beginning text) fuel; line = omega arith; col = omega arith }

-- the segment of a piece at the front
abbrev pub front_segment : Place → List ℕ → Front → Segment
front_segment p text f = record { piece = f.piece; place = p; text = take f.len text }

segments_found : (n : ℕ) (mode : Mode) (p : Place) (text : List ℕ) (f : Front) → 0 < length text → front mode text ≡ Some f
    → segments (suc n) mode p text ≡ put (front_segment p text f) (segments n (mode_after mode f.piece (take f.len text)) (behind p (take f.len text)) (drop f.len text))
segments_found n mode p [] f h e = absurd (omega arith)
segments_found n mode p (b ∷ bs) f h e = ap (λ o. cut p (b ∷ bs) o (λ s rest. segments n (mode_after mode s.piece s.text) (behind p s.text) rest)) e

segments_stuck : (n : ℕ) (mode : Mode) (p : Place) (text : List ℕ) → 0 < length text → front mode text ≡ None → segments (suc n) mode p text ≡ Err p
segments_stuck n mode p [] h e = absurd (omega arith)
segments_stuck n mode p (b ∷ bs) h e = ap (λ o. cut p (b ∷ bs) o (λ s rest. segments n (mode_after mode s.piece s.text) (behind p s.text) rest)) e

segments_end : (n : ℕ) (mode : Mode) (p : Place) → segments n mode p [] ≡ Ok []
segments_end zero mode p = refl
segments_end (suc n) mode p = refl

-- one more piece is split off
pub splits_more : (text : List ℕ) (done : List Segment) (mode : Mode) (place : Place) (rest : List ℕ) (f : Front) (w after : List ℕ)
    → Splits text done mode place rest → front mode rest ≡ Some f → 0 < f.len → f.len ≤ length rest → w ≡ take f.len rest → after ≡ drop f.len rest
    → Splits text (done ++ record { piece = f.piece; place = place; text = w } ∷ []) (mode_after mode f.piece w) (behind place w) after
splits_more text done mode place rest f w after s e some fits is_front is_rest =
    let fuel : length text - length done ≡ suc (length text - (length done + 1)) = omega (arith, s.fuel) in
    let found = segments_found (length text - (length done + 1)) mode place rest f (omega arith) e in
    let len : length (done ++ front_segment place rest f ∷ []) ≡ length done + 1 = length-append done _ in
    let cut_len : length (drop f.len rest) ≡ length rest - f.len = length-drop f.len rest in
    let word_len : length (take f.len rest) ≡ f.len = length-take-le f.len rest fits in
    let moved = behind_fits place (take f.len rest) in
    let all : Splits text (done ++ front_segment place rest f ∷ []) (mode_after mode f.piece (take f.len rest)) (behind place (take f.len rest)) (drop f.len rest) = record {
      fuel = omega (arith, s.fuel, len, cut_len);
      goes =
          rw (len)
          (sym (put_last done (front_segment place rest f) _)
          ∙ (ap (put_all done) (sym found ∙ ap (λ n. segments n mode place rest) (sym fuel)) ∙ s.goes));
      line = omega (arith, s.line, cut_len, word_len, moved.0);
      col = omega (arith, s.col, cut_len, word_len, moved.1);
    } in
    rw (is_front, is_rest) all

-- all of the text is split
pub splits_all : (text : List ℕ) (done : List Segment) (mode : Mode) (place : Place) → Splits text done mode place [] → all_segments text ≡ Ok done
splits_all text done mode place s = sym s.goes ∙ (ap (put_all done) (segments_end _ mode place) ∙ ap Ok (append-nil done))

-- a byte begins no piece
pub splits_stuck : (text : List ℕ) (done : List Segment) (mode : Mode) (place : Place) (rest : List ℕ) → Splits text done mode place rest → 0 < length rest → front mode rest ≡ None
    → all_segments text ≡ Err place
splits_stuck text done mode place rest s some e =
    let fuel : length text - length done ≡ suc (length text - (length done + 1)) = omega (arith, s.fuel) in
    sym s.goes ∙ ap (put_all done) (ap (λ n. segments n mode place rest) fuel ∙ segments_stuck _ mode place rest some e)
