-- Lines that are written part by part.
use Rattle.std.proofs.Common.{◌≡◌, ℕ, List, [], ◌∷◌, ◌++◌, append_assoc, append-nil, ap, sym, ◌∙◌}
use Rattle.std.specs.Prelude.{OnOk, Result}
use Rattle.std.proofs.lemmas.Result.{on_ok_weaker}
use Rattle.line_text.specs.Lines.{text_of}
use Rattle.line_text.proofs.Texts.{text_of_append, then_part}

-- the last part behind the others, where it was written
pub last_part : {T E : Type 0} (r : Result T E) (before written after all part : List ℕ) → OnOk r (after ≡ before ++ part) → before ≡ written → written ++ part ≡ all → OnOk r (after ≡ all)
last_part r before written after all part h e f = on_ok_weaker r (λ (g : after ≡ before ++ part). then_part part e g ∙ f) h

-- a line with one number
pub one_number : (o a x b : List ℕ) → (o ++ (a ++ x)) ++ (b ++ 10 ∷ []) ≡ o ++ ((a ++ (x ++ b)) ++ 10 ∷ [])
one_number o a x b = simp append_assoc

-- a line with four numbers
pub four_numbers : (o a x b y c z d w e : List ℕ) → ((((o ++ (a ++ x)) ++ (b ++ y)) ++ (c ++ z)) ++ (d ++ w)) ++ (e ++ 10 ∷ []) ≡ o ++ ((a ++ x ++ b ++ y ++ c ++ z ++ d ++ w ++ e) ++ 10 ∷ [])
four_numbers o a x b y c z d w e = simp append_assoc

-- a line and another one with a number
pub line_and_number : (o a b x c : List ℕ) → (o ++ ((a ++ 10 ∷ b) ++ x)) ++ (c ++ 10 ∷ []) ≡ o ++ ((a ++ 10 ∷ []) ++ (((b ++ (x ++ c)) ++ 10 ∷ []) ++ []))
line_and_number o a b x c = simp (append_assoc, append-nil)

-- two lines with two numbers each
pub two_and_two : (o a x b y c d z e w f : List ℕ) → (((((o ++ (a ++ x)) ++ (b ++ y)) ++ (c ++ 10 ∷ [])) ++ (d ++ z)) ++ (e ++ w)) ++ (f ++ 10 ∷ [])
    ≡ o ++ (((a ++ x ++ b ++ y ++ c) ++ 10 ∷ []) ++ (((d ++ z ++ e ++ w ++ f) ++ 10 ∷ []) ++ []))
two_and_two o a x b y c d z e w f = simp (append_assoc, append-nil)

-- three lines
pub three_lines : (o a b c : List ℕ) → ((o ++ a) ++ b) ++ c ≡ o ++ (a ++ (b ++ (c ++ [])))
three_lines o a b c = simp (append_assoc, append-nil)

-- one more block of lines behind what was there
block : (o : List ℕ) (before more : List (List ℕ)) → (o ++ text_of before) ++ text_of more ≡ o ++ text_of (before ++ more)
block o before more = append_assoc o (text_of before) (text_of more) ∙ ap (λ t. o ++ t) (sym (text_of_append before more))

-- six blocks of lines
pub six_blocks : (o : List ℕ) (a b c d e f : List (List ℕ)) → (((((o ++ text_of a) ++ text_of b) ++ text_of c) ++ text_of d) ++ text_of e) ++ text_of f ≡ o ++ text_of (a ++ b ++ c ++ d ++ e ++ f)
six_blocks o a b c d e f =
    let two = block o a b in
    let three = ap (λ t. t ++ text_of c) two ∙ block o (a ++ b) c in
    let four = ap (λ t. t ++ text_of d) three ∙ block o (a ++ b ++ c) d in
    let five = ap (λ t. t ++ text_of e) four ∙ block o (a ++ b ++ c ++ d) e in
    ap (λ t. t ++ text_of f) five ∙ block o (a ++ b ++ c ++ d ++ e) f
