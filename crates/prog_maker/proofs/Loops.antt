-- Loops that append the lines of each number: what is there, with the lines to come, is all.
use Rattle.std.proofs.Common.{◌≡◌, ℕ, suc, ◌+◌, ◌-◌, ◌<◌, List, [], ◌∷◌, ◌++◌, map, append_assoc, ap, sym, ◌∙◌, arith}
use Rattle.std.specs.Prelude.{flat_map}
use Rattle.std.specs.List.{range_with_len}
use Rattle.line_text.specs.Lines.{text_of}
use Rattle.line_text.proofs.Texts.{text_of_append}

-- the numbers from this one on
one_more : (n i : ℕ) → i < n → range_with_len i (n - i) ≡ i ∷ range_with_len (i + 1) (n - (i + 1))
one_more n i less = let left : n - i ≡ suc (n - (i + 1)) = omega arith in ap (range_with_len i) left

-- one part more
turn : (part rest : List ℕ) (before now to_come all : List ℕ) → now ≡ before ++ part → to_come ≡ part ++ rest → before ++ to_come ≡ all → now ++ rest ≡ all
turn part rest before now to_come all e f h = ap (λ t. t ++ rest) e ∙ (append_assoc before part rest ∙ (ap (λ t. before ++ t) (sym f) ∙ h))

-- several lines for each number
pub lines_turn : (lines : ℕ → List (List ℕ)) (n i : ℕ) (before now all : List ℕ) → i < n → now ≡ before ++ text_of (lines i)
    → before ++ text_of (flat_map lines (range_with_len i (n - i))) ≡ all → now ++ text_of (flat_map lines (range_with_len (i + 1) (n - (i + 1)))) ≡ all
lines_turn lines n i before now all less e h =
    let rest = flat_map lines (range_with_len (i + 1) (n - (i + 1))) in
    let behind : text_of (flat_map lines (range_with_len i (n - i))) ≡ text_of (lines i) ++ text_of rest =
    ap (λ l. text_of (flat_map lines l)) (one_more n i less) ∙ text_of_append (lines i) rest in
    turn (text_of (lines i)) (text_of rest) before now (text_of (flat_map lines (range_with_len i (n - i)))) all e behind h

-- one line for each number
pub line_turn : (line : ℕ → List ℕ) (n i : ℕ) (before now all : List ℕ) → i < n → now ≡ before ++ (line i ++ 10 ∷ [])
    → before ++ text_of (map line (range_with_len i (n - i))) ≡ all → now ++ text_of (map line (range_with_len (i + 1) (n - (i + 1)))) ≡ all
line_turn line n i before now all less e h =
    let rest = map line (range_with_len (i + 1) (n - (i + 1))) in
    let behind : text_of (map line (range_with_len i (n - i))) ≡ (line i ++ 10 ∷ []) ++ text_of rest = ap (λ l. text_of (map line l)) (one_more n i less) in
    turn (line i ++ 10 ∷ []) (text_of rest) before now (text_of (map line (range_with_len i (n - i)))) all e behind h
