-- A text that spells nothing is refused at a line.
use Rattle.std.proofs.Common.{◌≡◌, ℕ, zero, suc, ◌<◌, List, [], ◌∷◌, ◌++◌, map, length, refl, ap, ◌∙◌, arith, length-append}
use Rattle.std.specs.List.{AllByRecursion}
use Rattle.std.proofs.lemmas.List.{length-map}
use Rattle.axiom_model.specs.declared.Event.{Event}
use Rattle.axiom_model.specs.declared.Candidate.{Candidate}
use Rattle.line_text.specs.Lines.{Begins, IsLine, Refuses, text_of, told}
use Rattle.line_text.proofs.Texts.{all_push, front_line}
use Rattle.witness_text.specs.Witness.{witness_text}
use Rattle.witness_text.specs.Spelling.{HasEventNumbers, Spells}
use Rattle.answer_laws.specs.Laws.{WitnessesAreSpelledOrRefused}

-- ---- any kind of text of which there is a spelling

module _ {V : Type 0} (Means : V → List ℕ → Type 0) (text : List ℕ) (none : (v : V) → Means v text → ⊥) (never : (line : ℕ) → Refuses Means text line → ⊥) where
  -- a run of whole lines is the longest one, or goes on
  no_run : (n : ℕ) (lines : List (List ℕ)) (rest : List ℕ) → length rest < n → text ≡ text_of lines ++ rest → AllByRecursion IsLine lines → Begins Means lines → ⊥
  no_run zero lines rest h e w b = absurd (omega arith)
  no_run (suc n) lines rest h e w b =
      never (told (suc (length lines))) (record {
        none = none;
        lines = lines;
        rest = rest;
        run = record {
          all = e;
          whole = w;
          begins = b;
          ends = λ line more plain is begins.
              let long = ap (λ (l : List ℕ). length l) is in
              let parts = length-append line (10 ∷ more) in
              no_run n (lines ++ line ∷ []) more (omega arith) (e ∙ ap (λ t. text_of lines ++ t) is ∙ front_line lines line more) (all_push IsLine lines line w plain) begins;
        };
        number = refl;
      })

  not_neither : Begins Means [] → ⊥
  not_neither b = no_run (suc (length text)) [] text (omega arith) refl tt b

-- ---- some candidate has a text

abbrev no_order : List ℕ → List Event
no_order cell = []

-- no threads, no pairs, and an empty order for each cell
abbrev empty_candidate : List (List ℕ) → Candidate
empty_candidate cells = record { threads = []; rf = []; co = map no_order cells }

orders_numbered : (cells : List (List ℕ)) → AllByRecursion (AllByRecursion HasEventNumbers) (map no_order cells)
orders_numbered [] = tt
orders_numbered (c ∷ cells) = (tt, orders_numbered cells)

-- some spelling begins with no lines
begins_empty : (functions cells : List (List ℕ)) → Begins (Spells functions cells) []
begins_empty functions cells = record {
  value = empty_candidate cells;
  more = witness_text functions cells (empty_candidate cells);
  spelled = record {
    numbers = record { threads = tt; rf = tt; co = orders_numbered cells };
    spellable = record { known = tt; rising_handles = refl; actions = tt; rising_readers = refl; orders = length-map cells no_order };
    spelled = refl;
  };
}

pub spelled_or_refused : WitnessesAreSpelledOrRefused
spelled_or_refused functions cells text none never = not_neither (Spells functions cells) text none never (begins_empty functions cells)
