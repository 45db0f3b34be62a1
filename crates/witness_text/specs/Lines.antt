-- What the lines of a text say, and their parts.
use Rattle.std.specs.Prelude.{ℕ, ◌^◌, nat_lt, if◌then◌else◌, List, codes, Option, Some, None, bytes_eq}
use Rattle.std.specs.List.{position}
use Rattle.line_text.specs.Words.{Cut, cut, given, number_in, strip, words_in}
use Rattle.axiom_model.specs.declared.Event.{Event}
use Rattle.axiom_model.specs.declared.Event.TheVariants.{Initial, At}
use Rattle.axiom_model.specs.declared.RfPair.{RfPair}
use Rattle.witness_text.specs.declared.lines.ThreadHead.{ThreadHead}

-- `H.I`
abbrev pub action_in : List ℕ → Option Event
action_in text = given (cut 46 text) (λ (p : Cut). given (number_in p.front) (λ h. given (number_in p.behind) (λ i. Some (At h i))))

abbrev pub event_in : List ℕ → Option Event
event_in text = if bytes_eq text (codes "init") then Some Initial else action_in text

-- the first function with this name
abbrev pub narrow : ℕ → Option ℕ
narrow i = if nat_lt i (2 ^ 32) then Some i else None

abbrev pub function_in : List (List ℕ) → List ℕ → Option ℕ
function_in functions name = given (position (λ f. bytes_eq f name) functions) narrow

-- What stands behind the first word of a line.
abbrev pub head_in : List (List ℕ) → List ℕ → Option ThreadHead
head_in functions text =
    given (cut 32 text) (λ (p : Cut). given (cut 32 p.behind) (λ (q : Cut).
    given (number_in p.front) (λ h. given (function_in functions q.front) (λ f. given (number_in q.behind) (λ a. Some (record { handle = h; function = f; arg = a }))))))

abbrev pub source_in : List ℕ → Option RfPair
source_in text = given (cut 32 text) (λ (p : Cut). given (action_in p.front) (λ r. given (event_in p.behind) (λ s. Some (record { reader = r; source = s }))))

abbrev pub order_in : List ℕ → List ℕ → Option (List Event)
order_in cell text = given (strip cell text) (words_in event_in)

abbrev pub script_in : List ℕ → Option (List ℕ)
script_in line = given (strip (codes "script") line) (words_in number_in)
