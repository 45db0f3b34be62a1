-- What the reader holds begins a spelling.
use Rattle.std.proofs.Common.{◌≡◌, ℕ, suc, zero, ◌+◌, ◌-◌, List, [], ◌∷◌, ◌++◌, map, length, replicate, refl, ap, sym, ◌∙◌, subst, append_assoc, append-nil, length-append, arith}
use Rattle.std.specs.Prelude.{flat_map}
use Rattle.std.specs.List.{AllByRecursion}
use Rattle.std.proofs.lemmas.List.{length-replicate}
use Rattle.axiom_model.specs.declared.Event.{Event}
use Rattle.axiom_model.specs.declared.Candidate.{Candidate}
use Rattle.witness_text.specs.declared.reading.Stage.{Stage}
use Rattle.witness_text.specs.declared.reading.Stage.TheVariants.{Head, Between, Script, End}
use Rattle.witness_text.specs.declared.reading.Reading.{Reading}
use Rattle.line_text.specs.Lines.{Begins, text_of}
use Rattle.line_text.proofs.Texts.{begins_front, text_of_append}
use Rattle.witness_text.specs.Witness.{co_lines, first_line, last_line, rf_line, script_line, thread_lines, witness_lines}
use Rattle.witness_text.specs.Spelling.{HasEventNumbers, Spells}
use Rattle.line_text.specs.Words.{given}
use Rattle.witness_text.specs.Machine.{part_of, with_script}
use Rattle.witness_text.proofs.Spelled.{script_of}
use Rattle.c_check.proofs.PlainNames.{all_append}
use Rattle.witness_text.proofs.Holding.{Holds, co_lines_append, state}
use Rattle.witness_text.proofs.Stepping.{step_holds}

all_replicate : {A : Type 0} (P : A → Type 0) (n : ℕ) (x : A) → P x → AllByRecursion P (replicate n x)
all_replicate P zero x h = tt
all_replicate P (suc n) x h = (h, all_replicate P n x h)

regroup : (t p o e l : List (List ℕ)) → t ++ (p ++ ((o ++ e) ++ l)) ≡ (t ++ (p ++ o)) ++ (e ++ l)
regroup t p o e l = simp append_assoc

between_begins : (fs cs lines : List (List ℕ)) (c : Candidate) → Holds fs cs lines (state Between c) → Begins (Spells fs cs) lines
between_begins fs cs lines c h =
    let n = length cs - length c.co in
    let empty : List Event = [] in
    let missing = replicate n empty in
    let whole : Candidate = record c { co = c.co ++ missing } in
    let count = length-replicate n empty in
    let low = h.part.orders in
    let orders : length (c.co ++ missing) ≡ length cs = omega (arith, length-append c.co missing) in
    let threads = flat_map (thread_lines fs) c.threads in
    let pairs = map rf_line c.rf in
    let rest = co_lines cs (0 + length c.co) missing in
    let all : witness_lines fs cs whole ≡ (first_line ∷ (threads ++ (pairs ++ co_lines cs 0 c.co))) ++ (rest ++ last_line ∷ []) =
    ap (λ o. first_line ∷ (threads ++ (pairs ++ (o ++ last_line ∷ [])))) (co_lines_append cs 0 c.co missing) ∙ ap (λ l. first_line ∷ l) (regroup threads pairs (co_lines cs 0 c.co) rest (last_line ∷ [])) in
    let here : lines ++ (rest ++ last_line ∷ []) ≡ witness_lines fs cs whole = ap (λ l. l ++ (rest ++ last_line ∷ [])) h.lines_are ∙ sym all in
    record {
      value = whole;
      more = text_of (rest ++ last_line ∷ []);
      spelled = record {
        numbers = record { threads = h.part.threads; rf = h.part.rf; co = all_append (AllByRecursion HasEventNumbers) c.co missing h.part.co (all_replicate (AllByRecursion HasEventNumbers) n empty tt) };
        spellable = record { known = h.part.known; rising_handles = h.part.rising_handles; actions = h.part.actions; rising_readers = h.part.rising_readers; orders = orders };
        spelled = sym (text_of_append lines (rest ++ last_line ∷ [])) ∙ ap text_of here;
      };
    }

-- what is read to the end is spelled
pub end_spells : (fs cs lines : List (List ℕ)) (c : Candidate) → Holds fs cs lines (state End c) → Spells fs cs c (text_of lines)
end_spells fs cs lines c h = record {
  numbers = record { threads = h.part.threads; rf = h.part.rf; co = h.part.co };
  spellable = record { known = h.part.known; rising_handles = h.part.rising_handles; actions = h.part.actions; rising_readers = h.part.rising_readers; orders = h.stage };
  spelled = ap text_of h.lines_are;
}

stage_begins : (fs cs lines : List (List ℕ)) (g : Stage) (c : Candidate) → Holds fs cs lines (state g c) → Begins (Spells fs cs) lines
stage_begins fs cs lines Head c h = begins_front (Spells fs cs) lines (first_line ∷ []) (between_begins fs cs (lines ++ first_line ∷ []) c (step_holds fs cs lines (state Head c) first_line (state Between c) h refl))
stage_begins fs cs lines Between c h = between_begins fs cs lines c h
stage_begins fs cs lines (Script head) c h =
    let next : Candidate = record c { threads = c.threads ++ part_of head [] ∷ [] } in
    begins_front (Spells fs cs) lines (script_line [] ∷ [])
    (between_begins fs cs (lines ++ script_line [] ∷ []) next (step_holds fs cs lines (state (Script head) c) (script_line []) (state Between next) h (ap (λ o. given o (with_script c head)) (script_of [] tt))))
stage_begins fs cs lines End c h =
    record { value = c; more = []; spelled = subst (Spells fs cs c) (sym (append-nil (text_of lines))) (end_spells fs cs lines c h) }

pub begins_of : (fs cs lines : List (List ℕ)) (r : Reading) → Holds fs cs lines r → Begins (Spells fs cs) lines
begins_of fs cs lines r h = stage_begins fs cs lines r.stage r.candidate h
