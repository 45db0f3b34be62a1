-- What the reader holds: the lines read so far are the first lines of a text.
use Rattle.std.proofs.Common.{◌≡◌, ℕ, suc, ◌+◌, ◌<◌, ◌≤◌, true, List, [], ◌∷◌, ◌++◌, map, length, refl, ap, sym, ◌∙◌, arith}
use Rattle.std.specs.Prelude.{flat_map}
use Rattle.std.specs.List.{AllByRecursion}
use Rattle.axiom_model.specs.declared.Event.{Event}
use Rattle.axiom_model.specs.declared.RfPair.{RfPair}
use Rattle.axiom_model.specs.declared.ThreadPart.{ThreadPart}
use Rattle.axiom_model.specs.declared.Candidate.{Candidate}
use Rattle.witness_text.specs.declared.lines.ThreadHead.{ThreadHead}
use Rattle.witness_text.specs.declared.reading.Stage.{Stage}
use Rattle.witness_text.specs.declared.reading.Stage.TheVariants.{Head, Between, Script, End}
use Rattle.witness_text.specs.declared.reading.Reading.{Reading}
use Rattle.witness_text.specs.Witness.{co_line, co_lines, first_line, name_at, rf_line, thread_line, thread_lines, witness_lines}
use Rattle.witness_text.specs.Spelling.{HasEventNumbers, HasPairNumbers, HasThreadNumbers, IsNumber, handle_before, is_action, reader_before, rises}
use Rattle.witness_text.specs.Machine.{is_empty, may_follow, no_candidate, part_of, start}

-- the lines that a state was read from
abbrev pub written_at : List (List ℕ) → List (List ℕ) → Stage → Candidate → List (List ℕ)
written_at fs cs Head c = []
written_at fs cs Between c = first_line ∷ (flat_map (thread_lines fs) c.threads ++ (map rf_line c.rf ++ co_lines cs 0 c.co))
written_at fs cs (Script h) c = first_line ∷ (flat_map (thread_lines fs) c.threads ++ thread_line fs h.handle h.function h.arg ∷ [])
written_at fs cs End c = witness_lines fs cs c

abbrev pub written : List (List ℕ) → List (List ℕ) → Reading → List (List ℕ)
written fs cs r = written_at fs cs r.stage r.candidate

-- A part of a candidate that has a text.
pub record IsPart (fs cs : List (List ℕ)) (c : Candidate) : Type 0 where
  pub threads : AllByRecursion HasThreadNumbers c.threads
  pub rf : AllByRecursion HasPairNumbers c.rf
  pub co : AllByRecursion (AllByRecursion HasEventNumbers) c.co
  pub known : AllByRecursion (λ (p : ThreadPart). p.function < length fs) c.threads
  pub rising_handles : rises handle_before c.threads ≡ true
  pub actions : AllByRecursion (λ (p : RfPair). is_action p.reader ≡ true) c.rf
  pub rising_readers : rises reader_before c.rf ≡ true
  pub orders : length c.co ≤ length cs

pub record IsBegun (fs : List (List ℕ)) (c : Candidate) (h : ThreadHead) : Type 0 where
  pub rf : c.rf ≡ []
  pub co : c.co ≡ []
  pub handle : IsNumber h.handle
  pub function : IsNumber h.function
  pub arg : IsNumber h.arg
  pub known : h.function < length fs
  pub follows : may_follow handle_before c.threads (part_of h []) ≡ true

abbrev pub FitsStage : List (List ℕ) → List (List ℕ) → Stage → Candidate → Type 0
FitsStage fs cs Head c = c ≡ no_candidate
FitsStage fs cs Between c = Unit {0}
FitsStage fs cs (Script h) c = IsBegun fs c h
FitsStage fs cs End c = length c.co ≡ length cs

-- A state that was read from these lines.
pub record Holds (fs cs : List (List ℕ)) (lines : List (List ℕ)) (r : Reading) : Type 0 where
  pub part : IsPart fs cs r.candidate
  pub stage : FitsStage fs cs r.stage r.candidate
  pub lines_are : lines ≡ written fs cs r

abbrev pub state : Stage → Candidate → Reading
state s c = record { stage = s; candidate = c }

pub is_empty_nil : {A : Type 0} (xs : List A) → is_empty xs ≡ true → xs ≡ []
is_empty_nil [] h = refl
is_empty_nil (x ∷ xs) h = cc

pub start_holds : (fs cs : List (List ℕ)) → Holds fs cs [] start
start_holds fs cs = record {
  part = record { threads = tt; rf = tt; co = tt; known = tt; rising_handles = refl; actions = tt; rising_readers = refl; orders = omega arith };
  stage = refl;
  lines_are = refl;
}

pub co_lines_append : (cs : List (List ℕ)) (i : ℕ) (a b : List (List Event)) → co_lines cs i (a ++ b) ≡ co_lines cs i a ++ co_lines cs (i + length a) b
co_lines_append cs i [] b = let n : i + 0 ≡ i = omega arith in ap (λ k. co_lines cs k b) (sym n)
co_lines_append cs i (es ∷ a) b =
    let n : (i + 1) + length a ≡ i + suc (length a) = omega arith in
    ap (λ l. co_line (name_at cs i) es ∷ l) (co_lines_append cs (i + 1) a b ∙ ap (λ k. co_lines cs (i + 1) a ++ co_lines cs k b) n)
