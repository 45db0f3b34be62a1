-- The head of a program's problem, and where two heads differ.
use Rattle.std.specs.Prelude.{◌≡◌, ◌≢◌, ℕ, List, length, Option, Some, None, slice_get, take}
use Rattle.axiom_model.specs.declared.MemoryModel.{MemoryModel}
use Rattle.axiom_model.specs.declared.MemoryModel.TheVariants.{Sc, Tso, Pso}
use Rattle.c_check.specs.declared.checked.Checked.{Checked}
use Rattle.cnf_problem.specs.declared.problem.Head.{Head}
use Rattle.encode_match.specs.declared.Encoded.{Encoded}
use Rattle.log_text.specs.Spelling.{IsNumber}
use Rattle.program_log.specs.declared.heads.OtherLine.{OtherLine}

-- the number that stands for a model in a head
abbrev pub model_number : MemoryModel → ℕ
model_number Sc = 0
model_number Tso = 1
model_number Pso = 2

-- the head of the problem that was made of this program
abbrev pub head_of : Checked → Encoded → Head
head_of p x = record {
  model = model_number x.model;
  unroll = p.k;
  vars = x.problem.vars;
  clauses = length x.problem.clauses;
  nodes = length x.problem.nodes;
  atoms = length x.problem.atoms;
}

-- the first line in which they differ stands at this place; it reads so in the one and so in the other
pub record FirstOther (theirs ours : List (List ℕ)) (place : ℕ) (their_line our_line : List ℕ) : Type 0 where
  pub before : take place theirs ≡ take place ours
  pub there : slice_get theirs place ≡ Some their_line
  pub here : slice_get ours place ≡ Some our_line
  pub differ : their_line ≢ our_line

-- what was found by comparing: no line, or the first one
abbrev pub IsCompared : List (List ℕ) → List (List ℕ) → Option OtherLine → Type 0
IsCompared theirs ours None = theirs ≡ ours
IsCompared theirs ours (Some o) = FirstOther theirs ours o.place o.theirs o.ours

-- each number of a head has 32 bits
pub record HasNumbers (h : Head) : Type 0 where
  pub unroll : IsNumber h.unroll
  pub vars : IsNumber h.vars
  pub clauses : IsNumber h.clauses
  pub nodes : IsNumber h.nodes
  pub atoms : IsNumber h.atoms
