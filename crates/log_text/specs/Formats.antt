-- The text of a log: a head of seven lines, a line for each entry, and a last one. A blank is 32, a minus 45.
use Rattle.std.specs.Prelude.{ℕ, zero, suc, Bool, true, false, if◌then◌else◌, List, [], ◌∷◌, ◌++◌, map, codes, decimal}
use Rattle.dg_base.specs.declared.Lit.{Lit}
use Rattle.cnf_problem.specs.Literals.{is_positive, var}
use Rattle.cnf_problem.specs.declared.problem.Head.{Head}
use Rattle.cnf_problem.specs.declared.problem.LemmaKind.{LemmaKind}
use Rattle.cnf_problem.specs.declared.problem.LemmaKind.TheVariants.{Unit as ByUnit, Cycle}
use Rattle.log_text.specs.declared.stage.HeadLine.{HeadLine}
use Rattle.log_text.specs.declared.stage.HeadLine.TheVariants.{Model, Unroll, Vars, Clauses, Nodes, Atoms}
use Rattle.line_text.specs.Lines.{text_of}
use Rattle.line_text.specs.Words.{shown}
use Rattle.lemma_log.specs.declared.hints.Hint.{Hint}
use Rattle.lemma_log.specs.declared.hints.Hint.TheVariants.{Clause, Ticket}

-- what a line tells of an entry; a text without hints has an empty list
pub record Row : Type 0 where
  pub ticket : ℕ
  pub worker : ℕ
  pub kind : LemmaKind
  pub lits : List Lit
  pub hints : List Hint

-- what a text tells: whether it has hints, the head, and the entries
pub record Written : Type 0 where
  pub hinted : Bool
  pub head : Head
  pub rows : List Row

-- ---- words

-- its variable, behind a minus where it is negated
abbrev pub lit_text : Lit → List ℕ
lit_text l = if is_positive l then decimal (var l) else 45 ∷ decimal (var l)

-- `pN` for the problem's clause N, from 1; `tN` for the entry with ticket N
abbrev pub hint_text : Hint → List ℕ
hint_text (Clause n) = 112 ∷ decimal n
hint_text (Ticket n) = 116 ∷ decimal n

abbrev pub kind_text : LemmaKind → List ℕ
kind_text ByUnit = codes "u"
kind_text Cycle = codes "c"

abbrev pub model_text : ℕ → List ℕ
model_text zero = codes "sc"
model_text (suc zero) = codes "tso"
model_text (suc (suc m)) = codes "pso"

-- ---- lines

abbrev pub first_line : Bool → List ℕ
first_line false = codes "deagle-log 1"
first_line true = codes "deagle-log 2"

abbrev pub model_line : ℕ → List ℕ
model_line m = codes "model " ++ model_text m

-- a word and a number
abbrev pub number_line : List ℕ → ℕ → List ℕ
number_line name n = name ++ decimal n

-- a line of the head
abbrev pub head_line : Head → HeadLine → List ℕ
head_line h Model = model_line h.model
head_line h Unroll = number_line (codes "unroll ") h.unroll
head_line h Vars = number_line (codes "vars ") h.vars
head_line h Clauses = number_line (codes "clauses ") h.clauses
head_line h Nodes = number_line (codes "nodes ") h.nodes
head_line h Atoms = number_line (codes "atoms ") h.atoms

abbrev pub head_lines : Head → List (List ℕ)
head_lines h = head_line h Model ∷ head_line h Unroll ∷ head_line h Vars ∷ head_line h Clauses ∷ head_line h Nodes ∷ head_line h Atoms ∷ []

-- words, separated by one blank
abbrev pub spaced : List (List ℕ) → List ℕ
spaced [] = []
spaced (w ∷ ws) = w ++ shown (λ v. v) ws

-- hints and a `0`, for a lemma by unit propagation alone
abbrev pub hint_words : LemmaKind → List Hint → List (List ℕ)
hint_words ByUnit hints = map hint_text hints ++ codes "0" ∷ []
hint_words Cycle hints = []

-- `TICKET WORKER KIND`, the literals, and `0`; in a text with hints, then these
abbrev pub row_words : Bool → Row → List (List ℕ)
row_words hinted r =
    decimal r.ticket ∷ decimal r.worker ∷ kind_text r.kind ∷ (map lit_text r.lits ++ codes "0" ∷ (if hinted then hint_words r.kind r.hints else []))

abbrev pub row_line : Bool → Row → List ℕ
row_line hinted r = spaced (row_words hinted r)

abbrev pub last_line : List ℕ
last_line = codes "end"

abbrev pub log_lines : Written → List (List ℕ)
log_lines w = first_line w.hinted ∷ (head_lines w.head ++ (map (row_line w.hinted) w.rows ++ last_line ∷ []))

abbrev pub log_text : Written → List ℕ
log_text w = text_of (log_lines w)
