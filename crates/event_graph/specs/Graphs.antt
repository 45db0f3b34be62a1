-- The static events of a single assignment form.
use Rattle.std.specs.Prelude.{ℕ, ◌+◌, List, [], ◌∷◌, ◌++◌, Option, Some, None, length, map, slice_get, slice_index_or, unwrap_or}
use Rattle.dg_base.specs.declared.Lit.{Lit}
use Rattle.bv_term.specs.declared.term.TermId.{TermId}
use Rattle.cnf_problem.specs.Formulas.{true_lit}
use Rattle.bit_blast.specs.Blasting.{word_at}
use Rattle.flat_prog.specs.declared.Flat.{Flat}
use Rattle.flat_prog.specs.Sections.{Mark, Opens, Closes, Acts, Silent}
use Rattle.ssa_form.specs.declared.Ssa.{Ssa}
use Rattle.ssa_form.specs.declared.SsaPart.{SsaPart}
use Rattle.ssa_form.specs.declared.SsaStep.{SsaStep}
use Rattle.ssa_form.specs.declared.SsaAct.{SsaAct}
use Rattle.ssa_form.specs.declared.SsaAct.TheVariants as act
use Rattle.ssa_form.specs.Parts.{mark_of}
use Rattle.ssa_form.specs.Form.{IsSsaOf}
use Rattle.memory_models.specs.declared.StaticEvent.{StaticEvent}
use Rattle.memory_models.specs.declared.StaticKind.{StaticKind}
use Rattle.memory_models.specs.declared.StaticKind.TheVariants as kind
use Rattle.memory_models.specs.declared.EventBits.{EventBits}

-- the form is one of some flat program
pub record IsFormOfSome (x : Ssa) : Type 0 where
  pub flat : Flat
  pub form : IsSsaOf flat x

-- ---- actions

-- an action that a thread may make: of which instance, by which step, and in which block
pub record Acting : Type 0 where
  pub instance : ℕ
  pub step : SsaStep
  pub block : ℕ

-- what a step is as a static event; none where it makes no action
abbrev pub kind_of : SsaAct → Option StaticKind
kind_of (act.Read c t) = Some kind.Read
kind_of (act.Write c t) = Some kind.Write
kind_of act.Open = Some kind.Full
kind_of act.Close = Some kind.Full
kind_of act.Fence = Some kind.Full
kind_of (act.Create i handle arg) = Some (kind.Create i)
kind_of (act.Join handle) = Some kind.Join
kind_of act.Start = Some kind.Start
kind_of act.End = Some kind.End
kind_of (act.Take t) = None
kind_of act.Stop = None
kind_of act.Bad = None
kind_of (act.Fail p tag) = None

-- the action of a step, if it makes one: in the block of the section that is open, or in one of its own, with the number n
abbrev pub acting_by : ℕ → ℕ → Option ℕ → SsaStep → Option StaticKind → List Acting
acting_by i n section s None = []
acting_by i n section s (Some k) = record { instance = i; step = s; block = unwrap_or section n } ∷ []

-- the number of the next action behind a step
abbrev pub next_behind : ℕ → Option StaticKind → ℕ
next_behind n None = n
next_behind n (Some k) = n + 1

-- the section that is open behind a step: its number is its first action's
abbrev pub section_behind : ℕ → Option ℕ → Mark → Option ℕ
section_behind n section Opens = Some n
section_behind n section Closes = None
section_behind n section Acts = section
section_behind n section Silent = section

-- the actions of an instance's steps, where the next action has the number n
abbrev pub acting_in : ℕ → ℕ → Option ℕ → List SsaStep → List Acting
acting_in i n section [] = []
acting_in i n section (s ∷ ss) = acting_by i n section s (kind_of s.act) ++ acting_in i (next_behind n (kind_of s.act)) (section_behind n section (mark_of s.act)) ss

-- the actions of all instances from number i on
abbrev pub acting_in_all : ℕ → ℕ → List SsaPart → List Acting
acting_in_all i n [] = []
acting_in_all i n (p ∷ ps) = acting_in i n None p.steps ++ acting_in_all (i + 1) (n + length (acting_in i n None p.steps)) ps

-- the actions of all instances; the initial writes have the first numbers
abbrev pub acting : Ssa → List Acting
acting x = acting_in_all 0 (length x.initials) x.parts

-- ---- events

-- the literal that is true where a term is odd: for a guard, where it is 1
abbrev pub guard_lit : List (List Lit) → TermId → Lit
guard_lit words t = slice_index_or (word_at words t.0) 0 true_lit

-- the cell of an access
abbrev pub cell_of : SsaAct → ℕ
cell_of (act.Read c t) = c
cell_of (act.Write c t) = c
cell_of _ = 0

abbrev pub event_of : List (List Lit) → Acting → StaticEvent
event_of words a = record {
  instance = a.instance;
  kind = unwrap_or (kind_of a.step.act) kind.Full;
  cell = cell_of a.step.act;
  guard = guard_lit words a.step.guard;
  block = a.block;
}

-- no instance
abbrev pub nobody : ℕ
nobody = 4294967295

abbrev pub initial_event : ℕ → StaticEvent
initial_event c = record { instance = nobody; kind = kind.Initial; cell = c; guard = true_lit; block = c }

-- the initial writes of the cells from number c on
abbrev pub initial_events : ℕ → List TermId → List StaticEvent
initial_events c [] = []
initial_events c (t ∷ ts) = initial_event c ∷ initial_events (c + 1) ts

abbrev pub events_of : Ssa → List (List Lit) → List StaticEvent
events_of x words = initial_events 0 x.initials ++ map (event_of words) (acting x)

-- ---- values

-- the handle of a part
abbrev pub handle_in : Option SsaPart → TermId
handle_in None = record { 0 = 0 }
handle_in (Some p) = p.handle

-- the term whose value goes with an action of a thread that has this handle
abbrev pub value_term : TermId → SsaAct → TermId
value_term own (act.Read c t) = t
value_term own (act.Write c t) = t
value_term own (act.Create j handle arg) = handle
value_term own (act.Join handle) = handle
value_term own _ = own

abbrev pub bits_by : List (List Lit) → TermId → EventBits
bits_by words t = record { bits = word_at words t.0 }

-- the value of an action of one of these parts
abbrev pub bits_in : List SsaPart → List (List Lit) → Acting → EventBits
bits_in ps words a = bits_by words (value_term (handle_in (slice_get ps a.instance)) a.step.act)

abbrev pub bits_of : Ssa → List (List Lit) → List EventBits
bits_of x words = map (bits_by words) x.initials ++ map (bits_in x.parts words) (acting x)
