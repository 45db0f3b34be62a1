-- What the walk over the steps asks of the words, and how it names values. No public contract cites it.
use Rattle.std.specs.Prelude.{◌<◌, List, All, length}
use Rattle.dg_base.specs.declared.Lit.{Lit}
use Rattle.bv_term.specs.declared.term.TermId.{TermId}
use Rattle.ssa_form.specs.declared.SsaPart.{SsaPart}
use Rattle.ssa_form.specs.declared.SsaStep.{SsaStep}
use Rattle.memory_models.specs.declared.EventBits.{EventBits}
use Rattle.event_graph.specs.Graphs.{Acting, bits_by, value_term}

-- the value of an action of a thread that has this handle
abbrev pub own_bits : List (List Lit) → TermId → Acting → EventBits
own_bits words own a = bits_by words (value_term own a.step.act)

-- each term has a word
abbrev pub HaveWords : List (List Lit) → List TermId → Type 0
HaveWords words ts = All (λ (t : TermId). t.0 < length words) ts

-- each guard and each value of the part's steps has a word
abbrev pub HasWords : List (List Lit) → SsaPart → Type 0
HasWords words p = All (λ (s : SsaStep). (s.guard.0 < length words) × ((value_term p.handle s.act).0 < length words)) p.steps
