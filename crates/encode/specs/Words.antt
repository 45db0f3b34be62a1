-- Which terms have words. No public contract cites it.
use Rattle.std.specs.Prelude.{◌<◌, List, All, Option, Some, None, length}
use Rattle.dg_base.specs.declared.Lit.{Lit}
use Rattle.bv_term.specs.declared.term.TermId.{TermId}
use Rattle.ssa_form.specs.declared.SsaPart.{SsaPart}
use Rattle.ssa_form.specs.declared.SsaStep.{SsaStep}
use Rattle.ssa_form.specs.declared.SsaAct.{SsaAct}
use Rattle.ssa_form.specs.declared.SsaAct.TheVariants as act
use Rattle.ssa_form.specs.Parts.{input_of}

abbrev pub HasWord : List (List Lit) → TermId → Type 0
HasWord words t = t.0 < length words

-- each guard has a word
abbrev pub HaveGuards : List (List Lit) → List SsaStep → Type 0
HaveGuards words ss = All (λ (s : SsaStep). HasWord words s.guard) ss

abbrev pub AllHaveGuards : List (List Lit) → List SsaPart → Type 0
AllHaveGuards words ps = All (λ (p : SsaPart). HaveGuards words p.steps) ps

-- the number that a step takes
abbrev pub taken_of : SsaAct → Option TermId
taken_of (act.Take t) = Some t
taken_of (act.Read c t) = Some t
taken_of _ = None

-- each guard, and each number that is taken, has a word
abbrev pub HaveTaken : List (List Lit) → List SsaStep → Type 0
HaveTaken words ss = All (λ (s : SsaStep). HasWord words s.guard × All (HasWord words) (input_of s.act)) ss

abbrev pub HaveParts : List (List Lit) → List SsaPart → Type 0
HaveParts words ps = All (λ (p : SsaPart). HasWord words p.arg × HaveTaken words p.steps) ps
