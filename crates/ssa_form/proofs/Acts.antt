-- What an act of an instance is in single assignment, form by form.
use Rattle.std.proofs.Common.{◌≡◌, ◌≢◌, ℕ, ◌⊎◌, inl, inr, true, false, List, [], ◌∷◌, map, ◌<◌, Option, Some, None, refl, ap, sym, ◌∙◌}
use Rattle.std.specs.Prelude.{All}
use Rattle.std.proofs.lemmas.List.Elements.{All-nil, All-cons, All-head}
use Rattle.dg_base.specs.Values.{value_of}
use Rattle.bv_term.specs.declared.term.TermId.{TermId}
use Rattle.flat_prog.specs.declared.FlatAct.{FlatAct}
use Rattle.flat_prog.specs.declared.FlatAct.TheVariants as flat
use Rattle.flat_prog.specs.Runs.{with_local}
use Rattle.flat_prog.specs.Sections.{Silent}
use Rattle.flat_prog.specs.Shape as shape
use Rattle.ssa_form.specs.declared.SsaAct.{SsaAct}
use Rattle.ssa_form.specs.declared.SsaAct.TheVariants.{Take, Read, Write, Open, Close, Fence, Create, Join, Start, End, Stop, Bad, Fail}
use Rattle.ssa_form.specs.declared.walk.Named.{Named}
use Rattle.ssa_form.specs.Parts.{Valuation, input_of, terms_of, created_by, cells_of, mark_of, ending_by}
use Rattle.ssa_form.specs.Walks.{act_by, target, is_end, is_taking, Says, changed}

-- an act that makes no step: it is silent, no end, and creates nothing
pub record Quiet (a : FlatAct) (n : Named) : Type 0 where
  pub none : act_by a n ≡ None
  pub mark : shape.mark_of a ≡ Silent
  pub goes_on : is_end a ≡ false
  pub created : shape.created_by a ≡ []
  pub takes : is_taking a ≡ false

-- an act that makes a step
pub record Loud (a : FlatAct) (n : Named) : Type 0 where
  pub act : SsaAct
  pub some : act_by a n ≡ Some act
  pub mark : mark_of act ≡ shape.mark_of a
  pub ends : ending_by act ≢ None → is_end a ≡ true
  pub no_start : act ≢ Start
  pub created : created_by act ≡ shape.created_by a

pub kinds : (a : FlatAct) (n : Named) → Quiet a n ⊎ Loud a n
kinds (flat.Set to op args) n = inl (record { none = refl; mark = refl; goes_on = refl; created = refl; takes = refl })
kinds (flat.Put to v) n = inl (record { none = refl; mark = refl; goes_on = refl; created = refl; takes = refl })
kinds (flat.Take to) n = inr (record { act = Take n.first; some = refl; mark = refl; ends = λ h. absurd (h refl); no_start = λ e. cc; created = refl })
kinds (flat.Read c to) n = inr (record { act = Read c n.first; some = refl; mark = refl; ends = λ h. absurd (h refl); no_start = λ e. cc; created = refl })
kinds (flat.Write c from) n = inr (record { act = Write c n.first; some = refl; mark = refl; ends = λ h. absurd (h refl); no_start = λ e. cc; created = refl })
kinds flat.Open n = inr (record { act = Open; some = refl; mark = refl; ends = λ h. absurd (h refl); no_start = λ e. cc; created = refl })
kinds flat.Close n = inr (record { act = Close; some = refl; mark = refl; ends = λ h. absurd (h refl); no_start = λ e. cc; created = refl })
kinds flat.Fence n = inr (record { act = Fence; some = refl; mark = refl; ends = λ h. absurd (h refl); no_start = λ e. cc; created = refl })
kinds (flat.Create i handle arg) n = inr (record { act = Create i n.first n.second; some = refl; mark = refl; ends = λ h. absurd (h refl); no_start = λ e. cc; created = refl })
kinds (flat.Join from) n = inr (record { act = Join n.first; some = refl; mark = refl; ends = λ h. absurd (h refl); no_start = λ e. cc; created = refl })
kinds flat.End n = inr (record { act = End; some = refl; mark = refl; ends = λ h. refl; no_start = λ e. cc; created = refl })
kinds flat.Stop n = inr (record { act = Stop; some = refl; mark = refl; ends = λ h. refl; no_start = λ e. cc; created = refl })
kinds flat.Bad n = inr (record { act = Bad; some = refl; mark = refl; ends = λ h. refl; no_start = λ e. cc; created = refl })
kinds (flat.Fail p tag) n = inr (record { act = Fail p tag; some = refl; mark = refl; ends = λ h. refl; no_start = λ e. cc; created = refl })

-- the cells, inputs and terms of a step that there may be
abbrev pub cells_by : Option SsaAct → List ℕ
cells_by None = []
cells_by (Some a) = cells_of a

abbrev pub terms_by : Option SsaAct → List TermId
terms_by None = []
terms_by (Some a) = terms_of a

abbrev pub inputs_by : Option SsaAct → List TermId
inputs_by None = []
inputs_by (Some a) = input_of a

-- the cells of a step are among those of the program
pub cells_fit : (a : FlatAct) (n : Named) (locals cells : ℕ) → shape.ActFits locals cells a → All (λ c. c < cells) (cells_by (act_by a n))
cells_fit (flat.Set to op args) n locals cells h = All-nil (λ c. c < cells)
cells_fit (flat.Put to v) n locals cells h = All-nil (λ c. c < cells)
cells_fit (flat.Take to) n locals cells h = All-nil (λ c. c < cells)
cells_fit (flat.Read c to) n locals cells h = All-cons (λ d. d < cells) c [] h.0 (All-nil (λ d. d < cells))
cells_fit (flat.Write c from) n locals cells h = All-cons (λ d. d < cells) c [] h.0 (All-nil (λ d. d < cells))
cells_fit _ n locals cells h = All-nil (λ c. c < cells)

-- where the locals have the same values, so have the terms of a step, but for the number that it takes
pub same_terms : (a : FlatAct) (n : Named) (v w : Valuation) (locals others : ℕ → ℕ) → locals ≡ others → Says v locals a n → Says w others a n → All (λ (t : TermId). v t ≡ w t) (terms_by (act_by a n))
same_terms (flat.Write c from) n v w locals others e h k = All-cons (λ t. v t ≡ w t) n.first [] (h ∙ ap (λ f. f from) e ∙ sym k) (All-nil (λ t. v t ≡ w t))
same_terms (flat.Create i handle arg) n v w locals others e h k =
    All-cons (λ t. v t ≡ w t) n.first (n.second ∷ []) (h.0 ∙ ap (λ f. f handle) e ∙ sym k.0)
    (All-cons (λ t. v t ≡ w t) n.second [] (h.1 ∙ ap (λ f. f arg) e ∙ sym k.1) (All-nil (λ t. v t ≡ w t)))
same_terms (flat.Join from) n v w locals others e h k = All-cons (λ t. v t ≡ w t) n.first [] (h ∙ ap (λ f. f from) e ∙ sym k) (All-nil (λ t. v t ≡ w t))
same_terms _ n v w locals others e h k = All-nil (λ t. v t ≡ w t)

-- where the number that it takes has the same value too, it makes the same of the locals
pub same_changed : (a : FlatAct) (n : Named) (v w : Valuation) (locals others : ℕ → ℕ) → locals ≡ others → Says v locals a n → Says w others a n
    → All (λ (t : TermId). v t ≡ w t) (inputs_by (act_by a n)) → changed locals (target a) (v n.first) ≡ changed others (target a) (w n.first)
same_changed (flat.Set to op args) n v w locals others e h k same =
    let value : v n.first ≡ w n.first = h ∙ ap (λ f. value_of op (map f args)) e ∙ sym k in
    ap (λ f. with_local f to (v n.first)) e ∙ ap (λ x. with_local others to x) value
same_changed (flat.Put to x) n v w locals others e h k same =
    let value : v n.first ≡ w n.first = h ∙ sym k in
    ap (λ f. with_local f to (v n.first)) e ∙ ap (λ y. with_local others to y) value
same_changed (flat.Take to) n v w locals others e h k same =
    let value : v n.first ≡ w n.first = All-head (λ t. v t ≡ w t) n.first [] same in
    ap (λ f. with_local f to (v n.first)) e ∙ ap (λ y. with_local others to y) value
same_changed (flat.Read c to) n v w locals others e h k same =
    let value : v n.first ≡ w n.first = All-head (λ t. v t ≡ w t) n.first [] same in
    ap (λ f. with_local f to (v n.first)) e ∙ ap (λ y. with_local others to y) value
same_changed _ n v w locals others e h k same = e
