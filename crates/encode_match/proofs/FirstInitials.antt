-- Initial writes and cells of the events of a form, and the numbers that go with events.
use Rattle.std.proofs.Common.{◌≡◌, ℕ, zero, suc, ◌+◌, ◌*◌, ◌<◌, ⊎_elim, Bool, true, List, [], ◌∷◌, ◌++◌, map, length, refl, ap, sym, ◌∙◌, arith}
use Rattle.std.specs.Prelude.{Some, slice_get, Contains, All, unwrap_or}
use Rattle.std.proofs.lemmas.Bool.{cond-false, false≢true}
use Rattle.std.proofs.lemmas.Option.{same_Some}
use Rattle.std.proofs.lemmas.Slice.Zip.{AllZip-long}
use Rattle.dg_base.specs.declared.Lit.{Lit}
use Rattle.dg_base.specs.Values.{truth_of}
use Rattle.dg_base.proofs.Lists.{get_nothing, get_there, get_append_left, get_map, contains_nothing, contains_cases}
use Rattle.bv_term.specs.declared.term.TermId.{TermId}
use Rattle.bv_term.specs.Values.{IsConstant}
use Rattle.cnf_problem.specs.Literals.{value}
use Rattle.bit_gates.specs.Words.{number}
use Rattle.bit_blast.specs.Blasting.{inputs_under}
use Rattle.flat_prog.specs.declared.Flat.{Flat}
use Rattle.ssa_form.specs.declared.Ssa.{Ssa}
use Rattle.ssa_form.specs.declared.SsaStep.{SsaStep}
use Rattle.ssa_form.specs.declared.SsaAct.{SsaAct}
use Rattle.ssa_form.specs.declared.SsaAct.TheVariants as act
use Rattle.ssa_form.specs.Parts.{cells_of}
use Rattle.ssa_form.specs.Form.{IsSsaOf}
use Rattle.memory_models.specs.declared.StaticEvent.{StaticEvent}
use Rattle.memory_models.specs.declared.StaticKind.TheVariants as kind
use Rattle.memory_models.specs.declared.EventBits.{EventBits}
use Rattle.memory_models.specs.Events.{IsAt}
use Rattle.event_graph.specs.Graphs.{Acting, acting, kind_of, cell_of, event_of, events_of, initial_event, initial_events, bits_by, bits_in, bits_of}
use Rattle.event_graph.specs.Laws.{IsSpelled}
use Rattle.event_graph.proofs.Origins.{event_origin, not_initial, length_initials, initial_at}
use Rattle.event_graph.proofs.Values.{initials_listed}
use Rattle.order_vars.specs.Links.{is_initial, is_write}
use Rattle.order_vars.specs.Holding.{word_at}
use Rattle.encode_match.specs.Spelling.{initials_in}
use Rattle.encode_match.specs.Parts.{words_of}
use Rattle.encode_match.proofs.Acts.{is_initial_false}
use Rattle.encode_match.proofs.PartRuns.{all_at, zip_from, instance_of}
use Rattle.encode_match.proofs.StartedParts.{constant_is}
use Rattle.encode_match.proofs.SpelledRuns.{word_value}

-- ---- how many initial writes there are

counted_first : (c : ℕ) (ts : List TermId) (rest : List StaticEvent) → initials_in (initial_events c ts ++ rest) ≡ length ts + initials_in rest
counted_first c [] rest = omega arith
counted_first c (t ∷ ts) rest = let r = counted_first (c + 1) ts rest in omega (arith, r)

none_acting : (words : List (List Lit)) (os : List Acting) → initials_in (map (event_of words) os) ≡ 0
none_acting words [] = refl
none_acting words (o ∷ os) =
    let k = unwrap_or (kind_of o.step.act) kind.Full in
    let rest = initials_in (map (event_of words) os) in
    cond-false (is_initial k) (1 + rest) rest (is_initial_false k (not_initial o.step.act)) ∙ none_acting words os

pub initials_count : (f : Ssa) (words : List (List Lit)) → initials_in (events_of f words) ≡ length f.initials
initials_count f words =
    let a = counted_first 0 f.initials (map (event_of words) (acting f)) in
    let b = none_acting words (acting f) in
    omega (arith, a, b)

-- ---- cells

write_cell : (a : SsaAct) (n : ℕ) → is_write (unwrap_or (kind_of a) kind.Full) ≡ true → All (λ c. c < n) (cells_of a) → cell_of a < n
write_cell (act.Write c t) n h a = all_at (λ (z : ℕ). z < n) (c ∷ []) 0 c a refl
write_cell (act.Read c t) n h a = absurd (false≢true h)
write_cell (act.Create i t u) n h a = absurd (false≢true h)
write_cell _ n h a = absurd (false≢true h)

-- each write is of a cell
pub cell_there : (flat : Flat) (f : Ssa) (words : List (List Lit)) (n : ℕ) (t : StaticEvent) → IsSsaOf flat f → IsAt (events_of f words) n t → is_write t.kind ≡ true → t.cell < length f.initials
cell_there flat f words n t form at h =
    ⊎_elim
    (λ q. let same : t.cell ≡ n = ap (λ (z : StaticEvent). z.cell) q.1 in let few = q.0 in omega (arith, same, few))
    (λ q.
    let a = q.2 in
    let of = (instance_of flat f q.0 q.1 form a.node.part).is_part in
    let cells = all_at (λ (u : SsaStep). All (λ c. c < length flat.initials) (cells_of u.act)) q.1.steps a.place a.step of.cells a.node.there in
    let low = write_cell a.step.act (length flat.initials) (ap (λ (z : StaticEvent). is_write z.kind) (sym a.same) ∙ h) cells in
    let same : t.cell ≡ cell_of a.step.act = ap (λ (z : StaticEvent). z.cell) a.same in
    let long = AllZip-long (λ v t. IsConstant f.terms t v) flat.initials f.initials form.initials in
    omega (arith, low, same, long))
    (event_origin f words n t at)

-- ---- numbers

abbrev bits_number : List Bool → ℕ
bits_number [] = 0
bits_number (b ∷ bs) = truth_of b + 2 * bits_number bs

number_by_bits : (s : List Bool) (ls : List Lit) → number s ls ≡ bits_number (map (value s) ls)
number_by_bits s [] = refl
number_by_bits s (l ∷ ls) = ap (λ (n : ℕ). truth_of (value s l) + 2 * n) (number_by_bits s ls)

-- values of the same bits are the same numbers
pub same_number : (s : List Bool) (a b : List Lit) → map (value s) a ≡ map (value s) b → number s a ≡ number s b
same_number s a b h = number_by_bits s a ∙ (ap bits_number h ∙ sym (number_by_bits s b))

-- a value with a bit that is true is not 0
pub number_some : (s : List Bool) (ls : List Lit) (l : Lit) → Contains ls l → value s l ≡ true → 0 < number s ls
number_some s [] l c h = absurd (contains_nothing l c)
number_some s (k ∷ ls) l c h =
    ⊎_elim
    (λ same. let one : truth_of (value s k) ≡ 1 = ap truth_of (ap (value s) (sym same) ∙ h) in omega (arith, one))
    (λ d. let r = number_some s ls l d h in omega (arith, r))
    (contains_cases k l ls c)

-- the value that goes with an event
pub word_is : (bs : List EventBits) (n : ℕ) (b : EventBits) → slice_get bs n ≡ Some b → word_at (words_of bs) n ≡ b.bits
word_is [] n b h = absurd (get_nothing n b h)
word_is (c ∷ bs) zero b h = ap (λ (z : EventBits). z.bits) (same_Some c b h)
word_is (c ∷ bs) (suc n) b h = word_is bs n b h

-- the value of an initial write is its cell's
pub initial_value : (flat : Flat) (f : Ssa) (words : List (List Lit)) (s : List Bool) → IsSpelled flat f words s → (n : ℕ) (b : EventBits) → n < length f.initials → slice_get (bits_of f words) n ≡ Some b
    → slice_get flat.initials n ≡ Some (number s b.bits)
initial_value flat f words s k n b h e =
    let t = get_there f.initials n h in
    let v = zip_from (λ v t. IsConstant f.terms t v) flat.initials f.initials n t.0 k.form.initials t.1 in
    let at : slice_get (bits_of f words) n ≡ Some (bits_by words t.0) =
    get_append_left (map (bits_by words) f.initials) (map (bits_in f.parts words) (acting f)) n (bits_by words t.0) (get_map (bits_by words) f.initials n t.0 t.1) in
    let same : bits_by words t.0 ≡ b = same_Some (bits_by words t.0) b (sym at ∙ e) in
    let is : number s b.bits ≡ v.0 =
    ap (λ (z : EventBits). number s z.bits) (sym same)
    ∙ (word_value flat f words s k t.0 (all_at (λ z. z.0 < length f.terms) f.initials n t.0 (initials_listed flat f k.form) t.1)
    ∙ constant_is f (inputs_under s words) t.0 v.0 flat k.form v.2) in
    v.1 ∙ ap Some (sym is)

-- the initial write of a cell
pub initial_there : (f : Ssa) (words : List (List Lit)) (n : ℕ) → n < length f.initials → IsAt (events_of f words) n (initial_event n)
initial_there f words n h =
    let long = length_initials 0 f.initials in
    let d = get_there (initial_events 0 f.initials) n (omega (arith, long, h)) in
    let same : 0 + n ≡ n = omega arith in
    get_append_left (initial_events 0 f.initials) (map (event_of words) (acting f)) n (initial_event n)
    (d.1 ∙ ap Some (initial_at 0 n f.initials d.0 d.1 ∙ ap initial_event same))
