-- Where words spell the terms, a guard's literal is true where the step is made.
use Rattle.std.proofs.Common.{◌≡◌, ℕ, ◌^◌, ◌<◌, ◌≤◌, inl, inr, Bool, true, List, [], ◌∷◌, length, map, Some, refl, ap, sym, ◌∙◌, subst, arith}
use Rattle.std.specs.Prelude.{slice_get, All}
use Rattle.std.proofs.lemmas.Bool.{cases_lt}
use Rattle.std.proofs.lemmas.List.{get_or_past}
use Rattle.std.proofs.lemmas.List.Elements.{All-get_or}
use Rattle.std.proofs.lemmas.Option.{same_Some, get_or_from_slice_get}
use Rattle.dg_base.specs.declared.Lit.{Lit}
use Rattle.dg_base.proofs.Lists.{get_map}
use Rattle.bv_term.specs.Values.{AreWords, IsListed}
use Rattle.cnf_problem.specs.Literals.{value}
use Rattle.bit_gates.specs.Words.{number}
use Rattle.bit_gates.proofs.Numbers.{number_below}
use Rattle.bit_blast.specs.Blasting.{word_at, inputs_under}
use Rattle.flat_prog.specs.declared.Flat.{Flat}
use Rattle.flat_prog.specs.Sections as marks
use Rattle.ssa_form.specs.declared.Ssa.{Ssa}
use Rattle.ssa_form.specs.declared.SsaPart.{SsaPart}
use Rattle.ssa_form.specs.declared.SsaStep.{SsaStep}
use Rattle.ssa_form.specs.Parts.{Valuation, is_made, mark_of, marks_of, terms_of}
use Rattle.ssa_form.specs.Form.{under}
use Rattle.memory_models.specs.declared.StaticEvent.{StaticEvent}
use Rattle.memory_models.specs.declared.StaticKind.TheVariants.{Full}
use Rattle.memory_models.specs.Events.{IsAt, OneThread, IsSection, IsPossible}
use Rattle.event_graph.specs.Graphs.{guard_lit, event_of, events_of}
use Rattle.event_graph.specs.Laws.{IsSpelled, spelled_values, happens, EventsArePossible}
use Rattle.event_graph.proofs.Opening.{acting_loud}
use Rattle.event_graph.proofs.Acting.{acting_at}
use Rattle.event_graph.proofs.Origins.{AreTurned, turned, part_of, section_at, NodeOf, step_less, event_there, thread_acted, acted_of, Within, mark_at}
use Rattle.event_graph.proofs.Static.{own_or_before, in_section, same_instance, section_ends}
use Rattle.event_graph.proofs.Making.{all_at, first_literal}

module _ (f : Flat) (x : Ssa) (words : List (List Lit)) (s : List Bool) (h : IsSpelled f x words s) where
  abbrev v : Valuation
  v = spelled_values x words s

  abbrev es : List StaticEvent
  es = events_of x words

  long_word : (n : ℕ) → n < length words → length (word_at words n) ≡ 32
  long_word n lt = All-get_or (λ (w : List Lit). length w ≡ 32) words n [] lt h.wide

  -- the inputs fit 32 bits
  pub words_fit : AreWords (inputs_under s words)
  words_fit n =
      elim (cases_lt n (length words)) [
        | inl lt ↦ let P : ℕ → Type 0 = λ m. number s (word_at words n) < 2 ^ m in subst P (long_word n lt) (number_below s (word_at words n))
        | inr ge ↦
            let none : word_at words n ≡ [] = get_or_past words n [] ge in
            let P : List Lit → Type 0 = λ w. number s w < 2 ^ 32 in
            subst P (sym none) (omega arith)
      ]

  -- a guard's literal is true where the step is made
  pub guard_made : (i j : ℕ) (p : SsaPart) (t : SsaStep) → slice_get x.parts i ≡ Some p → slice_get p.steps j ≡ Some t → value s (guard_lit words t.guard) ≡ is_made v t
  guard_made i j p t part there =
      let of = (part_of f x i p h.form part).1 in
      let few = all_at (λ (z : SsaStep). under (inputs_under s words) x z.guard ≤ 1) p.steps j t (of.truths (inputs_under s words) words_fit) there in
      let listed = all_at (λ (z : SsaStep). All (IsListed x.terms) (z.guard ∷ terms_of z.act)) p.steps j t of.steps_listed there in
      let known : IsListed x.terms t.guard = all_at (IsListed x.terms) (t.guard ∷ terms_of t.act) 0 t.guard listed refl in
      let count = h.count in
      first_literal s (word_at words t.guard.0) (v t.guard) (long_word t.guard.0 (omega (arith, count, known))) (h.spelled t.guard.0 known) few

  pub turn : AreTurned x
  turn = turned f x h.form

  acting : (i j n : ℕ) (p : SsaPart) (t : SsaStep) → NodeOf x i j n p t → marks.IsActing (marks_of p.steps) j
  acting i j n p t g = (mark_of t.act, mark_at p.steps j t g.there, acting_loud t.act g.acts)

  made_there : (i j n : ℕ) (p : SsaPart) (t : SsaStep) → NodeOf x i j n p t → is_made v t ≡ true → slice_get (map (is_made v) p.steps) j ≡ Some true
  made_there i j n p t g made = get_map (is_made v) p.steps j t g.there ∙ ap Some made

  made_from : (i j n : ℕ) (p : SsaPart) (t : SsaStep) → NodeOf x i j n p t → slice_get (map (is_made v) p.steps) j ≡ Some true → is_made v t ≡ true
  made_from i j n p t g e = same_Some (is_made v t) true (sym (get_map (is_made v) p.steps j t g.there) ∙ e)

  -- where a step in a section is made, so is the open
  pub head_made : (i j n b : ℕ) (p : SsaPart) (t : SsaStep) (g : NodeOf x i j n p t) (w : Within x i j p b) → is_made v t ≡ true → is_made v w.head ≡ true
  head_made i j n b p t g w made =
      let held = (part_of f x i p h.form g.part).1.held (inputs_under s words) words_fit in
      made_from i w.opens b p w.head w.node (held.inside w.opens w.closes j w.section w.before w.upto (acting i j n p t g) (made_there i j n p t g made))

  -- where the open and a step behind the close are made, so is the close
  pub tail_made : (i o c j a b n : ℕ) (p : SsaPart) (head tail t : SsaStep) → marks.IsSection (marks_of p.steps) o c → NodeOf x i o a p head → NodeOf x i c b p tail → NodeOf x i j n p t
      → c < j → is_made v t ≡ true → is_made v head ≡ true → is_made v tail ≡ true
  tail_made i o c j a b n p head tail t section first last g less made opened =
      let held = (part_of f x i p h.form g.part).1.held (inputs_under s words) words_fit in
      made_from i c b p tail last (held.behind o c j section less (acting i j n p t g) (made_there i j n p t g made) (made_there i o a p head first opened))

  -- ---- events that happen

  pub happens_at : (n : ℕ) (e : StaticEvent) → IsAt es n e → happens s es n ≡ value s e.guard
  happens_at n e at =
      ap (λ (z : StaticEvent). value s z.guard) (get_or_from_slice_get es n e (record { instance = 0; kind = Full; cell = 0; guard = record { 0 = 3 }; block = n }) at)

  pub happens_made : (i j n : ℕ) (p : SsaPart) (t : SsaStep) → NodeOf x i j n p t → happens s es n ≡ is_made v t
  happens_made i j n p t g = happens_at n (event_of words (acting_at i t (section_at x i j p) n)) (event_there x words i j n p t g) ∙ guard_made i j p t g.part g.there

  inside : (n : ℕ) (e : StaticEvent) → IsAt es n e → happens s es n ≡ true → happens s es e.block ≡ true
  inside n e at made =
      let most = own_or_before x words turn n e at in
      elim (cases_lt e.block n) [
        | inl lt ↦
            let w = in_section x words turn n e at lt in
            let g = w.2.node in
            let step = sym (happens_made w.0 w.2.place n w.1 w.2.step g) ∙ made in
            happens_made w.0 w.3.opens e.block w.1 w.3.head w.3.node ∙ head_made w.0 w.2.place n e.block w.1 w.2.step g w.3 step
        | inr ge ↦ let own : e.block ≡ n = omega (arith, most, ge) in ap (happens s es) own ∙ made
      ]

  behind : (o c n : ℕ) → IsSection es o c → OneThread es o n → c < n → happens s es n ≡ true → happens s es o ≡ true → happens s es c ≡ true
  behind o c n section one less made opened =
      let k = section_ends x words turn o c section in
      let i = k.instance in
      let p = k.part in
      let first = thread_acted x words o one.first one.is_first in
      let last = thread_acted x words n one.second one.is_second in
      let head = event_there x words i k.opens o p k.head k.first in
      let of_head : i ≡ one.first.instance = ap (λ (z : StaticEvent). z.instance) (same_Some (event_of words (acting_at i k.head (section_at x i k.opens p) o)) one.first (sym head ∙ one.is_first.there)) in
      let same : last.0 ≡ i = sym (same_instance x words turn last.0 n last.1 one.second last.2) ∙ sym one.same ∙ sym of_head in
      let g = acted_of x words i last.0 n p last.1 one.second last.2 same k.first.part in
      let later = step_less x i k.closes g.place c n p k.tail g.step k.last g.node less in
      let made_step = sym (happens_made i g.place n p g.step g.node) ∙ made in
      let made_open = sym (happens_made i k.opens o p k.head k.first) ∙ opened in
      happens_made i k.closes c p k.tail k.last
      ∙ tail_made i k.opens k.closes g.place o c n p k.head k.tail g.step k.section k.first k.last g.node later made_step made_open

  pub possible : IsPossible es (happens s es)
  possible = record { inside = inside; behind = behind }

pub events_possible : EventsArePossible
events_possible f x words s h = possible f x words s h
