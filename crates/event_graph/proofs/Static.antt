-- The events of a form are static events.
use Rattle.std.proofs.Common.{◌≡◌, ℕ, ◌+◌, ◌<◌, ◌≤◌, inl, inr, List, Some, None, refl, ap, sym, ◌∙◌, subst, arith}
use Rattle.std.specs.Prelude.{slice_get, unwrap_or}
use Rattle.std.proofs.lemmas.Bool.{cases_lt}
use Rattle.dg_base.specs.declared.Lit.{Lit}
use Rattle.dg_base.proofs.Lists.{one_answer}
use Rattle.flat_prog.specs.Sections as marks
use Rattle.ssa_form.specs.declared.Ssa.{Ssa}
use Rattle.ssa_form.specs.declared.SsaPart.{SsaPart}
use Rattle.ssa_form.specs.declared.SsaStep.{SsaStep}
use Rattle.ssa_form.specs.declared.SsaAct.TheVariants as act
use Rattle.ssa_form.specs.Parts.{marks_of}
use Rattle.memory_models.specs.declared.StaticEvent.{StaticEvent}
use Rattle.memory_models.specs.declared.StaticKind.TheVariants as kind
use Rattle.memory_models.specs.Events.{IsAt, OneThread, IsSection, AreStatic}
use Rattle.event_graph.specs.Graphs.{kind_of, event_of, events_of}
use Rattle.event_graph.specs.Laws.{EventsAreStatic}
use Rattle.event_graph.proofs.Opening.{acting_before, close_act}
use Rattle.event_graph.proofs.Acting.{acting_at}
use Rattle.event_graph.proofs.Origins.{AreTurned, turned, first_of, section_at, NodeOf, node_low, node_high, node_later, step_less, step_most, node_less, between, node_at, Acted, event_there, event_origin, node_thread, thread_acted, acted_of, acted_thread, Within, marked, mark_acts, inside, head_block, block_case}

-- the open and the close of a section
pub record Ends (x : Ssa) (o c : ℕ) : Type 0 where
  pub instance : ℕ
  pub part : SsaPart
  pub opens : ℕ
  pub closes : ℕ
  pub section : marks.IsSection (marks_of part.steps) opens closes
  pub head : SsaStep
  pub first : NodeOf x instance opens o part head
  pub head_act : head.act ≡ act.Open
  pub tail : SsaStep
  pub last : NodeOf x instance closes c part tail
  pub tail_act : tail.act ≡ act.Close

module _ (x : Ssa) (words : List (List Lit)) (turn : AreTurned x) where
  abbrev es : List StaticEvent
  es = events_of x words

  one_event : (n : ℕ) (e f : StaticEvent) → IsAt es n e → IsAt es n f → e ≡ f
  one_event n e f p q = one_answer (slice_get es n) e f p q

  -- the block of an event of a step
  block_of : (i n : ℕ) (p : SsaPart) (e : StaticEvent) (h : Acted x words i p n e) → e.block ≡ unwrap_or (section_at x i h.place p) n
  block_of i n p e h = ap (λ (z : StaticEvent). z.block) h.same

  pub node_block : (i j n : ℕ) (p : SsaPart) (t : SsaStep) (e : StaticEvent) → NodeOf x i j n p t → IsAt es n e → e.block ≡ unwrap_or (section_at x i j p) n
  node_block i j n p t e h at = ap (λ (z : StaticEvent). z.block) (one_event n e (event_of words (acting_at i t (section_at x i j p) n)) at (event_there x words i j n p t h))

  -- an event in the block of an earlier one is of a step in a section, whose open is that one
  pub node_section : (i j n : ℕ) (p : SsaPart) (t : SsaStep) (e : StaticEvent) → NodeOf x i j n p t → IsAt es n e → e.block < n → Within x i j p e.block
  node_section i j n p t e h at low =
      let block = node_block i j n p t e h at in
      elim (block_case x turn i j n p h.part) [
        | inl own ↦ absurd (omega (arith, own, block, low))
        | inr w ↦ subst (λ b. Within x i j p b) (sym block) w
      ]

  pub in_section : (n : ℕ) (e : StaticEvent) → IsAt es n e → e.block < n → (i : ℕ) × (p : SsaPart) × (h : Acted x words i p n e) × Within x i h.place p e.block
  in_section n e there low =
      elim (event_origin x words n e there) [
        | inl r ↦ let own = ap (λ (z : StaticEvent). z.block) r.1 in absurd (omega (arith, own, low))
        | inr r ↦ (r.0, r.1, r.2, node_section r.0 r.2.place n r.1 r.2.step e r.2.node there low)
      ]

  pub own_or_before : (n : ℕ) (e : StaticEvent) → IsAt es n e → e.block ≤ n
  own_or_before n e there =
      elim (event_origin x words n e there) [
        | inl r ↦ let own = ap (λ (z : StaticEvent). z.block) r.1 in omega (arith, own)
        | inr r ↦
            let h = r.2 in
            let block = block_of r.0 n r.1 e h in
            elim (block_case x turn r.0 h.place n r.1 h.node.part) [
              | inl own ↦ omega (arith, own, block)
              | inr w ↦ let less = node_less x r.0 w.opens h.place (unwrap_or (section_at x r.0 h.place r.1) n) n r.1 w.head h.step w.node h.node w.before in omega (arith, less, block)
            ]
      ]

  -- the event of a section's open has its own block
  pub head_is : (i o b : ℕ) (p : SsaPart) (s : SsaStep) → NodeOf x i o b p s → s.act ≡ act.Open → section_at x i o p ≡ None
  head_is i o b p s h is = head_block x turn i o p s h.part h.there is

  head_event : (i o b : ℕ) (p : SsaPart) (s : SsaStep) (f : StaticEvent) → NodeOf x i o b p s → s.act ≡ act.Open → IsAt es b f → (f.block ≡ b) × (f.kind ≡ kind.Full)
  head_event i o b p s f h is there =
      let same = one_event b f (event_of words (acting_at i s (section_at x i o p) b)) there (event_there x words i o b p s h) in
      let none = head_is i o b p s h is in
      (ap (λ (z : StaticEvent). z.block) same ∙ ap (λ z. unwrap_or z b) none, ap (λ (z : StaticEvent). z.kind) same ∙ ap (λ z. unwrap_or (kind_of z) kind.Full) is)

  pub initials_first : (a b : ℕ) (e f : StaticEvent) → a < b → IsAt es a e → IsAt es b f → f.kind ≡ kind.Initial → e.kind ≡ kind.Initial
  initials_first a b e f less at also is =
      elim (event_origin x words a e at) [
        | inl r ↦ ap (λ (z : StaticEvent). z.kind) r.1
        | inr r ↦
            let later = node_later x r.0 r.2.place a r.1 r.2.step r.2.node in
            elim (event_origin x words b f also) [
              | inl q ↦ absurd (let low = q.0 in omega (arith, later, low, less))
              | inr q ↦ absurd ((acted_thread x words q.0 b q.1 f also q.2).acts is)
            ]
      ]

  pub same_instance : (i n : ℕ) (p : SsaPart) (e : StaticEvent) → Acted x words i p n e → e.instance ≡ i
  same_instance i n p e h = ap (λ (z : StaticEvent). z.instance) h.same

  pub threads_apart : (a b c : ℕ) (f : StaticEvent) → a < b → b < c → OneThread es a c → IsAt es b f → OneThread es a b
  threads_apart a b c f low high one at =
      let first = thread_acted x words a one.first one.is_first in
      let last = thread_acted x words c one.second one.is_second in
      let h = first.2 in
      let same : last.0 ≡ first.0 = sym (same_instance last.0 c last.1 one.second last.2) ∙ sym one.same ∙ same_instance first.0 a first.1 one.first h in
      let g = acted_of x words first.0 last.0 c first.1 last.1 one.second last.2 same h.node.part in
      elim (event_origin x words b f at) [
        | inl r ↦ let later = node_later x first.0 h.place a first.1 h.step h.node in let few = r.0 in absurd (omega (arith, later, few, low))
        | inr r ↦
            let k = r.2 in
            let of : r.0 ≡ first.0 = between x first.0 h.place g.place r.0 k.place a b c first.1 r.1 h.step k.step g.step h.node k.node g.node (omega arith) (omega arith) in
            record {
              first = one.first;
              second = f;
              is_first = one.is_first;
              is_second = acted_thread x words r.0 b r.1 f at k;
              same = same_instance first.0 a first.1 one.first h ∙ sym of ∙ sym (same_instance r.0 b r.1 f k);
            }
      ]

  pub heads : (n : ℕ) (e f : StaticEvent) → IsAt es n e → IsAt es e.block f → f.block ≡ e.block
  heads n e f at first =
      let most = own_or_before n e at in
      elim (cases_lt e.block n) [
        | inl lt ↦
            let w = in_section n e at lt in
            (head_event w.0 w.3.opens e.block w.1 w.3.head f w.3.node w.3.act first).0
        | inr ge ↦
            let own : e.block ≡ n = omega (arith, most, ge) in
            ap (λ (z : StaticEvent). z.block) (one_event n f e (ap (λ z. slice_get es z) (sym own) ∙ first) at)
      ]

  pub unbroken : (a b : ℕ) (e f : StaticEvent) → IsAt es b e → e.block ≤ a → a < b → IsAt es a f → f.block ≡ e.block
  unbroken a b e f at low high also =
      let w = in_section b e at (omega arith) in
      let i = w.0 in
      let h = w.2 in
      let s = w.3 in
      elim (event_origin x words a f also) [
        | inl r ↦ let later = node_later x i s.opens e.block w.1 s.head s.node in let few = r.0 in absurd (omega (arith, later, few, low))
        | inr r ↦
            let of : r.0 ≡ i = between x i s.opens h.place r.0 r.2.place e.block a b w.1 r.1 s.head r.2.step h.step s.node r.2.node h.node low (omega arith) in
            let g = acted_of x words i r.0 a w.1 r.1 f r.2 of s.node.part in
            let from = step_most x i s.opens g.place e.block a w.1 s.head g.step s.node g.node low in
            let to = step_less x i g.place h.place a b w.1 g.step h.step g.node h.node high in
            let upto = s.upto in
            let block = block_of i a w.1 f g in
            elim (cases_lt s.opens g.place) [
              | inl lt ↦ block ∙ ap (λ z. unwrap_or z a) (inside x turn i s.opens s.closes g.place e.block w.1 s.head s.section s.node lt (omega (arith, to, upto)))
              | inr ge ↦
                  let same : g.place ≡ s.opens = omega (arith, from, ge) in
                  let none : section_at x i g.place w.1 ≡ None = ap (λ z. section_at x i z w.1) same ∙ head_is i s.opens e.block w.1 s.head s.node s.act in
                  let c = g.node.count in
                  let d = s.node.count in
                  let number : a ≡ e.block = c ∙ ap (λ z. first_of x i + acting_before z w.1.steps) same ∙ sym d in
                  block ∙ ap (λ z. unwrap_or z a) none ∙ number
            ]
      ]

  pub of_thread : (n : ℕ) (e : StaticEvent) → IsAt es n e → e.block < n → OneThread es e.block n
  of_thread n e at low =
      let w = in_section n e at low in
      record {
        first = event_of words (acting_at w.0 w.3.head (section_at x w.0 w.3.opens w.1) e.block);
        second = e;
        is_first = node_thread x words w.0 w.3.opens e.block w.1 w.3.head w.3.node;
        is_second = acted_thread x words w.0 n w.1 e at w.2;
        same = sym (same_instance w.0 n w.1 e w.2);
      }

  -- a section's first event is an open, its last one the close
  pub section_ends : (o c : ℕ) → IsSection es o c → Ends x o c
  section_ends o c s =
      let e = s.one.second in
      let own : e.block ≡ o = sym s.one.same ∙ s.opens s.one.first s.one.is_first in
      let later = s.later in
      let w = in_section c e s.one.is_second (omega (arith, own, later)) in
      let i = w.0 in
      let p = w.1 in
      let h = w.2 in
      let v = w.3 in
      let first : NodeOf x i v.opens o p v.head = subst (λ z. NodeOf x i v.opens z p v.head) own v.node in
      let m = marked p.steps v.closes marks.Closes v.section.closes in
      let tail : NodeOf x i v.closes (first_of x i + acting_before v.closes p.steps) p m.0 =
      record { part = h.node.part; there = m.1; acts = mark_acts m.0 marks.Closes m.2 (λ f. cc); count = refl } in
      elim (cases_lt h.place v.closes) [
        | inl lt ↦
            let more = node_less x i h.place v.closes c (first_of x i + acting_before v.closes p.steps) p h.step m.0 h.node tail lt in
            let low = node_low x i h.place c p h.step h.node in
            let high = node_high x i v.closes (first_of x i + acting_before v.closes p.steps) p m.0 tail in
            let n = node_at x i (c + 1) p h.node.part (omega (arith, low)) (omega (arith, more, high)) in
            let from = step_less x i h.place n.0 c (c + 1) p h.step n.1 h.node n.2 (omega arith) in
            let to = step_most x i n.0 v.closes (c + 1) (first_of x i + acting_before v.closes p.steps) p n.1 m.0 n.2 tail (omega (arith, more)) in
            let before = v.before in
            let open_there : section_at x i n.0 p ≡ Some o = inside x turn i v.opens v.closes n.0 o p v.head v.section first (omega (arith, from, before)) to in
            let next = event_of words (acting_at i n.1 (section_at x i n.0 p) (c + 1)) in
            absurd (s.closes (record {
              first = s.one.first;
              second = next;
              is_first = s.one.is_first;
              is_second = event_there x words i n.0 (c + 1) p n.1 n.2;
              same = s.opens s.one.first s.one.is_first ∙ sym (ap (λ z. unwrap_or z (c + 1)) open_there);
            }))
        | inr ge ↦
            let upto = v.upto in
            let at : h.place ≡ v.closes = omega (arith, ge, upto) in
            let step : h.step ≡ m.0 = one_answer (slice_get p.steps v.closes) h.step m.0 (ap (λ z. slice_get p.steps z) (sym at) ∙ h.node.there) m.1 in
            record {
              instance = i;
              part = p;
              opens = v.opens;
              closes = v.closes;
              section = v.section;
              head = v.head;
              first = first;
              head_act = v.act;
              tail = h.step;
              last = subst (λ z. NodeOf x i z c p h.step) at h.node;
              tail_act = ap (λ (z : SsaStep). z.act) step ∙ close_act m.0.act m.2;
            }
      ]

  pub begins : (o c : ℕ) (e : StaticEvent) → IsSection es o c → IsAt es o e → e.kind ≡ kind.Full
  begins o c e s at = let h = section_ends o c s in (head_event h.instance h.opens o h.part h.head e h.first h.head_act at).1

  pub ends : (o c : ℕ) (e : StaticEvent) → IsSection es o c → IsAt es c e → e.kind ≡ kind.Full
  ends o c e s at =
      let h = section_ends o c s in
      let same = one_event c e (event_of words (acting_at h.instance h.tail (section_at x h.instance h.closes h.part) c)) at (event_there x words h.instance h.closes c h.part h.tail h.last) in
      ap (λ (z : StaticEvent). z.kind) same ∙ ap (λ z. unwrap_or (kind_of z) kind.Full) h.tail_act

  pub are_static : AreStatic es
  are_static = record {
    initials_first = initials_first;
    threads_apart = threads_apart;
    own_or_before = own_or_before;
    heads = heads;
    unbroken = unbroken;
    of_thread = of_thread;
    begins = begins;
    ends = ends;
  }

pub events_static : EventsAreStatic
events_static f x words h = are_static x words (turned f x h)
