-- Blocks of nodes that happen are sections of the run.
use Rattle.std.proofs.Common.{◌≡◌, ℕ, suc, ◌+◌, ◌<◌, ◌≤◌, ◌⊎◌, inl, inr, Bool, true, List, [], ◌∷◌, length, Some, None, refl, ap, sym, ◌∙◌, subst, arith}
use Rattle.std.specs.Prelude.{slice_get, unwrap_or, ◌&&◌}
use Rattle.std.proofs.lemmas.Bool.{cases_lt}
use Rattle.std.proofs.lemmas.Option.{slice_get_within}
use Rattle.dg_base.specs.declared.Lit.{Lit}
use Rattle.dg_base.proofs.Lists.{one_answer}
use Rattle.axiom_model.specs.declared.Action.{Action}
use Rattle.axiom_model.specs.declared.Action.TheVariants as action
use Rattle.axiom_model.specs.Execution.{InSection, OneSection}
use Rattle.flat_prog.specs.declared.Flat.{Flat}
use Rattle.flat_prog.specs.Sections.{Opens, Closes, IsSection}
use Rattle.ssa_form.specs.declared.Ssa.{Ssa}
use Rattle.ssa_form.specs.declared.SsaPart.{SsaPart}
use Rattle.ssa_form.specs.declared.SsaStep.{SsaStep}
use Rattle.ssa_form.specs.declared.SsaAct.TheVariants as act
use Rattle.ssa_form.specs.Parts.{Valuation, is_made, mark_of, marks_of, action_by, actions_of}
use Rattle.memory_models.specs.declared.StaticEvent.{StaticEvent}
use Rattle.memory_models.specs.Events.{IsAt, OneBlock}
use Rattle.memory_models.proofs.Blocks.{block_turned, block_self}
use Rattle.event_graph.specs.Graphs.{event_of, events_of}
use Rattle.event_graph.specs.Laws.{count_before, IsSpelled, spelled_values, ActsAt, BlocksAreSections}
use Rattle.event_graph.proofs.Counting.{count_rises, count_behind, place_less, place_most}
use Rattle.event_graph.proofs.Opening.{is_acting, acting_before, close_act, closing, still_open}
use Rattle.event_graph.proofs.Acting.{acting_at}
use Rattle.event_graph.proofs.Origins.{AreTurned, first_of, section_at, NodeOf, node_of, step_less, step_most, event_there, marked, mark_at, mark_acts, inside, head_block}
use Rattle.event_graph.proofs.Static.{own_or_before, node_block, node_section}
use Rattle.event_graph.proofs.Making.{Maker, made_acting, action_there, action_maker, open_made, close_made}
use Rattle.event_graph.proofs.Spelled.{turn, head_made, tail_made}
use Rattle.event_graph.proofs.Nodes.{done_at, from_node, later_node, later_action}

module _ (f : Flat) (x : Ssa) (words : List (List Lit)) (s : List Bool) (h : IsSpelled f x words s) (i : ℕ) (p : SsaPart) (part : slice_get x.parts i ≡ Some p) where
  abbrev v : Valuation
  v = spelled_values x words s

  abbrev es : List StaticEvent
  es = events_of x words

  abbrev run : List Action
  run = actions_of x.parts v p

  turned : AreTurned x
  turned = turn f x words s h

  both_true : (t : SsaStep) → is_made v t ≡ true → is_acting t ≡ true → made_acting v t ≡ true
  both_true t made acts = ap (λ b. b && is_acting t) made ∙ acts

  -- how many actions the steps before make
  abbrev made_before : ℕ → ℕ
  made_before j = count_before (made_acting v) j p.steps

  -- ---- from sections to blocks

  -- from the open that is the action at o on, up to the action at k, no section ends: so none ends before its step
  unclosed_steps : (o j c : ℕ) (head t : SsaStep) (n b : ℕ) → NodeOf x i o b p head → is_made v head ≡ true → head.act ≡ act.Open → NodeOf x i j n p t → is_made v t ≡ true
      → ((m : ℕ) → made_before o ≤ m → m < made_before j → ¬ (slice_get run m ≡ Some action.Close))
      → o < j → IsSection (marks_of p.steps) o c → c < j → ⊥
  unclosed_steps o j c head t n b first opened is last made none less section before =
      let q = marked p.steps c Closes section.closes in
      let tail = node_of x i c p q.0 part q.1 (mark_acts q.0 Closes q.2 (λ e. cc)) in
      let made_tail = tail_made f x words s h i o c j b (first_of x i + acting_before c p.steps) n p head q.0 t section first tail last before made opened in
      let is_close = close_act q.0.act q.2 in
      let makes : action_by x.parts v q.0.act ≡ action.Close ∷ [] = ap (λ a. action_by x.parts v a) is_close in
      let there = action_there x.parts v p.steps c (made_before c) q.0 action.Close q.1 made_tail makes refl in
      let low = count_rises (made_acting v) o c p.steps (let l = section.later in omega (arith, l)) in
      let high = count_behind (made_acting v) c j p.steps q.0 q.1 (both_true q.0 made_tail tail.acts) before in
      none (made_before c) low high there

  passing : (o : ℕ) (a : Action) (m : Maker x.parts v p.steps o a) → made_acting v m.step ≡ true
  passing o a m = both_true m.step m.made m.acts

  -- a node of a section of the run has the block of the open's node
  section_block : (o : ℕ) (m : Maker x.parts v p.steps o action.Open) (j n : ℕ) (a : Action) → InSection run o j → ActsAt x words s i j n a
      → (e : StaticEvent) → IsAt es n e → e.block ≡ first_of x i + acting_before m.place p.steps
  section_block o m j n a t r e at =
      let is_open = open_made x.parts v m.step.act m.makes in
      let head = node_of x i m.place p m.step part m.there m.acts in
      let b : ℕ = first_of x i + acting_before m.place p.steps in
      let d = done_at f x words s h i j n p a part r in
      let block = node_block x words turned i d.place n p d.step e d.node at in
      let from = t.from in
      let count_o = m.count in
      let count_j = d.count in
      let most = place_most (made_acting v) m.place d.place p.steps d.step d.node.there (both_true d.step d.made d.node.acts) (omega (arith, from, count_o, count_j)) in
      let opens : slice_get (marks_of p.steps) m.place ≡ Some Opens = mark_at p.steps m.place m.step m.there ∙ ap (λ z. Some (mark_of z)) is_open in
      elim (cases_lt m.place d.place) [
        | inl lt ↦
            let opened = still_open (first_of x i) None p.steps (suc m.place) m.place (turned i p part) opens (omega arith) (λ k low high e. omega arith) in
            let c = closing (first_of x i) None p.steps (suc m.place) b (turned i p part) opened in
            let later = c.from in
            let section : IsSection (marks_of p.steps) m.place c.at = record { opens = opens; closes = c.closes; later = omega (arith, later); unclosed = λ k low high. c.unclosed k (omega arith) high } in
            elim (cases_lt c.at d.place) [
              | inl before ↦
                  absurd (unclosed_steps m.place d.place c.at m.step d.step n b head m.made is_open d.node d.made
                  (λ k low high. t.unclosed k (omega (arith, low, count_o)) (omega (arith, high, count_j))) lt section before)
              | inr upto ↦ block ∙ ap (λ z. unwrap_or z n) (inside x turned i m.place c.at d.place b p m.step section head lt upto)
            ]
        | inr ge ↦
            let same : d.place ≡ m.place = omega (arith, most, ge) in
            let none : section_at x i d.place p ≡ None = ap (λ z. section_at x i z p) same ∙ head_block x turned i m.place p m.step part m.there is_open in
            block ∙ ap (λ z. unwrap_or z n) none ∙ d.node.count ∙ ap (λ z. first_of x i + acting_before z p.steps) same
      ]

  -- one place of the run is one node
  one_node : (j k m n : ℕ) (a b : Action) → ActsAt x words s i j m a → ActsAt x words s i k n b → j ≡ k → m ≡ n
  one_node j k m n a b r t same =
      elim (cases_lt m n) [
        | inl lt ↦ absurd (let less = later_action x words s i j k m n a b r t lt in omega (arith, less, same))
        | inr ge ↦ elim (cases_lt n m) [
          | inl lt ↦ absurd (let less = later_action x words s i k j n m b a t r lt in omega (arith, less, same))
          | inr le ↦ omega (arith, ge, le)
        ]
      ]

  one_place : (j k m n : ℕ) (a b : Action) → ActsAt x words s i j m a → ActsAt x words s i k n b → m ≡ n → j ≡ k
  one_place j k m n a b r t same =
      elim (cases_lt j k) [
        | inl lt ↦ absurd (let less = later_node x words s i j k m n a b r t lt in omega (arith, less, same))
        | inr ge ↦ elim (cases_lt k j) [
          | inl lt ↦ absurd (let less = later_node x words s i k j n m b a t r lt in omega (arith, less, same))
          | inr le ↦ omega (arith, ge, le)
        ]
      ]

  event_at : (k n : ℕ) (a : Action) → ActsAt x words s i k n a → (e : StaticEvent) × IsAt es n e
  event_at k n a r =
      let d = done_at f x words s h i k n p a part r in
      (event_of words (acting_at i d.step (section_at x i d.place p) n), event_there x words i d.place n p d.step d.node)

  to_block : (j k m n : ℕ) (a b : Action) → ActsAt x words s i j m a → ActsAt x words s i k n b → (j ≡ k) ⊎ OneSection run j k → OneBlock es m n
  to_block j k m n a b r t (inl same) =
      let e = event_at j m a r in
      subst (λ z. OneBlock es m z) (one_node j k m n a b r t same) (block_self es m e.0 e.1)
  to_block j k m n a b r t (inr q) =
      let maker = action_maker x.parts v p.steps q.0 action.Open q.1.opens in
      let d = event_at j m a r in
      let e = event_at k n b t in
      record {
        first = d.0;
        second = e.0;
        is_first = d.1;
        is_second = e.1;
        same = section_block q.0 maker j m a q.1 r d.0 d.1 ∙ sym (section_block q.0 maker k n b q.2 t e.0 e.1);
      }

  -- ---- from blocks to sections

  in_run : (o c l k b : ℕ) (head : SsaStep) → IsSection (marks_of p.steps) o c → NodeOf x i o b p head → is_made v head ≡ true → head.act ≡ act.Open
      → o ≤ l → l ≤ c → made_before l ≡ k → k < length run → InSection run (made_before o) k
  in_run o c l k b head section first made opens low high count there = record {
    opens = action_there x.parts v p.steps o (made_before o) head action.Open first.there made (ap (λ a. action_by x.parts v a) opens) refl;
    from = let rises = count_rises (made_acting v) o l p.steps low in omega (arith, rises, count);
    there = there;
    unclosed = unclosed;
  }
    where
      unclosed : (n : ℕ) → made_before o ≤ n → n < k → ¬ (slice_get run n ≡ Some action.Close)
      unclosed n least less e =
          let m = action_maker x.parts v p.steps n action.Close e in
          let closes = close_made x.parts v m.step.act m.makes in
          let number = m.count in
          let from = place_most (made_acting v) o m.place p.steps m.step m.there (both_true m.step m.made m.acts) (omega (arith, least, number)) in
          let upto = place_less (made_acting v) m.place l p.steps (omega (arith, less, number, count)) in
          let mark : slice_get (marks_of p.steps) m.place ≡ Some Closes = mark_at p.steps m.place m.step m.there ∙ ap (λ z. Some (mark_of z)) closes in
          elim (cases_lt o m.place) [
            | inl lt ↦ section.unclosed m.place lt (omega (arith, upto, high)) mark
            | inr ge ↦
                let same : m.place ≡ o = omega (arith, from, ge) in
                let mine : slice_get (marks_of p.steps) o ≡ Some Closes = ap (λ z. slice_get (marks_of p.steps) z) (sym same) ∙ mark in
                let apart : Opens ≡ Closes = one_answer (slice_get (marks_of p.steps) o) Opens Closes section.opens mine in
                cc
          ]

  to_section : (j k m n : ℕ) (a b : Action) → ActsAt x words s i j m a → ActsAt x words s i k n b → m < n → OneBlock es m n → OneSection run j k
  to_section j k m n a b r t less one =
      let d = done_at f x words s h i j m p a part r in
      let e = done_at f x words s h i k n p b part t in
      let most = own_or_before x words turned m one.first one.is_first in
      let same = one.same in
      let w = node_section x words turned i e.place n p e.step one.second e.node one.is_second (omega (arith, most, same, less)) in
      let made = head_made f x words s h i e.place n one.second.block p e.step e.node w e.made in
      let from = step_most x i w.opens d.place one.second.block m p w.head d.step w.node d.node (omega (arith, most, same)) in
      let before = step_less x i d.place e.place m n p d.step e.step d.node e.node less in
      let upto = w.upto in
      let behind = w.before in (
        made_before w.opens,
        in_run w.opens w.closes d.place j one.second.block w.head w.section w.node made w.act from (omega (arith, before, upto)) d.count (slice_get_within run j a (from_node f x words s h i j m p a part r)),
        in_run w.opens w.closes e.place k one.second.block w.head w.section w.node made w.act (omega (arith, behind)) upto e.count (slice_get_within run k b (from_node f x words s h i k n p b part t)),
      )

  from_block : (j k m n : ℕ) (a b : Action) → ActsAt x words s i j m a → ActsAt x words s i k n b → OneBlock es m n → (j ≡ k) ⊎ OneSection run j k
  from_block j k m n a b r t one =
      elim (cases_lt m n) [
        | inl lt ↦ inr (to_section j k m n a b r t lt one)
        | inr ge ↦ elim (cases_lt n m) [
          | inl lt ↦ let q = to_section k j n m b a t r lt (block_turned es m n one) in inr (q.0, q.2, q.1)
          | inr le ↦ inl (one_place j k m n a b r t (omega (arith, ge, le)))
        ]
      ]

pub blocks_sections : BlocksAreSections
blocks_sections f x words s i j k m n p a b h part r t = (to_block f x words s h i p part j k m n a b r t, from_block f x words s h i p part j k m n a b r t)
