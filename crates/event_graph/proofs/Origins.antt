-- The event at a node, the step that it stands for, and its block.
use Rattle.std.proofs.Common.{◌≡◌, ℕ, zero, suc, ◌+◌, ◌-◌, ◌<◌, ◌≤◌, ◌⊎◌, inl, inr, false, true, List, [], ◌∷◌, length, map, Option, Some, None, refl, ap, sym, ◌∙◌, subst, arith}
use Rattle.std.specs.Prelude.{slice_get, unwrap_or}
use Rattle.std.specs.List.{AllZip}
use Rattle.std.proofs.lemmas.Bool.{cases_lt}
use Rattle.std.proofs.lemmas.Option.{none-some, same_Some, slice_get_within}
use Rattle.dg_base.specs.declared.Lit.{Lit}
use Rattle.dg_base.proofs.Lists.{one_answer, get_append_right, get_append_cases, get_map, get_from_map}
use Rattle.bv_term.specs.declared.term.TermId.{TermId}
use Rattle.flat_prog.specs.declared.Flat.{Flat}
use Rattle.flat_prog.specs.declared.Instance.{Instance}
use Rattle.flat_prog.specs.Sections.{Mark, Opens, Closes, Silent, AreInTurn, IsSection}
use Rattle.ssa_form.specs.declared.Ssa.{Ssa}
use Rattle.ssa_form.specs.declared.SsaPart.{SsaPart}
use Rattle.ssa_form.specs.declared.SsaStep.{SsaStep}
use Rattle.ssa_form.specs.declared.SsaAct.{SsaAct}
use Rattle.ssa_form.specs.declared.SsaAct.TheVariants as act
use Rattle.ssa_form.specs.Parts.{mark_of, marks_of}
use Rattle.ssa_form.specs.Form.{IsSsaOf, IsPartOf}
use Rattle.memory_models.specs.declared.StaticEvent.{StaticEvent}
use Rattle.memory_models.specs.declared.StaticKind.TheVariants as kind
use Rattle.memory_models.specs.Events.{IsAt, IsOfThread}
use Rattle.event_graph.specs.Graphs.{Acting, kind_of, acting, acting_in, event_of, events_of, initial_event, initial_events}
use Rattle.event_graph.proofs.Counting.{choose, count_within, count_behind, place_less, place_most}
use Rattle.event_graph.proofs.Opening.{is_acting, acting_before, open_at, Unclosed, opened, closing, still_open, none_open, loud_acts, open_act}
use Rattle.event_graph.proofs.Acting.{acting_at, acting_there, acting_source, acting_of, first_in, first_least, parts_apart, all_there, belongs}

-- ---- parts of a form

zip_right : {A B : Type 0} (R : A → B → Type 0) (xs : List A) (ys : List B) (k : ℕ) (y : B) → AllZip R xs ys → slice_get ys k ≡ Some y → (x : A) × R x y
zip_right R xs [] k y h e = absurd (none-some y e)
zip_right R [] (z ∷ ys) k y h e = absurd h
zip_right R (x ∷ xs) (z ∷ ys) zero y h e = (x, subst (R x) (same_Some z y e) h.0)
zip_right R (x ∷ xs) (z ∷ ys) (suc k) y h e = zip_right R xs ys k y h.1 e

pub part_of : (f : Flat) (x : Ssa) (i : ℕ) (p : SsaPart) → IsSsaOf f x → slice_get x.parts i ≡ Some p → (instance : Instance) × IsPartOf f x instance p
part_of f x i p h e = zip_right (IsPartOf f x) f.instances x.parts i p h.parts e

-- the sections of every part are in turn
abbrev pub AreTurned : Ssa → Type 0
AreTurned x = (i : ℕ) (p : SsaPart) → slice_get x.parts i ≡ Some p → AreInTurn false (marks_of p.steps)

pub turned : (f : Flat) (x : Ssa) → IsSsaOf f x → AreTurned x
turned f x h i p e = (part_of f x i p h e).1.closed

-- ---- nodes of steps

-- the number of the first action of a part
abbrev pub first_of : Ssa → ℕ → ℕ
first_of x i = first_in (length x.initials) i x.parts

-- the section that is open before a step of a part
abbrev pub section_at : Ssa → ℕ → ℕ → SsaPart → Option ℕ
section_at x i j p = open_at (first_of x i) None j p.steps

-- step j of part i makes the action with number n
pub record NodeOf (x : Ssa) (i j n : ℕ) (p : SsaPart) (s : SsaStep) : Type 0 where
  pub part : slice_get x.parts i ≡ Some p
  pub there : slice_get p.steps j ≡ Some s
  pub acts : is_acting s ≡ true
  pub count : n ≡ first_of x i + acting_before j p.steps

-- a step that makes an action has a node
pub node_of : (x : Ssa) (i j : ℕ) (p : SsaPart) (s : SsaStep) → slice_get x.parts i ≡ Some p → slice_get p.steps j ≡ Some s → is_acting s ≡ true → NodeOf x i j (first_of x i + acting_before j p.steps) p s
node_of x i j p s part there acts = record { part = part; there = there; acts = acts; count = refl }

-- the step of an action
pub record Origin (x : Ssa) (place : ℕ) (a : Acting) : Type 0 where
  pub instance : ℕ
  pub step_place : ℕ
  pub part : SsaPart
  pub step : SsaStep
  pub node : NodeOf x instance step_place (length x.initials + place) part step
  pub same : a ≡ acting_at instance step (section_at x instance step_place part) (length x.initials + place)

module _ (x : Ssa) where
  pub node_low : (i j n : ℕ) (p : SsaPart) (s : SsaStep) → NodeOf x i j n p s → first_of x i ≤ n
  node_low i j n p s h = let c = h.count in omega (arith, c)

  pub node_high : (i j n : ℕ) (p : SsaPart) (s : SsaStep) → NodeOf x i j n p s → n < first_of x i + acting_of p
  node_high i j n p s h = let c = h.count in let w = count_within is_acting j p.steps s h.there h.acts in omega (arith, c, w)

  -- behind the initial writes
  pub node_later : (i j n : ℕ) (p : SsaPart) (s : SsaStep) → NodeOf x i j n p s → length x.initials ≤ n
  node_later i j n p s h = let low = first_least (length x.initials) i x.parts in let c = h.count in omega (arith, low, c)

  -- of one part
  pub step_less : (i j k m n : ℕ) (p : SsaPart) (s t : SsaStep) → NodeOf x i j m p s → NodeOf x i k n p t → m < n → j < k
  step_less i j k m n p s t g h less = let c = g.count in let d = h.count in place_less is_acting j k p.steps (omega (arith, c, d, less))

  pub step_most : (i j k m n : ℕ) (p : SsaPart) (s t : SsaStep) → NodeOf x i j m p s → NodeOf x i k n p t → m ≤ n → j ≤ k
  step_most i j k m n p s t g h most = let c = g.count in let d = h.count in place_most is_acting j k p.steps t h.there h.acts (omega (arith, c, d, most))

  pub step_same : (i j k n : ℕ) (p : SsaPart) (s t : SsaStep) → NodeOf x i j n p s → NodeOf x i k n p t → j ≡ k
  step_same i j k n p s t g h =
      let low = step_most i j k n n p s t g h (omega arith) in
      let high = step_most i k j n n p t s h g (omega arith) in
      omega (arith, low, high)

  pub node_less : (i j k m n : ℕ) (p : SsaPart) (s t : SsaStep) → NodeOf x i j m p s → NodeOf x i k n p t → j < k → m < n
  node_less i j k m n p s t g h less =
      let c = g.count in let d = h.count in let r = count_behind is_acting j k p.steps s g.there g.acts less in omega (arith, c, d, r)

  -- a node between two of one part is of that part
  pub between : (i j l k r a m b : ℕ) (p q : SsaPart) (s t u : SsaStep) → NodeOf x i j a p s → NodeOf x k r m q t → NodeOf x i l b p u → a ≤ m → m ≤ b → k ≡ i
  between i j l k r a m b p q s t u f g h low high =
      elim (cases_lt k i) [
        | inl lt ↦
            let apart = parts_apart (length x.initials) k i x.parts q lt g.part in
            let from = node_low i j a p s f in
            let to = node_high k r m q t g in
            absurd (omega (arith, apart, from, to, low))
        | inr ge ↦ elim (cases_lt i k) [
          | inl lt ↦
              let apart = parts_apart (length x.initials) i k x.parts p lt f.part in
              let from = node_low k r m q t g in
              let to = node_high i l b p u h in
              absurd (omega (arith, apart, from, to, high))
          | inr le ↦ omega (arith, ge, le)
        ]
      ]

  -- the step with a number of a part
  pub node_at : (i n : ℕ) (p : SsaPart) → slice_get x.parts i ≡ Some p → first_of x i ≤ n → n < first_of x i + acting_of p → (j : ℕ) × (s : SsaStep) × NodeOf x i j n p s
  node_at i n p part low high =
      let k : ℕ = n - first_of x i in
      let c = choose is_acting p.steps k (omega (arith, low, high)) in
      let count = c.count in
      (c.place, c.item, record { part = part; there = c.there; acts = c.passes; count = omega (arith, count, low) })

  -- ---- actions and events

  pub acting_node : (i j n : ℕ) (p : SsaPart) (s : SsaStep) → NodeOf x i j n p s
      → (place : ℕ) × (n ≡ length x.initials + place) × (slice_get (acting x) place ≡ Some (acting_at i s (section_at x i j p) n))
  acting_node i j n p s h =
      let there = acting_there i (first_of x i) None p.steps j s (acting_before j p.steps) n h.there h.acts refl h.count in
      let low = first_least (length x.initials) i x.parts in
      let count = h.count in
      let place : ℕ = n - length x.initials in
      let sum : length x.initials + place ≡ first_of x i + acting_before j p.steps = omega (arith, low, count) in
      let same : i ≡ 0 + i = omega arith in
      (place, omega (arith, low, count), all_there 0 (length x.initials) i i x.parts p (acting_before j p.steps) place (acting_at i s (section_at x i j p) n) h.part same there sum)

  pub origin : (place : ℕ) (a : Acting) → slice_get (acting x) place ≡ Some a → Origin x place a
  origin place a e =
      let b = belongs 0 (length x.initials) x.parts place a e in
      let number : 0 + b.number ≡ b.number = omega arith in
      let mine : slice_get (acting_in b.number (first_of x b.number) None b.part.steps) b.place ≡ Some a =
      ap (λ z. slice_get (acting_in z (first_of x b.number) None b.part.steps) b.place) (sym number) ∙ b.acting in
      let s = acting_source b.number (first_of x b.number) b.part.steps b.place a mine in
      let sum = b.sum in
      let count = s.count in
      record {
        instance = b.number;
        step_place = s.place;
        part = b.part;
        step = s.step;
        node = record { part = b.there; there = s.there; acts = s.acts; count = omega (arith, sum, count) };
        same = s.same ∙ ap (λ z. acting_at b.number s.step (section_at x b.number s.place b.part) z) (sym sum);
      }

-- ---- events

pub length_initials : (c : ℕ) (ts : List TermId) → length (initial_events c ts) ≡ length ts
length_initials c [] = refl
length_initials c (t ∷ ts) = ap suc (length_initials (c + 1) ts)

pub initial_at : (c k : ℕ) (ts : List TermId) (e : StaticEvent) → slice_get (initial_events c ts) k ≡ Some e → e ≡ initial_event (c + k)
initial_at c k [] e h = absurd (none-some e h)
initial_at c zero (t ∷ ts) e h = let same : c ≡ c + 0 = omega arith in sym (same_Some (initial_event c) e h) ∙ ap initial_event same
initial_at c (suc k) (t ∷ ts) e h = let same : c + 1 + k ≡ c + suc k = omega arith in initial_at (c + 1) k ts e h ∙ ap initial_event same

pub not_initial : (a : SsaAct) → ¬ (unwrap_or (kind_of a) kind.Full ≡ kind.Initial)
not_initial (act.Read c t) = λ e. cc
not_initial _ = λ e. cc

-- the event is of a step of this part
pub record Acted (x : Ssa) (words : List (List Lit)) (i : ℕ) (p : SsaPart) (n : ℕ) (e : StaticEvent) : Type 0 where
  pub place : ℕ
  pub step : SsaStep
  pub node : NodeOf x i place n p step
  pub same : e ≡ event_of words (acting_at i step (section_at x i place p) n)

module _ (x : Ssa) (words : List (List Lit)) where
  abbrev es : List StaticEvent
  es = events_of x words

  pub event_there : (i j n : ℕ) (p : SsaPart) (s : SsaStep) → NodeOf x i j n p s → IsAt es n (event_of words (acting_at i s (section_at x i j p) n))
  event_there i j n p s h =
      let a = acting_node x i j n p s h in
      let long = length_initials 0 x.initials in
      let at = a.1 in
      get_append_right (initial_events 0 x.initials) (map (event_of words) (acting x)) n a.0 (omega (arith, long, at))
      ∙ get_map (event_of words) (acting x) a.0 (acting_at i s (section_at x i j p) n) a.2

  -- an initial write, or of a step
  pub event_origin : (n : ℕ) (e : StaticEvent) → IsAt es n e → ((n < length x.initials) × (e ≡ initial_event n)) ⊎ ((i : ℕ) × (p : SsaPart) × Acted x words i p n e)
  event_origin n e h =
      elim (get_append_cases (initial_events 0 x.initials) (map (event_of words) (acting x)) n e h) [
        | inl first ↦
            let within = slice_get_within (initial_events 0 x.initials) n e first in
            let long = length_initials 0 x.initials in
            let same : 0 + n ≡ n = omega arith in
            inl (omega (arith, within, long), initial_at 0 n x.initials e first ∙ ap initial_event same)
        | inr r ↦
            let a = get_from_map (event_of words) (acting x) r.0 e r.2 in
            let o = origin x r.0 a.0 a.1 in
            let long = length_initials 0 x.initials in
            let split = r.1 in
            let at : length x.initials + r.0 ≡ n = omega (arith, long, split) in
            inr (
              o.instance,
              o.part,
              subst (λ m. Acted x words o.instance o.part m e) at (record {
                place = o.step_place;
                step = o.step;
                node = o.node;
                same = sym a.2 ∙ ap (event_of words) o.same;
              }),
            )
      ]

  pub acted_thread : (i n : ℕ) (p : SsaPart) (e : StaticEvent) → IsAt es n e → Acted x words i p n e → IsOfThread es n e
  acted_thread i n p e there h = record { there = there; acts = λ k. not_initial h.step.act (ap (λ (z : StaticEvent). z.kind) (sym h.same) ∙ k) }

  pub node_thread : (i j n : ℕ) (p : SsaPart) (s : SsaStep) → NodeOf x i j n p s → IsOfThread es n (event_of words (acting_at i s (section_at x i j p) n))
  node_thread i j n p s h = record { there = event_there i j n p s h; acts = not_initial s.act }

  pub thread_acted : (n : ℕ) (e : StaticEvent) → IsOfThread es n e → (i : ℕ) × (p : SsaPart) × Acted x words i p n e
  thread_acted n e h =
      elim (event_origin n e h.there) [
        | inl r ↦ absurd (h.acts (ap (λ (z : StaticEvent). z.kind) r.1))
        | inr r ↦ r
      ]

  -- the same, of a part that is known
  pub acted_of : (i k n : ℕ) (p q : SsaPart) (e : StaticEvent) → Acted x words k q n e → k ≡ i → slice_get x.parts i ≡ Some p → Acted x words i p n e
  acted_of i k n p q e h same part =
      let there : slice_get x.parts i ≡ Some q = ap (λ z. slice_get x.parts z) (sym same) ∙ h.node.part in
      let one : q ≡ p = one_answer (slice_get x.parts i) q p there part in
      subst (λ z. Acted x words i z n e) one (subst (λ z. Acted x words z q n e) same h)

-- ---- blocks

-- step j of a part stands behind the open, up to the close, of the section whose open has the number b
pub record Within (x : Ssa) (i j : ℕ) (p : SsaPart) (b : ℕ) : Type 0 where
  pub opens : ℕ
  pub closes : ℕ
  pub section : IsSection (marks_of p.steps) opens closes
  pub before : opens < j
  pub upto : j ≤ closes
  pub head : SsaStep
  pub node : NodeOf x i opens b p head
  pub act : head.act ≡ act.Open

-- the step with a mark
pub marked : (ss : List SsaStep) (o : ℕ) (m : Mark) → slice_get (marks_of ss) o ≡ Some m → (s : SsaStep) × (slice_get ss o ≡ Some s) × (mark_of s.act ≡ m)
marked ss o m e = get_from_map (λ (s : SsaStep). mark_of s.act) ss o m e

pub mark_at : (ss : List SsaStep) (o : ℕ) (s : SsaStep) → slice_get ss o ≡ Some s → slice_get (marks_of ss) o ≡ Some (mark_of s.act)
mark_at ss o s e = get_map (λ (z : SsaStep). mark_of z.act) ss o s e

pub mark_acts : (s : SsaStep) (m : Mark) → mark_of s.act ≡ m → ¬ (m ≡ Silent) → is_acting s ≡ true
mark_acts s m e not = loud_acts s.act (λ f. not (sym e ∙ f))

module _ (x : Ssa) (turn : AreTurned x) where
  -- an open section is a section
  pub within : (i j b : ℕ) (p : SsaPart) → slice_get x.parts i ≡ Some p → section_at x i j p ≡ Some b → Within x i j p b
  within i j b p part e =
      elim (opened (first_of x i) None p.steps j b e) [
        | inl r ↦ absurd (none-some b r.0)
        | inr r ↦
            let c = closing (first_of x i) None p.steps j b (turn i p part) e in
            let s = marked p.steps r.0 Opens r.1.opens in
            let before = r.1.before in
            let from = c.from in
            record {
              opens = r.0;
              closes = c.at;
              section = record { opens = r.1.opens; closes = c.closes; later = omega (arith, before, from); unclosed = unclosed r.0 c.at p r.1.unclosed c.unclosed };
              before = before;
              upto = from;
              head = s.0;
              node = record { part = part; there = s.1; acts = mark_acts s.0 Opens s.2 (λ f. cc); count = r.1.number };
              act = open_act s.0.act s.2;
            }
      ]
    where
      unclosed : (o c : ℕ) (q : SsaPart) → Unclosed (marks_of q.steps) (suc o) j → Unclosed (marks_of q.steps) j c → (k : ℕ) → o < k → k < c → ¬ (slice_get (marks_of q.steps) k ≡ Some Closes)
      unclosed o c q front back k low high =
          elim (cases_lt k j) [ inl lt ↦ front k (omega arith) lt | inr ge ↦ back k ge high ]

  -- inside a section it is open
  pub inside : (i o c j b : ℕ) (p : SsaPart) (s : SsaStep) → IsSection (marks_of p.steps) o c → NodeOf x i o b p s → o < j → j ≤ c → section_at x i j p ≡ Some b
  inside i o c j b p s section head low high =
      still_open (first_of x i) None p.steps j o (turn i p head.part) section.opens low (λ k g h. section.unclosed k (omega arith) (omega arith)) ∙ ap Some (sym head.count)

  -- an open stands in a block of its own
  pub head_block : (i j : ℕ) (p : SsaPart) (s : SsaStep) → slice_get x.parts i ≡ Some p → slice_get p.steps j ≡ Some s → s.act ≡ act.Open → section_at x i j p ≡ None
  head_block i j p s part there is = none_open (first_of x i) None p.steps j (turn i p part) (mark_at p.steps j s there ∙ ap (λ a. Some (mark_of a)) is)

  -- the block of an action: its own, or that of the section that is open
  pub block_case : (i j n : ℕ) (p : SsaPart) → slice_get x.parts i ≡ Some p → (unwrap_or (section_at x i j p) n ≡ n) ⊎ Within x i j p (unwrap_or (section_at x i j p) n)
  block_case i j n p part = by_section (section_at x i j p) refl
    where
      by_section : (o : Option ℕ) → section_at x i j p ≡ o → (unwrap_or o n ≡ n) ⊎ Within x i j p (unwrap_or o n)
      by_section None e = inl refl
      by_section (Some b) e = inr (within i j b p part e)
