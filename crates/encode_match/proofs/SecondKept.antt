-- What an assignment of the values' clauses spells stays as it is extended to the order's variables.
use Rattle.std.proofs.Common.{◌≡◌, ℕ, zero, suc, ◌+◌, ◌*◌, ◌≤◌, ⊎_elim, Bool, not, cond, ◌&&◌, nat_eq, List, [], ◌∷◌, ◌++◌, map, length, refl, ap, sym, ◌∙◌, subst, arith}
use Rattle.std.specs.Prelude.{slice_index_or, All}
use Rattle.std.proofs.lemmas.Bool.{cases_lt}
use Rattle.std.proofs.lemmas.List.{length-map, get_or_past}
use Rattle.std.proofs.lemmas.List.Elements.{All-nil, All-cons, All-head, All-tail, All-map, All-append, All-get_or, All-contains, All-weaker, Contains-append_cases}
use Rattle.dg_base.specs.declared.Lit.{Lit}
use Rattle.dg_base.specs.Values.{truth_of}
use Rattle.axiom_model.specs.declared.Event.{Event}
use Rattle.axiom_model.specs.declared.Event.TheVariants.{Initial, At}
use Rattle.axiom_model.specs.declared.MemoryModel.{MemoryModel}
use Rattle.axiom_model.specs.declared.ThreadPart.{ThreadPart}
use Rattle.bv_term.specs.declared.term.TermId.{TermId}
use Rattle.cnf_problem.specs.Literals.{value, IsOver, AreSatisfied}
use Rattle.cnf_problem.specs.Formulas.{true_lit}
use Rattle.cnf_problem.proofs.Assignments.{value-append, satisfied-append}
use Rattle.bit_gates.specs.Words.{number, IsWordOver}
use Rattle.bit_blast.specs.Blasting.{word_at, inputs_under}
use Rattle.flat_prog.specs.declared.Flat.{Flat}
use Rattle.ssa_form.specs.declared.SsaPart.{SsaPart}
use Rattle.ssa_form.specs.declared.SsaStep.{SsaStep}
use Rattle.ssa_form.specs.declared.SsaAct.{SsaAct}
use Rattle.ssa_form.specs.declared.SsaAct.TheVariants as act
use Rattle.memory_models.specs.declared.StaticEvent.{StaticEvent}
use Rattle.memory_models.specs.declared.EventBits.{EventBits}
use Rattle.memory_models.specs.Events.{IsAt}
use Rattle.event_graph.specs.Graphs.{guard_lit, events_of, bits_of}
use Rattle.event_graph.specs.Laws.{is_initial, happens_in, earlier}
use Rattle.event_graph.proofs.Values.{events_over, have_bits}
use Rattle.order_vars.specs.Links as links
use Rattle.order_vars.specs.Orders.{AreEventsOver}
use Rattle.encode_match.specs.declared.Taken.{Taken}
use Rattle.encode_match.specs.declared.PartMap.{PartMap}
use Rattle.encode_match.specs.declared.Encoded.{Encoded}
use Rattle.encode_match.specs.Spelling.{IsEvent, event_by, first_or_none, script_in, is_start, starts, handles_in, thread_with, threads_from, threads_of}
use Rattle.encode_match.specs.Parts.{IsMadeOf, ending_clauses, part_map, taken_by, taken_in, words_of}
use Rattle.encode_match.proofs.PartRuns.{all_at}

-- ---- two assignments that agree on the first variables

-- the literals of what is taken have variables
abbrev pub IsTakenOver : ℕ → Taken → Type 0
IsTakenOver vars t = IsOver vars t.guard × All (IsOver vars) t.bits

abbrev pub IsPartOver : ℕ → PartMap → Type 0
IsPartOver vars p = All (IsOver vars) p.arg × All (IsTakenOver vars) p.script

abbrev GuardsOver : ℕ → List StaticEvent → Type 0
GuardsOver vars es = All (λ (e : StaticEvent). IsOver vars e.guard) es

abbrev BitsOver : ℕ → List EventBits → Type 0
BitsOver vars bs = All (λ (b : EventBits). All (IsOver vars) b.bits) bs

module _ (a b : List Bool) (vars : ℕ) (agree : (l : Lit) → IsOver vars l → value a l ≡ value b l) where
  number_kept : (w : List Lit) → All (IsOver vars) w → number a w ≡ number b w
  number_kept [] h = refl
  number_kept (l ∷ ls) h =
      ap (λ (v : Bool). truth_of v + 2 * number a ls) (agree l (All-head (IsOver vars) l ls h))
      ∙ ap (λ (n : ℕ). truth_of (value b l) + 2 * n) (number_kept ls (All-tail (IsOver vars) l ls h))

  script_kept : (ts : List Taken) → All (IsTakenOver vars) ts → script_in a ts ≡ script_in b ts
  script_kept [] h = refl
  script_kept (t ∷ ts) h =
      let one = All-head (IsTakenOver vars) t ts h in
      ap (λ (v : Bool). cond v (number a t.bits ∷ script_in a ts) (script_in a ts)) (agree t.guard one.0)
      ∙ (ap (λ (n : ℕ). cond (value b t.guard) (n ∷ script_in a ts) (script_in a ts)) (number_kept t.bits one.1)
      ∙ ap (λ (l : List ℕ). cond (value b t.guard) (number b t.bits ∷ l) l) (script_kept ts (All-tail (IsTakenOver vars) t ts h)))

  handles_kept : (i : ℕ) (es : List StaticEvent) (bs : List EventBits) → GuardsOver vars es → BitsOver vars bs → handles_in a i es bs ≡ handles_in b i es bs
  handles_kept i [] bs g h = refl
  handles_kept i (e ∷ es) [] g h = refl
  handles_kept i (e ∷ es) (d ∷ bs) g h =
      let guard = All-head (λ (z : StaticEvent). IsOver vars z.guard) e es g in
      let bits = All-head (λ (z : EventBits). All (IsOver vars) z.bits) d bs h in
      let rest = handles_kept i es bs (All-tail (λ (z : StaticEvent). IsOver vars z.guard) e es g) (All-tail (λ (z : EventBits). All (IsOver vars) z.bits) d bs h) in
      ap (λ (v : Bool). cond ((is_start e.kind && nat_eq e.instance i) && v) (number a d.bits ∷ []) (handles_in a i es bs)) (agree e.guard guard)
      ∙ (ap (λ (n : ℕ). cond (starts b i e) (n ∷ []) (handles_in a i es bs)) (number_kept d.bits bits)
      ∙ ap (λ (l : List ℕ). cond (starts b i e) (number b d.bits ∷ []) l) rest)

  earlier_kept : (i n : ℕ) (es : List StaticEvent) → GuardsOver vars es → earlier a i n es ≡ earlier b i n es
  earlier_kept i zero es g = refl
  earlier_kept i (suc n) [] g = refl
  earlier_kept i (suc n) (e ∷ es) g =
      ap (λ (v : Bool). truth_of ((not (is_initial e.kind) && nat_eq e.instance i) && v) + earlier a i n es) (agree e.guard (All-head (λ (z : StaticEvent). IsOver vars z.guard) e es g))
      ∙ ap (λ (k : ℕ). truth_of (happens_in b i e) + k) (earlier_kept i n es (All-tail (λ (z : StaticEvent). IsOver vars z.guard) e es g))

  thread_kept : (p : PartMap) → IsPartOver vars p → thread_with a p ≡ thread_with b p
  thread_kept p h =
      let by : ℕ → List ℕ → ℕ → ThreadPart = λ n l k. record { handle = k; function = p.function; arg = n; script = l } in
      ap (λ (n : ℕ). by n (script_in a p.script)) (number_kept p.arg h.0) ∙ ap (by (number b p.arg)) (script_kept p.script h.1)

  threads_from_kept : (i : ℕ) (es : List StaticEvent) (bs : List EventBits) (ps : List PartMap) → GuardsOver vars es → BitsOver vars bs → All (IsPartOver vars) ps → threads_from a i es bs ps ≡ threads_from b i es bs ps
  threads_from_kept i es bs [] g h k = refl
  threads_from_kept i es bs (p ∷ ps) g h k =
      ap (λ (l : List ℕ). map (thread_with a p) l ++ threads_from a (i + 1) es bs ps) (handles_kept i es bs g h)
      ∙ (ap (λ (f : ℕ → ThreadPart). map f (handles_in b i es bs) ++ threads_from a (i + 1) es bs ps) (thread_kept p (All-head (IsPartOver vars) p ps k))
      ∙ ap (λ (l : List ThreadPart). map (thread_with b p) (handles_in b i es bs) ++ l) (threads_from_kept (i + 1) es bs ps g h (All-tail (IsPartOver vars) p ps k)))

-- ---- what is made is over the values' variables

module _ (m : MemoryModel) (flat : Flat) (x : Encoded) (made : IsMadeOf m flat x) where
  abbrev vars : ℕ
  vars = made.blasted.vars

  words_over : All (All (IsOver vars)) made.words
  words_over = All-weaker (IsWordOver vars) (All (IsOver vars)) (λ w h. h.1) made.words made.blasts.each

  pub word_over : (n : ℕ) → All (IsOver vars) (word_at made.words n)
  word_over n =
      ⊎_elim
      (λ h. All-get_or (All (IsOver vars)) made.words n [] h words_over)
      (λ h. subst (All (IsOver vars)) (sym (get_or_past made.words n [] h)) (All-nil (IsOver vars)))
      (cases_lt n (length made.words))

  first_over : (w : List Lit) → All (IsOver vars) w → IsOver vars (slice_index_or w 0 true_lit)
  first_over [] h = let some : 1 ≤ vars = made.blasts.grows in (omega arith, omega (arith, some))
  first_over (l ∷ ls) h = All-head (IsOver vars) l ls h

  pub guard_over : (t : TermId) → IsOver vars (guard_lit made.words t)
  guard_over t = first_over (word_at made.words t.0) (word_over t.0)

  taken_by_over : (u : SsaStep) (a : SsaAct) → All (IsTakenOver vars) (taken_by made.words u a)
  taken_by_over u (act.Take t) = All-cons (IsTakenOver vars) (record { guard = guard_lit made.words u.guard; bits = word_at made.words t.0 }) [] (guard_over u.guard, word_over t.0) (All-nil (IsTakenOver vars))
  taken_by_over u (act.Read c t) = All-cons (IsTakenOver vars) (record { guard = guard_lit made.words u.guard; bits = word_at made.words t.0 }) [] (guard_over u.guard, word_over t.0) (All-nil (IsTakenOver vars))
  taken_by_over u _ = All-nil (IsTakenOver vars)

  taken_over : (ss : List SsaStep) → All (IsTakenOver vars) (taken_in made.words ss)
  taken_over [] = All-nil (IsTakenOver vars)
  taken_over (u ∷ ss) = All-append (IsTakenOver vars) (taken_by made.words u u.act) (taken_in made.words ss) (taken_by_over u u.act) (taken_over ss)

  parts_from : (ps : List SsaPart) → All (IsPartOver vars) (map (part_map made.words) ps)
  parts_from [] = All-nil (IsPartOver vars)
  parts_from (p ∷ ps) = All-cons (IsPartOver vars) (part_map made.words p) (map (part_map made.words) ps) (word_over p.arg.0, taken_over p.steps) (parts_from ps)

  pub parts_over : All (IsPartOver vars) x.map.parts
  parts_over = subst (All (IsPartOver vars)) (sym made.parts) (parts_from made.form.parts)

  both_over : GuardsOver vars (events_of made.form made.words) × All (λ (b : EventBits). IsWordOver vars b.bits) (bits_of made.form made.words)
  both_over = events_over flat made.form made.words vars made.is_form made.blasts.count made.blasts.each made.blasts.grows

  pub guards_over : GuardsOver vars x.map.graph.events
  guards_over = subst (GuardsOver vars) (sym made.events) both_over.0

  values_over : All (λ (b : EventBits). IsWordOver vars b.bits) x.map.graph.bits
  values_over = subst (All (λ (b : EventBits). IsWordOver vars b.bits)) (sym made.bits) both_over.1

  pub bits_over : BitsOver vars x.map.graph.bits
  bits_over = All-weaker (λ (b : EventBits). IsWordOver vars b.bits) (λ (b : EventBits). All (IsOver vars) b.bits) (λ b h. h.1) x.map.graph.bits values_over

  -- the events and their values, as the order takes them
  pub are_events_over : AreEventsOver vars x.map.graph.events (words_of x.map.graph.bits)
  are_events_over = record {
    guards = guards_over;
    count = length-map x.map.graph.bits (λ (b : EventBits). b.bits) ∙ (ap (λ (l : List EventBits). length l) made.bits ∙ (have_bits made.form made.words ∙ ap (λ (l : List StaticEvent). length l) (sym made.events)));
    each = All-map (λ (w : List Lit). (length w ≡ 32) × All (IsOver vars) w) (λ (b : EventBits). b.bits) x.map.graph.bits values_over;
  }

  -- ---- all clauses

  pub all_clauses : (s : List Bool) → AreSatisfied s made.blasted.clauses → AreSatisfied s made.orders.added → AreSatisfied s (ending_clauses made.words made.form.parts) → AreSatisfied s x.problem.clauses
  all_clauses s values order endings =
      subst (AreSatisfied s) (sym made.clauses) (λ c k. ⊎_elim
      (λ h. subst (AreSatisfied s) (sym made.orders.clauses) (λ d l. ⊎_elim (values d) (order d) (Contains-append_cases made.blasted.clauses made.orders.added d l)) c h)
      (endings c)
      (Contains-append_cases made.ordered.clauses (ending_clauses made.words made.form.parts) c k))

  -- ---- an assignment of the values' variables, and one that extends it

  module _ (s more : List Bool) (long : length s ≡ vars) where
    pub value_kept : (l : Lit) → IsOver vars l → value (s ++ more) l ≡ value s l
    value_kept l h = value-append s more l (subst (λ (n : ℕ). IsOver n l) (sym long) h)

    pub clauses_up : AreSatisfied s made.blasted.clauses → AreSatisfied (s ++ more) made.blasted.clauses
    clauses_up h c k =
        satisfied-append s more c (subst (λ (n : ℕ). All (IsOver n) c) (sym long) (All-contains (All (IsOver vars)) made.blasted.clauses c made.built.over k)) (h c k)

    pub inputs_kept : (n : ℕ) → inputs_under (s ++ more) made.words n ≡ inputs_under s made.words n
    inputs_kept n = number_kept (s ++ more) s vars value_kept (word_at made.words n) (word_over n)

    pub guard_kept : (n : ℕ) (e : StaticEvent) → IsAt x.map.graph.events n e → value (s ++ more) e.guard ≡ value s e.guard
    guard_kept n e h = value_kept e.guard (all_at (λ (z : StaticEvent). IsOver vars z.guard) x.map.graph.events n e guards_over h)

    pub threads_same : threads_of x (s ++ more) ≡ threads_of x s
    threads_same = threads_from_kept (s ++ more) s vars value_kept 0 x.map.graph.events x.map.graph.bits x.map.parts guards_over bits_over parts_over

    pub event_kept : (n : ℕ) (e : StaticEvent) → event_by x (s ++ more) n e ≡ event_by x s n e
    event_kept n e =
        ap (λ (l : List ℕ). cond (links.is_initial e.kind) Initial (At (first_or_none l) (earlier (s ++ more) e.instance n x.map.graph.events)))
        (handles_kept (s ++ more) s vars value_kept e.instance x.map.graph.events x.map.graph.bits guards_over bits_over)
        ∙ ap (λ (k : ℕ). cond (links.is_initial e.kind) Initial (At (first_or_none (handles_in s e.instance x.map.graph.events x.map.graph.bits)) k))
        (earlier_kept (s ++ more) s vars value_kept e.instance n x.map.graph.events guards_over)

    -- the nodes' events are the same
    pub event_up : (n : ℕ) (ev : Event) → IsEvent x s n ev → IsEvent x (s ++ more) n ev
    event_up n ev h = record { static = h.static; there = h.there; happens = guard_kept n h.static h.there ∙ h.happens; same = event_kept n h.static ∙ h.same }

    pub event_down : (n : ℕ) (ev : Event) → IsEvent x (s ++ more) n ev → IsEvent x s n ev
    event_down n ev h = record { static = h.static; there = h.there; happens = sym (guard_kept n h.static h.there) ∙ h.happens; same = sym (event_kept n h.static) ∙ h.same }
