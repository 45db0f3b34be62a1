-- Joins and ends of a spelled candidate.
use Rattle.std.proofs.Common.{◌≡◌, ◌≢◌, ℕ, zero, suc, ◌+◌, nat_eq, ◌<◌, ⊎_elim, Bool, true, false, List, [], ◌∷◌, ◌++◌, length, refl, ap, sym, ◌∙◌, subst, arith}
use Rattle.std.specs.Prelude.{Some, slice_get, Contains}
use Rattle.std.specs.List.{AllZip, AllByRecursion}
use Rattle.std.proofs.lemmas.Bool.{cases_eq, cond-true, cond-false, eq-eqb, ne_eqb}
use Rattle.std.proofs.lemmas.Option.{same_Some, none-some}
use Rattle.dg_base.specs.declared.Lit.{Lit}
use Rattle.dg_base.proofs.Lists.{get_nothing}
use Rattle.axiom_model.specs.declared.Action.{Action}
use Rattle.axiom_model.specs.declared.Action.TheVariants as action
use Rattle.axiom_model.specs.declared.Event.{Event}
use Rattle.axiom_model.specs.declared.Event.TheVariants.{Initial, At}
use Rattle.axiom_model.specs.declared.ThreadPart.{ThreadPart}
use Rattle.axiom_model.specs.declared.Candidate.{Candidate}
use Rattle.axiom_model.specs.Execution.{Execution, actions_of, action_at, IsOf}
use Rattle.axiom_model.specs.Failing.{Run, RunsTo, thread_of, threads_of, execution_of}
use Rattle.axiom_model.specs.WellMade.{SomeThread}
use Rattle.c_check.specs.declared.checked.Checked.{Checked}
use Rattle.run_model.specs.Threads.{thread_run}
use Rattle.run_laws.specs.Frames.{IsInner, last_of, IsFramed, RunsAreFramed}
use Rattle.bit_gates.specs.Words.{number}
use Rattle.memory_models.specs.declared.StaticEvent.{StaticEvent}
use Rattle.memory_models.specs.declared.StaticKind.TheVariants as kind
use Rattle.memory_models.proofs.Blocks.{one_event}
use Rattle.order_vars.specs.Links.{Link, joining, IsLink}
use Rattle.order_vars.specs.Holding.{word_at, OrderHolds}
use Rattle.encode_match.specs.declared.Encoded.{Encoded}
use Rattle.encode_match.specs.Spelling.{IsEvent, event_by}
use Rattle.encode_match.specs.Parts.{words_of}
use Rattle.encode_match.specs.Matching.{MatchesThreads, MakesAt, Joins, WaitsFor, AtNodes, AtEvents}
use Rattle.encode_match.proofs.Moves.{same_event, event_in_thread, does}
use Rattle.encode_match.proofs.SpelledMatch.{EndsAreOwn}
use Rattle.encode_match.proofs.FirstInitials.{same_number, number_some, word_is}
use Rattle.encode_match.proofs.FirstActs.{join_made}

abbrev join_handle : Action → ℕ
join_handle (action.Join h) = h
join_handle _ = 0

-- ---- the end of a run

abbrev end_number : Action → ℕ
end_number action.End = 1
end_number _ = 0

not_inner : (inner rest : List Action) (i : ℕ) → AllByRecursion IsInner inner → slice_get (inner ++ rest) i ≡ Some action.End → (j : ℕ) × (i ≡ length inner + j) × (slice_get rest j ≡ Some action.End)
not_inner [] rest i h e = (i, omega arith, e)
not_inner (a ∷ inner) rest zero h e = absurd (subst IsInner (same_Some a action.End e) h.0)
not_inner (a ∷ inner) rest (suc i) h e = let r = not_inner inner rest i h.1 e in let at = r.1 in (r.0, omega (arith, at), r.2)

-- the place of an end, where there is one
record EndsThere (ended : Bool) (j : ℕ) : Type 0 where
  pub ended_is : ended ≡ true
  pub place : j ≡ 0

last_place : (ended : Bool) (j : ℕ) → slice_get (last_of ended) j ≡ Some action.End → EndsThere ended j
last_place true zero e = record { ended_is = refl; place = refl }
last_place true (suc j) e = absurd (get_nothing j action.End e)
last_place false j e = absurd (get_nothing j action.End e)

record IsLast (acts : List Action) (ended : Bool) (fr : IsFramed acts ended) (i : ℕ) : Type 0 where
  pub ended_is : ended ≡ true
  pub place : i ≡ suc (length fr.inner)

end_last : (acts : List Action) (ended : Bool) (fr : IsFramed acts ended) (i : ℕ) → slice_get acts i ≡ Some action.End → IsLast acts ended fr i
end_last acts ended fr i e = behind i (ap (λ (l : List Action). slice_get l i) (sym fr.whole) ∙ e)
  where
    behind : (n : ℕ) → slice_get (action.Start ∷ (fr.inner ++ last_of ended)) n ≡ Some action.End → IsLast acts ended fr n
    behind zero h = let no : 0 ≡ 1 = ap end_number (same_Some action.Start action.End h) in absurd (omega (arith, no))
    behind (suc n) h =
        let r = not_inner fr.inner (last_of ended) n fr.others h in
        let l = last_place ended r.0 r.2 in
        let at = r.1 in
        let first = l.place in
        record { ended_is = l.ended_is; place = omega (arith, at, first) }

-- ---- the thread of an action

record ThreadAt (p : Checked) (ts : List ThreadPart) (rs : List Run) (h : ℕ) : Type 0 where
  pub place : ℕ
  pub part : ThreadPart
  pub run : Run
  pub is_thread : slice_get (threads_of ts rs) place ≡ Some (thread_of part run)
  pub same_handle : part.handle ≡ h
  pub runs : RunsTo (thread_run p) part run
  pub acts : actions_of (threads_of ts rs) h ≡ run.actions

thread_at : (p : Checked) (ts : List ThreadPart) (rs : List Run) (h i : ℕ) (a : Action) → AllZip (RunsTo (thread_run p)) ts rs → slice_get (actions_of (threads_of ts rs) h) i ≡ Some a → ThreadAt p ts rs h
thread_at p [] [] h i a w e = absurd (get_nothing i a e)
thread_at p [] (r ∷ rs) h i a w e = absurd w
thread_at p (t ∷ ts) [] h i a w e = absurd w
thread_at p (t ∷ ts) (r ∷ rs) h i a w e =
    let rest = actions_of (threads_of ts rs) h in
    ⊎_elim
    (λ same. record { place = 0; part = t; run = r; is_thread = refl; same_handle = same; runs = w.0; acts = cond-true (nat_eq t.handle h) r.actions rest (eq-eqb t.handle h same) })
    (λ other.
    let skip = cond-false (nat_eq t.handle h) r.actions rest (ne_eqb t.handle h other) in
    let o = thread_at p ts rs h i a w.1 (ap (λ (l : List Action). slice_get l i) (sym skip) ∙ e) in
    record { place = suc o.place; part = o.part; run = o.run; is_thread = o.is_thread; same_handle = o.same_handle; runs = o.runs; acts = skip ∙ o.acts })
    (cases_eq t.handle h)

-- a thread that makes an end has come to it, and makes no other
record Ended (p : Checked) (ts : List ThreadPart) (rs : List Run) (h : ℕ) : Type 0 where
  pub thread : ThreadAt p ts rs h
  pub ended_is : thread.run.ended ≡ true
  pub place : ℕ
  pub only : (i : ℕ) → slice_get (actions_of (threads_of ts rs) h) i ≡ Some action.End → i ≡ place

has_end : (p : Checked) (framed : RunsAreFramed) (ts : List ThreadPart) (rs : List Run) (h i : ℕ) → AllZip (RunsTo (thread_run p)) ts rs → slice_get (actions_of (threads_of ts rs) h) i ≡ Some action.End → Ended p ts rs h
has_end p framed ts rs h i w e =
    let t = thread_at p ts rs h i action.End w e in
    let fr = framed p t.part.function t.part.handle t.part.arg t.part.script t.run t.runs.0 in
    let of = λ (j : ℕ) (d : slice_get (actions_of (threads_of ts rs) h) j ≡ Some action.End). end_last t.run.actions t.run.ended fr j (ap (λ (l : List Action). slice_get l j) (sym t.acts) ∙ d) in
    record { thread = t; ended_is = (of i e).ended_is; place = suc (length fr.inner); only = λ j d. (of j d).place }

-- ---- the fields

module _ (p : Checked) (framed : RunsAreFramed) (x : Encoded) (s : List Bool) (links : List Link) (sound : (l : Link) → Contains links l → IsLink x.map.graph.events l) (holds : OrderHolds x.map.graph.events (words_of x.map.graph.bits) links s)
    (c : Candidate) (rs : List Run) (whole : AllZip (RunsTo (thread_run p)) c.threads rs) (t : MatchesThreads x s (execution_of c rs))
    (own : EndsAreOwn x s) where
  abbrev es : List StaticEvent
  es = x.map.graph.events

  abbrev words : List (List Lit)
  words = words_of x.map.graph.bits

  abbrev e : Execution
  e = execution_of c rs

  -- an end that a join waits for, with the events of both
  record Waited (n j : ℕ) : Type 0 where
    pub handle : ℕ
    pub index : ℕ
    pub join : Event
    pub is_end_event : IsEvent x s n (At handle index)
    pub is_join_event : IsEvent x s j join
    pub is_end : action_at e (At handle index) ≡ Some action.End
    pub is_join : action_at e join ≡ Some (action.Join handle)
    pub not_zero : handle ≢ 0

  waited : (n j : ℕ) → WaitsFor links s n j → Waited n j
  waited n j w =
      let l = joining n j w.0 in
      let r = holds.each l w.1 w.2 in
      let may = sound l w.1 in
      let a = r.0.0 in
      let b = r.0.1 in
      let pa : IsEvent x s n (event_by x s n a.0) = record { static = a.0; there = a.1; happens = a.2; same = refl } in
      let pb : IsEvent x s j (event_by x s j b.0) = record { static = b.0; there = b.1; happens = b.2; same = refl } in
      let ka : a.0.kind ≡ kind.End = ap (λ (z : StaticEvent). z.kind) (one_event es n a.0 may.0.event a.1 may.0.there) ∙ may.0.same_kind in
      let kb : b.0.kind ≡ kind.Join = ap (λ (z : StaticEvent). z.kind) (one_event es j b.0 may.1.event b.1 may.1.there) ∙ may.1.same_kind in
      let da = does x s e t n (event_by x s n a.0) kind.End pa ka (λ z. cc) in
      let db = does x s e t j (event_by x s j b.0) kind.Join pb kb (λ z. cc) in
      let o = event_in_thread x s n (event_by x s n a.0) pa (λ z. let no : kind.End ≡ kind.Initial = sym ka ∙ z in cc) in
      let handle_is : o.handle ≡ number s da.bits.bits = subst (IsOf (number s da.bits.bits)) o.is (own n a.0 (event_by x s n a.0) da.bits a.1 a.2 ka pa da.has_bits) in
      let same : number s da.bits.bits ≡ number s db.bits.bits =
      ap (number s) (sym (word_is x.map.graph.bits n da.bits da.has_bits)) ∙ (same_number s (word_at words n) (word_at words j) r.1 ∙ ap (number s) (word_is x.map.graph.bits j db.bits db.has_bits)) in
      let some : 0 < number s (word_at words j) = number_some s (word_at words j) r.2.0 r.2.1 r.2.2 in
      let join_bits : number s (word_at words j) ≡ number s db.bits.bits = ap (number s) (word_is x.map.graph.bits j db.bits db.has_bits) in
      record {
        handle = o.handle;
        index = o.index;
        join = event_by x s j b.0;
        is_end_event = subst (IsEvent x s n) o.is pa;
        is_join_event = pb;
        is_end = subst (λ (z : Event). action_at e z ≡ Some action.End) o.is (da.there ∙ ap Some da.acts);
        is_join = db.there ∙ ap Some (db.acts ∙ ap action.Join (sym same ∙ sym handle_is));
        not_zero = λ z. omega (arith, z, some, join_bits, same, handle_is);
      }

  -- the end that a join waits for
  record WaitsAt (j : ℕ) (h : ℕ) : Type 0 where
    pub end : ℕ
    pub waits : WaitsFor links s end j
    pub waited : Waited end j
    pub same : waited.handle ≡ h

  waits_at : (j h : ℕ) (b : Event) → MakesAt x s j b (action.Join h) → action_at e b ≡ Some (action.Join h) → WaitsAt j h
  waits_at j h b mk at =
      let k = join_made s mk.is_event.static mk.bits h mk.acts in
      let r = holds.some_end j mk.is_event.static mk.is_event.there k.0 mk.is_event.happens in
      let w : WaitsFor links s r.0 j = (r.1, r.2, r.3) in
      let d = waited r.0 j w in
      let event : d.join ≡ b = same_event x s j d.join b d.is_join_event mk.is_event in
      let acts : action.Join d.handle ≡ action.Join h = same_Some (action.Join d.handle) (action.Join h) (sym d.is_join ∙ (ap (action_at e) event ∙ at)) in
      record { end = r.0; waits = w; waited = d; same = ap join_handle acts }

  joins_at : (a b : Event) (h i : ℕ) → a ≡ At h i → action_at e (At h i) ≡ Some action.End → action_at e b ≡ Some (action.Join h) → AtNodes x s (WaitsFor links s) a b
  joins_at a b h i is end join =
      let ma = t.nodes (At h i) action.End end in
      let mb = t.nodes b (action.Join h) join in
      let w = waits_at mb.0 h b mb.1 join in
      let d = w.waited in
      let there : action_at e (At h d.index) ≡ Some action.End = subst (λ (z : ℕ). action_at e (At z d.index) ≡ Some action.End) w.same d.is_end in
      let o = has_end p framed c.threads rs h i whole end in
      let index : d.index ≡ i = o.only d.index there ∙ sym (o.only i end) in
      let pe : IsEvent x s w.end (At h i) = subst (λ (z : ℕ). IsEvent x s w.end (At h z)) index (subst (λ (z : ℕ). IsEvent x s w.end (At z d.index)) w.same d.is_end_event) in
      (w.end, mb.0, subst (IsEvent x s w.end) (sym is) pe, mb.1.is_event, w.waits)

  pub joins_field : (a b : Event) → Joins e a b → AtNodes x s (WaitsFor links s) a b
  joins_field Initial b j = absurd (none-some action.End j.is_end)
  joins_field (At h i) b j = joins_at (At h i) b h i refl j.is_end (j.is_join ∙ ap (λ (z : ℕ). Some (action.Join z)) (sym j.of_handle))

  pub joins_back_field : (n j : ℕ) → WaitsFor links s n j → AtEvents x s (Joins e) n j
  joins_back_field n j w =
      let d = waited n j w in
      (At d.handle d.index, d.join, d.is_end_event, d.is_join_event, record { handle = d.handle; is_end = d.is_end; of_handle = refl; is_join = d.is_join })

  pub joined_field : (b : Event) (h : ℕ) → action_at e b ≡ Some (action.Join h) → (h ≢ 0) × SomeThread e h (λ t. t.ended ≡ true)
  joined_field b h at =
      let mb = t.nodes b (action.Join h) at in
      let w = waits_at mb.0 h b mb.1 at in
      let d = w.waited in
      let o = has_end p framed c.threads rs h d.index whole (subst (λ (z : ℕ). action_at e (At z d.index) ≡ Some action.End) w.same d.is_end) in
      ((λ z. d.not_zero (w.same ∙ z)), (o.thread.place, thread_of o.thread.part o.thread.run, o.thread.is_thread, o.thread.same_handle, o.ended_is))
