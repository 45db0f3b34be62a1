-- Events that follow one another rightly are a list of static events.
use Rattle.std.proofs.Common.{◌≡◌, ℕ, zero, suc, ◌+◌, ◌<◌, ◌≤◌, inl, inr, List, length, refl, ap, sym, ◌∙◌, subst, arith}
use Rattle.std.proofs.lemmas.Bool.{cases_lt}
use Rattle.std.proofs.lemmas.Option.{slice_get_within}
use Rattle.dg_base.proofs.Lists.{get_there}
use Rattle.memory_models.specs.declared.StaticEvent.{StaticEvent}
use Rattle.memory_models.specs.declared.StaticKind.TheVariants.{Initial}
use Rattle.memory_models.specs.Events.{IsAt, OneThread, AreStatic}
use Rattle.models_tests.specs.Listed.{IsAction, Follows, IsPlaced}
use Rattle.memory_models.proofs.Blocks.{one_event, event_before, thread_joined}

abbrev AreListed : List StaticEvent → Type 0
AreListed es = (n : ℕ) → n < length es → IsPlaced es n

-- the event before
before : (es : List StaticEvent) (n : ℕ) (f : StaticEvent) → IsAt es (suc n) f → (e : StaticEvent) × IsAt es n e
before es n f there = event_before es n (suc n) f there (omega arith)

follow : (es : List StaticEvent) (n : ℕ) (e f : StaticEvent) → AreListed es → IsAt es n e → IsAt es (suc n) f → Follows n e f
follow es n e f are at_n at_f = let one : suc n ≡ n + 1 = omega arith in (are n (slice_get_within es n e at_n)).follow e f at_n (subst (λ (k : ℕ). IsAt es k f) one at_f)

block_low : (es : List StaticEvent) (n : ℕ) (e : StaticEvent) → AreListed es → IsAt es n e → e.block ≤ n
block_low es zero e are there = let b = (are zero (slice_get_within es zero e there)).first e there refl in omega arith
block_low es (suc n) f are there =
    let e = before es n f there in
    let low = block_low es n e.0 are e.1 in
    elim (follow es n e.0 f are e.1 there) [ inl b ↦ let own = b.own in omega arith | inr g ↦ let same = g.same in omega arith ]

-- the events from the block's number on are of the block
unbroken : (es : List StaticEvent) (b a : ℕ) (e f : StaticEvent) → AreListed es → IsAt es b e → e.block ≤ a → a ≤ b → IsAt es a f → f.block ≡ e.block
unbroken es zero a e f are at_b low high at_a =
    let q : a ≡ zero = omega arith in
    ap (λ (x : StaticEvent). x.block) (one_event es zero f e (subst (λ (k : ℕ). IsAt es k f) q at_a) at_b)
unbroken es (suc b) a e f are at_b low high at_a =
    elim (cases_lt a (suc b)) [
      | inl lt ↦
          let d = before es b e at_b in
          elim (follow es b d.0 e are d.1 at_b) [
            | inl new ↦ let own = new.own in absurd (omega arith)
            | inr g ↦ let same = g.same in unbroken es b a d.0 f are d.1 (omega arith) (omega arith) at_a ∙ sym same
          ]
      | inr ge ↦
          let q : a ≡ suc b = omega arith in
          ap (λ (x : StaticEvent). x.block) (one_event es (suc b) f e (subst (λ (k : ℕ). IsAt es k f) q at_a) at_b)
    ]

of_thread : (es : List StaticEvent) (n : ℕ) (e : StaticEvent) → AreListed es → IsAt es n e → e.block < n → OneThread es e.block n
of_thread es zero e are there h = absurd (omega arith)
of_thread es (suc n) f are there h =
    let e = before es n f there in
    elim (follow es n e.0 f are e.1 there) [
      | inl new ↦ let own = new.own in absurd (omega arith)
      | inr g ↦
          let same = g.same in
          let step : OneThread es n (suc n) = record { first = e.0; second = f; is_first = record { there = e.1; acts = g.acts }; is_second = record { there = there; acts = g.next_acts }; same = g.thread } in
          elim (cases_lt f.block n) [
            | inl lt ↦ thread_joined es f.block n (suc n) (subst (λ (k : ℕ). OneThread es k n) (sym same) (of_thread es n e.0 are e.1 (omega arith))) step
            | inr ge ↦ let q : n ≡ f.block = omega arith in subst (λ (k : ℕ). OneThread es k (suc n)) q step
          ]
    ]

initials : (es : List StaticEvent) (b a : ℕ) (e f : StaticEvent) → AreListed es → a < b → IsAt es a e → IsAt es b f → f.kind ≡ Initial → e.kind ≡ Initial
initials es zero a e f are h at_a at_b i = absurd (omega arith)
initials es (suc b) a e f are h at_a at_b i =
    let d = before es b f at_b in
    let di : d.0.kind ≡ Initial = elim (follow es b d.0 f are d.1 at_b) [ inl new ↦ new.initial i | inr g ↦ absurd (g.next_acts i) ] in
    elim (cases_lt a b) [
      | inl lt ↦ initials es b a e d.0 are lt at_a d.1 di
      | inr ge ↦
          let q : a ≡ b = omega arith in
          ap (λ (x : StaticEvent). x.kind) (one_event es b e d.0 (subst (λ (k : ℕ). IsAt es k e) q at_a) d.1) ∙ di
    ]

-- of actions the numbers of the threads rise
rising : (es : List StaticEvent) (b a : ℕ) (e f : StaticEvent) → AreListed es → a < b → IsAt es a e → IsAt es b f → IsAction e.kind → e.instance ≤ f.instance
rising es zero a e f are h at_a at_b act = absurd (omega arith)
rising es (suc b) a e f are h at_a at_b act =
    let d = before es b f at_b in
    let acts : IsAction f.kind = λ i. act (initials es (suc b) a e f are h at_a at_b i) in
    let to_d : IsAction d.0.kind × (e.instance ≤ d.0.instance) = elim (cases_lt a b) [
      | inl lt ↦ (λ i. act (initials es b a e d.0 are lt at_a d.1 i), rising es b a e d.0 are lt at_a d.1 act)
      | inr ge ↦
          let q : a ≡ b = omega arith in
          let one : e ≡ d.0 = one_event es b e d.0 (subst (λ (k : ℕ). IsAt es k e) q at_a) d.1 in
          (subst (λ (x : StaticEvent). IsAction x.kind) one act, let i = ap (λ (x : StaticEvent). x.instance) one in omega arith)
    ] in
    elim (follow es b d.0 f are d.1 at_b) [
      | inl new ↦ let r = new.rising to_d.0 acts in omega (arith, to_d.1, r)
      | inr g ↦ let t = g.thread in omega (arith, to_d.1, t)
    ]

pub listed_static : (es : List StaticEvent) → ((n : ℕ) → n < length es → IsPlaced es n) → AreStatic es
listed_static es are = record {
  initials_first = λ a b e f h at_a at_b i. initials es b a e f are h at_a at_b i;
  threads_apart = λ a b c f h k t at_b.
      let acts : IsAction f.kind = λ i. t.is_first.acts (initials es b a t.first f are h t.is_first.there at_b i) in
      let low = rising es b a t.first f are h t.is_first.there at_b t.is_first.acts in
      let high = rising es c b f t.second are k at_b t.is_second.there acts in
      record { first = t.first; second = f; is_first = t.is_first; is_second = record { there = at_b; acts = acts }; same = omega (arith, low, high, t.same) };
  own_or_before = λ n e there. block_low es n e are there;
  heads = λ n e f there head. unbroken es n e.block e f are there (omega arith) (block_low es n e are there) head;
  unbroken = λ a b e f at_b low h at_a. unbroken es b a e f are at_b low (omega arith) at_a;
  of_thread = λ n e there h. of_thread es n e are there h;
  begins = λ o c e s at_o.
      let own = s.opens e at_o in
      let last = s.one.second in
      let block : last.block ≡ o = sym s.one.same ∙ (ap (λ (x : StaticEvent). x.block) (one_event es o s.one.first e s.one.is_first at_o) ∙ own) in
      let f = event_before es (o + 1) c last s.one.is_second (omega (arith, s.later)) in
      let same = unbroken es c (o + 1) last f.0 are s.one.is_second (omega (arith, block)) (omega (arith, s.later)) f.1 in
      elim ((are o (slice_get_within es o e at_o)).follow e f.0 at_o f.1) [ inl new ↦ let q = new.own in absurd (omega (arith, q, same, block)) | inr g ↦ g.begun own ];
  ends = λ o c e s at_c.
      let one = one_event es c s.one.second e s.one.is_second at_c in
      let block : e.block ≡ o = ap (λ (x : StaticEvent). x.block) (sym one) ∙ (sym s.one.same ∙ s.opens s.one.first s.one.is_first) in
      let within = slice_get_within es c e at_c in
      elim (cases_lt (c + 1) (length es)) [
        | inl lt ↦
            let f = get_there es (c + 1) lt in
            elim ((are c within).follow e f.0 at_c f.1) [
              | inl new ↦ new.ended (omega (arith, block, s.later))
              | inr g ↦ absurd (s.closes (record { first = s.one.first; second = f.0; is_first = s.one.is_first; is_second = f.1; same = s.opens s.one.first s.one.is_first ∙ sym (g.same ∙ block) }))
            ]
        | inr ge ↦ (are c within).last e at_c (omega arith) (omega (arith, block, s.later))
      ];
}
