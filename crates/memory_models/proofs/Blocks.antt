-- Threads and blocks of static events.
use Rattle.std.proofs.Common.{◌≡◌, ℕ, zero, suc, ◌+◌, ◌<◌, ◌≤◌, ◌⊎◌, inl, inr, List, length, refl, ap, sym, ◌∙◌, subst, arith}
use Rattle.std.specs.Prelude.{slice_get}
use Rattle.std.proofs.lemmas.Bool.{cases_lt, cases_eq}
use Rattle.std.proofs.lemmas.Option.{slice_get_within}
use Rattle.dg_base.proofs.Lists.{get_there, one_answer}
use Rattle.memory_models.specs.declared.StaticEvent.{StaticEvent}
use Rattle.memory_models.specs.declared.StaticKind.TheVariants.{Full}
use Rattle.memory_models.specs.Events.{IsAt, OneThread, OneBlock, IsSection, AreStatic}
use Rattle.memory_models.specs.Ahead.{Later}

pub one_event : (es : List StaticEvent) (n : ℕ) (e f : StaticEvent) → IsAt es n e → IsAt es n f → e ≡ f
one_event es n e f p q = one_answer (slice_get es n) e f p q

pub event_before : (es : List StaticEvent) (n b : ℕ) (f : StaticEvent) → IsAt es b f → n ≤ b → (e : StaticEvent) × IsAt es n e
event_before es n b f there h = let w = slice_get_within es b f there in get_there es n (omega arith)

-- ---- threads

pub thread_turned : (es : List StaticEvent) (a b : ℕ) → OneThread es a b → OneThread es b a
thread_turned es a b p = record { first = p.second; second = p.first; is_first = p.is_second; is_second = p.is_first; same = sym p.same }

pub thread_joined : (es : List StaticEvent) (a b c : ℕ) → OneThread es a b → OneThread es b c → OneThread es a c
thread_joined es a b c p q =
    let one = one_event es b p.second q.first p.is_second.there q.is_first.there in
    record { first = p.first; second = q.second; is_first = p.is_first; is_second = q.is_second; same = p.same ∙ (ap (λ (e : StaticEvent). e.instance) one ∙ q.same) }

pub thread_self : (es : List StaticEvent) (a b : ℕ) → OneThread es a b → OneThread es a a
thread_self es a b p = thread_joined es a b a p (thread_turned es a b p)

pub later_joined : (es : List StaticEvent) (a b c : ℕ) → Later es a b → Later es b c → Later es a c
later_joined es a b c p q = (omega (arith, p.0, q.0), thread_joined es a b c p.1 q.1)

-- what stands behind the next place is of the thread of the next place
pub later_from_next : (es : List StaticEvent) (a b : ℕ) → AreStatic es → Later es a b → OneThread es a (a + 1)
later_from_next es a b are l =
    elim (cases_lt (a + 1) b) [
      | inl lt ↦
          let f = event_before es (a + 1) b l.1.second l.1.is_second.there (omega arith) in
          are.threads_apart a (a + 1) b f.0 (omega arith) lt l.1 f.1
      | inr ge ↦ let e : b ≡ a + 1 = omega (arith, l.0) in subst (λ (n : ℕ). OneThread es a n) e l.1
    ]

-- ---- blocks

pub block_turned : (es : List StaticEvent) (a b : ℕ) → OneBlock es a b → OneBlock es b a
block_turned es a b p = record { first = p.second; second = p.first; is_first = p.is_second; is_second = p.is_first; same = sym p.same }

pub block_joined : (es : List StaticEvent) (a b c : ℕ) → OneBlock es a b → OneBlock es b c → OneBlock es a c
block_joined es a b c p q =
    let one = one_event es b p.second q.first p.is_second q.is_first in
    record { first = p.first; second = q.second; is_first = p.is_first; is_second = q.is_second; same = p.same ∙ (ap (λ (e : StaticEvent). e.block) one ∙ q.same) }

pub block_self : (es : List StaticEvent) (a : ℕ) (e : StaticEvent) → IsAt es a e → OneBlock es a a
block_self es a e there = record { first = e; second = e; is_first = there; is_second = there; same = refl }

pub block_or_not : (es : List StaticEvent) (a b : ℕ) (e : StaticEvent) → IsAt es a e → OneBlock es a b ⊎ (¬ OneBlock es a b)
block_or_not es a b e there =
    elim (cases_lt b (length es)) [
      | inl lt ↦
          let f = get_there es b lt in
          elim (cases_eq e.block f.0.block) [
            | inl q ↦ inl (record { first = e; second = f.0; is_first = there; is_second = f.1; same = q })
            | inr ne ↦ inr (λ o. ne (ap (λ (x : StaticEvent). x.block) (one_event es a e o.first there o.is_first) ∙ (o.same ∙ ap (λ (x : StaticEvent). x.block) (one_event es b o.second f.0 o.is_second f.1))))
          ]
      | inr ge ↦ inr (λ o. let w = slice_get_within es b o.second o.is_second in absurd (omega arith))
    ]

-- the block's number is at most the first of two places
pub block_below : (es : List StaticEvent) (a b : ℕ) (f : StaticEvent) → AreStatic es → OneBlock es a b → IsAt es b f → f.block ≤ a
block_below es a b f are o there =
    let one = ap (λ (x : StaticEvent). x.block) (one_event es b o.second f o.is_second there) in
    let below = are.own_or_before a o.first o.is_first in
    omega (arith, one, below, o.same)

-- a block does not reach into the one that begins here
pub begins_new : (es : List StaticEvent) (a b : ℕ) (f : StaticEvent) → AreStatic es → a < b → OneBlock es a b → IsAt es b f → f.block ≡ b → ⊥
begins_new es a b f are h o there q = let below = block_below es a b f are o there in omega (arith, below, q, h)

pub block_within : (es : List StaticEvent) (a n b : ℕ) → AreStatic es → OneBlock es a b → a ≤ n → n ≤ b → OneBlock es n b
block_within es a n b are o low high =
    elim (cases_lt n b) [
      | inl lt ↦
          let e = event_before es n b o.second o.is_second high in
          let below = block_below es a b o.second are o o.is_second in
          let same = are.unbroken n b o.second e.0 o.is_second (omega (arith, below)) lt e.1 in
          record { first = e.0; second = o.second; is_first = e.1; is_second = o.is_second; same = same }
      | inr ge ↦ let e : b ≡ n = omega arith in subst (λ (x : ℕ). OneBlock es x b) e (block_self es b o.second o.is_second)
    ]

pub block_front : (es : List StaticEvent) (a n b : ℕ) → AreStatic es → OneBlock es a b → a ≤ n → n ≤ b → OneBlock es a n
block_front es a n b are o low high = block_joined es a b n o (block_turned es n b (block_within es a n b are o low high))

-- a block of two events is of one thread
pub block_thread : (es : List StaticEvent) (a b : ℕ) → AreStatic es → a < b → OneBlock es a b → OneThread es a b
block_thread es a b are h o =
    let low = are.own_or_before a o.first o.is_first in
    let k = o.first.block in
    let to_b : OneThread es k b = subst (λ (n : ℕ). OneThread es n b) (sym o.same) (are.of_thread b o.second o.is_second (omega (arith, low, o.same))) in
    elim (cases_lt k a) [
      | inl lt ↦ thread_joined es a k b (thread_turned es k a (are.of_thread a o.first o.is_first lt)) to_b
      | inr ge ↦ let e : k ≡ a = omega (arith, low) in subst (λ (n : ℕ). OneThread es n b) e to_b
    ]

-- the event with which a block begins
pub head_of : (es : List StaticEvent) (n : ℕ) (e : StaticEvent) → AreStatic es → IsAt es n e → (g : StaticEvent) × IsAt es e.block g × (g.block ≡ e.block)
head_of es n e are there =
    let g = event_before es e.block n e there (are.own_or_before n e there) in
    (g.0, g.1, are.heads n e g.0 there g.1)

pub to_head : (es : List StaticEvent) (n : ℕ) (e : StaticEvent) → AreStatic es → IsAt es n e → OneBlock es e.block n
to_head es n e are there = let g = head_of es n e are there in record { first = g.0; second = e; is_first = g.1; is_second = there; same = g.2 }

-- the last event of a block
pub record BlockEnd (es : List StaticEvent) (n m : ℕ) : Type 0 where
  pub place : ℕ
  pub later : m ≤ place
  pub one : OneBlock es n place
  pub ends : ¬ OneBlock es n (place + 1)

end_within : (es : List StaticEvent) (k n m : ℕ) → OneBlock es n m → length es ≤ m + k → BlockEnd es n m
end_within es zero n m o h = let w = slice_get_within es m o.second o.is_second in absurd (omega arith)
end_within es (suc k) n m o h =
    elim (block_or_not es n (m + 1) o.first o.is_first) [
      | inl more ↦ let r = end_within es k n (m + 1) more (omega arith) in record { place = r.place; later = omega (arith, r.later); one = r.one; ends = r.ends }
      | inr apart ↦ record { place = m; later = omega arith; one = o; ends = apart }
    ]

pub end_of : (es : List StaticEvent) (n : ℕ) (e : StaticEvent) → IsAt es n e → BlockEnd es n n
end_of es n e there = end_within es (length es) n n (block_self es n e there) (omega arith)

-- a block of two events or more is a section
pub section_to : (es : List StaticEvent) (n c : ℕ) (e : StaticEvent) → AreStatic es → IsAt es n e → OneBlock es n c → e.block < c → (¬ OneBlock es n (c + 1)) → IsSection es e.block c
section_to es n c e are there o h apart =
    let g = head_of es n e are there in
    let head = to_head es n e are there in
    record {
      later = h;
      one = block_joined es e.block n c head o;
      opens = λ x at. ap (λ (y : StaticEvent). y.block) (one_event es e.block x g.0 at g.1) ∙ g.2;
      closes = λ bad. apart (block_joined es n e.block (c + 1) (block_turned es e.block n head) bad);
    }

-- an event with which a section begins is a full fence
pub head_is_full : (es : List StaticEvent) (n b : ℕ) (e : StaticEvent) → AreStatic es → IsAt es n e → e.block ≡ n → n < b → OneBlock es n b → e.kind ≡ Full
head_is_full es n b e are there own h o =
    let z = end_within es (length es) n b o (omega arith) in
    let s = section_to es n z.place e are there z.one (omega (arith, own, z.later, h)) z.ends in
    are.begins n z.place e (subst (λ (k : ℕ). IsSection es k z.place) own s) there

-- and so is the one with which it ends
pub end_is_full : (es : List StaticEvent) (n : ℕ) (e : StaticEvent) → AreStatic es → IsAt es n e → e.block < n → (¬ OneBlock es n (n + 1)) → e.kind ≡ Full
end_is_full es n e are there h apart = are.ends e.block n e (section_to es n n e are there (block_self es n e there) h apart) there
