-- Roles against the kinds that a model keeps.
use Rattle.std.proofs.Common.{◌≡◌, ◌≢◌, ℕ, ◌+◌, ◌<◌, inl, inr, Bool, true, false, cond, List, refl, ap, sym, ◌∙◌, arith, nat_eq}
use Rattle.std.proofs.lemmas.Bool.{cases_lt, cases_eq, eqb-true, eq-eqb, ne_eqb}
use Rattle.axiom_model.specs.declared.MemoryModel.{MemoryModel}
use Rattle.axiom_model.specs.declared.MemoryModel.TheVariants.{Sc, Tso, Pso}
use Rattle.memory_models.specs.declared.StaticEvent.{StaticEvent}
use Rattle.memory_models.specs.declared.StaticKind.{StaticKind}
use Rattle.memory_models.specs.declared.StaticKind.TheVariants.{Read, Write, Full}
use Rattle.memory_models.specs.declared.role.Role.{Role}
use Rattle.memory_models.specs.declared.role.Role.TheVariants.{Reader, Writer, Fence}
use Rattle.memory_models.specs.Events.{IsAt, OneBlock, AreStatic}
use Rattle.memory_models.specs.Keeping.{keeps_kinds}
use Rattle.memory_models.specs.Roles.{role_of, role_of_kind, is_strong}
use Rattle.memory_models.specs.Ahead.{IsFull}
use Rattle.memory_models.proofs.Blocks.{begins_new, head_is_full, end_is_full}

pub strong_kept : (m : MemoryModel) (k l : StaticKind) → is_strong m (role_of_kind m l) ≡ true → keeps_kinds m k l ≡ true
strong_kept Sc k l h = refl
strong_kept Tso Write Read h = absurd (cc)
strong_kept Tso k l h = refl
strong_kept Pso Write Read h = absurd (cc)
strong_kept Pso Write Write h = absurd (cc)
strong_kept Pso k l h = refl

pub weak_waits : (m : MemoryModel) (l : StaticKind) → is_strong m (role_of_kind m l) ≡ false → keeps_kinds m Write l ≡ false
weak_waits Sc l h = absurd (cc)
weak_waits Tso Read h = refl
weak_waits Tso l h = absurd (cc)
weak_waits Pso Read h = refl
weak_waits Pso Write h = refl
weak_waits Pso l h = absurd (cc)

pub writer_writes : (m : MemoryModel) (k : StaticKind) → role_of_kind m k ≡ Writer → k ≡ Write
writer_writes Sc k h = absurd (cc)
writer_writes Tso Write h = refl
writer_writes Tso k h = absurd (cc)
writer_writes Pso Write h = refl
writer_writes Pso k h = absurd (cc)

pub reader_kept : (m : MemoryModel) (k l : StaticKind) → role_of_kind m k ≡ Reader → keeps_kinds m k l ≡ true
reader_kept Sc k l h = refl
reader_kept Tso Write l h = absurd (cc)
reader_kept Tso k l h = refl
reader_kept Pso Write l h = absurd (cc)
reader_kept Pso k l h = refl

pub fence_kept : (m : MemoryModel) (k l : StaticKind) → role_of_kind m k ≡ Fence → keeps_kinds m k l ≡ true
fence_kept Sc k l h = refl
fence_kept Tso Write l h = absurd (cc)
fence_kept Tso k l h = refl
fence_kept Pso Write l h = absurd (cc)
fence_kept Pso k l h = refl

pub full_fences : (m : MemoryModel) → role_of_kind m Full ≡ Fence
full_fences Sc = refl
full_fences Tso = refl
full_fences Pso = refl

pub fence_is_strong : (m : MemoryModel) → is_strong m Fence ≡ true
fence_is_strong Sc = refl
fence_is_strong Tso = refl
fence_is_strong Pso = refl

pub reader_is_weak : (m : MemoryModel) → is_strong m Reader ≡ false
reader_is_weak Sc = refl
reader_is_weak Tso = refl
reader_is_weak Pso = refl

pub full_kept_before : (m : MemoryModel) (k : StaticKind) → keeps_kinds m k Full ≡ true
full_kept_before m k = strong_kept m k Full (ap (λ (r : Role). is_strong m r) (full_fences m) ∙ fence_is_strong m)

-- ---- roles of events

cond_other : (b : Bool) (k r : Role) → cond b k Fence ≡ r → r ≢ Fence → (b ≡ true) × (k ≡ r)
cond_other true k r h n = (refl, h)
cond_other false k r h n = absurd (n (sym h))

cond_weak : (m : MemoryModel) (b : Bool) (k : Role) → is_strong m (cond b k Fence) ≡ false → (b ≡ true) × (is_strong m k ≡ false)
cond_weak m true k h = (refl, h)
cond_weak m false k h = let s = fence_is_strong m in absurd (cc)

-- a read or write that stands alone is a block of its own
pub own_role : (m : MemoryModel) (n : ℕ) (e : StaticEvent) (r : Role) → role_of m n e ≡ r → r ≢ Fence → (e.block ≡ n) × (role_of_kind m e.kind ≡ r)
own_role m n e r h other = let c = cond_other (nat_eq e.block n) (role_of_kind m e.kind) r h other in (eqb-true e.block n c.0, c.1)

pub own_weak : (m : MemoryModel) (n : ℕ) (e : StaticEvent) → is_strong m (role_of m n e) ≡ false → (e.block ≡ n) × (is_strong m (role_of_kind m e.kind) ≡ false)
own_weak m n e h = let c = cond_weak m (nat_eq e.block n) (role_of_kind m e.kind) h in (eqb-true e.block n c.0, c.1)

pub role_at_own : (m : MemoryModel) (n : ℕ) (e : StaticEvent) → e.block ≡ n → role_of m n e ≡ role_of_kind m e.kind
role_at_own m n e own = ap (λ (b : Bool). cond b (role_of_kind m e.kind) Fence) (eq-eqb e.block n own)

pub role_in_block : (m : MemoryModel) (n : ℕ) (e : StaticEvent) → (e.block ≡ n → ⊥) → role_of m n e ≡ Fence
role_in_block m n e other = ap (λ (b : Bool). cond b (role_of_kind m e.kind) Fence) (ne_eqb e.block n other)

pub fence_at : (m : MemoryModel) (n : ℕ) (e : StaticEvent) → role_of m n e ≡ Fence → is_strong m (role_of m n e) ≡ true
fence_at m n e h = ap (λ (r : Role). is_strong m r) h ∙ fence_is_strong m

-- an event in a block that goes on is no read or write that stands alone
pub inside_is_fence : (m : MemoryModel) (es : List StaticEvent) (n b : ℕ) (e : StaticEvent) → AreStatic es → IsAt es n e → n < b → OneBlock es n b → role_of m n e ≡ Fence
inside_is_fence m es n b e are there h o =
    elim (cases_eq e.block n) [
      | inl own ↦ role_at_own m n e own ∙ (ap (λ (k : StaticKind). role_of_kind m k) (head_is_full es n b e are there own h o) ∙ full_fences m)
      | inr other ↦ role_in_block m n e other
    ]

-- a later event of a block is part of a fence
pub behind_is_fence : (m : MemoryModel) (es : List StaticEvent) (n b : ℕ) (f : StaticEvent) → AreStatic es → IsAt es b f → n < b → OneBlock es n b → role_of m b f ≡ Fence
behind_is_fence m es n b f are there h o = role_in_block m b f (λ own. begins_new es n b f are h o there own)

-- where a block ends with a fence, every event of the thread before it and behind it is kept with it
pub record IsBarrier (m : MemoryModel) (es : List StaticEvent) (n : ℕ) : Type 0 where
  pub event : StaticEvent
  pub there : IsAt es n event
  pub before : (k : StaticKind) → keeps_kinds m k event.kind ≡ true
  pub behind : (l : StaticKind) → keeps_kinds m event.kind l ≡ true

pub barrier_at : (m : MemoryModel) (es : List StaticEvent) (n : ℕ) → AreStatic es → IsFull m es n → (¬ OneBlock es n (n + 1)) → IsBarrier m es n
barrier_at m es n are full ends =
    let e = full.event in
    let by_role : role_of_kind m e.kind ≡ Fence → IsBarrier m es n = λ r. record {
      event = e;
      there = full.there;
      before = λ k. strong_kept m k e.kind (ap (λ (x : Role). is_strong m x) r ∙ fence_is_strong m);
      behind = λ l. fence_kept m e.kind l r;
    } in
    elim (cases_eq e.block n) [
      | inl own ↦ by_role (sym (role_at_own m n e own) ∙ full.fences)
      | inr other ↦
          let low = are.own_or_before n e full.there in
          let lt : e.block < n = elim (cases_lt e.block n) [ inl l ↦ l | inr ge ↦ let q : e.block ≡ n = omega arith in absurd (other q) ] in
          by_role (ap (λ (k : StaticKind). role_of_kind m k) (end_is_full es n e are full.there lt ends) ∙ full_fences m)
    ]
