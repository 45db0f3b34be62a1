-- Ways over the edges lead nowhere but where the model orders.
use Rattle.std.proofs.Common.{◌≡◌, ℕ, ◌<◌, ◌≤◌, inl, inr, Bool, true, List, ap, sym, ◌∙◌, subst, arith}
use Rattle.std.proofs.lemmas.Bool.{cases_lt}
use Rattle.axiom_model.specs.declared.MemoryModel.{MemoryModel}
use Rattle.cnf_problem.specs.declared.problem.Graph.TheVariants.{Local, Global}
use Rattle.cnf_problem.specs.declared.problem.Edge.{Edge}
use Rattle.cnf_problem.specs.Edges.{Path, last, then}
use Rattle.memory_models.specs.declared.StaticEvent.{StaticEvent}
use Rattle.memory_models.specs.declared.FenceEdge.{FenceEdge}
use Rattle.memory_models.specs.declared.StaticKind.{StaticKind}
use Rattle.memory_models.specs.declared.role.Role.{Role}
use Rattle.memory_models.specs.declared.role.Role.TheVariants.{Reader}
use Rattle.memory_models.specs.Events.{IsAt, OneThread, OneBlock, AreStatic, IsPossible}
use Rattle.memory_models.specs.Keeping.{edge, keeps_kinds, KeptPair, OnOneCell, IsThere, always, fenced, Way}
use Rattle.memory_models.specs.Roles.{role_of, is_strong}
use Rattle.memory_models.specs.Ahead.{Later, IsStrong, IsReader, IsGood, IsGoodFence, IsBuilt}
use Rattle.memory_models.proofs.Ways.{along}
use Rattle.memory_models.proofs.Blocks.{one_event, later_joined, thread_joined, thread_turned, block_joined, head_of, to_head, end_of, section_to, block_thread, block_within}
use Rattle.memory_models.proofs.Fencing.{IsBarrier, barrier_at, behind_is_fence, fence_at, own_role, reader_is_weak, reader_kept, strong_kept, full_kept_before, role_at_own}

-- why a way leads from a to b: they are of one block; all behind a waits for it; b waits for all before it; or a fence that happens
-- stands there
pub data Leads (m : MemoryModel) (es : List StaticEvent) (happens : ℕ → Bool) (a b : ℕ) : Type 0 where
  within : OneBlock es a b → Leads m es happens a b
  reads : IsReader m es a → Leads m es happens a b
  strong : IsStrong m es b → Leads m es happens a b
  over : (c : ℕ) → a ≤ c → c < b → OneThread es a c → IsBarrier m es c → happens c ≡ true → Leads m es happens a b

abbrev pub Onward : MemoryModel → List StaticEvent → (ℕ → Bool) → ℕ → ℕ → Type 0
Onward m es happens a b = Later es a b × Leads m es happens a b

no_strong_reader : (m : MemoryModel) (es : List StaticEvent) (n : ℕ) → IsReader m es n → IsStrong m es n → ⊥
no_strong_reader m es n r s =
    let one = one_event es n r.event s.event r.there s.there in
    let weak = reader_is_weak m in
    let role : role_of m n s.event ≡ Reader = subst (λ (e : StaticEvent). role_of m n e ≡ Reader) one r.reads in
    let bad = sym (ap (λ (x : Role). is_strong m x) role) ∙ s.strong in
    absurd (cc)

reader_begins : (m : MemoryModel) (es : List StaticEvent) (a b : ℕ) → AreStatic es → a < b → OneBlock es a b → IsReader m es b → ⊥
reader_begins m es a b are h o r =
    let e = behind_is_fence m es a b r.event are r.there h o in
    let bad = sym e ∙ r.reads in
    absurd (cc)

strong_behind : (m : MemoryModel) (es : List StaticEvent) (a b : ℕ) → AreStatic es → a < b → OneBlock es a b → IsStrong m es b
strong_behind m es a b are h o = record { event = o.second; there = o.is_second; strong = fence_at m b o.second (behind_is_fence m es a b o.second are o.is_second h o) }

leads_joined : (m : MemoryModel) (es : List StaticEvent) (happens : ℕ → Bool) (a b c : ℕ) → AreStatic es → Later es a b → Later es b c → Leads m es happens a b → Leads m es happens b c → Leads m es happens a c
leads_joined m es happens a b c are ab bc p (strong s) = strong s
leads_joined m es happens a b c are ab bc p (over x low high t barrier on) = over x (omega (arith, ab.0)) high (thread_joined es a b x ab.1 t) barrier on
leads_joined m es happens a b c are ab bc (reads r) q = reads r
leads_joined m es happens a b c are ab bc (over x low high t barrier on) q = over x low (omega (arith, bc.0)) t barrier on
leads_joined m es happens a b c are ab bc (within o) (within p) = within (block_joined es a b c o p)
leads_joined m es happens a b c are ab bc (strong s) (within p) = strong (strong_behind m es b c are bc.0 p)
leads_joined m es happens a b c are ab bc (within o) (reads r) = absurd (reader_begins m es a b are ab.0 o r)
leads_joined m es happens a b c are ab bc (strong s) (reads r) = absurd (no_strong_reader m es b r s)

good_leads : (m : MemoryModel) (es : List StaticEvent) (happens : ℕ → Bool) (a b : ℕ) → IsGood m es (edge Global a b) → Onward m es happens a b
good_leads m es happens a b g = (g.0, elim g.1 [ inl o ↦ within o | inr k ↦ elim k [ inl r ↦ reads r | inr s ↦ strong s ] ])

fence_leads : (m : MemoryModel) (es : List StaticEvent) (happens : ℕ → Bool) (a b : ℕ) (f : FenceEdge) → AreStatic es → IsGoodFence m es f → f.edge ≡ edge Global a b → happens a ≡ true → Onward m es happens a b
fence_leads m es happens a b f are good same on =
    let from : f.edge.from ≡ a = ap (λ (x : Edge). x.from) same in
    let to : f.edge.to ≡ b = ap (λ (x : Edge). x.to) same in
    let later : Later es a b = subst (λ (x : ℕ). Later es a x) to (subst (λ (x : ℕ). Later es x f.edge.to) from good.goes_on) in
    let barrier : IsBarrier m es a = subst (λ (x : ℕ). IsBarrier m es x) from (barrier_at m es f.edge.from are good.full good.ends) in
    (later, over a (omega arith) later.0 (thread_joined es a b a later.1 (thread_turned es a b later.1)) barrier on)

there_leads : (m : MemoryModel) (es : List StaticEvent) (n : ℕ) (fixed : List Edge) (fences : List FenceEdge) (happens : ℕ → Bool) (a b : ℕ) → AreStatic es → IsBuilt m es n fixed fences → IsThere fixed fences happens (edge Global a b) → Onward m es happens a b
there_leads m es n fixed fences happens a b are built (always c) = good_leads m es happens a b (built.good (edge Global a b) c)
there_leads m es n fixed fences happens a b are built (fenced f c same on) = fence_leads m es happens a b f are (built.good_fences f c) same on

-- ---- what leads to an event that happens is kept

kept_by_kinds : (m : MemoryModel) (es : List StaticEvent) (happens : ℕ → Bool) (a b : ℕ) → Later es a b → happens a ≡ true → happens b ≡ true → ((e f : StaticEvent) → IsAt es a e → IsAt es b f → keeps_kinds m e.kind f.kind ≡ true) → KeptPair m es happens a b
kept_by_kinds m es happens a b l on_a on_b k =
    (record { first = l.1.first; second = l.1.second; is_first = l.1.is_first; is_second = l.1.is_second; same = l.1.same; before = l.0; kept = inl (k l.1.first l.1.second l.1.is_first.there l.1.is_second.there) }, on_a, on_b)

kept_in_block : (m : MemoryModel) (es : List StaticEvent) (happens : ℕ → Bool) (a b : ℕ) → Later es a b → happens a ≡ true → happens b ≡ true → OneBlock es a b → KeptPair m es happens a b
kept_in_block m es happens a b l on_a on_b o =
    let one = one_event es a l.1.first o.first l.1.is_first.there o.is_first in
    let two = one_event es b o.second l.1.second o.is_second l.1.is_second.there in
    (record { first = l.1.first; second = l.1.second; is_first = l.1.is_first; is_second = l.1.is_second; same = l.1.same; before = l.0; kept = inr (ap (λ (x : StaticEvent). x.block) one ∙ (o.same ∙ ap (λ (x : StaticEvent). x.block) two)) }, on_a, on_b)

-- the first event of a section that was begun later
kept_into_section : (m : MemoryModel) (es : List StaticEvent) (happens : ℕ → Bool) (a b : ℕ) (f : StaticEvent) → AreStatic es → IsPossible es happens → Later es a b → happens a ≡ true → happens b ≡ true → IsAt es b f → f.block < b → Path (KeptPair m es happens) a b
kept_into_section m es happens a b f are can l on_a on_b there low =
    let h = f.block in
    let on_h = can.inside b f there on_b in
    let to_b = to_head es b f are there in
    elim (cases_lt a h) [
      | inl lt ↦
          let z = end_of es b f there in
          let s = section_to es b z.place f are there z.one (omega (arith, z.later)) z.ends in
          let g = head_of es b f are there in
          let full = are.begins h z.place g.0 s g.1 in
          let h_b = block_thread es h b are low to_b in
          let a_h : Later es a h = (lt, thread_joined es a b h l.1 (thread_turned es h b h_b)) in
          let first = kept_by_kinds m es happens a h a_h on_a on_h (λ x y p q.
          let one = one_event es h g.0 y g.1 q in
          let kind : y.kind ≡ _ = ap (λ (v : StaticEvent). v.kind) (sym one) ∙ full in
          subst (λ (k : StaticKind). keeps_kinds m x.kind k ≡ true) (sym kind) (full_kept_before m x.kind)) in
          let second = kept_in_block m es happens h b (low, h_b) on_h on_b to_b in
          then first (last second)
      | inr ge ↦ last (kept_in_block m es happens a b l on_a on_b (block_within es h a b are to_b ge (omega (arith, l.0))))
    ]

kept_to_strong : (m : MemoryModel) (es : List StaticEvent) (happens : ℕ → Bool) (a b : ℕ) → AreStatic es → IsPossible es happens → Later es a b → happens a ≡ true → happens b ≡ true → IsStrong m es b → Path (KeptPair m es happens) a b
kept_to_strong m es happens a b are can l on_a on_b s =
    let f = s.event in
    let low = are.own_or_before b f s.there in
    elim (cases_lt f.block b) [
      | inl lt ↦ kept_into_section m es happens a b f are can l on_a on_b s.there lt
      | inr ge ↦
          let own : f.block ≡ b = omega arith in
          last (kept_by_kinds m es happens a b l on_a on_b (λ x y p q.
          let one = one_event es b f y s.there q in
          let k = strong_kept m x.kind f.kind (sym (ap (λ (r : Role). is_strong m r) (role_at_own m b f own)) ∙ s.strong) in
          subst (λ (e : StaticEvent). keeps_kinds m x.kind e.kind ≡ true) one k))
    ]

kept_from_read : (m : MemoryModel) (es : List StaticEvent) (happens : ℕ → Bool) (a b : ℕ) → Later es a b → happens a ≡ true → happens b ≡ true → IsReader m es a → KeptPair m es happens a b
kept_from_read m es happens a b l on_a on_b r =
    kept_by_kinds m es happens a b l on_a on_b (λ x y p q.
    let one = one_event es a r.event x r.there p in
    let own = own_role m a r.event Reader r.reads (λ e. cc) in
    subst (λ (e : StaticEvent). keeps_kinds m e.kind y.kind ≡ true) one (reader_kept m r.event.kind y.kind own.1))

kept_to_barrier : (m : MemoryModel) (es : List StaticEvent) (happens : ℕ → Bool) (a c : ℕ) → Later es a c → happens a ≡ true → happens c ≡ true → IsBarrier m es c → KeptPair m es happens a c
kept_to_barrier m es happens a c l on_a on_c barrier =
    kept_by_kinds m es happens a c l on_a on_c (λ x y p q. subst (λ (e : StaticEvent). keeps_kinds m x.kind e.kind ≡ true) (one_event es c barrier.event y barrier.there q) (barrier.before x.kind))

kept_from_barrier : (m : MemoryModel) (es : List StaticEvent) (happens : ℕ → Bool) (c b : ℕ) → Later es c b → happens c ≡ true → happens b ≡ true → IsBarrier m es c → KeptPair m es happens c b
kept_from_barrier m es happens c b l on_c on_b barrier =
    kept_by_kinds m es happens c b l on_c on_b (λ x y p q. subst (λ (e : StaticEvent). keeps_kinds m e.kind y.kind ≡ true) (one_event es c barrier.event x barrier.there p) (barrier.behind y.kind))

kept_over : (m : MemoryModel) (es : List StaticEvent) (happens : ℕ → Bool) (a b c : ℕ) → Later es a b → happens a ≡ true → happens b ≡ true → a ≤ c → c < b → OneThread es a c → IsBarrier m es c → happens c ≡ true → Path (KeptPair m es happens) a b
kept_over m es happens a b c l on_a on_b low high t barrier on_c =
    let c_b : Later es c b = (high, thread_joined es c a b (thread_turned es a c t) l.1) in
    let behind = kept_from_barrier m es happens c b c_b on_c on_b barrier in
    elim (cases_lt a c) [
      | inl lt ↦ then (kept_to_barrier m es happens a c (lt, t) on_a on_c barrier) (last behind)
      | inr ge ↦ let e : c ≡ a = omega arith in subst (λ (n : ℕ). Path (KeptPair m es happens) n b) e (last behind)
    ]

kept_from_leads : (m : MemoryModel) (es : List StaticEvent) (happens : ℕ → Bool) (a b : ℕ) → AreStatic es → IsPossible es happens → Later es a b → happens a ≡ true → happens b ≡ true → Leads m es happens a b → Path (KeptPair m es happens) a b
kept_from_leads m es happens a b are can l on_a on_b (within o) = last (kept_in_block m es happens a b l on_a on_b o)
kept_from_leads m es happens a b are can l on_a on_b (reads r) = last (kept_from_read m es happens a b l on_a on_b r)
kept_from_leads m es happens a b are can l on_a on_b (strong s) = kept_to_strong m es happens a b are can l on_a on_b s
kept_from_leads m es happens a b are can l on_a on_b (over c low high t barrier on_c) = kept_over m es happens a b c l on_a on_b low high t barrier on_c

-- a way between events that happen is kept order
pub ways_are_kept : (m : MemoryModel) (es : List StaticEvent) (n : ℕ) (fixed : List Edge) (fences : List FenceEdge) (happens : ℕ → Bool) (a b : ℕ) → AreStatic es → IsBuilt m es n fixed fences → IsPossible es happens → happens a ≡ true → happens b ≡ true → Way fixed fences happens Global a b → Path (KeptPair m es happens) a b
ways_are_kept m es n fixed fences happens a b are built can on_a on_b way =
    let w = along (λ x y. IsThere fixed fences happens (edge Global x y)) (Onward m es happens) (λ x y e. there_leads m es n fixed fences happens x y are built e)
    (λ x y z p q. (later_joined es x y z p.0 q.0, leads_joined m es happens x y z are p.0 q.0 p.1 q.1)) way in
    kept_from_leads m es happens a b are can w.0 on_a on_b w.1

-- ---- one cell

cell_joined : (es : List StaticEvent) (a b c : ℕ) → OnOneCell es a b → OnOneCell es b c → OnOneCell es a c
cell_joined es a b c p q =
    let one = one_event es b p.second q.first p.is_second q.is_first in
    record {
      first = p.first;
      second = q.second;
      is_first = p.is_first;
      is_second = q.is_second;
      same = p.same ∙ (ap (λ (e : StaticEvent). e.instance) one ∙ q.same);
      before = omega (arith, p.before, q.before);
      accesses = (p.accesses.0, q.accesses.1);
      same_cell = p.same_cell ∙ (ap (λ (e : StaticEvent). e.cell) one ∙ q.same_cell);
    }

local_there : (m : MemoryModel) (es : List StaticEvent) (n : ℕ) (fixed : List Edge) (fences : List FenceEdge) (happens : ℕ → Bool) (a b : ℕ) → IsBuilt m es n fixed fences → IsThere fixed fences happens (edge Local a b) → OnOneCell es a b
local_there m es n fixed fences happens a b built (always c) = (built.good (edge Local a b) c).1
local_there m es n fixed fences happens a b built (fenced f c same on) =
    let global = (built.good_fences f c).global in
    let local : f.edge.graph ≡ Local = ap (λ (e : Edge). e.graph) same in
    absurd (cc)

pub ways_are_on_one_cell : (m : MemoryModel) (es : List StaticEvent) (n : ℕ) (fixed : List Edge) (fences : List FenceEdge) (happens : ℕ → Bool) (a b : ℕ) → IsBuilt m es n fixed fences → Way fixed fences happens Local a b → OnOneCell es a b
ways_are_on_one_cell m es n fixed fences happens a b built way =
    along (λ x y. IsThere fixed fences happens (edge Local x y)) (OnOneCell es) (λ x y e. local_there m es n fixed fences happens x y built e) (λ x y z p q. cell_joined es x y z p q) way
