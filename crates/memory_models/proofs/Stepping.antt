-- The edges out of one event more, and what lies ahead of those before it.
use Rattle.std.proofs.Common.{◌≡◌, ℕ, ◌+◌, ◌-◌, ◌<◌, ◌≤◌, ◌⊎◌, inl, inr, true, List, refl, ap, sym, ◌∙◌, subst, arith}
use Rattle.std.specs.Prelude.{Option, Some, Contains}
use Rattle.std.proofs.lemmas.Bool.{cases_lt, cases_Bool}
use Rattle.std.proofs.lemmas.Option.{slice_get_within}
use Rattle.axiom_model.specs.declared.MemoryModel.{MemoryModel}
use Rattle.axiom_model.specs.declared.MemoryModel.TheVariants.{Sc, Tso, Pso}
use Rattle.cnf_problem.specs.declared.problem.Graph.TheVariants.{Local, Global}
use Rattle.cnf_problem.specs.declared.problem.Edge.{Edge}
use Rattle.cnf_problem.specs.Edges.{last, then}
use Rattle.memory_models.specs.declared.StaticEvent.{StaticEvent}
use Rattle.memory_models.specs.declared.FenceEdge.{FenceEdge}
use Rattle.memory_models.specs.declared.StaticKind.{StaticKind}
use Rattle.memory_models.specs.declared.StaticKind.TheVariants.{Initial}
use Rattle.memory_models.specs.declared.role.Role.{Role}
use Rattle.memory_models.specs.declared.role.Role.TheVariants.{Reader, Writer, Fence}
use Rattle.memory_models.specs.Events.{IsAt, OneThread, OneBlock, AreStatic}
use Rattle.memory_models.specs.Keeping.{edge, FixedWay, OnOneCell, is_access, globals, fence_globals}
use Rattle.memory_models.specs.Roles.{role_of, is_strong}
use Rattle.memory_models.specs.Ahead.{Later, Reaches, IsGood, IsGoodFence, IsBuilt, AreFew, Serves, always, fenced, inside, waits, LiesAhead, AreNext}
use Rattle.memory_models.proofs.Ways.{more_edges, reaches_more, then_reaches}
use Rattle.memory_models.proofs.Blocks.{one_event, thread_joined, thread_turned, block_or_not, begins_new, block_thread, block_within, block_front}
use Rattle.memory_models.proofs.Fencing.{inside_is_fence}

abbrev pub AtMostTwo : MemoryModel → ℕ → ℕ → Type 0
AtMostTwo Pso before now = Unit {0}
AtMostTwo m before now = now ≤ before + 2

-- what comes with the event e at place n
pub record IsStep (m : MemoryModel) (es : List StaticEvent) (n : ℕ) (e : StaticEvent) (strong : Option ℕ) (weak : List ℕ) (next : ℕ → Option ℕ) (fixed now : List Edge) (fences fences_now : List FenceEdge) : Type 0 where
  pub more : (x : Edge) → Contains fixed x → Contains now x
  pub more_fences : (g : FenceEdge) → Contains fences g → Contains fences_now g
  pub good : (x : Edge) → Contains now x → IsGood m es x
  pub good_fences : (g : FenceEdge) → Contains fences_now g → IsGoodFence m es g
  pub inner : OneBlock es n (n + 1) → Contains now (edge Global n (n + 1))
  pub to_strong : (OneBlock es n (n + 1) → ⊥) → (s : ℕ) → strong ≡ Some s → Contains now (edge Global n s)
  pub to_weak : (OneBlock es n (n + 1) → ⊥) → (w : ℕ) → Contains weak w → role_of m n e ≡ Reader → Contains now (edge Global n w)
  pub to_fenced : (OneBlock es n (n + 1) → ⊥) → (w : ℕ) → Contains weak w → role_of m n e ≡ Fence → (g : FenceEdge) × Contains fences_now g × (g.edge ≡ edge Global n w)
  pub to_next : is_access e.kind ≡ true → (p : ℕ) → next e.cell ≡ Some p → Contains now (edge Local n p)
  pub few : AtMostTwo m (globals fixed + fence_globals fences) (globals now + fence_globals fences_now)

-- ---- serving

pub served_strong : (m : MemoryModel) (es : List StaticEvent) (fixed : List Edge) (fences : List FenceEdge) (a b : ℕ) (e f : StaticEvent) → Serves m es fixed fences a e b f → is_strong m (role_of m b f) ≡ true → FixedWay fixed Global a b
served_strong m es fixed fences a b e f (always p) s = p
served_strong m es fixed fences a b e f (fenced g c q r role weak) s = absurd (cc)
served_strong m es fixed fences a b e f (inside o role weak) s = absurd (cc)
served_strong m es fixed fences a b e f (waits role weak) s = absurd (cc)

pub served_read : (m : MemoryModel) (es : List StaticEvent) (fixed : List Edge) (fences : List FenceEdge) (a b : ℕ) (e f : StaticEvent) → Serves m es fixed fences a e b f → role_of m a e ≡ Reader → FixedWay fixed Global a b
served_read m es fixed fences a b e f (always p) s = p
served_read m es fixed fences a b e f (fenced g c q r role weak) s = absurd (cc)
served_read m es fixed fences a b e f (inside o role weak) s = absurd (cc)
served_read m es fixed fences a b e f (waits role weak) s = absurd (cc)

serves_more : (m : MemoryModel) (es : List StaticEvent) (fixed now : List Edge) (fences fences_now : List FenceEdge) (a b : ℕ) (e f : StaticEvent) → ((x : Edge) → Contains fixed x → Contains now x) → ((g : FenceEdge) → Contains fences g → Contains fences_now g) → Serves m es fixed fences a e b f → Serves m es now fences_now a e b f
serves_more m es fixed now fences fences_now a b e f more more_fences (always p) = always (more_edges fixed now Global a b more p)
serves_more m es fixed now fences fences_now a b e f more more_fences (fenced g c q r role weak) = fenced g (more_fences g c) q (reaches_more fixed now Global g.edge.to b more r) role weak
serves_more m es fixed now fences fences_now a b e f more more_fences (inside o role weak) = inside o role weak
serves_more m es fixed now fences fences_now a b e f more more_fences (waits role weak) = waits role weak

pub role_cases : (r : Role) → (r ≡ Reader) ⊎ ((r ≡ Writer) ⊎ (r ≡ Fence))
role_cases Reader = inl refl
role_cases Writer = inr (inl refl)
role_cases Fence = inr (inr refl)

pub access_acts : (k : StaticKind) → is_access k ≡ true → k ≡ Initial → ⊥
access_acts k h q = let bad = sym h ∙ ap (λ (x : StaticKind). is_access x) q in absurd (cc)

cell_later : (es : List StaticEvent) (a b : ℕ) → OnOneCell es a b → Later es a b
cell_later es a b o =
    (o.before, record { first = o.first; second = o.second; is_first = record { there = o.is_first; acts = access_acts o.first.kind o.accesses.0 }; is_second = record { there = o.is_second; acts = access_acts o.second.kind o.accesses.1 }; same = o.same })

-- ---- one event more

blocks_here : (m : MemoryModel) (es : List StaticEvent) (n b : ℕ) (fixed now : List Edge) (fences : List FenceEdge) → AreStatic es → IsBuilt m es (n + 1) fixed fences → ((x : Edge) → Contains fixed x → Contains now x) → (OneBlock es n (n + 1) → Contains now (edge Global n (n + 1))) → n < b → OneBlock es n b → FixedWay now Global n b
blocks_here m es n b fixed now fences are built more inner h o =
    let first = inner (block_front es n (n + 1) b are o (omega arith) (omega arith)) in
    elim (cases_lt (n + 1) b) [
      | inl lt ↦ then first (more_edges fixed now Global (n + 1) b more (built.blocks (n + 1) b (omega arith) lt (block_within es n (n + 1) b are o (omega arith) (omega arith))))
      | inr ge ↦ let q : n + 1 ≡ b = omega arith in subst (λ (k : ℕ). FixedWay now Global n k) q (last first)
    ]

fence_reaches : (now : List Edge) (n w b : ℕ) (x : Edge) → x ≡ edge Global n w → Reaches now Global w b → (x ≡ edge Global n x.to) × Reaches now Global x.to b
fence_reaches now n w b x q r =
    let to : x.to ≡ w = ap (λ (y : Edge). y.to) q in
    (q ∙ ap (λ (k : ℕ). edge Global n k) (sym to), subst (λ (k : ℕ). Reaches now Global k b) (sym to) r)

serves_here : (m : MemoryModel) (es : List StaticEvent) (n b : ℕ) (e f : StaticEvent) (strong : Option ℕ) (weak : List ℕ) (next : ℕ → Option ℕ) (fixed now : List Edge) (fences fences_now : List FenceEdge) → AreStatic es → IsAt es n e → IsBuilt m es (n + 1) fixed fences → LiesAhead m es fixed (Later es n) strong weak → IsStep m es n e strong weak next fixed now fences fences_now → Later es n b → IsAt es b f → f.block ≡ b → Serves m es now fences_now n e b f
serves_here m es n b e f strong weak next fixed now fences fences_now are at_n built ahead step l at_b own =
    elim (block_or_not es n (n + 1) e at_n) [
      | inl o ↦
          let role = inside_is_fence m es n (n + 1) e are at_n (omega arith) o in
          elim (cases_Bool (is_strong m (role_of m b f))) [
            | inl high ↦
                let far : n + 1 < b = elim (cases_lt (n + 1) b) [
                  | inl lt ↦ lt
                  | inr ge ↦ let q : n + 1 ≡ b = omega (arith, l.0) in absurd (begins_new es n b f are l.0 (subst (λ (k : ℕ). OneBlock es n k) q o) at_b own)
                ] in
                let t : OneThread es (n + 1) b = thread_joined es (n + 1) n b (thread_turned es n (n + 1) (block_thread es n (n + 1) are (omega arith) o)) l.1 in
                let served = served_strong m es fixed fences (n + 1) b o.second f (built.serves (n + 1) b o.second f (omega arith) (far, t) o.is_second at_b own) high in
                always (then (step.inner o) (more_edges fixed now Global (n + 1) b step.more served))
            | inr low ↦ inside o role low
          ]
      | inr apart ↦
          elim (cases_Bool (is_strong m (role_of m b f))) [
            | inl high ↦
                let s = ahead.to_strong b f l at_b own high in
                always (then_reaches now Global n s.0 b (last (step.to_strong apart s.0 s.1)) (reaches_more fixed now Global s.0 b step.more s.2))
            | inr low ↦
                let w = ahead.to_weak b f l at_b own low in
                let r = reaches_more fixed now Global w.0 b step.more w.2 in
                elim (role_cases (role_of m n e)) [
                  | inl reads ↦ always (then_reaches now Global n w.0 b (last (step.to_weak apart w.0 w.1 reads)) r)
                  | inr other ↦ elim other [
                    | inl writes ↦ waits writes low
                    | inr full ↦
                        let g = step.to_fenced apart w.0 w.1 full in
                        let x = fence_reaches now n w.0 b g.0.edge g.2 r in
                        fenced g.0 g.1 x.0 x.1 full low
                  ]
                ]
          ]
    ]

cells_here : (es : List StaticEvent) (n b : ℕ) (e : StaticEvent) (next : ℕ → Option ℕ) (fixed now : List Edge) → IsAt es n e → AreNext es fixed (Later es n) next → ((x : Edge) → Contains fixed x → Contains now x) → (is_access e.kind ≡ true → (p : ℕ) → next e.cell ≡ Some p → Contains now (edge Local n p)) → OnOneCell es n b → FixedWay now Local n b
cells_here es n b e next fixed now at_n are_next more to_next o =
    let one = one_event es n o.first e o.is_first at_n in
    let accesses : is_access e.kind ≡ true = ap (λ (x : StaticEvent). is_access x.kind) (sym one) ∙ o.accesses.0 in
    let cell : o.second.cell ≡ e.cell = sym o.same_cell ∙ ap (λ (x : StaticEvent). x.cell) one in
    let p = are_next.to_next b e.cell (cell_later es n b o) (record { event = o.second; there = o.is_second; accesses = o.accesses.1; cell_is = cell }) in
    then_reaches now Local n p.0 b (last (to_next accesses p.0 p.1)) (reaches_more fixed now Local p.0 b more p.2)

few_more : (m : MemoryModel) (k before now : ℕ) → AreFew m k before → AtMostTwo m before now → AreFew m (k + 1) now
few_more Sc k before now h s = omega (arith, h, s)
few_more Tso k before now h s = omega (arith, h, s)
few_more Pso k before now h s = tt

pub built_step : (m : MemoryModel) (es : List StaticEvent) (n : ℕ) (e : StaticEvent) (strong : Option ℕ) (weak : List ℕ) (next : ℕ → Option ℕ) (fixed now : List Edge) (fences fences_now : List FenceEdge) → AreStatic es → IsAt es n e → IsBuilt m es (n + 1) fixed fences → LiesAhead m es fixed (Later es n) strong weak → AreNext es fixed (Later es n) next → IsStep m es n e strong weak next fixed now fences fences_now → IsBuilt m es n now fences_now
built_step m es n e strong weak next fixed now fences fences_now are at_n built ahead are_next step = record {
  good = step.good;
  good_fences = step.good_fences;
  blocks = λ a b low h o.
      elim (cases_lt n a) [
        | inl lt ↦ more_edges fixed now Global a b step.more (built.blocks a b (omega arith) h o)
        | inr ge ↦
            let q : a ≡ n = omega arith in
            subst (λ (k : ℕ). FixedWay now Global k b) (sym q) (blocks_here m es n b fixed now fences are built step.more step.inner (omega arith) (subst (λ (k : ℕ). OneBlock es k b) q o))
      ];
  serves = λ a b x f low l at_a at_b own.
      elim (cases_lt n a) [
        | inl lt ↦ serves_more m es fixed now fences fences_now a b x f step.more step.more_fences (built.serves a b x f (omega arith) l at_a at_b own)
        | inr ge ↦
            let q : a ≡ n = omega arith in
            let one : e ≡ x = one_event es n e x at_n (subst (λ (k : ℕ). IsAt es k x) q at_a) in
            let here = serves_here m es n b e f strong weak next fixed now fences fences_now are at_n built ahead step (subst (λ (k : ℕ). Later es k b) q l) at_b own in
            let at_x = subst (λ (y : StaticEvent). Serves m es now fences_now n y b f) one here in
            subst (λ (k : ℕ). Serves m es now fences_now k x b f) (sym q) at_x
      ];
  cells = λ a b low o.
      elim (cases_lt n a) [
        | inl lt ↦ more_edges fixed now Local a b step.more (built.cells a b (omega arith) o)
        | inr ge ↦
            let q : a ≡ n = omega arith in
            subst (λ (k : ℕ). FixedWay now Local k b) (sym q) (cells_here es n b e next fixed now at_n are_next step.more step.to_next (subst (λ (k : ℕ). OnOneCell es k b) q o))
      ];
  few = λ k h.
      let w = slice_get_within es n e at_n in
      let one : k - 1 + 1 ≡ k = omega arith in
      subst (λ (j : ℕ). AreFew m j (globals now + fence_globals fences_now)) one (few_more m (k - 1) (globals fixed + fence_globals fences) (globals now + fence_globals fences_now) (built.few (k - 1) (omega arith)) step.few);
}

-- an initial write adds nothing
few_same : (m : MemoryModel) (x : ℕ) → AtMostTwo m x x
few_same Sc x = omega arith
few_same Tso x = omega arith
few_same Pso x = tt

pub no_thread : (es : List StaticEvent) (n b : ℕ) (e : StaticEvent) → IsAt es n e → e.kind ≡ Initial → OneThread es n b → ⊥
no_thread es n b e at_n kind t = t.is_first.acts (ap (λ (x : StaticEvent). x.kind) (one_event es n t.first e t.is_first.there at_n) ∙ kind)

pub built_initial : (m : MemoryModel) (es : List StaticEvent) (n : ℕ) (e : StaticEvent) (fixed : List Edge) (fences : List FenceEdge) → AreStatic es → IsAt es n e → e.kind ≡ Initial → IsBuilt m es (n + 1) fixed fences → IsBuilt m es n fixed fences
built_initial m es n e fixed fences are at_n kind built =
    let none : (a b : ℕ) → n ≤ a → OneThread es a b → n + 1 ≤ a = λ a b low t.
    elim (cases_lt n a) [
      | inl lt ↦ omega arith
      | inr ge ↦ let q : a ≡ n = omega arith in absurd (no_thread es n b e at_n kind (subst (λ (k : ℕ). OneThread es k b) q t))
    ] in
    record {
      good = built.good;
      good_fences = built.good_fences;
      blocks = λ a b low h o. built.blocks a b (none a b low (block_thread es a b are h o)) h o;
      serves = λ a b x f low l at_a at_b own. built.serves a b x f (none a b low l.1) l at_a at_b own;
      cells = λ a b low o. built.cells a b (none a b low (cell_later es a b o).1) o;
      few = λ k h.
          let w = slice_get_within es n e at_n in
          let one : k - 1 + 1 ≡ k = omega arith in
          subst (λ (j : ℕ). AreFew m j (globals fixed + fence_globals fences)) one (few_more m (k - 1) (globals fixed + fence_globals fences) (globals fixed + fence_globals fences) (built.few (k - 1) (omega arith)) (few_same m (globals fixed + fence_globals fences)));
    }
