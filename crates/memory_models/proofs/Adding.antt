-- The edges that the code adds with one event.
use Rattle.std.proofs.Common.{◌≡◌, ℕ, ◌+◌, ◌≤◌, inl, inr, Bool, true, false, cond, List, [], ◌∷◌, ◌++◌, length, map, refl, ap, sym, ◌∙◌, subst, arith}
use Rattle.std.specs.Prelude.{Option, Some, None, Contains}
use Rattle.std.proofs.lemmas.List.Elements.{Contains-append_left, Contains-append_right, Contains-append_cases}
use Rattle.dg_base.proofs.Lists.{contains_head, contains_nothing, contains_map, contains_from_map}
use Rattle.axiom_model.specs.declared.MemoryModel.{MemoryModel}
use Rattle.axiom_model.specs.declared.MemoryModel.TheVariants.{Sc, Tso, Pso}
use Rattle.dg_base.specs.declared.Lit.{Lit}
use Rattle.cnf_problem.specs.declared.problem.Graph.TheVariants.{Local, Global}
use Rattle.cnf_problem.specs.declared.problem.Edge.{Edge}
use Rattle.memory_models.specs.declared.StaticEvent.{StaticEvent}
use Rattle.memory_models.specs.declared.FenceEdge.{FenceEdge}
use Rattle.memory_models.specs.declared.role.Role.{Role}
use Rattle.memory_models.specs.declared.role.Role.TheVariants.{Reader, Writer, Fence}
use Rattle.memory_models.specs.Events.{IsAt, OneBlock, AreStatic}
use Rattle.memory_models.specs.Keeping.{edge, is_access, is_global, globals, fence_globals}
use Rattle.memory_models.specs.Roles.{role_of, to_strong, to_weak, fenced_to_weak, fence, to_next, cell_edges, AreOut}
use Rattle.memory_models.specs.Ahead.{Later, IsGood, IsGoodFence, IsBuilt, LiesAhead, FewWeak, AreNext}
use Rattle.memory_models.proofs.Ways.{contains_one}
use Rattle.memory_models.proofs.Blocks.{one_event, block_or_not, block_thread}
use Rattle.memory_models.proofs.Stepping.{IsStep, AtMostTwo}
use Rattle.memory_models.proofs.Entering.{cell_way}

-- ---- counts

cond_add : (b : Bool) (x y : ℕ) → cond b (1 + (x + y)) (x + y) ≡ cond b (1 + x) x + y
cond_add true x y = omega arith
cond_add false x y = refl

globals_append : (xs ys : List Edge) → globals (xs ++ ys) ≡ globals xs + globals ys
globals_append [] ys = omega arith
globals_append (x ∷ xs) ys = ap (λ (k : ℕ). cond (is_global x.graph) (1 + k) k) (globals_append xs ys) ∙ cond_add (is_global x.graph) (globals xs) (globals ys)

fence_globals_append : (xs ys : List FenceEdge) → fence_globals (xs ++ ys) ≡ fence_globals xs + fence_globals ys
fence_globals_append [] ys = omega arith
fence_globals_append (x ∷ xs) ys =
    ap (λ (k : ℕ). cond (is_global x.edge.graph) (1 + k) k) (fence_globals_append xs ys) ∙ cond_add (is_global x.edge.graph) (fence_globals xs) (fence_globals ys)

globals_map : (n : ℕ) (ws : List ℕ) → globals (map (edge Global n) ws) ≡ length ws
globals_map n [] = refl
globals_map n (w ∷ ws) = let ih = globals_map n ws in omega (arith, ih)

fence_globals_map : (g : Lit) (n : ℕ) (ws : List ℕ) → fence_globals (map (fence g n) ws) ≡ length ws
fence_globals_map g n [] = refl
fence_globals_map g n (w ∷ ws) = let ih = fence_globals_map g n ws in omega (arith, ih)

globals_next : (n : ℕ) (o : Option ℕ) → globals (to_next n o) ≡ 0
globals_next n None = refl
globals_next n (Some p) = refl

globals_cell : (n : ℕ) (accesses : Bool) (o : Option ℕ) → globals (cond accesses (to_next n o) []) ≡ 0
globals_cell n true o = globals_next n o
globals_cell n false o = refl

globals_strong : (n : ℕ) (o : Option ℕ) → globals (to_strong n o) ≤ 1
globals_strong n None = omega arith
globals_strong n (Some s) = omega arith

globals_weak : (r : Role) (g : Lit) (n : ℕ) (ws : List ℕ) → globals (to_weak r n ws) + fence_globals (fenced_to_weak r g n ws) ≤ length ws
globals_weak Reader g n ws = let c = globals_map n ws in omega (arith, c)
globals_weak Writer g n ws = omega arith
globals_weak Fence g n ws = let c = fence_globals_map g n ws in omega (arith, c)

few_out : (m : MemoryModel) (ws : List ℕ) (before now out : ℕ) → FewWeak m ws → now ≤ before + out → out ≤ 1 + length ws → AtMostTwo m before now
few_out Sc ws before now out f a b = omega (arith, f, a, b)
few_out Tso ws before now out f a b = omega (arith, f, a, b)
few_out Pso ws before now out f a b = tt

few_in : (m : MemoryModel) (before now : ℕ) → now ≤ before + 1 → AtMostTwo m before now
few_in Sc before now a = omega (arith, a)
few_in Tso before now a = omega (arith, a)
few_in Pso before now a = tt

-- ---- what is among the new edges

in_next : (n : ℕ) (o : Option ℕ) (x : Edge) → Contains (to_next n o) x → (p : ℕ) × (o ≡ Some p) × (x ≡ edge Local n p)
in_next n None x c = absurd (contains_nothing x c)
in_next n (Some p) x c = (p, refl, contains_one (edge Local n p) x c)

in_cell : (n : ℕ) (accesses : Bool) (o : Option ℕ) (x : Edge) → Contains (cond accesses (to_next n o) []) x → (accesses ≡ true) × ((p : ℕ) × (o ≡ Some p) × (x ≡ edge Local n p))
in_cell n true o x c = (refl, in_next n o x c)
in_cell n false o x c = absurd (contains_nothing x c)

cell_in : (n : ℕ) (accesses : Bool) (o : Option ℕ) (p : ℕ) → accesses ≡ true → o ≡ Some p → Contains (cond accesses (to_next n o) []) (edge Local n p)
cell_in n true o p a q = subst (λ (v : Option ℕ). Contains (to_next n v) (edge Local n p)) (sym q) (contains_head (edge Local n p) [])
cell_in n false o p a q = absurd (cc)

in_strong : (n : ℕ) (o : Option ℕ) (x : Edge) → Contains (to_strong n o) x → (s : ℕ) × (o ≡ Some s) × (x ≡ edge Global n s)
in_strong n None x c = absurd (contains_nothing x c)
in_strong n (Some s) x c = (s, refl, contains_one (edge Global n s) x c)

strong_in : (n : ℕ) (o : Option ℕ) (s : ℕ) → o ≡ Some s → Contains (to_strong n o) (edge Global n s)
strong_in n o s q = subst (λ (v : Option ℕ). Contains (to_strong n v) (edge Global n s)) (sym q) (contains_head (edge Global n s) [])

in_weak : (r : Role) (n : ℕ) (ws : List ℕ) (x : Edge) → Contains (to_weak r n ws) x → (r ≡ Reader) × ((w : ℕ) × Contains ws w × (x ≡ edge Global n w))
in_weak Reader n ws x c = (refl, contains_from_map (edge Global n) ws x c)
in_weak Writer n ws x c = absurd (contains_nothing x c)
in_weak Fence n ws x c = absurd (contains_nothing x c)

weak_in : (r : Role) (n w : ℕ) (ws : List ℕ) → r ≡ Reader → Contains ws w → Contains (to_weak r n ws) (edge Global n w)
weak_in r n w ws q c = subst (λ (v : Role). Contains (to_weak v n ws) (edge Global n w)) (sym q) (contains_map (edge Global n) ws w c)

in_fenced : (r : Role) (g : Lit) (n : ℕ) (ws : List ℕ) (f : FenceEdge) → Contains (fenced_to_weak r g n ws) f → (r ≡ Fence) × ((w : ℕ) × Contains ws w × (f ≡ fence g n w))
in_fenced Reader g n ws f c = absurd (contains_nothing f c)
in_fenced Writer g n ws f c = absurd (contains_nothing f c)
in_fenced Fence g n ws f c = (refl, contains_from_map (fence g n) ws f c)

fenced_in : (r : Role) (g : Lit) (n w : ℕ) (ws : List ℕ) → r ≡ Fence → Contains ws w → Contains (fenced_to_weak r g n ws) (fence g n w)
fenced_in r g n w ws q c = subst (λ (v : Role). Contains (fenced_to_weak v g n ws) (fence g n w)) (sym q) (contains_map (fence g n) ws w c)

-- ---- the two cases

good_cell : (m : MemoryModel) (es : List StaticEvent) (n : ℕ) (e : StaticEvent) (next : ℕ → Option ℕ) (fixed : List Edge) (fences : List FenceEdge) (x : Edge) → IsAt es n e → IsBuilt m es (n + 1) fixed fences → AreNext es fixed (Later es n) next → Contains (fixed ++ cell_edges n e next) x → IsGood m es x
good_cell m es n e next fixed fences x at_n built are_next c =
    elim (Contains-append_cases fixed (cell_edges n e next) x c) [
      | inl old ↦ built.good x old
      | inr new ↦
          let i = in_cell n (is_access e.kind) (next e.cell) x new in
          let p = i.1 in
          let t = are_next.there e.cell p.0 p.1 in
          subst (λ (y : Edge). IsGood m es y) (sym p.2) (t.0, cell_way es n p.0 e.cell e at_n i.0 refl t.0 t.1)
    ]

step_inner : (m : MemoryModel) (es : List StaticEvent) (n : ℕ) (e : StaticEvent) (strong : Option ℕ) (weak : List ℕ) (next : ℕ → Option ℕ) (fixed : List Edge) (fences : List FenceEdge) → AreStatic es → IsAt es n e → IsBuilt m es (n + 1) fixed fences → AreNext es fixed (Later es n) next → OneBlock es n (n + 1)
    → IsStep m es n e strong weak next fixed ((fixed ++ cell_edges n e next) ++ edge Global n (n + 1) ∷ []) fences fences
step_inner m es n e strong weak next fixed fences are at_n built are_next o =
    let cells = cell_edges n e next in
    let one = edge Global n (n + 1) in
    record {
      more = λ x c. Contains-append_left (fixed ++ cells) (one ∷ []) x (Contains-append_left fixed cells x c);
      more_fences = λ g c. c;
      good = λ x c.
          elim (Contains-append_cases (fixed ++ cells) (one ∷ []) x c) [
            | inl old ↦ good_cell m es n e next fixed fences x at_n built are_next old
            | inr new ↦
                let t : Later es n (n + 1) = (omega arith, block_thread es n (n + 1) are (omega arith) o) in
                subst (λ (y : Edge). IsGood m es y) (sym (contains_one one x new)) (t, inl o)
          ];
      good_fences = built.good_fences;
      inner = λ _. Contains-append_right (fixed ++ cells) (one ∷ []) one (contains_head one []);
      to_strong = λ apart. absurd (apart o);
      to_weak = λ apart. absurd (apart o);
      to_fenced = λ apart. absurd (apart o);
      to_next = λ a p q. Contains-append_left (fixed ++ cells) (one ∷ []) (edge Local n p) (Contains-append_right fixed cells (edge Local n p) (cell_in n (is_access e.kind) (next e.cell) p a q));
      few =
          let a = globals_append (fixed ++ cells) (one ∷ []) in
          let b = globals_append fixed cells in
          let c = globals_cell n (is_access e.kind) (next e.cell) in
          few_in m (globals fixed + fence_globals fences) (globals ((fixed ++ cells) ++ one ∷ []) + fence_globals fences) (omega (arith, a, b, c));
    }

step_leave : (m : MemoryModel) (es : List StaticEvent) (n : ℕ) (e : StaticEvent) (strong : Option ℕ) (weak : List ℕ) (next : ℕ → Option ℕ) (fixed : List Edge) (fences : List FenceEdge) → IsAt es n e → IsBuilt m es (n + 1) fixed fences → LiesAhead m es fixed (Later es n) strong weak → AreNext es fixed (Later es n) next → (¬ OneBlock es n (n + 1))
    → IsStep m es n e strong weak next fixed (((fixed ++ cell_edges n e next) ++ to_strong n strong) ++ to_weak (role_of m n e) n weak) fences (fences ++ fenced_to_weak (role_of m n e) e.guard n weak)
step_leave m es n e strong weak next fixed fences at_n built ahead are_next apart =
    let role = role_of m n e in
    let cells = cell_edges n e next in
    let first = fixed ++ cells in
    let strongs = to_strong n strong in
    let weaks = to_weak role n weak in
    let fenced = fenced_to_weak role e.guard n weak in
    record {
      more = λ x c. Contains-append_left (first ++ strongs) weaks x (Contains-append_left first strongs x (Contains-append_left fixed cells x c));
      more_fences = λ g c. Contains-append_left fences fenced g c;
      good = λ x c.
          elim (Contains-append_cases (first ++ strongs) weaks x c) [
            | inl front ↦ elim (Contains-append_cases first strongs x front) [
              | inl old ↦ good_cell m es n e next fixed fences x at_n built are_next old
              | inr new ↦
                  let s = in_strong n strong x new in
                  let t = ahead.strong_there s.0 s.1 in
                  subst (λ (y : Edge). IsGood m es y) (sym s.2) (t.0, inr (inr t.1))
            ]
            | inr new ↦
                let w = in_weak role n weak x new in
                let t = ahead.weak_there w.1.0 w.1.1 in
                subst (λ (y : Edge). IsGood m es y) (sym w.1.2) (t, inr (inl (record { event = e; there = at_n; reads = w.0 })))
          ];
      good_fences = λ g c.
          elim (Contains-append_cases fences fenced g c) [
            | inl old ↦ built.good_fences g old
            | inr new ↦
                let w = in_fenced role e.guard n weak g new in
                let t = ahead.weak_there w.1.0 w.1.1 in
                subst (λ (y : FenceEdge). IsGoodFence m es y) (sym w.1.2) (record { global = refl; goes_on = t; full = record { event = e; there = at_n; fences = w.0 }; ends = apart; guarded = (e, at_n, refl) })
          ];
      inner = λ o. absurd (apart o);
      to_strong = λ _ s q. Contains-append_left (first ++ strongs) weaks (edge Global n s) (Contains-append_right first strongs (edge Global n s) (strong_in n strong s q));
      to_weak = λ _ w c q. Contains-append_right (first ++ strongs) weaks (edge Global n w) (weak_in role n w weak q c);
      to_fenced = λ _ w c q. (fence e.guard n w, Contains-append_right fences fenced (fence e.guard n w) (fenced_in role e.guard n w weak q c), refl);
      to_next = λ a p q.
          let x = edge Local n p in
          Contains-append_left (first ++ strongs) weaks x (Contains-append_left first strongs x (Contains-append_right fixed cells x (cell_in n (is_access e.kind) (next e.cell) p a q)));
      few =
          let a = globals_append (first ++ strongs) weaks in
          let b = globals_append first strongs in
          let c = globals_append fixed cells in
          let d = globals_cell n (is_access e.kind) (next e.cell) in
          let f = fence_globals_append fences fenced in
          let s = globals_strong n strong in
          let w = globals_weak role e.guard n weak in
          few_out m weak (globals fixed + fence_globals fences) (globals ((first ++ strongs) ++ weaks) + fence_globals (fences ++ fenced)) (1 + length weak) ahead.few (omega (arith, a, b, c, d, f, s, w)) (omega arith);
    }

pub step_added : (m : MemoryModel) (es : List StaticEvent) (n : ℕ) (e : StaticEvent) (strong : Option ℕ) (weak : List ℕ) (next : ℕ → Option ℕ) (fixed first now : List Edge) (fences fences_now : List FenceEdge) → AreStatic es → IsAt es n e → IsBuilt m es (n + 1) fixed fences → LiesAhead m es fixed (Later es n) strong weak → AreNext es fixed (Later es n) next → first ≡ fixed ++ cell_edges n e next → AreOut es n e (role_of m n e) strong weak first now fences fences_now
    → IsStep m es n e strong weak next fixed now fences fences_now
step_added m es n e strong weak next fixed first now fences fences_now are at_n built ahead are_next begin out =
    elim (block_or_not es n (n + 1) e at_n) [
      | inl o ↦
          let q = out.inner o in
          let list : now ≡ (fixed ++ cell_edges n e next) ++ edge Global n (n + 1) ∷ [] = q.0 ∙ ap (λ (l : List Edge). l ++ edge Global n (n + 1) ∷ []) begin in
          let one = step_inner m es n e strong weak next fixed fences are at_n built are_next o in
          subst (λ (l : List Edge). IsStep m es n e strong weak next fixed l fences fences_now) (sym list) (subst (λ (l : List FenceEdge). IsStep m es n e strong weak next fixed ((fixed ++ cell_edges n e next) ++ edge Global n (n + 1) ∷ []) fences l) (sym q.1) one)
      | inr apart ↦
          let q = out.leaves apart in
          let there = ((fixed ++ cell_edges n e next) ++ to_strong n strong) ++ to_weak (role_of m n e) n weak in
          let list : now ≡ there = q.0 ∙ ap (λ (l : List Edge). (l ++ to_strong n strong) ++ to_weak (role_of m n e) n weak) begin in
          let one = step_leave m es n e strong weak next fixed fences at_n built ahead are_next apart in
          subst (λ (l : List Edge). IsStep m es n e strong weak next fixed l fences fences_now) (sym list) (subst (λ (l : List FenceEdge). IsStep m es n e strong weak next fixed there fences l) (sym q.1) one)
    ]

-- ---- as the code has it

pub out_inner : (es : List StaticEvent) (n : ℕ) (e : StaticEvent) (role : Role) (strong : Option ℕ) (weak : List ℕ) (fixed now : List Edge) (fences : List FenceEdge) → OneBlock es n (n + 1) → now ≡ fixed ++ edge Global n (n + 1) ∷ [] → AreOut es n e role strong weak fixed now fences fences
out_inner es n e role strong weak fixed now fences o q = record { inner = λ _. (q, refl); leaves = λ apart. absurd (apart o) }

pub out_leaves : (m : MemoryModel) (es : List StaticEvent) (n : ℕ) (e f : StaticEvent) (role : Role) (strong : Option ℕ) (weak : List ℕ) (fixed now : List Edge) (fences fences_now : List FenceEdge) → IsAt es n e → IsAt es n f → (OneBlock es n (n + 1) → ⊥) → role ≡ role_of m n f → now ≡ (fixed ++ to_strong n strong) ++ to_weak role n weak → fences_now ≡ fences ++ fenced_to_weak role f.guard n weak
    → AreOut es n e (role_of m n e) strong weak fixed now fences fences_now
out_leaves m es n e f role strong weak fixed now fences fences_now at_e at_f apart is a b =
    let one : f ≡ e = one_event es n f e at_f at_e in
    let same : role ≡ role_of m n e = is ∙ ap (λ (x : StaticEvent). role_of m n x) one in
    record {
      inner = λ o. absurd (apart o);
      leaves = λ _. (
        a ∙ ap (λ (r : Role). (fixed ++ to_strong n strong) ++ to_weak r n weak) same,
        b ∙ (ap (λ (r : Role). fences ++ fenced_to_weak r f.guard n weak) same ∙ ap (λ (x : StaticEvent). fences ++ fenced_to_weak (role_of m n e) x.guard n weak) one),
      );
    }
