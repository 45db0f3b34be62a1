-- The pass at one place.
use Rattle.std.proofs.Common.{◌≡◌, ℕ, ◌+◌, ◌≤◌, List, [], ◌++◌, length, ap, sym, ◌∙◌, subst, arith}
use Rattle.std.specs.Prelude.{Option, None, Contains}
use Rattle.std.proofs.lemmas.Option.{slice_get_within}
use Rattle.dg_base.proofs.Lists.{contains_nothing}
use Rattle.axiom_model.specs.declared.MemoryModel.TheVariants.{Sc, Tso, Pso}
use Rattle.axiom_model.specs.declared.MemoryModel.{MemoryModel}
use Rattle.cnf_problem.specs.declared.problem.Edge.{Edge}
use Rattle.memory_models.specs.declared.StaticEvent.{StaticEvent}
use Rattle.memory_models.specs.declared.FenceEdge.{FenceEdge}
use Rattle.memory_models.specs.declared.StaticKind.TheVariants.{Initial}
use Rattle.memory_models.specs.Events.{IsAt, OneThread, AreStatic}
use Rattle.memory_models.specs.Roles.{role_of, cell_edges, AreOut, strong_from, weak_from, next_from}
use Rattle.memory_models.specs.Keeping.{globals, fence_globals}
use Rattle.memory_models.specs.Ahead.{Later, From, IsBuilt, AreFew, LiesAhead, AreNext, Stands}
use Rattle.memory_models.proofs.Blocks.{later_from_next}
use Rattle.memory_models.proofs.Stepping.{built_step, built_initial, no_thread}
use Rattle.memory_models.proofs.Entering.{ahead_along, next_along, ahead_none, next_none, ahead_step, next_step, from_is_later, later_is_from, later_from}
use Rattle.memory_models.proofs.Adding.{step_added}

next_same : (es : List StaticEvent) (fixed : List Edge) (P : ℕ → Type 0) (next now : ℕ → Option ℕ) → ((c : ℕ) → now c ≡ next c) → AreNext es fixed P next → AreNext es fixed P now
next_same es fixed P next now same a = record {
  there = λ c p q. a.there c p (sym (same c) ∙ q);
  to_next = λ b c f access. let t = a.to_next b c f access in (t.0, same c ∙ t.1, t.2);
}

pub passed : (m : MemoryModel) (es : List StaticEvent) (n : ℕ) (e : StaticEvent) (strong strong_in strong_now : Option ℕ) (weak weak_in weak_now : List ℕ) (next next_now : ℕ → Option ℕ) (fixed first now : List Edge) (fences fences_now : List FenceEdge) → AreStatic es → IsAt es n e → ¬ (e.kind ≡ Initial) → Stands m es (n + 1) (Later es n) fixed fences strong weak next
    → first ≡ fixed ++ cell_edges n e next → strong_in ≡ strong → weak_in ≡ weak → AreOut es n e (role_of m n e) strong_in weak_in first now fences fences_now → strong_now ≡ strong_from m n e strong_in → weak_now ≡ weak_from m n e weak_in → ((c : ℕ) → next_now c ≡ next_from n e next c)
    → Stands m es n (From es n) now fences_now strong_now weak_now next_now
passed m es n e strong strong_in strong_now weak weak_in weak_now next next_now fixed first now fences fences_now are at_n acts stands begin same_strong same_weak out enter_strong enter_weak enter_next =
    let built = stands.built in
    let cells = stands.cells in
    let ahead_in : LiesAhead m es fixed (Later es n) strong_in weak_in = subst (λ (s : Option ℕ). LiesAhead m es fixed (Later es n) s weak_in) (sym same_strong) (subst (λ (w : List ℕ). LiesAhead m es fixed (Later es n) strong w) (sym same_weak) stands.behind) in
    let step = step_added m es n e strong_in weak_in next fixed first now fences fences_now are at_n built ahead_in cells begin out in
    let here = built_step m es n e strong_in weak_in next fixed now fences fences_now are at_n built ahead_in cells step in
    let entered = ahead_step m es n e fixed now fences_now strong_in weak_in (record { there = at_n; acts = acts }) step.more here ahead_in in
    let after : LiesAhead m es now (From es n) strong_now weak_now = subst (λ (s : Option ℕ). LiesAhead m es now (From es n) s weak_now) (sym enter_strong) (subst (λ (w : List ℕ). LiesAhead m es now (From es n) (strong_from m n e strong_in) w) (sym enter_weak) entered) in
    record {
      built = here;
      behind = after;
      cells = next_same es now (From es n) (next_from n e next) next_now enter_next (next_step m es n e fixed now fences_now next (record { there = at_n; acts = acts }) step.more here cells);
    }

pub passed_initial : (m : MemoryModel) (es : List StaticEvent) (n : ℕ) (e : StaticEvent) (strong : Option ℕ) (weak : List ℕ) (next : ℕ → Option ℕ) (fixed : List Edge) (fences : List FenceEdge) → AreStatic es → IsAt es n e → e.kind ≡ Initial → Stands m es (n + 1) (Later es n) fixed fences strong weak next → Stands m es n (From es n) fixed fences strong weak next
passed_initial m es n e strong weak next fixed fences are at_n kind stands =
    let back : (b : ℕ) → From es n b → Later es n b = λ b f. absurd (no_thread es n b e at_n kind f.1) in
    record {
      built = built_initial m es n e fixed fences are at_n kind stands.built;
      behind = ahead_along m es fixed (Later es n) (From es n) strong weak (later_from es n) back stands.behind;
      cells = next_along es fixed (Later es n) (From es n) next (later_from es n) back stands.cells;
    }

-- the next place is of the same thread
pub same_thread : (m : MemoryModel) (es : List StaticEvent) (n : ℕ) (strong : Option ℕ) (weak : List ℕ) (next : ℕ → Option ℕ) (fixed : List Edge) (fences : List FenceEdge) → OneThread es n (n + 1) → Stands m es (n + 1) (From es (n + 1)) fixed fences strong weak next → Stands m es (n + 1) (Later es n) fixed fences strong weak next
same_thread m es n strong weak next fixed fences t s = record {
  built = s.built;
  behind = ahead_along m es fixed (From es (n + 1)) (Later es n) strong weak (λ b f. from_is_later es n b t f) (λ b l. later_is_from es n b t l) s.behind;
  cells = next_along es fixed (From es (n + 1)) (Later es n) next (λ b f. from_is_later es n b t f) (λ b l. later_is_from es n b t l) s.cells;
}

-- a thread ends here
pub thread_ends : (m : MemoryModel) (es : List StaticEvent) (n : ℕ) (strong : Option ℕ) (weak : List ℕ) (next : ℕ → Option ℕ) (fixed : List Edge) (fences : List FenceEdge) → AreStatic es → (OneThread es n (n + 1) → ⊥) → IsBuilt m es (n + 1) fixed fences → strong ≡ None → weak ≡ [] → ((c : ℕ) → next c ≡ None) → Stands m es (n + 1) (Later es n) fixed fences strong weak next
thread_ends m es n strong weak next fixed fences are apart built s w c =
    let never : (b : ℕ) → Later es n b → ⊥ = λ b l. apart (later_from_next es n b are l) in
    record {
      built = built;
      behind = ahead_none m es fixed (Later es n) strong weak never s w;
      cells = next_none es fixed (Later es n) next never c;
    }

few_nothing : (m : MemoryModel) → AreFew m 0 0
few_nothing Sc = omega arith
few_nothing Tso = omega arith
few_nothing Pso = tt

-- behind the last event nothing lies ahead
pub begun : (m : MemoryModel) (es : List StaticEvent) (n : ℕ) (strong : Option ℕ) (weak : List ℕ) (next : ℕ → Option ℕ) (fixed : List Edge) (fences : List FenceEdge) → n ≡ length es → fixed ≡ [] → fences ≡ [] → strong ≡ None → weak ≡ [] → ((c : ℕ) → next c ≡ None) → Stands m es n (From es n) fixed fences strong weak next
begun m es n strong weak next fixed fences long no_fixed no_fences s w c =
    let past : (a : ℕ) (e : StaticEvent) → n ≤ a → IsAt es a e → ⊥ = λ a e low there. let within = slice_get_within es a e there in omega arith in
    let never : (b : ℕ) → From es n b → ⊥ = λ b f. past n f.1.first (omega arith) f.1.is_first.there in
    record {
      built = record {
        good = λ e m. absurd (contains_nothing e (subst (λ (l : List Edge). Contains l e) no_fixed m));
        good_fences = λ f m. absurd (contains_nothing f (subst (λ (l : List FenceEdge). Contains l f) no_fences m));
        blocks = λ a b low h o. absurd (past a o.first low o.is_first);
        serves = λ a b e f low l at. absurd (past a e low at);
        cells = λ a b low o. absurd (past a o.first low o.is_first);
        few = λ k h.
            let zero_k : 0 ≡ k = omega arith in
            let none : 0 ≡ globals fixed + fence_globals fences = let a = ap (λ (l : List Edge). globals l) no_fixed in let b = ap (λ (l : List FenceEdge). fence_globals l) no_fences in omega (arith, a, b) in
            subst (λ (j : ℕ). AreFew m j (globals fixed + fence_globals fences)) zero_k (subst (λ (j : ℕ). AreFew m 0 j) none (few_nothing m));
      };
      behind = ahead_none m es fixed (From es n) strong weak never s w;
      cells = next_none es fixed (From es n) next never c;
    }
