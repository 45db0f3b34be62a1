-- Where the model orders two events that happen, a way leads.
use Rattle.std.proofs.Common.{◌≡◌, ℕ, ◌+◌, ◌<◌, ◌≤◌, inl, inr, Bool, true, false, List, length, ap, sym, ◌∙◌, subst, arith}
use Rattle.std.proofs.lemmas.Bool.{cases_lt}
use Rattle.axiom_model.specs.declared.MemoryModel.{MemoryModel}
use Rattle.axiom_model.specs.declared.MemoryModel.TheVariants.{Sc, Tso, Pso}
use Rattle.cnf_problem.specs.declared.problem.Graph.TheVariants.{Local, Global}
use Rattle.cnf_problem.specs.declared.problem.Edge.{Edge}
use Rattle.cnf_problem.specs.Edges.{Path, last, then}
use Rattle.memory_models.specs.declared.StaticEvent.{StaticEvent}
use Rattle.memory_models.specs.declared.StaticKind.{StaticKind}
use Rattle.memory_models.specs.declared.StaticKind.TheVariants.{Write}
use Rattle.memory_models.specs.declared.FenceEdge.{FenceEdge}
use Rattle.memory_models.specs.declared.role.Role.TheVariants.{Writer}
use Rattle.memory_models.specs.Events.{IsAt, OneThread, OneBlock, AreStatic, IsPossible}
use Rattle.memory_models.specs.Keeping.{edge, keeps_kinds, IsKept, KeptPair, IsThere, fenced, Way, AreStaticEdges, IsFew}
use Rattle.memory_models.specs.Roles.{role_of, is_strong}
use Rattle.memory_models.specs.Ahead.{Later, IsBuilt, AreFew, Serves, always as serves_always, fenced as serves_fenced, inside, waits}
use Rattle.memory_models.proofs.Ways.{joined, along, way_from_fixed}
use Rattle.memory_models.proofs.Blocks.{one_event, thread_joined, thread_self, thread_turned, block_joined, block_or_not, begins_new, head_of, to_head, end_of, section_to, block_thread, block_within, block_front}
use Rattle.memory_models.proofs.Fencing.{own_role, own_weak, writer_writes, weak_waits, inside_is_fence, fence_at}
use Rattle.memory_models.proofs.Sound.{ways_are_kept, ways_are_on_one_cell}

-- the end of an event's block happens where the event happens and a later one of another block does
end_happens : (es : List StaticEvent) (happens : ℕ → Bool) (a c b : ℕ) (e : StaticEvent) → AreStatic es → IsPossible es happens → IsAt es a e → a ≤ c → OneBlock es a c → (¬ OneBlock es a (c + 1)) → c < b → OneThread es a b → happens a ≡ true → happens b ≡ true → happens c ≡ true
end_happens es happens a c b e are can there low o apart high t on_a on_b =
    elim (cases_lt a c) [
      | inl lt ↦
          let below = are.own_or_before a e there in
          let s = section_to es a c e are there o (omega arith) apart in
          let head = to_head es a e are there in
          let on_h = can.inside a e there on_a in
          let h_b : OneThread es e.block b = thread_joined es e.block c b (block_thread es e.block c are (omega arith) (block_joined es e.block a c head o)) (thread_joined es c a b (thread_turned es a c (block_thread es a c are lt o)) t) in
          can.behind e.block c b s h_b high on_b on_h
      | inr ge ↦ let q : a ≡ c = omega arith in subst (λ (n : ℕ). happens n ≡ true) q on_a
    ]

-- a write that stands alone, and a weak event: the model does not keep them
not_kept : (m : MemoryModel) (es : List StaticEvent) (a c b h : ℕ) (e f : StaticEvent) (x y : StaticEvent) → AreStatic es → a ≤ c → OneBlock es a c → h ≤ b → OneBlock es h b → IsAt es a e → IsAt es c x → IsAt es h y → IsAt es b f → role_of m c x ≡ Writer → is_strong m (role_of m h y) ≡ false → keeps_kinds m e.kind f.kind ≡ true → ⊥
not_kept m es a c b h e f x y are low o up p at_a at_c at_h at_b writes weak kept =
    let w = own_role m c x Writer writes (λ q. cc) in
    let v = own_weak m h y weak in
    elim (cases_lt a c) [
      | inl lt ↦ begins_new es a c x are lt o at_c w.0
      | inr ge ↦
          let a_c : c ≡ a = omega arith in
          let e_x : x ≡ e = one_event es a x e (subst (λ (n : ℕ). IsAt es n x) a_c at_c) at_a in
          elim (cases_lt h b) [
            | inl under ↦
                let strong = fence_at m h y (inside_is_fence m es h b y are at_h under p) in
                absurd (cc)
            | inr over ↦
                let h_b : h ≡ b = omega arith in
                let y_f : y ≡ f = one_event es b y f (subst (λ (n : ℕ). IsAt es n y) h_b at_h) at_b in
                let k : e.kind ≡ Write = ap (λ (z : StaticEvent). z.kind) (sym e_x) ∙ writer_writes m x.kind w.1 in
                let lost : keeps_kinds m Write f.kind ≡ false = subst (λ (z : StaticEvent). keeps_kinds m Write z.kind ≡ false) y_f (weak_waits m y.kind v.1) in
                let bad : keeps_kinds m Write f.kind ≡ true = subst (λ (z : StaticKind). keeps_kinds m z f.kind ≡ true) k kept in
                absurd (cc)
          ]
    ]

-- the events of a block are of one thread, also where there is one only
thread_in : (es : List StaticEvent) (a c b : ℕ) → AreStatic es → a ≤ c → OneBlock es a c → OneThread es a b → OneThread es a c
thread_in es a c b are low o t =
    elim (cases_lt a c) [
      | inl lt ↦ block_thread es a c are lt o
      | inr ge ↦ let q : a ≡ c = omega arith in subst (λ (n : ℕ). OneThread es a n) q (thread_self es a b t)
    ]

thread_back : (es : List StaticEvent) (a c b : ℕ) → AreStatic es → a ≤ c → OneBlock es a c → OneThread es c b → OneThread es c a
thread_back es a c b are low o t =
    elim (cases_lt a c) [
      | inl lt ↦ thread_turned es a c (block_thread es a c are lt o)
      | inr ge ↦ let q : c ≡ a = omega arith in subst (λ (n : ℕ). OneThread es c n) q (thread_self es c b t)
    ]

by_service : (m : MemoryModel) (es : List StaticEvent) (fixed : List Edge) (fences : List FenceEdge) (happens : ℕ → Bool) (a b : ℕ) (e f : StaticEvent) → Serves m es fixed fences a e b f → happens a ≡ true → (OneBlock es a (a + 1) → ⊥) → (role_of m a e ≡ Writer → is_strong m (role_of m b f) ≡ false → ⊥) → Way fixed fences happens Global a b
by_service m es fixed fences happens a b e f (serves_always p) on ends kept = way_from_fixed fixed fences happens Global a b p
by_service m es fixed fences happens a b e f (serves_fenced g there same r role weak) on ends kept =
    let first : IsThere fixed fences happens (edge Global a g.edge.to) = fenced g there same on in
    elim r [
      | inl q ↦ subst (λ (n : ℕ). Way fixed fences happens Global a n) q (last first)
      | inr p ↦ then first (way_from_fixed fixed fences happens Global g.edge.to b p)
    ]
by_service m es fixed fences happens a b e f (inside o role weak) on ends kept = absurd (ends o)
by_service m es fixed fences happens a b e f (waits role weak) on ends kept = absurd (kept role weak)

-- from one block into another
across : (m : MemoryModel) (es : List StaticEvent) (fixed : List Edge) (fences : List FenceEdge) (happens : ℕ → Bool) (a b : ℕ) → AreStatic es → IsBuilt m es 0 fixed fences → IsPossible es happens → happens a ≡ true → happens b ≡ true → (k : IsKept m es a b) → keeps_kinds m k.first.kind k.second.kind ≡ true → (¬ OneBlock es a b) → Way fixed fences happens Global a b
across m es fixed fences happens a b are built can on_a on_b k kept apart =
    let e = k.first in
    let f = k.second in
    let at_a = k.is_first.there in
    let at_b = k.is_second.there in
    let t : OneThread es a b = record { first = e; second = f; is_first = k.is_first; is_second = k.is_second; same = k.same } in
    let h = f.block in
    let g = head_of es b f are at_b in
    let h_b = to_head es b f are at_b in
    let h_low = are.own_or_before b f at_b in
    let z = end_of es a e at_a in
    let c = z.place in
    let a_h : a < h = elim (cases_lt a h) [ inl lt ↦ lt | inr ge ↦ absurd (apart (block_within es h a b are h_b ge (omega (arith, k.before)))) ] in
    let c_h : c < h = elim (cases_lt c h) [
      | inl lt ↦ lt
      | inr ge ↦ absurd (begins_new es a h g.0 are a_h (block_front es a h c are z.one (omega arith) ge) g.1 g.2)
    ] in
    let x = z.one.second in
    let at_c = z.one.is_second in
    let a_c : OneThread es a c = thread_in es a c b are z.later z.one t in
    let h_t : OneThread es b h = thread_back es h b a are h_low h_b (thread_turned es a b t) in
    let c_to_h : Later es c h = (c_h, thread_joined es c a h (thread_turned es a c a_c) (thread_joined es a b h t h_t)) in
    let ends : OneBlock es c (c + 1) → ⊥ = λ o. z.ends (block_joined es a c (c + 1) z.one o) in
    let on_c = end_happens es happens a c b e are can at_a z.later z.one z.ends (omega (arith, c_h, h_low)) t on_a on_b in
    let serves = built.serves c h x g.0 (omega arith) c_to_h at_c g.1 g.2 in
    let middle = by_service m es fixed fences happens c h x g.0 serves on_c ends (λ role weak. not_kept m es a c b h e f x g.0 are z.later z.one h_low h_b at_a at_c g.1 at_b role weak kept) in
    let E : ℕ → ℕ → Type 0 = λ u v. IsThere fixed fences happens (edge Global u v) in
    let to_end : Way fixed fences happens Global a h = elim (cases_lt a c) [
      | inl lt ↦ joined E (way_from_fixed fixed fences happens Global a c (built.blocks a c (omega arith) lt z.one)) middle
      | inr ge ↦ let q : c ≡ a = omega (arith, z.later) in subst (λ (n : ℕ). Way fixed fences happens Global n h) q middle
    ] in
    elim (cases_lt h b) [
      | inl lt ↦ joined E to_end (way_from_fixed fixed fences happens Global h b (built.blocks h b (omega arith) lt h_b))
      | inr ge ↦ let q : h ≡ b = omega (arith, h_low) in subst (λ (n : ℕ). Way fixed fences happens Global a n) q to_end
    ]

kept_pair : (m : MemoryModel) (es : List StaticEvent) (fixed : List Edge) (fences : List FenceEdge) (happens : ℕ → Bool) (a b : ℕ) → AreStatic es → IsBuilt m es 0 fixed fences → IsPossible es happens → KeptPair m es happens a b → Way fixed fences happens Global a b
kept_pair m es fixed fences happens a b are built can (k, on_a, on_b) =
    let in_block : OneBlock es a b → Way fixed fences happens Global a b = λ o. way_from_fixed fixed fences happens Global a b (built.blocks a b (omega arith) k.before o) in
    elim k.kept [
      | inl kinds ↦ elim (block_or_not es a b k.first k.is_first.there) [
        | inl o ↦ in_block o
        | inr apart ↦ across m es fixed fences happens a b are built can on_a on_b k kinds apart
      ]
      | inr same ↦ in_block (record { first = k.first; second = k.second; is_first = k.is_first.there; is_second = k.is_second.there; same = same })
    ]

kept_is_way : (m : MemoryModel) (es : List StaticEvent) (fixed : List Edge) (fences : List FenceEdge) (happens : ℕ → Bool) (a b : ℕ) → AreStatic es → IsBuilt m es 0 fixed fences → IsPossible es happens → Path (KeptPair m es happens) a b → Way fixed fences happens Global a b
kept_is_way m es fixed fences happens a b are built can p =
    along (KeptPair m es happens) (λ x y. Way fixed fences happens Global x y) (λ x y k. kept_pair m es fixed fences happens x y are built can k)
    (λ x y z p q. joined (λ u v. IsThere fixed fences happens (edge Global u v)) p q) p

-- ---- the whole

few_edges : (m : MemoryModel) (events edges : ℕ) → AreFew m events edges → IsFew m events edges
few_edges Sc events edges h = omega (arith, h)
few_edges Tso events edges h = omega (arith, h)
few_edges Pso events edges h = tt

pub edges_are_exact : (m : MemoryModel) (es : List StaticEvent) (fixed : List Edge) (fences : List FenceEdge) → AreStatic es → IsBuilt m es 0 fixed fences → AreStaticEdges m es fixed fences
edges_are_exact m es fixed fences are built = record {
  exact = λ happens can. record {
    global = λ a b t on_a on_b. (λ way. ways_are_kept m es 0 fixed fences happens a b are built can on_a on_b way, λ p. kept_is_way m es fixed fences happens a b are built can p);
    local = λ a b t on_a on_b. (λ way. ways_are_on_one_cell m es 0 fixed fences happens a b built way, λ o. way_from_fixed fixed fences happens Local a b (built.cells a b (omega arith) o));
  };
  opens = λ o c n s low high. built.blocks o n (omega arith) low (block_front es o n c are s.one (omega arith) high);
  closes = λ o c n s low high. built.blocks n c (omega arith) high (block_within es o n c are s.one low (omega arith));
  fixed_on = λ e m. (built.good e m).0;
  fences_on = λ f m. let g = built.good_fences f m in (g.goes_on, g.guarded);
  few = few_edges m (length es) _ (built.few (length es) (omega arith));
}
