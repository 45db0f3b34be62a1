-- What lies ahead once an event was passed.
use Rattle.std.proofs.Common.{◌≡◌, ℕ, ◌+◌, ◌⊎◌, inl, inr, Bool, true, false, cond, List, [], ◌∷◌, ◌++◌, refl, ap, sym, ◌∙◌, subst, arith, nat_eq}
use Rattle.std.specs.Prelude.{Option, Some, None, Contains}
use Rattle.std.proofs.lemmas.Bool.{cases_lt, cases_Bool, eqb-true, eq-eqb, cond-true, cond-false}
use Rattle.std.proofs.lemmas.Option.{none-some, same_Some}
use Rattle.std.proofs.lemmas.List.Elements.{Contains-append_left, Contains-append_right, Contains-append_cases}
use Rattle.dg_base.proofs.Lists.{contains_head, contains_nothing}
use Rattle.axiom_model.specs.declared.MemoryModel.{MemoryModel}
use Rattle.axiom_model.specs.declared.MemoryModel.TheVariants.{Sc, Tso, Pso}
use Rattle.cnf_problem.specs.declared.problem.Graph.TheVariants.{Local, Global}
use Rattle.cnf_problem.specs.declared.problem.Edge.{Edge}
use Rattle.memory_models.specs.declared.StaticEvent.{StaticEvent}
use Rattle.memory_models.specs.declared.FenceEdge.{FenceEdge}
use Rattle.memory_models.specs.declared.StaticKind.{StaticKind}
use Rattle.memory_models.specs.declared.role.Role.{Role}
use Rattle.memory_models.specs.declared.role.Role.TheVariants.{Reader, Writer}
use Rattle.memory_models.specs.Events.{IsAt, IsOfThread, OneThread}
use Rattle.memory_models.specs.Keeping.{is_access, OnOneCell}
use Rattle.memory_models.specs.Roles.{role_of, role_of_kind, is_strong, is_reader, strong_from, weak_from, next_from}
use Rattle.memory_models.specs.Ahead.{Later, From, Reaches, IsStrong, IsBuilt, LiesAhead, FewWeak, IsAccess, AreNext}
use Rattle.memory_models.proofs.Ways.{reaches_more, contains_one}
use Rattle.memory_models.proofs.Blocks.{one_event, thread_joined, thread_turned}
use Rattle.memory_models.proofs.Fencing.{own_role, reader_is_weak, fence_is_strong}
use Rattle.memory_models.proofs.Stepping.{served_strong, served_read, role_cases}

-- ---- places

pub later_from : (es : List StaticEvent) (n b : ℕ) → Later es n b → From es n b
later_from es n b l = (omega (arith, l.0), l.1)

from_cases : (es : List StaticEvent) (n b : ℕ) → From es n b → (b ≡ n) ⊎ Later es n b
from_cases es n b f = elim (cases_lt n b) [ inl lt ↦ inr (lt, f.1) | inr ge ↦ inl (omega (arith, f.0)) ]

here : (es : List StaticEvent) (n : ℕ) (e : StaticEvent) → IsOfThread es n e → From es n n
here es n e at_n = (omega arith, record { first = e; second = e; is_first = at_n; is_second = at_n; same = refl })

pub ahead_along : (m : MemoryModel) (es : List StaticEvent) (fixed : List Edge) (P Q : ℕ → Type 0) (strong : Option ℕ) (weak : List ℕ) → ((b : ℕ) → P b → Q b) → ((b : ℕ) → Q b → P b) → LiesAhead m es fixed P strong weak → LiesAhead m es fixed Q strong weak
ahead_along m es fixed P Q strong weak to back a = record {
  strong_there = λ s q. let t = a.strong_there s q in (to s t.0, t.1);
  weak_there = λ w c. to w (a.weak_there w c);
  to_strong = λ b f q. a.to_strong b f (back b q);
  to_weak = λ b f q. a.to_weak b f (back b q);
  few = a.few;
}

pub next_along : (es : List StaticEvent) (fixed : List Edge) (P Q : ℕ → Type 0) (next : ℕ → Option ℕ) → ((b : ℕ) → P b → Q b) → ((b : ℕ) → Q b → P b) → AreNext es fixed P next → AreNext es fixed Q next
next_along es fixed P Q next to back a = record {
  there = λ c p q. let t = a.there c p q in (to p t.0, t.1);
  to_next = λ b c q. a.to_next b c (back b q);
}

-- from the next place of the same thread
pub from_is_later : (es : List StaticEvent) (n b : ℕ) → OneThread es n (n + 1) → From es (n + 1) b → Later es n b
from_is_later es n b t f = (omega (arith, f.0), thread_joined es n (n + 1) b t f.1)

pub later_is_from : (es : List StaticEvent) (n b : ℕ) → OneThread es n (n + 1) → Later es n b → From es (n + 1) b
later_is_from es n b t l = (omega (arith, l.0), thread_joined es (n + 1) n b (thread_turned es n (n + 1) t) l.1)

few_none : (m : MemoryModel) → FewWeak m []
few_none Sc = omega arith
few_none Tso = omega arith
few_none Pso = tt

-- nothing lies ahead where there is nothing
pub ahead_none : (m : MemoryModel) (es : List StaticEvent) (fixed : List Edge) (P : ℕ → Type 0) (strong : Option ℕ) (weak : List ℕ) → ((b : ℕ) → P b → ⊥) → strong ≡ None → weak ≡ [] → LiesAhead m es fixed P strong weak
ahead_none m es fixed P strong weak never s w = record {
  strong_there = λ x q. let bad = sym s ∙ q in absurd (none-some x bad);
  weak_there = λ x c. absurd (contains_nothing x (subst (λ (l : List ℕ). Contains l x) w c));
  to_strong = λ b f p. absurd (never b p);
  to_weak = λ b f p. absurd (never b p);
  few = subst (λ (l : List ℕ). FewWeak m l) (sym w) (few_none m);
}

pub next_none : (es : List StaticEvent) (fixed : List Edge) (P : ℕ → Type 0) (next : ℕ → Option ℕ) → ((b : ℕ) → P b → ⊥) → ((c : ℕ) → next c ≡ None) → AreNext es fixed P next
next_none es fixed P next never n = record {
  there = λ c p q. let bad = sym (n c) ∙ q in absurd (none-some p bad);
  to_next = λ b c p. absurd (never b p);
}

-- ---- blocks ahead

-- what lay ahead is still reached
pub ahead_more : (m : MemoryModel) (es : List StaticEvent) (fixed now : List Edge) (P : ℕ → Type 0) (strong : Option ℕ) (weak : List ℕ) → ((x : Edge) → Contains fixed x → Contains now x) → LiesAhead m es fixed P strong weak → LiesAhead m es now P strong weak
ahead_more m es fixed now P strong weak more a = record {
  strong_there = a.strong_there;
  weak_there = a.weak_there;
  to_strong = λ b f p at own high. let s = a.to_strong b f p at own high in (s.0, s.1, reaches_more fixed now Global s.0 b more s.2);
  to_weak = λ b f p at own low. let w = a.to_weak b f p at own low in (w.0, w.1, reaches_more fixed now Global w.0 b more w.2);
  few = a.few;
}

role_here : (m : MemoryModel) (es : List StaticEvent) (n b : ℕ) (e f : StaticEvent) → IsAt es n e → IsAt es b f → b ≡ n → is_strong m (role_of m b f) ≡ is_strong m (role_of m n e)
role_here m es n b e f at_n at_b q =
    let one : f ≡ e = one_event es n f e (subst (λ (k : ℕ). IsAt es k f) q at_b) at_n in
    ap (λ (k : ℕ). is_strong m (role_of m k f)) q ∙ ap (λ (x : StaticEvent). is_strong m (role_of m n x)) one

enter_strong : (m : MemoryModel) (es : List StaticEvent) (n : ℕ) (e : StaticEvent) (fixed : List Edge) (fences : List FenceEdge) (strong : Option ℕ) (weak : List ℕ) → IsOfThread es n e → is_strong m (role_of m n e) ≡ true → IsBuilt m es n fixed fences → LiesAhead m es fixed (Later es n) strong weak → LiesAhead m es fixed (From es n) (Some n) weak
enter_strong m es n e fixed fences strong weak at_n high built a = record {
  strong_there = λ s q.
      let one = same_Some n s q in
      subst (λ (k : ℕ). From es n k × IsStrong m es k) one (here es n e at_n, record { event = e; there = at_n.there; strong = high });
  weak_there = λ w c. later_from es n w (a.weak_there w c);
  to_strong = λ b f p at own up.
      elim (from_cases es n b p) [
        | inl q ↦ (n, refl, inl (sym q))
        | inr l ↦ (n, refl, inr (served_strong m es fixed fences n b e f (built.serves n b e f (omega arith) l at_n.there at own) up))
      ];
  to_weak = λ b f p at own low.
      elim (from_cases es n b p) [
        | inl q ↦ let same = role_here m es n b e f at_n.there at q in absurd (cc)
        | inr l ↦ a.to_weak b f l at own low
      ];
  few = a.few;
}

few_one : (m : MemoryModel) (n : ℕ) → FewWeak m (n ∷ [])
few_one Sc n = omega arith
few_one Tso n = omega arith
few_one Pso n = tt

enter_reader : (m : MemoryModel) (es : List StaticEvent) (n : ℕ) (e : StaticEvent) (fixed : List Edge) (fences : List FenceEdge) (strong : Option ℕ) (weak : List ℕ) → IsOfThread es n e → role_of m n e ≡ Reader → IsBuilt m es n fixed fences → LiesAhead m es fixed (Later es n) strong weak → LiesAhead m es fixed (From es n) strong (n ∷ [])
enter_reader m es n e fixed fences strong weak at_n reads built a = record {
  strong_there = λ s q. let t = a.strong_there s q in (later_from es n s t.0, t.1);
  weak_there = λ w c. subst (λ (k : ℕ). From es n k) (sym (contains_one n w c)) (here es n e at_n);
  to_strong = λ b f p at own up.
      elim (from_cases es n b p) [
        | inl q ↦
            let same = role_here m es n b e f at_n.there at q in
            let low : is_strong m (role_of m n e) ≡ false = ap (λ (r : Role). is_strong m r) reads ∙ reader_is_weak m in
            absurd (cc)
        | inr l ↦ a.to_strong b f l at own up
      ];
  to_weak = λ b f p at own low.
      elim (from_cases es n b p) [
        | inl q ↦ (n, contains_head n [], inl (sym q))
        | inr l ↦ (n, contains_head n [], inr (served_read m es fixed fences n b e f (built.serves n b e f (omega arith) l at_n.there at own) reads))
      ];
  few = few_one m n;
}

few_writer : (m : MemoryModel) (k : StaticKind) (ws : List ℕ) → role_of_kind m k ≡ Writer → is_strong m Writer ≡ false → FewWeak m ws
few_writer Sc k ws r s = absurd (cc)
few_writer Tso k ws r s = absurd (cc)
few_writer Pso k ws r s = tt

enter_writer : (m : MemoryModel) (es : List StaticEvent) (n : ℕ) (e : StaticEvent) (fixed : List Edge) (strong : Option ℕ) (weak : List ℕ) → IsOfThread es n e → role_of m n e ≡ Writer → is_strong m (role_of m n e) ≡ false → LiesAhead m es fixed (Later es n) strong weak → LiesAhead m es fixed (From es n) strong (weak ++ n ∷ [])
enter_writer m es n e fixed strong weak at_n writes low a = record {
  strong_there = λ s q. let t = a.strong_there s q in (later_from es n s t.0, t.1);
  weak_there = λ w c.
      elim (Contains-append_cases weak (n ∷ []) w c) [
        | inl old ↦ later_from es n w (a.weak_there w old)
        | inr new ↦ subst (λ (k : ℕ). From es n k) (sym (contains_one n w new)) (here es n e at_n)
      ];
  to_strong = λ b f p at own up.
      elim (from_cases es n b p) [
        | inl q ↦ let same = role_here m es n b e f at_n.there at q in absurd (cc)
        | inr l ↦ a.to_strong b f l at own up
      ];
  to_weak = λ b f p at own down.
      elim (from_cases es n b p) [
        | inl q ↦ (n, Contains-append_right weak (n ∷ []) n (contains_head n []), inl (sym q))
        | inr l ↦ let w = a.to_weak b f l at own down in (w.0, Contains-append_left weak (n ∷ []) w.0 w.1, w.2)
      ];
  few = few_writer m e.kind (weak ++ n ∷ []) (own_role m n e Writer writes (λ q. cc)).1 (sym (ap (λ (r : Role). is_strong m r) writes) ∙ low);
}

enter_inside : (m : MemoryModel) (es : List StaticEvent) (n : ℕ) (e : StaticEvent) (fixed : List Edge) (strong : Option ℕ) (weak : List ℕ) → IsOfThread es n e → (e.block ≡ n → ⊥) → LiesAhead m es fixed (Later es n) strong weak → LiesAhead m es fixed (From es n) strong weak
enter_inside m es n e fixed strong weak at_n other a =
    let begins : (b : ℕ) (f : StaticEvent) → IsAt es b f → f.block ≡ b → b ≡ n → ⊥ = λ b f at own q.
    let one : f ≡ e = one_event es n f e (subst (λ (k : ℕ). IsAt es k f) q at) at_n.there in
    other (ap (λ (x : StaticEvent). x.block) (sym one) ∙ (own ∙ q)) in
    record {
      strong_there = λ s q. let t = a.strong_there s q in (later_from es n s t.0, t.1);
      weak_there = λ w c. later_from es n w (a.weak_there w c);
      to_strong = λ b f p at own up. elim (from_cases es n b p) [ inl q ↦ absurd (begins b f at own q) | inr l ↦ a.to_strong b f l at own up ];
      to_weak = λ b f p at own low. elim (from_cases es n b p) [ inl q ↦ absurd (begins b f at own q) | inr l ↦ a.to_weak b f l at own low ];
      few = a.few;
    }

-- as the code chooses
entered : (m : MemoryModel) (es : List StaticEvent) (n : ℕ) (e : StaticEvent) (fixed : List Edge) (fences : List FenceEdge) (strong : Option ℕ) (weak : List ℕ) (own high reads : Bool) → nat_eq e.block n ≡ own → is_strong m (role_of m n e) ≡ high → is_reader (role_of m n e) ≡ reads → IsOfThread es n e → IsBuilt m es n fixed fences → LiesAhead m es fixed (Later es n) strong weak
    → LiesAhead m es fixed (From es n) (cond own (cond high (Some n) strong) strong) (cond own (cond high weak (cond reads (n ∷ []) (weak ++ n ∷ []))) weak)
entered m es n e fixed fences strong weak false high reads o h r at_n built a = enter_inside m es n e fixed strong weak at_n (λ q. let t = eq-eqb e.block n q in absurd (cc)) a
entered m es n e fixed fences strong weak true true reads o h r at_n built a = enter_strong m es n e fixed fences strong weak at_n h built a
entered m es n e fixed fences strong weak true false true o h r at_n built a =
    enter_reader m es n e fixed fences strong weak at_n
    (elim (role_cases (role_of m n e)) [
      | inl reader ↦ reader
      | inr other ↦ elim other [
        | inl writer ↦ let bad = sym (ap (λ (x : Role). is_reader x) writer) ∙ r in absurd (cc)
        | inr fence ↦ let bad = sym (ap (λ (x : Role). is_reader x) fence) ∙ r in absurd (cc)
      ]
    ]) built a
entered m es n e fixed fences strong weak true false false o h r at_n built a =
    enter_writer m es n e fixed strong weak at_n
    (elim (role_cases (role_of m n e)) [
      | inl reader ↦ let bad = sym (ap (λ (x : Role). is_reader x) reader) ∙ r in absurd (cc)
      | inr other ↦ elim other [
        | inl writer ↦ writer
        | inr fence ↦ let bad = sym (ap (λ (x : Role). is_strong m x) fence ∙ fence_is_strong m) ∙ h in absurd (cc)
      ]
    ]) h a

pub ahead_step : (m : MemoryModel) (es : List StaticEvent) (n : ℕ) (e : StaticEvent) (fixed now : List Edge) (fences : List FenceEdge) (strong : Option ℕ) (weak : List ℕ) → IsOfThread es n e → ((x : Edge) → Contains fixed x → Contains now x) → IsBuilt m es n now fences → LiesAhead m es fixed (Later es n) strong weak → LiesAhead m es now (From es n) (strong_from m n e strong) (weak_from m n e weak)
ahead_step m es n e fixed now fences strong weak at_n more built a =
    entered m es n e now fences strong weak (nat_eq e.block n) (is_strong m (role_of m n e)) (is_reader (role_of m n e)) refl refl refl at_n built (ahead_more m es fixed now (Later es n) strong weak more a)

-- ---- accesses ahead

pub next_more : (es : List StaticEvent) (fixed now : List Edge) (P : ℕ → Type 0) (next : ℕ → Option ℕ) → ((x : Edge) → Contains fixed x → Contains now x) → AreNext es fixed P next → AreNext es now P next
next_more es fixed now P next more a = record {
  there = a.there;
  to_next = λ b c p access. let t = a.to_next b c p access in (t.0, t.1, reaches_more fixed now Local t.0 b more t.2);
}

pub cell_way : (es : List StaticEvent) (n b c : ℕ) (e : StaticEvent) → IsAt es n e → is_access e.kind ≡ true → e.cell ≡ c → Later es n b → IsAccess es b c → OnOneCell es n b
cell_way es n b c e at_n accesses cell l access =
    let one = one_event es n l.1.first e l.1.is_first.there at_n in
    let two = one_event es b l.1.second access.event l.1.is_second.there access.there in
    record {
      first = e;
      second = access.event;
      is_first = at_n;
      is_second = access.there;
      same = ap (λ (x : StaticEvent). x.instance) (sym one) ∙ (l.1.same ∙ ap (λ (x : StaticEvent). x.instance) two);
      before = l.0;
      accesses = (accesses, access.accesses);
      same_cell = cell ∙ sym access.cell_is;
    }

access_cell : (es : List StaticEvent) (n c : ℕ) (e : StaticEvent) → IsAt es n e → IsAccess es n c → (is_access e.kind ≡ true) × (e.cell ≡ c)
access_cell es n c e at_n a =
    let one = one_event es n a.event e a.there at_n in
    (ap (λ (x : StaticEvent). is_access x.kind) (sym one) ∙ a.accesses, ap (λ (x : StaticEvent). x.cell) (sym one) ∙ a.cell_is)

next_there : (es : List StaticEvent) (n c p : ℕ) (e : StaticEvent) (next : ℕ → Option ℕ) (accesses same : Bool) → is_access e.kind ≡ accesses → nat_eq e.cell c ≡ same → IsOfThread es n e → (next c ≡ Some p → Later es n p × IsAccess es p c) → cond accesses (cond same (Some n) (next c)) (next c) ≡ Some p → From es n p × IsAccess es p c
next_there es n c p e next false same a s at_n old q = let t = old q in (later_from es n p t.0, t.1)
next_there es n c p e next true false a s at_n old q = let t = old q in (later_from es n p t.0, t.1)
next_there es n c p e next true true a s at_n old q =
    subst (λ (k : ℕ). From es n k × IsAccess es k c) (same_Some n p q) (here es n e at_n, record { event = e; there = at_n.there; accesses = a; cell_is = eqb-true e.cell c s })

next_reached : (m : MemoryModel) (es : List StaticEvent) (n b c : ℕ) (e : StaticEvent) (fixed : List Edge) (fences : List FenceEdge) (next : ℕ → Option ℕ) (accesses same : Bool) → is_access e.kind ≡ accesses → nat_eq e.cell c ≡ same → IsOfThread es n e → IsBuilt m es n fixed fences → (Later es n b → (p : ℕ) × (next c ≡ Some p) × Reaches fixed Local p b) → From es n b → IsAccess es b c
    → (p : ℕ) × (cond accesses (cond same (Some n) (next c)) (next c) ≡ Some p) × Reaches fixed Local p b
next_reached m es n b c e fixed fences next accesses same a s at_n built old f access =
    elim (from_cases es n b f) [
      | inl q ↦
          let cell = access_cell es n c e at_n.there (subst (λ (k : ℕ). IsAccess es k c) q access) in
          let on : accesses ≡ true = sym a ∙ cell.0 in
          let eq : same ≡ true = sym s ∙ eq-eqb e.cell c cell.1 in
          (n, cond-true accesses (cond same (Some n) (next c)) (next c) on ∙ cond-true same (Some n) (next c) eq, inl (sym q))
      | inr l ↦
          elim (cases_Bool accesses) [
            | inl on ↦ elim (cases_Bool same) [
              | inl eq ↦
                  (n, cond-true accesses (cond same (Some n) (next c)) (next c) on ∙ cond-true same (Some n) (next c) eq, inr (built.cells n b (omega arith) (cell_way es n b c e at_n.there (a ∙ on) (eqb-true e.cell c (s ∙ eq)) l access)))
              | inr ne ↦
                  let t = old l in
                  (t.0, cond-true accesses (cond same (Some n) (next c)) (next c) on ∙ (cond-false same (Some n) (next c) ne ∙ t.1), t.2)
            ]
            | inr off ↦ let t = old l in (t.0, cond-false accesses (cond same (Some n) (next c)) (next c) off ∙ t.1, t.2)
          ]
    ]

pub next_step : (m : MemoryModel) (es : List StaticEvent) (n : ℕ) (e : StaticEvent) (fixed now : List Edge) (fences : List FenceEdge) (next : ℕ → Option ℕ) → IsOfThread es n e → ((x : Edge) → Contains fixed x → Contains now x) → IsBuilt m es n now fences → AreNext es fixed (Later es n) next → AreNext es now (From es n) (next_from n e next)
next_step m es n e fixed now fences next at_n more built a =
    let b_next = next_more es fixed now (Later es n) next more a in
    record {
      there = λ c p q. next_there es n c p e next (is_access e.kind) (nat_eq e.cell c) refl refl at_n (a.there c p) q;
      to_next = λ b c f access. next_reached m es n b c e now fences next (is_access e.kind) (nat_eq e.cell c) refl refl at_n built (λ l. b_next.to_next b c l access) f access;
    }
