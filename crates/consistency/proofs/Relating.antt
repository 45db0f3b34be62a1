-- What the tests of related actions mean, and that each row may stop where it does.
use Rattle.std.proofs.Common.{◌≡◌, ℕ, ◌≤◌, Bool, true, false, ◌&&◌, Option, Some, None, refl, sym, ap, ◌∙◌, subst, ⊎_elim, arith}
use Rattle.std.specs.Prelude.{◌||◌, not, nat_eq, List}
use Rattle.std.proofs.lemmas.Bool.{and_parts, and_from, or_cases, not-true, eqb-true, eq-eqb, both_ways}
use Rattle.axiom_model.specs.declared.MemoryModel.{MemoryModel}
use Rattle.axiom_model.specs.declared.MemoryModel.TheVariants.{Sc, Tso, Pso}
use Rattle.axiom_model.specs.declared.Action.{Action}
use Rattle.axiom_model.specs.declared.Action.TheVariants.{Read, Write}
use Rattle.axiom_model.specs.Execution.{Execution, cell_of}
use Rattle.axiom_model.specs.Models.{keeps}
use Rattle.consistency.specs.declared.numbering.Node.{Node}
use Rattle.consistency.specs.declared.relations.Relation.{Relation}
use Rattle.consistency.specs.declared.relations.Relation.TheVariants.{Cell, Kept, Section, Across}
use Rattle.consistency.specs.Numbering.{Earlier, IsNumbering}
use Rattle.consistency.specs.Relations.{is_write, same_number}
use Rattle.consistency.proofs.Rowing.{Divides}

-- ---- one cell

pub same_number-some : (c d : Option ℕ) → same_number c d ≡ true → (n : ℕ) × (c ≡ Some n) × (d ≡ Some n)
same_number-some (Some c) (Some d) t = (c, refl, ap Some (sym (eqb-true c d t)))
same_number-some (Some c) None t = cc
same_number-some None d t = cc

pub some-same_number : (c d : Option ℕ) (n : ℕ) → c ≡ Some n → d ≡ Some n → same_number c d ≡ true
some-same_number c d n e f = subst (λ z. same_number z d ≡ true) (sym e) (subst (λ z. same_number (Some n) z ≡ true) (sym f) (eq-eqb n n refl))

same_number_sym : (c d : Option ℕ) → same_number c d ≡ true → same_number d c ≡ true
same_number_sym c d t = let s = same_number-some c d t in some-same_number d c s.0 s.2 s.1

same_number_trans : (c d e : Option ℕ) → same_number c d ≡ true → same_number d e ≡ true → same_number c e ≡ true
same_number_trans c d e t u =
    let s = same_number-some c d t in
    let q = same_number-some d e u in
    some-same_number c e s.0 s.1 (let f : Some q.0 ≡ Some s.0 = sym q.1 ∙ s.2 in q.2 ∙ f)

-- ---- what is kept behind an action that stops the row

write_keeps : (m : MemoryModel) (c v d w : ℕ) (r : Action) → keeps m (Write c v) r ≡ true → keeps m (Write d w) r ≡ true
write_keeps Sc c v d w r t = refl
write_keeps Tso c v d w (Read e u) t = cc
write_keeps Tso c v d w _ t = refl
write_keeps Pso c v d w (Read e u) t = cc
write_keeps Pso c v d w (Write e u) t = cc
write_keeps Pso c v d w _ t = refl

after_write : (m : MemoryModel) (p r : Action) (d w : ℕ) → is_write p ≡ true → keeps m p r ≡ true → keeps m (Write d w) r ≡ true
after_write m (Write c v) r d w i t = write_keeps m c v d w r t
after_write m _ r d w i t = cc

others_keep : (m : MemoryModel) (q r : Action) → is_write q ≡ false → keeps m q r ≡ true
others_keep Sc q r n = refl
others_keep Tso (Write c v) r n = cc
others_keep Tso _ r n = refl
others_keep Pso (Write c v) r n = cc
others_keep Pso _ r n = refl

kept_behind : (m : MemoryModel) (p q r : Action) → (not (is_write q) || is_write p) ≡ true → keeps m p r ≡ true → keeps m q r ≡ true
kept_behind m p (Write d w) r t k = after_write m p r d w t k
kept_behind m p _ r t k = others_keep m _ r refl

-- ---- rows may stop

between_threads : (v u w : Node) → Earlier v u → Earlier u w → v.handle ≡ w.handle → (v.handle ≡ u.handle) × (u.handle ≡ w.handle)
between_threads v u w a b e =
    ⊎_elim
    (λ l. ⊎_elim (λ m. absurd (omega arith)) (λ m. let k = m.0 in absurd (omega arith)) b)
    (λ l. (l.0, sym l.0 ∙ e))
    a

-- not (same) || rest, where they are the same
stops_same : (h k : ℕ) (b : Bool) → h ≡ k → (not (nat_eq h k) || b) ≡ true → b ≡ true
stops_same h k b e t =
    ⊎_elim (λ n. absurd (both_ways (nat_eq h k) (not-true (nat_eq h k) n) (eq-eqb h k e))) (λ b. b) (or_cases (not (nat_eq h k)) b t)

pub divides : (x : Execution) (vs : List Node) → IsNumbering x vs → (r : Relation) → Divides r vs
divides x vs s Cell i k j v u w l m a b c t p =
    let both = and_parts (nat_eq v.handle w.handle) (same_number (cell_of v.action) (cell_of w.action)) t in
    let h = between_threads v u w (s.rising i k v u l a b) (s.rising k j u w m b c) (eqb-true v.handle w.handle both.0) in
    let here = stops_same v.handle u.handle (same_number (cell_of v.action) (cell_of u.action)) h.0 p in (
      and_from (nat_eq v.handle u.handle) (same_number (cell_of v.action) (cell_of u.action)) (eq-eqb v.handle u.handle h.0) here,
      and_from (nat_eq u.handle w.handle) (same_number (cell_of u.action) (cell_of w.action)) (eq-eqb u.handle w.handle h.1) (same_number_trans (cell_of u.action) (cell_of v.action) (cell_of w.action) (same_number_sym (cell_of v.action) (cell_of u.action) here) both.1),
    )
divides x vs s (Kept g) i k j v u w l m a b c t p =
    let both = and_parts (nat_eq v.handle w.handle) (keeps g v.action w.action) t in
    let h = between_threads v u w (s.rising i k v u l a b) (s.rising k j u w m b c) (eqb-true v.handle w.handle both.0) in
    let here = stops_same v.handle u.handle (keeps g v.action u.action && (not (is_write u.action) || is_write v.action)) h.0 p in
    let parts = and_parts (keeps g v.action u.action) (not (is_write u.action) || is_write v.action) here in (
      and_from (nat_eq v.handle u.handle) (keeps g v.action u.action) (eq-eqb v.handle u.handle h.0) parts.0,
      and_from (nat_eq u.handle w.handle) (keeps g u.action w.action) (eq-eqb u.handle w.handle h.1) (kept_behind g v.action u.action w.action parts.1 both.1),
    )
divides x vs s Section i k j v u w l m a b c t p =
    let e : v.block ≡ w.block = eqb-true v.block w.block t in
    let f : v.block ≤ u.block = s.block_rises i k v u (omega arith) a b in
    let g : u.block ≤ w.block = s.block_rises k j u w (omega arith) b c in
    (eq-eqb v.block u.block (omega arith), eq-eqb u.block w.block (omega arith))
divides x vs s Across i k j v u w l m a b c t p = cc
