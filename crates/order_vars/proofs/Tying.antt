-- How two events are tied, and which pairs there are from one to the other.
use Rattle.std.proofs.Common.{◌≡◌, ℕ, ◌<◌, Bool, true, false, nat_eq, List, [], ◌∷◌, refl, ap, sym, ◌∙◌, subst}
use Rattle.std.proofs.lemmas.Bool.{eq-eqb, eqb-true}
use Rattle.dg_base.specs.declared.Lit.{Lit}
use Rattle.dg_base.proofs.Lists.{contains_head, one_answer}
use Rattle.memory_models.specs.declared.StaticEvent.{StaticEvent}
use Rattle.memory_models.specs.declared.StaticKind.{StaticKind}
use Rattle.memory_models.specs.declared.StaticKind.TheVariants as kind
use Rattle.memory_models.specs.Events.{IsAt}
use Rattle.order_vars.specs.declared.tie.Tie.{Tie}
use Rattle.order_vars.specs.declared.tie.Tie.TheVariants as tie
use Rattle.order_vars.specs.Links.{reading, beginning, rivalry, joining, is_write, IsWriteOf, IsKindOf, IsKind, MayRead, MayBegin, AreRivals, MayJoin}
use Rattle.order_vars.specs.Ties.{source_tie, order_tie, wait_tie, kinds_tie, tie_of}
use Rattle.order_vars.specs.Growing.{HasLinksAt}

-- ---- kinds

-- what a tie says of the kinds of its events, of whether their cells are one, and of whether the first is the earlier one
abbrev KindsFor : Tie → StaticKind → Bool → StaticKind → Bool → Type 0
KindsFor tie.Apart a same b earlier = Unit {0}
KindsFor tie.Source a same b earlier = (is_write a ≡ true) × (same ≡ true) × (b ≡ kind.Read)
KindsFor tie.Initial a same b earlier = (a ≡ kind.Initial) × (same ≡ true) × (b ≡ kind.Write)
KindsFor tie.Rival a same b earlier = (a ≡ kind.Write) × (same ≡ true) × (b ≡ kind.Write) × (earlier ≡ true)
KindsFor tie.End a same b earlier = (a ≡ kind.End) × (b ≡ kind.Join)

kinds_for : (a : StaticKind) (same : Bool) (b : StaticKind) (earlier : Bool) → KindsFor (kinds_tie a same b earlier) a same b earlier
kinds_for kind.Initial true kind.Read earlier = (refl, refl, refl)
kinds_for kind.Write true kind.Read earlier = (refl, refl, refl)
kinds_for _ true kind.Read earlier = tt
kinds_for a false kind.Read earlier = tt
kinds_for kind.Initial true kind.Write earlier = (refl, refl, refl)
kinds_for kind.Write true kind.Write true = (refl, refl, refl, refl)
kinds_for kind.Write true kind.Write false = tt
kinds_for _ true kind.Write earlier = tt
kinds_for a false kind.Write earlier = tt
kinds_for kind.End same kind.Join earlier = (refl, refl)
kinds_for _ same kind.Join earlier = tt
kinds_for a same _ earlier = tt

tied_kinds : (a b : StaticEvent) (earlier : Bool) (t : Tie) → tie_of a b earlier ≡ t → KindsFor t a.kind (nat_eq a.cell b.cell) b.kind earlier
tied_kinds a b earlier t e = subst (λ z. KindsFor z a.kind (nat_eq a.cell b.cell) b.kind earlier) e (kinds_for a.kind (nat_eq a.cell b.cell) b.kind earlier)

-- a write is a source
source_write : (a : StaticKind) → is_write a ≡ true → source_tie a ≡ tie.Source
source_write kind.Initial h = refl
source_write kind.Write h = refl
source_write _ h = absurd (cc)

-- ---- events

-- one place, one kind
one_kind : (es : List StaticEvent) (n : ℕ) (e f : StaticEvent) (k l : StaticKind) → IsAt es n e → IsAt es n f → e.kind ≡ k → f.kind ≡ l → k ≡ l
one_kind es n e f k l at there ek fl = sym ek ∙ ap (λ (x : StaticEvent). x.kind) (one_answer _ e f at there) ∙ fl

write_at : (es : List StaticEvent) (n c : ℕ) (e : StaticEvent) → IsAt es n e → IsWriteOf es c n → (is_write e.kind ≡ true) × (e.cell ≡ c)
write_at es n c e at w =
    let same : w.event ≡ e = one_answer _ w.event e w.there at in
    (subst (λ (x : StaticEvent). is_write x.kind ≡ true) same w.writes, subst (λ (x : StaticEvent). x.cell ≡ c) same w.same_cell)

kind_at : (es : List StaticEvent) (n c : ℕ) (k : StaticKind) (e : StaticEvent) → IsAt es n e → IsKindOf es k c n → (e.kind ≡ k) × (e.cell ≡ c)
kind_at es n c k e at w =
    let same : w.event ≡ e = one_answer _ w.event e w.there at in
    (subst (λ (x : StaticEvent). x.kind ≡ k) same w.same_kind, subst (λ (x : StaticEvent). x.cell ≡ c) same w.same_cell)

-- ---- from a tie to its pair

pub tied_source : (es : List StaticEvent) (a b : StaticEvent) (k n : ℕ) (earlier : Bool) → IsAt es k a → IsAt es n b → tie_of a b earlier ≡ tie.Source → MayRead es k n
tied_source es a b k n earlier at to e =
    let r : KindsFor tie.Source a.kind (nat_eq a.cell b.cell) b.kind earlier = tied_kinds a b earlier tie.Source e in (
      b.cell,
      record { event = a; there = at; writes = r.0; same_cell = eqb-true a.cell b.cell r.1 },
      record { event = b; there = to; same_kind = r.2; same_cell = refl },
    )

pub tied_initial : (es : List StaticEvent) (a b : StaticEvent) (k n : ℕ) (earlier : Bool) → IsAt es k a → IsAt es n b → tie_of a b earlier ≡ tie.Initial → MayBegin es k n
tied_initial es a b k n earlier at to e =
    let r : KindsFor tie.Initial a.kind (nat_eq a.cell b.cell) b.kind earlier = tied_kinds a b earlier tie.Initial e in (
      b.cell,
      record { event = a; there = at; same_kind = r.0; same_cell = eqb-true a.cell b.cell r.1 },
      record { event = b; there = to; same_kind = r.2; same_cell = refl },
    )

pub tied_rival : (es : List StaticEvent) (a b : StaticEvent) (k n : ℕ) (earlier : Bool) → IsAt es k a → IsAt es n b → (earlier ≡ true → k < n) → tie_of a b earlier ≡ tie.Rival → AreRivals es k n
tied_rival es a b k n earlier at to before e =
    let r : KindsFor tie.Rival a.kind (nat_eq a.cell b.cell) b.kind earlier = tied_kinds a b earlier tie.Rival e in (
      b.cell,
      record { event = a; there = at; same_kind = r.0; same_cell = eqb-true a.cell b.cell r.1 },
      record { event = b; there = to; same_kind = r.2; same_cell = refl },
      before r.3,
    )

pub tied_end : (es : List StaticEvent) (a b : StaticEvent) (k n : ℕ) (earlier : Bool) → IsAt es k a → IsAt es n b → tie_of a b earlier ≡ tie.End → MayJoin es k n
tied_end es a b k n earlier at to e =
    let r : KindsFor tie.End a.kind (nat_eq a.cell b.cell) b.kind earlier = tied_kinds a b earlier tie.End e in (
      record { event = a; there = at; same_kind = r.0 },
      record { event = b; there = to; same_kind = r.1 },
    )

-- ---- from a pair to its tie

-- events of one cell, the second of which is a read or a write
one_cell : (a b : StaticEvent) (earlier : Bool) (k : StaticKind) (c : ℕ) (t : Tie) → a.cell ≡ c → (b.kind ≡ k) × (b.cell ≡ c) → kinds_tie a.kind true k earlier ≡ t → tie_of a b earlier ≡ t
one_cell a b earlier k c t cell to h =
    let same : nat_eq a.cell b.cell ≡ true = eq-eqb a.cell b.cell (cell ∙ sym to.1) in
    subst (λ z. kinds_tie a.kind z b.kind earlier ≡ t) (sym same) (subst (λ z. kinds_tie a.kind true z earlier ≡ t) (sym to.0) h)

source_tied : (es : List StaticEvent) (a b : StaticEvent) (k n : ℕ) (earlier : Bool) → IsAt es k a → IsAt es n b → MayRead es k n → tie_of a b earlier ≡ tie.Source
source_tied es a b k n earlier at to (c, w, r) =
    let from = write_at es k c a at w in
    one_cell a b earlier kind.Read c tie.Source from.1 (kind_at es n c kind.Read b to r) (source_write a.kind from.0)

initial_tied : (es : List StaticEvent) (a b : StaticEvent) (k n : ℕ) (earlier : Bool) → IsAt es k a → IsAt es n b → MayBegin es k n → tie_of a b earlier ≡ tie.Initial
initial_tied es a b k n earlier at to (c, i, w) =
    let from = kind_at es k c kind.Initial a at i in
    one_cell a b earlier kind.Write c tie.Initial from.1 (kind_at es n c kind.Write b to w) (ap (λ z. order_tie z earlier) from.0)

rival_tied : (es : List StaticEvent) (a b : StaticEvent) (k n : ℕ) (earlier : Bool) → IsAt es k a → IsAt es n b → (k < n → earlier ≡ true) → AreRivals es k n → tie_of a b earlier ≡ tie.Rival
rival_tied es a b k n earlier at to before (c, w, v, below) =
    let from = kind_at es k c kind.Write a at w in
    one_cell a b earlier kind.Write c tie.Rival from.1 (kind_at es n c kind.Write b to v)
    (ap (λ z. order_tie z earlier) from.0 ∙ ap (λ z. order_tie kind.Write z) (before below))

end_tied : (es : List StaticEvent) (a b : StaticEvent) (k n : ℕ) (earlier : Bool) → IsAt es k a → IsAt es n b → MayJoin es k n → tie_of a b earlier ≡ tie.End
end_tied es a b k n earlier at to (e, j) =
    let from : a.kind ≡ kind.End = one_kind es k a e.event a.kind kind.End at e.there refl e.same_kind in
    let into : b.kind ≡ kind.Join = one_kind es n b j.event b.kind kind.Join to j.there refl j.same_kind in
    subst (λ z. kinds_tie a.kind (nat_eq a.cell b.cell) z earlier ≡ tie.End) (sym into) (ap wait_tie from)

pub tied_apart : (es : List StaticEvent) (a b : StaticEvent) (k n : ℕ) (earlier : Bool) → IsAt es k a → IsAt es n b → (k < n → earlier ≡ true) → tie_of a b earlier ≡ tie.Apart → HasLinksAt es [] k n
tied_apart es a b k n earlier at to before e = record {
  reads = λ may. absurd (let other = source_tied es a b k n earlier at to may in cc);
  begins = λ may. absurd (let other = initial_tied es a b k n earlier at to may in cc);
  rivals = λ may. absurd (let other = rival_tied es a b k n earlier at to before may in cc);
  joins = λ may. absurd (let other = end_tied es a b k n earlier at to may in cc);
}

-- ---- a pair's link is its only one

-- a place is of no two kinds
read_not_write : (es : List StaticEvent) (c d n : ℕ) → IsKindOf es kind.Read c n → IsKindOf es kind.Write d n → ⊥
read_not_write es c d n r w = let same = one_kind es n r.event w.event kind.Read kind.Write r.there w.there r.same_kind w.same_kind in cc

initial_not_write : (es : List StaticEvent) (c d n : ℕ) → IsKindOf es kind.Initial c n → IsKindOf es kind.Write d n → ⊥
initial_not_write es c d n i w = let same = one_kind es n i.event w.event kind.Initial kind.Write i.there w.there i.same_kind w.same_kind in cc

read_not_join : (es : List StaticEvent) (c n : ℕ) → IsKindOf es kind.Read c n → IsKind es kind.Join n → ⊥
read_not_join es c n r j = let same = one_kind es n r.event j.event kind.Read kind.Join r.there j.there r.same_kind j.same_kind in cc

write_not_join : (es : List StaticEvent) (c n : ℕ) → IsKindOf es kind.Write c n → IsKind es kind.Join n → ⊥
write_not_join es c n w j = let same = one_kind es n w.event j.event kind.Write kind.Join w.there j.there w.same_kind j.same_kind in cc

pub reads_alone : (es : List StaticEvent) (k n : ℕ) (l : Lit) → MayRead es k n → HasLinksAt es (reading k n l ∷ []) k n
reads_alone es k n l (c, w, r) = record {
  reads = λ may. (l, contains_head (reading k n l) []);
  begins = λ may. absurd (read_not_write es c may.0 n r may.2);
  rivals = λ may. absurd (read_not_write es c may.0 n r may.2);
  joins = λ may. absurd (read_not_join es c n r may.1);
}

pub begins_alone : (es : List StaticEvent) (k n : ℕ) (l : Lit) → MayBegin es k n → HasLinksAt es (beginning k n l ∷ []) k n
begins_alone es k n l (c, i, w) = record {
  reads = λ may. absurd (read_not_write es may.0 c n may.2 w);
  begins = λ may. (l, contains_head (beginning k n l) []);
  rivals = λ may. absurd (initial_not_write es c may.0 k i may.1);
  joins = λ may. absurd (write_not_join es c n w may.1);
}

pub rivals_alone : (es : List StaticEvent) (k n : ℕ) (l back : Lit) → AreRivals es k n → HasLinksAt es (rivalry k n l back ∷ []) k n
rivals_alone es k n l back (c, w, v, below) = record {
  reads = λ may. absurd (read_not_write es may.0 c n may.2 v);
  begins = λ may. absurd (initial_not_write es may.0 c k may.1 w);
  rivals = λ may. (l, back, contains_head (rivalry k n l back) []);
  joins = λ may. absurd (write_not_join es c n v may.1);
}

pub joins_alone : (es : List StaticEvent) (k n : ℕ) (l : Lit) → MayJoin es k n → HasLinksAt es (joining k n l ∷ []) k n
joins_alone es k n l (e, j) = record {
  reads = λ may. absurd (read_not_join es may.0 n may.2 j);
  begins = λ may. absurd (write_not_join es may.0 n may.2 j);
  rivals = λ may. absurd (write_not_join es may.0 n may.2 j);
  joins = λ may. (l, contains_head (joining k n l) []);
}
