-- The candidate that a consistent assignment spells.
use Rattle.std.proofs.Common.{◌≡◌, ℕ, zero, suc, ◌+◌, ◌≤◌, ⊎_elim, Bool, true, false, cond, ◌&&◌, List, [], ◌∷◌, map, length, refl, ap, sym, ◌∙◌, subst, arith}
use Rattle.std.specs.Prelude.{Some, slice_get, Contains}
use Rattle.std.specs.List.{AllZip}
use Rattle.std.proofs.lemmas.Bool.{and_parts, false≢true}
use Rattle.std.proofs.lemmas.Option.{same_Some}
use Rattle.dg_base.specs.declared.Lit.{Lit}
use Rattle.dg_base.proofs.Lists.{get_nothing, contains_nothing, contains_head, contains_tail, contains_cases, contains_from_map, contains_place}
use Rattle.axiom_model.specs.declared.MemoryModel.{MemoryModel}
use Rattle.axiom_model.specs.declared.Event.{Event}
use Rattle.axiom_model.specs.declared.RfPair.{RfPair}
use Rattle.axiom_model.specs.declared.Candidate.{Candidate}
use Rattle.cnf_problem.specs.Literals.{value}
use Rattle.cnf_problem.specs.Problems.{IsConsistent}
use Rattle.cnf_problem.specs.declared.problem.Atom.{Atom}
use Rattle.flat_prog.specs.declared.Flat.{Flat}
use Rattle.memory_models.specs.declared.StaticEvent.{StaticEvent}
use Rattle.memory_models.specs.declared.StaticKind.{StaticKind}
use Rattle.memory_models.specs.declared.StaticKind.TheVariants as kind
use Rattle.memory_models.specs.Events.{IsAt}
use Rattle.encode_order.specs.Coherence.{WritesCell, HasOneInitial, InitialsHappen, OrdersEvents}
use Rattle.encode_order.specs.Sources.{ReadsCell}
use Rattle.encode_order.proofs.Cells.{ordered_writes}
use Rattle.encode_order.proofs.Reading.{has_source, is_source, one_source}
use Rattle.encode_match.specs.declared.Encoded.{Encoded}
use Rattle.encode_match.specs.Spelling.{IsEvent, event_by, IsCoOf, IsPairOf, is_read, reads_from, AreCosFrom, initials_in, threads_of, Spells}
use Rattle.encode_match.specs.Parts.{IsMadeOf, fence_atom, words_of, ending_clauses}
use Rattle.encode_match.specs.Matching.{GraphHolds}

-- ---- lists

-- what stands at a place of the first of two lists has its fellow in the second
pub zip_to : {A B : Type 0} (R : A → B → Type 0) (xs : List A) (ys : List B) (k : ℕ) (x : A) → AllZip R xs ys → slice_get xs k ≡ Some x → (y : B) × (slice_get ys k ≡ Some y) × R x y
zip_to R [] ys k x h e = absurd (get_nothing k x e)
zip_to R (z ∷ xs) [] k x h e = absurd h
zip_to R (z ∷ xs) (y ∷ ys) zero x h e = (y, refl, subst (λ w. R w y) (same_Some z x e) h.0)
zip_to R (z ∷ xs) (y ∷ ys) (suc k) x h e = zip_to R xs ys k x h.1 e

-- a fellow for each of a list
record Zipped {A B : Type 0} (R : A → B → Type 0) (xs : List A) : Type 0 where
  pub list : List B
  pub zipped : AllZip R xs list

zip_made : {A B : Type 0} (R : A → B → Type 0) (xs : List A) → ((a : A) → Contains xs a → (b : B) × R a b) → Zipped R xs
zip_made R [] f = record { list = []; zipped = tt }
zip_made R (x ∷ xs) f =
    let h = f x (contains_head x xs) in
    let t = zip_made R xs (λ a c. f a (contains_tail x a xs c)) in
    record { list = h.0 ∷ t.list; zipped = (h.1, t.zipped) }

-- ---- the reads that happen

read_kind : (k : StaticKind) → is_read k ≡ true → k ≡ kind.Read
read_kind kind.Read h = refl
read_kind kind.Initial h = absurd (false≢true h)
read_kind kind.Write h = absurd (false≢true h)
read_kind kind.Full h = absurd (false≢true h)
read_kind kind.Start h = absurd (false≢true h)
read_kind kind.End h = absurd (false≢true h)
read_kind kind.Join h = absurd (false≢true h)
read_kind (kind.Create i) h = absurd (false≢true h)

abbrev pub reads_now : List Bool → StaticEvent → Bool
reads_now s e = is_read e.kind && value s e.guard

-- a read that happens at this place
pub record ReadAt (s : List Bool) (es : List StaticEvent) (k : ℕ) : Type 0 where
  pub event : StaticEvent
  pub there : IsAt es k event
  pub reads : event.kind ≡ kind.Read
  pub happens : value s event.guard ≡ true

abbrev ReadFrom : List Bool → List StaticEvent → ℕ → ℕ → Type 0
ReadFrom s es n r = (k : ℕ) × (r ≡ n + k) × ReadAt s es k

one_read : (s : List Bool) (n : ℕ) (e : StaticEvent) (es : List StaticEvent) (r : ℕ) (rest : List ℕ) (b : Bool) → reads_now s e ≡ b → (Contains rest r → ReadFrom s es (n + 1) r) → Contains (cond b (n ∷ rest) rest) r → ReadFrom s (e ∷ es) n r
one_read s n e es r rest false h go c =
    let q = go c in
    let at = q.1 in
    (suc q.0, omega (arith, at), record { event = q.2.event; there = q.2.there; reads = q.2.reads; happens = q.2.happens })
one_read s n e es r rest true h go c =
    let parts = and_parts (is_read e.kind) (value s e.guard) h in
    ⊎_elim
    (λ same. (zero, omega (arith, same), record { event = e; there = refl; reads = read_kind e.kind parts.0; happens = parts.1 }))
    (λ later.
    let q = go later in
    let at = q.1 in
    (suc q.0, omega (arith, at), record { event = q.2.event; there = q.2.there; reads = q.2.reads; happens = q.2.happens }))
    (contains_cases n r rest c)

reads_in : (s : List Bool) (n : ℕ) (es : List StaticEvent) (r : ℕ) → Contains (reads_from s n es) r → ReadFrom s es n r
reads_in s n [] r c = absurd (contains_nothing r c)
reads_in s n (e ∷ es) r c = one_read s n e es r (reads_from s (n + 1) es) (reads_now s e) refl (reads_in s (n + 1) es r) c

-- what is listed is a read that happens
pub listed_read : (s : List Bool) (es : List StaticEvent) (r : ℕ) → Contains (reads_from s 0 es) r → ReadAt s es r
listed_read s es r c =
    let q = reads_in s 0 es r c in
    let at = q.1 in
    let same : q.0 ≡ r = omega (arith, at) in
    subst (ReadAt s es) same q.2

keep_read : (n r : ℕ) (rest : List ℕ) (b : Bool) → Contains rest r → Contains (cond b (n ∷ rest) rest) r
keep_read n r rest true c = contains_tail n r rest c
keep_read n r rest false c = c

reads_there : (s : List Bool) (n : ℕ) (es : List StaticEvent) (k : ℕ) (e : StaticEvent) → slice_get es k ≡ Some e → reads_now s e ≡ true → Contains (reads_from s n es) (n + k)
reads_there s n [] k e h t = absurd (get_nothing k e h)
reads_there s n (d ∷ es) zero e h t =
    let rest = reads_from s (n + 1) es in
    let same : n ≡ n + 0 = omega arith in
    subst (λ (b : Bool). Contains (cond b (n ∷ rest) rest) (n + 0)) (sym (ap (reads_now s) (same_Some d e h) ∙ t)) (subst (λ (z : ℕ). Contains (n ∷ rest) z) same (contains_head n rest))
reads_there s n (d ∷ es) (suc k) e h t =
    let rest = reads_from s (n + 1) es in
    let same : n + 1 + k ≡ n + suc k = omega arith in
    keep_read n (n + suc k) rest (reads_now s d) (subst (λ (z : ℕ). Contains rest z) same (reads_there s (n + 1) es k e h t))

-- and each read that happens is listed
pub read_listed : (s : List Bool) (es : List StaticEvent) (r : ℕ) (e : StaticEvent) → IsAt es r e → reads_now s e ≡ true → Contains (reads_from s 0 es) r
read_listed s es r e h t = let same : 0 + r ≡ r = omega arith in subst (λ (z : ℕ). Contains (reads_from s 0 es) z) same (reads_there s 0 es r e h t)

reads_low : (s : List Bool) (n : ℕ) (es : List StaticEvent) (i r : ℕ) → slice_get (reads_from s n es) i ≡ Some r → n ≤ r
reads_low s n es i r h = let q = reads_in s n es r (contains_place (reads_from s n es) i r h) in let at = q.1 in omega (arith, at)

once_more : (n r : ℕ) (rest : List ℕ) (b : Bool) (i j : ℕ) → ((k : ℕ) → slice_get rest k ≡ Some r → n + 1 ≤ r) → ((i j : ℕ) → slice_get rest i ≡ Some r → slice_get rest j ≡ Some r → i ≡ j)
    → slice_get (cond b (n ∷ rest) rest) i ≡ Some r → slice_get (cond b (n ∷ rest) rest) j ≡ Some r → i ≡ j
once_more n r rest false i j low go p q = go i j p q
once_more n r rest true zero zero low go p q = refl
once_more n r rest true zero (suc j) low go p q = let same = same_Some n r p in let more = low j q in absurd (omega (arith, same, more))
once_more n r rest true (suc i) zero low go p q = let same = same_Some n r q in let more = low i p in absurd (omega (arith, same, more))
once_more n r rest true (suc i) (suc j) low go p q = ap suc (go i j p q)

-- each once
pub reads_once : (s : List Bool) (n : ℕ) (es : List StaticEvent) (i j r : ℕ) → slice_get (reads_from s n es) i ≡ Some r → slice_get (reads_from s n es) j ≡ Some r → i ≡ j
reads_once s n [] i j r p q = absurd (get_nothing i r p)
reads_once s n (e ∷ es) i j r p q = once_more n r (reads_from s (n + 1) es) (reads_now s e) i j (λ k h. reads_low s (n + 1) es k r h) (λ k l c d. reads_once s (n + 1) es k l r c d) p q

-- ---- the candidate

-- the problem's order atoms and their clauses
abbrev pub orders_made : (m : MemoryModel) (flat : Flat) (x : Encoded) → IsMadeOf m flat x → OrdersEvents m x.map.graph.events (words_of x.map.graph.bits) x.problem
orders_made m flat x made = record {
  old = made.blasted;
  new = made.ordered;
  order_atoms = made.order_atoms;
  creates = made.create_edges;
  orders = made.orders;
  more = ending_clauses made.words made.form.parts;
  clauses = made.clauses;
  others = map fence_atom made.fences;
  atoms = made.atoms;
  others_plain = λ a c. ap (λ (z : Atom). z.kind) (contains_from_map fence_atom made.fences a c).2;
}

module _ (m : MemoryModel) (flat : Flat) (x : Encoded) (s : List Bool) (made : IsMadeOf m flat x) (g : GraphHolds m x s) (con : IsConsistent x.problem s) where
  abbrev es : List StaticEvent
  es = x.map.graph.events

  abbrev words : List (List Lit)
  words = words_of x.map.graph.bits

  pub order_events : OrdersEvents m es words x.problem
  order_events = orders_made m flat x made

  pub one_initial : HasOneInitial es
  one_initial c a b p q =
      sym (g.initials a p.event p.there p.same_kind).0 ∙ (p.same_cell ∙ (sym q.same_cell ∙ (g.initials b q.event q.there q.same_kind).0))

  pub initials_happen : InitialsHappen es s
  initials_happen n e h k = (g.initials n e h k).1

  -- ---- orders

  abbrev write_event : (c n : ℕ) → WritesCell es s c n → (e : Event) × IsEvent x s n e
  write_event c n w = (event_by x s n w.event, record { static = w.event; there = w.there; happens = w.happens; same = refl })

  co_at : (c : ℕ) → (l : List Event) × IsCoOf x s c l
  co_at c =
      let o = ordered_writes m es words x.problem s order_events con one_initial c in
      let z = zip_made (IsEvent x s) o.0 (λ n h. write_event c n (o.1.sound n h)) in
      (z.list, record { nodes = o.0; order = o.1; events = z.zipped })

  record CosFrom (c n : ℕ) : Type 0 where
    pub lists : List (List Event)
    pub count : length lists ≡ n
    pub are : AreCosFrom x s c lists

  cos_from : (c n : ℕ) → CosFrom c n
  cos_from c zero = record { lists = []; count = refl; are = tt }
  cos_from c (suc n) =
      let h = co_at c in
      let t = cos_from (c + 1) n in
      record { lists = h.0 ∷ t.lists; count = ap suc t.count; are = (h.1, t.are) }

  -- ---- sources

  pair_at : (r : ℕ) → Contains (reads_from s 0 es) r → (p : RfPair) × IsPairOf x s r p
  pair_at r c =
      let q = listed_read s es r c in
      let cell : ReadsCell es s q.event.cell r = record { event = q.event; there = q.there; happens = q.happens; reads = q.reads; same_cell = refl } in
      let w = has_source m es words x.problem s order_events con q.event.cell r cell in
      let k = is_source m es words x.problem s order_events con w.0 r w.1 in
      let e = write_event k.cell w.0 k.write in (
        record { reader = event_by x s r q.event; source = e.0 },
        record {
          write = w.0;
          is_reader = record { static = q.event; there = q.there; happens = q.happens; same = refl };
          is_source = e.1;
          source = record { is_true = w.1; first = λ v h n. absurd (n (one_source m es words x.problem s order_events con one_initial v w.0 r h w.1)) };
        },
      )

  -- the candidate that the assignment spells
  pub spelled_candidate : (c : Candidate) × Spells x s c
  spelled_candidate =
      let pairs = zip_made (IsPairOf x s) (reads_from s 0 es) pair_at in
      let cos = cos_from 0 (initials_in es) in (
        record { threads = threads_of x s; rf = pairs.list; co = cos.lists },
        record { threads = refl; rf = pairs.zipped; cells = cos.count; co = cos.are },
      )

-- ---- what is spelled

-- a cell's list
pub co_of : (x : Encoded) (s : List Bool) (c k : ℕ) (ls : List (List Event)) (l : List Event) → AreCosFrom x s c ls → slice_get ls k ≡ Some l → IsCoOf x s (c + k) l
co_of x s c k [] l h e = absurd (get_nothing k l e)
co_of x s c zero (d ∷ ls) l h e =
    let same : c ≡ c + 0 = omega arith in
    subst (λ (z : ℕ). IsCoOf x s z l) same (subst (IsCoOf x s c) (same_Some d l e) h.0)
co_of x s c (suc k) (d ∷ ls) l h e =
    let same : c + 1 + k ≡ c + suc k = omega arith in
    subst (λ (z : ℕ). IsCoOf x s z l) same (co_of x s (c + 1) k ls l h.1 e)

pub co_at_cell : (x : Encoded) (s : List Bool) (k : ℕ) (ls : List (List Event)) (l : List Event) → AreCosFrom x s 0 ls → slice_get ls k ≡ Some l → IsCoOf x s k l
co_at_cell x s k ls l h e = let same : 0 + k ≡ k = omega arith in subst (λ (z : ℕ). IsCoOf x s z l) same (co_of x s 0 k ls l h e)
