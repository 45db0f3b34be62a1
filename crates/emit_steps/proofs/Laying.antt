-- Steps laid one behind the other, and what that means for their runs: sections are kept, numbers are in range, creates in turn.
use Rattle.std.proofs.Common.{◌≡◌, ℕ, ◌+◌, ◌<◌, ◌≤◌, ◌⊎◌, inl, inr, List, [], ◌∷◌, ◌++◌, get_or, Bool, true, false, refl, sym, ap, subst, arith}
use Rattle.std.specs.Prelude.{All}
use Rattle.flat_prog.specs.declared.FlatStep.{FlatStep}
use Rattle.flat_prog.specs.declared.FlatAct.{FlatAct}
use Rattle.flat_prog.specs.declared.FlatAct.TheVariants.{Set, Put, Take, Read, Write, Open, Close, Fence, Create, Join, End, Stop, Bad, Fail}
use Rattle.flat_prog.specs.Sections.{Mark, Opens, Closes, Acts, Silent, AreInTurn}
use Rattle.flat_prog.specs.Shape.{ActFits, StepFits, created_by, created_in, mark_of, marks_of}
use Rattle.emit_steps.specs.declared.state.Number.{Number}
use Rattle.emit_steps.specs.Emitting.{none}
use Rattle.emit_steps.proofs.Growth.{Each, each_append, each_map, Plain, Above, plain_above}

-- ---- sites

-- a stretch of steps: the guard under which it stands, and the first local that was not used before it
abbrev pub Stretch : Type 0
Stretch = ℕ × ℕ

-- no section is open; or one is, by its stretch. The stretches in which the step stands
pub data Site : Type 0 where
  Out : List Stretch → Site
  In : ℕ → ℕ → List Stretch → Site

abbrev pub stretches : Site → List Stretch
stretches (Out rs) = rs
stretches (In g k rs) = rs

abbrev pub Has : List Stretch → ℕ → ℕ → Type 0
Has [] g k = ⊥
Has (p ∷ rs) g k = ((p.0 ≡ g) × (p.1 ≡ k)) ⊎ Has rs g k

-- a guard of a step in a stretch: the stretch's, the local that holds 0, or one that is new since
abbrev pub InGuard : List Number → ℕ → ℕ → ℕ → Type 0
InGuard ns g k h = (h ≡ g) ⊎ ((h ≡ none) ⊎ ((k ≤ h) × Plain ns h))

abbrev pub InAll : List Number → List Stretch → ℕ → Type 0
InAll ns rs h = Each (λ (p : Stretch). InGuard ns p.0 p.1 h) rs

-- the local is the guard of no stretch
abbrev pub NotAny : List Stretch → ℕ → Type 0
NotAny rs l = Each (λ (p : Stretch). l ≡ p.0 → ⊥) rs

-- the locals that an act writes
abbrev pub Writes : FlatAct → (ℕ → Type 0) → Type 0
Writes (Set to o args) P = P to
Writes (Put to v) P = P to
Writes (Take to) P = P to
Writes (Read c to) P = P to
Writes _ P = Unit {0}

abbrev pub NotOpen : Site → ℕ → Type 0
NotOpen s l = NotAny (stretches s) l

abbrev pub GuardAt : List Number → Site → ℕ → Type 0
GuardAt ns s h = InAll ns (stretches s) h

-- how a step changes the site, by its mark and its guard
abbrev pub Moves : Site → Mark → ℕ → Site → Type 0
Moves (Out rs) Opens h r = (k : ℕ) × Has rs h k × (r ≡ In h k rs)
Moves (Out rs) Closes h r = ⊥
Moves (Out rs) Acts h r = r ≡ Out rs
Moves (Out rs) Silent h r = r ≡ Out rs
Moves (In g k rs) Opens h r = ⊥
Moves (In g k rs) Closes h r = (h ≡ g) × (r ≡ Out rs)
Moves (In g k rs) Acts h r = r ≡ In g k rs
Moves (In g k rs) Silent h r = r ≡ In g k rs

-- where no section is open, stretches end and new ones begin
abbrev pub Shift : ℕ → Site → Site → Type 0
Shift n (Out rs) (Out qs) = Each (λ (p : Stretch). Has rs p.0 p.1 ⊎ (n ≤ p.1)) qs
Shift n (Out rs) (In g k qs) = ⊥
Shift n (In g k rs) r = In g k rs ≡ r

-- the number of the next instance, before and behind
abbrev pub Counts : ℕ → FlatAct → ℕ → Type 0
Counts i (Create j h a) r = (j ≡ i) × (r ≡ i + 1)
Counts i _ r = r ≡ i

pub record Allowed (cells : ℕ) (ns : List Number) (n i : ℕ) (s : Site) (t : FlatStep) (j : ℕ) (r : Site) : Type 0 where
  pub fits : StepFits n cells t
  pub high : Writes t.act (λ to. 4 ≤ to)
  pub guard : GuardAt ns s t.guard
  pub apart : Writes t.act (NotOpen s)
  pub moves : Moves s (mark_of t.act) t.guard r
  pub counts : Counts i t.act j

-- where n locals are used, i instances are named and the site is s, these steps are laid; behind them m, j and r
abbrev pub Lays : ℕ → List Number → ℕ → ℕ → Site → List FlatStep → ℕ → ℕ → Site → Type 0
Lays cells ns n i s [] m j r = (n ≤ m) × (i ≡ j) × Shift n s r
Lays cells ns n i s (t ∷ ts) m j r = (l : ℕ) × (c : ℕ) × (p : Site) × (n ≤ l) × (q : Site) × Shift n s q × Allowed cells ns l i q t c p × Lays cells ns l c p ts m j r

pub lays_level : (cells : ℕ) (ns : List Number) (n i : ℕ) (s : Site) (ts : List FlatStep) (m j : ℕ) (r : Site) → Lays cells ns n i s ts m j r → n ≤ m
lays_level cells ns n i s [] m j r h = h.0
lays_level cells ns n i s (t ∷ ts) m j r h = let rest : h.0 ≤ m = lays_level cells ns h.0 h.1 h.2 ts m j r h.7 in omega (arith, h.3)

-- ---- stretches that end and begin

pub each_has : (rs : List Stretch) (P : ℕ → ℕ → Type 0) → Each (λ (p : Stretch). P p.0 p.1) rs → (g k : ℕ) → Has rs g k → P g k
each_has [] P h g k x = absurd x
each_has (p ∷ rs) P h g k (inl same) = subst (λ x. P x k) same.0 (subst (λ x. P p.0 x) same.1 h.0)
each_has (p ∷ rs) P h g k (inr there) = each_has rs P h.1 g k there

has_then : (n m : ℕ) (rs qs : List Stretch) (g k : ℕ) → n ≤ m → Each (λ (p : Stretch). Has rs p.0 p.1 ⊎ (n ≤ p.1)) qs → Has qs g k ⊎ (m ≤ k) → Has rs g k ⊎ (n ≤ k)
has_then n m rs qs g k le h (inl there) = each_has qs (λ g k. Has rs g k ⊎ (n ≤ k)) h g k there
has_then n m rs qs g k le h (inr new) = inr (omega arith)

pub shift_then : (n m : ℕ) (s q r : Site) → n ≤ m → Shift n s q → Shift m q r → Shift n s r
shift_then n m (Out rs) (Out qs) (Out ps) le a b = each_map (λ (p : Stretch). Has qs p.0 p.1 ⊎ (m ≤ p.1)) (λ (p : Stretch). Has rs p.0 p.1 ⊎ (n ≤ p.1)) (λ p x. has_then n m rs qs p.0 p.1 le a x) ps b
shift_then n m (Out rs) (Out qs) (In g k ps) le a b = absurd b
shift_then n m (Out rs) (In g k qs) r le a b = absurd a
shift_then n m (In g k rs) q r le a b = let it : Shift m (In g k rs) r = subst (λ (x : Site). Shift m x r) (sym a) b in it

pub all_has : (n : ℕ) (rs qs : List Stretch) → ((g k : ℕ) → Has qs g k → Has rs g k) → Each (λ (p : Stretch). Has rs p.0 p.1 ⊎ (n ≤ p.1)) qs
all_has n rs [] h = tt
all_has n rs (p ∷ qs) h = (inl (h p.0 p.1 (inl (refl, refl))), all_has n rs qs (λ g k x. h g k (inr x)))

pub shift_none : (n : ℕ) (s : Site) → Shift n s s
shift_none n (Out rs) = all_has n rs rs (λ g k x. x)
shift_none n (In g k rs) = refl

-- from fewer locals on
lays_from : (cells : ℕ) (ns : List Number) (k n i : ℕ) (p s : Site) (ts : List FlatStep) (m j : ℕ) (r : Site) → k ≤ n → Shift k p s → Lays cells ns n i s ts m j r → Lays cells ns k i p ts m j r
lays_from cells ns k n i p s [] m j r le x h = (omega (arith, h.0), h.1, shift_then k n p s r le x h.2)
lays_from cells ns k n i p s (t ∷ ts) m j r le x h = (h.0, h.1, h.2, omega (arith, h.3), h.4, shift_then k n p s h.4 le x h.5, h.6, h.7)

pub lays_then :
    (cells : ℕ) (ns : List Number) (n i : ℕ) (s : Site) (ts : List FlatStep) (m j : ℕ) (r : Site) (us : List FlatStep) (k c : ℕ) (q : Site) →
    Lays cells ns n i s ts m j r → Lays cells ns m j r us k c q → Lays cells ns n i s (ts ++ us) k c q
lays_then cells ns n i s [] m j r us k c q h rest = lays_from cells ns n m i s r us k c q h.0 h.2 (subst (λ x. Lays cells ns m x r us k c q) (sym h.1) rest)
lays_then cells ns n i s (t ∷ ts) m j r us k c q h rest = (h.0, h.1, h.2, h.3, h.4, h.5, h.6, lays_then cells ns h.0 h.1 h.2 ts m j r us k c q h.7 rest)

-- up to more locals
pub lays_more : (cells : ℕ) (ns : List Number) (n i : ℕ) (s : Site) (ts : List FlatStep) (m j : ℕ) (r : Site) (k : ℕ) → m ≤ k → Lays cells ns n i s ts m j r → Lays cells ns n i s ts k j r
lays_more cells ns n i s [] m j r k le h = (omega (arith, h.0), h.1, h.2)
lays_more cells ns n i s (t ∷ ts) m j r k le h = (h.0, h.1, h.2, h.3, h.4, h.5, h.6, lays_more cells ns h.0 h.1 h.2 ts m j r k le h.7)

-- the site changes where no step is made; so many locals are used
pub lays_shift : (cells : ℕ) (ns : List Number) (n i : ℕ) (s : Site) (ts : List FlatStep) (m j : ℕ) (r q : Site) → Shift m r q → Lays cells ns n i s ts m j r → Lays cells ns n i s ts m j q
lays_shift cells ns n i s [] m j r q x h = (h.0, h.1, shift_then n m s r q h.0 h.2 x)
lays_shift cells ns n i s (t ∷ ts) m j r q x h = (h.0, h.1, h.2, h.3, h.4, h.5, h.6, lays_shift cells ns h.0 h.1 h.2 ts m j r q x h.7)

-- ---- more numbers

plain_more : (ns new : List Number) (l n : ℕ) → l < n → Above n new → Plain ns l → Plain (ns ++ new) l
plain_more ns new l n le above plain = each_append (λ (x : Number). x.local ≡ l → ⊥) ns new plain (plain_above new l n le above)

in_guard_more : (ns new : List Number) (g k h n : ℕ) → h < n → Above n new → InGuard ns g k h → InGuard (ns ++ new) g k h
in_guard_more ns new g k h n le above (inl same) = inl same
in_guard_more ns new g k h n le above (inr (inl off)) = inr (inl off)
in_guard_more ns new g k h n le above (inr (inr fresh)) = inr (inr (fresh.0, plain_more ns new h n le above fresh.1))

pub guard_at_more : (ns new : List Number) (s : Site) (h n : ℕ) → h < n → Above n new → GuardAt ns s h → GuardAt (ns ++ new) s h
guard_at_more ns new s h n le above at = each_map (λ (p : Stretch). InGuard ns p.0 p.1 h) (λ (p : Stretch). InGuard (ns ++ new) p.0 p.1 h) (λ p x. in_guard_more ns new p.0 p.1 h n le above x) (stretches s) at

pub lays_numbers :
    (cells : ℕ) (ns new : List Number) (k n i : ℕ) (s : Site) (ts : List FlatStep) (m j : ℕ) (r : Site) → m ≤ k → Above k new → Lays cells ns n i s ts m j r → Lays cells (ns ++ new) n i s ts m j r
lays_numbers cells ns new k n i s [] m j r le above h = h
lays_numbers cells ns new k n i s (t ∷ ts) m j r le above h =
    let level : h.0 ≤ m = lays_level cells ns h.0 h.1 h.2 ts m j r h.7 in
    let a : Allowed cells ns h.0 i h.4 t h.1 h.2 = h.6 in (
      h.0,
      h.1,
      h.2,
      h.3,
      h.4,
      h.5,
      record { fits = a.fits; high = a.high; guard = guard_at_more ns new h.4 t.guard k (omega (arith, a.fits.0)) above a.guard; apart = a.apart; moves = a.moves; counts = a.counts },
      lays_numbers cells ns new k h.0 h.1 h.2 ts m j r le above h.7,
    )

-- ---- what holds of steps that are laid

all_more : (n m : ℕ) (args : List ℕ) → n ≤ m → All (λ a. a < n) args → All (λ a. a < m) args
all_more n m args le h = λ k d b. let x : get_or args k d < n = h k d b in omega arith

act_more : (cells n m : ℕ) (a : FlatAct) → n ≤ m → ActFits n cells a → ActFits m cells a
act_more cells n m (Set to o args) le h = (omega (arith, h.0), h.1, all_more n m args le h.2)
act_more cells n m (Put to v) le h = omega arith
act_more cells n m (Take to) le h = omega arith
act_more cells n m (Read c to) le h = (h.0, omega (arith, h.1))
act_more cells n m (Write c from) le h = (h.0, omega (arith, h.1))
act_more cells n m Open le h = tt
act_more cells n m Close le h = tt
act_more cells n m Fence le h = tt
act_more cells n m (Create i x y) le h = (omega (arith, h.0), omega (arith, h.1))
act_more cells n m (Join from) le h = omega arith
act_more cells n m End le h = tt
act_more cells n m Stop le h = tt
act_more cells n m Bad le h = tt
act_more cells n m (Fail p t) le h = tt

pub lays_fit : (cells : ℕ) (ns : List Number) (n i : ℕ) (s : Site) (ts : List FlatStep) (m j : ℕ) (r : Site) → Lays cells ns n i s ts m j r → Each (StepFits m cells) ts
lays_fit cells ns n i s [] m j r h = tt
lays_fit cells ns n i s (t ∷ ts) m j r h =
    let level : h.0 ≤ m = lays_level cells ns h.0 h.1 h.2 ts m j r h.7 in
    let a : Allowed cells ns h.0 i h.4 t h.1 h.2 = h.6 in
    ((omega (arith, a.fits.0), act_more cells h.0 m t.act level a.fits.1), lays_fit cells ns h.0 h.1 h.2 ts m j r h.7)

abbrev pub is_in : Site → Bool
is_in (Out rs) = false
is_in (In g k rs) = true

turn_from : (s : Site) (m : Mark) (h : ℕ) (r : Site) (ms : List Mark) → Moves s m h r → AreInTurn (is_in r) ms → AreInTurn (is_in s) (m ∷ ms)
turn_from (Out rs) Opens h r ms x rest = (refl, subst (λ (y : Site). AreInTurn (is_in y) ms) x.2 rest)
turn_from (Out rs) Closes h r ms x rest = absurd x
turn_from (Out rs) Acts h r ms x rest = subst (λ (y : Site). AreInTurn (is_in y) ms) x rest
turn_from (Out rs) Silent h r ms x rest = subst (λ (y : Site). AreInTurn (is_in y) ms) x rest
turn_from (In g k rs) Opens h r ms x rest = absurd x
turn_from (In g k rs) Closes h r ms x rest = (refl, subst (λ (y : Site). AreInTurn (is_in y) ms) x.1 rest)
turn_from (In g k rs) Acts h r ms x rest = subst (λ (y : Site). AreInTurn (is_in y) ms) x rest
turn_from (In g k rs) Silent h r ms x rest = subst (λ (y : Site). AreInTurn (is_in y) ms) x rest

shift_in : (n : ℕ) (s r : Site) → Shift n s r → is_in s ≡ is_in r
shift_in n (Out rs) (Out qs) x = refl
shift_in n (Out rs) (In g k qs) x = absurd x
shift_in n (In g k rs) r x = ap is_in x

-- the marks open and close in turn
pub lays_turn : (cells : ℕ) (ns : List Number) (n i : ℕ) (s : Site) (ts : List FlatStep) (m j : ℕ) (rs : List Stretch) → Lays cells ns n i s ts m j (Out rs) → AreInTurn (is_in s) (marks_of ts)
lays_turn cells ns n i s [] m j rs h = shift_in n s (Out rs) h.2
lays_turn cells ns n i s (t ∷ ts) m j rs h =
    let a : Allowed cells ns h.0 i h.4 t h.1 h.2 = h.6 in
    subst (λ b. AreInTurn b (mark_of t.act ∷ marks_of ts)) (sym (shift_in n s h.4 h.5)) (turn_from h.4 (mark_of t.act) t.guard h.2 (marks_of ts) a.moves (lays_turn cells ns h.0 h.1 h.2 ts m j rs h.7))

-- the numbers from one on, up to one
abbrev pub Numbered : ℕ → List ℕ → ℕ → Type 0
Numbered i [] j = i ≡ j
Numbered i (x ∷ xs) j = (x ≡ i) × Numbered (i + 1) xs j

pub numbered_append : (i : ℕ) (xs : List ℕ) (j : ℕ) (ys : List ℕ) (k : ℕ) → Numbered i xs j → Numbered j ys k → Numbered i (xs ++ ys) k
numbered_append i [] j ys k h rest = subst (λ x. Numbered x ys k) (sym h) rest
numbered_append i (x ∷ xs) j ys k h rest = (h.0, numbered_append (i + 1) xs j ys k h.1 rest)

created_one : (i : ℕ) (a : FlatAct) (j : ℕ) → Counts i a j → Numbered i (created_by a) j
created_one i (Set to o args) j h = sym h
created_one i (Put to v) j h = sym h
created_one i (Take to) j h = sym h
created_one i (Read c to) j h = sym h
created_one i (Write c from) j h = sym h
created_one i Open j h = sym h
created_one i Close j h = sym h
created_one i Fence j h = sym h
created_one i (Create k x y) j h = (h.0, sym h.1)
created_one i (Join from) j h = sym h
created_one i End j h = sym h
created_one i Stop j h = sym h
created_one i Bad j h = sym h
created_one i (Fail p t) j h = sym h

-- the instances are created in turn
pub lays_created : (cells : ℕ) (ns : List Number) (n i : ℕ) (s : Site) (ts : List FlatStep) (m j : ℕ) (r : Site) → Lays cells ns n i s ts m j r → Numbered i (created_in ts) j
lays_created cells ns n i s [] m j r h = h.1
lays_created cells ns n i s (t ∷ ts) m j r h =
    let a : Allowed cells ns h.0 i h.4 t h.1 h.2 = h.6 in
    numbered_append i (created_by t.act) h.1 (created_in ts) j (created_one i t.act h.1 a.counts) (lays_created cells ns h.0 h.1 h.2 ts m j r h.7)
