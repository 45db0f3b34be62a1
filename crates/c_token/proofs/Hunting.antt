-- The frames of a search: each step keeps them in order, and brings the end nearer.
use Rattle.std.proofs.Common.{◌≡◌, ℕ, zero, suc, ◌+◌, ◌-◌, ◌*◌, ◌^◌, ◌<◌, ◌≤◌, IsTrue, List, [], ◌∷◌, ◌++◌, length, reverse, slice_get, Option, Some, None, refl, sym, ap, subst, ◌∙◌, arith, ⊎_elim}
use Rattle.std.proofs.lemmas.Bool.{and_parts, ltb-true}
use Rattle.std.proofs.lemmas.List.{reverse-append}
use Rattle.std.proofs.Math.Nat.{one-le-pow, pow-le-pow_right, pow-succ', mul-lt-mul_of_pos_right, mul-le-mul}
use Rattle.std.specs.List.{list_all}
use Rattle.c_token.specs.declared.macros.Macro.{Macro}
use Rattle.c_token.specs.declared.macros.Use.{Use}
use Rattle.c_token.specs.declared.macros.Use.TheVariants.{Plain, Macro as MacroUse}
use Rattle.c_token.specs.declared.search.Frame.{Frame}
use Rattle.c_token.specs.Searching.{uses_in, uses_of, next_use, next_frame, GrowsBy, GoesOn, FramesFit, IsFrame, IsOrdered}
use Rattle.c_token.specs.Tables.{is_below, AllBelow}
use Rattle.c_token.proofs.Defining.{below_use}

got_below : (n : ℕ) (us : List Use) (k : ℕ) (u : Use) → AllBelow n us → slice_get us k ≡ Some u → IsTrue (is_below n u)
got_below n [] k u b e = cc
got_below n (x ∷ xs) zero u b e = let p = and_parts (is_below n x) (list_all (is_below n) xs) b in let same : x ≡ u = cc in subst (λ y. IsTrue (is_below n y)) same p.0
got_below n (x ∷ xs) (suc k) u b e = got_below n xs k u (and_parts (is_below n x) (list_all (is_below n) xs) b).1 e

pub below_more : (n m : ℕ) (u : Use) → n ≤ m → IsTrue (is_below n u) → IsTrue (is_below m u)
below_more n m u h b = below_use n m u h b

-- the next use of a frame is of a macro before it
pub next_below : (macros : List Macro) (f : Frame) (u : Use) → IsOrdered macros → next_use macros f ≡ Some u → IsTrue (is_below f.entry.number u)
next_below macros f u ordered e = got_below f.entry.number (uses_of macros f.entry.number) f.next u (ordered f.entry.number) e

pub got_within : {A : Type 0} (xs : List A) (k : ℕ) (x : A) → slice_get xs k ≡ Some x → k < length xs
got_within [] k x e = cc
got_within (y ∷ ys) zero x e = omega arith
got_within (y ∷ ys) (suc k) x e = omega (arith, got_within ys k x e)

-- how much is left of these frames, to this base
abbrev pub weight : ℕ → List Macro → List Frame → ℕ
weight base macros [] = 0
weight base macros (f ∷ fs) = (length (uses_of macros f.entry.number) + 1 - f.next) * base ^ f.entry.number + weight base macros fs

-- the next use of a macro is of one before the macro's end, and of a macro that there is
next_within : (macros : List Macro) (n : ℕ) (k : ℕ) (u : Use) → slice_get (uses_of macros n) k ≡ Some u → n < length macros
next_within macros n k u e = step (slice_get macros n) refl e
  where
    step : (o : Option Macro) → slice_get macros n ≡ o → slice_get (uses_in o) k ≡ Some u → n < length macros
    step None g h = cc
    step (Some m) g h = got_within macros n m g

pub next_is_below : (macros : List Macro) (f : Frame) (u : Use) → IsOrdered macros → next_use macros f ≡ Some u → IsTrue (is_below (length macros) u)
next_is_below macros f u ordered e =
    let within = next_within macros f.entry.number f.next u e in
    below_more f.entry.number (length macros) u (omega arith) (next_below macros f u ordered e)

-- a step keeps the frames in order
frames_grown : (macros : List Macro) (u : Use) (old new : List Frame) → FramesFit macros old → GrowsBy u old new → FramesFit macros new
frames_grown macros (Plain word) old new fit g = subst (FramesFit macros) (sym g) fit
frames_grown macros (MacroUse n p) old new fit g =
    ⊎_elim
    (λ same. subst (FramesFit macros) (sym same) fit)
    (λ begun. let next = begun.1.1 in subst (FramesFit macros) (sym begun.1.2) (omega (arith, next), fit))
    g

pub frames_gone_on : (macros : List Macro) (f : Frame) (old new : List Frame) → FramesFit macros old → GoesOn macros f old new → FramesFit macros new
frames_gone_on macros f old new fit g =
    ⊎_elim
    (λ same. subst (FramesFit macros) (sym same) fit)
    (λ on. let within = got_within (uses_of macros f.entry.number) f.next on.0 on.1.0 in frames_grown macros on.0 (next_frame f ∷ old) new (omega (arith, within), fit) on.1.1)
    g

-- what is left of a frame
abbrev part : ℕ → List Macro → ℕ → ℕ → ℕ
part base macros n next = (length (uses_of macros n) + 1 - next) * base ^ n

part_pos : (base : ℕ) (macros : List Macro) (n next : ℕ) → 0 < base → next ≤ length (uses_of macros n) → 0 < part base macros n next
part_pos base macros n next b h =
    let one : 1 ≤ base ^ n = one-le-pow n base b in
    let some : 1 ≤ length (uses_of macros n) + 1 - next = omega arith in
    let product : 1 * 1 ≤ part base macros n next = mul-le-mul some one in
    omega arith

part_step : (base : ℕ) (macros : List Macro) (n next : ℕ) → next < length (uses_of macros n) → part base macros n next ≡ part base macros n (next + 1) + base ^ n
part_step base macros n next within =
    let e : length (uses_of macros n) + 1 - next ≡ length (uses_of macros n) + 1 - (next + 1) + 1 = omega arith in
    ap (λ m. m * base ^ n) e ∙ more (length (uses_of macros n) + 1 - (next + 1)) (base ^ n)
  where
    more : (a b : ℕ) → (a + 1) * b ≡ a * b + b
    more a b = omega arith

-- a frame whose next use is taken, and a macro before it that is begun, are less than the frame
part_next : (base : ℕ) (macros : List Macro) (n k next : ℕ) → ((j : ℕ) → length (uses_of macros j) + 1 < base) → k < n → next < length (uses_of macros n)
    → part base macros k 0 + part base macros n (next + 1) < part base macros n next
part_next base macros n k next large before within =
    let low : length (uses_of macros k) + 1 - 0 < base = omega (arith, large k) in
    let inner : part base macros k 0 < base * base ^ k = mul-lt-mul_of_pos_right low (one-le-pow k base (omega (arith, large k))) in
    let outer : base ^ suc k ≤ base ^ n = pow-le-pow_right (omega (arith, large k)) before in
    let same : base ^ suc k ≡ base * base ^ k = pow-succ' base k in
    omega (arith, part_step base macros n next within)

-- a step brings the end nearer
pub weight_gone_on : (base : ℕ) (macros : List Macro) (f : Frame) (old new : List Frame) → ((j : ℕ) → length (uses_of macros j) + 1 < base) → IsOrdered macros → IsFrame macros f → GoesOn macros f old new
    → weight base macros new < weight base macros (f ∷ old)
weight_gone_on base macros f old new large ordered is_frame g = ⊎_elim (λ same. left same) (λ on. step on.0 on.1.0 on.1.1) g
  where
    left : new ≡ old → weight base macros new < weight base macros (f ∷ old)
    left e =
        let w : weight base macros new ≡ weight base macros old = ap (weight base macros) e in
        let positive = part_pos base macros f.entry.number f.next (omega (arith, large 0)) is_frame in
        omega (arith, w, positive)

    taken : f.next < length (uses_of macros f.entry.number) → new ≡ next_frame f ∷ old → weight base macros new < weight base macros (f ∷ old)
    taken within e =
        let w : weight base macros new ≡ weight base macros (next_frame f ∷ old) = ap (weight base macros) e in
        let one : 1 ≤ base ^ f.entry.number = one-le-pow f.entry.number base (omega (arith, large 0)) in
        omega (arith, w, part_step base macros f.entry.number f.next within)

    begun : (k : ℕ) (b : Frame) → k < f.entry.number → f.next < length (uses_of macros f.entry.number) → b.entry.number ≡ k → b.next ≡ 0 → new ≡ b ∷ next_frame f ∷ old
        → weight base macros new < weight base macros (f ∷ old)
    begun k b before within number next e =
        let w : weight base macros new ≡ part base macros b.entry.number b.next + (part base macros f.entry.number (f.next + 1) + weight base macros old) = ap (weight base macros) e in
        let v : part base macros b.entry.number b.next ≡ part base macros k 0 = ap (λ i. part base macros i b.next) number ∙ ap (part base macros k) next in
        omega (arith, w, v, part_next base macros f.entry.number k f.next large before within)

    grown : (u : Use) → f.next < length (uses_of macros f.entry.number) → IsTrue (is_below f.entry.number u) → GrowsBy u (next_frame f ∷ old) new → weight base macros new < weight base macros (f ∷ old)
    grown (Plain word) within below e = taken within e
    grown (MacroUse k p) within below e = ⊎_elim (λ same. taken within same) (λ b. begun k b.0 (ltb-true k f.entry.number below) within b.1.0 b.1.1 b.1.2) e

    step : (u : Use) → next_use macros f ≡ Some u → GrowsBy u (next_frame f ∷ old) new → weight base macros new < weight base macros (f ∷ old)
    step u e h = grown u (got_within (uses_of macros f.entry.number) f.next u e) (next_below macros f u ordered e) h

-- a base that no macro's uses reach
abbrev pub base_of : List Macro → ℕ
base_of [] = 2
base_of (m ∷ ms) = length (uses_in (Some m)) + base_of ms

pub base_large : (macros : List Macro) (j : ℕ) → length (uses_of macros j) + 1 < base_of macros
base_large [] j = omega arith
base_large (m ∷ ms) zero = omega (arith, base_large ms zero)
base_large (m ∷ ms) (suc j) = omega (arith, base_large ms j)

-- the last item stands first in the reverse
pub reverse_last : {A : Type 0} (xs ys : List A) (x : A) → xs ≡ ys ++ x ∷ [] → reverse xs ≡ x ∷ reverse ys
reverse_last xs ys x e = ap reverse e ∙ reverse-append ys (x ∷ [])
