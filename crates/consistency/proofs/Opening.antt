-- Where the section opens that holds an action: not behind it, in itself, and further on for later actions.
use Rattle.std.proofs.Common.{◌≡◌, ℕ, zero, suc, ◌+◌, ◌<◌, ◌≤◌, ◌⊎◌, List, [], ◌∷◌, length, Option, Some, None, refl, ap, ⊎_elim, inl, inr, arith}
use Rattle.std.specs.Prelude.{unwrap_or}
use Rattle.std.proofs.lemmas.Option.{none-some, same_Some}
use Rattle.axiom_model.specs.declared.Action.{Action}
use Rattle.axiom_model.specs.declared.Action.TheVariants.{Open, Close}
use Rattle.axiom_model.proofs.Sections.{held, behind, section_from}
use Rattle.consistency.specs.Numbering.{open_at, open_behind}

-- the code's words for the open section are the model's
pub open_at-held : (s : Option ℕ) (n : ℕ) (a : Action) → open_at s n a ≡ held s n a
open_at-held (Some o) n a = refl
open_at-held None n Open = refl
open_at-held None n _ = refl

pub open_behind-behind : (s : Option ℕ) (n : ℕ) (a : Action) → open_behind s n a ≡ behind s n a
open_behind-behind s n Close = refl
open_behind-behind s n Open = open_at-held s n Open
open_behind-behind s n _ = open_at-held s n _

-- no section is open before, or one that opened at n or earlier
abbrev pub OpenBy : Option ℕ → ℕ → Type 0
OpenBy s n = (o : ℕ) → s ≡ Some o → o ≤ n

held_by : (s : Option ℕ) (n : ℕ) (a : Action) → OpenBy s n → OpenBy (held s n a) n
held_by (Some p) n a h o e = h o e
held_by None n Open h o e = let f : n ≡ o = same_Some n o e in omega arith
held_by None n _ h o e = absurd (none-some o e)

behind_by : (s : Option ℕ) (n : ℕ) (a : Action) → OpenBy s n → OpenBy (behind s n a) (n + 1)
behind_by s n Close h o e = absurd (none-some o e)
behind_by s n Open h o e = let g : o ≤ n = held_by s n Open h o e in omega arith
behind_by s n _ h o e = let g : o ≤ n = held_by s n _ h o e in omega arith

-- the section p was open before, or it opens at place q, not behind place i, and holds that place
pub record OpensIn (s : Option ℕ) (n : ℕ) (acts : List Action) (i p : ℕ) : Type 0 where
  pub place : ℕ
  pub is : p ≡ n + place
  pub within : place ≤ i
  pub itself : section_from s n acts place ≡ Some p

opens_here : (s : Option ℕ) (n : ℕ) (a : Action) (acts : List Action) (i p : ℕ) → held s n a ≡ Some p → (s ≡ Some p) ⊎ OpensIn s n (a ∷ acts) i p
opens_here (Some o) n a acts i p e = inl e
opens_here None n Open acts i p e = let f : n ≡ p = same_Some n p e in inr (record { place = 0; is = omega arith; within = omega arith; itself = e })
opens_here None n _ acts i p e = absurd (none-some p e)

behind_is_held : (s : Option ℕ) (n : ℕ) (a : Action) (p : ℕ) → behind s n a ≡ Some p → held s n a ≡ Some p
behind_is_held s n Close p e = absurd (none-some p e)
behind_is_held s n Open p e = e
behind_is_held s n _ p e = e

pub opens_in : (s : Option ℕ) (n : ℕ) (acts : List Action) (i p : ℕ) → section_from s n acts i ≡ Some p → (s ≡ Some p) ⊎ OpensIn s n acts i p
opens_in s n [] i p e = absurd (none-some p e)
opens_in s n (a ∷ acts) zero p e = opens_here s n a acts 0 p e
opens_in s n (a ∷ acts) (suc i) p e =
    ⊎_elim
    (λ b. opens_here s n a acts (suc i) p (behind_is_held s n a p b))
    (λ r. let q = r.is in let w = r.within in inr (record { place = suc r.place; is = omega arith; within = omega arith; itself = r.itself }))
    (opens_in (behind s n a) (n + 1) acts i p e)

-- ---- later actions have later sections

unwrapped_behind : (s : Option ℕ) (n : ℕ) (a : Action) → OpenBy s n → unwrap_or (held s n a) n ≤ unwrap_or (behind s n a) (n + 1)
unwrapped_behind s n Close h = let g = unwrapped (held s n Close) n (held_by s n Close h) in omega (arith, g)
  where
    unwrapped : (t : Option ℕ) (n : ℕ) → OpenBy t n → unwrap_or t n ≤ n
    unwrapped (Some o) n k = k o refl
    unwrapped None n k = omega arith
unwrapped_behind s n Open h = raised (held s n Open)
  where
    raised : (t : Option ℕ) → unwrap_or t n ≤ unwrap_or t (n + 1)
    raised (Some o) = omega arith
    raised None = omega arith
unwrapped_behind s n a h = raised (held s n a)
  where
    raised : (t : Option ℕ) → unwrap_or t n ≤ unwrap_or t (n + 1)
    raised (Some o) = omega arith
    raised None = omega arith

unwrapped_held : (s : Option ℕ) (n : ℕ) (a : Action) → unwrap_or s n ≤ unwrap_or (held s n a) n
unwrapped_held (Some o) n a = omega arith
unwrapped_held None n Open = omega arith
unwrapped_held None n _ = omega arith

at_zero : (t : Option ℕ) (n : ℕ) → unwrap_or t n ≡ unwrap_or t (n + 0)
at_zero t n = let e : n ≡ n + 0 = omega arith in ap (λ k. unwrap_or t k) e

at_next : (t : Option ℕ) (n j : ℕ) → unwrap_or t (n + 1 + j) ≡ unwrap_or t (n + suc j)
at_next t n j = let e : n + 1 + j ≡ n + suc j = omega arith in ap (λ k. unwrap_or t k) e

lower_bound : (s : Option ℕ) (n : ℕ) (acts : List Action) (j : ℕ) → OpenBy s n → unwrap_or s n ≤ unwrap_or (section_from s n acts j) (n + j)
lower_bound (Some o) n [] j h = let g : o ≤ n = h o refl in omega arith
lower_bound None n [] j h = omega arith
lower_bound s n (a ∷ acts) zero h = let g = unwrapped_held s n a in let e = at_zero (held s n a) n in omega (arith, g, e)
lower_bound s n (a ∷ acts) (suc j) h =
    let f = unwrapped_held s n a in
    let g = unwrapped_behind s n a h in
    let r = lower_bound (behind s n a) (n + 1) acts j (behind_by s n a h) in
    let e = at_next (section_from (behind s n a) (n + 1) acts j) n j in
    omega (arith, f, g, r, e)

pub section_rises : (s : Option ℕ) (n : ℕ) (acts : List Action) (i j : ℕ) → OpenBy s n → i ≤ j → j < length acts → unwrap_or (section_from s n acts i) (n + i) ≤ unwrap_or (section_from s n acts j) (n + j)
section_rises s n [] i j h l m = absurd (omega arith)
section_rises s n (a ∷ acts) zero zero h l m = omega arith
section_rises s n (a ∷ acts) (suc i) zero h l m = absurd (omega arith)
section_rises s n (a ∷ acts) zero (suc j) h l m =
    let d = at_zero (held s n a) n in
    let g = unwrapped_behind s n a h in
    let r = lower_bound (behind s n a) (n + 1) acts j (behind_by s n a h) in
    let e = at_next (section_from (behind s n a) (n + 1) acts j) n j in
    omega (arith, d, g, r, e)
section_rises s n (a ∷ acts) (suc i) (suc j) h l m =
    let r = section_rises (behind s n a) (n + 1) acts i j (behind_by s n a h) (omega arith) (omega arith) in
    let d = at_next (section_from (behind s n a) (n + 1) acts i) n i in
    let e = at_next (section_from (behind s n a) (n + 1) acts j) n j in
    omega (arith, r, d, e)
