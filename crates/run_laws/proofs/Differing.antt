-- No two creates have one handle.
use Rattle.std.proofs.Common.{◌≡◌, ℕ, zero, suc, ◌+◌, ◌≤◌, List, [], ◌∷◌, Option, Some, None, refl, ap, arith}
use Rattle.std.specs.Prelude.{slice_get}
use Rattle.axiom_model.specs.declared.Action.{Action}
use Rattle.axiom_model.specs.declared.Action.TheVariants.{Create}
use Rattle.run_model.specs.Laws.{IsNumbered, creates_in}
use Rattle.run_model.proofs.Creates.{first_is, numbered_at, before, few_before}

module _ (h f v g w : ℕ) where
  -- two creates with as many creates before them stand at one place
  same_place : (acts : List Action) (i j : ℕ) → slice_get acts i ≡ Some (Create h f v) → slice_get acts j ≡ Some (Create h g w) → before acts i ≡ before acts j → i ≡ j
  same_place [] zero j e d same = absurd (let no : ◌≡◌ {A = Option Action} None (Some (Create h f v)) = e in cc)
  same_place [] (suc i) j e d same = absurd (let no : ◌≡◌ {A = Option Action} None (Some (Create h f v)) = e in cc)
  same_place (a ∷ acts) zero zero e d same = refl
  same_place (a ∷ acts) zero (suc j) e d same =
      let one : before (a ∷ acts) (suc j) ≡ 1 + before acts j = ap (λ (x : Action). before (x ∷ acts) (suc j)) (first_is h f v a acts e) in absurd (omega (arith, one, same))
  same_place (a ∷ acts) (suc i) zero e d same =
      let one : before (a ∷ acts) (suc i) ≡ 1 + before acts i = ap (λ (x : Action). before (x ∷ acts) (suc i)) (first_is h g w a acts d) in absurd (omega (arith, one, same))
  same_place (a ∷ acts) (suc i) (suc j) e d same = ap suc (same_place acts i j e d (omega (arith, same)))

  -- in one list of numbered actions, creates of one handle are one
  pub apart : (own : ℕ) (acts : List Action) → IsNumbered own 0 acts → (i j : ℕ) → slice_get acts i ≡ Some (Create h f v) → slice_get acts j ≡ Some (Create h g w) → i ≡ j
  apart own acts n i j e d =
      same_place acts i j e d (omega (arith, numbered_at h f v own 0 acts i n e, numbered_at h g w own 0 acts j n d))

  -- in two lists with few creates, they are of threads of one handle
  pub differ : (own other : ℕ) (xs ys : List Action) → IsNumbered own 0 xs → IsNumbered other 0 ys → creates_in xs ≤ 63 → creates_in ys ≤ 63
      → (i j : ℕ) → slice_get xs i ≡ Some (Create h f v) → slice_get ys j ≡ Some (Create h g w) → own ≡ other
  differ own other xs ys n m few less i j e d =
      omega (arith, numbered_at h f v own 0 xs i n e, numbered_at h g w other 0 ys j m d, few_before h f v xs i e, few_before h g w ys j d, few, less)
