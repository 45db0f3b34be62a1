-- Where a section is open behind a list of actions.
use Rattle.std.proofs.Common.{◌≡◌, ℕ, zero, suc, ◌≤◌, List, [], ◌∷◌, Some, Bool, true, false, refl, inl, inr, ◌⊎◌, ⊎_elim, arith}
use Rattle.std.specs.Prelude.{slice_get}
use Rattle.std.proofs.lemmas.Bool.{false≢true}
use Rattle.dg_base.proofs.Lists.{get_nothing}
use Rattle.axiom_model.specs.declared.Action.{Action}
use Rattle.axiom_model.specs.declared.Action.TheVariants as action
use Rattle.full_bound.specs.Lone.{is_opened}

-- no Close stands from here on
abbrev pub NoClose : List Action → ℕ → Type 0
NoClose l o = (j : ℕ) → o ≤ j → slice_get l j ≡ Some action.Close → ⊥

-- an Open without a Close behind it
abbrev pub HasOpen : List Action → Type 0
HasOpen l = (o : ℕ) × (slice_get l o ≡ Some action.Open) × NoClose l o

later : (a : Action) (l : List Action) (o : ℕ) → NoClose l o → NoClose (a ∷ l) (suc o)
later a l o h zero le e = omega (arith, le)
later a l o h (suc j) le e = h j (omega (arith, le)) e

have_later : (a : Action) (l : List Action) → HasOpen l → HasOpen (a ∷ l)
have_later a l h = (suc h.0, h.1, later a l h.0 h.2)

from_first : (a : Action) (l : List Action) → (Some a ≡ Some action.Close → ⊥) → NoClose l 0 → NoClose (a ∷ l) 0
from_first a l n h zero le e = n e
from_first a l n h (suc j) le e = h j (omega arith) e

opened_from : (b : Bool) (l : List Action) → is_opened b l ≡ true → ((b ≡ true) × NoClose l 0) ⊎ HasOpen l
opened_from b [] e = inl (e, λ j le x. get_nothing j action.Close x)
opened_from b (action.Open ∷ l) e = inr (⊎_elim (λ x. (0, refl, from_first action.Open l (λ z. cc) x.1)) (λ x. have_later action.Open l x) (opened_from true l e))
opened_from b (action.Close ∷ l) e = inr (⊎_elim (λ x. absurd (false≢true x.0)) (λ x. have_later action.Close l x) (opened_from false l e))
opened_from b (a ∷ l) e = ⊎_elim (λ x. inl (x.0, from_first a l (λ z. cc) x.1)) (λ x. inr (have_later a l x)) (opened_from b l e)

pub opened_has : (l : List Action) → is_opened false l ≡ true → HasOpen l
opened_has l e = ⊎_elim (λ x. absurd (false≢true x.0)) (λ x. x) (opened_from false l e)

earlier : (a : Action) (l : List Action) (o : ℕ) → NoClose (a ∷ l) (suc o) → NoClose l o
earlier a l o h j le e = h (suc j) (omega (arith, le)) e

earlier_all : (a : Action) (l : List Action) → NoClose (a ∷ l) 0 → NoClose l 0
earlier_all a l h j le e = h (suc j) (omega arith) e

stays_open : (l : List Action) → NoClose l 0 → is_opened true l ≡ true
stays_open [] h = refl
stays_open (action.Open ∷ l) h = stays_open l (earlier_all action.Open l h)
stays_open (action.Close ∷ l) h = absurd (h 0 (omega arith) refl)
stays_open (a ∷ l) h = stays_open l (earlier_all a l h)

pub open_shows : (b : Bool) (l : List Action) (o : ℕ) → slice_get l o ≡ Some action.Open → NoClose l o → is_opened b l ≡ true
open_shows b [] o e h = absurd (get_nothing o action.Open e)
open_shows b (action.Open ∷ l) zero e h = stays_open l (earlier_all action.Open l h)
open_shows b (a ∷ l) zero e h = absurd (cc)
open_shows b (action.Open ∷ l) (suc o) e h = open_shows true l o e (earlier action.Open l o h)
open_shows b (action.Close ∷ l) (suc o) e h = open_shows false l o e (earlier action.Close l o h)
open_shows b (a ∷ l) (suc o) e h = open_shows b l o e (earlier a l o h)
