-- Which threads a candidate has: main, rising handles, known functions and handles.
use Rattle.std.proofs.Common.{◌≡◌, ℕ, zero, suc, ◌+◌, ◌<◌, ◌≤◌, List, [], ◌∷◌, Bool, true, false, cond, Option, Some, None, refl, sym, ◌∙◌, subst, ⊎_elim, inl, inr, Decides, arith}
use Rattle.std.specs.Prelude.{slice_get, nat_eq, nat_lt, ◌⊎◌, codes, unwrap_or, length}
use Rattle.std.specs.List.{list_any}
use Rattle.std.proofs.lemmas.Bool.{ltb-true, ltb-false}
use Rattle.std.proofs.lemmas.Bool.Decides.{Decides-eqb, Decides-ltb, Decides-and, not_from_Decides}
use Rattle.std.proofs.lemmas.Option.{none-some, same_Some}
use Rattle.axiom_model.specs.declared.ThreadPart.{ThreadPart}
use Rattle.axiom_model.specs.WellMade.{Shape}
use Rattle.c_rules.specs.Names.{Name}
use Rattle.c_check.specs.declared.checked.Checked.{Checked}
use Rattle.c_check.specs.WellFormed.{IsChecked}
use Rattle.run_model.specs.Names.{first_named}
use Rattle.exec_check.specs.First.{EachThread, FirstHandle}
use Rattle.exec_check.specs.Conditions.{HasMain, IsAboveAll, IsKnown}
use Rattle.exec_check.specs.ThreadTests.{first_not, is_main, not_rising, is_known, handle_of}
use Rattle.exec_check.specs.Running.{shape}
use Rattle.exec_check.proofs.Shaped.{main_shaped, functions_shaped}
use Rattle.exec_check.proofs.Listed.{any_decides, first_not-none, first_not-some}

-- ---- main

pub main_decides : (s : Shape) (ps : List ThreadPart) → Decides (list_any (is_main s.main) ps) (HasMain s ps)
main_decides s ps =
    let d = any_decides (is_main s.main) (λ t. (t.handle ≡ 0) × ((t.function ≡ s.main) × (t.arg ≡ 0))) (λ t. Decides-and (nat_eq t.handle 0) _ (Decides-eqb t.handle 0) (Decides-and (nat_eq t.function s.main) (nat_eq t.arg 0) (Decides-eqb t.function s.main) (Decides-eqb t.arg 0))) ps in
    (λ e. let r = d.0 e in (r.0, r.1, r.2, r.3.0, r.3.1.0, r.3.1.1), λ h. d.1 (h.0, h.1, h.2, (h.3, (h.4, h.5))))

-- ---- rising handles

flips : (t : Bool) (a : ℕ) (o : Option ℕ) → cond t (Some a) o ≡ None → (t ≡ false) × (o ≡ None)
flips true a o e = absurd (none-some a (sym e))
flips false a o e = (refl, e)

flipped : (t : Bool) (a h : ℕ) (o : Option ℕ) → cond t (Some a) o ≡ Some h → ((t ≡ true) × (a ≡ h)) ⊎ ((t ≡ false) × (o ≡ Some h))
flipped true a h o e = inl (refl, same_Some a h e)
flipped false a h o e = inr (refl, e)

-- no handle is below the least, and each is above all before it
record Rises (least : ℕ) (ps : List ThreadPart) : Type 0 where
  low : (k : ℕ) (t : ThreadPart) → slice_get ps k ≡ Some t → least ≤ t.handle
  rising : EachThread (IsAboveAll ps) ps

rises_on : (least : ℕ) (u : ThreadPart) (ps : List ThreadPart) → least ≤ u.handle → Rises (u.handle + 1) ps → Rises least (u ∷ ps)
rises_on least u ps l r = record { low = low; rising = rising }
  where
    low : (k : ℕ) (t : ThreadPart) → slice_get (u ∷ ps) k ≡ Some t → least ≤ t.handle
    low zero t e = subst (λ z. least ≤ z.handle) (same_Some u t e) l
    low (suc k) t e = let h : u.handle + 1 ≤ t.handle = r.low k t e in omega arith

    rising : (k : ℕ) (t : ThreadPart) → slice_get (u ∷ ps) k ≡ Some t → (j : ℕ) (v : ThreadPart) → j < k → slice_get (u ∷ ps) j ≡ Some v → v.handle < t.handle
    rising zero t e j v d g = absurd (omega arith)
    rising (suc k) t e zero v d g = subst (λ z. z.handle < t.handle) (same_Some u v g) (let h : u.handle + 1 ≤ t.handle = r.low k t e in omega arith)
    rising (suc k) t e (suc j) v d g = r.rising k t e j v (omega arith) g

rises : (least : ℕ) (ps : List ThreadPart) → not_rising least ps ≡ None → Rises least ps
rises least [] e = record { low = λ k t g. absurd (none-some t g); rising = λ k t g. absurd (none-some t g) }
rises least (u ∷ ps) e =
    let f = flips (nat_lt u.handle least) u.handle (not_rising (u.handle + 1) ps) e in
    rises_on least u ps (ltb-false u.handle least f.0) (rises (u.handle + 1) ps f.1)

-- the first handle that does not rise: it is the first and below the least, or not above one before it
record Falls (least : ℕ) (ps : List ThreadPart) (h : ℕ) : Type 0 where
  place : ℕ
  part : ThreadPart
  there : slice_get ps place ≡ Some part
  handle_is : part.handle ≡ h
  cause : (part.handle < least) ⊎ ((j : ℕ) × (u : ThreadPart) × (j < place) × (slice_get ps j ≡ Some u) × (part.handle ≤ u.handle))
  low : (k : ℕ) (t : ThreadPart) → k < place → slice_get ps k ≡ Some t → least ≤ t.handle
  before : (k : ℕ) (t : ThreadPart) → k < place → slice_get ps k ≡ Some t → IsAboveAll ps k t

falls_on : (least : ℕ) (u : ThreadPart) (ps : List ThreadPart) (h : ℕ) → least ≤ u.handle → Falls (u.handle + 1) ps h → Falls least (u ∷ ps) h
falls_on least u ps h l r = record {
  place = suc r.place;
  part = r.part;
  there = r.there;
  handle_is = r.handle_is;
  cause = inr (⊎_elim (λ c. (0, u, omega arith, refl, omega arith)) (λ c. (suc c.0, c.1, omega (arith, c.2), c.3, c.4)) r.cause);
  low = low;
  before = before;
}
  where
    low : (k : ℕ) (t : ThreadPart) → k < suc r.place → slice_get (u ∷ ps) k ≡ Some t → least ≤ t.handle
    low zero t d e = subst (λ z. least ≤ z.handle) (same_Some u t e) l
    low (suc k) t d e = let g : u.handle + 1 ≤ t.handle = r.low k t (omega arith) e in omega arith

    before : (k : ℕ) (t : ThreadPart) → k < suc r.place → slice_get (u ∷ ps) k ≡ Some t → (j : ℕ) (v : ThreadPart) → j < k → slice_get (u ∷ ps) j ≡ Some v → v.handle < t.handle
    before zero t d e j v b g = absurd (omega arith)
    before (suc k) t d e zero v b g = subst (λ z. z.handle < t.handle) (same_Some u v g) (let q : u.handle + 1 ≤ t.handle = r.low k t (omega arith) e in omega arith)
    before (suc k) t d e (suc j) v b g = r.before k t (omega arith) e j v (omega arith) g

falls : (least : ℕ) (ps : List ThreadPart) (h : ℕ) → not_rising least ps ≡ Some h → Falls least ps h
falls least [] h e = absurd (none-some h e)
falls least (u ∷ ps) h e =
    ⊎_elim
    (λ c. record { place = 0; part = u; there = refl; handle_is = c.1; cause = inl (ltb-true u.handle least c.0); low = λ k t d g. absurd (omega arith); before = λ k t d g. absurd (omega arith) })
    (λ c. falls_on least u ps h (ltb-false u.handle least c.0) (falls (u.handle + 1) ps h c.1))
    (flipped (nat_lt u.handle least) u.handle h (not_rising (u.handle + 1) ps) e)

pub rising_none : (ps : List ThreadPart) → not_rising 0 ps ≡ None → EachThread (IsAboveAll ps) ps
rising_none ps e = (rises 0 ps e).rising

pub rising_some : (ps : List ThreadPart) (h : ℕ) → not_rising 0 ps ≡ Some h → FirstHandle (IsAboveAll ps) ps h
rising_some ps h e =
    let r = falls 0 ps h e in
    (r.part, record { place = r.place; there = r.there; broken = λ above. ⊎_elim (λ c. absurd (omega arith)) (λ c. let l : c.1.handle < r.part.handle = above c.0 c.1 c.2 c.3 in let m : r.part.handle ≤ c.1.handle = c.4 in absurd (omega arith)) r.cause; before = λ k t d g. r.before k t d g }, r.handle_is)

-- ---- known functions and handles

known_decides : (functions : ℕ) (t : ThreadPart) → Decides (is_known functions t) ((t.function < functions) × (t.handle < 16777216))
known_decides functions t = Decides-and (nat_lt t.function functions) (nat_lt t.handle 16777216) (Decides-ltb t.function functions) (Decides-ltb t.handle 16777216)

pub known_none : (s : Shape) (ps : List ThreadPart) → first_not (is_known s.functions) handle_of ps ≡ None → EachThread (IsKnown s) ps
known_none s ps e k t g = (known_decides s.functions t).0 (first_not-none (is_known s.functions) handle_of ps e k t g)

-- the first item that does not pass a test is the first thread of which that does not hold which the test tells
pub first_thread : (f : ThreadPart → Bool) (P : ThreadPart → Type 0) → ((t : ThreadPart) → Decides (f t) (P t)) → (ps : List ThreadPart) (h : ℕ) → first_not f handle_of ps ≡ Some h → FirstHandle (λ k. P) ps h
first_thread f P d ps h e =
    let r = first_not-some f handle_of ps h e in
    (r.1, record { place = r.0; there = r.2.there; broken = not_from_Decides (f r.1) (d r.1) r.2.fails; before = λ k u l g. (d u).0 (r.2.before k u l g) }, r.3)

pub known_some : (s : Shape) (ps : List ThreadPart) (h : ℕ) → first_not (is_known s.functions) handle_of ps ≡ Some h → FirstHandle (IsKnown s) ps h
known_some s ps h e = first_thread (is_known s.functions) (λ t. (t.function < s.functions) × (t.handle < 16777216)) (known_decides s.functions) ps h e

-- ---- of a checked program

-- the tests of main and of known functions, as the code makes them
pub main_found : (p : Checked) (ps : List ThreadPart) (main : ℕ) → IsChecked p → main ≡ unwrap_or (first_named (λ (m : Name). m) 0 p.functions (codes "main")) 0 → list_any (is_main main) ps ≡ true → HasMain (shape p) ps
main_found p ps main h e t = (main_decides (shape p) ps).0 (subst (λ n. list_any (is_main n) ps ≡ true) (e ∙ main_shaped p h) t)

pub main_missing : (p : Checked) (ps : List ThreadPart) (main : ℕ) → IsChecked p → main ≡ unwrap_or (first_named (λ (m : Name). m) 0 p.functions (codes "main")) 0 → list_any (is_main main) ps ≡ false → ¬ HasMain (shape p) ps
main_missing p ps main h e t =
    not_from_Decides (list_any (is_main (shape p).main) ps) (main_decides (shape p) ps) (subst (λ n. list_any (is_main n) ps ≡ false) (e ∙ main_shaped p h) t)

pub all_known : (p : Checked) (ps : List ThreadPart) (n : ℕ) → IsChecked p → n ≡ length p.functions → first_not (is_known n) handle_of ps ≡ None → EachThread (IsKnown (shape p)) ps
all_known p ps n h e t = known_none (shape p) ps (subst (λ m. first_not (is_known m) handle_of ps ≡ None) (e ∙ functions_shaped p h) t)

pub one_unknown : (p : Checked) (ps : List ThreadPart) (n g : ℕ) → IsChecked p → n ≡ length p.functions → first_not (is_known n) handle_of ps ≡ Some g → FirstHandle (IsKnown (shape p)) ps g
one_unknown p ps n g h e t = known_some (shape p) ps g (subst (λ m. first_not (is_known m) handle_of ps ≡ Some g) (e ∙ functions_shaped p h) t)
