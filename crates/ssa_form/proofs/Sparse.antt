-- Sections are kept in a list of marks that some silent ones are left out of.
use Rattle.std.proofs.Common.{◌≡◌, ℕ, zero, suc, ◌<◌, ◌≤◌, ◌⊎◌, inl, inr, Bool, true, false, List, [], ◌∷◌, ◌++◌, length, Some, refl, ap, sym, ◌∙◌, arith}
use Rattle.std.specs.Prelude.{slice_get}
use Rattle.std.proofs.lemmas.Option.{none-some, same_Some, slice_get_within}
use Rattle.dg_base.proofs.Lists.{get_push_cases, get_push_last, get_append_left, get_append_front}
use Rattle.flat_prog.specs.Sections.{Mark, Opens, Closes, Acts, Silent, AreInTurn, IsSection, IsActing, KeepsSections}

-- the first marks are the others without some silent ones, and what is made of the steps goes with them
pub data Sparse : List Mark → List Bool → List Mark → List Bool → Type 0 where
  none : Sparse [] [] [] []
  keep : (m : Mark) (b : Bool) (ms : List Mark) (bs : List Bool) (ns : List Mark) (cs : List Bool) → Sparse ms bs ns cs → Sparse (m ∷ ms) (b ∷ bs) (m ∷ ns) (b ∷ cs)
  drop : (b : Bool) (ms : List Mark) (bs : List Bool) (ns : List Mark) (cs : List Bool) → Sparse ms bs ns cs → Sparse ms bs (Silent ∷ ns) (b ∷ cs)

-- ---- places

abbrev place : (ms : List Mark) (bs : List Bool) (ns : List Mark) (cs : List Bool) → Sparse ms bs ns cs → ℕ → ℕ
place _ _ _ _ none k = k
place _ _ _ _ (keep m b ms bs ns cs p) zero = 0
place _ _ _ _ (keep m b ms bs ns cs p) (suc k) = suc (place ms bs ns cs p k)
place _ _ _ _ (drop b ms bs ns cs p) k = suc (place ms bs ns cs p k)

place_mark : (ms : List Mark) (bs : List Bool) (ns : List Mark) (cs : List Bool) (p : Sparse ms bs ns cs) (k : ℕ) → slice_get ns (place ms bs ns cs p k) ≡ slice_get ms k
place_mark _ _ _ _ none k = refl
place_mark _ _ _ _ (keep m b ms bs ns cs p) zero = refl
place_mark _ _ _ _ (keep m b ms bs ns cs p) (suc k) = place_mark ms bs ns cs p k
place_mark _ _ _ _ (drop b ms bs ns cs p) k = place_mark ms bs ns cs p k

place_made : (ms : List Mark) (bs : List Bool) (ns : List Mark) (cs : List Bool) (p : Sparse ms bs ns cs) (k : ℕ) → slice_get cs (place ms bs ns cs p k) ≡ slice_get bs k
place_made _ _ _ _ none k = refl
place_made _ _ _ _ (keep m b ms bs ns cs p) zero = refl
place_made _ _ _ _ (keep m b ms bs ns cs p) (suc k) = place_made ms bs ns cs p k
place_made _ _ _ _ (drop b ms bs ns cs p) k = place_made ms bs ns cs p k

place_less : (ms : List Mark) (bs : List Bool) (ns : List Mark) (cs : List Bool) (p : Sparse ms bs ns cs) (k l : ℕ) → k < l → place ms bs ns cs p k < place ms bs ns cs p l
place_less _ _ _ _ none k l h = h
place_less _ _ _ _ (keep m b ms bs ns cs p) k zero h = absurd (omega arith)
place_less _ _ _ _ (keep m b ms bs ns cs p) zero (suc l) h = omega arith
place_less _ _ _ _ (keep m b ms bs ns cs p) (suc k) (suc l) h = let r = place_less ms bs ns cs p k l (omega arith) in omega arith
place_less _ _ _ _ (drop b ms bs ns cs p) k l h = let r = place_less ms bs ns cs p k l h in omega arith

-- each mark that is not silent has a place
from_place : (ms : List Mark) (bs : List Bool) (ns : List Mark) (cs : List Bool) (p : Sparse ms bs ns cs) (j : ℕ) (m : Mark) → slice_get ns j ≡ Some m → ¬ (m ≡ Silent) → (k : ℕ) × (place ms bs ns cs p k ≡ j)
from_place _ _ _ _ none j m e n = absurd (none-some m e)
from_place _ _ _ _ (keep q b ms bs ns cs p) zero m e n = (0, refl)
from_place _ _ _ _ (keep q b ms bs ns cs p) (suc j) m e n = let r = from_place ms bs ns cs p j m e n in (suc r.0, ap suc r.1)
from_place _ _ _ _ (drop b ms bs ns cs p) zero m e n = absurd (n (sym (same_Some Silent m e)))
from_place _ _ _ _ (drop b ms bs ns cs p) (suc j) m e n = let r = from_place ms bs ns cs p j m e n in (r.0, ap suc r.1)

pub compare : (a b : ℕ) → (a < b) ⊎ (b ≤ a)
compare zero zero = inr (omega arith)
compare zero (suc b) = inl (omega arith)
compare (suc a) zero = inr (omega arith)
compare (suc a) (suc b) = elim (compare a b) [ inl h ↦ inl (omega arith) | inr h ↦ inr (omega arith) ]

module _ (ms : List Mark) (bs : List Bool) (ns : List Mark) (cs : List Bool) (p : Sparse ms bs ns cs) where
  abbrev at : ℕ → ℕ
  at k = place ms bs ns cs p k

  from_less : (k l : ℕ) → at k < at l → k < l
  from_less k l h =
      elim (compare k l) [
        | inl g ↦ g
        | inr g ↦ elim (compare l k) [
          | inl more ↦ let r = place_less ms bs ns cs p l k more in absurd (omega arith)
          | inr same ↦ let e : k ≡ l = omega arith in let f : at k ≡ at l = ap at e in absurd (omega arith)
        ]
      ]

  at_most : (k l : ℕ) → k ≤ l → at k ≤ at l
  at_most k l h =
      elim (compare k l) [
        | inl g ↦ let r = place_less ms bs ns cs p k l g in omega arith
        | inr g ↦ let e : k ≡ l = omega arith in let f : at k ≡ at l = ap at e in omega arith
      ]

  section : (o c : ℕ) → IsSection ms o c → IsSection ns (at o) (at c)
  section o c s = record {
    opens = place_mark ms bs ns cs p o ∙ s.opens;
    closes = place_mark ms bs ns cs p c ∙ s.closes;
    later = place_less ms bs ns cs p o c s.later;
    unclosed = λ k h g e.
        let r = from_place ms bs ns cs p k Closes e (λ i. cc) in
        let low : at o < at r.0 = omega (arith, r.1) in
        let high : at r.0 < at c = omega (arith, r.1) in
        s.unclosed r.0 (from_less o r.0 low) (from_less r.0 c high) (sym (place_mark ms bs ns cs p r.0) ∙ ap (λ n. slice_get ns n) r.1 ∙ e);
  }

  acting : (i : ℕ) → IsActing ms i → IsActing ns (at i)
  acting i (m, here, acts) = (m, place_mark ms bs ns cs p i ∙ here, acts)

  pub keeps_sparse : KeepsSections ns cs → KeepsSections ms bs
  keeps_sparse h = record {
    inside = λ o c i s low high acts made.
        sym (place_made ms bs ns cs p o)
        ∙ h.inside (at o) (at c) (at i) (section o c s) (place_less ms bs ns cs p o i low) (at_most i c high) (acting i acts) (place_made ms bs ns cs p i ∙ made);
    behind = λ o c i s low acts made opened.
        sym (place_made ms bs ns cs p c)
        ∙ h.behind (at o) (at c) (at i) (section o c s) (place_less ms bs ns cs p c i low) (acting i acts) (place_made ms bs ns cs p i ∙ made) (place_made ms bs ns cs p o ∙ opened);
  }

pub turns_sparse : (ms : List Mark) (bs : List Bool) (ns : List Mark) (cs : List Bool) → Sparse ms bs ns cs → (within : Bool) → AreInTurn within ns → AreInTurn within ms
turns_sparse _ _ _ _ none within h = h
turns_sparse _ _ _ _ (keep Opens b ms bs ns cs p) within h = (h.0, turns_sparse ms bs ns cs p true h.1)
turns_sparse _ _ _ _ (keep Closes b ms bs ns cs p) within h = (h.0, turns_sparse ms bs ns cs p false h.1)
turns_sparse _ _ _ _ (keep Acts b ms bs ns cs p) within h = turns_sparse ms bs ns cs p within h
turns_sparse _ _ _ _ (keep Silent b ms bs ns cs p) within h = turns_sparse ms bs ns cs p within h
turns_sparse _ _ _ _ (drop b ms bs ns cs p) within h = turns_sparse ms bs ns cs p within h

-- ---- one action more, in front or behind

pub turns_end : (ms : List Mark) (within : Bool) → AreInTurn within ms → AreInTurn within (ms ++ Acts ∷ [])
turns_end [] within h = h
turns_end (Opens ∷ ms) within h = (h.0, turns_end ms true h.1)
turns_end (Closes ∷ ms) within h = (h.0, turns_end ms false h.1)
turns_end (Acts ∷ ms) within h = turns_end ms within h
turns_end (Silent ∷ ms) within h = turns_end ms within h

module _ (ms : List Mark) (bs : List Bool) where
  behind_first : (o c : ℕ) → IsSection (Acts ∷ ms) (suc o) (suc c) → IsSection ms o c
  behind_first o c s = record {
    opens = s.opens;
    closes = s.closes;
    later = let h = s.later in omega arith;
    unclosed = λ k low high e. s.unclosed (suc k) (omega arith) (omega arith) e;
  }

  pub keeps_start : (b : Bool) → KeepsSections ms bs → KeepsSections (Acts ∷ ms) (b ∷ bs)
  keeps_start b h = record { inside = inside; behind = behind }
    where
      inside : (o c i : ℕ) → IsSection (Acts ∷ ms) o c → o < i → i ≤ c → IsActing (Acts ∷ ms) i → slice_get (b ∷ bs) i ≡ Some true → slice_get (b ∷ bs) o ≡ Some true
      inside zero c i s low high acts made = absurd (let e = same_Some Acts Opens s.opens in cc)
      inside (suc o) c zero s low high acts made = absurd (omega arith)
      inside (suc o) zero (suc i) s low high acts made = absurd (omega arith)
      inside (suc o) (suc c) (suc i) s low high acts made = h.inside o c i (behind_first o c s) (omega arith) (omega arith) acts made

      behind : (o c i : ℕ) → IsSection (Acts ∷ ms) o c → c < i → IsActing (Acts ∷ ms) i → slice_get (b ∷ bs) i ≡ Some true → slice_get (b ∷ bs) o ≡ Some true → slice_get (b ∷ bs) c ≡ Some true
      behind zero c i s low acts made opened = absurd (let e = same_Some Acts Opens s.opens in cc)
      behind (suc o) c zero s low acts made opened = absurd (omega arith)
      behind (suc o) zero (suc i) s low acts made opened = absurd (let h = s.later in omega arith)
      behind (suc o) (suc c) (suc i) s low acts made opened = h.behind o c i (behind_first o c s) (omega arith) acts made opened

  not_last : (k : ℕ) (m : Mark) → ¬ (m ≡ Acts) → slice_get (ms ++ Acts ∷ []) k ≡ Some m → slice_get ms k ≡ Some m
  not_last k m n e = elim (get_push_cases ms Acts k m e) [ inl h ↦ h | inr r ↦ absurd (n r.1) ]

  before_last : (o c : ℕ) → IsSection (ms ++ Acts ∷ []) o c → IsSection ms o c
  before_last o c s = record {
    opens = not_last o Opens (λ e. cc) s.opens;
    closes = not_last c Closes (λ e. cc) s.closes;
    later = s.later;
    unclosed = λ k low high e. s.unclosed k low high (get_append_left ms (Acts ∷ []) k Closes e);
  }

  older : (b : Bool) (k : ℕ) → k < length bs → slice_get (bs ++ b ∷ []) k ≡ slice_get bs k
  older b k h = get_append_front bs (b ∷ []) k h

  pub keeps_end : (b : Bool) → length bs ≡ length ms → KeepsSections ms bs → (b ≡ true → (o c : ℕ) → IsSection ms o c → slice_get bs o ≡ Some true → slice_get bs c ≡ Some true)
      → KeepsSections (ms ++ Acts ∷ []) (bs ++ b ∷ [])
  keeps_end b long h ended = record { inside = inside; behind = behind }
    where
      inside : (o c i : ℕ) → IsSection (ms ++ Acts ∷ []) o c → o < i → i ≤ c → IsActing (ms ++ Acts ∷ []) i → slice_get (bs ++ b ∷ []) i ≡ Some true → slice_get (bs ++ b ∷ []) o ≡ Some true
      inside o c i s low high (m, here, acts) made =
          let t = before_last o c s in
          let within = slice_get_within ms c Closes t.closes in
          let mine : slice_get ms i ≡ Some m = sym (get_append_front ms (Acts ∷ []) i (omega arith)) ∙ here in
          older b o (omega arith) ∙ h.inside o c i t low high (m, mine, acts) (sym (older b i (omega arith)) ∙ made)

      behind : (o c i : ℕ) → IsSection (ms ++ Acts ∷ []) o c → c < i → IsActing (ms ++ Acts ∷ []) i → slice_get (bs ++ b ∷ []) i ≡ Some true → slice_get (bs ++ b ∷ []) o ≡ Some true → slice_get (bs ++ b ∷ []) c ≡ Some true
      behind o c i s low (m, here, acts) made opened =
          let t = before_last o c s in
          let within = slice_get_within ms c Closes t.closes in
          let first = t.later in
          let open' : slice_get bs o ≡ Some true = sym (older b o (omega arith)) ∙ opened in
          older b c (omega arith) ∙ elim (get_push_cases ms Acts i m here) [
            | inl mine ↦ let inner = slice_get_within ms i m mine in h.behind o c i t low (m, mine, acts) (sym (older b i (omega arith)) ∙ made) open'
            | inr r ↦
                let there : i ≡ length bs = omega (arith, r.0, long) in
                let last : b ≡ true = same_Some b true (sym (get_push_last bs b) ∙ ap (λ n. slice_get (bs ++ b ∷ []) n) (sym there) ∙ made) in
                ended last o c t open'
          ]

-- where nothing is made sections are kept
pub keeps_nothing : (ms : List Mark) (bs : List Bool) → ((k : ℕ) → slice_get bs k ≡ Some true → ⊥) → KeepsSections ms bs
keeps_nothing ms bs h = record {
  inside = λ o c i s low high acts made. absurd (h i made);
  behind = λ o c i s low acts made opened. absurd (h i made);
}
