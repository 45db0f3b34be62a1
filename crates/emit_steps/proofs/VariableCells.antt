-- The cells of variables are read and written as those of the thread's locals.
use Rattle.std.proofs.Common.{◌≡◌, ℕ, zero, suc, ◌+◌, ◌<◌, ◌≤◌, inl, inr, List, [], ◌∷◌, length, set, Option, Some, None, refl, sym, ap, ◌∙◌, subst, add-zero, arith}
use Rattle.std.specs.Prelude.{slice_get, unwrap_or}
use Rattle.run_model.specs.declared.state.Local.{Local}
use Rattle.run_model.specs.Cells.{cells_at, with_cell_in, with_cell}
use Rattle.flat_prog.specs.Runs.{with_local}
use Rattle.emit_steps.specs.declared.state.Variable.{Variable}
use Rattle.emit_steps.proofs.Running.{local_same, local_other, Among, Stacked, among_within, values_from, values_kept, Matches, matches_kept}

pub length_values : (f : ℕ → ℕ) (first n : ℕ) → length (values_from f first n) ≡ n
length_values f first zero = refl
length_values f first (suc n) = ap suc (length_values f (first + 1) n)

pub value_there : (f : ℕ → ℕ) (first n j : ℕ) → j < n → slice_get (values_from f first n) j ≡ Some (f (first + j))
value_there f first zero j h = absurd (omega arith)
value_there f first (suc n) zero h = ap (λ l. Some (f l)) (sym (add-zero first))
value_there f first (suc n) (suc j) h =
    let same : first + 1 + j ≡ first + suc j = omega arith in
    value_there f (first + 1) n j (omega arith) ∙ ap (λ l. Some (f l)) same

-- a written cell
pub value_set : (f : ℕ → ℕ) (first n j x : ℕ) → j < n → set (values_from f first n) j x ≡ values_from (with_local f (first + j) x) first n
value_set f first zero j x h = absurd (omega arith)
value_set f first (suc n) zero x h =
    let head : with_local f (first + 0) x first ≡ x = subst (λ l. with_local f l x first ≡ x) (sym (add-zero first)) (local_same f first x) in
    let tail : values_from (with_local f (first + 0) x) (first + 1) n ≡ values_from f (first + 1) n = values_kept f (with_local f (first + 0) x) (first + 1) n (λ l a b. local_other f (first + 0) x l (λ e. absurd (omega arith))) in
    sym (ap (λ y. y ∷ values_from (with_local f (first + 0) x) (first + 1) n) head ∙ ap (λ ys. x ∷ ys) tail)
value_set f first (suc n) (suc j) x h =
    let head : with_local f (first + suc j) x first ≡ f first = local_other f (first + suc j) x first (λ e. absurd (omega arith)) in
    let same : first + 1 + j ≡ first + suc j = omega arith in
    let tail : set (values_from f (first + 1) n) j x ≡ values_from (with_local f (first + suc j) x) (first + 1) n =
    value_set f (first + 1) n j x (omega arith) ∙ ap (λ l. values_from (with_local f l x) (first + 1) n) same in
    ap (λ ys. f first ∷ ys) tail ∙ sym (ap (λ y. y ∷ values_from (with_local f (first + suc j) x) (first + 1) n) head)

pub match_cells : (f : ℕ → ℕ) (vs : List Variable) (ls : List Local) (i : ℕ) (v : Variable) → Matches f vs ls → slice_get vs i ≡ Some v → cells_at ls i ≡ values_from f v.first v.count
match_cells f [] [] i v m e = absurd (let no : ◌≡◌ {A = Option Variable} None (Some v) = e in cc)
match_cells f [] (l ∷ ls) i v m e = absurd m
match_cells f (w ∷ vs) [] i v m e = absurd m
match_cells f (w ∷ vs) (l ∷ ls) zero v m e = let same : w ≡ v = (let is : ◌≡◌ {A = Option Variable} (Some w) (Some v) = e in cc) in m.2 ∙ ap (λ (u : Variable). values_from f u.first u.count) same
match_cells f (w ∷ vs) (l ∷ ls) (suc i) v m e = match_cells f vs ls i v m.3 e

-- the value in a cell
pub cell_value : (f : ℕ → ℕ) (vs : List Variable) (ls : List Local) (i j : ℕ) (v : Variable) → Matches f vs ls → slice_get vs i ≡ Some v → j < v.count → unwrap_or (slice_get (cells_at ls i) j) 0 ≡ f (v.first + j)
cell_value f vs ls i j v m e h = ap (λ cs. unwrap_or (slice_get cs j) 0) (match_cells f vs ls i v m e) ∙ ap (λ o. unwrap_or o 0) (value_there f v.first v.count j h)

pub with_next : (l : Local) (ls : List Local) (i j x : ℕ) (o : Option Local) → with_cell_in (l ∷ ls) (suc i) j x o ≡ l ∷ with_cell_in ls i j x o
with_next l ls i j x None = refl
with_next l ls i j x (Some k) = refl

pub among_there : (vs : List Variable) (i j : ℕ) (v : Variable) → slice_get vs i ≡ Some v → j < v.count → Among vs (v.first + j)
among_there [] i j v e h = absurd (let no : ◌≡◌ {A = Option Variable} None (Some v) = e in cc)
among_there (w ∷ vs) zero j v e h =
    let same : w ≡ v = (let is : ◌≡◌ {A = Option Variable} (Some w) (Some v) = e in cc) in
    inl (subst (λ (u : Variable). (u.first ≤ v.first + j) × (v.first + j < u.first + u.count)) (sym same) (omega arith, omega arith))
among_there (w ∷ vs) (suc i) j v e h = inr (among_there vs i j v e h)

-- a cell of a variable is written, as that of the local of its number
pub matches_written : (f : ℕ → ℕ) (low : ℕ) (vs : List Variable) (high : ℕ) (ls : List Local) (i j x : ℕ) (v : Variable) → Stacked low vs high → Matches f vs ls → slice_get vs i ≡ Some v → j < v.count
    → Matches (with_local f (v.first + j) x) vs (with_cell ls i j x)
matches_written f low [] high ls i j x v k m e h = absurd (let no : ◌≡◌ {A = Option Variable} None (Some v) = e in cc)
matches_written f low (w ∷ vs) high [] i j x v k m e h = absurd m
matches_written f low (w ∷ vs) high (l ∷ ls) zero j x v k m e h =
    let same : w ≡ v = (let is : ◌≡◌ {A = Option Variable} (Some w) (Some v) = e in cc) in
    subst (λ (u : Variable). Matches (with_local f (u.first + j) x) (w ∷ vs) (with_cell (l ∷ ls) 0 j x)) same
    (let inside : j < w.count = subst (λ (u : Variable). j < u.count) (sym same) h in (
      m.0,
      m.1,
      ap (λ cs. set cs j x) m.2 ∙ value_set f w.first w.count j x inside,
      matches_kept f (with_local f (w.first + j) x) vs ls (λ n a.
          local_other f (w.first + j) x n (λ is. let within : (w.first + w.count ≤ n) × (n < high) = among_within (w.first + w.count) vs high n k.1 a in absurd (omega (arith, within.0)))) m.3,
    ))
matches_written f low (w ∷ vs) high (l ∷ ls) (suc i) j x v k m e h =
    let within : (w.first + w.count ≤ v.first + j) × (v.first + j < high) = among_within (w.first + w.count) vs high (v.first + j) k.1 (among_there vs i j v e h) in
    subst (Matches (with_local f (v.first + j) x) (w ∷ vs)) (sym (with_next l ls i j x (slice_get ls i))) (
      m.0,
      m.1,
      m.2 ∙ sym (values_kept f (with_local f (v.first + j) x) w.first w.count (λ n a b. local_other f (v.first + j) x n (λ is. absurd (omega (arith, within.0))))),
      matches_written f (w.first + w.count) vs high ls i j x v k.1 m.3 e h,
    )
