-- The files of a desk in memory: what a look-up finds, and what stays when one is replaced or added.
use Rattle.std.proofs.Common.{◌≡◌, ◌≢◌, ℕ, zero, suc, ◌+◌, ◌<◌, ◌≤◌, List, [], ◌∷◌, ◌++◌, Bool, true, false, cond, Option, Some, None, Ok, refl, sym, ◌∙◌, ap, subst, ⊎_elim, arith, length, position, slice_set, get_or, slice_get}
use Rattle.std.specs.Prelude.{bytes_eq, nat_lt}
use Rattle.std.specs.List.{position_or_len}
use Rattle.std.proofs.lemmas.Bool.{cases_Bool, ltb-false, lt-ltb}
use Rattle.std.proofs.lemmas.List.Sums.{fails_before_first}
use Rattle.std.proofs.lemmas.List.Quantifiers.{position-Some}
use Rattle.std.proofs.lemmas.Slice.Eq.{bytes_eq-Decides}
use Rattle.dg_base.specs.declared.outside.FileEntry.{FileEntry}
use Rattle.dg_base.specs.Outside.{Keeps, file_in}
use Rattle.dg_base.specs.MemState.{is_named}

-- where no index is found, the test fails everywhere
none_passes : {X : Type 0} (p : X → Bool) (xs : List X) (d : X) → position p xs ≡ None → (k : ℕ) → k < length xs → p (get_or xs k d) ≡ false
none_passes p xs d e k within =
    let far : length xs ≤ position_or_len p xs = ⊎_elim (λ t. absurd (let none : cond (nat_lt (position_or_len p xs) (length xs)) (Some (position_or_len p xs)) None ≡ None = e in let some : cond true (Some (position_or_len p xs)) None ≡ None = subst (λ b. cond b (Some (position_or_len p xs)) None ≡ None) t none in cc)) (λ t. ltb-false (position_or_len p xs) (length xs) t) (cases_Bool (nat_lt (position_or_len p xs) (length xs))) in
    fails_before_first p xs k d (omega arith)

-- the first file of this name is found
file_at : (fs : List FileEntry) (name : List ℕ) (i : ℕ) (d : FileEntry) → i < length fs → is_named name (get_or fs i d) ≡ true → ((k : ℕ) → k < i → is_named name (get_or fs k d) ≡ false) → file_in fs name ≡ Some (get_or fs i d).bytes
file_at [] name i d within here before = absurd (omega arith)
file_at (f ∷ fs) name zero d within here before = ap (λ b. cond b (Some f.bytes) (file_in fs name)) here
file_at (f ∷ fs) name (suc i) d within here before =
    let skip : is_named name f ≡ false = before 0 (omega arith) in
    let rest : file_in fs name ≡ Some (get_or fs i d).bytes = file_at fs name i d (omega arith) here (λ k l. before (suc k) (omega arith)) in
    subst (λ b. cond b (Some f.bytes) (file_in fs name) ≡ Some (get_or fs i d).bytes) (sym skip) rest

file_nowhere : (fs : List FileEntry) (name : List ℕ) (d : FileEntry) → ((k : ℕ) → k < length fs → is_named name (get_or fs k d) ≡ false) → file_in fs name ≡ None
file_nowhere [] name d none = refl
file_nowhere (f ∷ fs) name d none =
    let skip : is_named name f ≡ false = none 0 (omega arith) in
    subst (λ b. cond b (Some f.bytes) (file_in fs name) ≡ None) (sym skip) (file_nowhere fs name d (λ k l. none (suc k) (omega arith)))

-- the answer of a search by name
pub found_there : (fs : List FileEntry) (name : List ℕ) (i : ℕ) (d : FileEntry) → position (is_named name) fs ≡ Some i → file_in fs name ≡ Some (get_or fs i d).bytes
found_there fs name i d e = let p = position-Some (is_named name) fs i d e in file_at fs name i d p.0 p.1 p.2

pub found_nowhere : (fs : List FileEntry) (name : List ℕ) → position (is_named name) fs ≡ None → file_in fs name ≡ None
found_nowhere [] name e = refl
found_nowhere (f ∷ fs) name e = file_nowhere (f ∷ fs) name f (none_passes (is_named name) (f ∷ fs) f e)

other_name : (name other : List ℕ) (f : FileEntry) → other ≢ name → f.name ≡ name → is_named other f ≡ false
other_name name other f n e = ⊎_elim (λ t. absurd (n (sym ((bytes_eq-Decides f.name other).0 t) ∙ e))) (λ t. t) (cases_Bool (bytes_eq f.name other))

named : (name : List ℕ) (f : FileEntry) → f.name ≡ name → is_named name f ≡ true
named name f e = (bytes_eq-Decides f.name name).1 e

-- a file replaced at the first place of its name
replaced_at : (fs : List FileEntry) (name : List ℕ) (i : ℕ) (new d : FileEntry) → new.name ≡ name → i < length fs → ((k : ℕ) → k < i → is_named name (get_or fs k d) ≡ false) → file_in (slice_set fs i new) name ≡ Some new.bytes
replaced_at [] name i new d e within before = absurd (omega arith)
replaced_at (f ∷ fs) name zero new d e within before = ap (λ b. cond b (Some new.bytes) (file_in fs name)) (named name new e)
replaced_at (f ∷ fs) name (suc i) new d e within before =
    let skip : is_named name f ≡ false = before 0 (omega arith) in
    subst (λ b. cond b (Some f.bytes) (file_in (slice_set fs i new) name) ≡ Some new.bytes) (sym skip) (replaced_at fs name i new d e (omega arith) (λ k l. before (suc k) (omega arith)))

replaced_others : (fs : List FileEntry) (name other : List ℕ) (i : ℕ) (new d : FileEntry) → other ≢ name → new.name ≡ name → i < length fs → (get_or fs i d).name ≡ name → file_in (slice_set fs i new) other ≡ file_in fs other
replaced_others [] name other i new d n e within here = absurd (omega arith)
replaced_others (f ∷ fs) name other zero new d n e within here =
    let old : is_named other f ≡ false = other_name name other f n here in
    let skip : is_named other new ≡ false = other_name name other new n e in
    ap (λ b. cond b (Some new.bytes) (file_in fs other)) skip ∙ sym (ap (λ b. cond b (Some f.bytes) (file_in fs other)) old)
replaced_others (f ∷ fs) name other (suc i) new d n e within here =
    ap (λ r. cond (is_named other f) (Some f.bytes) r) (replaced_others fs name other i new d n e (omega arith) here)

pub replaced : (fs : List FileEntry) (new : FileEntry) (i : ℕ) → position (is_named new.name) fs ≡ Some i → Keeps new.name new.bytes (Ok tt) fs (slice_set fs i new)
replaced fs new i e =
    let p = position-Some (is_named new.name) fs i new e in
    let same : (get_or fs i new).name ≡ new.name = (bytes_eq-Decides (get_or fs i new).name new.name).0 p.1 in
    record {
      this = replaced_at fs new.name i new new refl p.0 p.2;
      others = λ other n. replaced_others fs new.name other i new new n refl p.0 same;
    }

-- a file added behind all others
added_at : (fs : List FileEntry) (new : FileEntry) → file_in fs new.name ≡ None → file_in (fs ++ new ∷ []) new.name ≡ Some new.bytes
added_at [] new e = ap (λ b. cond b (Some new.bytes) None) (named new.name new refl)
added_at (f ∷ fs) new e = ⊎_elim one (two (added_at fs new)) (cases_Bool (is_named new.name f))
  where
    one : is_named new.name f ≡ true → file_in (f ∷ (fs ++ new ∷ [])) new.name ≡ Some new.bytes
    one t = let there : Some f.bytes ≡ None = subst (λ b. cond b (Some f.bytes) (file_in fs new.name) ≡ None) t e in cc

    two : (file_in fs new.name ≡ None → file_in (fs ++ new ∷ []) new.name ≡ Some new.bytes) → is_named new.name f ≡ false → file_in (f ∷ (fs ++ new ∷ [])) new.name ≡ Some new.bytes
    two later t =
        let rest : file_in fs new.name ≡ None = subst (λ b. cond b (Some f.bytes) (file_in fs new.name) ≡ None) t e in
        subst (λ b. cond b (Some f.bytes) (file_in (fs ++ new ∷ []) new.name) ≡ Some new.bytes) (sym t) (later rest)

added_others : (fs : List FileEntry) (new : FileEntry) (other : List ℕ) → other ≢ new.name → file_in (fs ++ new ∷ []) other ≡ file_in fs other
added_others [] new other n = ap (λ b. cond b (Some new.bytes) None) (other_name new.name other new n refl)
added_others (f ∷ fs) new other n = ap (λ r. cond (is_named other f) (Some f.bytes) r) (added_others fs new other n)

pub added : (fs : List FileEntry) (new : FileEntry) → position (is_named new.name) fs ≡ None → Keeps new.name new.bytes (Ok tt) fs (fs ++ new ∷ [])
added fs new e = record {
  this = added_at fs new (found_nowhere fs new.name e);
  others = λ other n. added_others fs new other n;
}
