-- What the fetched files say of an answer.
use Rattle.std.proofs.Common.{◌≡◌, ◌≤◌, ℕ, List, [], ◌∷◌, Option, Some, None, Result, Ok, Err, refl, ap, sym, subst, length, arith, ◌∙◌}
use Rattle.std.specs.Prelude.{map, nat_lt, slice_get}
use Rattle.std.proofs.lemmas.Bool.{cond-false, cond-true, le-ltb, lt-ltb}
use Rattle.dg_base.specs.declared.outside.FileEntry.{FileEntry}
use Rattle.dg_base.specs.declared.outside.TheConstants.{LONGEST_FILE}
use Rattle.dg_base.specs.declared.outside.Operation.TheVariants.{Fetch}
use Rattle.dg_base.specs.Outside.{Faults, IsFault, Told, contents}
use Rattle.dg_base.proofs.Lists.{contains_place, one_answer}
use Rattle.word_settings.specs.declared.settings.Settings.{Settings}
use Rattle.word_settings.specs.Settings.{Word}
use Rattle.dg_top.specs.declared.reply.Reply.{Reply}
use Rattle.dg_top.specs.Answers.{Answer, IsAnswer, IsAnswerOf, Kept, LongFile, answer, first_long, long_file}
use Rattle.dg_top.specs.Replies.{FetchFails, IsFetched, IsOneOf, Replies, Spells}
use Rattle.dg_top.proofs.Outcomes.{always, by_files}

-- ---- the names of the files

no_name : (names : List Word) → length names ≡ 0 → names ≡ []
no_name [] e = refl
no_name (a ∷ names) e = let no : 1 ≤ 0 = omega arith in absurd (omega arith)

pub one_name : (names : List Word) (a : Word) → length names ≡ 1 → slice_get names 0 ≡ Some a → names ≡ a ∷ []
one_name [] a e f = absurd (omega arith)
one_name (x ∷ names) a e f =
    let same : x ≡ a = one_answer (slice_get (x ∷ names) 0) x a refl f in
    let rest : names ≡ [] = no_name names (omega arith) in
    cc

pub two_names : (names : List Word) (a b : Word) → length names ≡ 2 → slice_get names 0 ≡ Some a → slice_get names 1 ≡ Some b → names ≡ a ∷ b ∷ []
two_names [] a b e f g = absurd (omega arith)
two_names (x ∷ names) a b e f g =
    let same : x ≡ a = one_answer (slice_get (x ∷ names) 0) x a refl f in
    let rest : names ≡ b ∷ [] = one_name names b (omega arith) g in
    cc

-- ---- files that are too long, and files that are not

-- a first file that is too long
first_is_long : (fs : List FileEntry) (name : Word) (names : List Word) → IsFetched fs name None → first_long fs (name ∷ names) ≡ Some name
first_is_long fs name names long = cond-true (nat_lt LONGEST_FILE (length (contents fs name))) _ _ (lt-ltb LONGEST_FILE (length (contents fs name)) long)

-- a first file that is not
first_is_short : (fs : List FileEntry) (name : Word) (bytes : List ℕ) (names : List Word) → IsFetched fs name (Some bytes) → first_long fs (name ∷ names) ≡ first_long fs names
first_is_short fs name bytes names fetched =
    cond-false (nat_lt LONGEST_FILE (length (contents fs name))) _ _ (le-ltb LONGEST_FILE (length (contents fs name)) (subst (λ (l : List ℕ). length l ≤ LONGEST_FILE) fetched.0 fetched.1))

both_told : {A : Type 0} (P Q : A → Type 0) (o : Option A) → Told P o → Told Q o → Told (λ x. P x × Q x) o
both_told P Q None p q = tt
both_told P Q (Some x) p q = (p, q)

-- ---- the answers

-- an answer of the contents of files none of which is too long
of_contents : (s : Settings) (names : List Word) (fs : List FileEntry) (a : Answer) (kept : Option Kept) → s.files ≡ names → first_long fs names ≡ None
    → IsAnswer s (map (contents fs) names) a kept → IsAnswerOf s fs a kept
of_contents s names fs a kept e none v =
    answer a kept (ap (first_long fs) e ∙ none) (subst (λ (ns : List Word). IsAnswer s (map (contents fs) ns) a kept) (sym e) v)

-- the first file is too long
pub first_too_long : (s : Settings) (name : Word) (names : List Word) (files : Option (List FileEntry)) (r : Reply) → s.files ≡ name ∷ names
    → Told (λ fs. IsFetched fs name None) files → Spells (LongFile name) None r → Replies (IsAnswerOf s) files r
first_too_long s name names files r e told spelled =
    by_files (λ fs. IsFetched fs name None) (IsAnswerOf s) (LongFile name) None files r (λ fs long. long_file name (ap (first_long fs) e ∙ first_is_long fs name names long)) told spelled

-- the second file is too long
pub second_too_long : (s : Settings) (name : Word) (bytes : List ℕ) (other : Word) (files : Option (List FileEntry)) (r : Reply) → s.files ≡ name ∷ other ∷ []
    → Told (λ fs. IsFetched fs name (Some bytes)) files → Told (λ fs. IsFetched fs other None) files → Spells (LongFile other) None r → Replies (IsAnswerOf s) files r
second_too_long s name bytes other files r e told long spelled =
    by_files (λ fs. IsFetched fs name (Some bytes) × IsFetched fs other None) (IsAnswerOf s) (LongFile other) None files r
    (λ fs h. long_file other (ap (first_long fs) e ∙ first_is_short fs name bytes (other ∷ []) h.0 ∙ first_is_long fs other [] h.1))
    (both_told (λ fs. IsFetched fs name (Some bytes)) (λ fs. IsFetched fs other None) files told long) spelled

-- the answer of no file
pub no_file : (s : Settings) (files : Option (List FileEntry)) (r : Reply) → length s.files ≡ 0 → IsOneOf (IsAnswer s []) r → Replies (IsAnswerOf s) files r
no_file s files r e p = always (IsAnswerOf s) p.answer p.kept files r (λ fs. of_contents s [] fs p.answer p.kept (no_name s.files e) refl p.allowed) p.spelled

-- the answer of one file
pub one_file : (s : Settings) (name : Word) (bytes : List ℕ) (files : Option (List FileEntry)) (r : Reply) → s.files ≡ name ∷ []
    → Told (λ fs. IsFetched fs name (Some bytes)) files → IsOneOf (IsAnswer s (bytes ∷ [])) r → Replies (IsAnswerOf s) files r
one_file s name bytes files r e told p =
    by_files (λ fs. IsFetched fs name (Some bytes)) (IsAnswerOf s) p.answer p.kept files r
    (λ fs fetched. of_contents s (name ∷ []) fs p.answer p.kept e (first_is_short fs name bytes [] fetched) (subst (λ (t : List ℕ). IsAnswer s (t ∷ []) p.answer p.kept) fetched.0 p.allowed)) told p.spelled

-- the answer of two files
pub two_files : (s : Settings) (name : Word) (bytes : List ℕ) (other : Word) (told_bytes : List ℕ) (files : Option (List FileEntry)) (r : Reply) → s.files ≡ name ∷ other ∷ []
    → Told (λ fs. IsFetched fs name (Some bytes)) files → Told (λ fs. IsFetched fs other (Some told_bytes)) files → IsOneOf (IsAnswer s (bytes ∷ told_bytes ∷ [])) r
    → Replies (IsAnswerOf s) files r
two_files s name bytes other told_bytes files r e first second p =
    by_files (λ fs. IsFetched fs name (Some bytes) × IsFetched fs other (Some told_bytes)) (IsAnswerOf s) p.answer p.kept files r
    (λ fs h. of_contents s (name ∷ other ∷ []) fs p.answer p.kept e (first_is_short fs name bytes (other ∷ []) h.0 ∙ first_is_short fs other told_bytes [] h.1)
    (subst (λ (t : List ℕ). IsAnswer s (contents fs name ∷ t ∷ []) p.answer p.kept) h.1.0 (subst (λ (t : List ℕ). IsAnswer s (t ∷ told_bytes ∷ []) p.answer p.kept) h.0.0 p.allowed)))
    (both_told (λ fs. IsFetched fs name (Some bytes)) (λ fs. IsFetched fs other (Some told_bytes)) files first second) p.spelled

-- ---- faults

-- a fault in the fetch of one of the files
pub fetch_fails : (names : List Word) (k : ℕ) (name : Word) (before now : Faults) → slice_get names k ≡ Some name → IsFault Fetch name before now → FetchFails names before now
fetch_fails names k name before now e fault = record { name = name; is_named = contains_place names k name e; fault = fault }

-- a fault in the second fetch, where the first had none
pub second_fails : (names : List Word) (k : ℕ) (name : Word) (before middle now : Faults) → slice_get names k ≡ Some name → middle ≡ before → IsFault Fetch name middle now
    → FetchFails names before now
second_fails names k name before middle now e same fault = fetch_fails names k name before now e (subst (λ (f : Faults). IsFault Fetch name f now) same fault)

pub no_ok : {T E : Type 0} (v : T) (e : E) → Ok v ≡ Err e → ⊥
no_ok v e h = cc

-- the same error of another result
pub same_err : {T U E : Type 0} (d e : E) → ◌≡◌ {A = Result T E} (Err d) (Err e) → ◌≡◌ {A = Result U E} (Err d) (Err e)
same_err d e h = let same : d ≡ e = cc in ap (λ x. Err x) same
