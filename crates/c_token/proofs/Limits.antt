-- The limits on macros, and what a table of macros says.
use Rattle.std.proofs.Common.{◌≡◌, ℕ, ◌+◌, ◌<◌, ◌≤◌, cond, List, [], length, drop, get_or, nat_lt, slice_get, Option, Some, None, option_map, refl, sym, ap, ◌∙◌, arith, add-one, drop-cons}
use Rattle.std.proofs.lemmas.Bool.{lt-ltb, le-ltb}
use Rattle.token_list.specs.declared.Token.{Token}
use Rattle.c_token.specs.declared.macros.Macro.{Macro}
use Rattle.c_token.specs.Bytes.{capped}
use Rattle.c_token.specs.Searching.{uses_in, IsOrdered}
use Rattle.c_token.specs.Tables.{AllBelow, IsTable}
use Rattle.c_token.specs.Tokens.{first_long}
use Rattle.c_token.proofs.Ends.{macro_here}

count_at : (macros : List Macro) (bodies : List (List Token)) (i : ℕ) (m : Macro) → IsTable macros bodies → i < length macros → m ≡ get_or macros i m → m.count ≡ capped (length (get_or bodies i []))
count_at macros bodies i m t h e = ap (λ (x : Macro). x.count) e ∙ (t.at i m h).count

long_from : (bodies : List (List Token)) (i : ℕ) → i < length bodies → first_long (drop i bodies) ≡ cond (nat_lt 1024 (length (get_or bodies i []))) (Some (get_or bodies i [])) (first_long (drop (i + 1) bodies))
long_from bodies i h = rw (add-one, drop-cons bodies i []) refl

-- a macro that isn't too long is passed by
pub long_next : (macros : List Macro) (bodies : List (List Token)) (i count : ℕ) (m : Macro) → IsTable macros bodies → i < length macros → m ≡ get_or macros i m → count ≡ m.count → count ≤ 1024
    → first_long (drop (i + 1) bodies) ≡ first_long (drop i bodies)
long_next macros bodies i count m t h e k small =
    let same = count_at macros bodies i m t h e in
    let short : length (get_or bodies i []) ≤ 1024 = omega arith in
    sym (long_from bodies i (omega (arith, t.len)) ∙ ap (λ b. cond b (Some (get_or bodies i [])) (first_long (drop (i + 1) bodies))) (le-ltb 1024 (length (get_or bodies i [])) short))

-- one that is too long is found
pub long_here : (macros : List Macro) (bodies : List (List Token)) (i count : ℕ) (m : Macro) → IsTable macros bodies → i < length macros → m ≡ get_or macros i m → count ≡ m.count → 1024 < count
    → Some count ≡ option_map (λ body. capped (length body)) (first_long (drop i bodies))
long_here macros bodies i count m t h e k large =
    let same = count_at macros bodies i m t h e in
    let long : 1024 < length (get_or bodies i []) = omega arith in
    ap Some (k ∙ same)
    ∙ sym (ap (option_map (λ body. capped (length body)))
    (long_from bodies i (omega (arith, t.len)) ∙ ap (λ b. cond b (Some (get_or bodies i [])) (first_long (drop (i + 1) bodies))) (lt-ltb 1024 (length (get_or bodies i [])) long)))

-- each macro's uses are of macros before it
pub table_ordered : (macros : List Macro) (bodies : List (List Token)) → IsTable macros bodies → IsOrdered macros
table_ordered macros bodies t = λ n. at n (slice_get macros n) refl
  where
    at : (n : ℕ) (m : Option Macro) → slice_get macros n ≡ m → AllBelow n (uses_in m)
    at n None e = refl
    at n (Some m) e = (macro_here macros bodies n m t e).below
