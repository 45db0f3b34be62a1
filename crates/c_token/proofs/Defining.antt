-- Macros by number: what a name's number says, and one more macro.
use Rattle.std.proofs.Common.{◌≡◌, ℕ, zero, suc, ◌+◌, ◌-◌, ◌<◌, ◌≤◌, Bool, true, false, cond, ◌&&◌, IsTrue, List, [], ◌∷◌, ◌++◌, length, drop, get_or, slice_get, bytes_eq, Option, Some, None, is_some, Bor, refl, sym, ap, subst, ◌∙◌, arith, append-nil, length-append, ⊎_elim}
use Rattle.std.proofs.lemmas.Bool.{lt-ltb, ltb-true, and_parts, and_from, cases_lt}
use Rattle.std.proofs.lemmas.List.{get_or_append_left}
use Rattle.std.proofs.lemmas.List.Folds.{list_all-append}
use Rattle.std.proofs.lemmas.Grind.{flat_map-append}
use Rattle.std.proofs.Math.Seq.{get_or-append_seam}
use Rattle.std.specs.HashMap.{get}
use Rattle.std.specs.List.{list_all}
use Rattle.dg_base.specs.declared.Place.{Place}
use Rattle.token_list.specs.declared.Token.{Token}
use Rattle.c_token.specs.declared.macros.Macro.{Macro}
use Rattle.c_token.specs.declared.macros.Reader.{Reader}
use Rattle.c_token.specs.declared.macros.Use.{Use}
use Rattle.c_token.specs.declared.macros.Use.TheVariants.{Plain, Macro as MacroUse}
use Rattle.c_token.specs.declared.words.Word.{Word}
use Rattle.c_token.specs.Macros.{Definition, Reading, bodies_of, macro_of, all_at, is_name, replaced, replaced_by, add, add_words, define}
use Rattle.c_token.specs.Searching.{uses_in, uses_of}
use Rattle.c_token.specs.Seen.{token}
use Rattle.c_token.specs.Skimming.{effects}
use Rattle.c_token.specs.Tables.{use_tokens, all_tokens, is_below, AllBelow, IsMacro, IsTable, IsPending, Reads, number_of, same_name, root_in}
use Rattle.c_token.proofs.Ends.{macro_here, all_at_again}

pub length_bodies : (ms : List Definition) → length (bodies_of ms) ≡ length ms
length_bodies [] = refl
length_bodies (m ∷ ms) = omega (arith, length-append (bodies_of ms) (m.body ∷ []), length_bodies ms)

-- a name's number is that of its newest macro
pub number_some : (ms : List Definition) (name : List ℕ) (n : ℕ) → number_of ms name ≡ Some n → (n < length ms) × (macro_of ms name ≡ Some (get_or (bodies_of ms) n []))
number_some [] name n e = cc
number_some (m ∷ ms) name n e = step (bytes_eq m.name name) e (number_some ms name n)
  where
    step : (b : Bool) → cond b (Some (length ms)) (number_of ms name) ≡ Some n
        → (number_of ms name ≡ Some n → (n < length ms) × (macro_of ms name ≡ Some (get_or (bodies_of ms) n [])))
        → (n < suc (length ms)) × (cond b (Some m.body) (macro_of ms name) ≡ Some (get_or (bodies_of ms ++ m.body ∷ []) n []))
    step true e f =
        let same : length ms ≡ n = cc in
        let here : get_or (bodies_of ms ++ m.body ∷ []) n [] ≡ m.body =
        ap (λ k. get_or (bodies_of ms ++ m.body ∷ []) k []) (sym (length_bodies ms ∙ same)) ∙ get_or-append_seam (bodies_of ms) m.body [] [] in
        (omega arith, ap Some (sym here))
    step false e f =
        let k = f e in
        let low : n < length (bodies_of ms) = omega (arith, length_bodies ms, k.0) in
        (omega (arith, k.0), k.1 ∙ ap Some (sym (get_or_append_left (bodies_of ms) (m.body ∷ []) [] n low)))

pub number_none : (ms : List Definition) (name : List ℕ) → number_of ms name ≡ None → macro_of ms name ≡ None
number_none [] name e = refl
number_none (m ∷ ms) name e = step (bytes_eq m.name name) e (number_none ms name)
  where
    step : (b : Bool) → cond b (Some (length ms)) (number_of ms name) ≡ None → (number_of ms name ≡ None → macro_of ms name ≡ None) → cond b (Some m.body) (macro_of ms name) ≡ None
    step true e f = cc
    step false e f = f e

-- uses of the first macros stay what they are
pub below_use : (n m : ℕ) (u : Use) → n ≤ m → IsTrue (is_below n u) → IsTrue (is_below m u)
below_use n m (Plain word) h b = refl
below_use n m (MacroUse k place) h b = let l = ltb-true k n b in lt-ltb k m (omega arith)

pub below_all : (n m : ℕ) (us : List Use) → n ≤ m → AllBelow n us → AllBelow m us
below_all n m [] h b = refl
below_all n m (u ∷ us) h b =
    let parts = and_parts (is_below n u) (list_all (is_below n) us) b in
    and_from (is_below m u) (list_all (is_below m) us) (below_use n m u h parts.0) (below_all n m us h parts.1)

use_tokens_more : (bodies : List (List Token)) (body : List Token) (n : ℕ) (u : Use) → n ≤ length bodies → IsTrue (is_below n u) → use_tokens (bodies ++ body ∷ []) u ≡ use_tokens bodies u
use_tokens_more bodies body n (Plain word) h b = refl
use_tokens_more bodies body n (MacroUse k place) h b =
    let l = ltb-true k n b in
    let low : k < length bodies = omega arith in
    ap (all_at place) (get_or_append_left bodies (body ∷ []) [] k low)

pub all_tokens_more : (bodies : List (List Token)) (body : List Token) (n : ℕ) (us : List Use) → n ≤ length bodies → AllBelow n us → all_tokens (bodies ++ body ∷ []) us ≡ all_tokens bodies us
all_tokens_more bodies body n [] h b = refl
all_tokens_more bodies body n (u ∷ us) h b =
    let parts = and_parts (is_below n u) (list_all (is_below n) us) b in
    let first = use_tokens_more bodies body n u h parts.0 in
    let rest = all_tokens_more bodies body n us h parts.1 in
    ap (λ ts. ts ++ all_tokens (bodies ++ body ∷ []) us) first ∙ ap (λ ts. use_tokens bodies u ++ ts) rest

below_drop : (n k : ℕ) (us : List Use) → AllBelow n us → AllBelow n (drop k us)
below_drop n zero us b = b
below_drop n (suc k) [] b = b
below_drop n (suc k) (u ∷ us) b = below_drop n k us (and_parts (is_below n u) (list_all (is_below n) us) b).1

is_macro_more : (bodies : List (List Token)) (last : List Token) (n : ℕ) (m : Macro) (body : List Token) → n ≤ length bodies → IsMacro bodies n m body → IsMacro (bodies ++ last ∷ []) n m body
is_macro_more bodies last n m body h i = record {
  tokens = all_tokens_more bodies last n m.uses h i.below ∙ i.tokens;
  count = i.count;
  below = i.below;
  ends = λ j k.
      i.ends j k
      ∙ ap (λ ts. Some (effects ts)) (sym (all_tokens_more bodies last n (drop (length m.uses - j) m.uses) h (below_drop n (length m.uses - j) m.uses i.below)));
}

-- one more macro
pub table_more : (macros : List Macro) (bodies : List (List Token)) (m : Macro) (body : List Token) → IsTable macros bodies → IsMacro bodies (length macros) m body
    → IsTable (macros ++ m ∷ []) (bodies ++ body ∷ [])
table_more macros bodies m body t i = record {
  len = omega (arith, t.len, length-append macros (m ∷ []), length-append bodies (body ∷ []));
  at = λ k d h.
      ⊎_elim
      (λ low.
      let low_body : k < length bodies = omega (arith, t.len, low) in
      let there = is_macro_more bodies body k (get_or macros k d) (get_or bodies k []) (omega arith) (t.at k d low) in
      rw (get_or_append_left macros (m ∷ []) d k low, get_or_append_left bodies (body ∷ []) [] k low_body) there)
      (λ high.
      let last : k ≡ length macros = omega (arith, length-append macros (m ∷ []), h) in
      let here = is_macro_more bodies body (length macros) m body (omega (arith, t.len)) i in
      let P : ℕ → Type 0 = λ j. IsMacro (bodies ++ body ∷ []) j (get_or (macros ++ m ∷ []) j d) (get_or (bodies ++ body ∷ []) j []) in
      subst P (sym last)
      (let Q : Macro → Type 0 = λ x. IsMacro (bodies ++ body ∷ []) (length macros) x (get_or (bodies ++ body ∷ []) (length macros) []) in
      subst Q (sym (get_or-append_seam macros m [] d))
      (let R : List Token → Type 0 = λ x. IsMacro (bodies ++ body ∷ []) (length macros) m x in
      subst R (sym (ap (λ j. get_or (bodies ++ body ∷ []) j []) t.len ∙ get_or-append_seam bodies body [] [])) here)))
      (cases_lt k (length macros));
}

pub below_push : (n : ℕ) (us : List Use) (u : Use) → AllBelow n us → IsTrue (is_below n u) → AllBelow n (us ++ u ∷ [])
below_push n us u b h = list_all-append (is_below n) us (u ∷ []) ∙ and_from (list_all (is_below n) us) (is_below n u && true) b (and_from (is_below n u) true h refl)

pub tokens_push : (bodies : List (List Token)) (us : List Use) (u : Use) → all_tokens bodies (us ++ u ∷ []) ≡ all_tokens bodies us ++ all_tokens bodies (u ∷ [])
tokens_push bodies us u = flat_map-append (use_tokens bodies) us (u ∷ [])

-- a name that is a macro's, and one that isn't
pub used_macro : (reader : Reader) (r : Reading) (word : Word) (n : ℕ) → Reads reader r → is_name word.kind ≡ true → get same_name reader.numbers word.text ≡ Some n
    → (all_tokens (bodies_of r.macros) (MacroUse n word.place ∷ []) ≡ replaced r.macros (token word)) × IsTrue (is_below (length reader.macros) (MacroUse n word.place))
used_macro reader r word n h name e =
    let found = number_some r.macros word.text.now n (sym (h.numbers word.text) ∙ e) in
    let low : n < length reader.macros = omega (arith, h.table.len, length_bodies r.macros, found.0) in
    (append-nil _ ∙ sym (ap (λ b. cond b (replaced_by (token word) (macro_of r.macros word.text.now)) (token word ∷ [])) name ∙ ap (replaced_by (token word)) found.1), lt-ltb n (length reader.macros) low)

-- the tokens of a macro's only use are the macro's, wherever it stands
root_is : (bodies : List (List Token)) (n : ℕ) (us : List Use) (body : List Token) (place : Place) (k : ℕ) → all_tokens bodies us ≡ body → AllBelow n us → get_or bodies n [] ≡ body → root_in n us ≡ Some k
    → (k ≤ n) × (all_at place (get_or bodies k []) ≡ all_at place (get_or bodies n []))
root_is bodies n [] body place k e b here h = cc
root_is bodies n (Plain word ∷ []) body place k e b here h =
    let same : n ≡ k = cc in
    (omega arith, ap (λ i. all_at place (get_or bodies i [])) (sym same))
root_is bodies n (MacroUse i q ∷ []) body place k e b here h =
    let same : i ≡ k = cc in
    let low = ltb-true i n (and_parts (is_below n (MacroUse i q)) true b).0 in
    let whole : all_at q (get_or bodies i []) ≡ get_or bodies n [] = sym (append-nil (all_at q (get_or bodies i []))) ∙ (e ∙ sym here) in (
      omega arith,
      ap (λ j. all_at place (get_or bodies j [])) (sym same) ∙ (sym (all_at_again place q (get_or bodies i [])) ∙ ap (all_at place) whole),
    )
root_is bodies n (u ∷ v ∷ us) body place k e b here h =
    let same : n ≡ k = cc in
    (omega arith, ap (λ i. all_at place (get_or bodies i [])) (sym same))

root_none : (bodies : List (List Token)) (n : ℕ) (us : List Use) → root_in n us ≡ None → all_tokens bodies us ≡ []
root_none bodies n [] h = refl
root_none bodies n (u ∷ []) h = cc
root_none bodies n (u ∷ v ∷ us) h = cc

-- a macro's uses, by its number
uses_made : (macros : List Macro) (bodies : List (List Token)) (n : ℕ) → IsTable macros bodies → n < length macros → (all_tokens bodies (uses_of macros n) ≡ get_or bodies n []) × AllBelow n (uses_of macros n)
uses_made macros bodies n t h = step (slice_get macros n) refl
  where
    none_past : (ms : List Macro) (k : ℕ) → k < length ms → slice_get ms k ≡ None → ⊥
    none_past [] k h e = omega arith
    none_past (m ∷ ms) zero h e = cc
    none_past (m ∷ ms) (suc k) h e = none_past ms k (omega arith) e

    step : (o : Option Macro) → slice_get macros n ≡ o → (all_tokens bodies (uses_in o) ≡ get_or bodies n []) × AllBelow n (uses_in o)
    step None e = absurd (none_past macros n h e)
    step (Some m) e = let made = macro_here macros bodies n m t e in (made.tokens, made.below)

pub used_root : (reader : Reader) (r : Reading) (word : Word) (n k : ℕ) → Reads reader r → is_name word.kind ≡ true → get same_name reader.numbers word.text ≡ Some n → root_in n (uses_of reader.macros n) ≡ Some k
    → (all_tokens (bodies_of r.macros) (MacroUse k word.place ∷ []) ≡ replaced r.macros (token word)) × IsTrue (is_below (length reader.macros) (MacroUse k word.place))
used_root reader r word n k h name e root =
    let found = used_macro reader r word n h name e in
    let low = ltb-true n (length reader.macros) found.1 in
    let made = uses_made reader.macros (bodies_of r.macros) n h.table low in
    let same = root_is (bodies_of r.macros) n (uses_of reader.macros n) (get_or (bodies_of r.macros) n []) word.place k made.0 made.1 refl root in
    (ap (λ ts. ts ++ []) same.1 ∙ found.0, lt-ltb k (length reader.macros) (omega (arith, same.0)))

pub used_nothing : (reader : Reader) (r : Reading) (word : Word) (n : ℕ) → Reads reader r → is_name word.kind ≡ true → get same_name reader.numbers word.text ≡ Some n → root_in n (uses_of reader.macros n) ≡ None
    → replaced r.macros (token word) ≡ []
used_nothing reader r word n h name e root =
    let found = used_macro reader r word n h name e in
    let low = ltb-true n (length reader.macros) found.1 in
    let made = uses_made reader.macros (bodies_of r.macros) n h.table low in
    let empty : get_or (bodies_of r.macros) n [] ≡ [] = sym made.0 ∙ root_none (bodies_of r.macros) n (uses_of reader.macros n) root in
    sym found.0 ∙ ap (λ ts. all_at word.place ts ++ []) empty

-- a token that gives nothing changes nothing
pub reads_nothing : (reader : Reader) (r : Reading) (t : Token) → Reads reader r → replaced r.macros t ≡ [] → Reads reader (add r t)
reads_nothing reader r t h e = subst (Reads reader) (sym (ap (add_words r.pending r) e ∙ step r.pending refl)) h
  where
    step : (p : Option Definition) → r.pending ≡ p → add_words p r [] ≡ r
    step None k = ap (λ ws. record r { words = ws }) (append-nil r.words)
    step (Some m) k = ap (λ b. record r { pending = Some (record m { body = b }) }) (append-nil m.body) ∙ ap (λ p. record r { pending = p }) (sym k)

pub used_plain : (reader : Reader) (r : Reading) (word : Word) → Reads reader r → is_name word.kind ≡ true → get same_name reader.numbers word.text ≡ None
    → token word ∷ [] ≡ replaced r.macros (token word)
used_plain reader r word h name e =
    let none = number_none r.macros word.text.now (sym (h.numbers word.text) ∙ e) in
    sym (ap (λ b. cond b (replaced_by (token word) (macro_of r.macros word.text.now)) (token word ∷ [])) name ∙ ap (replaced_by (token word)) none)

abbrev with_body : List Use → Reader → Reader
with_body us reader = record { alloc = reader.alloc; numbers = reader.numbers; macros = reader.macros; pending = reader.pending; body = us; uses = reader.uses }

abbrev with_uses : List Use → Reader → Reader
with_uses us reader = record { alloc = reader.alloc; numbers = reader.numbers; macros = reader.macros; pending = reader.pending; body = reader.body; uses = us }

-- a use is put to the macro's line
pub reads_body : (reader : Reader) (r : Reading) (us : List Use) (u : Use) (t : Token) → Reads reader r → is_some reader.pending ≡ true → us ≡ reader.body ++ u ∷ []
    → all_tokens (bodies_of r.macros) (u ∷ []) ≡ replaced r.macros t → IsTrue (is_below (length reader.macros) u) → Reads (with_body us reader) (add r t)
reads_body reader r us u t h is_open same tokens below = step reader.pending r.pending h.pending is_open refl
  where
    all : all_tokens (bodies_of r.macros) us ≡ all_tokens (bodies_of r.macros) reader.body ++ replaced r.macros t
    all = ap (all_tokens (bodies_of r.macros)) same ∙ (tokens_push (bodies_of r.macros) reader.body u ∙ ap (λ ts. all_tokens (bodies_of r.macros) reader.body ++ ts) tokens)

    step : (o : Option (Bor (List ℕ))) (p : Option Definition) → IsPending (bodies_of r.macros) o reader.body p → is_some o ≡ true → reader.pending ≡ o
        → Reads (with_body us reader) (add_words p r (replaced r.macros t))
    step None p i e k = cc
    step (Some name) None i e k = absurd i
    step (Some name) (Some m) i e k = record {
      table = h.table;
      numbers = h.numbers;
      uses = h.uses;
      uses_below = h.uses_below;
      pending = subst (λ o. IsPending (bodies_of r.macros) o us (Some (record m { body = m.body ++ replaced r.macros t }))) (sym k) (i.0, all ∙ ap (λ ts. ts ++ replaced r.macros t) i.1);
      body_below = subst (AllBelow (length reader.macros)) (sym same) (below_push (length reader.macros) reader.body u h.body_below below);
    }

-- a use is put to those outside directives
pub reads_use : (reader : Reader) (r : Reading) (us : List Use) (u : Use) (t : Token) → Reads reader r → is_some reader.pending ≡ false → us ≡ reader.uses ++ u ∷ []
    → all_tokens (bodies_of r.macros) (u ∷ []) ≡ replaced r.macros t → IsTrue (is_below (length reader.macros) u) → Reads (with_uses us reader) (add r t)
reads_use reader r us u t h is_closed same tokens below = step reader.pending r.pending h.pending is_closed refl
  where
    all : all_tokens (bodies_of r.macros) us ≡ r.words ++ replaced r.macros t
    all =
        ap (all_tokens (bodies_of r.macros)) same
        ∙ (tokens_push (bodies_of r.macros) reader.uses u ∙ (ap (λ ts. all_tokens (bodies_of r.macros) reader.uses ++ ts) tokens ∙ ap (λ ts. ts ++ replaced r.macros t) h.uses))

    step : (o : Option (Bor (List ℕ))) (p : Option Definition) → IsPending (bodies_of r.macros) o reader.body p → is_some o ≡ false → reader.pending ≡ o
        → Reads (with_uses us reader) (add_words p r (replaced r.macros t))
    step (Some name) p i e k = cc
    step None (Some m) i e k = absurd i
    step None None i e k = record {
      table = h.table;
      numbers = h.numbers;
      uses = all;
      uses_below = subst (AllBelow (length reader.macros)) (sym same) (below_push (length reader.macros) reader.uses u h.uses_below below);
      pending = h.pending;
      body_below = h.body_below;
    }

-- a macro is defined
pub reads_define : (reader next : Reader) (r : Reading) (name : Bor (List ℕ)) (made : Macro) → Reads reader r → reader.pending ≡ Some name → next.macros ≡ reader.macros ++ made ∷ []
    → IsMacro (bodies_of r.macros) (length reader.macros) made (all_tokens (bodies_of r.macros) reader.body)
    → ((q : Bor (List ℕ)) → get same_name next.numbers q ≡ cond (same_name name q) (Some (length reader.macros)) (get same_name reader.numbers q)) → next.pending ≡ None → next.body ≡ []
    → next.uses ≡ reader.uses → Reads next (define r.pending r)
reads_define reader next r name made h is_open macros is_made numbers closed empty uses = step r.pending (subst (λ o. IsPending (bodies_of r.macros) o reader.body r.pending) is_open h.pending)
  where
    more : length next.macros ≡ length reader.macros + 1
    more = ap length macros ∙ length-append reader.macros (made ∷ [])

    step : (p : Option Definition) → IsPending (bodies_of r.macros) (Some name) reader.body p → Reads next (define p r)
    step None i = absurd i
    step (Some m) i = record {
      table =
          subst (λ ms. IsTable ms (bodies_of r.macros ++ m.body ∷ [])) (sym macros)
          (table_more reader.macros (bodies_of r.macros) made m.body h.table (subst (IsMacro (bodies_of r.macros) (length reader.macros) made) i.1 is_made));
      numbers =
          λ q.
          numbers q
          ∙ (ap (λ n. cond (bytes_eq n q.now) (Some (length reader.macros)) (get same_name reader.numbers q)) i.0
          ∙ (ap (λ k. cond (bytes_eq m.name q.now) (Some k) (get same_name reader.numbers q)) (h.table.len ∙ length_bodies r.macros)
          ∙ ap (λ o. cond (bytes_eq m.name q.now) (Some (length r.macros)) o) (h.numbers q)));
      uses = ap (all_tokens (bodies_of r.macros ++ m.body ∷ [])) uses ∙ (all_tokens_more (bodies_of r.macros) m.body (length reader.macros) reader.uses (omega (arith, h.table.len)) h.uses_below ∙ h.uses);
      uses_below = subst (AllBelow (length next.macros)) (sym uses) (below_all (length reader.macros) (length next.macros) reader.uses (omega (arith, more)) h.uses_below);
      pending = subst (λ o. IsPending (bodies_of r.macros ++ m.body ∷ []) o next.body None) (sym closed) tt;
      body_below = subst (AllBelow (length next.macros)) (sym empty) refl;
    }

-- the same of a macro made from the same macros and uses
pub made_from : (macros others : List Macro) (bodies : List (List Token)) (m : Macro) (uses us : List Use) → others ≡ macros → us ≡ uses
    → (IsTable others bodies → IsMacro bodies (length others) m (all_tokens bodies us)) → IsTable macros bodies → IsMacro bodies (length macros) m (all_tokens bodies uses)
made_from macros others bodies m uses us e k made table =
    subst (λ l. IsMacro bodies (length l) m (all_tokens bodies uses)) e
    (subst (λ l. IsMacro bodies (length others) m (all_tokens bodies l)) k (made (subst (λ l. IsTable l bodies) (sym e) table)))
