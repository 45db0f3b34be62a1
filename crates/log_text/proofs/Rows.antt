-- The line of an entry is read exactly where it is the entry's line.
use Rattle.std.proofs.Common.{◌≡◌, ℕ, zero, suc, ◌+◌, ◌<◌, Bool, true, false, ◌&&◌, cond, eqb, nat_lt, List, [], ◌∷◌, ◌++◌, map, length, Option, Some, None, refl, ap, sym, ◌∙◌, subst, arith, lt-ltb, ltb-true, eq-eqb, eqb-true}
use Rattle.std.specs.Prelude.{codes, decimal, slice_index}
use Rattle.std.specs.List.{AllByRecursion}
use Rattle.std.specs.List.Sorted.{IsStrictlyIncreasing}
use Rattle.std.proofs.lemmas.Bool.{and_parts}
use Rattle.dg_base.specs.declared.Lit.{Lit}
use Rattle.cnf_problem.specs.Literals.{IsOver, var}
use Rattle.cnf_problem.specs.declared.problem.LemmaKind.{LemmaKind}
use Rattle.cnf_problem.specs.declared.problem.LemmaKind.TheVariants.{Unit as ByUnit, Cycle}
use Rattle.line_text.specs.Words.{front_word, given, lacks, number_in, shown, words_behind}
use Rattle.line_text.proofs.Digits.{decimal_lacks, number_decimal, number_from}
use Rattle.line_text.proofs.Worded.{front_before, shown_opens, text_words, words_before, words_shown}
use Rattle.lemma_log.specs.declared.hints.Hint.{Hint}
use Rattle.log_text.specs.Formats.{Row, hint_text, hint_words, kind_text, lit_text, row_line, row_words, spaced}
use Rattle.log_text.specs.Lines.{Opening, Upto, ended_by, hint_in, hints_behind, hints_from, is_zero, kind_in, lit_in, lits_from, opening_by, opening_in, push_front, row_by, row_in, worker_in}
use Rattle.log_text.specs.Spelling.{IsHintWritten, IsNumber, IsRowWritten}
use Rattle.log_text.proofs.Listed.{all_append, all_map}
use Rattle.log_text.proofs.Told.{hint_lacks, hint_not_zero, hint_of, hint_told, is_zero_same, kind_lacks, kind_of, kind_told, lit_lacks, lit_not_zero, lit_of, lit_told, worker_of, worker_told, zero_lacks}

-- ---- words and blanks

pub spaced_words : (w : List ℕ) (ws : List (List ℕ)) → lacks 32 w ≡ true → AllByRecursion (λ v. lacks 32 v ≡ true) ws → (front_word (spaced (w ∷ ws)) ≡ w) × (words_behind (spaced (w ∷ ws)) ≡ ws)
spaced_words w ws h k =
    let rest = shown (λ (v : List ℕ). v) ws in
    let same = words_before w rest h ∙ (words_shown (λ (v : List ℕ). v) ws k ∙ map_same ws) in
    (front_before w rest h (shown_opens (λ (v : List ℕ). v) ws), same)
  where
    map_same : (vs : List (List ℕ)) → map (λ v. v) vs ≡ vs
    map_same [] = refl
    map_same (v ∷ vs) = ap (λ l. v ∷ l) (map_same vs)

-- ---- variables that rise

abbrev pub RisesFrom : ℕ → List Lit → Type 0
RisesFrom v [] = Unit {0}
RisesFrom v (l ∷ ls) = (v < var l) × RisesFrom (var l) ls

pub rises_increasing : (v : ℕ) (ls : List Lit) → RisesFrom v ls → IsStrictlyIncreasing (map var ls)
rises_increasing v [] h = λ k g. absurd (omega arith)
rises_increasing v (l ∷ []) h = λ k g. absurd (omega arith)
rises_increasing v (l ∷ m ∷ ls) h = at (rises_increasing (var l) (m ∷ ls) h.1)
  where
    at : IsStrictlyIncreasing (map var (m ∷ ls)) → (k : ℕ) → k + 1 < length (map var (l ∷ m ∷ ls)) → slice_index (map var (l ∷ m ∷ ls)) k < slice_index (map var (l ∷ m ∷ ls)) (k + 1)
    at more zero g = h.1.0
    at more (suc k) g =
        let one : suc k + 1 ≡ suc (k + 1) = omega arith in
        rw one (more k (omega arith))

rises_after : (l : Lit) (ls : List Lit) → IsStrictlyIncreasing (map var (l ∷ ls)) → RisesFrom (var l) ls
rises_after l [] h = tt
rises_after l (m ∷ ls) h = (h 0 (omega arith), rises_after m ls (λ k g. let one : suc k + 1 ≡ suc (k + 1) = omega arith in rw one at (h (suc k) (omega arith))))

pub increasing_rises : (ls : List Lit) → AllByRecursion (IsOver 2147483647) ls → IsStrictlyIncreasing (map var ls) → RisesFrom 0 ls
increasing_rises [] h k = tt
increasing_rises (l ∷ ls) h k = (omega arith, rises_after l ls k)

-- ---- lists of words up to a `0`

-- what was read, and that the words are theirs
pub record HasLits (v : ℕ) (ws : List (List ℕ)) (u : Upto Lit) : Type 0 where
  pub text : ws ≡ map lit_text u.read ++ codes "0" ∷ u.behind
  pub good : AllByRecursion (IsOver 2147483647) u.read
  pub rising : RisesFrom v u.read

pub lits_told : (v : ℕ) (ws : List (List ℕ)) (u : Upto Lit) → lits_from v ws ≡ Some u → HasLits v ws u
lits_told v [] u e = cc
lits_told v (w ∷ ws) u e = step (is_zero w) refl e (λ k. lits_told k ws)
  where
    rest : (l : Lit) → lit_in w ≡ Some l → v < var l → (o : Option (Upto Lit)) → lits_from (var l) ws ≡ o → given o (push_front l) ≡ Some u → ((t : Upto Lit) → lits_from (var l) ws ≡ Some t → HasLits (var l) ws t) → HasLits v (w ∷ ws) u
    rest l k low None f g more = cc
    rest l k low (Some t) f g more =
        let told = lit_told w l k in
        let r = more t f in
        let all : Upto Lit = record { read = l ∷ t.read; behind = t.behind } in
        let same : all ≡ u = cc in
        subst (HasLits v (w ∷ ws)) same (record { text = ap (λ x. x ∷ ws) told.text ∙ ap (λ x. lit_text l ∷ x) r.text; good = (told.good, r.good); rising = (low, r.rising) })

    above : (l : Lit) → lit_in w ≡ Some l → (b : Bool) → nat_lt v (var l) ≡ b → cond b (given (lits_from (var l) ws) (push_front l)) None ≡ Some u → ((k : ℕ) (t : Upto Lit) → lits_from k ws ≡ Some t → HasLits k ws t) → HasLits v (w ∷ ws) u
    above l k false f g more = cc
    above l k true f g more = rest l k (ltb-true v (var l) f) (lits_from (var l) ws) refl g (more (var l))

    lit : (o : Option Lit) → lit_in w ≡ o → given o (λ l. cond (nat_lt v (var l)) (given (lits_from (var l) ws) (push_front l)) None) ≡ Some u → ((k : ℕ) (t : Upto Lit) → lits_from k ws ≡ Some t → HasLits k ws t) → HasLits v (w ∷ ws) u
    lit None k g more = cc
    lit (Some l) k g more = above l k (nat_lt v (var l)) refl g more

    step : (b : Bool) → is_zero w ≡ b → cond b (Some (record { read = []; behind = ws })) (given (lit_in w) (λ l. cond (nat_lt v (var l)) (given (lits_from (var l) ws) (push_front l)) None)) ≡ Some u
        → ((k : ℕ) (t : Upto Lit) → lits_from k ws ≡ Some t → HasLits k ws t) → HasLits v (w ∷ ws) u
    step false k g more = lit (lit_in w) refl g more
    step true k g more =
        let none : Upto Lit = record { read = []; behind = ws } in
        let same : none ≡ u = cc in
        subst (HasLits v (w ∷ ws)) same (record { text = ap (λ x. x ∷ ws) (is_zero_same w k); good = tt; rising = tt })

pub lits_of : (v : ℕ) (ls : List Lit) (ws : List (List ℕ)) → AllByRecursion (IsOver 2147483647) ls → RisesFrom v ls → lits_from v (map lit_text ls ++ codes "0" ∷ ws) ≡ Some (record { read = ls; behind = ws })
lits_of v [] ws h k = refl
lits_of v (l ∷ ls) ws h k =
    let one = lit_of l h.0 in
    rw (lit_not_zero (lit_text l) l one, one, lt-ltb v (var l) k.0, lits_of (var l) ls ws h.1 k.1) refl

pub record HasHints (ws : List (List ℕ)) (u : Upto Hint) : Type 0 where
  pub text : ws ≡ map hint_text u.read ++ codes "0" ∷ u.behind
  pub good : AllByRecursion IsHintWritten u.read

pub hints_told : (ws : List (List ℕ)) (u : Upto Hint) → hints_from ws ≡ Some u → HasHints ws u
hints_told [] u e = cc
hints_told (w ∷ ws) u e = step (is_zero w) refl e (hints_told ws)
  where
    rest : (h : Hint) → hint_in w ≡ Some h → (o : Option (Upto Hint)) → hints_from ws ≡ o → given o (push_front h) ≡ Some u → ((t : Upto Hint) → hints_from ws ≡ Some t → HasHints ws t) → HasHints (w ∷ ws) u
    rest h k None f g more = cc
    rest h k (Some t) f g more =
        let told = hint_told w h k in
        let r = more t f in
        let all : Upto Hint = record { read = h ∷ t.read; behind = t.behind } in
        let same : all ≡ u = cc in
        subst (HasHints (w ∷ ws)) same (record { text = ap (λ x. x ∷ ws) told.text ∙ ap (λ x. hint_text h ∷ x) r.text; good = (told.good, r.good) })

    hint : (o : Option Hint) → hint_in w ≡ o → given o (λ h. given (hints_from ws) (push_front h)) ≡ Some u → ((t : Upto Hint) → hints_from ws ≡ Some t → HasHints ws t) → HasHints (w ∷ ws) u
    hint None k g more = cc
    hint (Some h) k g more = rest h k (hints_from ws) refl g more

    step : (b : Bool) → is_zero w ≡ b → cond b (Some (record { read = []; behind = ws })) (given (hint_in w) (λ h. given (hints_from ws) (push_front h))) ≡ Some u → ((t : Upto Hint) → hints_from ws ≡ Some t → HasHints ws t) → HasHints (w ∷ ws) u
    step false k g more = hint (hint_in w) refl g more
    step true k g more =
        let none : Upto Hint = record { read = []; behind = ws } in
        let same : none ≡ u = cc in
        subst (HasHints (w ∷ ws)) same (record { text = ap (λ x. x ∷ ws) (is_zero_same w k); good = tt })

pub hints_of : (hs : List Hint) (ws : List (List ℕ)) → AllByRecursion IsHintWritten hs → hints_from (map hint_text hs ++ codes "0" ∷ ws) ≡ Some (record { read = hs; behind = ws })
hints_of [] ws h = refl
hints_of (k ∷ ks) ws h =
    let one = hint_of k h.0 in
    rw (hint_not_zero (hint_text k) k one, one, hints_of ks ws h.1) refl

-- ---- the hints of an entry

abbrev pub words_of_hints : Bool → LemmaKind → List Hint → List (List ℕ)
words_of_hints hinted kind hints = cond hinted (hint_words kind hints) []

pub record AreHintsOf (hinted : Bool) (kind : LemmaKind) (ws : List (List ℕ)) (hints : List Hint) : Type 0 where
  pub text : ws ≡ words_of_hints hinted kind hints
  pub good : AllByRecursion IsHintWritten hints
  pub plain : hinted ≡ false → hints ≡ []
  pub cycle : kind ≡ Cycle → hints ≡ []

no_hints : (ws : List (List ℕ)) (hints : List Hint) → ended_by ws [] ≡ Some hints → (ws ≡ []) × (hints ≡ [])
no_hints [] hints e = (refl, cc)
no_hints (w ∷ ws) hints e = cc

pub hints_behind_told : (hinted : Bool) (kind : LemmaKind) (ws : List (List ℕ)) (hints : List Hint) → hints_behind hinted kind ws ≡ Some hints → AreHintsOf hinted kind ws hints
hints_behind_told false kind ws hints e =
    let n = no_hints ws hints e in
    record { text = n.0; good = subst (AllByRecursion IsHintWritten) (sym n.1) tt; plain = λ _. n.1; cycle = λ _. n.1 }
hints_behind_told true Cycle ws hints e =
    let n = no_hints ws hints e in
    record { text = n.0; good = subst (AllByRecursion IsHintWritten) (sym n.1) tt; plain = λ _. n.1; cycle = λ _. n.1 }
hints_behind_told true ByUnit ws hints e = step (hints_from ws) refl e
  where
    ended : (u : Upto Hint) → hints_from ws ≡ Some u → (vs : List (List ℕ)) → u.behind ≡ vs → ended_by vs u.read ≡ Some hints → AreHintsOf true ByUnit ws hints
    ended u k [] f g =
        let same : u.read ≡ hints = cc in
        let h = hints_told ws u k in
        record {
          text = h.text ∙ (ap (λ l. map hint_text l ++ codes "0" ∷ u.behind) same ∙ ap (λ l. map hint_text hints ++ codes "0" ∷ l) f);
          good = subst (AllByRecursion IsHintWritten) same h.good;
          plain = λ x. cc;
          cycle = λ x. cc;
        }
    ended u k (v ∷ vs) f g = cc

    step : (o : Option (Upto Hint)) → hints_from ws ≡ o → given o (λ u. ended_by u.behind u.read) ≡ Some hints → AreHintsOf true ByUnit ws hints
    step None k g = cc
    step (Some u) k g = ended u k u.behind refl g

pub hints_behind_of : (hinted : Bool) (kind : LemmaKind) (hints : List Hint) → AllByRecursion IsHintWritten hints → (hinted ≡ false → hints ≡ []) → (kind ≡ Cycle → hints ≡ []) → hints_behind hinted kind (words_of_hints hinted kind hints) ≡ Some hints
hints_behind_of false kind hints h plain cycle = ap Some (sym (plain refl))
hints_behind_of true Cycle hints h plain cycle = ap Some (sym (cycle refl))
hints_behind_of true ByUnit hints h plain cycle = rw (hints_of hints [] h) refl

-- ---- the line

-- no word of the line has this byte, which is below a minus
pub words_lack : (b : ℕ) (hinted : Bool) (r : Row) → b < 45 → IsNumber r.ticket → IsRowWritten hinted r → AllByRecursion (λ w. lacks b w ≡ true) (row_words hinted r)
words_lack b hinted r low small h =
    let Lacks = λ (w : List ℕ). lacks b w ≡ true in
    let lits = all_map (IsOver 2147483647) Lacks lit_text r.lits (λ l g. lit_lacks b l low g) h.literals in
    let more = hint_part hinted r.kind r.hints h.hints in
    (decimal_lacks b r.ticket (omega arith) small, (decimal_lacks b r.worker (omega arith) (omega (arith, h.worker)), (kind_lacks b r.kind low, all_append Lacks (map lit_text r.lits) (codes "0" ∷ words_of_hints hinted r.kind r.hints) lits (zero_lacks b low, more))))
  where
    hint_part : (g : Bool) (kind : LemmaKind) (hints : List Hint) → AllByRecursion IsHintWritten hints → AllByRecursion (λ w. lacks b w ≡ true) (words_of_hints g kind hints)
    hint_part false kind hints k = tt
    hint_part true Cycle hints k = tt
    hint_part true ByUnit hints k =
        let Lacks = λ (w : List ℕ). lacks b w ≡ true in
        all_append Lacks (map hint_text hints) (codes "0" ∷ []) (all_map IsHintWritten Lacks hint_text hints (λ x g. hint_lacks b x low g) k) (zero_lacks b low, tt)

pub row_of_line : (hinted : Bool) (r : Row) → IsRowWritten hinted r → r.ticket < 4294967295 → row_in hinted r.ticket (row_line hinted r) ≡ Some r
row_of_line hinted r h small =
    let lack = words_lack 32 hinted r (omega arith) (omega arith) h in
    let words = map lit_text r.lits ++ codes "0" ∷ words_of_hints hinted r.kind r.hints in
    let parts = spaced_words (decimal r.ticket) (decimal r.worker ∷ kind_text r.kind ∷ words) lack.0 lack.1 in
    let number : number_in (decimal r.ticket) ≡ Some r.ticket = number_decimal r.ticket (omega arith) in
    let o : Opening = record { worker = r.worker; kind = r.kind; behind = words } in
    let opened : opening_by r.ticket (decimal r.ticket ∷ decimal r.worker ∷ kind_text r.kind ∷ words) ≡ Some o =
    rw (number, eq-eqb r.ticket r.ticket refl, lt-ltb r.ticket 4294967295 small, worker_of r.worker h.worker, kind_of r.kind) refl in
    let opening : opening_in r.ticket (row_line hinted r) ≡ Some o = ap (λ w. opening_by r.ticket (w ∷ words_behind (row_line hinted r))) parts.0 ∙ (ap (λ ws. opening_by r.ticket (decimal r.ticket ∷ ws)) parts.1 ∙ opened) in
    let lits = lits_of 0 r.lits (words_of_hints hinted r.kind r.hints) h.literals (increasing_rises r.lits h.literals h.rising) in
    let hints = hints_behind_of hinted r.kind r.hints h.hints h.plain h.cycle in
    let row : row_by hinted r.ticket o ≡ Some r = rw (lits, hints) refl in
    ap (λ p. given p (row_by hinted r.ticket)) opening ∙ row

-- the line is that of an entry with this ticket
pub record IsRowLine (hinted : Bool) (next : ℕ) (line : List ℕ) (r : Row) : Type 0 where
  pub text : line ≡ row_line hinted r
  pub ticket : r.ticket ≡ next
  pub small : next < 4294967295
  pub good : IsRowWritten hinted r

-- `TICKET WORKER KIND` and what is behind
pub record IsOpening (next : ℕ) (words : List (List ℕ)) (o : Opening) : Type 0 where
  pub text : words ≡ decimal next ∷ decimal o.worker ∷ kind_text o.kind ∷ o.behind
  pub worker : o.worker < 16
  pub small : next < 4294967295

opening_told : (next : ℕ) (words : List (List ℕ)) (o : Opening) → opening_by next words ≡ Some o → IsOpening next words o
opening_told next [] o e = cc
opening_told next (t ∷ []) o e = cc
opening_told next (t ∷ w ∷ []) o e = cc
opening_told next (t ∷ w ∷ k ∷ ws) o e = ticket (number_in t) refl e
  where
    by_kind : (n : ℕ) → number_in t ≡ Some n → n ≡ next → next < 4294967295 → (v : ℕ) → worker_in w ≡ Some v → (p : Option LemmaKind) → kind_in k ≡ p → given p (λ kind. Some (record { worker = v; kind = kind; behind = ws })) ≡ Some o → IsOpening next (t ∷ w ∷ k ∷ ws) o
    by_kind n a same small v b None f g = cc
    by_kind n a same small v b (Some kind) f g =
        let first = number_from t n a in
        let second = worker_told w v b in
        let third = kind_told k kind f in
        let all : Opening = record { worker = v; kind = kind; behind = ws } in
        let is : all ≡ o = cc in
        let words : t ∷ w ∷ k ∷ ws ≡ decimal next ∷ decimal v ∷ kind_text kind ∷ ws =
        ap (λ x. x ∷ w ∷ k ∷ ws) (first.digits ∙ ap decimal same) ∙ (ap (λ x. decimal next ∷ x ∷ k ∷ ws) second.text ∙ ap (λ x. decimal next ∷ decimal v ∷ x ∷ ws) third) in
        subst (IsOpening next (t ∷ w ∷ k ∷ ws)) is (record { text = words; worker = second.good; small = small })

    by_worker : (n : ℕ) → number_in t ≡ Some n → n ≡ next → next < 4294967295 → (p : Option ℕ) → worker_in w ≡ p → given p (λ worker. given (kind_in k) (λ kind. Some (record { worker = worker; kind = kind; behind = ws }))) ≡ Some o → IsOpening next (t ∷ w ∷ k ∷ ws) o
    by_worker n a same small None b g = cc
    by_worker n a same small (Some v) b g = by_kind n a same small v b (kind_in k) refl g

    in_turn : (n : ℕ) → number_in t ≡ Some n → (b : Bool) → (eqb n next && nat_lt next 4294967295) ≡ b → cond b (given (worker_in w) (λ worker. given (kind_in k) (λ kind. Some (record { worker = worker; kind = kind; behind = ws })))) None ≡ Some o → IsOpening next (t ∷ w ∷ k ∷ ws) o
    in_turn n a false f g = cc
    in_turn n a true f g =
        let p = and_parts (eqb n next) (nat_lt next 4294967295) f in
        by_worker n a (eqb-true n next p.0) (ltb-true next 4294967295 p.1) (worker_in w) refl g

    ticket : (p : Option ℕ) → number_in t ≡ p → given p (λ n. cond (eqb n next && nat_lt next 4294967295) (given (worker_in w) (λ worker. given (kind_in k) (λ kind. Some (record { worker = worker; kind = kind; behind = ws })))) None) ≡ Some o
        → IsOpening next (t ∷ w ∷ k ∷ ws) o
    ticket None a g = cc
    ticket (Some n) a g = in_turn n a (eqb n next && nat_lt next 4294967295) refl g

pub row_told : (hinted : Bool) (next : ℕ) (line : List ℕ) (r : Row) → row_in hinted next line ≡ Some r → IsRowLine hinted next line r
row_told hinted next line r e = opened (opening_in next line) refl e
  where
    by_hints : (o : Opening) → opening_in next line ≡ Some o → (u : Upto Lit) → lits_from 0 o.behind ≡ Some u → (p : Option (List Hint)) → hints_behind hinted o.kind u.behind ≡ p
        → given p (λ hints. Some (record { ticket = next; worker = o.worker; kind = o.kind; lits = u.read; hints = hints })) ≡ Some r → IsRowLine hinted next line r
    by_hints o a u b None f g = cc
    by_hints o a u b (Some hints) f g =
        let first = opening_told next (front_word line ∷ words_behind line) o a in
        let second = lits_told 0 o.behind u b in
        let third = hints_behind_told hinted o.kind u.behind hints f in
        let all : Row = record { ticket = next; worker = o.worker; kind = o.kind; lits = u.read; hints = hints } in
        let same : all ≡ r = cc in
        let words : front_word line ∷ words_behind line ≡ row_words hinted all =
        first.text ∙ (ap (λ l. decimal next ∷ decimal o.worker ∷ kind_text o.kind ∷ l) second.text ∙ ap (λ l. decimal next ∷ decimal o.worker ∷ kind_text o.kind ∷ (map lit_text u.read ++ codes "0" ∷ l)) third.text) in
        let text : line ≡ row_line hinted all = text_words line ∙ ap spaced words in
        subst (IsRowLine hinted next line) same (record {
          text = text;
          ticket = refl;
          small = first.small;
          good = record { worker = first.worker; literals = second.good; rising = rises_increasing 0 u.read second.rising; hints = third.good; plain = third.plain; cycle = third.cycle };
        })

    by_lits : (o : Opening) → opening_in next line ≡ Some o → (p : Option (Upto Lit)) → lits_from 0 o.behind ≡ p
        → given p (λ u. given (hints_behind hinted o.kind u.behind) (λ hints. Some (record { ticket = next; worker = o.worker; kind = o.kind; lits = u.read; hints = hints }))) ≡ Some r → IsRowLine hinted next line r
    by_lits o a None b g = cc
    by_lits o a (Some u) b g = by_hints o a u b (hints_behind hinted o.kind u.behind) refl g

    opened : (p : Option Opening) → opening_in next line ≡ p → given p (row_by hinted next) ≡ Some r → IsRowLine hinted next line r
    opened None a g = cc
    opened (Some o) a g = by_lits o a (lits_from 0 o.behind) refl g
