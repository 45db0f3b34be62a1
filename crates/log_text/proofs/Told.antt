-- Each reader of a word answers a value exactly where the word is the value's text.
use Rattle.std.proofs.Common.{◌≡◌, ◌≢◌, ℕ, zero, suc, ◌%◌, ◌<◌, ◌≤◌, Bool, true, false, ◌&&◌, cond, nat_le, nat_lt, List, [], ◌∷◌, Option, Some, None, inl, inr, refl, ap, sym, ◌∙◌, subst, arith, lt-ltb, ltb-true, le-leb, leb-true, eq-eqb, ne_eqb}
use Rattle.std.specs.Prelude.{codes, decimal, bytes_eq}
use Rattle.std.proofs.lemmas.Bool.{and_parts}
use Rattle.std.proofs.lemmas.Slice.Eq.{bytes_eq-Decides}
use Rattle.dg_base.specs.declared.Lit.{Lit}
use Rattle.cnf_problem.specs.Literals.{IsOver, negated, positive, var}
use Rattle.cnf_problem.specs.declared.problem.LemmaKind.{LemmaKind}
use Rattle.cnf_problem.specs.declared.problem.LemmaKind.TheVariants.{Unit as ByUnit, Cycle}
use Rattle.cnf_problem.proofs.LiteralLaws.{negated-even, parity, same_lit}
use Rattle.line_text.specs.Words.{given, lacks, number_in, strip}
use Rattle.line_text.proofs.Bytes.{has_byte, strip_front, strip_from}
use Rattle.line_text.proofs.Digits.{decimal_lacks, number_decimal, number_from}
use Rattle.line_text.proofs.Worded.{Told}
use Rattle.lemma_log.specs.declared.hints.Hint.{Hint}
use Rattle.lemma_log.specs.declared.hints.Hint.TheVariants.{Clause, Ticket}
use Rattle.log_text.specs.Formats.{hint_text, kind_text, lit_text, model_text}
use Rattle.log_text.specs.Lines.{hint_by, hint_in, is_zero, kind_in, lit_by, lit_in, model_in, ticket_in, variable_in, worker_in}
use Rattle.log_text.specs.Spelling.{IsHintWritten, IsNumber}

-- ---- numbers within a test

-- the word is the digits of a number of 32 bits that passes the test
pub record IsTested (test : ℕ → Bool) (w : List ℕ) (n : ℕ) : Type 0 where
  pub text : w ≡ decimal n
  pub small : IsNumber n
  pub passes : test n ≡ true

pub tested_from : {A : Type 0} (test : ℕ → Bool) (make : ℕ → A) (w : List ℕ) (x : A) → given (number_in w) (λ n. cond (test n) (Some (make n)) None) ≡ Some x → (n : ℕ) × IsTested test w n × (make n ≡ x)
tested_from {A} test make w x = step (number_in w) refl
  where
    within : (n : ℕ) → number_in w ≡ Some n → (b : Bool) → test n ≡ b → cond b (Some (make n)) None ≡ Some x → (n : ℕ) × IsTested test w n × (make n ≡ x)
    within n k false g e = cc
    within n k true g e = let d = number_from w n k in (n, record { text = d.digits; small = d.small; passes = g }, cc)

    step : (o : Option ℕ) → number_in w ≡ o → given o (λ n. cond (test n) (Some (make n)) None) ≡ Some x → (n : ℕ) × IsTested test w n × (make n ≡ x)
    step None k e = cc
    step (Some n) k e = within n k (test n) refl e

pub tested_of : {A : Type 0} (test : ℕ → Bool) (make : ℕ → A) (n : ℕ) → IsNumber n → test n ≡ true → given (number_in (decimal n)) (λ m. cond (test m) (Some (make m)) None) ≡ Some (make n)
tested_of test make n h k = rw (number_decimal n h, k) refl

-- ---- the words of an entry

pub worker_told : (w : List ℕ) (n : ℕ) → worker_in w ≡ Some n → Told decimal (λ k. k < 16) w n
worker_told w n e =
    let t = tested_from (λ k. nat_lt k 16) (λ k. k) w n e in
    subst (Told decimal (λ k. k < 16) w) t.2 (record { text = t.1.text; good = ltb-true t.0 16 t.1.passes })

pub worker_of : (n : ℕ) → n < 16 → worker_in (decimal n) ≡ Some n
worker_of n h = tested_of (λ k. nat_lt k 16) (λ k. k) n (omega arith) (lt-ltb n 16 h)

same_bytes : (a b : List ℕ) → bytes_eq a b ≡ true → a ≡ b
same_bytes a b = (bytes_eq-Decides a b).0

pub kind_told : (w : List ℕ) (k : LemmaKind) → kind_in w ≡ Some k → w ≡ kind_text k
kind_told w k = unit (bytes_eq w (codes "u")) refl
  where
    cycle : (b : Bool) → bytes_eq w (codes "c") ≡ b → cond b (Some Cycle) None ≡ Some k → w ≡ kind_text k
    cycle false g e = cc
    cycle true g e = let same : Cycle ≡ k = cc in subst (λ l. w ≡ kind_text l) same (same_bytes w (codes "c") g)

    unit : (b : Bool) → bytes_eq w (codes "u") ≡ b → cond b (Some ByUnit) (cond (bytes_eq w (codes "c")) (Some Cycle) None) ≡ Some k → w ≡ kind_text k
    unit false g e = cycle (bytes_eq w (codes "c")) refl e
    unit true g e = let same : ByUnit ≡ k = cc in subst (λ l. w ≡ kind_text l) same (same_bytes w (codes "u") g)

pub kind_of : (k : LemmaKind) → kind_in (kind_text k) ≡ Some k
kind_of ByUnit = refl
kind_of Cycle = refl

-- ---- literals

no_strip : (b : ℕ) (t : List ℕ) → lacks b t ≡ true → strip (b ∷ []) t ≡ None
no_strip b t h = step (strip (b ∷ []) t) refl
  where
    step : (o : Option (List ℕ)) → strip (b ∷ []) t ≡ o → o ≡ None
    step None e = refl
    step (Some r) e = absurd (has_byte b [] r (subst (λ l. lacks b l ≡ true) (strip_from (b ∷ []) t r e) h))

even_text : (l : Lit) → l.0 % 2 ≡ 0 → lit_text l ≡ decimal (var l)
even_text l e = rw (eq-eqb (l.0 % 2) 0 e) refl

odd_text : (l : Lit) → l.0 % 2 ≡ 1 → lit_text l ≡ 45 ∷ decimal (var l)
odd_text l e = let other : l.0 % 2 ≢ 0 = omega arith in rw (ne_eqb (l.0 % 2) 0 other) refl

even : (v : ℕ) → (positive v).0 % 2 ≡ 0
even v = omega arith

var_positive : (v : ℕ) → var (positive v) ≡ v
var_positive v = omega arith

odd : (v : ℕ) → (negated (positive v)).0 % 2 ≡ 1
odd v = rw (negated-even (positive v) (even v)) (omega arith)

var_negative : (v : ℕ) → var (negated (positive v)) ≡ v
var_negative v = rw (negated-even (positive v) (even v)) (omega arith)

pub record IsVariable (w : List ℕ) (v : ℕ) : Type 0 where
  pub text : w ≡ decimal v
  pub low : 1 ≤ v
  pub high : v ≤ 2147483647

variable_from : (w : List ℕ) (v : ℕ) → variable_in w ≡ Some v → IsVariable w v
variable_from w v e =
    let t = tested_from (λ n. nat_le 1 n && nat_le n 2147483647) (λ n. n) w v e in
    let p = and_parts (nat_le 1 t.0) (nat_le t.0 2147483647) t.1.passes in
    subst (IsVariable w) t.2 (record { text = t.1.text; low = leb-true 1 t.0 p.0; high = leb-true t.0 2147483647 p.1 })

variable_of : (v : ℕ) → 1 ≤ v → v ≤ 2147483647 → variable_in (decimal v) ≡ Some v
variable_of v low high =
    let passes : (nat_le 1 v && nat_le v 2147483647) ≡ true = rw (le-leb 1 v low, le-leb v 2147483647 high) refl in
    tested_of (λ n. nat_le 1 n && nat_le n 2147483647) (λ n. n) v (omega arith) passes

pub lit_told : (w : List ℕ) (l : Lit) → lit_in w ≡ Some l → Told lit_text (IsOver 2147483647) w l
lit_told w l = step (strip (codes "-") w) refl
  where
    positive_lit : (o : Option ℕ) → variable_in w ≡ o → given o (λ v. Some (positive v)) ≡ Some l → Told lit_text (IsOver 2147483647) w l
    positive_lit None k e = cc
    positive_lit (Some v) k e =
        let same : positive v ≡ l = cc in
        let is = variable_from w v k in
        let n = var_positive v in
        subst (Told lit_text (IsOver 2147483647) w) same (record { text = is.text ∙ sym (even_text (positive v) (even v) ∙ ap decimal n); good = (rw n is.low, rw n is.high) })

    negative_lit : (word : List ℕ) → w ≡ 45 ∷ word → (o : Option ℕ) → variable_in word ≡ o → given o (λ v. Some (negated (positive v))) ≡ Some l → Told lit_text (IsOver 2147483647) w l
    negative_lit word front None k e = cc
    negative_lit word front (Some v) k e =
        let same : negated (positive v) ≡ l = cc in
        let is = variable_from word v k in
        let n = var_negative v in
        let text : w ≡ lit_text (negated (positive v)) = front ∙ (ap (λ t. 45 ∷ t) is.text ∙ sym (odd_text (negated (positive v)) (odd v) ∙ ap (λ m. 45 ∷ decimal m) n)) in
        subst (Told lit_text (IsOver 2147483647) w) same (record { text = text; good = (rw n is.low, rw n is.high) })

    step : (o : Option (List ℕ)) → strip (codes "-") w ≡ o → lit_by w o ≡ Some l → Told lit_text (IsOver 2147483647) w l
    step None k e = positive_lit (variable_in w) refl e
    step (Some word) k e = negative_lit word (strip_from (codes "-") w word k) (variable_in word) refl e

pub lit_of : (l : Lit) → IsOver 2147483647 l → lit_in (lit_text l) ≡ Some l
lit_of l h =
    elim (parity l.0) [
      | inl e ↦
          let v = variable_of (var l) h.0 h.1 in
          let none = no_strip 45 (decimal (var l)) (decimal_lacks 45 (var l) (omega arith) (omega arith)) in
          let same : positive (var l) ≡ l = same_lit (positive (var l)) l (omega arith) in
          ap lit_in (even_text l e) ∙ (ap (lit_by (decimal (var l))) none ∙ (ap (λ o. given o (λ n. Some (positive n))) v ∙ ap Some same))
      | inr e ↦
          let v = variable_of (var l) h.0 h.1 in
          let some = strip_front (codes "-") (decimal (var l)) in
          let code = negated-even (positive (var l)) (even (var l)) in
          let same : negated (positive (var l)) ≡ l = same_lit (negated (positive (var l))) l (code ∙ omega arith) in
          ap lit_in (odd_text l e) ∙ (ap (lit_by (45 ∷ decimal (var l))) some ∙ (ap (λ o. given o (λ n. Some (negated (positive n)))) v ∙ ap Some same))
    ]

-- ---- hints

pub hint_told : (w : List ℕ) (h : Hint) → hint_in w ≡ Some h → Told hint_text IsHintWritten w h
hint_told w h = step (strip (codes "p") w) refl
  where
    ticket : (word : List ℕ) → w ≡ 116 ∷ word → (o : Option ℕ) → number_in word ≡ o → given o (λ n. Some (Ticket n)) ≡ Some h → Told hint_text IsHintWritten w h
    ticket word front None k e = cc
    ticket word front (Some n) k e =
        let same : Ticket n ≡ h = cc in
        let d = number_from word n k in
        subst (Told hint_text IsHintWritten w) same (record { text = front ∙ ap (λ t. 116 ∷ t) d.digits; good = d.small })

    by_ticket : (o : Option (List ℕ)) → strip (codes "t") w ≡ o → given o ticket_in ≡ Some h → Told hint_text IsHintWritten w h
    by_ticket None k e = cc
    by_ticket (Some word) k e = ticket word (strip_from (codes "t") w word k) (number_in word) refl e

    step : (o : Option (List ℕ)) → strip (codes "p") w ≡ o → hint_by w o ≡ Some h → Told hint_text IsHintWritten w h
    step None k e = by_ticket (strip (codes "t") w) refl e
    step (Some word) k e =
        let t = tested_from (λ n. nat_le 1 n) (λ n. Clause n) word h e in
        let text : w ≡ 112 ∷ decimal t.0 = strip_from (codes "p") w word k ∙ ap (λ l. 112 ∷ l) t.1.text in
        subst (Told hint_text IsHintWritten w) t.2 (record { text = text; good = (leb-true 1 t.0 t.1.passes, t.1.small) })

pub hint_of : (h : Hint) → IsHintWritten h → hint_in (hint_text h) ≡ Some h
hint_of (Clause n) g = ap (hint_by (112 ∷ decimal n)) (strip_front (codes "p") (decimal n)) ∙ tested_of (λ m. nat_le 1 m) (λ m. Clause m) n g.1 (le-leb 1 n g.0)
hint_of (Ticket n) g = ap (λ o. given o ticket_in) (strip_front (codes "t") (decimal n)) ∙ ap (λ o. given o (λ m. Some (Ticket m))) (number_decimal n g)

-- ---- models

pub model_told : (w : List ℕ) (m : ℕ) → model_in w ≡ Some m → (w ≡ model_text m) × (m ≤ 2)
model_told w m = sc (bytes_eq w (codes "sc")) refl
  where
    found : (k : ℕ) → k ≤ 2 → w ≡ model_text k → k ≡ m → (w ≡ model_text m) × (m ≤ 2)
    found k small text same = subst (λ n. (w ≡ model_text n) × (n ≤ 2)) same (text, small)

    pso : (b : Bool) → bytes_eq w (codes "pso") ≡ b → cond b (Some 2) None ≡ Some m → (w ≡ model_text m) × (m ≤ 2)
    pso false g e = cc
    pso true g e = found 2 (omega arith) (same_bytes w (codes "pso") g) (cc)

    tso : (b : Bool) → bytes_eq w (codes "tso") ≡ b → cond b (Some 1) (cond (bytes_eq w (codes "pso")) (Some 2) None) ≡ Some m → (w ≡ model_text m) × (m ≤ 2)
    tso false g e = pso (bytes_eq w (codes "pso")) refl e
    tso true g e = found 1 (omega arith) (same_bytes w (codes "tso") g) (cc)

    sc : (b : Bool) → bytes_eq w (codes "sc") ≡ b → cond b (Some 0) (cond (bytes_eq w (codes "tso")) (Some 1) (cond (bytes_eq w (codes "pso")) (Some 2) None)) ≡ Some m → (w ≡ model_text m) × (m ≤ 2)
    sc false g e = tso (bytes_eq w (codes "tso")) refl e
    sc true g e = found 0 (omega arith) (same_bytes w (codes "sc") g) (cc)

pub model_of : (m : ℕ) → m ≤ 2 → model_in (model_text m) ≡ Some m
model_of zero h = refl
model_of (suc zero) h = refl
model_of (suc (suc zero)) h = refl
model_of (suc (suc (suc m))) h = absurd (omega arith)

-- ---- what words lack

letter_lacks : (b x : ℕ) (t : List ℕ) → b < 45 → 45 ≤ x → lacks b t ≡ true → lacks b (x ∷ t) ≡ true
letter_lacks b x t low high h = let other : x ≢ b = omega arith in rw (ne_eqb x b other) h

pub lit_lacks : (b : ℕ) (l : Lit) → b < 45 → IsOver 2147483647 l → lacks b (lit_text l) ≡ true
lit_lacks b l low h =
    let digits = decimal_lacks b (var l) (omega arith) (omega arith) in
    elim (parity l.0) [
      | inl e ↦ rw (even_text l e) digits
      | inr e ↦ rw (odd_text l e) (letter_lacks b 45 (decimal (var l)) low (omega arith) digits)
    ]

pub hint_lacks : (b : ℕ) (h : Hint) → b < 45 → IsHintWritten h → lacks b (hint_text h) ≡ true
hint_lacks b (Clause n) low g = letter_lacks b 112 (decimal n) low (omega arith) (decimal_lacks b n (omega arith) g.1)
hint_lacks b (Ticket n) low g = letter_lacks b 116 (decimal n) low (omega arith) (decimal_lacks b n (omega arith) g)

pub kind_lacks : (b : ℕ) (k : LemmaKind) → b < 45 → lacks b (kind_text k) ≡ true
kind_lacks b ByUnit low = letter_lacks b 117 [] low (omega arith) refl
kind_lacks b Cycle low = letter_lacks b 99 [] low (omega arith) refl

pub zero_lacks : (b : ℕ) → b < 45 → lacks b (codes "0") ≡ true
zero_lacks b low = letter_lacks b 48 [] low (omega arith) refl

-- ---- no word of a literal or a hint is a `0`

pub lit_not_zero : (w : List ℕ) (l : Lit) → lit_in w ≡ Some l → is_zero w ≡ false
lit_not_zero w l e = step (is_zero w) refl
  where
    step : (b : Bool) → is_zero w ≡ b → b ≡ false
    step false k = refl
    step true k =
        let none : lit_in (codes "0") ≡ None = refl in
        let there : lit_in w ≡ None = ap lit_in (same_bytes w (codes "0") k) ∙ none in
        cc

pub hint_not_zero : (w : List ℕ) (h : Hint) → hint_in w ≡ Some h → is_zero w ≡ false
hint_not_zero w h e = step (is_zero w) refl
  where
    step : (b : Bool) → is_zero w ≡ b → b ≡ false
    step false k = refl
    step true k =
        let none : hint_in (codes "0") ≡ None = refl in
        let there : hint_in w ≡ None = ap hint_in (same_bytes w (codes "0") k) ∙ none in
        cc

pub is_zero_same : (w : List ℕ) → is_zero w ≡ true → w ≡ codes "0"
is_zero_same w h = same_bytes w (codes "0") h
