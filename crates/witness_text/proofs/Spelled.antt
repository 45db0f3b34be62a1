-- Each reader of a part of a line answers a value exactly where the part is the value's text.
use Rattle.std.proofs.Common.{◌≡◌, ◌≢◌, ℕ, zero, suc, ◌+◌, ◌<◌, ◌^◌, Bool, true, false, not, cond, eqb, nat_lt, List, [], ◌∷◌, ◌++◌, length, Option, Some, None, refl, ap, sym, ◌∙◌, subst, arith, one-add, lt-ltb, ltb-true, eqb-true}
use Rattle.std.specs.Prelude.{codes, decimal, bytes_eq}
use Rattle.std.specs.List.{AllByRecursion, position_or_len}
use Rattle.axiom_model.specs.declared.Event.{Event}
use Rattle.axiom_model.specs.declared.Event.TheVariants.{Initial, At}
use Rattle.axiom_model.specs.declared.RfPair.{RfPair}
use Rattle.witness_text.specs.declared.lines.ThreadHead.{ThreadHead}
use Rattle.witness_text.specs.Witness.{event_text, events_text, name_at, script_line}
use Rattle.line_text.specs.Words.{lacks}
use Rattle.c_check.specs.PlainNames.{AreDistinct}
use Rattle.witness_text.specs.Spelling.{IsNumber, HasEventNumbers, HasPairNumbers, is_action}
use Rattle.line_text.specs.Words.{given, strip, Cut, cut, number_in, words_in}
use Rattle.witness_text.specs.Lines.{action_in, event_in, narrow, function_in, head_in, source_in, order_in, script_in}
use Rattle.line_text.proofs.Bytes.{lacks_append}
use Rattle.c_check.proofs.PlainNames.{all_map}
use Rattle.line_text.proofs.Bytes.{strip_front, strip_from, cut_at, cut_from}
use Rattle.std.proofs.lemmas.Slice.Eq.{bytes_eq-Decides}
use Rattle.line_text.proofs.Digits.{number_from, number_decimal, decimal_lacks}
use Rattle.line_text.proofs.Worded.{Told, words_complete, words_sound}

-- what the text of an event lacks
pub event_lacks : (b : ℕ) (e : Event) → b < 46 → lacks b (codes "init") ≡ true → HasEventNumbers e → lacks b (event_text e) ≡ true
event_lacks b Initial low none h = none
event_lacks b (At k i) low none h =
    lacks_append b (decimal k) (46 ∷ decimal i) (decimal_lacks b k (omega arith) h.0) (dot (eqb 46 b) refl)
  where
    apart : 46 ≢ b
    apart same = omega arith

    dot : (t : Bool) → eqb 46 b ≡ t → cond t false (lacks b (decimal i)) ≡ true
    dot true k = absurd (apart (eqb-true 46 b k))
    dot false k = decimal_lacks b i (omega arith) h.1

pub action_text : (h i : ℕ) → IsNumber h → IsNumber i → action_in (decimal h ++ 46 ∷ decimal i) ≡ Some (At h i)
action_text h i p q = rw (cut_at 46 (decimal h) (decimal i) (decimal_lacks 46 h (omega arith) p), number_decimal h p, number_decimal i q) refl

-- an action's text
pub record IsActionText (t : List ℕ) (e : Event) : Type 0 where
  pub text : t ≡ event_text e
  pub numbers : HasEventNumbers e
  pub action : is_action e ≡ true

pub action_from : (t : List ℕ) (e : Event) → action_in t ≡ Some e → IsActionText t e
action_from t e = by_cut (cut 46 t) refl
  where
    by_index : (p : Cut) → cut 46 t ≡ Some p → (h : ℕ) → number_in p.front ≡ Some h → (o : Option ℕ) → number_in p.behind ≡ o → given o (λ i. Some (At h i)) ≡ Some e → IsActionText t e
    by_index p k h f None g x = cc
    by_index p k h f (Some i) g x =
        let parts = cut_from 46 t p k in
        let first = number_from p.front h f in
        let second = number_from p.behind i g in
        let same : At h i ≡ e = cc in
        let text : t ≡ decimal h ++ 46 ∷ decimal i = parts.parts ∙ (ap (λ l. l ++ 46 ∷ p.behind) first.digits ∙ ap (λ l. decimal h ++ 46 ∷ l) second.digits) in
        subst (IsActionText t) same (record { text = text; numbers = (first.small, second.small); action = refl })

    by_handle : (p : Cut) → cut 46 t ≡ Some p → (o : Option ℕ) → number_in p.front ≡ o → given o (λ h. given (number_in p.behind) (λ i. Some (At h i))) ≡ Some e → IsActionText t e
    by_handle p k None f x = cc
    by_handle p k (Some h) f x = by_index p k h f (number_in p.behind) refl x

    by_cut : (o : Option Cut) → cut 46 t ≡ o → given o (λ (p : Cut). given (number_in p.front) (λ h. given (number_in p.behind) (λ i. Some (At h i)))) ≡ Some e → IsActionText t e
    by_cut None k x = cc
    by_cut (Some p) k x = by_handle p k (number_in p.front) refl x

pub action_of : (e : Event) → HasEventNumbers e → is_action e ≡ true → action_in (event_text e) ≡ Some e
action_of Initial h a = cc
action_of (At k i) h a = action_text k i h.0 h.1

pub event_of : (e : Event) → HasEventNumbers e → event_in (event_text e) ≡ Some e
event_of Initial h = refl
event_of (At k i) h = step (bytes_eq (decimal k ++ 46 ∷ decimal i) (codes "init")) refl
  where
    step : (b : Bool) → bytes_eq (decimal k ++ 46 ∷ decimal i) (codes "init") ≡ b → cond b (Some Initial) (action_in (decimal k ++ 46 ∷ decimal i)) ≡ Some (At k i)
    step false e = action_text k i h.0 h.1
    step true e =
        let text = (bytes_eq-Decides (decimal k ++ 46 ∷ decimal i) (codes "init")).0 e in
        let here = action_text k i h.0 h.1 in
        let none : action_in (codes "init") ≡ None = refl in
        let there : action_in (decimal k ++ 46 ∷ decimal i) ≡ None = ap action_in text ∙ none in
        cc

pub event_from : (t : List ℕ) (e : Event) → event_in t ≡ Some e → Told event_text HasEventNumbers t e
event_from t e = step (bytes_eq t (codes "init")) refl
  where
    step : (b : Bool) → bytes_eq t (codes "init") ≡ b → cond b (Some Initial) (action_in t) ≡ Some e → Told event_text HasEventNumbers t e
    step false k g = let a = action_from t e g in record { text = a.text; good = a.numbers }
    step true k g =
        let text = (bytes_eq-Decides t (codes "init")).0 k in
        let same : Initial ≡ e = cc in
        subst (Told event_text HasEventNumbers t) same (record { text = text; good = tt })

pub number_told : (t : List ℕ) (n : ℕ) → number_in t ≡ Some n → Told decimal IsNumber t n
number_told t n e = let d = number_from t n e in record { text = d.digits; good = d.small }

-- the script's line
pub script_of : (vs : List ℕ) → AllByRecursion IsNumber vs → script_in (script_line vs) ≡ Some vs
script_of vs h =
    words_complete number_in decimal vs (all_map IsNumber (λ v. lacks 32 (decimal v) ≡ true) vs (λ v n. decimal_lacks 32 v (omega arith) n) h)
    (all_map IsNumber (λ v. number_in (decimal v) ≡ Some v) vs number_decimal h)

pub record IsScript (line : List ℕ) (vs : List ℕ) : Type 0 where
  pub text : line ≡ script_line vs
  pub numbers : AllByRecursion IsNumber vs

pub script_from : (line vs : List ℕ) → script_in line ≡ Some vs → IsScript line vs
script_from line vs = step (strip (codes "script") line) refl
  where
    step : (o : Option (List ℕ)) → strip (codes "script") line ≡ o → given o (words_in number_in) ≡ Some vs → IsScript line vs
    step None k g = cc
    step (Some rest) k g =
        let s = words_sound number_in decimal IsNumber number_told rest vs g in
        record { text = strip_from (codes "script") line rest k ∙ ap (λ l. codes "script" ++ l) s.text; numbers = s.good }

-- a cell's order
pub order_of : (cell : List ℕ) (es : List Event) → AllByRecursion HasEventNumbers es → order_in cell (cell ++ events_text es) ≡ Some es
order_of cell es h =
    ap (λ o. given o (words_in event_in)) (strip_front cell (events_text es))
    ∙ words_complete event_in event_text es (all_map HasEventNumbers (λ e. lacks 32 (event_text e) ≡ true) es (λ e n. event_lacks 32 e (omega arith) refl n) h)
    (all_map HasEventNumbers (λ e. event_in (event_text e) ≡ Some e) es event_of h)

pub record IsOrder (cell text : List ℕ) (es : List Event) : Type 0 where
  pub spelled : text ≡ cell ++ events_text es
  pub numbers : AllByRecursion HasEventNumbers es

pub order_from : (cell text : List ℕ) (es : List Event) → order_in cell text ≡ Some es → IsOrder cell text es
order_from cell text es = step (strip cell text) refl
  where
    step : (o : Option (List ℕ)) → strip cell text ≡ o → given o (words_in event_in) ≡ Some es → IsOrder cell text es
    step None k g = cc
    step (Some rest) k g =
        let s = words_sound event_in event_text HasEventNumbers event_from rest es g in
        record { spelled = strip_from cell text rest k ∙ ap (λ l. cell ++ l) s.text; numbers = s.good }

-- a pair
pub source_of : (p : RfPair) → HasPairNumbers p → is_action p.reader ≡ true → source_in (event_text p.reader ++ 32 ∷ event_text p.source) ≡ Some p
source_of p h a =
    rw (cut_at 32 (event_text p.reader) (event_text p.source) (event_lacks 32 p.reader (omega arith) refl h.0), action_of p.reader h.0 a, event_of p.source h.1) refl

pub record IsPair (text : List ℕ) (p : RfPair) : Type 0 where
  pub spelled : text ≡ event_text p.reader ++ 32 ∷ event_text p.source
  pub numbers : HasPairNumbers p
  pub action : is_action p.reader ≡ true

pub source_from : (text : List ℕ) (p : RfPair) → source_in text ≡ Some p → IsPair text p
source_from text pair = by_cut (cut 32 text) refl
  where
    by_source : (q : Cut) → cut 32 text ≡ Some q → (r : Event) → action_in q.front ≡ Some r → (o : Option Event) → event_in q.behind ≡ o
        → given o (λ s. Some (record { reader = r; source = s })) ≡ Some pair → IsPair text pair
    by_source q k r f None g x = cc
    by_source q k r f (Some s) g x =
        let parts = cut_from 32 text q k in
        let first = action_from q.front r f in
        let second = event_from q.behind s g in
        let whole : RfPair = record { reader = r; source = s } in
        let same : whole ≡ pair = cc in
        let spelled : text ≡ event_text r ++ 32 ∷ event_text s = parts.parts ∙ (ap (λ l. l ++ 32 ∷ q.behind) first.text ∙ ap (λ l. event_text r ++ 32 ∷ l) second.text) in
        subst (IsPair text) same (record { spelled = spelled; numbers = (first.numbers, second.good); action = first.action })

    by_reader : (q : Cut) → cut 32 text ≡ Some q → (o : Option Event) → action_in q.front ≡ o
        → given o (λ r. given (event_in q.behind) (λ s. Some (record { reader = r; source = s }))) ≡ Some pair → IsPair text pair
    by_reader q k None f x = cc
    by_reader q k (Some r) f x = by_source q k r f (event_in q.behind) refl x

    by_cut : (o : Option Cut) → cut 32 text ≡ o → given o (λ (q : Cut). given (action_in q.front) (λ r. given (event_in q.behind) (λ s. Some (record { reader = r; source = s })))) ≡ Some pair → IsPair text pair
    by_cut None k x = cc
    by_cut (Some q) k x = by_reader q k (action_in q.front) refl x

-- functions
pub name_has : (P : List ℕ → Type 0) (fs : List (List ℕ)) (i : ℕ) → AllByRecursion P fs → i < length fs → P (name_at fs i)
name_has P [] i h l = absurd (omega arith)
name_has P (f ∷ fs) zero h l = h.0
name_has P (f ∷ fs) (suc i) h l = name_has P fs i h.1 (omega arith)

other_bytes : (f g : List ℕ) → f ≢ g → bytes_eq f g ≡ false
other_bytes f g h = step (bytes_eq f g) refl
  where
    step : (b : Bool) → bytes_eq f g ≡ b → b ≡ false
    step true k = absurd (h ((bytes_eq-Decides f g).0 k))
    step false k = refl

place_of_name : (fs : List (List ℕ)) (i : ℕ) → AreDistinct fs → i < length fs → position_or_len (λ f. bytes_eq f (name_at fs i)) fs ≡ i
place_of_name [] i d l = absurd (omega arith)
place_of_name (f ∷ fs) zero d l = rw ((bytes_eq-Decides f f).1 refl) refl
place_of_name (f ∷ fs) (suc i) d l =
    let apart = other_bytes f (name_at fs i) (name_has (λ y. f ≢ y) fs i d.0 (omega arith)) in
    rw apart (ap (λ n. 1 + n) (place_of_name fs i d.1 (omega arith)) ∙ one-add i)

pub function_of : (fs : List (List ℕ)) (i : ℕ) → AreDistinct fs → i < length fs → IsNumber i → function_in fs (name_at fs i) ≡ Some i
function_of fs i d l n = rw (place_of_name fs i d l, lt-ltb i (length fs) l, lt-ltb i (2 ^ 32) n) refl

name_of_place : (fs : List (List ℕ)) (name : List ℕ) → position_or_len (λ f. bytes_eq f name) fs < length fs → name_at fs (position_or_len (λ f. bytes_eq f name) fs) ≡ name
name_of_place [] name l = absurd (omega arith)
name_of_place (f ∷ fs) name l = step (bytes_eq f name) refl l (name_of_place fs name)
  where
    step : (b : Bool) → bytes_eq f name ≡ b → cond (not b) (1 + position_or_len (λ f. bytes_eq f name) fs) 0 < suc (length fs)
        → (position_or_len (λ f. bytes_eq f name) fs < length fs → name_at fs (position_or_len (λ f. bytes_eq f name) fs) ≡ name)
        → name_at (f ∷ fs) (cond (not b) (1 + position_or_len (λ f. bytes_eq f name) fs) 0) ≡ name
    step true k g more = (bytes_eq-Decides f name).0 k
    step false k g more =
        subst (λ m. name_at (f ∷ fs) m ≡ name) (sym (one-add (position_or_len (λ f. bytes_eq f name) fs))) (more (omega arith))

pub record IsFunction (fs : List (List ℕ)) (name : List ℕ) (i : ℕ) : Type 0 where
  pub name_is : name ≡ name_at fs i
  pub known : i < length fs
  pub small : IsNumber i

pub function_from : (fs : List (List ℕ)) (name : List ℕ) (i : ℕ) → function_in fs name ≡ Some i → IsFunction fs name i
function_from fs name i = at_place (position_or_len (λ f. bytes_eq f name) fs) (name_of_place fs name)
  where
    small : (n : ℕ) → name_at fs n ≡ name → n < length fs → (b : Bool) → nat_lt n (2 ^ 32) ≡ b → cond b (Some n) None ≡ Some i → IsFunction fs name i
    small n same l false k e = cc
    small n same l true k e =
        let is : n ≡ i = cc in
        subst (IsFunction fs name) is (record { name_is = sym same; known = l; small = ltb-true n (2 ^ 32) k })

    within : (n : ℕ) → (n < length fs → name_at fs n ≡ name) → (b : Bool) → nat_lt n (length fs) ≡ b → given (cond b (Some n) None) narrow ≡ Some i → IsFunction fs name i
    within n more false k e = cc
    within n more true k e = let l = ltb-true n (length fs) k in small n (more l) l (nat_lt n (2 ^ 32)) refl e

    at_place : (n : ℕ) → (n < length fs → name_at fs n ≡ name) → given (cond (nat_lt n (length fs)) (Some n) None) narrow ≡ Some i → IsFunction fs name i
    at_place n more e = within n more (nat_lt n (length fs)) refl e

-- a thread's first line
pub record IsHeadText (fs : List (List ℕ)) (text : List ℕ) (h : ThreadHead) : Type 0 where
  pub spelled : text ≡ decimal h.handle ++ 32 ∷ (name_at fs h.function ++ 32 ∷ decimal h.arg)
  pub handle : IsNumber h.handle
  pub function : IsNumber h.function
  pub arg : IsNumber h.arg
  pub known : h.function < length fs

pub head_of : (fs : List (List ℕ)) (h : ThreadHead) → AllByRecursion (λ name. lacks 32 name ≡ true) fs → AreDistinct fs → IsNumber h.handle → IsNumber h.function → IsNumber h.arg
    → h.function < length fs → head_in fs (decimal h.handle ++ 32 ∷ (name_at fs h.function ++ 32 ∷ decimal h.arg)) ≡ Some h
head_of fs h blanks d a f g l =
    rw (
      cut_at 32 (decimal h.handle) (name_at fs h.function ++ 32 ∷ decimal h.arg) (decimal_lacks 32 h.handle (omega arith) a),
      cut_at 32 (name_at fs h.function) (decimal h.arg) (name_has (λ name. lacks 32 name ≡ true) fs h.function blanks l),
      number_decimal h.handle a,
      function_of fs h.function d l f,
      number_decimal h.arg g,
    ) refl

pub head_from : (fs : List (List ℕ)) (text : List ℕ) (head : ThreadHead) → head_in fs text ≡ Some head → IsHeadText fs text head
head_from fs text head = by_cut (cut 32 text) refl
  where
    by_arg : (p : Cut) → cut 32 text ≡ Some p → (q : Cut) → cut 32 p.behind ≡ Some q → (h : ℕ) → number_in p.front ≡ Some h → (f : ℕ) → function_in fs q.front ≡ Some f
        → (o : Option ℕ) → number_in q.behind ≡ o → given o (λ a. Some (record { handle = h; function = f; arg = a })) ≡ Some head → IsHeadText fs text head
    by_arg p k q j h m f n None a x = cc
    by_arg p k q j h m f n (Some arg) a x =
        let first = cut_from 32 text p k in
        let second = cut_from 32 p.behind q j in
        let handle = number_from p.front h m in
        let function = function_from fs q.front f n in
        let number = number_from q.behind arg a in
        let whole : ThreadHead = record { handle = h; function = f; arg = arg } in
        let same : whole ≡ head = cc in
        let behind : p.behind ≡ name_at fs f ++ 32 ∷ decimal arg = second.parts ∙ (ap (λ l. l ++ 32 ∷ q.behind) function.name_is ∙ ap (λ l. name_at fs f ++ 32 ∷ l) number.digits) in
        let spelled : text ≡ decimal h ++ 32 ∷ (name_at fs f ++ 32 ∷ decimal arg) = first.parts ∙ (ap (λ l. l ++ 32 ∷ p.behind) handle.digits ∙ ap (λ l. decimal h ++ 32 ∷ l) behind) in
        subst (IsHeadText fs text) same (record { spelled = spelled; handle = handle.small; function = function.small; arg = number.small; known = function.known })

    by_function : (p : Cut) → cut 32 text ≡ Some p → (q : Cut) → cut 32 p.behind ≡ Some q → (h : ℕ) → number_in p.front ≡ Some h → (o : Option ℕ) → function_in fs q.front ≡ o
        → given o (λ f. given (number_in q.behind) (λ a. Some (record { handle = h; function = f; arg = a }))) ≡ Some head → IsHeadText fs text head
    by_function p k q j h m None n x = cc
    by_function p k q j h m (Some f) n x = by_arg p k q j h m f n (number_in q.behind) refl x

    by_handle : (p : Cut) → cut 32 text ≡ Some p → (q : Cut) → cut 32 p.behind ≡ Some q → (o : Option ℕ) → number_in p.front ≡ o
        → given o (λ h. given (function_in fs q.front) (λ f. given (number_in q.behind) (λ a. Some (record { handle = h; function = f; arg = a })))) ≡ Some head → IsHeadText fs text head
    by_handle p k q j None m x = cc
    by_handle p k q j (Some h) m x = by_function p k q j h m (function_in fs q.front) refl x

    by_second : (p : Cut) → cut 32 text ≡ Some p → (o : Option Cut) → cut 32 p.behind ≡ o
        → given o (λ (q : Cut). given (number_in p.front) (λ h. given (function_in fs q.front) (λ f. given (number_in q.behind) (λ a. Some (record { handle = h; function = f; arg = a }))))) ≡ Some head
        → IsHeadText fs text head
    by_second p k None j x = cc
    by_second p k (Some q) j x = by_handle p k q j (number_in p.front) refl x

    by_cut : (o : Option Cut) → cut 32 text ≡ o
        → given o (λ (p : Cut). given (cut 32 p.behind) (λ (q : Cut). given (number_in p.front) (λ h. given (function_in fs q.front) (λ f. given (number_in q.behind) (λ a. Some (record { handle = h; function = f; arg = a }))))))
        ≡ Some head → IsHeadText fs text head
    by_cut None k x = cc
    by_cut (Some p) k x = by_second p k (cut 32 p.behind) refl x
