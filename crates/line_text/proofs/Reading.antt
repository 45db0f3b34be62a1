-- Readers of lines: from the run of a machine to what a text spells, and to the line at which it goes wrong.
use Rattle.std.proofs.Common.{◌≡◌, ℕ, suc, ◌+◌, min, List, [], ◌∷◌, ◌++◌, length, Option, Some, None, refl, ap, sym, ◌∙◌, subst, append_assoc, append-nil, length-append, arith}
use Rattle.std.specs.List.{AllByRecursion}
use Rattle.std.proofs.lemmas.Option.{same_Some}
use Rattle.line_text.specs.Words.{Cut, cut, given}
use Rattle.line_text.specs.Lines.{Begins, BeginsWhole, IsLine, IsLongestRun, NoProperPrefix, OneValue, Refuses, RefusesLines, text_of, told}
use Rattle.line_text.proofs.Bytes.{cut_from, cut_none, lacking_cut, one_cut}
use Rattle.line_text.proofs.Texts.{all_back, all_push, front_line, no_line, text_front}

-- a machine over lines: where it starts, what a line makes of a state, and what was read where the last line was
pub record Reader (V S : Type 0) : Type 0 where
  pub start : S
  pub step : S → List ℕ → Option S
  pub value : S → Option V

-- all lines in turn
abbrev pub run : {V S : Type 0} → Reader V S → S → List (List ℕ) → Option S
run m s [] = Some s
run m s (line ∷ lines) = given (m.step s line) (λ t. run m t lines)

-- the text is lines that the machine reads to this value
pub record IsRead {V S : Type 0} (m : Reader V S) (v : V) (text : List ℕ) : Type 0 where
  pub lines : List (List ℕ)
  pub all : text ≡ text_of lines
  pub whole : AllByRecursion IsLine lines
  pub last : S
  pub ran : run m m.start lines ≡ Some last
  pub value : m.value last ≡ Some v

-- The machine reads these spellings: each spelling to its value; what it has read always begins one, and spells the value
-- that it tells; nothing is read behind the end.
pub record Reads {V S : Type 0} (m : Reader V S) (Spells : V → List ℕ → Type 0) : Type 0 where
  pub read : (v : V) (text : List ℕ) → Spells v text → IsRead m v text
  pub begins : (lines : List (List ℕ)) (s : S) → run m m.start lines ≡ Some s → Begins Spells lines
  pub spelled : (lines : List (List ℕ)) (s : S) (v : V) → run m m.start lines ≡ Some s → m.value s ≡ Some v → Spells v (text_of lines)
  pub ends : (s : S) (v : V) (line : List ℕ) → m.value s ≡ Some v → m.step s line ≡ None

-- ---- runs

pub run_append : {V S : Type 0} (m : Reader V S) (s : S) (a b : List (List ℕ)) → run m s (a ++ b) ≡ given (run m s a) (λ t. run m t b)
run_append m s [] b = refl
run_append {V} {S} m s (l ∷ a) b = step (m.step s l) (λ t. run_append m t a b)
  where
    step : (o : Option S) → ((t : S) → run m t (a ++ b) ≡ given (run m t a) (λ u. run m u b))
        → given o (λ t. run m t (a ++ b)) ≡ given (given o (λ t. run m t a)) (λ u. run m u b)
    step None more = refl
    step (Some t) more = more t

run_one : {V S : Type 0} (m : Reader V S) (lines : List (List ℕ)) (line : List ℕ) (s : S) → run m m.start lines ≡ Some s → run m m.start (lines ++ line ∷ []) ≡ given (m.step s line) (λ t. Some t)
run_one m lines line s e = run_append m m.start lines (line ∷ []) ∙ ap (λ o. given o (λ t. run m t (line ∷ []))) e

-- the run over a spelling that begins with these lines
record Ends {V S : Type 0} (m : Reader V S) (ls : List (List ℕ)) (more : List ℕ) (v : V) : Type 0 where
  pub rest : List (List ℕ)
  pub last : S
  pub ran : given (run m m.start ls) (λ s. run m s rest) ≡ Some last
  pub value : m.value last ≡ Some v
  pub text : more ≡ text_of rest
  pub plain : AllByRecursion IsLine rest

ends_there : {V S : Type 0} (m : Reader V S) (Spells : V → List ℕ → Type 0) → Reads m Spells → (ls : List (List ℕ)) (more : List ℕ) (v : V) → AllByRecursion IsLine ls
    → Spells v (text_of ls ++ more) → Ends m ls more v
ends_there m Spells reads ls more v h s =
    let r = reads.read v (text_of ls ++ more) s in
    let f = text_front ls r.lines more h r.whole r.all in
    record {
      rest = f.rest;
      last = r.last;
      ran = sym (run_append m m.start ls f.rest) ∙ (ap (run m m.start) (sym f.all) ∙ r.ran);
      value = r.value;
      text = f.text;
      plain = all_back IsLine ls f.rest (subst (AllByRecursion IsLine) f.all r.whole);
    }

-- nothing is read behind the end
behind_end : {V S : Type 0} (m : Reader V S) (Spells : V → List ℕ → Type 0) → Reads m Spells → (s t : S) (v w : V) (rest : List (List ℕ)) → m.value s ≡ Some v → run m s rest ≡ Some t → m.value t ≡ Some w → (v ≡ w) × (rest ≡ [])
behind_end m Spells reads s t v w [] h e k =
    let same : s ≡ t = same_Some s t e in
    (same_Some v w (sym h ∙ (ap m.value same ∙ k)), refl)
behind_end m Spells reads s t v w (l ∷ rest) h e k =
    let none : run m s (l ∷ rest) ≡ None = ap (λ o. given o (λ u. run m u rest)) (reads.ends s v l h) in
    cc (e, none)

-- two spellings, one at the front of the other
both_spell : {V S : Type 0} (m : Reader V S) (Spells : V → List ℕ → Type 0) → Reads m Spells → (text more : List ℕ) (v w : V) → Spells v text → Spells w (text ++ more) → (v ≡ w) × (more ≡ [])
both_spell m Spells reads text more v w s t =
    let r = reads.read v text s in
    let here : text ++ more ≡ text_of r.lines ++ more = ap (λ x. x ++ more) r.all in
    let e = ends_there m Spells reads r.lines more w r.whole (subst (Spells w) here t) in
    let ran : run m r.last e.rest ≡ Some e.last = ap (λ o. given o (λ u. run m u e.rest)) (sym r.ran) ∙ e.ran in
    let b = behind_end m Spells reads r.last e.last v w e.rest r.value ran e.value in
    (b.0, e.text ∙ ap text_of b.1)

pub one_value : {V S : Type 0} (m : Reader V S) (Spells : V → List ℕ → Type 0) → Reads m Spells → OneValue Spells
one_value m Spells reads text v w s t = (both_spell m Spells reads text [] v w s (subst (Spells w) (sym (append-nil text)) t)).0

pub no_proper_prefix : {V S : Type 0} (m : Reader V S) (Spells : V → List ℕ → Type 0) → Reads m Spells → NoProperPrefix Spells
no_proper_prefix m Spells reads text more v w s t = (both_spell m Spells reads text more v w s t).1

-- ---- where a reader stands

-- the lines at the front of a text were read, and this line comes next
pub record Reached {V S : Type 0} (m : Reader V S) (text rest : List ℕ) (s : S) (number : ℕ) : Type 0 where
  pub lines : List (List ℕ)
  pub all : text ≡ text_of lines ++ rest
  pub whole : AllByRecursion IsLine lines
  pub ran : run m m.start lines ≡ Some s
  pub number_is : number ≡ told (suc (length lines))

pub reached_start : {V S : Type 0} (m : Reader V S) (text : List ℕ) → Reached m text text m.start 1
reached_start m text = record { lines = []; all = refl; whole = tt; ran = refl; number_is = refl }

pub reached_more : {V S : Type 0} (m : Reader V S) (text rest : List ℕ) (s t : S) (n k : ℕ) (p : Cut) → Reached m text rest s n → cut 10 rest ≡ Some p → m.step s p.front ≡ Some t
    → k ≡ min (n + 1) 4294967295 → Reached m text p.behind t k
reached_more m text rest s t n k p h c e f =
    let parts = cut_from 10 rest p c in
    let long : length (h.lines ++ p.front ∷ []) ≡ length h.lines + 1 = length-append h.lines (p.front ∷ []) in
    let was = h.number_is in
    record {
      lines = h.lines ++ p.front ∷ [];
      all = h.all ∙ (ap (λ x. text_of h.lines ++ x) parts.parts ∙ front_line h.lines p.front p.behind);
      whole = all_push IsLine h.lines p.front h.whole parts.front;
      ran = run_one m h.lines p.front s h.ran ∙ ap (λ o. given o (λ u. Some u)) e;
      number_is = omega (arith, long, was, f);
    }

-- a further piece of the text comes
pub reached_fed : {V S : Type 0} (m : Reader V S) (text rest piece : List ℕ) (s : S) (n : ℕ) → Reached m text rest s n → Reached m (text ++ piece) (rest ++ piece) s n
reached_fed m text rest piece s n h = record {
  lines = h.lines;
  all = ap (λ x. x ++ piece) h.all ∙ append_assoc (text_of h.lines) rest piece;
  whole = h.whole;
  ran = h.ran;
  number_is = h.number_is;
}

-- no spelling goes on with a line at which the reader stops
stops : {V S : Type 0} (m : Reader V S) (Spells : V → List ℕ → Type 0) → Reads m Spells → (lines : List (List ℕ)) (line : List ℕ) (s : S) → AllByRecursion IsLine lines → IsLine line → run m m.start lines ≡ Some s
    → m.step s line ≡ None → Begins Spells (lines ++ line ∷ []) → ⊥
stops m Spells reads lines line s h k ran stop b =
    let e = ends_there m Spells reads (lines ++ line ∷ []) b.more b.value (all_push IsLine lines line h k) b.spelled in
    let none : run m m.start (lines ++ line ∷ []) ≡ None = run_one m lines line s ran ∙ ap (λ o. given o (λ u. Some u)) stop in
    let here : given (run m m.start (lines ++ line ∷ [])) (λ u. run m u e.rest) ≡ None = ap (λ o. given o (λ u. run m u e.rest)) none in
    cc (e.ran, here)

-- the lines that were read are the longest run, where the reader stops at the next line or no whole line comes next
pub longest_before : {V S : Type 0} (m : Reader V S) (Spells : V → List ℕ → Type 0) (text rest : List ℕ) (s : S) (n : ℕ) (p : Cut) → Reads m Spells → (h : Reached m text rest s n) → cut 10 rest ≡ Some p → m.step s p.front ≡ None
    → IsLongestRun Spells text h.lines rest
longest_before m Spells text rest s n p reads h k e =
    let parts = cut_from 10 rest p k in
    record {
      all = h.all;
      whole = h.whole;
      begins = reads.begins h.lines s h.ran;
      ends = λ line more plain is b.
          let same = (one_cut 10 line p.front more p.behind plain parts.front (sym is ∙ parts.parts)).0 in
          stops m Spells reads h.lines p.front s h.whole parts.front h.ran e (subst (λ l. Begins Spells (h.lines ++ l ∷ [])) same b);
    }

pub longest_end : {V S : Type 0} (m : Reader V S) (Spells : V → List ℕ → Type 0) (text rest : List ℕ) (s : S) (n : ℕ) → Reads m Spells → (h : Reached m text rest s n) → cut 10 rest ≡ None → IsLongestRun Spells text h.lines rest
longest_end m Spells text rest s n reads h k = record {
  all = h.all;
  whole = h.whole;
  begins = reads.begins h.lines s h.ran;
  ends = λ line more plain is b. cut_none 10 rest line more k plain is;
}

-- no spelling goes on with the whole line that stands behind the longest run
pub refused_run : {V : Type 0} (Spells : V → List ℕ → Type 0) (text : List ℕ) (lines : List (List ℕ)) (rest next more : List ℕ) (n : ℕ) → IsLongestRun Spells text lines rest → IsLine next → rest ≡ next ++ 10 ∷ more
    → n ≡ told (suc (length lines)) → RefusesLines Spells text n
refused_run Spells text lines rest next more n run plain on number =
    let whole : text ≡ text_of (lines ++ next ∷ []) ++ more = run.all ∙ (ap (λ t. text_of lines ++ t) on ∙ front_line lines next more) in
    record {
      refuses = record {
        none = λ v t. run.ends next more plain on (record { value = v; more = more; spelled = subst (Spells v) whole t });
        lines = lines;
        rest = rest;
        run = run;
        number = number;
      };
      next = next;
      more = more;
      is_line = plain;
      goes_on = on;
    }

pub refused_line : {V S : Type 0} (m : Reader V S) (Spells : V → List ℕ → Type 0) (text rest : List ℕ) (s : S) (n : ℕ) (p : Cut) → Reads m Spells → Reached m text rest s n → cut 10 rest ≡ Some p → m.step s p.front ≡ None
    → RefusesLines Spells text n
refused_line m Spells text rest s n p reads h k e =
    let parts = cut_from 10 rest p k in
    refused_run Spells text h.lines rest p.front p.behind n (longest_before m Spells text rest s n p reads h k e) parts.front parts.parts h.number_is

-- the longest run stays what it is, whatever comes behind a whole line with which no spelling goes on
pub longest_more : {V : Type 0} (Spells : V → List ℕ → Type 0) (text : List ℕ) (lines : List (List ℕ)) (rest next more piece : List ℕ) → IsLongestRun Spells text lines rest → IsLine next → rest ≡ next ++ 10 ∷ more
    → IsLongestRun Spells (text ++ piece) lines (rest ++ piece)
longest_more Spells text lines rest next more piece run plain on = record {
  all = ap (λ x. x ++ piece) run.all ∙ append_assoc (text_of lines) rest piece;
  whole = run.whole;
  begins = run.begins;
  ends = λ line behind is_line is b.
      let whole : next ++ 10 ∷ (more ++ piece) ≡ line ++ 10 ∷ behind = sym (ap (λ x. x ++ piece) on ∙ append_assoc next (10 ∷ more) piece) ∙ is in
      let same : next ≡ line = (one_cut 10 next line (more ++ piece) behind plain is_line whole).0 in
      run.ends next more plain on (subst (λ l. Begins Spells (lines ++ l ∷ [])) (sym same) b);
}

-- a text that was refused at a line is refused there, whatever comes behind it
pub refused_more : {V : Type 0} (Spells : V → List ℕ → Type 0) (text piece : List ℕ) (n : ℕ) → RefusesLines Spells text n → RefusesLines Spells (text ++ piece) n
refused_more Spells text piece n h =
    let r = h.refuses in
    let on : r.rest ++ piece ≡ h.next ++ 10 ∷ (h.more ++ piece) = ap (λ x. x ++ piece) h.goes_on ∙ append_assoc h.next (10 ∷ h.more) piece in
    refused_run Spells (text ++ piece) r.lines (r.rest ++ piece) h.next (h.more ++ piece) n (longest_more Spells text r.lines r.rest h.next h.more piece r.run h.is_line h.goes_on) h.is_line on r.number

pub refused_end : {V S : Type 0} (m : Reader V S) (Spells : V → List ℕ → Type 0) (text rest : List ℕ) (s : S) (n : ℕ) → Reads m Spells → Reached m text rest s n → cut 10 rest ≡ None → ((v : V) → m.value s ≡ Some v → rest ≡ [] → ⊥)
    → Refuses Spells text n
refused_end m Spells text rest s n reads h k e = record {
  none = λ v t.
      let f = ends_there m Spells reads h.lines rest v h.whole (subst (Spells v) h.all t) in
      let nil = no_line rest f.rest k f.plain f.text in
      let ran : run m s f.rest ≡ Some f.last = ap (λ o. given o (λ u. run m u f.rest)) (sym h.ran) ∙ f.ran in
      let here : run m s [] ≡ Some f.last = subst (λ l. run m s l ≡ Some f.last) nil ran in
      let same : s ≡ f.last = same_Some s f.last here in
      e v (ap m.value same ∙ f.value) (f.text ∙ ap text_of nil);
  lines = h.lines;
  rest = rest;
  run = longest_end m Spells text rest s n reads h k;
  number = h.number_is;
}

pub read_end : {V S : Type 0} (m : Reader V S) (Spells : V → List ℕ → Type 0) (text rest : List ℕ) (s : S) (n : ℕ) (v : V) → Reads m Spells → Reached m text rest s n → m.value s ≡ Some v → rest ≡ [] → Spells v text
read_end m Spells text rest s n v reads h e nil =
    let all : text ≡ text_of h.lines = h.all ∙ (ap (λ t. text_of h.lines ++ t) nil ∙ append-nil (text_of h.lines)) in
    subst (Spells v) (sym all) (reads.spelled h.lines s v h.ran e)

-- whole lines that were all read begin a spelling
pub begins_whole : {V S : Type 0} (m : Reader V S) (Spells : V → List ℕ → Type 0) (text rest : List ℕ) (s : S) (n : ℕ) → Reads m Spells → Reached m text rest s n → cut 10 rest ≡ None → BeginsWhole Spells text
begins_whole m Spells text rest s n reads h k = record {
  lines = h.lines;
  rest = rest;
  all = h.all;
  whole = h.whole;
  last = lacking_cut 10 rest k;
  begins = reads.begins h.lines s h.ran;
}
