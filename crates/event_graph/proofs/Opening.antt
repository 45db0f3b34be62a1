-- Steps that make actions, and the section that is open before a step.
use Rattle.std.proofs.Common.{◌≡◌, ◌≢◌, ℕ, zero, suc, ◌+◌, ◌<◌, ◌≤◌, ◌⊎◌, inl, inr, Bool, true, false, List, [], ◌∷◌, Option, Some, None, refl, ap, sym, ◌∙◌, subst, arith}
use Rattle.std.specs.Prelude.{slice_get}
use Rattle.std.proofs.lemmas.Option.{none-some, same_Some}
use Rattle.dg_base.specs.Values.{truth_of}
use Rattle.flat_prog.specs.Sections.{Mark, Opens, Closes, Acts, Silent, AreInTurn}
use Rattle.ssa_form.specs.declared.SsaStep.{SsaStep}
use Rattle.ssa_form.specs.declared.SsaAct.{SsaAct}
use Rattle.ssa_form.specs.declared.SsaAct.TheVariants.{Take, Open, Close, Stop, Bad, Fail}
use Rattle.ssa_form.specs.Parts.{mark_of, marks_of}
use Rattle.memory_models.specs.declared.StaticKind.{StaticKind}
use Rattle.event_graph.specs.Graphs.{kind_of, next_behind, section_behind}
use Rattle.event_graph.specs.Laws.{count_before}

-- ---- steps that make actions

abbrev pub acts : Option StaticKind → Bool
acts None = false
acts (Some k) = true

-- the step makes an action
abbrev pub is_acting : SsaStep → Bool
is_acting s = acts (kind_of s.act)

-- how many of the first so many steps make actions
abbrev pub acting_before : ℕ → List SsaStep → ℕ
acting_before j ss = count_before is_acting j ss

-- a step makes an action where its mark is not silent
pub loud_acts : (a : SsaAct) → mark_of a ≢ Silent → acts (kind_of a) ≡ true
loud_acts (Take t) n = absurd (n refl)
loud_acts Stop n = absurd (n refl)
loud_acts Bad n = absurd (n refl)
loud_acts (Fail p tag) n = absurd (n refl)
loud_acts _ n = refl

pub acting_loud : (a : SsaAct) → acts (kind_of a) ≡ true → mark_of a ≢ Silent
acting_loud (Take t) e = absurd (cc)
acting_loud Stop e = absurd (cc)
acting_loud Bad e = absurd (cc)
acting_loud (Fail p tag) e = absurd (cc)
acting_loud _ e = λ f. cc

pub open_act : (a : SsaAct) → mark_of a ≡ Opens → a ≡ Open
open_act Open e = refl
open_act _ e = absurd (cc)

pub close_act : (a : SsaAct) → mark_of a ≡ Closes → a ≡ Close
close_act Close e = refl
close_act _ e = absurd (cc)

-- ---- the section that is open

-- the section that is open before the step at a place
abbrev pub open_at : ℕ → Option ℕ → ℕ → List SsaStep → Option ℕ
open_at n section zero ss = section
open_at n section (suc j) [] = section
open_at n section (suc j) (s ∷ ss) = open_at (next_behind n (kind_of s.act)) (section_behind n section (mark_of s.act)) j ss

abbrev pub is_open : Option ℕ → Bool
is_open None = false
is_open (Some b) = true

pub open_none : (o : Option ℕ) → is_open o ≡ false → o ≡ None
open_none None e = refl
open_none (Some b) e = absurd (cc)

-- marks stay in turn behind a step
turn : (n : ℕ) (section : Option ℕ) (m : Mark) (ms : List Mark) → AreInTurn (is_open section) (m ∷ ms) → AreInTurn (is_open (section_behind n section m)) ms
turn n section Opens ms h = h.1
turn n section Closes ms h = h.1
turn n section Acts ms h = h
turn n section Silent ms h = h

pub next_count : (o : Option StaticKind) (n c : ℕ) → next_behind n o + c ≡ n + (truth_of (acts o) + c)
next_count None n c = omega arith
next_count (Some k) n c = omega arith

-- no section ends from one place up to another
abbrev pub Unclosed : List Mark → ℕ → ℕ → Type 0
Unclosed ms a b = (k : ℕ) → a ≤ k → k < b → ¬ (slice_get ms k ≡ Some Closes)

unclosed_behind : (m : Mark) (ms : List Mark) (j : ℕ) → Unclosed (m ∷ ms) 0 (suc j) → Unclosed ms 0 j
unclosed_behind m ms j h k low high e = h (suc k) (omega arith) (omega arith) e

-- the section with this number was opened by the step at o
pub record IsOpened (n : ℕ) (ss : List SsaStep) (j b o : ℕ) : Type 0 where
  pub opens : slice_get (marks_of ss) o ≡ Some Opens
  pub before : o < j
  pub unclosed : Unclosed (marks_of ss) (suc o) j
  pub number : b ≡ n + acting_before o ss

opened_behind : (n b : ℕ) (s : SsaStep) (ss : List SsaStep) (j o : ℕ) → IsOpened (next_behind n (kind_of s.act)) ss j b o → IsOpened n (s ∷ ss) (suc j) b (suc o)
opened_behind n b s ss j o r = record {
  opens = r.opens;
  before = let h = r.before in omega (arith, h);
  unclosed = later;
  number = r.number ∙ next_count (kind_of s.act) n (acting_before o ss);
}
  where
    later : Unclosed (marks_of (s ∷ ss)) (suc (suc o)) (suc j)
    later zero low high e = omega arith
    later (suc k) low high e = r.unclosed k (omega arith) (omega arith) e

-- the open section was open all along, or a step opened it
pub opened : (n : ℕ) (section : Option ℕ) (ss : List SsaStep) (j b : ℕ) → open_at n section j ss ≡ Some b
    → ((section ≡ Some b) × Unclosed (marks_of ss) 0 j) ⊎ ((o : ℕ) × IsOpened n ss j b o)
opened n section ss zero b e = inl (e, λ k low high f. omega arith)
opened n section [] (suc j) b e = inl (e, λ k low high f. none-some Closes f)
opened n section (s ∷ ss) (suc j) b e =
    elim (opened (next_behind n (kind_of s.act)) (section_behind n section (mark_of s.act)) ss j b e) [
      | inl r ↦ by_mark (mark_of s.act) refl r.0 r.1
      | inr r ↦ inr (suc r.0, opened_behind n b s ss j r.0 r.1)
    ]
  where
    still : (m : Mark) → ¬ (m ≡ Closes) → mark_of s.act ≡ m → Unclosed (marks_of ss) 0 j → Unclosed (marks_of (s ∷ ss)) 0 (suc j)
    still m not f u zero low high g = not (sym f ∙ same_Some (mark_of s.act) Closes g)
    still m not f u (suc k) low high g = u k (omega arith) (omega arith) g

    by_mark : (m : Mark) → mark_of s.act ≡ m → section_behind n section m ≡ Some b → Unclosed (marks_of ss) 0 j
        → ((section ≡ Some b) × Unclosed (marks_of (s ∷ ss)) 0 (suc j)) ⊎ ((o : ℕ) × IsOpened n (s ∷ ss) (suc j) b o)
    by_mark Opens f g u = inr (
      0,
      record {
        opens = ap Some f;
        before = omega arith;
        unclosed = λ k low high h. still Opens (λ i. cc) f u k (omega arith) high h;
        number = let same : n ≡ b = same_Some n b g in omega (arith, same);
      },
    )
    by_mark Closes f g u = absurd (none-some b g)
    by_mark Acts f g u = inl (g, still Acts (λ i. cc) f u)
    by_mark Silent f g u = inl (g, still Silent (λ i. cc) f u)

-- an open section stays open up to its end
stays : (n b : ℕ) (ss : List SsaStep) (j : ℕ) → AreInTurn true (marks_of ss) → Unclosed (marks_of ss) 0 j → open_at n (Some b) j ss ≡ Some b
stays n b ss zero h u = refl
stays n b [] (suc j) h u = refl
stays n b (s ∷ ss) (suc j) h u = by_mark (λ g. stays (next_behind n (kind_of s.act)) b ss j g (unclosed_behind (mark_of s.act) (marks_of ss) j u)) (mark_of s.act) refl h
  where
    by_mark : (AreInTurn true (marks_of ss) → open_at (next_behind n (kind_of s.act)) (Some b) j ss ≡ Some b)
        → (m : Mark) → mark_of s.act ≡ m → AreInTurn true (m ∷ marks_of ss) → open_at (next_behind n (kind_of s.act)) (section_behind n (Some b) m) j ss ≡ Some b
    by_mark again Opens f g = absurd (let e = g.0 in cc)
    by_mark again Closes f g = absurd (u 0 (omega arith) (omega arith) (ap Some f))
    by_mark again Acts f g = again g
    by_mark again Silent f g = again g

pub still_open : (n : ℕ) (section : Option ℕ) (ss : List SsaStep) (j o : ℕ) → AreInTurn (is_open section) (marks_of ss) → slice_get (marks_of ss) o ≡ Some Opens → o < j → Unclosed (marks_of ss) (suc o) j
    → open_at n section j ss ≡ Some (n + acting_before o ss)
still_open n section [] j o t e h u = absurd (none-some Opens e)
still_open n section (s ∷ ss) zero o t e h u = absurd (omega arith)
still_open n section (s ∷ ss) (suc j) zero t e h u =
    let f : mark_of s.act ≡ Opens = same_Some (mark_of s.act) Opens e in
    let inner : AreInTurn true (marks_of ss) = opens_turn (mark_of s.act) f t in
    let later : Unclosed (marks_of ss) 0 j = λ k low high g. u (suc k) (omega arith) (omega arith) g in
    let number : n ≡ n + acting_before 0 (s ∷ ss) = omega arith in
    ap (λ m. open_at (next_behind n (kind_of s.act)) (section_behind n section m) j ss) f ∙ stays (next_behind n (kind_of s.act)) n ss j inner later ∙ ap Some number
  where
    opens_turn : (m : Mark) → m ≡ Opens → AreInTurn (is_open section) (m ∷ marks_of ss) → AreInTurn true (marks_of ss)
    opens_turn Opens f g = g.1
    opens_turn Closes f g = absurd (cc)
    opens_turn Acts f g = absurd (cc)
    opens_turn Silent f g = absurd (cc)
still_open n section (s ∷ ss) (suc j) (suc o) t e h u =
    still_open (next_behind n (kind_of s.act)) (section_behind n section (mark_of s.act)) ss j o (turn n section (mark_of s.act) (marks_of ss) t) e (omega arith)
    (λ k low high g. u (suc k) (omega arith) (omega arith) g)
    ∙ ap Some (next_count (kind_of s.act) n (acting_before o ss))

-- none is open before an open
pub none_open : (n : ℕ) (section : Option ℕ) (ss : List SsaStep) (j : ℕ) → AreInTurn (is_open section) (marks_of ss) → slice_get (marks_of ss) j ≡ Some Opens → open_at n section j ss ≡ None
none_open n section [] j t e = absurd (none-some Opens e)
none_open n section (s ∷ ss) zero t e = by_mark (mark_of s.act) (same_Some (mark_of s.act) Opens e) t
  where
    by_mark : (m : Mark) → m ≡ Opens → AreInTurn (is_open section) (m ∷ marks_of ss) → section ≡ None
    by_mark Opens f g = open_none section g.0
    by_mark Closes f g = absurd (cc)
    by_mark Acts f g = absurd (cc)
    by_mark Silent f g = absurd (cc)
none_open n section (s ∷ ss) (suc j) t e = none_open (next_behind n (kind_of s.act)) (section_behind n section (mark_of s.act)) ss j (turn n section (mark_of s.act) (marks_of ss) t) e

-- the place where an open section ends
pub record Closing (ms : List Mark) (j : ℕ) : Type 0 where
  pub at : ℕ
  pub from : j ≤ at
  pub closes : slice_get ms at ≡ Some Closes
  pub unclosed : Unclosed ms j at

closing_behind : (m : Mark) (ms : List Mark) (j : ℕ) → Closing ms j → Closing (m ∷ ms) (suc j)
closing_behind m ms j r = record { at = suc r.at; from = let h = r.from in omega (arith, h); closes = r.closes; unclosed = later }
  where
    later : Unclosed (m ∷ ms) (suc j) (suc r.at)
    later zero low high e = omega arith
    later (suc k) low high e = r.unclosed k (omega arith) (omega arith) e

closing_more : (m : Mark) (ms : List Mark) → ¬ (m ≡ Closes) → Closing ms 0 → Closing (m ∷ ms) 0
closing_more m ms not r = record { at = suc r.at; from = omega arith; closes = r.closes; unclosed = later }
  where
    later : Unclosed (m ∷ ms) 0 (suc r.at)
    later zero low high e = not (same_Some m Closes e)
    later (suc k) low high e = r.unclosed k (omega arith) (omega arith) e

first_closing : (ms : List Mark) → AreInTurn true ms → Closing ms 0
first_closing [] h = absurd (cc)
first_closing (Opens ∷ ms) h = absurd (let e = h.0 in cc)
first_closing (Closes ∷ ms) h = record { at = 0; from = omega arith; closes = refl; unclosed = λ k low high e. omega arith }
first_closing (Acts ∷ ms) h = closing_more Acts ms (λ e. cc) (first_closing ms h)
first_closing (Silent ∷ ms) h = closing_more Silent ms (λ e. cc) (first_closing ms h)

pub closing : (n : ℕ) (section : Option ℕ) (ss : List SsaStep) (j b : ℕ) → AreInTurn (is_open section) (marks_of ss) → open_at n section j ss ≡ Some b → Closing (marks_of ss) j
closing n section ss zero b t e = first_closing (marks_of ss) (let P : Option ℕ → Type 0 = λ o. AreInTurn (is_open o) (marks_of ss) in subst P e t)
closing n section [] (suc j) b t e = absurd (let f : is_open section ≡ true = ap is_open e in cc)
closing n section (s ∷ ss) (suc j) b t e =
    closing_behind (mark_of s.act) (marks_of ss) j (closing (next_behind n (kind_of s.act)) (section_behind n section (mark_of s.act)) ss j b (turn n section (mark_of s.act) (marks_of ss) t) e)
