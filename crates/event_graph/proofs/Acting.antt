-- Places in the list of actions.
use Rattle.std.proofs.Common.{◌≡◌, ℕ, zero, suc, ◌+◌, ◌-◌, ◌<◌, ◌≤◌, inl, inr, true, List, [], ◌∷◌, ◌++◌, length, Option, Some, None, refl, ap, sym, ◌∙◌, arith}
use Rattle.std.specs.Prelude.{slice_get, unwrap_or}
use Rattle.std.proofs.lemmas.Option.{none-some, same_Some, slice_get_within}
use Rattle.dg_base.specs.Values.{truth_of}
use Rattle.dg_base.proofs.Lists.{one_answer, get_append_left, get_append_right, get_append_cases}
use Rattle.ssa_form.specs.declared.SsaPart.{SsaPart}
use Rattle.ssa_form.specs.declared.SsaStep.{SsaStep}
use Rattle.ssa_form.specs.Parts.{mark_of}
use Rattle.memory_models.specs.declared.StaticKind.{StaticKind}
use Rattle.event_graph.specs.Graphs.{Acting, kind_of, next_behind, section_behind, acting_by, acting_in, acting_in_all}
use Rattle.event_graph.proofs.Counting.{count_all, choose}
use Rattle.event_graph.proofs.Opening.{acts, is_acting, acting_before, open_at, next_count}

-- ---- one instance

-- the action of a step before which a section may be open, with number N
abbrev pub acting_at : ℕ → SsaStep → Option ℕ → ℕ → Acting
acting_at i s section number = record { instance = i; step = s; block = unwrap_or section number }

length_one : (i n : ℕ) (section : Option ℕ) (s : SsaStep) (o : Option StaticKind) (rest : List Acting) → length (acting_by i n section s o ++ rest) ≡ truth_of (acts o) + length rest
length_one i n section s None rest = omega arith
length_one i n section s (Some k) rest = omega arith

pub length_acting : (i n : ℕ) (section : Option ℕ) (ss : List SsaStep) → length (acting_in i n section ss) ≡ count_all is_acting ss
length_acting i n section [] = refl
length_acting i n section (s ∷ ss) =
    length_one i n section s (kind_of s.act) (acting_in i (next_behind n (kind_of s.act)) (section_behind n section (mark_of s.act)) ss)
    ∙ ap (λ m. truth_of (is_acting s) + m) (length_acting i (next_behind n (kind_of s.act)) (section_behind n section (mark_of s.act)) ss)

front : (i n : ℕ) (section : Option ℕ) (s : SsaStep) (o : Option StaticKind) (rest : List Acting) → acts o ≡ true → slice_get (acting_by i n section s o ++ rest) 0 ≡ Some (acting_at i s section n)
front i n section s None rest e = absurd (cc)
front i n section s (Some k) rest e = refl

behind : (i n : ℕ) (section : Option ℕ) (s : SsaStep) (o : Option StaticKind) (rest : List Acting) (c : ℕ) → slice_get (acting_by i n section s o ++ rest) (truth_of (acts o) + c) ≡ slice_get rest c
behind i n section s None rest c = let same : 0 + c ≡ c = omega arith in ap (λ k. slice_get rest k) same
behind i n section s (Some k) rest c = let same : 1 + c ≡ suc c = omega arith in ap (λ m. slice_get (acting_at i s section n ∷ rest) m) same

-- the action of a step
pub acting_there : (i n : ℕ) (section : Option ℕ) (ss : List SsaStep) (j : ℕ) (s : SsaStep) (k number : ℕ)
    → slice_get ss j ≡ Some s → is_acting s ≡ true → acting_before j ss ≡ k → number ≡ n + k → slice_get (acting_in i n section ss) k ≡ Some (acting_at i s (open_at n section j ss) number)
acting_there i n section [] j s k number e loud c m = absurd (none-some s e)
acting_there i n section (t ∷ ss) zero s k number e loud c m =
    let same = same_Some t s e in
    let rest = acting_in i (next_behind n (kind_of t.act)) (section_behind n section (mark_of t.act)) ss in
    let first : slice_get (acting_in i n section (t ∷ ss)) 0 ≡ Some (acting_at i t section n) = front i n section t (kind_of t.act) rest (ap is_acting same ∙ loud) in
    let at : n ≡ number = omega (arith, c, m) in
    ap (λ z. slice_get (acting_in i n section (t ∷ ss)) z) (sym c) ∙ first ∙ ap (λ z. Some (acting_at i z section n)) same ∙ ap (λ z. Some (acting_at i s section z)) at
acting_there i n section (t ∷ ss) (suc j) s k number e loud c m =
    let rest = acting_in i (next_behind n (kind_of t.act)) (section_behind n section (mark_of t.act)) ss in
    let next : number ≡ next_behind n (kind_of t.act) + acting_before j ss = m ∙ ap (λ z. n + z) (sym c) ∙ sym (next_count (kind_of t.act) n (acting_before j ss)) in
    let over : slice_get (acting_in i n section (t ∷ ss)) (truth_of (is_acting t) + acting_before j ss) ≡ slice_get rest (acting_before j ss) = behind i n section t (kind_of t.act) rest (acting_before j ss) in
    ap (λ z. slice_get (acting_in i n section (t ∷ ss)) z) (sym c) ∙ over
    ∙ acting_there i (next_behind n (kind_of t.act)) (section_behind n section (mark_of t.act)) ss j s (acting_before j ss) number e loud refl next

-- the step of an action
pub record Source (i n : ℕ) (ss : List SsaStep) (k : ℕ) (a : Acting) : Type 0 where
  pub place : ℕ
  pub step : SsaStep
  pub there : slice_get ss place ≡ Some step
  pub acts : is_acting step ≡ true
  pub count : acting_before place ss ≡ k
  pub same : a ≡ acting_at i step (open_at n None place ss) (n + k)

pub acting_source : (i n : ℕ) (ss : List SsaStep) (k : ℕ) (a : Acting) → slice_get (acting_in i n None ss) k ≡ Some a → Source i n ss k a
acting_source i n ss k a e =
    let within = slice_get_within (acting_in i n None ss) k a e in
    let long = length_acting i n None ss in
    let c = choose is_acting ss k (omega (arith, within, long)) in
    let there = acting_there i n None ss c.place c.item k (n + k) c.there c.passes c.count refl in
    record {
      place = c.place;
      step = c.item;
      there = c.there;
      acts = c.passes;
      count = c.count;
      same = one_answer (slice_get (acting_in i n None ss) k) a (acting_at i c.item (open_at n None c.place ss) (n + k)) e there;
    }

-- ---- all instances

-- how many actions a part may make
abbrev pub acting_of : SsaPart → ℕ
acting_of p = count_all is_acting p.steps

-- the number of the first action of the part at a place
abbrev pub first_in : ℕ → ℕ → List SsaPart → ℕ
first_in n zero ps = n
first_in n (suc q) [] = n
first_in n (suc q) (p ∷ ps) = first_in (n + acting_of p) q ps

pub first_least : (n q : ℕ) (ps : List SsaPart) → n ≤ first_in n q ps
first_least n zero ps = omega arith
first_least n (suc q) [] = omega arith
first_least n (suc q) (p ∷ ps) = let r = first_least (n + acting_of p) q ps in omega (arith, r)

-- a part's actions have lower numbers than those of later parts
pub parts_apart : (n q r : ℕ) (ps : List SsaPart) (p : SsaPart) → q < r → slice_get ps q ≡ Some p → first_in n q ps + acting_of p ≤ first_in n r ps
parts_apart n q r [] p h e = absurd (none-some p e)
parts_apart n q zero (t ∷ ps) p h e = absurd (omega arith)
parts_apart n zero (suc r) (t ∷ ps) p h e =
    let low = first_least (n + acting_of t) r ps in
    let same : acting_of t ≡ acting_of p = ap acting_of (same_Some t p e) in
    omega (arith, low, same)
parts_apart n (suc q) (suc r) (t ∷ ps) p h e = parts_apart (n + acting_of t) q r ps p (omega arith) e

length_part : (i n : ℕ) (p : SsaPart) → length (acting_in i n None p.steps) ≡ acting_of p
length_part i n p = length_acting i n None p.steps

pub all_there : (i n m q : ℕ) (ps : List SsaPart) (p : SsaPart) (k l : ℕ) (a : Acting)
    → slice_get ps q ≡ Some p → m ≡ i + q → slice_get (acting_in m (first_in n q ps) None p.steps) k ≡ Some a → n + l ≡ first_in n q ps + k → slice_get (acting_in_all i n ps) l ≡ Some a
all_there i n m q [] p k l a e f g h = absurd (none-some p e)
all_there i n m zero (t ∷ ps) p k l a e f g h =
    let same : k ≡ l = omega (arith, h) in
    let here : m ≡ i = omega (arith, f) in
    let mine : slice_get (acting_in i n None t.steps) l ≡ Some a =
    ap (λ (z : SsaPart). slice_get (acting_in i n None z.steps) l) (same_Some t p e) ∙ ap (λ z. slice_get (acting_in i n None p.steps) z) (sym same) ∙ ap (λ z. slice_get (acting_in z n None p.steps) k) (sym here) ∙ g in
    get_append_left (acting_in i n None t.steps) (acting_in_all (i + 1) (n + length (acting_in i n None t.steps)) ps) l a mine
all_there i n m (suc q) (t ∷ ps) p k l a e f g h =
    let long = length_part i n t in
    let low = first_least (n + acting_of t) q ps in
    let rest : ℕ = l - acting_of t in
    let split : l ≡ length (acting_in i n None t.steps) + rest = omega (arith, long, low, h) in
    let base : n + length (acting_in i n None t.steps) ≡ n + acting_of t = ap (λ z. n + z) long in
    get_append_right (acting_in i n None t.steps) (acting_in_all (i + 1) (n + length (acting_in i n None t.steps)) ps) l rest split
    ∙ ap (λ z. slice_get (acting_in_all (i + 1) z ps) rest) base
    ∙ all_there (i + 1) (n + acting_of t) m q ps p k rest a e (omega (arith, f)) g (omega (arith, low, h))

-- the part of an action
pub record Belongs (i n : ℕ) (ps : List SsaPart) (l : ℕ) (a : Acting) : Type 0 where
  pub number : ℕ
  pub part : SsaPart
  pub place : ℕ
  pub there : slice_get ps number ≡ Some part
  pub acting : slice_get (acting_in (i + number) (first_in n number ps) None part.steps) place ≡ Some a
  pub sum : n + l ≡ first_in n number ps + place

pub belongs : (i n : ℕ) (ps : List SsaPart) (l : ℕ) (a : Acting) → slice_get (acting_in_all i n ps) l ≡ Some a → Belongs i n ps l a
belongs i n [] l a e = absurd (none-some a e)
belongs i n (t ∷ ps) l a e =
    elim (get_append_cases (acting_in i n None t.steps) (acting_in_all (i + 1) (n + length (acting_in i n None t.steps)) ps) l a e) [
      | inl mine ↦
          let same : i ≡ i + 0 = omega arith in
          record { number = 0; part = t; place = l; there = refl; acting = ap (λ z. slice_get (acting_in z n None t.steps) l) (sym same) ∙ mine; sum = refl }
      | inr r ↦
          let base : n + length (acting_in i n None t.steps) ≡ n + acting_of t = ap (λ z. n + z) (length_part i n t) in
          let b = belongs (i + 1) (n + acting_of t) ps r.0 a (ap (λ z. slice_get (acting_in_all (i + 1) z ps) r.0) (sym base) ∙ r.2) in
          let same : i + 1 + b.number ≡ i + suc b.number = omega arith in
          let long = length_part i n t in
          let split = r.1 in
          let sum = b.sum in
          record {
            number = suc b.number;
            part = b.part;
            place = b.place;
            there = b.there;
            acting = ap (λ z. slice_get (acting_in z (first_in (n + acting_of t) b.number ps) None b.part.steps) b.place) (sym same) ∙ b.acting;
            sum = omega (arith, split, long, sum);
          }
    ]
