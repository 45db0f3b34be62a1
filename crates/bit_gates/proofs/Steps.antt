-- Gates one behind another, and words of them bit by bit.
use Rattle.std.proofs.Common.{◌≡◌, ℕ, ◌+◌, ◌*◌, ◌/◌, ◌%◌, ◌^◌, ◌<◌, Bool, not, List, [], ◌∷◌, map, length, take, set, get_or, ap, sym, ◌∙◌, subst, arith}
use Rattle.std.specs.Prelude.{All, Contains, replicate, nat_eq, bit_and}
use Rattle.std.proofs.lemmas.List.{take_all, length-set, length-replicate, length-map}
use Rattle.std.proofs.lemmas.List.Elements.{All-map, All-set, All-weaker, All-get_or, All-replicate, Contains-append_left}
use Rattle.dg_base.specs.declared.Lit.{Lit}
use Rattle.dg_base.specs.Values.{truth_of}
use Rattle.cnf_problem.specs.Literals.{value, negated, IsOver, AreSatisfied}
use Rattle.cnf_problem.specs.Formulas.{Formula, HasValue, Extends, IsGate}
use Rattle.cnf_problem.proofs.Assignments.{over_more, over-negated}
use Rattle.cnf_problem.proofs.LiteralLaws.{value-negated}
use Rattle.cnf_problem.proofs.GateLaws.{extends_self, extends_steps, gate_of_older}
use Rattle.bit_gates.specs.Words.{number, IsWordOver, Spells, IsWordGate}
use Rattle.bit_gates.proofs.Numbers.{number_written}
use Rattle.bit_gates.proofs.Arith.{constant_step}

-- what makes the newer clauses true makes the older ones true
pub older : (f g : Formula) (s : List Bool) → Extends f g → AreSatisfied s g.clauses → AreSatisfied s f.clauses
older f g s extends h clause listed =
    h clause (subst (λ cs. Contains cs clause) (sym extends.clauses) (Contains-append_left f.clauses extends.added clause listed))

pub lit_more : (f g : Formula) (l : Lit) → Extends f g → IsOver f.vars l → IsOver g.vars l
lit_more f g l extends over = over_more f.vars g.vars l extends.grows over

pub all_more : (f g : Formula) (w : List Lit) → Extends f g → All (IsOver f.vars) w → All (IsOver g.vars) w
all_more f g w extends over = All-weaker (IsOver f.vars) (IsOver g.vars) (λ l h. lit_more f g l extends h) w over

pub word_more : (f g : Formula) (w : List Lit) → Extends f g → IsWordOver f.vars w → IsWordOver g.vars w
word_more f g w extends (long, over) = (long, all_more f g w extends over)

-- a bit of a word
pub bit_over : (n : ℕ) (w : List Lit) (i : ℕ) (d : Lit) → i < 32 → IsWordOver n w → IsOver n (get_or w i d)
bit_over n w i d h (long, over) = All-get_or (IsOver n) w i d (omega arith) over

-- an inverse is over the same variables
pub inverse_over : (n : ℕ) (w inverse : List Lit) → IsWordOver n w → inverse ≡ map negated w → IsWordOver n inverse
inverse_over n w inverse (long, over) e =
    subst (λ z. IsWordOver n z) (sym e)
    (length-map w negated ∙ long, All-map (IsOver n) negated w (All-weaker (IsOver n) (λ l. IsOver n (negated l)) (λ l h. over-negated n l h) w over))

-- a gate that is told otherwise
pub gate_as : (f g : Formula) (l : Lit) (b c : List Bool → Bool) → IsGate f g l b → ((s : List Bool) → AreSatisfied s g.clauses → b s ≡ c s) → IsGate f g l c
gate_as f g l b c gate same = record { over = gate.over; exact = λ s h. gate.exact s h ∙ same s h; extends = gate.extends }

-- a gate behind an extension
pub gate_behind : (f g h : Formula) (l : Lit) (b : List Bool → Bool) → Extends f g → IsGate g h l b → IsGate f h l b
gate_behind f g h l b first gate = record { over = gate.over; exact = gate.exact; extends = extends_steps f g h first gate.extends }

pub gate_negated : (f g : Formula) (l : Lit) (b : List Bool → Bool) → IsGate f g l b → IsGate f g (negated l) (λ s. not (b s))
gate_negated f g l b gate = record {
  over = over-negated g.vars l gate.over;
  exact = λ s h. value-negated s l ∙ ap not (gate.exact s h);
  extends = gate.extends;
}

pub word_as : (f g : Formula) (w : List Lit) (p q : List Bool → ℕ) → IsWordGate f g w p → ((s : List Bool) → AreSatisfied s g.clauses → p s ≡ q s) → IsWordGate f g w q
word_as f g w p q gate same = record { over = gate.over; exact = λ s h. gate.exact s h ∙ same s h; extends = gate.extends }

pub word_behind : (f g h : Formula) (w : List Lit) (p : List Bool → ℕ) → Extends f g → IsWordGate g h w p → IsWordGate f h w p
word_behind f g h w p first gate = record { over = gate.over; exact = gate.exact; extends = extends_steps f g h first gate.extends }

-- a word without gates
pub word_of_older : (f : Formula) (w : List Lit) (p : List Bool → ℕ) → IsWordOver f.vars w → Spells f.clauses w p → IsWordGate f f w p
word_of_older f w p over exact = record { over = over; exact = exact; extends = extends_self f }

-- the first so many bits of a word are made
pub record SoFar (f g : Formula) (w : List Lit) (i : ℕ) (p : List Bool → ℕ) : Type 0 where
  pub long : length w ≡ 32
  pub over : All (IsOver g.vars) w
  pub exact : (s : List Bool) → AreSatisfied s g.clauses → number s (take i w) ≡ p s
  pub extends : Extends f g

pub none_so_far : (f : Formula) (l : Lit) (p : List Bool → ℕ) → IsOver f.vars l → ((s : List Bool) → p s ≡ 0) → SoFar f f (replicate 32 l) 0 p
none_so_far f l p over zero = record {
  long = length-replicate 32 l;
  over = All-replicate (IsOver f.vars) 32 l over;
  exact = λ s h. sym (zero s);
  extends = extends_self f;
}

pub one_more : (f g h : Formula) (w : List Lit) (i : ℕ) (l : Lit) (p q : List Bool → ℕ) (b : List Bool → Bool) → i < 32 → SoFar f g w i p → IsGate g h l b
    → ((s : List Bool) → AreSatisfied s h.clauses → p s + 2 ^ i * truth_of (b s) ≡ q s) → SoFar f h (set w i l) (i + 1) q
one_more f g h w i l p q b within far gate step = record {
  long = length-set w i l ∙ far.long;
  over = All-set (IsOver h.vars) w i l gate.over (all_more g h w gate.extends far.over);
  exact = λ s sat.
      let long = far.long in
      let bit : truth_of (value s l) ≡ truth_of (b s) = ap truth_of (gate.exact s sat) in
      let e = number_written s w i l (omega arith) in
      let before = far.exact s (older g h s gate.extends sat) in
      e ∙ ap (λ n. n + 2 ^ i * truth_of (value s l)) before ∙ ap (λ n. p s + 2 ^ i * n) bit ∙ step s sat;
  extends = extends_steps f g h far.extends gate.extends;
}

pub all_made : (f g : Formula) (w : List Lit) (p q : List Bool → ℕ) → SoFar f g w 32 p → ((s : List Bool) → p s ≡ q s) → IsWordGate f g w q
all_made f g w p q far same = record {
  over = (far.long, far.over);
  exact = λ s h. let long = far.long in ap (number s) (sym (take_all 32 w (omega arith))) ∙ far.exact s h ∙ same s;
  extends = far.extends;
}

-- a constant, bit by bit
pub constant_none : (f : Formula) (n : ℕ) (always : Lit) → IsOver f.vars always → SoFar f f (replicate 32 always) 0 (λ _. n % 2 ^ 0)
constant_none f n always over = none_so_far f always (λ _. n % 2 ^ 0) over (λ s. omega arith)

pub constant_more : (f : Formula) (w : List Lit) (n i : ℕ) (l : Lit) (bit : Bool) → i < 32 → bit ≡ nat_eq (bit_and (n / 2 ^ i) 1) 1 → IsOver f.vars l → HasValue f.clauses l (λ _. bit)
    → SoFar f f w i (λ _. n % 2 ^ i) → SoFar f f (set w i l) (i + 1) (λ _. n % 2 ^ (i + 1))
constant_more f w n i l bit within e over exact far =
    one_more f f f w i l (λ _. n % 2 ^ i) (λ _. n % 2 ^ (i + 1)) (λ _. bit) within far (gate_of_older f l (λ _. bit) over exact)
    (λ s sat. ap (λ b. n % 2 ^ i + 2 ^ i * truth_of b) e ∙ constant_step n i)

pub constant_made : (f : Formula) (w : List Lit) (n i : ℕ) → i ≡ 32 → n < 2 ^ 32 → SoFar f f w i (λ _. n % 2 ^ i) → Spells f.clauses w (λ _. n)
constant_made f w n i e fits far s sat =
    let long = far.long in
    let small : n % 2 ^ 32 ≡ n = omega arith in
    ap (number s) (sym (take_all i w (omega arith))) ∙ far.exact s sat ∙ ap (λ k. n % 2 ^ k) e ∙ small

-- the lowest bit of a word that spells 0, written
pub first_written : (f : Formula) (w : List Lit) (l : Lit) → length w ≡ 32 → Spells f.clauses w (λ _. 0) → Spells f.clauses (set w 0 l) (λ s. truth_of (value s l))
first_written f [] l long zero s sat = absurd (omega arith)
first_written f (x ∷ xs) l long zero s sat =
    let e : truth_of (value s x) + 2 * number s xs ≡ 0 = zero s sat in
    let rest : number s xs ≡ 0 = omega arith in
    omega arith
