-- Each gate's clauses say that its literal has the gate's value, and can be made true by it.
use Rattle.std.proofs.Common.{◌≡◌, ◌+◌, ◌%◌, ◌≤◌, inl, inr, Bool, true, false, not, ◌||◌, List, [], ◌∷◌, ◌++◌, length, refl, ap, sym, ◌∙◌, subst, arith}
use Rattle.std.specs.Prelude.{Contains, All}
use Rattle.std.proofs.lemmas.List.{append-nil, append_assoc, length_push}
use Rattle.std.proofs.lemmas.List.Elements.{All-contains, Contains-append_left, Contains-append_right, Contains-append_cases}
use Rattle.dg_base.proofs.Lists.{contains_head}
use Rattle.dg_base.specs.declared.Lit.{Lit}
use Rattle.cnf_problem.specs.Literals.{positive, value, IsOver, IsSatisfied, AreSatisfied}
use Rattle.cnf_problem.specs.Formulas.{Formula, true_lit, HasValue, IsBuilt, Extension, Extends, AddsFree, IsGate}
use Rattle.cnf_problem.proofs.LiteralLaws.{value-even, value-odd}
use Rattle.cnf_problem.proofs.Assignments.{value-append, value-next, satisfied-append, over_next, satisfied_true, each_satisfied}

-- without a new clause nothing is bound
pub extends_self : (f : Formula) → Extends f f
extends_self f = record {
  grows = omega arith;
  added = [];
  clauses = sym (append-nil f.clauses);
  extension = λ s e. (
    [],
    record {
      values = ap length (append-nil s) ∙ e;
      satisfied = each_satisfied (s ++ []) [] tt;
      kept = λ clause listed h. subst (λ z. IsSatisfied z clause) (sym (append-nil s)) h;
    },
  );
}

-- an older literal is a gate where it has the gate's value
pub gate_of_older : (f : Formula) (l : Lit) (gate : List Bool → Bool) → IsOver f.vars l → HasValue f.clauses l gate → IsGate f f l gate
gate_of_older f l gate over exact = record { over = over; exact = exact; extends = extends_self f }

-- the formula with one more variable and these clauses
abbrev pub defined : Formula → List (List Lit) → Formula
defined f added = record { vars = f.vars + 1; clauses = f.clauses ++ added }

-- any value of the next variable keeps the older clauses true
pub next_kept : (f : Formula) → IsBuilt f → (s : List Bool) (b : Bool) → length s ≡ f.vars
    → (clause : List Lit) → Contains f.clauses clause → IsSatisfied s clause → IsSatisfied (s ++ b ∷ []) clause
next_kept f built s b e clause listed h =
    satisfied-append s (b ∷ []) clause (subst (λ n. All (IsOver n) clause) (sym e) (All-contains (All (IsOver f.vars)) f.clauses clause built.over listed)) h

-- a new variable without clauses is free
pub adds_free : (f : Formula) → IsBuilt f → AddsFree f (record { vars = f.vars + 1; clauses = f.clauses })
adds_free f built = record {
  vars = refl;
  clauses = refl;
  extension = λ s b e. record {
    values = length_push s b ∙ ap (λ n. n + 1) e;
    satisfied = each_satisfied (s ++ b ∷ []) [] tt;
    kept = next_kept f built s b e;
  };
}

-- and extends the formula
pub extends_free : (f g : Formula) → AddsFree f g → Extends f g
extends_free f g free = record {
  grows = let e = free.vars in omega arith;
  added = [];
  clauses = free.clauses ∙ sym (append-nil f.clauses);
  extension = λ s e. (false ∷ [], free.extension s false e);
}

-- a new variable is a gate where its clauses say so, and are true wherever it has the gate's value
pub gate_of_new : (f : Formula) (added : List (List Lit)) (gate : List Bool → Bool) → IsBuilt f
    → ((s : List Bool) → AreSatisfied s added → value s (positive (f.vars + 1)) ≡ gate s)
    → ((s : List Bool) → length s ≡ f.vars → AreSatisfied (s ++ gate s ∷ []) added)
    → IsGate f (defined f added) (positive (f.vars + 1)) gate
gate_of_new f added gate built sound complete = record {
  over = over_next f.vars;
  exact = λ s h. sound s (λ clause listed. h clause (Contains-append_right f.clauses added clause listed));
  extends = record {
    grows = omega arith;
    added = added;
    clauses = refl;
    extension = λ s e. (
      gate s ∷ [],
      record {
        values = length_push s (gate s) ∙ ap (λ n. n + 1) e;
        satisfied = complete s e;
        kept = next_kept f built s (gate s) e;
      },
    );
  };
}

-- the truth values of the new variable and of the older literals, under an assignment with the new variable's value behind the others
pub new_value : (f : Formula) (s : List Bool) (b : Bool) → length s ≡ f.vars → value (s ++ b ∷ []) (positive (f.vars + 1)) ≡ b
new_value f s b e = subst (λ n. value (s ++ b ∷ []) (positive (n + 1)) ≡ b) e (value-next s b)

-- an older literal keeps its value
pub older_value : (f : Formula) (s : List Bool) (b : Bool) (l : Lit) → length s ≡ f.vars → IsOver f.vars l → value (s ++ b ∷ []) l ≡ value s l
older_value f s b l e over = value-append s (b ∷ []) l (subst (λ n. IsOver n l) (sym e) over)

-- the constant is true wherever the clauses are, and its negation false
pub constant_true : (f : Formula) (s : List Bool) → IsBuilt f → AreSatisfied s f.clauses → value s true_lit ≡ true
constant_true f s built h =
    let one = satisfied_true s (true_lit ∷ []) (h (true_lit ∷ []) built.constant) in
    true_of (value s true_lit) one
  where
    true_of : (b : Bool) → (b || false) ≡ true → b ≡ true
    true_of true e = refl
    true_of false e = e

-- its variable is the first
pub constant_over : (f : Formula) → IsBuilt f → 1 ≤ f.vars
constant_over f built =
    (All-contains (IsOver f.vars) (true_lit ∷ []) true_lit (All-contains (All (IsOver f.vars)) f.clauses (true_lit ∷ []) built.over built.constant) (contains_head true_lit [])).1

-- the negation of the constant is false there
pub constant_false : (f : Formula) (s : List Bool) → IsBuilt f → AreSatisfied s f.clauses → value s (record { 0 = 3 }) ≡ false
constant_false f s built h =
    let odd : 3 % 2 ≡ 1 = omega arith in
    let even : 2 % 2 ≡ 0 = omega arith in
    let e = constant_true f s built h in
    let a = value-odd s (record { 0 = 3 }) odd in
    let b = value-even s true_lit even in
    a ∙ ap not (sym b ∙ e)

-- extensions in two steps
pub extends_steps : (f g h : Formula) → Extends f g → Extends g h → Extends f h
extends_steps f g h first second = record {
  grows = let a = first.grows in let b = second.grows in omega arith;
  added = first.added ++ second.added;
  clauses = second.clauses ∙ ap (λ c. c ++ second.added) first.clauses ∙ append_assoc f.clauses first.added second.added;
  extension = λ s e.
      let one = first.extension s e in
      let two = second.extension (s ++ one.0) one.1.values in
      (one.0 ++ two.0, extension_steps f g h first second s one.0 two.0 one.1 two.1);
}
  where
    extension_steps : (f g h : Formula) (first : Extends f g) (second : Extends g h) (s m n : List Bool)
        → Extension f g first.added s m → Extension g h second.added (s ++ m) n → Extension f h (first.added ++ second.added) s (m ++ n)
    extension_steps f g h first second s m n one two =
        let same : (s ++ m) ++ n ≡ s ++ (m ++ n) = append_assoc s m n in
        record {
          values = subst (λ z. length z ≡ h.vars) same two.values;
          satisfied = λ clause listed. elim (Contains-append_cases first.added second.added clause listed) [
            | inl old ↦ subst (λ z. IsSatisfied z clause) same
                (two.kept clause (subst (λ cs. Contains cs clause) (sym first.clauses) (Contains-append_right f.clauses first.added clause old)) (one.satisfied clause old))
            | inr new ↦ subst (λ z. IsSatisfied z clause) same (two.satisfied clause new)
          ];
          kept = λ clause listed sat. subst (λ z. IsSatisfied z clause) same
              (two.kept clause (subst (λ cs. Contains cs clause) (sym first.clauses) (Contains-append_left f.clauses first.added clause listed)) (one.kept clause listed sat));
        }

-- an assignment that makes the older clauses true extends to one that makes all true
pub extends_assignments : (f g : Formula) (s : List Bool) → Extends f g → length s ≡ f.vars → AreSatisfied s f.clauses → (more : List Bool) × (length (s ++ more) ≡ g.vars) × AreSatisfied (s ++ more) g.clauses
extends_assignments f g s extends e h =
    let x = extends.extension s e in (
      x.0,
      x.1.values,
      λ clause listed. elim (Contains-append_cases f.clauses extends.added clause (subst (λ cs. Contains cs clause) extends.clauses listed)) [
        | inl old ↦ x.1.kept clause old (h clause old)
        | inr new ↦ x.1.satisfied clause new
      ],
    )

-- a gate keeps its value where clauses are added
pub extends_values : (f g : Formula) (l : Lit) (gate : List Bool → Bool) → Extends f g → HasValue f.clauses l gate → HasValue g.clauses l gate
extends_values f g l gate extends exact s h =
    exact s (λ clause listed. h clause (subst (λ cs. Contains cs clause) (sym extends.clauses) (Contains-append_left f.clauses extends.added clause listed)))
