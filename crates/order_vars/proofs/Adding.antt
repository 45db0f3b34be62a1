-- A link with one fresh variable.
use Rattle.std.proofs.Common.{◌≡◌, ℕ, ◌+◌, Bool, List, [], ◌∷◌, ◌++◌, length, refl, ap, sym, ◌∙◌, subst, arith}
use Rattle.std.proofs.lemmas.List.{append_assoc, append-nil, length_push}
use Rattle.dg_base.specs.declared.Lit.{Lit}
use Rattle.cnf_problem.specs.Literals.{positive, value, IsOver}
use Rattle.cnf_problem.specs.Formulas.{Formula, AddsFree}
use Rattle.cnf_problem.proofs.Assignments.{over_next, over_more, value-append}
use Rattle.cnf_problem.proofs.GateLaws.{new_value}
use Rattle.memory_models.specs.declared.StaticEvent.{StaticEvent}
use Rattle.order_vars.specs.Links.{Link, reading, rivalry, joining, MayRead, AreRivals, MayJoin}
use Rattle.axiom_model.specs.declared.MemoryModel.{MemoryModel}
use Rattle.order_vars.specs.Atoms.{link_atoms, atoms_of}
use Rattle.order_vars.specs.Clauses.{link_clauses}
use Rattle.order_vars.specs.Orders.{IsChosen}
use Rattle.order_vars.specs.Growing.{AddsLink}
use Rattle.order_vars.proofs.Growth.{one_listed}

-- the fresh variable is one of the new formula's
fresh_over : (f g h : Formula) (l : Lit) → l ≡ positive (f.vars + 1) → AddsFree f g → h.vars ≡ g.vars → IsOver h.vars l
fresh_over f g h l e free vars =
    let n : f.vars + 1 ≡ h.vars = sym free.vars ∙ sym vars in
    subst (λ z. IsOver h.vars z) (sym e) (subst (λ v. IsOver v (positive (f.vars + 1))) n (over_next f.vars))

fresh_long : (f g h : Formula) (s : List Bool) (b : Bool) → AddsFree f g → h.vars ≡ g.vars → length s ≡ f.vars → length (s ++ b ∷ []) ≡ h.vars
fresh_long f g h s b free vars long = length_push s b ∙ ap (λ n. n + 1) long ∙ sym free.vars ∙ sym vars

fresh_value : (f : Formula) (l : Lit) (s : List Bool) (b : Bool) → l ≡ positive (f.vars + 1) → length s ≡ f.vars → value (s ++ b ∷ []) l ≡ b
fresh_value f l s b e long = ap (λ z. value (s ++ b ∷ []) z) e ∙ new_value f s b long

pub adds_reading : (es : List StaticEvent) (words : List (List Lit)) (f g h : Formula) (w r : ℕ) (l : Lit) → MayRead es w r → l ≡ positive (f.vars + 1) → AddsFree f g
    → h.vars ≡ g.vars → h.clauses ≡ g.clauses ++ link_clauses es words (reading w r l) → AddsLink es words f h (reading w r l)
adds_reading es words f g h w r l may e free vars clauses = record {
  is = may;
  over = fresh_over f g h l e free vars;
  grows = let a = free.vars in omega arith;
  clauses = clauses ∙ ap (λ cs. cs ++ link_clauses es words (reading w r l)) free.clauses;
  free = λ s c long. record {
    more = c.source w r ∷ [];
    values = fresh_long f g h s (c.source w r) free vars long;
    chosen = λ x listed. subst (λ z. IsChosen (s ++ c.source w r ∷ []) c z) (sym (one_listed (reading w r l) x listed)) (fresh_value f l s (c.source w r) e long);
  };
}

pub adds_joining : (es : List StaticEvent) (words : List (List Lit)) (f g h : Formula) (n j : ℕ) (l : Lit) → MayJoin es n j → l ≡ positive (f.vars + 1) → AddsFree f g
    → h.vars ≡ g.vars → h.clauses ≡ g.clauses ++ link_clauses es words (joining n j l) → AddsLink es words f h (joining n j l)
adds_joining es words f g h n j l may e free vars clauses = record {
  is = may;
  over = fresh_over f g h l e free vars;
  grows = let a = free.vars in omega arith;
  clauses = clauses ∙ ap (λ cs. cs ++ link_clauses es words (joining n j l)) free.clauses;
  free = λ s c long. record {
    more = c.waits n j ∷ [];
    values = fresh_long f g h s (c.waits n j) free vars long;
    chosen = λ x listed. subst (λ z. IsChosen (s ++ c.waits n j ∷ []) c z) (sym (one_listed (joining n j l) x listed)) (fresh_value f l s (c.waits n j) e long);
  };
}

-- two writes, with two fresh variables
pub adds_rivalry : (es : List StaticEvent) (words : List (List Lit)) (f g i h : Formula) (w v : ℕ) (l back : Lit) → AreRivals es w v → l ≡ positive (f.vars + 1) → AddsFree f g
    → back ≡ positive (g.vars + 1) → AddsFree g i → h.vars ≡ i.vars → h.clauses ≡ i.clauses ++ link_clauses es words (rivalry w v l back) → AddsLink es words f h (rivalry w v l back)
adds_rivalry es words f g i h w v l back may e free e2 free2 vars clauses = record {
  is = may;
  over = (over_more g.vars h.vars l (let a = free2.vars in omega arith) (fresh_over f g g l e free refl), fresh_over g i h back e2 free2 vars);
  grows = let a = free.vars in let b = free2.vars in omega arith;
  clauses = clauses ∙ ap (λ cs. cs ++ link_clauses es words (rivalry w v l back)) (free2.clauses ∙ free.clauses);
  free = λ s c long.
      let x = c.before w v in
      let y = c.before v w in
      let once = fresh_long f g g s x free refl long in
      let same : (s ++ x ∷ []) ++ y ∷ [] ≡ s ++ (x ∷ y ∷ []) = append_assoc s (x ∷ []) (y ∷ []) in
      let first : value ((s ++ x ∷ []) ++ y ∷ []) l ≡ x = value-append (s ++ x ∷ []) (y ∷ []) l (subst (λ n. IsOver n l) (sym once) (fresh_over f g g l e free refl)) ∙ fresh_value f l s x e long in
      let second : value ((s ++ x ∷ []) ++ y ∷ []) back ≡ y = fresh_value g back (s ++ x ∷ []) y e2 once in
      record {
        more = x ∷ y ∷ [];
        values = subst (λ z. length z ≡ h.vars) same (fresh_long g i h (s ++ x ∷ []) y free2 vars once);
        chosen = λ z listed. subst (λ u. IsChosen (s ++ (x ∷ y ∷ [])) c u) (sym (one_listed (rivalry w v l back) z listed))
            (subst (λ t. value t l ≡ x) same first, subst (λ t. value t back ≡ y) same second);
      };
}

-- the atoms of one more link
pub atoms_push : (m : MemoryModel) (es : List StaticEvent) (xs : List Link) (x : Link) → atoms_of m es (xs ++ x ∷ []) ≡ atoms_of m es xs ++ link_atoms m es x
atoms_push m es [] x = append-nil (link_atoms m es x)
atoms_push m es (y ∷ xs) x =
    ap (λ rest. link_atoms m es y ++ rest) (atoms_push m es xs x) ∙ sym (append_assoc (link_atoms m es y) (atoms_of m es xs) (link_atoms m es x))
