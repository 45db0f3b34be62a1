-- Names that are gathered one after another.
use Rattle.std.proofs.Common.{◌≡◌, ◌∙◌, ◌<◌, ◌≤◌, ◌+◌, refl, ap, sym, List, [], ◌∷◌, ◌++◌, ℕ, append_assoc, map, drop, length, get_or}
use Rattle.c_tree.specs.declared.expr.Expr.{Expr}
use Rattle.c_tree.specs.declared.stmt.Stmt.{Stmt}
use Rattle.c_tree.specs.declared.stmt.Declarator.{Declarator}
use Rattle.c_check.proofs.Walking.{drop_cons, drop_all}
use Rattle.std.specs.Prelude.{Result, Ok, Err, OnOk}
use Rattle.std.proofs.lemmas.List.{append-nil}
use Rattle.std.proofs.lemmas.List.Elements.{filter_map-append}
use Rattle.c_tree.specs.declared.program.Item.{Item}
use Rattle.c_rules.specs.Names.{Name}
use Rattle.c_check.specs.Recursion.{number_of, called, called_in, called_in_stmt, called_in_option, called_in_start, called_in_declarators, all_called, in_all}
use Rattle.c_check.specs.Graph.{numbers_of}

pub numbers-append : (items : List Item) (xs ys : List Name) → numbers_of items (xs ++ ys) ≡ numbers_of items xs ++ numbers_of items ys
unfolding numbers_of
numbers-append items xs ys = filter_map-append (number_of items) xs ys

pub none_gathered : (items : List Item) (o : List ℕ) → o ≡ o ++ numbers_of items []
unfolding numbers_of
none_gathered items o = sym (append-nil o)

pub none_left : (items : List Item) (o : List ℕ) → o ++ numbers_of items [] ≡ o
unfolding numbers_of
none_left items o = append-nil o

-- what two parts have is what the whole has
pub then : (items : List Item) (o a b : List ℕ) (xs ys : List Name)
    → a ≡ o ++ numbers_of items xs → b ≡ a ++ numbers_of items ys → b ≡ o ++ numbers_of items (xs ++ ys)
then items o a b xs ys h k =
    k ∙ (ap (λ (l : List ℕ). l ++ numbers_of items ys) h
    ∙ (append_assoc o (numbers_of items xs) (numbers_of items ys) ∙ ap (λ (l : List ℕ). o ++ l) (sym (numbers-append items xs ys))))

pub then_one : (items : List Item) (o a b : List ℕ) (n : Name) (ys : List Name)
    → a ≡ o ++ numbers_of items (n ∷ []) → b ≡ a ++ numbers_of items ys → b ≡ o ++ numbers_of items (n ∷ ys)
then_one items o a b n ys h k = then items o a b (n ∷ []) ys h k

pub then_rest : (items : List Item) (o a w : List ℕ) (xs ys : List Name)
    → a ≡ o ++ numbers_of items xs → o ++ numbers_of items (xs ++ ys) ≡ w → a ++ numbers_of items ys ≡ w
then_rest items o a w xs ys h k = then items o a (a ++ numbers_of items ys) xs ys h refl ∙ k

-- the same where the last part may want memory
pub then_last : {A E : Type 0} (r : Result A E) (items : List Item) (o a b : List ℕ) (xs ys : List Name)
    → a ≡ o ++ numbers_of items xs → OnOk r (b ≡ a ++ numbers_of items ys) → OnOk r (b ≡ o ++ numbers_of items (xs ++ ys))
then_last (Ok v) items o a b xs ys h k = then items o a b xs ys h k
then_last (Err e) items o a b xs ys h k = k

pub then_one_last : {A E : Type 0} (r : Result A E) (items : List Item) (o a b : List ℕ) (n : Name) (ys : List Name)
    → a ≡ o ++ numbers_of items (n ∷ []) → OnOk r (b ≡ a ++ numbers_of items ys) → OnOk r (b ≡ o ++ numbers_of items (n ∷ ys))
then_one_last r items o a b n ys h k = then_last r items o a b (n ∷ []) ys h k

-- one more expression, statement or declarator of a list
pub next_expr : (items : List Item) (xs : List Expr) (i : ℕ) (x : Expr) (a b w : List ℕ) → i < length xs → x ≡ get_or xs i x
    → b ≡ a ++ numbers_of items (called_in x) → a ++ numbers_of items (all_called (map called (drop i xs))) ≡ w
    → b ++ numbers_of items (all_called (map called (drop (i + 1) xs))) ≡ w
next_expr items xs i x a b w h e k v =
    then_rest items a b w (called_in x) (all_called (map called (drop (i + 1) xs))) k
    (ap (λ (l : List Expr). a ++ numbers_of items (all_called (map called l))) (sym (drop_cons xs i x h e)) ∙ v)

pub next_stmt : (items : List Item) (xs : List Stmt) (i : ℕ) (x : Stmt) (a b w : List ℕ) → i < length xs → x ≡ get_or xs i x
    → b ≡ a ++ numbers_of items (called_in_stmt x) → a ++ numbers_of items (in_all (map called_in_stmt (drop i xs))) ≡ w
    → b ++ numbers_of items (in_all (map called_in_stmt (drop (i + 1) xs))) ≡ w
next_stmt items xs i x a b w h e k v =
    then_rest items a b w (called_in_stmt x) (in_all (map called_in_stmt (drop (i + 1) xs))) k
    (ap (λ (l : List Stmt). a ++ numbers_of items (in_all (map called_in_stmt l))) (sym (drop_cons xs i x h e)) ∙ v)

pub next_declarator : (items : List Item) (xs : List Declarator) (i : ℕ) (x : Declarator) (a m b w : List ℕ) → i < length xs → x ≡ get_or xs i x
    → m ≡ a ++ numbers_of items (called_in_option x.size) → b ≡ m ++ numbers_of items (called_in_start x.initialiser)
    → a ++ numbers_of items (called_in_declarators (drop i xs)) ≡ w
    → b ++ numbers_of items (called_in_declarators (drop (i + 1) xs)) ≡ w
next_declarator items xs i x a m b w h e j k v =
    then_rest items m b w (called_in_start x.initialiser) (called_in_declarators (drop (i + 1) xs)) k
    (then_rest items a m w (called_in_option x.size) (called_in_start x.initialiser ++ called_in_declarators (drop (i + 1) xs)) j
    (ap (λ (l : List Declarator). a ++ numbers_of items (called_in_declarators l)) (sym (drop_cons xs i x h e)) ∙ v))

-- nothing is left
pub end_exprs : (items : List Item) (xs : List Expr) (i : ℕ) (a w : List ℕ) → length xs ≤ i → a ++ numbers_of items (all_called (map called (drop i xs))) ≡ w → a ≡ w
end_exprs items xs i a w h v = sym (ap (λ (l : List Expr). a ++ numbers_of items (all_called (map called l))) (drop_all xs i h) ∙ none_left items a) ∙ v

pub end_stmts : (items : List Item) (xs : List Stmt) (i : ℕ) (a w : List ℕ) → length xs ≤ i → a ++ numbers_of items (in_all (map called_in_stmt (drop i xs))) ≡ w → a ≡ w
end_stmts items xs i a w h v = sym (ap (λ (l : List Stmt). a ++ numbers_of items (in_all (map called_in_stmt l))) (drop_all xs i h) ∙ none_left items a) ∙ v

pub end_declarators : (items : List Item) (xs : List Declarator) (i : ℕ) (a w : List ℕ) → length xs ≤ i → a ++ numbers_of items (called_in_declarators (drop i xs)) ≡ w → a ≡ w
end_declarators items xs i a w h v = sym (ap (λ (l : List Declarator). a ++ numbers_of items (called_in_declarators l)) (drop_all xs i h) ∙ none_left items a) ∙ v
