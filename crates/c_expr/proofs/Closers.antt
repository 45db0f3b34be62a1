-- A text before a closer is the longest run, and a list is parsed or refused, in one way.
use Rattle.std.proofs.Common.{◌≡◌, ◌⊎◌, inl, inr, ℕ, ◌≤◌, ◌&&◌, true, false, List, [], ◌∷◌, ◌++◌, Some, None, refl, sym, ap, ◌∙◌, subst, arith, append_assoc}
use Rattle.std.specs.Prelude.{nat_le}
use Rattle.std.proofs.lemmas.List.{append-nil}
use Rattle.std.proofs.lemmas.Bool.{lt-leb, leb-true, false≢true}
use Rattle.dg_base.specs.declared.Place.{Place}
use Rattle.token_list.specs.declared.Token.{Token}
use Rattle.c_tree.specs.declared.expr.Expr.{Expr}
use Rattle.c_tree.specs.declared.expr.Expr.TheVariants as e
use Rattle.c_expr.specs.declared.word.Word.{Word}
use Rattle.c_expr.specs.declared.word.Word.TheVariants as w
use Rattle.c_expr.specs.declared.frame.Frame.{Frame}
use Rattle.c_expr.specs.declared.frame.Frame.TheVariants.{AfterComma}
use Rattle.c_expr.specs.Words.{word_of}
use Rattle.c_expr.specs.Expressions.{Reads, Begins, IsLongestRun, Parses, Refuses}
use Rattle.c_expr.specs.Closers.{closes}
use Rattle.c_expr.specs.Machine.{Held, close, State, Want, Named, Have, Texts, Typed, Go, Stop, if_so, has_room, comma, right, right_square, colon, extend, step, Ended, goes_on, run, whole, finish}
use Rattle.c_expr.proofs.Taken.{opens, named_acts, held_finish}
use Rattle.c_expr.proofs.Whole.{comes}
use Rattle.c_expr.proofs.Longest.{text_runs, one_tree}
use Rattle.c_expr.proofs.Holding.{shorter}
use Rattle.c_expr.proofs.OneRun.{IsFront, fronts, one_run}

-- behind a text nothing is open that a closing word could close
right_stops : (x y : Expr) (s : List Frame) → whole y s ≡ Some x → right y s ≡ Stop
right_stops x y [] is = refl
right_stops x y (g ∷ s) is = let bad : None ≡ Some x = is in cc

square_stops : (x y : Expr) (s : List Frame) → whole y s ≡ Some x → right_square y s ≡ Stop
square_stops x y [] is = refl
square_stops x y (g ∷ s) is = let bad : None ≡ Some x = is in cc

colon_stops : (x y : Expr) (s : List Frame) → whole y s ≡ Some x → colon y s ≡ Stop
colon_stops x y [] is = refl
colon_stops x y (g ∷ s) is = let bad : None ≡ Some x = is in cc

comma_stops : (f n : ℕ) (p : Place) (x y : Expr) (s : List Frame) → nat_le 1 f ≡ true → whole y s ≡ Some x → comma f n p y s ≡ Stop
comma_stops f n p x y [] closer is =
    let le : 1 ≤ f = leb-true 1 f closer in
    ap (λ b. if_so (b && has_room n (record { tree = y; stack = [] })) (Go (Want (AfterComma p y ∷ [])))) (lt-leb f 0 le)
comma_stops f n p x y (g ∷ s) closer is = let bad : None ≡ Some x = is in cc

extend_stops : (f n : ℕ) (v : Word) (p : Place) (x y : Expr) (s : List Frame) → closes f v ≡ true → finish (Have y s) ≡ Some x → extend f n v p y s ≡ Stop
extend_stops f n w.Right p x y s closer is = right_stops x (close 0 y s).tree (close 0 y s).stack is
extend_stops f n w.RightSquare p x y s closer is = square_stops x (close 0 y s).tree (close 0 y s).stack is
extend_stops f n w.Colon p x y s closer is = colon_stops x (close 0 y s).tree (close 0 y s).stack is
extend_stops f n w.Comma p x y s closer is = comma_stops f n p x (close 0 y s).tree (close 0 y s).stack closer is
extend_stops f n w.Semicolon p x y s closer is = refl
extend_stops f n w.RightBrace p x y s closer is = refl
extend_stops f n _ p x y s closer is = absurd (false≢true closer)

closer_opens : (f : ℕ) (v : Word) → closes f v ≡ true → opens v ≡ false
closer_opens f w.Left closer = absurd (false≢true closer)
closer_opens f w.LeftSquare closer = absurd (false≢true closer)
closer_opens f _ closer = refl

-- the machine stops at a closer behind a text
closer_stops : (f n : ℕ) (t : Token) (x : Expr) (s : State) → closes f (word_of t) ≡ true → finish s ≡ Some x → step f n t s ≡ Stop
closer_stops f n t x (Want s) closer is = let bad : None ≡ Some x = is in cc
closer_stops f n t x (Named q c s) closer is = named_acts f n (word_of t) t.place q c s (closer_opens f (word_of t) closer) ∙ extend_stops f n (word_of t) t.place x (e.Name q c) s closer is
closer_stops f n t x (Have y s) closer is = extend_stops f n (word_of t) t.place x y s closer is
closer_stops f n t x (Texts q s) closer is = let bad : None ≡ Some x = is in cc
closer_stops f n t x (Typed q k more s) closer is = let bad : None ≡ Some x = is in cc

-- no text begins with a text and a closer behind it
pub closer_ends : {f n : ℕ} → f ≤ 2 → (q : List Token) (x : Expr) (t : Token) → Reads f n q x → closes f (word_of t) ≡ true → Begins f n (q ++ t ∷ []) → ⊥
closer_ends {f = f} {n = n} small q x t r closer b =
    let c = comes f n small r [] (inr (omega arith, omega arith)) (omega arith) in
    let done : finish c.state ≡ Some x = held_finish c.held ∙ ap (λ (h : Held). whole h.tree h.stack) (c.closes 0 (omega arith)) in
    let stop : step f n t c.state ≡ Stop = closer_stops f n t x c.state closer done in
    let two = text_runs f n small ((q ++ t ∷ []) ++ b.0) b.1 b.2 in
    let path : run f n (Want []) ((q ++ t ∷ []) ++ b.0) ≡ run f n c.state (t ∷ b.0) = ap (run f n (Want [])) (append_assoc q (t ∷ []) b.0) ∙ c.runs (t ∷ b.0) in
    let ends : run f n c.state (t ∷ b.0) ≡ record { state = c.state; rest = t ∷ b.0 } = ap (λ k. goes_on k c.state (λ s'. run f n s' b.0) (record { state = c.state; rest = t ∷ b.0 })) stop in
    let bad : [] ≡ t ∷ b.0 = ap (λ (e : Ended). e.rest) (sym two.1 ∙ path ∙ ends) in cc

-- a text before a closer is the longest run, and what is found there
pub text_runs_out : {f n : ℕ} {q : List Token} {x : Expr} (t : Token) (more : List Token) → f ≤ 2 → Reads f n q x → closes f (word_of t) ≡ true → IsLongestRun f n (q ++ t ∷ more) q (t ∷ more)
text_runs_out {f = f} {n = n} {q = q} {x = x} t more small r closer = record {
  all = refl;
  begins = ([], x, subst (λ l. Reads f n l x) (sym (append-nil q)) r);
  ends = λ u us same b. let token : t ≡ u = cc in closer_ends small q x t r closer (subst (λ v. Begins f n (q ++ v ∷ [])) (sym token) b);
}

pub text_parses : {f n : ℕ} {q : List Token} {x : Expr} (t : Token) (more : List Token) → f ≤ 2 → Reads f n q x → closes f (word_of t) ≡ true → Parses f n (q ++ t ∷ more) x (t ∷ more)
text_parses {q = q} t more small r closer = (q, text_runs_out t more small r closer, r)

-- what begins a text has no text and a closer at its front
no_front : {f n : ℕ} {a b r : List Token} {x : Expr} (t : Token) → f ≤ 2 → Reads f n a x → closes f (word_of t) ≡ true → Begins f n b → IsFront a b (t ∷ r) → ⊥
no_front {f = f} {n = n} {a = a} {b = b} {r = r} {x = x} t small rd closer begins h =
    let follows : t ∷ r ≡ h.token ∷ h.after = h.follows in
    let head : t ≡ h.token = cc in
    closer_ends small a x t rd closer (shorter f n (a ++ t ∷ []) h.more b (append_assoc a (t ∷ []) h.more ∙ ap (λ v. a ++ v ∷ h.more) head ∙ h.longer) begins)

-- a text, with nothing behind it
itself : {f n : ℕ} {a : List Token} {x : Expr} → Reads f n a x → Begins f n a
itself {f = f} {n = n} {a = a} {x = x} r = ([], x, subst (λ l. Reads f n l x) (sym (append-nil a)) r)

-- two texts at the front of one list, each before a closer, are one
pub one_before : {f n : ℕ} {a b : List Token} {x y : Expr} (t u : Token) (r s : List Token) → f ≤ 2 → Reads f n a x → Reads f n b y → closes f (word_of t) ≡ true → closes f (word_of u) ≡ true → a ++ t ∷ r ≡ b ++ u ∷ s
    → (a ≡ b) × (x ≡ y) × (t ≡ u) × (r ≡ s)
one_before {f = f} {n = n} {a = a} {b = b} {x = x} {y = y} t u r s small ra rb ct cu is = by (fronts a b (t ∷ r) (u ∷ s) is)
  where
    by : ((a ≡ b) × (t ∷ r ≡ u ∷ s)) ⊎ (IsFront a b (t ∷ r) ⊎ IsFront b a (u ∷ s)) → (a ≡ b) × (x ≡ y) × (t ≡ u) × (r ≡ s)
    by (inl e) =
        let behind = e.1 in
        let head : t ≡ u = cc in
        let tail : r ≡ s = cc in
        (e.0, one_tree f n b x y small (subst (λ l. Reads f n l x) e.0 ra) rb, head, tail)
    by (inr (inl h)) = absurd (no_front t small ra ct (itself rb) h)
    by (inr (inr h)) = absurd (no_front u small rb cu (itself ra) h)

-- A text before a closer, in a list that begins with a list's longest run and the token behind it, is that run.
pub none_before : {f n : ℕ} {list run rest more b : List Token} {t : Token} {y : Expr} (u : Token) (r s : List Token) → f ≤ 2 → IsLongestRun f n list run rest → rest ≡ t ∷ more → Reads f n b y → closes f (word_of u) ≡ true
    → run ++ t ∷ r ≡ b ++ u ∷ s → (b ≡ run) × (u ≡ t) × (s ≡ r)
none_before {f = f} {n = n} {run = run} {more = more} {b = b} {t = t} u r s small longest left rb closer is = by (fronts run b (t ∷ r) (u ∷ s) is)
  where
    longer : (h : IsFront run b (t ∷ r)) → Begins f n (run ++ t ∷ [])
    longer h =
        let follows : t ∷ r ≡ h.token ∷ h.after = h.follows in
        let head : t ≡ h.token = cc in
        shorter f n (run ++ t ∷ []) h.more b (append_assoc run (t ∷ []) h.more ∙ ap (λ v. run ++ v ∷ h.more) head ∙ h.longer) (itself rb)

    by : ((run ≡ b) × (t ∷ r ≡ u ∷ s)) ⊎ (IsFront run b (t ∷ r) ⊎ IsFront b run (u ∷ s)) → (b ≡ run) × (u ≡ t) × (s ≡ r)
    by (inl e) =
        let behind = e.1 in
        let head : u ≡ t = cc in
        let tail : s ≡ r = cc in
        (sym e.0, head, tail)
    by (inr (inl h)) = absurd (longest.ends t more left (longer h))
    by (inr (inr h)) = absurd (no_front u small rb closer longest.begins h)

-- a list is parsed in at most one way
pub one_parse : {f n : ℕ} {list : List Token} {x y : Expr} {s t : List Token} → f ≤ 2 → Parses f n list x s → Parses f n list y t → (x ≡ y) × (s ≡ t)
one_parse {f = f} {n = n} {x = x} {y = y} small a b =
    let same = one_run a.1 b.1 in (one_tree f n b.0 x y small (subst (λ l. Reads f n l x) same.0 a.2) b.2, same.1)

-- no list is both parsed and refused
pub parsed_or_refused : {f n : ℕ} {list : List Token} {x : Expr} {s t : List Token} → Parses f n list x s → Refuses f n list t → ⊥
parsed_or_refused {f = f} {n = n} {x = x} a b = let same = one_run a.1 b.1 in b.2 x (subst (λ l. Reads f n l x) same.0 a.2)
