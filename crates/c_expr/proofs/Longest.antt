-- A run of the machine ends behind the longest run of tokens with which a text begins.
use Rattle.std.proofs.Common.{◌≡◌, inr, ℕ, ◌≤◌, List, [], ◌∷◌, ◌++◌, Some, None, refl, sym, ap, ◌∙◌, subst, arith, append_assoc}
use Rattle.std.specs.Prelude.{codes}
use Rattle.std.proofs.lemmas.List.{append-nil}
use Rattle.dg_base.specs.declared.Place.{Place}
use Rattle.token_list.specs.declared.Token.{Token}
use Rattle.c_tree.specs.declared.expr.Expr.{Expr}
use Rattle.c_tree.specs.declared.expr.Expr.TheVariants as e
use Rattle.c_expr.specs.declared.frame.Frame.{Frame}
use Rattle.c_expr.specs.declared.frame.Frame.TheVariants.{InCall}
use Rattle.c_expr.specs.Words.{mark, word}
use Rattle.c_expr.specs.Expressions.{Reads, ReadsArgument, name, call, cast, text, Begins, IsLongestRun, Parses, Refuses, OneTree}
use Rattle.c_expr.specs.Machine.{Held, close, State, Want, Named, Have, Texts, Typed, Next, Go, Stop, step, Ended, goes_on, run, whole, finish}
use Rattle.c_expr.proofs.Targets.{lvalue-name}
use Rattle.c_expr.proofs.Levels.{looser}
use Rattle.c_expr.proofs.Holding.{Holds, bottom, passed, completed, shorter, here, a_name, a_name-IsName, suits, Closed, closed}
use Rattle.c_expr.proofs.Goods.{Good, good_want, good_named, good_have, good_texts, good_typed, GoodNext, wants_small, behind_call}
use Rattle.c_expr.proofs.Steps.{step_good}
use Rattle.c_expr.proofs.Taken.{held_finish}
use Rattle.c_expr.proofs.Whole.{comes}

-- What a run from a state that read p has done: it took the tokens c, and no tokens after them would change that.
pub record Ran (f n : ℕ) (s : State) (p ts : List Token) (r : Ended) : Type 0 where
  pub taken : List Token
  pub all : taken ++ r.rest ≡ ts
  pub good : Good f n r.state (p ++ taken)
  pub path : (us : List Token) → run f n s (taken ++ us) ≡ run f n r.state us
  pub stops : (t : Token) (more : List Token) → r.rest ≡ t ∷ more → step f n t r.state ≡ Stop

ran_step : {f n : ℕ} (s : State) (p : List Token) (t : Token) (ts : List Token) (k : Next) → step f n t s ≡ k → Good f n s p → GoodNext f n k (p ++ t ∷ [])
    → ((s' : State) → Good f n s' (p ++ t ∷ []) → Ran f n s' (p ++ t ∷ []) ts (run f n s' ts)) → Ran f n s p (t ∷ ts) (goes_on k s (λ s'. run f n s' ts) (record { state = s; rest = t ∷ ts }))
ran_step {f = f} {n = n} s p t ts (Go s') is g k ih =
    let r = ih s' k in
    record {
      taken = t ∷ r.taken;
      all = ap (λ l. t ∷ l) r.all;
      good = subst (Good f n (run f n s' ts).state) (append_assoc p (t ∷ []) r.taken) r.good;
      path = λ us. ap (λ j. goes_on j s (λ q. run f n q (r.taken ++ us)) (record { state = s; rest = t ∷ (r.taken ++ us) })) is ∙ r.path us;
      stops = r.stops;
    }
ran_step {f = f} {n = n} s p t ts Stop is g k ih = record {
  taken = [];
  all = refl;
  good = subst (Good f n s) (sym (append-nil p)) g;
  path = λ us. refl;
  stops = λ u more same. let same_token : t ≡ u = cc in subst (λ v. step f n v s ≡ Stop) same_token is;
}

pub ran : {f n : ℕ} → f ≤ 2 → (s : State) (p : List Token) → Good f n s p → (ts : List Token) → Ran f n s p ts (run f n s ts)
ran {f = f} {n = n} small s p g [] = record { taken = []; all = refl; good = subst (Good f n s) (sym (append-nil p)) g; path = λ us. refl; stops = λ t more is. let no : [] ≡ t ∷ more = is in cc }
ran {f = f} {n = n} small s p g (t ∷ ts) = ran_step s p t ts (step f n t s) refl g (step_good small t s g) (λ s' g'. ran small s' (p ++ t ∷ []) g' ts)

-- an argument completes a call
argument_begins : {f n : ℕ} {q : Place} {c : List ℕ} {xs : List Expr} {s : List Frame} {p a : List Token} {m : ℕ} {x : Expr} → Holds f n (InCall q c xs ∷ s) p m → ReadsArgument m a x → Begins f n (p ++ a)
argument_begins {f = f} {n = n} {q = q} {c = c} {xs = xs} {s = s} {p = p} {a = a} {x = x} h r =
    let b = behind_call h in
    let tokens : (p ++ a) ++ mark (codes ")") here ∷ [] ≡ b.front ++ word c q ∷ mark (codes "(") b.left ∷ ((b.past ++ a) ++ mark (codes ")") here ∷ []) =
    ap (λ l. (l ++ a) ++ mark (codes ")") here ∷ []) (sym b.all) ∙ regrouped b.front (word c q) (mark (codes "(") b.left) b.past a (mark (codes ")") here ∷ []) in
    shorter f n _ (mark (codes ")") here ∷ []) _ tokens
    (completed b.holds (word c q ∷ mark (codes "(") b.left ∷ ((b.past ++ a) ++ mark (codes ")") here ∷ [])) (e.Call q c (xs ++ x ∷ [])) (call b.left here b.is_name (passed b.arguments r)) (suits f s _ b.wanted))
  where
    regrouped : (p : List Token) (t u : Token) (b a z : List Token) → ((p ++ t ∷ u ∷ b) ++ a) ++ z ≡ p ++ t ∷ u ∷ ((b ++ a) ++ z)
    regrouped p t u b a z = simp append_assoc

-- the tokens that a state has read begin a text
good_begins : {f n : ℕ} → f ≤ 2 → (s : State) {p : List Token} → Good f n s p → Begins f n p
good_begins {f = f} {n = n} small (Want s) {p = p} (good_want h) =
    shorter f n p (word a_name here ∷ []) _ refl (completed h (word a_name here ∷ []) (e.Name here a_name) (name a_name-IsName) (λ t. lvalue-name here a_name))
good_begins small (Named q c s) (good_named i h) = completed h (word c q ∷ []) (e.Name q c) (name i) (λ t. lvalue-name q c)
good_begins small (Have x s) (good_have {a = a} large wanted suited exact h r) = completed h a x (looser wanted r) suited
good_begins small (Texts q s) (good_texts t ts all h) = argument_begins h (text all)
good_begins {f = f} {n = n} small (Typed q k more s) (good_typed {p = p} {a = a} le typed can h) =
    shorter f n _ (mark (codes ")") here ∷ word a_name here ∷ []) _ (simp append_assoc)
    (completed h (mark (codes "(") q ∷ (a ++ mark (codes ")") here ∷ word a_name here ∷ [])) (e.Cast q k (e.Name here a_name)) (cast here le typed (name a_name-IsName)) (suits f s _ le))

-- a state that is finished has read a whole text
whole_reads : {f n : ℕ} {q : List Token} (x y : Expr) (s : List Frame) → Closed f n 0 q (record { tree = y; stack = s }) → whole y s ≡ Some x → Reads f n q x
whole_reads {f = f} {n = n} {q = q} x y [] c is =
    let same : y ≡ x = cc in
    subst (λ l. Reads f n l x) c.all (empty c.front c.back c.room c.holds (subst (Reads f c.room c.back) same (looser c.wanted c.reads)))
  where
    empty : (front back : List Token) (m : ℕ) → Holds f n [] front m → Reads f m back x → Reads f n (front ++ back) x
    empty front back m bottom r = r
whole_reads x y (g ∷ s) c is = let no : None ≡ Some x = is in cc

finish_reads : {f n : ℕ} → f ≤ 2 → (s : State) (x : Expr) {p : List Token} → Good f n s p → finish s ≡ Some x → Reads f n p x
finish_reads small (Want s) x (good_want h) is = let no : None ≡ Some x = is in cc
finish_reads small (Texts q s) x (good_texts t ts all h) is = let no : None ≡ Some x = is in cc
finish_reads small (Typed q k more s) x (good_typed le typed can h) is = let no : None ≡ Some x = is in cc
finish_reads {f = f} small (Named q c s) x (good_named {m = m} i h) is =
    let l = close 0 (e.Name q c) s in
    whole_reads x l.tree l.stack (closed 0 14 m h (name i) (omega arith) (wants_small f small s) (λ t. lvalue-name q c)) is
finish_reads small (Have y s) x (good_have {k = k} {m = m} large wanted suited exact h r) is =
    let l = close 0 y s in whole_reads x l.tree l.stack (closed 0 k m h r (omega arith) wanted suited) is

-- a text is read to its end, and finished with its tree
pub text_runs : (f n : ℕ) → f ≤ 2 → (q : List Token) (x : Expr) → Reads f n q x → (s : State) × (run f n (Want []) q ≡ record { state = s; rest = [] }) × (finish s ≡ Some x)
text_runs f n small q x r =
    let c = comes f n small r [] (inr (omega arith, omega arith)) (omega arith) in
    (c.state, ap (run f n (Want [])) (sym (append-nil q)) ∙ c.runs [], held_finish c.held ∙ ap (λ (h : Held). whole h.tree h.stack) (c.closes 0 (omega arith)))

-- the run of the machine is the longest one
pub longest : {f n : ℕ} → f ≤ 2 → (ts : List Token) (r : Ended) → run f n (Want []) ts ≡ r → Ran f n (Want []) [] ts r → (q : List Token) × IsLongestRun f n ts q r.rest × Good f n r.state q × ((us : List Token) → run f n (Want []) (q ++ us) ≡ run f n r.state us)
longest {f = f} {n = n} small ts r is a = (
  a.taken,
  record {
    all = a.all;
    begins = good_begins small r.state a.good;
    ends = λ t more same b.
        let read = text_runs f n small ((a.taken ++ t ∷ []) ++ b.0) b.1 b.2 in
        let two : run f n (Want []) ((a.taken ++ t ∷ []) ++ b.0) ≡ run f n r.state (t ∷ b.0) = ap (run f n (Want [])) (append_assoc a.taken (t ∷ []) b.0) ∙ a.path (t ∷ b.0) in
        let stop : run f n r.state (t ∷ b.0) ≡ record { state = r.state; rest = t ∷ b.0 } = ap (λ k. goes_on k r.state (λ s'. run f n s' b.0) (record { state = r.state; rest = t ∷ b.0 })) (a.stops t more same) in
        let no : [] ≡ t ∷ b.0 = ap (λ (e : Ended). e.rest) (sym read.1 ∙ two ∙ stop) in cc;
  },
  a.good,
  a.path,
)

-- Where the machine's run is finished it is a text, and else it is none.
pub parses : {f n : ℕ} → f ≤ 2 → (ts : List Token) (x : Expr) → finish (run f n (Want []) ts).state ≡ Some x → Parses f n ts x (run f n (Want []) ts).rest
parses {f = f} {n = n} small ts x is =
    let l = longest small ts (run f n (Want []) ts) refl (ran small (Want []) [] (good_want bottom) ts) in
    (l.0, l.1, finish_reads small (run f n (Want []) ts).state x l.2 is)

pub refuses : {f n : ℕ} → f ≤ 2 → (ts : List Token) → finish (run f n (Want []) ts).state ≡ None → Refuses f n ts (run f n (Want []) ts).rest
refuses {f = f} {n = n} small ts is =
    let l = longest small ts (run f n (Want []) ts) refl (ran small (Want []) [] (good_want bottom) ts) in (
      l.0,
      l.1,
      λ x r.
          let read = text_runs f n small l.0 x r in
          let state : (run f n (Want []) ts).state ≡ read.0 = ap (λ (e : Ended). e.state) (sym (l.3 []) ∙ ap (run f n (Want [])) (append-nil l.0) ∙ read.1) in
          let no : None ≡ Some x = sym is ∙ ap finish state ∙ read.2 in cc,
    )

pub one_tree : OneTree
one_tree f n q x y small r t =
    let a = text_runs f n small q x r in
    let b = text_runs f n small q y t in
    let same : Some x ≡ Some y = sym a.2 ∙ ap finish (ap (λ (e : Ended). e.state) (sym a.1 ∙ b.1)) ∙ b.2 in cc
