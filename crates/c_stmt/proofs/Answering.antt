-- What the parser answers: a path through the tokens so far, and what it says of the longest start of a program.
use Rattle.std.proofs.Common.{◌≡◌, ℕ, ◌-◌, ◌≤◌, true, List, [], ◌∷◌, ◌++◌, drop, Some, None, refl, sym, ap, ◌∙◌, subst, append_assoc}
use Rattle.std.proofs.lemmas.List.{append-nil}
use Rattle.dg_base.specs.declared.Place.{Place}
use Rattle.dg_base.specs.declared.refusal.Refusal.TheVariants.{Syntax}
use Rattle.token_list.specs.declared.Token.{Token}
use Rattle.token_list.specs.declared.Tokens.{Tokens}
use Rattle.c_tree.specs.declared.expr.Expr.{Expr}
use Rattle.c_tree.specs.declared.program.Program.{Program}
use Rattle.c_expr.specs.declared.form.ExprForm.{ExprForm}
use Rattle.c_expr.specs.Words.{word_of}
use Rattle.c_expr.specs.Expressions.{Reads, Begins, IsLongestRun, Parses, Refuses}
use Rattle.c_expr.specs.Closers.{closes}
use Rattle.c_expr.specs.Parser.{form_level, place_of}
use Rattle.c_expr.proofs.Holding.{shorter}
use Rattle.c_expr.proofs.Longest.{one_tree}
use Rattle.c_expr.proofs.Closers.{closer_ends, none_before}
use Rattle.c_expr.proofs.Firsts.{text_starts}
use Rattle.c_stmt.specs.declared.state.Position.TheVariants as at
use Rattle.c_stmt.specs.Programs.{ReadsItems, ReadsProgram, BeginsProgram, HasCause}
use Rattle.c_stmt.specs.Machine.{State, At, Go, Ask, Stop, step, shut, finish}
use Rattle.c_stmt.proofs.Goods.{Asked, Good}
use Rattle.c_stmt.proofs.Paths.{form_small, Path, stay, token, expression, Runs, First, a_token, an_expression, first, follows}
use Rattle.c_stmt.proofs.Sound.{LeadsOn, led, good_step, accepted}
use Rattle.c_stmt.proofs.Viable.{viable}
use Rattle.c_stmt.proofs.Complete.{complete, at_end}

-- one path after another
after : {s u v : State} {a b : List Token} → Path s a u → Path u b v → Path s (a ++ b) v
after stay q = q
after (token is p) q = token is (after p q)
after {s = s} {v = v} {b = b} (expression {t = t} {a = a} {ts = ts} c is r closer goes p) q = subst (λ l. Path s (t ∷ l) v) (sym (append_assoc a (c ∷ ts) b)) (expression c is r closer goes (after p q))

-- a front of what a program begins with
front : (a b : List Token) → BeginsProgram (a ++ b) → BeginsProgram a
front a b h = (b ++ h.0, h.1, subst (λ l. ReadsProgram l h.1) (append_assoc a b h.0) h.2)

-- what was read begins a program
begins_at : {ts : List Token} {u : State} → Path (At [] [] at.Top) ts u → BeginsProgram ts
begins_at {ts = ts} {u = u} p =
    let m = led 200 refl p in
    let v = viable m.room u m.fits in
    let k = m.leads v.0 v.1 v.2 in
    (v.1, v.0, subst (ReadsItems 200 (ts ++ v.1)) (sym k.2) k.1)

-- an expression that is asked for goes on to a state, and only a closing word ends it
asked_at : {ts : List Token} {u m : State} {f : ExprForm} {above : ℕ} (t : Token) → Path (At [] [] at.Top) ts u → step t u ≡ Ask m f above
    → ((p : Place) (x : Expr) → (c : Token) × (next : State) × (shut c p x m ≡ Go next)) × ((p : Place) (x : Expr) (c : Token) (next : State) → shut c p x m ≡ Go next → closes (form_level f) (word_of c) ≡ true)
asked_at {u = u} {m = m} {f = f} {above = above} t p is =
    let l = led 200 refl p in
    let k : (above ≤ 200) × Asked (λ g us. LeadsOn g l.room u us) t m f (200 - above) = subst (Good (λ g us. LeadsOn g l.room u us) t) is (good_step l.room u t l.fits) in
    (k.1.goes, k.1.closing)

-- and it fits
pub asked_fits : {ts : List Token} {u m : State} {f : ExprForm} {above : ℕ} (t : Token) → Path (At [] [] at.Top) ts u → step t u ≡ Ask m f above → above ≤ 200
asked_fits {u = u} {m = m} {f = f} {above = above} t p is =
    let l = led 200 refl p in
    let k : (above ≤ 200) × Asked (λ g us. LeadsOn g l.room u us) t m f (200 - above) = subst (Good (λ g us. LeadsOn g l.room u us) t) is (good_step l.room u t l.fits) in
    k.0

-- so does an expression that was begun
begins_inside : {ts : List Token} {u m : State} {f : ExprForm} {above : ℕ} (t : Token) (more run rest : List Token) → Path (At [] [] at.Top) ts u → step t u ≡ Ask m f above → Begins (form_level f) (200 - above) run → run ++ rest ≡ t ∷ more
    → BeginsProgram (ts ++ run)
begins_inside {ts = ts} t more [] rest p is b all = subst BeginsProgram (sym (append-nil ts)) (begins_at p)
begins_inside {ts = ts} {f = f} {above = above} t more (y ∷ run) rest p is b all =
    let same : y ≡ t = cc in
    let k = asked_at t p is in
    let c = k.0 t.place b.1 in
    let reads : Reads (form_level f) (200 - above) (t ∷ (run ++ b.0)) b.1 = subst (λ z. Reads (form_level f) (200 - above) (z ∷ (run ++ b.0)) b.1) same b.2 in
    let whole = begins_at (after p (expression c.0 is reads (k.1 t.place b.1 c.0 c.1 c.2) c.2 stay)) in
    let list : ts ++ t ∷ ((run ++ b.0) ++ c.0 ∷ []) ≡ (ts ++ t ∷ run) ++ (b.0 ++ c.0 ∷ []) = (simp append_assoc) in
    subst (λ z. BeginsProgram (ts ++ z ∷ run)) (sym same) (front (ts ++ t ∷ run) (b.0 ++ c.0 ∷ []) (subst BeginsProgram list whole))

-- a program that begins with what was read goes on from there
on : {ts us : List Token} {u : State} {g : Program} → Path (At [] [] at.Top) ts u → ReadsProgram (ts ++ us) g → Runs g u us
on {us = us} p r = follows p us (complete r)

-- and reads an expression where one is asked for
record Inside (m : State) (f : ExprForm) (above : ℕ) (t : Token) (us : List Token) : Type 0 where
  text : List Token
  tree : Expr
  mark : Token
  behind : List Token
  reads : Reads (form_level f) (200 - above) (t ∷ text) tree
  closing : closes (form_level f) (word_of mark) ≡ true
  next : State
  goes : shut mark t.place tree m ≡ Go next
  all : (t ∷ text) ++ mark ∷ behind ≡ us

inside_by : {g : Program} {u m : State} {f : ExprForm} {above : ℕ} {t : Token} {ws : List Token} → step t u ≡ Ask m f above → First g u t ws → Inside m f above t (t ∷ ws)
inside_by {m = m} {f = f} {above = above} is (a_token {r = r} now k) = let bad : Go r ≡ Ask m f above = sym now ∙ is in cc
inside_by {u = u} {m = m} {f = f} {above = above} {t = t} is (an_expression {m = m'} {r = r} {f = f'} {above = above'} {a = a} {us = us} {x = x} c now reads closer goes k all) =
    let same : Ask m' f' above' ≡ Ask m f above = sym now ∙ is in
    let state : m' ≡ m = cc in
    let form : f' ≡ f = cc in
    let room : above' ≡ above = cc in
    record {
      text = a;
      tree = x;
      mark = c;
      behind = us;
      reads = subst (λ h. Reads (form_level f) (200 - h) (t ∷ a) x) room (subst (λ h. Reads (form_level h) (200 - above') (t ∷ a) x) form reads);
      closing = subst (λ h. closes (form_level h) (word_of c) ≡ true) form closer;
      next = r;
      goes = subst (λ h. shut c t.place x h ≡ Go r) state goes;
      all = ap (λ l. t ∷ l) all;
    }

inside : {ts us ws : List Token} {u m : State} {f : ExprForm} {above : ℕ} {g : Program} (t : Token) → Path (At [] [] at.Top) ts u → step t u ≡ Ask m f above → us ≡ t ∷ ws → ReadsProgram (ts ++ us) g → Inside m f above t us
inside {ts = ts} {us = us} {ws = ws} {u = u} {m = m} {f = f} {above = above} {g = g} t p is starts r =
    subst (Inside m f above t) (sym starts) (inside_by is (first (subst (Runs g u) starts (on p r))))

-- no program goes on with a token that is refused
stops : {ts : List Token} {u : State} {g : Program} (t : Token) (us : List Token) → Path (At [] [] at.Top) ts u → step t u ≡ Stop → ReadsProgram (ts ++ t ∷ us) g → ⊥
stops {u = u} {g = g} t us p is r = by (first (on p r))
  where
    by : First g u t us → ⊥
    by (a_token {r = r} now k) = let bad : Go r ≡ Stop = sym now ∙ is in cc
    by (an_expression {m = m} {f = f} {above = above} c now reads closer goes k all) = let bad : Ask m f above ≡ Stop = sym now ∙ is in cc

-- the list goes on with the token where the expression begins
starting : (t t' : Token) (more run rest more' vs : List Token) → run ++ rest ≡ t ∷ more → rest ≡ t' ∷ more' → (ws : List Token) × (run ++ t' ∷ vs ≡ t ∷ ws)
starting t t' more [] rest more' vs all left = let both : t' ∷ more' ≡ t ∷ more = sym left ∙ all in let same : t' ≡ t = cc in (vs, ap (λ z. z ∷ vs) same)
starting t t' more (y ∷ run) rest more' vs all left = let same : y ≡ t = cc in (run ++ t' ∷ vs, ap (λ z. z ∷ (run ++ t' ∷ vs)) same)

-- behind the longest run of an expression that is none there is no program
refused_on : {ts : List Token} {u m : State} {f : ExprForm} {above : ℕ} {g : Program} (t : Token) (more run rest : List Token) (t' : Token) (more' vs : List Token) → Path (At [] [] at.Top) ts u → step t u ≡ Ask m f above
    → IsLongestRun (form_level f) (200 - above) (t ∷ more) run rest → ((x : Expr) → Reads (form_level f) (200 - above) run x → ⊥) → rest ≡ t' ∷ more' → ReadsProgram (ts ++ (run ++ t' ∷ vs)) g → ⊥
refused_on {f = f} {above = above} t more run rest t' more' vs p is longest bad left r =
    let s = starting t t' more run rest more' vs longest.all left in
    let k = inside t p is s.1 r in
    let same = none_before {t = t'} k.mark vs k.behind (form_small f) longest left k.reads k.closing (sym k.all) in
    bad k.tree (subst (λ l. Reads (form_level f) (200 - above) l k.tree) same.0 k.reads)

-- nor where the tokens end inside of an expression
ended_on : {ts : List Token} {u m : State} {f : ExprForm} {above : ℕ} {g : Program} (t : Token) (more run rest : List Token) → Path (At [] [] at.Top) ts u → step t u ≡ Ask m f above
    → IsLongestRun (form_level f) (200 - above) (t ∷ more) run rest → rest ≡ [] → ReadsProgram (ts ++ t ∷ more) g → ⊥
ended_on {f = f} {above = above} t more run rest p is longest left r =
    let k = inside t p is refl r in
    let list : ((t ∷ k.text) ++ k.mark ∷ []) ++ k.behind ≡ run = append_assoc (t ∷ k.text) (k.mark ∷ []) k.behind ∙ k.all ∙ sym longest.all ∙ ap (λ l. run ++ l) left ∙ append-nil run in
    closer_ends (form_small f) (t ∷ k.text) k.tree k.mark k.reads k.closing (shorter (form_level f) (200 - above) ((t ∷ k.text) ++ k.mark ∷ []) k.behind run list longest.begins)

-- nor where the token behind the expression is refused
shut_on : {ts : List Token} {u m : State} {f : ExprForm} {above : ℕ} {g : Program} (t : Token) (more run rest : List Token) (t' : Token) (more' vs : List Token) (x : Expr) → Path (At [] [] at.Top) ts u → step t u ≡ Ask m f above
    → IsLongestRun (form_level f) (200 - above) (t ∷ more) run rest → Reads (form_level f) (200 - above) run x → rest ≡ t' ∷ more' → ((next : State) → shut t' t.place x m ≡ Go next → ⊥) → ReadsProgram (ts ++ (run ++ t' ∷ vs)) g → ⊥
shut_on {m = m} {f = f} {above = above} t more run rest t' more' vs x p is longest reads left bad r =
    let s = starting t t' more run rest more' vs longest.all left in
    let k = inside t p is s.1 r in
    let same = none_before {t = t'} k.mark vs k.behind (form_small f) longest left k.reads k.closing (sym k.all) in
    let tree : k.tree ≡ x = one_tree (form_level f) (200 - above) run k.tree x (form_small f) (subst (λ l. Reads (form_level f) (200 - above) l k.tree) same.0 k.reads) reads in
    bad k.next (ap (λ h. shut h t.place x m) (sym same.1) ∙ ap (λ h. shut k.mark t.place h m) (sym tree) ∙ k.goes)

-- The parser has read the tokens before this number, and is in this state.
pub record Reached (list : List Token) (next : ℕ) (u : State) : Type 0 where
  pub run : List Token
  pub path : Path (At [] [] at.Top) run u
  pub all : run ++ drop next list ≡ list

pub reached_start : (list : List Token) → Reached list 0 (At [] [] at.Top)
reached_start list = record { run = []; path = stay; all = refl }

pub reached_token : {list : List Token} {next : ℕ} {u r : State} (t : Token) (later : ℕ) → drop next list ≡ t ∷ drop later list → step t u ≡ Go r → Reached list next u → Reached list later r
reached_token {list = list} t later here is h = record {
  run = h.run ++ t ∷ [];
  path = after h.path (token is stay);
  all = append_assoc h.run (t ∷ []) (drop later list) ∙ ap (λ l. h.run ++ l) (sym here) ∙ h.all;
}

-- an expression begins with the token before which it was asked for
opening : {f n : ℕ} {run : List Token} {x : Expr} (t : Token) (rest more : List Token) → Reads f n run x → run ++ rest ≡ t ∷ more → (a : List Token) × (run ≡ t ∷ a)
opening t rest more r all =
    let h = text_starts r in
    let both : h.token ∷ (h.more ++ rest) ≡ t ∷ more = ap (λ l. l ++ rest) (sym h.all) ∙ all in
    let same : h.token ≡ t = cc in
    (h.more, h.all ∙ ap (λ z. z ∷ h.more) same)

pub reached_expression : {list : List Token} {next : ℕ} {u m r : State} {f : ExprForm} {above : ℕ} {x : Expr} (t c : Token) (more : List Token) (behind later : ℕ) → drop next list ≡ t ∷ more → step t u ≡ Ask m f above
    → Parses (form_level f) (200 - above) (drop next list) x (drop behind list) → drop behind list ≡ c ∷ drop later list → shut c t.place x m ≡ Go r → Reached list next u → Reached list later r
reached_expression {list = list} {next = next} {f = f} {above = above} {x = x} t c more behind later here is found left goes h =
    let o = opening t (drop behind list) more found.2 (found.1.all ∙ here) in
    let k = asked_at t h.path is in
    let reads : Reads (form_level f) (200 - above) (t ∷ o.0) x = subst (λ l. Reads (form_level f) (200 - above) l x) o.1 found.2 in
    let list' : (h.run ++ t ∷ (o.0 ++ c ∷ [])) ++ drop later list ≡ h.run ++ ((t ∷ o.0) ++ c ∷ drop later list) = (simp append_assoc) in
    record {
      run = h.run ++ t ∷ (o.0 ++ c ∷ []);
      path = after h.path (expression c is reads (k.1 t.place x c _ goes) goes stay);
      all = list' ∙ ap (λ l. h.run ++ (l ++ c ∷ drop later list)) (sym o.1) ∙ ap (λ l. h.run ++ (found.0 ++ l)) (sym left) ∙ ap (λ l. h.run ++ l) found.1.all ∙ h.all;
    }

-- at the end
pub found_end : {list : List Token} {next : ℕ} {u : State} {g : Program} → finish u ≡ Some g → drop next list ≡ [] → Reached list next u → ReadsProgram list g
found_end {list = list} {g = g} done left h =
    let whole : h.run ≡ list = sym (append-nil h.run) ∙ ap (λ l. h.run ++ l) (sym left) ∙ h.all in
    subst (λ l. ReadsProgram l g) whole (accepted h.path done)

-- the refusals
pub cause_end : (tokens : Tokens) {next : ℕ} {u : State} → finish u ≡ None → drop next tokens.list ≡ [] → Reached tokens.list next u → HasCause tokens (Syntax tokens.end)
cause_end tokens {u = u} is left h =
    let list : h.run ++ [] ≡ tokens.list = ap (λ l. h.run ++ l) (sym left) ∙ h.all in (
      h.run,
      [],
      record { all = list; begins = begins_at h.path; ends = λ t more same b. let bad : [] ≡ t ∷ more = same in cc },
      λ g r. let bad : None ≡ Some g = sym is ∙ at_end (on h.path (subst (λ l. ReadsProgram l g) (sym list) r)) in cc,
      refl,
    )

pub cause_stop : (tokens : Tokens) {next : ℕ} {u : State} (t : Token) (more : List Token) → drop next tokens.list ≡ t ∷ more → step t u ≡ Stop → Reached tokens.list next u → HasCause tokens (Syntax t.place)
cause_stop tokens t more here is h =
    let list : h.run ++ t ∷ more ≡ tokens.list = ap (λ l. h.run ++ l) (sym here) ∙ h.all in (
      h.run,
      t ∷ more,
      record {
        all = list;
        begins = begins_at h.path;
        ends = λ t' more' same b.
            let token' : t ≡ t' = cc in
            stops t b.0 h.path is (subst (λ l. ReadsProgram l b.1) (append_assoc h.run (t ∷ []) b.0) (subst (λ z. ReadsProgram ((h.run ++ z ∷ []) ++ b.0) b.1) (sym token') b.2));
      },
      λ g r. stops t more h.path is (subst (λ l. ReadsProgram l g) (sym list) r),
      refl,
    )

-- where an expression was asked for, and its longest run is followed by what no program goes on with
cause_at : (tokens : Tokens) {next : ℕ} {u m : State} {f : ExprForm} {above : ℕ} (t : Token) (more run rest : List Token) → drop next tokens.list ≡ t ∷ more → step t u ≡ Ask m f above
    → IsLongestRun (form_level f) (200 - above) (t ∷ more) run rest → (h : Reached tokens.list next u)
    → ((t' : Token) (more' vs : List Token) (g : Program) → rest ≡ t' ∷ more' → ReadsProgram (h.run ++ (run ++ t' ∷ vs)) g → ⊥) → HasCause tokens (Syntax (place_of rest tokens.end))
cause_at tokens {next = next} t more run rest here is longest h none =
    let list : (h.run ++ run) ++ rest ≡ tokens.list = append_assoc h.run run rest ∙ ap (λ l. h.run ++ l) (longest.all ∙ sym here) ∙ h.all in (
      h.run ++ run,
      rest,
      record {
        all = list;
        begins = begins_inside t more run rest h.path is longest.begins longest.all;
        ends = λ t' more' same b. none t' more' b.0 b.1 same (subst (λ l. ReadsProgram l b.1) (regrouped h.run run t' b.0) b.2);
      },
      λ g r. by g rest refl (subst (λ l. ReadsProgram l g) (sym h.all) r),
      refl,
    )
  where
    regrouped : (a b : List Token) (t : Token) (c : List Token) → ((a ++ b) ++ t ∷ []) ++ c ≡ a ++ (b ++ t ∷ c)
    regrouped a b t c = simp append_assoc

    by : (g : Program) (left : List Token) → rest ≡ left → ReadsProgram (h.run ++ drop next tokens.list) g → ⊥
    by g [] same r = ended_on t more run rest h.path is longest same (subst (λ l. ReadsProgram (h.run ++ l) g) here r)
    by g (t' ∷ more') same r = none t' more' more' g same (subst (λ l. ReadsProgram (h.run ++ l) g) (here ∙ sym longest.all ∙ ap (λ l. run ++ l) same) r)

pub cause_refused : (tokens : Tokens) {next : ℕ} {u m : State} {f : ExprForm} {above : ℕ} (t : Token) (more rest : List Token) → drop next tokens.list ≡ t ∷ more → step t u ≡ Ask m f above
    → Refuses (form_level f) (200 - above) (drop next tokens.list) rest → Reached tokens.list next u → HasCause tokens (Syntax (place_of rest tokens.end))
cause_refused tokens {f = f} {above = above} t more rest here is refused h =
    let longest : IsLongestRun (form_level f) (200 - above) (t ∷ more) refused.0 rest = subst (λ l. IsLongestRun (form_level f) (200 - above) l refused.0 rest) here refused.1 in
    cause_at tokens t more refused.0 rest here is longest h (λ t' more' vs g left r. refused_on t more refused.0 rest t' more' vs h.path is longest refused.2 left r)

pub cause_open : (tokens : Tokens) {next : ℕ} {u m : State} {f : ExprForm} {above : ℕ} {x : Expr} (t : Token) (more rest : List Token) → drop next tokens.list ≡ t ∷ more → step t u ≡ Ask m f above
    → Parses (form_level f) (200 - above) (drop next tokens.list) x rest → rest ≡ [] → Reached tokens.list next u → HasCause tokens (Syntax tokens.end)
cause_open tokens {f = f} {above = above} t more rest here is found none h =
    let longest : IsLongestRun (form_level f) (200 - above) (t ∷ more) found.0 rest = subst (λ l. IsLongestRun (form_level f) (200 - above) l found.0 rest) here found.1 in
    subst (λ l. HasCause tokens (Syntax (place_of l tokens.end))) none (cause_at tokens t more found.0 rest here is longest h (λ t' more' vs g left r. let bad : [] ≡ t' ∷ more' = sym none ∙ left in cc))

pub cause_shut : (tokens : Tokens) {next : ℕ} {u m : State} {f : ExprForm} {above : ℕ} {x : Expr} (t c : Token) (more rest after' : List Token) → drop next tokens.list ≡ t ∷ more → step t u ≡ Ask m f above
    → Parses (form_level f) (200 - above) (drop next tokens.list) x rest → rest ≡ c ∷ after' → ((r : State) → shut c t.place x m ≡ Go r → ⊥) → Reached tokens.list next u → HasCause tokens (Syntax c.place)
cause_shut tokens {m = m} {f = f} {above = above} {x = x} t c more rest after' here is found left bad h =
    let longest : IsLongestRun (form_level f) (200 - above) (t ∷ more) found.0 rest = subst (λ l. IsLongestRun (form_level f) (200 - above) l found.0 rest) here found.1 in
    subst (λ l. HasCause tokens (Syntax (place_of l tokens.end))) left
    (cause_at tokens t more found.0 rest here is longest h
    (λ t' more' vs g same r.
    let both : t' ∷ more' ≡ c ∷ after' = sym same ∙ left in
    let token' : t' ≡ c = cc in
    shut_on t more found.0 rest t' more' vs x h.path is longest found.2 same (λ next goes. bad next (subst (λ z. shut z t.place x m ≡ Go next) token' goes)) r))
