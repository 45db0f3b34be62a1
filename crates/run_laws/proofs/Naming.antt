-- The names of the locals of a run, and the variables of a scope: a variable that no local has the name of is shared.
use Rattle.std.proofs.Common.{◌≡◌, ℕ, zero, suc, ◌+◌, ◌≤◌, List, [], ◌∷◌, ◌++◌, Option, Some, None, Bool, true, false, ◌||◌, cond, length, take, set, refl, sym, ap, ◌∙◌, append_assoc}
use Rattle.std.specs.Prelude.{slice_get, unwrap_or}
use Rattle.std.specs.Str.{bytes_eq}
use Rattle.std.proofs.lemmas.Bool.{false≢true, or_parts}
use Rattle.std.proofs.lemmas.Option.{same_Some}
use Rattle.c_tree.specs.declared.expr.TypeWord.{TypeWord}
use Rattle.c_tree.specs.declared.stmt.Declarator.{Declarator}
use Rattle.c_tree.specs.declared.program.Param.{Param}
use Rattle.c_rules.specs.declared.names.Variable.{Variable}
use Rattle.c_rules.specs.declared.names.Entry.{Entry}
use Rattle.c_rules.specs.Names.{Name, Scope, or_else, variable_in}
use Rattle.c_rules.specs.Walk.{cells_of_size, declare, param_entry, param_entries, variable_entry}
use Rattle.c_check.specs.Counts.{exact, access_to}
use Rattle.run_model.specs.declared.state.Local.{Local}
use Rattle.run_model.specs.Names.{last_named}
use Rattle.run_model.specs.Cells.{with_cell, with_cell_in, local_named}
use Rattle.run_model.specs.Threads.{parameter, parameters}

-- ---- the names of locals

abbrev pub names : List Local → List Name
names [] = []
names (l ∷ ls) = l.name ∷ names ls

abbrev pub has : List Name → Name → Bool
has [] n = false
has (k ∷ ks) n = bytes_eq k n || has ks n

pub neither : {A : Type 0} (o u : Option A) → or_else o u ≡ None → (o ≡ None) × (u ≡ None)
neither (Some a) u e = absurd (let no : ◌≡◌ {A = Option _} (Some a) None = e in cc)
neither None u e = (refl, e)

not_here : {A : Type 0} (t : Bool) (a : A) → cond t (Some a) None ≡ None → t ≡ false
not_here true a e = absurd (let no : ◌≡◌ {A = Option _} (Some a) None = e in cc)
not_here false a e = refl

neither_true : (x y : Bool) → x ≡ false → y ≡ false → (x || y) ≡ false
neither_true false false e g = refl
neither_true true y e g = absurd (false≢true (sym e))
neither_true false true e g = absurd (false≢true (sym g))

-- a name that no local is found by is none of theirs
not_named : (ls : List Local) (i : ℕ) (n : Name) → last_named (λ (l : Local). l.name) i ls n ≡ None → has (names ls) n ≡ false
not_named [] i n e = refl
not_named (l ∷ ls) i n e =
    let parts = neither (last_named (λ (l : Local). l.name) (i + 1) ls n) (cond (bytes_eq l.name n) (Some i) None) e in
    neither_true (bytes_eq l.name n) (has (names ls) n) (not_here (bytes_eq l.name n) i parts.1) (not_named ls (i + 1) n parts.0)

pub names-append : (ls ms : List Local) → names (ls ++ ms) ≡ names ls ++ names ms
names-append [] ms = refl
names-append (l ∷ ls) ms = ap (λ (ns : List Name). l.name ∷ ns) (names-append ls ms)

same_names : (ls : List Local) (i : ℕ) (x y : Local) → slice_get ls i ≡ Some x → y.name ≡ x.name → names (set ls i y) ≡ names ls
same_names [] i x y e g = refl
same_names (l ∷ ls) zero x y e g =
    let same : l ≡ x = same_Some l x e in
    ap (λ (n : Name). n ∷ names ls) (g ∙ sym (ap (λ (l : Local). l.name) same))
same_names (l ∷ ls) (suc i) x y e g = ap (λ (ns : List Name). l.name ∷ ns) (same_names ls i x y e g)

cell_names_at : (ls : List Local) (i j v : ℕ) (o : Option Local) → slice_get ls i ≡ o → names (with_cell_in ls i j v o) ≡ names ls
cell_names_at ls i j v None e = refl
cell_names_at ls i j v (Some l) e = same_names ls i l (record l { cells = set l.cells j v }) e refl

-- a write keeps the names
pub cell_names : (ls : List Local) (i j v : ℕ) → names (with_cell ls i j v) ≡ names ls
cell_names ls i j v = cell_names_at ls i j v (slice_get ls i) refl

pub names_length : (ls : List Local) → length ls ≡ length (names ls)
names_length [] = refl
names_length (l ∷ ls) = ap suc (names_length ls)

-- where locals came behind those of these names, those are the first ones
pub first_names : (ns : List Name) (ms : List Local) (more : List Name) → names ms ≡ ns ++ more → names (take (length ns) ms) ≡ ns
first_names [] ms more e = refl
first_names (n ∷ ns) [] more e = absurd (let no : ◌≡◌ {A = List Name} [] (n ∷ (ns ++ more)) = e in cc)
first_names (n ∷ ns) (m ∷ ms) more e =
    let all : ◌≡◌ {A = List Name} (m.name ∷ names ms) (n ∷ (ns ++ more)) = e in
    let first : m.name ≡ n = cc in
    let rest : names ms ≡ ns ++ more = cc in
    ap (λ (k : Name). k ∷ names (take (length ns) ms)) first ∙ ap (λ (ks : List Name). n ∷ ks) (first_names ns ms more rest)

abbrev pub param_names : List Param → List Name
param_names [] = []
param_names (p ∷ ps) = p.name ∷ param_names ps

parameters_names : (done : List Local) (i : ℕ) (ps : List Param) (vs : List ℕ) → names (parameters done i ps vs) ≡ names done ++ param_names ps
parameters_names done i [] vs = sym (no_more (names done))
  where
    no_more : (ns : List Name) → ns ++ [] ≡ ns
    no_more [] = refl
    no_more (n ∷ ns) = ap (λ (ms : List Name). n ∷ ms) (no_more ns)
parameters_names done i (p ∷ ps) vs =
    let one : Local = parameter p (unwrap_or (slice_get vs i) 0) in
    parameters_names (done ++ one ∷ []) (i + 1) ps vs ∙ ap (λ (ns : List Name). ns ++ param_names ps) (names-append done (one ∷ [])) ∙ append_assoc (names done) (p.name ∷ []) (param_names ps)

pub body_names : (ps : List Param) (vs : List ℕ) → names (parameters [] 0 ps vs) ≡ param_names ps
body_names ps vs = parameters_names [] 0 ps vs

-- ---- variables

else_none : {A : Type 0} (o : Option A) → o ≡ or_else o None
else_none None = refl
else_none (Some a) = refl

else_assoc : {A : Type 0} (a b c : Option A) → or_else (or_else a b) c ≡ or_else a (or_else b c)
else_assoc None b c = refl
else_assoc (Some a) b c = refl

variable_behind : (es fs : List Entry) (n : Name) → variable_in (es ++ fs) n ≡ or_else (variable_in fs n) (variable_in es n)
variable_behind [] fs n = else_none (variable_in fs n)
variable_behind (e ∷ es) fs n =
    let last : Option Variable = cond (bytes_eq e.name n) e.variable None in
    ap (λ (o : Option Variable). or_else o last) (variable_behind es fs n) ∙ else_assoc (variable_in fs n) (variable_in es n) last

-- an access to the variable counts one to a shared cell, or more
abbrev pub IsCounted : Variable → Type 0
IsCounted v = 1 ≤ (access_to exact (Some v)).accesses

-- where no local has a variable's name, its accesses are counted
abbrev pub Covers : List Entry → List Name → Type 0
Covers es ns = (n : Name) (v : Variable) → variable_in es n ≡ Some v → has ns n ≡ false → IsCounted v

-- the same where there are no locals
abbrev pub AllCounted : List Entry → Type 0
AllCounted es = (n : Name) (v : Variable) → variable_in es n ≡ Some v → IsCounted v

-- a name that no local is found by
pub counted_at : (es : List Entry) (ls : List Local) (n : Name) (v : Variable) → Covers es (names ls) → variable_in es n ≡ Some v → local_named ls n ≡ None → IsCounted v
counted_at es ls n v covers e none = covers n v e (not_named ls 0 n none)

has_none : (ns ms : List Name) (n : Name) → has (ns ++ ms) n ≡ false → (has ns n ≡ false) × (has ms n ≡ false)
has_none [] ms n e = (refl, e)
has_none (k ∷ ns) ms n e =
    let parts = or_parts (bytes_eq k n) (has (ns ++ ms) n) e in
    let rest = has_none ns ms n parts.1 in
    (neither_true (bytes_eq k n) (has ns n) parts.0 rest.0, rest.1)

-- more entries, each with a local of its name
covers_more : (es fs : List Entry) (ns ms : List Name) → ((n : Name) → has ms n ≡ false → variable_in fs n ≡ None) → Covers es ns → Covers (es ++ fs) (ns ++ ms)
covers_more es fs ns ms none covers n v e free =
    let parts = has_none ns ms n free in
    let same : variable_in (es ++ fs) n ≡ variable_in es n = variable_behind es fs n ∙ ap (λ (o : Option Variable). or_else o (variable_in es n)) (none n parts.1) in
    covers n v (sym same ∙ e) parts.0

none_at : {A : Type 0} (t : Bool) (o : Option A) → t ≡ false → cond t o None ≡ None
none_at true o e = absurd (false≢true (sym e))
none_at false o e = refl

one_none : (e : Entry) (n : Name) → has (e.name ∷ []) n ≡ false → variable_in (e ∷ []) n ≡ None
one_none e n free = none_at (bytes_eq e.name n) e.variable (or_parts (bytes_eq e.name n) false free).0

params_none : (ps : List Param) (n : Name) → has (param_names ps) n ≡ false → variable_in (param_entries ps) n ≡ None
params_none [] n e = refl
params_none (p ∷ ps) n e =
    let parts = or_parts (bytes_eq p.name n) (has (param_names ps) n) e in
    let last : Option Variable = cond (bytes_eq p.name n) (param_entry p).variable None in
    ap (λ (o : Option Variable). or_else o last) (params_none ps n parts.1) ∙ none_at (bytes_eq p.name n) (param_entry p).variable parts.0

-- a function begins with its parameters
pub covers_params : (es : List Entry) (ps : List Param) → AllCounted es → Covers (es ++ param_entries ps) (param_names ps)
covers_params es ps all = covers_more es (param_entries ps) [] (param_names ps) (params_none ps) (λ n v e free. all n v e)

-- what a scope inside a function has declared
pub record Inside (s : Scope) (ns : List Name) : Type 0 where
  pub inner : s.top ≡ false
  pub covers : Covers s.entries ns

pub inside_declared : (w : TypeWord) (d : Declarator) (s : Scope) (ns : List Name) → Inside s ns → Inside (declare w d s) (ns ++ d.name ∷ [])
inside_declared w d s ns h = record {
  inner = h.inner;
  covers = covers_more s.entries (variable_entry d.name w (cells_of_size d.size) s.top ∷ []) ns (d.name ∷ []) (one_none (variable_entry d.name w (cells_of_size d.size) s.top)) h.covers;
}

counted_last : (e : Option Variable) (es : List Entry) (n : Name) (v : Variable) (t : Bool) → ((u : Variable) → e ≡ Some u → IsCounted u) → AllCounted es → or_else (cond t e None) (variable_in es n) ≡ Some v → IsCounted v
counted_last e es n v false h all g = all n v g
counted_last None es n v true h all g = all n v g
counted_last (Some u) es n v true h all g = h v g

-- one entry more at the top
pub counted_more : (es : List Entry) (e : Entry) → ((v : Variable) → e.variable ≡ Some v → IsCounted v) → AllCounted es → AllCounted (es ++ e ∷ [])
counted_more es e h all n v g =
    counted_last e.variable es n v (bytes_eq e.name n) h all (sym (variable_behind es (e ∷ []) n) ∙ g)
