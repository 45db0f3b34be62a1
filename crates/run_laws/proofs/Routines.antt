-- The function of a new thread: what the third argument of pthread_create names by the types, by the counts and in a run.
use Rattle.std.proofs.Common.{◌≡◌, ℕ, ◌+◌, List, [], ◌∷◌, Option, Some, None, Bool, true, false, cond, map, length, nat_eq, refl, sym, ap, ◌∙◌, subst, drop}
use Rattle.std.specs.Prelude.{codes}
use Rattle.std.proofs.lemmas.Bool.{false≢true, and_parts}
use Rattle.std.specs.Str.{bytes_eq}
use Rattle.std.proofs.lemmas.Option.{same_Some}
use Rattle.c_tree.specs.declared.expr.Expr.{Expr, fold-roll-Expr, ind-Expr, map-Expr, out-Expr, roll-out-Expr}
use Rattle.c_tree.specs.declared.expr.Expr.TheOpen.{Expr-F}
use Rattle.c_tree.specs.declared.program.Function.{Function}
use Rattle.c_rules.specs.declared.builtin.Builtin.{Builtin}
use Rattle.c_rules.specs.declared.builtin.Builtin.TheVariants as b
use Rattle.c_rules.specs.declared.builtin.Role.{Role}
use Rattle.c_rules.specs.declared.builtin.Role.TheVariants as role
use Rattle.c_rules.specs.declared.names.Variable.{Variable}
use Rattle.c_rules.specs.declared.names.Meaning.TheVariants as meant
use Rattle.c_rules.specs.declared.names.Meaning.{Meaning as Meant}
use Rattle.c_rules.specs.Names.{Name, Scope, or_else, thread_calls, other_calls, look_up, builtin_named, function_named, variable_named, meaning_in, meaning_of}
use Rattle.c_rules.specs.Routines.{Naming, naming_step, naming, plain_name, routine_name, third_routine, created_by}
use Rattle.c_rules.specs.Types.{meets, may_run, argument_fits, arguments_fit, call_fits}
use Rattle.c_rules.specs.BuiltIns.{role_of}
use Rattle.c_check.specs.Recursion.{called, namings}
use Rattle.c_check.proofs.Namings.{called_naming}
use Rattle.run_model.specs.Names.{first_named}
use Rattle.run_model.specs.Calls.{Meaning, Context, argument}
use Rattle.run_model.specs.Meaning.{expr_step, meaning}

-- ---- what an expression names

-- the counts see the function that the types see
same_routine : (x : Expr) → (called x).naming.routine ≡ routine_name x
same_routine x = ap (λ (n : Naming). n.routine) (called_naming x)

module _ (cx : Context) where
  -- a run sees the name that the types see
  abbrev Spells : Expr → Type 0
  Spells x = (n : Name) → plain_name x ≡ Some n → (meaning cx x).spelled ≡ Some n

  abbrev kids : Expr-F ((x : Expr) × Spells x) → Expr-F Expr
  kids y = map-Expr ((x : Expr) × Spells x) Expr (λ e. e.0) y

  spelled_layer : (y : Expr-F ((x : Expr) × Spells x)) (n : Name)
      → (naming_step (map-Expr Expr Naming naming (kids y))).plain ≡ Some n → (expr_step cx (map-Expr Expr Meaning (meaning cx) (kids y))).spelled ≡ Some n
  spelled_layer (Expr-F.Name p m) n e = e
  spelled_layer (Expr-F.Bracket p x) n e = x.1 n e
  spelled_layer _ n e = absurd (let no : ◌≡◌ {A = Option Name} None (Some n) = e in cc)

  spelled : (x : Expr) → Spells x
  spelled = ind-Expr Spells (λ x y is n e.
      ap (λ (m : Meaning). m.spelled) (fold-roll-Expr Meaning (expr_step cx) x)
      ∙ subst (λ (z : Expr-F Expr). (naming_step (map-Expr Expr Naming naming z)).plain ≡ Some n → (expr_step cx (map-Expr Expr Meaning (meaning cx) z)).spelled ≡ Some n) is (λ k. spelled_layer y n k)
      (ap (λ (m : Naming). m.plain) (sym (fold-roll-Expr Naming naming_step x)) ∙ e))

  routine_spelled_layer : (y : Expr-F Expr) (n : Name) → (naming_step (map-Expr Expr Naming naming y)).routine ≡ Some n → (expr_step cx (map-Expr Expr Meaning (meaning cx) y)).spelled ≡ Some n
  routine_spelled_layer (Expr-F.Name p m) n e = e
  routine_spelled_layer (Expr-F.Address p x) n e = spelled x n e
  routine_spelled_layer _ n e = absurd (let no : ◌≡◌ {A = Option Name} None (Some n) = e in cc)

  -- a run sees the function that the types see
  routine_spelled : (x : Expr) (n : Name) → routine_name x ≡ Some n → (meaning cx x).spelled ≡ Some n
  routine_spelled x n e =
      ap (λ (z : Expr). (meaning cx z).spelled) (sym (roll-out-Expr x))
      ∙ ap (λ (m : Meaning). m.spelled) (fold-roll-Expr Meaning (expr_step cx) (out-Expr x))
      ∙ routine_spelled_layer (out-Expr x) n
      (ap (λ (m : Naming). m.routine) (sym (fold-roll-Expr Naming naming_step (out-Expr x))) ∙ (ap (λ (z : Expr). routine_name z) (roll-out-Expr x) ∙ e))

-- ---- built-in calls

abbrev is_create : Builtin → Bool
is_create b.PthreadCreate = true
is_create _ = false

-- no key beside these values is a create's
abbrev NoCreates : List (Name × Builtin) → Type 0
NoCreates [] = Unit {0}
NoCreates (p ∷ ps) = (is_create p.1 ≡ false) × NoCreates ps

no_create_at : (c v : Builtin) (t : Bool) (o : Option Builtin) → is_create v ≡ false → (o ≡ Some c → is_create c ≡ false) → cond t (Some v) o ≡ Some c → is_create c ≡ false
no_create_at c v true o h rest e = ap is_create (sym (same_Some v c e)) ∙ h
no_create_at c v false o h rest e = rest e

no_create_in : (ps : List (Name × Builtin)) (n : Name) (c : Builtin) → NoCreates ps → look_up ps n ≡ Some c → is_create c ≡ false
no_create_in [] n c h e = absurd (let no : ◌≡◌ {A = Option Builtin} None (Some c) = e in cc)
no_create_in (p ∷ ps) n c h e = no_create_at c p.1 (bytes_eq p.0 n) (look_up ps n) h.0 (no_create_in ps n c h.1) e

-- the built-in calls but pthread_create
abbrev other_thread_calls : List (Name × Builtin)
other_thread_calls = drop 1 thread_calls

either_no_create : (c : Builtin) (o u : Option Builtin) → (o ≡ Some c → is_create c ≡ false) → (u ≡ Some c → is_create c ≡ false) → or_else o u ≡ Some c → is_create c ≡ false
either_no_create c (Some v) u g h e = g e
either_no_create c None u g h e = h e

create_at : (n : Name) (t : Bool) → or_else (cond t (Some b.PthreadCreate) (look_up other_thread_calls n)) (look_up other_calls n) ≡ Some b.PthreadCreate → t ≡ true
create_at n true e = refl
create_at n false e =
    sym (either_no_create b.PthreadCreate (look_up other_thread_calls n) (look_up other_calls n)
    (no_create_in other_thread_calls n b.PthreadCreate (refl, (refl, (refl, (refl, (refl, (refl, tt)))))))
    (no_create_in other_calls n b.PthreadCreate (refl, (refl, (refl, (refl, (refl, (refl, (refl, (refl, (refl, (refl, (refl, (refl, (refl, tt)))))))))))))) e)

-- pthread_create has one name
create_named : (n : Name) → builtin_named n ≡ Some b.PthreadCreate → bytes_eq (codes "pthread_create") n ≡ true
create_named n e = create_at n (bytes_eq (codes "pthread_create") n) e

-- ---- what a call of pthread_create names

meets_some : (ok : Meant → Bool) (means : Name → Meant) (o : Option Name) → meets ok means o ≡ true → (m : Name) × (o ≡ Some m) × (ok (means m) ≡ true)
meets_some ok means None e = absurd (false≢true e)
meets_some ok means (Some m) e = (m, refl, e)

runs_in : (o : Option Variable) (f : Option Function) (c : Option Builtin) → may_run (meaning_in o f c) ≡ true → (h : Function) × (f ≡ Some h)
runs_in (Some v) f c e = absurd (false≢true e)
runs_in None (Some h) c e = (h, refl)
runs_in None None (Some c) e = absurd (false≢true e)
runs_in None None None e = absurd (false≢true e)

-- what a thread may run is a function
pub runs_function : (fs : List Function) (s : Scope) (m : Name) → may_run (meaning_of fs s m) ≡ true → (h : Function) × (function_named fs m ≡ Some h)
runs_function fs s m e = runs_in (variable_named s m) (function_named fs m) (builtin_named m) e

create_fits : (means : Name → Meant) (r : Role) (es : List Expr) (o : Option Variable) (f : Option Function) (c : Option Builtin)
    → f ≡ None → c ≡ Some b.PthreadCreate → call_fits means r (meaning_in o f c) es ≡ true → call_fits means r (meant.Builtin b.PthreadCreate) es ≡ true
create_fits means r es (Some v) f c g h e = absurd (false≢true e)
create_fits means r es None f c g h e =
    subst (λ (d : Option Builtin). call_fits means r (meaning_in None None d) es ≡ true) h (subst (λ (o : Option Function). call_fits means r (meaning_in None o c) es ≡ true) g e)

module _ (cx : Context) (means : Name → Meant) where
  -- the function of a new thread, as the types, the counts and a run see it
  record Routine (es : List Expr) : Type 0 where
    pub name : Name
    pub counted : third_routine (namings (map called es)) ≡ Some name
    pub run : (argument (map (meaning cx) es) 2).spelled ≡ Some name
    pub fits : may_run (means name) ≡ true

  third : (es : List Expr) → nat_eq (length es) 4 ≡ true → arguments_fit means (role_of b.PthreadCreate) 0 es ≡ true → Routine es
  third [] l e = absurd (false≢true l)
  third (x ∷ []) l e = absurd (false≢true l)
  third (x ∷ (y ∷ [])) l e = absurd (false≢true l)
  third (x ∷ (y ∷ (z ∷ es))) l e =
      let behind_first : arguments_fit means (role_of b.PthreadCreate) 1 (y ∷ (z ∷ es)) ≡ true = (and_parts (argument_fits means (role_of b.PthreadCreate 0) x) _ e).1 in
      let behind_second : arguments_fit means (role_of b.PthreadCreate) 2 (z ∷ es) ≡ true = (and_parts (argument_fits means (role_of b.PthreadCreate 1) y) _ behind_first).1 in
      let it : meets may_run means (routine_name z) ≡ true = (and_parts (argument_fits means role.Routine z) _ behind_second).0 in
      let named : (m : Name) × (routine_name z ≡ Some m) × (may_run (means m) ≡ true) = meets_some may_run means (routine_name z) it in
      record { name = named.0; counted = same_routine z ∙ named.1; run = routine_spelled cx z named.0 named.1; fits = named.2 }

-- the same for a whole call
pub record Creating (cx : Context) (means : Name → Meant) (n : Name) (es : List Expr) : Type 0 where
  pub name : Name
  pub counted : created_by n (namings (map called es)) ≡ Some name
  pub run : (argument (map (meaning cx) es) 2).spelled ≡ Some name
  pub fits : may_run (means name) ≡ true

-- a call of pthread_create that fits its types names a function
pub creating : (cx : Context) (fs : List Function) (s : Scope) (r : Role) (n : Name) (es : List Expr) → builtin_named n ≡ Some b.PthreadCreate → function_named fs n ≡ None
    → call_fits (meaning_of fs s) r (meaning_of fs s n) es ≡ true → Creating cx (meaning_of fs s) n es
creating cx fs s r n es built none fits =
    let means : Name → Meant = meaning_of fs s in
    let it : call_fits means r (meant.Builtin b.PthreadCreate) es ≡ true = create_fits means r es (variable_named s n) (function_named fs n) (builtin_named n) none built fits in
    let parts = and_parts (nat_eq (length es) 4) _ it in
    let found : Routine cx means es = third cx means es parts.0 (and_parts (arguments_fit means (role_of b.PthreadCreate) 0 es) _ parts.1).0 in
    record {
      name = found.name;
      counted = ap (λ (t : Bool). cond t (third_routine (namings (map called es))) None) (create_named n built) ∙ found.counted;
      run = found.run;
      fits = found.fits;
    }

-- ---- functions by their names

no_name_at : (x : Function) (fs : List Function) (i : ℕ) (n : Name) (t : Bool) → (first_named (λ (f : Function). f.name) (i + 1) fs n ≡ None → function_named fs n ≡ None)
    → cond t (Some i) (first_named (λ (f : Function). f.name) (i + 1) fs n) ≡ None → cond t (Some x) (function_named fs n) ≡ None
no_name_at x fs i n true rest e = absurd (let no : ◌≡◌ {A = Option ℕ} (Some i) None = e in cc)
no_name_at x fs i n false rest e = rest e

-- a name that has no number is no function's
pub no_name : (fs : List Function) (i : ℕ) (n : Name) → first_named (λ (f : Function). f.name) i fs n ≡ None → function_named fs n ≡ None
no_name [] i n e = refl
no_name (x ∷ fs) i n e = no_name_at x fs i n (bytes_eq x.name n) (no_name fs (i + 1) n) e

numbered_in : (fs : List Function) (i : ℕ) (n : Name) (h : Function) (o : Option ℕ) → first_named (λ (f : Function). f.name) i fs n ≡ o → function_named fs n ≡ Some h → (k : ℕ) × (o ≡ Some k)
numbered_in fs i n h None e d = absurd (let no : ◌≡◌ {A = Option Function} None (Some h) = sym (no_name fs i n e) ∙ d in cc)
numbered_in fs i n h (Some k) e d = (k, refl)

-- a function has a number
pub has_number : (fs : List Function) (i : ℕ) (n : Name) (h : Function) → function_named fs n ≡ Some h → (k : ℕ) × (first_named (λ (f : Function). f.name) i fs n ≡ Some k)
has_number fs i n h d = numbered_in fs i n h (first_named (λ (f : Function). f.name) i fs n) refl d
