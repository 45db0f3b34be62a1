-- The lines of a head are read exactly where they are the head's lines.
use Rattle.std.proofs.Common.{◌≡◌, ℕ, zero, suc, ◌≤◌, List, ◌++◌, true, Option, Some, None, refl, ap, ◌∙◌, subst, arith}
use Rattle.std.specs.Prelude.{codes, decimal}
use Rattle.cnf_problem.specs.declared.problem.Head.{Head}
use Rattle.line_text.specs.Words.{given, lacks, number_in, strip}
use Rattle.line_text.proofs.Bytes.{lacks_append, strip_front, strip_from}
use Rattle.line_text.proofs.Digits.{decimal_lacks, number_decimal, number_from}
use Rattle.log_text.specs.declared.stage.HeadLine.{HeadLine}
use Rattle.log_text.specs.declared.stage.HeadLine.TheVariants.{Model, Unroll, Vars, Clauses, Nodes, Atoms}
use Rattle.log_text.specs.Formats.{head_line, model_line, model_text, number_line}
use Rattle.log_text.specs.Lines.{model_in}
use Rattle.log_text.specs.Machine.{head_with, model_in_line, named}
use Rattle.log_text.specs.Spelling.{HasHead, IsNumber}
use Rattle.log_text.proofs.Told.{model_of, model_told}

-- ---- a name and a number

pub named_of : (name : List ℕ) (n : ℕ) → IsNumber n → named name (number_line name n) ≡ Some n
named_of name n h = ap (λ o. given o number_in) (strip_front name (decimal n)) ∙ number_decimal n h

pub record IsNamed (name line : List ℕ) (n : ℕ) : Type 0 where
  pub text : line ≡ number_line name n
  pub small : IsNumber n

pub named_told : (name line : List ℕ) (n : ℕ) → named name line ≡ Some n → IsNamed name line n
named_told name line n = step (strip name line) refl
  where
    step : (o : Option (List ℕ)) → strip name line ≡ o → given o number_in ≡ Some n → IsNamed name line n
    step None k e = cc
    step (Some word) k e =
        let d = number_from word n e in
        record { text = strip_from name line word k ∙ ap (λ t. name ++ t) d.digits; small = d.small }

pub model_line_of : (m : ℕ) → m ≤ 2 → model_in_line (model_line m) ≡ Some m
model_line_of m h = ap (λ o. given o model_in) (strip_front (codes "model ") (model_text m)) ∙ model_of m h

pub model_line_told : (line : List ℕ) (m : ℕ) → model_in_line line ≡ Some m → (line ≡ model_line m) × (m ≤ 2)
model_line_told line m = step (strip (codes "model ") line) refl
  where
    step : (o : Option (List ℕ)) → strip (codes "model ") line ≡ o → given o model_in ≡ Some m → (line ≡ model_line m) × (m ≤ 2)
    step None k e = cc
    step (Some word) k e =
        let t = model_told word m e in
        (strip_from (codes "model ") line word k ∙ ap (λ l. codes "model " ++ l) t.0, t.1)

-- ---- a head with one line more

-- the head that was read before takes its line's number from this one
abbrev pub filled : HeadLine → Head → Head → Head
filled Model h g = record h { model = g.model }
filled Unroll h g = record h { unroll = g.unroll }
filled Vars h g = record h { vars = g.vars }
filled Clauses h g = record h { clauses = g.clauses }
filled Nodes h g = record h { nodes = g.nodes }
filled Atoms h g = record h { atoms = g.atoms }

pub head_with_of : (at : HeadLine) (h g : Head) → HasHead g → head_with at h (head_line g at) ≡ Some (filled at h g)
head_with_of Model h g k = ap (λ o. given o (λ n. let r : Head = record h { model = n } in Some r)) (model_line_of g.model k.model)
head_with_of Unroll h g k = ap (λ o. given o (λ n. let r : Head = record h { unroll = n } in Some r)) (named_of (codes "unroll ") g.unroll k.unroll)
head_with_of Vars h g k = ap (λ o. given o (λ n. let r : Head = record h { vars = n } in Some r)) (named_of (codes "vars ") g.vars k.vars)
head_with_of Clauses h g k = ap (λ o. given o (λ n. let r : Head = record h { clauses = n } in Some r)) (named_of (codes "clauses ") g.clauses k.clauses)
head_with_of Nodes h g k = ap (λ o. given o (λ n. let r : Head = record h { nodes = n } in Some r)) (named_of (codes "nodes ") g.nodes k.nodes)
head_with_of Atoms h g k = ap (λ o. given o (λ n. let r : Head = record h { atoms = n } in Some r)) (named_of (codes "atoms ") g.atoms k.atoms)

-- the line is that of the head with it, which differs in nothing else
pub record IsHeadLine (at : HeadLine) (h : Head) (line : List ℕ) (g : Head) : Type 0 where
  pub text : line ≡ head_line g at
  pub filled_is : g ≡ filled at h g
  pub good : HasHead h → HasHead g

-- a line with a name and a number
named_line_told : (at : HeadLine) (h : Head) (line : List ℕ) (g : Head) (name : List ℕ) (with_number : ℕ → Head) → ((n : ℕ) → number_line name n ≡ head_line (with_number n) at) → ((n : ℕ) → with_number n ≡ filled at h (with_number n))
    → ((n : ℕ) → IsNumber n → HasHead h → HasHead (with_number n)) → given (named name line) (λ n. Some (with_number n)) ≡ Some g → IsHeadLine at h line g
named_line_told at h line g name with_number text fill good = step (named name line) refl
  where
    step : (o : Option ℕ) → named name line ≡ o → given o (λ n. Some (with_number n)) ≡ Some g → IsHeadLine at h line g
    step None k f = cc
    step (Some n) k f =
        let same : with_number n ≡ g = cc in
        let t = named_told name line n k in
        subst (IsHeadLine at h line) same (record { text = t.text ∙ text n; filled_is = fill n; good = good n t.small })

pub head_with_told : (at : HeadLine) (h : Head) (line : List ℕ) (g : Head) → head_with at h line ≡ Some g → IsHeadLine at h line g
head_with_told Model h line g e = step (model_in_line line) refl e
  where
    step : (o : Option ℕ) → model_in_line line ≡ o → given o (λ n. let r : Head = record h { model = n } in Some r) ≡ Some g → IsHeadLine Model h line g
    step None k f = cc
    step (Some n) k f =
        let r : Head = record h { model = n } in
        let same : r ≡ g = cc in
        let t = model_line_told line n k in
        subst (IsHeadLine Model h line) same (record { text = t.0; filled_is = refl; good = λ q. record { model = t.1; unroll = q.unroll; vars = q.vars; clauses = q.clauses; nodes = q.nodes; atoms = q.atoms } })
head_with_told Unroll h line g e = named_line_told Unroll h line g (codes "unroll ") (λ n. record h { unroll = n }) (λ n. refl) (λ n. refl) (λ n k q. record { model = q.model; unroll = k; vars = q.vars; clauses = q.clauses; nodes = q.nodes; atoms = q.atoms }) e
head_with_told Vars h line g e = named_line_told Vars h line g (codes "vars ") (λ n. record h { vars = n }) (λ n. refl) (λ n. refl) (λ n k q. record { model = q.model; unroll = q.unroll; vars = k; clauses = q.clauses; nodes = q.nodes; atoms = q.atoms }) e
head_with_told Clauses h line g e = named_line_told Clauses h line g (codes "clauses ") (λ n. record h { clauses = n }) (λ n. refl) (λ n. refl) (λ n k q. record { model = q.model; unroll = q.unroll; vars = q.vars; clauses = k; nodes = q.nodes; atoms = q.atoms }) e
head_with_told Nodes h line g e = named_line_told Nodes h line g (codes "nodes ") (λ n. record h { nodes = n }) (λ n. refl) (λ n. refl) (λ n k q. record { model = q.model; unroll = q.unroll; vars = q.vars; clauses = q.clauses; nodes = k; atoms = q.atoms }) e
head_with_told Atoms h line g e = named_line_told Atoms h line g (codes "atoms ") (λ n. record h { atoms = n }) (λ n. refl) (λ n. refl) (λ n k q. record { model = q.model; unroll = q.unroll; vars = q.vars; clauses = q.clauses; nodes = q.nodes; atoms = k }) e

-- ---- the lines hold no line feed

number_line_lacks : (name : List ℕ) (n : ℕ) → lacks 10 name ≡ true → IsNumber n → lacks 10 (number_line name n) ≡ true
number_line_lacks name n h k = lacks_append 10 name (decimal n) h (decimal_lacks 10 n (omega arith) k)

model_line_lacks : (m : ℕ) → m ≤ 2 → lacks 10 (model_line m) ≡ true
model_line_lacks zero h = refl
model_line_lacks (suc zero) h = refl
model_line_lacks (suc (suc m)) h = refl

pub head_line_lacks : (h : Head) (at : HeadLine) → HasHead h → lacks 10 (head_line h at) ≡ true
head_line_lacks h Model k = model_line_lacks h.model k.model
head_line_lacks h Unroll k = number_line_lacks (codes "unroll ") h.unroll refl k.unroll
head_line_lacks h Vars k = number_line_lacks (codes "vars ") h.vars refl k.vars
head_line_lacks h Clauses k = number_line_lacks (codes "clauses ") h.clauses refl k.clauses
head_line_lacks h Nodes k = number_line_lacks (codes "nodes ") h.nodes refl k.nodes
head_line_lacks h Atoms k = number_line_lacks (codes "atoms ") h.atoms refl k.atoms
