-- Scopes that declare more.
use Rattle.std.proofs.Common.{◌≡◌, ◌∙◌, List, [], ◌∷◌, ◌++◌, length, take, refl, ap, sym, arith, length-append}
use Rattle.std.proofs.Math.Seq.{take-length, take-append_seam}
use Rattle.std.proofs.lemmas.List.{take-take}
use Rattle.c_tree.specs.declared.expr.TypeWord.{TypeWord}
use Rattle.c_tree.specs.declared.stmt.Declarator.{Declarator}
use Rattle.c_rules.specs.declared.names.Entry.{Entry}
use Rattle.c_rules.specs.Names.{Scope}
use Rattle.c_rules.specs.Walk.{declare, variable_entry, cells_of_size, enter, loop_in}
use Rattle.c_rules.specs.Passes.{Extends, body_scope}

pub same : (s : Scope) → Extends s s
same s = record { more = omega arith; kept = take-length s.entries; start = refl; top = refl; in_loop = refl; function = refl }

pub declared : (w : TypeWord) (d : Declarator) (s : Scope) → Extends s (declare w d s)
declared w d s = record { more = omega (arith, length-append s.entries (variable_entry d.name w (cells_of_size d.size) s.top ∷ [])); kept = take-append_seam s.entries _; start = refl; top = refl; in_loop = refl; function = refl }

pub further : (s t u : Scope) → Extends s t → Extends t u → Extends s u
further s t u a b = record {
  more = omega (arith, a.more, b.more);
  kept = sym (take-take (length s.entries) (length t.entries) u.entries a.more) ∙ (ap (take (length s.entries)) b.kept ∙ a.kept);
  start = b.start ∙ a.start;
  top = b.top ∙ a.top;
  in_loop = b.in_loop ∙ a.in_loop;
  function = b.function ∙ a.function;
}

-- what an inner scope has declared goes with it
pub left : (s t : Scope) → Extends (enter s) t → record { entries = take (length s.entries) t.entries; start = s.start; top = s.top; in_loop = s.in_loop; function = s.function } ≡ s
left s t h = ap (λ (es : List Entry). record s { entries = es }) h.kept

pub left_loop : (s t : Scope) → Extends (loop_in s) t → record { entries = take (length s.entries) t.entries; start = s.start; top = s.top; in_loop = s.in_loop; function = s.function } ≡ s
left_loop s t h = ap (λ (es : List Entry). record s { entries = es }) h.kept

pub left_part : (s t : Scope) → Extends s t → record { entries = take (length s.entries) t.entries; start = s.start; top = s.top; in_loop = s.in_loop; function = s.function } ≡ s
left_part s t h = ap (λ (es : List Entry). record s { entries = es }) h.kept

pub left_function : (w : TypeWord) (s t : Scope) → Extends (body_scope w s) t → record { entries = take (length s.entries) t.entries; start = s.start; top = s.top; in_loop = s.in_loop; function = s.function } ≡ s
left_function w s t h = ap (λ (es : List Entry). record s { entries = es }) h.kept

-- one more name
pub one_more : (e : Entry) (s : Scope) → Extends s (record s { entries = s.entries ++ e ∷ [] })
one_more e s = record { more = omega (arith, length-append s.entries (e ∷ [])); kept = take-append_seam s.entries _; start = refl; top = refl; in_loop = refl; function = refl }
