use Rattle.std.proofs.Common.{◌≡◌, Bool, true, false, IsTrue, List, [], ◌∷◌, None, refl, sym, ◌∙◌}
use Rattle.std.specs.Prelude.{◌↔◌}
use Rattle.c_tree.specs.declared.expr.TypeWord.{TypeWord}
use Rattle.c_tree.specs.declared.program.Param.{Param}
use Rattle.c_stmt.specs.Machine.{void_alone}
use Rattle.c_stmt.proofs.items.void_alone.Goals as goal

none_more : (ps : List Param) (k : TypeWord) (more : Bool) → (ps ≡ [] → ⊥) → None ≡ void_alone ps k more
none_more [] k more some = absurd (some refl)
none_more (p ∷ ps) k more some = refl

none_unless : (ps : List Param) (k : TypeWord) (more b : Bool) → (IsTrue b ↔ (ps ≡ [])) → b ≡ false → None ≡ void_alone ps k more
none_unless ps k more b iff is = none_more ps k more (λ e. let t : b ≡ true = iff.1 e in let no : true ≡ false = sym t ∙ is in cc)

pub returns-else-is_empty : goal.returns-else-is_empty
returns-else-is_empty c = none_unless c.args.params c.args.kind c.args.more c.is_empty.result c.is_empty.ensures c.if-is_empty.false
