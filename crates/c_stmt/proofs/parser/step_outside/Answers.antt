use Rattle.std.proofs.Common.{◌≡◌, ℕ, Bool, List, Option, refl, reverse, subst}
use Rattle.std.specs.Prelude.{IfOk}
use Rattle.dg_base.specs.declared.Place.{Place}
use Rattle.token_list.specs.declared.Token.{Token}
use Rattle.c_tree.specs.declared.expr.TypeWord.{TypeWord}
use Rattle.c_tree.specs.declared.expr.Expr.{Expr}
use Rattle.c_tree.specs.declared.stmt.Declarator.{Declarator}
use Rattle.c_tree.specs.declared.stmt.Decl.{Decl}
use Rattle.c_tree.specs.declared.program.Param.{Param}
use Rattle.c_tree.specs.declared.program.Item.{Item}
use Rattle.c_expr.specs.declared.word.Word.{Word}
use Rattle.c_expr.specs.Words.{word_of}
use Rattle.c_stmt.specs.declared.state.Frame.{Frame}
use Rattle.c_stmt.specs.declared.state.Site.{Site}
use Rattle.c_stmt.specs.declared.state.Head.{Head}
use Rattle.c_stmt.specs.declared.state.Params.{Params}
use Rattle.c_stmt.specs.declared.state.Position.{Position}
use Rattle.c_stmt.specs.declared.state.Position.TheVariants as at
use Rattle.c_stmt.specs.Machine as machine
use Rattle.c_stmt.specs.Machine.{At, step_by, inside}
use Rattle.c_stmt.proofs.parser.step_outside.Goals as goal

-- a position that is none of a declaration's or a header's is a statement's
in_statement : (v : Word) (t : Token) (xs : List Item) (s : List Frame) (p : Position) → (p ≡ at.Top → ⊥) → (p ≡ at.Static → ⊥) → ((a : Site) (b : TypeWord) (d : Bool) → p ≡ at.Typed a b d → ⊥)
    → ((a : Site) (b : TypeWord) (d : Place) (e : List ℕ) → p ≡ at.First a b d e → ⊥) → ((a : Site) (b : Decl) → p ≡ at.Next a b → ⊥) → ((a : Site) (b : Decl) (d : Place) (e : List ℕ) → p ≡ at.Named a b d e → ⊥)
    → ((a : Site) (b : Decl) (d : Place) (e : List ℕ) → p ≡ at.Size a b d e → ⊥) → ((a : Site) (b : Decl) (d : Declarator) → p ≡ at.Sized a b d → ⊥) → ((a : Site) (b : Decl) (d : Declarator) → p ≡ at.Value a b d → ⊥)
    → ((a : Site) (b : Decl) (d : Declarator) (e : List Expr) → p ≡ at.Values a b d e → ⊥) → ((a : Site) (b : Decl) (d : Declarator) → p ≡ at.Valued a b d → ⊥) → ((a : Head) (b : ℕ) (d : Params) → p ≡ at.Heading a b d → ⊥)
    → ((a : Head) (b : Option (List Param)) → p ≡ at.Headed a b → ⊥) → inside v t (At xs s p) ≡ step_by v t (At xs s p)
in_statement v t xs s at.Top h1 h2 h3 h4 h5 h6 h7 h8 h9 h10 h11 h12 h13 = absurd (h1 refl)
in_statement v t xs s at.Static h1 h2 h3 h4 h5 h6 h7 h8 h9 h10 h11 h12 h13 = absurd (h2 refl)
in_statement v t xs s (at.Typed a b d) h1 h2 h3 h4 h5 h6 h7 h8 h9 h10 h11 h12 h13 = absurd (h3 a b d refl)
in_statement v t xs s (at.First a b d e) h1 h2 h3 h4 h5 h6 h7 h8 h9 h10 h11 h12 h13 = absurd (h4 a b d e refl)
in_statement v t xs s (at.Next a b) h1 h2 h3 h4 h5 h6 h7 h8 h9 h10 h11 h12 h13 = absurd (h5 a b refl)
in_statement v t xs s (at.Named a b d e) h1 h2 h3 h4 h5 h6 h7 h8 h9 h10 h11 h12 h13 = absurd (h6 a b d e refl)
in_statement v t xs s (at.Size a b d e) h1 h2 h3 h4 h5 h6 h7 h8 h9 h10 h11 h12 h13 = absurd (h7 a b d e refl)
in_statement v t xs s (at.Sized a b d) h1 h2 h3 h4 h5 h6 h7 h8 h9 h10 h11 h12 h13 = absurd (h8 a b d refl)
in_statement v t xs s (at.Value a b d) h1 h2 h3 h4 h5 h6 h7 h8 h9 h10 h11 h12 h13 = absurd (h9 a b d refl)
in_statement v t xs s (at.Values a b d e) h1 h2 h3 h4 h5 h6 h7 h8 h9 h10 h11 h12 h13 = absurd (h10 a b d e refl)
in_statement v t xs s (at.Valued a b d) h1 h2 h3 h4 h5 h6 h7 h8 h9 h10 h11 h12 h13 = absurd (h11 a b d refl)
in_statement v t xs s (at.Heading a b d) h1 h2 h3 h4 h5 h6 h7 h8 h9 h10 h11 h12 h13 = absurd (h12 a b d refl)
in_statement v t xs s (at.Headed a b) h1 h2 h3 h4 h5 h6 h7 h8 h9 h10 h11 h12 h13 = absurd (h13 a b refl)
in_statement v t xs s _ h1 h2 h3 h4 h5 h6 h7 h8 h9 h10 h11 h12 h13 = refl

pub returns-in_default : goal.returns-in_default
returns-in_default c =
    let d = c.in_default in
    subst (λ m. IfOk c.step_inside.result (λ r. machine.StepGives r c.step_inside.new.read m))
    (in_statement (word_of c.args.token.now) c.args.token.now c.args.read.now.items (reverse c.args.read.now.stack) c.args.position d.not-Top d.not-Static d.not-Typed d.not-First d.not-Next d.not-Named d.not-Size d.not-Sized d.not-Value d.not-Values d.not-Valued d.not-Heading d.not-Headed)
    c.step_inside.ensures
