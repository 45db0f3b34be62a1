-- Closing statements that are whole keeps what completes the tokens read.
use Rattle.std.proofs.Common.{◌≡◌, ℕ, ◌+◌, Bool, true, false, List, [], ◌∷◌, length, Some, None, refl, ◌∙◌, arith}
use Rattle.std.proofs.lemmas.Bool.{false≢true}
use Rattle.token_list.specs.declared.Token.{Token}
use Rattle.c_tree.specs.declared.stmt.Stmt.{Stmt}
use Rattle.c_tree.specs.declared.stmt.Stmt.TheVariants as tree
use Rattle.c_tree.specs.declared.program.Item.{Item}
use Rattle.c_tree.specs.declared.program.Program.{Program}
use Rattle.c_stmt.specs.declared.state.Frame.{Frame}
use Rattle.c_stmt.specs.declared.state.Frame.TheVariants.{InFunction, InBlock, AfterLabel, AfterIf, AfterElse, AfterWhile, AfterDo, AfterFor}
use Rattle.c_stmt.specs.Statements.{ends_open}
use Rattle.c_stmt.specs.Machine.{Held, close}
use Rattle.c_stmt.proofs.Ends.{ends-label, ends-else, ends-while, ends-for}
use Rattle.c_stmt.proofs.Wanting.{Goes, label_goes, if_goes, last_goes, while_goes, for_goes, Fits, in_function, in_block, after_label, after_if, after_else, after_while, after_do, after_for}

-- what is closed
pub record Closed (y : Stmt) (n : ℕ) (s : List Frame) (other : Bool) (h : Held) : Type 0 where
  pub room : ℕ
  pub fits : Fits room h.stack
  pub shut : other ≡ true → ends_open h.tree ≡ false
  pub leads : (xs : List Item) (g : Program) (us : List Token) → Goes xs g room h.stack h.tree us → Goes xs g n s y us

stays : {n : ℕ} {y : Stmt} {s : List Frame} (other : Bool) → Fits n s → (other ≡ true → ends_open y ≡ false) → Closed y n s other (record { tree = y; stack = s })
stays {n = n} other h shut = record { room = n; fits = h; shut = shut; leads = λ xs g us k. k }

further : {n m : ℕ} {y z : Stmt} {s r : List Frame} {other : Bool} {h : Held} → ((xs : List Item) (g : Program) (us : List Token) → Goes xs g m r z us → Goes xs g n s y us) → Closed z m r other h → Closed y n s other h
further lead c = record { room = c.room; fits = c.fits; shut = c.shut; leads = λ xs g us k. lead xs g us (c.leads xs g us k) }

pub closed : {n : ℕ} (s : List Frame) (other : Bool) (y : Stmt) → Fits n s → (other ≡ true → ends_open y ≡ false) → Closed y n s other (close other y s)
closed (InFunction f ∷ []) other y in_function shut = stays other in_function shut
closed [] other y h shut = elim h [ ]
closed (InFunction f ∷ (k ∷ s)) other y h shut = elim h [ ]
closed (InBlock p zs ∷ s) other y (in_block h) shut = stays other (in_block h) shut
closed (AfterLabel p c ∷ s) other y (after_label h) shut = further (λ xs g us k. label_goes k) (closed s other (tree.Label p c y) h (λ is. ends-label p c y ∙ shut is))
closed (AfterIf p x ∷ s) true y (after_if h) shut = stays true (after_if h) shut
closed (AfterIf p x ∷ s) false y (after_if h) shut = further (λ xs g us k. if_goes k) (closed s false (tree.If p x y None) h (λ is. absurd (false≢true is)))
closed (AfterElse p x z ∷ s) other y (after_else h) shut = further (λ xs g us k. last_goes k) (closed s other (tree.If p x z (Some y)) h (λ is. ends-else p x z y ∙ shut is))
closed (AfterWhile p x ∷ s) other y (after_while h) shut = further (λ xs g us k. while_goes k) (closed s other (tree.While p x y) h (λ is. ends-while p x y ∙ shut is))
closed (AfterDo p ∷ s) other y (after_do h) shut = stays other (after_do h) shut
closed (AfterFor p b x z ∷ s) other y (after_for h) shut = further (λ xs g us k. for_goes k) (closed s other (tree.For p b x z y) h (λ is. ends-for p b x z y ∙ shut is))

-- the number of nodes that fit
pub room : {n : ℕ} {s : List Frame} → Fits n s → n + length s ≡ 199
room in_function = refl
room (in_block h) = omega (arith, room h)
room (after_label h) = omega (arith, room h)
room (after_if h) = omega (arith, room h)
room (after_else h) = omega (arith, room h)
room (after_while h) = omega (arith, room h)
room (after_do h) = omega (arith, room h)
room (after_for h) = omega (arith, room h)
