-- What is emitted for cells, operators and built-in calls is laid.
use Rattle.std.proofs.Common.{◌≡◌, ℕ, zero, suc, ◌+◌, ◌<◌, ◌≤◌, List, [], ◌∷◌, ◌++◌, Bool, true, false, Option, Some, None, refl, sym, ◌∙◌, subst, add-zero, arith}
use Rattle.std.specs.Prelude.{cond, ◌||◌}
use Rattle.std.specs.Str.{bytes_eq}
use Rattle.dg_base.specs.declared.Place.{Place}
use Rattle.dg_base.specs.declared.operators.Op.{Op}
use Rattle.dg_base.specs.declared.operators.Op.TheVariants as op
use Rattle.dg_base.specs.Values.{arity}
use Rattle.c_tree.specs.declared.expr.UnaryOp.{UnaryOp}
use Rattle.c_tree.specs.declared.expr.UnaryOp.TheVariants as unary
use Rattle.c_tree.specs.declared.expr.BinaryOp.{BinaryOp}
use Rattle.c_tree.specs.declared.expr.BinaryOp.TheVariants as binary
use Rattle.c_tree.specs.Operators.{by_type, binary_op, divides, unary_op}
use Rattle.c_rules.specs.Names.{Name}
use Rattle.run_model.specs.declared.state.Shared.{Shared}
use Rattle.run_model.specs.Names.{find, last_named}
use Rattle.run_model.specs.Cells.{shared_named}
use Rattle.flat_prog.specs.declared.FlatAct.TheVariants as act
use Rattle.emit_steps.specs.declared.state.Variable.{Variable}
use Rattle.emit_steps.specs.declared.state.Cell.{Cell}
use Rattle.emit_steps.specs.declared.state.Cell.TheVariants.{Own, Common}
use Rattle.emit_steps.specs.Emitting.{Emitted, Emit, pure, nothing, fresh, number, set, unless, fail, stop}
use Rattle.emit_steps.specs.Pieces.{Piece, read_cell, read_cells, read, write_cell, write, cell, cells_where, cells_at, first_cell, at_index, no_cell, in_shared, last_of, variable_named, in_scope, find_cells, value, lvalue, test_divisor, operate, typed}
use Rattle.emit_steps.proofs.Growth.{Each, each_append, each_map}
use Rattle.emit_steps.proofs.Running.{Among}
use Rattle.emit_steps.proofs.VariableCells.{among_there}
use Rattle.emit_steps.proofs.Laying.{Site, Out, In}
use Rattle.emit_steps.proofs.Shaping.{Spare, Laid, Since, Does, bind, since_then, does_pure, does_cond, Any, Low, Fresh, Guard, low_later, spare_later, guard_later, fresh_guard, fresh_spare, fresh_later, does_fresh, does_number, does_emit, does_set, two_low, does_copy, does_unless, does_fail, does_stop}

-- ---- operators

pub one_argument : (o : UnaryOp) → arity (unary_op o) ≡ 1
one_argument unary.LogicNot = refl
one_argument unary.BitNot = refl
one_argument unary.Negate = refl
one_argument unary.Plus = refl

typed_two : (b : Bool) (x y : Op) → arity x ≡ 2 → arity y ≡ 2 → arity (by_type b x y) ≡ 2
typed_two true x y h k = h
typed_two false x y h k = k

pub two_arguments : (o : BinaryOp) (u w : Bool) → arity (binary_op o u w) ≡ 2
two_arguments binary.LogicOr u w = refl
two_arguments binary.LogicAnd u w = refl
two_arguments binary.BitOr u w = refl
two_arguments binary.BitXor u w = refl
two_arguments binary.BitAnd u w = refl
two_arguments binary.Equal u w = refl
two_arguments binary.NotEqual u w = refl
two_arguments binary.Less u w = typed_two (u || w) op.LessUint op.LessInt refl refl
two_arguments binary.Greater u w = typed_two (u || w) op.GreaterUint op.GreaterInt refl refl
two_arguments binary.AtMost u w = typed_two (u || w) op.AtMostUint op.AtMostInt refl refl
two_arguments binary.AtLeast u w = typed_two (u || w) op.AtLeastUint op.AtLeastInt refl refl
two_arguments binary.ShiftLeft u w = refl
two_arguments binary.ShiftRight u w = typed_two u op.ShiftRightUint op.ShiftRightInt refl refl
two_arguments binary.Plus u w = refl
two_arguments binary.Minus u w = refl
two_arguments binary.Times u w = refl
two_arguments binary.Divide u w = typed_two (u || w) op.DivideUint op.DivideInt refl refl
two_arguments binary.Remainder u w = typed_two (u || w) op.RemainderUint op.RemainderInt refl refl

-- the depth at a site
abbrev pub Deep : Site → ℕ → Type 0
Deep (Out rs) d = d ≡ 0
Deep (In g k rs) d = d ≡ 0 → ⊥

-- the shared variables lie in the shared cells
abbrev pub SharedFit : ℕ → List Shared → Type 0
SharedFit cells vs = Each (λ (v : Shared). v.first + v.count ≤ cells) vs

shared_here : (cells : ℕ) (v w : Shared) (rest : Option Shared) (b : Bool) → v.first + v.count ≤ cells → (rest ≡ Some w → w.first + w.count ≤ cells) → cond b (Some v) rest ≡ Some w → w.first + w.count ≤ cells
shared_here cells v w rest true h later e = let same : v ≡ w = (let whole : ◌≡◌ {A = Option Shared} (Some v) (Some w) = e in cc) in subst (λ (x : Shared). x.first + x.count ≤ cells) same h
shared_here cells v w rest false h later e = later e

shared_found : (cells : ℕ) (vs : List Shared) (name : Name) (v : Shared) → SharedFit cells vs → shared_named vs name ≡ Some v → v.first + v.count ≤ cells
shared_found cells [] name v h e = absurd (let off : ◌≡◌ {A = Option Shared} None (Some v) = e in cc)
shared_found cells (w ∷ vs) name v h e = shared_here cells w v (shared_named vs name) (bytes_eq w.name name) h.0 (shared_found cells vs name v h.1) e

variable_at : (vs : List Variable) (o : Option ℕ) (v : Variable) (k : ℕ) → last_of vs o ≡ Some v → k < v.count → Among vs (v.first + k)
variable_at vs None v k e lt = absurd (let off : ◌≡◌ {A = Option Variable} None (Some v) = e in cc)
variable_at vs (Some n) v k e lt = among_there vs n k v e lt

module _ (cells first : ℕ) where
  -- ---- cells

  abbrev pub CellFits : Site → Emitted → Cell → Type 0
  CellFits s e (Own g l) = Guard cells first s g e × Spare s e.next l
  CellFits s e (Common g c) = Guard cells first s g e × (c < cells)

  abbrev pub Cells : Site → List Cell → Emitted → Type 0
  Cells s cs e = Each (CellFits s e) cs

  cell_later : (s : Site) (e f : Emitted) (c : Cell) → Since cells first s e f → CellFits s e c → CellFits s f c
  cell_later s e f (Own g l) h x = (guard_later cells first s s e f g h x.0, spare_later cells first s s e f l h x.1)
  cell_later s e f (Common g c) h x = (guard_later cells first s s e f g h x.0, x.1)

  pub cells_later : (s : Site) (e f : Emitted) (cs : List Cell) → Since cells first s e f → Cells s cs e → Cells s cs f
  cells_later s e f cs h x = each_map (CellFits s e) (CellFits s f) (λ c y. cell_later s e f c h y) cs x

  does_read_cell : (s : Site) (e : Emitted) (v : ℕ) (c : Cell) → Laid cells first s e → CellFits s e c → Spare s e.next v → Does cells first s e (read_cell v c) (Any cells first)
  does_read_cell s e v (Own g l) h x spare = does_copy cells first s e g v l h x.0 spare x.1.used
  does_read_cell s e v (Common g c) h x spare = does_emit cells first s e g (act.Read c v) h x.0 tt (x.1, spare.used) spare

  does_read_cells : (s : Site) (e : Emitted) (v : ℕ) (cs : List Cell) → Laid cells first s e → Cells s cs e → Spare s e.next v → Does cells first s e (read_cells v cs) (Any cells first)
  does_read_cells s e v [] h x spare = does_pure cells first (Any cells first) s e tt h tt
  does_read_cells s e v (c ∷ cs) h x spare =
      bind cells first s e (read_cell v c) _ (does_read_cell s e v c h x.0 spare) (λ _ f since _.
      does_read_cells s f v cs since.laid (cells_later s e f cs since x.1) (spare_later cells first s s e f v since spare))

  pub does_read : (s : Site) (e : Emitted) (cs : List Cell) → Laid cells first s e → Cells s cs e → Does cells first s e (read cs) (Fresh cells first e)
  does_read s e cs h x =
      bind cells first s e fresh _ (does_fresh cells first s e h) (λ v f since new.
      bind cells first s f (read_cells v cs) (λ _. pure v) (does_read_cells s f v cs since.laid (cells_later s e f cs since x) (fresh_spare cells first s e f v h new)) (λ _ f2 since2 _.
      does_pure cells first (Fresh cells first e) s f2 v since2.laid (fresh_later cells first s e f f2 v since2 new)))

  does_write_cell : (s : Site) (e : Emitted) (v : ℕ) (c : Cell) → Laid cells first s e → CellFits s e c → v < e.next → Does cells first s e (write_cell v c) (Any cells first)
  does_write_cell s e v (Own g l) h x low = does_copy cells first s e g l v h x.0 x.1 low
  does_write_cell s e v (Common g c) h x low = does_emit cells first s e g (act.Write c v) h x.0 tt (x.1, low) tt

  pub does_write : (s : Site) (e : Emitted) (cs : List Cell) (v : ℕ) → Laid cells first s e → Cells s cs e → v < e.next → Does cells first s e (write cs v) (Any cells first)
  does_write s e [] v h x low = does_pure cells first (Any cells first) s e tt h tt
  does_write s e (c ∷ cs) v h x low =
      bind cells first s e (write_cell v c) _ (does_write_cell s e v c h x.0 low) (λ _ f since _.
      does_write s f cs v since.laid (cells_later s e f cs since x.1) (low_later cells first s e f v since low))

  -- the cells of a variable from one on, so many
  abbrev pub Room : Bool → Site → Emitted → ℕ → ℕ → Type 0
  Room true s e n m = (k : ℕ) → k < m → Spare s e.next (n + k)
  Room false s e n m = (k : ℕ) → k < m → n + k < cells

  room_later : (own : Bool) (s : Site) (e f : Emitted) (n m : ℕ) → Since cells first s e f → Room own s e n m → Room own s f n m
  room_later true s e f n m h x = λ k lt. spare_later cells first s s e f (n + k) h (x k lt)
  room_later false s e f n m h x = x

  cell_fits : (own : Bool) (s : Site) (e : Emitted) (g n m k : ℕ) → Guard cells first s g e → Room own s e n m → k < m → CellFits s e (cell own g (n + k))
  cell_fits true s e g n m k guard x lt = (guard, x k lt)
  cell_fits false s e g n m k guard x lt = (guard, x k lt)

  does_where :
      (s : Site) (e : Emitted) (done : List Cell) (own : Bool) (g i n j m r : ℕ) → j + m ≡ r → Laid cells first s e → Guard cells first s g e → i < e.next → Room own s e n r → Cells s done e → Does cells first s e (cells_where done own g i n j m) (Cells s)
  does_where s e done own g i n j zero r sum h guard low room fit = does_pure cells first (Cells s) s e done h fit
  does_where s e done own g i n j (suc m) r sum h guard low room fit =
      bind cells first s e (number j) _ (does_number cells first s e j h) (λ c f since clow.
      bind cells first s f (set g op.Equal (i ∷ c ∷ [])) _ (does_set cells first s f g op.Equal (i ∷ c ∷ []) since.laid (guard_later cells first s s e f g since guard) refl (two_low cells first f.next i c (low_later cells first s e f i since low) clow)) (λ q f2 since2 new.
      let both : Since cells first s e f2 = since_then cells first s s e f f2 since since2 in
      does_where s f2 (done ++ cell own q (n + j) ∷ []) own g i n (j + 1) m r (omega arith) since2.laid (guard_later cells first s s e f2 g both guard) (low_later cells first s e f2 i both low) (room_later own s e f2 n r both room)
      (each_append (CellFits s f2) done (cell own q (n + j) ∷ []) (cells_later s e f2 done both fit) (cell_fits own s f2 q n r j (fresh_guard cells first s f f2 q since.laid new) (room_later own s e f2 n r both room) (omega arith), tt))))

  does_at : (s : Site) (e : Emitted) (p : Place) (own : Bool) (g n m i : ℕ) → Laid cells first s e → Guard cells first s g e → i < e.next → Room own s e n m → Does cells first s e (cells_at p own g n m i) (Cells s)
  does_at s e p own g n m i h guard low room =
      bind cells first s e (number m) _ (does_number cells first s e m h) (λ c f since clow.
      let g1 : Guard cells first s g f = guard_later cells first s s e f g since guard in
      bind cells first s f (set g op.LessUint (i ∷ c ∷ [])) _ (does_set cells first s f g op.LessUint (i ∷ c ∷ []) since.laid g1 refl (two_low cells first f.next i c (low_later cells first s e f i since low) clow)) (λ ok f2 since2 ok_new.
      let g2 : Guard cells first s g f2 = guard_later cells first s s f f2 g since2 g1 in
      bind cells first s f2 (unless g ok) _ (does_unless cells first s f2 g ok since2.laid g2 ok_new.used) (λ bad f3 since3 bad_new.
      bind cells first s f3 (fail bad p) _ (does_fail cells first s f3 bad p since3.laid (fresh_guard cells first s f2 f3 bad since2.laid bad_new)) (λ _ f4 since4 _.
      let all : Since cells first s e f4 = since_then cells first s s e f2 f4 (since_then cells first s s e f f2 since since2) (since_then cells first s s f2 f3 f4 since3 since4) in
      does_where s f4 [] own g i n 0 m m (omega arith) since4.laid (guard_later cells first s s e f4 g all guard) (low_later cells first s e f4 i all low) (room_later own s e f4 n m all room) tt))))

  does_first : (s : Site) (e : Emitted) (p : Place) (own : Bool) (g n m : ℕ) → Laid cells first s e → Guard cells first s g e → Room own s e n m → Does cells first s e (first_cell p own g n m) (Cells s)
  does_first s e p own g n zero h guard room = bind cells first s e (fail g p) _ (does_fail cells first s e g p h guard) (λ _ f since _. does_pure cells first (Cells s) s f [] since.laid tt)
  does_first s e p own g n (suc m) h guard room = does_pure cells first (Cells s) s e (cell own g n ∷ []) h (subst (λ l. CellFits s e (cell own g l)) (add-zero n) (cell_fits own s e g n (suc m) 0 guard room (omega arith)), tt)

  does_index : (s : Site) (e : Emitted) (p : Place) (own : Bool) (g n m : ℕ) (i : Option ℕ) → Laid cells first s e → Guard cells first s g e → ((l : ℕ) → i ≡ Some l → l < e.next) → Room own s e n m → Does cells first s e (at_index p own g n m i) (Cells s)
  does_index s e p own g n m None h guard low room = does_first s e p own g n m h guard room
  does_index s e p own g n m (Some i) h guard low room = does_at s e p own g n m i h guard (low i refl) room

  pub does_no_cell : (s : Site) (e : Emitted) (g : ℕ) → Laid cells first s e → Guard cells first s g e → Does cells first s e (no_cell g) (Cells s)
  does_no_cell s e g h guard = bind cells first s e (stop g) _ (does_stop cells first s e g h guard) (λ _ f since _. does_pure cells first (Cells s) s f [] since.laid tt)

  does_shared :
      (s : Site) (e : Emitted) (p : Place) (g : ℕ) (i : Option ℕ) (o : Option Shared) → Laid cells first s e → Guard cells first s g e → ((l : ℕ) → i ≡ Some l → l < e.next) → ((v : Shared) → o ≡ Some v → v.first + v.count ≤ cells) →
      Does cells first s e (in_shared p g i o) (Cells s)
  does_shared s e p g i None h guard low room = does_no_cell s e g h guard
  does_shared s e p g i (Some v) h guard low room = does_index s e p false g v.first v.count i h guard low (λ k lt. let le : v.first + v.count ≤ cells = room v refl in omega arith)

  does_variable :
      (s : Site) (e : Emitted) (shared : List Shared) (p : Place) (name : Name) (g : ℕ) (i : Option ℕ) (o : Option Variable) → SharedFit cells shared → Laid cells first s e → Guard cells first s g e → ((l : ℕ) → i ≡ Some l → l < e.next) →
      ((v : Variable) (k : ℕ) → o ≡ Some v → k < v.count → Spare s e.next (v.first + k)) → Does cells first s e (in_scope shared p name g i o) (Cells s)
  does_variable s e shared p name g i None fit h guard low room = does_shared s e p g i (shared_named shared name) h guard low (λ v is. shared_found cells shared name v fit is)
  does_variable s e shared p name g i (Some v) fit h guard low room = does_index s e p true g v.first v.count i h guard low (λ k lt. room v k refl lt)

  pub does_find :
      (s : Site) (e : Emitted) (shared : List Shared) (p : Place) (name : Name) (g : ℕ) (i : Option ℕ) → SharedFit cells shared → Laid cells first s e → Guard cells first s g e → ((l : ℕ) → i ≡ Some l → l < e.next) →
      Does cells first s e (find_cells shared p name g i) (Cells s)
  does_find s e shared p name g i fit h guard low =
      let d : Does cells first s e (in_scope shared p name g i (variable_named e.scope name)) (Cells s) =
      does_variable s e shared p name g i (variable_named e.scope name) fit h guard low (λ v k is lt. h.scope (v.first + k) (variable_at e.scope (last_named (λ (v : Variable). v.name) 0 e.scope name) v k is lt))
      in record { since = d.since; gives = d.gives }

  -- ---- pieces

  pub record Shaped (m : Piece) : Type 0 where
    pub run : (s : Site) (e : Emitted) (g : ℕ) → Laid cells first s e → Deep s e.depth → Guard cells first s g e → Does cells first s e (m.run g) (Low cells first)
    pub find : (s : Site) (e : Emitted) (g : ℕ) → Laid cells first s e → Deep s e.depth → Guard cells first s g e → Does cells first s e (m.find g) (Cells s)

  pub deep_later : (q s : Site) (e f : Emitted) → Since cells first q e f → Deep s e.depth → Deep s f.depth
  deep_later q (Out rs) e f h deep = h.depth ∙ deep
  deep_later q (In g k rs) e f h deep = λ z. deep (sym h.depth ∙ z)

  pub fresh_low : {m : Emit ℕ} (s : Site) (e : Emitted) → Does cells first s e m (Fresh cells first e) → Does cells first s e m (Low cells first)
  fresh_low {m = m} s e d = record { since = d.since; gives = d.gives.used }

  pub shaped_value : (u : List Variable → Bool) (run : ℕ → Emit ℕ) → ((s : Site) (e : Emitted) (g : ℕ) → Laid cells first s e → Deep s e.depth → Guard cells first s g e → Does cells first s e (run g) (Low cells first)) → Shaped (value u run)
  shaped_value u run h = record { run = h; find = λ s e g laid deep guard. does_no_cell s e g laid guard }

  pub shaped_lvalue : (n : Option Name) (u : List Variable → Bool) (find : ℕ → Emit (List Cell)) → ((s : Site) (e : Emitted) (g : ℕ) → Laid cells first s e → Deep s e.depth → Guard cells first s g e → Does cells first s e (find g) (Cells s)) → Shaped (lvalue n u find)
  shaped_lvalue n u find h = record {
    run = λ s e g laid deep guard. bind cells first s e (find g) read (h s e g laid deep guard) (λ cs f since fit. fresh_low s f (does_read s f cs since.laid fit));
    find = h;
  }

  -- ---- operators

  does_divisor : (s : Site) (e : Emitted) (p : Place) (o : BinaryOp) (g y : ℕ) → Laid cells first s e → Guard cells first s g e → y < e.next → Does cells first s e (test_divisor p o g y) (Any cells first)
  does_divisor s e p o g y h guard low =
      does_cond cells first s e (divides o) _ nothing
      (bind cells first s e (unless g y) (λ z. fail z p) (does_unless cells first s e g y h guard low) (λ z f since new. does_fail cells first s f z p since.laid (fresh_guard cells first s e f z h new)))
      (does_pure cells first (Any cells first) s e tt h tt)

  pub does_operate : (s : Site) (e : Emitted) (p : Place) (o : BinaryOp) (u w : Bool) (g x y : ℕ) → Laid cells first s e → Guard cells first s g e → x < e.next → y < e.next → Does cells first s e (operate p o u w g x y) (Low cells first)
  does_operate s e p o u w g x y h guard xlow ylow =
      bind cells first s e (test_divisor p o g y) _ (does_divisor s e p o g y h guard ylow) (λ _ f since _.
      fresh_low s f (does_set cells first s f g (binary_op o u w) (x ∷ y ∷ []) since.laid (guard_later cells first s s e f g since guard) (sym (two_arguments o u w)) (two_low cells first f.next x y (low_later cells first s e f x since xlow) (low_later cells first s e f y since ylow))))

  pub does_typed : (s : Site) (e : Emitted) (p : Place) (o : BinaryOp) (l r : Piece) (g x y : ℕ) → Laid cells first s e → Guard cells first s g e → x < e.next → y < e.next → Does cells first s e (typed p o l r g x y) (Low cells first)
  does_typed s e p o l r g x y h guard xlow ylow = let d : Does cells first s e (operate p o (l.unsigned e.scope) (r.unsigned e.scope) g x y) (Low cells first) = does_operate s e p o (l.unsigned e.scope) (r.unsigned e.scope) g x y h guard xlow ylow in record { since = d.since; gives = d.gives }
