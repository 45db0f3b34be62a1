-- A step reads one line more.
use Rattle.std.proofs.Common.{◌≡◌, ℕ, suc, zero, ◌+◌, ◌-◌, ◌<◌, ◌≤◌, Bool, true, false, ◌&&◌, cond, eqb, List, [], ◌∷◌, ◌++◌, map, length, Option, Some, None, refl, ap, sym, ◌∙◌, subst, append_assoc, append-nil, length-append, arith, eqb-true}
use Rattle.std.specs.Prelude.{codes, slice_get, flat_map}
use Rattle.std.specs.List.{AllByRecursion}
use Rattle.std.proofs.lemmas.Bool.{and_parts}
use Rattle.axiom_model.specs.declared.Event.{Event}
use Rattle.axiom_model.specs.declared.RfPair.{RfPair}
use Rattle.axiom_model.specs.declared.ThreadPart.{ThreadPart}
use Rattle.axiom_model.specs.declared.Candidate.{Candidate}
use Rattle.witness_text.specs.declared.lines.ThreadHead.{ThreadHead}
use Rattle.witness_text.specs.declared.reading.Stage.{Stage}
use Rattle.witness_text.specs.declared.reading.Stage.TheVariants.{Head, Between, Script, End}
use Rattle.witness_text.specs.declared.reading.Reading.{Reading}
use Rattle.witness_text.specs.Witness.{co_line, co_lines, first_line, last_line, name_at, rf_line, script_line, some_name, thread_line, thread_lines}
use Rattle.witness_text.specs.Spelling.{HasEventNumbers, HasPairNumbers, HasThreadNumbers, handle_before, is_action, reader_before}
use Rattle.line_text.specs.Words.{given, strip}
use Rattle.witness_text.specs.Lines.{head_in, source_in, order_in, script_in}
use Rattle.std.specs.Prelude.{bytes_eq}
use Rattle.witness_text.specs.Machine.{begun, between, by_order, by_source, by_thread, is_empty, last_before, may_follow, on_end, on_head, on_order, on_script, on_source, on_thread, part_of, step, step_at, with_order, with_pair, with_script}
use Rattle.line_text.proofs.Bytes.{strip_from}
use Rattle.std.proofs.lemmas.Slice.Eq.{bytes_eq-Decides}
use Rattle.witness_text.proofs.Spelled.{head_from, order_from, script_from, source_from}
use Rattle.witness_text.proofs.Rising.{rises_push}
use Rattle.line_text.proofs.Texts.{all_push}
use Rattle.witness_text.proofs.Holding.{Holds, co_lines_append, is_empty_nil, state, written_at}

flat_push : {A B : Type 0} (f : A → List B) (xs : List A) (y : A) → flat_map f (xs ++ y ∷ []) ≡ flat_map f xs ++ f y
flat_push f [] y = append-nil (f y)
flat_push f (x ∷ xs) y = ap (λ l. f x ++ l) (flat_push f xs y) ∙ sym (append_assoc (f x) (flat_map f xs) (f y))

map_push : {A B : Type 0} (f : A → B) (xs : List A) (y : A) → map f (xs ++ y ∷ []) ≡ map f xs ++ f y ∷ []
map_push f [] y = refl
map_push f (x ∷ xs) y = ap (λ l. f x ∷ l) (map_push f xs y)

-- the first line
head_holds : (fs cs lines : List (List ℕ)) (c : Candidate) (line : List ℕ) (s : Reading) → Holds fs cs lines (state Head c) → on_head c line ≡ Some s → Holds fs cs (lines ++ line ∷ []) s
head_holds fs cs lines c line s h = split (bytes_eq line first_line) refl
  where
    split : (b : Bool) → bytes_eq line first_line ≡ b → cond b (Some (state Between c)) None ≡ Some s → Holds fs cs (lines ++ line ∷ []) s
    split false k e = cc
    split true k e =
        let same : state Between c ≡ s = cc in
        let text = (bytes_eq-Decides line first_line).0 k in
        let all : lines ++ line ∷ [] ≡ first_line ∷ [] = ap (λ l. l ++ line ∷ []) h.lines_are ∙ ap (λ l. l ∷ []) text in
        subst (Holds fs cs (lines ++ line ∷ [])) same (record { part = h.part; stage = tt; lines_are = all ∙ ap (written_at fs cs Between) (sym h.stage) })

-- a thread's first line
thread_holds : (fs cs lines : List (List ℕ)) (c : Candidate) (text line : List ℕ) (s : Reading) → Holds fs cs lines (state Between c) → line ≡ codes "thread " ++ text
    → on_thread fs c text ≡ Some s → Holds fs cs (lines ++ line ∷ []) s
thread_holds fs cs lines c text line s h front = by_empty (is_empty c.rf && is_empty c.co) refl
  where
    by_follow : (rf : c.rf ≡ []) (co : c.co ≡ []) (head : ThreadHead) → head_in fs text ≡ Some head → (b : Bool) → may_follow handle_before c.threads (part_of head []) ≡ b
        → cond b (Some (state (Script head) c)) None ≡ Some s → Holds fs cs (lines ++ line ∷ []) s
    by_follow rf co head k false g e = cc
    by_follow rf co head k true g e =
        let same : state (Script head) c ≡ s = cc in
        let t = head_from fs text head k in
        let threads = flat_map (thread_lines fs) c.threads in
        let line_is : line ≡ thread_line fs head.handle head.function head.arg = front ∙ ap (λ l. codes "thread " ++ l) t.spelled in
        let before : lines ≡ first_line ∷ threads =
        h.lines_are ∙ (ap (λ r. first_line ∷ (threads ++ (map rf_line r ++ co_lines cs 0 c.co))) rf ∙ (ap (λ o. first_line ∷ (threads ++ co_lines cs 0 o)) co ∙ ap (λ l. first_line ∷ l) (append-nil threads))) in
        let all : lines ++ line ∷ [] ≡ first_line ∷ (threads ++ thread_line fs head.handle head.function head.arg ∷ []) =
        ap (λ l. l ++ line ∷ []) before ∙ ap (λ l. first_line ∷ (threads ++ l ∷ [])) line_is in
        subst (Holds fs cs (lines ++ line ∷ [])) same
        (record { part = h.part; stage = record { rf = rf; co = co; handle = t.handle; function = t.function; arg = t.arg; known = t.known; follows = g }; lines_are = all })

    by_head : (rf : c.rf ≡ []) (co : c.co ≡ []) (o : Option ThreadHead) → head_in fs text ≡ o → given o (begun c) ≡ Some s → Holds fs cs (lines ++ line ∷ []) s
    by_head rf co None k e = cc
    by_head rf co (Some head) k e = by_follow rf co head k (may_follow handle_before c.threads (part_of head [])) refl e

    by_empty : (b : Bool) → (is_empty c.rf && is_empty c.co) ≡ b → cond b (given (head_in fs text) (begun c)) None ≡ Some s → Holds fs cs (lines ++ line ∷ []) s
    by_empty false k e = cc
    by_empty true k e =
        let p = and_parts (is_empty c.rf) (is_empty c.co) k in
        by_head (is_empty_nil c.rf p.0) (is_empty_nil c.co p.1) (head_in fs text) refl e

pub follows_same : (o : Option ThreadPart) (h : ThreadHead) (script : List ℕ) → last_before handle_before o (part_of h []) ≡ last_before handle_before o (part_of h script)
follows_same None h script = refl
follows_same (Some x) h script = refl

-- a thread's script
script_holds : (fs cs lines : List (List ℕ)) (c : Candidate) (head : ThreadHead) (line : List ℕ) (s : Reading) → Holds fs cs lines (state (Script head) c) → on_script c head line ≡ Some s
    → Holds fs cs (lines ++ line ∷ []) s
script_holds fs cs lines c head line s h = by_script (script_in line) refl
  where
    by_script : (o : Option (List ℕ)) → script_in line ≡ o → given o (with_script c head) ≡ Some s → Holds fs cs (lines ++ line ∷ []) s
    by_script None k e = cc
    by_script (Some script) k e =
        let p = part_of head script in
        let next : Candidate = record c { threads = c.threads ++ p ∷ [] } in
        let same : state Between next ≡ s = cc in
        let t = script_from line script k in
        let threads = flat_map (thread_lines fs) c.threads in
        let first = thread_line fs head.handle head.function head.arg in
        let before : lines ++ line ∷ [] ≡ first_line ∷ ((threads ++ first ∷ []) ++ script_line script ∷ []) = ap (λ l. l ++ line ∷ []) h.lines_are ∙ ap (λ l. first_line ∷ ((threads ++ first ∷ []) ++ l ∷ [])) t.text in
        let joined : (threads ++ first ∷ []) ++ script_line script ∷ [] ≡ flat_map (thread_lines fs) next.threads =
        append_assoc threads (first ∷ []) (script_line script ∷ []) ∙ sym (flat_push (thread_lines fs) c.threads p) in
        let whole : first_line ∷ flat_map (thread_lines fs) next.threads ≡ written_at fs cs Between next =
        ap (λ l. first_line ∷ l) (sym (append-nil (flat_map (thread_lines fs) next.threads)))
        ∙ (ap (λ o. first_line ∷ (flat_map (thread_lines fs) next.threads ++ co_lines cs 0 o)) (sym h.stage.co) ∙ ap (λ r. first_line ∷ (flat_map (thread_lines fs) next.threads ++ (map rf_line r ++ co_lines cs 0 c.co))) (sym h.stage.rf)) in
        let follows = sym (follows_same (slice_get c.threads (length c.threads - 1)) head script) ∙ h.stage.follows in
        subst (Holds fs cs (lines ++ line ∷ [])) same (record {
          part = record {
            threads = all_push HasThreadNumbers c.threads p h.part.threads (record { handle = h.stage.handle; function = h.stage.function; arg = h.stage.arg; script = t.numbers });
            rf = h.part.rf;
            co = h.part.co;
            known = all_push (λ (q : ThreadPart). q.function < length fs) c.threads p h.part.known h.stage.known;
            rising_handles = rises_push handle_before c.threads p h.part.rising_handles follows;
            actions = h.part.actions;
            rising_readers = h.part.rising_readers;
            orders = h.part.orders;
          };
          stage = tt;
          lines_are = before ∙ (ap (λ l. first_line ∷ l) joined ∙ whole);
        })

-- a pair
source_holds : (fs cs lines : List (List ℕ)) (c : Candidate) (text line : List ℕ) (s : Reading) → Holds fs cs lines (state Between c) → line ≡ codes "rf " ++ text → on_source c text ≡ Some s
    → Holds fs cs (lines ++ line ∷ []) s
source_holds fs cs lines c text line s h front = by_empty (is_empty c.co) refl
  where
    by_follow : (co : c.co ≡ []) (p : RfPair) → source_in text ≡ Some p → (b : Bool) → may_follow reader_before c.rf p ≡ b
        → cond b (Some (state Between (record c { rf = c.rf ++ p ∷ [] }))) None ≡ Some s → Holds fs cs (lines ++ line ∷ []) s
    by_follow co p k false g e = cc
    by_follow co p k true g e =
        let next : Candidate = record c { rf = c.rf ++ p ∷ [] } in
        let same : state Between next ≡ s = cc in
        let t = source_from text p k in
        let threads = flat_map (thread_lines fs) c.threads in
        let pairs = map rf_line c.rf in
        let line_is : line ≡ rf_line p = front ∙ ap (λ l. codes "rf " ++ l) t.spelled in
        let before : lines ≡ first_line ∷ (threads ++ pairs) = h.lines_are ∙ (ap (λ o. first_line ∷ (threads ++ (pairs ++ co_lines cs 0 o))) co ∙ ap (λ l. first_line ∷ (threads ++ l)) (append-nil pairs)) in
        let all : lines ++ line ∷ [] ≡ first_line ∷ ((threads ++ pairs) ++ rf_line p ∷ []) = ap (λ l. l ++ line ∷ []) before ∙ ap (λ l. first_line ∷ ((threads ++ pairs) ++ l ∷ [])) line_is in
        let joined : (threads ++ pairs) ++ rf_line p ∷ [] ≡ threads ++ map rf_line next.rf = append_assoc threads pairs (rf_line p ∷ []) ∙ ap (λ l. threads ++ l) (sym (map_push rf_line c.rf p)) in
        let whole : first_line ∷ (threads ++ map rf_line next.rf) ≡ written_at fs cs Between next =
        ap (λ l. first_line ∷ (threads ++ l)) (sym (append-nil (map rf_line next.rf))) ∙ ap (λ o. first_line ∷ (threads ++ (map rf_line next.rf ++ co_lines cs 0 o))) (sym co) in
        subst (Holds fs cs (lines ++ line ∷ [])) same (record {
          part = record {
            threads = h.part.threads;
            rf = all_push HasPairNumbers c.rf p h.part.rf t.numbers;
            co = h.part.co;
            known = h.part.known;
            rising_handles = h.part.rising_handles;
            actions = all_push (λ (q : RfPair). is_action q.reader ≡ true) c.rf p h.part.actions t.action;
            rising_readers = rises_push reader_before c.rf p h.part.rising_readers g;
            orders = h.part.orders;
          };
          stage = tt;
          lines_are = all ∙ (ap (λ l. first_line ∷ l) joined ∙ whole);
        })

    by_source_in : (co : c.co ≡ []) (o : Option RfPair) → source_in text ≡ o → given o (with_pair c) ≡ Some s → Holds fs cs (lines ++ line ∷ []) s
    by_source_in co None k e = cc
    by_source_in co (Some p) k e = by_follow co p k (may_follow reader_before c.rf p) refl e

    by_empty : (b : Bool) → is_empty c.co ≡ b → cond b (given (source_in text) (with_pair c)) None ≡ Some s → Holds fs cs (lines ++ line ∷ []) s
    by_empty false k e = cc
    by_empty true k e = by_source_in (is_empty_nil c.co k) (source_in text) refl e

get_within : {A : Type 0} (xs : List A) (i : ℕ) (x : A) → slice_get xs i ≡ Some x → i < length xs
get_within [] i x e = cc
get_within (y ∷ ys) zero x e = omega arith
get_within (y ∷ ys) (suc i) x e = let h = get_within ys i x e in omega arith

-- a cell's order
order_holds : (fs cs lines : List (List ℕ)) (c : Candidate) (text line : List ℕ) (s : Reading) → Holds fs cs lines (state Between c) → line ≡ codes "co " ++ text → on_order cs c text ≡ Some s
    → Holds fs cs (lines ++ line ∷ []) s
order_holds fs cs lines c text line s h front = by_cell (slice_get cs (length c.co)) refl
  where
    by_order_in : (cell : List ℕ) → slice_get cs (length c.co) ≡ Some cell → (o : Option (List Event)) → order_in cell text ≡ o → given o (with_order c) ≡ Some s → Holds fs cs (lines ++ line ∷ []) s
    by_order_in cell k None g e = cc
    by_order_in cell k (Some es) g e =
        let next : Candidate = record c { co = c.co ++ es ∷ [] } in
        let same : state Between next ≡ s = cc in
        let t = order_from cell text es g in
        let within = get_within cs (length c.co) cell k in
        let name : cell ≡ name_at cs (length c.co) = sym (ap some_name k) in
        let zero_more : 0 + length c.co ≡ length c.co = omega arith in
        let line_is : line ≡ co_line (name_at cs (0 + length c.co)) es =
        front ∙ (ap (λ l. codes "co " ++ l) t.spelled ∙ (ap (λ n. co_line n es) name ∙ ap (λ n. co_line (name_at cs n) es) (sym zero_more))) in
        let threads = flat_map (thread_lines fs) c.threads in
        let pairs = map rf_line c.rf in
        let orders = co_lines cs 0 c.co in
        let all : lines ++ line ∷ [] ≡ first_line ∷ ((threads ++ (pairs ++ orders)) ++ co_line (name_at cs (0 + length c.co)) es ∷ []) =
        ap (λ l. l ++ line ∷ []) h.lines_are ∙ ap (λ l. first_line ∷ ((threads ++ (pairs ++ orders)) ++ l ∷ [])) line_is in
        let joined : (threads ++ (pairs ++ orders)) ++ co_line (name_at cs (0 + length c.co)) es ∷ [] ≡ threads ++ (pairs ++ co_lines cs 0 next.co) =
        append_assoc threads (pairs ++ orders) (co_line (name_at cs (0 + length c.co)) es ∷ [])
        ∙ ap (λ l. threads ++ l) (append_assoc pairs orders (co_line (name_at cs (0 + length c.co)) es ∷ []) ∙ ap (λ l. pairs ++ l) (sym (co_lines_append cs 0 c.co (es ∷ [])))) in
        let longer : length (c.co ++ es ∷ []) ≤ length cs = omega (arith, length-append c.co (es ∷ [])) in
        subst (Holds fs cs (lines ++ line ∷ [])) same (record {
          part = record {
            threads = h.part.threads;
            rf = h.part.rf;
            co = all_push (AllByRecursion HasEventNumbers) c.co es h.part.co t.numbers;
            known = h.part.known;
            rising_handles = h.part.rising_handles;
            actions = h.part.actions;
            rising_readers = h.part.rising_readers;
            orders = longer;
          };
          stage = tt;
          lines_are = all ∙ ap (λ l. first_line ∷ l) joined;
        })

    by_cell : (o : Option (List ℕ)) → slice_get cs (length c.co) ≡ o → given o (λ cell. given (order_in cell text) (with_order c)) ≡ Some s → Holds fs cs (lines ++ line ∷ []) s
    by_cell None k e = cc
    by_cell (Some cell) k e = by_order_in cell k (order_in cell text) refl e

-- the last line
end_holds : (fs cs lines : List (List ℕ)) (c : Candidate) (line : List ℕ) (s : Reading) → Holds fs cs lines (state Between c) → on_end cs c line ≡ Some s → Holds fs cs (lines ++ line ∷ []) s
end_holds fs cs lines c line s h = split (bytes_eq line last_line && eqb (length c.co) (length cs)) refl
  where
    split : (b : Bool) → (bytes_eq line last_line && eqb (length c.co) (length cs)) ≡ b → cond b (Some (state End c)) None ≡ Some s → Holds fs cs (lines ++ line ∷ []) s
    split false k e = cc
    split true k e =
        let same : state End c ≡ s = cc in
        let p = and_parts (bytes_eq line last_line) (eqb (length c.co) (length cs)) k in
        let text = (bytes_eq-Decides line last_line).0 p.0 in
        let threads = flat_map (thread_lines fs) c.threads in
        let pairs = map rf_line c.rf in
        let orders = co_lines cs 0 c.co in
        let all : lines ++ line ∷ [] ≡ first_line ∷ ((threads ++ (pairs ++ orders)) ++ last_line ∷ []) =
        ap (λ l. l ++ line ∷ []) h.lines_are ∙ ap (λ l. first_line ∷ ((threads ++ (pairs ++ orders)) ++ l ∷ [])) text in
        let joined : (threads ++ (pairs ++ orders)) ++ last_line ∷ [] ≡ threads ++ (pairs ++ (orders ++ last_line ∷ [])) =
        append_assoc threads (pairs ++ orders) (last_line ∷ []) ∙ ap (λ l. threads ++ l) (append_assoc pairs orders (last_line ∷ [])) in
        subst (Holds fs cs (lines ++ line ∷ [])) same (record { part = h.part; stage = eqb-true (length c.co) (length cs) p.1; lines_are = all ∙ ap (λ l. first_line ∷ l) joined })

between_holds : (fs cs lines : List (List ℕ)) (c : Candidate) (line : List ℕ) (s : Reading) → Holds fs cs lines (state Between c) → between fs cs c line ≡ Some s → Holds fs cs (lines ++ line ∷ []) s
between_holds fs cs lines c line s h = if_thread (strip (codes "thread ") line) refl
  where
    if_order : (o : Option (List ℕ)) → strip (codes "co ") line ≡ o → by_order cs c line o ≡ Some s → Holds fs cs (lines ++ line ∷ []) s
    if_order None k e = end_holds fs cs lines c line s h e
    if_order (Some text) k e = order_holds fs cs lines c text line s h (strip_from (codes "co ") line text k) e

    if_source : (o : Option (List ℕ)) → strip (codes "rf ") line ≡ o → by_source cs c line o ≡ Some s → Holds fs cs (lines ++ line ∷ []) s
    if_source None k e = if_order (strip (codes "co ") line) refl e
    if_source (Some text) k e = source_holds fs cs lines c text line s h (strip_from (codes "rf ") line text k) e

    if_thread : (o : Option (List ℕ)) → strip (codes "thread ") line ≡ o → by_thread fs cs c line o ≡ Some s → Holds fs cs (lines ++ line ∷ []) s
    if_thread None k e = if_source (strip (codes "rf ") line) refl e
    if_thread (Some text) k e = thread_holds fs cs lines c text line s h (strip_from (codes "thread ") line text k) e

stage_holds : (fs cs lines : List (List ℕ)) (g : Stage) (c : Candidate) (line : List ℕ) (s : Reading) → Holds fs cs lines (state g c) → step_at fs cs g c line ≡ Some s → Holds fs cs (lines ++ line ∷ []) s
stage_holds fs cs lines Head c line s h e = head_holds fs cs lines c line s h e
stage_holds fs cs lines Between c line s h e = between_holds fs cs lines c line s h e
stage_holds fs cs lines (Script head) c line s h e = script_holds fs cs lines c head line s h e
stage_holds fs cs lines End c line s h e = cc

-- a step keeps what the reader holds
pub step_holds : (fs cs lines : List (List ℕ)) (r : Reading) (line : List ℕ) (s : Reading) → Holds fs cs lines r → step fs cs r line ≡ Some s → Holds fs cs (lines ++ line ∷ []) s
step_holds fs cs lines r line s h e = stage_holds fs cs lines r.stage r.candidate line s h e
