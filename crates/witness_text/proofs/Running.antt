-- The lines of a candidate that has a text are read to the end, and give that candidate.
use Rattle.std.proofs.Common.{◌≡◌, ℕ, suc, zero, ◌+◌, ◌-◌, ◌<◌, ◌≤◌, Bool, true, cond, List, [], ◌∷◌, ◌++◌, map, length, Option, Some, None, refl, ap, sym, ◌∙◌, append_assoc, append-nil, length-append, arith, eq-eqb}
use Rattle.std.specs.Prelude.{slice_get, flat_map}
use Rattle.std.specs.List.{AllByRecursion}
use Rattle.axiom_model.specs.declared.Event.{Event}
use Rattle.axiom_model.specs.declared.RfPair.{RfPair}
use Rattle.axiom_model.specs.declared.ThreadPart.{ThreadPart}
use Rattle.axiom_model.specs.declared.Candidate.{Candidate}
use Rattle.witness_text.specs.declared.lines.ThreadHead.{ThreadHead}
use Rattle.witness_text.specs.declared.reading.Stage.TheVariants.{Between, Script, End}
use Rattle.witness_text.specs.declared.reading.Reading.{Reading}
use Rattle.witness_text.specs.Witness.{co_line, co_lines, events_text, last_line, name_at, rf_line, script_line, thread_line, thread_lines, witness_lines}
use Rattle.c_check.specs.PlainNames.{HasPlainNames}
use Rattle.witness_text.specs.Spelling.{HasEventNumbers, HasNumbers, HasPairNumbers, HasThreadNumbers, IsSpellable, handle_before, is_action, reader_before, rises}
use Rattle.line_text.specs.Words.{given}
use Rattle.witness_text.specs.Lines.{order_in}
use Rattle.witness_text.specs.Machine.{begun, may_follow, part_of, start, step, with_order, with_pair, with_script}
use Rattle.witness_text.proofs.Spelled.{head_of, order_of, script_of, source_of}
use Rattle.witness_text.proofs.Rising.{rises_follows}
use Rattle.witness_text.proofs.Holding.{state}
use Rattle.witness_text.proofs.Plain.{all_lack}
use Rattle.witness_text.proofs.Reader.{reader}
use Rattle.line_text.proofs.Reading.{run}
use Rattle.witness_text.proofs.Stepping.{follows_same}

abbrev made : List ThreadPart → List RfPair → List (List Event) → Candidate
made ts ps os = record { threads = ts; rf = ps; co = os }

abbrev head_part : ThreadPart → ThreadHead
head_part p = record { handle = p.handle; function = p.function; arg = p.arg }

step_thread : (fs cs : List (List ℕ)) (names : HasPlainNames fs cs) (ts : List ThreadPart) (p : ThreadPart) → HasThreadNumbers p → p.function < length fs → may_follow handle_before ts p ≡ true
    → step fs cs (state Between (made ts [] [])) (thread_line fs p.handle p.function p.arg) ≡ Some (state (Script (head_part p)) (made ts [] []))
step_thread fs cs names ts p n k f =
    let c = made ts [] [] in
    let h = head_part p in
    let follows : may_follow handle_before ts (part_of h []) ≡ true = follows_same (slice_get ts (length ts - 1)) h p.script ∙ f in
    ap (λ o. given o (begun c)) (head_of fs h (all_lack 32 fs names.no_blank) names.distinct n.handle n.function n.arg k)
    ∙ ap (λ (b : Bool). cond b (Some (state (Script h) c)) None) follows

step_script : (fs cs : List (List ℕ)) (ts : List ThreadPart) (p : ThreadPart) → HasThreadNumbers p
    → step fs cs (state (Script (head_part p)) (made ts [] [])) (script_line p.script) ≡ Some (state Between (made (ts ++ p ∷ []) [] []))
step_script fs cs ts p n = ap (λ o. given o (with_script (made ts [] []) (head_part p))) (script_of p.script n.script)

run_threads : (fs cs : List (List ℕ)) (names : HasPlainNames fs cs) (ts more : List ThreadPart) (rest : List (List ℕ)) → AllByRecursion HasThreadNumbers more
    → AllByRecursion (λ (p : ThreadPart). p.function < length fs) more → rises handle_before (ts ++ more) ≡ true
    → run (reader fs cs) (state Between (made ts [] [])) (flat_map (thread_lines fs) more ++ rest) ≡ run (reader fs cs) (state Between (made (ts ++ more) [] [])) rest
run_threads fs cs names ts [] rest n k r = ap (λ l. run (reader fs cs) (state Between (made l [] [])) rest) (sym (append-nil ts))
run_threads fs cs names ts (p ∷ ps) rest n k r =
    let behind = flat_map (thread_lines fs) ps ++ rest in
    let first = step_thread fs cs names ts p n.0 k.0 (rises_follows handle_before ts p ps r) in
    let second = step_script fs cs ts p n.0 in
    let again : rises handle_before ((ts ++ p ∷ []) ++ ps) ≡ true = ap (rises handle_before) (append_assoc ts (p ∷ []) ps) ∙ r in
    ap (λ o. given o (λ s. run (reader fs cs) s (script_line p.script ∷ behind))) first
    ∙ (ap (λ o. given o (λ s. run (reader fs cs) s behind)) second
    ∙ (run_threads fs cs names (ts ++ p ∷ []) ps rest n.1 k.1 again ∙ ap (λ l. run (reader fs cs) (state Between (made l [] [])) rest) (append_assoc ts (p ∷ []) ps)))

step_pair : (fs cs : List (List ℕ)) (ts : List ThreadPart) (ps : List RfPair) (p : RfPair) → HasPairNumbers p → is_action p.reader ≡ true → may_follow reader_before ps p ≡ true
    → step fs cs (state Between (made ts ps [])) (rf_line p) ≡ Some (state Between (made ts (ps ++ p ∷ []) []))
step_pair fs cs ts ps p n a f =
    let c = made ts ps [] in
    ap (λ o. given o (with_pair c)) (source_of p n a) ∙ ap (λ (b : Bool). cond b (Some (state Between (made ts (ps ++ p ∷ []) []))) None) f

run_pairs : (fs cs : List (List ℕ)) (ts : List ThreadPart) (ps more : List RfPair) (rest : List (List ℕ)) → AllByRecursion HasPairNumbers more
    → AllByRecursion (λ (p : RfPair). is_action p.reader ≡ true) more → rises reader_before (ps ++ more) ≡ true
    → run (reader fs cs) (state Between (made ts ps [])) (map rf_line more ++ rest) ≡ run (reader fs cs) (state Between (made ts (ps ++ more) [])) rest
run_pairs fs cs ts ps [] rest n a r = ap (λ l. run (reader fs cs) (state Between (made ts l [])) rest) (sym (append-nil ps))
run_pairs fs cs ts ps (p ∷ more) rest n a r =
    let again : rises reader_before ((ps ++ p ∷ []) ++ more) ≡ true = ap (rises reader_before) (append_assoc ps (p ∷ []) more) ∙ r in
    ap (λ o. given o (λ s. run (reader fs cs) s (map rf_line more ++ rest))) (step_pair fs cs ts ps p n.0 a.0 (rises_follows reader_before ps p more r))
    ∙ (run_pairs fs cs ts (ps ++ p ∷ []) more rest n.1 a.1 again ∙ ap (λ l. run (reader fs cs) (state Between (made ts l [])) rest) (append_assoc ps (p ∷ []) more))

get_name : (cs : List (List ℕ)) (i : ℕ) → i < length cs → slice_get cs i ≡ Some (name_at cs i)
get_name [] i h = absurd (omega arith)
get_name (c ∷ cs) zero h = refl
get_name (c ∷ cs) (suc i) h = get_name cs i (omega arith)

step_order : (fs cs : List (List ℕ)) (ts : List ThreadPart) (ps : List RfPair) (os : List (List Event)) (es : List Event) → AllByRecursion HasEventNumbers es → length os < length cs
    → step fs cs (state Between (made ts ps os)) (co_line (name_at cs (length os)) es) ≡ Some (state Between (made ts ps (os ++ es ∷ [])))
step_order fs cs ts ps os es n l =
    let c = made ts ps os in
    let text = name_at cs (length os) ++ events_text es in
    ap (λ o. given o (λ cell. given (order_in cell text) (with_order c))) (get_name cs (length os) l) ∙ ap (λ o. given o (with_order c)) (order_of (name_at cs (length os)) es n)

run_orders : (fs cs : List (List ℕ)) (ts : List ThreadPart) (ps : List RfPair) (os more : List (List Event)) (i : ℕ) (rest : List (List ℕ)) → i ≡ length os
    → AllByRecursion (AllByRecursion HasEventNumbers) more → length os + length more ≤ length cs
    → run (reader fs cs) (state Between (made ts ps os)) (co_lines cs i more ++ rest) ≡ run (reader fs cs) (state Between (made ts ps (os ++ more))) rest
run_orders fs cs ts ps os [] i rest at n l = ap (λ o. run (reader fs cs) (state Between (made ts ps o)) rest) (sym (append-nil os))
run_orders fs cs ts ps os (es ∷ more) i rest at n l =
    let behind = co_lines cs (i + 1) more ++ rest in
    let here : step fs cs (state Between (made ts ps os)) (co_line (name_at cs i) es) ≡ Some (state Between (made ts ps (os ++ es ∷ []))) =
    ap (λ k. step fs cs (state Between (made ts ps os)) (co_line (name_at cs k) es)) at ∙ step_order fs cs ts ps os es n.0 (omega arith) in
    let one = length-append os (es ∷ []) in
    let next : i + 1 ≡ length (os ++ es ∷ []) = omega (arith, one) in
    let low : length (os ++ es ∷ []) + length more ≤ length cs = omega (arith, one) in
    ap (λ o. given o (λ s. run (reader fs cs) s behind)) here
    ∙ (run_orders fs cs ts ps (os ++ es ∷ []) more (i + 1) rest next n.1 low ∙ ap (λ o. run (reader fs cs) (state Between (made ts ps o)) rest) (append_assoc os (es ∷ []) more))

step_end : (fs cs : List (List ℕ)) (c : Candidate) → length c.co ≡ length cs → run (reader fs cs) (state Between c) (last_line ∷ []) ≡ Some (state End c)
step_end fs cs c h = ap (λ (b : Bool). given (cond b (Some (state End c)) None) (λ s. run (reader fs cs) s [])) (eq-eqb (length c.co) (length cs) h)

pub run_lines : (fs cs : List (List ℕ)) (c : Candidate) → HasPlainNames fs cs → HasNumbers c → IsSpellable fs cs c → run (reader fs cs) start (witness_lines fs cs c) ≡ Some (state End c)
run_lines fs cs c names n s =
    let last = last_line ∷ [] in
    let orders = co_lines cs 0 c.co ++ last in
    let low : 0 + length c.co ≤ length cs = omega (arith, s.orders) in
    run_threads fs cs names [] c.threads (map rf_line c.rf ++ orders) n.threads s.known s.rising_handles
    ∙ (run_pairs fs cs c.threads [] c.rf orders n.rf s.actions s.rising_readers ∙ (run_orders fs cs c.threads c.rf [] c.co 0 last refl n.co low ∙ step_end fs cs c s.orders))
