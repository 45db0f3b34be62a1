-- Why a text that is accepted is answered with nothing else: it tells one log.
use Rattle.std.proofs.Common.{◌≡◌, ℕ, zero, suc, true, false, List, [], ◌∷◌, ◌++◌, map, take, length, Some, refl, sym, ◌∙◌, ap, subst, arith}
use Rattle.std.specs.Prelude.{All, slice_get}
use Rattle.std.proofs.lemmas.List.{length-map}
use Rattle.std.proofs.lemmas.Option.{slice_get_within}
use Rattle.dg_base.specs.declared.Lit.{Lit}
use Rattle.dg_base.proofs.Lists.{get_there, one_answer}
use Rattle.c_check.specs.declared.checked.Checked.{Checked}
use Rattle.cnf_problem.specs.declared.problem.Head.{Head}
use Rattle.cnf_problem.specs.declared.problem.LemmaKind.{LemmaKind}
use Rattle.cnf_problem.specs.declared.problem.Problem.{Problem}
use Rattle.cnf_problem.specs.Literals.{IsOver}
use Rattle.cnf_problem.specs.Problems.{FollowInTurn, Follows, FollowsBy}
use Rattle.encode_match.specs.declared.Encoded.{Encoded}
use Rattle.lemma_log.specs.declared.Entry.{Entry}
use Rattle.lemma_log.specs.declared.hints.AnyLog.{AnyLog}
use Rattle.lemma_log.specs.declared.hints.AnyLog.TheVariants.{Plain, Hinted}
use Rattle.lemma_log.specs.declared.hints.Hint.{Hint}
use Rattle.log_text.specs.Formats.{Row, Written, head_lines}
use Rattle.log_text.specs.Laws.{OneLog}
use Rattle.log_text.specs.Spelling.{hinted_rows, plain_rows, row_of, written}
use Rattle.log_text.proofs.Logs.{rows_len}
use Rattle.log_checker.specs.declared.refused.Refused.{Refused as Refusal}
use Rattle.log_checker.specs.Goodness.{EndsEmpty, clauses_of, lemmas_of}
use Rattle.log_checker.specs.Hints.{HintedBy, IsGoodHinted, hints_at}
use Rattle.log_checker.specs.Laws.{HintedRefusedIsNotGood, RefusedIsNotGood}
use Rattle.program_log.specs.declared.answers.LogAnswer.{LogAnswer}
use Rattle.program_log.specs.declared.answers.LogAnswer.TheVariants.{Accepted}
use Rattle.program_log.specs.Heads.{FirstOther, head_of}
use Rattle.program_log.specs.Laws.{AcceptedIsAlone}
use Rattle.program_log.specs.Logs.{IsAnswerFor, IsGoodLog, LogFails, accepted, bad_log, entries_of, other_problem, refused}
use Rattle.program_log.proofs.Answering.{written_head}
use Rattle.program_log.proofs.Safety.{IsProofOf, proof_of}

-- ---- entries whose rows are the same

-- the clauses of rows
abbrev lits_of : List Row → List (List Lit)
lits_of rows = map (λ (r : Row). r.lits) rows

plain_lits : (es : List Entry) → lits_of (plain_rows es) ≡ clauses_of es
plain_lits [] = refl
plain_lits (e ∷ es) = ap (λ l. e.lemma.lits ∷ l) (plain_lits es)

hinted_lits : (es : List Entry) (hs : List (List Hint)) → lits_of (hinted_rows es hs) ≡ clauses_of es
hinted_lits [] hs = refl
hinted_lits (e ∷ es) [] = ap (λ l. e.lemma.lits ∷ l) (hinted_lits es [])
hinted_lits (e ∷ es) (h ∷ hs) = ap (λ l. e.lemma.lits ∷ l) (hinted_lits es hs)

-- with the same clauses the last one is empty in both
ends_from : (before : List Entry) (last : Entry) (fs : List Entry) → clauses_of (before ++ last ∷ []) ≡ clauses_of fs → last.lemma.lits ≡ [] → EndsEmpty fs
ends_from [] last [] same empty = cc
ends_from [] last (f ∷ []) same empty = record { before = []; last = f; parts = refl; empty = (let e : last.lemma.lits ≡ f.lemma.lits = cc in sym e ∙ empty) }
ends_from [] last (f ∷ (g ∷ fs)) same empty = cc
ends_from (b ∷ before) last [] same empty = cc
ends_from (b ∷ before) last (f ∷ fs) same empty =
    let e : clauses_of (before ++ last ∷ []) ≡ clauses_of fs = cc in
    let r = ends_from before last fs e empty in
    record { before = f ∷ r.before; last = r.last; parts = ap (λ l. f ∷ l) r.parts; empty = r.empty }

ends_same : (es fs : List Entry) → clauses_of es ≡ clauses_of fs → EndsEmpty es → EndsEmpty fs
ends_same es fs same ends = ends_from ends.before ends.last fs (sym (ap clauses_of ends.parts) ∙ same) ends.empty

-- and they follow in both
good_same : (q : Problem) (cs : List (List Lit)) (es fs : List Entry) → plain_rows es ≡ plain_rows fs → FollowInTurn q cs (lemmas_of es) → FollowInTurn q cs (lemmas_of fs)
good_same q cs [] [] same good = tt
good_same q cs [] (f ∷ fs) same good = cc
good_same q cs (e ∷ es) [] same good = cc
good_same q cs (e ∷ es) (f ∷ fs) same good =
    let row : row_of e [] ≡ row_of f [] = cc in
    let rows : plain_rows es ≡ plain_rows fs = cc in
    let kind = ap (λ (r : Row). r.kind) row in
    let lits = ap (λ (r : Row). r.lits) row in
    let first : Follows q cs f.lemma = record {
      variables = subst (All (IsOver q.vars)) lits (good.0).variables;
      cause = subst (λ (l : List Lit). FollowsBy f.lemma.kind q cs l) lits (subst (λ (k : LemmaKind). FollowsBy k q cs e.lemma.lits) kind (good.0).cause);
    } in
    (first, good_same q (cs ++ f.lemma.lits ∷ []) es fs rows (subst (λ (l : List Lit). FollowInTurn q (cs ++ l ∷ []) (lemmas_of es)) lits good.1))

-- ---- with hints

row_at : (es : List Entry) (hs : List (List Hint)) (k : ℕ) (e : Entry) → slice_get es k ≡ Some e → slice_get (hinted_rows es hs) k ≡ Some (row_of e (hints_at hs k))
row_at [] hs k e at = cc
row_at (d ∷ es) [] zero e at = let s : d ≡ e = cc in ap (λ (z : Entry). Some (row_of z [])) s
row_at (d ∷ es) (h ∷ hs) zero e at = let s : d ≡ e = cc in ap (λ (z : Entry). Some (row_of z h)) s
row_at (d ∷ es) [] (suc k) e at = row_at es [] k e at
row_at (d ∷ es) (h ∷ hs) (suc k) e at = row_at es hs k e at

take_clauses : (k : ℕ) (es fs : List Entry) → clauses_of es ≡ clauses_of fs → clauses_of (take k es) ≡ clauses_of (take k fs)
take_clauses zero es fs same = refl
take_clauses (suc k) [] [] same = refl
take_clauses (suc k) [] (f ∷ fs) same = cc
take_clauses (suc k) (e ∷ es) [] same = cc
take_clauses (suc k) (e ∷ es) (f ∷ fs) same =
    let lits : e.lemma.lits ≡ f.lemma.lits = cc in
    let rest : clauses_of es ≡ clauses_of fs = cc in
    ap (λ l. l ∷ clauses_of (take k es)) lits ∙ ap (λ ls. f.lemma.lits ∷ ls) (take_clauses k es fs rest)

hinted_good_same : (q : Problem) (es fs : List Entry) (hs gs : List (List Hint)) → hinted_rows es hs ≡ hinted_rows fs gs → IsGoodHinted q es hs → IsGoodHinted q fs gs
hinted_good_same q es fs hs gs same good k f at =
    let long : length es ≡ length fs = sym (rows_len es hs) ∙ (ap length same ∙ rows_len fs gs) in
    let inside = slice_get_within fs k f at in
    let found = get_there es k (omega arith) in
    let e = found.0 in
    let row = one_answer (slice_get (hinted_rows fs gs) k) (row_of e (hints_at hs k)) (row_of f (hints_at gs k)) (ap (λ (l : List Row). slice_get l k) (sym same) ∙ row_at es hs k e found.1) (row_at fs gs k f at) in
    let kind = ap (λ (r : Row). r.kind) row in
    let lits = ap (λ (r : Row). r.lits) row in
    let hints = ap (λ (r : Row). r.hints) row in
    let before = take_clauses k es fs (sym (hinted_lits es hs) ∙ (ap lits_of same ∙ hinted_lits fs gs)) in
    let was = good k e found.1 in
    record {
      variables = subst (All (IsOver q.vars)) lits was.variables;
      cause =
          subst (λ (b : List (List Lit)). HintedBy f.lemma.kind q b f.lemma.lits (hints_at gs k)) before
          (subst (λ (h : List Hint). HintedBy f.lemma.kind q (clauses_of (take k es)) f.lemma.lits h) hints
          (subst (λ (l : List Lit). HintedBy f.lemma.kind q (clauses_of (take k es)) l (hints_at hs k)) lits
          (subst (λ (x : LemmaKind). HintedBy x q (clauses_of (take k es)) e.lemma.lits (hints_at hs k)) kind was.cause)));
    }

-- ---- one text

-- how many entries are told
count_rows : (h : Head) (log : AnyLog) → length (written h log).rows ≡ length (entries_of log)
count_rows h (Plain log) = length-map log.entries (λ (e : Entry). row_of e [])
count_rows h (Hinted l) = rows_len l.log.entries l.hints

-- a good log that ends in the empty clause is not refused by the same text
not_refused : RefusedIsNotGood → HintedRefusedIsNotGood → (q : Problem) (h : Head) (good other : AnyLog) (r : Refusal)
    → written h good ≡ written h other → IsGoodLog q good → EndsEmpty (entries_of good) → LogFails q other r → ⊥
not_refused plain hinted q h (Plain a) (Plain b) r same good ends fails =
    let rows : plain_rows a.entries ≡ plain_rows b.entries = ap (λ (w : Written). w.rows) same in
    let clauses = sym (plain_lits a.entries) ∙ (ap lits_of rows ∙ plain_lits b.entries) in
    plain q b.entries r fails (good_same q [] a.entries b.entries rows good) (ends_same a.entries b.entries clauses ends)
not_refused plain hinted q h (Plain a) (Hinted b) r same good ends fails = let e : false ≡ true = ap (λ (w : Written). w.hinted) same in cc
not_refused plain hinted q h (Hinted a) (Plain b) r same good ends fails = let e : true ≡ false = ap (λ (w : Written). w.hinted) same in cc
not_refused plain hinted q h (Hinted a) (Hinted b) r same good ends fails =
    let rows : hinted_rows a.log.entries a.hints ≡ hinted_rows b.log.entries b.hints = ap (λ (w : Written). w.rows) same in
    let clauses = sym (hinted_lits a.log.entries a.hints) ∙ (ap lits_of rows ∙ hinted_lits b.log.entries b.hints) in
    hinted q b.log.entries b.hints r fails (hinted_good_same q a.log.entries b.log.entries a.hints b.hints rows good) (ends_same a.log.entries b.log.entries clauses ends)

-- a head in which no line differs
same_lines : (p : Checked) (x : Encoded) (h : Head) (place : ℕ) (theirs ours : List ℕ) → h ≡ head_of p x → FirstOther (head_lines h) (head_lines (head_of p x)) place theirs ours → ⊥
same_lines p x h place theirs ours same first =
    first.differ (one_answer (slice_get (head_lines (head_of p x)) place) theirs ours (subst (λ (g : Head). slice_get (head_lines g) place ≡ Some theirs) same first.there) first.here)

beside : OneLog → RefusedIsNotGood → HintedRefusedIsNotGood → (p : Checked) (x : Encoded) (text : List ℕ) (n : ℕ) (a : LogAnswer) → IsProofOf p x text n → IsAnswerFor p x text a → a ≡ Accepted n
beside one plain hinted p x text n a it (bad_log line r) = absurd (r.none (written (head_of p x) it.log) it.proof.spelled)
beside one plain hinted p x text n a it (other_problem w place theirs ours s first) =
    let same = one false text w (written (head_of p x) it.log) s it.proof.spelled in
    absurd (same_lines p x w.head place theirs ours (ap (λ (v : Written). v.head) same ∙ written_head (head_of p x) it.log) first)
beside one plain hinted p x text n a it (refused log r s fails) =
    let h = head_of p x in
    absurd (not_refused plain hinted x.problem h it.log log r (one false text (written h it.log) (written h log) it.proof.spelled s) it.proof.good it.proof.empty fails)
beside one plain hinted p x text n a it (accepted log proof) =
    let h = head_of p x in
    let same = one false text (written h log) (written h it.log) proof.spelled it.proof.spelled in
    ap Accepted (sym (count_rows h log) ∙ (ap (λ (w : Written). length w.rows) same ∙ (count_rows h it.log ∙ it.counted)))

pub accepted_is_alone : OneLog → RefusedIsNotGood → HintedRefusedIsNotGood → AcceptedIsAlone
accepted_is_alone one plain hinted p x text n a ok answer = beside one plain hinted p x text n a (proof_of p x text n (Accepted n) refl ok) answer
