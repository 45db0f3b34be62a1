use Rattle.std.proofs.Common.{◌≡◌, ◌+◌, ◌/◌, ◌<◌, ◌≤◌, ◌∙◌, ℕ, suc, List, [], ◌∷◌, ◌++◌, length, take, slice_get, Some, arith, sym, ap, subst, refl, false}
use Rattle.std.proofs.lemmas.List.{take_all, length-append}
use Rattle.dg_base.proofs.Lists.{place_of}
use Rattle.search_core.specs.declared.Entry.{Entry}
use Rattle.dg_base.specs.declared.Lit.{Lit}
use Rattle.clause_exchange.specs.declared.rule.Received.{Received}
use Rattle.clause_exchange.specs.declared.rule.Part.{Part}
use Rattle.clause_exchange.specs.declared.rule.View.{View}
use Rattle.clause_exchange.specs.Spelling.{received_of, all_received, spelled, spelled_entry, spelled_lits, AreCodes, IsPlain}
use Rattle.clause_exchange.specs.Rule.{row_words}
use Rattle.clause_exchange.specs.Steps.{mine, with_part, with_word, with_stored, with_shared, MayShare, IsOfLog}
use Rattle.clause_exchange.proofs.Words.{take_more, lits_size}
use Rattle.clause_exchange.proofs.rows.share_entry.Goals as goal

-- one more word is stored
stored_more : (v w : View) (part : Part) (h : Received) (i word : ℕ) → v ≡ with_part w (with_stored part (take (1 + i) (spelled_entry h))) → slice_get (spelled_lits h.lits) i ≡ Some word
    → with_part v (with_word (mine v) word) ≡ with_part w (with_stored part (take (1 + (i + 1)) (spelled_entry h)))
stored_more v w part h i word view at =
    let n : 1 + i ≡ suc i = omega arith in
    let m : suc (suc i) ≡ 1 + (i + 1) = omega arith in
    let more = take_more (spelled_entry h) (suc i) word at in
    ap (λ (u : View). with_part u (with_word (mine u) word)) view
    ∙ ap (λ k. with_part w (with_stored part (take k (spelled_entry h) ++ word ∷ []))) n
    ∙ ap (λ ws. with_part w (with_stored part ws)) more
    ∙ ap (λ k. with_part w (with_stored part (take k (spelled_entry h)))) m

all_plain : (ticket : ℕ) (lits : List Lit) → ticket < 4294967296 → length lits ≤ 32 → AreCodes lits → IsPlain (record { ticket = ticket; lits = lits })
all_plain ticket lits small few codes = record {
  small = omega arith;
  few = few;
  codes = λ l c. (let k = place_of lits l c in codes k.0 l k.1);
}

-- what a row tells of the entry
same_received : (part : Part) (ticket : ℕ) (lits : List Lit) (e : Entry) → IsOfLog part ticket lits e → record { ticket = ticket; lits = lits } ≡ received_of e
same_received part ticket lits e is = ap (λ t. received t lits) is.ticket_is ∙ ap (λ ls. received e.ticket ls) is.lits_are
  where
    received : ℕ → List Lit → Received
    received t ls = record { ticket = t; lits = ls }

-- the entry may be shared once its words are stored
may_share : (v w : View) (part : Part) (ticket : ℕ) (lits : List Lit) (e : Entry) → w.spent ≡ false → v ≡ with_part w (with_stored part (spelled_entry (record { ticket = ticket; lits = lits }))) → IsOfLog part ticket lits e → IsPlain (record { ticket = ticket; lits = lits })
    → MayShare v (mine v) e
may_share v w part ticket lits e live view is plain =
    let same = same_received part ticket lits e is in
    subst (λ (u : View). MayShare u (mine u) e) (sym view) (record {
      one = record { live = live; one = refl };
      listed = is.listed;
      plain = subst IsPlain same plain;
      spelled = ap spelled_entry same;
    })

pub loop-i-preserved : goal.loop-i-preserved
loop-i-preserved g c =
    let inv = c.loop-i.invariant in
    let step = c.store_word-in-loop-i.ensures in (
      step.same ∙ inv.0,
      step.slots ∙ inv.1,
      step.stored ∙ stored_more c.loop-i.seat.me.0 c.args.seat.now.me.0 g.told (record { ticket = c.args.ticket; lits = c.args.lits.now }) c.loop-i.i c.pair_word-word.result inv.2 c.pair_word-word.ensures,
    )

-- all words are stored
size_after : (part : Part) (h : Received) (written : ℕ) → part.stored ≡ [] → written ≡ length (row_words part) → written + 1 + (length h.lits + 1) / 2 ≡ length (row_words (with_stored part (spelled_entry h)))
size_after part h written none is =
    let a = length-append (spelled (all_received part.shared)) (spelled_entry h) in
    let b = length-append (spelled (all_received part.shared)) part.stored in
    let d = ap length none in
    let n = lits_size h.lits in
    omega arith

pub store_count-requires : goal.store_count-requires
store_count-requires g c =
    let inv = c.loop-i.invariant in
    let h : Received = record { ticket = c.args.ticket; lits = c.args.lits.now } in
    let part = g.told in
    let r = c.requires in
    let whole : take (1 + c.loop-i.i) (spelled_entry h) ≡ spelled_entry h = take_all (1 + c.loop-i.i) (spelled_entry h) (let n = lits_size c.args.lits.now in let t = c.loop-i-test.false in omega arith) in
    let view : c.loop-i.seat.me.0 ≡ with_part c.args.seat.now.me.0 (with_stored part (spelled_entry h)) = inv.2 ∙ ap (λ ws. with_part c.args.seat.now.me.0 (with_stored part ws)) whole in (
      inv.0 ∙ (c.store_word.ensures.same ∙ r.0),
      (
        (r.1.1.1.1.0.0, may_share c.loop-i.seat.me.0 c.args.seat.now.me.0 part c.args.ticket c.args.lits.now r.1.1.1.1.0.0 r.1.0.live view r.1.1.1.1.0.1 (all_plain c.args.ticket c.args.lits.now c.ranges.ticket.fits r.1.1.1.1.1.0 c.are_codes.ensures)),
        (
          subst (λ (v : View). c.args.number ≡ (mine v).number) (sym view) r.1.1.1.0.0,
          (
            r.1.1.1.0.1,
            subst (λ (v : View). c.args.written + 1 + (length c.args.lits.now + 1) / 2 ≡ length (row_words (mine v))) (sym view) (size_after part h c.args.written r.1.1.1.1.1.1.0 r.1.1.1.1.1.1.1.0),
          ),
        ),
      ),
    )

pub returns-clause-shared : goal.returns-clause-shared
returns-clause-shared g c e is =
    let inv = c.loop-i.invariant in
    let h : Received = record { ticket = c.args.ticket; lits = c.args.lits.now } in
    let part = g.told in
    let r = c.requires in
    let whole : take (1 + c.loop-i.i) (spelled_entry h) ≡ spelled_entry h = take_all (1 + c.loop-i.i) (spelled_entry h) (let n = lits_size c.args.lits.now in let t = c.loop-i-test.false in omega arith) in
    let view : c.loop-i.seat.me.0 ≡ with_part c.args.seat.now.me.0 (with_stored part (spelled_entry h)) = inv.2 ∙ ap (λ ws. with_part c.args.seat.now.me.0 (with_stored part ws)) whole in
    c.store_count.ensures.shared e (may_share c.loop-i.seat.me.0 c.args.seat.now.me.0 part c.args.ticket c.args.lits.now e r.1.0.live view is (all_plain c.args.ticket c.args.lits.now c.ranges.ticket.fits r.1.1.1.1.1.0 c.are_codes.ensures))
    ∙ ap (λ (v : View). with_part v (with_shared (mine v) e)) view
