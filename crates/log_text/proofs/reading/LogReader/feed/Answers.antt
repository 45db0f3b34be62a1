use Rattle.std.proofs.Common.{◌≡◌, ◌++◌, [], List, ℕ, Some, None, not, ap, sym, ◌∙◌, arith, eqb-true}
use Rattle.std.specs.Prelude.{vec_len}
use Rattle.line_text.specs.Words.{cut}
use Rattle.log_text.specs.Fed.{ReaderView}
use Rattle.log_text.proofs.Feeding.{begins_of, err_refuses, fed_held, fed_on, fed_refused, none_of, nothing, ok_begins, refused_of}
use Rattle.log_text.proofs.reading.LogReader.feed.Goals as goal

pub returns-in-Some-clause-reads : goal.returns-in-Some-clause-reads
returns-in-Some-clause-reads c =
    let some : c.args.self.now.fault ≡ Some c.in-Some.line = ap (λ (r : ReaderView). r.fault) (sym c.self.view_is) ∙ c.in-Some.is in
    λ _ b fed rows h. fed_refused b c.args.self.now fed c.args.piece.now rows c.in-Some.line some h

pub returns-in-Some-clause-refused : goal.returns-in-Some-clause-refused
returns-in-Some-clause-refused c =
    let some : c.args.self.now.fault ≡ Some c.in-Some.line = ap (λ (r : ReaderView). r.fault) (sym c.self.view_is) ∙ c.in-Some.is in
    λ b fed rows h. refused_of b c.args.self.now (fed ++ c.args.piece.now) rows c.in-Some.line (fed_refused b c.args.self.now fed c.args.piece.now rows c.in-Some.line some h) some

pub returns-then-is_none-clause-reads : goal.returns-then-is_none-clause-reads
returns-then-is_none-clause-reads c =
    let piece = c.args.piece.now in
    let inside = c.self.inside in
    let none : c.args.self.now.fault ≡ None = ap (λ (r : ReaderView). r.fault) (sym c.self.view_is) ∙ c.in_default.is in
    let no_feed : cut 10 piece ≡ None = none_of c.cut.result (cut 10 piece ≡ None) _ c.cut.ensures (c.is_none.ensures ∙ ap not c.if-is_none.true) in
    let longer : c.extend_from_slice.new.self.items ≡ inside.held.items ++ piece = c.in_ok-extend_from_slice.ensures.items in
    let with_held = λ (l : List ℕ). let v : ReaderView = record { stage = inside.stage; number = inside.number; held = l; ready = inside.ready.items; fault = inside.fault } in v in
    let same = ap with_held longer ∙ ap (λ (r : ReaderView). let v : ReaderView = record r { held = r.held ++ piece } in v) c.self.view_is in
    λ _ b fed rows h. fed_held b c.args.self.now (with_held c.extend_from_slice.new.self.items) fed piece rows none no_feed same h

pub returns-then-is_none-clause-ok : goal.returns-then-is_none-clause-ok
returns-then-is_none-clause-ok c =
    let piece = c.args.piece.now in
    let inside = c.self.inside in
    let none : c.args.self.now.fault ≡ None = ap (λ (r : ReaderView). r.fault) (sym c.self.view_is) ∙ c.in_default.is in
    let no_feed : cut 10 piece ≡ None = none_of c.cut.result (cut 10 piece ≡ None) _ c.cut.ensures (c.is_none.ensures ∙ ap not c.if-is_none.true) in
    let longer : c.extend_from_slice.new.self.items ≡ inside.held.items ++ piece = c.in_ok-extend_from_slice.ensures.items in
    let with_held = λ (l : List ℕ). let v : ReaderView = record { stage = inside.stage; number = inside.number; held = l; ready = inside.ready.items; fault = inside.fault } in v in
    let same = ap with_held longer ∙ ap (λ (r : ReaderView). let v : ReaderView = record r { held = r.held ++ piece } in v) c.self.view_is in
    let new = with_held c.extend_from_slice.new.self.items in
    λ b fed rows h. begins_of b new (fed ++ piece) rows (fed_held b c.args.self.now new fed piece rows none no_feed same h) c.in_default.is

pub returns-then-is_empty-clause-reads : goal.returns-then-is_empty-clause-reads
returns-then-is_empty-clause-reads c =
    let old = c.args.self.now in
    let piece = c.args.piece.now in
    let none : old.fault ≡ None = ap (λ (r : ReaderView). r.fault) (sym c.self.view_is) ∙ c.in_default.is in
    let zero = eqb-true (vec_len c.self.inside.held) 0 (sym c.if-is_empty.ensures) in
    let empty : c.self.inside.held.items ≡ [] = nothing c.self.inside.held.items (omega (arith, c.self.inside.held.ok.0, zero)) in
    let held : [] ≡ old.held = sym empty ∙ ap (λ (r : ReaderView). r.held) c.self.view_is in
    λ ok b fed rows h. fed_on b old c.read_on.new.self fed piece piece rows none (ap (λ l. l ++ piece) held) (c.read_on.ensures.read ok) h

pub returns-then-is_empty-clause-ok : goal.returns-then-is_empty-clause-ok
returns-then-is_empty-clause-ok c = ok_begins c.read_on.result c.args.self.now c.read_on.new.self c.args.piece.now (returns-then-is_empty-clause-reads c) c.read_on.ensures.ok

pub returns-then-is_empty-clause-refused : goal.returns-then-is_empty-clause-refused
returns-then-is_empty-clause-refused c = err_refuses c.read_on.result c.args.self.now c.read_on.new.self c.args.piece.now (returns-then-is_empty-clause-reads c) c.read_on.ensures.refused

pub returns-clause-reads : goal.returns-clause-reads
returns-clause-reads c =
    let old = c.args.self.now in
    let piece = c.args.piece.now in
    let none : old.fault ≡ None = ap (λ (r : ReaderView). r.fault) (sym c.self.view_is) ∙ c.in_default.is in
    let held : c.as_slice.result.now ≡ old.held = c.as_slice.ensures.value ∙ ap (λ (r : ReaderView). r.held) c.self.view_is in
    let are : c.as_slice-2.result.now ≡ old.held ++ piece = c.as_slice-2.ensures.value ∙ (c.in_ok-bytes.ensures ∙ ap (λ l. l ++ piece) held) in
    λ ok b fed rows h. fed_on b old c.read_on-2.new.self fed piece c.as_slice-2.result.now rows none are (c.read_on-2.ensures.read ok) h

pub returns-clause-ok : goal.returns-clause-ok
returns-clause-ok c = ok_begins c.read_on-2.result c.args.self.now c.read_on-2.new.self c.args.piece.now (returns-clause-reads c) c.read_on-2.ensures.ok

pub returns-clause-refused : goal.returns-clause-refused
returns-clause-refused c = err_refuses c.read_on-2.result c.args.self.now c.read_on-2.new.self c.args.piece.now (returns-clause-reads c) c.read_on-2.ensures.refused
