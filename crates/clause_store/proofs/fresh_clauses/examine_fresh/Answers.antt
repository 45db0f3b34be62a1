use Rattle.std.proofs.Common.{◌≡◌, ◌<◌, ◌+◌, ◌*◌, ◌++◌, [], refl, true, sym, subst, arith, length, ap, ◌∙◌}
use Rattle.std.specs.Prelude.{slice_get, Some}
use Rattle.std.proofs.lemmas.Option.{slice_get-get_or}
use Rattle.trail_state.specs.Trails.{TrailView}
use Rattle.trail_state.specs.Forcing.{none}
use Rattle.clause_store.specs.Watching.{clause_of, watched}
use Rattle.clause_store.specs.Stores.{AreWatched}
use Rattle.clause_store.proofs.Known.{examined_next, first_clause, forced_longer, look_false, look_forced}
use Rattle.clause_store.proofs.TrailLaws.{same_view, well_free}
use Rattle.clause_store.proofs.Visits.{forced_then}
use Rattle.clause_store.proofs.fresh_clauses.examine_fresh.Goals.{After-examine}
use Rattle.clause_store.proofs.fresh_clauses.examine_fresh.Goals as goal

-- the clause is one of the clauses
within : (c : After-examine) → c.loop-id.id < length (c.args.first.now ++ c.args.added.now)
within c = let links = c.loop-id.invariant.watched.room.links in let test = c.loop-id-test.true in let n = c.len.ensures in omega arith

-- it has this number
named : (c : After-examine) → slice_get (c.args.first.now ++ c.args.added.now) c.loop-id.id ≡ Some (clause_of (c.args.first.now ++ c.args.added.now) (2 * c.loop-id.id))
named c =
    let clauses = c.args.first.now ++ c.args.added.now in
    let there = slice_get-get_or (c.args.first.now ++ c.args.added.now) c.loop-id.id [] (within c) in
    there ∙ ap Some (sym (first_clause clauses c.loop-id.id _ there))

-- where it is false, nothing changed
unchanged : (c : After-examine) → c.examine.result ≡ true → c.examine.new.trail ≡ c.loop-id.trail
unchanged c stopped =
    let clauses = c.args.first.now ++ c.args.added.now in
    let same = (look_false (clause_of clauses (2 * c.loop-id.id)) c.loop-id.trail.entries c.examine.new.trail.entries c.loop-id.id (watched c.args.links.now.owner_of (2 * c.loop-id.id)) c.examine.result c.examine.ensures.looked stopped).0 in
    same_view c.examine.new.trail c.loop-id.trail c.examine.ensures.vars same c.examine.ensures.taken

pub loop-id-init : goal.loop-id-init
loop-id-init c = record {
  watched = c.requires.watched;
  same = refl;
  free = well_free c.args.trail.now c.requires.well;
  few = c.requires.well.taken;
  forced = none;
}

pub returns-then-examine-clause-watched : goal.returns-then-examine-clause-watched
returns-then-examine-clause-watched c =
    let b = (goal.at.returns-then-examine-clause-watched c).After-examine in
    rw (unchanged b c.if-examine.true, c.loop-id.invariant.same) c.loop-id.invariant.watched

pub returns-then-examine-clause-forced : goal.returns-then-examine-clause-forced
returns-then-examine-clause-forced c =
    let b = (goal.at.returns-then-examine-clause-forced c).After-examine in
    rw (unchanged b c.if-examine.true) c.loop-id.invariant.forced

pub returns-then-examine-clause-some : goal.returns-then-examine-clause-some
returns-then-examine-clause-some c =
    let clauses = c.args.first.now ++ c.args.added.now in
    let b = (goal.at.returns-then-examine-clause-some c).After-examine in
    let all = (look_false (clause_of clauses (2 * c.loop-id.id)) c.loop-id.trail.entries c.examine.new.trail.entries c.loop-id.id (watched c.args.links.now.owner_of (2 * c.loop-id.id)) c.examine.result c.examine.ensures.looked c.if-examine.true).1 in
    record {
      clause = clause_of clauses (2 * c.loop-id.id);
      named = named b;
      conflict = rw (unchanged b c.if-examine.true) all;
    }

pub loop-id-preserved : goal.loop-id-preserved
loop-id-preserved c =
    let clauses = c.args.first.now ++ c.args.added.now in
    let b = (goal.at.loop-id-preserved c).After-examine in
    let i = c.loop-id.invariant in
    let more = look_forced clauses (clause_of clauses (2 * c.loop-id.id)) c.loop-id.trail.entries c.examine.new.trail.entries c.loop-id.id (watched c.args.links.now.owner_of (2 * c.loop-id.id)) c.examine.result (named b) c.examine.ensures.looked c.if-examine.false in
    let next = examined_next clauses c.args.trail.now.vars c.args.links.now c.loop-id.id c.loop-id.trail c.examine.new.trail.entries c.examine.result i.watched i.free i.few (within b) c.examine.ensures.looked c.if-examine.false in
    let t : TrailView = record { vars = c.loop-id.trail.vars; entries = c.examine.new.trail.entries; taken = c.loop-id.trail.taken } in
    let same : t ≡ c.examine.new.trail = same_view t c.examine.new.trail (sym c.examine.ensures.vars) refl (sym c.examine.ensures.taken) in
    record {
      watched = subst (λ z. AreWatched clauses c.args.trail.now.vars c.args.links.now (c.loop-id.id + 1) z) same next.0;
      same = refl;
      free = next.1;
      few = (let q = forced_longer clauses c.loop-id.trail.entries c.examine.new.trail.entries more in let k = c.examine.ensures.taken in let w = i.few in omega arith);
      forced = forced_then clauses c.args.trail.now.entries c.loop-id.trail.entries c.examine.new.trail.entries i.forced more;
    }
