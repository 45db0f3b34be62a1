-- A file of the name is replaced, else it is added behind the others.
use Rattle.std.proofs.Common.{◌≡◌, ◌++◌, ◌∷◌, [], None, Ok, Some, List, position, rules, sym, subst}
use Rattle.dg_base.specs.declared.outside.FileEntry.{FileEntry}
use Rattle.dg_base.specs.Outside.{Keeps}
use Rattle.dg_base.specs.MemState.{is_named}
use Rattle.dg_base.proofs.Files.{replaced, added}
use Rattle.dg_base.proofs.honest_desk.store.Goals as goal

pub returns-in-Some-clause-ok : goal.returns-in-Some-clause-ok
returns-in-Some-clause-ok c =
    let new : FileEntry = record { name = c.args.name; bytes = c.args.bytes } in
    let at : position (is_named c.args.name) c.args.files.now ≡ Some c.in-Some.at = cc in
    subst (λ fs. Keeps c.args.name c.args.bytes (Ok tt) c.args.files.now fs) (sym c.set.ensures) (replaced c.args.files.now new c.in-Some.at at)

pub returns-in-None-clause-ok : goal.returns-in-None-clause-ok
returns-in-None-clause-ok c =
    let new : FileEntry = record { name = c.args.name; bytes = c.args.bytes } in
    let nowhere : position (is_named c.args.name) c.args.files.now ≡ None = cc in
    let kept : Keeps c.args.name c.args.bytes (Ok tt) c.args.files.now (c.args.files.now ++ new ∷ []) = added c.args.files.now new nowhere in
    let holds : (fs : List FileEntry) → fs ≡ c.args.files.now ++ new ∷ [] → Keeps c.args.name c.args.bytes (Ok tt) c.args.files.now fs = λ fs e. subst (λ gs. Keeps c.args.name c.args.bytes (Ok tt) c.args.files.now gs) (sym e) kept in
    search (rules, holds)
