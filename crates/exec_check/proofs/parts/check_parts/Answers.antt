use Rattle.std.proofs.Common.{◌≡◌, true, false, Some, None, rules}
use Rattle.std.specs.List.{list_any}
use Rattle.std.specs.Prelude.{codes, unwrap_or, length}
use Rattle.c_rules.specs.Names.{Name}
use Rattle.run_model.specs.Names.{first_named}
use Rattle.exec_check.specs.ThreadTests as tests
use Rattle.exec_check.proofs.Present.{main_found, main_missing, rising_none, rising_some, all_known, one_unknown}
use Rattle.exec_check.proofs.parts.check_parts.Goals as goal

pub returns-then-not-has_main-clause-broken : goal.returns-then-not-has_main-clause-broken
returns-then-not-has_main-clause-broken c =
    let n : c.main_number.result ≡ unwrap_or (first_named (λ (m : Name). m) 0 c.args.checked.now.functions (codes "main")) 0 = search rules in
    let t : list_any (tests.is_main c.main_number.result) c.args.parts.now ≡ false = cc in
    main_missing c.args.checked.now c.args.parts.now c.main_number.result c.requires n t

pub returns-in-Some-clause-broken : goal.returns-in-Some-clause-broken
returns-in-Some-clause-broken c =
    let n : c.main_number.result ≡ unwrap_or (first_named (λ (m : Name). m) 0 c.args.checked.now.functions (codes "main")) 0 = search rules in
    let t : list_any (tests.is_main c.main_number.result) c.args.parts.now ≡ true = cc in
    let r : tests.not_rising 0 c.args.parts.now ≡ Some c.in-Some.handle = cc in
    (main_found c.args.checked.now c.args.parts.now c.main_number.result c.requires n t, rising_some c.args.parts.now c.in-Some.handle r)

pub returns-in-Some-unknown-clause-broken : goal.returns-in-Some-unknown-clause-broken
returns-in-Some-unknown-clause-broken c =
    let n : c.main_number.result ≡ unwrap_or (first_named (λ (m : Name). m) 0 c.args.checked.now.functions (codes "main")) 0 = search rules in
    let t : list_any (tests.is_main c.main_number.result) c.args.parts.now ≡ true = cc in
    let r : tests.not_rising 0 c.args.parts.now ≡ None = cc in
    let u : tests.first_not (tests.is_known c.len.result) tests.handle_of c.args.parts.now ≡ Some c.in-Some-unknown.handle = cc in
    let l : c.len.result ≡ length c.args.checked.now.functions = cc in
    (main_found c.args.checked.now c.args.parts.now c.main_number.result c.requires n t, rising_none c.args.parts.now r, one_unknown c.args.checked.now c.args.parts.now c.len.result c.in-Some-unknown.handle c.requires l u)

pub returns-clause-known : goal.returns-clause-known
returns-clause-known c =
    let n : c.main_number.result ≡ unwrap_or (first_named (λ (m : Name). m) 0 c.args.checked.now.functions (codes "main")) 0 = search rules in
    let t : list_any (tests.is_main c.main_number.result) c.args.parts.now ≡ true = cc in
    let r : tests.not_rising 0 c.args.parts.now ≡ None = cc in
    let u : tests.first_not (tests.is_known c.len.result) tests.handle_of c.args.parts.now ≡ None = cc in
    let l : c.len.result ≡ length c.args.checked.now.functions = cc in
    record { main = main_found c.args.checked.now c.args.parts.now c.main_number.result c.requires n t; rising = rising_none c.args.parts.now r; known = all_known c.args.checked.now c.args.parts.now c.len.result c.requires l u }
