use Rattle.std.proofs.Common.{◌≡◌, None, Err, rules, subst}
use Rattle.std.specs.List.{find}
use Rattle.toml.specs.View.{table_view}
use Rattle.portfolio.specs.Keys.{all_keys}
use Rattle.portfolio.specs.Faults.{has_bad_name, all_files, is_twice_in, IsLeast, NonePasses, IsOfKind, HasFault}
use Rattle.portfolio.specs.declared.fault.ManifestKind.TheVariants.{UnknownKey, NameTwice}
use Rattle.portfolio.specs.declared.manifest.Manifest.{Manifest}
use Rattle.portfolio.proofs.Refused.{of_kind}
use Rattle.portfolio.proofs.Only.{only_fault}
use Rattle.portfolio.proofs.read.read_manifest.Goals as goal

pub returns-in_err-check_unknown-clause-only : goal.returns-in_err-check_unknown-clause-only
returns-in_err-check_unknown-clause-only c =
    let fault = c.in_err-check_unknown.field-0.0 in
    let given : c.from_residual-in_err-check_unknown.result ≡ Err fault = search rules in
    let names = subst (λ (m : Manifest). find (has_bad_name m) all_keys ≡ None) c.in_ok-manifest.ensures c.in_ok-check_names.ensures.ok in
    let stands : HasFault (table_view c.args.table.now) fault =
    of_kind UnknownKey (table_view c.args.table.now) fault (c.in_ok-check_keys.ensures.ok, (c.in_ok-check_values.ensures.ok, names)) c.in_err-check_unknown.ensures.err in
    rw given (only_fault (table_view c.args.table.now) fault stands)

pub returns-in_err-check_repeated-clause-err : goal.returns-in_err-check_repeated-clause-err
returns-in_err-check_repeated-clause-err c =
    let fault = c.in_err-check_repeated.field-0.0 in
    let given : c.from_residual-in_err-check_repeated.result ≡ Err fault = search rules in
    let names = subst (λ (m : Manifest). find (has_bad_name m) all_keys ≡ None) c.in_ok-manifest.ensures c.in_ok-check_names.ensures.ok in
    let twice = subst (λ (m : Manifest). IsOfKind NameTwice (IsLeast (is_twice_in (all_files m))) fault) c.in_ok-manifest.ensures c.in_err-check_repeated.ensures.err in
    rw given (of_kind NameTwice (table_view c.args.table.now) fault (c.in_ok-check_keys.ensures.ok, (c.in_ok-check_values.ensures.ok, (names, c.in_ok-check_unknown.ensures.ok))) twice)

pub returns-in_err-check_repeated-clause-only : goal.returns-in_err-check_repeated-clause-only
returns-in_err-check_repeated-clause-only c =
    let fault = c.in_err-check_repeated.field-0.0 in
    let given : c.from_residual-in_err-check_repeated.result ≡ Err fault = search rules in
    let names = subst (λ (m : Manifest). find (has_bad_name m) all_keys ≡ None) c.in_ok-manifest.ensures c.in_ok-check_names.ensures.ok in
    let twice = subst (λ (m : Manifest). IsOfKind NameTwice (IsLeast (is_twice_in (all_files m))) fault) c.in_ok-manifest.ensures c.in_err-check_repeated.ensures.err in
    let stands : HasFault (table_view c.args.table.now) fault =
    of_kind NameTwice (table_view c.args.table.now) fault (c.in_ok-check_keys.ensures.ok, (c.in_ok-check_values.ensures.ok, (names, c.in_ok-check_unknown.ensures.ok))) twice in
    rw given (only_fault (table_view c.args.table.now) fault stands)

pub returns-clause-free : goal.returns-clause-free
returns-clause-free c =
    let names = subst (λ (m : Manifest). find (has_bad_name m) all_keys ≡ None) c.in_ok-manifest.ensures c.in_ok-check_names.ensures.ok in
    let once = subst (λ (m : Manifest). NonePasses (is_twice_in (all_files m))) c.in_ok-manifest.ensures c.in_ok-check_repeated.ensures.ok in
    ((c.in_ok-check_keys.ensures.ok, (c.in_ok-check_values.ensures.ok, (names, c.in_ok-check_unknown.ensures.ok))), once)
