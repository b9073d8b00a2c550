use Rattle.std.proofs.Common.{Bor, List, Some, map, string_bytes, subst, sym, ℕ}
use Rattle.std.specs.Option.{option_map}
use Rattle.go_diagnostic_core.specs.Near.{IsSuggested}
use Rattle.go_diagnostic_core.specs.Suggestions.{AreImportablePaths}
use Rattle.go_diagnostic_core.proofs.suggesting.nearest_import.Goals as goal

pub returns-in-Some : goal.returns-in-Some
returns-in-Some c =
    let spelled = c.args.spelled.now in
    let names = map string_bytes c.deref.result.now in
    let are = subst (λ items. AreImportablePaths c.args.snapshot.now c.args.path.now (map string_bytes items)) (sym c.deref.ensures.value) c.in_ok-paths.ensures in
    let lent = subst (λ found. IsSuggested spelled names (option_map (λ (n : Bor (List ℕ)). n.now) found)) c.in-Some.is c.in_ok-name.ensures in
    let own = subst (λ name. IsSuggested spelled names (Some name)) (sym c.in_ok-from_str-in-Some.ensures.ok) lent in
    (names, are, own)

pub returns : goal.returns
returns c =
    let spelled = c.args.spelled.now in
    let names = map string_bytes c.deref.result.now in
    let are = subst (λ items. AreImportablePaths c.args.snapshot.now c.args.path.now (map string_bytes items)) (sym c.deref.ensures.value) c.in_ok-paths.ensures in
    let none = subst (λ found. IsSuggested spelled names (option_map (λ (n : Bor (List ℕ)). n.now) found)) c.in-None.is c.in_ok-name.ensures in
    (names, are, none)
