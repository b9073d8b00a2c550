use Rattle.std.proofs.Common.{List, ℕ, subst}
use Rattle.go_path_core.specs.Path.{MayImport, elements}
use Rattle.go_import_core.proofs.ListStandings.{usable}
use Rattle.go_import_core.proofs.list.listing.may_use.Goals as goal

pub returns : goal.returns
returns c =
    let may = subst (λ (p : List ℕ). MayImport (elements c.args.from.now) (elements p)) c.path.ensures (c.may_import.ensures.0 c.if-not-may_import.false) in
    usable c.args.from.now c.args.source.now c.in_ok-standing.standing c.is_library.result may c.in_ok-standing.ensures c.is_library.ensures
