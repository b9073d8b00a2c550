use Rattle.std.proofs.Common.{◌≡◌, sym, subst}
use Rattle.go_select_core.specs.table_core.Entries.{find_entry}
use Rattle.go_term_core.specs.Shapes.{shape}
use Rattle.go_mset_core.specs.MethodLists.{IsMethodSet}
use Rattle.go_mset_core.specs.mirrors.Keeping.{kept}
use Rattle.go_mset_core.proofs.MethodSorts.{set_of_kept, ok_then}
use Rattle.go_mset_core.proofs.methods.method_set.Goals as goal

pub returns : goal.returns
returns c =
    let found = c.in_ok-selections.field-0.items in
    let look = find_entry c.args.table.now in
    let t = shape c.args.term.now in
    ok_then c.keep.result (λ ms. ms.items ≡ kept found) (λ ms. IsMethodSet look t ms.items) (λ ms e. subst (λ xs. IsMethodSet look t xs) (sym e) (set_of_kept look t found c.in_ok-selections.ensures)) c.keep.ensures
