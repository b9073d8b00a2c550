use Rattle.std.proofs.Common.{◌≡◌, ◌+◌, ◌∷◌, [], ◌++◌, take, sym, ap, ◌∙◌, subst}
use Rattle.std.proofs.lemmas.List.{take_more}
use Rattle.go_term_core.specs.Shapes.{method_shapes}
use Rattle.go_select_core.specs.table_core.Entries.{find_entry}
use Rattle.go_mset_core.specs.mirrors.Asking.{holder_shown, text_shown, IsLeastMissing}
use Rattle.go_mset_core.proofs.Answering.{least_next}
use Rattle.go_mset_core.proofs.interface.first_missing.Goals as goal

pub methods-preserved : goal.methods-preserved
methods-preserved c =
    let look = find_entry c.args.table.now in
    let t = holder_shown c.args.holder in
    let path = c.args.path.now in
    let ms = c.args.methods.now in
    let i = c.methods.method-index in
    let m = c.method-item.result in
    let next = c.in_ok-missing.missing in
    let more : take (i + 1) ms ≡ take i ms ++ m ∷ [] = take_more ms i m c.methods-test.true ∙ ap (λ x. take i ms ++ x ∷ []) (sym c.method-item.is) in
    subst (λ xs. IsLeastMissing look t path (method_shapes xs) (text_shown next)) (sym more) (least_next look t path (take i ms) m (text_shown c.methods.missing) (text_shown next) c.in_ok-missing.ensures c.methods.invariant)
