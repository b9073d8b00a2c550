use Rattle.std.proofs.Common.{◌≡◌, [], ◌∷◌, ◌++◌, map, take, get_or, sym, ap, ◌∙◌}
use Rattle.std.proofs.lemmas.List.{map-append, take_more}
use Rattle.go_block_core.specs.Naming.{imported_in}
use Rattle.go_package_core.proofs.package_part.shared.shared_imports.Goals as goal

pub loop-imports-preserved : goal.loop-imports-preserved
loop-imports-preserved c =
    let files = c.args.files.now in
    let i = c.loop-imports.imports-index in
    let item = c.imports-item.result in
    let made = c.in_ok-shared_file.field-0 in
    let is : imported_in made ≡ imported_in (get_or files i item) = c.in_ok-shared_file.ensures ∙ ap imported_in c.imports-item.is in
    ap (map imported_in) c.in_ok-add.ensures
    ∙ (map-append imported_in c.loop-imports.shared.items (made ∷ [])
    ∙ (ap (λ l. l ++ imported_in made ∷ []) c.loop-imports.invariant
    ∙ (ap (λ y. map imported_in (take i files) ++ y ∷ []) is
    ∙ (sym (map-append imported_in (take i files) (get_or files i item ∷ [])) ∙ ap (map imported_in) (sym (take_more files i item c.loop-imports-test.true))))))
