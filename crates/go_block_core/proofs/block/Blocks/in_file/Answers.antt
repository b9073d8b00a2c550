use Rattle.std.proofs.Common.{◌≡◌, Some, None, option_map, slice_get, map, length, refl, sym, ap, ◌∙◌}
use Rattle.std.proofs.lemmas.Option.{slice_get_read, slice_get_past, slice_get-map}
use Rattle.go_block_core.specs.Tables.{block_of}
use Rattle.go_block_core.specs.Blocks.{file_has, in_some}
use Rattle.go_block_core.proofs.block.Blocks.in_file.Goals as goal

pub returns-in-Some : goal.returns-in-Some
returns-in-Some c =
    let b = c.self.inside in
    let read = slice_get_read c.deref.result.now (length c.deref.result.now) c.args.file c.in-Some.table.now refl c.in-Some.ensures.lookup.3.0 c.in-Some.ensures.lookup.1 in
    let at : slice_get (map block_of b.files.items) c.args.file ≡ Some (block_of c.in-Some.table.now) = slice_get-map block_of b.files.items c.args.file ∙ ap (option_map block_of) (ap (λ fs. slice_get fs c.args.file) (sym c.deref.ensures.value) ∙ read) in
    c.find.ensures
    ∙ (ap (λ o. in_some o c.args.name.now) (sym at)
    ∙ ap (λ m. file_has m c.args.file c.args.name.now) c.self.view_is)

pub returns-in-None : goal.returns-in-None
returns-in-None c =
    let b = c.self.inside in
    let past = slice_get_past c.deref.result.now c.args.file c.in-None.ensures.lookup.3 in
    let at : slice_get (map block_of b.files.items) c.args.file ≡ None = slice_get-map block_of b.files.items c.args.file ∙ ap (option_map block_of) (ap (λ fs. slice_get fs c.args.file) (sym c.deref.ensures.value) ∙ past) in
    ap (λ o. in_some o c.args.name.now) (sym at)
    ∙ ap (λ m. file_has m c.args.file c.args.name.now) c.self.view_is
