use Rattle.std.proofs.Common.{◌≡◌, length, Some, slice_get, refl, ap, ◌∙◌}
use Rattle.std.proofs.lemmas.Option.{slice_get_read}
use Rattle.go_graph_core.specs.Sources.{SourceModel}
use Rattle.go_site_core.specs.Sites.{held_items, offset_among, offsets_in}
use Rattle.go_site_core.proofs.Locating.{located_there, paired}
use Rattle.go_site_core.proofs.spelling.locate.Goals as goal

pub returns : goal.returns
returns c =
    let n = c.file_number-number.result in
    let s = c.in_ok-file.file.now in
    let here : slice_get c.args.files.now n ≡ Some s = slice_get_read c.args.files.now (length c.args.files.now) n s refl c.in_ok-file.ensures.lookup.3.0 c.in_ok-file.ensures.lookup.1 in
    let there : slice_get c.args.offsets.now n ≡ Some c.in_ok-declared.declared.now =
    slice_get_read c.args.offsets.now (length c.args.offsets.now) n c.in_ok-declared.declared.now refl c.in_ok-declared.ensures.lookup.3.0 c.in_ok-declared.ensures.lookup.1 in
    let same : c.as_slice.result.now ≡ offsets_in s.content =
    c.as_slice.ensures.value ∙ paired held_items (λ (f : SourceModel). offsets_in f.content) c.args.offsets.now c.args.files.now n c.in_ok-declared.declared.now s c.requires there here in
    c.at_offset.ensures ∙ located_there c.args.files.now c.args.place n s c.offset_among.result c.file_number-number.ensures here (c.offset_among.ensures ∙ ap (λ l. offset_among l c.args.place) same)
