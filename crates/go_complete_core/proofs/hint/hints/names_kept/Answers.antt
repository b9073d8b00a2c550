use Rattle.std.proofs.Common.{List, map, ap, ◌∙◌}
use Rattle.go_package_core.specs.prepare.Packages.{package_in_shown}
use Rattle.go_cursor_core.specs.Spots.{spot_seen}
use Rattle.go_package_core.specs.declared.package_part.files.PartFile.{PartFile}
use Rattle.go_package_core.specs.package_part.Parts.{ContentOf, file_shown}
use Rattle.go_complete_core.specs.hint.Hints.{shown_alone}
use Rattle.go_complete_core.proofs.HintGiving.{item_none, item_there, kept_there, nothing_kept}
use Rattle.go_complete_core.proofs.hint.hints.names_kept.Goals as goal

pub names_of_file-requires-clause-file : goal.names_of_file-requires-clause-file
names_of_file-requires-clause-file g c =
    let files = ap (λ (fs : List PartFile). map file_shown fs) c.deref.ensures.value ∙ ap (λ (x : ContentOf). x.files) c.content-content.ensures.value in
    kept_there c.deref.result.now c.args.part.now.content.files c.args.number c.in-Some.file.now files (item_there c.deref.result.now c.args.number c.get.result c.in-Some.file c.get.ensures.lookup c.in-Some.is)

pub returns-in-None : goal.returns-in-None
returns-in-None g c =
    let files = ap (λ (fs : List PartFile). map file_shown fs) c.deref.ensures.value ∙ ap (λ (x : ContentOf). x.files) c.content-content.ensures.value in
    nothing_kept c.args.part.now (package_in_shown shown_alone c.args.at.now) c.args.types.now c.requires.seen c.args.number (spot_seen c.args.found.now) c.new.result.items c.deref.result.now files
    (item_none c.deref.result.now c.args.number c.get.result c.get.ensures.lookup c.in-None.is)
