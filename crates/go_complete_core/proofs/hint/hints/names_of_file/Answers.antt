use Rattle.std.proofs.Common.{map, refl, ap, ◌∙◌}
use Rattle.std.specs.Option.{option_map}
use Rattle.go_typexpr_core.specs.entry.Outlines.{outline_shown}
use Rattle.go_candidate_core.specs.declared_core.Faces.{face_shown}
use Rattle.go_package_core.specs.prepare.Packages.{package_in_shown}
use Rattle.go_cursor_core.specs.Spots.{spot_seen}
use Rattle.go_package_core.specs.Checked.{local_shown}
use Rattle.go_package_core.specs.package_part.Parts.{ContentOf, file_shown}
use Rattle.go_complete_core.specs.hint.Hints.{shown_alone}
use Rattle.go_complete_core.proofs.HintGiving.{named_by}
use Rattle.go_complete_core.proofs.hint.hints.names_of_file.Goals as goal

pub returns : goal.returns
returns g c =
    let home = c.in_ok-home.ensures ∙ (c.in_ok-path.ensures ∙ c.path.ensures) in
    let known = ap (λ fs. map (option_map face_shown) fs) c.deref.ensures.value ∙ ap (λ (x : ContentOf). x.declared) c.content-content.ensures.value in
    named_by c.args.part.now (package_in_shown shown_alone c.args.at.now) c.args.types.now c.requires.seen c.args.number (spot_seen c.args.found.now) c.imports_decide.ensures c.in_ok-names.names.items _ _ _ _ _ _ (outline_shown c.args.outline.now) (file_shown c.args.file.now)
    known c.requires.names home c.requires.written refl (ap (λ ls. map local_shown ls) c.deref-2.ensures.value) c.requires.outline c.requires.file c.in_ok-names.ensures
