use Rattle.std.proofs.Common.{Vec, Option, map, refl, ap}
use Rattle.std.specs.Global.{Global}
use Rattle.std.specs.Option.{option_map}
use Rattle.go_term_core.specs.declared.term.TypeTerm.{TypeTerm}
use Rattle.go_term_core.specs.declared.term.Signature.{Signature}
use Rattle.go_body_core.specs.typexpr_core.EntryShowing.{shown_in}
use Rattle.go_report_core.specs.declared_core.declared.face.Face.{Face}
use Rattle.go_report_core.specs.declared_core.Faces.{face_shown}
use Rattle.go_package_core.specs.Checked.{checked_shown}
use Rattle.go_package_core.specs.package_part.Parts.{part_content_shown, seen_with}
use Rattle.go_package_core.proofs.PackagePartChecks.{files_many, of_path}
use Rattle.go_package_core.proofs.PackagePartMade.{made_is}
use Rattle.go_package_core.proofs.package_part.at_once.compile_over_at_once.Goals as goal

pub content_of-requires-clause-faces : goal.content_of-requires-clause-faces
content_of-requires-clause-faces g c = of_path _ _ (checked_shown c.in_ok-checked.checked) c.in_ok-checked.ensures.checked

pub content_of-requires-clause-many : goal.content_of-requires-clause-many
content_of-requires-clause-many g c = files_many _ _ c.in_ok-checked.checked c.in_ok-checked.ensures.checked

pub returns-clause-made : goal.returns-clause-made
returns-clause-made g c =
    let seen = c.args.seen.now in
    let declared = ap (λ (d : Vec (Option (Face TypeTerm Signature)) Global). map (option_map face_shown) d.items) c.in_ok-content.ensures.declared in
    made_is c.args.input.now (seen_with seen.types (shown_in seen.shown) seen.faces) c.in_ok-blocks.blocks (checked_shown c.in_ok-checked.checked) c.in_ok-checked.checked.types (part_content_shown c.in_ok-content.content)
    c.in_ok-blocks.ensures c.in_ok-checked.ensures.checked c.in_ok-checked.ensures.path refl c.in_ok-content.ensures.blocks declared c.in_ok-content.ensures.files c.in_ok-content.ensures.summary
