use Rattle.std.proofs.Common.{List, Option, map, ap, ◌∙◌}
use Rattle.std.specs.Option.{option_map}
use Rattle.go_term_core.specs.declared.term.TypeTerm.{TypeTerm}
use Rattle.go_term_core.specs.declared.term.Signature.{Signature}
use Rattle.go_declared_core.specs.typexpr_core.EntryOutlines.{outline_shown}
use Rattle.go_declared_core.specs.declared.face.Face.{Face}
use Rattle.go_declared_core.specs.Faces.{face_shown}
use Rattle.go_package_core.specs.package_part.Parts.{ContentOf}
use Rattle.go_emit_core.specs.meaning.mirrors.Naming.{code_scene_shown}
use Rattle.go_emit_core.proofs.MeaningOutlined.{scene_made}
use Rattle.go_emit_core.proofs.meaning.scene.names_of.Goals as goal

pub returns : goal.returns
returns c =
    scene_made c.args.tables.now c.args.part.now.input c.args.part.now.content (code_scene_shown c.in_ok-names.names) c.path.result.now (map (option_map face_shown) c.deref.result.now) (map outline_shown c.args.outlines.now)
    c.in_ok-names.ensures c.path.ensures c.requires
    (ap (λ (l : List (Option (Face TypeTerm Signature))). map (option_map face_shown) l) c.deref.ensures.value ∙ ap (λ (x : ContentOf). x.declared) c.content-content.ensures.value)
