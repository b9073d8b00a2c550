use Rattle.std.proofs.Common.{map, length, ap, sym, subst, ◌∙◌}
use Rattle.std.proofs.lemmas.List.{length-map}
use Rattle.go_body_core.specs.typexpr_core.EntryOutlines.{outline_shown}
use Rattle.go_report_core.specs.declared_core.Written.{decls_of}
use Rattle.go_body_core.specs.env_core.Scenes.{scene_shown}
use Rattle.go_value_core.specs.Laws.{AreFaces}
use Rattle.go_value_core.specs.Package.{AreThroughThemselves}
use Rattle.go_report_core.specs.answer.Shown.{package_shown}
use Rattle.std.specs.List.{AllZip, enumerate_from}
use Rattle.go_package_core.specs.prepare.Packages.{package_in_shown, scene_in}
use Rattle.go_package_core.proofs.PrepareTables.{looped_written, values_written}
use Rattle.go_package_core.specs.Checked.{IsFileChecked, answers_shown}
use Rattle.go_package_core.specs.mirrors.Stages.{IsReady}
use Rattle.go_package_core.proofs.Stages.{as_made, checked_is, initial_many, scene_is, written_many}
use Rattle.go_package_core.proofs.at_once.check_ready_at_once.Goals as goal

pub declare-requires-clause-files : goal.declare-requires-clause-files
declare-requires-clause-files g c =
    let p = package_in_shown g.P.ImportedNames.shows c.args.at.now in
    initial_many p c.args.types.now c.deref.result.now (map outline_shown c.args.outlines.now) (c.deref.ensures.value ∙ c.requires.ready.initial) c.requires.outlines ∙ length-map c.args.outlines.now outline_shown

pub declare-requires-clause-written : goal.declare-requires-clause-written
declare-requires-clause-written g c =
    let p = package_in_shown g.P.ImportedNames.shows c.args.at.now in
    written_many p c.args.types.now c.scene_of-scene.result.written.now c.deref.result.now (map outline_shown c.args.outlines.now) (ap (λ s. s.written) c.scene_of-scene.ensures ∙ c.requires.ready.written) c.requires.outlines

pub check_files_at_once-requires-clause-scene : goal.check_files_at_once-requires-clause-scene
check_files_at_once-requires-clause-scene g c κs within =
    let p = package_in_shown g.P.ImportedNames.shows c.args.at.now in
    let s = scene_shown c.scene_of-scene.result in
    let same = ap (λ x. x.types) c.scene_of-scene.ensures in
    scene_is p c.args.types.now s c.args.ready.now.home c.args.ready.now.written c.scene_of-scene.ensures c.requires.ready.home c.requires.ready.written ∙ ap (scene_in p) (sym same)

pub check_files_at_once-requires-clause-ready : goal.check_files_at_once-requires-clause-ready
check_files_at_once-requires-clause-ready g c κs within =
    let p = package_in_shown g.P.ImportedNames.shows c.args.at.now in
    let same = ap (λ x. x.types) c.scene_of-scene.ensures in
    subst (λ types. IsReady p types c.args.ready.now) (sym same) c.requires.ready

pub check_files_at_once-requires-clause-looped : goal.check_files_at_once-requires-clause-looped
check_files_at_once-requires-clause-looped g c κs within =
    let p = package_in_shown g.P.ImportedNames.shows c.args.at.now in
    let types = c.args.types.now in
    let flags = c.in_ok-declared.declared.looped.items in
    let s = scene_shown c.scene_of-scene.result in
    let scene = scene_is p types s c.args.ready.now.home c.args.ready.now.written c.scene_of-scene.ensures c.requires.ready.home c.requires.ready.written in
    let made = as_made p types s c.deref.result.now (map outline_shown c.args.outlines.now) (λ x ds. AreThroughThemselves x ds flags) scene (c.deref.ensures.value ∙ c.requires.ready.initial) c.requires.outlines c.in_ok-declared.ensures.looped in
    (looped_written p types flags made).as_many

pub returns-clause-checked : goal.returns-clause-checked
returns-clause-checked g c far table of_types =
    let p = package_in_shown g.P.ImportedNames.shows c.args.at.now in
    let types = c.args.types.now in
    let d = c.in_ok-declared.declared in
    let s = scene_shown c.scene_of-scene.result in
    let initial = c.deref.ensures.value ∙ c.requires.ready.initial in
    let os = map outline_shown c.args.outlines.now in
    let scene = scene_is p types s c.args.ready.now.home c.args.ready.now.written c.scene_of-scene.ensures c.requires.ready.home c.requires.ready.written in
    let made = as_made p types s c.deref.result.now os (λ x ds. AreFaces x ds d.known.items) scene initial c.requires.outlines c.in_ok-declared.ensures.known in
    let loops = as_made p types s c.deref.result.now os (λ x ds. AreThroughThemselves x ds d.looped.items) scene initial c.requires.outlines c.in_ok-declared.ensures.looped in
    let files =
    subst (λ fs. AllZip (IsFileChecked p types d.known.items fs d.looped.items) (enumerate_from 0 p.trees) (map answers_shown c.in_ok-files.files.items)) c.deref-2.ensures.value
    (subst (λ ts. AllZip (IsFileChecked p ts d.known.items c.deref-2.result.now d.looped.items) (enumerate_from 0 p.trees) (map answers_shown c.in_ok-files.files.items)) (ap (λ x. x.types) c.scene_of-scene.ensures) c.in_ok-files.ensures) in
    let faces =
    c.in_ok-faces.ensures
    ∙ (ap (λ path. package_shown path p.blocks (decls_of c.args.ready.now.written) c.deref-3.result.now) c.path.ensures
    ∙ (ap (λ ws. package_shown p.path p.blocks (decls_of ws) c.deref-3.result.now) c.requires.ready.written
    ∙ ap (package_shown p.path p.blocks _) c.deref-3.ensures.value)) in
    checked_is p far c.args.own.types.entries types c.args.own.faults.items d.known.items _ d.looped.items (map answers_shown c.in_ok-files.files.items) c.in_ok-faces.faces table of_types
    (values_written p types d.known.items c.requires.placed made) (looped_written p types d.looped.items loops) files faces (c.in_ok-held_faces.ensures ∙ c.deref-4.ensures.value)
