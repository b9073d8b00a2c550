use Rattle.std.proofs.Common.{◌++◌, map, sym, ap, ◌∙◌, append-nil}
use Rattle.go_declared_core.specs.typexpr_core.EntryOutlines.{outline_shown}
use Rattle.go_object_core.specs.Objects.{function_shown}
use Rattle.go_package_core.specs.package_part.Parts.{file_shown}
use Rattle.go_emit_core.specs.meaning.mirrors.Naming.{code_scene_shown}
use Rattle.go_emit_core.proofs.Ending.{functions_end}
use Rattle.go_emit_core.proofs.object.functions_of.Goals as goal

pub returns : goal.returns
returns c =
    let now = map function_shown c.loop-number.functions.items in
    let none = functions_end outline_shown file_shown (code_scene_shown c.args.names.now) c.loop-number.number c.shorter-number-end.result c.args.outlines.now c.args.files.now c.shorter-number-end.ensures.either c.loop-number-test.false in
    sym (append-nil now) ∙ (ap (λ l. now ++ l) (sym none) ∙ c.loop-number.invariant)
