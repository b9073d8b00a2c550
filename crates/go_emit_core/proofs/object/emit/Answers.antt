use Rattle.std.proofs.Common.{map, sym, ap, ◌∙◌}
use Rattle.go_object_core.specs.Objects.{object_shown}
use Rattle.go_package_core.specs.package_part.Parts.{ContentOf, file_shown}
use Rattle.go_emit_core.specs.Emitted.{are_clean}
use Rattle.go_emit_core.proofs.Tabled.{clean_object}
use Rattle.go_emit_core.proofs.object.emit.Goals as goal

pub returns-in_ok-object : goal.returns-in_ok-object
returns-in_ok-object c =
    let files = ap (λ l. map file_shown l) c.deref.ensures.value ∙ ap (λ (x : ContentOf). x.files) c.content.ensures.value in
    clean_object c.args.part.now.input c.args.part.now.content (object_shown c.in_ok-object.object) c.in_ok-object.ensures (sym (ap are_clean files) ∙ (sym c.are_clean.ensures ∙ c.if-are_clean.true))
