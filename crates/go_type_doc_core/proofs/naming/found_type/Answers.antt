use Rattle.std.proofs.Common.{map, ap, ◌∙◌}
use Rattle.std.specs.Prelude.{option_map}
use Rattle.std.proofs.lemmas.Result.{IfErr-weaker, IfOk-weaker}
use Rattle.go_summary_core.specs.declared_core.Faces.{face_shown}
use Rattle.go_package_core.specs.package_part.Parts.{ContentOf}
use Rattle.go_names_core.specs.scope_core.Scopes.{denoted_of}
use Rattle.go_term_core.specs.Shapes.{shape}
use Rattle.go_type_doc_core.proofs.Answered.{refused_own, typed_own}
use Rattle.go_type_doc_core.proofs.naming.found_type.Goals as goal

pub returns-in-Ok-clause-ok : goal.returns-in-Ok-clause-ok
returns-in-Ok-clause-ok c =
    let known = ap (λ fs. map (option_map face_shown) fs) c.deref.ensures.value ∙ ap (λ (x : ContentOf). x.declared) c.content-content.ensures.value in
    IfOk-weaker c.type_in_scope.result _ _ (λ t h. typed_own c.args.part.now (denoted_of c.args.found) _ c.path.ensures c.in-Ok.written c.in-Ok.ensures _ known (option_map shape t) h) c.type_in_scope.ensures.ok

pub returns-in-Ok-clause-err : goal.returns-in-Ok-clause-err
returns-in-Ok-clause-err c =
    let known = ap (λ fs. map (option_map face_shown) fs) c.deref.ensures.value ∙ ap (λ (x : ContentOf). x.declared) c.content-content.ensures.value in
    IfErr-weaker c.type_in_scope.result _ _ (λ rule h. refused_own c.args.part.now (denoted_of c.args.found) _ c.path.ensures c.in-Ok.written c.in-Ok.ensures _ known rule h) c.type_in_scope.ensures.err
