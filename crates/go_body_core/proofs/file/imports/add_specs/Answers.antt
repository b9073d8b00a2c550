use Rattle.std.proofs.Common.{inl, inr}
use Rattle.std.proofs.lemmas.Slice.Zip.{Zip-more, either_empty_from_Zip}
use Rattle.go_body_core.proofs.FileImporting.{import_step, no_specs, none_given}
use Rattle.go_body_core.proofs.file.imports.add_specs.Goals as goal

pub loop-spec-preserved : goal.loop-spec-preserved
loop-spec-preserved c =
    let more = Zip-more c.loop-spec.spec-iterator c.next.new.self c.next.result (c.in-Some.spec, c.in-Some.given) c.in-Some.is c.next.ensures.steps in
    import_step _ _ _ _ c.in-Some.spec.now c.in-Some.given.now _ _ _ more.0 more.1 c.in_ok-add_import.ensures c.loop-spec.invariant

pub returns : goal.returns
returns c =
    elim (either_empty_from_Zip c.loop-spec.spec-iterator c.next.new.self c.next.result c.in-None.is c.next.ensures.steps) [
      | inl e ↦ no_specs _ _ _ _ e c.loop-spec.invariant
      | inr e ↦ none_given _ _ _ _ e c.loop-spec.invariant
    ]
