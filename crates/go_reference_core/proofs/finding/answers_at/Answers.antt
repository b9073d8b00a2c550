use Rattle.std.proofs.Common.{◌≡◌, length, map, Some, None, refl, slice_get, ap, subst, ◌∙◌}
use Rattle.std.proofs.lemmas.Option.{slice_get_past, slice_get_read}
use Rattle.go_query_core.specs.package_core.PackagePartParts.{ContentOf, file_shown}
use Rattle.go_reference_core.proofs.Found.{mapped_at, mapped_past}
use Rattle.go_reference_core.proofs.finding.answers_at.Goals as goal

pub returns-in-Some : goal.returns-in-Some
returns-in-Some c =
    let files = c.deref.result.now in
    let x = c.in-Some.made.now in
    let all : map file_shown files ≡ c.args.part.now.content.files = ap (map file_shown) c.deref.ensures.value ∙ ap (λ (x : ContentOf). x.files) c.content.ensures.value in
    let look = c.in-Some.ensures.lookup in
    let read : slice_get files c.args.file ≡ Some x = slice_get_read files (length files) c.args.file x refl look.3.0 look.1 in
    (file_shown x, subst (λ fs. slice_get fs c.args.file ≡ Some (file_shown x)) all (mapped_at file_shown files c.args.file x read), c.as_slice.ensures.value)

pub returns-in-None : goal.returns-in-None
returns-in-None c =
    let files = c.deref.result.now in
    let all : map file_shown files ≡ c.args.part.now.content.files = ap (map file_shown) c.deref.ensures.value ∙ ap (λ (x : ContentOf). x.files) c.content.ensures.value in
    subst (λ fs. slice_get fs c.args.file ≡ None) all (mapped_past file_shown files c.args.file (slice_get_past files c.args.file c.in-None.ensures.lookup.3))
