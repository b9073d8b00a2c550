-- The functions to which a part's references to its own lead are its own.
use Rattle.std.proofs.Common.{◌≡◌, Some, refl, sym, ap, subst, ◌∙◌}
use Rattle.std.specs.Prelude.{slice_get}
use Rattle.go_emit_core.specs.package_core.PackagePartInputs.{path_in}
use Rattle.go_emit_core.specs.package_core.PackagePartParts.{PartModel}
use Rattle.go_emit_core.specs.package_core.PackagePartSlots.{somes}
use Rattle.go_body_core.specs.typexpr_core.EntryAmong.{among_from}
use Rattle.go_snap_core.specs.whole_workspace.Inputs.{Tells}
use Rattle.go_snap_core.proofs.WholeWorkspaceParts.{path_told, told_apart}
use Rattle.go_snap_core.proofs.WholeWorkspacePartsWhole.{all_right}
use Rattle.go_program_laws.specs.checked_sources.Statements.{AreOverEach}
use Rattle.go_program_laws.specs.types.Functions.{function_looks}
use Rattle.go_program_laws.proofs.FaultlessAlike.{numbered_in}
use Rattle.go_program_laws.specs.references.Callees.{ReferencesLeadToFunctions}
use Rattle.go_program_laws.specs.references.Callers.{IsOwnFunction, OwnCalleesTakeWords, OwnReferencesTakeWords, PartsOfAPathAreOne}

pub one_part : PartsOfAPathAreOne
one_part ws parts well made p q hp hq e =
    let right = all_right ws parts made in
    let a = numbered_in parts p (among_from (somes parts) p hp) in
    let b = numbered_in parts q (among_from (somes parts) q hq) in
    let first : Tells parts a.number p.content.summary = record { of_part = p; there = a.there; is = refl } in
    let other : Tells parts b.number q.content.summary = record { of_part = q; there = b.there; is = refl } in
    let number : a.number ≡ b.number =
    told_apart ws parts well right a.number b.number p.content.summary q.content.summary first other
    (path_told ws parts well right a.number p.content.summary first ∙ (e ∙ sym (path_told ws parts well right b.number q.content.summary other))) in
    let both : Some (Some p) ≡ Some (Some q) = sym a.there ∙ (ap (λ n. slice_get parts n) number ∙ b.there) in
    let same : p ≡ q = cc both in
    same

pub own_references : PartsOfAPathAreOne → ReferencesLeadToFunctions → OwnCalleesTakeWords → OwnReferencesTakeWords
own_references one leads callees ws parts as_read made main r runnable p there d s own number is reached =
    let at = leads ws parts as_read made (path_in p.input) d number is in
    let same = one ws parts as_read.well made at.part p at.there there at.of_path in
    record {
      at = at;
      same = same;
      taken = λ n t all. (
          let w = callees ws parts as_read made main r runnable (path_in p.input) d number reached at s (subst (λ (x : PartModel). IsOwnFunction x.input x.content d s) (sym same) own) n t all in
          (w.0, w.1, subst (λ (x : PartModel). AreOverEach (function_looks x.input x.content n t all).types w.0 ((function_looks x.input x.content n t all).params s)) same w.2)
          );
    }
