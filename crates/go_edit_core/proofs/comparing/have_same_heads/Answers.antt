use Rattle.std.proofs.Common.{◌≡◌, Some, get_or, sym, ap, ◌∙◌}
use Rattle.std.specs.Prelude.{slice_get}
use Rattle.std.proofs.lemmas.Option.{get_or_from_slice_get}
use Rattle.go_edit_core.proofs.Differing.{same_outside_one}
use Rattle.go_edit_core.proofs.comparing.have_same_heads.Goals as goal

pub compare-requires : goal.compare-requires
compare-requires c =
    let qs = c.args.current.now in
    let n = c.args.number in
    let q = c.index-packages-number.result in
    let is : q ≡ get_or qs n q = c.index-packages-number.is ∙ ap (λ l. get_or l n q) c.packages.ensures.packages in
    let at : slice_get qs n ≡ Some q = c.requires.here ∙ ap Some (sym (is ∙ get_or_from_slice_get qs n c.requires.other q c.requires.here)) in
    same_outside_one c.args.earlier.now qs n c.in-Ok.own q c.requires at (sym (c.in-Ok.ensures.ok.0 ∙ (c.as_str.ensures.text ∙ c.path-path.ensures)))
