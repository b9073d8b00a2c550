use Rattle.std.proofs.Common.{◌≡◌, map, length, ap, sym, ◌∙◌, subst}
use Rattle.std.proofs.lemmas.List.{length-map}
use Rattle.go_digraph_core.specs.needs.Needs.{NeedsAreInside, rows_of}
use Rattle.go_env_core.specs.Scenes.{scene_shown}
use Rattle.go_typexpr_core.specs.entry.Outlines.{outline_shown}
use Rattle.go_value_core.specs.Package.{placed_decls, placed_shown, package_needs}
use Rattle.std.specs.Prelude.{IfOk}
use Rattle.go_value_core.specs.mirrors.Kept.{constant_flags}
use Rattle.go_value_core.proofs.Seeing.{all_inside}
use Rattle.go_value_core.proofs.Keeping.{kept_from}
use Rattle.go_value_core.proofs.through.through_itself.Goals as goal

pub leading_back-requires : goal.leading_back-requires
leading_back-requires c =
    let s = scene_shown c.args.scene.now in
    let ds = map placed_shown c.in_ok-decls.decls.items in
    subst NeedsAreInside (sym (ap rows_of c.deref-2.ensures.value ∙ (c.in_ok-needs.ensures ∙ ap (λ l. package_needs s (map placed_shown l)) c.deref.ensures.value)))
    (all_inside s ds (c.requires.written ∙ sym (ap length c.in_ok-decls.ensures)))

pub returns : goal.returns
returns c =
    let s = scene_shown c.args.scene.now in
    let ds = placed_decls c.args.inlines.now (map outline_shown c.args.outlines.now) in
    let decls = c.in_ok-decls.decls.items in
    let r = c.of_constants.result in
    let rows : rows_of c.deref-2.result.now ≡ package_needs s (map placed_shown decls) = ap rows_of c.deref-2.ensures.value ∙ (c.in_ok-needs.ensures ∙ ap (λ l. package_needs s (map placed_shown l)) c.deref.ensures.value) in
    kept_from s ds (map placed_shown decls) (rows_of c.deref-2.result.now) c.in_ok-flags.flags.items r rows c.in_ok-decls.ensures c.in_ok-flags.ensures
    (subst (λ l. IfOk r (λ kept. kept.items ≡ constant_flags l (map placed_shown decls))) c.deref-3.ensures.value
    (subst (λ l. IfOk r (λ kept. kept.items ≡ constant_flags c.deref-3.result.now (map placed_shown l))) c.deref-4.ensures.value c.of_constants.ensures))
