use Rattle.std.proofs.Common.{◌++◌, map, sym, ap, ◌∙◌, append-nil}
use Rattle.std.specs.Option.{option_map}
use Rattle.go_declared_core.specs.Faces.{face_shown}
use Rattle.go_emit_core.specs.lookup.mirrors.Spotting.{item_shown}
use Rattle.go_emit_core.proofs.MeaningEnding.{own_end}
use Rattle.go_emit_core.proofs.meaning.scene.own_items.Goals as goal

pub returns : goal.returns
returns c =
    let now = map item_shown c.loop-place.items.items in
    let none = own_end (option_map face_shown) c.args.types.now c.args.path.now c.loop-place.place c.shorter-place-end.result c.args.decls.now c.args.declared.now c.shorter-place-end.ensures.either c.loop-place-test.false in
    sym (append-nil now) ∙ (ap (λ l. now ++ l) (sym none) ∙ c.loop-place.invariant)
