use Rattle.std.proofs.Common.{map, [], ◌∷◌, refl}
use Rattle.go_term_core.specs.Shapes.{sign_of, method_shapes}
use Rattle.go_embed_core.specs.Owners.{AnInterfaces, methods_found}
use Rattle.go_embed_core.specs.OwnersShown.{named_shown}
use Rattle.go_embed_core.proofs.Adding.{pushed, added_step, added_end}
use Rattle.go_embed_core.proofs.members.add_interface.Goals as goal

pub loop-method-preserved : goal.loop-method-preserved
loop-method-preserved c =
    let p = c.args.path.now in
    let m = c.method-item.result in
    added_step (λ l. methods_found p (method_shapes l)) ((m.name, (p, AnInterfaces p m.place (sign_of m.signature))) ∷ []) c.args.methods.now c.loop-method.method-index m (map named_shown c.loop-method.members.items) (map named_shown c.add.new.all.items) _ c.loop-method-test.true c.method-item.is refl
    (pushed c.loop-method.members.items c.add.new.all.items _ c.in_ok-add.ensures) c.loop-method.invariant

pub returns : goal.returns
returns c = added_end (λ l. methods_found c.args.path.now (method_shapes l)) c.args.methods.now c.loop-method.method-index (map named_shown c.loop-method.members.items) _ refl c.loop-method-test.false c.loop-method.invariant
