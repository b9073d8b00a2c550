use Rattle.std.proofs.Common.{◌≡◌, ◌∷◌, [], ◌++◌, true, false, refl}
use Rattle.go_mset_core.specs.mirrors.Keeping.{method_of, kept}
use Rattle.go_mset_core.proofs.MethodSorts.{kept_more, kept_same, on_ok_then}
use Rattle.go_mset_core.proofs.methods.add_callable.Goals as goal

pub returns : goal.returns
returns c =
    let old = c.args.methods.now.items in
    let new = c.add.new.all.items in
    let s = c.args.selected in
    on_ok_then c.add.result (new ≡ old ++ method_of s ∷ []) (new ≡ old ++ kept (s ∷ [])) (λ e. kept_more old new s true refl c.if-not-is_callable.ensures e) c.add.ensures

pub returns-then-not-is_callable : goal.returns-then-not-is_callable
returns-then-not-is_callable c = kept_same c.args.methods.now.items c.args.selected false refl c.if-not-is_callable.ensures
