use Rattle.std.proofs.Common.{rules, ◌≡◌, length, sym, ◌∙◌}
use Rattle.std.specs.Iterator.Adapters.{zip_first, zip_second}
use Rattle.std.specs.Slice.Iter.{iter_rest}
use Rattle.go_names_core.specs.Scenes.{name_scene}
use Rattle.go_names_core.proofs.ZipLemmas.{zip_over, locals_over}
use Rattle.go_names_core.proofs.declaring.declare_locals.Goals as goal

pub returns : goal.returns
returns g c =
    let first : iter_rest (zip_first c.into_iter-ident-iterator.result) ≡ c.args.idents.now = search rules in
    let second : iter_rest (zip_second c.into_iter-ident-iterator.result) ≡ c.args.means.now = search rules in
    let over = zip_over c.args.idents.now c.args.means.now c.loop-ident.yielded c.into_iter-ident-iterator.result c.loop-ident.ident-iterator c.next.new.self c.next.result first second c.loop-ident.yielded_by c.in-None.is c.next.ensures.steps in
    sym (c.loop-ident.invariant ∙ locals_over (name_scene c.loop-ident.scopes c.loop-ident.locals.items) c.args.idents.now c.args.means.now (length c.loop-ident.yielded) over)
