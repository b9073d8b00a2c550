use Rattle.std.proofs.Common.{◌≡◌, ◌<◌, ◌∙◌, sym, ap, subst, length, arith, vec_len}
use Rattle.std.proofs.lemmas.Bool.{eqb-true}
use Rattle.std.specs.BTreeMap.{is_at, insert_entry}
use Rattle.std.specs.Map.{remove_entry}
use Rattle.go_path_core.specs.Path.{IsPath}
use Rattle.go_graph_core.specs.Workspaces.{texts_of_files, by_bytes, IsPackage, IsReadWorkspace}
use Rattle.go_graph_core.proofs.Keeping.{put_nothing, put_some, no_texts, as_many_texts, read_package, some_read, positive, read_put, read_removed}
use Rattle.go_graph_core.proofs.Places.{IsOrdered}
use Rattle.go_graph_core.proofs.workspace.Workspace.put_read.Goals as goal

pub invariant_of-self : goal.invariant_of-self
invariant_of-self c = subst IsReadWorkspace (sym c.remove_package.ensures) (read_removed (is_at (by_bytes c.args.path.now)) c.self.inside.packages.items c.self.invariant)

pub returns-then-is_empty-clause-ok : goal.returns-then-is_empty-clause-ok
returns-then-is_empty-clause-ok c =
    let none : length c.args.files.items ≡ 0 = (let z : vec_len c.args.files ≡ 0 = eqb-true _ _ (sym c.is_empty.ensures ∙ c.if-is_empty.true) in let k = c.args.files.ok in omega (arith, z)) in
    put_nothing c.args.self.now c.args.path.now (texts_of_files c.args.files.items) c.remove_package.new.packages.items
    (subst IsOrdered c.self.view_is c.self.invariant.well.order) (no_texts c.args.files.items none)
    (c.remove_package.ensures ∙ ap (remove_entry (is_at (by_bytes c.args.path.now))) c.self.view_is)

pub new-requires-clause-some : goal.new-requires-clause-some
new-requires-clause-some c =
    let z : 0 < vec_len c.args.files = positive _ (sym c.is_empty.ensures ∙ c.if-is_empty.false) in
    let k = c.args.files.ok in
    let n = as_many_texts c.args.files.items in
    some_read (texts_of_files c.args.files.items) c.in_order.result.items c.in_order.ensures (omega (arith, z, n))

pub invariant_of-self-2 : goal.invariant_of-self-2
invariant_of-self-2 c =
    let some : 0 < length (texts_of_files c.args.files.items) = (let z : 0 < vec_len c.args.files = positive _ (sym c.is_empty.ensures ∙ c.if-is_empty.false) in let k = c.args.files.ok in let n = as_many_texts c.args.files.items in omega (arith, z, n)) in
    let well : IsPackage (c.in-Ok.path, c.in_order.result.items) = read_package c.in-Ok.path (texts_of_files c.args.files.items) c.in_order.result.items (subst IsPath (sym c.in-Ok.ensures) c.as_str.ensures.path) c.in_order.ensures some in
    let e : c.put_at.new.packages.items ≡ insert_entry by_bytes c.self.inside.packages.items c.in-Ok.path c.in_order.result.items = c.in_default-put_at.ensures.ok ∙ ap (λ p. insert_entry by_bytes c.self.inside.packages.items p.0 p.1) c.in-Ok-new.ensures in
    subst IsReadWorkspace (sym e) (read_put c.self.inside.packages.items c.in-Ok.path c.in_order.result.items c.self.invariant well c.in_order.ensures.contents)

pub returns-clause-ok : goal.returns-clause-ok
returns-clause-ok c =
    let some : 0 < length (texts_of_files c.args.files.items) = (let z : 0 < vec_len c.args.files = positive _ (sym c.is_empty.ensures ∙ c.if-is_empty.false) in let k = c.args.files.ok in let n = as_many_texts c.args.files.items in omega (arith, z, n)) in
    let e : c.put_at.new.packages.items ≡ insert_entry by_bytes c.args.self.now c.args.path.now c.in_order.result.items =
    c.in_default-put_at.ensures.ok ∙ (ap (λ p. insert_entry by_bytes c.self.inside.packages.items p.0 p.1) c.in-Ok-new.ensures ∙ (λ i. insert_entry by_bytes (c.self.view_is i) (c.in-Ok.ensures i) c.in_order.result.items)) in
    put_some c.args.self.now c.args.path.now (texts_of_files c.args.files.items) c.put_at.new.packages.items c.in_order.result.items c.in_order.ensures (some_read (texts_of_files c.args.files.items) c.in_order.result.items c.in_order.ensures some) e
