use Rattle.std.proofs.Common.{◌≡◌, ◌∙◌, not, sym, ap, subst, rules}
use Rattle.std.proofs.lemmas.Fn.{filter_same}
use Rattle.go_graph_core.specs.Workspaces.{IsReadWorkspace, is_path_inside, packages_outside, packages_inside, put_all, replaced}
use Rattle.go_graph_core.proofs.Places.{IsOrdered}
use Rattle.go_graph_core.proofs.Keeping.{ordered_filter, read_replaced, replaces}
use Rattle.go_graph_core.proofs.workspace.Workspace.replace.Goals as goal

pub put_each-requires-clause-order : goal.put_each-requires-clause-order
put_each-requires-clause-order c =
    let kept : c.retain.new.self.items ≡ packages_outside c.args.own.now c.self.inside.packages.items = filter_same _ (λ p. not (is_path_inside c.args.own.now p.0)) _ (λ x b f' k. search rules) c.reserve.new.self.items c.retain.new.self.items c.retain.ensures.filtered ∙ ap (packages_outside c.args.own.now) c.reserve.ensures.items in
    subst IsOrdered (sym kept) (ordered_filter (λ p. not (is_path_inside c.args.own.now p.0)) c.self.inside.packages.items c.self.invariant.well.order)

pub invariant_of-self-2 : goal.invariant_of-self-2
invariant_of-self-2 c =
    let own = c.args.own.now in
    let kept : c.retain.new.self.items ≡ packages_outside own c.self.inside.packages.items = filter_same _ (λ p. not (is_path_inside own p.0)) _ (λ x b f' k. search rules) c.reserve.new.self.items c.retain.new.self.items c.retain.ensures.filtered ∙ ap (packages_outside own) c.reserve.ensures.items in
    let inside : c.in-Ok.inside.items ≡ packages_inside own c.args.from.now = c.in-Ok.ensures.inside ∙ ap (packages_inside own) c.packages.ensures.packages in
    let e : c.put_each.new.packages.items ≡ replaced own c.self.inside.packages.items c.args.from.now = c.put_each.ensures ∙ (λ i. put_all (kept i) (inside i)) in
    subst IsReadWorkspace (sym e) (read_replaced own c.self.inside.packages.items c.args.from.now c.self.invariant (record { well = c.packages.ensures.well; read = c.packages.ensures.read }))

pub returns-clause-ok : goal.returns-clause-ok
returns-clause-ok c =
    let own = c.args.own.now in
    let kept : c.retain.new.self.items ≡ packages_outside own c.self.inside.packages.items = filter_same _ (λ p. not (is_path_inside own p.0)) _ (λ x b f' k. search rules) c.reserve.new.self.items c.retain.new.self.items c.retain.ensures.filtered ∙ ap (packages_outside own) c.reserve.ensures.items in
    let inside : c.in-Ok.inside.items ≡ packages_inside own c.args.from.now = c.in-Ok.ensures.inside ∙ ap (packages_inside own) c.packages.ensures.packages in
    let e : c.put_each.new.packages.items ≡ replaced own c.args.self.now c.args.from.now = c.put_each.ensures ∙ ((λ i. put_all (kept i) (inside i)) ∙ ap (λ l. put_all (packages_outside own l) (packages_inside own c.args.from.now)) c.self.view_is) in
    replaces own c.args.self.now c.args.from.now c.put_each.new.packages.items c.packages.ensures.well.order e
