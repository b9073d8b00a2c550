use Rattle.std.proofs.Common.{rules, Bool, List, ℕ, refl, sym, ap, subst, ◌∙◌}
use Rattle.go_tree_nodes.specs.Shapes.{shape}
use Rattle.go_expr_core.specs.denote_core.Selectors.{dot_of}
use Rattle.go_expr_core.specs.denote_core.declared.things.Dot.TheVariants as dots
use Rattle.go_candidate_core.specs.at_place.Arounds.{around_looks}
use Rattle.go_candidate_core.proofs.AtPlaceJudging.{lists_by, value_lists, package_lists, refused_lists, untyped_lists, Lists}
use Rattle.go_candidate_core.proofs.at_place.naming.behind.Goals as goal

pub returns-in-Value : goal.returns-in-Value
returns-in-Value c =
    let looks = around_looks c.args.around.now in
    let e = shape c.args.operand.now in
    let d = c.in_ok-denoted.denoted in
    let v = c.in-Value.value in
    lists_by looks c.args.usage c.args.place e d (dots.«Value» v) c.in_ok-names-in-Value.names.items c.in_ok-denoted.ensures.denoted (sym c.in-Value.is ∙ (c.dot_of.ensures ∙ ap (λ (b : Bool). dot_of b d) c.is_name.ensures))
    (value_lists looks c.args.usage c.args.place e v c.in_ok-names-in-Value.names.items (λ offset. c.in_ok-names-in-Value.ensures looks offset (record { types = refl; select = refl })))

pub returns-in-Package : goal.returns-in-Package
returns-in-Package c =
    let looks = around_looks c.args.around.now in
    let e = shape c.args.operand.now in
    let d = c.in_ok-denoted.denoted in
    lists_by looks c.args.usage c.args.place e d _ _ c.in_ok-denoted.ensures.denoted (sym c.in-Package.is ∙ (c.dot_of.ensures ∙ ap (λ (b : Bool). dot_of b d) c.is_name.ensures)) (package_lists looks c.args.usage c.args.place e _ _)

pub returns-in-Refused : goal.returns-in-Refused
returns-in-Refused c =
    let looks = around_looks c.args.around.now in
    let e = shape c.args.operand.now in
    let d = c.in_ok-denoted.denoted in
    lists_by looks c.args.usage c.args.place e d dots.Refused _ c.in_ok-denoted.ensures.denoted (sym c.in-Refused.is ∙ (c.dot_of.ensures ∙ ap (λ (b : Bool). dot_of b d) c.is_name.ensures)) (refused_lists looks c.args.usage c.args.place e _)

pub returns : goal.returns
returns c =
    let looks = around_looks c.args.around.now in
    let e = shape c.args.operand.now in
    let d = c.in_ok-denoted.denoted in
    lists_by looks c.args.usage c.args.place e d dots.Untyped _ c.in_ok-denoted.ensures.denoted (sym c.in-Untyped.is ∙ (c.dot_of.ensures ∙ ap (λ (b : Bool). dot_of b d) c.is_name.ensures))
    (subst (λ (l : List (List ℕ)). Lists looks c.args.usage c.args.place e dots.Untyped l) (search rules) (untyped_lists looks c.args.usage c.args.place e))
