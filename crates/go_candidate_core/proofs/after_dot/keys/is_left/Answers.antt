use Rattle.std.proofs.Common.{Bool, not, ◌&&◌, ◌++◌, List, ℕ, map, sym, ap, ap₂, ◌∙◌}
use Rattle.go_expr_core.specs.denote_core.CompositeNames.{any_named}
use Rattle.go_candidate_core.proofs.AfterDotKeyed.{left_is, neither, seen_more}
use Rattle.go_candidate_core.proofs.after_dot.keys.is_left.Goals as goal

pub returns-clause-left : goal.returns-clause-left
returns-clause-left g c = λ f there.
    let fields = (g.E.Literals.literals c.args.env.now).fields c.args.t.now in
    let seen = map (λ n. n.now) c.args.seen.now.keys in
    let others = map (λ n. n.now) c.args.others.now.keys in
    let new : Bool = c.in_ok-is_new.is_new in
    let other : Bool = c.contains-is_other.result in
    let is_other = c.contains-is_other.ensures ∙ any_named c.args.name.now c.args.others.now.keys in
    c.passes.ensures
    ∙ (ap (λ (b : Bool). ((new && not other) && not b) && c.field_at-field.result.is_visible) c.is_blank.ensures
    ∙ left_is fields (seen ++ others) c.args.at c.args.name.now c.field_at-field.result (new && not other) c.requires.named c.field_at-field.ensures (neither seen others c.args.name.now new other c.in_ok-is_new.ensures.added is_other) f there)

pub returns-clause-seen : goal.returns-clause-seen
returns-clause-seen g c = seen_more (map (λ n. n.now) c.args.seen.now.keys) _ (map (λ n. n.now) c.args.others.now.keys) c.args.name.now c.in_ok-is_new.ensures.seen
