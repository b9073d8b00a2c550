use Rattle.std.proofs.Common.{◌≡◌, List, ℕ, [], ◌<◌, sym, ap, subst, ◌∙◌, arith}
use Rattle.go_term_core.specs.Terms.{Term}
use Rattle.go_term_core.specs.Shapes.{shape}
use Rattle.go_summary_core.specs.handle_core.Stars.{starred}
use Rattle.go_candidate_core.specs.after_dot.mirrors.Usable.{AreBehind}
use Rattle.go_candidate_core.proofs.AfterDotChosen.{far_behind}
use Rattle.go_candidate_core.proofs.after_dot.members.names_of_type.Goals as goal

pub returns-then-parts-gt1 : goal.returns-then-parts-gt1
returns-then-parts-gt1 c =
    let es = c.args.table.now in
    let stars : ℕ = c.parts-parts.result.stars in
    let t = shape c.parts-parts.result.term.now in
    let many : 1 < stars = (let h = c.if-parts-gt1.true in omega (arith, h)) in
    subst (λ (l : List (List ℕ)). AreBehind es c.args.home.now c.args.usage c.args.is_addressable c.args.t.now l) (sym c.new.ensures.items)
    (subst (λ (u : Term). AreBehind es c.args.home.now c.args.usage c.args.is_addressable u []) c.parts-parts.ensures (far_behind es c.args.home.now c.args.usage c.args.is_addressable stars t many))

pub returns : goal.returns
returns c =
    let es = c.args.table.now in
    let stars : ℕ = c.parts-parts.result.stars in
    let t = shape c.parts-parts.result.term.now in
    let none : stars ≡ 0 = (let a = c.if-parts-gt1.false in let b = c.if-parts-eq1.false in omega (arith, a, b)) in
    subst (λ (u : Term). AreBehind es c.args.home.now c.args.usage c.args.is_addressable u c.in_ok-names-2.names.items) (ap (λ (n : ℕ). starred n t) (sym none) ∙ c.parts-parts.ensures) c.in_ok-names-2.ensures
