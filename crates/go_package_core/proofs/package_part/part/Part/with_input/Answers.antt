use Rattle.std.proofs.Common.{◌≡◌, sym, ap, ◌∙◌, subst}
use Rattle.std.specs.Arc.{arc_value}
use Rattle.go_package_core.specs.declared.package_part.part.Made.{Made}
use Rattle.go_package_core.specs.package_part.Parts.{ContentOf, IsPart, PartModel, part_content_shown}
use Rattle.go_package_core.proofs.package_part.part.Part.with_input.Goals as goal

pub invariant_of-result : goal.invariant_of-result
invariant_of-result c =
    let there : c.deref.result.now ≡ arc_value c.self.inside.made = cc in
    let own : part_content_shown (arc_value c.deref.result.now.content) ≡ c.args.self.now.content = ap (λ (m : Made). part_content_shown (arc_value m.content)) there ∙ ap (λ (p : PartModel). p.content) c.self.view_is in
    let content : part_content_shown (arc_value c.in_ok-content.content) ≡ c.args.self.now.content = ap part_content_shown c.in_ok-content.ensures ∙ own in
    subst (λ (m : Made). IsPart m.input (part_content_shown (arc_value m.content))) (sym c.in_ok-new.ensures.ok) (subst (λ (k : ContentOf). IsPart c.args.input k) (sym content) c.requires)
