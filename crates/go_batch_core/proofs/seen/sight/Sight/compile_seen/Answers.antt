use Rattle.std.proofs.Common.{List, ◌++◌, ◌∷◌, [], ap, subst, sym, ◌∙◌}
use Rattle.go_typexpr_core.specs.entry.Showing.{with_shown}
use Rattle.go_summary_core.specs.declared_core.Packages.{with_faces}
use Rattle.go_summary_core.specs.Summaries.{SummaryModel}
use Rattle.go_package_core.specs.package_part.Inputs.{InputModel, path_in}
use Rattle.go_package_core.specs.package_part.Parts.{ContentOf, IsPart, PartModel, part_content_shown}
use Rattle.go_batch_core.specs.seen.Local.{AreAmong, NoneIsOf}
use Rattle.go_batch_core.proofs.SeenAdding.{made_alone, others_before, path_made, seen_push}
use Rattle.go_batch_core.proofs.seen.sight.Sight.compile_seen.Goals as goal

pub compile_over-requires : goal.compile_over-requires
compile_over-requires c =
    let s = c.self.inside in
    let path = path_in c.args.input.now in
    others_before s.told.items path s.view.types s.view.shown s.view.faces c.self.invariant (subst (λ (l : List SummaryModel). NoneIsOf l path) (sym c.self.view_is) c.requires.none)

pub new-requires : goal.new-requires
new-requires c =
    let s = c.self.inside in
    let i = c.args.input.now in
    let content = part_content_shown c.in_ok-content.content in
    let none = subst (λ (l : List SummaryModel). NoneIsOf l (path_in i)) (sym c.self.view_is) c.requires.none in
    let all = subst (λ (l : List SummaryModel). AreAmong i.reached l) (sym c.self.view_is) c.requires.all in
    subst (λ (j : InputModel). IsPart j content) (sym c.in_ok-shared.ensures) (made_alone i s.told.items s.view.types s.view.shown s.view.faces content c.requires.local c.self.invariant none all c.in_ok-content.ensures.made)

pub invariant_of-sight : goal.invariant_of-sight
invariant_of-sight c =
    let s = c.self.inside in
    let i = c.args.input.now in
    let content = part_content_shown c.in_ok-content.content in
    let none = subst (λ (l : List SummaryModel). NoneIsOf l (path_in i)) (sym c.self.view_is) c.requires.none in
    let all = subst (λ (l : List SummaryModel). AreAmong i.reached l) (sym c.self.view_is) c.requires.all in
    let made = made_alone i s.told.items s.view.types s.view.shown s.view.faces content c.requires.local c.self.invariant none all c.in_ok-content.ensures.made in
    let after = c.add_after_types.new.view in
    seen_push s.told.items c.add_after_types.new.told.items content.summary s.view.types after.types s.view.shown after.shown s.view.faces after.faces c.self.invariant c.in_ok-add_after_types.ensures.own
    (subst (NoneIsOf s.told.items) (sym (path_made i content made)) none) c.in_ok-add_after_types.ensures.told
    (c.in_ok-add_after_types.ensures.types ∙ c.in_ok-content.ensures.types)
    (c.in_ok-add_after_types.ensures.shown ∙ ap (λ l. with_shown l content.summary.exports) c.in_ok-content.ensures.shown)
    (c.in_ok-add_after_types.ensures.faces ∙ ap (λ l. with_faces l content.summary.faces) c.in_ok-content.ensures.faces)

pub returns-clause-input : goal.returns-clause-input
returns-clause-input c = ap (λ (p : PartModel). p.input) c.in_ok-part.ensures ∙ c.in_ok-shared.ensures

pub returns-clause-made : goal.returns-clause-made
returns-clause-made c =
    let s = c.self.inside in
    let i = c.args.input.now in
    let content = part_content_shown c.in_ok-content.content in
    let none = subst (λ (l : List SummaryModel). NoneIsOf l (path_in i)) (sym c.self.view_is) c.requires.none in
    let all = subst (λ (l : List SummaryModel). AreAmong i.reached l) (sym c.self.view_is) c.requires.all in
    subst (λ (x : ContentOf). IsPart i x) (sym (ap (λ (p : PartModel). p.content) c.in_ok-part.ensures)) (made_alone i s.told.items s.view.types s.view.shown s.view.faces content c.requires.local c.self.invariant none all c.in_ok-content.ensures.made)

pub returns-clause-seen : goal.returns-clause-seen
returns-clause-seen c =
    c.in_ok-add_after_types.ensures.told ∙ (ap (λ (l : List SummaryModel). l ++ c.in_ok-content.content.summary ∷ []) c.self.view_is
    ∙ ap (λ (p : PartModel). c.args.self ++ p.content.summary ∷ []) (sym c.in_ok-part.ensures))
