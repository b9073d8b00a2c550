use Rattle.std.proofs.Common.{◌≡◌, ℕ, List, sym, ap, ◌∙◌, subst}
use Rattle.std.specs.Prelude.{IfOk}
use Rattle.std.specs.List.{list_all}
use Rattle.go_submit_core.specs.declared.submission.Submission.{Submission}
use Rattle.go_submit_core.specs.Modules.{is_among}
use Rattle.go_submit_core.proofs.Growing.{none_new}
use Rattle.go_submit_core.proofs.module_list.ModuleList.with_those_of.Goals as goal

pub returns-then-are_among : goal.returns-then-are_among
returns-then-are_among c =
    let ms : List (List ℕ) = c.args.self.now in
    let ss : List Submission = c.args.submissions.now in
    let tested : c.are_among.result ≡ list_all (λ s. is_among s.tree.own ms) ss =
    c.are_among.ensures
    ∙ ap (λ (l : List (List ℕ)). list_all (λ s. is_among s.tree.own l) c.as_slice.result.now) c.as_slice-modules.ensures
    ∙ ap (λ (l : List Submission). list_all (λ s. is_among s.tree.own ms) l) c.as_slice.ensures in
    subst (λ (l : List (List ℕ)). IfOk c.share.result (λ m. m ≡ l)) (sym (none_new ms ss (sym tested ∙ c.if-are_among.true))) c.share.ensures
