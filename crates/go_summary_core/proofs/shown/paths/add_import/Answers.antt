use Rattle.std.proofs.Common.{List, [], ◌∷◌, ℕ, sym, ap, ◌∙◌, subst}
use Rattle.std.specs.Prelude.{OnOk}
use Rattle.go_summary_core.specs.shown.Shown.{MayBeShown, path_in, texts}
use Rattle.go_summary_core.specs.shown.mirrors.Adding.{AddsPicked}
use Rattle.go_summary_core.proofs.shown.paths.add_import.Goals as goal

pub returns-in-Package : goal.returns-in-Package
returns-in-Package c =
    let same = ap (λ (p : List ℕ). p ∷ []) c.path.ensures ∙ sym (ap path_in c.in-Package.is) in
    subst (λ (l : List (List ℕ)). OnOk c.add_shown.result (AddsPicked (MayBeShown c.args.from.now) l (texts c.args.paths.now.items) (texts c.add_shown.new.paths.items))) same c.add_shown.ensures
