use Rattle.std.proofs.Common.{List, [], ◌∷◌, ◌++◌, ℕ, ap, ◌∙◌}
use Rattle.std.proofs.lemmas.List.{map-append}
use Rattle.go_summary_core.specs.shown.Shown.{MayBeShown, texts}
use Rattle.go_summary_core.proofs.ShownOrdering.{Lent}
use Rattle.go_summary_core.proofs.ShownPicking.{adds_one}
use Rattle.go_summary_core.proofs.shown.paths.add_shown.Goals as goal

pub returns-in_ok-add : goal.returns-in_ok-add
returns-in_ok-add c =
    let old = c.args.paths.now.items in
    let made = ap texts c.in_ok-add.ensures ∙ (map-append (λ (x : Lent). x.now) old (c.as_str.result ∷ []) ∙ ap (λ (t : List ℕ). texts old ++ t ∷ []) c.as_str.ensures.text) in
    adds_one (MayBeShown c.args.from.now) c.args.path.now (texts old) (texts c.add.new.all.items) (c.may_import.ensures.0 c.if-may_import.true) made
