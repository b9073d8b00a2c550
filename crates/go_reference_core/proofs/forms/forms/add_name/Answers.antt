use Rattle.std.proofs.Common.{◌++◌, ◌∷◌, [], ℕ, List, inl, inr, map, refl, sym, ap, ◌∙◌}
use Rattle.std.proofs.lemmas.Bool.{true≢false}
use Rattle.std.proofs.lemmas.List.{map-append}
use Rattle.std.proofs.lemmas.Result.{on_ok_weaker}
use Rattle.go_reference_core.specs.forms.Forms.{fitting_shown}
use Rattle.go_reference_core.proofs.FormsFirsts.{fit}
use Rattle.go_reference_core.proofs.forms.forms.add_name.Goals as goal

pub returns-then-is_among_first : goal.returns-then-is_among_first
returns-then-is_among_first c = inl (c.is_among_first.ensures.0 c.if-is_among_first.true, refl)

pub returns : goal.returns
returns c =
    let old = c.args.found.now.items in
    on_ok_weaker c.add.result
    (λ e. inr (
      λ among. true≢false (sym (c.is_among_first.ensures.1 among) ∙ c.if-is_among_first.false),
      ap (map fitting_shown) e ∙ (map-append fitting_shown old _ ∙ ap (λ (n : List ℕ). map fitting_shown old ++ fit n c.args.form ∷ []) c.in_ok-name.ensures.ok),
    ))
    c.add.ensures
