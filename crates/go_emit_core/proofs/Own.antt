-- What a package tells itself stands apart from what the packages tell that it reaches.
use Rattle.std.proofs.Common.{◌≡◌, sym, ap, ◌∙◌}
use Rattle.std.proofs.lemmas.List.Quantifiers.{all_pairs_push}
use Rattle.go_package_core.specs.summary_core.Summaries.{SummaryModel, path_of}
use Rattle.go_package_core.specs.summary_core.Views.{PathsAreApart}
use Rattle.go_package_core.specs.package_part.Inputs.{InputModel, IsInput, path_in}
use Rattle.go_package_core.specs.package_part.Parts.{ContentOf, IsPart}
use Rattle.go_emit_core.specs.Emitted.{told_to}

own_path : (i : InputModel) (c : ContentOf) → IsPart i c → path_of c.summary ≡ path_in i
own_path i c h = ap path_of h.summary

pub apart : (i : InputModel) (c : ContentOf) → IsInput i → IsPart i c → PathsAreApart (told_to i c)
apart i c input made =
    all_pairs_push (λ (s t : SummaryModel). path_of s ≡ path_of t → ⊥) i.reached c.summary input.reached.apart (λ k d lt e. input.reached.others k d lt (sym (e ∙ own_path i c made)))
