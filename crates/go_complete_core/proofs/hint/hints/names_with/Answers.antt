use Rattle.std.proofs.Common.{List, map, ap, ◌∙◌, subst}
use Rattle.go_names_core.specs.local_core.mirrors.Walk.{Names}
use Rattle.go_package_core.specs.Checked.{local_shown}
use Rattle.go_candidate_core.specs.at_place.Locals as around
use Rattle.go_candidate_core.specs.declared.at_place.local.OpenLocal.{OpenLocal}
use Rattle.go_package_core.specs.env_core.declared.meaning.Meaning.{Meaning}
use Rattle.go_cursor_core.specs.Shown.{idents_shown, spot_shown}
use Rattle.go_candidate_core.specs.at_place.Arounds.{NamesAround}
use Rattle.go_complete_core.specs.hint.Kept.{open_by}
use Rattle.go_complete_core.proofs.hint.hints.names_with.Goals as goal

pub returns : goal.returns
returns g c =
    let kept = map local_shown c.args.kept.now in
    let same = ap (λ (ls : List OpenLocal). map around.local_shown ls) c.deref-2.ensures.value ∙ (c.in_ok-locals.ensures ∙ ap (λ xs. open_by kept (idents_shown xs)) c.deref.ensures.value) in
    subst (λ (ls : Names Meaning). NamesAround g.P.ImportedNames.shows c.args.place.now ls (spot_shown c.args.found.now.spot) c.in_ok-names.names.items) same c.in_ok-names.ensures
