use Rattle.std.proofs.Common.{rules, ◌≡◌, ◌<◌, ◌≤◌, Some, length, get_or, slice_get, sym, ap, ◌∙◌, arith}
use Rattle.std.specs.List.{filter_map}
use Rattle.std.proofs.lemmas.Option.{slice_get_past, slice_get-get_or}
use Rattle.go_summary_core.proofs.Places.{picked_at, picked_many}
use Rattle.go_summary_core.proofs.reached.ReachedSummaries.get.Goals as goal

pub returns-then-number-len : goal.returns-then-number-len
returns-then-number-len c =
    let told = c.self.inside.told in
    let places = c.self.inside.places.items in
    let number = c.args.number in
    let lt : number < length places = search rules in
    let here : c.index.result.now ≡ get_or places number c.index.result.now = search rules in
    let at : slice_get places number ≡ Some c.index.result.now = slice_get-get_or places number c.index.result.now lt ∙ ap Some (sym here) in
    c.get.ensures ∙ (sym (picked_at told places c.self.invariant.below number c.index.result.now at) ∙ ap (λ l. slice_get l number) c.self.view_is)

pub returns-else-number-len : goal.returns-else-number-len
returns-else-number-len c =
    let told = c.self.inside.told in
    let places = c.self.inside.places.items in
    let number = c.args.number in
    let past : length places ≤ number = search rules in
    sym (ap (λ l. slice_get l number) (sym c.self.view_is) ∙ slice_get_past (filter_map (slice_get told) places) number (omega (arith, past, picked_many told places c.self.invariant.below)))
