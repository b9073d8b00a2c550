use Rattle.std.proofs.Common.{◌≡◌, ℕ, ◌<◌, List, All, Option, length, map, slice_get, sym, ap, ap₂, subst, ◌∙◌}
use Rattle.std.specs.List.{AllZip, filter_map}
use Rattle.go_report_core.specs.summary_core.Summaries.{SummaryModel}
use Rattle.go_snap_core.specs.make.mirrors.Telling.{AreTold, IsToldAt, at_number, by_places}
use Rattle.go_snap_core.proofs.MakeTelling.{found_below, found_told}
use Rattle.go_snap_core.proofs.make.told.Told.by.Goals as goal

pub new-reached-requires : goal.new-reached-requires
new-reached-requires c =
    let told = c.self.inside.summaries in
    let places = c.self.inside.places.items in
    let members = c.args.set.now.members in
    let found = c.in_ok-places.places.items in
    let numbers : c.deref.result.now ≡ members = c.deref.ensures.value ∙ c.in_ok-numbers.ensures.all in
    let is : found ≡ filter_map (at_number places) members = c.in_ok-places.ensures ∙ ap₂ (λ (l : List (Option ℕ)) (m : List ℕ). filter_map (at_number l) m) c.deref-2.ensures.value numbers in
    subst (λ (l : List SummaryModel). All (λ (p : ℕ). p < length l) found) (sym c.in_ok-summaries.ensures) (found_below told places c.self.invariant members found is)

pub returns-clause-all : goal.returns-clause-all
returns-clause-all c =
    let told = c.self.inside.summaries in
    let places = c.self.inside.places.items in
    let members = c.args.set.now.members in
    let found = c.in_ok-places.places.items in
    let numbers : c.deref.result.now ≡ members = c.deref.ensures.value ∙ c.in_ok-numbers.ensures.all in
    let is : found ≡ filter_map (at_number places) members = c.in_ok-places.ensures ∙ ap₂ (λ (l : List (Option ℕ)) (m : List ℕ). filter_map (at_number l) m) c.deref-2.ensures.value numbers in
    let have : AreTold (by_places told places) members = subst (λ (l : List (Option SummaryModel)). AreTold l members) (sym c.self.view_is) c.requires in
    let all = found_told told places members found c.new-reached.result is (c.new-reached.ensures ∙ ap (λ (l : List SummaryModel). map (slice_get l) found) c.in_ok-summaries.ensures) have in
    subst (λ (l : List (Option SummaryModel)). AllZip (IsToldAt l) members c.new-reached.result) c.self.view_is all
