-- What the part of a package is made from, while the parts of others come.
use Rattle.std.proofs.Common.{◌≡◌, ◌+◌, ◌<◌, ℕ, List, [], ◌∷◌, length, All, Option, Some, None, refl, sym, ap, subst, ◌∙◌, arith}
use Rattle.std.specs.Prelude.{slice_get, slice_set}
use Rattle.std.proofs.lemmas.List.Elements.{All-contains}
use Rattle.std.proofs.lemmas.Option.{slice_get_within}
use Rattle.go_digraph_core.specs.declared.cycle.edge.Edge.{Edge}
use Rattle.go_digraph_core.specs.cycle.Cycle.{Leads}
use Rattle.go_graph_core.specs.Imports.{IsNumbered}
use Rattle.go_graph_core.specs.Sources.{SourceModel}
use Rattle.go_graph_core.specs.Workspaces.{PackageModel}
use Rattle.go_names_core.specs.block_core.AllLemmas.{numbered_from}
use Rattle.go_report_core.specs.summary_core.Summaries.{SummaryModel, path_of}
use Rattle.go_emit_core.specs.package_core.PackagePartInputs.{InputModel}
use Rattle.go_emit_core.specs.package_core.PackagePartParts.{PartModel}
use Rattle.go_snap_core.specs.whole_workspace.Inputs.{AreParts, HasReached, IsInputAt, IsPartOf, IsPassingImport, ReachesPackage, Tells}
use Rattle.go_snap_core.specs.whole_workspace.Laws.{AreOwnParts, HasPart, InputsStay, PartsComeInOrder, StayThere}
use Rattle.go_snap_core.proofs.WholeWorkspaceLists.{one_at}
use Rattle.go_snap_core.proofs.WholeWorkspaceMaking.{input_grow, set_there}

-- while any others come
pub input_stays : (ps : List PackageModel) (parts more : List (Option PartModel)) → StayThere parts more → (n : ℕ) (i : InputModel) → IsInputAt ps parts n i → IsInputAt ps more n i
input_stays ps parts more grows n i at = record { numbered = at.numbered; input = input_grow ps parts more grows n i.source i at.input }

-- a part that is put where there was none takes the place of none
module _ (parts : List (Option PartModel)) (m : ℕ) (part : PartModel) (none : slice_get parts m ≡ Some None) where
  lt : m < length parts
  lt = slice_get_within parts m None none

  other : (n : ℕ) (q : PartModel) → slice_get parts n ≡ Some (Some q) → n ≡ m → ⊥
  other n q at e =
      let both : None ≡ Some q = one_at parts m None (Some q) none (subst (λ (k : ℕ). slice_get parts k ≡ Some (Some q)) e at) in
      absurd cc

  pub put_grows : StayThere parts (slice_set parts m (Some part))
  put_grows = λ n q at. set_there parts m part lt n (other n q at) (Some q) at

pub inputs_stay : InputsStay
inputs_stay = record {
  stay = input_stays;
  put = λ ps parts m part none n i at. input_stays ps parts (slice_set parts m (Some part)) (put_grows parts m part none) n i at;
}

-- what a package reaches has parts
module _ (ps : List PackageModel) (parts : List (Option PartModel)) (behind : (e : Edge) → IsPassingImport ps e → HasPart parts e.from → HasPart parts e.to) where
  led_to : (g : List Edge) → All (IsPassingImport ps) g → (e : Edge) (es : List Edge) (n m : ℕ) → Leads g (e ∷ es) n m → ((f : Edge) → IsPassingImport ps f → f.from ≡ n → HasPart parts f.to) → HasPart parts m
  led_to g all e [] n m h next = subst (HasPart parts) h.2 (next e (All-contains (IsPassingImport ps) g e all h.0) h.1)
  led_to g all e (f ∷ fs) n m h next =
      let here : HasPart parts e.to = next e (All-contains (IsPassingImport ps) g e all h.0) h.1 in
      led_to g all f fs e.to m h.2 (λ d passes from. behind d passes (subst (HasPart parts) (sym from) here))

  reached_part : (n m : ℕ) → ReachesPackage ps n m → ((f : Edge) → IsPassingImport ps f → f.from ≡ n → HasPart parts f.to) → HasPart parts m
  reached_part n m r next = led_to r.0 r.1 r.2.0 r.2.1 n m r.2.2 next

-- what a part tells is of its package
own_told : (ps : List PackageModel) (parts : List (Option PartModel)) → AreOwnParts ps parts → (m : ℕ) (s : SummaryModel) → Tells parts m s → (files : List SourceModel) × IsNumbered ps (path_of s) m files
own_told ps parts own m s t =
    let r = own m t.of_part t.there in
    let path : path_of s ≡ t.of_part.input.source.0 = ap path_of (t.is ∙ r.1.summary) in
    (t.of_part.input.source.1, subst (λ (q : List ℕ). IsNumbered ps q m t.of_part.input.source.1) (sym path) r.0)

pub has_reached : (ps : List PackageModel) (parts : List (Option PartModel)) → AreOwnParts ps parts → ((e : Edge) → IsPassingImport ps e → HasPart parts e.from → HasPart parts e.to)
    → (n : ℕ) → ((e : Edge) → IsPassingImport ps e → e.from ≡ n → HasPart parts e.to) → HasReached ps parts n
has_reached ps parts own behind n next = record {
  told = λ m r. (let p = reached_part ps parts behind n m r next in (p.0.content.summary, record { of_part = p.0; there = p.1; is = refl }));
  own = own_told ps parts own;
}

-- parts number by number
pub all_parts : (ps : List PackageModel) (parts : List (Option PartModel)) → length parts ≡ length ps → ((n : ℕ) (p : PackageModel) (o : Option PartModel) → slice_get ps n ≡ Some p → slice_get parts n ≡ Some o → IsPartOf ps parts n p o) → AreParts ps parts
all_parts ps parts many each = numbered_from (λ n p x. IsPartOf ps parts n p x) 0 ps parts many (λ n p x at has. (let e : n ≡ 0 + n = omega arith in subst (λ m. IsPartOf ps parts m p x) e (each n p x at has)))

pub parts_come_in_order : PartsComeInOrder
parts_come_in_order = record { reached = has_reached; all = all_parts }
