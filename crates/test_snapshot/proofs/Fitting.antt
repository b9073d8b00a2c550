-- What is known of the parts of a workspace.
use Rattle.std.proofs.Common.{◌≡◌, ℕ, List, [], ◌∷◌, length, All, Option, Some, None, Result, Ok, Err, get_or, reverse, sym, ap, subst, ◌∙◌, ◌<◌, arith}
use Rattle.std.specs.Prelude.{slice_get, IfOk, IfSome, MatchOption}
use Rattle.std.specs.Borrow.{Bor}
use Rattle.std.specs.List.Sorted.{IsPermutation}
use Rattle.std.proofs.lemmas.List.Elements.{All-cons, All-nil}
use Rattle.std.proofs.lemmas.List.Sorted.{IsPermutation-reverse}
use Rattle.std.proofs.lemmas.Option.{slice_get_within, slice_get-get_or, get_or_from_slice_get}
use Rattle.go_emit_core.specs.package_core.PackagePartLaws.{OnePart}
use Rattle.go_site_core.specs.graph_core.Workspaces.{PackageModel, AreAllRead, IsWorkspace}
use Rattle.go_site_core.specs.graph_core.Zips.{numbered_back}
use Rattle.go_emit_core.specs.package_core.PreparePackages.{trees_in}
use Rattle.go_emit_core.specs.package_core.PackagePartInputs.{InputModel}
use Rattle.go_emit_core.specs.package_core.PackagePartParts.{IsPart, PartModel, part_with}
use Rattle.go_snap_core.specs.whole_workspace.Inputs.{AreParts, IsPartOf}
use Rattle.go_snap_core.proofs.WholeWorkspaceChecks.{trees_are_placed}
use Rattle.go_snap_core.specs.Snapshots.{ArePartsOf, IsPartAt}
use Rattle.go_tree_nodes.specs.Spelling.{IsPlaced}
use Rattle.go_emit_core.specs.package_core.PackagePartSlots.{if_there, somes}

-- the trees of its package are placed
abbrev pub HasPlaced : PartModel → Type 0
HasPlaced p = All IsPlaced (trees_in p.input.source)

-- so are those of a part, if there is one
abbrev pub IfPlaced : Option PartModel → Type 0
IfPlaced part = All HasPlaced (if_there part)

-- another part of the same input is the same
pub same_part : {E : Type 0} (p : PartModel) (i : InputModel) (r : Result PartModel E) → OnePart → HasPlaced p → IsPart p.input p.content → i ≡ p.input → IfOk r (λ q. q.input ≡ i) → IfOk r (λ q. IsPart i q.content) → IfOk r (λ q. q ≡ p)
same_part p i (Ok q) one placed own is input made =
    let at : q.input ≡ p.input = input ∙ is in
    let content : q.content ≡ p.content = one p.input q.content p.content placed (subst (λ j. IsPart j q.content) is made) own in
    ap (λ j. part_with j q.content) at ∙ ap (λ c. part_with p.input c) content
same_part p i (Err e) one placed own is input made = tt

-- the part that is there
pub placed_there : (part : Option PartModel) (p : PartModel) → part ≡ Some p → IfPlaced part → HasPlaced p
placed_there part p is all =
    let one : All HasPlaced (p ∷ []) = subst IfPlaced is all in
    let lt : 0 < length (p ∷ []) = omega arith in
    one 0 p lt

-- the part at a place
pub placed_at : (parts : List (Option PartModel)) (n : ℕ) (part : Option PartModel) → All IfPlaced parts → n < length parts → part ≡ get_or parts n part → IfPlaced part
placed_at parts n part all lt is = subst IfPlaced (sym is) (all n part lt)

module _ (ps : List PackageModel) (parts : List (Option PartModel)) (are : AreParts ps parts) where
  -- a part is of the package of its number
  of_package : (n : ℕ) (p : PartModel) → slice_get parts n ≡ Some (Some p) → slice_get ps n ≡ Some p.input.source
  of_package n p at = (let b = numbered_back (λ m q x. IsPartOf ps parts m q x) 0 ps parts n (Some p) are at in b.1 ∙ ap Some (sym b.2.1.source))

  -- where the files of all packages have what their texts say, so have those of a part
  pub part_is_read : All AreAllRead ps → (path : List ℕ) (p : PartModel) → IsPartAt ps parts path p → AreAllRead p.input.source
  part_is_read all path p h =
      let at : slice_get ps h.number ≡ Some p.input.source = of_package h.number p h.there in
      subst AreAllRead (get_or_from_slice_get ps h.number p.input.source p.input.source at) (all h.number p.input.source (slice_get_within ps h.number p.input.source at))

  -- so is what it was made from, where a look-up by path finds it
  pub input_is_read : All AreAllRead ps → (path : List ℕ) (r : Option (Bor InputModel)) → MatchOption r ((q : PartModel) → ¬ IsPartAt ps parts path q) (λ i. (q : PartModel) × IsPartAt ps parts path q × (i.now ≡ q.input)) → IfSome r (λ i. AreAllRead i.now.source)
  input_is_read all path None told = tt
  input_is_read all path (Some i) told = subst (λ (j : InputModel). AreAllRead j.source) (sym told.2) (part_is_read all path told.0 told.1)

  placed_in : IsWorkspace ps → (n : ℕ) (part : Option PartModel) → slice_get parts n ≡ Some part → IfPlaced part
  placed_in well n None at = All-nil HasPlaced
  placed_in well n (Some p) at = All-cons HasPlaced p [] (trees_are_placed ps n p.input.source well (of_package n p at)) (All-nil HasPlaced)

  -- the trees of all parts are placed
  pub parts_are_placed : IsWorkspace ps → All IfPlaced parts
  parts_are_placed well = λ n d lt. placed_in well n (get_or parts n d) (slice_get-get_or parts n d lt)

-- the parts of a workspace, the last one first, are its parts
pub are_parts_of : (ps qs : List PackageModel) (parts : List (Option PartModel)) (given : List PartModel) → AreParts ps parts → qs ≡ ps → given ≡ reverse (somes parts) → ArePartsOf qs given
are_parts_of ps qs parts given are same is = record {
  parts = parts;
  are = subst (λ l. AreParts l parts) (sym same) are;
  same = subst (λ l. IsPermutation (somes parts) l) (sym is) (IsPermutation-reverse (somes parts));
}
