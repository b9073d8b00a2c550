-- The parts of a workspace that differs from an earlier one in one package alone, whose files have the same heads, and which tells what it told.
use Rattle.std.proofs.Common.{◌≡◌, ◌≢◌, ◌<◌, ℕ, ◌+◌, ◌⊎◌, inl, inr, List, get_or, length, map, Option, Some, None, sym, ap, subst, ◌∙◌, arith}
use Rattle.std.specs.Prelude.{⊤, MatchOption, slice_get, slice_set}
use Rattle.std.proofs.lemmas.Bool.{cases_eq}
use Rattle.std.proofs.lemmas.List.{length-set}
use Rattle.std.proofs.lemmas.List.Elements.{All-weaker}
use Rattle.std.proofs.lemmas.Option.{slice_get-get_or, slice_get_within}
use Rattle.go_graph_core.specs.declared.imports.ImportAt.{ImportAt}
use Rattle.go_graph_core.specs.declared.imports.ImportOutcome.TheVariants as come
use Rattle.go_graph_core.specs.Packages.{IsAssembled, trees_of}
use Rattle.go_graph_core.specs.Workspaces.{IsWorkspace, PackageModel}
use Rattle.go_graph_core.proofs.Zips.{numbered_at, numbered_length}
use Rattle.go_import_core.specs.head.Heads.{HaveSameHeads, head_of, head_of_file}
use Rattle.go_import_core.specs.head.Laws.{OutcomesStay}
use Rattle.go_import_core.proofs.HeadAlike.{assembled_stays, same_at}
use Rattle.go_names_core.specs.block_core.declared.imports.Imported.{Imported}
use Rattle.go_names_core.specs.block_core.AllLemmas.{numbered_from}
use Rattle.go_names_core.specs.block_core.Exports.{ExportsModel}
use Rattle.go_names_core.specs.block_core.GivenSteps.{have_one_each}
use Rattle.go_names_core.specs.block_core.Growing.{given_weaker, package_weaker}
use Rattle.go_names_core.specs.block_core.Naming.{AreInPackage, HaveOneEach}
use Rattle.go_report_core.specs.summary_core.Summaries.{SummaryModel}
use Rattle.go_emit_core.specs.package_core.PackagePartInputs.{InputModel, path_in}
use Rattle.go_emit_core.specs.package_core.PackagePartParts.{IsPart, PartModel}
use Rattle.go_snap_core.specs.whole_workspace.Inputs.{AreParts, AreToldTo, ComesTo, IsInputOf, IsPartOf, IsPassingImport, ReachesPackage, Shown, Tells}
use Rattle.go_snap_core.specs.whole_workspace.mirrors.Steps.{IsRight}
use Rattle.go_snap_core.specs.make.Keeping.{WasThere}
use Rattle.go_snap_core.proofs.MakeMarking.{set_at, set_beside, was_beside}
use Rattle.go_snap_core.proofs.WholeWorkspaceBeside.{one_place}
use Rattle.go_snap_core.proofs.WholeWorkspaceLists.{one_at, zip_weaker}
use Rattle.go_snap_core.proofs.WholeWorkspacePartsWhole.{all_right}
use Rattle.go_edit_core.specs.Edits.{DifferAt, IsEdited, IsEditedAt, TellsOther}
use Rattle.go_edit_core.proofs.Counting.{in_package, same_counts}

-- the package of a number with the same heads

module _ (qs ps : List PackageModel) (was : List (Option PartModel)) (n : ℕ) (old : PartModel) (p : PackageModel) (heads : HaveSameHeads qs ps) (made : AreParts qs was)
    (had : slice_get was n ≡ Some (Some old)) (numbered : slice_get ps n ≡ Some p) where
  right : IsRight qs was n old
  right = all_right qs was made n old had

  same_head : head_of old.input.source ≡ head_of p
  same_head =
      let there = same_at head_of qs ps heads n old.input.source right.numbered in
      there.2 ∙ ap head_of (one_at ps n there.0 p there.1 numbered)

  same_files : map head_of_file old.input.source.1 ≡ map head_of_file p.1
  same_files = ap (λ h. h.1) same_head

  pub same_path : p.0 ≡ path_in old.input
  same_path = sym (ap (λ h. h.0) same_head)

  pub assembled : IsAssembled p.1
  assembled = assembled_stays old.input.source.1 p.1 same_files right.assembled

  pub one_each : HaveOneEach (trees_of p.1) old.input.imports
  one_each =
      have_one_each (ComesTo qs was) n (trees_of p.1) old.input.imports
      (in_package (ComesTo qs was) n (trees_of old.input.source.1) (trees_of p.1) old.input.imports (same_counts old.input.source.1 p.1 same_files) right.input.imports)

  -- what is found of it
  pub found_at : (o : Option PartModel) → MatchOption o (TellsOther p old) (IsEdited p old) → MatchOption o ⊤ (IsEditedAt qs ps was n)
  found_at None h = tt
  found_at (Some new) h = record { heads = heads; old = old; had = had; own = p; numbered = numbered; edited = h }

-- the item that an index finds
pub at_index : {A : Type 0} (xs ys : List A) (n : ℕ) (x y : A) → n < length xs → x ≡ get_or ys n x → ys ≡ xs → x ≡ y → slice_get xs n ≡ Some y
at_index {A} xs ys n x y lt is same e = slice_get-get_or xs n x lt ∙ ap Some (sym (ap (λ (l : List A). get_or l n x) same) ∙ (sym is ∙ e))

-- each package has a place among the parts
pub place_of : (qs : List PackageModel) (was : List (Option PartModel)) (n : ℕ) (p : PackageModel) → AreParts qs was → slice_get qs n ≡ Some p → n < length was
place_of qs was n p made at = omega (arith, slice_get_within qs n p at, numbered_length (λ k q x. IsPartOf qs was k q x) 0 qs was made)

-- all parts

module _ (stay : OutcomesStay) (qs ps : List PackageModel) (was : List (Option PartModel)) (n : ℕ) (old new : PartModel) (p : PackageModel) (well : IsWorkspace qs) (also : IsWorkspace ps) (heads : HaveSameHeads qs ps)
    (made : AreParts qs was) (alone : DifferAt qs ps n) (had : slice_get was n ≡ Some (Some old)) (numbered : slice_get ps n ≡ Some p) (source : new.input.source ≡ p) (imports : new.input.imports ≡ old.input.imports)
    (reached : new.input.reached ≡ old.input.reached) (part : IsPart new.input new.content) (same : new.content.summary ≡ old.content.summary) where
  abbrev now : List (Option PartModel)
  now = slice_set was n (Some new)

  lt : n < length was
  lt = slice_get_within was n (Some old) had

  -- all packages tell what they told

  tells_by : (k : ℕ) (s : SummaryModel) → Tells was k s → (k ≡ n) ⊎ (k ≢ n) → Tells now k s
  tells_by k s h (inl e) =
      let at : slice_get was n ≡ Some (Some h.of_part) = subst (λ m. slice_get was m ≡ Some (Some h.of_part)) e h.there in
      let one : h.of_part ≡ old = (let f : Some h.of_part ≡ Some old = one_at was n (Some h.of_part) (Some old) at had in cc) in
      record { of_part = new; there = ap (slice_get now) e ∙ set_at was n (Some new) lt; is = h.is ∙ (ap (λ (x : PartModel). x.content.summary) one ∙ sym same) }
  tells_by k s h (inr ne) = record { of_part = h.of_part; there = set_beside was n (Some new) lt k (Some h.of_part) ne h.there; is = h.is }

  tells : (k : ℕ) (s : SummaryModel) → Tells was k s → Tells now k s
  tells k s h = tells_by k s h (cases_eq k n)

  shown : (k : ℕ) (e : ExportsModel) → Shown was k e → Shown now k e
  shown k e h = record { summary = h.summary; told = tells k h.summary h.told; is = h.is }

  -- imports come to what they came to

  comes : (at : ImportAt) (i : Imported) → ComesTo qs was at i → ComesTo ps now at i
  comes at i h = record { outcome = h.outcome; judged = (stay qs ps well also heads at h.outcome).0 h.judged; given = given_weaker (Shown was) (Shown now) shown h.outcome i h.given }

  reaches : (a b : ℕ) → ReachesPackage qs a b → ReachesPackage ps a b
  reaches a b r = (r.0, All-weaker (IsPassingImport qs) (IsPassingImport ps) (λ e h. (h.0, h.1, (stay qs ps well also heads h.0 (come.«Package» e.to)).0 h.2)) r.0 r.1, r.2)

  reached_back : (a b : ℕ) → ReachesPackage ps a b → ReachesPackage qs a b
  reached_back a b r = (r.0, All-weaker (IsPassingImport ps) (IsPassingImport qs) (λ e h. (h.0, h.1, (stay qs ps well also heads h.0 (come.«Package» e.to)).1 h.2)) r.0 r.1, r.2)

  told : (k : ℕ) (ss : List SummaryModel) → AreToldTo qs was k ss → AreToldTo ps now k ss
  told k ss h = record {
    numbers = h.numbers;
    rising = h.rising;
    reached = λ m. ((λ c. reaches k m ((h.reached m).0 c)), (λ r. (h.reached m).1 (reached_back k m r)));
    told = zip_weaker (Tells was) (Tells now) h.numbers ss (λ m s at t. tells m s t) h.told;
  }

  input : (k : ℕ) (q : PackageModel) (i : InputModel) → IsInputOf qs was k q i → IsInputOf ps now k q i
  input k q i h = record { source = h.source; imports = package_weaker (ComesTo qs was) (ComesTo ps now) comes k (trees_of q.1) i.imports h.imports; reached = told k i.reached h.reached }

  part_beside : (k : ℕ) (q : PackageModel) (x : Option PartModel) → IsPartOf qs was k q x → IsPartOf ps now k q x
  part_beside k q None h = h
  part_beside k q (Some x) h = (h.0, input k q x.input h.1, h.2)

  was_right : IsRight qs was n old
  was_right = all_right qs was made n old had

  abbrev before : PackageModel
  before = old.input.source

  counted : AreInPackage (ComesTo ps now) n (trees_of p.1) old.input.imports
  counted =
      in_package (ComesTo ps now) n (trees_of before.1) (trees_of p.1) old.input.imports (same_counts before.1 p.1 (same_files qs ps was n old p heads made had numbered))
      (input n before old.input was_right.input).imports

  edited : IsPartOf ps now n p (Some new)
  edited = (
    assembled qs ps was n old p heads made had numbered,
    record {
      source = source;
      imports = subst (AreInPackage (ComesTo ps now) n (trees_of p.1)) (sym imports) counted;
      reached = subst (AreToldTo ps now n) (sym reached) (told n old.input.reached was_right.input.reached);
    },
    part,
  )

  part_at : (k : ℕ) (q : PackageModel) (x : Option PartModel) → slice_get ps k ≡ Some q → slice_get now k ≡ Some x → (k ≡ n) ⊎ (k ≢ n) → IsPartOf ps now k q x
  part_at k q x at there (inl e) =
      let same_one : p ≡ q = one_at ps n p q numbered (subst (λ m. slice_get ps m ≡ Some q) e at) in
      let here : Some new ≡ x = one_at now n (Some new) x (set_at was n (Some new) lt) (subst (λ m. slice_get now m ≡ Some x) e there) in
      subst (λ m. IsPartOf ps now m q x) (sym e) (subst (λ y. IsPartOf ps now n q y) here (subst (λ (r : PackageModel). IsPartOf ps now n r (Some new)) same_one edited))
  part_at k q x at there (inr ne) =
      let same_one : slice_get qs k ≡ Some q = alone.beside k ne ∙ at in
      let here = numbered_at (λ m r y. IsPartOf qs was m r y) 0 qs was k q made same_one in
      let e : 0 + k ≡ k = omega arith in
      let is : here.0 ≡ x = one_at was k here.0 x here.1 (was_beside was n (Some new) lt k x ne there) in
      part_beside k q x (subst (λ y. IsPartOf qs was k q y) is (subst (λ m. IsPartOf qs was m q here.0) e here.2))

  pub parts_edited : AreParts ps now
  parts_edited =
      let many : length now ≡ length ps = length-set was n (Some new) ∙ (sym (numbered_length (λ k q x. IsPartOf qs was k q x) 0 qs was made) ∙ alone.many) in
      numbered_from (λ k q x. IsPartOf ps now k q x) 0 ps now many
      (λ k q x at there. (let e : k ≡ 0 + k = omega arith in subst (λ m. IsPartOf ps now m q x) e (part_at k q x at there (cases_eq k n))))

  -- no part was there that is made from the edited package
  pub not_there : WasThere was new → ⊥
  not_there h =
      let r = all_right qs was made h.0 new h.1 in
      let number : h.0 ≡ n = one_place qs h.0 n new.input.source before well r.numbered was_right.numbered (ap (λ (q : PackageModel). q.0) source ∙ same_path qs ps was n old p heads made had numbered) in
      let first : alone.one ≡ new.input.source = one_at qs n alone.one new.input.source alone.there (subst (λ m. slice_get qs m ≡ Some new.input.source) number r.numbered) in
      let second : p ≡ alone.other = one_at ps n p alone.other numbered alone.here in
      alone.differ (first ∙ (source ∙ second))

-- by what was found

module _ (qs ps : List PackageModel) (was : List (Option PartModel)) (n : ℕ) (new : PartModel) (well : IsWorkspace qs) (also : IsWorkspace ps) (stay : OutcomesStay) (made : AreParts qs was) (alone : DifferAt qs ps n) (h : IsEditedAt qs ps was n new) where
  source_is : new.input.source ≡ h.own
  source_is = ap (λ (i : InputModel). i.source) h.edited.input

  imports_are : new.input.imports ≡ h.old.input.imports
  imports_are = ap (λ (i : InputModel). i.imports) h.edited.input

  reached_are : new.input.reached ≡ h.old.input.reached
  reached_are = ap (λ (i : InputModel). i.reached) h.edited.input

  pub parts_after : AreParts ps (slice_set was n (Some new))
  parts_after = parts_edited stay qs ps was n h.old new h.own well also h.heads made alone h.had h.numbered source_is imports_are reached_are h.edited.part h.edited.same

  pub new_not_there : WasThere was new → ⊥
  new_not_there = not_there stay qs ps was n h.old new h.own well also h.heads made alone h.had h.numbered source_is imports_are reached_are h.edited.part h.edited.same
