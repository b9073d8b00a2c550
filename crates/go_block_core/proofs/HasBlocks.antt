-- A workspace has a list of blocks.
use Rattle.std.proofs.Common.{◌≡◌, ℕ, ◌+◌, ◌<◌, ◌≤◌, zero, suc, List, [], ◌∷◌, length, take, Option, Some, None, refl, subst, arith}
use Rattle.std.specs.Prelude.{slice_get, slice_index, slice_set, replicate}
use Rattle.std.proofs.lemmas.List.{take_all}
use Rattle.std.proofs.lemmas.Option.{slice_get_within}
use Rattle.go_tree_nodes.specs.Trees.{FileTree}
use Rattle.go_graph_core.specs.declared.imports.ImportAt.{ImportAt}
use Rattle.go_graph_core.specs.declared.imports.ImportOutcome.{ImportOutcome}
use Rattle.go_graph_core.specs.declared.imports.ImportOutcome.TheVariants as outcomes
use Rattle.go_graph_core.specs.Lists.{AllNumbered}
use Rattle.go_graph_core.specs.Packages.{Trees, trees_of}
use Rattle.go_graph_core.specs.Plans.{PlanModel, IsPlan}
use Rattle.go_graph_core.specs.Workspaces.{PackageModel}
use Rattle.go_graph_core.proofs.PlanLaws.{has_plan}
use Rattle.go_block_core.specs.declared.imports.Imported.{Imported}
use Rattle.go_block_core.specs.declared.imports.Imported.TheVariants as given
use Rattle.go_block_core.specs.declared.imports.NamedImport.{NamedImport}
use Rattle.go_block_core.specs.All.{HasBlocks}
use Rattle.go_block_core.specs.Blocks.{BlocksModel, blocks_model, AreBlocks, exports_of}
use Rattle.go_block_core.specs.Exports.{ExportsModel}
use Rattle.go_block_core.specs.Faults.{all_block_faults, fault_cmp}
use Rattle.go_block_core.specs.Holding.{package_block, file_blocks}
use Rattle.go_block_core.specs.Naming.{IsGiven, AreInFile, AreInPackage, file_specs, import_at, package_named}
use Rattle.go_block_core.specs.mirrors.Steps.{HasExports, IsShownIn, IsReady, AreReadyIn, AreReady, IsPlanned, IsMadeAt}
use Rattle.go_block_core.proofs.AllLemmas.{AreMade, none_made, assembled_at, ready_at, one_more, all_made}
use Rattle.go_block_core.proofs.FaultLemmas.{fault_total, fault_equal}
use Rattle.go_block_core.proofs.SortedOnce.{sorted_once}

-- a partner of each item
partners : {A B : Type 0} (R : ℕ → A → B → Type 0) (k : ℕ) (xs : List A) → ((i : ℕ) (x : A) → slice_get xs i ≡ Some x → (y : B) × R (k + i) x y) → (ys : List B) × AllNumbered R k xs ys
partners R k [] each = ([], tt)
partners {A} {B} R k (x ∷ xs) each =
    let here : k + 0 ≡ k = omega arith in
    let first = each 0 x refl in
    let next : (i : ℕ) (z : A) → slice_get xs i ≡ Some z → (y : B) × R (suc k + i) z y = λ i z at. (
    let there : k + suc i ≡ suc k + i = omega arith in
    let one = each (suc i) z at in
    (one.0, subst (λ m. R m z one.0) there one.1)) in
    let rest = partners R (suc k) xs next in
    (first.0 ∷ rest.0, (subst (λ m. R m x first.0) here first.1, rest.1))

-- what the imports of a package come to

given_of : (es : List (Option ExportsModel)) (o : ImportOutcome) → HasExports es o → (i : Imported) × IsGiven (IsShownIn es) o i
given_of es (outcomes.«Package» number) h = (given.«Package» h.0, h.1)
given_of es (outcomes.Refused rule) h = (given.Refused rule, refl)

module _ (planned : List (List (List ImportOutcome))) (es : List (Option ExportsModel)) where
  planned_of : (at : ImportAt) → IsReady planned es at → (i : Imported) × IsPlanned planned es at i
  planned_of at h = (let i = given_of es h.outcome h.there in (i.0, record { outcome = h.outcome; is = h.is; given = i.1 }))

  in_file : (number file : ℕ) (f : FileTree) → AreReadyIn planned es number file f → (is : List Imported) × AreInFile (IsPlanned planned es) number file f is
  in_file number file f ready =
      partners (λ n spec i. IsPlanned planned es (import_at number file n) i) 0 (file_specs f)
      (λ n spec at.
      let same : n ≡ 0 + n = omega arith in
      let i = planned_of (import_at number file n) (ready n (slice_get_within (file_specs f) n spec at)) in
      (i.0, subst (λ m. IsPlanned planned es (import_at number file m) i.0) same i.1))

  in_package : (number : ℕ) (ts : Trees) → AreReady planned es number ts → (files : List (List Imported)) × AreInPackage (IsPlanned planned es) number ts files
  in_package number ts ready =
      partners (λ file t is. AreInFile (IsPlanned planned es) number file t.1 is) 0 ts
      (λ file t at.
      let same : file ≡ 0 + file = omega arith in
      let is = in_file number file t.1 (ready file t at) in
      (is.0, subst (λ m. AreInFile (IsPlanned planned es) number m t.1 is.0) same is.1))

-- the blocks of a package
blocks_of : (ts : Trees) (imports : List (List NamedImport)) → (b : BlocksModel) × AreBlocks ts imports b
blocks_of ts imports =
    let faults = sorted_once fault_cmp fault_total fault_equal (all_block_faults ts imports) in
    (blocks_model (package_block ts) (file_blocks imports) faults.0, record { package_names = refl; file_names = refl; faults = record { order = faults.1; same = faults.2 } })

-- the packages of a plan, one by one

module _ (ps : List PackageModel) (plan : PlanModel) (planned : IsPlan ps plan) where
  made_at : (k : ℕ) (bs : List (Option BlocksModel)) (es : List (Option ExportsModel)) → k < length plan.order → AreMade ps (take k plan.order) bs es → (b : BlocksModel) × (e : ExportsModel) × IsMadeAt ps plan.outcomes es (slice_index plan.order k) b e
  made_at k bs es lt made =
      let number = slice_index plan.order k in
      let at = assembled_at ps plan k number planned lt refl in
      let p : PackageModel = (at.0, at.1) in
      let imported = in_package plan.outcomes es number (trees_of at.1) (ready_at ps plan k bs es planned lt made number refl p at.2) in
      let b = blocks_of (trees_of at.1) (package_named (trees_of at.1) imported.0) in
      (b.0, exports_of p b.0, record { of_package = p; numbered = at.2; made = record { imported = imported.0; given = imported.1; blocks = b.1; exports = refl } })

  made_so_far : (k : ℕ) → k ≤ length plan.order → (bs : List (Option BlocksModel)) × (es : List (Option ExportsModel)) × AreMade ps (take k plan.order) bs es
  made_so_far zero le =
      let bs : List (Option BlocksModel) = replicate (length ps) None in
      let es : List (Option ExportsModel) = replicate (length ps) None in
      (bs, es, none_made ps bs es refl refl)
  made_so_far (suc k) le =
      let lt : k < length plan.order = omega (arith, le) in
      let more : k + 1 ≡ suc k = omega arith in
      let number = slice_index plan.order k in
      let old = made_so_far k (omega (arith, le)) in
      let new = made_at k old.0 old.1 lt old.2 in
      let bs = slice_set old.0 number (Some new.0) in
      let es = slice_set old.1 number (Some new.1) in
      (bs, es, subst (λ n. AreMade ps (take n plan.order) bs es) more (one_more ps plan k number old.0 old.1 new.0 new.1 planned lt refl old.2 new.2))

pub has_blocks : HasBlocks
has_blocks ps well =
    let plan = has_plan ps well in
    let order = plan.0.order in
    let all = made_so_far ps plan.0 plan.1 (length order) (omega arith) in
    (all.0, all_made ps plan.0 all.0 all.1 plan.1 (subst (λ l. AreMade ps l all.0 all.1) (take_all (length order) order (omega arith)) all.2))
