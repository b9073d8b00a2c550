-- What a batch leaves as it was in a snapshot.
use Rattle.std.proofs.Common.{◌≡◌, ◌+◌, ℕ, Bool, List, Option, Some, None, sym, ap, ◌∙◌, subst, arith}
use Rattle.std.specs.Prelude.{slice_get}
use Rattle.go_block_core.specs.graph_core.Packages.{IsAssembled}
use Rattle.go_block_core.specs.graph_core.Workspaces.{IsWorkspace, PackageModel}
use Rattle.go_package_core.specs.package_part.Inputs.{InputModel}
use Rattle.go_package_core.specs.package_part.Laws.{OnePart}
use Rattle.go_package_core.specs.package_part.Parts.{IsPart, PartModel}
use Rattle.go_snap_core.specs.Snapshots.{SnapshotModel}
use Rattle.go_snap_core.specs.Staying.{StaysWhere}
use Rattle.go_snap_core.proofs.WholeWorkspaceChecks.{trees_are_placed}
use Rattle.go_snap_core.specs.whole_workspace.Inputs.{AreParts, IsPartOf}
use Rattle.go_batch_core.specs.Steadiness.{AreAgain, IsAgainAt, WasAt}
use Rattle.go_batch_core.proofs.Steadied.{numbered_back}

-- the package of a number, and what is known of its part
part_there : (ps : List PackageModel) (parts : List (Option PartModel)) (n : ℕ) (part : Option PartModel) → AreParts ps parts → slice_get parts n ≡ Some part → (p : PackageModel) × (slice_get ps n ≡ Some p) × IsPartOf ps parts n p part
part_there ps parts n part all at =
    let back = numbered_back (λ k q o. IsPartOf ps parts k q o) 0 ps parts n part all at in
    let e : 0 + n ≡ n = omega arith in
    (back.0, back.1, subst (λ (k : ℕ). IsPartOf ps parts k back.0 part) e back.2)

one_package : (ps : List PackageModel) (n : ℕ) (p q : PackageModel) → slice_get ps n ≡ Some p → slice_get ps n ≡ Some q → p ≡ q
one_package ps n p q a b = (let both : Some p ≡ Some q = sym a ∙ b in cc)

-- a part that is made of the input of the earlier one is this one
same_part : (one : OnePart) (s t : SnapshotModel) (n : ℕ) → IsWorkspace t.sources → AreParts s.sources s.parts → AreParts t.sources t.parts → (is : IsAgainAt s t.sources t.parts n) → (b : Option PartModel) → slice_get t.parts n ≡ Some b → Some is.earlier ≡ b
same_part one s t n well old now is None at =
    let was = part_there s.sources s.parts n (Some is.earlier) old is.was in
    let here = part_there t.sources t.parts n None now at in
    let source : was.0 ≡ here.0 = sym was.2.1.source ∙ one_package t.sources n is.earlier.input.source here.0 is.source here.1 in
    absurd (here.2 (subst (λ (p : PackageModel). IsAssembled p.1) source was.2.0))
same_part one s t n well old now is (Some p) at =
    let was = part_there s.sources s.parts n (Some is.earlier) old is.was in
    let here = part_there t.sources t.parts n (Some p) now at in
    let input : is.earlier.input ≡ p.input = is.made p at in
    let again : IsPart is.earlier.input p.content = subst (λ (i : InputModel). IsPart i p.content) (sym input) here.2.2 in
    let content : is.earlier.content ≡ p.content = one is.earlier.input is.earlier.content p.content (trees_are_placed t.sources n is.earlier.input.source well is.source) was.2.2 again in
    let same : is.earlier ≡ p = λ k. record { input = input k; content = content k } in
    ap Some same

pub left_stays : OnePart → (s t : SnapshotModel) (marks : List Bool) → IsWorkspace t.sources → AreParts s.sources s.parts → AreParts t.sources t.parts → AreAgain s t.sources t.parts marks → StaysWhere s t marks
left_stays one s t marks well old now again = record {
  packages = λ n marked a b was is.
      let k = again n marked in
      let there = part_there s.sources s.parts n (Some k.earlier) old k.was in
      one_package s.sources n a there.0 was there.1 ∙ sym there.2.1.source ∙ one_package t.sources n k.earlier.input.source b k.source is;
  parts = λ n marked a b was is.
      let k = again n marked in
      let first : a ≡ Some k.earlier = (let both : Some a ≡ Some (Some k.earlier) = sym was ∙ k.was in cc) in
      first ∙ same_part one s t n well old now k b is;
}
