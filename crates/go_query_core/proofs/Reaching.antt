-- What a package reaches.
use Rattle.std.proofs.Common.{◌≡◌, ℕ, zero, suc, ◌+◌, ◌<◌, List, [], ◌∷◌, length, get_or, map, Option, Some, slice_get, refl, sym, ap, ◌∙◌, subst, arith}
use Rattle.std.specs.Prelude.{◌↔◌, Contains}
use Rattle.std.specs.List.{AllZip}
use Rattle.std.specs.List.Sorted.{IsStrictlyIncreasing, IsStrictlySortedBy}
use Rattle.std.specs.Map.{keys_of}
use Rattle.std.specs.declared.cmp.Ordering.TheVariants.{Less}
use Rattle.std.proofs.lemmas.List.{length-map}
use Rattle.std.proofs.lemmas.Map.Keys.{Less-from_sorted, sorted_from_all_adjacent}
use Rattle.std.proofs.lemmas.Cmp.{nat_list_cmp_total}
use Rattle.std.proofs.lemmas.Option.{get_or_from_slice_get, same_Some, slice_get-get_or, slice_get_within}
use Rattle.go_import_core.specs.graph_core.Workspaces.{IsWorkspace, PackageModel, by_bytes}
use Rattle.go_import_core.specs.graph_core.Zips.{zip_at, zip_back, zip_length}
use Rattle.go_complete_core.specs.package_core.PackagePartParts.{PartModel}
use Rattle.go_complete_core.specs.summary_core.Summaries.{SummaryModel, path_of}
use Rattle.go_complete_core.specs.snap_core.WholeWorkspaceInputs.{AreParts, AreToldTo, Tells}
use Rattle.go_complete_core.specs.snap_core.WholeWorkspaceMirrors.Steps.{AreRight, IsRight}
use Rattle.go_complete_core.specs.snap_core.WholeWorkspaceParts.{path_told}
use Rattle.go_complete_core.specs.snap_core.WholeWorkspacePartsWhole.{all_right}
use Rattle.go_complete_core.specs.summary_core.ShownShown.{MayBeShown, Picks}
use Rattle.go_complete_core.specs.summary_core.ShownPicking.{picks_both, picks_sorted}
use Rattle.go_query_core.specs.Entries.{AreDeps, EntryOf, HasPath, IsEntry, Reaches}

path_at : (ps : List PackageModel) (i : ℕ) (d : PackageModel) → get_or (keys_of ps) i d.0 ≡ (get_or ps i d).0
path_at [] i d = refl
path_at (p ∷ ps) zero d = refl
path_at (p ∷ ps) (suc i) d = path_at ps i d

-- paths rise with numbers
paths_rise : (ps : List PackageModel) (i j : ℕ) (p q : PackageModel) → IsStrictlySortedBy by_bytes (keys_of ps) → i < j → slice_get ps i ≡ Some p → slice_get ps j ≡ Some q → by_bytes p.0 q.0 ≡ Less
paths_rise ps i j p q order below at there =
    let lt : j < length ps = slice_get_within ps j q there in
    let enough : j < length (keys_of ps) = subst (λ n. j < n) (sym (length-map ps (λ x. x.0))) lt in
    let compared : by_bytes (get_or (keys_of ps) i p.0) (get_or (keys_of ps) j p.0) ≡ Less = Less-from_sorted by_bytes (keys_of ps) i j p.0 order below enough in
    let a : get_or (keys_of ps) i p.0 ≡ p.0 = path_at ps i p ∙ ap (λ (x : PackageModel). x.0) (get_or_from_slice_get ps i p p at) in
    let b : get_or (keys_of ps) j p.0 ≡ q.0 = path_at ps j p ∙ ap (λ (x : PackageModel). x.0) (get_or_from_slice_get ps j q p there) in
    subst (λ k. by_bytes k q.0 ≡ Less) a (subst (λ k. by_bytes (get_or (keys_of ps) i p.0) k ≡ Less) b compared)

mapped_at : {A B : Type 0} (f : A → B) (xs : List A) (k : ℕ) (x : A) (d : B) → slice_get xs k ≡ Some x → get_or (map f xs) k d ≡ f x
mapped_at f [] k x d at = cc
mapped_at f (y ∷ xs) zero x d at = (let same : y ≡ x = cc in ap f same)
mapped_at f (y ∷ xs) (suc k) x d at = mapped_at f xs k x d at

mapped_from : (ss : List SummaryModel) (k : ℕ) (path : List ℕ) → k < length (map path_of ss) → get_or (map path_of ss) k path ≡ path → (s : SummaryModel) × (slice_get ss k ≡ Some s) × (path_of s ≡ path)
mapped_from [] k path lt is = absurd (omega (arith, lt))
mapped_from (s ∷ ss) zero path lt is = (s, refl, is)
mapped_from (s ∷ ss) (suc k) path lt is = mapped_from ss k path (omega (arith, lt)) is

there : {A : Type 0} (xs : List A) (k : ℕ) (x : A) → slice_get xs k ≡ Some x → Contains xs x
there xs k x at = (k, slice_get_within xs k x at, get_or_from_slice_get xs k x x at)

module _ (ps : List PackageModel) (parts : List (Option PartModel)) (well : IsWorkspace ps) (made : AreParts ps parts) where
  right : AreRight ps parts
  right = all_right ps parts made

  told_path : (m : ℕ) (s : SummaryModel) → Tells parts m s → HasPath ps m (path_of s)
  told_path m s h =
      let source : PackageModel = h.of_part.input.source in
      (source.1, subst (λ (p : List ℕ). slice_get ps m ≡ Some (p, source.1)) (sym (path_told ps parts well right m s h)) (right m h.of_part h.there).numbered)

  -- those that are told rise by path
  told_rise : (numbers : List ℕ) (ss : List SummaryModel) → IsStrictlyIncreasing numbers → AllZip (Tells parts) numbers ss → IsStrictlySortedBy by_bytes (map path_of ss)
  told_rise numbers ss up told =
      sorted_from_all_adjacent nat_list_cmp_total (map path_of ss) []
      (λ k lt. (
      let many : length numbers ≡ length ss = zip_length (Tells parts) numbers ss told in
      let mapped : length (map path_of ss) ≡ length ss = length-map ss path_of in
      let high : k + 1 < length numbers = omega (arith, lt, many, mapped) in
      let low : k < length numbers = omega (arith, high) in
      let one = zip_at (Tells parts) numbers ss k (get_or numbers k 0) told (slice_get-get_or numbers k 0 low) in
      let next = zip_at (Tells parts) numbers ss (k + 1) (get_or numbers (k + 1) 0) told (slice_get-get_or numbers (k + 1) 0 high) in
      let a = told_path (get_or numbers k 0) one.0 one.2 in
      let b = told_path (get_or numbers (k + 1) 0) next.0 next.2 in
      let less : by_bytes (path_of one.0) (path_of next.0) ≡ Less = paths_rise ps (get_or numbers k 0) (get_or numbers (k + 1) 0) (path_of one.0, a.0) (path_of next.0, b.0) well.order (up k high) a.1 b.1 in
      subst (λ x. by_bytes x (get_or (map path_of ss) (k + 1) []) ≡ Less) (sym (mapped_at path_of ss k one.0 [] one.1)) (subst (λ x. by_bytes (path_of one.0) x ≡ Less) (sym (mapped_at path_of ss (k + 1) next.0 [] next.1)) less)
      ))

  module _ (n : ℕ) (part : PartModel) (at_part : slice_get parts n ≡ Some (Some part)) where
    is_right : IsRight ps parts n part
    is_right = right n part at_part

    reached : AreToldTo ps parts n part.input.reached
    reached = is_right.input.reached

    pub deps_rise : IsStrictlySortedBy by_bytes (map path_of part.input.reached)
    deps_rise = told_rise reached.numbers part.input.reached reached.rising reached.told

    pub deps_are : (path : List ℕ) → Contains (map path_of part.input.reached) path → Reaches ps n path
    deps_are path h =
        let found = mapped_from part.input.reached h.0 path h.1 h.2 in
        let told = zip_back (Tells parts) reached.numbers part.input.reached h.0 found.0 reached.told found.1 in
        let here = told_path told.0 found.0 told.2 in
        (told.0, (reached.reached told.0).0 (there reached.numbers h.0 told.0 told.1), (here.0, subst (λ (p : List ℕ). slice_get ps told.0 ≡ Some (p, here.0)) found.2 here.1))

    pub all_deps : (path : List ℕ) → Reaches ps n path → Contains (map path_of part.input.reached) path
    all_deps path h =
        let to : ℕ = h.0 in
        let among = (reached.reached to).1 h.1 in
        let at : slice_get reached.numbers among.0 ≡ Some to = slice_get-get_or reached.numbers among.0 to among.1 ∙ ap Some among.2 in
        let told = zip_at (Tells parts) reached.numbers part.input.reached among.0 to reached.told at in
        let here = told_path to told.0 told.2 in
        let same : path_of told.0 ≡ path = ap (λ (x : PackageModel). x.0) (same_Some (path_of told.0, here.0) (path, h.2.0) (sym here.1 ∙ h.2.1)) in
        let mapped : length (map path_of part.input.reached) ≡ length part.input.reached = length-map part.input.reached path_of in
        (among.0, (let low = slice_get_within part.input.reached among.0 told.0 told.1 in omega (arith, low, mapped)), mapped_at path_of part.input.reached among.0 told.0 path told.1 ∙ same)

    pub deps_both : (path : List ℕ) → Contains (map path_of part.input.reached) path ↔ Reaches ps n path
    deps_both path = (deps_are path, all_deps path)

-- what an entry shows

module _ (e : EntryOf) (own : IsEntry e) where
  pub shown_deps : (reached : List SummaryModel) (from : List ℕ) → reached ≡ e.of_part.input.reached → from ≡ e.from → (paths : List (List ℕ)) → Picks (MayBeShown from) (map path_of reached) paths → AreDeps e paths
  shown_deps all from same named paths picks = by (subst (λ (q : List ℕ). Picks (MayBeShown q) (map path_of e.of_part.input.reached) paths) named (subst (λ (l : List SummaryModel). Picks (MayBeShown from) (map path_of l) paths) same picks))
    where
      by : Picks (MayBeShown e.from) (map path_of e.of_part.input.reached) paths → AreDeps e paths
      by h = record {
        order = picks_sorted (MayBeShown e.from) by_bytes (map path_of e.of_part.input.reached) paths h (deps_rise e.of_snapshot.sources e.of_snapshot.parts own.well own.whole.made e.number e.of_part own.there);
        each = λ path.
            let are : Contains (map path_of e.of_part.input.reached) path ↔ Reaches e.of_snapshot.sources e.number path = deps_both e.of_snapshot.sources e.of_snapshot.parts own.well own.whole.made e.number e.of_part own.there path in
            let both : Contains paths path ↔ (Contains (map path_of e.of_part.input.reached) path × MayBeShown e.from path) = picks_both (MayBeShown e.from) (map path_of e.of_part.input.reached) paths h path in
            ((λ there_is. (let k = both.0 there_is in (are.0 k.0, k.1))), (λ k. both.1 (are.1 k.0, k.1)));
      }
