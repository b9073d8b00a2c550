-- What the packages of a whole tell.
use Rattle.std.proofs.Common.{◌≡◌, ◌≢◌, ℕ, zero, suc, ◌+◌, inl, inr, List, [], ◌∷◌, ◌++◌, Option, Some, None, refl, sym, ap, subst, ◌∙◌, arith}
use Rattle.std.specs.Prelude.{slice_get}
use Rattle.std.specs.List.{flat_map}
use Rattle.std.proofs.lemmas.List.Kept.{AllPairs-cons}
use Rattle.go_graph_core.specs.Workspaces.{PackageModel, IsWorkspace}
use Rattle.go_graph_core.proofs.OneTarget.{same_number}
use Rattle.go_names_core.specs.block_core.Blocks.{exports_of}
use Rattle.go_names_core.specs.block_core.Exports.{ExportsModel}
use Rattle.go_body_core.specs.table_core.Entries.{Entry}
use Rattle.go_body_core.specs.table_core.Tables.{package_types}
use Rattle.go_body_core.specs.typexpr_core.EntryAmong.{Among}
use Rattle.go_emit_core.specs.declared_core.Packages.{PackageFacesModel}
use Rattle.go_report_core.specs.summary_core.Summaries.{SummaryModel, IsOfOne, path_of, summary_of}
use Rattle.go_report_core.specs.summary_core.Views.{PathsAreApart, exports_told, faces_told, types_told}
use Rattle.go_emit_core.specs.package_core.PreparePackages.{PackageIn}
use Rattle.go_emit_core.specs.package_core.Checked.{CheckedOf}
use Rattle.go_body_core.specs.typexpr_core.EntryShowing.{shown_in}
use Rattle.go_snap_core.specs.whole_workspace.Known.{CheckGives}
use Rattle.go_snap_core.proofs.WholeWorkspaceTold.{AreWell, NoneIsOf}
use Rattle.go_snap_core.specs.whole_workspace.Whole.{WholeOf, beside, if_some}
use Rattle.go_snap_core.proofs.WholeWorkspaceLists.{all_from_among, none_is_some}

-- what a package tells that has this
abbrev pub told_of : WholeOf → SummaryModel
told_of w = summary_of w.source w.blocks (package_types w.source.0 w.checked.types) w.checked.faces

abbrev pub tell : List (Option WholeOf) → List SummaryModel
tell xs = flat_map (if_some (λ (w : WholeOf). told_of w ∷ [])) xs

pub types_are : (xs : List (Option WholeOf)) → flat_map (if_some (λ (w : WholeOf). w.checked.types)) xs ≡ types_told (tell xs)
types_are [] = refl
types_are (None ∷ xs) = types_are xs
types_are (Some w ∷ xs) = ap (λ l. w.checked.types ++ l) (types_are xs)

pub exports_are : (xs : List (Option WholeOf)) → flat_map (if_some (λ (w : WholeOf). exports_of w.source w.blocks ∷ [])) xs ≡ exports_told (tell xs)
exports_are [] = refl
exports_are (None ∷ xs) = exports_are xs
exports_are (Some w ∷ xs) = ap (λ l. exports_of w.source w.blocks ∷ l) (exports_are xs)

pub faces_are : (xs : List (Option WholeOf)) → flat_map (if_some (λ (w : WholeOf). w.checked.faces ∷ [])) xs ≡ faces_told (tell xs)
faces_are [] = refl
faces_are (None ∷ xs) = faces_are xs
faces_are (Some w ∷ xs) = ap (λ l. w.checked.faces ∷ l) (faces_are xs)

-- which summaries these are

pub record IsToldAt (xs : List (Option WholeOf)) (s : SummaryModel) : Type 0 where
  pub number : ℕ
  pub whole : WholeOf
  pub there : slice_get xs number ≡ Some (Some whole)
  pub is : told_of whole ≡ s

pub tell_of : (xs : List (Option WholeOf)) (s : SummaryModel) → Among (tell xs) s → IsToldAt xs s
tell_of [] s h = absurd h
tell_of (None ∷ xs) s h = (let r = tell_of xs s h in record { number = suc r.number; whole = r.whole; there = r.there; is = r.is })
tell_of (Some w ∷ xs) s h = elim h [
  | inl e ↦ record { number = 0; whole = w; there = refl; is = e }
  | inr a ↦ (let r = tell_of xs s a in record { number = suc r.number; whole = r.whole; there = r.there; is = r.is })
]

pub tell_to : (xs : List (Option WholeOf)) (i : ℕ) (w : WholeOf) → slice_get xs i ≡ Some (Some w) → Among (tell xs) (told_of w)
tell_to [] i w h = absurd (none_is_some h)
tell_to (None ∷ xs) zero w h = absurd (let e : None ≡ Some w = (let f : Some None ≡ Some (Some w) = h in cc) in none_is_some e)
tell_to (None ∷ xs) (suc i) w h = tell_to xs i w h
tell_to (Some v ∷ xs) zero w h = inl (let f : Some (Some v) ≡ Some (Some w) = h in let e : v ≡ w = cc in ap told_of e)
tell_to (Some v ∷ xs) (suc i) w h = inr (tell_to xs i w h)

-- they are of different packages

abbrev pub AreSourced : List PackageModel → ℕ → List (Option WholeOf) → Type 0
AreSourced ps k xs = (i : ℕ) (w : WholeOf) → slice_get xs i ≡ Some (Some w) → slice_get ps (k + i) ≡ Some w.source

sourced_rest : (ps : List PackageModel) (k : ℕ) (x : Option WholeOf) (xs : List (Option WholeOf)) → AreSourced ps k (x ∷ xs) → AreSourced ps (suc k) xs
sourced_rest ps k x xs h = λ i w at. (let e : k + suc i ≡ suc k + i = omega arith in subst (λ n. slice_get ps n ≡ Some w.source) e (h (suc i) w at))

-- two packages of one path have one number
pub one_place : (ps : List PackageModel) (i j : ℕ) (p q : PackageModel) → IsWorkspace ps → slice_get ps i ≡ Some p → slice_get ps j ≡ Some q → p.0 ≡ q.0 → i ≡ j
one_place ps i j p q well a b same = (same_number ps p.0 i j p.1 q.1 well a (subst (λ (x : List ℕ). slice_get ps j ≡ Some (x, q.1)) (sym same) b)).0

pub tell_apart : (ps : List PackageModel) (k : ℕ) (xs : List (Option WholeOf)) → IsWorkspace ps → AreSourced ps k xs → PathsAreApart (tell xs)
tell_apart ps k [] well h = λ i j d lt below. absurd (omega (arith, below))
tell_apart ps k (None ∷ xs) well h = tell_apart ps (suc k) xs well (sourced_rest ps k None xs h)
tell_apart ps k (Some w ∷ xs) well h =
    AllPairs-cons (λ s t. path_of s ≡ path_of t → ⊥) (told_of w) (tell xs)
    (all_from_among (λ t. path_of (told_of w) ≡ path_of t → ⊥) (tell xs)
    (λ t at same. (let r = tell_of xs t at in
    let one : slice_get ps (k + 0) ≡ Some w.source = h 0 w refl in
    let other : slice_get ps (suc k + r.number) ≡ Some r.whole.source = sourced_rest ps k (Some w) xs h r.number r.whole r.there in
    let number : k + 0 ≡ suc k + r.number = one_place ps (k + 0) (suc k + r.number) w.source r.whole.source well one other (same ∙ ap path_of (sym r.is)) in
    omega (arith, number))))
    (tell_apart ps (suc k) xs well (sourced_rest ps k (Some w) xs h))

-- all but one

pub beside_some : (n : ℕ) (xs : List (Option WholeOf)) (i : ℕ) (w : WholeOf) → slice_get (beside n xs) i ≡ Some (Some w) → (i ≢ n) × (slice_get xs i ≡ Some (Some w))
beside_some n [] i w h = absurd (none_is_some h)
beside_some zero (x ∷ xs) zero w h = absurd (let f : Some None ≡ Some (Some w) = h in let e : None ≡ Some w = cc in none_is_some e)
beside_some zero (x ∷ xs) (suc i) w h = (omega arith, h)
beside_some (suc n) (x ∷ xs) zero w h = (omega arith, h)
beside_some (suc n) (x ∷ xs) (suc i) w h = (let r = beside_some n xs i w h in let ne = r.0 in (omega (arith, ne), r.1))

pub some_beside : (n : ℕ) (xs : List (Option WholeOf)) (i : ℕ) (w : WholeOf) → i ≢ n → slice_get xs i ≡ Some (Some w) → slice_get (beside n xs) i ≡ Some (Some w)
some_beside n [] i w ne h = absurd (none_is_some h)
some_beside zero (x ∷ xs) zero w ne h = absurd (ne refl)
some_beside zero (x ∷ xs) (suc i) w ne h = h
some_beside (suc n) (x ∷ xs) zero w ne h = h
some_beside (suc n) (x ∷ xs) (suc i) w ne h = some_beside n xs i w (λ e. ne (ap suc e)) h

-- what all but one tell

module _ (ps : List PackageModel) (ws : List (Option WholeOf)) (well : IsWorkspace ps) (sourced : AreSourced ps 0 ws) (ones : (i : ℕ) (w : WholeOf) → slice_get ws i ≡ Some (Some w) → IsOfOne (told_of w)) where
  pub well_beside : (n : ℕ) → AreWell (tell (beside n ws))
  well_beside n = record {
    apart = tell_apart ps 0 (beside n ws) well (λ i w h. sourced i w (beside_some n ws i w h).1);
    own = all_from_among IsOfOne (tell (beside n ws)) (λ s at. (let r = tell_of (beside n ws) s at in subst IsOfOne r.is (ones r.number r.whole (beside_some n ws r.number r.whole r.there).1)));
  }

  -- none of the others is of its path
  pub none_beside : (n : ℕ) (p : PackageModel) → slice_get ps n ≡ Some p → NoneIsOf (tell (beside n ws)) p.0
  none_beside n p at =
      all_from_among (λ s. p.0 ≡ path_of s → ⊥) (tell (beside n ws))
      (λ s among same. (let r = tell_of (beside n ws) s among in
      let b = beside_some n ws r.number r.whole r.there in
      let numbered : slice_get ps r.number ≡ Some r.whole.source = (let e : 0 + r.number ≡ r.number = omega arith in subst (λ m. slice_get ps m ≡ Some r.whole.source) e (sourced r.number r.whole b.1)) in
      b.0 (one_place ps r.number n r.whole.source p well numbered at (ap path_of r.is ∙ sym same))))

-- what is known is the same by equal lists
pub over : (p : PackageIn) (far types : List Entry) (es exports : List ExportsModel) (fs faces : List PackageFacesModel) (c : CheckedOf) → far ≡ types → es ≡ exports → fs ≡ faces
    → CheckGives p (record { types = far; shows = shown_in es; faces = fs }) c → CheckGives p (record { types = types; shows = shown_in exports; faces = faces }) c
over p far types es exports fs faces c a b d h =
    subst (λ (x : List PackageFacesModel). CheckGives p (record { types = types; shows = shown_in exports; faces = x }) c) d
    (subst (λ (x : List ExportsModel). CheckGives p (record { types = types; shows = shown_in x; faces = fs }) c) b
    (subst (λ (x : List Entry). CheckGives p (record { types = x; shows = shown_in es; faces = fs }) c) a h))
