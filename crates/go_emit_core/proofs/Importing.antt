-- The imports of an object are those that pass.
use Rattle.std.proofs.Common.{◌≡◌, ℕ, zero, suc, ◌<◌, Bool, true, false, if◌then◌else◌, List, [], ◌∷◌, Contains, Some, None, refl, sym, ap, subst, arith}
use Rattle.std.specs.Prelude.{slice_index_or}
use Rattle.std.specs.List.{flat_map}
use Rattle.go_declared_core.specs.graph_core.PlanEdges.{from_flat, in_flat}
use Rattle.go_declared_core.specs.block_core.declared.imports.Imported.{Imported}
use Rattle.go_declared_core.specs.block_core.declared.imports.Imported.TheVariants as imported
use Rattle.go_declared_core.specs.handle_core.Declarations.{Declaration}
use Rattle.go_package_core.specs.package_part.Inputs.{InputModel}
use Rattle.go_object_core.specs.Objects.{ObjectOf}
use Rattle.go_emit_core.specs.Emitted.{are_clean, code_scene_over, whole_object}
use Rattle.go_emit_core.specs.Imports.{all_passing, imported_paths}
use Rattle.go_emit_core.specs.Laws.{ImportsPass, HasImportOf}

single : (x y : List ℕ) → Contains (x ∷ []) y → x ≡ y
single x y h = by h.0 h.1 h.2
  where
    by : (k : ℕ) → k < 1 → slice_index_or (x ∷ []) k y ≡ y → x ≡ y
    by zero lt e = e
    by (suc k) lt e = (let no : ⊥ = omega (arith, lt) in absurd no)

only : (import : Imported) (path : List ℕ) → Contains (imported_paths import) path → imported_paths import ≡ path ∷ []
only (imported.«Package» e) path h = ap (λ (p : List ℕ). p ∷ []) (single e.path path h)
only (imported.Refused rule) path h = absurd (omega (arith, h.1))

itself : (path : List ℕ) → Contains (path ∷ []) path
itself path = (let lt : 0 < 1 = omega arith in (0, lt, refl))

is_passing : (i : InputModel) (path : List ℕ) → Contains (all_passing i.imports) path → HasImportOf i path
is_passing i path h =
    let file = from_flat (λ is. flat_map imported_paths is) i.imports path h in
    let one = from_flat imported_paths file.1 path file.3 in
    record { file = file.0; number = one.0; of_file = file.1; import = one.1; there = file.2; here = one.2; comes_to = only one.1 path one.3 }

passing_is : (i : InputModel) (path : List ℕ) → HasImportOf i path → Contains (all_passing i.imports) path
passing_is i path p =
    let here : Contains (imported_paths p.import) path = subst (λ (l : List (List ℕ)). Contains l path) (sym p.comes_to) (itself path) in
    in_flat (λ is. flat_map imported_paths is) i.imports p.file p.of_file path p.there (in_flat imported_paths p.of_file p.number p.import path p.here here)

held : (b : Bool) (w o : ObjectOf Declaration) → (if b then Some w else None) ≡ Some o → w ≡ o
held true w o e = cc
held false w o e = cc

pub imports_pass : ImportsPass
imports_pass all i c o e path =
    let same : whole_object (code_scene_over all i c) i c ≡ o = held (are_clean c.files) (whole_object (code_scene_over all i c) i c) o e in
    let imports : all_passing i.imports ≡ o.imports = ap (λ (x : ObjectOf Declaration). x.imports) same in
    ((λ h. is_passing i path (subst (λ (l : List (List ℕ)). Contains l path) (sym imports) h)), (λ p. subst (λ (l : List (List ℕ)). Contains l path) imports (passing_is i path p)))
