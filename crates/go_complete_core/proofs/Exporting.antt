-- What a package shows is among the exported names that it tells.
use Rattle.std.proofs.Common.{◌≡◌, ◌⊎◌, inl, inr, ℕ, Bool, true, false, cond, List, [], ◌∷◌, map, Option, Some, None, refl, sym, ap, subst, ◌∙◌}
use Rattle.std.specs.Prelude.{Contains, filter}
use Rattle.std.specs.Str.{bytes_eq, chars}
use Rattle.go_tree_nodes.specs.text_core.Text.{exported}
use Rattle.go_term_core.specs.decl_core.declared.keys.DeclRef.{DeclRef}
use Rattle.go_names_core.specs.block_core.Exports.{exported_names}
use Rattle.go_cursor_core.specs.scope_stack.Blocks.{in_block, names_in}
use Rattle.go_cursor_core.specs.scope_stack.Names.{same_bytes}
use Rattle.go_candidate_core.specs.declared_core.declared.shown.ShownFace.{ShownFace}
use Rattle.go_candidate_core.specs.declared_core.declared.shown.ShownFace.TheVariants as shows
use Rattle.go_candidate_core.specs.declared_core.Faces.{TheFace}
use Rattle.go_candidate_core.specs.declared_core.Packages.{DeclaredOf, PackageFacesModel, names_seen, package_faces, shown_by}
use Rattle.go_candidate_core.specs.declared_core.Displaying.{shows_its_block}
use Rattle.go_package_core.specs.summary_core.Summaries.{SummaryModel}
use Rattle.go_package_core.specs.package_part.Inputs.{InputModel, path_in}
use Rattle.go_package_core.specs.package_part.Parts.{ContentOf, IsPart}
use Rattle.go_candidate_core.specs.fitting.Fitting.{ShowsItsExports}
use Rattle.go_complete_core.proofs.PlacePlacing.{first_has, more_has}

-- an exported name of a block is among its exported names
exported_there : (block : List (List ℕ × DeclRef)) (name : List ℕ) (d : DeclRef) → in_block block name ≡ Some d → exported (chars name) ≡ true → Contains (names_in (exported_names block)) name
exported_there [] name d held is = absurd (cc)
exported_there (e ∷ block) name d held is = by (bytes_eq name e.0) refl held (λ h. exported_there block name d h is)
  where
    later : (b : Bool) → Contains (names_in (exported_names block)) name → Contains (names_in (cond b (e ∷ exported_names block) (exported_names block))) name
    later true h = more_has e.0 name (names_in (exported_names block)) h
    later false h = h

    by : (b : Bool) → bytes_eq name e.0 ≡ b → cond b (Some e.1) (in_block block name) ≡ Some d → (in_block block name ≡ Some d → Contains (names_in (exported_names block)) name)
        → Contains (names_in (cond (exported (chars e.0)) (e ∷ exported_names block) (exported_names block))) name
    by true same h rest =
        let here : exported (chars e.0) ≡ true = ap (λ n. exported (chars n)) (sym (same_bytes name e.0 same)) ∙ is in
        subst (λ b. Contains (names_in (cond b (e ∷ exported_names block) (exported_names block))) name) (sym here) (first_has e.0 name (names_in (exported_names block)) (sym (same_bytes name e.0 same)))
    by false same h rest = later (exported (chars e.0)) (rest h)

shown_exported : (path : List ℕ) (block : List (List ℕ × DeclRef)) (faces : List DeclaredOf) (name : List ℕ) (d : DeclRef) (face : Option TheFace) → shown_by (package_faces path (names_seen block) faces) name ≡ shows.Shown d face
    → Contains (names_in (exported_names block)) name
shown_exported path block faces name d face h = by (in_block block name) refl
  where
    by : (o : Option DeclRef) → in_block block name ≡ o → Contains (names_in (exported_names block)) name
    by None e = (let n = sym (shows_its_block.absent path block faces name e) ∙ h in absurd (cc))
    by (Some a) e = exports (exported (chars name)) refl
      where
        exports : (b : Bool) → exported (chars name) ≡ b → Contains (names_in (exported_names block)) name
        exports true is = exported_there block name a e is
        exports false is = (let n = sym (shows_its_block.hidden path block faces name a e is) ∙ h in absurd (cc))

-- so it is of each part
pub part_shows : (i : InputModel) (c : ContentOf) → IsPart i c → ShowsItsExports c.summary
part_shows i c made = subst ShowsItsExports (sym made.summary) (λ name d face h. shown_exported (path_in i) c.blocks.names _ name d face (ap (λ (q : PackageFacesModel). shown_by q name) (sym made.is_checked.faces) ∙ h))
