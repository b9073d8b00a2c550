-- A package has a check.
use Rattle.std.proofs.Common.{◌≡◌, ◌↔◌, ◌⊎◌, inl, inr, ℕ, ◌<◌, Bool, true, false, List, ◌++◌, All, Option, Some, None, length, get_or, refl, sym, ◌∙◌, subst, arith}
use Rattle.std.specs.Prelude.{slice_get}
use Rattle.std.specs.List.{enumerate_from}
use Rattle.std.proofs.lemmas.Bool.{cases_lt}
use Rattle.std.proofs.lemmas.List.{get_or_past}
use Rattle.std.proofs.lemmas.Option.{slice_get_within}
use Rattle.go_tree_nodes.specs.Spelling.{IsPlaced}
use Rattle.go_tree_nodes.specs.Trees.{FileTree}
use Rattle.go_body_core.specs.table_core.Entries.{Entry}
use Rattle.go_select_core.specs.type_core.Keyed.{table_at}
use Rattle.go_emit_core.specs.declared_core.Faces.{TheFace}
use Rattle.go_emit_core.specs.declared_core.Laws.{FileDecl}
use Rattle.go_emit_core.specs.declared_core.Written.{decls_of}
use Rattle.go_snap_core.specs.value_core.Around.{LeadsBack}
use Rattle.go_snap_core.specs.value_core.Laws.{AreFaces}
use Rattle.go_snap_core.specs.value_core.Package.{PlacedOf, declared_face, package_needs}
use Rattle.go_snap_core.specs.value_core.Seeing.{all_inside, looks_at_needs}
use Rattle.go_package_values.proofs.Alike.{decls_stand_alike}
use Rattle.go_report_core.specs.declared.type_faults.places.PackageFault.{PackageFault}
use Rattle.go_body_core.specs.file.Files.{file_locals, file_uses}
use Rattle.go_report_core.specs.answer.Shown.{package_shown}
use Rattle.go_emit_core.specs.package_core.PrepareInlines.{initial_in}
use Rattle.go_emit_core.specs.package_core.PrepareLaws.{ValuesAreAsWritten, package_placed}
use Rattle.go_emit_core.specs.package_core.PreparePackages.{PackageIn, outlines_in, scene_in, shows_in}
use Rattle.go_emit_core.specs.package_core.PrepareValues.{AreDeclared, AreLooped, IsLoopedConstant, decls_in, needs_in, some_decl_constant}
use Rattle.go_emit_core.specs.package_core.Checked.{AnswersOf, IsFileChecked, all_faults, imports_at, stand_at}
use Rattle.go_workspace_laws.specs.existence.Laws.{PackagesHaveChecks}
use Rattle.go_workspace_laws.proofs.ExistenceFilling.{has_values}
use Rattle.go_workspace_laws.proofs.ExistenceLoops.{loops_are_decided}
use Rattle.go_workspace_laws.proofs.ExistenceOrders.{holds, holds_is}
use Rattle.go_workspace_laws.proofs.ExistenceSettling.{faults_settle}
use Rattle.go_workspace_laws.proofs.ExistenceTables.{tabled, zipped}
use Rattle.go_workspace_laws.proofs.ExistenceTypes.{packages_have_types}

-- values

module _ (p : PackageIn) (types : List Entry) where
  abbrev decls : List PlacedOf
  decls = package_placed p types

  faces : (known : List (Option TheFace)) × AreFaces (scene_in p types) decls known
  faces =
      has_values TheFace (package_needs (scene_in p types) decls) (declared_face (scene_in p types) decls) (looks_at_needs (scene_in p types) decls)
      (all_inside (scene_in p types) decls (decls_stand_alike.as_many (shows_in p) p.path p.blocks types (initial_in p types) (outlines_in p)))

  pub declared : ValuesAreAsWritten → All IsPlaced p.trees → (known : List (Option TheFace)) × AreDeclared p types known
  declared written placed = (let all = faces in (all.0, (written.values p types all.0 placed).0 all.1))

  -- constants that are defined through themselves

  looped_or_not : (n : ℕ) → IsLoopedConstant p types n ⊎ (IsLoopedConstant p types n → ⊥)
  looped_or_not n = by (some_decl_constant (slice_get (decls_in p) n)) refl (loops_are_decided (needs_in p types) n)
    where
      by : (b : Bool) → some_decl_constant (slice_get (decls_in p) n) ≡ b → LeadsBack (needs_in p types) n ⊎ (LeadsBack (needs_in p types) n → ⊥) → IsLoopedConstant p types n ⊎ (IsLoopedConstant p types n → ⊥)
      by true e (inl back) = inl (record { constant = e; leads = back })
      by true e (inr off) = inr (λ h. off h.leads)
      by false e d = inr (λ h. let no : false ≡ true = sym e ∙ h.constant in cc)

  -- a looped constant is one of the declarations
  within : (n : ℕ) → IsLoopedConstant p types n → n < length (decls_in p)
  within n h = by (slice_get (decls_in p) n) refl h.constant
    where
      by : (o : Option FileDecl) → slice_get (decls_in p) n ≡ o → some_decl_constant o ≡ true → n < length (decls_in p)
      by None e k = absurd (let no : false ≡ true = k in cc)
      by (Some d) e k = slice_get_within (decls_in p) n d e

  pub looped : (flags : List Bool) × AreLooped p types flags
  looped =
      let count : ℕ = length (decls_in p) in
      let f : ℕ → Bool = λ n. holds (looped_or_not n) in
      let flags = tabled count f in (
        flags.0,
        record {
          as_many = flags.1.as_many;
          each = λ n. elim (cases_lt n count) [
            | inl lt ↦ subst (λ (b : Bool). (b ≡ true) ↔ IsLoopedConstant p types n) (sym (table_at flags.0 count f false n flags.1 lt)) (holds_is (looped_or_not n))
            | inr past ↦ (
              (λ yes. (let many = flags.1.as_many in let off : get_or flags.0 n false ≡ false = get_or_past flags.0 n false (omega (arith, past, many)) in absurd (let no : false ≡ true = sym off ∙ yes in cc))),
              (λ h. (let lt = within n h in absurd (omega (arith, lt, past)))),
            )
          ];
        },
      )

-- a file

file_checked : (p : PackageIn) (types : List Entry) (known : List (Option TheFace)) (faults : List PackageFault) (flags : List Bool) (f : ℕ × FileTree) → (a : AnswersOf) × IsFileChecked p types known faults flags f a
file_checked p types known faults flags f =
    let uses = file_uses (stand_at p types known f) (imports_at p f.0) f.1 in
    let settled = faults_settle uses (all_faults p types known faults flags f) in
    (record { uses = uses; faults = settled.0; locals = file_locals (stand_at p types known f) f.1 }, record { uses = refl; settled = settled.1; locals = refl })

-- all of it

pub packages_have_checks : ValuesAreAsWritten → PackagesHaveChecks
packages_have_checks written p far placed =
    let own = packages_have_types p far in
    let types : List Entry = far ++ own.0 in
    let known = declared p types written placed in
    let flags = looped p types in
    let files = zipped (IsFileChecked p types known.0 own.1 flags.0) (enumerate_from 0 p.trees) (file_checked p types known.0 own.1 flags.0) in (
      record { types = own.0; declared = known.0; faces = package_shown p.path p.blocks (decls_of (scene_in p types).written) known.0; files = files.0 },
      record {
        type_faults = own.1;
        types = own.2;
        declared = known.1;
        looped = flags.0;
        constants = flags.1;
        files = files.1;
        faces = refl;
      },
    )
