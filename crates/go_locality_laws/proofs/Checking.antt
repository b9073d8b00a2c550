-- The check of a package is the same over the same types, where the same is known of the packages that its files bind. So it is where the types of all that
-- it reaches are the same.
use Rattle.std.proofs.Common.{◌≡◌, ◌++◌, ℕ, List, [], ◌∷◌, drop, refl, subst, ◌∙◌}
use Rattle.std.specs.Prelude.{Option, Contains}
use Rattle.std.specs.List.{AllZip, enumerate_from}
use Rattle.go_tree_nodes.specs.Trees.{FileTree}
use Rattle.go_tree_nodes.specs.declared.types.TypeName.{TypeName}
use Rattle.go_term_core.specs.decl_core.declared.keys.DeclKey.{DeclKey}
use Rattle.go_term_core.specs.decl_core.declared.keys.DeclRef.{DeclRef}
use Rattle.go_term_core.specs.decl_core.TopDecls.{top_decls}
use Rattle.go_term_core.specs.Terms.{Term}
use Rattle.go_names_core.specs.local_core.declared.Fault.{Fault}
use Rattle.go_body_core.specs.table_core.Entries.{Entry, find_entry}
use Rattle.go_select_core.specs.type_core.Built.{IsBuilt}
use Rattle.go_body_core.specs.typexpr_core.AliasesAliases.{alias_ends}
use Rattle.go_body_core.specs.typexpr_core.AliasesLaws.{AreLoopedAliases}
use Rattle.go_body_core.specs.typexpr_core.EntryEntries.{Meanings, entries_with, file_at, package_meanings, package_methods}
use Rattle.go_body_core.specs.typexpr_core.EntryMeanings.{Shown, declared_alone, file_meaning}
use Rattle.go_body_core.specs.typexpr_core.EntryOutlines.{FileOutline, outline_of}
use Rattle.go_report_core.specs.type_faults.TypeFaults.{faults_of_types}
use Rattle.go_report_core.specs.handle_core.Declarations.{Declaration}
use Rattle.go_report_core.specs.Faults.{IsSettled}
use Rattle.go_report_core.specs.answer.Outer.{outer_faults}
use Rattle.go_report_core.specs.answer.Shown.{package_shown}
use Rattle.go_emit_core.specs.declared_core.Faces.{TheFace}
use Rattle.go_emit_core.specs.declared_core.Here.{face_type, far_type}
use Rattle.go_emit_core.specs.declared_core.Packages.{PackageFacesModel, exported_in, face_in}
use Rattle.go_emit_core.specs.declared_core.Written.{decls_of, package_written, written_with}
use Rattle.go_emit_core.specs.package_core.PreparePackages.{PackageIn, entries_in, outlines_in, scene_in, shows_in, targets_in, written_in}
use Rattle.go_emit_core.specs.package_core.PrepareTypes.{AreTypes}
use Rattle.go_emit_core.specs.package_core.Checked.{AnswersOf, CheckedOf, IsFileChecked, decls_before, imports_at}
use Rattle.go_emit_core.specs.package_core.Meanings.{one_check}
use Rattle.go_emit_core.specs.package_core.PackagePartParts.{SeenOf, seen_with}
use Rattle.go_snap_core.specs.near.Functions.{StandsAgree}
use Rattle.go_snap_core.proofs.NearFiles.{file_breaks, file_declares, file_used}
use Rattle.go_snap_core.specs.whole_workspace.Known.{BindsInside, CheckGives, IsImportedPath, package_with}
use Rattle.go_snap_core.specs.whole_workspace.LocalLaws.{CheckIsLocal}
use Rattle.go_locality_laws.specs.Alike.{ShownAlike}
use Rattle.go_locality_laws.specs.ImportLaws.{ImportsDecideChecks, StandsOnImports}
use Rattle.go_locality_laws.proofs.Meanings.{aliases_same, all_same, meaning_same, meanings_same, raw_same}
use Rattle.go_locality_laws.proofs.Seeing.{near, stands}
use Rattle.go_locality_laws.proofs.Valuing.{declared_over, looped_over}

zip_map : {A B : Type 0} (R S : A → B → Type 0) → ((x : A) (y : B) → R x y → S x y) → (xs : List A) (ys : List B) → AllZip R xs ys → AllZip S xs ys
zip_map R S f [] [] h = h
zip_map R S f [] (y ∷ ys) h = h
zip_map R S f (x ∷ xs) [] h = h
zip_map R S f (x ∷ xs) (y ∷ ys) h = (f x y h.0, zip_map R S f xs ys h.1)

-- over one table of types

module _ (Bound : List ℕ → Type 0) (p : PackageIn) (far : List Entry) (shown other : Shown) (ours theirs : List PackageFacesModel) (c : CheckedOf) (binds : BindsInside Bound p.blocks)
    (alike : (q name : List ℕ) → Bound q → shown q name ≡ other q name) (faces : (q name : List ℕ) → Bound q → exported_in ours q name ≡ exported_in theirs q name)
    (declared : (q : List ℕ) (d : DeclRef) → Bound q → face_in ours q d ≡ face_in theirs q d) (given : CheckGives p (seen_with far shown ours) c) where
  abbrev one : SeenOf
  one = seen_with far shown ours

  abbrev two : SeenOf
  two = seen_with far other theirs

  abbrev here : PackageIn
  here = package_with p one

  abbrev there : PackageIn
  there = package_with p two

  abbrev es : List Entry
  es = far ++ c.types

  abbrev os : List FileOutline
  os = outlines_in p

  -- what names of types mean

  far_same : (k : DeclKey) → Bound k.path → far_type ours k ≡ far_type theirs k
  far_same k h = λ j. face_type (declared k.path k.decl h j)

  abbrev means : Meanings
  means = package_meanings (shows_in here) p.path p.blocks

  abbrev meant : Meanings
  meant = package_meanings (shows_in there) p.path p.blocks

  means_same : means ≡ meant
  means_same = meanings_same Bound p.path p.blocks os binds shown other alike (far_type ours) (far_type theirs) far_same

  abbrev raws : Meanings
  raws = package_meanings (declared_alone shown) p.path p.blocks

  abbrev denoted : Meanings
  denoted = package_meanings (declared_alone other) p.path p.blocks

  raws_same : raws ≡ denoted
  raws_same = raw_same Bound p.path p.blocks os binds shown other alike

  -- its types

  entries_same : entries_in here ≡ entries_in there
  entries_same = λ j. entries_with (means_same j) p.path (package_methods (means_same j) p.path os) os

  built : IsBuilt (find_entry far) (entries_in there) c.types given.types.loops
  built = subst (λ (ws : List Entry). IsBuilt (find_entry far) ws c.types given.types.loops) entries_same given.types.built

  aliases_over : AreLoopedAliases (written_in there) (targets_in there) given.types.looped
  aliases_over =
      subst (λ (ws : List Entry). AreLoopedAliases ws (targets_in there) given.types.looped) (all_same Bound p.path p.blocks os binds shown other alike)
      (subst (λ (xs : List (DeclRef × Term)). AreLoopedAliases (written_in here) (alias_ends xs p.path) given.types.looped) (aliases_same Bound p.path p.blocks os binds shown other alike)
      given.types.looped_are)

  faults_over : given.type_faults ≡ faults_of_types es denoted meant p.path os (entries_in there) given.types.looped given.types.loops
  faults_over =
      given.types.faults_are
      ∙ (λ j. faults_of_types es (raws_same j) (means_same j) p.path os (entries_with (means_same j) p.path (package_methods (means_same j) p.path os) os) given.types.looped given.types.loops)

  types_over : AreTypes there far c.types given.type_faults
  types_over = record { loops = given.types.loops; built = built; looped = given.types.looped; looped_are = aliases_over; faults_are = faults_over }

  -- what names stand for

  written_same : package_written (shows_in here) p.path p.blocks es os ≡ package_written (shows_in there) p.path p.blocks es os
  written_same = λ j. written_with (means_same j) p.path es os

  law : (known : List (Option TheFace)) (n : ℕ) (o : FileOutline)
      → StandsAgree (near Bound) (file_at p.path n o) (scene_in here es) (scene_in there es) known known (file_meaning (shows_in here) p.path p.blocks n) (file_meaning (shows_in there) p.path p.blocks n)
  law known n o =
      stands Bound p.path p.blocks es ours theirs (scene_in here es).written (scene_in there es).written written_same binds faces declared (file_at p.path n o) known
      (file_meaning (shows_in here) p.path p.blocks n) (file_meaning (shows_in there) p.path p.blocks n)
      (λ (x : TypeName). meaning_same Bound p.path p.blocks os binds shown other alike (far_type ours) (far_type theirs) far_same n x)

  -- its files

  file_over : (f : ℕ × FileTree) (a : AnswersOf) → IsFileChecked here es c.declared given.type_faults given.looped f a → IsFileChecked there es c.declared given.type_faults given.looped f a
  file_over f a h =
      let o = outline_of f.1 in
      let s = scene_in here es in
      let t = scene_in there es in
      let top = file_meaning (shows_in here) p.path p.blocks f.0 in
      let under = file_meaning (shows_in there) p.path p.blocks f.0 in
      let agree = law c.declared f.0 o in
      let file = file_at p.path f.0 o in
      let breaks = file_breaks (near Bound) file s t c.declared c.declared top under agree f.1 in
      record {
        uses = h.uses ∙ file_used (near Bound) file s t c.declared c.declared top under agree (imports_at p f.0) f.1;
        settled =
            subst (λ (fs : List Fault). IsSettled Declaration (List ℕ) a.uses fs a.faults)
            (λ j. breaks j ++ outer_faults f.0 p.blocks given.type_faults (top_decls f.1) (drop (decls_before p f.0) given.looped)) h.settled;
        locals = h.locals ∙ file_declares (near Bound) file s t c.declared c.declared top under agree f.1;
      }

  -- all of it

  pub given_over : CheckGives p two c
  given_over = record {
    type_faults = given.type_faults;
    types = types_over;
    declared = declared_over Bound p one two es written_same law c.declared given.declared;
    looped = given.looped;
    constants = looped_over Bound p one two es written_same law given.looped given.constants;
    files =
        zip_map (IsFileChecked here es c.declared given.type_faults given.looped) (IsFileChecked there es c.declared given.type_faults given.looped) file_over (enumerate_from 0 p.trees) c.files given.files;
    faces = given.faces ∙ (λ j. package_shown p.path p.blocks (decls_of (written_same j)) c.declared);
  }

-- over tables that have the same of all that is reached: first the types are others, and then what is shown

same : CheckIsLocal → (paths : List (List ℕ)) (p : PackageIn) (one other : SeenOf) (c : CheckedOf) → StandsOnImports paths p one → ShownAlike (Contains paths) (IsImportedPath p.imports) one other
    → CheckGives p one c → CheckGives p other c
same local paths p one other c stand alike given =
    given_over (IsImportedPath p.imports) p other.types one.shows other.shows one.faces other.faces c stand.binds alike.shows alike.faces alike.declared
    (local.same paths p one (seen_with other.types one.shows one.faces) c stand.among (record {
      types = alike.types;
      shows = λ path name h. refl;
      faces = λ path name h. refl;
      declared = λ path d h. refl;
    }) given)

pub imports_decide : CheckIsLocal → ImportsDecideChecks
imports_decide local = record {
  same = same local;
  answer = λ paths p one other c d stand alike given found. one_check (package_with p other) other.types c d stand.among.placed (same local paths p one other c stand alike given) found;
}
