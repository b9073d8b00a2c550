-- A text that `resolve` takes for anything has a workspace with a snapshot, and its report is clean where that has no fault.
use Rattle.std.proofs.Common.{◌≡◌, ◌≢◌, ℕ, true, false, List, [], ◌∷◌, map, inl, inr, refl, sym, ◌∙◌, arith}
use Rattle.std.proofs.lemmas.Bool.{true≢false}
use Rattle.std.specs.Prelude.{◌↔◌, Option, Some, None, Result, Ok, Err}
use Rattle.go_path_core.specs.text_core.declared.rule.Rule.{Rule}
use Rattle.go_path_core.specs.text_core.declared.rule.Rule.TheVariants.{K3, K4, P1, P2}
use Rattle.go_scan_core.proofs.Answered.{not_both}
use Rattle.go_tree_nodes.specs.Trees.{FileTree}
use Rattle.go_graph_core.specs.parse_core.declared.error.SynFault.{SynFault}
use Rattle.go_report_core.specs.answer.Outer.{fault}
use Rattle.go_graph_core.specs.Packages.{blank, trees_of}
use Rattle.go_graph_core.specs.Sources.{SourceModel, IsContent, source}
use Rattle.go_names_core.specs.block_core.Growing.{package_weaker}
use Rattle.go_names_core.specs.local_core.declared.Fault.{Fault}
use Rattle.go_emit_core.specs.package_core.PackagePartInputs.{input_with}
use Rattle.go_emit_core.specs.package_core.PackagePartParts.{FileOf, PartModel, part_with}
use Rattle.go_snap_core.specs.whole_workspace.Inputs.{AreParts, ComesTo}
use Rattle.go_snap_core.specs.whole_workspace.Laws.{PartsAreWhole}
use Rattle.go_snap_core.specs.declared.fault.PlacedFault.{PlacedFault}
use Rattle.go_snap_core.specs.Faults.{AreFaults}
use Rattle.go_snap_core.specs.Snapshots.{IsSnapshot, contents_of}
use Rattle.go_snap_core.specs.mirrors.Reports.{part_faults}
use Rattle.govisd_resolve.specs.Alone.{StandsInFile, ImportIsRefused, file_alone, package_alone, the_name, workspace_alone}
use Rattle.govisd_resolve.specs.Reports.{Input, TooLong, NoText, BadToken, NoTree, TooHigh, NoName, AFile, IsFile, IsInputOfBytes, is_input_clean, has_no_items}
use Rattle.go_workspace_laws.specs.FileLaws.{CleanIsFaultless, HasWhatIsTold, IsFileOf, SnapshotsHaveWhatIsTold, TextsHaveSnapshots, in_lone_file, without_tree}
use Rattle.go_workspace_laws.proofs.Refusing.{faults_of_part, is_assembled, name_none, tree_none}
use Rattle.go_workspace_laws.proofs.FileStanding.{is_workspace, none_told, refused_comes}

-- a snapshot of the workspace of a file

abbrev HasSnapshot : SourceModel → Type 0
HasSnapshot s = (parts : List (Option PartModel)) × ((faults : List PlacedFault) × IsSnapshot (workspace_alone s) parts faults)

module _ (whole : PartsAreWhole) where
  made : (bytes : List ℕ) (c : Result FileTree SynFault) (parts : List (Option PartModel)) (faults : List PlacedFault) → IsContent bytes c → AreParts (workspace_alone (source the_name bytes c)) parts
      → AreFaults (workspace_alone (source the_name bytes c)) (contents_of parts) faults → HasSnapshot (source the_name bytes c)
  made bytes c parts faults read all are =
      let s : SourceModel = source the_name bytes c in
      let w = whole (workspace_alone s) parts (is_workspace s read).well all in
      (parts, (faults, record { made = all; whole = w.0; is_whole = w.1; parts_are = w.2; faults_are = are }))

  tree_made : (bytes : List ℕ) (e : SynFault) → IsContent bytes (Err e) → HasSnapshot (source the_name bytes (Err e))
  tree_made bytes e read = (let t = tree_none bytes e read in made bytes (Err e) (None ∷ []) (map in_lone_file (without_tree e.offset e.rule)) read t.0 t.1)

  -- the part of the package, by what is found in its file
  found_made : (bytes : List ℕ) (f : FileTree) (found : FileOf) → IsFile bytes f → f.name.name ≢ blank → StandsInFile bytes f found → HasSnapshot (file_alone bytes f)
  found_made bytes f found file named h =
      let s : SourceModel = file_alone bytes f in
      let part : PartModel = part_with (input_with (package_alone s) (h.imports ∷ []) []) h.content in
      let parts : List (Option PartModel) = Some part ∷ [] in
      let imports = package_weaker (ImportIsRefused (workspace_alone s)) (ComesTo (workspace_alone s) parts) (refused_comes s parts) 0 (trees_of (s ∷ [])) (h.imports ∷ []) (h.refused, tt) in
      let all : AreParts (workspace_alone s) parts = ((is_assembled bytes f named, record { source = refl; imports = imports; reached = none_told s parts 0 }, h.part), tt) in
      made bytes (Ok f) parts (part_faults 0 0 h.content.files) file.parse all (faults_of_part bytes (Ok f) file.parse parts all part refl)

  -- texts

  abbrev syn_fault : ℕ → Rule → SynFault
  syn_fault offset rule = record { offset = offset; rule = rule }

  abbrev of_file : (bytes : List ℕ) (c : Result FileTree SynFault) → IsContent bytes c → IsFileOf bytes (source the_name bytes c)
  of_file bytes c read = record { name = refl; text = refl; read = read }

  pub texts_have : TextsHaveSnapshots
  texts_have bytes TooLong text i = absurd (let many = text.size in omega (arith, many, i))
  texts_have bytes NoText text i = absurd (i.1 text.utf8)
  texts_have bytes (BadToken bad) text i =
      let e : SynFault = syn_fault bad.offset bad.rule in
      let read : IsContent bytes (Err e) = (inl i.1, (λ tokens scanned. absurd (not_both bytes tokens bad scanned i.1))) in
      (source the_name bytes (Err e), of_file bytes (Err e) read, tree_made bytes e read)
  texts_have bytes (NoTree offset) text i =
      let e : SynFault = syn_fault offset P1 in
      let read : IsContent bytes (Err e) = (inr (record { tokens = i.0.tokens; scanned = i.0.scanned; within = i.3; why = inl (refl, i.1) }), i.2) in
      (source the_name bytes (Err e), of_file bytes (Err e) read, tree_made bytes e read)
  texts_have bytes (TooHigh offset) text i =
      let e : SynFault = syn_fault offset P2 in
      let read : IsContent bytes (Err e) = (inr (record { tokens = i.0.tokens; scanned = i.0.scanned; within = i.3; why = inr (refl, i.1) }), i.2) in
      (source the_name bytes (Err e), of_file bytes (Err e) read, tree_made bytes e read)
  texts_have bytes (NoName f) text i =
      let t = name_none bytes f i.0.parse i.1 in
      (source the_name bytes (Ok f), of_file bytes (Ok f) i.0.parse, made bytes (Ok f) (None ∷ []) (map in_lone_file (fault f.name.span.start K3 ∷ [])) i.0.parse t.0 t.1)
  texts_have bytes (AFile f found) text i = (source the_name bytes (Ok f), of_file bytes (Ok f) i.0.parse, found_made bytes f found i.0 i.1 i.2)

-- clean reports

nothing_there : (x : Fault) (xs : List Fault) (faults : List PlacedFault) → faults ≡ map in_lone_file (x ∷ xs) → (false ≡ true) ↔ (faults ≡ [])
nothing_there x xs faults is = ((λ e. absurd (true≢false (sym e))), (λ e. absurd (let no : map in_lone_file (x ∷ xs) ≡ [] = sym is ∙ e in cc)))

empty_there : (xs : List Fault) (faults : List PlacedFault) → faults ≡ map in_lone_file xs → (has_no_items xs ≡ true) ↔ (faults ≡ [])
empty_there [] faults is = ((λ e. is), (λ e. refl))
empty_there (x ∷ xs) faults is = nothing_there x xs faults is

pub clean_is_faultless : SnapshotsHaveWhatIsTold → CleanIsFaultless
clean_is_faultless have bytes input s parts faults text i file h = by input i (have bytes input s parts faults i file h)
  where
    by : (x : Input) → IsInputOfBytes bytes x → HasWhatIsTold s parts faults x → (is_input_clean x ≡ true) ↔ (faults ≡ [])
    by TooLong j k = absurd (let many = text.size in omega (arith, many, j))
    by NoText j k = absurd (j.1 text.utf8)
    by (BadToken bad) j k = nothing_there (fault 0 K4) (fault bad.offset bad.rule ∷ []) faults k.faults_are
    by (NoTree offset) j k = nothing_there (fault 0 K4) (fault k.0 P1 ∷ []) faults k.2.faults_are
    by (TooHigh offset) j k = nothing_there (fault 0 K4) (fault k.0 P2 ∷ []) faults k.2.faults_are
    by (NoName f) j k = nothing_there (fault f.name.span.start K3) [] faults k.faults_are
    by (AFile f found) j k = empty_there found.report faults k.faults_are
