-- What `resolve` takes a text for is what a snapshot has of the workspace of its file.
use Rattle.std.proofs.Common.{◌≡◌, ◌≢◌, ℕ, List, [], ◌∷◌, inl, inr, refl, sym, ap, subst, ◌∙◌}
use Rattle.std.proofs.lemmas.Option.{same_Some}
use Rattle.std.specs.Prelude.{Option, Some, None, Result, Ok, Err, slice_get}
use Rattle.go_path_core.specs.text_core.declared.rule.Rule.{Rule}
use Rattle.go_path_core.specs.text_core.declared.rule.Rule.TheVariants.{K3, P1, P2}
use Rattle.go_tree_nodes.specs.token_core.declared.token.LexFault.{LexFault}
use Rattle.go_scan_core.proofs.Answered.{not_both, one_fault}
use Rattle.go_tree_nodes.specs.Trees.{FileTree}
use Rattle.go_graph_core.specs.parse_core.declared.error.SynFault.{SynFault}
use Rattle.go_graph_core.specs.parse_core.Correct.{HasOneTree, IsSynFault}
use Rattle.go_graph_core.specs.parse_core.Refusing.{HasOneRule}
use Rattle.go_report_core.specs.answer.Outer.{fault}
use Rattle.go_graph_core.specs.Lists.{AllNumbered}
use Rattle.go_graph_core.specs.Packages.{blank, trees_of}
use Rattle.go_graph_core.specs.Sources.{SourceModel, IsContent, source}
use Rattle.go_graph_core.specs.Workspaces.{PackageModel}
use Rattle.go_names_core.specs.block_core.declared.imports.Imported.{Imported}
use Rattle.go_names_core.specs.block_core.Naming.{AreInFile}
use Rattle.go_names_core.specs.block_core.Growing.{package_weaker}
use Rattle.go_report_core.specs.usage.Used.{FileUse}
use Rattle.go_report_core.specs.summary_core.Summaries.{SummaryModel}
use Rattle.go_emit_core.specs.package_core.PackagePartInputs.{InputModel, input_with}
use Rattle.go_emit_core.specs.package_core.PackagePartParts.{FileOf, IsFileMadeIn, IsPart, PartModel}
use Rattle.go_snap_core.specs.whole_workspace.Inputs.{ComesTo, IsInputOf, IsPartOf}
use Rattle.go_snap_core.specs.declared.fault.PlacedFault.{PlacedFault}
use Rattle.go_snap_core.specs.Snapshots.{IsAnswerAt, IsSnapshot, contents_of}
use Rattle.go_snap_core.specs.mirrors.Reports.{part_faults}
use Rattle.go_snap_core.proofs.OneFaults.{one_faults}
use Rattle.govisd_resolve.specs.Alone.{StandsInFile, ImportIsRefused, file_alone, package_alone, the_name, the_path, workspace_alone}
use Rattle.govisd_resolve.specs.Reports.{Input, TooLong, NoText, BadToken, NoTree, TooHigh, NoName, AFile, IsFile, IsInputOfBytes, OneInput}
use Rattle.go_workspace_laws.specs.FileLaws.{HasWhatIsTold, HasFound, HasNoPart, IsFileOf, SnapshotsHaveWhatIsTold, without_tree}
use Rattle.go_workspace_laws.proofs.Refusing.{faults_of_part, is_assembled, name_wanted, one_entry, one_report, tree_wanted}
use Rattle.go_workspace_laws.proofs.FileStanding.{comes_refused, only_zero, told_none}

-- lists of one

only_item : {A B : Type 0} (R : ℕ → A → B → Type 0) (x : A) (ys : List B) → AllNumbered R 0 (x ∷ []) ys → (y : B) × (ys ≡ y ∷ []) × R 0 x y
only_item R x [] h = absurd h
only_item R x (y ∷ []) h = (y, refl, h.0)
only_item R x (y ∷ (z ∷ ys)) h = absurd h.1

input_is : (i : InputModel) (p : PackageModel) (imports : List (List Imported)) (reached : List SummaryModel) → i.source ≡ p → i.imports ≡ imports → i.reached ≡ reached → i ≡ input_with p imports reached
input_is i p imports reached a b c = λ k. input_with (a k) (b k) (c k)

-- a part of the package is what is found in the file

record IsTold (bytes : List ℕ) (f : FileTree) (part : PartModel) : Type 0 where
  found : FileOf
  files : part.content.files ≡ found ∷ []
  is_found : StandsInFile bytes f found

part_told : (bytes : List ℕ) (f : FileTree) (parts : List (Option PartModel)) (part : PartModel) → IsInputOf (workspace_alone (file_alone bytes f)) parts 0 (package_alone (file_alone bytes f)) part.input → IsPart part.input part.content → IsTold bytes f part
part_told bytes f parts part h made =
    let s : SourceModel = file_alone bytes f in
    let refused = package_weaker (ComesTo (workspace_alone s) parts) (ImportIsRefused (workspace_alone s)) (comes_refused s parts) 0 (trees_of (s ∷ [])) part.input.imports h.imports in
    let imports = only_item (λ (n : ℕ) (t : List ℕ × FileTree) (is : List Imported). AreInFile (ImportIsRefused (workspace_alone s)) 0 n t.1 is) (the_name, f) part.input.imports refused in
    let input : part.input ≡ input_with (package_alone s) (imports.0 ∷ []) [] = input_is part.input (package_alone s) (imports.0 ∷ []) [] h.source imports.1 (told_none s parts 0 part.input.reached h.reached) in
    let here : IsPart (input_with (package_alone s) (imports.0 ∷ []) []) part.content = subst (λ i. IsPart i part.content) input made in
    let file = only_item (IsFileMadeIn part.content.blocks here.checked.files) f part.content.files here.files in
    record { found = file.0; files = file.1; is_found = record { imports = imports.0; refused = imports.2; content = part.content; part = here; files = file.1 } }

-- a snapshot with a part

module _ (one : OneInput) where
  abbrev found_in : FileOf → Input → FileOf
  found_in d (AFile f x) = x
  found_in d _ = d

  one_found : (bytes : List ℕ) (f : FileTree) (x y : FileOf) → IsFile bytes f → f.name.name ≢ blank → StandsInFile bytes f x → StandsInFile bytes f y → x ≡ y
  one_found bytes f x y file named h k = (let same : AFile f x ≡ AFile f y = one bytes (AFile f x) (AFile f y) (file, named, h) (file, named, k) in ap (found_in x) same)

  module _ (bytes : List ℕ) (f : FileTree) (part : PartModel) (parts : List (Option PartModel)) (found : FileOf) (parts_are : parts ≡ Some part ∷ []) (own : part.input.source ≡ package_alone (file_alone bytes f)) (files : part.content.files ≡ found ∷ []) where
    answer_to : (n : ℕ) (u : FileUse) → IsAnswerAt (workspace_alone (file_alone bytes f)) parts the_path the_name n u → slice_get found.answers.uses n ≡ Some u
    answer_to n u a =
        let first : a.in_workspace.number ≡ 0 = only_zero (package_alone (file_alone bytes f)) (the_path, a.in_workspace.files) a.in_workspace.number a.in_workspace.numbered in
        let there : Some (Some part) ≡ Some (Some a.of_part) = sym (ap (λ l. slice_get l 0) parts_are) ∙ subst (λ m. slice_get parts m ≡ Some (Some a.of_part)) first a.in_workspace.there in
        let same : part ≡ a.of_part = same_Some part a.of_part (same_Some (Some part) (Some a.of_part) there) in
        let here : slice_get (found ∷ []) a.number ≡ Some a.file = ap (λ l. slice_get l a.number) (sym files ∙ ap (λ (p : PartModel). p.content.files) same) ∙ a.made in
        let at : a.number ≡ 0 = only_zero found a.file a.number here in
        let item : found ≡ a.file = same_Some found a.file (subst (λ m. slice_get (found ∷ []) m ≡ Some a.file) at here) in
        ap (λ (x : FileOf). slice_get x.answers.uses n) item ∙ a.answer

    to_answer : (n : ℕ) (u : FileUse) → slice_get found.answers.uses n ≡ Some u → IsAnswerAt (workspace_alone (file_alone bytes f)) parts the_path the_name n u
    to_answer n u e = record {
      of_part = part;
      in_workspace = record { number = 0; files = file_alone bytes f ∷ []; numbered = refl; there = ap (λ l. slice_get l 0) parts_are };
      number = 0;
      source = file_alone bytes f;
      in_package = ap (λ (p : List ℕ × List SourceModel). slice_get p.1 0) own;
      named = refl;
      file = found;
      made = ap (λ l. slice_get l 0) files;
      answer = e;
    }

  whole_told : (bytes : List ℕ) (f : FileTree) (found : FileOf) (parts : List (Option PartModel)) (faults : List PlacedFault)
      → IsFile bytes f → f.name.name ≢ blank → StandsInFile bytes f found → IsSnapshot (workspace_alone (file_alone bytes f)) parts faults → HasFound (file_alone bytes f) parts faults found
  whole_told bytes f found parts faults file named is h = (let entry = one_entry (file_alone bytes f) parts h.made in by entry.0 entry.1 entry.2)
    where
      by : (x : Option PartModel) → parts ≡ x ∷ [] → IsPartOf (workspace_alone (file_alone bytes f)) parts 0 (package_alone (file_alone bytes f)) x → HasFound (file_alone bytes f) parts faults found
      by None e k = absurd (k (is_assembled bytes f named))
      by (Some part) e k =
          let told = part_told bytes f parts part k.1 k.2 in
          let files : part.content.files ≡ found ∷ [] = told.files ∙ ap (λ x. x ∷ []) (one_found bytes f told.found found file named told.is_found is) in
          let ps = workspace_alone (file_alone bytes f) in
          record {
            part = part;
            parts_are = e;
            files_are = files;
            faults_are = one_faults ps (contents_of parts) faults (part_faults 0 0 part.content.files) h.faults_are (faults_of_part bytes (Ok f) file.parse parts h.made part e) ∙ one_report part.content.files found files;
            answers = λ n u. (answer_to bytes f part parts found e k.1.source files n u, to_answer bytes f part parts found e k.1.source files n u);
          }

  -- and any snapshot

  module _ (tree : HasOneTree) (rule : HasOneRule) where
    abbrev lex_fault : SynFault → LexFault
    lex_fault e = record { rule = e.rule; offset = e.offset }

    -- a text with a tree that is low enough has no fault
    no_fault : (bytes : List ℕ) (f : FileTree) (e : SynFault) → IsFile bytes f → IsSynFault bytes e → ⊥
    no_fault bytes f e file (inl scanned) = not_both bytes file.parse.found.tokens (lex_fault e) file.parse.found.scanned scanned
    no_fault bytes f e file (inr t) = elim t.why [ inl p ↦ p.1 f file.parse.found | inr q ↦ q.1 f file.parse.found file.parse.low ]

    told : (bytes : List ℕ) (c : Result FileTree SynFault) (input : Input) (parts : List (Option PartModel)) (faults : List PlacedFault)
        → IsInputOfBytes bytes input → IsContent bytes c → IsSnapshot (workspace_alone (source the_name bytes c)) parts faults → HasWhatIsTold (source the_name bytes c) parts faults input
    told bytes c TooLong parts faults i r h = tt
    told bytes c NoText parts faults i r h = tt
    told bytes (Ok g) (BadToken bad) parts faults i r h = absurd (not_both bytes r.found.tokens bad r.found.scanned i.1)
    told bytes (Err e) (BadToken bad) parts faults i r h = elim r.0 [
      | inl scanned ↦ subst (λ (x : LexFault). HasNoPart parts faults (without_tree x.offset x.rule)) (one_fault bytes (lex_fault e) bad scanned i.1) (tree_wanted bytes e parts faults r h)
      | inr t ↦ absurd (not_both bytes t.tokens bad t.scanned i.1)
    ]
    told bytes (Ok g) (NoTree offset) parts faults i r h = absurd (i.1 g r.found)
    told bytes (Err e) (NoTree offset) parts faults i r h = elim r.0 [
      | inl scanned ↦ absurd (not_both bytes i.0.tokens (lex_fault e) i.0.scanned scanned)
      | inr t ↦ (e.offset, t.within, subst (λ (q : Rule). HasNoPart parts faults (without_tree e.offset q)) (rule bytes i.0.tokens i.0.scanned e.rule P1 r.1 i.2) (tree_wanted bytes e parts faults r h))
    ]
    told bytes (Ok g) (TooHigh offset) parts faults i r h = absurd (i.1 g r.found r.low)
    told bytes (Err e) (TooHigh offset) parts faults i r h = elim r.0 [
      | inl scanned ↦ absurd (not_both bytes i.0.tokens (lex_fault e) i.0.scanned scanned)
      | inr t ↦ (e.offset, t.within, subst (λ (q : Rule). HasNoPart parts faults (without_tree e.offset q)) (rule bytes i.0.tokens i.0.scanned e.rule P2 r.1 i.2) (tree_wanted bytes e parts faults r h))
    ]
    told bytes (Ok g) (NoName f) parts faults i r h =
        let same : g ≡ f = tree bytes g f r.found i.0.parse.found in
        subst (λ (x : FileTree). HasNoPart parts faults (fault x.name.span.start K3 ∷ [])) same (name_wanted bytes g parts faults r (subst (λ (x : FileTree). x.name.name ≡ blank) (sym same) i.1) h)
    told bytes (Err e) (NoName f) parts faults i r h = absurd (no_fault bytes f e i.0 r.0)
    told bytes (Ok g) (AFile f found) parts faults i r h =
        let same : f ≡ g = tree bytes f g i.0.parse.found r.found in
        let all : IsFile bytes g × (g.name.name ≢ blank) × StandsInFile bytes g found = subst (λ (x : FileTree). IsFile bytes x × (x.name.name ≢ blank) × StandsInFile bytes x found) same i in
        whole_told bytes g found parts faults all.0 all.1 all.2 h
    told bytes (Err e) (AFile f found) parts faults i r h = absurd (no_fault bytes f e i.0 r.0)

    source_is : (s : SourceModel) (bytes : List ℕ) → IsFileOf bytes s → s ≡ source the_name bytes s.content
    source_is s bytes h = λ k. source (h.name k) (h.text k) s.content

    pub snapshots_have : SnapshotsHaveWhatIsTold
    snapshots_have bytes input s parts faults i file h =
        let same = source_is s bytes file in
        let read : IsContent bytes s.content = subst (λ t. IsContent t s.content) file.text file.read in
        subst (λ (x : SourceModel). HasWhatIsTold x parts faults input) (sym same) (told bytes s.content input parts faults i read (subst (λ (x : SourceModel). IsSnapshot (workspace_alone x) parts faults) same h))
