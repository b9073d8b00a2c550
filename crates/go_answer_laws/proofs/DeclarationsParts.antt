-- What the occurrences of a snapshot's files have is there.
use Rattle.std.proofs.Common.{◌≡◌, ◌⊎◌, ℕ, zero, suc, ◌+◌, Bool, true, false, ◌&&◌, not, All, List, [], ◌∷◌, ◌++◌, length, map, inl, inr, refl, sym, ap, subst, ◌∙◌, arith, if◌then◌else◌}
use Rattle.std.specs.Prelude.{Option, Some, None, Result, Ok, Err, Contains, ⊤, nat_eq, slice_get, slice_index_or}
use Rattle.std.specs.List.{AllZip, enumerate_from, filter, flat_map, list_any}
use Rattle.std.specs.Str.{bytes_eq, chars}
use Rattle.std.proofs.lemmas.Option.{get_or_from_slice_get, slice_get_within}
use Rattle.go_site_core.specs.text_core.Text.{exported}
use Rattle.go_tree_nodes.specs.Rules.{Wf_file}
use Rattle.go_tree_nodes.specs.Spelling.{IsPlaced}
use Rattle.go_tree_nodes.specs.Trees.{FileTree}
use Rattle.go_tree_core.specs.declared.occurrence.Occ.{Occ}
use Rattle.go_tree_core.specs.declared.occurrence.Role.{Role}
use Rattle.go_tree_core.specs.declared.occurrence.Role.TheVariants as roles
use Rattle.go_tree_core.specs.Occurrences.{file_occs}
use Rattle.go_graph_core.specs.parse_core.declared.error.SynFault.{SynFault}
use Rattle.go_term_core.specs.decl_core.declared.keys.DeclRef.{DeclRef}
use Rattle.go_term_core.specs.declared.term.MemberPlace.TheVariants as places
use Rattle.go_graph_core.specs.declared.imports.ImportAt.{ImportAt}
use Rattle.go_graph_core.specs.Imports.{IsNumbered}
use Rattle.go_graph_core.specs.Lists.{AllNumbered}
use Rattle.go_graph_core.specs.Packages.{HasNoClause, Trees, tree_shown, trees_of}
use Rattle.go_graph_core.specs.Plans.{PlanModel, IsPlan}
use Rattle.go_graph_core.specs.Sources.{SourceModel, source}
use Rattle.go_graph_core.specs.Workspaces.{PackageModel, IsReadWorkspace}
use Rattle.go_graph_core.proofs.Assemblies.{all_at}
use Rattle.go_graph_core.proofs.PlanLaws.{has_plan}
use Rattle.go_graph_core.proofs.Zips.{numbered_at}
use Rattle.go_names_core.specs.block_core.declared.imports.Imported.{Imported}
use Rattle.go_names_core.specs.block_core.declared.imports.Imported.TheVariants as given_as
use Rattle.go_names_core.specs.block_core.declared.binding.Binding.{Binding}
use Rattle.go_names_core.specs.block_core.Blocks.{file_binding}
use Rattle.go_names_core.specs.block_core.Exports.{ExportsModel, exported_names}
use Rattle.go_names_core.specs.block_core.Naming.{AreInFile, AreInPackage, HaveOneEach, file_specs, import_at}
use Rattle.go_names_core.specs.block_core.Tables.{in_block}
use Rattle.go_names_core.specs.block_core.GivenSteps.{have_one_each}
use Rattle.go_typexpr_core.proofs.EntryAmong.{Among, among_filter, among_from}
use Rattle.go_value_core.specs.table_core.Entries.{Entry}
use Rattle.go_site_core.specs.handle_core.Declarations.{Declaration}
use Rattle.go_cursor_core.specs.denote_core.declared.things.Outcome.{Outcome}
use Rattle.go_cursor_core.specs.denote_core.declared.things.Outcome.TheVariants as outcomes
use Rattle.go_query_core.specs.declared_core.Faces.{TheFace}
use Rattle.go_query_core.specs.declared_core.Packages.{PackageFacesModel, face_by, face_in, face_in_some, package_in}
use Rattle.go_query_core.specs.body_core.Notes.{TheUse}
use Rattle.go_query_core.specs.body_core.FileFiles.{file_uses}
use Rattle.go_site_core.specs.report_core.UsageUsed.{blank_places, is_import, judged_import, refused_use, unused_outcome, used_places, without_unused}
use Rattle.go_query_core.specs.package_core.PreparePackages.{PackageIn, trees_in}
use Rattle.go_query_core.specs.package_core.Checked.{AnswersOf, IsChecked, IsFileChecked, imports_at, stand_at}
use Rattle.go_site_core.specs.summary_core.Summaries.{SummaryModel}
use Rattle.go_site_core.specs.summary_core.Views.{faces_told, types_told}
use Rattle.go_query_core.specs.package_core.PackagePartInputs.{InputModel, path_in}
use Rattle.go_query_core.specs.package_core.PackagePartParts.{FileOf, IsFileMade, IsFileMadeIn, PartModel, package_seen, seen_by}
use Rattle.go_query_core.specs.package_core.PackagePartSlots.{somes}
use Rattle.go_query_core.specs.snap_core.WholeWorkspaceInputs.{AreParts, ComesTo, ReachesPackage, Shown}
use Rattle.go_query_core.specs.snap_core.WholeWorkspaceMirrors.Steps.{AreRight}
use Rattle.go_query_core.specs.snap_core.WholeWorkspaceChecks.{trees_are_placed}
use Rattle.go_query_core.specs.snap_core.WholeWorkspaceLists.{one_at}
use Rattle.go_query_core.specs.snap_core.WholeWorkspaceOrder.{along}
use Rattle.go_query_core.specs.snap_core.WholeWorkspaceParts.{told_by}
use Rattle.go_query_core.specs.snap_core.WholeWorkspacePartsWhole.{all_right}
use Rattle.go_query_core.specs.snap_core.WholeWorkspaceTheirs.{passes}
use Rattle.go_query_core.specs.snap_core.Faulty.{read_there}
use Rattle.go_answer_laws.specs.declarations.Found.{AreThereAs, FilePlace, HasDeclared, IsFileThere, IsImportThereAt, IsThereUnder, IsPackageThere, IsThereAs, file_place}
use Rattle.go_answer_laws.specs.declarations.Laws.{DeclarationsAreThere, place_in_part}
use Rattle.go_answer_laws.proofs.DeclarationsLists.{either, same_bytes}
use Rattle.go_answer_laws.proofs.DeclarationsTables.{AreEntriesIn, entries_both}
use Rattle.go_answer_laws.proofs.DeclarationsBlocks.{AreFilesThere, IsShownThere, IsTargetThere, binds_there, block_from, block_global, seen_among}
use Rattle.go_answer_laws.proofs.DeclarationsPackages.{known_inside, shown_inside, types_in, uses_there}
use Rattle.go_answer_laws.proofs.DeclarationsPlacing.{IsGlobal}
use Rattle.go_answer_laws.proofs.DeclarationsWider.{IsFaceIn}
use Rattle.go_answer_laws.proofs.DeclarationsGrammar.{all_keep_rules}

-- lists

numbered_among : {A B : Type 0} (R : ℕ → A → B → Type 0) (k : ℕ) (xs : List A) (ys : List B) (y : B) → AllNumbered R k xs ys → Among ys y → (n : ℕ) × (x : A) × R n x y
numbered_among R k [] [] y h a = absurd a
numbered_among R k [] (b ∷ ys) y h a = absurd h
numbered_among R k (x ∷ xs) [] y h a = absurd h
numbered_among R k (x ∷ xs) (b ∷ ys) y h (inl e) = (k, x, subst (R k x) e h.0)
numbered_among R k (x ∷ xs) (b ∷ ys) y h (inr r) = numbered_among R (suc k) xs ys y h.1 r

-- what stands in a list among lists is of one of them
of_some : {A : Type 0} (xs : List (List A)) (n : ℕ) (y : A) → Among (slice_index_or xs n []) y → (x : List A) × Among xs x × Among x y
of_some [] n y a = absurd a
of_some (x ∷ xs) zero y a = (x, inl refl, a)
of_some (x ∷ xs) (suc n) y a = (let r = of_some xs n y a in (r.0, inr r.1, r.2))

zipped_at : {A B : Type 0} (R : ℕ × A → B → Type 0) (k : ℕ) (xs : List A) (ys : List B) (n : ℕ) (x : A) (y : B) → AllZip R (enumerate_from k xs) ys → slice_get xs n ≡ Some x → slice_get ys n ≡ Some y → R (k + n, x) y
zipped_at R k [] ys n x y h e f = absurd (let no : None ≡ Some x = e in cc)
zipped_at R k (a ∷ xs) [] n x y h e f = absurd h
zipped_at R k (a ∷ xs) (b ∷ ys) zero x y h e f =
    let same : a ≡ x = (let s : Some a ≡ Some x = e in cc) in
    let other : b ≡ y = (let s : Some b ≡ Some y = f in cc) in
    let at : k ≡ k + 0 = omega arith in
    subst (R (k + 0, x)) other (subst (λ (m : ℕ). R (m, x) b) at (subst (λ z. R (k, z) b) same h.0))
zipped_at R k (a ∷ xs) (b ∷ ys) (suc n) x y h e f =
    let at : k + 1 + n ≡ k + suc n = omega arith in
    subst (λ m. R (m, x) y) at (zipped_at R (k + 1) xs ys n x y h.1 e f)

-- files

tree_there : (files : List SourceModel) (n : ℕ) (x : List ℕ × FileTree) → ((i : ℕ) (s : SourceModel) → slice_get files i ≡ Some s → HasNoClause s → ⊥) → slice_get (trees_of files) n ≡ Some x → (s : SourceModel) × (slice_get files n ≡ Some s) × (s.content ≡ Ok x.1)
tree_there [] n x all h = absurd (let no : None ≡ Some x = h in cc)
tree_there (s ∷ ss) n x all h = by s.name s.text s.content n all h (λ m k. tree_there ss m x (λ i o at. all (suc i) o at) k)
  where
    by : (name text : List ℕ) (r : Result FileTree SynFault) (m : ℕ) → ((i : ℕ) (o : SourceModel) → slice_get (source name text r ∷ ss) i ≡ Some o → HasNoClause o → ⊥) → slice_get (trees_of (source name text r ∷ ss)) m ≡ Some x
        → ((k : ℕ) → slice_get (trees_of ss) k ≡ Some x → (o : SourceModel) × (slice_get ss k ≡ Some o) × (o.content ≡ Ok x.1)) → (o : SourceModel) × (slice_get (source name text r ∷ ss) m ≡ Some o) × (o.content ≡ Ok x.1)
    by name text (Err fault) m all k rest = absurd (all 0 (source name text (Err fault)) refl refl)
    by name text (Ok f) zero all k rest = (source name text (Ok f), refl, ap (λ (y : List ℕ × FileTree). Ok y.1) (let same : Some (name, f) ≡ Some x = k in let is : (name, f) ≡ x = cc in is))
    by name text (Ok f) (suc m) all k rest = rest m k

shown_tree : (ts : Trees) (n : ℕ) (t : FileTree) → slice_get (map tree_shown ts) n ≡ Some t → (x : List ℕ × FileTree) × (slice_get ts n ≡ Some x) × (x.1 ≡ t)
shown_tree [] n t h = absurd (let no : None ≡ Some t = h in cc)
shown_tree (x ∷ ts) zero t h = (x, refl, (let s : Some x.1 ≡ Some t = h in cc))
shown_tree (x ∷ ts) (suc n) t h = shown_tree ts n t h

count_at : (ts : Trees) (files : List (List Imported)) (n : ℕ) (t : FileTree) → HaveOneEach ts files → slice_get (map tree_shown ts) n ≡ Some t → length (file_specs t) ≡ length (slice_index_or files n [])
count_at [] files n t h e = absurd (let no : None ≡ Some t = e in cc)
count_at (x ∷ ts) [] n t h e = absurd h
count_at (x ∷ ts) (f ∷ files) zero t h e = subst (λ u. length (file_specs u) ≡ length f) (let s : Some x.1 ≡ Some t = e in let same : x.1 ≡ t = cc in same) h.0
count_at (x ∷ ts) (f ∷ files) (suc n) t h e = count_at ts files n t h.1 e

-- imports that are not used are refused, and what is refused is nowhere

refused_has : (Is : Declaration → Type 0) (o : Outcome Declaration (List ℕ)) → HasDeclared Is (unused_outcome o)
refused_has Is (outcomes.Declared d) = tt
refused_has Is (outcomes.Selected d path) = tt
refused_has Is (outcomes.Refused rule) = tt

module _ (Named : List ℕ → Declaration → Type 0) (Imported_as : ℕ → Declaration → Type 0) where
  refused_there : (before name : List ℕ) (role : Role) (u : TheUse) → IsThereAs Named Imported_as before name role (refused_use u)
  refused_there before name roles.Import u = refused_has (Imported_as u.offset) u.outcome
  refused_there before name roles.Call u = refused_has (Named before) u.outcome
  refused_there before name _ u = refused_has (Named name) u.outcome

  judged_there : (places : List ℕ) (before : List ℕ) (os : List Occ) (us : List TheUse) → AreThereAs Named Imported_as before os us → AreThereAs Named Imported_as before os (map (judged_import places) us)
  judged_there places before [] [] h = tt
  judged_there places before [] (u ∷ us) h = absurd h
  judged_there places before (o ∷ os) [] h = absurd h
  judged_there places before (o ∷ os) (u ∷ us) h = (
    either (IsThereAs Named Imported_as before o.spelling o.role) (is_import u.role && not (list_any (λ place. nat_eq place u.offset) places)) (refused_use u) u (refused_there before o.spelling o.role u) h.0,
    judged_there places o.spelling os us h.1,
  )

-- what packages tell

module _ (ps : List PackageModel) where
  pub record IsToldThere (s : SummaryModel) : Type 0 where
    pub types : AreEntriesIn (IsGlobal ps) s.types.entries
    pub faces : (d : DeclRef) (f : TheFace) → face_by s.faces d ≡ Some f → IsFaceIn (IsGlobal ps) f
    pub names : (name : List ℕ) (d : DeclRef) → in_block s.faces.names name ≡ Some (Some d) → IsGlobal ps s.faces.path name (places.Declared d)

  types_all : (ss : List SummaryModel) → ((s : SummaryModel) → Among ss s → IsToldThere s) → AreEntriesIn (IsGlobal ps) (types_told ss)
  types_all [] h = tt
  types_all (s ∷ ss) h = entries_both (IsGlobal ps) s.types.entries (types_told ss) (h s (inl refl)).types (types_all ss (λ x a. h x (inr a)))

  -- the package of a path among those that are told
  record IsTeller (ss : List SummaryModel) (path : List ℕ) (q : PackageFacesModel) : Type 0 where
    summary : SummaryModel
    among : Among ss summary
    is : summary.faces ≡ q
    same : path ≡ q.path

  teller : (ss : List SummaryModel) (path : List ℕ) (q : PackageFacesModel) → package_in (faces_told ss) path ≡ Some q → IsTeller ss path q
  teller [] path q h = absurd (let no : None ≡ Some q = h in cc)
  teller (s ∷ ss) path q h = by (bytes_eq path s.faces.path) refl h (teller ss path q)
    where
      by : (b : Bool) → bytes_eq path s.faces.path ≡ b → (if b then Some s.faces else package_in (faces_told ss) path) ≡ Some q → (package_in (faces_told ss) path ≡ Some q → IsTeller ss path q) → IsTeller (s ∷ ss) path q
      by true e k rest =
          let is : s.faces ≡ q = (let o : Some s.faces ≡ Some q = k in cc) in
          record { summary = s; among = inl refl; is = is; same = same_bytes path s.faces.path e ∙ ap (λ (w : PackageFacesModel). w.path) is }
      by false e k rest = (let r = rest k in record { summary = r.summary; among = inr r.among; is = r.is; same = r.same })

  module _ (ss : List SummaryModel) (told : (s : SummaryModel) → Among ss s → IsToldThere s) where
    faces_all : (path : List ℕ) (d : DeclRef) (f : TheFace) → face_in (faces_told ss) path d ≡ Some f → IsFaceIn (IsGlobal ps) f
    faces_all path d f h = by (package_in (faces_told ss) path) refl h
      where
        by : (o : Option PackageFacesModel) → package_in (faces_told ss) path ≡ o → face_in_some o d ≡ Some f → IsFaceIn (IsGlobal ps) f
        by None e k = absurd (let no : None ≡ Some f = k in cc)
        by (Some q) e k = (let r = teller ss path q e in (told r.summary r.among).faces d f (ap (λ (w : PackageFacesModel). face_by w d) r.is ∙ k))

    names_all : (path : List ℕ) (q : PackageFacesModel) (name : List ℕ) (d : DeclRef) → package_in (faces_told ss) path ≡ Some q → in_block q.names name ≡ Some (Some d) → IsGlobal ps path name (places.Declared d)
    names_all path q name d e k =
        let r = teller ss path q e in
        subst (λ (w : List ℕ). IsGlobal ps w name (places.Declared d)) (ap (λ (w : PackageFacesModel). w.path) r.is ∙ sym r.same)
        ((told r.summary r.among).names name d (ap (λ (w : PackageFacesModel). in_block w.names name) r.is ∙ k))

-- parts

module _ (ps : List PackageModel) (parts : List (Option PartModel)) (as_read : IsReadWorkspace ps) (right : AreRight ps parts) where
  package_there : (n : ℕ) (part : PartModel) → slice_get parts n ≡ Some (Some part) → IsPackageThere ps (path_in part.input) part.input.source.1
  package_there n part there = (let r = right n part there in record { number = n; numbered = r.numbered; assembled = r.assembled })

  files_there : (n : ℕ) (part : PartModel) → slice_get parts n ≡ Some (Some part) → AreFilesThere ps (path_in part.input) (trees_in part.input.source)
  files_there n part there m t is =
      let files = part.input.source.1 in
      let r = right n part there in
      let x = shown_tree (trees_of files) m t is in
      let s = tree_there files m x.0 (λ i o at. all_at (λ w. HasNoClause w → ⊥) files i o r.assembled.trees at) x.1 in
      record { files = files; there = package_there n part there; source = s.0; in_package = s.1; content = s.2 ∙ ap (λ u. Ok u) x.2 }

  -- what the package block of a part has
  names_there : (n : ℕ) (part : PartModel) → slice_get parts n ≡ Some (Some part) → (x : List ℕ × DeclRef) → Among part.content.blocks.names x → IsGlobal ps (path_in part.input) x.0 (places.Declared x.1)
  names_there n part there x a =
      let r = right n part there in
      block_global ps (path_in part.input) (trees_of part.input.source.1) (files_there n part there) x (subst (λ (l : List (List ℕ × DeclRef)). Among l x) r.made.blocks.package_names a)

  -- what it shows to those that import it
  exports_there : (n : ℕ) (part : PartModel) → slice_get parts n ≡ Some (Some part) → IsShownThere ps part.content.summary.exports
  exports_there n part there =
      let r = right n part there in
      subst (IsShownThere ps) (sym (ap (λ (s : SummaryModel). s.exports) r.made.summary)) (record {
        files = part.input.source.1;
        there = package_there n part there;
        clauses = refl;
        names = λ x a. names_there n part there x (among_filter (λ (e : List ℕ × DeclRef). exported (chars e.0)) part.content.blocks.names x a).0;
      })

  module _ (n : ℕ) (part : PartModel) (there : slice_get parts n ≡ Some (Some part)) (below : (m : ℕ) → ReachesPackage ps n m → (q : PartModel) → slice_get parts m ≡ Some (Some q) → IsToldThere ps q.content.summary) where
    abbrev i : InputModel
    i = part.input

    abbrev seen : PackageIn
    seen = package_seen i part.content.blocks (seen_by i)

    reached_there : (s : SummaryModel) → Among i.reached s → IsToldThere ps s
    reached_there s a =
        let r = right n part there in
        let by = told_by ps parts as_read.well right n i r.input s a in
        subst (IsToldThere ps) (sym by.tells.is) (below by.number by.reached by.tells.of_part by.tells.there)

    import_there : (m : ℕ) (e : ExportsModel) → Among (imports_at seen m) (given_as.«Package» e) → IsShownThere ps e
    import_there m e a =
        let r = right n part there in
        let of_file = of_some i.imports m (given_as.«Package» e) a in
        let file = numbered_among (λ file t is. AreInFile (ComesTo ps parts) n file t.1 is) 0 (trees_of i.source.1) i.imports of_file.0 r.input.imports of_file.1 in
        let spec = numbered_among (λ k spec x. ComesTo ps parts (import_at n file.0 k) x) 0 (file_specs file.1.1) of_file.0 (given_as.«Package» e) file.2 of_file.2 in
        let come : ComesTo ps parts (import_at n file.0 spec.0) (given_as.«Package» e) = spec.2 in
        let p = passes (Shown parts) ps (import_at n file.0 spec.0) come.outcome e come.judged come.given in
        let q = p.shows.told in
        subst (IsShownThere ps) (sym (p.shows.is ∙ ap (λ (s : SummaryModel). s.exports) q.is)) (exports_there p.to q.of_part q.there)

    placed : All IsPlaced (trees_in i.source)
    placed = trees_are_placed ps n i.source as_read.well (right n part there).numbered

    own_names : (name : List ℕ) (d : DeclRef) → in_block part.content.blocks.names name ≡ Some d → IsGlobal ps (path_in i) name (places.Declared d)
    own_names name d h = names_there n part there (name, d) (block_from part.content.blocks.names name d h)

    binds : (m : ℕ) (t : FileTree) → slice_get (trees_in i.source) m ≡ Some t → (name : List ℕ) (x : Binding) → file_binding part.content.blocks m name ≡ Some x
        → IsTargetThere ps (file_place (path_in i) m (file_specs t) (imports_at seen m)) name x.target
    binds m t is = binds_there ps (path_in i) (trees_of i.source.1) i.imports part.content.blocks (right n part there).made.blocks m t is (import_there m)

    far_in : AreEntriesIn (IsGlobal ps) (types_told i.reached)
    far_in = types_all ps i.reached reached_there

    pub part_there : IsToldThere ps part.content.summary
    part_there =
        let r = right n part there in
        let c = r.made.checked in
        subst (IsToldThere ps) (sym r.made.summary) (record {
          types = types_in ps seen (types_told i.reached) c placed (files_there n part there) far_in own_names binds (faces_all ps i.reached reached_there) (names_all ps i.reached reached_there) r.made.is_checked;
          faces = shown_inside ps seen (types_told i.reached) c placed (files_there n part there) far_in own_names binds (faces_all ps i.reached reached_there) (names_all ps i.reached reached_there) r.made.is_checked;
          names = λ name d h. (let f = r.made.is_checked.faces in
              subst (λ (w : PackageFacesModel). IsGlobal ps w.path name (places.Declared d)) (sym f)
              (names_there n part there (name, d) (seen_among part.content.blocks.names name d (ap (λ (w : PackageFacesModel). in_block w.names name) (sym f) ∙ h))));
        })

    pub uses_in : (m : ℕ) (t : FileTree) (f : FileOf) → slice_get (trees_in i.source) m ≡ Some t → slice_get part.content.files m ≡ Some f
        → AreThereAs (IsThereUnder ps (place_in_part i m t)) (IsImportThereAt ps (place_in_part i m t)) [] (file_occs t) f.answers.uses
    uses_in m t f tree made =
        let r = right n part there in
        let c = r.made.checked in
        let at = place_in_part i m t in
        let zero : 0 + m ≡ m = omega arith in
        let file = numbered_at (IsFileMadeIn part.content.blocks c.files) 0 (trees_in i.source) part.content.files m t r.made.files tree in
        let is : file.0 ≡ f = one_at part.content.files m file.0 f file.1 made in
        let one : IsFileMadeIn part.content.blocks c.files m t f = subst (IsFileMadeIn part.content.blocks c.files m t) is (subst (λ k. IsFileMadeIn part.content.blocks c.files k t file.0) zero file.2) in
        let es : List Entry = types_told i.reached ++ c.types in
        let checked = subst (λ k. IsFileChecked seen es c.declared r.made.is_checked.type_faults r.made.is_checked.looped (k, t) one.checked) zero
        (zipped_at (IsFileChecked seen es c.declared r.made.is_checked.type_faults r.made.is_checked.looped) 0 (trees_in i.source) c.files m t one.checked r.made.is_checked.files tree one.there) in
        let wf : Wf_file t = subst Wf_file (get_or_from_slice_get (trees_in i.source) m t t tree) (all_keep_rules i.source.1 (read_there ps n i.source as_read.read r.numbered) m t (slice_get_within (trees_in i.source) m t tree)) in
        let count = count_at (trees_of i.source.1) i.imports m t (have_one_each (ComesTo ps parts) n (trees_of i.source.1) i.imports r.input.imports) tree in
        let uses = uses_there ps seen (types_told i.reached) c placed (files_there n part there) far_in own_names binds (faces_all ps i.reached reached_there) (names_all ps i.reached reached_there) r.made.is_checked m t tree wf count (import_there m) in
        subst (AreThereAs (IsThereUnder ps at) (IsImportThereAt ps at) [] (file_occs t)) (sym (one.made_of.uses ∙ ap (λ us. without_unused part.content.blocks m t us) checked.uses))
        (judged_there (IsThereUnder ps at) (IsImportThereAt ps at) (blank_places t ++ used_places part.content.blocks m (file_occs t) (file_uses (stand_at seen es c.declared (m, t)) (imports_at seen m) t)) [] (file_occs t)
        (file_uses (stand_at seen es c.declared (m, t)) (imports_at seen m) t) uses)

  module _ (plan : PlanModel) (planned : IsPlan ps plan) where
    told_there : (n : ℕ) (part : PartModel) → slice_get parts n ≡ Some (Some part) → IsToldThere ps part.content.summary
    told_there n part there =
        let r = right n part there in
        along ps plan planned (λ k. (q : PartModel) → slice_get parts k ≡ Some (Some q) → IsToldThere ps q.content.summary) (λ k assembled below q at. part_there k q at below)
        n (part.input.source.0, part.input.source.1, r.numbered, r.assembled) part there

    pub all_there : (n : ℕ) (part : PartModel) → slice_get parts n ≡ Some (Some part) → (m : ℕ) (t : FileTree) (f : FileOf) → slice_get (trees_in part.input.source) m ≡ Some t → slice_get part.content.files m ≡ Some f
        → AreThereAs (IsThereUnder ps (place_in_part part.input m t)) (IsImportThereAt ps (place_in_part part.input m t)) [] (file_occs t) f.answers.uses
    all_there n part there = uses_in n part there (λ m reached q at. told_there m q at)

numbered_in : (xs : List (Option PartModel)) (p : PartModel) → Among (somes xs) p → (n : ℕ) × (slice_get xs n ≡ Some (Some p))
numbered_in [] p h = absurd h
numbered_in (None ∷ xs) p h = (let r = numbered_in xs p h in (suc r.0, r.1))
numbered_in (Some q ∷ xs) p (inl e) = (0, ap (λ x. Some (Some x)) e)
numbered_in (Some q ∷ xs) p (inr a) = (let r = numbered_in xs p a in (suc r.0, r.1))

pub declarations_are_there : DeclarationsAreThere
declarations_are_there ps parts faults as_read snapshot p h m t f tree made =
    let at = numbered_in parts p (among_from (somes parts) p h) in
    let plan = has_plan ps as_read.well in
    all_there ps parts as_read (all_right ps parts snapshot.made) plan.0 plan.1 at.0 p at.1 m t f tree made
