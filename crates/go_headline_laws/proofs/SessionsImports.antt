-- Lists and docs, in the words of what is published.
use Rattle.std.proofs.Common.{◌≡◌, ◌⊎◌, inl, inr, ℕ, List, Result, Err, Some, get_or, refl, sym, ap, subst}
use Rattle.std.specs.Prelude.{◌↔◌, Contains, slice_get}
use Rattle.go_path_core.specs.text_core.declared.rule.Rule.{Rule}
use Rattle.go_path_core.specs.text_core.declared.rule.Rule.TheVariants.{M0, Q1}
use Rattle.go_import_core.specs.list.Added.{AddedImportsAreJudged, AddsImport, added_at}
use Rattle.go_import_core.specs.list.Importing.{IsJudgedAt}
use Rattle.go_graph_core.specs.declared.imports.ImportOutcome.{ImportOutcome}
use Rattle.go_graph_core.specs.declared.imports.ImportOutcome.TheVariants as come
use Rattle.go_graph_core.specs.Imports.{IsNumbered, IsOutcome}
use Rattle.go_graph_core.proofs.Numbers.{has_one_number}
use Rattle.go_graph_core.specs.Sources.{SourceModel}
use Rattle.go_graph_core.specs.Workspaces.{IsReadWorkspace, PackageModel}
use Rattle.go_submit_core.specs.package_core.PackagePartParts.{PartModel}
use Rattle.go_submit_core.specs.snap_core.Snapshots.{IsPartAt, SnapshotModel}
use Rattle.go_submit_core.specs.Published.{IsOneWorker, sources_of}
use Rattle.go_submit_core.specs.declared.published.PublishedBatch.{PublishedBatch}
use Rattle.go_query_core.specs.Defining.{HasNoPart}
use Rattle.go_query_core.specs.Documenting.{DocOf, IsDoc, IsDocOfOther, IsDocOfOwn, IsImportRefused, doc_shown}
use Rattle.go_query_core.specs.Entries.{EntryOf, entry_with}
use Rattle.go_query_core.specs.Listing.{IsEntryOf, IsListing}
use Rattle.go_query_core.specs.Parts.{IsPartOf}
use Rattle.go_query_core.specs.declared.documenting.PackageDoc.{PackageDoc}
use Rattle.go_query_core.specs.declared.listing.Listing.{Listing}
use Rattle.go_type_doc_core.specs.declared.telling.TypeDoc.{TypeDoc}
use Rattle.go_type_doc_core.specs.TypeDocs.{IsOtherTypeRefused, IsOwnTypeRefused, IsTypeDoc, type_doc_shown}
use Rattle.go_session_core.specs.queries.Asked.{IsAnswer}
use Rattle.go_session_core.specs.queries.Queries.{IsDocAnswer, IsListAnswer, IsTypeDocAnswer}
use Rattle.go_headline_laws.specs.SessionHeadline.{Documents, DocumentsType, HasPackage, ImportComesTo, IsEntryBy, IsTold, ListsImportable, RefusesImport, RefusesNone, RefusesType, WhereAdded}
use Rattle.go_headline_laws.proofs.Showing.{lists as lists_exactly}
use Rattle.go_headline_laws.proofs.SessionsPackages.{has_package, numbered_back, told}

module _ (judged : AddedImportsAreJudged) (ps : List PackageModel) (well : IsReadWorkspace ps) (s : SnapshotModel) (is : IsOneWorker ps s) where
  own_package : (path : List ℕ) (n : ℕ) (p : PartModel) → IsPartOf s path n p → HasPackage ps path
  own_package path n p h = has_package ps s is path n h.files p h.numbered h.there

  -- an added import stands in the package of one number
  from_number : (from : List ℕ) (n k : ℕ) (files others : List SourceModel) → IsNumbered ps from n files → IsNumbered ps from k others → n ≡ k
  from_number from n k files others h g = has_one_number ps from n k files others well.well h g

  comes : (from path : List ℕ) (n : ℕ) (p : PartModel) (outcome : ImportOutcome) → IsPartOf s from n p → IsJudgedAt s.sources n path outcome → ImportComesTo ps from path outcome
  comes from path n p outcome own j =
      let here : IsJudgedAt ps n path outcome = subst (λ (qs : List PackageModel). IsJudgedAt qs n path outcome) is.sources j in
      λ k files numbered more h.
      let same : n ≡ k = from_number from n k own.files files (numbered_back ps s is from n own.files own.numbered) numbered in
      (judged ps more k path h outcome).1 (subst (λ m. IsJudgedAt ps m path outcome) same here)

  -- list

  entry : (from : List ℕ) (e : EntryOf) → IsEntryOf s from e.number e → IsEntryBy ps from e
  entry from e h =
      let same = h.2 in
      record {
        one_worker = subst (λ (t : SnapshotModel). IsOneWorker ps t) (ap (λ (x : EntryOf). x.of_snapshot) (sym same)) is;
        there = subst (λ (x : EntryOf). slice_get x.of_snapshot.parts e.number ≡ Some (Some x.of_part)) (sym same) h.1;
        as_seen = ap (λ (x : EntryOf). x.from) same;
      }

  exactly : (from : List ℕ) (own : EntryOf) (importable : List EntryOf) (l : IsListing s from own importable) (n : ℕ) (path : List ℕ) (others : List SourceModel) → IsNumbered ps path n others
      → WhereAdded ps from path (λ more at. ((e : EntryOf) × Contains importable e × (e.number ≡ n)) ↔ IsOutcome more at (come.«Package» n))
  exactly from own importable l n path others numbered k files there more h =
      let same : l.number ≡ k = from_number from l.number k l.in_workspace.files files (numbered_back ps s is from l.number l.in_workspace.files l.in_workspace.numbered) there in
      subst (λ m. (g : AddsImport ps m path more) → ((e : EntryOf) × Contains importable e × (e.number ≡ n)) ↔ IsOutcome more (added_at m g.files) (come.«Package» n)) same
      (λ g. lists_exactly judged ps s well.well is.sources from own importable l n path others numbered more g) h

  pub lists : (from : List ℕ) (l : Listing) → IsListing s from l.own l.importable.items → HasPackage ps from × ListsImportable ps from l
  lists from l h =
      let number : l.own.number ≡ h.number = ap (λ (x : EntryOf). x.number) h.is_own in
      let shown : IsEntryBy ps from (entry_with s h.number h.of_part from) = record { one_worker = is; there = h.in_workspace.there; as_seen = refl } in (
        own_package from h.number h.of_part h.in_workspace,
        record {
          files = h.in_workspace.files;
          own = subst (λ n. IsNumbered ps from n h.in_workspace.files) (sym number) (numbered_back ps s is from h.number h.in_workspace.files h.in_workspace.numbered);
          of_own = subst (IsEntryBy ps from) (sym h.is_own) shown;
          of_others = λ i d lt. entry from (get_or l.importable.items i d) (h.only i d lt).1;
          order = h.order;
          exactly = exactly from l.own l.importable.items h;
        },
      )

  -- doc

  documents_own : (from path : List ℕ) (d : DocOf) → IsDocOfOwn s from path d → HasPackage ps from × Documents ps from path d
  documents_own from path d h =
      let at : IsPartAt s.sources s.parts from h.of_part = record { number = h.number; files = h.own.files; numbered = h.own.numbered; there = h.own.there } in
      (own_package from h.number h.of_part h.own, inl (h.same, (h.of_part, (s, is, at), h.doc)))

  documents_other : (from path : List ℕ) (d : DocOf) → IsDocOfOther s from path d → HasPackage ps from × Documents ps from path d
  documents_other from path d h =
      let i = h.imported.imported in
      let found = i.judged.judged.0 in
      let at : IsPartAt s.sources s.parts path h.imported.of_part = record { number = i.to; files = found.files; numbered = found.numbered; there = i.there } in
      (own_package from h.number h.importer h.own, inr (h.other, (i.to, comes from path h.number h.importer (come.«Package» i.to) h.own i.judged, (h.imported.of_part, (s, is, at), h.imported.doc))))

  pub documents : (from path : List ℕ) (d : DocOf) → IsDoc s from path d → HasPackage ps from × Documents ps from path d
  documents from path d (inl h) = documents_own from path d h
  documents from path d (inr h) = documents_other from path d h

  pub refuses_import : (from path : List ℕ) (rule : Rule) → IsImportRefused s from path rule → HasPackage ps from × RefusesImport ps from path rule
  refuses_import from path rule h =
      (own_package from h.number h.importer h.own, record { other = h.other; breaks = comes from path h.number h.importer (come.Refused rule) h.own h.judged })

  -- the doc of a type

  pub documents_type : (from path type_name : List ℕ) (d : TypeDoc) → IsTypeDoc s from path type_name (type_doc_shown d) → HasPackage ps from × DocumentsType ps from path type_name d
  documents_type from path type_name d h = (by h, (s, is, h))
    where
      by : IsTypeDoc s from path type_name (type_doc_shown d) → HasPackage ps from
      by (inl g) = own_package from g.number g.of_part g.own
      by (inr g) = own_package from g.number g.importer g.own

  refuses_type : (from path type_name : List ℕ) (rule : Rule) → IsOwnTypeRefused s from path type_name rule ⊎ IsOtherTypeRefused s from path type_name rule → HasPackage ps from × RefusesType ps from path type_name rule
  refuses_type from path type_name rule h = (by h, inr (s, is, h))
    where
      by : IsOwnTypeRefused s from path type_name rule ⊎ IsOtherTypeRefused s from path type_name rule → HasPackage ps from
      by (inl g) = own_package from g.number g.of_part g.own
      by (inr g) = own_package from g.number g.importer g.own

  -- answers

  pub list_refused : (from : List ℕ) (rule : Rule) → IsListAnswer from s (Err rule) → (rule ≡ M0) ⊎ (((rule ≡ Q1) × HasNoPart s from) ⊎ (HasPackage ps from × RefusesNone ps rule))
  list_refused from rule (inl m) = inl m
  list_refused from rule (inr q) = inr (inl q)

  pub doc_refused : (from path : List ℕ) (rule : Rule) → IsDocAnswer from path s (Err rule) → (rule ≡ M0) ⊎ (((rule ≡ Q1) × HasNoPart s from) ⊎ (HasPackage ps from × RefusesImport ps from path rule))
  doc_refused from path rule (inl m) = inl m
  doc_refused from path rule (inr (inl q)) = inr (inl q)
  doc_refused from path rule (inr (inr h)) = inr (inr (refuses_import from path rule h))

  pub type_refused : (from path type_name : List ℕ) (rule : Rule) → IsTypeDocAnswer from path type_name s (Err rule)
      → (rule ≡ M0) ⊎ (((rule ≡ Q1) × HasNoPart s from) ⊎ (HasPackage ps from × RefusesType ps from path type_name rule))
  type_refused from path type_name rule (inl m) = inl m
  type_refused from path type_name rule (inr (inl q)) = inr (inl q)
  type_refused from path type_name rule (inr (inr (inl h))) = (let r = refuses_import from path rule h in inr (inr (r.0, inl r.1)))
  type_refused from path type_name rule (inr (inr (inr h))) = inr (inr (refuses_type from path type_name rule h))

-- what is told

module _ (judged : AddedImportsAreJudged) (own from : List ℕ) (board : List PublishedBatch) (well : IsReadWorkspace (sources_of board)) where
  pub told_list : (r : Result (ℕ × Listing) Rule) → IsAnswer own from board (IsListAnswer from) r → IsTold own from board (λ ps (l : Listing). ListsImportable ps from l) RefusesNone r
  told_list r h =
      told own from board (IsListAnswer from) (λ ps (l : Listing). ListsImportable ps from l) RefusesNone well
      (λ s is l a. lists judged (sources_of board) well s is from l a) (λ s is rule a. list_refused judged (sources_of board) well s is from rule a) r h

  pub told_doc : (path : List ℕ) (r : Result (ℕ × PackageDoc) Rule) → IsAnswer own from board (IsDocAnswer from path) r → IsTold own from board (λ ps (d : PackageDoc). Documents ps from path (doc_shown d)) (λ ps rule. RefusesImport ps from path rule) r
  told_doc path r h =
      told own from board (IsDocAnswer from path) (λ ps (d : PackageDoc). Documents ps from path (doc_shown d)) (λ ps rule. RefusesImport ps from path rule) well
      (λ s is d a. documents judged (sources_of board) well s is from path (doc_shown d) a) (λ s is rule a. doc_refused judged (sources_of board) well s is from path rule a) r h

  pub told_type : (path type_name : List ℕ) (r : Result (ℕ × TypeDoc) Rule) → IsAnswer own from board (IsTypeDocAnswer from path type_name) r
      → IsTold own from board (λ ps (d : TypeDoc). DocumentsType ps from path type_name d) (λ ps rule. RefusesType ps from path type_name rule) r
  told_type path type_name r h =
      told own from board (IsTypeDocAnswer from path type_name) (λ ps (d : TypeDoc). DocumentsType ps from path type_name d) (λ ps rule. RefusesType ps from path type_name rule) well
      (λ s is d a. documents_type judged (sources_of board) well s is from path type_name d a) (λ s is rule a. type_refused judged (sources_of board) well s is from path type_name rule a) r h
