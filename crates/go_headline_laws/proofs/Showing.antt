-- What is listed and documented is what an added import would come to.
use Rattle.std.proofs.Common.{◌≡◌, ℕ, List, sym, ap, subst}
use Rattle.std.specs.Prelude.{Contains}
use Rattle.std.proofs.lemmas.List.Elements.{All-contains}
use Rattle.go_path_core.specs.text_core.declared.rule.Rule.{Rule}
use Rattle.go_import_core.specs.list.Added.{AddedImportsAreJudged, AddsImport, added_at}
use Rattle.go_import_core.specs.list.Importing.{IsImportable, IsJudgedAt}
use Rattle.go_graph_core.specs.declared.imports.ImportOutcome.TheVariants as come
use Rattle.go_graph_core.specs.Imports.{IsNumbered, IsOutcome}
use Rattle.go_graph_core.proofs.Numbers.{has_one_number, has_one_package}
use Rattle.go_graph_core.specs.Sources.{SourceModel}
use Rattle.go_graph_core.specs.Workspaces.{IsWorkspace, PackageModel}
use Rattle.go_submit_core.specs.package_core.PackagePartParts.{PartModel}
use Rattle.go_submit_core.specs.snap_core.Snapshots.{SnapshotModel}
use Rattle.go_query_core.specs.Documenting.{IsImportRefused}
use Rattle.go_query_core.specs.Entries.{EntryOf}
use Rattle.go_query_core.specs.Listing.{IsEntryOf, IsListing}
use Rattle.go_query_core.specs.Parts.{IsPartOf}
use Rattle.go_completion_laws.specs.Completing.{CompletesExactly}
use Rattle.go_documentation_laws.specs.Types.{OwnTypesExactly, TypeRefusalsExactly, TypesExactly}
use Rattle.go_headline_laws.specs.Headline.{ListsExactly, RefusesExactly, ShowsWhatResolves}

module _ (judged : AddedImportsAreJudged) (ps : List PackageModel) (s : SnapshotModel) (well : IsWorkspace ps) (same : s.sources ≡ ps) where
  module _ (from : List ℕ) (own : EntryOf) (importable : List EntryOf) (l : IsListing s from own importable) (n : ℕ) (path : List ℕ) (files : List SourceModel) (numbered : IsNumbered ps path n files)
      (more : List PackageModel) (h : AddsImport ps l.number path more) where
    listed_comes : (e : EntryOf) → Contains importable e → e.number ≡ n → IsOutcome more (added_at l.number h.files) (come.«Package» n)
    listed_comes e there is =
        let P : EntryOf → Type 0 = λ x. IsImportable s.sources l.number x.number × IsEntryOf s from x.number x in
        let shown : IsImportable s.sources l.number e.number = (All-contains P importable e l.only there).0 in
        let i : IsImportable ps l.number n = subst (λ (qs : List PackageModel). IsImportable qs l.number n) same (subst (λ (k : ℕ). IsImportable s.sources l.number k) is shown) in
        let path_is : i.path ≡ path = (has_one_package ps i.path path n i.files files i.numbered numbered).0 in
        (judged ps more l.number path h (come.«Package» n)).1 (subst (λ (q : List ℕ). IsJudgedAt ps l.number q (come.«Package» n)) path_is i.judged)

    comes_listed : IsOutcome more (added_at l.number h.files) (come.«Package» n) → (e : EntryOf) × Contains importable e × (e.number ≡ n)
    comes_listed o =
        let j : IsJudgedAt ps l.number path (come.«Package» n) = (judged ps more l.number path h (come.«Package» n)).0 o in
        let i : IsImportable ps l.number n = record { path = path; files = files; numbered = numbered; judged = j } in
        let e = l.each n (subst (λ (qs : List PackageModel). IsImportable qs l.number n) (sym same) i) in
        (e.0, e.1, ap (λ (x : EntryOf). x.number) e.2.2)

  pub lists : ListsExactly ps s
  lists from own importable l n path files numbered more h =
      ((λ e. listed_comes from own importable l n path files numbered more h e.0 e.1 e.2), (λ o. comes_listed from own importable l n path files numbered more h o))

  module _ (from path : List ℕ) (rule : Rule) (number : ℕ) (importer : PartModel) (own : IsPartOf s from number importer) (other : path ≡ from → ⊥) (more : List PackageModel) (h : AddsImport ps number path more) where
    refused_breaks : IsImportRefused s from path rule → IsOutcome more (added_at number h.files) (come.Refused rule)
    refused_breaks r =
        let one : IsNumbered ps from r.number r.own.files = subst (λ (qs : List PackageModel). IsNumbered qs from r.number r.own.files) same r.own.numbered in
        let two : IsNumbered ps from number own.files = subst (λ (qs : List PackageModel). IsNumbered qs from number own.files) same own.numbered in
        let is : r.number ≡ number = has_one_number ps from r.number number r.own.files own.files well one two in
        let j : IsJudgedAt ps r.number path (come.Refused rule) = subst (λ (qs : List PackageModel). IsJudgedAt qs r.number path (come.Refused rule)) same r.judged in
        (judged ps more number path h (come.Refused rule)).1 (subst (λ (k : ℕ). IsJudgedAt ps k path (come.Refused rule)) is j)

    breaks_refused : IsOutcome more (added_at number h.files) (come.Refused rule) → IsImportRefused s from path rule
    breaks_refused o =
        let j : IsJudgedAt ps number path (come.Refused rule) = (judged ps more number path h (come.Refused rule)).0 o in
        record { other = other; number = number; importer = importer; own = own; judged = subst (λ (qs : List PackageModel). IsJudgedAt qs number path (come.Refused rule)) (sym same) j }

  refuses : RefusesExactly ps s
  refuses from path rule number importer own other more h =
      ((λ r. refused_breaks from path rule number importer own other more h r), (λ o. breaks_refused from path rule number importer own other more h o))

  pub shows : CompletesExactly ps s → TypesExactly ps s → OwnTypesExactly s → TypeRefusalsExactly ps s → ShowsWhatResolves ps s
  shows completes types own_types refuses_types = record { completes = completes; lists = lists; refuses = refuses; types = types; own_types = own_types; refuses_types = refuses_types }
