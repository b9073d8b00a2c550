-- What a package declares, by its part.
use Rattle.std.proofs.Common.{◌≡◌, ◌≢◌, ◌⊎◌, inl, inr, ℕ, Bool, false, List, sym, ap, ◌∙◌, subst}
use Rattle.std.specs.Prelude.{◌↔◌, IsTrue}
use Rattle.std.proofs.lemmas.Bool.{true≢false}
use Rattle.go_tree_nodes.specs.text_core.declared.rule.Rule.{Rule}
use Rattle.go_tree_nodes.specs.text_core.declared.rule.Rule.TheVariants.{M0}
use Rattle.go_expr_core.specs.decl_core.declared.keys.DeclRef.{DeclRef}
use Rattle.go_import_core.specs.graph_core.declared.imports.ImportOutcome.TheVariants.{Refused}
use Rattle.go_import_core.specs.graph_core.Packages.{trees_of}
use Rattle.go_import_core.specs.graph_core.Sources.{SourceModel}
use Rattle.go_declared_core.specs.block_core.Exports.{exported_names}
use Rattle.go_declared_core.specs.block_core.Holding.{package_block}
use Rattle.go_doc_core.specs.symbol.Symbols.{AreSymbols, SymbolOf}
use Rattle.go_import_core.specs.list.Importing.{IsJudgedAt}
use Rattle.go_complete_core.specs.package_core.PackagePartInputs.{InputModel, path_in}
use Rattle.go_complete_core.specs.package_core.PackagePartParts.{ContentOf, IsPart, PartModel}
use Rattle.go_complete_core.specs.summary_core.Summaries.{SummaryModel}
use Rattle.go_complete_core.specs.snap_core.Snapshots.{SnapshotModel}
use Rattle.go_query_core.specs.Documenting.{DocOf, IsDoc, IsDocRefusal, IsExportedDoc, IsImportRefused, IsImportedDoc, IsImportedPart, IsOwnDoc}
use Rattle.go_query_core.specs.Parts.{IsPartOf}

module _ (i : InputModel) (c : ContentOf) (part : IsPart i c) where
  pub names_are : c.blocks.names ≡ package_block (trees_of i.source.1)
  names_are = part.blocks.package_names

  exports_are : c.summary.exports.names ≡ exported_names c.blocks.names
  exports_are = ap (λ (s : SummaryModel). s.exports.names) part.summary

  pub exported_are : c.summary.exports.names ≡ exported_names (package_block (trees_of i.source.1))
  exported_are = exports_are ∙ ap exported_names names_are

  pub exported_symbols_are : (files : List SourceModel) (names : List (List ℕ × DeclRef)) (symbols : List SymbolOf) → names ≡ c.summary.exports.names → AreSymbols files names symbols → AreSymbols files (exported_names c.blocks.names) symbols
  exported_symbols_are files names symbols is h = subst (λ (l : List (List ℕ × DeclRef)). AreSymbols files l symbols) (is ∙ exports_are) h

-- what another package shows

pub imported_doc : (s : SnapshotModel) (own : ℕ) (text : List ℕ) (part : PartModel) → IsImportedPart s own text part → (d : DocOf) → IsExportedDoc part d → IsImportedDoc s own text d
imported_doc s own text part there d h = record { of_part = part; imported = there; doc = h }

-- as the package of a part sees it

module _ (s : SnapshotModel) (number : ℕ) (part : PartModel) (own : IsPartOf s (path_in part.input) number part) (text : List ℕ) where
  pub own_is : text ≡ path_in part.input → (d : DocOf) → IsOwnDoc part d → IsDoc s (path_in part.input) text d
  own_is same d h = inl (record { same = same; number = number; of_part = part; own = own; doc = h })

  pub other_is : text ≢ path_in part.input → (d : DocOf) → IsImportedDoc s number text d → IsDoc s (path_in part.input) text d
  other_is other d h = inr (record { other = other; number = number; importer = part; own = own; imported = h })

  pub is_refused : text ≢ path_in part.input → (rule : Rule) → (rule ≡ M0) ⊎ IsJudgedAt s.sources number text (Refused rule) → (rule ≡ M0) ⊎ IsImportRefused s (path_in part.input) text rule
  is_refused other rule (inl memory) = inl memory
  is_refused other rule (inr h) = inr (record { other = other; number = number; importer = part; own = own; judged = h })

pub is_other : (text named path : List ℕ) (b : Bool) → IsTrue b ↔ (text ≡ named) → b ≡ false → named ≡ path → text ≢ path
is_other text named path b same off is e = absurd (true≢false (sym (same.1 (e ∙ sym is)) ∙ off))

pub doc_refused : (s : SnapshotModel) (from path text : List ℕ) → path ≡ from → (rule : Rule) → (rule ≡ M0) ⊎ IsImportRefused s path text rule → (rule ≡ M0) ⊎ IsDocRefusal s from text rule
doc_refused s from path text same rule (inl memory) = inl memory
doc_refused s from path text same rule (inr h) = inr (inr (subst (λ (p : List ℕ). IsImportRefused s p text rule) same h))
