-- What parts of the answer say together.
use Rattle.std.proofs.Common.{◌≡◌, ◌≢◌, ◌⊎◌, inl, inr, ℕ, List, Option, subst}
use Rattle.go_path_core.specs.text_core.declared.rule.Rule.{Rule}
use Rattle.go_path_core.specs.text_core.declared.rule.Rule.TheVariants.{M0}
use Rattle.go_graph_core.specs.declared.imports.ImportOutcome.TheVariants.{Refused}
use Rattle.go_import_core.specs.list.Importing.{IsJudgedAt}
use Rattle.go_term_core.specs.Terms.{Term}
use Rattle.go_package_core.specs.package_part.Inputs.{path_in}
use Rattle.go_package_core.specs.package_part.Parts.{IsPart, PartModel}
use Rattle.go_snap_core.specs.Snapshots.{SnapshotModel}
use Rattle.go_query_core.specs.Documenting.{IsImportedPart}
use Rattle.go_query_core.specs.Parts.{IsPartOf}
use Rattle.go_type_doc_core.specs.Naming.{IsOwnRefusal, IsOwnType}
use Rattle.go_type_doc_core.specs.TypeDocs.{IsDocOfType, IsNameRefused, IsTypeDoc, IsTypeDocRefusal, TypeDocOf}
use Rattle.go_type_doc_core.specs.mirrors.Shown.{IsShownRefusal, IsShownType}
use Rattle.go_type_doc_core.specs.mirrors.Steps.{IsOtherDocOf, IsOtherStop, IsOwnDocOf, IsShownDocOf}
use Rattle.go_type_doc_core.proofs.Behind.{other_refused, other_typed}

module _ (s : SnapshotModel) (name : List ℕ) where
  pub own_doc_of : (p : PartModel) (t : Option Term) → IsOwnType p name t → (from : List ℕ) → from ≡ path_in p.input → (d : TypeDocOf) → IsDocOfType s from p t d → IsOwnDocOf s p name d
  own_doc_of p t named from same d h = record { term = t; named = named; doc = subst (λ (f : List ℕ). IsDocOfType s f p t d) same h }

  pub shown_doc_of : (p : PartModel) (t : Option Term) → IsShownType p name t → (from : List ℕ) (d : TypeDocOf) → IsDocOfType s from p t d → IsShownDocOf s from p name d
  shown_doc_of p t named from d h = record { term = t; named = named; doc = h }

  -- behind the name of a package that is imported
  module _ (number : ℕ) (q : PartModel) (path : List ℕ) where
    pub other_doc_of : (p : PartModel) → IsImportedPart s number path p → IsPart p.input p.content → (from : List ℕ) → from ≡ path_in q.input → (d : TypeDocOf) → IsShownDocOf s from p name d → IsOtherDocOf s number q path name d
    other_doc_of p imported made from same d h = record {
      of_part = p;
      imported = imported;
      term = h.term;
      named = other_typed q p made name h.term h.named;
      doc = subst (λ (f : List ℕ). IsDocOfType s f p h.term d) same h.doc;
    }

    pub other_stop : (p : PartModel) → IsImportedPart s number path p → IsPart p.input p.content → (rule : Rule) → (rule ≡ M0) ⊎ IsShownRefusal p name rule → (rule ≡ M0) ⊎ IsOtherStop s number q path name rule
    other_stop p imported made rule (inl memory) = inl memory
    other_stop p imported made rule (inr h) = inr (inr (p, imported, other_refused q p made name rule h))

    pub import_stop : (rule : Rule) → (rule ≡ M0) ⊎ IsJudgedAt s.sources number path (Refused rule) → (rule ≡ M0) ⊎ IsOtherStop s number q path name rule
    import_stop rule (inl memory) = inl memory
    import_stop rule (inr h) = inr (inl h)

  -- as the package of a part sees it
  module _ (number : ℕ) (part : PartModel) (own : IsPartOf s (path_in part.input) number part) (path : List ℕ) where
    pub own_is : path ≡ path_in part.input → (d : TypeDocOf) → IsOwnDocOf s part name d → IsTypeDoc s (path_in part.input) path name d
    own_is same d h = inl (record { same = same; number = number; of_part = part; own = own; term = h.term; named = h.named; doc = h.doc })

    pub own_refused : path ≡ path_in part.input → (rule : Rule) → (rule ≡ M0) ⊎ IsOwnRefusal part name rule → (rule ≡ M0) ⊎ IsNameRefused s (path_in part.input) path name rule
    own_refused same rule (inl memory) = inl memory
    own_refused same rule (inr h) = inr (inr (inl (record { same = same; number = number; of_part = part; own = own; refused = h })))

    pub other_is : path ≢ path_in part.input → (d : TypeDocOf) → IsOtherDocOf s number part path name d → IsTypeDoc s (path_in part.input) path name d
    other_is other d h = inr (record { other = other; number = number; importer = part; own = own; of_part = h.of_part; imported = h.imported; term = h.term; named = h.named; doc = h.doc })

    pub others_refused : path ≢ path_in part.input → (rule : Rule) → (rule ≡ M0) ⊎ IsOtherStop s number part path name rule → (rule ≡ M0) ⊎ IsNameRefused s (path_in part.input) path name rule
    others_refused other rule (inl memory) = inl memory
    others_refused other rule (inr (inl h)) = inr (inl (record { other = other; number = number; importer = part; own = own; judged = h }))
    others_refused other rule (inr (inr h)) = inr (inr (inr (record { other = other; number = number; importer = part; own = own; of_part = h.0; imported = h.1; refused = h.2 })))

  -- as the package of a path sees it
  pub refused_from : (from path text : List ℕ) → path ≡ from → (rule : Rule) → (rule ≡ M0) ⊎ IsNameRefused s path text name rule → (rule ≡ M0) ⊎ IsTypeDocRefusal s from text name rule
  refused_from from path text same rule (inl memory) = inl memory
  refused_from from path text same rule (inr h) = inr (inr (subst (λ (p : List ℕ). IsNameRefused s p text name rule) same h))
