-- What a package has, put together.
use Rattle.std.proofs.Common.{◌≡◌, ℕ, List, sym, ap, subst, ◌∙◌}
use Rattle.go_block_core.specs.graph_core.Packages.{trees_of}
use Rattle.go_block_core.specs.Blocks.{BlocksModel, AreBlocks}
use Rattle.go_block_core.specs.Naming.{package_named}
use Rattle.go_type_core.specs.table_core.Tables.{PackageTypesModel, package_types}
use Rattle.go_package_core.specs.prepare.Packages.{trees_in}
use Rattle.go_package_core.specs.Checked.{CheckedOf, IsChecked}
use Rattle.go_report_core.specs.summary_core.Summaries.{summary_of}
use Rattle.go_package_core.specs.package_part.Inputs.{InputModel, path_in}
use Rattle.go_package_core.specs.package_part.Parts.{AreFilesMade, ContentOf, IsMade, SeenOf, package_seen}

pub made_is : (i : InputModel) (seen : SeenOf) (b : BlocksModel) (c : CheckedOf) (types : PackageTypesModel) (content : ContentOf)
    → AreBlocks (trees_of i.source.1) (package_named (trees_of i.source.1) i.imports) b → IsChecked (package_seen i b seen) seen.types c
    → types.path ≡ path_in i → types.entries ≡ c.types
    → content.blocks ≡ b → content.declared ≡ c.declared → AreFilesMade b (trees_in i.source) c.files content.files → content.summary ≡ summary_of i.source b types c.faces
    → IsMade i seen content
made_is i seen b c types content blocks checked path entries same declared files summary =
    let own : types ≡ package_types (path_in i) c.types = ap (λ (p : List ℕ). package_types p types.entries) path ∙ ap (λ es. package_types (path_in i) es) entries in
    record {
      blocks = subst (AreBlocks (trees_of i.source.1) (package_named (trees_of i.source.1) i.imports)) (sym same) blocks;
      checked = c;
      is_checked = subst (λ x. IsChecked (package_seen i x seen) seen.types c) (sym same) checked;
      declared = declared;
      files = subst (λ x. AreFilesMade x (trees_in i.source) c.files content.files) (sym same) files;
      summary = summary ∙ (ap (λ t. summary_of i.source b t c.faces) own ∙ ap (λ x. summary_of i.source x (package_types (path_in i) c.types) c.faces) (sym same));
    }
