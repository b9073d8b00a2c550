-- What is written stands in the order of the declarations.
use Rattle.std.proofs.Common.{◌≡◌, ℕ, List, [], ◌∷◌, ◌++◌, length, map, refl, sym, ap, ◌∙◌}
use Rattle.std.specs.Prelude.{slice_index_or}
use Rattle.std.specs.List.{flat_map, enumerate_from}
use Rattle.std.proofs.lemmas.List.{map-append, length-map}
use Rattle.go_decl_core.specs.TopDecls.{TopDeclTree}
use Rattle.go_table_core.specs.Entries.{Entry}
use Rattle.go_typexpr_core.specs.written.Written.{InFile, Meaning}
use Rattle.go_typexpr_core.specs.entry.Outlines.{FileOutline}
use Rattle.go_typexpr_core.specs.entry.Entries.{Meanings, file_at, package_meanings}
use Rattle.go_declared_core.specs.Written.{WrittenOf, decls_of, file_written, package_written}
use Rattle.go_inline_core.specs.Types.{InlineOf}
use Rattle.go_value_core.specs.Package.{PlacedOf, placed, placed_in, placed_decls}
use Rattle.go_package_values.specs.Laws.{decl_placed, DeclsStandAlike}

-- those of a file
one_file : (mean : Meaning) (f : InFile) (es : List Entry) (types : List (ℕ × InlineOf)) (ds : List TopDeclTree) → decls_of (file_written mean f es ds) ≡ map decl_placed (map (placed f.file types) ds)
one_file mean f es types [] = refl
one_file mean f es types (d ∷ ds) = ap (λ l. decl_placed (placed f.file types d) ∷ l) (one_file mean f es types ds)

abbrev written_there : Meanings → List ℕ → List Entry → ℕ × FileOutline → List WrittenOf
written_there means path es p = file_written (means p.0) (file_at path p.0 p.1) es p.1.decls

abbrev placed_there : List (List (ℕ × InlineOf)) → ℕ × FileOutline → List PlacedOf
placed_there types p = placed_in p.0 (slice_index_or types p.0 []) p.1

all_files : (means : Meanings) (path : List ℕ) (es : List Entry) (types : List (List (ℕ × InlineOf))) (ps : List (ℕ × FileOutline))
    → decls_of (flat_map (written_there means path es) ps) ≡ map decl_placed (flat_map (placed_there types) ps)
all_files means path es types [] = refl
all_files means path es types (p ∷ ps) =
    map-append (λ w. w.decl) (written_there means path es p) (flat_map (written_there means path es) ps)
    ∙ (ap (λ l. l ++ decls_of (flat_map (written_there means path es) ps)) (one_file (means p.0) (file_at path p.0 p.1) es (slice_index_or types p.0 []) p.1.decls)
    ∙ (ap (λ l. map decl_placed (placed_there types p) ++ l) (all_files means path es types ps)
    ∙ sym (map-append decl_placed (placed_there types p) (flat_map (placed_there types) ps))))

pub decls_stand_alike : DeclsStandAlike
decls_stand_alike = record {
  same = λ shows path b es types os. all_files (package_meanings shows path b) path es types (enumerate_from 0 os);
  as_many = λ shows path b es types os.
      sym (length-map (package_written shows path b es os) (λ w. w.decl))
      ∙ (ap length (all_files (package_meanings shows path b) path es types (enumerate_from 0 os))
      ∙ length-map (placed_decls types os) decl_placed);
}
