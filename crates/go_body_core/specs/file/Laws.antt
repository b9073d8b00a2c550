-- What holds of files.
--
-- docs/RULES.md, "Occurrences", "Declarations outside functions". The Go specification, "Declarations and scope".
use Rattle.std.specs.Prelude.{◌≡◌, List, ◌∷◌, ◌++◌, length, map, Contains}
use Rattle.go_tree_nodes.specs.Trees.{FuncTree, TopTree, FileTree}
use Rattle.go_tree_nodes.specs.Rules.{Wf_file}
use Rattle.go_tree_core.specs.Occurrences.{file_occs}
use Rattle.go_block_core.specs.declared.imports.Imported.{Imported}
use Rattle.go_block_core.specs.Naming.{file_specs}
use Rattle.go_local_core.specs.Tables.{IsFuncPlaced}
use Rattle.go_expr_core.specs.Laws.{use_place, occurrence_place}
use Rattle.go_body_core.specs.function.Stands.{FileStand}
use Rattle.go_body_core.specs.file.Files.{decl_uses, decl_faults, decl_locals, tops_uses, tops_faults, tops_locals, file_uses}
use Rattle.go_body_core.specs.file.Stands.{file_funcs}
use Rattle.go_tree_nodes.specs.Spelling.{IsPlaced}

-- what is noted of a file of the grammar, of whose imports each comes to something, stands where its occurrences stand, with their roles and in
-- their order: each has exactly one outcome, and no other place has one
abbrev pub FilesHaveOccurrences : Type 0
FilesHaveOccurrences =
    (st : FileStand) (imports : List Imported) (f : FileTree) → Wf_file f → length (file_specs f) ≡ length imports
    → map use_place (file_uses st imports f) ≡ map occurrence_place (file_occs f)

-- a declaration adds the same, whatever stands before it and behind it
pub record DeclarationsStandAlone : Type 0 where
  pub uses : (st : FileStand) (front rest : List TopTree) (d : TopTree) → tops_uses st (front ++ d ∷ rest) ≡ tops_uses st front ++ (decl_uses st d.decl ++ tops_uses st rest)
  pub faults : (st : FileStand) (front rest : List TopTree) (d : TopTree) → tops_faults st (front ++ d ∷ rest) ≡ tops_faults st front ++ (decl_faults st d.decl ++ tops_faults st rest)
  pub locals : (st : FileStand) (front rest : List TopTree) (d : TopTree) → tops_locals st (front ++ d ∷ rest) ≡ tops_locals st front ++ (decl_locals st d.decl ++ tops_locals st rest)

-- the tokens of each function of a file follow one another where those of the file do
abbrev pub FunctionsArePlaced : Type 0
FunctionsArePlaced = (f : FileTree) → IsPlaced f → (g : FuncTree) → Contains (file_funcs f) g → IsFuncPlaced g
