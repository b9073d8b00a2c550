-- Which of two declarations of a package comes first.
--
-- The Go specification, "Package initialization": a variable that is declared in the first file is declared before each that is declared in the second.
use Rattle.std.specs.Prelude.{◌≡◌, ◌↔◌, ◌⊎◌, ℕ, ◌<◌, true, List, Some, slice_get, All}
use Rattle.std.specs.declared.cmp.Ordering.TheVariants as orders
use Rattle.go_tree_nodes.specs.Spelling.{IsPlaced}
use Rattle.go_tree_nodes.specs.Trees.{FileTree}
use Rattle.go_term_core.specs.decl_core.declared.keys.DeclRef.{DeclRef}
use Rattle.go_term_core.specs.decl_core.Laws.{HasPlace}
use Rattle.go_term_core.specs.decl_core.Order.{is_ref_before, place_cmp}
use Rattle.go_term_core.specs.decl_core.TopDecls.{TopDeclTree, kind_of_form, top_decls}

-- the two stand at one place of the package: one file, and one number there
abbrev pub IsOnePlace : DeclRef → DeclRef → Type 0
IsOnePlace a b = (a.file ≡ b.file) × (a.number ≡ b.number)

-- one of the three holds, and neither of the others
abbrev pub IsOneOfThree : Type 0 → Type 0 → Type 0 → Type 0
IsOneOfThree P Q R = (P × ¬ Q × ¬ R) ⊎ ((¬ P × Q × ¬ R) ⊎ (¬ P × ¬ Q × R))

-- a declaration of a file outside functions, as it is known in its package
abbrev pub ref_in : ℕ → TopDeclTree → DeclRef
ref_in file d = record { file = file; number = d.number; kind = kind_of_form d.form }

-- declarations have one order, and it is that in which they are written
pub record DeclarationsHaveOneOrder : Type 0 where
  -- what is before another by the test is less by the comparison
  pub same : (a b : DeclRef) → is_ref_before a b ≡ true ↔ place_cmp a b ≡ orders.Less
  -- what is behind another is greater
  pub behind : (a b : DeclRef) → is_ref_before b a ≡ true ↔ place_cmp a b ≡ orders.Greater
  -- those of one place are equal
  pub level : (a b : DeclRef) → IsOnePlace a b ↔ place_cmp a b ≡ orders.Equal
  -- none is before itself
  pub never_itself : (a : DeclRef) → ¬ (is_ref_before a a ≡ true)
  -- what is before one that is before a third is before the third
  pub carried_on : (a b c : DeclRef) → is_ref_before a b ≡ true → is_ref_before b c ≡ true → is_ref_before a c ≡ true
  -- of two, the first is before the second, or they stand at one place, or the second is before the first
  pub one_of_three : (a b : DeclRef) → IsOneOfThree (is_ref_before a b ≡ true) (IsOnePlace a b) (is_ref_before b a ≡ true)
  -- of two files, what the first declares is before what the second declares
  pub by_file : (a b : DeclRef) → a.file < b.file → is_ref_before a b ≡ true
  -- in one file, what stands first in the text is before what stands behind it
  pub by_text : (files : List FileTree) → All IsPlaced files → (a b : DeclRef) (m n : ℕ) → HasPlace files a m → HasPlace files b n → a.file ≡ b.file → is_ref_before a b ≡ true ↔ m < n
  -- of the declarations of one file outside functions, what the file's tree has first is before what it has behind it
  pub by_tree : (f : FileTree) (file j k : ℕ) (d e : TopDeclTree) → slice_get (top_decls f) j ≡ Some d → slice_get (top_decls f) k ≡ Some e → is_ref_before (ref_in file d) (ref_in file e) ≡ true ↔ j < k
