-- What imports come to stays the same when more blocks are made.
use Rattle.std.proofs.Common.{◌≡◌, ℕ, suc, List, [], ◌∷◌, Option, Some}
use Rattle.std.specs.Prelude.{slice_get}
use Rattle.go_tree_nodes.specs.Trees.{FileTree}
use Rattle.go_graph_core.specs.declared.imports.ImportAt.{ImportAt}
use Rattle.go_graph_core.specs.declared.imports.ImportOutcome.{ImportOutcome}
use Rattle.go_graph_core.specs.declared.imports.ImportOutcome.TheVariants as outcomes
use Rattle.go_graph_core.specs.Packages.{Trees, trees_of}
use Rattle.go_graph_core.specs.Workspaces.{PackageModel}
use Rattle.go_graph_core.specs.Lists.{AllNumbered}
use Rattle.go_block_core.specs.declared.imports.Imported.{Imported}
use Rattle.go_block_core.specs.declared.imports.Imported.TheVariants as given
use Rattle.go_block_core.specs.Exports.{ExportsModel}
use Rattle.go_block_core.specs.Blocks.{BlocksModel}
use Rattle.go_block_core.specs.Naming.{IsGiven, AreInFile, AreInPackage, import_at, file_specs}
use Rattle.go_block_core.specs.All.{IsShown, IsImported, AreBlocksAt}

-- blocks that are there stay there
abbrev pub Grows : List (Option BlocksModel) → List (Option BlocksModel) → Type 0
Grows bs cs = (i : ℕ) (b : BlocksModel) → slice_get bs i ≡ Some (Some b) → slice_get cs i ≡ Some (Some b)

numbered_weaker : {A B : Type 0} (R S : ℕ → A → B → Type 0) → ((k : ℕ) (x : A) (y : B) → R k x y → S k x y) → (k : ℕ) (xs : List A) (ys : List B) → AllNumbered R k xs ys → AllNumbered S k xs ys
numbered_weaker R S f k [] [] h = h
numbered_weaker R S f k [] (y ∷ ys) h = absurd h
numbered_weaker R S f k (x ∷ xs) [] h = absurd h
numbered_weaker R S f k (x ∷ xs) (y ∷ ys) h = (f k x y h.0, numbered_weaker R S f (suc k) xs ys h.1)

-- what is given by one list is given by another that shows the same
pub given_weaker : (P Q : ℕ → ExportsModel → Type 0) → ((n : ℕ) (e : ExportsModel) → P n e → Q n e) → (o : ImportOutcome) (i : Imported) → IsGiven P o i → IsGiven Q o i
given_weaker P Q f (outcomes.«Package» n) (given.«Package» e) h = f n e h
given_weaker P Q f (outcomes.«Package» n) (given.Refused rule) h = absurd h
given_weaker P Q f (outcomes.Refused rule) (given.«Package» e) h = absurd h
given_weaker P Q f (outcomes.Refused rule) (given.Refused other) h = h

-- what holds at each import holds where less is asked
pub package_weaker : (P Q : ImportAt → Imported → Type 0) → ((at : ImportAt) (i : Imported) → P at i → Q at i) → (number : ℕ) (ts : Trees) (files : List (List Imported)) → AreInPackage P number ts files → AreInPackage Q number ts files
package_weaker P Q f number ts files h =
    numbered_weaker (λ file t is. AreInFile P number file t.1 is) (λ file t is. AreInFile Q number file t.1 is)
    (λ file t is r. numbered_weaker (λ n spec i. P (import_at number file n) i) (λ n spec i. Q (import_at number file n) i) (λ n spec i s. f (import_at number file n) i s) 0 (file_specs t.1) is r)
    0 ts files h

module _ (ps : List PackageModel) (bs cs : List (Option BlocksModel)) (grows : Grows bs cs) where
  pub shown_grow : (n : ℕ) (e : ExportsModel) → IsShown ps bs n e → IsShown ps cs n e
  shown_grow n e h = record { path = h.path; files = h.files; numbered = h.numbered; blocks = h.blocks; there = grows n h.blocks h.there; is = h.is }

  imported_grow : (at : ImportAt) (i : Imported) → IsImported ps bs at i → IsImported ps cs at i
  imported_grow at i h = record { outcome = h.outcome; judged = h.judged; shown = given_weaker (IsShown ps bs) (IsShown ps cs) shown_grow h.outcome i h.shown }

  pub blocks_grow : (number : ℕ) (b : BlocksModel) → AreBlocksAt ps bs number b → AreBlocksAt ps cs number b
  blocks_grow number b h = record {
    path = h.path;
    files = h.files;
    numbered = h.numbered;
    imported = h.imported;
    given = package_weaker (IsImported ps bs) (IsImported ps cs) imported_grow number (trees_of h.files) h.imported h.given;
    blocks = h.blocks;
  }
