-- The steps of finding what the imports of a package come to.
use Rattle.std.proofs.Common.{◌≡◌, ℕ, ◌+◌, ◌<◌, zero, suc, Vec, List, [], ◌∷◌, ◌++◌, map, length, get_or, take, Some, refl, sym, ap, subst, ◌∙◌, arith}
use Rattle.std.specs.Prelude.{slice_get, option_map}
use Rattle.std.specs.List.{AllZip}
use Rattle.std.specs.Global.{Global}
use Rattle.std.proofs.lemmas.List.{map-append}
use Rattle.std.proofs.lemmas.Option.{slice_get_read}
use Rattle.go_tree_nodes.specs.Trees.{FileTree, ImportSpecTree}
use Rattle.go_graph_core.specs.declared.imports.ImportAt.{ImportAt}
use Rattle.go_graph_core.specs.Packages.{Trees}
use Rattle.go_graph_core.specs.Lists.{AllNumbered}
use Rattle.go_graph_core.proofs.Zips.{numbered_more, numbered_length}
use Rattle.go_block_core.specs.declared.imports.Imported.{Imported}
use Rattle.go_block_core.specs.Naming.{AreInFile, AreInPackage, HaveOneEach, import_at, file_specs, imported_in}

-- the item at a place
item_at : {A : Type 0} (xs : List A) (i : ℕ) → i < length xs → (x : A) × (x ≡ get_or xs i x)
item_at [] i lt = absurd (omega arith)
item_at (x ∷ xs) zero lt = (x, refl)
item_at (x ∷ xs) (suc i) lt = item_at xs i (omega arith)

-- one partner more
pub numbered_next : {A B : Type 0} (R : ℕ → A → B → Type 0) (xs : List A) (old new : List B) (i : ℕ) (y : B) → i < length xs → AllNumbered R 0 (take i xs) old → ((x : A) → slice_get xs i ≡ Some x → R i x y) → new ≡ old ++ y ∷ [] → AllNumbered R 0 (take (i + 1) xs) new
numbered_next R xs old new i y lt before here e =
    let x = item_at xs i lt in
    subst (λ l. AllNumbered R 0 (take (i + 1) xs) l) (sym e) (numbered_more R xs old i x.0 y lt x.1 before (here x.0 (slice_get_read xs (length xs) i x.0 refl lt x.1)))

-- one file more
pub given_more : (P : ImportAt → Imported → Type 0) (number : ℕ) (ts : Trees) (old new : List (Vec Imported Global)) (i : ℕ) (f : FileTree) (v : Vec Imported Global) → i < length ts → option_map (λ t. t.1) (slice_get ts i) ≡ Some f → AreInPackage P number (take i ts) (map imported_in old) → AreInFile P number i f v.items → new ≡ old ++ v ∷ [] → AreInPackage P number (take (i + 1) ts) (map imported_in new)
given_more P number ts old new i f v lt at before here e =
    numbered_next (λ file t is. AreInFile P number file t.1 is) ts (map imported_in old) (map imported_in new) i v.items lt before
    (λ t there. (let same : f ≡ t.1 = (let j : Some f ≡ Some t.1 = sym at ∙ ap (option_map (λ t. t.1)) there in cc) in subst (λ g. AreInFile P number i g v.items) same here))
    (ap (map imported_in) e ∙ map-append imported_in old (v ∷ []))

-- as many as there are
counts_from : (P : ImportAt → Imported → Type 0) (number k : ℕ) (ts : Trees) (files : List (List Imported)) → AllNumbered (λ file t is. AreInFile P number file t.1 is) k ts files → HaveOneEach ts files
counts_from P number k [] [] h = tt
counts_from P number k [] (is ∷ files) h = absurd h
counts_from P number k (t ∷ ts) [] h = absurd h
counts_from P number k (t ∷ ts) (is ∷ files) h = (numbered_length (λ n spec i. P (import_at number k n) i) 0 (file_specs t.1) is h.0, counts_from P number (suc k) ts files h.1)

pub have_one_each : (P : ImportAt → Imported → Type 0) (number : ℕ) (ts : Trees) (files : List (List Imported)) → AreInPackage P number ts files → HaveOneEach ts files
have_one_each P number ts files h = counts_from P number 0 ts files h

-- the tree at a place, with its file's name
pub tree_there : (ts : Trees) (i : ℕ) (f : FileTree) → option_map (λ t. t.1) (slice_get ts i) ≡ Some f → (t : List ℕ × FileTree) × (slice_get ts i ≡ Some t) × (t.1 ≡ f)
tree_there [] i f h = cc
tree_there (t ∷ ts) zero f h = (t, refl, (let e : Some t.1 ≡ Some f = h in cc))
tree_there (t ∷ ts) (suc i) f h = tree_there ts i f h
