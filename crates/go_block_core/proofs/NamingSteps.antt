-- The steps of naming the imports of a package.
use Rattle.std.proofs.Common.{◌≡◌, ℕ, ◌+◌, ◌<◌, ◌≤◌, zero, suc, Vec, Bor, List, [], ◌∷◌, ◌++◌, map, length, get_or, take, Option, Some, None, refl, sym, ap, subst, ◌∙◌, arith}
use Rattle.std.specs.Prelude.{slice_get, option_map}
use Rattle.std.specs.List.{AllZip}
use Rattle.std.specs.Global.{Global}
use Rattle.std.proofs.lemmas.List.{map-append, length-map, get_or-map, take_all}
use Rattle.std.proofs.lemmas.Option.{slice_get-map, slice_get_read, slice_get_within}
use Rattle.go_tree_nodes.specs.declared.files.ImportSpec.{ImportSpec}
use Rattle.go_tree_nodes.specs.Trees.{FileTree, ImportSpecTree}
use Rattle.go_graph_core.specs.Packages.{Trees}
use Rattle.go_graph_core.proofs.Zips.{zip_at, zip_length}
use Rattle.go_block_core.specs.declared.imports.Imported.{Imported}
use Rattle.go_block_core.specs.declared.imports.NamedImport.{NamedImport}
use Rattle.go_block_core.specs.Holding.{imports_in}
use Rattle.go_block_core.specs.Naming.{file_specs, named_import, specs_named, file_named, package_named, imported_in, HaveOneEach}
use Rattle.go_block_core.specs.mirrors.Shown.{spec_shown}

-- one import more

named_next : (specs : List ImportSpecTree) (is : List Imported) (n : ℕ) (s : ImportSpecTree) (i : Imported) → slice_get specs n ≡ Some s → slice_get is n ≡ Some i → specs_named (take (suc n) specs) (take (suc n) is) ≡ specs_named (take n specs) (take n is) ++ named_import s i ∷ []
named_next [] is n s i at there = cc
named_next (x ∷ specs) [] n s i at there = cc
named_next (x ∷ specs) (y ∷ is) zero s i at there =
    let same : x ≡ s = (let e : Some x ≡ Some s = at in cc) in
    let alike : y ≡ i = (let e : Some y ≡ Some i = there in cc) in
    ap (λ z. named_import z y ∷ []) same ∙ ap (λ z. named_import s z ∷ []) alike
named_next (x ∷ specs) (y ∷ is) (suc n) s i at there = ap (λ l. named_import x y ∷ l) (named_next specs is n s i at there)

pub import_more : (specs : List (Bor ImportSpec)) (is : List Imported) (n : ℕ) (spec : Bor ImportSpec) (i : Imported) (old new : List NamedImport) → n < length specs → n < length is → spec ≡ get_or specs n spec → i ≡ get_or is n i → old ≡ specs_named (take n (map spec_shown specs)) (take n is) → new ≡ old ++ named_import (spec_shown spec) i ∷ [] → new ≡ specs_named (take (n + 1) (map spec_shown specs)) (take (n + 1) is)
import_more specs is n spec i old new lt below at there before e =
    let here : slice_get (map spec_shown specs) n ≡ Some (spec_shown spec) = slice_get-map spec_shown specs n ∙ ap (option_map spec_shown) (slice_get_read specs (length specs) n spec refl lt at) in
    let given : slice_get is n ≡ Some i = slice_get_read is (length is) n i refl below there in
    let more : n + 1 ≡ suc n = omega arith in
    e ∙ (ap (λ l. l ++ named_import (spec_shown spec) i ∷ []) before
    ∙ (sym (named_next (map spec_shown specs) is n (spec_shown spec) i here given)
    ∙ ap (λ k. specs_named (take k (map spec_shown specs)) (take k is)) (sym more)))

-- all imports
pub all_imports : (specs : List (Bor ImportSpec)) (is : List Imported) (n : ℕ) (all : List NamedImport) → length specs ≤ n → length specs ≡ length is → all ≡ specs_named (take n (map spec_shown specs)) (take n is) → all ≡ specs_named (map spec_shown specs) is
all_imports specs is n all le count so_far =
    so_far
    ∙ (ap (λ l. specs_named l (take n is)) (take_all n (map spec_shown specs) (omega (arith, length-map specs spec_shown)))
    ∙ ap (specs_named (map spec_shown specs)) (take_all n is (omega (arith, le, count))))

-- one file more

file_next : (ts : Trees) (files : List (List Imported)) (n : ℕ) (f : FileTree) (is : List Imported) → option_map (λ t. t.1) (slice_get ts n) ≡ Some f → slice_get files n ≡ Some is → package_named (take (suc n) ts) (take (suc n) files) ≡ package_named (take n ts) (take n files) ++ file_named f is ∷ []
file_next [] files n f is at there = cc
file_next (t ∷ ts) [] n f is at there = cc
file_next (t ∷ ts) (l ∷ files) zero f is at there =
    let same : t.1 ≡ f = (let e : Some t.1 ≡ Some f = at in cc) in
    let alike : l ≡ is = (let e : Some l ≡ Some is = there in cc) in
    ap (λ x. file_named x l ∷ []) same ∙ ap (λ x. file_named f x ∷ []) alike
file_next (t ∷ ts) (l ∷ files) (suc n) f is at there = ap (λ x. file_named t.1 l ∷ x) (file_next ts files n f is at there)

pub given_at : (files : List (Vec Imported Global)) (n : ℕ) (v : Vec Imported Global) → n < length files → v ≡ get_or files n v → slice_get (map imported_in files) n ≡ Some v.items
given_at files n v lt at = slice_get-map imported_in files n ∙ ap (option_map imported_in) (slice_get_read files (length files) n v refl lt at)

pub file_more : (ts : Trees) (files : List (Vec Imported Global)) (n : ℕ) (f : FileTree) (v : Vec Imported Global) (w : Vec NamedImport Global) (old new : List (Vec NamedImport Global)) → n < length files → option_map (λ t. t.1) (slice_get ts n) ≡ Some f → v ≡ get_or files n v → map imports_in old ≡ package_named (take n ts) (take n (map imported_in files)) → w.items ≡ file_named f v.items → new ≡ old ++ w ∷ [] → map imports_in new ≡ package_named (take (n + 1) ts) (take (n + 1) (map imported_in files))
file_more ts files n f v w old new lt at is before here e =
    let more : n + 1 ≡ suc n = omega arith in
    ap (map imports_in) e
    ∙ (map-append imports_in old (w ∷ [])
    ∙ (ap (λ l. l ++ w.items ∷ []) before
    ∙ (ap (λ l. package_named (take n ts) (take n (map imported_in files)) ++ l ∷ []) here
    ∙ (sym (file_next ts (map imported_in files) n f v.items at (given_at files n v lt is))
    ∙ ap (λ k. package_named (take k ts) (take k (map imported_in files))) (sym more)))))

-- all files
pub all_files : (ts : Trees) (files : List (List Imported)) (n : ℕ) (all : List (List NamedImport)) → length ts ≤ n → HaveOneEach ts files → all ≡ package_named (take n ts) (take n files) → all ≡ package_named ts files
all_files ts files n all le counts so_far =
    so_far
    ∙ (ap (λ l. package_named l (take n files)) (take_all n ts le)
    ∙ ap (package_named ts) (take_all n files (omega (arith, le, zip_length (λ (t : List ℕ × FileTree) (is : List Imported). length (file_specs t.1) ≡ length is) ts files counts))))

-- the imports of a file are as many as are given
pub count_at : (ts : Trees) (files : List (List Imported)) (n : ℕ) (f : FileTree) (is : List Imported) → HaveOneEach ts files → option_map (λ t. t.1) (slice_get ts n) ≡ Some f → slice_get files n ≡ Some is → length (file_specs f) ≡ length is
count_at [] files n f is counts at there = cc
count_at (t ∷ ts) [] n f is counts at there = cc
count_at (t ∷ ts) (l ∷ files) zero f is counts at there =
    let same : t.1 ≡ f = (let e : Some t.1 ≡ Some f = at in cc) in
    let alike : l ≡ is = (let e : Some l ≡ Some is = there in cc) in
    ap (λ x. length (file_specs x)) (sym same) ∙ (counts.0 ∙ ap length alike)
count_at (t ∷ ts) (l ∷ files) (suc n) f is counts at there = count_at ts files n f is counts.1 at there
