-- Files with the same heads have as many imports, and what these come to is said by their places.
use Rattle.std.proofs.Common.{◌≡◌, ℕ, suc, List, [], ◌∷◌, length, map, Some, None, Result, Ok, Err, refl, sym, ap, ◌∙◌, arith}
use Rattle.std.proofs.lemmas.List.{length-map}
use Rattle.go_tree_nodes.specs.Terminals.{value_of}
use Rattle.go_tree_nodes.specs.Trees.{FileTree}
use Rattle.go_graph_core.specs.parse_core.declared.error.SynFault.{SynFault}
use Rattle.go_graph_core.specs.declared.imports.ImportAt.{ImportAt}
use Rattle.go_graph_core.specs.Imports.{content_texts, texts_of}
use Rattle.go_graph_core.specs.Lists.{AllNumbered}
use Rattle.go_graph_core.specs.Packages.{Trees, trees_of}
use Rattle.go_graph_core.specs.Sources.{SourceModel, clause_in, source}
use Rattle.go_names_core.specs.block_core.declared.imports.Imported.{Imported}
use Rattle.go_names_core.specs.block_core.Naming.{AreInFile, AreInPackage, file_specs, import_at}
use Rattle.go_names_core.specs.block_core.NamingLemmas.{same_texts}
use Rattle.go_import_core.specs.head.Heads.{head_of_file, name_in}

-- how many imports each tree has
abbrev pub counts : Trees → List ℕ
counts ts = map (λ t. length (file_specs t.1)) ts

count_texts : (f : FileTree) → length (file_specs f) ≡ length (texts_of f.imports)
count_texts f = sym (ap length (same_texts f.imports) ∙ length-map (file_specs f) (λ i. value_of i.path))

front : (n t m u : List ℕ) (c d : Result FileTree SynFault) (fs gs : List SourceModel) → name_in (clause_in c) ≡ name_in (clause_in d) → content_texts c ≡ content_texts d → counts (trees_of fs) ≡ counts (trees_of gs)
    → counts (trees_of (source n t c ∷ fs)) ≡ counts (trees_of (source m u d ∷ gs))
front n t m u (Ok f) (Ok g) fs gs name texts rest = ap (λ k. k ∷ counts (trees_of fs)) (count_texts f ∙ (ap length texts ∙ sym (count_texts g))) ∙ ap (λ l. length (file_specs g) ∷ l) rest
front n t m u (Err e) (Err other) fs gs name texts rest = rest
front n t m u (Ok f) (Err e) fs gs name texts rest = absurd (let no : Some f.name.name ≡ None = name in cc)
front n t m u (Err e) (Ok g) fs gs name texts rest = absurd (let no : None ≡ Some g.name.name = name in cc)

pub same_counts : (fs gs : List SourceModel) → map head_of_file fs ≡ map head_of_file gs → counts (trees_of fs) ≡ counts (trees_of gs)
same_counts [] [] e = refl
same_counts [] (g ∷ gs) e = absurd cc
same_counts (f ∷ fs) [] e = absurd cc
same_counts (f ∷ fs) (g ∷ gs) e =
    let first : head_of_file f ≡ head_of_file g = (let both : head_of_file f ∷ map head_of_file fs ≡ head_of_file g ∷ map head_of_file gs = e in cc) in
    let rest : map head_of_file fs ≡ map head_of_file gs = (let both : head_of_file f ∷ map head_of_file fs ≡ head_of_file g ∷ map head_of_file gs = e in cc) in
    front f.name f.text g.name g.text f.content g.content fs gs (ap (λ h. h.0) first) (ap (λ h. h.1) first) (same_counts fs gs rest)

-- what imports come to

any_item : {A B Y : Type 0} (Q : ℕ → Y → Type 0) (k : ℕ) (xs : List A) (zs : List B) (ys : List Y) → length xs ≡ length zs → AllNumbered (λ n x y. Q n y) k xs ys → AllNumbered (λ n z y. Q n y) k zs ys
any_item Q k [] [] ys e h = h
any_item Q k [] (z ∷ zs) ys e h = absurd (omega (arith, e))
any_item Q k (x ∷ xs) [] ys e h = absurd (omega (arith, e))
any_item Q k (x ∷ xs) (z ∷ zs) [] e h = absurd h
any_item Q k (x ∷ xs) (z ∷ zs) (y ∷ ys) e h = (h.0, any_item Q (suc k) xs zs ys (omega (arith, e)) h.1)

any_trees : (P : ImportAt → Imported → Type 0) (number k : ℕ) (ts us : Trees) (is : List (List Imported)) → counts ts ≡ counts us → AllNumbered (λ file t l. AreInFile P number file t.1 l) k ts is → AllNumbered (λ file t l. AreInFile P number file t.1 l) k us is
any_trees P number k [] [] is e h = h
any_trees P number k [] (u ∷ us) is e h = absurd cc
any_trees P number k (t ∷ ts) [] is e h = absurd cc
any_trees P number k (t ∷ ts) (u ∷ us) [] e h = absurd h
any_trees P number k (t ∷ ts) (u ∷ us) (i ∷ is) e h =
    let first : length (file_specs t.1) ≡ length (file_specs u.1) = (let both : length (file_specs t.1) ∷ counts ts ≡ length (file_specs u.1) ∷ counts us = e in cc) in
    let rest : counts ts ≡ counts us = (let both : length (file_specs t.1) ∷ counts ts ≡ length (file_specs u.1) ∷ counts us = e in cc) in
    (any_item (λ n x. P (import_at number k n) x) 0 (file_specs t.1) (file_specs u.1) i first h.0, any_trees P number (suc k) ts us is rest h.1)

-- files with as many imports may stand for others
pub in_package : (P : ImportAt → Imported → Type 0) (number : ℕ) (ts us : Trees) (is : List (List Imported)) → counts ts ≡ counts us → AreInPackage P number ts is → AreInPackage P number us is
in_package P number ts us is e h = any_trees P number 0 ts us is e h
