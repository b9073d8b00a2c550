-- Files in which another stands in the place of one that is like it.
use Rattle.std.proofs.Common.{◌≡◌, refl, ℕ, zero, suc, List, [], ◌∷◌, map, length, ◌+◌, ◌<◌, arith, sym, ap, ap₂, subst, ◌∙◌, Result, Ok, Err, Some, None, get_or}
use Rattle.std.specs.Prelude.{HoldsAt, IfOk, slice_set}
use Rattle.std.proofs.lemmas.List.{length-append, length-map}
use Rattle.std.proofs.lemmas.Option.{get_or_from_slice_get}
use Rattle.go_declared_core.specs.block_core.Naming.{HaveOneEach, file_specs, specs_in, specs_of}
use Rattle.go_declared_core.specs.block_core.declared.imports.Imported.{Imported}
use Rattle.go_site_core.specs.graph_core.Packages.{IsTreeAt, trees_of}
use Rattle.go_site_core.specs.graph_core.Sources.{SourceModel, source}
use Rattle.go_site_core.specs.graph_core.Workspaces.{PackageModel, names_of_files}
use Rattle.go_parse_core.specs.declared.error.SynFault.{SynFault}
use Rattle.go_parse_core.specs.tree_core.CopiesRespelled.{import_with, import_spec_with, line_with, respelled_ident, respelled_file, specs_with}
use Rattle.go_tree_nodes.specs.declared.names.Ident.{Ident}
use Rattle.go_tree_nodes.specs.Trees.{FileTree, ImportTree, ImportSpecTree, Specs, Single, Group}
use Rattle.test_snapshot.specs.Likeness.{AreAlike, imports_of}

-- a file with another spelling of an identifier has as many imports

in_one : (h : ImportSpecTree → ImportSpecTree) (s : Specs ImportSpecTree) → length (specs_in (specs_with h s)) ≡ length (specs_in s)
in_one h (Single i) = refl
in_one h (Group first ls last) = length-map (map (line_with h) ls) (λ l. l.0) ∙ (length-map ls (line_with h) ∙ sym (length-map ls (λ l. l.0)))

in_all : (h : Ident → Ident) (is : List ImportTree) → length (specs_of (map (import_with h) is)) ≡ length (specs_of is)
in_all h [] = refl
in_all h (i ∷ is) =
    length-append (specs_in (specs_with (import_spec_with h) i.specs)) (specs_of (map (import_with h) is))
    ∙ (ap₂ (λ m n. m + n) (in_one (import_spec_with h) i.specs) (in_all h is) ∙ sym (length-append (specs_in i.specs) (specs_of is)))

pub as_many : (start : ℕ) (name : List ℕ) (f : FileTree) → length (file_specs (respelled_file start name f)) ≡ length (file_specs f)
as_many start name f = in_all (respelled_ident start name) f.imports

-- a file with such a tree is like the one whose tree it was
pub stays_alike : (ss : List SourceModel) (n start : ℕ) (name : List ℕ) (f g : FileTree) (s a : SourceModel) → IsTreeAt ss n f → s ≡ get_or ss n s → a.name ≡ s.name → a.content ≡ Ok g → g ≡ respelled_file start name f → HoldsAt (λ t. AreAlike t a) ss n
stays_alike ss n start name f g s a at is named holds spelled =
    let there : s ≡ at.0 = is ∙ get_or_from_slice_get ss n at.0 s at.1 in
    let same : a.name ≡ at.0.name = named ∙ ap (λ (t : SourceModel). t.name) there in
    let count : imports_of a.content ≡ imports_of at.0.content = ap imports_of holds ∙ (ap Some (ap (λ h. length (file_specs h)) spelled ∙ as_many start name f) ∙ sym (ap imports_of at.2)) in
    λ d. subst (λ t. AreAlike t a) (sym (get_or_from_slice_get ss n at.0 d at.1)) (same, count)

-- the names of files stay

pub names_stay : (ss : List SourceModel) (n : ℕ) (a : SourceModel) → n < length ss → HoldsAt (λ s. AreAlike s a) ss n → names_of_files (slice_set ss n a) ≡ names_of_files ss
names_stay [] n a lt h = absurd (omega (arith, lt))
names_stay (s ∷ ss) zero a lt h = ap (λ x. x ∷ names_of_files ss) (h s).0
names_stay (s ∷ ss) (suc n) a lt h = (let less : n < length ss = omega arith in ap (λ xs. s.name ∷ xs) (names_stay ss n a less h))

-- each file has as many imports as before

at_front : (n t m u : List ℕ) (c d : Result FileTree SynFault) (ss : List SourceModel) (is : List (List Imported)) → imports_of d ≡ imports_of c → HaveOneEach (trees_of (source n t c ∷ ss)) is → HaveOneEach (trees_of (source m u d ∷ ss)) is
at_front n t m u (Ok f) (Ok g) ss [] same h = h
at_front n t m u (Ok f) (Ok g) ss (i ∷ is) same h = (let e : length (file_specs g) ≡ length (file_specs f) = cc in (e ∙ h.0, h.1))
at_front n t m u (Err e) (Err e') ss is same h = h
at_front n t m u (Ok f) (Err e) ss is same h = absurd (let no : None ≡ Some (length (file_specs f)) = same in cc)
at_front n t m u (Err e) (Ok f) ss is same h = absurd (let no : Some (length (file_specs f)) ≡ None = same in cc)

behind : (n t : List ℕ) (c : Result FileTree SynFault) (ss rs : List SourceModel) → ((is : List (List Imported)) → HaveOneEach (trees_of ss) is → HaveOneEach (trees_of rs) is) → (is : List (List Imported)) → HaveOneEach (trees_of (source n t c ∷ ss)) is → HaveOneEach (trees_of (source n t c ∷ rs)) is
behind n t (Ok f) ss rs k [] h = h
behind n t (Ok f) ss rs k (i ∷ is) h = (h.0, k is h.1)
behind n t (Err e) ss rs k is h = k is h

pub imports_stay : (ss : List SourceModel) (n : ℕ) (a : SourceModel) → n < length ss → HoldsAt (λ s. AreAlike s a) ss n → (is : List (List Imported)) → HaveOneEach (trees_of ss) is → HaveOneEach (trees_of (slice_set ss n a)) is
imports_stay [] n a lt alike is h = absurd (omega (arith, lt))
imports_stay (s ∷ ss) zero a lt alike is h = at_front s.name s.text a.name a.text s.content a.content ss is (alike s).1 h
imports_stay (s ∷ ss) (suc n) a lt alike is h = (let less : n < length ss = omega arith in behind s.name s.text s.content ss (slice_set ss n a) (imports_stay ss n a less alike) is h)

-- a package that is made has as many imports in each file as its files have
pub made_stays : {E : Type 0} (r : Result PackageModel E) (path : List ℕ) (old new : List SourceModel) → IfOk r (λ p. p ≡ (path, new)) → ((is : List (List Imported)) → HaveOneEach (trees_of old) is → HaveOneEach (trees_of new) is) → IfOk r (λ p. (is : List (List Imported)) → HaveOneEach (trees_of old) is → HaveOneEach (trees_of p.1) is)
made_stays (Ok p) path old new e k = λ is h. subst (λ (q : PackageModel). HaveOneEach (trees_of q.1) is) (sym e) (k is h)
made_stays (Err e) path old new made k = tt
