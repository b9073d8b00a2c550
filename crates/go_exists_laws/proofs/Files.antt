-- Texts make a workspace: each is read, and names and paths stay as they are.
use Rattle.std.proofs.Common.{◌≡◌, ℕ, suc, ◌<◌, List, [], ◌∷◌, All, length, map, refl, sym, ap, subst, arith}
use Rattle.std.specs.List.Sorted.{IsStrictlySortedBy}
use Rattle.std.specs.Map.{keys_of}
use Rattle.std.proofs.lemmas.List.Elements.{All-cons, All-head, All-nil, All-tail, All-weaker}
use Rattle.go_graph_core.specs.Sources.{IsPlacedSource, IsRead, SourceModel, source}
use Rattle.go_graph_core.specs.Workspaces.{AreAllRead, IsPackage, PackageModel, by_bytes, names_of_files, texts_of_files}
use Rattle.go_graph_core.proofs.Contents.{placed_content}
use Rattle.go_exists_laws.specs.Texts.{IsText, IsWritten, TextsMakeAWorkspace, Written, written_of}
use Rattle.go_exists_laws.proofs.Contents.{each_text_has_a_content}

abbrev IsFile : List ℕ × List ℕ → Type 0
IsFile f = IsText f.1

-- files of these names and texts, each read
record FilesOf (fs : List (List ℕ × List ℕ)) : Type 0 where
  sources : List SourceModel
  read : All IsRead sources
  texts : texts_of_files sources ≡ fs
  names : names_of_files sources ≡ keys_of fs
  many : length sources ≡ length fs

files_of : (fs : List (List ℕ × List ℕ)) → All IsFile fs → FilesOf fs
files_of [] all = record { sources = []; read = All-nil IsRead; texts = refl; names = refl; many = refl }
files_of (f ∷ fs) all =
    let c = each_text_has_a_content f.1 (All-head IsFile f fs all) in
    let rest = files_of fs (All-tail IsFile f fs all) in
    let s : SourceModel = source f.0 f.1 c.0 in
    record {
      sources = s ∷ rest.sources;
      read = All-cons IsRead s rest.sources c.1 rest.read;
      texts = ap (λ (l : List (List ℕ × List ℕ)). f ∷ l) rest.texts;
      names = ap (λ (l : List (List ℕ)). f.0 ∷ l) rest.names;
      many = ap suc rest.many;
    }

placed : (ss : List SourceModel) → All IsRead ss → All IsPlacedSource ss
placed ss read = All-weaker IsRead IsPlacedSource (λ s is. placed_content s.text s.content is) ss read

package_of : (w : Written) → IsWritten w → (fs : FilesOf w.1) → IsPackage (w.0, fs.sources)
package_of w is fs = record {
  path = is.path;
  some = (let some = is.some in let many = fs.many in omega (arith, some, many));
  order = subst (IsStrictlySortedBy by_bytes) (sym fs.names) is.order;
  contents = placed fs.sources fs.read;
}

-- packages of these paths, names and texts
record PackagesOf (ws : List Written) : Type 0 where
  packages : List PackageModel
  are : All IsPackage packages
  read : All AreAllRead packages
  written : written_of packages ≡ ws
  paths : keys_of packages ≡ keys_of ws

packages_of : (ws : List Written) → All IsWritten ws → PackagesOf ws
packages_of [] all = record { packages = []; are = All-nil IsPackage; read = All-nil AreAllRead; written = refl; paths = refl }
packages_of (w ∷ ws) all =
    let is : IsWritten w = All-head IsWritten w ws all in
    let fs = files_of w.1 is.texts in
    let rest = packages_of ws (All-tail IsWritten w ws all) in
    let p : PackageModel = (w.0, fs.sources) in
    record {
      packages = p ∷ rest.packages;
      are = All-cons IsPackage p rest.packages (package_of w is fs) rest.are;
      read = All-cons AreAllRead p rest.packages fs.read rest.read;
      written = (λ i. (w.0, fs.texts i) ∷ rest.written i);
      paths = ap (λ (l : List (List ℕ)). w.0 ∷ l) rest.paths;
    }

pub texts_make_a_workspace : TextsMakeAWorkspace
texts_make_a_workspace ws are =
    let all = packages_of ws are.packages in
    (all.packages, record { well = record { order = subst (IsStrictlySortedBy by_bytes) (sym all.paths) are.order; packages = all.are }; read = all.read }, all.written)
