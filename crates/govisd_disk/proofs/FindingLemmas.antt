-- What comes of folders that were read.
use Rattle.std.proofs.Common.{◌≡◌, ℕ, List, Option, Result, Ok, Err, IfOk, subst}
use Rattle.go_path_core.specs.Path.{IsPath}
use Rattle.govisd_disk.specs.declared.finding.ReadFolder.{ReadFolder}
use Rattle.govisd_disk.specs.Finds.{ByRoot, IsOfFolders, IsReadFor, IsReadNamed, IsReadRoot, read_shown}
use Rattle.govisd_disk.specs.Notes.{passed_line}
use Rattle.govisd_disk.specs.Puts.{FolderModel}
use Rattle.govisd_disk.specs.Scopes.{ScopeModel}

pub of_folders : {E : Type 0} (r : Result ReadFolder E) (folder own : List ℕ) (scope : ScopeModel) (found : List FolderModel) (left passed : List ℕ) (files folders : ℕ) → IsPath own → passed ≡ passed_line files folders → IfOk r (λ x. IsReadFor folder own scope found left passed (read_shown x)) → IfOk r (λ x. IsOfFolders folder own scope (read_shown x))
of_folders (Ok x) folder own scope found left passed files folders path is h =
    record { path = path; found = found; left = left; files = files; folders = folders; read = subst (λ p. IsReadFor folder own scope found left p (read_shown x)) is h }
of_folders (Err e) folder own scope found left passed files folders path is h = tt

-- of a folder at some path, and of a file in it
pub by_root : {E : Type 0} (r : Result ReadFolder E) (folder root file : List ℕ) (given : Option (List ℕ)) → IfOk r (λ x. IsReadRoot folder root file given (read_shown x)) → IfOk r (λ x. IsReadNamed folder given (read_shown x))
by_root (Ok x) folder root file given h = ByRoot root file h
by_root (Err e) folder root file given h = tt
