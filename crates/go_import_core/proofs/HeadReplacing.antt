-- A replacement leaves the files of the paths outside its module, and what the same files outside modules say of two packages.
use Rattle.std.proofs.Common.{◌≡◌, ℕ, Bool, true, false, not, cond, List, [], ◌∷◌, Some, None, refl, sym, ap, ◌∙◌}
use Rattle.std.specs.Prelude.{slice_get}
use Rattle.std.specs.BTreeMap.{insert_entry, is_at}
use Rattle.std.specs.Map.{keys_of}
use Rattle.std.proofs.lemmas.Cmp.{eq_by_cmp_equiv, nat_list_cmp_total}
use Rattle.std.proofs.lemmas.Map.Entries.{lookup_from_place}
use Rattle.std.proofs.lemmas.Map.Keys.{IsDistinct-from_sorted}
use Rattle.std.proofs.lemmas.Map.Text.{is_eq-slice_cmp}
use Rattle.std.proofs.lemmas.Slice.Eq.{bytes_eq-Decides}
use Rattle.go_graph_core.specs.Sources.{SourceModel}
use Rattle.go_graph_core.specs.Workspaces.{PackageModel, IsWorkspace, by_bytes, files_at, is_path_inside, packages_inside, packages_outside, put_all, replaced}
use Rattle.go_graph_core.proofs.Keeping.{found_outside, found_put}
use Rattle.go_import_core.specs.head.Outside.{AreSameOutside, is_inside_any}
use Rattle.go_import_core.specs.head.mirrors.Marking.{AreSameTwoAt}

pub is_same : (a b : List ℕ) → is_at (by_bytes a) b ≡ true → a ≡ b
is_same a b h = (bytes_eq-Decides a b).0 (sym (is_eq-slice_cmp a b) ∙ h)

-- a path inside a module is none outside it
apart : (own a b : List ℕ) (s : Bool) → is_at (by_bytes a) b ≡ s → is_path_inside own b ≡ true → is_path_inside own a ≡ false → s ≡ false
apart own a b false at inside outside = refl
apart own a b true at inside outside = absurd (let no : true ≡ false = sym inside ∙ ap (is_path_inside own) (sym (is_same a b at)) ∙ outside in cc)

-- packages inside a module that are put among others
put_inside : (own : List ℕ) (base from : List PackageModel) (a : List ℕ) → is_path_inside own a ≡ false → files_at (put_all base (packages_inside own from)) a ≡ files_at base a
put_inside own base [] a outside = refl
put_inside own base (p ∷ from) a outside = step (is_path_inside own p.0) refl (put_inside own base from a outside) (put_inside own (insert_entry by_bytes base p.0 p.1) from a outside)
  where
    step : (b : Bool) → is_path_inside own p.0 ≡ b → files_at (put_all base (packages_inside own from)) a ≡ files_at base a → files_at (put_all (insert_entry by_bytes base p.0 p.1) (packages_inside own from)) a ≡ files_at (insert_entry by_bytes base p.0 p.1) a
        → files_at (put_all base (cond b (p ∷ packages_inside own from) (packages_inside own from))) a ≡ files_at base a
    step false e passed put = passed
    step true e passed put =
        put
        ∙ found_put base p.0 p.1 a
        ∙ ap (λ s. cond s (Some p.1) (files_at base a)) (apart own a p.0 (is_at (by_bytes a) p.0) refl e outside)

-- a replacement leaves the files of each path outside its module
pub replaced_outside : (own : List ℕ) (old from : List PackageModel) (path : List ℕ) → is_path_inside own path ≡ false → files_at (replaced own old from) path ≡ files_at old path
replaced_outside own old from path outside =
    put_inside own (packages_outside own old) from path outside
    ∙ found_outside own path old
    ∙ ap (λ b. cond (not b) (files_at old path) None) outside

-- the files of the package of a number are those of its path
found_at : (ps : List PackageModel) (i : ℕ) (path : List ℕ) (fs : List SourceModel) → IsWorkspace ps → slice_get ps i ≡ Some (path, fs) → files_at ps path ≡ Some fs
found_at ps i path fs well at = lookup_from_place (eq_by_cmp_equiv nat_list_cmp_total) ps i path fs (IsDistinct-from_sorted by_bytes (keys_of ps) well.order) at

-- where the files of each path outside modules stay
pub same_outside : (modules : List (List ℕ)) (ps qs : List PackageModel) → IsWorkspace ps → IsWorkspace qs → ((path : List ℕ) → is_inside_any modules path ≡ false → files_at qs path ≡ files_at ps path) → AreSameOutside modules ps qs
same_outside modules ps qs one other stays = record { each = stays }

-- two packages of one number
pub same_two : (modules : List (List ℕ)) (ps qs : List PackageModel) (k : ℕ) (q : PackageModel) → IsWorkspace ps → IsWorkspace qs → AreSameOutside modules ps qs → slice_get qs k ≡ Some q → AreSameTwoAt modules ps k q
same_two modules ps qs k q one other same there p here paths outside =
    let both : Some p.1 ≡ Some q.1 = sym (found_at ps k q.0 p.1 one (here ∙ ap (λ (path : List ℕ). Some (path, p.1)) paths)) ∙ sym (same.each q.0 outside) ∙ found_at qs k q.0 q.1 other there in
    cc

pub one_package : (p q : PackageModel) → p.0 ≡ q.0 → p.1 ≡ q.1 → p ≡ q
one_package p q paths files i = (paths i, files i)

pub untrue : (b : Bool) → not b ≡ true → b ≡ false
untrue true e = absurd cc
untrue false e = refl
