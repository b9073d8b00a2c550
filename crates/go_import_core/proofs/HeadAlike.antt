-- What follows from the heads of files and packages.
use Rattle.std.proofs.Common.{◌≡◌, ◌<◌, ℕ, List, [], ◌∷◌, length, map, Option, Some, None, Result, Ok, Err, All, refl, sym, ◌∙◌, ap}
use Rattle.std.specs.Prelude.{slice_get}
use Rattle.std.specs.Option.{option_map}
use Rattle.std.proofs.lemmas.List.{length-map}
use Rattle.std.proofs.lemmas.List.Elements.{All-nil, All-cons, All-head, All-tail}
use Rattle.std.proofs.lemmas.Option.{slice_get-map}
use Rattle.go_tree_nodes.specs.declared.names.Ident.{Ident}
use Rattle.go_graph_core.specs.declared.assembly.KFault.{KFault}
use Rattle.go_graph_core.specs.Imports.{AreFaulty, AreLibrary, AreMain, import_texts}
use Rattle.go_graph_core.specs.Packages.{Trees, Differs, HasNoClause, IsAssembled, IsAssembly, IsBlank, IsClause, IsNameOf, trees_of}
use Rattle.go_graph_core.specs.Sources.{SourceModel, clause_of}
use Rattle.go_graph_core.specs.Workspaces.{PackageModel}
use Rattle.go_graph_core.proofs.AssemblyLaws.{has_assembly, has_no_other_assembly}
use Rattle.go_import_core.specs.head.Heads.{head_of, head_of_file, name_in}

-- lists with the same images have items with the same images at each place
module _ {A B : Type 0} (v : A → B) where
  from_image : (x : A) (o : Option A) → option_map v o ≡ Some (v x) → (y : A) × (o ≡ Some y) × (v x ≡ v y)
  from_image x None e = absurd cc
  from_image x (Some y) e = (y, refl, (let both : Some (v y) ≡ Some (v x) = e in cc))

  pub same_at : (xs ys : List A) → map v xs ≡ map v ys → (k : ℕ) (x : A) → slice_get xs k ≡ Some x → (y : A) × (slice_get ys k ≡ Some y) × (v x ≡ v y)
  same_at xs ys e k x at = from_image x (slice_get ys k) (sym (slice_get-map v ys k) ∙ ap (λ l. slice_get l k) (sym e) ∙ slice_get-map v xs k ∙ ap (option_map v) at)

  pub same_length : (xs ys : List A) → map v xs ≡ map v ys → length xs ≡ length ys
  same_length xs ys e = sym (length-map xs v) ∙ ap length e ∙ length-map ys v

  -- what follows from the image holds of all items of both
  pub same_all : (P : A → Type 0) → ((x y : A) → v x ≡ v y → P x → P y) → (xs ys : List A) → map v xs ≡ map v ys → All P xs → All P ys
  same_all P moves [] [] e all = all
  same_all P moves [] (y ∷ ys) e all = absurd cc
  same_all P moves (x ∷ xs) [] e all = All-nil P
  same_all P moves (x ∷ xs) (y ∷ ys) e all =
      let first : v x ≡ v y = (let both : v x ∷ map v xs ≡ v y ∷ map v ys = e in cc) in
      let rest : map v xs ≡ map v ys = (let both : v x ∷ map v xs ≡ v y ∷ map v ys = e in cc) in
      All-cons P y ys (moves x y first (All-head P x xs all)) (same_all P moves xs ys rest (All-tail P x xs all))

-- clauses by their names

abbrev clause_name : SourceModel → Option (List ℕ)
clause_name s = name_in (clause_of s)

same_clause : (f g : SourceModel) → head_of_file f ≡ head_of_file g → clause_name f ≡ clause_name g
same_clause f g e = ap (λ (h : Option (List ℕ) × List (List ℕ)). h.0) e

pub same_texts : (f g : SourceModel) → head_of_file f ≡ head_of_file g → import_texts f ≡ import_texts g
same_texts f g e = ap (λ (h : Option (List ℕ) × List (List ℕ)). h.1) e

no_clause_of : (o : Option Ident) → name_in o ≡ None → o ≡ None
no_clause_of None e = refl
no_clause_of (Some id) e = absurd cc

some_clause_of : (o : Option Ident) (name : List ℕ) → name_in o ≡ Some name → (id : Ident) × (o ≡ Some id) × (id.name ≡ name)
some_clause_of None name e = absurd cc
some_clause_of (Some id) name e = (id, refl, (let both : ◌≡◌ {A = Option (List ℕ)} (Some id.name) (Some name) = e in cc))

-- a clause of the one has its name in the other
clause_there : (f g : SourceModel) → head_of_file f ≡ head_of_file g → (id : Ident) → IsClause f id → (other : Ident) × IsClause g other × (other.name ≡ id.name)
clause_there f g e id is = some_clause_of (clause_of g) id.name (sym (same_clause f g e) ∙ ap name_in is)

has_tree : (f g : SourceModel) → head_of_file f ≡ head_of_file g → (HasNoClause f → ⊥) → HasNoClause g → ⊥
has_tree f g e has none = has (no_clause_of (clause_of f) (same_clause f g e ∙ ap name_in none))

not_blank : (f g : SourceModel) → head_of_file f ≡ head_of_file g → (IsBlank f → ⊥) → IsBlank g → ⊥
not_blank f g e none is =
    let there = clause_there g f (sym e) is.1.0 is.1.1 in
    none (there.0.span.start, (there.0, there.1, there.2 ∙ is.1.2, refl))

not_other : (name : List ℕ) (f g : SourceModel) → head_of_file f ≡ head_of_file g → (Differs name f → ⊥) → Differs name g → ⊥
not_other name f g e none is =
    let there = clause_there g f (sym e) is.1.0 is.1.1 in
    none (there.0.span.start, (there.0, there.1, (λ same. is.1.2 (sym there.2 ∙ same)), refl))

-- files with the same heads

module _ (fs gs : List SourceModel) (e : map head_of_file fs ≡ map head_of_file gs) where
  pub name_stays : (name : List ℕ) → IsNameOf name fs → IsNameOf name gs
  name_stays name is =
      let there = same_at head_of_file fs gs e 0 is.0 is.2 in
      let clause = clause_there is.0 there.0 there.2 is.1 is.3 in
      (there.0, clause.0, there.1, clause.1, is.4 ∙ sym clause.2)

  pub assembled_stays : IsAssembled fs → IsAssembled gs
  assembled_stays is = record {
    trees = same_all head_of_file (λ s. HasNoClause s → ⊥) has_tree fs gs e is.trees;
    named = same_all head_of_file (λ s. IsBlank s → ⊥) not_blank fs gs e is.named;
    name = is.name;
    is_name = name_stays is.name is.is_name;
    same = same_all head_of_file (λ s. Differs is.name s → ⊥) (not_other is.name) fs gs e is.same;
  }

-- files that are not assembled
faulty_by : (fs gs : List SourceModel) → map head_of_file gs ≡ map head_of_file fs → AreFaulty fs → (answer : Result Trees KFault) → IsAssembly gs answer → AreFaulty gs
faulty_by fs gs e faulty (Err fault) is = (fault, is)
faulty_by fs gs e faulty (Ok trees) is =
    let sound : IsAssembly fs (Ok (trees_of fs)) = (refl, assembled_stays gs fs e is.1) in
    let both : ◌≡◌ {A = Result Trees KFault} (Err faulty.0) (Ok (trees_of fs)) = has_no_other_assembly fs (Err faulty.0) (Ok (trees_of fs)) faulty.1 sound in
    absurd cc

module _ (fs gs : List SourceModel) (e : map head_of_file fs ≡ map head_of_file gs) where
  pub faulty_stays : 0 < length gs → AreFaulty fs → AreFaulty gs
  faulty_stays some faulty = (let found = has_assembly gs some in faulty_by fs gs (sym e) faulty found.0 found.1)

  pub main_stays : AreMain fs → AreMain gs
  main_stays is = (assembled_stays fs gs e is.0, name_stays fs gs e _ is.1)

  pub library_stays : AreLibrary fs → AreLibrary gs
  library_stays is = (assembled_stays fs gs e is.0, (is.1.0, name_stays fs gs e is.1.0 is.1.1, is.1.2))

-- packages with the same heads

pub package_at : (ps qs : List PackageModel) → map head_of ps ≡ map head_of qs → (n : ℕ) (path : List ℕ) (fs : List SourceModel) → slice_get ps n ≡ Some (path, fs)
    → (gs : List SourceModel) × (slice_get qs n ≡ Some (path, gs)) × (map head_of_file fs ≡ map head_of_file gs)
package_at ps qs e n path fs at =
    let there = same_at head_of ps qs e n (path, fs) at in
    let q : PackageModel = there.0 in
    let paths : path ≡ q.0 = ap (λ (h : List ℕ × List (Option (List ℕ) × List (List ℕ))). h.0) there.2 in
    let heads : map head_of_file fs ≡ map head_of_file q.1 = ap (λ (h : List ℕ × List (Option (List ℕ) × List (List ℕ))). h.1) there.2 in
    (q.1, there.1 ∙ ap (λ (p : List ℕ). Some (p, q.1)) (sym paths), heads)
