-- The fields of a struct type by an index of their names.
use Rattle.std.proofs.Common.{◌≡◌, ℕ, ◌+◌, Bool, true, false, List, [], ◌∷◌, map, Option, Some, None, if◌then◌else◌, refl, sym, ap, ◌∙◌}
use Rattle.std.specs.Prelude.{option_map}
use Rattle.std.specs.Str.{bytes_eq}
use Rattle.std.proofs.lemmas.Bool.{true≢false}
use Rattle.std.proofs.lemmas.Slice.Eq.{bytes_eq-Decides}
use Rattle.go_term_core.specs.Terms.{Term, Defined, StructOf, Fields, NoField, AField}
use Rattle.go_collections_core.specs.declared.spelling_index.spellings.Spelling.{Spelling}
use Rattle.go_collections_core.specs.spelling_index.Spelled.{joined, spelled_if, spelled_from, spelled, spelled_in, AreSpelled}
use Rattle.go_term_core.specs.decl_core.declared.keys.DeclKey.{DeclKey}
use Rattle.go_table_core.specs.Entries.{Entry, find_entry, methods_in, term_in}
use Rattle.go_table_core.specs.MemberNames.{field_names, term_names}
use Rattle.go_table_core.specs.Shown.{hides_some}
use Rattle.go_table_core.specs.Tables.{IsPlaceOf}
use Rattle.go_expr_core.specs.denote_core.CompositeMarks.{name_number_from}
use Rattle.go_select_core.specs.embed_core.Owners.{OwnerModel, nobody, owner_in}
use Rattle.go_select_core.specs.embed_core.OwnersShown.{entry_owner}
use Rattle.go_env_core.specs.Scenes.{SceneModel}
use Rattle.go_env_core.specs.Fields.{TheField, fields_seen, term_seen}
use Rattle.go_env_core.proofs.Seeing.{none_kept}

-- the first place of a name is the number of the first that is spelled so

bytes_turned : (x y : List ℕ) → bytes_eq x y ≡ bytes_eq y x
bytes_turned x y = by (bytes_eq x y) (bytes_eq y x) refl refl
  where
    by : (b c : Bool) → bytes_eq x y ≡ b → bytes_eq y x ≡ c → b ≡ c
    by true true h k = refl
    by false false h k = refl
    by true false h k = absurd (true≢false (sym ((bytes_eq-Decides y x).1 (sym ((bytes_eq-Decides x y).0 h))) ∙ k))
    by false true h k = absurd (true≢false (sym ((bytes_eq-Decides x y).1 (sym ((bytes_eq-Decides y x).0 k))) ∙ h))

first_number : (k : ℕ) (ns : List (List ℕ)) (name : List ℕ) → option_map (λ (s : Spelling). s.first) (spelled_from k ns name) ≡ name_number_from k ns name
first_number k [] name = refl
first_number k (n ∷ ns) name =
    ap (λ b. option_map (λ (s : Spelling). s.first) (joined (spelled_if k b) (spelled_from (k + 1) ns name))) (bytes_turned name n)
    ∙ by (bytes_eq n name) (spelled_from (k + 1) ns name) (first_number (k + 1) ns name)
  where
    by : (b : Bool) (o : Option Spelling) → option_map (λ (s : Spelling). s.first) o ≡ name_number_from (k + 1) ns name
        → option_map (λ (s : Spelling). s.first) (joined (spelled_if k b) o) ≡ (if b then Some k else name_number_from (k + 1) ns name)
    by true None h = refl
    by true (Some s) h = refl
    by false o h = h

pub numbered_first : (ps : List (List ℕ × Spelling)) (names : List (List ℕ)) (name : List ℕ) → AreSpelled ps names → option_map (λ (s : Spelling). s.first) (spelled_in ps name) ≡ name_number_from 0 names name
numbered_first ps names name are = ap (option_map (λ (s : Spelling). s.first)) (are name) ∙ first_number 0 names name

-- the names of the fields that are seen of a struct type, where none is kept

names_seen : (s : SceneModel) (home : List ℕ) (fs : Fields) → field_names fs ≡ map (λ (f : TheField). f.name) (fields_seen s nobody home fs)
names_seen s home NoField = refl
names_seen s home (AField name place embedded t tag fs) = ap (λ l. name ∷ l) (names_seen s home fs)

pub struct_names : (s : SceneModel) (o : OwnerModel) (home : List ℕ) (fs : Fields) (t : Term) → t ≡ StructOf home fs → hides_some o.path o.methods t ≡ false
    → term_names t ≡ map (λ (f : TheField). f.name) (term_seen s o t)
struct_names s o home fs t is off =
    ap term_names is
    ∙ (names_seen s home fs
    ∙ (ap (λ u. map (λ (f : TheField). f.name) (term_seen s nobody u)) (sym is) ∙ ap (map (λ (f : TheField). f.name)) (none_kept s o t off)))

-- a defined type that a table has is what its key stands for

pub found_owner : (es : List Entry) (k : DeclKey) (n : ℕ) (d : Entry) → IsPlaceOf es k n → find_entry es k ≡ Some d → entry_owner d ≡ owner_in (find_entry es) (Defined k)
found_owner es k n d place found =
    let is : Some place.0 ≡ Some d = sym place.2 ∙ found in
    let same : place.0 ≡ d = cc in
    let own : d.key ≡ k = ap (λ (e : Entry). e.key) (sym same) ∙ place.3 in
    λ i. record { path = (own i).path; methods = methods_in (sym found i); underlying = term_in (sym found i) }
