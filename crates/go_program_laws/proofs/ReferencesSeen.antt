-- What the code of a package has for a declaration is what it is to the check.
use Rattle.std.proofs.Common.{◌≡◌, ℕ, suc, ◌+◌, Bool, true, false, ◌&&◌, cond, List, [], ◌∷◌, ◌++◌, map, Option, Some, None, nat_eq, refl, sym, ap, ap₂, ◌∙◌, arith}
use Rattle.std.specs.Prelude.{if◌then◌else◌}
use Rattle.std.specs.List.{enumerate_from, flat_map}
use Rattle.std.specs.Option.{option_map}
use Rattle.std.specs.Str.{bytes_eq}
use Rattle.std.proofs.lemmas.Bool.{false_from_ne_true}
use Rattle.std.proofs.lemmas.Cmp.{nat_eq_equiv}
use Rattle.std.proofs.lemmas.List.{map-append}
use Rattle.std.proofs.lemmas.Slice.Eq.{bytes_eq-Decides}
use Rattle.go_tree_nodes.specs.Trees.{FileTree}
use Rattle.go_term_core.specs.decl_core.declared.keys.DeclRef.{DeclRef}
use Rattle.go_term_core.specs.decl_core.TopDecls.{TopDeclTree, top_decls}
use Rattle.go_body_core.specs.table_core.Entries.{Entry}
use Rattle.go_body_core.specs.typexpr_core.WrittenWritten.{InFile, Meaning as TypeMeaning}
use Rattle.go_body_core.specs.typexpr_core.EntryEntries.{Meanings, file_at}
use Rattle.go_body_core.specs.typexpr_core.EntryOutlines.{outline_of}
use Rattle.go_emit_core.specs.declared_core.Faces.{TheFace}
use Rattle.go_emit_core.specs.declared_core.Packages.{PackageFacesModel, face_in, face_in_some, package_in}
use Rattle.go_emit_core.specs.declared_core.Written.{WrittenOf, decls_of, file_written, position_of, same_decl_place, written_with}
use Rattle.go_body_core.specs.env_core.Found.{face_at}
use Rattle.go_code_core.specs.declared.fragments.names.Meaning.{Meaning}
use Rattle.go_emit_core.specs.meaning.Meanings.{face_meaning, some_face_meaning}
use Rattle.go_emit_core.specs.meaning.Scenes.{CodeScene, decl_at, decl_meaning, own_or, own_spotted, package_decl_refs, scene_by}
use Rattle.go_emit_core.specs.lookup.Places.{spotted_meaning, same_spot, decl_spot}

-- places

spot_is : (path : List ℕ) (a d : DeclRef) → same_spot (decl_spot path d) (decl_spot path a) ≡ same_decl_place a d
spot_is path a d =
    ap (λ (b : Bool). b && (nat_eq d.file a.file && nat_eq d.number a.number)) ((bytes_eq-Decides path path).1 refl)
    ∙ ap₂ ◌&&◌ (nat_eq_equiv.symm d.file a.file) (nat_eq_equiv.symm d.number a.number)

elsewhere : (es : List Entry) (path other : List ℕ) (d : DeclRef) (ds : List DeclRef) (known : List (Option TheFace)) → (other ≡ path → ⊥) → spotted_meaning (own_spotted es path ds known) (decl_spot other d) ≡ None
elsewhere es path other d [] known apart = refl
elsewhere es path other d (a ∷ ds) [] apart = refl
elsewhere es path other d (a ∷ ds) (k ∷ known) apart =
    ap (λ (b : Bool). cond (b && (nat_eq d.file a.file && nat_eq d.number a.number)) (Some (some_face_meaning es k)) (spotted_meaning (own_spotted es path ds known) (decl_spot other d)))
    (false_from_ne_true (bytes_eq other path) (λ e. apart ((bytes_eq-Decides other path).0 e)))
    ∙ elsewhere es path other d ds known apart

module _ (es : List Entry) (path : List ℕ) (d : DeclRef) (f : TheFace) where
  none_known : (o : Option ℕ) → face_at [] o ≡ Some f → ⊥
  none_known None h = (let no : None ≡ Some f = h in cc)
  none_known (Some n) h = (let no : None ≡ Some f = h in cc)

  onward : (k : Option TheFace) (known : List (Option TheFace)) (o : Option ℕ) → face_at (k ∷ known) (option_map suc o) ≡ face_at known o
  onward k known None = refl
  onward k known (Some n) = refl

  own_found : (ws : List WrittenOf) (known : List (Option TheFace)) → face_at known (position_of ws d) ≡ Some f → spotted_meaning (own_spotted es path (decls_of ws) known) (decl_spot path d) ≡ Some (face_meaning es f)
  own_found [] known h = absurd (let no : None ≡ Some f = h in cc)
  own_found (w ∷ ws) [] h = absurd (none_known (position_of (w ∷ ws) d) h)
  own_found (w ∷ ws) (k ∷ known) h = by (same_decl_place w.decl d) refl h (own_found ws known)
    where
      rest_of : Option Meaning
      rest_of = spotted_meaning (own_spotted es path (decls_of ws) known) (decl_spot path d)

      by : (b : Bool) → same_decl_place w.decl d ≡ b → face_at (k ∷ known) (if b then Some 0 else option_map suc (position_of ws d)) ≡ Some f → (face_at known (position_of ws d) ≡ Some f → rest_of ≡ Some (face_meaning es f))
          → cond (same_spot (decl_spot path d) (decl_spot path w.decl)) (Some (some_face_meaning es k)) rest_of ≡ Some (face_meaning es f)
      by true e h rest = ap (λ (x : Bool). cond x (Some (some_face_meaning es k)) rest_of) (spot_is path w.decl d ∙ e) ∙ ap (λ o. Some (some_face_meaning es o)) h
      by false e h rest = ap (λ (x : Bool). cond x (Some (some_face_meaning es k)) rest_of) (spot_is path w.decl d ∙ e) ∙ rest (sym (onward k known (position_of ws d)) ∙ h)

-- the declarations of a package, as they are written and as code counts them

file_decls : (mean : TypeMeaning) (f : InFile) (es : List Entry) (ds : List TopDeclTree) → map (λ (w : WrittenOf). w.decl) (file_written mean f es ds) ≡ map (decl_at f.file) ds
file_decls mean f es [] = refl
file_decls mean f es (d ∷ ds) = ap (λ l. decl_at f.file d ∷ l) (file_decls mean f es ds)

decls_from : (means : Meanings) (path : List ℕ) (es : List Entry) (n : ℕ) (ts : List FileTree)
    → map (λ (w : WrittenOf). w.decl) (flat_map (λ p. file_written (means p.0) (file_at path p.0 p.1) es p.1.decls) (enumerate_from n (map outline_of ts))) ≡ package_decl_refs n ts
decls_from means path es n [] = refl
decls_from means path es n (t ∷ ts) =
    let one : n + 1 ≡ suc n = omega arith in
    map-append (λ (w : WrittenOf). w.decl) (file_written (means n) (file_at path n (outline_of t)) es (outline_of t).decls) (flat_map (λ p. file_written (means p.0) (file_at path p.0 p.1) es p.1.decls) (enumerate_from (n + 1) (map outline_of ts)))
    ∙ ap₂ ◌++◌ (file_decls (means n) (file_at path n (outline_of t)) es (top_decls t)) (decls_from means path es (n + 1) ts ∙ ap (λ m. package_decl_refs m ts) one)

written_decls : (means : Meanings) (path : List ℕ) (es : List Entry) (ts : List FileTree) → decls_of (written_with means path es (map outline_of ts)) ≡ package_decl_refs 0 ts
written_decls means path es ts = decls_from means path es 0 ts

module _ (path : List ℕ) (ts : List FileTree) (known : List (Option TheFace)) (es : List Entry) (others : List PackageFacesModel) (d : DeclRef) (f : TheFace) where
  abbrev scene : CodeScene
  scene = scene_by path (package_decl_refs 0 ts) known es others

  -- one of its own
  pub own_meant : (means : Meanings) → face_at known (position_of (written_with means path es (map outline_of ts)) d) ≡ Some f → decl_meaning scene path d ≡ face_meaning es f
  own_meant means h =
      ap (λ ds. own_or (spotted_meaning (own_spotted es path ds known) (decl_spot path d)) (some_face_meaning es (face_in others path d))) (sym (written_decls means path es ts))
      ∙ ap (λ o. own_or o (some_face_meaning es (face_in others path d))) (own_found es path d f (written_with means path es (map outline_of ts)) known h)

  -- one of another package
  pub other_meant : (q : List ℕ) → (q ≡ path → ⊥) → face_in others q d ≡ Some f → decl_meaning scene q d ≡ face_meaning es f
  other_meant q apart h = ap (λ o. own_or o (some_face_meaning es (face_in others q d))) (elsewhere es path q d (package_decl_refs 0 ts) known apart) ∙ ap (some_face_meaning es) h

-- what one of several packages shows is shown where more are behind them
pub shown_first : (xs ys : List PackageFacesModel) (q : List ℕ) (d : DeclRef) (f : TheFace) → face_in xs q d ≡ Some f → face_in (xs ++ ys) q d ≡ Some f
shown_first [] ys q d f h = absurd (let no : None ≡ Some f = h in cc)
shown_first (x ∷ xs) ys q d f h = by (bytes_eq q x.path) h (λ k. shown_first xs ys q d f k)
  where
    by : (b : Bool) → face_in_some (if b then Some x else package_in xs q) d ≡ Some f → (face_in_some (package_in xs q) d ≡ Some f → face_in_some (package_in (xs ++ ys) q) d ≡ Some f)
        → face_in_some (if b then Some x else package_in (xs ++ ys) q) d ≡ Some f
    by true h rest = h
    by false h rest = rest h
