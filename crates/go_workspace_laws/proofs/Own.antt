-- What the declarations of a package come to in its code is what they are to the check.
use Rattle.std.proofs.Common.{◌≡◌, ℕ, suc, ◌+◌, Bool, true, false, ◌&&◌, cond, List, [], ◌∷◌, ◌++◌, map, Option, Some, None, nat_eq, refl, sym, ap, ap₂, ◌∙◌, arith}
use Rattle.std.specs.Prelude.{if◌then◌else◌}
use Rattle.std.specs.List.{enumerate_from, flat_map}
use Rattle.std.specs.Option.{option_map}
use Rattle.std.proofs.lemmas.Cmp.{nat_eq_equiv}
use Rattle.std.proofs.lemmas.List.{map-append}
use Rattle.go_tree_nodes.specs.Trees.{FileTree}
use Rattle.go_term_core.specs.decl_core.declared.keys.DeclRef.{DeclRef}
use Rattle.go_term_core.specs.decl_core.TopDecls.{TopDeclTree, top_decls}
use Rattle.go_body_core.specs.table_core.Entries.{Entry}
use Rattle.go_body_core.specs.table_core.Finding.{bytes_same}
use Rattle.go_report_core.specs.summary_core.Viewed.{text_apart}
use Rattle.go_body_core.specs.typexpr_core.WrittenWritten.{InFile, Meaning as TypeMeaning}
use Rattle.go_body_core.specs.typexpr_core.EntryEntries.{Meanings, file_at}
use Rattle.go_body_core.specs.typexpr_core.EntryOutlines.{outline_of}
use Rattle.go_emit_core.specs.declared_core.Faces.{TheFace}
use Rattle.go_emit_core.specs.declared_core.Packages.{DeclaredOf, face_among}
use Rattle.go_emit_core.specs.declared_core.Written.{WrittenOf, decls_of, file_written, position_of, same_decl_place, written_with}
use Rattle.go_report_core.specs.answer.Shown.{is_decl_listed, shown_among, shown_if}
use Rattle.go_body_core.specs.env_core.Found.{face_at}
use Rattle.go_code_core.specs.declared.fragments.names.Meaning.{Meaning}
use Rattle.go_code_core.specs.declared.fragments.names.Meaning.TheVariants as meanings
use Rattle.go_emit_core.specs.meaning.Meanings.{some_face_meaning}
use Rattle.go_emit_core.specs.meaning.Scenes.{decl_at, own_or, own_spotted, package_decl_refs}
use Rattle.go_emit_core.specs.lookup.Places.{spotted_meaning, same_spot, decl_spot}

-- places

spot_is : (path : List ℕ) (a d : DeclRef) → same_spot (decl_spot path d) (decl_spot path a) ≡ same_decl_place a d
spot_is path a d =
    ap (λ (b : Bool). b && (nat_eq d.file a.file && nat_eq d.number a.number)) (bytes_same path path refl)
    ∙ ap₂ ◌&&◌ (nat_eq_equiv.symm d.file a.file) (nat_eq_equiv.symm d.number a.number)

pub elsewhere : (es : List Entry) (path other : List ℕ) (d : DeclRef) (ds : List DeclRef) (known : List (Option TheFace)) → (other ≡ path → ⊥) → spotted_meaning (own_spotted es path ds known) (decl_spot other d) ≡ None
elsewhere es path other d [] known apart = refl
elsewhere es path other d (a ∷ ds) [] apart = refl
elsewhere es path other d (a ∷ ds) (k ∷ known) apart =
    ap (λ (b : Bool). cond (b && (nat_eq d.file a.file && nat_eq d.number a.number)) (Some (some_face_meaning es k)) (spotted_meaning (own_spotted es path ds known) (decl_spot other d))) (text_apart other path apart)
    ∙ elsewhere es path other d ds known apart

module _ (es : List Entry) (path : List ℕ) (these : List DeclRef) (d : DeclRef) where
  passed : (s : Bool) (a : DeclRef) (k : Option TheFace) (xs : List DeclaredOf) → same_decl_place a d ≡ false → face_among (shown_if s a k ++ xs) d ≡ face_among xs d
  passed s a None xs e = refl
  passed true a (Some f) xs e = ap (λ (b : Bool). if b then Some f else face_among xs d) e
  passed false a (Some f) xs e = refl

  nothing_known : (o : Option ℕ) → some_face_meaning es (face_at [] o) ≡ meanings.Other
  nothing_known None = refl
  nothing_known (Some n) = refl

  onward : (k : Option TheFace) (known : List (Option TheFace)) (o : Option ℕ) → face_at (k ∷ known) (option_map suc o) ≡ face_at known o
  onward k known None = refl
  onward k known (Some n) = refl

  -- what a declaration comes to among a package's own, and else among those that it shows, is what it is known to be by its position
  pub own_means : (ws : List WrittenOf) (known : List (Option TheFace))
      → own_or (spotted_meaning (own_spotted es path (decls_of ws) known) (decl_spot path d)) (some_face_meaning es (face_among (shown_among these (decls_of ws) known) d)) ≡ some_face_meaning es (face_at known (position_of ws d))
  own_means [] known = refl
  own_means (w ∷ ws) [] = sym (nothing_known (position_of (w ∷ ws) d))
  own_means (w ∷ ws) (k ∷ known) = by (same_decl_place w.decl d) refl (own_means ws known)
    where
      others : Option Meaning
      others = spotted_meaning (own_spotted es path (decls_of ws) known) (decl_spot path d)

      by : (b : Bool) → same_decl_place w.decl d ≡ b
          → own_or (spotted_meaning (own_spotted es path (decls_of ws) known) (decl_spot path d)) (some_face_meaning es (face_among (shown_among these (decls_of ws) known) d)) ≡ some_face_meaning es (face_at known (position_of ws d))
          → own_or (cond (same_spot (decl_spot path d) (decl_spot path w.decl)) (Some (some_face_meaning es k)) (spotted_meaning (own_spotted es path (decls_of ws) known) (decl_spot path d)))
          (some_face_meaning es (face_among (shown_if (is_decl_listed these w.decl) w.decl k ++ shown_among these (decls_of ws) known) d))
          ≡ some_face_meaning es (face_at (k ∷ known) (if b then Some 0 else option_map suc (position_of ws d)))
      by true e ih =
          ap (λ (x : Bool). own_or (cond x (Some (some_face_meaning es k)) (spotted_meaning (own_spotted es path (decls_of ws) known) (decl_spot path d)))
          (some_face_meaning es (face_among (shown_if (is_decl_listed these w.decl) w.decl k ++ shown_among these (decls_of ws) known) d))) (spot_is path w.decl d ∙ e)
      by false e ih =
          ap (λ (x : Bool). own_or (cond x (Some (some_face_meaning es k)) (spotted_meaning (own_spotted es path (decls_of ws) known) (decl_spot path d)))
          (some_face_meaning es (face_among (shown_if (is_decl_listed these w.decl) w.decl k ++ shown_among these (decls_of ws) known) d))) (spot_is path w.decl d ∙ e)
          ∙ (ap (λ o. own_or (spotted_meaning (own_spotted es path (decls_of ws) known) (decl_spot path d)) (some_face_meaning es o)) (passed (is_decl_listed these w.decl) w.decl k (shown_among these (decls_of ws) known) e)
          ∙ (ih ∙ ap (some_face_meaning es) (sym (onward k known (position_of ws d)))))

-- the declarations of a package, as they are written and as code counts them

file_decls : (mean : TypeMeaning) (f : InFile) (es : List Entry) (ds : List TopDeclTree) → map (λ (w : WrittenOf). w.decl) (file_written mean f es ds) ≡ map (decl_at f.file) ds
file_decls mean f es [] = refl
file_decls mean f es (d ∷ ds) = ap (λ l. decl_at f.file d ∷ l) (file_decls mean f es ds)

decls_from : (means : Meanings) (path : List ℕ) (es : List Entry) (n : ℕ) (ts : List FileTree)
    → map (λ (w : WrittenOf). w.decl) (flat_map (λ p. file_written (means p.0) (file_at path p.0 p.1) es p.1.decls) (enumerate_from n (map outline_of ts))) ≡ package_decl_refs n ts
decls_from means path es n [] = refl
decls_from means path es n (t ∷ ts) =
    let one : n + 1 ≡ suc n = omega arith in
    map-append (λ (w : WrittenOf). w.decl) (file_written (means n) (file_at path n (outline_of t)) es (outline_of t).decls) (flat_map (λ p. file_written (means p.0) (file_at path p.0 p.1) es p.1.decls) (enumerate_from (n + 1) (map outline_of ts)))
    ∙ ap₂ ◌++◌ (file_decls (means n) (file_at path n (outline_of t)) es (top_decls t)) (decls_from means path es (n + 1) ts ∙ ap (λ m. package_decl_refs m ts) one)

pub written_decls : (means : Meanings) (path : List ℕ) (es : List Entry) (ts : List FileTree) → decls_of (written_with means path es (map outline_of ts)) ≡ package_decl_refs 0 ts
written_decls means path es ts = decls_from means path es 0 ts
