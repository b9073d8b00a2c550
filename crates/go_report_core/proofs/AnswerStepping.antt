-- What one step of a loop adds.
use Rattle.std.proofs.Common.{◌≡◌, ℕ, zero, suc, ◌+◌, ◌<◌, ◌≤◌, Bool, List, [], ◌∷◌, ◌++◌, length, map, take, get_or, Option, Some, None, refl, sym, ap, ◌∙◌, arith, append_assoc, append-nil}
use Rattle.std.specs.Prelude.{slice_get}
use Rattle.std.specs.Option.{option_map}
use Rattle.std.proofs.lemmas.List.{map-append, take_all, take_more, length-map}
use Rattle.std.proofs.lemmas.Option.{slice_get-map, slice_get_read}
use Rattle.go_term_core.specs.declared.term.TypeTerm.{TypeTerm}
use Rattle.go_term_core.specs.declared.term.Signature.{Signature}
use Rattle.go_term_core.specs.decl_core.declared.keys.DeclRef.{DeclRef}
use Rattle.go_term_core.specs.decl_core.declared.tops.TopDecl.{TopDecl}
use Rattle.go_term_core.specs.decl_core.Shown.{decl_shown}
use Rattle.go_term_core.specs.decl_core.TopDecls.{TopDeclTree}
use Rattle.go_expr_core.specs.local_core.declared.Fault.{Fault}
use Rattle.go_summary_core.specs.declared_core.declared.face.Face.{Face}
use Rattle.go_summary_core.specs.declared_core.Faces.{TheFace, face_shown}
use Rattle.go_summary_core.specs.declared_core.Packages.{DeclaredOf}
use Rattle.go_summary_core.specs.declared_core.Written.{WrittenOf, decls_of}
use Rattle.go_report_core.specs.answer.Outer.{looped_decl_faults, looped_if}
use Rattle.go_report_core.specs.answer.Shown.{is_decl_listed, shown_among, shown_if}
use Rattle.go_report_core.specs.answer.mirrors.Steps.{is_set, shown_at}

-- what declarations are, held

abbrev pub HeldFace : Type 0
HeldFace = Option (Face TypeTerm Signature)

pub held_step : (ks : List (Option TheFace)) (i : ℕ) (k : Option TheFace) (h : HeldFace) (old new : List HeldFace) → i < length ks → k ≡ get_or ks i k
    → option_map face_shown h ≡ k → new ≡ old ++ h ∷ [] → map (option_map face_shown) old ≡ take i ks → map (option_map face_shown) new ≡ take (i + 1) ks
held_step ks i k h old new lt is held added before =
    ap (map (option_map face_shown)) added
    ∙ (map-append (option_map face_shown) old (h ∷ [])
    ∙ (ap (λ l. l ++ option_map face_shown h ∷ []) before
    ∙ (ap (λ x. take i ks ++ x ∷ []) (held ∙ is)
    ∙ sym (take_more ks i k lt))))

-- the faces that are shown

pub none_known : (these : List DeclRef) (o : Option DeclRef) → shown_at these o None ≡ []
none_known these None = refl
none_known these (Some d) = refl

shown_next : (these ds : List DeclRef) (known : List (Option TheFace)) (i : ℕ) → shown_among these (take (suc i) ds) known ≡ shown_among these (take i ds) known ++ shown_at these (slice_get ds i) (slice_get known i)
shown_next these [] known zero = refl
shown_next these [] known (suc i) = refl
shown_next these (d ∷ ds) [] zero = refl
shown_next these (d ∷ ds) [] (suc i) = sym (none_known these (slice_get ds i))
shown_next these (d ∷ ds) (face ∷ known) zero = append-nil (shown_if (is_decl_listed these d) d face)
shown_next these (d ∷ ds) (face ∷ known) (suc i) =
    let here = shown_if (is_decl_listed these d) d face in
    ap (λ l. here ++ l) (shown_next these ds known i) ∙ sym (append_assoc here (shown_among these (take i ds) known) (shown_at these (slice_get ds i) (slice_get known i)))

pub faces_step : (these : List DeclRef) (ws : List WrittenOf) (known : List (Option TheFace)) (i : ℕ) (old new : List DeclaredOf)
    → new ≡ old ++ shown_at these (option_map (λ w. w.decl) (slice_get ws i)) (slice_get known i) → old ≡ shown_among these (take i (decls_of ws)) known → new ≡ shown_among these (take (i + 1) (decls_of ws)) known
faces_step these ws known i old new added before =
    let next : suc i ≡ i + 1 = omega arith in
    let ds = decls_of ws in
    added
    ∙ (ap (λ l. l ++ shown_at these (option_map (λ (w : WrittenOf). w.decl) (slice_get ws i)) (slice_get known i)) before
    ∙ (ap (λ o. shown_among these (take i ds) known ++ shown_at these o (slice_get known i)) (sym (slice_get-map (λ (w : WrittenOf). w.decl) ws i))
    ∙ (sym (shown_next these ds known i)
    ∙ ap (λ (n : ℕ). shown_among these (take n ds) known) next)))

pub faces_end : (these : List DeclRef) (ws : List WrittenOf) (known : List (Option TheFace)) (i : ℕ) (now : List DeclaredOf) → length ws ≤ i
    → now ≡ shown_among these (take i (decls_of ws)) known → now ≡ shown_among these (decls_of ws) known
faces_end these ws known i now le done =
    let same : length (decls_of ws) ≡ length ws = length-map ws (λ (w : WrittenOf). w.decl) in
    done ∙ ap (λ l. shown_among these l known) (take_all i (decls_of ws) (omega (arith, le, same)))

-- constants that are defined through themselves

abbrev looped_at : Option TopDeclTree → Option Bool → List Fault
looped_at None flag = []
looped_at (Some d) flag = looped_if (is_set flag) d

none_looped : (o : Option TopDeclTree) → looped_at o None ≡ []
none_looped None = refl
none_looped (Some d) = refl

looped_next : (ds : List TopDeclTree) (flags : List Bool) (i : ℕ) → looped_decl_faults (take (suc i) ds) flags ≡ looped_decl_faults (take i ds) flags ++ looped_at (slice_get ds i) (slice_get flags i)
looped_next [] flags zero = refl
looped_next [] flags (suc i) = refl
looped_next (d ∷ ds) [] zero = refl
looped_next (d ∷ ds) [] (suc i) = sym (none_looped (slice_get ds i))
looped_next (d ∷ ds) (flag ∷ flags) zero = append-nil (looped_if flag d)
looped_next (d ∷ ds) (flag ∷ flags) (suc i) =
    ap (λ l. looped_if flag d ++ l) (looped_next ds flags i) ∙ sym (append_assoc (looped_if flag d) (looped_decl_faults (take i ds) flags) (looped_at (slice_get ds i) (slice_get flags i)))

pub looped_step : (ds : List TopDecl) (flags : List Bool) (i : ℕ) (d : TopDecl) (first old new : List Fault) → i < length ds → d ≡ get_or ds i d
    → new ≡ old ++ looped_if (is_set (slice_get flags i)) (decl_shown d) → old ≡ first ++ looped_decl_faults (take i (map decl_shown ds)) flags → new ≡ first ++ looped_decl_faults (take (i + 1) (map decl_shown ds)) flags
looped_step ds flags i d first old new lt is added before =
    let next : suc i ≡ i + 1 = omega arith in
    let there : slice_get (map decl_shown ds) i ≡ Some (decl_shown d) = slice_get-map decl_shown ds i ∙ ap (option_map decl_shown) (slice_get_read ds (length ds) i d refl lt is) in
    added
    ∙ (ap (λ l. l ++ looped_if (is_set (slice_get flags i)) (decl_shown d)) before
    ∙ (append_assoc first (looped_decl_faults (take i (map decl_shown ds)) flags) (looped_if (is_set (slice_get flags i)) (decl_shown d))
    ∙ (ap (λ o. first ++ (looped_decl_faults (take i (map decl_shown ds)) flags ++ looped_at o (slice_get flags i))) (sym there)
    ∙ (ap (λ l. first ++ l) (sym (looped_next (map decl_shown ds) flags i))
    ∙ ap (λ (n : ℕ). first ++ looped_decl_faults (take n (map decl_shown ds)) flags) next))))

pub looped_end : (ds : List TopDecl) (flags : List Bool) (i : ℕ) (first now : List Fault) → length ds ≤ i
    → now ≡ first ++ looped_decl_faults (take i (map decl_shown ds)) flags → now ≡ first ++ looped_decl_faults (map decl_shown ds) flags
looped_end ds flags i first now le done =
    let same : length (map decl_shown ds) ≡ length ds = length-map ds decl_shown in
    done ∙ ap (λ l. first ++ looped_decl_faults l flags) (take_all i (map decl_shown ds) (omega (arith, le, same)))
