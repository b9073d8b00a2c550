-- What packages show, and tables of them.
use Rattle.std.proofs.Common.{◌≡◌, ℕ, Bool, true, false, List, [], ◌∷◌, ◌++◌, Option, Some, None, is_some, if◌then◌else◌, cond, refl, sym, ap, ◌∙◌}
use Rattle.std.specs.Option.{option_map}
use Rattle.std.specs.Str.{bytes_eq, chars}
use Rattle.std.proofs.lemmas.Bool.{true≢false, false_from_ne_true}
use Rattle.std.proofs.lemmas.Slice.Eq.{bytes_eq-Decides}
use Rattle.go_collections_core.specs.text_core.Text.{exported}
use Rattle.go_term_core.specs.decl_core.declared.keys.DeclRef.{DeclRef}
use Rattle.go_block_core.specs.Tables.{has, in_block, with_first}
use Rattle.go_block_core.specs.scope_stack.Blocks.{or_else}
use Rattle.go_typexpr_core.proofs.EntryAmong.{among_from}
use Rattle.go_declared_core.specs.Packages.{DeclaredOf, PackageFacesModel, as_seen, face_among, face_in_some, names_seen, package_faces, package_in, seen_after, shown_by, shown_in_some, shown_name, with_faces}
use Rattle.go_declared_core.specs.Showing.{FacesAreFound, FacesShowTheirBlock, TablesShowTheirPackages}
use Rattle.go_declared_core.specs.Written.{same_decl_place}
use Rattle.go_declared_core.proofs.Placed.{same_itself}
use Rattle.go_declared_core.proofs.Placing.{in_both}
use Rattle.go_declared_core.proofs.Places.{at_among}
use Rattle.go_declared_core.proofs.Searching.{held_by, held_at, number_at}

same_text : (a b : List ℕ) → bytes_eq a b ≡ true → a ≡ b
same_text a b h = (bytes_eq-Decides a b).0 h

text_same : (a b : List ℕ) → a ≡ b → bytes_eq a b ≡ true
text_same a b h = (bytes_eq-Decides a b).1 h

text_apart : (a b : List ℕ) → (a ≡ b → ⊥) → bytes_eq a b ≡ false
text_apart a b h = false_from_ne_true (bytes_eq a b) (λ yes. h (same_text a b yes))

-- names

or_none : {A : Type 0} (o : Option A) → or_else o None ≡ o
or_none None = refl
or_none (Some x) = refl

or_some : {A : Type 0} (o p : Option A) → is_some o ≡ true → o ≡ or_else o p
or_some None p h = absurd (true≢false (sym h))
or_some (Some x) p h = refl

or_first : {A : Type 0} (a b c : Option A) → or_else (or_else a b) c ≡ or_else a (or_else b c)
or_first None b c = refl
or_first (Some x) b c = refl

module _ {X : Type 0} where
  in_first : (seen : List (List ℕ × X)) (n : List ℕ) (x : X) (name : List ℕ) → in_block (with_first seen n x) name ≡ or_else (in_block seen name) (in_block ((n, x) ∷ []) name)
  in_first seen n x name = by (has seen n) refl
    where
      kept : (b : Bool) → bytes_eq name n ≡ b → has seen n ≡ true → in_block seen name ≡ or_else (in_block seen name) (cond b (Some x) None)
      kept true e t = or_some (in_block seen name) (Some x) (ap (has seen) (same_text name n e) ∙ t)
      kept false e t = sym (or_none (in_block seen name))

      by : (b : Bool) → has seen n ≡ b → in_block (if b then seen else seen ++ (n, x) ∷ []) name ≡ or_else (in_block seen name) (in_block ((n, x) ∷ []) name)
      by true t = kept (bytes_eq name n) refl t
      by false t = in_both seen ((n, x) ∷ []) name

one_seen : (e : List ℕ × DeclRef) (rest : Option DeclRef) (name : List ℕ)
    → or_else (in_block ((e.0, as_seen e.0 e.1) ∷ []) name) (option_map (as_seen name) rest) ≡ option_map (as_seen name) (cond (bytes_eq name e.0) (Some e.1) rest)
one_seen e rest name = by (bytes_eq name e.0) refl
  where
    by : (b : Bool) → bytes_eq name e.0 ≡ b → or_else (cond b (Some (as_seen e.0 e.1)) None) (option_map (as_seen name) rest) ≡ option_map (as_seen name) (cond b (Some e.1) rest)
    by true t = ap (λ (n : List ℕ). Some (as_seen n e.1)) (sym (same_text name e.0 t))
    by false t = refl

in_seen : (seen : List (List ℕ × Option DeclRef)) (es : List (List ℕ × DeclRef)) (name : List ℕ) → in_block (seen_after seen es) name ≡ or_else (in_block seen name) (option_map (as_seen name) (in_block es name))
in_seen seen [] name = sym (or_none (in_block seen name))
in_seen seen (e ∷ es) name =
    let rest = option_map (as_seen name) (in_block es name) in
    in_seen (with_first seen e.0 (as_seen e.0 e.1)) es name
    ∙ (ap (λ o. or_else o rest) (in_first seen e.0 (as_seen e.0 e.1) name)
    ∙ (or_first (in_block seen name) (in_block ((e.0, as_seen e.0 e.1) ∷ []) name) rest
    ∙ ap (or_else (in_block seen name)) (one_seen e (in_block es name) name)))

module _ (path : List ℕ) (block : List (List ℕ × DeclRef)) (faces : List DeclaredOf) (name : List ℕ) where
  abbrev ours : PackageFacesModel
  ours = package_faces path (names_seen block) faces

  shown_of : (o : Option DeclRef) → in_block block name ≡ o → shown_by ours name ≡ shown_name ours (option_map (as_seen name) o)
  shown_of o h = ap (shown_name ours) (in_seen [] block name ∙ ap (option_map (as_seen name)) h)

  seen_as : (d : DeclRef) (b : Bool) → in_block block name ≡ Some d → exported (chars name) ≡ b → shown_by ours name ≡ shown_name ours (Some (if b then Some d else None))
  seen_as d b h t = shown_of (Some d) h ∙ ap (λ (c : Bool). shown_name ours (Some (if c then Some d else None))) t

pub shows_its_block : FacesShowTheirBlock
shows_its_block = record {
  absent = λ path block faces name h. shown_of path block faces name None h;
  hidden = λ path block faces name d h t. seen_as path block faces name d false h t;
  shown = λ path block faces name d h t. seen_as path block faces name d true h t;
}

-- faces

face_as : (es : List DeclaredOf) (d : DeclRef) → face_among es d ≡ held_by (λ e. e.decl) (λ e. e.face) es d
face_as [] d = refl
face_as (e ∷ es) d = ap (λ o. if same_decl_place e.decl d then Some e.face else o) (face_as es d)

pub faces_are_found : FacesAreFound
faces_are_found es e rise h =
    let at = at_among es e (among_from es e h) in
    let number = number_at (λ (x : DeclaredOf). x.decl) es e.decl at.0 e rise at.1 (same_itself e.decl) in
    face_as es e.decl ∙ held_at (λ (x : DeclaredOf). x.decl) (λ (x : DeclaredOf). x.face) es e.decl at.0 e number at.1

-- packages

own_package : (ps : List PackageFacesModel) (p : PackageFacesModel) → package_in (with_faces ps p) p.path ≡ Some p
own_package [] p = ap (λ b. if b then Some p else None) (text_same p.path p.path refl)
own_package (q ∷ ps) p = by (bytes_eq p.path q.path) refl (own_package ps p)
  where
    by : (b : Bool) → bytes_eq p.path q.path ≡ b → package_in (with_faces ps p) p.path ≡ Some p → package_in (if b then p ∷ ps else q ∷ with_faces ps p) p.path ≡ Some p
    by true t rest = ap (λ c. if c then Some p else package_in ps p.path) (text_same p.path p.path refl)
    by false t rest = ap (λ c. if c then Some q else package_in (with_faces ps p) p.path) t ∙ rest

other_package : (ps : List PackageFacesModel) (p : PackageFacesModel) (path : List ℕ) → (path ≡ p.path → ⊥) → package_in (with_faces ps p) path ≡ package_in ps path
other_package [] p path other = ap (λ b. if b then Some p else None) (text_apart path p.path other)
other_package (q ∷ ps) p path other = by (bytes_eq p.path q.path) refl (other_package ps p path other)
  where
    by : (b : Bool) → bytes_eq p.path q.path ≡ b → package_in (with_faces ps p) path ≡ package_in ps path → package_in (if b then p ∷ ps else q ∷ with_faces ps p) path ≡ package_in (q ∷ ps) path
    by true t rest =
        let same : p.path ≡ q.path = same_text p.path q.path t in
        ap (λ c. if c then Some p else package_in ps path) (text_apart path p.path other)
        ∙ sym (ap (λ c. if c then Some q else package_in ps path) (text_apart path q.path (λ is. other (is ∙ sym same))))
    by false t rest = ap (λ o. if bytes_eq path q.path then Some q else o) rest

pub tables_show_their_packages : TablesShowTheirPackages
tables_show_their_packages = record {
  own = λ ps p name. ap (λ o. shown_in_some o name) (own_package ps p);
  own_face = λ ps p d. ap (λ o. face_in_some o d) (own_package ps p);
  others = λ ps p path name other. ap (λ o. shown_in_some o name) (other_package ps p path other);
  other_faces = λ ps p path d other. ap (λ o. face_in_some o d) (other_package ps p path other);
}
