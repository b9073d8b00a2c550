-- What the declarations of a package give, where one specification is written anew or a function has another body.
use Rattle.std.proofs.Common.{◌≡◌, ◌⊎◌, ℕ, inl, inr, List, [], ◌∷◌, ◌++◌, map, refl, ap, ◌∙◌}
use Rattle.std.specs.List.{flat_map}
use Rattle.go_tree_nodes.specs.Trees.{ValueSpecTree, FuncTree, Lines}
use Rattle.go_term_core.specs.decl_core.declared.places.Place.{Place}
use Rattle.go_term_core.specs.decl_core.TopDecls.{TopDeclTree}
use Rattle.go_typexpr_core.proofs.EntryNumbered.{flat_map-append}
use Rattle.go_typexpr_core.specs.entry.Outlines.{FileOutline}
use Rattle.go_candidate_core.specs.declared_core.Laws.{FileDecl, file_decl}
use Rattle.go_complete_core.proofs.SpellingBodyListed.{IsOther, AllOther}
use Rattle.go_complete_core.proofs.SpellingFileListed.{IsAnew, IsPlacedAnew, AllAnew}

-- what the declarations of files give, by the list of all of them

each_of : {A : Type 0} (give : FileDecl → List A) (n : ℕ) (o : FileOutline) (ds : List TopDeclTree) → flat_map give (map (file_decl n o) ds) ≡ flat_map (λ d. give (file_decl n o d)) ds
each_of give n o [] = refl
each_of give n o (d ∷ ds) = ap (λ l. give (file_decl n o d) ++ l) (each_of give n o ds)

pub of_files : {A : Type 0} (give : FileDecl → List A) (os : List (ℕ × FileOutline)) → flat_map give (flat_map (λ p. map (file_decl p.0 p.1) p.1.decls) os) ≡ flat_map (λ p. flat_map (λ d. give (file_decl p.0 p.1 d)) p.1.decls) os
of_files give [] = refl
of_files give (p ∷ os) =
    flat_map-append give (map (file_decl p.0 p.1) p.1.decls) (flat_map (λ p. map (file_decl p.0 p.1) p.1.decls) os)
    ∙ (ap (λ l. l ++ flat_map give (flat_map (λ p. map (file_decl p.0 p.1) p.1.decls) os)) (each_of give p.0 p.1 p.1.decls)
    ∙ ap (λ l. flat_map (λ d. give (file_decl p.0 p.1 d)) p.1.decls ++ l) (of_files give os))

-- a rule of what declarations give is the same of all
abbrev pub AllGive : {A : Type 0} → (FileDecl → List A) → List FileDecl → List FileDecl → Type 0
AllGive give ds es = flat_map give ds ≡ flat_map give es

-- by the number of the file, the places of what it declares, and the declaration
module _ {A : Type 0} (give : ℕ → List Place → TopDeclTree → List A) where
  abbrev pub given : FileDecl → List A
  given d = give d.file d.outline.places d.decl

  by_place : (d e : FileDecl) → d.file ≡ e.file → d.outline.places ≡ e.outline.places → given d ≡ give e.file e.outline.places d.decl
  by_place d e files places = ap (λ k. give k d.outline.places d.decl) files ∙ ap (λ ps. give e.file ps d.decl) places

  module _ (n : ℕ) (v w : ValueSpecTree) (none : (file : ℕ) (places : List Place) (d e : TopDeclTree) → IsAnew v w d e → give file places d ≡ give file places e) where
    one_anew : (d e : FileDecl) → IsPlacedAnew n v w d e → ((d.decl ≡ e.decl) ⊎ ((d.file ≡ n) × IsAnew v w d.decl e.decl)) → given d ≡ given e
    one_anew d e h (inl same) = by_place d e h.files h.places ∙ ap (give e.file e.outline.places) same
    one_anew d e h (inr anew) = by_place d e h.files h.places ∙ none e.file e.outline.places d.decl e.decl anew.1

    pub all_anew : (ds es : List FileDecl) → AllAnew n v w ds es → AllGive given ds es
    all_anew [] [] h = refl
    all_anew [] (e ∷ es) h = elim h [ ]
    all_anew (d ∷ ds) [] h = elim h [ ]
    all_anew (d ∷ ds) (e ∷ es) h = ap (λ l. l ++ flat_map given ds) (one_anew d e h.0 h.0.decls) ∙ ap (λ l. given e ++ l) (all_anew ds es h.1)

  module _ (f : FuncTree) (body : Lines) (other : (file : ℕ) (places : List Place) (d e : TopDeclTree) → IsOther f body d e → give file places d ≡ give file places e) where
    pub all_other : (ds es : List FileDecl) → AllOther f body ds es → AllGive given ds es
    all_other [] [] h = refl
    all_other [] (e ∷ es) h = elim h [ ]
    all_other (d ∷ ds) [] h = elim h [ ]
    all_other (d ∷ ds) (e ∷ es) h =
        ap (λ l. l ++ flat_map given ds) (by_place d e h.0.files h.0.places ∙ other e.file e.outline.places d.decl e.decl h.0.decls) ∙ ap (λ l. given e ++ l) (all_other ds es h.1)
