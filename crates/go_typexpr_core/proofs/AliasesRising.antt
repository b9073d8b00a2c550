-- The aliases of a package in order, and as they are added.
use Rattle.std.proofs.Common.{◌≡◌, ℕ, zero, suc, ◌+◌, ◌<◌, ◌≤◌, inl, inr, true, List, [], ◌∷◌, ◌++◌, length, get_or, map, take, All, Option, Some, None, refl, sym, ap, ◌∙◌, append_assoc, arith}
use Rattle.std.specs.Prelude.{⊤}
use Rattle.std.specs.List.{flat_map, enumerate_from}
use Rattle.std.proofs.lemmas.List.{take_all}
use Rattle.std.proofs.lemmas.List.Elements.{All-head, All-tail}
use Rattle.go_path_core.specs.text_core.declared.span.Span.{Span}
use Rattle.go_term_core.specs.decl_core.declared.keys.DeclRef.{DeclRef}
use Rattle.go_term_core.specs.decl_core.Order.{is_ref_before}
use Rattle.go_term_core.specs.Terms.{Term}
use Rattle.go_term_core.specs.decl_core.TopDecls.{TopDeclTree, FormTree, ValueForm, TypeForm, FuncForm}
use Rattle.go_term_core.specs.decl_core.declared.tops.Outline.{Outline}
use Rattle.go_term_core.specs.decl_core.declared.tops.TopDecl.{TopDecl}
use Rattle.go_term_core.specs.decl_core.Shown.{decl_shown}
use Rattle.go_typexpr_core.specs.written.Written.{InFile, Meaning}
use Rattle.go_typexpr_core.specs.entry.Entries.{Meanings, file_at}
use Rattle.go_typexpr_core.specs.entry.Marks.{alias_mark}
use Rattle.go_typexpr_core.specs.entry.Outlines.{FileOutline, IsOutline, outline_shown}
use Rattle.go_typexpr_core.proofs.EntryNumbered.{flat_item, flat_more}
use Rattle.go_typexpr_core.proofs.EntryOrdered.{IsFrom, NumbersFrom, before_next, outline_rises}
use Rattle.go_typexpr_core.specs.aliases.Aliases.{decls_of, DeclsRise}
use Rattle.go_typexpr_core.specs.aliases.Outlined.{alias_if, alias_of, alias_spec, aliases_with, file_aliases}

-- aliases that rise from a number of a file on
abbrev AliasesFrom : ℕ → ℕ → List (DeclRef × Term) → Type 0
AliasesFrom file n [] = ⊤
AliasesFrom file n (a ∷ xs) = IsFrom file n a.0 × AliasesFrom a.0.file (a.0.number + 1) xs

from_on : (file n : ℕ) (d e : DeclRef) → IsFrom file n d → IsFrom d.file (d.number + 1) e → IsFrom file n e
from_on file n d e h k = elim h [
  | inl f ↦ elim k [ inl g ↦ inl (omega (arith, f, g)) | inr s ↦ (let at = s.0 in inl (omega (arith, f, at))) ]
  | inr t ↦ elim k [
    | inl g ↦ (let at = t.0 in inl (omega (arith, at, g)))
    | inr s ↦ (let low = t.1 in let high = s.1 in inr (t.0 ∙ s.0, omega (arith, low, high)))
  ]
]

from_behind : (file n : ℕ) (d : DeclRef) (xs : List (DeclRef × Term)) → IsFrom file n d → AliasesFrom d.file (d.number + 1) xs → AliasesFrom file n xs
from_behind file n d [] h k = tt
from_behind file n d (a ∷ xs) h k = (from_on file n d a.0 h k.0, k.1)

from_earlier : (file m n : ℕ) (xs : List (DeclRef × Term)) → n ≤ m → AliasesFrom file m xs → AliasesFrom file n xs
from_earlier file m n [] le h = tt
from_earlier file m n (a ∷ xs) le h = (elim h.0 [ inl f ↦ inl f | inr s ↦ (let at = s.1 in inr (s.0, omega (arith, le, at))) ], h.1)

from_next_file : (file n : ℕ) (xs : List (DeclRef × Term)) → AliasesFrom (file + 1) 0 xs → AliasesFrom file n xs
from_next_file file n [] h = tt
from_next_file file n (a ∷ xs) h = (elim h.0 [ inl f ↦ inl (omega (arith, f)) | inr s ↦ (let at = s.0 in inl (omega (arith, at))) ], h.1)

before_all : (d : DeclRef) (xs : List (DeclRef × Term)) → AliasesFrom d.file (d.number + 1) xs → (j : ℕ) (x : DeclRef) → j < length (decls_of xs) → is_ref_before d (get_or (decls_of xs) j x) ≡ true
before_all d [] h j x lt = absurd (omega (arith, lt))
before_all d (a ∷ xs) h zero x lt = before_next d a.0 h.0
before_all d (a ∷ xs) h (suc j) x lt = before_all d xs (from_behind d.file (d.number + 1) a.0 xs h.0 h.1) j x (omega (arith, lt))

rise_more : (d : DeclRef) (ds : List DeclRef) → ((j : ℕ) (x : DeclRef) → j < length ds → is_ref_before d (get_or ds j x) ≡ true) → DeclsRise ds → DeclsRise (d ∷ ds)
rise_more d ds first rest zero zero x less lt = absurd (omega (arith, less))
rise_more d ds first rest zero (suc j) x less lt = first j x (omega (arith, lt))
rise_more d ds first rest (suc i) zero x less lt = absurd (omega (arith, less))
rise_more d ds first rest (suc i) (suc j) x less lt = rest i j x (omega (arith, less)) (omega (arith, lt))

rise_from : (file n : ℕ) (xs : List (DeclRef × Term)) → AliasesFrom file n xs → DeclsRise (decls_of xs)
rise_from file n [] h = λ i j x less lt. absurd (omega (arith, lt))
rise_from file n (a ∷ xs) h = rise_more a.0 (decls_of xs) (before_all a.0 xs h.1) (rise_from a.0.file (a.0.number + 1) xs h.1)

marked_from : (mark : Option Span) (a : DeclRef × Term) (n : ℕ) (xs rest : List (DeclRef × Term)) → n ≤ a.0.number → AliasesFrom a.0.file (a.0.number + 1) (xs ++ rest) → AliasesFrom a.0.file n (alias_if mark a ++ xs ++ rest)
marked_from None a n xs rest le h = from_earlier a.0.file (a.0.number + 1) n (xs ++ rest) (omega (arith, le)) h
marked_from (Some m) a n xs rest le h = (inr (refl, le), h)

decl_from : (mean : Meaning) (f : InFile) (d : TopDeclTree) (form : FormTree) (n : ℕ) (xs rest : List (DeclRef × Term)) → n ≤ d.number → AliasesFrom f.file (d.number + 1) (xs ++ rest) → AliasesFrom f.file n (alias_of mean f d form ++ xs ++ rest)
decl_from mean f d (ValueForm k v i) n xs rest le h = from_earlier f.file (d.number + 1) n (xs ++ rest) (omega (arith, le)) h
decl_from mean f d (TypeForm t) n xs rest le h = marked_from (alias_mark t) (alias_spec mean f d t) n xs rest le h
decl_from mean f d (FuncForm g) n xs rest le h = from_earlier f.file (d.number + 1) n (xs ++ rest) (omega (arith, le)) h

file_from : (mean : Meaning) (f : InFile) (ds : List TopDeclTree) (n : ℕ) (rest : List (DeclRef × Term)) → NumbersFrom n ds → AliasesFrom (f.file + 1) 0 rest → AliasesFrom f.file n (file_aliases mean f ds ++ rest)
file_from mean f [] n rest h g = from_next_file f.file n rest g
file_from mean f (d ∷ ds) n rest h g = decl_from mean f d d.form n (file_aliases mean f ds) rest h.0 (file_from mean f ds (d.number + 1) rest h.1 g)

files_from : (means : Meanings) (path : List ℕ) (k : ℕ) (os : List FileOutline) → All IsOutline os → AliasesFrom k 0 (flat_map (λ p. file_aliases (means p.0) (file_at path p.0 p.1) p.1.decls) (enumerate_from k os))
files_from means path k [] all = tt
files_from means path k (o ∷ os) all =
    file_from (means k) (file_at path k o) o.decls 0 (flat_map (λ p. file_aliases (means p.0) (file_at path p.0 p.1) p.1.decls) (enumerate_from (k + 1) os))
    (outline_rises o (All-head IsOutline o os all)) (files_from means path (k + 1) os (All-tail IsOutline o os all))

pub aliases_rise : (means : Meanings) (path : List ℕ) (os : List FileOutline) → All IsOutline os → DeclsRise (decls_of (aliases_with means path os))
aliases_rise means path os all = rise_from 0 0 (aliases_with means path os) (files_from means path 0 os all)

-- one declaration more, one file more

pub decl_step : (mean : Meaning) (f : InFile) (ds : List TopDecl) (i : ℕ) (d : TopDecl) (first old new : List (DeclRef × Term)) → i < length ds → d ≡ get_or ds i d → old ≡ first ++ file_aliases mean f (map decl_shown (take i ds))
    → new ≡ old ++ alias_of mean f (decl_shown d) (decl_shown d).form → new ≡ first ++ file_aliases mean f (map decl_shown (take (i + 1) ds))
decl_step mean f ds i d first old new lt is was e =
    e
    ∙ (ap (λ l. l ++ alias_of mean f (decl_shown d) (decl_shown d).form) was
    ∙ (append_assoc first (file_aliases mean f (map decl_shown (take i ds))) (alias_of mean f (decl_shown d) (decl_shown d).form)
    ∙ ap (λ l. first ++ l) (sym (flat_item decl_shown (λ t. alias_of mean f t t.form) ds i d lt is))))

pub file_step : (means : Meanings) (path : List ℕ) (os : List Outline) (i : ℕ) (o : Outline) (ds : List TopDecl) (old new : List (DeclRef × Term)) → i < length os → o ≡ get_or os i o → old ≡ aliases_with means path (map outline_shown (take i os))
    → new ≡ old ++ file_aliases (means i) (file_at path i (outline_shown o)) (map decl_shown ds) → ds ≡ o.decls.items → new ≡ aliases_with means path (map outline_shown (take (i + 1) os))
file_step means path os i o ds old new lt is was e same =
    e
    ∙ (ap (λ l. old ++ file_aliases (means i) (file_at path i (outline_shown o)) (map decl_shown l)) same
    ∙ (ap (λ l. l ++ file_aliases (means i) (file_at path i (outline_shown o)) (outline_shown o).decls) was
    ∙ sym (flat_more outline_shown (λ p. file_aliases (means p.0) (file_at path p.0 p.1) p.1.decls) os i o lt is)))

pub files_all : (means : Meanings) (path : List ℕ) (os : List Outline) (n : ℕ) (now : List (DeclRef × Term)) → length os ≤ n → now ≡ aliases_with means path (map outline_shown (take n os)) → now ≡ aliases_with means path (map outline_shown os)
files_all means path os n now le h = h ∙ ap (λ l. aliases_with means path (map outline_shown l)) (take_all n os le)
