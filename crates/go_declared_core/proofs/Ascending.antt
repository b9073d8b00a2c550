-- The declarations of a package rise by file and number.
use Rattle.std.proofs.Common.{◌≡◌, ℕ, ◌+◌, inl, inr, List, [], ◌∷◌, ◌++◌, All, refl, sym, subst, arith}
use Rattle.std.specs.Prelude.{⊤}
use Rattle.std.specs.List.{flat_map, enumerate_from}
use Rattle.std.proofs.lemmas.List.Elements.{All-head, All-tail}
use Rattle.go_term_core.specs.decl_core.TopDecls.{TopDeclTree}
use Rattle.go_handle_core.specs.table_core.Entries.{Entry}
use Rattle.go_typexpr_core.specs.written.Written.{InFile, Meaning}
use Rattle.go_typexpr_core.specs.entry.Entries.{Meanings, file_at}
use Rattle.go_typexpr_core.specs.entry.Outlines.{FileOutline, IsOutline}
use Rattle.go_typexpr_core.proofs.EntryOrdered.{NumbersFrom, IsFrom, outline_rises, before_next}
use Rattle.go_declared_core.specs.Written.{DeclsRise, WrittenOf, decls_of, file_written, written_with}

-- declarations from a number of a file on
abbrev pub WrittenFrom : ℕ → ℕ → List WrittenOf → Type 0
WrittenFrom file n [] = ⊤
WrittenFrom file n (w ∷ ws) = IsFrom file n w.decl × WrittenFrom w.decl.file (w.decl.number + 1) ws

next_file : (file n : ℕ) (ws : List WrittenOf) → WrittenFrom (file + 1) 0 ws → WrittenFrom file n ws
next_file file n [] h = tt
next_file file n (w ∷ ws) h = (elim h.0 [ inl f ↦ inl (omega (arith, f)) | inr s ↦ (let at = s.0 in inl (omega (arith, at))) ], h.1)

file_from : (mean : Meaning) (f : InFile) (es : List Entry) (ds : List TopDeclTree) (n : ℕ) (rest : List WrittenOf) → NumbersFrom n ds → WrittenFrom (f.file + 1) 0 rest → WrittenFrom f.file n (file_written mean f es ds ++ rest)
file_from mean f es [] n rest h g = next_file f.file n rest g
file_from mean f es (d ∷ ds) n rest h g = (inr (refl, h.0), file_from mean f es ds (d.number + 1) rest h.1 g)

files_from : (means : Meanings) (path : List ℕ) (es : List Entry) (k : ℕ) (os : List FileOutline) → All IsOutline os → WrittenFrom k 0 (flat_map (λ p. file_written (means p.0) (file_at path p.0 p.1) es p.1.decls) (enumerate_from k os))
files_from means path es k [] all = tt
files_from means path es k (o ∷ os) all =
    file_from (means k) (file_at path k o) es o.decls 0 (flat_map (λ p. file_written (means p.0) (file_at path p.0 p.1) es p.1.decls) (enumerate_from (k + 1) os))
    (outline_rises o (All-head IsOutline o os all)) (files_from means path es (k + 1) os (All-tail IsOutline o os all))

from_rise : (file n : ℕ) (ws : List WrittenOf) → WrittenFrom file n ws → DeclsRise (decls_of ws)
from_rise file n [] h = tt
from_rise file n (w ∷ []) h = tt
from_rise file n (w ∷ v ∷ ws) h = (before_next w.decl v.decl h.1.0, from_rise w.decl.file (w.decl.number + 1) (v ∷ ws) h.1)

pub written_rises : (means : Meanings) (path : List ℕ) (es : List Entry) (os : List FileOutline) → All IsOutline os → DeclsRise (decls_of (written_with means path es os))
written_rises means path es os all = from_rise 0 0 (written_with means path es os) (files_from means path es 0 os all)

pub rises_as : (ws vs : List WrittenOf) → ws ≡ vs → DeclsRise (decls_of vs) → DeclsRise (decls_of ws)
rises_as ws vs e h = subst (λ (l : List WrittenOf). DeclsRise (decls_of l)) (sym e) h
