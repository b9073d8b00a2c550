-- The keys of a package's entries rise.
use Rattle.std.proofs.Common.{◌≡◌, ℕ, ◌+◌, ◌<◌, ◌≤◌, ◌⊎◌, inl, inr, Bool, true, false, ◌&&◌, ◌||◌, List, [], ◌∷◌, ◌++◌, map, All, refl, sym, ap, ◌∙◌, subst, arith}
use Rattle.std.specs.Prelude.{nat_eq, nat_lt, ⊤}
use Rattle.std.specs.List.{flat_map, enumerate_from}
use Rattle.std.proofs.lemmas.Bool.{and_from, or_left, or_right, eq-eqb, lt-ltb}
use Rattle.std.proofs.lemmas.List.Elements.{All-head, All-tail}
use Rattle.go_tree_nodes.specs.Trees.{TypeSpecTree}
use Rattle.go_term_core.specs.decl_core.declared.keys.DeclRef.{DeclRef}
use Rattle.go_term_core.specs.decl_core.TopDecls.{TopDeclTree, FormTree, ValueForm, TypeForm, FuncForm, top_decls}
use Rattle.go_term_core.specs.decl_core.Outer.{Outer, Manner, Whole, Part, Embedded, outer_names}
use Rattle.go_term_core.specs.decl_core.Laws.{KnownDecl, known, wholes, if_whole}
use Rattle.go_term_core.specs.decl_core.Numbers.{numbers_are_places}
use Rattle.go_type_core.specs.table_core.Entries.{Entry}
use Rattle.go_type_core.specs.table_core.Tables.{AreOf, KeysRise}
use Rattle.go_typexpr_core.specs.written.Written.{InFile, Meaning}
use Rattle.go_typexpr_core.specs.entry.Entries.{Received, Meanings, spec_entry, is_listed, listed_entry, entry_by, file_entries_by, entries_by, file_at, entries_with}
use Rattle.go_typexpr_core.specs.entry.Marks.{alias_mark}
use Rattle.go_typexpr_core.specs.entry.Outlines.{FileOutline, IsOutline}

-- numbers that rise from one on
abbrev pub NumbersFrom : ℕ → List TopDeclTree → Type 0
NumbersFrom n [] = ⊤
NumbersFrom n (d ∷ ds) = (n ≤ d.number) × NumbersFrom (d.number + 1) ds

pub numbers_later : (m n : ℕ) (ds : List TopDeclTree) → n ≤ m → NumbersFrom m ds → NumbersFrom n ds
numbers_later m n [] le h = tt
numbers_later m n (d ∷ ds) le h = (let first = h.0 in omega (arith, le, first), h.1)

numbers_case : (m : Manner) (w : KnownDecl) (ds : List TopDeclTree) (n : ℕ) (os : List Outer) → w.number ≡ n → ((es : List TopDeclTree) → map known es ≡ wholes (n + 1) os → NumbersFrom (n + 1) es) → map known ds ≡ if_whole m w ++ wholes (n + 1) os → NumbersFrom n ds
numbers_case Whole w [] n os is rest h = (let no : [] ≡ w ∷ wholes (n + 1) os = h in cc)
numbers_case Whole w (d ∷ ds) n os is rest h =
    let cons : known d ∷ map known ds ≡ w ∷ wholes (n + 1) os = h in
    let head : known d ≡ w = cc in
    let tail : map known ds ≡ wholes (n + 1) os = cc in
    let number : d.number ≡ n = ap (λ (k : KnownDecl). k.number) head ∙ is in
    ((let e : n ≤ d.number = omega (arith, number) in e), subst (λ (m : ℕ). NumbersFrom (m + 1) ds) (sym number) (rest ds tail))
numbers_case Part w ds n os is rest h = numbers_later (n + 1) n ds (omega arith) (rest ds h)
numbers_case Embedded w ds n os is rest h = numbers_later (n + 1) n ds (omega arith) (rest ds h)

numbers_from : (os : List Outer) (n : ℕ) (ds : List TopDeclTree) → map known ds ≡ wholes n os → NumbersFrom n ds
numbers_from [] n [] h = tt
numbers_from [] n (d ∷ ds) h = (let no : known d ∷ map known ds ≡ [] = h in cc)
numbers_from (o ∷ os) n ds h = numbers_case o.manner (record { ident = o.ident; number = n; kind = o.kind }) ds n os refl (λ es e. numbers_from os (n + 1) es e) h

pub outline_rises : (o : FileOutline) → IsOutline o → NumbersFrom 0 o.decls
outline_rises o is = subst (λ (p : FileOutline). NumbersFrom 0 p.decls) (sym is.1) (numbers_from (outer_names is.0) 0 (top_decls is.0) (numbers_are_places.table is.0))

-- a declaration at a number of a file, or behind it
abbrev pub IsFrom : ℕ → ℕ → DeclRef → Type 0
IsFrom file n d = (file < d.file) ⊎ ((file ≡ d.file) × (n ≤ d.number))

-- keys that rise from a number of a file on
abbrev pub KeysFrom : ℕ → ℕ → List Entry → Type 0
KeysFrom file n [] = ⊤
KeysFrom file n (e ∷ es) = IsFrom file n e.key.decl × KeysFrom e.key.decl.file (e.key.decl.number + 1) es

from_earlier : (file m n : ℕ) (d : DeclRef) → n ≤ m → IsFrom file m d → IsFrom file n d
from_earlier file m n d le h = elim h [ inl f ↦ inl f | inr s ↦ (let at = s.1 in inr (s.0, omega (arith, le, at))) ]

from_next_file : (file n : ℕ) (d : DeclRef) → IsFrom (file + 1) 0 d → IsFrom file n d
from_next_file file n d h = elim h [ inl f ↦ inl (omega (arith, f)) | inr s ↦ (let at = s.0 in inl (omega (arith, at))) ]

keys_earlier : (file m n : ℕ) (es : List Entry) → n ≤ m → KeysFrom file m es → KeysFrom file n es
keys_earlier file m n [] le h = tt
keys_earlier file m n (e ∷ es) le h = (from_earlier file m n e.key.decl le h.0, h.1)

keys_next_file : (file n : ℕ) (es : List Entry) → KeysFrom (file + 1) 0 es → KeysFrom file n es
keys_next_file file n [] h = tt
keys_next_file file n (e ∷ es) h = (from_next_file file n e.key.decl h.0, h.1)

module _ (also : Bool) where
  listed_keys : (mean : Meaning) (f : InFile) (rs : List Received) (d : TopDeclTree) (t : TypeSpecTree) (b : Bool) (ds : List TopDeclTree) (n : ℕ) (rest : List Entry) → n ≤ d.number → KeysFrom f.file (d.number + 1) (file_entries_by also mean f rs ds ++ rest)
      → KeysFrom f.file n (listed_entry b (spec_entry mean f rs d t) ++ file_entries_by also mean f rs ds ++ rest)
  listed_keys mean f rs d t true ds n rest le h = (inr (refl, le), h)
  listed_keys mean f rs d t false ds n rest le h = keys_earlier f.file (d.number + 1) n (file_entries_by also mean f rs ds ++ rest) (omega (arith, le)) h

  decl_keys : (mean : Meaning) (f : InFile) (rs : List Received) (d : TopDeclTree) (form : FormTree) (ds : List TopDeclTree) (n : ℕ) (rest : List Entry) → n ≤ d.number → KeysFrom f.file (d.number + 1) (file_entries_by also mean f rs ds ++ rest) → KeysFrom f.file n (entry_by also mean f rs d form ++ file_entries_by also mean f rs ds ++ rest)
  decl_keys mean f rs d (ValueForm k v i) ds n rest le h = keys_earlier f.file (d.number + 1) n (file_entries_by also mean f rs ds ++ rest) (omega (arith, le)) h
  decl_keys mean f rs d (TypeForm t) ds n rest le h = listed_keys mean f rs d t (is_listed also (alias_mark t)) ds n rest le h
  decl_keys mean f rs d (FuncForm g) ds n rest le h = keys_earlier f.file (d.number + 1) n (file_entries_by also mean f rs ds ++ rest) (omega (arith, le)) h

  file_keys : (mean : Meaning) (f : InFile) (rs : List Received) (ds : List TopDeclTree) (n : ℕ) (rest : List Entry) → NumbersFrom n ds → KeysFrom (f.file + 1) 0 rest → KeysFrom f.file n (file_entries_by also mean f rs ds ++ rest)
  file_keys mean f rs [] n rest h g = keys_next_file f.file n rest g
  file_keys mean f rs (d ∷ ds) n rest h g = decl_keys mean f rs d d.form ds n rest h.0 (file_keys mean f rs ds (d.number + 1) rest h.1 g)

  files_keys : (means : Meanings) (path : List ℕ) (rs : List Received) (k : ℕ) (os : List FileOutline) → All IsOutline os → KeysFrom k 0 (flat_map (λ p. file_entries_by also (means p.0) (file_at path p.0 p.1) rs p.1.decls) (enumerate_from k os))
  files_keys means path rs k [] all = tt
  files_keys means path rs k (o ∷ os) all =
      file_keys (means k) (file_at path k o) rs o.decls 0 (flat_map (λ p. file_entries_by also (means p.0) (file_at path p.0 p.1) rs p.1.decls) (enumerate_from (k + 1) os))
      (outline_rises o (All-head IsOutline o os all)) (files_keys means path rs (k + 1) os (All-tail IsOutline o os all))

pub entries_keys : (means : Meanings) (path : List ℕ) (rs : List Received) (os : List FileOutline) → All IsOutline os → KeysFrom 0 0 (entries_with means path rs os)
entries_keys means path rs os all = files_keys false means path rs 0 os all

pub before_next : (a b : DeclRef) → IsFrom a.file (a.number + 1) b → (nat_lt a.file b.file || (nat_eq a.file b.file && nat_lt a.number b.number)) ≡ true
before_next a b h = elim h [
  | inl f ↦ or_left (nat_lt a.file b.file) (nat_eq a.file b.file && nat_lt a.number b.number) (lt-ltb a.file b.file f)
  | inr s ↦ (
      let at = s.1 in
      let less : a.number < b.number = omega (arith, at) in
      or_right (nat_lt a.file b.file) (nat_eq a.file b.file && nat_lt a.number b.number) (and_from (nat_eq a.file b.file) (nat_lt a.number b.number) (eq-eqb a.file b.file s.0) (lt-ltb a.number b.number less))
      )
]

keys_rise : (file n : ℕ) (es : List Entry) → KeysFrom file n es → KeysRise es
keys_rise file n [] h = tt
keys_rise file n (e ∷ []) h = tt
keys_rise file n (e ∷ f ∷ es) h = (before_next e.key.decl f.key.decl h.1.0, keys_rise e.key.decl.file (e.key.decl.number + 1) (f ∷ es) h.1)

-- the keys of a package's entries rise
pub entries_rise : (means : Meanings) (path : List ℕ) (rs : List Received) (os : List FileOutline) → All IsOutline os → KeysRise (entries_with means path rs os)
entries_rise means path rs os all = keys_rise 0 0 (entries_with means path rs os) (entries_keys means path rs os all)

-- and where aliases count also
pub all_rise : (means : Meanings) (path : List ℕ) (rs : List Received) (os : List FileOutline) → All IsOutline os → KeysRise (entries_by true means path rs os)
all_rise means path rs os all = keys_rise 0 0 (entries_by true means path rs os) (files_keys true means path rs 0 os all)

-- they have its path

module _ (also : Bool) where
  listed_own : (mean : Meaning) (f : InFile) (rs : List Received) (d : TopDeclTree) (t : TypeSpecTree) (b : Bool) (ds : List TopDeclTree) (rest : List Entry) → AreOf f.path (file_entries_by also mean f rs ds ++ rest)
      → AreOf f.path (listed_entry b (spec_entry mean f rs d t) ++ file_entries_by also mean f rs ds ++ rest)
  listed_own mean f rs d t true ds rest h = (refl, h)
  listed_own mean f rs d t false ds rest h = h

  decl_own : (mean : Meaning) (f : InFile) (rs : List Received) (d : TopDeclTree) (form : FormTree) (ds : List TopDeclTree) (rest : List Entry) → AreOf f.path (file_entries_by also mean f rs ds ++ rest) → AreOf f.path (entry_by also mean f rs d form ++ file_entries_by also mean f rs ds ++ rest)
  decl_own mean f rs d (ValueForm k v i) ds rest h = h
  decl_own mean f rs d (TypeForm t) ds rest h = listed_own mean f rs d t (is_listed also (alias_mark t)) ds rest h
  decl_own mean f rs d (FuncForm g) ds rest h = h

  file_own : (mean : Meaning) (f : InFile) (rs : List Received) (ds : List TopDeclTree) (rest : List Entry) → AreOf f.path rest → AreOf f.path (file_entries_by also mean f rs ds ++ rest)
  file_own mean f rs [] rest g = g
  file_own mean f rs (d ∷ ds) rest g = decl_own mean f rs d d.form ds rest (file_own mean f rs ds rest g)

  files_own : (means : Meanings) (path : List ℕ) (rs : List Received) (k : ℕ) (os : List FileOutline) → AreOf path (flat_map (λ p. file_entries_by also (means p.0) (file_at path p.0 p.1) rs p.1.decls) (enumerate_from k os))
  files_own means path rs k [] = tt
  files_own means path rs k (o ∷ os) = file_own (means k) (file_at path k o) rs o.decls (flat_map (λ p. file_entries_by also (means p.0) (file_at path p.0 p.1) rs p.1.decls) (enumerate_from (k + 1) os)) (files_own means path rs (k + 1) os)

pub entries_own : (means : Meanings) (path : List ℕ) (rs : List Received) (os : List FileOutline) → AreOf path (entries_with means path rs os)
entries_own means path rs os = files_own false means path rs 0 os

pub all_own : (means : Meanings) (path : List ℕ) (rs : List Received) (os : List FileOutline) → AreOf path (entries_by true means path rs os)
all_own means path rs os = files_own true means path rs 0 os
