-- The places of declarations in a package's list.
use Rattle.std.proofs.Common.{◌≡◌, ℕ, zero, suc, ◌+◌, inl, inr, Bool, true, false, List, [], ◌∷◌, map, All, Option, Some, None, if◌then◌else◌, refl, sym, ap, ◌∙◌, subst, arith}
use Rattle.std.specs.Prelude.{slice_get}
use Rattle.std.specs.List.{enumerate_from}
use Rattle.std.specs.Option.{option_map}
use Rattle.std.proofs.lemmas.Option.{slice_get_within}
use Rattle.go_term_core.specs.decl_core.declared.keys.DeclRef.{DeclRef}
use Rattle.go_term_core.specs.decl_core.TopDecls.{TopDeclTree, kind_of_form}
use Rattle.go_block_core.specs.Blocks.{BlocksModel}
use Rattle.go_handle_core.specs.table_core.Entries.{Entry}
use Rattle.go_typexpr_core.specs.entry.Entries.{file_at, package_meanings}
use Rattle.go_typexpr_core.specs.entry.Laws.{IsDeclaredInFile}
use Rattle.go_typexpr_core.specs.entry.Meanings.{Shows, file_meaning}
use Rattle.go_typexpr_core.specs.entry.Outlines.{FileOutline, IsOutline}
use Rattle.go_typexpr_core.proofs.EntryAmong.{Among, among_from, among_to, among_flat, flat_among, among_numbered, numbered_among, among_map, map_among}
use Rattle.go_typexpr_core.proofs.EntryNumbered.{map-flat_map}
use Rattle.go_declared_core.specs.Laws.{IsOfFile, PositionsAreExact, Stands, file_decl, package_decls, written_there}
use Rattle.go_declared_core.specs.Written.{DeclsRise, WrittenOf, decls_of, file_written, package_written, position_of, same_decl_place, written_of}
use Rattle.go_declared_core.proofs.Ascending.{written_rises}
use Rattle.go_declared_core.proofs.Placed.{same_itself}
use Rattle.go_declared_core.proofs.Searching.{number_of, number_at}
use Rattle.go_block_core.specs.Declarations.{decl_ref}

-- items and their numbers

pub among_at : {A : Type 0} (xs : List A) (n : ℕ) (x : A) → slice_get xs n ≡ Some x → Among xs x
among_at [] n x h = absurd (let no : None ≡ Some x = h in cc)
among_at (y ∷ xs) zero x h = inl (let s : Some y ≡ Some x = h in cc)
among_at (y ∷ xs) (suc n) x h = inr (among_at xs n x h)

pub at_among : {A : Type 0} (xs : List A) (x : A) → Among xs x → (n : ℕ) × (slice_get xs n ≡ Some x)
at_among [] x h = absurd h
at_among (y ∷ xs) x h = elim h [
  | inl e ↦ (0, ap Some e)
  | inr r ↦ (let s = at_among xs x r in (suc s.0, s.1))
]

-- positions

position_as : (ws : List WrittenOf) (d : DeclRef) → position_of ws d ≡ number_of (λ w. w.decl) ws d
position_as [] d = refl
position_as (w ∷ ws) d = ap (λ o. if same_decl_place w.decl d then Some 0 else option_map suc o) (position_as ws d)

position_at : (ws : List WrittenOf) (k : ℕ) (w : WrittenOf) → DeclsRise (decls_of ws) → slice_get ws k ≡ Some w → position_of ws w.decl ≡ Some k
position_at ws k w rise at = position_as ws w.decl ∙ number_at (λ (v : WrittenOf). v.decl) ws w.decl k w rise at (same_itself w.decl)

abbrev IsThere : List WrittenOf → DeclRef → ℕ → Type 0
IsThere ws d k = (w : WrittenOf) × (slice_get ws k ≡ Some w) × (same_decl_place w.decl d ≡ true)

there_behind : (w : WrittenOf) (ws : List WrittenOf) (d : DeclRef) (o : Option ℕ) (k : ℕ) → ((j : ℕ) → o ≡ Some j → IsThere ws d j) → option_map suc o ≡ Some k → IsThere (w ∷ ws) d k
there_behind w ws d None k rest h = absurd (let no : None ≡ Some k = h in cc)
there_behind w ws d (Some j) k rest h =
    let next : suc j ≡ k = (let s : Some (suc j) ≡ Some k = h in cc) in
    subst (IsThere (w ∷ ws) d) next (rest j refl)

position_there : (ws : List WrittenOf) (d : DeclRef) (k : ℕ) → position_of ws d ≡ Some k → IsThere ws d k
position_there [] d k h = absurd (let no : None ≡ Some k = h in cc)
position_there (w ∷ ws) d k h = by (same_decl_place w.decl d) refl h (λ j e. position_there ws d j e)
  where
    by : (b : Bool) → same_decl_place w.decl d ≡ b → (if b then Some 0 else option_map suc (position_of ws d)) ≡ Some k → ((j : ℕ) → position_of ws d ≡ Some j → IsThere ws d j) → IsThere (w ∷ ws) d k
    by true t g rest =
        let first : 0 ≡ k = (let s : Some 0 ≡ Some k = g in cc) in
        subst (IsThere (w ∷ ws) d) first (w, refl, t)
    by false t g rest = there_behind w ws d (position_of ws d) k rest g

-- files

module _ (shows : Shows) (path : List ℕ) (b : BlocksModel) (es : List Entry) (os : List FileOutline) where
  abbrev ours : List WrittenOf
  ours = package_written shows path b es os

  abbrev of_file : ℕ × FileOutline → List WrittenOf
  of_file p = file_written (file_meaning shows path b p.0) (file_at path p.0 p.1) es p.1.decls

  from_file : (w : WrittenOf) → Among ours w → IsOfFile shows path b es os w
  from_file w h =
      let p = among_flat of_file (enumerate_from 0 os) w h in
      let n = among_numbered 0 os p.0 p.1 in
      let at = n.1 in
      let same : n.0 ≡ p.0.0 = omega (arith, at) in
      let d = among_map (written_of (file_meaning shows path b p.0.0) (file_at path p.0.0 p.0.1) es) p.0.1.decls w p.2 in
      record {
        file = p.0.0;
        outline = p.0.1;
        decl = d.0;
        there = (ap (slice_get os) (sym same) ∙ n.2, among_to p.0.1.decls d.0 d.1);
        is = sym d.2;
      }

  in_list : (n : ℕ) (o : FileOutline) (d : TopDeclTree) → IsDeclaredInFile os n o d → Among ours (written_of (file_meaning shows path b n) (file_at path n o) es d)
  in_list n o d h =
      let w = written_of (file_meaning shows path b n) (file_at path n o) es d in
      let at : 0 + n ≡ n = omega arith in
      let numbered = subst (λ (m : ℕ). Among (enumerate_from 0 os) (m, o)) at (numbered_among 0 os n o h.0) in
      flat_among of_file (enumerate_from 0 os) w (n, o) numbered
      (map_among (written_of (file_meaning shows path b n) (file_at path n o) es) o.decls w d (among_from o.decls d h.1) refl)

  module _ (all : All IsOutline os) where
    rise : DeclsRise (decls_of ours)
    rise = written_rises (package_meanings shows path b) path es os all

    declared : (n : ℕ) (o : FileOutline) (d : TopDeclTree) → IsDeclaredInFile os n o d
        → Stands ours (decl_ref n d.number (kind_of_form d.form)) (written_of (file_meaning shows path b n) (file_at path n o) es d)
    declared n o d h =
        let w = written_of (file_meaning shows path b n) (file_at path n o) es d in
        let k = at_among ours w (in_list n o d h) in
        record { place = k.0; there = k.1; found = position_at ours k.0 w rise k.1 }

-- the list, declaration by declaration

map_map : {A B C : Type 0} (f : A → B) (g : B → C) (h : A → C) → ((x : A) → g (f x) ≡ h x) → (xs : List A) → map h xs ≡ map g (map f xs)
map_map f g h same [] = refl
map_map f g h same (x ∷ xs) =
    let rest = map_map f g h same xs in
    let first = sym (same x) in
    λ i. first i ∷ rest i

listed : (shows : Shows) (path : List ℕ) (b : BlocksModel) (es : List Entry) (os : List FileOutline) → package_written shows path b es os ≡ map (written_there shows path b es) (package_decls os)
listed shows path b es os =
    sym (map-flat_map (written_there shows path b es) (λ p. map (file_decl p.0 p.1) p.1.decls) (of_file shows path b es os)
    (λ p. sym (map_map (file_decl p.0 p.1) (written_there shows path b es) (written_of (file_meaning shows path b p.0) (file_at path p.0 p.1) es) (λ d. refl) p.1.decls)) (enumerate_from 0 os))

pub positions_are_exact : PositionsAreExact
positions_are_exact = record {
  listed = listed;
  declared = λ shows path b es os n o d all h. declared shows path b es os all n o d h;
  place = λ shows path b es os k w all at. (position_at (package_written shows path b es os) k w (rise shows path b es os all) at, from_file shows path b es os w (among_at (package_written shows path b es os) k w at));
  position = λ ws d k h. (let w = position_there ws d k h in (slice_get_within ws k w.0 w.1, w));
}
