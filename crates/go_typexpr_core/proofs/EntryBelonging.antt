-- What stands in the entries of a package.
use Rattle.std.proofs.Common.{◌≡◌, ℕ, zero, suc, ◌+◌, ◌<◌, ◌≤◌, ◌↔◌, inl, inr, Bool, true, false, List, [], ◌∷◌, ◌++◌, length, get_or, map, All, Option, Some, None, cond, refl, sym, ap, ◌∙◌, subst, append_assoc, arith}
use Rattle.std.specs.Prelude.{slice_get, ⊤, AllPairs, Contains}
use Rattle.std.specs.List.{filter, flat_map, enumerate_from}
use Rattle.std.proofs.lemmas.List.Elements.{All-head, All-tail, Contains-get_or}
use Rattle.std.proofs.lemmas.Option.{slice_get-get_or}
use Rattle.go_path_core.specs.text_core.declared.span.Span.{Span}
use Rattle.go_tree_nodes.specs.declared.files.Receiver.{Receiver}
use Rattle.go_tree_nodes.specs.Trees.{FuncTree, TypeSpecTree}
use Rattle.go_term_core.specs.decl_core.declared.places.DeclKind.TheVariants as kinds
use Rattle.go_term_core.specs.decl_core.declared.keys.DeclKey.{DeclKey}
use Rattle.go_term_core.specs.decl_core.declared.keys.DeclRef.{DeclRef}
use Rattle.go_term_core.specs.decl_core.TopDecls.{TopDeclTree, FormTree, ValueForm, TypeForm, FuncForm}
use Rattle.go_scope_core.specs.block_core.Blocks.{BlocksModel}
use Rattle.go_term_core.specs.declared.term.MemberPlace.{MemberPlace}
use Rattle.go_term_core.specs.declared.term.MemberPlace.TheVariants as places
use Rattle.go_term_core.specs.Terms.{Term, Defined}
use Rattle.go_type_core.specs.table_core.Entries.{Entry, Member}
use Rattle.go_type_core.specs.table_core.Tables.{KeysRise}
use Rattle.go_typexpr_core.specs.written.Written.{InFile, Meaning}
use Rattle.go_typexpr_core.specs.entry.Entries.{Received, Meanings, is_type_of, methods_received, received_of, func_methods, decl_methods, file_methods, package_methods, spec_entry, entry_of, is_listed, listed_entry, file_at, entries_with, declared_entries, package_meanings, type_key, method_of}
use Rattle.go_typexpr_core.specs.entry.Laws.{IsTypeKey, KeysDiffer, IsDeclaredMethod, IsPlaceBefore, MethodsAreOfTheType}
use Rattle.go_typexpr_core.specs.entry.Marks.{alias_mark}
use Rattle.go_typexpr_core.specs.entry.Meanings.{Shows}
use Rattle.go_typexpr_core.specs.entry.Outlines.{FileOutline, IsOutline}
use Rattle.go_typexpr_core.proofs.EntryAmong.{Among, among_from, among_to, among_flat, flat_among, among_numbered, numbered_among, among_filter, filter_among, among_map, map_among}
use Rattle.go_typexpr_core.proofs.EntryOrdered.{NumbersFrom, IsFrom, outline_rises, before_next, entries_rise, entries_own}
use Rattle.go_typexpr_core.proofs.EntryPlacing.{rise_one, type_is}
use Rattle.go_type_core.specs.table_core.Keys.{same_key_itself}
use Rattle.go_scope_core.specs.block_core.Declarations.{decl_ref}

-- types and keys

is_type : (k : DeclKey) (t : Term) → t ≡ Defined k → is_type_of k t ≡ true
is_type k t h = subst (λ (u : Term). is_type_of k u ≡ true) (sym h) (same_key_itself k)

-- items of files

-- a declaration of the file of a number
pub record Found (os : List FileOutline) : Type 0 where
  pub file : ℕ
  pub outline : FileOutline
  pub decl : TopDeclTree
  pub there : slice_get os file ≡ Some outline
  pub among : Among outline.decls decl

pub found_in : {A : Type 0} (os : List FileOutline) (f : ℕ → FileOutline → TopDeclTree → List A) (x : A) → Among (flat_map (λ p. flat_map (f p.0 p.1) p.1.decls) (enumerate_from 0 os)) x → (d : Found os) × Among (f d.file d.outline d.decl) x
found_in os f x h =
    let p = among_flat (λ p. flat_map (f p.0 p.1) p.1.decls) (enumerate_from 0 os) x h in
    let n = among_numbered 0 os p.0 p.1 in
    let at = n.1 in
    let same : n.0 ≡ p.0.0 = omega (arith, at) in
    let d = among_flat (f p.0.0 p.0.1) p.0.1.decls x p.2 in
    (record { file = p.0.0; outline = p.0.1; decl = d.0; there = ap (slice_get os) (sym same) ∙ n.2; among = d.1 }, d.2)

pub put_in : {A : Type 0} (os : List FileOutline) (f : ℕ → FileOutline → TopDeclTree → List A) (x : A) (d : Found os) → Among (f d.file d.outline d.decl) x → Among (flat_map (λ p. flat_map (f p.0 p.1) p.1.decls) (enumerate_from 0 os)) x
put_in os f x d h =
    let at : 0 + d.file ≡ d.file = omega arith in
    let numbered = subst (λ (m : ℕ). Among (enumerate_from 0 os) (m, d.outline)) at (numbered_among 0 os d.file d.outline d.there) in
    flat_among (λ p. flat_map (f p.0 p.1) p.1.decls) (enumerate_from 0 os) x (d.file, d.outline) numbered
    (flat_among (f d.file d.outline) d.outline.decls x d.decl d.among h)

-- entries

abbrev entry_at : Meanings → List ℕ → List Received → ℕ → FileOutline → TopDeclTree → List Entry
entry_at means path rs n o d = entry_of (means n) (file_at path n o) rs d d.form

-- what counts is no alias
listed_is : (mark : Option Span) (s e : Entry) → Among (listed_entry (is_listed false mark) s) e → (mark ≡ None) × (s ≡ e)
listed_is None s e h = elim h [ inl q ↦ (refl, q) | inr none ↦ absurd none ]
listed_is (Some m) s e h = absurd h

listed_there : (mark : Option Span) (s : Entry) → mark ≡ None → Among (listed_entry (is_listed false mark) s) s
listed_there mark s h = subst (λ (m : Option Span). Among (listed_entry (is_listed false m) s) s) (sym h) (inl refl)

entry_is : (mean : Meaning) (f : InFile) (rs : List Received) (d : TopDeclTree) (form : FormTree) (e : Entry) → Among (entry_of mean f rs d form) e → (t : TypeSpecTree) × (form ≡ TypeForm t) × (alias_mark t ≡ None) × (spec_entry mean f rs d t ≡ e)
entry_is mean f rs d (ValueForm k v i) e h = absurd h
entry_is mean f rs d (TypeForm t) e h = (let l = listed_is (alias_mark t) (spec_entry mean f rs d t) e h in (t, refl, l.0, l.1))
entry_is mean f rs d (FuncForm g) e h = absurd h

entry_there : (mean : Meaning) (f : InFile) (rs : List Received) (d : TopDeclTree) (form : FormTree) (t : TypeSpecTree) → form ≡ TypeForm t → alias_mark t ≡ None → Among (entry_of mean f rs d form) (spec_entry mean f rs d t)
entry_there mean f rs d form t h defined = subst (λ (g : FormTree). Among (entry_of mean f rs d g) (spec_entry mean f rs d t)) (sym h) (listed_there (alias_mark t) (spec_entry mean f rs d t) defined)

entry_methods : (means : Meanings) (path : List ℕ) (rs : List Received) (os : List FileOutline) (e : Entry) → Among (entries_with means path rs os) e → e.methods ≡ methods_received e.key rs
entry_methods means path rs os e h =
    let d = found_in os (entry_at means path rs) e h in
    let t = entry_is (means d.0.file) (file_at path d.0.file d.0.outline) rs d.0.decl d.0.decl.form e d.1 in
    subst (λ (x : Entry). x.methods ≡ methods_received x.key rs) t.3 refl

-- the key of a type declaration that is found
found_key : (path : List ℕ) (os : List FileOutline) (d : Found os) (t : TypeSpecTree) (k : DeclKey) → d.decl.form ≡ TypeForm t → alias_mark t ≡ None → k ≡ type_key (file_at path d.file d.outline) d.decl.number → IsTypeKey path os k
found_key path os d t k form defined key = record {
  file = d.file;
  outline = d.outline;
  decl = d.decl;
  there = (d.there, among_to d.outline.decls d.decl d.among);
  spec = t;
  form = form;
  defined = defined;
  key = key;
}

entry_key : (means : Meanings) (path : List ℕ) (rs : List Received) (os : List FileOutline) (k : DeclKey) (e : Entry) → e.key ≡ k → (d : Found os) → Among (entry_at means path rs d.file d.outline d.decl) e → IsTypeKey path os k
entry_key means path rs os k e key d h =
    let t = entry_is (means d.file) (file_at path d.file d.outline) rs d.decl d.decl.form e h in
    let own : e.key ≡ type_key (file_at path d.file d.outline) d.decl.number = sym (ap (λ (x : Entry). x.key) t.3) in
    found_key path os d t.0 k t.1 t.2 (sym key ∙ own)

key_there : (means : Meanings) (path : List ℕ) (rs : List Received) (os : List FileOutline) (k : DeclKey) → Contains (map (λ e. e.key) (entries_with means path rs os)) k → IsTypeKey path os k
key_there means path rs os k h =
    let e = among_map (λ (e : Entry). e.key) (entries_with means path rs os) k (among_from (map (λ e. e.key) (entries_with means path rs os)) k h) in
    let d = found_in os (entry_at means path rs) e.0 e.1 in
    entry_key means path rs os k e.0 e.2 d.0 d.1

there_key : (means : Meanings) (path : List ℕ) (rs : List Received) (os : List FileOutline) (k : DeclKey) → IsTypeKey path os k → Contains (map (λ e. e.key) (entries_with means path rs os)) k
there_key means path rs os k h =
    let d : Found os = record { file = h.file; outline = h.outline; decl = h.decl; there = h.there.0; among = among_from h.outline.decls h.decl h.there.1 } in
    let mean = means h.file in
    let f = file_at path h.file h.outline in
    among_to (map (λ e. e.key) (entries_with means path rs os)) k
    (map_among (λ (e : Entry). e.key) (entries_with means path rs os) k (spec_entry mean f rs h.decl h.spec)
    (put_in os (entry_at means path rs) (spec_entry mean f rs h.decl h.spec) d (entry_there mean f rs h.decl h.decl.form h.spec h.form h.defined))
    (sym h.key))

keys_apart : (es : List Entry) → KeysRise es → AllPairs (λ (e f : Entry). e.key ≡ f.key → ⊥) es
keys_apart es rise i j d less lt same =
    let first : i < length es = omega (arith, less, lt) in
    let one = rise_one es rise i j (get_or es i d) (get_or es j d) (slice_get-get_or es i d first) (slice_get-get_or es j d lt) same in
    absurd (omega (arith, one, less))

pub keys_differ : KeysDiffer
keys_differ = record {
  own = λ shows path b os. entries_own (package_meanings shows path b) path (package_methods (package_meanings shows path b) path os) os;
  rising = λ shows path b os all. entries_rise (package_meanings shows path b) path (package_methods (package_meanings shows path b) path os) os all;
  differ = λ shows path b os all. keys_apart (declared_entries shows path b os) (entries_rise (package_meanings shows path b) path (package_methods (package_meanings shows path b) path os) os all);
  keys = λ shows path b os k. (
    key_there (package_meanings shows path b) path (package_methods (package_meanings shows path b) path os) os k,
    there_key (package_meanings shows path b) path (package_methods (package_meanings shows path b) path os) os k,
  );
}

-- methods

abbrev methods_at : Meanings → List ℕ → ℕ → FileOutline → TopDeclTree → List Received
methods_at means path n o d = decl_methods (means n) (file_at path n o) d d.form

func_is : (mean : Meaning) (f : InFile) (d : TopDeclTree) (g : FuncTree) (receiver : Option Receiver) (r : Received) → Among (func_methods mean f d g receiver) r → (q : Receiver) × (receiver ≡ Some q) × (received_of mean f d g q ≡ r)
func_is mean f d g None r h = absurd h
func_is mean f d g (Some q) r h = elim h [ inl s ↦ (q, refl, s) | inr none ↦ absurd none ]

method_is : (mean : Meaning) (f : InFile) (d : TopDeclTree) (form : FormTree) (r : Received) → Among (decl_methods mean f d form) r → (g : FuncTree) × (form ≡ FuncForm g) × ((q : Receiver) × (g.receiver ≡ Some q) × (received_of mean f d g q ≡ r))
method_is mean f d (ValueForm k v i) r h = absurd h
method_is mean f d (TypeForm t) r h = absurd h
method_is mean f d (FuncForm g) r h = (g, refl, func_is mean f d g g.receiver r h)

func_there : (mean : Meaning) (f : InFile) (d : TopDeclTree) (g : FuncTree) (receiver : Option Receiver) (q : Receiver) → receiver ≡ Some q → Among (func_methods mean f d g receiver) (received_of mean f d g q)
func_there mean f d g receiver q h = subst (λ (o : Option Receiver). Among (func_methods mean f d g o) (received_of mean f d g q)) (sym h) (inl refl)

method_there : (mean : Meaning) (f : InFile) (d : TopDeclTree) (form : FormTree) (g : FuncTree) (q : Receiver) → form ≡ FuncForm g → g.receiver ≡ Some q → Among (decl_methods mean f d form) (received_of mean f d g q)
method_there mean f d form g q h k = subst (λ (o : FormTree). Among (decl_methods mean f d o) (received_of mean f d g q)) (sym h) (func_there mean f d g g.receiver q k)

module _ (shows : Shows) (path : List ℕ) (b : BlocksModel) (os : List FileOutline) where
  abbrev own_means : Meanings
  own_means = package_meanings shows path b

  abbrev own_methods : List Received
  own_methods = package_methods own_means path os

  -- a method that is found, with a receiver whose base means a type
  found_method : (d : Found os) (g : FuncTree) (q : Receiver) (k : DeclKey) (m : Member) → d.decl.form ≡ FuncForm g → g.receiver ≡ Some q → own_means d.file q.base ≡ Defined k
      → m ≡ method_of (own_means d.file) (file_at path d.file d.outline) d.decl g q → IsDeclaredMethod shows path b os (Defined k) m
  found_method d g q k m form received meant written = record {
    file = d.file;
    outline = d.outline;
    decl = d.decl;
    there = (d.there, among_to d.outline.decls d.decl d.among);
    func = g;
    form = form;
    receiver = q;
    received = received;
    means = meant;
    written = written;
  }

  own_method : (k : DeclKey) (m : Member) (r : Received) → is_type_of k r.base ≡ true → r.member ≡ m → (d : Found os) → Among (methods_at own_means path d.file d.outline d.decl) r → IsDeclaredMethod shows path b os (Defined k) m
  own_method k m r meant is d h =
      let g = method_is (own_means d.file) (file_at path d.file d.outline) d.decl d.decl.form r h in
      let base : own_means d.file g.2.0.base ≡ Defined k = ap (λ (x : Received). x.base) g.2.2 ∙ type_is k r.base meant in
      let written : m ≡ method_of (own_means d.file) (file_at path d.file d.outline) d.decl g.0 g.2.0 = sym (ap (λ (x : Received). x.member) g.2.2 ∙ is) in
      found_method d g.0 g.2.0 k m g.1 g.2.1 base written

  in_methods : (k : DeclKey) (m : Member) → Among (methods_received k own_methods) m → IsDeclaredMethod shows path b os (Defined k) m
  in_methods k m h =
      let r = among_map (λ (r : Received). r.member) (filter (λ r. is_type_of k r.base) own_methods) m h in
      let passed = among_filter (λ (r : Received). is_type_of k r.base) own_methods r.0 r.1 in
      let d = found_in os (methods_at own_means path) r.0 passed.0 in
      own_method k m r.0 passed.1 r.2 d.0 d.1

  to_methods : (k : DeclKey) (m : Member) → IsDeclaredMethod shows path b os (Defined k) m → Among (methods_received k own_methods) m
  to_methods k m h =
      let d : Found os = record { file = h.file; outline = h.outline; decl = h.decl; there = h.there.0; among = among_from h.outline.decls h.decl h.there.1 } in
      let mean = own_means h.file in
      let f = file_at path h.file h.outline in
      let r = received_of mean f h.decl h.func h.receiver in
      let listed : Among own_methods r = put_in os (methods_at own_means path) r d (method_there mean f h.decl h.decl.form h.func h.receiver h.form h.received) in
      map_among (λ (s : Received). s.member) (filter (λ s. is_type_of k s.base) own_methods) m r
      (filter_among (λ (s : Received). is_type_of k s.base) own_methods r listed (is_type k r.base h.means))
      (sym h.written)

  belongs : (e : Entry) (m : Member) → Contains (declared_entries shows path b os) e → Contains e.methods m ↔ IsDeclaredMethod shows path b os (Defined e.key) m
  belongs e m h =
      let own = entry_methods own_means path own_methods os e (among_from (declared_entries shows path b os) e h) in (
        (λ c. in_methods e.key m (subst (λ (ms : List Member). Among ms m) own (among_from e.methods m c))),
        (λ is. among_to e.methods m (subst (λ (ms : List Member). Among ms m) (sym own) (to_methods e.key m is))),
      )

-- methods in order

-- methods that stand outside bodies, from a number of a file on
abbrev PlacesFrom : ℕ → ℕ → List Received → Type 0
PlacesFrom file n [] = ⊤
PlacesFrom file n (r ∷ rs) = (d : DeclRef) × (r.member.place ≡ places.Declared d) × IsFrom file n d × PlacesFrom d.file (d.number + 1) rs

from_on : (file n : ℕ) (d e : DeclRef) → IsFrom file n d → IsFrom d.file (d.number + 1) e → IsFrom file n e
from_on file n d e h k = elim h [
  | inl f ↦ elim k [ inl g ↦ inl (omega (arith, f, g)) | inr s ↦ (let at = s.0 in inl (omega (arith, f, at))) ]
  | inr t ↦ elim k [
    | inl g ↦ (let at = t.0 in inl (omega (arith, at, g)))
    | inr s ↦ (let low = t.1 in let high = s.1 in inr (t.0 ∙ s.0, omega (arith, low, high)))
  ]
]

places_behind : (file n : ℕ) (d : DeclRef) (rs : List Received) → IsFrom file n d → PlacesFrom d.file (d.number + 1) rs → PlacesFrom file n rs
places_behind file n d [] h k = tt
places_behind file n d (r ∷ rs) h k = (k.0, k.1, from_on file n d k.0 h k.2, k.3)

places_earlier : (file m n : ℕ) (rs : List Received) → n ≤ m → PlacesFrom file m rs → PlacesFrom file n rs
places_earlier file m n [] le h = tt
places_earlier file m n (r ∷ rs) le h = (h.0, h.1, elim h.2 [ inl f ↦ inl f | inr s ↦ (let at = s.1 in inr (s.0, omega (arith, le, at))) ], h.3)

places_next_file : (file n : ℕ) (rs : List Received) → PlacesFrom (file + 1) 0 rs → PlacesFrom file n rs
places_next_file file n [] h = tt
places_next_file file n (r ∷ rs) h = (h.0, h.1, elim h.2 [ inl f ↦ inl (omega (arith, f)) | inr s ↦ (let at = s.0 in inl (omega (arith, at))) ], h.3)

places_filter : (p : Received → Bool) (file n : ℕ) (rs : List Received) → PlacesFrom file n rs → PlacesFrom file n (filter p rs)
places_filter p file n [] h = tt
places_filter p file n (r ∷ rs) h = by (p r) (places_filter p h.0.file (h.0.number + 1) rs h.3)
  where
    by : (c : Bool) → PlacesFrom h.0.file (h.0.number + 1) (filter p rs) → PlacesFrom file n (cond c (r ∷ filter p rs) (filter p rs))
    by true k = (h.0, h.1, h.2, k)
    by false k = places_behind file n h.0 (filter p rs) h.2 k

func_places : (mean : Meaning) (f : InFile) (d : TopDeclTree) (g : FuncTree) (receiver : Option Receiver) (n : ℕ) (rest : List Received) → n ≤ d.number → PlacesFrom f.file (d.number + 1) rest → PlacesFrom f.file n (func_methods mean f d g receiver ++ rest)
func_places mean f d g None n rest le h = places_earlier f.file (d.number + 1) n rest (omega (arith, le)) h
func_places mean f d g (Some r) n rest le h = (decl_ref f.file d.number kinds.Method, refl, inr (refl, le), h)

decl_places : (mean : Meaning) (f : InFile) (d : TopDeclTree) (form : FormTree) (n : ℕ) (rest : List Received) → n ≤ d.number → PlacesFrom f.file (d.number + 1) rest → PlacesFrom f.file n (decl_methods mean f d form ++ rest)
decl_places mean f d (ValueForm k v i) n rest le h = places_earlier f.file (d.number + 1) n rest (omega (arith, le)) h
decl_places mean f d (TypeForm t) n rest le h = places_earlier f.file (d.number + 1) n rest (omega (arith, le)) h
decl_places mean f d (FuncForm g) n rest le h = func_places mean f d g g.receiver n rest le h

file_places : (mean : Meaning) (f : InFile) (ds : List TopDeclTree) (n : ℕ) (rest : List Received) → NumbersFrom n ds → PlacesFrom (f.file + 1) 0 rest → PlacesFrom f.file n (file_methods mean f ds ++ rest)
file_places mean f [] n rest h g = places_next_file f.file n rest g
file_places mean f (d ∷ ds) n rest h g =
    subst (λ (l : List Received). PlacesFrom f.file n l) (sym (append_assoc (decl_methods mean f d d.form) (file_methods mean f ds) rest))
    (decl_places mean f d d.form n (file_methods mean f ds ++ rest) h.0 (file_places mean f ds (d.number + 1) rest h.1 g))

files_places : (means : Meanings) (path : List ℕ) (k : ℕ) (os : List FileOutline) → All IsOutline os → PlacesFrom k 0 (flat_map (λ p. file_methods (means p.0) (file_at path p.0 p.1) p.1.decls) (enumerate_from k os))
files_places means path k [] all = tt
files_places means path k (o ∷ os) all =
    file_places (means k) (file_at path k o) o.decls 0 (flat_map (λ p. file_methods (means p.0) (file_at path p.0 p.1) p.1.decls) (enumerate_from (k + 1) os))
    (outline_rises o (All-head IsOutline o os all)) (files_places means path (k + 1) os (All-tail IsOutline o os all))

abbrev Ordered : List Member → Type 0
Ordered ms = AllPairs (λ (m n : Member). IsPlaceBefore m.place n.place) ms

place_before : (a b : MemberPlace) (d e : DeclRef) → a ≡ places.Declared d → b ≡ places.Declared e → IsFrom d.file (d.number + 1) e → IsPlaceBefore a b
place_before a b d e p q h =
    subst (λ (x : MemberPlace). IsPlaceBefore x b) (sym p) (subst (λ (x : MemberPlace). IsPlaceBefore (places.Declared d) x) (sym q) (before_next d e h))

all_behind : (m : Member) (d : DeclRef) (rs : List Received) → m.place ≡ places.Declared d → PlacesFrom d.file (d.number + 1) rs → (j : ℕ) (x : Member) → j < length (map (λ r. r.member) rs) → IsPlaceBefore m.place (get_or (map (λ r. r.member) rs) j x).place
all_behind m d [] at h j x lt = absurd (omega (arith, lt))
all_behind m d (r ∷ rs) at h zero x lt = place_before m.place r.member.place d h.0 at h.1 h.2
all_behind m d (r ∷ rs) at h (suc j) x lt = all_behind m d rs at (places_behind d.file (d.number + 1) h.0 rs h.2 h.3) j x (omega (arith, lt))

pairs_more : (m : Member) (ms : List Member) → ((j : ℕ) (x : Member) → j < length ms → IsPlaceBefore m.place (get_or ms j x).place) → Ordered ms → Ordered (m ∷ ms)
pairs_more m ms first rest zero zero x less lt = absurd (omega (arith, less))
pairs_more m ms first rest zero (suc j) x less lt = first j x (omega (arith, lt))
pairs_more m ms first rest (suc i) zero x less lt = absurd (omega (arith, less))
pairs_more m ms first rest (suc i) (suc j) x less lt = rest i j x (omega (arith, less)) (omega (arith, lt))

members_ordered : (file n : ℕ) (rs : List Received) → PlacesFrom file n rs → Ordered (map (λ r. r.member) rs)
members_ordered file n [] h = λ i j x less lt. absurd (omega (arith, lt))
members_ordered file n (r ∷ rs) h =
    pairs_more r.member (map (λ r. r.member) rs) (all_behind r.member h.0 rs h.1 h.3) (members_ordered h.0.file (h.0.number + 1) rs h.3)

entry_ordered : (means : Meanings) (path : List ℕ) (os : List FileOutline) → All IsOutline os → All (λ (e : Entry). Ordered e.methods) (entries_with means path (package_methods means path os) os)
entry_ordered means path os all k d lt =
    let rs = package_methods means path os in
    let es = entries_with means path rs os in
    let e = get_or es k d in
    let own = entry_methods means path rs os e (among_from es e (Contains-get_or es k d lt)) in
    subst (λ (ms : List Member). Ordered ms) (sym own) (members_ordered 0 0 (filter (λ r. is_type_of e.key r.base) rs) (places_filter (λ r. is_type_of e.key r.base) 0 0 rs (files_places means path 0 os all)))

pub methods_are_of_the_type : MethodsAreOfTheType
methods_are_of_the_type = record {
  methods = belongs;
  order = λ shows path b os all. entry_ordered (package_meanings shows path b) path os all;
}
