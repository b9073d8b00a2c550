-- The methods of the types of a package: those that are declared at one place have one signature.
use Rattle.std.proofs.Common.{◌≡◌, inl, inr, ℕ, ◌+◌, ◌≤◌, Bool, true, false, ◌||◌, List, [], ◌∷◌, Option, Some, None, refl, sym, ap, ◌∙◌, subst, arith, if◌then◌else◌}
use Rattle.std.specs.Prelude.{slice_get}
use Rattle.std.specs.List.{enumerate_from, filter}
use Rattle.go_tree_nodes.specs.declared.files.Receiver.{Receiver}
use Rattle.go_tree_nodes.specs.Trees.{FuncTree}
use Rattle.go_constant_core.specs.text_core.Text.{is_blank}
use Rattle.go_constant_core.specs.text_core.declared.span.Span.{Span}
use Rattle.go_term_core.specs.decl_core.declared.keys.DeclKey.{DeclKey}
use Rattle.go_term_core.specs.decl_core.declared.keys.DeclRef.{DeclRef}
use Rattle.go_term_core.specs.decl_core.TopDecls.{FormTree, FuncForm, TopDeclTree, TypeForm, ValueForm}
use Rattle.go_term_core.specs.declared.term.MemberPlace.{MemberPlace}
use Rattle.go_term_core.specs.declared.term.MemberPlace.TheVariants as places
use Rattle.go_term_core.specs.Terms.{Term}
use Rattle.go_term_core.specs.declared.settling.kind.Kind.{Kind}
use Rattle.go_term_core.specs.declared.settling.kind.Kind.TheVariants as kinds
use Rattle.go_term_core.specs.settling.Settled.{is_among_names, kind_of_term, settled_sign}
use Rattle.go_body_core.specs.table_core.Entries.{Entry, EntryLook, Member}
use Rattle.go_body_core.specs.table_core.Methods.{has_field_before}
use Rattle.go_select_core.specs.type_core.Built.{AreEntries, IsBuilt, IsEntry, kept_over, settled_member, unrepeated_methods}
use Rattle.go_select_core.specs.type_core.declared.build.TypeFault.{TypeFault}
use Rattle.go_body_core.specs.typexpr_core.WrittenWritten.{InFile, Meaning}
use Rattle.go_body_core.specs.typexpr_core.EntryEntries.{Meanings, Received, decl_methods, entries_with, entry_of, file_at, file_entries, file_methods, func_methods, is_listed, is_type_of, listed_entry, method_place, methods_received, package_methods, spec_entry, type_key}
use Rattle.go_body_core.specs.typexpr_core.EntryOutlines.{FileOutline, IsOutline}
use Rattle.go_body_core.specs.typexpr_core.EntryAmong.{Among, among_filter, among_flat, among_map, among_numbered}
use Rattle.go_body_core.specs.typexpr_core.EntryOrdered.{NumbersFrom, outline_rises}

-- declarations of a file have numbers of their own

from_least : (n : ℕ) (ds : List TopDeclTree) → NumbersFrom n ds → (d : TopDeclTree) → Among ds d → n ≤ d.number
from_least n [] h d a = absurd a
from_least n (x ∷ ds) h d (inl e) = subst (λ (y : TopDeclTree). n ≤ y.number) e h.0
from_least n (x ∷ ds) h d (inr a) = (let low = h.0 in let more = from_least (x.number + 1) ds h.1 d a in omega (arith, low, more))

pub one_number : (n : ℕ) (ds : List TopDeclTree) → NumbersFrom n ds → (a b : TopDeclTree) → Among ds a → Among ds b → a.number ≡ b.number → a ≡ b
one_number n [] h a b x y e = absurd x
one_number n (d ∷ ds) h a b (inl x) (inl y) e = sym x ∙ y
one_number n (d ∷ ds) h a b (inl x) (inr y) e =
    let more = from_least (d.number + 1) ds h.1 b y in
    let at = ap (λ (z : TopDeclTree). z.number) x in
    absurd (omega (arith, more, at, e))
one_number n (d ∷ ds) h a b (inr x) (inl y) e =
    let more = from_least (d.number + 1) ds h.1 a x in
    let at = ap (λ (z : TopDeclTree). z.number) y in
    absurd (omega (arith, more, at, e))
one_number n (d ∷ ds) h a b (inr x) (inr y) e = one_number (d.number + 1) ds h.1 a b x y e

-- files are numbered

numbered_item : {A : Type 0} (n : ℕ) (xs : List A) (p : ℕ × A) → Among (enumerate_from n xs) p → Among xs p.1
numbered_item n [] p h = absurd h
numbered_item n (x ∷ xs) p (inl e) = inl (ap (λ q. q.1) e)
numbered_item n (x ∷ xs) p (inr h) = inr (numbered_item (n + 1) xs p h)

one_file : {A : Type 0} (xs : List A) (p q : ℕ × A) → Among (enumerate_from 0 xs) p → Among (enumerate_from 0 xs) q → p.0 ≡ q.0 → p ≡ q
one_file xs p q x y e =
    let a = among_numbered 0 xs p x in
    let b = among_numbered 0 xs q y in
    let first = a.1 in
    let second = b.1 in
    let k : a.0 ≡ b.0 = omega (arith, first, second, e) in
    let both : Some p.1 ≡ Some q.1 = sym a.2 ∙ (ap (slice_get xs) k ∙ b.2) in
    let same : p.1 ≡ q.1 = cc both in
    λ i. (e i, same i)

-- a method stands at the number of its declaration, in its file

abbrev file_of : MemberPlace → ℕ
file_of (places.Declared d) = d.file
file_of (places.Local l) = l.file

abbrev number_of : MemberPlace → ℕ
number_of (places.Declared d) = d.number
number_of (places.Local l) = l.offset

module _ (mean : Meaning) (f : InFile) (d : TopDeclTree) where
  func_at : (g : FuncTree) (o : Option Receiver) (r : Received) → Among (func_methods mean f d g o) r → r.member.place ≡ method_place f d.number
  func_at g None r a = absurd a
  func_at g (Some receiver) r (inl e) = ap (λ (x : Received). x.member.place) (sym e)
  func_at g (Some receiver) r (inr a) = absurd a

  func_one : (g : FuncTree) (o : Option Receiver) (r s : Received) → Among (func_methods mean f d g o) r → Among (func_methods mean f d g o) s → r ≡ s
  func_one g None r s a b = absurd a
  func_one g (Some receiver) r s (inl x) (inl y) = sym x ∙ y
  func_one g (Some receiver) r s (inl x) (inr b) = absurd b
  func_one g (Some receiver) r s (inr a) b = absurd a

  method_at : (form : FormTree) (r : Received) → Among (decl_methods mean f d form) r → r.member.place ≡ method_place f d.number
  method_at (ValueForm k v i) r a = absurd a
  method_at (TypeForm t) r a = absurd a
  method_at (FuncForm g) r a = func_at g g.receiver r a

  method_one : (form : FormTree) (r s : Received) → Among (decl_methods mean f d form) r → Among (decl_methods mean f d form) s → r ≡ s
  method_one (ValueForm k v i) r s a b = absurd a
  method_one (TypeForm t) r s a b = absurd a
  method_one (FuncForm g) r s a b = func_one g g.receiver r s a b

module _ (means : Meanings) (path : List ℕ) (os : List FileOutline) (outlines : (o : FileOutline) → Among os o → IsOutline o) where
  -- where a method is written
  pub record IsWritten (r : Received) : Type 0 where
    pub file : ℕ × FileOutline
    pub in_files : Among (enumerate_from 0 os) file
    pub decl : TopDeclTree
    pub in_file : Among file.1.decls decl
    pub here : Among (decl_methods (means file.0) (file_at path file.0 file.1) decl decl.form) r

  pub written : (r : Received) → Among (package_methods means path os) r → IsWritten r
  written r a =
      let q = among_flat (λ (q : ℕ × FileOutline). file_methods (means q.0) (file_at path q.0 q.1) q.1.decls) (enumerate_from 0 os) r a in
      let d = among_flat (λ (d : TopDeclTree). decl_methods (means q.0.0) (file_at path q.0.0 q.0.1) d d.form) q.0.1.decls r q.2 in
      record { file = q.0; in_files = q.1; decl = d.0; in_file = d.1; here = d.2 }

  -- two that are written at one place are one
  one_method : (r s : Received) → Among (package_methods means path os) r → Among (package_methods means path os) s → file_of r.member.place ≡ file_of s.member.place → number_of r.member.place ≡ number_of s.member.place → r ≡ s
  one_method r s a b same_file same_number =
      let x = written r a in
      let y = written s b in
      let at_x = method_at (means x.file.0) (file_at path x.file.0 x.file.1) x.decl x.decl.form r x.here in
      let at_y = method_at (means y.file.0) (file_at path y.file.0 y.file.1) y.decl y.decl.form s y.here in
      let files : x.file ≡ y.file = one_file os x.file y.file x.in_files y.in_files (sym (ap file_of at_x) ∙ (same_file ∙ ap file_of at_y)) in
      let numbers : x.decl.number ≡ y.decl.number = sym (ap number_of at_x) ∙ (same_number ∙ ap number_of at_y) in
      let y_here = subst (λ (p : ℕ × FileOutline). Among (decl_methods (means p.0) (file_at path p.0 p.1) y.decl y.decl.form) s) (sym files) y.here in
      let y_in = subst (λ (p : ℕ × FileOutline). Among p.1.decls y.decl) (sym files) y.in_file in
      let rises : NumbersFrom 0 x.file.1.decls = outline_rises x.file.1 (outlines x.file.1 (numbered_item 0 os x.file x.in_files)) in
      let decls : x.decl ≡ y.decl = one_number 0 x.file.1.decls rises x.decl y.decl x.in_file y_in numbers in
      let there = subst (λ (d : TopDeclTree). Among (decl_methods (means x.file.0) (file_at path x.file.0 x.file.1) d d.form) s) (sym decls) y_here in
      method_one (means x.file.0) (file_at path x.file.0 x.file.1) x.decl x.decl.form r s x.here there

  -- the methods of the types as they are written

  module _ (rs : List Received) where
    -- a method is received by a type
    abbrev IsReceived : DeclKey → Member → Type 0
    IsReceived key m = (r : Received) × Among rs r × (r.member ≡ m) × (is_type_of key r.base ≡ true)

    received_in : (key : DeclKey) (m : Member) → Among (methods_received key rs) m → IsReceived key m
    received_in key m a =
        let r = among_map (λ (r : Received). r.member) (filter (λ (r : Received). is_type_of key r.base) rs) m a in
        let s = among_filter (λ (r : Received). is_type_of key r.base) rs r.0 r.1 in
        (r.0, s.0, r.2, s.1)

    -- a type counts where it is no alias
    listed_in : (mark : Option Span) (s e : Entry) → Among (listed_entry (is_listed false mark) s) e → s ≡ e
    listed_in None s e (inl same) = same
    listed_in None s e (inr none) = absurd none
    listed_in (Some m) s e a = absurd a

    form_in : (mean : Meaning) (f : InFile) (d : TopDeclTree) (form : FormTree) (e : Entry) → Among (entry_of mean f rs d form) e → (m : Member) → Among e.methods m → IsReceived e.key m
    form_in mean f d (ValueForm k v i) e a m b = absurd a
    form_in mean f d (TypeForm t) e a m b =
        let same : spec_entry mean f rs d t ≡ e = listed_in t.alias (spec_entry mean f rs d t) e a in
        let r = received_in (type_key f d.number) m (subst (λ (x : Entry). Among x.methods m) (sym same) b) in
        subst (λ (x : Entry). IsReceived x.key m) same r
    form_in mean f d (FuncForm g) e a m b = absurd a

    entry_in : (e : Entry) → Among (entries_with means path rs os) e → (m : Member) → Among e.methods m → IsReceived e.key m
    entry_in e a m b =
        let q = among_flat (λ (q : ℕ × FileOutline). file_entries (means q.0) (file_at path q.0 q.1) rs q.1.decls) (enumerate_from 0 os) e a in
        let d = among_flat (λ (d : TopDeclTree). entry_of (means q.0.0) (file_at path q.0.0 q.0.1) rs d d.form) q.0.1.decls e q.2 in
        form_in (means q.0.0) (file_at path q.0.0 q.0.1) d.0 d.0.form e d.2 m b

-- those that a table keeps

abbrev IsKept : (DeclKey → Kind) → List Member → Member → Type 0
IsKept kind ms m = (x : Member) × Among ms x × (settled_member kind x ≡ m)

kept_more : (kind : DeclKey → Kind) (x : Member) (ms : List Member) (m : Member) → IsKept kind ms m → IsKept kind (x ∷ ms) m
kept_more kind x ms m k = (k.0, inr k.1, k.2)

kept_in : (kind : DeclKey → Kind) (path : List ℕ) (u : Term) (seen : List (List ℕ)) (ms : List Member) (m : Member) → Among (unrepeated_methods kind path u seen ms) m → IsKept kind ms m
kept_in kind path u seen [] m a = absurd a
kept_in kind path u seen (x ∷ ms) m a = by (is_blank x.name || (is_among_names seen x.name || has_field_before path u x)) (λ names k. kept_in kind path u names ms m k) a
  where
    by : (b : Bool) → ((names : List (List ℕ)) → Among (unrepeated_methods kind path u names ms) m → IsKept kind ms m)
        → Among (if b then unrepeated_methods kind path u seen ms else settled_member kind x ∷ unrepeated_methods kind path u (x.name ∷ seen) ms) m → IsKept kind (x ∷ ms) m
    by true rest k = kept_more kind x ms m (rest seen k)
    by false rest (inl e) = (x, inl refl, e)
    by false rest (inr k) = kept_more kind x ms m (rest (x.name ∷ seen) k)

kept_over_in : (k : Kind) (kind : DeclKey → Kind) (path : List ℕ) (u : Term) (ms : List Member) (m : Member) → Among (kept_over k kind path u ms) m → IsKept kind ms m
kept_over_in kinds.Nothing kind path u ms m a = kept_in kind path u [] ms m a
kept_over_in kinds.Pointer kind path u ms m a = absurd a
kept_over_in kinds.Interface kind path u ms m a = absurd a
kept_over_in kinds.Other kind path u ms m a = kept_in kind path u [] ms m a

module _ (ws : List Entry) (far : EntryLook) (kind : DeclKey → Kind) where
  entry_from : (vs es : List Entry) → AreEntries ws far kind vs es → (e : Entry) → Among es e → (w : Entry) × Among vs w × IsEntry ws far kind w e
  entry_from [] [] h e a = absurd a
  entry_from [] (x ∷ es) h e a = absurd h
  entry_from (v ∷ vs) [] h e a = absurd h
  entry_from (v ∷ vs) (x ∷ es) h e (inl same) = (v, inl refl, subst (λ (y : Entry). IsEntry ws far kind v y) same h.0)
  entry_from (v ∷ vs) (x ∷ es) h e (inr a) = (let r = entry_from vs es h.1 e a in (r.0, inr r.1, r.2))

  kept_of : (w e : Entry) → IsEntry ws far kind w e → (m : Member) → Among e.methods m → IsKept kind w.methods m
  kept_of w e h m a = kept_over_in (kind_of_term e.term) kind w.key.path e.term w.methods m (subst (λ ms. Among ms m) h.methods a)

-- of a package
module _ (means : Meanings) (path : List ℕ) (os : List FileOutline) (outlines : (o : FileOutline) → Among os o → IsOutline o) (far : EntryLook) (own : List Entry) (loops : List TypeFault)
    (built : IsBuilt far (entries_with means path (package_methods means path os) os) own loops) where
  abbrev rs : List Received
  rs = package_methods means path os

  -- a method of a table is one that is written, settled, and its type is the base of its receiver
  pub record IsFrom (e : Entry) (m : Member) : Type 0 where
    pub received : Received
    pub there : Among rs received
    pub is : settled_member built.kind received.member ≡ m
    pub base : is_type_of e.key received.base ≡ true

  pub from : (e : Entry) → Among own e → (m : Member) → Among e.methods m → IsFrom e m
  from e a m b =
      let w = entry_from (entries_with means path rs os) far built.kind (entries_with means path rs os) own built.entries e a in
      let k = kept_of (entries_with means path rs os) far built.kind w.0 e w.2 m b in
      let r = entry_in means path os outlines rs w.0 w.1 k.0 k.1 in
      record { received = r.0; there = r.1; is = ap (settled_member built.kind) r.2 ∙ k.2; base = subst (λ (key : DeclKey). is_type_of key r.0.base ≡ true) (sym w.2.key) r.3 }

  pub signs_same : (e f : Entry) → Among own e → Among own f → (m n : Member) → Among e.methods m → Among f.methods n
      → (a b : DeclRef) → m.place ≡ places.Declared a → n.place ≡ places.Declared b → a.file ≡ b.file → a.number ≡ b.number → m.sign ≡ n.sign
  signs_same e f in_e in_f m n of_e of_f a b at_m at_n files numbers =
      let x = from e in_e m of_e in
      let y = from f in_f n of_f in
      let place_x : x.received.member.place ≡ places.Declared a = ap (λ (k : Member). k.place) x.is ∙ at_m in
      let place_y : y.received.member.place ≡ places.Declared b = ap (λ (k : Member). k.place) y.is ∙ at_n in
      let one : x.received ≡ y.received =
      one_method means path os outlines x.received y.received x.there y.there (ap file_of place_x ∙ (files ∙ sym (ap file_of place_y))) (ap number_of place_x ∙ (numbers ∙ sym (ap number_of place_y))) in
      sym (ap (λ (k : Member). k.sign) x.is) ∙ (ap (λ (r : Received). settled_sign built.kind r.member.sign) one ∙ ap (λ (k : Member). k.sign) y.is)
