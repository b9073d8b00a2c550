-- The identifiers that a file declares have their places there, under their names.
use Rattle.std.proofs.Common.{◌≡◌, ◌⊎◌, ℕ, zero, suc, ◌+◌, Bool, true, false, ◌&&◌, ◌||◌, List, [], ◌∷◌, ◌++◌, map, Option, Some, None, nat_eq, inl, inr, refl, sym, ap, subst, ◌∙◌, arith, if◌then◌else◌}
use Rattle.std.specs.Prelude.{slice_get, Contains}
use Rattle.std.specs.List.{flat_map, list_any}
use Rattle.std.specs.Str.{bytes_eq}
use Rattle.std.proofs.lemmas.Bool.{and_from, and_parts, eq-eqb, eqb-true, true≢false}
use Rattle.go_tree_nodes.specs.declared.names.Ident.{Ident}
use Rattle.go_tree_nodes.specs.Trees.{FileTree, FuncTree, TypeTree}
use Rattle.go_tree_nodes.specs.Spelling.{IsPlaced}
use Rattle.go_term_core.specs.decl_core.declared.places.DeclKind.{DeclKind}
use Rattle.go_term_core.specs.decl_core.declared.places.Place.{Place}
use Rattle.go_term_core.specs.decl_core.Outer.{Outer, outer_names, place_of, type_outers}
use Rattle.go_names_core.specs.local_core.Outline.{func_steps}
use Rattle.go_term_core.specs.declared.term.MemberPlace.{MemberPlace}
use Rattle.go_term_core.specs.declared.term.MemberPlace.TheVariants as places
use Rattle.go_graph_core.specs.Workspaces.{PackageModel}
use Rattle.go_typexpr_core.specs.written.Written.{number_from, written_member_place}
use Rattle.go_site_core.specs.handle_core.Declarations.{InFile}
use Rattle.go_stmt_core.specs.inline_core.Trees.{func_types}
use Rattle.go_typexpr_core.specs.entry.Entries.{file_at}
use Rattle.go_typexpr_core.specs.entry.Outlines.{outline_of}
use Rattle.go_typexpr_core.proofs.EntryAmong.{Among, among_flat, among_left, among_map, among_right, among_to, flat_among, map_among}
use Rattle.go_query_core.specs.body_core.FileStands.{file_funcs}
use Rattle.go_answer_laws.specs.declarations.Found.{FilePlace, IsFileThere, IsMemberThere, IsThereUnder, func_declares, steps_declare, type_declares}
use Rattle.go_answer_laws.proofs.DeclarationsLists.{bytes_are, same_bytes}
use Rattle.go_answer_laws.proofs.DeclarationsSpelled.{names_are_one, outers_written, types_written}
use Rattle.go_answer_laws.proofs.DeclarationsTerms.{IsPlacedIn}

-- numbers

record IsNumberOf (os : List Outer) (offset k m : ℕ) : Type 0 where
  number : ℕ
  is : m ≡ k + number
  outer : Outer
  there : slice_get os number ≡ Some outer
  at : outer.ident.span.start ≡ offset

number_some : (k : ℕ) (os : List Outer) (offset m : ℕ) → number_from k (map place_of os) offset ≡ Some m → IsNumberOf os offset k m
number_some k [] offset m h = absurd (let no : None ≡ Some m = h in cc)
number_some k (o ∷ os) offset m h = by (nat_eq o.ident.span.start offset) refl h (number_some (suc k) os offset m)
  where
    by : (b : Bool) → nat_eq o.ident.span.start offset ≡ b → (if b then Some k else number_from (suc k) (map place_of os) offset) ≡ Some m
        → (number_from (suc k) (map place_of os) offset ≡ Some m → IsNumberOf os offset (suc k) m) → IsNumberOf (o ∷ os) offset k m
    by true e same rest =
        let here : k ≡ m = (let s : Some k ≡ Some m = same in cc) in
        record { number = 0; is = (let is : m ≡ k + 0 = omega (arith, here) in is); outer = o; there = refl; at = eqb-true o.ident.span.start offset e }
    by false e same rest =
        let r = rest same in
        let is = r.is in
        record { number = suc r.number; is = (let next : m ≡ k + suc r.number = omega (arith, is) in next); outer = r.outer; there = r.there; at = r.at }

number_none : (k : ℕ) (os : List Outer) (offset : ℕ) → number_from k (map place_of os) offset ≡ None → (o : Outer) → Among os o → o.ident.span.start ≡ offset → ⊥
number_none k [] offset h o a at = a
number_none k (x ∷ os) offset h o a at = by (nat_eq x.ident.span.start offset) refl h a (λ same r. number_none (suc k) os offset same o r at)
  where
    by : (b : Bool) → nat_eq x.ident.span.start offset ≡ b → (if b then Some k else number_from (suc k) (map place_of os) offset) ≡ None → (x ≡ o) ⊎ Among os o
        → (number_from (suc k) (map place_of os) offset ≡ None → Among os o → ⊥) → ⊥
    by true e same a rest = absurd (let no : Some k ≡ None = same in cc)
    by false e same (inl is) rest = true≢false (sym (eq-eqb x.ident.span.start offset (ap (λ (y : Outer). y.ident.span.start) is ∙ at)) ∙ e)
    by false e same (inr r) rest = rest same r

number_of : (os : List Outer) (offset m : ℕ) → number_from 0 (map place_of os) offset ≡ Some m → (o : Outer) × (slice_get os m ≡ Some o) × (o.ident.span.start ≡ offset)
number_of os offset m h =
    let r = number_some 0 os offset m h in
    let is = r.is in
    let same : r.number ≡ m = omega (arith, is) in
    (r.outer, subst (λ n. slice_get os n ≡ Some r.outer) same r.there, r.at)

at_among : {A : Type 0} (xs : List A) (n : ℕ) (x : A) → slice_get xs n ≡ Some x → Among xs x
at_among [] n x h = absurd (let no : None ≡ Some x = h in cc)
at_among (y ∷ xs) zero x h = inl (let s : Some y ≡ Some x = h in cc)
at_among (y ∷ xs) (suc n) x h = inr (at_among xs n x h)

pub among_at : {A : Type 0} (xs : List A) (x : A) → Among xs x → (n : ℕ) × (slice_get xs n ≡ Some x)
among_at [] x a = absurd a
among_at (y ∷ xs) x (inl e) = (0, ap (λ z. Some z) e)
among_at (y ∷ xs) x (inr r) = (let s = among_at xs x r in (suc s.0, s.1))

-- items that pass a test

record HasPassing {A : Type 0} (p : A → Bool) (xs : List A) : Type 0 where
  item : A
  among : Among xs item
  passes : p item ≡ true

any_has : {A : Type 0} (p : A → Bool) (xs : List A) → list_any p xs ≡ true → HasPassing p xs
any_has p [] h = absurd (true≢false (sym h))
any_has p (x ∷ xs) h = by (p x) refl h (any_has p xs)
  where
    by : (b : Bool) → p x ≡ b → (b || list_any p xs) ≡ true → (list_any p xs ≡ true → HasPassing p xs) → HasPassing p (x ∷ xs)
    by true e same rest = record { item = x; among = inl refl; passes = e }
    by false e same rest = (let r = rest same in record { item = r.item; among = inr r.among; passes = r.passes })

has_any : {A : Type 0} (p : A → Bool) (xs : List A) (x : A) → Among xs x → p x ≡ true → list_any p xs ≡ true
has_any p [] x a h = absurd a
has_any p (y ∷ xs) x (inl e) h = ap (λ (b : Bool). b || list_any p xs) (ap p e ∙ h)
has_any p (y ∷ xs) x (inr r) h = by (p y) (has_any p xs x r h)
  where
    by : (b : Bool) → list_any p xs ≡ true → (b || list_any p xs) ≡ true
    by true k = refl
    by false k = k

-- the test that an identifier has its place: the one that stands there has its name

abbrev stands_at : Ident → Ident → Bool
stands_at x y = nat_eq y.span.start x.span.start && bytes_eq y.name x.name

abbrev has_name : List ℕ → Option Outer → Bool
has_name name None = false
has_name name (Some o) = bytes_eq o.ident.name name

abbrev fits_at : List Outer → List Ident → Ident → Option ℕ → Bool
fits_at os inner x None = list_any (stands_at x) inner
fits_at os inner x (Some m) = has_name x.name (slice_get os m)

-- the identifiers that the functions of a file declare
abbrev pub inner_names : FileTree → List Ident
inner_names t = flat_map func_declares (file_funcs t)

abbrev fits : FileTree → List Ident → Outer → Bool
fits t inner q = fits_at (outer_names t) inner q.ident (number_from 0 (map place_of (outer_names t)) q.ident.span.start)

abbrev pub has_place : FileTree → Outer → Bool
has_place t q = fits t (inner_names t) q

-- the same outside functions
abbrev pub has_outer_place : FileTree → Outer → Bool
has_outer_place t q = fits t [] q

-- a place outside functions
abbrev pub IsGlobal : List PackageModel → List ℕ → List ℕ → MemberPlace → Type 0
IsGlobal ps home name (places.Declared d) = IsMemberThere ps home name (places.Declared d)
IsGlobal ps home name (places.Local l) = ⊥

module _ (ps : List PackageModel) (at : FilePlace) (t : FileTree) (there : IsFileThere ps at.path at.file t) where
  abbrev IsSeen : List ℕ → List ℕ → MemberPlace → Type 0
  IsSeen home name place = IsThereUnder ps at name (InFile home place)

  outer_seen : (kind : DeclKind) (m : ℕ) (name : List ℕ) (o : Outer) → slice_get (outer_names t) m ≡ Some o → o.ident.name ≡ name → IsMemberThere ps at.path name (places.Declared (record { file = at.file; number = m; kind = kind }))
  outer_seen kind m name o is spelled = record { tree = t; file = there; named = record { outer = o; there = is; spelled = spelled } }

  inner_seen : (x y : Ident) → Among (inner_names t) y → y.span.start ≡ x.span.start → y.name ≡ x.name → IsSeen at.path x.name (places.Local (record { file = at.file; offset = x.span.start }))
  inner_seen x y a stands spelled =
      let g = among_flat func_declares (file_funcs t) y a in (
        record { tree = t; file = there; named = record { func = g.0; in_file = among_to (file_funcs t) g.0 g.1; ident = y; declared = among_to (func_declares g.0) y g.2; at = stands; spelled = spelled } },
        (refl, refl),
      )

  -- what passes the test has its place
  pub sound : (q : Outer) → has_place t q ≡ true → IsPlacedIn IsSeen (file_at at.path at.file (outline_of t)) q
  sound q h = by (number_from 0 (map place_of (outer_names t)) q.ident.span.start) refl h
    where
      named : (m : ℕ) (o : Option Outer) → slice_get (outer_names t) m ≡ o → has_name q.ident.name o ≡ true → IsSeen at.path q.ident.name (places.Declared (record { file = at.file; number = m; kind = q.kind }))
      named m None e k = absurd (true≢false (sym k))
      named m (Some o) e k = (outer_seen q.kind m q.ident.name o e (same_bytes o.ident.name q.ident.name k), tt)

      by : (r : Option ℕ) → number_from 0 (map place_of (outer_names t)) q.ident.span.start ≡ r → fits_at (outer_names t) (inner_names t) q.ident r ≡ true
          → IsSeen at.path q.ident.name (written_member_place (file_at at.path at.file (outline_of t)) q.kind q.ident.span.start r)
      by (Some m) e k = named m (slice_get (outer_names t) m) refl k
      by None e k =
          let y = any_has (stands_at q.ident) (inner_names t) k in
          let both = and_parts (nat_eq y.item.span.start q.ident.span.start) (bytes_eq y.item.name q.ident.name) y.passes in
          inner_seen q.ident y.item y.among (eqb-true y.item.span.start q.ident.span.start both.0) (same_bytes y.item.name q.ident.name both.1)

  pub outer_sound : (q : Outer) → has_outer_place t q ≡ true → IsPlacedIn (IsGlobal ps) (file_at at.path at.file (outline_of t)) q
  outer_sound q h = by (number_from 0 (map place_of (outer_names t)) q.ident.span.start) refl h
    where
      named : (m : ℕ) (o : Option Outer) → slice_get (outer_names t) m ≡ o → has_name q.ident.name o ≡ true → IsGlobal ps at.path q.ident.name (places.Declared (record { file = at.file; number = m; kind = q.kind }))
      named m None e k = absurd (true≢false (sym k))
      named m (Some o) e k = outer_seen q.kind m q.ident.name o e (same_bytes o.ident.name q.ident.name k)

      by : (r : Option ℕ) → number_from 0 (map place_of (outer_names t)) q.ident.span.start ≡ r → fits_at (outer_names t) [] q.ident r ≡ true
          → IsGlobal ps at.path q.ident.name (written_member_place (file_at at.path at.file (outline_of t)) q.kind q.ident.span.start r)
      by (Some m) e k = named m (slice_get (outer_names t) m) refl k
      by None e k = absurd (true≢false (sym k))

  module _ (placed : IsPlaced t) where
    -- an identifier of the table has its place, and passes the test

    the_name : (x : Ident) (m : ℕ) → number_from 0 (map place_of (outer_names t)) x.span.start ≡ Some m → ((y : Ident) → y.span.start ≡ x.span.start → (o : Outer) → Among (outer_names t) o → o.ident ≡ y → y.name ≡ x.name)
        → (o : Outer) × (slice_get (outer_names t) m ≡ Some o) × (o.ident.name ≡ x.name)
    the_name x m e one =
        let r = number_of (outer_names t) x.span.start m e in
        (r.0, r.1, one r.0.ident r.2 r.0 (at_among (outer_names t) m r.0 r.1) refl)

    outer_one : (q : Outer) → Among (outer_names t) q → (y : Ident) → y.span.start ≡ q.ident.span.start → (o : Outer) → Among (outer_names t) o → o.ident ≡ y → y.name ≡ q.ident.name
    outer_one q a y same o b is =
        sym (ap (λ (i : Ident). i.name) is)
        ∙ names_are_one t placed o.ident q.ident (ap (λ (i : Ident). i.span.start) is ∙ same) (outers_written t o b) (outers_written t q a)

    pub outer_global : (q : Outer) → Among (outer_names t) q → IsPlacedIn (IsGlobal ps) (file_at at.path at.file (outline_of t)) q
    outer_global q a = by (number_from 0 (map place_of (outer_names t)) q.ident.span.start) refl
      where
        by : (r : Option ℕ) → number_from 0 (map place_of (outer_names t)) q.ident.span.start ≡ r → IsGlobal ps at.path q.ident.name (written_member_place (file_at at.path at.file (outline_of t)) q.kind q.ident.span.start r)
        by (Some m) e = (let r = the_name q.ident m e (outer_one q a) in outer_seen q.kind m q.ident.name r.0 r.1 r.2)
        by None e = absurd (number_none 0 (outer_names t) q.ident.span.start e q a refl)

    fits_some : (x : Ident) (m : ℕ) (o : Outer) → slice_get (outer_names t) m ≡ Some o → o.ident.name ≡ x.name → has_name x.name (slice_get (outer_names t) m) ≡ true
    fits_some x m o is named = ap (has_name x.name) is ∙ bytes_are o.ident.name x.name named

    pub outer_fits : (inner : List Ident) (q : Outer) → Among (outer_names t) q → fits t inner q ≡ true
    outer_fits inner q a = by (number_from 0 (map place_of (outer_names t)) q.ident.span.start) refl
      where
        by : (r : Option ℕ) → number_from 0 (map place_of (outer_names t)) q.ident.span.start ≡ r → fits_at (outer_names t) inner q.ident r ≡ true
        by (Some m) e = (let r = the_name q.ident m e (outer_one q a) in fits_some q.ident m r.0 r.1 r.2)
        by None e = absurd (number_none 0 (outer_names t) q.ident.span.start e q a refl)

    module _ (g : FuncTree) (in_file : Among (file_funcs t) g) where
      type_one : (u : TypeTree) (q : Outer) → Among (func_types g) u → Among (type_outers u) q → (y : Ident) → y.span.start ≡ q.ident.span.start → (o : Outer) → Among (outer_names t) o → o.ident ≡ y → y.name ≡ q.ident.name
      type_one u q a c y same o b is =
          sym (ap (λ (i : Ident). i.name) is)
          ∙ names_are_one t placed o.ident q.ident (ap (λ (i : Ident). i.span.start) is ∙ same) (outers_written t o b) (types_written t g u q in_file a c)

      type_inner : (u : TypeTree) (q : Outer) → Among (func_types g) u → Among (type_outers u) q → Among (inner_names t) q.ident
      type_inner u q a c =
          flat_among func_declares (file_funcs t) q.ident g in_file
          (among_right (steps_declare (func_steps g)) (flat_map (λ w. type_declares (type_outers w)) (func_types g)) q.ident
          (flat_among (λ w. type_declares (type_outers w)) (func_types g) q.ident u a (map_among (λ (o : Outer). o.ident) (type_outers u) q.ident q c refl)))

      -- so does one of a type that a function writes
      pub type_fits : (u : TypeTree) (q : Outer) → Among (func_types g) u → Among (type_outers u) q → has_place t q ≡ true
      type_fits u q a c = by (number_from 0 (map place_of (outer_names t)) q.ident.span.start) refl
        where
          by : (r : Option ℕ) → number_from 0 (map place_of (outer_names t)) q.ident.span.start ≡ r → fits_at (outer_names t) (inner_names t) q.ident r ≡ true
          by (Some m) e = (let r = the_name q.ident m e (type_one u q a c) in fits_some q.ident m r.0 r.1 r.2)
          by None e =
              has_any (stands_at q.ident) (inner_names t) q.ident (type_inner u q a c)
              (and_from (nat_eq q.ident.span.start q.ident.span.start) (bytes_eq q.ident.name q.ident.name) (eq-eqb q.ident.span.start q.ident.span.start refl) (bytes_are q.ident.name q.ident.name refl))

      -- and a name that a function declares has its own
      pub name_seen : (x : Ident) → Among (steps_declare (func_steps g)) x → IsSeen at.path x.name (places.Local (record { file = at.file; offset = x.span.start }))
      name_seen x a =
          inner_seen x x (flat_among func_declares (file_funcs t) x g in_file (among_left (steps_declare (func_steps g)) (flat_map (λ w. type_declares (type_outers w)) (func_types g)) x a)) refl refl
