-- The types and aliases of a package, and its types with the targets of all names.
use Rattle.std.proofs.Common.{◌≡◌, ℕ, zero, suc, ◌+◌, ◌≤◌, inl, inr, Bool, true, false, List, [], ◌∷◌, All, Option, Some, None, refl, sym, ap, ◌∙◌, subst, arith}
use Rattle.std.specs.Prelude.{slice_get, if◌then◌else◌, Contains}
use Rattle.std.specs.Str.{bytes_eq}
use Rattle.std.proofs.lemmas.List.Elements.{All-contains}
use Rattle.std.proofs.lemmas.Option.{slice_get-get_or}
use Rattle.std.proofs.lemmas.Slice.Eq.{bytes_eq-Decides}
use Rattle.go_tree_nodes.specs.declared.types.TypeName.{TypeName}
use Rattle.go_path_core.specs.text_core.declared.span.Span.{Span}
use Rattle.go_tree_nodes.specs.Trees.{TypeSpecTree}
use Rattle.go_term_core.specs.decl_core.declared.keys.DeclKey.{DeclKey}
use Rattle.go_term_core.specs.decl_core.declared.keys.DeclRef.{DeclRef}
use Rattle.go_term_core.specs.decl_core.declared.places.DeclKind.TheVariants as kinds
use Rattle.go_term_core.specs.Terms.{Term}
use Rattle.go_scope_core.specs.block_core.Blocks.{BlocksModel}
use Rattle.go_scope_core.specs.block_core.Declarations.{decl_ref}
use Rattle.go_term_core.specs.decl_core.TopDecls.{TopDeclTree, FormTree, ValueForm, TypeForm, FuncForm}
use Rattle.go_typexpr_core.specs.written.Written.{InFile, Meaning, term_of}
use Rattle.go_typexpr_core.specs.entry.Entries.{Meanings, Received, all_entries, declared_entries, entry_by, file_at, is_listed, listed_entry, package_meanings, package_methods, spec_entry, type_key}
use Rattle.go_typexpr_core.specs.entry.Marks.{alias_mark}
use Rattle.go_typexpr_core.specs.entry.Meanings.{Shown, declared_alone, named_meaning, through}
use Rattle.go_typexpr_core.specs.entry.Outlines.{FileOutline, IsOutline}
use Rattle.go_typexpr_core.proofs.EntryAmong.{Among, among_to}
use Rattle.go_typexpr_core.proofs.EntryBelonging.{Found, found_in, put_in}
use Rattle.go_typexpr_core.proofs.EntryOrdered.{NumbersFrom, all_rise, outline_rises}
use Rattle.go_typexpr_core.proofs.EntryTargeting.{through_itself}
use Rattle.go_type_core.specs.table_core.Entries.{Entry, find_entry, same_decl, same_key}
use Rattle.go_type_core.specs.table_core.Keys.{same_key_from, same_key_true}
use Rattle.go_type_core.proofs.Keyed.{at_place, rise_apart}
use Rattle.go_typexpr_core.specs.aliases.Aliases.{alias_ends, alias_in, own_alias, target_by, with_targets}
use Rattle.go_typexpr_core.specs.aliases.Laws.{AreWithTargets, IsNamed, TypesHaveTargets}
use Rattle.go_typexpr_core.specs.aliases.Outlined.{alias_if, alias_of, alias_spec, names_in, written_aliases}
use Rattle.go_typexpr_core.proofs.AliasesNumbers.{option_cases, own_alias_by, same_decl_from, same_decl_true}
use Rattle.go_typexpr_core.proofs.AliasesPlain.{plain_names}
use Rattle.go_typexpr_core.proofs.AliasesTrees.{type_with}

-- look-ups and what stands in lists

abbrev alias_by : DeclRef × Term → List (DeclRef × Term) → DeclRef → Bool → Option Term
alias_by a xs d b = if b then Some a.1 else alias_in xs d

alias_step : (a : DeclRef × Term) (xs : List (DeclRef × Term)) (d : DeclRef) (w : Term) (b : Bool) → same_decl a.0 d ≡ b → (alias_in xs d ≡ Some w → Among xs (d, w)) → alias_in (a ∷ xs) d ≡ Some w → Among (a ∷ xs) (d, w)
alias_step a xs d w true t more h =
    let same : Some a.1 ≡ Some w = sym (ap (alias_by a xs d) t) ∙ h in
    let aw : a.1 ≡ w = cc in
    let ad : a.0 ≡ d = same_decl_true a.0 d t in
    inl (λ i. (ad i, aw i))
alias_step a xs d w false t more h = inr (more (sym (ap (alias_by a xs d) t) ∙ h))

pub alias_among : (xs : List (DeclRef × Term)) (d : DeclRef) (w : Term) → alias_in xs d ≡ Some w → Among xs (d, w)
alias_among [] d w h = absurd (cc)
alias_among (a ∷ xs) d w h = alias_step a xs d w (same_decl a.0 d) refl (alias_among xs d w) h

alias_there_by : (a : DeclRef × Term) (xs : List (DeclRef × Term)) (d : DeclRef) (b : Bool) → same_decl a.0 d ≡ b → ((b ≡ false) → (v : Term) × (alias_in xs d ≡ Some v)) → (v : Term) × (alias_in (a ∷ xs) d ≡ Some v)
alias_there_by a xs d true t more = (a.1, ap (alias_by a xs d) t)
alias_there_by a xs d false t more = (let r = more refl in (r.0, ap (alias_by a xs d) t ∙ r.1))

pub alias_there : (xs : List (DeclRef × Term)) (d : DeclRef) (w : Term) → Among xs (d, w) → (v : Term) × (alias_in xs d ≡ Some v)
alias_there [] d w h = absurd h
alias_there (a ∷ xs) d w h = alias_there_by a xs d (same_decl a.0 d) refl (λ f. elim h [
  | inl e ↦ absurd (let yes : same_decl a.0 d ≡ true = same_decl_from a.0 d (ap (λ (p : DeclRef × Term). p.0) e) in let both : false ≡ true = sym f ∙ yes in (cc))
  | inr r ↦ alias_there xs d w r
])

abbrev entry_found : Entry → List Entry → DeclKey → Bool → Option Entry
entry_found e es k b = if b then Some e else find_entry es k

entry_step : (x : Entry) (es : List Entry) (k : DeclKey) (e : Entry) (b : Bool) → same_key x.key k ≡ b → (find_entry es k ≡ Some e → Among es e × (e.key ≡ k)) → find_entry (x ∷ es) k ≡ Some e → Among (x ∷ es) e × (e.key ≡ k)
entry_step x es k e true t more h =
    let same : Some x ≡ Some e = sym (ap (entry_found x es k) t) ∙ h in
    let xe : x ≡ e = cc in
    (inl xe, sym (ap (λ (y : Entry). y.key) xe) ∙ same_key_true x.key k t)
entry_step x es k e false t more h = (let r = more (sym (ap (entry_found x es k) t) ∙ h) in (inr r.0, r.1))

entry_among : (es : List Entry) (k : DeclKey) (e : Entry) → find_entry es k ≡ Some e → Among es e × (e.key ≡ k)
entry_among [] k e h = absurd (cc)
entry_among (x ∷ es) k e h = entry_step x es k e (same_key x.key k) refl (entry_among es k e) h

entry_there_by : (x : Entry) (es : List Entry) (k : DeclKey) (b : Bool) → same_key x.key k ≡ b → ((b ≡ false) → (v : Entry) × (find_entry es k ≡ Some v)) → (v : Entry) × (find_entry (x ∷ es) k ≡ Some v)
entry_there_by x es k true t more = (x, ap (entry_found x es k) t)
entry_there_by x es k false t more = (let r = more refl in (r.0, ap (entry_found x es k) t ∙ r.1))

entry_there : (es : List Entry) (k : DeclKey) (e : Entry) → Among es e → e.key ≡ k → (v : Entry) × (find_entry es k ≡ Some v)
entry_there [] k e h same = absurd h
entry_there (x ∷ es) k e h same = entry_there_by x es k (same_key x.key k) refl (λ f. elim h [
  | inl q ↦ absurd (let yes : same_key x.key k ≡ true = same_key_from x.key k (ap (λ (y : Entry). y.key) q ∙ same) in let both : false ≡ true = sym f ∙ yes in (cc))
  | inr r ↦ entry_there es k e r same
])

-- declarations of one number are one

number_after : (n : ℕ) (ds : List TopDeclTree) (d : TopDeclTree) → NumbersFrom n ds → Among ds d → n ≤ d.number
number_after n [] d h a = absurd a
number_after n (e ∷ ds) d h a = elim a [
  | inl q ↦ (let le = h.0 in let same : e.number ≡ d.number = ap (λ (x : TopDeclTree). x.number) q in omega (arith, le, same))
  | inr r ↦ (let le = h.0 in let more = number_after (e.number + 1) ds d h.1 r in omega (arith, le, more))
]

pub one_decl : (n : ℕ) (ds : List TopDeclTree) (d e : TopDeclTree) → NumbersFrom n ds → Among ds d → Among ds e → d.number ≡ e.number → d ≡ e
one_decl n [] d e h a b same = absurd a
one_decl n (x ∷ ds) d e h a b same = elim a [
  | inl p ↦ elim b [
    | inl q ↦ sym p ∙ q
    | inr s ↦ (let more = number_after (x.number + 1) ds e h.1 s in let here : x.number ≡ d.number = ap (λ (y : TopDeclTree). y.number) p in absurd (omega (arith, more, here, same)))
  ]
  | inr r ↦ elim b [
    | inl q ↦ (let more = number_after (x.number + 1) ds d h.1 r in let here : x.number ≡ e.number = ap (λ (y : TopDeclTree). y.number) q in absurd (omega (arith, more, here, same)))
    | inr s ↦ one_decl (x.number + 1) ds d e h.1 r s same
  ]
]

outline_at : (os : List FileOutline) (n : ℕ) (o : FileOutline) → All IsOutline os → slice_get os n ≡ Some o → IsOutline o
outline_at os n o all at = All-contains IsOutline os o all (there os n at)
  where
    there : (ps : List FileOutline) (m : ℕ) → slice_get ps m ≡ Some o → Contains ps o
    there ps m h = among_to ps o (go ps m h)
      where
        go : (qs : List FileOutline) (k : ℕ) → slice_get qs k ≡ Some o → Among qs o
        go [] k h = absurd (cc)
        go (q ∷ qs) zero h = inl (let e : q ≡ o = cc in e)
        go (q ∷ qs) (suc k) h = inr (go qs k h)

-- a type declaration of the files that is found

module _ (os : List FileOutline) (outlines : All IsOutline os) where
  pub same_found : (d e : Found os) → d.file ≡ e.file → d.decl.number ≡ e.decl.number → d.decl ≡ e.decl
  same_found d e file number =
      let both : Some d.outline ≡ Some e.outline = sym d.there ∙ (ap (slice_get os) file ∙ e.there) in
      let same : d.outline ≡ e.outline = cc in
      let among : Among d.outline.decls e.decl = subst (λ (o : FileOutline). Among o.decls e.decl) (sym same) e.among in
      one_decl 0 d.outline.decls d.decl e.decl (outline_rises d.outline (outline_at os d.file d.outline outlines d.there)) d.among among number

  -- one that has a mark, and one that has none
  pub marks_differ : (d e : Found os) (t u : TypeSpecTree) (m : Span) → d.file ≡ e.file → d.decl.number ≡ e.decl.number → d.decl.form ≡ TypeForm t → e.decl.form ≡ TypeForm u → alias_mark t ≡ Some m → alias_mark u ≡ None → ⊥
  marks_differ d e t u m file number p q marked plain =
      let forms : TypeForm t ≡ TypeForm u = sym p ∙ (ap (λ (x : TopDeclTree). x.form) (same_found d e file number) ∙ q) in
      let tu : t ≡ u = cc in
      let both : Some m ≡ None = sym marked ∙ (ap alias_mark tu ∙ plain) in
      cc

-- what is declared

abbrev IsSpec : Meaning → InFile → List Received → TopDeclTree → FormTree → Entry → Type 0
IsSpec mean f rs d form e = (t : TypeSpecTree) × (form ≡ TypeForm t) × (spec_entry mean f rs d t ≡ e)

all_is : (mean : Meaning) (f : InFile) (rs : List Received) (d : TopDeclTree) (form : FormTree) (e : Entry) → Among (entry_by true mean f rs d form) e → IsSpec mean f rs d form e
all_is mean f rs d (ValueForm k v i) e h = absurd h
all_is mean f rs d (TypeForm t) e h = elim h [ inl s ↦ (t, refl, s) | inr none ↦ absurd none ]
all_is mean f rs d (FuncForm g) e h = absurd h

all_there : (mean : Meaning) (f : InFile) (rs : List Received) (d : TopDeclTree) (form : FormTree) (t : TypeSpecTree) → form ≡ TypeForm t → Among (entry_by true mean f rs d form) (spec_entry mean f rs d t)
all_there mean f rs d form t h = subst (λ (g : FormTree). Among (entry_by true mean f rs d g) (spec_entry mean f rs d t)) (sym h) (inl refl)

plain_mark : (mark : Option Span) (s e : Entry) → Among (listed_entry (is_listed false mark) s) e → (mark ≡ None) × (s ≡ e)
plain_mark None s e h = elim h [ inl q ↦ (refl, q) | inr none ↦ absurd none ]
plain_mark (Some m) s e h = absurd h

type_is : (mean : Meaning) (f : InFile) (rs : List Received) (d : TopDeclTree) (form : FormTree) (e : Entry) → Among (entry_by false mean f rs d form) e → (t : TypeSpecTree) × (form ≡ TypeForm t) × (alias_mark t ≡ None) × (spec_entry mean f rs d t ≡ e)
type_is mean f rs d (ValueForm k v i) e h = absurd h
type_is mean f rs d (TypeForm t) e h = (let p = plain_mark (alias_mark t) (spec_entry mean f rs d t) e h in (t, refl, p.0, p.1))
type_is mean f rs d (FuncForm g) e h = absurd h

type_there : (mean : Meaning) (f : InFile) (rs : List Received) (d : TopDeclTree) (form : FormTree) (t : TypeSpecTree) → form ≡ TypeForm t → alias_mark t ≡ None → Among (entry_by false mean f rs d form) (spec_entry mean f rs d t)
type_there mean f rs d form t h plain =
    let s : Entry = spec_entry mean f rs d t in
    subst (λ (g : FormTree). Among (entry_by false mean f rs d g) s) (sym h) (subst (λ (m : Option Span). Among (listed_entry (is_listed false m) s) s) (sym plain) (inl refl))

marked_is : (mark : Option Span) (s a : DeclRef × Term) → Among (alias_if mark s) a → (m : Span) × (mark ≡ Some m) × (s ≡ a)
marked_is None s a h = absurd h
marked_is (Some m) s a h = elim h [ inl q ↦ (m, refl, q) | inr none ↦ absurd none ]

pub alias_is : (mean : Meaning) (f : InFile) (d : TopDeclTree) (form : FormTree) (a : DeclRef × Term) → Among (alias_of mean f d form) a → (t : TypeSpecTree) × (m : Span) × (form ≡ TypeForm t) × (alias_mark t ≡ Some m) × (alias_spec mean f d t ≡ a)
alias_is mean f d (ValueForm k v i) a h = absurd h
alias_is mean f d (TypeForm t) a h = (let p = marked_is (alias_mark t) (alias_spec mean f d t) a h in (t, p.0, refl, p.1, p.2))
alias_is mean f d (FuncForm g) a h = absurd h

pub alias_put : (mean : Meaning) (f : InFile) (d : TopDeclTree) (form : FormTree) (t : TypeSpecTree) (m : Span) → form ≡ TypeForm t → alias_mark t ≡ Some m → Among (alias_of mean f d form) (alias_spec mean f d t)
alias_put mean f d form t m h marked =
    let s : DeclRef × Term = alias_spec mean f d t in
    subst (λ (g : FormTree). Among (alias_of mean f d g) s) (sym h) (subst (λ (o : Option Span). Among (alias_if o s) s) (sym marked) (inl refl))

-- the types of a package

module _ (shown : Shown) (far : DeclKey → Term) (path : List ℕ) (b : BlocksModel) (os : List FileOutline) (outlines : All IsOutline os) where
  abbrev raws : Meanings
  raws = package_meanings (declared_alone shown) path b

  abbrev means : Meanings
  means = package_meanings (names_in shown far path b os) path b

  abbrev aliases : List (DeclRef × Term)
  aliases = written_aliases shown path b os

  abbrev written : List Entry
  written = all_entries shown path b os

  abbrev types : List Entry
  types = declared_entries (names_in shown far path b os) path b os

  abbrev methods : List Received
  methods = package_methods means path os

  abbrev target : DeclKey → Term
  target = target_by path (alias_ends aliases path) far

  -- an entry that is written is found by its key
  written_found : (d : Found os) (t : TypeSpecTree) → d.decl.form ≡ TypeForm t
      → find_entry written (type_key (file_at path d.file d.outline) d.decl.number) ≡ Some (spec_entry (raws d.file) (file_at path d.file d.outline) [] d.decl t)
  written_found d t form =
      let e : Entry = spec_entry (raws d.file) (file_at path d.file d.outline) [] d.decl t in
      let among : Among written e = put_in os (λ n o x. entry_by true (raws n) (file_at path n o) [] x x.form) e d (all_there (raws d.file) (file_at path d.file d.outline) [] d.decl d.decl.form t form) in
      let c : Contains written e = among_to written e among in
      (at_place written c.0 e (rise_apart written (all_rise raws path [] os outlines)) (slice_get-get_or written c.0 e c.1 ∙ ap Some c.2)).found

  pub alias_found : (k : DeclKey) (w : Term) → own_alias aliases path k ≡ Some w → (path ≡ k.path) × ((d : Found os) × (t : TypeSpecTree) × (m : Span) × (d.decl.form ≡ TypeForm t) × (alias_mark t ≡ Some m) × (alias_spec (raws d.file) (file_at path d.file d.outline) d.decl t ≡ (k.decl, w)))
  alias_found k w h = by (bytes_eq path k.path) refl
    where
      by : (c : Bool) → bytes_eq path k.path ≡ c → (path ≡ k.path) × ((d : Found os) × (t : TypeSpecTree) × (m : Span) × (d.decl.form ≡ TypeForm t) × (alias_mark t ≡ Some m) × (alias_spec (raws d.file) (file_at path d.file d.outline) d.decl t ≡ (k.decl, w)))
      by true own =
          let there : Among aliases (k.decl, w) = alias_among aliases k.decl w (sym (ap (own_alias_by aliases k) own) ∙ h) in
          let d = found_in os (λ n o x. alias_of (raws n) (file_at path n o) x x.form) (k.decl, w) there in
          let a = alias_is (raws d.0.file) (file_at path d.0.file d.0.outline) d.0.decl d.0.decl.form (k.decl, w) d.1 in
          ((bytes_eq-Decides path k.path).0 own, (d.0, a.0, a.1, a.2, a.3, a.4))
      by false other = (let both : None ≡ Some w = sym (ap (own_alias_by aliases k) other) ∙ h in absurd (cc))

  type_found : (k : DeclKey) (e : Entry) → find_entry types k ≡ Some e → (d : Found os) × (t : TypeSpecTree) × (d.decl.form ≡ TypeForm t) × (alias_mark t ≡ None) × (spec_entry (means d.file) (file_at path d.file d.outline) methods d.decl t ≡ e) × (e.key ≡ k)
  type_found k e h =
      let r = entry_among types k e h in
      let d = found_in os (λ n o x. entry_by false (means n) (file_at path n o) methods x x.form) e r.0 in
      let t = type_is (means d.0.file) (file_at path d.0.file d.0.outline) methods d.0.decl d.0.decl.form e d.1 in
      (d.0, t.0, t.1, t.2, t.3, r.1)

  alias_is_none : (k : DeclKey) (w : Term) → own_alias aliases path k ≡ Some w → find_entry types k ≡ None
  alias_is_none k w h = elim (option_cases (find_entry types k)) [
    | inl none ↦ none
    | inr e ↦
        (let a = alias_found k w h in
        let p = type_found k e.0 e.1 in
        let ref : decl_ref a.1.0.file a.1.0.decl.number kinds.«Type» ≡ k.decl = ap (λ (x : DeclRef × Term). x.0) a.1.5 in
        let own : decl_ref p.0.file p.0.decl.number kinds.«Type» ≡ k.decl = ap (λ (x : Entry). x.key.decl) p.4 ∙ ap (λ (x : DeclKey). x.decl) p.5 in
        let file : a.1.0.file ≡ p.0.file = ap (λ (x : DeclRef). x.file) (ref ∙ sym own) in
        let number : a.1.0.decl.number ≡ p.0.decl.number = ap (λ (x : DeclRef). x.number) (ref ∙ sym own) in
        absurd (marks_differ os outlines a.1.0 p.0 a.1.1 p.1 a.1.2 file number a.1.3 p.2 a.1.4 p.3))
  ]

  alias_written : (k : DeclKey) (w : Term) → own_alias aliases path k ≡ Some w → (e : Entry) × (find_entry written k ≡ Some e) × (e.term ≡ w)
  alias_written k w h =
      let a = alias_found k w h in
      let d = a.1.0 in
      let f = file_at path d.file d.outline in
      let ref : decl_ref d.file d.decl.number kinds.«Type» ≡ k.decl = ap (λ (x : DeclRef × Term). x.0) a.1.5 in
      let key : type_key f d.decl.number ≡ k = λ i. record { path = a.0 i; decl = ref i } in
      (spec_entry (raws d.file) f [] d.decl a.1.1, ap (find_entry written) (sym key) ∙ written_found d a.1.1 a.1.3, ap (λ (x : DeclRef × Term). x.1) a.1.5)

  type_written : (k : DeclKey) (e : Entry) → find_entry types k ≡ Some e → (k.path ≡ path) × ((w : Entry) × (find_entry written k ≡ Some w) × (e.term ≡ with_targets target w.term))
  type_written k e h =
      let p = type_found k e h in
      let d = p.0 in
      let f = file_at path d.file d.outline in
      let key : type_key f d.decl.number ≡ k = ap (λ (x : Entry). x.key) p.4 ∙ p.5 in
      let term : e.term ≡ term_of (means d.file) f p.1.type_expr = ap (λ (x : Entry). x.term) (sym p.4) in (
        sym (ap (λ (x : DeclKey). x.path) key),
        (spec_entry (raws d.file) f [] d.decl p.1, ap (find_entry written) (sym key) ∙ written_found d p.1 p.2, term ∙ sym (type_with (raws d.file) target (plain_names target shown path b d.file) f p.1.type_expr ∙ meant_same d.file f p.1)),
      )
    where
      meant_same : (n : ℕ) (f : InFile) (t : TypeSpecTree) → term_of (λ x. through target (raws n x)) f t.type_expr ≡ term_of (means n) f t.type_expr
      meant_same n f t = ap (λ (mean : Meaning). term_of mean f t.type_expr) (λ i x. through target (sym (raw_itself n x) i))
        where
          raw_itself : (n : ℕ) (x : TypeName) → named_meaning shown path b n x ≡ raws n x
          raw_itself n x = through_itself (named_meaning shown path b n x)

  nothing_else : (k : DeclKey) → own_alias aliases path k ≡ None → find_entry types k ≡ None → find_entry written k ≡ None
  nothing_else k plain none = elim (option_cases (find_entry written k)) [
    | inl gone ↦ gone
    | inr e ↦
        (let r = entry_among written k e.0 e.1 in
        let d = found_in os (λ n o x. entry_by true (raws n) (file_at path n o) [] x x.form) e.0 r.0 in
        let t = all_is (raws d.0.file) (file_at path d.0.file d.0.outline) [] d.0.decl d.0.decl.form e.0 d.1 in
        let key : type_key (file_at path d.0.file d.0.outline) d.0.decl.number ≡ k = ap (λ (x : Entry). x.key) t.2 ∙ r.1 in
        absurd (elim (option_cases (alias_mark t.0)) [
          | inl defined ↦ is_type d.0 t.0 k t.1 defined key none
          | inr m ↦ is_alias d.0 t.0 m.0 k t.1 m.1 key plain
        ]))
  ]
    where
      is_type : (d : Found os) (t : TypeSpecTree) (k : DeclKey) → d.decl.form ≡ TypeForm t → alias_mark t ≡ None → type_key (file_at path d.file d.outline) d.decl.number ≡ k → find_entry types k ≡ None → ⊥
      is_type d t k form defined key none =
          let f = file_at path d.file d.outline in
          let e : Entry = spec_entry (means d.file) f methods d.decl t in
          let among : Among types e = put_in os (λ n o x. entry_by false (means n) (file_at path n o) methods x x.form) e d (type_there (means d.file) f methods d.decl d.decl.form t form defined) in
          let there = entry_there types k e among key in
          let both : None ≡ Some there.0 = sym none ∙ there.1 in
          cc

      is_alias : (d : Found os) (t : TypeSpecTree) (m : Span) (k : DeclKey) → d.decl.form ≡ TypeForm t → alias_mark t ≡ Some m → type_key (file_at path d.file d.outline) d.decl.number ≡ k → own_alias aliases path k ≡ None → ⊥
      is_alias d t m k form marked key plain =
          let f = file_at path d.file d.outline in
          let a : DeclRef × Term = alias_spec (raws d.file) f d.decl t in
          let among : Among aliases a = put_in os (λ n o x. alias_of (raws n) (file_at path n o) x x.form) a d (alias_put (raws d.file) f d.decl d.decl.form t m form marked) in
          let there = alias_there aliases a.0 a.1 among in
          let own : own_alias aliases path (type_key f d.decl.number) ≡ Some there.0 = ap (own_alias_by aliases (type_key f d.decl.number)) ((bytes_eq-Decides path path).1 refl) ∙ there.1 in
          let both : None ≡ Some there.0 = sym plain ∙ (ap (own_alias aliases path) (sym key) ∙ own) in
          cc

  pub with_all_targets : ((k : DeclKey) (w : Term) → own_alias aliases path k ≡ Some w → IsNamed w) → AreWithTargets path far aliases written types
  with_all_targets named = record {
    aliases = λ k w h. (named k w h, alias_is_none k w h, alias_written k w h);
    types_are = type_written;
    others = nothing_else;
  }

pub types_have_targets : TypesHaveTargets
types_have_targets shown far path b os outlines named = with_all_targets shown far path b os outlines named
