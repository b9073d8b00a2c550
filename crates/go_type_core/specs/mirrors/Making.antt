-- What is made of the types of a package.
use Rattle.std.specs.Prelude.{ℕ, suc, Bool, true, false, not, ◌&&◌, ◌||◌, List, [], ◌∷◌, Option, length, map, slice_index_or, nat_eq, if◌then◌else◌}
use Rattle.std.specs.Arc.{arc_value}
use Rattle.std.specs.Global.{Global}
use Rattle.std.specs.declared.sync.Arc.{Arc}
use Rattle.go_term_core.specs.text_core.Text.{is_blank}
use Rattle.go_term_core.specs.text_core.declared.rule.Rule.TheVariants as rules
use Rattle.go_term_core.specs.decl_core.declared.keys.DeclKey.{DeclKey}
use Rattle.go_term_core.specs.decl_core.declared.keys.DeclRef.{DeclRef}
use Rattle.go_term_core.specs.decl_core.declared.places.DeclKind.TheVariants as decl_kinds
use Rattle.go_term_core.specs.declared.settling.kind.Kind.{Kind}
use Rattle.go_term_core.specs.settling.Settled.{kind_of_term, is_among_names}
use Rattle.go_term_core.specs.Terms.{Term, NoType}
use Rattle.go_table_core.specs.Entries.{Entry, EntryLook, Member, find_entry}
use Rattle.go_table_core.specs.Methods.{has_field_before}
use Rattle.go_type_core.specs.Built.{kept_over}
use Rattle.go_type_core.specs.mirrors.Numbers.{term_at, IsTable}
use Rattle.go_type_core.specs.mirrors.Chained.{root_at, root_term, term_unless, under_at, kind_at, known_kind, AreNothing, AreRootEnds}
use Rattle.go_type_core.specs.declared.build.TypeFault.{TypeFault}
use Rattle.go_type_core.specs.declared.settled.Plan.{Plan}

-- the faults of marked types, numbered from a number on
abbrev pub marked_faults : ℕ → List Bool → List TypeFault
marked_faults i [] = []
marked_faults i (m ∷ ms) = if m then record { entry = i; rule = rules.Y1 } ∷ marked_faults (suc i) ms else marked_faults (suc i) ms

abbrev pub no_ref : DeclRef
no_ref = record { file = 0; number = 0; kind = decl_kinds.Const }

abbrev pub no_entry : Entry
no_entry = record { key = record { path = []; decl = no_ref }; name = []; term = NoType; methods = [] }

-- what the types have at a number
abbrev pub entry_of : (DeclKey → Kind) → Term → Entry → Entry
entry_of kind u w = record { key = w.key; name = w.name; term = u; methods = kept_over (kind_of_term u) kind w.key.path u w.methods }

abbrev pub entry_at : EntryLook → (DeclKey → Kind) → List Bool → List Entry → List (Option ℕ) → ℕ → Entry
entry_at far kind nothing written ends i = entry_of kind (under_at far kind nothing written ends i) (slice_index_or written i no_entry)

-- methods

-- a method is left out: it is blank, stands behind a field, or repeats a name that was seen
abbrev pub is_left_out : List ℕ → Term → List (List ℕ) → Member → Bool
is_left_out path u seen m = is_blank m.name || (is_among_names seen m.name || has_field_before path u m)

abbrev pub seen_after : Bool → List ℕ → List (List ℕ) → List (List ℕ)
seen_after true name seen = name ∷ seen
seen_after false name seen = seen

-- underlying types that are shared

abbrev pub terms_of_arcs : List (Arc Term Global) → List Term
terms_of_arcs us = map (λ u. arc_value u) us

-- the type with a number is a type, and the chain of names from it has no step
abbrev pub is_root_at : List Bool → List (Option ℕ) → ℕ → Bool
is_root_at nothing ends i = not (slice_index_or nothing i false) && nat_eq (root_at ends i) i

abbrev pub own_term_at : EntryLook → (DeclKey → Kind) → List Bool → List Entry → List (Option ℕ) → ℕ → Term
own_term_at far kind nothing written ends i = term_unless (not (is_root_at nothing ends i)) (root_term far kind (term_at written i))

-- the underlying type of the type with a number, from those of roots
abbrev pub shared_at : List Bool → List (Option ℕ) → List Term → ℕ → Term
shared_at nothing ends us i = term_unless (slice_index_or nothing i false) (slice_index_or us (root_at ends i) NoType)

abbrev pub shared_entry_at : (DeclKey → Kind) → List Bool → List Entry → List (Option ℕ) → List Term → ℕ → Entry
shared_entry_at kind nothing written ends us i = entry_of kind (shared_at nothing ends us i) (slice_index_or written i no_entry)

-- what is planned

abbrev pub plan_far : Plan → EntryLook
plan_far p = find_entry p.kinds.imported.now

abbrev pub plan_kind : Plan → DeclKey → Kind
plan_kind p = known_kind p.kinds.keys.now p.kinds.kinds.now (find_entry p.kinds.imported.now)

-- types that share the underlying types of roots
abbrev pub AreShared : EntryLook → (DeclKey → Kind) → List Bool → List (Option ℕ) → List Entry → List Entry → Type 0
AreShared far kind nothing ends written types =
    (us : List Term) × IsTable us (length written) (own_term_at far kind nothing written ends) × IsTable types (length written) (shared_entry_at kind nothing written ends us)

-- the types of a package as they are made where it is known which reach themselves: what is none, ends of chains of names and kinds first
pub record IsMade (count : ℕ) (written : List Entry) (far : EntryLook) (keys : List DeclKey) (looped : List Bool) (types : List Entry) : Type 0 where
  pub nothing : List Bool
  pub ends : List (Option ℕ)
  pub ks : List Kind
  pub nothing_are : AreNothing written far nothing
  pub roots : AreRootEnds written looped ends
  pub made : IsTable ks count (kind_at far nothing written ends)
  pub shared : AreShared far (known_kind keys ks far) nothing ends written types
