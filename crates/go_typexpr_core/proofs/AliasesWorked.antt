-- Samples of aliases.
use Rattle.std.proofs.Common.{◌≡◌, List, [], ◌∷◌, Some, refl, sym, ap, subst, arith}
use Rattle.std.specs.List.{Contains}
use Rattle.go_term_core.specs.decl_core.declared.keys.DeclKey.{DeclKey}
use Rattle.go_term_core.specs.Terms.{PointerTo}
use Rattle.go_type_core.specs.Built.{direct_keys, Uses, UsesAlong}
use Rattle.go_type_core.specs.table_core.Entries.{Entry, find_entry}
use Rattle.go_type_core.proofs.Looping.{contains_first, none_there}
use Rattle.go_typexpr_core.specs.aliases.Sample.{key_in, named, sample_entry, struct_of, WorkedAliases}
use Rattle.go_typexpr_core.proofs.AliasesDirect.{one_there}

-- a type that holds its alias

abbrev holding : List Entry
holding = sample_entry 0 (struct_of 1) ∷ sample_entry 1 (named 0) ∷ []

type_uses : Uses holding (key_in [] 0) (key_in [] 1)
type_uses = (sample_entry 0 (struct_of 1), refl, contains_first (key_in [] 1) [])

alias_uses : Uses holding (key_in [] 1) (key_in [] 0)
alias_uses = (sample_entry 1 (named 0), refl, contains_first (key_in [] 0) [])

-- a type that points to its alias

abbrev pointing : List Entry
pointing = sample_entry 0 (PointerTo (named 1)) ∷ sample_entry 1 (named 0) ∷ []

type_entry : (e : Entry) → find_entry pointing (key_in [] 0) ≡ Some e → sample_entry 0 (PointerTo (named 1)) ≡ e
type_entry e h = (let both : Some (sample_entry 0 (PointerTo (named 1))) ≡ Some e = h in cc)

alias_entry : (e : Entry) → find_entry pointing (key_in [] 1) ≡ Some e → sample_entry 1 (named 0) ≡ e
alias_entry e h = (let both : Some (sample_entry 1 (named 0)) ≡ Some e = h in cc)

uses_none : (j : DeclKey) → Uses pointing (key_in [] 0) j → ⊥
uses_none j u = none_there j (subst (λ (e : Entry). Contains (direct_keys e.term) j) (sym (type_entry u.0 u.1)) u.2)

none_along : (between : List DeclKey) (j : DeclKey) → UsesAlong pointing (key_in [] 0) between j → ⊥
none_along [] j u = uses_none j u
none_along (m ∷ ms) j u = uses_none m u.0

uses_type : (j : DeclKey) → Uses pointing (key_in [] 1) j → key_in [] 0 ≡ j
uses_type j u = one_there (key_in [] 0) j (subst (λ (e : Entry). Contains (direct_keys e.term) j) (sym (alias_entry u.0 u.1)) u.2)

alias_along : (between : List DeclKey) → UsesAlong pointing (key_in [] 1) between (key_in [] 1) → ⊥
alias_along [] u = (let e : 0 ≡ 1 = ap (λ (k : DeclKey). k.decl.number) (uses_type (key_in [] 1) u) in absurd (omega (arith, e)))
alias_along (m ∷ ms) u = none_along ms (key_in [] 1) (subst (λ (k : DeclKey). UsesAlong pointing k ms (key_in [] 1)) (sym (uses_type m u.0)) u.1)

pub worked : WorkedAliases
worked = record {
  chain = refl;
  circle = refl;
  itself = refl;
  declared = refl;
  foreign = λ far. refl;
  type_holds_alias = (key_in [] 1 ∷ [], (type_uses, alias_uses));
  alias_holds_itself = (key_in [] 0 ∷ [], (alias_uses, type_uses));
  type_points_to_alias = λ l. none_along l.0 (key_in [] 0) l.1;
  alias_is_pointed_to = λ l. alias_along l.0 l.1;
}
