-- Laws of settling.
use Rattle.std.specs.Prelude.{◌≡◌, Contains}
use Rattle.go_decl_core.specs.declared.keys.DeclKey.{DeclKey}
use Rattle.go_term_core.specs.Terms.{Term, term_keys}
use Rattle.go_term_core.specs.Laws.{IsApart}
use Rattle.go_term_core.specs.declared.settling.kind.Kind.{Kind}
use Rattle.go_term_core.specs.declared.settling.kind.Kind.TheVariants as kinds
use Rattle.go_term_core.specs.settling.Settled.{settled}

-- a settled term is left as it is
abbrev pub SettlingIsIdempotent : Type 0
SettlingIsIdempotent = (kind : DeclKey → Kind) (t : Term) → settled kind (settled kind t) ≡ settled kind t

-- what a settled term mentions is a type, and is mentioned by the written one
abbrev pub SettledMentionsWritten : Type 0
SettledMentionsWritten =
    (kind : DeclKey → Kind) (t : Term) (k : DeclKey) → Contains (term_keys (settled kind t)) k → ((kind k ≡ kinds.Nothing) → ⊥) × Contains (term_keys t) k

-- the methods of each interface type in a settled term differ by name
abbrev pub SettledIsApart : Type 0
SettledIsApart = (kind : DeclKey → Kind) (t : Term) → IsApart (settled kind t)

-- look-ups that agree on what a written term mentions settle it alike
abbrev pub SettlingIsLocal : Type 0
SettlingIsLocal =
    (kind other : DeclKey → Kind) (t : Term) → ((k : DeclKey) → Contains (term_keys t) k → kind k ≡ other k) → settled kind t ≡ settled other t
