-- Where an identifier that is used is declared.
--
-- The Go specification, "Declarations and scope", "Qualified identifiers", "Selectors".
use Rattle.std.specs.Prelude.{◌≡◌, ◌⊎◌, ℕ, Bool, true, false, ◌&&◌, nat_le, nat_lt, List, Ok, Some, IsTrue, slice_get}
use Rattle.std.specs.List.{list_any}
use Rattle.go_tree_nodes.specs.text_core.declared.rule.Rule.{Rule}
use Rattle.go_tree_nodes.specs.text_core.declared.rule.Rule.TheVariants.{Q1, Q2, Q3}
use Rattle.go_tree_nodes.specs.token_core.declared.kind.TokenKind.{TokenKind}
use Rattle.go_tree_nodes.specs.token_core.declared.kind.TokenKind.TheVariants as kinds
use Rattle.go_tree_nodes.specs.token_core.declared.token.Token.{Token}
use Rattle.go_scan_core.specs.Cutting.{tokens_of}
use Rattle.go_parse_core.specs.tree_core.Occurrences.{CoversAt, NoneCovers, file_occs}
use Rattle.go_expr_core.specs.denote_core.declared.things.Outcome.TheVariants as outcomes
use Rattle.go_complete_core.specs.report_core.UsageUsed.{FileUse, TheOutcome}
use Rattle.go_declared_core.specs.handle_core.Declarations.{Declaration}
use Rattle.go_complete_core.specs.package_core.PackagePartParts.{PartModel}
use Rattle.go_complete_core.specs.snap_core.Snapshots.{FoundFile, HasNoFile, IsFileAt, IsPartAt, SnapshotModel}

abbrev pub is_identifier : TokenKind → Bool
is_identifier kinds.Identifier = true
is_identifier kinds.Integer = false
is_identifier kinds.String = false
is_identifier (kinds.Keyword k) = false
is_identifier (kinds.Operator o) = false

-- a token is an identifier, and the offset lies in it
abbrev pub is_over : ℕ → Token → Bool
is_over offset t = is_identifier t.kind && (nat_le t.span.start offset && nat_lt offset t.span.end)

-- one of the tokens of a text is an identifier in which the offset lies
abbrev pub IsIdentifierAt : List ℕ → ℕ → Type 0
IsIdentifierAt text offset = (tokens : List Token) × (tokens_of text ≡ Ok tokens) × IsTrue (list_any (is_over offset) tokens)

-- the rule of an offset of a text at which nothing is used
abbrev pub IsUnused : List ℕ → ℕ → Rule → Type 0
IsUnused text offset rule = ((rule ≡ Q3) × IsIdentifierAt text offset) ⊎ ((rule ≡ Q2) × ¬ IsIdentifierAt text offset)

-- the identifier that is used at an offset of a file has this
pub record IsUseIn (f : FoundFile) (offset : ℕ) (u : FileUse) : Type 0 where
  pub number : ℕ
  pub covers : CoversAt offset (file_occs f.tree) number
  pub has : slice_get f.made.answers.uses number ≡ Some u

-- the declaration of an outcome
abbrev pub Declares : TheOutcome → Declaration → Type 0
Declares (outcomes.Declared d) e = e ≡ d
Declares (outcomes.Selected d path) e = e ≡ d
Declares (outcomes.Refused rule) e = ⊥

abbrev pub IsDefinitionIn : FoundFile → ℕ → Declaration → Type 0
IsDefinitionIn f offset d = (u : FileUse) × IsUseIn f offset u × Declares u.outcome d

-- the rule by which it is refused; where no identifier is used there, Q3 where one stands there, else Q2
abbrev pub IsRefusalIn : FoundFile → ℕ → Rule → Type 0
IsRefusalIn f offset rule = ((u : FileUse) × IsUseIn f offset u × (u.outcome ≡ outcomes.Refused rule)) ⊎ (NoneCovers offset (file_occs f.tree) × IsUnused f.source.text offset rule)

-- the declaration of the identifier that is used at an offset of the file of a name, in the package of a path
abbrev pub IsDefinition : SnapshotModel → List ℕ → List ℕ → ℕ → Declaration → Type 0
IsDefinition s path name offset d = (f : FoundFile) × IsFileAt s.sources s.parts path name f × IsDefinitionIn f offset d

-- Q1: there is no assembled package of the path
abbrev pub HasNoPart : SnapshotModel → List ℕ → Type 0
HasNoPart s path = (p : PartModel) → ¬ IsPartAt s.sources s.parts path p

-- the rule of a file that the package of a path has not
abbrev pub IsLacking : SnapshotModel → List ℕ → Rule → Type 0
IsLacking s path rule = ((rule ≡ Q1) × HasNoPart s path) ⊎ ((rule ≡ Q2) × ((p : PartModel) × IsPartAt s.sources s.parts path p))

-- Q2: there is one, and it has no file of the name
abbrev pub LacksFile : SnapshotModel → List ℕ → List ℕ → Type 0
LacksFile s path name = (p : PartModel) × IsPartAt s.sources s.parts path p × HasNoFile s.sources s.parts path name

abbrev pub IsRefusal : SnapshotModel → List ℕ → List ℕ → ℕ → Rule → Type 0
IsRefusal s path name offset rule =
    ((rule ≡ Q1) × HasNoPart s path)
    ⊎ (((rule ≡ Q2) × LacksFile s path name)
    ⊎ ((f : FoundFile) × IsFileAt s.sources s.parts path name f × IsRefusalIn f offset rule))
