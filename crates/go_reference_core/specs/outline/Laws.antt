-- What holds of outlines.
use Rattle.std.specs.Prelude.{◌≡◌, ◌≤◌, ⊤, ℕ, Bool, true, false, not, List, [], ◌∷◌, map}
use Rattle.std.specs.List.{filter}
use Rattle.go_tree_nodes.specs.Spelling.{IsPlaced}
use Rattle.go_tree_nodes.specs.Trees.{FileTree}
use Rattle.go_term_core.specs.decl_core.TopDecls.{top_decls}
use Rattle.go_reference_core.specs.outline.Outlines.{EntryTree, outline_of}

-- the entries that are no members are exactly the declarations outside functions, in order
abbrev pub NamesAreDeclared : Type 0
NamesAreDeclared = (f : FileTree) → map (λ e. e.ident) (filter (λ e. not e.is_member) (outline_of f)) ≡ map (λ d. d.ident) (top_decls f)

-- a name stands in its declaration, and the head of that in it
pub record StandsIn (e : EntryTree) : Type 0 where
  pub begins : e.start ≤ e.ident.span.start
  pub ends : e.ident.span.end ≤ e.head_end
  pub head : e.head_end ≤ e.end

-- a member stands between two offsets; another entry is an outermost one
abbrev pub LiesWithin : Bool → ℕ → ℕ → EntryTree → Type 0
LiesWithin true low high e = (low ≤ e.start) × (e.end ≤ high)
LiesWithin false low high e = ⊤

-- where members stand after an entry: in it, or where they stood, where it is a member itself
abbrev pub low_after : Bool → ℕ → EntryTree → ℕ
low_after true low e = low
low_after false low e = e.start

abbrev pub high_after : Bool → ℕ → EntryTree → ℕ
high_after true high e = high
high_after false high e = e.end

-- each name stands in its declaration, and each member in the declaration of the last entry before it that is none
abbrev pub StandFrom : ℕ → ℕ → List EntryTree → Type 0
StandFrom low high [] = ⊤
StandFrom low high (e ∷ es) = StandsIn e × LiesWithin e.is_member low high e × StandFrom (low_after e.is_member low e) (high_after e.is_member high e) es

abbrev pub NamesStandWithin : Type 0
NamesStandWithin = (f : FileTree) → IsPlaced f → StandFrom 0 0 (outline_of f)
