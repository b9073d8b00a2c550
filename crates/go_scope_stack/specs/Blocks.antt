-- What a contract sees of the open blocks: a list of blocks, the outermost first, each a list of names with
-- their declarations, in the order in which they were declared.
use Rattle.std.specs.Prelude.{◌≡◌, ℕ, Bool, true, false, ◌&&◌, not, List, [], ◌∷◌, ◌++◌, map, All, Option, Some, None, is_some, if◌then◌else◌}
use Rattle.std.specs.List.{list_any}
use Rattle.std.specs.Str.{bytes_eq}
use Rattle.std.specs.Map.{lookup}
use Rattle.std.specs.Borrow.{Bor}
use Rattle.go_collections_core.specs.name_table.Named.{Named}
use Rattle.go_collections_core.specs.text_core.Text.{is_blank}
use Rattle.go_scope_stack.specs.declared.DeclId.{DeclId}
use Rattle.go_scope_stack.specs.declared.short.ShortName.{ShortName}
use Rattle.go_scope_stack.specs.declared.short.ShortName.TheVariants.{New, Old, Blank, Repeated}

-- the declaration of a name in one block
abbrev pub in_block : {X : Type 0} → List (List ℕ × X) → List ℕ → Option X
in_block block name = lookup (bytes_eq name) block

-- one of two, the first where it is there
abbrev pub or_else : {A : Type 0} → Option A → Option A → Option A
or_else (Some a) b = Some a
or_else None b = b

-- the innermost declaration of a name
abbrev pub found_in : {X : Type 0} → List (List (List ℕ × X)) → List ℕ → Option X
found_in [] name = None
found_in (block ∷ blocks) name = or_else (found_in blocks name) (in_block block name)

-- the innermost block, or none
abbrev pub innermost : {X : Type 0} → List (List (List ℕ × X)) → List (List ℕ × X)
innermost [] = []
innermost (block ∷ []) = block
innermost (block ∷ other ∷ blocks) = innermost (other ∷ blocks)

-- the blocks, with another in place of the innermost
abbrev pub with_innermost : {X : Type 0} → List (List (List ℕ × X)) → List (List ℕ × X) → List (List (List ℕ × X))
with_innermost [] new = []
with_innermost (block ∷ []) new = new ∷ []
with_innermost (block ∷ other ∷ blocks) new = block ∷ with_innermost (other ∷ blocks) new

-- whether a declaration of the name in the innermost block would be the second
abbrev pub is_taken : {X : Type 0} → List (List (List ℕ × X)) → List ℕ → Bool
is_taken blocks name = not (is_blank name) && is_some (in_block (innermost blocks) name)

-- a block after a declaration in it
abbrev pub block_with : {X : Type 0} → List (List ℕ × X) → List ℕ → X → List (List ℕ × X)
block_with block name id = if is_blank name then block else block ++ (name, id) ∷ []

-- the names of a table as a block
abbrev pub block_of : {X : Type 0} → Named X → List (List ℕ × X)
block_of table = table.names

-- the names of one block
abbrev pub names_in : {X : Type 0} → List (List ℕ × X) → List (List ℕ)
names_in block = map (λ e. e.0) block

-- the names of all blocks, the outermost first, each block's in the order of their declarations
abbrev pub all_names : {X : Type 0} → List (List (List ℕ × X)) → List (List ℕ)
all_names [] = []
all_names (block ∷ blocks) = names_in block ++ all_names blocks

-- a name is new in a block where it is not blank and not declared there
abbrev pub is_new : {X : Type 0} → List (List ℕ × X) → List ℕ → Bool
is_new block name = not (is_blank name) && not (is_some (in_block block name))

-- a block after the names of a short declaration, of which it gains those that are new
abbrev pub block_after : {X : Type 0} → List (List ℕ × X) → List (List ℕ × X) → List (List ℕ × X)
block_after block [] = block
block_after block (n ∷ names) = block_after (if is_new block n.0 then block ++ n ∷ [] else block) names

-- the names of a short declaration, as bytes
abbrev pub named : List (Bor (List ℕ) × DeclId) → List (List ℕ × DeclId)
named names = map (λ n. (n.0.now, n.1)) names

-- whether a name is among these
abbrev pub is_listed : List (List ℕ) → List ℕ → Bool
is_listed names name = list_any (bytes_eq name) names

-- a name to the left of `:=` is repeated where it stands to its left already and is not blank
abbrev pub is_repeated : List (List ℕ) → List ℕ → Bool
is_repeated before name = not (is_blank name) && is_listed before name

-- which of some names are repeated, behind others
abbrev pub repeated_behind : List (List ℕ) → List (List ℕ) → List Bool
repeated_behind before [] = []
repeated_behind before (name ∷ names) = is_repeated before name ∷ repeated_behind (before ++ name ∷ []) names

-- what a name to the left of `:=` is, in a block and behind other names
abbrev pub short_name : {X : Type 0} → List (List ℕ × X) → List (List ℕ) → List ℕ → ShortName
short_name block before name =
    if is_repeated before name then Repeated else (if is_blank name then Blank else (if is_some (in_block block name) then Old else New))

-- what some names are, behind others
abbrev pub short_names_behind : {X : Type 0} → List (List ℕ × X) → List (List ℕ) → List (List ℕ) → List ShortName
short_names_behind block before [] = []
short_names_behind block before (name ∷ names) = short_name block before name ∷ short_names_behind block (before ++ name ∷ []) names

-- what the names to the left of `:=` are in a block, in their order
abbrev pub short_names : {X : Type 0} → List (List ℕ × X) → List (List ℕ) → List ShortName
short_names block names = short_names_behind block [] names

-- a name that is declared by its short declaration
abbrev pub is_short_new : ShortName → Bool
is_short_new New = true
is_short_new Old = false
is_short_new Blank = false
is_short_new Repeated = false

-- whether one of the names is declared by their short declaration
abbrev pub any_new : List ShortName → Bool
any_new shorts = list_any is_short_new shorts

-- those of the names with declarations that are new
abbrev pub only_new : {X : Type 0} → List ShortName → List (List ℕ × X) → List (List ℕ × X)
only_new [] names = []
only_new (s ∷ shorts) [] = []
only_new (s ∷ shorts) (n ∷ names) = (if is_short_new s then n ∷ [] else []) ++ only_new shorts names

-- a list of names with one more, unless it is there
abbrev pub list_name : List (List ℕ) → List ℕ → List (List ℕ)
list_name listed name = if is_listed listed name then listed else listed ++ name ∷ []

-- a list of names with more names, each once, at its first place
abbrev pub list_names : List (List ℕ) → List (List ℕ) → List (List ℕ)
list_names listed [] = listed
list_names listed (name ∷ names) = list_names (list_name listed name) names

-- no block of these has a declaration of the name
abbrev pub NoneHas : {X : Type 0} → List (List (List ℕ × X)) → List ℕ → Type 0
NoneHas blocks name = All (λ block. in_block block name ≡ None) blocks

-- the innermost block that has a declaration of the name has this one
abbrev pub IsInnermost : {X : Type 0} → List (List (List ℕ × X)) → List ℕ → X → Type 0
IsInnermost {X} blocks name id =
    (outer : List (List (List ℕ × X))) × (block : List (List ℕ × X)) × (inner : List (List (List ℕ × X)))
    × (blocks ≡ outer ++ block ∷ inner) × (in_block block name ≡ Some id) × NoneHas inner name
