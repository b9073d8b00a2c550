-- Declarations with marks, and declarations that leave out semicolons, say the same.
use Rattle.std.proofs.Common.{ℕ, false, List, [], ◌∷◌, ◌++◌, Option, Some, None, refl}
use Rattle.go_tree_nodes.specs.text_core.declared.span.Span.{Span}
use Rattle.go_tree_nodes.specs.token_core.declared.kind.Keyword.TheVariants as keyword
use Rattle.go_tree_nodes.specs.token_core.declared.kind.Operator.TheVariants as operator
use Rattle.go_tree_nodes.specs.declared.names.Ident.{Ident}
use Rattle.go_tree_nodes.specs.declared.decls.ValueKind.{ValueKind}
use Rattle.go_tree_nodes.specs.declared.decls.ValueKind.TheVariants as kinds
use Rattle.go_tree_nodes.specs.Terminals.{Terminal}
use Rattle.go_tree_nodes.specs.Trees.{Separated, TypeTree, ExprTree, ValueSpecTree, Specs, Single, Group, ValueTree, TypeSpecTree, TypeDeclTree}
use Rattle.go_tree_nodes.specs.Spelling.{mark, word, spell_ident, spell_idents, spell_some, spell_some_type, spell_values, spell_value_spec, spell_specs_of, spell_specs, keyword_of, spell_value, spell_type_spec, spell_types}
use Rattle.go_tree_nodes.specs.Rules.{IsNothing, IsAliasOfName, HasEnough, Wf_type, Wf_some_type, Wf_values, Wf_value_spec, Wf_group, Wf_specs, Wf_value, Wf_type_spec, Wf_types}
use Rattle.go_tree_nodes.specs.Heights.{type_height, some_type_height, values_height, value_spec_height, group_height, specs_height, value_height, type_spec_height, types_height}
use Rattle.go_parse_core.specs.LeftOut.{Symbol, sure, Closes, symbol_semicolon, symbols_type, symbols_some, symbols_values, symbols_value_spec, symbols_group, symbols_specs, symbols_value, symbols_type_spec, symbols_types, Fills_type, Fills_some, Fills_values, Fills_value_spec, Fills_group, Fills_specs, Fills_value, Fills_type_spec, Fills_types}
use Rattle.go_parse_core.proofs.LeftOutParts.{Any, Opens, opens_along, opens_not, Splits, nothing, sure_then, one_then, both, maps, loose, join_nothing, join_both, join_sure, join_one, filled, filled_fills, filled_kept, filled_full, join_loose, Good, Filled, AnyLike, higher, both_high, in_parens, join_parens}
use Rattle.go_parse_core.proofs.LeftOutTypes.{idents_open, type_split, type_fill}
use Rattle.go_parse_core.proofs.LeftOutExprs.{exprs_split, exprs_fill}

-- both are there, or none
abbrev SomeLike : {A : Type 0} → Option A → Option A → Type 0
SomeLike None None = Unit {0}
SomeLike (Some a) (Some b) = Unit {0}
SomeLike _ _ = ⊥

enough_like : {A B : Type 0} (kind : ValueKind) (t u : Option A) (v w : Option B) → SomeLike t u → SomeLike v w → HasEnough kind t v → HasEnough kind u w
enough_like kinds.Const t u None None a b h = h
enough_like kinds.Const t u None (Some y) a b h = absurd b
enough_like kinds.Const t u (Some x) None a b h = absurd b
enough_like kinds.Const t u (Some x) (Some y) a b h = tt
enough_like kinds.Var None None None None a b h = h
enough_like kinds.Var None None (Some x) None a b h = absurd b
enough_like kinds.Var (Some x) None v w a b h = absurd a
enough_like kinds.Var t (Some y) v w a b h = tt
enough_like kinds.Var t None v (Some y) a b h = tt

-- from whole declarations to marked ones

abbrev GoodSomeType : Option TypeTree → Option TypeTree → Type 0
GoodSomeType = Good (Fills_some Fills_type) Wf_some_type some_type_height SomeLike

abbrev GoodSomeValues : Option (Span × Separated ExprTree) → Option (Span × Separated ExprTree) → Type 0
GoodSomeValues = Good (Fills_some Fills_values) Wf_values values_height SomeLike

abbrev GoodValueSpec : ValueKind → ValueSpecTree → ValueSpecTree → Type 0
GoodValueSpec kind = Good Fills_value_spec (Wf_value_spec kind) value_spec_height AnyLike

abbrev GoodTypeSpec : TypeSpecTree → TypeSpecTree → Type 0
GoodTypeSpec = Good Fills_type_spec Wf_type_spec type_spec_height AnyLike

abbrev GroupsLike : {A : Type 0} → List (A × Option Span) → List (A × Option Span) → Type 0
GroupsLike a b = IsNothing a → IsNothing b

abbrev value_spec : Separated Ident → Option TypeTree → Option (Span × Separated ExprTree) → ValueSpecTree
value_spec xs t v = record { names = xs; type_expr = t; values = v }

abbrev value_tree : ValueKind → Span → Specs ValueSpecTree → ValueTree
value_tree kind k specs = record { kind = kind; keyword = k; specs = specs }

abbrev type_spec : Ident → Option Span → TypeTree → TypeSpecTree
type_spec x alias t = record { name = x; alias = alias; type_expr = t }

abbrev types_tree : Span → Specs TypeSpecTree → TypeDeclTree
types_tree k specs = record { keyword = k; specs = specs }

some_type_split : (t : Option TypeTree) → Wf_some_type t → Fills_some Fills_type t t → Splits Any (symbols_some symbols_type t) (Option TypeTree) spell_some_type (GoodSomeType t)
some_type_split None whole full = maps nothing (λ x. None) (λ x. refl) (λ x g. record { fills = tt; wf = tt; high = refl; like = tt })
some_type_split (Some t) whole full = maps (type_split t whole full) (λ x. Some x) (λ x. refl) (λ x g. record { fills = g.fills; wf = g.wf; high = g.high; like = tt })

some_values_split : (v : Option (Span × Separated ExprTree)) → Wf_values v → Fills_some Fills_values v v → Splits Any (symbols_some symbols_values v) (Option (Span × Separated ExprTree)) spell_values (GoodSomeValues v)
some_values_split None whole full = maps nothing (λ x. None) (λ x. refl) (λ x g. record { fills = tt; wf = tt; high = refl; like = tt })
some_values_split (Some (s, es)) whole full =
    maps (one_then (mark operator.Assign s) (exprs_split false es whole full.1)) (λ x. Some (s, x)) (λ x. refl) (λ x g. record { fills = (refl, g.fills); wf = g.wf; high = g.high; like = tt })

value_spec_split : (kind : ValueKind) (v : ValueSpecTree) → Wf_value_spec kind v → Fills_value_spec v v → Splits Any (symbols_value_spec v) ValueSpecTree spell_value_spec (GoodValueSpec kind v)
value_spec_split kind v whole full =
    maps (sure_then (spell_idents v.names) (both (some_type_split v.type_expr whole.1 full.1) (some_values_split v.values whole.2 full.2)))
    (λ x. value_spec v.names x.0 x.1) (λ x. refl)
    (λ x g. record { fills = (refl, g.0.fills, g.1.fills); wf = (enough_like kind v.type_expr x.0 v.values x.1 g.0.like g.1.like whole.0, g.0.wf, g.1.wf); high = both_high g.0.high g.1.high; like = tt })

value_spec_opens : (v : ValueSpecTree) → Opens (symbols_value_spec v)
value_spec_opens v = opens_along (sure (spell_idents v.names)) _ (idents_open v.names)

-- an alias is one of a name, also where the type behind it is filled
alias_like : (alias : Option Span) (t u : TypeTree) → ((s : Span) → IsAliasOfName (Some s) t → IsAliasOfName (Some s) u) → IsAliasOfName alias t → IsAliasOfName alias u
alias_like None t u like h = tt
alias_like (Some s) t u like h = like s h

type_spec_split : (t : TypeSpecTree) → Wf_type_spec t → Fills_type_spec t t → Splits Any (symbols_type_spec t) TypeSpecTree spell_type_spec (GoodTypeSpec t)
type_spec_split t whole full =
    maps (one_then (spell_ident t.name) (sure_then (spell_some operator.Assign t.alias) (type_split t.type_expr whole.0 full.2)))
    (λ x. type_spec t.name t.alias x) (λ x. refl)
    (λ x g. record { fills = (refl, refl, g.fills); wf = (g.wf, alias_like t.alias t.type_expr x g.like.2 whole.1); high = g.high; like = tt })

type_spec_opens : (t : TypeSpecTree) → Opens (symbols_type_spec t)
type_spec_opens t = λ c. c

-- a group, of what its items are split by

group_last : {A : Type 0} (s : A → List Symbol) → ((x : A) → Opens (s x)) → (xs : List (A × Option Span)) (more : List Symbol) → Closes (symbols_group s xs ++ more) → IsNothing xs
group_last s opens [] more h = tt
group_last s opens (x ∷ xs) more h =
    let behind = symbol_semicolon x.1 ++ symbols_group s xs in
    opens_not (s x.0 ++ behind) more (opens_along (s x.0) behind (opens x.0)) h

group_split : {A : Type 0} {f : A → List Terminal} {s : A → List Symbol} {F : A → A → Type 0} {W : A → Type 0} {h : A → ℕ} {L : A → A → Type 0} → ((x : A) → W x → F x x → Splits Any (s x) A f (Good F W h L x)) → ((x : A) → Opens (s x)) → (xs : List (A × Option Span)) → Wf_group W xs → Fills_group F xs xs → Splits Closes (symbols_group s xs) (List (A × Option Span)) (spell_specs_of f) (Good (Fills_group F) (Wf_group W) (group_height h) GroupsLike xs)
group_split split opens [] whole full = maps nothing (λ x. []) (λ x. refl) (λ x g. record { fills = tt; wf = tt; high = refl; like = λ y. y })
group_split split opens ((x, None) ∷ xs) whole full = absurd full.1
group_split {A} {f} {s} split opens ((x, Some r) ∷ xs) whole full =
    maps (both (split x whole.0 full.0) (loose r (IsNothing xs) IsNothing (group_last s opens xs) (λ y g. g.like) (group_split split opens xs whole.2 full.2)))
    (λ y. (y.0, y.1.0) ∷ y.1.1) (λ y. refl)
    (λ y g. record { fills = (g.0.fills, g.1.fills, g.1.rest.fills); wf = (g.0.wf, g.1.kept, g.1.rest.wf); high = both_high g.0.high g.1.rest.high; like = λ z. z })

pub specs_split : {A : Type 0} {f : A → List Terminal} {s : A → List Symbol} {F : A → A → Type 0} {W : A → Type 0} {h : A → ℕ} {L : A → A → Type 0} → ((x : A) → W x → F x x → Splits Any (s x) A f (Good F W h L x)) → ((x : A) → Opens (s x)) → (specs : Specs A) → Wf_specs W specs → Fills_specs F specs specs → Splits Any (symbols_specs s specs) (Specs A) (spell_specs f) (Good (Fills_specs F) (Wf_specs W) (specs_height h) AnyLike specs)
specs_split split opens (Single x) whole full = maps (split x whole full) (λ y. Single y) (λ y. refl) (λ y g. record { fills = g.fills; wf = g.wf; high = g.high; like = tt })
specs_split split opens (Group first xs last) whole full =
    maps (in_parens first last (group_split split opens xs whole full.1) (λ more. tt))
    (λ y. Group first y last) (λ y. refl)
    (λ y g. record { fills = (refl, g.fills, refl); wf = g.wf; high = g.high; like = tt })

abbrev pub GoodValue : ValueTree → ValueTree → Type 0
GoodValue = Good Fills_value Wf_value value_height AnyLike

abbrev pub GoodTypes : TypeDeclTree → TypeDeclTree → Type 0
GoodTypes = Good Fills_types Wf_types types_height AnyLike

pub value_split : (v : ValueTree) → Wf_value v → Fills_value v v → Splits Any (symbols_value v) ValueTree spell_value (GoodValue v)
value_split v whole full =
    maps (one_then (word (keyword_of v.kind) v.keyword) (specs_split (value_spec_split v.kind) value_spec_opens v.specs whole full.2))
    (λ x. value_tree v.kind v.keyword x) (λ x. refl)
    (λ x g. record { fills = (refl, refl, g.fills); wf = g.wf; high = higher g.high; like = tt })

pub types_split : (t : TypeDeclTree) → Wf_types t → Fills_types t t → Splits Any (symbols_types t) TypeDeclTree spell_types (GoodTypes t)
types_split t whole full =
    maps (one_then (word keyword.«Type» t.keyword) (specs_split type_spec_split type_spec_opens t.specs whole full.1))
    (λ x. types_tree t.keyword x) (λ x. refl)
    (λ x g. record { fills = (refl, g.fills); wf = g.wf; high = higher g.high; like = tt })

-- from marked declarations to whole ones

abbrev FilledSomeType : Option TypeTree → Type 0
FilledSomeType = Filled Any (symbols_some symbols_type) spell_some_type (Fills_some Fills_type) (Wf_some_type) some_type_height SomeLike

abbrev FilledSomeValues : Option (Span × Separated ExprTree) → Type 0
FilledSomeValues = Filled Any (symbols_some symbols_values) spell_values (Fills_some Fills_values) (Wf_values) values_height SomeLike

abbrev FilledValueSpec : ValueKind → ValueSpecTree → Type 0
FilledValueSpec kind = Filled Any symbols_value_spec spell_value_spec Fills_value_spec (Wf_value_spec kind) value_spec_height AnyLike

abbrev FilledTypeSpec : TypeSpecTree → Type 0
FilledTypeSpec = Filled Any symbols_type_spec spell_type_spec Fills_type_spec Wf_type_spec type_spec_height AnyLike

some_type_fill : (t : Option TypeTree) → Wf_some_type t → FilledSomeType t
some_type_fill None wf = record { tree = None; fills = tt; full = tt; wf = tt; high = refl; like = tt; joins = join_nothing }
some_type_fill (Some t) wf =
    let q = type_fill t wf in
    record { tree = Some q.tree; fills = q.fills; full = q.full; wf = q.wf; high = q.high; like = tt; joins = q.joins }

some_values_fill : (v : Option (Span × Separated ExprTree)) → Wf_values v → FilledSomeValues v
some_values_fill None wf = record { tree = None; fills = tt; full = tt; wf = tt; high = refl; like = tt; joins = join_nothing }
some_values_fill (Some (s, es)) wf =
    let q = exprs_fill false es wf in
    record { tree = Some (s, q.tree); fills = (refl, q.fills); full = (refl, q.full); wf = q.wf; high = q.high; like = tt; joins = join_one (mark operator.Assign s) q.joins }

value_spec_fill : (kind : ValueKind) (v : ValueSpecTree) → Wf_value_spec kind v → FilledValueSpec kind v
value_spec_fill kind v wf =
    let q = some_type_fill v.type_expr wf.1 in
    let r = some_values_fill v.values wf.2 in
    record {
      tree = value_spec v.names q.tree r.tree;
      fills = (refl, q.fills, r.fills);
      full = (refl, q.full, r.full);
      wf = (enough_like kind v.type_expr q.tree v.values r.tree q.like r.like wf.0, q.wf, r.wf);
      high = both_high q.high r.high;
      like = tt;
      joins = join_sure (spell_idents v.names) (join_both q.joins r.joins);
    }

type_spec_fill : (t : TypeSpecTree) → Wf_type_spec t → FilledTypeSpec t
type_spec_fill t wf =
    let q = type_fill t.type_expr wf.0 in
    record {
      tree = type_spec t.name t.alias q.tree;
      fills = (refl, refl, q.fills);
      full = (refl, refl, q.full);
      wf = (q.wf, alias_like t.alias t.type_expr q.tree q.like.2 wf.1);
      high = q.high;
      like = tt;
      joins = join_one (spell_ident t.name) (join_sure (spell_some operator.Assign t.alias) q.joins);
    }

-- a group, of what its items are filled by

group_end : {A : Type 0} (s : A → List Symbol) (xs : List (A × Option Span)) → IsNothing xs → (more : List Symbol) → Closes more → Closes (symbols_group s xs ++ more)
group_end s [] last more h = h
group_end s (x ∷ xs) last more h = absurd last

group_fill : {A : Type 0} {f : A → List Terminal} {s : A → List Symbol} {F : A → A → Type 0} {W : A → Type 0} {h : A → ℕ} {L : A → A → Type 0} → ((x : A) → W x → Filled Any s f F W h L x) → (xs : List (A × Option Span)) → Wf_group W xs → Filled Closes (symbols_group s) (spell_specs_of f) (Fills_group F) (Wf_group W) (group_height h) GroupsLike xs
group_fill fill [] wf = record { tree = []; fills = tt; full = tt; wf = tt; high = refl; like = λ y. y; joins = join_nothing }
group_fill {A} {f} {s} fill ((x, r) ∷ xs) wf =
    let q = fill x wf.0 in
    let m = group_fill fill xs wf.2 in
    record {
      tree = (q.tree, filled r) ∷ m.tree;
      fills = (q.fills, filled_fills r, m.fills);
      full = (q.full, filled_full r, m.full);
      wf = (q.wf, filled_kept (IsNothing m.tree) r, m.wf);
      high = both_high q.high m.high;
      like = λ y. y;
      joins = join_both q.joins (join_loose r (IsNothing xs) wf.1 (λ last. group_end s m.tree (m.like last)) m.joins);
    }

pub specs_fill : {A : Type 0} {f : A → List Terminal} {s : A → List Symbol} {F : A → A → Type 0} {W : A → Type 0} {h : A → ℕ} {L : A → A → Type 0} → ((x : A) → W x → Filled Any s f F W h L x) → (specs : Specs A) → Wf_specs W specs → Filled Any (symbols_specs s) (spell_specs f) (Fills_specs F) (Wf_specs W) (specs_height h) AnyLike specs
specs_fill fill (Single x) wf =
    let q = fill x wf in
    record { tree = Single q.tree; fills = q.fills; full = q.full; wf = q.wf; high = q.high; like = tt; joins = q.joins }
specs_fill fill (Group first xs last) wf =
    let q = group_fill fill xs wf in
    record {
      tree = Group first q.tree last;
      fills = (refl, q.fills, refl);
      full = (refl, q.full, refl);
      wf = q.wf;
      high = q.high;
      like = tt;
      joins = join_parens first last q.joins (λ more. tt);
    }

abbrev pub FilledValue : ValueTree → Type 0
FilledValue = Filled Any symbols_value spell_value Fills_value Wf_value value_height AnyLike

abbrev pub FilledTypes : TypeDeclTree → Type 0
FilledTypes = Filled Any symbols_types spell_types Fills_types Wf_types types_height AnyLike

pub value_fill : (v : ValueTree) → Wf_value v → FilledValue v
value_fill v wf =
    let q = specs_fill (value_spec_fill v.kind) v.specs wf in
    record {
      tree = value_tree v.kind v.keyword q.tree;
      fills = (refl, refl, q.fills);
      full = (refl, refl, q.full);
      wf = q.wf;
      high = higher q.high;
      like = tt;
      joins = join_one (word (keyword_of v.kind) v.keyword) q.joins;
    }

pub types_fill : (t : TypeDeclTree) → Wf_types t → FilledTypes t
types_fill t wf =
    let q = specs_fill type_spec_fill t.specs wf in
    record {
      tree = types_tree t.keyword q.tree;
      fills = (refl, q.fills);
      full = (refl, q.full);
      wf = q.wf;
      high = higher q.high;
      like = tt;
      joins = join_one (word keyword.«Type» t.keyword) q.joins;
    }
