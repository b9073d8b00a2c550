-- Reading finds the parameters that are spelled, and no others.
use Rattle.std.proofs.Common.{◌≡◌, ℕ, suc, ◌<◌, ◌≤◌, max, Bool, true, false, List, [], ◌∷◌, ◌++◌, length, Option, Some, None, Ok, refl, sym, ap, ◌∙◌, subst, arith, cond, inl}
use Rattle.go_tree_nodes.specs.text_core.declared.span.Span.{Span}
use Rattle.go_tree_nodes.specs.token_core.declared.kind.Operator.TheVariants as operator
use Rattle.go_tree_nodes.specs.declared.names.Ident.{Ident}
use Rattle.go_tree_nodes.specs.declared.types.TypeName.TheVariants as type_name
use Rattle.go_tree_nodes.specs.Terminals.{Terminal}
use Rattle.go_tree_nodes.specs.Trees.{Separated, One, Then, TypeTree, NamedType, Pointer, ParenType, Struct, Interface, ParamTrees, NoParams, Param}
use Rattle.go_tree_nodes.specs.Spelling.{mark, spell_ident, spell_idents, spell_some, spell_type, spell_params}
use Rattle.go_tree_nodes.specs.Rules.{IsKept, IsNothing, IsLastParam, is_grouped, Wf_type, Wf_params, Wf_group}
use Rattle.go_tree_nodes.specs.Heights.{type_height, params_height, group_height}
use Rattle.go_parse_reader.specs.types.mirrors.Marks.{◌>>=◌, Reading, need, mark_at, name_at, list_go}
use Rattle.go_tree_nodes.specs.Naming.{plain_name}
use Rattle.go_parse_reader.specs.types.mirrors.TypeReading.{EntryTree, begins_type, entry_if, entry_by, entry_at, has_name, as_types, group_one, group_more, group_next, as_groups, as_params, params_by, params_at}
use Rattle.go_parse_reader.proofs.TypesMarks.{name_was, bind_ok, need_ok, AgreesAt, bind_agrees, agrees_along}
use Rattle.go_parse_reader.proofs.TypesLists.{spell_list, FoundItem, list_complete, ReadsItem, list_sound}
use Rattle.go_parse_reader.proofs.TypesTypeFacts.{FindsTypes, ReadsTypes, type_no_mark, type_begins, spell_type_some, type_height_some}

-- entries

abbrev pub spell_entry : EntryTree → List Terminal
spell_entry (None, t) = spell_type t
spell_entry (Some x, t) = spell_ident x ∷ spell_type t

abbrev pub Wf_entry : EntryTree → Type 0
Wf_entry e = Wf_type e.1

abbrev pub entry_height : EntryTree → ℕ
entry_height e = type_height e.1

-- a type alone is no name before a type
alone_is : (type : List Terminal → Reading TypeTree) (t : TypeTree) (rest : List Terminal) → begins_type rest ≡ false → entry_at type (spell_type t ++ rest) ≡ (type (spell_type t ++ rest) >>= λ y. Ok ((None, y.0), y.1))
alone_is type (NamedType (type_name.Plain x)) rest free = ap (entry_if type (spell_ident x ∷ rest) x rest) free
alone_is type (NamedType (type_name.Qualified p dot x)) rest free = refl
alone_is type (Pointer s t) rest free = refl
alone_is type (ParenType first t last) rest free = refl
alone_is type (Struct k first fs last) rest free = refl
alone_is type (Interface k first ms last) rest free = refl

entry_found : (b : ℕ) (type : List Terminal → Reading TypeTree) → FindsTypes b type → (e : EntryTree) (rest : List Terminal) → Wf_entry e → mark_at operator.Dot rest ≡ None → begins_type rest ≡ false → AgreesAt (entry_at type (spell_entry e ++ rest)) (Ok (e, rest)) b (entry_height e)
entry_found b type finds (None, t) rest wf dot free =
    agrees_along _ _ _ b (type_height t) (alone_is type t rest free)
    (bind_agrees (type (spell_type t ++ rest)) (t, rest) (λ y. Ok ((None, y.0), y.1)) (Ok ((None, t), rest)) b (type_height t) b (type_height t) (finds t rest wf dot) (inl refl) (λ h. h))
entry_found b type finds (Some x, t) rest wf dot free =
    agrees_along _ _ _ b (type_height t) (ap (entry_if type (spell_ident x ∷ (spell_type t ++ rest)) x (spell_type t ++ rest)) (type_begins t rest))
    (bind_agrees (type (spell_type t ++ rest)) (t, rest) (λ y. Ok ((Some x, y.0), y.1)) (Ok ((Some x, t), rest)) b (type_height t) b (type_height t) (finds t rest wf dot) (inl refl) (λ h. h))

entry_opens : (e : EntryTree) (ts : List Terminal) → mark_at operator.CloseParen (spell_entry e ++ ts) ≡ None
entry_opens (None, t) ts = type_no_mark operator.CloseParen refl refl t ts
entry_opens (Some x, t) ts = refl

pub entry_some : (e : EntryTree) → 0 < length (spell_entry e)
entry_some (None, t) = spell_type_some t
entry_some (Some x, t) = omega arith

entry_item : (b : ℕ) (type : List Terminal → Reading TypeTree) → FindsTypes b type → (e : EntryTree) → Wf_entry e → FoundItem EntryTree (entry_at type) spell_entry operator.Comma operator.CloseParen b (entry_height e) e
entry_item b type finds e wf =
    record { before_mark = λ s ts. entry_found b type finds e (mark operator.Comma s ∷ ts) wf refl refl; before_end = λ z ts. entry_found b type finds e (mark operator.CloseParen z ∷ ts) wf refl refl; opens = entry_opens e }

alone_reads : (b : ℕ) (type : List Terminal → Reading TypeTree) → ReadsTypes b type → (ts : List Terminal) (y : EntryTree × List Terminal) → (type ts >>= λ y. Ok ((None, y.0), y.1)) ≡ Ok y → ReadsItem EntryTree spell_entry entry_height Wf_entry b ts y
alone_reads b type reads ts y e =
    let w = bind_ok (type ts) (λ y. Ok ((None, y.0), y.1)) y e in
    let r = reads ts w.0 w.1 in
    let same : ((None, w.0.0), w.0.1) ≡ y = cc (w.2) in
    subst (ReadsItem EntryTree spell_entry entry_height Wf_entry b ts) same (record { spelled_as = r.spelled; wf = r.wf; low = r.low })

entry_if_reads : (b : ℕ) (type : List Terminal → Reading TypeTree) → ReadsTypes b type → (ts : List Terminal) (x : Ident) (rest : List Terminal) → ts ≡ spell_ident x ∷ rest → (c : Bool) (y : EntryTree × List Terminal) → entry_if type ts x rest c ≡ Ok y → ReadsItem EntryTree spell_entry entry_height Wf_entry b ts y
entry_if_reads b type reads ts x rest is false y e = alone_reads b type reads ts y e
entry_if_reads b type reads ts x rest is true y e =
    let w = bind_ok (type rest) (λ y. Ok ((Some x, y.0), y.1)) y e in
    let r = reads rest w.0 w.1 in
    let same : ((Some x, w.0.0), w.0.1) ≡ y = cc (w.2) in
    subst (ReadsItem EntryTree spell_entry entry_height Wf_entry b ts) same (record { spelled_as = is ∙ ap (λ l. spell_ident x ∷ l) r.spelled; wf = r.wf; low = r.low })

entry_by_reads : (b : ℕ) (type : List Terminal → Reading TypeTree) → ReadsTypes b type → (ts : List Terminal) (o : Option (Ident × List Terminal)) → name_at ts ≡ o → (y : EntryTree × List Terminal) → entry_by type ts o ≡ Ok y → ReadsItem EntryTree spell_entry entry_height Wf_entry b ts y
entry_by_reads b type reads ts None at y e = alone_reads b type reads ts y e
entry_by_reads b type reads ts (Some x) at y e = entry_if_reads b type reads ts x.0 x.1 (name_was ts x at) (begins_type x.1) y e

-- an entry that is read is spelled in front
pub entry_sound : (b : ℕ) (type : List Terminal → Reading TypeTree) → ReadsTypes b type → (ts : List Terminal) (y : EntryTree × List Terminal) → entry_at type ts ≡ Ok y → ReadsItem EntryTree spell_entry entry_height Wf_entry b ts y
entry_sound b type reads ts y e = entry_by_reads b type reads ts (name_at ts) refl y e

-- parameters as entries

abbrev pub name_entries : Separated Ident → TypeTree → Option Span → List (EntryTree × Option Span) → List (EntryTree × Option Span)
name_entries (One x) t comma more = ((Some x, t), comma) ∷ more
name_entries (Then x s xs) t comma more = ((None, NamedType (type_name.Plain x)), Some s) ∷ name_entries xs t comma more

abbrev pub entries : ParamTrees → List (EntryTree × Option Span)
entries NoParams = []
entries (Param None t comma rest) = ((None, t), comma) ∷ entries rest
entries (Param (Some xs) t comma rest) = name_entries xs t comma (entries rest)

types_unnamed : (p : ParamTrees) → Wf_params false p → has_name (entries p) ≡ false
types_unnamed NoParams wf = refl
types_unnamed (Param None t comma rest) wf = types_unnamed rest wf.3
types_unnamed (Param (Some xs) t comma rest) wf = cc (wf.0)

types_back : (p : ParamTrees) → Wf_params false p → as_types (entries p) ≡ p
types_back NoParams wf = refl
types_back (Param None t comma rest) wf = ap (Param None t comma) (types_back rest wf.3)
types_back (Param (Some xs) t comma rest) wf = cc (wf.0)

names_named : (xs : Separated Ident) (t : TypeTree) (comma : Option Span) (more : List (EntryTree × Option Span)) → has_name (name_entries xs t comma more) ≡ true
names_named (One x) t comma more = refl
names_named (Then x s xs) t comma more = names_named xs t comma more

names_back : (xs : Separated Ident) (t : TypeTree) (comma : Option Span) (more : List (EntryTree × Option Span)) (rest : ParamTrees) → as_groups more ≡ Some rest → as_groups (name_entries xs t comma more) ≡ Some (Param (Some xs) t comma rest)
names_back (One x) t comma more rest e = ap (group_one x t comma) e
names_back (Then x s xs) t comma more rest e = ap (group_more x s) (names_back xs t comma more rest e)

groups_back : (p : ParamTrees) → Wf_params true p → as_groups (entries p) ≡ Some p
groups_back NoParams wf = refl
groups_back (Param None t comma rest) wf = cc (wf.0)
groups_back (Param (Some xs) t comma rest) wf = names_back xs t comma (entries rest) rest (groups_back rest wf.3)

-- the entries of parameters are those parameters
pub params_back : (p : ParamTrees) → Wf_params (is_grouped p) p → as_params (entries p) ≡ Some p
params_back NoParams wf = refl
params_back (Param None t comma rest) wf =
    let p = Param None t comma rest in
    ap (λ c. cond c (as_groups (entries p)) (Some (as_types (entries p)))) (types_unnamed p wf) ∙ ap Some (types_back p wf)
params_back (Param (Some xs) t comma rest) wf =
    let p = Param (Some xs) t comma rest in
    ap (λ c. cond c (as_groups (entries p)) (Some (as_types (entries p)))) (names_named xs t comma (entries rest)) ∙ groups_back p wf

names_spelled : (xs : Separated Ident) (t : TypeTree) (comma : Option Span) (more : List (EntryTree × Option Span)) → spell_list spell_entry operator.Comma (name_entries xs t comma more) ≡ spell_idents xs ++ (spell_type t ++ (spell_some operator.Comma comma ++ spell_list spell_entry operator.Comma more))
names_spelled (One x) t comma more = refl
names_spelled (Then x s xs) t comma more = ap (λ l. spell_ident x ∷ (mark operator.Comma s ∷ l)) (names_spelled xs t comma more)

-- they write the same
pub entries_spelled : (p : ParamTrees) → spell_list spell_entry operator.Comma (entries p) ≡ spell_params p
entries_spelled NoParams = refl
entries_spelled (Param None t comma rest) = ap (λ l. spell_type t ++ (spell_some operator.Comma comma ++ l)) (entries_spelled rest)
entries_spelled (Param (Some xs) t comma rest) =
    names_spelled xs t comma (entries rest) ∙ ap (λ l. spell_idents xs ++ (spell_type t ++ (spell_some operator.Comma comma ++ l))) (entries_spelled rest)

names_high : (xs : Separated Ident) (t : TypeTree) (comma : Option Span) (more : List (EntryTree × Option Span)) → group_height entry_height (name_entries xs t comma more) ≡ max (type_height t) (group_height entry_height more)
names_high (One x) t comma more = refl
names_high (Then x s xs) t comma more = omega (arith, names_high xs t comma more, type_height_some t)

-- and are as high
pub entries_high : (p : ParamTrees) → group_height entry_height (entries p) ≡ params_height p
entries_high NoParams = refl
entries_high (Param None t comma rest) = ap (max (type_height t)) (entries_high rest)
entries_high (Param (Some xs) t comma rest) = names_high xs t comma (entries rest) ∙ ap (max (type_height t)) (entries_high rest)

names_wf : (xs : Separated Ident) (t : TypeTree) (comma : Option Span) (more : List (EntryTree × Option Span)) → Wf_type t → IsKept comma (IsNothing more) → Wf_group Wf_entry more → Wf_group Wf_entry (name_entries xs t comma more)
names_wf (One x) t comma more wf kept rest = (wf, kept, rest)
names_wf (Then x s xs) t comma more wf kept rest = (tt, tt, names_wf xs t comma more wf kept rest)

kept_entries : (comma : Option Span) (rest : ParamTrees) → IsKept comma (IsLastParam rest) → IsKept comma (IsNothing (entries rest))
kept_entries (Some s) rest kept = tt
kept_entries None NoParams kept = tt
kept_entries None (Param xs t comma rest) kept = absurd kept

entries_wf : (groups : Bool) (p : ParamTrees) → Wf_params groups p → Wf_group Wf_entry (entries p)
entries_wf groups NoParams wf = tt
entries_wf groups (Param None t comma rest) wf = (wf.1, kept_entries comma rest wf.2, entries_wf groups rest wf.3)
entries_wf groups (Param (Some xs) t comma rest) wf = names_wf xs t comma (entries rest) wf.1 (kept_entries comma rest wf.2) (entries_wf groups rest wf.3)

-- parameters that are spelled before the closing parenthesis are read, unless one is too high
pub params_complete : (b : ℕ) (type : List Terminal → Reading TypeTree) → FindsTypes b type → (p : ParamTrees) (z : Span) (after : List Terminal) → Wf_params (is_grouped p) p → AgreesAt (params_at type (spell_params p ++ (mark operator.CloseParen z ∷ after))) (Ok (p, mark operator.CloseParen z ∷ after)) b (params_height p)
params_complete b type finds p z after wf =
    let end = mark operator.CloseParen z ∷ after in
    let es = entries p in
    let ts = spell_list spell_entry operator.Comma es ++ end in
    let h = params_height p in
    let list = list_complete EntryTree (entry_at type) spell_entry operator.Comma operator.CloseParen b entry_height Wf_entry refl (entry_item b type finds) entry_some es z after (entries_wf (is_grouped p) p wf) in
    agrees_along _ _ _ b h (ap (λ l. params_at type (l ++ end)) (sym (entries_spelled p)))
    (bind_agrees (list_go (entry_at type) operator.Comma operator.CloseParen (suc (length ts)) ts) (es, end) params_by (Ok (p, end)) b (group_height entry_height es) b h list
    (inl (ap (λ o. need o >>= λ p. Ok (p, end)) (params_back p wf))) (λ g. omega (arith, entries_high p)))

-- what entries are

pub record Regroups (groups : Bool) (es : List (EntryTree × Option Span)) (p : ParamTrees) : Type 0 where
  pub spelled : spell_list spell_entry operator.Comma es ≡ spell_params p
  pub wf : Wf_params groups p
  pub high : params_height p ≤ group_height entry_height es
  pub nothing : IsNothing es → IsLastParam p

kept_last : (comma : Option Span) (es : List (EntryTree × Option Span)) (p : ParamTrees) → (IsNothing es → IsLastParam p) → IsKept comma (IsNothing es) → IsKept comma (IsLastParam p)
kept_last (Some s) es p last kept = tt
kept_last None es p last kept = last kept

types_regroup : (es : List (EntryTree × Option Span)) → Wf_group Wf_entry es → has_name es ≡ false → Regroups false es (as_types es)
types_regroup [] wf h = record { spelled = refl; wf = tt; high = omega arith; nothing = λ h. tt }
types_regroup (((Some x, t), comma) ∷ es) wf h = cc
types_regroup (((None, t), comma) ∷ es) wf h =
    let r = types_regroup es wf.2 h in
    record { spelled = ap (λ l. spell_type t ++ (spell_some operator.Comma comma ++ l)) r.spelled; wf = (refl, wf.0, kept_last comma es (as_types es) r.nothing wf.1, r.wf); high = omega (arith, r.high); nothing = λ h. absurd h }

one_regroups : (x : Ident) (t : TypeTree) (comma : Option Span) (es : List (EntryTree × Option Span)) → Wf_type t → IsKept comma (IsNothing es) → (o : Option ParamTrees) → ((q : ParamTrees) → o ≡ Some q → Regroups true es q) → (p : ParamTrees) → group_one x t comma o ≡ Some p → Regroups true (((Some x, t), comma) ∷ es) p
one_regroups x t comma es wf kept None ih p e = cc
one_regroups x t comma es wf kept (Some q) ih p e =
    let r = ih q refl in
    let same : Param (Some (One x)) t comma q ≡ p = cc in
    subst (Regroups true (((Some x, t), comma) ∷ es)) same (record { spelled = ap (λ l. spell_ident x ∷ (spell_type t ++ (spell_some operator.Comma comma ++ l))) r.spelled; wf = (refl, wf, kept_last comma es q r.nothing kept, r.wf); high = omega (arith, r.high); nothing = λ h. absurd h })

more_regroups : (x : Ident) (comma : Span) (es : List (EntryTree × Option Span)) (o : Option ParamTrees) → ((q : ParamTrees) → o ≡ Some q → Regroups true es q) → (p : ParamTrees) → group_more x comma o ≡ Some p → Regroups true (((None, NamedType (type_name.Plain x)), Some comma) ∷ es) p
more_regroups x comma es None ih p e = cc
more_regroups x comma es (Some NoParams) ih p e = cc
more_regroups x comma es (Some (Param None t s rest)) ih p e = cc
more_regroups x comma es (Some (Param (Some xs) t s rest)) ih p e =
    let r = ih (Param (Some xs) t s rest) refl in
    let same : Param (Some (Then x comma xs)) t s rest ≡ p = cc in
    subst (Regroups true (((None, NamedType (type_name.Plain x)), Some comma) ∷ es)) same (record { spelled = ap (λ l. spell_ident x ∷ (mark operator.Comma comma ∷ l)) r.spelled; wf = r.wf; high = omega (arith, r.high); nothing = λ h. absurd h })

next_regroups : (t : TypeTree) (comma : Option Span) (es : List (EntryTree × Option Span)) → ((q : ParamTrees) → as_groups es ≡ Some q → Regroups true es q) → (p : ParamTrees) → group_next (plain_name t) comma (as_groups es) ≡ Some p → Regroups true (((None, t), comma) ∷ es) p
next_regroups (NamedType (type_name.Plain x)) (Some s) es ih p e = more_regroups x s es (as_groups es) ih p e
next_regroups (NamedType (type_name.Plain x)) None es ih p e = cc
next_regroups (NamedType (type_name.Qualified q dot x)) comma es ih p e = cc
next_regroups (Pointer s t) comma es ih p e = cc
next_regroups (ParenType first t last) comma es ih p e = cc
next_regroups (Struct k first fs last) comma es ih p e = cc
next_regroups (Interface k first ms last) comma es ih p e = cc

groups_regroup : (es : List (EntryTree × Option Span)) → Wf_group Wf_entry es → (p : ParamTrees) → as_groups es ≡ Some p → Regroups true es p
groups_regroup [] wf p e =
    let same : NoParams ≡ p = cc in subst (Regroups true []) same (record { spelled = refl; wf = tt; high = omega arith; nothing = λ h. tt })
groups_regroup (((Some x, t), comma) ∷ es) wf p e = one_regroups x t comma es wf.0 wf.1 (as_groups es) (groups_regroup es wf.2) p e
groups_regroup (((None, t), comma) ∷ es) wf p e = next_regroups t comma es (groups_regroup es wf.2) p e

grouped_types : (p : ParamTrees) → Wf_params false p → Wf_params (is_grouped p) p
grouped_types NoParams wf = tt
grouped_types (Param None t comma rest) wf = wf
grouped_types (Param (Some xs) t comma rest) wf = cc (wf.0)

grouped_groups : (p : ParamTrees) → Wf_params true p → Wf_params (is_grouped p) p
grouped_groups NoParams wf = tt
grouped_groups (Param None t comma rest) wf = cc (wf.0)
grouped_groups (Param (Some xs) t comma rest) wf = wf

-- entries that are parameters are those parameters
pub record AreParams (es : List (EntryTree × Option Span)) (p : ParamTrees) : Type 0 where
  pub spelled : spell_list spell_entry operator.Comma es ≡ spell_params p
  pub wf : Wf_params (is_grouped p) p
  pub high : params_height p ≤ group_height entry_height es

params_when : (es : List (EntryTree × Option Span)) → Wf_group Wf_entry es → (named : Bool) → has_name es ≡ named → (p : ParamTrees) → cond named (as_groups es) (Some (as_types es)) ≡ Some p → AreParams es p
params_when es wf true has p e =
    let r = groups_regroup es wf p e in record { spelled = r.spelled; wf = grouped_groups p r.wf; high = r.high }
params_when es wf false has p e =
    let r = types_regroup es wf has in
    let same : as_types es ≡ p = cc in
    subst (AreParams es) same (record { spelled = r.spelled; wf = grouped_types (as_types es) r.wf; high = r.high })

pub params_are : (es : List (EntryTree × Option Span)) → Wf_group Wf_entry es → (p : ParamTrees) → as_params es ≡ Some p → AreParams es p
params_are es wf p e = params_when es wf (has_name es) refl p e

-- what was read is spelled in front, respects the rules and is low enough
pub record ReadsParams (b : ℕ) (ts : List Terminal) (x : ParamTrees × List Terminal) : Type 0 where
  pub spelled : ts ≡ spell_params x.0 ++ x.1
  pub wf : Wf_params (is_grouped x.0) x.0
  pub low : params_height x.0 ≤ b

pub params_sound : (b : ℕ) (type : List Terminal → Reading TypeTree) → ReadsTypes b type → (ts : List Terminal) (x : ParamTrees × List Terminal) → params_at type ts ≡ Ok x → ReadsParams b ts x
params_sound b type reads ts x e =
    let w = bind_ok (list_go (entry_at type) operator.Comma operator.CloseParen (suc (length ts)) ts) params_by x e in
    let r = list_sound EntryTree (entry_at type) spell_entry operator.Comma operator.CloseParen entry_height Wf_entry b (entry_sound b type reads) (suc (length ts)) ts w.0 w.1 in
    let v = bind_ok (need (as_params w.0.0)) (λ p. Ok (p, w.0.1)) x w.2 in
    let a = params_are w.0.0 r.wf v.0 (need_ok (as_params w.0.0) v.0 v.1) in
    let same : (v.0, w.0.1) ≡ x = cc (v.2) in
    subst (ReadsParams b ts) same (record { spelled = r.spelled_as ∙ ap (λ l. l ++ w.0.1) a.spelled; wf = a.wf; low = omega (arith, a.high, r.low) })
