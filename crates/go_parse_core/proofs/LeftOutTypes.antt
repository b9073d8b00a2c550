-- Types with marks, and types whose semicolons are left out, say the same.
use Rattle.std.proofs.Common.{◌≡◌, Bool, List, ◌++◌, Option, Some, None, refl, subst}
use Rattle.go_tree_nodes.specs.text_core.declared.span.Span.{Span}
use Rattle.go_tree_nodes.specs.token_core.declared.kind.Keyword.TheVariants as keyword
use Rattle.go_tree_nodes.specs.token_core.declared.kind.Operator.TheVariants as operator
use Rattle.go_tree_nodes.specs.declared.names.Ident.{Ident}
use Rattle.go_tree_nodes.specs.declared.types.TypeName.{TypeName}
use Rattle.go_tree_nodes.specs.declared.types.TypeName.TheVariants as type_name
use Rattle.go_tree_nodes.specs.Trees.{Separated, One, Then, TypeTree, FieldTrees, MethodTrees, SignatureTree, ResultTree, ParamTrees, NamedType, Pointer, ParenType, Struct, Interface, NoFields, NamedFields, EmbeddedField, NoMethods, Method, Signed, NoResult, OneResult, Results, NoParams, Param}
use Rattle.go_tree_nodes.specs.Spelling.{mark, word, spell_ident, spell_idents, spell_some, spell_type_name, spell_tag, spell_names, spell_type, spell_fields, spell_methods, spell_signature, spell_result, spell_params}
use Rattle.go_tree_nodes.specs.Rules.{IsLastField, IsLastMethod, IsLastParam, IsAliasOfName, is_grouped, IsBare, IsStructType, Wf_type, Wf_fields, Wf_methods, Wf_signature, Wf_result, Wf_params}
use Rattle.go_tree_nodes.specs.Heights.{type_height, fields_height, methods_height, signature_height, result_height, params_height}
use Rattle.go_parse_core.specs.LeftOut.{Symbol, sure, Closes, symbols_type, symbols_fields, symbols_methods, symbols_signature, symbols_result, symbols_params, symbol_semicolon, Fills_type, Fills_fields, Fills_methods, Fills_signature, Fills_result, Fills_params}
use Rattle.go_parse_core.proofs.LeftOutParts.{Any, Opens, opens_along, opens_not, Splits, nothing, sures, sure_then, one_then, both, maps, loose, join_nothing, join_sures, join_both, join_sure, join_one, filled, filled_fills, filled_kept, filled_full, join_loose, Good, Filled, AnyLike, higher, both_high, kept_like, in_parens, in_braces, join_parens, join_braces}

-- what a type begins with

pub idents_open : (xs : Separated Ident) → Opens (sure (spell_idents xs))
idents_open (One x) = λ c. c
idents_open (Then x comma more) = λ c. c

pub type_name_opens : (n : TypeName) → Opens (sure (spell_type_name n))
type_name_opens (type_name.Plain x) = λ c. c
type_name_opens (type_name.Qualified p dot x) = λ c. c

pub type_opens : (t : TypeTree) → Opens (symbols_type t)
type_opens (NamedType n) = type_name_opens n
type_opens (Pointer star t) = λ c. c
type_opens (ParenType first t last) = λ c. c
type_opens (Struct k first fs last) = λ c. c
type_opens (Interface k first ms last) = λ c. c

starred_opens : (star : Option Span) (n : TypeName) (more : List Symbol) → Opens (sure (spell_some operator.Star star) ++ (sure (spell_type_name n) ++ more))
starred_opens (Some s) n more = λ c. c
starred_opens None n more = opens_along (sure (spell_type_name n)) more (type_name_opens n)

-- a list that begins with a closing mark is empty

fields_last : (fs : FieldTrees) (more : List Symbol) → Closes (symbols_fields fs ++ more) → IsLastField fs
fields_last NoFields more h = tt
fields_last (NamedFields xs t tag s rest) more h =
    let front = sure (spell_idents xs) in
    let behind = symbols_type t ++ (sure (spell_tag tag) ++ (symbol_semicolon s ++ symbols_fields rest)) in
    opens_not (front ++ behind) more (opens_along front behind (idents_open xs)) h
fields_last (EmbeddedField star n tag s rest) more h =
    let behind = sure (spell_tag tag) ++ (symbol_semicolon s ++ symbols_fields rest) in
    opens_not (sure (spell_some operator.Star star) ++ (sure (spell_type_name n) ++ behind)) more (starred_opens star n behind) h

methods_last : (ms : MethodTrees) (more : List Symbol) → Closes (symbols_methods ms ++ more) → IsLastMethod ms
methods_last NoMethods more h = tt
methods_last (Method x signature s rest) more h = h

fields_end : (fs : FieldTrees) → IsLastField fs → (more : List Symbol) → Closes more → Closes (symbols_fields fs ++ more)
fields_end NoFields last more h = h
fields_end (NamedFields xs t tag s rest) last more h = absurd last
fields_end (EmbeddedField star n tag s rest) last more h = absurd last

methods_end : (ms : MethodTrees) → IsLastMethod ms → (more : List Symbol) → Closes more → Closes (symbols_methods ms ++ more)
methods_end NoMethods last more h = h
methods_end (Method x signature s rest) last more h = absurd last

-- what the rules ask of the outside of a type

abbrev pub TypesLike : TypeTree → TypeTree → Type 0
TypesLike a b = (IsBare a → IsBare b) × (IsStructType a → IsStructType b) × ((s : Span) → IsAliasOfName (Some s) a → IsAliasOfName (Some s) b)

abbrev FieldsLike : FieldTrees → FieldTrees → Type 0
FieldsLike a b = IsLastField a → IsLastField b

abbrev MethodsLike : MethodTrees → MethodTrees → Type 0
MethodsLike a b = IsLastMethod a → IsLastMethod b

abbrev ParamsLike : ParamTrees → ParamTrees → Type 0
ParamsLike a b = (IsLastParam a → IsLastParam b) × (is_grouped a ≡ is_grouped b)

-- from whole types to marked ones

abbrev pub GoodType : TypeTree → TypeTree → Type 0
GoodType = Good Fills_type Wf_type type_height TypesLike

abbrev GoodFields : FieldTrees → FieldTrees → Type 0
GoodFields = Good Fills_fields Wf_fields fields_height FieldsLike

abbrev GoodMethods : MethodTrees → MethodTrees → Type 0
GoodMethods = Good Fills_methods Wf_methods methods_height MethodsLike

abbrev pub GoodSignature : SignatureTree → SignatureTree → Type 0
GoodSignature = Good Fills_signature Wf_signature signature_height AnyLike

abbrev GoodResult : ResultTree → ResultTree → Type 0
GoodResult = Good Fills_result Wf_result result_height AnyLike

abbrev GoodParams : Bool → ParamTrees → ParamTrees → Type 0
GoodParams groups = Good Fills_params (Wf_params groups) params_height ParamsLike

mutual
  pub type_split : (t : TypeTree) → Wf_type t → Fills_type t t → Splits Any (symbols_type t) TypeTree spell_type (GoodType t)
  type_split (NamedType n) whole full =
      maps (sures (spell_type_name n)) (λ x. NamedType n) (λ x. refl) (λ x g. record { fills = refl; wf = tt; high = refl; like = (λ y. y, λ y. y, λ s y. y) })
  type_split (Pointer star t) whole full =
      maps (one_then (mark operator.Star star) (type_split t whole full.1)) (λ x. Pointer star x) (λ x. refl)
      (λ x g. record { fills = (refl, g.fills); wf = g.wf; high = higher g.high; like = (λ y. y, λ y. y, λ s y. y) })
  type_split (ParenType first t last) whole full =
      maps (in_parens first last (type_split t whole full.1) (λ more. tt))
      (λ x. ParenType first x last) (λ x. refl)
      (λ x g. record { fills = (refl, g.fills, refl); wf = g.wf; high = higher g.high; like = (λ y. y, λ y. y, λ s y. y) })
  type_split (Struct k first fs last) whole full =
      maps (one_then (word keyword.Struct k) (in_braces first last (fields_split fs whole full.2) (λ more. tt)))
      (λ x. Struct k first x last) (λ x. refl)
      (λ x g. record { fills = (refl, refl, g.fills, refl); wf = g.wf; high = higher g.high; like = (λ y. y, λ y. y, λ s y. y) })
  type_split (Interface k first ms last) whole full =
      maps (one_then (word keyword.Interface k) (in_braces first last (methods_split ms whole full.2) (λ more. tt)))
      (λ x. Interface k first x last) (λ x. refl)
      (λ x g. record { fills = (refl, refl, g.fills, refl); wf = g.wf; high = higher g.high; like = (λ y. y, λ y. y, λ s y. y) })

  fields_split : (fs : FieldTrees) → Wf_fields fs → Fills_fields fs fs → Splits Closes (symbols_fields fs) FieldTrees spell_fields (GoodFields fs)
  fields_split NoFields whole full = maps nothing (λ x. NoFields) (λ x. refl) (λ x g. record { fills = tt; wf = tt; high = refl; like = λ y. y })
  fields_split (NamedFields xs t tag None rest) whole full = absurd full.3
  fields_split (NamedFields xs t tag (Some s) rest) whole full =
      maps (sure_then (spell_idents xs) (both (type_split t whole.0 full.1) (sure_then (spell_tag tag) (loose s (IsLastField rest) IsLastField (fields_last rest) (λ x g. g.like) (fields_split rest whole.2 full.4)))))
      (λ x. NamedFields xs x.0 tag x.1.0 x.1.1) (λ x. refl)
      (λ x g. record { fills = (refl, g.0.fills, refl, g.1.fills, g.1.rest.fills); wf = (g.0.wf, g.1.kept, g.1.rest.wf); high = both_high g.0.high g.1.rest.high; like = λ y. y })
  fields_split (EmbeddedField star n tag None rest) whole full = absurd full.3
  fields_split (EmbeddedField star n tag (Some s) rest) whole full =
      maps (sure_then (spell_some operator.Star star) (sure_then (spell_type_name n) (sure_then (spell_tag tag) (loose s (IsLastField rest) IsLastField (fields_last rest) (λ x g. g.like) (fields_split rest whole.1 full.4)))))
      (λ x. EmbeddedField star n tag x.0 x.1) (λ x. refl)
      (λ x g. record { fills = (refl, refl, refl, g.fills, g.rest.fills); wf = (g.kept, g.rest.wf); high = both_high refl g.rest.high; like = λ y. y })

  methods_split : (ms : MethodTrees) → Wf_methods ms → Fills_methods ms ms → Splits Closes (symbols_methods ms) MethodTrees spell_methods (GoodMethods ms)
  methods_split NoMethods whole full = maps nothing (λ x. NoMethods) (λ x. refl) (λ x g. record { fills = tt; wf = tt; high = refl; like = λ y. y })
  methods_split (Method x signature None rest) whole full = absurd full.2
  methods_split (Method n signature (Some s) rest) whole full =
      maps (one_then (spell_ident n) (both (signature_split signature whole.0 full.1) (loose s (IsLastMethod rest) IsLastMethod (methods_last rest) (λ x g. g.like) (methods_split rest whole.2 full.3))))
      (λ x. Method n x.0 x.1.0 x.1.1) (λ x. refl)
      (λ x g. record { fills = (refl, g.0.fills, g.1.fills, g.1.rest.fills); wf = (g.0.wf, g.1.kept, g.1.rest.wf); high = both_high g.0.high g.1.rest.high; like = λ y. y })

  pub signature_split : (g : SignatureTree) → Wf_signature g → Fills_signature g g → Splits Any (symbols_signature g) SignatureTree spell_signature (GoodSignature g)
  signature_split (Signed first params last result) whole full =
      maps (one_then (mark operator.OpenParen first) (both (params_split (is_grouped params) params whole.0 full.1) (one_then (mark operator.CloseParen last) (result_split result whole.1 full.3))))
      (λ x. Signed first x.0 last x.1) (λ x. refl)
      (λ x g. record { fills = (refl, g.0.fills, refl, g.1.fills); wf = (subst (λ b. Wf_params b x.0) g.0.like.1 g.0.wf, g.1.wf); high = both_high g.0.high g.1.high; like = tt })

  result_split : (r : ResultTree) → Wf_result r → Fills_result r r → Splits Any (symbols_result r) ResultTree spell_result (GoodResult r)
  result_split NoResult whole full = maps nothing (λ x. NoResult) (λ x. refl) (λ x g. record { fills = tt; wf = tt; high = refl; like = tt })
  result_split (OneResult t) whole full =
      maps (type_split t whole.0 full) (λ x. OneResult x) (λ x. refl) (λ x g. record { fills = g.fills; wf = (g.wf, g.like.0 whole.1); high = g.high; like = tt })
  result_split (Results first params last) whole full =
      maps (in_parens first last (params_split (is_grouped params) params whole full.1) (λ more. tt))
      (λ x. Results first x last) (λ x. refl)
      (λ x g. record { fills = (refl, g.fills, refl); wf = subst (λ b. Wf_params b x) g.like.1 g.wf; high = g.high; like = tt })

  params_split : (groups : Bool) (ps : ParamTrees) → Wf_params groups ps → Fills_params ps ps → Splits Any (symbols_params ps) ParamTrees spell_params (GoodParams groups ps)
  params_split groups NoParams whole full = maps nothing (λ x. NoParams) (λ x. refl) (λ x g. record { fills = tt; wf = tt; high = refl; like = (λ y. y, refl) })
  params_split groups (Param xs t comma rest) whole full =
      maps (sure_then (spell_names xs) (both (type_split t whole.1 full.1) (sure_then (spell_some operator.Comma comma) (params_split groups rest whole.3 full.3))))
      (λ x. Param xs x.0 comma x.1) (λ x. refl)
      (λ x g. record { fills = (refl, g.0.fills, refl, g.1.fills); wf = (whole.0, g.0.wf, kept_like comma g.1.like.0 whole.2, g.1.wf); high = both_high g.0.high g.1.high; like = (λ y. y, refl) })

-- from marked types to whole ones

abbrev pub FilledType : TypeTree → Type 0
FilledType = Filled Any symbols_type spell_type Fills_type Wf_type type_height TypesLike

abbrev FilledFields : FieldTrees → Type 0
FilledFields = Filled Closes symbols_fields spell_fields Fills_fields Wf_fields fields_height FieldsLike

abbrev FilledMethods : MethodTrees → Type 0
FilledMethods = Filled Closes symbols_methods spell_methods Fills_methods Wf_methods methods_height MethodsLike

abbrev pub FilledSignature : SignatureTree → Type 0
FilledSignature = Filled Any symbols_signature spell_signature Fills_signature Wf_signature signature_height AnyLike

abbrev FilledResult : ResultTree → Type 0
FilledResult = Filled Any symbols_result spell_result Fills_result Wf_result result_height AnyLike

abbrev FilledParams : Bool → ParamTrees → Type 0
FilledParams groups = Filled Any symbols_params spell_params Fills_params (Wf_params groups) params_height ParamsLike

mutual
  pub type_fill : (t : TypeTree) → Wf_type t → FilledType t
  type_fill (NamedType n) wf = record { tree = NamedType n; fills = refl; full = refl; wf = tt; high = refl; like = (λ y. y, λ y. y, λ s y. y); joins = join_sures (spell_type_name n) }
  type_fill (Pointer star t) wf =
      let q = type_fill t wf in
      record {
        tree = Pointer star q.tree;
        fills = (refl, q.fills);
        full = (refl, q.full);
        wf = q.wf;
        high = higher q.high;
        like = (λ y. y, λ y. y, λ s y. y);
        joins = join_one (mark operator.Star star) q.joins;
      }
  type_fill (ParenType first t last) wf =
      let q = type_fill t wf in
      record {
        tree = ParenType first q.tree last;
        fills = (refl, q.fills, refl);
        full = (refl, q.full, refl);
        wf = q.wf;
        high = higher q.high;
        like = (λ y. y, λ y. y, λ s y. y);
        joins = join_parens first last q.joins (λ more. tt);
      }
  type_fill (Struct k first fs last) wf =
      let q = fields_fill fs wf in
      record {
        tree = Struct k first q.tree last;
        fills = (refl, refl, q.fills, refl);
        full = (refl, refl, q.full, refl);
        wf = q.wf;
        high = higher q.high;
        like = (λ y. y, λ y. y, λ s y. y);
        joins = join_one (word keyword.Struct k) (join_braces first last q.joins (λ more. tt));
      }
  type_fill (Interface k first ms last) wf =
      let q = methods_fill ms wf in
      record {
        tree = Interface k first q.tree last;
        fills = (refl, refl, q.fills, refl);
        full = (refl, refl, q.full, refl);
        wf = q.wf;
        high = higher q.high;
        like = (λ y. y, λ y. y, λ s y. y);
        joins = join_one (word keyword.Interface k) (join_braces first last q.joins (λ more. tt));
      }

  fields_fill : (fs : FieldTrees) → Wf_fields fs → FilledFields fs
  fields_fill NoFields wf = record { tree = NoFields; fills = tt; full = tt; wf = tt; high = refl; like = λ y. y; joins = join_nothing }
  fields_fill (NamedFields xs t tag s rest) wf =
      let q = type_fill t wf.0 in
      let r = fields_fill rest wf.2 in
      record {
        tree = NamedFields xs q.tree tag (filled s) r.tree;
        fills = (refl, q.fills, refl, filled_fills s, r.fills);
        full = (refl, q.full, refl, filled_full s, r.full);
        wf = (q.wf, filled_kept (IsLastField r.tree) s, r.wf);
        high = both_high q.high r.high;
        like = λ y. y;
        joins = join_sure (spell_idents xs) (join_both q.joins (join_sure (spell_tag tag) (join_loose s (IsLastField rest) wf.1 (λ last. fields_end r.tree (r.like last)) r.joins)));
      }
  fields_fill (EmbeddedField star n tag s rest) wf =
      let r = fields_fill rest wf.1 in
      record {
        tree = EmbeddedField star n tag (filled s) r.tree;
        fills = (refl, refl, refl, filled_fills s, r.fills);
        full = (refl, refl, refl, filled_full s, r.full);
        wf = (filled_kept (IsLastField r.tree) s, r.wf);
        high = both_high refl r.high;
        like = λ y. y;
        joins = join_sure (spell_some operator.Star star) (join_sure (spell_type_name n) (join_sure (spell_tag tag) (join_loose s (IsLastField rest) wf.0 (λ last. fields_end r.tree (r.like last)) r.joins)));
      }

  methods_fill : (ms : MethodTrees) → Wf_methods ms → FilledMethods ms
  methods_fill NoMethods wf = record { tree = NoMethods; fills = tt; full = tt; wf = tt; high = refl; like = λ y. y; joins = join_nothing }
  methods_fill (Method x signature s rest) wf =
      let q = signature_fill signature wf.0 in
      let r = methods_fill rest wf.2 in
      record {
        tree = Method x q.tree (filled s) r.tree;
        fills = (refl, q.fills, filled_fills s, r.fills);
        full = (refl, q.full, filled_full s, r.full);
        wf = (q.wf, filled_kept (IsLastMethod r.tree) s, r.wf);
        high = both_high q.high r.high;
        like = λ y. y;
        joins = join_one (spell_ident x) (join_both q.joins (join_loose s (IsLastMethod rest) wf.1 (λ last. methods_end r.tree (r.like last)) r.joins));
      }

  pub signature_fill : (g : SignatureTree) → Wf_signature g → FilledSignature g
  signature_fill (Signed first params last result) wf =
      let q = params_fill (is_grouped params) params wf.0 in
      let r = result_fill result wf.1 in
      record {
        tree = Signed first q.tree last r.tree;
        fills = (refl, q.fills, refl, r.fills);
        full = (refl, q.full, refl, r.full);
        wf = (subst (λ b. Wf_params b q.tree) q.like.1 q.wf, r.wf);
        high = both_high q.high r.high;
        like = tt;
        joins = join_one (mark operator.OpenParen first) (join_both q.joins (join_one (mark operator.CloseParen last) r.joins));
      }

  result_fill : (r : ResultTree) → Wf_result r → FilledResult r
  result_fill NoResult wf = record { tree = NoResult; fills = tt; full = tt; wf = tt; high = refl; like = tt; joins = join_nothing }
  result_fill (OneResult t) wf =
      let q = type_fill t wf.0 in
      record { tree = OneResult q.tree; fills = q.fills; full = q.full; wf = (q.wf, q.like.0 wf.1); high = q.high; like = tt; joins = q.joins }
  result_fill (Results first params last) wf =
      let q = params_fill (is_grouped params) params wf in
      record {
        tree = Results first q.tree last;
        fills = (refl, q.fills, refl);
        full = (refl, q.full, refl);
        wf = subst (λ b. Wf_params b q.tree) q.like.1 q.wf;
        high = q.high;
        like = tt;
        joins = join_parens first last q.joins (λ more. tt);
      }

  params_fill : (groups : Bool) (ps : ParamTrees) → Wf_params groups ps → FilledParams groups ps
  params_fill groups NoParams wf = record { tree = NoParams; fills = tt; full = tt; wf = tt; high = refl; like = (λ y. y, refl); joins = join_nothing }
  params_fill groups (Param xs t comma rest) wf =
      let q = type_fill t wf.1 in
      let r = params_fill groups rest wf.3 in
      record {
        tree = Param xs q.tree comma r.tree;
        fills = (refl, q.fills, refl, r.fills);
        full = (refl, q.full, refl, r.full);
        wf = (wf.0, q.wf, kept_like comma r.like.0 wf.2, r.wf);
        high = both_high q.high r.high;
        like = (λ y. y, refl);
        joins = join_sure (spell_names xs) (join_both q.joins (join_sure (spell_some operator.Comma comma) r.joins));
      }
