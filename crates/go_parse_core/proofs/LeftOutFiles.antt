-- Files with marks, and files that leave out semicolons, say the same.
use Rattle.std.proofs.Common.{◌≡◌, ℕ, List, [], ◌∷◌, ◌++◌, refl, sym, ap, ◌∙◌, subst}
use Rattle.std.proofs.lemmas.List.{append-nil}
use Rattle.go_tree_nodes.specs.text_core.declared.span.Span.{Span}
use Rattle.go_tree_nodes.specs.token_core.declared.kind.Keyword.TheVariants as keyword
use Rattle.go_tree_nodes.specs.token_core.declared.kind.Operator.TheVariants as operator
use Rattle.go_tree_nodes.specs.declared.names.TextLiteral.{TextLiteral}
use Rattle.go_tree_nodes.specs.declared.files.ImportName.{ImportName}
use Rattle.go_tree_nodes.specs.declared.files.ImportName.TheVariants as import_name
use Rattle.go_tree_nodes.specs.Terminals.{Terminal}
use Rattle.go_tree_nodes.specs.Trees.{SignatureTree, Specs, Lines, FuncTree, DeclTree, Value, Types, Func, TopTree, ImportSpecTree, ImportTree, FileTree}
use Rattle.go_tree_nodes.specs.Spelling.{mark, word, spell_ident, spell_text, spell_receiver, spell_decl, spell_tops, spell_import_name, spell_import, spell_imports, spell_file}
use Rattle.go_tree_nodes.specs.Rules.{Wf_decl, Wf_tops, Wf_imports, Wf_file}
use Rattle.go_tree_nodes.specs.Heights.{decl_height, tops_height, file_height}
use Rattle.go_parse_core.specs.LeftOut.{Symbol, Loose, sure, Closes, LeftOut, symbols_decl, symbols_tops, symbols_import, symbols_imports, symbols_file, Fills_decl, Fills_tops, Fills_import, Fills_imports, Fills_file, IsFull}
use Rattle.go_parse_core.proofs.LeftOutParts.{Any, NoClose, Opens, opens_not, Splits, nothing, sures, sure_then, one_then, before, both, maps, kept_then, join_nothing, join_sures, join_both, join_sure, join_one, join_kept, Good, Filled, AnyLike, higher, both_high, in_braces, join_braces}
use Rattle.go_parse_core.proofs.LeftOutTypes.{signature_split, signature_fill}
use Rattle.go_parse_core.proofs.LeftOutDecls.{specs_split, value_split, types_split, specs_fill, value_fill, types_fill}
use Rattle.go_parse_core.proofs.LeftOutStmts.{lines_split, lines_fill}

-- a declaration begins with no closing mark

decl_opens : (d : DeclTree) (more : List Symbol) → Opens (symbols_decl d ++ more)
decl_opens (Value v) more = λ c. c
decl_opens (Types t) more = λ c. c
decl_opens (Func f) more = λ c. c

tops_not : (ds : List TopTree) (more : List Symbol) → NoClose more → Closes (symbols_tops ds ++ more) → ⊥
tops_not [] more ok c = ok c
tops_not (d ∷ ds) more ok c =
    let behind = Loose (mark operator.Semicolon d.semicolon) ∷ symbols_tops ds in
    opens_not (symbols_decl d.decl ++ behind) more (decl_opens d.decl behind) c

imports_not : (is : List ImportTree) (more : List Symbol) → NoClose more → Closes (symbols_imports is ++ more) → ⊥
imports_not [] more ok c = ok c
imports_not (i ∷ is) more ok c = c

named_opens : (n : ImportName) (path : TextLiteral) → Opens (sure (spell_import_name n ++ (spell_text path ∷ [])))
named_opens import_name.Own path = λ c. c
named_opens (import_name.Named x) path = λ c. c
named_opens (import_name.Dot s) path = λ c. c

import_opens : (i : ImportSpecTree) → Opens (symbols_import i)
import_opens i = named_opens i.name i.path

-- from whole files to marked ones

abbrev func_tree : FuncTree → SignatureTree → Lines → FuncTree
func_tree f g ls = record { func = f.func; receiver = f.receiver; name = f.name; signature = g; open_brace = f.open_brace; body = ls; close_brace = f.close_brace }

abbrev top_tree : DeclTree → Span → TopTree
top_tree d s = record { decl = d; semicolon = s }

abbrev import_tree : Span → Specs ImportSpecTree → Span → ImportTree
import_tree k specs s = record { keyword = k; specs = specs; semicolon = s }

abbrev file_tree : FileTree → List ImportTree → List TopTree → FileTree
file_tree f is ds = record { clause = f.clause; name = f.name; semicolon = f.semicolon; imports = is; decls = ds }

-- an import is no node
abbrev import_height : ImportSpecTree → ℕ
import_height i = 0

abbrev imports_height : List ImportTree → ℕ
imports_height is = 0

abbrev Wf_import : ImportSpecTree → Type 0
Wf_import i = Unit {0}

abbrev GoodDecl : DeclTree → DeclTree → Type 0
GoodDecl = Good Fills_decl Wf_decl decl_height AnyLike

abbrev GoodTops : List TopTree → List TopTree → Type 0
GoodTops = Good Fills_tops Wf_tops tops_height AnyLike

abbrev GoodImport : ImportSpecTree → ImportSpecTree → Type 0
GoodImport = Good Fills_import Wf_import import_height AnyLike

abbrev GoodImports : List ImportTree → List ImportTree → Type 0
GoodImports = Good Fills_imports Wf_imports imports_height AnyLike

abbrev GoodFile : FileTree → FileTree → Type 0
GoodFile = Good Fills_file Wf_file file_height AnyLike

decl_split : (d : DeclTree) → Wf_decl d → Fills_decl d d → Splits Any (symbols_decl d) DeclTree spell_decl (GoodDecl d)
decl_split (Value v) whole full = maps (value_split v whole full) (λ x. Value x) (λ x. refl) (λ x g. record { fills = g.fills; wf = g.wf; high = g.high; like = tt })
decl_split (Types t) whole full = maps (types_split t whole full) (λ x. Types x) (λ x. refl) (λ x g. record { fills = g.fills; wf = g.wf; high = g.high; like = tt })
decl_split (Func f) whole full =
    maps (one_then (word keyword.Func f.func) (sure_then (spell_receiver f.receiver) (one_then (spell_ident f.name) (both (signature_split f.signature whole.0 full.3) (in_braces f.open_brace f.close_brace (lines_split f.body whole.1 full.5) (λ more. tt))))))
    (λ x. Func (func_tree f x.0 x.1)) (λ x. refl)
    (λ x g. record { fills = (refl, refl, refl, g.0.fills, refl, g.1.fills, refl); wf = (g.0.wf, g.1.wf); high = higher (both_high refl (both_high g.0.high (higher g.1.high))); like = tt })

tops_split : (ds : List TopTree) → Wf_tops ds → Fills_tops ds ds → Splits NoClose (symbols_tops ds) (List TopTree) spell_tops (GoodTops ds)
tops_split [] whole full = maps nothing (λ x. []) (λ x. refl) (λ x g. record { fills = tt; wf = tt; high = refl; like = tt })
tops_split (d ∷ ds) whole full =
    maps (both (decl_split d.decl whole.0 full.0) (kept_then (mark operator.Semicolon d.semicolon) (tops_not ds) (tops_split ds whole.1 full.2)))
    (λ x. top_tree x.0 d.semicolon ∷ x.1) (λ x. refl)
    (λ x g. record { fills = (g.0.fills, refl, g.1.fills); wf = (g.0.wf, g.1.wf); high = both_high g.0.high g.1.high; like = tt })

import_split : (i : ImportSpecTree) → Wf_import i → Fills_import i i → Splits Any (symbols_import i) ImportSpecTree spell_import (GoodImport i)
import_split i whole full = maps (sures (spell_import i)) (λ x. i) (λ x. refl) (λ x g. record { fills = refl; wf = tt; high = refl; like = tt })

imports_split : (is : List ImportTree) → Wf_imports is → Fills_imports is is → Splits NoClose (symbols_imports is) (List ImportTree) spell_imports (GoodImports is)
imports_split [] whole full = maps nothing (λ x. []) (λ x. refl) (λ x g. record { fills = tt; wf = tt; high = refl; like = tt })
imports_split (i ∷ is) whole full =
    maps (one_then (word keyword.Import i.keyword) (both (specs_split import_split import_opens i.specs whole.0 full.1) (kept_then (mark operator.Semicolon i.semicolon) (imports_not is) (imports_split is whole.1 full.3))))
    (λ x. import_tree i.keyword x.0 i.semicolon ∷ x.1) (λ x. refl)
    (λ x g. record { fills = (refl, g.0.fills, refl, g.1.fills); wf = (g.0.wf, g.1.wf); high = refl; like = tt })

clause_not : (is : List ImportTree) (ds : List TopTree) (more : List Symbol) → NoClose more → Closes ((symbols_imports is ++ symbols_tops ds) ++ more) → ⊥
clause_not [] ds more ok c = tops_not ds more ok c
clause_not (i ∷ is) ds more ok c = c

file_split : (f : FileTree) → Wf_file f → Fills_file f f → Splits NoClose (symbols_file f) FileTree spell_file (GoodFile f)
file_split f whole full =
    maps (one_then (word keyword.Package f.clause) (one_then (spell_ident f.name) (kept_then (mark operator.Semicolon f.semicolon) (clause_not f.imports f.decls) (before (imports_split f.imports whole.0 full.3) (tops_split f.decls whole.1 full.4) (tops_not f.decls)))))
    (λ x. file_tree f x.0 x.1) (λ x. refl)
    (λ x g. record { fills = (refl, refl, refl, g.0.fills, g.1.fills); wf = (g.0.wf, g.1.wf); high = g.1.high; like = tt })

-- from marked files to whole ones

abbrev FilledDecl : DeclTree → Type 0
FilledDecl = Filled Any symbols_decl spell_decl Fills_decl Wf_decl decl_height AnyLike

abbrev FilledTops : List TopTree → Type 0
FilledTops = Filled Any symbols_tops spell_tops Fills_tops Wf_tops tops_height AnyLike

abbrev FilledImport : ImportSpecTree → Type 0
FilledImport = Filled Any symbols_import spell_import Fills_import Wf_import import_height AnyLike

abbrev FilledImports : List ImportTree → Type 0
FilledImports = Filled Any symbols_imports spell_imports Fills_imports Wf_imports imports_height AnyLike

abbrev FilledFile : FileTree → Type 0
FilledFile = Filled Any symbols_file spell_file Fills_file Wf_file file_height AnyLike

decl_fill : (d : DeclTree) → Wf_decl d → FilledDecl d
decl_fill (Value v) wf =
    let q = value_fill v wf in
    record { tree = Value q.tree; fills = q.fills; full = q.full; wf = q.wf; high = q.high; like = tt; joins = q.joins }
decl_fill (Types t) wf =
    let q = types_fill t wf in
    record { tree = Types q.tree; fills = q.fills; full = q.full; wf = q.wf; high = q.high; like = tt; joins = q.joins }
decl_fill (Func f) wf =
    let g = signature_fill f.signature wf.0 in
    let q = lines_fill f.body wf.1 in
    record {
      tree = Func (func_tree f g.tree q.tree);
      fills = (refl, refl, refl, g.fills, refl, q.fills, refl);
      full = (refl, refl, refl, g.full, refl, q.full, refl);
      wf = (g.wf, q.wf);
      high = higher (both_high refl (both_high g.high (higher q.high)));
      like = tt;
      joins = join_one (word keyword.Func f.func) (join_sure (spell_receiver f.receiver) (join_one (spell_ident f.name) (join_both g.joins (join_braces f.open_brace f.close_brace q.joins (λ more. tt)))));
    }

tops_fill : (ds : List TopTree) → Wf_tops ds → FilledTops ds
tops_fill [] wf = record { tree = []; fills = tt; full = tt; wf = tt; high = refl; like = tt; joins = join_nothing }
tops_fill (d ∷ ds) wf =
    let q = decl_fill d.decl wf.0 in
    let r = tops_fill ds wf.1 in
    record {
      tree = top_tree q.tree d.semicolon ∷ r.tree;
      fills = (q.fills, refl, r.fills);
      full = (q.full, refl, r.full);
      wf = (q.wf, r.wf);
      high = both_high q.high r.high;
      like = tt;
      joins = join_both q.joins (join_kept (mark operator.Semicolon d.semicolon) r.joins);
    }

import_fill : (i : ImportSpecTree) → Wf_import i → FilledImport i
import_fill i wf = record { tree = i; fills = refl; full = refl; wf = tt; high = refl; like = tt; joins = join_sures (spell_import i) }

imports_fill : (is : List ImportTree) → Wf_imports is → FilledImports is
imports_fill [] wf = record { tree = []; fills = tt; full = tt; wf = tt; high = refl; like = tt; joins = join_nothing }
imports_fill (i ∷ is) wf =
    let q = specs_fill import_fill i.specs wf.0 in
    let r = imports_fill is wf.1 in
    record {
      tree = import_tree i.keyword q.tree i.semicolon ∷ r.tree;
      fills = (refl, q.fills, refl, r.fills);
      full = (refl, q.full, refl, r.full);
      wf = (q.wf, r.wf);
      high = refl;
      like = tt;
      joins = join_one (word keyword.Import i.keyword) (join_both q.joins (join_kept (mark operator.Semicolon i.semicolon) r.joins));
    }

file_fill : (f : FileTree) → Wf_file f → FilledFile f
file_fill f wf =
    let q = imports_fill f.imports wf.0 in
    let r = tops_fill f.decls wf.1 in
    record {
      tree = file_tree f q.tree r.tree;
      fills = (refl, refl, refl, q.fills, r.fills);
      full = (refl, refl, refl, q.full, r.full);
      wf = (q.wf, r.wf);
      high = r.high;
      like = tt;
      joins = join_one (word keyword.Package f.clause) (join_one (spell_ident f.name) (join_kept (mark operator.Semicolon f.semicolon) (join_both q.joins r.joins)));
    }

-- a file is the whole of its terminals

-- the marked tree of terminals that a whole one writes
pub record FileShown (f : FileTree) (ts : List Terminal) : Type 0 where
  pub tree : FileTree
  pub good : GoodFile f tree
  pub spelled : spell_file tree ≡ ts

pub file_shown : (f : FileTree) → Wf_file f → IsFull f → (ts : List Terminal) → LeftOut (symbols_file f) ts → FileShown f ts
file_shown f wf full ts h =
    let q = (file_split f wf full).split [] ts (λ c. c) (subst (λ l. LeftOut l ts) (sym (append-nil (symbols_file f))) h) in
    record { tree = q.shown; good = q.good; spelled = sym (q.spelled ∙ ap (λ l. spell_file q.shown ++ l) q.rest ∙ append-nil (spell_file q.shown)) }

-- the whole tree of terminals that a marked one writes
pub record FileFilled (m : FileTree) : Type 0 where
  pub tree : FileTree
  pub fills : Fills_file m tree
  pub wf : Wf_file tree
  pub full : IsFull tree
  pub high : file_height tree ≡ file_height m
  pub left_out : LeftOut (symbols_file tree) (spell_file m)

pub file_filled : (m : FileTree) → Wf_file m → FileFilled m
file_filled m wf =
    let q = file_fill m wf in
    let all = q.joins.join [] [] tt refl in
    record { tree = q.tree; fills = q.fills; full = q.full; wf = q.wf; high = q.high; left_out = subst (LeftOut (symbols_file q.tree)) (append-nil (spell_file m)) (subst (λ l. LeftOut l (spell_file m ++ [])) (append-nil (symbols_file q.tree)) all) }
