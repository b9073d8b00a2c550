-- Trees of modules, and the rules E1 to E5.
use Rattle.std.specs.Prelude.{refl, ℕ, Bool, not, ◌&&◌, ◌||◌, nat_eq, nat_le, nat_lt, if◌then◌else◌, List, length, Option, Some, None, codes}
use Rattle.std.specs.List.{list_any, list_all, starts_with, ends_with}
use Rattle.std.specs.Coded.{Coded, code_by, coded×, coded_list, coded_ℕ}
use Rattle.go_path_core.specs.text_core.declared.rule.Rule.{Rule}
use Rattle.go_path_core.specs.text_core.declared.rule.Rule.TheVariants.{E1, E2, E3, E4, E5}
use Rattle.go_graph_core.specs.Sources.{SourceModel}
use Rattle.go_graph_core.specs.Workspaces.{PackageModel, coded_package, is_path_inside}

pub record TreeModel : Type 0 where
  pub own : List ℕ
  pub packages : List PackageModel

abbrev pub tree_with : List ℕ → List PackageModel → TreeModel
tree_with own packages = record { own = own; packages = packages }

abbrev pub coded_tree : Coded TreeModel
coded_tree = code_by (List ℕ × List PackageModel) (coded× (coded_list coded_ℕ) (coded_list coded_package)) (λ t. (t.own, t.packages)) (λ p. tree_with p.0 p.1) (λ _. refl)

-- a byte of a file's name
abbrev pub is_name_byte : ℕ → Bool
is_name_byte b = (nat_le 97 b && nat_le b 122) || ((nat_le 65 b && nat_le b 90) || ((nat_le 48 b && nat_le b 57) || (nat_eq b 95 || (nat_eq b 45 || nat_eq b 46))))

abbrev pub has_name_bytes : List ℕ → Bool
has_name_bytes name = nat_le 4 (length name) && (nat_le (length name) 64 && list_all is_name_byte name)

abbrev pub has_hidden_start : List ℕ → Bool
has_hidden_start name = starts_with nat_eq name (codes ".") || starts_with nat_eq name (codes "_")

abbrev pub has_go_end : List ℕ → Bool
has_go_end name = ends_with nat_eq name (codes ".go") && not (ends_with nat_eq name (codes "_test.go"))

-- what a file may be named
abbrev pub is_file_name : List ℕ → Bool
is_file_name name = has_name_bytes name && (not (has_hidden_start name) && has_go_end name)

-- of one package

abbrev pub is_outside : List ℕ → PackageModel → Bool
is_outside own p = not (is_path_inside own p.0)

abbrev pub has_bad_name : PackageModel → Bool
has_bad_name p = list_any (λ (f : SourceModel). not (is_file_name f.name)) p.1

abbrev pub is_long : SourceModel → Bool
is_long f = nat_lt 1048576 (length f.text)

abbrev pub has_long_text : PackageModel → Bool
has_long_text p = list_any is_long p.1

abbrev pub is_large_package : PackageModel → Bool
is_large_package p = nat_lt 256 (length p.1)

abbrev pub size_rule : List PackageModel → Option Rule
size_rule ps = if nat_lt 128 (length ps) then Some E5 else None

abbrev pub files_rule : List PackageModel → Option Rule
files_rule ps = if list_any is_large_package ps then Some E4 else size_rule ps

abbrev pub texts_rule : List PackageModel → Option Rule
texts_rule ps = if list_any has_long_text ps then Some E3 else files_rule ps

abbrev pub names_rule : List PackageModel → Option Rule
names_rule ps = if list_any has_bad_name ps then Some E2 else texts_rule ps

-- the first of the rules E1 to E5 that these packages break as a tree of this module
abbrev pub tree_rule : List ℕ → List PackageModel → Option Rule
tree_rule own ps = if list_any (is_outside own) ps then Some E1 else names_rule ps
