-- The declarations of a package.
use Rattle.std.proofs.Common.{◌≡◌, ℕ, ◌+◌, ◌≤◌, zero, suc, ◌&&◌, List, [], ◌∷◌, ◌++◌, map, length, take, refl, ap, sym, ◌∙◌, append-nil, append_assoc, arith}
use Rattle.std.specs.Prelude.{Some, option_map, slice_get, ◌==◌}
use Rattle.std.proofs.lemmas.Bool.Decides.{nat_tests}
use Rattle.go_tree_nodes.specs.declared.types.Signature.{Signature, out-Signature}
use Rattle.go_tree_nodes.specs.declared.types.Params.{Params, out-Params}
use Rattle.go_tree_nodes.specs.declared.types.«Param» as declared_param
use Rattle.go_tree_nodes.specs.declared.types.Results.TheVariants as results
use Rattle.go_tree_nodes.specs.Trees.{FileTree}
use Rattle.go_tree_nodes.specs.TypeShapes.{params_of, shape_results, shape_signature}
use Rattle.go_tree_nodes.proofs.TypeShapes.{listed_parts, signature_parts}
use Rattle.go_graph_core.specs.Packages.{Trees}
use Rattle.go_block_core.specs.Declarations.{file_declared, files_declared, without_params, without_results, is_procedure}

-- signatures
pub no_params : (ps : List declared_param.Param) → without_params (params_of ps) ≡ (length ps == 0)
no_params [] = refl
no_params (p ∷ ps) = grind (arith, nat_tests)

pub no_results_listed : (p : Params) → without_results (shape_results (results.Listed p)) ≡ (length (out-Params p).entries.items == 0)
no_results_listed p = ap without_results (listed_parts p) ∙ no_params (out-Params p).entries.items

pub procedure_parts : (s : Signature) → is_procedure (shape_signature s) ≡ ((length (out-Params (out-Signature s).params).entries.items == 0) && without_results (shape_results (out-Signature s).results))
procedure_parts s = ap is_procedure (signature_parts s) ∙ ap (λ b. b && without_results (shape_results (out-Signature s).results)) (no_params (out-Params (out-Signature s).params).entries.items)

-- the next file
files_next : (file : ℕ) (ts : Trees) (i : ℕ) (f : FileTree) → option_map (λ t. t.1) (slice_get ts i) ≡ Some f → files_declared file (take (suc i) ts) ≡ files_declared file (take i ts) ++ file_declared (file + i) f
files_next file [] i f h = cc
files_next file (t ∷ ts) zero f h =
    let same : t.1 ≡ f = (let j : Some t.1 ≡ Some f = h in cc) in
    append-nil (file_declared file t.1) ∙ (ap (file_declared file) same ∙ ap (λ k. file_declared k f) (let e : file ≡ file + 0 = omega arith in e))
files_next file (t ∷ ts) (suc i) f h =
    ap (λ ds. file_declared file t.1 ++ ds) (files_next (file + 1) ts i f h)
    ∙ sym (append_assoc (file_declared file t.1) (files_declared (file + 1) (take i ts)) (file_declared (file + 1 + i) f))
    ∙ ap (λ k. (file_declared file t.1 ++ files_declared (file + 1) (take i ts)) ++ file_declared k f) (let e : file + 1 + i ≡ file + suc i = omega arith in e)

pub next_file : (ts : Trees) (i : ℕ) (f : FileTree) → option_map (λ t. t.1) (slice_get ts i) ≡ Some f → files_declared 0 (take (i + 1) ts) ≡ files_declared 0 (take i ts) ++ file_declared i f
next_file ts i f h = ap (λ k. files_declared 0 (take k ts)) (let e : i + 1 ≡ suc i = omega arith in e) ∙ (files_next 0 ts i f h ∙ ap (λ k. files_declared 0 (take i ts) ++ file_declared k f) (let e : 0 + i ≡ i = omega arith in e))
