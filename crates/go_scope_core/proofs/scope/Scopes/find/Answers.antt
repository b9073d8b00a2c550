use Rattle.std.proofs.Common.{◌≡◌, None, Some, refl, sym, ap, ◌∙◌}
use Rattle.std.specs.Prelude.{option_copied}
use Rattle.go_block_core.specs.Blocks.{file_binding}
use Rattle.go_block_core.proofs.HoldingLaws.{never_hidden}
use Rattle.go_block_core.specs.scope_stack.Blocks.{found_in, in_block}
use Rattle.go_universe_core.specs.Universe.{found}
use Rattle.go_scope_core.specs.Scopes.{Universe, Package, File, Local, scope_blocks}
use Rattle.go_block_core.specs.scope_stack.Innermost.{meanings}
use Rattle.go_scope_core.proofs.Lookups.{found_by_parts, file_alone}
use Rattle.go_scope_core.proofs.scope.Scopes.find.Goals as goal

pub returns-in-Some : goal.returns-in-Some
returns-in-Some c =
    let s = c.args.self.now in
    let name = c.args.name.now in
    let b = c.self.inside.blocks.now in
    let value : Some (Local c.in-Some.id) ≡ found_in (scope_blocks s) name = found_by_parts b c.self.inside.file c.self.inside.open_blocks s name (Some c.in-Some.id) (file_binding b c.self.inside.file name) (in_block b.names name) (found name) c.self.view_is (sym c.in-Some.is ∙ c.find.ensures.value) refl refl refl in
    let m = meanings (Some (Local c.in-Some.id)) (scope_blocks s) name value in
    record { value = value; innermost = m.0; only = m.1; none = m.2 }

pub returns-in-Some-package : goal.returns-in-Some-package
returns-in-Some-package c =
    let s = c.args.self.now in
    let name = c.args.name.now in
    let b = c.self.inside.blocks.now in
    let decl = c.in-Some-package.decl in
    let declared = sym c.in-Some-package.is ∙ c.package.ensures in
    let value : Some (Package decl) ≡ found_in (scope_blocks s) name = found_by_parts b c.self.inside.file c.self.inside.open_blocks s name None None (Some decl) (found name) c.self.view_is (sym c.in_default.is ∙ c.find.ensures.value) (sym (never_hidden b c.self.inside.file name decl (sym declared))) declared refl in
    let m = meanings (Some (Package decl)) (scope_blocks s) name value in
    record { value = value; innermost = m.0; only = m.1; none = m.2 }

pub returns-in-Some-in_file : goal.returns-in-Some-in_file
returns-in-Some-in_file c =
    let s = c.args.self.now in
    let name = c.args.name.now in
    let b = c.self.inside.blocks.now in
    let binding = c.in-Some-in_file.binding.now in
    let absent = sym c.in_default-package.is ∙ c.package.ensures in
    let value : Some (File binding) ≡ found_in (scope_blocks s) name = found_by_parts b c.self.inside.file c.self.inside.open_blocks s name None (Some binding) None (found name) c.self.view_is (sym c.in_default.is ∙ c.find.ensures.value) (sym (ap option_copied c.in-Some-in_file.is) ∙ (c.in_file.ensures ∙ file_alone b c.self.inside.file name (sym absent))) absent refl in
    let m = meanings (Some (File binding)) (scope_blocks s) name value in
    record { value = value; innermost = m.0; only = m.1; none = m.2 }

pub returns-in-Some-find_predeclared : goal.returns-in-Some-find_predeclared
returns-in-Some-find_predeclared c =
    let s = c.args.self.now in
    let name = c.args.name.now in
    let b = c.self.inside.blocks.now in
    let p = c.in-Some-find_predeclared.predeclared in
    let absent = sym c.in_default-package.is ∙ c.package.ensures in
    let value : Some (Universe p) ≡ found_in (scope_blocks s) name = found_by_parts b c.self.inside.file c.self.inside.open_blocks s name None None None (Some p) c.self.view_is (sym c.in_default.is ∙ c.find.ensures.value) (sym (ap option_copied c.in_default-in_file.is) ∙ (c.in_file.ensures ∙ file_alone b c.self.inside.file name (sym absent))) absent (sym c.in-Some-find_predeclared.is ∙ c.find_predeclared.ensures) in
    let m = meanings (Some (Universe p)) (scope_blocks s) name value in
    record { value = value; innermost = m.0; only = m.1; none = m.2 }

pub returns-in-None : goal.returns-in-None
returns-in-None c =
    let s = c.args.self.now in
    let name = c.args.name.now in
    let b = c.self.inside.blocks.now in
    let absent = sym c.in_default-package.is ∙ c.package.ensures in
    let value : None ≡ found_in (scope_blocks s) name = found_by_parts b c.self.inside.file c.self.inside.open_blocks s name None None None None c.self.view_is (sym c.in_default.is ∙ c.find.ensures.value) (sym (ap option_copied c.in_default-in_file.is) ∙ (c.in_file.ensures ∙ file_alone b c.self.inside.file name (sym absent))) absent (sym c.in-None.is ∙ c.find_predeclared.ensures) in
    let m = meanings None (scope_blocks s) name value in
    record { value = value; innermost = m.0; only = m.1; none = m.2 }
